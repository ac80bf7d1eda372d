-- A step that changes none of a runner's blocks leaves what its code keeps of them.
use Rattle.std.proofs.Common.{◌≡◌, ℕ, ◌*◌, ◌≤◌, List, length, length-append, [], ◌∷◌, ◌++◌, Bool, true, false, refl, sym, ap, subst, ◌∙◌, arith, Option, Some, None, if◌then◌else◌}
use Rattle.std.specs.Prelude.{◌==◌, ◌&&◌, ◌+◌, nat_lt, nat_le, not}
use Rattle.std.proofs.lemmas.Option.{none-some}
use Rattle.machine_states.specs.epoch_core.specs.small_lemmas.proofs.Bools.{false_not_true as false_true}
use Rattle.machine_states.specs.table_words.specs.declared.layout.Layout.{Layout}
use Rattle.machine_states.specs.table_words.specs.declared.spot.Spot.{Spot}
use Rattle.machine_states.specs.table_words.specs.declared.access.Access.{Access}
use Rattle.machine_states.specs.table_words.specs.Places.{slot_count, part_words}
use Rattle.machine_states.specs.structure_laws.specs.Meaning.{Meaning}
use Rattle.machine_states.specs.body_terms.specs.declared.micro.Micro.{Micro}
use Rattle.machine_states.specs.body_terms.specs.Run.{written_once}
use Rattle.machine_states.specs.epoch_core.specs.Moves.{is_clear}
use Rattle.machine_states.specs.epoch_core.specs.State.{last_epoch}
use Rattle.machine_states.specs.epoch_core.specs.declared.stage.Stage.{Stage}
use Rattle.machine_states.specs.epoch_core.specs.declared.stage.Stage.TheVariants as stages
use Rattle.machine_states.specs.runner_parts.specs.declared.event.EventKind.{EventKind}
use Rattle.machine_states.specs.runner_parts.specs.declared.event.EventKind.TheVariants as kinds
use Rattle.machine_states.specs.runner_parts.specs.State.{RunState, PartState}
use Rattle.machine_states.specs.runner_parts.specs.Lists.{learned, nodes_looked}
use Rattle.machine_states.specs.runner_steps.specs.Sections.{is_open_run, next_of, thunk_of}
use Rattle.machine_states.specs.runner_steps.specs.InRun.{stamp_after, last_clock, last_of}
use Rattle.machine_states.specs.runner_steps.specs.AfterOutside.{with_stage, collected, scanned, scan_one_after, advance_after, opened, descriptor_known}
use Rattle.machine_states.specs.runner_steps.specs.AfterInRun.{opened_more, goes_on, agrees, ended_more, fill_loaded, make_committed, retired_slot_of}
use Rattle.machine_states.specs.runner_steps.specs.After.{outside_after, line_after, after_by, after}
use Rattle.machine_states.specs.runner_steps.specs.Blocks.{blocks_outside, blocks_in_line, blocks_after}
use Rattle.machine_states.proofs.Steps.{some_same}
use Rattle.runner_block.specs.Kept.{KeptState}
use Rattle.runner_block.specs.Links.{LinksKept, BlocksKept, no_links}
use Rattle.version_words.specs.Place.{AreLinks, HasLinks}
use Rattle.version_words.specs.Kept.{KeepsBlocks}

-- the kinds of step that leave the blocks, what the guard word names, and which blocks a run has
abbrev pub leaves_blocks : EventKind → Bool
leaves_blocks (kinds.LoadCell (Some place)) = false
leaves_blocks (kinds.Hold thunk d) = false
leaves_blocks (kinds.Guard d) = false
leaves_blocks (kinds.LoadGuard n) = false
leaves_blocks (kinds.PrivateStore slot word number) = false
leaves_blocks (kinds.LinkCommit b) = false
leaves_blocks kinds.Release = false
leaves_blocks _ = true

either : {A : Type 0} (b : Bool) (x y z : A) → x ≡ z → y ≡ z → (if b then x else y) ≡ z
either true x y z e e' = e
either false x y z e e' = e'

-- the blocks stay
module _ (m : Meaning) (l : Layout) (p : PartState) (found : ℕ) where
  outside_blocks : (k : EventKind) → leaves_blocks k ≡ true → blocks_outside m l k p found ≡ p.blocks
  outside_blocks (kinds.LoadCell (Some place)) e = absurd (false_true e)
  outside_blocks (kinds.LoadCell None) e = refl
  outside_blocks (kinds.Hold thunk d) e = absurd (false_true e)
  outside_blocks (kinds.LoadGuard n) e = absurd (false_true e)
  outside_blocks _ e = refl

  line_blocks : (k : EventKind) (q : RunState) (micro : Micro) → leaves_blocks k ≡ true → blocks_in_line m l k p.blocks q micro found ≡ p.blocks
  line_blocks (kinds.PrivateStore slot word number) q micro e = absurd (false_true e)
  line_blocks (kinds.LinkCommit b) q micro e = absurd (false_true e)
  line_blocks kinds.Release q micro e = absurd (false_true e)
  line_blocks _ q micro e = refl

  pub blocks_stay : (k : EventKind) (o : Option RunState) → leaves_blocks k ≡ true → blocks_after m l k p o found ≡ p.blocks
  blocks_stay k None e = outside_blocks k e
  blocks_stay k (Some q) e = either (is_open_run q) (blocks_in_line m l k p.blocks q (next_of m q) found) p.blocks p.blocks (line_blocks k q (next_of m q) e) refl

-- what the guard word names stays
abbrev pub named : PartState → Option ℕ
named p = p.guards.named

named_if : (b : Bool) (p p' : PartState) (o : Option ℕ) → named p ≡ o → named p' ≡ o → named (if b then p else p') ≡ o
named_if true p p' o e e' = e
named_if false p p' o e e' = e'

named_scan : (l : Layout) (p : PartState) (stage : Stage) (found : ℕ) → named (scan_one_after l p stage found) ≡ named p
named_scan l p (stages.Scanning x next clear) found =
    let still = clear && is_clear x found in
    named_if (nat_le next l.runners) (scanned l p x next still) p (named p)
    (named_if (next == l.runners && not (still && nat_lt x last_epoch)) (collected p x) (with_stage p (stages.Scanning x (next + 1) still)) (named p) refl refl) refl
named_scan l p _ found = refl

named_advance : (p : PartState) (stage : Stage) → named (advance_after p stage) ≡ named p
named_advance p (stages.Scanning x next clear) = named_if (nat_lt x last_epoch) (collected p (x + 1)) p (named p) refl refl
named_advance p _ = refl

module _ (m : Meaning) (l : Layout) (p : PartState) (found : ℕ) where
  outside_named : (k : EventKind) → leaves_blocks k ≡ true → named (outside_after m l k p found) ≡ named p
  outside_named (kinds.ScanOne n) e = named_scan l p p.stage found
  outside_named kinds.Advance e = named_advance p p.stage
  outside_named kinds.Split e = named_if (nat_lt p.records.splits l.runners) (record p { records = record (p.records) { splits = p.records.splits + 1 } }) p (named p) refl refl
  outside_named (kinds.PrivateLoad slot word) e = named_if (nat_lt slot (slot_count l m.fixed_slots)) (record p { nodes = nodes_looked l p.nodes slot word found }) (descriptor_known m l slot word p found) (named p) refl refl
  outside_named (kinds.LoadCell (Some place)) e = absurd (false_true e)
  outside_named (kinds.LoadCell None) e = refl
  outside_named (kinds.LoadThunk (Some d)) e = refl
  outside_named (kinds.LoadThunk None) e = refl
  outside_named (kinds.Hold thunk d) e = absurd (false_true e)
  outside_named (kinds.Guard d) e = absurd (false_true e)
  outside_named (kinds.LoadGuard n) e = absurd (false_true e)
  outside_named _ e = refl

  -- a run in progress
  module _ (q : RunState) (micro : Micro) where
    fill_named : (slot : ℕ) (o : Option ℕ) → named (fill_loaded m l slot p q o found) ≡ named p
    fill_named slot None = refl
    fill_named slot (Some s) = refl

    made_named : (o : Option ℕ) → named (make_committed m l p q o found) ≡ named p
    made_named None = refl
    made_named (Some s) = refl

    line_named : (k : EventKind) → leaves_blocks k ≡ true → named (line_after m l k p q micro found) ≡ named p
    line_named (kinds.PrivateLoad slot word) e = fill_named slot q.made
    line_named kinds.MakeCommit e = made_named q.made
    line_named kinds.StampExchange e = let stamp = written_once found (stamp_after q.word) in let request = (thunk_of q.opened).request in
        named_if (nat_lt q.word last_clock) (record p { run = Some (goes_on m l q stamp); records = learned p.records request false stamp }) p (named p) refl refl
    line_named (kinds.PrivateStore slot word number) e = absurd (false_true e)
    line_named (kinds.LinkCommit b) e = absurd (false_true e)
    line_named kinds.Release e = absurd (false_true e)
    line_named _ e = refl

  pub named_stays : (k : EventKind) (o : Option RunState) → leaves_blocks k ≡ true → named (after_by m l k p o found) ≡ named p
  named_stays k None e = outside_named k e
  named_stays k (Some q) e = named_if (is_open_run q) (line_after m l k p q (next_of m q) found) (opened_more p q found) (named p) (line_named q (next_of m q) k e) refl

-- which blocks a run has, by another run that has the same, and has agreed on no more words
pub record SameLinks (q y : RunState) : Type 0 where
  pub links : y.links ≡ q.links
  pub block : y.block ≡ q.block
  pub emptied : y.emptied ≡ q.emptied
  pub won : y.won ≡ q.won
  pub more : length q.trail ≤ length y.trail

-- the agreed words stay, or there is one more
pub log_stays : (xs : List ℕ) → length xs ≤ length xs
log_stays xs = omega arith

pub log_grows : (xs : List ℕ) (x : ℕ) → length xs ≤ length (xs ++ x ∷ [])
log_grows xs x = let longer = length-append xs (x ∷ []) in omega (arith, longer)

pub links_on : (kept : LinksKept) (q y : RunState) → SameLinks q y → AreLinks kept q → AreLinks kept y
links_on kept q y same is = record {
  start = is.start ∙ ap (λ xs. part_words * length xs) (sym same.links);
  last = is.last ∙ ap last_of (sym same.links);
  block = is.block ∙ sym same.block;
  emptied = is.emptied ∙ sym same.emptied;
  won = is.won ∙ sym same.won;
  full = subst (λ (xs : List ℕ). part_words * length xs ≤ length y.trail) (sym same.links) (let was = is.full in let more = same.more in omega (arith, was, more));
}

-- a run in progress
pub run_links : (kept : LinksKept) (q : RunState) → AreLinks kept q → HasLinks kept (Some q)
run_links kept q is = record { of_run = λ y e. subst (AreLinks kept) (some_same q y e) is; outside = λ none. absurd (none-some q (sym none)) }

links_if : (kept : LinksKept) (b : Bool) (p p' : PartState) → HasLinks kept p.run → HasLinks kept p'.run → HasLinks kept (if b then p else p').run
links_if kept true p p' h h' = h
links_if kept false p p' h h' = h'

links_scan : (kept : LinksKept) (l : Layout) (p : PartState) (stage : Stage) (found : ℕ) → HasLinks kept p.run → HasLinks kept (scan_one_after l p stage found).run
links_scan kept l p (stages.Scanning x next clear) found h =
    let still = clear && is_clear x found in
    links_if kept (nat_le next l.runners) (scanned l p x next still) p
    (links_if kept (next == l.runners && not (still && nat_lt x last_epoch)) (collected p x) (with_stage p (stages.Scanning x (next + 1) still)) h h) h
links_scan kept l p _ found h = h

links_advance : (kept : LinksKept) (p : PartState) (stage : Stage) → HasLinks kept p.run → HasLinks kept (advance_after p stage).run
links_advance kept p (stages.Scanning x next clear) h = links_if kept (nat_lt x last_epoch) (collected p (x + 1)) p h h
links_advance kept p _ h = h

module _ (m : Meaning) (l : Layout) (p : PartState) (found : ℕ) (kept : LinksKept) where
  -- a run begins with no block
  begun : (d : ℕ) → kept ≡ no_links → HasLinks kept (Some (opened d found))
  begun d none = run_links kept (opened d found) (record {
    start = ap (λ (z : LinksKept). z.start) none;
    last = ap (λ (z : LinksKept). z.last) none;
    block = ap (λ (z : LinksKept). z.block) none;
    emptied = ap (λ (z : LinksKept). z.emptied) none;
    won = ap (λ (z : LinksKept). z.won) none;
    full = (let nothing : part_words * 0 ≤ 0 = omega arith in nothing);
  })

  outside_links : (k : EventKind) → leaves_blocks k ≡ true → p.run ≡ None → HasLinks kept p.run → HasLinks kept (outside_after m l k p found).run
  outside_links (kinds.ScanOne n) e none h = links_scan kept l p p.stage found h
  outside_links kinds.Advance e none h = links_advance kept p p.stage h
  outside_links kinds.Split e none h = links_if kept (nat_lt p.records.splits l.runners) (record p { records = record (p.records) { splits = p.records.splits + 1 } }) p h h
  outside_links (kinds.PrivateLoad slot word) e none h = links_if kept (nat_lt slot (slot_count l m.fixed_slots)) (record p { nodes = nodes_looked l p.nodes slot word found }) (descriptor_known m l slot word p found) h h
  outside_links (kinds.LoadCell (Some place)) e none h = absurd (false_true e)
  outside_links (kinds.LoadCell None) e none h = h
  outside_links (kinds.LoadThunk (Some d)) e none h = begun d (h.outside none)
  outside_links (kinds.LoadThunk None) e none h = h
  outside_links (kinds.Hold thunk d) e none h = absurd (false_true e)
  outside_links _ e none h = h

  module _ (q : RunState) (there : p.run ≡ Some q) (is : AreLinks kept q) where
    goes : (y : RunState) → SameLinks q y → HasLinks kept (Some y)
    goes y same = run_links kept y (links_on kept q y same is)

    stands : HasLinks kept p.run
    stands = subst (HasLinks kept) (sym there) (run_links kept q is)

    fill_links : (slot : ℕ) (o : Option ℕ) → HasLinks kept (fill_loaded m l slot p q o found).run
    fill_links slot None = goes (goes_on m l (record q { made = Some slot; worn = false }) found) (record { links = refl; block = refl; emptied = refl; won = refl; more = log_stays q.trail })
    fill_links slot (Some s) = goes (goes_on m l q found) (record { links = refl; block = refl; emptied = refl; won = refl; more = log_stays q.trail })

    made_links : (o : Option ℕ) → HasLinks kept (make_committed m l p q o found).run
    made_links None = stands
    made_links (Some s) = goes (agrees m l (record q { made = None; worn = false }) (written_once found (s + 1))) (record { links = refl; block = refl; emptied = refl; won = refl; more = log_grows q.trail (written_once found (s + 1)) })

    on : (word : ℕ) → HasLinks kept (Some (goes_on m l q word))
    on word = goes (goes_on m l q word) (record { links = refl; block = refl; emptied = refl; won = refl; more = log_stays q.trail })

    agreed : (word : ℕ) → HasLinks kept (Some (agrees m l q word))
    agreed word = goes (agrees m l q word) (record { links = refl; block = refl; emptied = refl; won = refl; more = log_grows q.trail word })

    line_links : (k : EventKind) (micro : Micro) → leaves_blocks k ≡ true → HasLinks kept (line_after m l k p q micro found).run
    line_links kinds.Commit micro e = agreed (written_once found q.word)
    line_links (kinds.LoadCell o) micro e = on found
    line_links kinds.ExchangeCell micro e = on q.word
    line_links (kinds.PrivateLoad slot word) micro e = fill_links slot q.made
    line_links (kinds.PrivateStore slot word number) micro e = absurd (false_true e)
    line_links (kinds.LinkCommit b) micro e = absurd (false_true e)
    line_links kinds.MakeCommit micro e = made_links q.made
    line_links kinds.RetireCommit micro e = agreed (written_once found (retired_slot_of micro + 1))
    line_links kinds.EpochForRetire micro e = on found
    line_links kinds.SetDone micro e = goes (ended_more q) (record { links = refl; block = refl; emptied = refl; won = refl; more = log_stays q.trail })
    line_links kinds.Release micro e = absurd (false_true e)
    line_links kinds.ClockLoad micro e = on found
    line_links kinds.StampExchange micro e = let stamp = written_once found (stamp_after q.word) in let request = (thunk_of q.opened).request in
        links_if kept (nat_lt q.word last_clock) (record p { run = Some (goes_on m l q stamp); records = learned p.records request false stamp }) p (on stamp) stands
    line_links kinds.ClockRaise micro e = on q.word
    line_links kinds.ReplyExchange micro e = on q.word
    line_links kinds.NestedLoad micro e = on found
    line_links kinds.NestedHold micro e = on q.word
    line_links kinds.OutcomeLoad micro e = on found
    line_links kinds.OutcomeCommit micro e = agreed (written_once found q.word)
    line_links _ micro e = stands

  pub links_stay : (k : EventKind) (o : Option RunState) → p.run ≡ o → leaves_blocks k ≡ true → HasLinks kept p.run → HasLinks kept (after_by m l k p o found).run
  links_stay k None none e h = outside_links k e none h
  links_stay k (Some q) there e h =
      let is = h.of_run q there in
      links_if kept (is_open_run q) (line_after m l k p q (next_of m q) found) (opened_more p q found) (line_links q there is k (next_of m q) e)
      (goes q there is (record q { opened = q.opened ++ found ∷ [] }) (record { links = refl; block = refl; emptied = refl; won = refl; more = log_stays q.trail }))

-- what the code keeps of blocks stays
pub keeps_blocks : (m : Meaning) (l : Layout) (r : ℕ) (k : EventKind) (spot : Spot) (access : Access) (p : PartState) (found : ℕ) (kept : KeptState) → leaves_blocks k ≡ true → KeepsBlocks kept p
    → KeepsBlocks kept (after m l r k spot access p found)
keeps_blocks m l r k spot access p found kept e was = record {
  lists = was.lists ∙ sym (blocks_stay m l p found k p.run e);
  named = was.named ∙ sym (named_stays m l p found k p.run e);
  links = links_stay m l p found kept.blocks.links k p.run refl e was.links;
}

-- so do other lists with the same blocks
pub blocks_to : {kept lists : KeptState} {p : PartState} → kept.blocks ≡ lists.blocks → kept.named ≡ lists.named → KeepsBlocks kept p → KeepsBlocks lists p
blocks_to {kept} {lists} {p} blocks named h = record {
  lists = ap (λ (b : BlocksKept). b.lists) (sym blocks) ∙ h.lists;
  named = sym named ∙ h.named;
  links = subst (λ (b : BlocksKept). HasLinks b.links p.run) blocks h.links;
}
