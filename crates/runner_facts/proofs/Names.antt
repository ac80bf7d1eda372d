-- A section that the last reading names stays in its descriptor as long as the runner is sure of that descriptor.
use Rattle.std.specs.Prelude.{◌==◌, ◌||◌, ◌&&◌, ◌-◌, not, nat_lt, nat_le, slice_get, Bool, true, false, if◌then◌else◌}
use Rattle.std.proofs.Common.{◌⊎◌, inl, inr, ◌≡◌, ℕ, suc, ◌<◌, List, [], ◌∷◌, ◌++◌, length, length-append, ⊎_elim, sym, refl, ap, ◌∙◌, subst, arith, Option, Some, None}
use Rattle.std.proofs.lemmas.Bool.Decides.{nat_tests}
use Rattle.section_lines.specs.small_lemmas.proofs.Bools.{not_true as not_has}
use Rattle.machine_states.specs.map_history.specs.declared.op.Request.{Request}
use Rattle.machine_states.specs.body_terms.specs.Line.{is_end, line, micro_at}
use Rattle.machine_states.specs.body_terms.specs.Word.{value_of, held_word}
use Rattle.machine_states.specs.body_terms.specs.declared.micro.Micro.{Micro}
use Rattle.machine_states.specs.body_terms.specs.declared.micro.Micro.TheVariants.{NestedHold}
use Rattle.machine_states.specs.body_terms.specs.declared.thunk.Thunk.{Thunk}
use Rattle.machine_states.specs.table_words.specs.declared.layout.Layout.{Layout}
use Rattle.machine_states.specs.table_words.specs.declared.spot.Spot.{Spot}
use Rattle.machine_states.specs.table_words.specs.declared.spot.Spot.TheVariants as spots
use Rattle.machine_states.specs.table_words.specs.declared.access.Access.{Access}
use Rattle.machine_states.specs.table_words.specs.Access.{written}
use Rattle.machine_states.specs.table_words.specs.Limits.{IsWithinLimits}
use Rattle.machine_states.specs.table_words.specs.Places.{slot_count, descriptor_count}
use Rattle.machine_states.specs.table_words.specs.Seen.{put}
use Rattle.machine_states.specs.structure_laws.specs.Meaning.{Meaning}
use Rattle.machine_states.specs.structure_laws.specs.Laws.{Laws}
use Rattle.machine_states.specs.epoch_core.specs.Moves.{is_clear}
use Rattle.machine_states.specs.runner_parts.specs.declared.entries.Published.{Published}
use Rattle.machine_states.specs.epoch_core.specs.declared.stage.Stage.{Stage}
use Rattle.machine_states.specs.epoch_core.specs.declared.stage.Stage.TheVariants as stages
use Rattle.machine_states.specs.runner_parts.specs.declared.event.EventKind.{EventKind}
use Rattle.machine_states.specs.runner_parts.specs.declared.event.EventKind.TheVariants as kinds
use Rattle.machine_states.specs.runner_parts.specs.State.{RunState, DescriptorsState, GuardsState, PartState}
use Rattle.machine_states.specs.runner_parts.specs.Lists.{descriptor_retired, descriptor_taken, published_seen, cell_read}
use Rattle.machine_states.specs.runner_parts.specs.Tests.{has, has_pair, is_some_of}
use Rattle.machine_states.specs.runner_steps.specs.Asks.{ask_by, outside_ask}
use Rattle.machine_states.specs.runner_steps.specs.After.{line_after, inside_after, outside_after, after_by}
use Rattle.machine_states.specs.runner_steps.specs.Outside.{is_sure_of, blocks_from}
use Rattle.machine_states.specs.runner_steps.specs.Sections.{is_open_run, next_of}
use Rattle.machine_states.specs.epoch_core.specs.State.{last_epoch}
use Rattle.machine_states.specs.runner_steps.specs.InRun.{last_clock}
use Rattle.machine_states.specs.runner_steps.specs.AfterInRun as inside
use Rattle.machine_states.specs.runner_steps.specs.AfterOutside as outside
use Rattle.machine_states.specs.epoch_core.specs.Lists.{in_free}
use Rattle.machine_states.specs.World.{World}
use Rattle.machine_states.specs.First.{IsFirst}
use Rattle.machine_states.specs.Reached.{Reached}
use Rattle.machine_states.specs.Sight.{Sight, sight, sight_after}
use Rattle.machine_states.proofs.FirstSights.{first_parts}
use Rattle.machine_states.proofs.Sights.{unless_gone, joins}
use Rattle.machine_facts.specs.machine_agreement.specs.machine_epochs.specs.Slots.{thunk_in}
use Rattle.machine_facts.specs.machine_agreement.specs.machine_epochs.proofs.FirstJoin as FirstJoin
use Rattle.machine_facts.specs.machine_agreement.specs.machine_epochs.proofs.Joining.{thunk_same}
use Rattle.machine_facts.specs.machine_agreement.specs.machine_epochs.proofs.OutsideAsked as outside_asked
use Rattle.machine_facts.specs.machine_agreement.specs.machine_epochs.proofs.Places.{has_times}
use Rattle.machine_facts.specs.machine_agreement.proofs.Releases.{get_more}
use Rattle.machine_facts.specs.machine_invariant.specs.machine_blocks.specs.machine_guards.proofs.Safe.{sure_kept}
use Rattle.machine_facts.specs.machine_invariant.specs.After.{AreAllowed}
use Rattle.machine_facts.specs.machine_invariant.specs.Whole.{Beside, IsWhole}
use Rattle.machine_facts.specs.machine_invariant.proofs.After.{reached_whole}
use Rattle.machine_facts.specs.machine_invariant.proofs.Basics.{not_both}
use Rattle.machine_facts.specs.machine_invariant.proofs.Sights.{thunks_after}
use Rattle.machine_facts.specs.machine_invariant.proofs.Thunks.{inside_leaves, outside_leaves, other_thunk}
use Rattle.machine_facts.specs.machine_invariant.proofs.Trails.{locks_name}
use Rattle.machine_facts.specs.machine_invariant.proofs.Keeping.{IsStep, reached_keeps}
use Rattle.next_steps.proofs.Parts.{each_part}
use Rattle.next_steps.proofs.Tests.{without_has}
use Rattle.runner_facts.specs.Names.{HasLock, HasReadLast, IsNamed, NamesStand}
use Rattle.machine_facts.specs.machine_agreement.proofs.Words.{block_same}

-- a list has its last pair
pub pair_last : (xs : List (ℕ × ℕ)) (a b : ℕ) → has_pair (xs ++ (a, b) ∷ []) a b ≡ true
pair_last [] a b = let e : ((a == a && b == b) || false) ≡ true = grind (arith, nat_tests) in e
pair_last (x ∷ xs) a b = either (x.0 == a && x.1 == b) (pair_last xs a b)
  where
    either : (p : Bool) {q : Bool} → q ≡ true → (p || q) ≡ true
    either true e = refl
    either false e = e

-- a descriptor that a run's end retires is in limbo, and no other list is changed
retired_free : (ds : DescriptorsState) (o : Option Published) (d : ℕ) → (inside.retired_if ds o d).free ≡ ds.free
retired_free ds None d = refl
retired_free ds (Some x) d = by (x.descriptor == d)
  where
    by : (b : Bool) → (if b then descriptor_retired ds d else ds).free ≡ ds.free
    by true = refl
    by false = refl

-- a word that was read last is the one of the last reading
read_last : (p p' : PartState) (place found : ℕ) → p'.reads.walk ≡ p.reads.walk ++ (place, found) ∷ [] → (a w : ℕ) → HasReadLast p' a w
    → (place ≡ a) × (found ≡ w)
read_last p p' place found more a w read = ⊎_elim
    (λ before. absurd (
    let long = ap length (sym more) ∙ read.last in
    let sum = length-append p.reads.walk ((place, found) ∷ []) in
    let low = before.0 in omega (arith, long, sum, low)))
    (λ now. (ap (λ (x : ℕ × ℕ). x.0) now.1, ap (λ (x : ℕ × ℕ). x.1) now.1))
    (get_more p.reads.walk (place, found) (a, w) read.at (ap (λ (xs : List (ℕ × ℕ)). slice_get xs read.at) (sym more) ∙ read.here))

-- where it has seen a descriptor published, a runner is sure of it, or was of what its guard word names
pub seen_sure : (g : GuardsState) (d0 d : ℕ) → is_sure_of (published_seen g d0) d ≡ true → (is_sure_of g d ≡ true) ⊎ (d0 ≡ d)
seen_sure g d0 d e = by g.sure g.named e
  where
    same : (n a b : ℕ) → ((n == a) && (n == b)) ≡ true → a ≡ b
    same n a b e = grind (arith, nat_tests)

    by : (sure : Bool) (o : Option ℕ) → ((sure || is_some_of o d0) && is_some_of o d) ≡ true → ((sure && is_some_of o d) ≡ true) ⊎ (d0 ≡ d)
    by true o e = inl e
    by false None e = inl e
    by false (Some n) e = inr (same n d0 d e)

-- what a step leaves of the last reading, and of what the runner is sure
module _ (m : Meaning) (l : Layout) (p : PartState) (found : ℕ) (x : Spot × Access) where
  -- the step read this word in this cell
  abbrev IsNew : ℕ → ℕ → Type 0
  IsNew place word = (x.0 ≡ spots.Cell place) × (word ≡ found)

  -- an own free descriptor, of an entered runner
  abbrev IsOwn : ℕ → Type 0
  IsOwn d = ((entry : ℕ) × (p.stage ≡ stages.Entered entry)) × (has p.descriptors.free d ≡ true)

  record Looks (p' : PartState) : Type 0 where
    sure : (place word d : ℕ) → HasReadLast p' place word → is_sure_of p'.guards d ≡ true
        → IsNew place word ⊎ (HasReadLast p place word × ((is_sure_of p.guards d ≡ true) ⊎ IsOwn d))
    own : (entry place word d : ℕ) → p'.stage ≡ stages.Entered entry → HasReadLast p' place word → has p'.descriptors.free d ≡ true
        → (has p.descriptors.free d ≡ true) × (IsNew place word ⊎ (HasReadLast p place word × (p.stage ≡ stages.Entered entry)))

  read_before : (p' : PartState) → p'.reads.walk ≡ p.reads.walk → (place word : ℕ) → HasReadLast p' place word → HasReadLast p place word
  read_before p' walk place word read = record {
    at = read.at;
    here = ap (λ (xs : List (ℕ × ℕ)). slice_get xs read.at) (sym walk) ∙ read.here;
    last = ap length (sym walk) ∙ read.last;
  }

  -- nothing of this is changed
  same : (p' : PartState) → p'.stage ≡ p.stage → p'.guards ≡ p.guards → p'.reads.walk ≡ p.reads.walk → p'.descriptors.free ≡ p.descriptors.free → Looks p'
  same p' stage guards walk free = record {
    sure = λ place word d read e. inr (read_before p' walk place word read, inl (ap (λ (g : GuardsState). is_sure_of g d) (sym guards) ∙ e));
    own = λ entry place word d at read has_it. (ap (λ (xs : List ℕ). has xs d) (sym free) ∙ has_it, inr (read_before p' walk place word read, sym stage ∙ at));
  }

  -- the runner isn't entered behind the step
  away : (p' : PartState) → ((entry : ℕ) → p'.stage ≡ stages.Entered entry → ⊥) → ((d : ℕ) → is_sure_of p'.guards d ≡ is_sure_of p.guards d)
      → p'.reads.walk ≡ p.reads.walk → Looks p'
  away p' never guards walk = record {
    sure = λ place word d read e. inr (read_before p' walk place word read, inl (sym (guards d) ∙ e));
    own = λ entry place word d at read has_it. absurd (never entry at);
  }

  either : (b : Bool) (y z : PartState) → Looks y → Looks z → Looks (if b then y else z)
  either true y z one two = one
  either false y z one two = two

  unchanged : Looks p
  unchanged = same p refl refl refl refl

  module _ (q : RunState) where
    fill_looks : (slot : ℕ) (made : Option ℕ) → Looks (inside.fill_loaded m l slot p q made found)
    fill_looks slot None = same _ refl refl refl refl
    fill_looks slot (Some t) = same _ refl refl refl refl

    make_looks : (made : Option ℕ) → Looks (inside.make_committed m l p q made found)
    make_looks None = unchanged
    make_looks (Some t) = same _ refl refl refl refl

    line_looks : (kind : EventKind) (micro : Micro) → Looks (line_after m l kind p q micro found)
    line_looks kinds.Commit micro = same _ refl refl refl refl
    line_looks (kinds.LoadCell place) micro = same _ refl refl refl refl
    line_looks kinds.ExchangeCell micro = same _ refl refl refl refl
    line_looks (kinds.PrivateLoad slot word) micro = fill_looks slot q.made
    line_looks (kinds.PrivateStore slot word number) micro = same _ refl refl refl refl
    line_looks (kinds.LinkCommit b) micro = same _ refl refl refl refl
    line_looks kinds.MakeCommit micro = make_looks q.made
    line_looks kinds.RetireCommit micro = same _ refl refl refl refl
    line_looks kinds.EpochForRetire micro = same _ refl refl refl refl
    line_looks kinds.SetDone micro = same _ refl refl refl refl
    line_looks kinds.Release micro = either (is_end (next_of m (inside.ended_more q))) _ _
        (same _ refl refl refl (retired_free p.descriptors p.published q.descriptor)) (same _ refl refl refl refl)
    line_looks kinds.ClockLoad micro = same _ refl refl refl refl
    line_looks kinds.StampExchange micro = either (nat_lt q.word last_clock) _ _ (same _ refl refl refl refl) unchanged
    line_looks kinds.ClockRaise micro = same _ refl refl refl refl
    line_looks kinds.ReplyExchange micro = same _ refl refl refl refl
    line_looks kinds.NestedLoad micro = same _ refl refl refl refl
    line_looks kinds.NestedHold micro = same _ refl refl refl refl
    line_looks kinds.OutcomeLoad micro = same _ refl refl refl refl
    line_looks kinds.OutcomeCommit micro = same _ refl refl refl refl
    line_looks _ micro = unchanged

    inside_looks : (kind : EventKind) → Looks (inside_after m l kind p q found)
    inside_looks kind = either (is_open_run q) _ _ (line_looks kind (next_of m q)) (same _ refl refl refl refl)

  -- a step outside a run
  scan_looks : (stage : Stage) → Looks (outside.scan_one_after l p stage found)
  scan_looks (stages.Scanning y next clear) = either (nat_le next l.runners) _ _
      (either (next == l.runners && not ((clear && is_clear y found) && nat_lt y last_epoch)) _ _
      (away _ (λ g e. let z = e in cc) (λ d. refl) refl) (away _ (λ g e. let z = e in cc) (λ d. refl) refl)) unchanged
  scan_looks _ = unchanged

  advance_looks : (stage : Stage) → Looks (outside.advance_after p stage)
  advance_looks (stages.Scanning y next clear) = either (nat_lt y last_epoch) _ _ (away _ (λ g e. let z = e in cc) (λ d. refl) refl) unchanged
  advance_looks _ = unchanged

  read_looks : (place : ℕ) → x.0 ≡ spots.Cell place → Looks (outside.read_after m place p found)
  read_looks place is = record {
    sure = λ a w d read e. inl (new a w read);
    own = λ entry a w d at read has_it. (has_it, inl (new a w read));
  }
    where
      new : (a w : ℕ) → HasReadLast (outside.read_after m place p found) a w → IsNew a w
      new a w read = let same_pair = read_last p (outside.read_after m place p found) place found refl a w read in
          (is ∙ ap (λ n. spots.Cell n) same_pair.0, sym same_pair.1)

  -- a publication is one of an own free descriptor
  hold_looks : (t : Thunk) (d0 : ℕ) → IsOwn d0 → Looks (outside.hold_after t d0 p found)
  hold_looks t d0 own = either (found == t.word) _ _ (record {
    sure = λ place word d read e. inr (
      read_before outside_held refl place word read,
      ⊎_elim (λ was. inl was) (λ here. inr (own.0, ap (has p.descriptors.free) (sym here) ∙ own.1)) (seen_sure p.guards d0 d e),
    );
    own = λ entry place word d at read has_it. ((without_has p.descriptors.free d0 d has_it).0, inr (read_before outside_held refl place word read, at));
  }) (same _ refl refl refl refl)
    where
      outside_held : PartState
      outside_held = record p {
        published = Some (outside.published_by t d0 p);
        descriptors = descriptor_taken p.descriptors d0;
        guards = published_seen p.guards d0;
        reads = cell_read p.reads t.lock found;
      }

  outside_looks : (rs : List Request) (r : ℕ) (kind : EventKind) → outside_ask m l rs r kind p ≡ Some x → Looks (outside_after m l kind p found)
  outside_looks rs r kinds.EnterLoad e = away _ (λ g e. let z = e in cc) (λ d. refl) refl
  outside_looks rs r kinds.Announce e = away _ (λ g e. let z = e in cc) (λ d. refl) refl
  outside_looks rs r kinds.EnterAgain e = record {
    sure = λ place word d read s. absurd (let z = read.here in cc);
    own = λ entry place word d at read has_it. absurd (let z = read.here in cc);
  }
  outside_looks rs r kinds.Idle e = away _ (λ g e. let z = e in cc) (λ d. refl) refl
  outside_looks rs r kinds.ScanEpoch e = away _ (λ g e. let z = e in cc) (λ d. refl) refl
  outside_looks rs r (kinds.ScanOne n) e = scan_looks p.stage
  outside_looks rs r kinds.Advance e = advance_looks p.stage
  outside_looks rs r kinds.Split e = either (nat_lt p.records.splits l.runners) _ _ (same _ refl refl refl refl) unchanged
  outside_looks rs r (kinds.Join worker) e = same _ refl refl refl refl
  outside_looks rs r (kinds.LoadCell (Some place)) e = read_looks place (ap (λ (y : Spot × Access). y.0) (sym (outside_asked.read_asked m place p x e).2))
  outside_looks rs r (kinds.LoadEntry request reply) e = same _ refl refl refl refl
  outside_looks rs r (kinds.PrivateLoad slot word) e = either (nat_lt slot (slot_count l m.fixed_slots)) _ _ (same _ refl refl refl refl)
      (same _ refl refl refl refl)
  outside_looks rs r (kinds.PrivateStore slot word number) e = same _ refl refl refl refl
  outside_looks rs r (kinds.Hold t d) e = let h = outside_asked.hold_asked m l rs r t d p x e in hold_looks t d ((h.entry, h.entered), h.free)
  outside_looks rs r (kinds.LoadThunk (Some d)) e = same _ refl refl refl refl
  outside_looks rs r (kinds.Guard d) e = record {
    sure = λ place word d read s. absurd (let z = s in cc);
    own = λ entry place word d at read has_it. (has_it, inr (read_before _ refl place word read, at));
  }
  outside_looks rs r (kinds.LoadGuard n) e = let h = outside_asked.load_guard_asked l n p x e in
      away _ (λ g at. let idle = sym h.idle ∙ at in cc) (λ d. refl) refl
  outside_looks rs r _ e = same _ refl refl refl refl

-- in a state that meets the whole invariant a lock names a section that is in its descriptor and not retired
module _ (m : Meaning) (l : Layout) (b : Beside) (s : Sight) (whole : IsWhole m l b s) (place d : ℕ) (lock : m.is_lock place ≡ true)
    (names : value_of (s.word (spots.Cell place)) ≡ suc d) where
  live : b.agreement.live d ≡ true
  live = whole.sections.sound.named place d lock (ap value_of (whole.sections.words.cells place) ∙ names)

  few : d < descriptor_count l
  few = whole.tied.within d (whole.sections.sound.live_used d live)

  pub named_lock : HasLock m s.word d place (s.word (spots.Cell place))
  named_lock = (locks_name m l b.agreement s whole.sections
      (λ d live. let h = whole.tied.publisher d live in (b.publications.runner d, h.0, h.1, h.2))).held place d lock names

  pub named_unfree : (i : ℕ) → has (s.part i).descriptors.free d ≡ false
  named_unfree i = not_has (has (s.part i).descriptors.free d) (λ h.
      let some = has_times (s.part i).descriptors.free d h in
      let none = whole.slots.listed.free_descriptors i d few ∙ ap (in_free i) (whole.tied.live d live) in omega arith)

-- of whose descriptor a runner is sure, that one is in nobody's free list
pub sure_unfree : (m : Meaning) (l : Layout) (b : Beside) (s : Sight) → IsWhole m l b s → (r d : ℕ) → is_sure_of (s.part r).guards d ≡ true
    → (i : ℕ) → has (s.part i).descriptors.free d ≡ false
sure_unfree m l b s whole r d sure i = not_has (has (s.part i).descriptors.free d) (λ h.
    let some = has_times (s.part i).descriptors.free d h in
    let none = sure_kept m l whole.logs.chain b.agreement b.epochs s whole.slots whole.logs.guards r i d sure in omega arith)

-- what holds of the last readings, of sure runners and of entered ones
record AllSay (m : Meaning) (s : Sight) : Type 0 where
  lock : (r place word d : ℕ) → IsNamed m s r place word d → HasLock m s.word d place word
  own : (r entry place word d : ℕ) → (s.part r).stage ≡ stages.Entered entry → HasReadLast (s.part r) place word → m.is_lock place ≡ true
      → value_of word ≡ suc d → has (s.part r).descriptors.free d ≡ false

module _ (m : Meaning) (laws : Laws m) (l : Layout) (limits : IsWithinLimits l) (rs : List Request) (s s' : Sight) (r : ℕ) (kind : EventKind)
    (st : IsStep m l rs s s' r kind) where
  abbrev p : PartState
  p = s.part r

  abbrev x : Spot × Access
  x = st.step.ask

  abbrev found : ℕ
  found = s.word x.0

  pub asks_by : ask_by m l rs r kind p p.run ≡ Some x
  asks_by = (unless_gone _ p.gone _ x st.step.asked).1

  -- a thunk stands in each descriptor that isn't in the runner's free list
  thunk_by : (k : EventKind) (o : Option RunState) → ask_by m l rs r k p o ≡ Some x → (d : ℕ) → has p.descriptors.free d ≡ false
      → thunk_in (sight_after m l s r k x).word d ≡ thunk_in s.word d
  thunk_by (kinds.PrivateStore slot word number) None e d unfree =
      thunk_same (put s.word x.0 (written x.1 (s.word x.0))) s.word d (λ j.
      let is = λ (y : Spot × Access). put s.word y.0 (written y.1 (s.word y.0)) (spots.ThunkWord d j) ≡ s.word (spots.ThunkWord d j) in
      ⊎_elim
      (λ own. subst is own.2
      (other_thunk s.word (slot - slot_count l m.fixed_slots) word number d j (λ here. not_both (ap (has p.descriptors.free) here ∙ own.1) unfree)))
      (λ block. subst is block.1 ((block_same s.word number (slot - blocks_from m l) word).thunks d j))
      (outside_asked.private_store_cases m l slot word number p x e))
  thunk_by k None e d unfree = thunks_after m l s r k x (outside_leaves m l rs r p x k refl e) d
  thunk_by k (Some q) e d unfree = thunks_after m l s r k x (inside_leaves m l q x k p.nodes.free p.blocks.free e) d

  pub thunk_stays : (d : ℕ) → has p.descriptors.free d ≡ false → thunk_in s'.word d ≡ thunk_in s.word d
  thunk_stays d unfree = ap (λ (y : Sight). thunk_in y.word d) st.step.next ∙ thunk_by kind p.run asks_by d unfree

  -- so its locks are the same
  pub lock_stays : (d place held : ℕ) → has p.descriptors.free d ≡ false → HasLock m s.word d place held → HasLock m s'.word d place held
  lock_stays d place held unfree has_lock = subst (λ (t : Thunk). ((place ≡ t.lock) × (held ≡ held_word d t.word))
      ⊎ ((i free : ℕ) × (micro_at (line (m.body t)) i ≡ NestedHold place free) × (held ≡ held_word d free)))
      (sym (thunk_stays d unfree)) has_lock

  own_looks : (o : Option RunState) → ask_by m l rs r kind p o ≡ Some x → Looks m l p found x (after_by m l kind p o found)
  own_looks None e = outside_looks m l p found x rs r kind e
  own_looks (Some q) e = inside_looks m l p found x q kind

  looks_after : (i : ℕ) → Looks m l (s.part i) found x (s'.part i)
  looks_after i = subst (λ (y : Sight). Looks m l (s.part i) found x (y.part i)) (sym st.step.next)
      (each_part m l s r x (λ k p'. Looks m l (s.part k) found x p') (λ k p' blocks board records gone h. record { sure = λ place word d read e. h.sure place word d (record { at = read.at; here = read.here; last = read.last }) e; own = λ entry place word d at read has_it. h.own entry place word d at (record { at = read.at; here = read.here; last = read.last }) has_it }) kind
      (joins m l rs kind r p x st.step.asked) (own_looks p.run asks_by) (λ k ne. unchanged m l (s.part k) found x) i)

  all_say : AllSay m s → AllSay m s'
  all_say old = record {
    lock = λ i place word d named. ⊎_elim
        (λ new. lock_stays d place word (now place word d new named.lock named.names r) (here place word d new named.lock named.names))
        (λ was. ⊎_elim
        (λ sure. lock_stays d place word (sure_unfree m l st.beside s st.whole i d sure r)
        (old.lock i place word d (record { read = was.0; lock = named.lock; names = named.names; sure = sure })))
        (λ mine. absurd (not_both mine.1 (old.own i mine.0.0 place word d mine.0.1 was.0 named.lock named.names))) was.1)
        ((looks_after i).sure place word d named.read named.sure);
    own = λ i entry place word d at read lock names. not_has (has (s'.part i).descriptors.free d) (λ h.
        let before = (looks_after i).own entry place word d at read h in
        ⊎_elim
        (λ new. not_both before.0 (now place word d new lock names i))
        (λ was. not_both before.0 (old.own i entry place word d was.1 was.0 lock names)) before.1);
  }
    where
      -- a word that the step read
      is : (place word : ℕ) → (x.0 ≡ spots.Cell place) × (word ≡ found) → word ≡ s.word (spots.Cell place)
      is place word new = new.1 ∙ ap s.word new.0

      now : (place word d : ℕ) → (x.0 ≡ spots.Cell place) × (word ≡ found) → m.is_lock place ≡ true → value_of word ≡ suc d
          → (i : ℕ) → has (s.part i).descriptors.free d ≡ false
      now place word d new lock names = named_unfree m l st.beside s st.whole place d lock (ap value_of (sym (is place word new)) ∙ names)

      here : (place word d : ℕ) → (x.0 ≡ spots.Cell place) × (word ≡ found) → m.is_lock place ≡ true → value_of word ≡ suc d
          → HasLock m s.word d place word
      here place word d new lock names = subst (HasLock m s.word d place) (sym (is place word new))
          (named_lock m l st.beside s st.whole place d lock (ap value_of (sym (is place word new)) ∙ names))

pub reached_names : (m : Meaning) → Laws m → (l : Layout) → IsWithinLimits l → (rs : List Request) → AreAllowed rs → (w : World)
    → Reached m l rs w → NamesStand m (sight m l rs w)
reached_names m laws l limits rs allowed w reached =
    let whole = reached_whole m laws l rs reached.events w limits allowed reached.after in
    let all : AllSay m (sight m l rs w) = reached_keeps m laws l limits rs allowed (AllSay m)
    (λ v start. record {
      lock = λ r place word d named. absurd (none v start r place word named.read);
      own = λ r entry place word d at read. absurd (none v start r place word read);
    })
    (λ s s' r kind st old. all_say m laws l limits rs s s' r kind st old) w reached in
    record {
      lock = all.lock;
      unfree = sure_unfree m l whole.0 (sight m l rs w) whole.1;
    }
  where
    none : (v : World) → IsFirst m l rs v → (r place word : ℕ) → HasReadLast ((sight m l rs v).part r) place word → ⊥
    none v start r place word read =
        let empty = subst (λ (p : PartState). p.reads.walk ≡ []) (sym (first_parts m l v.parts start.parts r))
        (FirstJoin.each_part m l (λ p. p.reads.walk ≡ []) refl (λ k. refl) refl r) in
        let z = ap (λ (xs : List (ℕ × ℕ)). slice_get xs read.at) (sym empty) ∙ read.here in cc
