-- What each step leaves of a runner's own node slots outside limbo, and of the section that it has published.
use Rattle.std.specs.Prelude.{◌==◌, ◌-◌, ◌&&◌, ◌⊎◌, not, nat_lt, nat_le, cond, Bool, true, false, if◌then◌else◌}
use Rattle.std.specs.List.{filter}
use Rattle.std.proofs.Common.{◌≡◌, ℕ, suc, ◌+◌, ◌≤◌, List, [], ◌∷◌, ◌++◌, length, length-append, refl, sym, ap, ◌∙◌, subst, inl, inr, arith, Option, Some, None}
use Rattle.std.proofs.lemmas.Bool.{and_parts}
use Rattle.std.proofs.lemmas.Bool.Decides.{nat_tests}
use Rattle.machine_states.specs.epoch_core.specs.small_lemmas.proofs.Numbers.{tested_equal as same_zero}
use Rattle.machine_states.specs.body_terms.specs.Line.{is_end}
use Rattle.machine_states.specs.body_terms.specs.Word.{value_of}
use Rattle.machine_states.specs.body_terms.specs.declared.micro.Micro.{Micro}
use Rattle.machine_states.specs.body_terms.specs.declared.thunk.Thunk.{Thunk}
use Rattle.machine_states.specs.table_words.specs.declared.layout.Layout.{Layout}
use Rattle.machine_states.specs.table_words.specs.Places.{slot_count}
use Rattle.machine_states.specs.structure_laws.specs.Meaning.{Meaning}
use Rattle.machine_states.specs.epoch_core.specs.Moves.{is_clear}
use Rattle.machine_states.specs.runner_parts.specs.declared.entries.Published.{Published}
use Rattle.machine_states.specs.runner_parts.specs.declared.entries.Tested.{Tested}
use Rattle.machine_states.specs.epoch_core.specs.declared.stage.Stage.{Stage}
use Rattle.machine_states.specs.epoch_core.specs.declared.stage.Stage.TheVariants as stages
use Rattle.machine_states.specs.runner_parts.specs.declared.event.EventKind.{EventKind}
use Rattle.machine_states.specs.runner_parts.specs.declared.event.EventKind.TheVariants as kinds
use Rattle.machine_states.specs.runner_parts.specs.State.{RunState, NodesState, RecordsState, PartState}
use Rattle.machine_states.specs.runner_parts.specs.Lists as lists
use Rattle.machine_states.specs.runner_parts.specs.Lists.{without, is_old, slots_of}
use Rattle.machine_states.specs.runner_parts.specs.Tests.{has}
use Rattle.machine_states.specs.runner_steps.specs.Sections.{is_open_run, next_of}
use Rattle.machine_states.specs.epoch_core.specs.State.{last_epoch}
use Rattle.machine_states.specs.runner_steps.specs.InRun.{last_clock}
use Rattle.machine_states.specs.runner_steps.specs.Board.{free_if}
use Rattle.machine_states.specs.runner_steps.specs.AfterInRun as inside
use Rattle.machine_states.specs.runner_steps.specs.AfterOutside as outside
use Rattle.machine_states.specs.runner_steps.specs.After.{line_after, inside_after, outside_after}
use Rattle.machine_states.specs.epoch_core.specs.Lists.{times}
use Rattle.machine_states.proofs.Steps.{some_same, none_some}
use Rattle.reached_histories.specs.machine_facts.specs.machine_invariant.specs.Slots.{times_among}
use Rattle.resource_bounds.specs.Makes.{slots_left}

-- a list without a number is shorter by as often as that stood in it
pub without_length : (xs : List ℕ) (d : ℕ) → length (without xs d) + times d xs ≡ length xs
without_length [] d = refl
without_length (x ∷ xs) d = by (x == d) (without_length xs d)
  where
    by : (b : Bool) → length (without xs d) + times d xs ≡ length xs
        → length (if not b then x ∷ without xs d else without xs d) + cond b (1 + times d xs) (times d xs) ≡ suc (length xs)
    by true rest = omega arith
    by false rest = omega arith

module _ (n : NodesState) (slot : ℕ) (once : times_among n slot ≤ 1) where
  back : (worn : Bool) → slots_left n ≤ slots_left (lists.slot_back n slot worn)
  back true = let less = without_length n.hand slot in let more = length-append n.worn (slot ∷ []) in omega (arith, once, less, more)
  back false = let less = without_length n.hand slot in let more = length-append n.free (slot ∷ []) in omega (arith, once, less, more)

  taken : slots_left n ≤ slots_left (lists.slot_taken n slot)
  taken = let less = without_length n.free slot in let more = length-append n.hand (slot ∷ []) in omega (arith, once, less, more)

  used_up : slots_left n ≤ suc (slots_left (lists.slot_made n slot))
  used_up = let less = without_length n.hand slot in omega (arith, once, less)

retired : (n : NodesState) (slot epoch : ℕ) → slots_left n ≤ slots_left (lists.slot_retired n slot epoch)
retired n slot epoch = omega arith

collected : (n : NodesState) (epoch : ℕ) → slots_left n ≤ slots_left (lists.nodes_collected epoch n)
collected n epoch = let hand = length-append n.hand (slots_of (filter (is_old epoch) n.limbo)) in omega (arith, hand)

-- what is learned is no gift
learned_above : (z : RecordsState) (request : ℕ) (reply : Bool) (n : ℕ) → (lists.learned z request reply n).gave_above ≡ z.gave_above
learned_above z request reply n = by (n == 0)
  where
    by : (b : Bool) → (if b then z else record z { known = z.known ++ record { request = request; reply = reply; number = n } ∷ [] }).gave_above ≡ z.gave_above
    by true = refl
    by false = refl

-- the published section is there still
abbrev pub Stays : Published → Option Published → Type 0
Stays x o = (y : Published) × (o ≡ Some y) × (y.descriptor ≡ x.descriptor) × (y.thunk ≡ x.thunk)

-- a commit of a Make by this runner found this word, and won: one slot is used up
pub record WinsMake (p p' : PartState) (kind : EventKind) (found : ℕ) : Type 0 where
  pub is : kind ≡ kinds.MakeCommit
  pub run : RunState
  pub runs : p.run ≡ Some run
  pub opened : is_open_run run ≡ true
  pub empty : found ≡ 0
  pub less : slots_left p.nodes ≤ suc (slots_left p'.nodes)

-- a run of this section by this runner comes to its end, with its last release
pub record Ends (p : PartState) (kind : EventKind) (d : ℕ) : Type 0 where
  pub is : kind ≡ kinds.Release
  pub run : RunState
  pub runs : p.run ≡ Some run
  pub opened : is_open_run run ≡ true
  pub of_section : d ≡ run.descriptor

-- a slot went onto the board: where that left as many as the layout gives a worker, so many are left
pub record Gives (l : Layout) (p' : PartState) : Type 0 where
  pub enough : p'.records.gave_above ≡ true → l.nodes ≤ slots_left p'.nodes

pub record Leaves (l : Layout) (p p' : PartState) (kind : EventKind) (found : ℕ) : Type 0 where
  -- no slot is lost but by a Make, or to the board
  pub slots : (slots_left p.nodes ≤ slots_left p'.nodes) ⊎ (WinsMake p p' kind found ⊎ Gives l p')
  -- a slot that was given with too few left stays on record
  pub above : p'.records.gave_above ≡ true → p.records.gave_above ≡ true
  -- a published section stays until its publisher has run it to its end
  pub published : (x : Published) → p.published ≡ Some x → Stays x p'.published ⊎ Ends p kind x.descriptor

module _ (m : Meaning) (l : Layout) (p : PartState) (once : (t : ℕ) → times_among p.nodes t ≤ 1) (found : ℕ) where
  module _ (kind : EventKind) where
    leaves : (p' : PartState) → (slots_left p.nodes ≤ slots_left p'.nodes) ⊎ (WinsMake p p' kind found ⊎ Gives l p') → p'.published ≡ p.published
        → (p'.records.gave_above ≡ true → p.records.gave_above ≡ true) → Leaves l p p' kind found
    leaves p' slots published above = record { slots = slots; above = above; published = λ x is. inl (x, published ∙ is, refl, refl) }

    either : (b : Bool) (y z : PartState) → Leaves l p y kind found → Leaves l p z kind found → Leaves l p (if b then y else z) kind found
    either true y z one two = one
    either false y z one two = two

    least : (p' : PartState) → p'.nodes ≡ p.nodes → slots_left p.nodes ≤ slots_left p'.nodes
    least p' e = let same = ap slots_left e in omega (arith, same)

    same : (p' : PartState) → p'.nodes ≡ p.nodes → p'.published ≡ p.published → p'.records.gave_above ≡ p.records.gave_above → Leaves l p p' kind found
    same p' nodes published above = leaves p' (inl (least p' nodes)) published (λ e. sym above ∙ e)

  module _ (q : RunState) (runs : p.run ≡ Some q) (opened : is_open_run q ≡ true) where
    fill : (kind : EventKind) (slot : ℕ) (made : Option ℕ) → Leaves l p (inside.fill_loaded m l slot p q made found) kind found
    fill kind slot None = leaves kind _ (inl (taken p.nodes slot (once slot))) refl (λ e. e)
    fill kind slot (Some t) = same kind _ refl refl refl

    make : (made : Option ℕ) → Leaves l p (inside.make_committed m l p q made found) kinds.MakeCommit found
    make None = same kinds.MakeCommit p refl refl refl
    make (Some slot) = leaves kinds.MakeCommit _ (by (found == 0) refl) refl (λ e. e)
      where
        p' : PartState
        p' = inside.make_committed m l p q (Some slot) found

        by : (b : Bool) → (found == 0) ≡ b → (slots_left p.nodes ≤ slots_left p'.nodes) ⊎ (WinsMake p p' kinds.MakeCommit found ⊎ Gives l p')
        by true e = inr (inl (record {
          is = refl;
          run = q;
          runs = runs;
          opened = opened;
          empty = same_zero found 0 e;
          less = subst (λ b. slots_left p.nodes ≤ suc (slots_left (if b then lists.slot_made p.nodes slot else lists.slot_back p.nodes slot q.worn)))
              (sym e) (used_up p.nodes slot (once slot));
        }))
        by false e = inl (subst (λ b. slots_left p.nodes ≤ slots_left (if b then lists.slot_made p.nodes slot else lists.slot_back p.nodes slot q.worn))
            (sym e) (back p.nodes slot (once slot) q.worn))

    retire : (slot : ℕ) → Leaves l p (inside.retire_committed m l slot p q found) kinds.RetireCommit found
    retire slot = leaves kinds.RetireCommit _ (inl (by (found == 0))) refl (λ e. e)
      where
        by : (b : Bool) → slots_left p.nodes ≤ slots_left (if b then lists.slot_retired p.nodes slot q.word else p.nodes)
        by true = retired p.nodes slot q.word
        by false = omega arith

    released : (place : ℕ) → Leaves l p (inside.lock_released m l place p q found) kinds.Release found
    released place = either kinds.Release (is_end (next_of m (inside.ended_more q))) _ _
        (record { slots = inl (omega arith); above = λ e. e; published = λ x is. over p.published x is })
        (same kinds.Release _ refl refl refl)
      where
        over : (o : Option Published) (x : Published) → o ≡ Some x → Stays x (inside.kept_unless o q.descriptor) ⊎ Ends p kinds.Release x.descriptor
        over None x is = absurd (none_some x (sym is))
        over (Some y) x is = by (y.descriptor == q.descriptor) refl
          where
            same_section : y ≡ x
            same_section = some_same y x is

            by : (b : Bool) → (y.descriptor == q.descriptor) ≡ b → Stays x (if b then None else Some y) ⊎ Ends p kinds.Release x.descriptor
            by true e = inr (record {
              is = refl;
              run = q;
              runs = runs;
              opened = opened;
              of_section = ap (λ (z : Published). z.descriptor) (sym same_section) ∙ same_zero y.descriptor q.descriptor e;
            })
            by false e = inl (y, refl, ap (λ (z : Published). z.descriptor) same_section, ap (λ (z : Published). z.thunk) same_section)

    line_leaves : (kind : EventKind) (micro : Micro) → Leaves l p (line_after m l kind p q micro found) kind found
    line_leaves kinds.Commit micro = same kinds.Commit _ refl refl refl
    line_leaves (kinds.LoadCell place) micro = same (kinds.LoadCell place) _ refl refl refl
    line_leaves kinds.ExchangeCell micro = same kinds.ExchangeCell _ refl refl refl
    line_leaves (kinds.PrivateLoad slot word) micro = fill (kinds.PrivateLoad slot word) slot q.made
    line_leaves (kinds.PrivateStore slot word number) micro = same (kinds.PrivateStore slot word number) _ refl refl refl
    line_leaves (kinds.LinkCommit b) micro = same (kinds.LinkCommit b) _ refl refl refl
    line_leaves kinds.MakeCommit micro = make q.made
    line_leaves kinds.RetireCommit micro = retire (inside.retired_slot_of micro)
    line_leaves kinds.EpochForRetire micro = same kinds.EpochForRetire _ refl refl refl
    line_leaves kinds.SetDone micro = same kinds.SetDone _ refl refl refl
    line_leaves kinds.Release micro = released (inside.place_of micro)
    line_leaves kinds.ClockLoad micro = same kinds.ClockLoad _ refl refl refl
    line_leaves kinds.StampExchange micro = either kinds.StampExchange (nat_lt q.word last_clock) _ _ (same kinds.StampExchange _ refl refl (learned_above p.records _ false _))
        (same kinds.StampExchange p refl refl refl)
    line_leaves kinds.ClockRaise micro = same kinds.ClockRaise _ refl refl refl
    line_leaves kinds.ReplyExchange micro = same kinds.ReplyExchange _ refl refl (learned_above p.records _ true _)
    line_leaves kinds.NestedLoad micro = same kinds.NestedLoad _ refl refl refl
    line_leaves kinds.NestedHold micro = same kinds.NestedHold _ refl refl refl
    line_leaves kinds.OutcomeLoad micro = same kinds.OutcomeLoad _ refl refl refl
    line_leaves kinds.OutcomeCommit micro = same kinds.OutcomeCommit _ refl refl refl
    line_leaves kind micro = same kind p refl refl refl

  pub inside_leaves : (q : RunState) → p.run ≡ Some q → (kind : EventKind) → Leaves l p (inside_after m l kind p q found) kind found
  inside_leaves q runs kind = by (is_open_run q) refl
    where
      by : (b : Bool) → is_open_run q ≡ b
          → Leaves l p (if b then line_after m l kind p q (next_of m q) found else inside.opened_more p q found) kind found
      by true e = line_leaves q runs e kind (next_of m q)
      by false e = same kind _ refl refl refl

  scan : (n : ℕ) (stage : Stage) → Leaves l p (outside.scan_one_after l p stage found) (kinds.ScanOne n) found
  scan n (stages.Scanning x next clear) = either (kinds.ScanOne n) (nat_le next l.runners) _ _
      (either (kinds.ScanOne n) (next == l.runners && not ((clear && is_clear x found) && nat_lt x last_epoch)) _ _
      (leaves (kinds.ScanOne n) (outside.collected p x) (inl (collected p.nodes x)) refl (λ e. e)) (same (kinds.ScanOne n) _ refl refl refl)) (same (kinds.ScanOne n) p refl refl refl)
  scan n _ = same (kinds.ScanOne n) p refl refl refl

  advance : (stage : Stage) → Leaves l p (outside.advance_after p stage) kinds.Advance found
  advance (stages.Scanning x next clear) = either kinds.Advance (nat_lt x last_epoch) _ _
      (leaves kinds.Advance (outside.collected p (x + 1)) (inl (collected p.nodes (x + 1))) refl (λ e. e)) (same kinds.Advance p refl refl refl)
  advance _ = same kinds.Advance p refl refl refl

  hold : (t : Thunk) (d : ℕ) → p.published ≡ None → Leaves l p (outside.hold_after t d p found) (kinds.Hold t d) found
  hold t d none = either (kinds.Hold t d) (found == t.word) _ _
      (record { slots = inl (omega arith); above = λ e. e; published = λ x is. absurd (none_some x (sym is ∙ none)) })
      (same (kinds.Hold t d) _ refl refl refl)

  looked : (slot word : ℕ) → Leaves l p (record p { nodes = lists.nodes_looked l p.nodes slot word found }) (kinds.PrivateLoad slot word) found
  looked slot word = leaves (kinds.PrivateLoad slot word) _ (inl (by (has p.nodes.hand slot && (word == (lists.test_of p.nodes.tests slot).cells && nat_lt word 5)))) refl (λ e. e)
    where
      x : Tested
      x = lists.one_more l (lists.test_of p.nodes.tests slot) found

      tested : (b : Bool) → slots_left p.nodes
          ≤ slots_left (if b then lists.slot_back p.nodes x.slot x.worn else record (p.nodes) { tests = lists.tests_without p.nodes.tests x.slot ++ x ∷ [] })
      tested true = back p.nodes x.slot (once x.slot) x.worn
      tested false = omega arith

      by : (b : Bool) → slots_left p.nodes ≤ slots_left (if b then lists.slot_tested p.nodes x else p.nodes)
      by true = tested (x.cells == 5)
      by false = omega arith

  -- a slot comes from the board
  draw : (kind : EventKind) (b : Bool) (slot : ℕ) → Leaves l p (record p { nodes = free_if b (lists.slot_drawn p.nodes slot) p.nodes }) kind found
  draw kind true slot = leaves kind _ (inl (let more = length-append p.nodes.free (slot ∷ []) in omega (arith, more))) refl (λ e. e)
  draw kind false slot = same kind _ refl refl refl

  -- or goes there
  give : (kind : EventKind) (slot : ℕ) (b : Bool) → Leaves l p (record p {
    nodes = free_if b (lists.slot_given p.nodes slot) p.nodes;
    records = record (p.records) {
      gave_above = (if b then p.records.gave_above && nat_le l.nodes (length (lists.slot_given p.nodes slot).free) else p.records.gave_above);
    };
  }) kind found
  give kind slot true = leaves kind _ (inr (inr (record { enough = λ e. let left = most_of _ _ (and_parts p.records.gave_above _ e).1 in omega (arith, left) }))) refl
      (λ e. (and_parts p.records.gave_above _ e).0)
    where
      most_of : (a b : ℕ) → nat_le a b ≡ true → a ≤ b
      most_of a b e = grind (arith, nat_tests)
  give kind slot false = same kind _ refl refl refl

  -- a publication comes where nothing is published
  abbrev pub MayGo : EventKind → Type 0
  MayGo (kinds.Hold t d) = p.published ≡ None
  MayGo _ = Unit {0}

  pub outside_leaves : (kind : EventKind) → MayGo kind → Leaves l p (outside_after m l kind p found) kind found
  outside_leaves kinds.EnterLoad may = same kinds.EnterLoad _ refl refl refl
  outside_leaves kinds.Announce may = same kinds.Announce _ refl refl refl
  outside_leaves kinds.EnterAgain may = same kinds.EnterAgain _ refl refl refl
  outside_leaves kinds.Idle may = same kinds.Idle _ refl refl refl
  outside_leaves kinds.ScanEpoch may = same kinds.ScanEpoch _ refl refl refl
  outside_leaves (kinds.ScanOne n) may = scan n p.stage
  outside_leaves kinds.Advance may = advance p.stage
  outside_leaves kinds.Split may = either kinds.Split (nat_lt p.records.splits l.runners) _ _ (same kinds.Split _ refl refl refl) (same kinds.Split p refl refl refl)
  outside_leaves (kinds.Join worker) may = same (kinds.Join worker) _ refl refl refl
  outside_leaves (kinds.LoadCell (Some place)) may = same (kinds.LoadCell (Some place)) _ refl refl refl
  outside_leaves (kinds.LoadEntry request reply) may = same (kinds.LoadEntry request reply) _ refl refl (learned_above p.records request reply found)
  outside_leaves (kinds.PrivateLoad slot word) may = either (kinds.PrivateLoad slot word) (nat_lt slot (slot_count l m.fixed_slots)) _ _ (looked slot word)
      (same (kinds.PrivateLoad slot word) _ refl refl refl)
  outside_leaves (kinds.PrivateStore slot word number) may = same (kinds.PrivateStore slot word number) _ refl refl refl
  outside_leaves (kinds.Hold t d) may = hold t d may
  outside_leaves (kinds.LoadThunk (Some d)) may = same (kinds.LoadThunk (Some d)) _ refl refl refl
  outside_leaves (kinds.BoardTake word link) may = draw (kinds.BoardTake word link) (found == link) (value_of (link - 1))
  outside_leaves (kinds.BoardGive word slot) may = give (kinds.BoardGive word slot) slot (found == 0)
  outside_leaves kind may = same kind _ refl refl refl
