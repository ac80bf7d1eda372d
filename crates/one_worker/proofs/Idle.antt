-- A node slot that is in a hand, free or worn stays so over a step, but where a Make commits it.
use Rattle.std.specs.Prelude.{◌==◌, ◌-◌, ◌&&◌, not, nat_lt, nat_le, cond, Bool, true, false, if◌then◌else◌}
use Rattle.std.specs.List.{filter}
use Rattle.std.proofs.Common.{◌≡◌, ◌≢◌, ℕ, ◌+◌, ◌≤◌, List, [], ◌∷◌, ◌++◌, refl, sym, ap, ◌∙◌, subst, ⊎_elim, arith, Option, Some, None}
use Rattle.std.proofs.lemmas.Bool.{cases_eq}
use Rattle.std.proofs.lemmas.Bool.Decides.{nat_tests}
use Rattle.machine_states.specs.body_terms.specs.Line.{is_end}
use Rattle.machine_states.specs.body_terms.specs.Word.{value_of}
use Rattle.machine_states.specs.body_terms.specs.declared.micro.Micro.{Micro}
use Rattle.machine_states.specs.body_terms.specs.declared.thunk.Thunk.{Thunk}
use Rattle.machine_states.specs.table_words.specs.declared.layout.Layout.{Layout}
use Rattle.machine_states.specs.table_words.specs.Places.{slot_count}
use Rattle.machine_states.specs.structure_laws.specs.Meaning.{Meaning}
use Rattle.machine_states.specs.epoch_core.specs.Moves.{is_clear}
use Rattle.machine_states.specs.runner_parts.specs.declared.entries.Tested.{Tested}
use Rattle.machine_states.specs.epoch_core.specs.declared.stage.Stage.{Stage}
use Rattle.machine_states.specs.epoch_core.specs.declared.stage.Stage.TheVariants as stages
use Rattle.machine_states.specs.runner_parts.specs.declared.event.EventKind.{EventKind}
use Rattle.machine_states.specs.runner_parts.specs.declared.event.EventKind.TheVariants as kinds
use Rattle.machine_states.specs.runner_parts.specs.State.{RunState, NodesState, PartState}
use Rattle.machine_states.specs.runner_parts.specs.Lists as lists
use Rattle.machine_states.specs.runner_parts.specs.Lists.{without, is_old, slots_of}
use Rattle.machine_states.specs.runner_parts.specs.Tests.{has}
use Rattle.machine_states.specs.runner_steps.specs.Sections.{is_open_run, next_of}
use Rattle.machine_states.specs.epoch_core.specs.State.{last_epoch}
use Rattle.machine_states.specs.runner_steps.specs.InRun.{last_clock}
use Rattle.machine_states.specs.runner_steps.specs.Board.{free_if}
use Rattle.machine_states.specs.runner_steps.specs.AfterInRun as inside
use Rattle.machine_states.specs.runner_steps.specs.AfterOutside as outside
use Rattle.machine_states.specs.runner_steps.specs.After.{line_after, inside_after, outside_after}
use Rattle.machine_states.specs.epoch_core.specs.State.{EpochState}
use Rattle.machine_states.specs.epoch_core.specs.declared.location.Location.TheVariants.{Hand}
use Rattle.machine_states.specs.epoch_core.specs.Sound.{is_for_nodes}
use Rattle.machine_states.specs.epoch_core.specs.Lists.{times, in_hand}
use Rattle.machine_states.specs.epoch_core.proofs.Times.{times-append}
use Rattle.machine_states.specs.Sight.{Sight}
use Rattle.resource_bounds.specs.machine_epochs.specs.Joined as joins
use Rattle.runner_facts.specs.machine_facts.specs.machine_invariant.proofs.Slots.{nodes_stand}

-- how often a slot stands in a runner's hand, free list and worn list
abbrev pub idle_times : NodesState → ℕ → ℕ
idle_times n t = times t n.hand + (times t n.free + times t n.worn)

-- a slot may go onto the board
abbrev pub is_give : EventKind → Bool
is_give (kinds.BoardGive word slot) = true
is_give _ = false

without_times : (xs : List ℕ) (d t : ℕ) → t ≢ d → times t (without xs d) ≡ times t xs
without_times [] d t ne = refl
without_times (x ∷ xs) d t ne = by (x == d) refl (without_times xs d t ne)
  where
    skipped : (x k : ℕ) → (x == d) ≡ true → k ≡ cond (x == t) (1 + k) k
    skipped x k e = grind (arith, nat_tests)

    by : (b : Bool) → (x == d) ≡ b → times t (without xs d) ≡ times t xs
        → times t (if not b then x ∷ without xs d else without xs d) ≡ cond (x == t) (1 + times t xs) (times t xs)
    by true e rest = rest ∙ skipped x (times t xs) e
    by false e rest = ap (λ k. cond (x == t) (1 + k) k) rest

one_time : (t : ℕ) → ◌≡◌ {A = ℕ} (times t (t ∷ [])) 1
one_time t = grind (arith, nat_tests)

module _ (n : NodesState) (slot t : ℕ) (some : 1 ≤ idle_times n t) where
  back : (worn : Bool) → 1 ≤ idle_times (lists.slot_back n slot worn) t
  back true = let more = times-append t n.worn (slot ∷ []) in ⊎_elim
      (λ e. let one = ap (λ i. times i (slot ∷ [])) e ∙ one_time slot in omega (arith, more, one))
      (λ ne. let same = without_times n.hand slot t ne in omega (arith, more, same, some))
      (cases_eq t slot)
  back false = let more = times-append t n.free (slot ∷ []) in ⊎_elim
      (λ e. let one = ap (λ i. times i (slot ∷ [])) e ∙ one_time slot in omega (arith, more, one))
      (λ ne. let same = without_times n.hand slot t ne in omega (arith, more, same, some))
      (cases_eq t slot)

  taken : 1 ≤ idle_times (lists.slot_taken n slot) t
  taken = let more = times-append t n.hand (slot ∷ []) in ⊎_elim
      (λ e. let one = ap (λ i. times i (slot ∷ [])) e ∙ one_time slot in omega (arith, more, one))
      (λ ne. let same = without_times n.free slot t ne in omega (arith, more, same, some))
      (cases_eq t slot)

collected_times : (n : NodesState) (epoch t : ℕ) → 1 ≤ idle_times n t → 1 ≤ idle_times (lists.nodes_collected epoch n) t
collected_times n epoch t some = let more = times-append t n.hand (slots_of (filter (is_old epoch) n.limbo)) in omega (arith, more, some)

module _ (m : Meaning) (l : Layout) (y : PartState) (found : ℕ) where
  pub record Keeps (z : PartState) : Type 0 where
    pub idle : (t : ℕ) → 1 ≤ idle_times y.nodes t → 1 ≤ idle_times z.nodes t

  same : (z : PartState) → z.nodes ≡ y.nodes → Keeps z
  same z nodes = record { idle = λ t some. subst (λ (n : NodesState). 1 ≤ idle_times n t) (sym nodes) some }

  either : (b : Bool) (z z' : PartState) → Keeps z → Keeps z' → Keeps (if b then z else z')
  either true z z' one two = one
  either false z z' one two = two

  module _ (q : RunState) where
    fill : (slot : ℕ) (made : Option ℕ) → Keeps (inside.fill_loaded m l slot y q made found)
    fill slot None = record { idle = λ t some. taken y.nodes slot t some }
    fill slot (Some t) = same _ refl

    retire : (slot : ℕ) → Keeps (inside.retire_committed m l slot y q found)
    retire slot = record { idle = λ t some. by (found == 0) t some }
      where
        by : (b : Bool) (t : ℕ) → 1 ≤ idle_times y.nodes t → 1 ≤ idle_times (if b then lists.slot_retired y.nodes slot q.word else y.nodes) t
        by true t some = some
        by false t some = some

    -- a Make that doesn't win
    make : (found ≡ 0 → ⊥) → (made : Option ℕ) → Keeps (inside.make_committed m l y q made found)
    make lost None = same y refl
    make lost (Some slot) = record { idle = λ t some. by (found == 0) refl t some }
      where
        same_test : (b : Bool) → (found == 0) ≡ b → b ≡ true → ⊥
        same_test b e is = lost (zero_of found (e ∙ is))
          where
            zero_of : (i : ℕ) → (i == 0) ≡ true → i ≡ 0
            zero_of i e = grind (arith, nat_tests)

        by : (b : Bool) → (found == 0) ≡ b → (t : ℕ) → 1 ≤ idle_times y.nodes t
            → 1 ≤ idle_times (if b then lists.slot_made y.nodes slot else lists.slot_back y.nodes slot q.worn) t
        by true e t some = absurd (same_test true e refl)
        by false e t some = back y.nodes slot t some q.worn

    released : (place : ℕ) → Keeps (inside.lock_released m l place y q found)
    released place = either (is_end (next_of m (inside.ended_more q))) _ _ (same _ refl) (same _ refl)

    line_keeps : (kind : EventKind) → (kind ≡ kinds.MakeCommit → found ≡ 0 → ⊥) → (micro : Micro) → Keeps (line_after m l kind y q micro found)
    line_keeps kinds.Commit lost micro = same _ refl
    line_keeps (kinds.LoadCell place) lost micro = same _ refl
    line_keeps kinds.ExchangeCell lost micro = same _ refl
    line_keeps (kinds.PrivateLoad slot word) lost micro = fill slot q.made
    line_keeps (kinds.PrivateStore slot word number) lost micro = same _ refl
    line_keeps (kinds.LinkCommit b) lost micro = same _ refl
    line_keeps kinds.MakeCommit lost micro = make (lost refl) q.made
    line_keeps kinds.RetireCommit lost micro = retire (inside.retired_slot_of micro)
    line_keeps kinds.EpochForRetire lost micro = same _ refl
    line_keeps kinds.SetDone lost micro = same _ refl
    line_keeps kinds.Release lost micro = released (inside.place_of micro)
    line_keeps kinds.ClockLoad lost micro = same _ refl
    line_keeps kinds.StampExchange lost micro = either (nat_lt q.word last_clock) _ _ (same _ refl) (same y refl)
    line_keeps kinds.ClockRaise lost micro = same _ refl
    line_keeps kinds.ReplyExchange lost micro = same _ refl
    line_keeps kinds.NestedLoad lost micro = same _ refl
    line_keeps kinds.NestedHold lost micro = same _ refl
    line_keeps kinds.OutcomeLoad lost micro = same _ refl
    line_keeps kinds.OutcomeCommit lost micro = same _ refl
    line_keeps kind lost micro = same y refl

    pub inside_keeps : (kind : EventKind) → (is_open_run q ≡ true → kind ≡ kinds.MakeCommit → found ≡ 0 → ⊥) → Keeps (inside_after m l kind y q found)
    inside_keeps kind lost = by (is_open_run q) refl
      where
        by : (b : Bool) → is_open_run q ≡ b → Keeps (if b then line_after m l kind y q (next_of m q) found else inside.opened_more y q found)
        by true opened = line_keeps kind (lost opened) (next_of m q)
        by false opened = same _ refl

  collected : (epoch : ℕ) → Keeps (outside.collected y epoch)
  collected epoch = record { idle = λ t some. collected_times y.nodes epoch t some }

  scan : (stage : Stage) → Keeps (outside.scan_one_after l y stage found)
  scan (stages.Scanning x next clear) = either (nat_le next l.runners) _ _
      (either (next == l.runners && not ((clear && is_clear x found) && nat_lt x last_epoch)) _ _ (collected x) (same _ refl)) (same y refl)
  scan _ = same y refl

  advance : (stage : Stage) → Keeps (outside.advance_after y stage)
  advance (stages.Scanning x next clear) = either (nat_lt x last_epoch) _ _ (collected (x + 1)) (same y refl)
  advance _ = same y refl

  hold : (t : Thunk) (d : ℕ) → Keeps (outside.hold_after t d y found)
  hold t d = either (found == t.word) _ _ (same _ refl) (same _ refl)

  looked : (slot word : ℕ) → Keeps (record y { nodes = lists.nodes_looked l y.nodes slot word found })
  looked slot word = record { idle = λ t some. by t some (has y.nodes.hand slot && (word == (lists.test_of y.nodes.tests slot).cells && nat_lt word 5)) }
    where
      x : Tested
      x = lists.one_more l (lists.test_of y.nodes.tests slot) found

      tested : (t : ℕ) → 1 ≤ idle_times y.nodes t → (b : Bool)
          → 1 ≤ idle_times (if b then lists.slot_back y.nodes x.slot x.worn else record (y.nodes) { tests = lists.tests_without y.nodes.tests x.slot ++ x ∷ [] }) t
      tested t some true = back y.nodes x.slot t some x.worn
      tested t some false = some

      by : (t : ℕ) → 1 ≤ idle_times y.nodes t → (b : Bool) → 1 ≤ idle_times (if b then lists.slot_tested y.nodes x else y.nodes) t
      by t some true = tested t some (x.cells == 5)
      by t some false = some

  -- a slot comes from the board
  drawn : (b : Bool) (slot : ℕ) → Keeps (record y { nodes = free_if b (lists.slot_drawn y.nodes slot) y.nodes })
  drawn true slot = record { idle = λ t some. let more = times-append t y.nodes.free (slot ∷ []) in omega (arith, more, some) }
  drawn false slot = same _ refl

  -- but by a give
  pub outside_keeps : (kind : EventKind) → is_give kind ≡ false → Keeps (outside_after m l kind y found)
  outside_keeps kinds.EnterLoad kept = same _ refl
  outside_keeps kinds.Announce kept = same _ refl
  outside_keeps kinds.EnterAgain kept = same _ refl
  outside_keeps kinds.Idle kept = same _ refl
  outside_keeps kinds.ScanEpoch kept = same _ refl
  outside_keeps (kinds.ScanOne n) kept = scan y.stage
  outside_keeps kinds.Advance kept = advance y.stage
  outside_keeps kinds.Split kept = either (nat_lt y.records.splits l.runners) _ _ (same _ refl) (same y refl)
  outside_keeps (kinds.Join worker) kept = same _ refl
  outside_keeps (kinds.LoadCell (Some place)) kept = same _ refl
  outside_keeps (kinds.LoadEntry request reply) kept = same _ refl
  outside_keeps (kinds.PrivateLoad slot word) kept = either (nat_lt slot (slot_count l m.fixed_slots)) _ _ (looked slot word) (same _ refl)
  outside_keeps (kinds.PrivateStore slot word number) kept = same _ refl
  outside_keeps (kinds.Hold t d) kept = hold t d
  outside_keeps (kinds.LoadThunk (Some d)) kept = same _ refl
  outside_keeps (kinds.BoardTake word link) kept = drawn (found == link) (value_of (link - 1))
  outside_keeps (kinds.BoardGive word slot) kept = absurd (let z = kept in cc)
  outside_keeps kind kept = same _ refl

one_here : (i : ℕ) → ◌≡◌ {A = ℕ} (cond (i == i) 1 0) 1
one_here i = grind (arith, nat_tests)

-- a slot in a hand is one of these
pub in_hand_idle : (m : Meaning) (l : Layout) (s : Sight) (e : EpochState) → joins.IsJoinedToEpochs m l e s → (r t : ℕ) → e.location t ≡ Hand r
    → 1 ≤ idle_times (s.part r).nodes t
in_hand_idle m l s e joined r t here =
    let one = (nodes_stand m l e s joined).hand r t (joined.sound.for_nodes t (ap is_for_nodes here)) ∙ (ap (in_hand r) here ∙ one_here r) in
    omega (arith, one)
