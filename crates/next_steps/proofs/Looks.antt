-- What a runner has loaded of the clock for a read without a lock is no more than the clock.
use Rattle.std.specs.Prelude.{◌==◌, ◌&&◌, not, max, nat_lt, nat_le, Bool, true, false, if◌then◌else◌}
use Rattle.std.proofs.Common.{◌≡◌, ℕ, ◌≤◌, List, refl, sym, ap, ◌∙◌, subst, arith, Option, Some, None}
use Rattle.machine_states.specs.map_history.specs.declared.op.Request.{Request}
use Rattle.machine_states.specs.body_terms.specs.Line.{is_end}
use Rattle.machine_states.specs.body_terms.specs.declared.micro.Micro.{Micro}
use Rattle.machine_states.specs.table_words.specs.declared.layout.Layout.{Layout}
use Rattle.machine_states.specs.table_words.specs.declared.spot.Spot.{Spot}
use Rattle.machine_states.specs.table_words.specs.declared.spot.Spot.TheVariants.{Clock}
use Rattle.machine_states.specs.table_words.specs.declared.access.Access.{Access}
use Rattle.machine_states.specs.table_words.specs.Places.{slot_count}
use Rattle.machine_states.specs.structure_laws.specs.Meaning.{Meaning}
use Rattle.machine_states.specs.epoch_core.specs.Moves.{is_clear}
use Rattle.machine_states.specs.epoch_core.specs.State.{last_epoch}
use Rattle.machine_states.specs.epoch_core.specs.declared.stage.Stage.{Stage}
use Rattle.machine_states.specs.epoch_core.specs.declared.stage.Stage.TheVariants as stages
use Rattle.machine_states.specs.runner_parts.specs.declared.entries.Look.{Look}
use Rattle.machine_states.specs.runner_parts.specs.declared.entries.LookStage.{LookStage}
use Rattle.machine_states.specs.runner_parts.specs.declared.entries.LookStage.TheVariants.{Replied, Stamped}
use Rattle.machine_states.specs.runner_parts.specs.declared.event.EventKind.{EventKind}
use Rattle.machine_states.specs.runner_parts.specs.declared.event.EventKind.TheVariants as kinds
use Rattle.machine_states.specs.runner_parts.specs.State.{RunState, PartState}
use Rattle.machine_states.specs.runner_steps.specs.Sections.{is_open_run, next_of}
use Rattle.machine_states.specs.runner_steps.specs.InRun.{last_clock}
use Rattle.machine_states.specs.runner_steps.specs.Reads.{plan_by, come_to, look_by, looked_by}
use Rattle.machine_states.specs.runner_steps.specs.AfterInRun as inside
use Rattle.machine_states.specs.runner_steps.specs.AfterOutside as outside
use Rattle.machine_states.specs.runner_steps.specs.After.{line_after, inside_after, outside_after, after_by}
use Rattle.machine_states.specs.First.{IsFirst}
use Rattle.machine_states.specs.Sight.{Sight, sight, sight_after}
use Rattle.machine_states.specs.World.{World}
use Rattle.machine_states.proofs.FirstSights.{first_parts}
use Rattle.machine_states.proofs.Sights.{some_none, joins}
use Rattle.machine_states.proofs.Steps.{some_same}
use Rattle.machine_invariant.specs.machine_blocks.specs.machine_guards.specs.machine_agreement.specs.machine_epochs.proofs.FirstJoin as FirstJoin
use Rattle.machine_invariant.specs.machine_blocks.specs.machine_guards.specs.machine_agreement.specs.machine_epochs.proofs.ReadsAsked.{read_clock_asked}
use Rattle.machine_invariant.specs.machine_blocks.specs.machine_guards.specs.machine_agreement.proofs.LineAsked.{clock_raise_asked}
use Rattle.machine_invariant.proofs.Keeping.{IsStep}
use Rattle.next_steps.specs.Looks.{LooksAreSmall}
use Rattle.next_steps.proofs.Parts.{each_part}
use Rattle.next_steps.proofs.Runs.{in_line, out_of_run}
use Rattle.next_steps.proofs.Touched.{asked_may, clock_same}

-- the clock of the part's look is no more than this
record Small (n : ℕ) (p : PartState) : Type 0 where
  low : (x : Look) → p.reads.look ≡ Some x → x.clock ≤ n

-- the load of the clock for a read
abbrev is_read_clock : EventKind → Bool
is_read_clock kinds.ReadClock = true
is_read_clock _ = false

module _ (m : Meaning) (l : Layout) (n : ℕ) (p : PartState) (old : Small n p) (found : ℕ) where
  stay : (p' : PartState) → p'.reads.look ≡ p.reads.look → Small n p'
  stay p' same = record { low = λ x e. old.low x (sym same ∙ e) }

  either : (b : Bool) (y z : PartState) → Small n y → Small n z → Small n (if b then y else z)
  either true y z one two = one
  either false y z one two = two

  module _ (q : RunState) where
    fill : (slot : ℕ) (made : Option ℕ) → Small n (inside.fill_loaded m l slot p q made found)
    fill slot None = stay _ refl
    fill slot (Some t) = stay _ refl

    make : (made : Option ℕ) → Small n (inside.make_committed m l p q made found)
    make None = stay _ refl
    make (Some t) = stay _ refl

    line_small : (kind : EventKind) (micro : Micro) → Small n (line_after m l kind p q micro found)
    line_small kinds.Commit micro = stay _ refl
    line_small (kinds.PrivateLoad slot word) micro = fill slot q.made
    line_small kinds.MakeCommit micro = make q.made
    line_small kinds.Release micro = either (is_end (next_of m (inside.ended_more q))) _ _ (stay _ refl) (stay _ refl)
    line_small kinds.StampExchange micro = either (nat_lt q.word last_clock) _ _ (stay _ refl) (stay _ refl)
    line_small kinds.OutcomeCommit micro = stay _ refl
    line_small _ micro = stay _ refl

    inside_small : (kind : EventKind) → Small n (inside_after m l kind p q found)
    inside_small kind = either (is_open_run q) _ _ (line_small kind (next_of m q)) (stay _ refl)

  scan : (stage : Stage) → Small n (outside.scan_one_after l p stage found)
  scan (stages.Scanning y next clear) = either (nat_le next l.runners) _ _
      (either (next == l.runners && not ((clear && is_clear y found) && nat_lt y last_epoch)) _ _ (stay _ refl) (stay _ refl)) (stay _ refl)
  scan _ = stay _ refl

  advance : (stage : Stage) → Small n (outside.advance_after p stage)
  advance (stages.Scanning y next clear) = either (nat_lt y last_epoch) _ _ (stay _ refl) (stay _ refl)
  advance _ = stay _ refl

  -- a look that comes on keeps its clock
  comes : (stage : LookStage) (o : Option Look) → p.reads.look ≡ o → (x : Look) → come_to stage o ≡ Some x → x.clock ≤ n
  comes stage None at x e = some_none x e
  comes stage (Some y) at x e = subst (λ (z : Look). z.clock ≤ n) (some_same (record y { stage = stage }) x e) (old.low y at)

  -- one for which the clock was loaded has that clock
  looked : (o : Option Look) → found ≤ n → (x : Look) → looked_by p found o ≡ Some x → x.clock ≤ n
  looked None low x e = some_none x e
  looked (Some y) low x e = subst (λ (z : Look). z.clock ≤ n) (some_same (look_by y.thunk p found) x e) low

  outside_small : (kind : EventKind) → (is_read_clock kind ≡ true → found ≤ n) → Small n (outside_after m l kind p found)
  outside_small kinds.EnterAgain loads = record { low = λ x e. some_none x e }
  outside_small (kinds.ScanOne i) loads = scan p.stage
  outside_small kinds.Advance loads = advance p.stage
  outside_small kinds.Split loads = either (nat_lt p.records.splits l.runners) _ _ (stay _ refl) (stay _ refl)
  outside_small (kinds.LoadCell (Some place)) loads = stay _ refl
  outside_small (kinds.LoadCell None) loads = stay _ refl
  outside_small (kinds.PrivateLoad slot word) loads = either (nat_lt slot (slot_count l m.fixed_slots)) _ _ (stay _ refl) (stay _ refl)
  outside_small (kinds.Hold thunk d) loads = either (found == thunk.word) _ _ (stay _ refl) (stay _ refl)
  outside_small (kinds.LoadThunk (Some d)) loads = stay _ refl
  outside_small (kinds.LoadThunk None) loads = stay _ refl
  outside_small (kinds.ReadPlan thunk) loads = record { low = λ x e. subst (λ (z : Look). z.clock ≤ n) (some_same (plan_by thunk) x e) (omega arith) }
  outside_small kinds.ReadClock loads = record { low = looked p.reads.look (loads refl) }
  outside_small kinds.ReadReply loads = record { low = comes Replied p.reads.look refl }
  outside_small kinds.ReadStamp loads = record { low = comes Stamped p.reads.look refl }
  outside_small _ loads = stay _ refl

  by_small : (kind : EventKind) (o : Option RunState) → (is_read_clock kind ≡ true → found ≤ n) → Small n (after_by m l kind p o found)
  by_small kind None loads = outside_small kind loads
  by_small kind (Some q) loads = inside_small q kind

module _ (m : Meaning) (l : Layout) (rs : List Request) (s s' : Sight) (r : ℕ) where
  -- the clock never falls
  raised : (a b : ℕ) → a ≤ max a b
  raised a b = grind arith

  clock_up : (kind : EventKind) → IsStep m l rs s s' r kind → s.word Clock ≤ s'.word Clock
  clock_up kinds.ClockRaise st =
      let x = st.step.ask in
      let at = in_line m l rs r kinds.ClockRaise (s.part r) x refl (λ q. refl) st.step.asked in
      let asked = clock_raise_asked at.run x (next_of m at.run) at.asked in
      subst (λ (y : Sight). s.word Clock ≤ y.word Clock) (sym st.step.next)
      (subst (λ (y : Spot × Access). s.word Clock ≤ (sight_after m l s r kinds.ClockRaise y).word Clock) asked.1 (raised (s.word Clock) _))
  clock_up kind st =
      let x = st.step.ask in
      let same = clock_same s.word x.0 kind x.1 refl (asked_may m l rs r (s.part r) x kind st.step.asked) in
      subst (λ (y : Sight). s.word Clock ≤ y.word Clock) (sym st.step.next) (subst (λ a. s.word Clock ≤ a) (sym same) (omega arith))

  -- the clock is found as it stands
  clock_found : (kind : EventKind) (st : IsStep m l rs s s' r kind) → is_read_clock kind ≡ true → s.word st.step.ask.0 ≡ s.word Clock
  clock_found kinds.ReadClock st is =
      let x = st.step.ask in
      let out = out_of_run m l rs r kinds.ReadClock (s.part r) x (λ q. refl) (λ q. refl) st.step.asked in
      ap (λ (y : Spot × Access). s.word y.0) (sym (read_clock_asked (s.part r) x out.asked).is)
  clock_found _ st is = absurd (let z = is in cc)

  pub looks_small : (kind : EventKind) → IsStep m l rs s s' r kind → LooksAreSmall s → LooksAreSmall s'
  looks_small kind st old i =
      let x = st.step.ask in
      let n = s'.word Clock in
      let up = clock_up kind st in
      let on : (k : ℕ) → Small n (s.part k) = λ k. record { low = λ y e. let low = old k y e in omega (arith, low, up) } in
      (subst (λ (y : Sight). Small n (y.part i)) (sym st.step.next)
      (each_part m l s r x (λ k p. Small n p) (λ k p blocks board records gone h. record { low = h.low }) kind (joins m l rs kind r (s.part r) x st.step.asked)
      (by_small m l n (s.part r) (on r) (s.word x.0) kind (s.part r).run
      (λ is. let same = clock_found kind st is in omega (arith, same, up))) (λ k ne. on k) i)).low

-- at first nobody has a look
pub first_looks : (m : Meaning) (l : Layout) (rs : List Request) (w : World) → IsFirst m l rs w → LooksAreSmall (sight m l rs w)
first_looks m l rs w start r x e = some_none x (sym (none r) ∙ e)
  where
    none : (i : ℕ) → ((sight m l rs w).part i).reads.look ≡ None
    none i = subst (λ (p : PartState). p.reads.look ≡ None) (sym (first_parts m l w.parts start.parts i))
        (FirstJoin.each_part m l (λ p. p.reads.look ≡ None) refl (λ k. refl) refl i)
