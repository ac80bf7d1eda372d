-- Which words a runner has read of cells after a step: those that it had read, or the one that the step found.
use Rattle.std.specs.Prelude.{◌⊎◌, ◌==◌, ◌&&◌, ◌||◌, not, Bool, true, false, nat_lt, nat_le, if◌then◌else◌}
use Rattle.std.proofs.Common.{◌≡◌, ℕ, List, [], ◌∷◌, ◌++◌, refl, sym, ap, ◌∙◌, inl, inr, ⊎_elim, arith, Option, Some, None}
use Rattle.std.proofs.lemmas.Bool.Decides.{nat_tests}
use Rattle.machine_states.specs.map_history.specs.declared.op.Request.{Request}
use Rattle.machine_states.specs.body_terms.specs.Line.{is_end}
use Rattle.machine_states.specs.body_terms.specs.declared.micro.Micro.{Micro}
use Rattle.machine_states.specs.table_words.specs.declared.layout.Layout.{Layout}
use Rattle.machine_states.specs.table_words.specs.declared.spot.Spot.{Spot}
use Rattle.machine_states.specs.table_words.specs.declared.spot.Spot.TheVariants.{Cell}
use Rattle.machine_states.specs.table_words.specs.declared.access.Access.{Access}
use Rattle.machine_states.specs.table_words.specs.Places.{slot_count}
use Rattle.machine_states.specs.structure_laws.specs.Meaning.{Meaning}
use Rattle.machine_states.specs.epoch_core.specs.declared.stage.Stage.{Stage}
use Rattle.machine_states.specs.epoch_core.specs.declared.stage.Stage.TheVariants as stages
use Rattle.machine_states.specs.epoch_core.specs.Moves.{is_clear}
use Rattle.machine_states.specs.epoch_core.specs.State.{last_epoch}
use Rattle.machine_states.specs.runner_parts.specs.declared.event.EventKind.{EventKind}
use Rattle.machine_states.specs.runner_parts.specs.declared.event.EventKind.TheVariants as kinds
use Rattle.machine_states.specs.runner_parts.specs.State.{RunState, PartState}
use Rattle.machine_states.specs.runner_parts.specs.Tests.{has_pair}
use Rattle.machine_states.specs.runner_steps.specs.Sections.{is_open_run, next_of}
use Rattle.machine_states.specs.runner_steps.specs.InRun.{last_clock}
use Rattle.machine_states.specs.runner_steps.specs.Asks.{opening_ask}
use Rattle.machine_states.specs.runner_steps.specs.Asks.{asks, outside_ask, inside_ask, line_ask}
use Rattle.machine_states.specs.runner_steps.specs.After.{outside_after, line_after, inside_after, after_by, stepped}
use Rattle.machine_states.specs.runner_steps.specs.AfterInRun as inside
use Rattle.machine_states.specs.runner_steps.specs.AfterOutside as outside
use Rattle.machine_states.proofs.Sights.{some_none}
use Rattle.machine_invariant.specs.machine_blocks.specs.machine_guards.specs.machine_agreement.specs.machine_epochs.proofs.InsideAsked as asked_inside
use Rattle.machine_invariant.specs.machine_blocks.specs.machine_guards.specs.machine_agreement.specs.machine_epochs.proofs.OutsideAsked as asked_outside
use Rattle.machine_invariant.proofs.Asked.{asked_by}

-- a pair of a list with one more at its end
pair_more : (xs : List (ℕ × ℕ)) (a b place word : ℕ) → has_pair (xs ++ (a, b) ∷ []) place word ≡ true
    → (has_pair xs place word ≡ true) ⊎ ((a ≡ place) × (b ≡ word))
pair_more [] a b place word h = inr (last a b place word h)
  where
    last : (a b place word : ℕ) → ((a == place && b == word) || false) ≡ true → (a ≡ place) × (b ≡ word)
    last a b place word h = grind (arith, nat_tests)
pair_more (y ∷ xs) a b place word h =
    by (y.0 == place && y.1 == word) (has_pair xs place word) (has_pair (xs ++ (a, b) ∷ []) place word) (pair_more xs a b place word) h
  where
    by : {Q : Type 0} (t u v : Bool) → (v ≡ true → (u ≡ true) ⊎ Q) → (t || v) ≡ true → ((t || u) ≡ true) ⊎ Q
    by true u v rest h = inl refl
    by false u v rest h = rest h

module _ (m : Meaning) (l : Layout) (rs : List Request) (r : ℕ) (p : PartState) (found : ℕ) (x : Spot × Access) where
  -- what this part has read it had read before, or it is this word, which was found in the cell that the step met
  pub record Adds (p' : PartState) : Type 0 where
    pub read : (place word : ℕ) → has_pair p'.reads.cells place word ≡ true
        → (has_pair p.reads.cells place word ≡ true) ⊎ ((Cell place ≡ x.0) × (found ≡ word))

  keeps : (p' : PartState) → p'.reads.cells ≡ p.reads.cells → Adds p'
  keeps p' same = record { read = λ place word h. inl (ap (λ c. has_pair c place word) (sym same) ∙ h) }

  adds : (p' : PartState) (at : ℕ) → Cell at ≡ x.0 → p'.reads.cells ≡ p.reads.cells ++ (at, found) ∷ [] → Adds p'
  adds p' at is more = record {
    read = λ place word h. ⊎_elim inl (λ new. inr (ap (λ n. Cell n) (sym new.0) ∙ is, new.1))
        (pair_more p.reads.cells at found place word (ap (λ c. has_pair c place word) (sym more) ∙ h));
  }

  if_adds : (b : Bool) (y z : PartState) → Adds y → Adds z → Adds (if b then y else z)
  if_adds true y z one two = one
  if_adds false y z one two = two

  scan_adds : (stage : Stage) → Adds (outside.scan_one_after l p stage found)
  scan_adds (stages.Scanning e next clear) = if_adds (nat_le next l.runners) _ _
      (if_adds (next == l.runners && not ((clear && is_clear e found) && nat_lt e last_epoch)) _ _ (keeps _ refl) (keeps _ refl))
      (keeps p refl)
  scan_adds _ = keeps p refl

  advance_adds : (stage : Stage) → Adds (outside.advance_after p stage)
  advance_adds (stages.Scanning e next clear) = if_adds (nat_lt e last_epoch) _ _ (keeps _ refl) (keeps p refl)
  advance_adds _ = keeps p refl

  outside_adds : (kind : EventKind) → outside_ask m l rs r kind p ≡ Some x → Adds (outside_after m l kind p found)
  outside_adds kinds.EnterAgain e = record { read = λ place word h. absurd (let none = h in cc) }
  outside_adds (kinds.ScanOne n) e = scan_adds p.stage
  outside_adds kinds.Advance e = advance_adds p.stage
  outside_adds kinds.Split e = if_adds (nat_lt p.records.splits l.runners) _ _ (keeps _ refl) (keeps p refl)
  outside_adds (kinds.LoadCell (Some place)) e =
      adds _ place (ap (λ (y : Spot × Access). y.0) (asked_outside.read_asked m place p x e).2) refl
  outside_adds (kinds.PrivateLoad slot word) e = if_adds (nat_lt slot (slot_count l m.fixed_slots)) _ _ (keeps _ refl) (keeps _ refl)
  outside_adds (kinds.Hold t d) e =
      let here = ap (λ (y : Spot × Access). y.0) (asked_outside.hold_asked m l rs r t d p x e).is in
      if_adds (found == t.word) _ _ (adds _ t.lock here refl) (adds _ t.lock here refl)
  outside_adds (kinds.LoadThunk (Some d)) e = keeps _ refl
  outside_adds _ e = keeps _ refl

  module _ (q : RunState) where
    -- the cell that a step of the line meets
    at_cell : (micro : Micro) (place : ℕ) (access : Access) → inside.place_of micro ≡ place → (Cell place, access) ≡ x
        → Cell (inside.place_of micro) ≡ x.0
    at_cell micro place access same is = ap (λ n. Cell n) same ∙ ap (λ (y : Spot × Access). y.0) is

    fill_adds : (slot : ℕ) (made : Option ℕ) → Adds (inside.fill_loaded m l slot p q made found)
    fill_adds slot None = keeps _ refl
    fill_adds slot (Some t) = keeps _ refl

    make_adds : (made : Option ℕ) → Adds (inside.make_committed m l p q made found)
    make_adds None = keeps p refl
    make_adds (Some t) = keeps _ refl

    released_adds : (place : ℕ) → Cell place ≡ x.0 → Adds (inside.lock_released m l place p q found)
    released_adds place is = if_adds (is_end (next_of m (inside.ended_more q))) _ _ (adds _ place is refl) (adds _ place is refl)

    line_adds : (kind : EventKind) (micro : Micro) → line_ask m l kind p.nodes.free p.blocks.free q micro ≡ Some x
        → Adds (line_after m l kind p q micro found)
    line_adds (kinds.LoadCell None) micro e = let h = asked_inside.load_cell_asked q x micro e in
        adds _ (inside.place_of micro) (at_cell micro h.place h.access (ap inside.place_of h.step.1) h.is) refl
    line_adds kinds.ExchangeCell micro e = let h = asked_inside.exchange_cell_asked q x l micro e in
        adds _ (inside.place_of micro) (at_cell micro h.place h.access (ap inside.place_of h.step.2) h.is) refl
    line_adds kinds.NestedLoad micro e = let h = asked_inside.nested_load_asked q x micro e in
        adds _ (inside.place_of micro) (at_cell micro h.place h.access (ap inside.place_of h.step.1) h.is) refl
    line_adds kinds.NestedHold micro e = let h = asked_inside.nested_hold_asked q x l micro e in
        adds _ (inside.place_of micro) (at_cell micro h.place h.access (ap inside.place_of h.step.1) h.is) refl
    line_adds kinds.OutcomeLoad micro e = let h = asked_inside.outcome_load_asked q x micro e in
        adds _ (inside.place_of micro) (at_cell micro h.place h.access (ap inside.place_of h.step.1) h.is) refl
    line_adds kinds.Release micro e = let h = asked_inside.release_asked q x l micro e in
        released_adds (inside.place_of micro) (at_cell micro h.place h.access (ap inside.place_of h.step.1) h.is)
    line_adds (kinds.LoadCell (Some place)) micro e = some_none x e
    line_adds (kinds.PrivateLoad slot word) micro e = fill_adds slot q.made
    line_adds kinds.MakeCommit micro e = make_adds q.made
    line_adds kinds.StampExchange micro e = if_adds (nat_lt q.word last_clock) _ _ (keeps _ refl) (keeps p refl)
    line_adds _ micro e = keeps _ refl

    inside_adds : (kind : EventKind) → inside_ask m l kind p.nodes.free p.blocks.free q ≡ Some x → Adds (inside_after m l kind p q found)
    inside_adds kind e = by (is_open_run q) e
      where
        by : (b : Bool) → (if b then line_ask m l kind p.nodes.free p.blocks.free q (next_of m q) else opening_ask kind q) ≡ Some x
            → Adds (if b then line_after m l kind p q (next_of m q) found else inside.opened_more p q found)
        by true e = line_adds kind (next_of m q) e
        by false e = keeps _ refl

  -- after the runner's step
  pub stepped_adds : (kind : EventKind) → asks m l rs r kind p ≡ Some x → Adds (stepped m l kind p found)
  stepped_adds kind asked = by p.run refl
    where
      by : (run : Option RunState) → p.run ≡ run → Adds (after_by m l kind p run found)
      by None is = outside_adds kind (asked_by m l r kind p rs x None is asked)
      by (Some q) is = inside_adds q kind (asked_by m l r kind p rs x (Some q) is asked)
