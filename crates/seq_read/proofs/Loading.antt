-- The loads of the cells that a planned body loads.
use Rattle.std.specs.Prelude.{◌||◌, nat_lt, Bool, true, false, slice_get, take}
use Rattle.std.proofs.Common.{◌≡◌, ◌≢◌, ℕ, zero, suc, ◌+◌, ◌*◌, ◌-◌, ◌/◌, ◌<◌, ◌≤◌, List, [], ◌∷◌, ◌++◌, append-nil, length, length-append, refl, sym, ap, ◌∙◌, subst, arith, ⊎_elim, Some, None}
use Rattle.std.proofs.lemmas.Bool.{true≢false}
use Rattle.machine_states.specs.epoch_core.specs.small_lemmas.proofs.Numbers.{less_tested}
use Rattle.machine_states.specs.map_history.specs.declared.op.Request.{Request}
use Rattle.machine_states.specs.body_terms.specs.Shape.{IsStep}
use Rattle.machine_states.specs.body_terms.specs.declared.step.Step.{Step}
use Rattle.machine_states.specs.body_terms.specs.declared.step.Step.TheVariants.{Load, Want, Fresh, Take, Make, Stamp, Store, Retire, Answer}
use Rattle.machine_states.specs.body_terms.specs.declared.thunk.Thunk.{Thunk}
use Rattle.machine_states.specs.table_words.specs.Limits.{IsWithinLimits}
use Rattle.machine_states.specs.table_words.specs.Places.{slot_count}
use Rattle.machine_states.specs.table_words.specs.declared.spot.Spot.TheVariants as spots
use Rattle.machine_states.specs.table_words.specs.declared.access.Access.TheVariants.{Loads}
use Rattle.caller_facts.specs.section_runs.specs.runner_gate.specs.Asks.{Asks, asked_on}
use Rattle.machine_states.specs.structure_laws.specs.Scene.{Readings}
use Rattle.machine_states.specs.structure_laws.specs.Meaning.{Meaning}
use Rattle.machine_states.specs.structure_laws.specs.Laws.{Laws}
use Rattle.machine_states.specs.structure_laws.specs.Cells.{IsKnown}
use Rattle.machine_states.specs.structure_laws.specs.Shape.{Shaped}
use Rattle.machine_states.specs.epoch_core.specs.declared.stage.Stage.TheVariants as stages
use Rattle.machine_states.specs.runner_parts.specs.State.{PartState, ReadsState}
use Rattle.machine_states.specs.runner_parts.specs.Tests.{is_readable}
use Rattle.machine_states.specs.Sight.{part_or_first}
use Rattle.caller_facts.specs.version_words.specs.machine_invariant.specs.After.{AreAllowed}
use Rattle.caller_facts.specs.section_runs.specs.commit_log.specs.Asked.{IsAsked}
use Rattle.caller_facts.specs.section_runs.specs.commit_log.proofs.Asked.{asked_more}
use Rattle.next_steps.proofs.Numbers.{reached_numbers}
use Rattle.caller_facts.specs.lock_walks.proofs.Walking.{may_load, walked_more}
use Rattle.caller_facts.specs.try_lock.specs.declared.planned.Planned.TheVariants as plans
use Rattle.caller_facts.specs.try_lock.specs.Planning.{Planning}
use Rattle.caller_facts.specs.try_lock.specs.Plans.{HasWalked}
use Rattle.caller_facts.specs.try_lock.specs.Reached.{IsReached}
use Rattle.caller_facts.specs.version_words.specs.RunnerState.{RunnerState}
use Rattle.caller_facts.specs.version_words.specs.Events.{met_by, Makes}
use Rattle.caller_facts.specs.version_words.specs.Naming.{load_of}
use Rattle.caller_facts.specs.version_words.specs.Stages.{IsAt}
use Rattle.caller_facts.proofs.Standing.{made_reached}
use Rattle.caller_facts.proofs.Shapes.{fitting_shaped}
use Rattle.seq_read.specs.Wants.{loads_in, readings_of, cells_of, AreFirst}
use Rattle.seq_read.specs.Parts.{MayLoad, HasCells, HasLoadedCells}
use Rattle.seq_read.specs.declared.cells.Loaded.{Loaded}
use Rattle.seq_read.proofs.Courses.{planned_here}
use Rattle.seq_read.proofs.Writing.{limits_of, allowed_of}

after : (n : ℕ) → suc n ≡ n + 1
after n = omega arith

-- the steps up to the next one
pub take_one : (steps : List Step) (n : ℕ) (step : Step) → IsStep steps n step → take (suc n) steps ≡ take n steps ++ step ∷ []
take_one [] n step e = absurd (let z = e in cc)
take_one (x ∷ steps) zero step e = let same : x ≡ step = (let z = e in cc) in ap (λ y. y ∷ []) same
take_one (x ∷ steps) (suc n) step e = ap (λ xs. x ∷ xs) (take_one steps n step e)

loads_append : (xs ys : List Step) → loads_in (xs ++ ys) ≡ loads_in xs ++ loads_in ys
loads_append [] ys = refl
loads_append (Load place into ∷ xs) ys = ap (λ zs. (place, into) ∷ zs) (loads_append xs ys)
loads_append (Want reg word ∷ xs) ys = loads_append xs ys
loads_append (Fresh reg ∷ xs) ys = loads_append xs ys
loads_append (Take place word ∷ xs) ys = loads_append xs ys
loads_append (Make init into ∷ xs) ys = loads_append xs ys
loads_append (Stamp ∷ xs) ys = loads_append xs ys
loads_append (Store reg value ∷ xs) ys = loads_append xs ys
loads_append (Retire slot ∷ xs) ys = loads_append xs ys
loads_append (Answer reply ∷ xs) ys = loads_append xs ys

-- what the next step loads comes behind
pub loads_next : (steps : List Step) (n : ℕ) (step : Step) → IsStep steps n step → loads_in (take (suc n) steps) ≡ loads_in (take n steps) ++ loads_in (step ∷ [])
loads_next steps n step e = ap loads_in (take_one steps n step e) ∙ loads_append (take n steps) (step ∷ [])

-- what the first steps load are the first cells
pub loads_front : (n : ℕ) (steps : List Step) → loads_in (take n steps) ≡ take (length (loads_in (take n steps))) (loads_in steps)
loads_front zero steps = refl
loads_front (suc n) [] = refl
loads_front (suc n) (Load place into ∷ steps) = ap (λ zs. (place, into) ∷ zs) (loads_front n steps)
loads_front (suc n) (Want reg word ∷ steps) = loads_front n steps
loads_front (suc n) (Fresh reg ∷ steps) = loads_front n steps
loads_front (suc n) (Take place word ∷ steps) = loads_front n steps
loads_front (suc n) (Make init into ∷ steps) = loads_front n steps
loads_front (suc n) (Stamp ∷ steps) = loads_front n steps
loads_front (suc n) (Store reg value ∷ steps) = loads_front n steps
loads_front (suc n) (Retire slot ∷ steps) = loads_front n steps
loads_front (suc n) (Answer reply ∷ steps) = loads_front n steps

cells_long : (xs : List Loaded) → length (cells_of xs) ≡ length xs
cells_long [] = refl
cells_long (x ∷ xs) = ap suc (cells_long xs)

pub are_first : (n : ℕ) (steps : List Step) (xs : List Loaded) → cells_of xs ≡ loads_in (take n steps) → AreFirst steps xs
are_first n steps xs cells = cells ∙ (loads_front n steps
    ∙ ap (λ k. take k (loads_in steps)) (ap length (sym cells) ∙ cells_long xs))

pub as_many_cells : (n : ℕ) (steps : List Step) (xs : List Loaded) → cells_of xs ≡ loads_in (take n steps) → take n steps ≡ steps → length xs ≡ length (loads_in steps)
as_many_cells n steps xs cells all = sym (cells_long xs) ∙ (ap length cells ∙ ap (λ ys. length (loads_in ys)) all)

pub cells_push : (xs : List Loaded) (x : Loaded) → cells_of (xs ++ x ∷ []) ≡ cells_of xs ++ (x.place, x.into) ∷ []
cells_push [] x = refl
cells_push (y ∷ xs) x = ap (λ ys. (y.place, y.into) ∷ ys) (cells_push xs x)

pub readings_push : (xs : List Loaded) (x : Loaded) → readings_of (xs ++ x ∷ []) ≡ readings_of xs ++ (x.place, x.word) ∷ []
readings_push [] x = refl
readings_push (y ∷ xs) x = ap (λ ys. (y.place, y.word) ∷ ys) (readings_push xs x)

-- a place that readings give may be loaded
module _ (m : Meaning) (walk : Readings) (place : ℕ) where
  or_one : (a b : Bool) → a ≡ true → (a || b) ≡ true
  or_one true b e = refl
  or_one false b e = absurd (let z = e in cc)

  or_two : (a b : Bool) → b ≡ true → (a || b) ≡ true
  or_two true b e = refl
  or_two false b e = e

  slot_is : (fixed t i : ℕ) → i < 5 → place ≡ fixed + 5 * t + i → (place - fixed) / 5 ≡ t
  slot_is fixed t i low e = omega (arith, low, e)

  pub known_readable : IsKnown m walk place → is_readable m walk place ≡ true
  known_readable known = ⊎_elim
      (λ fixed. or_one (nat_lt place m.fixed_cells) _ (tested place m.fixed_cells fixed))
      (λ cell. or_two (nat_lt place m.fixed_cells) _ (or_two (m.is_lock place) _
      (⊎_elim
      (λ low. or_one (nat_lt ((place - m.fixed_cells) / 5) m.fixed_slots) _
      (ap (λ t. nat_lt t m.fixed_slots) (slot_is m.fixed_cells cell.0 cell.1.0 cell.1.1 cell.1.2) ∙ tested cell.0 m.fixed_slots low))
      (λ reaches. or_two (nat_lt ((place - m.fixed_cells) / 5) m.fixed_slots) _
      (ap (λ t. m.reaches walk t) (slot_is m.fixed_cells cell.0 cell.1.0 cell.1.1 cell.1.2) ∙ reaches)) cell.2)))
      known
    where
      tested : (a b : ℕ) → a < b → nat_lt a b ≡ true
      tested a b low = less_tested a b low

module _ {T : Type 0} (m : Meaning) (laws : Laws m) (planning : Planning) (request : Request) (old : RunnerState T)
    (limits : IsWithinLimits old.layout) (allowed : AreAllowed old.requests) (steps : List Step) (thunk : Thunk) (readings : Readings) (start : RunnerState T)
    (may : MayLoad m planning request steps thunk readings old start) where
  -- it loads the cells one by one
  module _ (n : ℕ) (xs : List Loaded) (r : RunnerState T) (halts halts' : ℕ) (asks asks' : Asks) (made made' : ℕ)
      (is : HasCells m steps n xs start r halts halts' asks asks' made made') (place into : ℕ) (here : IsStep steps n (Load place into)) where
    layout_here : r.layout ≡ old.layout
    layout_here = ap (λ (y : RunnerState T). y.layout) is.loads.same ∙ may.plans.reading.still.layout

    requests_here : r.requests ≡ old.requests
    requests_here = ap (λ (y : RunnerState T). y.requests) is.loads.same ∙ may.plans.reading.still.requests

    limits_here : IsWithinLimits r.layout
    limits_here = limits_of m laws planning request old limits allowed r layout_here

    allowed_here : AreAllowed r.requests
    allowed_here = allowed_of m laws planning request old limits allowed r requests_here

    at : IsAt r (stages.Entered may.plans.reading.epoch) None
    at = is.loads.at may.plans.reading.epoch None may.plans.reading.at

    walk_is : r.part.reads.walk ≡ readings ++ readings_of xs
    walk_is = ap (λ (s : ReadsState). s.walk) is.loads.reads
        ∙ ap (λ ws. ws ++ readings_of xs) (planned_here m planning request old readings (plans.Thunk thunk) start may.plans).has_read

    fits : m.fits r.layout request.op r.part.reads.walk thunk ≡ true
    fits = (λ i. m.fits (layout_here i) request.op (walk_is i) thunk)
        ∙ (laws.over old.layout limits).fitting.fits_on readings (readings_of xs) request.op thunk may.plans.answers.fits

    shaped : Shaped m r.layout r.part.reads.walk thunk
    shaped = fitting_shaped m laws request thunk r limits_here allowed_here is.reached may.plans.reading.epoch at.at
        (ap (λ rs. slice_get rs request.number) requests_here ∙ may.plans.enters.may.there) fits

    known : IsKnown m r.part.reads.walk place
    known = shaped.load_known n place into (ap (λ ys. slice_get ys n) (sym may.body) ∙ here)

    low : place < m.fixed_cells + 5 * slot_count r.layout m.fixed_slots
    low = ⊎_elim (λ fixed. omega (arith, fixed))
        (λ cell. ⊎_elim
        (λ few. of_slot cell.0 cell.1.0 cell.1.1 cell.1.2 (more cell.0 few))
        (λ reaches. of_slot cell.0 cell.1.0 cell.1.1 cell.1.2
        ((reached_numbers m laws r.layout limits_here r.requests allowed_here is.reached.world is.reached.reached).reached r.number may.plans.reading.epoch cell.0
        (ap (λ (p : PartState). p.stage) (ap part_or_first is.reached.own) ∙ at.at)
        (ap (λ (p : PartState). m.reaches p.reads.walk cell.0) (ap part_or_first is.reached.own) ∙ reaches))) cell.2)
        known
      where
        of_slot : (t i : ℕ) → i < 5 → place ≡ m.fixed_cells + 5 * t + i → t < slot_count r.layout m.fixed_slots
            → place < m.fixed_cells + 5 * slot_count r.layout m.fixed_slots
        of_slot t i few e below = omega (arith, few, e, below)

        more : (t : ℕ) → t < m.fixed_slots → t < slot_count r.layout m.fixed_slots
        more t few = omega (arith, few)

    pub cell_asked : met_by m r (load_of r.part.run place) ≡ Some (spots.Cell place, Loads)
    cell_asked = may_load m r may.plans.reading.epoch place None at (known_readable m r.part.reads.walk place known) low

    -- with what was found there
    module _ (r' : RunnerState T) (word : ℕ) (loaded : Makes m (load_of r.part.run place) word r r') where
      abbrev pub x : Loaded
      x = record { place = place; into = into; word = word }

      pub cells_more : cells_of (xs ++ x ∷ []) ≡ loads_in (take (suc n) steps)
      cells_more = cells_push xs x ∙ (ap (λ ys. ys ++ (place, into) ∷ []) is.cells ∙ sym (loads_next steps n (Load place into) here))

      pub loads_more : HasWalked m (readings_of (xs ++ x ∷ [])) start r'
      loads_more = subst (λ rs. HasWalked m rs start r') (sym (readings_push xs x))
          (walked_more m (readings_of xs) place word start r r' may.plans.reading.epoch None is.loads at loaded)

      pub reached_more : IsReached m r'
      reached_more = made_reached m (load_of r.part.run place) word r r' loaded

      -- and so more cells are loaded, or a gate halts it behind this one
      module _ (xs' : List Loaded) (same : xs' ≡ xs ++ x ∷ []) (halts1 : ℕ) (asks1 : Asks) (made1 : ℕ) where
        one_longer : length xs' ≡ length xs + 1
        one_longer = ap length same ∙ length-append xs (x ∷ [])

        pub next_cells : IsAsked 1 true halts' halts1 asks' asks1 made' made1 → HasCells m steps (n + 1) xs' start r' halts halts1 asks asks1 made made1
        next_cells asked = subst (λ k. HasCells m steps k xs' start r' halts halts1 asks asks1 made made1) (after n) (record {
          cells = ap cells_of same ∙ cells_more;
          loads = subst (λ ys. HasWalked m (readings_of ys) start r') (sym same) loads_more;
          reached = reached_more;
          asked = subst (λ k. IsAsked k true halts halts1 asks asks1 made made1) (sym one_longer)
              (asked_more (length xs) 1 true halts halts' halts1 asks asks' asks1 made made' made1 is.asked asked);
        })

        pub cut_cells : (Seen : ℕ → Asks → Type 0) → Seen halts' asks' → IsAsked 1 false halts' halts1 asks' asks1 made' made1
            → HasLoadedCells m steps xs' false start r' Seen halts halts1 asks asks1 made made1
        cut_cells Seen seen asked = record {
          cells = are_first (suc n) steps xs' (ap cells_of same ∙ cells_more);
          all = λ e. absurd (true≢false (sym e));
          loads = subst (λ ys. HasWalked m (readings_of ys) start r') (sym same) loads_more;
          reached = reached_more;
          asked = subst (λ k. IsAsked k false halts halts1 asks asks1 made made1) (sym one_longer)
              (asked_more (length xs) 1 false halts halts' halts1 asks asks' asks1 made made' made1 is.asked asked);
          some = λ e. (let long = one_longer in omega (arith, long));
          let_go = λ e.
              let less : length xs' - 1 ≡ length xs = (let long = one_longer in omega (arith, long)) in
              subst (λ k. Seen halts (asked_on asks k)) (sym less)
              (subst (λ h. Seen h (asked_on asks (length xs))) (is.asked.went refl) (subst (Seen halts') is.asked.asked seen));
        }

-- a step that is no Load loads nothing
no_load : (step : Step) → ((place into : ℕ) → step ≢ Load place into) → loads_in (step ∷ []) ≡ []
no_load (Load place into) other = absurd (other place into refl)
no_load (Want reg word) other = refl
no_load (Fresh reg) other = refl
no_load (Take place word) other = refl
no_load (Make init into) other = refl
no_load Stamp other = refl
no_load (Store reg value) other = refl
no_load (Retire slot) other = refl
no_load (Answer reply) other = refl

take_past : (n : ℕ) (steps : List Step) → length steps ≤ n → take n steps ≡ steps
take_past zero [] low = refl
take_past zero (x ∷ steps) low = absurd (omega (arith, low))
take_past (suc n) [] low = refl
take_past (suc n) (x ∷ steps) low = ap (λ xs. x ∷ xs) (take_past n steps (omega (arith, low)))

module _ {T : Type 0} (m : Meaning) (steps : List Step) (n : ℕ) (xs : List Loaded) (start r : RunnerState T) (halts halts' : ℕ) (asks asks' : Asks) (made made' : ℕ)
    (is : HasCells m steps n xs start r halts halts' asks asks' made made') where
  pub same_cells : (step : Step) → IsStep steps n step → ((place into : ℕ) → step ≢ Load place into)
      → HasCells m steps (n + 1) xs start r halts halts' asks asks' made made'
  same_cells step here other = subst (λ k. HasCells m steps k xs start r halts halts' asks asks' made made') (after n) (record {
    cells = is.cells ∙ sym (loads_next steps n step here ∙ (ap (λ ys. loads_in (take n steps) ++ ys) (no_load step other) ∙ append-nil (loads_in (take n steps))));
    loads = is.loads;
    reached = is.reached;
    asked = is.asked;
  })

  pub all_cells : length steps ≤ n → (Seen : ℕ → Asks → Type 0) → HasLoadedCells m steps xs true start r Seen halts halts' asks asks' made made'
  all_cells past Seen = record {
    cells = are_first n steps xs is.cells;
    all = λ e. as_many_cells n steps xs is.cells (take_past n steps past);
    loads = is.loads;
    reached = is.reached;
    asked = is.asked;
    some = λ e. absurd (true≢false e);
    let_go = λ e. absurd (true≢false e);
  }
