-- The first fault of a list of steps.
use Rattle.std.specs.Prelude.{◌≡◌, ℕ, ◌-◌, ◌<◌, ◌≤◌, List, [], ◌∷◌, ◌++◌, Bool, true, false, not, ◌&&◌, ◌||◌, cond, ◌==◌, nat_lt, nat_le, length, take, map, slice_get, slice_index, count_by, Option, Some, None}
use Rattle.std.specs.List.{list_any, list_all}
use Rattle.body_terms.specs.Line.{Registers, registers_after, registers_through, no_registers}
use Rattle.body_terms.specs.Shape.{phase, is_make, is_stamp, is_answer, used_values, set_registers}
use Rattle.body_terms.specs.declared.value.Value.{Value}
use Rattle.body_terms.specs.declared.value.Value.TheVariants.{Const, Of, Made}
use Rattle.body_terms.specs.declared.step.Step.{Step}
use Rattle.body_terms.specs.declared.step.Step.TheVariants.{Load, Fresh, Make, Store}
use Rattle.body_terms.specs.declared.misshape.Misshape.{Misshape}
use Rattle.body_terms.specs.declared.misshape.Misshape.TheVariants.{TooLong, ExitAfterEffect, OutOfOrder, NoStamp, NoAnswer, TooManyMakes, RegisterUnset, NotFresh, StoredTwice}

-- a load into this register
abbrev pub loads_into : ℕ → Step → Bool
loads_into reg (Load place into) = into == reg
loads_into reg _ = false

-- a Make into this register
abbrev pub makes_into : ℕ → Step → Bool
makes_into reg (Make init into) = into == reg
makes_into reg _ = false

-- a Fresh of this register
abbrev pub tests_version : ℕ → Step → Bool
tests_version reg (Fresh tested) = tested == reg
tests_version reg _ = false

-- the register of this value is set by the fitting kind of these steps
abbrev pub is_set : List Step → Value → Bool
is_set earlier (Const number) = true
is_set earlier (Of reg) = list_any (loads_into reg) earlier
is_set earlier (Made reg) = list_any (makes_into reg) earlier

-- a register that may still be set after these steps
abbrev pub is_settable : List Step → ℕ → Bool
is_settable earlier reg = nat_le reg 15 && not (list_any (λ step. loads_into reg step || makes_into reg step) earlier)

-- the phase of the step before; 0 before the first step
abbrev pub phase_before : List Step → ℕ
phase_before earlier = slice_index (map phase earlier) (length earlier - 1)

-- a second Stamp or a second Answer
abbrev pub is_second : List Step → Step → Bool
is_second earlier step = (is_stamp step && list_any is_stamp earlier) || (is_answer step && list_any is_answer earlier)

-- the place to which a step stores, with these registers
abbrev pub places_of : Registers → Step → List ℕ
places_of g (Store reg value) = g.place reg ∷ []
places_of g _ = []

-- a Store without an earlier Fresh of its register
abbrev pub is_untested : List Step → Step → Bool
is_untested earlier (Store reg value) = not (list_any (tests_version reg) earlier)
is_untested earlier _ = false

-- the places of the Stores among these steps, in order
abbrev pub stored_places : Registers → List Step → List ℕ
stored_places g [] = []
stored_places g (step ∷ steps) = places_of g step ++ stored_places (registers_after g step) steps

-- a Store to a place that an earlier Store has
abbrev pub is_stored_again : List Step → Step → Bool
is_stored_again earlier step =
    list_any (λ place. list_any (λ stored. stored == place) (stored_places no_registers earlier))
    (places_of (registers_through no_registers earlier) step)

-- the fault of a step that follows these ones, the first that holds
abbrev pub step_fault : List Step → Step → Option Misshape
step_fault earlier step =
    cond (nat_lt (phase step) (phase_before earlier))
    (Some (cond (phase step == 1) (ExitAfterEffect (length earlier)) (OutOfOrder (length earlier))))
    (cond (is_second earlier step) (Some (OutOfOrder (length earlier)))
    (cond (nat_le 4 (phase step) && not (list_any is_stamp earlier)) (Some (NoStamp (length earlier)))
    (cond (is_make step && nat_le 2 (count_by is_make earlier)) (Some (TooManyMakes (length earlier)))
    (cond (not (list_all (is_set earlier) (used_values step))
    || not (list_all (is_settable earlier) (set_registers step))) (Some (RegisterUnset (length earlier)))
    (cond (is_untested earlier step) (Some (NotFresh (length earlier)))
    (cond (is_stored_again earlier step) (Some (StoredTwice (length earlier)))
    None))))))

-- what is missing at the end of these steps
abbrev pub end_fault : List Step → Option Misshape
end_fault body =
    cond (not (list_any is_stamp body)) (Some (NoStamp (length body)))
    (cond (not (list_any is_answer body)) (Some (NoAnswer (length body)))
    None)

-- the fault of the step at this place, or where there is none what is missing at the end
abbrev pub step_or_end_fault : List Step → ℕ → Option Step → Option Misshape
step_or_end_fault body at (Some step) = step_fault (take at body) step
step_or_end_fault body at None = end_fault body

-- the fault at this place of a list of steps: of the step there, or at the end
abbrev pub fault_at : List Step → ℕ → Option Misshape
fault_at body at = step_or_end_fault body at (slice_get body at)

-- the first fault of a list of steps: more than 32 of them, else the one at the lowest place
pub record IsFirstFault (body : List Step) (fault : Misshape) : Type 0 where
  pub length_first : 32 < length body → fault ≡ TooLong 32
  pub lowest : length body ≤ 32
      → (at : ℕ) × (at ≤ length body) × (fault_at body at ≡ Some fault) × ((i : ℕ) → i < at → fault_at body i ≡ None)
