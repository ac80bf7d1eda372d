-- From what the runners answered to the status of a run.
use Rattle.std.proofs.Common.{◌≡◌, ◌≢◌, ℕ, zero, suc, ◌+◌, ◌-◌, ◌≤◌, ◌^◌, Bool, true, false, List, [], ◌∷◌, Option, None, Some, refl, sym, ap, inl, inr, arith}
use Rattle.std.specs.Prelude.{◌⊎◌, ◌&&◌, if◌then◌else◌, min, nat_lt, slice_get, unwrap_or}
use Rattle.std.proofs.lemmas.Bool.Decides.{nat_tests}
use Rattle.threaded_runs.specs.runner_gate.specs.fault_count.specs.Rose.{Rose}
use Rattle.threaded_runs.specs.free_serving.specs.serving.specs.declared.answers.Served.{Served}
use Rattle.threaded_runs.specs.free_serving.specs.serving.specs.declared.answers.Served.TheVariants as answers
use Rattle.threaded_runs.specs.Counts.{halts_counted}
use Rattle.flock_tool.specs.Finish.{versions_of, slots_of, any_halted, first_or, first_from, finish_by, finish_status}
use Rattle.flock_tool.specs.Runs.{IsRunStatus}
use Rattle.flock_tool.specs.declared.finish.Finish.{Finish}
use Rattle.flock_tool.specs.declared.finish.Finish.TheVariants.{Whole, Halted, Slots, WornSlots, Versions}

-- the status of a run whose report was printed whole
pub finish_run : (finish : Finish) → IsRunStatus (finish_status finish) × (finish_status finish ≢ 9)
finish_run Whole = (inl refl, λ nine. absurd (omega (arith, nine)))
finish_run (Halted unserved) = (inr (inl refl), λ nine. absurd (omega (arith, nine)))
finish_run (Slots runner short) = (inr (inr (inl refl)), λ nine. absurd (omega (arith, nine)))
finish_run (WornSlots runner short) = (inr (inr (inr (inl refl))), λ nine. absurd (omega (arith, nine)))
finish_run (Versions place word) = (inr (inr (inr (inl refl))), λ nine. absurd (omega (arith, nine)))

-- the first gives of one kind are of the statuses 5 and 6
pub slots_status : (runner : ℕ) (list : List Served) (finish : Finish) → first_from slots_of runner list ≡ Some finish → finish_status finish ≡ 5
slots_status runner [] finish is = absurd (cc)
slots_status runner (answers.All ∷ list) finish is = slots_status (runner + 1) list finish is
slots_status runner (answers.Halted ∷ list) finish is = slots_status (runner + 1) list finish is
slots_status runner (answers.Spent place word ∷ list) finish is = slots_status (runner + 1) list finish is
slots_status runner (answers.Short short ∷ list) finish is = let same : Slots runner short ≡ finish = cc in ap finish_status (sym same)

pub versions_status : (runner : ℕ) (list : List Served) (finish : Finish) → first_from versions_of runner list ≡ Some finish → finish_status finish ≡ 6
versions_status runner [] finish is = absurd (cc)
versions_status runner (answers.All ∷ list) finish is = versions_status (runner + 1) list finish is
versions_status runner (answers.Halted ∷ list) finish is = versions_status (runner + 1) list finish is
versions_status runner (answers.Spent place word ∷ list) finish is = let same : Versions place word ≡ finish = cc in ap finish_status (sym same)
versions_status runner (answers.Short short ∷ list) finish is = by (λ later. versions_status (runner + 1) list finish later) (nat_lt 0 short.worn) is
  where
    by : (first_from versions_of (runner + 1) list ≡ Some finish → finish_status finish ≡ 6) → (b : Bool) → first_or (if b then Some (WornSlots runner short) else None) (first_from versions_of (runner + 1) list) ≡ Some finish → finish_status finish ≡ 6
    by again true here = let same : WornSlots runner short ≡ finish = cc in ap finish_status (sym same)
    by again false here = again here

-- where no runner lacked slots, and none was halted, each has served all of its requests
all_or : (list : List Served) (runner : ℕ) → first_from versions_of runner list ≡ None → first_from slots_of runner list ≡ None → any_halted list ≡ false
    → (i : ℕ) (answer : Served) → slice_get list i ≡ Some answer → answer ≡ answers.All
all_or [] runner versions slots halts i answer is = absurd (cc)
all_or (answers.All ∷ list) runner versions slots halts zero answer is = cc
all_or (answers.All ∷ list) runner versions slots halts (suc i) answer is = all_or list (runner + 1) versions slots halts i answer is
all_or (answers.Halted ∷ list) runner versions slots halts i answer is = absurd (cc)
all_or (answers.Spent place word ∷ list) runner versions slots halts i answer is = absurd (cc)
all_or (answers.Short short ∷ list) runner versions slots halts i answer is = absurd (cc)

-- at 0 no request is unserved, or each runner has served all of its requests
pub zero_all : (list : List Served) (unserved : ℕ) → finish_status (finish_by list unserved) ≡ 0
    → (unserved ≡ 0) ⊎ ((i : ℕ) (answer : Served) → slice_get list i ≡ Some answer → answer ≡ answers.All)
zero_all list unserved status = by (first_from versions_of 0 list) refl (first_from slots_of 0 list) refl (nat_lt 0 unserved) refl (any_halted list) refl status
  where
    by : (v : Option Finish) → first_from versions_of 0 list ≡ v → (s : Option Finish) → first_from slots_of 0 list ≡ s → (some : Bool) → nat_lt 0 unserved ≡ some
        → (halts : Bool) → any_halted list ≡ halts → finish_status (unwrap_or v (unwrap_or s (if some && halts then Halted unserved else Whole))) ≡ 0
        → (unserved ≡ 0) ⊎ ((i : ℕ) (answer : Served) → slice_get list i ≡ Some answer → answer ≡ answers.All)
    by (Some finish) is s slots some few halts halt none = absurd (omega (arith, versions_status 0 list finish is, none))
    by None is (Some finish) slots some few halts halt none = absurd (omega (arith, slots_status 0 list finish slots, none))
    by None is None slots some few false halt none = inr (all_or list 0 is slots halt)
    by None is None slots true few true halt none = absurd (omega (arith, none))
    by None is None slots false few true halt none = inl (grind (arith, nat_tests))

-- at 1 a runner answered that it was halted
pub one_halted : (list : List Served) (unserved : ℕ) → finish_status (finish_by list unserved) ≡ 1 → any_halted list ≡ true
one_halted list unserved status = by (first_from versions_of 0 list) refl (first_from slots_of 0 list) refl (nat_lt 0 unserved) (any_halted list) refl status
  where
    by : (v : Option Finish) → first_from versions_of 0 list ≡ v → (s : Option Finish) → first_from slots_of 0 list ≡ s → (some : Bool)
        → (halts : Bool) → any_halted list ≡ halts → finish_status (unwrap_or v (unwrap_or s (if some && halts then Halted unserved else Whole))) ≡ 1 → halts ≡ true
    by (Some finish) is s slots some halts halt one = absurd (omega (arith, versions_status 0 list finish is, one))
    by None is (Some finish) slots some halts halt one = absurd (omega (arith, slots_status 0 list finish slots, one))
    by None is None slots some true halt one = refl
    by None is None slots true false halt one = absurd (omega (arith, one))
    by None is None slots false false halt one = absurd (omega (arith, one))

abbrev last : ℕ
last = 2 ^ 64 - 1

counted_stays : (n halts : ℕ) (list : List Served) → min n last ≤ halts → min n last ≤ halts_counted halts list
counted_stays n halts [] low = low
counted_stays n halts (answers.All ∷ list) low = counted_stays n halts list low
counted_stays n halts (answers.Short short ∷ list) low = counted_stays n halts list low
counted_stays n halts (answers.Spent place word ∷ list) low = counted_stays n halts list low
counted_stays n halts (answers.Halted ∷ list) low = counted_stays n (min (halts + 1) last) list (omega (arith, low))

counted_rise : (n halts : ℕ) (list : List Served) → any_halted list ≡ true → min n last ≤ halts → min (n + 1) last ≤ halts_counted halts list
counted_rise n halts [] some low = absurd (cc)
counted_rise n halts (answers.All ∷ list) some low = counted_rise n halts list some low
counted_rise n halts (answers.Short short ∷ list) some low = counted_rise n halts list some low
counted_rise n halts (answers.Spent place word ∷ list) some low = counted_rise n halts list some low
counted_rise n halts (answers.Halted ∷ list) some low = counted_stays (n + 1) (min (halts + 1) last) list (omega (arith, low))

-- so the count of halts rose
pub halts_rise : (halts : ℕ) (list : List Served) → any_halted list ≡ true → Rose halts (halts_counted halts list)
halts_rise halts list some = counted_rise halts halts list some (omega arith)
