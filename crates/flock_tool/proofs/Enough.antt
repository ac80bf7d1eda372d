-- With enough node slots, and where a want of slots is waited out, no runner stops for want of slots; and with enough versions none for want of these.
use Rattle.std.specs.Prelude.{◌&&◌, Bool, true, false, if◌then◌else◌, nat_lt, slice_get, unwrap_or}
use Rattle.std.proofs.Common.{◌≡◌, ◌≢◌, ℕ, suc, ◌+◌, ◌≤◌, List, [], ◌∷◌, Option, None, Some, refl, sym, ◌∙◌, ⊎_elim, arith}
use Rattle.std.proofs.lemmas.Bool.Decides.{nat_tests}
use Rattle.machine_states.specs.structure_laws.specs.Meaning.{Meaning}
use Rattle.version_words.specs.TableState.{WordsState}
use Rattle.hash_table.specs.try_lock.specs.epoch_slots.specs.declared.reserves.Kind.{Kind}
use Rattle.hash_table.specs.try_lock.specs.epoch_slots.specs.declared.reserves.Kind.TheVariants as slots
use Rattle.hash_table.specs.try_lock.specs.epoch_slots.specs.declared.reserves.Short.{Short}
use Rattle.threaded_runs.specs.free_serving.specs.serving.specs.declared.answers.Served.{Served}
use Rattle.threaded_runs.specs.free_serving.specs.serving.specs.declared.answers.Served.TheVariants as answers
use Rattle.threaded_runs.specs.Runs.{AreServed, IsShortOf}
use Rattle.threaded_runs.specs.Room.{HasEnoughSlots, HasEnoughVersions}
use Rattle.threaded_runs.proofs.Sparing.{none_spent, none_worn, no_blocks}
use Rattle.flock_tool.specs.Complete.{Completes}
use Rattle.flock_tool.specs.Finish.{versions_of, slots_of, any_halted, first_or, first_from, finish_by, finish_status}
use Rattle.flock_tool.specs.declared.finish.Finish.{Finish}
use Rattle.flock_tool.specs.declared.finish.Finish.TheVariants.{Whole, Halted, WornSlots}
use Rattle.flock_tool.proofs.Finishing.{slots_status, versions_status}

-- a runner that lacked slots, none of which is worn
abbrev pub Lacks : List Served → Type 0
Lacks list = (i : ℕ) × (short : Short) × (slice_get list i ≡ Some (answers.Short short)) × (short.worn ≡ 0)

behind : (answer : Served) (list : List Served) → Lacks list → Lacks (answer ∷ list)
behind answer list found = (suc found.0, found.1, found.2, found.3)

-- where no runner lacked versions and one lacked slots
lacks : (list : List Served) (runner : ℕ) (finish : Finish) → first_from versions_of runner list ≡ None → first_from slots_of runner list ≡ Some finish → Lacks list
lacks [] runner finish versions is = absurd (cc)
lacks (answers.All ∷ list) runner finish versions is = behind answers.All list (lacks list (runner + 1) finish versions is)
lacks (answers.Halted ∷ list) runner finish versions is = behind answers.Halted list (lacks list (runner + 1) finish versions is)
lacks (answers.Spent place word ∷ list) runner finish versions is = absurd (cc)
lacks (answers.Short short ∷ list) runner finish versions is = (0, short, refl, by (nat_lt 0 short.worn) refl versions)
  where
    unworn : (n : ℕ) → nat_lt 0 n ≡ false → n ≡ 0
    unworn n e = grind (arith, nat_tests)

    by : (b : Bool) → nat_lt 0 short.worn ≡ b → first_or (if b then Some (WornSlots runner short) else None) (first_from versions_of (runner + 1) list) ≡ None
        → short.worn ≡ 0
    by true e none = absurd (cc)
    by false e none = unworn short.worn e

-- so at 5
pub five_lacks : (list : List Served) (unserved : ℕ) → finish_status (finish_by list unserved) ≡ 5 → Lacks list
five_lacks list unserved status = by (first_from versions_of 0 list) refl (first_from slots_of 0 list) refl (nat_lt 0 unserved) (any_halted list) status
  where
    by : (v : Option Finish) → first_from versions_of 0 list ≡ v → (s : Option Finish) → first_from slots_of 0 list ≡ s → (some halts : Bool)
        → finish_status (unwrap_or v (unwrap_or s (if some && halts then Halted unserved else Whole))) ≡ 5 → Lacks list
    by (Some finish) is s slots some halts five = absurd (omega (arith, versions_status 0 list finish is, five))
    by None is (Some finish) slots some halts five = lacks list 0 finish is slots
    by None is None slots true true five = absurd (omega (arith, five))
    by None is None slots true false five = absurd (omega (arith, five))
    by None is None slots false halts five = absurd (omega (arith, five))

-- a runner that met a word with too few versions, or has worn slots
pub data LacksVersions (list : List Served) : Type 0 where
  Met : (i place word : ℕ) → slice_get list i ≡ Some (answers.Spent place word) → LacksVersions list
  Wears : (i : ℕ) (short : Short) → slice_get list i ≡ Some (answers.Short short) → 1 ≤ short.worn → LacksVersions list

behind_it : (answer : Served) (list : List Served) → LacksVersions list → LacksVersions (answer ∷ list)
behind_it answer list (Met i place word at) = Met (suc i) place word at
behind_it answer list (Wears i short at some) = Wears (suc i) short at some

-- where one lacked versions
versions_lack : (list : List Served) (runner : ℕ) (finish : Finish) → first_from versions_of runner list ≡ Some finish → LacksVersions list
versions_lack [] runner finish is = absurd (cc)
versions_lack (answers.All ∷ list) runner finish is = behind_it answers.All list (versions_lack list (runner + 1) finish is)
versions_lack (answers.Halted ∷ list) runner finish is = behind_it answers.Halted list (versions_lack list (runner + 1) finish is)
versions_lack (answers.Spent place word ∷ list) runner finish is = Met 0 place word refl
versions_lack (answers.Short short ∷ list) runner finish is = by (nat_lt 0 short.worn) refl is (λ more. versions_lack list (runner + 1) finish more)
  where
    some : (n : ℕ) → nat_lt 0 n ≡ true → 1 ≤ n
    some n e = grind (arith, nat_tests)

    by : (b : Bool) → nat_lt 0 short.worn ≡ b
        → first_or (if b then Some (WornSlots runner short) else None) (first_from versions_of (runner + 1) list) ≡ Some finish
        → (first_from versions_of (runner + 1) list ≡ Some finish → LacksVersions list) → LacksVersions (answers.Short short ∷ list)
    by true e here more = Wears 0 short refl (some short.worn e)
    by false e here more = behind_it (answers.Short short) list (more here)

pub six_lacks : (list : List Served) (unserved : ℕ) → finish_status (finish_by list unserved) ≡ 6 → LacksVersions list
six_lacks list unserved status = by (first_from versions_of 0 list) refl (first_from slots_of 0 list) refl (nat_lt 0 unserved) (any_halted list) status
  where
    by : (v : Option Finish) → first_from versions_of 0 list ≡ v → (s : Option Finish) → first_from slots_of 0 list ≡ s → (some halts : Bool)
        → finish_status (unwrap_or v (unwrap_or s (if some && halts then Halted unserved else Whole))) ≡ 6 → LacksVersions list
    by (Some finish) is s slots some halts six = versions_lack list 0 finish is
    by None is (Some finish) slots some halts six = absurd (omega (arith, slots_status 0 list finish slots, six))
    by None is None slots true true six = absurd (omega (arith, six))
    by None is None slots true false six = absurd (omega (arith, six))
    by None is None slots false halts six = absurd (omega (arith, six))

-- a run that ends with neither 5 nor 6
pub ends_otherwise : {T : Type 0} (m : Meaning) (w : WordsState T) (waits : Bool) (number : ℕ) → number ≢ 5 → number ≢ 6 → Completes m w waits number
ends_otherwise m w waits number not_five not_six = record { slots = λ _ _. not_five; versions = λ _. not_six }

module _ {T : Type 0} {reads : Bool} (m : Meaning) (w : WordsState T) (waits : Bool) (list : List Served) (served : AreServed m w waits reads list) (unserved : ℕ) where
  -- a want that is waited out comes only where none of the worker's slots is in limbo; then two are free
  not_short : waits ≢ false → 1 ≤ w.layout.sections → HasEnoughSlots m w → (short : Short) → IsShortOf m w waits short → short.worn ≡ 0 → ⊥
  not_short waited some enough short is unworn = by short.kind refl
    where
      limbo : short.limbo ≡ 0
      limbo = ⊎_elim (λ clash. absurd (waited clash)) (λ none. none.0) is.over

      by : (kind : Kind) → short.kind ≡ kind → ⊥
      by slots.Node e = let few = is.nodes e in let all = is.counted e in let pairs = served.few_added in
          absurd (omega (arith, few, all, pairs, limbo, unworn, enough))
      by slots.Descriptor e = let all = (is.descriptors e).2 in absurd (omega (arith, all, limbo, some))
      by slots.Block e = no_blocks m w waits short is e 0 (omega (arith, limbo)) some

  never_five : 1 ≤ w.layout.sections → waits ≢ false → HasEnoughSlots m w → finish_status (finish_by list unserved) ≢ 5
  never_five some waited enough five =
      let found = five_lacks list unserved five in
      not_short waited some enough found.1 (served.served found.0 (answers.Short found.1) found.2).cause.1 found.3

  never_six : HasEnoughVersions m w → finish_status (finish_by list unserved) ≢ 6
  never_six enough six = by (six_lacks list unserved six)
    where
      by : LacksVersions list → ⊥
      by (Met i place word at) = let shown = (served.served i (answers.Spent place word) at).shown in none_spent m w enough place word shown.0 shown.1
      by (Wears i short at some) = let unworn = none_worn m w enough short.worn (served.served i (answers.Short short) at).shown in omega (arith, unworn, some)

  pub completes : 1 ≤ w.layout.sections → (number : ℕ) → number ≡ finish_status (finish_by list unserved) → Completes m w waits number
  completes some number is = record {
    slots = λ waited enough five. never_five some waited enough (sym is ∙ five);
    versions = λ enough six. never_six enough (sym is ∙ six);
  }
