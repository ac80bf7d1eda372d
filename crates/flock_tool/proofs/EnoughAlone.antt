-- With one runner: slots and versions enough.
use Rattle.std.specs.Prelude.{◌*◌, Bool, slice_get}
use Rattle.std.proofs.Common.{◌≡◌, ◌≢◌, ℕ, ◌+◌, ◌≤◌, List, length, Some, refl, sym, ◌∙◌, subst, arith}
use Rattle.std.proofs.lemmas.Nat.{mul-le}
use Rattle.std.proofs.lemmas.Option.{slice_get_within}
use Rattle.machine_states.proofs.Steps.{some_same}
use Rattle.threaded_runs.specs.map_sizes.specs.Sizes.{peak}
use Rattle.machine_states.specs.body_terms.specs.Memory.{cell_of}
use Rattle.machine_states.specs.structure_laws.specs.Meaning.{Meaning}
use Rattle.version_words.specs.TableState.{WordsState, word_of}
use Rattle.hash_table.specs.try_lock.specs.epoch_slots.specs.declared.reserves.Kind.{Kind}
use Rattle.hash_table.specs.try_lock.specs.epoch_slots.specs.declared.reserves.Kind.TheVariants as slots
use Rattle.hash_table.specs.try_lock.specs.epoch_slots.specs.declared.reserves.Short.{Short}
use Rattle.threaded_runs.specs.free_serving.specs.serving.specs.declared.answers.Served.{Served}
use Rattle.threaded_runs.specs.free_serving.specs.serving.specs.declared.answers.Served.TheVariants as answers
use Rattle.threaded_runs.specs.Lone.{AreServedAlone, ServesAlone}
use Rattle.threaded_runs.specs.Runs.{AreServed, IsShortOf}
use Rattle.threaded_runs.proofs.Sparing.{first_of, is_late, is_past, no_blocks}
use Rattle.flock_tool.specs.Finish.{finish_by, finish_status}
use Rattle.flock_tool.proofs.Enough.{Lacks, LacksVersions, five_lacks, six_lacks}
use Rattle.flock_tool.proofs.Enough.LacksVersions.{Met, Wears}

twice : (per_pair size : ℕ) → per_pair ≤ 2 → per_pair * size ≤ 2 * size
twice per_pair size few = mul-le per_pair size 2 size few (omega arith)

module _ {T : Type 0} {reads : Bool} (m : Meaning) (per_pair : ℕ) (w : WordsState T) (waits : Bool) (list : List Served) (served : AreServed m w waits reads list) (unserved : ℕ)
    (lone : ServesAlone m per_pair w list) (one : w.layout.runners ≡ 1) where
  -- the runner's answer is the only one
  only : (i : ℕ) (answer : Served) → slice_get list i ≡ Some answer → slice_get list 0 ≡ Some answer
  only i answer at = let each = served.each in
      subst (λ (k : ℕ). slice_get list k ≡ Some answer) (omega (arith, slice_get_within list i answer at, each, one)) at

  alone : (answer : Served) → answer ≢ answers.Halted → slice_get list 0 ≡ Some answer → AreServedAlone m per_pair w list
  alone answer goes at = lone one (λ halted. goes (some_same answer answers.Halted (sym at ∙ halted)))

  short_goes : (short : Short) → answers.Short short ≢ answers.Halted
  short_goes short e = absurd (let z = e in cc)

  spent_goes : (place word : ℕ) → answers.Spent place word ≢ answers.Halted
  spent_goes place word e = absurd (let z = e in cc)

  pub never_five : 1 ≤ w.layout.sections → per_pair ≤ 2 → 8 * length w.requests + 8 ≤ w.layout.version_max
      → 2 * peak w.requests + 16 ≤ w.layout.nodes → finish_status (finish_by list unserved) ≢ 5
  never_five some few versions enough five = by found.1.kind refl
    where
      found : Lacks list
      found = five_lacks list unserved five

      is : IsShortOf m w waits found.1
      is = (served.served found.0 (answers.Short found.1) found.2).cause.1

      at : slice_get list 0 ≡ Some (answers.Short found.1)
      at = only found.0 (answers.Short found.1) found.2

      limbo : found.1.limbo ≡ 0
      limbo = (alone (answers.Short found.1) (short_goes found.1) at).limbo found.1 versions at

      by : (kind : Kind) → found.1.kind ≡ kind → ⊥
      by slots.Node e =
          let free = is.nodes e in
          let all = (alone (answers.Short found.1) (short_goes found.1) at).slots found.1 at e in
          let double = twice per_pair (peak w.requests) few in
          let unworn = found.3 in
          let left = limbo in
          absurd (omega (arith, free, all, double, left, unworn, enough))
      by slots.Descriptor e =
          let all = (is.descriptors e).2 in
          let left = limbo in
          absurd (omega (arith, all, left, some))
      by slots.Block e = let left = limbo in no_blocks m w waits found.1 is e 0 (omega (arith, left)) some

  pub never_six : 8 * length w.requests + 8 ≤ w.layout.version_max → finish_status (finish_by list unserved) ≢ 6
  never_six enough six = by (six_lacks list unserved six)
    where
      by : LacksVersions list → ⊥
      by (Met i place word at) =
          let shown = (served.served i (answers.Spent place word) at).shown in
          let late = is_late m w.layout place word shown.0 in let past = is_past (word_of m w) place word shown.1 in
          let most = (alone (answers.Spent place word) (spent_goes place word) (only i (answers.Spent place word) at)).versions place in
          absurd (omega (arith, late, past, most, enough))
      by (Wears i short at some) =
          let worn = (served.served i (answers.Short short) at).shown in
          let many = worn.many in
          let slot = first_of worn.slots (omega (arith, many, some)) in
          let cell = worn.each 0 slot.0 slot.1 in
          let full = cell.worn in
          let most = (alone (answers.Short short) (short_goes short) (only i (answers.Short short) at)).versions (cell_of m.fixed_cells slot.0 cell.cell) in
          absurd (omega (arith, full, most, enough))
