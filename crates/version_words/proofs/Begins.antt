-- The rule holds of a new table.
use Rattle.std.proofs.Common.{◌≡◌, ℕ, zero, suc, ◌+◌, ◌<◌, List, [], ◌∷◌, ◌++◌, Bool, true, length, sym, refl, ap, subst, ◌∙◌, arith, Some, slice_get, eq-eqb, length-append}
use Rattle.std.specs.Prelude.{if◌then◌else◌}
use Rattle.std.proofs.lemmas.Option.{none-some, slice_get_within}
use mathlib.Core.Option.{some, some-injective, some-ne-none}
use mathlib.Core.Logic.{dite}
use native.Mathlib.Decide.{ℕ_discrete}
use lib.ListN.{get_elem?}
use Rattle.machine_states.specs.epoch_core.specs.small_lemmas.proofs.Bools.{false_not_true as false_true}
use Rattle.atomic_table.specs.Table.{opening}
use Rattle.machine_states.specs.map_history.specs.declared.op.Request.{Request}
use Rattle.machine_states.specs.table_words.specs.declared.layout.Layout.{Layout}
use Rattle.machine_states.specs.table_words.specs.declared.spot.Spot.TheVariants.{Seat}
use Rattle.machine_states.specs.structure_laws.specs.Meaning.{Meaning}
use Rattle.machine_states.specs.runner_parts.specs.State.{PartState}
use Rattle.machine_states.specs.runner_steps.specs.Asks.{sizes_for}
use Rattle.machine_states.specs.World.{World, seat_of}
use Rattle.machine_states.specs.First.{IsFilled, keeper_part, worker_part, workers}
use Rattle.machine_states.proofs.Firsts.{length_parts}
use Rattle.machine_states.proofs.Steps.{some_same}
use Rattle.version_words.specs.declared.view.View.{View}
use Rattle.version_words.specs.Shown.{part_at}
use Rattle.version_words.specs.Rule.{Holds, keeper_view, IsSeatedAt}

get_first : {A : Type 0} (xs ys : List A) (i : ℕ) (a : A) → slice_get xs i ≡ Some a → slice_get (xs ++ ys) i ≡ Some a
get_first [] ys i a e = absurd (none-some a e)
get_first (x ∷ xs) ys zero a e = e
get_first (x ∷ xs) ys (suc i) a e = get_first xs ys i a e

get_last : {A : Type 0} (xs : List A) (a : A) (n : ℕ) → length xs ≡ n → slice_get (xs ++ a ∷ []) n ≡ Some a
get_last [] a zero e = refl
get_last [] a (suc n) e = absurd (omega arith)
get_last (x ∷ xs) a zero e = absurd (omega arith)
get_last (x ∷ xs) a (suc n) e = get_last xs a n (omega arith)

length_of : (m : Meaning) (l : Layout) (n : ℕ) → length (workers m l n) ≡ n
length_of m l zero = refl
length_of m l (suc n) = length-append (workers m l n) (worker_part m l n ∷ []) ∙ (let h = length_of m l n in omega arith)

-- each worker in its place
worker_in : (m : Meaning) (l : Layout) (n k : ℕ) → k < n → slice_get (workers m l n) k ≡ Some (worker_part m l k)
worker_in m l zero k h = absurd (omega arith)
worker_in m l (suc n) k h = dite (ℕ_discrete k n)
    (λ e. subst (λ z. slice_get (workers m l n ++ worker_part m l n ∷ []) z ≡ Some (worker_part m l z)) (sym e) (get_last (workers m l n) (worker_part m l n) n (length_of m l n)))
    (λ ne. get_first (workers m l n) (worker_part m l n ∷ []) k (worker_part m l k) (worker_in m l n k (omega arith)))

pub keeper_seat : (l : Layout) → seat_of l l.runners ≡ 0
keeper_seat l = ap (λ (b : Bool). if b then 0 else suc l.runners) (eq-eqb l.runners l.runners refl)

module _ {T : Type 0} (m : Meaning) (s : T) (l : Layout) (rs : List Request) (words : List ℕ) (filled : IsFilled m (sizes_for m l rs) (sizes_for m l rs).cells words) where
  abbrev start : World
  start = record { words = words; parts = keeper_part m l ∷ workers m l l.runners }

  abbrev first : View T
  first = keeper_view m s l rs

  alone : (seat : ℕ) (v : View T) → get_elem? (first ∷ []) seat ≡ some v → (seat ≡ 0) × (first ≡ v)
  alone zero v e = (refl, some-injective first v e)
  alone (suc seat) v e = absurd (some-ne-none v (sym e))

  -- each runner begins as one that gave nothing
  workers_above : (i : ℕ) (p : PartState) → slice_get (workers m l l.runners) i ≡ Some p → p.records.gave_above ≡ true
  workers_above i p e =
      let few = slice_get_within (workers m l l.runners) i p e in let all = length_of m l l.runners in
      let there = worker_in m l l.runners i (omega (arith, few, all)) in
      ap (λ (q : PartState). q.records.gave_above) (sym (some_same (worker_part m l i) p (sym there ∙ e)))

  first_above : (i : ℕ) (p : PartState) → slice_get start.parts i ≡ Some p → p.records.gave_above ≡ true
  first_above zero p e = ap (λ (q : PartState). q.records.gave_above) (sym (some_same (keeper_part m l) p e))
  first_above (suc i) p e = workers_above i p e

  pub begins : Holds m s l rs (opening words [] first)
  begins = record {
    world = start;
    reached = record { events = []; after = record { start = start; first = record { words = filled; parts = refl }; runs = refl } };
    above = λ i p e. first_above i p e;
    shown = record {
      words = refl;
      parts = length_parts m l;
      seated = λ seat v e. let a = alone seat v e in subst (λ (u : View T). slice_get start.parts seat ≡ part_at [] seat u.part u.structure) a.1 (ap (slice_get start.parts) a.0);
      left = λ worker none_left. absurd (false_true none_left);
      waiting = λ worker past few. worker_in m l l.runners worker few;
    };
    about = λ seat v t e is. let a = alone seat v e in subst (λ (u : View T). u.structure ≡ Some t → IsSeatedAt s l rs seat t u) a.1
        (λ live. record { same_structure = sym (some_same s t live); same_layout = refl; same_requests = refl; own_seat = keeper_seat l ∙ sym a.0 }) is;
    splits = λ v e. let a = alone 0 v e in ap (λ (u : View T). u.part.records.splits + 1) (sym a.1);
    seat_word = filled.seen Seat tt;
  }
