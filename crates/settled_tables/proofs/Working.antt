-- The workers of a run, one more of them each time.
use Rattle.std.proofs.Common.{◌≡◌, ℕ, suc, ◌+◌, ◌<◌, List, [], ◌∷◌, ◌++◌, length, get_or, subst, sym, ap, ◌∙◌, arith}
use Rattle.std.proofs.lemmas.List.{get_or_append_left, length-append}
use Rattle.std.proofs.Math.Seq.{get_or-append_seam}
use mathlib.Core.Logic.{dite}
use native.Mathlib.Decide.{ℕ_discrete}
use Rattle.machine_states.specs.structure_laws.specs.Meaning.{Meaning}
use Rattle.closed_words.specs.version_words.specs.RunnerState.{RunnerState}
use Rattle.closed_words.specs.version_words.specs.TableState.{TableState, IsOf}
use Rattle.closed_words.specs.version_words.specs.Stages.{IsKeeper}
use Rattle.closed_words.specs.version_words.specs.Events.{next_worker}
use Rattle.closed_words.specs.version_words.proofs.Stages.{next_is_idle}
use Rattle.settled_tables.specs.Seats.{IsNewWorker, AreNewWorkers, AllCameBack, AreBack, AreReports}

-- a fact of each place, and of one more
pub one_more : {X : Type 0} (P : ℕ → X → Type 0) (xs ys : List X) (x : X) → ys ≡ xs ++ x ∷ [] → ((i : ℕ) (d : X) → i < length xs → P i (get_or xs i d)) → P (length xs) x
    → (i : ℕ) (d : X) → i < length ys → P i (get_or ys i d)
one_more P xs ys x is all here i d below = dite (ℕ_discrete i (length xs))
    (λ e. let last : get_or ys i d ≡ x = ap (λ l. get_or l i d) is ∙ (ap (λ (k : ℕ). get_or (xs ++ x ∷ []) k d) e ∙ get_or-append_seam xs x [] d) in subst (P i) (sym last) (subst (λ (k : ℕ). P k x) (sym e) here))
    (λ ne.
    let long : length ys ≡ length xs + 1 = ap length is ∙ length-append xs (x ∷ []) in
    let low : i < length xs = omega arith in
    let same : get_or ys i d ≡ get_or xs i d = ap (λ l. get_or l i d) is ∙ get_or_append_left xs (x ∷ []) d i low in subst (P i) (sym same) (all i d low))

-- what is left of a list behind its next element
pub rest_behind : {X : Type 0} (whole old new : List X) (x : X) (past next many left : ℕ) → old ≡ x ∷ new → left + 1 ≡ many
    → ((k : ℕ) (d : X) → k < many → get_or old k d ≡ get_or whole (past + k) d) → past + 1 ≡ next → (k : ℕ) (d : X) → k < left → get_or new k d ≡ get_or whole (next + k) d
rest_behind whole old new x past next many left is lens all longer k d low =
    let below : suc k < many = omega (arith, low, lens) in
    let same : past + suc k ≡ next + k = omega (arith, longer) in
    sym (ap (λ xs. get_or xs (suc k) d) is) ∙ (all (suc k) d below ∙ ap (λ (n : ℕ). get_or whole n d) same)

module _ {T : Type 0} (m : Meaning) (t : TableState T) where
  -- the next worker, as it is made
  pub is_new : (keeper r : RunnerState T) (splits : ℕ) → r ≡ next_worker m keeper → IsOf t r → IsKeeper keeper splits
      → splits < keeper.layout.runners → IsNewWorker t splits r
  is_new keeper r splits made own is few = record {
    own = own;
    number_is = ap (λ (y : RunnerState T). y.number) made ∙ is.as_many;
    tidy = record {
      at = next_is_idle m keeper r splits made is few;
      hand = ap (λ (y : RunnerState T). y.part.nodes.hand) made;
      tests = ap (λ (y : RunnerState T). y.part.nodes.tests) made;
      looked = ap (λ (y : RunnerState T). y.part.guards.looked) made;
      unguarded = ap (λ (y : RunnerState T). y.part.guards.named) made;
    };
    known = ap (λ (y : RunnerState T). y.part.records.known) made;
  }

module _ {T : Type 0} (t : TableState T) where
  pub seated_more : (workers workers' : List (RunnerState T)) (r : RunnerState T) (number : ℕ) → workers' ≡ workers ++ r ∷ [] → length workers ≡ number
      → IsNewWorker t number r → AreNewWorkers t workers → AreNewWorkers t workers'
  seated_more workers workers' r number is len one all =
      one_more (IsNewWorker t) workers workers' r is all (subst (λ (k : ℕ). IsNewWorker t k r) (sym len) one)

  -- new workers come back in their order
  pub all_back : {A : Type 0} (workers : List (RunnerState T)) (backs : List (RunnerState T × A)) → length backs ≡ length workers
      → AreNewWorkers t workers → AllCameBack t workers backs → AreBack t backs
  all_back workers backs len new came i d low =
      let few : i < length workers = subst (λ (n : ℕ). i < n) len low in
      let one = came i d.0 d few in
      record { own = one.own; number_is = one.number ∙ (new i d.0 few).number_is }

-- one more report
pub reported_more : {W A : Type 0} (backs : List (W × A)) (reports reports' : List A) (a : A) (here : W × A) → reports' ≡ reports ++ a ∷ [] → a ≡ here.1
    → ((d : W × A) → get_or backs (length reports) d ≡ here) → AreReports backs reports → AreReports backs reports'
reported_more {W} {A} backs reports reports' a here is same at all =
    one_more (λ k (x : A). (d : W × A) → x ≡ (get_or backs k d).1) reports reports' a is all
    (λ d. same ∙ ap (λ (y : W × A). y.1) (sym (at d)))
