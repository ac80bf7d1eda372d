-- Requests of one trace that follow one another: all of them are a worker's, or none is.
use Rattle.std.specs.Prelude.{◌%◌, ◌==◌, All}
use Rattle.std.proofs.Common.{◌≡◌, ℕ, suc, ◌+◌, List, [], ◌∷◌, ◌++◌, ap, ◌∙◌, sym, refl, cond, take, drop, eq-eqb, append_assoc, take-append-drop, subst, arith}
use Rattle.std.proofs.lemmas.Bool.{ne_eqb}
use Rattle.std.proofs.lemmas.List.Elements.{All-cons, All-head, All-tail, filter-append}
use Rattle.machine_states.specs.map_history.specs.declared.op.Request.{Request}
use Rattle.threaded_runs.specs.Own.{own_requests}

module _ (runners worker trace : ℕ) where
  abbrev IsOfTrace : Request → Type 0
  IsOfTrace q = q.trace ≡ trace

  all_own : (requests : List Request) → All IsOfTrace requests → trace % runners ≡ worker → own_requests runners worker requests ≡ requests
  all_own [] all own = refl
  all_own (q ∷ rest) all own =
      let kept = own_requests runners worker rest in
      ap (λ b. cond b (q ∷ kept) kept) (eq-eqb (q.trace % runners) worker (ap (λ t. t % runners) (All-head IsOfTrace q rest all) ∙ own))
      ∙ ap (λ l. q ∷ l) (all_own rest (All-tail IsOfTrace q rest all) own)

  none_own : (requests : List Request) → All IsOfTrace requests → (trace % runners ≡ worker → ⊥) → own_requests runners worker requests ≡ []
  none_own [] all other = refl
  none_own (q ∷ rest) all other =
      let kept = own_requests runners worker rest in
      ap (λ b. cond b (q ∷ kept) kept) (ne_eqb (q.trace % runners) worker (λ e. other (sym (ap (λ t. t % runners) (All-head IsOfTrace q rest all)) ∙ e)))
      ∙ none_own rest (All-tail IsOfTrace q rest all) other

module _ (runners worker n : ℕ) (rest : List Request) (first : Request) (more : List Request) (is : rest ≡ first ∷ more) (same : All (λ (q : Request). q.trace ≡ first.trace) (take n more)) where
  abbrev own_of : List Request → List Request
  own_of = own_requests runners worker

  -- the first ones are of the trace of the first
  one_trace : All (λ (q : Request). q.trace ≡ first.trace) (take (n + 1) rest)
  one_trace =
      let next : suc n ≡ n + 1 = omega arith in
      subst (λ (rs : List Request). All (λ (q : Request). q.trace ≡ first.trace) (take (n + 1) rs)) (sym is)
      (subst (λ k. All (λ (q : Request). q.trace ≡ first.trace) (take k (first ∷ more))) next
      (All-cons (λ (q : Request). q.trace ≡ first.trace) first (take n more) refl same))

  in_two : own_of rest ≡ own_of (take (n + 1) rest) ++ own_of (drop (n + 1) rest)
  in_two = ap own_of (sym (take-append-drop (n + 1) rest)) ∙ filter-append (λ (q : Request). q.trace % runners == worker) (take (n + 1) rest) (drop (n + 1) rest)

  module _ (own whole : List Request) (before : own ++ own_of rest ≡ whole) where
    -- they were added to the worker's
    pub run_added : first.trace % runners ≡ worker → (own ++ take (n + 1) rest) ++ own_of (drop (n + 1) rest) ≡ whole
    run_added is_own =
        append_assoc own (take (n + 1) rest) (own_of (drop (n + 1) rest))
        ∙ ap (λ l. own ++ (l ++ own_of (drop (n + 1) rest))) (sym (all_own runners worker first.trace (take (n + 1) rest) one_trace is_own))
        ∙ ap (λ l. own ++ l) (sym in_two) ∙ before

    -- they are another worker's
    pub run_passed : (first.trace % runners ≡ worker → ⊥) → own ++ own_of (drop (n + 1) rest) ≡ whole
    run_passed other =
        ap (λ l. own ++ (l ++ own_of (drop (n + 1) rest))) (sym (none_own runners worker first.trace (take (n + 1) rest) one_trace other))
        ∙ ap (λ l. own ++ l) (sym in_two) ∙ before
