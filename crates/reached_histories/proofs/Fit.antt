-- What the test of a look says of it: it is a read of the worker's next request, which fits what was read for its plan, and what
-- its body wants was found behind that.
use Rattle.std.specs.Prelude.{◌==◌, ◌&&◌, ◌||◌, not, Bool, true, false, List, [], ◌∷◌, take, slice_get, Option, Some}
use Rattle.std.specs.List.{list_all}
use Rattle.std.proofs.Common.{◌≡◌, ◌≢◌, ℕ, suc, refl, subst, arith}
use Rattle.std.proofs.lemmas.Bool.{and_parts}
use Rattle.std.proofs.lemmas.Bool.Decides.{nat_tests}
use Rattle.machine_states.specs.epoch_core.specs.small_lemmas.proofs.Bools.{negated as not_so}
use Rattle.machine_states.specs.epoch_core.specs.small_lemmas.proofs.Numbers.{tested_equal as same_test}
use Rattle.machine_states.specs.map_history.specs.declared.op.Request.{Request}
use Rattle.machine_states.specs.body_terms.specs.Shape.{is_look}
use Rattle.machine_states.specs.body_terms.specs.Word.{is_free, is_spent}
use Rattle.machine_states.specs.body_terms.specs.declared.step.Step.{Step}
use Rattle.machine_states.specs.body_terms.specs.declared.step.Step.TheVariants.{Load, Want, Answer}
use Rattle.machine_states.specs.table_words.specs.declared.layout.Layout.{Layout}
use Rattle.machine_states.specs.structure_laws.specs.Meaning.{Meaning}
use Rattle.machine_states.specs.structure_laws.specs.Shape.{HasStep}
use Rattle.machine_states.specs.runner_parts.specs.declared.entries.Known.{Known}
use Rattle.machine_states.specs.runner_parts.specs.declared.entries.Look.{Look}
use Rattle.machine_states.specs.runner_parts.specs.Tests.{has_pair, is_open, is_next, serves}
use Rattle.machine_states.specs.runner_steps.specs.Sections.{reply_in}
use Rattle.machine_states.specs.runner_steps.specs.Outside.{is_due}
use Rattle.machine_states.specs.runner_steps.specs.Reads.{is_found, is_met, finds, is_looking, is_planned, is_fit, planned_of, found_of}
use Rattle.reached_histories.proofs.Supplying.{IsNextRequest, next_request, passes}

-- a pair that the list has stands in it
pub pair_at : (xs : List (ℕ × ℕ)) (a b : ℕ) → has_pair xs a b ≡ true → (i : ℕ) × (slice_get xs i ≡ Some (a, b))
pair_at [] a b e = absurd (let z = e in cc)
pair_at (x ∷ xs) a b e = by (x.0 == a && x.1 == b) refl (λ more. pair_at xs a b more) e
  where
    by : (t : Bool) → (x.0 == a && x.1 == b) ≡ t → (has_pair xs a b ≡ true → (i : ℕ) × (slice_get xs i ≡ Some (a, b)))
        → (t || has_pair xs a b) ≡ true → (i : ℕ) × (slice_get (x ∷ xs) i ≡ Some (a, b))
    by true is rest e =
        let h = and_parts (x.0 == a) (x.1 == b) is in
        let one = same_test x.0 a h.0 in
        let two = same_test x.1 b h.1 in
        (0, λ i. Some (one i, two i))
    by false is rest e = let h = rest e in (suc h.0, h.1)

-- a body that answers something has its Answer
pub answer_at : (body : List Step) → reply_in body ≢ 0 → (i : ℕ) × (slice_get body i ≡ Some (Answer (reply_in body)))
answer_at [] some = absurd (some refl)
answer_at (Answer reply ∷ steps) some = (0, refl)
answer_at (step ∷ steps) some = let h = answer_at steps some in (suc h.0, h.1)

module _ (m : Meaning) (l : Layout) (rs : List Request) (r : ℕ) (x : Look) (known : List Known) (walk : List (ℕ × ℕ))
    (fit : is_fit m l rs r x known walk ≡ true) where
  abbrev body : List Step
  body = m.body x.thunk

  looking : is_looking body ≡ true
  looking = (and_parts (is_looking body) _ fit).0

  rest : (finds body (found_of m x walk) ≡ true) × (is_planned m l rs r x known walk ≡ true)
  rest = and_parts (finds body (found_of m x walk)) _ (and_parts (is_looking body) _ fit).1

  planned : (is_open l (planned_of m x walk) x.thunk ≡ true) × (is_due m l rs r (take x.known known) (planned_of m x walk) x.thunk ≡ true)
  planned = and_parts (is_open l (planned_of m x walk) x.thunk) _ rest.1

  open_parts : (is_free x.thunk.word ≡ true) × ((not (is_spent l.version_max x.thunk.word) && has_pair (planned_of m x walk) x.thunk.lock x.thunk.word) ≡ true)
  open_parts = and_parts (is_free x.thunk.word) _ planned.0

  pub looks_only : (i : ℕ) (step : Step) → HasStep m x.thunk i step → is_look step ≡ true
  looks_only i step at = passes is_look body i step (and_parts (list_all is_look body) _ looking).0 at

  pub answers_some : reply_in body ≢ 0
  answers_some none = absurd (let z : not (0 == 0) ≡ true = subst (λ (n : ℕ). not (n == 0) ≡ true) none (and_parts (list_all is_look body) _ looking).1 in cc)

  pub lock_free : is_free x.thunk.word ≡ true
  lock_free = open_parts.0

  pub lock_unspent : is_spent l.version_max x.thunk.word ≡ false
  lock_unspent = not_so _ (and_parts _ (has_pair (planned_of m x walk) x.thunk.lock x.thunk.word) open_parts.1).0

  pub lock_pair : has_pair (planned_of m x walk) x.thunk.lock x.thunk.word ≡ true
  lock_pair = (and_parts (not (is_spent l.version_max x.thunk.word)) _ open_parts.1).1

  pub want_found : (i j place reg word : ℕ) → HasStep m x.thunk i (Load place reg) → HasStep m x.thunk j (Want reg word)
      → (k : ℕ) × (slice_get (found_of m x walk) k ≡ Some (place, word))
  want_found i j place reg word load want =
      let met = passes (is_met body (found_of m x walk)) body j (Want reg word) (and_parts _ (list_all (is_met body (found_of m x walk)) body) rest.0).1 want in
      let here = passes (is_found (found_of m x walk) reg word) body i (Load place reg) met load in
      pair_at (found_of m x walk) place word (loads_it reg (has_pair (found_of m x walk) place word) here)
    where
      loads_it : (reg : ℕ) (b : Bool) → (not (reg == reg) || b) ≡ true → b ≡ true
      loads_it reg b e = grind (arith, nat_tests)

  -- the request is the worker's next one, by what it knew when the clock was loaded
  pub next : IsNextRequest m l rs r x.thunk (take x.known known)
  next = next_request m l rs r x.thunk (take x.known known) (and_parts (is_next l r rs (take x.known known) (slice_get rs x.thunk.request)) _ planned.1).0

  pub serves_it : m.fits l next.request.op (planned_of m x walk) x.thunk ≡ true
  serves_it = subst (λ (o : Option Request). serves m l (planned_of m x walk) x.thunk o ≡ true) next.of_request
      (and_parts (is_next l r rs (take x.known known) (slice_get rs x.thunk.request)) _ planned.1).1
