-- What was planned and found is a read: its reply may be written once the lock was read again.
use Rattle.std.specs.Prelude.{◌==◌, ◌&&◌, not, Bool, true, false, take, drop, slice_get}
use Rattle.std.proofs.Common.{◌≡◌, ◌≢◌, ℕ, zero, suc, ◌-◌, List, [], ◌∷◌, ◌++◌, length, length-append, refl, ap, ◌∙◌, arith, Some}
use Rattle.std.specs.List.{list_all}
use Rattle.std.proofs.lemmas.Bool.{and_parts}
use Rattle.std.proofs.lemmas.Bool.Decides.{nat_tests}
use Rattle.std.proofs.Math.Seq.{take-append_seam, drop-append_seam}
use Rattle.machine_states.specs.map_history.specs.declared.op.Request.{Request}
use Rattle.machine_states.specs.body_terms.specs.Shape.{is_look, loaded_places}
use Rattle.machine_states.specs.body_terms.specs.Word.{is_free, is_spent}
use Rattle.machine_states.specs.body_terms.specs.declared.step.Step.{Step}
use Rattle.machine_states.specs.body_terms.specs.declared.thunk.Thunk.{Thunk}
use Rattle.machine_states.specs.table_words.specs.declared.layout.Layout.{Layout}
use Rattle.machine_states.specs.structure_laws.specs.Scene.{Readings}
use Rattle.machine_states.specs.structure_laws.specs.Meaning.{Meaning}
use Rattle.machine_states.specs.runner_parts.specs.declared.entries.Known.{Known}
use Rattle.machine_states.specs.runner_parts.specs.declared.entries.Look.{Look}
use Rattle.machine_states.specs.runner_parts.specs.declared.entries.LookStage.TheVariants.{Looked}
use Rattle.machine_states.specs.runner_parts.specs.Tests.{has_pair, is_open, is_next, serves}
use Rattle.machine_states.specs.runner_steps.specs.Sections.{reply_in}
use Rattle.machine_states.specs.runner_steps.specs.Outside.{is_due}
use Rattle.machine_states.specs.runner_steps.specs.Reads.{are_of, finds, is_looking, is_planned, is_fit, is_again, loads_of, planned_of, found_of}

-- readings that are of these places are as many
pub as_many : (places : List ℕ) (ys : Readings) → are_of places ys ≡ true → length ys ≡ length places
as_many [] [] e = refl
as_many [] (y ∷ ys) e = absurd (let z = e in cc)
as_many (place ∷ places) [] e = absurd (let z = e in cc)
as_many (place ∷ places) (y ∷ ys) e = ap suc (as_many places ys (and_parts (y.0 == place) (are_of places ys) e).1)

append_on : {A : Type 0} (xs ys zs : List A) → (xs ++ ys) ++ zs ≡ xs ++ (ys ++ zs)
append_on [] ys zs = refl
append_on (x ∷ xs) ys zs = ap (λ s. x ∷ s) (append_on xs ys zs)

take_all : {A : Type 0} (xs : List A) → take (length xs) xs ≡ xs
take_all [] = refl
take_all (x ∷ xs) = ap (λ s. x ∷ s) (take_all xs)

three : (a b c : Bool) → a ≡ true → b ≡ true → c ≡ true → (a && (b && c)) ≡ true
three a b c first second third = ap (λ x. x && (b && c)) first ∙ (ap (λ x. x && c) second ∙ third)

two : (a b : Bool) → a ≡ true → b ≡ true → (a && b) ≡ true
two a b first second = ap (λ x. x && b) first ∙ second

module _ (m : Meaning) (l : Layout) (requests : List Request) (r : ℕ) (request : Request) (thunk : Thunk) (readings found : Readings) (known : List Known)
    (clock : ℕ) where
  -- the look behind the load of the clock
  abbrev pub look : Look
  look = record { thunk = thunk; clock = clock; walked = length (readings ++ found); known = length known; stage = Looked }

  abbrev body : List Step
  body = m.body thunk

  module _ (finding : finds body found ≡ true) where
    counts : length found ≡ length (loaded_places body)
    counts = as_many (loaded_places body) found (and_parts (are_of (loaded_places body) found) _ finding).0

    before : length (readings ++ found) - loads_of m look ≡ length readings
    before = let e = length-append readings found in let same = counts in omega (arith, e, same)

    module _ (last : Readings) where
      abbrev walk : Readings
      walk = (readings ++ found) ++ last

      planned_is : planned_of m look walk ≡ readings
      planned_is = ap (λ n. take n walk) before ∙ (ap (take (length readings)) (append_on readings found last) ∙ take-append_seam readings (found ++ last))

      found_is : found_of m look walk ≡ found
      found_is = ap (λ n. drop n (take (length (readings ++ found)) walk)) before
          ∙ (ap (drop (length readings)) (take-append_seam (readings ++ found) last) ∙ drop-append_seam readings found)

      pub rest_is : drop look.walked walk ≡ last
      rest_is = drop-append_seam (readings ++ found) last

      -- it is a read, by what was planned and found
      pub fits_so : list_all is_look body ≡ true → reply_in body ≢ 0 → is_free thunk.word ≡ true → is_spent l.version_max thunk.word ≡ false
          → has_pair readings thunk.lock thunk.word ≡ true → slice_get requests thunk.request ≡ Some request
          → is_next l r requests known (Some request) ≡ true → m.fits l request.op readings thunk ≡ true
          → is_fit m l requests r look known walk ≡ true
      fits_so looks some free unspent read there next fits = three (is_looking body) (finds body (found_of m look walk)) (is_planned m l requests r look known walk)
          (two (list_all is_look body) (not (reply_in body == 0)) looks (not_zero (reply_in body) some))
          (ap (finds body) found_is ∙ finding)
          (two (is_open l (planned_of m look walk) thunk) (is_due m l requests r (take look.known known) (planned_of m look walk) thunk) opened due)
        where
          not_zero : (n : ℕ) → n ≢ 0 → not (n == 0) ≡ true
          not_zero zero some = absurd (some refl)
          not_zero (suc n) some = let z : not (suc n == 0) ≡ true = grind (arith, nat_tests) in z

          opened : is_open l (planned_of m look walk) thunk ≡ true
          opened = three (is_free thunk.word) (not (is_spent l.version_max thunk.word)) (has_pair (planned_of m look walk) thunk.lock thunk.word)
              free (ap not unspent) (ap (λ xs. has_pair xs thunk.lock thunk.word) planned_is ∙ read)

          due : is_due m l requests r (take look.known known) (planned_of m look walk) thunk ≡ true
          due = (λ i. is_next l r requests (take_all known i) (there i) && serves m l (planned_is i) thunk (there i))
              ∙ two (is_next l r requests known (Some request)) (m.fits l request.op readings thunk) next fits

    -- the lock was read once more, with its word
    pub is_again_so : is_again look ((readings ++ found) ++ (thunk.lock, thunk.word) ∷ []) ≡ true
    is_again_so = ap (λ xs. length xs == 1 && has_pair xs thunk.lock thunk.word) (rest_is ((thunk.lock, thunk.word) ∷ []))
        ∙ pair_here thunk.lock thunk.word
      where
        pair_here : (a b : ℕ) → (true && has_pair ((a, b) ∷ []) a b) ≡ true
        pair_here a b = grind (arith, nat_tests)
