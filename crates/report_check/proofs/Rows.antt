-- The rows of requests with what is said of them, each by its place.
use Rattle.std.proofs.Common.{◌≡◌, ℕ, zero, suc, ◌+◌, ◌<◌, cond, List, [], ◌∷◌, Option, None, Some, is_some, length, get_or, refl, sym, ap, ◌∙◌, arith}
use Rattle.std.specs.Prelude.{count_by, slice_get}
use Rattle.std.proofs.lemmas.List.Sums.{sum_by-cons}
use Rattle.std.proofs.lemmas.Option.{slice_get_within}
use Rattle.small_lemmas.proofs.Lists.{some_the_same}
use Rattle.history_orders.specs.map_history.specs.declared.op.Entry.{Entry}
use Rattle.history_orders.specs.map_history.specs.declared.op.Request.{Request}
use Rattle.report_text.specs.Legal.{served_in}
use Rattle.report_text.specs.Report.{Answer, Row}
use Rattle.report_check.specs.Faults.{IsAnsweredAt}
use Rattle.report_check.specs.Histories.{no_request}
use Rattle.report_check.specs.Said.{answer_said, rows_said, said_answer}

abbrev pub row_at : List Request → List (Option Entry) → ℕ → Row
row_at requests answers i = record { request = get_or requests i no_request; answer = answer_said (get_or answers i None) }

pub rows_length : (requests : List Request) (answers : List (Option Entry)) → length answers ≡ length requests → length (rows_said requests answers) ≡ length requests
rows_length [] answers long = refl
rows_length (request ∷ requests) [] long = absurd (omega (arith, long))
rows_length (request ∷ requests) (said ∷ answers) long = omega (arith, rows_length requests answers (omega (arith, long)))

pub row_get : (requests : List Request) (answers : List (Option Entry)) (i : ℕ) → length answers ≡ length requests → i < length requests → slice_get (rows_said requests answers) i ≡ Some (row_at requests answers i)
row_get [] answers i long within = absurd (omega (arith, within))
row_get (request ∷ requests) [] i long within = absurd (omega (arith, long))
row_get (request ∷ requests) (said ∷ answers) zero long within = refl
row_get (request ∷ requests) (said ∷ answers) (suc i) long within = row_get requests answers i (omega (arith, long)) (omega (arith, within))

-- the row in a place
pub record IsRowAt (requests : List Request) (answers : List (Option Entry)) (i : ℕ) (row : Row) : Type 0 where
  pub within : i < length requests
  pub is : row ≡ row_at requests answers i

pub row_is : (requests : List Request) (answers : List (Option Entry)) (i : ℕ) (row : Row) → length answers ≡ length requests → slice_get (rows_said requests answers) i ≡ Some row → IsRowAt requests answers i row
row_is requests answers i row long at =
    let within : i < length requests = omega (arith, slice_get_within (rows_said requests answers) i row at, rows_length requests answers long) in
    record { within = within; is = some_the_same row (row_at requests answers i) (sym at ∙ row_get requests answers i long within) }

-- the answer of a row is what is said of its request
pub answer_is : (requests : List Request) (answers : List (Option Entry)) (i : ℕ) (row : Row) (answer : Answer) → length answers ≡ length requests → IsAnsweredAt (rows_said requests answers) i row answer
    → answer_said (get_or answers i None) ≡ Some answer
answer_is requests answers i row answer long at = ap (λ (r : Row). r.answer) (sym (row_is requests answers i row long at.at).is) ∙ at.is

pub answer_of_entry : (requests : List Request) (answers : List (Option Entry)) (i : ℕ) (row : Row) (answer : Answer) (entry : Entry) → length answers ≡ length requests → IsAnsweredAt (rows_said requests answers) i row answer
    → get_or answers i None ≡ Some entry → answer ≡ said_answer entry
answer_of_entry requests answers i row answer entry long at said =
    some_the_same answer (said_answer entry) (sym (answer_is requests answers i row answer long at) ∙ ap answer_said said)

pub no_answer : (requests : List Request) (answers : List (Option Entry)) (i : ℕ) (row : Row) (answer : Answer) → length answers ≡ length requests → IsAnsweredAt (rows_said requests answers) i row answer
    → get_or answers i None ≡ None → ⊥
no_answer requests answers i row answer long at said = let e : ◌≡◌ {A = Option Answer} None (Some answer) = sym (ap answer_said said) ∙ answer_is requests answers i row answer long at in absurd (cc)

pub answered_here : (requests : List Request) (answers : List (Option Entry)) (i : ℕ) (entry : Entry) → length answers ≡ length requests → i < length requests → get_or answers i None ≡ Some entry
    → IsAnsweredAt (rows_said requests answers) i (row_at requests answers i) (said_answer entry)
answered_here requests answers i entry long within said = record { at = row_get requests answers i long within; is = ap answer_said said }

count_cons : (said : Option Entry) (answers : List (Option Entry)) → count_by is_some (said ∷ answers) ≡ cond (is_some said) 1 0 + count_by is_some answers
count_cons said answers = sum_by-cons (λ (o : Option Entry). cond (is_some o) 1 0) said answers

-- so many are served
pub served_count : (requests : List Request) (answers : List (Option Entry)) → length answers ≡ length requests → length (served_in (rows_said requests answers)) ≡ count_by is_some answers
served_count [] [] long = refl
served_count [] (said ∷ answers) long = absurd (omega (arith, long))
served_count (request ∷ requests) [] long = absurd (omega (arith, long))
served_count (request ∷ requests) (None ∷ answers) long = omega (arith, served_count requests answers (omega (arith, long)), count_cons None answers)
served_count (request ∷ requests) (Some entry ∷ answers) long = omega (arith, served_count requests answers (omega (arith, long)), count_cons (Some entry) answers)
