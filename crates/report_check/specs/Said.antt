-- What the code reads off a report, as the lines and rows that it stands for.
use Rattle.std.specs.Prelude.{◌≡◌, ℕ, ◌-◌, ◌<◌, List, [], ◌∷◌, ◌++◌, Option, None, Some, get_or, length}
use Rattle.history_orders.specs.map_history.specs.declared.op.Request.{Request}
use Rattle.report_check.specs.declared.form.Form.{Form}
use Rattle.history_orders.specs.map_history.specs.declared.op.Entry.{Entry}
use Rattle.report_check.specs.Faults.{EndsTurn}
use Rattle.report_check.specs.Lines.{IsNumeral, Says}
use Rattle.report_check.specs.Rows.{SaysRows}
use Rattle.report_text.specs.Report.{Answer, Line, Row}
use Rattle.trace_reader.specs.Lines.{IsOneLine}

abbrev pub said_answer : Entry → Answer
said_answer entry = record { rank = entry.stamp; reply = entry.reply }

abbrev pub answer_said : Option Entry → Option Answer
answer_said None = None
answer_said (Some entry) = Some (said_answer entry)

-- requests with what is said of them
abbrev pub rows_said : List Request → List (Option Entry) → List Row
rows_said (request ∷ requests) (said ∷ answers) =
    record { request = request; answer = answer_said said } ∷ rows_said requests answers
rows_said _ _ = []

-- one line, the line feed that ends it, and more
pub record IsCut (bytes line more : List ℕ) : Type 0 where
  pub one : IsOneLine line
  pub cut : bytes ≡ line ++ 10 ∷ more

-- the bytes begin with a line that says this
pub record IsNext (line : Line) (bytes more : List ℕ) : Type 0 where
  pub text : List ℕ
  pub says : Says line text
  pub cut : bytes ≡ text ++ 10 ∷ more

-- a numeral behind a word
pub record SaysNumber (word text : List ℕ) (value : ℕ) : Type 0 where
  pub digits : List ℕ
  pub numeral : IsNumeral digits value
  pub is : text ≡ word ++ digits

-- the bytes are a report that says this
pub record IsFormOf (form : Form) (traces : ℕ) (requests : List Request) (bytes : List ℕ) : Type 0 where
  pub long : length form.answers.items ≡ length requests
  pub says : SaysRows traces requests (rows_said requests form.answers.items) form.size bytes

-- the request right before is of the same trace, and is unserved or has a rank that isn't lower
pub record Follows (requests : List Request) (answers : List (Option Entry)) (i : ℕ) (entry : Entry) : Type 0 where
  pub some : 0 < i
  pub trace : (request : Request) → (get_or requests (i - 1) request).trace ≡ (get_or requests i request).trace
  pub ends : EndsTurn (answer_said (get_or answers (i - 1) None)) (said_answer entry)
