-- A whole input: a text, the line that parts it from a report, and the report.
use Rattle.std.specs.Prelude.{◌≡◌, ◌⊎◌, ℕ, ◌+◌, ◌≤◌, Err, IsOk, List, Ok, Result, drop, length, take}
use Rattle.report_check.specs.Input.{IsTooLarge}
use Rattle.report_check.specs.Parts.{AreParted, NonePart}
use Rattle.report_check.specs.Verdicts.{IsLegalReport, Judges}
use Rattle.report_check.specs.declared.input.InputError.{InputError}
use Rattle.report_check.specs.declared.input.InputError.TheVariants as inputs
use Rattle.report_check.specs.declared.verdict.Verdict.{Verdict}
use Rattle.report_check.specs.declared.verdict.Verdict.TheVariants.{Legal}
use Rattle.report_check.specs.declared.whole.CheckError.{CheckError}
use Rattle.report_check.specs.declared.whole.CheckError.TheVariants.{Text, NoReport}
use Rattle.trace_reader.specs.Answer.{AreTracesOf}
use Rattle.trace_reader.specs.Lines.{lines_of}
use Rattle.trace_reader.specs.Text.{IsAccepted, IsFirstRefusal, requests_of, traces_of}
use Rattle.trace_reader.specs.declared.traces.TraceError.{TraceError}
use Rattle.trace_reader.specs.declared.traces.TraceError.TheVariants.{ReadFault, Memory, TooLarge}
use Rattle.trace_reader.specs.declared.traces.Traces.{Traces}

-- what stands before the line that parts the input, and what stands behind it
pub record ArePartsOf (input text report : List ℕ) : Type 0 where
  pub begin : ℕ
  pub end : ℕ
  pub parted : AreParted input begin end
  pub text_is : text ≡ take begin input
  pub report_is : report ≡ drop end input

-- the part that is read as a text: all of the input where no line parts it
abbrev pub IsTextOf : (input text : List ℕ) → Type 0
IsTextOf input text =
    ((report : List ℕ) × ArePartsOf input text report) ⊎ (NonePart (lines_of input) × (text ≡ input))

-- the text of the input is in the grammar, and its report gets this verdict
pub record IsJudged (verdict : Verdict) (input : List ℕ) : Type 0 where
  pub within : length input ≤ 8388608
  pub text : List ℕ
  pub report : List ℕ
  pub parts : ArePartsOf input text report
  pub traces : Traces
  pub are : AreTracesOf traces text
  pub judged : Judges verdict traces.count traces.requests report
  pub legal : IsLegalReport traces.count traces.requests report → verdict ≡ Legal

-- the text of the input is refused, for this
pub record IsTextRefused (input : List ℕ) (error : CheckError) : Type 0 where
  pub within : length input ≤ 8388608
  pub text : List ℕ
  pub is_text : IsTextOf input text
  pub why : TraceError
  pub first : IsFirstRefusal text why
  pub is : error ≡ Text why

-- the input is a text in the grammar, and no line parts it; what is missing would be the line after its last one
pub record LacksReport (input : List ℕ) (error : CheckError) : Type 0 where
  pub within : length input ≤ 8388608
  pub none : NonePart (lines_of input)
  pub accepted : IsAccepted input
  pub is : error ≡ NoReport (length (lines_of input) + 1)

-- why an input isn't checked, where it was read: it is too large, or its text is refused, or it has no report
abbrev pub IsRefusedFor : List ℕ → CheckError → Type 0
IsRefusedFor input error =
    (IsTooLarge input × (error ≡ Text (TooLarge 8388609))) ⊎ IsTextRefused input error ⊎ LacksReport input error

-- an error of the input as one of a text
abbrev pub input_error : InputError → TraceError
input_error inputs.ReadFault = ReadFault
input_error (inputs.TooLarge bytes) = TooLarge bytes
input_error inputs.Memory = Memory

-- memory was wanting, or a read failed
abbrev pub IsWant : CheckError → Type 0
IsWant error = (error ≡ Text Memory) ⊎ (error ≡ Text ReadFault)

-- what the check of an input may answer
abbrev pub IsAnswerOf : Result Verdict CheckError → List ℕ → Type 0
IsAnswerOf (Ok verdict) input = IsJudged verdict input
IsAnswerOf (Err error) input = IsWant error ⊎ IsRefusedFor input error

-- the input is a text in the grammar, a line that parts it from a report, and the report
pub record HasReport (input : List ℕ) : Type 0 where
  pub within : length input ≤ 8388608
  pub text : List ℕ
  pub report : List ℕ
  pub parts : ArePartsOf input text report
  pub accepted : IsAccepted text

-- and that report is legal
pub record HasLegalReport (input : List ℕ) : Type 0 where
  pub within : length input ≤ 8388608
  pub text : List ℕ
  pub report : List ℕ
  pub parts : ArePartsOf input text report
  pub accepted : IsAccepted text
  pub legal : IsLegalReport (traces_of text) (requests_of text) report

-- memory was wanting, or a read failed
abbrev pub Lacks : Result Verdict CheckError → Type 0
Lacks answer = (answer ≡ Err (Text Memory)) ⊎ (answer ≡ Err (Text ReadFault))

-- an input with a report gets a verdict, and a legal report no other than Legal; any other input is refused for its
-- cause. Or memory was wanting, or a read failed
pub record IsExactOf (answer : Result Verdict CheckError) (input : List ℕ) : Type 0 where
  pub judged : HasReport input → IsOk answer ⊎ Lacks answer
  pub legal : HasLegalReport input → (answer ≡ Ok Legal) ⊎ Lacks answer
  pub refused : (error : CheckError) → IsRefusedFor input error → (answer ≡ Err error) ⊎ Lacks answer
