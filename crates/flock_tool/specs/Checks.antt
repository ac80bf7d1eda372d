-- What `check` leaves, by its status.
use Rattle.std.specs.Prelude.{◌≡◌, ◌≢◌, ◌⊎◌, ℕ, List, ◌++◌, IfSome, codes, decimal}
use Rattle.report_check.specs.Input.{StopsWithin}
use Rattle.report_check.specs.Inputs.{HasLegalReport, HasReport, IsJudged, IsRefusedFor}
use Rattle.report_check.specs.declared.verdict.BadReport.{BadReport}
use Rattle.report_check.specs.declared.verdict.BadReport.TheVariants as faults_of
use Rattle.report_check.specs.declared.verdict.Verdict.{Verdict}
use Rattle.report_check.specs.declared.verdict.Verdict.TheVariants.{Legal, Fails as FailsAt}
use Rattle.report_check.specs.declared.whole.CheckError.{CheckError}
use Rattle.report_check.specs.declared.whole.CheckError.TheVariants.{Text, NoReport}
use Rattle.load_counts.specs.run_reports.specs.report_text.specs.Sink.{Extends, ExtendsInPart}
use Rattle.flock_tool.specs.End.{error_line, error_status}
use Rattle.flock_tool.specs.Streams.{Fails, IsUntouched, Stream, Told}

abbrev pub test_name : BadReport → List ℕ
test_name faults_of.Form = codes "form"
test_name faults_of.Rank = codes "rank"
test_name faults_of.Reply = codes "reply"
test_name faults_of.Final = codes "final"

-- how a verdict is printed
abbrev pub verdict_line : Verdict → List ℕ
verdict_line Legal = codes "legal\n"
verdict_line (FailsAt line kind) = codes "line " ++ decimal line ++ codes ": " ++ test_name kind ++ codes "\n"

-- and its status
abbrev pub verdict_status : Verdict → ℕ
verdict_status Legal = 0
verdict_status (FailsAt line kind) = 10

-- how it is told that an input wasn't checked
abbrev pub check_line : CheckError → List ℕ
check_line (Text error) = error_line error
check_line (NoReport line) = codes "flock: line " ++ decimal line ++ codes ": no report\n"

abbrev pub check_status : CheckError → ℕ
check_status (Text error) = error_status error
check_status (NoReport line) = 3

-- the statuses behind a check whose verdict was to be printed
abbrev pub IsVerdictStatus : ℕ → Type 0
IsVerdictStatus number = (number ≡ 0) ⊎ (number ≡ 10) ⊎ (number ≡ 9)

-- the verdict was printed whole, and the status is its own; or, at 9, the sink failed and holds a part
pub record IsSaid (verdict : Verdict) (number : ℕ) (sink faults : Stream) : Type 0 where
  pub status : number ≢ 9 → number ≡ verdict_status verdict
  pub whole : number ≢ 9 → Extends sink.before (verdict_line verdict) sink.after
  pub in_part : number ≡ 9
      → ExtendsInPart sink.before (verdict_line verdict) sink.after × Fails sink
      × Told (codes "flock: write fault\n") faults
  pub untold : number ≢ 9 → IsUntouched faults
  pub steady : number ≢ 9 → sink.faults_after ≡ sink.faults_before

-- what this input ends with, where it was read: with a verdict where it has a report, with 0 where that is legal, and
-- else with its refusal; unless memory is wanting
pub record IsDue (number : ℕ) (input : List ℕ) : Type 0 where
  pub judged : HasReport input → IsVerdictStatus number ⊎ (number ≡ 7)
  pub legal : HasLegalReport input → (number ≡ 0) ⊎ (number ≡ 9) ⊎ (number ≡ 7)
  pub refused : (error : CheckError) → IsRefusedFor input error → (number ≡ check_status error) ⊎ (number ≡ 7)

-- what `check` prints: a verdict whole at 0 and 10, in part at 9, and nothing at 3, 4, 7 and 8
pub record CheckPrints (number : ℕ) (source sink faults : Stream) : Type 0 where
  pub statuses : IsVerdictStatus number ⊎ (number ≡ 3) ⊎ (number ≡ 4) ⊎ (number ≡ 7) ⊎ (number ≡ 8)
  -- the input was read whole, its text is in the grammar, and the report in it gets this verdict: at 0 it is legal, and
  -- at 10 a line fails
  pub judged : IsVerdictStatus number
      → (verdict : Verdict) × (IfSome source.before (IsJudged verdict) × IsSaid verdict number sink faults)
  -- the input is too large, its text is refused, or it has no report
  pub refused : (number ≡ 3) ⊎ (number ≡ 4)
      → (error : CheckError) × (IfSome source.before (λ input. IsRefusedFor input error)
      × (number ≡ check_status error) × Told (check_line error) faults)
  -- where no fault is counted, the input alone settles which of these it is
  pub due : (Fails source → ⊥) → IfSome source.before (IsDue number)
  pub memory : number ≡ 7 → Told (codes "flock: memory\n") faults
  pub read : number ≡ 8
      → Fails source × StopsWithin source.before source.after × Told (codes "flock: read fault\n") faults
  pub silent : (IsVerdictStatus number → ⊥) → IsUntouched sink
  pub reads : number ≢ 8 → source.faults_after ≡ source.faults_before
