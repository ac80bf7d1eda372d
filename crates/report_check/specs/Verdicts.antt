-- What the check of a report may answer.
use Rattle.std.specs.Prelude.{◌≡◌, ◌≢◌, ℕ, ◌-◌, ◌^◌, List, All, Option, None, Some, map, min}
use Rattle.std.specs.FinMap.{empty, len}
use Rattle.history_orders.specs.map_history.specs.declared.op.Request.{Request}
use Rattle.history_orders.specs.map_history.specs.Replay.{map_after_all}
use Rattle.history_orders.specs.map_history.specs.Words.{IsReply}
use Rattle.report_check.specs.declared.verdict.BadReport.{BadReport}
use Rattle.report_check.specs.declared.verdict.BadReport.TheVariants.{Form, Rank, Reply, Final}
use Rattle.report_check.specs.declared.verdict.Verdict.{Verdict}
use Rattle.report_check.specs.declared.verdict.Verdict.TheVariants.{Legal, Fails}
use Rattle.report_check.specs.Faults.{IsFirstLine, IsRankFault, IsReplyFault, NoFault}
use Rattle.report_check.specs.Lines.{IsFirstBad}
use Rattle.report_check.specs.Rows.{SaysRows, last_number, places}
use Rattle.report_text.specs.Legal.{IsHistory, IsLegal, Served, op_of}
use Rattle.report_text.specs.Report.{Answer, Row, report_text}

-- an answer's value has 32 bits
abbrev pub HasReply : Option Answer → Type 0
HasReply None = Unit {0}
HasReply (Some answer) = IsReply answer.reply

-- the bytes are the text of a legal report on these requests
pub record IsLegalReport (traces : ℕ) (requests : List Request) (bytes : List ℕ) : Type 0 where
  pub rows : List Row
  pub size : ℕ
  pub are : map (λ (row : Row). row.request) rows ≡ requests
  pub replies : All (λ (row : Row). HasReply row.answer) rows
  pub text : bytes ≡ report_text traces rows size
  pub legal : IsLegal rows size

-- the numbers of lines end with the last number of 32 bits
abbrev pub IsLine : ℕ → ℕ → Type 0
IsLine line number = line ≡ min number (2 ^ 32 - 1)

-- a line can't stand in its place
pub record FailsForm (traces : ℕ) (requests : List Request) (bytes : List ℕ) (line : ℕ) : Type 0 where
  pub number : ℕ
  pub first : IsFirstBad (places traces requests) bytes number
  pub is : IsLine line number

-- each line can, and a rank is wrong
pub record FailsRank (traces : ℕ) (requests : List Request) (bytes : List ℕ) (line : ℕ) : Type 0 where
  pub rows : List Row
  pub size : ℕ
  pub says : SaysRows traces requests rows size bytes
  pub number : ℕ
  pub first : IsFirstLine (IsRankFault rows) number
  pub is : IsLine line number

-- the lines and the ranks are right, and these are the served requests in the order of their ranks
pub record HasHistory (traces : ℕ) (requests : List Request) (bytes : List ℕ) (rows : List Row) (size : ℕ)
    (history : List Served) : Type 0 where
  pub says : SaysRows traces requests rows size bytes
  pub ranks : NoFault (IsRankFault rows)
  pub is : IsHistory rows history

-- and a reply is wrong
pub record FailsReply (traces : ℕ) (requests : List Request) (bytes : List ℕ) (line : ℕ) : Type 0 where
  pub rows : List Row
  pub size : ℕ
  pub history : List Served
  pub has : HasHistory traces requests bytes rows size history
  pub number : ℕ
  pub first : IsFirstLine (IsReplyFault history rows) number
  pub is : IsLine line number

-- the replies are right too, and the final number is wrong
pub record FailsFinal (traces : ℕ) (requests : List Request) (bytes : List ℕ) (line : ℕ) : Type 0 where
  pub rows : List Row
  pub size : ℕ
  pub history : List Served
  pub has : HasHistory traces requests bytes rows size history
  pub replies : NoFault (IsReplyFault history rows)
  pub other : size ≢ len (map_after_all empty (map op_of history))
  pub is : IsLine line (last_number traces requests)

abbrev pub FailsAt : BadReport → ℕ → List Request → List ℕ → ℕ → Type 0
FailsAt Form traces requests bytes line = FailsForm traces requests bytes line
FailsAt Rank traces requests bytes line = FailsRank traces requests bytes line
FailsAt Reply traces requests bytes line = FailsReply traces requests bytes line
FailsAt Final traces requests bytes line = FailsFinal traces requests bytes line

-- a report that is legal, or the first failing line of the first test that fails
abbrev pub Judges : Verdict → ℕ → List Request → List ℕ → Type 0
Judges Legal traces requests bytes = IsLegalReport traces requests bytes
Judges (Fails line kind) traces requests bytes = FailsAt kind traces requests bytes line
