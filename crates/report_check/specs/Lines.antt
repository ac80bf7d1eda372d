-- What each line of a report says, and the first line that can't stand in its place.
use Rattle.std.specs.Prelude.{◌≡◌, ◌≢◌, ◌⊎◌, ℕ, ◌+◌, ◌^◌, List, [], ◌∷◌, ◌++◌, Option, None, Some, codes, decimal, length, min, slice_index, true}
use Rattle.history_orders.specs.map_history.specs.Words.{IsReply}
use Rattle.report_text.specs.Report.{Answer, Line, reply_text}
use Rattle.report_text.specs.Report.Line.{trace_line, answer_line, final_line}
use Rattle.trace_reader.specs.Fields.{is_number, value_of}

-- digits with no leading zero. A number above 2^32 counts as 2^32: as a rank and as a final number wrong either way
pub record IsNumeral (digits : List ℕ) (value : ℕ) : Type 0 where
  pub number : is_number digits ≡ true
  pub shortest : slice_index digits 0 ≡ 48 → length digits ≡ 1
  pub stands : value ≡ min (value_of digits) (2 ^ 32)

-- a rank, a space, and a reply whose value has 32 bits
pub record SaysAnswer (answer : Answer) (text : List ℕ) : Type 0 where
  pub digits : List ℕ
  pub rank : IsNumeral digits answer.rank
  pub reply : IsReply answer.reply
  pub is : text ≡ digits ++ 32 ∷ reply_text answer.reply

pub record SaysSize (size : ℕ) (text : List ℕ) : Type 0 where
  pub digits : List ℕ
  pub numeral : IsNumeral digits size
  pub is : text ≡ codes "final " ++ digits

-- the text says this line, without the line feed that ends it
abbrev pub Says : Line → List ℕ → Type 0
Says (trace_line trace) text = text ≡ codes "trace " ++ decimal trace
Says (answer_line (Some answer)) text = SaysAnswer answer text
Says (answer_line None) text = text ≡ codes "- unserved"
Says (final_line size) text = SaysSize size text

-- the bytes say these lines, each ended by a line feed, and nothing stands behind them
abbrev pub SayAll : List Line → List ℕ → Type 0
SayAll [] bytes = bytes ≡ []
SayAll (line ∷ lines) bytes =
    (text : List ℕ) × (more : List ℕ) × Says line text × (bytes ≡ text ++ 10 ∷ more) × SayAll lines more

-- the text can stand in the place of this line: it is the line of the same trace, some request's, or some last one
abbrev pub CanStandFor : Line → List ℕ → Type 0
CanStandFor (trace_line trace) text = Says (trace_line trace) text
CanStandFor (answer_line answer) text = (any : Option Answer) × Says (answer_line any) text
CanStandFor (final_line size) text = (any : ℕ) × Says (final_line any) text

-- no line stands at the front that can stand in this place: it is another, or no line feed ends it, or none is there
abbrev pub NoneStands : Line → List ℕ → Type 0
NoneStands line bytes = (text more : List ℕ) → CanStandFor line text → bytes ≡ text ++ 10 ∷ more → ⊥

-- the number, from 1, of the first line that can't stand in its place; behind the last place no byte may stand
abbrev pub IsFirstBad : List Line → List ℕ → ℕ → Type 0
IsFirstBad [] bytes number = (number ≡ 1) × (bytes ≢ [])
IsFirstBad (line ∷ lines) bytes number =
    ((number ≡ 1) × NoneStands line bytes)
    ⊎ ((text : List ℕ) × (more : List ℕ) × (earlier : ℕ) × CanStandFor line text × (bytes ≡ text ++ 10 ∷ more)
    × (number ≡ earlier + 1) × IsFirstBad lines more earlier)
