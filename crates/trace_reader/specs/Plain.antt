-- A request as it is mostly written: one blank between its fields, and behind the last nothing but the line feed.
use Rattle.std.specs.Prelude.{◌≡◌, ℕ, ◌+◌, ◌<◌, ◌≤◌, true, List, ◌∷◌, ◌++◌, Option, codes, length, take, drop}
use Rattle.std.specs.Char.{is_ascii_digit}
use Rattle.std.specs.List.{list_all}
use Rattle.map_history.specs.declared.op.Op.{Op}
use Rattle.trace_reader.specs.declared.line.Line.TheVariants.{Ask}
use Rattle.trace_reader.specs.declared.plain.Word.{Word}
use Rattle.trace_reader.specs.declared.plain.Word.TheVariants.{Get, Ins, Del, Put, Mov}
use Rattle.trace_reader.specs.Fields.{value_of}
use Rattle.trace_reader.specs.Lines.{IsOneLine}
use Rattle.trace_reader.specs.Said.{Says}

-- digits that stand for this number
pub record AreDigits (number : ℕ) (digits : List ℕ) : Type 0 where
  pub each : list_all is_ascii_digit digits ≡ true
  pub value : value_of digits ≡ number
  pub some : 0 < length digits

-- the bytes begin with digits that stand for this number, behind them is this byte, and behind that is the rest
pub record BeginWithNumber (bytes : List ℕ) (number end : ℕ) (rest : List ℕ) : Type 0 where
  pub digits : List ℕ
  pub are : AreDigits number digits
  pub small : number ≤ 4294967289
  pub cut : bytes ≡ digits ++ end ∷ rest

-- the bytes begin with two such numbers, with a blank between them and a line feed behind them
pub record BeginWithPair (bytes : List ℕ) (key value : ℕ) (rest : List ℕ) : Type 0 where
  pub more : List ℕ
  pub first : BeginWithNumber bytes key 32 more
  pub second : BeginWithNumber more value 10 rest

-- the word of a request, with the blank behind it
abbrev pub text_of : Word → List ℕ
text_of Get = codes "get "
text_of Ins = codes "ins "
text_of Del = codes "del "
text_of Put = codes "put "
text_of Mov = codes "mov "

-- the least format that has it
abbrev pub format_of_word : Word → ℕ
format_of_word Get = 1
format_of_word Ins = 1
format_of_word Del = 1
format_of_word Put = 2
format_of_word Mov = 3

-- the bytes begin with a line that asks this behind such a header, and behind its line feed is the rest
pub record BeginWithRequest (format : Option ℕ) (bytes : List ℕ) (op : Op) (rest : List ℕ) : Type 0 where
  pub line : List ℕ
  pub one : IsOneLine line
  pub says : Says (Ask op) format true line
  pub cut : bytes ≡ line ++ 10 ∷ rest

-- the bytes begin with a line that asks this behind such a header, and its line feed stands there
pub record IsRequestAt (format : Option ℕ) (bytes : List ℕ) (op : Op) (end : ℕ) : Type 0 where
  pub within : end < length bytes
  pub one : IsOneLine (take end bytes)
  pub says : Says (Ask op) format true (take end bytes)
  pub cut : take end bytes ++ 10 ∷ drop (end + 1) bytes ≡ bytes
