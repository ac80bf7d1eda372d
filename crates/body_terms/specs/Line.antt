-- A body as its line of atomic steps, with its registers resolved to places and to places of the log.
use Rattle.std.specs.Prelude.{ℕ, ◌+◌, List, [], ◌∷◌, ◌++◌, Bool, true, false, not, ◌&&◌, cond, take, length, slice_index_or, count_by}
use Rattle.body_terms.specs.Update.{upd}
use Rattle.body_terms.specs.declared.value.Value.{Value}
use Rattle.body_terms.specs.declared.value.Value.TheVariants.{Const, Of, Made}
use Rattle.body_terms.specs.declared.value.Init.{Init}
use Rattle.body_terms.specs.declared.step.Step.{Step}
use Rattle.body_terms.specs.declared.step.Step.TheVariants.{Load, Want, Fresh, Take, Make, Stamp, Store, Retire, Answer}
use Rattle.body_terms.specs.declared.micro.Source.{Source}
use Rattle.body_terms.specs.declared.micro.Source.TheVariants.{Fixed, Agreed}
use Rattle.body_terms.specs.declared.micro.Micro.{Micro}
use Rattle.body_terms.specs.declared.micro.Micro.TheVariants.{LoadCell, Commit, CheckWord, CheckFresh, NestedLoad, NestedCommit, CheckFree, NestedHold, OutcomeLoad, OutcomeCommit, CheckHeld, PrivateLoad, PrivateStore, MakeCommit, ClockLoad, StampExchange, ClockRaise, ExchangeCell, EpochForRetire, RetireCommit, ReplyExchange, End, SetDone, Release}

-- what the steps so far have set: the place and the place in the log of each register, and how many words
-- were committed
pub record Registers : Type 0 where
  pub place : ℕ → ℕ
  pub log : ℕ → ℕ
  pub count : ℕ

-- before the first step
abbrev pub no_registers : Registers
no_registers = record { place = λ r. 0; log = λ r. 0; count = 0 }

-- how many words a step commits
abbrev pub log_words : Step → ℕ
log_words (Load place into) = 1
log_words (Want reg word) = 0
log_words (Fresh reg) = 0
log_words (Take place word) = 2
log_words (Make init into) = 1
log_words Stamp = 0
log_words (Store reg value) = 0
log_words (Retire slot) = 1
log_words (Answer reply) = 0

-- the registers after one more step
abbrev pub registers_after : Registers → Step → Registers
registers_after g (Load place into) =
    record { place = upd g.place into place; log = upd g.log into g.count; count = g.count + 1 }
registers_after g (Want reg word) = g
registers_after g (Fresh reg) = g
registers_after g (Take place word) = record g { count = g.count + 2 }
registers_after g (Make init into) = record g { log = upd g.log into g.count; count = g.count + 1 }
registers_after g Stamp = g
registers_after g (Store reg value) = g
registers_after g (Retire slot) = record g { count = g.count + 1 }
registers_after g (Answer reply) = g

-- the registers after these steps
abbrev pub registers_through : Registers → List Step → Registers
registers_through g [] = g
registers_through g (step ∷ steps) = registers_through (registers_after g step) steps

-- the registers before step n of a body
abbrev pub registers_before : List Step → ℕ → Registers
registers_before body n = registers_through no_registers (take n body)

-- a value with its register resolved
abbrev pub source_of : Registers → Value → Source
source_of g (Const number) = Fixed number
source_of g (Of reg) = Agreed (g.log reg)
source_of g (Made reg) = Agreed (g.log reg)

-- the private load and store of one cell of a new node
abbrev pub fill_cell : Registers → Init → ℕ → List Micro
fill_cell g init cell =
    PrivateLoad cell g.count ∷ PrivateStore cell g.count (source_of g (slice_index_or init.cells cell (Const 0))) ∷ []

-- the atomic steps of one step
abbrev pub micros : Registers → Step → List Micro
micros g (Load place into) = LoadCell place g.count ∷ Commit place g.count ∷ []
micros g (Want reg word) = CheckWord (g.place reg) (g.log reg) word ∷ []
micros g (Fresh reg) = CheckFresh (g.place reg) (g.log reg) ∷ []
micros g (Take place word) =
    NestedLoad place g.count ∷ NestedCommit place g.count ∷ CheckFree place g.count word
    ∷ NestedHold place word ∷ OutcomeLoad place (g.count + 1) ∷ OutcomeCommit place (g.count + 1)
    ∷ CheckHeld place (g.count + 1) word ∷ []
micros g (Make init into) =
    fill_cell g init 0 ++ (fill_cell g init 1
    ++ (fill_cell g init 2 ++ (fill_cell g init 3 ++ (fill_cell g init 4 ++ MakeCommit g.count ∷ []))))
micros g Stamp = ClockLoad ∷ StampExchange ∷ ClockRaise ∷ []
micros g (Store reg value) = ExchangeCell (g.place reg) (g.log reg) (source_of g value) ∷ []
micros g (Retire slot) = EpochForRetire slot g.count ∷ RetireCommit slot g.count ∷ []
micros g (Answer reply) = ReplyExchange reply ∷ []

-- how many atomic steps a step has
abbrev pub micro_count : Step → ℕ
micro_count (Load place into) = 2
micro_count (Want reg word) = 1
micro_count (Fresh reg) = 1
micro_count (Take place word) = 7
micro_count (Make init into) = 11
micro_count Stamp = 3
micro_count (Store reg value) = 1
micro_count (Retire slot) = 2
micro_count (Answer reply) = 1

-- the atomic steps of these steps, one after the other
abbrev pub line_from : Registers → List Step → List Micro
line_from g [] = []
line_from g (step ∷ steps) = micros g step ++ line_from (registers_after g step) steps

-- the line of a body
abbrev pub line : List Step → List Micro
line body = line_from no_registers body

-- where step n of a body begins in its line
abbrev pub begins : List Step → ℕ → ℕ
begins body n = length (line (take n body))

-- the atomic step at this place of a line, and the end past its last one
abbrev pub micro_at : List Micro → ℕ → Micro
micro_at line at = slice_index_or line at End

-- a check: no step on the shared words
abbrev pub is_check : Micro → Bool
is_check (CheckWord place log word) = true
is_check (CheckFresh place log) = true
is_check (CheckFree place log word) = true
is_check (CheckHeld place log word) = true
is_check _ = false

-- the end of a line
abbrev pub is_end : Micro → Bool
is_end End = true
is_end _ = false

-- a step on the shared words
abbrev pub is_event : Micro → Bool
is_event micro = not (is_check micro) && not (is_end micro)

-- a commit, which adds one word to the log
abbrev pub is_commit : Micro → Bool
is_commit (Commit place log) = true
is_commit (NestedCommit place log) = true
is_commit (OutcomeCommit place log) = true
is_commit (MakeCommit log) = true
is_commit (RetireCommit slot log) = true
is_commit _ = false

-- how many words the steps below this place of a line commit
abbrev pub committed : List Micro → ℕ → ℕ
committed line at = count_by is_commit (take at line)

-- the release of the lock that this step found to be held by the section
abbrev pub release_of : Micro → List Micro
release_of (CheckHeld place log word) = Release place word ∷ []
release_of _ = []

-- the releases of the nested locks that these steps took, in their order
abbrev pub releases : List Micro → List Micro
releases [] = []
releases (micro ∷ rest) = release_of micro ++ releases rest

-- the end of a run that came to this place of the line: done, then the release of each lock that it took,
-- the outer one last
abbrev pub ending : List Micro → ℕ → ℕ → ℕ → List Micro
ending line at lock word = SetDone ∷ (releases (take at line) ++ Release lock word ∷ [])

-- what a run does next on the shared words that stands at this place of the line, and has made `ended` steps of its end
abbrev pub next_micro : List Micro → ℕ → ℕ → ℕ → ℕ → Micro
next_micro line at ended lock word =
    cond (is_event (micro_at line at)) (micro_at line at) (slice_index_or (ending line at lock word) ended End)
