-- What a run of a line of atomic steps does to a plain memory, whole or part of the way.
use Rattle.std.specs.Prelude.{ℕ, ◌+◌, ◌*◌, ◌/◌, max, List, [], ◌∷◌, ◌++◌, Bool, not, ◌&&◌, cond, ◌==◌, slice_index, drop, is_none}
use Rattle.std.specs.Prelude.{Option, Some, None}
use Rattle.body_terms.specs.Update.{upd}
use Rattle.body_terms.specs.Line.{is_check}
use Rattle.body_terms.specs.Word.{value_of, version_of, next_word, held_word, is_free, is_spent}
use Rattle.body_terms.specs.Memory.{cell_of}
use Rattle.body_terms.specs.declared.outcome.Outcome.{Outcome}
use Rattle.body_terms.specs.declared.outcome.Outcome.TheVariants.{Answered, Busy, Stale, Spent}
use Rattle.body_terms.specs.declared.micro.Source.{Source}
use Rattle.body_terms.specs.declared.micro.Source.TheVariants.{Fixed, Agreed}
use Rattle.body_terms.specs.declared.micro.Micro.{Micro}
use Rattle.body_terms.specs.declared.micro.Micro.TheVariants.{LoadCell, Commit, CheckWord, CheckFresh, NestedLoad, NestedCommit, CheckFree, NestedHold, OutcomeLoad, OutcomeCommit, CheckHeld, PrivateLoad, PrivateStore, MakeCommit, ClockLoad, StampExchange, ClockRaise, ExchangeCell, EpochForRetire, RetireCommit, ReplyExchange, End, SetDone, Release}

-- the limits of a run's memory, and the run's choices; what belongs to a Take or a Make goes by its place in the log
pub record Setting : Type 0 where
  -- the greatest version, and the number of fixed cells
  pub version_max : ℕ
  pub fixed_cells : ℕ
  -- the number of the section's descriptor
  pub descriptor : ℕ
  -- the agreed words of the Takes; and the Takes that are refused outright, as a lock that is held
  pub taken : ℕ → ℕ
  pub refused : ℕ → Bool
  -- the slot of each Make, with the word that stood in each of its cells when it was taken
  pub slot : ℕ → ℕ
  pub first : ℕ → ℕ → ℕ
  -- the clock number of the Stamp
  pub clock : ℕ

-- what a run has done so far: the cells, the clock, the stamp and the reply word of its request, the agreed
-- words, the slots that it made and retired, and its outcome once it has one
pub record Run : Type 0 where
  pub cells : ℕ → ℕ
  pub clock : ℕ
  pub stamp : ℕ
  pub reply : ℕ
  pub trail : List ℕ
  pub made : List ℕ
  pub retired : List ℕ
  pub outcome : Option Outcome

-- how a Take ends that read this word and can't go on with it: the word names a descriptor, is free and
-- spent, or differs
abbrev pub refusal : Setting → ℕ → ℕ → ℕ → Outcome
refusal s place expected read =
    cond (is_free read)
    (cond (is_spent s.version_max read) (Spent place read) (Stale place expected read)) (Busy place read)

-- a Take may be made with this word
abbrev pub is_takable : Setting → ℕ → ℕ → Bool
is_takable s expected read = read == expected && (is_free read && not (is_spent s.version_max read))

-- how a run leaves at this check, by the words agreed so far; None where it goes on, and at a step that is no check
abbrev pub leaves : Setting → List ℕ → Micro → Option Outcome
leaves s trail (CheckWord place log word) =
    let read = slice_index trail log in cond (read == word) None (Some (Stale place word read))
leaves s trail (CheckFresh place log) =
    let read = slice_index trail log in cond (version_of read == s.version_max) (Some (Spent place read)) None
leaves s trail (CheckFree place log word) =
    let read = slice_index trail log in
    cond (s.refused log) (Some (Busy place read))
    (cond (is_takable s word read) None (Some (refusal s place word read)))
leaves s trail (CheckHeld place log word) =
    let read = slice_index trail log in
    cond (read == held_word s.descriptor word) None (Some (refusal s place word read))
leaves s trail _ = None

-- the value that a store writes
abbrev pub source_value : List ℕ → Source → ℕ
source_value trail (Fixed number) = number
source_value trail (Agreed log) = value_of (slice_index trail log)

-- the cells after an exchange of this place from one word to another
abbrev pub exchanged : (ℕ → ℕ) → ℕ → ℕ → ℕ → ℕ → ℕ
exchanged cells place old new = upd cells place (cond (cells place == old) new (cells place))

-- a word that is written once, from 0
abbrev pub written_once : ℕ → ℕ → ℕ
written_once old new = cond (old == 0) new old

-- one more agreed word
abbrev pub agrees : ℕ → Run → Run
agrees word r = record r { trail = r.trail ++ word ∷ [] }

-- a run after this atomic step; lock words are left out, so the steps of a Take and of the end change no cell
abbrev pub acted : Setting → Micro → Run → Run
acted s (LoadCell place log) r = r
acted s (Commit place log) r = agrees (r.cells place) r
acted s (CheckWord place log word) r = record r { outcome = leaves s r.trail (CheckWord place log word) }
acted s (CheckFresh place log) r = record r { outcome = leaves s r.trail (CheckFresh place log) }
acted s (NestedLoad place log) r = r
acted s (NestedCommit place log) r = agrees (s.taken log) r
acted s (CheckFree place log word) r = record r { outcome = leaves s r.trail (CheckFree place log word) }
acted s (NestedHold place word) r = r
acted s (OutcomeLoad place log) r = r
acted s (OutcomeCommit place log) r = agrees (s.taken log) r
acted s (CheckHeld place log word) r = record r { outcome = leaves s r.trail (CheckHeld place log word) }
acted s (PrivateLoad cell log) r = r
acted s (PrivateStore cell log value) r =
    record r {
      cells = upd r.cells (cell_of s.fixed_cells (s.slot log) cell)
          (next_word (s.first log cell) (source_value r.trail value));
    }
acted s (MakeCommit log) r = record r { trail = r.trail ++ (s.slot log + 1) ∷ []; made = r.made ++ s.slot log ∷ [] }
acted s ClockLoad r = r
acted s StampExchange r = record r { stamp = written_once r.stamp (2 * (s.clock + 1)) }
acted s ClockRaise r = record r { clock = max r.clock (r.stamp / 2) }
acted s (ExchangeCell place log value) r =
    let old = slice_index r.trail log in
    record r { cells = exchanged r.cells place old (next_word old (source_value r.trail value)) }
acted s (EpochForRetire slot log) r = r
acted s (RetireCommit slot log) r = record r { trail = r.trail ++ (slot + 1) ∷ []; retired = r.retired ++ slot ∷ [] }
acted s (ReplyExchange reply) r = record r { reply = written_once r.reply reply; outcome = Some (Answered reply) }
acted s End r = r
acted s SetDone r = r
acted s (Release place word) r = r

-- the next state of a run, which stands still once it has an outcome
abbrev pub unless_over : Option Outcome → Run → Run → Run
unless_over None next now = next
unless_over (Some outcome) next now = now

-- a run after these atomic steps
abbrev pub ran : Setting → Run → List Micro → Run
ran s r [] = r
ran s r (micro ∷ rest) = ran s (unless_over r.outcome (acted s micro r) r) rest

-- how many checks at the head of these steps pass
abbrev pub passed_checks : Setting → List ℕ → List Micro → ℕ
passed_checks s trail [] = 0
passed_checks s trail (micro ∷ rest) =
    cond (is_check micro && is_none (leaves s trail micro)) (passed_checks s trail rest + 1) 0

-- where a run rests that came to this place of the line: behind the checks that pass
abbrev pub settled : Setting → List ℕ → List Micro → ℕ → ℕ
settled s trail line at = at + passed_checks s trail (drop at line)
