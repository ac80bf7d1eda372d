-- By what the checks of a run go, what its stores write, and the kinds of some steps.
use Rattle.std.specs.Prelude.{ℕ, Bool, true, false, not, ◌&&◌, ◌||◌, ◌==◌, nat_lt, cond}
use Rattle.section_lines.specs.structure_laws.specs.body_terms.specs.Word.{value_of, version_of, next_word, held_word, is_free, is_spent}
use Rattle.section_lines.specs.structure_laws.specs.body_terms.specs.Line.{is_event}
use Rattle.section_lines.specs.structure_laws.specs.body_terms.specs.declared.micro.Source.{Source}
use Rattle.section_lines.specs.structure_laws.specs.body_terms.specs.declared.micro.Source.TheVariants.{Fixed, Agreed}
use Rattle.section_lines.specs.structure_laws.specs.body_terms.specs.declared.micro.Micro.{Micro}
use Rattle.section_lines.specs.structure_laws.specs.body_terms.specs.declared.micro.Micro.TheVariants.{CheckWord, CheckFresh, CheckFree, CheckHeld, StampExchange, ReplyExchange}
use Rattle.agreement_core.specs.State.{CellRules, Section}

-- a check of a section with this descriptor passes with these agreed words
abbrev pub passes : CellRules → ℕ → (ℕ → ℕ) → Micro → Bool
passes c d trail (CheckWord place log word) = trail log == word
passes c d trail (CheckFresh place log) = not (version_of (trail log) == c.version_max)
passes c d trail (CheckFree place log word) = trail log == word && (is_free word && not (is_spent c.version_max word))
passes c d trail (CheckHeld place log word) = trail log == held_word d word
passes c d trail _ = false

-- a run goes no further here: the line is over, or the check doesn't pass
abbrev pub is_stop : CellRules → ℕ → (ℕ → ℕ) → Micro → Bool
is_stop c d trail micro = not (is_event micro || passes c d trail micro)

-- the value that a store writes, with these agreed words
abbrev pub source_in : (ℕ → ℕ) → Source → ℕ
source_in trail (Fixed number) = number
source_in trail (Agreed log) = value_of (trail log)

-- the word that a store of this value leaves, with these agreed words
abbrev pub stored_word : (ℕ → ℕ) → ℕ → Source → ℕ
stored_word trail log value = next_word (trail log) (source_in trail value)

-- the word after an exchange of `found` from one word to another
abbrev pub exchanged : ℕ → ℕ → ℕ → ℕ
exchanged found old new = cond (found == old) new found

-- a run has come to this place of the section's line
abbrev pub came : Section → ℕ → Section
came s at = record s { edge = cond (nat_lt s.edge at) at s.edge }

-- the exchange of the stamp word
abbrev pub is_stamp_exchange : Micro → Bool
is_stamp_exchange StampExchange = true
is_stamp_exchange _ = false

-- the exchange of the reply word
abbrev pub is_reply_exchange : Micro → Bool
is_reply_exchange (ReplyExchange reply) = true
is_reply_exchange _ = false
