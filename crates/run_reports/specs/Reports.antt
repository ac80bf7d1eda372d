-- The report on the requests of a closed table, by its words.
use Rattle.std.specs.Prelude.{◌≡◌, ℕ, List, Option, not, is_some, count_by}
use Rattle.std.specs.FinMap.{len}
use Rattle.history_orders.specs.map_history.specs.declared.op.Entry.{Entry}
use Rattle.history_orders.specs.map_history.specs.Replay.{Pairs}
use Rattle.structure_laws.specs.table_words.specs.declared.spot.Spot.TheVariants.{Cell, Stamp, Reply}
use Rattle.structure_laws.specs.Meaning.{Meaning}
use Rattle.report_text.specs.Legal.{IsLegal}
use Rattle.report_text.specs.Ranks.{ranks_of}
use Rattle.report_text.specs.Report.{Row, rows_of, report_text}
use Rattle.report_text.specs.Sink.{Extends, ExtendsInPart}
use Rattle.closed_words.specs.version_words.specs.TableState.{WordsState, word_of}
use Rattle.run_reports.specs.Shown.{IsShown, AreShown}

-- how many requests have no entry
abbrev pub unserved_in : List (Option Entry) → ℕ
unserved_in entries = count_by (λ entry. not (is_some entry)) entries

module _ {T : Type 0} (m : Meaning) (w : WordsState T) where
  -- the entry of the request with this number, by its stamp word and its reply word
  abbrev pub IsEntryOf : ℕ → Option Entry → Type 0
  IsEntryOf n entry = IsShown (word_of m w (Stamp n)) (word_of m w (Reply n)) entry

  -- these are the entries of the table's requests, each by its stamp word and its reply word
  abbrev pub HaveEntries : List (Option Entry) → Type 0
  HaveEntries entries = AreShown (λ n. word_of m w (Stamp n)) (λ n. word_of m w (Reply n)) w.requests entries

  -- the table's cells are well formed, and this map is what they hold
  abbrev pub HaveContents : Pairs → Type 0
  HaveContents pairs = m.stands w.layout (λ p. word_of m w (Cell p)) pairs

  -- the requests with their replies and ranks: a rank is the place by stamp and then by number
  abbrev pub rows : List (Option Entry) → List Row
  rows entries = rows_of w.requests entries (ranks_of entries)

  -- the bytes are a legal report on the table's requests: each reply is that of the table's words, a
  -- request is unserved where it has no entry, and the number of pairs is that of the contents
  pub record IsReport (traces unserved : ℕ) (report : List ℕ) : Type 0 where
    pub entries : List (Option Entry)
    pub shown : HaveEntries entries
    pub counted : unserved ≡ unserved_in entries
    pub pairs : Pairs
    pub contents : HaveContents pairs
    pub legal : IsLegal (rows entries) (len pairs)
    pub bytes : report ≡ report_text traces (rows entries) (len pairs)

  -- such a report was added to what the sink holds, where it tells, and nothing else
  abbrev pub Prints : (traces unserved : ℕ) → (before after : Option (List ℕ)) → Type 0
  Prints traces unserved before after =
      (report : List ℕ) × (IsReport traces unserved report × Extends before report after)

  -- a part of one, from the front
  abbrev pub PrintsInPart : (traces : ℕ) → (before after : Option (List ℕ)) → Type 0
  PrintsInPart traces before after =
      (unserved : ℕ) × (report : List ℕ) × (IsReport traces unserved report × ExtendsInPart before report after)
