-- What the entries of a closed table's requests come to.
use Rattle.std.specs.Prelude.{◌≡◌, ℕ, true, List, Option, length}
use Rattle.std.specs.FinMap.{len}
use Rattle.structure_laws.specs.map_history.specs.declared.op.Entry.{Entry}
use Rattle.structure_laws.specs.map_history.specs.Replay.{Pairs}
use Rattle.structure_laws.specs.map_history.specs.Requests.{AreInOrder}
use Rattle.structure_laws.specs.Meaning.{Meaning}
use Rattle.run_reports.specs.version_words.specs.TableState.{WordsState}
use Rattle.trace_reader.specs.Generator.{generated}
use Rattle.trace_reader.specs.declared.generator.Gen.{Gen}
use Rattle.load_counts.specs.Apart.{load_text, unserved_in}
use Rattle.load_counts.specs.Counts.{counts_in, counts_text}
use Rattle.run_reports.specs.Reports.{HaveContents, HaveEntries}
use Rattle.load_counts.specs.declared.tally.Tally.{Tally}

module _ {T : Type 0} (m : Meaning) (w : WordsState T) where
  -- this is what the entries come to, each of which is that of the request's two words
  pub record IsTally (tally : Tally) : Type 0 where
    pub entries : List (Option Entry)
    pub shown : HaveEntries m w entries
    pub counts_are : tally.counts ≡ counts_in entries
    pub unserved_are : tally.unserved ≡ unserved_in entries

  -- where the requests are a plan's, of which each trace has keys of its own, and all of them are served, the counts
  -- and the number of pairs make the text of the traces that are served by themselves
  abbrev pub IsAlone : Tally → Type 0
  IsAlone tally = (plan : Gen) (size : ℕ) → plan.apart ≡ true → w.requests ≡ generated plan
      → AreInOrder w.requests plan.traces → tally.unserved ≡ 0
      → ((pairs : Pairs) → HaveContents m w pairs → size ≡ len pairs)
      → counts_text (length w.requests) tally.counts size ≡ load_text plan
