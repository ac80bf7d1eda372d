-- The report that is written is that of the words.
use Rattle.std.proofs.Common.{◌≡◌, ℕ, true, List, Option, sym, ap, ◌∙◌, subst}
use Rattle.std.specs.FinMap.{len}
use Rattle.history_orders.specs.map_history.specs.declared.op.Entry.{Entry}
use Rattle.history_orders.specs.map_history.specs.declared.op.Request.{Request}
use Rattle.history_orders.specs.map_history.specs.Replay.{Pairs}
use Rattle.structure_laws.specs.Meaning.{Meaning}
use Rattle.closed_words.specs.version_words.specs.machine_invariant.specs.After.{AreAllowed}
use Rattle.report_text.specs.Entries.{AreLegal}
use Rattle.report_text.specs.Legal.{IsLegal}
use Rattle.report_text.specs.Ranks.{ranks_of}
use Rattle.report_text.specs.Report.{Row, rows_of, report_text}
use Rattle.closed_words.specs.version_words.specs.TableState.{WordsState}
use Rattle.closed_words.specs.Histories.{HaveHistory, HoldsNoLock}
use Rattle.run_reports.specs.Reports.{HaveEntries, HaveContents, IsReport, unserved_in}
use Rattle.run_reports.proofs.Closed.{closed_legal, closed_contents}

-- the lists as the calls were handed them: the entries that were read, and those that were ranked and those that were printed
pub printed : {T : Type 0} (m : Meaning) (w : WordsState T) → AreAllowed w.requests → (have : HaveHistory m w) → m.is_map ≡ true → HoldsNoLock m w
    → (traces size unserved : ℕ) → ((pairs : Pairs) → HaveContents m w pairs → size ≡ len pairs)
    → (requests : List Request) → requests ≡ w.requests → (read first second : List (Option Entry)) → HaveEntries m w read → first ≡ read → second ≡ read
    → unserved ≡ unserved_in read → (ranked ranks : List (Option ℕ)) → ranked ≡ ranks_of first → ranks ≡ ranked
    → ((all : List Request) (left : ℕ) → AreLegal all first left → IsLegal (rows_of all first ranked) left)
    → IsReport m w traces unserved (report_text traces (rows_of requests second ranks) size)
printed m w allowed have map none traces size unserved sized requests same read first second shown a b counted ranked ranks ranked_is ranks_are legal =
    let is_legal = legal w.requests (len have.pairs) (subst (λ entries. AreLegal w.requests entries (len have.pairs)) (sym a) (closed_legal m w allowed have map none read shown)) in
    let contents = closed_contents m w allowed have map none in
    let size_is : size ≡ len have.pairs = sized have.pairs contents in
    let rank : ranked ≡ ranks_of read = ranked_is ∙ ap ranks_of a in
    let ranks_is : ranks ≡ ranks_of read = ranks_are ∙ rank in
    let rows : rows_of w.requests first ranked ≡ rows_of w.requests read (ranks_of read) = λ i. rows_of w.requests (a i) (rank i) in
    record {
      entries = read;
      shown = shown;
      counted = counted;
      pairs = have.pairs;
      contents = contents;
      legal = subst (λ (l : List Row). IsLegal l (len have.pairs)) rows is_legal;
      bytes = λ i. report_text traces (rows_of (same i) (b i) (ranks_is i)) (size_is i);
    }
