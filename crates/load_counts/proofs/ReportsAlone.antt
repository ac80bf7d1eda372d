-- The counts of a closed table whose requests were generated with keys of their own for each trace.
use Rattle.std.proofs.Common.{◌≡◌, ◌<◌, ℕ, true, List, Option, length, sym, ap, ◌∙◌, subst}
use Rattle.std.specs.Prelude.{All}
use Rattle.std.specs.FinMap.{len}
use Rattle.structure_laws.specs.map_history.specs.declared.op.Entry.{Entry}
use Rattle.structure_laws.specs.map_history.specs.declared.op.Request.{Request}
use Rattle.structure_laws.specs.map_history.specs.Replay.{Pairs}
use Rattle.structure_laws.specs.map_history.specs.Requests.{AreInOrder}
use Rattle.structure_laws.specs.Meaning.{Meaning}
use Rattle.run_reports.specs.closed_words.specs.Histories.{HaveHistory, HoldsNoLock}
use Rattle.run_reports.specs.version_words.specs.machine_invariant.specs.After.{AreAllowed}
use Rattle.run_reports.specs.version_words.specs.TableState.{WordsState}
use Rattle.run_reports.specs.report_text.specs.Entries.{AreLegal}
use Rattle.trace_reader.specs.Generator.{generated}
use Rattle.trace_reader.specs.declared.generator.Gen.{Gen}
use Rattle.load_counts.specs.Apart.{AreApart, load_text, pairs_alone, replies_alone, unserved_in}
use Rattle.load_counts.specs.Counts.{counts_in, counts_of, counts_text}
use Rattle.load_counts.specs.declared.counts.Counts.{Counts}
use Rattle.run_reports.specs.Reports.{HaveContents, HaveEntries}
use Rattle.run_reports.proofs.Closed.{closed_contents, closed_legal}

-- what the laws say of traces apart
abbrev pub SameCounts : Type 0
SameCounts = (requests : List Request) (traces : ℕ) (entries : List (Option Entry)) (size : ℕ) → AreLegal requests entries size → unserved_in entries ≡ 0
    → AreApart requests traces → All (λ (request : Request). request.trace < traces) requests → counts_in entries ≡ counts_of (replies_alone requests traces)

abbrev pub SamePairs : Type 0
SamePairs = (requests : List Request) (traces : ℕ) (entries : List (Option Entry)) (size : ℕ) → AreLegal requests entries size → unserved_in entries ≡ 0
    → AreApart requests traces → All (λ (request : Request). request.trace < traces) requests → size ≡ pairs_alone requests traces

module _ {T : Type 0} (m : Meaning) (w : WordsState T) (allowed : AreAllowed w.requests) (have : HaveHistory m w) (map : m.is_map ≡ true)
    (none : HoldsNoLock m w) (entries : List (Option Entry)) (shown : HaveEntries m w entries) (same_counts : SameCounts) (same_pairs : SamePairs) where
  legal : AreLegal w.requests entries (len have.pairs)
  legal = closed_legal m w allowed have map none entries shown

  pub alone : (counts : Counts) (unserved : ℕ) → counts ≡ counts_in entries → unserved ≡ unserved_in entries
      → (plan : Gen) (size : ℕ) → AreApart (generated plan) plan.traces → w.requests ≡ generated plan → AreInOrder w.requests plan.traces → unserved ≡ 0
      → ((pairs : Pairs) → HaveContents m w pairs → size ≡ len pairs) → counts_text (length w.requests) counts size ≡ load_text plan
  alone counts unserved counted left plan size apart same order served sized =
      let Apart : List Request → Type 0 = λ requests. AreApart requests plan.traces in
      let apart_here : AreApart w.requests plan.traces = subst Apart (sym same) apart in
      let all : unserved_in entries ≡ 0 = sym left ∙ served in
      let counts_are = counted ∙ same_counts w.requests plan.traces entries (len have.pairs) legal all apart_here order.within in
      let size_is = sized have.pairs (closed_contents m w allowed have map none) ∙ same_pairs w.requests plan.traces entries (len have.pairs) legal all apart_here order.within in
      ap (λ (c : Counts). counts_text (length w.requests) c size) counts_are
      ∙ ap (λ (n : ℕ). counts_text (length w.requests) (counts_of (replies_alone w.requests plan.traces)) n) size_is
      ∙ ap (λ (requests : List Request). counts_text (length requests) (counts_of (replies_alone requests plan.traces)) (pairs_alone requests plan.traces)) same
