use Rattle.std.proofs.Common.{◌≡◌, ℕ, Option, Some, length}
use Rattle.std.specs.Prelude.{slice_get}
use Rattle.history_orders.specs.map_history.specs.declared.op.Entry.{Entry}
use Rattle.structure_laws.specs.table_words.specs.declared.spot.Spot.TheVariants as spots
use Rattle.closed_words.specs.version_words.specs.TableState.{word_of}
use Rattle.run_reports.specs.Shown.{IsShown}
use Rattle.run_reports.proofs.entries.entries_of.Given as goal

abbrev pub invariant-loop-number : goal.invariant-loop-number
invariant-loop-number g l = record {
  read : length l.entries.items ≡ l.number;
  shown : (n : ℕ) (entry : Option Entry) → slice_get l.entries.items n ≡ Some entry
      → IsShown (word_of (g.S.Structure.meaning l.words.structure) l.words (spots.Stamp n)) (word_of (g.S.Structure.meaning l.words.structure) l.words (spots.Reply n)) entry;
}
