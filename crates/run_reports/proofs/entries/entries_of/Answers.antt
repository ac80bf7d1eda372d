use Rattle.std.proofs.Common.{ℕ, Option, subst, sym, ap, ◌∙◌, arith}
use Rattle.std.specs.Prelude.{slice_get}
use Rattle.history_orders.specs.map_history.specs.declared.op.Entry.{Entry}
use Rattle.structure_laws.specs.table_words.specs.declared.spot.Spot.TheVariants as spots
use Rattle.closed_words.specs.version_words.specs.TableState.{word_of}
use Rattle.run_reports.specs.Shown.{IsShown}
use Rattle.run_reports.proofs.Reading.{each_pushed}
use Rattle.run_reports.proofs.entries.entries_of.Goals as goal

pub loop-number-preserved : goal.loop-number-preserved
loop-number-preserved g c =
    let m = g.S.Structure.meaning c.args.words.now.structure in
    let w = c.args.words.now in
    let Shows : ℕ → Option Entry → Type 0 = λ n entry. IsShown (word_of m w (spots.Stamp n)) (word_of m w (spots.Reply n)) entry in
    let before = c.loop-number.invariant in
    let pushed = c.in_ok-push.ensures.items in
    record {
      read = omega (arith, before.read, c.in_ok-push.ensures.len);
      shown = λ n entry is. each_pushed Shows c.loop-number.entries.items c.entry_of.result before.shown (subst (λ k. Shows k c.entry_of.result) (sym before.read) c.entry_of.ensures)
          n entry (ap (λ xs. slice_get xs n) (sym pushed) ∙ is);
    }
