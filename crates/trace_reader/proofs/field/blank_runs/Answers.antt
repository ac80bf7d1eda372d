use Rattle.std.proofs.Common.{◌≡◌, ◌+◌, ◌-◌, arith, ap, sym, ◌∙◌, drop, take}
use Rattle.std.specs.List.{list_all}
use Rattle.trace_reader.specs.Fields.{is_blank}
use Rattle.trace_reader.proofs.Words.{run_more}
use Rattle.trace_reader.proofs.field.blank_runs.Goals as goal

pub loop-len-preserved : goal.loop-len-preserved
loop-len-preserved c =
    let len = c.loop-len.len in
    let run : len + 16 - len ≡ 16 = omega arith in
    record {
      within = omega (arith, c.loop-len.invariant.within, c.loop-len-test.true);
      blank = run_more c.args.line.now len 16 c.loop-len.invariant.blank (
          ap (λ k. list_all is_blank (take k (drop len c.args.line.now))) (sym run) ∙ sym c.are_blank.ensures ∙ c.if-are_blank.true);
    }
