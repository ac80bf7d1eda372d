use Rattle.std.proofs.Common.{◌+◌, ◌++◌, ◌∙◌, ap, arith, drop, get_or, sym}
use Rattle.std.specs.Prelude.{flat_map}
use Rattle.std.proofs.lemmas.List.{drop_more}
use Rattle.map_history.specs.declared.op.Op.TheVariants.{Get}
use Rattle.map_history.specs.declared.op.Request.{Request}
use Rattle.trace_reader.specs.Printed.{lines_behind, with_feed}
use Rattle.printed_traces.proofs.Texts.{same_item, text_more}
use Rattle.printed_traces.proofs.text.print.Goals as goal

pub loop-request-preserved : goal.loop-request-preserved
loop-request-preserved c =
    let requests = c.args.requests.now in
    let place = c.loop-request.request-index in
    let none : Request = record { trace = 0; number = 0; op = Get 0 } in
    let request : Request = get_or requests place none in
    record {
      text =
          text_more c.loop-request.text.items c.push_beginnings.new.text.items c.push_line.new.text.items c.loop-request.begun request (drop (place + 1) requests) c.args.traces c.in_ok-push_beginnings.ensures c.in_ok-push_line.ensures
          ∙ ap (λ rest. c.loop-request.text.items ++ flat_map with_feed (lines_behind c.loop-request.begun rest c.args.traces)) (sym (drop_more requests place none c.loop-request-test.true))
          ∙ c.loop-request.invariant.text;
      reached = omega (arith, c.requires.within place none c.loop-request-test.true);
      later = λ k d later within.
          let same = ap (λ (request : Request). request.trace) (same_item requests k none d within) in
          omega (arith, same, c.requires.rising place k none (omega (arith, later)) within);
    }
