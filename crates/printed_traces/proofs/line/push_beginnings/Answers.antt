use Rattle.printed_traces.proofs.Texts.{beginning_more}
use Rattle.printed_traces.proofs.line.push_beginnings.Goals as goal

pub loop-left-preserved : goal.loop-left-preserved
loop-left-preserved c =
    beginning_more c.loop-left.text.items c.extend_from_slice.new.self.items _ c.loop-left.left c.loop-left-test.true c.in_ok-extend_from_slice.ensures.items c.loop-left.invariant
