use Rattle.std.proofs.Common.{true, false}
use Rattle.section_runs.proofs.Apart.{asked_from}
use Rattle.section_runs.proofs.runs.run.Goals as goal

-- what was counted apart is told the gate
pub returns-then-is_free-clause-done : goal.returns-then-is_free-clause-done
returns-then-is_free-clause-done g c = λ o trail e.
    let ends = c.run_asked-runner.ensures.done o trail e in
    (ends.0, ends.1, ends.2, c.tell.ensures.told ends.1 true _ _ (asked_from ends.1 true _ _ _ _ _ _ c.new-made.ensures ends.3))

pub returns-then-is_free-clause-halted : goal.returns-then-is_free-clause-halted
returns-then-is_free-clause-halted g c = λ e.
    let cut = c.run_asked-runner.ensures.halted e in
    (cut.0, cut.1, c.tell.ensures.told cut.0 false _ _ (asked_from cut.0 false _ _ _ _ _ _ c.new-made.ensures cut.2))
