use Rattle.table_steps.specs.version_words.specs.TableState.{IsOf}
use Rattle.speed.specs.Workers.{IsBefore}
use Rattle.speed.proofs.sections.rounds.serve_all.Given as goal

abbrev pub invariant-loop-request : goal.invariant-loop-request
invariant-loop-request l = record {
  own : IsOf l.table l.worker;
  before : IsBefore l.request l.worker;
}
