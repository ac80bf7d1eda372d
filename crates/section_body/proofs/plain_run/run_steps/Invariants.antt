use Rattle.std.proofs.Common.{◌≡◌, take, None}
use Rattle.std.specs.Prelude.{count_by}
use Rattle.body_terms.specs.Shape.{IsShaped, is_take}
use Rattle.body_terms.specs.Act.{Shows}
use Rattle.body_terms.proofs.SoundLemmas.{Sound}
use Rattle.section_body.proofs.PlainLemmas.{run_before}
use Rattle.section_body.proofs.plain_run.run_steps.Given as goal

abbrev pub invariant-loop-n : goal.invariant-loop-n
invariant-loop-n l = record {
  shows : Shows l.request l.fn.memory (run_before l.steps l.request l.fn.memory l.taken l.n) l.memory l.trail None;
  takes : l.takes ≡ count_by is_take (take l.n l.steps);
  sound : (shaped : IsShaped l.steps) → Sound l.steps l.fn.memory l.taken shaped l.n (run_before l.steps l.request l.fn.memory l.taken l.n);
}
