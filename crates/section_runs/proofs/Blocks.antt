-- How many blocks the log of a body needs beside the descriptor: by how many words a body commits at most.
use Rattle.std.proofs.Common.{◌≤◌, List, arith}
use Rattle.idem_cell.specs.machine_states.specs.body_terms.specs.Shape.{IsShaped}
use Rattle.idem_cell.specs.machine_states.specs.body_terms.specs.declared.step.Step.{Step}
use Rattle.nested_lock.specs.machine_facts.specs.machine_invariant.proofs.Few.{words_few}
use Rattle.section_runs.specs.Reached.{run_blocks}
use Rattle.section_runs.specs.Bodies.{body_blocks}

pub run_few : (body : List Step) → IsShaped body → body_blocks body ≤ run_blocks
run_few body shaped = let few = words_few body shaped in omega (arith, few)
