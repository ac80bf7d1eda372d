use Rattle.guard_core.proofs.Freeing.{sweeps_exactly, frees_unnamed}
use Rattle.guard_core.proofs.laws.sweeps_free_what_no_guard_names.Goals as goal

pub returns-clause-exact : goal.returns-clause-exact
returns-clause-exact c = sweeps_exactly

pub returns-clause-unnamed : goal.returns-clause-unnamed
returns-clause-unnamed c = frees_unnamed
