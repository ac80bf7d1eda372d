use Rattle.history_core.proofs.WithoutReads.{first_reads, none_after, rises}
use Rattle.history_core.proofs.laws.stamps_rise_without_reads.Goals as goal

pub returns-clause-first : goal.returns-clause-first
returns-clause-first c = first_reads

pub returns-clause-events : goal.returns-clause-events
returns-clause-events c = λ requests w e not none. none_after requests w none e not

pub returns-clause-rise : goal.returns-clause-rise
returns-clause-rise c = λ requests w sound none. rises requests w none sound
