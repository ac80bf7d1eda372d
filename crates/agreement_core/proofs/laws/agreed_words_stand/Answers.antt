use Rattle.agreement_core.proofs.Continuing.{goes_on_all, records_stand, entries_stand}
use Rattle.agreement_core.proofs.Closing.{done_stand, ends_are_old}
use Rattle.agreement_core.proofs.laws.agreed_words_stand.Goals as goal

pub returns-clause-entries : goal.returns-clause-entries
returns-clause-entries c = entries_stand

pub returns-clause-records : goal.returns-clause-records
returns-clause-records c = records_stand

pub returns-clause-sections : goal.returns-clause-sections
returns-clause-sections c = goes_on_all

pub returns-clause-done : goal.returns-clause-done
returns-clause-done c = λ rules w e ok sound. done_stand rules w sound e ok

pub returns-clause-ended : goal.returns-clause-ended
returns-clause-ended c = λ rules w e ok sound. ends_are_old rules w sound e ok
