use Rattle.agreement_core.proofs.Standing.{locks_stand, done_late}
use Rattle.agreement_core.proofs.Late.{locks_stay, locks_leave}
use Rattle.agreement_core.proofs.laws.locks_name_live_sections.Goals as goal

pub returns-clause-named : goal.returns-clause-named
returns-clause-named c = locks_stand

pub returns-clause-done : goal.returns-clause-done
returns-clause-done c = λ rules w d sound. done_late rules w sound d

pub returns-clause-stay : goal.returns-clause-stay
returns-clause-stay c = λ rules w e ok sound. locks_stay rules w e ok sound

pub returns-clause-released : goal.returns-clause-released
returns-clause-released c = λ rules w r place word sound ok. (sound.runs r ok.0).in_trail.ended_done ok.1

pub returns-clause-leave : goal.returns-clause-leave
returns-clause-leave c = λ rules w e ok sound. locks_leave rules w e ok sound
