use Rattle.std.proofs.Common.{◌≡◌, take}
use Rattle.state_changes.proofs.copies.all_finished_copy.Given as goal

abbrev pub invariant-loop-section : goal.invariant-loop-section
invariant-loop-section l = l.copies.items ≡ take l.section-index l.finished
