use Rattle.std.proofs.Common.{◌≡◌, ◌^◌, min, take}
use Rattle.trace_reader.specs.Fields.{value_of}
use Rattle.command_line.proofs.number.capped_value.Given as goal

abbrev pub invariant-loop-digit : goal.invariant-loop-digit
invariant-loop-digit l = l.value ≡ min (value_of (take l.digit-index l.digits)) (2 ^ 48)
