use Rattle.std.proofs.Common.{◌≡◌, ◌^◌, min, take, true}
use Rattle.std.specs.Char.{is_ascii_digit}
use Rattle.std.specs.List.{list_all}
use Rattle.trace_reader.specs.Fields.{value_of}
use Rattle.trace_reader.proofs.field.number.Given as goal

abbrev pub invariant-loop-byte : goal.invariant-loop-byte
invariant-loop-byte l = (list_all is_ascii_digit (take l.byte-index l.field) ≡ true) × (l.value ≡ min (value_of (take l.byte-index l.field)) (2 ^ 32))
