use Rattle.std.proofs.Common.{◌≡◌, take}
use Rattle.std.specs.List.{list_all}
use Rattle.trace_reader.specs.Fields.{is_blank}
use Rattle.trace_reader.proofs.field.are_blank.Given as goal

abbrev pub invariant-loop-byte : goal.invariant-loop-byte
invariant-loop-byte l = l.all ≡ list_all is_blank (take l.byte-index l.bytes)
