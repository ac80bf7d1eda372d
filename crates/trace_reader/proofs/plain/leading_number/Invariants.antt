use Rattle.std.proofs.Common.{◌≡◌, ◌≤◌, ◌-◌, length, take, true}
use Rattle.std.specs.Char.{is_ascii_digit}
use Rattle.std.specs.List.{list_all}
use Rattle.trace_reader.specs.Fields.{value_of}
use Rattle.trace_reader.proofs.plain.leading_number.Given as goal

abbrev pub invariant-loop-len : goal.invariant-loop-len
invariant-loop-len l = record {
  within : l.len ≤ length l.bytes;
  small : l.number ≤ 4294967289;
  each : list_all is_ascii_digit (take l.len l.bytes) ≡ true;
  value : value_of (take l.len l.bytes) ≡ l.number;
}

abbrev pub decreases-loop-len : goal.decreases-loop-len
decreases-loop-len l = length l.bytes - l.len
