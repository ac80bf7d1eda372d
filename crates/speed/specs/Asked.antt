-- What is asked of the table: 1,000 keys are put in, and then come requests of one kind.
use Rattle.std.specs.Prelude.{ℕ, ◌+◌, ◌-◌, ◌*◌, ◌/◌, ◌%◌, ◌==◌, List, if◌then◌else◌, map, nat_lt}
use Rattle.std.specs.List.{range_with_len}
use Rattle.machine_states.specs.map_history.specs.declared.op.Op.{Op}
use Rattle.machine_states.specs.map_history.specs.declared.op.Op.TheVariants.{Get, Ins, Del}
use Rattle.machine_states.specs.map_history.specs.declared.op.Request.{Request}
use Rattle.speed.specs.declared.attempt_rounds.kinds.Kind.{Kind}
use Rattle.speed.specs.declared.attempt_rounds.kinds.Kind.TheVariants as kinds

-- half the key of this turn: a thousand turns come to each number below 1,000 once
abbrev pub key_at : ℕ → ℕ
key_at turn = 7919 * turn % 1000

-- what a request of this kind asks in this turn
abbrev pub asked_by : Kind → ℕ → Op
asked_by kinds.Found turn = Get (2 * key_at turn)
asked_by kinds.Missed turn = Get (2 * key_at turn + 1)
asked_by kinds.Refused turn = Ins (2 * key_at turn) 1
asked_by kinds.Turns turn = if turn % 2 == 0 then Ins (2 * key_at (turn / 2) + 1) 1 else Del (2 * key_at (turn / 2) + 1)

-- the request with this number: the first ones put in 1,000 even keys
abbrev pub request_at : Kind → ℕ → Request
request_at kind number = record {
  trace = 0;
  number = number;
  op = if nat_lt number 1000 then Ins (2 * key_at number) (key_at number) else asked_by kind (number - 1000);
}

-- the first so many requests
abbrev pub requests_of : Kind → ℕ → List Request
requests_of kind count = map (request_at kind) (range_with_len 0 count)
