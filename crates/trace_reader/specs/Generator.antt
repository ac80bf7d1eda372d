-- Requests that are made from numbers.
use Rattle.std.specs.Prelude.{◌≤◌, ℕ, suc, zero, ◌+◌, ◌*◌, ◌/◌, ◌%◌, ◌^◌, ◌==◌, List, if◌then◌else◌, map, nat_lt}
use Rattle.std.specs.List.{range_with_len}
use Rattle.map_history.specs.Requests.{most_requests}
use Rattle.map_history.specs.declared.op.Op.{Op}
use Rattle.map_history.specs.declared.op.Op.TheVariants.{Get, Ins, Del}
use Rattle.map_history.specs.declared.op.Request.{Request}
use Rattle.trace_reader.specs.declared.generator.Gen.{Gen}

-- the state behind a state
abbrev pub next_state : ℕ → ℕ
next_state state = (1103515245 * state + 12345) % 2 ^ 31

-- the state behind so many draws
abbrev pub state_after : ℕ → ℕ → ℕ
state_after seed zero = seed
state_after seed (suc draws) = next_state (state_after seed draws)

-- the output of a state
abbrev pub output_of : ℕ → ℕ
output_of state = state / 65536

-- the outputs, from the first draw on
abbrev pub output_at : ℕ → ℕ → ℕ
output_at seed draw = output_of (state_after seed (draw + 1))

-- where the traces are to be apart, the keys of each are its own
abbrev pub key_by : Gen → (trace output : ℕ) → ℕ
key_by plan trace output = if plan.apart then output % plan.keys * plan.traces + trace else output % plan.keys

-- what the first output asks of the key: an insertion, a deletion or a look-up
abbrev pub op_by : (output key : ℕ) → Op
op_by output key =
    if nat_lt (output % 4) 2 then Ins key (10 * key)
    else if output % 4 == 2 then Del key
    else Get key

-- the request with this number takes the next two outputs, whatever its trace: the state runs on across traces
abbrev pub generated_at : Gen → ℕ → Request
generated_at plan number = record {
  trace = number / plan.length;
  number = number;
  op = op_by (output_at plan.seed (2 * number))
      (key_by plan (number / plan.length) (output_at plan.seed (2 * number + 1)));
}

-- as many requests for each trace as its length says
abbrev pub generated : Gen → List Request
generated plan = map (generated_at plan) (range_with_len 0 (plan.traces * plan.length))

-- what may be asked of the generator
pub record IsPlan (plan : Gen) : Type 0 where
  pub seed : plan.seed ≤ 2147483647
  pub traces : plan.traces ≤ 64
  pub some_keys : 1 ≤ plan.keys
  pub keys : plan.keys ≤ 32768
  pub requests : plan.traces * plan.length ≤ most_requests
