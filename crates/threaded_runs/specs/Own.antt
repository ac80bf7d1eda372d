-- Which requests a worker serves.
use Rattle.std.specs.Prelude.{ℕ, ◌%◌, ◌==◌, List}
use Rattle.std.specs.List.{filter}
use Rattle.machine_states.specs.map_history.specs.declared.op.Request.{Request}

-- of these requests those of the worker with this number among so many, in the order of the list: where traces never
-- fall along the list, the worker's traces are this one, the one so many behind it and so on, each whole
abbrev pub own_requests : (runners worker : ℕ) → List Request → List Request
own_requests runners worker requests = filter (λ (request : Request). request.trace % runners == worker) requests
