-- A table with two workers, and their requests.
use Rattle.std.specs.Prelude.{◌≡◌, ℕ, true, List, [], ◌∷◌}
use Rattle.machine_states.specs.map_history.specs.declared.op.Op.TheVariants.{Get, Ins, Del}
use Rattle.machine_states.specs.map_history.specs.declared.op.Request.{Request}
use Rattle.settled_tables.specs.closed_words.specs.version_words.specs.RunnerState.{RunnerState}
use Rattle.settled_tables.specs.closed_words.specs.version_words.specs.TableState.{TableState}
use Rattle.hash_table.specs.try_lock.specs.epoch_slots.specs.Collects.{IsTidy}
use Rattle.hash_table.specs.try_lock.specs.Planning.{Planning}

-- the first worker adds a pair and takes it out, the second one asks for its key
abbrev pub adds : Request
adds = record { trace = 0; number = 0; op = Ins 5 70 }

abbrev pub takes : Request
takes = record { trace = 0; number = 1; op = Del 5 }

abbrev pub asks : Request
asks = record { trace = 1; number = 2; op = Get 5 }

abbrev pub their_requests : List Request
their_requests = adds ∷ takes ∷ asks ∷ []

-- the structure serves these requests
abbrev pub ServesThem : Planning → Type 0
ServesThem planning =
    (planning.serves adds.op ≡ true) × (planning.serves takes.op ≡ true) × (planning.serves asks.op ≡ true)

module _ {T : Type 0} where
  -- the table has two workers and these requests, which its structure serves
  pub record IsScene (planning : Planning) (t : TableState T) : Type 0 where
    pub runners : t.layout.runners ≡ 2
    pub requests : t.requests ≡ their_requests
    pub serves : ServesThem planning

  -- a worker with this number that has done nothing
  pub record IsFresh (n : ℕ) (r : RunnerState T) : Type 0 where
    pub tidy : IsTidy r
    pub knows : r.part.records.known ≡ []
    pub number : r.number ≡ n
