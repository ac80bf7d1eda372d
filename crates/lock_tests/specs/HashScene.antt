-- A hash table of one bucket with two workers, and one request for each.
use Rattle.std.specs.Prelude.{◌≡◌, ℕ, zero, suc, List, [], ◌∷◌}
use Rattle.machine_states.specs.map_history.specs.declared.op.Op.{Op}
use Rattle.machine_states.specs.map_history.specs.declared.op.Request.{Request}
use Rattle.settled_tables.specs.closed_words.specs.version_words.specs.TableState.{TableState}
use Rattle.hash_table.specs.declared.table.HashTable.{HashTable}

-- one request in each of two traces
abbrev pub two_requests : Op → Op → List Request
two_requests a b = record { trace = 0; number = 0; op = a } ∷ record { trace = 1; number = 1; op = b } ∷ []

-- the request of the worker with this number
abbrev pub asked : Op → Op → ℕ → Request
asked a b zero = record { trace = 0; number = 0; op = a }
asked a b (suc n) = record { trace = 1; number = 1; op = b }

-- the table has one bucket and two workers with two node slots each, and these requests
pub record IsScene (a b : Op) (t : TableState HashTable) : Type 0 where
  pub runners : t.layout.runners ≡ 2
  pub nodes : t.layout.nodes ≡ 2
  pub requests : t.requests ≡ two_requests a b
  pub one_bucket : t.structure.bits ≡ 0
