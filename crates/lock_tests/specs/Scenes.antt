-- A table with two workers.
use Rattle.std.specs.Prelude.{◌≡◌, List, [], ◌∷◌}
use Rattle.machine_states.specs.map_history.specs.declared.op.Op.TheVariants.{Get}
use Rattle.machine_states.specs.map_history.specs.declared.op.Request.{Request}
use Rattle.settled_tables.specs.closed_words.specs.version_words.specs.TableState.{TableState}

-- one request for each of two workers
abbrev pub two_requests : List Request
two_requests = record { trace = 0; number = 0; op = Get 1 } ∷ record { trace = 1; number = 1; op = Get 1 } ∷ []

module _ {T : Type 0} where
  -- the table has two workers, and one request for each
  pub record IsScene (t : TableState T) : Type 0 where
    pub runners : t.layout.runners ≡ 2
    pub requests : t.requests ≡ two_requests
