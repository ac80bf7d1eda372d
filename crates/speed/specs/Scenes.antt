-- A table with one worker.
use Rattle.std.specs.Prelude.{◌≡◌, ℕ, List, [], ◌∷◌}
use Rattle.machine_states.specs.map_history.specs.declared.op.Op.TheVariants.{Get}
use Rattle.machine_states.specs.map_history.specs.declared.op.Request.{Request}
use Rattle.table_steps.specs.version_words.specs.TableState.{TableState}

-- the first request of a trace of its own
abbrev pub request_of : ℕ → Request
request_of number = record { trace = number; number = number; op = Get 1 }

abbrev pub eight_requests : List Request
eight_requests = request_of 0 ∷ request_of 1 ∷ request_of 2 ∷ request_of 3 ∷ request_of 4 ∷ request_of 5 ∷ request_of 6
    ∷ request_of 7 ∷ []

module _ {T : Type 0} where
  -- the table has one worker, and eight requests
  pub record IsScene (t : TableState T) : Type 0 where
    pub runners : t.layout.runners ≡ 1
    pub requests : t.requests ≡ eight_requests
