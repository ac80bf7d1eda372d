-- How often a gate was asked, and how many steps were counted.
use Rattle.std.specs.Prelude.{◌≡◌, ℕ, ◌+◌, ◌≤◌, Bool, true, false}
use Rattle.machine_states.specs.body_terms.specs.Counted.{counted_on}
use Rattle.runner_gate.specs.Asks.{Asks, asked_on, HaltedOnce}

-- so many steps were counted, and a gate was asked after each and so many times more. It let the runner go on
-- each time, or halted it at the last one; and it is that gate still. The numbers are the gate's halts, its
-- asks, and the steps, before and after
pub record IsCounted (made more : ℕ) (going : Bool) (halts halts' : ℕ) (asks asks' : Asks) (steps steps' : ℕ)
    : Type 0 where
  pub counted : steps' ≡ counted_on steps made
  pub asked : asks' ≡ asked_on asks (made + more)
  pub never_falls : halts ≤ halts'
  pub went : going ≡ true → halts' ≡ halts
  pub halted : going ≡ false → HaltedOnce halts halts'

module _ {G : Type 0} where
  -- a gate came to so many halts and to these asks, which tell whose it is. A function that is passed a gate shows
  -- this of a state in which it had it, since it can't make one of a kind that it doesn't know
  abbrev pub IsSeen : (G → ℕ) → (G → Asks) → ℕ → Asks → Type 0
  IsSeen halts_of asks_of halts asks = (gate : G) × (halts_of gate ≡ halts) × (asks_of gate ≡ asks)
