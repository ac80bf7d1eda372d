-- What comes between two steps of a run.
use Rattle.std.specs.Prelude.{◌≡◌, ℕ, ◌≤◌, ◌-◌, ◌^◌, Bool, true, false, None}
use Rattle.machine_states.specs.body_terms.specs.Counted.{counted_on}
use Rattle.runner_gate.specs.Asks.{Asks, asked_on, HaltedOnce}

-- what counts nothing has these asks, as if their count stood at the last number of 64 bits
abbrev pub uncounted : Asks
uncounted = record { plan = None; count = 2 ^ 64 - 1 }

-- so many steps were counted, and a gate was asked after each, which let the runner go on each time, or halted it once,
-- so after the last one: who goes on behind a halt may be halted again. And it is that gate still. The numbers are the
-- gate's halts, its asks, and the steps, before and after
pub record IsAsked (n : ℕ) (going : Bool) (halts halts' : ℕ) (asks asks' : Asks) (steps steps' : ℕ) : Type 0 where
  pub counted : steps' ≡ counted_on steps n
  pub asked : asks' ≡ asked_on asks n
  pub never_falls : halts ≤ halts'
  pub went : going ≡ true → halts' ≡ halts
  pub halted : going ≡ false → HaltedOnce halts halts'
