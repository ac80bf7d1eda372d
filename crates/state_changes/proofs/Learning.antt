-- What a runner learns of a word changes nothing but what it knows.
use Rattle.std.proofs.Common.{◌≡◌, ℕ, [], ◌∷◌, refl}
use Rattle.std.specs.Prelude.{Bool, true, false, ◌++◌, ◌==◌, if◌then◌else◌}
use Rattle.runner_steps.specs.runner_parts.specs.declared.entries.Known.{Known}
use Rattle.runner_steps.specs.runner_parts.specs.State.{RecordsState}
use Rattle.runner_steps.specs.runner_parts.specs.Lists.{learned}

learned_by : (zero : Bool) (s : RecordsState) (x : Known) → (if zero then s else record s { known = s.known ++ x ∷ [] })
    ≡ record s { known = (if zero then s else record s { known = s.known ++ x ∷ [] }).known }
learned_by true s x = refl
learned_by false s x = refl

pub learned_is : (s : RecordsState) (request : ℕ) (reply : Bool) (number : ℕ)
    → learned s request reply number ≡ record s { known = (learned s request reply number).known }
learned_is s request reply number = learned_by (number == 0) s (record { request = request; reply = reply; number = number })
