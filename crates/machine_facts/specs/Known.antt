-- The stamp and reply words that runners know.
use Rattle.std.specs.Prelude.{◌≡◌, ◌≢◌, ℕ, slice_get, Some}
use Rattle.machine_states.specs.runner_parts.specs.declared.entries.Known.{Known}
use Rattle.machine_states.specs.runner_steps.specs.Outside.{entry_spot}
use Rattle.machine_states.specs.Sight.{Sight}

-- each stamp word and each reply word that a runner knows isn't 0, and stands
pub record KnownStand (s : Sight) : Type 0 where
  pub some : (r i : ℕ) (x : Known) → slice_get (s.part r).records.known i ≡ Some x → x.number ≢ 0
  pub stands : (r i : ℕ) (x : Known) → slice_get (s.part r).records.known i ≡ Some x
      → s.word (entry_spot x.request x.reply) ≡ x.number
