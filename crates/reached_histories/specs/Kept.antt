-- What runners keep, as the history's state has it.
use Rattle.std.specs.Prelude.{ℕ, suc, ◌≡◌, Option, Some, None}
use Rattle.machine_states.specs.runner_parts.specs.declared.entries.Published.{Published}
use Rattle.machine_states.specs.runner_parts.specs.Tests.{is_answered}
use Rattle.machine_history.specs.history_core.specs.State.{HistoryState}
use Rattle.machine_states.specs.Sight.{Sight}

-- the link of the section that a runner has published and not yet run to its end, 0 where it has
-- none
abbrev pub link_of : Option Published → ℕ
link_of None = 0
link_of (Some x) = suc x.descriptor

-- a runner knows a request where it has both its words in its records; a worker's published section
-- is the one that it hasn't run to its end
pub record AreKept (s : Sight) (w : HistoryState) : Type 0 where
  pub known : (r n : ℕ) → w.known r n ≡ is_answered (s.part r).records.known n
  pub published : (r : ℕ) → w.published r ≡ link_of (s.part r).published
