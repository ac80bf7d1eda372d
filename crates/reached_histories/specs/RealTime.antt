-- The order in time: a request that was answered before another was asked comes before it in the history.
use Rattle.std.specs.Prelude.{◌≡◌, ◌≢◌, ◌⊎◌, ℕ, true, List, Some, take}
use Rattle.machine_states.specs.map_history.specs.declared.op.Request.{Request}
use Rattle.machine_states.specs.table_words.specs.Limits.{IsWithinLimits}
use Rattle.machine_states.specs.table_words.specs.declared.layout.Layout.{Layout}
use Rattle.machine_states.specs.table_words.specs.declared.spot.Spot.TheVariants.{Stamp, Reply}
use Rattle.machine_states.specs.structure_laws.specs.Meaning.{Meaning}
use Rattle.history_orders.specs.Turns.{Follows}
use Rattle.machine_states.specs.runner_parts.specs.declared.entries.Look.{Look}
use Rattle.machine_states.specs.runner_parts.specs.declared.event.Event.{Event}
use Rattle.machine_states.specs.epoch_core.specs.declared.stage.Stage.TheVariants.{Entered}
use Rattle.machine_states.specs.runner_parts.specs.State.{PartState}
use Rattle.machine_states.specs.runner_parts.specs.Tests.{is_looked, is_replied}
use Rattle.machine_states.specs.World.{World, run}
use Rattle.machine_states.specs.Reached.{Reached}
use Rattle.machine_states.specs.Schedules.{IsAfter}
use Rattle.machine_states.specs.Sight.{Sight, sight}
use Rattle.machine_facts.specs.machine_invariant.specs.After.{AreAllowed}
use Rattle.reached_histories.specs.Requests.{requests_of}
use Rattle.reached_histories.specs.Sections.{HasOpen}

-- real-time order from one state to a later one, of a request that is answered in the first and of one that isn't asked
-- there: the answered one keeps its stamp, and the other one's is greater once both have theirs, or equal where both
-- are odd. Then both are of reads, at one place of the history, and their order plays no part. A reply without a stamp
-- is that of a read whose worker hasn't written the stamp yet
abbrev pub ComesBefore : Sight → Sight → ℕ → ℕ → Type 0
ComesBefore s s' k n = s.word (Reply k) ≢ 0 → s'.word (Stamp n) ≢ 0
    → (s.word (Stamp k) ≢ 0 → s'.word (Stamp k) ≡ s.word (Stamp k))
    × (s'.word (Stamp k) ≢ 0 → Follows (s'.word (Stamp k)) (s'.word (Stamp n)))

-- a read seeks its request: its reply is written and not its stamp, or the clock was loaded for it and its runner
-- hasn't left since
abbrev pub IsSought : PartState → Look → Type 0
IsSought p x = (is_replied x.stage ≡ true) ⊎ ((is_looked x.stage ≡ true) × (g : ℕ) × (p.stage ≡ Entered g))

module _ (m : Meaning) (l : Layout) (requests : List Request) where
  -- the request isn't asked yet: it has no stamp, its worker has published no section for it, or has run that to its
  -- end, and no read of its worker seeks it
  pub record IsUnasked (s : Sight) (n : ℕ) : Type 0 where
    pub unstamped : s.word (Stamp n) ≡ 0
    pub unpublished : HasOpen s ((requests_of m l requests).worker n) n → ⊥
    pub unlooked : (x : Look) → (s.part ((requests_of m l requests).worker n)).reads.look ≡ Some x
        → IsSought (s.part ((requests_of m l requests).worker n)) x → x.thunk.request ≢ n

  -- what is answered comes before what isn't asked yet
  abbrev pub AreInRealTime : Sight → Sight → Type 0
  AreInRealTime s s' = (k n : ℕ) → IsUnasked s n → ComesBefore s s' k n

  -- events lead from the one state to the other
  pub record LeadsTo (w v : World) : Type 0 where
    pub events : List Event
    pub runs : run m l requests w events ≡ Some v

  -- the history is linearizable: from each state that the machine reaches to each later one requests are in real-time
  -- order
  abbrev pub ReachedAreLinearizable : Type 0
  ReachedAreLinearizable = IsWithinLimits l → AreAllowed requests → (w v : World) → Reached m l requests w
      → LeadsTo w v → AreInRealTime (sight m l requests w) (sight m l requests v)

  -- and so they are after every list of events, from the state after each of its beginnings
  abbrev pub LinearizableAfter : List Event → World → Type 0
  LinearizableAfter events w = IsWithinLimits l → AreAllowed requests → (is : IsAfter m l requests events w)
      → (at : ℕ) (v : World) → run m l requests is.start (take at events) ≡ Some v
      → AreInRealTime (sight m l requests v) (sight m l requests w)
