-- What the machine's states supply to the history's events, by what runners keep.
use Rattle.std.specs.Prelude.{ℕ, suc, ◌<◌, ◌≤◌, ◌≡◌, ◌≢◌, true, false, List, Some}
use Rattle.machine_states.specs.map_history.specs.declared.op.Request.{Request}
use Rattle.machine_states.specs.map_history.specs.Requests.{AreInOrder}
use Rattle.machine_states.specs.body_terms.specs.declared.thunk.Thunk.{Thunk}
use Rattle.machine_states.specs.table_words.specs.declared.layout.Layout.{Layout}
use Rattle.machine_states.specs.table_words.specs.declared.spot.Spot.{Spot}
use Rattle.machine_states.specs.table_words.specs.declared.access.Access.{Access}
use Rattle.machine_states.specs.table_words.specs.Places.{descriptor_count}
use Rattle.machine_states.specs.structure_laws.specs.Meaning.{Meaning}
use Rattle.machine_states.specs.runner_parts.specs.declared.event.EventKind.TheVariants.{Hold}
use Rattle.machine_states.specs.runner_parts.specs.Tests.{has, is_answered}
use Rattle.machine_states.specs.runner_parts.specs.State.{RunState}
use Rattle.machine_states.specs.runner_steps.specs.Sections.{is_open_run}
use Rattle.machine_states.specs.runner_steps.specs.Asks.{asks}
use Rattle.machine_history.specs.history_core.specs.State.{Requests, HistoryState}
use Rattle.machine_history.specs.history_core.specs.Schedules.{first_state}
use Rattle.machine_history.specs.history_core.specs.Sound.{IsSound}
use Rattle.machine_history.specs.history_core.specs.Events.{Learn, Over, Enabled}
use Rattle.machine_states.specs.World.{World}
use Rattle.machine_states.specs.First.{IsFirst}
use Rattle.machine_states.specs.Sight.{Sight, sight}
use Rattle.machine_facts.specs.machine_invariant.specs.Whole.{Beside, states_of, IsWhole}
use Rattle.machine_facts.specs.Known.{KnownStand}
use Rattle.reached_histories.specs.Requests.{requests_of}
use Rattle.machine_history.specs.Tied.{AreTied}
use Rattle.reached_histories.specs.Kept.{AreKept}
use Rattle.machine_facts.specs.Told.{RunsAreTold}

-- what the history asks for where this runner publishes a section for this request: it has none
-- that it hasn't run to its end, the request is its own, and it knows both words of the earlier
-- requests of the trace and not of this one
pub record IsDue (c : Requests) (w : HistoryState) (r n : ℕ) : Type 0 where
  pub idle : w.published r ≡ 0
  pub own : c.worker n ≡ r
  pub unknown : w.known r n ≡ false
  pub earlier : (k : ℕ) → k < n → c.trace k ≡ c.trace n → w.known r k ≡ true

-- what it asks for where this descriptor is free again: no worker has published a section there
-- that it hasn't run to its end
pub record IsOverFor (w : HistoryState) (g : Beside) (d : ℕ) : Type 0 where
  pub used : g.agreement.used d ≡ true
  pub over : (r : ℕ) → w.published r ≢ suc d

module _ (m : Meaning) (l : Layout) (requests : List Request) where
  -- at first runners keep what the history's first state says
  abbrev pub FirstIsKept : Type 0
  FirstIsKept = (w : World) → IsFirst m l requests w → AreKept (sight m l requests w) first_state

  -- where a runner may try to publish a section, its request is due
  abbrev pub HoldsAreDue : Type 0
  HoldsAreDue = AreInOrder requests 64 → (s : Sight) (w : HistoryState) (r d : ℕ) (t : Thunk)
      (x : Spot × Access) → AreKept s w → asks m l requests r (Hold t d) (s.part r) ≡ Some x
      → IsDue (requests_of m l requests) w r t.request

  -- a published section's operation is that of its request
  abbrev pub OperationsAreAsked : Type 0
  OperationsAreAsked = (g : Beside) (s : Sight) → IsWhole m l g s
      → g.publications.requests ≡ requests
      → (d : ℕ) → g.agreement.used d ≡ true
      → (requests_of m l requests).op (g.publications.thunk d).request ≡ g.publications.op d

  -- each descriptor of the table that is in a limbo list, and so each one that leaves it, is used,
  -- and its worker has run its section to its end
  abbrev pub FreesAreOver : Type 0
  FreesAreOver = (g : Beside) (s : Sight) (w : HistoryState) → IsWhole m l g s → AreKept s w
      → (r d : ℕ) → d < descriptor_count l
      → has (s.part r).descriptors.limbo d ≡ true
      → IsOverFor w g d

-- a runner that has both words of a request in its records may come to know it
abbrev pub AnsweredAreLearned : Meaning → Layout → Type 0
AnsweredAreLearned m l = (c : Requests) (g : Beside) (s : Sight) (w : HistoryState)
    → IsWhole m l g s → AreTied c (states_of g s) w
    → KnownStand s → (r n : ℕ) → is_answered (s.part r).records.known n ≡ true
    → Enabled c w (Learn r n)

-- a worker whose own run of the section that it has published has set the done word may have come
-- to the section's end: it knows both words of its request where this was stamped
abbrev pub EndsAreOver : Meaning → Layout → Type 0
EndsAreOver m l = (c : Requests) (g : Beside) (s : Sight) (w : HistoryState) → IsWhole m l g s
    → AreTied c (states_of g s) w
    → IsSound c w → AreKept s w → RunsAreTold m s
    → (r : ℕ) (q : RunState) → (s.part r).run ≡ Some q → is_open_run q ≡ true → 1 ≤ q.ended
    → w.published r ≡ suc q.descriptor → Enabled c w (Over r)
