-- How a step of the machine changes what runners keep, as events of the history.
use Rattle.std.specs.Prelude.{ℕ, suc, ◌≤◌, ◌≡◌, ◌≢◌, ◌⊎◌, ◌==◌, true, List, [], ◌∷◌, ◌++◌, map, cond, Some}
use Rattle.std.specs.List.{filter}
use Rattle.machine_states.specs.map_history.specs.declared.op.Request.{Request}
use Rattle.machine_states.specs.body_terms.specs.declared.thunk.Thunk.{Thunk}
use Rattle.machine_states.specs.table_words.specs.declared.layout.Layout.{Layout}
use Rattle.machine_states.specs.structure_laws.specs.Meaning.{Meaning}
use Rattle.machine_states.specs.runner_parts.specs.declared.entries.Known.{Known}
use Rattle.machine_states.specs.runner_parts.specs.declared.event.EventKind.{EventKind}
use Rattle.machine_states.specs.runner_parts.specs.declared.event.EventKind.TheVariants.{Hold}
use Rattle.machine_states.specs.runner_parts.specs.State.{RunState, PartState}
use Rattle.machine_states.specs.runner_parts.specs.Tests.{is_answered}
use Rattle.machine_states.specs.runner_steps.specs.Sections.{is_open_run}
use Rattle.machine_history.specs.history_core.specs.State.{Requests, HistoryState}
use Rattle.machine_history.specs.history_core.specs.Events.{Event, Learn, Over, Publish, after}
use Rattle.machine_history.specs.history_core.specs.Schedules.{after_all}
use Rattle.machine_states.specs.Sight.{Sight, Steps}
use Rattle.machine_facts.specs.machine_invariant.specs.Whole.{Beside, IsWhole}
use Rattle.reached_histories.specs.Kept.{link_of, AreKept}

-- the requests both of whose words these are
abbrev pub answered_in : List Known → List ℕ
answered_in known = map (λ x. x.request) (filter (λ x. is_answered known x.request) known)

-- the runner comes to know these requests
abbrev pub learns : ℕ → List ℕ → List Event
learns r ns = map (λ n. Learn r n) ns

-- the worker's own run has come to its section's end, where these links differ
abbrev pub ends : ℕ → ℕ → ℕ → List Event
ends r before now = cond (before == now) [] (Over r ∷ [])

-- the history's events of a step of this runner that publishes nothing, by its part before and
-- after
abbrev pub events_of : ℕ → PartState → PartState → List Event
events_of r p p' = ends r (link_of p.published) (link_of p'.published)
    ++ learns r (answered_in p'.records.known)

-- the runner is in its own run of the section that it has published, which has set the done word
pub record IsAtItsEnd (p : PartState) : Type 0 where
  pub run : RunState
  pub runs : p.run ≡ Some run
  pub opened : is_open_run run ≡ true
  pub ended : 1 ≤ run.ended
  pub own : link_of p.published ≡ suc run.descriptor

module _ (m : Meaning) (l : Layout) (requests : List Request) where
  -- this step publishes no section: it is no try to, or the lock stood there with another word
  abbrev pub PublishesNothing : (s s' : Sight) (r : ℕ) (kind : EventKind)
      → Steps m l requests s s' r kind → Type 0
  PublishesNothing s s' r kind step = (t : Thunk) (d : ℕ) → kind ≡ Hold t d
      → s.word step.ask.0 ≢ t.word

  -- the events of a step that publishes nothing lead to what runners keep then; and where the
  -- runner has then no section that it hasn't run to its end, and had one before, it was at its end
  abbrev pub StepsAreKept : Type 0
  StepsAreKept = (c : Requests) (g : Beside) (s s' : Sight) (w : HistoryState) (r : ℕ)
      (kind : EventKind) → IsWhole m l g s
      → (step : Steps m l requests s s' r kind) → PublishesNothing s s' r kind step → AreKept s w
      → AreKept s' (after_all c w (events_of r (s.part r) (s'.part r)))

  abbrev pub EndsAreOwn : Type 0
  EndsAreOwn = (g : Beside) (s s' : Sight) (r : ℕ) (kind : EventKind) → IsWhole m l g s
      → (step : Steps m l requests s s' r kind) → PublishesNothing s s' r kind step
      → (link_of (s'.part r).published ≡ link_of (s.part r).published) ⊎ IsAtItsEnd (s.part r)

  -- a publication leads to what runners keep then
  abbrev pub PublicationsAreKept : Type 0
  PublicationsAreKept = (c : Requests) (g : Beside) (s s' : Sight) (w : HistoryState)
      (r d answer : ℕ) (t : Thunk) → IsWhole m l g s
      → (step : Steps m l requests s s' r (Hold t d)) → s.word step.ask.0 ≡ t.word → AreKept s w
      → AreKept s' (after c w (Publish r d t.request answer))
