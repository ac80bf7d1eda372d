-- Which event of guards a step of the machine is, by its kind.
use Rattle.std.specs.Prelude.{ℕ, ◌-◌, ◌==◌, List, [], ◌∷◌, ◌++◌, Bool, true, false, Option, Some, None, if◌then◌else◌}
use Rattle.machine_states.specs.body_terms.specs.Word.{value_of}
use Rattle.machine_states.specs.body_terms.specs.Line.{is_end}
use Rattle.machine_states.specs.table_words.specs.declared.layout.Layout.{Layout}
use Rattle.machine_states.specs.table_words.specs.Seen.{upd}
use Rattle.machine_states.specs.structure_laws.specs.Meaning.{Meaning}
use Rattle.machine_states.specs.runner_parts.specs.declared.event.EventKind.{EventKind}
use Rattle.machine_states.specs.runner_parts.specs.declared.event.EventKind.TheVariants as kinds
use Rattle.machine_states.specs.runner_parts.specs.State.{RunState, PartState}
use Rattle.machine_states.specs.runner_parts.specs.Lists.{names_guarded}
use Rattle.machine_states.specs.runner_steps.specs.AfterInRun.{ended_more}
use Rattle.machine_states.specs.runner_steps.specs.Guards.{is_last_guard}
use Rattle.machine_states.specs.runner_steps.specs.Sections.{is_open_run, next_of}
use Rattle.machine_states.specs.guard_core.specs.Events as events
use Rattle.machine_states.specs.guard_core.specs.Events.{Event}

-- the blocks that are linked in each descriptor's latest publication, behind a step that found this word: a publication
-- that won begins without any, and a link that was won adds its block
abbrev pub linked_more : (ℕ → List ℕ) → ℕ → Option RunState → ℕ → ℕ → List ℕ
linked_more chain b None found = chain
linked_more chain b (Some q) found =
    if found == 0 then upd chain q.descriptor (chain q.descriptor ++ b ∷ []) else chain

abbrev pub chain_after : (ℕ → List ℕ) → EventKind → PartState → ℕ → ℕ → List ℕ
chain_after chain (kinds.Hold t d) p found = if found == t.word then upd chain d [] else chain
chain_after chain (kinds.LinkCommit b) p found = linked_more chain b p.run found
chain_after chain _ p found = chain

module _ (m : Meaning) (l : Layout) (r : ℕ) where
  -- the event of a runner's step in no run, which found this word
  abbrev pub outside_events : EventKind → PartState → ℕ → List Event
  outside_events kinds.EnterAgain p found = events.Enter r ∷ []
  outside_events kinds.Idle p found = events.Exit r ∷ []
  outside_events (kinds.Guard None) p found = events.ClearGuard r ∷ []
  outside_events (kinds.Guard (Some d)) p found = events.StoreGuard r d ∷ []
  outside_events (kinds.LoadCell (Some place)) p found =
      if names_guarded p.guards (m.is_lock place) found then events.Validate r (value_of found - 1) ∷ [] else []
  outside_events (kinds.Hold t d) p found = if found == t.word then events.Publish r d ∷ [] else []
  outside_events (kinds.LoadThunk (Some d)) p found = events.Begin r d ∷ []
  outside_events (kinds.LoadGuard n) p found =
      if is_last_guard l p.guards.looked then events.LoadLast r ∷ [] else events.LoadGuard r ∷ []
  outside_events _ p found = []

  -- that of a step of a run's line, which found this word: a link that was won, or the last release, which ends the run
  abbrev pub line_events : EventKind → RunState → ℕ → List Event
  line_events kinds.Release q found =
      if is_end (next_of m (ended_more q)) then events.Finish r q.descriptor ∷ [] else []
  line_events (kinds.LinkCommit b) q found = if found == 0 then events.Link r q.descriptor b ∷ [] else []
  line_events _ q found = []

  -- that of a step in a run: none where the run has still to load words of its thunk, or its done word
  abbrev pub inside_events : Bool → EventKind → RunState → ℕ → List Event
  inside_events true kind q found = line_events kind q found
  inside_events false kind q found = []

  -- the event of this runner's step of this kind, which found this word, if it is one
  abbrev pub guard_events : EventKind → PartState → Option RunState → ℕ → List Event
  guard_events kind p None found = outside_events kind p found
  guard_events kind p (Some q) found = inside_events (is_open_run q) kind q found
