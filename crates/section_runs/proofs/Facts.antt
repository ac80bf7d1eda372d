-- What the last step of a run shows: its section is done.
use Rattle.std.proofs.Common.{◌≡◌, ℕ, ◌+◌, ◌≤◌, List, [], ◌∷◌, ◌++◌, length, true, refl, sym, ap, ◌∙◌, subst, Some}
use Rattle.std.specs.Prelude.{slice_get, if◌then◌else◌}
use Rattle.std.proofs.lemmas.List.FromFn.{length-map-range_with_len}
use Rattle.idem_cell.specs.machine_states.specs.body_terms.specs.declared.micro.Micro.TheVariants as micros
use Rattle.idem_cell.specs.machine_states.specs.body_terms.specs.declared.thunk.Thunk.{Thunk}
use Rattle.idem_cell.specs.machine_states.specs.body_terms.specs.Line.{is_end}
use Rattle.idem_cell.specs.machine_states.specs.body_terms.specs.Plain.{first_values}
use Rattle.idem_cell.specs.machine_states.specs.table_words.specs.Limits.{IsWithinLimits}
use Rattle.idem_cell.specs.machine_states.specs.structure_laws.specs.Meaning.{Meaning}
use Rattle.idem_cell.specs.machine_states.specs.structure_laws.specs.Laws.{Laws}
use Rattle.idem_cell.specs.machine_states.specs.runner_parts.specs.declared.event.EventKind.TheVariants as kinds
use Rattle.idem_cell.specs.machine_states.specs.body_terms.specs.block_words.specs.Blocks.{log_in}
use Rattle.idem_cell.specs.machine_states.specs.runner_parts.specs.declared.event.Event.{Event}
use Rattle.idem_cell.specs.machine_states.specs.runner_parts.specs.State.{RunState, FinishedState, PartState}
use Rattle.idem_cell.specs.machine_states.specs.runner_steps.specs.Outside.{is_sure_of}
use Rattle.idem_cell.specs.machine_states.specs.runner_steps.specs.AfterInRun.{ended_more, finished_of}
use Rattle.idem_cell.specs.machine_states.specs.runner_steps.specs.Sections.{thunk_of, next_of, settles}
use Rattle.idem_cell.specs.machine_states.specs.epoch_core.specs.declared.location.Location.{Location}
use Rattle.idem_cell.specs.machine_states.specs.epoch_core.specs.declared.location.Location.TheVariants as places
use Rattle.idem_cell.specs.machine_states.specs.epoch_core.specs.History.{is_out}
use Rattle.idem_cell.specs.machine_states.specs.epoch_core.specs.State.{IsKept}
use Rattle.idem_cell.specs.machine_states.specs.Sight.{Sight, sight, part_or_first}
use Rattle.idem_cell.specs.machine_epochs.specs.Slots.{thunk_in}
use Rattle.idem_cell.specs.machine_epochs.proofs.Joining.{thunk_same}
use Rattle.nested_lock.specs.machine_facts.specs.machine_agreement.proofs.RunPlaces.{opened_thunk}
use Rattle.nested_lock.specs.machine_facts.specs.machine_invariant.specs.After.{AreAllowed}
use Rattle.nested_lock.specs.machine_facts.specs.machine_invariant.specs.Along.{Components}
use Rattle.nested_lock.specs.machine_facts.specs.machine_invariant.specs.Slots.{node_count}
use Rattle.nested_lock.specs.machine_facts.specs.machine_invariant.specs.Trails.{IsEndOf, agreed_words}
use Rattle.nested_lock.specs.machine_facts.specs.After.{AreFactsOfStep}
use Rattle.nested_lock.specs.machine_facts.specs.States.{FactsStand}
use Rattle.nested_lock.specs.machine_facts.proofs.Following.{step_facts_after}
use Rattle.idem_alloc.specs.commit_log.specs.version_words.specs.RunnerState.{RunnerState}
use Rattle.idem_alloc.specs.commit_log.specs.Runs.{Stepped}
use Rattle.section_runs.specs.Reached.{IsReached}
use Rattle.section_runs.specs.Ended.{IsDone}
use mathlib.Core.Path.{fun_ext}
use Rattle.nested_lock.specs.machine_facts.specs.machine_invariant.specs.machine_blocks.proofs.Holding.{log_read}

-- what is held is out of its lists
kept_out : (x : Location) (g : ℕ) → IsKept x g → is_out x ≡ true
kept_out places.Fixed g kept = refl
kept_out places.Live g kept = refl
kept_out (places.Limbo r y) g kept = refl
kept_out (places.Hand r) g kept = absurd kept
kept_out (places.Free r) g kept = absurd kept
kept_out (places.Worn r) g kept = absurd kept
kept_out (places.OnBoard i) g kept = absurd kept

last_get : (fs : List FinishedState) (f : FinishedState) → slice_get (fs ++ f ∷ []) (length fs) ≡ Some f
last_get [] f = refl
last_get (x ∷ fs) f = last_get fs f

length_values : (n : ℕ) (f : ℕ → ℕ) → length (first_values n f) ≡ n
length_values n f = length-map-range_with_len f 0 n

-- what is known of the state in which a run ended
pub record EndShows {T : Type 0} (m : Meaning) (d : ℕ) (t : Thunk) (f : FinishedState) (new : RunnerState T) : Type 0 where
  pub reached : IsReached m new
  pub is_done : IsDone m d t f.trail (sight m new.layout new.requests reached.world)
  pub components : Components
  pub facts : FactsStand m new.layout (sight m new.layout new.requests reached.world) components
  pub used : components.agreement.used d ≡ true
  pub ends : IsEndOf m components.agreement (sight m new.layout new.requests reached.world) new.number d f

module _ {T : Type 0} (m : Meaning) (laws : Laws m) (last new : RunnerState T) (limits : IsWithinLimits new.layout) (allowed : AreAllowed new.requests)
    (q : RunState) (place word found : ℕ) (step : Stepped m q (micros.Release place word) found last new) (over : is_end (next_of m (ended_more q)) ≡ true)
    (sure : is_sure_of new.part.guards q.descriptor ≡ true) where
  abbrev event : Event
  event = record { runner = new.number; kind = kinds.Release }

  all : AreFactsOfStep m new.layout new.requests step.event.shown.before event step.event.shown.world
  all = step_facts_after m laws new.layout new.requests step.event.shown.was_reached.events step.event.shown.before limits allowed step.event.shown.was_reached.after event
      step.event.shown.world step.event.shown.happened

  abbrev s0 : Sight
  s0 = sight m new.layout new.requests step.event.shown.before

  abbrev s1 : Sight
  s1 = sight m new.layout new.requests step.event.shown.world

  part0 : s0.part new.number ≡ last.part
  part0 = ap part_or_first step.event.shown.was_own

  part1 : s1.part new.number ≡ new.part
  part1 = ap part_or_first step.event.shown.own

  runs : (s0.part new.number).run ≡ Some q
  runs = ap (λ (p : PartState). p.run) part0 ∙ step.running.inside.running

  used0 : all.before.agreement.used q.descriptor ≡ true
  used0 = all.there.sound.sections.in_trails.running new.number q runs

  thunk0 : thunk_in s0.word q.descriptor ≡ thunk_of q.opened
  thunk0 = opened_thunk m new.layout all.before.agreement s0 all.there.sound.sections.joined new.number q runs step.running.opened

  thunk1 : thunk_in s1.word q.descriptor ≡ thunk_of q.opened
  thunk1 = thunk_same s1.word s0.word q.descriptor (λ i. all.leads.words.thunk q.descriptor i used0) ∙ thunk0

  -- the run rests behind the checks that pass
  pub end_rests : settles m new.layout q ≡ q
  end_rests = (all.there.sound.sections.joined.tied new.number).rests q runs step.running.opened

  -- the runner is sure of the descriptor, so the section is still in it
  sure1 : is_sure_of (s1.part new.number).guards q.descriptor ≡ true
  sure1 = ap (λ (p : PartState). is_sure_of p.guards q.descriptor) part1 ∙ sure

  used1 : all.after.agreement.used q.descriptor ≡ true
  used1 =
      let slots = all.here.sound.slots in
      let is_held = slots.in_held.named new.number q.descriptor sure1 in
      let kept = slots.in_held.kept new.number (node_count m new.layout + q.descriptor) is_held in
      all.here.sound.used q.descriptor ∙ kept_out (all.after.epochs.location (node_count m new.layout + q.descriptor)) kept.0 kept.2

  abbrev f : FinishedState
  f = finished_of m last.layout (ended_more q)

  kept_is : new.part.records.finished ≡ last.part.records.finished ++ f ∷ []
  kept_is = step.behind.finished ∙ ap (λ b. if b then last.part.records.finished ++ f ∷ [] else last.part.records.finished) over

  ends_there : IsEndOf m all.after.agreement s1 new.number q.descriptor f
  ends_there = record {
    at = length last.part.records.finished;
    kept = ap (λ xs. slice_get xs (length last.part.records.finished)) (ap (λ (p : PartState). p.records.finished) part1 ∙ kept_is) ∙ last_get last.part.records.finished f;
    lock = ap (λ (t : Thunk). t.lock) (sym thunk1);
    word = ap (λ (t : Thunk). t.word) (sym thunk1);
  }

  pub end_shows : EndShows m q.descriptor (thunk_of q.opened) f new
  end_shows =
      let trails = all.here.sound.sections.in_trails in
      let log : ℕ → ℕ = log_in s1.word q.descriptor in
      let read : (k : ℕ) → log k ≡ (all.after.agreement.section q.descriptor).log k = log_read m new.layout all.here.sound.logs new.number q.descriptor sure1 in
      let stands : (all.after.agreement.section q.descriptor).log ≡ log = fun_ext (λ k. sym (read k)) in
      let whole = trails.whole new.number q.descriptor f used1 ends_there
      ∙ ap (first_values (agreed_words m all.after.agreement s1 q.descriptor)) stands in
      let many = ap length whole ∙ length_values _ log in
      record {
        reached = record { world = step.event.shown.world; reached = step.event.shown.reached; own = step.event.shown.own };
        is_done = record {
          thunk = thunk1;
          done = trails.done new.number q.descriptor f used1 ends_there;
          unnamed = λ p lock. all.here.sound.sections.in_locks.unnamed new.number q.descriptor p f used1 ends_there lock;
          whole = whole ∙ ap (λ n. first_values n log) (sym many);
          over = λ k low. read k ∙ trails.empty q.descriptor k used1 (subst (λ n. n ≤ k) many low);
        };
        components = all.after;
        facts = all.here;
        used = used1;
        ends = ends_there;
      }
