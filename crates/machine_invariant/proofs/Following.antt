-- The components go along with every list of the machine's events, and the whole invariant with them.
use Rattle.std.specs.Prelude.{◌++◌, replicate, Bool, true, false, Option, Some, None}
use Rattle.std.proofs.Common.{◌≡◌, ℕ, List, [], ◌∷◌, inl, ⊎_elim, sym, refl, subst, ◌∙◌}
use Rattle.machine_states.specs.map_history.specs.declared.op.Request.{Request}
use Rattle.machine_states.specs.table_words.specs.declared.layout.Layout.{Layout}
use Rattle.machine_states.specs.table_words.specs.declared.spot.Spot.{Spot}
use Rattle.machine_states.specs.table_words.specs.declared.access.Access.{Access}
use Rattle.machine_states.specs.structure_laws.specs.Meaning.{Meaning}
use Rattle.machine_states.specs.runner_parts.specs.declared.event.Event.{Event}
use Rattle.machine_states.specs.runner_parts.specs.declared.event.EventKind.{EventKind}
use Rattle.machine_states.specs.runner_steps.specs.Asks.{asks}
use Rattle.agreement_core.specs.Events as agreement
use Rattle.agreement_core.specs.Schedules as agreement_schedules
use Rattle.agreement_core.specs.History as agreement_history
use Rattle.machine_states.specs.epoch_core.specs.State.{Counts, EpochState}
use Rattle.machine_states.specs.epoch_core.specs.Events as epochs
use Rattle.machine_states.specs.epoch_core.specs.Schedules as epoch_schedules
use Rattle.machine_states.specs.epoch_core.specs.History as epoch_history
use Rattle.machine_states.specs.World.{World, happens, then_run, run}
use Rattle.machine_states.specs.Sight.{Sight, sight, Steps}
use Rattle.machine_states.specs.Sight as states
use Rattle.machine_states.proofs.Sights.{some_none, happens_steps}
use Rattle.machine_states.proofs.Steps.{some_same}
use Rattle.machine_blocks.specs.machine_guards.specs.machine_agreement.specs.machine_epochs.specs.Entries.{counts_of}
use Rattle.machine_blocks.specs.machine_guards.specs.machine_agreement.specs.machine_scenes.specs.Shown.{States, Publications, rules_of}
use Rattle.machine_invariant.specs.Along.{Components, reaches_of, components_after, AreEventsOf, GoAlong}
use Rattle.machine_invariant.specs.Whole.{Beside, states_of, IsWhole}
use Rattle.machine_invariant.proofs.States.{with_histories}
use Rattle.machine_invariant.proofs.Jointly.{JointSteps, alone_before, Goes, is_hold, is_reading, no_hold}
use Rattle.machine_invariant.proofs.Pieces.{Pieces, KeepsWhole, led}

module _ (c : Counts) where
  slots_append : (w : EpochState) (front back : List epochs.Event) → epoch_schedules.AllEnabled c w front
      → epoch_schedules.AllEnabled c (epoch_schedules.after_all c w front) back
      → epoch_schedules.AllEnabled c w (front ++ back)
  slots_append w [] back one two = two
  slots_append w (v ∷ front) back one two = (one.0, slots_append (epochs.after c w v) front back one.1 two)

  slots_after : (w : EpochState) (front back : List epochs.Event) → epoch_schedules.after_all c w (front ++ back)
      ≡ epoch_schedules.after_all c (epoch_schedules.after_all c w front) back
  slots_after w [] back = refl
  slots_after w (v ∷ front) back = slots_after (epochs.after c w v) front back

module _ (m : Meaning) (l : Layout) (rs : List Request) where
  abbrev c : Counts
  c = counts_of m l

  -- one step of the machine as events of the components, which lead to states that meet the whole invariant
  pub record StepsWhole (g : Beside) (s s' : Sight) (r : ℕ) (kind : EventKind) : Type 0 where
    pub es : List agreement.Event
    pub vs : List epochs.Event
    pub publications : Publications
    -- of the same requests
    pub requests : publications.requests ≡ g.publications.requests
    pub events : (changes : agreement_history.History) (wins : epoch_history.History)
        → AreEventsOf m l rs (with_histories g changes wins) s r kind es vs
    pub whole : IsWhole m l (record {
      agreement = agreement_schedules.after_all (rules_of m l) g.agreement es;
      epochs = epoch_schedules.after_all c g.epochs vs;
      publications = publications;
    }) s'
    -- these are reached by steps of the joint states
    pub ask : Spot × Access
    pub asked : asks m l rs r kind (s.part r) ≡ Some ask
    pub goes : Goes m l g s r kind (s.word ask.0) (states_of (record {
      agreement = agreement_schedules.after_all (rules_of m l) g.agreement es;
      epochs = epoch_schedules.after_all c g.epochs vs;
      publications = publications;
    }) s')

  -- coming to hold slots, before steps of the joint states
  reaches_before : (reaches : List (ℕ × (ℕ → Bool))) (j to : States) → epoch_schedules.AllEnabled c j.epochs (reaches_of reaches)
      → JointSteps m l (record j { epochs = epoch_schedules.after_all c j.epochs (reaches_of reaches) }) to → JointSteps m l j to
  reaches_before [] j to ok more = more
  reaches_before (x ∷ reaches) j to ok more = alone_before m l j to (epochs.Reach x.0 x.1) refl ok.0
      (reaches_before reaches (record j { epochs = epochs.after c j.epochs (epochs.Reach x.0 x.1) }) to ok.1 more)

  -- nobody comes to hold slots where a section is published
  pub goes_reached : (g : Beside) (s : Sight) (r : ℕ) (kind : EventKind) (found : ℕ) (to : States) (reaches : List (ℕ × (ℕ → Bool)))
      → epoch_schedules.AllEnabled c g.epochs (reaches_of reaches) → is_hold kind ≡ false → is_reading kind ≡ false
      → Goes m l (record g { epochs = epoch_schedules.after_all c g.epochs (reaches_of reaches) }) s r kind found to
      → Goes m l g s r kind found to
  goes_reached g s r kind found to reaches ok other apart = ⊎_elim
      (λ quiet. inl (record { passed = reaches_before reaches (states_of g s) to ok quiet.passed; nothing = quiet.nothing; apart = quiet.apart }))
      (λ more. ⊎_elim
      (λ publishing. absurd (no_hold m l kind publishing.thunk.word other publishing.thunk publishing.descriptor publishing.kind_is refl))
      (λ reading. absurd (let clash : true ≡ false = sym reading.reading ∙ apart in cc)) more)

  -- where runners come to hold slots first
  pub assembled : (g : Beside) (s s' : Sight) (r : ℕ) (kind : EventKind) (reaches : List (ℕ × (ℕ → Bool)))
      → epoch_schedules.AllEnabled c g.epochs (reaches_of reaches)
      → (step : Steps m l rs s s' r kind)
      → (pieces : Pieces m l (record g { epochs = epoch_schedules.after_all c g.epochs (reaches_of reaches) }) s s' r kind step.ask)
      → (keeps : KeepsWhole m l (record g { epochs = epoch_schedules.after_all c g.epochs (reaches_of reaches) }) s s' r kind step.ask pieces)
      → Goes m l g s r kind (s.word step.ask.0) (states_of
      (led m l (record g { epochs = epoch_schedules.after_all c g.epochs (reaches_of reaches) }) r pieces.heads pieces.passes pieces.events
      keeps.publications) s')
      → StepsWhole g s s' r kind
  assembled g s s' r kind reaches ok step pieces keeps goes =
      let es = pieces.heads ++ replicate pieces.passes (agreement.Pass r) in
      let vs = reaches_of reaches ++ pieces.events in
      record {
        es = es;
        vs = vs;
        publications = keeps.publications;
        requests = keeps.requests;
        events = λ changes wins. record {
          ask = step.ask;
          asked = step.asked;
          heads = pieces.heads;
          passes = pieces.passes;
          in_sections = pieces.in_sections;
          all_heads = refl;
          reaches = reaches;
          tails = pieces.events;
          in_slots = pieces.in_slots;
          all_tails = refl;
          enabled = pieces.enabled;
          enabled_slots = slots_append c g.epochs (reaches_of reaches) pieces.events ok pieces.enabled_slots;
        };
        whole = subst (λ (e : EpochState). IsWhole m l (record {
          agreement = agreement_schedules.after_all (rules_of m l) g.agreement es;
          epochs = e;
          publications = keeps.publications;
        }) s')
            (sym (slots_after c g.epochs (reaches_of reaches) pieces.events)) keeps.whole;
        ask = step.ask;
        asked = step.asked;
        goes = subst (λ (e : EpochState). Goes m l g s r kind (s.word step.ask.0) (states_of (record {
          agreement = agreement_schedules.after_all (rules_of m l) g.agreement es;
          epochs = e;
          publications = keeps.publications;
        }) s'))
            (sym (slots_after c g.epochs (reaches_of reaches) pieces.events)) goes;
      }

  -- what a list of events leads to
  pub record Follows (w : World) (k : Components) (es : List Event) (v : World) : Type 0 where
    pub beside : Beside
    pub changes : agreement_history.History
    pub wins : epoch_history.History
    pub along : GoAlong m l rs w k es v (with_histories beside changes wins)
    pub whole : IsWhole m l beside (sight m l rs v)
    pub requests : beside.publications.requests ≡ rs

  module _ (each : (g : Beside) (s s' : Sight) (r : ℕ) (kind : EventKind) → IsWhole m l g s → g.publications.requests ≡ rs → Steps m l rs s s' r kind
      → StepsWhole g s s' r kind) where
    then_follows : (o : Option World) (f : World → Option World) (v : World) {A : Type 0} → ((u : World) → o ≡ Some u → f u ≡ Some v → A)
        → then_run o f ≡ Some v → A
    then_follows None f v goes e = some_none v e
    then_follows (Some u) f v goes e = goes u refl e

    pub follows : (es : List Event) (w v : World) (g : Beside) (changes : agreement_history.History) (wins : epoch_history.History)
        → states.IsWhole m l rs w → IsWhole m l g (sight m l rs w) → g.publications.requests ≡ rs → run m l rs w es ≡ Some v
        → Follows w (with_histories g changes wins) es v
    follows [] w v g changes wins all whole of done = record {
      beside = g;
      changes = changes;
      wins = wins;
      along = (sym (some_same w v done), refl);
      whole = subst (λ (u : World). IsWhole m l g (sight m l rs u)) (some_same w v done) whole;
      requests = of;
    }
    follows (e ∷ es) w v g changes wins all whole of done = then_follows (happens m l rs w e) (λ u. run m l rs u es) v (λ u goes rest.
        let step = happens_steps m l rs w u e all goes in
        let one = each g (sight m l rs w) (sight m l rs u) e.runner e.kind whole of step.0 in
        let k = components_after m l (with_histories g changes wins) one.es one.vs in
        let g' : Beside = record { agreement = k.agreement; epochs = k.epochs; publications = one.publications } in
        let more = follows es u v g' k.changes k.wins step.1 one.whole (one.requests ∙ of) rest in
        record {
          beside = more.beside;
          changes = more.changes;
          wins = more.wins;
          along = (u, goes, one.es, one.vs, one.events changes wins, more.along);
          whole = more.whole;
          requests = more.requests;
        }) done
