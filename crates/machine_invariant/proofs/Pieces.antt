-- The components' events of one step of the machine, and what they lead to.
use Rattle.std.specs.Prelude.{replicate, All}
use Rattle.std.proofs.Common.{◌≡◌, ℕ, ◌≤◌, List, ◌++◌, length, inl, inr, refl, sym, subst, false}
use Rattle.machine_states.specs.map_history.specs.declared.op.Request.{Request}
use Rattle.machine_states.specs.table_words.specs.declared.layout.Layout.{Layout}
use Rattle.machine_states.specs.table_words.specs.declared.spot.Spot.{Spot}
use Rattle.machine_states.specs.table_words.specs.declared.access.Access.{Access}
use Rattle.machine_states.specs.table_words.specs.Limits.{IsWithinLimits}
use Rattle.machine_states.specs.structure_laws.specs.Meaning.{Meaning}
use Rattle.machine_states.specs.structure_laws.specs.Laws.{Laws}
use Rattle.machine_states.specs.structure_laws.specs.Sections.{IsAllowed}
use Rattle.machine_states.specs.runner_parts.specs.declared.event.EventKind.{EventKind}
use Rattle.machine_states.specs.runner_parts.specs.declared.event.EventKind.TheVariants as kinds
use Rattle.agreement_core.specs.State.{AgreementState}
use Rattle.agreement_core.specs.Events as agreement
use Rattle.agreement_core.specs.Schedules as agreement_schedules
use Rattle.machine_states.specs.epoch_core.specs.Events as epochs
use Rattle.machine_states.specs.epoch_core.specs.Schedules as epoch_schedules
use Rattle.machine_states.specs.Sight.{Sight, Steps}
use Rattle.machine_blocks.specs.machine_guards.specs.machine_agreement.specs.machine_epochs.specs.Entries.{counts_of}
use Rattle.machine_blocks.specs.machine_guards.specs.machine_agreement.specs.machine_epochs.specs.Joined as joins
use Rattle.machine_blocks.specs.machine_guards.specs.machine_agreement.specs.machine_epochs.specs.Chunks as slots
use Rattle.machine_blocks.specs.machine_guards.specs.machine_agreement.specs.machine_epochs.proofs.AllKinds as joins_kinds
use Rattle.machine_blocks.specs.machine_guards.specs.machine_agreement.specs.machine_scenes.specs.Shown.{Publications, rules_of}
use Rattle.machine_blocks.specs.machine_guards.specs.machine_agreement.specs.Joined as sections
use Rattle.machine_blocks.specs.machine_guards.specs.machine_agreement.specs.Chunks as chunks
use Rattle.machine_blocks.specs.machine_guards.specs.machine_agreement.proofs.AllKinds as sections_kinds
use Rattle.machine_invariant.proofs.Holding.{blocks_most}
use Rattle.machine_invariant.specs.Whole.{Beside, states_of, IsWhole}
use Rattle.machine_invariant.proofs.Jointly.{IsWholeAfter, is_reading, HoldsNothing, Goes, GoesByPublishing, GoesByReading}
use Rattle.machine_invariant.proofs.SuppliesSections.{sections_supplied}
use Rattle.machine_invariant.proofs.SuppliesSlots.{HoldsMet, slots_supplied, guards_supplied}
use Rattle.machine_invariant.proofs.Limbo.{SweepsSafely}
use Rattle.machine_blocks.specs.machine_guards.specs.Goes.{OthersGo}
use Rattle.machine_blocks.specs.Stands.{LogsHold}
use Rattle.machine_blocks.proofs.Holding.{logs_hold}
use Rattle.machine_blocks.specs.machine_guards.proofs.Safe.{sweep_safe}

module _ (m : Meaning) (l : Layout) where
  -- the components' events of this runner's step of this kind on this word, and the states to which they lead
  pub record Pieces (g : Beside) (s s' : Sight) (r : ℕ) (kind : EventKind) (x : Spot × Access) : Type 0 where
    pub heads : List agreement.Event
    pub in_sections : chunks.IsChunk m l g.agreement r kind (s.part r) (s.part r).run (s.word x.0) heads
    pub passes : ℕ
    pub enabled : agreement_schedules.AllEnabled (rules_of m l) g.agreement (heads ++ replicate passes (agreement.Pass r))
    pub joined : sections.IsJoinedToAgreement m l (agreement_schedules.after_all (rules_of m l) g.agreement
        (heads ++ replicate passes (agreement.Pass r))) s'
    pub events : List epochs.Event
    pub in_slots : slots.IsChunk m l r kind (s.part r) (s.part r).run (s.word x.0) events
    pub enabled_slots : epoch_schedules.AllEnabled (counts_of m l) g.epochs events
    pub joined_slots : joins.IsJoinedToEpochs m l (epoch_schedules.after_all (counts_of m l) g.epochs events) s'
    -- guards and the logs stand there
    pub logs : LogsHold m l (agreement_schedules.after_all (rules_of m l) g.agreement (heads ++ replicate passes (agreement.Pass r)))
        (epoch_schedules.after_all (counts_of m l) g.epochs events) s'

  -- the states after these events of agreement, so many checks that pass behind them, and these events of epochs and slots
  abbrev pub led : Beside → ℕ → List agreement.Event → ℕ → List epochs.Event → Publications → Beside
  led g r heads passes events p = record {
    agreement = agreement_schedules.after_all (rules_of m l) g.agreement (heads ++ replicate passes (agreement.Pass r));
    epochs = epoch_schedules.after_all (counts_of m l) g.epochs events;
    publications = p;
  }

  -- the states to which a step's events lead meet the whole invariant
  pub record KeepsWhole (g : Beside) (s s' : Sight) (r : ℕ) (kind : EventKind) (x : Spot × Access) (pieces : Pieces g s s' r kind x)
      : Type 0 where
    pub publications : Publications
    -- of the same requests
    pub requests : publications.requests ≡ g.publications.requests
    pub whole : IsWhole m l (led g r pieces.heads pieces.passes pieces.events publications) s'
    -- and are reached by steps of the joint states
    pub goes : Goes m l g s r kind (s.word x.0) (states_of (led g r pieces.heads pieces.passes pieces.events publications) s')

  -- where they meet it with the same publications, and nothing is published
  pub keeps_quietly : (g : Beside) (s s' : Sight) (r : ℕ) (kind : EventKind) (x : Spot × Access) (pieces : Pieces g s s' r kind x)
      → HoldsNothing m l kind (s.word x.0) → is_reading kind ≡ false
      → IsWholeAfter m l (states_of g s) (led g r pieces.heads pieces.passes pieces.events g.publications) s'
      → KeepsWhole g s s' r kind x pieces
  keeps_quietly g s s' r kind x pieces nothing apart there = record {
    publications = g.publications;
    requests = refl;
    whole = there.whole;
    goes = inl (record { passed = there.passed; nothing = nothing; apart = apart });
  }

  -- these events of the components may come, and lead to states that belong to this sight, with checks that pass behind those of agreement
  pub record Leads (g : Beside) (s' : Sight) (r : ℕ) (heads : List agreement.Event) (events : List epochs.Event) : Type 0 where
    pub passes : ℕ
    pub enabled : agreement_schedules.AllEnabled (rules_of m l) g.agreement (heads ++ replicate passes (agreement.Pass r))
    pub joined : sections.IsJoinedToAgreement m l (agreement_schedules.after_all (rules_of m l) g.agreement
        (heads ++ replicate passes (agreement.Pass r))) s'
    pub enabled_slots : epoch_schedules.AllEnabled (counts_of m l) g.epochs events
    pub joined_slots : joins.IsJoinedToEpochs m l (epoch_schedules.after_all (counts_of m l) g.epochs events) s'
    pub logs : LogsHold m l (agreement_schedules.after_all (rules_of m l) g.agreement (heads ++ replicate passes (agreement.Pass r)))
        (epoch_schedules.after_all (counts_of m l) g.epochs events) s'

  module _ (g : Beside) (s s' : Sight) (r : ℕ) (kind : EventKind) (x : Spot × Access) (pieces : Pieces g s s' r kind x)
      (heads : List agreement.Event) (events : List epochs.Event) (same : pieces.heads ≡ heads) (same' : pieces.events ≡ events) where
    -- a step's events, where it is known which they are
    leads_of : Leads g s' r heads events
    leads_of = record {
      passes = pieces.passes;
      enabled = subst (λ es. agreement_schedules.AllEnabled (rules_of m l) g.agreement
          (es ++ replicate pieces.passes (agreement.Pass r))) same pieces.enabled;
      joined = subst (λ es. sections.IsJoinedToAgreement m l (agreement_schedules.after_all (rules_of m l) g.agreement
          (es ++ replicate pieces.passes (agreement.Pass r))) s') same pieces.joined;
      enabled_slots = subst (λ es. epoch_schedules.AllEnabled (counts_of m l) g.epochs es) same' pieces.enabled_slots;
      joined_slots = subst (λ es. joins.IsJoinedToEpochs m l (epoch_schedules.after_all (counts_of m l) g.epochs es) s') same' pieces.joined_slots;
      logs = subst (λ vs. LogsHold m l (agreement_schedules.after_all (rules_of m l) g.agreement
          (heads ++ replicate pieces.passes (agreement.Pass r))) (epoch_schedules.after_all (counts_of m l) g.epochs vs) s') same'
          (subst (λ es. LogsHold m l (agreement_schedules.after_all (rules_of m l) g.agreement
          (es ++ replicate pieces.passes (agreement.Pass r))) (epoch_schedules.after_all (counts_of m l) g.epochs pieces.events) s') same
          pieces.logs);
    }

    -- the step keeps the whole invariant, where the states to which these events lead meet it
    pub keeps_by : (p : Publications) → p.requests ≡ g.publications.requests → HoldsNothing m l kind (s.word x.0) → is_reading kind ≡ false
        → ((go : Leads g s' r heads events) → IsWholeAfter m l (states_of g s) (led g r heads go.passes events p) s')
        → KeepsWhole g s s' r kind x pieces
    unfolding leads_of
    keeps_by p same_requests nothing apart whole =
        let there = subst (λ es. IsWholeAfter m l (states_of g s) (led g r es pieces.passes pieces.events p) s') (sym same)
        (subst (λ vs. IsWholeAfter m l (states_of g s) (led g r heads pieces.passes vs p) s') (sym same') (whole leads_of)) in record {
          publications = p;
          requests = same_requests;
          whole = there.whole;
          goes = inl (record { passed = there.passed; nothing = nothing; apart = apart });
        }

    -- the same where it publishes a section
    pub keeps_publishing : (p : Publications) → p.requests ≡ g.publications.requests
        → ((go : Leads g s' r heads events) → IsWhole m l (led g r heads go.passes events p) s'
        × GoesByPublishing m l g s r kind (s.word x.0) (states_of (led g r heads go.passes events p) s'))
        → KeepsWhole g s s' r kind x pieces
    unfolding leads_of
    keeps_publishing p same_requests whole =
        let there = subst (λ es. IsWhole m l (led g r es pieces.passes pieces.events p) s'
        × GoesByPublishing m l g s r kind (s.word x.0) (states_of (led g r es pieces.passes pieces.events p) s')) (sym same)
        (subst (λ vs. IsWhole m l (led g r heads pieces.passes vs p) s'
        × GoesByPublishing m l g s r kind (s.word x.0) (states_of (led g r heads pieces.passes vs p) s')) (sym same') (whole leads_of)) in
        record {
          publications = p;
          requests = same_requests;
          whole = there.0;
          goes = inr (inl there.1);
        }

    -- the same where a read without a lock writes a word
    pub keeps_reading : ((go : Leads g s' r heads events) → IsWhole m l (led g r heads go.passes events g.publications) s'
        × GoesByReading m l g s r kind (s.word x.0) (states_of (led g r heads go.passes events g.publications) s'))
        → KeepsWhole g s s' r kind x pieces
    unfolding leads_of
    keeps_reading whole =
        let there = subst (λ es. IsWhole m l (led g r es pieces.passes pieces.events g.publications) s'
        × GoesByReading m l g s r kind (s.word x.0) (states_of (led g r es pieces.passes pieces.events g.publications) s')) (sym same)
        (subst (λ vs. IsWhole m l (led g r heads pieces.passes vs g.publications) s'
        × GoesByReading m l g s r kind (s.word x.0) (states_of (led g r heads pieces.passes vs g.publications) s')) (sym same') (whole leads_of)) in
        record {
          publications = g.publications;
          requests = refl;
          whole = there.0;
          goes = inr (inr there.1);
        }

-- what the end of a sweep frees nobody is sure of
sweeps_safely : (m : Meaning) (l : Layout) (rs : List Request) (g : Beside) (s s' : Sight) → IsWhole m l g s → (r : ℕ) (kind : EventKind)
    → (step : Steps m l rs s s' r kind) → SweepsSafely l s r kind (s.word step.ask.0)
sweeps_safely m l rs g s s' whole r (kinds.LoadGuard n) step n' d q is last lies unnamed =
    sweep_safe m l rs whole.logs.chain g.agreement g.epochs s s' r n whole.slots whole.logs.guards step last d q lies unnamed
sweeps_safely m l rs g s s' whole r _ step n' d q is last lies unnamed = absurd (let y = is in cc)

module _ (m : Meaning) (laws : Laws m) (l : Layout) (limits : IsWithinLimits l) (rs : List Request) (few : length rs ≤ 131072)
    (allowed : All (λ (q : Request). IsAllowed q.op) rs) (g : Beside) (s s' : Sight) (whole : IsWhole m l g s) (r : ℕ)
    (kind : EventKind) where
  -- each step of the machine has such events, where the runner holds what it meets
  pub pieces : (step : Steps m l rs s s' r kind) → HoldsMet m l g s r kind → Pieces m l g s s' r kind step.ask
  pieces step met =
      let swept = sweeps_safely m l rs g s s' whole r kind step in
      let e = joins_kinds.joined_step m l rs g.epochs s s' r kind step whole.slots
      (slots_supplied m laws l limits rs few allowed g s whole r kind step.ask step.asked met swept) in
      let a = sections_kinds.step_goes m l rs g.agreement s whole.sections r s' kind step
      (sections_supplied m laws l limits rs few allowed g s whole r kind step.ask step.asked swept) in
      let after = agreement_schedules.after_all (rules_of m l) g.agreement (a.0 ++ replicate a.2.leads.passes (agreement.Pass r)) in
      let slots_after = epoch_schedules.after_all (counts_of m l) g.epochs e.0 in
      let others : OthersGo m l g.agreement after g.epochs slots_after s r kind (s.word (step.ask.0)) = record {
        heads = a.0;
        in_sections = a.1;
        leads = record { passes = a.2.leads.passes; enabled = a.2.leads.enabled; there = refl };
        tails = e.0;
        in_slots = e.1;
        enabled = e.2.enabled;
        there = refl;
      } in
      record {
        heads = a.0;
        in_sections = a.1;
        passes = a.2.leads.passes;
        enabled = a.2.leads.enabled;
        joined = subst (λ (w : AgreementState). sections.IsJoinedToAgreement m l w s') (sym a.2.leads.there) a.2.joined;
        events = e.0;
        in_slots = e.1;
        enabled_slots = e.2.enabled;
        joined_slots = e.2.joined;
        logs = logs_hold m l rs g.agreement after g.epochs slots_after s s' r kind whole.sections whole.slots (blocks_most l limits) whole.logs step
            (guards_supplied m laws l limits rs few allowed g s whole r kind step.ask step.asked) others;
      }
