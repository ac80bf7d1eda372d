-- What is known of a step by its runner's part: what it asks for, which events of the components it is, and what its run knows.
use Rattle.std.proofs.Common.{◌≡◌, ℕ, true, List, refl, sym, ap, ◌∙◌, subst, Option, Some}
use Rattle.machine_states.specs.map_history.specs.declared.op.Request.{Request}
use Rattle.machine_states.specs.body_terms.specs.declared.micro.Source.{Source}
use Rattle.machine_states.specs.body_terms.specs.declared.micro.Source.TheVariants.{Fixed, Agreed}
use Rattle.machine_states.specs.body_terms.specs.Run.{source_value}
use Rattle.machine_states.specs.body_terms.specs.Word.{value_of}
use Rattle.machine_states.specs.table_words.specs.declared.layout.Layout.{Layout}
use Rattle.machine_states.specs.table_words.specs.declared.spot.Spot.{Spot}
use Rattle.machine_states.specs.table_words.specs.declared.access.Access.{Access}
use Rattle.machine_states.specs.structure_laws.specs.Meaning.{Meaning}
use Rattle.machine_states.specs.runner_parts.specs.declared.event.EventKind.{EventKind}
use Rattle.machine_states.specs.epoch_core.specs.declared.stage.Stage.TheVariants.{Entered}
use Rattle.machine_states.specs.runner_parts.specs.State.{RunState, PartState}
use Rattle.machine_states.specs.runner_steps.specs.Sections.{is_open_run, next_of}
use Rattle.machine_states.specs.runner_steps.specs.Asks.{asks, ask_by}
use Rattle.agreement_core.specs.State.{Run, AgreementState}
use Rattle.agreement_core.specs.Checks.{source_in}
use Rattle.agreement_core.specs.Events as agreement
use Rattle.machine_states.specs.epoch_core.specs.State.{EpochState, is_entered}
use Rattle.machine_states.specs.epoch_core.specs.Events as epochs
use Rattle.machine_states.specs.Sight.{Sight}
use Rattle.machine_states.proofs.Sights.{unless_gone}
use Rattle.machine_blocks.specs.machine_guards.specs.machine_agreement.specs.machine_epochs.specs.Joined as joins
use Rattle.machine_blocks.specs.machine_guards.specs.machine_agreement.specs.machine_epochs.specs.Chunks as slots
use Rattle.machine_blocks.specs.machine_guards.specs.machine_agreement.specs.Joined.{IsRunOf}
use Rattle.machine_blocks.specs.machine_guards.specs.machine_agreement.specs.Chunks as chunks

module _ (m : Meaning) (l : Layout) (r : ℕ) (kind : EventKind) (p : PartState) where
  -- what it asks for, by the runner's run
  pub asked_by : (rs : List Request) (x : Spot × Access) (run : Option RunState) → p.run ≡ run → asks m l rs r kind p ≡ Some x
      → ask_by m l rs r kind p run ≡ Some x
  asked_by rs x run is asked = ap (ask_by m l rs r kind p) (sym is) ∙ (unless_gone _ p.gone _ x asked).1

  -- where the run has read its thunk, its events are those of the run's line
  module _ (q : RunState) (is : p.run ≡ Some q) (opened : is_open_run q ≡ true) (found : ℕ) where
    pub line_heads : (w : AgreementState) (heads : List agreement.Event) → chunks.IsChunk m l w r kind p p.run found heads
        → chunks.IsLineChunk m l w r kind p q found heads
    line_heads w heads chunk = subst (λ b. chunks.IsInsideChunk m l w r b kind p q found heads) opened
        (subst (λ (o : Option RunState). chunks.IsChunk m l w r kind p o found heads) is chunk)

    pub line_events : (vs : List epochs.Event) → slots.IsChunk m l r kind p p.run found vs
        → slots.IsLineChunk m l r kind p q (next_of m q) found vs
    line_events vs chunk = subst (λ b. slots.IsInsideChunk m l r b kind p q found vs) opened
        (subst (λ (o : Option RunState). slots.IsChunk m l r kind p o found vs) is chunk)

-- the same value of a source for the component's run and for the machine's
pub source_same : (run : Run) (q : RunState) → IsRunOf run q → (v : Source) → source_in run.trail v ≡ source_value q.trail v
source_same run q is (Fixed n) = refl
source_same run q is (Agreed k) = ap value_of (is.trail k)

-- who is entered in the machine is so for the component
pub entered_at : (m : Meaning) (l : Layout) (e : EpochState) (s : Sight) → joins.IsJoinedToEpochs m l e s → (r g : ℕ) → (s.part r).stage ≡ Entered g
    → is_entered (e.stage r) ≡ true
entered_at m l e s joined r g at = ap is_entered (joined.entries.stage r ∙ at)
