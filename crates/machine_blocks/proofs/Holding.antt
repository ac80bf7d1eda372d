-- Guards and the logs stand behind the machine's steps, with the blocks that these link.
use Rattle.std.specs.Prelude.{◌^◌, true}
use Rattle.std.proofs.Common.{◌≡◌, ℕ, ◌≤◌, List, [], sym, ap, ◌∙◌, subst, arith}
use Rattle.block_words.specs.Blocks.{log_in}
use Rattle.block_words.proofs.Reading.{read_log}
use Rattle.machine_states.specs.map_history.specs.declared.op.Request.{Request}
use Rattle.machine_states.specs.table_words.specs.declared.layout.Layout.{Layout}
use Rattle.machine_states.specs.table_words.specs.declared.spot.Spot.{Spot}
use Rattle.machine_states.specs.table_words.specs.declared.spot.Spot.TheVariants.{Cell, LogWord}
use Rattle.machine_states.specs.table_words.specs.declared.access.Access.{Access}
use Rattle.machine_states.specs.table_words.specs.Access.{written}
use Rattle.machine_states.specs.table_words.specs.Places.{Fits, part_words, block_count}
use Rattle.machine_states.specs.table_words.specs.Seen.{put}
use Rattle.machine_states.specs.table_words.proofs.Seen.{put_elsewhere}
use Rattle.machine_states.specs.structure_laws.specs.Meaning.{Meaning}
use Rattle.machine_states.specs.runner_parts.specs.declared.event.EventKind.{EventKind}
use Rattle.machine_states.specs.runner_parts.specs.declared.event.EventKind.TheVariants as kinds
use Rattle.machine_states.specs.runner_steps.specs.Asks.{sizes_for}
use Rattle.machine_states.specs.runner_steps.specs.Outside.{is_sure_of}
use Rattle.machine_states.specs.epoch_core.specs.State.{EpochState}
use Rattle.machine_states.specs.epoch_core.specs.Schedules as epoch_schedules
use Rattle.agreement_core.specs.State.{AgreementState}
use Rattle.agreement_core.specs.Schedules as agreement_schedules
use Rattle.machine_states.specs.World.{World}
use Rattle.machine_states.specs.First.{IsFirst}
use Rattle.machine_states.specs.Sight.{Sight, sight, Steps}
use Rattle.machine_states.proofs.FirstSights.{unlogged}
use Rattle.machine_guards.specs.machine_agreement.specs.machine_epochs.specs.Firsts.{first_place}
use Rattle.machine_guards.specs.machine_agreement.specs.machine_epochs.specs.Joined.{IsJoinedToEpochs}
use Rattle.machine_guards.specs.machine_agreement.specs.Joined.{IsJoinedToAgreement}
use Rattle.machine_guards.specs.Chunks.{chain_after}
use Rattle.machine_guards.specs.Goes.{OthersGo}
use Rattle.machine_guards.specs.Supplied.{GuardsAreSupplied}
use Rattle.machine_guards.proofs.AllKinds.{step_goes}
use Rattle.machine_guards.proofs.First.{first_stands}
use Rattle.machine_blocks.specs.Stands.{LogsHold}
use Rattle.machine_blocks.proofs.AllKinds.{logs_kept}
use Rattle.machine_blocks.proofs.First.{first_stand}

-- no step meets a log word for which no descriptor has room
unmet : (m : Meaning) (l : Layout) (rs : List Request) (f : Spot → ℕ) (x : Spot × Access) (v d k : ℕ) → Fits (sizes_for m l rs) x.0 → part_words ≤ k
    → put f x.0 v (LogWord d k) ≡ f (LogWord d k)
unmet m l rs f x v d k fits high = put_elsewhere f x.0 v (LogWord d k) (λ same.
    let there : Fits (sizes_for m l rs) (LogWord d k) = subst (Fits (sizes_for m l rs)) (sym same) fits in
    let low = there.1 in omega (arith, low, high))

-- where somebody is sure of a descriptor, its log is what is read off its words and those of its blocks
pub log_read : (m : Meaning) (l : Layout) {a : AgreementState} {e : EpochState} {s : Sight} → LogsHold m l a e s → (r d : ℕ)
    → is_sure_of (s.part r).guards d ≡ true → (k : ℕ) → log_in s.word d k ≡ (a.section d).log k
log_read m l {a} {e} {s} logs r d sure k =
    read_log (a.section d).log s.word d (logs.chain d) (logs.stands.logs r d sure) k (logs.guards.sound.few d)

module _ (m : Meaning) (l : Layout) (rs : List Request) where
  pub logs_hold : (a a' : AgreementState) (e e' : EpochState) (s s' : Sight) (r : ℕ) (kind : EventKind) → IsJoinedToAgreement m l a s → IsJoinedToEpochs m l e s → block_count l ≤ 2 ^ 32
      → (old : LogsHold m l a e s) → (step : Steps m l rs s s' r kind) → GuardsAreSupplied m l old.chain a e s r kind (s.word (step.ask.0)) → OthersGo m l a a' e e' s r kind (s.word (step.ask.0))
      → LogsHold m l a' e' s'
  logs_hold a a' e e' s s' r kind of_sections joined small old step supplied go = record {
    chain = chain_after old.chain kind (s.part r) (s.word (step.ask.0));
    guards = (step_goes m l rs old.chain a a' e e' s s' r kind of_sections joined old.guards step supplied go).stands;
    stands = logs_kept m l rs old.chain a a' e e' s s' r kind of_sections joined old.guards old.stands small step supplied go;
    beyond = λ d k high. ap (λ (t : Sight). t.word (LogWord d k)) step.next
        ∙ (unmet m l rs s.word step.ask (written step.ask.1 (s.word (step.ask.0))) d k step.has_word high ∙ old.beyond d k high);
  }

  pub first_hold : (w : World) → IsFirst m l rs w → LogsHold m l (agreement_schedules.first_state (λ p. (sight m l rs w).word (Cell p))) (epoch_schedules.first_state (first_place m l)) (sight m l rs w)
  first_hold w start = record {
    chain = λ d. [];
    guards = first_stands m l rs w start;
    stands = first_stand m l rs w start;
    beyond = λ d k high. unlogged m l rs w start d k;
  }
