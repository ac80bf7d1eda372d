-- The own guard word is stored.
use Rattle.std.proofs.Common.{◌≡◌, ℕ, ◌<◌, refl, ap, Option, Some, None}
use Rattle.machine_states.specs.epoch_core.specs.small_lemmas.proofs.Numbers.{less_tested}
use Rattle.machine_states.specs.table_words.specs.Places.{descriptor_count}
use Rattle.machine_states.specs.structure_laws.specs.Meaning.{Meaning}
use Rattle.machine_states.specs.runner_parts.specs.declared.event.EventKind.TheVariants as kinds
use Rattle.machine_states.specs.epoch_core.specs.declared.stage.Stage.TheVariants as stages
use Rattle.machine_states.specs.runner_parts.specs.State.{GuardsState}
use Rattle.section_runs.specs.commit_log.specs.version_words.specs.RunnerState.{RunnerState}
use Rattle.section_runs.specs.commit_log.specs.version_words.specs.Events.{IsEnabled, Makes}
use Rattle.section_runs.specs.commit_log.specs.version_words.specs.Stages.{IsAt}
use Rattle.section_runs.specs.commit_log.specs.version_words.proofs.Stages.{may_guard as guard_enabled, made_at}
use Rattle.epoch_slots.specs.Entries.{KeepsOwn}
use Rattle.epoch_slots.proofs.Outside.{blocks_made, guards_made, reads_made, own_kept}
use Rattle.try_lock.specs.Prepares.{KeepsElse}

module _ {T : Type 0} (m : Meaning) where
  pub may_guard : (d : ℕ) (r : RunnerState T) (epoch : ℕ) → IsAt r (stages.Entered epoch) None → d < descriptor_count r.layout → IsEnabled m (kinds.Guard (Some d)) r
  may_guard d r epoch is few = guard_enabled m r epoch (Some d) is (less_tested d (descriptor_count r.layout) few)

  pub may_let_go : (r : RunnerState T) (epoch : ℕ) → IsAt r (stages.Entered epoch) None → IsEnabled m (kinds.Guard None) r
  may_let_go r epoch is = guard_enabled m r epoch None is refl

  module _ (d : Option ℕ) (found : ℕ) (r g : RunnerState T) (made : Makes m (kinds.Guard d) found r g) where
    pub guard_at : (epoch : ℕ) → IsAt r (stages.Entered epoch) None → IsAt g (stages.Entered epoch) None
    guard_at epoch is = made_at m (kinds.Guard d) found r g made is.resting (stages.Entered epoch) None is.seated is.present is.resting is.at is.published is.settled

    module _ (resting : r.part.run ≡ None) where
      pub guard_named : g.part.guards.named ≡ d
      guard_named = ap (λ (x : GuardsState). x.named) (guards_made m (kinds.Guard d) found r g made resting)

      pub guard_reads : g.part.reads ≡ r.part.reads
      guard_reads = reads_made m (kinds.Guard d) found r g made resting

      pub guard_keeps : KeepsOwn r g
      guard_keeps = own_kept m (kinds.Guard d) found r g made resting refl refl refl

      pub guard_keeps_else : KeepsElse r g
      guard_keeps_else = record {
        number = guard_keeps.number;
        layout = ap (λ (y : RunnerState T). y.layout) made.made;
        requests = ap (λ (y : RunnerState T). y.requests) made.made;
        nodes = guard_keeps.nodes;
        free = ap (λ x. x.free) guard_keeps.descriptors;
        limbo = ap (λ x. x.limbo) guard_keeps.descriptors;
        blocks = blocks_made m (kinds.Guard d) found r g made resting;
        looked = ap (λ (x : GuardsState). x.looked) (guards_made m (kinds.Guard d) found r g made resting);
        reads = guard_reads;
        known = guard_keeps.known;
        finished = guard_keeps.finished;
      }
