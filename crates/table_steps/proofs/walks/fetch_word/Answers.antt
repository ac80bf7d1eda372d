use Rattle.std.proofs.Common.{ℕ, ◌<◌, None, refl, ap, subst}
use Rattle.machine_states.specs.structure_laws.specs.Tray.{tray}
use Rattle.machine_states.specs.table_words.specs.declared.layout.Layout.{Layout}
use Rattle.machine_states.specs.table_words.specs.Places.{descriptor_count}
use Rattle.table_steps.specs.Slots.{slot_of}
use Rattle.machine_states.specs.runner_parts.specs.declared.event.EventKind.TheVariants.{PrivateLoad}
use Rattle.machine_states.specs.epoch_core.specs.declared.stage.Stage.TheVariants as stages
use Rattle.version_words.specs.Events.{IsEnabled}
use Rattle.version_words.proofs.Stages.{may_load_word}
use Rattle.table_steps.proofs.walks.fetch_word.Goals as goal

pub descriptor_load-requires-clause-few : goal.descriptor_load-requires-clause-few
descriptor_load-requires-clause-few c κs = subst (λ (l : Layout). c.args.descriptor < descriptor_count l) c.requires.own.layout c.requires.free.few

pub descriptor_load-requires-clause-next : goal.descriptor_load-requires-clause-next
descriptor_load-requires-clause-next c κs = let r = c.args.runner in
    subst (λ (n : ℕ). IsEnabled tray (PrivateLoad n c.args.word) r) (ap (λ (l : Layout). slot_of l c.args.descriptor) c.requires.own.layout)
    (may_load_word tray r stages.Idle None c.args.descriptor c.args.word refl c.requires.at c.requires.free c.requires.word)
