use Rattle.std.proofs.Common.{ℕ, None, refl, sym, ap, subst, ◌∙◌}
use Rattle.machine_states.specs.structure_laws.specs.Tray.{tray}
use Rattle.machine_states.specs.table_words.specs.declared.layout.Layout.{Layout}
use Rattle.table_steps.specs.Slots.{slot_of}
use Rattle.machine_states.specs.runner_parts.specs.declared.event.EventKind.TheVariants.{PrivateStore}
use Rattle.machine_states.specs.epoch_core.specs.declared.stage.Stage.TheVariants as stages
use Rattle.version_words.specs.Events.{IsEnabled}
use Rattle.version_words.proofs.Stages.{may_store_word, then_stored_word, still_free_stored, same_number}
use Rattle.table_steps.proofs.walks.put.Goals as goal

pub private_store-requires-clause-next : goal.private_store-requires-clause-next
private_store-requires-clause-next c κs = let r = c.args.runner in
    let slot = ap (λ (l : Layout). slot_of l c.args.descriptor) c.requires.own.layout ∙ sym c.requires.slot in
    subst (λ (n : ℕ). IsEnabled tray (PrivateStore n c.args.word c.args.number) r) slot
    (may_store_word tray r stages.Idle None c.args.descriptor c.args.word refl c.requires.at c.requires.free c.requires.word c.args.number)

pub returns-clause-at : goal.returns-clause-at
returns-clause-at c = then_stored_word tray 0 c.args.runner c.private_store.result stages.Idle None _ c.args.word c.requires.at c.args.number (c.private_store.ensures.event 0)

pub returns-clause-free : goal.returns-clause-free
returns-clause-free c = still_free_stored tray 0 c.args.runner c.private_store.result stages.Idle None _ c.args.word c.requires.at c.args.number c.args.descriptor (c.private_store.ensures.event 0) c.requires.free

pub returns-clause-number : goal.returns-clause-number
returns-clause-number c = same_number tray _ 0 c.args.runner c.private_store.result (c.private_store.ensures.event 0)
