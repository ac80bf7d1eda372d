-- The histories stay exact while the components go along with the machine.
use Rattle.std.proofs.Common.{List, [], ◌∷◌, sym, subst}
use Rattle.machine_states.specs.map_history.specs.declared.op.Request.{Request}
use Rattle.machine_states.specs.table_words.specs.declared.layout.Layout.{Layout}
use Rattle.machine_states.specs.structure_laws.specs.Meaning.{Meaning}
use Rattle.machine_states.specs.structure_laws.specs.Laws.{FirstMemory}
use Rattle.machine_states.specs.epoch_core.specs.Events as epoch_events
use Rattle.machine_states.specs.epoch_core.specs.Schedules as epoch_schedules
use Rattle.machine_states.specs.epoch_core.proofs.Keeping as epoch_keeping
use Rattle.machine_states.specs.epoch_core.proofs.Exactly as epoch_exactly
use Rattle.agreement_core.specs.Events as agreement_events
use Rattle.agreement_core.specs.Sound as agreement_sound
use Rattle.agreement_core.specs.Schedules as agreement_schedules
use Rattle.agreement_core.proofs.Keeping as agreement_keeping
use Rattle.agreement_core.proofs.Recording as agreement_recording
use Rattle.machine_states.specs.Sight.{Sight, sight}
use Rattle.machine_blocks.specs.machine_guards.specs.machine_agreement.proofs.FirstJoined.{first_joined}
use Rattle.machine_states.specs.table_words.specs.Limits.{IsWithinLimits}
use Rattle.machine_blocks.specs.machine_guards.specs.machine_agreement.specs.machine_epochs.specs.Entries.{counts_of}
use Rattle.machine_blocks.specs.machine_guards.specs.machine_agreement.specs.machine_epochs.proofs.FirstJoin.{first_is}
use Rattle.machine_blocks.specs.machine_guards.specs.machine_agreement.specs.machine_scenes.specs.Shown.{rules_of}
use Rattle.machine_invariant.specs.Along.{Components, first_components, components_after, AreExact, StayExact, BeginExact}

module _ (m : Meaning) (l : Layout) where
  exact_first : (s : Sight) → agreement_sound.IsSound (rules_of m l) (first_components m l s).agreement
      → AreExact m l (first_components m l s)
  exact_first s sound = record {
    agreement = sound;
    changes = agreement_recording.first_exact (rules_of m l) (first_components m l s).agreement.shared.cells;
    epochs = epoch_keeping.first (counts_of m l) _ (first_is m l);
    wins = epoch_exactly.exact_first (counts_of m l) _ (first_is m l);
  }

  pub exact_after : (k : Components) (es : List agreement_events.Event) (vs : List epoch_events.Event)
      → agreement_schedules.AllEnabled (rules_of m l) k.agreement es → epoch_schedules.AllEnabled (counts_of m l) k.epochs vs
      → AreExact m l k → AreExact m l (components_after m l k es vs)
  exact_after k es vs enabled enabled_slots old = record {
    agreement = agreement_keeping.keeps_all (rules_of m l) k.agreement es enabled old.agreement;
    changes = agreement_recording.keeps_exact_all (rules_of m l) k.agreement k.changes es enabled old.agreement old.changes;
    epochs = epoch_keeping.keeps_all (counts_of m l) k.epochs vs enabled_slots old.epochs;
    wins = epoch_exactly.exact_all (counts_of m l) k.epochs k.wins vs enabled_slots old.epochs old.wins;
  }

  pub exact_along : (requests : List Request) → StayExact m l requests
  exact_along requests w k [] w' k' along old = subst (AreExact m l) (sym along.1) old
  exact_along requests w k (e ∷ events) w' k' along old =
      let of_step = along.4 in
      exact_along requests along.0 (components_after m l k along.2 along.3) events w' k' along.5
      (exact_after k along.2 along.3 of_step.enabled of_step.enabled_slots old)

  pub exact_begins : FirstMemory m → IsWithinLimits l → (requests : List Request) → BeginExact m l requests
  exact_begins memory limits requests w first = exact_first (sight m l requests w) (first_joined m l requests w first memory limits).sound
