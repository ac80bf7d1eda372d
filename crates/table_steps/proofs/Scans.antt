-- Where a runner is at the end of a scan.
use Rattle.std.proofs.Common.{◌≡◌, ℕ, ◌+◌, ◌<◌, ◌≤◌, ◌^◌, Bool, true, false, refl, ap, subst, arith, None}
use Rattle.std.specs.Prelude.{◌&&◌, nat_lt}
use Rattle.std.proofs.lemmas.Bool.Decides.{nat_tests}
use Rattle.machine_states.specs.epoch_core.specs.small_lemmas.proofs.Bools.{false_not_true as false_true, both_of as both_true}
use Rattle.machine_states.specs.table_words.specs.declared.layout.Layout.{Layout}
use Rattle.machine_states.specs.structure_laws.specs.Meaning.{Meaning}
use Rattle.machine_states.specs.epoch_core.specs.declared.stage.Stage.{Stage}
use Rattle.machine_states.specs.epoch_core.specs.declared.stage.Stage.TheVariants as stages
use Rattle.machine_states.specs.runner_parts.specs.declared.event.EventKind.TheVariants as kinds
use Rattle.machine_states.specs.epoch_core.specs.State.{last_epoch}
use Rattle.machine_states.specs.epoch_core.specs.Moves.{is_clear}
use Rattle.version_words.specs.RunnerState.{RunnerState}
use Rattle.version_words.specs.TableState.{TableState, IsOf}
use Rattle.version_words.specs.Events.{IsEnabled, Makes}
use Rattle.version_words.specs.Stages.{IsAt, stage_scanned}
use Rattle.version_words.proofs.Stages.{may_scan_one, may_advance, then_scanned, then_advanced, scanned_on, scanned_over, scanned_more}

module _ {T : Type 0} (m : Meaning) (t : TableState T) (r : RunnerState T) (own : IsOf t r) (epoch next : ℕ) (clear : Bool) (at : IsAt r (stages.Scanning epoch next clear) None) where
  as_wide : r.layout.runners ≡ t.layout.runners
  as_wide = ap (λ (l : Layout). l.runners) own.layout

  pub may_scan : next ≤ t.layout.runners → IsEnabled m (kinds.ScanOne next) r
  may_scan few = may_scan_one m r None epoch next clear at (omega (arith, few, as_wide))

  module _ (found : ℕ) (r' : RunnerState T) (made : Makes m (kinds.ScanOne next) found r r') where
    scanned : next ≤ t.layout.runners → IsAt r' (stage_scanned r.layout epoch next clear found) None
    scanned few = then_scanned m found r r' None epoch next clear made at (omega (arith, few, as_wide))

    pub scans_on : next < t.layout.runners → IsAt r' (stages.Scanning epoch (next + 1) (clear && is_clear epoch found)) None
    scans_on few = subst (λ (y : Stage). IsAt r' y None) (scanned_more r.layout epoch next clear found (omega (arith, few, as_wide))) (scanned (omega (arith, few)))

    pub scans_over : next ≡ t.layout.runners → (clear && is_clear epoch found) && nat_lt epoch last_epoch ≡ false → IsAt r' stages.Idle None
    scans_over last over = subst (λ (y : Stage). IsAt r' y None) (scanned_over r.layout epoch next clear found (omega (arith, last, as_wide)) over) (scanned (omega (arith, last)))

    module _ (last : next ≡ t.layout.runners) (may : (clear && is_clear epoch found) && nat_lt epoch last_epoch ≡ true) where
      low : epoch < 2 ^ 62
      low = let b = both_true (clear && is_clear epoch found) (nat_lt epoch last_epoch) may in let c = b.1 in grind (arith, nat_tests)

      past_last : IsAt r' (stages.Scanning epoch (next + 1) true) None
      past_last = subst (λ (y : Stage). IsAt r' y None) (scanned_on r.layout epoch next clear found (omega (arith, last, as_wide)) (both_true (clear && is_clear epoch found) (nat_lt epoch last_epoch) may).0 low) (scanned (omega (arith, last)))

      pub may_go_on : IsEnabled m kinds.Advance r'
      may_go_on = may_advance m r' None epoch (next + 1) past_last (let a = ap (λ (y : RunnerState T). y.layout.runners) made.made in omega (arith, last, as_wide, a)) low

      pub goes_on : (found' : ℕ) (r'' : RunnerState T) → Makes m kinds.Advance found' r' r'' → IsAt r'' stages.Idle None
      goes_on found' r'' advanced = then_advanced m found' r' r'' None epoch (next + 1) advanced past_last low
