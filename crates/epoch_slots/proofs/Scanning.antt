-- A scan, announcement by announcement.
use Rattle.std.proofs.Common.{◌≡◌, ℕ, suc, ◌+◌, ◌<◌, ◌≤◌, ◌^◌, List, [], ◌∷◌, ◌++◌, length, length-append, Bool, true, false, refl, sym, ap, subst, ◌∙◌, eq-eqb, ne_eqb, arith, None}
use Rattle.std.specs.Prelude.{◌&&◌, nat_lt, nat_le, not, if◌then◌else◌}
use Rattle.std.specs.List.{list_all}
use Rattle.std.proofs.lemmas.Bool.Decides.{nat_tests}
use Rattle.machine_states.specs.epoch_core.specs.small_lemmas.proofs.Bools.{both_of as both_true}
use Rattle.machine_states.specs.table_words.specs.declared.layout.Layout.{Layout}
use Rattle.machine_states.specs.structure_laws.specs.Meaning.{Meaning}
use Rattle.machine_states.specs.epoch_core.specs.Moves.{is_clear}
use Rattle.machine_states.specs.runner_parts.specs.declared.event.EventKind.TheVariants as kinds
use Rattle.machine_states.specs.epoch_core.specs.declared.stage.Stage.{Stage}
use Rattle.machine_states.specs.epoch_core.specs.declared.stage.Stage.TheVariants as stages
use Rattle.machine_states.specs.runner_parts.specs.State.{PartState}
use Rattle.machine_states.specs.runner_parts.specs.Lists.{nodes_collected}
use Rattle.machine_states.specs.epoch_core.specs.State.{last_epoch}
use Rattle.machine_states.specs.runner_steps.specs.AfterOutside.{collected, with_stage, scan_one_after, advance_after}
use Rattle.version_words.specs.RunnerState.{RunnerState}
use Rattle.version_words.specs.TableState.{TableState, IsOf}
use Rattle.version_words.specs.Events.{IsEnabled, Makes, Tries}
use Rattle.version_words.specs.Stages.{IsAt}
use Rattle.version_words.proofs.Stages.{may_scan_one, may_advance, then_scanning, then_scanned, then_advanced, scanned_on, scanned_over, scanned_more}
use Rattle.epoch_slots.specs.Collects.{Scans, Advances, HasScanned, EndsScan}
use Rattle.epoch_slots.proofs.Outside.{nodes_made, descriptors_made, guards_made, known_made, finished_made, own_kept, own_kept_on}

-- what one more announcement makes of a part
module _ (l : Layout) (p : PartState) (epoch next : ℕ) (clear : Bool) (found : ℕ) where
  abbrev scanned_part : PartState
  scanned_part = scan_one_after l p (stages.Scanning epoch next clear) found

  within : next ≤ l.runners → nat_le next l.runners ≡ true
  within few = grind (arith, nat_tests, few)

  part_more : next < l.runners → scanned_part ≡ with_stage p (stages.Scanning epoch (next + 1) (clear && is_clear epoch found))
  part_more few = (λ i. if within (omega (arith, few)) i then (if ne_eqb next l.runners (λ e. omega (arith, few, e)) i && not ((clear && is_clear epoch found) && nat_lt epoch last_epoch) then collected p epoch
      else with_stage p (stages.Scanning epoch (next + 1) (clear && is_clear epoch found))) else p)

  part_over : next ≡ l.runners → (clear && is_clear epoch found) && nat_lt epoch last_epoch ≡ false → scanned_part ≡ collected p epoch
  part_over last over = (λ i. if within (omega (arith, last)) i then (if eq-eqb next l.runners last i && not (over i) then collected p epoch
      else with_stage p (stages.Scanning epoch (next + 1) (clear && is_clear epoch found))) else p)

  part_on : next ≡ l.runners → (clear && is_clear epoch found) && nat_lt epoch last_epoch ≡ true → scanned_part ≡ with_stage p (stages.Scanning epoch (next + 1) (clear && is_clear epoch found))
  part_on last on = (λ i. if within (omega (arith, last)) i then (if eq-eqb next l.runners last i && not (on i) then collected p epoch
      else with_stage p (stages.Scanning epoch (next + 1) (clear && is_clear epoch found))) else p)

-- whether all are clear, with one more
pub clear_more : (epoch : ℕ) (found : List ℕ) (word : ℕ) → list_all (is_clear epoch) (found ++ word ∷ []) ≡ (list_all (is_clear epoch) found && is_clear epoch word)
clear_more epoch [] word = last_one (is_clear epoch word)
  where
    last_one : (b : Bool) → (b && true) ≡ b
    last_one true = refl
    last_one false = refl
clear_more epoch (x ∷ found) word = ap (λ b. is_clear epoch x && b) (clear_more epoch found word) ∙ sym (grouped (is_clear epoch x) (list_all (is_clear epoch) found) (is_clear epoch word))
  where
    grouped : (a b c : Bool) → ((a && b) && c) ≡ (a && (b && c))
    grouped true b c = refl
    grouped false b c = refl

module _ {T : Type 0} (m : Meaning) where
  -- one announcement more at the end
  pub scans_more : (found : List ℕ) (next word : ℕ) (r s r' : RunnerState T) → Scans m next found r s → Makes m (kinds.ScanOne (next + length found)) word s r'
      → Scans m next (found ++ word ∷ []) r r'
  scans_more [] next word r s r' same made = (r', subst (λ y. Makes m (kinds.ScanOne next) word y r') same (subst (λ n. Makes m (kinds.ScanOne n) word s r') (let e : next + 0 ≡ next = omega arith in e) made), refl)
  scans_more (x ∷ found) next word r s r' (y, one, rest) made =
      (y, one, scans_more found (next + 1) word y s r' rest (subst (λ n. Makes m (kinds.ScanOne n) word s r') (let e : next + suc (length found) ≡ next + 1 + length found = omega arith in e) made))

  -- the epoch alone was loaded
  pub has_begun : (epoch : ℕ) (r r' : RunnerState T) → Makes m kinds.ScanEpoch epoch r r' → IsAt r stages.Idle None → HasScanned m 0 epoch true r r'
  has_begun epoch r r' made at = record {
    begun = r';
    found = [];
    load = made;
    scans = refl;
    each = refl;
    told = refl;
    at = then_scanning m epoch r r' None made at;
    guards = guards_made m kinds.ScanEpoch epoch r r' made at.resting;
    keeps = own_kept m kinds.ScanEpoch epoch r r' made at.resting refl refl refl;
  }

  module _ (t : TableState T) (old r : RunnerState T) (own : IsOf t r) (epoch next : ℕ) (clear : Bool) where
    as_wide : r.layout.runners ≡ t.layout.runners
    as_wide = ap (λ (l : Layout). l.runners) own.layout

    pub may_scan : IsAt r (stages.Scanning epoch next clear) None → next ≤ t.layout.runners → IsEnabled m (kinds.ScanOne next) r
    may_scan at few = may_scan_one m r None epoch next clear at (omega (arith, few, as_wide))

    module _ (found : ℕ) (r' : RunnerState T) (made : Makes m (kinds.ScanOne next) found r r') where
      -- before the last announcement
      pub has_scanned_more : HasScanned m next epoch clear old r → next < t.layout.runners → HasScanned m (next + 1) epoch (clear && is_clear epoch found) old r'
      has_scanned_more so few =
          let low : next < r.layout.runners = omega (arith, few, as_wide) in
          let part : scan_one_after r.layout r.part r.part.stage found ≡ with_stage r.part (stages.Scanning epoch (next + 1) (clear && is_clear epoch found)) =
          ap (λ (y : Stage). scan_one_after r.layout r.part y found) so.at.at ∙ part_more r.layout r.part epoch next clear found low in
          record {
            begun = so.begun;
            found = so.found ++ found ∷ [];
            load = so.load;
            scans = scans_more so.found 0 found so.begun r r' so.scans (subst (λ n. Makes m (kinds.ScanOne n) found r r') (let a = so.each in let e : next ≡ 0 + length so.found = omega (arith, a) in e) made);
            each = length-append so.found (found ∷ []) ∙ (let e = so.each in omega (arith, e));
            told = ap (λ b. b && is_clear epoch found) so.told ∙ sym (clear_more epoch so.found found);
            at = subst (λ (y : Stage). IsAt r' y None) (scanned_more r.layout epoch next clear found low) (then_scanned m found r r' None epoch next clear made so.at (omega (arith, low)));
            guards = guards_made m (kinds.ScanOne next) found r r' made so.at.resting ∙ (ap (λ (p : PartState). p.guards) part ∙ so.guards);
            keeps = own_kept_on old r r' so.keeps (own_kept m (kinds.ScanOne next) found r r' made so.at.resting
                (ap (λ (p : PartState). p.nodes) part) (ap (λ (p : PartState). p.descriptors) part) (ap (λ (p : PartState). p.records) part));
          }

      -- after it
      module _ (at : IsAt r (stages.Scanning epoch next clear) None) (last : next ≡ t.layout.runners) where
        here : next ≡ r.layout.runners
        here = omega (arith, last, as_wide)

        pub ends_without : (clear && is_clear epoch found) && nat_lt epoch last_epoch ≡ false → EndsScan m next epoch clear r r'
        ends_without over =
            let part : scan_one_after r.layout r.part r.part.stage found ≡ collected r.part epoch = ap (λ (y : Stage). scan_one_after r.layout r.part y found) at.at ∙ part_over r.layout r.part epoch next clear found here over in
            record {
              found = found;
              reached = epoch;
              scanned = r';
              scan = made;
              advances = subst (λ b. Advances m epoch b epoch r' r') (sym over) (refl, refl);
              nodes = nodes_made m (kinds.ScanOne next) found r r' made at.resting ∙ ap (λ (p : PartState). p.nodes) part;
              descriptors = descriptors_made m (kinds.ScanOne next) found r r' made at.resting ∙ ap (λ (p : PartState). p.descriptors) part;
              guards = guards_made m (kinds.ScanOne next) found r r' made at.resting ∙ ap (λ (p : PartState). p.guards) part;
              at = subst (λ (y : Stage). IsAt r' y None) (scanned_over r.layout epoch next clear found here over) (then_scanned m found r r' None epoch next clear made at (omega (arith, here)));
              number = ap (λ (y : RunnerState T). y.number) made.made;
              known = known_made m (kinds.ScanOne next) found r r' made at.resting ∙ ap (λ (p : PartState). p.records.known) part;
              finished = finished_made m (kinds.ScanOne next) found r r' made at.resting ∙ ap (λ (p : PartState). p.records.finished) part;
              shown = record { world = made.shown.world; reached = made.shown.reached; own = made.shown.own };
            }

        module _ (may : (clear && is_clear epoch found) && nat_lt epoch last_epoch ≡ true) where
          low : epoch < 2 ^ 62
          low = let b = both_true (clear && is_clear epoch found) (nat_lt epoch last_epoch) may in let c = b.1 in grind (arith, nat_tests)

          past : IsAt r' (stages.Scanning epoch (next + 1) true) None
          past = subst (λ (y : Stage). IsAt r' y None) (scanned_on r.layout epoch next clear found here (both_true (clear && is_clear epoch found) (nat_lt epoch last_epoch) may).0 low)
              (then_scanned m found r r' None epoch next clear made at (omega (arith, here)))

          pub may_go_on : IsEnabled m kinds.Advance r'
          may_go_on = may_advance m r' None epoch (next + 1) past (let a = ap (λ (y : RunnerState T). y.layout.runners) made.made in omega (arith, here, a)) low

          pub ends_with : (won : Bool) (r'' : RunnerState T) → Tries m kinds.Advance won r' r'' → EndsScan m next epoch clear r r''
          ends_with won r'' tried =
              let part : scan_one_after r.layout r.part r.part.stage found ≡ with_stage r.part (stages.Scanning epoch (next + 1) (clear && is_clear epoch found)) =
              ap (λ (y : Stage). scan_one_after r.layout r.part y found) at.at ∙ part_on r.layout r.part epoch next clear found here may in
              let on : nat_lt epoch last_epoch ≡ true = grind (arith, nat_tests, low) in
              let over : advance_after r'.part r'.part.stage ≡ collected r'.part (epoch + 1) = ap (advance_after r'.part) past.at ∙ ap (λ (b : Bool). if b then collected r'.part (epoch + 1) else r'.part) on in
              record {
                found = found;
                reached = epoch + 1;
                scanned = r';
                scan = made;
                advances = subst (λ b. Advances m epoch b (epoch + 1) r' r'') (sym may) (won, tried, refl);
                nodes = nodes_made m kinds.Advance tried.found r' r'' tried.event past.resting ∙ (ap (λ (p : PartState). p.nodes) over
                    ∙ ap (nodes_collected (epoch + 1)) (nodes_made m (kinds.ScanOne next) found r r' made at.resting ∙ ap (λ (p : PartState). p.nodes) part));
                descriptors = descriptors_made m kinds.Advance tried.found r' r'' tried.event past.resting ∙ (ap (λ (p : PartState). p.descriptors) over
                    ∙ (descriptors_made m (kinds.ScanOne next) found r r' made at.resting ∙ ap (λ (p : PartState). p.descriptors) part));
                guards = guards_made m kinds.Advance tried.found r' r'' tried.event past.resting ∙ (ap (λ (p : PartState). p.guards) over
                    ∙ (guards_made m (kinds.ScanOne next) found r r' made at.resting ∙ ap (λ (p : PartState). p.guards) part));
                at = then_advanced m tried.found r' r'' None epoch (next + 1) tried.event past low;
                number = ap (λ (y : RunnerState T). y.number) tried.event.made ∙ ap (λ (y : RunnerState T). y.number) made.made;
                known = known_made m kinds.Advance tried.found r' r'' tried.event past.resting ∙ (ap (λ (p : PartState). p.records.known) over
                    ∙ (known_made m (kinds.ScanOne next) found r r' made at.resting ∙ ap (λ (p : PartState). p.records.known) part));
                finished = finished_made m kinds.Advance tried.found r' r'' tried.event past.resting ∙ (ap (λ (p : PartState). p.records.finished) over
                    ∙ (finished_made m (kinds.ScanOne next) found r r' made at.resting ∙ ap (λ (p : PartState). p.records.finished) part));
                shown = record { world = tried.event.shown.world; reached = tried.event.shown.reached; own = tried.event.shown.own };
              }
