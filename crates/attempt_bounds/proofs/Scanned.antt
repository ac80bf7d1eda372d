-- What a scan makes of the node slots in limbo where nobody crossed the runner's steps.
use Rattle.std.specs.Prelude.{◌==◌, ◌&&◌, ◌||◌, not, nat_lt, nat_le, Bool, true, false, if◌then◌else◌, All}
use Rattle.std.specs.List.{filter, list_all}
use Rattle.std.proofs.Common.{◌≡◌, ℕ, ◌+◌, ◌^◌, ◌<◌, ◌≤◌, List, [], ◌∷◌, length, refl, sym, ap, ◌∙◌, subst, arith, Option, Some, None}
use Rattle.std.proofs.lemmas.Bool.Decides.{nat_tests}
use Rattle.machine_states.specs.epoch_core.specs.small_lemmas.proofs.Bools.{both_hold as both_true}
use Rattle.machine_states.specs.map_history.specs.declared.op.Request.{Request}
use Rattle.machine_states.specs.table_words.specs.declared.layout.Layout.{Layout}
use Rattle.machine_states.specs.table_words.specs.declared.spot.Spot.{Spot}
use Rattle.machine_states.specs.table_words.specs.declared.spot.Spot.TheVariants.{Epoch}
use Rattle.machine_states.specs.table_words.specs.declared.access.Access.{Access}
use Rattle.machine_states.specs.table_words.specs.declared.access.Access.TheVariants.{Loads, Exchanges}
use Rattle.machine_states.specs.table_words.specs.Access.{written}
use Rattle.machine_states.specs.structure_laws.specs.Meaning.{Meaning}
use Rattle.machine_states.specs.runner_parts.specs.declared.event.EventKind.{EventKind}
use Rattle.machine_states.specs.runner_parts.specs.declared.event.EventKind.TheVariants as kinds
use Rattle.machine_states.specs.runner_parts.specs.declared.entries.Retired.{Retired}
use Rattle.machine_states.specs.epoch_core.specs.declared.stage.Stage.{Stage}
use Rattle.machine_states.specs.epoch_core.specs.declared.stage.Stage.TheVariants.{Idle, Loaded, Announced, Entered, Scanning}
use Rattle.machine_states.specs.runner_parts.specs.State.{RunState, PartState, NodesState}
use Rattle.machine_states.specs.runner_parts.specs.Lists.{is_old, slots_of}
use Rattle.machine_states.specs.epoch_core.specs.State.{last_epoch}
use Rattle.machine_states.specs.runner_steps.specs.Asks.{ask_by}
use Rattle.machine_states.specs.epoch_core.specs.Moves.{is_clear}
use Rattle.machine_states.specs.runner_steps.specs.AfterOutside.{collected, with_stage, scan_one_after}
use Rattle.machine_states.specs.runner_steps.specs.After.{own_epoch, epoch_after, after_by, stepped}
use Rattle.machine_states.specs.Sight.{sight, part_or_first}
use Rattle.machine_states.proofs.Sights.{unless_gone, cond_none}
use Rattle.attempts.specs.lock_words.specs.machine_epochs.specs.Descriptors.{DescriptorsAreSound}
use Rattle.attempts.specs.lock_words.specs.machine_epochs.proofs.OutsideAsked as asked
use Rattle.attempts.specs.lock_words.specs.machine_epochs.proofs.Reached.{descriptors_after}
use Rattle.lone_plans.specs.one_worker.proofs.Onward.{own_is, found_own, read_idle}
use Rattle.version_words.specs.RunnerState.{RunnerState}
use Rattle.version_words.specs.Events.{Makes}
use Rattle.version_words.specs.ReachedWith.{is_told}
use Rattle.attempts.specs.epoch_slots.specs.Collects.{Scans, Advances, Collects}
use Rattle.attempt_bounds.proofs.Recent.{recent, none_kept, kept_recent}
use Rattle.attempt_bounds.proofs.Along.{Onward, made_asked, made_uncrossed, made_on, made_was, scans_on, tested_on}

-- if it scans, it is for this epoch
abbrev IsFor : ℕ → Stage → Type 0
IsFor epoch stage = (e n : ℕ) (b : Bool) → stage ≡ Scanning e n b → e ≡ epoch

same_scan : (x e n n' : ℕ) (b b' : Bool) → Scanning x n b ≡ Scanning e n' b' → e ≡ x
same_scan x e n n' b b' h = cc

module _ (m : Meaning) (l : Layout) (rs : List Request) (r : ℕ) (p : PartState) (x : Spot × Access) (found : ℕ) where
  pub load_met : (o : Option RunState) → ask_by m l rs r kinds.ScanEpoch p o ≡ Some x → (Epoch, Loads) ≡ x
  load_met None e = (asked.enter_load_asked p.stage x e).1
  load_met (Some q) e = cond_none _ x e

  load_for : (o : Option RunState) → ask_by m l rs r kinds.ScanEpoch p o ≡ Some x → IsFor found (after_by m l kinds.ScanEpoch p o found).stage
  load_for None e = λ e n b is. same_scan found e 0 n true b is
  load_for (Some q) e = cond_none _ x e

  either_for : (epoch : ℕ) (b : Bool) (y z : PartState) → IsFor epoch y.stage → IsFor epoch z.stage → IsFor epoch (if b then y else z).stage
  either_for epoch true y z one two = one
  either_for epoch false y z one two = two

  scan_for : (epoch : ℕ) (stage : Stage) → p.stage ≡ stage → IsFor epoch p.stage → IsFor epoch (scan_one_after l p stage found).stage
  scan_for epoch (Scanning e next clear) at old = either_for epoch (nat_le next l.runners) _ p
      (either_for epoch (next == l.runners && not ((clear && is_clear e found) && nat_lt e last_epoch)) (collected p e) (with_stage p (Scanning e (next + 1) (clear && is_clear e found)))
      (λ e' n b is. absurd (let z = is in cc)) (λ e' n b is. same_scan e e' (next + 1) n (clear && is_clear e found) b is ∙ old e next clear at)) old
  scan_for epoch Idle at old = old
  scan_for epoch (Loaded e) at old = old
  scan_for epoch Announced at old = old
  scan_for epoch (Entered e) at old = old

  one_for : (epoch n : ℕ) (o : Option RunState) → ask_by m l rs r (kinds.ScanOne n) p o ≡ Some x → IsFor epoch p.stage
      → IsFor epoch (after_by m l (kinds.ScanOne n) p o found).stage
  one_for epoch n None e old = scan_for epoch p.stage refl old
  one_for epoch n (Some q) e old = cond_none _ x e

  advance_met : (epoch : ℕ) (o : Option RunState) → ask_by m l rs r kinds.Advance p o ≡ Some x → IsFor epoch p.stage → (Epoch, Exchanges epoch (epoch + 1)) ≡ x
  advance_met epoch None e old = let h = asked.advance_asked l p.stage x e in
      ap (λ (k : ℕ). (Epoch, Exchanges k (k + 1))) (sym (old h.0 h.1 true h.2)) ∙ h.5
  advance_met epoch (Some q) e old = cond_none _ x e

zero_clear : (epoch n : ℕ) → n ≡ 0 → is_clear epoch n ≡ true
zero_clear epoch n e = ap (λ k. k == 0 || k == epoch) e

below_last : (n : ℕ) → n < 2 ^ 62 → nat_lt n last_epoch ≡ true
below_last n low = grind (arith, nat_tests)

won_exchange : (f e : ℕ) → f ≡ e → (if f == e then e + 1 else f) ≡ e + 1
won_exchange f e same = grind (arith, nat_tests)

module _ {T : Type 0} (m : Meaning) where
  asking : (kind : EventKind) (found : ℕ) (a b : RunnerState T) (made : Makes m kind found a b) → ask_by m a.layout a.requests a.number kind a.part a.part.run ≡ Some made.met
  asking kind found a b made = (unless_gone _ a.part.gone _ made.met made.asked).1

  scans_for : (epoch next : ℕ) (found : List ℕ) (a b : RunnerState T) → Scans m next found a b → IsFor epoch a.part.stage → IsFor epoch b.part.stage
  scans_for epoch next [] a b same old = subst (λ (r : RunnerState T). IsFor epoch r.part.stage) (sym same) old
  scans_for epoch next (n ∷ ns) a b scans old = scans_for epoch (next + 1) ns scans.0 b scans.2
      (subst (λ (r : RunnerState T). IsFor epoch r.part.stage) (sym scans.1.made)
      (one_for m a.layout a.requests a.number a.part scans.1.met n epoch next a.part.run (asking (kinds.ScanOne next) n a scans.0 scans.1) old))

  scans_clear : (epoch next : ℕ) (found : List ℕ) (a b : RunnerState T) → Scans m next found a b → b.part.records.crossed ≡ false → list_all (is_clear epoch) found ≡ true
  scans_clear epoch next [] a b same uncrossed = refl
  scans_clear epoch next (n ∷ ns) a b scans uncrossed =
      let here = (scans_on m (next + 1) ns scans.0 b scans.2 uncrossed).0 in
      ap (λ t. t && list_all (is_clear epoch) ns) (zero_clear epoch n
      (read_idle m a.layout a.requests a.number a.part scans.1.met (kinds.ScanOne next) n
      (made_asked m (kinds.ScanOne next) n a scans.0 scans.1) (made_uncrossed m (kinds.ScanOne next) n a scans.0 scans.1 here) next refl))
      ∙ scans_clear epoch (next + 1) ns scans.0 b scans.2 uncrossed

  advances_was : (epoch : ℕ) (test : Bool) (reached : ℕ) (a b : RunnerState T) → Advances m epoch test reached a b → b.part.records.crossed ≡ false
      → a.part.records.crossed ≡ false
  advances_was epoch true reached a b tries uncrossed = made_was m kinds.Advance tries.1.found a b tries.1.event uncrossed
  advances_was epoch false reached a b same uncrossed = ap (λ (r : RunnerState T). r.part.records.crossed) (sym same.0) ∙ uncrossed

  module _ (old new : RunnerState T) (c : Collects m old new) (uncrossed : new.part.records.crossed ≡ false) where
    abbrev pub epoch : ℕ
    epoch = c.epoch

    over_on : Onward c.over new
    over_on = tested_on m (slots_of (filter (is_old c.reached) old.part.nodes.limbo)) c.wears c.over new c.tested

    scanned_uncrossed : c.scanned.part.records.crossed ≡ false
    scanned_uncrossed = advances_was epoch (list_all (is_clear epoch) c.found && nat_lt epoch last_epoch) c.reached c.scanned c.over c.advances (over_on uncrossed).0

    scanned_on : (c.begun.part.records.crossed ≡ false) × (own_epoch c.scanned.part.records.epoch_seen ≡ own_epoch c.begun.part.records.epoch_seen)
    scanned_on = scans_on m 0 c.found c.begun c.scanned c.scans scanned_uncrossed

    begun_on : (old.part.records.crossed ≡ false) × (own_epoch c.begun.part.records.epoch_seen ≡ own_epoch old.part.records.epoch_seen)
    begun_on = made_on m kinds.ScanEpoch epoch old c.begun refl c.load scanned_on.0

    pub old_uncrossed : old.part.records.crossed ≡ false
    old_uncrossed = begun_on.0

    load_is : (Epoch, Loads) ≡ c.load.met
    load_is = load_met m old.layout old.requests old.number old.part c.load.met epoch old.part.run (asking kinds.ScanEpoch epoch old c.begun c.load)

    -- the scan is for the own epoch, which isn't the last one
    pub epoch_is : epoch ≡ own_epoch old.part.records.epoch_seen
    epoch_is = found_own m old.layout old.requests old.number old.part c.load.met kinds.ScanEpoch epoch
        (made_asked m kinds.ScanEpoch epoch old c.begun c.load) (made_uncrossed m kinds.ScanEpoch epoch old c.begun c.load scanned_on.0) (ap (λ (y : Spot × Access). y.0) (sym load_is))

    begun_for : IsFor epoch c.begun.part.stage
    begun_for = subst (λ (r : RunnerState T). IsFor epoch r.part.stage) (sym c.load.made)
        (load_for m old.layout old.requests old.number old.part c.load.met epoch old.part.run (asking kinds.ScanEpoch epoch old c.begun c.load))

    module _ (few : own_epoch old.part.records.epoch_seen < 2 ^ 62) where
      -- so the advance is tried, and wins
      tries : Advances m epoch true c.reached c.scanned c.over
      tries = subst (λ (b : Bool). Advances m epoch b c.reached c.scanned c.over)
          (both_true (list_all (is_clear epoch) c.found) (nat_lt epoch last_epoch) (scans_clear epoch 0 c.found c.begun c.scanned c.scans scanned_uncrossed)
          (below_last epoch (subst (λ n. n < 2 ^ 62) (sym epoch_is) few)))
          c.advances

      pub reached_is : c.reached ≡ epoch + 1
      reached_is = tries.2

      advance_is : (Epoch, Exchanges epoch (epoch + 1)) ≡ tries.1.event.met
      advance_is = advance_met m c.scanned.layout c.scanned.requests c.scanned.number c.scanned.part tries.1.event.met tries.1.found epoch c.scanned.part.run
          (asking kinds.Advance tries.1.found c.scanned c.over tries.1.event) (scans_for epoch 0 c.found c.begun c.scanned c.scans begun_for)

      found_is : tries.1.found ≡ epoch
      found_is = found_own m c.scanned.layout c.scanned.requests c.scanned.number c.scanned.part tries.1.event.met kinds.Advance tries.1.found
          (made_asked m kinds.Advance tries.1.found c.scanned c.over tries.1.event)
          (made_uncrossed m kinds.Advance tries.1.found c.scanned c.over tries.1.event (over_on uncrossed).0) (ap (λ (y : Spot × Access). y.0) (sym advance_is))
          ∙ (scanned_on.1 ∙ (begun_on.1 ∙ sym epoch_is))

      over_epoch : c.over.part.records.epoch_seen ≡ epoch + 1
      over_epoch = ap (λ (r : RunnerState T). r.part.records.epoch_seen) tries.1.event.made
          ∙ subst (λ (y : Spot × Access). epoch_after y.0 (written y.1 tries.1.found) (stepped m c.scanned.layout kinds.Advance c.scanned.part tries.1.found).records.epoch_seen ≡ epoch + 1)
          advance_is (won_exchange tries.1.found epoch found_is)

      -- the own epoch is the next one
      pub epoch_then : own_epoch new.part.records.epoch_seen ≡ epoch + 1
      epoch_then = (over_on uncrossed).1 ∙ (ap own_epoch over_epoch ∙ own_is (epoch + 1) (omega arith))

      -- and all in limbo was retired with this one at most
      sound : DescriptorsAreSound m c.begun.layout (sight m c.begun.layout c.begun.requests c.load.shown.before)
      sound = descriptors_after m c.begun.layout c.begun.requests c.load.shown.was_reached.events c.load.shown.before c.load.shown.was_reached.after

      part_is : (sight m c.begun.layout c.begun.requests c.load.shown.before).part c.begun.number ≡ old.part
      part_is = ap part_or_first c.load.shown.was_own

      word_is : (sight m c.begun.layout c.begun.requests c.load.shown.before).word Epoch ≡ epoch
      word_is = ap (λ (y : Spot × Access). (sight m c.begun.layout c.begun.requests c.load.shown.before).word y.0) load_is
          ∙ c.load.shown.was_found (ap (λ (y : Spot × Access). is_told y.1) (sym load_is))

      nodes_most : All (λ (y : Retired). y.epoch ≤ epoch) old.part.nodes.limbo
      nodes_most = subst (λ (p : PartState). All (λ (y : Retired). y.epoch ≤ epoch) p.nodes.limbo) part_is
          (subst (λ n. All (λ (y : Retired). y.epoch ≤ n) ((sight m c.begun.layout c.begun.requests c.load.shown.before).part c.begun.number).nodes.limbo) word_is
          (sound.nodes_most c.begun.number))

      nodes_are : new.part.nodes.limbo ≡ filter (λ y. not (is_old (epoch + 1) y)) old.part.nodes.limbo
      nodes_are = ap (λ (n : NodesState). n.limbo) c.nodes ∙ ap (λ n. filter (λ y. not (is_old n y)) old.part.nodes.limbo) reached_is

      -- what is left was recent before, and is so no more
      pub nodes_left : length new.part.nodes.limbo ≡ recent (own_epoch old.part.records.epoch_seen) old.part.nodes.limbo
      nodes_left = ap length nodes_are ∙ (kept_recent epoch old.part.nodes.limbo ∙ ap (λ n. recent n old.part.nodes.limbo) epoch_is)

      pub no_nodes : recent (epoch + 1) new.part.nodes.limbo ≡ 0
      no_nodes = ap (recent (epoch + 1)) nodes_are ∙ none_kept epoch (λ y. not (is_old (epoch + 1) y)) old.part.nodes.limbo nodes_most
