-- What a step that isn't crossed makes of the epoch that the runner has seen.
use Rattle.std.specs.Prelude.{◌==◌, ◌||◌, not, Bool, true, false, if◌then◌else◌}
use Rattle.std.proofs.Common.{◌≡◌, ℕ, ◌≤◌, List, refl, sym, ap, ◌∙◌, subst, arith, ⊎_elim, Option, Some, None}
use Rattle.std.proofs.lemmas.Bool.Decides.{nat_tests}
use Rattle.machine_states.specs.map_history.specs.declared.op.Request.{Request}
use Rattle.machine_states.specs.table_words.specs.declared.layout.Layout.{Layout}
use Rattle.machine_states.specs.table_words.specs.declared.spot.Spot.{Spot}
use Rattle.machine_states.specs.table_words.specs.declared.spot.Spot.TheVariants.{Epoch}
use Rattle.machine_states.specs.table_words.specs.declared.access.Access.{Access}
use Rattle.machine_states.specs.table_words.specs.Access.{written}
use Rattle.machine_states.specs.table_words.specs.Seen.{put}
use Rattle.machine_states.specs.structure_laws.specs.Meaning.{Meaning}
use Rattle.machine_states.specs.runner_parts.specs.declared.event.EventKind.{EventKind}
use Rattle.machine_states.specs.runner_parts.specs.declared.event.EventKind.TheVariants as kinds
use Rattle.machine_states.specs.runner_parts.specs.State.{RunState, RecordsState, PartState}
use Rattle.machine_states.specs.runner_steps.specs.Asks.{asks, ask_by}
use Rattle.machine_states.specs.runner_steps.specs.After.{after, stepped}
use Rattle.machine_states.specs.runner_steps.specs.After.{own_epoch, epoch_after, is_busy, is_moved}
use Rattle.machine_states.proofs.Sights.{unless_gone, cond_none}
use Rattle.resource_bounds.specs.machine_epochs.proofs.OutsideAsked as asked
use Rattle.resource_bounds.specs.machine_epochs.proofs.Elsewhere.{quiet_asks}
use Rattle.machine_states.proofs.Marks.{Stays, stays}
use Rattle.one_worker.proofs.EpochsReached.{elsewhere, or_left, or_right}

abbrev pub is_advance : EventKind → Bool
is_advance kinds.Advance = true
is_advance _ = false

pub same_number : (a b : ℕ) → not (a == b) ≡ false → a ≡ b
same_number a b e = grind (arith, nat_tests)

pub own_some : (n : ℕ) → 1 ≤ own_epoch n
own_some n = by (n == 0) refl
  where
    not_none : (n : ℕ) → (n == 0) ≡ false → 1 ≤ n
    not_none n e = grind (arith, nat_tests)

    by : (b : Bool) → (n == 0) ≡ b → 1 ≤ (if b then 1 else n)
    by true e = omega arith
    by false e = not_none n e

-- an epoch that is at least 1 is the own one
pub own_is : (n : ℕ) → 1 ≤ n → own_epoch n ≡ n
own_is n some = by (n == 0) refl
  where
    not_none : (n : ℕ) → 1 ≤ n → (n == 0) ≡ true → ⊥
    not_none n some e = grind (arith, nat_tests)

    by : (b : Bool) → (n == 0) ≡ b → (if b then 1 else n) ≡ n
    by true e = absurd (not_none n some e)
    by false e = refl

module _ (m : Meaning) (l : Layout) (rs : List Request) (r : ℕ) (p : PartState) (x : Spot × Access) where
  -- no step but an advance changes the epoch
  module _ (found : ℕ) where
    abbrev Unwritten : Spot × Access → Type 0
    Unwritten y = y.0 ≡ Epoch → written y.1 found ≡ found

    unwritten_by : (kind : EventKind) (o : Option RunState) → is_advance kind ≡ false → ask_by m l rs r kind p o ≡ Some x → Unwritten x
    unwritten_by kinds.Advance o plain e = absurd (let z = plain in cc)
    unwritten_by kinds.EnterLoad None plain e = subst Unwritten (asked.enter_load_asked p.stage x e).1 (λ on. refl)
    unwritten_by kinds.Announce None plain e = let h = asked.announce_asked r p.stage x e in subst Unwritten h.2 (λ on. absurd (let z = on in cc))
    unwritten_by kinds.EnterAgain None plain e = subst Unwritten (asked.enter_again_asked p x e).1 (λ on. refl)
    unwritten_by kinds.Idle None plain e = let h = asked.idle_asked r p x e in subst Unwritten h.3 (λ on. absurd (let z = on in cc))
    unwritten_by kinds.ScanEpoch None plain e = subst Unwritten (asked.enter_load_asked p.stage x e).1 (λ on. refl)
    unwritten_by (kinds.ScanOne n) None plain e = subst Unwritten (asked.scan_one_asked l n p.stage x e).4 (λ on. refl)
    unwritten_by kinds.EnterLoad (Some q) plain e = cond_none _ x e
    unwritten_by kinds.Announce (Some q) plain e = cond_none _ x e
    unwritten_by kinds.EnterAgain (Some q) plain e = cond_none _ x e
    unwritten_by kinds.Idle (Some q) plain e = cond_none _ x e
    unwritten_by kinds.ScanEpoch (Some q) plain e = cond_none _ x e
    unwritten_by (kinds.ScanOne n) (Some q) plain e = cond_none _ x e
    unwritten_by kind o plain e = λ on. let quiet = (quiet_asks m l rs r kind p o x refl e (λ a. found)).0 in
        subst (λ (a : Spot). put (λ b. found) a (written x.1 found) Epoch ≡ found) on quiet

  module _ (kind : EventKind) (found : ℕ) (is : asks m l rs r kind p ≡ Some x) (uncrossed : (after m l r kind x.0 x.1 p found).records.crossed ≡ false) where
    abbrev before : RecordsState
    before = (stepped m l kind p found).records

    staying : Stays p (stepped m l kind p found)
    staying = stays m l p found kind p.run

    epoch_is : before.epoch_seen ≡ p.records.epoch_seen
    epoch_is = ap (λ (z : ℕ × (Bool × Bool)). z.0) staying.kept

    pub was_uncrossed : p.records.crossed ≡ false
    was_uncrossed = sym (ap (λ (z : ℕ × (Bool × Bool)). z.1.0) staying.kept)
        ∙ or_right (is_busy kind found || is_moved x.0 found before.epoch_seen) before.crossed uncrossed

    quiet : (is_busy kind found || is_moved x.0 found before.epoch_seen) ≡ false
    quiet = or_left (is_busy kind found || is_moved x.0 found before.epoch_seen) before.crossed uncrossed

    pub unbusy : is_busy kind found ≡ false
    unbusy = or_left (is_busy kind found) (is_moved x.0 found before.epoch_seen) quiet

    -- a step on the epoch found what the own steps had left
    pub found_own : x.0 ≡ Epoch → found ≡ own_epoch p.records.epoch_seen
    found_own on = same_number found (own_epoch before.epoch_seen)
        (subst (λ (a : Spot). is_moved a found before.epoch_seen ≡ false) on
        (or_right (is_busy kind found) (is_moved x.0 found before.epoch_seen) quiet))
        ∙ ap own_epoch epoch_is

    -- and leaves it so, if it isn't an advance
    pub same_own : is_advance kind ≡ false → own_epoch (after m l r kind x.0 x.1 p found).records.epoch_seen ≡ own_epoch p.records.epoch_seen
    same_own plain = ⊎_elim
        (λ on. let left : epoch_after x.0 (written x.1 found) before.epoch_seen ≡ found =
        subst (λ (a : Spot). epoch_after a (written x.1 found) before.epoch_seen ≡ written x.1 found) (sym on) refl
        ∙ unwritten_by found kind p.run plain (unless_gone _ p.gone _ x is).1 on in
        ap own_epoch (left ∙ found_own on) ∙ own_is (own_epoch p.records.epoch_seen) (own_some p.records.epoch_seen))
        (λ off. ap own_epoch (off.seen (written x.1 found) before.epoch_seen ∙ epoch_is))
        (elsewhere x.0)

    -- an announcement that was read is idle
    pub read_idle : (n : ℕ) → kind ≡ kinds.ScanOne n → found ≡ 0
    read_idle n of = same_number found 0 (subst (λ (k : EventKind). is_busy k found ≡ false) of unbusy)

    -- a guard word that was read names nothing
    pub read_unguarded : (n : ℕ) → kind ≡ kinds.LoadGuard n → found ≡ 0
    read_unguarded n of = same_number found 0 (subst (λ (k : EventKind). is_busy k found ≡ false) of unbusy)
