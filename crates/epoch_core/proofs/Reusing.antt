-- What the invariant says of slots that are held.
use Rattle.std.specs.Prelude.{nat_lt}
use Rattle.std.proofs.Common.{◌≡◌, ◌≢◌, ℕ, ◌+◌, ◌<◌, ◌≤◌, Bool, true, false, refl, sym, ap, ◌∙◌, arith}
use Rattle.epoch_core.specs.declared.location.Location.{Location}
use Rattle.epoch_core.specs.declared.location.Location.TheVariants.{Fixed, Live, Hand, Free, Worn, Limbo, OnBoard}
use Rattle.epoch_core.specs.State.{Counts, EpochState, is_entered, entry_of, IsKept}
use Rattle.epoch_core.specs.Events.{Event, EnterLoad, Announce, EnterAgain, Exit, ScanEpoch, ScanOne, ScanLast, Advance, Test, TakeSlot, GiveBoard, TakeBoard, MakeCommit, RetireEpoch, RetireCommit, WordCommit, StoreLog, Reach, Publish, RetireDescriptor, Unguard, Sweep, after, slot_of, is_among}
use Rattle.epoch_core.specs.Sound.{IsSound, is_for_nodes}
use Rattle.epoch_core.specs.Reuse.{HeldAreSafe, MayLeave, LeavesLate, LeavesUnheld, LeavesNothingOld}
use mathlib.Core.Logic.{dite}
use native.Mathlib.Decide.{ℕ_discrete}
use Rattle.epoch_core.specs.Moves.{collected, swept}
use Rattle.epoch_core.specs.Follows.{MayFollow, is_in_use}
use Rattle.epoch_core.proofs.Sweeping.{swept_not, not_among, among_is}
use Rattle.epoch_core.proofs.Collecting.{descriptor_kept}
use Rattle.std.proofs.lemmas.Bool.Decides.{nat_tests}

pub held_are_safe : (c : Counts) (w : EpochState) → IsSound c w → HeldAreSafe w
held_are_safe c w sound =
    record {
      free = λ r s r' h at. let kept = sound.held r s h in grind arith;
      hand = λ r s r' h at. let kept = sound.held r s h in grind arith;
      worn = λ r s r' h at. let kept = sound.held r s h in grind arith;
      board = λ r s i h at. let kept = sound.held r s h in grind arith;
    }

-- where two epochs have passed since the slot was retired, it may leave
may_leave : (c : Counts) (w : EpochState) (e : Event) → IsSound c w → (s r y : ℕ) → w.location s ≡ Limbo r y
    → ((r' : ℕ) → is_entered (w.stage r') ≡ true → y < entry_of (w.stage r')) → y + 2 ≤ (after c w e).epoch → MayLeave c w e s y
may_leave c w e sound s r y at later passed =
    record {
      passed = passed;
      unheld = λ r' h. let kept = sound.held r' s h in let came = later r' (sound.holder r' s h) in grind arith;
      later = later;
    }

-- what is in the own limbo after a collect isn't old
collected_young : (r e y : ℕ) (x : Location) → collected true r e x ≡ Limbo r y → e < y + 2
collected_young r e y Fixed at = cc
collected_young r e y Live at = cc
collected_young r e y (Hand r') at = cc
collected_young r e y (Free r') at = cc
collected_young r e y (Worn r') at = cc
collected_young r e y (OnBoard i) at = cc
collected_young r e y (Limbo r' y') at = grind (arith, nat_tests)

pub leaves_nothing_old : (c : Counts) → LeavesNothingOld c
leaves_nothing_old c w r x n b s y lt =
    let node : nat_lt s c.nodes ≡ true = grind (arith, nat_tests) in (
      λ at. collected_young r x y (w.location s) (sym (ap (λ (i : Bool). collected i r x (w.location s)) node) ∙ at),
      λ at. collected_young r (x + 1) y (w.location s) (sym (ap (λ (i : Bool). collected i r (x + 1) (w.location s)) node) ∙ at),
    )

-- a slot in use may be held by anybody
in_use_kept : (x : Location) (g : ℕ) → is_in_use x ≡ true → IsKept x g
in_use_kept Fixed g h = tt
in_use_kept Live g h = tt
in_use_kept (Hand r) g h = absurd (cc)
in_use_kept (Free r) g h = absurd (cc)
in_use_kept (Worn r) g h = absurd (cc)
in_use_kept (OnBoard i) g h = absurd (cc)
in_use_kept (Limbo r y) g h = absurd (cc)

-- what one may hold who entered later, one may hold who entered earlier
kept_earlier : (x : Location) (g z : ℕ) → g ≤ z → IsKept x z → IsKept x g
kept_earlier Fixed g z le k = tt
kept_earlier Live g z le k = tt
kept_earlier (Hand r) g z le k = k
kept_earlier (Free r) g z le k = k
kept_earlier (Worn r) g z le k = k
kept_earlier (OnBoard i) g z le k = k
kept_earlier (Limbo r y) g z le k = omega arith

pub may_follow : (c : Counts) (w : EpochState) → IsSound c w → MayFollow c w
may_follow c w sound =
    record {
      from_live = λ r t isin used none. record { kept = in_use_kept (w.location t) _ used; retires = λ r' pending e. absurd (none r' pending e) };
      from_retired = λ r q p z t h at kept late.
          let own = sound.held r q h in let before : entry_of (w.stage r) ≤ z = grind arith in
          record {
            kept = kept_earlier (w.location t) (entry_of (w.stage r)) z before kept;
            retires = λ r' pending e. let since = late r' pending e in omega arith;
          };
      descriptor = λ r d isin kept. record { kept = kept; retires = λ r' pending e. let node = sound.retire_node r' pending.0 in absurd (omega arith) };
    }

pub leaves_late : (c : Counts) → LeavesLate c
leaves_late c w (EnterLoad q) sound ok s r y lt at left = absurd (left (grind arith))
leaves_late c w (Announce q e) sound ok s r y lt at left = absurd (left (grind arith))
leaves_late c w (EnterAgain q) sound ok s r y lt at left = absurd (left (grind arith))
leaves_late c w (Exit q) sound ok s r y lt at left = absurd (left (grind arith))
leaves_late c w (ScanEpoch q) sound ok s r y lt at left = absurd (left (grind arith))
leaves_late c w (ScanOne q x n b) sound ok s r y lt at left = absurd (left (grind arith))
leaves_late c w (ScanLast q x n b) sound ok s r y lt at left =
    may_leave c w (ScanLast q x n b) sound s r y at (λ r' isin. let least = sound.entered_least r' isin in grind arith) (grind arith)
leaves_late c w (Advance q x n) sound ok s r y lt at left =
    may_leave c w (Advance q x n) sound s r y at (λ r' isin. let least = sound.entered_least r' isin in grind arith) (grind arith)
leaves_late c w (Test q t b) sound ok s r y lt at left = absurd (left (grind arith))
leaves_late c w (TakeSlot q t) sound ok s r y lt at left = absurd (left (grind arith))
leaves_late c w (GiveBoard q t i) sound ok s r y lt at left = absurd (left (grind arith))
leaves_late c w (TakeBoard q t i) sound ok s r y lt at left = absurd (left (grind arith))
leaves_late c w (MakeCommit q d k t b) sound ok s r y lt at left = absurd (left (grind arith))
leaves_late c w (RetireEpoch q d k t) sound ok s r y lt at left = absurd (left (grind arith))
leaves_late c w (RetireCommit q) sound ok s r y lt at left = absurd (left (grind arith))
leaves_late c w (WordCommit q d k v) sound ok s r y lt at left = absurd (left (grind arith))
leaves_late c w (StoreLog q d k v) sound ok s r y lt at left = absurd (left (grind arith))
leaves_late c w (Reach q t) sound ok s r y lt at left = absurd (left (grind arith))
leaves_late c w (Publish q d roles) sound ok s r y lt at left = absurd (left (grind arith))
leaves_late c w (RetireDescriptor q d) sound ok s r y lt at left = absurd (left (grind arith))
leaves_late c w (Unguard q) sound ok s r y lt at left = absurd (left at)
leaves_late c w (Sweep q ds) sound ok s r y lt at left = absurd (left (swept_not (is_among c ds s) q (w.location s) (not_among c ds s lt) ∙ at))

-- an event that leaves every descriptor in limbo there
stays_there : (c : Counts) (w : EpochState) (e : Event) (d r y : ℕ) → w.location (slot_of c d) ≡ Limbo r y
    → (after c w e).location (slot_of c d) ≡ w.location (slot_of c d) → (after c w e).location (slot_of c d) ≢ Limbo r y → (q : ℕ) → w.holds q (slot_of c d) ≡ false
stays_there c w e d r y at same left q = absurd (left (same ∙ at))

pub leaves_unheld : (c : Counts) → LeavesUnheld c
leaves_unheld c w (ScanLast q x n b) sound ok d r y at left = stays_there c w (ScanLast q x n b) d r y at (descriptor_kept c w.location q x d) left
leaves_unheld c w (Advance q x n) sound ok d r y at left = stays_there c w (Advance q x n) d r y at (descriptor_kept c w.location q (x + 1) d) left
leaves_unheld c w (Test q t b) sound ok d r y at left = let node = sound.for_nodes t (grind arith) in stays_there c w (Test q t b) d r y at (grind arith) left
leaves_unheld c w (TakeSlot q t) sound ok d r y at left = stays_there c w (TakeSlot q t) d r y at (grind arith) left
leaves_unheld c w (GiveBoard q t i) sound ok d r y at left = stays_there c w (GiveBoard q t i) d r y at (grind arith) left
leaves_unheld c w (TakeBoard q t i) sound ok d r y at left = let node = sound.for_nodes t (ap is_for_nodes ok) in stays_there c w (TakeBoard q t i) d r y at (grind arith) left
leaves_unheld c w (MakeCommit q d' k t b) sound ok d r y at left =
    let node = sound.for_nodes t (grind arith) in stays_there c w (MakeCommit q d' k t b) d r y at (grind arith) left
leaves_unheld c w (RetireCommit q) sound ok d r y at left =
    let node = sound.retire_node q ok in stays_there c w (RetireCommit q) d r y at (grind arith) left
leaves_unheld c w (Publish q d' roles) sound ok d r y at left = absurd (left (grind arith))
leaves_unheld c w (RetireDescriptor q d') sound ok d r y at left = absurd (left (grind arith))
leaves_unheld c w (Sweep q ds) sound ok d r y at left = λ p. by (ds d) refl p
  where
    here : (b : Bool) → ds d ≡ b → (after c w (Sweep q ds)).location (slot_of c d) ≡ swept b q (Limbo r y)
    here b e = ap (λ (i : Bool). swept i q (w.location (slot_of c d))) (among_is c ds d ∙ e) ∙ ap (swept b q) at

    by : (b : Bool) → ds d ≡ b → (p : ℕ) → w.holds p (slot_of c d) ≡ false
    by true e p = dite (ℕ_discrete r q)
        (λ own. ok d e y p (at ∙ ap (λ n. Limbo n y) own))
        (λ other. absurd (left (here true e ∙ (let same : swept true q (Limbo r y) ≡ Limbo r y = grind arith in same))))
    by false e p = absurd (left (here false e ∙ swept_not false q (Limbo r y) refl))
leaves_unheld c w e sound ok d r y at left = stays_there c w e d r y at refl left
