-- Each event keeps the history exact.
use Rattle.std.proofs.Common.{◌≡◌, ℕ, suc, Bool, true, false, List, [], ◌∷◌, length, ap, ◌<◌, arith}
use Rattle.epoch_core.specs.declared.location.Location.{Location}
use Rattle.epoch_core.specs.declared.location.Location.TheVariants.{Hand, Free, OnBoard}
use Rattle.epoch_core.specs.State.{Counts, Role, EpochState}
use Rattle.epoch_core.specs.Events.{Event, EnterLoad, Announce, EnterAgain, Exit, ScanEpoch, ScanOne, ScanLast, Advance, Test, TakeSlot, GiveBoard, TakeBoard, MakeCommit, RetireEpoch, RetireCommit, WordCommit, StoreLog, Reach, Publish, RetireDescriptor, Unguard, Sweep, Enabled, after, slot_of, is_among}
use Rattle.epoch_core.specs.Sound.{IsSound, is_for_nodes}
use Rattle.epoch_core.specs.Schedules.{IsFirst, first_state, AllEnabled, after_all}
use Rattle.epoch_core.specs.History.{History, no_history, noted, noted_all, IsExact, is_out}
use Rattle.epoch_core.proofs.Keeping.{keeps}
use Rattle.epoch_core.proofs.NodeSlots.{out_before}
use Rattle.epoch_core.proofs.Sweeping.{swept_out}
use Rattle.std.proofs.Common.{cond}
use Rattle.epoch_core.specs.Update.{upd, upd2}
use Rattle.epoch_core.specs.Moves.{tested, written_once}
use Rattle.epoch_core.specs.History.{with_won, agreed_slot, agreed_count, is_makes, is_retires}

-- a Make's commit is noted where it won, and then its slot is the agreed one
more_made : (made : ℕ → ℕ → List ℕ) (section : ℕ → ℕ) (log : ℕ → ℕ → ℕ) (makes : Bool) (d k s d' k' : ℕ) → (section d' ≡ section d → d' ≡ d)
    → (d' ≡ d → k' ≡ k → makes ≡ true) → made (section d') k' ≡ cond makes (agreed_slot (log d' k')) []
    → upd2 made (section d) k (with_won (log d k) s (made (section d) k)) (section d') k'
    ≡ cond makes (agreed_slot (upd2 log d k (written_once (log d k) (suc s)) d' k')) []
more_made made section log makes d k s d' k' same role old = grind arith

-- likewise for a Retire's commit
more_retired : (retired : ℕ → ℕ → List ℕ) (section : ℕ → ℕ) (log : ℕ → ℕ → ℕ) (retires : Bool) (d k s y d' k' : ℕ) → (section d' ≡ section d → d' ≡ d)
    → (d' ≡ d → k' ≡ k → retires ≡ true) → length (retired (section d') k') ≡ cond retires (agreed_count (log d' k')) 0
    → length (upd2 retired (section d) k (with_won (log d k) y (retired (section d) k)) (section d') k')
    ≡ cond retires (agreed_count (upd2 log d k (written_once (log d k) (suc s)) d' k')) 0
more_retired retired section log retires d k s y d' k' same role old = grind arith

-- a commit of another kind changes nothing for a Make
made_elsewhere : (log : ℕ → ℕ → ℕ) (makes : Bool) (xs : List ℕ) (d k word d' k' : ℕ) → (d' ≡ d → k' ≡ k → makes ≡ false)
    → xs ≡ cond makes (agreed_slot (log d' k')) [] → xs ≡ cond makes (agreed_slot (upd2 log d k word d' k')) []
made_elsewhere log makes xs d k word d' k' role old = grind arith

exact_enter_load : (c : Counts) (w : EpochState) (h : History) (r : ℕ) → Enabled c w (EnterLoad r) → IsSound c w → IsExact c w h → IsExact c (after c w (EnterLoad r)) (noted w h (EnterLoad r))
exact_enter_load c w h r ok sound old =
    record {
      numbered = grind arith;
      named = grind arith;
      apart = grind arith;
      unborn_made = grind arith;
      unborn_retired = grind arith;
      made = grind arith;
      retired = grind arith;
      made_once = grind arith;
      retired_once = grind arith;
    }

exact_announce : (c : Counts) (w : EpochState) (h : History) (r : ℕ) (e : ℕ) → Enabled c w (Announce r e) → IsSound c w → IsExact c w h → IsExact c (after c w (Announce r e)) (noted w h (Announce r e))
exact_announce c w h r e ok sound old =
    record {
      numbered = grind arith;
      named = grind arith;
      apart = grind arith;
      unborn_made = grind arith;
      unborn_retired = grind arith;
      made = grind arith;
      retired = grind arith;
      made_once = grind arith;
      retired_once = grind arith;
    }

exact_enter_again : (c : Counts) (w : EpochState) (h : History) (r : ℕ) → Enabled c w (EnterAgain r) → IsSound c w → IsExact c w h → IsExact c (after c w (EnterAgain r)) (noted w h (EnterAgain r))
exact_enter_again c w h r ok sound old =
    record {
      numbered = grind arith;
      named = grind arith;
      apart = grind arith;
      unborn_made = grind arith;
      unborn_retired = grind arith;
      made = grind arith;
      retired = grind arith;
      made_once = grind arith;
      retired_once = grind arith;
    }

exact_exit : (c : Counts) (w : EpochState) (h : History) (r : ℕ) → Enabled c w (Exit r) → IsSound c w → IsExact c w h → IsExact c (after c w (Exit r)) (noted w h (Exit r))
exact_exit c w h r ok sound old =
    record {
      numbered = grind arith;
      named = grind arith;
      apart = grind arith;
      unborn_made = grind arith;
      unborn_retired = grind arith;
      made = grind arith;
      retired = grind arith;
      made_once = grind arith;
      retired_once = grind arith;
    }

exact_scan_epoch : (c : Counts) (w : EpochState) (h : History) (r : ℕ) → Enabled c w (ScanEpoch r) → IsSound c w → IsExact c w h → IsExact c (after c w (ScanEpoch r)) (noted w h (ScanEpoch r))
exact_scan_epoch c w h r ok sound old =
    record {
      numbered = grind arith;
      named = grind arith;
      apart = grind arith;
      unborn_made = grind arith;
      unborn_retired = grind arith;
      made = grind arith;
      retired = grind arith;
      made_once = grind arith;
      retired_once = grind arith;
    }

exact_scan_one : (c : Counts) (w : EpochState) (h : History) (r : ℕ) (x : ℕ) (n : ℕ) (b : Bool) → Enabled c w (ScanOne r x n b) → IsSound c w → IsExact c w h → IsExact c (after c w (ScanOne r x n b)) (noted w h (ScanOne r x n b))
exact_scan_one c w h r x n b ok sound old =
    record {
      numbered = grind arith;
      named = grind arith;
      apart = grind arith;
      unborn_made = grind arith;
      unborn_retired = grind arith;
      made = grind arith;
      retired = grind arith;
      made_once = grind arith;
      retired_once = grind arith;
    }

exact_scan_last : (c : Counts) (w : EpochState) (h : History) (r : ℕ) (x : ℕ) (n : ℕ) (b : Bool) → Enabled c w (ScanLast r x n b) → IsSound c w → IsExact c w h → IsExact c (after c w (ScanLast r x n b)) (noted w h (ScanLast r x n b))
exact_scan_last c w h r x n b ok sound old =
    record {
      numbered = grind arith;
      named = grind arith;
      apart = grind arith;
      unborn_made = grind arith;
      unborn_retired = grind arith;
      made = grind arith;
      retired = grind arith;
      made_once = grind arith;
      retired_once = grind arith;
    }

exact_advance : (c : Counts) (w : EpochState) (h : History) (r : ℕ) (x : ℕ) (n : ℕ) → Enabled c w (Advance r x n) → IsSound c w → IsExact c w h → IsExact c (after c w (Advance r x n)) (noted w h (Advance r x n))
exact_advance c w h r x n ok sound old =
    record {
      numbered = grind arith;
      named = grind arith;
      apart = grind arith;
      unborn_made = grind arith;
      unborn_retired = grind arith;
      made = grind arith;
      retired = grind arith;
      made_once = grind arith;
      retired_once = grind arith;
    }

-- where a node slot goes from one place at which it isn't given out to another
exact_lists : (c : Counts) (w : EpochState) (h : History) (s : ℕ) (x : Location) → s < c.nodes → IsExact c w h
    → IsExact c (record w { location = upd w.location s x }) h
exact_lists c w h s x node old =
    record {
      numbered = old.numbered;
      named = λ d out. old.named d (out_before w.location c.nodes s d x node out);
      apart = old.apart;
      unborn_made = old.unborn_made;
      unborn_retired = old.unborn_retired;
      made = λ d k out. old.made d k (out_before w.location c.nodes s d x node out);
      retired = λ d k out. old.retired d k (out_before w.location c.nodes s d x node out);
      made_once = old.made_once;
      retired_once = old.retired_once;
    }

exact_make_commit : (c : Counts) (w : EpochState) (h : History) (r : ℕ) (d : ℕ) (k : ℕ) (s : ℕ) (b : Bool) → Enabled c w (MakeCommit r d k s b) → IsSound c w → IsExact c w h → IsExact c (after c w (MakeCommit r d k s b)) (noted w h (MakeCommit r d k s b))
exact_make_commit c w h r d k s b ok sound old =
    record {
      numbered = grind arith;
      named = grind arith;
      apart = grind arith;
      unborn_made = grind arith;
      unborn_retired = grind arith;
      made = λ d' k' out.
          let out' : is_out (w.location (slot_of c d')) ≡ true = out_before w.location c.nodes s d' _ (sound.for_nodes s (grind arith)) out in
          more_made h.made h.section w.log (is_makes (w.role d' k')) d k s d' k' (old.apart d' d (old.named d' out')) (λ e e'. grind arith) (old.made d' k' out');
      retired = grind arith;
      made_once = grind arith;
      retired_once = grind arith;
    }

exact_retire_epoch : (c : Counts) (w : EpochState) (h : History) (r : ℕ) (d : ℕ) (k : ℕ) (s : ℕ) → Enabled c w (RetireEpoch r d k s) → IsSound c w → IsExact c w h → IsExact c (after c w (RetireEpoch r d k s)) (noted w h (RetireEpoch r d k s))
exact_retire_epoch c w h r d k s ok sound old =
    record {
      numbered = grind arith;
      named = grind arith;
      apart = grind arith;
      unborn_made = grind arith;
      unborn_retired = grind arith;
      made = grind arith;
      retired = grind arith;
      made_once = grind arith;
      retired_once = grind arith;
    }

exact_retire_commit : (c : Counts) (w : EpochState) (h : History) (r : ℕ) → Enabled c w (RetireCommit r) → IsSound c w → IsExact c w h → IsExact c (after c w (RetireCommit r)) (noted w h (RetireCommit r))
exact_retire_commit c w h r ok sound old =
    record {
      numbered = grind arith;
      named = grind arith;
      apart = grind arith;
      unborn_made = grind arith;
      unborn_retired = grind arith;
      made = λ d' k' out.
          let x = w.retire r in
          let out' : is_out (w.location (slot_of c d')) ≡ true = out_before w.location c.nodes x.slot d' _ (sound.retire_node r ok) out in
          let role = sound.retire_role r ok in
          made_elsewhere w.log (is_makes (w.role d' k')) (h.made (h.section d') k') x.descriptor x.index _ d' k' (λ e e'. grind arith) (old.made d' k' out');
      retired = λ d' k' out.
          let x = w.retire r in
          let out' : is_out (w.location (slot_of c d')) ≡ true = out_before w.location c.nodes x.slot d' _ (sound.retire_node r ok) out in
          let role = sound.retire_role r ok in
          more_retired h.retired h.section w.log (is_retires (w.role d' k')) x.descriptor x.index x.slot x.epoch d' k' (old.apart d' x.descriptor (old.named d' out')) (λ e e'. grind arith) (old.retired d' k' out');
      made_once = grind arith;
      retired_once = grind arith;
    }

exact_word_commit : (c : Counts) (w : EpochState) (h : History) (r : ℕ) (d : ℕ) (k : ℕ) (v : ℕ) → Enabled c w (WordCommit r d k v) → IsSound c w → IsExact c w h → IsExact c (after c w (WordCommit r d k v)) (noted w h (WordCommit r d k v))
exact_word_commit c w h r d k v ok sound old =
    record {
      numbered = grind arith;
      named = grind arith;
      apart = grind arith;
      unborn_made = grind arith;
      unborn_retired = grind arith;
      made = grind arith;
      retired = grind arith;
      made_once = grind arith;
      retired_once = grind arith;
    }

exact_store_log : (c : Counts) (w : EpochState) (h : History) (r : ℕ) (d : ℕ) (k : ℕ) (v : ℕ) → Enabled c w (StoreLog r d k v) → IsSound c w → IsExact c w h → IsExact c (after c w (StoreLog r d k v)) (noted w h (StoreLog r d k v))
exact_store_log c w h r d k v ok sound old =
    record {
      numbered = grind arith;
      named = grind arith;
      apart = grind arith;
      unborn_made = grind arith;
      unborn_retired = grind arith;
      made = grind arith;
      retired = grind arith;
      made_once = grind arith;
      retired_once = grind arith;
    }

exact_reach : (c : Counts) (w : EpochState) (h : History) (r : ℕ) (s : ℕ → Bool) → Enabled c w (Reach r s) → IsSound c w → IsExact c w h → IsExact c (after c w (Reach r s)) (noted w h (Reach r s))
exact_reach c w h r s ok sound old =
    record {
      numbered = grind arith;
      named = grind arith;
      apart = grind arith;
      unborn_made = grind arith;
      unborn_retired = grind arith;
      made = grind arith;
      retired = grind arith;
      made_once = grind arith;
      retired_once = grind arith;
    }

exact_publish : (c : Counts) (w : EpochState) (h : History) (r : ℕ) (d : ℕ) (roles : ℕ → Role) → Enabled c w (Publish r d roles) → IsSound c w → IsExact c w h → IsExact c (after c w (Publish r d roles)) (noted w h (Publish r d roles))
exact_publish c w h r d roles ok sound old =
    record {
      numbered = grind arith;
      named = grind arith;
      apart = grind arith;
      unborn_made = grind arith;
      unborn_retired = grind arith;
      made = grind arith;
      retired = grind arith;
      made_once = grind arith;
      retired_once = grind arith;
    }

exact_retire_descriptor : (c : Counts) (w : EpochState) (h : History) (r : ℕ) (d : ℕ) → Enabled c w (RetireDescriptor r d) → IsSound c w → IsExact c w h → IsExact c (after c w (RetireDescriptor r d)) (noted w h (RetireDescriptor r d))
exact_retire_descriptor c w h r d ok sound old =
    record {
      numbered = grind arith;
      named = grind arith;
      apart = grind arith;
      unborn_made = grind arith;
      unborn_retired = grind arith;
      made = grind arith;
      retired = grind arith;
      made_once = grind arith;
      retired_once = grind arith;
    }

exact_unguard : (c : Counts) (w : EpochState) (h : History) (r : ℕ) → Enabled c w (Unguard r) → IsSound c w → IsExact c w h → IsExact c (after c w (Unguard r)) (noted w h (Unguard r))
exact_unguard c w h r ok sound old =
    record {
      numbered = old.numbered;
      named = old.named;
      apart = old.apart;
      unborn_made = old.unborn_made;
      unborn_retired = old.unborn_retired;
      made = old.made;
      retired = old.retired;
      made_once = old.made_once;
      retired_once = old.retired_once;
    }

exact_sweep : (c : Counts) (w : EpochState) (h : History) (r : ℕ) (ds : ℕ → Bool) → Enabled c w (Sweep r ds) → IsSound c w → IsExact c w h → IsExact c (after c w (Sweep r ds)) (noted w h (Sweep r ds))
exact_sweep c w h r ds ok sound old =
    record {
      numbered = old.numbered;
      named = λ d out. old.named d (before d out);
      apart = old.apart;
      unborn_made = old.unborn_made;
      unborn_retired = old.unborn_retired;
      made = λ d k out. old.made d k (before d out);
      retired = λ d k out. old.retired d k (before d out);
      made_once = old.made_once;
      retired_once = old.retired_once;
    }
  where
    before : (d : ℕ) → is_out ((after c w (Sweep r ds)).location (slot_of c d)) ≡ true → is_out (w.location (slot_of c d)) ≡ true
    before d out = swept_out (is_among c ds (slot_of c d)) r (w.location (slot_of c d)) out

pub exact : (c : Counts) (w : EpochState) (h : History) (e : Event) → Enabled c w e → IsSound c w → IsExact c w h → IsExact c (after c w e) (noted w h e)
exact c w h (EnterLoad r) ok sound old = exact_enter_load c w h r ok sound old
exact c w h (Announce r e) ok sound old = exact_announce c w h r e ok sound old
exact c w h (EnterAgain r) ok sound old = exact_enter_again c w h r ok sound old
exact c w h (Exit r) ok sound old = exact_exit c w h r ok sound old
exact c w h (ScanEpoch r) ok sound old = exact_scan_epoch c w h r ok sound old
exact c w h (ScanOne r x n b) ok sound old = exact_scan_one c w h r x n b ok sound old
exact c w h (ScanLast r x n b) ok sound old = exact_scan_last c w h r x n b ok sound old
exact c w h (Advance r x n) ok sound old = exact_advance c w h r x n ok sound old
exact c w h (Test r s b) ok sound old = exact_lists c w h s (tested b r) (sound.for_nodes s (ap is_for_nodes ok)) old
exact c w h (TakeSlot r s) ok sound old = exact_lists c w h s (Hand r) ok.1 old
exact c w h (GiveBoard r s i) ok sound old = exact_lists c w h s (OnBoard i) ok.1 old
exact c w h (TakeBoard r s i) ok sound old = exact_lists c w h s (Free r) (sound.for_nodes s (ap is_for_nodes ok)) old
exact c w h (MakeCommit r d k s b) ok sound old = exact_make_commit c w h r d k s b ok sound old
exact c w h (RetireEpoch r d k s) ok sound old = exact_retire_epoch c w h r d k s ok sound old
exact c w h (RetireCommit r) ok sound old = exact_retire_commit c w h r ok sound old
exact c w h (WordCommit r d k v) ok sound old = exact_word_commit c w h r d k v ok sound old
exact c w h (StoreLog r d k v) ok sound old = exact_store_log c w h r d k v ok sound old
exact c w h (Reach r s) ok sound old = exact_reach c w h r s ok sound old
exact c w h (Publish r d roles) ok sound old = exact_publish c w h r d roles ok sound old
exact c w h (RetireDescriptor r d) ok sound old = exact_retire_descriptor c w h r d ok sound old
exact c w h (Unguard r) ok sound old = exact_unguard c w h r ok sound old
exact c w h (Sweep r ds) ok sound old = exact_sweep c w h r ds ok sound old

-- the first state, with no history
pub exact_first : (c : Counts) (location : ℕ → Location) → IsFirst c location → IsExact c (first_state location) no_history
exact_first c location start =
    record {
      numbered = grind arith;
      named = grind arith;
      apart = grind arith;
      unborn_made = grind arith;
      unborn_retired = grind arith;
      made = grind arith;
      retired = grind arith;
      made_once = grind arith;
      retired_once = grind arith;
    }

pub exact_all : (c : Counts) (w : EpochState) (h : History) (es : List Event) → AllEnabled c w es → IsSound c w → IsExact c w h → IsExact c (after_all c w es) (noted_all c w h es)
exact_all c w h [] ok sound old = old
exact_all c w h (e ∷ es) ok sound old = exact_all c (after c w e) (noted w h e) es ok.1 (keeps c w e ok.0 sound) (exact c w h e ok.0 sound old)
