-- Every enabled event keeps the invariant.
use Rattle.std.proofs.Common.{ℕ, List, [], ◌∷◌}
use Rattle.epoch_core.specs.declared.location.Location.{Location}
use Rattle.epoch_core.specs.State.{Counts, EpochState}
use Rattle.epoch_core.specs.Events.{Event, EnterLoad, Announce, EnterAgain, Exit, ScanEpoch, ScanOne, ScanLast, Advance, Test, TakeSlot, GiveBoard, TakeBoard, MakeCommit, RetireEpoch, RetireCommit, WordCommit, StoreLog, Reach, Publish, RetireDescriptor, Unguard, Sweep, Enabled, after}
use Rattle.epoch_core.specs.Sound.{IsSound}
use Rattle.epoch_core.specs.Schedules.{IsFirst, first_state, AllEnabled, after_all}
use Rattle.epoch_core.proofs.Entering.{enter_load, announce, enter_again, exit}
use Rattle.epoch_core.proofs.Scanning.{scan_epoch, scan_one, scan_last, advance}
use Rattle.epoch_core.proofs.NodeSlots.{test, take_slot, give_board, take_board, make_commit, retire_epoch, retire_commit}
use Rattle.epoch_core.proofs.Sections.{word_commit, store_log, reach, publish, retire_descriptor}
use Rattle.epoch_core.proofs.Sweeping.{unguard, sweep}
use Rattle.std.proofs.Common.{arith}

pub keeps : (c : Counts) (w : EpochState) (e : Event) → Enabled c w e → IsSound c w → IsSound c (after c w e)
keeps c w (EnterLoad r) ok old = enter_load c w r ok old
keeps c w (Announce r e) ok old = announce c w r e ok old
keeps c w (EnterAgain r) ok old = enter_again c w r ok old
keeps c w (Exit r) ok old = exit c w r ok old
keeps c w (ScanEpoch r) ok old = scan_epoch c w r ok old
keeps c w (ScanOne r x n b) ok old = scan_one c w r x n b ok old
keeps c w (ScanLast r x n b) ok old = scan_last c w r x n b ok old
keeps c w (Advance r x n) ok old = advance c w r x n ok old
keeps c w (Test r s b) ok old = test c w r s b ok old
keeps c w (TakeSlot r s) ok old = take_slot c w r s ok old
keeps c w (GiveBoard r s i) ok old = give_board c w r s i ok old
keeps c w (TakeBoard r s i) ok old = take_board c w r s i ok old
keeps c w (MakeCommit r d k s b) ok old = make_commit c w r d k s b ok old
keeps c w (RetireEpoch r d k s) ok old = retire_epoch c w r d k s ok old
keeps c w (RetireCommit r) ok old = retire_commit c w r ok old
keeps c w (WordCommit r d k v) ok old = word_commit c w r d k v ok old
keeps c w (StoreLog r d k v) ok old = store_log c w r d k v ok old
keeps c w (Reach r s) ok old = reach c w r s ok old
keeps c w (Publish r d roles) ok old = publish c w r d roles ok old
keeps c w (RetireDescriptor r d) ok old = retire_descriptor c w r d ok old
keeps c w (Unguard r) ok old = unguard c w r ok old
keeps c w (Sweep r ds) ok old = sweep c w r ds ok old

-- the first state meets it
pub first : (c : Counts) (location : ℕ → Location) → IsFirst c location → IsSound c (first_state location)
first c location start =
    record {
      some = grind arith;
      bounded = grind arith;
      announced_most = grind arith;
      unannounced = grind arith;
      announced_some = grind arith;
      numbered = grind arith;
      loaded_some = grind arith;
      loaded_most = grind arith;
      entered_most = grind arith;
      entered_least = grind arith;
      entered_announced = grind arith;
      scan_some = grind arith;
      scan_most = grind arith;
      scan_clear = grind arith;
      scanned = grind arith;
      for_nodes = grind arith;
      limbo_most = grind arith;
      holder = grind arith;
      held = grind arith;
      retire_held = grind arith;
      retire_role = grind arith;
      retire_node = grind arith;
      retire_most = grind arith;
      retire_live = grind arith;
      retire_once = grind arith;
      retire_holders = grind arith;
      logged = λ d1 k1 out. tt;
    }

-- so does every state that enabled events lead to
pub keeps_all : (c : Counts) (w : EpochState) (es : List Event) → AllEnabled c w es → IsSound c w → IsSound c (after_all c w es)
keeps_all c w [] ok old = old
keeps_all c w (e ∷ es) ok old = keeps_all c (after c w e) es ok.1 (keeps c w e ok.0 old)
