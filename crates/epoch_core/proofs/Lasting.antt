-- What was won stays won, and what a commit does with its slot.
use Rattle.std.proofs.Common.{◌≡◌, ℕ, Bool, true, false, refl, inl, inr, arith}
use Rattle.std.specs.Prelude.{◌⊎◌}
use Rattle.epoch_core.specs.declared.location.Location.{Location}
use Rattle.epoch_core.specs.Moves.{tested}
use Rattle.epoch_core.specs.State.{Counts, EpochState, IsKept}
use Rattle.epoch_core.specs.Events.{Event, EnterLoad, Announce, EnterAgain, Exit, ScanEpoch, ScanOne, ScanLast, Advance, Test, TakeSlot, GiveBoard, TakeBoard, MakeCommit, RetireEpoch, RetireCommit, WordCommit, StoreLog, Reach, Publish, RetireDescriptor, Unguard, Sweep, Enabled, slot_of}
use Rattle.epoch_core.specs.Sound.{IsSound}
use Rattle.epoch_core.specs.Commits.{MakeGoesOn, RetireGoesOn}
use Rattle.epoch_core.specs.History.{History, noted, IsExact, Lasts, is_out}
use Rattle.epoch_core.specs.declared.location.Location.TheVariants as locations

-- a slot that may be held was given out
pub kept_out : (x : Location) (g : ℕ) → IsKept x g → is_out x ≡ true
kept_out locations.Fixed g k = refl
kept_out locations.Live g k = refl
kept_out (locations.Limbo r y) g k = refl
kept_out (locations.Hand r) g k = absurd k
kept_out (locations.Free r) g k = absurd k
kept_out (locations.Worn r) g k = absurd k
kept_out (locations.OnBoard i) g k = absurd k

-- a tested slot is free or worn
back : (worn : Bool) (r : ℕ) → (tested worn r ≡ locations.Free r) ⊎ (tested worn r ≡ locations.Worn r)
back true r = inr refl
back false r = inl refl

pub make_goes_on : (c : Counts) (w : EpochState) (r d k s : ℕ) (worn : Bool) → MakeGoesOn c w r d k s worn
make_goes_on c w r d k s worn = let given = back worn r in
    record {
      won_agreed = grind arith;
      won_live = grind arith;
      lost_agreed = grind arith;
      lost_back = grind arith;
    }

pub retire_goes_on : (c : Counts) (w : EpochState) (r : ℕ) → RetireGoesOn c w r
retire_goes_on c w r =
    record {
      won = grind arith;
      lost = grind arith;
    }

pub lasts : (c : Counts) (w : EpochState) (h : History) (e : Event) → Enabled c w e → IsSound c w → IsExact c w h → Lasts h (noted w h e)
lasts c w h (EnterLoad r) ok sound old = record { made = λ n k some. refl; retired = λ n k some. refl }
lasts c w h (Announce r e) ok sound old = record { made = λ n k some. refl; retired = λ n k some. refl }
lasts c w h (EnterAgain r) ok sound old = record { made = λ n k some. refl; retired = λ n k some. refl }
lasts c w h (Exit r) ok sound old = record { made = λ n k some. refl; retired = λ n k some. refl }
lasts c w h (ScanEpoch r) ok sound old = record { made = λ n k some. refl; retired = λ n k some. refl }
lasts c w h (ScanOne r x n b) ok sound old = record { made = λ n k some. refl; retired = λ n k some. refl }
lasts c w h (ScanLast r x n b) ok sound old = record { made = λ n k some. refl; retired = λ n k some. refl }
lasts c w h (Advance r x n) ok sound old = record { made = λ n k some. refl; retired = λ n k some. refl }
lasts c w h (Test r s b) ok sound old = record { made = λ n k some. refl; retired = λ n k some. refl }
lasts c w h (TakeSlot r s) ok sound old = record { made = λ n k some. refl; retired = λ n k some. refl }
lasts c w h (GiveBoard r s i) ok sound old = record { made = λ n k some. refl; retired = λ n k some. refl }
lasts c w h (TakeBoard r s i) ok sound old = record { made = λ n k some. refl; retired = λ n k some. refl }
lasts c w h (MakeCommit r d k s b) ok sound old =
    let out = kept_out (w.location (slot_of c d)) _ (sound.held r (slot_of c d) ok.0) in let here = old.made d k out in
    record {
      made = grind arith;
      retired = λ n k' some. refl;
    }
lasts c w h (RetireEpoch r d k s) ok sound old = record { made = λ n k some. refl; retired = λ n k some. refl }
lasts c w h (RetireCommit r) ok sound old = let x = w.retire r in
    let out = kept_out (w.location (slot_of c x.descriptor)) _ (sound.held r (slot_of c x.descriptor) (sound.retire_held r ok)) in
    let here = old.retired x.descriptor x.index out in
    record {
      made = λ n k some. refl;
      retired = grind arith;
    }
lasts c w h (WordCommit r d k v) ok sound old = record { made = λ n k some. refl; retired = λ n k some. refl }
lasts c w h (StoreLog r d k v) ok sound old = record { made = λ n k some. refl; retired = λ n k some. refl }
lasts c w h (Reach r s) ok sound old = record { made = λ n k some. refl; retired = λ n k some. refl }
lasts c w h (Publish r d roles) ok sound old = record { made = λ n k some. refl; retired = λ n k some. refl }
lasts c w h (RetireDescriptor r d) ok sound old = record { made = λ n k some. refl; retired = λ n k some. refl }
lasts c w h (Unguard r) ok sound old = record { made = λ n k some. refl; retired = λ n k some. refl }
lasts c w h (Sweep r ds) ok sound old = record { made = λ n k some. refl; retired = λ n k some. refl }
