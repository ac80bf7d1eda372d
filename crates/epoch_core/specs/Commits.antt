-- What becomes of the slot at the commit of a Make or a Retire.
use Rattle.std.specs.Prelude.{ℕ, suc, ◌≡◌, ◌≢◌, ◌⊎◌, Bool}
use Rattle.epoch_core.specs.declared.location.Location.TheVariants.{Live, Free, Worn, Limbo}
use Rattle.epoch_core.specs.State.{Counts, EpochState}
use Rattle.epoch_core.specs.Events.{MakeCommit, RetireCommit, after}

module _ (c : Counts) where
  -- a Make's commit: where it won, the own slot is agreed and live; where it lost, the slot that stands in
  -- the log is agreed, and the own slot is back in the runner's free or worn list
  pub record MakeGoesOn (w : EpochState) (r d k s : ℕ) (worn : Bool) : Type 0 where
    pub won_agreed : w.log d k ≡ 0 → (after c w (MakeCommit r d k s worn)).log d k ≡ suc s
    pub won_live : w.log d k ≡ 0 → (after c w (MakeCommit r d k s worn)).location s ≡ Live
    pub lost_agreed : w.log d k ≢ 0 → (after c w (MakeCommit r d k s worn)).log d k ≡ w.log d k
    pub lost_back : w.log d k ≢ 0
        → ((after c w (MakeCommit r d k s worn)).location s ≡ Free r)
        ⊎ ((after c w (MakeCommit r d k s worn)).location s ≡ Worn r)

  -- a Retire's commit: where it won, the slot is in the runner's limbo with the epoch that it loaded; where
  -- it lost, no slot moves
  pub record RetireGoesOn (w : EpochState) (r : ℕ) : Type 0 where
    pub won : w.log ((w.retire r).descriptor) ((w.retire r).index) ≡ 0
        → (after c w (RetireCommit r)).location ((w.retire r).slot) ≡ Limbo r ((w.retire r).epoch)
    pub lost : w.log ((w.retire r).descriptor) ((w.retire r).index) ≢ 0 → (s : ℕ)
        → (after c w (RetireCommit r)).location s ≡ w.location s
