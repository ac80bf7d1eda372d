-- The events of epochs and slots, when each may come, and the state after it.
use Rattle.std.specs.Prelude.{ℕ, suc, ◌+◌, ◌<◌, ◌≤◌, ◌≡◌, Bool, true, false, ◌&&◌, ◌||◌, ◌-◌, nat_lt, nat_le}
use Rattle.epoch_core.specs.declared.stage.Stage.TheVariants.{Idle, Loaded, Announced, Entered, Scanning}
use Rattle.epoch_core.specs.declared.location.Location.{Location}
use Rattle.epoch_core.specs.declared.location.Location.TheVariants.{Live, Hand, Free, Limbo, OnBoard}
use Rattle.epoch_core.specs.Update.{upd, upd2, upd_row}
use Rattle.epoch_core.specs.State.{Counts, Role, Agrees, Makes, Retires, EpochState, last_epoch, is_entered, IsPending, MayHold, no_retire}
use Rattle.epoch_core.specs.Moves.{is_clear, is_over, advanced, tested, collected, swept, written_once, made, retired}

-- what may happen; `r` is the runner, `d` a descriptor, `index` a place in its log
pub data Event : Type 0 where
  -- a runner enters by two loads with its announcement between them, and exits
  EnterLoad : (r : ℕ) → Event
  Announce : (r e : ℕ) → Event
  EnterAgain : (r : ℕ) → Event
  Exit : (r : ℕ) → Event
  -- a scan of the announcements; the last one ends it, or else the advance does
  ScanEpoch : (r : ℕ) → Event
  ScanOne : (r epoch next : ℕ) (clear : Bool) → Event
  ScanLast : (r epoch next : ℕ) (clear : Bool) → Event
  Advance : (r epoch next : ℕ) → Event
  -- node slots: one in the hand was tested, one is taken for a Make, and a Make's commit; `worn` says that
  -- a cell has the greatest version
  Test : (r slot : ℕ) (worn : Bool) → Event
  TakeSlot : (r slot : ℕ) → Event
  MakeCommit : (r d index slot : ℕ) (worn : Bool) → Event
  -- a runner puts an own free node slot onto a word of the board, and takes one from there
  GiveBoard : (r slot word : ℕ) → Event
  TakeBoard : (r slot word : ℕ) → Event
  -- the epoch for a Retire, and its commit
  RetireEpoch : (r d index slot : ℕ) → Event
  RetireCommit : (r : ℕ) → Event
  -- any other commit, and a store into the log of an own free descriptor
  WordCommit : (r d index word : ℕ) → Event
  StoreLog : (r d index word : ℕ) → Event
  -- these slots come to be held
  Reach : (r : ℕ) (slots : ℕ → Bool) → Event
  -- a section with an empty log is published in an own free descriptor; a published descriptor is retired
  Publish : (r d : ℕ) (roles : ℕ → Role) → Event
  RetireDescriptor : (r d : ℕ) → Event
  -- a runner holds no descriptor any more; at the end of its sweep those of these that are in its limbo are free
  Unguard : (r : ℕ) → Event
  Sweep : (r : ℕ) (descriptors : ℕ → Bool) → Event

module _ (c : Counts) where
  -- the slot number of a descriptor
  abbrev pub slot_of : ℕ → ℕ
  slot_of d = c.nodes + d

  -- the slots after this runner has collected for this epoch
  abbrev pub after_collect : (ℕ → Location) → ℕ → ℕ → ℕ → Location
  after_collect location r epoch s = collected (nat_lt s c.nodes) r epoch (location s)

  -- this slot is one of these descriptors
  abbrev pub is_among : (ℕ → Bool) → ℕ → Bool
  is_among descriptors s = nat_le c.nodes s && descriptors (s - c.nodes)

  -- the state after an event
  abbrev pub after : EpochState → Event → EpochState
  after w (EnterLoad r) = record w { stage = upd w.stage r (Loaded w.epoch) }
  after w (Announce r e) = record w { announced = upd w.announced r e; stage = upd w.stage r Announced }
  after w (EnterAgain r) = record w { stage = upd w.stage r (Entered w.epoch) }
  after w (Exit r) =
      record w { announced = upd w.announced r 0; stage = upd w.stage r Idle; holds = upd_row w.holds r (λ s. false) }
  after w (ScanEpoch r) =
      record w { stage = upd w.stage r (Scanning w.epoch 0 true); clear = upd_row w.clear r (λ r'. false) }
  after w (ScanOne r epoch next clear) = record w {
    stage = upd w.stage r (Scanning epoch (suc next) (clear && is_clear epoch (w.announced next)));
    clear = upd2 w.clear r next (is_clear epoch (w.announced next));
  }
  after w (ScanLast r epoch next clear) =
      record w { stage = upd w.stage r Idle; location = after_collect w.location r epoch }
  after w (Advance r epoch next) = record w {
    epoch = advanced w.epoch epoch;
    stage = upd w.stage r Idle;
    location = after_collect w.location r (epoch + 1);
  }
  after w (Test r s worn) = record w { location = upd w.location s (tested worn r) }
  after w (TakeSlot r s) = record w { location = upd w.location s (Hand r) }
  after w (MakeCommit r d k s worn) = record w {
    location = upd w.location s (made (w.log d k) r worn);
    log = upd2 w.log d k (written_once (w.log d k) (suc s));
  }
  after w (GiveBoard r s i) = record w { location = upd w.location s (OnBoard i) }
  after w (TakeBoard r s i) = record w { location = upd w.location s (Free r) }
  after w (RetireEpoch r d k s) = record w
      { retire = upd w.retire r (record { loaded = true; descriptor = d; index = k; slot = s; epoch = w.epoch }) }
  after w (RetireCommit r) = let x = w.retire r in record w {
    location = upd w.location x.slot (retired (w.log x.descriptor x.index) r x.epoch (w.location x.slot));
    log = upd2 w.log x.descriptor x.index (written_once (w.log x.descriptor x.index) (suc x.slot));
    retire = upd w.retire r no_retire;
  }
  after w (WordCommit r d k word) = record w { log = upd2 w.log d k (written_once (w.log d k) word) }
  after w (StoreLog r d k word) = record w { log = upd2 w.log d k word }
  after w (Reach r slots) = record w { holds = upd_row w.holds r (λ s. w.holds r s || slots s) }
  after w (Publish r d roles) = record w {
    location = upd w.location (slot_of d) Live;
    holds = upd2 w.holds r (slot_of d) true;
    role = upd_row w.role d roles;
    log = upd_row w.log d (λ k. 0);
  }
  after w (RetireDescriptor r d) = record w { location = upd w.location (slot_of d) (Limbo r w.epoch) }
  after w (Unguard r) = record w { holds = upd_row w.holds r (λ s. w.holds r s && nat_lt s c.nodes) }
  after w (Sweep r descriptors) = record w { location = λ s. swept (is_among descriptors s) r (w.location s) }

  -- nobody holds this descriptor, if it is in this runner's limbo
  abbrev pub MayFree : EpochState → ℕ → ℕ → Type 0
  MayFree w r d = (y q : ℕ) → w.location (slot_of d) ≡ Limbo r y → w.holds q (slot_of d) ≡ false

  -- when an event may come; what it asks for beside the runner's stage is what the machine supplies
  abbrev pub Enabled : EpochState → Event → Type 0
  Enabled w (EnterLoad r) = w.stage r ≡ Idle
  Enabled w (Announce r e) = (r ≤ c.runners) × (w.stage r ≡ Loaded e)
  Enabled w (EnterAgain r) = w.stage r ≡ Announced
  Enabled w (Exit r) = (is_entered (w.stage r) ≡ true) × ((w.retire r).loaded ≡ false)
  Enabled w (ScanEpoch r) = w.stage r ≡ Idle
  Enabled w (ScanOne r epoch next clear) = (w.stage r ≡ Scanning epoch next clear) × (next ≤ c.runners)
      × (is_over c.runners epoch next (clear && is_clear epoch (w.announced next)) ≡ false)
  Enabled w (ScanLast r epoch next clear) = (w.stage r ≡ Scanning epoch next clear)
      × (is_over c.runners epoch next (clear && is_clear epoch (w.announced next)) ≡ true)
  Enabled w (Advance r epoch next) = (w.stage r ≡ Scanning epoch next true) × (c.runners < next) × (epoch < last_epoch)
  Enabled w (Test r s worn) = w.location s ≡ Hand r
  Enabled w (TakeSlot r s) = (w.location s ≡ Free r) × (s < c.nodes)
  Enabled w (MakeCommit r d k s worn) = (w.holds r (slot_of d) ≡ true) × (w.role d k ≡ Makes) × (w.location s ≡ Hand r)
  Enabled w (GiveBoard r s i) = (w.location s ≡ Free r) × (s < c.nodes)
  Enabled w (TakeBoard r s i) = w.location s ≡ OnBoard i
  Enabled w (RetireEpoch r d k s) =
      ((w.retire r).loaded ≡ false) × (w.holds r (slot_of d) ≡ true) × (w.role d k ≡ Retires s) × (s < c.nodes)
      × (w.log d k ≡ 0 → w.location s ≡ Live)
      × (w.log d k ≡ 0 → (r' : ℕ) → IsPending w r' → (w.retire r').slot ≡ s
      → ((w.retire r').descriptor ≡ d) × ((w.retire r').index ≡ k))
  Enabled w (RetireCommit r) = (w.retire r).loaded ≡ true
  Enabled w (WordCommit r d k word) = (w.holds r (slot_of d) ≡ true) × (w.role d k ≡ Agrees)
  Enabled w (StoreLog r d k word) = w.location (slot_of d) ≡ Free r
  Enabled w (Reach r slots) = (is_entered (w.stage r) ≡ true) × ((s : ℕ) → slots s ≡ true → MayHold w r s)
  Enabled w (Publish r d roles) = (is_entered (w.stage r) ≡ true) × (w.location (slot_of d) ≡ Free r)
  Enabled w (RetireDescriptor r d) = (is_entered (w.stage r) ≡ true) × (w.location (slot_of d) ≡ Live)
  Enabled w (Unguard r) = (w.retire r).loaded ≡ false
  Enabled w (Sweep r descriptors) = (d : ℕ) → descriptors d ≡ true → MayFree w r d
