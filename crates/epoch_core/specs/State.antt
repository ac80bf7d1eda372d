-- The state of epochs and slots: who is entered and with which epoch, who scans, where each slot is, and who holds it.
use Rattle.std.specs.Prelude.{ℕ, ◌≤◌, ◌≡◌, Bool, true, false}
use Rattle.epoch_core.specs.declared.stage.Stage.{Stage}
use Rattle.epoch_core.specs.declared.stage.Stage.TheVariants.{Idle, Loaded, Announced, Entered, Scanning}
use Rattle.epoch_core.specs.declared.location.Location.{Location}
use Rattle.epoch_core.specs.declared.location.Location.TheVariants.{Fixed, Live, Hand, Free, Worn, Limbo, OnBoard}

-- how many workers there are, which is the keeper's number too, how many node slots, and how many
-- descriptors, whose slot numbers come after those of the node slots
pub record Counts : Type 0 where
  pub runners : ℕ
  pub nodes : ℕ
  pub descriptors : ℕ

-- what a section commits at one place of its log: a word that it loaded, the slot of a Make, or the slot
-- that a Retire names
pub data Role : Type 0 where
  Agrees : Role
  Makes : Role
  Retires : (slot : ℕ) → Role

-- a Retire at which a runner is, for which it has loaded the epoch: the section's descriptor, the place in
-- its log, the slot and the epoch
pub record Retiring : Type 0 where
  pub loaded : Bool
  pub descriptor : ℕ
  pub index : ℕ
  pub slot : ℕ
  pub epoch : ℕ

-- at no Retire, or at one for which no epoch is loaded
abbrev pub no_retire : Retiring
no_retire = record { loaded = false; descriptor = 0; index = 0; slot = 0; epoch = 0 }

-- by runner: its announcement, its stage, which announcements it has found idle or of its epoch in its
-- scan, what it holds, and its Retire; by slot: where it is; by descriptor and place in the log: what the
-- section commits there, and the word that stands there
pub record EpochState : Type 0 where
  pub epoch : ℕ
  pub announced : ℕ → ℕ
  pub stage : ℕ → Stage
  pub clear : ℕ → ℕ → Bool
  pub location : ℕ → Location
  pub holds : ℕ → ℕ → Bool
  pub retire : ℕ → Retiring
  pub role : ℕ → ℕ → Role
  pub log : ℕ → ℕ → ℕ

-- no advance is tried from this epoch on
abbrev pub last_epoch : ℕ
last_epoch = 4611686018427387904

-- whether a runner is entered
abbrev pub is_entered : Stage → Bool
is_entered (Entered epoch) = true
is_entered Idle = false
is_entered (Loaded epoch) = false
is_entered Announced = false
is_entered (Scanning epoch next clear) = false

-- the epoch of an entered runner
abbrev pub entry_of : Stage → ℕ
entry_of (Entered epoch) = epoch
entry_of Idle = 0
entry_of (Loaded epoch) = 0
entry_of Announced = 0
entry_of (Scanning epoch next clear) = 0

-- a runner at this stage has an announcement
abbrev pub is_announcing : Stage → Bool
is_announcing (Entered epoch) = true
is_announcing Announced = true
is_announcing Idle = false
is_announcing (Loaded epoch) = false
is_announcing (Scanning epoch next clear) = false

-- a runner has loaded an epoch for a Retire of which nothing is agreed yet
abbrev pub IsPending : EpochState → ℕ → Type 0
IsPending w r = ((w.retire r).loaded ≡ true) × (w.log ((w.retire r).descriptor) ((w.retire r).index) ≡ 0)

-- a slot that a runner which entered at this epoch may hold: fixed, live, or retired no earlier
abbrev pub IsKept : Location → ℕ → Type 0
IsKept Fixed entry = Unit {0}
IsKept Live entry = Unit {0}
IsKept (Limbo r y) entry = entry ≤ y
IsKept (Hand r) entry = ⊥
IsKept (Free r) entry = ⊥
IsKept (Worn r) entry = ⊥
IsKept (OnBoard i) entry = ⊥

-- an entered runner may come to hold this slot: it may be held with the runner's entry, and each epoch that
-- was loaded for a Retire of it of which nothing is agreed yet is no earlier than the entry
pub record MayHold (w : EpochState) (r s : ℕ) : Type 0 where
  pub kept : IsKept (w.location s) (entry_of (w.stage r))
  pub retires : (r' : ℕ) → IsPending w r' → (w.retire r').slot ≡ s → entry_of (w.stage r) ≤ (w.retire r').epoch
