-- The invariant of epochs and slots.
use Rattle.std.specs.Prelude.{ℕ, suc, ◌+◌, ◌<◌, ◌≤◌, ◌≡◌, ◌⊎◌, Bool, true, false}
use Rattle.epoch_core.specs.declared.stage.Stage.TheVariants.{Loaded, Scanning}
use Rattle.epoch_core.specs.declared.location.Location.{Location}
use Rattle.epoch_core.specs.declared.location.Location.TheVariants.{Fixed, Live, Hand, Free, Worn, Limbo, OnBoard}
use Rattle.epoch_core.specs.State.{Counts, Role, Agrees, Makes, Retires, EpochState, last_epoch, is_entered, entry_of, is_announcing, IsPending, IsKept}
use Rattle.epoch_core.specs.Events.{slot_of}
use Rattle.epoch_core.specs.History.{is_out}

-- places for node slots alone
abbrev pub is_for_nodes : Location → Bool
is_for_nodes Fixed = true
is_for_nodes (Hand r) = true
is_for_nodes (Worn r) = true
is_for_nodes (OnBoard i) = true
is_for_nodes Live = false
is_for_nodes (Free r) = false
is_for_nodes (Limbo r y) = false

-- what a log word may be where the section commits so: a Make's is 0 or the number plus one of a node slot,
-- a Retire's is 0 or that of its slot, and any other word may stand where a loaded word is agreed
abbrev pub IsLogged : Counts → Role → ℕ → Type 0
IsLogged c Agrees word = Unit {0}
IsLogged c Makes word = word ≤ c.nodes
IsLogged c (Retires slot) word = (word ≡ 0) ⊎ (word ≡ suc slot)

module _ (c : Counts) where
  -- what holds after every list of enabled events
  pub record IsSound (w : EpochState) : Type 0 where
    -- the epoch starts at 1 and never passes the last one
    pub some : 1 ≤ w.epoch
    pub bounded : w.epoch ≤ last_epoch
    -- an announced epoch is at most the epoch; who has announced nothing has the announcement 0, and
    -- everybody else one of at least 1
    pub announced_most : (r : ℕ) → w.announced r ≤ w.epoch
    pub unannounced : (r : ℕ) → is_announcing (w.stage r) ≡ false → w.announced r ≡ 0
    pub announced_some : (r : ℕ) → is_announcing (w.stage r) ≡ true → 1 ≤ w.announced r
    pub numbered : (r : ℕ) → is_announcing (w.stage r) ≡ true → r ≤ c.runners
    -- an epoch that was loaded to be announced is at most the epoch
    pub loaded_some : (r e : ℕ) → w.stage r ≡ Loaded e → 1 ≤ e
    pub loaded_most : (r e : ℕ) → w.stage r ≡ Loaded e → e ≤ w.epoch
    -- the epoch is that of each entered runner, or the next one
    pub entered_most : (r : ℕ) → is_entered (w.stage r) ≡ true → entry_of (w.stage r) ≤ w.epoch
    pub entered_least : (r : ℕ) → is_entered (w.stage r) ≡ true → w.epoch ≤ entry_of (w.stage r) + 1
    pub entered_announced : (r : ℕ) → is_entered (w.stage r) ≡ true → w.announced r ≤ entry_of (w.stage r)
    -- a scan's epoch is at most the epoch; where it is clear it has found each announcement that it read
    -- idle or of its epoch
    pub scan_some : (r x n : ℕ) (b : Bool) → w.stage r ≡ Scanning x n b → 1 ≤ x
    pub scan_most : (r x n : ℕ) (b : Bool) → w.stage r ≡ Scanning x n b → x ≤ w.epoch
    pub scan_clear : (r x n r' : ℕ) → w.stage r ≡ Scanning x n true → r' < n → w.clear r r' ≡ true
    -- a runner whose announcement was found so is entered with that epoch if it is entered, as long as the epoch stands
    pub scanned : (r x n r' : ℕ) (b : Bool) → w.stage r ≡ Scanning x n b → w.clear r r' ≡ true → w.epoch ≡ x
        → is_entered (w.stage r') ≡ true → entry_of (w.stage r') ≡ x
    -- only node slots are fixed, in hands or worn; no slot was retired in an epoch to come
    pub for_nodes : (s : ℕ) → is_for_nodes (w.location s) ≡ true → s < c.nodes
    pub limbo_most : (s r y : ℕ) → w.location s ≡ Limbo r y → y ≤ w.epoch
    -- who holds a slot is entered, and the slot is fixed, live, or was retired no earlier than the holder's epoch
    pub holder : (r s : ℕ) → w.holds r s ≡ true → is_entered (w.stage r) ≡ true
    pub held : (r s : ℕ) → w.holds r s ≡ true → IsKept (w.location s) (entry_of (w.stage r))
    -- who is at a Retire holds its section's descriptor, which names the slot there
    pub retire_held : (r : ℕ) → (w.retire r).loaded ≡ true → w.holds r (slot_of c ((w.retire r).descriptor)) ≡ true
    pub retire_role : (r : ℕ) → (w.retire r).loaded ≡ true
        → w.role ((w.retire r).descriptor) ((w.retire r).index) ≡ Retires ((w.retire r).slot)
    pub retire_node : (r : ℕ) → (w.retire r).loaded ≡ true → (w.retire r).slot < c.nodes
    -- the epoch that it loaded is at most the epoch; until the Retire is agreed the slot is live, no other
    -- Retire names it, and each runner that holds the slot entered at that epoch or before
    pub retire_most : (r : ℕ) → (w.retire r).loaded ≡ true → (w.retire r).epoch ≤ w.epoch
    pub retire_live : (r : ℕ) → IsPending w r → w.location ((w.retire r).slot) ≡ Live
    pub retire_once : (r r' : ℕ) → IsPending w r → IsPending w r' → (w.retire r).slot ≡ (w.retire r').slot
        → ((w.retire r).descriptor ≡ (w.retire r').descriptor) × ((w.retire r).index ≡ (w.retire r').index)
    pub retire_holders : (r r' : ℕ) → IsPending w r → w.holds r' ((w.retire r).slot) ≡ true
        → entry_of (w.stage r') ≤ (w.retire r).epoch
    -- the log words of a section whose descriptor isn't free again are what their places allow
    pub logged : (d k : ℕ) → is_out (w.location (slot_of c d)) ≡ true → IsLogged c (w.role d k) (w.log d k)
