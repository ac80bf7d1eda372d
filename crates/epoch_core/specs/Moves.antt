-- What becomes of a stage, a slot and a log word in one step.
use Rattle.std.specs.Prelude.{ℕ, ◌+◌, Bool, true, false, not, ◌==◌, ◌&&◌, ◌||◌, nat_lt, nat_le, cond}
use Rattle.epoch_core.specs.declared.location.Location.{Location}
use Rattle.epoch_core.specs.declared.location.Location.TheVariants.{Fixed, Live, Hand, Free, Worn, Limbo, OnBoard}
use Rattle.epoch_core.specs.State.{last_epoch}

-- an announcement doesn't stand in the way of an advance from this epoch
abbrev pub is_clear : ℕ → ℕ → Bool
is_clear epoch found = found == 0 || found == epoch

-- the announcement `next` is the last one, the keeper's, and an advance from this epoch isn't tried
abbrev pub is_over : ℕ → ℕ → ℕ → Bool → Bool
is_over runners epoch next clear = next == runners && not (clear && nat_lt epoch last_epoch)

-- the epoch after an exchange from `epoch` to the next
abbrev pub advanced : ℕ → ℕ → ℕ
advanced found epoch = cond (found == epoch) (epoch + 1) found

-- retired two epochs ago or earlier
abbrev pub is_old : ℕ → ℕ → Bool
is_old retired epoch = nat_le (retired + 2) epoch

-- a tested slot is free again, or worn
abbrev pub tested : Bool → ℕ → Location
tested true r = Worn r
tested false r = Free r

-- where a slot is after this runner has collected for this epoch: a node slot goes to the hand, to be tested for worn
-- cells; a descriptor stays
abbrev pub collected : Bool → ℕ → ℕ → Location → Location
collected node r epoch (Limbo r' y) = cond (node && (r' == r && is_old y epoch)) (Hand r) (Limbo r' y)
collected node r epoch Fixed = Fixed
collected node r epoch Live = Live
collected node r epoch (Hand r') = Hand r'
collected node r epoch (Free r') = Free r'
collected node r epoch (Worn r') = Worn r'
collected node r epoch (OnBoard i) = OnBoard i

-- where a slot is after this runner's sweep, if that frees it where it is in the runner's limbo
abbrev pub swept : Bool → ℕ → Location → Location
swept frees r (Limbo r' y) = cond (r' == r && frees) (Free r) (Limbo r' y)
swept frees r Fixed = Fixed
swept frees r Live = Live
swept frees r (Hand r') = Hand r'
swept frees r (Free r') = Free r'
swept frees r (Worn r') = Worn r'
swept frees r (OnBoard i) = OnBoard i

-- a log word is written once: the word that stood there, or else the proposal
abbrev pub written_once : ℕ → ℕ → ℕ
written_once found proposal = cond (found == 0) proposal found

-- where a Make's slot is after its commit, which found this log word: live where the commit won, otherwise
-- back in a list
abbrev pub made : ℕ → ℕ → Bool → Location
made found r worn = cond (found == 0) Live (tested worn r)

-- where a Retire's slot is after its commit: in the limbo of the runner whose commit won, otherwise as it was
abbrev pub retired : ℕ → ℕ → ℕ → Location → Location
retired found r epoch before = cond (found == 0) (Limbo r epoch) before
