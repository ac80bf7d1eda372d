-- The lists of each runner, beside the state: a slot stands in a list exactly where its location says so,
-- and there once.
use Rattle.std.specs.Prelude.{ℕ, ◌+◌, ◌<◌, ◌≤◌, ◌≡◌, Bool, true, false, not, ◌==◌, ◌&&◌, cond, List, [], ◌∷◌, ◌++◌, map}
use Rattle.std.specs.List.{filter}
use Rattle.epoch_core.specs.declared.location.Location.{Location}
use Rattle.epoch_core.specs.declared.location.Location.TheVariants.{Fixed, Live, Hand, Free, Worn, Limbo, OnBoard}
use Rattle.epoch_core.specs.Update.{upd}
use Rattle.epoch_core.specs.Moves.{is_old}
use Rattle.epoch_core.specs.State.{Counts, EpochState}
use Rattle.epoch_core.specs.Events.{Event, ScanLast, Advance, Test, TakeSlot, MakeCommit, GiveBoard, TakeBoard, RetireCommit, Publish, RetireDescriptor, Sweep, after, slot_of}

-- a slot in limbo, with the epoch of its retirement
pub record Entry : Type 0 where
  pub slot : ℕ
  pub epoch : ℕ

-- the lists of a runner: of its node slots, and of its descriptors, which stand there by their own numbers
pub record Lists : Type 0 where
  pub hand : List ℕ
  pub free : List ℕ
  pub worn : List ℕ
  pub limbo : List Entry
  pub free_descriptors : List ℕ
  pub limbo_descriptors : List ℕ

-- the list without this number
abbrev pub without : List ℕ → ℕ → List ℕ
without xs x = filter (λ y. not (y == x)) xs

-- the slots of those that were retired long enough ago
abbrev pub old_slots : ℕ → List Entry → List ℕ
old_slots epoch xs = map (λ x. x.slot) (filter (λ x. is_old x.epoch epoch) xs)

-- the others
abbrev pub young : ℕ → List Entry → List Entry
young epoch xs = filter (λ x. not (is_old x.epoch epoch)) xs

-- after a collect for this epoch
abbrev pub collect_lists : ℕ → Lists → Lists
collect_lists epoch l = record l {
  hand = l.hand ++ old_slots epoch l.limbo;
  limbo = young epoch l.limbo;
}

-- after a sweep that frees the descriptors which pass the test
abbrev pub swept_lists : (ℕ → Bool) → Lists → Lists
swept_lists test l = record l {
  free_descriptors = l.free_descriptors ++ filter test l.limbo_descriptors;
  limbo_descriptors = filter (λ d. not (test d)) l.limbo_descriptors;
}

-- a slot in the hand comes back to the free list, or to the worn list
abbrev pub tested_lists : Bool → ℕ → Lists → Lists
tested_lists true s l = record l { hand = without l.hand s; worn = l.worn ++ s ∷ [] }
tested_lists false s l = record l { hand = without l.hand s; free = l.free ++ s ∷ [] }

-- a Make's slot after its commit, which found this word
abbrev pub made_lists : ℕ → Bool → ℕ → Lists → Lists
made_lists found worn s l = cond (found == 0) (record l { hand = without l.hand s }) (tested_lists worn s l)

-- a Retire's slot after its commit, which found this word
abbrev pub retired_lists : ℕ → ℕ → ℕ → Lists → Lists
retired_lists found s epoch l =
    cond (found == 0) (record l { limbo = l.limbo ++ record { slot = s; epoch = epoch } ∷ [] }) l

-- the runners' lists after an event
abbrev pub listed : EpochState → (ℕ → Lists) → Event → ℕ → Lists
listed w l (ScanLast r epoch next clear) = upd l r (collect_lists epoch (l r))
listed w l (Advance r epoch next) = upd l r (collect_lists (epoch + 1) (l r))
listed w l (Test r s worn) = upd l r (tested_lists worn s (l r))
listed w l (TakeSlot r s) = upd l r (record (l r) { free = without (l r).free s; hand = (l r).hand ++ s ∷ [] })
listed w l (MakeCommit r d k s worn) = upd l r (made_lists (w.log d k) worn s (l r))
listed w l (GiveBoard r s i) = upd l r (record (l r) { free = without (l r).free s })
listed w l (TakeBoard r s i) = upd l r (record (l r) { free = (l r).free ++ s ∷ [] })
listed w l (RetireCommit r) =
    let x = w.retire r in upd l r (retired_lists (w.log x.descriptor x.index) x.slot x.epoch (l r))
listed w l (Publish r d roles) = upd l r (record (l r) { free_descriptors = without (l r).free_descriptors d })
listed w l (RetireDescriptor r d) =
    upd l r (record (l r) { limbo_descriptors = (l r).limbo_descriptors ++ d ∷ [] })
listed w l (Sweep r descriptors) = upd l r (swept_lists descriptors (l r))
listed w l _ = l

-- how often a number stands in a list
abbrev pub times : ℕ → List ℕ → ℕ
times s [] = 0
times s (x ∷ xs) = cond (x == s) (1 + times s xs) (times s xs)

-- how often a slot stands in limbo with this epoch
abbrev pub times_retired : ℕ → ℕ → List Entry → ℕ
times_retired s y [] = 0
times_retired s y (x ∷ xs) = cond (x.slot == s && x.epoch == y) (1 + times_retired s y xs) (times_retired s y xs)

-- 1 where the slot is in this runner's hand, otherwise 0
abbrev pub in_hand : ℕ → Location → ℕ
in_hand r (Hand r') = cond (r' == r) 1 0
in_hand r Fixed = 0
in_hand r Live = 0
in_hand r (Free r') = 0
in_hand r (Worn r') = 0
in_hand r (OnBoard i) = 0
in_hand r (Limbo r' y') = 0

-- the same for its free list
abbrev pub in_free : ℕ → Location → ℕ
in_free r (Free r') = cond (r' == r) 1 0
in_free r Fixed = 0
in_free r Live = 0
in_free r (Hand r') = 0
in_free r (Worn r') = 0
in_free r (OnBoard i) = 0
in_free r (Limbo r' y') = 0

-- the same for its worn list
abbrev pub in_worn : ℕ → Location → ℕ
in_worn r (Worn r') = cond (r' == r) 1 0
in_worn r (OnBoard i) = 0
in_worn r Fixed = 0
in_worn r Live = 0
in_worn r (Hand r') = 0
in_worn r (Free r') = 0
in_worn r (Limbo r' y') = 0

-- the same for its limbo, with this epoch
abbrev pub in_limbo : ℕ → ℕ → Location → ℕ
in_limbo r y (Limbo r' y') = cond (r' == r && y' == y) 1 0
in_limbo r y Fixed = 0
in_limbo r y Live = 0
in_limbo r y (Hand r') = 0
in_limbo r y (Free r') = 0
in_limbo r y (Worn r') = 0
in_limbo r y (OnBoard i) = 0

-- the same, with whatever epoch
abbrev pub in_any_limbo : ℕ → Location → ℕ
in_any_limbo r (Limbo r' y') = cond (r' == r) 1 0
in_any_limbo r Fixed = 0
in_any_limbo r Live = 0
in_any_limbo r (Hand r') = 0
in_any_limbo r (Free r') = 0
in_any_limbo r (Worn r') = 0
in_any_limbo r (OnBoard i) = 0

module _ (c : Counts) where
  -- each node slot and each descriptor stands once in the list that its location names, and in no other; a
  -- runner's lists of node slots have node slots alone
  pub record IsListed (w : EpochState) (l : ℕ → Lists) : Type 0 where
    pub hand : (r s : ℕ) → s < c.nodes → times s (l r).hand ≡ in_hand r (w.location s)
    pub free : (r s : ℕ) → s < c.nodes → times s (l r).free ≡ in_free r (w.location s)
    pub worn : (r s : ℕ) → s < c.nodes → times s (l r).worn ≡ in_worn r (w.location s)
    pub limbo : (r s y : ℕ) → s < c.nodes → times_retired s y (l r).limbo ≡ in_limbo r y (w.location s)
    pub free_descriptors : (r d : ℕ) → d < c.descriptors
        → times d (l r).free_descriptors ≡ in_free r (w.location (slot_of c d))
    pub limbo_descriptors : (r d : ℕ) → d < c.descriptors
        → times d (l r).limbo_descriptors ≡ in_any_limbo r (w.location (slot_of c d))
    pub hand_nodes : (r s : ℕ) → c.nodes ≤ s → times s (l r).hand ≡ 0
    pub free_nodes : (r s : ℕ) → c.nodes ≤ s → times s (l r).free ≡ 0
    pub worn_nodes : (r s : ℕ) → c.nodes ≤ s → times s (l r).worn ≡ 0
    pub limbo_nodes : (r s y : ℕ) → c.nodes ≤ s → times_retired s y (l r).limbo ≡ 0

  -- the lists after a list of events
  abbrev pub listed_all : EpochState → (ℕ → Lists) → List Event → ℕ → Lists
  listed_all w l [] = l
  listed_all w l (e ∷ es) = listed_all (after c w e) (listed w l e) es
