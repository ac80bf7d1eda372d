-- What was won by the commits of Makes and Retires, beside the state: each is won once.
use Rattle.std.specs.Prelude.{ℕ, suc, ◌-◌, ◌<◌, ◌≤◌, ◌≡◌, Bool, true, false, ◌==◌, cond, List, [], ◌∷◌, length}
use Rattle.epoch_core.specs.declared.location.Location.{Location}
use Rattle.epoch_core.specs.declared.location.Location.TheVariants.{Fixed, Live, Hand, Free, Worn, Limbo, OnBoard}
use Rattle.epoch_core.specs.Update.{upd, upd2}
use Rattle.epoch_core.specs.State.{Counts, Role, Agrees, Makes, Retires, EpochState}
use Rattle.epoch_core.specs.Events.{Event, MakeCommit, RetireCommit, Publish, after, slot_of}

-- the sections are numbered from 1 in the order of their publications. `section` gives the number of the
-- one that a descriptor had last, 0 for none. By section and place in its log: the slots that became live
-- by a commit of its Make there that won, and the epochs with which a commit of its Retire there that won
-- put the slot into limbo
pub record History : Type 0 where
  pub published : ℕ
  pub section : ℕ → ℕ
  pub made : ℕ → ℕ → List ℕ
  pub retired : ℕ → ℕ → List ℕ

-- nothing was published or won
abbrev pub no_history : History
no_history = record { published = 0; section = λ d. 0; made = λ n k. []; retired = λ n k. [] }

-- one more, where the commit found its log word empty, and so won
abbrev pub with_won : ℕ → ℕ → List ℕ → List ℕ
with_won found x xs = cond (found == 0) (x ∷ xs) xs

-- what the event adds
abbrev pub noted : EpochState → History → Event → History
noted w h (MakeCommit r d k s worn) =
    record h { made = upd2 h.made (h.section d) k (with_won (w.log d k) s (h.made (h.section d) k)) }
noted w h (RetireCommit r) = let x = w.retire r in
    record h {
      retired = upd2 h.retired (h.section x.descriptor) x.index
          (with_won (w.log x.descriptor x.index) x.epoch (h.retired (h.section x.descriptor) x.index));
    }
noted w h (Publish r d roles) = record h { published = suc h.published; section = upd h.section d (suc h.published) }
noted w h _ = h

-- a Make's place in the log
abbrev pub is_makes : Role → Bool
is_makes Makes = true
is_makes Agrees = false
is_makes (Retires slot) = false

-- a Retire's place in the log
abbrev pub is_retires : Role → Bool
is_retires (Retires slot) = true
is_retires Agrees = false
is_retires Makes = false

-- the slot was given out
abbrev pub is_out : Location → Bool
is_out Fixed = true
is_out Live = true
is_out (Limbo r y) = true
is_out (Hand r) = false
is_out (Free r) = false
is_out (Worn r) = false
is_out (OnBoard i) = false

-- the slot on which a Make agreed, if it did
abbrev pub agreed_slot : ℕ → List ℕ
agreed_slot word = cond (word == 0) [] ((word - 1) ∷ [])

-- one where something is agreed
abbrev pub agreed_count : ℕ → ℕ
agreed_count word = cond (word == 0) 0 1

-- what was won stays won
pub record Lasts (h h' : History) : Type 0 where
  pub made : (n k : ℕ) → 1 ≤ length (h.made n k) → h'.made n k ≡ h.made n k
  pub retired : (n k : ℕ) → 1 ≤ length (h.retired n k) → h'.retired n k ≡ h.retired n k

module _ (c : Counts) where
  -- the history says what was won by the commits of this state's sections, and of the earlier ones
  pub record IsExact (w : EpochState) (h : History) : Type 0 where
    -- no section has a number above that of the last publication, and no two descriptors have the same section
    pub numbered : (d : ℕ) → h.section d ≤ h.published
    pub named : (d : ℕ) → is_out (w.location (slot_of c d)) ≡ true → 1 ≤ h.section d
    pub apart : (d d' : ℕ) → 1 ≤ h.section d → h.section d ≡ h.section d' → d ≡ d'
    pub unborn_made : (n k : ℕ) → h.published < n → h.made n k ≡ []
    pub unborn_retired : (n k : ℕ) → h.published < n → h.retired n k ≡ []
    -- while a section's descriptor isn't free again: one commit of each agreed Make won, with the agreed
    -- slot, and none of any other
    pub made : (d k : ℕ) → is_out (w.location (slot_of c d)) ≡ true
        → h.made (h.section d) k ≡ cond (is_makes (w.role d k)) (agreed_slot (w.log d k)) []
    -- one commit of each agreed Retire won, with one epoch, and none of any other
    pub retired : (d k : ℕ) → is_out (w.location (slot_of c d)) ≡ true
        → length (h.retired (h.section d) k) ≡ cond (is_retires (w.role d k)) (agreed_count (w.log d k)) 0
    -- no commit of any section's Make or Retire was won twice
    pub made_once : (n k : ℕ) → length (h.made n k) ≤ 1
    pub retired_once : (n k : ℕ) → length (h.retired n k) ≤ 1

  -- the history after a list of events
  abbrev pub noted_all : EpochState → History → List Event → History
  noted_all w h [] = h
  noted_all w h (e ∷ es) = noted_all (after c w e) (noted w h e) es
