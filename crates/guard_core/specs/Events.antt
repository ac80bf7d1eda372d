-- The events of guards, when each may come, and the state after it.
use Rattle.std.specs.Prelude.{ℕ, ◌<◌, ◌≤◌, ◌≡◌, ◌≢◌, true, false, List, [], ◌∷◌, ◌++◌, length, Some, None}
use Rattle.guard_core.specs.State.{Counts, Free, Live, GuardState, word_of, IsSureOf, most_linked}
use Rattle.guard_core.specs.Update.{upd}
use Rattle.guard_core.specs.Moves.{retired, given_back, swept}

-- what may happen; `r` is the runner, `d` a descriptor, `b` a block
pub data Event : Type 0 where
  -- a runner begins to enter, and exits
  Enter : (r : ℕ) → Event
  Exit : (r : ℕ) → Event
  -- it stores a descriptor's number into its guard word, or nothing
  StoreGuard : (r d : ℕ) → Event
  ClearGuard : (r : ℕ) → Event
  -- it loads a lock again behind its guard, and the lock still names the descriptor
  Validate : (r d : ℕ) → Event
  -- it publishes a section in an own free descriptor
  Publish : (r d : ℕ) → Event
  -- it begins a run of a section, links an own block, and comes to the last release of the run
  Begin : (r d : ℕ) → Event
  Link : (r d b : ℕ) → Event
  Finish : (r d : ℕ) → Event
  -- a sweep of the guard words: one of them, and the last one, which ends it
  LoadGuard : (r : ℕ) → Event
  LoadLast : (r : ℕ) → Event

-- the guard words that a sweep has read, with the one that it reads now
abbrev pub with_next : GuardState → ℕ → List ℕ
with_next w r = w.looked r ++ word_of (w.guard (length (w.looked r))) ∷ []

-- the state after an event
abbrev pub after : GuardState → Event → GuardState
after w (Enter r) = record w { entered = upd w.entered r true; looked = upd w.looked r [] }
after w (Exit r) = record w { entered = upd w.entered r false }
after w (StoreGuard r d) = record w { guard = upd w.guard r (Some d); sure = upd w.sure r false }
after w (ClearGuard r) = record w { guard = upd w.guard r None; sure = upd w.sure r false }
after w (Validate r d) = record w { sure = upd w.sure r true; block = λ b. given_back r d (w.block b) }
after w (Publish r d) = record w {
  sure = upd w.sure r true;
  descriptor = upd w.descriptor d (Live r);
  block = λ b. given_back r d (w.block b);
  linked = upd w.linked d [];
  over = upd w.over d false;
}
after w (Begin r d) = record w { run = upd w.run r (Some d) }
after w (Link r d b) = record w { block = upd w.block b (Live r); linked = upd w.linked d (w.linked d ++ b ∷ []) }
after w (Finish r d) = record w {
  run = upd w.run r None;
  descriptor = upd w.descriptor d (retired r d (w.descriptor d));
  block = λ b. retired r d (w.block b);
  over = upd w.over d true;
}
after w (LoadGuard r) = record w { looked = upd w.looked r (with_next w r) }
after w (LoadLast r) = record w {
  looked = upd w.looked r [];
  descriptor = λ d. swept r (with_next w r) (w.descriptor d);
  block = λ b. swept r (with_next w r) (w.block b);
}

-- it runs no section, and has no published descriptor: so its guard may move
abbrev pub MayMove : GuardState → ℕ → Type 0
MayMove w r = (w.run r ≡ None) × ((d : ℕ) → w.descriptor d ≢ Live r)

module _ (c : Counts) where
  -- when an event may come
  abbrev pub Enabled : GuardState → Event → Type 0
  Enabled w (Enter r) = w.entered r ≡ false
  Enabled w (Exit r) = w.guard r ≡ None
  Enabled w (StoreGuard r d) = (r ≤ c.runners) × (w.entered r ≡ true) × MayMove w r
  Enabled w (ClearGuard r) = MayMove w r
  Enabled w (Validate r d) = (w.guard r ≡ Some d) × (w.run r ≡ None) × (w.over d ≡ false)
      × ((q : ℕ) × (w.descriptor d ≡ Live q))
  Enabled w (Publish r d) = (w.guard r ≡ Some d) × (w.descriptor d ≡ Free r)
  Enabled w (Begin r d) = IsSureOf w r d × (w.run r ≡ None)
  Enabled w (Link r d b) = (w.run r ≡ Some d) × (w.block b ≡ Free r) × (length (w.linked d) < most_linked)
  Enabled w (Finish r d) = w.run r ≡ Some d
  Enabled w (LoadGuard r) = (w.entered r ≡ false) × (length (w.looked r) < c.runners)
  Enabled w (LoadLast r) = (w.entered r ≡ false) × (length (w.looked r) ≡ c.runners)
