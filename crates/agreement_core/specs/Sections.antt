-- The invariant of one section: its log, the cells that it loads and stores to, its locks, and the words of
-- its request.
use Rattle.std.specs.Prelude.{ℕ, suc, ◌/◌, ◌<◌, ◌≤◌, ◌≡◌, ◌≢◌, ◌⊎◌, true, false}
use Rattle.section_lines.specs.structure_laws.specs.body_terms.specs.Word.{value_of, version_of, held_word}
use Rattle.section_lines.specs.structure_laws.specs.body_terms.specs.Line.{is_check, is_end}
use Rattle.section_lines.specs.structure_laws.specs.body_terms.specs.declared.micro.Source.{Source}
use Rattle.section_lines.specs.structure_laws.specs.body_terms.specs.declared.micro.Micro.TheVariants.{Commit, NestedCommit, NestedHold, OutcomeCommit, RetireCommit, ExchangeCell}
use Rattle.section_lines.specs.Line.{is_clock_raise}
use Rattle.agreement_core.specs.State.{CellRules, Shared, Section}
use Rattle.agreement_core.specs.Checks.{passes, is_stop, stored_word, is_stamp_exchange, is_reply_exchange}

-- the log: words that aren't 0 up to the edge, then zeros; each check below the edge passes
pub record LogIsSound (c : CellRules) (d : ℕ) (s : Section) : Type 0 where
  pub full : (k : ℕ) → k < s.slot s.edge → 0 < s.log k
  pub empty : (k : ℕ) → s.slot s.edge ≤ k → s.log k ≡ 0
  pub passed : (i : ℕ) → i < s.edge → is_check (s.code i) ≡ true → passes c d s.log (s.code i) ≡ true
  pub within : (i : ℕ) → i < s.edge → is_end (s.code i) ≡ false
  -- a Retire's agreed word names its slot
  pub retired : (i slot k : ℕ) → i < s.edge → s.code i ≡ RetireCommit slot k → s.log k ≡ suc slot
  -- a section is done only where its runs go no further
  pub stops : s.done ≢ 0 → is_stop c d s.log (s.code s.edge) ≡ true

-- the cells that it has loaded
pub record CellsAreSound (x : Shared) (s : Section) : Type 0 where
  -- until it is done, a cell holds the agreed word up to the own store, and the stored word from then on
  pub loaded : s.done ≡ 0 → (i p k : ℕ) → i < s.edge → s.code i ≡ Commit p k
      → ((j k' : ℕ) (v : Source) → j < s.edge → s.code j ≢ ExchangeCell p k' v) → x.cells p ≡ s.log k
  pub stored : s.done ≡ 0 → (i p k : ℕ) (v : Source) → i < s.edge → s.code i ≡ ExchangeCell p k v
      → x.cells p ≡ stored_word s.log k v
  -- a cell to which it has stored is past the agreed word, and holds the stored word or a later version
  pub left : (i p k : ℕ) (v : Source) → i < s.edge → s.code i ≡ ExchangeCell p k v
      → version_of (s.log k) < version_of (x.cells p)
  pub lasting : (i p k : ℕ) (v : Source) → i < s.edge → s.code i ≡ ExchangeCell p k v
      → version_of (x.cells p) ≡ suc (version_of (s.log k))
      → x.cells p ≡ stored_word s.log k v
  -- an agreed word was read there
  pub read : (i p k : ℕ) → i < s.edge → s.code i ≡ Commit p k → x.seen p (s.log k) ≡ true

-- the section holds this lock with this word: the outer lock, or one that its runs have come to take
abbrev pub HoldsWith : ℕ → Section → ℕ → ℕ → Type 0
HoldsWith d s place word = ((place ≡ s.lock) × (word ≡ held_word d s.word))
    ⊎ ((i : ℕ) × (free : ℕ) × (i < s.edge) × (s.code i ≡ NestedHold place free) × (word ≡ held_word d free))

-- its locks
pub record LocksAreSound (c : CellRules) (x : Shared) (d : ℕ) (s : Section) : Type 0 where
  -- it holds the outer lock until it is done, and the lock is past the word that was expected there
  pub outer_held : s.done ≡ 0 → x.cells s.lock ≡ held_word d s.word
  pub outer_past : version_of s.word < version_of (x.cells s.lock)
  -- a nested lock that its runs have tried to take is past the word that was expected there
  pub nested_past : (i p free : ℕ) → i < s.edge → s.code i ≡ NestedHold p free
      → version_of free < version_of (x.cells p)
  pub nested_read : (i p k : ℕ) → i < s.edge → s.code i ≡ NestedCommit p k → x.seen p (s.log k) ≡ true
  pub outcome_read : (i p k : ℕ) → i < s.edge → s.code i ≡ OutcomeCommit p k → x.seen p (s.log k) ≡ true
  -- where the agreed outcome names this section, the lock has that word until the section is done
  pub outcome_held : s.done ≡ 0 → (i p k : ℕ) → i < s.edge → s.code i ≡ OutcomeCommit p k
      → value_of (s.log k) ≡ suc d → x.cells p ≡ s.log k
  -- a lock that names this section has the agreed outcome, and is held with the word of its Take
  pub outcome_named : (i p k : ℕ) → i < s.edge → s.code i ≡ OutcomeCommit p k → value_of (x.cells p) ≡ suc d
      → s.log k ≡ x.cells p
  pub held : (p : ℕ) → c.is_lock p ≡ true → value_of (x.cells p) ≡ suc d → HoldsWith d s p (x.cells p)

-- the words of its request
pub record RequestIsSound (x : Shared) (s : Section) : Type 0 where
  pub stamped : (i : ℕ) → i < s.edge → is_stamp_exchange (s.code i) ≡ true → 0 < x.stamp s.request
  pub raised : (i : ℕ) → i < s.edge → is_clock_raise (s.code i) ≡ true → x.stamp s.request / 2 ≤ x.clock
  pub replied : (i : ℕ) → i < s.edge → is_reply_exchange (s.code i) ≡ true → 0 < x.reply s.request

-- what holds of a section from its publication until its descriptor is free
pub record SectionIsSound (c : CellRules) (x : Shared) (d : ℕ) (s : Section) : Type 0 where
  pub in_log : LogIsSound c d s
  pub in_cells : CellsAreSound x s
  pub in_locks : LocksAreSound c x d s
  pub in_request : RequestIsSound x s
