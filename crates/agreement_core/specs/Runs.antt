-- The invariant of one run of a section.
use Rattle.std.specs.Prelude.{ℕ, suc, ◌<◌, ◌≤◌, ◌≡◌, ◌≢◌, true}
use Rattle.section_lines.specs.structure_laws.specs.body_terms.specs.Word.{value_of}
use Rattle.section_lines.specs.structure_laws.specs.body_terms.specs.declared.micro.Micro.TheVariants.{Commit, NestedCommit, OutcomeCommit}
use Rattle.section_lines.specs.Line.{is_clock_raise}
use Rattle.agreement_core.specs.State.{CellRules, Shared, Section, Run}
use Rattle.agreement_core.specs.Checks.{is_stamp_exchange}

-- its place and its trail
pub record TrailIsSound (s : Section) (q : Run) : Type 0 where
  pub behind : q.at ≤ s.edge
  pub counted : q.count ≡ s.slot q.at
  pub agreed : (k : ℕ) → k < q.count → q.trail k ≡ s.log k
  -- a run that has set the done word is at the edge of a section that is done
  pub ended_done : q.ended ≡ true → s.done ≢ 0
  pub ended_edge : q.ended ≡ true → q.at ≡ s.edge

-- the number that it goes by, where it is about to commit it, to stamp with it, or to raise the clock by it
pub record WordIsSound (x : Shared) (d : ℕ) (s : Section) (q : Run) : Type 0 where
  -- at the edge a loaded word is what the cell holds
  pub standing : (p k : ℕ) → q.at ≡ s.edge → s.code q.at ≡ Commit p k → q.word ≡ x.cells p
  pub read : (p k : ℕ) → s.code q.at ≡ Commit p k → x.seen p q.word ≡ true
  pub nested_read : (p k : ℕ) → s.code q.at ≡ NestedCommit p k → x.seen p q.word ≡ true
  pub outcome_read : (p k : ℕ) → s.code q.at ≡ OutcomeCommit p k → x.seen p q.word ≡ true
  -- a word that was loaded for an outcome names this section where the lock does, and it is that word
  pub outcome_held : s.done ≡ 0 → (p k : ℕ) → s.code q.at ≡ OutcomeCommit p k → value_of q.word ≡ suc d
      → x.cells p ≡ q.word
  pub outcome_named : (p k : ℕ) → s.code q.at ≡ OutcomeCommit p k → value_of (x.cells p) ≡ suc d → q.word ≡ x.cells p
  pub clock_read : is_stamp_exchange (s.code q.at) ≡ true → q.word ≤ x.clock
  pub stamp_agreed : is_clock_raise (s.code q.at) ≡ true → q.word ≡ x.stamp s.request

-- what it has released
pub record ReleasesAreSound (c : CellRules) (x : Shared) (d : ℕ) (q : Run) : Type 0 where
  pub only_ended : (p : ℕ) → q.released p ≡ true → q.ended ≡ true
  pub unnamed : (p : ℕ) → q.released p ≡ true → c.is_lock p ≡ true → value_of (x.cells p) ≢ suc d

-- what holds of a run in this section of this descriptor
pub record RunIsSound (c : CellRules) (x : Shared) (d : ℕ) (s : Section) (q : Run) : Type 0 where
  pub in_trail : TrailIsSound s q
  pub in_word : WordIsSound x d s q
  pub in_releases : ReleasesAreSound c x d q
