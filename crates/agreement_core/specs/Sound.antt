-- The invariant of agreement.
use Rattle.std.specs.Prelude.{ℕ, suc, ◌<◌, ◌≤◌, ◌≡◌, ◌≢◌, ◌⊎◌, Bool, true}
use Rattle.section_lines.specs.structure_laws.specs.body_terms.specs.Word.{value_of, version_of}
use Rattle.agreement_core.specs.State.{CellRules, Shared, Section, Finished, AgreementState, section_of, IsOpen}
use Rattle.agreement_core.specs.Events.{HasCome, IsPublishable}
use Rattle.agreement_core.specs.Sections.{SectionIsSound}
use Rattle.agreement_core.specs.Runs.{RunIsSound}

-- versions and the words that were read
pub record VersionsAreSound (c : CellRules) (x : Shared) : Type 0 where
  pub positive : (p : ℕ) → 0 < version_of (x.cells p)
  pub bounded : (p : ℕ) → version_of (x.cells p) ≤ c.version_max
  -- a word that was read stands there, or the cell is past it
  pub past : (p word : ℕ) → x.seen p word ≡ true → (x.cells p ≡ word) ⊎ (version_of word < version_of (x.cells p))
  pub read_positive : (p word : ℕ) → x.seen p word ≡ true → 0 < version_of word

-- this is a run of this section
pub record IsOf (f : Finished) (s : Section) : Type 0 where
  pub lock : f.lock ≡ s.lock
  pub word : f.word ≡ s.word

-- two runs that came to their end were of one section
pub record AreOfOne (f f' : Finished) : Type 0 where
  pub lock : f.lock ≡ f'.lock
  pub word : f.word ≡ f'.word

-- the trail of a run that came to its end is the whole log of this section
pub record IsWhole (d : ℕ) (s : Section) (f : Finished) : Type 0 where
  pub descriptor : f.descriptor ≡ d
  pub done : s.done ≢ 0
  pub count : f.count ≡ s.slot s.edge
  pub agreed : (k : ℕ) → k < f.count → f.trail k ≡ s.log k

-- the trails of two runs that came to their end are equal
pub record AreEqual (f f' : Finished) : Type 0 where
  pub count : f.count ≡ f'.count
  pub agreed : (k : ℕ) → k < f.count → f.trail k ≡ f'.trail k

-- the runs that came to their end
pub record FinishedAreSound (w : AgreementState) : Type 0 where
  pub ended : (r i d : ℕ) → i < w.finishes r → w.used d ≡ true → IsOf (w.finished r i) (w.section d) → w.over d ≡ true
  pub past : (r i : ℕ) → i < w.finishes r
      → version_of ((w.finished r i).word) < version_of (w.shared.cells ((w.finished r i).lock))
  pub whole : (r i d : ℕ) → i < w.finishes r → w.used d ≡ true → IsOf (w.finished r i) (w.section d)
      → IsWhole d (w.section d) (w.finished r i)
  pub equal : (r i r' i' : ℕ) → i < w.finishes r → i' < w.finishes r' → AreOfOne (w.finished r i) (w.finished r' i')
      → AreEqual (w.finished r i) (w.finished r' i')

-- what holds of a descriptor that was published since it was last free, by whether it is not retired and
-- whether a run of it came to its end
pub record UsedIsSound (c : CellRules) (x : Shared) (live over : Bool) (d : ℕ) (s : Section) : Type 0 where
  pub published : IsPublishable c d s.lock s.word s.code s.slot
  pub section : SectionIsSound c x d s
  -- its done word is 0 or 1
  pub done_most : s.done ≤ 1
  -- it is retired only once it is done
  pub open_live : s.done ≡ 0 → live ≡ true
  -- after the end of a run it is done, and no lock names it
  pub over_done : over ≡ true → s.done ≢ 0
  pub over_unnamed : over ≡ true → (p : ℕ) → c.is_lock p ≡ true → value_of (x.cells p) ≢ suc d

module _ (c : CellRules) where
  -- what holds after every list of enabled events
  pub record IsSound (w : AgreementState) : Type 0 where
    pub versions : VersionsAreSound c w.shared
    pub sections : (d : ℕ) → w.used d ≡ true → UsedIsSound c w.shared (w.live d) (w.over d) d (w.section d)
    pub runs : (r : ℕ) → (w.run r).running ≡ true
        → RunIsSound c w.shared ((w.run r).descriptor) (section_of w r) (w.run r)
    pub running_used : (r : ℕ) → (w.run r).running ≡ true → w.used ((w.run r).descriptor) ≡ true
    pub live_used : (d : ℕ) → w.live d ≡ true → w.used d ≡ true
    -- a lock word that names a descriptor names a published one that isn't retired
    pub named : (p d : ℕ) → c.is_lock p ≡ true → value_of (w.shared.cells p) ≡ suc d → w.live d ≡ true
    -- no two open sections have come to one place
    pub apart : (d d' p : ℕ) → d ≢ d' → IsOpen w d → IsOpen w d' → HasCome (w.section d) p
        → HasCome (w.section d') p → ⊥
    -- no two sections have the same lock and the same word
    pub single : (d d' : ℕ) → w.used d ≡ true → w.used d' ≡ true → (w.section d).lock ≡ (w.section d').lock
        → (w.section d).word ≡ (w.section d').word → d ≡ d'
    pub finished : FinishedAreSound w
