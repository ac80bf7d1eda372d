-- Agreement: what is said of a section's log and of the trails of its runs.
use Rattle.std.specs.Prelude.{ℕ, suc, ◌<◌, ◌≤◌, ◌≡◌, ◌≢◌, true}
use Rattle.section_lines.specs.structure_laws.specs.body_terms.specs.Word.{value_of}
use Rattle.agreement_core.specs.State.{CellRules, Section, Run, AgreementState, section_of}
use Rattle.agreement_core.specs.Sound.{IsOf, IsWhole, AreOfOne, AreEqual}

-- this many words of the log are agreed: they aren't 0, and zeros follow
pub record HasAgreed (s : Section) (count : ℕ) : Type 0 where
  pub full : (k : ℕ) → k < count → 0 < s.log k
  pub empty : (k : ℕ) → count ≤ k → s.log k ≡ 0

-- a run's trail is a prefix of its section's agreed words
pub record IsPrefix (s : Section) (q : Run) (count : ℕ) : Type 0 where
  pub short : q.count ≤ count
  pub agreed : (k : ℕ) → k < q.count → q.trail k ≡ s.log k

-- the number of words that a section has agreed on
abbrev pub agreed_count : Section → ℕ
agreed_count s = s.slot s.edge

-- all runs of a section agree
pub record RunsAgree (w : AgreementState) : Type 0 where
  -- the log of a section, until its descriptor is free again
  pub logs : (d : ℕ) → w.used d ≡ true → HasAgreed (w.section d) (agreed_count (w.section d))
  -- the trail of each run in progress
  pub trails : (r : ℕ) → (w.run r).running ≡ true → IsPrefix (section_of w r) (w.run r) (agreed_count (section_of w r))
  -- the trail of each run that came to its end is the whole log, until the descriptor is free again
  pub whole : (r i d : ℕ) → i < w.finishes r → w.used d ≡ true → IsOf (w.finished r i) (w.section d)
      → IsWhole d (w.section d) (w.finished r i)
  -- and any two of one section are equal, for good
  pub equal : (r i r' i' : ℕ) → i < w.finishes r → i' < w.finishes r' → AreOfOne (w.finished r i) (w.finished r' i')
      → AreEqual (w.finished r i) (w.finished r' i')

-- where a run of this section has come to its end, the section is done, and no lock names it until its
-- descriptor is free again
pub record HoldsNothing (c : CellRules) (w : AgreementState) (d : ℕ) : Type 0 where
  pub done : (w.section d).done ≢ 0
  pub unnamed : (p : ℕ) → c.is_lock p ≡ true → value_of (w.shared.cells p) ≢ suc d
