-- What a section and its runs keep while others change the shared words.
use Rattle.std.proofs.Common.{◌≡◌, ◌≢◌, ℕ, zero, suc, ◌<◌, ◌≤◌, Bool, true, false, refl, sym, ap, ◌∙◌, subst, arith}
use Rattle.std.specs.Prelude.{◌⊎◌}
use Rattle.section_lines.specs.structure_laws.specs.body_terms.specs.Line.{is_event}
use Rattle.section_lines.specs.structure_laws.specs.body_terms.specs.Word.{value_of, version_of}
use Rattle.section_lines.specs.structure_laws.specs.body_terms.specs.declared.micro.Micro.TheVariants as micros
use Rattle.section_lines.specs.Line.{is_clock_raise}
use Rattle.agreement_core.specs.State.{CellRules, Shared, Section, Run}
use Rattle.agreement_core.specs.Checks.{is_stop}
use Rattle.agreement_core.specs.Events.{HasCome, IsPublishable}
use Rattle.agreement_core.specs.Sections.{LogIsSound, CellsAreSound, LocksAreSound, RequestIsSound, SectionIsSound, HoldsWith}
use Rattle.agreement_core.specs.Runs.{WordIsSound, ReleasesAreSound, RunIsSound}
use Rattle.agreement_core.proofs.Words.{value_held, past_later, first_later}
use Rattle.agreement_core.proofs.Lines.{event_goes, outcome_lock, stamp_of_raise}

-- what others leave of the cells: the loaded ones until the section is done
abbrev pub LeavesLoaded : Section → (ℕ → ℕ) → (ℕ → ℕ) → Type 0
LeavesLoaded s cells cells' = s.done ≡ 0 → (p : ℕ) → HasCome s p → cells' p ≡ cells p

-- the locks that the section holds until it is done; and no other lock comes to name it
pub record LeavesLocks (c : CellRules) (d : ℕ) (s : Section) (cells cells' : ℕ → ℕ) : Type 0 where
  pub held : s.done ≡ 0 → (p : ℕ) → c.is_lock p ≡ true → value_of (cells p) ≡ suc d → cells' p ≡ cells p
  pub named : (p : ℕ) → c.is_lock p ≡ true → value_of (cells' p) ≡ suc d → cells' p ≡ cells p

-- a cell that changes gets a later version
abbrev pub Rises : (ℕ → ℕ) → (ℕ → ℕ) → Type 0
Rises cells cells' = (p : ℕ) → (cells' p ≡ cells p) ⊎ (version_of (cells p) < version_of (cells' p))

-- what others leave of the cells to a section
pub record LeavesCells (c : CellRules) (d : ℕ) (s : Section) (cells cells' : ℕ → ℕ) : Type 0 where
  pub loaded : LeavesLoaded s cells cells'
  pub locks : LeavesLocks c d s cells cells'

-- the other shared words: what was read, the clock and the words that were written stand
pub record LeavesWords (x x' : Shared) : Type 0 where
  pub seen : (p word : ℕ) → x.seen p word ≡ true → x'.seen p word ≡ true
  pub clock : x.clock ≤ x'.clock
  pub stamp : (q : ℕ) → 0 < x.stamp q → x'.stamp q ≡ x.stamp q
  pub reply : (q : ℕ) → 0 < x.reply q → x'.reply q ≡ x.reply q

pub zero_unless : (n : ℕ) → (n ≢ 0 → ⊥) → n ≡ 0
zero_unless zero h = refl
zero_unless (suc n) h = absurd (h (λ e. omega arith))

pub not_both : (b : Bool) → b ≡ true → b ≡ false → ⊥
not_both b x y = grind arith

-- a section of which a run may go on at the edge is open
pub undone : (c : CellRules) (d : ℕ) (s : Section) → LogIsSound c d s → is_stop c d s.log (s.code s.edge) ≡ false → s.done ≡ 0
undone c d s in_log goes = zero_unless s.done (λ ne. not_both _ (in_log.stops ne) goes)

module _ (c : CellRules) (d : ℕ) (s : Section) (p : IsPublishable c d s.lock s.word s.code s.slot) (x x' : Shared)
    (rises : Rises x.cells x'.cells) (words : LeavesWords x x') where
  pub cells_frame : LeavesLoaded s x.cells x'.cells → CellsAreSound x s → CellsAreSound x' s
  cells_frame leaves old = record {
    loaded = λ un i place k lt e none. leaves un place (i, k, omega arith, e) ∙ old.loaded un i place k lt e none;
    stored = λ un i place k v lt e. let j = p.line.resolved.store_loaded i place k v e in
        leaves un place (j.0, k, omega arith, j.2) ∙ old.stored un i place k v lt e;
    left = λ i place k v lt e. past_later _ _ _ (old.left i place k v lt e) (rises place);
    lasting = λ i place k v lt e is. let same = first_later _ _ _ (old.left i place k v lt e) (rises place) is in
        same ∙ old.lasting i place k v lt e (ap version_of (sym same) ∙ is);
    read = λ i place k lt e. words.seen place _ (old.read i place k lt e);
  }

  pub locks_frame : LeavesLocks c d s x.cells x'.cells → LocksAreSound c x d s → LocksAreSound c x' d s
  locks_frame leaves old = record {
    outer_held = λ un. let h = old.outer_held un in leaves.held un s.lock p.line.placed.outer_lock
        (ap value_of h ∙ value_held d s.word p.link) ∙ h;
    outer_past = past_later _ _ _ old.outer_past (rises s.lock);
    nested_past = λ i place free lt e. past_later _ _ _ (old.nested_past i place free lt e) (rises place);
    nested_read = λ i place k lt e. words.seen place _ (old.nested_read i place k lt e);
    outcome_read = λ i place k lt e. words.seen place _ (old.outcome_read i place k lt e);
    outcome_held = λ un i place k lt e v. let h = old.outcome_held un i place k lt e v in
        leaves.held un place (outcome_lock c s.lock s.code s.slot p.line i place k e) (ap value_of h ∙ v) ∙ h;
    outcome_named = λ i place k lt e v. let same = leaves.named place (outcome_lock c s.lock s.code s.slot p.line i place k e) v in
        old.outcome_named i place k lt e (ap value_of (sym same) ∙ v) ∙ sym same;
    held = λ place lock v. let same = leaves.named place lock v in
        subst (HoldsWith d s place) (sym same) (old.held place lock (ap value_of (sym same) ∙ v));
  }

  -- the stamp word was written before a raise of the clock
  stamp_before : RequestIsSound x s → (i : ℕ) → i ≤ s.edge → is_clock_raise (s.code i) ≡ true → 0 < x.stamp s.request
  stamp_before old i le raise = let j = stamp_of_raise c s.lock s.code s.slot p.line p.whole i raise in old.stamped j.0 (omega arith) j.2

  pub request_frame : RequestIsSound x s → RequestIsSound x' s
  request_frame old = record {
    stamped = λ i lt e. let h = old.stamped i lt e in subst (λ n. 0 < n) (sym (words.stamp s.request h)) h;
    raised = λ i lt e. let h = old.raised i lt e in let same = words.stamp s.request (stamp_before old i (omega arith) e) in
        let up = words.clock in grind arith;
    replied = λ i lt e. let h = old.replied i lt e in subst (λ n. 0 < n) (sym (words.reply s.request h)) h;
  }

  pub section_frame : LeavesCells c d s x.cells x'.cells → SectionIsSound c x d s → SectionIsSound c x' d s
  section_frame leaves old = record {
    in_log = old.in_log;
    in_cells = cells_frame leaves.loaded old.in_cells;
    in_locks = locks_frame leaves.locks old.in_locks;
    in_request = request_frame old.in_request;
  }

  -- the number that a run goes by, by what others leave of the lock whose outcome it has loaded, and of the cell that it has loaded at the edge
  pub word_frame : (q : Run) → RequestIsSound x s → q.at ≤ s.edge
      → (s.done ≡ 0 → (place k : ℕ) → s.code q.at ≡ micros.OutcomeCommit place k → value_of (x.cells place) ≡ suc d
      → x'.cells place ≡ x.cells place)
      → ((place k : ℕ) → s.code q.at ≡ micros.OutcomeCommit place k → value_of (x'.cells place) ≡ suc d → x'.cells place ≡ x.cells place)
      → ((place k : ℕ) → q.at ≡ s.edge → s.code q.at ≡ micros.Commit place k → q.word ≡ x'.cells place) → WordIsSound x d s q
      → WordIsSound x' d s q
  word_frame q request behind held named standing old = record {
    standing = standing;
    read = λ place k e. words.seen place _ (old.read place k e);
    nested_read = λ place k e. words.seen place _ (old.nested_read place k e);
    outcome_read = λ place k e. words.seen place _ (old.outcome_read place k e);
    outcome_held = λ un place k e v. let h = old.outcome_held un place k e v in held un place k e (ap value_of h ∙ v) ∙ h;
    outcome_named = λ place k e v. let same = named place k e v in old.outcome_named place k e (ap value_of (sym same) ∙ v) ∙ sym same;
    clock_read = λ e. let h = old.clock_read e in let up = words.clock in omega arith;
    stamp_agreed = λ e. old.stamp_agreed e ∙ sym (words.stamp s.request (stamp_before request q.at behind e));
  }

  pub standing_frame : (q : Run) → LogIsSound c d s → q.at ≤ s.edge → LeavesLoaded s x.cells x'.cells → WordIsSound x d s q
      → (place k : ℕ) → q.at ≡ s.edge → s.code q.at ≡ micros.Commit place k → q.word ≡ x'.cells place
  standing_frame q in_log behind leaves old place k at e =
      let un = undone c d s in_log (event_goes c d s.log _ (ap is_event (ap s.code (sym at) ∙ e))) in
      old.standing place k at e ∙ sym (leaves un place (q.at, k, behind, e))

  pub releases_frame : (q : Run) → LeavesLocks c d s x.cells x'.cells → ReleasesAreSound c x d q → ReleasesAreSound c x' d q
  releases_frame q leaves old = record {
    only_ended = old.only_ended;
    unnamed = λ place rel lock v. old.unnamed place rel lock (ap value_of (sym (leaves.named place lock v)) ∙ v);
  }

  pub run_frame : (q : Run) → LeavesCells c d s x.cells x'.cells → SectionIsSound c x d s → RunIsSound c x d s q → RunIsSound c x' d s q
  run_frame q leaves section old = record {
    in_trail = old.in_trail;
    in_word = word_frame q section.in_request old.in_trail.behind
        (λ un place k e. leaves.locks.held un place (outcome_lock c s.lock s.code s.slot p.line q.at place k e))
        (λ place k e. leaves.locks.named place (outcome_lock c s.lock s.code s.slot p.line q.at place k e))
        (standing_frame q section.in_log old.in_trail.behind leaves.loaded old.in_word) old.in_word;
    in_releases = releases_frame q leaves.locks old.in_releases;
  }
