-- What agreement says of the machine's log words, trails, locks and cells.
use Rattle.std.proofs.Common.{◌≡◌, ℕ, suc, ◌<◌, ◌≤◌, true, List, length, Some, refl, sym, ap, ◌∙◌, subst, inl, inr, ⊎_elim}
use Rattle.std.specs.Prelude.{◌⊎◌, slice_index, slice_get}
use Rattle.std.proofs.lemmas.Option.{slice_get_within}
use Rattle.std.proofs.lemmas.Grind.{same_number_lists}
use Rattle.machine_states.specs.body_terms.specs.Plain.{first_values}
use Rattle.machine_states.specs.body_terms.specs.Word.{value_of, version_of, held_word}
use Rattle.machine_states.specs.body_terms.proofs.ValueLemmas.{length-first_values, get_or-first_values}
use Rattle.machine_states.specs.table_words.specs.declared.layout.Layout.{Layout}
use Rattle.machine_states.specs.table_words.specs.declared.spot.Spot.TheVariants.{Cell}
use Rattle.machine_states.specs.structure_laws.specs.Meaning.{Meaning}
use Rattle.machine_states.specs.runner_parts.specs.declared.entries.Published.{Published}
use Rattle.machine_states.specs.runner_parts.specs.State.{RunState, FinishedState}
use Rattle.agreement_core.specs.State.{AgreementState}
use Rattle.agreement_core.specs.Sound.{IsOf}
use Rattle.agreement_core.specs.Trails.{RunsAgree, HoldsNothing}
use Rattle.agreement_core.specs.Standing.{LocksStand}
use Rattle.agreement_core.specs.Sections.{HoldsWith}
use Rattle.agreement_core.proofs.Standing.{agree, locks_stand, holds_nothing}
use Rattle.machine_states.specs.Sight.{Sight}
use Rattle.machine_blocks.specs.machine_guards.specs.machine_agreement.specs.machine_scenes.specs.Shown.{rules_of, IsOfThunk}
use Rattle.machine_blocks.specs.machine_guards.specs.machine_agreement.specs.Joined.{IsRunOf, ShowsRun, IsFinishOf, IsJoinedToAgreement}
use Rattle.machine_invariant.specs.Trails.{thunk_at, log_of, agreed_words, IsEndOf, TrailsAgree, IsLockOf, LocksNameSections, CellsArePast}

-- a list of a function's first values
first_of : (xs : List ℕ) (n : ℕ) (f : ℕ → ℕ) → length xs ≡ n → ((k : ℕ) → k < n → slice_index xs k ≡ f k) → xs ≡ first_values n f
first_of xs n f e same = same_number_lists xs (first_values n f) (e ∙ sym (length-first_values n f))
    (λ k lt. let within : k < n = subst (λ i. k < i) e lt in same k within ∙ sym (get_or-first_values n f k within))

module _ (m : Meaning) (l : Layout) (a : AgreementState) (s : Sight) (joined : IsJoinedToAgreement m l a s) where
  of_thunk : (d : ℕ) → a.used d ≡ true → IsOfThunk m (a.section d) (thunk_at m a s d)
  of_thunk = joined.thunks

  -- how many words are agreed
  counts : (d : ℕ) → a.used d ≡ true → (a.section d).slot ((a.section d).edge) ≡ agreed_words m a s d
  counts d used = (of_thunk d used).slot ((a.section d).edge)

  all : RunsAgree a
  all = agree (rules_of m l) a joined.sound

  pub run_is : (r : ℕ) (q : RunState) → (s.part r).run ≡ Some q → IsRunOf (a.run r) q
  run_is r q is = subst (ShowsRun (a.run r)) is (joined.tied r).run

  pub run_used : (r : ℕ) (q : RunState) → (s.part r).run ≡ Some q → a.used q.descriptor ≡ true
  run_used r q is = let run = run_is r q is in ap a.used (sym run.descriptor) ∙ joined.sound.running_used r run.running

  run_log : (r k : ℕ) (q : RunState) → (s.part r).run ≡ Some q → k < length q.trail → slice_index q.trail k ≡ log_of m a s q.descriptor k
  run_log r k q is lt =
      let run = run_is r q is in
      let trails = all.trails r run.running in
      sym (run.trail k) ∙ trails.agreed k (subst (λ n. k < n) (sym run.count) lt)
      ∙ ap (λ n. (a.section n).log k) run.descriptor

  run_short : (r : ℕ) (q : RunState) → (s.part r).run ≡ Some q → length q.trail ≤ agreed_words m a s q.descriptor
  run_short r q is =
      let run = run_is r q is in
      let trails = all.trails r run.running in
      subst (λ n. n ≤ agreed_words m a s q.descriptor) run.count
      (subst (λ n. (a.run r).count ≤ n) (counts q.descriptor (run_used r q is))
      (subst (λ d. (a.run r).count ≤ (a.section d).slot ((a.section d).edge)) run.descriptor trails.short))

  -- what is kept of a run
  kept_is : (r i : ℕ) (f : FinishedState) → slice_get (s.part r).records.finished i ≡ Some f
      → (i < a.finishes r) × IsFinishOf (a.finished r i) f
  kept_is r i f at = (
    subst (λ n. i < n) (sym (joined.tied r).finishes) (slice_get_within (s.part r).records.finished i f at),
    (joined.tied r).finished i f at,
  )

  end_is : (r d : ℕ) (f : FinishedState) → a.used d ≡ true → (e : IsEndOf m a s r d f) → IsOf (a.finished r e.at) (a.section d)
  end_is r d f used e = let kept = (kept_is r e.at f e.kept).1 in let is = of_thunk d used in record {
    lock = kept.lock ∙ e.lock ∙ sym is.lock;
    word = kept.word ∙ e.word ∙ sym is.word;
  }

  whole_is : (r d : ℕ) (f : FinishedState) → a.used d ≡ true → IsEndOf m a s r d f
      → f.trail ≡ first_values (agreed_words m a s d) (log_of m a s d)
  whole_is r d f used e =
      let kept = kept_is r e.at f e.kept in
      let whole = all.whole r e.at d kept.0 used (end_is r d f used e) in
      first_of f.trail (agreed_words m a s d) (log_of m a s d) (sym kept.1.count ∙ whole.count ∙ counts d used)
      (λ k lt. sym (kept.1.trail k) ∙ whole.agreed k (subst (λ n. k < n) (sym (whole.count ∙ counts d used)) lt))

  ended : (r d : ℕ) (f : FinishedState) → a.used d ≡ true → IsEndOf m a s r d f → HoldsNothing (rules_of m l) a d
  ended r d f used e = holds_nothing (rules_of m l) a joined.sound r e.at d ((kept_is r e.at f e.kept).0) used (end_is r d f used e)

  equal_trails : (r r' i i' : ℕ) (f f' : FinishedState) → slice_get (s.part r).records.finished i ≡ Some f
      → slice_get (s.part r').records.finished i' ≡ Some f' → f.lock ≡ f'.lock → f.word ≡ f'.word → f.trail ≡ f'.trail
  equal_trails r r' i i' f f' at at' lock word =
      let kept = kept_is r i f at in
      let kept' = kept_is r' i' f' at' in
      let same = all.equal r i r' i' kept.0 kept'.0
      (record { lock = kept.1.lock ∙ lock ∙ sym kept'.1.lock; word = kept.1.word ∙ word ∙ sym kept'.1.word }) in
      same_number_lists f.trail f'.trail (sym kept.1.count ∙ same.count ∙ kept'.1.count)
      (λ k lt. sym (kept.1.trail k) ∙ same.agreed k (subst (λ n. k < n) (sym kept.1.count) lt) ∙ kept'.1.trail k)

  pub trails_agree : TrailsAgree m a s
  trails_agree = record {
    full = λ d k used lt. (all.logs d used).full k (subst (λ n. k < n) (sym (counts d used)) lt);
    empty = λ d k used le. (all.logs d used).empty k (subst (λ n. n ≤ k) (sym (counts d used)) le);
    running = run_used;
    short = run_short;
    prefix = λ r q is. first_of q.trail (length q.trail) (log_of m a s q.descriptor) refl (λ k lt. run_log r k q is lt);
    whole = whole_is;
    done = λ r d f used e zero. (ended r d f used e).done ((joined.sections d).done ∙ zero);
    equal = equal_trails;
  }

  -- locks
  standing : LocksStand (rules_of m l) a
  standing = locks_stand (rules_of m l) a joined.sound

  -- a lock's word, as agreement has it
  named : (p d : ℕ) → value_of (s.word (Cell p)) ≡ suc d → value_of (a.shared.cells p) ≡ suc d
  named p d v = ap value_of (joined.words.cells p) ∙ v

  lock_of : (p d : ℕ) → a.used d ≡ true → (word : ℕ) → HoldsWith d (a.section d) p word → IsLockOf m a s d p word
  lock_of p d used word holds =
      let is = of_thunk d used in
      ⊎_elim (λ outer. inl (outer.0 ∙ is.lock, outer.1 ∙ ap (held_word d) is.word))
      (λ nested. inr (nested.0, nested.1, sym (is.code nested.0) ∙ nested.3, nested.4)) holds

  pub locks_name : ((d : ℕ) → a.live d ≡ true → (r : ℕ) × (x : Published) × ((s.part r).published ≡ Some x) × (x.descriptor ≡ d))
      → LocksNameSections m a s
  locks_name publishers = record {
    published = λ p d lock v. publishers d (standing.live p d lock (named p d v));
    used = λ p d lock v. standing.published p d lock (named p d v);
    held = λ p d lock v. subst (IsLockOf m a s d p) (joined.words.cells p)
        (lock_of p d (standing.published p d lock (named p d v)) (a.shared.cells p) (standing.held p d lock (named p d v)));
    outer = λ d used zero. let is = of_thunk d used in
        sym (ap (λ p. s.word (Cell p)) is.lock) ∙ sym (joined.words.cells ((a.section d).lock))
        ∙ standing.outer d (record { used = used; undone = (joined.sections d).done ∙ zero }) ∙ ap (held_word d) is.word;
    unnamed = λ r d p f used e lock v. (ended r d f used e).unnamed p lock (named p d v);
  }

  pub cells_past : CellsArePast m a s l.version_max
  cells_past = record {
    positive = λ p. subst (λ n. 0 < version_of n) (joined.words.cells p) (joined.sound.versions.positive p);
    bounded = λ p. subst (λ n. version_of n ≤ l.version_max) (joined.words.cells p) (joined.sound.versions.bounded p);
    read = λ r p word h. subst (λ n. (n ≡ word) ⊎ (version_of word < version_of n)) (joined.words.cells p)
        (joined.sound.versions.past p word ((joined.tied r).read p word h));
  }
