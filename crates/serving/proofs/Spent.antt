-- What a runner keeps of the word by which it was turned away, since too few versions were left.
use Rattle.std.specs.Prelude.{◌==◌, ◌&&◌, ◌⊎◌, cond, nat_lt, Bool, true, false, slice_get, if◌then◌else◌}
use Rattle.std.proofs.Common.{◌≡◌, ℕ, ◌+◌, ◌-◌, ◌<◌, List, [], ◌∷◌, ◌++◌, length, refl, sym, ap, ◌∙◌, subst, ⊎_elim, inl, inr, arith, Some, None, Err}
use Rattle.std.proofs.lemmas.Bool.{eq-eqb}
use Rattle.std.proofs.lemmas.Bool.Decides.{nat_tests}
use Rattle.machine_states.specs.epoch_core.specs.small_lemmas.proofs.Lists.{get_last}
use Rattle.machine_states.specs.map_history.specs.declared.op.Op.{Op}
use Rattle.machine_states.specs.map_history.specs.declared.op.Request.{Request}
use Rattle.machine_states.specs.body_terms.specs.Word.{value_of, version_of, pack, is_free, is_spent}
use Rattle.machine_states.specs.body_terms.specs.declared.outcome.Outcome.{Outcome}
use Rattle.machine_states.specs.body_terms.specs.declared.outcome.Outcome.TheVariants as outcomes
use Rattle.machine_states.specs.body_terms.specs.declared.outcome.Refused.{Refused}
use Rattle.machine_states.specs.body_terms.specs.declared.outcome.Refused.TheVariants as refusals
use Rattle.machine_states.specs.body_terms.specs.declared.thunk.Thunk.{Thunk}
use Rattle.machine_states.specs.table_words.specs.declared.layout.Layout.{Layout}
use Rattle.machine_states.specs.structure_laws.specs.Cells.{slots}
use Rattle.machine_states.specs.structure_laws.specs.Scene.{Readings}
use Rattle.machine_states.specs.structure_laws.specs.Meaning.{Meaning}
use Rattle.machine_states.specs.runner_parts.specs.declared.event.EventKind.TheVariants as kinds
use Rattle.machine_states.specs.runner_parts.specs.State.{FinishedState, ReadsState}
use Rattle.machine_states.specs.runner_parts.specs.Tests.{has_pair}
use Rattle.machine_states.proofs.Steps.{some_same, none_some}
use Rattle.attempt_bounds.specs.attempts.specs.lock_words.specs.Spent.{IsLate}
use Rattle.attempt_bounds.specs.version_words.specs.RunnerState.{RunnerState}
use Rattle.attempt_bounds.specs.version_words.specs.Events.{IsMade}
use Rattle.attempt_bounds.specs.attempts.specs.epoch_slots.specs.Entries.{Exits}
use Rattle.attempt_bounds.specs.attempts.specs.epoch_slots.proofs.Outside.{reads_made}
use Rattle.attempt_bounds.specs.attempts.specs.try_lock.specs.declared.planned.Planned.{Planned}
use Rattle.attempt_bounds.specs.attempts.specs.try_lock.specs.declared.planned.Planned.TheVariants as plans
use Rattle.attempt_bounds.specs.attempts.specs.try_lock.specs.Planning.{Planning}
use Rattle.attempt_bounds.specs.attempts.specs.try_lock.specs.Plans.{refused_at, refused_by_lock, IsRefused, HasWalked}
use Rattle.attempt_bounds.specs.attempts.specs.try_lock.specs.Publishes.{refused_by}
use Rattle.attempt_bounds.specs.attempts.specs.try_lock.proofs.Guarding.{guard_at, guard_reads, guard_keeps}
use Rattle.attempt_bounds.specs.attempts.specs.Course.{of_plan, of_refusal, of_outcome, HasPlanned, HasTried, HasLeft}
use Rattle.attempt_bounds.specs.attempts.specs.Attempts.{IsTurnedAway}
use Rattle.attempt_bounds.specs.attempts.specs.declared.answers.Attempt.TheVariants as attempts
use Rattle.serving.proofs.Lists.{and_true, or_first, or_second}

-- the list has its last pair
has_here : (p w : ℕ) → has_pair ((p, w) ∷ []) p w ≡ true
has_here p w = or_first _ false (and_true _ _ (eq-eqb p p refl) (eq-eqb w w refl))

has_more : (xs ys : List (ℕ × ℕ)) (p w : ℕ) → has_pair ys p w ≡ true → has_pair (xs ++ ys) p w ≡ true
has_more [] ys p w e = e
has_more (x ∷ xs) ys p w e = or_second (x.0 == p && x.1 == w) _ (has_more xs ys p w e)

free_of : (l : Layout) (word : ℕ) → is_spent l.version_max word ≡ true → is_free word ≡ true
free_of l word e = by (is_free word) e
  where
    by : (b : Bool) → (b && nat_lt l.version_max (version_of word + 2)) ≡ true → b ≡ true
    by true e = refl
    by false e = absurd (let z = e in cc)

late_of : (l : Layout) (word : ℕ) → is_spent l.version_max word ≡ true → IsLate l word
late_of l word e = by (is_free word) e
  where
    by : (b : Bool) → (b && nat_lt l.version_max (version_of word + 2)) ≡ true → l.version_max < version_of word + 2
    by true e = grind (arith, nat_tests)
    by false e = absurd (let z = e in cc)

spent_same : (p q a b : ℕ) → attempts.Spent p a ≡ attempts.Spent q b → (p ≡ q) × (a ≡ b)
spent_same p q a b e = (cc, cc)

plan_same : (p q a b : ℕ) → plans.Spent p a ≡ plans.Spent q b → (p ≡ q) × (a ≡ b)
plan_same p q a b e = (cc, cc)

word_same : (a b : ℕ) → refusals.Spent a ≡ refusals.Spent b → a ≡ b
word_same a b e = cc

-- which reading refuses a plan as spent
module _ (m : Meaning) (planning : Planning) (l : Layout) (op : Op) (before : Readings) (p w place word : ℕ) where
  abbrev IsThis : Type 0
  IsThis = (p ≡ place) × (w ≡ word) × (is_free w ≡ true) × IsLate l w × (m.is_lock p ≡ true)

  this : Some (plans.Spent p w) ≡ Some (plans.Spent place word) → is_spent l.version_max w ≡ true → m.is_lock p ≡ true → IsThis
  this e late lock = let same = plan_same p place w word (some_same _ _ e) in (same.0, same.1, free_of l w late, late_of l w late, lock)

  by_lock : (free spent : Bool) → is_spent l.version_max w ≡ spent → m.is_lock p ≡ true
      → (if free then (if spent then Some (plans.Spent p w) else None) else Some (plans.Busy p w)) ≡ Some (plans.Spent place word) → IsThis
  by_lock true true late lock e = this e late lock
  by_lock true false late lock e = absurd (none_some _ (sym e))
  by_lock false spent late lock e = absurd (let z = some_same _ _ e in cc)

  by_link : (mark far : Bool) (expected loads : ℕ)
      → (if mark then Some (plans.Stale p expected w) else (if far then Some (plans.Far loads) else None)) ≡ Some (plans.Spent place word) → IsThis
  by_link true far expected loads e = absurd (let z = some_same _ _ e in cc)
  by_link false true expected loads e = absurd (let z = some_same _ _ e in cc)
  by_link false false expected loads e = absurd (none_some _ (sym e))

  refused_spent : refused_at m planning l op before p w ≡ Some (plans.Spent place word) → IsThis
  refused_spent = by (m.is_lock p) refl
    where
      by : (b : Bool) → m.is_lock p ≡ b → (if b then refused_by_lock l.version_max p w
          else (if planning.is_mark p && (value_of w == 1) then Some (plans.Stale p (pack 0 (version_of w - 1)) w)
          else (if planning.is_far l op (before ++ (p, w) ∷ []) then Some (plans.Far (slots m l + 8)) else None))) ≡ Some (plans.Spent place word) → IsThis
      by true lock e = by_lock (is_free w) (is_spent l.version_max w) refl lock e
      by false lock e = by_link (planning.is_mark p && (value_of w == 1)) (planning.is_far l op (before ++ (p, w) ∷ [])) _ _ e

-- which word refuses a publication as spent
refused_found : (l : Layout) (expected found word : ℕ) → refusals.Spent word ≡ refused_by l.version_max expected found → (found ≡ word) × (is_free found ≡ true) × IsLate l found
refused_found l expected found word = by (is_free found) (is_spent l.version_max found) refl
  where
    by : (free late : Bool) → is_spent l.version_max found ≡ late
        → refusals.Spent word ≡ cond free (cond late (refusals.Spent found) (refusals.Stale expected found)) (refusals.Busy found) → (found ≡ word) × (is_free found ≡ true) × IsLate l found
    by true true late e = (sym (word_same word found e), free_of l found late, late_of l found late)
    by true false late e = absurd (let z = e in cc)
    by false spent late e = absurd (let z = e in cc)

module _ {T : Type 0} (m : Meaning) (place word : ℕ) (new : RunnerState T) where
  -- it is a lock's free word that the runner has read since it entered, behind which too few versions are left
  abbrev pub WasRead : Type 0
  WasRead = (m.is_lock place ≡ true) × (is_free word ≡ true) × IsLate new.layout word × (has_pair new.part.reads.cells place word ≡ true)

  module _ (cut : RunnerState T) (exits : Exits m cut new) (resting : cut.part.run ≡ None) where
    -- the exit keeps what was read
    reads_kept : new.part.reads ≡ cut.part.reads
    reads_kept = reads_made m kinds.Idle exits.announce.found cut new exits.announce.event resting

    was_read : (l : Layout) (p w : ℕ) → l ≡ new.layout → p ≡ place → w ≡ word → m.is_lock p ≡ true → is_free w ≡ true → IsLate l w
        → has_pair cut.part.reads.cells p w ≡ true → WasRead
    was_read l p w same is_place is_word lock free late has = (
      subst (λ k. m.is_lock k ≡ true) is_place lock,
      subst (λ k. is_free k ≡ true) is_word free,
      subst (λ k. IsLate k word) same (subst (IsLate l) is_word late),
      (λ i. has_pair (reads_kept i).cells (sym is_place i) (sym is_word i)) ∙ has,
    )

    -- by it a plan was refused, behind whose loads the runner left
    pub plan_read : (planning : Planning) (l : Layout) (op : Op) (readings : Readings) (p w : ℕ) (entered : RunnerState T) → HasWalked m readings entered cut
        → IsRefused m planning l op readings (plans.Spent p w) → l ≡ new.layout → p ≡ place → w ≡ word → WasRead
    plan_read planning l op readings p w entered walked why same is_place is_word =
        let is = refused_spent m planning l op why.before why.place why.word p w why.cause in
        was_read l why.place why.word same (is.0 ∙ is_place) (is.1 ∙ is_word) is.4 is.2 is.3
        (ap (λ (r : ReadsState). has_pair r.cells why.place why.word) walked.reads
        ∙ has_more entered.part.reads.cells readings why.place why.word
        (ap (λ xs. has_pair xs why.place why.word) why.last ∙ has_more why.before ((why.place, why.word) ∷ []) why.place why.word (has_here why.place why.word)))

module _ {T : Type 0} (m : Meaning) (planning : Planning) (request : Request) (place word : ℕ) (old new : RunnerState T)
    (layout : new.layout ≡ old.layout) (away : IsTurnedAway m planning request (attempts.Spent place word) old new) where
  abbrev cut : RunnerState T
  cut = away.cut

  exits : Exits m cut new
  exits = away.leaves

  -- it is a word that the runner has read
  abbrev IsRead : Type 0
  IsRead = WasRead m place word new

  -- or by which a section left that it has run to its end
  abbrev HasEnded : Type 0
  HasEnded = (i : ℕ) × (f : FinishedState) × (slice_get new.part.records.finished i ≡ Some f) × (f.outcome ≡ outcomes.Spent place word)

  by_plan : (readings : Readings) (refusal : Planned) → HasPlanned m planning request readings refusal old cut
      → attempts.Spent place word ≡ of_plan refusal → IsRead
  by_plan readings (plans.Spent p w) planned same =
      let ends = spent_same place p word w same in
      plan_read m place word new cut exits (planned.walked.at planned.enters.enters.epoch None planned.enters.enters.at).resting
      planning old.layout request.op readings p w planned.entered planned.walked planned.answers (sym layout) (sym ends.0) (sym ends.1)
  by_plan readings (plans.Busy p w) planned same = absurd (let z = same in cc)
  by_plan readings (plans.Stale p expected read) planned same = absurd (let z = same in cc)
  by_plan readings (plans.Far loads) planned same = absurd (let z = same in cc)
  by_plan readings (plans.Thunk thunk) planned same = absurd (let z = same in cc)
  by_plan readings plans.Halted planned same = absurd (let z = same in cc)

  by_lock_word : (thunk : Thunk) (refusal : Refused) (guarded : RunnerState T) → HasTried m planning request thunk (Err refusal) old guarded
      → IsMade m (kinds.Guard None) guarded cut → m.is_lock thunk.lock ≡ true → attempts.Spent place word ≡ of_refusal thunk.lock refusal → IsRead
  by_lock_word thunk (refusals.Spent w) guarded tried goes lock same =
      let publishes = tried.publishes in
      let refused = publishes.refused in
      let is = refused_found tried.planned.layout thunk.word publishes.found w refused.why in
      let ends = spent_same place thunk.lock word w same in
      let epoch = tried.plans.enters.enters.epoch in
      let at = refused.at epoch (tried.plans.walked.at epoch None tried.plans.enters.enters.at) in
      was_read m place word new cut exits (guard_at m None goes.found guarded cut goes.event epoch at).resting
      tried.planned.layout thunk.lock publishes.found (tried.plans.still.layout ∙ sym layout) (sym ends.0) (is.0 ∙ sym ends.1) lock is.1 is.2
      (ap (λ (s : ReadsState). has_pair s.cells thunk.lock publishes.found) (guard_reads m None goes.found guarded cut goes.event at.resting)
      ∙ (ap (λ xs. has_pair xs thunk.lock publishes.found) publishes.read
      ∙ has_more tried.planned.part.reads.cells ((thunk.lock, publishes.found) ∷ []) thunk.lock publishes.found (has_here thunk.lock publishes.found)))
  by_lock_word thunk (refusals.Busy w) guarded tried goes lock same = absurd (let z = same in cc)
  by_lock_word thunk (refusals.Stale expected read) guarded tried goes lock same = absurd (let z = same in cc)

  by_section : (thunk : Thunk) (outcome : Outcome) → HasLeft m planning request thunk outcome old cut
      → attempts.Spent place word ≡ of_outcome outcome → HasEnded
  by_section thunk (outcomes.Spent p w) left same =
      let run = left.run in
      let ends = run.ended.ends in
      let same_words = spent_same place p word w same in (
        length run.ended.published.part.records.finished,
        ends.finished,
        ap (λ xs. slice_get xs (length run.ended.published.part.records.finished)) (exits.keeps.finished
            ∙ ((guard_keeps m None run.lets_go.found run.ran cut run.lets_go.event ends.resting).finished ∙ ends.kept))
            ∙ get_last run.ended.published.part.records.finished ends.finished,
        ends.same_outcome ∙ (λ i. outcomes.Spent (sym same_words.0 i) (sym same_words.1 i)),
      )
  by_section thunk (outcomes.Busy p w) left same = absurd (let z = same in cc)
  by_section thunk (outcomes.Stale p expected read) left same = absurd (let z = same in cc)
  by_section thunk (outcomes.Answered reply) left same = absurd (let z = same in cc)

  -- what the runner keeps of the word by which it was turned away
  pub spent_is_kept : IsRead ⊎ HasEnded
  spent_is_kept = ⊎_elim
      (λ plan. inl (by_plan plan.readings plan.refusal plan.plans plan.same))
      (λ rest. ⊎_elim
      (λ lock. inl (by_lock_word lock.thunk lock.refusal lock.guarded lock.tries lock.lets_go lock.lock lock.same))
      (λ section. inr (by_section section.thunk section.outcome section.left section.same))
      rest)
      away.cause
