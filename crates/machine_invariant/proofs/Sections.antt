-- What agreement says of the machine's sections.
use Rattle.std.proofs.Common.{◌≡◌, ◌≢◌, ℕ, suc, ◌-◌, ◌<◌, ◌≤◌, true, cond, List, [], ◌∷◌, length, Some, refl, sym, ap, ◌∙◌, subst, inl, inr}
use Rattle.std.proofs.Common.{⊎_elim, arith}
use Rattle.std.specs.Prelude.{◌⊎◌}
use mathlib.Core.Path.{fun_ext}
use Rattle.machine_states.specs.body_terms.specs.Line.{line, micro_at, is_check, is_end, is_commit}
use Rattle.machine_states.specs.body_terms.specs.Shape.{IsShaped}
use Rattle.machine_states.specs.body_terms.specs.declared.thunk.Thunk.{Thunk}
use Rattle.machine_states.specs.body_terms.specs.declared.micro.Micro.{Micro}
use Rattle.machine_states.specs.body_terms.specs.declared.micro.Micro.TheVariants.{MakeCommit, RetireCommit}
use Rattle.agreement_core.specs.section_lines.specs.Line.{phase, IsCounted}
use Rattle.machine_states.specs.table_words.specs.declared.layout.Layout.{Layout}
use Rattle.machine_states.specs.table_words.specs.declared.spot.Spot.TheVariants.{Stamp, Reply, DoneWord}
use Rattle.machine_states.specs.structure_laws.specs.Meaning.{Meaning}
use Rattle.machine_states.specs.runner_parts.specs.declared.entries.Published.{Published}
use Rattle.machine_states.specs.epoch_core.specs.State.{EpochState, Role}
use Rattle.machine_states.specs.epoch_core.specs.Events.{slot_of}
use Rattle.machine_states.specs.epoch_core.specs.History as epochs
use Rattle.agreement_core.specs.State.{AgreementState}
use Rattle.agreement_core.specs.PlainRuns.{IsOfBody}
use Rattle.agreement_core.specs.History.{History, written, IsExact, HasAnswered, HasLeft, HappenedOnce, NothingHappened}
use Rattle.agreement_core.proofs.Standing.{agree, not_future, cells_stand, locks_stand, takes_stand, done_late, holds_nothing}
use Rattle.agreement_core.proofs.PlainRuns.{follows_plain_run, starts_over}
use Rattle.agreement_core.proofs.Lasting.{answered_or_left, before_end, happened, nothing, check_phase}
use Rattle.machine_states.specs.Sight.{Sight}
use Rattle.machine_blocks.specs.machine_guards.specs.machine_agreement.specs.machine_epochs.specs.Entries.{counts_of}
use Rattle.machine_blocks.specs.machine_guards.specs.machine_agreement.specs.machine_epochs.specs.Joined as slots
use Rattle.machine_blocks.specs.machine_guards.specs.machine_agreement.specs.machine_epochs.proofs.Roles.{make_role, retire_role}
use Rattle.machine_blocks.specs.machine_guards.specs.machine_agreement.specs.machine_scenes.specs.Shown.{rules_of, IsOfThunk}
use Rattle.machine_blocks.specs.machine_guards.specs.machine_agreement.specs.Joined.{IsJoinedToAgreement}
use Rattle.machine_invariant.specs.Trails.{thunk_at, step_at, log_of, PublishedStand}
use Rattle.machine_invariant.specs.Slots.{CommitsAreWonOnce}
use Rattle.machine_invariant.specs.Sections.{IsAnswered, IsLeft, EffectsComeOnce, LawsHold, SectionsAreSound}
use Rattle.machine_invariant.proofs.Slots.{commits_won}
use Rattle.machine_invariant.proofs.Lines.{lines_same, follows_same}
use Rattle.machine_invariant.proofs.Unwon.{none_made, none_retired, empty_of}
use Rattle.machine_invariant.proofs.Trails.{trails_agree, locks_name, cells_past}
use Rattle.machine_blocks.specs.Stands.{LogsHold}
use Rattle.machine_blocks.specs.machine_guards.specs.machine_agreement.specs.machine_epochs.specs.Roles.{role_at}

agreed_one : (word : ℕ) → 0 < word → epochs.agreed_slot word ≡ (word - 1) ∷ []
agreed_one word some = grind arith

counted_one : (word : ℕ) → 0 < word → epochs.agreed_count word ≡ 1
counted_one word some = grind arith

only_one : (xs : List ℕ) → length xs ≡ 1 → (x : ℕ) × (xs ≡ x ∷ [])
only_one [] e = absurd (omega arith)
only_one (x ∷ []) e = (x, refl)
only_one (x ∷ y ∷ xs) e = absurd (omega arith)

module _ (m : Meaning) (l : Layout) (a : AgreementState) (s : Sight) (joined : IsJoinedToAgreement m l a s) (changes : History)
    (exact : IsExact a changes) where
  of_thunk : (d : ℕ) → a.used d ≡ true → IsOfThunk m (a.section d) (thunk_at m a s d)
  of_thunk = joined.thunks

  -- a thunk's section, and the thunk has a body's shape
  abbrev pub HasShape : ℕ → Type 0
  HasShape d = (t : Thunk) × IsOfThunk m (a.section d) t × IsShaped (m.body t)

  of_body : (d : ℕ) (x : HasShape d) → IsOfBody (a.section d) (m.body x.0)
  of_body d x = record { shaped = x.2; code = fun_ext x.1.code; slot = fun_ext x.1.slot }

  -- that thunk's line is the one of the words
  one_line : (d : ℕ) → a.used d ≡ true → (x : HasShape d) → line (m.body x.0) ≡ line (m.body (thunk_at m a s d))
  one_line d used x = lines_same (m.body x.0) (m.body (thunk_at m a s d)) (λ i. sym (x.1.code i) ∙ (of_thunk d used).code i)

  laws_hold : ((d : ℕ) → a.used d ≡ true → HasShape d) → LawsHold m l a s changes
  laws_hold shaped = record {
    agree = agree (rules_of m l) a joined.sound;
    over = holds_nothing (rules_of m l) a joined.sound;
    start = starts_over (rules_of m l) a joined.sound;
    follow = λ d fixed_cells first clock start used over.
        follows_same (a.section d) (m.body ((shaped d used).0)) (m.body (thunk_at m a s d)) _ start (one_line d used (shaped d used))
        (follows_plain_run (rules_of m l) a joined.sound d used (m.body ((shaped d used).0))
        (of_body d (shaped d used)) fixed_cells first clock start over);
    not_future = not_future (rules_of m l) a joined.sound;
    cells = cells_stand (rules_of m l) a joined.sound;
    locks = locks_stand (rules_of m l) a joined.sound;
    takes = takes_stand (rules_of m l) a joined.sound;
    done_late = done_late (rules_of m l) a joined.sound;
    answered_or_left = answered_or_left (rules_of m l) a joined.sound;
    answered = λ d used. happened (rules_of m l) a joined.sound changes exact d used;
    left = λ d used. nothing (rules_of m l) a joined.sound changes exact d used;
  }

  -- a section that answered or left, as agreement has it
  answered : (d : ℕ) → IsAnswered m a s d → HasAnswered (a.section d)
  answered d x = record {
    done = λ zero. x.done (sym (joined.sections d).done ∙ zero);
    ended = ap is_end ((of_thunk d x.used).code ((a.section d).edge)) ∙ x.ended;
  }

  left : (d : ℕ) → IsLeft m a s d → HasLeft (a.section d)
  left d x = record {
    done = λ zero. x.done (sym (joined.sections d).done ∙ zero);
    check = ap is_check ((of_thunk d x.used).code ((a.section d).edge)) ∙ x.check;
  }

  over : (d : ℕ) → a.used d ≡ true → s.word (DoneWord d) ≢ 0 → IsAnswered m a s d ⊎ IsLeft m a s d
  over d used done =
      let is = of_thunk d used in
      ⊎_elim
      (λ h. inl (record { used = used; done = done; ended = ap is_end (sym (is.code ((a.section d).edge))) ∙ h.ended }))
      (λ h. inr (record { used = used; done = done; check = ap is_check (sym (is.code ((a.section d).edge))) ∙ h.check }))
      (answered_or_left (rules_of m l) a joined.sound d used (λ zero. done (sym (joined.sections d).done ∙ zero)))

  once : (d : ℕ) → IsAnswered m a s d → HappenedOnce a changes d
  once d x = happened (rules_of m l) a joined.sound changes exact d x.used (answered d x)

  none : (d : ℕ) → IsLeft m a s d → NothingHappened changes (changes.section d)
  none d x = nothing (rules_of m l) a joined.sound changes exact d x.used (left d x)

  -- a section that answered has agreed on each word of its line
  agreed_on : (d i k : ℕ) → IsAnswered m a s d → is_commit ((a.section d).code i) ≡ true → phase ((a.section d).code i) < 7
      → k ≡ (a.section d).slot i → 0 < log_of m a s d k
  agreed_on d i k x commit early here =
      let own = joined.sound.sections d x.used in
      let below = before_end (rules_of m l) a joined.sound d x.used (answered d x) i early in
      let more = own.published.line.counted.slot_commit i commit in
      let rises = own.published.line.counted.slot_rises (suc i) ((a.section d).edge) below in
      own.section.in_log.full k (omega arith)

  module _ (e : EpochState) (wins : epochs.History) (won : CommitsAreWonOnce m l e.location s e.log wins)
      (tie : (d : ℕ) → a.used d ≡ epochs.is_out (e.location (slot_of (counts_of m l) d)))
      (logged : (d k : ℕ) → e.log d k ≡ log_of m a s d k) where
    -- which commits won, by the logs
    won_made : (d k : ℕ) → a.used d ≡ true → wins.made (wins.section d) k
        ≡ cond (epochs.is_makes (role_at (m.body (thunk_at m a s d)) k)) (epochs.agreed_slot (log_of m a s d k)) []
    won_made d k used = won.made d k (sym (tie d) ∙ used)
        ∙ ap (λ n. cond (epochs.is_makes (role_at (m.body (thunk_at m a s d)) k)) (epochs.agreed_slot n) []) (logged d k)

    won_retired : (d k : ℕ) → a.used d ≡ true → length (wins.retired (wins.section d) k)
        ≡ cond (epochs.is_retires (role_at (m.body (thunk_at m a s d)) k)) (epochs.agreed_count (log_of m a s d k)) 0
    won_retired d k used = won.retired d k (sym (tie d) ∙ used)
        ∙ ap (λ n. cond (epochs.is_retires (role_at (m.body (thunk_at m a s d)) k)) (epochs.agreed_count n) 0) (logged d k)

    made_once : (d i k : ℕ) → IsAnswered m a s d → step_at m a s d i ≡ MakeCommit k → wins.made (wins.section d) k
        ≡ (log_of m a s d k - 1) ∷ []
    made_once d i k x step =
        let code : (a.section d).code i ≡ MakeCommit k = (of_thunk d x.used).code i ∙ step in
        let here = (joined.sound.sections d x.used).published.line.counted.make_log i k code in
        let two : phase ((a.section d).code i) ≡ 2 = ap phase code in
        won_made d k x.used
        ∙ ap (λ (role : Role). cond (epochs.is_makes role) (epochs.agreed_slot (log_of m a s d k)) [])
        (make_role (m.body (thunk_at m a s d)) i k step)
        ∙ agreed_one _ (agreed_on d i k x (ap is_commit code) (omega arith) here)

    retired_once : (d i t k : ℕ) → IsAnswered m a s d → step_at m a s d i ≡ RetireCommit t k
        → (epoch : ℕ) × (wins.retired (wins.section d) k ≡ epoch ∷ [])
    retired_once d i t k x step =
        let is = of_thunk d x.used in
        let code : (a.section d).code i ≡ RetireCommit t k = is.code i ∙ step in
        let line = (joined.sound.sections d x.used).published.line in
        let here = line.counted.retire_log i t k code in
        let before = line.ordered.retire_before i t k code in
        let five : phase ((a.section d).code i) ≡ 5 = ap phase code in
        only_one _ (won_retired d k x.used
        ∙ ap (λ (role : Role). cond (epochs.is_retires role) (epochs.agreed_count (log_of m a s d k)) 0)
        (retire_role (m.body (thunk_at m a s d)) before.0 t k (sym (is.code before.0) ∙ before.2))
        ∙ counted_one _ (agreed_on d i k x (ap is_commit code) (omega arith) here))

    -- a section that left stands at a check, before its Makes and Retires
    unwon : (d k : ℕ) → IsLeft m a s d → (wins.made (wins.section d) k ≡ []) × (wins.retired (wins.section d) k ≡ [])
    unwon d k x =
        let is = of_thunk d x.used in
        let own = joined.sound.sections d x.used in
        let in_line = own.published.line in
        let body = m.body (thunk_at m a s d) in
        let counted : IsCounted (micro_at (line body)) ((a.section d).slot) =
        subst (λ (code : ℕ → Micro). IsCounted code ((a.section d).slot)) (fun_ext is.code) in_line.counted in
        let early : (i : ℕ) → i < (a.section d).edge → phase (micro_at (line body) i) ≤ 1 = λ i lt.
        let one = check_phase _ (left d x).check in
        let rises = in_line.in_phases.phases i ((a.section d).edge) (let z = lt in omega arith) in
        let here = ap phase (is.code i) in omega arith in
        let empty : (j : ℕ) → (a.section d).slot ((a.section d).edge) ≤ j → log_of m a s d j ≡ 0 = λ j le.
        own.section.in_log.empty j le in (
          won_made d k x.used ∙ none_made body ((a.section d).slot) counted ((a.section d).edge) early (log_of m a s d) empty k,
          empty_of _ (won_retired d k x.used ∙ none_retired body ((a.section d).slot) counted ((a.section d).edge) early (log_of m a s d) empty k),
        )

    effects_once : EffectsComeOnce m a s changes wins
    effects_once = record {
      over = over;
      stored = λ d i place k value x step. (once d x).moved i place k value ((of_thunk d x.used).code i ∙ step);
      stamped = λ d x. let is = of_thunk d x.used in
          subst (λ q. changes.stamps q ≡ s.word (Stamp q) ∷ []) is.request
          ((once d x).stamp ∙ ap (λ n. n ∷ []) (joined.words.stamp ((a.section d).request)));
      replied = λ d x. let is = of_thunk d x.used in
          subst (λ q. changes.replies q ≡ s.word (Reply q) ∷ []) is.request
          ((once d x).reply ∙ ap (λ n. n ∷ []) (joined.words.reply ((a.section d).request)));
      made = made_once;
      retired = retired_once;
      unmoved = λ d i x. (none d x).moved i;
      unstamped = λ d x. (none d x).stamp;
      unreplied = λ d x. (none d x).reply;
      unmade = λ d k x. (unwon d k x).0;
      unretired = λ d k x. (unwon d k x).1;
      stamps = λ q. exact.stamps q ∙ ap written (joined.words.stamp q);
      replies = λ q. exact.replies q ∙ ap written (joined.words.reply q);
    }

-- a state of the machine with which a state of agreement is joined, and one of epochs and slots that says the same of descriptors
pub sections_sound : (m : Meaning) (l : Layout) (a : AgreementState) (e : EpochState) (s : Sight) → IsJoinedToAgreement m l a s
    → slots.IsJoinedToEpochs m l e s → LogsHold m l a e s
    → (changes : History) → IsExact a changes → (wins : epochs.History) → epochs.IsExact (counts_of m l) e wins
    → ((d : ℕ) → a.used d ≡ epochs.is_out (e.location (slot_of (counts_of m l) d)))
    → ((d : ℕ) → a.used d ≡ true → (t : Thunk) × IsOfThunk m (a.section d) t × IsShaped (m.body t))
    → ((d : ℕ) → a.live d ≡ true → (r : ℕ) × (x : Published) × ((s.part r).published ≡ Some x) × (x.descriptor ≡ d))
    → PublishedStand m a s → SectionsAreSound m l a s changes wins
sections_sound m l a e s joined with_slots logs changes exact wins wins_exact tie shaped publishers published = record {
  joined = joined;
  exact = exact;
  laws = laws_hold m l a s joined changes exact shaped;
  in_trails = trails_agree m l a s joined;
  in_locks = locks_name m l a s joined publishers;
  in_published = published;
  in_cells = cells_past m l a s joined;
  in_effects = effects_once m l a s joined changes exact e wins (commits_won m l e s with_slots wins wins_exact) tie logs.stands.same;
}
