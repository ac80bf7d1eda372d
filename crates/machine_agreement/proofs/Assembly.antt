-- An event of a run's line, and the checks behind it, lead from a joined state to a joined one.
use Rattle.std.specs.Prelude.{Bool, true, replicate}
use Rattle.std.proofs.Common.{◌≡◌, ◌≢◌, ℕ, List, [], ◌∷◌, ◌++◌, length, sym, refl, ap, ◌∙◌, subst, Some}
use Rattle.std.proofs.lemmas.List.{append-nil}
use Rattle.machine_states.specs.body_terms.specs.declared.micro.Micro.{Micro}
use Rattle.machine_states.specs.body_terms.specs.Line.{line, micro_at}
use Rattle.machine_states.specs.table_words.specs.declared.layout.Layout.{Layout}
use Rattle.machine_states.specs.table_words.specs.declared.spot.Spot.{Spot}
use Rattle.machine_states.specs.table_words.specs.declared.spot.Spot.TheVariants as spots
use Rattle.machine_states.specs.table_words.specs.Seen.{upd}
use Rattle.machine_states.specs.structure_laws.specs.Meaning.{Meaning}
use Rattle.machine_states.specs.runner_parts.specs.State.{RunState, PartState}
use Rattle.machine_states.specs.runner_parts.specs.Tests.{has_pair}
use Rattle.machine_states.specs.runner_steps.specs.Sections.{thunk_of, line_of}
use Rattle.agreement_core.specs.State.{CellRules, Shared, Section, Finished, AgreementState}
use Rattle.agreement_core.specs.Events.{Event, Pass, after}
use Rattle.agreement_core.specs.Schedules.{AllEnabled, after_all}
use Rattle.agreement_core.specs.Sound.{IsSound}
use Rattle.agreement_core.proofs.Keeping.{keeps_all}
use Rattle.machine_states.specs.Sight.{Sight}
use Rattle.machine_states.proofs.Updates.{upd_split}
use Rattle.machine_epochs.specs.Slots.{thunk_in}
use Rattle.machine_scenes.specs.Shown.{rules_of, IsOfThunk}
use Rattle.machine_agreement.specs.Joined.{IsRunOf, ShowsWords, ShowsSection, IsTied, IsJoinedToAgreement}
use Rattle.machine_agreement.specs.Goes.{Leads, Goes}
use Rattle.machine_agreement.proofs.Passes.{IsFurther, checks_ahead, goes, run_settled, settled_rests}
use Rattle.machine_agreement.proofs.Frames.{HasSameText, IsOwnStep, IsOwnPart, same_thunk, tied_stays, tied_own}

module _ (c : CellRules) where
  pub enabled_append : (w : AgreementState) (front back : List Event) → AllEnabled c w front → AllEnabled c (after_all c w front) back → AllEnabled c w (front ++ back)
  enabled_append w [] back one two = two
  enabled_append w (e ∷ front) back one two = (one.0, enabled_append (after w e) front back one.1 two)

  pub after_append : (w : AgreementState) (front back : List Event) → after_all c w (front ++ back) ≡ after_all c (after_all c w front) back
  after_append w [] back = refl
  after_append w (e ∷ front) back = after_append (after w e) front back

-- the words of a thunk stay
abbrev pub ThunksStay : (Spot → ℕ) → (Spot → ℕ) → Type 0
ThunksStay word word' = (d j : ℕ) → word' (spots.ThunkWord d j) ≡ word (spots.ThunkWord d j)

pub same_thunk_in : (word word' : Spot → ℕ) (d : ℕ) → ThunksStay word word' → thunk_in word' d ≡ thunk_in word d
same_thunk_in word word' d same = λ i.
    let w : ℕ → ℕ = λ j. same d j i in
    thunk_of (w 0 ∷ w 1 ∷ w 2 ∷ w 3 ∷ w 4 ∷ w 5 ∷ w 6 ∷ w 7 ∷ w 8 ∷ w 9 ∷ w 10 ∷ w 11 ∷ [])

module _ (m : Meaning) (l : Layout) where
  abbrev c : CellRules
  c = rules_of m l

  -- these events, each enabled where it comes, lead from the one state to the other
  pub record LeadBy (es : List Event) (w w' : AgreementState) : Type 0 where
    pub enabled : AllEnabled c w es
    pub there : after_all c w es ≡ w'

  pub lead_more : (front back : List Event) (w w' w'' : AgreementState) → LeadBy front w w' → LeadBy back w' w'' → LeadBy (front ++ back) w w''
  lead_more front back w w' w'' one two = record {
    enabled = enabled_append c w front back one.enabled (subst (λ x. AllEnabled c x back) (sym one.there) two.enabled);
    there = after_append c w front back ∙ (ap (λ x. after_all c x back) one.there ∙ two.there);
  }

  pub lead_sound : (es : List Event) (w w' : AgreementState) → LeadBy es w w' → IsSound c w → IsSound c w'
  lead_sound es w w' leads old = subst (IsSound c) leads.there (keeps_all c w es leads.enabled old)

  -- no check passes behind them
  pub leads_alone : (r : ℕ) (heads : List Event) (w w' : AgreementState) → LeadBy heads w w' → Leads m l r heads w w'
  leads_alone r heads w w' leads = record {
    passes = 0;
    enabled = subst (AllEnabled c w) (sym (append-nil heads)) leads.enabled;
    there = ap (after_all c w) (append-nil heads) ∙ leads.there;
  }

  pub own_more : (w w' w'' : AgreementState) (r n : ℕ) → IsOwnStep w w' r → IsFurther w' w'' r n → IsOwnStep w w'' r
  own_more w w' w'' r n one two = record {
    others = λ i ne. two.others i ne ∙ one.others i ne;
    used = two.used ∙ one.used;
    live = two.live ∙ one.live;
    over = two.over ∙ one.over;
    finishes = two.finishes ∙ one.finishes;
    finished = two.finished ∙ one.finished;
    text = λ d. let same = two.sections d in let old = one.text d in record {
      lock = ap (λ (x : Section). x.lock) same ∙ old.lock;
      word = ap (λ (x : Section). x.word) same ∙ old.word;
      request = ap (λ (x : Section). x.request) same ∙ old.request;
      code = ap (λ (x : Section). x.code) same ∙ old.code;
      slot = ap (λ (x : Section). x.slot) same ∙ old.slot;
    };
    seen = λ p word is. ap (λ (x : Shared). x.seen p word) two.shared ∙ one.seen p word is;
  }

  -- the events of a step of an open run, which lead the component from w to w1
  pub line_goes : (heads : List Event) (w w1 : AgreementState) (s : Sight) (r : ℕ) (q q1 : RunState) (word' : Spot → ℕ) (p' : PartState)
      → IsJoinedToAgreement m l w s → (s.part r).run ≡ Some q → length q.opened ≡ 13
      → LeadBy heads w w1 → IsOwnStep w w1 r → IsRunOf (w1.run r) q1 → q1.ended ≡ 0 → q1.descriptor ≡ q.descriptor → q1.opened ≡ q.opened
      → ((i : ℕ) → (w.section q.descriptor).code i ≡ micro_at (line_of m q) i)
      → IsOwnPart m l (s.part r) p' q1
      → ShowsWords w1.shared word' → ((d : ℕ) → ShowsSection (w1.section d) word' d) → ThunksStay s.word word'
      → ((place found : ℕ) → has_pair p'.reads.cells place found ≡ true → w1.shared.seen place found ≡ true)
      → Goes m l r heads w (record { word = word'; part = upd s.part r p' })
  line_goes heads w w1 s r q q1 word' p' old is all leads step run1 going descriptor opened code own words sections thunks read =
      let code1 : (i : ℕ) → (w1.section q1.descriptor).code i ≡ micro_at (line_of m q1) i = λ i.
      ap (λ d. (w1.section d).code i) descriptor ∙ (ap (λ (f : ℕ → Micro). f i) (step.text q.descriptor).code ∙ (code i ∙ ap (λ xs. micro_at (line (m.body (thunk_of xs))) i) (sym opened))) in
      let behind = goes m l q1 w1 r run1 going code1 in
      let passes = replicate (checks_ahead m l q1) (Pass r) in
      let w2 = after_all c w1 passes in
      let leads2 = lead_more heads passes w w1 w2 leads (record { enabled = behind.enabled; there = refl }) in
      let further = behind.further in
      let step2 = own_more w w1 w2 r (checks_ahead m l q1) step further in
      record {
        next = w2;
        leads = record { passes = checks_ahead m l q1; enabled = leads2.enabled; there = leads2.there };
        joined = record {
          sound = lead_sound (heads ++ passes) w w2 leads2 old.sound;
          words = subst (λ (x : Shared). ShowsWords x word') (sym further.shared) words;
          sections = λ d. record { done = ap (λ (x : Section). x.done) (further.sections d) ∙ (sections d).done };
          thunks = λ d used. subst (IsOfThunk m (w2.section d)) (sym (same_thunk_in s.word word' d thunks))
              (same_thunk m (w2.section d) (w.section d) (thunk_in s.word d) (step2.text d) (old.thunks d (ap (λ (f : ℕ → Bool). f d) (sym step2.used) ∙ used)));
          tied = upd_split s.part r p' (λ i p. IsTied m l w2 word' i p)
              (tied_own m l w w2 s.word word' r (s.part r) p' q q1 step2 is own descriptor opened going all (run_settled m l q1 w1 r run1 going code1) (settled_rests m l q1)
              (λ place found has. ap (λ (x : Shared). x.seen place found) further.shared ∙ read place found has) thunks (old.tied r))
              (λ i ne. tied_stays m l w w2 s.word word' i (s.part i) (step2.others i ne) (ap (λ (f : ℕ → ℕ). f i) step2.finishes) (λ k. ap (λ (f : ℕ → ℕ → Finished). f i k) step2.finished)
              step2.seen thunks (old.tied i));
        };
      }

  -- what a runner's event leaves to the others
  pub record IsOtherStep (w w' : AgreementState) (r : ℕ) : Type 0 where
    pub others : (i : ℕ) → i ≢ r → w'.run i ≡ w.run i
    pub finishes : (i : ℕ) → i ≢ r → w'.finishes i ≡ w.finishes i
    pub finished : (i k : ℕ) → i ≢ r → w'.finished i k ≡ w.finished i k
    pub seen : (p word : ℕ) → w.shared.seen p word ≡ true → w'.shared.seen p word ≡ true

  -- the events of a runner's step, which lead the component from w to w1
  pub plain_joined : (heads : List Event) (w w1 : AgreementState) (s : Sight) (r : ℕ) (word' : Spot → ℕ) (p' : PartState) → IsJoinedToAgreement m l w s → LeadBy heads w w1 → IsOtherStep w w1 r
      → ShowsWords w1.shared word' → ((d : ℕ) → ShowsSection (w1.section d) word' d) → ((d : ℕ) → w1.used d ≡ true → IsOfThunk m (w1.section d) (thunk_in word' d)) → ThunksStay s.word word'
      → IsTied m l w1 word' r p' → IsJoinedToAgreement m l w1 (record { word = word'; part = upd s.part r p' })
  plain_joined heads w w1 s r word' p' old leads step words sections thunks stay own = record {
    sound = lead_sound heads w w1 leads old.sound;
    words = words;
    sections = sections;
    thunks = thunks;
    tied = upd_split s.part r p' (λ i p. IsTied m l w1 word' i p) own
        (λ i ne. tied_stays m l w w1 s.word word' i (s.part i) (step.others i ne) (step.finishes i ne) (λ k. step.finished i k ne) step.seen stay (old.tied i));
  }

  pub plain_goes : (heads : List Event) (w w1 : AgreementState) (s : Sight) (r : ℕ) (word' : Spot → ℕ) (p' : PartState) → IsJoinedToAgreement m l w s → LeadBy heads w w1 → IsOtherStep w w1 r
      → ShowsWords w1.shared word' → ((d : ℕ) → ShowsSection (w1.section d) word' d) → ((d : ℕ) → w1.used d ≡ true → IsOfThunk m (w1.section d) (thunk_in word' d)) → ThunksStay s.word word'
      → IsTied m l w1 word' r p' → Goes m l r heads w (record { word = word'; part = upd s.part r p' })
  plain_goes heads w w1 s r word' p' old leads step words sections thunks stay own =
      record { next = w1; leads = leads_alone r heads w w1 leads; joined = plain_joined heads w w1 s r word' p' old leads step words sections thunks stay own }

  -- the thunks of sections whose descriptions are as before
  pub thunks_kept : (w w1 : AgreementState) (s : Sight) (word' : Spot → ℕ) → IsJoinedToAgreement m l w s → w1.used ≡ w.used → ((d : ℕ) → HasSameText (w1.section d) (w.section d)) → ThunksStay s.word word'
      → (d : ℕ) → w1.used d ≡ true → IsOfThunk m (w1.section d) (thunk_in word' d)
  thunks_kept w w1 s word' old used text stay d is = subst (IsOfThunk m (w1.section d)) (sym (same_thunk_in s.word word' d stay))
      (same_thunk m (w1.section d) (w.section d) (thunk_in s.word d) (text d) (old.thunks d (ap (λ (f : ℕ → Bool). f d) (sym used) ∙ is)))
