-- Steps of the joint states that publish nothing are steps of the joint states with the history, by which nobody learns anything.
use Rattle.std.specs.Prelude.{◌⊎◌, ◌==◌, ◌&&◌, not, max, cond, Bool, true, false, []}
use Rattle.std.proofs.Common.{◌≡◌, ◌≢◌, ℕ, zero, suc, ◌≤◌, List, ◌∷◌, inl, inr, refl, sym, ap, ◌∙◌, subst, ⊎_elim, arith}
use Rattle.std.proofs.lemmas.Bool.{cases_eq}
use Rattle.std.proofs.lemmas.Bool.Decides.{nat_tests}
use Rattle.machine_states.specs.map_history.specs.declared.op.Request.{Request}
use Rattle.machine_states.specs.body_terms.specs.Update.{upd}
use Rattle.machine_states.specs.body_terms.specs.declared.micro.Micro.TheVariants as micros
use Rattle.machine_states.specs.structure_laws.proofs.Changes.{upd_same, upd_other}
use Rattle.machine_states.specs.table_words.specs.declared.layout.Layout.{Layout}
use Rattle.machine_states.specs.table_words.specs.Limits.{IsWithinLimits}
use Rattle.machine_states.specs.structure_laws.specs.Meaning.{Meaning}
use Rattle.machine_states.specs.structure_laws.specs.Laws.{Laws}
use Rattle.still_reads.specs.agreement_core.specs.State.{AgreementState}
use Rattle.still_reads.specs.agreement_core.specs.Checks.{is_stamp_exchange}
use Rattle.still_reads.specs.agreement_core.specs.Events as agreement
use Rattle.machine_states.specs.epoch_core.specs.State.{Counts}
use Rattle.machine_history.specs.history_core.specs.State.{Requests, HistoryState}
use Rattle.machine_history.specs.history_core.specs.Events as history
use Rattle.machine_history.specs.history_core.specs.Schedules as schedules
use Rattle.machine_history.specs.history_core.specs.Sound.{IsSound}
use Rattle.machine_history.specs.history_core.proofs.RealTime.{Passes, passes_nowhere, passes_more, event_passes}
use Rattle.machine_facts.specs.machine_agreement.specs.machine_epochs.specs.Entries.{counts_of}
use Rattle.machine_facts.specs.machine_agreement.specs.machine_scenes.specs.Shown.{States}
use Rattle.machine_facts.specs.machine_agreement.specs.machine_scenes.specs.Steps as scenes
use Rattle.machine_facts.specs.machine_agreement.specs.machine_scenes.specs.Schedules as scene_lists
use Rattle.machine_history.specs.Tied.{is_loading}
use Rattle.machine_history.specs.Steps.{HistoryStates, Joint, events_of, is_apart, MayFree}
use Rattle.machine_history.specs.Laws.{IsJoined}
use Rattle.machine_history.proofs.Joining.{steps_keep}
use Rattle.still_reads.specs.Standing.{WalksStand}
use Rattle.still_reads.proofs.Steps.{walks_after}
use Rattle.machine_facts.specs.machine_invariant.proofs.Jointly.{IsQuietStep, AreQuietSteps, JointSteps}
use Rattle.reached_histories.specs.Requests.{requests_of}

-- the same is known and published
pub record KnowsAlike (w v : HistoryState) : Type 0 where
  pub known : v.known ≡ w.known
  pub published : v.published ≡ w.published

-- a request was stamped by a section that its worker has published and not run to its end
pub record IsStampedBy (c : Requests) (w v : HistoryState) (n : ℕ) : Type 0 where
  pub descriptor : ℕ
  pub own : w.published (c.worker n) ≡ suc descriptor
  pub request : w.request descriptor ≡ n
  pub far : 2 ≤ v.stage descriptor

-- the sections are the same and only get further, nobody learns anything, and who was stamped was stamped by such a section
pub record GoesOn (c : Requests) (w v : HistoryState) : Type 0 where
  pub known : v.known ≡ w.known
  pub published : v.published ≡ w.published
  pub request : v.request ≡ w.request
  pub knew : v.knew ≡ w.knew
  pub stage : (d : ℕ) → w.stage d ≤ v.stage d
  pub stamped : (n : ℕ) → w.stamp n ≡ 0 → v.stamp n ≢ 0 → IsStampedBy c w v n
  pub look : v.look ≡ w.look
  pub passes : Passes w v

pub goes_alike : (c : Requests) (w v : HistoryState) → GoesOn c w v → KnowsAlike w v
goes_alike c w v on = record { known = on.known; published = on.published }

pub goes_nowhere : (c : Requests) (w : HistoryState) → GoesOn c w w
goes_nowhere c w = record {
  known = refl;
  published = refl;
  request = refl;
  knew = refl;
  stage = λ d. omega arith;
  stamped = λ n none some. absurd (some none);
  look = refl;
  passes = passes_nowhere w;
}

pub zero_or_some : (n : ℕ) → (n ≡ 0) ⊎ (n ≢ 0)
zero_or_some zero = inl refl
zero_or_some (suc n) = inr (λ e. omega arith)

pub up_to : (a b n : ℕ) → a ≤ b → n ≤ a → n ≤ b
up_to a b n le low = omega arith

goes_more : (c : Requests) (u w v : HistoryState) → GoesOn c u w → GoesOn c w v → GoesOn c u v
goes_more c u w v one two = record {
  known = two.known ∙ one.known;
  published = two.published ∙ one.published;
  request = two.request ∙ one.request;
  knew = two.knew ∙ one.knew;
  stage = λ d. up_to _ _ _ (two.stage d) (one.stage d);
  stamped = λ n none some. ⊎_elim
      (λ still. let by = two.stamped n still some in record {
        descriptor = by.descriptor;
        own = ap (λ (f : ℕ → ℕ). f (c.worker n)) (sym one.published) ∙ by.own;
        request = ap (λ (f : ℕ → ℕ). f by.descriptor) (sym one.request) ∙ by.request;
        far = by.far;
      })
      (λ now. let by = one.stamped n none now in record {
        descriptor = by.descriptor;
        own = by.own;
        request = by.request;
        far = up_to _ _ _ (two.stage by.descriptor) by.far;
      })
      (zero_or_some (w.stamp n));
  look = two.look ∙ one.look;
  passes = passes_more u w v one.passes two.passes;
}

-- a section that comes so far is no less far than it was, and no other one is
comes_no_lower : (c : Requests) (w : HistoryState) (d stage e : ℕ) → w.stage e ≤ history.comes c w d stage e
comes_no_lower c w d stage e = ⊎_elim
    (λ same. subst (λ n. w.stage e ≤ n) (sym (upd_same w.stage d e (max (w.stage d) stage) same))
    (subst (λ k. w.stage k ≤ max (w.stage d) stage) (sym same) (greater (w.stage d) stage)))
    (λ ne. subst (λ n. w.stage e ≤ n) (sym (upd_other w.stage d e (max (w.stage d) stage) ne)) (omega arith))
    (cases_eq e d)
  where
    greater : (a b : ℕ) → a ≤ max a b
    greater a b = grind (arith, nat_tests)

-- a section gets further, and no stamp is written
further : (c : Requests) (w v : HistoryState) (d stage : ℕ) → v.known ≡ w.known → v.published ≡ w.published → v.request ≡ w.request
    → v.knew ≡ w.knew → v.stage ≡ history.comes c w d stage → v.stamp ≡ w.stamp → v.look ≡ w.look → Passes w v → GoesOn c w v
further c w v d stage known published request knew comes stamp look passes = record {
  known = known;
  published = published;
  request = request;
  knew = knew;
  stage = λ e. subst (λ n. w.stage e ≤ n) (sym (ap (λ (f : ℕ → ℕ). f e) comes)) (comes_no_lower c w d stage e);
  stamped = λ n none some. absurd (some (ap (λ (f : ℕ → ℕ). f n) stamp ∙ none));
  look = look;
  passes = passes;
}

-- where nothing of this changes
still : (c : Requests) (w v : HistoryState) → v.known ≡ w.known → v.published ≡ w.published → v.request ≡ w.request
    → v.knew ≡ w.knew → v.stage ≡ w.stage → v.stamp ≡ w.stamp → v.look ≡ w.look → Passes w v → GoesOn c w v
still c w v known published request knew stage stamp look passes = record {
  known = known;
  published = published;
  request = request;
  knew = knew;
  stage = λ d. subst (λ n. w.stage d ≤ n) (sym (ap (λ (f : ℕ → ℕ). f d) stage)) (omega arith);
  stamped = λ n none some. absurd (some (ap (λ (f : ℕ → ℕ). f n) stamp ∙ none));
  look = look;
  passes = passes;
}

-- a section that isn't done, or has come behind its clock's load with its request unstamped, is its worker's published one
module _ (c : Requests) (w : HistoryState) (sound : IsSound c w) (r : ℕ) (loaded : w.loaded r ≡ true) (none : w.stamp (w.request (w.run r)) ≡ 0) where
  abbrev d : ℕ
  d = w.run r

  undone : w.done d ≡ false
  undone = by (w.done d) refl
    where
      by : (b : Bool) → w.done d ≡ b → b ≡ false
      by false e = refl
      by true e = ⊎_elim
          (λ left. absurd (let far = (sound.sections.running r loaded).1 in omega arith))
          (λ four. absurd ((sound.stamps.stamped d (sound.sections.running r loaded).0 (omega arith)).0 none))
          (sound.sections.ended d (sound.sections.running r loaded).0 e)

  -- a stamp is written
  stamps_on : Passes w (history.stamped c w r) → GoesOn c w (history.stamped c w r)
  stamps_on passes = record {
    known = refl;
    published = refl;
    request = refl;
    knew = refl;
    stage = comes_no_lower c w d 2;
    stamped = λ n unstamped some. ⊎_elim
        (λ same. record {
          descriptor = d;
          own = subst (λ k. w.published (c.worker k) ≡ suc d) (sym same)
              (sound.sections.published d (sound.sections.running r loaded).0 undone);
          request = sym same;
          far = subst (λ k. 2 ≤ k) (sym (upd_same w.stage d d (max (w.stage d) 2) refl)) (two_there (w.stage d));
        })
        (λ ne. absurd (some (upd_other w.stamp (w.request d) n (history.stamp_by (w.hand r)) ne ∙ unstamped)))
        (cases_eq n (w.request d));
    look = refl;
    passes = passes;
  }
    where
      two_there : (a : ℕ) → 2 ≤ max a 2
      two_there a = grind (arith, nat_tests)

-- a run before the exchange of the stamp has loaded the clock
pub loading : (a : AgreementState) (r : ℕ) → agreement.IsBefore a r micros.StampExchange → is_loading a r ≡ true
loading a r at = λ i. at.running i && (not (at.going i) && is_stamp_exchange (at.next i))

-- the history's events of a joint step
goes_by_step : (c : Requests) (j : States) (w : HistoryState) → IsSound c w
    → ((r : ℕ) → w.loaded r ≡ is_loading j.agreement r) → (step : scenes.Step)
    → ((r : ℕ) → step ≡ scenes.Agreement (agreement.StampExchange r) → agreement.IsBefore j.agreement r micros.StampExchange)
    → GoesOn c w (schedules.after_all c w (events_of j step))
goes_by_step c j w sound loads (scenes.Agreement (agreement.ClockLoad r)) before =
    further c w _ (scenes.descriptor_of j r) 1 refl refl refl refl refl refl refl (event_passes c w (history.LoadClock r (scenes.descriptor_of j r)) tt)
goes_by_step c j w sound loads (scenes.Agreement (agreement.StampExchange r)) before =
    by (w.stamp (w.request (w.run r)) == 0) refl
  where
    at : agreement.IsBefore j.agreement r micros.StampExchange
    at = before r refl

    loaded : w.loaded r ≡ true
    loaded = loads r ∙ loading j.agreement r at

    is_zero : (n : ℕ) → (n == 0) ≡ true → n ≡ 0
    is_zero n e = grind (arith, nat_tests)

    passed_by : (b : Bool) → (w.stamp (w.request (w.run r)) == 0) ≡ b
        → Passes w (cond b (history.stamped c w r) (record w { loaded = upd w.loaded r false }))
    passed_by b is = subst (λ t. Passes w (cond t (history.stamped c w r) (record w { loaded = upd w.loaded r false }))) is
        (event_passes c w (history.StampExchange r) loaded)

    by : (b : Bool) → (w.stamp (w.request (w.run r)) == 0) ≡ b
        → GoesOn c w (cond b (history.stamped c w r) (record w { loaded = upd w.loaded r false }))
    by true none = stamps_on c w sound r loaded (is_zero _ none) (passed_by true none)
    by false some = still c w (record w { loaded = upd w.loaded r false }) refl refl refl refl refl refl refl (passed_by false some)
goes_by_step c j w sound loads (scenes.Agreement (agreement.ClockRaise r)) before =
    further c w _ (scenes.descriptor_of j r) 3 refl refl refl refl refl refl refl (event_passes c w (history.RaiseClock (scenes.descriptor_of j r)) tt)
goes_by_step c j w sound loads (scenes.Agreement (agreement.ReplyExchange r reply)) before =
    further c w _ (scenes.descriptor_of j r) 4 refl refl refl refl refl refl refl (event_passes c w (history.WriteReply (scenes.descriptor_of j r)) tt)
goes_by_step c j w sound loads (scenes.Agreement (agreement.SetDone r)) before =
    still c w (schedules.after_all c w (events_of j (scenes.Agreement (agreement.SetDone r)))) refl refl refl refl refl refl refl
    (event_passes c w (history.SetDone (scenes.descriptor_of j r)) tt)
goes_by_step c j w sound loads (scenes.Agreement (agreement.Free d)) before =
    still c w (schedules.after_all c w (events_of j (scenes.Agreement (agreement.Free d)))) refl refl refl refl refl refl refl
    (event_passes c w (history.Free d) tt)
goes_by_step c j w sound loads step before = goes_nowhere c w

-- what wasn't used is not used where it is taken out of use
still_unused : (f : ℕ → Bool) (d : ℕ) → f d ≡ false → (e : ℕ) → upd f d false e ≡ f e
still_unused f d unused e = ⊎_elim
    (λ same. upd_same f d e false same ∙ sym (ap f same ∙ unused))
    (λ ne. upd_other f d e false ne)
    (cases_eq e d)

module _ (m : Meaning) (laws : Laws m) (l : Layout) (limits : IsWithinLimits l) (rs : List Request) where
  abbrev c : Counts
  c = counts_of m l

  abbrev asked : Requests
  asked = requests_of m l rs

  abbrev pub with_history : States → HistoryState → HistoryStates
  with_history j w = record { joint = j; history = w }

  -- these states are joined with a state of the history in which the same is known and published as in this one, and
  -- what was read behind free locks stands in them
  pub record JoinedAlike (w : HistoryState) (j : States) : Type 0 where
    pub history : HistoryState
    pub joined : IsJoined m l c asked (with_history j history)
    pub on : GoesOn asked w history
    pub walks : WalksStand m j

  -- which is so, where each section that a worker has published and not run to its end is live in these states
  module _ (from : States) (w : HistoryState) (live : (r d : ℕ) → w.published r ≡ suc d → from.agreement.live d ≡ true) where
    stamp_enabled : (j : States) (step : scenes.Step) → scenes.Enabled m l c j step → (r : ℕ)
        → step ≡ scenes.Agreement (agreement.StampExchange r) → agreement.IsBefore j.agreement r micros.StampExchange
    stamp_enabled j step ok r is = (subst (scenes.Enabled m l c j) is ok).1

    plain_step : (j : States) (step : scenes.Step) → is_apart step ≡ false → scenes.Enabled m l c j step → (old : JoinedAlike w j)
        → MayFree m l c asked (with_history j old.history) step → JoinedAlike w (scenes.after m l c j step)
    plain_step j step quiet ok old free = record {
      history = schedules.after_all asked old.history (events_of j step);
      joined = steps_keep m laws l limits c refl asked refl (with_history j old.history) (Joint step) (quiet, ok, free) old.joined;
      on = goes_more asked w old.history _ old.on (goes_by_step asked j old.history old.joined.sound old.joined.tied.loaded step
          (λ r is. stamp_enabled j step ok r is));
      walks = walks_after m laws l limits c j old.joined.kept old.walks step ok;
    }

    free_step : (j : States) (d : ℕ) → scenes.Enabled m l c j (scenes.Agreement (agreement.Free d)) → from.agreement.live d ≡ false
        → (old : JoinedAlike w j) → (b : Bool) → j.agreement.used d ≡ b → JoinedAlike w (scenes.after m l c j (scenes.Agreement (agreement.Free d)))
    free_step j d ok gone old true used = plain_step j (scenes.Agreement (agreement.Free d)) refl ok old (
      old.joined.tied.used d ∙ used,
      λ own. let r = asked.worker (old.history.request d) in
          let clash : true ≡ false = sym (live r d (ap (λ (f : ℕ → ℕ). f r) (sym old.on.published) ∙ own)) ∙ gone in cc,
    )
    free_step j d ok gone old false unused =
        subst (λ (f : ℕ → Bool). JoinedAlike w (record j { agreement = record j.agreement { used = f } }))
        (λ i e. sym (still_unused j.agreement.used d unused e) i) old

    quiet_step : (j : States) (step : scenes.Step) → scenes.Enabled m l c j step → IsQuietStep from step → JoinedAlike w j
        → JoinedAlike w (scenes.after m l c j step)
    quiet_step j (scenes.Agreement (agreement.Free d)) ok quiet old = free_step j d ok quiet old (j.agreement.used d) refl
    quiet_step j (scenes.Publish r d lock word request code slot op thunk) ok quiet old = absurd quiet
    quiet_step j (scenes.Agreement (agreement.ReadReply request reply)) ok quiet old = absurd quiet
    quiet_step j (scenes.Agreement (agreement.ReadStamp request stamp)) ok quiet old = absurd quiet
    quiet_step j step ok quiet old = plain_step j step refl ok old tt

    quiet_steps : (steps : List scenes.Step) (j : States) → scene_lists.AllEnabled m l c j steps → AreQuietSteps from steps
        → JoinedAlike w j → JoinedAlike w (scene_lists.after_all m l c j steps)
    quiet_steps [] j ok quiet old = old
    quiet_steps (step ∷ steps) j ok quiet old =
        quiet_steps steps (scenes.after m l c j step) ok.1 quiet.1 (quiet_step j step ok.0 quiet.0 old)

    pub passes_joined : (to : States) → JointSteps m l from to → JoinedAlike w from → JoinedAlike w to
    passes_joined to passed old =
        subst (JoinedAlike w) passed.leads (quiet_steps passed.steps from passed.enabled passed.quiet old)
