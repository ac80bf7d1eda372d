-- A step of which nothing is published, retired or freed keeps the whole invariant.
use Rattle.std.specs.Prelude.{Bool, true, false}
use Rattle.std.proofs.Common.{◌≡◌, ℕ, List, [], ◌∷◌, sym, refl, ap, ◌∙◌, subst, Option, Some, None}
use Rattle.machine_states.specs.table_words.specs.declared.layout.Layout.{Layout}
use Rattle.machine_states.specs.table_words.specs.Limits.{IsWithinLimits}
use Rattle.machine_states.specs.structure_laws.specs.Scene.{Readings}
use Rattle.machine_states.specs.structure_laws.specs.Meaning.{Meaning}
use Rattle.machine_states.specs.structure_laws.specs.Laws.{Laws}
use Rattle.machine_states.specs.runner_parts.specs.State.{RunState}
use Rattle.agreement_core.specs.State.{CellRules, AgreementState}
use Rattle.agreement_core.specs.Events as agreement
use Rattle.agreement_core.specs.Schedules as agreement_schedules
use Rattle.machine_states.specs.epoch_core.specs.State.{Counts, EpochState}
use Rattle.machine_states.specs.epoch_core.specs.Events as epochs
use Rattle.machine_states.specs.epoch_core.specs.Events.{slot_of}
use Rattle.machine_states.specs.epoch_core.specs.Schedules as epoch_schedules
use Rattle.machine_states.specs.epoch_core.specs.Sound as epoch_sound
use Rattle.machine_states.specs.epoch_core.proofs.Keeping as epoch_keeping
use Rattle.machine_states.specs.Sight.{Sight}
use Rattle.machine_blocks.specs.machine_guards.specs.machine_agreement.specs.machine_epochs.specs.Entries.{counts_of}
use Rattle.machine_blocks.specs.machine_guards.specs.machine_agreement.specs.machine_epochs.specs.Slots.{thunk_in}
use Rattle.machine_blocks.specs.machine_guards.specs.machine_agreement.specs.machine_epochs.specs.Joined as joins
use Rattle.machine_blocks.specs.machine_guards.specs.machine_agreement.specs.machine_epochs.proofs.Reaching.{leaves_descriptors, descriptors_stay}
use Rattle.machine_blocks.specs.machine_guards.specs.machine_agreement.specs.machine_scenes.specs.Kinds.{is_alone}
use Rattle.machine_blocks.specs.machine_guards.specs.machine_agreement.specs.machine_scenes.specs.Shown.{States, rules_of}
use Rattle.machine_blocks.specs.machine_guards.specs.machine_agreement.specs.Joined as sections
use Rattle.machine_blocks.specs.machine_guards.specs.machine_agreement.specs.Joined.{ShowsRun}
use Rattle.machine_slots.specs.Hands.{Made}
use Rattle.machine_invariant.specs.Whole.{Beside, states_of, made_in, made_of, HasPublished, IsWhole}
use Rattle.machine_invariant.proofs.Runs.{AllAre, is_calm, InHands, Stands, agreement_stands, epochs_stand, filled_other}
use Rattle.machine_invariant.proofs.Jointly.{no_steps, IsWholeAfter}
use Rattle.machine_invariant.proofs.Ties.{tied_onward}
use Rattle.machine_states.specs.body_terms.specs.declared.thunk.Thunk.{Thunk}
use Rattle.machine_blocks.specs.Stands.{LogsHold}

-- an event of agreement that publishes, retires and frees nothing, and has nothing to do with a Make's slot, a Retire or
-- a read without a lock
abbrev pub is_still : agreement.Event → Bool
is_still (agreement.Publish d lock word request code slot) = false
is_still (agreement.RetireDescriptor d) = false
is_still (agreement.Free d) = false
is_still (agreement.PrivateLoad r cell log place) = false
is_still (agreement.PrivateStore r cell log value place word) = false
is_still (agreement.MakeCommit r log proposal) = false
is_still (agreement.RetireCommit r slot log) = false
is_still (agreement.ReadReply request reply) = false
is_still (agreement.ReadStamp request stamp) = false
is_still _ = true

still_calm : (v : agreement.Event) → is_still v ≡ true → is_calm v ≡ true
still_calm (agreement.Publish d lock word request code slot) still = absurd (cc)
still_calm (agreement.RetireDescriptor d) still = absurd (cc)
still_calm (agreement.Free d) still = absurd (cc)
still_calm (agreement.PrivateLoad r cell log place) still = absurd (cc)
still_calm (agreement.PrivateStore r cell log value place word) still = absurd (cc)
still_calm (agreement.MakeCommit r log proposal) still = absurd (cc)
still_calm (agreement.RetireCommit r slot log) still = absurd (cc)
still_calm (agreement.ReadReply request reply) still = absurd (cc)
still_calm (agreement.ReadStamp request stamp) still = absurd (cc)
still_calm _ still = refl

all_calm : (es : List agreement.Event) → AllAre is_still es → AllAre is_calm es
all_calm [] still = tt
all_calm (v ∷ es) still = (still_calm v still.0, all_calm es still.1)

-- no descriptor is given out, retired or freed
pub record KeepsUse (w w' : AgreementState) : Type 0 where
  pub used : w'.used ≡ w.used
  pub live : w'.live ≡ w.live

one_still : (w : AgreementState) (v : agreement.Event) → is_still v ≡ true → KeepsUse w (agreement.after w v)
one_still w (agreement.Publish d lock word request code slot) still = absurd (cc)
one_still w (agreement.RetireDescriptor d) still = absurd (cc)
one_still w (agreement.Free d) still = absurd (cc)
one_still w v still = record { used = refl; live = refl }

pub all_still : (c : CellRules) (w : AgreementState) (es : List agreement.Event) → AllAre is_still es
    → KeepsUse w (agreement_schedules.after_all c w es)
all_still c w [] still = record { used = refl; live = refl }
all_still c w (v ∷ es) still =
    let one = one_still w v still.0 in let more = all_still c (agreement.after w v) es still.1 in
    record { used = more.used ∙ one.used; live = more.live ∙ one.live }

pub all_stay : (c : Counts) (fs : List epochs.Event) (w : EpochState) → epoch_schedules.AllEnabled c w fs → epoch_sound.IsSound c w
    → AllAre leaves_descriptors fs
    → (d : ℕ) → (epoch_schedules.after_all c w fs).location (slot_of c d) ≡ w.location (slot_of c d)
all_stay c [] w ok sound leaves d = refl
all_stay c (v ∷ fs) w ok sound leaves d =
    all_stay c fs (epochs.after c w v) ok.1 (epoch_keeping.keeps c w v ok.0 sound) leaves.1 d ∙ descriptors_stay c w v ok.0 sound leaves.0 d

module _ (m : Meaning) (l : Layout) where
  -- the parts have read the same outside runs, and have to retire what they had to retire
  pub record StayRead (s s' : Sight) : Type 0 where
    pub walk : (i : ℕ) → (s'.part i).reads.walk ≡ (s.part i).reads.walk
    pub published : (i d : ℕ) (t : Thunk) → HasPublished m l (s.part i) d t → HasPublished m l (s'.part i) d t

  -- and their Makes fill the same slots
  pub record IsQuiet (s s' : Sight) : Type 0 where
    pub stay : StayRead s s'
    pub made : (i : ℕ) (q : RunState) → (s'.part i).run ≡ Some q → q.made ≡ made_of s i

  -- a runner that the component has in a run is in one
  pub in_run : (w : AgreementState) (s : Sight) → sections.IsJoinedToAgreement m l w s → (i : ℕ) → (w.run i).running ≡ true
      → (q : RunState) × ((s.part i).run ≡ Some q)
  in_run w s joined i running = by (s.part i).run refl
    where
      by : (o : Option RunState) → (s.part i).run ≡ o → (q : RunState) × ((s.part i).run ≡ Some q)
      by None is = absurd (let stands : (w.run i).running ≡ false = subst (ShowsRun (w.run i)) is (joined.tied i).run in
          let both = sym running ∙ stands in cc)
      by (Some q) is = (q, is)

  -- the slots that Makes fill are in hands
  whole_hands : (e : EpochState) (s : Sight) → joins.IsJoinedToEpochs m l e s → (made : Made) → ((i : ℕ) → made i ≡ made_of s i) → (r t : ℕ)
      → made r ≡ Some t → (q : RunState) × ((s.part r).run ≡ Some q) × (q.made ≡ Some t)
  whole_hands e s joined made same r t is = by (s.part r).run refl
    where
      by : (o : Option RunState) → (s.part r).run ≡ o → (q : RunState) × ((s.part r).run ≡ Some q) × (q.made ≡ Some t)
      by None at = absurd (let h : None ≡ Some t = ap made_in (sym at) ∙ (sym (same r) ∙ is) in cc)
      by (Some q) at = (q, at, ap made_in (sym at) ∙ (sym (same r) ∙ is))

module _ (m : Meaning) (laws : Laws m) (l : Layout) (limits : IsWithinLimits l) where
  abbrev c : Counts
  c = counts_of m l

  pub hands_of : (e : EpochState) (s : Sight) → joins.IsJoinedToEpochs m l e s → InHands m laws l limits e (made_of s)
  hands_of e s joined r t is =
      let h = whole_hands m l e s joined (made_of s) (λ i. refl) r t is in
      let place = (joined.tied r).run_made h.0 t h.1 h.2 in
      (joined.sound.for_nodes t (ap epoch_sound.is_for_nodes place), place)

  -- the joint states stand beside a whole sight
  pub stands_now : (g : Beside) (s : Sight) → IsWhole m l g s → Stands m laws l limits (states_of g s) (states_of g s) (made_of s)
  stands_now g s whole = record {
    kept = whole.kept;
    held = whole.held;
    filled = whole.filled;
    passed = no_steps m l (states_of g s);
  }

  -- and still do, where the parts have read the same
  pub with_walk : {from : States} (j : States) (made : Made) (walk : ℕ → Readings) → ((i : ℕ) → walk i ≡ j.walk i)
      → Stands m laws l limits from j made → Stands m laws l limits from (record j { walk = walk }) made
  with_walk {from} j made walk same old = subst (λ (f : ℕ → Readings). Stands m laws l limits from (record j { walk = f }) made)
      (λ i r. sym (same r) i) old

  pub quiet_whole : (g : Beside) (s s' : Sight) → IsWhole m l g s → IsQuiet m l s s'
      → ((d : ℕ) → g.agreement.used d ≡ true → thunk_in s'.word d ≡ thunk_in s.word d)
      → (es : List agreement.Event) → AllAre is_still es → agreement_schedules.AllEnabled (rules_of m l) g.agreement es
      → sections.IsJoinedToAgreement m l (agreement_schedules.after_all (rules_of m l) g.agreement es) s'
      → (fs : List epochs.Event) → AllAre is_alone fs → AllAre leaves_descriptors fs → epoch_schedules.AllEnabled c g.epochs fs
      → joins.IsJoinedToEpochs m l (epoch_schedules.after_all c g.epochs fs) s'
      → LogsHold m l (agreement_schedules.after_all (rules_of m l) g.agreement es) (epoch_schedules.after_all c g.epochs fs) s'
      → IsWholeAfter m l (states_of g s) (record {
        agreement = agreement_schedules.after_all (rules_of m l) g.agreement es;
        epochs = epoch_schedules.after_all c g.epochs fs;
        publications = g.publications;
      }) s'
  quiet_whole g s s' whole quiet thunks es still ok joined fs alone leaves ok' joined' logs =
      let w = agreement_schedules.after_all (rules_of m l) g.agreement es in
      let e = epoch_schedules.after_all c g.epochs fs in
      let uses = all_still (rules_of m l) g.agreement es still in
      let one = agreement_stands m laws l limits es (states_of g s) (made_of s) (all_calm es still) ok (hands_of g.epochs s whole.slots)
      (stands_now g s whole) in
      let two = epochs_stand m laws l limits fs (record (states_of g s) { agreement = w }) (made_of s) alone ok' one in
      let new = with_walk (record (states_of g s) { agreement = w; epochs = e }) (made_of s) (λ i. (s'.part i).reads.walk) quiet.stay.walk two in
      record {
        passed = new.passed;
        whole = record {
          sections = joined;
          slots = joined';
          tied = tied_onward m l g.agreement w g.epochs e g.publications s s' whole.tied
              (λ d. ap (λ (f : ℕ → Bool). f d) uses.used) (λ d. ap (λ (f : ℕ → Bool). f d) uses.live)
              (all_stay c fs g.epochs ok' whole.slots.sound leaves) quiet.stay.published thunks;
          kept = new.kept;
          held = new.held;
          filled = filled_other m laws l limits (states_of (record { agreement = w; epochs = e; publications = g.publications }) s')
              (made_of s) (made_of s')
              (λ r running. let q = in_run m l w s' joined r running in ap made_in q.1 ∙ quiet.made r q.0 q.1) new.filled;
          logs = logs;
        };
      }
