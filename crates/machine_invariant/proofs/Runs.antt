-- Lists of events of the components keep the joint states lawful, and what stands in slots that Makes fill.
use Rattle.std.specs.Prelude.{Bool, true, false, replicate}
use Rattle.std.proofs.Common.{◌≡◌, ℕ, zero, suc, ◌<◌, List, [], ◌∷◌, ◌++◌, refl, ◌∙◌, Some}
use Rattle.machine_states.specs.table_words.specs.declared.layout.Layout.{Layout}
use Rattle.machine_states.specs.table_words.specs.Limits.{IsWithinLimits}
use Rattle.machine_states.specs.structure_laws.specs.Meaning.{Meaning}
use Rattle.machine_states.specs.structure_laws.specs.Laws.{Laws}
use Rattle.agreement_core.specs.Events as agreement
use Rattle.agreement_core.specs.Schedules as agreement_schedules
use Rattle.machine_states.specs.epoch_core.specs.declared.location.Location.TheVariants.{Hand}
use Rattle.machine_states.specs.epoch_core.specs.State.{Counts, EpochState}
use Rattle.machine_states.specs.epoch_core.specs.Events as epochs
use Rattle.machine_states.specs.epoch_core.specs.Schedules as epoch_schedules
use Rattle.machine_blocks.specs.machine_guards.specs.machine_agreement.specs.machine_epochs.specs.Entries.{counts_of}
use Rattle.machine_blocks.specs.machine_guards.specs.machine_agreement.specs.machine_scenes.specs.Shown.{States, rules_of}
use Rattle.machine_blocks.specs.machine_guards.specs.machine_agreement.specs.machine_scenes.specs.Kinds.{is_plain, is_alone}
use Rattle.machine_blocks.specs.machine_guards.specs.machine_agreement.specs.machine_scenes.specs.Steps.{Step, Agreement, Epochs, Enabled, after}
use Rattle.machine_blocks.specs.machine_guards.specs.machine_agreement.specs.machine_scenes.specs.Kept.{IsKept}
use Rattle.machine_blocks.specs.machine_guards.specs.machine_agreement.specs.machine_scenes.proofs.Kept.{step_kept}
use Rattle.machine_slots.specs.Hands.{Made, IsHeldBack, LocksAreHeld, AreInHand, SlotsAreFilled, MadeGoes}
use Rattle.machine_slots.proofs.Locks.{locks_held_after}
use Rattle.machine_slots.proofs.Filled.{filled_after}
use Rattle.machine_invariant.proofs.Jointly.{IsQuietStep, JointSteps, no_steps, one_more}

-- an event of agreement that stands alone, is no private load, frees no descriptor and writes no word of a read
abbrev pub is_calm : agreement.Event → Bool
is_calm (agreement.Publish d lock word request code slot) = false
is_calm (agreement.PrivateLoad r cell log place) = false
is_calm (agreement.PrivateStore r cell log value place word) = false
is_calm (agreement.MakeCommit r log proposal) = false
is_calm (agreement.RetireCommit r slot log) = false
is_calm (agreement.Free d) = false
is_calm (agreement.ReadReply request reply) = false
is_calm (agreement.ReadStamp request stamp) = false
is_calm _ = true

calm_plain : (v : agreement.Event) → is_calm v ≡ true → is_plain v ≡ true
calm_plain (agreement.Publish d lock word request code slot) calm = absurd (cc)
calm_plain (agreement.PrivateLoad r cell log place) calm = absurd (cc)
calm_plain (agreement.PrivateStore r cell log value place word) calm = absurd (cc)
calm_plain (agreement.MakeCommit r log proposal) calm = absurd (cc)
calm_plain (agreement.RetireCommit r slot log) calm = absurd (cc)
calm_plain (agreement.Free d) calm = absurd (cc)
calm_plain _ calm = refl

calm_quiet : (from : States) (v : agreement.Event) → is_calm v ≡ true → IsQuietStep from (Agreement v)
calm_quiet from (agreement.Free d) calm = absurd (cc)
calm_quiet from (agreement.ReadReply request reply) calm = absurd (cc)
calm_quiet from (agreement.ReadStamp request stamp) calm = absurd (cc)
calm_quiet from _ calm = tt

-- each event of the list passes the test
abbrev pub AllAre : {A : Type 0} → (A → Bool) → List A → Type 0
AllAre test [] = Unit {0}
AllAre test (x ∷ xs) = (test x ≡ true) × AllAre test xs

pub passes_are : {A : Type 0} → (test : A → Bool) (x : A) → test x ≡ true → (n : ℕ) → AllAre test (replicate n x)
passes_are test x is zero = tt
passes_are test x is (suc n) = (is, passes_are test x is n)

pub append_are : {A : Type 0} → (test : A → Bool) (xs ys : List A) → AllAre test xs → AllAre test ys → AllAre test (xs ++ ys)
append_are test [] ys one two = two
append_are test (x ∷ xs) ys one two = (one.0, append_are test xs ys one.1 two)

module _ (m : Meaning) (laws : Laws m) (l : Layout) (limits : IsWithinLimits l) where
  abbrev pub c : Counts
  c = counts_of m l

  -- the joint states show a lawful scene; who publishes holds the slots of its locks, and Makes have filled what they say;
  -- and steps of the joint states lead there
  pub record Stands (from j : States) (made : Made) : Type 0 where
    pub kept : IsKept m l c j
    pub held : LocksAreHeld m c j
    pub filled : SlotsAreFilled m c j made
    pub passed : JointSteps m l from j

  -- the slots that Makes fill are in their runners' hands, in a run or not
  abbrev pub InHands : EpochState → Made → Type 0
  InHands e made = (r t : ℕ) → made r ≡ Some t → (t < c.nodes) × (e.location t ≡ Hand r)

  in_hand : (j : States) (made : Made) → InHands j.epochs made → AreInHand m c j made
  in_hand j made hands = record { node = λ r t running is. (hands r t is).0; here = λ r t running is. (hands r t is).1 }

  -- a step, from whose states on the steps are counted anew
  pub step_anew : {from : States} (j : States) (made made' : Made) (step : Step) → Enabled m l c j step → IsHeldBack j step
      → InHands j.epochs made → MadeGoes m c j step made made' → Stands from j made
      → Stands (after m l c j step) (after m l c j step) made'
  step_anew j made made' step ok back hands goes old = record {
    kept = step_kept m laws l limits c refl j step ok old.kept;
    held = locks_held_after m laws l limits c refl j old.kept step ok back old.held;
    filled = filled_after m laws l limits c refl j old.kept old.held made old.filled (in_hand j made hands) made' step ok goes;
    passed = no_steps m l (after m l c j step);
  }

  pub step_stands : {from : States} (j : States) (made made' : Made) (step : Step) → Enabled m l c j step → IsHeldBack j step
      → IsQuietStep from step → InHands j.epochs made → MadeGoes m c j step made made' → Stands from j made
      → Stands from (after m l c j step) made'
  step_stands {from} j made made' step ok back quiet hands goes old =
      let new = step_anew j made made' step ok back hands goes old in record {
        kept = new.kept;
        held = new.held;
        filled = new.filled;
        passed = one_more m l from j step ok quiet old.passed;
      }

  calm_made : (j : States) (v : agreement.Event) (made : Made) → is_calm v ≡ true → MadeGoes m c j (Agreement v) made made
  calm_made j (agreement.PrivateLoad r cell log place) made calm = absurd (cc)
  calm_made j v made calm = λ i. refl

  pub agreement_stands : {from : States} (es : List agreement.Event) (j : States) (made : Made) → AllAre is_calm es
      → agreement_schedules.AllEnabled (rules_of m l) j.agreement es → InHands j.epochs made → Stands from j made
      → Stands from (record j { agreement = agreement_schedules.after_all (rules_of m l) j.agreement es }) made
  agreement_stands [] j made calm ok hands old = old
  agreement_stands {from} (v ∷ es) j made calm ok hands old =
      agreement_stands es (after m l c j (Agreement v)) made calm.1 ok.1 hands
      (step_stands j made made (Agreement v) (calm_plain v calm.0, ok.0) tt (calm_quiet from v calm.0) hands
      (calm_made j v made calm.0) old)

  -- events of epochs and slots change nothing in the cells and the runs
  pub epochs_stand : {from : States} (es : List epochs.Event) (j : States) (made : Made) → AllAre is_alone es
      → epoch_schedules.AllEnabled c j.epochs es → Stands from j made
      → Stands from (record j { epochs = epoch_schedules.after_all c j.epochs es }) made
  epochs_stand [] j made alone ok old = old
  epochs_stand {from} (v ∷ es) j made alone ok old = epochs_stand es (after m l c j (Epochs v)) made alone.1 ok.1 (record {
    kept = step_kept m laws l limits c refl j (Epochs v) (alone.0, ok.0) old.kept;
    held = locks_held_after m laws l limits c refl j old.kept (Epochs v) (alone.0, ok.0) tt old.held;
    filled = record { filled = old.filled.filled; looked = old.filled.looked };
    passed = one_more m l from j (Epochs v) (alone.0, ok.0) tt old.passed;
  })

  -- what runs fill is asked of runs alone
  pub filled_other : (j : States) (made made' : Made) → ((r : ℕ) → (j.agreement.run r).running ≡ true → made' r ≡ made r)
      → SlotsAreFilled m c j made → SlotsAreFilled m c j made'
  filled_other j made made' same old = record {
    filled = λ r i cell log value running low is at. let h = old.filled r i cell log value running low is at in
        (h.0, same r running ∙ h.1, h.2);
    looked = λ r cell log value before. let h = old.looked r cell log value before in (h.0, same r before.running ∙ h.1, h.2);
  }
