-- A step of the machine as a list of steps of the joint states.
use Rattle.std.specs.Prelude.{◌⊎◌, Bool, true, false, slice_get}
use Rattle.std.proofs.Common.{◌≡◌, ◌≢◌, ℕ, List, [], ◌∷◌, ◌++◌, refl, sym, ap, ◌∙◌, subst, Some, None}
use Rattle.machine_states.specs.map_history.specs.declared.op.Request.{Request}
use Rattle.machine_states.specs.body_terms.specs.Line.{line, micro_at, committed}
use Rattle.machine_states.specs.body_terms.specs.declared.thunk.Thunk.{Thunk}
use Rattle.machine_states.specs.table_words.specs.declared.layout.Layout.{Layout}
use Rattle.machine_states.specs.structure_laws.specs.Meaning.{Meaning}
use Rattle.machine_states.specs.runner_parts.specs.declared.event.EventKind.{EventKind}
use Rattle.machine_states.specs.runner_parts.specs.declared.event.EventKind.TheVariants as kinds
use Rattle.agreement_core.specs.Events as agreement
use Rattle.machine_states.specs.epoch_core.specs.Events as epochs
use Rattle.machine_states.specs.Sight.{Sight}
use Rattle.machine_blocks.specs.machine_guards.specs.machine_agreement.specs.machine_epochs.specs.Entries.{counts_of}
use Rattle.machine_blocks.specs.machine_guards.specs.machine_agreement.specs.machine_scenes.specs.Kinds.{is_alone}
use Rattle.machine_blocks.specs.machine_guards.specs.machine_agreement.specs.machine_scenes.specs.Shown.{States, rules_of}
use Rattle.machine_blocks.specs.machine_guards.specs.machine_agreement.specs.machine_scenes.specs.Steps as steps
use Rattle.machine_blocks.specs.machine_guards.specs.machine_agreement.specs.machine_scenes.specs.Steps.{Step, Enabled, after}
use Rattle.machine_blocks.specs.machine_guards.specs.machine_agreement.specs.machine_scenes.specs.Schedules.{AllEnabled, after_all}
use Rattle.machine_blocks.specs.machine_guards.specs.machine_agreement.specs.Chunks.{publication, IsOutsideChunk}
use Rattle.machine_invariant.specs.Whole.{Beside, states_of, IsWhole}

-- a step that publishes no section, and writes no word of a read; where it frees a descriptor, the section there
-- wasn't live before the list
abbrev pub IsQuietStep : States → Step → Type 0
IsQuietStep from (steps.Agreement (agreement.Free d)) = from.agreement.live d ≡ false
IsQuietStep from (steps.Agreement (agreement.ReadReply request reply)) = ⊥
IsQuietStep from (steps.Agreement (agreement.ReadStamp request stamp)) = ⊥
IsQuietStep from (steps.Publish r d lock word request code slot op thunk) = ⊥
IsQuietStep from _ = Unit {0}

-- a read without a lock writes one of its two words
abbrev pub is_reading : EventKind → Bool
is_reading kinds.ReadReply = true
is_reading kinds.ReadStamp = true
is_reading _ = false

abbrev pub AreQuietSteps : States → List Step → Type 0
AreQuietSteps from [] = Unit {0}
AreQuietSteps from (step ∷ more) = IsQuietStep from step × AreQuietSteps from more

module _ (m : Meaning) (l : Layout) where
  -- steps of the joint states, of which none publishes a section or writes a word of a read, lead from the one
  -- states to the other
  pub record JointSteps (from to : States) : Type 0 where
    pub steps : List Step
    pub enabled : AllEnabled m l (counts_of m l) from steps
    pub leads : after_all m l (counts_of m l) from steps ≡ to
    pub quiet : AreQuietSteps from steps

  pub no_steps : (j : States) → JointSteps j j
  no_steps j = record { steps = []; enabled = tt; leads = refl; quiet = tt }

  append_enabled : (j : States) (xs ys : List Step) → AllEnabled m l (counts_of m l) j xs
      → AllEnabled m l (counts_of m l) (after_all m l (counts_of m l) j xs) ys
      → AllEnabled m l (counts_of m l) j (xs ++ ys)
  append_enabled j [] ys one two = two
  append_enabled j (x ∷ xs) ys one two = (one.0, append_enabled (after m l (counts_of m l) j x) xs ys one.1 two)

  append_after : (j : States) (xs ys : List Step) → after_all m l (counts_of m l) j (xs ++ ys)
      ≡ after_all m l (counts_of m l) (after_all m l (counts_of m l) j xs) ys
  append_after j [] ys = refl
  append_after j (x ∷ xs) ys = append_after (after m l (counts_of m l) j x) xs ys

  append_quiet : (from : States) (xs ys : List Step) → AreQuietSteps from xs → AreQuietSteps from ys
      → AreQuietSteps from (xs ++ ys)
  append_quiet from [] ys one two = two
  append_quiet from (x ∷ xs) ys one two = (one.0, append_quiet from xs ys one.1 two)

  -- one step more
  pub one_more : (from j : States) (step : Step) → Enabled m l (counts_of m l) j step → IsQuietStep from step
      → JointSteps from j → JointSteps from (after m l (counts_of m l) j step)
  one_more from j step ok quiet old = record {
    steps = old.steps ++ step ∷ [];
    enabled = append_enabled from old.steps (step ∷ []) old.enabled
        (subst (λ (i : States). Enabled m l (counts_of m l) i step) (sym old.leads) ok, tt);
    leads = append_after from old.steps (step ∷ [])
        ∙ ap (λ (i : States). after m l (counts_of m l) i step) old.leads;
    quiet = append_quiet from old.steps (step ∷ []) old.quiet (quiet, tt);
  }

  -- events of epochs and slots that stand alone, before the steps
  pub alone_before : (j to : States) (v : epochs.Event) → is_alone v ≡ true → epochs.Enabled (counts_of m l) j.epochs v
      → JointSteps (record j { epochs = epochs.after (counts_of m l) j.epochs v }) to → JointSteps j to
  alone_before j to v alone ok more = record {
    steps = steps.Epochs v ∷ more.steps;
    enabled = ((alone, ok), more.enabled);
    leads = more.leads;
    quiet = (tt, before more.steps more.quiet);
  }
    where
      before : (xs : List Step) → AreQuietSteps (record j { epochs = epochs.after (counts_of m l) j.epochs v }) xs → AreQuietSteps j xs
      before [] quiet = tt
      before (x ∷ xs) quiet = (same x quiet.0, before xs quiet.1)
        where
          same : (x : Step) → IsQuietStep (record j { epochs = epochs.after (counts_of m l) j.epochs v }) x → IsQuietStep j x
          same (steps.Agreement (agreement.Free d)) is = is
          same (steps.Agreement (agreement.ReadReply request reply)) is = is
          same (steps.Agreement (agreement.ReadStamp request stamp)) is = is
          same (steps.Publish r d lock word request code slot op thunk) is = is
          same _ is = tt

  -- the whole invariant holds of states to which such steps lead
  pub record IsWholeAfter (from : States) (g : Beside) (s : Sight) : Type 0 where
    pub whole : IsWhole m l g s
    pub passed : JointSteps from (states_of g s)

  -- this kind of step, where it found this word, publishes no section
  abbrev pub HoldsNothing : EventKind → ℕ → Type 0
  HoldsNothing kind found = (t : Thunk) (d : ℕ) → kind ≡ kinds.Hold t d → found ≢ t.word

  -- a step of the machine that publishes nothing, and writes no word of a read, is these steps of the joint states
  pub record GoesQuietly (g : Beside) (s : Sight) (kind : EventKind) (found : ℕ) (to : States) : Type 0 where
    pub passed : JointSteps (states_of g s) to
    pub nothing : HoldsNothing kind found
    pub apart : is_reading kind ≡ false

  -- the states behind the reading of a lock
  abbrev pub behind_lock : States → ℕ → States
  behind_lock j lock = record j { agreement = agreement.after j.agreement (agreement.Read lock) }

  -- one that publishes a section is the reading of its lock, the publication, and more steps
  pub record GoesByPublishing (g : Beside) (s : Sight) (r : ℕ) (kind : EventKind) (found : ℕ) (to : States) : Type 0 where
    pub thunk : Thunk
    pub descriptor : ℕ
    pub kind_is : kind ≡ kinds.Hold thunk descriptor
    pub found_is : found ≡ thunk.word
    pub request : Request
    pub asked : slice_get g.publications.requests thunk.request ≡ Some request
    pub publishes : agreement.Enabled (rules_of m l) (behind_lock (states_of g s) thunk.lock).agreement (publication m descriptor thunk)
    pub passed : JointSteps (after m l (counts_of m l) (behind_lock (states_of g s) thunk.lock)
        (steps.Publish r descriptor thunk.lock thunk.word thunk.request (micro_at (line (m.body thunk))) (committed (line (m.body thunk)))
        request.op thunk)) to

  -- one that writes a word of a read without a lock is that event of agreement, and more steps
  pub record GoesByReading (g : Beside) (s : Sight) (r : ℕ) (kind : EventKind) (found : ℕ) (to : States) : Type 0 where
    pub reading : is_reading kind ≡ true
    pub none : (s.part r).run ≡ None
    pub event : agreement.Event
    pub chunk : IsOutsideChunk m l g.agreement r kind (s.part r) found (event ∷ [])
    pub enabled : agreement.Enabled (rules_of m l) g.agreement event
    pub passed : JointSteps (after m l (counts_of m l) (states_of g s) (steps.Agreement event)) to

  -- a step of the machine as steps of the joint states
  abbrev pub Goes : Beside → Sight → ℕ → EventKind → ℕ → States → Type 0
  Goes g s r kind found to = GoesQuietly g s kind found to ⊎ (GoesByPublishing g s r kind found to ⊎ GoesByReading g s r kind found to)

-- a try to publish
abbrev pub is_hold : EventKind → Bool
is_hold (kinds.Hold thunk d) = true
is_hold _ = false

pub no_hold : (m : Meaning) (l : Layout) (kind : EventKind) (found : ℕ) → is_hold kind ≡ false → HoldsNothing m l kind found
no_hold m l kind found other t d is e = let clash : true ≡ false = sym (ap is_hold is) ∙ other in cc
