-- The rest of a read from its plan on.
use Rattle.std.specs.Prelude.{not, Bool, true, false, position}
use Rattle.std.specs.List.{list_all, list_any}
use Rattle.std.proofs.Common.{◌≡◌, ℕ, ◌-◌, ◌≤◌, List, length, refl, sym, ◌∙◌, subst, arith, Some, None}
use Rattle.machine_states.specs.map_history.specs.declared.op.Request.{Request}
use Rattle.machine_states.specs.body_terms.specs.Shape.{is_look}
use Rattle.machine_states.specs.body_terms.specs.declared.step.Step.{Step}
use Rattle.machine_states.specs.body_terms.specs.declared.thunk.Thunk.{Thunk}
use Rattle.machine_states.specs.table_words.specs.Limits.{IsWithinLimits}
use Rattle.caller_facts.specs.section_runs.specs.runner_gate.specs.Asks.{Asks}
use Rattle.machine_states.specs.structure_laws.specs.Scene.{Readings}
use Rattle.machine_states.specs.structure_laws.specs.Meaning.{Meaning}
use Rattle.machine_states.specs.structure_laws.specs.Laws.{Laws}
use Rattle.caller_facts.specs.version_words.specs.machine_invariant.specs.After.{AreAllowed}
use Rattle.caller_facts.specs.version_words.specs.RunnerState.{RunnerState}
use Rattle.caller_facts.specs.section_runs.specs.commit_log.specs.Asked.{IsAsked}
use Rattle.caller_facts.specs.section_runs.specs.commit_log.proofs.Asked.{asked_none}
use Rattle.caller_facts.specs.epoch_slots.specs.Entries.{Exits}
use Rattle.caller_facts.specs.try_lock.specs.declared.planned.Planned.TheVariants as plans
use Rattle.caller_facts.specs.try_lock.specs.Planning.{Planning}
use Rattle.seq_read.specs.Wants.{readings_of, is_missed, IsMiss, IsAmong}
use Rattle.seq_read.specs.Course.{HasPlanned, HasLoaded, HasFound, ByBody, ByCell, loaded_steps}
use Rattle.seq_read.specs.Reads.{BehindCell}
use Rattle.seq_read.specs.Parts.{MayLoad, HasLoadedCells, Rests}
use Rattle.seq_read.specs.declared.answers.Read.{Read}
use Rattle.seq_read.specs.declared.answers.Read.TheVariants as answers
use Rattle.seq_read.specs.declared.cells.Loaded.{Loaded}
use Rattle.seq_read.proofs.Finding.{looks_all, first_change_is, first_cells, as_long, found_all, unmet_is, cells_counted}
use Rattle.seq_read.proofs.Courses.{loaded_of}
use Rattle.seq_read.proofs.Writing.{planned_shaped}
use Rattle.seq_read.proofs.Resting.{refused_rests, halted_rests, reading_halted}
use Rattle.seq_read.proofs.Along.{rests_more}

module _ {T : Type 0} (m : Meaning) (laws : Laws m) (planning : Planning) (request : Request) (old : RunnerState T)
    (limits : IsWithinLimits old.layout) (allowed : AreAllowed old.requests) (thunk : Thunk) (readings : Readings) (r : RunnerState T)
    (is : HasPlanned m planning request readings (plans.Thunk thunk) old r) (Seen : ℕ → Asks → Type 0) where
  -- the body changes something
  pub body_rests : (at : ℕ) → position (λ step. not (is_look step)) (m.body thunk) ≡ Some at → (new : RunnerState T) → Exits m r new
      → (halts : ℕ) (asks : Asks) (steps : ℕ) → Rests m planning request (length readings) (answers.Locked at) old new Seen halts halts asks asks steps steps
  body_rests at e new exits halts asks steps = refused_rests m laws planning request old limits allowed is.enters.may r new is.reading exits (answers.Locked at) refl
      (ByBody at refl (record { readings = readings; thunk = thunk; plans = is; first = first_change_is (m.body thunk) at e })) (length readings) 0 (omega arith) Seen
      halts halts asks asks steps steps (asked_none halts asks steps)

  -- or nothing
  module _ (none : position (λ step. not (is_look step)) (m.body thunk) ≡ None) where
    pub looks : list_all is_look (m.body thunk) ≡ true
    looks = looks_all (m.body thunk) none

    pub may_load_so : MayLoad m planning request (m.body thunk) thunk readings old r
    may_load_so = record {
      plans = is;
      body = refl;
      shaped = (planned_shaped m laws planning request old limits allowed thunk readings r is).shape;
      looks = looks;
    }

    -- its cells were loaded
    module _ (xs : List Loaded) (going : Bool) (r1 : RunnerState T) (halts halts1 : ℕ) (asks asks1 : Asks) (steps steps1 : ℕ)
        (cells : HasLoadedCells m (m.body thunk) xs going r r1 Seen halts halts1 asks asks1 steps steps1) where
      abbrev pub loaded : HasLoaded m planning request thunk (readings_of xs) old r1
      loaded = loaded_of m planning request old readings thunk (readings_of xs) r r1 is looks (first_cells (m.body thunk) xs cells.cells) cells.loads cells.reached

      pub cells_cut : going ≡ false → Rests m planning request (length readings) answers.Halted old r1 Seen halts halts1 asks asks1 steps steps1
      cells_cut e = halted_rests m laws planning request old limits allowed is.enters.may r1
          (reading_halted m laws planning request old limits allowed is.enters.may r1
          (BehindCell thunk (readings_of xs) (subst (λ n. 1 ≤ n) (sym (as_long xs)) (cells.some e)) loaded) refl refl loaded.reading cells.reached)
          (length readings) (length xs) (length xs - 1) (let long = as_long xs in omega (arith, long))
          (let long = as_long xs in let some = cells.some e in omega (arith, long, some)) Seen halts halts1 asks asks1 steps steps1
          (subst (λ b. IsAsked (length xs) b halts halts1 asks asks1 steps steps1) e cells.asked) (cells.let_go e)

      module _ (e : going ≡ true) where
        pub went : IsAsked (length xs) true halts halts1 asks asks1 steps steps1
        went = subst (λ b. IsAsked (length xs) b halts halts1 asks asks1 steps steps1) e cells.asked

        -- one of them has another word than the body wants
        pub cell_rests : (step : Step) → IsAmong (m.body thunk) step → (place expected read : ℕ) → IsMiss xs step place expected read
            → (new : RunnerState T) → Exits m r1 new
            → Rests m planning request (length readings) (answers.Stale place expected read) old new Seen halts halts1 asks asks1 steps steps1
        cell_rests step among place expected read miss new exits =
            refused_rests m laws planning request old limits allowed is.enters.may r1 new loaded.reading exits (answers.Stale place expected read) refl
            (ByCell place expected read refl (record {
              thunk = thunk;
              found = readings_of xs;
              loads = loaded;
              all = as_long xs ∙ (cells.all e ∙ cells_counted (m.body thunk));
              unmet = unmet_is (m.body thunk) xs cells.cells (cells.all e) step among place expected read miss;
            })) (length readings) (length xs) (let long = as_long xs in omega (arith, long)) Seen halts halts1 asks asks1 steps steps1 went

        -- or they hold what it wants
        module _ (met : list_any (is_missed xs) (m.body thunk) ≡ false) where
          abbrev pub found_so : HasFound m planning request thunk (readings_of xs) old r1
          found_so = record { loads = loaded; finds = found_all (m.body thunk) xs cells.cells (cells.all e) met }

          pub found_rests : (answer : Read) (new : RunnerState T) (halts' : ℕ) (asks' : Asks) (steps' : ℕ)
              → Rests m planning request (loaded_steps m planning request thunk (readings_of xs) old r1 loaded) answer old new Seen halts1 halts' asks1 asks' steps1 steps'
              → Rests m planning request (length readings) answer old new Seen halts halts' asks asks' steps steps'
          found_rests answer new halts' asks' steps' rests = rests_more m planning request (length xs) (length readings)
              (loaded_steps m planning request thunk (readings_of xs) old r1 loaded) answer old new Seen halts halts1 halts' asks asks1 asks' steps steps1 steps'
              (let long = as_long xs in omega (arith, long)) went rests
