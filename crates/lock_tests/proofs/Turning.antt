-- What becomes of a worker in a run of a section, and behind it.
use Rattle.std.proofs.Common.{◌≡◌, ◌≢◌, ℕ, zero, suc, ◌≤◌, length, true, false, refl, sym, ap, subst, ◌∙◌, arith, Option, Some, None, inl, inr}
use Rattle.std.specs.Prelude.{◌==◌, if◌then◌else◌}
use Rattle.std.proofs.lemmas.Bool.Decides.{nat_tests}
use Rattle.machine_states.specs.body_terms.specs.Trail.{Agreed}
use Rattle.machine_states.specs.body_terms.specs.Word.{is_free}
use Rattle.machine_states.specs.body_terms.specs.declared.outcome.Outcome.{Outcome}
use Rattle.machine_states.specs.body_terms.specs.declared.thunk.Thunk.{Thunk}
use Rattle.machine_states.specs.structure_laws.specs.Meaning.{Meaning}
use Rattle.machine_states.specs.epoch_core.specs.declared.stage.Stage.TheVariants as stages
use Rattle.machine_states.specs.runner_parts.specs.declared.entries.Published.{Published}
use Rattle.machine_states.specs.runner_parts.specs.declared.event.EventKind.TheVariants as kinds
use Rattle.machine_states.specs.runner_parts.specs.State.{GuardsState, NodesState}
use Rattle.machine_states.specs.runner_steps.specs.AfterInRun.{kept_unless}
use Rattle.settled_tables.specs.closed_words.specs.version_words.specs.RunnerState.{RunnerState}
use Rattle.settled_tables.specs.closed_words.specs.version_words.specs.Events.{IsMade}
use Rattle.settled_tables.specs.closed_words.specs.version_words.specs.Stages.{IsAt}
use Rattle.hash_table.specs.try_lock.specs.commit_log.specs.Runs.{Ran}
use Rattle.hash_table.specs.try_lock.specs.commit_log.proofs.Running.{moved_same}
use Rattle.hash_table.specs.try_lock.specs.section_runs.specs.declared.runs.RunEnd.{RunEnd}
use Rattle.hash_table.specs.try_lock.specs.section_runs.specs.declared.runs.RunEnd.TheVariants.{Done, Halted}
use Rattle.hash_table.specs.try_lock.specs.epoch_slots.specs.Collects.{IsTidy}
use Rattle.hash_table.specs.try_lock.specs.epoch_slots.specs.Entries.{KeepsOwn, HasLeave, Enters, Exits}
use Rattle.hash_table.specs.try_lock.specs.declared.section.Section.{Section}
use Rattle.hash_table.specs.try_lock.specs.Reached.{MayRunSection, MayHelp}
use Rattle.hash_table.specs.try_lock.specs.Ends.{EndsSo, IsCutShort}
use Rattle.hash_table.specs.try_lock.specs.Watches.{Watched}
use Rattle.hash_table.specs.try_lock.proofs.Blocks.{for_one}
use Rattle.lock_attempts.specs.attempts.specs.Course.{HasGone}
use Rattle.lock_attempts.specs.attempts.specs.Rests.{MayLetGo}
use Rattle.lock_attempts.specs.attempts.proofs.Leaving.{ended_at, ended_hand}
use Rattle.lock_attempts.specs.attempts.proofs.LettingGo.{gone, gone_leave, gone_keeps, gone_tidy}
use Rattle.lock_tests.specs.Workers.{HasRead, IsEmptyHanded}

-- what was published is so no more behind the end of its run
over_none : (x : Published) (d : ℕ) → x.descriptor ≡ d → kept_unless (Some x) d ≡ None
over_none x d e = ap (λ b. if b then None else Some x) (let same : (x.descriptor == d) ≡ true = grind (arith, nat_tests, e) in same)

module _ {T : Type 0} (m : Meaning) where
  -- an entry
  module _ (old entered : RunnerState T) (tidy : IsTidy old) (enters : Enters m old entered) where
    pub entered_leave : HasLeave entered
    entered_leave = record { epoch = enters.epoch; at = enters.at; unguarded = ap (λ (g : GuardsState). g.named) enters.guards ∙ tidy.unguarded }

    pub entered_hand : IsEmptyHanded entered
    entered_hand = record {
      hand = ap (λ (n : NodesState). n.hand) enters.keeps.nodes ∙ tidy.hand;
      tests = ap (λ (n : NodesState). n.tests) enters.keeps.nodes ∙ tidy.tests;
      looked = ap (λ (g : GuardsState). g.looked) enters.guards;
    }

  ran_number : (n : ℕ) (old new : RunnerState T) → Ran m n old new → new.number ≡ old.number
  ran_number zero old new same = ap (λ (r : RunnerState T). r.number) same
  ran_number (suc n) old new (r, q, found, moved, rest) = ran_number n r new rest ∙ ap (λ (y : RunnerState T). y.number) (moved_same m q found old r moved)

  -- a worker that was halted in a run has its number
  pub cut_number : (d made : ℕ) (old new : RunnerState T) → IsCutShort m d made old new → new.number ≡ old.number
  cut_number d made old new (inl (words, opening)) = opening.stays.number
  cut_number d made old new (inr short) = ran_number short.count short.opened new short.ran ∙ short.opening.stays.number

  -- a worker that has read a lock's word, and found it again behind its guard, may help the section that it names
  pub may_help : (place word : ℕ) (r watching : RunnerState T) → HasRead m place word r → is_free word ≡ false → Watched m place word true r watching → MayHelp m watching word
  may_help place word r watching read some watched = record {
    epoch = read.epoch;
    published = None;
    at = watched.at read.epoch read.at;
    names = some;
    sure = watched.sure refl;
    reserve = subst (λ (n : NodesState). 2 ≤ length n.free) (sym watched.keeps.nodes) read.reserve.nodes;
    blocks = (let had = for_one (length r.part.blocks.free) read.reserve.blocks in let more = watched.keeps.blocks in omega (arith, had, more));
    reached = watched.reached;
  }

  -- its own section, run to its end, is published no more: it may let its guard go
  module _ (section : Section) (t : Thunk) (o : Outcome) (trail : Agreed) (made : ℕ) (old ran : RunnerState T) (may : MayRunSection m old t section)
      (ends : EndsSo m section.descriptor t o trail made old ran) where
    pub ended_go : MayLetGo ran
    ended_go = record {
      epoch = may.epoch;
      at = subst (λ (p : Option Published). IsAt ran (stages.Entered may.epoch) p)
          (ap (λ (p : Option Published). kept_unless p section.descriptor) (sym may.at.published ∙ may.section.own)
          ∙ over_none may.section.published section.descriptor may.section.descriptor)
          (ended_at m section.descriptor t o trail made old ran ends may.epoch may.published may.at);
    }

    -- and then it leaves
    module _ (unguarded : RunnerState T) (goes : IsMade m (kinds.Guard None) ran unguarded) where
      pub ended_leave : HasLeave unguarded
      ended_leave = gone_leave m goes.found ran unguarded goes.event ended_go

      module _ (idle : RunnerState T) (exits : Exits m unguarded idle) where
        left : HasGone m ran idle
        left = gone m goes.found ran unguarded goes.event idle exits

        pub left_keeps : KeepsOwn ran idle
        left_keeps = gone_keeps m ran idle ended_go left

        -- it has no slot in its hand then
        pub left_tidy : IsEmptyHanded old → IsTidy idle
        left_tidy hand = gone_tidy m ran idle ended_go left (ended_hand m section.descriptor t o trail made old ran ends hand)

  -- whoever helped has its number, however it ended
  pub helped_number : (d : ℕ) (old new : RunnerState T) (end : RunEnd) → ((o : Outcome) (trail : Agreed) → end ≡ Done o trail → (t : Thunk) × (made : ℕ) × EndsSo m d t o trail made old new)
      → (end ≡ Halted → (made : ℕ) × IsCutShort m d made old new) → new.number ≡ old.number
  helped_number d old new (Done o trail) done halted = let ends = done o trail refl in ends.2.number
  helped_number d old new Halted done halted = let cut = halted refl in cut_number d cut.0 old new cut.1

-- a word with a value is not free
pub is_named : (n : ℕ) → n ≢ 0 → (n == 0) ≡ false
is_named zero some = absurd (some refl)
is_named (suc n) some = let e : (suc n == 0) ≡ false = grind (arith, nat_tests) in e
