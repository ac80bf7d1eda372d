-- What a worker keeps of the lock's word by which a read of its was refused, since too few versions were left behind it.
use Rattle.std.specs.Prelude.{Bool, true, false, if◌then◌else◌}
use Rattle.std.proofs.Common.{◌≡◌, ℕ, sym, ap, ◌∙◌, inl}
use Rattle.machine_states.specs.map_history.specs.declared.op.Request.{Request}
use Rattle.machine_states.specs.body_terms.specs.Word.{is_free}
use Rattle.machine_states.specs.structure_laws.specs.Meaning.{Meaning}
use Rattle.machine_states.specs.structure_laws.specs.Scene.{Readings}
use Rattle.version_words.specs.RunnerState.{RunnerState}
use Rattle.settled_tables.specs.settling.specs.try_lock.specs.Planning.{Planning}
use Rattle.settled_tables.specs.settling.specs.try_lock.specs.declared.planned.Planned.{Planned}
use Rattle.settled_tables.specs.settling.specs.try_lock.specs.declared.planned.Planned.TheVariants as plans
use Rattle.free_serving.specs.serving.proofs.Spent.{WasRead, plan_read}
use Rattle.lone_reads.specs.seq_read.specs.Course.{of_plan, HasPlanned, IsRefused, ByPlan, ByBody, ByCell, ByLock}
use Rattle.lone_reads.specs.seq_read.specs.Reads.{IsTurnedAway}
use Rattle.lone_reads.specs.seq_read.specs.declared.answers.Read.TheVariants as reads
use Rattle.threaded_runs.proofs.Stopping.{IsKeptSpent}

spent_same : (p q a b : ℕ) → reads.Spent p a ≡ reads.Spent q b → (p ≡ q) × (a ≡ b)
spent_same p q a b e = (cc, cc)

no_lock : (place word lock expected read : ℕ) (b : Bool) → reads.Spent place word ≡ (if b then reads.Stale lock expected read else reads.Busy lock read) → ⊥
no_lock place word lock expected read true e = let z = e in cc
no_lock place word lock expected read false e = let z = e in cc

module _ {T : Type 0} (m : Meaning) (planning : Planning) (request : Request) (place word : ℕ) (old new : RunnerState T)
    (away : IsTurnedAway m planning request (reads.Spent place word) old new) where
  -- its plan was refused: the lock's second word and a body's cells never refuse a read so
  by_plan : (readings : Readings) (refusal : Planned) → HasPlanned m planning request readings refusal old away.cut
      → reads.Spent place word ≡ of_plan refusal → WasRead m place word new
  by_plan readings (plans.Spent p w) planned same =
      let ends = spent_same place p word w same in
      plan_read m place word new away.cut away.exits planned.reading.at.resting
      planning old.layout request.op readings p w planned.entered planned.walked planned.answers
      (sym (ap (λ (y : RunnerState T). y.layout) away.exits.announce.event.made ∙ planned.reading.still.layout)) (sym ends.0) (sym ends.1)
  by_plan readings (plans.Busy p w) planned same = absurd (let z = same in cc)
  by_plan readings (plans.Stale p expected read) planned same = absurd (let z = same in cc)
  by_plan readings (plans.Far loads) planned same = absurd (let z = same in cc)
  by_plan readings (plans.Thunk thunk) planned same = absurd (let z = same in cc)
  by_plan readings plans.Halted planned same = absurd (let z = same in cc)

  kept : IsRefused m planning request (reads.Spent place word) old away.cut → WasRead m place word new
  kept (ByPlan is) = by_plan is.readings is.refusal is.plans is.same
  kept (ByBody at same is) = absurd (let z = same in cc)
  kept (ByCell p x v same is) = absurd (let z = same in cc)
  kept (ByLock is) = absurd (no_lock place word is.thunk.lock is.thunk.word is.word (is_free is.word) is.same)

  -- the exit keeps what was read
  pub kept_read : IsKeptSpent m new place word
  kept_read = inl (kept away.cause)
