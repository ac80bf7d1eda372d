-- Whoever stops, the others are served, where a run has room for all its requests.
use Rattle.std.specs.Prelude.{◌⊎◌, ◌%◌, slice_get}
use Rattle.std.proofs.Common.{◌≡◌, ◌≢◌, ℕ, ◌<◌, Bool, List, Some, ap, ◌∙◌, ⊎_elim, inl, inr}
use Rattle.machine_states.specs.structure_laws.specs.Meaning.{Meaning}
use Rattle.version_words.specs.machine_invariant.specs.After.{AreAllowed}
use Rattle.version_words.specs.TableState.{WordsState}
use Rattle.threaded_runs.specs.Room.{HasRoomForAll}
use Rattle.threaded_runs.specs.Runs.{AreServed}
use Rattle.threaded_runs.specs.free_serving.specs.serving.specs.declared.answers.Served.{Served}
use Rattle.threaded_runs.specs.free_serving.specs.serving.specs.declared.answers.Served.TheVariants as answers
use Rattle.flock_tool.specs.Complete.{OthersAreServed, SparesOthers}
use Rattle.flock_tool.specs.Finish.{finish_by, finish_status}
use Rattle.flock_tool.specs.Runs.{IsRunStatus}
use Rattle.flock_tool.proofs.Enough.{LacksVersions, five_lacks, six_lacks}
use Rattle.flock_tool.proofs.Enough.LacksVersions.{Met, Wears}
use Rattle.flock_tool.proofs.Finishing.{finish_run}
use Rattle.flock_tool.proofs.Whole.{answer_for, stamped}

module _ {T : Type 0} {reads : Bool} (m : Meaning) (w : WordsState T) (allowed : AreAllowed w.requests) (waits : Bool) (list : List Served)
    (served : AreServed m w waits reads list) (some : 0 < w.layout.runners) where
  -- a request without an entry is one of a runner that was halted
  others_served : HasRoomForAll m w → OthersAreServed m w list
  others_served room number q at none = by own.0 own.1 (served.others room (q.trace % w.layout.runners) own.0 own.1)
    where
      own : (answer : Served) × (slice_get list (q.trace % w.layout.runners) ≡ Some answer)
      own = answer_for m w allowed waits list served some q

      by : (answer : Served) → slice_get list (q.trace % w.layout.runners) ≡ Some answer → (answer ≡ answers.All) ⊎ (answer ≡ answers.Halted)
          → slice_get list (q.trace % w.layout.runners) ≡ Some answers.Halted
      by answer there (inl all) = absurd (stamped m w allowed waits list served some number q at (there ∙ ap Some all) none)
      by answer there (inr halted) = there ∙ ap Some halted

  -- no runner lacked slots or versions
  never_five : HasRoomForAll m w → (unserved : ℕ) → finish_status (finish_by list unserved) ≢ 5
  never_five room unserved five =
      let lacks = five_lacks list unserved five in
      ⊎_elim (λ all. absurd (let z = all in cc)) (λ halted. absurd (let z = halted in cc)) (served.others room lacks.0 (answers.Short lacks.1) lacks.2)

  never_six : HasRoomForAll m w → (unserved : ℕ) → finish_status (finish_by list unserved) ≢ 6
  never_six room unserved six = by (six_lacks list unserved six)
    where
      by : LacksVersions list → ⊥
      by (Met i place word at) = ⊎_elim (λ all. absurd (let z = all in cc)) (λ halted. absurd (let z = halted in cc)) (served.others room i (answers.Spent place word) at)
      by (Wears i short at worn) = ⊎_elim (λ all. absurd (let z = all in cc)) (λ halted. absurd (let z = halted in cc)) (served.others room i (answers.Short short) at)

  pub spares_others : (unserved number : ℕ) → number ≡ finish_status (finish_by list unserved) → SparesOthers m w list number
  spares_others unserved number is = record { statuses = by (finish_run (finish_by list unserved)).0; served = others_served }
    where
      by : IsRunStatus (finish_status (finish_by list unserved)) → HasRoomForAll m w → (number ≡ 0) ⊎ (number ≡ 1) ⊎ (number ≡ 9)
      by (inl zero) room = inl (is ∙ zero)
      by (inr (inl one)) room = inr (inl (is ∙ one))
      by (inr (inr (inl five))) room = absurd (never_five room unserved five)
      by (inr (inr (inr (inl six)))) room = absurd (never_six room unserved six)
      by (inr (inr (inr (inr nine)))) room = inr (inr (is ∙ nine))

  -- where the sink failed
  pub spares_at_nine : (number : ℕ) → number ≡ 9 → SparesOthers m w list number
  spares_at_nine number nine = record { statuses = λ room. inr (inr nine); served = others_served }
