-- One more job, and one more result.
use Rattle.std.specs.Prelude.{Bool}
use Rattle.std.proofs.Common.{◌≡◌, ℕ, ◌<◌, List, [], ◌∷◌, ◌++◌, length, get_or, subst, sym, ap, ◌∙◌, refl, arith, Option, None}
use Rattle.machine_states.specs.structure_laws.specs.Meaning.{Meaning}
use Rattle.version_words.specs.RunnerState.{RunnerState}
use Rattle.version_words.specs.Shown.{left_part}
use Rattle.version_words.specs.TableState.{TableState}
use Rattle.version_words.specs.Events.{joined_by}
use Rattle.settled_tables.specs.settling.specs.try_lock.specs.Planning.{Planning}
use Rattle.settled_tables.specs.settling.specs.runner_gate.specs.Asks.{Asks, unasked_of}
use Rattle.free_serving.specs.serving.specs.declared.answers.Served.{Served}
use Rattle.threaded_runs.specs.declared.job.Job.{Job}
use Rattle.threaded_runs.specs.declared.job.Finished.{Finished}
use Rattle.threaded_runs.specs.Jobs.{IsSeated, AllSeated, AllUnhalted, AllGiven, AreBack, AllRun, IsKept, AllKept}
use Rattle.settled_tables.proofs.Keeping.{keeps_part, keeps_parts}
use Rattle.settled_tables.proofs.Working.{one_more}

module _ {T H : Type 0} where
  pub seated_more : (planning : Planning) (t : TableState T) (jobs jobs' : List (Job T H)) (j : Job T H) (worker : ℕ) → jobs' ≡ jobs ++ j ∷ [] → length jobs ≡ worker → IsSeated planning t worker j
      → AllSeated planning t jobs → AllSeated planning t jobs'
  seated_more planning t jobs jobs' j worker is len one all = one_more (IsSeated planning t) jobs jobs' j is all (subst (λ (k : ℕ). IsSeated planning t k j) (sym len) one)

  pub unhalted_more : (halts : H → ℕ) (jobs jobs' : List (Job T H)) (j : Job T H) → jobs' ≡ jobs ++ j ∷ [] → halts j.gate ≡ 0 → AllUnhalted halts jobs → AllUnhalted halts jobs'
  unhalted_more halts jobs jobs' j is one all = one_more (λ k (u : Job T H). halts u.gate ≡ 0) jobs jobs' j is all one

  pub gates_more : (asks : H → Asks) (entries : List (Option ℕ)) (jobs jobs' : List (Job T H)) (j : Job T H) (worker : ℕ) → jobs' ≡ jobs ++ j ∷ [] → length jobs ≡ worker
      → asks j.gate ≡ unasked_of worker (get_or entries worker None) → AllGiven asks entries jobs → AllGiven asks entries jobs'
  gates_more asks entries jobs jobs' j worker is len one all = one_more (λ k (u : Job T H). asks u.gate ≡ unasked_of k (get_or entries k None)) jobs jobs' j is all
      (subst (λ (k : ℕ). asks j.gate ≡ unasked_of k (get_or entries k None)) (sym len) one)

  -- one more worker was joined, which answered this
  pub kept_more : (m : Meaning) (keeper keeper' : RunnerState T) (answers answers' : List Served) (finished : List (Finished T H)) (f : Finished T H) → keeper' ≡ joined_by m f.runner keeper
      → answers' ≡ answers ++ f.answer ∷ [] → ((d : Finished T H) → get_or finished (length answers) d ≡ f) → f.runner.number ≡ length answers → AllKept keeper answers finished → AllKept keeper' answers' finished
  kept_more m keeper keeper' answers answers' finished f joins is at number all i a d low = one_more (λ k (u : Served). IsKept keeper' k u (get_or finished k d)) answers answers' f.answer is
      (λ k u few. let was = all k u d few in record {
        same = was.same;
        part = keeps_parts m keeper f.runner keeper' 0 0 joins k (λ e. omega (arith, e, number, few)) ∙ was.part;
      })
      (subst (λ (g : Finished T H). IsKept keeper' (length answers) f.answer g) (sym (at d)) (record {
        same = refl;
        part = ap (left_part keeper'.joined) (sym number) ∙ keeps_part m keeper f.runner keeper' 0 0 joins;
      })) i a low

-- some element of a list that isn't empty
pub some_of : {X : Type 0} (xs : List X) (i : ℕ) → i < length xs → X
some_of [] i below = absurd (omega (arith, below))
some_of (x ∷ xs) i below = x

module _ {T H : Type 0} (m : Meaning) (planning : Planning) (retry_short reads_free : Bool) (halts : H → ℕ) (asks : H → Asks) (t : TableState T) where
  -- the workers come back as they were seated
  pub are_back : (jobs : List (Job T H)) (finished : List (Finished T H)) → length finished ≡ length jobs → AllSeated planning t jobs → AllUnhalted halts jobs
      → AllRun m planning retry_short reads_free halts asks t jobs finished → AreBack halts t finished
  are_back jobs finished len seated unasked run i d low =
      let few : i < length jobs = subst (λ (n : ℕ). i < n) len low in
      let j = some_of jobs i few in
      let r = run i j d few in let s = seated i j few in let u = unasked i j few in record {
        own = r.own;
        number = r.serves.left.knows.number ∙ s.number;
        halted = r.halted u;
        went = r.went u;
      }
