-- The commit of a loaded word.
use Rattle.std.proofs.Common.{◌≡◌, ℕ, length, Bool, true, refl, sym, ap, ◌∙◌, Option, Some}
use Rattle.machine_states.specs.body_terms.specs.declared.micro.Micro.{Micro}
use Rattle.machine_states.specs.body_terms.specs.declared.micro.Micro.TheVariants as micros
use Rattle.machine_states.specs.body_terms.specs.Run.{written_once}
use Rattle.machine_states.specs.table_words.specs.declared.spot.Spot.{Spot}
use Rattle.machine_states.specs.table_words.specs.declared.access.Access.{Access}
use Rattle.machine_states.specs.table_words.specs.declared.access.Access.TheVariants.{Exchanges}
use Rattle.machine_states.specs.table_words.specs.Limits.{IsWithinLimits}
use Rattle.machine_states.specs.table_words.specs.Access.{written, wins}
use Rattle.machine_states.specs.table_words.specs.Seen.{seen}
use Rattle.machine_states.specs.structure_laws.specs.Meaning.{Meaning}
use Rattle.machine_states.specs.structure_laws.specs.Laws.{Laws}
use Rattle.machine_states.specs.runner_parts.specs.declared.event.EventKind.TheVariants as kinds
use Rattle.machine_states.specs.runner_parts.specs.State.{RunState, PartState}
use Rattle.machine_states.specs.body_terms.specs.block_words.specs.Blocks.{log_spot}
use Rattle.machine_states.specs.runner_steps.specs.Sections.{next_of}
use Rattle.machine_states.specs.runner_steps.specs.Asks.{sizes_for}
use Rattle.machine_states.specs.runner_steps.specs.AfterInRun.{agrees}
use Rattle.machine_states.proofs.Steps.{some_same}
use Rattle.version_words.specs.machine_invariant.specs.After.{AreAllowed}
use Rattle.version_words.specs.RunnerState.{RunnerState}
use Rattle.version_words.specs.TableState.{TableState, IsOf}
use Rattle.version_words.specs.Events.{met_by, Commits}
use Rattle.version_words.specs.Place.{next_log}
use Rattle.next_steps.specs.Stages.{blocks_behind}
use Rattle.commit_log.specs.Runs.{IsRunning, Stepped}
use Rattle.commit_log.specs.Committed.{commits_loaded, MayCommit, HasCommitted}
use Rattle.commit_log.proofs.Running.{may_make, goes_behind, unneeded, then_made}

module _ {T : Type 0} (m : Meaning) (laws : Laws m) (t : TableState T) (limits : IsWithinLimits t.layout) (allowed : AreAllowed t.requests) (r : RunnerState T) (own : IsOf t r) where
  -- what the exchange meets
  abbrev Met : ℕ → Type 0
  Met proposal = met_by m r kinds.Commit ≡ Some (next_log r.part.run, Exchanges 0 proposal)

  met_at : (q : RunState) (is : IsRunning m r q) (log proposal : ℕ) → log ≡ length q.trail → proposal ≡ q.word
      → met_by m r kinds.Commit ≡ Some (log_spot q.descriptor q.links log, Exchanges 0 q.word) → Met proposal
  met_at q is log proposal at word met = met ∙ (λ i. Some (log_spot q.descriptor q.links (at i), Exchanges 0 (sym word i)))
      ∙ ap (λ (o : Option RunState). Some (next_log o, Exchanges 0 proposal)) (sym is.inside.running)

  pub may_commit : (proposal : ℕ) (q : RunState) → MayCommit m r proposal q → Met proposal
  may_commit proposal q may = by may.micro may.loaded may.next
    where
      by : (micro : Micro) → commits_loaded micro ≡ true → next_of m q ≡ micro → Met proposal
      by (micros.Commit place log) loaded ahead = met_at q may.running log proposal
          (goes_behind m laws t limits allowed r own q may.running (micros.Commit place log) ahead log refl) may.word
          (may_make m laws t limits allowed r own q may.running (micros.Commit place log) ahead
          (unneeded m laws t limits allowed r own q may.running (micros.Commit place log) ahead may.linked) refl)
      by (micros.NestedCommit place log) loaded ahead = met_at q may.running log proposal
          (goes_behind m laws t limits allowed r own q may.running (micros.NestedCommit place log) ahead log refl) may.word
          (may_make m laws t limits allowed r own q may.running (micros.NestedCommit place log) ahead
          (unneeded m laws t limits allowed r own q may.running (micros.NestedCommit place log) ahead may.linked) refl)
      by _ loaded ahead = absurd (let z = loaded in cc)

  pub then_committed : (proposal : ℕ) (q : RunState) → MayCommit m r proposal q → (agreed : ℕ) (won : Bool) (r' : RunnerState T)
      → Commits m kinds.Commit agreed won r r' → HasCommitted m agreed won r r' q
  then_committed proposal q may agreed won r' made = by may.micro may.loaded may.next
    where
      met_is : made.event.met ≡ (next_log r.part.run, Exchanges 0 proposal)
      met_is = some_same made.event.met (next_log r.part.run, Exchanges 0 proposal) (sym made.event.asked ∙ may_commit proposal q may)

      log_is : made.event.met ≡ (log_spot q.descriptor q.links (length q.trail), Exchanges 0 q.word)
      log_is = met_is ∙ (λ i. (next_log (may.running.inside.running i), Exchanges 0 (may.word i)))

      told : agreed ≡ written_once made.found q.word
      told = made.told ∙ ap (λ (x : Spot × Access). written x.1 made.found) log_is

      -- with the step itself, whichever of the two it is
      has : (micro : Micro) → commits_loaded micro ≡ true → (step : Stepped m q micro made.found r r')
          → r'.part.run ≡ Some (agrees m r.layout q (written_once made.found q.word)) → HasCommitted m agreed won r r' q
      has micro loaded step runs = record {
        micro = micro;
        found = made.found;
        step = step;
        loaded = loaded;
        told = told;
        won = made.first ∙ ap (λ (x : Spot × Access). wins x.1 made.found) log_is;
        stands = record {
          world = made.event.shown.world;
          reached = made.event.shown.reached;
          own = made.event.shown.own;
          word = ap (λ (s : Spot). seen (sizes_for m r'.layout r'.requests) made.event.shown.world.words s) (sym (ap (λ (x : Spot × Access). x.0) log_is))
              ∙ (made.event.shown.word ∙ sym made.told);
        };
        goes_on = step.goes_on (agrees m r.layout q agreed) (runs ∙ ap (λ n. Some (agrees m r.layout q n)) (sym told));
      }

      by : (micro : Micro) → commits_loaded micro ≡ true → next_of m q ≡ micro → HasCommitted m agreed won r r' q
      by (micros.Commit place log) loaded ahead =
          let step = then_made m laws t limits allowed r own q may.running (micros.Commit place log) ahead
          (unneeded m laws t limits allowed r own q may.running (micros.Commit place log) ahead may.linked) refl made.found r' made.event in
          has (micros.Commit place log) loaded step step.behind.run
      by (micros.NestedCommit place log) loaded ahead =
          let step = then_made m laws t limits allowed r own q may.running (micros.NestedCommit place log) ahead
          (unneeded m laws t limits allowed r own q may.running (micros.NestedCommit place log) ahead may.linked) refl made.found r' made.event in
          has (micros.NestedCommit place log) loaded step step.behind.run
      by _ loaded ahead = absurd (let z = loaded in cc)

-- the commit of a loaded word changes no block
loaded_blocks : (m : Meaning) (p : PartState) (q : RunState) (micro : Micro) → commits_loaded micro ≡ true → blocks_behind m p q micro ≡ p.blocks
loaded_blocks m p q (micros.Commit place log) loaded = refl
loaded_blocks m p q (micros.NestedCommit place log) loaded = refl
loaded_blocks m p q _ loaded = absurd (let z = loaded in cc)

pub commit_blocks : {T : Type 0} (m : Meaning) (a b : RunnerState T) (q : RunState) (agreed : ℕ) (first : Bool) → HasCommitted m agreed first a b q → b.part.blocks ≡ a.part.blocks
commit_blocks m a b q agreed first has = has.step.behind.blocks ∙ loaded_blocks m a.part q has.micro has.loaded
