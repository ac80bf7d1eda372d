-- What came of a step, by what its call gave.
use Rattle.std.proofs.Common.{◌≡◌, ◌≢◌, ℕ, ◌+◌, Bool, true, false, refl, sym, ap, ◌∙◌, subst, Option, Some, None}
use Rattle.std.specs.Prelude.{◌==◌, cond}
use Rattle.idem_cell.specs.machine_states.specs.body_terms.specs.Cost.{step_cost}
use Rattle.idem_cell.specs.machine_states.specs.body_terms.specs.Line.{micros, micro_at, log_words, registers_before}
use Rattle.idem_cell.specs.machine_states.specs.body_terms.specs.Run.{leaves}
use Rattle.idem_cell.specs.machine_states.specs.body_terms.specs.Shape.{IsStep, phase}
use Rattle.idem_cell.specs.machine_states.specs.body_terms.specs.Word.{version_of}
use Rattle.idem_cell.specs.machine_states.specs.body_terms.specs.Trail.{Agreed}
use Rattle.idem_cell.specs.machine_states.specs.body_terms.specs.declared.outcome.Outcome.{Outcome}
use Rattle.idem_cell.specs.machine_states.specs.body_terms.specs.declared.outcome.Outcome.TheVariants.{Answered, Busy, Stale, Spent}
use Rattle.idem_cell.specs.machine_states.specs.body_terms.specs.declared.step.Step.{Step}
use Rattle.idem_cell.specs.runner_gate.specs.Asks.{Asks}
use Rattle.idem_cell.specs.machine_states.specs.structure_laws.specs.Meaning.{Meaning}
use Rattle.idem_cell.specs.section_lines.specs.Rests.{is_test}
use Rattle.idem_cell.specs.machine_states.proofs.Steps.{some_same}
use Rattle.idem_cell.specs.machine_states.specs.runner_steps.specs.Sections.{setting_of}
use Rattle.idem_alloc.specs.commit_log.specs.version_words.specs.RunnerState.{RunnerState}
use Rattle.idem_alloc.specs.commit_log.specs.Halted.{IsThrough, IsHalted}
use Rattle.idem_alloc.specs.commit_log.specs.Links.{links_cost}
use Rattle.section_runs.specs.Reached.{run_of}
use Rattle.section_runs.specs.Bodies.{body_of, IsSameRun, GoesOn, Leaves}
use Rattle.section_runs.specs.Goes.{MayGoBy, MayGoAt, Went}
use Rattle.section_runs.specs.declared.passed.Passed.{Passed}
use Rattle.section_runs.specs.declared.passed.Passed.TheVariants.{On, Left, Halted}
use Rattle.section_runs.specs.declared.registers.Places.{Places}
use Rattle.section_runs.proofs.Going.{nodes_same}
use Rattle.section_runs.proofs.Testing.{goes, over, stood}
use Rattle.section_runs.proofs.Using.{going_on, going_not, going_still, never_left}

-- what a run does by how it leaves
abbrev pub by_left : Option Outcome → Passed
by_left None = On
by_left (Some o) = Left o

none_by : (left : Option Outcome) → by_left left ≡ On → left ≡ None
none_by None e = refl
none_by (Some o) e = absurd (let z = e in cc)

some_by : (left : Option Outcome) (o : Outcome) → by_left left ≡ Left o → left ≡ Some o
some_by None o e = absurd (let z = e in cc)
some_by (Some x) o e = ap (λ (p : Passed). Some (outcome_in p)) e
  where
    outcome_in : Passed → Outcome
    outcome_in (Left o) = o
    outcome_in _ = Answered 0

never_halts : (left : Option Outcome) → by_left left ≡ Halted → ⊥
never_halts None e = let z = e in cc
never_halts (Some o) e = let z = e in cc

-- as the calls of one step take it
pub as_step : {T : Type 0} (m : Meaning) (n : ℕ) (step s : Step) (kept : Places) (r : RunnerState T) → step ≡ s → MayGoAt m n step kept r → MayGoBy m s kept r
as_step m n step s kept r e may = subst (λ (x : Step). MayGoBy m x kept r) e (record { may = record { n = n; before = may.before; here = may.here }; registers = may.registers })

module _ {T : Type 0} (m : Meaning) (n : ℕ) (step s : Step) (kept : Places) (e : step ≡ s) (old new : RunnerState T) (may : MayGoAt m n step kept old) (passed : Passed)
    (trail trail' : Agreed) (halts halts' : ℕ) (asks asks' : Asks) (steps steps' : ℕ) where
  abbrev Was : Step → Type 0
  Was x = Went m n x passed old new trail trail' halts halts' asks asks' steps steps'

  -- what the step costs, and the links before its commits
  abbrev cost : ℕ
  cost = step_cost s + links_cost (log_words s) (run_of old)

  here : IsStep (body_of m old) n s
  here = may.here ∙ ap (λ (x : Step). Some x) e

  -- a step that goes on or is halted
  pub went_by : (going : Bool) → passed ≡ cond going On Halted → (going ≡ true → GoesOn m s old new) → (going ≡ true → trail'.words ≡ (run_of new).trail) → trail'.late ≡ trail.late
      → (going ≡ true → IsThrough m cost old new halts halts' asks asks' steps steps') → (going ≡ false → IsHalted m cost old new halts halts' asks asks' steps steps') → Was step
  went_by going told goes words late through halted = subst Was (sym e) (record {
    before = λ on. (goes (going_on going passed told on)).before n may.before here;
    nodes = λ on. (goes (going_on going passed told on)).nodes;
    over = λ o left. absurd (never_left going passed o told left);
    exit = λ o left. absurd (never_left going passed o told left);
    unchanged = λ o left. absurd (never_left going passed o told left);
    same = λ still. (goes (going_still going passed told still)).same;
    words = λ still. words (going_still going passed told still);
    late = late;
    through = λ still. through (going_still going passed told still);
    halted = λ stop. halted (going_not going passed told stop);
  })

  -- a step that may also leave
  pub went_all : (passed ≡ On → GoesOn m s old new) → ((o : Outcome) → passed ≡ Left o → Leaves m s o old new) → phase s ≡ 1 → (passed ≢ Halted → trail'.words ≡ (run_of new).trail) → trail'.late ≡ trail.late
      → (passed ≢ Halted → IsThrough m cost old new halts halts' asks asks' steps steps') → (passed ≡ Halted → IsHalted m cost old new halts halts' asks asks' steps steps') → Was step
  went_all goes leaves first words late through halted = subst Was (sym e) (record {
    before = λ on. (goes on).before n may.before here;
    nodes = λ on. (goes on).nodes;
    over = λ o left. (leaves o left).over n may.before here;
    exit = λ o left. first;
    unchanged = λ o left. (leaves o left).nodes;
    same = λ still. by passed refl still;
    words = words;
    late = late;
    through = through;
    halted = halted;
  })
    where
      by : (p : Passed) → passed ≡ p → passed ≢ Halted → IsSameRun m old new
      by On is still = (goes is).same
      by (Left o) is still = (leaves o is).same
      by Halted is still = absurd (still is)

-- a Want or a Fresh makes no step
module _ {T : Type 0} (m : Meaning) (n : ℕ) (step s : Step) (kept : Places) (e : step ≡ s) (r : RunnerState T) (may : MayGoAt m n step kept r) (test : is_test s ≡ true) (free : step_cost s ≡ 0)
    (left : Option Outcome) (is : left ≡ leaves (setting_of r.layout (run_of r).descriptor) (run_of r).trail (micro_at (micros (registers_before (body_of m r) n) s) 0))
    (passed : Passed) (trail : Agreed) (halts : ℕ) (asks : Asks) (steps : ℕ) where
  tested_here : IsStep (body_of m r) n s
  tested_here = may.here ∙ ap (λ (x : Step). Some x) e

  pub went_tested : passed ≡ by_left left → ((o : Outcome) (p w : ℕ) → left ≡ Some o → o ≡ Busy p w → ⊥) → trail.words ≡ (run_of r).trail → phase s ≡ 1
      → Went m n step passed r r trail trail halts halts asks asks steps steps
  went_tested told busy words first = subst (λ (x : Step). Went m n x passed r r trail trail halts halts asks asks steps steps) (sym e) (record {
    before = λ on. goes m r n s may.before tested_here test (sym is ∙ none_by left (sym told ∙ on));
    nodes = λ on. nodes_same s r.part.nodes r.part.nodes refl;
    over = λ o out. over m r n s may.before tested_here test o (sym is ∙ some_by left o (sym told ∙ out));
    exit = λ o out. first;
    unchanged = λ o out. refl;
    same = λ still. record { opened = refl; descriptor = refl; layout = refl };
    words = λ still. words;
    late = refl;
    through = λ still. stood m r (step_cost s + links_cost (log_words s) (run_of r)) halts asks steps;
    halted = λ stop. absurd (never_halts left (sym told ∙ stop));
  })

-- which check it is
pub want_left : (place expected read : ℕ) → cond (read == expected) On (Left (Stale place expected read)) ≡ by_left (cond (read == expected) None (Some (Stale place expected read)))
want_left place expected read = by (read == expected)
  where
    by : (b : Bool) → cond b On (Left (Stale place expected read)) ≡ by_left (cond b None (Some (Stale place expected read)))
    by true = refl
    by false = refl

pub fresh_left : (place read vm : ℕ) → cond (version_of read == vm) (Left (Spent place read)) On ≡ by_left (cond (version_of read == vm) (Some (Spent place read)) None)
fresh_left place read vm = by (version_of read == vm)
  where
    by : (b : Bool) → cond b (Left (Spent place read)) On ≡ by_left (cond b (Some (Spent place read)) None)
    by true = refl
    by false = refl

pub want_busy : (place expected read : ℕ) (o : Outcome) (p w : ℕ) → cond (read == expected) None (Some (Stale place expected read)) ≡ Some o → o ≡ Busy p w → ⊥
want_busy place expected read o p w e busy = by (read == expected) e
  where
    by : (b : Bool) → cond b None (Some (Stale place expected read)) ≡ Some o → ⊥
    by true e = let z = e in cc
    by false e = let z = some_same (Stale place expected read) o e ∙ busy in cc

pub fresh_busy : (place read vm : ℕ) (o : Outcome) (p w : ℕ) → cond (version_of read == vm) (Some (Spent place read)) None ≡ Some o → o ≡ Busy p w → ⊥
fresh_busy place read vm o p w e busy = by (version_of read == vm) e
  where
    by : (b : Bool) → cond b (Some (Spent place read)) None ≡ Some o → ⊥
    by true e = let z = some_same (Spent place read) o e ∙ busy in cc
    by false e = let z = e in cc
