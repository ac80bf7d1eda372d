-- A run that was just opened stands before the first step of its body.
use Rattle.std.proofs.Common.{◌≡◌, ℕ, ◌+◌, ◌≤◌, List, [], ◌∷◌, length, Bool, true, false, refl, sym, ap, ◌∙◌, arith}
use Rattle.std.specs.Prelude.{count_by, sum_by}
use Rattle.idem_cell.specs.machine_states.specs.body_terms.specs.Cost.{cost_of, step_cost}
use Rattle.idem_cell.specs.machine_states.specs.body_terms.specs.Line.{line, begins, registers_before}
use Rattle.idem_cell.specs.machine_states.specs.body_terms.specs.Run.{settled}
use Rattle.idem_cell.specs.machine_states.specs.body_terms.specs.Shape.{IsShaped, is_make, is_take}
use Rattle.idem_cell.specs.machine_states.specs.body_terms.specs.Trail.{Agreed}
use Rattle.idem_cell.specs.machine_states.specs.body_terms.specs.declared.outcome.Outcome.{Outcome}
use Rattle.idem_cell.specs.machine_states.specs.body_terms.specs.declared.step.Step.{Step}
use Rattle.idem_cell.specs.machine_states.specs.body_terms.specs.declared.thunk.Thunk.{Thunk}
use Rattle.idem_cell.specs.section_lines.proofs.Phases.{is_in_phases}
use Rattle.idem_cell.specs.section_lines.proofs.Resting.{rests_at}
use Rattle.idem_cell.specs.machine_states.specs.structure_laws.specs.Meaning.{Meaning}
use Rattle.idem_cell.specs.machine_states.specs.runner_parts.specs.State.{RunState, GuardsState}
use Rattle.idem_cell.specs.machine_states.specs.runner_steps.specs.Outside.{is_sure_of}
use Rattle.idem_cell.specs.machine_states.specs.runner_steps.specs.Sections.{thunk_of, setting_of}
use Rattle.idem_alloc.specs.commit_log.specs.next_steps.specs.Steps.{stock}
use Rattle.idem_alloc.specs.commit_log.specs.version_words.specs.RunnerState.{RunnerState}
use Rattle.section_runs.specs.Reached.{run_blocks, run_or, run_of, MayBegin}
use Rattle.section_runs.specs.Opened.{HasOpened, StandsOpened, opening}
use Rattle.section_runs.specs.Bodies.{body_blocks, body_links, body_of, IsBefore}
use Rattle.section_runs.specs.Ended.{rest_of}
use Rattle.section_runs.specs.declared.runs.RunEnd.{RunEnd}
use Rattle.section_runs.specs.declared.runs.RunEnd.TheVariants.{Done, Halted}
use Rattle.section_runs.proofs.Blocks.{run_few}

begins_none : (body : List Step) → begins body 0 ≡ 0
begins_none [] = refl
begins_none (s ∷ body) = refl

none_counted : (body : List Step) → (registers_before body 0).count ≡ 0
none_counted [] = refl
none_counted (s ∷ body) = refl

-- a run that has linked nothing has the free blocks
opened_room : (body blocks free has : ℕ) → body ≤ blocks → blocks ≤ free → has ≡ 0 + 0 + free → body ≤ has
opened_room body blocks free has few enough all = omega (arith, few, enough, all)

module _ {T : Type 0} (m : Meaning) (d : ℕ) (t : Thunk) (late : Bool) where
  pub stands_opened : (old r : RunnerState T) → MayBegin m old d → HasOpened m d t late old r → StandsOpened m d t late r
  stands_opened old r may hop = record {
    inside = hop.inside;
    words = hop.words;
    run = hop.run;
    thunk = hop.thunk;
    found = hop.found;
    sure = ap (λ (g : GuardsState). is_sure_of g d) hop.stays.guards ∙ may.sure;
  }

  module _ (r : RunnerState T) (is : StandsOpened m d t late r) where
    pub run_opening : run_of r ≡ opening d is.words
    run_opening = ap run_or is.run

    pub opened_body : body_of m r ≡ m.body t
    opened_body = ap (λ (y : RunState). m.body (thunk_of y.opened)) run_opening ∙ ap m.body is.thunk

    pub opened_thunk : thunk_of (run_of r).opened ≡ t
    opened_thunk = ap (λ (y : RunState). thunk_of y.opened) run_opening ∙ is.thunk

    pub opened_descriptor : d ≡ (run_of r).descriptor
    opened_descriptor = ap (λ (y : RunState). y.descriptor) (sym run_opening)

    pub opened_trail : (run_of r).trail ≡ []
    opened_trail = ap (λ (y : RunState). y.trail) run_opening

    pub opened_before : run_blocks ≤ length r.part.blocks.free → IsShaped (body_of m r) → IsBefore m 0 r
    opened_before blocks whole =
        let q = run_of r in
        let body = body_of m r in
        let start = (is_in_phases body whole).start in
        let none : q.at ≡ 0 = ap (λ (y : RunState). y.at) run_opening in
        record {
          running = is.inside;
          at = none ∙ (sym ((rests_at (setting_of r.layout q.descriptor) q.trail (line body)).stays 0 start) ∙ sym (ap (settled (setting_of r.layout q.descriptor) q.trail (line body)) (begins_none body)));
          count = ap length opened_trail ∙ sym (none_counted body);
          none = ap (λ (y : RunState). y.made) run_opening;
          unended = ap (λ (y : RunState). y.ended) run_opening;
          room = opened_room (body_blocks body) run_blocks (length r.part.blocks.free) (stock r.part q) (run_few body whole) blocks (ap (λ (y : RunState). stock r.part y) run_opening);
        }

-- what a run costs behind its opening, and with it
rest_by : (count sum links takes : ℕ) → count ≤ sum + links + (2 + takes) → 13 + count ≤ 13 + sum + (1 + (takes + 1)) + links
rest_by count sum links takes few = omega (arith, few)

pub rest_few : (body : List Step) (count : ℕ) → count ≤ rest_of body → 13 + count ≤ cost_of body + body_links body
rest_few body count few = rest_by count (sum_by step_cost body) (body_links body) (count_by is_take body) few

all_by : (made last sum links takes : ℕ) → made ≤ sum + links → last ≤ 1 + takes → 13 + (made + (last + 1)) ≤ 13 + sum + (1 + (takes + 1)) + links
all_by made last sum links takes one two = omega (arith, one, two)

pub all_few : (body : List Step) (made last : ℕ) → made ≤ sum_by step_cost body + body_links body → last ≤ 1 + count_by is_take body
    → 13 + (made + (last + 1)) ≤ cost_of body + body_links body
all_few body made last one two = all_by made last (sum_by step_cost body) (body_links body) (count_by is_take body) one two

pub few_makes : (body : List Step) (free : ℕ) → IsShaped body → 2 ≤ free → count_by is_make body ≤ free
few_makes body free shaped two = let k = shaped.makes in omega (arith, k, two)

-- how a run ended, by what is told
pub done_going : (b : Bool) (x : RunEnd) (o : Outcome) (trail : Agreed) → (b ≡ false → x ≡ Halted) → x ≡ Done o trail → b ≡ true
done_going true x o trail halted done = refl
done_going false x o trail halted done = absurd (let z = sym (halted refl) ∙ done in cc)

pub halted_going : (b : Bool) (x : RunEnd) (o : Outcome) (trail : Agreed) → (b ≡ true → x ≡ Done o trail) → x ≡ Halted → b ≡ false
halted_going false x o trail done halted = refl
halted_going true x o trail done halted = absurd (let z = sym (done refl) ∙ halted in cc)

abbrev outcome_in : RunEnd → Outcome → Outcome
outcome_in (Done o trail) other = o
outcome_in Halted other = other

abbrev trail_in : RunEnd → Agreed → Agreed
trail_in (Done o trail) other = trail
trail_in Halted other = other

pub same_end : (x : RunEnd) (o o' : Outcome) (trail trail' : Agreed) → x ≡ Done o trail → x ≡ Done o' trail' → (o ≡ o') × (trail ≡ trail')
same_end x o o' trail trail' one two = (ap (λ (y : RunEnd). outcome_in y o) (sym one ∙ two), ap (λ (y : RunEnd). trail_in y trail) (sym one ∙ two))
