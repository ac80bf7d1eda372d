-- A run goes through its body.
use Rattle.std.proofs.Common.{◌≡◌, ℕ, zero, suc, ◌+◌, ◌-◌, ◌≤◌, ◌<◌, List, [], ◌∷◌, ◌++◌, length, length-append, append_assoc, take, Bool, true, false, refl, sym, ap, ◌∙◌, subst, arith}
use Rattle.std.specs.Prelude.{◌*◌, cond, count_by, sum_by}
use Rattle.std.proofs.lemmas.List.Sums.{sum_by-cons}
use Rattle.idem_cell.specs.section_lines.specs.small_lemmas.proofs.Lists.{append_none}
use Rattle.idem_cell.specs.machine_states.specs.body_terms.specs.declared.micro.Micro.{Micro}
use Rattle.idem_cell.specs.machine_states.specs.body_terms.specs.declared.micro.Micro.TheVariants as micros
use Rattle.idem_cell.specs.machine_states.specs.body_terms.specs.declared.outcome.Outcome.{Outcome}
use Rattle.idem_cell.specs.machine_states.specs.body_terms.specs.declared.outcome.Outcome.TheVariants as outcomes
use Rattle.idem_cell.specs.machine_states.specs.body_terms.specs.declared.step.Step.{Step}
use Rattle.idem_cell.specs.machine_states.specs.body_terms.specs.declared.step.Step.TheVariants.{Load, Want, Fresh, Take, Make, Stamp, Store, Retire, Answer}
use Rattle.idem_cell.specs.machine_states.specs.body_terms.specs.Cost.{step_cost}
use Rattle.idem_cell.specs.machine_states.specs.body_terms.specs.Line.{Registers, no_registers, line, micro_at, is_event, log_words, releases, registers_before}
use Rattle.idem_cell.specs.machine_states.specs.body_terms.specs.Shape.{IsStep, IsShaped, phase, is_make, is_retire, is_take}
use Rattle.idem_cell.specs.machine_states.specs.body_terms.proofs.LineLemmas.{take_next, take_all, past_line, registers_before_next, count_after}
use Rattle.idem_cell.specs.machine_states.specs.body_terms.proofs.RegisterLemmas.{count_rises}
use Rattle.idem_cell.specs.machine_states.specs.table_words.specs.Places.{part_words}
use Rattle.idem_cell.specs.section_lines.specs.Rests.{taken_releases}
use Rattle.idem_cell.specs.section_lines.specs.Rests as resting
use Rattle.idem_cell.specs.section_lines.proofs.Places.{step_inside}
use Rattle.idem_cell.specs.section_lines.proofs.Resting.{run_rests}
use Rattle.idem_cell.specs.machine_states.specs.structure_laws.specs.Meaning.{Meaning}
use Rattle.idem_cell.specs.machine_states.specs.body_terms.specs.block_words.specs.Blocks.{blocks_for}
use Rattle.idem_cell.specs.machine_states.specs.runner_parts.specs.State.{RunState, NodesState}
use Rattle.idem_cell.specs.machine_states.specs.runner_steps.specs.Sections.{thunk_of, setting_of, outcome_or, reply_in}
use Rattle.idem_cell.specs.machine_states.specs.body_terms.specs.Run.{leaves}
use Rattle.idem_alloc.specs.commit_log.specs.version_words.specs.RunnerState.{RunnerState}
use Rattle.idem_alloc.specs.commit_log.specs.Links.{link_cost, links_cost}
use Rattle.idem_alloc.specs.commit_log.proofs.Linking.{cost_next}
use Rattle.section_runs.specs.Reached.{run_of}
use Rattle.section_runs.specs.Bodies.{body_words, body_links, NodesStepped, NodesGone, body_of, IsBefore, IsSameRun, IsOver, HasWalked}
use Rattle.section_runs.specs.declared.passed.Walked.{Walked}
use Rattle.section_runs.specs.declared.passed.Walked.TheVariants.{Over, Stopped}

-- what is summed over the first steps
module _ (f : Step → ℕ) where
  sum_last : (steps : List Step) (step : Step) → sum_by f (steps ++ step ∷ []) ≡ sum_by f steps + f step
  sum_last [] step = sum_by-cons f step [] ∙ (let e : f step + 0 ≡ 0 + f step = omega arith in e)
  sum_last (s ∷ steps) step = let a = sum_by-cons f s (steps ++ step ∷ []) in let b = sum_by-cons f s steps in let c = sum_last steps step in omega (arith, a, b, c)

  pub sum_next : (steps : List Step) (n : ℕ) (step : Step) → IsStep steps n step → sum_by f (take (suc n) steps) ≡ sum_by f (take n steps) + f step
  sum_next steps n step here = ap (sum_by f) (take_next steps n step here) ∙ sum_last (take n steps) step

  pub sum_most : (steps : List Step) (n : ℕ) → sum_by f (take n steps) ≤ sum_by f steps
  sum_most [] zero = omega arith
  sum_most [] (suc n) = omega arith
  sum_most (s ∷ steps) zero = omega arith
  sum_most (s ∷ steps) (suc n) = let a = sum_by-cons f s (take n steps) in let b = sum_by-cons f s steps in let c = sum_most steps n in omega (arith, a, b, c)

  pub sum_all : (steps : List Step) (n : ℕ) → length steps ≤ n → sum_by f (take n steps) ≡ sum_by f steps
  sum_all steps n all = ap (sum_by f) (take_all steps n all)

  -- what a step adds isn't more than is left
  pub sum_room : (steps : List Step) (n : ℕ) (step : Step) → IsStep steps n step → sum_by f (take n steps) + f step ≤ sum_by f steps
  sum_room steps n step here = let a = sum_next steps n step here in let b = sum_most steps (suc n) in omega (arith, a, b)

-- what the links cost at most of the words on which the first steps agree
abbrev pub links_at : List Step → ℕ → ℕ
links_at body n = link_cost * blocks_for (registers_before body n).count

added : (a b c d e f : ℕ) → e ≡ a + c → b + d ≤ f → a + b + (c + d) ≤ e + f
added a b c d e f one two = omega (arith, one, two)

within_all : (a b c d e f g : ℕ) → a + c ≤ e → b + d ≤ f → f ≤ g → a + b + (c + d) ≤ e + g
within_all a b c d e f g one two low = omega (arith, one, two, low)

both_most : (a b c d : ℕ) → a ≤ c → b ≤ d → a + b ≤ c + d
both_most a b c d one two = omega (arith, one, two)

all_links : (words all : ℕ) → words ≤ all → link_cost * blocks_for words ≤ link_cost * blocks_for all
all_links words all low = omega (arith, low)

module _ (body : List Step) where
  links_most : (n : ℕ) → n ≤ length body → links_at body n ≤ body_links body
  links_most n within = all_links (registers_before body n).count (body_words body) (count_rises body n (length body) within (omega arith))

  -- and the steps themselves
  pub walk_most : (n : ℕ) → n ≤ length body → sum_by step_cost (take n body) + links_at body n ≤ sum_by step_cost body + body_links body
  walk_most n within = both_most (sum_by step_cost (take n body)) (links_at body n) (sum_by step_cost body) (body_links body) (sum_most step_cost body n) (links_most n within)

  -- with one more, before which the run is this one
  module _ (n : ℕ) (step : Step) (here : IsStep body n step) (q : RunState) (words : length q.trail ≡ (registers_before body n).count) (enough : length q.trail ≤ part_words * suc (length q.links)) where
    links_next : links_at body n + links_cost (log_words step) q ≤ links_at body (suc n)
    links_next =
        let next : (registers_before body n).count + log_words step ≡ (registers_before body (suc n)).count =
        sym (ap (λ (g : Registers). g.count) (registers_before_next body n step here) ∙ count_after (registers_before body n) step) in
        subst (λ k. links_at body n + links_cost (log_words step) q ≤ link_cost * blocks_for k) next
        (subst (λ k. link_cost * blocks_for k + links_cost (log_words step) q ≤ link_cost * blocks_for (k + log_words step)) words (cost_next q enough (log_words step)))

    pub walk_next : sum_by step_cost (take n body) + links_at body n + (step_cost step + links_cost (log_words step) q)
        ≤ sum_by step_cost (take (n + 1) body) + links_at body (n + 1)
    walk_next =
        let next : suc n ≡ n + 1 = omega arith in
        subst (λ k. sum_by step_cost (take n body) + links_at body n + (step_cost step + links_cost (log_words step) q) ≤ sum_by step_cost (take k body) + links_at body k) next
        (added (sum_by step_cost (take n body)) (links_at body n) (step_cost step) (links_cost (log_words step) q) (sum_by step_cost (take (suc n) body)) (links_at body (suc n))
        (sum_next step_cost body n step here) links_next)

    pub walk_room : sum_by step_cost (take n body) + links_at body n + (step_cost step + links_cost (log_words step) q) ≤ sum_by step_cost body + body_links body
    walk_room = within_all (sum_by step_cost (take n body)) (links_at body n) (step_cost step) (links_cost (log_words step) q) (sum_by step_cost body) (links_at body (suc n)) (body_links body)
        (sum_room step_cost body n step here) links_next (links_most (suc n) (let i = step_inside body n step here in omega (arith, i)))

abbrev pub made_by : Step → ℕ
made_by step = cond (is_make step) 1 0

abbrev pub retired_by : Step → ℕ
retired_by step = cond (is_retire step) 1 0

-- before the first Make nothing is made or retired
early_makes : (step : Step) → phase step ≤ 1 → is_make step ≡ false
early_makes (Load place into) low = refl
early_makes (Want reg word) low = refl
early_makes (Fresh reg) low = refl
early_makes (Take place word) low = refl
early_makes (Make init into) low = absurd (omega (arith, low))
early_makes Stamp low = refl
early_makes (Store reg value) low = refl
early_makes (Retire slot) low = refl
early_makes (Answer reply) low = refl

early_retires : (step : Step) → phase step ≤ 1 → is_retire step ≡ false
early_retires (Load place into) low = refl
early_retires (Want reg word) low = refl
early_retires (Fresh reg) low = refl
early_retires (Take place word) low = refl
early_retires (Make init into) low = refl
early_retires Stamp low = refl
early_retires (Store reg value) low = refl
early_retires (Retire slot) low = absurd (omega (arith, low))
early_retires (Answer reply) low = refl

-- before the first step no register is set
pub none_before : (body : List Step) → registers_before body 0 ≡ no_registers
none_before [] = refl
none_before (s ∷ body) = refl

-- the own node slots, step by step
pub nodes_none : (body : List Step) (n : NodesState) → NodesGone body 0 n n
nodes_none body n = record {
  free = omega arith;
  hand = refl;
  tests = λ none. none;
  more = [];
  limbo = sym (append_none n.limbo);
  few = omega arith;
  early = λ none. refl;
}

pub nodes_more : (body : List Step) (n : ℕ) (step : Step) (old a b : NodesState) → IsStep body n step → NodesGone body n old a → NodesStepped step a b → NodesGone body (suc n) old b
nodes_more body n step old a b here one two =
    let makes = sum_next made_by body n step here in
    let retires = sum_next retired_by body n step here in
    record {
      free = let x = one.free in let y = two.free in omega (arith, x, y, makes);
      hand = two.hand ∙ one.hand;
      tests = λ none. two.tests (one.tests none);
      more = one.more ++ two.more;
      limbo = two.limbo ∙ (ap (λ xs. xs ++ two.more) one.limbo ∙ append_assoc old.limbo one.more two.more);
      few = let x = one.few in let y = two.few in let l = length-append one.more two.more in omega (arith, x, y, l, retires);
      early = λ all. two.same (early_makes step (all n step (omega arith) here)) (early_retires step (all n step (omega arith) here))
          ∙ one.early (λ i s low is. all i s (omega (arith, low)) is);
    }

-- a Make still finds its slot
pub slot_left : (body : List Step) (n : ℕ) (step : Step) (old now : NodesState) → IsStep body n step → NodesGone body n old now → count_by is_make body ≤ length old.free
    → is_make step ≡ true → 1 ≤ length now.free
slot_left body n step old now here gone reserve makes =
    let room = sum_room made_by body n step here in
    let one : made_by step ≡ 1 = ap (λ b. cond {A = ℕ} b 1 0) makes in
    let free = gone.free in omega (arith, room, one, free, reserve)

module _ {T : Type 0} (m : Meaning) where
  pub same_none : (r : RunnerState T) → IsSameRun m r r
  same_none r = record { opened = refl; descriptor = refl; layout = refl }

  pub same_more : (a b c : RunnerState T) → IsSameRun m a b → IsSameRun m b c → IsSameRun m a c
  same_more a b c one two = record { opened = two.opened ∙ one.opened; descriptor = two.descriptor ∙ one.descriptor; layout = two.layout ∙ one.layout }

  pub body_same : (a b : RunnerState T) → IsSameRun m a b → body_of m b ≡ body_of m a
  body_same a b same = ap (λ xs. m.body (thunk_of xs)) same.opened

  -- a run that leaves at a step
  pub walked_left : (n : ℕ) (step : Step) (o : Outcome) (old a new : RunnerState T) → IsShaped (body_of m old) → IsStep (body_of m old) n step → phase step ≡ 1
      → IsSameRun m old a → NodesGone (body_of m old) n old.part.nodes a.part.nodes
      → IsOver m n o new → IsSameRun m a new → new.part.nodes ≡ a.part.nodes
      → HasWalked m n o old new
  walked_left n step o old a new shaped here first same gone over same' unchanged =
      let kept : a.part.nodes ≡ old.part.nodes = gone.early (λ i s low is. let p = shaped.phases i n s step low is here in omega (arith, p, first)) in
      record {
        over = over;
        within = let i = step_inside (body_of m old) n step here in omega (arith, i);
        same = same_more old a new same same';
        passed = n;
        nodes = subst (NodesGone (body_of m old) n old.part.nodes) (sym unchanged) gone;
        left = λ other. unchanged ∙ kept;
      }

  -- a run that went through all
  pub walked_all : (n : ℕ) (old a : RunnerState T) → n ≡ length (body_of m old) → IsBefore m n a → IsSameRun m old a → NodesGone (body_of m old) n old.part.nodes a.part.nodes
      → HasWalked m n (outcomes.Answered (reply_in (body_of m old))) old a
  walked_all n old a all before same gone =
      let q = run_of a in
      let body = body_of m a in
      let same_body = body_same old a same in
      let whole : n ≡ length body = all ∙ ap length (sym same_body) in
      let rests = run_rests (setting_of a.layout q.descriptor) q.trail body in
      let at : q.at ≡ length (line body) = before.at ∙ (ap (resting.rests (setting_of a.layout q.descriptor) q.trail body) whole ∙ rests.end) in
      let end : micro_at (line body) q.at ≡ micros.End = past_line (line body) q.at (omega (arith, at)) in
      record {
        over = record {
          running = before.running;
          unended = before.unended;
          none = before.none;
          no_event = ap is_event end;
          locks = ap releases (take_line q.at (line body) at) ∙ (rests.all_taken ∙ ap taken_releases (sym (take_all body n (omega (arith, whole)))));
          outcome = ap (λ (c : Micro). outcome_or (leaves (setting_of a.layout q.descriptor) q.trail c) (reply_in body)) end ∙ ap (λ xs. outcomes.Answered (reply_in xs)) same_body;
        };
        within = omega (arith, all);
        same = same;
        passed = n;
        nodes = gone;
        left = λ other. absurd (other (reply_in (body_of m old)) refl);
      }
    where
      take_line : (k : ℕ) (ms : List Micro) → k ≡ length ms → take k ms ≡ ms
      take_line k ms e = ap (λ i. take i ms) e ∙ whole ms
        where
          whole : (ms : List Micro) → take (length ms) ms ≡ ms
          whole [] = refl
          whole (x ∷ ms) = ap (λ xs. x ∷ xs) (whole ms)

  -- it is enough to look for Takes among fewer steps, where no Take stands behind them
  pub walked_taken : (n taken : ℕ) (o : Outcome) (old new : RunnerState T) → taken ≤ n → taken_releases (take n (body_of m old)) ≡ taken_releases (take taken (body_of m old))
      → HasWalked m n o old new → HasWalked m taken o old new
  walked_taken n taken o old new few fewer w =
      let over = w.over in
      record {
        over = record {
          running = over.running;
          unended = over.unended;
          none = over.none;
          no_event = over.no_event;
          locks = over.locks ∙ subst (λ (body : List Step). taken_releases (take n body) ≡ taken_releases (take taken body)) (sym (body_same old new w.same)) fewer;
          outcome = over.outcome;
        };
        within = let within = w.within in omega (arith, few, within);
        same = w.same;
        passed = w.passed;
        nodes = w.nodes;
        left = w.left;
      }

-- the Takes that were passed are among the first steps, as many as were told
releases_last : (steps : List Step) (step : Step) → is_take step ≡ false → taken_releases (steps ++ step ∷ []) ≡ taken_releases steps
releases_last [] (Load place into) other = refl
releases_last [] (Want reg word) other = refl
releases_last [] (Fresh reg) other = refl
releases_last [] (Take place word) other = absurd (let z = other in cc)
releases_last [] (Make init into) other = refl
releases_last [] Stamp other = refl
releases_last [] (Store reg value) other = refl
releases_last [] (Retire slot) other = refl
releases_last [] (Answer reply) other = refl
releases_last (Load place into ∷ steps) step other = releases_last steps step other
releases_last (Want reg word ∷ steps) step other = releases_last steps step other
releases_last (Fresh reg ∷ steps) step other = releases_last steps step other
releases_last (Take place word ∷ steps) step other = ap (λ ms. micros.Release place word ∷ ms) (releases_last steps step other)
releases_last (Make init into ∷ steps) step other = releases_last steps step other
releases_last (Stamp ∷ steps) step other = releases_last steps step other
releases_last (Store reg value ∷ steps) step other = releases_last steps step other
releases_last (Retire slot ∷ steps) step other = releases_last steps step other
releases_last (Answer reply ∷ steps) step other = releases_last steps step other

releases_by : (b : Bool) (body : List Step) (n taken : ℕ) (step : Step) → IsStep body n step → is_take step ≡ b → taken_releases (take n body) ≡ taken_releases (take taken body)
    → taken_releases (take (n + 1) body) ≡ taken_releases (take (cond b (n + 1) taken) body)
releases_by true body n taken step here is so = refl
releases_by false body n taken step here is so =
    ap (λ k. taken_releases (take k body)) (let e : n + 1 ≡ suc n = omega arith in e) ∙ (ap taken_releases (take_next body n step here)
    ∙ (releases_last (take n body) step is ∙ so))

taken_by : (b : Bool) (n taken : ℕ) → taken ≤ n → cond b (n + 1) taken ≤ n + 1
taken_by true n taken few = omega arith
taken_by false n taken few = omega (arith, few)

-- the steps among which the Takes are that were passed, once one more step was
pub record TakesAmong (body : List Step) (n taken : ℕ) : Type 0 where
  pub few : taken ≤ n
  pub same : taken_releases (take n body) ≡ taken_releases (take taken body)

pub takes_none : (body : List Step) → TakesAmong body 0 0
takes_none body = record { few = omega arith; same = refl }

pub takes_more : (body : List Step) (n taken next : ℕ) (step : Step) → IsStep body n step → next ≡ cond (is_take step) (n + 1) taken → TakesAmong body n taken → TakesAmong body (n + 1) next
takes_more body n taken next step here is so = subst (TakesAmong body (n + 1)) (sym is) (record {
  few = taken_by (is_take step) n taken so.few;
  same = releases_by (is_take step) body n taken step here refl so.same;
})

-- the end that is told
abbrev over_count : Walked → ℕ
over_count (Over n o) = n
over_count Stopped = 0

abbrev over_outcome : Walked → Outcome
over_outcome (Over n o) = o
over_outcome Stopped = outcomes.Answered 0

pub is_over : {T : Type 0} (m : Meaning) (old new : RunnerState T) (n : ℕ) (o : Outcome) (n' : ℕ) (o' : Outcome) → Over n o ≡ Over n' o' → HasWalked m n o old new → HasWalked m n' o' old new
is_over m old new n o n' o' e is = subst (λ (x : Outcome). HasWalked m n' x old new) (ap over_outcome e) (subst (λ k. HasWalked m k o old new) (ap over_count e) is)
