use Rattle.std.proofs.Common.{◌≡◌, ◌<◌, ◌^◌, ◌+◌, suc, None, refl, sym, ap, ◌∙◌, arith, subst}
use mir.Val.{bool_byte}
use Rattle.std.specs.Prelude.{ℕ, take, cond, Bool, true, ◌&&◌, false, slice_index_or, count_by}
use Rattle.body_terms.specs.Shape.{is_take}
use Rattle.body_terms.specs.Line.{registers_before, micros}
use Rattle.body_terms.specs.Run.{Run, ran}
use Rattle.body_terms.specs.Plain.{plain_setting, memory_after}
use Rattle.body_terms.specs.Act.{Shows}
use Rattle.body_terms.proofs.LineLemmas.{read_step}
use Rattle.body_terms.proofs.SoundLemmas.{Sound, counted, count_by_next}
use Rattle.section_body.proofs.FitLemmas.{fits, suits, space, long}
use Rattle.section_body.proofs.PlainLemmas.{run_before, shows_first, sound_first, run_next, run_ended, sound_more, not_through}
use Rattle.section_body.proofs.plain_run.run_steps.Goals as goal

-- the number of a truth value
takes_next : (takes : ℕ) (b was : Bool) (before after : ℕ) → takes ≡ before → b ≡ was → before + cond was 1 0 ≡ after → takes + bool_byte b ≡ after
takes_next takes true was before after is same next = (let one : cond {A = ℕ} was 1 0 ≡ 1 = ap (λ b. cond b 1 0) (sym same) in omega arith)
takes_next takes false was before after is same next = (let none : cond {A = ℕ} was 1 0 ≡ 0 = ap (λ b. cond b 1 0) (sym same) in omega arith)

pub loop-n-init : goal.loop-n-init
loop-n-init c = record {
  shows = shows_first c.args.steps.now c.args.request c.args.memory.now c.args.taken.now c.new-trail.result c.new-trail.ensures.words c.new-trail.ensures.late;
  takes = refl;
  sound = sound_first c.args.steps.now c.args.request c.args.memory.now c.args.taken.now;
}

pub is_got-got-requires : goal.is_got-got-requires
is_got-got-requires c take =
    let here = read_step c.args.steps.now c.loop-n.n c.index-steps-n.result c.loop-n-test.true c.index-steps-n.is in
    let within = counted is_take c.args.steps.now c.loop-n.n c.index-steps-n.result here take in
    omega (arith, within, c.loop-n.invariant.takes, c.requires.locks.given)

pub act-requires-clause-fits : goal.act-requires-clause-fits
act-requires-clause-fits c =
    let here = read_step c.args.steps.now c.loop-n.n c.index-steps-n.result c.loop-n-test.true c.index-steps-n.is in
    let small : c.args.memory.now.version_max < 2 ^ 32 = omega (arith, c.requires.greatest) in
    fits c.args.steps.now c.args.memory.now c.args.taken.now c.requires.shape c.args.request c.loop-n.n (run_before c.args.steps.now c.args.request c.args.memory.now c.args.taken.now c.loop-n.n) (c.loop-n.invariant.sound c.requires.shape) c.loop-n.memory c.loop-n.trail c.loop-n.invariant.shows small c.index-steps-n.result here c.requires.places c.requires.slots c.requires.locks c.requires.versions c.requires.request c.requires.room c.requires.early c.is_got-got.result
    (c.is_got-got.ensures ∙ ap (λ k. is_take c.index-steps-n.result && slice_index_or c.args.taken.now k false) c.loop-n.invariant.takes)

pub act-requires-clause-space : goal.act-requires-clause-space
act-requires-clause-space c =
    let here = read_step c.args.steps.now c.loop-n.n c.index-steps-n.result c.loop-n-test.true c.index-steps-n.is in
    let small : c.args.memory.now.version_max < 2 ^ 32 = omega (arith, c.requires.greatest) in
    space c.args.steps.now c.args.memory.now c.args.taken.now c.requires.shape c.args.request c.loop-n.n (run_before c.args.steps.now c.args.request c.args.memory.now c.args.taken.now c.loop-n.n) (c.loop-n.invariant.sound c.requires.shape) c.loop-n.memory c.loop-n.trail c.loop-n.invariant.shows small c.index-steps-n.result here

pub returns-in-Some-clause-outcome : goal.returns-in-Some-clause-outcome
returns-in-Some-clause-outcome c =
    let steps = c.args.steps.now in
    let start = c.args.memory.now in
    let here = read_step steps c.loop-n.n c.index-steps-n.result c.loop-n-test.true c.index-steps-n.is in
    let small : start.version_max < 2 ^ 32 = omega (arith, c.requires.greatest) in
    let run = run_before steps c.args.request start c.args.taken.now c.loop-n.n in
    let sound = c.loop-n.invariant.sound c.requires.shape in
    let shows = c.loop-n.invariant.shows in
    let suit = suits steps start c.args.taken.now c.requires.shape c.args.request c.loop-n.n run sound c.loop-n.memory c.loop-n.trail shows small c.index-steps-n.result here c.requires.places c.requires.slots c.requires.locks c.is_got-got.result (c.is_got-got.ensures ∙ ap (λ k. is_take c.index-steps-n.result && slice_index_or c.args.taken.now k false) c.loop-n.invariant.takes) in
    let count = long steps start c.args.taken.now c.requires.shape c.args.request c.loop-n.n run sound c.loop-n.memory c.loop-n.trail shows small in
    let shown = c.act.ensures start (plain_setting steps c.args.taken.now start) run shows suit (sym count) c.requires.request.0 c.requires.request.1 in
    let over = shown.ended ∙ c.in-Some.is in
    ap (λ (r : Run). r.outcome) (run_ended steps c.args.request start c.args.taken.now c.loop-n.n c.index-steps-n.result here c.in-Some.outcome over) ∙ over

pub returns-in-Some-clause-trail : goal.returns-in-Some-clause-trail
returns-in-Some-clause-trail c =
    let steps = c.args.steps.now in
    let start = c.args.memory.now in
    let here = read_step steps c.loop-n.n c.index-steps-n.result c.loop-n-test.true c.index-steps-n.is in
    let small : start.version_max < 2 ^ 32 = omega (arith, c.requires.greatest) in
    let run = run_before steps c.args.request start c.args.taken.now c.loop-n.n in
    let sound = c.loop-n.invariant.sound c.requires.shape in
    let shows = c.loop-n.invariant.shows in
    let suit = suits steps start c.args.taken.now c.requires.shape c.args.request c.loop-n.n run sound c.loop-n.memory c.loop-n.trail shows small c.index-steps-n.result here c.requires.places c.requires.slots c.requires.locks c.is_got-got.result (c.is_got-got.ensures ∙ ap (λ k. is_take c.index-steps-n.result && slice_index_or c.args.taken.now k false) c.loop-n.invariant.takes) in
    let count = long steps start c.args.taken.now c.requires.shape c.args.request c.loop-n.n run sound c.loop-n.memory c.loop-n.trail shows small in
    let shown = c.act.ensures start (plain_setting steps c.args.taken.now start) run shows suit (sym count) c.requires.request.0 c.requires.request.1 in
    let over = shown.ended ∙ c.in-Some.is in
    shown.agreed ∙ ap (λ (r : Run). record { words = r.trail; late = false }) (sym (run_ended steps c.args.request start c.args.taken.now c.loop-n.n c.index-steps-n.result here c.in-Some.outcome over))

pub returns-in-Some-clause-memory : goal.returns-in-Some-clause-memory
returns-in-Some-clause-memory c =
    let steps = c.args.steps.now in
    let start = c.args.memory.now in
    let here = read_step steps c.loop-n.n c.index-steps-n.result c.loop-n-test.true c.index-steps-n.is in
    let small : start.version_max < 2 ^ 32 = omega (arith, c.requires.greatest) in
    let run = run_before steps c.args.request start c.args.taken.now c.loop-n.n in
    let sound = c.loop-n.invariant.sound c.requires.shape in
    let shows = c.loop-n.invariant.shows in
    let suit = suits steps start c.args.taken.now c.requires.shape c.args.request c.loop-n.n run sound c.loop-n.memory c.loop-n.trail shows small c.index-steps-n.result here c.requires.places c.requires.slots c.requires.locks c.is_got-got.result (c.is_got-got.ensures ∙ ap (λ k. is_take c.index-steps-n.result && slice_index_or c.args.taken.now k false) c.loop-n.invariant.takes) in
    let count = long steps start c.args.taken.now c.requires.shape c.args.request c.loop-n.n run sound c.loop-n.memory c.loop-n.trail shows small in
    let shown = c.act.ensures start (plain_setting steps c.args.taken.now start) run shows suit (sym count) c.requires.request.0 c.requires.request.1 in
    let over = shown.ended ∙ c.in-Some.is in
    shown.left ∙ ap (memory_after c.args.request start) (sym (run_ended steps c.args.request start c.args.taken.now c.loop-n.n c.index-steps-n.result here c.in-Some.outcome over))

pub loop-n-preserved : goal.loop-n-preserved
loop-n-preserved c =
    let steps = c.args.steps.now in
    let start = c.args.memory.now in
    let here = read_step steps c.loop-n.n c.index-steps-n.result c.loop-n-test.true c.index-steps-n.is in
    let small : start.version_max < 2 ^ 32 = omega (arith, c.requires.greatest) in
    let run = run_before steps c.args.request start c.args.taken.now c.loop-n.n in
    let sound = c.loop-n.invariant.sound c.requires.shape in
    let shows = c.loop-n.invariant.shows in
    let suit = suits steps start c.args.taken.now c.requires.shape c.args.request c.loop-n.n run sound c.loop-n.memory c.loop-n.trail shows small c.index-steps-n.result here c.requires.places c.requires.slots c.requires.locks c.is_got-got.result (c.is_got-got.ensures ∙ ap (λ k. is_take c.index-steps-n.result && slice_index_or c.args.taken.now k false) c.loop-n.invariant.takes) in
    let count = long steps start c.args.taken.now c.requires.shape c.args.request c.loop-n.n run sound c.loop-n.memory c.loop-n.trail shows small in
    let shown = c.act.ensures start (plain_setting steps c.args.taken.now start) run shows suit (sym count) c.requires.request.0 c.requires.request.1 in
    let none = subst (λ o. Shows c.args.request start (ran (plain_setting steps c.args.taken.now start) run (micros (registers_before steps c.loop-n.n) c.index-steps-n.result)) c.act.new.memory c.act.new.trail o) c.in-None.is shown in
    let more : suc c.loop-n.n ≡ c.loop-n.n + 1 = omega arith in
    record {
      shows = subst (λ n. Shows c.args.request start (run_before steps c.args.request start c.args.taken.now n) c.act.new.memory c.act.new.trail None) more
          (subst (λ r. Shows c.args.request start r c.act.new.memory c.act.new.trail None) (sym (run_next steps c.args.request start c.args.taken.now c.loop-n.n c.index-steps-n.result here)) none);
      takes = takes_next c.loop-n.takes c.is_take.result (is_take c.index-steps-n.result) (count_by is_take (take c.loop-n.n steps)) _ c.loop-n.invariant.takes c.is_take.ensures (sym (count_by_next is_take steps c.loop-n.n c.index-steps-n.result here) ∙ ap (λ n. count_by is_take (take n steps)) more);
      sound = λ shaped. subst (λ n. Sound steps start c.args.taken.now shaped n (run_before steps c.args.request start c.args.taken.now n)) more
          (sound_more steps c.args.request start c.args.taken.now c.loop-n.n c.index-steps-n.result here shaped c.requires.places c.requires.versions c.loop-n.memory c.act.new.memory c.loop-n.trail c.act.new.trail shows none (c.loop-n.invariant.sound shaped));
    }

pub unreachable-requires : goal.unreachable-requires
unreachable-requires c = not_through c.args.steps.now c.args.request c.args.memory.now c.args.taken.now c.requires.shape c.loop-n.n c.loop-n-test.false (c.loop-n.invariant.sound c.requires.shape)
