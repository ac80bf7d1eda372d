use Rattle.std.proofs.Common.{◌≡◌, suc, ◌+◌, List, length, take, arith, ap, sym, refl, subst, ◌∙◌}
use Rattle.std.specs.Prelude.{sum_by}
use Rattle.idem_cell.specs.machine_states.specs.body_terms.specs.Cost.{step_cost}
use Rattle.idem_cell.specs.machine_states.specs.body_terms.specs.Line.{log_words, registers_before}
use Rattle.idem_cell.specs.machine_states.specs.body_terms.specs.Shape.{IsStep, IsShaped}
use Rattle.idem_cell.specs.machine_states.specs.body_terms.specs.declared.outcome.Outcome.{Outcome}
use Rattle.idem_cell.specs.machine_states.specs.body_terms.specs.declared.outcome.Outcome.TheVariants.{Answered}
use Rattle.idem_cell.specs.machine_states.specs.body_terms.specs.declared.step.Step.{Step}
use Rattle.idem_cell.specs.machine_states.specs.body_terms.proofs.LineLemmas.{read_step, registers_before_next}
use Rattle.idem_cell.specs.section_lines.specs.Rests.{taken_releases}
use Rattle.section_runs.specs.Reached.{run_of}
use Rattle.section_runs.specs.Registers.{AreKept}
use Rattle.section_runs.specs.Bodies.{body_links, NodesGone, body_of, IsBefore, HasWalked}
use Rattle.section_runs.proofs.Using.{on_not_halted, left_not_halted}
use Rattle.idem_alloc.specs.commit_log.specs.Links.{links_cost}
use Rattle.idem_alloc.specs.commit_log.proofs.Halting.{through_more, halted_then, through_few}
use Rattle.section_runs.proofs.Apart.{stood_apart, through_apart, halted_apart}
use Rattle.section_runs.proofs.Walking.{none_before, links_at, walk_most, walk_next, walk_room, nodes_none, nodes_more, slot_left, same_none, same_more, body_same, walked_left, walked_all, walked_taken, takes_none, takes_more, is_over}
use Rattle.idem_cell.specs.machine_states.specs.runner_steps.specs.Sections.{reply_in}
use Rattle.section_runs.proofs.bodies.walk.Goals as goal

pub loop-n-init : goal.loop-n-init
loop-n-init g c =
    let m = g.S.Structure.meaning c.args.table.now.structure in
    let r = c.args.runner in
    record {
      own = c.requires.own;
      before = c.requires.before;
      same = same_none m r;
      trail = c.requires.trail;
      late = refl;
      kept = subst (AreKept c.new-kept.result) (sym (none_before c.args.body.now)) c.new-kept.ensures;
      nodes = nodes_none c.args.body.now r.part.nodes;
      among = takes_none c.args.body.now;
      uncounted = refl;
      through = stood_apart m r _ _ _ _ c.new-made.ensures;
    }

pub step_gated-gone-requires-clause-next : goal.step_gated-gone-requires-clause-next
step_gated-gone-requires-clause-next g c κs within =
    let m = g.S.Structure.meaning c.args.table.now.structure in
    let r = c.args.runner in
    let body = c.args.body.now in
    let n = c.loop-n.n in
    let now = c.loop-n.runner in
    let inv = c.loop-n.invariant in
    let step = c.index-body-n.result in
    let here = read_step body n step c.loop-n-test.true c.index-body-n.is in
    let same_body : body ≡ body_of m now = c.requires.body ∙ sym (body_same m r now inv.same) in
    record {
      before = inv.before;
      here = subst (λ (xs : List Step). IsStep xs n step) same_body here;
      registers = subst (λ (xs : List Step). AreKept c.loop-n.kept (registers_before xs n)) same_body inv.kept;
    }

pub step_gated-gone-requires-clause-section : goal.step_gated-gone-requires-clause-section
step_gated-gone-requires-clause-section g c κs within =
    let n = c.loop-n.n in
    let inv = c.loop-n.invariant in
    c.requires.section ∙ sym inv.same.descriptor

pub step_gated-gone-requires-clause-reserve : goal.step_gated-gone-requires-clause-reserve
step_gated-gone-requires-clause-reserve g c κs within =
    let r = c.args.runner in
    let body = c.args.body.now in
    let n = c.loop-n.n in
    let now = c.loop-n.runner in
    let inv = c.loop-n.invariant in
    let step = c.index-body-n.result in
    let here = read_step body n step c.loop-n-test.true c.index-body-n.is in
    slot_left body n step r.part.nodes now.part.nodes here inv.nodes c.requires.reserve

pub step_gated-gone-requires-clause-within : goal.step_gated-gone-requires-clause-within
step_gated-gone-requires-clause-within g c κs within =
    let body = c.args.body.now in
    let n = c.loop-n.n in
    let step = c.index-body-n.result in
    let here = read_step body n step c.loop-n-test.true c.index-body-n.is in
    c.requires.shaped.within n step here

pub loop-n-preserved : goal.loop-n-preserved
loop-n-preserved g c =
    let m = g.S.Structure.meaning c.args.table.now.structure in
    let r = c.args.runner in
    let body = c.args.body.now in
    let n = c.loop-n.n in
    let now = c.loop-n.runner in
    let inv = c.loop-n.invariant in
    let step = c.index-body-n.result in
    let here = read_step body n step c.loop-n-test.true c.index-body-n.is in
    let same_body : body ≡ body_of m now = c.requires.body ∙ sym (body_same m r now inv.same) in
    let went = c.step_gated-gone.ensures.went in
    let on = c.in-On.is in
    let still = on_not_halted c.step_gated-gone.result.1 on in
    let next : suc n ≡ n + 1 = omega arith in
    let g0 = registers_before body n in
    let words = inv.before.count ∙ ap (λ (xs : List Step). (registers_before xs n).count) (sym same_body) in
    let count = ap length inv.trail ∙ words in
    record {
      own = c.step_gated-gone.ensures.own;
      before = subst (λ k. IsBefore m k c.step_gated-gone.result.0) next (went.before on);
      same = same_more m r now c.step_gated-gone.result.0 inv.same (went.same still);
      trail = went.words still;
      late = went.late ∙ inv.late;
      kept = subst (λ k. AreKept c.step_gated-gone.new.kept (registers_before body k)) next (subst (AreKept c.step_gated-gone.new.kept) (sym (registers_before_next body n step here)) (c.step_gated-gone.ensures.kept g0 inv.kept count));
      nodes = subst (λ k. NodesGone body k r.part.nodes c.step_gated-gone.result.0.part.nodes) next (nodes_more body n step r.part.nodes now.part.nodes c.step_gated-gone.result.0.part.nodes here inv.nodes (went.nodes on));
      among = takes_more body n c.loop-n.taken c.taken_behind-taken.result step here c.taken_behind-taken.ensures inv.among;
      uncounted = inv.uncounted;
      through = through_more m (sum_by step_cost (take n body) + links_at body n) (step_cost step + links_cost (log_words step) (run_of now)) (sum_by step_cost (take (n + 1) body) + links_at body (n + 1))
          _ _ _ _ _ _ _ _ _ _ _ _ inv.through (went.through still)
          (walk_next body n step here (run_of now) words inv.before.running.enough);
    }

pub returns-in-Left-clause-over : goal.returns-in-Left-clause-over
returns-in-Left-clause-over g c =
    let m = g.S.Structure.meaning c.args.table.now.structure in
    let r = c.args.runner in
    let body = c.args.body.now in
    let n = c.loop-n.n in
    let now = c.loop-n.runner in
    let inv = c.loop-n.invariant in
    let step = c.index-body-n.result in
    let here = read_step body n step c.loop-n-test.true c.index-body-n.is in
    let went = c.step_gated-gone.ensures.went in
    let out = c.in-Left.is in
    let still = left_not_halted c.step_gated-gone.result.1 c.in-Left.outcome out in
    let here0 = subst (λ (xs : List Step). IsStep xs n step) c.requires.body here in
    λ n' o' e. is_over m r _ c.loop-n.taken c.in-Left.outcome n' o' e
    (walked_taken m n c.loop-n.taken c.in-Left.outcome r c.step_gated-gone.result.0 inv.among.few
    (subst (λ (xs : List Step). taken_releases (take n xs) ≡ taken_releases (take c.loop-n.taken xs)) c.requires.body inv.among.same)
    (walked_left m n step c.in-Left.outcome r now c.step_gated-gone.result.0 (subst IsShaped c.requires.body c.requires.shaped) here0 (went.exit _ out) inv.same
    (subst (λ (xs : List Step). NodesGone xs n r.part.nodes now.part.nodes) c.requires.body inv.nodes) (went.over _ out) (went.same still) (went.unchanged _ out)))

pub returns-in-Left-clause-trail : goal.returns-in-Left-clause-trail
returns-in-Left-clause-trail g c =
    let went = c.step_gated-gone.ensures.went in
    let out = c.in-Left.is in
    let still = left_not_halted c.step_gated-gone.result.1 c.in-Left.outcome out in
    λ _. went.words still

pub returns-in-Left-clause-late : goal.returns-in-Left-clause-late
returns-in-Left-clause-late g c =
    let n = c.loop-n.n in
    let inv = c.loop-n.invariant in
    let went = c.step_gated-gone.ensures.went in
    went.late ∙ inv.late

pub returns-in-Left-clause-through : goal.returns-in-Left-clause-through
returns-in-Left-clause-through g c =
    let m = g.S.Structure.meaning c.args.table.now.structure in
    let r = c.args.runner in
    let body = c.args.body.now in
    let n = c.loop-n.n in
    let now = c.loop-n.runner in
    let inv = c.loop-n.invariant in
    let step = c.index-body-n.result in
    let here = read_step body n step c.loop-n-test.true c.index-body-n.is in
    let same_body : body ≡ body_of m now = c.requires.body ∙ sym (body_same m r now inv.same) in
    let words = inv.before.count ∙ ap (λ (xs : List Step). (registers_before xs n).count) (sym same_body) in
    let went = c.step_gated-gone.ensures.went in
    let out = c.in-Left.is in
    let still = left_not_halted c.step_gated-gone.result.1 c.in-Left.outcome out in
    λ _. through_apart m _ _ _ _ _ _ _ _ _ _ _ inv.uncounted c.add_up.ensures.fits
    (through_more m (sum_by step_cost (take n body) + links_at body n) (step_cost step + links_cost (log_words step) (run_of now)) (sum_by step_cost body + body_links body) _ _ _ _ _ _ _ _ _ _ _ _ inv.through (went.through still)
    (walk_room body n step here (run_of now) words inv.before.running.enough))
    c.add_up.ensures.added

pub returns-in-Halted-clause-late : goal.returns-in-Halted-clause-late
returns-in-Halted-clause-late g c =
    let n = c.loop-n.n in
    let inv = c.loop-n.invariant in
    let went = c.step_gated-gone.ensures.went in
    went.late ∙ inv.late

pub returns-in-Halted-clause-halted : goal.returns-in-Halted-clause-halted
returns-in-Halted-clause-halted g c =
    let m = g.S.Structure.meaning c.args.table.now.structure in
    let r = c.args.runner in
    let body = c.args.body.now in
    let n = c.loop-n.n in
    let now = c.loop-n.runner in
    let inv = c.loop-n.invariant in
    let step = c.index-body-n.result in
    let here = read_step body n step c.loop-n-test.true c.index-body-n.is in
    let same_body : body ≡ body_of m now = c.requires.body ∙ sym (body_same m r now inv.same) in
    let words = inv.before.count ∙ ap (λ (xs : List Step). (registers_before xs n).count) (sym same_body) in
    let went = c.step_gated-gone.ensures.went in
    λ _. halted_apart m _ _ _ _ _ _ _ _ _ _ _ inv.uncounted c.add_up-in-Halted.ensures.fits
    (halted_then m (sum_by step_cost (take n body) + links_at body n) (step_cost step + links_cost (log_words step) (run_of now)) (sum_by step_cost body + body_links body) _ _ _ _ _ _ _ _ _ _ _ _ inv.through (went.halted c.in-Halted.is)
    (walk_room body n step here (run_of now) words inv.before.running.enough))
    c.add_up-in-Halted.ensures.added

pub returns-clause-over : goal.returns-clause-over
returns-clause-over g c =
    let m = g.S.Structure.meaning c.args.table.now.structure in
    let r = c.args.runner in
    let body = c.args.body.now in
    let inv = c.loop-n.invariant in
    let n = c.loop-n.n in
    let all : n ≡ length body = (let a = c.loop-n-test.false in let b = c.loop-n.auto.n-end in omega (arith, a, b)) in
    λ n' o' e. is_over m r _ c.loop-n.taken _ n' o' e (subst (λ (o : Outcome). HasWalked m c.loop-n.taken o r c.loop-n.runner) (ap (λ (xs : List Step). Answered (reply_in xs)) (sym c.requires.body) ∙ ap Answered (sym c.reply_of.ensures))
    (walked_taken m n c.loop-n.taken (Answered (reply_in (body_of m r))) r c.loop-n.runner inv.among.few
    (subst (λ (xs : List Step). taken_releases (take n xs) ≡ taken_releases (take c.loop-n.taken xs)) c.requires.body inv.among.same)
    (walked_all m n r c.loop-n.runner (all ∙ ap length c.requires.body) inv.before inv.same (subst (λ (xs : List Step). NodesGone xs n r.part.nodes c.loop-n.runner.part.nodes) c.requires.body inv.nodes))))

pub returns-clause-trail : goal.returns-clause-trail
returns-clause-trail g c =
    λ _. c.loop-n.invariant.trail

pub returns-clause-through : goal.returns-clause-through
returns-clause-through g c =
    let m = g.S.Structure.meaning c.args.table.now.structure in
    let r = c.args.runner in
    let body = c.args.body.now in
    let n = c.loop-n.n in
    λ _. through_apart m _ _ _ _ _ _ _ _ _ _ _ c.loop-n.invariant.uncounted c.add_up-2.ensures.fits
    (through_few m (sum_by step_cost (take n body) + links_at body n) (sum_by step_cost body + body_links body) _ _ _ _ _ _ _ _
    (walk_most body n c.loop-n.auto.n-end) c.loop-n.invariant.through) c.add_up-2.ensures.added
