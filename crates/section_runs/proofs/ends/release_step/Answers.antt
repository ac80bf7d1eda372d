use Rattle.std.proofs.Common.{◌≡◌, ℕ, arith, ap, ◌∙◌, Some, refl}
use Rattle.std.specs.Prelude.{cond}
use Rattle.idem_cell.specs.machine_states.specs.body_terms.specs.Shape.{IsStep, is_take}
use Rattle.idem_cell.specs.machine_states.specs.body_terms.specs.declared.step.Step.{Step}
use Rattle.idem_alloc.specs.commit_log.proofs.Running.{ran_one}
use Rattle.section_runs.specs.Bodies.{body_of}
use Rattle.idem_alloc.specs.commit_log.proofs.Halting.{through_by, halted_by, asked_if}
use Rattle.section_runs.proofs.Ending.{may_release_take, releases_take, released_take, skipped, ends_same, not_take}
use Rattle.section_runs.proofs.Testing.{stood}
use Rattle.section_runs.proofs.ends.release_step.Goals as goal

pub release-runner-requires-clause-next : goal.release-runner-requires-clause-next
release-runner-requires-clause-next g c κs within =
    let met = g.met.S.Structure g.world.𝓛 g.world.𝓜 g.world.𝓡 ((λ s allowed. allowed), (λ patient. patient), (λ alone. alone), (λ cuts. cuts)) in
    let m = g.S.Structure.meaning c.args.table.now.structure in
    let laws = met.laws c.args.table.now.structure in
    let t = c.args.table.now in
    let limits = c.requires.own.limits _ refl in
    let allowed = c.requires.own.allowed _ refl in
    let r = c.args.runner in
    let here : IsStep (body_of m r) c.args.n _ = c.requires.here ∙ ap (λ (x : Step). Some x) c.in-Take.is in
    may_release_take m laws t limits allowed r c.requires.own c.args.taken c.args.n _ _ c.requires.next c.requires.below here

pub returns-in-Take-clause-ending : goal.returns-in-Take-clause-ending
returns-in-Take-clause-ending g c =
    let met = g.met.S.Structure g.world.𝓛 g.world.𝓜 g.world.𝓡 ((λ s allowed. allowed), (λ patient. patient), (λ alone. alone), (λ cuts. cuts)) in
    let m = g.S.Structure.meaning c.args.table.now.structure in
    let laws = met.laws c.args.table.now.structure in
    let t = c.args.table.now in
    let limits = c.requires.own.limits _ refl in
    let allowed = c.requires.own.allowed _ refl in
    let r = c.args.runner in
    let here : IsStep (body_of m r) c.args.n _ = c.requires.here ∙ ap (λ (x : Step). Some x) c.in-Take.is in
    λ _. (released_take m laws t limits allowed r c.requires.own c.args.taken c.args.n _ _ c.requires.next c.requires.below here _ _ (releases_take m laws t limits allowed r c.requires.own c.args.taken c.args.n _ _ c.requires.next c.requires.below here _ _ c.release-runner.ensures.event.event)).0

pub returns-in-Take-clause-same : goal.returns-in-Take-clause-same
returns-in-Take-clause-same g c =
    let met = g.met.S.Structure g.world.𝓛 g.world.𝓜 g.world.𝓡 ((λ s allowed. allowed), (λ patient. patient), (λ alone. alone), (λ cuts. cuts)) in
    let m = g.S.Structure.meaning c.args.table.now.structure in
    let laws = met.laws c.args.table.now.structure in
    let t = c.args.table.now in
    let limits = c.requires.own.limits _ refl in
    let allowed = c.requires.own.allowed _ refl in
    let r = c.args.runner in
    let here : IsStep (body_of m r) c.args.n _ = c.requires.here ∙ ap (λ (x : Step). Some x) c.in-Take.is in
    λ _. (released_take m laws t limits allowed r c.requires.own c.args.taken c.args.n _ _ c.requires.next c.requires.below here _ _ (releases_take m laws t limits allowed r c.requires.own c.args.taken c.args.n _ _ c.requires.next c.requires.below here _ _ c.release-runner.ensures.event.event)).1

pub returns-in-Take-clause-through : goal.returns-in-Take-clause-through
returns-in-Take-clause-through g c =
    let met = g.met.S.Structure g.world.𝓛 g.world.𝓜 g.world.𝓡 ((λ s allowed. allowed), (λ patient. patient), (λ alone. alone), (λ cuts. cuts)) in
    let m = g.S.Structure.meaning c.args.table.now.structure in
    let laws = met.laws c.args.table.now.structure in
    let t = c.args.table.now in
    let limits = c.requires.own.limits _ refl in
    let allowed = c.requires.own.allowed _ refl in
    let r = c.args.runner in
    let here : IsStep (body_of m r) c.args.n _ = c.requires.here ∙ ap (λ (x : Step). Some x) c.in-Take.is in
    let one : cond {A = ℕ} (is_take c.args.step.now) 1 0 ≡ 1 = ap (λ (x : Step). cond {A = ℕ} (is_take x) 1 0) c.in-Take.is in
    λ going. through_by m 1 _ _ _ _ _ _ _ _ _ (omega (arith, one)) (ran_one m _ _ _ _ _ (releases_take m laws t limits allowed r c.requires.own c.args.taken c.args.n _ _ c.requires.next c.requires.below here _ _ c.release-runner.ensures.event.event)) (asked_if going c.passes-going.ensures)

pub returns-in_default : goal.returns-in_default
returns-in_default g c =
    let met = g.met.S.Structure g.world.𝓛 g.world.𝓜 g.world.𝓡 ((λ s allowed. allowed), (λ patient. patient), (λ alone. alone), (λ cuts. cuts)) in
    let m = g.S.Structure.meaning c.args.table.now.structure in
    let laws = met.laws c.args.table.now.structure in
    let t = c.args.table.now in
    let limits = c.requires.own.limits _ refl in
    let allowed = c.requires.own.allowed _ refl in
    let r = c.args.runner in
    let other = not_take c.args.step.now c.in_default.not-Take in
    record {
      own = c.requires.own;
      ending = λ _. skipped m laws t limits allowed r c.requires.own c.args.taken c.args.n c.args.step.now c.requires.next c.requires.here other;
      same = λ _. ends_same m r;
      through = λ _. stood m r _ _ _ _;
      halted = λ e. absurd (let z = e in cc);
    }

pub returns-in-Take-clause-halted : goal.returns-in-Take-clause-halted
returns-in-Take-clause-halted g c =
    let met = g.met.S.Structure g.world.𝓛 g.world.𝓜 g.world.𝓡 ((λ s allowed. allowed), (λ patient. patient), (λ alone. alone), (λ cuts. cuts)) in
    let m = g.S.Structure.meaning c.args.table.now.structure in
    let laws = met.laws c.args.table.now.structure in
    let t = c.args.table.now in
    let limits = c.requires.own.limits _ refl in
    let allowed = c.requires.own.allowed _ refl in
    let r = c.args.runner in
    let here : IsStep (body_of m r) c.args.n _ = c.requires.here ∙ ap (λ (x : Step). Some x) c.in-Take.is in
    let one : cond {A = ℕ} (is_take c.args.step.now) 1 0 ≡ 1 = ap (λ (x : Step). cond {A = ℕ} (is_take x) 1 0) c.in-Take.is in
    λ halted. halted_by m 1 _ _ _ _ _ _ _ _ _ (omega arith) (omega (arith, one)) (ran_one m _ _ _ _ _ (releases_take m laws t limits allowed r c.requires.own c.args.taken c.args.n _ _ c.requires.next c.requires.below here _ _ c.release-runner.ensures.event.event)) (asked_if halted c.passes-going.ensures)
