use Rattle.std.proofs.Common.{◌≡◌, suc, ◌+◌, sym, ap, ◌∙◌, arith}
use Rattle.std.specs.Prelude.{slice_index_or}
use Rattle.runner_steps.specs.body_terms.specs.Line.{line}
use Rattle.runner_steps.specs.body_terms.specs.declared.micro.Micro.TheVariants.{Release, End}
use Rattle.runner_steps.specs.Sections.{lock_of}
use Rattle.runner_asks.proofs.Lines.{release_first, release_later, release_none, rest}
use Rattle.runner_asks.proofs.section.release_at.Goals as goal
use Rattle.runner_asks.proofs.section.release_at.Goals.{in-Some+else-left-eq0, in-None}

pub returns-then-left-eq0 : goal.returns-then-left-eq0
returns-then-left-eq0 c =
    let ms = line c.args.body.now in
    let outer = Release c.args.lock c.args.word in
    let here = ap lock_of (sym c.micro_at.ensures) ∙ (sym c.lock_of.ensures ∙ c.in-Some.is) in
    sym (sym c.loop-i.invariant ∙ (ap (λ n. slice_index_or (rest ms c.args.at c.loop-i.i outer c.loop-i-test.true c.loop-i.i) n End) c.if-left-eq0.true
    ∙ release_first ms c.args.at c.loop-i.i outer c.loop-i-test.true _ here))

pub loop-i-preserved : goal.loop-i-preserved
loop-i-preserved c =
    let ms = line c.args.body.now in
    let outer = Release c.args.lock c.args.word in
    let said = ap lock_of (sym c.micro_at.ensures) ∙ sym c.lock_of.ensures in
    let r = rest ms c.args.at c.loop-i.i outer c.loop-i-test.true in
    elim c.match-lock_of.branch [
      | in-Some+else-left-eq0 w ↦
          (let more = w.if-left-eq0.false in let is = w.left-is in let one : c.loop-i.left ≡ suc c.match-lock_of.left = omega arith in
          sym (sym c.loop-i.invariant ∙ (ap (λ n. slice_index_or (r c.loop-i.i) n End) one ∙ release_later ms c.args.at c.loop-i.i outer c.loop-i-test.true _ c.match-lock_of.left (said ∙ w.in-Some.is))))
      | in-None w ↦
          ap (λ n. slice_index_or (r (c.loop-i.i + 1)) n End) w.left-is ∙ sym (sym c.loop-i.invariant ∙ release_none ms c.args.at c.loop-i.i outer c.loop-i-test.true c.loop-i.left (said ∙ w.in-None.is))
    ]
