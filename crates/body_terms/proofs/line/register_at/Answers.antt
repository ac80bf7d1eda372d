use Rattle.std.proofs.Common.{◌<◌, length, sym, ap, ◌∙◌, arith}
use Rattle.body_terms.specs.Line.{Registers, registers_before}
use Rattle.body_terms.proofs.LineLemmas.{registers_before_more, count_more}
use Rattle.body_terms.proofs.line.register_at.Goals as goal

pub loop-i-preserved : goal.loop-i-preserved
loop-i-preserved c =
    let steps = c.args.steps.now in
    let i = c.loop-i.i in
    let before = c.loop-i.invariant in
    let within : i < length steps = omega arith in
    let step = c.index-steps-i.result in
    let next = registers_before_more steps i step within c.index-steps-i.is in
    record {
      place = c.register_after-register.ensures.place (registers_before steps i) before.place ∙ sym (ap (λ (g : Registers). g.place c.args.reg) next);
      log = c.register_after-register.ensures.log (registers_before steps i) before.log before.count ∙ sym (ap (λ (g : Registers). g.log c.args.reg) next);
      count = omega (arith, count_more steps i step within c.index-steps-i.is, c.log_words-count.ensures.exact);
      few = omega (arith, c.log_words-count.ensures.few);
    }
