use Rattle.std.proofs.Common.{rules, ◌≡◌, ℕ, ◌+◌, ◌-◌, List, ◌++◌, suc, replicate, vec_items, ap, sym, subst, ◌∙◌, arith}
use Rattle.runner_steps.specs.table_words.specs.Places.{size}
use Rattle.machine_states.specs.First.{IsFilled}
use Rattle.machine_states.proofs.Firsts.{pushed_zero}
use Rattle.machine_states.proofs.words.first_words.Goals as goal

pub loop-word-preserved : goal.loop-word-preserved
loop-word-preserved g c =
    let was = c.loop-word.invariant in let pushed = c.push_reserved-in-loop-word.ensures in
    let left = size c.args.sizes - (c.loop-word.word + 1) in
    let one_more : size c.args.sizes - c.loop-word.word ≡ suc left = (let more = c.loop-word-test.true in omega arith) in
    let same : vec_items c.loop-word.words ++ replicate (size c.args.sizes - c.loop-word.word) 0 ≡ vec_items c.push_reserved-in-loop-word.new.self ++ replicate left 0 =
    ap (λ (n : ℕ). vec_items c.loop-word.words ++ replicate n 0) one_more ∙ (sym (pushed_zero (vec_items c.loop-word.words) left) ∙ ap (λ (l : List ℕ). l ++ replicate left 0) (sym pushed.items)) in record {
      long = search rules;
      room = search rules;
      filled = subst (λ (l : List ℕ). IsFilled (g.S.Structure.meaning c.args.structure.now) c.args.sizes c.args.sizes.cells l) same was.filled;
    }
