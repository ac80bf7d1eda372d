use Rattle.std.proofs.Common.{rules, List, ◌++◌, map, Bool, arith, ap, ◌∙◌}
use Rattle.std.specs.Prelude.{◌==◌}
use Rattle.std.specs.List.{filter}
use Rattle.std.proofs.lemmas.Fn.{filter_same}
use Rattle.machine_states.specs.runner_parts.specs.declared.entries.Waiting.{Waiting}
use Rattle.runner_block.proofs.Freed.{as_many}
use Rattle.runner_block.proofs.waiting.free_under.Goals as goal

left : goal.returns-clause-limbo
left c = filter_same _ _ _ (λ x b f' h. search rules) _ _ c.retain.ensures.filtered

pub returns-clause-limbo : goal.returns-clause-limbo
returns-clause-limbo c = left c

pub returns-clause-sum : goal.returns-clause-sum
returns-clause-sum c =
    let test : Waiting → Bool = λ x. x.descriptor == c.args.descriptor in
    let added = c.add_from.ensures.items ∙ ap (λ (xs : List Waiting). c.args.list.now.items ++ map (λ x. x.block) (filter test xs)) c.deref.ensures.value in
    let same = as_many test c.args.list.now.items c.add_from.new.list.items c.args.limbo.now.items c.retain.new.self.items added (left c) in
    let a = c.args.list.now.ok.0 in let b = c.add_from.new.list.ok.0 in let d = c.args.limbo.now.ok.0 in let e = c.retain.new.self.ok.0 in
    omega (arith, same, a, b, d, e)
