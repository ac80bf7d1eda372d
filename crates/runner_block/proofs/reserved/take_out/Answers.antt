use Rattle.std.proofs.Common.{◌≡◌, ◌≤◌, ◌<◌, ◌-◌, ℕ, Option, Some, sym, ap, subst, ◌∙◌, ◌++◌, ◌∷◌, [], get_or}
use Rattle.std.specs.Option.{option_to_list}
use Rattle.machine_states.specs.runner_parts.specs.Lists.{without}
use Rattle.machine_states.specs.epoch_core.specs.Lists.{times}
use Rattle.runner_block.proofs.Once.{last_gone}
use Rattle.runner_block.proofs.reserved.take_out.Goals as goal

pub returns-then-index-number-clause-items : goal.returns-then-index-number-clause-items
returns-then-index-number-clause-items c =
    let items = c.args.numbers.now.items in let x = c.args.number in let front = c.pop.new.self.items in let count = c.len-count.ensures in
    let last : c.pop.result ≡ Some x = c.pop.ensures.value c.index.result.now (subst (λ n. 0 < n) count c.if-count-gt0.true)
    ∙ (ap (λ n. Some (get_or items (n - 1) c.index.result.now)) (sym count) ∙ (ap Some (sym c.index.ensures) ∙ ap Some c.if-index-number.true)) in
    let ends : items ≡ front ++ x ∷ [] = c.pop.ensures.items ∙ ap (λ (o : Option ℕ). front ++ option_to_list o) last in
    sym (ap (λ xs. without xs x) ends ∙ last_gone x front (subst (λ xs. times x xs ≤ 1) ends c.requires))
