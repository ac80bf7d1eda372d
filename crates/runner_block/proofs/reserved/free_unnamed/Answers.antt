use Rattle.std.proofs.Common.{rules, ◌≡◌, ℕ, ◌+◌, List, ◌++◌, length, not, arith, ap, ◌∙◌, length-append, refl}
use Rattle.std.specs.List.{filter}
use Rattle.std.proofs.lemmas.Fn.{filter_same}
use Rattle.std.proofs.lemmas.List.Filters.{length-filter_both}
use Rattle.machine_states.specs.guard_core.specs.Moves.{is_unnamed}
use Rattle.runner_block.proofs.reserved.free_unnamed.Goals as goal

named : goal.returns-clause-limbo
named c = filter_same _ _ _ (λ x b f' h. search rules) _ _ c.retain.ensures.filtered

pub returns-clause-limbo : goal.returns-clause-limbo
returns-clause-limbo c = named c

-- what left limbo came into the list
as_many : (xs ys limbo left words : List ℕ) → ys ≡ xs ++ filter (is_unnamed words) limbo → left ≡ filter (λ x. not (is_unnamed words x)) limbo → length ys + length left ≡ length xs + length limbo
as_many xs ys limbo left words added stayed =
    let a = ap length added ∙ length-append xs (filter (is_unnamed words) limbo) in
    let d = length-filter_both (is_unnamed words) (λ x. not (is_unnamed words x)) (λ x. refl) limbo in
    let e = ap length stayed in
    omega (arith, a, d, e)

pub returns-clause-sum : goal.returns-clause-sum
returns-clause-sum c =
    let added = c.add_unnamed.ensures.items ∙ ap (λ (xs : List ℕ). c.args.list.now.items ++ filter (is_unnamed c.args.words.now) xs) c.deref.ensures.value in
    let same = as_many c.args.list.now.items c.add_unnamed.new.list.items c.args.limbo.now.items c.retain.new.self.items c.args.words.now added (named c) in
    let a = c.args.list.now.ok.0 in let b = c.add_unnamed.new.list.ok.0 in let d = c.args.limbo.now.ok.0 in let e = c.retain.new.self.ok.0 in
    omega (arith, same, a, b, d, e)
