use Rattle.std.proofs.Common.{rules, ◌≡◌, ℕ, ◌+◌, List, ◌++◌, length, not, arith, ap, ◌∙◌, length-append, refl}
use Rattle.std.proofs.lemmas.List.{length-map}
use Rattle.std.specs.List.{filter}
use Rattle.std.proofs.lemmas.Fn.{filter_same}
use Rattle.std.proofs.lemmas.List.Filters.{length-filter_both}
use Rattle.machine_states.specs.runner_parts.specs.declared.entries.Retired.{Retired}
use Rattle.machine_states.specs.runner_parts.specs.Lists.{is_old, slots_of}
use Rattle.runner_block.proofs.reserved.move_old.Goals as goal

young : goal.returns-clause-limbo
young c = filter_same _ _ _ (λ x b f' h. search rules) _ _ c.retain.ensures.filtered

pub returns-clause-limbo : goal.returns-clause-limbo
returns-clause-limbo c = young c

-- what left limbo came into the list
as_many : (xs ys : List ℕ) (limbo left : List Retired) (epoch : ℕ) → ys ≡ xs ++ slots_of (filter (is_old epoch) limbo) → left ≡ filter (λ x. not (is_old epoch x)) limbo → length ys + length left ≡ length xs + length limbo
as_many xs ys limbo left epoch added stayed =
    let a = ap length added ∙ length-append xs (slots_of (filter (is_old epoch) limbo)) in
    let b = length-map (filter (is_old epoch) limbo) (λ (x : Retired). x.slot) in
    let d = length-filter_both (is_old epoch) (λ x. not (is_old epoch x)) (λ x. refl) limbo in
    let e = ap length stayed in
    omega (arith, a, b, d, e)

pub returns-clause-sum : goal.returns-clause-sum
returns-clause-sum c =
    let added = c.add_old.ensures.items ∙ ap (λ (xs : List Retired). c.args.list.now.items ++ slots_of (filter (is_old c.args.epoch) xs)) c.deref.ensures.value in
    let same = as_many c.args.list.now.items c.add_old.new.list.items c.args.limbo.now.items c.retain.new.self.items c.args.epoch added (young c) in
    let a = c.args.list.now.ok.0 in let b = c.add_old.new.list.ok.0 in let d = c.args.limbo.now.ok.0 in let e = c.retain.new.self.ok.0 in
    omega (arith, same, a, b, d, e)
