use Rattle.std.proofs.Common.{◌≡◌, List, sym, ap, subst, ◌∙◌, rules}
use Rattle.machine_states.specs.map_history.specs.declared.op.Request.{Request}
use Rattle.machine_states.specs.table_words.specs.declared.sizes.Sizes.{Sizes}
use Rattle.machine_states.specs.runner_steps.specs.Asks.{sizes_for}
use Rattle.machine_states.specs.First.{IsFilled}
use Rattle.machine_invariant.specs.After.{AreAllowed}
use Rattle.version_words.proofs.Begins.{begins}
use Rattle.version_words.proofs.Bounds.{allowed_in}
use Rattle.version_words.proofs.table.FlockTable.new.Goals as goal

pub of_words-requires : goal.of_words-requires
of_words-requires g c =
    let m = g.S.Structure.meaning c.args.structure in
    let sizes_is = c.sizes_for-sizes.ensures ∙ ap (λ (rs : List Request). sizes_for m c.args.layout rs) (sym c.in_ok-requests.ensures.items) in
    begins m c.args.structure c.args.layout c.in_ok-requests.requests.items c.as_slice.result.now
    (subst (λ (z : Sizes). IsFilled m z z.cells c.as_slice.result.now) sizes_is (subst (IsFilled m c.sizes_for-sizes.result c.sizes_for-sizes.result.cells) (sym c.as_slice.ensures.value) c.in_ok-words.ensures))

pub invariant_of-result : goal.invariant_of-result
invariant_of-result g c =
    search (rules, subst AreAllowed (sym c.in_ok-requests.ensures.items) (allowed_in c.args.requests.now c.requires.ordered c.values_fit.ensures))

pub returns-clause-own : goal.returns-clause-own
returns-clause-own g c =
    let allowed : AreAllowed c.in_ok-requests.requests.items =
    subst AreAllowed (sym c.in_ok-requests.ensures.items) (allowed_in c.args.requests.now c.requires.ordered c.values_fit.ensures) in
    let all_allowed : (rs : List Request) → rs ≡ c.in_ok-requests.requests.items → AreAllowed rs = λ rs same. subst AreAllowed (sym same) allowed in
    search (rules, all_allowed)
