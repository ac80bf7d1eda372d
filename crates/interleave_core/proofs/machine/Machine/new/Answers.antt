use Rattle.std.proofs.Common.{◌≡◌, List, length, sym, ap, subst, ◌∙◌, arith}
use Rattle.machine_states.specs.map_history.specs.declared.op.Request.{Request}
use Rattle.machine_states.specs.table_words.specs.Places.{size}
use Rattle.machine_states.specs.runner_steps.specs.Asks.{sizes_for}
use Rattle.machine_states.proofs.Firsts.{length_parts}
use Rattle.machine_states.specs.table_words.specs.declared.sizes.Sizes.{Sizes}
use Rattle.machine_states.specs.First.{IsFilled}
use Rattle.machine_states.proofs.Reached.{first_reached}
use Rattle.interleave_core.proofs.machine.Machine.new.Goals as goal

pub invariant_of-result : goal.invariant_of-result
invariant_of-result g c =
    let m = g.S.Structure.meaning c.args.structure in
    let few = c.requires.ordered.few in
    let same = ap length c.in_ok-requests.ensures.items in
    let sizes_is : c.sizes_for-sizes.result ≡ sizes_for m c.args.layout c.in_ok-requests.requests.items =
    c.sizes_for-sizes.ensures ∙ ap (λ (rs : List Request). sizes_for m c.args.layout rs) (sym c.in_ok-requests.ensures.items) in
    let as_many = c.in_ok-words.ensures.room ∙ ap size sizes_is in
    record {
      limits = c.requires.limits;
      few = omega (arith, same, few);
      words = omega (arith, as_many);
      parts = ap length c.in_ok-parts.ensures ∙ length_parts m c.args.layout;
    }

pub returns-clause-reached : goal.returns-clause-reached
returns-clause-reached g c =
    let m = g.S.Structure.meaning c.args.structure in
    let words = c.in_ok-words.words.items in
    let filled = subst (λ (s : Sizes). IsFilled m s s.cells words) c.sizes_for-sizes.ensures c.in_ok-words.ensures in
    first_reached m c.args.layout c.args.requests.now _ (record { words = filled; parts = c.in_ok-parts.ensures })
