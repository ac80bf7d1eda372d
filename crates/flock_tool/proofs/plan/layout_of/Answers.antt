use Rattle.std.proofs.Common.{arith}
use Rattle.flock_tool.proofs.Sizes.{bounds, few_slots}
use Rattle.flock_tool.proofs.plan.layout_of.Goals as goal

pub overflow_mul-count : goal.overflow_mul-count
overflow_mul-count c =
    let few = bounds c.args.options.now c.requires.ranges c.runners_for-runners.result _ c.nodes_for-nodes.result _ c.runners_for-runners.ensures c.nodes_for-nodes.ensures in
    let product = few_slots c.nodes_for-nodes.result c.runners_for-runners.result few.2 few.1 in
    omega (arith, product)

pub returns-clause-limits : goal.returns-clause-limits
returns-clause-limits c =
    let few = bounds c.args.options.now c.requires.ranges c.runners_for-runners.result _ c.nodes_for-nodes.result _ c.runners_for-runners.ensures c.nodes_for-nodes.ensures in
    let ranges = c.requires.ranges in
    record {
      some_runners = few.0;
      few_runners = few.1;
      few_nodes = omega (arith, c.if-count-gt-MOST_NODES.false);
      some_sections = ranges.sections.0;
      few_sections = ranges.sections.1;
      some_versions = ranges.version_max;
      few_versions = c.has_32_bits.ensures;
    }
