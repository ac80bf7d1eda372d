use Rattle.std.proofs.Common.{subst}
use Rattle.reached_facts.specs.Facts.{KeepsFacts}
use Rattle.reached_facts.proofs.laws.table_keeps_its_facts.Goals as goal

pub returns : goal.returns
returns g c =
    let layout = c.args.table.now.layout in
    let requests = c.args.table.now.requests in
    let limits = c.table_is_allowed.ensures.limits in
    let allowed = c.table_is_allowed.ensures.requests in
    subst (λ s. KeepsFacts (g.S.Structure.meaning s) layout requests) c.structure-structure.ensures (record {
      limits = limits;
      allowed = allowed;
      reached = λ w reached. record {
        history = c.reached_states_have_histories.ensures layout requests limits allowed w reached;
        callers = c.reached_callers_stand.ensures layout requests limits allowed w reached;
        descriptors = c.descriptors_are_kept.ensures layout requests w limits allowed reached;
        own = c.own_descriptors_stand.ensures layout requests w limits allowed reached;
        limbo = c.limbo_is_done.ensures layout requests w limits allowed reached;
        blocks = c.blocks_are_kept.ensures.kept layout requests w limits allowed reached;
        blocks_enough = c.blocks_are_kept.ensures.enough layout requests w limits allowed reached;
        worn = c.worn_slots_are_worn.ensures layout requests w limits allowed reached;
        worn_once = c.worn_lists_have_no_repeats.ensures layout requests w limits allowed reached;
        spent = c.spent_words_stand.ensures layout requests w limits allowed reached;
        locks = c.what_the_keeper_saw_tells.ensures layout requests w limits allowed reached;
        lists = c.lists_are_short.ensures.reached layout requests reached.events w limits allowed reached.after;
        added = c.few_pairs_are_added.ensures layout requests w limits allowed reached;
        versions = c.versions_are_counted.ensures layout requests w limits allowed reached;
        makes = λ per_pair planner. c.makes_are_counted.ensures per_pair layout requests w planner limits allowed reached;
        in_use = λ per_pair planner. c.few_slots_are_in_use.ensures per_pair layout requests w planner limits allowed reached;
        uncrossed = c.one_worker_is_uncrossed.ensures layout requests w reached;
        ungiven = c.lone_board_is_empty.ensures layout requests w limits allowed reached;
      };
    })
