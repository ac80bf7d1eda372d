use Rattle.std.proofs.Common.{arith, refl, sym}
use Rattle.commit_log.specs.Links.{link_cost, links_cost}
use Rattle.commit_log.proofs.Asked.{asked_none}
use Rattle.commit_log.proofs.Linking.{cost_enough}
use Rattle.commit_log.proofs.Halting.{through_few, halted_few}
use Rattle.commit_log.proofs.Emptying.{nothing_due}
use Rattle.commit_log.proofs.links.link_if_due.Goals as goal

pub link-requires-clause-next : goal.link-requires-clause-next
link-requires-clause-next g c κs within =
    let may = c.requires.next.1 in (c.requires.next.0, may, sym (c.if-is_link_due.ensures c.requires.next.0 may.running.inside.running))

pub returns-then-is_link_due-clause-through : goal.returns-then-is_link_due-clause-through
returns-then-is_link_due-clause-through g c = λ going q is.
    let m = g.S.Structure.meaning c.args.table.now.structure in
    through_few m link_cost (links_cost 1 q) _ _ _ _ _ _ _ _ (cost_enough q is.enough (sym (c.if-is_link_due.ensures q is.inside.running))) (c.link.ensures.through going)

pub returns-then-is_link_due-clause-halted : goal.returns-then-is_link_due-clause-halted
returns-then-is_link_due-clause-halted g c = λ halted q is.
    let m = g.S.Structure.meaning c.args.table.now.structure in
    halted_few m link_cost (links_cost 1 q) _ _ _ _ _ _ _ _ (cost_enough q is.enough (sym (c.if-is_link_due.ensures q is.inside.running))) (c.link.ensures.halted halted)

pub returns-else-is_link_due-clause-linked : goal.returns-else-is_link_due-clause-linked
returns-else-is_link_due-clause-linked g c = λ _ q is.
    let m = g.S.Structure.meaning c.args.table.now.structure in
    (q, nothing_due m c.args.runner q is (sym (c.if-is_link_due.ensures q is.inside.running)))

pub returns-else-is_link_due-clause-through : goal.returns-else-is_link_due-clause-through
returns-else-is_link_due-clause-through g c = λ _ q is. record { made = 0; few = omega arith; ran = refl; asked = asked_none _ _ _ }
