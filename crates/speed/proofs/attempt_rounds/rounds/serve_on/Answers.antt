use Rattle.std.proofs.Common.{◌≡◌, ◌∙◌, ap, sym, subst, take, true, List}
use Rattle.std.specs.Prelude.{All}
use Rattle.machine_states.specs.map_history.specs.declared.op.Request.{Request}
use Rattle.speed.specs.Asked.{requests_of}
use Rattle.serving.specs.Serving.{MayServe}
use Rattle.speed.proofs.Serving.{may_serve}
use Rattle.speed.proofs.attempt_rounds.rounds.serve_on.Goals as goal

pub serve_all-worker-requires-clause-next : goal.serve_all-worker-requires-clause-next
serve_all-worker-requires-clause-next g c κs within =
    let table = c.in_ok-table.ensures in
    let planning = g.S.Planner.planning c.in_ok-table.table.structure in
    let front = c.first_of.ensures ∙ ap (take c.args.round.served) (c.deref-2.ensures.value ∙ c.in_ok-requests.ensures.requests) in
    let asked = table.requests ∙ (c.deref.ensures.value ∙ c.in_ok-requests.ensures.requests) in
    subst (λ (rs : List Request). MayServe planning rs c.in_ok-keeper.worker) (sym front)
    (may_serve planning c.in_ok-table.table c.in_ok-keeper.worker c.in_ok-keeper.ensures.own.1 c.in_ok-keeper.ensures.worker table.runners
    c.args.round.kind c.args.round.count asked
    (subst (λ s. All (λ (q : Request). (g.S.Planner.planning s).serves q.op ≡ true) (requests_of c.args.round.kind c.args.round.count)) (sym table.structure) c.requires.serves)
    c.args.round.served)
