use Rattle.std.specs.Prelude.{All}
use Rattle.std.proofs.Common.{◌≡◌, ◌<◌, ◌∙◌, ap, sym, subst, arith, true, List, refl}
use Rattle.machine_states.specs.map_history.specs.declared.op.Request.{Request}
use Rattle.machine_states.specs.table_words.specs.declared.layout.Layout.{Layout}
use Rattle.version_words.proofs.Stages.{may_split}
use Rattle.free_serving.specs.serving.specs.Serving.{MayServe}
use Rattle.threaded_runs.specs.Own.{own_requests}
use Rattle.settled_tables.proofs.Keeping.{then_idle}
use Rattle.threaded_runs.proofs.Owning.{worker_may_serve}
use Rattle.threaded_runs.proofs.seating.seat_worker.Goals as goal

pub runner-requires-clause-next : goal.runner-requires-clause-next
runner-requires-clause-next g c κs within = may_split _ c.args.keeper c.args.worker c.requires.keeper.keeper
    (let few = c.requires.worker in let same = ap (λ (l : Layout). l.runners) c.requires.own.layout in omega (arith, few, same))

pub returns-in-Ok-clause-keeper : goal.returns-in-Ok-clause-keeper
returns-in-Ok-clause-keeper g c =
    let few : c.args.worker < c.args.keeper.layout.runners = (let low = c.requires.worker in let same = ap (λ (l : Layout). l.runners) c.requires.own.layout in omega (arith, low, same)) in
    then_idle (g.S.Structure.meaning c.args.table.now.structure) c.args.keeper c.in-Ok.keeper c.args.worker c.in-Ok.ensures.event c.requires.keeper few

pub returns-in-Ok-clause-job : goal.returns-in-Ok-clause-job
returns-in-Ok-clause-job g c =
    let planning = g.S.Planner.planning c.args.table.now.structure in
    let as_many = ap (λ (l : Layout). l.runners) c.layout.ensures in
    let own : c.in_ok-own.own.items ≡ own_requests c.layout.result.runners c.args.worker c.args.table.now.requests = c.in_ok-own.ensures ∙ ap (own_requests c.layout.result.runners c.args.worker) c.requires.requests in
    let few : c.args.worker < c.args.keeper.layout.runners = (let low = c.requires.worker in let same = ap (λ (l : Layout). l.runners) c.requires.own.layout in omega (arith, low, same)) in
    let served = subst (λ (rs : List Request). All (λ (q : Request). planning.serves q.op ≡ true) rs) c.requires.requests c.requires.served in
    record {
      may = record {
        own = c.in-Ok.ensures.own.1;
        next = subst (λ (rs : List Request). MayServe planning rs c.in-Ok.runner) (sym own)
            (worker_may_serve (g.S.Structure.meaning c.args.table.now.structure) planning c.args.table.now c.args.keeper c.in-Ok.runner c.args.worker c.in-Ok.ensures.worker c.in-Ok.ensures.own.1 c.requires.keeper.keeper few
            (c.requires.own.allowed _ refl).in_order served c.layout.result.runners as_many);
      };
      number = ap (λ y. y.number) c.in-Ok.ensures.worker ∙ c.requires.keeper.keeper.as_many;
      requests = own ∙ ap (λ n. own_requests n c.args.worker c.args.table.now.requests) as_many;
      fresh = ap (λ y. y.part.records.finished) c.in-Ok.ensures.worker;
      nodes = ap (λ y. y.part.nodes.limbo) c.in-Ok.ensures.worker;
      descriptors = ap (λ y. y.part.descriptors.limbo) c.in-Ok.ensures.worker;
      unmet = ap (λ y. y.part.records.epoch_seen) c.in-Ok.ensures.worker;
    }
