use Rattle.std.proofs.Common.{◌≡◌, true, ap, sym, subst, ◌∙◌}
use Rattle.machine_states.specs.map_history.specs.declared.op.Request.{Request}
use Rattle.leaf_tree.specs.tree_laws.specs.bucket_laws.specs.Walk.{has_one_key}
use Rattle.machine_states.specs.table_words.specs.declared.layout.Layout.{Layout}
use Rattle.lock_tests.specs.HashScene.{asked}
use Rattle.lock_tests.proofs.HashRow.{is_due_of_two, asked_one_key}
use Rattle.lock_tests.proofs.hash_scene.plan_and_publish.Goals as goal

pub plan_and_publish-requires-clause-due : goal.plan_and_publish-requires-clause-due
plan_and_publish-requires-clause-due c κs =
    is_due_of_two c.args.ops.0 c.args.ops.1 c.args.runner (ap (λ (l : Layout). l.runners) c.requires.own.layout ∙ c.requires.scene.runners) (c.requires.own.requests ∙ c.requires.scene.requests)
    c.requires.worker c.requires.ready c.request_of-request.result (c.request_of-request.ensures ∙ ap (asked c.args.ops.0 c.args.ops.1) c.number.ensures)

pub plan_and_publish-requires-clause-served : goal.plan_and_publish-requires-clause-served
plan_and_publish-requires-clause-served c κs =
    subst (λ (q : Request). has_one_key q.op ≡ true) (sym c.request_of-request.ensures)
    (asked_one_key c.args.ops.0 c.args.ops.1 _ c.requires.one_key.0 c.requires.one_key.1)
