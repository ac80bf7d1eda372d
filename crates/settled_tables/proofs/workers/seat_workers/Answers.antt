use Rattle.std.proofs.Common.{rules, ◌≡◌, ◌++◌, ◌∷◌, [], vec_items}
use Rattle.settled_tables.proofs.Working.{seated_more}
use Rattle.settled_tables.proofs.workers.seat_workers.Goals as goal

pub loop-number-preserved : goal.loop-number-preserved
loop-number-preserved g c =
    let was = c.loop-number.invariant in
    let pushed : vec_items c.push.new.self ≡ vec_items c.loop-number.workers ++ c.in_ok-kept.worker ∷ [] = c.in_ok-push.ensures.items in (
      search rules,
      search rules,
      search rules,
      seated_more c.args.table.now (vec_items c.loop-number.workers) (vec_items c.push.new.self) c.in_ok-kept.worker c.loop-number.number pushed (search rules) (search rules) was.3,
    )
