use Rattle.std.proofs.Common.{rules, ◌-◌, ◌^◌, ◌≤◌}
use Rattle.commit_log.proofs.Telling.{told}
use Rattle.commit_log.proofs.apart.tell.Goals as goal

pub returns : goal.returns
returns g c = record {
  told = λ n going asks asks' is.
      let low : c.args.steps.now.count ≤ 2 ^ 64 - 1 = search rules in
      told n going _ _ asks asks' _ _ _ _ _ (c.count.ensures.halts c.requires.free) c.count.ensures.asked low c.saturating_add-steps.ensures is;
}
