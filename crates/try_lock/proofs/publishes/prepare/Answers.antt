use Rattle.std.proofs.Common.{subst}
use Rattle.try_lock.specs.Prepares.{HasSet}
use Rattle.try_lock.proofs.Preparing.{may_set, is_ready}
use Rattle.try_lock.proofs.publishes.prepare.Goals as goal

pub clear_words-requires-clause-free : goal.clear_words-requires-clause-free
clear_words-requires-clause-free g c κs within = let set = c.set_words-runner.ensures.set in may_set c.args.descriptor c.args.runner c.set_words-runner.result set.keeps set.at c.requires.free

pub returns-clause-ready : goal.returns-clause-ready
returns-clause-ready g c =
    let m = g.S.Structure.meaning c.args.table.now.structure in let d = c.args.descriptor in let r = c.args.runner in
    is_ready m r c.set_words-runner.result c.clear_words.result c.args.thunk.now d
    (subst (λ ns. HasSet m d 0 ns r c.set_words-runner.result) c.thunk_words.ensures c.set_words-runner.ensures.set) c.clear_words.ensures.set
