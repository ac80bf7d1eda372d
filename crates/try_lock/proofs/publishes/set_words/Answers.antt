use Rattle.std.proofs.Common.{◌≡◌, ◌+◌, suc, take, get_or, sym, ap, subst, ◌∙◌, arith}
use Rattle.std.proofs.Math.Seq.{take-suc}
use Rattle.std.proofs.lemmas.List.{length-take-le}
use Rattle.machine_states.specs.table_words.specs.Places.{slot_count}
use Rattle.try_lock.specs.Prepares.{SetsWord, HasSet}
use Rattle.try_lock.proofs.Preparing.{may_set, set_more}
use Rattle.try_lock.proofs.publishes.set_words.Goals as goal

pub set_word-runner-requires-clause-free : goal.set_word-runner-requires-clause-free
set_word-runner-requires-clause-free g c κs within = let set = c.loop-i.invariant.set in may_set c.args.descriptor c.args.runner c.loop-i.runner set.keeps set.at c.requires.free

pub loop-i-preserved : goal.loop-i-preserved
loop-i-preserved g c =
    let m = g.S.Structure.meaning c.args.table.now.structure in let d = c.args.descriptor in let first = c.args.first in let numbers = c.args.numbers.now in let i = c.loop-i.i in
    let low = c.loop-i-test.true in let few = c.requires.few in
    let count = length-take-le i numbers (let le = low in omega (arith, le)) in
    record {
      own = c.set_word-runner.ensures.own;
      set = subst (λ ns. HasSet m d first ns c.args.runner c.set_word-runner.result) (sym (ap (λ k. take k numbers) (let e : i + 1 ≡ suc i = omega arith in e) ∙ take-suc numbers i 0 low))
          (set_more m d first (take i numbers) (get_or numbers i 0) c.args.runner c.loop-i.runner c.set_word-runner.result c.loop-i.invariant.set c.requires.free
          (let e = count in omega (arith, e, low, few))
          (subst (λ k. SetsWord m (slot_count c.loop-i.runner.layout m.fixed_slots + d) (first + k) (get_or numbers i 0) c.loop-i.runner c.set_word-runner.result) (sym count) c.set_word-runner.ensures.set));
    }
