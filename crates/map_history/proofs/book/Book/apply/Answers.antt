use Rattle.std.proofs.Common.{◌+◌, ◌≤◌, sym, subst, Result, Ok, Err, OnOk}
use Rattle.std.specs.FinMap as map
use Rattle.map_history.specs.declared.op.Op.TheVariants.{Ins, Del, Put, Mov}
use Rattle.map_history.specs.Replay.{Pairs}
use Rattle.map_history.proofs.Sizes.{len-map_after}
use Rattle.map_history.proofs.book.Book.apply.Goals as goal

from_ok : {T E : Type 0} (A B : Type 0) (r : Result T E) → OnOk r A → (A → B) → OnOk r B
from_ok A B (Ok value) known step = step known
from_ok A B (Err error) known step = tt

pub returns-in-Ins-clause-few : goal.returns-in-Ins-clause-few
returns-in-Ins-clause-few c =
    from_ok _ _ c.insert.result c.insert.ensures.ok
    (λ is. subst (λ (after : Pairs). map.len after ≤ map.len c.args.self.now + 1) (sym is) (len-map_after c.args.self.now (Ins c.in-Ins.key c.in-Ins.value)))

pub returns-in-Del-clause-few : goal.returns-in-Del-clause-few
returns-in-Del-clause-few c =
    subst (λ (after : Pairs). map.len after ≤ map.len c.args.self.now + 1) (sym c.remove.ensures.after) (len-map_after c.args.self.now (Del c.in-Del.key))

pub returns-in-Put-clause-few : goal.returns-in-Put-clause-few
returns-in-Put-clause-few c =
    from_ok _ _ c.set.result c.set.ensures.ok
    (λ is. subst (λ (after : Pairs). map.len after ≤ map.len c.args.self.now + 1) (sym is) (len-map_after c.args.self.now (Put c.in-Put.key c.in-Put.value)))

pub returns-in-Mov-clause-few : goal.returns-in-Mov-clause-few
returns-in-Mov-clause-few c =
    from_ok _ _ c.shift.result c.shift.ensures.ok
    (λ is. subst (λ (after : Pairs). map.len after ≤ map.len c.args.self.now + 1) (sym is) (len-map_after c.args.self.now (Mov c.in-Mov.from c.in-Mov.to)))
