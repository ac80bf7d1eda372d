use Rattle.std.proofs.Common.{◌≡◌, ◌+◌, suc, ◌∷◌, cond, drop, drop-cons, sym, ap, ◌∙◌, arith}
use Rattle.std.proofs.Math.ListN.{drop_of_length-le}
use Rattle.lock_walks.specs.Followed.{followed}
use Rattle.lock_walks.proofs.walker.follow.Goals as goal

pub returns-then-not-wants : goal.returns-then-not-wants
returns-then-not-wants g c =
    let way = g.W.Walker.way in
    let rest = drop (suc c.loop-place.place-index) c.args.readings.now in
    let here = drop-cons c.args.readings.now c.loop-place.place-index c.loop-place-item.result c.loop-place-test.true
    ∙ ap (λ x. x ∷ rest) (sym c.loop-place-item.is) in
    sym (c.loop-place.invariant.rest ∙ (ap (followed way c.loop-place.walker) here
    ∙ ap (λ b. cond b (followed way (way.fed c.loop-place.walker c.loop-place-item.result.1) rest) c.loop-place.walker) (sym c.wants.ensures ∙ c.if-not-wants.true)))

pub loop-place-preserved : goal.loop-place-preserved
loop-place-preserved g c =
    let way = g.W.Walker.way in
    let rest = drop (suc c.loop-place.place-index) c.args.readings.now in
    let here = drop-cons c.args.readings.now c.loop-place.place-index c.loop-place-item.result c.loop-place-test.true
    ∙ ap (λ x. x ∷ rest) (sym c.loop-place-item.is) in
    let next : suc c.loop-place.place-index ≡ c.loop-place.place-index + 1 = omega arith in
    record {
      rest = c.loop-place.invariant.rest ∙ (ap (followed way c.loop-place.walker) here
          ∙ (ap (λ b. cond b (followed way (way.fed c.loop-place.walker c.loop-place-item.result.1) rest) c.loop-place.walker) (sym c.wants.ensures ∙ c.if-not-wants.false)
          ∙ (λ i. followed way (sym c.feed.ensures i) (drop (next i) c.args.readings.now))));
    }

pub returns : goal.returns
returns g c = sym (c.loop-place.invariant.rest ∙ ap (followed g.W.Walker.way c.loop-place.walker) (drop_of_length-le c.args.readings.now c.loop-place-test.false))
