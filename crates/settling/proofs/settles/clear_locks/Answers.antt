use Rattle.std.proofs.Common.{◌≡◌, ◌+◌, length, false, sym, subst, ap, ◌∙◌}
use Rattle.try_lock.specs.commit_log.specs.version_words.specs.TableState.{IsOf}
use Rattle.settling.specs.Clearing.{KeepsJoins, IsClearing}
use Rattle.settling.proofs.Clears.{keeps_on, skips}
use Rattle.settling.proofs.settles.clear_locks.Goals.{then-is_lock, else-is_lock}
use Rattle.settling.proofs.settles.clear_locks.Goals as goal

pub loop-place-preserved : goal.loop-place-preserved
loop-place-preserved g c =
    let t = c.args.table.now in let m = g.S.Structure.meaning t.structure in let begun = length c.args.keeper.part.records.finished in
    let place = c.loop-place.place in let was = c.loop-place.invariant in
    elim c.if-is_lock.branch [
      | then-is_lock w ↦ record {
        own = subst (IsOf t) (sym w.keeper-is) w.clear_lock-keeper.ensures.own;
        clearing = subst (IsClearing m begun (place + 1)) (sym w.keeper-is) (w.clear_lock-keeper.ensures.cleared begun was.clearing);
        keeps = subst (KeepsJoins c.args.keeper) (sym w.keeper-is) (keeps_on _ _ _ was.keeps w.clear_lock-keeper.ensures.keeps);
      }
      | else-is_lock w ↦
          let no_lock : m.is_lock place ≡ false = ap (λ s. (g.S.Structure.meaning s).is_lock place) (sym c.structure.ensures) ∙ (sym c.is_lock.ensures ∙ w.if-is_lock.false) in
          record {
            own = subst (IsOf t) (sym w.keeper-is) was.own;
            clearing = subst (IsClearing m begun (place + 1)) (sym w.keeper-is) (skips m begun place _ no_lock was.clearing);
            keeps = subst (KeepsJoins c.args.keeper) (sym w.keeper-is) was.keeps;
          }
    ]
