use Rattle.std.proofs.Common.{rules, arith, ◌≡◌, ℕ, length, ◌∷◌, [], take, sym, ◌∙◌, ap}
use Rattle.std.proofs.lemmas.List.{take-append-le}
use Rattle.std.proofs.Math.Seq.{take-length}
use Rattle.runner_gate.proofs.counts.keep.Goals as goal

pub returns-else-not-is_full : goal.returns-else-not-is_full
returns-else-not-is_full c =
    let plans = c.args.planned.now.items in
    let full : length plans ≡ 16 = search rules in
    let all : take 16 plans ≡ plans = ap (λ (n : ℕ). take n plans) (sym full) ∙ take-length plans in
    sym (take-append-le 16 plans (c.args.plan ∷ []) (omega arith) ∙ all)
