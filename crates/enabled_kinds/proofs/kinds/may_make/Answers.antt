use Rattle.std.proofs.Common.{◌≢◌, ℕ, Bool, sym, ap, subst, ◌∙◌, arith}
use Rattle.enabled_kinds.specs.May.{Tells}
use Rattle.enabled_kinds.specs.Kinds.{plain_kind}
use Rattle.enabled_kinds.proofs.Numbers.{argued, given_plain}
use Rattle.enabled_kinds.proofs.Tells.{scan_tells, plan_tells, guard_tells, link_tells, board_load_tells, take_tells, give_tells, if_tells}
use Rattle.enabled_kinds.proofs.Published.{hold_tells}
use Rattle.enabled_kinds.proofs.kinds.may_make.Goals as goal

pub returns-in-5 : goal.returns-in-5
returns-in-5 g c =
    subst (λ (n : ℕ). Tells (g.S.Structure.meaning c.args.structure.now) c.args.layout c.args.requests.now c.args.runner c.args.part.now n c.may_scan.result) (sym c.in-5.is)
    (scan_tells (g.S.Structure.meaning c.args.structure.now) c.args.layout c.args.requests.now c.args.runner c.args.part.now c.may_scan.result c.may_scan.ensures.scanning c.may_scan.ensures.no_scan)

pub returns-in-18 : goal.returns-in-18
returns-in-18 g c =
    let met = g.met.S.Structure g.world.𝓛 g.world.𝓜 g.world.𝓡 ((λ s allowed. allowed), (λ patient. patient), (λ alone. alone), (λ cuts. cuts)) in
    let first = (met.laws c.args.structure.now).first in
    subst (λ (n : ℕ). Tells (g.S.Structure.meaning c.args.structure.now) c.args.layout c.args.requests.now c.args.runner c.args.part.now n c.may_publish.result) (sym c.in-18.is)
    (subst (λ (b : Bool). Tells (g.S.Structure.meaning c.args.structure.now) c.args.layout c.args.requests.now c.args.runner c.args.part.now 18 b) (sym c.may_publish.ensures)
    (hold_tells (g.S.Structure.meaning c.args.structure.now) c.args.layout c.args.requests.now c.args.runner c.args.part.now c.requires.limits c.requires.few first.few_cells first.few_slots))

pub returns-in-31 : goal.returns-in-31
returns-in-31 g c =
    subst (λ (n : ℕ). Tells (g.S.Structure.meaning c.args.structure.now) c.args.layout c.args.requests.now c.args.runner c.args.part.now n c.may_link.result) (sym c.in-31.is)
    (subst (λ (b : Bool). Tells (g.S.Structure.meaning c.args.structure.now) c.args.layout c.args.requests.now c.args.runner c.args.part.now 31 b) (sym c.may_link.ensures)
    (link_tells (g.S.Structure.meaning c.args.structure.now) c.args.layout c.args.requests.now c.args.runner c.args.part.now))

pub returns-in-32 : goal.returns-in-32
returns-in-32 g c =
    subst (λ (n : ℕ). Tells (g.S.Structure.meaning c.args.structure.now) c.args.layout c.args.requests.now c.args.runner c.args.part.now n c.may-in-32.result) (sym c.in-32.is)
    (subst (λ (b : Bool). Tells (g.S.Structure.meaning c.args.structure.now) c.args.layout c.args.requests.now c.args.runner c.args.part.now 32 b) (sym c.may-in-32.ensures)
    (board_load_tells (g.S.Structure.meaning c.args.structure.now) c.args.layout c.args.requests.now c.args.runner c.args.part.now))

pub returns-in-33 : goal.returns-in-33
returns-in-33 g c =
    subst (λ (n : ℕ). Tells (g.S.Structure.meaning c.args.structure.now) c.args.layout c.args.requests.now c.args.runner c.args.part.now n c.may_take.result) (sym c.in-33.is)
    (subst (λ (b : Bool). Tells (g.S.Structure.meaning c.args.structure.now) c.args.layout c.args.requests.now c.args.runner c.args.part.now 33 b) (sym c.may_take.ensures)
    (take_tells (g.S.Structure.meaning c.args.structure.now) c.args.layout c.args.requests.now c.args.runner c.args.part.now))

pub returns-in-34 : goal.returns-in-34
returns-in-34 g c =
    subst (λ (n : ℕ). Tells (g.S.Structure.meaning c.args.structure.now) c.args.layout c.args.requests.now c.args.runner c.args.part.now n c.may_give.result) (sym c.in-34.is)
    (subst (λ (b : Bool). Tells (g.S.Structure.meaning c.args.structure.now) c.args.layout c.args.requests.now c.args.runner c.args.part.now 34 b) (sym c.may_give.ensures)
    (give_tells (g.S.Structure.meaning c.args.structure.now) c.args.layout c.args.requests.now c.args.runner c.args.part.now))

pub returns-in-39 : goal.returns-in-39
returns-in-39 g c =
    subst (λ (n : ℕ). Tells (g.S.Structure.meaning c.args.structure.now) c.args.layout c.args.requests.now c.args.runner c.args.part.now n c.may_announce_read.result) (sym c.in-39.is)
    (subst (λ (b : Bool). Tells (g.S.Structure.meaning c.args.structure.now) c.args.layout c.args.requests.now c.args.runner c.args.part.now 39 b) (sym c.may_announce_read.ensures)
    (plan_tells (g.S.Structure.meaning c.args.structure.now) c.args.layout c.args.requests.now c.args.runner c.args.part.now))

pub returns-in-37 : goal.returns-in-37
returns-in-37 g c =
    subst (λ (n : ℕ). Tells (g.S.Structure.meaning c.args.structure.now) c.args.layout c.args.requests.now c.args.runner c.args.part.now n c.may-in-37.result) (sym c.in-37.is)
    (subst (λ (b : Bool). Tells (g.S.Structure.meaning c.args.structure.now) c.args.layout c.args.requests.now c.args.runner c.args.part.now 37 b) (sym c.may-in-37.ensures)
    (guard_tells (g.S.Structure.meaning c.args.structure.now) c.args.layout c.args.requests.now c.args.runner c.args.part.now))

pub returns-in_default : goal.returns-in_default
returns-in_default g c =
    let n = c.args.number in
    let not5 : n ≢ 5 = grind arith in
    let not9 : n ≢ 9 = grind arith in
    let not11 : n ≢ 11 = grind arith in
    let not12 : n ≢ 12 = grind arith in
    let not16 : n ≢ 16 = grind arith in
    let not18 : n ≢ 18 = grind arith in
    let not21 : n ≢ 21 = grind arith in
    let not25 : n ≢ 25 = grind arith in
    let not26 : n ≢ 26 = grind arith in
    let not31 : n ≢ 31 = grind arith in
    let not32 : n ≢ 32 = grind arith in
    let not33 : n ≢ 33 = grind arith in
    let not34 : n ≢ 34 = grind arith in
    let not37 : n ≢ 37 = grind arith in
    let not38 : n ≢ 38 = grind arith in
    let not39 : n ≢ 39 = grind arith in
    subst (λ (b : Bool). Tells (g.S.Structure.meaning c.args.structure.now) c.args.layout c.args.requests.now c.args.runner c.args.part.now n b) (sym c.may_if.ensures)
    (if_tells (g.S.Structure.meaning c.args.structure.now) c.args.layout c.args.requests.now c.args.runner c.args.part.now n c.plain_kind.result (sym c.plain_kind.ensures.kind)
    (λ k is none. argued k (ap plain_kind is ∙ none) (λ e. not5 (sym is ∙ e)) (λ e. not9 (sym is ∙ e)) (λ e. not11 (sym is ∙ e)) (λ e. not12 (sym is ∙ e))
    (λ e. not16 (sym is ∙ e)) (λ e. not18 (sym is ∙ e)) (λ e. not21 (sym is ∙ e)) (λ e. not25 (sym is ∙ e)) (λ e. not26 (sym is ∙ e)) (λ e. not31 (sym is ∙ e)) (λ e. not32 (sym is ∙ e)) (λ e. not33 (sym is ∙ e)) (λ e. not34 (sym is ∙ e)) (λ e. not37 (sym is ∙ e)) (λ e. not38 (sym is ∙ e))
    (λ e. not39 (sym is ∙ e)))
    (λ k is. (c.plain_kind.ensures.number k is, given_plain k k (ap plain_kind (c.plain_kind.ensures.number k is) ∙ (sym c.plain_kind.ensures.kind ∙ is)))))
