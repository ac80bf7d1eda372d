use Rattle.std.proofs.Common.{◌≡◌, ◌≢◌, ◌∷◌, List, ℕ, [], ap, arith, length, refl, sym, ◌∙◌}
use Rattle.std.specs.Prelude.{◌==◌}
use Rattle.small_lemmas.proofs.Bools.{not_both}
use Rattle.small_lemmas.proofs.Numbers.{tested_equal}
use Rattle.report_text.specs.Report.Line.{final_line}
use Rattle.report_check.proofs.Forms.{bad_here, bad_later_size, bad_moved, none_left, say_next}
use Rattle.report_check.proofs.form.take_end.Goals as goal

pub returns-in_default-clause-bad : goal.returns-in_default-clause-bad
returns-in_default-clause-bad c =
    bad_moved _ _ c.args.bytes.now _ _ refl (omega (arith, c.from-in_default.ensures))
    (c.in-Ok.ensures.later (final_line 0 ∷ []) 1 (bad_here (final_line 0) [] c.in-Ok.rest.now c.in_default.ensures.none))

pub returns-then-is_empty-clause-said : goal.returns-then-is_empty-clause-said
returns-then-is_empty-clause-said c =
    let none : c.in-Some.more.now ≡ [] = none_left c.in-Some.more.now (tested_equal (length c.in-Some.more.now) 0 (sym c.is_empty.ensures ∙ c.if-is_empty.true)) in
    c.in-Ok.ensures.said (final_line c.in-Some.size ∷ []) (say_next (final_line c.in-Some.size) [] c.in-Ok.rest.now c.in-Some.more.now c.in-Some.ensures.some none)

pub returns-else-is_empty-clause-bad : goal.returns-else-is_empty-clause-bad
returns-else-is_empty-clause-bad c =
    let some : c.in-Some.more.now ≢ [] = λ none. not_both (ap (λ (l : List ℕ). length l == 0) none) (sym c.is_empty.ensures ∙ c.if-is_empty.false) in
    bad_moved _ _ c.args.bytes.now _ _ refl (omega (arith, c.from-else-is_empty.ensures))
    (c.in-Ok.ensures.later (final_line 0 ∷ []) 2 (bad_later_size c.in-Some.size c.in-Ok.rest.now c.in-Some.more.now 1 c.in-Some.ensures.some (refl, some)))
