use Rattle.std.proofs.Common.{◌≡◌, ℕ, refl, sym, ◌∙◌, Option, Some, None}
use Rattle.structure_laws.specs.map_history.specs.declared.op.Op.TheVariants.{Del}
use Rattle.structure_laws.specs.map_history.specs.AtKey.{left_at}
use Rattle.structure_laws.specs.map_history.proofs.Cells.{left_own}
use Rattle.shared_laws.proofs.at_key.left_at.Goals as goal

pub returns-in-Ins-None-clause-map : goal.returns-in-Ins-None-clause-map
returns-in-Ins-None-clause-map c = λ pairs one h.
    sym (λ i. left_at (c.in-Ins-None.is-1 i) (c.in-Ins-None.is-0 i)) ∙ left_own pairs c.args.op c.args.had one h

pub returns-in-Put-default-clause-map : goal.returns-in-Put-default-clause-map
returns-in-Put-default-clause-map c = λ pairs one h.
    sym (λ i. left_at c.args.had (c.in-Put-default.is-0 i)) ∙ left_own pairs c.args.op c.args.had one h

taken : (had : Option ℕ) (key : ℕ) → None ≡ left_at had (Del key)
taken None key = refl
taken (Some value) key = refl

pub returns-in-Del-default-clause-map : goal.returns-in-Del-default-clause-map
returns-in-Del-default-clause-map c = λ pairs one h.
    taken c.args.had c.in-Del-default.field-0-0 ∙ (sym (λ i. left_at c.args.had (c.in-Del-default.is-0 i)) ∙ left_own pairs c.args.op c.args.had one h)
