use Rattle.std.proofs.Common.{◌≡◌, ℕ, List, ap, sym, ◌∙◌}
use Rattle.std.proofs.lemmas.Bool.{true≢false}
use Rattle.report_text.specs.MemorySink.{Memory, next_call, is_planned}
use Rattle.report_text.proofs.memory.MemorySinkSink.write.Goals as goal

planned_same : (a b : List ℕ) (m n : ℕ) → a ≡ b → m ≡ n → is_planned a m ≡ is_planned b n
planned_same a b m n e f = λ i. is_planned (e i) (f i)

-- the call is one that is to fail, so nothing is said of one that isn't
pub returns-then-is_planned-clause-empty : goal.returns-then-is_planned-clause-empty
returns-then-is_planned-clause-empty c = λ fails empty.
    let planned = planned_same _ _ _ _ c.deref.ensures.value c.saturating_add-self-inside.ensures in
    let here = ap (λ (memory : Memory). is_planned memory.fails (next_call memory)) c.self.view_is in
    absurd (true≢false (sym c.if-is_planned.true ∙ c.is_planned.ensures ∙ planned ∙ here ∙ fails))
