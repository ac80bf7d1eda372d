-- The text that is handed to the sink.
use Rattle.std.proofs.Common.{◌≡◌, ℕ, List, ◌∙◌, ap, subst}
use Rattle.map_history.specs.declared.op.Request.{Request}
use Rattle.trace_reader.specs.Answer.{AreTracesOf}
use Rattle.trace_reader.specs.Generator.{generated}
use Rattle.trace_reader.specs.Printed.{printed}
use Rattle.trace_reader.specs.declared.generator.Gen.{Gen}
use Rattle.printed_traces.specs.Ends.{IsRead, gen_text}

-- it is that of the generated requests
pub is_gen_text : (plan : Gen) (count : ℕ) (requests : List Request) (text handed : List ℕ) → count ≡ plan.traces → requests ≡ generated plan → handed ≡ text → text ≡ printed requests count → handed ≡ gen_text plan
is_gen_text plan count requests text handed counted are same is =
    same ∙ is ∙ ap (λ r. printed r count) are ∙ ap (printed (generated plan)) counted

pub is_read : (plan : Gen) (format count : ℕ) (requests : List Request) (text : List ℕ) → format ≡ 1 → count ≡ plan.traces → requests ≡ generated plan → text ≡ gen_text plan → AreTracesOf (record { format = format; count = count; requests = requests }) text → IsRead plan
is_read plan format count requests text first counted are same read =
    subst (λ (t : List ℕ). AreTracesOf (record { format = 1; count = plan.traces; requests = generated plan }) t) same
    (subst (λ (r : List Request). AreTracesOf (record { format = 1; count = plan.traces; requests = r }) text) are
    (subst (λ (n : ℕ). AreTracesOf (record { format = 1; count = n; requests = requests }) text) counted
    (subst (λ (f : ℕ). AreTracesOf (record { format = f; count = count; requests = requests }) text) first read)))
