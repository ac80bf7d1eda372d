use Rattle.std.proofs.Common.{ap, sym, ◌∙◌, take, drop, arith}
use Rattle.std.proofs.lemmas.Grind.{common_steps}
use Rattle.trace_reader.proofs.Moved.{moved, next_sizes}
use Rattle.trace_reader.proofs.memory.Pieces.take.Goals as goal

pub returns-clause-moved : goal.returns-clause-moved
returns-clause-moved c =
    ap (λ s. s.left) (sym c.self.view_is)
    ∙ moved c.self.inside.bytes.items c.args.buffer.now c.copy_from_slice.new.self c.self.inside.at c.min-count.result
    (c.copy_from_slice.ensures.after ∙ ap (λ n. take n (drop c.self.inside.at c.deref-2.result.now)) (omega arith) ∙ ap (λ l. take c.min-count.result (drop c.self.inside.at l)) c.deref-2.ensures.value)
    (grind (arith, common_steps))

pub returns-clause-sizes : goal.returns-clause-sizes
returns-clause-sizes c =
    next_sizes c.self.inside.reads c.saturating_add-self-inside.result c.self.inside.sizes.items c.saturating_add-self-inside.ensures
    (omega (arith, c.self.ranges))
    ∙ ap (λ s. drop 1 s.sizes) c.self.view_is
