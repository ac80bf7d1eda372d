use Rattle.std.proofs.Common.{refl}
use Rattle.trace_reader.proofs.Texts.{line_longer}
use Rattle.trace_reader.proofs.reader.Reader.append.Goals as goal

pub returns-clause-ok : goal.returns-clause-ok
returns-clause-ok c = line_longer c.args.self.now _ c.args.bytes.now c.requires.line (λ lines behind. behind) c.in_ok-extend_from_slice.ensures.items refl
