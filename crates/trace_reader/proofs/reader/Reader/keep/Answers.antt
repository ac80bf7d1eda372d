use Rattle.std.proofs.Common.{◌≡◌, ℕ, ◌+◌, ◌-◌, ◌++◌, List, take, drop, get_or, refl, subst, arith, length-take}
use Rattle.trace_reader.specs.declared.traces.TraceError.TheVariants.{TooLarge}
use Rattle.trace_reader.specs.Text.{IsFirstRefusal}
use Rattle.trace_reader.proofs.Pieces.{text_around}
use Rattle.trace_reader.proofs.Texts.{text_too_large}
use Rattle.trace_reader.proofs.reader.Reader.keep.Goals as goal

pub returns-then-room-bytes-clause-err : goal.returns-then-room-bytes-clause-err
returns-then-room-bytes-clause-err c = rw c.too_large.ensures (λ text rest at.
    let bytes = c.args.bytes.now in
    let room : ℕ = 4194304 - c.args.self.now.bytes in
    let byte : ℕ = get_or bytes room 0 in
    let full : c.append.new.self.bytes ≡ 4194304 = omega (arith, c.in_ok-append.ensures.nearer, length-take room bytes, c.args.self.now.few_bytes) in
    subst (λ (t : List ℕ). IsFirstRefusal t (TooLarge 4194305)) (text_around text bytes rest room byte (omega arith) refl)
    (text_too_large c.append.new.self byte full (text ++ take room bytes) (drop (room + 1) bytes ++ rest) (c.in_ok-append.ensures.ok text at)))
