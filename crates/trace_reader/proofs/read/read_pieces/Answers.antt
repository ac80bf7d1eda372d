use Rattle.std.proofs.Common.{◌∙◌, [], arith}
use Rattle.std.proofs.lemmas.Result.{err_from_is_err_and}
use Rattle.trace_reader.proofs.Told.{Moves-append, Moves-kept, whole_told, refused_told, no_fault_refused, no_fault_answered, stops}
use Rattle.trace_reader.proofs.read.read_pieces.Goals as goal

pub returns-in_err-count-clause-first : goal.returns-in_err-count-clause-first
returns-in_err-count-clause-first g c = λ is.
    let (text, (at, moved)) = c.loop-reader.invariant.read in
    stops _ _ c.loop-reader.reader text c.loop-reader.reader.few_bytes at (Moves-kept _ _ _ text moved c.in_err-count.ensures.failed)

pub returns-then-count-eq0-clause-answer : goal.returns-then-count-eq0-clause-answer
returns-then-count-eq0-clause-answer g c =
    let (text, (at, moved)) = c.loop-reader.invariant.read in
    whole_told _ _ text c.finish.result moved (c.in_ok-count.ensures.end (omega arith) c.if-count-eq0.true) (c.finish.ensures.answer text at)

pub returns-then-count-eq0-clause-ordered : goal.returns-then-count-eq0-clause-ordered
returns-then-count-eq0-clause-ordered g c =
    let (text, (at, moved)) = c.loop-reader.invariant.read in
    c.finish.ensures.ordered text at

pub returns-then-count-eq0-clause-format : goal.returns-then-count-eq0-clause-format
returns-then-count-eq0-clause-format g c =
    let (text, (at, moved)) = c.loop-reader.invariant.read in
    c.finish.ensures.format text at

pub returns-then-count-eq0-clause-fault : goal.returns-then-count-eq0-clause-fault
returns-then-count-eq0-clause-fault g c = λ is.
    let (text, (at, moved)) = c.loop-reader.invariant.read in
    absurd (no_fault_answered c.finish.result text (c.finish.ensures.answer text at) is)

pub returns-then-count-eq0-clause-first : goal.returns-then-count-eq0-clause-first
returns-then-count-eq0-clause-first g c = λ is.
    let (text, (at, moved)) = c.loop-reader.invariant.read in
    absurd (no_fault_answered c.finish.result text (c.finish.ensures.answer text at) is)

pub loop-reader-preserved : goal.loop-reader-preserved
loop-reader-preserved g c =
    let (text, (at, moved)) = c.loop-reader.invariant.read in
    record {
      read = (_, (c.in_ok-feed.ensures.ok text at, Moves-append _ _ _ text _ moved c.in_ok-count.ensures.moved));
      steady = c.in_ok-count.ensures.steady ∙ c.loop-reader.invariant.steady;
    }

pub returns-in_err-feed-clause-answer : goal.returns-in_err-feed-clause-answer
returns-in_err-feed-clause-answer g c =
    let (text, (at, moved)) = c.loop-reader.invariant.read in
    let p = err_from_is_err_and c.from_residual-in_err-feed.result c.from_residual-in_err-feed.ensures.1 in
    rw (p.1, p.2) (refused_told _ _ _ c.in_err-feed.field-0.0 (Moves-append _ _ _ text _ moved c.in_ok-count.ensures.moved) (λ rest. c.in_err-feed.ensures.err text rest at))

pub returns-in_err-feed-clause-fault : goal.returns-in_err-feed-clause-fault
returns-in_err-feed-clause-fault g c =
    let (text, (at, moved)) = c.loop-reader.invariant.read in
    let p = err_from_is_err_and c.from_residual-in_err-feed.result c.from_residual-in_err-feed.ensures.1 in
    rw (p.1, p.2) (λ is. absurd (no_fault_refused c.in_err-feed.field-0.0 _ (c.in_err-feed.ensures.err text [] at) is))

pub returns-in_err-feed-clause-first : goal.returns-in_err-feed-clause-first
returns-in_err-feed-clause-first g c =
    let (text, (at, moved)) = c.loop-reader.invariant.read in
    let p = err_from_is_err_and c.from_residual-in_err-feed.result c.from_residual-in_err-feed.ensures.1 in
    rw (p.1, p.2) (λ is. absurd (no_fault_refused c.in_err-feed.field-0.0 _ (c.in_err-feed.ensures.err text [] at) is))
