use Rattle.std.proofs.Common.{◌++◌, ◌∷◌, [], ℕ, List, take, subst, sym, ap, ◌∙◌, arith, append_assoc, length-append, length-take}
use Rattle.std.proofs.lemmas.Result.{err_from_is_err_and}
use Rattle.trace_reader.specs.Reader.{StandsAt, Refuses}
use Rattle.trace_reader.proofs.Pieces.{piece_on, text_on}
use Rattle.trace_reader.proofs.Results.{IfErr-from, IfNone-at, IfSome-at}
use Rattle.trace_reader.proofs.reader.Reader.feed.Goals as goal

pub returns-in_err-end-clause-err : goal.returns-in_err-end-clause-err
returns-in_err-end-clause-err c =
    let p = err_from_is_err_and c.from_residual.result c.from_residual.ensures.1 in
    let (front, (whole, (reads, bytes))) = c.loop-end.invariant.read in
    rw (p.1, p.2) (λ text more at.
    subst (λ (t : List ℕ). Refuses c.in_err-end.field-0.0 t) (ap (λ l. l ++ more) (append_assoc text front c.loop-end.rest.now ∙ ap (λ l. text ++ l) whole))
    (c.in_err-end.ensures.err (text ++ front) more (reads text at)))

pub loop-end-preserved : goal.loop-end-preserved
loop-end-preserved c =
    let rest = c.loop-end.rest.now in
    let end = c.in-Some.end in
    let (front, (whole, (reads, bytes))) = c.loop-end.invariant.read in
    let taken = IfSome-at _ c.in_ok-end.field-0 end c.in-Some.is c.in_ok-end.ensures.taken in
    record {
      read = (
        (front ++ take end rest) ++ 10 ∷ [],
        (
          piece_on front rest c.args.piece.now end whole taken.cut,
          (
            λ text at. subst (λ (t : List ℕ). StandsAt c.take_line.new.self t) (text_on text front (take end rest)) (taken.read (text ++ front) (reads text at)),
            omega (arith, bytes, taken.nearer, taken.within, length-append (front ++ take end rest) (10 ∷ []), length-append front (take end rest), length-take end rest),
          ),
        ),
      );
    }

pub returns-clause-err : goal.returns-clause-err
returns-clause-err c =
    let (front, (whole, (reads, bytes))) = c.loop-end.invariant.read in
    let same = (IfNone-at _ c.in_ok-end.field-0 c.in_default.is c.in_ok-end.ensures.none).0 in
    IfErr-from _ _ c.keep.result c.keep.ensures.err
    (λ e refused. λ text more at.
    subst (λ (t : List ℕ). Refuses e t) (ap (λ l. l ++ more) (append_assoc text front c.loop-end.rest.now ∙ ap (λ l. text ++ l) whole))
    (refused (text ++ front) more (subst (λ r. StandsAt r (text ++ front)) (sym same) (reads text at))))
