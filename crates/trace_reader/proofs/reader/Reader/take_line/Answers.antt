use Rattle.std.proofs.Common.{◌+◌, ◌++◌, ◌∷◌, List, ℕ, take, drop, subst, sym, refl, ◌∙◌, arith, length-take}
use Rattle.std.proofs.lemmas.Result.{err_from_is_err_and}
use Rattle.trace_reader.specs.Reader.{Refuses}
use Rattle.trace_reader.proofs.Pieces.{found_within, front_line, one_line, parted, text_cut}
use Rattle.trace_reader.proofs.reader.Reader.take_line.Goals as goal

pub returns-in_err-take_request-clause-err : goal.returns-in_err-take_request-clause-err
returns-in_err-take_request-clause-err c =
    let p = err_from_is_err_and c.from_residual.result c.from_residual.ensures.1 in
    let bytes = c.args.bytes.now in
    let end = c.in-Some.request.end in
    rw (p.1, p.2) (λ text more at.
    subst (λ (t : List ℕ). Refuses c.in_err-take_request.field-0.0 t) (text_cut text (take end bytes) (10 ∷ drop (end + 1) bytes) bytes more c.in-Some.ensures.request.cut)
    (c.in_err-take_request.ensures.err text (drop (end + 1) bytes ++ more) at))

pub returns-in_default-find_feed-clause-none : goal.returns-in_default-find_feed-clause-none
returns-in_default-find_feed-clause-none c = (refl, one_line c.args.bytes.now (sym c.find_feed.ensures ∙ c.in_default-find_feed.is))

pub keep-requires : goal.keep-requires
keep-requires c = front_line c.args.bytes.now c.in-Some-find_feed.end (sym c.find_feed.ensures ∙ c.in-Some-find_feed.is)

pub returns-in_err-keep-clause-err : goal.returns-in_err-keep-clause-err
returns-in_err-keep-clause-err c =
    let p = err_from_is_err_and c.from_residual-in_err-keep.result c.from_residual-in_err-keep.ensures.1 in
    let bytes = c.args.bytes.now in
    let end = c.in-Some-find_feed.end in
    let parts = parted bytes end (sym c.find_feed.ensures ∙ c.in-Some-find_feed.is) in
    rw (p.1, p.2) (λ text more at.
    subst (λ (t : List ℕ). Refuses c.in_err-keep.field-0.0 t) (text_cut text (take end bytes) (10 ∷ drop (end + 1) bytes) bytes more parts)
    (c.in_err-keep.ensures.err text (10 ∷ drop (end + 1) bytes ++ more) at))

pub returns-in_err-take_feed-clause-err : goal.returns-in_err-take_feed-clause-err
returns-in_err-take_feed-clause-err c =
    let p = err_from_is_err_and c.from_residual-in_err-take_feed.result c.from_residual-in_err-take_feed.ensures.1 in
    let bytes = c.args.bytes.now in
    let end = c.in-Some-find_feed.end in
    let parts = parted bytes end (sym c.find_feed.ensures ∙ c.in-Some-find_feed.is) in
    rw (p.1, p.2) (λ text more at.
    subst (λ (t : List ℕ). Refuses c.in_err-take_feed.field-0.0 t) (text_cut text (take end bytes) (10 ∷ drop (end + 1) bytes) bytes more parts)
    (c.in_err-take_feed.ensures.err (text ++ take end bytes) (drop (end + 1) bytes ++ more) (c.in_ok-keep.ensures.ok text at)))

pub returns-clause-taken : goal.returns-clause-taken
returns-clause-taken c =
    let bytes = c.args.bytes.now in
    let end = c.in-Some-find_feed.end in
    let found = sym c.find_feed.ensures ∙ c.in-Some-find_feed.is in
    let within = found_within bytes end found in
    record {
      within = within;
      cut = parted bytes end found;
      read = λ text at. c.in_ok-take_feed.ensures.ok (text ++ take end bytes) (c.in_ok-keep.ensures.ok text at);
      nearer = omega (arith, within, c.in_ok-keep.ensures.nearer, c.in_ok-take_feed.ensures.nearer, length-take end bytes);
    }
