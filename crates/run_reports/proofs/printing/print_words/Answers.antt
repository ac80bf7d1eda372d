use Rattle.std.proofs.Common.{refl, ◌∙◌, ap}
use Rattle.std.proofs.lemmas.Result.{err_from_is_err_and}
use Rattle.run_reports.specs.Reports.{unserved_in}
use Rattle.run_reports.proofs.Printed.{printed}
use Rattle.run_reports.proofs.printing.print_words.Goals as goal

pub returns-in_err-write_report-clause-stops : goal.returns-in_err-write_report-clause-stops
returns-in_err-write_report-clause-stops g c =
    let p = err_from_is_err_and c.from_residual-in_err-write_report.result c.from_residual-in_err-write_report.ensures.1 in
    rw (p.1, p.2) (
      (
        unserved_in c.in_ok-entries.entries.items,
        _,
        (
          printed (g.S.Structure.meaning c.args.words.now.structure) c.args.words.now c.words_are_reached.ensures.requests c.closed_words_have_a_history.ensures c.requires.map c.requires.free
              c.args.traces c.args.size (unserved_in c.in_ok-entries.entries.items) c.requires.size c.args.requests.now c.requires.requests
              c.in_ok-entries.entries.items c.deref.result.now c.deref-2.result.now c.in_ok-entries.ensures c.deref.ensures.value c.deref-2.ensures.value refl
              c.in_ok-ranks.ranks.items c.deref-3.result.now c.in_ok-ranks.ensures.ranks c.deref-3.ensures.value c.in_ok-ranks.ensures.legal,
          c.in_err-write_report.ensures.appends,
        ),
      ),
      c.in_err-write_report.ensures.cause,
    )

pub returns-clause-prints : goal.returns-clause-prints
returns-clause-prints g c = (
  _,
  (
    printed (g.S.Structure.meaning c.args.words.now.structure) c.args.words.now c.words_are_reached.ensures.requests c.closed_words_have_a_history.ensures c.requires.map c.requires.free
        c.args.traces c.args.size c.unserved.result c.requires.size c.args.requests.now c.requires.requests
        c.in_ok-entries.entries.items c.deref.result.now c.deref-2.result.now c.in_ok-entries.ensures c.deref.ensures.value c.deref-2.ensures.value
        (c.unserved.ensures ∙ ap unserved_in c.deref-4.ensures.value)
        c.in_ok-ranks.ranks.items c.deref-3.result.now c.in_ok-ranks.ensures.ranks c.deref-3.ensures.value c.in_ok-ranks.ensures.legal,
    c.in_ok-write_report.ensures.appends,
  ),
)
