use Rattle.std.proofs.Common.{arith}
use Rattle.run_reports.proofs.Closed.{closed_contents, closed_few}
use Rattle.run_reports.proofs.contents.contents_stand.Goals as goal

pub returns : goal.returns
returns g c =
    let m = g.S.Structure.meaning c.args.words.now.structure in
    let w = c.args.words.now in
    let have = c.closed_words_have_a_history.ensures in
    let allowed = c.words_are_reached.ensures.requests in (
      have.pairs,
      closed_contents m w allowed have c.requires.map c.requires.free,
      omega (arith, closed_few m w allowed have c.requires.map c.requires.free, allowed.in_order.few),
    )
