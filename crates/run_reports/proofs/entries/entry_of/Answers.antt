use Rattle.std.proofs.Common.{◌∙◌}
use Rattle.run_reports.proofs.Closed.{has_reply}
use Rattle.run_reports.proofs.Reading.{found_entry, no_other}
use Rattle.run_reports.proofs.entries.entry_of.Goals as goal

pub unreachable-requires : goal.unreachable-requires
unreachable-requires g c =
    let m = g.S.Structure.meaning c.args.words.now.structure in
    let w = c.args.words.now in
    let found = found_entry _ _ c.in_ok-stamp.stamp c.in_ok-stamp.word c.entry.result c.entry.ensures c.in_ok-stamp.was in
    let reply = has_reply m w c.words_are_reached.ensures.requests c.closed_words_have_a_history.ensures c.requires.map c.requires.free c.args.number found.0 in
    no_other c.from_word.result reply.0 (c.from_word.ensures.whole reply.0 reply.1 (reply.2 ∙ found.2)) c.in-None.is
