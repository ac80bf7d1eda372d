use Rattle.std.proofs.Common.{ap, ◌∙◌}
use Rattle.load_counts.specs.Apart.{unserved_in}
use Rattle.load_counts.specs.Counts.{counts_in}
use Rattle.load_counts.proofs.ReportsAlone.{alone}
use Rattle.load_counts.proofs.tally.tally_words.Goals as goal

pub returns-clause-alone : goal.returns-clause-alone
returns-clause-alone g c = λ plan size own same order served sized.
    alone (g.S.Structure.meaning c.args.words.now.structure) c.args.words.now c.words_are_reached.ensures.requests c.closed_words_have_a_history.ensures
    c.requires.map c.requires.free c.in_ok-entries.entries.items c.in_ok-entries.ensures
    c.traces_apart_are_answered_alone.ensures.counts c.traces_apart_are_answered_alone.ensures.pairs
    c.count_replies.result c.count_unserved.result
    (c.count_replies.ensures ∙ ap counts_in c.deref.ensures.value) (c.count_unserved.ensures ∙ ap unserved_in c.deref-2.ensures.value)
    plan size (c.generated_traces_are_apart.ensures plan own) same order served sized
