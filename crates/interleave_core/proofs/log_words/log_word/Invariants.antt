use Rattle.std.proofs.Common.{◌≡◌}
use Rattle.machine_states.specs.table_words.specs.declared.spot.Spot.TheVariants.{LinkWord}
use Rattle.machine_states.specs.table_words.specs.Seen.{seen}
use Rattle.interleave_core.specs.Logs.{link_after}
use Rattle.interleave_core.proofs.log_words.log_word.Given as goal

abbrev pub invariant-loop-before : goal.invariant-loop-before
invariant-loop-before l = l.link ≡ link_after (seen l.sizes l.words) l._before (seen l.sizes l.words (LinkWord l.descriptor))
