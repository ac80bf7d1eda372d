use Rattle.block_words.proofs.Parts.{linked}
use Rattle.block_words.proofs.laws.a_link_adds_a_block.Goals as goal

pub returns : goal.returns
returns c log word d b blocks has new empty = linked log word d b blocks has new empty
