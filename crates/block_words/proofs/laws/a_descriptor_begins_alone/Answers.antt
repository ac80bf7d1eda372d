use Rattle.block_words.proofs.Parts.{alone}
use Rattle.block_words.proofs.laws.a_descriptor_begins_alone.Goals as goal

pub returns : goal.returns
returns c = alone
