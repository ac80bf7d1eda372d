use Rattle.block_words.proofs.Prefixes.{same_link, link_word, last, next}
use Rattle.block_words.proofs.laws.links_lead_on.Goals as goal

pub returns : goal.returns
returns c = record {
  spot = λ d links blocks first. same_link links blocks first d;
  word = λ log word d links blocks has first. link_word links blocks first log word d has;
  last = λ links blocks first none. last links blocks first none;
  next = λ b links blocks first some. next links blocks first b some;
}
