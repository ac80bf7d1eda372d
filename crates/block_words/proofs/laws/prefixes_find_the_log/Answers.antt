use Rattle.block_words.proofs.Prefixes.{same_spot, log_word}
use Rattle.block_words.proofs.laws.prefixes_find_the_log.Goals as goal

pub returns : goal.returns
returns c = record {
  spot = λ d k links blocks first low. same_spot links blocks first d k low;
  word = λ log word d k links blocks has first low. log_word links blocks first log word d k has low;
}
