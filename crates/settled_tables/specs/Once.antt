-- What became of the sections that were published in a run.
use Rattle.std.specs.Prelude.{◌≡◌}
use Rattle.machine_states.specs.structure_laws.specs.Meaning.{Meaning}
use Rattle.machine_states.specs.World.{World}
use Rattle.machine_states.specs.Reached.{Reached}
use Rattle.closed_words.specs.reached_histories.specs.machine_facts.specs.After.{AreFactsAfter}
use Rattle.closed_words.specs.version_words.specs.TableState.{WordsState}

-- the words are those of a state that the machine reaches, and each section that was published up to there had its
-- effects once, for good, or none (`once` of the facts)
pub record SectionsCameOnce {T : Type 0} (m : Meaning) (w : WordsState T) : Type 0 where
  pub world : World
  pub words : world.words ≡ w.words
  pub reached : Reached m w.layout w.requests world
  pub facts : AreFactsAfter m w.layout w.requests reached.events world reached.after
