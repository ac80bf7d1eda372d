-- Bodies that look at one cell, or at two.
use Rattle.std.specs.Prelude.{ℕ, List, [], ◌∷◌, Option, None, Some}
use Rattle.machine_states.specs.body_terms.specs.declared.step.Step.{Step}
use Rattle.machine_states.specs.body_terms.specs.declared.step.Step.TheVariants.{Load, Want, Stamp, Answer}
use Rattle.lock_walks.specs.declared.glance.WantedCell.{WantedCell}
use Rattle.lock_walks.specs.declared.glance.Glance.{Glance}

-- what stands behind the first cell of such a body: the second cell, if there is one, and the stamp and the answer
abbrev pub behind_first : Option WantedCell → ℕ → List Step
behind_first None reply = Stamp ∷ Answer reply ∷ []
behind_first (Some second) reply = Load second.place 1 ∷ Want 1 second.word ∷ Stamp ∷ Answer reply ∷ []

-- its steps: each cell is loaded and tested, and the request is stamped and answered
abbrev pub glanced : Glance → List Step
glanced g = Load g.first.place 0 ∷ Want 0 g.first.word ∷ behind_first g.second g.reply
