-- The history of the state that a closed table's words show.
use Rattle.std.proofs.Common.{ℕ, List, subst}
use Rattle.machine_states.specs.table_words.specs.Limits.{IsWithinLimits}
use Rattle.machine_states.specs.structure_laws.specs.Meaning.{Meaning}
use Rattle.machine_states.specs.structure_laws.specs.Laws.{Laws}
use Rattle.machine_states.specs.Sight.{sight}
use Rattle.version_words.specs.machine_invariant.specs.After.{AreAllowed}
use Rattle.reached_histories.specs.Laws.{HasHistory}
use Rattle.reached_histories.proofs.Histories.{reached_have}
use Rattle.version_words.specs.TableState.{WordsState, AreShown}
use Rattle.closed_words.specs.Histories.{HaveHistory}

-- a state with these words has such a history
pub have_history : {T : Type 0} (m : Meaning) → Laws m → (w : WordsState T) → IsWithinLimits w.layout → AreAllowed w.requests
    → AreShown m w.layout w.requests w.words → HaveHistory m w
have_history m laws w limits allowed shown = subst (λ (words : List ℕ). HaveHistory m (record w { words = words })) shown.words here
  where
    at : HasHistory m w.layout w.requests (sight m w.layout w.requests shown.world)
    at = reached_have m laws w.layout w.requests limits allowed shown.world shown.reached

    here : HaveHistory m (record w { words = shown.world.words })
    here = record {
      history = at.state.history;
      pairs = at.state.pairs;
      entries = at.legal.entries;
      legal = at.legal.legal;
      map = at.legal.map;
      replies = at.legal.replies;
      rising = at.legal.rising;
      only = at.legal.only;
      settled = λ none. let closed = at.closed none in record {
        replied = closed.replied;
        replies = closed.replies;
        cells = closed.settled;
      };
    }
