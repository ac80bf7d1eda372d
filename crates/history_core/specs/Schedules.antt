-- The first state, and lists of enabled events.
use Rattle.std.specs.Prelude.{false, None, List, [], ◌∷◌}
use Rattle.std.specs.FinMap.{empty}
use Rattle.history_core.specs.State.{Requests, HistoryState}
use Rattle.history_core.specs.Events.{Event, Enabled, after}

-- nothing was published
abbrev pub first_state : HistoryState
first_state = record {
  clock = 0;
  stamp = λ n. 0;
  reply = λ n. 0;
  history = [];
  pairs = empty;
  used = λ d. false;
  done = λ d. false;
  request = λ d. 0;
  answer = λ d. 0;
  stage = λ d. 0;
  floor = λ d. 0;
  knew = λ d n. false;
  by = λ n. 0;
  saw = λ n k. false;
  loaded = λ r. false;
  run = λ r. 0;
  hand = λ r. 0;
  published = λ r. 0;
  known = λ r n. false;
  look = λ r. None;
}

module _ (c : Requests) where
  -- each event of the list is enabled in the state that the events before it lead to
  abbrev pub AllEnabled : HistoryState → List Event → Type 0
  AllEnabled w [] = Unit {0}
  AllEnabled w (e ∷ es) = Enabled c w e × AllEnabled (after c w e) es

  -- the state after a list of events
  abbrev pub after_all : HistoryState → List Event → HistoryState
  after_all w [] = w
  after_all w (e ∷ es) = after_all (after c w e) es
