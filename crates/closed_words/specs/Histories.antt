-- What the words of a closed table hold of the requests and of the map.
use Rattle.std.specs.Prelude.{◌≡◌, ◌≢◌, ℕ, ◌<◌, true, List, Contains}
use Rattle.std.specs.FinMap.{empty}
use Rattle.machine_states.specs.map_history.specs.History.{IsLegalFrom}
use Rattle.machine_states.specs.map_history.specs.Replay.{Pairs, map_after_all}
use Rattle.machine_states.specs.map_history.specs.Words as replies
use Rattle.history_orders.specs.Turns.{Follows}
use Rattle.history_orders.specs.Stamped.{Stamped, oldest_first, ops_of, IsReplayed, IsHistoryOf}
use Rattle.machine_states.specs.body_terms.specs.Word.{value_of}
use Rattle.machine_states.specs.table_words.specs.declared.spot.Spot.TheVariants.{Cell, Stamp, Reply}
use Rattle.machine_states.specs.structure_laws.specs.Meaning.{Meaning}
use Rattle.reached_histories.specs.history_core.specs.State.{Requests}
use Rattle.reached_histories.specs.Requests.{requests_of}
use Rattle.version_words.specs.TableState.{WordsState, word_of}

module _ {T : Type 0} (m : Meaning) (w : WordsState T) where
  -- the requests
  abbrev pub asked : Requests
  asked = requests_of m w.layout w.requests

  -- no lock word names a descriptor
  abbrev pub HoldsNoLock : Type 0
  HoldsNoLock = (p : ℕ) → m.is_lock p ≡ true → value_of (word_of m w (Cell p)) ≡ 0

  -- each stamped request has its reply word, the one at its place where the structure serves a map, and the cells stand
  -- for the history's final map
  pub record AreSettled (history : List Stamped) (pairs : Pairs) : Type 0 where
    pub replied : (n : ℕ) → word_of m w (Stamp n) ≢ 0 → word_of m w (Reply n) ≢ 0
    pub replies : m.is_map ≡ true → (e : Stamped) → Contains history e
        → word_of m w (Reply e.number) ≡ replies.word_of e.reply
    pub cells : m.stands w.layout (λ p. word_of m w (Cell p)) pairs

  -- the requests that have an entry are one legal history
  pub record HaveHistory : Type 0 where
    -- the requests whose stamp word isn't 0, by stamp and then by number, newest first; and the map after them
    pub history : List Stamped
    pub pairs : Pairs
    pub entries : IsHistoryOf asked.op (λ n. word_of m w (Stamp n)) history
    -- a plain map that serves them in this order gives their replies, and is left as that map
    pub legal : m.is_map ≡ true → IsLegalFrom empty (oldest_first history)
    pub map : m.is_map ≡ true → pairs ≡ map_after_all empty (ops_of history)
    pub replies : m.is_map ≡ true → (e : Stamped) → Contains history e → word_of m w (Reply e.number) ≢ 0
        → word_of m w (Reply e.number) ≡ replies.word_of e.reply
    -- stamps never fall along a trace, and two equal ones are odd; no request has an entry before the earlier ones of
    -- its trace
    pub rising : (k n : ℕ) → k < n → asked.trace k ≡ asked.trace n → word_of m w (Stamp n) ≢ 0
        → (word_of m w (Stamp k) ≢ 0) × Follows (word_of m w (Stamp k)) (word_of m w (Stamp n))
    -- it is the only such list
    pub only : m.is_map ≡ true → (other : List Stamped) → IsHistoryOf asked.op (λ n. word_of m w (Stamp n)) other
        → IsReplayed other → other ≡ history
    -- and where no lock is held, all is settled
    pub settled : HoldsNoLock → AreSettled history pairs
