-- The history of the stamped requests in a state of the machine.
use Rattle.std.specs.Prelude.{◌≡◌, ◌≢◌, ◌⊎◌, ℕ, ◌<◌, ◌/◌, ◌%◌, ◌≤◌, true, Some, List, slice_get, Contains}
use Rattle.std.specs.FinMap.{empty}
use Rattle.machine_states.specs.map_history.specs.declared.op.Request.{Request}
use Rattle.machine_states.specs.map_history.specs.History.{IsLegalFrom}
use Rattle.machine_states.specs.map_history.specs.Replay.{Pairs, map_after_all}
use Rattle.machine_states.specs.map_history.specs.Words.{word_of}
use Rattle.history_orders.specs.Turns.{Follows}
use Rattle.history_orders.specs.Stamped.{Stamped, oldest_first, ops_of, IsReplayed, IsHistoryOf}
use Rattle.machine_states.specs.body_terms.specs.Word.{value_of}
use Rattle.machine_states.specs.body_terms.specs.declared.micro.Source.{Source}
use Rattle.machine_states.specs.body_terms.specs.declared.micro.Micro.TheVariants.{StampExchange, ReplyExchange, ExchangeCell}
use Rattle.machine_states.specs.table_words.specs.declared.layout.Layout.{Layout}
use Rattle.machine_states.specs.table_words.specs.declared.spot.Spot.TheVariants.{Cell, Clock, Stamp, Reply, DoneWord}
use Rattle.machine_states.specs.structure_laws.specs.Meaning.{Meaning}
use Rattle.machine_states.specs.runner_parts.specs.declared.entries.Published.{Published}
use Rattle.machine_states.specs.runner_parts.specs.State.{RunState}
use Rattle.machine_states.specs.runner_steps.specs.Sections.{is_open_run, next_of}
use Rattle.machine_history.specs.history_core.specs.State.{Requests}
use Rattle.machine_states.specs.Sight.{Sight}
use Rattle.machine_facts.specs.machine_agreement.specs.machine_epochs.specs.Entries.{counts_of}
use Rattle.machine_history.specs.Memory.{MemoryStands}
use Rattle.machine_facts.specs.machine_invariant.specs.Sections.{IsAnswered}
use Rattle.machine_facts.specs.machine_invariant.specs.Trails.{thunk_at, step_at}
use Rattle.machine_facts.specs.machine_invariant.specs.Whole.{Beside, states_of}
use Rattle.reached_histories.specs.Requests.{requests_of}
use Rattle.reached_histories.specs.Sections.{IsStamped, Knows, HasPublished, KnewThen, HasOpen, IsToStamp}

module _ (m : Meaning) (l : Layout) (requests : List Request) (g : Beside) (s : Sight) where
  -- the requests, with the worker of each: the number of its trace modulo the number of workers
  abbrev pub asked : Requests
  asked = requests_of m l requests

  -- the request of the section in this descriptor
  abbrev pub request_in : ℕ → ℕ
  request_in d = (thunk_at m g.agreement s d).request

  -- the entries of this list, newest first, are one legal history, and the completed memory stands for this map
  pub record IsLegalHistory (history : List Stamped) (pairs : Pairs) : Type 0 where
    -- they are the requests whose stamp word isn't 0, by stamp and then by number
    pub entries : IsHistoryOf asked.op (λ n. s.word (Stamp n)) history
    -- a plain map that serves them in this order gives their replies, and is left as the map
    pub legal : m.is_map ≡ true → IsLegalFrom empty (oldest_first history)
    pub map : m.is_map ≡ true → pairs ≡ map_after_all empty (ops_of history)
    pub memory : MemoryStands m l (counts_of m l) (states_of g s) pairs
    -- the reply of each stamped section's Answer, and each reply word that isn't 0, is the one at that place
    pub answers : m.is_map ≡ true → (d i answer : ℕ) (e : Stamped) → IsStamped m g.agreement s d
        → step_at m g.agreement s d i ≡ ReplyExchange answer
        → Contains history e → e.number ≡ request_in d → answer ≡ word_of e.reply
    pub replies : m.is_map ≡ true → (e : Stamped) → Contains history e → s.word (Reply e.number) ≢ 0
        → s.word (Reply e.number) ≡ word_of e.reply
    -- a request with a reply has a stamp, or its worker is between the two words of a read
    pub stamped : (n : ℕ) → s.word (Reply n) ≢ 0 → (s.word (Stamp n) ≢ 0) ⊎ IsToStamp s (asked.worker n) n
    -- stamps never fall along a trace, and two equal ones are odd; no request is stamped before the earlier ones of its
    -- trace
    pub rising : (k n : ℕ) → k < n → asked.trace k ≡ asked.trace n → s.word (Stamp n) ≢ 0
        → (s.word (Stamp k) ≢ 0) × Follows (s.word (Stamp k)) (s.word (Stamp n))
    -- it is the only such list
    pub only : m.is_map ≡ true → (other : List Stamped) → IsHistoryOf asked.op (λ n. s.word (Stamp n)) other
        → IsReplayed other → other ≡ history

  -- the request stands once in the history, with its stamp and the reply of its reply word
  pub record IsPlaced (history : List Stamped) (n : ℕ) : Type 0 where
    pub place : ℕ
    pub entry : Stamped
    pub here : slice_get history place ≡ Some entry
    pub number : entry.number ≡ n
    pub some : s.word (Stamp n) ≢ 0
    pub stamp : entry.stamp ≡ s.word (Stamp n)
    pub reply : m.is_map ≡ true → s.word (Reply n) ≡ word_of entry.reply
    pub once : (i : ℕ) (e : Stamped) → slice_get history i ≡ Some e → e.number ≡ n → i ≡ place

  -- for the worker of this published section the request came before it: the worker knew both its words
  -- when it published the section, by its own runs or as a helper, or it is another stamped request of the
  -- worker's
  abbrev pub CameBefore : ℕ → Published → ℕ → Type 0
  CameBefore r x n = KnewThen s r x n ⊎ ((asked.worker n ≡ r) × (s.word (Stamp n) ≢ 0) × (n ≢ x.thunk.request))

  -- the clock and the stamps of so many requests
  pub record ClockStands (count : ℕ) : Type 0 where
    -- the clock is at least half of a section's stamp before any of its Stores, and where it has answered
    pub stores : (d i place log : ℕ) (value : Source) → g.agreement.used d ≡ true → i < (g.agreement.section d).edge
        → step_at m g.agreement s d i ≡ ExchangeCell place log value → s.word (Stamp (request_in d)) / 2 ≤ s.word Clock
    pub answered : (d : ℕ) → IsAnswered m g.agreement s d → s.word (Stamp (request_in d)) / 2 ≤ s.word Clock
    -- it is at most the number of stamped requests, and so is half of each stamp
    pub small : s.word Clock ≤ count
    pub half : (n : ℕ) → s.word (Stamp n) / 2 ≤ count
    -- a clock that a run has loaded and not yet stamped by is at most the clock
    pub loaded : (r : ℕ) (q : RunState) → (s.part r).run ≡ Some q → is_open_run q ≡ true → next_of m q ≡ StampExchange
        → q.word ≤ s.word Clock
    -- and at least half of the stamp of each request that came before its section for its worker
    pub before : (r : ℕ) (q : RunState) → (s.part r).run ≡ Some q → is_open_run q ≡ true → next_of m q ≡ StampExchange
        → (i n : ℕ) (x : Published) → HasPublished s i x → x.descriptor ≡ q.descriptor → CameBefore i x n
        → s.word (Stamp n) / 2 ≤ q.word

  -- what workers know and have published
  pub record RequestsStand (history : List Stamped) : Type 0 where
    -- each stamped request is known to its worker, or is that of the section which the worker has published
    -- and not yet run to its end
    pub answered : (n : ℕ) → s.word (Stamp n) ≢ 0 → Knows s (asked.worker n) n ⊎ HasOpen s (asked.worker n) n
    -- the stamp of a worker's published section is above that of each request that came before it for the worker
    pub before : (r n : ℕ) (x : Published) → HasPublished s r x → s.word (Stamp x.thunk.request) ≢ 0 → CameBefore r x n
        → (s.word (Stamp n) ≢ 0) × (s.word (Stamp n) < s.word (Stamp x.thunk.request))
    -- that stamp is even
    pub even : (r : ℕ) (x : Published) → HasPublished s r x → s.word (Stamp x.thunk.request) ≢ 0
        → s.word (Stamp x.thunk.request) % 2 ≡ 0
    -- who knows both words of a request knows its place in the history
    pub known : (r n : ℕ) → Knows s r n → IsPlaced history n

  -- no lock word names a descriptor
  abbrev pub NoLockNames : Type 0
  NoLockNames = (p : ℕ) → m.is_lock p ≡ true → value_of (s.word (Cell p)) ≡ 0

  -- every section is done, each stamped request has its reply, and the cells stand for the history's final map
  pub record IsClosed (history : List Stamped) (pairs : Pairs) : Type 0 where
    pub done : (d : ℕ) → g.agreement.used d ≡ true → s.word (DoneWord d) ≢ 0
    pub replied : (n : ℕ) → s.word (Stamp n) ≢ 0 → s.word (Reply n) ≢ 0
    pub replies : m.is_map ≡ true → (e : Stamped) → Contains history e → s.word (Reply e.number) ≡ word_of e.reply
    pub settled : m.stands l (λ p. s.word (Cell p)) pairs
