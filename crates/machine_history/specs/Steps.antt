-- The joint steps with the history: each one's events, when it may come, and the state after it.
use Rattle.std.specs.Prelude.{ℕ, suc, ◌<◌, ◌≡◌, ◌≢◌, Bool, true, false, List, [], ◌∷◌, Some}
use Rattle.agreement_core.specs.map_history.specs.declared.op.Op.{Op}
use Rattle.agreement_core.specs.body_terms.specs.declared.micro.Micro.{Micro}
use Rattle.agreement_core.specs.body_terms.specs.declared.micro.Micro.TheVariants as micros
use Rattle.agreement_core.specs.body_terms.specs.declared.step.Step.TheVariants.{Answer}
use Rattle.agreement_core.specs.body_terms.specs.declared.thunk.Thunk.{Thunk}
use Rattle.agreement_core.specs.table_words.specs.declared.layout.Layout.{Layout}
use Rattle.agreement_core.specs.section_lines.specs.structure_laws.specs.Meaning.{Meaning}
use Rattle.agreement_core.specs.section_lines.specs.structure_laws.specs.Shape.{HasStep}
use Rattle.agreement_core.specs.Events as agreement
use Rattle.epoch_core.specs.State.{Counts}
use Rattle.history_core.specs.State.{Requests, Seen, HistoryState, is_replied}
use Rattle.history_core.specs.Events as history
use Rattle.history_core.specs.Events.{read_stamp_by}
use Rattle.history_core.specs.Schedules as schedules
use Rattle.machine_scenes.specs.Shown.{States}
use Rattle.machine_scenes.specs.Steps as scenes
use Rattle.machine_history.specs.Memory.{HasLooked}

-- the joint states, and the history's
pub record HistoryStates : Type 0 where
  pub joint : States
  pub history : HistoryState

-- a joint step; a publication with what its section answers; a worker's own run has come to its
-- section's end; a runner comes to know a request. And reads without a lock: a worker has loaded the clock for one,
-- whose lock still has its word, with what its body answers; it has nothing seen any more; and it writes its two words
pub data Step : Type 0 where
  Joint : (step : scenes.Step) → Step
  Publish : (r d lock word request : ℕ) (code : ℕ → Micro) (slot : ℕ → ℕ) (op : Op) (thunk : Thunk) (answer : ℕ)
      → Step
  Over : (r : ℕ) → Step
  Learn : (r n : ℕ) → Step
  Look : (r : ℕ) (op : Op) (thunk : Thunk) (answer : ℕ) → Step
  Forget : (r : ℕ) → Step
  ReadReply : (r request reply : ℕ) → Step
  ReadStamp : (r request stamp : ℕ) → Step

-- the history's events of a joint step
abbrev pub events_of : States → scenes.Step → List history.Event
events_of j (scenes.Agreement (agreement.ClockLoad r)) = history.LoadClock r (scenes.descriptor_of j r) ∷ []
events_of j (scenes.Agreement (agreement.StampExchange r)) = history.StampExchange r ∷ []
events_of j (scenes.Agreement (agreement.ClockRaise r)) = history.RaiseClock (scenes.descriptor_of j r) ∷ []
events_of j (scenes.Agreement (agreement.ReplyExchange r reply)) = history.WriteReply (scenes.descriptor_of j r) ∷ []
events_of j (scenes.Agreement (agreement.SetDone r)) = history.SetDone (scenes.descriptor_of j r) ∷ []
events_of j (scenes.Agreement (agreement.Free d)) = history.Free d ∷ []
events_of j _ = []

-- a publication by itself is no joint step here, nor is a word that a read without a lock writes: these are steps of
-- their own
abbrev pub is_apart : scenes.Step → Bool
is_apart (scenes.Publish r d lock word request code slot op thunk) = true
is_apart (scenes.Agreement (agreement.ReadReply request reply)) = true
is_apart (scenes.Agreement (agreement.ReadStamp request stamp)) = true
is_apart _ = false

module _ (m : Meaning) (layout : Layout) (c : Counts) (requests : Requests) where
  -- the states after a step
  abbrev pub after : HistoryStates → Step → HistoryStates
  after h (Joint step) =
      record {
        joint = scenes.after m layout c h.joint step;
        history = schedules.after_all requests h.history (events_of h.joint step);
      }
  after h (Publish r d lock word request code slot op thunk answer) = record {
    joint = scenes.after m layout c h.joint (scenes.Publish r d lock word request code slot op thunk);
    history = history.after requests h.history (history.Publish r d request answer);
  }
  after h (Over r) = record h { history = history.after requests h.history (history.Over r) }
  after h (Learn r n) = record h { history = history.after requests h.history (history.Learn r n) }
  after h (Look r op thunk answer) =
      record h { history = history.after requests h.history (history.Look r thunk.request answer) }
  after h (Forget r) = record h { history = history.after requests h.history (history.Forget r) }
  after h (ReadReply r request reply) = record {
    joint = scenes.after m layout c h.joint (scenes.Agreement (agreement.ReadReply request reply));
    history = history.after requests h.history (history.ReadReply r);
  }
  after h (ReadStamp r request stamp) = record {
    joint = scenes.after m layout c h.joint (scenes.Agreement (agreement.ReadStamp request stamp));
    history = history.after requests h.history (history.ReadStamp r);
  }

  -- what a step that frees a descriptor asks for: it is used, and its worker has run its section to
  -- its end
  abbrev pub MayFree : HistoryStates → scenes.Step → Type 0
  MayFree h (scenes.Agreement (agreement.Free d)) = (h.history.used d ≡ true)
      × (h.history.published (requests.worker (h.history.request d)) ≢ suc d)
  MayFree h _ = Unit {0}

  -- a worker publishes its next request, with its operation, and the section answers this
  pub record MayPublish (h : HistoryStates) (r d lock word request : ℕ) (code : ℕ → Micro) (slot : ℕ
      → ℕ) (op : Op) (thunk : Thunk) (answer : ℕ) : Type 0 where
    pub enabled : scenes.Enabled m layout c h.joint (scenes.Publish r d lock word request code slot op thunk)
    pub idle : h.history.published r ≡ 0
    pub own : requests.worker request ≡ r
    pub unknown : h.history.known r request ≡ false
    pub earlier : (k : ℕ) → k < request → requests.trace k ≡ requests.trace request
        → h.history.known r k ≡ true
    pub operation : requests.op request ≡ op
    pub answers : (i : ℕ) × (code i ≡ micros.ReplyExchange answer)
    pub settled : is_replied (h.history.look r) ≡ false

  -- a worker looks for its next request, with its operation, and the look answers this
  pub record MayLook (h : HistoryStates) (r : ℕ) (op : Op) (thunk : Thunk) (answer : ℕ) : Type 0 where
    pub looked : HasLooked m layout h.joint r op thunk
    pub own : requests.worker thunk.request ≡ r
    pub unknown : h.history.known r thunk.request ≡ false
    pub earlier : (k : ℕ) → k < thunk.request → requests.trace k ≡ requests.trace thunk.request
        → h.history.known r k ≡ true
    pub operation : requests.op thunk.request ≡ op
    pub answers : (i : ℕ) × HasStep m thunk i (Answer answer)
    pub positive : 0 < answer
    pub settled : is_replied (h.history.look r) ≡ false

  -- a worker that has seen this for this request, has no section that it hasn't run to its end and doesn't know both
  -- words of the request writes its reply
  pub record MayReply (h : HistoryStates) (r request reply : ℕ) : Type 0 where
    pub seen : Seen
    pub looked : h.history.look r ≡ Some seen
    pub number : seen.number ≡ request
    pub answer : seen.answer ≡ reply
    pub unreplied : seen.replied ≡ false
    pub idle : h.history.published r ≡ 0
    pub unknown : h.history.known r request ≡ false

  -- and then its stamp
  pub record MayStamp (h : HistoryStates) (r request stamp : ℕ) : Type 0 where
    pub seen : Seen
    pub looked : h.history.look r ≡ Some seen
    pub number : seen.number ≡ request
    pub stamps : read_stamp_by seen.clock ≡ stamp
    pub replied : seen.replied ≡ true

  -- when a step may come
  abbrev pub Enabled : HistoryStates → Step → Type 0
  Enabled h (Joint step) = (is_apart step ≡ false) × scenes.Enabled m layout c h.joint step × MayFree h step
  Enabled h (Publish r d lock word request code slot op thunk answer) =
      MayPublish h r d lock word request code slot op thunk answer
  Enabled h (Over r) = history.Enabled requests h.history (history.Over r)
  Enabled h (Learn r n) = history.Enabled requests h.history (history.Learn r n)
  Enabled h (Look r op thunk answer) = MayLook h r op thunk answer
  Enabled h (Forget r) = is_replied (h.history.look r) ≡ false
  Enabled h (ReadReply r request reply) = MayReply h r request reply
  Enabled h (ReadStamp r request stamp) = MayStamp h r request stamp
