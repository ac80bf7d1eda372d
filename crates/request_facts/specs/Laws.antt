-- What stands of requests in every state that the machine reaches, for a runner that has its part.
use Rattle.std.specs.Prelude.{◌≡◌, ◌≢◌, ℕ, suc, true, false, List, Some, length, slice_get}
use Rattle.machine_states.specs.map_history.specs.declared.op.Request.{Request}
use Rattle.machine_states.specs.map_history.specs.declared.reply.Reply.{Reply}
use Rattle.machine_states.specs.map_history.specs.Words.{word_of}
use Rattle.machine_states.specs.body_terms.specs.declared.micro.Micro.TheVariants.{StampExchange}
use Rattle.machine_states.specs.table_words.specs.declared.layout.Layout.{Layout}
use Rattle.machine_states.specs.table_words.specs.Limits.{IsWithinLimits}
use Rattle.machine_states.specs.structure_laws.specs.Meaning.{Meaning}
use Rattle.machine_states.specs.runner_parts.specs.declared.entries.Known.{Known}
use Rattle.machine_states.specs.runner_parts.specs.declared.entries.Look.{Look}
use Rattle.machine_states.specs.runner_parts.specs.State.{RunState}
use Rattle.machine_states.specs.runner_parts.specs.Tests.{is_answered, is_between}
use Rattle.machine_states.specs.runner_steps.specs.Sections.{thunk_of, next_of}
use Rattle.machine_states.specs.World.{World}
use Rattle.machine_states.specs.Reached.{Reached}
use Rattle.machine_states.specs.Sight.{Sight, sight}
use Rattle.reached_histories.specs.machine_facts.specs.machine_invariant.specs.After.{AreAllowed}
use Rattle.reached_histories.specs.Requests.{requests_of}
use Rattle.reached_histories.specs.Kept.{link_of}
use Rattle.reached_histories.specs.RealTime.{LeadsTo, ComesBefore, IsSought}
use Rattle.request_facts.specs.Placed.{IsServedAs, IsUnserved}

-- the list has this entry
abbrev pub HasEntry : List Known → Known → Type 0
HasEntry known x = (i : ℕ) × (slice_get known i ≡ Some x)

module _ (m : Meaning) (l : Layout) (requests : List Request) where
  -- a request of this list of known words: both are known, and it stands with them in the one history
  pub record IsKnown (s : Sight) (known : List Known) (number : ℕ) : Type 0 where
    pub stamp : ℕ
    pub reply : Reply
    pub knows_stamp : HasEntry known (record { request = number; reply = false; number = stamp })
    pub knows_reply : HasEntry known (record { request = number; reply = true; number = word_of reply })
    pub served : IsServedAs m l requests s number stamp reply

  -- a runner in a run stands before the exchange of its request's stamp
  pub record IsStamping (s : Sight) (r number : ℕ) (q : RunState) : Type 0 where
    pub runs : (s.part r).run ≡ Some q
    pub opened : length q.opened ≡ 13
    pub next : next_of m q ≡ StampExchange
    pub request : (thunk_of q.opened).request ≡ number
    -- and it isn't the run of a section that it has published and not yet run to its end
    pub foreign : link_of (s.part r).published ≢ suc q.descriptor

  pub record CallersStand (s : Sight) : Type 0 where
    -- who knows both words of a request knows its place in the history
    pub known : m.is_map ≡ true → (r n : ℕ) → is_answered (s.part r).records.known n ≡ true
        → IsKnown s (s.part r).records.known n
    -- a worker that has no section on the way, and no read's reply without its stamp, knows each request of its own
    -- that was served
    pub unserved : (r n : ℕ) → (requests_of m l requests).worker n ≡ r → link_of (s.part r).published ≡ 0
        → is_between (s.part r).reads.look ≡ false → is_answered (s.part r).records.known n ≡ false
        → IsUnserved m l requests s n
    -- and before it would learn of a request of its own in somebody else's section, it knows it
    pub own : (r n : ℕ) (q : RunState) → (requests_of m l requests).worker n ≡ r → IsStamping s r n q
        → is_answered (s.part r).records.known n ≡ true

  abbrev pub ReachedCallersStand : Type 0
  ReachedCallersStand = IsWithinLimits l → AreAllowed requests → (w : World) → Reached m l requests w
      → CallersStand (sight m l requests w)

  -- a worker that has no section on the way hasn't asked a request of its own that it doesn't know, where no read of
  -- its seeks it
  pub record IsToAsk (s : Sight) (r number : ℕ) : Type 0 where
    pub own : (requests_of m l requests).worker number ≡ r
    pub idle : link_of (s.part r).published ≡ 0
    pub unknown : is_answered (s.part r).records.known number ≡ false
    pub unsought : (x : Look) → (s.part r).reads.look ≡ Some x → IsSought (s.part r) x → x.thunk.request ≢ number

  -- real-time order, for whoever asks: in each later state the request's stamp is above that of each request that was
  -- answered before it was asked, by whomever, or equal to it where both are odd, so of reads
  abbrev pub AnsweredComeFirst : Type 0
  AnsweredComeFirst = IsWithinLimits l → AreAllowed requests → (w v : World) → Reached m l requests w
      → LeadsTo m l requests w v
      → (r n k : ℕ) → IsToAsk (sight m l requests w) r n → ComesBefore (sight m l requests w) (sight m l requests v) k n
