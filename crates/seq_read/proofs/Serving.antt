-- What a runner that wrote both words of its request knows of the history.
use Rattle.std.specs.Prelude.{◌==◌, ◌&&◌, ◌||◌, ◌/◌, ◌%◌, cond, not, Bool, true, false, slice_get}
use Rattle.std.proofs.Common.{◌≡◌, ◌≢◌, ◌⊎◌, ℕ, zero, suc, ◌+◌, ◌*◌, ◌<◌, ◌≤◌, List, [], ◌∷◌, ◌++◌, inl, inr, refl, sym, ap, ◌∙◌, subst, ⊎_elim, arith, Some, None}
use Rattle.std.proofs.lemmas.Bool.{and_parts}
use Rattle.std.proofs.lemmas.Bool.Decides.{nat_tests}
use Rattle.std.proofs.lemmas.List.Folds.{list_any-append}
use Rattle.machine_states.specs.epoch_core.specs.small_lemmas.proofs.Numbers.{zero_or_some}
use Rattle.machine_states.specs.map_history.specs.declared.op.Request.{Request}
use Rattle.machine_states.specs.map_history.specs.declared.reply.Reply.{Reply}
use Rattle.machine_states.specs.map_history.specs.Words.{word_of, IsReply}
use Rattle.history_orders.specs.Turns.{Follows}
use Rattle.machine_states.specs.table_words.specs.Limits.{IsWithinLimits}
use Rattle.machine_states.specs.table_words.specs.declared.spot.Spot.{Spot}
use Rattle.machine_states.specs.table_words.specs.declared.spot.Spot.TheVariants as spots
use Rattle.machine_states.specs.table_words.specs.declared.access.Access.{Access}
use Rattle.machine_states.specs.structure_laws.specs.Meaning.{Meaning}
use Rattle.machine_states.specs.structure_laws.specs.Laws.{Laws}
use Rattle.machine_states.specs.runner_parts.specs.declared.entries.Known.{Known}
use Rattle.machine_states.specs.runner_parts.specs.declared.event.EventKind.{EventKind}
use Rattle.machine_states.specs.runner_parts.specs.State.{PartState}
use Rattle.machine_states.specs.runner_parts.specs.Tests.{knows, is_answered, is_between}
use Rattle.machine_states.specs.runner_steps.specs.Outside.{entry_spot}
use Rattle.machine_states.specs.Sight.{Sight, sight, part_or_first}
use Rattle.machine_states.specs.World.{seat_of}
use Rattle.machine_states.specs.Reached.{Reached}
use Rattle.machine_states.proofs.Steps.{some_same}
use Rattle.caller_facts.specs.version_words.specs.machine_invariant.specs.After.{AreAllowed}
use Rattle.caller_facts.specs.section_runs.specs.machine_facts.specs.Known.{KnownStand}
use Rattle.caller_facts.specs.section_runs.specs.machine_facts.proofs.Following.{facts_after}
use Rattle.caller_facts.specs.request_facts.specs.reached_histories.specs.Requests.{or_none, requests_of}
use Rattle.caller_facts.specs.request_facts.specs.reached_histories.specs.Kept.{link_of}
use Rattle.caller_facts.specs.request_facts.specs.reached_histories.specs.Laws.{HasHistory}
use Rattle.caller_facts.specs.request_facts.specs.reached_histories.specs.RealTime.{IsSought}
use Rattle.caller_facts.specs.request_facts.specs.reached_histories.proofs.First.{word_of_known}
use Rattle.caller_facts.specs.request_facts.specs.reached_histories.proofs.Histories.{reached_have}
use Rattle.caller_facts.specs.request_facts.specs.Laws.{HasEntry, IsKnown, IsToAsk}
use Rattle.caller_facts.specs.request_facts.specs.Placed.{IsServedAs, IsUnserved}
use Rattle.caller_facts.specs.request_facts.proofs.Standing.{callers_stand, answered_come_first, idle_seeks_none}
use Rattle.caller_facts.specs.version_words.specs.RunnerState.{RunnerState}
use Rattle.caller_facts.specs.version_words.specs.Events.{met_by, Makes}
use Rattle.caller_facts.specs.version_words.specs.ReachedWith.{is_told}
use Rattle.caller_facts.specs.try_lock.specs.Planning.{Planning}
use Rattle.caller_facts.specs.try_lock.specs.Reached.{IsReached}
use Rattle.caller_facts.specs.Knowing.{IsOwn}
use Rattle.caller_facts.specs.Asking.{MayAttempt}
use Rattle.caller_facts.proofs.Standing.{may_own, may_unknown}
use Rattle.seq_read.specs.RealTime.{FollowsAnswered}
use Rattle.seq_read.specs.Reads.{IsInHistory}

-- who has an entry for a word knows it
test_here : (a n : ℕ) (b reply : Bool) → a ≡ n → b ≡ reply → (a == n && cond reply b (not b)) ≡ true
test_here a n true true one two = grind (arith, nat_tests)
test_here a n false false one two = grind (arith, nat_tests)
test_here a n true false one two = absurd (let z = two in cc)
test_here a n false true one two = absurd (let z = two in cc)

or_more : (a b : Bool) → b ≡ true → (a || b) ≡ true
or_more true b e = refl
or_more false b e = e

pub known_by : (known : List Known) (i : ℕ) (x : Known) (n : ℕ) (reply : Bool) → slice_get known i ≡ Some x → x.request ≡ n → x.reply ≡ reply
    → knows known n reply ≡ true
known_by [] i x n reply e request is = absurd (let z = e in cc)
known_by (y ∷ ys) zero x n reply e request is =
    let same : y ≡ x = (let z = e in cc) in
    ap (λ b. b || knows ys n reply) (test_here y.request n y.reply reply (ap (λ (k : Known). k.request) same ∙ request) (ap (λ (k : Known). k.reply) same ∙ is))
known_by (y ∷ ys) (suc i) x n reply e request is = or_more _ (knows ys n reply) (known_by ys i x n reply e request is)

-- the reply alone doesn't tell the stamp
pub stamp_untold : (known : List Known) (n w : ℕ) → knows known n false ≡ false
    → is_answered (known ++ record { request = n; reply = true; number = w } ∷ []) n ≡ false
stamp_untold known n w none =
    ap (λ b. b && knows (known ++ record { request = n; reply = true; number = w } ∷ []) n true)
    (list_any-append (λ x. x.request == n && cond false x.reply (not x.reply)) known (record { request = n; reply = true; number = w } ∷ [])
    ∙ (ap (λ b. b || ((n == n && false) || false)) none ∙ none_of (n == n)))
  where
    none_of : (b : Bool) → (false || ((b && false) || false)) ≡ false
    none_of true = refl
    none_of false = refl

-- before a step the machine had reached a state in which the runner had its part
module _ {T : Type 0} (m : Meaning) (k : EventKind) (found : ℕ) (r r' : RunnerState T) (made : Makes m k found r r') where
  abbrev pub was_reached : IsReached m r
  was_reached = record {
    world = made.shown.before;
    reached = subst (λ (y : RunnerState T). Reached m y.layout y.requests made.shown.before) made.made made.shown.was_reached;
    own = subst (λ (y : RunnerState T). slice_get made.shown.before.parts (seat_of y.layout y.number) ≡ Some r.part) made.made made.shown.was_own;
  }

  -- and found in the word that it met what stood there
  pub was_found : (spot : Spot) (access : Access) → met_by m r k ≡ Some (spot, access) → is_told access ≡ true
      → (sight m r.layout r.requests made.shown.before).word spot ≡ found
  was_found spot access asked told =
      let met : made.met ≡ (spot, access) = some_same made.met (spot, access) (sym made.asked ∙ asked) in
      subst (λ (y : RunnerState T). (sight m y.layout y.requests made.shown.before).word spot ≡ found) made.made
      (ap (λ (x : Spot × Access). (sight m r'.layout r'.requests made.shown.before).word x.0) (sym met)
      ∙ made.shown.was_found (ap (λ (x : Spot × Access). is_told x.1) met ∙ told))

-- a state that the machine reaches, in which the runner has this part
module _ {T : Type 0} (m : Meaning) (laws : Laws m) (r : RunnerState T) (limits : IsWithinLimits r.layout) (allowed : AreAllowed r.requests)
    (is : IsReached m r) where
  abbrev pub s : Sight
  s = sight m r.layout r.requests is.world

  pub here : s.part r.number ≡ r.part
  here = ap part_or_first is.own

  pub history : HasHistory m r.layout r.requests s
  history = reached_have m laws r.layout r.requests limits allowed is.world is.reached

  pub known_stand : KnownStand s
  known_stand = (facts_after m laws r.layout r.requests is.reached.events is.world limits allowed is.reached.after).here.known

  -- an entry of its stands
  pub entry_stands : (n : ℕ) (reply : Bool) (number : ℕ) → HasEntry r.part.records.known (record { request = n; reply = reply; number = number })
      → s.word (entry_spot n reply) ≡ number
  entry_stands n reply number entry = known_stand.stands r.number entry.0 _ (ap (λ (p : PartState). slice_get p.records.known entry.0) here ∙ entry.1)

  pub entry_some : (n : ℕ) (reply : Bool) (number : ℕ) → HasEntry r.part.records.known (record { request = n; reply = reply; number = number }) → number ≢ 0
  entry_some n reply number entry = known_stand.some r.number entry.0 _ (ap (λ (p : PartState). slice_get p.records.known entry.0) here ∙ entry.1)

  pub worker : (request : Request) → IsOwn r request → (requests_of m r.layout r.requests).worker request.number ≡ r.number
  worker request own = ap (λ o. (or_none o).trace % r.layout.runners) own.there ∙ own.own

  -- nobody has served its own request that it doesn't know
  pub unserved : (request : Request) → IsOwn r request → r.part.published ≡ None → is_between r.part.reads.look ≡ false
      → is_answered r.part.records.known request.number ≡ false → IsUnserved m r.layout r.requests s request.number
  unserved request own none settled unknown = (callers_stand m laws r.layout r.requests limits allowed is.world is.reached).unserved r.number request.number
      (worker request own)
      (ap (λ (p : PartState). link_of p.published) here ∙ ap link_of none)
      (ap (λ (p : PartState). is_between p.reads.look) here ∙ settled)
      (ap (λ (p : PartState). is_answered p.records.known request.number) here ∙ unknown)

  -- so it doesn't know its stamp
  pub stamp_unknown : (n : ℕ) → s.word (spots.Stamp n) ≡ 0 → knows r.part.records.known n false ≡ false
  stamp_unknown n none = by (knows r.part.records.known n false) refl
    where
      by : (b : Bool) → knows r.part.records.known n false ≡ b → knows r.part.records.known n false ≡ false
      by false e = e
      by true e = absurd (word_of_known s known_stand r.number n false (ap (λ (p : PartState). knows p.records.known n false) here ∙ e) none)

  -- a request of its own that it doesn't know has no stamp, where it has nothing to retire
  pub unstamped : (request : Request) → IsOwn r request → r.part.published ≡ None → is_answered r.part.records.known request.number ≡ false
      → s.word (spots.Stamp request.number) ≡ 0
  unstamped request own none unknown = ⊎_elim (λ zero. zero)
      (λ some. ⊎_elim
      (λ told. absurd (let clash : true ≡ false = sym told ∙ (ap (λ i. is_answered (s.part i).records.known request.number) (worker request own)
      ∙ (ap (λ (p : PartState). is_answered p.records.known request.number) here ∙ unknown)) in cc))
      (λ mine. absurd (let z = sym mine.published ∙ (ap (λ i. (s.part i).published) (worker request own) ∙ (ap (λ (p : PartState). p.published) here ∙ none)) in cc))
      (history.asked.answered request.number some))
      (zero_or_some (s.word (spots.Stamp request.number)))

  -- where it knows both words, the request stands with them in the history
  module _ (map : m.is_map ≡ true) (n stamp word : ℕ) (stamped : HasEntry r.part.records.known (record { request = n; reply = false; number = stamp }))
      (replied : HasEntry r.part.records.known (record { request = n; reply = true; number = word })) where
    pub answered : is_answered r.part.records.known n ≡ true
    answered = ap (λ b. b && knows r.part.records.known n true) (known_by r.part.records.known stamped.0 _ n false stamped.1 refl refl)
        ∙ known_by r.part.records.known replied.0 _ n true replied.1 refl refl

    abbrev pub is_known : IsKnown m r.layout r.requests s r.part.records.known n
    is_known = subst (λ (p : PartState). IsKnown m r.layout r.requests s p.records.known n) here
        ((callers_stand m laws r.layout r.requests limits allowed is.world is.reached).known map r.number n
        (ap (λ (p : PartState). is_answered p.records.known n) here ∙ answered))

    pub same_stamp : is_known.stamp ≡ stamp
    same_stamp = sym is_known.served.stamp_word ∙ entry_stands n false stamp stamped

    abbrev pub reply_known : Reply
    reply_known = is_known.reply

    pub same_word : word_of reply_known ≡ word
    same_word = sym is_known.served.reply_word ∙ entry_stands n true word replied

    pub known_reply : IsReply reply_known
    known_reply = is_known.served.is_reply

    pub in_history : IsInHistory m n stamp reply_known r
    in_history = record {
      knows_stamp = stamped;
      knows_reply = is_known.knows_reply;
      reached = is;
      served = subst (λ x. IsServedAs m r.layout r.requests s n x is_known.reply) same_stamp is_known.served;
    }

  -- what it knew when the clock had this number is followed by twice that and one
  pub knew_before : (clock : ℕ) → s.word spots.Clock ≡ clock → (x : Known) → HasEntry r.part.records.known x → x.reply ≡ false
      → is_answered r.part.records.known x.request ≡ true → Follows x.number (2 * clock + 1)
  knew_before clock clocked x entry stamped known = below x.number (s.word (spots.Stamp x.request)) stands half
    where
      stands : s.word (spots.Stamp x.request) ≡ x.number
      stands = (λ i. s.word (entry_spot x.request (sym stamped i)))
          ∙ known_stand.stands r.number entry.0 x (ap (λ (p : PartState). slice_get p.records.known entry.0) here ∙ entry.1)

      replied : s.word (spots.Reply x.request) ≢ 0
      replied = word_of_known s known_stand r.number x.request true
          (ap (λ (p : PartState). knows p.records.known x.request true) here ∙ (and_parts (knows r.part.records.known x.request false) _ known).1)

      half : s.word (spots.Stamp x.request) / 2 ≤ clock
      half = subst (λ c. s.word (spots.Stamp x.request) / 2 ≤ c) (history.joined.tied.clock ∙ (history.whole.sections.words.clock ∙ clocked))
          (subst (λ k. k / 2 ≤ history.state.clock) (history.joined.tied.stamp x.request ∙ history.whole.sections.words.stamp x.request)
          (history.joined.sound.clock.replied x.request
          (λ none. replied (sym (history.joined.tied.reply x.request ∙ history.whole.sections.words.reply x.request) ∙ none))))

      split : (n k : ℕ) → n ≤ 2 * k + 1 → Follows n (2 * k + 1)
      split n k low = ⊎_elim (λ less. inl less) (λ same. inr (same, let odd : n % 2 ≡ 1 = omega (arith, same) in odd)) (either n (2 * k + 1) low)
        where
          either : (a b : ℕ) → a ≤ b → (a < b) ⊎ (a ≡ b)
          either a b low = search arith

      below : (number word : ℕ) → word ≡ number → word / 2 ≤ clock → Follows number (2 * clock + 1)
      below number word same low = split number clock (omega (arith, same, low))

-- what was answered as the read began comes before it
module _ {T : Type 0} (m : Meaning) (laws : Laws m) (planning : Planning) (request : Request) (old new : RunnerState T)
    (limits : IsWithinLimits old.layout) (allowed : AreAllowed old.requests) (may : MayAttempt planning request old)
    (layout : new.layout ≡ old.layout) (requests : new.requests ≡ old.requests) where
  -- the worker hasn't asked its request
  to_ask : (from : IsReached m old) → IsToAsk m old.layout old.requests (sight m old.layout old.requests from.world) old.number request.number
  to_ask from =
      let own = may_own planning request old may in
      let here = ap part_or_first from.own in record {
        own = ap (λ o. (or_none o).trace % old.layout.runners) own.there ∙ own.own;
        idle = ap (λ (p : PartState). link_of p.published) here ∙ ap link_of may.tidy.at.published;
        unknown = ap (λ (p : PartState). is_answered p.records.known request.number) here ∙ may_unknown planning request old may;
        unsought = λ x looked sought same. idle_seeks_none old.part may.tidy.at.at may.tidy.at.settled x
            (sym (ap (λ (p : PartState). p.reads.look) here) ∙ looked) (subst (λ (p : PartState). IsSought p x) here sought);
      }

  pub follows_answered : (stamp : ℕ) → HasEntry new.part.records.known (record { request = request.number; reply = false; number = stamp })
      → FollowsAnswered m stamp old new
  follows_answered stamp knows from to leads k replied =
      let limits' = subst IsWithinLimits (sym layout) limits in
      let allowed' = subst AreAllowed (sym requests) allowed in
      let some = entry_some m laws new limits' allowed' to request.number false stamp knows in
      let is : (sight m old.layout old.requests to.world).word (spots.Stamp request.number) ≡ stamp =
      (λ i. (sight m (sym layout i) (sym requests i) to.world).word (spots.Stamp request.number))
      ∙ entry_stands m laws new limits' allowed' to request.number false stamp knows in
      let his = (sight m old.layout old.requests to.world).word (spots.Stamp k) in
      let comes = answered_come_first m laws old.layout old.requests limits allowed from.world to.world from.reached leads old.number request.number k
      (to_ask from) replied (λ none. some (sym is ∙ none)) in
      ⊎_elim
      (λ none. inl (let positive = some in omega (arith, none, positive)))
      (λ stamped. subst (Follows his) is (comes.1 stamped))
      (zero_or_some his)
