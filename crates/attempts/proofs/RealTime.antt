-- The stamp of an attempt is above those of all requests that were answered as it began.
use Rattle.std.specs.Prelude.{false, slice_get}
use Rattle.std.proofs.Common.{◌≡◌, ◌≢◌, ℕ, ◌%◌, ◌<◌, sym, ap, ◌∙◌, subst, ⊎_elim, arith}
use Rattle.section_lines.specs.small_lemmas.proofs.Numbers.{zero_or_some}
use Rattle.machine_states.specs.map_history.specs.declared.op.Request.{Request}
use Rattle.history_orders.specs.Turns.{Follows}
use Rattle.machine_states.specs.table_words.specs.Limits.{IsWithinLimits}
use Rattle.machine_states.specs.table_words.specs.declared.spot.Spot.TheVariants.{Stamp}
use Rattle.machine_states.specs.structure_laws.specs.Meaning.{Meaning}
use Rattle.machine_states.specs.structure_laws.specs.Laws.{Laws}
use Rattle.machine_states.specs.runner_parts.specs.State.{PartState}
use Rattle.machine_states.specs.runner_parts.specs.Tests.{is_answered}
use Rattle.machine_states.specs.Sight.{sight, part_or_first}
use Rattle.machine_facts.specs.machine_invariant.specs.After.{AreAllowed}
use Rattle.machine_facts.specs.Known.{KnownStand}
use Rattle.machine_facts.proofs.Following.{facts_after}
use Rattle.request_facts.specs.reached_histories.specs.Requests.{or_none}
use Rattle.request_facts.specs.reached_histories.specs.Kept.{link_of}
use Rattle.version_words.specs.RunnerState.{RunnerState}
use Rattle.caller_facts.specs.try_lock.specs.Planning.{Planning}
use Rattle.caller_facts.specs.try_lock.specs.Reached.{IsReached}
use Rattle.request_facts.specs.Laws.{HasEntry, IsToAsk}
use Rattle.request_facts.specs.reached_histories.specs.RealTime.{IsSought}
use Rattle.request_facts.proofs.Standing.{answered_come_first, idle_seeks_none}
use Rattle.caller_facts.specs.Asking.{MayAttempt}
use Rattle.attempts.specs.RealTime.{IsAboveAnswered}
use Rattle.caller_facts.proofs.Standing.{may_own, may_unknown}

module _ {T : Type 0} (m : Meaning) (laws : Laws m) (planning : Planning) (request : Request) (old new : RunnerState T)
    (limits : IsWithinLimits old.layout) (allowed : AreAllowed old.requests) (may : MayAttempt planning request old)
    (layout : new.layout ≡ old.layout) (requests : new.requests ≡ old.requests) where
  -- the worker hasn't asked its request
  to_ask : (from : IsReached m old) → IsToAsk m old.layout old.requests (sight m old.layout old.requests from.world) old.number request.number
  to_ask from =
      let own = may_own planning request old may in
      let here = ap part_or_first from.own in record {
        own = ap (λ o. (or_none o).trace % old.layout.runners) own.there ∙ own.own;
        idle = ap (λ (p : PartState). link_of p.published) here ∙ ap link_of may.tidy.at.published;
        unknown = ap (λ (p : PartState). is_answered p.records.known request.number) here ∙ may_unknown planning request old may;
        unsought = λ x looked sought same. idle_seeks_none old.part may.tidy.at.at may.tidy.at.settled x
            (sym (ap (λ (p : PartState). p.reads.look) here) ∙ looked) (subst (λ (p : PartState). IsSought p x) here sought);
      }

  module _ (stamp : ℕ) (knows : HasEntry new.part.records.known (record { request = request.number; reply = false; number = stamp })) (to : IsReached m new) where
    known : KnownStand (sight m new.layout new.requests to.world)
    known = (facts_after m laws new.layout new.requests to.reached.events to.world
        (subst IsWithinLimits (sym layout) limits) (subst AreAllowed (sym requests) allowed) to.reached.after).here.known

    entry : slice_get ((sight m new.layout new.requests to.world).part new.number).records.known knows.0
        ≡ slice_get new.part.records.known knows.0
    entry = ap (λ (p : PartState). slice_get p.records.known knows.0) (ap part_or_first to.own)

    some : stamp ≢ 0
    some = known.some new.number knows.0 _ (entry ∙ knows.1)

    stamp_is : (sight m old.layout old.requests to.world).word (Stamp request.number) ≡ stamp
    stamp_is = (λ i. (sight m (sym layout i) (sym requests i) to.world).word (Stamp request.number))
        ∙ known.stands new.number knows.0 _ (entry ∙ knows.1)

  -- what an even stamp follows is less
  below : (a stamp : ℕ) → stamp % 2 ≡ 0 → Follows a stamp → a < stamp
  below a stamp even follows =
      ⊎_elim (λ lower. lower) (λ same. absurd (let is = same.0 in let odd = same.1 in omega (arith, even))) follows

  pub above_answered : (stamp : ℕ) → HasEntry new.part.records.known (record { request = request.number; reply = false; number = stamp })
      → stamp % 2 ≡ 0 → IsAboveAnswered m stamp old new
  above_answered stamp knows even from to leads k replied =
      let is = stamp_is stamp knows to in
      let his = (sight m old.layout old.requests to.world).word (Stamp k) in
      let comes = answered_come_first m laws old.layout old.requests limits allowed from.world to.world from.reached leads old.number request.number k
      (to_ask from) replied (λ none. some stamp knows to (sym is ∙ none)) in
      ⊎_elim
      (λ none. let other = some stamp knows to in omega arith)
      (λ stamped. below his stamp even (subst (Follows his) is (comes.1 stamped)))
      (zero_or_some his)
