-- The stamp of an own section that answers is above those that were known before.
use Rattle.std.specs.Prelude.{true, false, Bool, Ok, take, slice_get}
use Rattle.std.proofs.Common.{◌≡◌, ◌≢◌, ℕ, ◌<◌, ◌%◌, ◌++◌, length, refl, sym, ap, ◌∙◌, subst, inl, Some}
use Rattle.std.proofs.Math.Seq.{take-append_seam}
use Rattle.std.proofs.lemmas.Bool.{and_parts}
use Rattle.machine_states.specs.map_history.specs.declared.op.Request.{Request}
use Rattle.machine_states.specs.body_terms.specs.declared.thunk.Thunk.{Thunk}
use Rattle.machine_states.specs.table_words.specs.Limits.{IsWithinLimits}
use Rattle.machine_states.specs.table_words.specs.declared.spot.Spot.TheVariants as spots
use Rattle.machine_states.specs.structure_laws.specs.Meaning.{Meaning}
use Rattle.machine_states.specs.structure_laws.specs.Laws.{Laws}
use Rattle.machine_states.specs.runner_parts.specs.declared.entries.Known.{Known}
use Rattle.machine_states.specs.runner_parts.specs.declared.entries.Published.{Published}
use Rattle.machine_states.specs.runner_parts.specs.State.{PartState}
use Rattle.machine_states.specs.runner_parts.specs.Tests.{knows, is_answered}
use Rattle.machine_states.specs.runner_steps.specs.AfterOutside.{published_by}
use Rattle.machine_states.specs.runner_steps.specs.Outside.{entry_spot}
use Rattle.machine_states.specs.Sight.{Sight, sight, part_or_first}
use Rattle.machine_facts.specs.machine_invariant.specs.After.{AreAllowed}
use Rattle.machine_facts.specs.Known.{KnownStand}
use Rattle.machine_facts.proofs.Following.{facts_after}
use Rattle.request_facts.specs.reached_histories.proofs.First as first
use Rattle.request_facts.specs.reached_histories.proofs.First.{entry_of}
use Rattle.request_facts.specs.reached_histories.specs.History.{IsPlaced}
use Rattle.request_facts.specs.reached_histories.specs.Laws.{HasHistory}
use Rattle.request_facts.specs.reached_histories.proofs.Histories.{reached_have}
use Rattle.version_words.specs.RunnerState.{RunnerState}
use Rattle.version_words.specs.TableState.{TableState, IsOf}
use Rattle.caller_facts.specs.try_lock.specs.declared.section.Section.{Section}
use Rattle.caller_facts.specs.try_lock.specs.Planning.{Planning}
use Rattle.caller_facts.specs.try_lock.specs.Reached.{IsReached}
use Rattle.request_facts.specs.Laws.{HasEntry}
use Rattle.caller_facts.specs.Knowing.{IsFront}
use Rattle.attempts.specs.Course.{HasTried}
use Rattle.caller_facts.proofs.Knowing.{front_entry}
use Rattle.attempts.proofs.Along.{HasLastStep}

-- a known word of a runner stands in a state in which it has its part
entry_stands : (s : Sight) (part : PartState) (r : ℕ) → s.part r ≡ part → KnownStand s → (x : Known) (n : ℕ) (reply : Bool)
    → HasEntry part.records.known x → x.request ≡ n → x.reply ≡ reply → s.word (entry_spot n reply) ≡ x.number
entry_stands s part r seen known x n reply entry request is =
    (λ i. s.word (entry_spot (sym request i) (sym is i)))
    ∙ known.stands r entry.0 x (ap (λ (p : PartState). slice_get p.records.known entry.0) seen ∙ entry.1)

-- a runner in its own run, behind the exchanges of its stamp and of its reply: it knows both words of the request, and its
-- section is published still; and the same runner later
module _ {T : Type 0} (m : Meaning) (laws : Laws m) (t : TableState T) (limits : IsWithinLimits t.layout) (allowed : AreAllowed t.requests)
    (old at new : RunnerState T) (own_at : IsOf t at) (own_new : IsOf t new) (x : Published) (own : at.part.published ≡ Some x)
    (knew : take x.known at.part.records.known ≡ old.part.records.known) (answered : is_answered at.part.records.known x.thunk.request ≡ true)
    (was : IsReached m at) (front : IsFront at.part.records.known new.part.records.known) (reached : IsReached m new) where
  abbrev s : Sight
  s = sight m at.layout at.requests was.world

  seen : s.part at.number ≡ at.part
  seen = ap part_or_first was.own

  history : HasHistory m at.layout at.requests s
  history = reached_have m laws at.layout at.requests (subst IsWithinLimits (sym own_at.layout) limits) (subst AreAllowed (sym own_at.requests) allowed)
      was.world was.reached

  known_here : KnownStand s
  known_here = (facts_after m laws at.layout at.requests was.reached.events was.world
      (subst IsWithinLimits (sym own_at.layout) limits) (subst AreAllowed (sym own_at.requests) allowed) was.reached.after).here.known

  published : (s.part at.number).published ≡ Some x
  published = ap (λ (p : PartState). p.published) seen ∙ own

  -- what was known as the section was published
  known_then : take x.known (s.part at.number).records.known ≡ old.part.records.known
  known_then = ap (λ (p : PartState). take x.known p.records.known) seen ∙ knew

  placed : IsPlaced m at.layout at.requests history.beside s history.state.history x.thunk.request
  placed = history.asked.known at.number x.thunk.request (ap (λ (p : PartState). is_answered p.records.known x.thunk.request) seen ∙ answered)

  -- the stamp's entry
  told : first.HasEntry at.part.records.known x.thunk.request false
  told = entry_of at.part.records.known x.thunk.request false
      (and_parts (knows at.part.records.known x.thunk.request false) (knows at.part.records.known x.thunk.request true) answered).0

  told_stands : s.word (spots.Stamp x.thunk.request) ≡ told.entry.number
  told_stands = entry_stands s at.part at.number seen known_here told.entry x.thunk.request false (told.place, told.at) told.request told.is

  -- and the same later
  abbrev later : Sight
  later = sight m new.layout new.requests reached.world

  later_known : KnownStand later
  later_known = (facts_after m laws new.layout new.requests reached.reached.events reached.world
      (subst IsWithinLimits (sym own_new.layout) limits) (subst AreAllowed (sym own_new.requests) allowed) reached.reached.after).here.known

  later_seen : later.part new.number ≡ new.part
  later_seen = ap part_or_first reached.own

  later_stands : later.word (spots.Stamp x.thunk.request) ≡ told.entry.number
  later_stands = entry_stands later new.part new.number later_seen later_known told.entry x.thunk.request false
      (told.place, front_entry at.part.records.known new.part.records.known told.place told.entry front told.at) told.request told.is

  module _ (request : ℕ) (asked : x.thunk.request ≡ request) (stamp : ℕ)
      (here : HasEntry new.part.records.known (record { request = request; reply = false; number = stamp })) where
    -- it is the stamp that is known later
    same : s.word (spots.Stamp x.thunk.request) ≡ stamp
    same = told_stands ∙ (sym later_stands ∙ (ap (λ n. later.word (spots.Stamp n)) asked
        ∙ entry_stands later new.part new.number later_seen later_known _ request false here refl refl))

    -- a section's stamp is even
    pub stamp_even : stamp % 2 ≡ 0
    stamp_even = subst (λ k. k % 2 ≡ 0) same (history.asked.even at.number x published placed.some)

    pub stamp_above : (z : Known) → HasEntry old.part.records.known z → z.reply ≡ false → is_answered old.part.records.known z.request ≡ true
        → IsFront old.part.records.known at.part.records.known → z.number < stamp
    stamp_above z entry stamped known earlier = subst (λ k. k < stamp) z_stands (subst (λ k. s.word (spots.Stamp z.request) < k) same above.1)
      where
        z_stands : s.word (spots.Stamp z.request) ≡ z.number
        z_stands = entry_stands s at.part at.number seen known_here z z.request false
            (entry.0, front_entry old.part.records.known at.part.records.known entry.0 z earlier entry.1) refl stamped

        above : (s.word (spots.Stamp z.request) ≢ 0) × (s.word (spots.Stamp z.request) < s.word (spots.Stamp x.thunk.request))
        above = history.asked.before at.number z.request x published placed.some
            (inl (ap (λ ks. is_answered ks z.request) known_then ∙ known))

-- a section of its own, at the last step of its run
module _ {T : Type 0} (m : Meaning) (laws : Laws m) (t : TableState T) (limits : IsWithinLimits t.layout) (allowed : AreAllowed t.requests)
    (planning : Planning) (request : Request) (thunk : Thunk) (section : Section) (old here : RunnerState T)
    (tried : HasTried m planning request thunk (Ok section) old here) (ran : RunnerState T) (u : Thunk)
    (last : HasLastStep m laws t limits allowed here section.descriptor u ran) (answered : is_answered last.before.part.records.known request.number ≡ true)
    (new : RunnerState T) (own_new : IsOf t new) (front : IsFront last.before.part.records.known new.part.records.known) (reached : IsReached m new)
    (stamp : ℕ) (knows_stamp : HasEntry new.part.records.known (record { request = request.number; reply = false; number = stamp })) where
  abbrev y : Published
  y = published_by thunk tried.publishes.descriptor tried.planned.part

  own : last.before.part.published ≡ Some y
  own = (last.telling.along last.run last.step.running).published ∙ tried.publishes.published.published

  learned : last.before.part.records.known ≡ old.part.records.known ++ last.telling.learns.more
  learned = last.telling.learns.adds ∙ ap (λ ks. ks ++ last.telling.learns.more) tried.still.known

  knew : take y.known last.before.part.records.known ≡ old.part.records.known
  knew = (λ i. take (length (tried.plans.still.known i)) (learned i)) ∙ take-append_seam old.part.records.known last.telling.learns.more

  asked : thunk.request ≡ request.number
  asked = tried.plans.answers.request

  answered_here : is_answered last.before.part.records.known thunk.request ≡ true
  answered_here = ap (is_answered last.before.part.records.known) asked ∙ answered

  pub own_stamp_even : stamp % 2 ≡ 0
  own_stamp_even = stamp_even m laws t limits allowed old last.before new last.own own_new y own knew answered_here last.telling.reached front reached
      request.number asked stamp knows_stamp

  pub own_stamp_above : (z : Known) → HasEntry old.part.records.known z → z.reply ≡ false → is_answered old.part.records.known z.request ≡ true → z.number < stamp
  own_stamp_above z entry stamped known = stamp_above m laws t limits allowed old last.before new last.own own_new y own knew answered_here last.telling.reached front reached
      request.number asked stamp knows_stamp z entry stamped known (record { back = last.telling.learns.more; parts = learned })
