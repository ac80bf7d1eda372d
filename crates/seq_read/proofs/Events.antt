-- A reading runner's part, step by step, and which step it may make.
use Rattle.std.specs.Prelude.{◌==◌, ◌&&◌, Bool, true, false, is_none, nat_lt, if◌then◌else◌}
use Rattle.std.proofs.Common.{◌≡◌, ℕ, ◌≤◌, ◌<◌, [], ◌∷◌, ◌++◌, append-nil, length, refl, sym, ap, ◌∙◌, subst, Option, Some, None}
use Rattle.std.proofs.lemmas.List.{append_assoc}
use Rattle.machine_states.specs.body_terms.specs.declared.thunk.Thunk.{Thunk}
use Rattle.machine_states.specs.table_words.specs.declared.sizes.Sizes.{Sizes}
use Rattle.machine_states.specs.table_words.specs.declared.spot.Spot.{Spot}
use Rattle.machine_states.specs.table_words.specs.declared.spot.Spot.TheVariants as spots
use Rattle.machine_states.specs.table_words.specs.declared.access.Access.{Access}
use Rattle.machine_states.specs.table_words.specs.declared.access.Access.TheVariants.{Loads, Exchanges}
use Rattle.machine_states.specs.table_words.specs.Places.{Fits}
use Rattle.machine_states.specs.table_words.proofs.Seen.{fits_is}
use Rattle.machine_states.specs.structure_laws.specs.Scene.{Readings}
use Rattle.machine_states.specs.structure_laws.specs.Meaning.{Meaning}
use Rattle.machine_states.specs.epoch_core.specs.declared.stage.Stage.TheVariants as stages
use Rattle.machine_states.specs.runner_parts.specs.declared.entries.Look.{Look}
use Rattle.machine_states.specs.runner_parts.specs.declared.entries.LookStage.TheVariants.{Looked, Replied, Stamped}
use Rattle.machine_states.specs.runner_parts.specs.declared.event.EventKind.{EventKind}
use Rattle.machine_states.specs.runner_parts.specs.declared.event.EventKind.TheVariants as kinds
use Rattle.machine_states.specs.runner_parts.specs.State.{RunState, PartState}
use Rattle.machine_states.specs.runner_parts.specs.Tests.{is_walking, is_between, is_replied}
use Rattle.machine_states.specs.runner_steps.specs.InRun.{last_clock}
use Rattle.machine_states.specs.runner_steps.specs.Outside.{when}
use Rattle.machine_states.specs.runner_steps.specs.Sections.{reply_in}
use Rattle.machine_states.specs.runner_steps.specs.Reads.{plan_by, looked_by, come_to, only_loads_after, read_clock_ask, read_reply_ask, read_stamp_ask, may_reply, read_stamp_after}
use Rattle.machine_states.specs.runner_steps.specs.Asks.{ask_by, outside_ask, fitting, sizes_for}
use Rattle.machine_states.specs.runner_steps.specs.After.{outside_after, after_by}
use Rattle.caller_facts.specs.version_words.specs.RunnerState.{RunnerState}
use Rattle.caller_facts.specs.version_words.specs.Events.{met_by, Makes}
use Rattle.caller_facts.specs.version_words.specs.Stages.{IsAt}
use Rattle.caller_facts.specs.try_lock.specs.Plans as plans
use Rattle.caller_facts.specs.epoch_slots.proofs.Outside.{reads_made}

-- the runner is entered, in no run, with nothing to retire; its look, what it has read, and whether it has only loaded
-- cells since it entered, but for the first steps of a read
pub record IsHere {T : Type 0} (r : RunnerState T) (epoch : ℕ) (look : Option Look) (walk : Readings) (only : Bool) : Type 0 where
  pub present : r.part.gone ≡ false
  pub resting : r.part.run ≡ None
  pub at : r.part.stage ≡ stages.Entered epoch
  pub unpublished : r.part.published ≡ None
  pub looked : r.part.reads.look ≡ look
  pub has_read : r.part.reads.walk ≡ walk
  pub loads_only : r.part.records.only_loads ≡ only
  pub seated : r.number ≤ r.layout.runners

module _ {T : Type 0} where
  -- no reply of its is without its stamp
  pub at_here : (r : RunnerState T) (epoch : ℕ) (look : Option Look) (walk : Readings) (only : Bool) → IsHere r epoch look walk only
      → is_between look ≡ false → IsAt r (stages.Entered epoch) None
  at_here r epoch look walk only here settled = record {
    present = here.present;
    resting = here.resting;
    at = here.at;
    published = here.unpublished;
    settled = ap is_between here.looked ∙ settled;
    seated = here.seated;
  }

module _ {T : Type 0} (m : Meaning) (k : EventKind) (found : ℕ) (r r' : RunnerState T) (made : Makes m k found r r') (resting : r.part.run ≡ None) where
  abbrev next : PartState
  next = outside_after m r.layout k r.part found

  only_made : r'.part.records.only_loads ≡ only_loads_after k next.records.only_loads
  only_made = ap (λ (y : RunnerState T). y.part.records.only_loads) made.made
      ∙ ap (λ (o : Option RunState). only_loads_after k (after_by m r.layout k r.part o found).records.only_loads) resting

  here_made : (epoch : ℕ) (look : Option Look) (walk : Readings) (only : Bool) → r.number ≤ r.layout.runners → next.gone ≡ false → next.run ≡ None
      → next.stage ≡ stages.Entered epoch → next.published ≡ None → next.reads.look ≡ look → next.reads.walk ≡ walk
      → only_loads_after k next.records.only_loads ≡ only → IsHere r' epoch look walk only
  here_made epoch look walk only seated gone run stage published looked walks onlys = record {
    present = ap (λ (y : RunnerState T). y.part.gone) made.made ∙ (ap (λ (o : Option RunState). (after_by m r.layout k r.part o found).gone) resting ∙ gone);
    resting = ap (λ (y : RunnerState T). y.part.run) made.made ∙ (ap (λ (o : Option RunState). (after_by m r.layout k r.part o found).run) resting ∙ run);
    at = ap (λ (y : RunnerState T). y.part.stage) made.made ∙ (ap (λ (o : Option RunState). (after_by m r.layout k r.part o found).stage) resting ∙ stage);
    unpublished = ap (λ (y : RunnerState T). y.part.published) made.made
        ∙ (ap (λ (o : Option RunState). (after_by m r.layout k r.part o found).published) resting ∙ published);
    looked = ap (λ s. s.look) (reads_made m k found r r' made resting) ∙ looked;
    has_read = ap (λ s. s.walk) (reads_made m k found r r' made resting) ∙ walks;
    loads_only = only_made ∙ onlys;
    seated = subst (λ (y : RunnerState T). y.number ≤ y.layout.runners) (sym made.made) seated;
  }

-- the steps of a read
module _ {T : Type 0} (m : Meaning) (epoch : ℕ) (walk : Readings) (r r' : RunnerState T) where
  pub load_on : (look : Option Look) (only : Bool) (place word : ℕ) → IsHere r epoch look walk only → Makes m (kinds.LoadCell (Some place)) word r r'
      → IsHere r' epoch look (walk ++ (place, word) ∷ []) only
  load_on look only place word here made = here_made m (kinds.LoadCell (Some place)) word r r' made here.resting epoch look (walk ++ (place, word) ∷ []) only
      here.seated here.present here.resting here.at here.unpublished here.looked (ap (λ xs. xs ++ (place, word) ∷ []) here.has_read) here.loads_only

  pub plan_on : (thunk : Thunk) (found : ℕ) → IsHere r epoch None walk true → Makes m (kinds.ReadPlan thunk) found r r'
      → IsHere r' epoch (Some (plan_by thunk)) walk true
  plan_on thunk found here made = here_made m (kinds.ReadPlan thunk) found r r' made here.resting epoch (Some (plan_by thunk)) walk true
      here.seated here.present here.resting here.at here.unpublished refl here.has_read here.loads_only

  pub clock_on : (thunk : Thunk) (clock known : ℕ) → length r.part.records.known ≡ known → IsHere r epoch (Some (plan_by thunk)) walk true
      → Makes m kinds.ReadClock clock r r'
      → IsHere r' epoch (Some (record { thunk = thunk; clock = clock; walked = length walk; known = known; stage = Looked })) walk true
  clock_on thunk clock known many here made =
      here_made m kinds.ReadClock clock r r' made here.resting epoch (Some (record { thunk = thunk; clock = clock; walked = length walk; known = known; stage = Looked })) walk true
      here.seated here.present here.resting here.at here.unpublished
      (ap (looked_by r.part clock) here.looked
      ∙ (λ i. Some (record { thunk = thunk; clock = clock; walked = length (here.has_read i); known = many i; stage = Looked })))
      here.has_read here.loads_only

  pub reply_on : (x : Look) (found : ℕ) → IsHere r epoch (Some x) walk true → Makes m kinds.ReadReply found r r'
      → IsHere r' epoch (Some (record x { stage = Replied })) walk false
  reply_on x found here made = here_made m kinds.ReadReply found r r' made here.resting epoch (Some (record x { stage = Replied })) walk false
      here.seated here.present here.resting here.at here.unpublished (ap (come_to Replied) here.looked) here.has_read refl

  pub stamp_on : (x : Look) (found : ℕ) → IsHere r epoch (Some x) walk false → Makes m kinds.ReadStamp found r r'
      → IsHere r' epoch (Some (record x { stage = Stamped })) walk false
  stamp_on x found here made = here_made m kinds.ReadStamp found r r' made here.resting epoch (Some (record x { stage = Stamped })) walk false
      here.seated here.present here.resting here.at here.unpublished (ap (come_to Stamped) here.looked) here.has_read refl

-- loads of cells, one after the other
pub loads_on : {T : Type 0} (m : Meaning) (epoch : ℕ) (look : Option Look) (only : Bool) (readings walk : Readings) (r r' : RunnerState T)
    → IsHere r epoch look walk only → plans.Loads m readings r r' → IsHere r' epoch look (walk ++ readings) only
loads_on m epoch look only [] walk r r' here same =
    subst (λ y. IsHere y epoch look (walk ++ []) only) (sym same) (subst (λ xs. IsHere r epoch look xs only) (sym (append-nil walk)) here)
loads_on m epoch look only (x ∷ readings) walk r r' here loads =
    subst (λ xs. IsHere r' epoch look xs only) (append_assoc walk (x ∷ []) readings)
    (loads_on m epoch look only readings (walk ++ x ∷ []) loads.0 r' (load_on m epoch walk r loads.0 look only x.0 x.1 here loads.1) loads.2)

-- which steps it may make
module _ {T : Type 0} (m : Meaning) (epoch : ℕ) (walk : Readings) (r : RunnerState T) where
  abbrev sizes : Sizes
  sizes = sizes_for m r.layout r.requests

  asked_is : (look : Option Look) (only : Bool) (here : IsHere r epoch look walk only) (k : EventKind) (x : Spot × Access)
      → outside_ask m r.layout r.requests r.number k r.part ≡ Some x → Fits sizes x.0 → met_by m r k ≡ Some x
  asked_is look only here k x e h =
      ap (λ (g : Bool). if g then None else fitting sizes (ask_by m r.layout r.requests r.number k r.part r.part.run)) here.present
      ∙ (ap (fitting sizes) (ap (ask_by m r.layout r.requests r.number k r.part) here.resting ∙ e)
      ∙ ap (λ (b : Bool). if b then Some x else None) (fits_is sizes x.0 h))

  pub may_plan : (thunk : Thunk) → IsHere r epoch None walk true → length thunk.operands ≡ 8
      → met_by m r (kinds.ReadPlan thunk) ≡ Some (spots.Announcement r.number, Exchanges 0 0)
  may_plan thunk here eight = asked_is None true here (kinds.ReadPlan thunk) (spots.Announcement r.number, Exchanges 0 0)
      ((λ i. when (is_walking (here.at i) (here.resting i) && (here.loads_only i && (is_none (here.looked i) && length thunk.operands == 8)))
      (spots.Announcement r.number) (Exchanges 0 0))
      ∙ ap (λ (n : ℕ). when (n == 8) (spots.Announcement r.number) (Exchanges 0 0)) eight)
      here.seated

  pub may_load_clock : (thunk : Thunk) → IsHere r epoch (Some (plan_by thunk)) walk true → met_by m r kinds.ReadClock ≡ Some (spots.Clock, Loads)
  may_load_clock thunk here = asked_is (Some (plan_by thunk)) true here kinds.ReadClock (spots.Clock, Loads)
      (ap (read_clock_ask r.part) here.looked ∙ (λ i. when (is_walking (here.at i) (here.resting i) && (here.loads_only i && true)) spots.Clock Loads)) tt

  pub may_write_reply : (x : Look) → IsHere r epoch (Some x) walk true → may_reply m r.layout r.requests r.number r.part x ≡ true
      → x.thunk.request < length r.requests
      → met_by m r kinds.ReadReply ≡ Some (spots.Reply x.thunk.request, Exchanges 0 (reply_in (m.body x.thunk)))
  may_write_reply x here may low = asked_is (Some x) true here kinds.ReadReply (spots.Reply x.thunk.request, Exchanges 0 (reply_in (m.body x.thunk)))
      (ap (read_reply_ask m r.layout r.requests r.number r.part) here.looked
      ∙ ap (λ (b : Bool). when b (spots.Reply x.thunk.request) (Exchanges 0 (reply_in (m.body x.thunk)))) may) low

  pub may_write_stamp : (x : Look) → IsHere r epoch (Some x) walk false → is_replied x.stage ≡ true → nat_lt x.clock last_clock ≡ true
      → x.thunk.request < length r.requests
      → met_by m r kinds.ReadStamp ≡ Some (spots.Stamp x.thunk.request, Exchanges 0 (read_stamp_after x.clock))
  may_write_stamp x here replied small low = asked_is (Some x) false here kinds.ReadStamp (spots.Stamp x.thunk.request, Exchanges 0 (read_stamp_after x.clock))
      (ap (read_stamp_ask r.part) here.looked
      ∙ (λ i. when (is_walking (here.at i) (here.resting i) && (replied i && small i)) (spots.Stamp x.thunk.request) (Exchanges 0 (read_stamp_after x.clock)))) low
