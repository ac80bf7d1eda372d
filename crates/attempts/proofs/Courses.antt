-- How far an attempt came, and what it may do there.
use Rattle.std.specs.Prelude.{◌==◌, ◌&&◌, not, cond, Bool, true, false, slice_get, Ok, Err, if◌then◌else◌}
use Rattle.std.proofs.Common.{◌≡◌, ℕ, ◌-◌, ◌<◌, ◌≤◌, [], ◌∷◌, ◌++◌, length, inl, refl, sym, ap, ◌∙◌, subst, arith, Option, Some, None}
use Rattle.section_lines.specs.small_lemmas.proofs.Numbers.{self_tested as same_test}
use Rattle.machine_states.specs.map_history.specs.declared.op.Request.{Request}
use Rattle.machine_states.specs.body_terms.specs.Trail.{Agreed}
use Rattle.machine_states.specs.body_terms.specs.Word.{value_of, is_free, is_spent}
use Rattle.machine_states.specs.body_terms.specs.declared.outcome.Outcome.{Outcome}
use Rattle.machine_states.specs.body_terms.specs.declared.outcome.Refused.{Refused}
use Rattle.machine_states.specs.body_terms.specs.declared.outcome.Refused.TheVariants as refusals
use Rattle.machine_states.specs.body_terms.specs.declared.thunk.Thunk.{Thunk}
use Rattle.machine_states.specs.structure_laws.specs.Scene.{Readings}
use Rattle.machine_states.specs.structure_laws.specs.Meaning.{Meaning}
use Rattle.machine_states.specs.runner_parts.specs.declared.entries.Published.{Published}
use Rattle.machine_states.specs.epoch_core.specs.declared.stage.Stage.TheVariants as stages
use Rattle.machine_states.specs.table_words.specs.Places.{descriptor_count}
use Rattle.machine_states.specs.runner_parts.specs.declared.event.EventKind.TheVariants as kinds
use Rattle.machine_states.specs.runner_parts.specs.Lists.{no_reads}
use Rattle.machine_states.specs.runner_steps.specs.AfterInRun.{kept_unless}
use Rattle.machine_states.specs.runner_parts.specs.State.{NodesState, ReadsState}
use Rattle.machine_states.specs.runner_parts.specs.Tests.{has_pair, is_next, is_open, serves}
use Rattle.machine_states.specs.runner_steps.specs.Outside.{is_due}
use Rattle.machine_states.specs.runner_steps.specs.AfterOutside.{published_by}
use Rattle.caller_facts.specs.lock_walks.specs.runner_facts.proofs.Names.{pair_last}
use Rattle.version_words.specs.RunnerState.{RunnerState}
use Rattle.version_words.specs.Stages.{IsAt}
use Rattle.version_words.specs.Events.{Makes}
use Rattle.caller_facts.specs.epoch_slots.specs.Entries.{HasLeave}
use Rattle.caller_facts.specs.try_lock.specs.declared.section.Section.{Section}
use Rattle.caller_facts.specs.try_lock.specs.declared.planned.Planned.{Planned}
use Rattle.caller_facts.specs.try_lock.specs.declared.planned.Planned.TheVariants as plans
use Rattle.caller_facts.specs.try_lock.specs.Planning.{Planning}
use Rattle.caller_facts.specs.try_lock.specs.Plans.{reads_walked}
use Rattle.caller_facts.specs.try_lock.specs.Publishes.{MayPublish, IsPublished, IsRefused}
use Rattle.caller_facts.specs.try_lock.specs.Reached.{MayRunSection}
use Rattle.caller_facts.specs.try_lock.proofs.Guarding.{guard_keeps, guard_reads}
use Rattle.caller_facts.specs.lock_walks.specs.runner_facts.specs.next_steps.specs.Rooms.{cell_count}
use Rattle.attempts.specs.Course.{of_refusal, HasPlanned, HasTried, HasEnded}
use Rattle.attempts.specs.Rests.{MayLeave, MayLetGo}
use Rattle.attempts.specs.declared.answers.Attempt.TheVariants as answers
use Rattle.caller_facts.specs.try_lock.proofs.Blocks.{for_one}
use Rattle.attempts.proofs.Leaving.{ended_at}
use Rattle.attempts.proofs.LettingGo.{gone_leave, gone_hand}

over_none : (y : Published) (d : ℕ) → y.descriptor ≡ d → kept_unless (Some y) d ≡ None
over_none y d e = ap (λ b. if b then None else Some y) (subst (λ j. (y.descriptor == j) ≡ true) e (same_test y.descriptor))

module _ {T : Type 0} (m : Meaning) (planning : Planning) (request : Request) (old : RunnerState T) where
  module _ (readings : Readings) (answer : Planned) (r : RunnerState T) (is : HasPlanned m planning request readings answer old r) where
    pub planned_at : IsAt r (stages.Entered is.enters.enters.epoch) None
    planned_at = is.walked.at is.enters.enters.epoch None is.enters.enters.at

    pub planned_reads : r.part.reads ≡ reads_walked no_reads readings
    planned_reads = is.walked.reads ∙ ap (λ (s : ReadsState). reads_walked s readings) is.enters.enters.reads

    pub planned_leave : HasLeave r
    planned_leave = record {
      epoch = is.enters.enters.epoch;
      at = planned_at;
      unguarded = is.walked.guarded ∙ (ap (λ g. g.named) is.enters.enters.guards ∙ is.enters.reclaims.rested.tidy.unguarded);
    }

  module _ (readings : Readings) (thunk : Thunk) (r : RunnerState T) (is : HasPlanned m planning request readings (plans.Thunk thunk) old r) where
    open_test : (a b c : Bool) → a ≡ true → b ≡ false → c ≡ true → (a && (not b && c)) ≡ true
    open_test a b c one two three = ap (λ x. x && (not b && c)) one ∙ (ap (λ x. not x && c) two ∙ three)

    unlocked : is_open r.layout r.part.reads.cells thunk ≡ true
    unlocked = open_test (is_free thunk.word) (is_spent r.layout.version_max thunk.word) (has_pair r.part.reads.cells thunk.lock thunk.word)
        is.answers.free
        (ap (λ l. is_spent l.version_max thunk.word) is.still.layout ∙ is.answers.unspent)
        (ap (λ (s : ReadsState). has_pair s.cells thunk.lock thunk.word) (planned_reads readings (plans.Thunk thunk) r is) ∙ is.answers.read)

    asked : slice_get r.requests thunk.request ≡ Some request
    asked = ap (slice_get r.requests) is.answers.request ∙ (ap (λ rs. slice_get rs request.number) is.still.requests ∙ is.enters.may.there)

    both_test : (a b : Bool) → a ≡ true → b ≡ true → (a && b) ≡ true
    both_test a b one two = ap (λ x. x && b) one ∙ two

    due : is_due m r.layout r.requests r.number r.part.records.known r.part.reads.walk thunk ≡ true
    due = ap (λ o. is_next r.layout r.number r.requests r.part.records.known o && serves m r.layout r.part.reads.walk thunk o) asked
        ∙ both_test (is_next r.layout r.number r.requests r.part.records.known (Some request)) (m.fits r.layout request.op r.part.reads.walk thunk)
        ((λ i. is_next (is.still.layout i) (is.still.number i) (is.still.requests i) (is.still.known i) (Some request)) ∙ is.enters.may.next)
        ((λ i. m.fits (is.still.layout i) request.op ((planned_reads readings (plans.Thunk thunk) r is i).walk) thunk) ∙ is.answers.fits)

    pub may_publish : MayPublish m r thunk
    may_publish = record {
      epoch = is.enters.enters.epoch;
      at = planned_at readings (plans.Thunk thunk) r is;
      unlocked = unlocked;
      due = due;
      reserve = is.has.descriptors;
      reached = is.reached;
    }

  -- the section is published
  module _ (thunk : Thunk) (section : Section) (r : RunnerState T) (is : HasTried m planning request thunk (Ok section) old r) where
    published : IsPublished thunk is.publishes.descriptor is.publishes.found is.planned r section
    published = is.publishes.published

    abbrev x : Published
    x = published_by thunk is.publishes.descriptor is.planned.part

    pub tried_at : IsAt r (stages.Entered is.plans.enters.enters.epoch) (Some x)
    tried_at = published.at is.plans.enters.enters.epoch (planned_at is.readings (plans.Thunk thunk) is.planned is.plans)

    pub may_run : MayRunSection m r thunk section
    may_run = record {
      epoch = is.plans.enters.enters.epoch;
      published = Some x;
      at = tried_at;
      section = published.section;
      reserve = is.nodes;
      blocks = for_one (length r.part.blocks.free) is.blocks;
      reached = is.publishes.reached;
    }

  -- the publication was refused
  module _ (thunk : Thunk) (refused : Refused) (r : RunnerState T) (is : HasTried m planning request thunk (Err refused) old r) where
    lost : IsRefused thunk is.publishes.descriptor is.publishes.found is.planned r refused
    lost = is.publishes.refused

    by_word : (free spent : Bool) (expected found place word : ℕ) (e : Refused)
        → e ≡ cond free (cond spent (refusals.Spent found) (refusals.Stale expected found)) (refusals.Busy found)
        → of_refusal thunk.lock e ≡ answers.Busy place word → (free ≡ false) × (word ≡ found) × (place ≡ thunk.lock)
    by_word true true expected found place word e is named = absurd (let z = sym (ap (of_refusal thunk.lock) is) ∙ named in cc)
    by_word true false expected found place word e is named = absurd (let z = sym (ap (of_refusal thunk.lock) is) ∙ named in cc)
    by_word false spent expected found place word e is named = let z = sym (ap (of_refusal thunk.lock) is) ∙ named in (refl, cc, cc)

    cause : (place word : ℕ) → of_refusal thunk.lock refused ≡ answers.Busy place word
        → (is_free is.publishes.found ≡ false) × (word ≡ is.publishes.found) × (place ≡ thunk.lock)
    cause place word named = by_word (is_free is.publishes.found) (is_spent is.planned.layout.version_max is.publishes.found) thunk.word
        is.publishes.found place word refused lost.why named

    -- the exchange read the word
    lock_read : (place word : ℕ) → of_refusal thunk.lock refused ≡ answers.Busy place word → has_pair r.part.reads.cells place word ≡ true
    lock_read place word named = let h = cause place word named in
        ap (λ xs. has_pair xs place word) is.publishes.read
        ∙ (ap (λ w. has_pair (is.planned.part.reads.cells ++ (thunk.lock, is.publishes.found) ∷ []) place w) h.1
        ∙ (ap (λ p. has_pair (is.planned.part.reads.cells ++ (thunk.lock, is.publishes.found) ∷ []) p is.publishes.found) h.2
        ∙ pair_last is.planned.part.reads.cells thunk.lock is.publishes.found))

    pub at_refused : IsAt r (stages.Entered is.plans.enters.enters.epoch) None
    at_refused = lost.at is.plans.enters.enters.epoch (planned_at is.readings (plans.Thunk thunk) is.planned is.plans)

    pub refused_go : MayLetGo r
    refused_go = record { epoch = is.plans.enters.enters.epoch; at = at_refused }

    -- whose outer lock is a lock, in a place of the table; and the word that it had names a descriptor of the table
    module _ (found : ℕ) (u : RunnerState T) (goes : Makes m (kinds.Guard None) found r u) where
      pub refused_may_leave : m.is_lock thunk.lock ≡ true → thunk.lock < cell_count m u.layout
          → (is_free is.publishes.found ≡ false → value_of is.publishes.found - 1 < descriptor_count u.layout) → MayLeave m (of_refusal thunk.lock refused) u
      refused_may_leave lock within few =
          let kept = guard_keeps m None found r u goes at_refused.resting in
          let leave = gone_leave m found r u goes refused_go in
          record {
            leave = leave;
            hand = gone_hand m found r u goes refused_go is.hand;
            reserve = subst (λ (n : NodesState). 2 ≤ length n.free) (sym kept.nodes) is.nodes;
            blocks = (let had = for_one (length r.part.blocks.free) is.blocks in let more = kept.blocks in omega (arith, had, more));
            watch = λ place word named.
                let h = cause place word named in record {
                  epoch = leave.epoch;
                  at = leave.at;
                  lock = ap m.is_lock h.2 ∙ lock;
                  within = subst (λ p. p < cell_count m u.layout) (sym h.2) within;
                  names = ap is_free h.1 ∙ h.0;
                  few = subst (λ w. value_of w - 1 < descriptor_count u.layout) (sym h.1) (few h.0);
                };
            met = λ place word named. inl (ap (λ (s : ReadsState). has_pair s.cells place word) (guard_reads m None found r u goes at_refused.resting) ∙ lock_read place word named);
          }

  -- the section was run to its end
  module _ (section : Section) (thunk : Thunk) (outcome : Outcome) (trail : Agreed) (r : RunnerState T)
      (is : HasEnded m planning request section thunk outcome trail old r) where
    -- it has no published section then
    pub ended_here : IsAt r (stages.Entered is.tries.plans.enters.enters.epoch) None
    ended_here = subst (λ (o : Option Published). IsAt r (stages.Entered is.tries.plans.enters.enters.epoch) o)
        (over_none (x thunk section is.published is.tries) section.descriptor (sym (published thunk section is.published is.tries).own))
        (ended_at m section.descriptor thunk outcome trail is.made is.published r is.ends is.tries.plans.enters.enters.epoch
        (Some (x thunk section is.published is.tries)) (tried_at thunk section is.published is.tries))

    pub ended_go : MayLetGo r
    ended_go = record { epoch = is.tries.plans.enters.enters.epoch; at = ended_here }
