-- Along the steps of an attempt, what an uncrossed runner has seen of the epoch stays, but for an advance.
use Rattle.std.specs.Prelude.{◌==◌, nat_lt, Bool, true, false, if◌then◌else◌}
use Rattle.std.proofs.Common.{◌≡◌, ℕ, zero, suc, ◌+◌, List, [], ◌∷◌, refl, sym, ap, ◌∙◌, inl, inr, Some}
use Rattle.machine_states.specs.body_terms.specs.declared.micro.Micro.{Micro}
use Rattle.machine_states.specs.body_terms.specs.declared.micro.Micro.TheVariants as micros
use Rattle.machine_states.specs.table_words.specs.Places.{block_words}
use Rattle.machine_states.specs.table_words.specs.declared.layout.Layout.{Layout}
use Rattle.machine_states.specs.structure_laws.specs.Scene.{Readings}
use Rattle.machine_states.specs.structure_laws.specs.Meaning.{Meaning}
use Rattle.machine_states.specs.runner_parts.specs.declared.event.EventKind.{EventKind}
use Rattle.machine_states.specs.runner_parts.specs.declared.event.EventKind.TheVariants as kinds
use Rattle.machine_states.specs.runner_parts.specs.State.{RunState, PartState}
use Rattle.machine_states.specs.runner_steps.specs.After.{own_epoch}
use Rattle.machine_states.specs.runner_steps.specs.Asks.{asks}
use Rattle.machine_states.specs.runner_steps.specs.Outside.{blocks_from}
use Rattle.machine_states.specs.runner_steps.specs.After.{after}
use Rattle.lone_plans.specs.one_worker.proofs.Onward.{is_advance, was_uncrossed, same_own}
use Rattle.version_words.specs.RunnerState.{RunnerState}
use Rattle.version_words.specs.Events.{Makes, IsMade}
use Rattle.lone_plans.specs.one_worker.specs.next_steps.specs.Steps.{slot_in, kind_at, next_block, link_kind}
use Rattle.attempts.specs.epoch_slots.specs.Entries.{Enters, Exits}
use Rattle.attempts.specs.epoch_slots.specs.Collects.{Scans, Looks, AreTested}
use Rattle.attempts.specs.epoch_slots.specs.Sweeps.{Sweeps}
use Rattle.attempts.specs.commit_log.specs.Runs.{Moved, Ran}
use Rattle.attempts.specs.caller_facts.specs.section_runs.specs.Opened.{Opens, is_opening}
use Rattle.attempts.specs.try_lock.specs.Plans.{Loads}
use Rattle.attempts.specs.try_lock.specs.Prepares.{Stores, SetsWords}

opening_none : (kind : EventKind) → is_opening kind ≡ true → is_advance kind ≡ false
opening_none (kinds.LoadThunk descriptor) is = refl
opening_none kinds.LoadDone is = refl
opening_none _ is = absurd (let z = is in cc)

at_none : (p : PartState) (q : RunState) (micro : Micro) → is_advance (kind_at p q micro) ≡ false
at_none p q (micros.LoadCell place log) = refl
at_none p q _ = refl

link_none : (m : Meaning) (l : Layout) (p : PartState) (q : RunState) → is_advance (link_kind m l p q) ≡ false
link_none m l p q = by (nat_lt q.emptied block_words)
  where
    by : (b : Bool) → is_advance (if b then kinds.PrivateStore (blocks_from m l + slot_in (next_block p q)) q.emptied 0 else kinds.LinkCommit (slot_in q.block)) ≡ false
    by true = refl
    by false = refl

module _ {T : Type 0} where
  -- where the one is uncrossed, the other was, and the own epoch is as it was
  abbrev pub Onward : RunnerState T → RunnerState T → Type 0
  Onward a b = b.part.records.crossed ≡ false
      → (a.part.records.crossed ≡ false) × (own_epoch b.part.records.epoch_seen ≡ own_epoch a.part.records.epoch_seen)

  pub stay : (a b : RunnerState T) → b ≡ a → Onward a b
  stay a b e uncrossed = (ap (λ (r : RunnerState T). r.part.records.crossed) (sym e) ∙ uncrossed, ap (λ (r : RunnerState T). own_epoch r.part.records.epoch_seen) e)

  pub then_on : (a b c : RunnerState T) → Onward a b → Onward b c → Onward a c
  then_on a b c one two uncrossed = let h = two uncrossed in let k = one h.0 in (k.0, h.1 ∙ k.1)

  module _ (m : Meaning) where
    -- a step: the part after it, what it asks, and what is uncrossed behind it
    module _ (kind : EventKind) (found : ℕ) (a b : RunnerState T) (made : Makes m kind found a b) where
      made_part : b.part ≡ after m a.layout a.number kind made.met.0 made.met.1 a.part found
      made_part = ap (λ (r : RunnerState T). r.part) made.made

      pub made_asked : asks m a.layout a.requests a.number kind a.part ≡ Some made.met
      made_asked = made.asked

      pub made_uncrossed : b.part.records.crossed ≡ false
          → (after m a.layout a.number kind made.met.0 made.met.1 a.part found).records.crossed ≡ false
      made_uncrossed uncrossed = sym (ap (λ (p : PartState). p.records.crossed) made_part) ∙ uncrossed

    pub made_on : (kind : EventKind) (found : ℕ) (a b : RunnerState T) → is_advance kind ≡ false → Makes m kind found a b → Onward a b
    made_on kind found a b plain made uncrossed =
        let gone = made_uncrossed kind found a b made uncrossed in (
          was_uncrossed m a.layout a.requests a.number a.part made.met kind found (made_asked kind found a b made) gone,
          ap (λ (p : PartState). own_epoch p.records.epoch_seen) (made_part kind found a b made)
              ∙ same_own m a.layout a.requests a.number a.part made.met kind found (made_asked kind found a b made) gone plain,
        )

    -- what is uncrossed behind a step was so before it
    pub made_was : (kind : EventKind) (found : ℕ) (a b : RunnerState T) → Makes m kind found a b → b.part.records.crossed ≡ false → a.part.records.crossed ≡ false
    made_was kind found a b made uncrossed = was_uncrossed m a.layout a.requests a.number a.part made.met kind found (made_asked kind found a b made)
        (made_uncrossed kind found a b made uncrossed)

    pub is_made_on : (kind : EventKind) (a b : RunnerState T) → is_advance kind ≡ false → IsMade m kind a b → Onward a b
    is_made_on kind a b plain made = made_on kind made.found a b plain made.event

    pub scans_on : (next : ℕ) (found : List ℕ) (a b : RunnerState T) → Scans m next found a b → Onward a b
    scans_on next [] a b same = stay a b same
    scans_on next (n ∷ ns) a b scans = then_on a scans.0 b (made_on (kinds.ScanOne next) n a scans.0 refl scans.1) (scans_on (next + 1) ns scans.0 b scans.2)

    pub sweeps_on : (next : ℕ) (found : List ℕ) (a b : RunnerState T) → Sweeps m next found a b → Onward a b
    sweeps_on next [] a b same = stay a b same
    sweeps_on next (n ∷ ns) a b sweeps = then_on a sweeps.0 b (made_on (kinds.LoadGuard next) n a sweeps.0 refl sweeps.1) (sweeps_on (next + 1) ns sweeps.0 b sweeps.2)

    looks_on : (slot cell : ℕ) (words : List ℕ) (a b : RunnerState T) → Looks m slot cell words a b → Onward a b
    looks_on slot cell [] a b same = stay a b same
    looks_on slot cell (w ∷ ws) a b looks = then_on a looks.0 b (made_on (kinds.PrivateLoad slot cell) w a looks.0 refl looks.1) (looks_on slot (cell + 1) ws looks.0 b looks.2)

    pub tested_on : (slots : List ℕ) (wears : List Bool) (a b : RunnerState T) → AreTested m slots wears a b → Onward a b
    tested_on [] wears a b tested = stay a b tested.1
    tested_on (slot ∷ slots) [] a b tested = absurd tested
    tested_on (slot ∷ slots) (worn ∷ wears) a b tested = then_on a tested.0 b (looks_on slot 0 tested.1.words a tested.0 tested.1.looks) (tested_on slots wears tested.0 b tested.2)

    pub enters_on : (a b : RunnerState T) → Enters m a b → Onward a b
    enters_on a b enters = then_on a enters.loading b (made_on kinds.EnterLoad enters.announced a enters.loading refl enters.load)
        (then_on enters.loading enters.waiting b (is_made_on kinds.Announce enters.loading enters.waiting refl enters.announce)
        (made_on kinds.EnterAgain enters.epoch enters.waiting b refl enters.again))

    pub exits_on : (a b : RunnerState T) → Exits m a b → Onward a b
    exits_on a b exits = is_made_on kinds.Idle a b refl exits.announce

    pub loads_on : (readings : Readings) (a b : RunnerState T) → Loads m readings a b → Onward a b
    loads_on [] a b same = stay a b same
    loads_on (x ∷ xs) a b loads = then_on a loads.0 b (made_on (kinds.LoadCell (Some x.0)) x.1 a loads.0 refl loads.1) (loads_on xs loads.0 b loads.2)

    stores_on : (same : Bool) (slot word number : ℕ) (a b : RunnerState T) → Stores m same slot word number a b → Onward a b
    stores_on true slot word number a b same = stay a b same
    stores_on false slot word number a b made = is_made_on (kinds.PrivateStore slot word number) a b refl made

    pub sets_on : (slot word : ℕ) (numbers : List ℕ) (a b : RunnerState T) → SetsWords m slot word numbers a b → Onward a b
    sets_on slot word [] a b same = stay a b same
    sets_on slot word (n ∷ ns) a b sets = then_on a sets.0 b
        (then_on a sets.1.loaded sets.0 (made_on (kinds.PrivateLoad slot word) sets.1.found a sets.1.loaded refl sets.1.load)
        (stores_on (sets.1.found == n) slot word n sets.1.loaded sets.0 sets.1.store))
        (sets_on slot (word + 1) ns sets.0 b sets.2)

    pub opens_on : (n : ℕ) (a b : RunnerState T) → Opens m n a b → Onward a b
    opens_on zero a b same = stay a b same
    opens_on (suc n) a b opens = then_on a opens.0 b (opens_on n a opens.0 opens.3) (made_on opens.1 opens.2 opens.0 b (opening_none opens.1 opens.4) opens.5)

    moved_on : (q : RunState) (found : ℕ) (a b : RunnerState T) → Moved m q found a b → Onward a b
    moved_on q found a b (inl step) = made_on (kind_at a.part q step.0) found a b (at_none a.part q step.0) step.1.event
    moved_on q found a b (inr link) = made_on (link_kind m a.layout a.part q) found a b (link_none m a.layout a.part q) link.event

    pub ran_on : (n : ℕ) (a b : RunnerState T) → Ran m n a b → Onward a b
    ran_on zero a b same = stay a b same
    ran_on (suc n) a b ran = then_on a ran.0 b (moved_on ran.1 ran.2 a ran.0 ran.3) (ran_on n ran.0 b ran.4)
