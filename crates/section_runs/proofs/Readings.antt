-- What a run reads: the lock of its section is past the word that it had at the publication, so no step reads that word.
use Rattle.std.proofs.Common.{◌≡◌, ◌≢◌, ℕ, zero, suc, ◌<◌, List, [], ◌∷◌, ◌++◌, true, refl, sym, ap, ◌∙◌, subst, arith, Some}
use Rattle.std.specs.Prelude.{slice_get}
use Rattle.idem_cell.specs.section_lines.specs.small_lemmas.proofs.Lists.{append_none}
use Rattle.idem_cell.specs.machine_states.specs.body_terms.specs.Word.{version_of}
use Rattle.idem_cell.specs.machine_states.specs.body_terms.specs.declared.micro.Micro.{Micro}
use Rattle.idem_cell.specs.machine_states.specs.body_terms.specs.declared.micro.Micro.TheVariants as micros
use Rattle.idem_cell.specs.machine_states.specs.body_terms.specs.declared.thunk.Thunk.{Thunk}
use Rattle.idem_cell.specs.machine_states.specs.table_words.specs.declared.access.Access.{Access}
use Rattle.idem_cell.specs.machine_states.specs.table_words.specs.declared.spot.Spot.{Spot}
use Rattle.idem_cell.specs.machine_states.specs.table_words.specs.declared.spot.Spot.TheVariants as spots
use Rattle.idem_cell.specs.machine_states.specs.table_words.specs.Limits.{IsWithinLimits}
use Rattle.idem_cell.specs.machine_states.specs.structure_laws.specs.Meaning.{Meaning}
use Rattle.idem_cell.specs.machine_states.specs.structure_laws.specs.Laws.{Laws}
use Rattle.idem_cell.specs.machine_states.specs.runner_parts.specs.declared.event.Event.{Event}
use Rattle.idem_cell.specs.machine_states.specs.runner_parts.specs.State.{RunState, ReadsState, PartState}
use Rattle.idem_cell.specs.machine_states.specs.runner_steps.specs.Sections.{thunk_of}
use Rattle.idem_cell.specs.machine_states.specs.Sight.{Sight, sight, part_or_first}
use Rattle.idem_cell.specs.machine_states.proofs.Steps.{some_same}
use Rattle.nested_lock.specs.machine_facts.specs.machine_agreement.proofs.RunPlaces.{used_here, of_thunk}
use Rattle.nested_lock.specs.machine_facts.specs.machine_invariant.specs.After.{AreAllowed}
use Rattle.nested_lock.specs.machine_facts.specs.After.{AreFactsOfStep}
use Rattle.nested_lock.specs.machine_facts.proofs.Following.{step_facts_after}
use Rattle.idem_alloc.specs.commit_log.specs.next_steps.specs.Steps.{kind_at, ask_at, has_slot}
use Rattle.idem_alloc.specs.commit_log.specs.version_words.specs.ReachedWith.{is_told}
use Rattle.idem_alloc.specs.commit_log.specs.version_words.specs.RunnerState.{RunnerState}
use Rattle.idem_alloc.specs.commit_log.specs.version_words.specs.TableState.{TableState, IsOf}
use Rattle.idem_alloc.specs.commit_log.specs.Runs.{Stepped}
use Rattle.idem_alloc.specs.commit_log.proofs.Running.{may_make}
use Rattle.section_runs.specs.Opened.{ReadsOthers}

pub reads_none : (place word : ℕ) (cells : List (ℕ × ℕ)) → ReadsOthers place word cells cells
reads_none place word cells = record { more = []; adds = sym (append_none cells); others = λ i at. absurd (let z = at in cc) }

reads_one : (place word : ℕ) (cells : List (ℕ × ℕ)) (x : ℕ × ℕ) → x ≢ (place, word) → ReadsOthers place word cells (cells ++ x ∷ [])
reads_one place word cells x other = record { more = x ∷ []; adds = refl; others = by }
  where
    by : (i : ℕ) → slice_get (x ∷ []) i ≢ Some (place, word)
    by zero at = other (some_same x (place, word) at)
    by (suc i) at = absurd (let z = at in cc)

module _ {T : Type 0} (m : Meaning) (laws : Laws m) (t : TableState T) (limits : IsWithinLimits t.layout) (allowed : AreAllowed t.requests)
    (a b : RunnerState T) (own : IsOf t a) (own' : IsOf t b) (q : RunState) (found : ℕ) where
  abbrev thunk : Thunk
  thunk = thunk_of q.opened

  abbrev Reads : List (ℕ × ℕ) → Type 0
  Reads cells = ReadsOthers thunk.lock thunk.word a.part.reads.cells cells

  module _ (micro : Micro) (step : Stepped m q micro found a b) where
    abbrev event : Event
    event = record { runner = b.number; kind = kind_at a.part q micro }

    all : AreFactsOfStep m b.layout b.requests step.event.shown.before event step.event.shown.world
    all = step_facts_after m laws b.layout b.requests step.event.shown.was_reached.events step.event.shown.before
        (subst IsWithinLimits (sym own'.layout) limits) (subst AreAllowed (sym own'.requests) allowed) step.event.shown.was_reached.after event step.event.shown.world step.event.shown.happened

    abbrev s : Sight
    s = sight m b.layout b.requests step.event.shown.before

    runs : (s.part b.number).run ≡ Some q
    runs = ap (λ (p : PartState). p.run) (ap part_or_first step.event.shown.was_own) ∙ step.running.inside.running

    past : version_of thunk.word < version_of (s.word (spots.Cell thunk.lock))
    past =
        let joined = all.there.sound.sections.joined in
        let a0 = all.before.agreement in
        let of = of_thunk m b.layout a0 s joined b.number q runs step.running.opened in
        let there = (joined.sound.sections q.descriptor (used_here m b.layout a0 s joined b.number q runs)).section.in_locks.outer_past in
        subst (λ n. version_of thunk.word < version_of n) (ap a0.shared.cells of.lock ∙ joined.words.cells thunk.lock)
        (subst (λ n. version_of n < version_of (a0.shared.cells (a0.section q.descriptor).lock)) of.word there)

    -- what it found at a place isn't that word at the section's lock
    one : (place : ℕ) (access : Access) → has_slot a.part q micro ≡ true → ask_at m a.part q micro ≡ (spots.Cell place, access) → is_told access ≡ true
        → b.part.reads.cells ≡ a.part.reads.cells ++ (place, found) ∷ [] → Reads b.part.reads.cells
    one place access has asks told cells = subst Reads (sym cells) (reads_one thunk.lock thunk.word a.part.reads.cells (place, found) other)
      where
        met : step.event.met ≡ (spots.Cell place, access)
        met = some_same _ _ (sym step.event.asked ∙ may_make m laws t limits allowed a own q step.running micro step.next step.linked has) ∙ asks

        read : s.word (spots.Cell place) ≡ found
        read = ap (λ (x : Spot × Access). s.word x.0) (sym met) ∙ step.event.shown.was_found (ap (λ (x : Spot × Access). is_told x.1) met ∙ told)

        other : ◌≢◌ {A = ℕ × ℕ} (place, found) (thunk.lock, thunk.word)
        other same =
            let e : s.word (spots.Cell thunk.lock) ≡ thunk.word = ap (λ (x : ℕ × ℕ). s.word (spots.Cell x.0)) (sym same) ∙ (read ∙ ap (λ (x : ℕ × ℕ). x.1) same) in
            let low = past in
            let v = ap version_of e in
            absurd (omega (arith, low, v))

    none : b.part.reads ≡ a.part.reads → Reads b.part.reads.cells
    none same = subst Reads (sym (ap (λ (x : ReadsState). x.cells) same)) (reads_none thunk.lock thunk.word a.part.reads.cells)

  pub step_reads : (micro : Micro) → Stepped m q micro found a b → Reads b.part.reads.cells
  step_reads (micros.LoadCell place log) step = one (micros.LoadCell place log) step place _ refl refl refl (ap (λ (x : ReadsState). x.cells) step.behind.reads)
  step_reads (micros.NestedLoad place log) step = one (micros.NestedLoad place log) step place _ refl refl refl (ap (λ (x : ReadsState). x.cells) step.behind.reads)
  step_reads (micros.NestedHold place word) step = one (micros.NestedHold place word) step place _ refl refl refl (ap (λ (x : ReadsState). x.cells) step.behind.reads)
  step_reads (micros.OutcomeLoad place log) step = one (micros.OutcomeLoad place log) step place _ refl refl refl (ap (λ (x : ReadsState). x.cells) step.behind.reads)
  step_reads (micros.ExchangeCell place log value) step = one (micros.ExchangeCell place log value) step place _ refl refl refl (ap (λ (x : ReadsState). x.cells) step.behind.reads)
  step_reads (micros.Release place word) step = one (micros.Release place word) step place _ refl refl refl (ap (λ (x : ReadsState). x.cells) step.behind.reads)
  step_reads micro step = none micro step step.behind.reads
