-- A runner's steps change nothing of it but its part.
use Rattle.std.specs.Prelude.{Bool, true, false}
use Rattle.std.proofs.Common.{◌≡◌, ℕ, ◌+◌, List, [], ◌∷◌, ap, ◌∙◌}
use Rattle.machine_states.specs.structure_laws.specs.Meaning.{Meaning}
use Rattle.machine_states.specs.runner_parts.specs.declared.event.EventKind.{EventKind}
use Rattle.machine_states.specs.runner_parts.specs.declared.event.EventKind.TheVariants as kinds
use Rattle.version_words.specs.RunnerState.{RunnerState}
use Rattle.version_words.specs.Events.{Makes}
use Rattle.seq_read.specs.caller_facts.specs.epoch_slots.specs.Collects.{Scans, Looks, AreTested, Advances, Collects}
use Rattle.seq_read.specs.caller_facts.specs.epoch_slots.specs.Sweeps.{Sweeps}
use Rattle.seq_read.specs.caller_facts.specs.epoch_slots.specs.Board.{IsDrawn}
use Rattle.seq_read.specs.caller_facts.specs.epoch_slots.proofs.Boarding.{draws_keep, spares_keep}
use Rattle.serving.specs.attempts.specs.Reclaims.{CollectsWhere, SparesWhere, SweepsWhere, Reclaims, has_much_in_limbo, lacks_slots, needs_sweep}

module _ {T : Type 0} where
  -- the runner is of the same table
  abbrev pub Same : RunnerState T → RunnerState T → Type 0
  Same a b = (b.layout ≡ a.layout) × (b.requests ≡ a.requests)

  pub stays : (a b : RunnerState T) → b ≡ a → Same a b
  stays a b e = (ap (λ (r : RunnerState T). r.layout) e, ap (λ (r : RunnerState T). r.requests) e)

  pub then_same : (a b c : RunnerState T) → Same a b → Same b c → Same a c
  then_same a b c one two = (two.0 ∙ one.0, two.1 ∙ one.1)

  module _ (m : Meaning) where
    pub made_same : (kind : EventKind) (found : ℕ) (a b : RunnerState T) → Makes m kind found a b → Same a b
    made_same kind found a b made = (ap (λ (r : RunnerState T). r.layout) made.made, ap (λ (r : RunnerState T). r.requests) made.made)

    scans_same : (next : ℕ) (found : List ℕ) (a b : RunnerState T) → Scans m next found a b → Same a b
    scans_same next [] a b same = stays a b same
    scans_same next (n ∷ ns) a b scans = then_same a scans.0 b (made_same (kinds.ScanOne next) n a scans.0 scans.1) (scans_same (next + 1) ns scans.0 b scans.2)

    looks_same : (slot cell : ℕ) (words : List ℕ) (a b : RunnerState T) → Looks m slot cell words a b → Same a b
    looks_same slot cell [] a b same = stays a b same
    looks_same slot cell (w ∷ ws) a b looks = then_same a looks.0 b (made_same (kinds.PrivateLoad slot cell) w a looks.0 looks.1)
        (looks_same slot (cell + 1) ws looks.0 b looks.2)

    tested_same : (slots : List ℕ) (wears : List Bool) (a b : RunnerState T) → AreTested m slots wears a b → Same a b
    tested_same [] wears a b tested = stays a b tested.1
    tested_same (slot ∷ slots) [] a b tested = absurd tested
    tested_same (slot ∷ slots) (worn ∷ wears) a b tested = then_same a tested.0 b (looks_same slot 0 tested.1.words a tested.0 tested.1.looks)
        (tested_same slots wears tested.0 b tested.2)

    advances_same : (epoch : ℕ) (test : Bool) (reached : ℕ) (a b : RunnerState T) → Advances m epoch test reached a b → Same a b
    advances_same epoch true reached a b tries = made_same kinds.Advance tries.1.found a b tries.1.event
    advances_same epoch false reached a b same = stays a b same.0

    collects_same : (a b : RunnerState T) → Collects m a b → Same a b
    collects_same a b c = then_same a c.begun b (made_same kinds.ScanEpoch c.epoch a c.begun c.load)
        (then_same c.begun c.scanned b (scans_same 0 c.found c.begun c.scanned c.scans)
        (then_same c.scanned c.over b (advances_same c.epoch _ c.reached c.scanned c.over c.advances)
        (tested_same _ c.wears c.over b c.tested)))

    where_same : (due : Bool) (a b : RunnerState T) → CollectsWhere m due a b → Same a b
    where_same true a b c = collects_same a b c
    where_same false a b same = stays a b same

    sweeps_same : (next : ℕ) (found : List ℕ) (a b : RunnerState T) → Sweeps m next found a b → Same a b
    sweeps_same next [] a b same = stays a b same
    sweeps_same next (n ∷ ns) a b sweeps = then_same a sweeps.0 b (made_same (kinds.LoadGuard next) n a sweeps.0 sweeps.1) (sweeps_same (next + 1) ns sweeps.0 b sweeps.2)

    swept_same : (due : Bool) (a b : RunnerState T) → SweepsWhere m due a b → Same a b
    swept_same true a b swept = sweeps_same 0 swept.found a b swept.sweeps
    swept_same false a b same = stays a b same

    -- so it is behind a walk over the board
    spares_same : (due : Bool) (a b : RunnerState T) → SparesWhere m due a b → Same a b
    spares_same false a b same = stays a b same
    spares_same true a b is = spares_keep m Same stays then_same (λ word found x y. made_same (kinds.BoardLoad word) found x y)
        (λ word link found x y. made_same (kinds.BoardTake word link) found x y) (λ word slot found x y. made_same (kinds.BoardGive word slot) found x y)
        0 is.spared.found a b is.spared.spares

    draws_same : (a b : RunnerState T) → IsDrawn m 2 a b → Same a b
    draws_same a b is = draws_keep m Same stays then_same (λ word found x y. made_same (kinds.BoardLoad word) found x y)
        (λ word link found x y. made_same (kinds.BoardTake word link) found x y) (λ word slot found x y. made_same (kinds.BoardGive word slot) found x y)
        2 0 is.drawn.found a b is.drawn.draws

    -- and so behind scans, a sweep and both walks
    pub reclaims_same : (a b : RunnerState T) → Reclaims m a b → Same a b
    reclaims_same a b c = then_same a c.collected b (where_same (has_much_in_limbo a) a c.collected c.collects)
        (then_same c.collected c.spared b (spares_same (has_much_in_limbo a) c.collected c.spared c.spares)
        (then_same c.spared c.first b (where_same (lacks_slots c.spared) c.spared c.first c.once)
        (then_same c.first c.second b (where_same (lacks_slots c.first) c.first c.second c.twice)
        (then_same c.second c.third b (where_same (lacks_slots c.second) c.second c.third c.thrice)
        (then_same c.third c.swept b (swept_same (needs_sweep c.third) c.third c.swept c.sweeps)
        (draws_same c.swept b c.draws))))))
