-- The step that loads a request's stamp word, or its reply word.
use Rattle.std.specs.Prelude.{◌-◌, ◌/◌, ◌%◌, ◌==◌}
use Rattle.std.proofs.Common.{◌≡◌, ℕ, ◌+◌, ◌*◌, Bool, true, false, ap, subst, sym, ◌∙◌, [], arith}
use Rattle.machine_states.specs.table_words.specs.declared.sizes.Sizes.{Sizes}
use Rattle.machine_states.specs.table_words.specs.declared.spot.Spot.{Spot}
use Rattle.machine_states.specs.table_words.specs.declared.spot.Spot.TheVariants as spots
use Rattle.machine_states.specs.table_words.specs.Places.{address, entries_at}
use Rattle.machine_states.specs.structure_laws.specs.Meaning.{Meaning}
use Rattle.machine_states.specs.runner_parts.specs.declared.event.EventKind.{EventKind}
use Rattle.machine_states.specs.runner_parts.specs.declared.event.EventKind.TheVariants.{LoadEntry}
use Rattle.machine_states.specs.runner_parts.specs.State.{PartState}
use Rattle.machine_states.specs.runner_steps.specs.AfterOutside.{entry_after}
use Rattle.machine_states.specs.runner_steps.specs.Asks.{sizes_for}
use Rattle.version_words.specs.RunnerState.{RunnerState, told_part}
use Rattle.version_words.specs.TableState.{TableState, IsOf}
use Rattle.version_words.specs.Naming.{entry_of}
use Rattle.version_words.specs.Events.{Makes}
use Rattle.version_words.proofs.Splits.{learns}

-- the word of a request's stamp, or of its reply
abbrev pub entry_spot : Bool → ℕ → Spot
entry_spot true request = spots.Reply request
entry_spot false request = spots.Stamp request

entry_named : (s : Sizes) (request : ℕ) (reply : Bool) → entry_of (address s (entry_spot reply request) - entries_at s) ≡ LoadEntry request reply
entry_named s request true =
    let place : entries_at s + 2 * request + 1 - entries_at s ≡ 2 * request + 1 = omega arith in
    let half : (2 * request + 1) / 2 ≡ request = omega arith in
    let rest : (2 * request + 1) % 2 ≡ 1 = omega arith in
    (λ i. entry_of (place i)) ∙ (λ i. LoadEntry (half i) (rest i == 1))
entry_named s request false =
    let place : entries_at s + 2 * request - entries_at s ≡ 2 * request = omega arith in
    let half : 2 * request / 2 ≡ request = omega arith in
    let rest : 2 * request % 2 ≡ 0 = omega arith in
    (λ i. entry_of (place i)) ∙ (λ i. LoadEntry (half i) (rest i == 1))

-- it has the event's name
pub entry_event : {T : Type 0} (m : Meaning) (t : TableState T) (r : RunnerState T) → IsOf t r → (request : ℕ) (reply : Bool) (spot : Spot) → spot ≡ entry_spot reply request → (found : ℕ) (r' : RunnerState T)
    → Makes m (entry_of (address (sizes_for m t.layout t.requests) spot - entries_at (sizes_for m r.layout r.requests))) found r r' → Makes m (LoadEntry request reply) found r r'
entry_event m t r own request reply spot is found r' = subst (λ (k : EventKind). Makes m k found r r')
    ((λ i. entry_of (address (sizes_for m (sym own.layout i) (sym own.requests i)) (is i) - entries_at (sizes_for m r.layout r.requests)))
    ∙ entry_named (sizes_for m r.layout r.requests) request reply)

-- the code keeps nothing of what a request's word told
pub told_entry : (p : PartState) (request : ℕ) (reply : Bool) (found : ℕ) → told_part (entry_after request reply p found) ≡ told_part p
told_entry p request reply found =
    ap (λ (z : ℕ). record (told_part p) { records = record { known = []; finished = []; events = 0; won = 0; epoch_seen = 0; crossed = false; crosses = false; left = []; splits = z; joined = []; only_loads = false; gave_above = true } })
    (learns p.records request reply found)
