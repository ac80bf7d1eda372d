-- What is shown of a step.
use Rattle.std.proofs.Common.{◌≡◌, ℕ, true, false, ap, sym, ◌∙◌, List}
use Rattle.machine_states.specs.map_history.specs.declared.op.Request.{Request}
use Rattle.machine_states.specs.table_words.specs.declared.layout.Layout.{Layout}
use Rattle.machine_states.specs.table_words.specs.declared.spot.Spot.{Spot}
use Rattle.machine_states.specs.table_words.specs.declared.access.Access.{Access}
use Rattle.machine_states.specs.table_words.specs.declared.access.Access.TheVariants.{Stores}
use Rattle.machine_states.specs.table_words.specs.Access.{written}
use Rattle.machine_states.specs.structure_laws.specs.Meaning.{Meaning}
use Rattle.machine_states.specs.runner_parts.specs.declared.event.EventKind.{EventKind}
use Rattle.machine_states.specs.runner_parts.specs.State.{PartState}
use Rattle.version_words.specs.ReachedWith.{ReachedWith, ReachedBy, is_told}

module _ (m : Meaning) (l : Layout) (rs : List Request) (r : ℕ) (kind : EventKind) (old new : PartState) (met : Spot × Access) (found : ℕ) (shown : ReachedBy m l rs r kind old new met found) where
  -- the state after the step alone
  pub seen_then : ReachedWith m l rs r new met.0 (written met.1 found)
  seen_then = record { world = shown.world; reached = shown.reached; own = shown.own; word = shown.word }

  -- the state before the step alone, where it is told what it found
  pub seen_before : is_told met.1 ≡ true → ReachedWith m l rs r old met.0 found
  seen_before told = record { world = shown.before; reached = shown.was_reached; own = shown.was_own; word = shown.was_found told }

  -- a plain store isn't told what it found, so it may be any number
  pub blind_shown : (number : ℕ) → met.1 ≡ Stores number → (other : ℕ) → ReachedBy m l rs r kind old new met other
  blind_shown number is other = record {
    before = shown.before;
    was_reached = shown.was_reached;
    was_own = shown.was_own;
    was_found = λ told. absurd (let untold : is_told met.1 ≡ false = ap is_told is in let both = sym told ∙ untold in cc);
    world = shown.world;
    happened = shown.happened;
    reached = shown.reached;
    own = shown.own;
    word = shown.word ∙ (ap (λ a. written a found) is ∙ sym (ap (λ a. written a other) is));
  }
