-- A runner lets its guard go, and leaves.
use Rattle.std.proofs.Common.{◌≡◌, ℕ, ap, ◌∙◌, None}
use Rattle.machine_states.specs.structure_laws.specs.Meaning.{Meaning}
use Rattle.machine_states.specs.runner_parts.specs.declared.event.EventKind.TheVariants as kinds
use Rattle.machine_states.specs.runner_parts.specs.State.{GuardsState}
use Rattle.version_words.specs.RunnerState.{RunnerState}
use Rattle.version_words.specs.Events.{Makes, IsEnabled}
use Rattle.caller_facts.specs.epoch_slots.specs.Collects.{IsTidy}
use Rattle.caller_facts.specs.epoch_slots.specs.Entries.{KeepsOwn, HasLeave, Exits}
use Rattle.caller_facts.specs.epoch_slots.proofs.Outside.{guards_made, own_kept_on}
use Rattle.caller_facts.specs.try_lock.proofs.Guarding.{may_let_go, guard_at, guard_named, guard_keeps}
use Rattle.attempts.specs.Course.{IsEmptyHanded, HasGone}
use Rattle.attempts.specs.Rests.{MayLetGo}

module _ {T : Type 0} (m : Meaning) where
  pub may_go : (r : RunnerState T) → MayLetGo r → IsEnabled m (kinds.Guard None) r
  may_go r may = may_let_go m r may.epoch may.at

  module _ (found : ℕ) (r u : RunnerState T) (made : Makes m (kinds.Guard None) found r u) where
    pub gone_leave : MayLetGo r → HasLeave u
    gone_leave may = record {
      epoch = may.epoch;
      at = guard_at m None found r u made may.epoch may.at;
      unguarded = guard_named m None found r u made may.at.resting;
    }

    -- what is in the hand and half looked at stays, and so does it that no sweep is in progress
    pub gone_hand : MayLetGo r → IsEmptyHanded r → IsEmptyHanded u
    gone_hand may hand = let kept = guard_keeps m None found r u made may.at.resting in record {
      hand = ap (λ n. n.hand) kept.nodes ∙ hand.hand;
      tests = ap (λ n. n.tests) kept.nodes ∙ hand.tests;
      looked = ap (λ (g : GuardsState). g.looked) (guards_made m (kinds.Guard None) found r u made may.at.resting) ∙ hand.looked;
    }

    pub gone : (new : RunnerState T) → Exits m u new → HasGone m r new
    gone new exits = record { unguarded = u; lets_go = record { found = found; event = made }; exits = exits }

  pub exits_tidy : (old new : RunnerState T) → IsEmptyHanded old → old.part.guards.named ≡ None → Exits m old new → IsTidy new
  exits_tidy old new hand unguarded exits = record {
    at = exits.at;
    hand = ap (λ n. n.hand) exits.keeps.nodes ∙ hand.hand;
    tests = ap (λ n. n.tests) exits.keeps.nodes ∙ hand.tests;
    looked = ap (λ (g : GuardsState). g.looked) exits.guards ∙ hand.looked;
    unguarded = ap (λ (g : GuardsState). g.named) exits.guards ∙ unguarded;
  }

  -- the whole of it
  module _ (r new : RunnerState T) (may : MayLetGo r) (has : HasGone m r new) where
    pub gone_keeps : KeepsOwn r new
    gone_keeps = own_kept_on r has.unguarded new (guard_keeps m None has.lets_go.found r has.unguarded has.lets_go.event may.at.resting) has.exits.keeps

    pub gone_tidy : IsEmptyHanded r → IsTidy new
    gone_tidy hand = exits_tidy has.unguarded new (gone_hand has.lets_go.found r has.unguarded has.lets_go.event may hand)
        (guard_named m None has.lets_go.found r has.unguarded has.lets_go.event may.at.resting) has.exits
