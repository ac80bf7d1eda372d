-- The kinds of step that a runner may make in a state.
use Rattle.std.specs.Prelude.{Bool, true, false, ◌≢◌, is_some, slice_get}
use Rattle.std.specs.Int.{bit_at}
use Rattle.std.proofs.Common.{◌≡◌, ℕ, List, sym, refl, ap, ◌∙◌, Some, None, Result, Err, arith}
use Rattle.std.proofs.lemmas.Nat.Bits.{bit_at-zero}
use Rattle.machine_states.specs.epoch_core.specs.small_lemmas.proofs.Lists.{some_not_none}
use Rattle.machine_states.specs.map_history.specs.declared.op.Request.{Request}
use Rattle.machine_states.specs.table_words.specs.declared.layout.Layout.{Layout}
use Rattle.machine_states.specs.structure_laws.specs.Meaning.{Meaning}
use Rattle.machine_states.specs.runner_parts.specs.declared.event.EventKind.{EventKind}
use Rattle.machine_states.specs.runner_parts.specs.State.{PartState}
use Rattle.machine_states.specs.runner_steps.specs.Outside.{Ask}
use Rattle.machine_states.specs.runner_steps.specs.Asks.{asks}
use Rattle.enabled_kinds.specs.May.{May, AreEnabled}
use Rattle.machine_states.specs.World.{World, seat_of, acted, acts, happens}
use Rattle.interleave_core.specs.declared.machine.StepError.{StepError}
use Rattle.interleave_core.specs.declared.machine.StepError.TheVariants.{NotEnabled}
use Rattle.interleave_core.specs.Enabled.{MayHappen, NamesEnabled}

not_false : (b : Bool) → b ≡ false → b ≡ true → ⊥
not_false b fails holds = cc

-- two refusals that are the same name the same kinds
pub named : (a b : ℕ) → ◌≡◌ {A = Result (Unit {0}) StepError} (Err (NotEnabled a)) (Err (NotEnabled b)) → a ≡ b
named a b e = cc

apart : (n : ℕ) → n ≡ 0 → n ≡ 1 → ⊥
apart n nought one = omega (arith, nought, one)

module _ (m : Meaning) (l : Layout) (rs : List Request) (w : World) (r : ℕ) where
  acts_enabled : (k : EventKind) (p : PartState) (a : Ask) → is_some a ≡ true → acted m l rs w r k p a ≢ None
  acts_enabled k p None e none = not_false false refl e
  acts_enabled k p (Some x) e none = some_not_none _ none

  enabled_acts : (k : EventKind) (p : PartState) (a : Ask) → acted m l rs w r k p a ≢ None → is_some a ≡ true
  enabled_acts k p None goes = absurd (goes refl)
  enabled_acts k p (Some x) goes = refl

  -- a runner without a part makes no event
  pub names_none : slice_get w.parts (seat_of l r) ≡ None → NamesEnabled m l rs w r 0
  names_none none k = ((λ set. absurd (apart (bit_at 0 k) (bit_at-zero k) set)), (λ some. absurd (some.enabled (ap (acts m l rs w r some.kind) none))))

  module _ (p : PartState) (here : slice_get w.parts (seat_of l r) ≡ Some p) where
    part_acts : (k : EventKind) → happens m l rs w (record { runner = r; kind = k }) ≡ acted m l rs w r k p (asks m l rs r k p)
    part_acts k = ap (acts m l rs w r k) here

    happens_of : (k : ℕ) → May m l rs r p k → MayHappen m l rs w r k
    happens_of k some = record { kind = some.kind; is_of = some.is_of; given = some.given; enabled = λ none. acts_enabled some.kind p (asks m l rs r some.kind p) some.enabled (sym (part_acts some.kind) ∙ none) }

    may_of : (k : ℕ) → MayHappen m l rs w r k → May m l rs r p k
    may_of k some = record { kind = some.kind; is_of = some.is_of; given = some.given; enabled = enabled_acts some.kind p (asks m l rs r some.kind p) (λ none. some.enabled (part_acts some.kind ∙ none)) }

    -- what is enabled on its part is enabled in the state
    pub names : (bits : ℕ) → AreEnabled m l rs r p bits → NamesEnabled m l rs w r bits
    names bits all k = ((λ set. happens_of k ((all k).0 set)), (λ some. (all k).1 (may_of k some)))
