-- Where a block that is in no run isn't linked, and that no two descriptors have one block, as far as anybody is sure of them.
use Rattle.std.specs.Prelude.{◌==◌, ◌&&◌, ◌||◌, nat_lt, not, map, cond, slice_index, true, false}
use Rattle.std.proofs.Common.{◌≡◌, ◌≢◌, ℕ, zero, suc, ◌+◌, ◌<◌, ◌≤◌, List, [], ◌∷◌, length, refl, sym, ap, ◌∙◌, arith, Option, Some}
use Rattle.std.proofs.lemmas.Bool.{and_parts}
use Rattle.std.proofs.lemmas.Bool.Decides.{nat_tests}
use Rattle.block_words.specs.Blocks.{part_spot, link_spot, has_block, is_apart}
use Rattle.block_words.proofs.Parts.{found_block}
use Rattle.machine_states.specs.epoch_core.specs.small_lemmas.proofs.Bools.{not_both, not_true, both_hold}
use Rattle.machine_states.specs.epoch_core.specs.small_lemmas.proofs.Numbers.{self_tested, other_tested}
use Rattle.machine_states.specs.table_words.specs.declared.layout.Layout.{Layout}
use Rattle.machine_states.specs.table_words.specs.Places.{block_count}
use Rattle.machine_states.specs.structure_laws.specs.Meaning.{Meaning}
use Rattle.machine_states.specs.runner_parts.specs.declared.entries.Waiting.{Waiting}
use Rattle.machine_states.specs.runner_parts.specs.Tests.{has, is_some_of}
use Rattle.machine_states.specs.runner_steps.specs.Outside.{is_sure_of}
use Rattle.machine_states.specs.epoch_core.specs.Lists.{times}
use Rattle.machine_states.specs.epoch_core.specs.State.{EpochState}
use Rattle.machine_states.specs.guard_core.specs.State as guards
use Rattle.machine_states.specs.guard_core.specs.State.{GuardState, IsSureOf}
use Rattle.machine_states.specs.guard_core.specs.Update as guard_update
use Rattle.agreement_core.specs.State.{AgreementState}
use Rattle.machine_states.specs.Sight.{Sight}
use Rattle.machine_guards.specs.machine_agreement.specs.machine_epochs.proofs.OutsideAsked.{named_is}
use Rattle.machine_guards.specs.State.{won_of, hand_of, block_owner, block_with, block_of, guards_of}
use Rattle.machine_guards.specs.Stands.{times_held, GuardsStand}
use Rattle.machine_guards.proofs.Blocks.{held_free}

-- the two ways to say that a list has a number
has_both : (xs : List ℕ) (d : ℕ) → has xs d ≡ guard_update.has xs d
has_both [] d = refl
has_both (x ∷ xs) d = ap (λ b. x == d || b) (has_both xs d)

-- a block that stands with a runner, free or in its hand, stands there once, and is the table's
stands_alone : (free limbo won held b most owner r : ℕ) → free + (limbo + (won + held)) ≡ cond (nat_lt b most && owner == r) 1 0 → 1 ≤ free + held
    → (b < most) × (owner ≡ r) × (limbo ≡ 0) × (won ≡ 0)
stands_alone free limbo won held b most owner r e some = grind (arith, nat_tests)

-- one that stands in limbo or among those that its runner's run linked is the table's too
stands_so : (free limbo won held b most owner r : ℕ) → free + (limbo + (won + held)) ≡ cond (nat_lt b most && owner == r) 1 0 → 1 ≤ limbo + won → b < most
stands_so free limbo won held b most owner r e some = grind (arith, nat_tests)

-- where nothing of it stands it is free
unplaced : (r b : ℕ) (won : List ℕ) (xs : List Waiting) → (times b (map (λ x. x.block) xs) ≡ 0 → times b won ≡ 0 → ⊥) → 1 ≤ times b (map (λ x. x.block) xs) + times b won
unplaced r b won xs h = by (times b (map (λ x. x.block) xs)) (times b won) h
  where
    by : (i j : ℕ) → (i ≡ 0 → j ≡ 0 → ⊥) → 1 ≤ i + j
    by zero zero h = absurd (h refl refl)
    by zero (suc j) h = omega arith
    by (suc i) j h = omega arith

module _ (m : Meaning) (l : Layout) (chain : ℕ → List ℕ) (a : AgreementState) (e : EpochState) (s : Sight) (stands : GuardsStand m l chain a e s) where
  abbrev w : GuardState
  w = guards_of m l chain a e s

  -- somebody is sure of this descriptor
  abbrev pub IsHeld : ℕ → Type 0
  IsHeld d = (i : ℕ) × (is_sure_of (s.part i).guards d ≡ true)

  sure_is : (i d : ℕ) → is_sure_of (s.part i).guards d ≡ true → IsSureOf w i d
  sure_is i d is =
      let both = and_parts (s.part i).guards.sure (is_some_of (s.part i).guards.named d) is in
      (named_is (s.part i).guards.named d both.1, both.0)

  pub is_sure : (i d : ℕ) → IsSureOf w i d → is_sure_of (s.part i).guards d ≡ true
  is_sure i d sure = both_hold (s.part i).guards.sure (is_some_of (s.part i).guards.named d) sure.1 (ap (λ (o : Option ℕ). is_some_of o d) sure.0 ∙ self_tested d)

  -- so a block that its guards have free isn't linked in it
  unfree : (d b q : ℕ) → IsHeld d → block_of l s b ≡ guards.Free q → has (chain d) b ≡ false
  unfree d b q held free = not_true (has (chain d) b) (λ is.
      stands.sound.held held.0 d b q (sure_is held.0 d held.1) (sym (has_both (chain d) b) ∙ is) free)

  -- one that is free or in a hand is the table's, and isn't linked there
  module _ (r b : ℕ) (some : 1 ≤ times b (s.part r).blocks.free + times_held (hand_of (s.part r).run) b) where
    alone : (b < block_count l) × (block_owner l b ≡ r) × (times b (map (λ x. x.block) (s.part r).blocks.limbo) ≡ 0) × (times b (won_of (s.part r).run) ≡ 0)
    alone = stands_alone (times b (s.part r).blocks.free) (times b (map (λ x. x.block) (s.part r).blocks.limbo)) (times b (won_of (s.part r).run)) (times_held (hand_of (s.part r).run) b)
        b (block_count l) (block_owner l b) r (stands.blocks r b) some

    pub in_table : b < block_count l
    in_table = alone.0

    free_here : block_of l s b ≡ guards.Free r
    free_here = ap (λ j. block_with j (s.part j) b) alone.1 ∙ held_free r b (won_of (s.part r).run) (s.part r).blocks.limbo alone.2 alone.3

    pub unlinked : (d : ℕ) → IsHeld d → has (chain d) b ≡ false
    unlinked d held = unfree d b r held free_here

  -- a linked block is the table's
  pub linked_in_table : (d b : ℕ) → IsHeld d → has (chain d) b ≡ true → b < block_count l
  linked_in_table d b held is =
      let r = block_owner l b in
      stands_so (times b (s.part r).blocks.free) (times b (map (λ x. x.block) (s.part r).blocks.limbo)) (times b (won_of (s.part r).run)) (times_held (hand_of (s.part r).run) b)
      b (block_count l) (block_owner l b) r (stands.blocks r b)
      (unplaced r b (won_of (s.part r).run) (s.part r).blocks.limbo (λ none none'. not_both is (unfree d b r held (held_free r b (won_of (s.part r).run) (s.part r).blocks.limbo none none'))))

  -- no two of them have one block
  pub one_chain : (d d' b : ℕ) → IsHeld d → IsHeld d' → has (chain d) b ≡ true → has (chain d') b ≡ true → d ≡ d'
  one_chain d d' b held held' is is' = by (block_of l s b) refl
    where
      in_one : guard_update.has (chain d) b ≡ true
      in_one = sym (has_both (chain d) b) ∙ is

      in_other : guard_update.has (chain d') b ≡ true
      in_other = sym (has_both (chain d') b) ∙ is'

      same : (x y : ℕ) → Some x ≡ Some y → x ≡ y
      same x y e = cc

      by : (x : guards.Location) → block_of l s b ≡ x → d ≡ d'
      by (guards.Free q) at = absurd (stands.sound.held held.0 d b q (sure_is held.0 d held.1) in_one at)
      by (guards.Live q) at = same d d'
          (sym (stands.sound.held_live held.0 d b q (sure_is held.0 d held.1) in_one at) ∙ stands.sound.held_live held'.0 d' b q (sure_is held'.0 d' held'.1) in_other at)
      by (guards.Limbo q y) at =
          sym (stands.sound.held_limbo held.0 d b q y (sure_is held.0 d held.1) in_one at) ∙ stands.sound.held_limbo held'.0 d' b q y (sure_is held'.0 d' held'.1) in_other at

  -- so no word of the one's log, and no link of it, is one of the other's
  module _ (d d' : ℕ) (held : IsHeld d) (held' : IsHeld d') (other : d ≢ d') where
    not_linked : (i : ℕ) → i < length (chain d) → has_block (chain d') (slice_index (chain d) i) ≡ false
    not_linked i few = not_true (has_block (chain d') (slice_index (chain d) i)) (λ is.
        other (one_chain d d' (slice_index (chain d) i) held held' (found_block (chain d) i (slice_index (chain d) i) few refl) is))

    pub part_apart : (i j : ℕ) → i ≤ length (chain d) → is_apart d' (chain d') (part_spot d (chain d) i j) ≡ true
    part_apart zero j few = ap not (other_tested d d' other)
    part_apart (suc i) j few = ap not (not_linked i (omega (arith, few)))

    pub link_apart : (i : ℕ) → i ≤ length (chain d) → is_apart d' (chain d') (link_spot d (chain d) i) ≡ true
    link_apart zero few = ap not (other_tested d d' other)
    link_apart (suc i) few = ap not (not_linked i (omega (arith, few)))
