-- In every state that the machine reaches, a runner's lists of node slots have no more entries than there are node slots, and each slot stands
-- at most once in its free lists.
use Rattle.std.proofs.Common.{◌≡◌, ℕ, zero, suc, ◌+◌, ◌<◌, ◌≤◌, List, [], ◌∷◌, length, get_or, Bool, true, false, refl, sym, ap, subst, ⊎_elim, arith, Some, slice_get}
use Rattle.std.specs.Prelude.{◌||◌, ◌==◌, ◌&&◌, nat_lt, All, cond}
use Rattle.std.proofs.lemmas.Bool.{cases_lt}
use Rattle.machine_states.specs.epoch_core.specs.small_lemmas.proofs.Numbers.{one_at_most}
use Rattle.machine_states.specs.map_history.specs.declared.op.Request.{Request}
use Rattle.machine_states.specs.map_history.specs.Requests.{AreInOrder}
use Rattle.machine_states.specs.table_words.specs.declared.layout.Layout.{Layout}
use Rattle.machine_states.specs.table_words.specs.Limits.{IsWithinLimits}
use Rattle.machine_states.specs.table_words.specs.declared.spot.Spot.{Spot}
use Rattle.machine_states.specs.table_words.specs.declared.access.Access.{Access}
use Rattle.machine_states.specs.table_words.specs.Places.{slot_count, descriptor_count, block_count}
use Rattle.machine_states.specs.structure_laws.specs.Meaning.{Meaning}
use Rattle.machine_states.specs.structure_laws.specs.Laws.{Laws}
use Rattle.machine_states.specs.runner_parts.specs.declared.entries.Retired.{Retired}
use Rattle.machine_states.specs.runner_parts.specs.declared.event.EventKind.{EventKind}
use Rattle.machine_states.specs.runner_parts.specs.State.{PartState}
use Rattle.machine_states.specs.runner_parts.specs.Tests.{has}
use Rattle.machine_states.specs.runner_parts.specs.Lists.{slots_of, entry_count}
use Rattle.machine_states.specs.epoch_core.specs.Lists.{times}
use Rattle.machine_states.specs.World.{World, seat_of}
use Rattle.machine_states.specs.Reached.{Reached}
use Rattle.machine_states.specs.Sight.{sight, part_or_first}
use Rattle.machine_invariant.specs.machine_blocks.specs.machine_guards.specs.machine_agreement.specs.machine_epochs.specs.Descriptors.{times_limbo, times_with}
use Rattle.machine_invariant.specs.machine_blocks.specs.machine_guards.specs.machine_agreement.specs.machine_epochs.specs.Firsts.{owner_of}
use Rattle.machine_invariant.specs.machine_blocks.specs.machine_guards.specs.machine_agreement.specs.machine_epochs.proofs.Places.{has_times}
use Rattle.machine_invariant.specs.machine_blocks.specs.machine_guards.specs.machine_agreement.specs.machine_epochs.proofs.Reached.{descriptors_after}
use Rattle.machine_invariant.specs.machine_blocks.specs.machine_guards.specs.Stands.{block_times}
use Rattle.machine_invariant.specs.machine_blocks.specs.machine_guards.specs.State.{block_owner}
use Rattle.machine_invariant.specs.Slots.{times_among}
use Rattle.machine_invariant.specs.After.{AreAllowed}
use Rattle.machine_invariant.proofs.After.{whole_after, short_after}
use Rattle.runner_block.specs.Room.{AreFew}
use Rattle.version_words.specs.ReachedWith.{ReachedWith, ReachedBy}
use Rattle.version_words.specs.TableState.{HasSmallValue}

same_item : (xs : List Request) (i : ℕ) (d e : Request) → i < length xs → get_or xs i d ≡ get_or xs i e
same_item [] i d e there = absurd (omega arith)
same_item (x ∷ xs) zero d e there = refl
same_item (x ∷ xs) (suc i) d e there = same_item xs i d e (omega arith)

-- the value of one more request has 32 bits
pub one_more : (requests : List Request) (i : ℕ) → i < length requests → ((k : ℕ) (d : Request) → k < i → HasSmallValue (get_or requests k d).op) → (e : Request) → HasSmallValue (get_or requests i e).op
    → (k : ℕ) (d : Request) → k < i + 1 → HasSmallValue (get_or requests k d).op
one_more requests i there before e here k d early = ⊎_elim
    (λ less. before k d less)
    (λ past. let same : i ≡ k = omega arith in subst (λ (n : ℕ). HasSmallValue (get_or requests n d).op) same (subst (λ (x : Request). HasSmallValue x.op) (same_item requests i e d there) here))
    (cases_lt k i)

counted_by : (b h : Bool) (n : ℕ) → (h ≡ true → 1 ≤ n) → b || h ≡ true → 1 ≤ cond b (1 + n) n
counted_by true h n rest e = omega arith
counted_by false h n rest e = rest e

-- a slot in limbo stands there at least once
in_limbo : (t : ℕ) (xs : List Retired) → has (slots_of xs) t ≡ true → 1 ≤ times_limbo t xs
in_limbo t [] e = absurd (let no : ⊥ = cc in no)
in_limbo t (x ∷ xs) e = counted_by (x.slot == t) (has (slots_of xs) t) (times_limbo t xs) (in_limbo t xs) e

-- the part of a runner in a state that the machine reaches
-- requests in order, whose values have 32 bits, are allowed
pub allowed_in : (requests : List Request) → AreInOrder requests 64 → All (λ (request : Request). HasSmallValue request.op) requests → AreAllowed requests
allowed_in requests order values = record {
  in_order = order;
  each = λ k d low. record { keys = order.keys k d low; value = values k d low };
}

few_reached : (m : Meaning) → Laws m → (l : Layout) (rs : List Request) (w : World) → IsWithinLimits l → AreAllowed rs → Reached m l rs w → (r : ℕ) (p : PartState)
    → slice_get w.parts (seat_of l r) ≡ Some p → AreFew (slot_count l m.fixed_slots) p.nodes
few_reached m laws l rs w limits requests reached r p there =
    let here : (sight m l rs w).part r ≡ p = ap part_or_first there in
    let stand = (whole_after m laws l rs reached.events w limits requests reached.after).sound.slots.in_nodes in
    record {
      few = subst (λ (y : PartState). entry_count y.nodes ≤ slot_count l m.fixed_slots) here ((short_after m laws l rs reached.events w limits requests reached.after).all r);
      limbo = record { below = λ t e. stand.within r t (subst (λ (y : PartState). 1 ≤ times_among y.nodes t) (sym here) (let once = in_limbo t p.nodes.limbo e in omega (arith, once))) };
    }

-- and the part that a runner has in a state that it has seen
pub few_seen : (m : Meaning) → Laws m → (l : Layout) (rs : List Request) (r : ℕ) (p : PartState) (spot : Spot) (number : ℕ) → IsWithinLimits l → AreAllowed rs → ReachedWith m l rs r p spot number
    → AreFew (slot_count l m.fixed_slots) p.nodes
few_seen m laws l rs r p spot number limits requests seen = few_reached m laws l rs seen.world limits requests seen.reached r p seen.own

-- the slots in its free list are the table's
pub node_low : (m : Meaning) → Laws m → (l : Layout) (rs : List Request) (r : ℕ) (p : PartState) (spot : Spot) (number : ℕ) → IsWithinLimits l → AreAllowed rs → ReachedWith m l rs r p spot number
    → (t : ℕ) → has p.nodes.free t ≡ true → t < slot_count l m.fixed_slots
node_low m laws l rs r p spot number limits requests seen t free =
    let here : (sight m l rs seen.world).part r ≡ p = ap part_or_first seen.own in
    let stand = (whole_after m laws l rs seen.reached.events seen.world limits requests seen.reached.after).sound.slots.in_nodes in
    stand.within r t (subst (λ (y : PartState). 1 ≤ times_among y.nodes t) (sym here) (let once = has_times p.nodes.free t free in omega (arith, once)))

-- before a step each node slot stands at most once in the runner's free list, and so does each descriptor
module _ (m : Meaning) (l : Layout) (rs : List Request) (r : ℕ) (kind : EventKind) (old new : PartState) (met : Spot × Access) (found : ℕ) (shown : ReachedBy m l rs r kind old new met found) where
  here : (sight m l rs shown.before).part r ≡ old
  here = ap part_or_first shown.was_own

  pub node_once : Laws m → IsWithinLimits l → AreAllowed rs → (t : ℕ) → times t old.nodes.free ≤ 1
  node_once laws limits requests t =
      let stand = (whole_after m laws l rs shown.was_reached.events shown.before limits requests shown.was_reached.after).sound.slots.in_nodes in
      let once = subst (λ (y : PartState). times_among y.nodes t ≤ 1) here (stand.once r t) in omega (arith, once)

  pub descriptor_once : (d : ℕ) → d < descriptor_count l → times d old.descriptors.free ≤ 1
  descriptor_once d few =
      let stand = descriptors_after m l rs shown.was_reached.events shown.before shown.was_reached.after in
      let once = subst (λ (y : PartState). times_with y d ≡ cond (owner_of l.sections l.runners d == r) 1 0) here (stand.once r d few) in
      let most = one_at_most (owner_of l.sections l.runners d == r) in omega (arith, once, most)

  -- and each block
  pub block_once : Laws m → IsWithinLimits l → AreAllowed rs → (b : ℕ) → times b old.blocks.free ≤ 1
  block_once laws limits requests b =
      let stand = (whole_after m laws l rs shown.was_reached.events shown.before limits requests shown.was_reached.after).sound.logs.guards in
      let once = subst (λ (y : PartState). block_times y b ≡ cond (nat_lt b (block_count l) && block_owner l b == r) 1 0) here (stand.blocks r b) in
      let most = one_at_most (nat_lt b (block_count l) && block_owner l b == r) in omega (arith, once, most)
