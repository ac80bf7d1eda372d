-- A runner that collects and sweeps where it has to: where slots lack behind that, it has made a step.
use Rattle.std.specs.Prelude.{◌==◌, ◌||◌, ◌*◌, ◌⊎◌, nat_lt, Bool, true, false}
use Rattle.std.proofs.Common.{◌≡◌, ℕ, ◌<◌, ◌≤◌, length, refl, sym, ap, ◌∙◌, subst, inl, inr, ⊎_elim, arith, true≢false}
use Rattle.std.proofs.lemmas.Bool.Decides.{nat_tests}
use Rattle.section_lines.specs.small_lemmas.proofs.Numbers.{less_tested}
use Rattle.machine_states.specs.table_words.specs.Places.{attempt_blocks}
use Rattle.machine_states.specs.guard_core.specs.State.{most_linked}
use Rattle.machine_states.specs.structure_laws.specs.Meaning.{Meaning}
use Rattle.version_words.specs.RunnerState.{RunnerState}
use Rattle.caller_facts.specs.epoch_slots.specs.declared.reserves.Kind.{Kind}
use Rattle.caller_facts.specs.epoch_slots.specs.declared.reserves.Kind.TheVariants as kinds
use Rattle.caller_facts.specs.try_lock.specs.Reached.{IsReached}
use Rattle.attempts.specs.Attempts.{IsFew}
use Rattle.attempts.specs.Reclaims.{lacks_slots, lacks_descriptor, lacks_blocks, needs_sweep, CollectsWhere, SweepsWhere, Reclaims}
use Rattle.attempts.proofs.Reaching.{collects_reached, swept_reached}
use Rattle.machine_states.specs.runner_parts.specs.declared.event.EventKind.{EventKind}
use Rattle.machine_states.specs.runner_parts.specs.declared.event.EventKind.TheVariants as events
use Rattle.machine_states.specs.runner_parts.specs.State.{DescriptorsState, BlocksState}
use Rattle.version_words.specs.runner_block.specs.Marks.{lost_links}
use Rattle.version_words.specs.Events.{Makes}
use Rattle.caller_facts.specs.epoch_slots.specs.Board.{IsDrawn, lost_among}
use Rattle.caller_facts.specs.epoch_slots.specs.Sweeps.{HasSwept}
use Rattle.caller_facts.specs.epoch_slots.proofs.Boarding.{draws_keep}
use Rattle.caller_facts.proofs.Standing.{made_reached}

module _ {T : Type 0} where
  few_lacks : (r : RunnerState T) → length r.part.nodes.free < 2 → lacks_slots r ≡ true
  few_lacks r few = below (length r.part.nodes.free) few
    where
      below : (k : ℕ) → k < 2 → nat_lt k 2 ≡ true
      below k low = grind (arith, nat_tests)

  pub none_lacks : (r : RunnerState T) → length r.part.descriptors.free ≡ 0 → needs_sweep r ≡ true
  none_lacks r none = ap (λ k. (k == 0) || lacks_blocks r) none

  pub blocks_lack : (r : RunnerState T) → length r.part.blocks.free < attempt_blocks → needs_sweep r ≡ true
  blocks_lack r few = either (lacks_descriptor r) (lacks_blocks r) (less_tested (length r.part.blocks.free) attempt_blocks few)
    where
      either : (a b : Bool) → b ≡ true → (a || b) ≡ true
      either true b e = refl
      either false b e = e

  module _ (m : Meaning) where
    -- where slots lack the last thing that was done was a scan, or a sweep
    swept_reached_so : (old new : RunnerState T) (kind : Kind) (r : Reclaims m old new) → IsFew r.swept kind → IsReached m r.swept
    swept_reached_so old new kind r few = swept (needs_sweep r.third) refl r.sweeps
      where
        scanned : (b : Bool) → lacks_slots r.second ≡ b → CollectsWhere m b r.second r.third → lacks_slots r.third ≡ true → IsReached m r.third
        scanned true e collects lacks = collects_reached m r.second r.third collects
        scanned false e same lacks = absurd (true≢false (sym lacks ∙ (ap lacks_slots same ∙ e)))

        still : (k : Kind) → IsFew r.swept k → r.swept ≡ r.third → needs_sweep r.third ≡ false → IsReached m r.swept
        still kinds.Node few same full = subst (IsReached m) (sym same) (scanned (lacks_slots r.second) refl r.thrice (ap lacks_slots (sym same) ∙ few_lacks r.swept few))
        still kinds.Descriptor few same full = absurd (true≢false (sym (none_lacks r.swept few.1) ∙ (ap needs_sweep same ∙ full)))
        still kinds.Block few same full = absurd (true≢false (sym (blocks_lack r.swept few.2) ∙ (ap needs_sweep same ∙ full)))

        swept : (b : Bool) → needs_sweep r.third ≡ b → SweepsWhere m b r.third r.swept → IsReached m r.swept
        swept true e sweeps = swept_reached m r.third r.swept sweeps
        swept false e same = still kind few same e

    -- nothing was done, or a step was made
    abbrev Goes : RunnerState T → RunnerState T → Type 0
    Goes a b = (b ≡ a) ⊎ IsReached m b

    goes_on : (a b c : RunnerState T) → Goes a b → Goes b c → Goes a c
    goes_on a b c one (inr reached) = inr reached
    goes_on a b c (inl same) (inl same') = inl (same' ∙ same)
    goes_on a b c (inr reached) (inl same') = inr (subst (IsReached m) (sym same') reached)

    goes : (kind : EventKind) (found : ℕ) (a b : RunnerState T) → Makes m kind found a b → Goes a b
    goes kind found a b made = inr (made_reached m kind found a b made)

    drawn_goes : (a b : RunnerState T) → IsDrawn m 2 a b → Goes a b
    drawn_goes a b is = draws_keep m Goes (λ x y same. inl same) goes_on (λ word found x y. goes (events.BoardLoad word) found x y)
        (λ word link found x y. goes (events.BoardTake word link) found x y) (λ word slot found x y. goes (events.BoardGive word slot) found x y)
        2 0 is.drawn.found a b is.drawn.draws

    -- where slots lack the last thing that was done was a scan, a sweep or a step on the board
    pub short_reached : (old new : RunnerState T) (kind : Kind) → IsFew new kind → Reclaims m old new → IsReached m new
    short_reached old new kind few r = ⊎_elim
        (λ same. subst (IsReached m) (sym same) (swept_reached_so old new kind r (subst (λ (y : RunnerState T). IsFew y kind) same few)))
        (λ reached. reached)
        (drawn_goes r.swept new r.draws)

    -- where a descriptor lacks, or blocks do, it was a sweep
    pub swept_so : (old new : RunnerState T) (r : Reclaims m old new) → needs_sweep r.swept ≡ true → HasSwept m r.third r.swept
    swept_so old new r lacks = by (needs_sweep r.third) refl r.sweeps
      where
        by : (b : Bool) → needs_sweep r.third ≡ b → SweepsWhere m b r.third r.swept → HasSwept m r.third r.swept
        by true e sweeps = sweeps
        by false e same = absurd (true≢false (sym lacks ∙ (ap needs_sweep same ∙ e)))

    -- which left no more descriptors in limbo than there are runners
    pub short_named : (old new : RunnerState T) → length new.part.descriptors.free ≡ 0 → Reclaims m old new
        → length new.part.descriptors.limbo ≤ new.layout.runners
    short_named old new none r =
        let keeps = r.draws.drawn.keeps in
        let few = (swept_so old new r (none_lacks r.swept none_then)).few in
        let limbo = ap (λ (d : DescriptorsState). length d.limbo) keeps.descriptors in
        let runners : new.layout.runners ≡ r.swept.layout.runners = ap (λ l. l.runners) keeps.layout in
        omega (arith, few, limbo, runners)
      where
        none_then : length r.swept.part.descriptors.free ≡ 0
        none_then = ap (λ (d : DescriptorsState). length d.free) (sym r.draws.drawn.keeps.descriptors) ∙ none

    -- and no more blocks than the logs of as many have at most
    pub short_kept : (old new : RunnerState T) → length new.part.blocks.free < attempt_blocks → Reclaims m old new
        → length new.part.blocks.limbo ≤ most_linked * new.layout.runners
    short_kept old new less r =
        let keeps = r.draws.drawn.keeps in
        let few = (swept_so old new r (blocks_lack r.swept less_then)).few_blocks in
        let limbo = ap (λ (b : BlocksState). length b.limbo) keeps.blocks in
        let runners : new.layout.runners ≡ r.swept.layout.runners = ap (λ l. l.runners) keeps.layout in
        omega (arith, few, limbo, runners)
      where
        less_then : length r.swept.part.blocks.free < attempt_blocks
        less_then = subst (λ (b : BlocksState). length b.free < attempt_blocks) r.draws.drawn.keeps.blocks less

    -- where node slots lack the walk for some went over the whole board, and what it lost is told
    pub short_lost : (old new : RunnerState T) (r : Reclaims m old new) → length new.part.nodes.free < 2 → lost_links new.part.board ≡ lost_among r.draws.drawn.found
    short_lost old new r few = ⊎_elim
        (λ enough. absurd (omega (arith, few, enough)))
        r.draws.lost
        r.draws.enough
