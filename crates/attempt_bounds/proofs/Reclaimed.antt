-- What a runner has in limbo once it collected and swept where it had to, and how far it took the epoch on.
use Rattle.std.specs.Prelude.{nat_lt, Bool, true, false}
use Rattle.std.proofs.Common.{◌≡◌, ℕ, ◌+◌, ◌^◌, ◌<◌, ◌≤◌, length, refl, sym, ap, ◌∙◌, subst, arith, true≢false}
use Rattle.machine_states.specs.table_words.specs.Places.{attempt_blocks}
use Rattle.machine_states.specs.structure_laws.specs.Meaning.{Meaning}
use Rattle.std.proofs.lemmas.Bool.Decides.{nat_tests}
use Rattle.machine_states.specs.runner_parts.specs.declared.event.EventKind.TheVariants as kinds
use Rattle.machine_states.specs.runner_parts.specs.State.{NodesState, DescriptorsState, BlocksState}
use Rattle.machine_states.specs.runner_steps.specs.After.{own_epoch}
use Rattle.version_words.specs.RunnerState.{RunnerState}
use Rattle.attempts.specs.epoch_slots.specs.Collects.{Collects}
use Rattle.attempts.specs.Reclaims.{lacks_slots, needs_sweep, has_much_in_limbo, CollectsWhere, SparesWhere, SweepsWhere, Reclaims}
use Rattle.attempts.proofs.Refilling.{none_lacks, blocks_lack, swept_so}
use Rattle.attempt_bounds.proofs.Recent.{recent}
use Rattle.attempts.specs.epoch_slots.specs.Board.{IsDrawn}
use Rattle.attempts.specs.epoch_slots.proofs.Boarding.{draws_keep, spares_keep}
use Rattle.attempt_bounds.proofs.Along.{Onward, stay, then_on, made_on}
use Rattle.attempt_bounds.proofs.Scanned.{old_uncrossed, epoch_is, epoch_then, nodes_left, no_nodes}
use Rattle.attempt_bounds.proofs.Swept.{swept_on, no_descriptors, no_blocks}

still_lacking : (before behind : ℕ) → before ≤ behind → nat_lt behind 2 ≡ true → nat_lt before 2 ≡ true
still_lacking before behind more lacks = grind (arith, nat_tests)

module _ {T : Type 0} where
  abbrev pub own : RunnerState T → ℕ
  own r = own_epoch r.part.records.epoch_seen

  abbrev IsUncrossed : RunnerState T → Type 0
  IsUncrossed r = r.part.records.crossed ≡ false

  module _ (m : Meaning) where
    where_was : (due : Bool) (old new : RunnerState T) → CollectsWhere m due old new → IsUncrossed new → IsUncrossed old
    where_was true old new collects uncrossed = old_uncrossed m old new collects uncrossed
    where_was false old new same uncrossed = ap (λ (r : RunnerState T). r.part.records.crossed) (sym same) ∙ uncrossed

    where_most : (due : Bool) (old new : RunnerState T) → CollectsWhere m due old new → IsUncrossed new → own old < 2 ^ 62
        → own new ≤ own old + 1
    where_most true old new collects uncrossed early =
        let then = epoch_then m old new collects uncrossed early in
        let was = epoch_is m old new collects uncrossed in omega (arith, then, was)
    where_most false old new same uncrossed early = let e = ap own same in omega (arith, e)

    -- where a scan was due it was made
    is_made : (due : Bool) (old new : RunnerState T) → due ≡ true → CollectsWhere m due old new → Collects m old new
    is_made due old new e collects = subst (λ b. CollectsWhere m b old new) e collects

    -- what slots lack still was lacking before the scan, or without one
    lacked : (due : Bool) (old new : RunnerState T) → lacks_slots old ≡ due → CollectsWhere m due old new → lacks_slots new ≡ true → due ≡ true
    lacked true old new is collects lacks = refl
    lacked false old new is same lacks = absurd (true≢false (sym lacks ∙ (ap lacks_slots same ∙ is)))

    -- a sweep is no step on the epoch
    sweep_on : (due : Bool) (old new : RunnerState T) → SweepsWhere m due old new → Onward old new
    sweep_on true old new swept = swept_on m old new swept
    sweep_on false old new same = stay old new same

    -- nor is one on the board
    spares_on : (due : Bool) (old new : RunnerState T) → SparesWhere m due old new → Onward old new
    spares_on false old new same = stay old new same
    spares_on true old new is = spares_keep m Onward stay then_on (λ word found a b made. made_on m (kinds.BoardLoad word) found a b refl made)
        (λ word link found a b made. made_on m (kinds.BoardTake word link) found a b refl made) (λ word slot found a b made. made_on m (kinds.BoardGive word slot) found a b refl made)
        0 is.spared.found old new is.spared.spares

    draws_on : (old new : RunnerState T) → IsDrawn m 2 old new → Onward old new
    draws_on old new is = draws_keep m Onward stay then_on (λ word found a b made. made_on m (kinds.BoardLoad word) found a b refl made)
        (λ word link found a b made. made_on m (kinds.BoardTake word link) found a b refl made) (λ word slot found a b made. made_on m (kinds.BoardGive word slot) found a b refl made)
        2 0 is.drawn.found old new is.drawn.draws

    module _ (old new : RunnerState T) (r : Reclaims m old new) (uncrossed : IsUncrossed new) where
      drawn : IsUncrossed r.swept × (own new ≡ own r.swept)
      drawn = draws_on r.swept new r.draws uncrossed

      behind : IsUncrossed r.third × (own new ≡ own r.third)
      behind = let swept = sweep_on (needs_sweep r.third) r.third r.swept r.sweeps drawn.0 in (swept.0, drawn.1 ∙ swept.1)

      third_uncrossed : IsUncrossed r.third
      third_uncrossed = behind.0

      second_uncrossed : IsUncrossed r.second
      second_uncrossed = where_was (lacks_slots r.second) r.second r.third r.thrice third_uncrossed

      first_uncrossed : IsUncrossed r.first
      first_uncrossed = where_was (lacks_slots r.first) r.first r.second r.twice second_uncrossed

      spared_uncrossed : IsUncrossed r.spared
      spared_uncrossed = where_was (lacks_slots r.spared) r.spared r.first r.once first_uncrossed

      collected_uncrossed : IsUncrossed r.collected
      collected_uncrossed = (spares_on (has_much_in_limbo old) r.collected r.spared r.spares spared_uncrossed).0

      pub was_uncrossed : IsUncrossed old
      was_uncrossed = where_was (has_much_in_limbo old) old r.collected r.collects collected_uncrossed

      -- where no descriptor is free, none of the own ones is in limbo: the sweep read no guard word that names one
      pub no_descriptors_left : length new.part.descriptors.free ≡ 0 → length new.part.descriptors.limbo ≡ 0
      no_descriptors_left none = ap (λ (d : DescriptorsState). length d.limbo) r.draws.drawn.keeps.descriptors
          ∙ no_descriptors m r.third r.swept (swept_so m old new r (none_lacks r.swept none_then)) drawn.0
        where
          none_then : length r.swept.part.descriptors.free ≡ 0
          none_then = ap (λ (d : DescriptorsState). length d.free) (sym r.draws.drawn.keeps.descriptors) ∙ none

      -- and so it is with the blocks, where too few are free
      pub no_blocks_left : length new.part.blocks.free < attempt_blocks → length new.part.blocks.limbo ≡ 0
      no_blocks_left less = ap (λ (b : BlocksState). length b.limbo) r.draws.drawn.keeps.blocks
          ∙ no_blocks m r.third r.swept (swept_so m old new r (blocks_lack r.swept less_then)) drawn.0
        where
          less_then : length r.swept.part.blocks.free < attempt_blocks
          less_then = subst (λ (b : BlocksState). length b.free < attempt_blocks) r.draws.drawn.keeps.blocks less

      module _ (early : own old + 3 < 2 ^ 62) where
        collected_most : own r.collected ≤ own old + 1
        collected_most = where_most (has_much_in_limbo old) old r.collected r.collects collected_uncrossed (omega (arith, early))

        spared_most : own r.spared ≤ own old + 1
        spared_most = let before = collected_most in let same = (spares_on (has_much_in_limbo old) r.collected r.spared r.spares spared_uncrossed).1 in omega (arith, before, same)

        first_most : own r.first ≤ own old + 2
        first_most =
            let before = spared_most in
            let one = where_most (lacks_slots r.spared) r.spared r.first r.once first_uncrossed (omega (arith, early, before)) in omega (arith, before, one)

        second_most : own r.second ≤ own old + 3
        second_most =
            let before = first_most in
            let one = where_most (lacks_slots r.first) r.first r.second r.twice second_uncrossed (omega (arith, early, before)) in omega (arith, before, one)

        pub epoch_most : own new ≤ own old + 4
        epoch_most =
            let before = second_most in
            let one = where_most (lacks_slots r.second) r.second r.third r.thrice third_uncrossed (omega (arith, early, before)) in
            let same = behind.1 in omega (arith, before, one, same)

        -- where node slots lack still, the last two scans that might be made were made
        module _ (lacks : lacks_slots new ≡ true) where
          same_nodes : r.swept.part.nodes ≡ r.third.part.nodes
          same_nodes = by (needs_sweep r.third) r.sweeps
            where
              by : (due : Bool) → SweepsWhere m due r.third r.swept → r.swept.part.nodes ≡ r.third.part.nodes
              by true swept = swept.keeps.nodes
              by false same = ap (λ (y : RunnerState T). y.part.nodes) same

          third_lacks : lacks_slots r.third ≡ true
          third_lacks = ap (λ (n : NodesState). nat_lt (length n.free) 2) (sym same_nodes)
              ∙ still_lacking (length r.swept.part.nodes.free) (length new.part.nodes.free) r.draws.drawn.more lacks

          second_lacks : lacks_slots r.second ≡ true
          second_lacks = lacked (lacks_slots r.second) r.second r.third refl r.thrice third_lacks

          last : Collects m r.second r.third
          last = is_made (lacks_slots r.second) r.second r.third second_lacks r.thrice

          before_last : Collects m r.first r.second
          before_last = is_made (lacks_slots r.first) r.first r.second (lacked (lacks_slots r.first) r.first r.second refl r.twice second_lacks) r.twice

          first_early : own r.first < 2 ^ 62
          first_early = let most = first_most in omega (arith, early, most)

          second_early : own r.second < 2 ^ 62
          second_early = let most = second_most in omega (arith, early, most)

          then : own r.second ≡ before_last.epoch + 1
          then = epoch_then m r.first r.second before_last second_uncrossed first_early

          -- the first of them brought back what was retired before the epoch that it found, and the second the rest
          pub no_nodes_left : length new.part.nodes.limbo ≡ 0
          no_nodes_left = ap (λ (n : NodesState). length n.limbo) r.draws.drawn.keeps.nodes ∙ (ap (λ (n : NodesState). length n.limbo) same_nodes
              ∙ (nodes_left m r.second r.third last third_uncrossed second_early
              ∙ (ap (λ (n : ℕ). recent n r.second.part.nodes.limbo) then ∙ no_nodes m r.first r.second before_last second_uncrossed first_early)))
