-- What a runner is sure of isn't free, and what a sweep does to its runner's lists.
use Rattle.std.specs.Prelude.{◌*◌, ◌==◌, ◌&&◌, ◌||◌, not, cond, map, Bool, true, false, nat_lt, if◌then◌else◌}
use Rattle.std.specs.List.{filter}
use Rattle.std.proofs.Common.{◌≡◌, ◌≢◌, ℕ, zero, suc, ◌+◌, ◌<◌, ◌≤◌, List, [], ◌∷◌, ◌++◌, length, refl, sym, ap, ◌∙◌, subst, arith, Option, Some, None}
use Rattle.std.proofs.lemmas.Bool.Decides.{nat_tests}
use Rattle.std.proofs.lemmas.Bool.{and_parts}
use Rattle.std.proofs.lemmas.List.{length-map}
use Rattle.machine_states.specs.map_history.specs.declared.op.Request.{Request}
use Rattle.machine_states.specs.epoch_core.specs.small_lemmas.proofs.Bools.{negated}
use Rattle.machine_states.specs.epoch_core.specs.small_lemmas.proofs.Numbers.{tested_equal as same_number, tested_less}
use Rattle.machine_states.specs.table_words.specs.declared.layout.Layout.{Layout}
use Rattle.machine_states.specs.table_words.specs.declared.spot.Spot.{Spot}
use Rattle.machine_states.specs.table_words.specs.declared.spot.Spot.TheVariants.{Guard}
use Rattle.machine_states.specs.table_words.specs.declared.access.Access.{Access}
use Rattle.machine_states.specs.table_words.specs.Places.{descriptor_count, block_count}
use Rattle.agreement_core.specs.State.{AgreementState}
use Rattle.machine_states.specs.structure_laws.specs.Meaning.{Meaning}
use Rattle.machine_states.specs.runner_parts.specs.declared.event.EventKind.TheVariants as kinds
use Rattle.machine_states.specs.runner_parts.specs.declared.entries.Waiting.{Waiting}
use Rattle.machine_states.specs.runner_parts.specs.Lists.{descriptors_swept, blocks_freed}
use Rattle.machine_states.specs.runner_parts.specs.State.{RunState, DescriptorsState, BlocksState, PartState}
use Rattle.machine_states.specs.runner_parts.specs.Tests.{has}
use Rattle.machine_states.specs.runner_steps.specs.After.{after, after_by}
use Rattle.machine_states.specs.runner_steps.specs.Blocks.{blocks_after}
use Rattle.machine_states.specs.runner_steps.specs.Asks.{ask_by, sizes_for}
use Rattle.machine_states.specs.runner_steps.specs.Guards.{is_last_guard}
use Rattle.machine_states.specs.runner_steps.specs.Sections.{is_open_run}
use Rattle.machine_states.specs.runner_steps.specs.Outside.{is_sure_of}
use Rattle.machine_states.specs.epoch_core.specs.declared.location.Location as places
use Rattle.machine_states.specs.epoch_core.specs.declared.location.Location.TheVariants as epoch_places
use Rattle.machine_states.specs.epoch_core.specs.State.{EpochState, is_entered}
use Rattle.machine_states.specs.epoch_core.specs.Events.{slot_of}
use Rattle.machine_states.specs.epoch_core.specs.Lists.{times, in_free, in_any_limbo}
use Rattle.machine_states.specs.guard_core.specs.State as guards
use Rattle.machine_states.specs.guard_core.specs.State.{Counts, GuardState, most_linked}
use Rattle.machine_states.specs.guard_core.specs.Events.{LoadLast, Enabled, with_next}
use Rattle.machine_states.specs.guard_core.specs.Moves.{is_unnamed, swept}
use Rattle.machine_states.specs.guard_core.specs.Sound.{named}
use Rattle.machine_states.specs.guard_core.specs.Sweeps.{is_limbo_of, LeavesEnough}
use Rattle.machine_states.specs.guard_core.specs.Update.{count}
use Rattle.machine_states.specs.guard_core.specs.Update as guard_update
use Rattle.machine_states.specs.guard_core.proofs.Enough.{leaves_enough}
use Rattle.machine_states.specs.guard_core.proofs.Sweeping.{unheld}
use Rattle.machine_states.specs.Sight.{Sight, Steps}
use Rattle.machine_agreement.specs.machine_epochs.specs.Entries.{counts_of}
use Rattle.machine_states.proofs.Sights.{cond_none, unless_gone}
use Rattle.machine_states.proofs.Updates.{upd_here}
use Rattle.machine_agreement.specs.machine_epochs.specs.Joined.{IsJoinedToEpochs}
use Rattle.machine_agreement.specs.machine_epochs.proofs.OutsideAsked as asked
use Rattle.machine_guards.specs.State.{guard_counts, place_of, won_of, block_owner, block_with, guards_of}
use Rattle.machine_guards.specs.Stands.{GuardsStand}
use Rattle.machine_guards.specs.Sweeps.{words_read, SweepIsExact}
use Rattle.machine_guards.proofs.Blocks.{at as lists_at, times_split, limbo_counts, freed_block}
use Rattle.machine_guards.proofs.Lists.{filter_has, append_has, times_has, has_times, times_filter}

-- the two ways to say that a list has a number
has_both : (xs : List ℕ) (d : ℕ) → has xs d ≡ guard_update.has xs d
has_both [] d = refl
has_both (x ∷ xs) d = ap (λ b. x == d || b) (has_both xs d)

-- numbers that stand in a list once, and are all below this one, are at most as many as pass a test that they all pass

fewer : (f : ℕ → Bool) (x n : ℕ) → count (λ i. f i && not (i == x)) n ≤ count f n
fewer f x zero = grind arith
fewer f x (suc n) = let rest = fewer f x n in grind arith

count_out : (f : ℕ → Bool) (x n : ℕ) → f x ≡ true → x < n → suc (count (λ i. f i && not (i == x)) n) ≤ count f n
count_out f x zero so low = absurd (omega arith)
count_out f x (suc n) so low = by (x == n) refl (λ h. count_out f x n so h)
  where
    same : (a b : ℕ) → (a == b) ≡ true → a ≡ b
    same a b e = grind (arith, nat_tests)

    less : (a b : ℕ) → (a == b) ≡ false → a < suc b → a < b
    less a b e h = grind (arith, nat_tests)

    by : (b : Bool) → (x == n) ≡ b → (x < n → suc (count (λ i. f i && not (i == x)) n) ≤ count f n)
        → suc (count (λ i. f i && not (i == x)) (suc n)) ≤ count f (suc n)
    by true e rest = let at = same x n e in let here : f n ≡ true = ap f (sym at) ∙ so in let all = fewer f x n in
        let gone : (n == x) ≡ true = grind (arith, nat_tests) in grind arith
    by false e rest = let more = rest (less x n e low) in
        let kept : (n == x) ≡ false = grind (arith, nat_tests) in grind arith

few_listed : (xs : List ℕ) (f : ℕ → Bool) (n : ℕ) → ((d : ℕ) → times d xs ≤ cond (f d) 1 0) → ((d : ℕ) → has xs d ≡ true → d < n) → length xs ≤ count f n
few_listed [] f n once low = omega arith
few_listed (x ∷ xs) f n once low =
    let here = passes (f x) (times x xs) (subst (λ b. cond b (1 + times x xs) (times x xs) ≤ cond (f x) 1 0) (itself x) (once x)) in
    let rest = few_listed xs (λ i. f i && not (i == x)) n (λ d. others d (once d)) (λ d is. low d (later (x == d) (has xs d) is)) in
    let more = count_out f x n here (low x (first (x == x) (has xs x) (itself x))) in omega arith
  where
    itself : (i : ℕ) → (i == i) ≡ true
    itself i = grind (arith, nat_tests)

    passes : (b : Bool) (n : ℕ) → 1 + n ≤ cond b 1 0 → b ≡ true
    passes true n h = refl
    passes false n h = absurd (omega arith)

    first : (a b : Bool) → a ≡ true → (a || b) ≡ true
    first true b is = refl
    first false b is = absurd (let y = is in cc)

    later : (a b : Bool) → b ≡ true → (a || b) ≡ true
    later true b is = refl
    later false b is = is

    others : (d : ℕ) → cond (x == d) (1 + times d xs) (times d xs) ≤ cond (f d) 1 0 → times d xs ≤ cond (f d && not (d == x)) 1 0
    others d h = by (x == d) (d == x) (f d) (times d xs) (turned x d) h
      where
        turned : (x d : ℕ) → (d == x) ≡ (x == d)
        turned x d = grind (arith, nat_tests)

        by : (b b' c : Bool) (n : ℕ) → b' ≡ b → cond b (1 + n) n ≤ cond c 1 0 → n ≤ cond (c && not b') 1 0
        by b b' c n same h = grind arith

-- where a descriptor is that stands in a limbo
in_limbo_at : (r : ℕ) (x : places.Location) → 1 ≤ in_any_limbo r x → (y : ℕ) × (x ≡ epoch_places.Limbo r y)
in_limbo_at r (epoch_places.Limbo q y) h = (y, ap (λ i. epoch_places.Limbo i y) (same q r h))
  where
    same : (a b : ℕ) → 1 ≤ cond (a == b) 1 0 → a ≡ b
    same a b h = grind (arith, nat_tests)
in_limbo_at r (epoch_places.Free q) h = absurd (omega arith)
in_limbo_at r (epoch_places.Hand q) h = absurd (omega arith)
in_limbo_at r (epoch_places.Worn q) h = absurd (omega arith)
in_limbo_at r (epoch_places.OnBoard i) h = absurd (omega arith)
in_limbo_at r epoch_places.Live h = absurd (omega arith)
in_limbo_at r epoch_places.Fixed h = absurd (omega arith)

one_at_most : (r : ℕ) (x : places.Location) → in_any_limbo r x ≤ 1
one_at_most r (epoch_places.Limbo q y) = by (q == r)
  where
    by : (b : Bool) → cond b 1 0 ≤ 1
    by true = omega arith
    by false = omega arith
one_at_most r (epoch_places.Free q) = omega arith
one_at_most r (epoch_places.Hand q) = omega arith
one_at_most r (epoch_places.Worn q) = omega arith
one_at_most r (epoch_places.OnBoard i) = omega arith
one_at_most r epoch_places.Live = omega arith
one_at_most r epoch_places.Fixed = omega arith

-- what a word names stays in the limbo
stays_there : (l : Layout) (r d : ℕ) (words : List ℕ) (x : places.Location) → is_unnamed words d ≡ false → in_any_limbo r x ≤ cond (is_limbo_of r (swept r words (place_of l d x))) 1 0
stays_there l r d words (epoch_places.Limbo q y) told = by (is_unnamed words d) told
  where
    by : (u : Bool) → u ≡ false → cond (q == r) 1 0 ≤ cond (is_limbo_of r (cond (q == r && u) (guards.Free r) (guards.Limbo q d))) 1 0
    by true e = absurd (let y = e in cc)
    by false e = grind arith
stays_there l r d words (epoch_places.Free q) told = omega arith
stays_there l r d words (epoch_places.Hand q) told = omega arith
stays_there l r d words (epoch_places.Worn q) told = omega arith
stays_there l r d words (epoch_places.OnBoard i) told = omega arith
stays_there l r d words epoch_places.Live told = omega arith
stays_there l r d words epoch_places.Fixed told = omega arith

module _ (m : Meaning) (l : Layout) (rs : List Request) (chain : ℕ → List ℕ) (a : AgreementState) (e : EpochState) (s s' : Sight) (r n : ℕ) (joined : IsJoinedToEpochs m l e s)
    (old : GuardsStand m l chain a e s) (step : Steps m l rs s s' r (kinds.LoadGuard n)) (last : is_last_guard l (s.part r).guards.looked ≡ true) where
  abbrev p : PartState
  p = s.part r

  abbrev w : GuardState
  w = guards_of m l chain a e s

  abbrev c : Counts
  c = guard_counts l

  abbrev words : List ℕ
  words = words_read s r (s.word (step.ask.0))

  -- a run asks for no guard word
  in_no_run : (o : Option RunState) → ask_by m l rs r (kinds.LoadGuard n) p o ≡ Some step.ask → o ≡ None
  in_no_run None is = refl
  in_no_run (Some q) is = cond_none (is_open_run q) step.ask is

  asked_by : ask_by m l rs r (kinds.LoadGuard n) p p.run ≡ Some step.ask
  asked_by = (unless_gone (sizes_for m l rs) p.gone _ step.ask step.asked).1

  none : p.run ≡ None
  none = in_no_run p.run asked_by

  asks_for : asked.LoadGuardAsked l n p step.ask
  asks_for = asked.load_guard_asked l n p step.ask (ap (ask_by m l rs r (kinds.LoadGuard n) p) (sym none) ∙ asked_by)

  -- the words that it has read are the guard words
  read : words ≡ with_next w r
  read = ap (λ (k : ℕ). p.guards.looked ++ k ∷ []) (ap (λ (z : Spot × Access). s.word z.0) (sym asks_for.is) ∙ (ap (λ i. s.word (Guard i)) asks_for.next ∙ old.words (length p.guards.looked)))

  enabled : Enabled c w (LoadLast r)
  enabled = (ap is_entered asks_for.idle, same_number (length p.guards.looked) l.runners last)

  unnamed : (d : ℕ) → is_unnamed words d ≡ true → guard_update.has (with_next w r) (suc d) ≡ false
  unnamed d is = ap (λ (ws : List ℕ). guard_update.has ws (suc d)) (sym read) ∙ negated (guard_update.has words (suc d)) is

  -- a descriptor in the own limbo
  in_limbo : (d : ℕ) → has p.descriptors.limbo d ≡ true → w.descriptor d ≡ guards.Limbo r d
  in_limbo d is =
      let some = subst (λ k. 1 ≤ k) (joined.listed.limbo_descriptors r d (old.within r d is)) (times_has p.descriptors.limbo d is) in
      ap (place_of l d) (in_limbo_at r (e.location (slot_of (counts_of m l) d)) some).1

  pub sweep_safe : (d q : ℕ) → has p.descriptors.limbo d ≡ true → is_unnamed words d ≡ true → is_sure_of (s.part q).guards d ≡ false
  sweep_safe d q is told = by (is_sure_of (s.part q).guards d) refl
    where
      by : (b : Bool) → is_sure_of (s.part q).guards d ≡ b → b ≡ false
      by false e0 = refl
      by true e0 =
          let sure = and_parts (s.part q).guards.sure _ e0 in
          absurd ((unheld c w r enabled old.sound q d (asked.named_is (s.part q).guards.named d sure.1, sure.0)).0 (unnamed d told) (in_limbo d is))

  -- the lists behind it
  lists : (s'.part r).descriptors ≡ descriptors_swept words p.descriptors
  lists = ap (λ (z : Sight). (z.part r).descriptors) step.next
      ∙ (ap (λ (z : PartState). z.descriptors) (upd_here s.part r (after m l r (kinds.LoadGuard n) step.ask.0 step.ask.1 p (s.word (step.ask.0))))
      ∙ (ap (λ o. (after_by m l (kinds.LoadGuard n) p o (s.word (step.ask.0))).descriptors) none
      ∙ ap (λ b. if b then descriptors_swept words p.descriptors else p.descriptors) last))

  once : (d : ℕ) → times d (filter (λ x. not (is_unnamed words x)) p.descriptors.limbo)
      ≤ cond (is_limbo_of r (swept r words (w.descriptor d))) 1 0
  once d = subst (λ k. k ≤ cond (is_limbo_of r (swept r words (w.descriptor d))) 1 0) (sym (times_filter (λ x. not (is_unnamed words x)) p.descriptors.limbo d))
      (by (is_unnamed words d) refl (nat_lt d (descriptor_count l)) refl)
    where
      below : (a b : ℕ) → nat_lt a b ≡ true → a < b
      below a b e0 = grind (arith, nat_tests)

      above : (a b : ℕ) → nat_lt a b ≡ false → a < b → ⊥
      above a b e0 h = grind (arith, nat_tests)

      by : (u : Bool) → is_unnamed words d ≡ u → (b : Bool) → nat_lt d (descriptor_count l) ≡ b
          → cond (not u) (times d p.descriptors.limbo) 0 ≤ cond (is_limbo_of r (swept r words (w.descriptor d))) 1 0
      by true is b e0 = omega arith
      by false is true e0 = subst (λ k. k ≤ cond (is_limbo_of r (swept r words (w.descriptor d))) 1 0)
          (sym (joined.listed.limbo_descriptors r d (below d (descriptor_count l) e0)))
          (stays_there l r d words (e.location (slot_of (counts_of m l) d)) is)
      by false is false e0 = subst (λ k. k ≤ cond (is_limbo_of r (swept r words (w.descriptor d))) 1 0)
          (sym (has_times p.descriptors.limbo d (λ is0. above d (descriptor_count l) e0 (old.within r d is0)))) (omega arith)

  within : (d : ℕ) → has (filter (λ x. not (is_unnamed words x)) p.descriptors.limbo) d ≡ true → d < descriptor_count l
  within d is = old.within r d (and_parts (has p.descriptors.limbo d) _ (sym (filter_has (λ x. not (is_unnamed words x)) p.descriptors.limbo d) ∙ is)).0

  leaves : LeavesEnough c w r
  leaves = leaves_enough c w r old.sound step.runner enabled

  few : length (filter (λ x. not (is_unnamed words x)) p.descriptors.limbo) ≤ named words
  few =
      let listed = few_listed (filter (λ x. not (is_unnamed words x)) p.descriptors.limbo) (λ d. is_limbo_of r (swept r words (w.descriptor d))) (descriptor_count l) once within in
      let kept = subst (λ (ws : List ℕ). count (λ d. is_limbo_of r (swept r ws (w.descriptor d))) (descriptor_count l) ≤ named ws) (sym read) leaves.few_descriptors in
      omega arith

  -- the blocks behind it
  blocks_are : (s'.part r).blocks ≡ blocks_freed (is_unnamed words) p.blocks
  blocks_are = ap (λ (z : Sight). (z.part r).blocks) step.next
      ∙ (ap (λ (z : PartState). z.blocks) (upd_here s.part r (after m l r (kinds.LoadGuard n) step.ask.0 step.ask.1 p (s.word (step.ask.0))))
      ∙ (ap (λ (o : Option RunState). blocks_after m l (kinds.LoadGuard n) p o (s.word (step.ask.0))) none
      ∙ ap (λ b. if b then blocks_freed (is_unnamed words) p.blocks else p.blocks) last))

  -- those that stay in limbo
  abbrev stay : List Waiting
  stay = filter (λ (x : Waiting). not (is_unnamed words x.descriptor)) p.blocks.limbo

  abbrev numbers : List Waiting → List ℕ
  numbers xs = map (λ (x : Waiting). x.block) xs

  fewer_stay : (b : ℕ) → times b (numbers stay) ≤ times b (numbers p.blocks.limbo)
  fewer_stay b = let both = times_split (λ (x : Waiting). not (is_unnamed words x.descriptor)) p.blocks.limbo b in omega (arith, both)

  stay_once : (b : ℕ) → times b (numbers stay) ≤ cond (is_limbo_of r (swept r words (w.block b))) 1 0
  stay_once b = by (nat_lt b (block_count l) && block_owner l b == r) refl
    where
      by : (t : Bool) → (nat_lt b (block_count l) && block_owner l b == r) ≡ t → times b (numbers stay) ≤ cond (is_limbo_of r (swept r words (w.block b))) 1 0
      by false is =
          let all = old.blocks r b ∙ ap (λ k. cond k 1 0) is in
          let fewer = fewer_stay b in
          let nought : times b (numbers stay) ≡ 0 = omega (arith, all, fewer) in
          subst (λ k. k ≤ cond (is_limbo_of r (swept r words (w.block b))) 1 0) (sym nought) (omega arith)
      by true is =
          let all = old.blocks r b ∙ ap (λ k. cond k 1 0) is in
          let fewer = fewer_stay b in
          let own = same_number (block_owner l b) r (and_parts (nat_lt b (block_count l)) _ is).1 in
          let here : w.block b ≡ lists_at r [] p.blocks.limbo b = ap (λ j. block_with j (s.part j) b) own
          ∙ ap (λ (o : Option RunState). lists_at r (won_of o) p.blocks.limbo b) none in
          let goes = freed_block r (is_unnamed words) [] p.blocks.limbo b (omega (arith, all)) in
          subst (λ (x : guards.Location). times b (numbers stay) ≤ cond (is_limbo_of r x) 1 0) (goes ∙ sym (ap (swept r words) here))
          (limbo_counts r stay b (omega (arith, all, fewer)))

  stay_below : (b : ℕ) → has (numbers stay) b ≡ true → b < block_count l
  stay_below b is = by (nat_lt b (block_count l)) refl
    where
      by : (t : Bool) → nat_lt b (block_count l) ≡ t → b < block_count l
      by true low = tested_less b (block_count l) low
      by false high =
          let some = times_has (numbers stay) b is in
          let all = old.blocks r b ∙ ap (λ k. cond (k && block_owner l b == r) 1 0) high in
          let fewer = fewer_stay b in absurd (omega (arith, some, all, fewer))

  few_stay : length stay ≤ most_linked * named words
  few_stay =
      let listed = few_listed (numbers stay) (λ b. is_limbo_of r (swept r words (w.block b))) (block_count l) stay_once stay_below in
      let kept = subst (λ (ws : List ℕ). count (λ b. is_limbo_of r (swept r ws (w.block b))) (block_count l) ≤ most_linked * named ws) (sym read) leaves.few_blocks in
      let long = length-map stay (λ (x : Waiting). x.block) in omega (arith, listed, kept, long)

  pub sweep_exact : SweepIsExact l s s' r (s.word (step.ask.0))
  sweep_exact = record {
    limbo = λ d. ap (λ (ds : DescriptorsState). has ds.limbo d) lists ∙ filter_has (λ x. not (is_unnamed words x)) p.descriptors.limbo d;
    free = λ d. ap (λ (ds : DescriptorsState). has ds.free d) lists ∙ (append_has p.descriptors.free (filter (is_unnamed words) p.descriptors.limbo) d
        ∙ ap (λ b. has p.descriptors.free d || b) (filter_has (is_unnamed words) p.descriptors.limbo d));
    few = subst (λ (ds : DescriptorsState). length ds.limbo ≤ named words) (sym lists) few;
    blocks = blocks_are;
    few_blocks = subst (λ (b : BlocksState). length b.limbo ≤ most_linked * named words) (sym blocks_are) few_stay;
    words = subst (λ (ws : List ℕ). named ws ≤ l.runners) (sym read) leaves.words;
    words_of_workers = λ low empty. subst (λ (ws : List ℕ). named ws < l.runners) (sym read) (leaves.words_of_workers low empty);
  }

-- a descriptor of which somebody is sure is in no free list
unfree : (l : Layout) (r d : ℕ) (x : places.Location) → ((q : ℕ) → place_of l d x ≢ guards.Free q) → in_free r x ≡ 0
unfree l r d (epoch_places.Free q) other = absurd (other q refl)
unfree l r d (epoch_places.Limbo q y) other = refl
unfree l r d (epoch_places.Hand q) other = refl
unfree l r d (epoch_places.Worn q) other = refl
unfree l r d (epoch_places.OnBoard i) other = refl
unfree l r d epoch_places.Live other = refl
unfree l r d epoch_places.Fixed other = refl

pub sure_kept : (m : Meaning) (l : Layout) (chain : ℕ → List ℕ) (a : AgreementState) (e : EpochState) (s : Sight) → IsJoinedToEpochs m l e s → GuardsStand m l chain a e s
    → (r r' d : ℕ) → is_sure_of (s.part r).guards d ≡ true → times d (s.part r').descriptors.free ≡ 0
sure_kept m l chain a e s joined old r r' d is =
    let sure = and_parts (s.part r).guards.sure _ is in
    let named = asked.named_is (s.part r).guards.named d sure.1 in
    joined.listed.free_descriptors r' d ((joined.tied r).numbered d named)
    ∙ unfree l r' d (e.location (slot_of (counts_of m l) d)) (λ q at. old.sound.kept r d q (named, sure.0) at)
