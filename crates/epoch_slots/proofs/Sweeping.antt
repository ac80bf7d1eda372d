-- A sweep, guard word by guard word.
use Rattle.std.proofs.Common.{◌≡◌, ℕ, suc, ◌+◌, ◌*◌, ◌<◌, ◌≤◌, List, [], ◌∷◌, ◌++◌, length, length-append, le_of_eq, Bool, true, false, refl, sym, ap, subst, ◌∙◌, eq-eqb, ne_eqb, arith, None, if◌then◌else◌}
use Rattle.machine_states.specs.map_history.specs.declared.op.Request.{Request}
use Rattle.machine_states.specs.table_words.specs.Limits.{IsWithinLimits}
use Rattle.machine_states.specs.table_words.specs.declared.layout.Layout.{Layout}
use Rattle.machine_states.specs.structure_laws.specs.Laws.{Laws}
use Rattle.machine_states.specs.structure_laws.specs.Meaning.{Meaning}
use Rattle.machine_states.specs.runner_parts.specs.declared.event.EventKind.TheVariants as kinds
use Rattle.machine_states.specs.runner_parts.specs.State.{GuardsState, DescriptorsState, BlocksState, PartState}
use Rattle.machine_states.specs.runner_parts.specs.Lists.{descriptors_swept, blocks_freed, with_looked}
use Rattle.machine_states.specs.runner_steps.specs.Guards.{is_last_guard, load_guard_after}
use Rattle.machine_states.specs.guard_core.specs.State.{most_linked}
use Rattle.machine_states.specs.guard_core.specs.Moves.{is_unnamed}
use Rattle.machine_states.specs.Sight.{Sight, sight, part_or_first, Steps, IsWhole}
use Rattle.machine_states.proofs.Reached.{reached_all}
use Rattle.machine_states.proofs.Sights.{happens_steps}
use Rattle.version_words.specs.machine_invariant.specs.After.{AreAllowed}
use Rattle.version_words.specs.machine_invariant.specs.machine_blocks.specs.machine_guards.specs.Sweeps.{SweepIsExact}
use Rattle.version_words.specs.machine_invariant.specs.machine_blocks.specs.machine_guards.proofs.Safe.{sweep_exact}
use Rattle.reached_histories.specs.Laws.{HasHistory}
use Rattle.reached_histories.proofs.Histories.{reached_have}
use Rattle.version_words.specs.RunnerState.{RunnerState}
use Rattle.version_words.specs.TableState.{TableState, IsOf}
use Rattle.version_words.specs.Events.{IsEnabled, Makes}
use Rattle.version_words.proofs.Stages.{may_load_guard, then_looked}
use Rattle.epoch_slots.specs.Sweeps.{MaySweep, KeepsBeside, Sweeps, HasLooked, HasSwept}
use Rattle.epoch_slots.proofs.Outside.{nodes_made, descriptors_made, blocks_made, guards_made, known_made, finished_made}

-- what one more guard word makes of a part
abbrev swept_or : Bool → List ℕ → PartState → PartState
swept_or last words p = record p {
  descriptors = (if last then descriptors_swept words p.descriptors else p.descriptors);
  guards = with_looked p.guards (if last then [] else words);
}

-- by the last guard word: for each word that names something one descriptor stays in limbo at most, and the own one
-- names nothing
module _ {T : Type 0} (m : Meaning) (laws : Laws m) (r r' : RunnerState T) (count word : ℕ) (made : Makes m (kinds.LoadGuard count) word r r')
    (limits : IsWithinLimits r'.layout) (allowed : AreAllowed r'.requests) (last : length r.part.guards.looked ≡ r'.layout.runners) where
  abbrev l : Layout
  l = r'.layout

  abbrev rs : List Request
  rs = r'.requests

  abbrev s : Sight
  s = sight m l rs made.shown.before

  abbrev s' : Sight
  s' = sight m l rs made.shown.world

  stands : HasHistory m l rs s
  stands = reached_have m laws l rs limits allowed made.shown.before made.shown.was_reached

  complete : IsWhole m l rs made.shown.before
  complete = let all = reached_all m l rs made.shown.before made.shown.was_reached in record { words = le_of_eq (sym all.words); parts = all.parts }

  step : Steps m l rs s s' r'.number (kinds.LoadGuard count)
  step = (happens_steps m l rs made.shown.before made.shown.world (record { runner = r'.number; kind = kinds.LoadGuard count }) complete made.shown.happened).0

  was : s.part r'.number ≡ r.part
  was = ap part_or_first made.shown.was_own

  exact : SweepIsExact l s s' r'.number (s.word (step.ask.0))
  exact = sweep_exact m l rs stands.whole.logs.chain stands.beside.agreement stands.beside.epochs s s' r'.number count stands.whole.slots stands.whole.logs.guards step
      (ap (λ (p : PartState). is_last_guard l p.guards.looked) was ∙ eq-eqb (length r.part.guards.looked) l.runners last)

  few_stay : length r'.part.descriptors.limbo ≤ l.runners
  few_stay =
      let few = exact.few in
      let words = exact.words in
      let here = ap (λ (p : PartState). length p.descriptors.limbo) (ap part_or_first made.shown.own) in
      omega (arith, few, words, here)

  few_blocks_stay : length r'.part.blocks.limbo ≤ most_linked * l.runners
  few_blocks_stay =
      let few = exact.few_blocks in
      let words = exact.words in
      let here = ap (λ (p : PartState). length p.blocks.limbo) (ap part_or_first made.shown.own) in
      omega (arith, few, words, here)

module _ {T : Type 0} (m : Meaning) where
  -- one guard word more at the end
  sweeps_more : (found : List ℕ) (next word : ℕ) (r s r' : RunnerState T) → Sweeps m next found r s → Makes m (kinds.LoadGuard (next + length found)) word s r'
      → Sweeps m next (found ++ word ∷ []) r r'
  sweeps_more [] next word r s r' same made = (r', subst (λ y. Makes m (kinds.LoadGuard next) word y r') same (subst (λ n. Makes m (kinds.LoadGuard n) word s r') (let e : next + 0 ≡ next = omega arith in e) made), refl)
  sweeps_more (x ∷ found) next word r s r' (y, one, rest) made =
      (y, one, sweeps_more found (next + 1) word y s r' rest (subst (λ n. Makes m (kinds.LoadGuard n) word s r') (let e : next + suc (length found) ≡ next + 1 + length found = omega arith in e) made))

  -- nothing was read yet
  pub look_begins : (r : RunnerState T) → MaySweep r → HasLooked m 0 r r
  look_begins r ready = record {
    found = [];
    each = refl;
    sweeps = refl;
    at = ready.at;
    descriptors = refl;
    blocks = refl;
    guards = ap (λ (words : List ℕ). with_looked r.part.guards words) ready.looked;
    keeps = record { number = refl; layout = refl; nodes = refl; known = refl; finished = refl };
  }

  module _ (t : TableState T) (old r : RunnerState T) (own : IsOf t r) (count : ℕ) (so : HasLooked m count old r) where
    as_wide : r.layout.runners ≡ t.layout.runners
    as_wide = ap (λ (l : Layout). l.runners) own.layout

    -- as many words are kept as were read
    looked_is : r.part.guards.looked ≡ so.found
    looked_is = ap (λ (g : GuardsState). g.looked) so.guards

    looked_count : length r.part.guards.looked ≡ count
    looked_count = ap length looked_is ∙ so.each

    pub may_look : count ≤ t.layout.runners → IsEnabled m (kinds.LoadGuard count) r
    may_look few = may_load_guard m r count so.at looked_count (omega (arith, few, as_wide))

    module _ (word : ℕ) (r' : RunnerState T) (made : Makes m (kinds.LoadGuard count) word r r') where
      more : Sweeps m 0 (so.found ++ word ∷ []) old r'
      more = sweeps_more so.found 0 word old r r' so.sweeps (subst (λ n. Makes m (kinds.LoadGuard n) word r r') (let a = so.each in let e : count ≡ 0 + length so.found = omega (arith, a) in e) made)

      one_more : length (so.found ++ word ∷ []) ≡ count + 1
      one_more = length-append so.found (word ∷ []) ∙ (let e = so.each in omega (arith, e))

      still : KeepsBeside old r'
      still = record {
        number = ap (λ (y : RunnerState T). y.number) made.made ∙ so.keeps.number;
        layout = ap (λ (y : RunnerState T). y.layout) made.made ∙ so.keeps.layout;
        nodes = nodes_made m (kinds.LoadGuard count) word r r' made so.at.resting ∙ so.keeps.nodes;
        known = known_made m (kinds.LoadGuard count) word r r' made so.at.resting ∙ so.keeps.known;
        finished = finished_made m (kinds.LoadGuard count) word r r' made so.at.resting ∙ so.keeps.finished;
      }

      -- the part after it, by whether it was the last one
      part_by : (last : Bool) → is_last_guard r.layout r.part.guards.looked ≡ last → load_guard_after r.layout r.part word ≡ swept_or last (so.found ++ word ∷ []) r.part
      part_by last e = (λ i. swept_or (e i) (looked_is i ++ word ∷ []) r.part)

      -- its blocks after it
      abbrev blocks_by : Bool → List ℕ → BlocksState → BlocksState
      blocks_by last words b = if last then blocks_freed (is_unnamed words) b else b

      blocks_are : (last : Bool) → is_last_guard r.layout r.part.guards.looked ≡ last → r'.part.blocks ≡ blocks_by last (so.found ++ word ∷ []) old.part.blocks
      blocks_are last e = blocks_made m (kinds.LoadGuard count) word r r' made so.at.resting
          ∙ (λ i. blocks_by (e i) (looked_is i ++ word ∷ []) (so.blocks i))

      -- before the last one
      pub looked_more : count < t.layout.runners → HasLooked m (count + 1) old r'
      looked_more few =
          let before = ne_eqb (length r.part.guards.looked) r.layout.runners (λ e. omega (arith, e, few, looked_count, as_wide)) in
          let part = part_by false before in
          record {
            found = so.found ++ word ∷ [];
            each = one_more;
            sweeps = more;
            at = then_looked m word r r' None count made so.at;
            descriptors = descriptors_made m (kinds.LoadGuard count) word r r' made so.at.resting ∙ (ap (λ (p : PartState). p.descriptors) part ∙ so.descriptors);
            blocks = blocks_are false before;
            guards = guards_made m (kinds.LoadGuard count) word r r' made so.at.resting ∙ (ap (λ (p : PartState). p.guards) part
                ∙ ap (λ (g : GuardsState). with_looked g (so.found ++ word ∷ [])) so.guards);
            keeps = still;
          }

      -- with it
      pub swept : Laws m → MaySweep old → count ≡ t.layout.runners → HasSwept m old r'
      swept laws ready last =
          let here : length r.part.guards.looked ≡ r.layout.runners = omega (arith, last, looked_count, as_wide) in
          let part = part_by true (eq-eqb (length r.part.guards.looked) r.layout.runners here) in
          let as_own : r'.layout ≡ t.layout = ap (λ (y : RunnerState T). y.layout) made.made ∙ own.layout in
          let guards : r'.part.guards ≡ with_looked old.part.guards [] = guards_made m (kinds.LoadGuard count) word r r' made so.at.resting ∙ (ap (λ (p : PartState). p.guards) part
          ∙ ap (λ (g : GuardsState). with_looked g []) so.guards) in
          record {
            found = so.found ++ word ∷ [];
            each = one_more ∙ (let wide = ap (λ (l : Layout). l.runners) so.keeps.layout in omega (arith, last, as_wide, wide));
            sweeps = more;
            descriptors = descriptors_made m (kinds.LoadGuard count) word r r' made so.at.resting ∙ (ap (λ (p : PartState). p.descriptors) part
                ∙ ap (λ (d : DescriptorsState). descriptors_swept (so.found ++ word ∷ []) d) so.descriptors);
            blocks = blocks_are true (eq-eqb (length r.part.guards.looked) r.layout.runners here);
            few = few_stay m laws r r' count word made (own.limits _ as_own) (own.allowed _ (ap (λ (y : RunnerState T). y.requests) made.made ∙ own.requests))
                (here ∙ ap (λ (l : Layout). l.runners) (own.layout ∙ sym as_own));
            few_blocks = few_blocks_stay m laws r r' count word made (own.limits _ as_own) (own.allowed _ (ap (λ (y : RunnerState T). y.requests) made.made ∙ own.requests))
                (here ∙ ap (λ (l : Layout). l.runners) (own.layout ∙ sym as_own));
            guards = guards ∙ ap (λ (words : List ℕ). with_looked old.part.guards words) (sym ready.looked);
            ready = record { at = then_looked m word r r' None count made so.at; looked = ap (λ (g : GuardsState). g.looked) guards };
            keeps = still;
          }
