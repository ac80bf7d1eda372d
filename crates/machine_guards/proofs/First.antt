-- In the first state guards stand; and they stand by the places of descriptors alone.
use Rattle.std.specs.Prelude.{◌==◌, ◌-◌, ◌&&◌, cond, nat_lt, slice_index, Bool, true, false}
use Rattle.std.proofs.Common.{◌≡◌, ℕ, ◌+◌, ◌*◌, ◌<◌, ◌≤◌, List, [], refl, sym, ap, ◌∙◌, arith, inr, None}
use Rattle.std.proofs.lemmas.Bool.Decides.{nat_tests}
use Rattle.std.proofs.lemmas.Option.{none-some}
use Rattle.machine_states.specs.map_history.specs.declared.op.Request.{Request}
use Rattle.machine_states.specs.table_words.specs.declared.layout.Layout.{Layout}
use Rattle.machine_states.specs.table_words.specs.declared.spot.Spot.TheVariants.{Guard, Cell}
use Rattle.machine_states.specs.table_words.specs.Places.{fits, address, worker_blocks, keeper_blocks, block_count}
use Rattle.machine_states.specs.table_words.proofs.Seen as words
use Rattle.agreement_core.specs.State.{AgreementState}
use Rattle.agreement_core.specs.Schedules as agreement_schedules
use Rattle.machine_states.specs.structure_laws.specs.Meaning.{Meaning}
use Rattle.machine_states.specs.runner_parts.specs.State.{PartState}
use Rattle.machine_states.specs.runner_parts.specs.Tests.{has}
use Rattle.machine_states.specs.runner_steps.specs.Asks.{sizes_for}
use Rattle.machine_states.specs.epoch_core.specs.State.{EpochState}
use Rattle.machine_states.specs.epoch_core.specs.Events.{slot_of}
use Rattle.machine_states.specs.epoch_core.specs.Lists.{times}
use Rattle.machine_states.specs.epoch_core.specs.Schedules as epoch_schedules
use Rattle.machine_states.specs.guard_core.specs.State as guards
use Rattle.machine_states.specs.guard_core.specs.Owners as owners
use Rattle.machine_states.specs.guard_core.specs.Schedules.{first_state, is_free}
use Rattle.machine_states.specs.guard_core.proofs.Keeping as keeping
use Rattle.machine_states.specs.guard_core.proofs.Same.{same_sound}
use Rattle.machine_states.specs.World.{World}
use Rattle.machine_states.specs.First.{IsFirst, first_part, keeper_part, worker_part, falling}
use Rattle.machine_states.specs.Sight.{Sight, sight}
use Rattle.machine_states.proofs.FirstSights.{first_part_of, first_parts}
use Rattle.machine_agreement.specs.machine_epochs.specs.Entries.{counts_of}
use Rattle.machine_agreement.specs.machine_epochs.specs.Firsts.{first_place, owner_of}
use Rattle.machine_agreement.specs.machine_epochs.proofs.FirstJoin.{at_descriptor, each_part}
use Rattle.machine_agreement.specs.machine_epochs.proofs.FirstPlaces.{rows, owned, unowned}
use Rattle.machine_guards.specs.State.{guard_counts, place_of, hand_of, block_owner, block_with, guards_of}
use Rattle.machine_guards.specs.Stands.{block_times, GuardsStand}
use Rattle.machine_guards.proofs.Views.{View, view}
use Rattle.machine_guards.proofs.Steps as steps

-- what guards see of a runner that has done nothing
abbrev nothing : View
nothing = record { entered = false; named = None; sure = false; looked = []; run = None; published = None; limbo = []; won = []; hand = None }

-- each block stands in its owner's free list, and nowhere else
module _ (m : Meaning) (l : Layout) where
  free_blocks : (r : ℕ) → (first_part_of m l r).blocks.free ≡ rows (worker_blocks l) l.runners (keeper_blocks l) 0 r
  free_blocks r = by_test (r == l.runners) (nat_lt r l.runners)
    where
      nought : (n : ℕ) → n ≡ 0 + n
      nought n = omega arith

      by_test : (b b' : Bool) → (cond b (keeper_part m l) (cond b' (worker_part m l r) (first_part [] [] []))).blocks.free
          ≡ cond b (falling (0 + worker_blocks l * l.runners) (keeper_blocks l)) (cond b' (falling (0 + worker_blocks l * r) (worker_blocks l)) [])
      by_test true b' = ap (λ n. falling n (keeper_blocks l)) (nought (worker_blocks l * l.runners))
      by_test false true = ap (λ n. falling n (worker_blocks l)) (nought (worker_blocks l * r))
      by_test false false = refl

  free_alone : (r b : ℕ) → block_times (first_part_of m l r) b ≡ times b (first_part_of m l r).blocks.free
  free_alone r b = each_part m l (λ (p : PartState). block_times p b ≡ times b p.blocks.free) (and_none _) (λ k. and_none _) (and_none _) r
    where
      and_none : (n : ℕ) → n + 0 ≡ n
      and_none n = omega arith

  pub own_blocks : (r b : ℕ) → block_times (first_part_of m l r) b ≡ cond (nat_lt b (block_count l) && block_owner l b == r) 1 0
  own_blocks r b = free_alone r b ∙ (ap (times b) (free_blocks r) ∙ by (nat_lt b (block_count l)) refl)
    where
      below : (i n : ℕ) → nat_lt i n ≡ true → i < n
      below i n is = grind (arith, nat_tests)

      above : (i n : ℕ) → nat_lt i n ≡ false → n ≤ i
      above i n is = grind (arith, nat_tests)

      low : (i n k : ℕ) → i < n + k → i < 0 + n + k
      low i n k h = omega arith

      high : (i n k : ℕ) → n + k ≤ i → 0 + n + k ≤ i
      high i n k h = omega arith

      back : (i : ℕ) → i - 0 ≡ i
      back i = omega arith

      by : (t : Bool) → nat_lt b (block_count l) ≡ t → times b (rows (worker_blocks l) l.runners (keeper_blocks l) 0 r) ≡ cond (t && block_owner l b == r) 1 0
      by true is = owned (worker_blocks l) l.runners (keeper_blocks l) 0 b (omega arith) (low b (worker_blocks l * l.runners) (keeper_blocks l) (below b (block_count l) is)) r
          ∙ ap (λ (i : ℕ). cond (block_owner l i == r) 1 0) (back b)
      by false is = unowned (worker_blocks l) l.runners (keeper_blocks l) 0 b r (inr (high b (worker_blocks l * l.runners) (keeper_blocks l) (above b (block_count l) is)))

module _ (m : Meaning) (l : Layout) (rs : List Request) (w : World) (start : IsFirst m l rs w) where
  abbrev s : Sight
  s = sight m l rs w

  abbrev a : AgreementState
  a = agreement_schedules.first_state (λ p. s.word (Cell p))

  abbrev e : EpochState
  e = epoch_schedules.first_state (first_place m l)

  seen : (r : ℕ) → view (s.part r) ≡ nothing
  seen r = ap view (first_parts m l w.parts start.parts r) ∙ each_part m l (λ (p : PartState). view p ≡ nothing) refl (λ k. refl) refl r

  word : (r : ℕ) → s.word (Guard r) ≡ 0
  word r = by_fit (fits (sizes_for m l rs) (Guard r)) refl
    where
      by_fit : (b : Bool) → fits (sizes_for m l rs) (Guard r) ≡ b → s.word (Guard r) ≡ 0
      by_fit true is = start.words.seen (Guard r) (words.fits_means (sizes_for m l rs) (Guard r) is)
      by_fit false is = ap (λ b. cond b (slice_index w.words (address (sizes_for m l rs) (Guard r))) 0) is

  abbrev place : ℕ → guards.Location
  place d = place_of l d (first_place m l (slot_of (counts_of m l) d))

  at_first : (d : ℕ) → place d ≡ guards.Free (owner_of l.sections l.runners d)
  at_first d = ap (place_of l d) (at_descriptor m l d)

  free_at : (j b : ℕ) → block_with j (s.part j) b ≡ guards.Free j
  free_at j b = ap (λ (p : PartState). block_with j p b) (first_parts m l w.parts start.parts j)
      ∙ each_part m l (λ (p : PartState). block_with j p b ≡ guards.Free j) refl (λ k. refl) refl j

  pub first_stands : GuardsStand m l (λ d. []) a e s
  first_stands = record {
    words = λ r. word r ∙ sym (ap (λ (v : View). guards.word_of v.named) (seen r));
    sound = same_sound (guard_counts l) (first_state place (λ b. guards.Free (block_owner l b))) (guards_of m l (λ d. []) a e s)
        (record {
          entered = λ r. ap (λ (v : View). v.entered) (seen r);
          guard = λ r. ap (λ (v : View). v.named) (seen r);
          sure = λ r. ap (λ (v : View). v.sure) (seen r);
          run = λ r. ap (λ (v : View). v.run) (seen r);
          looked = λ r. ap (λ (v : View). v.looked) (seen r);
          descriptor = λ d. refl;
          block = λ b. free_at (block_owner l b) b;
          linked = λ d. refl;
          over = λ d. refl;
        })
        (keeping.first (guard_counts l) place (λ b. guards.Free (block_owner l b)) (record { descriptors = λ d. ap is_free (at_first d); blocks = λ b. refl }));
    owned = λ d. ap owners.owner_of (at_first d);
    publisher = λ r y is. absurd (let z = sym (ap (λ (v : View). v.published) (seen r)) ∙ is in cc);
    within = λ r d is. absurd (let z = ap (λ (v : View). has v.limbo d) (sym (seen r)) ∙ is in cc);
    blocks = λ r b. ap (λ (p : PartState). block_times p b) (first_parts m l w.parts start.parts r) ∙ own_blocks m l r b;
    hand = λ r b q runs held. absurd (none-some _ (sym (ap (λ (v : View). v.hand) (seen r)) ∙ (ap hand_of runs ∙ held)));
  }

-- nothing else of the other components counts
pub stands_by_places : (m : Meaning) (l : Layout) (chain : ℕ → List ℕ) (a a' : AgreementState) (e e' : EpochState) (s : Sight) → ((d : ℕ) → a'.over d ≡ a.over d)
    → ((d : ℕ) → e'.location (slot_of (counts_of m l) d) ≡ e.location (slot_of (counts_of m l) d)) → GuardsStand m l chain a e s → GuardsStand m l chain a' e' s
stands_by_places m l chain a a' e e' s over stay old = (steps.quiet_all m l chain chain a a' e e' s old s (λ d. refl) (λ i. refl) over stay (λ i. refl) (λ i. refl) (λ i b q. old.hand i b q)).stands
