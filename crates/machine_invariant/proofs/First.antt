-- The first state meets the whole invariant.
use Rattle.std.specs.Prelude.{◌+◌, ◌*◌, ◌-◌, Bool, true, false, nat_lt, cond, slice_index}
use Rattle.std.proofs.Common.{◌≡◌, ◌≢◌, ℕ, ◌<◌, ◌≤◌, List, [], sym, refl, ap, ◌∙◌, subst, arith}
use Rattle.std.proofs.lemmas.Bool.Decides.{nat_tests}
use Rattle.machine_states.specs.map_history.specs.declared.op.Request.{Request}
use Rattle.machine_states.specs.map_history.specs.declared.op.Op.TheVariants.{Get}
use Rattle.machine_states.specs.body_terms.specs.Word.{pack}
use Rattle.machine_states.specs.table_words.specs.declared.layout.Layout.{Layout}
use Rattle.machine_states.specs.table_words.specs.declared.spot.Spot.TheVariants.{Cell}
use Rattle.machine_states.specs.table_words.specs.Limits.{IsWithinLimits}
use Rattle.machine_states.specs.table_words.specs.Places.{slot_count, address, fits}
use Rattle.machine_states.specs.table_words.specs.Seen.{blank}
use Rattle.machine_states.specs.table_words.proofs.Seen as words
use Rattle.machine_states.specs.structure_laws.specs.Meaning.{Meaning}
use Rattle.machine_states.specs.structure_laws.specs.Cells.{first_word}
use Rattle.machine_states.specs.structure_laws.specs.Laws.{Laws}
use Rattle.machine_states.specs.runner_parts.specs.State.{PartState}
use Rattle.machine_states.specs.runner_steps.specs.Asks.{sizes_for}
use Rattle.agreement_core.specs.Schedules as agreement_schedules
use Rattle.machine_states.specs.epoch_core.specs.declared.location.Location.TheVariants.{Fixed, Free}
use Rattle.machine_states.specs.epoch_core.specs.State.{Counts}
use Rattle.machine_states.specs.epoch_core.specs.Schedules as epoch_schedules
use Rattle.machine_states.specs.epoch_core.specs.History.{is_out}
use Rattle.machine_states.specs.World.{World}
use Rattle.machine_states.specs.First.{IsFirst}
use Rattle.machine_states.specs.Sight.{Sight, sight}
use Rattle.machine_states.proofs.FirstSights.{first_parts}
use Rattle.machine_blocks.specs.machine_guards.specs.machine_agreement.specs.machine_epochs.specs.Entries.{counts_of}
use Rattle.machine_blocks.specs.machine_guards.specs.machine_agreement.specs.machine_epochs.specs.Firsts.{owner_of, first_place}
use Rattle.machine_blocks.specs.machine_guards.specs.machine_agreement.specs.machine_epochs.proofs.FirstJoin as joins
use Rattle.machine_blocks.specs.machine_guards.specs.machine_agreement.specs.machine_scenes.specs.Shown.{Publications, States}
use Rattle.machine_blocks.specs.machine_guards.specs.machine_agreement.specs.machine_scenes.specs.Schedules as scenes
use Rattle.machine_blocks.specs.machine_guards.specs.machine_agreement.specs.machine_scenes.specs.Kept.{IsKept}
use Rattle.machine_blocks.specs.machine_guards.specs.machine_agreement.specs.machine_scenes.proofs.First.{first_kept}
use Rattle.machine_blocks.specs.machine_guards.specs.machine_agreement.proofs.FirstJoined as sections
use Rattle.machine_slots.specs.Hands.{LocksAreHeld, SlotsAreFilled}
use Rattle.machine_slots.proofs.Stores.{first_held, first_filled}
use Rattle.machine_invariant.specs.Whole.{Beside, states_of, made_of, IsWhole}
use Rattle.machine_invariant.proofs.Basics.{not_both}
use Rattle.machine_blocks.proofs.Holding.{first_hold}

-- nothing is published at first
abbrev pub no_publications : List Request → Publications
no_publications rs = record {
  requests = rs;
  runner = λ d. 0;
  op = λ d. Get 0;
  thunk = λ d. record { form = 0; request = 0; lock = 0; word = 0; operands = [] };
  readings = λ d. [];
}

module _ (m : Meaning) (laws : Laws m) (l : Layout) (limits : IsWithinLimits l) (rs : List Request) (w : World)
    (start : IsFirst m l rs w) where
  abbrev s : Sight
  s = sight m l rs w

  abbrev c : Counts
  c = counts_of m l

  -- the components' first states
  abbrev pub first_beside : Beside
  first_beside = record {
    agreement = agreement_schedules.first_state (λ p. s.word (Cell p));
    epochs = epoch_schedules.first_state (first_place m l);
    publications = no_publications rs;
  }

  first_cell : (p : ℕ) → s.word (Cell p) ≡ first_word m p
  first_cell p = by (fits (sizes_for m l rs) (Cell p)) refl
    where
      inside : (p n v : ℕ) → p < n → cond (nat_lt p n) v 0 ≡ v
      inside p n v low = grind (arith, nat_tests)

      not_fixed : (p cells fixed : ℕ) → nat_lt p cells ≡ false → fixed ≤ cells → nat_lt p fixed ≡ false
      not_fixed p cells fixed out few = grind (arith, nat_tests)

      by : (b : Bool) → fits (sizes_for m l rs) (Cell p) ≡ b → s.word (Cell p) ≡ first_word m p
      by true e = let there = words.fits_means (sizes_for m l rs) (Cell p) e in
          start.words.seen (Cell p) there ∙ inside p (sizes_for m l rs).cells (first_word m p) there
      by false e = ap (λ b. cond b (slice_index w.words (address (sizes_for m l rs) (Cell p))) (blank (Cell p))) e
          ∙ sym (ap (λ b. pack (cond b (m.first_value p) 0) 1)
          (not_fixed p (sizes_for m l rs).cells (m.fixed_cells + 5 * m.fixed_slots) e (omega arith)))

  first_walk : (r : ℕ) → (s.part r).reads.walk ≡ []
  first_walk r = subst (λ (p : PartState). p.reads.walk ≡ []) (sym (first_parts m l w.parts start.parts r))
      (joins.each_part m l (λ p. p.reads.walk ≡ []) refl (λ k. refl) refl r)

  -- the states beside it are the first ones of machine_scenes
  pub same_states : scenes.first_states m (first_place m l) (no_publications rs) ≡ states_of first_beside s
  same_states = λ i. record {
    agreement = agreement_schedules.first_state (λ p. sym (first_cell p) i);
    epochs = epoch_schedules.first_state (first_place m l);
    publications = no_publications rs;
    walk = λ r. sym (first_walk r) i;
  }

  unfixed : (t : ℕ) → m.fixed_slots ≤ t → first_place m l t ≢ Fixed
  unfixed t le = by (nat_lt t m.fixed_slots) refl
    where
      below : (a b : ℕ) → nat_lt a b ≡ true → b ≤ a → ⊥
      below a b e le = grind (arith, nat_tests)

      free_not : (b : Bool) (r r' : ℕ) → cond b (Free r) (Free r') ≢ Fixed
      free_not true r r' e = cc
      free_not false r r' e = cc

      by : (b : Bool) → nat_lt t m.fixed_slots ≡ b → cond b Fixed
          (cond (nat_lt t (slot_count l m.fixed_slots)) (Free (owner_of l.nodes l.runners (t - m.fixed_slots)))
          (Free (owner_of l.sections l.runners (t - slot_count l m.fixed_slots)))) ≢ Fixed
      by true e is = below t m.fixed_slots e le
      by false e is = free_not (nat_lt t (slot_count l m.fixed_slots)) _ _ is

  pub first_scene : scenes.IsFirst m c (first_place m l)
  first_scene = record { epochs = joins.first_is m l; fixed = λ t low. joins.at_fixed m l t low; unfixed = unfixed }

  pub first_whole : IsWhole m l first_beside s
  first_whole = record {
    sections = sections.first_joined m l rs w start laws.first limits;
    slots = joins.first_joined m l rs w start;
    tied = record {
      used = λ d. sym (ap is_out (joins.at_descriptor m l d));
      live = λ d live. not_both live refl;
      is_live = λ d is. absurd (let free = sym (joins.at_descriptor m l d) ∙ is in cc);
      within = λ d used. not_both used refl;
      publisher = λ d live. not_both live refl;
      thunk = λ d used. not_both used refl;
      op = λ d used. not_both used refl;
    };
    kept = subst (IsKept m l c) same_states (first_kept m laws l limits c refl (first_place m l) first_scene (no_publications rs));
    held = subst (LocksAreHeld m c) same_states (first_held m c (first_place m l) (no_publications rs));
    filled = subst (λ (j : States). SlotsAreFilled m c j (made_of s)) same_states
        (first_filled m c (first_place m l) (no_publications rs) (made_of s));
    logs = first_hold m l rs w start;
  }
