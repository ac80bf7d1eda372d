-- The first state is joined.
use Rattle.std.specs.Prelude.{◌==◌, cond, nat_lt, slice_index, Bool, true, false}
use Rattle.std.proofs.Common.{◌≡◌, ℕ, ◌+◌, ◌-◌, ◌*◌, ◌<◌, ◌≤◌, List, [], refl, sym, ap, ◌∙◌, subst, arith, ◌⊎◌, inl, inr, ⊎_elim, None}
use Rattle.std.proofs.lemmas.Bool.Decides.{nat_tests}
use Rattle.std.proofs.lemmas.Option.{none-some}
use mathlib.Core.Path.{fun_ext}
use Rattle.machine_states.specs.map_history.specs.declared.op.Request.{Request}
use Rattle.machine_states.specs.table_words.specs.declared.layout.Layout.{Layout}
use Rattle.machine_states.specs.table_words.specs.declared.spot.Spot.{Spot}
use Rattle.machine_states.specs.table_words.specs.declared.spot.Spot.TheVariants.{Epoch, Board}
use Rattle.machine_states.specs.table_words.specs.Places.{slot_count, descriptor_count, address, fits}
use Rattle.machine_states.specs.table_words.proofs.Seen.{fits_means}
use Rattle.machine_states.specs.structure_laws.specs.Meaning.{Meaning}
use Rattle.machine_states.specs.runner_parts.specs.State.{PartState}
use Rattle.machine_states.specs.runner_steps.specs.Asks.{sizes_for}
use Rattle.machine_states.specs.epoch_core.specs.declared.stage.Stage.TheVariants as points
use Rattle.machine_states.specs.epoch_core.specs.declared.location.Location.{Location}
use Rattle.machine_states.specs.epoch_core.specs.declared.location.Location.TheVariants.{Fixed, Free}
use Rattle.machine_states.specs.epoch_core.specs.State.{EpochState}
use Rattle.machine_states.specs.epoch_core.specs.Events.{slot_of}
use Rattle.machine_states.specs.epoch_core.specs.Sound.{is_for_nodes}
use Rattle.machine_states.specs.epoch_core.specs.History.{is_out}
use Rattle.machine_states.specs.epoch_core.specs.Lists.{times, times_retired, in_hand, in_free, in_worn, in_limbo, in_any_limbo, IsListed}
use Rattle.machine_states.specs.epoch_core.specs.Schedules.{IsFirst, first_state, is_unused}
use Rattle.machine_states.specs.epoch_core.proofs.Keeping.{first}
use Rattle.machine_states.specs.World.{World}
use Rattle.machine_states.specs.First as states
use Rattle.machine_states.specs.First.{first_part, keeper_part, worker_part, falling}
use Rattle.machine_states.specs.Sight.{Sight, sight}
use Rattle.machine_states.proofs.FirstSights.{first_part_of, first_parts, unannounced}
use Rattle.machine_epochs.specs.Entries.{counts_of}
use Rattle.machine_epochs.specs.Slots.{lists_of}
use Rattle.machine_epochs.specs.Firsts.{owner_of, first_place}
use Rattle.machine_epochs.specs.Joined.{IsTied, IsJoinedToEpochs}
use Rattle.machine_epochs.proofs.Boards.{board_of}
use Rattle.machine_epochs.proofs.FirstPlaces.{rows, owned, unowned}

-- what holds of a fixed slot and of every free one holds of every slot at first
at_first : (m : Meaning) (l : Layout) (Q : Location → Type 0) → Q Fixed → ((r : ℕ) → Q (Free r)) → (t : ℕ) → Q (first_place m l t)
at_first m l Q fixed free t = by_test (nat_lt t m.fixed_slots) (nat_lt t (slot_count l m.fixed_slots))
  where
    by_test : (b b' : Bool) → Q (cond b Fixed (cond b' (Free (owner_of l.nodes l.runners (t - m.fixed_slots))) (Free (owner_of l.sections l.runners (t - slot_count l m.fixed_slots)))))
    by_test true b' = fixed
    by_test false true = free _
    by_test false false = free _

pub at_fixed : (m : Meaning) (l : Layout) (t : ℕ) → t < m.fixed_slots → first_place m l t ≡ Fixed
at_fixed m l t h = ap (λ b. cond b Fixed (cond (nat_lt t (slot_count l m.fixed_slots)) (Free (owner_of l.nodes l.runners (t - m.fixed_slots))) (Free (owner_of l.sections l.runners (t - slot_count l m.fixed_slots))))) (below t m.fixed_slots h)
  where
    below : (a b : ℕ) → a < b → nat_lt a b ≡ true
    below a b h = grind (arith, nat_tests)

at_node : (m : Meaning) (l : Layout) (t : ℕ) → m.fixed_slots ≤ t → t < slot_count l m.fixed_slots → first_place m l t ≡ Free (owner_of l.nodes l.runners (t - m.fixed_slots))
at_node m l t low high = λ i. cond (behind t m.fixed_slots low i) Fixed (cond (below t (slot_count l m.fixed_slots) high i) (Free (owner_of l.nodes l.runners (t - m.fixed_slots))) (Free (owner_of l.sections l.runners (t - slot_count l m.fixed_slots))))
  where
    below : (a b : ℕ) → a < b → nat_lt a b ≡ true
    below a b h = grind (arith, nat_tests)

    behind : (a b : ℕ) → b ≤ a → nat_lt a b ≡ false
    behind a b h = grind (arith, nat_tests)

pub at_descriptor : (m : Meaning) (l : Layout) (d : ℕ) → first_place m l (slot_count l m.fixed_slots + d) ≡ Free (owner_of l.sections l.runners d)
at_descriptor m l d = λ i. cond (fixed i) Fixed (cond (behind (slot_count l m.fixed_slots) d i) (Free (owner_of l.nodes l.runners (slot_count l m.fixed_slots + d - m.fixed_slots))) (Free (owner_of l.sections l.runners (back (slot_count l m.fixed_slots) d i))))
  where
    behind : (n d : ℕ) → nat_lt (n + d) n ≡ false
    behind n d = grind (arith, nat_tests)

    past : (a b : ℕ) → b ≤ a → nat_lt a b ≡ false
    past a b h = grind (arith, nat_tests)

    fixed : nat_lt (slot_count l m.fixed_slots + d) m.fixed_slots ≡ false
    fixed = past (slot_count l m.fixed_slots + d) m.fixed_slots (omega arith)

    back : (n d : ℕ) → n + d - n ≡ d
    back n d = omega arith

-- what is said of the keeper's first part, of a worker's and of that of no runner
module _ (m : Meaning) (l : Layout) where
  pub each_part : (Q : PartState → Type 0) → Q (keeper_part m l) → ((k : ℕ) → Q (worker_part m l k)) → Q (first_part [] [] []) → (r : ℕ) → Q (first_part_of m l r)
  each_part Q keeper worker nobody r = by_test (r == l.runners) (nat_lt r l.runners)
    where
      by_test : (b b' : Bool) → Q (cond b (keeper_part m l) (cond b' (worker_part m l r) (first_part [] [] [])))
      by_test true b' = keeper
      by_test false true = worker r
      by_test false false = nobody

  nodes_are : (r : ℕ) → (first_part_of m l r).nodes.free ≡ rows l.nodes l.runners (2 * l.runners + 2) m.fixed_slots r
  nodes_are r = by_test (r == l.runners) (nat_lt r l.runners)
    where
      by_test : (b b' : Bool) → (cond b (keeper_part m l) (cond b' (worker_part m l r) (first_part [] [] []))).nodes.free
          ≡ cond b (falling (m.fixed_slots + l.nodes * l.runners) (2 * l.runners + 2)) (cond b' (falling (m.fixed_slots + l.nodes * r) l.nodes) [])
      by_test true b' = refl
      by_test false true = refl
      by_test false false = refl

  descriptors_are : (r : ℕ) → (first_part_of m l r).descriptors.free ≡ rows l.sections l.runners l.runners 0 r
  descriptors_are r = by_test (r == l.runners) (nat_lt r l.runners)
    where
      nought : (n : ℕ) → n ≡ 0 + n
      nought n = omega arith

      by_test : (b b' : Bool) → (cond b (keeper_part m l) (cond b' (worker_part m l r) (first_part [] [] []))).descriptors.free
          ≡ cond b (falling (0 + l.sections * l.runners) l.runners) (cond b' (falling (0 + l.sections * r) l.sections) [])
      by_test true b' = ap (λ n. falling n l.runners) (nought (l.sections * l.runners))
      by_test false true = ap (λ n. falling n l.sections) (nought (l.sections * r))
      by_test false false = refl

module _ (m : Meaning) (l : Layout) where
  abbrev pub begun : EpochState
  begun = first_state (first_place m l)

  fixed_nodes : (t : ℕ) → is_for_nodes (first_place m l t) ≡ true → t < slot_count l m.fixed_slots
  fixed_nodes t = by_test (nat_lt t m.fixed_slots) (nat_lt t (slot_count l m.fixed_slots)) refl
    where
      below : (a b : ℕ) → nat_lt a b ≡ true → a < b
      below a b h = grind (arith, nat_tests)

      by_test : (b b' : Bool) → nat_lt t m.fixed_slots ≡ b
          → is_for_nodes (cond b Fixed (cond b' (Free (owner_of l.nodes l.runners (t - m.fixed_slots))) (Free (owner_of l.sections l.runners (t - slot_count l m.fixed_slots))))) ≡ true → t < slot_count l m.fixed_slots
      by_test true b' e h = let low = below t m.fixed_slots e in omega arith
      by_test false true e h = absurd (let x = h in cc)
      by_test false false e h = absurd (let x = h in cc)

  -- it is a first state of the component
  pub first_is : IsFirst (counts_of m l) (first_place m l)
  first_is = record { unused = at_first m l (λ p. is_unused p ≡ true) refl (λ r. refl); for_nodes = fixed_nodes }

  nowhere : (Q : Location → ℕ) → Q Fixed ≡ 0 → ((r : ℕ) → Q (Free r) ≡ 0) → (t : ℕ) → 0 ≡ Q (first_place m l t)
  nowhere Q fixed free t = sym (at_first m l (λ p. Q p ≡ 0) fixed free t)

  -- nothing is in a hand, worn or in limbo
  abbrev part : ℕ → PartState
  part = first_part_of m l

  free_slots : (r t : ℕ) → t < slot_count l m.fixed_slots → times t (part r).nodes.free ≡ in_free r (first_place m l t)
  free_slots r t low = ap (times t) (nodes_are m l r) ∙ ⊎_elim
      (λ fixed. unowned l.nodes l.runners (2 * l.runners + 2) m.fixed_slots t r (inl fixed) ∙ sym (ap (in_free r) (at_fixed m l t fixed)))
      (λ node. owned l.nodes l.runners (2 * l.runners + 2) m.fixed_slots t node low r ∙ sym (ap (in_free r) (at_node m l t node low)))
      (order t m.fixed_slots)
    where
      order : (a b : ℕ) → (a < b) ⊎ (b ≤ a)
      order a b = search arith

  -- each descriptor is in its owner's free list, and in no other
  pub own_free : (r d : ℕ) → d < descriptor_count l → times d (part r).descriptors.free ≡ cond (owner_of l.sections l.runners d == r) 1 0
  own_free r d low = ap (times d) (descriptors_are m l r)
      ∙ (owned l.sections l.runners l.runners 0 d (omega arith) (omega arith) r ∙ ap (λ n. cond (owner_of l.sections l.runners n == r) 1 0) (let h : d - 0 ≡ d = omega arith in h))

  free_descriptors : (r d : ℕ) → d < descriptor_count l → times d (part r).descriptors.free ≡ in_free r (first_place m l (slot_of (counts_of m l) d))
  free_descriptors r d low = own_free r d low ∙ sym (ap (in_free r) (at_descriptor m l d))

  listed : IsListed (counts_of m l) begun (λ r. lists_of (part r))
  listed = record {
    hand = λ r t low. let n = nowhere (in_hand r) refl (λ k. refl) t in each_part m l (λ q. times t (lists_of q).hand ≡ in_hand r (first_place m l t)) n (λ k. n) n r;
    free = free_slots;
    worn = λ r t low. let n = nowhere (in_worn r) refl (λ k. refl) t in each_part m l (λ q. times t (lists_of q).worn ≡ in_worn r (first_place m l t)) n (λ k. n) n r;
    limbo = λ r t y low. let n = nowhere (in_limbo r y) refl (λ k. refl) t in each_part m l (λ q. times_retired t y (lists_of q).limbo ≡ in_limbo r y (first_place m l t)) n (λ k. n) n r;
    free_descriptors = free_descriptors;
    limbo_descriptors = λ r d low. let n = nowhere (in_any_limbo r) refl (λ k. refl) (slot_of (counts_of m l) d) in
        each_part m l (λ q. times d (lists_of q).limbo_descriptors ≡ in_any_limbo r (first_place m l (slot_of (counts_of m l) d))) n (λ k. n) n r;
    hand_nodes = λ r t high. each_part m l (λ q. times t (lists_of q).hand ≡ 0) refl (λ k. refl) refl r;
    free_nodes = λ r t high. ap (times t) (nodes_are m l r) ∙ unowned l.nodes l.runners (2 * l.runners + 2) m.fixed_slots t r (inr high);
    worn_nodes = λ r t high. each_part m l (λ q. times t (lists_of q).worn ≡ 0) refl (λ k. refl) refl r;
    limbo_nodes = λ r t y high. each_part m l (λ q. times_retired t y (lists_of q).limbo ≡ 0) refl (λ k. refl) refl r;
  }

  tied : (word : Spot → ℕ) (r : ℕ) (nodes descriptors blocks : List ℕ) → IsTied m l begun word r (first_part nodes descriptors blocks)
  tied word r nodes descriptors blocks = record {
    run_held = λ q e. absurd (none-some _ e);
    run_opened = λ q j e low low'. absurd (none-some _ e);
    run_begins = λ q e few. absurd (none-some _ e);
    run_made = λ q t e made. absurd (none-some _ e);
    retire = refl;
    published = λ x e. absurd (none-some _ e);
    run_sure = λ q e. absurd (none-some _ e);
    published_sure = λ x e. absurd (none-some _ e);
    numbered = λ d e. absurd (none-some _ e);
    sure = λ d is. absurd (let x = is in cc);
    sure_alone = λ d h. absurd (let x = h in cc);
    reached = λ t isin node there. absurd (let x = isin in cc);
    stored_free = λ d j n last. absurd (none-some _ last);
    stored = λ d j n free last. absurd (none-some _ last);
  }

  module _ (rs : List Request) (w : World) (start : states.IsFirst m l rs w) where
    abbrev s : Sight
    s = sight m l rs w

    parts_are : s.part ≡ first_part_of m l
    parts_are = fun_ext (first_parts m l w.parts start.parts)

    of_part : (Q : PartState → Type 0) → ((nodes descriptors blocks : List ℕ) → Q (first_part nodes descriptors blocks)) → (r : ℕ) → Q (s.part r)
    of_part Q each r = subst Q (sym (first_parts m l w.parts start.parts r)) (each_part m l Q (each _ _ _) (λ k. each _ _ _) (each _ _ _) r)

    -- the board's words are 0
    pub unwritten : (i : ℕ) → s.word (Board i) ≡ 0
    unwritten i = by_fit (fits (sizes_for m l rs) (Board i)) refl
      where
        by_fit : (b : Bool) → fits (sizes_for m l rs) (Board i) ≡ b → s.word (Board i) ≡ 0
        by_fit true e = start.words.seen (Board i) (fits_means (sizes_for m l rs) (Board i) e)
        by_fit false e = ap (λ b. cond b (slice_index w.words (address (sizes_for m l rs) (Board i))) 0) e

    -- the first state and the component's first state with these places are joined
    pub first_joined : IsJoinedToEpochs m l begun s
    first_joined = record {
      sound = first (counts_of m l) (first_place m l) first_is;
      listed = subst (λ (f : ℕ → PartState). IsListed (counts_of m l) begun (λ r. lists_of (f r))) (sym parts_are) listed;
      entries = record {
        epoch = sym (start.words.seen Epoch tt);
        announced = λ r. sym (unannounced m l rs w start r);
        stage = λ r. of_part (λ q. points.Idle ≡ q.stage) (λ nodes descriptors blocks. refl) r;
      };
      board = record {
        word = λ t i at. absurd (let x = sym (at_first m l (λ p. board_of p ≡ None) refl (λ r. refl) t) ∙ ap board_of at in cc);
        slot = λ i t named. absurd (let x = sym (unwritten i) ∙ named in cc);
      };
      roles = λ d k out. absurd (let x = sym (ap is_out (at_descriptor m l d)) ∙ out in cc);
      published_once = λ r r' x x' e e' same. absurd (none-some _ (sym (of_part (λ q. q.published ≡ None) (λ nodes descriptors blocks. refl) r) ∙ e));
      tied = λ r. of_part (λ q. IsTied m l begun s.word r q) (tied s.word r) r;
    }
