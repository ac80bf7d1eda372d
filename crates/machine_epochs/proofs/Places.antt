-- What the lists and the holders say of where slots are.
use Rattle.std.specs.Prelude.{◌==◌, ◌||◌, cond, Bool, true, false, nat_lt, slice_index}
use Rattle.std.proofs.Common.{◌≡◌, ◌≢◌, ℕ, ◌+◌, ◌-◌, ◌<◌, ◌≤◌, List, [], ◌∷◌, ◌++◌, length, refl, sym, ap, ◌∙◌, subst, arith, Some}
use Rattle.std.proofs.lemmas.Bool.{and_parts}
use Rattle.std.proofs.lemmas.Bool.Decides.{nat_tests}
use Rattle.machine_states.specs.body_terms.specs.declared.thunk.Thunk.{Thunk}
use Rattle.machine_states.specs.table_words.specs.declared.layout.Layout.{Layout}
use Rattle.machine_states.specs.table_words.specs.declared.spot.Spot.{Spot}
use Rattle.machine_states.specs.table_words.specs.Places.{part_words}
use Rattle.machine_states.specs.table_words.specs.declared.spot.Spot.TheVariants.{ThunkWord, DoneWord, LogWord, LinkWord}
use Rattle.machine_states.specs.table_words.specs.Seen.{put}
use Rattle.machine_states.specs.structure_laws.specs.Meaning.{Meaning}
use Rattle.machine_states.specs.runner_parts.specs.State.{RunState}
use Rattle.machine_states.specs.runner_steps.specs.Sections.{thunk_of}
use Rattle.machine_states.specs.runner_parts.specs.Tests.{has}
use Rattle.machine_states.specs.runner_steps.specs.Outside.{descriptor_spot}
use Rattle.machine_states.specs.epoch_core.specs.declared.location.Location.{Location}
use Rattle.machine_states.specs.epoch_core.specs.declared.location.Location.TheVariants.{Fixed, Live, Hand, Free, Worn, Limbo, OnBoard}
use Rattle.machine_states.specs.epoch_core.specs.State.{EpochState, Role, is_entered, entry_of, IsKept}
use Rattle.machine_states.specs.epoch_core.specs.Events.{slot_of}
use Rattle.machine_states.specs.epoch_core.specs.History.{is_out}
use Rattle.machine_states.specs.epoch_core.specs.Lists.{times, in_free, in_hand}
use Rattle.machine_states.specs.Sight.{Sight}
use Rattle.machine_epochs.specs.Entries.{counts_of}
use Rattle.machine_epochs.specs.Roles.{role_at}
use Rattle.machine_epochs.specs.Slots.{thunk_in}
use Rattle.machine_epochs.specs.Joined.{IsJoinedToEpochs}
use Rattle.machine_epochs.proofs.OutsideAsked.{named_is}

has_first : (y x n : ℕ) (b : Bool) → (b ≡ true → 1 ≤ n) → (y == x || b) ≡ true → 1 ≤ cond (y == x) (1 + n) n
has_first y x n b rest e = grind (arith, nat_tests)

-- a number that a list has stands in it
pub has_times : (xs : List ℕ) (x : ℕ) → has xs x ≡ true → 1 ≤ times x xs
has_times [] x e = absurd (let y = e in cc)
has_times (y ∷ ys) x e = has_first y x (times x ys) (has ys x) (λ h. has_times ys x h) e

pub has_append : (xs ys : List ℕ) (x : ℕ) → has (xs ++ ys) x ≡ (has xs x || has ys x)
has_append [] ys x = refl
has_append (y ∷ xs) ys x = ap (λ b. y == x || b) (has_append xs ys x) ∙ sym (or_assoc (y == x) (has xs x) (has ys x))
  where
    or_assoc : (a b c : Bool) → ((a || b) || c) ≡ (a || (b || c))
    or_assoc true b c = refl
    or_assoc false b c = refl

at_free : (r : ℕ) (p : Location) → 1 ≤ in_free r p → p ≡ Free r
at_free r (Free r') h = ap Free (by_test r' r h)
  where
    by_test : (a b : ℕ) → 1 ≤ cond (a == b) 1 0 → a ≡ b
    by_test a b h = grind (arith, nat_tests)
at_free r Fixed h = absurd (omega arith)
at_free r Live h = absurd (omega arith)
at_free r (Hand r') h = absurd (omega arith)
at_free r (Worn r') h = absurd (omega arith)
at_free r (OnBoard i) h = absurd (omega arith)
at_free r (Limbo r' y) h = absurd (omega arith)

at_hand : (r : ℕ) (p : Location) → 1 ≤ in_hand r p → p ≡ Hand r
at_hand r (Hand r') h = ap Hand (by_test r' r h)
  where
    by_test : (a b : ℕ) → 1 ≤ cond (a == b) 1 0 → a ≡ b
    by_test a b h = grind (arith, nat_tests)
at_hand r Fixed h = absurd (omega arith)
at_hand r Live h = absurd (omega arith)
at_hand r (Free r') h = absurd (omega arith)
at_hand r (Worn r') h = absurd (omega arith)
at_hand r (OnBoard i) h = absurd (omega arith)
at_hand r (Limbo r' y) h = absurd (omega arith)

-- a slot that may be held was given out
kept_out : (p : Location) (g : ℕ) → IsKept p g → is_out p ≡ true
kept_out Fixed g h = refl
kept_out Live g h = refl
kept_out (Limbo r y) g h = refl
kept_out (Hand r) g h = absurd h
kept_out (Free r) g h = absurd h
kept_out (Worn r) g h = absurd h
kept_out (OnBoard i) g h = absurd h

-- a word of a descriptor, by its number
abbrev pub spot_by : ℕ → ℕ → Bool → Bool → Bool → Spot
spot_by d word b b' b'' = cond b (ThunkWord d word) (cond b' (DoneWord d) (cond b'' (LinkWord d) (LogWord d (word - 13))))

-- a write into the log of one descriptor isn't seen in the words of another
pub log_elsewhere : (f : Spot → ℕ) (d k v d' j : ℕ) → d' ≢ d → put f (LogWord d k) v (descriptor_spot d' j) ≡ f (descriptor_spot d' j)
log_elsewhere f d k v d' j ne = by_word (nat_lt j 12) (j == 12) (j == 13 + part_words)
  where
    not_there : (a b x y z : ℕ) → a ≢ b → cond (a == b) (cond (x == y) z (f (LogWord a x))) (f (LogWord a x)) ≡ f (LogWord a x)
    not_there a b x y z ne = grind (arith, nat_tests)

    by_word : (b b' b'' : Bool) → put f (LogWord d k) v (spot_by d' j b b' b'') ≡ f (spot_by d' j b b' b'')
    by_word true b' b'' = refl
    by_word false true b'' = refl
    by_word false false true = refl
    by_word false false false = not_there d' d (j - 13) k v ne

-- nor is a write of its done word
pub done_elsewhere : (f : Spot → ℕ) (d v d' j : ℕ) → d' ≢ d → put f (DoneWord d) v (descriptor_spot d' j) ≡ f (descriptor_spot d' j)
done_elsewhere f d v d' j ne = by_word (nat_lt j 12) (j == 12) (j == 13 + part_words)
  where
    not_there : (a b z : ℕ) → a ≢ b → cond (a == b) z (f (DoneWord a)) ≡ f (DoneWord a)
    not_there a b z ne = grind (arith, nat_tests)

    by_word : (b b' b'' : Bool) → put f (DoneWord d) v (spot_by d' j b b' b'') ≡ f (spot_by d' j b b' b'')
    by_word true b' b'' = refl
    by_word false true b'' = not_there d' d v ne
    by_word false false true = refl
    by_word false false false = refl

-- nor is one of its link
pub link_elsewhere : (f : Spot → ℕ) (d v d' j : ℕ) → d' ≢ d → put f (LinkWord d) v (descriptor_spot d' j) ≡ f (descriptor_spot d' j)
link_elsewhere f d v d' j ne = by_word (nat_lt j 12) (j == 12) (j == 13 + part_words)
  where
    not_there : (a b z : ℕ) → a ≢ b → cond (a == b) z (f (LinkWord a)) ≡ f (LinkWord a)
    not_there a b z ne = grind (arith, nat_tests)

    by_word : (b b' b'' : Bool) → put f (LinkWord d) v (spot_by d' j b b' b'') ≡ f (spot_by d' j b b' b'')
    by_word true b' b'' = refl
    by_word false true b'' = refl
    by_word false false true = not_there d' d v ne
    by_word false false false = refl

module _ (m : Meaning) (l : Layout) (w : EpochState) (s : Sight) (old : IsJoinedToEpochs m l w s) where
  pub free_descriptor : (r d : ℕ) → d < (counts_of m l).descriptors → has (s.part r).descriptors.free d ≡ true → w.location (slot_of (counts_of m l) d) ≡ Free r
  free_descriptor r d few e = at_free r _ (subst (λ n. 1 ≤ n) (old.listed.free_descriptors r d few) (has_times (s.part r).descriptors.free d e))

  pub free_node : (r t : ℕ) → t < (counts_of m l).nodes → has (s.part r).nodes.free t ≡ true → w.location t ≡ Free r
  free_node r t few e = at_free r _ (subst (λ n. 1 ≤ n) (old.listed.free r t few) (has_times (s.part r).nodes.free t e))

  pub hand_node : (r t : ℕ) → t < (counts_of m l).nodes → has (s.part r).nodes.hand t ≡ true → w.location t ≡ Hand r
  hand_node r t few e = at_hand r _ (subst (λ n. 1 ≤ n) (old.listed.hand r t few) (has_times (s.part r).nodes.hand t e))

  pub held_out : (r t : ℕ) → w.holds r t ≡ true → is_out (w.location t) ≡ true
  held_out r t e = kept_out (w.location t) (entry_of (w.stage r)) (old.sound.held r t e)

  -- a held descriptor is in nobody's free list
  pub held_unfree : (r i d : ℕ) → w.holds r (slot_of (counts_of m l) d) ≡ true → d < (counts_of m l).descriptors → has (s.part i).descriptors.free d ≡ true → ⊥
  held_unfree r i d e few free = let x = sym (held_out r _ e) ∙ ap is_out (free_descriptor i d few free) in cc

  pub apart : (r i d d' : ℕ) → w.holds r (slot_of (counts_of m l) d) ≡ true → d < (counts_of m l).descriptors → has (s.part i).descriptors.free d' ≡ true → d' ≢ d
  apart r i d d' e few free same = held_unfree r i d e few (ap (λ n. has (s.part i).descriptors.free n) (sym same) ∙ free)

  -- whoever runs a section is sure of its descriptor, which is one that the table has
  pub run_few : (r : ℕ) (q : RunState) → (s.part r).run ≡ Some q → q.descriptor < (counts_of m l).descriptors
  run_few r q at =
      let g = (s.part r).guards in
      (old.tied r).numbered q.descriptor (named_is g.named q.descriptor (and_parts _ _ ((old.tied r).run_sure q at)).1)

  -- a run's section
  module _ (r : ℕ) (q : RunState) (at : (s.part r).run ≡ Some q) (loaded : length q.opened ≡ 13) where
    pub run_entered : is_entered (w.stage r) ≡ true
    run_entered = old.sound.holder r _ ((old.tied r).run_held q at)

    word_is : (j : ℕ) → j < 12 → s.word (ThunkWord q.descriptor j) ≡ slice_index q.opened j
    word_is j h = sym ((old.tied r).run_opened q j at (omega arith) h)

    -- its thunk is the one that the descriptor's words hold
    pub run_thunk : thunk_in s.word q.descriptor ≡ thunk_of q.opened
    run_thunk = rw (word_is 0 (omega arith), word_is 1 (omega arith), word_is 2 (omega arith), word_is 3 (omega arith), word_is 4 (omega arith), word_is 5 (omega arith), word_is 6 (omega arith), word_is 7 (omega arith), word_is 8 (omega arith), word_is 9 (omega arith), word_is 10 (omega arith), word_is 11 (omega arith)) refl

    -- what its body commits at a place of its log
    pub run_role : (k : ℕ) (role : Role) → role_at (m.body (thunk_of q.opened)) k ≡ role → w.role q.descriptor k ≡ role
    run_role k role e = old.roles q.descriptor k (held_out r _ ((old.tied r).run_held q at)) ∙ (ap (λ (t : Thunk). role_at (m.body t) k) run_thunk ∙ e)
