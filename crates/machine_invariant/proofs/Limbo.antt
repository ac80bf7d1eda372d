-- The descriptors that leave limbo at the end of a sweep.
use Rattle.std.specs.Prelude.{◌==◌, ◌&&◌, ◌||◌, cond, Bool, true, false}
use Rattle.std.specs.List.{filter}
use Rattle.std.proofs.Common.{◌≡◌, ℕ, ◌+◌, ◌<◌, ◌≤◌, List, [], ◌∷◌, ◌++◌, refl, sym, ap, ◌∙◌, subst, arith}
use Rattle.std.proofs.lemmas.Bool.Decides.{nat_tests}
use Rattle.machine_states.specs.table_words.specs.declared.layout.Layout.{Layout}
use Rattle.machine_states.specs.structure_laws.specs.Meaning.{Meaning}
use Rattle.machine_states.specs.runner_parts.specs.declared.event.EventKind.{EventKind}
use Rattle.machine_states.specs.runner_parts.specs.declared.event.EventKind.TheVariants as kinds
use Rattle.machine_states.specs.runner_parts.specs.Tests.{has}
use Rattle.machine_states.specs.runner_steps.specs.Outside.{is_sure_of}
use Rattle.machine_states.specs.runner_steps.specs.Guards.{is_last_guard}
use Rattle.machine_states.specs.guard_core.specs.Moves.{is_unnamed}
use Rattle.machine_states.specs.epoch_core.specs.declared.location.Location.{Location}
use Rattle.machine_states.specs.epoch_core.specs.declared.location.Location.TheVariants.{Live, Fixed, Hand, Free, Worn, Limbo, OnBoard}
use Rattle.machine_states.specs.epoch_core.specs.State.{EpochState}
use Rattle.machine_states.specs.epoch_core.specs.Events.{slot_of}
use Rattle.machine_states.specs.epoch_core.specs.Lists.{times, in_any_limbo}
use Rattle.machine_states.specs.Sight.{Sight}
use Rattle.machine_blocks.specs.machine_guards.specs.machine_agreement.specs.machine_epochs.specs.Entries.{counts_of}
use Rattle.machine_blocks.specs.machine_guards.specs.machine_agreement.specs.machine_epochs.specs.Joined.{IsJoinedToEpochs}
use Rattle.machine_blocks.specs.machine_guards.specs.machine_agreement.specs.machine_epochs.proofs.Places.{has_times}
use Rattle.machine_invariant.proofs.Basics.{same_test}

-- at the end of its sweep nobody is sure of a retired descriptor of its own that no word names which it read
abbrev pub SweepsSafely : Layout → Sight → ℕ → EventKind → ℕ → Type 0
SweepsSafely l s r kind found = (n d q : ℕ) → kind ≡ kinds.LoadGuard n → is_last_guard l (s.part r).guards.looked ≡ true
    → has (s.part r).descriptors.limbo d ≡ true → is_unnamed ((s.part r).guards.looked ++ found ∷ []) d ≡ true
    → is_sure_of (s.part q).guards d ≡ false

-- a list has what passes the test and was in the longer one
pub has_filter : (test : ℕ → Bool) (xs : List ℕ) (d : ℕ) → has (filter test xs) d ≡ (has xs d && test d)
has_filter test [] d = refl
has_filter test (x ∷ xs) d = by (test x) refl (has_filter test xs d)
  where
    with_it : (a h t f : Bool) → f ≡ (h && t) → (a ≡ true → t ≡ true) → (a || f) ≡ ((a || h) && t)
    with_it true h t f e same = sym (same refl)
    with_it false h t f e same = e

    none : (h : Bool) → (h && false) ≡ false
    none true = refl
    none false = refl

    without_it : (a h t f : Bool) → f ≡ (h && t) → (a ≡ true → t ≡ false) → f ≡ ((a || h) && t)
    without_it true h t f e same = e ∙ (ap (λ b. h && b) (same refl) ∙ (none h ∙ sym (same refl)))
    without_it false h t f e same = e

    by : (b : Bool) → test x ≡ b → has (filter test xs) d ≡ (has xs d && test d)
        → has (cond b (x ∷ filter test xs) (filter test xs)) d ≡ ((x == d || has xs d) && test d)
    by true is rest = with_it (x == d) (has xs d) (test d) (has (filter test xs) d) rest
        (λ e. ap test (sym (same_test x d e)) ∙ is)
    by false is rest = without_it (x == d) (has xs d) (test d) (has (filter test xs) d) rest
        (λ e. ap test (sym (same_test x d e)) ∙ is)

pub times_has : (xs : List ℕ) (d : ℕ) → 1 ≤ times d xs → has xs d ≡ true
times_has [] d some = absurd (omega arith)
times_has (x ∷ xs) d some = by (x == d) (has xs d) (times d xs) (times_has xs d) some
  where
    by : (b b' : Bool) (n : ℕ) → (1 ≤ n → b' ≡ true) → 1 ≤ cond b (1 + n) n → (b || b') ≡ true
    by true b' n rest some = refl
    by false b' n rest some = rest some

at_limbo : (r : ℕ) (p : Location) → 1 ≤ in_any_limbo r p → (y : ℕ) × (p ≡ Limbo r y)
at_limbo r (Limbo r' y) h = (y, ap (λ i. Limbo i y) (same r' r h))
  where
    same : (a b : ℕ) → 1 ≤ cond (a == b) 1 0 → a ≡ b
    same a b h = grind (arith, nat_tests)
at_limbo r Fixed h = absurd (omega arith)
at_limbo r Live h = absurd (omega arith)
at_limbo r (Hand r') h = absurd (omega arith)
at_limbo r (Free r') h = absurd (omega arith)
at_limbo r (Worn r') h = absurd (omega arith)
at_limbo r (OnBoard i) h = absurd (omega arith)

module _ (m : Meaning) (l : Layout) (w : EpochState) (s : Sight) (old : IsJoinedToEpochs m l w s) (r d : ℕ) (few : d < (counts_of m l).descriptors) where
  -- what a runner has in limbo is there
  pub at_its_limbo : has (s.part r).descriptors.limbo d ≡ true → (y : ℕ) × (w.location (slot_of (counts_of m l) d) ≡ Limbo r y)
  at_its_limbo lies = at_limbo r _ (subst (λ n. 1 ≤ n) (old.listed.limbo_descriptors r d few) (has_times (s.part r).descriptors.limbo d lies))

  -- and what is there it has in limbo
  pub in_its_limbo : (y : ℕ) → w.location (slot_of (counts_of m l) d) ≡ Limbo r y → has (s.part r).descriptors.limbo d ≡ true
  in_its_limbo y is = times_has (s.part r).descriptors.limbo d
      (one r (old.listed.limbo_descriptors r d few ∙ ap (in_any_limbo r) is))
    where
      one : (i : ℕ) {n : ℕ} → n ≡ cond (i == i) 1 0 → 1 ≤ n
      one i e = grind (arith, nat_tests)

  -- so it isn't live
  pub limbo_unlive : has (s.part r).descriptors.limbo d ≡ true → w.location (slot_of (counts_of m l) d) ≡ Live → ⊥
  limbo_unlive lies live = let there = at_its_limbo lies in absurd (let x = sym there.1 ∙ live in cc)
