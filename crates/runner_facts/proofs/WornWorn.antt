-- A slot that stands once in a list stands at one place of it.
use Rattle.std.specs.Prelude.{◌==◌, cond, slice_get, Bool, true, false}
use Rattle.std.proofs.Common.{◌≡◌, ℕ, zero, suc, ◌+◌, ◌≤◌, List, [], ◌∷◌, refl, ap, arith, Some}
use Rattle.std.proofs.lemmas.Bool.Decides.{nat_tests}
use Rattle.section_lines.specs.small_lemmas.proofs.Lists.{same_number}
use Rattle.machine_states.specs.map_history.specs.declared.op.Request.{Request}
use Rattle.machine_states.specs.table_words.specs.declared.layout.Layout.{Layout}
use Rattle.machine_states.specs.table_words.specs.Limits.{IsWithinLimits}
use Rattle.machine_states.specs.structure_laws.specs.Meaning.{Meaning}
use Rattle.machine_states.specs.structure_laws.specs.Laws.{Laws}
use Rattle.machine_states.specs.epoch_core.specs.Lists.{times}
use Rattle.machine_states.specs.World.{World}
use Rattle.machine_states.specs.Reached.{Reached}
use Rattle.machine_states.specs.Sight.{sight}
use Rattle.machine_facts.specs.machine_invariant.specs.After.{AreAllowed}
use Rattle.machine_facts.proofs.Following.{facts_after}
use Rattle.runner_facts.specs.Worn.{HasNoRepeats}

counted : (x t n : ℕ) → x ≡ t → cond (x == t) (1 + n) n ≡ suc n
counted x t n e = grind (arith, nat_tests)

at_least : (b : Bool) (n : ℕ) → n ≤ cond b (1 + n) n
at_least true n = omega arith
at_least false n = omega arith

-- what stands in a list stands there at least once
there : (xs : List ℕ) (t i : ℕ) → slice_get xs i ≡ Some t → 1 ≤ times t xs
there [] t i e = absurd (let z = e in cc)
there (x ∷ xs) t zero e = let c = counted x t (times t xs) (same_number x t e) in omega (arith, c)
there (x ∷ xs) t (suc i) e = let rest = there xs t i e in let more = at_least (x == t) (times t xs) in omega (arith, rest, more)

-- a slot that heads a list doesn't stand further on
alone : (x t : ℕ) (xs : List ℕ) (i : ℕ) → Some x ≡ Some t → times t (x ∷ xs) ≤ 1 → slice_get xs i ≡ Some t → ⊥
alone x t xs i e few at =
    let c = counted x t (times t xs) (same_number x t e) in let more = there xs t i at in omega (arith, c, few, more)

pub one_place : (xs : List ℕ) (t i j : ℕ) → times t xs ≤ 1 → slice_get xs i ≡ Some t → slice_get xs j ≡ Some t → i ≡ j
one_place [] t i j few a b = absurd (let z = a in cc)
one_place (x ∷ xs) t zero zero few a b = refl
one_place (x ∷ xs) t zero (suc j) few a b = absurd (alone x t xs j a few b)
one_place (x ∷ xs) t (suc i) zero few a b = absurd (alone x t xs i b few a)
one_place (x ∷ xs) t (suc i) (suc j) few a b = ap suc (one_place xs t i j
    (let more = at_least (x == t) (times t xs) in omega (arith, few, more)) a b)

pub no_repeats : (m : Meaning) → Laws m → (l : Layout) → IsWithinLimits l → (rs : List Request) → AreAllowed rs → (w : World)
    → Reached m l rs w → HasNoRepeats (sight m l rs w)
no_repeats m laws l limits rs allowed w reached r i j t a b =
    let facts = facts_after m laws l rs reached.events w limits allowed reached.after in
    let once = facts.here.sound.slots.in_nodes.once r t in
    one_place ((sight m l rs w).part r).nodes.worn t i j (omega (arith, once)) a b
