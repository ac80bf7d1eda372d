-- The first words and the first lists.
use Rattle.std.specs.Prelude.{replicate}
use Rattle.std.proofs.Common.{◌≡◌, ℕ, zero, suc, ◌+◌, ◌-◌, ◌*◌, ◌<◌, ◌≤◌, List, [], ◌∷◌, ◌++◌, length, refl, ap, ◌∙◌, arith, append_assoc, length-append}
use Rattle.std.proofs.Math.Nat.{mul-le-mul_left}
use Rattle.runner_steps.specs.runner_parts.specs.structure_laws.specs.Meaning.{Meaning}
use Rattle.machine_states.specs.First.{falling, keeper_part, worker_part, workers}
use Rattle.runner_steps.specs.table_words.specs.declared.layout.Layout.{Layout}

pub nodes_below : (nodes k runners : ℕ) → k < runners → nodes * runners ≤ 262144 → nodes * k + nodes ≤ 262144
nodes_below nodes k runners h few = let step = mul-le-mul_left nodes (let le : k + 1 ≤ runners = omega arith in le) in omega (arith, step)

pub sections_below : (sections k runners : ℕ) → k < runners → sections ≤ 1024 → runners ≤ 16 → sections * k + sections ≤ 16384
sections_below sections k runners h few small = let step = mul-le-mul_left sections (let le : k + 1 ≤ 16 = omega arith in le) in omega (arith, step)

pub blocks_below : (blocks k runners : ℕ) → k < runners → blocks ≤ 8200 → runners ≤ 16 → blocks * k + blocks ≤ 131200
blocks_below blocks k runners h few small = let step = mul-le-mul_left blocks (let le : k + 1 ≤ 16 = omega arith in le) in omega (arith, step)

-- one more number
pub falling_next : (from n count below : ℕ) (xs : List ℕ) → below < count → n ≡ count - 1 - below → (xs ++ (from + n) ∷ []) ++ falling from (count - (below + 1)) ≡ xs ++ falling from (count - below)
falling_next from n count below xs h is =
    let one : count - below ≡ suc n = omega arith in
    let rest : count - (below + 1) ≡ n = omega arith in
    append_assoc xs _ _ ∙ rw (one, rest) refl

pub length_workers : (m : Meaning) (l : Layout) (n : ℕ) → length (workers m l n) ≡ n
length_workers m l zero = refl
length_workers m l (suc n) = length-append (workers m l n) (worker_part m l n ∷ []) ∙ (let h = length_workers m l n in omega arith)

pub length_parts : (m : Meaning) (l : Layout) → length (keeper_part m l ∷ workers m l l.runners) ≡ l.runners + 1
length_parts m l = let h = length_workers m l l.runners in omega arith

-- a zero that is appended is one of those behind
pub pushed_zero : (words : List ℕ) (n : ℕ) → (words ++ 0 ∷ []) ++ replicate n 0 ≡ words ++ replicate (suc n) 0
pushed_zero [] n = refl
pushed_zero (word ∷ words) n = ap (λ (l : List ℕ). word ∷ l) (pushed_zero words n)
