-- Each runner has its own blocks still: each block stands once with its owner.
use Rattle.std.specs.Prelude.{◌==◌, ◌&&◌, ◌*◌, nat_lt, cond, map, Bool, true, false}
use Rattle.std.proofs.Common.{◌≡◌, ℕ, zero, suc, ◌+◌, ◌<◌, ◌≤◌, List, [], ◌∷◌, length, refl, sym, ap, ◌∙◌, ⊎_elim, arith, Option, Some, None}
use Rattle.std.proofs.lemmas.Bool.{cases_lt}
use Rattle.std.proofs.lemmas.Bool.Decides.{nat_tests}
use Rattle.std.proofs.lemmas.List.{length-map}
use Rattle.machine_states.specs.map_history.specs.declared.op.Request.{Request}
use Rattle.machine_states.specs.epoch_core.specs.Lists.{times}
use Rattle.section_lines.specs.small_lemmas.proofs.Numbers.{not_less_tested, self_tested}
use Rattle.machine_states.specs.table_words.specs.declared.layout.Layout.{Layout}
use Rattle.machine_states.specs.table_words.specs.Limits.{IsWithinLimits}
use Rattle.machine_states.specs.table_words.specs.Places.{worker_blocks, keeper_blocks, block_count, attempt_blocks}
use Rattle.machine_states.specs.structure_laws.specs.Meaning.{Meaning}
use Rattle.machine_states.specs.structure_laws.specs.Laws.{Laws}
use Rattle.machine_states.specs.runner_parts.specs.declared.entries.Waiting.{Waiting}
use Rattle.machine_states.specs.runner_parts.specs.State.{RunState, PartState}
use Rattle.machine_states.specs.guard_core.specs.State.{most_linked}
use Rattle.machine_states.specs.First.{falling}
use Rattle.machine_states.specs.World.{World}
use Rattle.machine_states.specs.Reached.{Reached}
use Rattle.machine_states.specs.Sight.{Sight, sight}
use Rattle.machine_states.proofs.FirstSights.{first_part_of}
use Rattle.machine_facts.specs.machine_invariant.specs.After.{AreAllowed}
use Rattle.machine_facts.specs.machine_invariant.specs.Whole.{Beside, IsWhole}
use Rattle.machine_facts.specs.machine_invariant.specs.machine_blocks.specs.machine_guards.specs.State.{won_of, hand_of, block_owner}
use Rattle.machine_facts.specs.machine_invariant.specs.machine_blocks.specs.machine_guards.specs.Stands.{times_held, block_times}
use Rattle.machine_facts.specs.machine_invariant.specs.machine_blocks.specs.machine_guards.proofs.First.{own_blocks}
use Rattle.machine_facts.specs.machine_invariant.proofs.After.{reached_whole}
use Rattle.runner_facts.specs.Facts.{held_count, blocks_of_run, blocks_of, BlocksAreKept, BlocksAreEnough}
use Rattle.runner_facts.proofs.Counts.{falling_length, first_worker, first_keeper, no_more}

-- a sum over the first numbers
abbrev sum_to : (ℕ → ℕ) → ℕ → ℕ
sum_to f zero = 0
sum_to f (suc n) = sum_to f n + f n

sum_same : (f g : ℕ → ℕ) → ((i : ℕ) → f i ≡ g i) → (n : ℕ) → sum_to f n ≡ sum_to g n
sum_same f g same zero = refl
sum_same f g same (suc n) = let rest = sum_same f g same n in let one = same n in omega (arith, rest, one)

sum_both : (f g : ℕ → ℕ) (n : ℕ) → sum_to (λ i. f i + g i) n ≡ sum_to f n + sum_to g n
sum_both f g zero = refl
sum_both f g (suc n) = let rest = sum_both f g n in omega (arith, rest)

sum_nought : (n : ℕ) → sum_to (λ i. 0) n ≡ 0
sum_nought zero = refl
sum_nought (suc n) = let rest = sum_nought n in omega (arith, rest)

is_other : (x n : ℕ) → n < x → cond {A = ℕ} (x == n) 1 0 ≡ 0
is_other x n low = grind (arith, nat_tests)

is_behind : (x n : ℕ) → x < n → cond {A = ℕ} (x == n) 1 0 ≡ 0
is_behind x n low = grind (arith, nat_tests)

is_here : (x n : ℕ) → n ≤ x → x < suc n → cond {A = ℕ} (x == n) 1 0 ≡ 1
is_here x n low high = grind (arith, nat_tests)

-- one number is counted once
sum_none : (x n : ℕ) → n ≤ x → sum_to (λ i. cond {A = ℕ} (x == i) 1 0) n ≡ 0
sum_none x zero le = refl
sum_none x (suc n) le =
    let rest = sum_none x n (omega (arith, le)) in let other = is_other x n (omega (arith, le)) in omega (arith, rest, other)

sum_one : (x n : ℕ) → x < n → sum_to (λ i. cond {A = ℕ} (x == i) 1 0) n ≡ 1
sum_one x zero low = absurd (omega (arith, low))
sum_one x (suc n) low = ⊎_elim
    (λ less. let rest = sum_one x n less in let other = is_behind x n less in omega (arith, rest, other))
    (λ more. let rest = sum_none x n more in let here = is_here x n more low in omega (arith, rest, here))
    (cases_lt x n)

-- a list with smaller numbers alone is as long as they stand in it together
listed_sum : (xs : List ℕ) (n : ℕ) → ((d : ℕ) → n ≤ d → times d xs ≡ 0) → sum_to (λ d. times d xs) n ≡ length xs
listed_sum [] n beyond = sum_nought n
listed_sum (x ∷ xs) n beyond =
    sum_same (λ d. times d (x ∷ xs)) (λ d. cond {A = ℕ} (x == d) 1 0 + times d xs) (λ d. apart (x == d) (times d xs)) n
    ∙ (sum_both (λ d. cond {A = ℕ} (x == d) 1 0) (λ d. times d xs) n
    ∙ (let one = sum_one x n low in let rest = listed_sum xs n (λ d high. less (x == d) (times d xs) (beyond d high)) in omega (arith, one, rest)))
  where
    apart : (b : Bool) (k : ℕ) → cond b (1 + k) k ≡ cond {A = ℕ} b 1 0 + k
    apart true k = refl
    apart false k = omega arith

    less : (b : Bool) (k : ℕ) → cond b (1 + k) k ≡ 0 → k ≡ 0
    less true k e = absurd (omega (arith, e))
    less false k e = e

    itself : (x k : ℕ) → cond (x == x) (1 + k) k ≡ 0 → ⊥
    itself x k none = let some : 1 + k ≡ 0 = sym (ap (λ b. cond {A = ℕ} b (1 + k) k) (self_tested x)) ∙ none in omega (arith, some)

    low : x < n
    low = ⊎_elim (λ below. below) (λ high. absurd (itself x (times x xs) (beyond x high))) (cases_lt x n)

held_sum : (o : Option ℕ) (n : ℕ) → ((d : ℕ) → n ≤ d → times_held o d ≡ 0) → sum_to (λ d. times_held o d) n ≡ held_count o
held_sum None n beyond = sum_nought n
held_sum (Some c) n beyond = sum_one c n low
  where
    itself : (c : ℕ) → cond {A = ℕ} (c == c) 1 0 ≡ 0 → ⊥
    itself c none = let some : 1 ≡ 0 = sym (ap (λ b. cond {A = ℕ} b 1 0) (self_tested c)) ∙ none in omega (arith, some)

    low : c < n
    low = ⊎_elim (λ below. below) (λ high. absurd (itself c (beyond c high))) (cases_lt c n)

-- so a runner has as many blocks as stand with it
module _ (p : PartState) where
  abbrev free : ℕ → ℕ
  free b = times b p.blocks.free

  abbrev limbo : ℕ → ℕ
  limbo b = times b (map (λ (x : Waiting). x.block) p.blocks.limbo)

  abbrev won : ℕ → ℕ
  won b = times b (won_of p.run)

  abbrev held : ℕ → ℕ
  held b = times_held (hand_of p.run) b

  of_run : (o : Option RunState) → blocks_of_run o ≡ length (won_of o) + held_count (hand_of o)
  of_run None = refl
  of_run (Some q) = refl

  blocks_sum : (n : ℕ) → ((b : ℕ) → n ≤ b → block_times p b ≡ 0) → sum_to (λ b. block_times p b) n ≡ blocks_of p
  blocks_sum n beyond =
      sum_both free (λ b. limbo b + (won b + held b)) n
      ∙ (let behind : sum_to (λ b. limbo b + (won b + held b)) n ≡ sum_to limbo n + (sum_to won n + sum_to held n) =
      sum_both limbo (λ b. won b + held b) n ∙ ap (λ k. sum_to limbo n + k) (sum_both won held n) in
      let one : sum_to free n ≡ length p.blocks.free = listed_sum p.blocks.free n (λ b high. let all = beyond b high in omega (arith, all)) in
      let two : sum_to limbo n ≡ length (map (λ (x : Waiting). x.block) p.blocks.limbo) = listed_sum (map (λ (x : Waiting). x.block) p.blocks.limbo) n (λ b high. let all = beyond b high in omega (arith, all)) in
      let long = length-map p.blocks.limbo (λ (x : Waiting). x.block) in
      let three : sum_to won n ≡ length (won_of p.run) = listed_sum (won_of p.run) n (λ b high. let all = beyond b high in omega (arith, all)) in
      let four : sum_to held n ≡ held_count (hand_of p.run) = held_sum (hand_of p.run) n (λ b high. let all = beyond b high in omega (arith, all)) in
      let run = of_run p.run in omega (arith, behind, one, two, long, three, four, run))

module _ (m : Meaning) (l : Layout) (g : Beside) (s : Sight) (whole : IsWhole m l g s) where
  abbrev own : ℕ → ℕ → ℕ
  own r b = cond (nat_lt b (block_count l) && block_owner l b == r) 1 0

  beyond : (r b : ℕ) → block_count l ≤ b → own r b ≡ 0
  beyond r b high = ap (λ t. cond (t && block_owner l b == r) 1 0) (not_less_tested b (block_count l) high)

  -- as many as at first
  as_first : (r : ℕ) → blocks_of (s.part r) ≡ blocks_of (first_part_of m l r)
  as_first r =
      sym (blocks_sum (s.part r) (block_count l) (λ b high. whole.logs.guards.blocks r b ∙ beyond r b high))
      ∙ (sum_same (λ b. block_times (s.part r) b) (λ b. block_times (first_part_of m l r) b) (λ b. whole.logs.guards.blocks r b ∙ sym (own_blocks m l r b)) (block_count l)
      ∙ blocks_sum (first_part_of m l r) (block_count l) (λ b high. own_blocks m l r b ∙ beyond r b high))

  pub kept : BlocksAreKept l s
  kept = record {
    worker = λ r low. as_first r
        ∙ (ap blocks_of (first_worker m l r low) ∙ no_more (length (falling (worker_blocks l * r) (worker_blocks l))) (worker_blocks l) (falling_length (worker_blocks l * r) (worker_blocks l)));
    keeper = as_first l.runners
        ∙ (ap blocks_of (first_keeper m l) ∙ no_more (length (falling (worker_blocks l * l.runners) (keeper_blocks l))) (keeper_blocks l) (falling_length (worker_blocks l * l.runners) (keeper_blocks l)));
  }

-- the one place where the numbers of blocks meet
pub enough_free : (l : Layout) (free limbo words : ℕ) → free + (limbo + 0) ≡ worker_blocks l → limbo ≤ most_linked * words → words < l.sections
    → attempt_blocks ≤ free
enough_free l free limbo words all few more = omega (arith, all, few, more)

pub reached_enough : (m : Meaning) → Laws m → (l : Layout) → IsWithinLimits l → (rs : List Request) → AreAllowed rs → (w : World)
    → Reached m l rs w → BlocksAreEnough l (sight m l rs w)
reached_enough m laws l limits rs allowed w reached r words low idle few more =
    let whole = reached_whole m laws l rs reached.events w limits allowed reached.after in
    let p = (sight m l rs w).part r in
    enough_free l (length p.blocks.free) (length p.blocks.limbo) words
    (ap (λ (o : Option RunState). length p.blocks.free + (length p.blocks.limbo + blocks_of_run o)) (sym idle)
    ∙ (kept m l whole.0 (sight m l rs w) whole.1).worker r low) few more

pub reached_blocks : (m : Meaning) → Laws m → (l : Layout) → IsWithinLimits l → (rs : List Request) → AreAllowed rs → (w : World)
    → Reached m l rs w → BlocksAreKept l (sight m l rs w)
reached_blocks m laws l limits rs allowed w reached =
    let whole = reached_whole m laws l rs reached.events w limits allowed reached.after in kept m l whole.0 (sight m l rs w) whole.1
