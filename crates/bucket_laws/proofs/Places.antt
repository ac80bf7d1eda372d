-- Places of buckets and of nodes.
use Rattle.std.proofs.Common.{◌≡◌, ◌≢◌, ℕ, ◌+◌, ◌*◌, ◌<◌, ◌≤◌, Bool, true, false, cond, sym, ap, ◌∙◌, arith}
use Rattle.std.specs.Prelude.{◌==◌, ◌-◌, ◌/◌, ◌%◌, nat_lt}

pub lt_true : (a b : ℕ) → a < b → nat_lt a b ≡ true
lt_true a b h = grind arith

pub lt_false : (a b : ℕ) → b ≤ a → nat_lt a b ≡ false
lt_false a b h = grind arith

pub lt_of : (a b : ℕ) → nat_lt a b ≡ true → a < b
lt_of a b h = grind arith

pub eq_true : (a b : ℕ) → a ≡ b → (a == b) ≡ true
eq_true a b h = grind arith

pub eq_false : (a b : ℕ) → a ≢ b → (a == b) ≡ false
eq_false a b h = grind arith

-- a lock is no head, and a cell of a node is of one slot
pub head_lock : (i p : ℕ) → p % 3 ≡ 0 → 3 * i + 2 ≡ p → ⊥
head_lock i p at e = omega arith

pub one_slot : (n u t k i : ℕ) → k < 5 → i < 5 → n + 5 * u + k ≡ n + 5 * t + i → u ≡ t
one_slot n u t k i low low' e = omega arith

-- the part of a bucket's place
pub third : (i r : ℕ) → r < 3 → (3 * i + r) % 3 ≡ r
third i r h = omega arith

pub fifth : (n t r : ℕ) → r < 5 → (n + 5 * t + r - n) % 5 ≡ r
fifth n t r h = omega arith

pub slot_at : (n t r : ℕ) → r < 5 → (n + 5 * t + r - n) / 5 ≡ t
slot_at n t r h = omega arith

pub bucket_at : (p : ℕ) → p % 3 ≡ 2 → p ≡ 3 * (p / 3) + 2
bucket_at p h = omega arith

pub place_low : (i n r : ℕ) → i < n → r < 3 → 3 * i + r < 3 * n
place_low i n r low h = omega arith

module _ (buckets : ℕ) where
  -- whether a place is a link, of a bucket's place and of a node's cell
  abbrev pub link_place : ℕ → Bool
  link_place p = cond (nat_lt p (3 * buckets)) (p % 3 == 2) ((p - 3 * buckets) % 5 == 3)

  pub link_low : (p : ℕ) → p < 3 * buckets → link_place p ≡ (p % 3 == 2)
  link_low p low = ap (λ b. cond b (p % 3 == 2) ((p - 3 * buckets) % 5 == 3)) (lt_true p (3 * buckets) low)

  pub link_high : (p : ℕ) → 3 * buckets ≤ p → link_place p ≡ ((p - 3 * buckets) % 5 == 3)
  link_high p high = ap (λ b. cond b (p % 3 == 2) ((p - 3 * buckets) % 5 == 3)) (lt_false p (3 * buckets) high)

  -- a link among the fixed cells is a head
  pub head_link : (p : ℕ) → p < 3 * buckets → link_place p ≡ true → (i : ℕ) × (i < buckets) × (p ≡ 3 * i + 2)
  head_link p low h = let two : p % 3 ≡ 2 = equal_of (p % 3) 2 (sym (link_low p low) ∙ h) in (p / 3, omega arith, bucket_at p two)
    where
      equal_of : (a b : ℕ) → (a == b) ≡ true → a ≡ b
      equal_of a b h = grind arith

  -- a link in a node is its fourth cell
  pub node_link : (t i : ℕ) → i < 5 → link_place (3 * buckets + 5 * t + i) ≡ true → i ≡ 3
  node_link t i low h = sym (fifth (3 * buckets) t i low) ∙ equal_of ((3 * buckets + 5 * t + i - 3 * buckets) % 5) 3 (sym (link_high (3 * buckets + 5 * t + i) (omega arith)) ∙ h)
    where
      equal_of : (a b : ℕ) → (a == b) ≡ true → a ≡ b
      equal_of a b h = grind arith

  pub is_head_link : (i : ℕ) → i < buckets → link_place (3 * i + 2) ≡ true
  is_head_link i low = link_low (3 * i + 2) (omega arith) ∙ eq_true ((3 * i + 2) % 3) 2 (third i 2 (omega arith))

  pub is_node_link : (t : ℕ) → link_place (3 * buckets + 5 * t + 3) ≡ true
  is_node_link t = link_high (3 * buckets + 5 * t + 3) (omega arith) ∙ eq_true ((3 * buckets + 5 * t + 3 - 3 * buckets) % 5) 3 (fifth (3 * buckets) t 3 (omega arith))

  -- the guard of a bucket's place, and of a node's cell
  abbrev pub guard_place : (ℕ → ℕ) → ℕ → ℕ
  guard_place lock p = cond (nat_lt p (3 * buckets)) (p - p % 3) (lock ((p - 3 * buckets) / 5))

  pub guard_low : (lock : ℕ → ℕ) (i r : ℕ) → i < buckets → r < 3 → guard_place lock (3 * i + r) ≡ 3 * i
  guard_low lock i r low small = ap (λ b. cond b (3 * i + r - (3 * i + r) % 3) (lock ((3 * i + r - 3 * buckets) / 5))) (lt_true (3 * i + r) (3 * buckets) (place_low i buckets r low small))
      ∙ (let rest = third i r small in omega arith)

  pub guard_node : (lock : ℕ → ℕ) (t r : ℕ) → r < 5 → guard_place lock (3 * buckets + 5 * t + r) ≡ lock t
  guard_node lock t r small = ap (λ b. cond b (3 * buckets + 5 * t + r - (3 * buckets + 5 * t + r) % 3) (lock ((3 * buckets + 5 * t + r - 3 * buckets) / 5))) (lt_false (3 * buckets + 5 * t + r) (3 * buckets) (omega arith))
      ∙ ap lock (slot_at (3 * buckets) t r small)
