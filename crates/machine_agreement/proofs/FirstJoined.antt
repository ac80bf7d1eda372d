-- The first state is joined.
use Rattle.std.specs.Prelude.{◌==◌, nat_lt, slice_index, cond, Bool, true, false}
use Rattle.std.proofs.Common.{◌≡◌, ℕ, ◌+◌, ◌*◌, ◌<◌, ◌≤◌, List, [], sym, refl, ap, ◌∙◌, subst, arith}
use Rattle.std.specs.Prelude.{◌^◌}
use Rattle.std.proofs.lemmas.Bool.Decides.{nat_tests}
use Rattle.machine_states.specs.map_history.specs.declared.op.Request.{Request}
use Rattle.machine_states.specs.body_terms.specs.Word.{value_of, version_of, pack}
use Rattle.machine_states.specs.table_words.specs.declared.layout.Layout.{Layout}
use Rattle.machine_states.specs.table_words.specs.declared.spot.Spot.{Spot}
use Rattle.machine_states.specs.table_words.specs.declared.spot.Spot.TheVariants as spots
use Rattle.machine_states.specs.table_words.specs.Limits.{IsWithinLimits}
use Rattle.machine_states.specs.table_words.specs.Places.{Fits, fits, address}
use Rattle.machine_states.specs.table_words.specs.Seen.{blank}
use Rattle.machine_states.specs.table_words.proofs.Seen as words
use Rattle.machine_states.specs.structure_laws.specs.Meaning.{Meaning}
use Rattle.machine_states.specs.structure_laws.specs.Cells.{first_word}
use Rattle.machine_states.specs.structure_laws.specs.Laws.{FirstMemory}
use Rattle.machine_states.specs.runner_steps.specs.Asks.{sizes_for}
use Rattle.agreement_core.specs.Schedules.{first_state}
use Rattle.machine_states.specs.World.{World}
use Rattle.machine_states.specs.First.{IsFirst, first_part, keeper_part, worker_part, filled}
use Rattle.machine_states.specs.Sight.{Sight, sight}
use Rattle.machine_states.proofs.FirstSights.{first_parts}
use Rattle.agreement_core.proofs.Keeping as keeping
use Rattle.machine_scenes.specs.Shown.{rules_of}
use Rattle.machine_agreement.specs.Joined.{IsTied, IsJoinedToAgreement}

module _ (m : Meaning) (l : Layout) (rs : List Request) (w : World) (start : IsFirst m l rs w) where
  abbrev s : Sight
  s = sight m l rs w

  -- what holds of a word that is filled in, and of a blank one, holds of each first word
  first_has : (P : ℕ → Type 0) (a : Spot) → (Fits (sizes_for m l rs) a → P (filled m (sizes_for m l rs).cells a)) → P (blank a) → P (s.word a)
  first_has P a inside outside = by_fit (fits (sizes_for m l rs) a) refl
    where
      by_fit : (b : Bool) → fits (sizes_for m l rs) a ≡ b → P (s.word a)
      by_fit true e = let there = words.fits_means (sizes_for m l rs) a e in subst P (sym (start.words.seen a there)) (inside there)
      by_fit false e = subst P (sym (ap (λ b. cond b (slice_index w.words (address (sizes_for m l rs) a)) (blank a)) e)) outside

  nought : (a : Spot) → filled m (sizes_for m l rs).cells a ≡ 0 → blank a ≡ 0 → s.word a ≡ 0
  nought a inside outside = first_has (λ n. n ≡ 0) a (λ fit. inside) outside

  -- a runner that has done nothing is tied
  first_tied : (cells : ℕ → ℕ) (word : Spot → ℕ) (r : ℕ) (nodes descriptors blocks : List ℕ) → IsTied m l (first_state cells) word r (first_part nodes descriptors blocks)
  first_tied cells word r nodes descriptors blocks = record {
    run = refl;
    opened = λ q j e low more. absurd (let none = e in cc);
    begins = λ q e low. absurd (let none = e in cc);
    rests = λ q e all. absurd (let none = e in cc);
    released = λ q a e has. absurd (let none = e in cc);
    read = λ a b has. absurd (let none = has in cc);
    finishes = refl;
    finished = λ i f e. absurd (let none = e in cc);
  }

  part_tied : (cells : ℕ → ℕ) (r : ℕ) → IsTied m l (first_state cells) s.word r (s.part r)
  part_tied cells r = subst (IsTied m l (first_state cells) s.word r) (sym (first_parts m l w.parts start.parts r)) (by (r == l.runners) (nat_lt r l.runners))
    where
      by : (b b' : Bool) → IsTied m l (first_state cells) s.word r (cond b (keeper_part m l) (cond b' (worker_part m l r) (first_part [] [] [])))
      by true b' = first_tied cells s.word r _ _ _
      by false true = first_tied cells s.word r _ _ _
      by false false = first_tied cells s.word r [] [] []

  module _ (memory : FirstMemory m) (limits : IsWithinLimits l) where
    -- a first word has the version 1, and a lock's is free
    packed : (v : ℕ) → v < 2 ^ 32 → (version_of (pack v 1) ≡ 1) × (value_of (pack v 1) ≡ v)
    packed v small = (omega arith, omega arith)

    first_value : (p : ℕ) → (version_of (first_word m p) ≡ 1) × (m.is_lock p ≡ true → value_of (first_word m p) ≡ 0)
    first_value p = by (nat_lt p (m.fixed_cells + 5 * m.fixed_slots)) refl
      where
        below : (a b : ℕ) → nat_lt a b ≡ true → a < b
        below a b e = grind (arith, nat_tests)

        by : (b : Bool) → nat_lt p (m.fixed_cells + 5 * m.fixed_slots) ≡ b → (version_of (pack (cond b (m.first_value p) 0) 1) ≡ 1) × (m.is_lock p ≡ true → value_of (pack (cond b (m.first_value p) 0) 1) ≡ 0)
        by true e = let fixed = below p (m.fixed_cells + 5 * m.fixed_slots) e in let w = packed (m.first_value p) (memory.small p fixed) in (w.0, λ lock. w.1 ∙ memory.locks_free p fixed lock)
        by false e = (refl, λ lock. refl)

    abbrev cells : ℕ → ℕ
    cells p = s.word (spots.Cell p)

    version : (p : ℕ) → version_of (cells p) ≡ 1
    version p = first_has (λ n. version_of n ≡ 1) (spots.Cell p) (λ fit. ap version_of (filled_cell p fit) ∙ (first_value p).0) refl
      where
        filled_cell : (p : ℕ) → p < (sizes_for m l rs).cells → filled m (sizes_for m l rs).cells (spots.Cell p) ≡ first_word m p
        filled_cell p fit = inside p (sizes_for m l rs).cells (first_word m p) fit
          where
            inside : (p n v : ℕ) → p < n → cond (nat_lt p n) v 0 ≡ v
            inside p n v low = grind (arith, nat_tests)

    free : (p : ℕ) → m.is_lock p ≡ true → value_of (cells p) ≡ 0
    free p lock = first_has (λ n. value_of n ≡ 0) (spots.Cell p) (λ fit. ap value_of (inside p (sizes_for m l rs).cells (first_word m p) fit) ∙ (first_value p).1 lock) refl
      where
        inside : (p n v : ℕ) → p < n → cond (nat_lt p n) v 0 ≡ v
        inside p n v low = grind (arith, nat_tests)

    -- the first state of agreement belongs to the machine's
    pub first_joined : IsJoinedToAgreement m l (first_state cells) s
    first_joined = record {
      sound = keeping.first (rules_of m l) cells (record {
        positive = λ p. subst (λ n. 0 < n) (sym (version p)) (omega arith);
        bounded = λ p. subst (λ n. n ≤ l.version_max) (sym (version p)) (let some = limits.some_versions in omega arith);
        free = free;
      });
      words = record { cells = λ p. refl; clock = sym (nought spots.Clock refl refl); stamp = λ q. sym (nought (spots.Stamp q) refl refl); reply = λ q. sym (nought (spots.Reply q) refl refl) };
      sections = λ d. record { done = sym (nought (spots.DoneWord d) refl refl) };
      thunks = λ d used. absurd (let no = used in cc);
      tied = part_tied cells;
    }
