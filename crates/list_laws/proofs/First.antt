-- The first memory: the head, whose link leads to the tail.
use Rattle.std.proofs.Common.{◌≡◌, ◌≢◌, ℕ, zero, suc, ◌<◌, ◌≤◌, Bool, true, false, cond, refl, sym, ap, ◌∙◌, subst, inl, arith}
use Rattle.std.specs.Prelude.{◌*◌, nat_lt, Some, None}
use Rattle.std.specs.FinMap.{empty, get-empty}
use Rattle.std.specs.Ordering.{nat_cmp}
use Rattle.structure_laws.specs.body_terms.specs.Word.{value_of, pack}
use Rattle.structure_laws.specs.table_words.specs.declared.layout.Layout.{Layout}
use Rattle.structure_laws.specs.table_words.specs.Places.{slot_count}
use Rattle.structure_laws.specs.Scene.{Readings, Section, Free, Live, Retired, Scene}
use Rattle.structure_laws.specs.Laws.{IsFirst}
use Rattle.list_laws.specs.Line.{Nodes, rank, last_key, Line, Linked}
use Rattle.list_laws.specs.Nodes.{first_value, nodes, ListStands, ListKept, list}
use Rattle.list_laws.proofs.Line.{rank_low, le_self, never_less}

-- both fixed slots one by one
below : (P : ℕ → Type 0) → P 0 → P 1 → (s : ℕ) → nat_lt s 2 ≡ true → P s
below P a b zero h = a
below P a b (suc zero) h = b
below P a b (suc (suc s)) h = absurd (grind arith)

abbrev first_linked : ℕ → Bool
first_linked t = nat_lt t 2

-- the head before the tail
record IsFirstLine (n : Nodes) : Type 0 where
  pub head_next : n.next 0 ≡ 2
  pub tail_key : n.key 1 ≡ last_key
  pub tail_end : n.next 1 ≡ 0

module _ (n : Nodes) (first : IsFirstLine n) where
  rises : rank n 0 < rank n 1
  rises = let low = rank_low n 1 (λ e. let z = e in omega (arith, z)) in above (n.key 1) (rank n 1) low
    where
      above : (k r : ℕ) → 2 * k < r → 0 < r
      above k r h = omega (arith, h)

  tail_only : (t : ℕ) → n.next 0 ≡ suc t → t ≡ 1
  tail_only t h = let is = first.head_next in omega (arith, h, is)

  first_line : Line n first_linked
  first_line = record {
    head = refl;
    tail = refl;
    tail_key = first.tail_key;
    tail_end = first.tail_end;
    next_some = below (λ s. s ≢ 1 → 0 < n.next s) (λ ne. let is = first.head_next in omega (arith, is))
        (λ ne. absurd (ne refl));
    next_on = λ s t. below (λ s. s ≢ 1 → n.next s ≡ suc t → (first_linked t ≡ true) × (rank n s < rank n t))
        (λ ne h. let same = tail_only t h in
        (ap first_linked same, subst (λ k. rank n 0 < rank n k) (sym same) rises))
        (λ ne h. absurd (ne refl)) s;
    next_top = λ s t u. below (λ s. s ≢ 1 → n.next s ≡ suc t → first_linked u ≡ true → rank n s < rank n u
        → rank n t ≤ rank n u)
        (λ ne h on less. let same = tail_only t h in
        subst (λ k. rank n k ≤ rank n u) (sym same) (below (λ u. rank n 0 < rank n u → rank n 1 ≤ rank n u)
        (λ less. absurd (never_less (rank n 0) less)) (λ less. le_self (rank n 1)) u on less))
        (λ ne h. absurd (ne refl)) s;
    rank_once = λ s t on. below (λ s. first_linked t ≡ true → rank n s ≡ rank n t → s ≡ t)
        (λ on'. below (λ t. rank n 0 ≡ rank n t → 0 ≡ t) (λ e. refl) (λ e. absurd (apart e)) t on')
        (λ on'. below (λ t. rank n 1 ≡ rank n t → 1 ≡ t) (λ e. absurd (apart (sym e))) (λ e. refl) t on') s on;
    last = below (λ s. rank n s ≤ rank n 1) (omega arith) (le_self (rank n 1));
  }
    where
      apart : rank n 0 ≡ rank n 1 → ⊥
      apart e = never_less (rank n 1) (subst (λ k. k < rank n 1) e rises)

module _ (layout : Layout) (s : Scene) (first : IsFirst list s) where
  value_at : (p : ℕ) → value_of (s.cells p) ≡ value_of (pack (cond (nat_lt p 10) (first_value p) 0) 1)
  value_at p = ap value_of (first.cells p)

  is_first : IsFirstLine (nodes s.cells)
  is_first = record { head_next = value_at 2; tail_key = value_at 6; tail_end = value_at 7 }

  line : Line (nodes s.cells) first_linked
  line = first_line (nodes s.cells) is_first

  unmarked_at : (t : ℕ) → nat_lt t 2 ≡ true → (nodes s.cells).mark t ≡ 0
  unmarked_at = below (λ t. (nodes s.cells).mark t ≡ 0) (value_at 4) (value_at 9)

  live_fixed : (t : ℕ) → s.status t ≡ Live → nat_lt t 2 ≡ true
  live_fixed t live = go (nat_lt t 2) (sym (first.status t) ∙ live)
    where
      go : (b : Bool) → cond b Live Free ≡ Live → b ≡ true
      go true h = refl
      go false h = absurd (cc)

  fixed_live : (t : ℕ) → nat_lt t 2 ≡ true → s.status t ≡ Live
  fixed_live t fixed = first.status t ∙ ap (λ b. cond b Live Free) fixed

  used_fixed : (t : ℕ) → s.status t ≢ Free → nat_lt t 2 ≡ true
  used_fixed t used = go (nat_lt t 2) (first.status t)
    where
      go : (b : Bool) → s.status t ≡ cond b Live Free → b ≡ true
      go true h = refl
      go false h = absurd (used h)

  none_retired : (t y : ℕ) → s.status t ≡ Retired y → ⊥
  none_retired t y retired = go (nat_lt t 2) (sym (first.status t) ∙ retired)
    where
      go : (b : Bool) → cond b Live Free ≡ Retired y → ⊥
      go true h = cc
      go false h = cc

  no_reader : (r : ℕ) (readings : Readings) → s.reader r ≡ Some readings → ⊥
  no_reader r readings h = none_some (sym (first.reader r) ∙ h)
    where
      none_some : None ≡ Some readings → ⊥
      none_some e = cc

  no_section : (d : ℕ) (x : Section) → s.section d ≡ Some x → ⊥
  no_section d x h = none_some (sym (first.section d) ∙ h)
    where
      none_some : None ≡ Some x → ⊥
      none_some e = cc

  pub first_stands : ListStands (slot_count layout 2) s.cells empty
  first_stands = record {
    linked = first_linked;
    within = below (λ t. t < slot_count layout 2) (omega arith) (omega arith);
    line = line;
    unmarked = unmarked_at;
    contents = record {
      pair = λ t linked real. absurd (not_real t linked real);
      node = λ key value h. absurd (none_some value (sym (get-empty nat_cmp key) ∙ h));
    };
  }
    where
      not_real : (t : ℕ) → nat_lt t 2 ≡ true → 2 ≤ t → ⊥
      not_real t low high = grind arith

      none_some : (v : ℕ) → None ≡ Some v → ⊥
      none_some v e = cc

  -- the head's link leads to the tail
  pub first_kept : ListKept layout s
  first_kept = record {
    linked = first_linked;
    once = first_linked;
    line = line;
    linked_live = fixed_live;
    linked_once = λ t linked. linked;
    retired_once = λ t y retired. absurd (none_retired t y retired);
    once_used = λ t fixed free. live_free (sym (fixed_live t fixed) ∙ free);
    next_some = λ t used inner. line.next_some t (used_fixed t used) inner;
    mark_small = λ t used. let mark = unmarked_at t (used_fixed t used) in omega (arith, mark);
    unmarked = λ t once safe mark. once;
    trail = λ t u once safe inner link. let same = only t u once inner link in record {
      once_linked = ap first_linked same.1;
      no_head = λ e. let is = same.1 in omega (arith, e, is);
      order = λ some. absurd (some same.0);
    };
    leads = λ t once safe. Linked t once;
    marked = λ t linked mark. absurd (mark (unmarked_at t linked));
    live = λ t live. inl (live_fixed t live);
    limbo = λ t y u retired. absurd (none_retired t y retired);
    made = λ d x h. absurd (no_section d x h);
    taken = λ d x h. absurd (no_section d x h);
    behind = λ d x h. absurd (no_section d x h);
    readers = λ r readings h. absurd (no_reader r readings h);
    published = λ d x h. absurd (no_section d x h);
    walks = λ r readings op h. absurd (no_reader r readings h);
    sections = λ d x h. absurd (no_section d x h);
  }
    where
      live_free : Live ≡ Free → ⊥
      live_free e = cc

      only : (t u : ℕ) → nat_lt t 2 ≡ true → t ≢ 1 → (nodes s.cells).next t ≡ suc u → (t ≡ 0) × (u ≡ 1)
      only t u once inner = below (λ t. t ≢ 1 → (nodes s.cells).next t ≡ suc u → (t ≡ 0) × (u ≡ 1))
          (λ ne h. (refl, tail_only (nodes s.cells) is_first u h)) (λ ne h. absurd (ne refl)) t once inner
