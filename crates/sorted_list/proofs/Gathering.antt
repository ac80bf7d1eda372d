-- Pairs are gathered node by node, along the links.
use Rattle.std.proofs.Common.{◌≡◌, ◌≢◌, ℕ, suc, ◌+◌, ◌*◌, ◌<◌, ◌≤◌, ⊎_elim, List, [], ◌∷◌, ◌++◌, true, refl, ap, arith, Option, Some, None}
use Rattle.std.specs.FinMap.{get, entries}
use Rattle.std.proofs.lemmas.Bool.{cases_eq}
use Rattle.list_walks.specs.structure_laws.specs.map_history.specs.Replay.{Pairs}
use Rattle.list_walks.specs.structure_laws.specs.Ranks.{lower}
use Rattle.list_walks.specs.structure_laws.specs.Scene.{Cells}
use Rattle.list_walks.specs.structure_laws.proofs.Lower.{lower_few, lower_falls}
use Rattle.list_walks.specs.list_laws.specs.shared_laws.proofs.Gathered.{none_yet, none_more, pair_more, all_pairs}
use Rattle.list_walks.specs.list_laws.specs.Line.{Nodes, rank}
use Rattle.list_walks.specs.list_laws.specs.Nodes.{nodes, ListStands}
use Rattle.list_walks.specs.list_laws.proofs.Line.{rank_unmarked, above_head}
use Rattle.sorted_list.specs.Gathered.{IsGathering}

module _ (slots : ℕ) (cells : Cells) (pairs : Pairs) (stands : ListStands slots cells pairs) where
  abbrev n : Nodes
  n = nodes cells

  abbrev Gathers : ℕ → ℕ → List (ℕ × ℕ) → Type 0
  Gathers = IsGathering slots cells pairs stands

  -- a linked node ranks by its key, the head below each other one
  rank_is : (s : ℕ) → stands.linked s ≡ true → s ≢ 0 → rank n s ≡ suc (suc (2 * n.key s))
  rank_is s on some = rank_unmarked n s some (stands.unmarked s on)

  -- behind a linked node
  module _ (s t : ℕ) (on : stands.linked s ≡ true) (inner : s ≢ 1) (leads : n.next s ≡ suc t) where
    next : (stands.linked t ≡ true) × (rank n s < rank n t)
    next = stands.line.next_on s t on inner leads

    next_behind : t ≢ 0
    next_behind = above_head n s t next.1

    key_rises : s ≢ 0 → n.key s < n.key t
    key_rises some = let is = rank_is s on some in let is' = rank_is t next.0 next_behind in let rises = next.1 in omega (arith, is, is', rises)

    -- the map has no key up to the next one's
    none_between : (q : ℕ) → (s ≢ 0 → n.key s < q) → q < n.key t → get pairs q ≡ None
    none_between q above low = by (get pairs q) refl
      where
        by : (o : Option ℕ) → get pairs q ≡ o → o ≡ None
        by None e = refl
        by (Some v) e =
            let found = stands.contents.node q v e in
            let u = found.0 in
            let two = found.2 in
            let is = rank_is u found.1 (λ e. omega (arith, two, e)) in
            let key = found.3 in
            let is' = rank_is t next.0 next_behind in
            let ranks : rank n s < rank n u = ⊎_elim
            (λ e. let none : rank n s ≡ 0 = ap (rank n) e in omega (arith, none, is))
            (λ some. let own = rank_is s on some in let more = above some in omega (arith, own, is, key, more)) (cases_eq s 0) in
            let top = stands.line.next_top s t u on inner leads found.1 ranks in
            absurd (omega (arith, top, is, is', key, low))

    -- one more node ranks below the next one
    one_more : lower stands.linked (rank n) slots s < lower stands.linked (rank n) slots t
    one_more = lower_falls stands.linked (rank n) slots stands.within t s on next.1

  -- behind the head nothing was gathered
  pub begins : (t : ℕ) → n.next 0 ≡ suc t → Gathers 0 t []
  begins t leads = record {
    linked = (next 0 t stands.line.head (λ e. omega (arith, e)) leads).0;
    behind_head = next_behind 0 t stands.line.head (λ e. omega (arith, e)) leads;
    has = none_more pairs 0 (n.key t) [] (none_yet pairs) (omega arith)
        (λ q from low. none_between 0 t stands.line.head (λ e. omega (arith, e)) leads q
        (λ some. absurd (some refl)) low);
    few = omega arith;
  }

  module _ (passed s : ℕ) (items : List (ℕ × ℕ)) (so : Gathers passed s items) where
    pub within : s < slots
    within = stands.within s so.linked

    -- so the nodes that were passed are fewer than there are slots
    pub few : passed < slots
    few = let most = so.few in let low = lower_few stands.linked (rank n) slots stands.within s so.linked in omega (arith, most, low)

    -- one node further
    pub goes_on : (t : ℕ) → s ≢ 1 → n.next s ≡ suc t → Gathers (passed + 1) t (items ++ (n.key s, n.value s) ∷ [])
    goes_on t inner leads = record {
      linked = (next s t so.linked inner leads).0;
      behind_head = next_behind s t so.linked inner leads;
      has = pair_more pairs (n.key s) (n.key t) items so.has (n.value s)
          (stands.contents.pair s so.linked (real s so.behind_head inner))
          (key_rises s t so.linked inner leads so.behind_head)
          (λ q above. none_between s t so.linked inner leads q (λ some. above));
      few = let most = so.few in let more = one_more s t so.linked inner leads in omega (arith, most, more);
    }
      where
        real : (s : ℕ) → s ≢ 0 → s ≢ 1 → 2 ≤ s
        real s some inner = omega (arith, some, inner)

  -- at the tail all pairs were gathered
  pub gathered : (passed : ℕ) (items : List (ℕ × ℕ)) → Gathers passed 1 items → items ≡ entries pairs
  gathered passed items so = all_pairs pairs (n.key 1) items so.has below
    where
      below : (q v : ℕ) → get pairs q ≡ Some v → q < n.key 1
      below q v e =
          let found = stands.contents.node q v e in
          let u = found.0 in
          let two = found.2 in
          let last = stands.line.last u found.1 in
          let is = rank_is u found.1 (λ e. omega (arith, two, e)) in
          let is' = rank_is 1 stands.line.tail (λ e. omega (arith, e)) in
          let key = found.3 in
          let apart : rank n u ≢ rank n 1 = λ same. let e = stands.line.rank_once u 1 found.1 stands.line.tail same in omega (arith, two, e) in
          omega (arith, last, is, is', key, apart)
