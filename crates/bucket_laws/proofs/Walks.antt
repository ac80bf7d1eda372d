-- What a load adds to a walk, and what one more reading does.
use Rattle.std.proofs.Common.{◌≡◌, ◌≢◌, ℕ, zero, suc, ◌<◌, ◌≤◌, Bool, true, false, cond, refl, sym, ap, ◌∙◌, subst, inl, inr, ⊎_elim, arith}
use Rattle.std.specs.Prelude.{◌==◌, ◌&&◌, not, ◌-◌, ◌⊎◌, nat_lt, nat_le, Option, Some, None, [], ◌∷◌, ◌++◌}
use Rattle.std.proofs.lemmas.Option.{none-some}
use Rattle.std.proofs.lemmas.Bool.{both_ways}
use Rattle.structure_laws.specs.table_words.specs.small_lemmas.proofs.Lists.{same_number as some_eq}
use Rattle.structure_laws.specs.table_words.specs.small_lemmas.proofs.Numbers.{suc_equal}
use Rattle.structure_laws.specs.table_words.specs.small_lemmas.proofs.Numbers.{tested_equal as is_eq, tested_other as is_not, zero_not_suc as zero_suc}
use Rattle.structure_laws.specs.map_history.specs.declared.op.Op.{Op}
use Rattle.structure_laws.specs.map_history.specs.Keys.{key_of}
use Rattle.structure_laws.specs.body_terms.specs.Word.{value_of, is_free, is_spent}
use Rattle.bucket_bodies.specs.section_body.specs.Bucket.{bucket_head}
use Rattle.structure_laws.specs.Scene.{Cells, Readings}
use Rattle.bucket_laws.specs.Chain.{Chains}
use Rattle.bucket_laws.specs.Walk.{Stage, AtEdition, AtLink, AtKey, AtValue, AtNext, AtLock, AtEnd, Refused, Walk, is_del, is_wanted, Bounds, cell_at, wanted_at, fed, walk}
use Rattle.bucket_laws.specs.Buckets.{nodes, IsNode, IsAhead, IsReached, Knows}

pub bool_cases : {A : Type 0} → (b : Bool) → (b ≡ true → A) → (b ≡ false → A) → A
bool_cases true f g = f refl
bool_cases false f g = g refl

clip_in : (i n a : ℕ) → i < n → cond (nat_lt i n) a 0 ≡ a
clip_in i n a low = grind arith

before_suc : (v : ℕ) → v ≢ 0 → v ≡ suc (v - 1)
before_suc v h = omega arith

pub wanted_eq : (o : Option ℕ) (p : ℕ) → is_wanted o p ≡ true → o ≡ Some p
wanted_eq None p h = absurd (cc)
wanted_eq (Some q) p h = ap Some (is_eq q p h)

module _ (buckets : ℕ) (bucket : ℕ → ℕ) (small : (key : ℕ) → bucket key < buckets) where
  pub head_is : (cells : Cells) (key : ℕ) → (nodes buckets bucket cells).head (bucket key) ≡ value_of (cells (bucket_head (bucket key)))
  head_is cells key = clip_in (bucket key) buckets (value_of (cells (bucket_head (bucket key)))) (small key)

  -- the slot to which the last link leads stands in the chain
  pub reached_on : (cells : Cells) (on : ℕ → Bool) (rank : ℕ → ℕ) → Chains bucket (nodes buckets bucket cells) on rank → (key : ℕ) (w : Walk) → IsReached buckets bucket cells on (bucket key) w → IsNode buckets bucket cells on (bucket key) w.slot
  reached_on cells on rank chains key w reached = ⊎_elim
      (λ head. chains.head_on (bucket key) w.slot (head_is cells key ∙ ap (λ p. value_of (cells p)) (sym head) ∙ reached.1))
      (λ link. let there = chains.next_on link.0 w.slot link.1.0 (ap (λ p. value_of (cells p)) (sym link.2) ∙ reached.1) in (there.0, there.1 ∙ link.1.1)) reached.0

  pub ahead_head : (cells : Cells) (on : ℕ → Bool) (rank : ℕ → ℕ) → Chains bucket (nodes buckets bucket cells) on rank → (key : ℕ) → IsAhead buckets bucket cells on rank key (value_of (cells (bucket_head (bucket key))))
  ahead_head cells on rank chains key u on_u same = split (value_of (cells (bucket_head (bucket key)))) refl
    where
      split : (link : ℕ) → value_of (cells (bucket_head (bucket key))) ≡ link → (t : ℕ) × (link ≡ suc t) × (rank u ≤ rank t)
      split zero e = absurd (chains.head_none (bucket key) u (head_is cells key ∙ e) on_u (ap bucket same))
      split (suc t) e = (t, refl, chains.head_top (bucket key) t u (head_is cells key ∙ e) on_u (ap bucket same))

  ahead_next : (cells : Cells) (on : ℕ → Bool) (rank : ℕ → ℕ) → Chains bucket (nodes buckets bucket cells) on rank → (key s : ℕ) → IsNode buckets bucket cells on (bucket key) s
      → value_of (cells (cell_at buckets bucket s 1)) ≢ key → IsAhead buckets bucket cells on rank key (suc s) → IsAhead buckets bucket cells on rank key (value_of (cells (cell_at buckets bucket s 3)))
  ahead_next cells on rank chains key s node other ahead u on_u same = split (value_of (cells (cell_at buckets bucket s 3))) refl
    where
      lower : rank u < rank s
      lower =
          let here = ahead u on_u same in
          let at : s ≡ here.0 = suc_equal s here.0 here.1 in
          let le : rank u ≤ rank s = subst (λ z. rank u ≤ rank z) (sym at) here.2 in
          let ne : rank u ≢ rank s = λ e. other (sym (ap (λ z. value_of (cells (cell_at buckets bucket z 1))) (chains.rank_once u s on_u node.0 (ap bucket same ∙ sym node.1) e)) ∙ same) in
          omega arith

      split : (link : ℕ) → value_of (cells (cell_at buckets bucket s 3)) ≡ link → (t : ℕ) × (link ≡ suc t) × (rank u ≤ rank t)
      split zero e = absurd (let last = chains.next_none s u node.0 e on_u (ap bucket same ∙ sym node.1) in let below = lower in omega arith)
      split (suc t) e = (t, refl, chains.next_top s t u node.0 e on_u (ap bucket same ∙ sym node.1) lower)

  head_fact : (cells : Cells) (head place i : ℕ) → (place ≢ bucket_head i → head ≡ value_of (cells (bucket_head i)))
      → cond (place == bucket_head i) (value_of (cells place)) head ≡ value_of (cells (bucket_head i))
  head_fact cells head place i same = bool_cases (place == bucket_head i)
      (λ e. ap (λ b. cond b (value_of (cells place)) head) e ∙ ap (λ p. value_of (cells p)) (is_eq place (bucket_head i) e))
      (λ e. ap (λ b. cond b (value_of (cells place)) head) e ∙ same (is_not place (bucket_head i) e))

  module _ (b : Bounds) (cells : Cells) (on : ℕ → Bool) (rank : ℕ → ℕ) (chains : Chains bucket (nodes buckets bucket cells) on rank) (op : Op) (w : Walk) where
    abbrev K : Walk → Stage → Type 0
    K = Knows buckets bucket cells on rank op

    -- the walk behind a link
    abbrev behind : Stage → Walk
    behind stage = record w {
      stage = stage;
      links = suc w.links;
      head = cond (w.place == bucket_head (bucket (key_of op))) (value_of (cells w.place)) w.head;
      slot = value_of (cells w.place) - 1;
      found = false;
    }

    link_fed : K w AtLink → (none far : Bool) → (value_of (cells w.place) == 0) ≡ none → K (behind (cond none AtLock (cond far Refused AtKey))) (cond none AtLock (cond far Refused AtKey))
    link_fed known true far e = (
      head_fact cells w.head w.place (bucket (key_of op)) known.2,
      λ found. absurd (cc),
      λ missing u on_u same. let there = known.1 u on_u same in zero_suc there.0 (sym (is_eq (value_of (cells w.place)) 0 e) ∙ there.1),
    )
    link_fed known false true e = tt
    link_fed known false false e =
        let some = before_suc (value_of (cells w.place)) (is_not (value_of (cells w.place)) 0 e) in
        ((known.0, some), subst (λ link. IsAhead buckets bucket cells on rank (key_of op) link) some known.1, head_fact cells w.head w.place (bucket (key_of op)) known.2)

    key_fed : K w AtKey → (same : Bool) → (value_of (cells (cell_at buckets bucket w.slot 1)) == key_of op) ≡ same
        → (x : Walk) → x ≡ cond same (record w { stage = AtValue }) (record w { stage = AtLink; place = cell_at buckets bucket w.slot 3 }) → K x x.stage
    key_fed known true e x is = subst (λ z. K z z.stage) (sym is) (known.0, is_eq (value_of (cells (cell_at buckets bucket w.slot 1))) (key_of op) e, known.2)
    key_fed known false e x is =
        let node = reached_on cells on rank chains (key_of op) w known.0 in
        subst (λ z. K z z.stage) (sym is) (inr (w.slot, node, refl), ahead_next cells on rank chains (key_of op) w.slot node (is_not (value_of (cells (cell_at buckets bucket w.slot 1))) (key_of op) e) known.1, λ ne. known.2)

    value_fed : K w AtValue → (del : Bool) → is_del op ≡ del → K (record w { stage = cond del AtNext AtLock; value = value_of (cells (cell_at buckets bucket w.slot 2)); found = true }) (cond del AtNext AtLock)
    value_fed known true e = (known.0, known.1, refl, known.2)
    value_fed known false e = (known.2, λ found. (known.0, known.1, refl, λ del. absurd (both_ways _ e del)), λ missing. absurd (cc))

    next_fed : K w AtNext → K (record w { stage = AtLock; next = value_of (cells (cell_at buckets bucket w.slot 3)); found = true }) AtLock
    next_fed known = (known.3, λ found. (known.0, known.1, known.2, λ del. refl), λ missing. absurd (cc))

    lock_fed : K w AtLock → (takable : Bool) (word : ℕ) → K (record w { stage = cond takable AtEnd Refused; word = word }) (cond takable AtEnd Refused)
    lock_fed known true word = (known.0, known.1, known.2)
    lock_fed known false word = tt

    -- a load of the place that the walk wants adds to what it knows
    pub knows_fed : (stage : Stage) (p : ℕ) → wanted_at buckets bucket (bucket (key_of op)) w stage ≡ Some p → K w stage
        → K (fed buckets bucket b op w stage (cells p)) (fed buckets bucket b op w stage (cells p)).stage
    knows_fed AtEdition p want known = (inl refl, ahead_head cells on rank chains (key_of op), λ ne. absurd (ne refl))
    knows_fed AtLink p want known = subst (λ p. K (fed buckets bucket b op w AtLink (cells p)) (fed buckets bucket b op w AtLink (cells p)).stage) (some_eq w.place p want)
        (link_fed known (value_of (cells w.place) == 0) (nat_le b.links (suc w.links)) refl)
    knows_fed AtKey p want known = subst (λ p. K (fed buckets bucket b op w AtKey (cells p)) (fed buckets bucket b op w AtKey (cells p)).stage) (some_eq (cell_at buckets bucket w.slot 1) p want)
        (key_fed known (value_of (cells (cell_at buckets bucket w.slot 1)) == key_of op) refl _ refl)
    knows_fed AtValue p want known = subst (λ p. K (fed buckets bucket b op w AtValue (cells p)) (fed buckets bucket b op w AtValue (cells p)).stage) (some_eq (cell_at buckets bucket w.slot 2) p want)
        (value_fed known (is_del op) refl)
    knows_fed AtNext p want known = subst (λ p. K (fed buckets bucket b op w AtNext (cells p)) (fed buckets bucket b op w AtNext (cells p)).stage) (some_eq (cell_at buckets bucket w.slot 3) p want) (next_fed known)
    knows_fed AtLock p want known = lock_fed known (is_free (cells p) && not (is_spent b.version_max (cells p))) (cells p)
    knows_fed AtEnd p want known = absurd (none-some p want)
    knows_fed Refused p want known = absurd (none-some p want)

  -- one more reading: the walk stays as it was, or goes on by it
  pub walk_push : (b : Bounds) (op : Op) (w : Walk) (readings : Readings) (p n : ℕ)
      → (walk buckets bucket b op w (readings ++ (p, n) ∷ []) ≡ walk buckets bucket b op w readings)
      ⊎ ((wanted_at buckets bucket (bucket (key_of op)) (walk buckets bucket b op w readings) (walk buckets bucket b op w readings).stage ≡ Some p)
      × (walk buckets bucket b op w (readings ++ (p, n) ∷ []) ≡ fed buckets bucket b op (walk buckets bucket b op w readings) (walk buckets bucket b op w readings).stage n))
  unfolding walk
  walk_push b op w [] p n = bool_cases (is_wanted (wanted_at buckets bucket (bucket (key_of op)) w w.stage) p)
      (λ e. inr (wanted_eq _ p e, ap (λ c. cond c (fed buckets bucket b op w w.stage n) w) e))
      (λ e. inl (ap (λ c. cond c (fed buckets bucket b op w w.stage n) w) e))
  walk_push b op w (reading ∷ readings) p n = go (is_wanted (wanted_at buckets bucket (bucket (key_of op)) w w.stage) reading.0) (walk_push b op (fed buckets bucket b op w w.stage reading.1) readings p n)
    where
      go : (c : Bool) → ((walk buckets bucket b op (fed buckets bucket b op w w.stage reading.1) (readings ++ (p, n) ∷ []) ≡ walk buckets bucket b op (fed buckets bucket b op w w.stage reading.1) readings)
          ⊎ ((wanted_at buckets bucket (bucket (key_of op)) (walk buckets bucket b op (fed buckets bucket b op w w.stage reading.1) readings) (walk buckets bucket b op (fed buckets bucket b op w w.stage reading.1) readings).stage ≡ Some p)
          × (walk buckets bucket b op (fed buckets bucket b op w w.stage reading.1) (readings ++ (p, n) ∷ []) ≡ fed buckets bucket b op (walk buckets bucket b op (fed buckets bucket b op w w.stage reading.1) readings) (walk buckets bucket b op (fed buckets bucket b op w w.stage reading.1) readings).stage n)))
          → (cond c (walk buckets bucket b op (fed buckets bucket b op w w.stage reading.1) (readings ++ (p, n) ∷ [])) w ≡ cond c (walk buckets bucket b op (fed buckets bucket b op w w.stage reading.1) readings) w)
          ⊎ ((wanted_at buckets bucket (bucket (key_of op)) (cond c (walk buckets bucket b op (fed buckets bucket b op w w.stage reading.1) readings) w) (cond c (walk buckets bucket b op (fed buckets bucket b op w w.stage reading.1) readings) w).stage ≡ Some p)
          × (cond c (walk buckets bucket b op (fed buckets bucket b op w w.stage reading.1) (readings ++ (p, n) ∷ [])) w ≡ fed buckets bucket b op (cond c (walk buckets bucket b op (fed buckets bucket b op w w.stage reading.1) readings) w) (cond c (walk buckets bucket b op (fed buckets bucket b op w w.stage reading.1) readings) w).stage n))
      go true h = h
      go false h = inl refl

  pub is_first : (stage : Stage) → (stage ≡ AtEdition) ⊎ (stage ≢ AtEdition)
  is_first AtEdition = inl refl
  is_first AtLink = inr (λ e. cc)
  is_first AtKey = inr (λ e. cc)
  is_first AtValue = inr (λ e. cc)
  is_first AtNext = inr (λ e. cc)
  is_first AtLock = inr (λ e. cc)
  is_first AtEnd = inr (λ e. cc)
  is_first Refused = inr (λ e. cc)

  -- once the edition was read it stays as it was read
  pub edition_kept : (b : Bounds) (op : Op) (w : Walk) (stage : Stage) (n : ℕ) → stage ≢ AtEdition → (fed buckets bucket b op w stage n).edition ≡ w.edition
  edition_kept b op w AtEdition n ne = absurd (ne refl)
  edition_kept b op w AtLink n ne = refl
  edition_kept b op w AtKey n ne = pick (value_of n == key_of op)
    where
      pick : (c : Bool) → (cond c (record w { stage = AtValue }) (record w { stage = AtLink; place = cell_at buckets bucket w.slot 3 })).edition ≡ w.edition
      pick true = refl
      pick false = refl
  edition_kept b op w AtValue n ne = refl
  edition_kept b op w AtNext n ne = refl
  edition_kept b op w AtLock n ne = refl
  edition_kept b op w AtEnd n ne = refl
  edition_kept b op w Refused n ne = refl
