-- The table gives the core what it relies on.
use Rattle.std.proofs.Common.{◌≡◌, ◌≢◌, ℕ, suc, ◌+◌, ◌*◌, ◌<◌, ◌≤◌, Bool, true, false, cond, refl, sym, ap, ◌∙◌, subst, inl}
use Rattle.std.proofs.Common.{inr, ⊎_elim, arith}
use Rattle.std.specs.Prelude.{◌==◌, ◌&&◌, ◌||◌, ◌⊎◌, ◌-◌, ◌/◌, ◌%◌, nat_lt, [], ◌∷◌}
use Rattle.structure_laws.specs.table_words.specs.small_lemmas.proofs.Bools.{both_of as both_true, not_both}
use Rattle.structure_laws.specs.table_words.specs.small_lemmas.proofs.Lists.{same_number as some_same}
use Rattle.structure_laws.specs.table_words.specs.small_lemmas.proofs.Numbers.{suc_equal as suc_eq, tested_equal as equal_of}
use Rattle.structure_laws.specs.map_history.specs.declared.op.Op.{Op}
use Rattle.structure_laws.specs.map_history.specs.declared.op.Op.TheVariants.{Get, Ins, Del, Put, Mov}
use Rattle.structure_laws.specs.map_history.specs.Keys.{key_of, DependsOn}
use Rattle.structure_laws.specs.body_terms.specs.Word.{value_of, next_word}
use Rattle.bucket_bodies.specs.section_body.specs.Bucket.{bucket_lock, bucket_head}
use Rattle.structure_laws.specs.body_terms.specs.declared.value.Value.{Value}
use Rattle.structure_laws.specs.body_terms.specs.declared.step.Step.TheVariants.{Load, Want, Fresh, Store, Retire}
use Rattle.structure_laws.specs.table_words.specs.declared.layout.Layout.{Layout}
use Rattle.structure_laws.specs.table_words.specs.Limits.{IsWithinLimits}
use Rattle.structure_laws.specs.body_terms.specs.Update.{upd}
use Rattle.structure_laws.specs.Scene.{Cells, Section, Free, Live, Scene}
use Rattle.structure_laws.specs.Sections.{value_in, Here, IsStep, Holds, Settled}
use Rattle.structure_laws.specs.Cells.{InUse, Links, IsSafe}
use Rattle.structure_laws.specs.Sound.{Sound}
use Rattle.structure_laws.specs.Gives.{Gives}
use Rattle.structure_laws.proofs.Changes.{upd_other}
use Rattle.bucket_laws.specs.Walk.{cell_at}
use Rattle.bucket_laws.specs.Halves.{Kind, Look, Insert, Remove, Set, Rename, Side, Own, Other, Half, HasHalf, IsMaking}
use Rattle.bucket_laws.specs.TwoWalk.{side_op}
use Rattle.bucket_laws.specs.Buckets.{is_link_place, guard_of, IsNode, IsTargetOf, BucketsKept, table}
use Rattle.bucket_laws.proofs.HalfFit.{Serves}
use Rattle.bucket_laws.proofs.Halves.{Makes, Takes, half_is, store_late, step_of}
use Rattle.bucket_laws.proofs.Sections.{IsPlaceIn, target_place, fit, half_fit, walk_at, bucket_of, half_bucket, half_holds}
use Rattle.bucket_laws.proofs.Sections.{held_by, held_late, one_bucket, insert_head, take_target, set_target}
pub use Rattle.bucket_laws.proofs.Reaching.{reached, live_free, retired_free, live_retired}
use Rattle.bucket_laws.proofs.Walks.{reached_on}
use Rattle.bucket_laws.proofs.Places.{lt_true, lt_of, head_link, node_link, guard_low, guard_node}

-- a lock is no cell of a node
no_lock : (buckets t p : ℕ) → (nat_lt p (3 * buckets) && (p % 3 == 0)) ≡ true → p ≡ 3 * buckets + 5 * t + 1 → ⊥
no_lock buckets t p lock same = let low = lt_of p (3 * buckets) (both_true _ _ lock).0 in omega arith

-- a place behind the fixed cells whose node has its key at a cell of this slot is a cell of this slot
own_cell : (buckets t i q : ℕ) → i < 5 → 3 * buckets ≤ q → 3 * buckets + 5 * t + i ≡ 3 * buckets + 5 * ((q - 3 * buckets) / 5) + 1
    → (j : ℕ) × (j < 5) × (q ≡ 3 * buckets + 5 * t + j)
own_cell buckets t i q low high same = ((q - 3 * buckets) % 5, omega arith, omega arith)

-- a change of another place than the key of the place's node leaves the guard of the place
guard_stays : (buckets : ℕ) (bucket : ℕ → ℕ) (cells : Cells) (p w q : ℕ) → (3 * buckets ≤ q → cell_at buckets bucket ((q - 3 * buckets) / 5) 1 ≢ p)
    → guard_of buckets bucket (upd cells p w) q ≡ guard_of buckets bucket cells q
guard_stays buckets bucket cells p w q other = ⊎_elim
    (λ low. fixed (nat_lt q (3 * buckets)) (lt_true q (3 * buckets) low) _ _)
    (λ high. ap (λ word. cond (nat_lt q (3 * buckets)) (q - q % 3) (bucket_lock (bucket (value_of word)))) (upd_other cells p (cell_at buckets bucket ((q - 3 * buckets) / 5) 1) w (other high)))
    (split q (3 * buckets))
  where
    split : (a b : ℕ) → (a < b) ⊎ (b ≤ a)
    split a b = search arith

    fixed : (b : Bool) → b ≡ true → (x y : ℕ) → cond b (q - q % 3) x ≡ cond b (q - q % 3) y
    fixed true e x y = refl
    fixed false e x y = absurd (cc)

-- of two locks
pub same_bucket : (i j : ℕ) → bucket_lock i ≡ bucket_lock j → i ≡ j
same_bucket i j e = omega arith

-- the key on which an operation depends is the one or the other
key_side : (op : Op) (key : ℕ) → DependsOn op key → (side : Side) × Serves op side × (key_of (side_op op side) ≡ key)
key_side (Get k) key depends = (Own, tt, ⊎_elim (λ e. e) (λ e. absurd (cc)) depends)
key_side (Ins k value) key depends = (Own, tt, ⊎_elim (λ e. e) (λ e. absurd (cc)) depends)
key_side (Del k) key depends = (Own, tt, ⊎_elim (λ e. e) (λ e. absurd (cc)) depends)
key_side (Put k value) key depends = (Own, tt, ⊎_elim (λ e. e) (λ e. absurd (cc)) depends)
key_side (Mov from to) key depends = ⊎_elim (λ e. (Own, tt, e)) (λ e. other (some_same to key e)) depends
  where
    other : to ≡ key → (side : Side) × Serves (Mov from to) side × (key_of (side_op (Mov from to) side) ≡ key)
    other same = by (from == to) refl
      where
        by : (c : Bool) → (from == to) ≡ c
            → (side : Side) × Serves (Mov from to) side × (key_of (side_op (Mov from to) side) ≡ key)
        by true e = (Own, tt, equal_of from to e ∙ same)
        by false e = (Other, e, same)

module _ (two : Bool) (buckets : ℕ) (bucket : ℕ → ℕ) (small : (key : ℕ) → bucket key < buckets)
    (few : 3 * buckets ≤ 12288) (layout : Layout) (limits : IsWithinLimits layout) (s : Scene) (sound : Sound (table two buckets bucket) layout s)
    (kept : BucketsKept two buckets bucket layout s) where
  -- a head leads into its chain
  pub head_leads : (i t : ℕ) → i < buckets → value_of (s.cells (bucket_head i)) ≡ suc t → kept.on t ≡ true
  head_leads i t low leads = (kept.chains.head_on i t (ap (λ b. cond b (value_of (s.cells (bucket_head i))) 0) (lt_true i buckets low) ∙ leads)).0

  -- the node that a half is to take out stands in the chain
  pub target_on : (d : ℕ) (x : Section) (h : Half) → Here s d x → HasHalf two x h → h.wanted ≤ x.at → x.at ≤ h.change
      → Takes h.kind → kept.on h.gone ≡ true
  target_on d x h here has past early kind =
      let target = take_target two buckets bucket small few layout limits s sound kept d x h here has past early kind in
      ⊎_elim (λ head. head_leads (bucket_of two buckets bucket small few layout limits s sound kept x Own) h.gone (small (key_of (side_op x.op Own)))
      (ap (λ p. value_of (s.cells p)) (sym head) ∙ target.leads))
      (λ node. (kept.chains.next_on node.0 h.gone node.1.0 (ap (λ p. value_of (s.cells p)) (sym node.2) ∙ target.leads)).0)
      target.link

  -- the link of a half's new node leads into the chain
  made_leads : (d : ℕ) (x : Section) (h : Half) (t : ℕ) → Here s d x → HasHalf two x h → h.wanted ≤ x.at
      → x.at ≤ h.change → (k : Kind) → h.kind ≡ k → Makes k → h.next ≡ suc t → kept.on t ≡ true
  made_leads d x h t here has past early Look kind makes leads = absurd makes
  made_leads d x h t here has past early Insert kind makes leads =
      head_leads (bucket_of two buckets bucket small few layout limits s sound kept x h.side) t (small (key_of (side_op x.op h.side)))
      (sym (insert_head two buckets bucket small few layout limits s sound kept d x h here has past early kind) ∙ leads)
  made_leads d x h t here has past early Remove kind makes leads = absurd makes
  made_leads d x h t here has past early Set kind makes leads = absurd makes
  made_leads d x h t here has past early Rename kind makes leads =
      let takes : Takes h.kind = subst Takes (sym kind) tt in
      (kept.chains.next_on h.gone t (target_on d x h here has past early takes)
      ((take_target two buckets bucket small few layout limits s sound kept d x h here has past early takes).next ∙ leads)).0

  -- a live slot's link leads into a chain
  pub next_leads : (q t : ℕ) → s.status q ≡ Live → value_of (s.cells (cell_at buckets bucket q 3)) ≡ suc t → kept.on t ≡ true
  next_leads q t live leads = ⊎_elim (λ on. (kept.chains.next_on q t on leads).0)
      (λ owned. let half = owned.3 in ⊎_elim (λ made. new owned.0 owned.1 half.0 owned.2 half.1 made.0 made.1)
      (λ taken. let place = half_bucket two buckets bucket small few layout limits s sound kept owned.0 owned.1 half.0 owned.2 half.1 in
      ((kept.taken owned.0 owned.1 half.0 place.0 owned.2 half.1 place.2 taken.0).next t
      (ap (λ q. value_of (s.cells (cell_at buckets bucket q 3))) taken.1 ∙ leads)).0)
      half.2)
      (kept.live q live)
    where
      new : (d : ℕ) (x : Section) (h : Half) → Here s d x → HasHalf two x h → IsMaking x h
          → x.reg h.node_reg ≡ suc q → kept.on t ≡ true
      new d x h here has making reg =
          let made = kept.made d x h here has making in
          let same : made.0 ≡ q = suc_eq made.0 q (sym made.1 ∙ reg) in
          let early = making.0 in
          let late = making.1 in
          let kind = (half_is two x.thunk h has).insert.1 (omega arith) in
          made_leads d x h t here has (held_late two buckets bucket small few layout limits s sound kept x h has (omega arith)) making.1 h.kind refl kind
          (sym made.2.next ∙ ap (λ q. value_of (s.cells (cell_at buckets bucket q 3))) same ∙ leads)

  -- so every link in use does
  pub used_leads : (p t : ℕ) → InUse (table two buckets bucket) s p → Links (table two buckets bucket) s p t → kept.on t ≡ true
  used_leads p t used links = ⊎_elim
      (λ low. let head = head_link buckets p low links.0 in head_leads head.0 t head.1 (ap (λ p. value_of (s.cells p)) (sym head.2) ∙ links.1))
      (λ slot.
      let cell : slot.1.0 ≡ 3 = node_link buckets slot.0 slot.1.0 slot.1.1 (ap (is_link_place buckets bucket) (sym slot.1.2) ∙ links.0) in
      next_leads slot.0 t slot.2 (ap (λ i. value_of (s.cells (cell_at buckets bucket slot.0 i))) (sym cell) ∙ ap (λ p. value_of (s.cells p)) (sym slot.1.2) ∙ links.1)) used

  -- a section that can't leave any more knows each edition, and has loaded what it changes
  pub half_known : (x : Section) (h : Half) → HasHalf two x h → Settled (table two buckets bucket) x → h.wanted ≤ x.at
  half_known x h has settled =
      let half = half_is two x.thunk h has in
      let reads = half.reads in
      let first = reads.1 in
      let passed : x.at ≤ suc reads.0 → ⊥ = λ low. not_both refl
      (settled (suc reads.0) (Want h.edition_reg h.word) low reads.4) in
      omega arith

  pub half_settled : (x : Section) (h : Half) → HasHalf two x h → h.change < h.edition → Settled (table two buckets bucket) x
      → h.load < x.at
  half_settled x h has changes settled =
      let half = half_is two x.thunk h has in
      let passed : x.at ≤ suc h.load → ⊥ = λ low. not_both refl
      (settled (suc h.load) (Fresh h.target_reg) low (half.steps changes).1) in
      omega arith

  -- the node whose value is to be set stands in the chain
  pub set_node : (d : ℕ) (x : Section) (h : Half) → Here s d x → HasHalf two x h → h.wanted ≤ x.at → x.at ≤ h.change
      → h.kind ≡ Set
      → IsNode buckets bucket s.cells kept.on (bucket_of two buckets bucket small few layout limits s sound kept x Own) (walk_at two buckets bucket small few layout limits s sound kept x Own).slot
  set_node d x h here has past early kind = reached_on buckets bucket small s.cells kept.on kept.rank kept.chains
      (key_of (side_op x.op Own)) (walk_at two buckets bucket small few layout limits s sound kept x Own)
      (set_target two buckets bucket small few layout limits s sound kept d x h here has past early kind).reached

  -- the bucket of what a half takes out, or sets
  pub takes_in : (d : ℕ) (x : Section) (h : Half) (i : ℕ) → Here s d x → HasHalf two x h → h.lock ≡ bucket_lock i
      → Takes h.kind → bucket_of two buckets bucket small few layout limits s sound kept x Own ≡ i
  takes_in d x h i here has place kind = same_bucket (bucket_of two buckets bucket small few layout limits s sound kept x Own) i
      (sym ((half_fit two buckets bucket small few layout limits s sound kept d x h here has).takes kind).0.place ∙ place)

  pub puts_in : (d : ℕ) (x : Section) (h : Half) (i : ℕ) → Here s d x → HasHalf two x h → h.lock ≡ bucket_lock i
      → Makes h.kind → bucket_of two buckets bucket small few layout limits s sound kept x h.side ≡ i
  puts_in d x h i here has place kind = same_bucket (bucket_of two buckets bucket small few layout limits s sound kept x h.side) i
      (sym ((half_fit two buckets bucket small few layout limits s sound kept d x h here has).puts kind).0.place ∙ place)

  -- what a half changes, from the Want of the edition on
  pub target_now : (d : ℕ) (x : Section) (h : Half) (i : ℕ) → Here s d x → HasHalf two x h → h.lock ≡ bucket_lock i
      → h.change < h.edition → h.wanted ≤ x.at
      → x.at ≤ h.change → IsTargetOf buckets bucket h.kind s.cells kept.on i h.target
  target_now d x h i here has lock changes past early = by h.kind refl
    where
      by : (k : Kind) → h.kind ≡ k → IsTargetOf buckets bucket k s.cells kept.on i h.target
      by Look kind = let same = (half_is two x.thunk h has).look.0 kind in absurd (omega arith)
      by Insert kind = let place = ((half_fit two buckets bucket small few layout limits s sound kept d x h here has).heads kind).0 in omega arith
      by Remove kind = let takes : Takes h.kind = subst Takes (sym kind) tt in
          subst (λ i. IsTargetOf buckets bucket Remove s.cells kept.on i h.target) (takes_in d x h i here has lock takes)
          (take_target two buckets bucket small few layout limits s sound kept d x h here has past early takes).link
      by Set kind = let target = set_target two buckets bucket small few layout limits s sound kept d x h here has past early kind in
          let same = same_bucket (bucket_of two buckets bucket small few layout limits s sound kept x Own) i (sym ((half_fit two buckets bucket small few layout limits s sound kept d x h here has).sets kind).0.place ∙ lock) in
          subst (λ i. IsTargetOf buckets bucket Set s.cells kept.on i h.target) same
          ((walk_at two buckets bucket small few layout limits s sound kept x Own).slot, set_node d x h here has past early kind, target.place)
      by Rename kind = let takes : Takes h.kind = subst Takes (sym kind) tt in
          subst (λ i. IsTargetOf buckets bucket Rename s.cells kept.on i h.target) (takes_in d x h i here has lock takes)
          (take_target two buckets bucket small few layout limits s sound kept d x h here has past early takes).link

  -- as long as it is to be retired it is live, and of the half's bucket
  pub target_live : (d : ℕ) (x : Section) (h : Half) (i : ℕ) → Here s d x → HasHalf two x h → h.lock ≡ bucket_lock i
      → h.wanted ≤ x.at → x.at ≤ h.retire → Takes h.kind
      → (s.status h.gone ≡ Live) × (bucket (value_of (s.cells (cell_at buckets bucket h.gone 1))) ≡ i)
  target_live d x h i here has lock past early kind = ⊎_elim
      (λ before. (
        kept.on_live h.gone (target_on d x h here has past before kind),
        ap bucket (take_target two buckets bucket small few layout limits s sound kept d x h here has past before kind).key
            ∙ takes_in d x h i here has lock kind,
      ))
      (λ after. (
        (kept.owned d x h.gone here (h, has, inr ((after, early), refl))).0,
        (kept.taken d x h i here has lock (after, early)).key,
      ))
      (split x.at h.change)
    where
      split : (a b : ℕ) → (a ≤ b) ⊎ (b < a)
      split a b = search arith

  -- a place that a section loads is the edition's of a half's bucket, or what this half changes
  record IsLoaded (x : Section) (j p : ℕ) : Type 0 where
    pub half : Half
    pub has : HasHalf two x half
    pub held : half.held ≤ j
    pub at : ℕ
    pub low : at < buckets
    pub lock : half.lock ≡ bucket_lock at
    pub place : (p ≡ 3 * at + 1) ⊎ IsPlaceIn buckets bucket s.cells kept.on at p

  loaded_place : (d j p r : ℕ) (x : Section) → Here s d x → IsStep (table two buckets bucket) x j (Load p r)
      → ((h : Half) → HasHalf two x h → h.change < h.edition → j ≡ h.load → h.load ≤ x.at) → IsLoaded x j p
  loaded_place d j p r x here load past =
      let step = step_of two x.thunk j (Load p r) load in
      let h = step.0 in
      let half = half_is two x.thunk h step.1 in
      let reads = half.reads in
      let first = reads.1 in
      let held = reads.2 in
      let known = half.order.0 in
      let place = half_bucket two buckets bucket small few layout limits s sound kept d x h here step.1 in
      record {
        half = h;
        has = step.1;
        held = ⊎_elim (λ edition. let at = edition.0 in omega arith) (λ target. let at = target.1 in omega arith) step.2;
        at = place.0;
        low = place.1;
        lock = place.2;
        place = ⊎_elim (λ edition. inl (edition.2 ∙ ap (λ n. n + 1) place.2))
            (λ target. inr (subst (IsPlaceIn buckets bucket s.cells kept.on place.0) (sym target.3)
            (target_place buckets bucket h.kind s.cells kept.on place.0 h.target
            (kept.target d x h place.0 here step.1 place.2 target.0 (past h step.1 target.0 target.1))))) step.2;
      }

  -- the guard of a place is the lock of the half's bucket, which the section holds
  guarded : (d j p r : ℕ) (x : Section) → Here s d x → j ≤ x.at → IsStep (table two buckets bucket) x j (Load p r)
      → Holds (table two buckets bucket) x ((table two buckets bucket).guard s.cells p)
  guarded d j p r x here le load =
      let loaded = loaded_place d j p r x here load (λ h has changes at. omega arith) in
      let i = loaded.at in
      let lock : loaded.half.lock ≡ 3 * i = loaded.lock in
      let before = loaded.held in
      let holds = half_holds two buckets bucket small few layout limits s sound kept x loaded.half loaded.has (omega arith) in
      let guard : ℕ → ℕ = λ t. bucket_lock (bucket (value_of (s.cells (cell_at buckets bucket t 1)))) in
      let is : (table two buckets bucket).guard s.cells p ≡ 3 * i → Holds (table two buckets bucket) x ((table two buckets bucket).guard s.cells p) =
      λ same. subst (Holds (table two buckets bucket) x) (lock ∙ sym same) holds in
      let low : (rest : ℕ) → rest < 3 → p ≡ 3 * i + rest → Holds (table two buckets bucket) x ((table two buckets bucket).guard s.cells p) =
      λ rest third at. is (ap ((table two buckets bucket).guard s.cells) at ∙ guard_low buckets guard i rest loaded.low third) in
      ⊎_elim (λ edition. low 1 (omega arith) edition)
      (λ target. ⊎_elim (λ head. low 2 (omega arith) head)
      (λ node. let high = node.4 in is (ap ((table two buckets bucket).guard s.cells) node.5
      ∙ guard_node buckets guard node.0 node.1 (omega arith) ∙ ap bucket_lock node.2.1)) target)
      loaded.place

  -- what is still to be stored to is a fixed cell or a cell of a live slot
  store_used : (d i j p r : ℕ) (x : Section) (v : Value) → Here s d x → Settled (table two buckets bucket) x → x.at ≤ i → IsStep (table two buckets bucket) x i (Store r v) → IsStep (table two buckets bucket) x j (Load p r) → InUse (table two buckets bucket) s p
  store_used d i j p r x v here settled le store load =
      let loaded = loaded_place d j p r x here load
      (λ h has changes at. let past = half_settled x h has changes settled in omega arith) in
      let low = loaded.low in
      ⊎_elim (λ edition. inl (omega arith))
      (λ target. ⊎_elim (λ head. inl (omega arith))
      (λ node. let high = node.4 in inr (node.0, (node.1, omega arith, node.5), kept.on_live node.0 node.2.0)) target)
      loaded.place

  -- a Store is to an edition, a link or a value, so it leaves each key, and with it each guard
  steady_guard_store : (d j p q r : ℕ) (x : Section) (v : Value) → Here s d x → IsStep (table two buckets bucket) x x.at (Store r v) → IsStep (table two buckets bucket) x j (Load p r)
      → (table two buckets bucket).guard (upd s.cells p (next_word (x.reg r) (value_in x.reg v))) q ≡ (table two buckets bucket).guard s.cells q
  steady_guard_store d j p q r x v here store load =
      let t = (q - 3 * buckets) / 5 in
      let loaded = loaded_place d j p r x here load (λ h has changes at.
      let late = store_late two x.thunk h has x.at r v store in
      let half = half_is two x.thunk h has in
      let loaded = half.order.1 in
      omega arith) in
      let low = loaded.low in
      guard_stays buckets bucket s.cells p (next_word (x.reg r) (value_in x.reg v)) q (λ high same.
      ⊎_elim (λ edition. no_fixed p (3 * buckets + 5 * t + 1) (omega arith) (omega arith) same)
      (λ target. ⊎_elim (λ head. no_fixed p (3 * buckets + 5 * t + 1) (omega arith) (omega arith) same)
      (λ node. no_key node.0 t node.1 node.3 node.4 (same ∙ node.5)) target)
      loaded.place)
    where
      no_fixed : (p key : ℕ) → p < 3 * buckets → 3 * buckets ≤ key → key ≡ p → ⊥
      no_fixed p key low high same = omega arith

      no_key : (u t k : ℕ) → 2 ≤ k → k ≤ 3 → 3 * buckets + 5 * t + 1 ≡ 3 * buckets + 5 * u + k → ⊥
      no_key u t k low high same = omega arith

  -- a slot that is to be retired is live, and of the half's bucket
  record IsRetiring (x : Section) (j t : ℕ) : Type 0 where
    pub half : Half
    pub has : HasHalf two x half
    pub held : half.held ≤ x.at
    pub at : ℕ
    pub lock : half.lock ≡ bucket_lock at
    pub place : j ≡ half.retire
    pub live : s.status t ≡ Live
    pub key : bucket (value_of (s.cells (cell_at buckets bucket t 1))) ≡ at

  retiring : (d j t : ℕ) (x : Section) → Here s d x → Settled (table two buckets bucket) x → x.at ≤ j
      → IsStep (table two buckets bucket) x j (Retire t) → IsRetiring x j t
  retiring d j t x here settled le h =
      let step = step_of two x.thunk j (Retire t) h in
      let g = step.0 in
      let half = half_is two x.thunk g step.1 in
      let past = half_known x g step.1 settled in
      let place = half_bucket two buckets bucket small few layout limits s sound kept d x g here step.1 in
      let at = step.3 in
      let live = target_live d x g place.0 here step.1 place.2 past (omega arith) (half.remove.1 step.2) in
      record {
        half = g;
        has = step.1;
        held = held_by two buckets bucket small few layout limits s sound kept x g step.1 past;
        at = place.0;
        lock = place.2;
        place = at;
        live = ap s.status step.4 ∙ live.0;
        key = ap (λ t. bucket (value_of (s.cells (cell_at buckets bucket t 1)))) step.4 ∙ live.1;
      }

  -- the lock of each key's bucket is held by a section that can't leave any more
  key_held : (d : ℕ) (x : Section) → Here s d x → Settled (table two buckets bucket) x → (side : Side) → Serves x.op side
      → Holds (table two buckets bucket) x (bucket_lock (bucket_of two buckets bucket small few layout limits s sound kept x side))
  key_held d x here settled side served = ⊎_elim (λ outer. inl (sym outer))
      (λ half. subst (Holds (table two buckets bucket) x) half.2
      (half_holds two buckets bucket small few layout limits s sound kept x half.0 half.1 (held_by two buckets bucket small few layout limits s sound kept x half.0 half.1 (half_known x half.0 half.1 settled))))
      ((fit two buckets bucket small few layout limits s sound kept d x here).locked side served)

  pub table_gives : Gives (table two buckets bucket) layout s
  table_gives = record {
    guarded = guarded;
    walked = λ r readings op reader allowed i p w t h link leads. sound.within t (used t ((sound.readers r readings reader).safe i p w t h link leads));
    reach = λ readings t reader h. reached (is_link_place buckets bucket) readings t h;
    steady_store = λ d j p q r x v here store load. refl;
    steady_lock = λ p q w lock. refl;
    steady_hand = λ t i q w free low other. refl;
    steady_guard_store = steady_guard_store;
    steady_guard_lock = λ p q w lock. guard_stays buckets bucket s.cells p w q (λ high same. absurd (no_lock buckets ((q - 3 * buckets) / 5) p lock (sym same)));
    steady_guard_hand = λ t i q w free low other. guard_stays buckets bucket s.cells (cell_at buckets bucket t i) w q (λ high same. other (own_cell buckets t i q low high (sym same)));
    live = λ p t used links. kept.on_live t (used_leads p t used links);
    limbo = λ q y t i retired recent low links.
        let cell : i ≡ 3 = node_link buckets q i low links.0 in
        kept.limbo q y t retired recent (ap (λ i. value_of (s.cells (cell_at buckets bucket q i))) (sym cell) ∙ links.1);
    retire_live = λ d j t x here settled le h. (retiring d j t x here settled le h).live;
    retire_unfixed = λ d j t x here settled le h. omega arith;
    retire_once = λ d e i j t x y here there settled settled' le le' h h'.
        let one = retiring d i t x here settled le h in
        let other = retiring e j t y there settled' le' h' in
        let same = one_bucket two buckets bucket small few layout limits s sound kept d e x y one.half other.half here there one.has other.has one.held other.held
        (one.lock ∙ ap bucket_lock (sym one.key ∙ other.key) ∙ sym other.lock) in
        (same.0, one.place ∙ ap (λ h. h.retire) same.2 ∙ sym other.place);
    retire_unlinked = λ d t p x here h used links.
        let step = step_of two x.thunk x.at (Retire t) h in
        let lt = step.2 in
        let at = step.3 in
        not_both (used_leads p t used links)
        (kept.owned d x t here (step.0, step.1, inr ((omega arith, omega arith), sym step.4))).1;
    store_used = store_used;
    one_key = λ map d e x y here there ne settled settled' unstored unstored' key depends depends'.
        let one = key_side x.op key depends in
        let other = key_side y.op key depends' in
        sound.apart d e x y here there ne (bucket_lock (bucket_of two buckets bucket small few layout limits s sound kept x one.0)) (key_held d x here settled one.0 one.1)
        (subst (Holds (table two buckets bucket) y) (ap (λ k. bucket_lock (bucket k)) (other.2 ∙ sym one.2))
        (key_held e y there settled' other.0 other.1));
  }
    where
      used : (t : ℕ) → IsSafe s t → s.status t ≢ Free
      used t safe = ⊎_elim (λ live. live_free (s.status t) live) (λ retired. retired_free (s.status t) retired.0 retired.1) safe
