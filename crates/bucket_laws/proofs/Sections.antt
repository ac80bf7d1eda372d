-- What holds of an open section of the hash table.
use Rattle.std.proofs.Common.{◌≡◌, ◌≢◌, ℕ, suc, ◌+◌, ◌*◌, ◌<◌, ◌≤◌, Bool, refl, sym, ap, ◌∙◌, subst, inl, inr, ⊎_elim, arith}
use Rattle.std.specs.Prelude.{◌⊎◌, ◌^◌, Some}
use mathlib.Core.Logic.{dite}
use native.Mathlib.Decide.{ℕ_discrete}
use Rattle.structure_laws.specs.table_words.specs.small_lemmas.proofs.Lists.{some_same as some_inj}
use Rattle.structure_laws.specs.map_history.specs.Keys.{key_of}
use Rattle.structure_laws.specs.body_terms.specs.Word.{value_of}
use Rattle.bucket_bodies.specs.section_body.specs.Bucket.{bucket_lock, bucket_edition, bucket_head, operand}
use Rattle.structure_laws.specs.table_words.specs.declared.layout.Layout.{Layout}
use Rattle.structure_laws.specs.table_words.specs.Limits.{IsWithinLimits}
use Rattle.structure_laws.specs.table_words.specs.Places.{slot_count}
use Rattle.structure_laws.specs.Scene.{Cells, Section, Free, Scene}
use Rattle.structure_laws.specs.Sections.{Here, Holds}
use Rattle.structure_laws.specs.Cells.{IsSafe}
use Rattle.structure_laws.specs.Sound.{Sound}
use Rattle.bucket_laws.specs.Halves.{Kind, Look, Insert, Remove, Set, Rename, Side, Own, Half, HasHalf, IsPending}
use Rattle.bucket_laws.specs.Walk.{Stage, AtEdition, AtLock, AtEnd, Walk, cell_at}
use Rattle.bucket_laws.specs.TwoWalk.{side_op}
use Rattle.bucket_laws.specs.Buckets.{is_link_place, IsNode, IsLinkOf, IsTargetOf, IsReached, IsMissing, Knows}
use Rattle.bucket_laws.specs.Buckets.{walk_by, bucket_by, bounds, BucketsKept, table}
use Rattle.bucket_laws.proofs.Reaching.{reached, live_free, retired_free}
use Rattle.bucket_laws.proofs.TwoWalks.{side_facts}
use Rattle.bucket_laws.proofs.WalkFacts.{Gives}
use Rattle.bucket_laws.proofs.HalfFit.{OpFit, HalfFit, Sees, op_fit}
use Rattle.bucket_laws.proofs.Halves.{Makes, Takes, half_is, store_is}

module _ (buckets : ℕ) (bucket : ℕ → ℕ) where
  -- what a half changes is the head of its bucket, or the value's or the link's cell of a node in its chain
  abbrev pub IsPlaceIn : Cells → (ℕ → Bool) → ℕ → ℕ → Type 0
  IsPlaceIn cells on i p = (p ≡ bucket_head i)
      ⊎ ((t k : ℕ) × IsNode buckets bucket cells on i t × (2 ≤ k) × (k ≤ 3) × (p ≡ cell_at buckets bucket t k))

  pub target_place : (k : Kind) (cells : Cells) (on : ℕ → Bool) (i p : ℕ) → IsTargetOf buckets bucket k cells on i p
      → IsPlaceIn cells on i p
  target_place Look cells on i p target = absurd target
  target_place Insert cells on i p target = inl target
  target_place Remove cells on i p target =
      ⊎_elim inl (λ node. inr (node.0, 3, node.1, omega arith, omega arith, node.2)) target
  target_place Set cells on i p target = inr (target.0, 2, target.1, omega arith, omega arith, target.2)
  target_place Rename cells on i p target =
      ⊎_elim inl (λ node. inr (node.0, 3, node.1, omega arith, omega arith, node.2)) target

  -- it goes on to be that where no node of the bucket is lost
  pub target_stays : (k : Kind) (cells cells' : Cells) (on on' : ℕ → Bool) (i p : ℕ)
      → ((t : ℕ) → IsNode buckets bucket cells on i t → IsNode buckets bucket cells' on' i t)
      → IsTargetOf buckets bucket k cells on i p → IsTargetOf buckets bucket k cells' on' i p
  target_stays Look cells cells' on on' i p stays target = target
  target_stays Insert cells cells' on on' i p stays target = target
  target_stays Remove cells cells' on on' i p stays target =
      ⊎_elim inl (λ node. inr (node.0, stays node.0 node.1, node.2)) target
  target_stays Set cells cells' on on' i p stays target = (target.0, stays target.0 target.1, target.2)
  target_stays Rename cells cells' on on' i p stays target =
      ⊎_elim inl (λ node. inr (node.0, stays node.0 node.1, node.2)) target

-- what holds of a half of an open section
module _ (two : Bool) (buckets : ℕ) (bucket : ℕ → ℕ) (small : (key : ℕ) → bucket key < buckets)
    (few : 3 * buckets ≤ 12288) (layout : Layout) (limits : IsWithinLimits layout) (s : Scene) (sound : Sound (table two buckets bucket) layout s) (kept : BucketsKept two buckets bucket layout s) where
  -- the bucket and the walk of each key of a section
  abbrev pub bucket_of : Section → Side → ℕ
  bucket_of x side = bucket_by buckets bucket x.op side

  abbrev pub walk_at : Section → Side → Walk
  walk_at x side = walk_by buckets bucket layout x.op x.readings side

  abbrev pub SeesAt : Section → Half → Side → Type 0
  SeesAt x h side = Sees buckets bucket (side_op x.op) (walk_at x) h side

  pub fit : (d : ℕ) (x : Section) → Here s d x → OpFit two buckets bucket x.op (side_op x.op) (walk_at x) x.readings
      (bounds buckets bucket layout) x.thunk
  fit d x here = op_fit two buckets bucket small few (bounds buckets bucket layout) x.op x.readings x.thunk
      (sound.fits d x here)

  pub half_fit : (d : ℕ) (x : Section) (h : Half) → Here s d x → HasHalf two x h
      → HalfFit buckets bucket (side_op x.op) (walk_at x) h
  half_fit d x h here has = (fit d x here).halves h has

  -- a whole walk is past its edition
  whole_past : (x : Section) (h : Half) (side : Side) → SeesAt x h side → (walk_at x side).stage ≢ AtEdition
  whole_past x h side sees first = ⊎_elim (λ lock. at_lock (sym lock ∙ first)) (λ end. at_end (sym end ∙ first)) sees.whole
    where
      at_lock : AtLock ≡ AtEdition → ⊥
      at_lock e = cc

      at_end : AtEnd ≡ AtEdition → ⊥
      at_end e = cc

  -- the place of its last link is one of the table's
  place_small : (d : ℕ) (x : Section) (side : Side) → Here s d x → (walk_at x side).stage ≢ AtEdition
      → (walk_at x side).place < 2 ^ 32
  place_small d x side here past = ⊎_elim
      (λ head. let low = small (key_of (side_op x.op side)) in omega arith)
      (λ node. let low = within node.0 node.1 in let at = node.2 in let nodes = limits.few_nodes in
      let runners = limits.few_runners in omega arith)
      ((side_facts buckets bucket small (bounds buckets bucket layout) x.op x.readings side).place past)
    where
      used : (t : ℕ) → IsSafe s t → s.status t ≢ Free
      used t safe = ⊎_elim (λ live. live_free (s.status t) live) (λ retired. retired_free (s.status t) retired.0 retired.1)
          safe

      within : (t : ℕ) → Gives buckets bucket small x.readings t → t < slot_count layout 0
      within t gives = let by = reached (is_link_place buckets bucket) x.readings t gives in
          sound.within t (used t ((sound.published d x here).safe by.0 by.1 by.2 t by.3 by.4 by.5))

  -- a half is in the bucket of one of its section's keys
  pub half_bucket : (d : ℕ) (x : Section) (h : Half) → Here s d x → HasHalf two x h
      → (i : ℕ) × (i < buckets) × (h.lock ≡ bucket_lock i)
  half_bucket d x h here has = let sees = (half_fit d x h here has).sees in
      (bucket_of x sees.0, small (key_of (side_op x.op sees.0)), sees.1.place)

  -- where it has come so far, its lock is held
  pub half_holds : (x : Section) (h : Half) → HasHalf two x h → h.held ≤ x.at
      → Holds (table two buckets bucket) x h.lock
  half_holds x h has past = ⊎_elim (λ outer. inl outer.0)
      (λ taken. let held = taken.1 in inr (taken.0, operand x.thunk 1, omega arith, taken.2))
      (half_is two x.thunk h has).locked

  pub held_by : (x : Section) (h : Half) → HasHalf two x h → h.wanted ≤ x.at → h.held ≤ x.at
  held_by x h has past = let reads = (half_is two x.thunk h has).reads in
      let first = reads.1 in let held = reads.2 in omega arith

  pub held_late : (x : Section) (h : Half) → HasHalf two x h → h.made ≤ x.at → h.wanted ≤ x.at
  held_late x h has late = let order = (half_is two x.thunk h has).order in
      let known = order.0 in let loaded = order.1 in omega arith

  -- so two open sections with halves of one bucket, both locked, are one
  pub one_lock : (d e : ℕ) (x y : Section) (h g : Half) → Here s d x → Here s e y → HasHalf two x h → HasHalf two y g
      → h.held ≤ x.at → g.held ≤ y.at → h.lock ≡ g.lock → d ≡ e
  one_lock d e x y h g here there has has' held held' same = dite (ℕ_discrete d e) (λ e. e)
      (λ ne. absurd (sound.apart d e x y here there ne h.lock (half_holds x h has held)
      (subst (Holds (table two buckets bucket) y) (sym same) (half_holds y g has' held'))))

  -- and with one bucket a section has one half
  pub one_bucket : (d e : ℕ) (x y : Section) (h g : Half) → Here s d x → Here s e y → HasHalf two x h → HasHalf two y g
      → h.held ≤ x.at → g.held ≤ y.at → h.lock ≡ g.lock → (d ≡ e) × (x ≡ y) × (h ≡ g)
  one_bucket d e x y h g here there has has' held held' same =
      let one = one_lock d e x y h g here there has has' held held' same in
      let itself : x ≡ y = some_inj (sym here ∙ ap s.section one ∙ there) in
      (one, itself, (fit d x here).apart h g has (subst (λ z. HasHalf two z g) (sym itself) has') same)

  -- no change of the bucket is pending where the half's own isn't
  pub none_pending : (d : ℕ) (x : Section) (h : Half) → Here s d x → HasHalf two x h → h.held ≤ x.at → x.at ≤ h.change
      → (i : ℕ) → h.lock ≡ bucket_lock i → (e : ℕ) (y : Section) → s.section e ≡ Some y → IsPending two y i → ⊥
  none_pending d x h here has held early i place e y there pending =
      let g = pending.0 in
      let late : g.change < y.at = pending.3 in
      let order = (half_is two y.thunk g pending.1).order in
      let loaded = order.1 in
      let making = order.2 in
      let held' = held_by y g pending.1 (held_late y g pending.1 (omega arith)) in
      let one = one_bucket d e x y h g here there has pending.1 held held' (place ∙ sym pending.2) in
      let same : x.at ≡ y.at = ap (λ z. z.at) one.1 in
      let change : h.change ≡ g.change = ap (λ h. h.change) one.2 in
      omega arith

  -- the node that is to be taken out stands behind the half's link
  pub record IsTarget (x : Section) (h : Half) : Type 0 where
    pub link : IsLinkOf buckets bucket s.cells kept.on (bucket_of x Own) h.target
    pub leads : value_of (s.cells h.target) ≡ suc h.gone
    pub key : value_of (s.cells (cell_at buckets bucket h.gone 1)) ≡ key_of (side_op x.op Own)
    pub value : value_of (s.cells (cell_at buckets bucket h.gone 2)) ≡ (walk_at x Own).value
    pub next : value_of (s.cells (cell_at buckets bucket h.gone 3)) ≡ h.next

  -- the node whose value is to be set is the one that the walk found, and has the value that it read
  pub record IsSetTarget (x : Section) (h : Half) : Type 0 where
    pub reached : IsReached buckets bucket s.cells kept.on (bucket_of x Own) (walk_at x Own)
    pub place : h.target ≡ cell_at buckets bucket (walk_at x Own).slot 2
    pub key : value_of (s.cells (cell_at buckets bucket (walk_at x Own).slot 1)) ≡ key_of (side_op x.op Own)
    pub value : value_of (s.cells (cell_at buckets bucket (walk_at x Own).slot 2)) ≡ (walk_at x Own).value

  -- what stands of a half: the walk that it sees knows what it read, from the Want of the edition to the half's change
  module _ (d : ℕ) (x : Section) (h : Half) (here : Here s d x) (has : HasHalf two x h) (past : h.wanted ≤ x.at)
      (early : x.at ≤ h.change) where
    -- the edition that the walk read stands until the section stores it
    edition_now : (side : Side) → SeesAt x h side
        → s.cells (bucket_edition (bucket_of x side)) ≡ (walk_at x side).edition
    edition_now side sees =
        let half = half_is two x.thunk h has in
        let pending = half.order.3 in
        let first = half.reads.0 in
        let second : suc (suc first) ≡ h.wanted = half.reads.1 in
        let lock = sees.place in
        let place : bucket_edition (bucket_of x side) ≡ h.lock + 1 = omega arith in
        ap s.cells place
        ∙ sound.loaded d x here first (h.lock + 1) h.edition_reg (omega arith) half.reads.3
        (λ i v store. let late = ((store_is two x.thunk h has i h.edition_reg v store).1 refl).1 in omega arith)
        ∙ sound.wanted d x here (suc first) h.edition_reg h.word (omega arith) half.reads.4
        ∙ sees.word

    pub knows : (side : Side) → SeesAt x h side
        → Knows buckets bucket s.cells kept.on kept.rank (side_op x.op side) (walk_at x side) AtEnd
    knows side sees =
        let known = kept.sections d x here side (edition_now side sees)
        (none_pending d x h here has (held_by x h has past) early (bucket_of x side) sees.place) in
        let at : (stage : Stage) → (walk_at x side).stage ≡ stage → Knows buckets bucket s.cells kept.on kept.rank
        (side_op x.op side) (walk_at x side) stage = λ stage is. subst (Knows buckets bucket s.cells kept.on kept.rank
        (side_op x.op side) (walk_at x side)) is known in
        ⊎_elim (λ is. at AtLock is) (λ is. at AtEnd is) sees.whole

    -- the new node's link is the head's
    pub insert_head : h.kind ≡ Insert → h.next ≡ value_of (s.cells (bucket_head (bucket_of x h.side)))
    insert_head kind =
        let fits = half_fit d x h here has in
        let puts = fits.puts (subst Makes (sym kind) tt) in
        (fits.heads kind).1 ∙ (knows h.side puts.0).0

    -- no node has the key that is put in
    pub put_missing : Makes h.kind → IsMissing buckets bucket s.cells kept.on (key_of (side_op x.op h.side))
    put_missing makes =
        let puts = (half_fit d x h here has).puts makes in
        (knows h.side puts.0).2 puts.1

    pub take_target : Takes h.kind → IsTarget x h
    take_target kind =
        let fits = (half_fit d x h here has).takes kind in
        let found = (knows Own fits.0).1 fits.2 in
        let place : h.target ≡ (walk_at x Own).place = fits.3 (place_small d x Own here (whole_past x h Own fits.0)) in
        let slot : h.gone ≡ (walk_at x Own).slot = fits.4 in
        record {
          link = subst (IsLinkOf buckets bucket s.cells kept.on (bucket_of x Own)) (sym place) found.0.0;
          leads = ap (λ p. value_of (s.cells p)) place ∙ found.0.1 ∙ ap suc (sym slot);
          key = ap (λ t. value_of (s.cells (cell_at buckets bucket t 1))) slot ∙ found.1;
          value = ap (λ t. value_of (s.cells (cell_at buckets bucket t 2))) slot ∙ found.2;
          next = ap (λ t. value_of (s.cells (cell_at buckets bucket t 3))) slot ∙ found.3 fits.1 ∙ sym fits.5;
        }

    pub set_target : h.kind ≡ Set → IsSetTarget x h
    set_target kind =
        let fits = (half_fit d x h here has).sets kind in
        let found = (knows Own fits.0).1 fits.1 in
        record { reached = found.0; place = fits.2; key = found.1; value = found.2 }
