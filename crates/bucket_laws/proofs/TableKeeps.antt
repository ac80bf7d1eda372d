-- The table keeps what it keeps, by every move.
use Rattle.std.proofs.Common.{◌≡◌, ◌≢◌, ℕ, suc, ◌+◌, ◌*◌, ◌<◌, ◌≤◌, Bool, true, false, cond, refl, sym, ap, ◌∙◌, subst, inl}
use Rattle.std.proofs.Common.{inr, ⊎_elim, arith}
use Rattle.std.specs.Prelude.{◌==◌, ◌&&◌, ◌%◌, ◌⊎◌, nat_lt, Option, Some, None, [], ◌∷◌, ◌++◌}
use mathlib.Core.Logic.{dite}
use native.Mathlib.Decide.{ℕ_discrete}
use Rattle.structure_laws.specs.table_words.specs.small_lemmas.proofs.Bools.{both_of as both_true}
use Rattle.structure_laws.specs.table_words.specs.small_lemmas.proofs.Lists.{some_same as some_inj, none_not_some}
use Rattle.structure_laws.specs.table_words.specs.small_lemmas.proofs.Numbers.{tested_less as lt_of, tested_equal as equal_of}
use Rattle.structure_laws.specs.map_history.specs.declared.op.Op.{Op}
use Rattle.structure_laws.specs.map_history.specs.declared.op.Op.TheVariants.{Get, Ins, Del, Put, Mov}
use Rattle.structure_laws.specs.map_history.specs.Keys.{key_of}
use Rattle.structure_laws.specs.body_terms.specs.Update.{upd}
use Rattle.structure_laws.specs.body_terms.specs.Word.{value_of}
use Rattle.bucket_bodies.specs.section_body.specs.Bucket.{bucket_edition, bucket_head}
use Rattle.structure_laws.specs.body_terms.specs.declared.step.Step.TheVariants.{Want, Fresh, Take, Stamp, Answer}
use Rattle.structure_laws.specs.body_terms.specs.declared.thunk.Thunk.{Thunk}
use Rattle.structure_laws.specs.table_words.specs.declared.layout.Layout.{Layout}
use Rattle.structure_laws.specs.table_words.specs.Limits.{IsWithinLimits}
use Rattle.structure_laws.specs.Scene.{Readings, Section, Free, Live, Retired, Scene}
use Rattle.structure_laws.specs.Scene.{with_cell, with_reader, with_section, with_status, opened}
use Rattle.structure_laws.specs.Sections.{Here, Settled, Ended}
use Rattle.structure_laws.specs.Keeps.{Keeps}
use Rattle.structure_laws.proofs.Changes.{upd_same, upd_other, upd_some, upd_none}
use Rattle.bucket_laws.specs.Walk.{AtLink, Walk, start, wanted_at, fed, cell_at, walk}
use Rattle.bucket_laws.specs.TwoWalk.{Part, OnFirst, OnSecond, AtLower, AtHigher, AtBoth, Stopped, TwoWalk, two_start}
use Rattle.bucket_laws.specs.TwoWalk.{is_one, two_wanted, after_first, second_at, first_fed, two_fed, two_walk, side_op}
use Rattle.bucket_laws.specs.TwoWalk.{side_of_two}
use Rattle.bucket_laws.specs.Halves.{Side, Own, Other, Half, HasHalf, IsPending, Owns}
use Rattle.bucket_laws.specs.Buckets.{nodes, Knows, IsWalked, AreWalked, walk_of, walk_by, bucket_by, bounds}
use Rattle.bucket_laws.specs.Buckets.{BucketsKept, table}
use Rattle.bucket_laws.proofs.Chain.{chains_agree}
use Rattle.bucket_laws.proofs.Elsewhere.{IsElsewhere, knows_on}
use Rattle.bucket_laws.proofs.Halves.{half_is}
use Rattle.bucket_laws.proofs.NodeChanges.{clip_same}
use Rattle.bucket_laws.proofs.Sections.{target_stays}
use Rattle.bucket_laws.proofs.Places.{head_lock, one_slot}
use Rattle.bucket_laws.proofs.TableGives.{live_free, retired_free, live_retired}
use Rattle.bucket_laws.proofs.TableSteps.{quiet_kept, load_kept, make_kept, retire_kept}
use Rattle.bucket_laws.proofs.TableStores.{table_store}
use Rattle.bucket_laws.proofs.TwoWalks.{two_push}
use Rattle.bucket_laws.proofs.Walks.{knows_fed, walk_push, is_first, edition_kept, ahead_head}

-- a section that has made a node, or changed its bucket, isn't done before its last step
half_open : (two : Bool) (buckets : ℕ) (bucket : ℕ → ℕ) (x : Section) (h : Half) → HasHalf two x h → h.made < x.at → (x.at ≤ h.edition)
    ⊎ (x.at ≤ h.retire)
    → (Settled (table two buckets bucket) x → Ended (table two buckets bucket) x) → ⊥
half_open two buckets bucket x h has low high ended =
    let half = half_is two x.thunk h has in
    let past = half.whole x.at (ended (λ j step le at. half.no_exit j step at (omega arith))) low in
    ⊎_elim (λ edition. let after = past.0 in omega arith) (λ retire. let after = past.1 in omega arith) high

module _ (two : Bool) (buckets : ℕ) (bucket : ℕ → ℕ) (small : (key : ℕ) → bucket key < buckets)
    (layout : Layout) (s : Scene) (kept : BucketsKept two buckets bucket layout s) where
  -- a runner's readings change
  readers_kept : (r : ℕ) (new : Option Readings) → ((readings : Readings) (op : Op) → new ≡ Some readings
      → AreWalked two buckets bucket layout s kept.on kept.rank op readings) → BucketsKept two buckets bucket layout (with_reader s r new)
  readers_kept r new walks = record {
    on = kept.on;
    rank = kept.rank;
    chains = kept.chains;
    on_live = kept.on_live;
    readers = λ q readings op h. dite (ℕ_discrete q r) (λ e. walks readings op (sym (upd_same s.reader r q new e) ∙ h)) (λ ne. kept.readers q readings op (sym (upd_other s.reader r q new ne) ∙ h));
    sections = kept.sections;
    made = kept.made;
    target = kept.target;
    taken = kept.taken;
    owned = kept.owned;
    live = kept.live;
    limbo = kept.limbo;
  }

  start_walked : (op : Op) → AreWalked two buckets bucket layout s kept.on kept.rank op []
  unfolding walk two_walk
  start_walked (Get key) Own edition none = tt
  start_walked (Get key) Other edition none = tt
  start_walked (Ins key value) Own edition none = tt
  start_walked (Ins key value) Other edition none = tt
  start_walked (Del key) Own edition none = tt
  start_walked (Del key) Other edition none = tt
  start_walked (Put key value) Own edition none = tt
  start_walked (Put key value) Other edition none = tt
  start_walked (Mov from to) Own edition none = tt
  start_walked (Mov from to) Other edition none = tt

  abbrev Walked : Op → Walk → Type 0
  Walked op w = IsWalked two buckets bucket s kept.on kept.rank op w

  -- a load that a walk wants
  fed_walked : (op : Op) (w : Walk) (p : ℕ) → wanted_at buckets bucket (bucket (key_of op)) w w.stage ≡ Some p
      → Walked op w → Walked op (fed buckets bucket (bounds buckets bucket layout) op w w.stage (s.cells p))
  fed_walked op w p want before edition none = knows_fed buckets bucket small (bounds buckets bucket layout) s.cells
      kept.on kept.rank kept.chains op w w.stage p want
      (⊎_elim (λ first. subst (Knows buckets bucket s.cells kept.on kept.rank op w) (sym first) tt)
      (λ later. before (edition
      ∙ edition_kept buckets bucket small (bounds buckets bucket layout) op w w.stage (s.cells p) later) none)
      (is_first buckets bucket small w.stage))

  -- one more reading
  one_read : (op : Op) (readings : Readings) (p : ℕ) → Walked op (walk_of buckets bucket layout op readings)
      → Walked op (walk_of buckets bucket layout op (readings ++ (p, s.cells p) ∷ []))
  one_read op readings p before = ⊎_elim
      (λ stays. subst (Walked op) (sym stays) before)
      (λ goes. subst (Walked op) (sym goes.1) (fed_walked op (walk_of buckets bucket layout op readings) p goes.0 before))
      (walk_push buckets bucket small (bounds buckets bucket layout) op start readings p (s.cells p))

  -- the walk of the second key, as it begins
  second_walked : (from to : ℕ) (part : Part) (first : Walk)
      → Walked (Get to) (second_at buckets bucket from to part first)
  second_walked from to OnFirst first = λ edition none. tt
  second_walked from to OnSecond first = begun (is_one buckets bucket from to)
    where
      begun : (one : Bool) → Walked (Get to) (cond one
          (record start { stage = AtLink; edition = first.edition; place = bucket_head (bucket to) }) start)
      begun true edition none = (
        inl refl,
        ahead_head buckets bucket small s.cells kept.on kept.rank kept.chains to,
        λ ne. absurd (ne refl),
      )
      begun false edition none = tt
  second_walked from to AtLower first = λ edition none. tt
  second_walked from to AtHigher first = λ edition none. tt
  second_walked from to AtBoth first = λ edition none. tt
  second_walked from to Stopped first = λ edition none. tt

  module _ (from to p : ℕ) where
    abbrev BothWalked : TwoWalk → Type 0
    BothWalked w = (side : Side)
        → Walked (side_op (Mov from to) side) (side_of_two buckets bucket (bounds buckets bucket layout) w side)

    two_read_by : (w : TwoWalk) (part : Part) → two_wanted buckets bucket from to w part ≡ Some p → BothWalked w
        → BothWalked (two_fed buckets bucket from to (bounds buckets bucket layout) w part (s.cells p))
    two_read_by w OnFirst want before Own = fed_walked (Del from) w.first p want (before Own)
    two_read_by w OnFirst want before Other =
        let first = first_fed buckets bucket from to (bounds buckets bucket layout) w.first (s.cells p) in
        second_walked from to (after_first buckets bucket from to first.stage) first
    two_read_by w OnSecond want before Own = before Own
    two_read_by w OnSecond want before Other = fed_walked (Get to) w.second p want (before Other)
    two_read_by w AtLower want before Own = before Own
    two_read_by w AtLower want before Other = before Other
    two_read_by w AtHigher want before Own = before Own
    two_read_by w AtHigher want before Other = before Other
    two_read_by w AtBoth want before side = before side
    two_read_by w Stopped want before side = before side

    two_read : (readings : Readings)
        → BothWalked (two_walk buckets bucket from to (bounds buckets bucket layout) two_start readings)
        → BothWalked (two_walk buckets bucket from to (bounds buckets bucket layout) two_start
        (readings ++ (p, s.cells p) ∷ []))
    two_read readings before =
        let w = two_walk buckets bucket from to (bounds buckets bucket layout) two_start readings in
        ⊎_elim (λ stays. subst BothWalked (sym stays) before)
        (λ goes. subst BothWalked (sym goes.1) (two_read_by w w.part goes.0 before))
        (two_push buckets bucket from to (bounds buckets bucket layout) two_start readings p (s.cells p))

  read_walked : (op : Op) (readings : Readings) (p : ℕ)
      → AreWalked two buckets bucket layout s kept.on kept.rank op readings
      → AreWalked two buckets bucket layout s kept.on kept.rank op (readings ++ (p, s.cells p) ∷ [])
  read_walked (Get key) readings p before Own = one_read (Get key) readings p (before Own)
  read_walked (Get key) readings p before Other = before Other
  read_walked (Ins key value) readings p before Own = one_read (Ins key value) readings p (before Own)
  read_walked (Ins key value) readings p before Other = before Other
  read_walked (Del key) readings p before Own = one_read (Del key) readings p (before Own)
  read_walked (Del key) readings p before Other = before Other
  read_walked (Put key value) readings p before Own = one_read (Put key value) readings p (before Own)
  read_walked (Put key value) readings p before Other = before Other
  read_walked (Mov from to) readings p before Own = two_read from to p readings before Own
  read_walked (Mov from to) readings p before Other = two_read from to p readings before Other

  -- a section is published
  holds_kept : (r d : ℕ) (readings : Readings) (op : Op) (thunk : Thunk) → s.reader r ≡ Some readings → s.section d ≡ None → BucketsKept two buckets bucket layout (with_section s d (Some (opened op thunk readings)))
  holds_kept r d readings op thunk reader none = record {
    on = kept.on;
    rank = kept.rank;
    chains = kept.chains;
    on_live = kept.on_live;
    readers = λ q readings op h. walked op readings (kept.readers q readings op h);
    sections = λ e z h. ⊎_elim
        (λ same. subst (λ z. AreWalked two buckets bucket layout (with_section s d (Some (opened op thunk readings)))
        kept.on kept.rank z.op z.readings) same.1 (walked op readings (kept.readers r readings op reader)))
        (λ other. walked z.op z.readings (kept.sections e z other.1)) (put e z h);
    made = λ e z h at has making. ⊎_elim (λ same. absurd (let low = making.0 in early z same.1 (omega arith)))
        (λ other. kept.made e z h other.1 has making) (put e z at);
    target = λ e z h i at has lock changes low.
        ⊎_elim (λ same. absurd (let known = (half_is two z.thunk h has).order.0 in early z same.1 (omega arith)))
        (λ other. kept.target e z h i other.1 has lock changes low) (put e z at);
    taken = λ e z h i at has lock taking. ⊎_elim (λ same. absurd (let low = taking.0 in early z same.1 (omega arith)))
        (λ other. kept.taken e z h i other.1 has lock taking) (put e z at);
    owned = λ e z t at owns. ⊎_elim
        (λ same. absurd (⊎_elim (λ new. let low = new.0.0 in early z same.1 (omega arith))
        (λ old. let low = old.0.0 in early z same.1 (omega arith)) owns.2))
        (λ other. kept.owned e z t other.1 owns) (put e z at);
    live = λ t live. ⊎_elim inl (λ owned. inr (owned.0, owned.1, stays owned.0 owned.1 owned.2 ∙ owned.2, owned.3))
        (kept.live t live);
    limbo = kept.limbo;
  }
    where
      put : (e : ℕ) (z : Section) → upd s.section d (Some (opened op thunk readings)) e ≡ Some z → ((e ≡ d) × (opened op thunk readings ≡ z)) ⊎ ((e ≢ d) × (s.section e ≡ Some z))
      put e z h = upd_some s.section d e (opened op thunk readings) z h

      early : (z : Section) → opened op thunk readings ≡ z → 1 ≤ z.at → ⊥
      early z same low = let at = ap (λ z. z.at) same in omega arith

      stays : (e : ℕ) (z : Section) → s.section e ≡ Some z → upd s.section d (Some (opened op thunk readings)) e ≡ s.section e
      stays e z there = upd_other s.section d e (Some (opened op thunk readings))
          (λ same. none_not_some z (sym none ∙ ap s.section (sym same) ∙ there))

      walked : (op' : Op) (readings' : Readings)
          → AreWalked two buckets bucket layout s kept.on kept.rank op' readings'
          → AreWalked two buckets bucket layout (with_section s d (Some (opened op thunk readings))) kept.on kept.rank op'
          readings'
      walked op' readings' before side edition free = before side edition
          (λ e z there pending. free e z (stays e z there ∙ there) pending)

  -- a section is done
  done_kept : (d : ℕ) (x : Section) → Here s d x → (Settled (table two buckets bucket) x → Ended (table two buckets bucket) x) → BucketsKept two buckets bucket layout (with_section s d None)
  done_kept d x here ended = record {
    on = kept.on;
    rank = kept.rank;
    chains = kept.chains;
    on_live = kept.on_live;
    readers = λ q readings op h. walked op readings (kept.readers q readings op h);
    sections = λ e z h. walked z.op z.readings (kept.sections e z (left e z h).1);
    made = λ e z h at has making. kept.made e z h (left e z at).1 has making;
    target = λ e z h i at has lock changes low. kept.target e z h i (left e z at).1 has lock changes low;
    taken = λ e z h i at has lock taking. kept.taken e z h i (left e z at).1 has lock taking;
    owned = λ e z t at owns. kept.owned e z t (left e z at).1 owns;
    live = λ t live. ⊎_elim inl (λ owned. inr (
      owned.0,
      owned.1,
      stays owned.0 owned.1 owned.2 (λ same. owns_none t (subst (λ z. Owns two z t) same owned.3))
          ∙ owned.2,
      owned.3,
    ))
        (kept.live t live);
    limbo = kept.limbo;
  }
    where
      left : (e : ℕ) (z : Section) → upd s.section d None e ≡ Some z → (e ≢ d) × (s.section e ≡ Some z)
      left e z h = upd_none s.section d e z h

      stays : (e : ℕ) (z : Section) → s.section e ≡ Some z → (z ≡ x → ⊥) → upd s.section d None e ≡ s.section e
      stays e z there other = upd_other s.section d e None (λ same. other (some_inj (sym there ∙ ap s.section same ∙ here)))

      owns_none : (t : ℕ) → Owns two x t → ⊥
      owns_none t owns =
          let order = (half_is two x.thunk owns.0 owns.1).order.4 in
          let making = (half_is two x.thunk owns.0 owns.1).order.2 in
          ⊎_elim (λ new. let low = new.0.0 in let high = new.0.1 in half_open two buckets bucket x owns.0 owns.1 low
          (inr (omega arith)) ended)
          (λ old. let low = old.0.0 in half_open two buckets bucket x owns.0 owns.1 (omega arith) (inr old.0.1) ended)
          owns.2

      not_pending : (i : ℕ) → IsPending two x i → ⊥
      not_pending i pending =
          let making = (half_is two x.thunk pending.0 pending.1).order.2 in
          let low = pending.3 in
          half_open two buckets bucket x pending.0 pending.1 (omega arith) (inl pending.4) ended

      walked : (op : Op) (readings : Readings) → AreWalked two buckets bucket layout s kept.on kept.rank op readings
          → AreWalked two buckets bucket layout (with_section s d None) kept.on kept.rank op readings
      walked op readings before side edition free = before side edition (λ e z there pending. free e z
          (stays e z there (λ same. not_pending (bucket_by buckets bucket op side)
          (subst (λ z. IsPending two z (bucket_by buckets bucket op side)) same pending)) ∙ there) pending)

  -- a cell changes that is no edition, no head, and in no node but a free one
  cell_kept : (p w : ℕ) → ((i : ℕ) → i < buckets → (bucket_edition i ≢ p) × (bucket_head i ≢ p)) → ((u k : ℕ) → s.status u ≢ Free → k < 5 → cell_at buckets bucket u k ≢ p) → BucketsKept two buckets bucket layout (with_cell s p w)
  cell_kept p w fixed cells =
      let same : (u k : ℕ) → s.status u ≢ Free → k < 5 → upd s.cells p w (cell_at buckets bucket u k) ≡ s.cells (cell_at buckets bucket u k) = λ u k used low. upd_other s.cells p (cell_at buckets bucket u k) w (cells u k used low) in
      let on_same : (u k : ℕ) → kept.on u ≡ true → k < 5 → upd s.cells p w (cell_at buckets bucket u k) ≡ s.cells (cell_at buckets bucket u k) = λ u k on low. same u k (live_free (s.status u) (kept.on_live u on)) low in
      let head : (i : ℕ) → i < buckets → upd s.cells p w (bucket_head i) ≡ s.cells (bucket_head i) = λ i low. upd_other s.cells p (bucket_head i) w (fixed i low).1 in
      let walked : (op : Op) (readings : Readings) → AreWalked two buckets bucket layout s kept.on kept.rank op readings
      → AreWalked two buckets bucket layout (with_cell s p w) kept.on kept.rank op readings = λ op readings before side
      edition none.
      (let i = bucket_by buckets bucket op side in
      let low = small (key_of (side_op op side)) in
      let x = walk_by buckets bucket layout op readings side in
      let elsewhere : IsElsewhere buckets bucket s.cells (upd s.cells p w) kept.on kept.on kept.rank kept.rank i = record {
        head = head i low;
        stays = λ u node. node.0;
        ranks = λ u node. refl;
        cell = λ u k node first last. on_same u k node.0 (omega arith);
        back = λ u node. (node.0, ap (λ word. bucket (value_of word)) (sym (on_same u 1 node.0 (omega arith))) ∙ node.1);
      } in
      knows_on buckets bucket small s.cells (upd s.cells p w) kept.on kept.on kept.rank kept.rank kept.chains
      (side_op op side) x elsewhere x.stage
      (before side (sym (upd_other s.cells p (bucket_edition i) w (fixed i low).0) ∙ edition) none)) in
      record {
        on = kept.on;
        rank = kept.rank;
        on_live = kept.on_live;
        chains = chains_agree bucket (nodes buckets bucket s.cells) (nodes buckets bucket (upd s.cells p w)) kept.on kept.rank kept.chains
            (λ i. clip_same i buckets (value_of (upd s.cells p w (bucket_head i))) (value_of (s.cells (bucket_head i))) (λ low. ap value_of (head i low)))
            (λ u on. ap value_of (on_same u 1 on (omega arith))) (λ u on. ap value_of (on_same u 3 on (omega arith)));
        readers = λ r readings op h. walked op readings (kept.readers r readings op h);
        sections = λ d x here. walked x.op x.readings (kept.sections d x here);
        made = λ d x h here has making. let was = kept.made d x h here has making in
            let used = live_free (s.status was.0) (kept.owned d x was.0 here (h, has, inl (making, was.1))).0 in (
              was.0,
              was.1,
              record {
                key = ap value_of (same was.0 1 used (omega arith)) ∙ was.2.key;
                value = ap value_of (same was.0 2 used (omega arith)) ∙ was.2.value;
                next = ap value_of (same was.0 3 used (omega arith)) ∙ was.2.next;
              },
            );
        target = λ d x h i here has lock changes low. target_stays buckets bucket h.kind s.cells (upd s.cells p w) kept.on
            kept.on i h.target
            (λ u node. (node.0, ap (λ word. bucket (value_of word)) (on_same u 1 node.0 (omega arith)) ∙ node.1))
            (kept.target d x h i here has lock changes low);
        taken = λ d x h i here has lock taking. let was = kept.taken d x h i here has lock taking in
            let used = live_free (s.status (h.gone))
            (kept.owned d x h.gone here (h, has, inr (taking, refl))).0 in record {
              key = ap (λ word. bucket (value_of word)) (same h.gone 1 used (omega arith)) ∙ was.key;
              next = λ t leads. let node = was.next t
                  (ap value_of (sym (same h.gone 3 used (omega arith))) ∙ leads) in
                  (node.0, ap (λ word. bucket (value_of word)) (on_same t 1 node.0 (omega arith)) ∙ node.1);
            };
        owned = kept.owned;
        live = kept.live;
        limbo = λ q y t retired recent leads. kept.limbo q y t retired recent (ap value_of (sym (same q 3 (retired_free (s.status q) y retired) (omega arith))) ∙ leads);
      }

  -- a slot leaves limbo
  collect_kept : (t y : ℕ) → s.status t ≡ Retired y → y + 2 ≤ s.epoch → BucketsKept two buckets bucket layout (with_status s t Free)
  collect_kept t y retired old =
      let other : (u : ℕ) → u ≢ t → upd s.status t Free u ≡ s.status u = λ u ne. upd_other s.status t u Free ne in
      let still : (u : ℕ) → s.status u ≡ Live → upd s.status t Free u ≡ Live = λ u live. other u (λ e. live_retired (s.status u) y live (ap s.status e ∙ retired)) ∙ live in
      record {
        on = kept.on;
        rank = kept.rank;
        chains = kept.chains;
        on_live = λ u on. still u (kept.on_live u on);
        readers = kept.readers;
        sections = kept.sections;
        target = kept.target;
        made = kept.made;
        taken = kept.taken;
        owned = λ d x u here owns. let was = kept.owned d x u here owns in (still u was.0, was.1);
        live = λ u live. dite (ℕ_discrete u t) (λ e. absurd (live_free _ live (upd_same s.status t u Free e)))
            (λ ne. kept.live u (sym (other u ne) ∙ live));
        limbo = λ q z u late recent leads. dite (ℕ_discrete q t)
            (λ e. absurd (retired_free _ z late (upd_same s.status t q Free e)))
            (λ ne. ⊎_elim (λ live. inl (still u live))
            (λ later. inr (later.0, other u (λ e. let same = retired_in (sym later.1 ∙ ap s.status e ∙ retired) in let order = later.2 in omega arith) ∙ later.1, later.2))
            (kept.limbo q z u (sym (other q ne) ∙ late) recent leads));
      }
    where
      retired_in : {z w : ℕ} → Retired z ≡ Retired w → z ≡ w
      retired_in e = cc

  advance_kept : BucketsKept two buckets bucket layout (record s { epoch = suc s.epoch })
  advance_kept = record {
    on = kept.on;
    rank = kept.rank;
    chains = kept.chains;
    on_live = kept.on_live;
    readers = kept.readers;
    sections = kept.sections;
    made = kept.made;
    target = kept.target;
    taken = kept.taken;
    owned = kept.owned;
    live = kept.live;
    limbo = λ q y t retired recent leads. kept.limbo q y t retired (omega arith) leads;
  }

-- a lock is a place below the nodes, and the first of its bucket
pub lock_at : (buckets p : ℕ) → (nat_lt p (3 * buckets) && (p % 3 == 0)) ≡ true → (p < 3 * buckets) × (p % 3 ≡ 0)
lock_at buckets p lock = let both = both_true _ _ lock in (lt_of p (3 * buckets) both.0, equal_of (p % 3) 0 both.1)

pub table_keeps : (two : Bool) (buckets : ℕ) (bucket : ℕ → ℕ) → ((key : ℕ) → bucket key < buckets)
    → 3 * buckets ≤ 12288 → (layout : Layout) → IsWithinLimits layout → Keeps (table two buckets bucket) layout
table_keeps two buckets bucket small few layout limits = record {
  enters = λ s r sound kept sound'. readers_kept two buckets bucket small layout s kept r (Some [])
      (λ readings op e. subst (AreWalked two buckets bucket layout s kept.on kept.rank op) (some_inj e)
      (start_walked two buckets bucket small layout s kept op));
  reads = λ s r p readings reader known sound kept sound'. readers_kept two buckets bucket small layout s kept r
      (Some (readings ++ (p, s.cells p) ∷ []))
      (λ longer op e. subst (AreWalked two buckets bucket layout s kept.on kept.rank op) (some_inj e)
      (read_walked two buckets bucket small layout s kept op readings p (kept.readers r readings op reader)));
  leaves = λ s r sound kept sound'. readers_kept two buckets bucket small layout s kept r None
      (λ readings op e. absurd (none_not_some readings e));
  holds = λ s r d readings op thunk reader publishes none sound kept sound'.
      holds_kept two buckets bucket small layout s kept r d readings op thunk reader none;
  load = λ s d p r x here h sound kept sound'. load_kept two buckets bucket small few layout limits s sound kept d x here p r (s.cells p) h;
  want = λ s d r w x here h equal sound kept sound'. quiet_kept two buckets bucket small few layout limits s sound kept d x here (Want r w) h (λ q v e. cc)
      (λ init q e. cc) (λ t e. cc);
  fresh = λ s d r x here h newer sound kept sound'. quiet_kept two buckets bucket small few layout limits s sound kept d x here (Fresh r) h (λ q v e. cc)
      (λ init q e. cc) (λ t e. cc);
  take = λ s d l w x here h unheld sound kept sound'. quiet_kept two buckets bucket small few layout limits s sound kept d x here (Take l w) h (λ q v e. cc)
      (λ init q e. cc) (λ t e. cc);
  make = λ s d t r x init here h prepared sound kept sound'. make_kept two buckets bucket small few layout limits s sound kept d x here t r init h prepared;
  stamp = λ s d x here h sound kept sound'. quiet_kept two buckets bucket small few layout limits s sound kept d x here Stamp h (λ q v e. cc) (λ init q e. cc) (λ t e. cc);
  store = λ s d j p r x v here h earlier load found sound kept sound'.
      table_store two buckets bucket small few layout limits s sound kept d x here j p r v h load found;
  retire = λ s d t y x here h past recent links sound kept sound'. retire_kept two buckets bucket small few layout limits s sound kept d x here t y h links;
  answer = λ s d n x here h sound kept sound'. quiet_kept two buckets bucket small few layout limits s sound kept d x here (Answer n) h (λ q v e. cc) (λ init q e. cc)
      (λ t e. cc);
  done = λ s d x here ended sound kept sound'. done_kept two buckets bucket small layout s kept d x here ended;
  lock = λ s p w lock sound kept sound'. let at = lock_at buckets p lock in
      cell_kept two buckets bucket small layout s kept p w
      (λ i low. (λ e. edition_lock i p at.1 e, λ e. head_lock i p at.1 e))
      (λ u k used low e. let below = at.0 in omega arith);
  hand = λ s t i w free low sound kept sound'. cell_kept two buckets bucket small layout s kept
      (3 * buckets + 5 * t + i) w (λ j lower. (λ e. omega arith, λ e. omega arith))
      (λ u k used small' e. used (ap s.status (one_slot (3 * buckets) u t k i small' low e) ∙ free));
  collect = λ s t y retired old sound kept sound'. collect_kept two buckets bucket small layout s kept t y retired old;
  advance = λ s sound kept sound'. advance_kept two buckets bucket small layout s kept;
}
  where
    edition_lock : (i p : ℕ) → p % 3 ≡ 0 → 3 * i + 1 ≡ p → ⊥
    edition_lock i p at e = omega arith
