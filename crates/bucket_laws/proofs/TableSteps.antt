-- The steps of a section that change no cell keep what the table keeps.
use Rattle.std.proofs.Common.{◌≡◌, ◌≢◌, ℕ, suc, ◌+◌, ◌*◌, ◌<◌, ◌≤◌, Bool, true, false, refl, sym, ap, ◌∙◌, subst, inl, inr}
use Rattle.std.proofs.Common.{⊎_elim, arith}
use Rattle.std.specs.Prelude.{◌⊎◌, Some, slice_get}
use Rattle.std.proofs.lemmas.Bool.{both_ways}
use mathlib.Core.Logic.{dite}
use native.Mathlib.Decide.{ℕ_discrete}
use Rattle.structure_laws.specs.table_words.specs.small_lemmas.proofs.Lists.{some_same as some_inj}
use Rattle.structure_laws.specs.table_words.specs.small_lemmas.proofs.Numbers.{suc_equal}
use Rattle.structure_laws.specs.map_history.specs.declared.op.Op.{Op}
use Rattle.structure_laws.specs.body_terms.specs.Update.{upd}
use Rattle.structure_laws.specs.body_terms.specs.Word.{value_of}
use Rattle.bucket_bodies.specs.section_body.specs.Bucket.{bucket_lock}
use Rattle.structure_laws.specs.body_terms.specs.declared.value.Value.{Value}
use Rattle.structure_laws.specs.body_terms.specs.declared.value.Value.TheVariants.{Const}
use Rattle.structure_laws.specs.body_terms.specs.declared.value.Init.{Init}
use Rattle.structure_laws.specs.body_terms.specs.declared.step.Step.{Step}
use Rattle.structure_laws.specs.body_terms.specs.declared.step.Step.TheVariants.{Load, Make, Store, Retire}
use Rattle.structure_laws.specs.table_words.specs.declared.layout.Layout.{Layout}
use Rattle.structure_laws.specs.table_words.specs.Limits.{IsWithinLimits}
use Rattle.structure_laws.specs.Scene.{Readings, Section, Status, Live, Retired, Scene, with_status, passes, sets}
use Rattle.structure_laws.specs.Sections.{Here, IsStep, value_in}
use Rattle.structure_laws.specs.Cells.{Links}
use Rattle.structure_laws.specs.Sound.{Sound}
use Rattle.structure_laws.specs.Keeps.{IsPrepared}
use Rattle.structure_laws.proofs.Changes.{upd_same, upd_other, upd_some}
use Rattle.structure_laws.proofs.Progress.{stepped}
use Rattle.bucket_laws.specs.Walk.{cell_at}
use Rattle.bucket_laws.specs.Halves.{Half, HasHalf, IsMaking, IsTaking, IsPending, Owns, OwnsBy, steps}
use Rattle.bucket_laws.specs.Buckets.{IsTargetOf, AreWalked, bucket_by, IsMade, IsTaken, BucketsKept, table}
use Rattle.bucket_laws.proofs.Halves.{half_is, stored_for, node_init, step_of, load_early, make_early, make_is}
use Rattle.bucket_laws.proofs.Halves.{retire_late, retire_is}
use Rattle.bucket_laws.proofs.Places.{is_node_link}
use Rattle.bucket_laws.proofs.Sections.{half_fit, half_bucket, held_by, held_late, one_bucket}
use Rattle.bucket_laws.proofs.TableGives.{live_free, live_retired, next_leads, target_now, puts_in}

pub below_or : (a b : ℕ) → a ≤ b → (a ≡ b) ⊎ (a < b)
below_or a b low = search arith

module _ (two : Bool) (buckets : ℕ) (bucket : ℕ → ℕ) (layout : Layout) (s : Scene)
    (kept : BucketsKept two buckets bucket layout s) where
  -- a live slot stands in a chain, or a section holds it
  pub live_cases : {A : Type 0} → (t : ℕ) → s.status t ≡ Live → (kept.on t ≡ true → A)
      → ((d : ℕ) (x : Section) → s.section d ≡ Some x → Owns two x t → A) → A
  live_cases t live on owned = ⊎_elim on (λ held. owned held.0 held.1 held.2 held.3) (kept.live t live)

module _ (two : Bool) (buckets : ℕ) (bucket : ℕ → ℕ) (small : (key : ℕ) → bucket key < buckets)
    (few : 3 * buckets ≤ 12288) (layout : Layout) (limits : IsWithinLimits layout) (s : Scene) (sound : Sound (table two buckets bucket) layout s)
    (kept : BucketsKept two buckets bucket layout s) where
  -- a half that holds a slot holds its lock, and the slot is of its bucket
  owner_held : (d : ℕ) (x : Section) (h : Half) (t : ℕ) → Here s d x → HasHalf two x h → OwnsBy x h t → h.held ≤ x.at
  owner_held d x h t here has owns = held_by two buckets bucket small few layout limits s sound kept x h has (held_late two buckets bucket small few layout limits s sound kept x h has (⊎_elim
      (λ new. let low = new.0.0 in omega arith)
      (λ old. let low = old.0.0 in let making = (half_is two x.thunk h has).order.2 in omega arith) owns))

  owned_in : (d : ℕ) (x : Section) (h : Half) (i t : ℕ) → Here s d x → HasHalf two x h → h.lock ≡ bucket_lock i
      → OwnsBy x h t → bucket (value_of (s.cells (cell_at buckets bucket t 1))) ≡ i
  owned_in d x h i t here has lock owns = ⊎_elim
      (λ new. let made = kept.made d x h here has new.0 in
      let early = new.0.0 in
      let late = new.0.1 in
      let makes = (half_is two x.thunk h has).insert.1 (omega arith) in
      ap (λ t. bucket (value_of (s.cells (cell_at buckets bucket t 1)))) (suc_equal t made.0 (sym new.1 ∙ made.1))
      ∙ ap bucket (made.2.key ∙ ((half_fit two buckets bucket small few layout limits s sound kept d x h here has).puts makes).2) ∙ puts_in two buckets bucket small few layout limits s sound kept d x h i here has lock makes)
      (λ old. ap (λ t. bucket (value_of (s.cells (cell_at buckets bucket t 1)))) (sym old.1)
      ∙ (kept.taken d x h i here has lock old.0).key) owns

  -- so no two halves hold one slot
  pub owned_once : (d e : ℕ) (x y : Section) (t : ℕ) → Here s d x → Here s e y → (owns : Owns two x t)
      → (owns' : Owns two y t) → (d ≡ e) × (x ≡ y) × (owns.0 ≡ owns'.0)
  owned_once d e x y t here there owns owns' =
      let place = half_bucket two buckets bucket small few layout limits s sound kept d x owns.0 here owns.1 in
      let place' = half_bucket two buckets bucket small few layout limits s sound kept e y owns'.0 there owns'.1 in
      let in_bucket = owned_in d x owns.0 place.0 t here owns.1 place.2 owns.2 in
      let in_bucket' = owned_in e y owns'.0 place'.0 t there owns'.1 place'.2 owns'.2 in
      one_bucket two buckets bucket small few layout limits s sound kept d e x y owns.0 owns'.0 here there owns.1 owns'.1 (owner_held d x owns.0 t here owns.1 owns.2)
      (owner_held e y owns'.0 t there owns'.1 owns'.2)
      (place.2 ∙ ap bucket_lock (sym in_bucket ∙ in_bucket') ∙ sym place'.2)

module _ (two : Bool) (buckets : ℕ) (bucket : ℕ → ℕ) (small : (key : ℕ) → bucket key < buckets)
    (few : 3 * buckets ≤ 12288) (layout : Layout) (limits : IsWithinLimits layout) (s : Scene) (sound : Sound (table two buckets bucket) layout s)
    (kept : BucketsKept two buckets bucket layout s) (d : ℕ) (x : Section) (here : Here s d x) where
  -- the scene after a step that changes no cell
  abbrev next_scene : (ℕ → Status) → (ℕ → ℕ) → Scene
  next_scene status reg = record s { status = status; section = upd s.section d (Some (stepped x reg)) }

  -- the section that stands at the descriptor is this one
  itself : (e : ℕ) (z : Section) → s.section e ≡ Some z → e ≡ d → z ≡ x
  itself e z there same = some_inj (sym there ∙ ap s.section same ∙ here)

  abbrev TargetsOf : Section → Type 0
  TargetsOf z = (h : Half) (i : ℕ) → HasHalf two z h → h.lock ≡ bucket_lock i → h.change < h.edition → h.load ≤ z.at
      → IsTargetOf buckets bucket h.kind s.cells kept.on i h.target

  abbrev TakenOf : Section → Type 0
  TakenOf z = (h : Half) (i : ℕ) → HasHalf two z h → h.lock ≡ bucket_lock i → IsTaking z h
      → IsTaken buckets bucket s.cells kept.on h.gone i

  abbrev MadeOf : Section → Type 0
  MadeOf z = (h : Half) → HasHalf two z h → IsMaking z h → (t : ℕ) × (z.reg h.node_reg ≡ suc t)
      × IsMade buckets bucket s.cells h t

  step_kept : (status : ℕ → Status) (reg : ℕ → ℕ) → ((i : ℕ) → IsPending two x i → IsPending two (stepped x reg) i)
      → ((t : ℕ) → kept.on t ≡ true → status t ≡ Live) → MadeOf (stepped x reg) → TakenOf (stepped x reg)
      → ((h : Half) → HasHalf two x h → (t : ℕ) → OwnsBy (stepped x reg) h t → (status t ≡ Live) × (kept.on t ≡ false))
      → ((e : ℕ) (z : Section) (t : ℕ) → e ≢ d → s.section e ≡ Some z → Owns two z t → status t ≡ Live)
      → ((t : ℕ) → status t ≡ Live → (s.status t ≡ Live) ⊎ Owns two (stepped x reg) t)
      → ((h : Half) → HasHalf two x h → (t : ℕ) → status t ≡ Live → OwnsBy x h t → OwnsBy (stepped x reg) h t)
      → ((q y t : ℕ) → status q ≡ Retired y → s.epoch ≤ y + 1
      → value_of (s.cells (cell_at buckets bucket q 3)) ≡ suc t
      → (status t ≡ Live) ⊎ ((z : ℕ) × (status t ≡ Retired z) × (y ≤ z)))
      → BucketsKept two buckets bucket layout (next_scene status reg)
  step_kept status reg quiet on_live made taken held others new own limbo = record {
    on = kept.on;
    rank = kept.rank;
    chains = kept.chains;
    on_live = on_live;
    readers = λ r readings op h. walked op readings (kept.readers r readings op h);
    sections = λ e z h. ⊎_elim (λ same. subst (λ z. AreWalked two buckets bucket layout (next_scene status reg) kept.on
        kept.rank z.op z.readings) same.1 (walked x.op x.readings (kept.sections d x here)))
        (λ other. walked z.op z.readings (kept.sections e z other.1)) (upd_some s.section d e (stepped x reg) z h);
    made = λ e z h at has making. ⊎_elim (λ same. subst MadeOf same.1 made h has making)
        (λ other. kept.made e z h other.1 has making) (upd_some s.section d e (stepped x reg) z at);
    target = λ e z h i at has lock changes low. ⊎_elim (λ same. subst TargetsOf same.1 target h i has lock changes low)
        (λ other. kept.target e z h i other.1 has lock changes low) (upd_some s.section d e (stepped x reg) z at);
    taken = λ e z h i at has lock taking. ⊎_elim (λ same. subst TakenOf same.1 taken h i has lock taking)
        (λ other. kept.taken e z h i other.1 has lock taking) (upd_some s.section d e (stepped x reg) z at);
    owned = λ e z t at owns. ⊎_elim
        (λ same. let mine : Owns two (stepped x reg) t = subst (λ z. Owns two z t) (sym same.1) owns in
        held mine.0 mine.1 t mine.2)
        (λ other. (others e z t other.0 other.1 owns, (kept.owned e z t other.1 owns).1))
        (upd_some s.section d e (stepped x reg) z at);
    live = λ t now. ⊎_elim (λ live. live_cases two buckets bucket layout s kept t live inl
        (λ e z there owns. dite (ℕ_discrete e d)
        (λ same. let own_now : Owns two x t = subst (λ z. Owns two z t) (itself e z there same) owns in
        mine t (own_now.0, own_now.1, own own_now.0 own_now.1 t now own_now.2))
        (λ ne. inr (e, z, upd_other s.section d e (Some (stepped x reg)) ne ∙ there, owns)))) (mine t) (new t now);
    limbo = limbo;
  }
    where
      mine : (t : ℕ) → Owns two (stepped x reg) t → (kept.on t ≡ true)
          ⊎ ((e : ℕ) × (z : Section) × (upd s.section d (Some (stepped x reg)) e ≡ Some z) × Owns two z t)
      mine t owns = inr (d, stepped x reg, upd_same s.section d d (Some (stepped x reg)) refl, owns)

      walked : (op : Op) (readings : Readings) → AreWalked two buckets bucket layout s kept.on kept.rank op readings
          → AreWalked two buckets bucket layout (next_scene status reg) kept.on kept.rank op readings
      walked op readings before side edition none = before side edition (λ e z there pending. dite (ℕ_discrete e d)
          (λ same. none d (stepped x reg) (upd_same s.section d d (Some (stepped x reg)) refl)
          (quiet (bucket_by buckets bucket op side)
          (subst (λ z. IsPending two z (bucket_by buckets bucket op side)) (itself e z there same) pending)))
          (λ ne. none e z (upd_other s.section d e (Some (stepped x reg)) ne ∙ there) pending))

      target : TargetsOf (stepped x reg)
      target h i has lock changes low =
          let half = half_is two x.thunk h has in
          let known = half.order.0 in
          let loaded = half.order.1 in
          let making = half.order.2 in
          ⊎_elim (λ now. target_now two buckets bucket small few layout limits s sound kept d x h i here has lock changes (omega arith) (omega arith))
          (λ before. kept.target d x h i here has lock changes (omega arith)) (below_or h.load (suc x.at) low)

  -- it comes to this step now
  abbrev IsNow : Step → Type 0
  IsNow b = IsStep (table two buckets bucket) x x.at b

  -- the step at this place, where it is known
  step_at : (b : Step) (j : ℕ) (known : Step) → IsNow b → IsStep (table two buckets bucket) x j known → x.at ≡ j → b ≡ known
  step_at b j known h stands e = some_inj (sym h ∙ ap (slice_get (steps two x.thunk)) e ∙ stands)

  -- a step that is no Store stands neither at a half's change nor at its edition
  module _ (b : Step) (step : IsNow b) (no_store : (r : ℕ) (v : Value) → b ≢ Store r v) where
    no_change : (h : Half) → HasHalf two x h → h.made < h.retire → x.at ≡ h.change → ⊥
    no_change h has moves at = let half = half_is two x.thunk h has in let value = stored_for h.kind h in
        no_store h.target_reg value
        (step_at b h.change (Store h.target_reg value) step (half.steps (half.changing moves)).2 at)

    no_edition : (h : Half) → HasHalf two x h → h.change < h.edition → x.at ≡ h.edition → ⊥
    no_edition h has changes at = no_store h.edition_reg (Const 0)
        (step_at b h.edition (Store h.edition_reg (Const 0)) step ((half_is two x.thunk h has).steps changes).3 at)

    -- so it leaves a change pending
    before_edition : (h : Half) → HasHalf two x h → h.change < x.at → x.at ≤ h.edition → suc x.at ≤ h.edition
    before_edition h has late early = ⊎_elim (λ now. absurd (no_edition h has (omega arith) now)) (λ before. before)
        (below_or x.at h.edition early)

    still_pending : (reg : ℕ → ℕ) (i : ℕ) → IsPending two x i → IsPending two (stepped x reg) i
    still_pending reg i pending = let late : pending.0.change < x.at = pending.3 in
        let early = before_edition pending.0 pending.1 late pending.4 in
        (pending.0, pending.1, pending.2, omega arith, early)

    -- and what was taken out before it still is
    still_taken : (h : Half) → HasHalf two x h → IsTaking (stepped x x.reg) h → IsTaking x h
    still_taken h has taking =
        let late : h.change ≤ x.at = (let low = taking.0 in omega arith) in
        let early : suc x.at ≤ h.retire = taking.1 in
        let making = (half_is two x.thunk h has).order.2 in
        ⊎_elim (λ now. absurd (no_change h has (omega arith) (sym now))) (λ before. (before, omega arith))
        (below_or h.change x.at late)

    -- a step that makes and retires nothing either leaves a section what it holds
    module _ (no_make : (init : Init) (r : ℕ) → b ≢ Make init r) (no_retire : (t : ℕ) → b ≢ Retire t) where
      still_made : (h : Half) → HasHalf two x h → IsMaking (stepped x x.reg) h → IsMaking x h
      still_made h has making =
          let late : h.made ≤ x.at = (let low = making.0 in omega arith) in
          let early : suc x.at ≤ h.change = making.1 in
          let init = node_init h in
          ⊎_elim (λ now. absurd (no_make init h.node_reg (step_at b h.made (Make init h.node_reg) step
          ((half_is two x.thunk h has).makes (omega arith)) (sym now))))
          (λ before. (before, omega arith)) (below_or h.made x.at late)

      owned_before : (h : Half) → HasHalf two x h → (t : ℕ) → OwnsBy (stepped x x.reg) h t → OwnsBy x h t
      owned_before h has t (inl new) = inl (still_made h has new.0, new.1)
      owned_before h has t (inr old) = inr (still_taken h has old.0, old.1)

      owned_after : (h : Half) → HasHalf two x h → (t : ℕ) → OwnsBy x h t → OwnsBy (stepped x x.reg) h t
      owned_after h has t (inl new) =
          let late = new.0.0 in let early = new.0.1 in let taking = (half_is two x.thunk h has).order.4 in
          ⊎_elim (λ now. absurd (no_change h has (omega arith) now)) (λ before. inl ((omega arith, before), new.1))
          (below_or x.at h.change early)
      owned_after h has t (inr old) =
          let late = old.0.0 in let early = old.0.1 in
          ⊎_elim (λ now. absurd (no_retire h.gone (step_at b h.retire (Retire h.gone) step
          ((half_is two x.thunk h has).retires (omega arith)) now)))
          (λ before. inr ((omega arith, before), old.1)) (below_or x.at h.retire early)

      -- a Want, a Fresh, a Take, a Stamp or an Answer
      pub quiet_kept : BucketsKept two buckets bucket layout (passes s d x)
      quiet_kept = step_kept s.status x.reg (still_pending x.reg) kept.on_live
          (λ h has making. kept.made d x h here has (still_made h has making))
          (λ h i has lock taking. kept.taken d x h i here has lock (still_taken h has taking))
          (λ h has t owns. kept.owned d x t here (h, has, owned_before h has t owns))
          (λ e z t ne there owns. (kept.owned e z t there owns).0) (λ t live. inl live)
          (λ h has t live owns. owned_after h has t owns) kept.limbo

  -- a half before its Make holds no slot
  owns_none : (h : Half) → HasHalf two x h → x.at ≤ h.made → (t : ℕ) → OwnsBy x h t → ⊥
  owns_none h has before t owns = let making = (half_is two x.thunk h has).order.2 in
      ⊎_elim (λ new. let low = new.0.0 in omega arith) (λ old. let low = old.0.0 in omega arith) owns

  -- a Load
  pub load_kept : (p r n : ℕ) → IsNow (Load p r) → BucketsKept two buckets bucket layout (sets s d x r n)
  load_kept p r n step =
      step_kept s.status (upd x.reg r n) (still_pending (Load p r) step no_store (upd x.reg r n)) kept.on_live
      (λ h has making. absurd (let before = early h has in let late = making.0 in omega arith))
      (λ h i has lock taking. kept.taken d x h i here has lock (still_taken (Load p r) step no_store h has taking))
      (λ h has t owns. kept.owned d x t here (h, has, owned_before h has t owns))
      (λ e z t ne there owns. (kept.owned e z t there owns).0) (λ t live. inl live)
      (λ h has t live owns. absurd (owns_none h has (let before = early h has in omega arith) t owns)) kept.limbo
    where
      no_store : (q : ℕ) (v : Value) → Load p r ≢ Store q v
      no_store q v e = cc

      early : (h : Half) → HasHalf two x h → suc x.at ≤ h.made
      early h has = let before = load_early two x.thunk h has x.at p r step in omega arith

      owned_before : (h : Half) → HasHalf two x h → (t : ℕ) → OwnsBy (stepped x (upd x.reg r n)) h t → OwnsBy x h t
      owned_before h has t (inl new) = absurd (let before = early h has in let late = new.0.0 in omega arith)
      owned_before h has t (inr old) = inr (still_taken (Load p r) step no_store h has old.0, old.1)

  -- a Make
  pub make_kept : (t r : ℕ) (init : Init) → IsNow (Make init r) → IsPrepared (table two buckets bucket) layout s x t init
      → BucketsKept two buckets bucket layout (with_status (sets s d x r (suc t)) t Live)
  make_kept t r init step prepared =
      step_kept (upd s.status t Live) (upd x.reg r (suc t))
      (still_pending (Make init r) step no_store (upd x.reg r (suc t)))
      (λ u on. live_too u (kept.on_live u on))
      (λ h has making. (t, linked h has making, filled h has making))
      (λ h i has lock taking. absurd (taking_none h has taking)) held
      (λ e z u ne there owns. live_too u (kept.owned e z u there owns).0)
      (λ u live. dite (ℕ_discrete u t)
      (λ same. let make = step_of two x.thunk x.at (Make init r) step in let lt = make.2 in let at = make.3 in
      let making : IsMaking (stepped x (upd x.reg r (suc t))) make.0 = (omega arith, omega arith) in
      inr (make.0, make.1, inl (making, linked make.0 make.1 making ∙ ap suc (sym same))))
      (λ other. inl (sym (upd_other s.status t u Live other) ∙ live)))
      (λ h has u live owns. absurd (holds_none h has u owns))
      (λ q y u retired recent leads. dite (ℕ_discrete q t)
      (λ same. absurd (live_retired _ y (upd_same s.status t q Live same) retired))
      (λ other. ⊎_elim (λ live. inl (live_too u live))
      (λ late. dite (ℕ_discrete u t) (λ same. inl (upd_same s.status t u Live same)) (λ ne. inr (late.0, upd_other s.status t u Live ne ∙ late.1, late.2)))
      (kept.limbo q y u (sym (upd_other s.status t q Live other) ∙ retired) recent leads)))
    where
      no_store : (q : ℕ) (v : Value) → Make init r ≢ Store q v
      no_store q v e = cc

      -- the half that makes the node
      made : (h : Half) → HasHalf two x h → IsMaking (stepped x (upd x.reg r (suc t))) h
          → (x.at ≡ h.made) × (r ≡ h.node_reg) × (init ≡ node_init h)
      made h has making = make_is two x.thunk h has x.at r init step
          (let low = making.0 in let high = making.1 in omega arith)

      linked : (h : Half) → HasHalf two x h → IsMaking (stepped x (upd x.reg r (suc t))) h
          → upd x.reg r (suc t) h.node_reg ≡ suc t
      linked h has making = upd_same x.reg r h.node_reg (suc t) (sym (made h has making).1)

      cell : (h : Half) → HasHalf two x h → IsMaking (stepped x (upd x.reg r (suc t))) h → (k : ℕ) (v : Value) → k < 5
          → slice_get (node_init h).cells k ≡ Some v
          → value_of (s.cells (cell_at buckets bucket t k)) ≡ value_in x.reg v
      cell h has making k v low at = prepared.cells k v low
          (ap (λ init. slice_get init.cells k) (made h has making).2 ∙ at)

      filled : (h : Half) → HasHalf two x h → IsMaking (stepped x (upd x.reg r (suc t))) h
          → IsMade buckets bucket s.cells h t
      filled h has making = record {
        key = cell h has making 1 (Const h.key) (omega arith) refl;
        value = cell h has making 2 (Const h.value) (omega arith) refl;
        next = cell h has making 3 (Const h.next) (omega arith) refl;
      }

      live_too : (u : ℕ) → s.status u ≡ Live → upd s.status t Live u ≡ Live
      live_too u live = dite (ℕ_discrete u t) (λ e. upd_same s.status t u Live e)
          (λ ne. upd_other s.status t u Live ne ∙ live)

      taking_none : (h : Half) → HasHalf two x h → IsTaking (stepped x (upd x.reg r (suc t))) h → ⊥
      taking_none h has taking =
          let early = make_early two x.thunk h has x.at r init step in let late = taking.0 in omega arith

      -- before it no half holds a slot
      holds_none : (h : Half) → HasHalf two x h → (u : ℕ) → OwnsBy x h u → ⊥
      holds_none h has u (inl new) =
          let low = new.0.0 in
          let high = new.0.1 in
          let at = (make_is two x.thunk h has x.at r init step (omega arith)).0 in
          omega arith
      holds_none h has u (inr old) =
          let early = make_early two x.thunk h has x.at r init step in let late = old.0.0 in omega arith

      off : (b : Bool) → kept.on t ≡ b → b ≡ false
      off true e = absurd (live_free (s.status t) (kept.on_live t e) prepared.in_hand)
      off false e = refl

      held : (h : Half) → HasHalf two x h → (u : ℕ) → OwnsBy (stepped x (upd x.reg r (suc t))) h u
          → (upd s.status t Live u ≡ Live) × (kept.on u ≡ false)
      held h has u (inl new) = let same : u ≡ t = suc_equal u t (sym new.1 ∙ linked h has new.0) in
          (upd_same s.status t u Live same, off (kept.on u) (ap kept.on (sym same)))
      held h has u (inr old) = absurd (taking_none h has old.0)

  -- a Retire
  pub retire_kept : (t y : ℕ) → IsNow (Retire t)
      → ((q z i : ℕ) → i < 5 → s.status q ≡ Retired z
      → Links (table two buckets bucket) s (cell_at buckets bucket q i) t → z ≤ y)
      → BucketsKept two buckets bucket layout (with_status (passes s d x) t (Retired y))
  retire_kept t y h links =
      step_kept (upd s.status t (Retired y)) x.reg (still_pending (Retire t) h no_store x.reg)
      (λ u on. other u (on_other u on) ∙ kept.on_live u on)
      (λ g has making. absurd (making_none g has making)) (λ g i has lock taking. absurd (taking_none g has taking))
      (λ g has u owns'. absurd (⊎_elim (λ new. making_none g has new.0) (λ old. taking_none g has old.0) owns'))
      (λ e z u ne there owns'. other u (λ same. ne (owned_once two buckets bucket small few layout limits s sound kept e d z x t there here
      (subst (Owns two z) same owns') owns).0) ∙ (kept.owned e z u there owns').0)
      (λ u live. inl (sym (other u (kept_apart u live)) ∙ live))
      (λ g has u live owns'. absurd (kept_apart u live (sole g has u owns')))
      (λ q z u retired recent leads. dite (ℕ_discrete q t)
      (λ same. let on = next_leads two buckets bucket small few layout limits s sound kept q u (ap s.status same ∙ held.0) leads in
      inl (other u (on_other u on) ∙ kept.on_live u on))
      (λ ne. let before = sym (other q ne) ∙ retired in
      ⊎_elim (λ live. dite (ℕ_discrete u t) (λ same. inr (y, upd_same s.status t u (Retired y) same, links q z 3 (omega arith) before (is_node_link buckets q, leads ∙ ap suc same))) (λ ne'. inl (other u ne' ∙ live)))
      (λ late. dite (ℕ_discrete u t) (λ same. inr (y, upd_same s.status t u (Retired y) same, links q z 3 (omega arith) before (is_node_link buckets q, leads ∙ ap suc same)))
      (λ ne'. inr (late.0, other u ne' ∙ late.1, late.2)))
      (kept.limbo q z u before recent leads)))
    where
      no_store : (q : ℕ) (v : Value) → Retire t ≢ Store q v
      no_store q v e = cc

      owns : Owns two x t
      owns = let step = step_of two x.thunk x.at (Retire t) h in let lt = step.2 in let at = step.3 in
          (step.0, step.1, inr ((omega arith, omega arith), sym step.4))

      held : (s.status t ≡ Live) × (kept.on t ≡ false)
      held = kept.owned d x t here owns

      other : (u : ℕ) → u ≢ t → upd s.status t (Retired y) u ≡ s.status u
      other u ne = upd_other s.status t u (Retired y) ne

      on_other : (u : ℕ) → kept.on u ≡ true → u ≢ t
      on_other u on e = both_ways _ (ap kept.on e ∙ held.1) on

      kept_apart : (u : ℕ) → upd s.status t (Retired y) u ≡ Live → u ≢ t
      kept_apart u live same = live_retired _ y live (upd_same s.status t u (Retired y) same)

      making_none : (g : Half) → HasHalf two x g → IsMaking (stepped x x.reg) g → ⊥
      making_none g has making =
          let late = retire_late two x.thunk g has x.at t h in
          let order = (half_is two x.thunk g has).order.3 in
          let early = making.1 in omega arith

      retired : (g : Half) → HasHalf two x g → g.change < g.retire → (x.at ≡ g.retire) × (t ≡ g.gone)
      retired g has lt = retire_is two x.thunk g has x.at t h lt

      taking_none : (g : Half) → HasHalf two x g → IsTaking (stepped x x.reg) g → ⊥
      taking_none g has taking = let late = taking.0 in let early = taking.1 in
          let at = (retired g has (omega arith)).0 in omega arith

      -- no other slot is the section's
      sole : (g : Half) → HasHalf two x g → (u : ℕ) → OwnsBy x g u → u ≡ t
      sole g has u (inl new) = absurd (let late = retire_late two x.thunk g has x.at t h in
          let order = (half_is two x.thunk g has).order.3 in
          let early = new.0.1 in
          omega arith)
      sole g has u (inr old) = sym old.1
          ∙ sym (retired g has (let late = old.0.0 in let early = old.0.1 in omega arith)).1
