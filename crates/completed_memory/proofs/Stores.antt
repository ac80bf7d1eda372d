-- The remaining Stores of sections that have come to their Stamp: their places are apart, and what a step leaves of them.
use Rattle.std.proofs.Common.{◌≡◌, ◌≢◌, ℕ, ◌<◌, ◌≤◌, refl, sym, ap, ◌∙◌, subst, inl, inr, ⊎_elim, arith}
use Rattle.std.specs.Prelude.{◌⊎◌}
use Rattle.structure_laws.specs.body_terms.specs.Word.{next_word}
use Rattle.structure_laws.specs.body_terms.specs.declared.value.Value.{Value}
use Rattle.structure_laws.specs.body_terms.specs.declared.step.Step.{Step}
use Rattle.structure_laws.specs.body_terms.specs.declared.step.Step.TheVariants.{Load, Stamp, Store}
use Rattle.structure_laws.specs.body_terms.specs.Shape.{phase}
use Rattle.structure_laws.specs.table_words.specs.declared.layout.Layout.{Layout}
use Rattle.structure_laws.specs.Scene.{Section, Scene, passed}
use Rattle.structure_laws.specs.Meaning.{Meaning}
use Rattle.structure_laws.specs.Sections.{value_in, Here, IsStep, Settled, AllStored}
use Rattle.structure_laws.specs.Shape.{Shaped}
use Rattle.structure_laws.specs.Gives.{Gives}
use Rattle.structure_laws.specs.Lawful.{IsLawful}
use Rattle.structure_laws.proofs.Bodies.{apart_steps, same_step, no_exit_after, one_load}
use Rattle.completed_memory.specs.Pending.{HasCome, StillStores}

pub compare_places : (i j : ℕ) → (i < j) ⊎ (i ≡ j) ⊎ (j < i)
compare_places i j = search arith

load_register : (p q r u : ℕ) → Load p r ≡ Load q u → r ≡ u
load_register p q r u e = cc

load_place : (p q r u : ℕ) → Load p r ≡ Load q u → p ≡ q
load_place p q r u e = cc

store_register : (r u : ℕ) (v w : Value) → Store r v ≡ Store u w → r ≡ u
store_register r u v w e = cc

store_value : (r u : ℕ) (v w : Value) → Store r v ≡ Store u w → v ≡ w
store_value r u v w e = cc

module _ (m : Meaning) (layout : Layout) where
  -- a section that has come to its Stamp is past its Loads
  pub past_loads : (x : Section) (j p r : ℕ) → Shaped m layout x.readings x.thunk → HasCome m x → IsStep m x j (Load p r) → j < x.at
  past_loads x j p r shaped (k, le, stamp) load = ⊎_elim (λ lt. omega arith)
      (⊎_elim (λ e. absurd (differ (same_step (m.body x.thunk) j k (Load p r) Stamp load stamp e)))
      (λ gt. let phases : phase Stamp ≤ phase (Load p r) = shaped.shape.phases k j Stamp (Load p r) gt stamp load in absurd (omega arith)))
      (compare_places j k)
    where
      differ : Load p r ≡ Stamp → ⊥
      differ e = cc

  -- and comes to no step of an earlier phase
  pub no_early_step : (x : Section) (b : Step) → Shaped m layout x.readings x.thunk → HasCome m x → IsStep m x x.at b → phase b ≤ 2 → ⊥
  no_early_step x b shaped (k, le, stamp) here low = ⊎_elim
      (λ lt. let phases : phase Stamp ≤ phase b = shaped.shape.phases k x.at Stamp b lt stamp here in omega arith)
      (⊎_elim (λ e. let same : phase Stamp ≡ phase b = ap phase (same_step (m.body x.thunk) k x.at Stamp b stamp here e) in omega arith) (λ gt. omega arith))
      (compare_places k x.at)

  -- and can't leave any more
  pub come_settled : (x : Section) → Shaped m layout x.readings x.thunk → HasCome m x → Settled m x
  come_settled x shaped (k, le, stamp) j step at here = no_exit_after (m.body x.thunk) shaped.shape k j Stamp step stamp here (omega arith) (omega arith)

  -- behind a step of a later phase no Store stands
  pub no_later_store : (x : Section) (b : Step) → Shaped m layout x.readings x.thunk → IsStep m x x.at b → 5 ≤ phase b → AllStored m x
  no_later_store x b shaped here late j r v store = ⊎_elim (λ lt. lt)
      (⊎_elim (λ e. let same = ap phase (same_step (m.body x.thunk) j x.at (Store r v) b store here e) in absurd (omega arith))
      (λ gt. let phases = shaped.shape.phases x.at j b (Store r v) gt here store in absurd (omega arith)))
      (compare_places j x.at)

  -- two Stores to one place are one
  same_store : (x : Section) (i j k l p r u : ℕ) (v w : Value) → Shaped m layout x.readings x.thunk → IsStep m x i (Store r v) → IsStep m x k (Load p r)
      → IsStep m x j (Store u w) → IsStep m x l (Load p u) → (i ≡ j) × (r ≡ u) × (v ≡ w)
  same_store x i j k l p r u v w shaped store load store' load' =
      let loaded = shaped.load_once k l p r u load load' in
      let reg = load_register p p r u (same_step (m.body x.thunk) k l (Load p r) (Load p u) load load' loaded) in
      let there = subst (λ r. IsStep m x j (Store r w)) (sym reg) store' in
      let at = shaped.store_once i j r v w store there in
      (at, reg, store_value r r v w (same_step (m.body x.thunk) i j (Store r v) (Store r w) store there at))

  -- the word that a place has still to get is one
  pub one_word : (x : Section) (p v w : ℕ) → Shaped m layout x.readings x.thunk → StillStores m x p v → StillStores m x p w → v ≡ w
  one_word x p v w shaped a b =
      let same = same_store x a.at b.at a.loaded b.loaded p a.reg b.reg a.value b.value shaped a.stores a.loads b.stores b.loads in
      a.gives ∙ ap (λ r. next_word (x.reg r) (value_in x.reg a.value)) same.1 ∙ ap (λ v. next_word (x.reg b.reg) (value_in x.reg v)) same.2 ∙ sym b.gives

  -- a step that is no Store leaves the remaining Stores
  pub passed_some : (x : Section) (b : Step) (p w : ℕ) → IsStep m x x.at b → ((r : ℕ) (v : Value) → b ≢ Store r v) → StillStores m x p w → StillStores m (passed x) p w
  passed_some x b p w here no_store a =
      let ne = apart_steps (m.body x.thunk) x.at a.at b (Store a.reg a.value) here a.stores (no_store a.reg a.value) in
      let le = a.later in
      record { at = a.at; loaded = a.loaded; reg = a.reg; value = a.value; later = omega arith; stores = a.stores; loads = a.loads; gives = a.gives }

  pub passed_none : (x : Section) (p w : ℕ) → StillStores m (passed x) p w → StillStores m x p w
  passed_none x p w a = let le = a.later in
      record { at = a.at; loaded = a.loaded; reg = a.reg; value = a.value; later = omega arith; stores = a.stores; loads = a.loads; gives = a.gives }

  -- the next Store is one of them
  pub next_store : (x : Section) (j p r : ℕ) (v : Value) → IsStep m x x.at (Store r v) → IsStep m x j (Load p r) → StillStores m x p (next_word (x.reg r) (value_in x.reg v))
  next_store x j p r v store load = record { at = x.at; loaded = j; reg = r; value = v; later = omega arith; stores = store; loads = load; gives = refl }

  -- and remains no longer once it is made
  pub no_store_left : (x : Section) (j p r w : ℕ) (v : Value) → Shaped m layout x.readings x.thunk → IsStep m x x.at (Store r v) → IsStep m x j (Load p r) → StillStores m (passed x) p w → ⊥
  no_store_left x j p r w v shaped store load a =
      let same = same_store x x.at a.at j a.loaded p r a.reg v a.value shaped store load a.stores a.loads in
      let at = same.0 in let later = a.later in absurd (omega arith)

  -- every other one remains
  pub other_stores : (x : Section) (j p r q w : ℕ) (v : Value) → Shaped m layout x.readings x.thunk → IsStep m x x.at (Store r v) → IsStep m x j (Load p r)
      → StillStores m x q w → (q ≡ p) ⊎ StillStores m (passed x) q w
  other_stores x j p r q w v shaped store load a = ⊎_elim
      (λ lt. inr (record { at = a.at; loaded = a.loaded; reg = a.reg; value = a.value; later = lt; stores = a.stores; loads = a.loads; gives = a.gives }))
      (⊎_elim
      (λ e.
      let reg = store_register r a.reg v a.value (same_step (m.body x.thunk) x.at a.at (Store r v) (Store a.reg a.value) store a.stores e) in
      let load' = subst (λ r. IsStep m x a.loaded (Load q r)) (sym reg) a.loads in
      let at = one_load (m.body x.thunk) shaped.shape a.loaded j q p r load' load in
      inl (load_place q p r r (same_step (m.body x.thunk) a.loaded j (Load q r) (Load p r) load' load at)))
      (λ gt. let le = a.later in absurd (omega arith)))
      (compare_places x.at a.at)

  -- two sections have no place in common
  pub apart_stores : (s : Scene) (d e : ℕ) (x y : Section) → IsLawful m layout s → Gives m layout s → Here s d x → Here s e y → d ≢ e → HasCome m x → HasCome m y
      → (p v w : ℕ) → StillStores m x p v → StillStores m y p w → ⊥
  apart_stores s d e x y lawful gives here there ne come come' p v w a b =
      let low = past_loads x a.loaded p a.reg (lawful.shaped d x here) come a.loads in
      let low' = past_loads y b.loaded p b.reg (lawful.shaped e y there) come' b.loads in
      lawful.sound.apart d e x y here there ne (m.guard s.cells p) (gives.guarded d a.loaded p a.reg x here (omega arith) a.loads)
      (gives.guarded e b.loaded p b.reg y there (omega arith) b.loads)
