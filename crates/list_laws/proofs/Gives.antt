-- A kept scene of the list gives the core what it relies on.
use Rattle.std.specs.Prelude.{◌⊎◌, ◌-◌, ◌%◌, ◌^◌, true, Some, List, [], slice_get}
use Rattle.std.proofs.Common.{◌≡◌, ◌≢◌, ℕ, suc, ◌+◌, ◌*◌, ◌<◌, ◌≤◌, refl, sym, ap, ◌∙◌, subst, inl, inr, ⊎_elim, arith}
use Rattle.std.proofs.lemmas.Bool.{cases_eq, both_ways}
use Rattle.structure_laws.specs.table_words.specs.small_lemmas.proofs.Lists.{some_same}
use Rattle.structure_laws.specs.table_words.specs.small_lemmas.proofs.Numbers.{suc_equal}
use Rattle.structure_laws.specs.map_history.specs.Keys.{key_of, DependsOn, HaveNoCommonKey}
use Rattle.structure_laws.specs.map_history.proofs.Cells.{key_is}
use Rattle.structure_laws.specs.body_terms.specs.Word.{value_of}
use Rattle.structure_laws.specs.body_terms.specs.declared.value.Value.{Value}
use Rattle.structure_laws.specs.body_terms.specs.declared.value.Value.TheVariants.{Const, Made}
use Rattle.structure_laws.specs.body_terms.specs.declared.step.Step.{Step}
use Rattle.structure_laws.specs.body_terms.specs.declared.step.Step.TheVariants.{Load, Store, Retire}
use Rattle.structure_laws.specs.table_words.specs.declared.layout.Layout.{Layout}
use Rattle.structure_laws.specs.table_words.specs.Limits.{IsWithinLimits}
use Rattle.structure_laws.specs.Scene.{Readings, Section, Live, Retired, Scene}
use Rattle.structure_laws.specs.Sections.{is_exit, Here, IsStep, Holds, Settled, Unstored}
use Rattle.structure_laws.specs.Cells.{IsReader, IsSafe, InUse, Links}
use Rattle.structure_laws.specs.Sound.{Sound}
use Rattle.structure_laws.specs.Gives.{Gives}
use Rattle.structure_laws.proofs.Changes.{equal_of}
use Rattle.bucket_laws.proofs.TableGives.{reached}
use Rattle.list_bodies.specs.List.{lock_of, next_of, mark_of, node_in, Form, Look, Insert, Remove, Replace, Empty, form_of, body_of}
use Rattle.list_laws.specs.Line.{Nodes, rank}
use Rattle.list_laws.specs.Walk.{Walk, node_of, is_past}
use Rattle.list_laws.specs.Nodes.{is_link_place, nodes, walk_of, ListWalked, HasTaken, IsBetween}
use Rattle.list_laws.specs.Nodes.{NewNode, OldNode, ListKept, list}
use Rattle.list_laws.specs.Landing.{HasLanded}
use Rattle.list_laws.proofs.Fit.{IsFit}
use Rattle.list_laws.proofs.Forms.{FrontLoad, WholeLoad, look_load, insert_load, remove_load, replace_load}
use Rattle.list_laws.proofs.Forms.{RemoveStore, ReplaceStore, look_store, insert_store, remove_store, replace_store}
use Rattle.list_laws.proofs.Forms.{front_zero, whole_zero, whole_two, whole_three}
use Rattle.list_laws.proofs.Forms.{look_retire, insert_retire, remove_retire, replace_retire}
use Rattle.list_laws.proofs.Frame.{safe_used}
use Rattle.list_laws.proofs.Kind.{Kind, Looks, Inserts_it, Removes_it, Replaces_it, kind}
use Rattle.list_laws.proofs.Line.{rank_low, rank_high, above_head, order_of}
use Rattle.list_laws.proofs.Open as open_section

-- an empty body has no step
abbrev no_steps : List Step
no_steps = []

no_step : (step : Step) (j : ℕ) → slice_get no_steps j ≡ Some step → ⊥
no_step step j e = let z = e in cc

-- the lock that guards a cell of a node
guard_is : (p t k : ℕ) → k < 5 → p ≡ 0 + 5 * t + k → p - p % 5 ≡ lock_of t
guard_is p t k low e = omega (arith, low, e)

unfixed : (n : ℕ) → n ≢ 0 → n ≢ 1 → 2 ≤ n
unfixed n zero one = search arith

module _ (layout : Layout) (s : Scene) (sound : Sound list layout s) (kept : ListKept layout s) where
  abbrev now : Nodes
  now = nodes s.cells

  abbrev w : Section → Walk
  w x = walk_of layout x.op x.readings

  -- a live slot links linked nodes alone
  pub live_leads : (q t : ℕ) → s.status q ≡ Live → now.next q ≡ suc t → kept.linked t ≡ true
  live_leads q t live leads = ⊎_elim
      (λ on. (kept.line.next_on q t on (λ tail. zero_suc t (sym (ap now.next tail ∙ kept.line.tail_end) ∙ leads)) leads).0)
      (λ between. by between.0 between.1 between.2 between.3)
      (kept.live q live)
    where
      zero_suc : (t : ℕ) → 0 ≡ suc t → ⊥
      zero_suc t e = omega (arith, e)

      by : (d : ℕ) (x : Section) → Here s d x → IsBetween x q → kept.linked t ≡ true
      by d x here (NewNode has link) = let new = kept.made d x here has in
          let same = suc_equal new.slot q (sym new.link ∙ link) in
          open_section.new_leads layout s sound kept d x here has t (sym new.next ∙ (ap now.next same ∙ leads))
      by d x here (OldNode has is) = open_section.taken_leads layout s sound kept d x here has t
          (ap now.next is ∙ leads)

  -- and a node that was linked once and is safe links safe slots
  pub next_safe : (t u : ℕ) → IsSafe s t → now.next t ≡ suc u → IsSafe s u
  next_safe t u (inl live) leads = inl (kept.linked_live u (live_leads t u live leads))
  next_safe t u (inr retired) leads = let since = retired.2 in ⊎_elim inl
      (λ later. let order = later.2 in inr (later.0, later.1, omega (arith, since, order)))
      (kept.limbo t retired.0 u retired.1 since leads)

  -- what a section retires, and where it stands then
  pub record IsRetiring (x : Section) (j t : ℕ) : Type 0 where
    pub takes : (form_of x.thunk ≡ Remove) ⊎ (form_of x.thunk ≡ Replace)
    pub slot : t ≡ node_in x.thunk
    pub remove : form_of x.thunk ≡ Remove → j ≡ 13
    pub replace : form_of x.thunk ≡ Replace → j ≡ 16

  pub retiring : (d : ℕ) (x : Section) → Here s d x → (j t : ℕ) → IsStep list x j (Retire t) → IsRetiring x j t
  retiring d x here j t h = by (form_of x.thunk) refl
    where
      remove_replace : (f : Form) → f ≡ Remove → f ≡ Replace → ⊥
      remove_replace f e e' = cc

      by : (f : Form) → form_of x.thunk ≡ f → IsRetiring x j t
      by Look form = absurd (look_retire x.thunk j t (open_section.step_as layout s sound kept d x here Look form j (Retire t) h))
      by Insert form = absurd (insert_retire x.thunk j t
          (open_section.step_as layout s sound kept d x here Insert form j (Retire t) h))
      by Remove form =
          let is = remove_retire x.thunk j t (open_section.step_as layout s sound kept d x here Remove form j (Retire t) h) in
          record {
            takes = inl form;
            slot = is.1;
            remove = λ e. is.0;
            replace = λ e. absurd (remove_replace (form_of x.thunk) form e);
          }
      by Replace form =
          let is = replace_retire x.thunk j t (open_section.step_as layout s sound kept d x here Replace form j (Retire t) h) in
          record {
            takes = inr form;
            slot = is.1;
            remove = λ e. absurd (remove_replace (form_of x.thunk) e form);
            replace = λ e. is.0;
          }
      by Empty form = absurd (no_step (Retire t) j (open_section.step_as layout s sound kept d x here Empty form j (Retire t) h))

  pub retire_taken : (d : ℕ) (x : Section) → Here s d x → (t : ℕ) → IsStep list x x.at (Retire t) → HasTaken x
  retire_taken d x here t h = let is = retiring d x here x.at t h in
      ⊎_elim (λ form. inl (form, is.remove form)) (λ form. inr (form, is.replace form)) is.takes

  -- a settled section has passed its exits
  exit_past : (d : ℕ) (x : Section) → Here s d x → Settled list x → (j : ℕ) (step : Step) → IsStep list x j step
      → is_exit step ≡ true → j < x.at
  exit_past d x here settled j step h exit = ⊎_elim (λ late. absurd (both_ways _ (settled j step late h) exit)) (λ e. e)
      (either x.at j)
    where
      either : (a b : ℕ) → (a ≤ b) ⊎ (b < a)
      either a b = search arith

  settled_look : (d : ℕ) (x : Section) → Here s d x → Settled list x → form_of x.thunk ≡ Look → 4 ≤ x.at
  settled_look d x here settled form = exit_past d x here settled 3 _
      (open_section.step_is layout s sound kept d x here Look form 3 _ refl) refl

  settled_insert : (d : ℕ) (x : Section) → Here s d x → Settled list x → form_of x.thunk ≡ Insert → 5 ≤ x.at
  settled_insert d x here settled form = exit_past d x here settled 4 _
      (open_section.step_is layout s sound kept d x here Insert form 4 _ refl) refl

  settled_remove : (d : ℕ) (x : Section) → Here s d x → Settled list x → form_of x.thunk ≡ Remove → 10 ≤ x.at
  settled_remove d x here settled form = exit_past d x here settled 9 _
      (open_section.step_is layout s sound kept d x here Remove form 9 _ refl) refl

  settled_replace : (d : ℕ) (x : Section) → Here s d x → Settled list x → form_of x.thunk ≡ Replace → 11 ≤ x.at
  settled_replace d x here settled form = exit_past d x here settled 10 _
      (open_section.step_is layout s sound kept d x here Replace form 10 _ refl) refl

  -- the lock of what it retires
  holds_retired : (d : ℕ) (x : Section) → Here s d x → Settled list x → (j t : ℕ) → IsStep list x j (Retire t)
      → Holds list x (lock_of t)
  holds_retired d x here settled j t h = let is = retiring d x here j t h in
      subst (λ u. Holds list x (lock_of u)) (sym (is.slot ∙ (open_section.fits layout s sound kept d x here).node))
      (open_section.holds_node layout s sound kept d x here is.takes (⊎_elim
      (λ form. let past = settled_remove d x here settled form in omega (arith, past))
      (λ form. let past = settled_replace d x here settled form in omega (arith, past)) is.takes))

  pub holds_taken : (d : ℕ) (x : Section) → Here s d x → HasTaken x → Holds list x (lock_of (node_in x.thunk))
  holds_taken d x here has = subst (λ u. Holds list x (lock_of u)) (sym (open_section.fits layout s sound kept d x here).node)
      (⊎_elim (λ remove. open_section.holds_node layout s sound kept d x here (inl remove.0)
      (let at = remove.1 in omega (arith, at)))
      (λ replace. open_section.holds_node layout s sound kept d x here (inr replace.0)
      (let at = replace.1 in omega (arith, at))) has)

  guarded : (d : ℕ) (x : Section) → Here s d x → (j p r : ℕ) → j ≤ x.at → IsStep list x j (Load p r)
      → Holds list x (p - p % 5)
  guarded d x here j p r le load = by (form_of x.thunk) refl
    where
      fits : IsFit x.op (w x) x.thunk
      fits = open_section.fits layout s sound kept d x here

      holds_at : (t k : ℕ) → Holds list x (lock_of t) → k < 5 → p ≡ 0 + 5 * t + k → Holds list x (p - p % 5)
      holds_at t k holds low e = subst (Holds list x) (sym (guard_is p t k low e)) holds

      front : (a b : ℕ) → FrontLoad x.thunk a b j p r → Holds list x (p - p % 5)
      front a b (inl l) = holds_at (w x).from 2 (open_section.holds_outer layout s sound kept d x here) (omega arith)
          (let at = l.2 in let lock = fits.lock in let z : p ≡ 0 + 5 * (w x).from + 2 = omega (arith, at, lock) in z)
      front a b (inr l) = holds_at (w x).from 4 (open_section.holds_outer layout s sound kept d x here) (omega arith)
          (let at = l.2 in let lock = fits.lock in let z : p ≡ 0 + 5 * (w x).from + 4 = omega (arith, at, lock) in z)

      whole : (form_of x.thunk ≡ Remove) ⊎ (form_of x.thunk ≡ Replace) → WholeLoad x.thunk j p r
          → Holds list x (p - p % 5)
      whole takes (inl l) = front 0 3 l
      whole takes (inr (inl l)) = holds_at (node_of (w x)) 2 (open_section.holds_node layout s sound kept d x here takes
          (let at = l.0 in omega (arith, le, at))) (omega arith) (l.2 ∙ ap next_of fits.node)
      whole takes (inr (inr l)) = holds_at (node_of (w x)) 4 (open_section.holds_node layout s sound kept d x here takes
          (let at = l.0 in omega (arith, le, at))) (omega arith) (l.2 ∙ ap mark_of fits.node)

      loads_as : (f : Form) → form_of x.thunk ≡ f → slice_get (body_of f x.thunk) j ≡ Some (Load p r)
      loads_as f form = open_section.step_as layout s sound kept d x here f form j (Load p r) load

      by : (f : Form) → form_of x.thunk ≡ f → Holds list x (p - p % 5)
      by Look form = front 0 2 (look_load x.thunk j p r (loads_as Look form))
      by Insert form = front 0 3 (insert_load x.thunk j p r (loads_as Insert form))
      by Remove form = whole (inl form) (remove_load x.thunk j p r (loads_as Remove form))
      by Replace form = whole (inr form) (replace_load x.thunk j p r (loads_as Replace form))
      by Empty form = absurd (no_step (Load p r) j (loads_as Empty form))

  walked : (r : ℕ) (readings : Readings) → s.reader r ≡ Some readings → ListWalked layout readings
  walked r readings reader = let read = kept.readers r readings reader in record {
    within = λ i p word t h link leads. sound.within t (safe_used s t
        ((sound.readers r readings reader).safe i p word t h link leads));
    next_some = read.next_some;
    tail_key = λ i word h. read.key i 1 word h ∙ kept.line.tail_key;
    marks = read.marks;
  }

  reach : (readings : Readings) (t : ℕ) → IsReader s readings → list.reaches readings t ≡ true
      → (i p word : ℕ) × (slice_get readings i ≡ Some (p, word)) × (list.is_link s.cells p ≡ true)
      × (value_of word ≡ suc t)
  reach readings t reader h = let by = reached is_link_place readings t h in (by.0, by.1, by.2, by.3, by.4, by.5)

  -- a link in a node is its third cell
  link_cell : (q p i : ℕ) → i < 5 → p ≡ 0 + 5 * q + i → is_link_place p ≡ true → p ≡ next_of q
  link_cell q p i low e link = let two = equal_of (p % 5) 2 link in
      let z : p ≡ 0 + 5 * q + 2 = omega (arith, low, e, two) in z

  used_leads : (p t : ℕ) → InUse list s p → Links list s p t → kept.linked t ≡ true
  used_leads p t (inl fixed) links = absurd (omega (arith, fixed))
  used_leads p t (inr used) links = let cell = used.1 in
      live_leads used.0 t used.2 (ap (λ p. value_of (s.cells p)) (sym (link_cell used.0 p cell.0 cell.1 cell.2 links.0))
      ∙ links.1)

  limbo : (q y t i : ℕ) → s.status q ≡ Retired y → s.epoch ≤ y + 1 → i < 5 → Links list s (0 + 5 * q + i) t
      → (s.status t ≡ Live) ⊎ ((z : ℕ) × (s.status t ≡ Retired z) × (y ≤ z))
  limbo q y t i retired recent low links = kept.limbo q y t retired recent
      (ap (λ p. value_of (s.cells p)) (sym (link_cell q (0 + 5 * q + i) i low refl links.0)) ∙ links.1)

  retire_live : (d : ℕ) (x : Section) → Here s d x → (j t : ℕ) → Settled list x → x.at ≤ j → IsStep list x j (Retire t)
      → s.status t ≡ Live
  retire_live d x here j t settled le h =
      let is = retiring d x here j t h in
      subst (λ u. s.status u ≡ Live) (sym is.slot) (⊎_elim (remove is) (replace is) is.takes)
    where
      node_live : HasLanded layout s kept (key_of x.op) (w x) → s.status (node_in x.thunk) ≡ Live
      node_live landed = ap s.status (open_section.fits layout s sound kept d x here).node
          ∙ kept.linked_live (node_of (w x)) landed.node

      last : (a b : ℕ) → a ≤ suc b → (a ≤ b) ⊎ (a ≡ suc b)
      last a b le = search arith

      remove : IsRetiring x j t → form_of x.thunk ≡ Remove → s.status (node_in x.thunk) ≡ Live
      remove is form = let past = settled_remove d x here settled form in let at = is.remove form in ⊎_elim
          (λ before. node_live (open_section.remove_landed layout s sound kept d x here form (omega (arith, past)) before))
          (λ now_at. (kept.taken d x here (inl (form, now_at))).live)
          (last x.at 12 (omega (arith, le, at)))

      replace : IsRetiring x j t → form_of x.thunk ≡ Replace → s.status (node_in x.thunk) ≡ Live
      replace is form = let past = settled_replace d x here settled form in let at = is.replace form in ⊎_elim
          (λ before. node_live (open_section.replace_landed layout s sound kept d x here form (omega (arith, past)) before))
          (λ now_at. (kept.taken d x here (inr (form, now_at))).live)
          (last x.at 15 (omega (arith, le, at)))

  retire_unfixed : (d : ℕ) (x : Section) → Here s d x → (j t : ℕ) → IsStep list x j (Retire t) → 2 ≤ t
  retire_unfixed d x here j t h =
      let is = retiring d x here j t h in
      let fits = open_section.fits layout s sound kept d x here in
      let same = is.slot ∙ fits.node in
      unfixed t
      (λ e. (open_section.is_walk layout s sound kept d x here).node_head (ap is_past fits.stage) (sym same ∙ e))
      (λ e. open_section.found_inner layout s sound kept d x here
      (open_section.takes_found layout s sound kept d x here is.takes) (sym same ∙ e))

  retire_once : (d e i j t : ℕ) (x y : Section) → Here s d x → Here s e y → Settled list x → Settled list y
      → IsStep list x i (Retire t) → IsStep list y j (Retire t) → (d ≡ e) × (i ≡ j)
  retire_once d e i j t x y here there settled settled' h h' = ⊎_elim
      (λ same. let one : x ≡ y = some_same (sym here ∙ (ap s.section same ∙ there)) in
      let is = retiring d x here i t h in
      let is' = retiring d x here j t (subst (λ z. IsStep list z j (Retire t)) (sym one) h') in (
        same,
        ⊎_elim (λ form. is.remove form ∙ sym (is'.remove form)) (λ form. is.replace form ∙ sym (is'.replace form))
            is.takes,
      ))
      (λ differ. absurd (sound.apart d e x y here there differ (lock_of t) (holds_retired d x here settled i t h)
      (holds_retired e y there settled' j t h')))
      (cases_eq d e)

  retire_unlinked : (d t p : ℕ) (x : Section) → Here s d x → IsStep list x x.at (Retire t) → InUse list s p
      → Links list s p t → ⊥
  retire_unlinked d t p x here h used links = both_ways _
      (ap kept.linked (retiring d x here x.at t h).slot ∙ (kept.taken d x here (retire_taken d x here t h)).out)
      (used_leads p t used links)

  -- the cells to which a section stores are of nodes that are linked then
  in_use : (t k p : ℕ) → k < 5 → p ≡ 0 + 5 * t + k → kept.linked t ≡ true → InUse list s p
  in_use t k p low e on = inr (t, (k, low, e), kept.linked_live t on)

  store_used : (d : ℕ) (x : Section) → Here s d x → (i j p r : ℕ) (v : Value) → Settled list x → x.at ≤ i
      → IsStep list x i (Store r v) → IsStep list x j (Load p r) → InUse list s p
  store_used d x here i j p r v settled le store load = by (form_of x.thunk) refl
    where
      fits : IsFit x.op (w x) x.thunk
      fits = open_section.fits layout s sound kept d x here

      from_used : HasLanded layout s kept (key_of x.op) (w x) → p ≡ x.thunk.lock + 2 → InUse list s p
      from_used landed e = in_use (w x).from 2 p (omega arith)
          (let lock = fits.lock in let z : p ≡ 0 + 5 * (w x).from + 2 = omega (arith, e, lock) in z) landed.from

      node_used : HasLanded layout s kept (key_of x.op) (w x) → (k : ℕ) → k < 5 → p ≡ 0 + 5 * node_in x.thunk + k
          → InUse list s p
      node_used landed k low e = in_use (node_in x.thunk) k p low e (ap kept.linked fits.node ∙ landed.node)

      loads : (f : Form) → form_of x.thunk ≡ f → slice_get (body_of f x.thunk) j ≡ Some (Load p r)
      loads f form = open_section.step_as layout s sound kept d x here f form j (Load p r) load

      stores : (f : Form) → form_of x.thunk ≡ f → slice_get (body_of f x.thunk) i ≡ Some (Store r v)
      stores f form = open_section.step_as layout s sound kept d x here f form i (Store r v) store

      remove : (form : form_of x.thunk ≡ Remove) → RemoveStore x.thunk i r v → InUse list s p
      remove form (inl a) = let at = a.0 in let past = settled_remove d x here settled form in
          node_used (open_section.remove_landed layout s sound kept d x here form (omega (arith, past))
          (omega (arith, le, at))) 4 (omega arith) (whole_three x.thunk j p r (remove_load x.thunk j p r (loads Remove form)) a.1)
      remove form (inr b) = let at = b.0 in let past = settled_remove d x here settled form in
          from_used (open_section.remove_landed layout s sound kept d x here form (omega (arith, past))
          (omega (arith, le, at))) (whole_zero x.thunk j p r (remove_load x.thunk j p r (loads Remove form)) b.1)

      replace_at : (form : form_of x.thunk ≡ Replace) → x.at ≤ 15 → HasLanded layout s kept (key_of x.op) (w x)
      replace_at form few = let past = settled_replace d x here settled form in
          open_section.replace_landed layout s sound kept d x here form (omega (arith, past)) few

      replace : (form : form_of x.thunk ≡ Replace) → ReplaceStore x.thunk i r v → InUse list s p
      replace form (inl a) = let at = a.0 in node_used (replace_at form (omega (arith, le, at))) 4 (omega arith)
          (whole_three x.thunk j p r (replace_load x.thunk j p r (loads Replace form)) a.1)
      replace form (inr (inl b)) = let at = b.0 in node_used (replace_at form (omega (arith, le, at))) 2 (omega arith)
          (whole_two x.thunk j p r (replace_load x.thunk j p r (loads Replace form)) b.1)
      replace form (inr (inr c)) = let at = c.0 in from_used (replace_at form (omega (arith, le, at)))
          (whole_zero x.thunk j p r (replace_load x.thunk j p r (loads Replace form)) c.1)

      by : (f : Form) → form_of x.thunk ≡ f → InUse list s p
      by Look form = absurd (look_store x.thunk i r v (stores Look form))
      by Insert form =
          let is = insert_store x.thunk i r v (stores Insert form) in
          let at = is.0 in let past = settled_insert d x here settled form in
          from_used (open_section.insert_landed layout s sound kept d x here form past (omega (arith, le, at)))
          (front_zero x.thunk 0 3 j p r (insert_load x.thunk j p r (loads Insert form)) is.1)
      by Remove form = remove form (remove_store x.thunk i r v (stores Remove form))
      by Replace form = replace form (replace_store x.thunk i r v (stores Replace form))
      by Empty form = absurd (no_step (Store r v) i (stores Empty form))

  -- the node behind a section's predecessor has a key that isn't lower than its own
  node_high : (d : ℕ) (x : Section) → Here s d x → key_of x.op ≤ now.key (node_of (w x))
  node_high d x here = let high = (open_section.has_read layout s sound kept d x here).key_high (omega arith) in
      let is = open_section.node_key layout s sound kept d x here in omega (arith, high, is)

  -- of two sections of one key neither predecessor comes before the other
  not_before : (d e : ℕ) (x y : Section) (here : Here s d x) (there : Here s e y)
      → HasLanded layout s kept (key_of x.op) (w x) → HasLanded layout s kept (key_of y.op) (w y)
      → key_of x.op ≡ key_of y.op → rank now (w x).from < rank now (w y).from → ⊥
  not_before d e x y here there a b same less =
      let top = kept.line.next_top (w x).from (node_of (w x)) (w y).from a.from a.from_tail a.link b.from less in
      let some = above_head now (w x).from (w y).from less in
      let below = b.from_key some in
      let high = rank_high now (w y).from some in
      let low = rank_low now (node_of (w x)) a.node_head in
      let node = node_high d x here in
      omega (arith, top, below, high, low, node, same)

  -- so they have the same one, and its lock
  pub landed_apart : (d e : ℕ) (x y : Section) → Here s d x → Here s e y → d ≢ e
      → HasLanded layout s kept (key_of x.op) (w x) → HasLanded layout s kept (key_of y.op) (w y)
      → key_of x.op ≡ key_of y.op → ⊥
  landed_apart d e x y here there ne a b same = ⊎_elim (not_before d e x y here there a b same)
      (⊎_elim
      (λ equal. sound.apart d e x y here there ne (lock_of (w x).from)
      (open_section.holds_outer layout s sound kept d x here)
      (subst (λ t. Holds list y (lock_of t)) (sym (kept.line.rank_once (w x).from (w y).from a.from b.from equal))
      (open_section.holds_outer layout s sound kept e y there)))
      (not_before e d y x there here b a (sym same)))
      (order_of (rank now (w x).from) (rank now (w y).from))

  module _ (limits : IsWithinLimits layout) where
    -- the cells of a section's nodes have places, so it has one of the four forms
    pub kind_of : (d : ℕ) (x : Section) → Here s d x → Kind x.op (w x) x.thunk
    kind_of d x here = kind x.op (w x) x.thunk (open_section.fits layout s sound kept d x here) (sound.allowed d x here)
        ((open_section.has_read layout s sound kept d x here).some (omega arith))
        (low (w x).from (open_section.from_safe layout s sound kept d x here))
        (low (node_of (w x)) (open_section.node_safe layout s sound kept d x here))
      where
        low : (t : ℕ) → IsSafe s t → mark_of t < 2 ^ 32
        low t safe = let high = sound.within t (safe_used s t safe) in let nodes = limits.few_nodes in
            let runners = limits.few_runners in omega (arith, high, nodes, runners)

    -- a settled section that has made no Store has landed
    pub has_landed : (d : ℕ) (x : Section) → Here s d x → Settled list x → Unstored list x
        → HasLanded layout s kept (key_of x.op) (w x)
    has_landed d x here settled unstored = by (kind_of d x here)
      where
        by : Kind x.op (w x) x.thunk → HasLanded layout s kept (key_of x.op) (w x)
        by (Looks form number) = open_section.look_landed layout s sound kept d x here form
            (settled_look d x here settled form)
        by (Inserts_it form number) = open_section.insert_landed layout s sound kept d x here form
            (settled_insert d x here settled form)
            (unstored 7 0 (Made 2) (open_section.step_is layout s sound kept d x here Insert form 7 (Store 0 (Made 2)) refl))
        by (Removes_it form number) = let past = settled_remove d x here settled form in
            let few = unstored 11 3 (Const 1)
            (open_section.step_is layout s sound kept d x here Remove form 11 (Store 3 (Const 1)) refl) in
            open_section.remove_landed layout s sound kept d x here form (omega (arith, past)) (omega (arith, few))
        by (Replaces_it form number) = let past = settled_replace d x here settled form in
            let few = unstored 13 3 (Const 1)
            (open_section.step_is layout s sound kept d x here Replace form 13 (Store 3 (Const 1)) refl) in
            open_section.replace_landed layout s sound kept d x here form (omega (arith, past)) (omega (arith, few))

    one_key : (d e : ℕ) (x y : Section) → Here s d x → Here s e y → d ≢ e → Settled list x → Settled list y
        → Unstored list x → Unstored list y → HaveNoCommonKey x.op y.op
    one_key d e x y here there ne settled settled' unstored unstored' key depends depends' =
        landed_apart d e x y here there ne (has_landed d x here settled unstored)
        (has_landed e y there settled' unstored') same
      where
        own_key : (c : ℕ) (z : Section) → Here s c z → DependsOn z.op key → key_of z.op ≡ key
        own_key c z at on = key_is z.op key (open_section.fits layout s sound kept c z at).one on

        same : key_of x.op ≡ key_of y.op
        same = own_key d x here depends ∙ sym (own_key e y there depends')

    pub list_gives : Gives list layout s
    list_gives = record {
      guarded = λ d j p r x here le load. guarded d x here j p r le load;
      walked = λ r readings op reader allowed. walked r readings reader;
      reach = reach;
      steady_store = λ d j p q r x v here store load. refl;
      steady_lock = λ p q word lock. refl;
      steady_hand = λ t i q word free low other. refl;
      steady_guard_store = λ d j p q r x v here store load. refl;
      steady_guard_lock = λ p q word lock. refl;
      steady_guard_hand = λ t i q word free low other. refl;
      live = λ p t used links. kept.linked_live t (used_leads p t used links);
      limbo = limbo;
      retire_live = λ d j t x here settled le h. retire_live d x here j t settled le h;
      retire_unfixed = λ d j t x here settled le h. retire_unfixed d x here j t h;
      retire_once = λ d e i j t x y here there settled settled' le le'. retire_once d e i j t x y here there settled settled';
      retire_unlinked = retire_unlinked;
      store_used = λ d i j p r x v here settled le store load. store_used d x here i j p r v settled le store load;
      one_key = λ map. one_key;
    }
