-- The list keeps what it keeps, by a section's steps that change no cell and no status, and by the moves around it.
use Rattle.std.specs.Prelude.{◌⊎◌, ◌%◌, true, false, Option, Some, None, [], slice_get}
use Rattle.std.proofs.Common.{◌≡◌, ◌≢◌, ℕ, suc, ◌+◌, ◌*◌, ◌<◌, ◌≤◌, refl, sym, ap, ◌∙◌, subst, inl, inr, ⊎_elim, arith}
use Rattle.std.proofs.lemmas.Bool.{cases_eq}
use Rattle.std.proofs.lemmas.Option.{none-some}
use Rattle.structure_laws.specs.table_words.specs.small_lemmas.proofs.Lists.{some_same}
use Rattle.structure_laws.specs.map_history.specs.declared.op.Op.{Op}
use Rattle.structure_laws.specs.map_history.specs.Keys.{key_of}
use Rattle.structure_laws.specs.body_terms.specs.Update.{upd}
use Rattle.structure_laws.specs.body_terms.specs.Word.{value_of, version_of}
use Rattle.structure_laws.specs.body_terms.specs.declared.value.Value.{Value}
use Rattle.structure_laws.specs.body_terms.specs.declared.value.Value.TheVariants.{Const, Of, Made}
use Rattle.structure_laws.specs.body_terms.specs.declared.value.Init.{Init}
use Rattle.structure_laws.specs.body_terms.specs.declared.step.Step.{Step}
use Rattle.structure_laws.specs.body_terms.specs.declared.step.Step.TheVariants.{Load, Want, Fresh, Take, Make, Stamp, Store, Retire, Answer}
use Rattle.structure_laws.specs.body_terms.specs.declared.thunk.Thunk.{Thunk}
use Rattle.structure_laws.specs.table_words.specs.declared.layout.Layout.{Layout}
use Rattle.structure_laws.specs.Scene.{Readings, Section, Free, Scene, with_cell, with_reader, with_section, opened, passes, sets}
use Rattle.structure_laws.specs.Sections.{Here, IsStep, Settled, Ended, Unheld, is_exit}
use Rattle.structure_laws.specs.Sound.{Sound}
use Rattle.structure_laws.specs.Keeps.{Publishes, Onward}
use Rattle.structure_laws.proofs.Changes.{upd_same, upd_other, upd_some, upd_none, equal_of}
use Rattle.structure_laws.proofs.Progress.{stepped}
use Rattle.list_bodies.specs.List.{Form, Look, Insert, Remove, Replace, Empty, form_of, body_of, node_in}
use Rattle.list_bodies.specs.List.{insert_steps, remove_steps, replace_steps}
use Rattle.list_laws.specs.Nodes.{is_lock_place, nodes, HasNew, HasMarked, HasTaken, IsNew, ListKept, list}
use Rattle.list_laws.specs.Nodes.{new_reg, new_next, IsBetween, NewNode, OldNode}
use Rattle.node_laws.specs.Walked.{walked}
use Rattle.list_laws.proofs.Forms.{insert_init, replace_init}
use Rattle.list_laws.proofs.Frame.{IsSameNode, no_change, IsKeptSection, IsKeptReader, passing_kept}

-- each cell of a node stands
pub same_cells : (s s' : Scene) (t : ℕ)
    → ((k : ℕ) → 0 < k → k < 5 → s'.cells (0 + 5 * t + k) ≡ s.cells (0 + 5 * t + k))
    → IsSameNode (nodes s.cells) (nodes s'.cells) t
same_cells s s' t same = record {
  key = ap value_of (same 1 (omega arith) (omega arith));
  next = ap value_of (same 2 (omega arith) (omega arith));
  value = ap value_of (same 3 (omega arith) (omega arith));
  mark = ap value_of (same 4 (omega arith) (omega arith));
}

-- a step that a section doesn't come to, by its form
module _ (x : Section) (b : Step) (h : IsStep list x x.at b) where
  pub step_known : (f : Form) → form_of x.thunk ≡ f → (j : ℕ) (known : Step)
      → slice_get (body_of f x.thunk) j ≡ Some known → x.at ≡ j → b ≡ known
  step_known f form j known is at = some_same (sym h ∙ (ap (λ g. slice_get (body_of g x.thunk) x.at) form
      ∙ (ap (slice_get (body_of f x.thunk)) at ∙ is)))

pub split_two : (n k : ℕ) → n ≤ k → k ≤ suc n → (k ≡ n) ⊎ (k ≡ suc n)
split_two n k low high = search arith

pub split_three : (n k : ℕ) → n ≤ k → k ≤ suc (suc n) → (k ≡ n) ⊎ (k ≡ suc n) ⊎ (k ≡ suc (suc n))
split_three n k low high = search arith

le_same : (k : ℕ) → k ≤ k
le_same k = omega arith

-- a section that comes to neither a Make nor a Store nor a Retire
module _ (layout : Layout) (s : Scene) (sound : Sound list layout s) (kept : ListKept layout s) (d : ℕ) (x : Section)
    (here : Here s d x)
    (b : Step) (h : IsStep list x x.at b) (no_make : (init : Init) (r : ℕ) → b ≢ Make init r)
    (no_store : (r : ℕ) (v : Value) → b ≢ Store r v)
    (no_retire : (t : ℕ) → b ≢ Retire t) (reg : ℕ → ℕ) (regs : b ≡ Stamp → (r : ℕ) → reg r ≡ x.reg r) where
  abbrev s' : Scene
  s' = record s { section = upd s.section d (Some (stepped x reg)) }

  known : (f : Form) → form_of x.thunk ≡ f → (j : ℕ) (step : Step) → slice_get (body_of f x.thunk) j ≡ Some step
      → x.at ≡ j → b ≡ step
  known = step_known x b h

  -- with a new node it stands at its Stamp
  insert_stamp : form_of x.thunk ≡ Insert → 5 ≤ x.at → x.at ≤ 7 → x.at ≡ 6
  insert_stamp form low high = ⊎_elim
      (λ five. absurd (no_make (insert_init x.thunk) 2 (known Insert form 5 (Make (insert_init x.thunk) 2) refl five)))
      (⊎_elim (λ six. six)
      (λ seven. absurd (no_store 0 (Made 2) (known Insert form 7 (Store 0 (Made 2)) refl seven))))
      (split_three 5 x.at low high)

  replace_stamp : form_of x.thunk ≡ Replace → 11 ≤ x.at → x.at ≤ 14 → x.at ≡ 12
  replace_stamp form low high = ⊎_elim
      (λ before. ⊎_elim
      (λ eleven. absurd (no_make (replace_init x.thunk) 4
      (known Replace form 11 (Make (replace_init x.thunk) 4) refl eleven)))
      (λ twelve. twelve) (split_two 11 x.at low before))
      (λ behind. absurd (⊎_elim
      (λ at. no_store 3 (Const 1) (known Replace form 13 (Store 3 (Const 1)) refl at))
      (λ at. no_store 2 (Made 4) (known Replace form 14 (Store 2 (Made 4)) refl at)) (split_two 13 x.at behind high)))
      (either x.at)
    where
      either : (k : ℕ) → (k ≤ 12) ⊎ (13 ≤ k)
      either k = search arith

  -- it has marked nothing, and taken nothing out
  no_remove : form_of x.thunk ≡ Remove → 11 ≤ x.at → x.at ≤ 13 → ⊥
  no_remove form low high = ⊎_elim
      (λ at. no_store 3 (Const 1) (known Remove form 11 (Store 3 (Const 1)) refl at))
      (⊎_elim (λ at. no_store 0 (Of 2) (known Remove form 12 (Store 0 (Of 2)) refl at))
      (λ at. no_retire (node_in x.thunk) (known Remove form 13 (Retire (node_in x.thunk)) refl at)))
      (split_three 11 x.at low high)

  no_replace : form_of x.thunk ≡ Replace → 13 ≤ x.at → x.at ≤ 16 → ⊥
  no_replace form low high = ⊎_elim
      (λ before. ⊎_elim
      (λ at. no_store 3 (Const 1) (known Replace form 13 (Store 3 (Const 1)) refl at))
      (λ at. no_store 2 (Made 4) (known Replace form 14 (Store 2 (Made 4)) refl at)) (split_two 13 x.at low before))
      (λ behind. ⊎_elim
      (λ at. no_store 0 (Made 4) (known Replace form 15 (Store 0 (Made 4)) refl at))
      (λ at. no_retire (node_in x.thunk) (known Replace form 16 (Retire (node_in x.thunk)) refl at))
      (split_two 15 x.at behind high))
      (either x.at)
    where
      either : (k : ℕ) → (k ≤ 14) ⊎ (15 ≤ k)
      either k = search arith

  no_marked : HasMarked x → ⊥
  no_marked (inl remove) = let at = remove.1 in no_remove remove.0 (omega (arith, at)) (omega (arith, at))
  no_marked (inr replace) = let low = replace.1 in let high = replace.2 in
      no_replace replace.0 (omega (arith, low)) (omega (arith, high))

  no_taken : HasTaken x → ⊥
  no_taken (inl remove) = let at = remove.1 in no_remove remove.0 (omega (arith, at)) (omega (arith, at))
  no_taken (inr replace) = let at = replace.1 in no_replace replace.0 (omega (arith, at)) (omega (arith, at))

  not_taking : HasTaken (stepped x reg) → ⊥
  not_taking (inl remove) = let at = remove.1 in no_remove remove.0 (omega (arith, at)) (omega (arith, at))
  not_taking (inr replace) = let at = replace.1 in no_replace replace.0 (omega (arith, at)) (omega (arith, at))

  -- it has made its node and stands at its Stamp
  new_before : HasNew (stepped x reg) → HasNew x × ((r : ℕ) → reg r ≡ x.reg r)
  new_before (inl insert) =
      let low = insert.1 in let high = insert.2 in
      let six = insert_stamp insert.0 (omega (arith, low)) (omega (arith, high)) in (
        inl (insert.0, omega (arith, six), omega (arith, six)),
        regs (known Insert insert.0 6 Stamp refl six),
      )
  new_before (inr replace) =
      let low = replace.1 in let high = replace.2 in
      let at = replace_stamp replace.0 (omega (arith, low)) (omega (arith, high)) in (
        inr (replace.0, omega (arith, at), omega (arith, at)),
        regs (known Replace replace.0 12 Stamp refl at),
      )

  new_onward : HasNew x → HasNew (stepped x reg) × ((r : ℕ) → reg r ≡ x.reg r)
  new_onward (inl insert) =
      let low = insert.1 in let high = insert.2 in
      let six = insert_stamp insert.0 (omega (arith, low)) (omega (arith, high)) in (
        inl (insert.0, omega (arith, six), omega (arith, six)),
        regs (known Insert insert.0 6 Stamp refl six),
      )
  new_onward (inr replace) =
      let low = replace.1 in let high = replace.2 in
      let at = replace_stamp replace.0 (omega (arith, low)) (omega (arith, high)) in (
        inr (replace.0, omega (arith, at), omega (arith, at)),
        regs (known Replace replace.0 12 Stamp refl at),
      )

  next_same : ((r : ℕ) → reg r ≡ x.reg r) → (f : Form) → new_next f x ≡ new_next f (stepped x reg)
  next_same same Look = refl
  next_same same Insert = refl
  next_same same Remove = refl
  next_same same Replace = ap value_of (sym (same 2))
  next_same same Empty = refl

  new : HasNew (stepped x reg) → IsNew s' kept.once (stepped x reg)
  new has =
      let before = new_before has in
      let was = kept.made d x here before.0 in
      record {
        slot = was.slot;
        link = before.1 (new_reg (form_of x.thunk)) ∙ was.link;
        live = was.live;
        new = was.new;
        key = was.key;
        value = was.value;
        next = was.next ∙ next_same before.1 (form_of x.thunk);
        mark = was.mark;
      }

  -- what was between is so still
  onward : (t : ℕ) → IsBetween x t → IsBetween (stepped x reg) t
  onward t (NewNode has link) = let after = new_onward has in
      NewNode after.0 (after.1 (new_reg (form_of x.thunk)) ∙ link)
  onward t (OldNode has is) = absurd (no_taken has)

  is_x : (e : ℕ) (y : Section) → s.section e ≡ Some y → e ≡ d → y ≡ x
  is_x e y there same = some_same (sym there ∙ (ap s.section same ∙ here))

  pub calm_kept : ListKept layout s'
  calm_kept = passing_kept layout s s' sound kept (record {
    same = λ t used. no_change (nodes s.cells) t;
    status = λ t. refl;
    epoch = le_same s.epoch;
    marked = λ e y there has. (
      e,
      y,
      upd_other s.section d e (Some (stepped x reg)) (λ same. no_marked (subst HasMarked (is_x e y there same) has))
          ∙ there,
      has,
      refl,
    );
    between = λ e y t there between. ⊎_elim
        (λ same. (
          d,
          stepped x reg,
          upd_same s.section d d (Some (stepped x reg)) refl,
          onward t (subst (λ y. IsBetween y t) (is_x e y there same) between),
        ))
        (λ ne. (e, y, upd_other s.section d e (Some (stepped x reg)) ne ∙ there, between)) (cases_eq e d);
    section = λ e y there. ⊎_elim (λ same. inr (subst (IsKeptSection layout s s' sound kept) same.1 own))
        (λ other. inl other.1) (upd_some s.section d e (stepped x reg) y there);
    reader = λ r readings reader. inl reader;
  })
    where
      own : IsKeptSection layout s s' sound kept (stepped x reg)
      own = record {
        new = new;
        taken = λ has. absurd (not_taking has);
        behind = λ form at. absurd (no_replace form (omega (arith, at)) (omega (arith, at)));
        read = kept.published d x here;
        walk = kept.sections d x here;
      }

-- the steps one by one
pub keeps_load : (layout : Layout) (s : Scene) (d p r : ℕ) (x : Section) → Here s d x → IsStep list x x.at (Load p r)
    → Onward list layout s (sets s d x r (s.cells p))
keeps_load layout s d p r x here h sound kept sound' = calm_kept layout s sound kept d x here (Load p r) h
    (λ init k e. cc) (λ k v e. cc) (λ t e. cc) (upd x.reg r (s.cells p)) (λ e. absurd (let z = e in cc))

pub keeps_want : (layout : Layout) (s : Scene) (d r w : ℕ) (x : Section) → Here s d x → IsStep list x x.at (Want r w)
    → x.reg r ≡ w → Onward list layout s (passes s d x)
keeps_want layout s d r w x here h is sound kept sound' = calm_kept layout s sound kept d x here (Want r w) h
    (λ init k e. cc) (λ k v e. cc) (λ t e. cc) x.reg (λ e k. refl)

pub keeps_fresh : (layout : Layout) (s : Scene) (d r : ℕ) (x : Section) → Here s d x → IsStep list x x.at (Fresh r)
    → version_of (x.reg r) ≢ layout.version_max → Onward list layout s (passes s d x)
keeps_fresh layout s d r x here h fresh sound kept sound' = calm_kept layout s sound kept d x here (Fresh r) h
    (λ init k e. cc) (λ k v e. cc) (λ t e. cc) x.reg (λ e k. refl)

pub keeps_take : (layout : Layout) (s : Scene) (d l w : ℕ) (x : Section) → Here s d x → IsStep list x x.at (Take l w)
    → Unheld list s l → Onward list layout s (passes s d x)
keeps_take layout s d l w x here h unheld sound kept sound' = calm_kept layout s sound kept d x here (Take l w) h
    (λ init k e. cc) (λ k v e. cc) (λ t e. cc) x.reg (λ e k. refl)

pub keeps_stamp : (layout : Layout) (s : Scene) (d : ℕ) (x : Section) → Here s d x → IsStep list x x.at Stamp
    → Onward list layout s (passes s d x)
keeps_stamp layout s d x here h sound kept sound' = calm_kept layout s sound kept d x here Stamp h (λ init k e. cc)
    (λ k v e. cc) (λ t e. cc) x.reg (λ e k. refl)

pub keeps_answer : (layout : Layout) (s : Scene) (d n : ℕ) (x : Section) → Here s d x → IsStep list x x.at (Answer n)
    → Onward list layout s (passes s d x)
keeps_answer layout s d n x here h sound kept sound' = calm_kept layout s sound kept d x here (Answer n) h
    (λ init k e. cc) (λ k v e. cc) (λ t e. cc) x.reg (λ e k. refl)

-- a section is published with the readings of an entered runner
pub keeps_holds : (layout : Layout) (s : Scene) (r d : ℕ) (readings : Readings) (op : Op) (thunk : Thunk)
    → s.reader r ≡ Some readings → Publishes list layout s readings op thunk
    → s.section d ≡ None → Onward list layout s (with_section s d (Some (opened op thunk readings)))
keeps_holds layout s r d readings op thunk reader publishes none sound kept sound' =
    passing_kept layout s (with_section s d (Some (opened op thunk readings))) sound kept (record {
      same = λ t used. no_change (nodes s.cells) t;
      status = λ t. refl;
      epoch = le_same s.epoch;
      marked = λ e y there has. (e, y, stays e y there, has, refl);
      between = λ e y t there between. (e, y, stays e y there, between);
      section = λ e y there. ⊎_elim (λ same. inr (subst (IsKeptSection layout s
          (with_section s d (Some (opened op thunk readings))) sound kept) same.1 own)) (λ other. inl other.1)
          (upd_some s.section d e (opened op thunk readings) y there);
      reader = λ q others h. inl h;
    })
  where
    stays : (e : ℕ) (y : Section) → s.section e ≡ Some y → upd s.section d (Some (opened op thunk readings)) e ≡ Some y
    stays e y there = upd_other s.section d e (Some (opened op thunk readings))
        (λ same. none-some y (sym none ∙ (ap s.section (sym same) ∙ there))) ∙ there

    low : key_of op < 4294967294
    low = let key = publishes.allowed.keys (key_of op) (inl refl) in omega (arith, key)

    own : IsKeptSection layout s (with_section s d (Some (opened op thunk readings))) sound kept
        (opened op thunk readings)
    own = record {
      new = λ has. ⊎_elim (λ insert. absurd (let at = insert.1 in omega (arith, at)))
          (λ replace. absurd (let at = replace.1 in omega (arith, at))) has;
      taken = λ has. ⊎_elim (λ remove. absurd (let at = remove.1 in omega (arith, at)))
          (λ replace. absurd (let at = replace.1 in omega (arith, at))) has;
      behind = λ form at. absurd (omega (arith, at));
      read = kept.readers r readings reader;
      walk = kept.walks r readings op reader low;
    }

insert_late : (t : Thunk) (j : ℕ) (step : Step) → slice_get (insert_steps t) j ≡ Some step → 5 ≤ j
    → is_exit step ≡ false
insert_late t j step h low = grind arith

remove_late : (t : Thunk) (j : ℕ) (step : Step) → slice_get (remove_steps t) j ≡ Some step → 10 ≤ j
    → is_exit step ≡ false
remove_late t j step h low = grind arith

replace_late : (t : Thunk) (j : ℕ) (step : Step) → slice_get (replace_steps t) j ≡ Some step → 11 ≤ j
    → is_exit step ≡ false
replace_late t j step h low = grind arith

insert_whole : (t : Thunk) (j : ℕ) → slice_get (insert_steps t) j ≡ None → j ≤ 8 → ⊥
insert_whole t j h low = grind arith

remove_whole : (t : Thunk) (j : ℕ) → slice_get (remove_steps t) j ≡ None → j ≤ 14 → ⊥
remove_whole t j h low = grind arith

replace_whole : (t : Thunk) (j : ℕ) → slice_get (replace_steps t) j ≡ None → j ≤ 17 → ⊥
replace_whole t j h low = grind arith

-- a section past its exits isn't done before its last step
module _ (x : Section) (ended : Settled list x → Ended list x) where
  insert_unended : form_of x.thunk ≡ Insert → 5 ≤ x.at → x.at ≤ 8 → ⊥
  insert_unended form low high = insert_whole x.thunk x.at (ap (λ f. slice_get (body_of f x.thunk) x.at) (sym form)
      ∙ ended (λ j step le h. insert_late x.thunk j step (ap (λ f. slice_get (body_of f x.thunk) j) (sym form) ∙ h)
      (omega (arith, low, le)))) high

  remove_unended : form_of x.thunk ≡ Remove → 10 ≤ x.at → x.at ≤ 14 → ⊥
  remove_unended form low high = remove_whole x.thunk x.at (ap (λ f. slice_get (body_of f x.thunk) x.at) (sym form)
      ∙ ended (λ j step le h. remove_late x.thunk j step (ap (λ f. slice_get (body_of f x.thunk) j) (sym form) ∙ h)
      (omega (arith, low, le)))) high

  replace_unended : form_of x.thunk ≡ Replace → 11 ≤ x.at → x.at ≤ 17 → ⊥
  replace_unended form low high = replace_whole x.thunk x.at (ap (λ f. slice_get (body_of f x.thunk) x.at) (sym form)
      ∙ ended (λ j step le h. replace_late x.thunk j step (ap (λ f. slice_get (body_of f x.thunk) j) (sym form) ∙ h)
      (omega (arith, low, le)))) high

  holds_none : (t : ℕ) → IsBetween x t → ⊥
  holds_none t (NewNode (inl insert) link) = let low = insert.1 in let high = insert.2 in
      insert_unended insert.0 (omega (arith, low)) (omega (arith, high))
  holds_none t (NewNode (inr replace) link) = let low = replace.1 in let high = replace.2 in
      replace_unended replace.0 (omega (arith, low)) (omega (arith, high))
  holds_none t (OldNode (inl remove) is) = let at = remove.1 in
      remove_unended remove.0 (omega (arith, at)) (omega (arith, at))
  holds_none t (OldNode (inr replace) is) = let at = replace.1 in
      replace_unended replace.0 (omega (arith, at)) (omega (arith, at))

  marks_none : HasMarked x → ⊥
  marks_none (inl remove) = let at = remove.1 in remove_unended remove.0 (omega (arith, at)) (omega (arith, at))
  marks_none (inr replace) = let low = replace.1 in let high = replace.2 in
      replace_unended replace.0 (omega (arith, low)) (omega (arith, high))

-- a section is done
pub keeps_done : (layout : Layout) (s : Scene) (d : ℕ) (x : Section) → Here s d x → (Settled list x → Ended list x)
    → Onward list layout s (with_section s d None)
keeps_done layout s d x here ended sound kept sound' = passing_kept layout s (with_section s d None) sound kept
    (record {
      same = λ t used. no_change (nodes s.cells) t;
      status = λ t. refl;
      epoch = le_same s.epoch;
      marked = λ e y there has. (
        e,
        y,
        upd_other s.section d e None (λ same. marks_none x ended (subst HasMarked (is_x e y there same) has)) ∙ there,
        has,
        refl,
      );
      between = λ e y t there between. (
        e,
        y,
        upd_other s.section d e None (λ same. holds_none x ended t
            (subst (λ y. IsBetween y t) (is_x e y there same) between)) ∙ there,
        between,
      );
      section = λ e y there. inl (upd_none s.section d e y there).1;
      reader = λ q readings h. inl h;
    })
  where
    is_x : (e : ℕ) (y : Section) → s.section e ≡ Some y → e ≡ d → y ≡ x
    is_x e y there same = some_same (sym there ∙ (ap s.section same ∙ here))

-- a cell changes that is in no node in use, or is a lock
cell_kept : (layout : Layout) (s : Scene) (p w : ℕ)
    → ((t k : ℕ) → s.status t ≢ Free → 0 < k → k < 5 → 0 + 5 * t + k ≢ p)
    → Sound list layout s → ListKept layout s → ListKept layout (with_cell s p w)
cell_kept layout s p w others sound kept = passing_kept layout s (with_cell s p w) sound kept (record {
  same = λ t used. same_cells s (with_cell s p w) t (λ k low high. upd_other s.cells p (0 + 5 * t + k) w
      (others t k used low high));
  status = λ t. refl;
  epoch = le_same s.epoch;
  marked = λ e y there has. (e, y, there, has, refl);
  between = λ e y t there between. (e, y, there, between);
  section = λ e y there. inl there;
  reader = λ q readings h. inl h;
})

pub keeps_lock : (layout : Layout) (s : Scene) (p w : ℕ) → is_lock_place p ≡ true
    → Onward list layout s (with_cell s p w)
keeps_lock layout s p w lock sound kept sound' = cell_kept layout s p w
    (λ t k used low high e. let zero = equal_of (p % 5) 0 lock in omega (arith, zero, low, high, e)) sound kept

pub keeps_hand : (layout : Layout) (s : Scene) (t i w : ℕ) → s.status t ≡ Free → i < 5
    → Onward list layout s (with_cell s (0 + 5 * t + i) w)
keeps_hand layout s t i w free low sound kept sound' = cell_kept layout s (0 + 5 * t + i) w
    (λ u k used some high e. used (ap s.status (same u k high e) ∙ free)) sound kept
  where
    same : (u k : ℕ) → k < 5 → 0 + 5 * u + k ≡ 0 + 5 * t + i → u ≡ t
    same u k high e = omega (arith, high, low, e)

-- the epoch rises
pub keeps_advance : (layout : Layout) (s : Scene) → Onward list layout s (record s { epoch = suc s.epoch })
keeps_advance layout s sound kept sound' = passing_kept layout s (record s { epoch = suc s.epoch }) sound kept (record {
  same = λ t used. no_change (nodes s.cells) t;
  status = λ t. refl;
  epoch = le_next s.epoch;
  marked = λ e y there has. (e, y, there, has, refl);
  between = λ e y t there between. (e, y, there, between);
  section = λ e y there. inl there;
  reader = λ q readings h. inl h;
})
  where
    le_next : (k : ℕ) → k ≤ suc k
    le_next k = omega arith

-- the readings of a runner change
pub reader_kept : (layout : Layout) (s : Scene) (r : ℕ) (new : Option Readings) (sound : Sound list layout s)
    (kept : ListKept layout s)
    → ((readings : Readings) → new ≡ Some readings → IsKeptReader layout s (with_reader s r new) sound kept readings)
    → ListKept layout (with_reader s r new)
reader_kept layout s r new sound kept own = passing_kept layout s (with_reader s r new) sound kept (record {
  same = λ t used. no_change (nodes s.cells) t;
  status = λ t. refl;
  epoch = le_same s.epoch;
  marked = λ e y there has. (e, y, there, has, refl);
  between = λ e y t there between. (e, y, there, between);
  section = λ e y there. inl there;
  reader = λ q readings h. ⊎_elim (λ same. inr (own readings (sym (upd_same s.reader r q new same) ∙ h)))
      (λ ne. inl (sym (upd_other s.reader r q new ne) ∙ h)) (cases_eq q r);
})

-- a runner enters, with no readings
pub keeps_enters : (layout : Layout) (s : Scene) (r : ℕ) → Onward list layout s (with_reader s r (Some []))
unfolding walked
keeps_enters layout s r sound kept sound' = reader_kept layout s r (Some []) sound kept
    (λ readings e. subst (IsKeptReader layout s (with_reader s r (Some [])) sound kept) (some_same e) none)
  where
    none : IsKeptReader layout s (with_reader s r (Some [])) sound kept []
    none = record {
      read = record {
        key = λ i t w h. absurd (let z = h in cc);
        value = λ i t w h. absurd (let z = h in cc);
        next_some = λ i t w h. absurd (let z = h in cc);
        marks = λ i t w h. absurd (let z = h in cc);
      };
      walks = λ op low. record {
        from_once = kept.linked_once 0 kept.line.head;
        from_tail = λ e. omega (arith, e);
        from_key = λ some. absurd (some refl);
        node_once = λ past. absurd (let z = past in cc);
        node_head = λ past. absurd (let z = past in cc);
        node_other = λ past. absurd (let z = past in cc);
        node_key = λ past. absurd (let z = past in cc);
      };
    }

pub keeps_leaves : (layout : Layout) (s : Scene) (r : ℕ) → Onward list layout s (with_reader s r None)
keeps_leaves layout s r sound kept sound' = reader_kept layout s r None sound kept
    (λ readings e. absurd (let z = e in cc))
