-- A section on the list passes a step that changes no cell, while slots change where they are: it makes a node, or
-- retires one.
use Rattle.std.specs.Prelude.{◌⊎◌, true, false, Some, slice_get}
use Rattle.std.proofs.Common.{◌≡◌, ◌≢◌, ℕ, suc, ◌+◌, ◌*◌, ◌<◌, ◌≤◌, refl, sym, ap, ◌∙◌, subst, inl, inr, ⊎_elim, arith}
use Rattle.std.proofs.lemmas.Bool.{cases_eq, both_ways}
use Rattle.structure_laws.specs.table_words.specs.small_lemmas.proofs.Bools.{not_true}
use Rattle.structure_laws.specs.table_words.specs.small_lemmas.proofs.Lists.{some_same}
use Rattle.structure_laws.specs.table_words.specs.small_lemmas.proofs.Numbers.{suc_equal}
use Rattle.structure_laws.specs.body_terms.specs.Update.{upd}
use Rattle.structure_laws.specs.body_terms.specs.Word.{value_of}
use Rattle.bucket_laws.specs.bucket_bodies.specs.section_body.specs.Bucket.{operand}
use Rattle.structure_laws.specs.body_terms.specs.declared.value.Value.TheVariants.{Const, Of}
use Rattle.structure_laws.specs.body_terms.specs.declared.value.Init.{Init}
use Rattle.structure_laws.specs.body_terms.specs.declared.step.Step.TheVariants.{Make, Retire}
use Rattle.structure_laws.specs.table_words.specs.declared.layout.Layout.{Layout}
use Rattle.structure_laws.specs.Scene.{Section, Status, Free, Live, Retired, Scene, passed_with, passes, sets, with_status}
use Rattle.structure_laws.specs.Sections.{Here, IsStep, Holds}
use Rattle.structure_laws.specs.Cells.{IsSafe, Links}
use Rattle.structure_laws.specs.Sound.{Sound}
use Rattle.structure_laws.specs.Keeps.{IsPrepared, Onward}
use Rattle.structure_laws.proofs.Changes.{upd_same, upd_other, upd_some}
use Rattle.structure_laws.proofs.Progress.{stepped}
use Rattle.list_bodies.specs.List.{lock_of, node_in, Form, Look, Insert, Remove, Replace, Empty, form_of}
use Rattle.list_bodies.specs.List.{body_of}
use Rattle.list_laws.specs.Line.{Nodes}
use Rattle.list_laws.specs.Nodes.{nodes, HasNew, HasMarked, HasTaken, new_reg, new_key, new_next}
use Rattle.list_laws.specs.Nodes.{IsNew, IsBetween, NewNode, OldNode, ListKept, list}
use Rattle.list_laws.proofs.Forms.{look_make, insert_make, remove_make, replace_make, insert_init, replace_init}
use Rattle.list_laws.proofs.Frame.{no_change, IsKeptSection, between_live, frame_kept}
use Rattle.list_laws.proofs.Gives.{retiring, retire_taken, holds_taken}
use Rattle.list_laws.proofs.Open as open_section
use Rattle.list_laws.proofs.WalkReads.{link_place}

live_free : (x : Status) → x ≡ Live → x ≡ Free → ⊥
live_free x live free = cc

retired_free : (x : Status) (y : ℕ) → x ≡ Retired y → x ≡ Free → ⊥
retired_free x y retired free = cc

live_retired : (x : Status) (y : ℕ) → x ≡ Live → x ≡ Retired y → ⊥
live_retired x y live retired = cc

free_live : Free ≡ Live → ⊥
free_live e = cc

module _ (layout : Layout) (s : Scene) (sound : Sound list layout s) (kept : ListKept layout s) (d : ℕ) (x : Section)
    (here : Here s d x) (status : ℕ → Status) (reg : ℕ → ℕ) where
  abbrev now : Nodes
  now = nodes s.cells

  abbrev pub after : Section
  after = stepped x reg

  abbrev pub next_scene : Scene
  next_scene = record s { status = status; section = upd s.section d (Some after) }

  -- what has to be shown of the slots, and of this section
  pub record StepKeeps : Type 0 where
    pub linked : (t : ℕ) → kept.linked t ≡ true → status t ≡ Live
    pub retired : (t y : ℕ) → status t ≡ Retired y → kept.once t ≡ true
    pub used : (t : ℕ) → kept.once t ≡ true → status t ≢ Free
    pub fresh : (t : ℕ) → status t ≢ Free → (s.status t ≢ Free) ⊎ ((t ≢ 1 → 0 < now.next t) × (now.mark t ≤ 1))
    pub safe : (t : ℕ) → kept.once t ≡ true → IsSafe next_scene t → IsSafe s t
    pub marks_none : HasMarked x → ⊥
    pub live : (t : ℕ) → status t ≡ Live → (kept.linked t ≡ true) ⊎ ((e : ℕ) × (z : Section) × (e ≢ d)
        × Here s e z × IsBetween z t) ⊎ IsBetween after t
    pub limbo : (t y u : ℕ) → status t ≡ Retired y → s.epoch ≤ y + 1 → now.next t ≡ suc u
        → (status u ≡ Live) ⊎ ((z : ℕ) × (status u ≡ Retired z) × (y ≤ z))
    pub others : (e : ℕ) (z : Section) (t : ℕ) → e ≢ d → Here s e z → IsBetween z t → status t ≡ Live
    pub new : HasNew after → IsNew next_scene kept.once after
    pub taken : HasTaken after → ⊥
    pub no_behind : form_of x.thunk ≡ Replace → suc x.at ≢ 14

  pub step_kept : StepKeeps → ListKept layout next_scene
  step_kept keeps = frame_kept layout s next_scene sound kept (record {
    same = λ t used. no_change now t;
    fresh = keeps.fresh;
    linked_live = keeps.linked;
    retired_once = keeps.retired;
    once_used = keeps.used;
    safe = keeps.safe;
    live = λ t live. ⊎_elim inl (⊎_elim
        (λ other. inr (other.0, other.1, upd_other s.section d other.0 (Some after) other.2 ∙ other.3, other.4))
        (λ own. inr (d, after, upd_same s.section d d (Some after) refl, own))) (keeps.live t live);
    limbo = keeps.limbo;
    marked = λ e z there has. (
      e,
      z,
      upd_other s.section d e (Some after) (λ same. keeps.marks_none (subst HasMarked
          (some_same (sym there ∙ (ap s.section same ∙ here))) has)) ∙ there,
      has,
      refl,
    );
    section = λ e z h. ⊎_elim
        (λ same. inr (subst (IsKeptSection layout s next_scene sound kept) same.1 (record {
          new = keeps.new;
          taken = λ has. absurd (keeps.taken has);
          behind = λ form at. absurd (keeps.no_behind form at);
          read = kept.published d x here;
          walk = kept.sections d x here;
        })))
        (λ other. inl (other.1, λ t between. keeps.others e z t other.0 other.1 between))
        (upd_some s.section d e after z h);
    reader = λ r readings h. inl h;
  })

module _ (layout : Layout) (s : Scene) (sound : Sound list layout s) (kept : ListKept layout s) (d : ℕ) (x : Section)
    (here : Here s d x) where
  abbrev was_nodes : Nodes
  was_nodes = nodes s.cells

  -- a Make, by its form
  pub record IsMaking (t r : ℕ) : Type 0 where
    pub reg : r ≡ new_reg (form_of x.thunk)
    pub key : was_nodes.key t ≡ operand x.thunk (new_key (form_of x.thunk))
    pub value : was_nodes.value t ≡ operand x.thunk (suc (new_key (form_of x.thunk)))
    pub next : was_nodes.next t ≡ new_next (form_of x.thunk) (passed_with x r (suc t))
    pub next_some : 0 < was_nodes.next t
    pub mark : was_nodes.mark t ≡ 0
    pub has : HasNew (passed_with x r (suc t))
    pub no_new : HasNew x → ⊥
    pub no_marked : HasMarked x → ⊥
    pub no_taken : HasTaken x → ⊥
    pub not_taken : HasTaken (passed_with x r (suc t)) → ⊥
    pub no_behind : form_of x.thunk ≡ Replace → suc x.at ≢ 14

  module _ (t r : ℕ) (free : s.status t ≡ Free) (is : IsMaking t r) where
    abbrev after_status : ℕ → Status
    after_status = upd s.status t Live

    abbrev made_scene : Scene
    made_scene = next_scene layout s sound kept d x here after_status (upd x.reg r (suc t))

    other : (u : ℕ) → s.status u ≢ Free → u ≢ t
    other u used e = used (ap s.status e ∙ free)

    stays : (u : ℕ) → s.status u ≢ Free → after_status u ≡ s.status u
    stays u used = upd_other s.status t u Live (other u used)

    -- a slot that isn't live was what it was
    not_new : (u y : ℕ) → after_status u ≡ Retired y → (u ≢ t) × (s.status u ≡ Retired y)
    not_new u y retired = ⊎_elim
        (λ e. absurd (live_retired (after_status u) y (upd_same s.status t u Live e) retired))
        (λ ne. (ne, sym (upd_other s.status t u Live ne) ∙ retired)) (cases_eq u t)

    never_once : kept.once t ≡ false
    never_once = not_true (kept.once t) (λ once. kept.once_used t once free)

    pub made_kept : ListKept layout made_scene
    made_kept = step_kept layout s sound kept d x here after_status (upd x.reg r (suc t)) (record {
      linked = λ u on. let live = kept.linked_live u on in
          stays u (live_free (s.status u) live) ∙ live;
      retired = λ u y retired. kept.retired_once u y (not_new u y retired).1;
      used = λ u once free'. let used = kept.once_used u once in used (sym (stays u used) ∙ free');
      fresh = λ u used. ⊎_elim
          (λ e. inr (
            (λ inner. subst (λ k. 0 < was_nodes.next k) (sym e) is.next_some),
            subst (λ k. was_nodes.mark k ≤ 1) (sym e) (subst (λ k. k ≤ 1) (sym is.mark) (omega arith)),
          ))
          (λ ne. inl (λ z. used (upd_other s.status t u Live ne ∙ z))) (cases_eq u t);
      safe = λ u once safe. let same = stays u (kept.once_used u once) in
          ⊎_elim (λ live. inl (sym same ∙ live)) (λ z. inr (z.0, sym same ∙ z.1, z.2)) safe;
      marks_none = is.no_marked;
      live = λ u live. ⊎_elim
          (λ e. inr (inr (NewNode is.has (upd_same x.reg r (new_reg (form_of x.thunk)) (suc t) (sym is.reg)
          ∙ ap suc (sym e)))))
          (λ ne. ⊎_elim inl (λ between. inr (inl (
            between.0,
            between.1,
            (λ same. mine u (subst (λ z. IsBetween z u)
                (some_same (sym between.2 ∙ (ap s.section same ∙ here))) between.3)),
            between.2,
            between.3,
          ))) (kept.live u (sym (upd_other s.status t u Live ne) ∙ live))) (cases_eq u t);
      limbo = λ u y v retired recent link. let old = not_new u y retired in ⊎_elim
          (λ live. inl (stays v (live_free (s.status v) live) ∙ live))
          (λ z. inr (z.0, stays v (retired_free (s.status v) z.0 z.1) ∙ z.1, z.2))
          (kept.limbo u y v old.1 recent link);
      others = λ e z u ne there between. let live = between_live layout s kept e z u there between in
          stays u (live_free (s.status u) live) ∙ live;
      new = λ has. record {
        slot = t;
        link = upd_same x.reg r (new_reg (form_of x.thunk)) (suc t) (sym is.reg);
        live = upd_same s.status t t Live refl;
        new = never_once;
        key = is.key;
        value = is.value;
        next = is.next;
        mark = is.mark;
      };
      taken = is.not_taken;
      no_behind = is.no_behind;
    })
      where
        mine : (u : ℕ) → IsBetween x u → ⊥
        mine u (NewNode has link) = is.no_new has
        mine u (OldNode has node) = is.no_taken has

  -- what an Init gives
  module _ (t r : ℕ) (init : Init) (prepared : IsPrepared list layout s x t init) where
    insert_making : form_of x.thunk ≡ Insert → (x.at ≡ 5) × (r ≡ 2) × (init ≡ insert_init x.thunk) → IsMaking t r
    insert_making form at =
        let five = at.0 in
        let some = (open_section.has_read layout s sound kept d x here).some (omega arith) in
        let link = (open_section.fits layout s sound kept d x here).link in
        let next = prepared.cells 2 (Const (value_of (operand x.thunk 1))) (omega arith)
        (ap (λ (init : Init). slice_get init.cells 2) at.2) in
        record {
          reg = at.1 ∙ ap new_reg (sym form);
          key = prepared.cells 1 (Const (operand x.thunk 3)) (omega arith)
              (ap (λ (init : Init). slice_get init.cells 1) at.2) ∙ ap (λ f. operand x.thunk (new_key f)) (sym form);
          value = prepared.cells 3 (Const (operand x.thunk 4)) (omega arith)
              (ap (λ (init : Init). slice_get init.cells 3) at.2) ∙ ap (λ f. operand x.thunk (suc (new_key f))) (sym form);
          next = next ∙ ap (λ f. new_next f (passed_with x r (suc t))) (sym form);
          next_some = subst (λ k. 0 < k) (sym next) (subst (λ k. 0 < value_of k) (sym link) some);
          mark = prepared.cells 4 (Const 0) (omega arith) (ap (λ (init : Init). slice_get init.cells 4) at.2);
          has = inl (form, omega (arith, five), omega (arith, five));
          no_new = λ has. ⊎_elim (λ a. let low = a.1 in omega (arith, low, five))
              (λ b. apart form b.0) has;
          no_marked = λ has. ⊎_elim (λ a. apart' form a.0) (λ b. apart form b.0) has;
          no_taken = λ has. ⊎_elim (λ a. apart' form a.0) (λ b. apart form b.0) has;
          not_taken = λ has. ⊎_elim (λ a. apart' form a.0) (λ b. apart form b.0) has;
          no_behind = λ replace. absurd (apart form replace);
        }
      where
        apart : form_of x.thunk ≡ Insert → form_of x.thunk ≡ Replace → ⊥
        apart e e' = insert_replace (sym e ∙ e')
          where
            insert_replace : Insert ≡ Replace → ⊥
            insert_replace z = cc

        apart' : form_of x.thunk ≡ Insert → form_of x.thunk ≡ Remove → ⊥
        apart' e e' = insert_remove (sym e ∙ e')
          where
            insert_remove : Insert ≡ Remove → ⊥
            insert_remove z = cc

    replace_making : form_of x.thunk ≡ Replace → (x.at ≡ 11) × (r ≡ 4) × (init ≡ replace_init x.thunk) → IsMaking t r
    replace_making form at =
        let eleven = at.0 in
        let behind = open_section.has_behind layout s sound kept d x here form (omega (arith, eleven))
        (omega (arith, eleven)) in
        let read = ap value_of (open_section.replace_next layout s sound kept d x here form (omega (arith, eleven))
        (omega (arith, eleven))) in
        let link = behind.link in
        let next = prepared.cells 2 (Of 2) (omega arith) (ap (λ (init : Init). slice_get init.cells 2) at.2) in
        record {
          reg = at.1 ∙ ap new_reg (sym form);
          key = prepared.cells 1 (Const (operand x.thunk 5)) (omega arith)
              (ap (λ (init : Init). slice_get init.cells 1) at.2) ∙ ap (λ f. operand x.thunk (new_key f)) (sym form);
          value = prepared.cells 3 (Const (operand x.thunk 6)) (omega arith)
              (ap (λ (init : Init). slice_get init.cells 3) at.2) ∙ ap (λ f. operand x.thunk (suc (new_key f))) (sym form);
          next = next ∙ (ap value_of (sym (upd_other x.reg r 2 (suc t) (λ e. let four = at.1 in omega (arith, e, four))))
              ∙ ap (λ f. new_next f (passed_with x r (suc t))) (sym form));
          next_some = omega (arith, next, read, link);
          mark = prepared.cells 4 (Const 0) (omega arith) (ap (λ (init : Init). slice_get init.cells 4) at.2);
          has = inr (form, omega (arith, eleven), omega (arith, eleven));
          no_new = λ has. ⊎_elim (λ a. apart a.0 form) (λ b. let low = b.1 in omega (arith, low, eleven)) has;
          no_marked = λ has. ⊎_elim (λ a. apart' a.0 form) (λ b. let low = b.1 in omega (arith, low, eleven)) has;
          no_taken = λ has. ⊎_elim (λ a. apart' a.0 form) (λ b. let low = b.1 in omega (arith, low, eleven)) has;
          not_taken = λ has. ⊎_elim (λ a. apart' a.0 form) (λ b. let low = b.1 in omega (arith, low, eleven)) has;
          no_behind = λ replace fourteen. omega (arith, fourteen, eleven);
        }
      where
        apart : form_of x.thunk ≡ Insert → form_of x.thunk ≡ Replace → ⊥
        apart e e' = insert_replace (sym e ∙ e')
          where
            insert_replace : Insert ≡ Replace → ⊥
            insert_replace z = cc

        apart' : form_of x.thunk ≡ Remove → form_of x.thunk ≡ Replace → ⊥
        apart' e e' = remove_replace (sym e ∙ e')
          where
            remove_replace : Remove ≡ Replace → ⊥
            remove_replace z = cc

    making : IsStep list x x.at (Make init r) → IsMaking t r
    making h = by (form_of x.thunk) refl
      where
        steps_as : (f : Form) → form_of x.thunk ≡ f → slice_get (body_of f x.thunk) x.at ≡ Some (Make init r)
        steps_as f form = open_section.step_as layout s sound kept d x here f form x.at (Make init r) h

        by : (f : Form) → form_of x.thunk ≡ f → IsMaking t r
        by Look form = absurd (look_make x.thunk x.at r init (steps_as Look form))
        by Insert form = insert_making form (insert_make x.thunk x.at r init (steps_as Insert form))
        by Remove form = absurd (remove_make x.thunk x.at r init (steps_as Remove form))
        by Replace form = replace_making form (replace_make x.thunk x.at r init (steps_as Replace form))
        by Empty form = absurd (let z = steps_as Empty form in cc)

  -- a Retire
  module _ (t y : ℕ) (h : IsStep list x x.at (Retire t))
      (bound : (q z i : ℕ) → i < 5 → s.status q ≡ Retired z → Links list s (0 + 5 * q + i) t → z ≤ y) where
    has_taken : HasTaken x
    has_taken = retire_taken layout s sound kept d x here t h

    node_is : t ≡ node_in x.thunk
    node_is = (retiring layout s sound kept d x here x.at t h).slot

    out : kept.linked t ≡ false
    out = ap kept.linked node_is ∙ (kept.taken d x here has_taken).out

    was_live : s.status t ≡ Live
    was_live = ap s.status node_is ∙ (kept.taken d x here has_taken).live

    once : kept.once t ≡ true
    once = ap kept.once (node_is ∙ (open_section.fits layout s sound kept d x here).node)
        ∙ open_section.node_once layout s sound kept d x here

    abbrev retired_status : ℕ → Status
    retired_status = upd s.status t (Retired y)

    on_other : (u : ℕ) → kept.linked u ≡ true → u ≢ t
    on_other u on e = both_ways _ out (ap kept.linked (sym e) ∙ on)

    keeps_on : (u : ℕ) → u ≢ t → retired_status u ≡ s.status u
    keeps_on u ne = upd_other s.status t u (Retired y) ne

    on_live : (u : ℕ) → kept.linked u ≡ true → retired_status u ≡ Live
    on_live u on = keeps_on u (on_other u on) ∙ kept.linked_live u on

    now_retired : (u : ℕ) → u ≡ t → retired_status u ≡ Retired y
    now_retired u e = upd_same s.status t u (Retired y) e

    -- it stands behind its Stores
    no_marked : HasTaken x → HasMarked x → ⊥
    no_marked (inl a) (inl b) = let at = a.1 in let at' = b.1 in omega (arith, at, at')
    no_marked (inl a) (inr b) = form_apart (sym a.0 ∙ b.0)
      where
        form_apart : Remove ≡ Replace → ⊥
        form_apart e = cc
    no_marked (inr a) (inl b) = form_apart (sym b.0 ∙ a.0)
      where
        form_apart : Remove ≡ Replace → ⊥
        form_apart e = cc
    no_marked (inr a) (inr b) = let at = a.1 in let high = b.2 in omega (arith, at, high)

    makes_none : HasTaken x → (k : ℕ) → ((form_of x.thunk ≡ Insert) × (6 ≤ k) × (k ≤ 7))
        ⊎ ((form_of x.thunk ≡ Replace) × (12 ≤ k) × (k ≤ 14)) → x.at ≤ k → ⊥
    makes_none (inl a) k (inl b) le = form_apart (sym b.0 ∙ a.0)
      where
        form_apart : Insert ≡ Remove → ⊥
        form_apart e = cc
    makes_none (inl a) k (inr b) le = form_apart (sym a.0 ∙ b.0)
      where
        form_apart : Remove ≡ Replace → ⊥
        form_apart e = cc
    makes_none (inr a) k (inl b) le = form_apart (sym b.0 ∙ a.0)
      where
        form_apart : Insert ≡ Replace → ⊥
        form_apart e = cc
    makes_none (inr a) k (inr b) le = let at = a.1 in let high = b.2 in omega (arith, at, high, le)

    not_twice : HasTaken x → HasTaken (stepped x x.reg) → ⊥
    not_twice (inl a) (inl b) = let at = a.1 in let at' = b.1 in omega (arith, at, at')
    not_twice (inl a) (inr b) = form_apart (sym a.0 ∙ b.0)
      where
        form_apart : Remove ≡ Replace → ⊥
        form_apart e = cc
    not_twice (inr a) (inl b) = form_apart (sym b.0 ∙ a.0)
      where
        form_apart : Remove ≡ Replace → ⊥
        form_apart e = cc
    not_twice (inr a) (inr b) = let at = a.1 in let at' = b.1 in omega (arith, at, at')

    past_all : HasTaken x → form_of x.thunk ≡ Replace → suc x.at ≢ 14
    past_all (inl a) form e = form_apart (sym a.0 ∙ form)
      where
        form_apart : Remove ≡ Replace → ⊥
        form_apart e = cc
    past_all (inr a) form e = let at = a.1 in omega (arith, at, e)

    -- no other section holds it
    elsewhere : (e : ℕ) (z : Section) (u : ℕ) → e ≢ d → Here s e z → IsBetween z u → u ≢ t
    elsewhere e z u ne there (NewNode has link) same = let new = kept.made e z there has in
        both_ways _ new.new (ap kept.once (suc_equal new.slot u (sym new.link ∙ link) ∙ same) ∙ once)
    elsewhere e z u ne there (OldNode has is) same = sound.apart e d z x there here ne (lock_of t)
        (subst (λ n. Holds list z (lock_of n)) (is ∙ same) (holds_taken layout s sound kept e z there has))
        (subst (λ n. Holds list x (lock_of n)) (sym node_is) (holds_taken layout s sound kept d x here has_taken))

    pub retired_kept : ListKept layout (with_status (passes s d x) t (Retired y))
    retired_kept = step_kept layout s sound kept d x here retired_status x.reg (record {
      linked = on_live;
      retired = λ u z retired. ⊎_elim (λ e. ap kept.once e ∙ once)
          (λ ne. kept.retired_once u z (sym (keeps_on u ne) ∙ retired)) (cases_eq u t);
      used = λ u was. ⊎_elim (λ e. retired_free (retired_status u) y (now_retired u e))
          (λ ne free. kept.once_used u was (sym (keeps_on u ne) ∙ free)) (cases_eq u t);
      fresh = λ u used. inl (⊎_elim (λ e. live_free (s.status u) (ap s.status e ∙ was_live))
          (λ ne free. used (keeps_on u ne ∙ free)) (cases_eq u t));
      safe = λ u was safe. ⊎_elim (λ e. inl (ap s.status e ∙ was_live))
          (λ ne. ⊎_elim (λ live. inl (sym (keeps_on u ne) ∙ live)) (λ z. inr (z.0, sym (keeps_on u ne) ∙ z.1, z.2)) safe)
          (cases_eq u t);
      marks_none = no_marked has_taken;
      live = λ u live. ⊎_elim (λ e. absurd (live_retired (retired_status u) y live (now_retired u e)))
          (λ ne. ⊎_elim inl (λ between. inr (inl (
            between.0,
            between.1,
            (λ same. mine u ne (subst (λ z. IsBetween z u)
                (some_same (sym between.2 ∙ (ap s.section same ∙ here))) between.3)),
            between.2,
            between.3,
          ))) (kept.live u (sym (keeps_on u ne) ∙ live))) (cases_eq u t);
      limbo = λ u z v retired recent link. ⊎_elim
          (λ e. inl (on_live v (open_section.taken_leads layout s sound kept d x here has_taken v
          (ap was_nodes.next (sym (e ∙ node_is)) ∙ link))))
          (λ ne. behind u z v (sym (keeps_on u ne) ∙ retired) recent link) (cases_eq u t);
      others = λ e z u ne there between. keeps_on u (elsewhere e z u ne there between)
          ∙ between_live layout s kept e z u there between;
      new = λ has. absurd (makes_none has_taken (suc x.at) has (le_next x.at));
      taken = not_twice has_taken;
      no_behind = past_all has_taken;
    })
      where
        le_next : (k : ℕ) → k ≤ suc k
        le_next k = omega arith

        le_same : (k : ℕ) → k ≤ k
        le_same k = omega arith

        mine : (u : ℕ) → u ≢ t → IsBetween x u → ⊥
        mine u ne (NewNode has link) = makes_none has_taken x.at has (le_same x.at)
        mine u ne (OldNode has is) = ne (sym is ∙ sym node_is)

        behind : (u z v : ℕ) → s.status u ≡ Retired z → s.epoch ≤ z + 1 → was_nodes.next u ≡ suc v
            → (retired_status v ≡ Live) ⊎ ((k : ℕ) × (retired_status v ≡ Retired k) × (z ≤ k))
        behind u z v retired recent link = ⊎_elim
            (λ e. inr (y, now_retired v e, bound u z 2 (omega arith) retired (link_place u, link ∙ ap suc e)))
            (λ ne. ⊎_elim (λ live. inl (keeps_on v ne ∙ live)) (λ k. inr (k.0, keeps_on v ne ∙ k.1, k.2))
            (kept.limbo u z v retired recent link)) (cases_eq v t)

pub keeps_make : (layout : Layout) (s : Scene) (d t r : ℕ) (x : Section) (init : Init) → Here s d x
    → IsStep list x x.at (Make init r) → IsPrepared list layout s x t init
    → Onward list layout s (with_status (sets s d x r (suc t)) t Live)
keeps_make layout s d t r x init here h prepared sound kept sound' = made_kept layout s sound kept d x here t r
    prepared.in_hand (making layout s sound kept d x here t r init prepared h)

pub keeps_retire : (layout : Layout) (s : Scene) (d t y : ℕ) (x : Section) → Here s d x → IsStep list x x.at (Retire t)
    → y ≤ s.epoch → s.epoch ≤ y + 1
    → ((q z i : ℕ) → i < 5 → s.status q ≡ Retired z → Links list s (0 + 5 * q + i) t → z ≤ y)
    → Onward list layout s (with_status (passes s d x) t (Retired y))
keeps_retire layout s d t y x here h past recent bound sound kept sound' =
    retired_kept layout s sound kept d x here t y h bound
