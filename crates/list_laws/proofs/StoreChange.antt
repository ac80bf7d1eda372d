-- A Store of a section of the list keeps what the list keeps, where the changed node has what this needs.
use Rattle.std.specs.Prelude.{◌⊎◌, Bool, true, false, Some}
use Rattle.std.proofs.Common.{◌≡◌, ◌≢◌, ℕ, suc, ◌<◌, ◌≤◌, refl, sym, ap, ◌∙◌, subst, inl, inr, ⊎_elim, arith}
use Rattle.std.proofs.lemmas.Bool.{cases_eq, both_ways}
use Rattle.structure_laws.specs.table_words.specs.small_lemmas.proofs.Lists.{some_same}
use Rattle.structure_laws.specs.map_history.specs.Keys.{key_of}
use Rattle.structure_laws.specs.body_terms.specs.Update.{upd}
use Rattle.structure_laws.specs.table_words.specs.declared.layout.Layout.{Layout}
use Rattle.structure_laws.specs.Scene.{Cells, Readings, Section, Status, Free, Live, Retired, Scene, passed}
use Rattle.structure_laws.specs.Sections.{Here}
use Rattle.structure_laws.specs.Cells.{IsSafe}
use Rattle.structure_laws.specs.Sound.{IsRead, Sound}
use Rattle.structure_laws.proofs.Changes.{upd_same, upd_other, upd_some}
use Rattle.list_bodies.specs.List.{slot_in, node_in, Replace, form_of}
use Rattle.list_laws.specs.Line.{Nodes, rank, Line, LeadsOn, Linked, Next}
use Rattle.list_laws.specs.Walk.{Walk, node_of}
use Rattle.list_laws.specs.Nodes.{nodes, walk_of, IsAsRead, IsWalk, HasNew, HasMarked, HasTaken, new_reg}
use Rattle.list_laws.specs.Nodes.{IsNew, IsTaken, IsBetween, IsTrail, ListKept, list}
use Rattle.list_laws.proofs.Frame.{safe_used, read_stays, walk_stays}
use Rattle.list_laws.proofs.Open as open_section
use Rattle.list_laws.proofs.Line.{rank_marked, rank_unmarked, rank_high, above_head, le_or}

live_free : (x : Status) → x ≡ Live → x ≡ Free → ⊥
live_free x live free = cc

live_retired : (x : Status) (y : ℕ) → x ≡ Live → x ≡ Retired y → ⊥
live_retired x y live retired = cc

-- keys rise along the line, but where a marked node stands before one with its key
pub rising_keys : (n : Nodes) (t u : ℕ) → t ≢ 0 → u ≢ 0 → n.mark t ≤ 1 → rank n t < rank n u
    → (n.key t < n.key u) ⊎ ((n.key t ≡ n.key u) × (n.mark t ≡ 1))
rising_keys n t u some some' small less = ⊎_elim
    (λ zero. let low = rank_unmarked n t some zero in let high = rank_high n u some' in
    inl (omega (arith, low, high, less)))
    (λ more. let low = rank_marked n t some more in let high = rank_high n u some' in ⊎_elim
    (λ same. inr (same, one (n.mark t) small more)) inl
    (le_or (n.key t) (n.key u) (omega (arith, low, high, less))))
    (cases_eq (n.mark t) 0)
  where
    one : (k : ℕ) → k ≤ 1 → k ≢ 0 → k ≡ 1
    one k low ne = search arith

-- a section that has marked this node, and not yet taken it out
abbrev pub IsMarkedBy : Section → ℕ → Type 0
IsMarkedBy x t = HasMarked x × (node_in x.thunk ≡ t)

-- the scene after the section's step, with these cells
abbrev pub after_scene : Scene → ℕ → Section → Cells → Scene
after_scene s d x cells = record s { cells = cells; section = upd s.section d (Some (passed x)) }

module _ (layout : Layout) (s : Scene) (sound : Sound list layout s) (kept : ListKept layout s)
    (d : ℕ) (x : Section) (here : Here s d x) where
  abbrev now : Nodes
  now = nodes s.cells

  -- a marked node is one of this section or of another
  pub marked_by : (t : ℕ) → kept.linked t ≡ true → now.mark t ≢ 0 → IsMarkedBy x t
      ⊎ ((e : ℕ) × (z : Section) × (e ≢ d) × (s.section e ≡ Some z) × IsMarkedBy z t)
  marked_by t on mark = let by = kept.marked t on mark in ⊎_elim
      (λ same. inl (subst (λ z. IsMarkedBy z t) (some_same (sym by.2 ∙ (ap s.section same ∙ here))) (by.3, by.4)))
      (λ ne. inr (by.0, by.1, ne, by.2, (by.3, by.4))) (cases_eq by.0 d)

  -- what a change of cells has to show, with what is linked after it and what was linked once
  pub record IsChange (cells : Cells) (linked once : ℕ → Bool) : Type 0 where
    pub line : Line (nodes cells) linked
    pub key : (t : ℕ) → (nodes cells).key t ≡ now.key t
    pub value : (t : ℕ) → (nodes cells).value t ≡ now.value t
    -- a linked node is live and was linked once, and what was linked once then was so before or is linked
    pub linked_live : (t : ℕ) → linked t ≡ true → s.status t ≡ Live
    pub linked_once : (t : ℕ) → linked t ≡ true → once t ≡ true
    pub once_still : (t : ℕ) → kept.once t ≡ true → once t ≡ true
    pub once_or : (t : ℕ) → once t ≡ true → (kept.once t ≡ true) ⊎ (linked t ≡ true)
    -- links and marks: those of nodes that aren't linked stay
    pub next_some : (t : ℕ) → s.status t ≢ Free → t ≢ 1 → 0 < (nodes cells).next t
    pub mark_small : (t : ℕ) → s.status t ≢ Free → (nodes cells).mark t ≤ 1
    pub frozen : (t : ℕ) → linked t ≡ false → ((nodes cells).next t ≡ now.next t)
        × ((nodes cells).mark t ≡ now.mark t)
    pub unmarked : (t : ℕ) → kept.once t ≡ true → IsSafe s t → (nodes cells).mark t ≡ 0 → linked t ≡ true
    pub marked : (t : ℕ) → linked t ≡ true → (nodes cells).mark t ≢ 0 → IsMarkedBy (passed x) t
        ⊎ ((e : ℕ) × (z : Section) × (e ≢ d) × (s.section e ≡ Some z) × IsMarkedBy z t)
    -- what isn't linked any more leads to a linked node; what wasn't linked isn't, but for a new node
    pub gone : (t : ℕ) → kept.linked t ≡ true → linked t ≡ false → (u : ℕ) × (now.next t ≡ suc u) × (linked u ≡ true)
    pub out : (t : ℕ) → kept.once t ≡ true → kept.linked t ≡ false → linked t ≡ false
    -- the section's own nodes
    pub was_linked : (t : ℕ) → kept.linked t ≡ true → (linked t ≡ true) ⊎ IsBetween (passed x) t
    pub was_between : (t : ℕ) → IsBetween x t → (linked t ≡ true) ⊎ IsBetween (passed x) t
    pub new : HasNew (passed x) → IsNew (after_scene s d x cells) once (passed x)
    pub taken : HasTaken (passed x) → IsTaken (after_scene s d x cells) linked (passed x)
    pub behind : form_of x.thunk ≡ Replace → suc x.at ≡ 14 → now.key (node_in x.thunk) < now.key (slot_in (x.reg 2))
    -- and the others' new ones
    pub new_other : (e : ℕ) (z : Section) (t : ℕ) → e ≢ d → s.section e ≡ Some z → HasNew z
        → z.reg (new_reg (form_of z.thunk)) ≡ suc t → once t ≡ false

  module _ (cells : Cells) (linked once : ℕ → Bool) (change : IsChange cells linked once) where
    abbrev then_nodes : Nodes
    then_nodes = nodes cells

    -- a node is linked, or it isn't
    on_off : {A : Type 0} (t : ℕ) → (linked t ≡ true → A) → (linked t ≡ false → A) → A
    on_off {A} t on off = by (linked t) refl
      where
        by : (b : Bool) → linked t ≡ b → A
        by true h = on h
        by false h = off h

    no_once : (t : ℕ) → once t ≡ false → linked t ≡ false
    no_once t none = on_off t (λ on. absurd (both_ways _ none (change.linked_once t on))) (λ off. off)

    -- the section is the one that stores, or another as it was
    section_is : (P : ℕ → Section → Type 0) → P d (passed x)
        → ((e : ℕ) (z : Section) → e ≢ d → s.section e ≡ Some z → P e z)
        → (e : ℕ) (z : Section) → upd s.section d (Some (passed x)) e ≡ Some z → P e z
    section_is P own other e z h = ⊎_elim
        (λ same. subst (λ e. P e z) (sym same.0) (subst (P d) same.1 own))
        (λ else_. other e z else_.0 else_.1)
        (upd_some s.section d e (passed x) z h)

    new_kept : (e : ℕ) (z : Section) → e ≢ d → s.section e ≡ Some z → HasNew z
        → IsNew (after_scene s d x cells) once z
    new_kept e z ne there has =
        let was = kept.made e z there has in
        let new = change.new_other e z was.slot ne there has was.link in
        let frozen = change.frozen was.slot (no_once was.slot new) in
        record {
          slot = was.slot;
          link = was.link;
          live = was.live;
          new = new;
          key = change.key was.slot ∙ was.key;
          value = change.value was.slot ∙ was.value;
          next = frozen.0 ∙ was.next;
          mark = frozen.1 ∙ was.mark;
        }

    taken_once : (e : ℕ) (z : Section) → s.section e ≡ Some z → HasTaken z → kept.once (node_in z.thunk) ≡ true
    taken_once e z there has = ap kept.once (open_section.fits layout s sound kept e z there).node
        ∙ open_section.node_once layout s sound kept e z there

    abbrev InSection : ℕ → Type 0
    InSection t = (linked t ≡ true)
        ⊎ ((e : ℕ) × (z : Section) × (upd s.section d (Some (passed x)) e ≡ Some z) × IsBetween z t)

    mine : (t : ℕ) → (linked t ≡ true) ⊎ IsBetween (passed x) t → InSection t
    mine t (inl on) = inl on
    mine t (inr between) = inr (d, passed x, upd_same s.section d d (Some (passed x)) refl, between)

    live_in : (t : ℕ) → s.status t ≡ Live → InSection t
    live_in t live = ⊎_elim
        (λ on. mine t (change.was_linked t on))
        (λ between. ⊎_elim
        (λ same. mine t (change.was_between t (subst (λ z. IsBetween z t)
        (some_same (sym between.2 ∙ (ap s.section same ∙ here))) between.3)))
        (λ ne. inr (between.0, between.1, upd_other s.section d between.0 (Some (passed x)) ne ∙ between.2, between.3))
        (cases_eq between.0 d))
        (kept.live t live)

    marked_in : (t : ℕ) → linked t ≡ true → then_nodes.mark t ≢ 0 → (e : ℕ) × (z : Section)
        × (upd s.section d (Some (passed x)) e ≡ Some z) × HasMarked z × (node_in z.thunk ≡ t)
    marked_in t on mark = ⊎_elim
        (λ own. (d, passed x, upd_same s.section d d (Some (passed x)) refl, own.0, own.1))
        (λ other. let is = other.4 in
        (other.0, other.1, upd_other s.section d other.0 (Some (passed x)) other.2 ∙ other.3, is.0, is.1))
        (change.marked t on mark)

    trail_kept : (t u : ℕ) → once t ≡ true → IsSafe s t → t ≢ 1 → then_nodes.next t ≡ suc u → IsTrail then_nodes once t u
    trail_kept t u was safe inner leads = on_off t
        (λ on. let next = change.line.next_on t u on inner leads in
        let some' = above_head then_nodes t u next.1 in record {
          once_linked = change.linked_once u next.0;
          no_head = some';
          order = λ some. rising_keys then_nodes t u some some' (change.mark_small t (safe_used s t safe)) next.1;
        })
        (λ off. ⊎_elim
        (λ before. let frozen = change.frozen t off in
        let is = kept.trail t u before safe inner (sym frozen.0 ∙ leads) in record {
          once_linked = change.once_still u is.once_linked;
          no_head = is.no_head;
          order = λ some. ⊎_elim
              (λ less. inl (let a = change.key t in let b = change.key u in omega (arith, less, a, b)))
              (λ both. inr (change.key t ∙ (both.0 ∙ sym (change.key u)), frozen.1 ∙ both.1)) (is.order some);
        })
        (λ on. absurd (both_ways _ off on)) (change.once_or t was))

    -- links lead on to a node that is linked still, or over one that isn't any more
    leads_kept : (t : ℕ) → LeadsOn now kept.linked kept.once t → LeadsOn then_nodes linked once t
    leads_kept t (Linked _ was) = on_off t (Linked t)
        (λ off. let to = change.gone t was off in Next t to.0 (change.once_still t (kept.linked_once t was))
        ((change.frozen t off).0 ∙ to.1) (Linked to.0 to.2))
    leads_kept t (Next _ u was link leads) = on_off t (Linked t)
        (λ off. Next t u (change.once_still t was) ((change.frozen t off).0 ∙ link) (leads_kept u leads))

    still_read : (readings : Readings) → IsRead list s readings → IsAsRead now readings → IsAsRead then_nodes readings
    still_read readings read was = read_stays s then_nodes readings read
        (λ t used. record { key = change.key t; value = change.value t }) was

    walk_still : (key : ℕ) (w : Walk) → IsWalk now kept.once key w → IsWalk then_nodes once key w
    walk_still key w is = walk_stays now then_nodes kept.once once key w
        (λ was. (change.once_still w.from was, change.key w.from))
        (λ past was. (change.once_still (node_of w) was, change.key (node_of w))) is

    retired_off : (t y : ℕ) → s.status t ≡ Retired y → linked t ≡ false
    retired_off t y retired = on_off t
        (λ on. absurd (live_retired (s.status t) y (change.linked_live t on) retired)) (λ off. off)

    pub change_kept : ListKept layout (after_scene s d x cells)
    change_kept = record {
      linked = linked;
      once = once;
      line = change.line;
      linked_live = change.linked_live;
      linked_once = change.linked_once;
      retired_once = λ t y retired. change.once_still t (kept.retired_once t y retired);
      once_used = λ t was. ⊎_elim (kept.once_used t) (λ on. live_free (s.status t) (change.linked_live t on))
          (change.once_or t was);
      next_some = change.next_some;
      mark_small = change.mark_small;
      unmarked = λ t was safe mark. ⊎_elim (λ before. change.unmarked t before safe mark) (λ on. on)
          (change.once_or t was);
      trail = trail_kept;
      leads = λ t was safe. ⊎_elim (λ before. leads_kept t (kept.leads t before safe)) (Linked t) (change.once_or t was);
      marked = marked_in;
      live = live_in;
      limbo = λ t y u retired recent link. kept.limbo t y u retired recent
          (sym (change.frozen t (retired_off t y retired)).0 ∙ link);
      made = section_is (λ e z. HasNew z → IsNew (after_scene s d x cells) once z) change.new new_kept;
      taken = section_is (λ e z. HasTaken z → IsTaken (after_scene s d x cells) linked z) change.taken
          (λ e z ne there has. let was = kept.taken e z there has in record {
            out = change.out (node_in z.thunk) (taken_once e z there has) was.out;
            live = was.live;
          });
      behind = section_is (λ e z. form_of z.thunk ≡ Replace → z.at ≡ 14
          → then_nodes.key (node_in z.thunk) < then_nodes.key (slot_in (z.reg 2)))
          (λ form at. keys_on _ _ (change.behind form at))
          (λ e z ne there form at. keys_on _ _ (kept.behind e z there form at));
      readers = λ r readings h. still_read readings (sound.readers r readings h) (kept.readers r readings h);
      published = section_is (λ e z. IsAsRead then_nodes z.readings)
          (still_read x.readings (sound.published d x here) (kept.published d x here))
          (λ e z ne there. still_read z.readings (sound.published e z there) (kept.published e z there));
      walks = λ r readings op h low. walk_still (key_of op) (walk_of layout op readings) (kept.walks r readings op h low);
      sections = section_is (λ e z. IsWalk then_nodes once (key_of z.op) (walk_of layout z.op z.readings))
          (walk_still (key_of x.op) (walk_of layout x.op x.readings) (kept.sections d x here))
          (λ e z ne there. walk_still (key_of z.op) (walk_of layout z.op z.readings) (kept.sections e z there));
    }
      where
        keys_on : (a b : ℕ) → now.key a < now.key b → then_nodes.key a < then_nodes.key b
        keys_on a b less = let p = change.key a in let q = change.key b in omega (arith, less, p, q)
