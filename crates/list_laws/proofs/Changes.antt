-- The three changes that Stores make on the list: a new node is linked, a node is taken out, a node is marked.
use Rattle.std.specs.Prelude.{◌⊎◌, ◌*◌, ◌+◌, Bool, true, false, Some}
use Rattle.std.proofs.Common.{◌≡◌, ◌≢◌, ℕ, suc, ◌<◌, ◌≤◌, refl, sym, ap, ◌∙◌, subst, inl, inr, ⊎_elim, arith}
use Rattle.std.proofs.lemmas.Bool.{cases_eq, both_ways}
use Rattle.structure_laws.specs.table_words.specs.small_lemmas.proofs.Numbers.{suc_equal}
use Rattle.structure_laws.specs.map_history.specs.Keys.{key_of}
use Rattle.structure_laws.specs.body_terms.specs.Update.{upd}
use Rattle.structure_laws.specs.body_terms.specs.Word.{value_of}
use Rattle.structure_laws.specs.table_words.specs.declared.layout.Layout.{Layout}
use Rattle.structure_laws.specs.Scene.{Cells, Section, Scene, passed}
use Rattle.structure_laws.specs.Sections.{Here}
use Rattle.structure_laws.specs.Sound.{Sound}
use Rattle.structure_laws.proofs.Changes.{upd_same, upd_other}
use Rattle.list_bodies.specs.List.{next_of, mark_of, slot_in, node_in, Form, Look, Insert, Remove, Replace, Empty, form_of}
use Rattle.list_laws.specs.Line.{Nodes, rank, Line, with_next, with_mark, IsInsertion, IsRemoval, IsMarking}
use Rattle.list_laws.specs.Nodes.{nodes, HasNew, HasMarked, HasTaken, new_reg, new_next, IsNew, IsBetween, NewNode}
use Rattle.list_laws.specs.Nodes.{OldNode, ListKept, list}
use Rattle.list_laws.proofs.Frame.{line_same}
use Rattle.list_laws.proofs.Gives.{landed_apart}
use Rattle.list_laws.proofs.Line.{on_or, on_still, off_was, off_still, link_some, insertion_keeps, removal_keeps}
use Rattle.list_laws.proofs.Line.{marking_keeps, never_less}
use Rattle.list_laws.proofs.Open as open_section
use Rattle.list_laws.proofs.StoreChange.{IsMarkedBy, marked_by, IsChange}

-- a cell of a node changes, and none of another node or with another number
other_cell : (cells : Cells) (n k t i word : ℕ) → i < 5 → k < 5 → (i ≢ k) ⊎ (t ≢ n)
    → upd cells (0 + 5 * n + k) word (0 + 5 * t + i) ≡ cells (0 + 5 * t + i)
other_cell cells n k t i word low low' (inl ne) = upd_other cells (0 + 5 * n + k) (0 + 5 * t + i) word
    (λ e. ne (let z : i ≡ k = omega (arith, low, low', e) in z))
other_cell cells n k t i word low low' (inr ne) = upd_other cells (0 + 5 * n + k) (0 + 5 * t + i) word
    (λ e. ne (let z : t ≡ n = omega (arith, low, low', e) in z))

differ : (i k : ℕ) → i < k → i ≢ k
differ i k less e = omega (arith, less, e)

above : (i k : ℕ) → k < i → i ≢ k
above i k less e = omega (arith, less, e)

-- a link changes
module _ (cells : Cells) (a word : ℕ) where
  abbrev linked_cells : Cells
  linked_cells = upd cells (next_of a) word

  pub link_next : (t : ℕ) → (nodes linked_cells).next t ≡ upd (nodes cells).next a (value_of word) t
  link_next t = ⊎_elim
      (λ e. ap value_of (upd_same cells (next_of a) (next_of t) word (ap next_of e))
      ∙ sym (upd_same (nodes cells).next a t (value_of word) e))
      (λ ne. ap value_of (other_cell cells a 2 t 2 word (omega arith) (omega arith) (inr ne))
      ∙ sym (upd_other (nodes cells).next a t (value_of word) ne)) (cases_eq t a)

  pub link_key : (t : ℕ) → (nodes linked_cells).key t ≡ (nodes cells).key t
  link_key t = ap value_of (other_cell cells a 2 t 1 word (omega arith) (omega arith) (inl (differ 1 2 (omega arith))))

  pub link_value : (t : ℕ) → (nodes linked_cells).value t ≡ (nodes cells).value t
  link_value t = ap value_of (other_cell cells a 2 t 3 word (omega arith) (omega arith) (inl (above 3 2 (omega arith))))

  pub link_mark : (t : ℕ) → (nodes linked_cells).mark t ≡ (nodes cells).mark t
  link_mark t = ap value_of (other_cell cells a 2 t 4 word (omega arith) (omega arith) (inl (above 4 2 (omega arith))))

  pub link_line : (link : ℕ) (linked : ℕ → Bool) → value_of word ≡ link → Line (with_next (nodes cells) a link) linked
      → Line (nodes linked_cells) linked
  link_line link linked is line = line_same (with_next (nodes cells) a link) (nodes linked_cells) linked
      (λ t on. (link_key t, link_next t ∙ ap (λ v. upd (nodes cells).next a v t) is, link_mark t)) line

  -- the mark of a node changes
  abbrev marked_cells : Cells
  marked_cells = upd cells (mark_of a) word

  pub mark_mark : (t : ℕ) → (nodes marked_cells).mark t ≡ upd (nodes cells).mark a (value_of word) t
  mark_mark t = ⊎_elim
      (λ e. ap value_of (upd_same cells (mark_of a) (mark_of t) word (ap mark_of e))
      ∙ sym (upd_same (nodes cells).mark a t (value_of word) e))
      (λ ne. ap value_of (other_cell cells a 4 t 4 word (omega arith) (omega arith) (inr ne))
      ∙ sym (upd_other (nodes cells).mark a t (value_of word) ne)) (cases_eq t a)

  pub mark_key : (t : ℕ) → (nodes marked_cells).key t ≡ (nodes cells).key t
  mark_key t = ap value_of (other_cell cells a 4 t 1 word (omega arith) (omega arith) (inl (differ 1 4 (omega arith))))

  pub mark_next : (t : ℕ) → (nodes marked_cells).next t ≡ (nodes cells).next t
  mark_next t = ap value_of (other_cell cells a 4 t 2 word (omega arith) (omega arith) (inl (differ 2 4 (omega arith))))

  pub mark_value : (t : ℕ) → (nodes marked_cells).value t ≡ (nodes cells).value t
  mark_value t = ap value_of (other_cell cells a 4 t 3 word (omega arith) (omega arith) (inl (differ 3 4 (omega arith))))

more : (k : ℕ) → 0 < suc k
more k = omega arith

module _ (layout : Layout) (s : Scene) (sound : Sound list layout s) (kept : ListKept layout s)
    (d : ℕ) (x : Section) (here : Here s d x) where
  abbrev now : Nodes
  now = nodes s.cells

  out_of : (t : ℕ) → kept.once t ≡ false → (u : ℕ) → kept.once u ≡ true → u ≢ t
  out_of t none u once e = both_ways _ none (ap kept.once (sym e) ∙ once)

  -- another section's new node was never linked
  pub other_new : (e : ℕ) (z : Section) (t : ℕ) → s.section e ≡ Some z → HasNew z
      → z.reg (new_reg (form_of z.thunk)) ≡ suc t → kept.once t ≡ false
  other_new e z t there has reg = let was = kept.made e z there has in
      ap kept.once (suc_equal t was.slot (sym reg ∙ was.link)) ∙ was.new

  -- the key of a section's new node is its own
  pub own_key : (e : ℕ) (z : Section) (t : ℕ) → Here s e z → HasNew z → z.reg (new_reg (form_of z.thunk)) ≡ suc t
      → now.key t ≡ key_of z.op
  own_key e z t there has reg = let was = kept.made e z there has in
      ap now.key (suc_equal t was.slot (sym reg ∙ was.link))
      ∙ (was.key ∙ open_section.new_key_is layout s sound kept e z there has)

  -- a new node comes behind a
  module _ (a t word : ℕ) (has : HasNew x) (new : IsNew s kept.once x)
      (is : IsInsertion now kept.linked a t new.slot) (stores : value_of word ≡ suc new.slot)
      (no_new : HasNew (passed x) → ⊥) (no_taken : HasTaken x → ⊥) (not_taken : HasTaken (passed x) → ⊥)
      (no_behind : form_of x.thunk ≡ Replace → suc x.at ≢ 14)
      (marks : (u : ℕ) → IsMarkedBy x u → IsMarkedBy (passed x) u) where
    abbrev f : ℕ
    f = new.slot

    abbrev on' : ℕ → Bool
    on' = upd kept.linked f true

    abbrev once' : ℕ → Bool
    once' = upd kept.once f true

    abbrev cells' : Cells
    cells' = upd s.cells (next_of a) word

    a_once : kept.once a ≡ true
    a_once = kept.linked_once a is.before

    other_off : (u : ℕ) → on' u ≡ false → u ≢ a
    other_off u off e = both_ways _ off (on_still kept.linked f u (ap kept.linked e ∙ is.before))

    pub insertion_change : IsChange layout s sound kept d x here cells' on' once'
    insertion_change = record {
      line = link_line s.cells a word (suc f) on' stores (insertion_keeps now kept.linked kept.line a t f is);
      key = link_key s.cells a word;
      value = link_value s.cells a word;
      linked_live = λ u on. ⊎_elim (λ e. ap s.status e ∙ new.live) (kept.linked_live u) (on_or kept.linked f u on);
      linked_once = λ u on. ⊎_elim (λ e. upd_same kept.once f u true e)
          (λ was. on_still kept.once f u (kept.linked_once u was)) (on_or kept.linked f u on);
      once_still = on_still kept.once f;
      once_or = λ u once. ⊎_elim (λ e. inr (upd_same kept.linked f u true e)) inl (on_or kept.once f u once);
      next_some = λ u used inner. subst (λ k. 0 < k) (sym (link_next s.cells a word u))
          (link_some now.next a (value_of word) u (subst (λ k. 0 < k) (sym stores) (more f)) (kept.next_some u used inner));
      mark_small = λ u used. subst (λ k. k ≤ 1) (sym (link_mark s.cells a word u)) (kept.mark_small u used);
      frozen = λ u off. (
        link_next s.cells a word u ∙ upd_other now.next a u (value_of word) (other_off u off),
        link_mark s.cells a word u,
      );
      unmarked = λ u once safe mark. on_still kept.linked f u
          (kept.unmarked u once safe (sym (link_mark s.cells a word u) ∙ mark));
      marked = λ u on mark. ⊎_elim
          (λ e. absurd (mark (link_mark s.cells a word u ∙ (ap now.mark e ∙ new.mark))))
          (λ was. ⊎_elim (λ own. inl (marks u own)) inr
          (marked_by layout s sound kept d x here u was (λ zero. mark (link_mark s.cells a word u ∙ zero))))
          (on_or kept.linked f u on);
      gone = λ u on off. absurd (both_ways _ off (on_still kept.linked f u on));
      out = λ u once off. upd_other kept.linked f u true (out_of f new.new u once) ∙ off;
      was_linked = λ u on. inl (on_still kept.linked f u on);
      was_between = between;
      new = λ has'. absurd (no_new has');
      taken = λ has'. absurd (not_taken has');
      behind = λ form at. absurd (no_behind form at);
      new_other = λ e z u ne there has' reg. upd_other kept.once f u true (not_mine e z u ne there has' reg)
          ∙ other_new e z u there has' reg;
    }
      where
        between : (u : ℕ) → IsBetween x u → (on' u ≡ true) ⊎ IsBetween (passed x) u
        between u (NewNode has' link) = inl (upd_same kept.linked f u true (suc_equal u f (sym link ∙ new.link)))
        between u (OldNode has' node) = absurd (no_taken has')

        not_mine : (e : ℕ) (z : Section) (u : ℕ) → e ≢ d → s.section e ≡ Some z → HasNew z
            → z.reg (new_reg (form_of z.thunk)) ≡ suc u → u ≢ f
        not_mine e z u ne there has' reg same = landed_apart layout s sound kept e d z x there here ne
            (open_section.new_landed layout s sound kept e z there has')
            (open_section.new_landed layout s sound kept d x here has)
            (sym (own_key e z u there has' reg) ∙ (ap now.key same ∙ own_key d x f here has new.link))

  -- the node n behind p is taken out
  module _ (p n t word : ℕ) (is : IsRemoval now kept.linked p n t) (stores : value_of word ≡ suc t)
      (node : node_in x.thunk ≡ n) (mark : now.mark n ≡ 1)
      (has : HasTaken (passed x)) (no_new : HasNew x → ⊥) (no_taken : HasTaken x → ⊥)
      (not_new : HasNew (passed x) → ⊥) (no_behind : form_of x.thunk ≡ Replace → suc x.at ≢ 14) where
    abbrev stay : ℕ → Bool
    stay = upd kept.linked n false

    abbrev then_cells : Cells
    then_cells = upd s.cells (next_of p) word

    n_on : kept.linked n ≡ true
    n_on = (kept.line.next_on p n is.before is.no_tail is.next).0

    p_not_n : p ≢ n
    p_not_n e = never_less (rank now n)
        (subst (λ k. rank now k < rank now n) e (kept.line.next_on p n is.before is.no_tail is.next).1)

    t_on : (kept.linked t ≡ true) × (rank now n < rank now t)
    t_on = kept.line.next_on n t n_on is.inner is.links

    t_not_n : t ≢ n
    t_not_n e = never_less (rank now n) (subst (λ k. rank now n < rank now k) e t_on.1)

    still : (u : ℕ) → u ≢ n → kept.linked u ≡ true → stay u ≡ true
    still u ne on = off_still kept.linked n u ne on

    other_link : (u : ℕ) → stay u ≡ false → u ≢ p
    other_link u off e = both_ways _ off (ap stay e ∙ still p p_not_n is.before)

    pub removal_change : IsChange layout s sound kept d x here then_cells stay kept.once
    removal_change = record {
      line = link_line s.cells p word (suc t) stay stores (removal_keeps now kept.linked kept.line p n t is);
      key = link_key s.cells p word;
      value = link_value s.cells p word;
      linked_live = λ u on. kept.linked_live u (off_was kept.linked n u on).1;
      linked_once = λ u on. kept.linked_once u (off_was kept.linked n u on).1;
      once_still = λ u once. once;
      once_or = λ u once. inl once;
      next_some = λ u used inner. subst (λ k. 0 < k) (sym (link_next s.cells p word u))
          (link_some now.next p (value_of word) u (subst (λ k. 0 < k) (sym stores) (more t)) (kept.next_some u used inner));
      mark_small = λ u used. subst (λ k. k ≤ 1) (sym (link_mark s.cells p word u)) (kept.mark_small u used);
      frozen = λ u off. (
        link_next s.cells p word u ∙ upd_other now.next p u (value_of word) (other_link u off),
        link_mark s.cells p word u,
      );
      unmarked = λ u once safe zero. let none = sym (link_mark s.cells p word u) ∙ zero in
          still u (λ e. one_zero (sym mark ∙ (ap now.mark (sym e) ∙ none))) (kept.unmarked u once safe none);
      marked = λ u on some. let was = off_was kept.linked n u on in ⊎_elim
          (λ own. absurd (was.0 (sym own.1 ∙ node))) inr
          (marked_by layout s sound kept d x here u was.1 (λ zero. some (link_mark s.cells p word u ∙ zero)));
      gone = λ u on off. ⊎_elim
          (λ e. (t, ap now.next e ∙ is.links, still t t_not_n t_on.0))
          (λ ne. absurd (both_ways _ off (still u ne on))) (cases_eq u n);
      out = λ u once off. ⊎_elim (λ e. upd_same kept.linked n u false e)
          (λ ne. upd_other kept.linked n u false ne ∙ off) (cases_eq u n);
      was_linked = λ u on. ⊎_elim (λ e. inr (OldNode has (node ∙ sym e))) (λ ne. inl (still u ne on)) (cases_eq u n);
      was_between = between;
      new = λ has'. absurd (not_new has');
      taken = λ has'. record {
        out = upd_same kept.linked n (node_in x.thunk) false node;
        live = ap s.status node ∙ kept.linked_live n n_on;
      };
      behind = λ form at. absurd (no_behind form at);
      new_other = λ e z u ne. other_new e z u;
    }
      where
        one_zero : suc 0 ≡ 0 → ⊥
        one_zero e = omega (arith, e)

        between : (u : ℕ) → IsBetween x u → (stay u ≡ true) ⊎ IsBetween (passed x) u
        between u (NewNode has' link) = absurd (no_new has')
        between u (OldNode has' was) = absurd (no_taken has')

  -- the node n behind p is marked
  module _ (p n word : ℕ) (is : IsMarking now kept.linked p n) (stores : value_of word ≡ 1)
      (node : node_in x.thunk ≡ n) (has : HasMarked (passed x)) (no_marked : HasMarked x → ⊥)
      (no_taken : HasTaken x → ⊥) (not_taken : HasTaken (passed x) → ⊥) (goes_on : HasNew x → HasNew (passed x))
      (goes_back : HasNew (passed x) → HasNew x)
      (behind : form_of x.thunk ≡ Replace → suc x.at ≡ 14 → now.key (node_in x.thunk) < now.key (slot_in (x.reg 2)))
    where
      abbrev cells_then : Cells
      cells_then = upd s.cells (mark_of n) word

      marked_on : kept.linked n ≡ true
      marked_on = (kept.line.next_on p n is.before is.no_tail is.next).0

      other_mark : (u : ℕ) → u ≢ n → (nodes cells_then).mark u ≡ now.mark u
      other_mark u ne = mark_mark s.cells n word u ∙ upd_other now.mark n u (value_of word) ne

      not_it : (u : ℕ) → kept.linked u ≡ false → u ≢ n
      not_it u off e = both_ways _ off (ap kept.linked e ∙ marked_on)

      next_same : (f : Form) → new_next f x ≡ new_next f (passed x)
      next_same Look = refl
      next_same Insert = refl
      next_same Remove = refl
      next_same Replace = refl
      next_same Empty = refl

      pub marking_change : IsChange layout s sound kept d x here cells_then kept.linked kept.once
      marking_change = record {
        line = line_same (with_mark now n 1) (nodes cells_then) kept.linked
            (λ u on. (
              mark_key s.cells n word u,
              mark_next s.cells n word u,
              mark_mark s.cells n word u ∙ ap (λ v. upd now.mark n v u) stores,
            ))
            (marking_keeps now kept.linked kept.line p n is);
        key = mark_key s.cells n word;
        value = mark_value s.cells n word;
        linked_live = kept.linked_live;
        linked_once = kept.linked_once;
        once_still = λ u once. once;
        once_or = λ u once. inl once;
        next_some = λ u used inner. subst (λ k. 0 < k) (sym (mark_next s.cells n word u)) (kept.next_some u used inner);
        mark_small = λ u used. ⊎_elim
            (λ e. subst (λ k. k ≤ 1) (sym (mark_mark s.cells n word u ∙ (upd_same now.mark n u (value_of word) e ∙ stores)))
            (omega arith))
            (λ ne. subst (λ k. k ≤ 1) (sym (other_mark u ne)) (kept.mark_small u used)) (cases_eq u n);
        frozen = λ u off. (mark_next s.cells n word u, other_mark u (not_it u off));
        unmarked = λ u once safe zero. ⊎_elim (λ e. ap kept.linked e ∙ marked_on)
            (λ ne. kept.unmarked u once safe (sym (other_mark u ne) ∙ zero)) (cases_eq u n);
        marked = λ u on some. ⊎_elim (λ e. inl (has, node ∙ sym e))
            (λ ne. ⊎_elim (λ own. absurd (no_marked own.0)) inr
            (marked_by layout s sound kept d x here u on (λ zero. some (other_mark u ne ∙ zero)))) (cases_eq u n);
        gone = λ u on off. absurd (both_ways _ off on);
        out = λ u once off. off;
        was_linked = λ u on. inl on;
        was_between = between;
        new = λ has'. let was = kept.made d x here (goes_back has') in record {
          slot = was.slot;
          link = was.link;
          live = was.live;
          new = was.new;
          key = mark_key s.cells n word was.slot ∙ was.key;
          value = mark_value s.cells n word was.slot ∙ was.value;
          next = mark_next s.cells n word was.slot ∙ (was.next ∙ next_same (form_of x.thunk));
          mark = other_mark was.slot (λ e. out_of was.slot was.new n (kept.linked_once n marked_on) (sym e)) ∙ was.mark;
        };
        taken = λ has'. absurd (not_taken has');
        behind = behind;
        new_other = λ e z u ne. other_new e z u;
      }
        where
          between : (u : ℕ) → IsBetween x u → (kept.linked u ≡ true) ⊎ IsBetween (passed x) u
          between u (NewNode has' link) = inr (NewNode (goes_on has') link)
          between u (OldNode has' was) = absurd (no_taken has')
