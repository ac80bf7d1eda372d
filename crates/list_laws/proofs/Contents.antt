-- What a memory of the list stands for goes by its linked nodes; and the contents, with a pair more or less.
use Rattle.std.specs.Prelude.{Bool, true, false, Option, Some, None}
use Rattle.std.proofs.Common.{◌≡◌, ℕ, ◌≤◌, refl, sym, ap, ◌∙◌, ⊎_elim}
use Rattle.std.proofs.lemmas.Bool.{cases_eq}
use Rattle.std.specs.FinMap.{get}
use Rattle.structure_laws.specs.table_words.specs.small_lemmas.proofs.Lists.{none_not_some}
use Rattle.structure_laws.specs.map_history.specs.Replay.{Pairs}
use Rattle.structure_laws.specs.body_terms.specs.Update.{upd}
use Rattle.structure_laws.specs.Scene.{Cells}
use Rattle.structure_laws.proofs.Changes.{upd_same, upd_other}
use Rattle.list_laws.specs.Line.{Nodes, Contents}
use Rattle.list_laws.specs.Nodes.{nodes, ListStands}
use Rattle.list_laws.proofs.Frame.{IsSameNode, line_same}
use Rattle.list_laws.proofs.Line.{on_or, on_still, off_was, off_still}

-- the contents go by the keys and the values of the linked nodes, and by what is looked up
pub contents_as : (n n' : Nodes) (linked : ℕ → Bool) (lookup lookup' : ℕ → Option ℕ)
    → ((t : ℕ) → linked t ≡ true → (n'.key t ≡ n.key t) × (n'.value t ≡ n.value t))
    → ((key : ℕ) → lookup key ≡ lookup' key) → Contents n linked lookup → Contents n' linked lookup'
contents_as n n' linked lookup lookup' same look is = record {
  pair = λ t on low. sym (look (n'.key t)) ∙ (ap lookup (same t on).0 ∙ (is.pair t on low ∙ ap Some (sym (same t on).1)));
  node = λ key value h. let l = is.node key value (look key ∙ h) in (l.0, l.1, l.2, (same l.0 l.1).0 ∙ l.3);
}

-- a memory whose linked nodes stay stands for the same pairs
pub stands_same : (slots : ℕ) (cells cells' : Cells) (pairs pairs' : Pairs) (stands : ListStands slots cells pairs)
    → ((t : ℕ) → stands.linked t ≡ true → IsSameNode (nodes cells) (nodes cells') t)
    → ((key : ℕ) → get pairs key ≡ get pairs' key) → ListStands slots cells' pairs'
stands_same slots cells cells' pairs pairs' stands same look = record {
  linked = stands.linked;
  within = stands.within;
  line = line_same (nodes cells) (nodes cells') stands.linked
      (λ t on. let node = same t on in (node.key, node.next, node.mark)) stands.line;
  unmarked = λ t on. (same t on).mark ∙ stands.unmarked t on;
  contents = contents_as (nodes cells) (nodes cells') stands.linked (get pairs) (get pairs')
      (λ t on. let node = same t on in (node.key, node.value)) look stands.contents;
}

module _ (n : Nodes) (linked : ℕ → Bool) (lookup : ℕ → Option ℕ) (map : Contents n linked lookup) where
  -- a pair more
  pub contents_insert : (f k v : ℕ) → lookup k ≡ None → n.key f ≡ k → n.value f ≡ v → 2 ≤ f
      → Contents n (upd linked f true) (upd lookup k (Some v))
  contents_insert f k v none key value low = record {
    pair = λ t on two. ⊎_elim
        (λ e. upd_same lookup k (n.key t) (Some v) (ap n.key e ∙ key) ∙ ap Some (sym (ap n.value e ∙ value)))
        (λ was. upd_other lookup k (n.key t) (Some v)
        (λ e. none_not_some (n.value t) (sym none ∙ (ap lookup (sym e) ∙ map.pair t was two))) ∙ map.pair t was two)
        (on_or linked f t on);
    node = λ q u h. ⊎_elim
        (λ e. (f, upd_same linked f f true refl, low, key ∙ sym e))
        (λ ne. let l = map.node q u (sym (upd_other lookup k q (Some v) ne) ∙ h) in
        (l.0, on_still linked f l.0 l.1, l.2, l.3)) (cases_eq q k);
  }

  -- a pair less
  pub contents_remove : (a k : ℕ) → n.key a ≡ k → ((t : ℕ) → linked t ≡ true → 2 ≤ t → n.key t ≡ k → t ≡ a)
      → Contents n (upd linked a false) (upd lookup k None)
  contents_remove a k key only = record {
    pair = λ t on two. let was = off_was linked a t on in
        upd_other lookup k (n.key t) None (λ e. was.0 (only t was.1 two e)) ∙ map.pair t was.1 two;
    node = λ q u h. ⊎_elim
        (λ e. absurd (none_not_some u (sym (upd_same lookup k q None e) ∙ h)))
        (λ ne. let l = map.node q u (sym (upd_other lookup k q None ne) ∙ h) in
        (l.0, off_still linked a l.0 (λ e. ne (sym l.3 ∙ (ap n.key e ∙ key))) l.1, l.2, l.3)) (cases_eq q k);
  }
