-- Where the node of an open section of the list goes: between two others, out, or into the place of another.
use Rattle.std.specs.Prelude.{◌⊎◌, ◌*◌, ◌-◌, false}
use Rattle.std.proofs.Common.{◌≡◌, ◌≢◌, ℕ, suc, ◌<◌, ap, ◌∙◌, ⊎_elim, arith}
use Rattle.std.proofs.lemmas.Bool.{cases_eq, both_ways}
use Rattle.structure_laws.specs.table_words.specs.small_lemmas.proofs.Bools.{not_true}
use Rattle.structure_laws.specs.map_history.specs.Keys.{key_of}
use Rattle.structure_laws.specs.body_terms.specs.Word.{value_of}
use Rattle.structure_laws.specs.table_words.specs.declared.layout.Layout.{Layout}
use Rattle.structure_laws.specs.Scene.{Section, Scene}
use Rattle.structure_laws.specs.Sections.{Here}
use Rattle.structure_laws.specs.Sound.{Sound}
use Rattle.list_bodies.specs.List.{Insert, Remove, Replace, form_of}
use Rattle.list_laws.specs.Line.{Nodes, rank, IsInsertion, IsRemoval, IsMarking}
use Rattle.list_laws.specs.Walk.{Walk, node_of}
use Rattle.list_laws.specs.Nodes.{nodes, walk_of, HasNew, new_next, IsNew, ListKept, list}
use Rattle.list_laws.specs.Landing.{HasLanded}
use Rattle.list_laws.proofs.Line.{rank_unmarked, rank_low, rank_high, above_head}
use Rattle.list_laws.proofs.Open as open_section
use Rattle.list_laws.proofs.Open.{leads_to}

module _ (layout : Layout) (s : Scene) (sound : Sound list layout s) (kept : ListKept layout s) (d : ℕ) (x : Section)
    (here : Here s d x) where
  abbrev w : Walk
  w = walk_of layout x.op x.readings

  abbrev now : Nodes
  now = nodes s.cells

  abbrev key : ℕ
  key = key_of x.op

  abbrev Landed : Type 0
  Landed = HasLanded layout s kept key w

  pub new_out : (new : IsNew s kept.once x) → kept.linked new.slot ≡ false
  new_out new = not_true (kept.linked new.slot) (λ on. both_ways _ new.new (kept.linked_once new.slot on))

  pub new_some : (new : IsNew s kept.once x) → new.slot ≢ 0
  new_some new e = both_ways _ new.new (ap kept.once e ∙ kept.linked_once 0 kept.line.head)

  pub new_inner : (new : IsNew s kept.once x) → new.slot ≢ 1
  new_inner new e = both_ways _ new.new (ap kept.once e ∙ kept.linked_once 1 kept.line.tail)

  -- the rank of a section's new node is that of an unmarked node with its key
  pub new_rank : (new : IsNew s kept.once x) → HasNew x → rank now new.slot ≡ suc (suc (2 * key))
  new_rank new has = rank_unmarked now new.slot (new_some new) new.mark
      ∙ ap (λ k. suc (suc (2 * k))) (new.key ∙ open_section.new_key_is layout s sound kept d x here has)

  -- the predecessor ranks below any node with the key
  pub before_rank : Landed → rank now w.from < suc (2 * key)
  before_rank landed = ⊎_elim
      (λ e. let none : rank now w.from ≡ 0 = ap (rank now) e in omega (arith, none))
      (λ ne. let below = landed.from_key ne in let high = rank_high now w.from ne in omega (arith, below, high))
      (cases_eq w.from 0)

  -- an insertion
  pub insert_place : (form : form_of x.thunk ≡ Insert) → Landed → (has : HasNew x) → (new : IsNew s kept.once x)
      → IsInsertion now kept.linked w.from (node_of w) new.slot
  insert_place form landed has new =
      let link = (open_section.fits layout s sound kept d x here).link in
      let some = (open_section.has_read layout s sound kept d x here).some (omega arith) in
      record {
        before = landed.from;
        no_tail = landed.from_tail;
        next = landed.link;
        out = new_out new;
        links = new.next ∙ (ap (λ f. new_next f x) form ∙ (ap value_of link ∙ leads_to (value_of w.link) some));
        from = let low = before_rank landed in let is = new_rank new has in omega (arith, low, is);
        to = let above = open_section.missing_key layout s sound kept d x here
            (open_section.insert_form layout s sound kept d x here form).missing in
            let low = rank_low now (node_of w) landed.node_head in let is = new_rank new has in
            omega (arith, above, low, is);
      }

  -- the node that is taken out, and the one behind it
  module _ (takes : (form_of x.thunk ≡ Remove) ⊎ (form_of x.thunk ≡ Replace)) (landed : Landed) where
    pub found : now.key (node_of w) ≡ key
    found = open_section.found_key layout s sound kept d x here
        (open_section.takes_found layout s sound kept d x here takes)

    pub inner : node_of w ≢ 1
    inner = open_section.found_inner layout s sound kept d x here
        (open_section.takes_found layout s sound kept d x here takes)

    abbrev pub behind : ℕ
    behind = now.next (node_of w) - 1

    pub behind_link : now.next (node_of w) ≡ suc behind
    behind_link = leads_to (now.next (node_of w)) (kept.line.next_some (node_of w) landed.node inner)

    pub removal_place : IsRemoval now kept.linked w.from (node_of w) behind
    removal_place = record {
      before = landed.from;
      no_tail = landed.from_tail;
      next = landed.link;
      inner = inner;
      links = behind_link;
    }

    pub marking_place : now.mark (node_of w) ≡ 0 → IsMarking now kept.linked w.from (node_of w)
    marking_place unmarked = record {
      before = landed.from;
      no_tail = landed.from_tail;
      next = landed.link;
      inner = inner;
      key = λ some. let below = landed.from_key some in let is = found in omega (arith, below, is);
      unmarked = unmarked;
    }

    -- while the node isn't marked, the one behind it has a higher key
    pub behind_key : now.mark (node_of w) ≡ 0 → (u : ℕ) → now.next (node_of w) ≡ suc u
        → now.key (node_of w) < now.key u
    behind_key unmarked u leads =
        let next = kept.line.next_on (node_of w) u landed.node inner leads in
        let less = next.1 in
        let some = above_head now (node_of w) u less in
        let is = rank_unmarked now (node_of w) landed.node_head unmarked in
        let high = rank_high now u some in
        omega (arith, less, is, high)
