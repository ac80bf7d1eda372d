-- A section of the list at its stamp, with nothing pending, does what the map does.
use Rattle.std.specs.Prelude.{◌*◌, true, false, Some, None}
use Rattle.std.proofs.Common.{◌≡◌, ◌≢◌, ℕ, suc, ◌≤◌, sym, ap, ◌∙◌, ⊎_elim, arith}
use Rattle.std.specs.FinMap.{get}
use Rattle.structure_laws.specs.table_words.specs.small_lemmas.proofs.Lists.{none_if_never}
use Rattle.structure_laws.specs.map_history.specs.Keys.{key_of}
use Rattle.structure_laws.specs.map_history.specs.Replay.{Pairs, reply_of}
use Rattle.structure_laws.specs.map_history.specs.Words.{word_of}
use Rattle.structure_laws.specs.body_terms.specs.declared.step.Step.TheVariants.{Stamp, Answer}
use Rattle.structure_laws.specs.table_words.specs.declared.layout.Layout.{Layout}
use Rattle.structure_laws.specs.table_words.specs.Limits.{IsWithinLimits}
use Rattle.structure_laws.specs.Scene.{Section, Scene}
use Rattle.structure_laws.specs.Sections.{IsStep}
use Rattle.structure_laws.specs.InTurn.{StandsFor, AtStamp}
use Rattle.bucket_laws.specs.Walk.{is_del}
use Rattle.bucket_laws.proofs.Maps.{remove_reply, set_reply}
use Rattle.node_laws.proofs.Forms.{reply_is, new_reply}
use Rattle.list_bodies.specs.List.{Look, Insert, Remove, Replace, form_of}
use Rattle.list_laws.specs.Line.{Nodes, Contents}
use Rattle.list_laws.specs.Walk.{Walk, node_of, is_past}
use Rattle.list_laws.specs.Nodes.{nodes, walk_of, ListKept, list}
use Rattle.list_laws.specs.Landing.{HasLanded}
use Rattle.list_laws.proofs.Fit.{look_numbers}
use Rattle.list_laws.proofs.Forms.{look_answer, insert_answer, remove_answer, replace_answer}
use Rattle.list_laws.proofs.Forms.{look_stamp, insert_stamp, remove_stamp, replace_stamp}
use Rattle.list_laws.proofs.Gives.{kind_of}
use Rattle.list_laws.proofs.Kind.{Kind, Looks, Inserts_it, Removes_it, Replaces_it}
use Rattle.list_laws.proofs.Line.{rank_unmarked, rank_low, none_between, views_agree}
use Rattle.list_laws.proofs.Open as open_section
use Rattle.list_laws.proofs.Places as places

pub unfixed : (n : ℕ) → n ≢ 0 → n ≢ 1 → 2 ≤ n
unfixed n zero one = search arith

-- what stands is what is kept
module _ (layout : Layout) (s : Scene) (pairs : Pairs) (before : StandsFor list layout s pairs) where
  abbrev pub kept : ListKept layout s
  kept = before.kept

  abbrev now : Nodes
  now = nodes s.cells

  pub agree : (t : ℕ) → kept.linked t ≡ before.stands.linked t
  agree = views_agree now kept.linked before.stands.linked kept.line before.stands.line

  pub contents : Contents now kept.linked (get pairs)
  contents = record {
    pair = λ t on low. before.stands.contents.pair t (sym (agree t) ∙ on) low;
    node = λ key value h. let l = before.stands.contents.node key value h in (l.0, agree l.0 ∙ l.1, l.2, l.3);
  }

  pub unmarked : (t : ℕ) → kept.linked t ≡ true → now.mark t ≡ 0
  unmarked t on = before.stands.unmarked t (sym (agree t) ∙ on)

  -- so no two nodes have one key
  pub key_once : (t u : ℕ) → kept.linked t ≡ true → kept.linked u ≡ true → t ≢ 0 → u ≢ 0 → now.key t ≡ now.key u
      → t ≡ u
  key_once t u on on' some some' same = kept.line.rank_once t u on on'
      (rank_unmarked now t some (unmarked t on)
      ∙ (ap (λ k. suc (suc (2 * k))) same ∙ sym (rank_unmarked now u some' (unmarked u on'))))

  module _ (d : ℕ) (x : Section) (stamp : AtStamp list s d x) where
    abbrev w : Walk
    w = walk_of layout x.op x.readings

    abbrev Landed : Type 0
    Landed = HasLanded layout s kept (key_of x.op) w

    -- a key that the walk found is in the map with its node's value
    pub found_low : w.found ≡ true → 2 ≤ node_of w
    found_low hit = unfixed (node_of w)
        ((open_section.is_walk layout s before.sound kept d x stamp.here).node_head
        (ap is_past (open_section.fits layout s before.sound kept d x stamp.here).stage))
        (open_section.found_inner layout s before.sound kept d x stamp.here hit)

    pub found_is : Landed → w.found ≡ true → get pairs (key_of x.op) ≡ Some (now.value (node_of w))
    found_is landed hit = ap (get pairs) (sym (open_section.found_key layout s before.sound kept d x stamp.here hit))
        ∙ contents.pair (node_of w) landed.node (found_low hit)

    -- a key that it missed isn't
    pub missing_is : Landed → w.found ≡ false → get pairs (key_of x.op) ≡ None
    missing_is landed missed = none_if_never (get pairs (key_of x.op)) (λ v h.
        let l = contents.node (key_of x.op) v h in
        let two = l.2 in
        let some : l.0 ≢ 0 = λ e. omega (arith, two, e) in
        let is = rank_unmarked now l.0 some (unmarked l.0 l.1) in
        let same = l.3 in
        let low = places.before_rank layout s before.sound kept d x stamp.here landed in
        let high = rank_low now (node_of w) landed.node_head in
        let above = open_section.missing_key layout s before.sound kept d x stamp.here missed in
        ⊎_elim (λ below. omega (arith, below, is, same, low)) (λ over. omega (arith, over, is, same, high, above))
        (none_between now kept.linked kept.line w.from (node_of w) l.0 landed.from landed.from_tail landed.link l.1))

    pub only_one : Landed → w.found ≡ true → (t : ℕ) → kept.linked t ≡ true → 2 ≤ t → now.key t ≡ key_of x.op
        → t ≡ node_of w
    only_one landed hit t on two same = key_once t (node_of w) on landed.node (λ e. omega (arith, two, e)) landed.node_head
        (same ∙ sym (open_section.found_key layout s before.sound kept d x stamp.here hit))

    value_is : w.found ≡ true → is_del x.op ≡ false → now.value (node_of w) ≡ w.value
    value_is hit del =
        let read = (open_section.has_read layout s before.sound kept d x stamp.here).value_read (omega arith) hit del in
        sym ((kept.published d x stamp.here).value read.1.0 (node_of w) read.0 read.1.1) ∙ read.2

    -- where each form has landed at its stamp
    pub look_at : form_of x.thunk ≡ Look → Landed
    look_at form =
        let at = look_stamp x.thunk x.at
        (open_section.step_as layout s before.sound kept d x stamp.here Look form x.at Stamp stamp.stamp) in
        open_section.look_landed layout s before.sound kept d x stamp.here form (omega (arith, at))

    pub insert_at : form_of x.thunk ≡ Insert → x.at ≡ 6
    insert_at form = insert_stamp x.thunk x.at
        (open_section.step_as layout s before.sound kept d x stamp.here Insert form x.at Stamp stamp.stamp)

    pub insert_lands : form_of x.thunk ≡ Insert → Landed
    insert_lands form = let at = insert_at form in
        open_section.insert_landed layout s before.sound kept d x stamp.here form (omega (arith, at)) (omega (arith, at))

    pub remove_at : form_of x.thunk ≡ Remove → x.at ≡ 10
    remove_at form = remove_stamp x.thunk x.at
        (open_section.step_as layout s before.sound kept d x stamp.here Remove form x.at Stamp stamp.stamp)

    pub remove_lands : form_of x.thunk ≡ Remove → Landed
    remove_lands form = let at = remove_at form in
        open_section.remove_landed layout s before.sound kept d x stamp.here form (omega (arith, at)) (omega (arith, at))

    pub replace_at : form_of x.thunk ≡ Replace → x.at ≡ 12
    replace_at form = replace_stamp x.thunk x.at
        (open_section.step_as layout s before.sound kept d x stamp.here Replace form x.at Stamp stamp.stamp)

    pub replace_lands : form_of x.thunk ≡ Replace → Landed
    replace_lands form = let at = replace_at form in
        open_section.replace_landed layout s before.sound kept d x stamp.here form (omega (arith, at)) (omega (arith, at))

    pub turn_answers : IsWithinLimits layout → (j n : ℕ) → IsStep list x j (Answer n)
        → n ≡ word_of (reply_of pairs x.op)
    turn_answers limits j n h = by (kind_of layout s before.sound kept limits d x stamp.here)
      where
        by : Kind x.op w x.thunk → n ≡ word_of (reply_of pairs x.op)
        by (Looks form number) =
            let landed = look_at form in
            look_answer x.thunk j n (open_section.step_as layout s before.sound kept d x stamp.here Look form j (Answer n) h)
            ∙ (open_section.operand_is layout s before.sound kept d x stamp.here 3 (look_numbers x.op w w.found number)
            ∙ reply_is pairs 31 x.op w.value w.found (omega arith) number
            (λ hit. (now.value (node_of w), found_is landed hit, λ del. value_is hit del))
            (λ missed. missing_is landed missed))
        by (Inserts_it form number) =
            let of = open_section.insert_form layout s before.sound kept d x stamp.here form in
            insert_answer x.thunk j n
            (open_section.step_as layout s before.sound kept d x stamp.here Insert form j (Answer n) h)
            ∙ new_reply pairs x.op of.key of.value of.puts (missing_is (insert_lands form) of.missing)
        by (Removes_it form number) =
            let of = open_section.remove_form layout s before.sound kept d x stamp.here form in
            remove_answer x.thunk j n
            (open_section.step_as layout s before.sound kept d x stamp.here Remove form j (Answer n) h)
            ∙ remove_reply pairs x.op (now.value (node_of w)) (ap is_del of.del) (found_is (remove_lands form) of.hit)
        by (Replaces_it form number) =
            let of = open_section.replace_form layout s before.sound kept d x stamp.here form in
            replace_answer x.thunk j n
            (open_section.step_as layout s before.sound kept d x stamp.here Replace form j (Answer n) h)
            ∙ (open_section.operand_is layout s before.sound kept d x stamp.here 7 of.numbers
            ∙ set_reply pairs x.op of.key of.value w.value of.put
            (found_is (replace_lands form) of.hit ∙ ap Some (value_is of.hit (ap is_del of.put))))
