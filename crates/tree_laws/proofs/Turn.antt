-- A section of the tree at its stamp, with nothing pending, does what the map does.
use Rattle.std.specs.Prelude.{◌==◌, ◌^◌, true, false, Option, Some, None, if◌then◌else◌, slice_get}
use Rattle.std.proofs.Common.{◌≡◌, ℕ, ◌*◌, ◌<◌, ◌≤◌, refl, sym, ap, ◌∙◌, subst, inl, ⊎_elim, arith}
use Rattle.std.proofs.lemmas.Bool.{cases_eq, both_ways}
use Rattle.std.specs.FinMap.{get}
use Rattle.structure_laws.specs.table_words.specs.small_lemmas.proofs.Numbers.{equal_tested as eq_true}
use Rattle.structure_laws.specs.map_history.specs.declared.op.Op.{Op}
use Rattle.structure_laws.specs.map_history.specs.declared.op.Op.TheVariants.{Get, Ins, Del, Put, Mov}
use Rattle.structure_laws.specs.map_history.specs.declared.reply.Reply.TheVariants.{Gone, Absent}
use Rattle.structure_laws.specs.map_history.specs.Keys.{key_of}
use Rattle.structure_laws.specs.map_history.specs.Replay.{Pairs, reply_of}
use Rattle.structure_laws.specs.map_history.specs.Words.{word_of}
use Rattle.structure_laws.specs.body_terms.specs.declared.step.Step.TheVariants.{Stamp, Answer}
use Rattle.structure_laws.specs.body_terms.specs.declared.thunk.Thunk.{Thunk}
use Rattle.structure_laws.specs.table_words.specs.declared.layout.Layout.{Layout}
use Rattle.structure_laws.specs.table_words.specs.Limits.{IsWithinLimits}
use Rattle.structure_laws.specs.Scene.{Section, Scene}
use Rattle.structure_laws.specs.Sections.{IsStep}
use Rattle.structure_laws.specs.InTurn.{StandsFor, AtStamp}
use Rattle.structure_laws.proofs.Changes.{equal_of}
use Rattle.bucket_laws.specs.Walk.{is_del}
use Rattle.bucket_laws.proofs.Maps.{set_reply}
use Rattle.node_laws.proofs.Forms.{there, reply_is, new_reply}
use Rattle.tree_bodies.specs.Tree.{Look, Insert, Delete, Replace, look_steps, insert_steps, delete_steps, replace_steps}
use Rattle.tree_laws.specs.Search.{Nodes, IsLeaf, Contents, ViewsAgree}
use Rattle.tree_laws.specs.Walk.{Walk, node_of}
use Rattle.tree_laws.specs.Leaves.{nodes, bounds, walk_of, TreeKept, tree}
use Rattle.tree_laws.proofs.Forms.{look_answer, insert_answer, delete_answer, replace_answer}
use Rattle.tree_laws.proofs.Found.{walk_keyed, value_read}
use Rattle.tree_laws.proofs.Views.{views_agree}
use Rattle.tree_laws.proofs.WalkReads.{is_late}
use Rattle.tree_laws.proofs.Open as open_section

-- where the stamp stands in each body
pub look_stamp : (t : Thunk) (j : ℕ) → slice_get (look_steps t) j ≡ Some Stamp → j ≡ 4
look_stamp t j h = grind arith

pub insert_stamp : (t : Thunk) (j : ℕ) → slice_get (insert_steps t) j ≡ Some Stamp → j ≡ 7
insert_stamp t j h = grind arith

pub replace_stamp : (t : Thunk) (j : ℕ) → slice_get (replace_steps t) j ≡ Some Stamp → j ≡ 6
replace_stamp t j h = grind arith

pub delete_stamp : (t : Thunk) (j : ℕ) → slice_get (delete_steps t) j ≡ Some Stamp → j ≡ 12
delete_stamp t j h = grind arith

pub none_is : (o : Option ℕ) → ((v : ℕ) → o ≡ Some v → ⊥) → o ≡ None
none_is None f = refl
none_is (Some v) f = absurd (f v refl)

unfixed : (n : ℕ) → (n ≡ 0 → ⊥) → (n ≡ 1 → ⊥) → (n ≡ 2 → ⊥) → 3 ≤ n
unfixed n zero one two = search arith

module _ (layout : Layout) (limits : IsWithinLimits layout) (s : Scene) (pairs : Pairs) (d : ℕ) (x : Section)
    (before : StandsFor tree layout s pairs) (stamp : AtStamp tree s d x) where
  abbrev kept : TreeKept layout s
  kept = before.kept

  abbrev now : Nodes
  now = nodes s.cells

  abbrev w : Walk
  w = walk_of layout x.op x.readings

  agree : ViewsAgree kept.covers before.stands.covers
  agree = views_agree now kept.covers before.stands.covers kept.tree before.stands.tree

  pub contents : Contents now kept.covers (get pairs)
  contents = record {
    pair = λ l on leaf low. before.stands.contents.pair l (sym (agree.linked l) ∙ on) leaf low;
    leaf = λ key value h. let l = before.stands.contents.leaf key value h in (l.0, agree.linked l.0 ∙ l.1, l.2, l.3, l.4);
  }

  leaf_is : IsLeaf now (node_of w)
  leaf_is = open_section.leaf_is layout s before.sound kept d x stamp.here

  pub keyed : w.found ≡ (w.key == key_of x.op)
  keyed = walk_keyed (bounds layout) x.op x.readings (ap is_late (open_section.stage_is layout s before.sound kept d x stamp.here))

  low : key_of x.op ≤ 4294967293
  low = (before.sound.allowed d x stamp.here).keys (key_of x.op) (inl refl)

  pub key_there : w.found ≡ true → now.key (node_of w) ≡ key_of x.op
  key_there hit = open_section.leaf_key_is layout s before.sound kept d x stamp.here ∙ equal_of _ _ (sym keyed ∙ hit)

  pub leaf_unfixed : w.found ≡ true → 3 ≤ node_of w
  leaf_unfixed hit = unfixed (node_of w)
      (λ zero. let inner = kept.tree.root_inner in let leaf = subst (IsLeaf now) zero leaf_is in omega (arith, inner, leaf))
      (λ one. let at = ap now.key one ∙ kept.sentinels.first_key in let mine = key_there hit in let small = low in omega (arith, at, mine, small))
      (λ two. let at = ap now.key two ∙ kept.sentinels.last_key in let mine = key_there hit in let small = low in omega (arith, at, mine, small))

  -- a key that the walk found is in the map with its leaf's value
  pub found_is : kept.covers.linked (node_of w) ≡ true → w.found ≡ true → get pairs (key_of x.op) ≡ Some (now.child false (node_of w))
  found_is linked hit = ap (get pairs) (sym (key_there hit)) ∙ contents.pair (node_of w) linked leaf_is (leaf_unfixed hit)

  -- a key that it missed isn't
  pub missing_is : kept.covers.linked (node_of w) ≡ true → kept.covers.lo (node_of w) ≤ key_of x.op → key_of x.op < kept.covers.hi (node_of w)
      → w.found ≡ false → get pairs (key_of x.op) ≡ None
  missing_is linked lo hi missed = none_is (get pairs (key_of x.op)) (λ v h.
      let l = contents.leaf (key_of x.op) v h in
      let inside = kept.tree.leaf_key l.0 l.1 l.2 in
      ⊎_elim
      (λ same. both_ways _ (sym keyed ∙ missed) (eq_true w.key (key_of x.op) (sym (open_section.leaf_key_is layout s before.sound kept d x stamp.here) ∙ (ap now.key (sym same) ∙ l.4))))
      (λ ne. let at = l.4 in let from = inside.0 in let to = inside.1 in ⊎_elim
      (λ below. omega (arith, below, at, from, to, lo, hi))
      (λ below. omega (arith, below, at, from, to, lo, hi))
      (kept.tree.leaves l.0 (node_of w) l.1 linked l.2 leaf_is ne))
      (cases_eq l.0 (node_of w)))

  value_is : w.found ≡ true → is_del x.op ≡ false → now.child false (node_of w) ≡ w.value
  value_is hit del =
      let read = value_read x.readings (bounds layout) x.op (open_section.stage_is layout s before.sound kept d x stamp.here) del hit in
      sym ((kept.published d x stamp.here).value read.0 (node_of w) read.1 read.2 leaf_is) ∙ read.3

  answers : (j n : ℕ) → IsStep tree x j (Answer n) → n ≡ word_of (reply_of pairs x.op)
  answers j n h = by (open_section.kind layout s before.sound kept d x stamp.here limits)
    where
      by : open_section.Kind layout s before.sound kept d x stamp.here limits → n ≡ word_of (reply_of pairs x.op)
      by (open_section.Looks form) =
          let at = look_stamp x.thunk x.at (open_section.step_as layout s before.sound kept d x stamp.here Look form x.at Stamp stamp.stamp) in
          let landed = open_section.look_landed layout s before.sound kept d x stamp.here form (omega (arith, at)) in
          look_answer x.thunk j n (open_section.step_as layout s before.sound kept d x stamp.here Look form j (Answer n) h)
          ∙ (open_section.look_reply layout s before.sound kept d x stamp.here form
          ∙ reply_is pairs 11 x.op w.value w.found (omega arith)
          (open_section.look_form_is layout s before.sound kept d x stamp.here form)
          (λ hit. (now.child false (node_of w), found_is landed.node.linked hit, λ del. value_is hit del))
          (λ missed. missing_is landed.node.linked landed.node.lo landed.node.hi missed))
      by (open_section.Inserts form) =
          let at = insert_stamp x.thunk x.at (open_section.step_as layout s before.sound kept d x stamp.here Insert form x.at Stamp stamp.stamp) in
          let landed = open_section.insert_landed layout s before.sound kept d x stamp.here form (omega (arith, at)) (omega (arith, at)) in
          let is = open_section.insert_is_inserting layout s before.sound kept d x stamp.here form in
          let none = missing_is landed.node.linked landed.node.lo landed.node.hi is.missing in
          insert_answer x.thunk j n (open_section.step_as layout s before.sound kept d x stamp.here Insert form j (Answer n) h)
          ∙ new_reply pairs x.op is.key is.value is.puts none
      by (open_section.Replaces form) =
          let at = replace_stamp x.thunk x.at
          (open_section.step_as layout s before.sound kept d x stamp.here Replace form x.at Stamp stamp.stamp) in
          let landed = open_section.replace_landed layout s before.sound kept d x stamp.here form (omega (arith, at))
          (omega (arith, at)) in
          let is = open_section.replace_is_replacing layout s before.sound kept d x stamp.here form in
          replace_answer x.thunk j n
          (open_section.step_as layout s before.sound kept d x stamp.here Replace form j (Answer n) h)
          ∙ (is.reply ∙ set_reply pairs x.op is.key is.value w.value is.put
          (found_is landed.node.linked is.found ∙ ap Some (value_is is.found (ap is_del is.put))))
      by (open_section.Deletes form) =
          let at = delete_stamp x.thunk x.at (open_section.step_as layout s before.sound kept d x stamp.here Delete form x.at Stamp stamp.stamp) in
          let stands = open_section.delete_found layout s before.sound kept d x stamp.here form (omega (arith, at)) (omega (arith, at)) in
          let is = open_section.delete_is_removing layout s before.sound kept d x stamp.here form in
          delete_answer x.thunk j n (open_section.step_as layout s before.sound kept d x stamp.here Delete form j (Answer n) h)
          ∙ gone_reply x.op is.del (found_is stands.leaf_linked is.found)
        where
          gone_reply : (op : Op) → is_del op ≡ true → get pairs (key_of op) ≡ Some (now.child false (node_of w)) → 4 * 2 ^ 32 ≡ word_of (reply_of pairs op)
          gone_reply (Get key) del some = absurd (let z = del in cc)
          gone_reply (Ins key value) del some = absurd (let z = del in cc)
          gone_reply (Del key) del some = ap (λ b. word_of (if b then Gone else Absent)) (sym (there pairs key (now.child false (node_of w)) some))
          gone_reply (Put key value) del some = absurd (let z = del in cc)
          gone_reply (Mov from to) del some = absurd (let z = del in cc)

  pub turn_answers : (j n : ℕ) → IsStep tree x j (Answer n) → n ≡ word_of (reply_of pairs x.op)
  turn_answers j n h = answers j n h
