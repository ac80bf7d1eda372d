-- The law of the plain runs.
use Rattle.std.proofs.Common.{◌≡◌, ◌≢◌, ℕ, suc, ◌+◌, ◌<◌, ◌≤◌, Bool, true, false, cond, [], ◌∷◌, List, refl, sym, ap, ◌∙◌, subst, inl, inr, ⊎_elim, arith, Some, None}
use Rattle.std.specs.Prelude.{◌==◌, ◌&&◌, ◌||◌, ◌-◌, ◌^◌, ◌⊎◌, not, nat_lt, drop, slice_index}
use Rattle.std.specs.FinMap.{get}
use Rattle.std.proofs.lemmas.Bool.Decides.{nat_tests}
use Rattle.std.proofs.lemmas.Bool.{cases_eq, and_from, both_ways}
use Rattle.structure_laws.specs.table_words.specs.small_lemmas.proofs.Bools.{both_of}
use Rattle.structure_laws.specs.table_words.specs.small_lemmas.proofs.Numbers.{equal_tested as eq_true, other_tested as eq_false}
use Rattle.structure_laws.specs.map_history.specs.declared.op.Op.{Op}
use Rattle.structure_laws.specs.map_history.specs.declared.op.Op.TheVariants.{Del}
use Rattle.structure_laws.specs.map_history.specs.Keys.{key_of}
use Rattle.structure_laws.specs.map_history.specs.Replay.{Pairs, map_after}
use Rattle.structure_laws.specs.body_terms.specs.Update.{upd}
use Rattle.structure_laws.specs.body_terms.specs.Word.{value_of, next_word, is_free}
use Rattle.structure_laws.specs.body_terms.specs.Memory.{PlainMemory, cell_of}
use Rattle.tree_laws.specs.node_laws.proofs.Forms.{put_puts, reply_is, new_reply}
use Rattle.tree_laws.specs.section_body.specs.Bucket.{operand, is_small}
use Rattle.structure_laws.specs.body_terms.specs.Run.{exchanged}
use Rattle.structure_laws.specs.body_terms.specs.Plain.{plain_setting, plain_run}
use Rattle.structure_laws.specs.body_terms.specs.declared.outcome.Outcome.TheVariants.{Answered}
use Rattle.structure_laws.specs.body_terms.specs.declared.step.Step.{Step}
use Rattle.structure_laws.specs.body_terms.specs.declared.thunk.Thunk.{Thunk}
use Rattle.structure_laws.specs.Scene.{Cells}
use Rattle.structure_laws.specs.Sections.{IsAllowed}
use Rattle.structure_laws.proofs.Changes.{upd_same, upd_other, value-next_word, value_small, equal_of}
use Rattle.tree_laws.specs.bucket_laws.specs.Walk.{is_del}
use Rattle.tree_laws.specs.bucket_laws.proofs.Fit.{PutsIn, puts_given}
use Rattle.tree_laws.specs.bucket_laws.proofs.Maps.{insert_map, remove_map, remove_reply, set_map, set_reply}
use Rattle.plain_laws.specs.Runs.{cells_of}
use Rattle.tree_laws.specs.tree_bodies.specs.Tree.{lock_of, key_cell, left_of, right_of, mark_of, child_of, slot_in}
use Rattle.tree_laws.specs.tree_bodies.specs.Tree.{body_of}
use Rattle.tree_laws.specs.tree_bodies.specs.Tree.{tree_steps, look_steps, delete_steps, replace_steps, parent_in}
use Rattle.tree_laws.specs.tree_bodies.specs.Tree.{leaf_in}
use Rattle.tree_laws.specs.tree_bodies.specs.Tree.{sibling_of, is_left, is_right, names_removed, fits_delete}
use Rattle.tree_laws.specs.Search.{Nodes, Covers, IsInner, IsLeaf, SearchTree, HasSentinels, Contents, with_child}
use Rattle.tree_laws.specs.Search.{IsRemoval}
use Rattle.tree_laws.specs.Search.{RemovalKeeps, removed, AreOrdered, IsInsertion, InsertionKeeps, thrice, inserted}
use Rattle.tree_laws.specs.Search.{IsReplacement, ReplacementKeeps, replaced}
use Rattle.tree_laws.specs.Walk.{Walk, Step as Link, start, node_of, step_place, walk, form_for, reply_for}
use Rattle.tree_laws.specs.Walk.{operands_for}
use Rattle.tree_laws.specs.Walk.{look_operands, insert_operands, delete_operands, lock_for}
use Rattle.tree_laws.specs.Leaves.{nodes, TreeStands}
use Rattle.tree_laws.specs.Landing.{IsOnPath}
use Rattle.tree_laws.proofs.Alike.{AreAlike, tree_alike, sentinels_alike, contents_alike, contents_same}
use Rattle.tree_laws.proofs.Apart.{key_apart, mark_apart, key_no_mark, child_no_mark, mark_other}
use Rattle.tree_laws.proofs.Changed.{changed_alike, other_child, changed_sentinels}
use Rattle.tree_laws.proofs.Fit.{IsFit, fit_of, look_numbers, is_look, is_insert, is_delete, is_replace, cases}
use Rattle.tree_laws.proofs.Fit.{Inserts, inserts, deletes, Replaces, replaces, look_outer, insert_outer}
use Rattle.tree_laws.proofs.Fit.{replace_outer}
use Rattle.tree_laws.proofs.Found.{walk_keyed, value_read}
use Rattle.tree_laws.proofs.Insertion.{insertion_keeps}
use Rattle.tree_laws.proofs.Removal.{removal_keeps}
use Rattle.tree_laws.proofs.Replacement as replacement
use Rattle.tree_laws.proofs.Turn.{none_is}
use Rattle.tree_laws.proofs.WalkReads.{is_past, is_late, is_marked, is_locked, IsAmong, Reads, walk_reads}
use Rattle.plain_laws.specs.TreeRuns.{HasContents, IsWalked, IsUnspent, IsOut, AreOut, DoesTheOperation}
use Rattle.plain_laws.specs.TreeRuns.{RunsDoTheOperations}
use Rattle.plain_laws.proofs.Walks.{IsLink, Ended, walk_ends}
use Rattle.plain_laws.proofs.Forms.{small_is, exchange_writes, is_got}
use Rattle.plain_laws.proofs.TreeForms.{Passes, leaf_values, inner_values, inner_for, insert_with, inserted_cells}
use Rattle.plain_laws.proofs.TreeForms.{removed_cells, replaced_cells, look_run, insert_run, delete_run, replace_run}
use Rattle.plain_laws.proofs.Filled.{filled, filled_inner, filled_leaf, filled_other, one_other, value_words, valued_slot, slot_value}
use Rattle.plain_laws.proofs.Unchanged.{unchanged}

some_is : (n : ℕ) → 0 < n → nat_lt 0 n ≡ true
some_is n low = grind (arith, nat_tests)

-- one value of a function that is true changes to true
upd_true : (f : ℕ → Bool) (x u : ℕ) → f u ≡ true → upd f x true u ≡ true
upd_true f x u e = ⊎_elim (λ same. upd_same f x u true same) (λ ne. upd_other f x u true ne ∙ e) (cases_eq u x)

thrice_true : (f : ℕ → Bool) (x y z u : ℕ) → f u ≡ true → thrice f x true y true z true u ≡ true
thrice_true f x y z u e = upd_true (upd (upd f x true) y true) z u (upd_true (upd f x true) y u (upd_true f x u e))

thrice_cases : (f : ℕ → Bool) (x y z u : ℕ) → thrice f x true y true z true u ≡ true → (u ≡ z) ⊎ ((u ≡ y) ⊎ ((u ≡ x) ⊎ (f u ≡ true)))
thrice_cases f x y z u e = ⊎_elim (λ same. inl same)
    (λ ne. ⊎_elim (λ same. inr (inl same))
    (λ ne'. ⊎_elim (λ same. inr (inr (inl same)))
    (λ ne''. inr (inr (inr (sym (upd_other (upd (upd f x true) y true) z u true ne ∙ (upd_other (upd f x true) y u true ne' ∙ upd_other f x u true ne'')) ∙ e))))
    (cases_eq u x)) (cases_eq u y)) (cases_eq u z)

unfixed : (n : ℕ) → (n ≡ 0 → ⊥) → (n ≡ 1 → ⊥) → (n ≡ 2 → ⊥) → 3 ≤ n
unfixed n zero one two = search arith

module _ (slots request : ℕ) (memory : PlainMemory) (pairs : Pairs) (op : Op) (thunk : Thunk) (contents : HasContents slots memory pairs) (allowed : IsAllowed op) (walked : IsWalked memory op thunk)
    (unspent : IsUnspent memory thunk) where
  abbrev cells : Cells
  cells = cells_of memory

  abbrev stands : TreeStands slots cells pairs
  stands = contents.stands

  abbrev n : Nodes
  n = nodes cells

  abbrev c : Covers
  c = stands.covers

  abbrev key : ℕ
  key = key_of op

  abbrev w : Walk
  w = walk walked.bounds op start walked.readings

  abbrev l : ℕ
  l = node_of w

  abbrev Does : List Step → Type 0
  Does body = DoesTheOperation slots pairs op (plain_run body request memory (true ∷ []))

  low : key ≤ 4294967293
  low = allowed.keys key (inl refl)

  fit : IsFit op w thunk
  fit = fit_of op w thunk walked.fits

  reads : Reads walked.readings walked.bounds op w
  reads = walk_reads walked.readings walked.bounds op

  past : is_past w.stage ≡ true
  past = ap is_past fit.stage

  ended : Ended slots cells pairs stands walked.bounds op low w.last w.grand w.deep w.key
  ended = walk_ends slots cells pairs stands walked.bounds op low walked.readings walked.read fit.stage

  at : IsOnPath c key l
  at = ended.trail.node

  leaf_is : IsLeaf n l
  leaf_is = ended.leaf

  stood : (p word : ℕ) → IsAmong walked.readings p word → cells p ≡ word
  stood p word among = walked.read among.0 p word among.1

  some : 0 < value_of w.last.word
  some = reads.some past

  link_is : value_of w.last.word ≡ suc l
  link_is = let s = some in omega (arith, s)

  link_there : cells (step_place w.last) ≡ w.last.word
  link_there = stood (step_place w.last) w.last.word (reads.last_read past)

  link_leads : n.child w.last.side w.last.from ≡ suc l
  link_leads = ap value_of link_there ∙ link_is

  keyed : w.found ≡ (w.key == key)
  keyed = walk_keyed walked.bounds op walked.readings (ap is_late fit.stage)

  key_there : w.found ≡ true → n.key l ≡ key
  key_there hit = ended.keyed ∙ equal_of w.key key (sym keyed ∙ hit)

  real : w.found ≡ true → 3 ≤ l
  real hit = unfixed l
      (λ zero. let inner = stands.tree.root_inner in let leaf = subst (IsLeaf n) zero leaf_is in omega (arith, inner, leaf))
      (λ one. let k = ap n.key one ∙ stands.sentinels.first_key in let mine = key_there hit in let small = low in omega (arith, k, mine, small))
      (λ two. let k = ap n.key two ∙ stands.sentinels.last_key in let mine = key_there hit in let small = low in omega (arith, k, mine, small))

  found_is : w.found ≡ true → get pairs key ≡ Some (n.child false l)
  found_is hit = ap (get pairs) (sym (key_there hit)) ∙ stands.contents.pair l at.linked leaf_is (real hit)

  missing_is : w.found ≡ false → get pairs key ≡ None
  missing_is missed = none_is (get pairs key) (λ v h.
      let m = stands.contents.leaf key v h in
      let inside = stands.tree.leaf_key m.0 m.1 m.2 in
      ⊎_elim
      (λ same. absurd (both_ways _ (sym keyed ∙ missed) (eq_true w.key key (sym ended.keyed ∙ (ap n.key (sym same) ∙ m.4)))))
      (λ ne. let k = m.4 in let from = inside.0 in let to = inside.1 in let lo = at.lo in let hi = at.hi in ⊎_elim
      (λ below. omega (arith, below, k, from, to, lo, hi))
      (λ below. omega (arith, below, k, from, to, lo, hi))
      (stands.tree.leaves m.0 l m.1 at.linked m.2 leaf_is ne))
      (cases_eq m.0 l))

  value_is : w.found ≡ true → is_del op ≡ false → n.child false l ≡ w.value
  value_is hit del = let loaded = value_read walked.readings walked.bounds op fit.stage del hit in
      ap value_of (stood (right_of l) loaded.1 (loaded.0, loaded.2)) ∙ loaded.3

  number_at : (k : ℕ) {numbers : List ℕ} → operands_for op w w.found ≡ numbers → operand thunk k ≡ slice_index numbers k
  number_at k e = ap (λ numbers. slice_index numbers k) (fit.operands ∙ e)

  -- a linked node's cells have places
  place_low : (t cell : ℕ) → c.linked t ≡ true → cell < 5 → cell_of 0 t cell < 2 ^ 32
  place_low t cell on few = let within = stands.within t on in let room = contents.room in let places = contents.places in omega (arith, within, room, places, few)

  parent_on : c.linked w.last.from ≡ true
  parent_on = ended.trail.link.linked

  parent_inner : IsInner n w.last.from
  parent_inner = ended.trail.link.inner

  step_low : (step : Link) → c.linked step.from ≡ true → step_place step < 2 ^ 32
  step_low step on = by step.side
    where
      by : (side : Bool) → child_of side step.from < 2 ^ 32
      by true = place_low step.from 2 on (omega arith)
      by false = place_low step.from 3 on (omega arith)

  no_leaf : (t : ℕ) → IsLeaf n t → IsInner n t → ⊥
  no_leaf t leaf inner = omega (arith, leaf, inner)

  -- what a body that doesn't remove wants
  module _ (link : operand thunk 0 ≡ step_place w.last) (word : operand thunk 1 ≡ w.last.word) (mark : operand thunk 2 ≡ w.mark) (lock : thunk.lock ≡ lock_of w.last.from) where
    link_wanted : cells (operand thunk 0) ≡ operand thunk 1
    link_wanted = ap cells link ∙ (link_there ∙ sym word)

    mark_wanted : cells (thunk.lock + 4) ≡ operand thunk 2
    mark_wanted = ap cells (place thunk.lock w.last.from lock) ∙ (stood (mark_of w.last.from) w.mark (reads.mark_read fit.stage) ∙ sym mark)
      where
        place : (p t : ℕ) → p ≡ lock_of t → p + 4 ≡ mark_of t
        place p t e = omega (arith, e)

    lock_small : is_small (thunk.lock + 4) ≡ true
    lock_small = small_is (thunk.lock + 4) (let high = place_low w.last.from 4 parent_on (omega arith) in let e = lock in omega (arith, high, e))

    link_small : is_small (operand thunk 0) ≡ true
    link_small = small_is (operand thunk 0) (subst (λ p. p < 2 ^ 32) (sym link) (step_low w.last parent_on))

  -- the outer lock of a body that doesn't remove
  outer_lock : (is_del op && w.found) ≡ false → thunk.lock ≡ lock_of w.last.from
  outer_lock stays = fit.lock ∙ ap (λ b. cond b (lock_of w.grand.from) (lock_of w.last.from)) stays

  -- a node slot has a link, and its cells have places
  few : (s : ℕ) → s < slots → suc s < 2 ^ 32
  few s within = let room = contents.room in let places = contents.places in omega (arith, within, room, places)

  small_value : (v : ℕ) → v < 2 ^ 32 → value_of v ≡ v
  small_value v small = omega (arith, small)

  link_of : (s : ℕ) → s < slots → value_of (s + 1) ≡ suc s
  link_of s within = small_value (s + 1) (let less = few s within in omega (arith, less))
      ∙ (let z : s + 1 ≡ suc s = omega arith in z)

  own_place : (s cell : ℕ) → cell_of 0 s cell ≡ cell_of memory.fixed_cells s cell
  own_place s cell = ap (λ fixed. cell_of fixed s cell) (sym contents.fixed)

  -- the numbers of a new leaf
  key_small : (k v : ℕ) → PutsIn op k v → operand thunk 3 ≡ k → operand thunk 3 < 2 ^ 32
  key_small k v puts e = let same = puts.0 in let small = low in omega (arith, e, same, small)

  value_low : (k v : ℕ) → PutsIn op k v → operand thunk 4 ≡ v → operand thunk 4 < 2 ^ 32
  value_low k v puts e = let small = allowed.value v (puts_given op k v puts) in omega (arith, e, small)

  -- the root's right link stands
  not_root : false ≡ w.last.side → 0 ≡ w.last.from → ⊥
  not_root right zero = let k = ended.trail.link.right (sym right) in
      let root = ap n.key (sym zero) ∙ stands.sentinels.root_key in let small = low in omega (arith, k, root, small)

  -- one that changes nothing
  module _ (form : form_for op w.found ≡ 11) where
    look : operands_for op w w.found ≡ look_operands w (reply_for op w w.found)
    look = look_numbers op w w.found form

    look_lock : thunk.lock ≡ lock_of w.last.from
    look_lock = outer_lock (look_outer op w.found form)

    look_case : Does (tree_steps thunk)
    look_case =
        let fits = and_from (is_small (thunk.lock + 4)) (is_small (operand thunk 0)) (lock_small (number_at 0 look) (number_at 1 look) (number_at 2 look) look_lock) (link_small (number_at 0 look) (number_at 1 look) (number_at 2 look) look_lock) in
        let ends = look_run (plain_setting (look_steps thunk) (true ∷ []) memory) cells memory.clock (slice_index memory.stamps request) (slice_index memory.replies request) thunk
        (link_wanted (number_at 0 look) (number_at 1 look) (number_at 2 look) look_lock) (mark_wanted (number_at 0 look) (number_at 1 look) (number_at 2 look) look_lock) in
        subst Does (sym (ap (λ f. body_of f thunk) (is_look thunk (fit.form ∙ form) fits))) (record {
          answer = ends.answered ∙ ap (λ m. Some (Answered m))
              (number_at 3 look ∙ reply_is pairs 11 op w.value w.found (omega arith) form
              (λ hit. (n.child false l, found_is hit, λ del. value_is hit del)) missing_is);
          contents = subst (λ f. TreeStands slots f (map_after pairs op)) (sym ends.left) (record {
            covers = c;
            within = stands.within;
            tree = stands.tree;
            sentinels = stands.sentinels;
            unmarked = stands.unmarked;
            contents = contents_same n c (get pairs) (get (map_after pairs op)) stands.contents (unchanged 11 pairs op w.found (omega arith) form (λ hit. (n.child false l, found_is hit)) missing_is);
          });
        })

  -- a leaf put in
  module _ (form : form_for op w.found ≡ 12) (free : AreOut slots memory pairs contents) where
    is : Inserts op w w.found
    is = inserts op w w.found form

    numbers : operands_for op w w.found ≡ insert_operands w is.key is.value
    numbers = is.numbers

    insert_lock : thunk.lock ≡ lock_of w.last.from
    insert_lock = outer_lock (insert_outer op w.found form)

    key_is : is.key ≡ key
    key_is = sym is.puts.0

    abbrev f : ℕ
    f = slice_index memory.free 0

    abbrev t : ℕ
    t = slice_index (drop 1 memory.free) 0

    abbrev h : Bool
    h = nat_lt (operand thunk 3) (operand thunk 5)

    abbrev side : Bool
    side = w.last.side

    abbrev a : ℕ
    a = w.last.from

    -- the cells with and_from nodes
    abbrev leaf_word : ℕ → ℕ
    leaf_word cell = next_word (cells (cell_of memory.fixed_cells f cell)) (slice_index (leaf_values thunk) cell)

    abbrev inner_word : ℕ → ℕ
    inner_word cell = next_word (cells (cell_of memory.fixed_cells t cell)) (slice_index (inner_values h thunk (value_of (f + 1))) cell)

    abbrev both_made : Cells
    both_made = filled cells memory.fixed_cells f t leaf_word inner_word free.differ

    abbrev made : Nodes
    made = nodes both_made

    leaf_cell : (cell v : ℕ) → cell < 5 → slice_index (leaf_values thunk) cell ≡ v → v < 2 ^ 32 → value_of (both_made (cell_of 0 f cell)) ≡ v
    leaf_cell cell v low is_v small = ap (λ p. value_of (both_made p)) (own_place f cell) ∙ (ap value_of (filled_leaf cells memory.fixed_cells f t leaf_word inner_word free.differ cell low)
        ∙ (ap (λ u. value_of (next_word (cells (cell_of memory.fixed_cells f cell)) u)) is_v ∙ value-next_word (cells (cell_of memory.fixed_cells f cell)) v small))

    inner_cell : (cell v : ℕ) → cell < 5 → slice_index (inner_values h thunk (value_of (f + 1))) cell ≡ v → v < 2 ^ 32 → value_of (both_made (cell_of 0 t cell)) ≡ v
    inner_cell cell v low is_v small = ap (λ p. value_of (both_made p)) (own_place t cell) ∙ (ap value_of (filled_inner cells memory.fixed_cells f t leaf_word inner_word free.differ cell low)
        ∙ (ap (λ u. value_of (next_word (cells (cell_of memory.fixed_cells t cell)) u)) is_v ∙ value-next_word (cells (cell_of memory.fixed_cells t cell)) v small))

    other_cell : (s cell : ℕ) → cell < 5 → s ≢ f → s ≢ t → both_made (cell_of 0 s cell) ≡ cells (cell_of 0 s cell)
    other_cell s cell low ne ne' = ap both_made (own_place s cell) ∙ (filled_other cells memory.fixed_cells f t leaf_word inner_word free.differ s cell low ne ne' ∙ ap cells (sym (own_place s cell)))

    not_leaf_slot : (s : ℕ) → c.linked s ≡ true → s ≢ f
    not_leaf_slot s on e = absurd (both_ways _ (ap c.linked e ∙ free.leaf_out) on)

    not_inner_slot : (s : ℕ) → c.linked s ≡ true → s ≢ t
    not_inner_slot s on e = absurd (both_ways _ (ap c.linked e ∙ free.inner_out) on)

    linked_cell : (s cell : ℕ) → cell < 5 → c.linked s ≡ true → both_made (cell_of 0 s cell) ≡ cells (cell_of 0 s cell)
    linked_cell s cell low on = other_cell s cell low (not_leaf_slot s on) (not_inner_slot s on)

    linked_child : (b : Bool) (s : ℕ) → c.linked s ≡ true → both_made (child_of b s) ≡ cells (child_of b s)
    linked_child true s on = linked_cell s 2 (omega arith) on
    linked_child false s on = linked_cell s 3 (omega arith) on

    made_alike : AreAlike n made c
    made_alike = record { key = λ s on. ap value_of (linked_cell s 1 (omega arith) on); child = λ b s on. ap value_of (linked_child b s on) }

    made_tree : SearchTree made c
    made_tree = tree_alike n made c made_alike stands.tree

    made_sentinels : HasSentinels made c
    made_sentinels = sentinels_alike n made c made_alike stands.tree stands.sentinels

    made_contents : Contents made c (get pairs)
    made_contents = contents_alike n made c made_alike (get pairs) stands.contents

    -- the new nodes
    new_key_small : operand thunk 3 < 2 ^ 32
    new_key_small = key_small is.key is.value is.puts (number_at 3 numbers)

    new_value_low : operand thunk 4 < 2 ^ 32
    new_value_low = value_low is.key is.value is.puts (number_at 4 numbers)

    old_small : operand thunk 5 < 2 ^ 32
    old_small = let e = number_at 5 numbers in let k = reads.key_small in omega (arith, e, k)

    leaf_key : made.key f ≡ operand thunk 3
    leaf_key = leaf_cell 1 (operand thunk 3) (omega arith) refl new_key_small

    leaf_left : IsLeaf made f
    leaf_left = leaf_cell 2 0 (omega arith) refl (omega arith)

    leaf_value : made.child false f ≡ operand thunk 4
    leaf_value = leaf_cell 3 (operand thunk 4) (omega arith) refl new_value_low

    leaf_link : value_of (f + 1) ≡ suc f
    leaf_link = link_of f free.leaf_within

    old_link_value : value_of (operand thunk 1) ≡ suc l
    old_link_value = ap value_of (number_at 1 numbers) ∙ link_is

    inner_facts : (b : Bool) → h ≡ b → (made.key t ≡ cond b (operand thunk 5) (operand thunk 3)) × (made.child b t ≡ suc f) × (made.child (not b) t ≡ suc l)
    inner_facts true e = (
      inner_cell 1 (operand thunk 5) (omega arith) (ap (λ b. slice_index (inner_values b thunk (value_of (f + 1))) 1) e) old_small,
      inner_cell 2 (value_of (f + 1)) (omega arith) (ap (λ b. slice_index (inner_values b thunk (value_of (f + 1))) 2) e) (value_small (f + 1)) ∙ leaf_link,
      inner_cell 3 (value_of (operand thunk 1)) (omega arith) (ap (λ b. slice_index (inner_values b thunk (value_of (f + 1))) 3) e) (value_small (operand thunk 1)) ∙ old_link_value,
    )
    inner_facts false e = (
      inner_cell 1 (operand thunk 3) (omega arith) (ap (λ b. slice_index (inner_values b thunk (value_of
          (f + 1))) 1) e) new_key_small,
      inner_cell 3 (value_of (f + 1)) (omega arith) (ap (λ b. slice_index (inner_values b thunk (value_of (f + 1))) 3) e) (value_small (f + 1)) ∙ leaf_link,
      inner_cell 2 (value_of (operand thunk 1)) (omega arith) (ap (λ b. slice_index (inner_values b thunk (value_of (f + 1))) 2) e) (value_small (operand thunk 1)) ∙ old_link_value,
    )

    inner_mark : made.mark t ≡ 0
    inner_mark = by h refl
      where
        by : (b : Bool) → h ≡ b → made.mark t ≡ 0
        by true e = inner_cell 4 0 (omega arith) (ap (λ b. slice_index (inner_values b thunk (value_of (f + 1))) 4) e) (omega arith)
        by false e = inner_cell 4 0 (omega arith) (ap (λ b. slice_index (inner_values b thunk (value_of (f + 1))) 4) e) (omega arith)

    new_key : made.key f ≡ key
    new_key = leaf_key ∙ (number_at 3 numbers ∙ key_is)

    old_key : made.key l ≡ operand thunk 5
    old_key = made_alike.key l at.linked ∙ (ended.keyed ∙ sym (number_at 5 numbers))

    keys_differ : operand thunk 3 ≢ operand thunk 5
    keys_differ same = absurd (both_ways _ (sym keyed ∙ is.missing) (eq_true w.key key (sym (number_at 5 numbers) ∙
        (sym same ∙ (number_at 3 numbers ∙ key_is)))))

    insertion : IsInsertion made c side h a l t f
    insertion = record {
      above = parent_on;
      above_inner = subst (λ v. 0 < v) (sym (made_alike.child true a parent_on)) parent_inner;
      old = made_alike.child side a parent_on ∙ link_leads;
      old_leaf = made_alike.child true l at.linked ∙ leaf_is;
      inner_out = free.inner_out;
      leaf_out = free.leaf_out;
      differ = free.differ;
      new_side = (inner_facts h refl).1;
      old_side = (inner_facts h refl).2;
      new_leaf = leaf_left;
      from = subst (λ k. c.lo l ≤ k) (sym new_key) at.lo;
      before = subst (λ k. k < c.hi l) (sym new_key) at.hi;
      ordered = ordered h refl;
    }
      where
        low_of : (n k : ℕ) → nat_lt n k ≡ true → n < k
        low_of n k e = grind arith

        high_of : (n k : ℕ) → nat_lt n k ≡ false → n ≢ k → k < n
        high_of n k e ne = grind arith

        ordered : (b : Bool) → h ≡ b → AreOrdered b (made.key t) (made.key l) (made.key f)
        ordered true e = (let less = low_of (operand thunk 3) (operand thunk 5) e in let new = leaf_key in let old = old_key in omega (arith, less, new, old), (inner_facts true e).0 ∙ sym old_key)
        ordered false e = (let less = high_of (operand thunk 3) (operand thunk 5) e keys_differ in let new = leaf_key in let old = old_key in omega (arith, less, new, old), (inner_facts false e).0 ∙ sym leaf_key)

    kept : InsertionKeeps made c side h a l t f
    kept = insertion_keeps made c side h a l t f made_tree insertion

    abbrev then_covers : Covers
    then_covers = inserted made c h a l t f

    -- the cells after the Store
    abbrev link_word : ℕ
    link_word = next_word (cells (operand thunk 0)) (value_of (t + 1))

    abbrev after : Cells
    after = upd both_made (child_of side a) link_word

    same_cell : (p : ℕ) → p ≢ child_of side a → after p ≡ both_made p
    same_cell p ne = upd_other both_made (child_of side a) p link_word ne

    stored : value_of (after (child_of side a)) ≡ suc t
    stored = ap value_of (upd_same both_made (child_of side a) (child_of side a) link_word refl) ∙ (value-next_word (cells (operand thunk 0)) (value_of (t + 1)) (value_small (t + 1))
        ∙ link_of t free.inner_within)

    then_alike : AreAlike (with_child made side a (suc t)) (nodes after) then_covers
    then_alike = changed_alike both_made after side a (suc t) (λ s. same_cell (key_cell s) (key_apart side s a)) (λ b s ne. same_cell (child_of b s) ne) stored then_covers

    then_child : (b : Bool) (s : ℕ) → (b ≡ side → s ≢ a) → (nodes after).child b s ≡ made.child b s
    then_child = other_child both_made after side a (suc t) (λ s. same_cell (key_cell s) (key_apart side s a)) (λ b s ne. same_cell (child_of b s) ne) stored

    leaf_real : 3 ≤ f
    leaf_real = unfixed f
        (λ e. absurd (both_ways _ (ap c.linked (sym e) ∙ free.leaf_out) (stands.tree.root)))
        (λ e. absurd (both_ways _ (ap c.linked (sym e) ∙ free.leaf_out) (stands.sentinels.first)))
        (λ e. absurd (both_ways _ (ap c.linked (sym e) ∙ free.leaf_out) (stands.sentinels.last)))

    leaf_stays : (s : ℕ) → IsLeaf made s → IsInner (nodes after) s → ⊥
    leaf_stays s leaf inner = no_inner s leaf (subst (λ v. 0 < v) (then_child true s (λ e same. not_above s leaf same)) inner)
      where
        no_inner : (s : ℕ) → IsLeaf made s → IsInner made s → ⊥
        no_inner s leaf inner = omega (arith, leaf, inner)

        not_above : (s : ℕ) → IsLeaf made s → s ≡ a → ⊥
        not_above s leaf same = no_inner a (subst (IsLeaf made) same leaf) insertion.above_inner

    was_inner : (s : ℕ) → c.linked s ≡ true → IsInner (nodes after) s → IsInner n s
    was_inner s on inner = ⊎_elim (λ e. subst (IsInner n) (sym e) parent_inner)
        (λ ne. subst (λ v. 0 < v) (then_child true s (λ e. ne) ∙ made_alike.child true s on) inner) (cases_eq s a)

    insert_stands : TreeStands slots after (map_after pairs op)
    insert_stands = record {
      covers = then_covers;
      within = λ s on. ⊎_elim (λ e. subst (λ k. k < slots) (sym e) free.inner_within)
          (⊎_elim (λ e. subst (λ k. k < slots) (sym e) (stands.within l at.linked))
          (⊎_elim (λ e. subst (λ k. k < slots) (sym e) free.leaf_within) (λ was. stands.within s was)))
          (thrice_cases c.linked f l t s on);
      tree = tree_alike (with_child made side a (suc t)) (nodes after) then_covers then_alike kept.tree;
      sentinels = changed_sentinels both_made after side a (suc t) (λ s. same_cell (key_cell s) (key_apart side s a)) (λ b s ne. same_cell (child_of b s) ne) stored insertion.above_inner (omega arith)
          c then_covers made_sentinels (thrice_true c.linked f l t 1 stands.sentinels.first) (thrice_true c.linked f l t 2 stands.sentinels.last) not_root;
      unmarked = λ s on inner. ap value_of (same_cell (mark_of s) (mark_apart side s a)) ∙ ⊎_elim
          (λ e. ap made.mark e ∙ inner_mark)
          (⊎_elim (λ e. absurd (leaf_stays s (subst (IsLeaf made) (sym e) insertion.old_leaf) inner))
          (⊎_elim (λ e. absurd (leaf_stays s (subst (IsLeaf made) (sym e) leaf_left) inner))
          (λ was. ap value_of (linked_cell s 4 (omega arith) was) ∙ stands.unmarked s was (was_inner s was inner))))
          (thrice_cases c.linked f l t s on);
      contents = contents_same (nodes after) then_covers (upd (get pairs) (made.key f) (Some (made.child false f))) (get (map_after pairs op))
          (contents_alike (with_child made side a (suc t)) (nodes after) then_covers then_alike (upd (get pairs) (made.key f) (Some (made.child false f))) (kept.contents (get pairs) leaf_real made_contents))
          (λ q. (λ i. upd (get pairs) ((leaf_key ∙ number_at 3 numbers) i) (Some ((leaf_value ∙ number_at 4 numbers) i)) q)
          ∙ insert_map pairs op is.key is.value is.puts (ap (get pairs) key_is ∙ missing_is is.missing) q);
    }

    inner_same : (b : Bool) → cond b (inner_for true thunk) (inner_for false thunk) ≡ inner_for b thunk
    inner_same true = refl
    inner_same false = refl

    insert_case : Does (tree_steps thunk)
    insert_case =
        let place = number_at 0 numbers in let word = number_at 1 numbers in let mark = number_at 2 numbers in
        let fits = and_from (is_small (thunk.lock + 4)) _ (lock_small place word mark insert_lock) (and_from (is_small (operand thunk 0)) _ (link_small place word mark insert_lock)
        (and_from (is_small (operand thunk 3)) _ (small_is (operand thunk 3) new_key_small) (and_from (is_small
        (operand thunk 4)) (is_small (operand thunk 5)) (small_is (operand thunk 4) new_value_low) (small_is
        (operand thunk 5) old_small)))) in
        let setting = plain_setting (insert_with thunk (inner_for h thunk)) (true ∷ []) memory in
        let ends = insert_run setting cells memory.clock (slice_index memory.stamps request) (slice_index memory.replies request) thunk h
        (link_wanted place word mark insert_lock) (mark_wanted place word mark insert_lock) (unspent.link (λ e. let form' = fit.form ∙ form in omega (arith, e, form'))) in
        let written : inserted_cells setting cells memory.clock (slice_index memory.stamps request) (slice_index memory.replies request) thunk h ≡ after =
        exchange_writes both_made (operand thunk 0) (cells (operand thunk 0)) link_word (ap both_made place ∙ (linked_child side a parent_on ∙ ap cells (sym place))) ∙ ap (λ p. upd both_made p link_word) place in
        subst Does (sym (ap (λ f. body_of f thunk) (is_insert thunk (fit.form ∙ form) fits) ∙ ap (insert_with thunk) (inner_same h))) (record {
          answer = ends.answered ∙ ap (λ m. Some (Answered m)) (new_reply pairs op is.key is.value is.puts
              (missing_is is.missing));
          contents = subst (λ g. TreeStands slots g (map_after pairs op)) (sym (ends.left ∙ written)) insert_stands;
        })

  -- a leaf put in the place of another
  module _ (form : form_for op w.found ≡ 14) (free : IsOut slots memory pairs contents) where
    put : Replaces op w w.found
    put = replaces op w w.found form

    gives : PutsIn op put.key put.value
    gives = put_puts op put.key put.value put.put

    replace_lock : thunk.lock ≡ lock_of w.last.from
    replace_lock = outer_lock (replace_outer op w.found form)

    abbrev new : ℕ
    new = slice_index memory.free 0

    abbrev above : ℕ
    above = w.last.from

    abbrev below : Bool
    below = w.last.side

    -- the cells with the new leaf
    abbrev new_word : ℕ → ℕ
    new_word = value_words cells memory.fixed_cells new (leaf_values thunk)

    abbrev one_made : Cells
    one_made = valued_slot cells memory.fixed_cells new (leaf_values thunk)

    abbrev then_made : Nodes
    then_made = nodes one_made

    new_cell : (cell v : ℕ) → cell < 5 → slice_index (leaf_values thunk) cell ≡ v → v < 2 ^ 32
        → value_of (one_made (cell_of 0 new cell)) ≡ v
    new_cell cell v few is_v small = ap (λ p. value_of (one_made p)) (own_place new cell)
        ∙ slot_value cells memory.fixed_cells new (leaf_values thunk) cell v few is_v small

    not_new : (s : ℕ) → c.linked s ≡ true → s ≢ new
    not_new s on e = absurd (both_ways _ (ap c.linked e ∙ free.out) on)

    old_cell : (s cell : ℕ) → cell < 5 → c.linked s ≡ true → one_made (cell_of 0 s cell) ≡ cells (cell_of 0 s cell)
    old_cell s cell few on = ap one_made (own_place s cell)
        ∙ (one_other cells memory.fixed_cells new new_word s cell few (not_new s on) ∙ ap cells (sym
        (own_place s cell)))

    old_child : (b : Bool) (s : ℕ) → c.linked s ≡ true → one_made (child_of b s) ≡ cells (child_of b s)
    old_child true s on = old_cell s 2 (omega arith) on
    old_child false s on = old_cell s 3 (omega arith) on

    one_alike : AreAlike n then_made c
    one_alike = record {
      key = λ s on. ap value_of (old_cell s 1 (omega arith) on);
      child = λ b s on. ap value_of (old_child b s on);
    }

    own_key : then_made.key new ≡ key
    own_key = new_cell 1 (operand thunk 3) (omega arith) refl
        (key_small put.key put.value gives (number_at 3 put.numbers)) ∙ (number_at 3 put.numbers ∙ sym gives.0)

    own_left : IsLeaf then_made new
    own_left = new_cell 2 0 (omega arith) refl (omega arith)

    own_value : then_made.child false new ≡ put.value
    own_value = new_cell 3 (operand thunk 4) (omega arith) refl
        (value_low put.key put.value gives (number_at 4 put.numbers)) ∙ number_at 4 put.numbers

    replaces_it : IsReplacement then_made c below above l new
    replaces_it = record {
      above = parent_on;
      above_inner = subst (λ v. 0 < v) (sym (one_alike.child true above parent_on)) parent_inner;
      old = one_alike.child below above parent_on ∙ link_leads;
      old_leaf = one_alike.child true l at.linked ∙ leaf_is;
      leaf_out = free.out;
      new_leaf = own_left;
      same_key = own_key ∙ (sym (key_there put.hit) ∙ sym (one_alike.key l at.linked));
    }

    one_tree : SearchTree then_made c
    one_tree = tree_alike n then_made c one_alike stands.tree

    replaced_kept : ReplacementKeeps then_made c below above l new
    replaced_kept = replacement.replacement_keeps then_made c below above l new one_tree replaces_it

    abbrev new_covers : Covers
    new_covers = replaced c above l new

    -- the cells after the Store
    abbrev link_to_new : ℕ
    link_to_new = next_word (cells (operand thunk 0)) (value_of (new + 1))

    abbrev with_new : Cells
    with_new = upd one_made (child_of below above) link_to_new

    as_made : (p : ℕ) → p ≢ child_of below above → with_new p ≡ one_made p
    as_made p ne = upd_other one_made (child_of below above) p link_to_new ne

    new_stored : value_of (with_new (child_of below above)) ≡ suc new
    new_stored = ap value_of (upd_same one_made (child_of below above) (child_of below above) link_to_new refl)
        ∙ (value-next_word (cells (operand thunk 0)) (value_of (new + 1)) (value_small (new + 1))
        ∙ link_of new free.within)

    new_keys : (s : ℕ) → with_new (key_cell s) ≡ one_made (key_cell s)
    new_keys s = as_made (key_cell s) (key_apart below s above)

    new_links : (b : Bool) (s : ℕ) → child_of b s ≢ child_of below above → with_new (child_of b s) ≡ one_made
        (child_of b s)
    new_links b s ne = as_made (child_of b s) ne

    new_alike : AreAlike (with_child then_made below above (suc new)) (nodes with_new) new_covers
    new_alike = changed_alike one_made with_new below above (suc new) new_keys new_links new_stored new_covers

    new_child : (b : Bool) (s : ℕ) → (b ≡ below → s ≢ above) → (nodes with_new).child b s ≡ then_made.child b s
    new_child = other_child one_made with_new below above (suc new) new_keys new_links new_stored

    which_is : (s : ℕ) → new_covers.linked s ≡ true → (s ≡ new) ⊎ ((c.linked s ≡ true) × (s ≢ new) × (s ≢ l))
    which_is s on = replacement.which then_made c below above l new one_tree replaces_it s on

    fixed_on : (s : ℕ) → c.linked s ≡ true → s < 3 → new_covers.linked s ≡ true
    fixed_on s on small = replacement.links then_made c below above l new one_tree replaces_it s on
        (λ same. let high = real put.hit in omega (arith, same, high, small))

    new_real : 3 ≤ new
    new_real = unfixed new
        (λ e. absurd (both_ways _ (ap c.linked (sym e) ∙ free.out) stands.tree.root))
        (λ e. absurd (both_ways _ (ap c.linked (sym e) ∙ free.out) stands.sentinels.first))
        (λ e. absurd (both_ways _ (ap c.linked (sym e) ∙ free.out) stands.sentinels.last))

    inner_before : (s : ℕ) → IsInner (nodes with_new) s → IsInner then_made s
    inner_before s inner = ⊎_elim (λ e. subst (IsInner then_made) (sym e) replaces_it.above_inner)
        (λ ne. subst (λ v. 0 < v) (new_child true s (λ e. ne)) inner) (cases_eq s above)

    made_leaf_no_inner : (s : ℕ) → IsLeaf then_made s → IsInner then_made s → ⊥
    made_leaf_no_inner s leaf inner = omega (arith, leaf, inner)

    replace_stands : TreeStands slots with_new (map_after pairs op)
    replace_stands = record {
      covers = new_covers;
      within = λ s on. ⊎_elim (λ e. subst (λ k. k < slots) (sym e) free.within) (λ was. stands.within s was.0)
          (which_is s on);
      tree = tree_alike (with_child then_made below above (suc new)) (nodes with_new) new_covers new_alike
          replaced_kept.tree;
      sentinels = changed_sentinels one_made with_new below above (suc new) new_keys new_links new_stored
          replaces_it.above_inner (omega arith) c new_covers
          (sentinels_alike n then_made c one_alike stands.tree stands.sentinels)
          (fixed_on 1 stands.sentinels.first (omega arith)) (fixed_on 2 stands.sentinels.last (omega arith)) not_root;
      unmarked = λ s on inner. ap value_of (as_made (mark_of s) (mark_apart below s above)) ∙ ⊎_elim
          (λ e. absurd (made_leaf_no_inner s (subst (IsLeaf then_made) (sym e) own_left) (inner_before s inner)))
          (λ was. ap value_of (old_cell s 4 (omega arith) was.0) ∙ stands.unmarked s was.0
          (subst (λ v. 0 < v) (one_alike.child true s was.0) (inner_before s inner)))
          (which_is s on);
      contents = contents_same (nodes with_new) new_covers
          (upd (get pairs) (then_made.key new) (Some (then_made.child false new))) (get (map_after pairs op))
          (contents_alike (with_child then_made below above (suc new)) (nodes with_new) new_covers new_alike
          (upd (get pairs) (then_made.key new) (Some (then_made.child false new)))
          (replaced_kept.contents (get pairs) new_real (contents_alike n then_made c one_alike
          (get pairs) stands.contents)))
          (λ q. (λ i. upd (get pairs) (own_key i) (Some (own_value i)) q)
          ∙ set_map pairs op put.key put.value put.put q);
    }

    replace_case : Does (tree_steps thunk)
    replace_case =
        let place = number_at 0 put.numbers in let word = number_at 1 put.numbers in
        let mark = number_at 2 put.numbers in
        let fits = and_from (is_small (thunk.lock + 4)) _ (lock_small place word mark replace_lock)
        (and_from (is_small (operand thunk 0)) _ (link_small place word mark replace_lock)
        (and_from (is_small (operand thunk 3)) _
        (small_is (operand thunk 3) (key_small put.key put.value gives (number_at 3 put.numbers)))
        (and_from (is_small (operand thunk 4)) (nat_lt 0 (value_of (operand thunk 1)))
        (small_is (operand thunk 4) (value_low put.key put.value gives (number_at 4 put.numbers)))
        (some_is (value_of (operand thunk 1)) (subst (λ v. 0 < value_of v) (sym word) some))))) in
        let setting = plain_setting (replace_steps thunk) (true ∷ []) memory in
        let ends = replace_run setting cells memory.clock (slice_index memory.stamps request)
        (slice_index memory.replies request) thunk (link_wanted place word mark replace_lock)
        (mark_wanted place word mark replace_lock)
        (unspent.link (λ e. let form' = fit.form ∙ form in omega (arith, e, form'))) in
        let written : replaced_cells setting cells memory.clock (slice_index memory.stamps request)
        (slice_index memory.replies request) thunk ≡ with_new = exchange_writes one_made (operand thunk 0)
        (cells (operand thunk 0)) link_to_new (ap one_made place ∙ (old_child below above parent_on ∙ ap cells
        (sym place)))
        ∙ ap (λ p. upd one_made p link_to_new) place in
        subst Does (sym (ap (λ f. body_of f thunk) (is_replace thunk (fit.form ∙ form) fits))) (record {
          answer = ends.answered ∙ ap (λ m. Some (Answered m)) (number_at 5 put.numbers
              ∙ set_reply pairs op put.key put.value w.value put.put
              (found_is put.hit ∙ ap Some (value_is put.hit (ap is_del put.put))));
          contents = subst (λ g. TreeStands slots g (map_after pairs op)) (sym (ends.left ∙ written)) replace_stands;
        })

  -- a leaf taken out
  module _ (form : form_for op w.found ≡ 13) where
    removes : (key : ℕ) × (op ≡ Del key) × (w.found ≡ true)
    removes = deletes op w.found form

    gone_numbers : operands_for op w w.found ≡ delete_operands w
    gone_numbers = ap (λ op. operands_for op w w.found) removes.1 ∙ ap (operands_for (Del removes.0) w) removes.2

    is_removal : is_del op ≡ true
    is_removal = ap is_del removes.1

    deep : w.deep ≡ true
    deep = reads.deep (ap is_late fit.stage) is_removal removes.2

    grand_link : IsLink slots cells pairs stands walked.bounds op low w.grand
    grand_link = ended.trail.above deep

    delete_lock : thunk.lock ≡ lock_of w.grand.from
    delete_lock = fit.lock ∙ ap (λ op. lock_for op w w.found) removes.1 ∙ ap (λ found. lock_for (Del removes.0) w found) removes.2

    abbrev g : ℕ
    g = w.grand.from

    abbrev gside : Bool
    gside = w.grand.side

    abbrev p : ℕ
    p = w.last.from

    joined : p ≡ slot_in w.grand.word
    joined = reads.joined past deep

    grand_some : 0 < value_of w.grand.word
    grand_some = reads.grand_some past deep

    grand_there : cells (step_place w.grand) ≡ w.grand.word
    grand_there = stood (step_place w.grand) w.grand.word (reads.grand_read past deep)

    parent_there : n.child gside g ≡ suc p
    parent_there = ap value_of grand_there ∙ (let s = grand_some in let j = joined in omega (arith, s, j))

    parent_named : parent_in thunk ≡ p
    parent_named = ap slot_in (number_at 1 gone_numbers) ∙ sym joined

    leaf_named : leaf_in thunk ≡ l
    leaf_named = ap slot_in (number_at 5 gone_numbers)

    leaf_place : operand thunk 4 ≡ child_of w.last.side p
    leaf_place = number_at 4 gone_numbers

    -- which of the parent's links it is
    sides : (side : Bool) → w.last.side ≡ side → ((is_left thunk || is_right thunk) ≡ true) × (sibling_of thunk ≡ child_of (not side) p)
    sides true e =
        let left : is_left thunk ≡ true = eq_true (operand thunk 4) (left_of (parent_in thunk)) (leaf_place ∙ (ap (λ b. child_of b p) e ∙ ap left_of (sym parent_named))) in
        (ap (λ b. b || is_right thunk) left, ap (λ b. cond b (right_of (parent_in thunk)) (left_of (parent_in thunk))) left ∙ ap right_of parent_named)
    sides false e =
        let here : operand thunk 4 ≡ right_of (parent_in thunk) = leaf_place ∙ (ap (λ b. child_of b p) e ∙ ap right_of (sym parent_named)) in
        let left : is_left thunk ≡ false = eq_false (operand thunk 4) (left_of (parent_in thunk)) (λ e'. omega (arith, here, e')) in
        let right : is_right thunk ≡ true = eq_true (operand thunk 4) (right_of (parent_in thunk)) here in
        ((λ i. left i || right i), ap (λ b. cond b (right_of (parent_in thunk)) (left_of (parent_in thunk))) left ∙ ap left_of parent_named)

    sibling_place : sibling_of thunk ≡ child_of (not w.last.side) p
    sibling_place = (sides w.last.side refl).1

    abbrev b : ℕ
    b = n.child (not w.last.side) p - 1

    sibling_there : n.child (not w.last.side) p ≡ suc b
    sibling_there = let s = stands.tree.child_some (not w.last.side) p parent_on parent_inner in omega (arith, s)

    removal : IsRemoval n c gside (not w.last.side) g p b l
    removal = record {
      above = grand_link.linked;
      above_inner = grand_link.inner;
      parent = parent_there;
      parent_inner = parent_inner;
      stays = sibling_there;
      goes = twice w.last.side link_leads;
      leaf = leaf_is;
    }
      where
        twice : (d : Bool) → n.child d p ≡ suc l → n.child (not (not d)) p ≡ suc l
        twice true e = e
        twice false e = e

    removed_kept : RemovalKeeps n c gside g p b l
    removed_kept = removal_keeps n c gside (not w.last.side) g p b l stands.tree removal

    abbrev left_covers : Covers
    left_covers = removed n c g p b l

    -- the cells after and_from Stores
    abbrev marked : ℕ
    marked = next_word (cells (mark_of (parent_in thunk))) 1

    abbrev new_link : ℕ
    new_link = next_word (cells (operand thunk 0)) (value_of (cells (sibling_of thunk)))

    abbrev left : Cells
    left = upd (upd cells (mark_of p) marked) (child_of gside g) new_link

    left_cell : (q : ℕ) → q ≢ child_of gside g → q ≢ mark_of p → left q ≡ cells q
    left_cell q ne ne' = upd_other (upd cells (mark_of p) marked) (child_of gside g) q new_link ne ∙ upd_other cells (mark_of p) q marked ne'

    left_stored : value_of (left (child_of gside g)) ≡ suc b
    left_stored = ap value_of (upd_same (upd cells (mark_of p) marked) (child_of gside g) (child_of gside g) new_link refl)
        ∙ (value-next_word (cells (operand thunk 0)) (value_of (cells (sibling_of thunk))) (value_small (cells (sibling_of thunk))) ∙ (ap (λ q. value_of (cells q)) sibling_place ∙ sibling_there))

    left_alike : AreAlike (with_child n gside g (suc b)) (nodes left) left_covers
    left_alike = changed_alike cells left gside g (suc b) (λ s. left_cell (key_cell s) (key_apart gside s g) (key_no_mark s p)) (λ d s ne. left_cell (child_of d s) ne (child_no_mark d s p)) left_stored left_covers

    left_child : (d : Bool) (s : ℕ) → (d ≡ gside → s ≢ g) → (nodes left).child d s ≡ n.child d s
    left_child = other_child cells left gside g (suc b) (λ s. left_cell (key_cell s) (key_apart gside s g) (key_no_mark s p)) (λ d s ne. left_cell (child_of d s) ne (child_no_mark d s p)) left_stored

    stays_on : (s : ℕ) → c.linked s ≡ true → s ≢ p → s ≢ l → left_covers.linked s ≡ true
    stays_on s on ne ne' = upd_other (upd c.linked p false) l s false ne' ∙ (upd_other c.linked p s false ne ∙ on)

    was_on : (s : ℕ) → left_covers.linked s ≡ true → (c.linked s ≡ true) × (s ≢ p)
    was_on s on = ⊎_elim
        (λ same. absurd (both_ways _ (upd_same (upd c.linked p false) l s false same) on))
        (λ ne. ⊎_elim
        (λ same. absurd (both_ways _ (upd_other (upd c.linked p false) l s false ne ∙ upd_same c.linked p s false same) on))
        (λ ne'. (sym (upd_other (upd c.linked p false) l s false ne ∙ upd_other c.linked p s false ne') ∙ on, ne'))
        (cases_eq s p))
        (cases_eq s l)

    sentinel_on : (s k : ℕ) → c.linked s ≡ true → IsLeaf n s → n.key s ≡ k → 4294967294 ≤ k → left_covers.linked s ≡ true
    sentinel_on s k on leaf is_k high = stays_on s on
        (λ same. no_leaf p (subst (IsLeaf n) same leaf) parent_inner)
        (λ same. let mine = key_there removes.2 in let theirs = ap n.key (sym same) ∙ is_k in let small = low in omega (arith, mine, theirs, small, high))

    grand_not_root : false ≡ gside → 0 ≡ g → ⊥
    grand_not_root right zero = let k = grand_link.right (sym right) in let root = ap n.key (sym zero) ∙ stands.sentinels.root_key in let small = low in omega (arith, k, root, small)

    stayed_inner : (s : ℕ) → IsInner (nodes left) s → IsInner n s
    stayed_inner s inner = ⊎_elim (λ e. subst (IsInner n) (sym e) grand_link.inner) (λ ne. subst (λ v. 0 < v) (left_child true s (λ e. ne)) inner) (cases_eq s g)

    remove_stands : TreeStands slots left (map_after pairs op)
    remove_stands = record {
      covers = left_covers;
      within = λ s on. stands.within s (was_on s on).0;
      tree = tree_alike (with_child n gside g (suc b)) (nodes left) left_covers left_alike removed_kept.tree;
      sentinels = changed_sentinels cells left gside g (suc b) (λ s. left_cell (key_cell s) (key_apart gside s g) (key_no_mark s p)) (λ d s ne. left_cell (child_of d s) ne (child_no_mark d s p)) left_stored
          grand_link.inner (omega arith) c left_covers stands.sentinels
          (sentinel_on 1 4294967294 stands.sentinels.first stands.sentinels.first_leaf stands.sentinels.first_key (omega arith))
          (sentinel_on 2 4294967295 stands.sentinels.last stands.sentinels.last_leaf stands.sentinels.last_key (omega arith)) grand_not_root;
      unmarked = λ s on inner. let was = was_on s on in
          ap value_of (left_cell (mark_of s) (mark_apart gside s g) (mark_other s p was.1)) ∙ stands.unmarked s was.0 (stayed_inner s inner);
      contents = contents_same (nodes left) left_covers (upd (get pairs) (n.key l) None) (get (map_after pairs op))
          (contents_alike (with_child n gside g (suc b)) (nodes left) left_covers left_alike (upd (get pairs) (n.key l) None) (removed_kept.contents (get pairs) (real removes.2) stands.contents))
          (λ q. ap (λ k. upd (get pairs) k None q) (key_there removes.2) ∙ remove_map pairs op is_removal q);
    }

    lock_word : operand thunk 3 ≡ w.lock
    lock_word = number_at 3 gone_numbers

    lock_free : is_free (operand thunk 3) ≡ true
    lock_free = ap is_free lock_word ∙ (both_of (is_free w.lock) _ (reads.lock_ready (ap is_locked fit.stage))).0

    passes : Passes (plain_setting (delete_steps thunk) (true ∷ []) memory) cells memory.clock (slice_index memory.stamps request) (slice_index memory.replies request) thunk
    passes = record {
      link = ap cells (number_at 0 gone_numbers) ∙ (grand_there ∙ sym (number_at 1 gone_numbers));
      fresh_link = unspent.link (λ e. let form' = fit.form ∙ form in omega (arith, e, form'));
      mark = ap cells (place thunk.lock g delete_lock) ∙ (stood (mark_of g) w.grand_mark (reads.grand_mark_read (ap is_marked fit.stage) is_removal removes.2) ∙ sym (number_at 2 gone_numbers));
      lock = is_got (plain_setting (delete_steps thunk) (true ∷ []) memory) 2 (operand thunk 3) refl refl refl lock_free
          (unspent.lock (fit.form ∙ form));
      leaf = ap cells (number_at 4 gone_numbers) ∙ (link_there ∙ sym (number_at 5 gone_numbers));
      parent = ap (λ s. cells (mark_of s)) parent_named ∙ (stood (mark_of p) w.mark (reads.mark_read fit.stage) ∙ sym (number_at 6 gone_numbers));
      fresh_parent = unspent.mark (fit.form ∙ form);
    }
      where
        place : (q s : ℕ) → q ≡ lock_of s → q + 4 ≡ mark_of s
        place q s e = omega (arith, e)

    delete_fits : fits_delete thunk ≡ true
    delete_fits = and_from (is_small (thunk.lock + 4)) _ (small_is (thunk.lock + 4) (let high = place_low g 4 grand_link.linked (omega arith) in let e = delete_lock in omega (arith, high, e)))
        (and_from (is_small (operand thunk 0)) (names_removed thunk) (small_is (operand thunk 0) (subst (λ q. q < 2 ^ 32) (sym (number_at 0 gone_numbers)) (step_low w.grand grand_link.linked)))
        (and_from (nat_lt 0 (value_of (operand thunk 1))) _ (some_is (value_of (operand thunk 1)) (subst (λ v. 0 < value_of v) (sym (number_at 1 gone_numbers)) grand_some))
        (and_from (nat_lt 0 (value_of (operand thunk 5))) _ (some_is (value_of (operand thunk 5)) (subst (λ v. 0 < value_of v) (sym (number_at 5 gone_numbers)) some))
        (and_from (is_small (mark_of (parent_in thunk))) (is_left thunk || is_right thunk) (small_is (mark_of (parent_in thunk)) (subst (λ s. mark_of s < 2 ^ 32) (sym parent_named) (place_low p 4 parent_on (omega arith))))
        (sides w.last.side refl).0))))

    remove_case : Does (tree_steps thunk)
    remove_case =
        let setting = plain_setting (delete_steps thunk) (true ∷ []) memory in
        let ends = delete_run setting cells memory.clock (slice_index memory.stamps request) (slice_index memory.replies request) thunk passes in
        let first : exchanged cells (mark_of (parent_in thunk)) (cells (mark_of (parent_in thunk))) marked ≡ upd cells (mark_of p) marked =
        exchange_writes cells (mark_of (parent_in thunk)) (cells (mark_of (parent_in thunk))) marked refl ∙ ap (λ s. upd cells (mark_of s) marked) parent_named in
        let written : removed_cells setting cells memory.clock (slice_index memory.stamps request) (slice_index memory.replies request) thunk ≡ left =
        ap (λ f. exchanged f (operand thunk 0) (cells (operand thunk 0)) new_link) first
        ∙ (exchange_writes (upd cells (mark_of p) marked) (operand thunk 0) (cells (operand thunk 0)) new_link
        (upd_other cells (mark_of p) (operand thunk 0) marked (λ e. child_no_mark gside g p (sym (number_at 0 gone_numbers) ∙ e)))
        ∙ ap (λ q. upd (upd cells (mark_of p) marked) q new_link) (number_at 0 gone_numbers)) in
        subst Does (sym (ap (λ f. body_of f thunk) (is_delete thunk (fit.form ∙ form) delete_fits))) (record {
          answer = ends.answered ∙ ap (λ m. Some (Answered m)) (remove_reply pairs op
              (n.child false l) is_removal (found_is removes.2));
          contents = subst (λ f. TreeStands slots f (map_after pairs op)) (sym (ends.left ∙ written)) remove_stands;
        })

pub runs_do_the_operations : RunsDoTheOperations
runs_do_the_operations slots request memory pairs op thunk contents allowed walked unspent free free_leaf = ⊎_elim
    (look_case slots request memory pairs op thunk contents allowed walked unspent)
    (⊎_elim (λ is. insert_case slots request memory pairs op thunk contents allowed walked unspent is (free (form
    ∙ is)))
    (⊎_elim (remove_case slots request memory pairs op thunk contents allowed walked unspent)
    (λ is. replace_case slots request memory pairs op thunk contents allowed walked unspent is (free_leaf (form
    ∙ is)))))
    (cases op (walk walked.bounds op start walked.readings).found its.one)
  where
    its : IsFit op (walk walked.bounds op start walked.readings) thunk
    its = fit slots request memory pairs op thunk contents allowed walked unspent

    form : thunk.form ≡ form_for op (walk walked.bounds op start walked.readings).found
    form = its.form
