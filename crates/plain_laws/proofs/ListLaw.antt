-- The law of the plain runs of the sorted list.
use Rattle.std.proofs.Common.{◌≡◌, ◌≢◌, ℕ, suc, ◌+◌, ◌*◌, ◌<◌, Bool, true, false, [], ◌∷◌, List, refl, sym, ap, ◌∙◌, subst, inl, inr, ⊎_elim, arith, Some, None}
use Rattle.std.specs.Prelude.{◌==◌, ◌&&◌, ◌-◌, ◌^◌, ◌⊎◌, cond, slice_index}
use Rattle.std.specs.FinMap.{get}
use Rattle.std.proofs.lemmas.Bool.{both_ways}
use Rattle.structure_laws.specs.table_words.specs.small_lemmas.proofs.Bools.{both_of}
use Rattle.structure_laws.specs.map_history.specs.declared.op.Op.{Op}
use Rattle.structure_laws.specs.map_history.specs.Keys.{key_of}
use Rattle.structure_laws.specs.map_history.specs.Replay.{Pairs, map_after}
use Rattle.structure_laws.specs.body_terms.specs.Update.{upd}
use Rattle.structure_laws.specs.body_terms.specs.Word.{value_of, next_word, is_free}
use Rattle.structure_laws.specs.body_terms.specs.Memory.{PlainMemory}
use Rattle.structure_laws.specs.body_terms.specs.Run.{Setting, exchanged}
use Rattle.structure_laws.specs.body_terms.specs.Plain.{plain_setting, plain_run}
use Rattle.structure_laws.specs.body_terms.specs.declared.outcome.Outcome.TheVariants.{Answered}
use Rattle.structure_laws.specs.body_terms.specs.declared.step.Step.{Step}
use Rattle.structure_laws.specs.body_terms.specs.declared.thunk.Thunk.{Thunk}
use Rattle.structure_laws.specs.Scene.{Cells}
use Rattle.structure_laws.specs.Sections.{IsAllowed}
use Rattle.structure_laws.proofs.Changes.{upd_same, upd_other, value-next_word, value_small}
use Rattle.tree_laws.specs.section_body.specs.Bucket.{operand}
use Rattle.tree_laws.specs.node_laws.proofs.Forms.{put_puts, reply_is, new_reply}
use Rattle.tree_laws.specs.bucket_laws.specs.Walk.{is_del}
use Rattle.tree_laws.specs.bucket_laws.proofs.Fit.{PutsIn}
use Rattle.tree_laws.specs.bucket_laws.proofs.Maps.{insert_map, remove_map, remove_reply, set_map, set_reply}
use Rattle.list_laws.specs.list_bodies.specs.List.{next_of, mark_of, node_in, Form, Look, Insert, Remove, Replace}
use Rattle.list_laws.specs.list_bodies.specs.List.{form_of, body_of, look_steps, insert_steps, remove_steps}
use Rattle.list_laws.specs.list_bodies.specs.List.{replace_steps, list_steps}
use Rattle.list_laws.specs.Line.{Nodes, rank, last_key, Line, Contents, with_next, IsInsertion}
use Rattle.list_laws.specs.Walk.{Walk, start, node_of, walk, takes_out, form_for, operands_for}
use Rattle.list_laws.specs.Nodes.{nodes, ListStands}
use Rattle.list_laws.proofs.Changes.{link_next, link_key, link_value, link_mark, link_line}
use Rattle.list_laws.proofs.Changes.{mark_mark, mark_key, mark_next, mark_value}
use Rattle.list_laws.proofs.Contents.{contents_as, stands_same, contents_insert, contents_remove}
use Rattle.list_laws.proofs.Fit.{IsFit, fit_of, look_numbers, Inserts, inserts, Removes, removes, Replaces, replaces}
use Rattle.list_laws.proofs.Fit.{takes_both}
use Rattle.list_laws.proofs.Frame.{IsSameNode, no_change, line_same}
use Rattle.list_laws.proofs.Kind.{Kind, Looks, Inserts_it, Removes_it, Replaces_it, kind, key_low, value_low}
use Rattle.list_laws.proofs.Line.{same_rank, rank_low, rank_unmarked, on_or, off_was, off_still, insertion_keeps, removal_keeps}
use Rattle.list_laws.proofs.Open.{leads_to}
use Rattle.plain_laws.specs.Runs.{cells_of}
use Rattle.plain_laws.specs.ListRuns.{HasContents, IsWalked, TakesOut, IsUnspent, IsOut, DoesTheOperation}
use Rattle.plain_laws.specs.ListRuns.{RunsDoTheOperations}
use Rattle.plain_laws.proofs.Filled.{valued_slot}
use Rattle.plain_laws.proofs.Forms.{IsGot, exchange_writes, exchanges_write, is_got}
use Rattle.plain_laws.proofs.ListForms.{Passes, inserted_cells, removed_cells, replaced_cells}
use Rattle.plain_laws.proofs.ListForms.{look_run, insert_run, remove_run, replace_run}
use Rattle.plain_laws.proofs.ListNodes.{made, HasNew, has_new}
use Rattle.plain_laws.proofs.ListWalks.{HasEnded, walk_ends}
use Rattle.plain_laws.proofs.Table.{link_to}
use Rattle.plain_laws.proofs.Unchanged.{unchanged}

-- a value that was changed twice is the last one
upd_twice : {A : Type 0} (f : ℕ → A) (x : ℕ) (a b : A) (t : ℕ) → upd (upd f x a) x b t ≡ upd f x b t
upd_twice {A} f x a b t = by (t == x)
  where
    by : (c : Bool) → cond c b (cond c a (f t)) ≡ cond c b (f t)
    by true = refl
    by false = refl

-- cells of different kinds, or of different nodes, differ
next_not_mark : (t u : ℕ) → next_of t ≢ mark_of u
next_not_mark t u e = omega (arith, e)

next_apart : (t u : ℕ) → t ≢ u → next_of t ≢ next_of u
next_apart t u ne e = ne (omega (arith, e))

module _ (slots request : ℕ) (memory : PlainMemory) (pairs : Pairs) (op : Op) (thunk : Thunk)
    (contents : HasContents slots memory pairs) (allowed : IsAllowed op) (walked : IsWalked memory op thunk)
    (unspent : IsUnspent memory thunk) where
  abbrev cells : Cells
  cells = cells_of memory

  abbrev stands : ListStands slots cells pairs
  stands = contents.stands

  abbrev linked : ℕ → Bool
  linked = stands.linked

  abbrev n : Nodes
  n = nodes cells

  abbrev key : ℕ
  key = key_of op

  abbrev w : Walk
  w = walk walked.bounds op start walked.readings

  abbrev from : ℕ
  from = w.from

  abbrev node : ℕ
  node = node_of w

  abbrev Does : List Step → Type 0
  Does body = DoesTheOperation slots pairs op (plain_run body request memory (true ∷ []))

  abbrev Left : Cells → Type 0
  Left left = ListStands slots left (map_after pairs op)

  abbrev set : List Step → Setting
  set body = plain_setting body (true ∷ []) memory

  low : key < last_key
  low = let few = allowed.keys key (inl refl) in omega (arith, few)

  fit : IsFit op w thunk
  fit = fit_of op w thunk walked.fits

  its : HasEnded slots cells pairs stands walked.bounds op walked.readings walked.read low fit.stage
  its = walk_ends slots cells pairs stands walked.bounds op walked.readings walked.read low fit.stage

  -- the cells of a linked node have places
  mark_low : (t : ℕ) → linked t ≡ true → mark_of t < 2 ^ 32
  mark_low t on = let within = stands.within t on in let room = contents.room in let places = contents.places in
      omega (arith, within, room, places)

  kind_is : Kind op w thunk
  kind_is = kind op w thunk fit allowed its.link_some (mark_low from its.from) (mark_low node its.node)

  number_at : (k : ℕ) {numbers : List ℕ} → operands_for op w w.found ≡ numbers → operand thunk k ≡ slice_index numbers k
  number_at k e = ap (λ numbers. slice_index numbers k) (fit.operands ∙ e)

  -- the key and the value of a new node
  key_small : (k value i : ℕ) → PutsIn op k value → operand thunk i ≡ k → operand thunk i < 2 ^ 32
  key_small = key_low op w thunk fit allowed its.link_some (mark_low from its.from) (mark_low node its.node)

  value_fits : (k value i : ℕ) → PutsIn op k value → operand thunk i ≡ value → operand thunk i < 2 ^ 32
  value_fits = value_low op w thunk fit allowed its.link_some (mark_low from its.from) (mark_low node its.node)

  body_is : (f : Form) → form_of thunk ≡ f → body_of f thunk ≡ list_steps thunk
  body_is f form = sym (ap (λ f. body_of f thunk) form)

  -- what each body wants of the predecessor
  from_place : thunk.lock + 2 ≡ next_of from
  from_place = let at = fit.lock in omega (arith, at)

  mark_place : thunk.lock + 4 ≡ mark_of from
  mark_place = let at = fit.lock in omega (arith, at)

  link_wanted : cells (thunk.lock + 2) ≡ operand thunk 1
  link_wanted = ap cells from_place ∙ (its.link_there ∙ sym fit.link)

  mark_wanted : cells (thunk.lock + 4) ≡ operand thunk 2
  mark_wanted = ap cells mark_place
      ∙ (its.stood (mark_of from) w.mark (its.reads.mark_read (omega arith)) ∙ sym fit.mark)

  -- one that changes nothing
  look_case : form_of thunk ≡ Look → form_for op w.found ≡ 31 → Does (list_steps thunk)
  look_case form number =
      let ends = look_run (set (look_steps thunk)) cells memory.clock (slice_index memory.stamps request)
      (slice_index memory.replies request) thunk link_wanted mark_wanted in
      subst Does (body_is Look form) (record {
        answer = ends.answered ∙ ap (λ m. Some (Answered m)) (number_at 3 (look_numbers op w w.found number)
            ∙ reply_is pairs 31 op w.value w.found (omega arith) number
            (λ hit. (n.value node, its.found_is hit, its.value_is hit)) its.missing_is);
        contents = subst Left (sym ends.left) (stands_same slots cells cells pairs (map_after pairs op) stands
            (λ t on. no_change n t)
            (unchanged 31 pairs op w.found (omega arith) number (λ hit. (n.value node, its.found_is hit))
            its.missing_is));
      })

  -- the slot of a new node has a link
  narrow : (f : ℕ) → f < slots → suc f < 2 ^ 32
  narrow f within = let room = contents.room in let places = contents.places in omega (arith, within, room, places)

  -- a node put in
  module _ (form : form_of thunk ≡ Insert) (number : form_for op w.found ≡ 32)
      (free : IsOut slots memory pairs contents) where
    of : Inserts op w w.found
    of = inserts op w w.found number

    abbrev f : ℕ
    f = slice_index memory.free 0

    abbrev k : ℕ
    k = operand thunk 3

    abbrev next : ℕ
    next = value_of (operand thunk 1)

    abbrev v : ℕ
    v = operand thunk 4

    k_low : k < 2 ^ 32
    k_low = key_small of.key of.value 3 of.puts (number_at 3 of.numbers)

    k_is : k ≡ key
    k_is = number_at 3 of.numbers ∙ sym of.puts.0

    abbrev with_new : Cells
    with_new = made slots cells pairs stands f k next v free.out

    abbrev m : Nodes
    m = nodes with_new

    made_it : HasNew slots cells pairs stands f k next v free.out
    made_it = has_new slots cells pairs stands f k next v free.out

    -- it comes between the predecessor and the node
    place : IsInsertion m linked from node f
    place =
        let new = made_it.rank_is k_low in
        let is = k_is in
        record {
          before = its.from;
          no_tail = its.from_tail;
          next = (made_it.same from its.from).next ∙ its.link_leads;
          out = free.out;
          links = made_it.next_is (value_small (operand thunk 1))
              ∙ (ap value_of fit.link ∙ leads_to (value_of w.link) its.link_some);
          from = let before = its.before_rank in
              let old = same_rank n m from (made_it.same from its.from).key (made_it.same from its.from).mark in
              omega (arith, before, old, new, is);
          to = let above = its.missing_key of.missing in let high = rank_low n node its.node_head in
              let old = same_rank n m node (made_it.same node its.node).key (made_it.same node its.node).mark in
              omega (arith, above, high, old, new, is);
        }

    -- the cells that it leaves
    abbrev link_word : ℕ
    link_word = next_word (cells (thunk.lock + 2)) (value_of (f + 1))

    abbrev after : Cells
    after = upd with_new (next_of from) link_word

    insert_stands : Left after
    insert_stands = record {
      linked = upd linked f true;
      within = λ t on. ⊎_elim (λ e. subst (λ k. k < slots) (sym e) free.within) (stands.within t) (on_or linked f t on);
      line = link_line with_new from link_word (suc f) (upd linked f true)
          (link_to (cells (thunk.lock + 2)) f (narrow f free.within))
          (insertion_keeps m linked made_it.line from node f place);
      unmarked = λ t on. link_mark with_new from link_word t ∙ ⊎_elim
          (λ e. ap m.mark e ∙ made_it.mark_is)
          (λ was. (made_it.same t was).mark ∙ stands.unmarked t was) (on_or linked f t on);
      contents = contents_as m (nodes after) (upd linked f true) (upd (get pairs) of.key (Some of.value))
          (get (map_after pairs op))
          (λ t on. (link_key with_new from link_word t, link_value with_new from link_word t))
          (insert_map pairs op of.key of.value of.puts none)
          (contents_insert m linked (get pairs) made_it.map f of.key of.value none
          (made_it.key_is k_low ∙ number_at 3 of.numbers)
          (made_it.value_is (value_fits of.key of.value 4 of.puts (number_at 4 of.numbers)) ∙ number_at 4 of.numbers)
          made_it.low);
    }
      where
        none : get pairs of.key ≡ None
        none = ap (get pairs) (sym of.puts.0) ∙ its.missing_is of.missing

    insert_case : Does (list_steps thunk)
    insert_case =
        let ends = insert_run (set (insert_steps thunk)) cells memory.clock (slice_index memory.stamps request)
        (slice_index memory.replies request) thunk link_wanted mark_wanted
        (unspent.link (λ e. let is = fit.form ∙ number in omega (arith, e, is))) in
        let written : inserted_cells (set (insert_steps thunk)) cells memory.clock (slice_index memory.stamps request)
        (slice_index memory.replies request) thunk ≡ after =
        ap (λ fixed. exchanged (valued_slot cells fixed f (0 ∷ k ∷ next ∷ v ∷ 0 ∷ [])) (thunk.lock + 2)
        (cells (thunk.lock + 2)) link_word) contents.fixed
        ∙ (exchange_writes with_new (thunk.lock + 2) (cells (thunk.lock + 2)) link_word (ap with_new from_place
        ∙ (made_it.stays from 2 (omega arith) its.from ∙ ap cells (sym from_place)))
        ∙ ap (λ p. upd with_new p link_word) from_place) in
        subst Does (body_is Insert form) (record {
          answer = ends.answered ∙ ap (λ m. Some (Answered m)) (new_reply pairs op of.key of.value of.puts
              (its.missing_is of.missing));
          contents = subst Left (sym (ends.left ∙ written)) insert_stands;
        })

  -- the link of the node that is taken out, and its mark's new word
  abbrev old_next : ℕ
  old_next = cells (next_of (node_in thunk))

  abbrev mark_new : ℕ
  mark_new = next_word (cells (mark_of (node_in thunk))) 1

  -- the node is taken out
  module _ (takes : (form_for op w.found ≡ 33) ⊎ (form_for op w.found ≡ 34)) where
    hit : w.found ≡ true
    hit = (takes_both op w.found takes).0

    takes_it : (takes_out op && w.found) ≡ true
    takes_it = (takes_both op w.found takes).1

    goes : TakesOut thunk
    goes = ⊎_elim (λ remove. inl (fit.form ∙ remove)) (λ replace. inr (fit.form ∙ replace)) takes

    -- what its body wants
    module _ (body : List Step) (lock_word : operand thunk 3 ≡ w.node_lock)
        (mark_word : operand thunk 4 ≡ w.node_mark) where
      lock_free : is_free (operand thunk 3) ≡ true
      lock_free = ap is_free lock_word
          ∙ (both_of (is_free w.node_lock) _ (its.reads.node_lock_ready (omega arith) takes_it)).0

      passes : IsGot (set body) 2 (operand thunk 3) → Passes (set body) cells memory.clock
          (slice_index memory.stamps request) (slice_index memory.replies request) thunk
      passes got = record {
        link = link_wanted;
        fresh_link = unspent.link (λ e. ⊎_elim (λ is. omega (arith, e, is)) (λ is. omega (arith, e, is)) goes);
        mark = mark_wanted;
        lock = got;
        node = ap (λ s. cells (mark_of s)) fit.node
            ∙ (its.stood (mark_of node) w.node_mark (its.reads.node_mark_read (omega arith) takes_it)
            ∙ sym mark_word);
        fresh_node = unspent.mark goes;
      }

    inner : node ≢ 1
    inner = its.found_inner hit

    -- the node behind it
    abbrev behind : ℕ
    behind = n.next node - 1

    behind_link : n.next node ≡ suc behind
    behind_link = leads_to (n.next node) (stands.line.next_some node its.node inner)

    above : (linked behind ≡ true) × (rank n node < rank n behind)
    above = stands.line.next_on node behind its.node inner behind_link

    apart : from ≢ node
    apart e = let less = its.rises in let same : rank n from ≡ rank n node = ap (rank n) e in omega (arith, less, same)

    -- in a memory in which the linked nodes are as they were
    module _ (m : Nodes) (same : (t : ℕ) → linked t ≡ true → IsSameNode n m t) (line : Line m linked)
        (map : Contents m linked (get pairs)) where
      gone_line : Line (with_next m from (suc behind)) (upd linked node false)
      gone_line = removal_keeps m linked line from node behind (record {
        before = its.from;
        no_tail = its.from_tail;
        next = (same from its.from).next ∙ its.link_leads;
        inner = inner;
        links = (same node its.node).next ∙ behind_link;
      })

      gone_map : Contents m (upd linked node false) (upd (get pairs) key None)
      gone_map = contents_remove m linked (get pairs) map node key ((same node its.node).key ∙ its.found_key hit)
          (λ t on two e. its.only_one hit t on two (sym (same t on).key ∙ e))

    old_next_is : value_of old_next ≡ suc behind
    old_next_is = ap n.next fit.node ∙ behind_link

  -- a removal
  module _ (form : form_of thunk ≡ Remove) (number : form_for op w.found ≡ 33) where
    removal : Removes op w w.found
    removal = removes op w w.found number

    abbrev gone : ℕ → Bool
    gone = upd linked node false

    abbrev marked : Cells
    marked = upd cells (mark_of node) mark_new

    abbrev past_word : ℕ
    past_word = next_word (cells (thunk.lock + 2)) (value_of old_next)

    past_is : value_of past_word ≡ suc (behind (inl number))
    past_is = value-next_word (cells (thunk.lock + 2)) (value_of old_next)
        (value_small old_next) ∙ old_next_is (inl number)

    abbrev left : Cells
    left = upd marked (next_of from) past_word

    left_key : (t : ℕ) → (nodes left).key t ≡ n.key t
    left_key t = link_key marked from past_word t ∙ mark_key cells node mark_new t

    left_value : (t : ℕ) → (nodes left).value t ≡ n.value t
    left_value t = link_value marked from past_word t ∙ mark_value cells node mark_new t

    left_mark : (t : ℕ) → t ≢ node → (nodes left).mark t ≡ n.mark t
    left_mark t ne = link_mark marked from past_word t ∙ (mark_mark cells node mark_new t
        ∙ upd_other n.mark node t (value_of mark_new) ne)

    left_next : (t : ℕ) → (nodes left).next t ≡ upd n.next from (suc (behind (inl number))) t
    left_next t = link_next marked from past_word t
        ∙ (λ i. upd (λ u. mark_next cells node mark_new u i) from (past_is i) t)

    remove_stands : Left left
    remove_stands = record {
      linked = gone;
      within = λ t on. stands.within t (off_was linked node t on).1;
      line = line_same (with_next n from (suc (behind (inl number)))) (nodes left) gone
          (λ t on. (left_key t, left_next t, left_mark t (off_was linked node t on).0))
          (gone_line (inl number) n (λ t on. no_change n t) stands.line stands.contents);
      unmarked = λ t on. let was = off_was linked node t on in left_mark t was.0 ∙ stands.unmarked t was.1;
      contents = contents_as n (nodes left) gone (upd (get pairs) key None) (get (map_after pairs op))
          (λ t on. (left_key t, left_value t)) (remove_map pairs op (ap is_del removal.del))
          (gone_map (inl number) n (λ t on. no_change n t) stands.line stands.contents);
    }

    remove_case : Does (list_steps thunk)
    remove_case =
        let lock_word = number_at 3 removal.numbers in
        let mark_word = number_at 4 removal.numbers in
        let got = is_got (set (remove_steps thunk)) 2 (operand thunk 3) refl refl refl
        (lock_free (inl number) (remove_steps thunk) lock_word mark_word) (unspent.lock (goes (inl number))) in
        let ends = remove_run (set (remove_steps thunk)) cells memory.clock (slice_index memory.stamps request)
        (slice_index memory.replies request) thunk
        (passes (inl number) (remove_steps thunk) lock_word mark_word got) in
        let written : removed_cells (set (remove_steps thunk)) cells memory.clock (slice_index memory.stamps request)
        (slice_index memory.replies request) thunk ≡ left =
        (λ i. exchanged (exchanged cells (mark_of (fit.node i)) (cells (mark_of (node_in thunk))) mark_new)
        (from_place i) (cells (thunk.lock + 2)) past_word)
        ∙ exchanges_write cells (mark_of node) (next_of from) (cells (mark_of (node_in thunk))) mark_new
        (cells (thunk.lock + 2)) past_word (ap (λ s. cells (mark_of s)) (sym fit.node)) (ap cells (sym from_place))
        (next_not_mark from node) in
        subst Does (body_is Remove form) (record {
          answer = ends.answered ∙ ap (λ m. Some (Answered m)) (remove_reply pairs op (n.value node)
              (ap is_del removal.del) (its.found_is removal.hit));
          contents = subst Left (sym (ends.left ∙ written)) remove_stands;
        })

  -- a new node in the place of the old one
  module _ (form : form_of thunk ≡ Replace) (number : form_for op w.found ≡ 34)
      (free : IsOut slots memory pairs contents) where
    put : Replaces op w w.found
    put = replaces op w w.found number

    gives : PutsIn op put.key put.value
    gives = put_puts op put.key put.value put.put

    abbrev new : ℕ
    new = slice_index memory.free 0

    abbrev new_key : ℕ
    new_key = operand thunk 5

    abbrev new_next : ℕ
    new_next = value_of old_next

    abbrev new_value : ℕ
    new_value = operand thunk 6

    new_key_low : new_key < 2 ^ 32
    new_key_low = key_small put.key put.value 5 gives (number_at 5 put.numbers)

    new_key_is : new_key ≡ key
    new_key_is = number_at 5 put.numbers ∙ sym gives.0

    abbrev base : Cells
    base = made slots cells pairs stands new new_key new_next new_value free.out

    abbrev b : Nodes
    b = nodes base

    made_new : HasNew slots cells pairs stands new new_key new_next new_value free.out
    made_new = has_new slots cells pairs stands new new_key new_next new_value free.out

    abbrev c : ℕ
    c = behind (inr number)

    abbrev out : ℕ → Bool
    out = upd linked node false

    out_line : Line (with_next b from (suc c)) out
    out_line = gone_line (inr number) b made_new.same made_new.line made_new.map

    out_map : Contents b out (upd (get pairs) key None)
    out_map = gone_map (inr number) b made_new.same made_new.line made_new.map

    abbrev swapped : ℕ → Bool
    swapped = upd out new true

    not_new : (t : ℕ) → linked t ≡ true → new ≢ t
    not_new t on e = both_ways _ free.out (ap linked e ∙ on)

    -- what stays linked isn't the old node
    swapped_is : (t : ℕ) → swapped t ≡ true → (t ≢ node) × ((t ≡ new) ⊎ (linked t ≡ true))
    swapped_is t on = ⊎_elim (λ e. ((λ z. not_new node its.node (sym e ∙ z)), inl e))
        (λ was. let is = off_was linked node t was in (is.0, inr is.1)) (on_or out new t on)

    same_ranks : (t : ℕ) → linked t ≡ true → rank b t ≡ rank n t
    same_ranks t on = same_rank n b t (made_new.same t on).key (made_new.same t on).mark

    -- the new node has the old one's rank
    new_rank : rank b new ≡ rank n node
    new_rank = made_new.rank_is new_key_low
        ∙ (ap (λ k. suc (suc (2 * k))) (new_key_is ∙ sym (its.found_key put.hit))
        ∙ sym (rank_unmarked n node its.node_head (stands.unmarked node its.node)))

    -- and comes in its place
    swap : IsInsertion (with_next b from (suc c)) out from c new
    swap = record {
      before = off_still linked node from (apart (inr number)) its.from;
      no_tail = its.from_tail;
      next = upd_same b.next from from (suc c) refl;
      out = upd_other linked node new false (not_new node its.node) ∙ free.out;
      links = upd_other b.next from new (suc c) (not_new from its.from)
          ∙ (made_new.next_is (value_small old_next) ∙ old_next_is (inr number));
      from = let less = its.rises in let own = new_rank in let other = same_ranks from its.from in
          omega (arith, less, own, other);
      to = let next = above (inr number) in let less = next.1 in let own = new_rank in
          let other = same_ranks c next.0 in omega (arith, less, own, other);
    }

    -- the cells that it leaves
    abbrev with_mark : Cells
    with_mark = upd base (mark_of node) mark_new

    abbrev on_word : ℕ
    on_word = next_word old_next (value_of (new + 1))

    abbrev with_on : Cells
    with_on = upd with_mark (next_of node) on_word

    abbrev new_word : ℕ
    new_word = next_word (cells (thunk.lock + 2)) (value_of (new + 1))

    new_word_is : value_of new_word ≡ suc new
    new_word_is = link_to (cells (thunk.lock + 2)) new (narrow new free.within)

    abbrev then_cells : Cells
    then_cells = upd with_on (next_of from) new_word

    then_key : (t : ℕ) → (nodes then_cells).key t ≡ b.key t
    then_key t = link_key with_on from new_word t
        ∙ (link_key with_mark node on_word t ∙ mark_key base node mark_new t)

    then_value : (t : ℕ) → (nodes then_cells).value t ≡ b.value t
    then_value t = link_value with_on from new_word t
        ∙ (link_value with_mark node on_word t ∙ mark_value base node mark_new t)

    then_mark : (t : ℕ) → t ≢ node → (nodes then_cells).mark t ≡ b.mark t
    then_mark t ne = link_mark with_on from new_word t
        ∙ (link_mark with_mark node on_word t ∙ (mark_mark base node mark_new t
        ∙ upd_other b.mark node t (value_of mark_new) ne))

    on_next : (t : ℕ) → t ≢ node → (nodes with_on).next t ≡ b.next t
    on_next t ne = link_next with_mark node on_word t
        ∙ (upd_other (nodes with_mark).next node t (value_of on_word) ne
        ∙ mark_next base node mark_new t)

    then_next : (t : ℕ) → t ≢ node → (nodes then_cells).next t ≡ upd (upd b.next from (suc c)) from (suc new) t
    then_next t ne = link_next with_on from new_word t
        ∙ ((λ i. cond (t == from) (new_word_is i) (on_next t ne i)) ∙ sym (upd_twice b.next from (suc c) (suc new) t))

    replace_stands : Left then_cells
    replace_stands = record {
      linked = swapped;
      within = λ t on. ⊎_elim (λ e. subst (λ k. k < slots) (sym e) free.within) (stands.within t) (swapped_is t on).1;
      line = line_same (with_next (with_next b from (suc c)) from (suc new)) (nodes then_cells) swapped
          (λ t on. let ne = (swapped_is t on).0 in (then_key t, then_next t ne, then_mark t ne))
          (insertion_keeps (with_next b from (suc c)) out out_line from c new swap);
      unmarked = λ t on. let is = swapped_is t on in then_mark t is.0 ∙ ⊎_elim (λ e. ap b.mark e ∙ made_new.mark_is)
          (λ was. (made_new.same t was).mark ∙ stands.unmarked t was) is.1;
      contents = contents_as b (nodes then_cells) swapped (upd (upd (get pairs) key None) key (Some put.value))
          (get (map_after pairs op)) (λ t on. (then_key t, then_value t))
          (λ q. upd_twice (get pairs) key None (Some put.value) q ∙ set_map pairs op put.key put.value put.put q)
          (contents_insert b out (upd (get pairs) key None) out_map new key put.value
          (upd_same (get pairs) key key None refl) (made_new.key_is new_key_low ∙ new_key_is)
          (made_new.value_is (value_fits put.key put.value 6 gives (number_at 6 put.numbers))
          ∙ number_at 6 put.numbers)
          made_new.low);
    }

    replace_case : Does (list_steps thunk)
    replace_case =
        let lock_word = number_at 3 put.numbers in
        let mark_word = number_at 4 put.numbers in
        let got = is_got (set (replace_steps thunk)) 2 (operand thunk 3) refl refl refl
        (lock_free (inr number) (replace_steps thunk) lock_word mark_word) (unspent.lock (goes (inr number))) in
        let ends = replace_run (set (replace_steps thunk)) cells memory.clock (slice_index memory.stamps request)
        (slice_index memory.replies request) thunk
        (passes (inr number) (replace_steps thunk) lock_word mark_word got) (unspent.next (fit.form ∙ number)) in
        let link_stood : base (next_of from) ≡ cells (thunk.lock + 2) =
        made_new.stays from 2 (omega arith) its.from ∙ ap cells (sym from_place) in
        let written : replaced_cells (set (replace_steps thunk)) cells memory.clock (slice_index memory.stamps request)
        (slice_index memory.replies request) thunk ≡ then_cells =
        (λ i. exchanged (exchanged (exchanged
        (valued_slot cells (contents.fixed i) new (0 ∷ new_key ∷ new_next ∷ new_value ∷ 0 ∷ []))
        (mark_of (fit.node i)) (cells (mark_of (node_in thunk))) mark_new)
        (next_of (fit.node i)) old_next on_word)
        (from_place i) (cells (thunk.lock + 2)) new_word)
        ∙ (ap (λ left. exchanged left (next_of from) (cells (thunk.lock + 2)) new_word)
        (exchanges_write base (mark_of node) (next_of node) (cells (mark_of (node_in thunk))) mark_new old_next on_word
        (made_new.stays node 4 (omega arith) its.node ∙ ap (λ s. cells (mark_of s)) (sym fit.node))
        (made_new.stays node 2 (omega arith) its.node ∙ ap (λ s. cells (next_of s)) (sym fit.node))
        (next_not_mark node node))
        ∙ exchange_writes with_on (next_of from) (cells (thunk.lock + 2)) new_word
        (upd_other with_mark (next_of node) (next_of from) on_word (next_apart from node (apart (inr number)))
        ∙ (upd_other base (mark_of node) (next_of from) mark_new (next_not_mark from node)
        ∙ link_stood))) in
        subst Does (body_is Replace form) (record {
          answer = ends.answered ∙ ap (λ m. Some (Answered m)) (number_at 7 put.numbers
              ∙ set_reply pairs op put.key put.value w.value put.put
              (its.found_is put.hit ∙ ap Some (its.value_is put.hit (ap is_del put.put))));
          contents = subst Left (sym (ends.left ∙ written)) replace_stands;
        })

pub runs_do_the_operations : RunsDoTheOperations
runs_do_the_operations slots request memory pairs op thunk contents allowed walked unspent free =
    by (kind_is slots request memory pairs op thunk contents allowed walked unspent)
  where
    form_is : thunk.form ≡ form_for op (walk walked.bounds op start walked.readings).found
    form_is = (fit slots request memory pairs op thunk contents allowed walked unspent).form

    by : Kind op (walk walked.bounds op start walked.readings) thunk
        → DoesTheOperation slots pairs op (plain_run (list_steps thunk) request memory (true ∷ []))
    by (Looks form number) =
        look_case slots request memory pairs op thunk contents allowed walked unspent form number
    by (Inserts_it form number) =
        insert_case slots request memory pairs op thunk contents allowed walked unspent form number
        (free (inl (form_is ∙ number)))
    by (Removes_it form number) =
        remove_case slots request memory pairs op thunk contents allowed walked unspent form number
    by (Replaces_it form number) =
        replace_case slots request memory pairs op thunk contents allowed walked unspent form number
        (free (inr (form_is ∙ number)))
