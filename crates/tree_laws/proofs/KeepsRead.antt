-- The tree keeps what it keeps, by one more reading of an entered runner.
use Rattle.std.specs.Prelude.{◌⊎◌, ◌==◌, ◌-◌, nat_lt, nat_le, cond, Bool, true, false, Some, [], ◌∷◌, ◌++◌, length, slice_get}
use Rattle.std.proofs.Common.{◌≡◌, ◌≢◌, ℕ, suc, ◌+◌, ◌*◌, ◌<◌, ◌≤◌, refl, sym, ap, ◌∙◌, subst, inl, inr, ⊎_elim, arith}
use Rattle.std.proofs.lemmas.Bool.{cases_eq}
use Rattle.std.proofs.lemmas.Option.{none-some}
use Rattle.structure_laws.specs.table_words.specs.small_lemmas.proofs.Lists.{same_number as some_eq, get_last as push_last}
use Rattle.structure_laws.specs.table_words.specs.small_lemmas.proofs.Numbers.{tested_not_less as not_less, tested_some as not_none}
use Rattle.structure_laws.specs.map_history.specs.declared.op.Op.{Op}
use Rattle.structure_laws.specs.map_history.specs.Keys.{key_of}
use Rattle.structure_laws.specs.body_terms.specs.Word.{value_of}
use Rattle.structure_laws.specs.table_words.specs.declared.layout.Layout.{Layout}
use Rattle.structure_laws.specs.Scene.{Readings, Free, Scene, with_reading}
use Rattle.structure_laws.specs.Cells.{IsSafe, IsOutside, IsLoadable}
use Rattle.structure_laws.specs.Sound.{IsRead}
use Rattle.structure_laws.specs.Keeps.{Onward}
use Rattle.structure_laws.proofs.Changes.{upd_same, equal_of}
use Rattle.bucket_laws.specs.Walk.{is_del}
use Rattle.bucket_laws.proofs.TableGives.{reached}
use Rattle.node_laws.proofs.Walked.{walk_push, by_place}
use Rattle.tree_bodies.specs.Tree.{key_cell, left_of, right_of, mark_of, slot_in}
use Rattle.tree_laws.specs.Search.{Nodes, IsInner, IsLeaf}
use Rattle.tree_laws.specs.Walk.{Stage, AtRoot, AtLeft, AtKey, AtRight, AtValue, AtGrandLock, AtGrandMark, AtLock, AtMark, AtEnd, Refused, step_to, Walk, start, node_of, wanted_at, followed, after_leaf, is_ready, at_key, fed}
use Rattle.tree_laws.specs.Leaves.{shows_link, nodes, bounds, walk_of, IsAsRead, IsFollowed, IsLeft, Knows, IsWalk, IsTrail, TreeKept, tree}
use Rattle.tree_laws.proofs.KeepsFrame.{outside_used, IsKeptReader}
use Rattle.tree_laws.proofs.KeepsPass.{reader_kept}
use Rattle.tree_laws.proofs.Shown.{below_of, shown_now}
use Rattle.tree_laws.proofs.WalkReads.{IsGiven, Reads, is_past, walk_reads}

before : (v : ℕ) → 0 < v → v ≡ suc (v - 1)
before v some = omega (arith, some)

module _ (layout : Layout) (s : Scene) (kept : TreeKept layout s) where
  abbrev now : Nodes
  now = nodes s.cells

  -- the root's left link leads to the first sentinel, or to an inner node
  under_root_now : (value_of (s.cells (left_of 0)) ≡ 2) ⊎ ((t : ℕ) × (value_of (s.cells (left_of 0)) ≡ suc t)
      × IsInner now t)
  under_root_now = ⊎_elim (λ leaf. inl (let one = only leaf in link ∙ ap suc one)) (λ inner. inr (under, link, inner))
      (zero_or (now.child true under))
    where
      zero_or : (k : ℕ) → (k ≡ 0) ⊎ (0 < k)
      zero_or k = search arith

      under : ℕ
      under = slot_in (s.cells (left_of 0))

      link : value_of (s.cells (left_of 0)) ≡ suc under
      link = before (value_of (s.cells (left_of 0))) kept.tree.root_inner

      linked : kept.covers.linked under ≡ true
      linked = kept.tree.child_linked true 0 under kept.tree.root kept.tree.root_inner link

      only : IsLeaf now under → under ≡ 1
      only leaf = ⊎_elim (λ same. same) (λ ne.
          let lo = kept.tree.child_lo true 0 under kept.tree.root kept.tree.root_inner link in
          let hi = kept.tree.child_hi true 0 under kept.tree.root kept.tree.root_inner link in
          let root_lo = kept.tree.root_lo in
          let root_key = kept.sentinels.root_key in
          let key = kept.sentinels.first_key in
          let inside = kept.tree.leaf_key 1 kept.sentinels.first kept.sentinels.first_leaf in
          let from = inside.0 in
          let to = inside.1 in
          absurd (⊎_elim (λ below. omega (arith, below, hi, root_key, key, from))
          (λ below. omega (arith, below, lo, root_lo, to))
          (kept.tree.leaves under 1 linked kept.sentinels.first leaf kept.sentinels.first_leaf ne))) (cases_eq under 1)

  module _ (readings : Readings) (read : IsRead tree s readings) (old : IsAsRead now readings) (op : Op)
      (low : key_of op < 4294967294) where
    abbrev key : ℕ
    key = key_of op

    abbrev IsGood : Walk → Type 0
    IsGood = IsWalk now kept.covers kept.once key

    -- a slot that the readings give is safe
    given_safe : (t : ℕ) → IsGiven readings t → IsSafe s t
    given_safe t gives = let by = reached (shows_link readings) readings t gives in
        read.safe by.0 by.1 by.2 t by.3 (shown_now s.cells readings old by.1 by.4) by.5

    -- a step of the walk from its parts
    built : (w : Walk) → (w.deep ≡ true → IsFollowed now kept.covers kept.once key w.grand)
        → (w.deep ≡ true → w.last.from ≡ step_to w.grand)
        → IsFollowed now kept.covers kept.once key w.last → Knows now kept.covers kept.once key w w.stage → IsGood w
    built w grand joined last knows = record {
      grand = λ going. grand;
      joined = λ going. joined;
      last = λ going some. last;
      knows = knows;
    }

    -- behind a link there is nothing to know
    link_knows : (w : Walk) (none far : Bool) → Knows now kept.covers kept.once key w
        (cond none Refused (cond far Refused AtLeft))
    link_knows w true far = tt
    link_knows w false true = tt
    link_knows w false false = tt

    refused_good : (w : Walk) → w.stage ≡ Refused → IsGood w
    refused_good w at = record {
      grand = λ going. absurd (going at);
      joined = λ going. absurd (going at);
      last = λ going. absurd (going at);
      knows = subst (Knows now kept.covers kept.once key w) (sym at) tt;
    }

    -- the root's left link
    root_good : (w : Walk) → w.deep ≡ false → IsGood (fed (bounds layout) op w AtRoot (s.cells (left_of 0)))
    root_good w shallow = built (fed (bounds layout) op w AtRoot (s.cells (left_of 0)))
        (λ deep. absurd (false_true (sym shallow ∙ deep))) (λ deep. absurd (false_true
        (sym shallow ∙ deep))) followed_root
        (link_knows (fed (bounds layout) op w AtRoot (s.cells (left_of 0))) (value_of (s.cells (left_of 0)) == 0)
        (nat_le (bounds layout).links 1))
      where
        false_true : false ≡ true → ⊥
        false_true e = cc

        under : ℕ
        under = slot_in (s.cells (left_of 0))

        link : now.child true 0 ≡ suc under
        link = before (value_of (s.cells (left_of 0))) kept.tree.root_inner

        linked : kept.covers.linked under ≡ true
        linked = kept.tree.child_linked true 0 under kept.tree.root kept.tree.root_inner link

        lo : kept.covers.lo under ≡ kept.covers.lo 0
        lo = kept.tree.child_lo true 0 under kept.tree.root kept.tree.root_inner link

        hi : kept.covers.hi under ≡ now.key 0
        hi = kept.tree.child_hi true 0 under kept.tree.root kept.tree.root_inner link

        followed_root : IsFollowed now kept.covers kept.once key
            (record { from = 0; side = true; word = s.cells (left_of 0) })
        followed_root = record {
          from = record {
            once_linked = kept.linked_once 0 kept.tree.root;
            covers = λ inner. let from = kept.tree.root_lo in let to = kept.tree.root_hi in
                (omega (arith, from), omega (arith, to, low));
          };
          inner = kept.tree.root_inner;
          some = kept.tree.root_inner;
          is_left = λ e. let root = kept.sentinels.root_key in omega (arith, root, low);
          is_right = λ e. absurd (let z = e in cc);
          to = record {
            once_linked = kept.linked_once under linked;
            covers = λ inner. let from = lo in let to = hi in let root = kept.sentinels.root_key in
                let root_lo = kept.tree.root_lo in
                (omega (arith, from, root_lo), omega (arith, to, root, low));
          };
          left = λ e inner. let inside = (kept.tree.inner_key under linked inner).1 in let to = hi in
              omega (arith, inside, to);
          right = λ e. absurd (let z = e in cc);
        }

    -- a walk behind its first link
    module _ (w : Walk) (is : IsGood w) (reads : Reads readings (bounds layout) op w)
        (past : is_past w.stage ≡ true) where
      going : w.stage ≢ Refused
      going e = past_refused (sym (ap is_past e) ∙ past)
        where
          past_refused : false ≡ true → ⊥
          past_refused z = cc

      some : w.stage ≢ AtRoot
      some e = past_root (sym (ap is_past e) ∙ past)
        where
          past_root : false ≡ true → ⊥
          past_root z = cc

      last : IsFollowed now kept.covers kept.once key w.last
      last = is.last going some

      abbrev node : ℕ
      node = node_of w

      node_safe : IsSafe s node
      node_safe = given_safe node (reads.node past)

      -- the same links, at another stage
      record HasLinks (w' : Walk) : Type 0 where
        deep : w'.deep ≡ w.deep
        grand : w'.grand ≡ w.grand
        last : w'.last ≡ w.last

      later : (w' : Walk) → HasLinks w' → Knows now kept.covers kept.once key w' w'.stage → IsGood w'
      later w' same knows = record {
        grand = λ on deep. subst (IsFollowed now kept.covers kept.once key) (sym same.grand)
            (is.grand going (sym same.deep ∙ deep));
        joined = λ on deep. ap (λ step. step.from) same.last
            ∙ (is.joined going (sym same.deep ∙ deep) ∙ ap step_to (sym same.grand));
        last = λ on far. subst (IsFollowed now kept.covers kept.once key) (sym same.last) last;
        knows = knows;
      }

      -- one more link
      linked_good : (side : Bool) (word : ℕ) → IsFollowed now kept.covers kept.once key
          (record { from = node; side = side; word = word })
          → IsGood (followed (bounds layout) w side word)
      linked_good side word new = built (followed (bounds layout) w side word) (λ deep. last) (λ deep. refl) new
          (link_knows (followed (bounds layout) w side word) (value_of word == 0)
          (nat_le (bounds layout).links (suc w.links)))

      -- the last node's left link
      left_good : IsGood (fed (bounds layout) op w AtLeft (s.cells (left_of node)))
      left_good = later (fed (bounds layout) op w AtLeft (s.cells (left_of node)))
          (record { deep = refl; grand = refl; last = refl })
          (λ inner.
          let covers = last.to.covers inner in
          record {
            inner = inner;
            once_linked = λ t leads. (kept.trail node t true last.to.once_linked node_safe inner leads).once_linked;
            lo = λ t leads inner'.
                let trail = ((kept.trail node t true last.to.once_linked node_safe inner leads).left refl inner').0 in
                let from = covers.0 in omega (arith, trail, from);
            hi = λ t leads inner'.
                ((kept.trail node t true last.to.once_linked node_safe inner leads).left refl inner').1;
            order = λ t leads inner'.
                ((kept.trail node t true last.to.once_linked node_safe inner leads).left refl inner').2;
          })

      -- a leaf's key
      leaf_known : (w' : Walk) (del deep : Bool) → IsLeaf now (node_of w') × (now.key (node_of w') ≡ w'.key)
          → Knows now kept.covers kept.once key w' (cond del (cond deep AtGrandLock Refused) AtValue)
      leaf_known w' true true is_leaf = is_leaf
      leaf_known w' true false is_leaf = tt
      leaf_known w' false deep is_leaf = is_leaf

      abbrev keyed : Bool → Walk
      keyed hit = record w { stage = after_leaf op w.deep hit; key = value_of (s.cells (key_cell node)); found = hit }

      leaf_good : w.stage ≡ AtKey → value_of w.left ≡ 0 → (hit : Bool) → IsGood (keyed hit)
      leaf_good at none hit = later (keyed hit) (record { deep = refl; grand = refl; last = refl }) (known hit)
        where
          is_leaf : IsLeaf now node
          is_leaf = let among = reads.left at in old.leaf among.0 node w.left among.1 none

          known : (hit : Bool) → Knows now kept.covers kept.once key (keyed hit) (after_leaf op w.deep hit)
          known true = leaf_known (keyed true) (is_del op) w.deep (is_leaf, refl)
          known false = (is_leaf, refl)

      -- the last node's key
      key_good : w.stage ≡ AtKey → (leaf less : Bool) → (value_of w.left == 0) ≡ leaf → nat_lt key
          (value_of (s.cells (key_cell node))) ≡ less
          → IsGood (at_key (bounds layout) op w leaf less (s.cells (key_cell node)))
      key_good at true less test order = leaf_good at (equal_of (value_of w.left) 0 test)
          (value_of (s.cells (key_cell node)) == key)
      key_good at false true test order = linked_good true w.left (record {
        from = last.to;
        inner = knows.inner;
        some = not_none (value_of w.left) test;
        is_left = λ e. below_of key (value_of (s.cells (key_cell node))) order;
        is_right = λ e. absurd (let z = e in cc);
        to = record {
          once_linked = knows.once_linked (slot_in w.left) (before (value_of w.left) (not_none (value_of w.left) test));
          covers = λ inner. let leads = before (value_of w.left) (not_none (value_of w.left) test) in
              let hi = knows.hi (slot_in w.left) leads inner in
              let less : key < now.key node = below_of key (value_of (s.cells (key_cell node))) order in
              (knows.lo (slot_in w.left) leads inner, omega (arith, hi, less));
        };
        left = λ e inner. knows.order (slot_in w.left) (before (value_of w.left)
            (not_none (value_of w.left) test)) inner;
        right = λ e. absurd (let z = e in cc);
      })
        where
          knows : IsLeft now kept.covers kept.once key node w.left
          knows = subst (Knows now kept.covers kept.once key w) at is.knows (not_none (value_of w.left) test)
      key_good at false false test order = later
          (record w { stage = AtRight; key = value_of (s.cells (key_cell node)) })
          (record { deep = refl; grand = refl; last = refl })
          (knows.inner, not_less key (value_of (s.cells (key_cell node))) order)
        where
          knows : IsLeft now kept.covers kept.once key node w.left
          knows = subst (Knows now kept.covers kept.once key w) at is.knows (not_none (value_of w.left) test)

      -- its right link
      right_good : w.stage ≡ AtRight → s.status node ≢ Free → IsGood
          (followed (bounds layout) w false (s.cells (right_of node)))
      right_good at used = linked_good false (s.cells (right_of node)) (record {
        from = last.to;
        inner = knows.0;
        some = is_some;
        is_left = λ e. absurd (let z = e in cc);
        is_right = λ e. knows.1;
        to = record {
          once_linked = trail.once_linked;
          covers = λ inner. let right = trail.right refl inner in let covers = last.to.covers knows.0 in
              let a = right.0 in let b = right.1 in let c = covers.1 in let d = knows.1 in
              (omega (arith, a, d), omega (arith, b, c));
        };
        left = λ e. absurd (let z = e in cc);
        right = λ e inner. (trail.right refl inner).2;
      })
        where
          knows : IsInner now node × (now.key node ≤ key)
          knows = subst (Knows now kept.covers kept.once key w) at is.knows

          is_some : 0 < value_of (s.cells (right_of node))
          is_some = kept.right_some node used knows.0

          trail : IsTrail now kept.covers kept.once node (slot_in (s.cells (right_of node))) false
          trail = kept.trail node (slot_in (s.cells (right_of node))) false last.to.once_linked node_safe knows.0
              (before (value_of (s.cells (right_of node))) is_some)

      -- a lock or a mark that the walk tests
      tested_good : (passes : Bool) (stage : Stage) (w' : Walk) → w'.stage ≡ cond passes stage Refused → HasLinks w'
          → Knows now kept.covers kept.once key w' stage → IsGood w'
      tested_good true stage w' at same knows =
          later w' same (subst (Knows now kept.covers kept.once key w') (sym at) knows)
      tested_good false stage w' at same knows = refused_good w' at

    -- the walk goes on by a load of the place that it wants, of a slot in use
    fed_good : (w : Walk) (stage : Stage) (p : ℕ) → IsGood w → Reads readings (bounds layout) op w → w.stage ≡ stage
        → wanted_at w stage ≡ Some p → IsOutside tree s p
        → IsGood (fed (bounds layout) op w stage (s.cells p))
    fed_good w AtRoot p is reads at want outside = subst (λ p. IsGood (fed (bounds layout) op w AtRoot (s.cells p)))
        (some_eq (left_of 0) p want) (root_good w (reads.shallow at))
    fed_good w AtLeft p is reads at want outside = subst (λ p. IsGood (fed (bounds layout) op w AtLeft (s.cells p)))
        (some_eq (left_of (node_of w)) p want) (left_good w is reads (ap is_past at))
    fed_good w AtKey p is reads at want outside = subst (λ p. IsGood (fed (bounds layout) op w AtKey (s.cells p)))
        (some_eq (key_cell (node_of w)) p want)
        (key_good w is reads (ap is_past at) at (value_of w.left == 0)
        (nat_lt key (value_of (s.cells (key_cell (node_of w))))) refl refl)
    fed_good w AtRight p is reads at want outside = subst (λ p. IsGood (fed (bounds layout) op w AtRight (s.cells p)))
        (some_eq (right_of (node_of w)) p want)
        (right_good w is reads (ap is_past at) at (outside_used s (node_of w) 3 (omega arith) (omega arith)
        (subst (IsOutside tree s) (sym (some_eq (right_of (node_of w)) p want)) outside)))
    fed_good w AtValue p is reads at want outside = tested_good w is reads (ap is_past at)
        true AtLock (fed (bounds layout) op w AtValue (s.cells p)) refl
        (record { deep = refl; grand = refl; last = refl }) (subst (Knows now kept.covers kept.once key w) at is.knows)
    fed_good w AtGrandLock p is reads at want outside = tested_good w is reads (ap is_past at)
        (is_ready (bounds layout) (s.cells p)) AtGrandMark (fed (bounds layout) op w AtGrandLock (s.cells p)) refl
        (record { deep = refl; grand = refl; last = refl }) (subst (Knows now kept.covers kept.once key w) at is.knows)
    fed_good w AtGrandMark p is reads at want outside = tested_good w is reads (ap is_past at)
        (value_of (s.cells p) == 0) AtLock (fed (bounds layout) op w AtGrandMark (s.cells p)) refl
        (record { deep = refl; grand = refl; last = refl }) (subst (Knows now kept.covers kept.once key w) at is.knows)
    fed_good w AtLock p is reads at want outside = tested_good w is reads (ap is_past at)
        (is_ready (bounds layout) (s.cells p)) AtMark (fed (bounds layout) op w AtLock (s.cells p)) refl
        (record { deep = refl; grand = refl; last = refl }) (subst (Knows now kept.covers kept.once key w) at is.knows)
    fed_good w AtMark p is reads at want outside = tested_good w is reads (ap is_past at)
        (value_of (s.cells p) == 0) AtEnd (fed (bounds layout) op w AtMark (s.cells p)) refl
        (record { deep = refl; grand = refl; last = refl }) (subst (Knows now kept.covers kept.once key w) at is.knows)
    fed_good w AtEnd p is reads at want outside = absurd (none-some p want)
    fed_good w Refused p is reads at want outside = absurd (none-some p want)

    -- the walk in one more reading
    more_good : (p : ℕ) → IsOutside tree s p → IsGood (walk_of layout op readings) → IsGood
        (walk_of layout op (readings ++ (p, s.cells p) ∷ []))
    more_good p outside is = ⊎_elim
        (λ stays. subst IsGood (sym stays) is)
        (λ goes. subst IsGood (sym goes.1) (fed_good (walk_of layout op readings)
        (walk_of layout op readings).stage p is (walk_reads readings (bounds layout) op) refl goes.0 outside))
        (walk_push _ _ _ p (s.cells p) start readings)

  -- one more reading stands as it was read
  module _ (readings : Readings) (p : ℕ) (old : IsAsRead now readings) (outside : IsOutside tree s p) where
    abbrev more : Readings
    more = readings ++ (p, s.cells p) ∷ []

    -- a reading in it is one of the old ones, or is of this place
    own_place : {A : Type 0} (i q v : ℕ) → slice_get more i ≡ Some (q, v) → (slice_get readings i ≡ Some (q, v) → A)
        → (p ≡ q → v ≡ s.cells q → A) → A
    own_place i q v h before now_read = by_place s.cells readings p i q v h before now_read

    used_of : (t k : ℕ) → 0 < k → k < 5 → p ≡ 0 + 5 * t + k → s.status t ≢ Free
    used_of t k low high e = outside_used s t k low high (subst (IsOutside tree s) e outside)

    more_read : IsAsRead now more
    more_read = record {
      inner = λ i t w h some. own_place i (left_of t) w h (λ was. old.inner i t w was some)
          (λ at is. subst (λ k. 0 < value_of k) is some);
      leaf = λ i t w h none. own_place i (left_of t) w h (λ was. old.leaf i t w was none)
          (λ at is. ap value_of (sym is) ∙ none);
      key = λ i t w h. own_place i (key_cell t) w h (λ was. old.key i t w was) (λ at is. ap value_of is);
      value = λ i t w h leaf. own_place i (right_of t) w h (λ was. old.value i t w was leaf) (λ at is. ap value_of is);
      right = λ i t w h inner. own_place i (right_of t) w h (λ was. old.right i t w was inner)
          (λ at is. subst (λ k. 0 < value_of k) (sym is) (kept.right_some t
          (used_of t 3 (omega arith) (omega arith) at) inner));
      under_root = λ i v h. own_place i (left_of 0) v h (λ was. old.under_root i v was)
          (λ at is. subst (λ k. (value_of k ≡ 2) ⊎ ((t : ℕ) × (value_of k ≡ suc t) × IsInner now t))
          (sym is) under_root_now);
      marks = λ i t w h inner. own_place i (mark_of t) w h (λ was. old.marks i t w was inner)
          (λ at is. subst (λ k. value_of k ≤ 1) (sym is) (kept.mark_small t
          (used_of t 4 (omega arith) (omega arith) at) inner));
    }

-- an entered runner loads a place outside a run
pub keeps_reads : (layout : Layout) (s : Scene) (r p : ℕ) (readings : Readings) → s.reader r ≡ Some readings
    → IsLoadable tree readings p
    → Onward tree layout s (with_reading s r readings p)
keeps_reads layout s r p readings reader loadable sound kept sound' = reader_kept layout s r
    (Some (readings ++ (p, s.cells p) ∷ [])) sound kept
    (λ others e. subst (IsKeptReader layout s (with_reading s r readings p) sound kept)
    (list_eq (readings ++ (p, s.cells p) ∷ []) others e) own)
  where
    list_eq : (a b : Readings) → Some a ≡ Some b → a ≡ b
    list_eq a b e = cc

    -- what was read is no cell of a free slot, by the scene after the load
    outside : IsOutside tree s p
    outside = (sound'.readers r (readings ++ (p, s.cells p) ∷ [])
        (upd_same s.reader r r (Some (readings ++ (p, s.cells p) ∷ [])) refl)).outside
        (length readings) p (s.cells p) (push_last readings (p, s.cells p))

    own : IsKeptReader layout s (with_reading s r readings p) sound kept (readings ++ (p, s.cells p) ∷ [])
    own = record {
      read = more_read layout s kept readings p (kept.readers r readings reader) outside;
      walks = λ op low. more_good layout s kept readings (sound.readers r readings reader)
          (kept.readers r readings reader) op low p outside (kept.walks r readings op reader low);
    }
