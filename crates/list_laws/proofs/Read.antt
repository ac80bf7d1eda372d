-- The list keeps what it keeps, by one more reading of an entered runner.
use Rattle.std.specs.Prelude.{nat_lt, Bool, true, false, Some, [], ◌∷◌, ◌++◌, length, slice_get}
use Rattle.std.proofs.Common.{◌≡◌, ◌≢◌, ℕ, suc, ◌+◌, ◌*◌, ◌<◌, ◌≤◌, refl, sym, ap, ◌∙◌, subst, inl, ⊎_elim, arith}
use Rattle.std.proofs.lemmas.Option.{none-some}
use Rattle.structure_laws.specs.table_words.specs.small_lemmas.proofs.Lists.{same_number, get_last}
use Rattle.structure_laws.specs.table_words.specs.small_lemmas.proofs.Numbers.{tested_less}
use Rattle.structure_laws.specs.map_history.specs.declared.op.Op.{Op}
use Rattle.structure_laws.specs.map_history.specs.Keys.{key_of}
use Rattle.structure_laws.specs.body_terms.specs.Word.{value_of}
use Rattle.structure_laws.specs.table_words.specs.declared.layout.Layout.{Layout}
use Rattle.structure_laws.specs.Scene.{Readings, Free, Scene, with_reading}
use Rattle.structure_laws.specs.Cells.{IsSafe, IsOutside, IsLoadable}
use Rattle.structure_laws.specs.Sound.{IsRead, Sound}
use Rattle.structure_laws.specs.Keeps.{Onward}
use Rattle.structure_laws.proofs.Changes.{upd_same}
use Rattle.bucket_laws.proofs.TableGives.{reached}
use Rattle.node_laws.proofs.Walked.{walk_push, by_place}
use Rattle.list_bodies.specs.List.{key_cell, next_of, value_cell, mark_of, slot_in}
use Rattle.list_laws.specs.Line.{Nodes, last_key}
use Rattle.list_laws.specs.Walk.{Stage, AtLink, AtKey, AtValue, AtLock, AtMark, AtNodeLock, AtNodeMark, AtEnd, Refused}
use Rattle.list_laws.specs.Walk.{Walk, start, node_of, is_past, wanted_at, at_key, fed}
use Rattle.list_laws.specs.Nodes.{is_link_place, nodes, bounds, walk_of, IsAsRead, IsWalk, ListKept, list}
use Rattle.list_laws.proofs.Frame.{safe_used, outside_used, IsKeptReader}
use Rattle.list_laws.proofs.Line.{no_ring}
use Rattle.list_laws.proofs.Open.{leads_to}
use Rattle.list_laws.proofs.Pass.{reader_kept}
use Rattle.list_laws.proofs.WalkReads.{IsFrom, Reads, walk_reads}

module _ (layout : Layout) (s : Scene) (sound : Sound list layout s) (kept : ListKept layout s) where
  abbrev now : Nodes
  now = nodes s.cells

  module _ (readings : Readings) (read : IsRead list s readings) (op : Op) (low : key_of op < 4294967294) where
    abbrev key : ℕ
    key = key_of op

    abbrev IsGood : Walk → Type 0
    IsGood = IsWalk now kept.once key

    from_safe : (t : ℕ) → IsFrom readings t → IsSafe s t
    from_safe t from = ⊎_elim (λ fixed. inl (sound.fixed t fixed))
        (λ gives. let by = reached is_link_place readings t gives in
        read.safe by.0 by.1 by.2 t by.3 by.4 by.5) from

    -- the same two nodes, at another stage
    later : (w w' : Walk) → IsGood w → is_past w.stage ≡ true → w'.from ≡ w.from → w'.link ≡ w.link → IsGood w'
    later w w' is past e e' = record {
      from_once = ap kept.once e ∙ is.from_once;
      from_tail = λ z. is.from_tail (sym e ∙ z);
      from_key = λ some. subst (λ t. now.key t < key) (sym e) (is.from_key (λ z. some (e ∙ z)));
      node_once = λ past'. ap (λ l. kept.once (slot_in l)) e' ∙ is.node_once past;
      node_head = λ past' z. is.node_head past (sym (ap slot_in e') ∙ z);
      node_other = λ past' z. is.node_other past (sym (ap slot_in e') ∙ (z ∙ e));
      node_key = λ past' some. subst (λ t. now.key t ≤ now.key (node_of w')) (sym e)
          (subst (λ l. now.key w.from ≤ now.key (slot_in l)) (sym e') (is.node_key past (λ z. some (e ∙ z))));
    }

    -- the predecessor's link leads to the next node
    link_good : (w : Walk) (stage : Stage) (n : ℕ) → IsGood w → Reads readings (bounds layout) op w
        → IsGood (record w { stage = stage; links = n; link = s.cells (next_of w.from) })
    link_good w stage n is reads =
        let safe = from_safe w.from reads.from in
        let some = kept.next_some w.from (safe_used s w.from safe) is.from_tail in
        let leads : now.next w.from ≡ suc (slot_in (s.cells (next_of w.from))) = leads_to (now.next w.from) some in
        let trail = kept.trail w.from (slot_in (s.cells (next_of w.from))) is.from_once safe is.from_tail leads in
        record {
          from_once = is.from_once;
          from_tail = is.from_tail;
          from_key = is.from_key;
          node_once = λ past. trail.once_linked;
          node_head = λ past. trail.no_head;
          node_other = λ past same. no_ring now kept.linked kept.once kept.line w.from (kept.leads w.from is.from_once safe)
              is.from_tail (leads ∙ ap suc same);
          node_key = λ past ne. ⊎_elim (λ less. omega (arith, less)) (λ both. let same = both.0 in omega (arith, same))
              (trail.order ne);
        }

    -- a key below the wanted one: the node becomes the predecessor
    key_good : (w : Walk) (less : Bool) → nat_lt (value_of (s.cells (key_cell (node_of w)))) key ≡ less → IsGood w
        → is_past w.stage ≡ true → IsGood (at_key op w less (s.cells (key_cell (node_of w))))
    key_good w true test is past = let below : now.key (node_of w) < key = tested_less (now.key (node_of w)) key test in
        record {
          from_once = is.node_once past;
          from_tail = λ e. let tail : now.key (node_of w) ≡ last_key = ap now.key e ∙ kept.line.tail_key in
              omega (arith, below, low, tail);
          from_key = λ some. below;
          node_once = λ past. absurd (let z = past in cc);
          node_head = λ past. absurd (let z = past in cc);
          node_other = λ past. absurd (let z = past in cc);
          node_key = λ past. absurd (let z = past in cc);
        }
    key_good w false test is past = later w (at_key op w false (s.cells (key_cell (node_of w)))) is past refl refl

    -- the walk goes on by a load of the place that it wants
    fed_good : (w : Walk) (stage : Stage) (p : ℕ) → IsGood w → Reads readings (bounds layout) op w → w.stage ≡ stage
        → wanted_at w stage ≡ Some p → IsGood (fed (bounds layout) op w stage (s.cells p))
    fed_good w AtLink p is reads at want = subst (λ p. IsGood (fed (bounds layout) op w AtLink (s.cells p)))
        (same_number (next_of w.from) p want)
        (link_good w (fed (bounds layout) op w AtLink (s.cells (next_of w.from))).stage (suc w.links) is reads)
    fed_good w AtKey p is reads at want = subst (λ p. IsGood (fed (bounds layout) op w AtKey (s.cells p)))
        (same_number (key_cell (node_of w)) p want)
        (key_good w (nat_lt (value_of (s.cells (key_cell (node_of w)))) key) refl is (ap is_past at))
    fed_good w AtValue p is reads at want = later w (fed (bounds layout) op w AtValue (s.cells p)) is (ap is_past at)
        refl refl
    fed_good w AtLock p is reads at want = later w (fed (bounds layout) op w AtLock (s.cells p)) is (ap is_past at)
        refl refl
    fed_good w AtMark p is reads at want = later w (fed (bounds layout) op w AtMark (s.cells p)) is (ap is_past at)
        refl refl
    fed_good w AtNodeLock p is reads at want = later w (fed (bounds layout) op w AtNodeLock (s.cells p)) is
        (ap is_past at) refl refl
    fed_good w AtNodeMark p is reads at want = later w (fed (bounds layout) op w AtNodeMark (s.cells p)) is
        (ap is_past at) refl refl
    fed_good w AtEnd p is reads at want = absurd (none-some p want)
    fed_good w Refused p is reads at want = absurd (none-some p want)

    -- the walk in one more reading
    more_good : (p : ℕ) → IsGood (walk_of layout op readings)
        → IsGood (walk_of layout op (readings ++ (p, s.cells p) ∷ []))
    more_good p is = ⊎_elim
        (λ stays. subst IsGood (sym stays) is)
        (λ goes. subst IsGood (sym goes.1) (fed_good (walk_of layout op readings)
        (walk_of layout op readings).stage p is (walk_reads readings (bounds layout) op) refl goes.0))
        (walk_push _ _ _ p (s.cells p) start readings)

  -- one more reading stands as it was read
  module _ (readings : Readings) (p : ℕ) (old : IsAsRead now readings) (outside : IsOutside list s p) where
    abbrev more : Readings
    more = readings ++ (p, s.cells p) ∷ []

    -- a reading in it is one of the old ones, or is of this place
    own_place : {A : Type 0} (i q v : ℕ) → slice_get more i ≡ Some (q, v) → (slice_get readings i ≡ Some (q, v) → A)
        → (p ≡ q → v ≡ s.cells q → A) → A
    own_place i q v h before now_read = by_place s.cells readings p i q v h before now_read

    used_of : (t k : ℕ) → 0 < k → k < 5 → p ≡ 0 + 5 * t + k → s.status t ≢ Free
    used_of t k low high e = outside_used s t k low high (subst (IsOutside list s) e outside)

    more_read : IsAsRead now more
    more_read = record {
      key = λ i t w h. own_place i (key_cell t) w h (λ was. old.key i t w was) (λ at is. ap value_of is);
      value = λ i t w h. own_place i (value_cell t) w h (λ was. old.value i t w was) (λ at is. ap value_of is);
      next_some = λ i t w h inner. own_place i (next_of t) w h (λ was. old.next_some i t w was inner)
          (λ at is. subst (λ k. 0 < value_of k) (sym is) (kept.next_some t
          (used_of t 2 (omega arith) (omega arith) at) inner));
      marks = λ i t w h. own_place i (mark_of t) w h (λ was. old.marks i t w was)
          (λ at is. subst (λ k. value_of k ≤ 1) (sym is) (kept.mark_small t
          (used_of t 4 (omega arith) (omega arith) at)));
    }

-- an entered runner loads a place outside a run
pub keeps_reads : (layout : Layout) (s : Scene) (r p : ℕ) (readings : Readings) → s.reader r ≡ Some readings
    → IsLoadable list readings p → Onward list layout s (with_reading s r readings p)
keeps_reads layout s r p readings reader loadable sound kept sound' = reader_kept layout s r
    (Some (readings ++ (p, s.cells p) ∷ [])) sound kept
    (λ others e. subst (IsKeptReader layout s (with_reading s r readings p) sound kept)
    (list_eq (readings ++ (p, s.cells p) ∷ []) others e) own)
  where
    list_eq : (a b : Readings) → Some a ≡ Some b → a ≡ b
    list_eq a b e = cc

    -- what was read is no cell of a free slot, by the scene after the load
    outside : IsOutside list s p
    outside = (sound'.readers r (readings ++ (p, s.cells p) ∷ [])
        (upd_same s.reader r r (Some (readings ++ (p, s.cells p) ∷ [])) refl)).outside
        (length readings) p (s.cells p) (get_last readings (p, s.cells p))

    own : IsKeptReader layout s (with_reading s r readings p) sound kept (readings ++ (p, s.cells p) ∷ [])
    own = record {
      read = more_read layout s sound kept readings p (kept.readers r readings reader) outside;
      walks = λ op low. more_good layout s sound kept readings (sound.readers r readings reader) op low p
          (kept.walks r readings op reader low);
    }
