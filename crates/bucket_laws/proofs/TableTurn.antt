-- A table's sections, one after the other, do what the map does.
use Rattle.std.proofs.Common.{◌≡◌, ◌≢◌, ℕ, suc, ◌+◌, ◌*◌, ◌<◌, ◌≤◌, Bool, true, false, cond, refl, sym, ap, ◌∙◌, subst}
use Rattle.std.proofs.Common.{inl, ⊎_elim, arith}
use Rattle.std.specs.Prelude.{◌^◌, ◌==◌, ◌⊎◌, Option, Some, None, Contains, slice_index}
use Rattle.std.specs.FinMap.{get}
use Rattle.std.proofs.lemmas.Bool.{both_ways}
use mathlib.Core.Logic.{dite}
use native.Mathlib.Decide.{ℕ_discrete}
use Rattle.structure_laws.specs.table_words.specs.small_lemmas.proofs.Bools.{both_of as both_true}
use Rattle.structure_laws.specs.table_words.specs.small_lemmas.proofs.Lists.{none_if_never as none_is}
use Rattle.structure_laws.specs.table_words.specs.small_lemmas.proofs.Numbers.{tested_equal as equal_of}
use Rattle.structure_laws.specs.map_history.specs.declared.op.Op.{Op}
use Rattle.structure_laws.specs.map_history.specs.declared.op.Op.TheVariants.{Get, Ins, Del, Put, Mov}
use Rattle.structure_laws.specs.map_history.specs.Keys.{key_of, value_given}
use Rattle.structure_laws.specs.map_history.specs.Replay.{Pairs, reply_of, map_after}
use Rattle.structure_laws.specs.map_history.specs.Words.{word_of}
use Rattle.structure_laws.specs.body_terms.specs.Update.{upd}
use Rattle.structure_laws.specs.body_terms.specs.Word.{value_of, next_word}
use Rattle.bucket_bodies.specs.section_body.specs.Bucket.{bucket_lock, bucket_head, operand}
use Rattle.bucket_bodies.specs.Two.{takes_lower, high_half}
use Rattle.structure_laws.specs.body_terms.specs.declared.step.Step.TheVariants.{Load, Stamp, Answer}
use Rattle.structure_laws.specs.body_terms.specs.declared.thunk.Thunk.{Thunk}
use Rattle.structure_laws.specs.table_words.specs.declared.layout.Layout.{Layout}
use Rattle.structure_laws.specs.table_words.specs.Limits.{IsWithinLimits}
use Rattle.structure_laws.specs.table_words.specs.Places.{slot_count}
use Rattle.structure_laws.specs.Scene.{Cells, Section, Scene}
use Rattle.structure_laws.specs.Sections.{Here, IsStep, value_in}
use Rattle.structure_laws.specs.InTurn.{StandsFor, AtStamp, AfterStores}
use Rattle.structure_laws.proofs.Changes.{upd_same, upd_other, value-next_word, value_small}
use Rattle.structure_laws.proofs.Limits.{links_small, value-small}
use Rattle.bucket_laws.specs.Chain.{Nodes, with_head, with_next, with_value, Chains, Contents}
use Rattle.bucket_laws.specs.Walk.{Walk, cell_at}
use Rattle.bucket_laws.specs.TwoWalk.{side_op}
use Rattle.bucket_laws.specs.Halves.{Kind, Look, Insert, Remove, Set, Rename, Side, Own, Other, Half, HasHalf, IsMaking}
use Rattle.bucket_laws.specs.Halves.{look_half, insert_half, remove_half, set_half, rename_half, look_two_half}
use Rattle.bucket_laws.specs.Halves.{taking_half, putting_half, Form, Reads, Inserts, Removes, Sets, ReadsTwo, Moves}
use Rattle.bucket_laws.specs.Halves.{Renames, Empty, form_of, halves_of}
use Rattle.bucket_laws.specs.Buckets.{nodes, IsFound, IsMissing, bounds, BucketsKept, BucketsStand, table}
use Rattle.bucket_laws.proofs.Chain.{insert, top_of, remove_first, remove_next, replace_first, replace_next, chains_agree}
use Rattle.bucket_laws.proofs.Chain.{insert_contents, remove_contents, set_contents, contents_agree, same_on}
use Rattle.bucket_laws.proofs.Fit.{IsFit, form_few}
use Rattle.bucket_laws.proofs.HalfFit.{Serves, HalfFit, not_true, AnswerOf, OneCase, MovCase, op_case}
use Rattle.bucket_laws.proofs.Halves.{Makes, Takes, half_is, number_is, stored_for, answer_of, step_of}
use Rattle.bucket_laws.proofs.Halves.{stamp_is, of_one, of_two, some_form}
use Rattle.bucket_laws.proofs.Maps.{read_reply, insert_reply, remove_reply, set_reply, read_map, insert_map, remove_map}
use Rattle.bucket_laws.proofs.Maps.{set_map, still_moved, moved_reply, moved_map}
use Rattle.bucket_laws.proofs.NodeChanges.{head_changed, next_changed, value_changed, nodes_agree}
use Rattle.bucket_laws.proofs.Sections.{fit, half_fit, half_bucket, bucket_of, walk_at, knows, insert_head, put_missing}
use Rattle.bucket_laws.proofs.Sections.{take_target, set_target, IsTarget}
use Rattle.bucket_laws.proofs.TableGives.{live_free, target_on, set_node, same_bucket}
use Rattle.bucket_laws.proofs.Walks.{bool_cases, head_is, reached_on}

-- contents go by what is looked up
contents_same : (n : Nodes) (on : ℕ → Bool) (lookup lookup' : ℕ → Option ℕ) → Contents n on lookup → ((key : ℕ) → lookup key ≡ lookup' key) → Contents n on lookup'
contents_same n on lookup lookup' contents same = record { pair = λ t on_t. sym (same (n.key t)) ∙ contents.pair t on_t; slot = λ key value h. contents.slot key value (same key ∙ h) }

-- one more slot that is within the bound, and one less
pub upd_within : (n : ℕ) (on : ℕ → Bool) (t u : ℕ) → t < n → ((u : ℕ) → on u ≡ true → u < n) → upd on t true u ≡ true → u < n
upd_within n on t u low within h = dite (ℕ_discrete u t) (λ e. omega arith) (λ ne. within u (sym (upd_other on t u true ne) ∙ h))

pub upd_on : (on : ℕ → Bool) (t u : ℕ) → upd on t false u ≡ true → on u ≡ true
upd_on on t u h = dite (ℕ_discrete u t) (λ e. absurd (both_ways _ (upd_same on t u false e) h)) (λ ne. sym (upd_other on t u false ne) ∙ h)

own_served : (op : Op) → Serves op Own
own_served (Get key) = tt
own_served (Ins key value) = tt
own_served (Del key) = tt
own_served (Put key value) = tt
own_served (Mov from to) = tt

module _ (two : Bool) (buckets : ℕ) (bucket : ℕ → ℕ) (small : (key : ℕ) → bucket key < buckets)
    (few : 3 * buckets ≤ 12288) (layout : Layout) (limits : IsWithinLimits layout) (s : Scene) (pairs : Pairs) (d : ℕ)
    (x : Section) (before : StandsFor (table two buckets bucket) layout s pairs) (stamp : AtStamp (table two buckets bucket) s d x) where
  abbrev kept : BucketsKept two buckets bucket layout s
  kept = before.kept

  abbrev stands : BucketsStand buckets bucket (slot_count layout 0) s.cells pairs
  stands = before.stands

  abbrev now : Nodes
  now = nodes buckets bucket s.cells

  abbrev here : Here s d x
  here = stamp.here

  abbrev t : Thunk
  t = x.thunk

  -- the walk of each key, the key and its bucket
  abbrev walk_by : Side → Walk
  walk_by side = walk_at two buckets bucket small few layout limits s before.sound kept x side

  abbrev key : Side → ℕ
  key side = key_of (side_op x.op side)

  stands_on : (u : ℕ) → kept.on u ≡ true → stands.on u ≡ true
  stands_on u on = same_on bucket now kept.on stands.on kept.rank stands.rank kept.chains stands.chains u on

  kept_on : (u : ℕ) → stands.on u ≡ true → kept.on u ≡ true
  kept_on u on = same_on bucket now stands.on kept.on stands.rank kept.rank stands.chains kept.chains u on

  out_of : (u : ℕ) → kept.on u ≡ false → stands.on u ≡ false
  out_of u off = bool_cases (stands.on u) (λ on. absurd (both_ways _ off (kept_on u on))) (λ off. off)

  -- a key that its walk found is in the map with its value
  found_is : (side : Side) → IsFound buckets bucket s.cells kept.on (side_op x.op side) (walk_by side)
      → get pairs (key side) ≡ Some (walk_by side).value
  found_is side found =
      let w = walk_by side in
      let node = reached_on buckets bucket small s.cells kept.on kept.rank kept.chains (key side) w found.0 in
      ap (get pairs) (sym found.1) ∙ stands.contents.pair w.slot (stands_on w.slot node.0) ∙ ap Some found.2

  -- a key that it missed isn't
  missing_is : (k : ℕ) → IsMissing buckets bucket s.cells kept.on k → get pairs k ≡ None
  missing_is k missing = none_is (get pairs k) (λ v h. let there = stands.contents.slot k v h in missing there.0 (kept_on there.0 there.1) there.2)

  -- its form, and its halves at the Stamp
  abbrev form : Form
  form = form_of two t

  some : form ≡ Empty → ⊥
  some = some_form two t x.at Stamp stamp.stamp

  at_stamp : (h : Half) → HasHalf two x h → (h.wanted ≤ x.at) × (x.at ≤ h.change) × (h.made < h.change → h.made < x.at)
  at_stamp h has = stamp_is two t h has x.at stamp.stamp

  -- what the walk of each key found or missed is in the map or isn't
  looks : (side : Side) → Serves x.op side → ((walk_by side).found ≡ true → get pairs (key side) ≡ Some (walk_by side).value)
      × ((walk_by side).found ≡ false → get pairs (key side) ≡ None)
  looks side served =
      let seen = (fit two buckets bucket small few layout limits s before.sound kept d x here).seen some side served in
      let at = at_stamp seen.0 seen.1 in
      let known = knows two buckets bucket small few layout limits s before.sound kept d x seen.0 here seen.1 at.0 at.1 side seen.2 in
      (λ found. found_is side (known.1 found), λ missing. missing_is (key side) (known.2 missing))

  -- of an operation over one key
  module _ (one : OneCase two buckets bucket small few (bounds buckets bucket layout) x.op x.readings t) where
    fits : IsFit buckets bucket (side_op x.op Own) (walk_by Own) t
    fits = one.1

    few_forms : (n : ℕ) → t.form ≡ n → 4 < n → ⊥
    few_forms n is high = let low = form_few (side_op x.op Own) (walk_by Own).found in let same = fits.form in omega arith

    own_looks : ((walk_by Own).found ≡ true → get pairs (key Own) ≡ Some (walk_by Own).value)
        × ((walk_by Own).found ≡ false → get pairs (key Own) ≡ None)
    own_looks = looks Own (own_served x.op)

    one_answer : (f : Form) → form ≡ f → answer_of f t ≡ word_of (reply_of pairs (side_op x.op Own))
    one_answer Reads is = ap (λ numbers. slice_index numbers 1) fits.operands
        ∙ read_reply buckets pairs (side_op x.op Own) (walk_by Own) (walk_by Own).found
        (sym fits.form ∙ number_is two t Reads is (λ e. cc)) own_looks.0 own_looks.1
    one_answer Inserts is = let number = number_is two t Inserts is (λ e. cc) in
        insert_reply pairs (side_op x.op Own) (walk_by Own).found (sym fits.form ∙ number)
        (own_looks.1 (fits.insert number).0)
    one_answer Removes is = let found = fits.remove (number_is two t Removes is (λ e. cc)) in
        remove_reply pairs (side_op x.op Own) (walk_by Own).value found.1.0 (own_looks.0 found.0)
    one_answer Sets is = let found = fits.sets (number_is two t Sets is (λ e. cc)) in let named = found.1 in
        named.5 ∙ set_reply pairs (side_op x.op Own) named.0 named.1 (walk_by Own).value named.2 (own_looks.0 found.0)
    one_answer ReadsTwo is = absurd (few_forms 21 (number_is two t ReadsTwo is (λ e. cc)) (omega arith))
    one_answer Moves is = absurd (few_forms 22 (number_is two t Moves is (λ e. cc)) (omega arith))
    one_answer Renames is = absurd (few_forms 23 (number_is two t Renames is (λ e. cc)) (omega arith))
    one_answer Empty is = absurd (some is)

  -- of one over two
  module _ (mov : MovCase two buckets bucket small few (bounds buckets bucket layout) x.op x.readings t) where
    from_is : key Own ≡ mov.from
    from_is = ap (λ op. key_of (side_op op Own)) mov.is

    to_is : key Other ≡ mov.to
    to_is = ap (λ op. key_of (side_op op Other)) mov.is

    other_served : (mov.from == mov.to) ≡ false → Serves x.op Other
    other_served other = subst (λ op. Serves op Other) (sym mov.is) other

    from_looks : ((walk_by Own).found ≡ true → get pairs mov.from ≡ Some (walk_by Own).value)
        × ((walk_by Own).found ≡ false → get pairs mov.from ≡ None)
    from_looks = let own = looks Own (own_served x.op) in (
      λ found. ap (get pairs) (sym from_is) ∙ own.0 found,
      λ missed. ap (get pairs) (sym from_is) ∙ own.1 missed,
    )

    to_looks : (mov.from == mov.to) ≡ false
        → ((walk_by Other).found ≡ true → get pairs mov.to ≡ Some (walk_by Other).value)
        × ((walk_by Other).found ≡ false → get pairs mov.to ≡ None)
    to_looks other = let own = looks Other (other_served other) in (
      λ found. ap (get pairs) (sym to_is) ∙ own.0 found,
      λ missed. ap (get pairs) (sym to_is) ∙ own.1 missed,
    )

    -- where nothing moves
    stays : mov.moved ≡ false
        → (cond (walk_by Own).found (2 * 2 ^ 32) (5 * 2 ^ 32) ≡ word_of (reply_of pairs (Mov mov.from mov.to)))
        × (pairs ≡ map_after pairs (Mov mov.from mov.to))
    stays still = still_moved pairs mov.from mov.to (walk_by Own).found (walk_by Other).found (mov.from == mov.to)
        (λ found. ((walk_by Own).value, from_looks.0 found)) from_looks.1 (λ same. sym (equal_of mov.from mov.to same))
        (λ other found. ((walk_by Other).value, (to_looks other).0 found)) (sym mov.tests ∙ still)

    -- where the value moves
    found_first : mov.moved ≡ true → (walk_by Own).found ≡ true
    found_first goes = (both_true _ _ (sym mov.tests ∙ goes)).0

    is_other : mov.moved ≡ true → (mov.from == mov.to) ≡ false
    is_other goes = not_true _ (both_true _ _ (both_true _ _ (sym mov.tests ∙ goes)).1).1

    missed_second : mov.moved ≡ true → (walk_by Other).found ≡ false
    missed_second goes = not_true _ (both_true _ _ (both_true _ _ (sym mov.tests ∙ goes)).1).0

    has_from : mov.moved ≡ true → get pairs mov.from ≡ Some (walk_by Own).value
    has_from goes = from_looks.0 (found_first goes)

    lacks_to : mov.moved ≡ true → get pairs mov.to ≡ None
    lacks_to goes = (to_looks (is_other goes)).1 (missed_second goes)

    mov_answer : (f : Form) → AnswerOf f (walk_by Own) t mov.moved
        → answer_of f t ≡ word_of (reply_of pairs (Mov mov.from mov.to))
    mov_answer Reads answer = answer.1 ∙ (stays answer.0).0
    mov_answer Inserts answer = absurd answer
    mov_answer Removes answer = absurd answer
    mov_answer Sets answer = absurd answer
    mov_answer ReadsTwo answer = answer.1 ∙ (stays answer.0).0
    mov_answer Moves answer = moved_reply pairs mov.from mov.to (walk_by Own).value (has_from answer.0) (lacks_to answer.0)
    mov_answer Renames answer =
        moved_reply pairs mov.from mov.to (walk_by Own).value (has_from answer.0) (lacks_to answer.0)
    mov_answer Empty answer = absurd answer

  abbrev cases : OneCase two buckets bucket small few (bounds buckets bucket layout) x.op x.readings t
      ⊎ MovCase two buckets bucket small few (bounds buckets bucket layout) x.op x.readings t
  cases = op_case two buckets bucket small few (bounds buckets bucket layout) x.op x.readings t (before.sound.fits d x here)

  pub table_answers : (j n : ℕ) → IsStep (table two buckets bucket) x j (Answer n) → n ≡ word_of (reply_of pairs x.op)
  table_answers j n answers = step_of two t j (Answer n) answers ∙ ⊎_elim
      (λ one. one_answer one form refl ∙ ap (λ op. word_of (reply_of pairs op)) one.0)
      (λ mov. mov_answer mov form (mov.answer form refl some) ∙ ap (λ op. word_of (reply_of pairs op)) (sym mov.is))
      cases

  -- a new node that a half has made
  record IsNewNode (h : Half) (u : ℕ) : Type 0 where
    pub reg : x.reg h.node_reg ≡ suc u
    pub off : stands.on u ≡ false
    pub within : u < slot_count layout 0
    pub narrow : suc u < 2 ^ 32
    pub key_is : now.key u ≡ key h.side
    pub value_is : now.value u ≡ h.value
    pub next_is : now.next u ≡ h.next
    pub new : (v : ℕ) → stands.on v ≡ true → now.key v ≢ now.key u

  new_node : (h : Half) → HasHalf two x h → Makes h.kind → (u : ℕ) × IsNewNode h u
  new_node h has makes =
      let lt = (half_is two t h has).insert.0 makes in
      let at = at_stamp h has in
      let making : IsMaking x h = (at.2 lt, at.1) in
      let made = kept.made d x h here has making in
      let held = kept.owned d x made.0 here (h, has, inl (making, made.1)) in
      let within = before.sound.within made.0 (live_free (s.status made.0) held.0) in
      let key_is : now.key made.0 ≡ key h.side = made.2.key ∙ ((half_fit two buckets bucket small few layout limits s before.sound kept d x h here has).puts makes).2 in
      let missing = put_missing two buckets bucket small few layout limits s before.sound kept d x h here has at.0 at.1 makes in (
        made.0,
        record {
          reg = made.1;
          off = out_of made.0 held.1;
          within = within;
          narrow = links_small layout 0 made.0 limits (omega arith) within;
          key_is = key_is;
          value_is = made.2.value;
          next_is = made.2.next;
          new = λ v on e. missing v (kept_on v on) (e ∙ key_is);
        },
      )

  module _ (after : Cells) (stores : AfterStores (table two buckets bucket) x s.cells after) where
    abbrev then_nodes : Nodes
    then_nodes = nodes buckets bucket after

    abbrev StandsAfter : Type 0
    StandsAfter = BucketsStand buckets bucket (slot_count layout 0) after (map_after pairs x.op)

    -- a head or a cell of a node that no half changes
    abbrev IsUnchanged : ℕ → Type 0
    IsUnchanged p = (h : Half) → HasHalf two x h → h.change < h.edition → p ≢ h.target

    unstored : (p : ℕ) → ((h : Half) → HasHalf two x h → p ≢ h.lock + 1) → IsUnchanged p → after p ≡ s.cells p
    unstored p edition target = stores.same p (λ i j r v store load.
        let step = step_of two t j (Load p r) load in
        ⊎_elim (λ e. edition step.0 step.1 e.2) (λ e. target step.0 step.1 e.0 e.3) step.2)

    head_edition : (j : ℕ) (h : Half) → HasHalf two x h → bucket_head j ≢ h.lock + 1
    head_edition j h has e = let place = (half_bucket two buckets bucket small few layout limits s before.sound kept d x h here has).2 in omega arith

    cell_edition : (u k : ℕ) (h : Half) → HasHalf two x h → cell_at buckets bucket u k ≢ h.lock + 1
    cell_edition u k h has e = let place = half_bucket two buckets bucket small few layout limits s before.sound kept d x h here has in let low = place.1 in let at = place.2 in
        omega arith

    -- what a half stores
    stored_is : (h : Half) → HasHalf two x h → h.change < h.edition
        → after h.target ≡ next_word (x.reg h.target_reg) (value_in x.reg (stored_for h.kind h))
    stored_is h has changes = let half = half_is two t h has in
        stores.changed h.change h.load h.target h.target_reg (stored_for h.kind h) (half.steps changes).2
        (half.steps changes).0

    stored_link : (h : Half) → HasHalf two x h → h.change < h.edition → (k : Kind) → h.kind ≡ k
        → after h.target ≡ next_word (x.reg h.target_reg) (value_in x.reg (stored_for k h))
    stored_link h has changes k kind = stored_is h has changes
        ∙ ap (λ k. next_word (x.reg h.target_reg) (value_in x.reg (stored_for k h))) kind

    changing : (h : Half) → HasHalf two x h → (h.kind ≡ Look → ⊥) → h.change < h.edition
    changing h has other = (half_is two t h has).look.1 other

    -- a section that reads alone
    read_stands : ((h : Half) → HasHalf two x h → h.kind ≡ Look)
        → ((q : ℕ) → get pairs q ≡ get (map_after pairs x.op) q) → StandsAfter
    read_stands look same_map =
        let same : now ≡ then_nodes = nodes_agree buckets bucket s.cells after
        (λ j low. sym (unstored (bucket_head j) (head_edition j) (none (bucket_head j))))
        (λ u k first last. sym (unstored (cell_at buckets bucket u k) (cell_edition u k)
        (none (cell_at buckets bucket u k)))) in
        record {
          on = stands.on;
          rank = stands.rank;
          within = stands.within;
          chains = subst (λ n. Chains bucket n stands.on stands.rank) same stands.chains;
          contents = subst (λ n. Contents n stands.on (get (map_after pairs x.op))) same
              (contents_same now stands.on (get pairs) (get (map_after pairs x.op)) stands.contents same_map);
        }
      where
        none : (p : ℕ) → IsUnchanged p
        none p h has changes = let same = (half_is two t h has).look.0 (look h has) in absurd (omega arith)

    -- of a section that changes one place, and of one that changes two
    one_change : (h : Half) → ((g : Half) → HasHalf two x g → h ≡ g)
        → nodes buckets bucket (upd s.cells h.target (after h.target)) ≡ then_nodes
    one_change h only = nodes_agree buckets bucket (upd s.cells h.target (after h.target)) after
        (λ j low. settled (bucket_head j) (head_edition j))
        (λ u k first last. settled (cell_at buckets bucket u k) (cell_edition u k))
      where
        settled : (p : ℕ) → ((g : Half) → HasHalf two x g → p ≢ g.lock + 1)
            → upd s.cells h.target (after h.target) p ≡ after p
        settled p edition = dite (ℕ_discrete p h.target)
            (λ e. upd_same s.cells h.target p (after h.target) e ∙ ap after (sym e))
            (λ ne. upd_other s.cells h.target p (after h.target) ne
            ∙ sym (unstored p edition (λ g has changes e. ne (e ∙ ap (λ g. g.target) (sym (only g has))))))

    two_changes : (h g : Half) → ((k : Half) → HasHalf two x k → (h ≡ k) ⊎ (g ≡ k))
        → nodes buckets bucket (upd (upd s.cells h.target (after h.target)) g.target (after g.target)) ≡ then_nodes
    two_changes h g only =
        nodes_agree buckets bucket (upd (upd s.cells h.target (after h.target)) g.target (after g.target)) after
        (λ j low. settled (bucket_head j) (head_edition j))
        (λ u k first last. settled (cell_at buckets bucket u k) (cell_edition u k))
      where
        settled : (p : ℕ) → ((k : Half) → HasHalf two x k → p ≢ k.lock + 1)
            → upd (upd s.cells h.target (after h.target)) g.target (after g.target) p ≡ after p
        settled p edition = dite (ℕ_discrete p g.target)
            (λ e. upd_same (upd s.cells h.target (after h.target)) g.target p (after g.target) e ∙ ap after (sym e))
            (λ ne. upd_other (upd s.cells h.target (after h.target)) g.target p (after g.target) ne
            ∙ dite (ℕ_discrete p h.target)
            (λ e. upd_same s.cells h.target p (after h.target) e ∙ ap after (sym e))
            (λ ne'. upd_other s.cells h.target p (after h.target) ne'
            ∙ sym (unstored p edition (λ k has changes e. ⊎_elim (λ first. ne' (e ∙ ap (λ k. k.target) (sym first)))
            (λ second. ne (e ∙ ap (λ k. k.target) (sym second))) (only k has)))))

    -- the value of a stored link
    made_link : (h : Half) → HasHalf two x h → h.change < h.edition → (k : Kind) → h.kind ≡ k → Makes k → (u : ℕ)
        → IsNewNode h u → value_of (after h.target) ≡ suc u
    made_link h has changes Look kind makes u new = absurd makes
    made_link h has changes Insert kind makes u new = ap value_of (stored_link h has changes Insert kind)
        ∙ value-next_word (x.reg h.target_reg) (value_of (x.reg h.node_reg)) (value_small (x.reg h.node_reg))
        ∙ ap value_of new.reg ∙ value-small (suc u) new.narrow
    made_link h has changes Remove kind makes u new = absurd makes
    made_link h has changes Set kind makes u new = absurd makes
    made_link h has changes Rename kind makes u new = ap value_of (stored_link h has changes Rename kind)
        ∙ value-next_word (x.reg h.target_reg) (value_of (x.reg h.node_reg)) (value_small (x.reg h.node_reg))
        ∙ ap value_of new.reg ∙ value-small (suc u) new.narrow

    -- what is left where a half has taken its node out
    record IsLeft (h : Half) (n : Nodes) : Type 0 where
      pub is : n ≡ nodes buckets bucket (upd s.cells h.target (after h.target))
      pub keys : n.key ≡ now.key
      pub values : n.value ≡ now.value
      pub heads : (i : ℕ) → i ≢ bucket_of two buckets bucket small few layout limits s before.sound kept x Own → n.head i ≡ now.head i
      pub nexts : (u : ℕ) → stands.on u ≡ false → n.next u ≡ now.next u
      pub chains : Chains bucket n (upd stands.on h.gone false) stands.rank

    gone_on : (h : Half) → HasHalf two x h → Takes h.kind → stands.on h.gone ≡ true
    gone_on h has takes = let at = at_stamp h has in
        stands_on h.gone (target_on two buckets bucket small few layout limits s before.sound kept d x h here has at.0 at.1 takes)

    left_by : (h : Half) → HasHalf two x h → h.kind ≡ Remove → (n : Nodes) × IsLeft h n
    left_by h has kind =
        let takes : Takes h.kind = subst Takes (sym kind) tt in
        let at = at_stamp h has in
        let target : IsTarget two buckets bucket small few layout limits s before.sound kept x h = take_target two buckets bucket small few layout limits s before.sound kept d x h here has at.0 at.1 takes in
        let own = bucket_of two buckets bucket small few layout limits s before.sound kept x Own in
        let low = small (key Own) in
        let gone = h.gone in
        let changes = changing h has (λ e. let no = sym e ∙ kind in cc) in
        let narrow : h.next < 2 ^ 32 = subst (λ z. z < 2 ^ 32) target.next
        (value_small (s.cells (cell_at buckets bucket gone 3))) in
        let stored : value_of (after h.target) ≡ h.next = ap value_of (stored_link h has changes Remove kind)
        ∙ value-next_word (x.reg h.target_reg) h.next narrow in
        ⊎_elim
        (λ head.
        let link : now.head own ≡ suc gone = head_is buckets bucket small s.cells (key Own)
        ∙ ap (λ p. value_of (s.cells p)) (sym head) ∙ target.leads in (
          with_head now own h.next,
          record {
            is = ap (with_head now own) (sym stored) ∙ head_changed buckets bucket s.cells own (after h.target) low
                ∙ ap (λ p. nodes buckets bucket (upd s.cells p (after h.target))) (sym head);
            keys = refl;
            values = refl;
            heads = λ i ne. upd_other now.head own i h.next ne;
            nexts = λ u off. refl;
            chains = subst (λ link. Chains bucket (with_head now own link) (upd stands.on gone false) stands.rank)
                target.next (remove_first bucket now stands.on stands.rank stands.chains own gone link);
          },
        ))
        (λ node.
        let link : now.next node.0 ≡ suc gone = ap (λ p. value_of (s.cells p)) (sym node.2) ∙ target.leads in
        let on = stands_on node.0 node.1.0 in (
          with_next now node.0 h.next,
          record {
            is = ap (with_next now node.0) (sym stored) ∙ next_changed buckets bucket s.cells node.0 (after h.target)
                ∙ ap (λ p. nodes buckets bucket (upd s.cells p (after h.target))) (sym node.2);
            keys = refl;
            values = refl;
            heads = λ i ne. refl;
            nexts = λ u off. upd_other now.next node.0 u h.next (λ e. both_ways _ (ap stands.on (sym e) ∙ off) on);
            chains = subst (λ link. Chains bucket (with_next now node.0 link) (upd stands.on gone false) stands.rank)
                target.next (remove_next bucket now stands.on stands.rank stands.chains node.0 gone on link);
          },
        ))
        target.link

    left_contents : (h : Half) → HasHalf two x h → Takes h.kind → (n : Nodes) → n.key ≡ now.key → n.value ≡ now.value
        → Contents n (upd stands.on h.gone false) (upd (get pairs) (now.key h.gone) None)
    left_contents h has takes n keys values =
        let on = gone_on h has takes in
        remove_contents now n stands.on (get pairs) stands.contents h.gone keys values on
        (λ u on_u e. stands.chains.key_once u h.gone on_u on e)

    gone_key : (h : Half) → HasHalf two x h → Takes h.kind → now.key h.gone ≡ key Own
    gone_key h has takes = let at = at_stamp h has in (take_target two buckets bucket small few layout limits s before.sound kept d x h here has at.0 at.1 takes).key

    -- a half of the body, by its form
    has_of : (f : Form) → form ≡ f → (h : Half) → Contains (halves_of f t) h → HasHalf two x h
    has_of f is h has = subst (λ f. Contains (halves_of f t) h) (sym is) has

    of_form : (f : Form) → form ≡ f → (h : Half) → HasHalf two x h → Contains (halves_of f t) h
    of_form f is h has = subst (λ f. Contains (halves_of f t) h) is has

    -- of an operation over one key
    module _ (one : OneCase two buckets bucket small few (bounds buckets bucket layout) x.op x.readings t) where
      abbrev op : Op
      op = side_op x.op Own

      -- the map of the walk's operation is that of the section's
      map_is : (q : ℕ) → get (map_after pairs op) q ≡ get (map_after pairs x.op) q
      map_is q = ap (λ op. get (map_after pairs op) q) one.0

      insert_stands : form ≡ Inserts → StandsAfter
      insert_stands is =
          let h = insert_half t in
          let has = has_of Inserts is h (0, omega arith, refl) in
          let changes = changing h has (λ e. cc) in
          let own = bucket_of two buckets bucket small few layout limits s before.sound kept x Own in
          let low = small (key Own) in
          let named = ((fits one).insert (number_is two t Inserts is (λ e. cc))).1 in
          let missed = (own_looks one).1 ((fits one).insert (number_is two t Inserts is (λ e. cc))).0 in
          let some = new_node h has tt in
          let u = some.0 in
          let new = some.1 in
          let at = at_stamp h has in
          let place : h.target ≡ bucket_head own = same_head own (half_fit two buckets bucket small few layout limits s before.sound kept d x h here has) in
          let link : value_of (after h.target) ≡ suc u = made_link h has changes Insert refl tt u new in
          let same : with_head now own (suc u) ≡ then_nodes = ap (with_head now own) (sym link)
          ∙ head_changed buckets bucket s.cells own (after h.target) low
          ∙ ap (λ p. nodes buckets bucket (upd s.cells p (after h.target))) (sym place)
          ∙ one_change h (λ g has'. of_one h g (of_form Inserts is g has')) in
          let top = top_of bucket now stands.on stands.rank stands.chains own in
          let first : now.next u ≡ now.head own = new.next_is ∙ insert_head two buckets bucket small few layout limits s before.sound kept d x h here has at.0 at.1 refl
          ∙ sym (head_is buckets bucket small s.cells (key Own)) in
          let none : get pairs (now.key u) ≡ None = ap (get pairs) new.key_is ∙ missed in
          record {
            on = upd stands.on u true;
            rank = upd stands.rank u top.0;
            within = λ v on. upd_within (slot_count layout 0) stands.on u v new.within stands.within on;
            chains = subst (λ n. Chains bucket n (upd stands.on u true) (upd stands.rank u top.0)) same
                (insert bucket now stands.on stands.rank stands.chains own u top.0 new.off (ap bucket new.key_is) first
                top.1 new.new);
            contents = contents_same then_nodes (upd stands.on u true) (upd (get pairs) (now.key u) (Some (now.value u)))
                (get (map_after pairs x.op))
                (subst (λ n. Contents n (upd stands.on u true) (upd (get pairs) (now.key u) (Some (now.value u)))) same
                (insert_contents now stands.on (get pairs) stands.contents own u new.off none))
                (λ q. ap (λ k. upd (get pairs) k (Some (now.value u)) q) (new.key_is ∙ named.2.0)
                ∙ ap (λ v. upd (get pairs) named.0 (Some v) q) (new.value_is ∙ named.4)
                ∙ insert_map pairs op named.0 named.1 named.2 (ap (get pairs) (sym named.2.0) ∙ missed) q ∙ map_is q);
          }
        where
          same_head : (own : ℕ) → HalfFit buckets bucket (side_op x.op) (walk_at two buckets bucket small few layout limits s before.sound kept x) (insert_half t)
              → t.lock + 2 ≡ bucket_head (bucket_of two buckets bucket small few layout limits s before.sound kept x Own)
          same_head own fit = let place = (fit.puts tt).0.place in omega arith

      remove_stands : form ≡ Removes → StandsAfter
      remove_stands is =
          let h = remove_half t in
          let has = has_of Removes is h (0, omega arith, refl) in
          let left = left_by h has refl in
          let n = left.0 in
          let same : n ≡ then_nodes = left.1.is ∙ one_change h (λ g has'. of_one h g (of_form Removes is g has')) in
          record {
            on = upd stands.on h.gone false;
            rank = stands.rank;
            within = λ u on. stands.within u (upd_on stands.on h.gone u on);
            chains = subst (λ n. Chains bucket n (upd stands.on h.gone false) stands.rank) same left.1.chains;
            contents = contents_same then_nodes (upd stands.on h.gone false) (upd (get pairs) (now.key h.gone) None)
                (get (map_after pairs x.op))
                (subst (λ n. Contents n (upd stands.on h.gone false) (upd (get pairs) (now.key h.gone) None)) same
                (left_contents h has tt n left.1.keys left.1.values))
                (λ q. ap (λ k. upd (get pairs) k None q) (gone_key h has tt)
                ∙ remove_map pairs op ((fits one).remove (number_is two t Removes is (λ e. cc))).1.0 q ∙ map_is q);
          }

      set_stands : form ≡ Sets → StandsAfter
      set_stands is =
          let h = set_half t in
          let has = has_of Sets is h (0, omega arith, refl) in
          let at = at_stamp h has in
          let changes = changing h has (λ e. cc) in
          let target = set_target two buckets bucket small few layout limits s before.sound kept d x h here has at.0 at.1 refl in
          let named = ((fits one).sets (number_is two t Sets is (λ e. cc))).1 in
          let u = (walk_by Own).slot in
          let on_u : stands.on u ≡ true = stands_on u (set_node two buckets bucket small few layout limits s before.sound kept d x h here has at.0 at.1 refl).0 in
          let narrow : h.value < 2 ^ 32 = (let low = (before.sound.allowed d x here).value named.1
          (ap value_given (sym one.0) ∙ ap value_given named.2) in let at = named.4 in omega arith) in
          let stored : value_of (after h.target) ≡ h.value = ap value_of (stored_link h has changes Set refl)
          ∙ value-next_word (x.reg h.target_reg) h.value narrow in
          let same : with_value now u h.value ≡ then_nodes = ap (with_value now u) (sym stored)
          ∙ value_changed buckets bucket s.cells u (after h.target)
          ∙ ap (λ p. nodes buckets bucket (upd s.cells p (after h.target))) (sym target.place)
          ∙ one_change h (λ g has'. of_one h g (of_form Sets is g has')) in
          record {
            on = stands.on;
            rank = stands.rank;
            within = stands.within;
            chains = subst (λ n. Chains bucket n stands.on stands.rank) same
                (chains_agree bucket now (with_value now u h.value) stands.on stands.rank stands.chains (λ i. refl)
                (λ u on. refl) (λ u on. refl));
            contents = contents_same then_nodes stands.on (upd (get pairs) (now.key u) (Some h.value))
                (get (map_after pairs x.op))
                (subst (λ n. Contents n stands.on (upd (get pairs) (now.key u) (Some h.value))) same
                (set_contents now stands.on (get pairs) stands.contents u h.value on_u
                (λ v on e. stands.chains.key_once v u on on_u e)))
                (λ q. ap (λ k. upd (get pairs) k (Some h.value) q) target.key
                ∙ ap (λ v. upd (get pairs) (key Own) (Some v) q) named.4
                ∙ set_map pairs op named.0 named.1 named.2 q ∙ map_is q);
          }

      one_stands : (f : Form) → form ≡ f → StandsAfter
      one_stands Reads is = read_stands
          (λ h has. ap (λ h. h.kind) (sym (of_one (look_half t) h (of_form Reads is h has))))
          (λ q. read_map pairs op (walk_by Own).value (walk_by Own).found
          (sym (fits one).form ∙ number_is two t Reads is (λ e. cc)) (own_looks one).0 (own_looks one).1 q ∙ map_is q)
      one_stands Inserts is = insert_stands is
      one_stands Removes is = remove_stands is
      one_stands Sets is = set_stands is
      one_stands ReadsTwo is = absurd (few_forms one 21 (number_is two t ReadsTwo is (λ e. cc)) (omega arith))
      one_stands Moves is = absurd (few_forms one 22 (number_is two t Moves is (λ e. cc)) (omega arith))
      one_stands Renames is = absurd (few_forms one 23 (number_is two t Renames is (λ e. cc)) (omega arith))
      one_stands Empty is = absurd (some is)

    -- of one over two
    module _ (mov : MovCase two buckets bucket small few (bounds buckets bucket layout) x.op x.readings t) where
      -- the map after it, where the value moves: the node that goes has the first key, and the new one the second
      goes_map : mov.moved ≡ true → (gone new v : ℕ) → gone ≡ mov.from → new ≡ mov.to → v ≡ (walk_by Own).value → (q : ℕ)
          → upd (upd (get pairs) gone None) new (Some v) q ≡ get (map_after pairs x.op) q
      goes_map goes gone new v first second value q = ap (λ k. upd (upd (get pairs) k None) new (Some v) q) first
          ∙ ap (λ k. upd (upd (get pairs) mov.from None) k (Some v) q) second
          ∙ ap (λ v. upd (upd (get pairs) mov.from None) mov.to (Some v) q) value
          ∙ moved_map pairs mov.from mov.to (walk_by Own).value (has_from mov goes) (lacks_to mov goes) q
          ∙ ap (λ op. get (map_after pairs op) q) (sym mov.is)

      keys_apart : mov.moved ≡ true → mov.to ≢ mov.from
      keys_apart goes same = both_ways _ (is_other mov goes) (same_test mov.from mov.to (sym same))
        where
          same_test : (i j : ℕ) → i ≡ j → (i == j) ≡ true
          same_test i j e = grind arith

      lacks_after : mov.moved ≡ true → (gone new : ℕ) → gone ≡ mov.from → new ≡ mov.to
          → upd (get pairs) gone None new ≡ None
      lacks_after goes gone new first second = upd_other (get pairs) gone new None
          (λ e. keys_apart goes (sym second ∙ e ∙ first)) ∙ ap (get pairs) second ∙ lacks_to mov goes

      -- the value moves to another bucket
      move_stands : form ≡ Moves → (mov.moved ≡ true) × (high_half t 6 ≡ (walk_by Own).value) → StandsAfter
      move_stands is answer =
          let lower = takes_lower t in
          let h = taking_half lower t in
          let g = putting_half lower t in
          let has = has_of Moves is h (0, omega arith, refl) in
          let has' = has_of Moves is g (1, omega arith, refl) in
          let goes = answer.0 in
          let left = left_by h has refl in
          let n = left.0 in
          let on : ℕ → Bool = upd stands.on h.gone false in
          let own = bucket_of two buckets bucket small few layout limits s before.sound kept x Other in
          let low = small (key Other) in
          let at = at_stamp g has' in
          let some = new_node g has' tt in
          let u = some.0 in
          let new = some.1 in
          let place : g.target ≡ bucket_head own = head_place h g has has' in
          let other_bucket : own ≢ bucket_of two buckets bucket small few layout limits s before.sound kept x Own = buckets_apart h g has has' is in
          let link : value_of (after g.target) ≡ suc u =
          made_link g has' (changing g has' (λ e. cc)) Insert refl tt u new in
          let same : with_head n own (suc u) ≡ then_nodes = ap (λ n. with_head n own (suc u)) left.1.is
          ∙ ap (with_head (nodes buckets bucket (upd s.cells h.target (after h.target))) own) (sym link)
          ∙ head_changed buckets bucket (upd s.cells h.target (after h.target)) own (after g.target) low
          ∙ ap (λ p. nodes buckets bucket (upd (upd s.cells h.target (after h.target)) p (after g.target))) (sym place)
          ∙ two_changes h g (λ k hask. of_two h g k (of_form Moves is k hask)) in
          let off : on u ≡ false = dite (ℕ_discrete u h.gone) (λ e. upd_same stands.on h.gone u false e)
          (λ ne. upd_other stands.on h.gone u false ne ∙ new.off) in
          let key_u : n.key u ≡ key Other = ap (λ f. f u) left.1.keys ∙ new.key_is in
          let value_u : n.value u ≡ g.value = ap (λ f. f u) left.1.values ∙ new.value_is in
          let first : n.next u ≡ n.head own = left.1.nexts u new.off ∙ new.next_is
          ∙ insert_head two buckets bucket small few layout limits s before.sound kept d x g here has' at.0 at.1 refl
          ∙ sym (head_is buckets bucket small s.cells (key Other)) ∙ sym (left.1.heads own other_bucket) in
          let top = top_of bucket n on stands.rank left.1.chains own in
          let none = lacks_after goes (now.key h.gone) (n.key u) (gone_key h has tt ∙ from_is mov) (key_u ∙ to_is mov) in
          let fresh : (v : ℕ) → on v ≡ true → n.key v ≢ n.key u = λ v on_v e.
          new.new v (upd_on stands.on h.gone v on_v) (sym (ap (λ f. f v) left.1.keys) ∙ e ∙ ap (λ f. f u) left.1.keys) in
          record {
            on = upd on u true;
            rank = upd stands.rank u top.0;
            within = λ v on_v. upd_within (slot_count layout 0) on u v new.within
                (λ v on_v. stands.within v (upd_on stands.on h.gone v on_v)) on_v;
            chains = subst (λ n. Chains bucket n (upd on u true) (upd stands.rank u top.0)) same
                (insert bucket n on stands.rank left.1.chains own u top.0 off (ap bucket key_u) first top.1 fresh);
            contents = contents_same then_nodes (upd on u true)
                (upd (upd (get pairs) (now.key h.gone) None) (n.key u) (Some (n.value u))) (get (map_after pairs x.op))
                (subst (λ m. Contents m (upd on u true)
                (upd (upd (get pairs) (now.key h.gone) None) (n.key u) (Some (n.value u)))) same
                (insert_contents n on (upd (get pairs) (now.key h.gone) None)
                (left_contents h has tt n left.1.keys left.1.values) own u off none))
                (goes_map goes (now.key h.gone) (n.key u) (n.value u) (gone_key h has tt ∙ from_is mov)
                (key_u ∙ to_is mov) (value_u ∙ answer.1));
          }
        where
          head_place : (h g : Half) → HasHalf two x (taking_half (takes_lower t) t)
              → HasHalf two x (putting_half (takes_lower t) t)
              → (putting_half (takes_lower t) t).target ≡ bucket_head (bucket_of two buckets bucket small few layout limits s before.sound kept x Other)
          head_place h g has has' = let fits = half_fit two buckets bucket small few layout limits s before.sound kept d x (putting_half (takes_lower t) t) here has' in
              let place = (fits.puts tt).0.place in let target = (fits.heads refl).0 in omega arith

          buckets_apart : (h g : Half) → HasHalf two x (taking_half (takes_lower t) t)
              → HasHalf two x (putting_half (takes_lower t) t) → form ≡ Moves → bucket_of two buckets bucket small few layout limits s before.sound kept x Other ≢ bucket_of two buckets bucket small few layout limits s before.sound kept x Own
          buckets_apart h g has has' is e =
              let first = ((half_fit two buckets bucket small few layout limits s before.sound kept d x (taking_half (takes_lower t) t) here has).takes tt).0.place in
              let second = ((half_fit two buckets bucket small few layout limits s before.sound kept d x (putting_half (takes_lower t) t) here has').puts tt).0.place in
              let same = (fit two buckets bucket small few layout limits s before.sound kept d x here).apart (taking_half (takes_lower t) t) (putting_half (takes_lower t) t) has has'
              (first ∙ ap bucket_lock (sym e) ∙ sym second) in
              no_kind (ap (λ h. h.kind) same)
            where
              no_kind : Remove ≡ Insert → ⊥
              no_kind e = cc

      -- or in its own bucket
      rename_stands : form ≡ Renames → (mov.moved ≡ true) × (operand t 5 ≡ (walk_by Own).value) → StandsAfter
      rename_stands is answer =
          let h = rename_half t in
          let has = has_of Renames is h (0, omega arith, refl) in
          let goes = answer.0 in
          let at = at_stamp h has in
          let changes = changing h has (λ e. cc) in
          let target : IsTarget two buckets bucket small few layout limits s before.sound kept x h = take_target two buckets bucket small few layout limits s before.sound kept d x h here has at.0 at.1 tt in
          let own = bucket_of two buckets bucket small few layout limits s before.sound kept x Own in
          let low = small (key Own) in
          let gone = h.gone in
          let some = new_node h has tt in
          let u = some.0 in
          let new = some.1 in
          let link : value_of (after h.target) ≡ suc u = made_link h has changes Rename refl tt u new in
          let there = gone_on h has tt in
          let off : upd stands.on gone false u ≡ false = dite (ℕ_discrete u gone)
          (λ e. upd_same stands.on gone u false e) (λ ne. upd_other stands.on gone u false ne ∙ new.off) in
          let next : now.next u ≡ now.next gone = new.next_is ∙ sym target.next in
          let changed : nodes buckets bucket (upd s.cells h.target (after h.target)) ≡ then_nodes =
          one_change h (λ g has'. of_one h g (of_form Renames is g has')) in
          ⊎_elim
          (λ head. finish is answer has u new off (with_head now own (suc u))
          (ap (with_head now own) (sym link) ∙ head_changed buckets bucket s.cells own (after h.target) low
          ∙ ap (λ p. nodes buckets bucket (upd s.cells p (after h.target))) (sym head) ∙ changed) refl refl
          (replace_first bucket now stands.on stands.rank stands.chains own gone u
          (head_is buckets bucket small s.cells (key Own) ∙ ap (λ p. value_of (s.cells p)) (sym head) ∙ target.leads)
          there new.off (beside is has u new target) next new.new))
          (λ node. finish is answer has u new off (with_next now node.0 (suc u))
          (ap (with_next now node.0) (sym link) ∙ next_changed buckets bucket s.cells node.0 (after h.target)
          ∙ ap (λ p. nodes buckets bucket (upd s.cells p (after h.target))) (sym node.2) ∙ changed) refl refl
          (replace_next bucket now stands.on stands.rank stands.chains node.0 gone u (stands_on node.0 node.1.0)
          (ap (λ p. value_of (s.cells p)) (sym node.2) ∙ target.leads)
          there new.off (beside is has u new target) next new.new))
          target.link
        where
          beside : form ≡ Renames → HasHalf two x (rename_half t) → (u : ℕ) → IsNewNode (rename_half t) u
              → IsTarget two buckets bucket small few layout limits s before.sound kept x (rename_half t) → bucket (now.key u) ≡ bucket (now.key (rename_half t).gone)
          beside is has u new target =
              let fits = half_fit two buckets bucket small few layout limits s before.sound kept d x (rename_half t) here has in
              let first = (fits.takes tt).0.place in
              let second = (fits.puts tt).0.place in
              ap bucket new.key_is ∙ same_bucket (bucket_of two buckets bucket small few layout limits s before.sound kept x Other) (bucket_of two buckets bucket small few layout limits s before.sound kept x Own) (sym second ∙ first)
              ∙ ap bucket (sym target.key)

          finish : form ≡ Renames → (mov.moved ≡ true) × (operand t 5 ≡ (walk_by Own).value)
              → HasHalf two x (rename_half t) → (u : ℕ) → IsNewNode (rename_half t) u
              → upd stands.on (rename_half t).gone false u ≡ false → (n : Nodes) → n ≡ then_nodes → n.key ≡ now.key
              → n.value ≡ now.value
              → Chains bucket n (upd (upd stands.on (rename_half t).gone false) u true)
              (upd stands.rank u (stands.rank (rename_half t).gone)) → StandsAfter
          finish is answer has u new off n same keys values chains =
              let gone = (rename_half t).gone in
              let on : ℕ → Bool = upd stands.on gone false in
              let none = lacks_after answer.0 (now.key gone) (now.key u) (gone_key (rename_half t) has tt ∙ from_is mov)
              (new.key_is ∙ to_is mov) in
              let lookup : ℕ → Option ℕ = upd (upd (get pairs) (now.key gone) None) (now.key u) (Some (now.value u)) in
              record {
                on = upd on u true;
                rank = upd stands.rank u (stands.rank gone);
                within = λ v on_v. upd_within (slot_count layout 0) on u v new.within
                    (λ v on_v. stands.within v (upd_on stands.on gone v on_v)) on_v;
                chains = subst (λ n. Chains bucket n (upd on u true) (upd stands.rank u (stands.rank gone))) same chains;
                contents = contents_same then_nodes (upd on u true) lookup (get (map_after pairs x.op))
                    (subst (λ n. Contents n (upd on u true) lookup) same
                    (contents_agree (with_head now 0 (suc u)) n (upd on u true) lookup
                    (insert_contents now on (upd (get pairs) (now.key gone) None)
                    (left_contents (rename_half t) has tt now refl refl) 0 u off none)
                    (λ v on_v. ap (λ f. f v) keys) (λ v on_v. ap (λ f. f v) values)))
                    (goes_map answer.0 (now.key gone) (now.key u) (now.value u)
                    (gone_key (rename_half t) has tt ∙ from_is mov) (new.key_is ∙ to_is mov)
                    (new.value_is ∙ answer.1));
              }

      still_map : mov.moved ≡ false → (q : ℕ) → get pairs q ≡ get (map_after pairs x.op) q
      still_map still q = ap (λ m. get m q) (stays mov still).1 ∙ ap (λ op. get (map_after pairs op) q) (sym mov.is)

      mov_stands : (f : Form) → form ≡ f → AnswerOf f (walk_by Own) t mov.moved → StandsAfter
      mov_stands Reads is answer = read_stands
          (λ h has. ap (λ h. h.kind) (sym (of_one (look_half t) h (of_form Reads is h has)))) (still_map answer.0)
      mov_stands Inserts is answer = absurd answer
      mov_stands Removes is answer = absurd answer
      mov_stands Sets is answer = absurd answer
      mov_stands ReadsTwo is answer = read_stands
          (λ h has. ⊎_elim (λ e. ap (λ h. h.kind) (sym e)) (λ e. ap (λ h. h.kind) (sym e))
          (of_two (look_two_half true t) (look_two_half false t) h (of_form ReadsTwo is h has))) (still_map answer.0)
      mov_stands Moves is answer = move_stands is answer
      mov_stands Renames is answer = rename_stands is answer
      mov_stands Empty is answer = absurd answer

    pub table_stores : StandsAfter
    table_stores = ⊎_elim (λ one. one_stands one form refl) (λ mov. mov_stands mov form refl (mov.answer form refl some))
        cases
