-- The law of the plain runs.
use Rattle.std.proofs.Common.{◌≡◌, ◌≢◌, ℕ, suc, ◌+◌, ◌*◌, ◌<◌, ◌≤◌, Bool, true, false, List, [], refl, sym, ap, ◌∙◌, subst, inl, ⊎_elim, arith, Some, None, Option}
use Rattle.std.specs.Prelude.{◌&&◌, ◌^◌, slice_index}
use Rattle.std.specs.FinMap.{get}
use Rattle.structure_laws.specs.map_history.specs.declared.op.Op.{Op}
use Rattle.structure_laws.specs.map_history.specs.declared.op.Op.TheVariants.{Put}
use Rattle.structure_laws.specs.map_history.specs.Keys.{key_of, value_given}
use Rattle.structure_laws.specs.map_history.specs.Replay.{Pairs, map_after}
use Rattle.structure_laws.specs.body_terms.specs.Update.{upd}
use Rattle.structure_laws.specs.body_terms.specs.Word.{value_of, next_word}
use Rattle.structure_laws.specs.body_terms.specs.Memory.{PlainMemory}
use Rattle.tree_laws.specs.section_body.specs.Bucket.{bucket_edition, bucket_head, operand, fits_read, fits_insert, fits_remove, read_steps, insert_steps, remove_steps}
use Rattle.tree_laws.specs.bucket_laws.specs.bucket_bodies.specs.Table.{fits_set, set_steps, table_steps}
use Rattle.structure_laws.specs.body_terms.specs.Run.{exchanged}
use Rattle.structure_laws.specs.body_terms.specs.Plain.{plain_setting, plain_run}
use Rattle.structure_laws.specs.body_terms.specs.declared.outcome.Outcome.TheVariants.{Answered}
use Rattle.structure_laws.specs.body_terms.specs.declared.step.Step.{Step}
use Rattle.structure_laws.specs.body_terms.specs.declared.thunk.Thunk.{Thunk}
use Rattle.structure_laws.proofs.Changes.{value-next_word, value_small}
use Rattle.tree_laws.specs.bucket_laws.specs.Walk.{Walk, AtEdition, AtEnd, start, walk, is_del, cell_at, form_for}
use Rattle.tree_laws.specs.bucket_laws.specs.Buckets.{BucketsStand, Knows, IsLinkOf, IsFound}
use Rattle.tree_laws.specs.bucket_laws.proofs.Elsewhere.{edition_seen}
use Rattle.tree_laws.specs.bucket_laws.specs.Halves.{Form, Reads, Inserts, Removes, Sets, steps_of}
use Rattle.tree_laws.specs.bucket_laws.proofs.Halves.{IsOverTwo, number_of, fits_for, form_is}
use Rattle.tree_laws.specs.bucket_laws.proofs.Fit.{IsFit, PutsIn, fit_of, puts_given, insert_operands, remove_operands, set_operands}
use Rattle.tree_laws.specs.bucket_laws.proofs.Maps.{read_reply, insert_reply, remove_reply, set_reply, read_map, insert_map, remove_map, set_map}
use Rattle.tree_laws.specs.bucket_laws.proofs.TableLaws.{form_cases, buckets_few}
use Rattle.plain_laws.specs.Runs.{cells_of, HasSmallNumbers, bucket, HasContents, IsWalked, IsUnspent, IsOut, DoesTheOperation, RunsDoTheOperations}
use Rattle.plain_laws.proofs.Follows.{within, follows}
use Rattle.plain_laws.proofs.Forms.{small_is, body_of, exchanges_write, inserted_cells, removed_cells, set_cells, read_run, insert_run, remove_run, set_run}
use Rattle.plain_laws.proofs.Table.{Holds, holds_of, stands_by, key_at, value_at, next_at, made_cells, made_holds, fixed_stays, made_key, made_value, made_next}
use Rattle.plain_laws.proofs.Table.{link_to, no_edition, edition_holds, put_holds, removed_holds, set_holds, found_on, found_is, missing_is}

all_true : (a b c d : Bool) → a ≡ true → b ≡ true → c ≡ true → d ≡ true → (a && (b && (c && d))) ≡ true
all_true a b c d p q r t = rw (p, q, r, t) refl

-- the place of a link is small
pub link_place : (bits slots : ℕ) (memory : PlainMemory) (pairs : Pairs) (contents : HasContents bits slots memory pairs) (i : ℕ) → i < 2 ^ bits → (p : ℕ)
    → IsLinkOf (2 ^ bits) (bucket bits) (cells_of memory) contents.stands.on i p → p < 2 ^ 32
link_place bits slots memory pairs contents i low p link = ⊎_elim
    (λ head. (let f = contents.room in let places = contents.places in omega (arith, head, low, f, places)))
    (λ node. (let w = contents.stands.within node.0 node.1.0 in let f = contents.room in let places = contents.places in let at = node.2 in omega (arith, w, f, places, at)))
    link

module _ (bits slots request : ℕ) (memory : PlainMemory) (pairs : Pairs) (op : Op) (thunk : Thunk) (got : List Bool) (contents : HasContents bits slots memory pairs) (numbers : HasSmallNumbers op) (walked : IsWalked bits memory op thunk) (unspent : IsUnspent bits memory thunk) where
  abbrev cells : ℕ → ℕ
  cells = cells_of memory

  abbrev stands : BucketsStand (2 ^ bits) (bucket bits) slots cells pairs
  stands = contents.stands

  abbrev small : (key : ℕ) → bucket bits key < 2 ^ bits
  small = within bits contents.few

  abbrev HoldsNow : (ℕ → ℕ) → (ℕ → Option ℕ) → (ℕ → Bool) → (ℕ → ℕ) → Type 0
  HoldsNow cells lookup on rank = Holds (2 ^ bits) (bucket bits) small slots cells lookup on rank

  holds : HoldsNow cells (get pairs) stands.on stands.rank
  holds = holds_of (2 ^ bits) (bucket bits) small slots cells pairs stands

  abbrev own : ℕ
  own = bucket bits (key_of op)

  abbrev x : Walk
  x = walk (2 ^ bits) (bucket bits) walked.bounds op start walked.readings

  fit : IsFit (2 ^ bits) (bucket bits) op x thunk
  fit = fit_of (2 ^ bits) (bucket bits) op x thunk walked.fits

  known : Knows (2 ^ bits) (bucket bits) cells stands.on stands.rank op x AtEnd
  known = subst (λ stage. Knows (2 ^ bits) (bucket bits) cells stands.on stands.rank op x stage) fit.stage
      (follows bits contents.few cells stands.on stands.rank stands.chains walked.bounds op start walked.readings walked.read tt)

  own_low : own < 2 ^ bits
  own_low = small (key_of op)

  few : 3 * 2 ^ bits ≤ 12288
  few = buckets_few bits contents.few

  edition_place : thunk.lock + 1 ≡ bucket_edition own
  edition_place = (let at = fit.lock in omega arith)

  head_place : thunk.lock + 2 ≡ bucket_head own
  head_place = (let at = fit.lock in omega arith)

  -- the edition is the one that the walk read
  wanted : cells (thunk.lock + 1) ≡ operand thunk 0
  wanted =
      let seen = edition_seen (2 ^ bits) (bucket bits) small walked.bounds op walked.readings
      (λ e. apart (sym fit.stage ∙ e)) in
      ap cells edition_place ∙ (walked.read seen.0 (bucket_edition own) x.edition seen.1 ∙ sym fit.edition)
    where
      apart : AtEnd ≡ AtEdition → ⊥
      apart e = cc

  -- a key that the walk found is in the map with its value, and one that it missed isn't
  looks_found : x.found ≡ true → get pairs (key_of op) ≡ Some x.value
  looks_found e = found_is (2 ^ bits) (bucket bits) small slots cells (get pairs) stands.on stands.rank holds op x (known.1 e)

  looks_missing : x.found ≡ false → get pairs (key_of op) ≡ None
  looks_missing e = missing_is (2 ^ bits) (bucket bits) small slots cells (get pairs) stands.on stands.rank holds (key_of op) (known.2 e)

  abbrev Does : List Step → Type 0
  Does steps = DoesTheOperation bits slots pairs op (plain_run steps request memory got)

  -- the body of the thunk's form
  body : (f : Form) → (IsOverTwo f → ⊥) → form_for op x.found ≡ number_of f → fits_for f thunk ≡ true → table_steps thunk ≡ steps_of f thunk
  body f one number fits = body_of false f thunk (form_is false f thunk (λ two. absurd (one two)) (fit.form ∙ number) fits)

  abbrev Left : (ℕ → ℕ) → Type 0
  Left left = BucketsStand (2 ^ bits) (bucket bits) slots left (map_after pairs op)

  -- a body that reads alone
  read_case : form_for op x.found ≡ 1 → Does (table_steps thunk)
  read_case form =
      let fits : fits_read thunk ≡ true = small_is (thunk.lock + 1) (let at = fit.lock in let low = own_low in let most = few in omega arith) in
      let ends = read_run (plain_setting (read_steps thunk) got memory) cells memory.clock (slice_index memory.stamps request) (slice_index memory.replies request) thunk wanted in
      subst Does (sym (body Reads (λ two. two) form fits)) (record {
        answer = ends.answered ∙ ap (λ n. Some (Answered n)) (ap (λ ns. slice_index ns 1) fit.operands ∙ read_reply (2 ^ bits) pairs op x x.found form looks_found looks_missing);
        contents = subst Left (sym ends.left) (stands_by (2 ^ bits) (bucket bits) small slots cells (get pairs) stands.on stands.rank (map_after pairs op) holds
            (read_map pairs op x.value x.found form looks_found looks_missing));
      })

  -- a new node at the head
  module _ (form : form_for op x.found ≡ 2) (free : IsOut bits slots memory pairs contents) where
    abbrev t : ℕ
    t = slice_index memory.free 0

    named : (key : ℕ) × (v : ℕ) × PutsIn op key v × (operand thunk 1 ≡ key) × (operand thunk 2 ≡ v) × (operand thunk 3 ≡ x.head)
    named = (let n = (insert_operands (2 ^ bits) op x x.found form).1 in (n.0, n.1, n.2, ap (λ ns. slice_index ns 1) fit.operands ∙ n.3, ap (λ ns. slice_index ns 2) fit.operands ∙ n.4, ap (λ ns. slice_index ns 3) fit.operands ∙ n.5))

    none : get pairs (key_of op) ≡ None
    none = looks_missing (insert_operands (2 ^ bits) op x x.found form).0

    small_numbers : (named.0 < 2 ^ 32) × (named.1 < 2 ^ 32)
    small_numbers = (numbers.keys named.0 (inl named.2.0), numbers.value named.1 (puts_given op named.0 named.1 named.2))

    key_small : operand thunk 1 < 2 ^ 32
    key_small = subst (λ n. n < 2 ^ 32) (sym named.3) small_numbers.0

    value_low : operand thunk 2 < 2 ^ 32
    value_low = subst (λ n. n < 2 ^ 32) (sym named.4) small_numbers.1

    head_is_read : operand thunk 3 ≡ value_of (cells (bucket_head own))
    head_is_read = named.5 ∙ known.0

    next_small : operand thunk 3 < 2 ^ 32
    next_small = subst (λ n. n < 2 ^ 32) (sym head_is_read) (value_small (cells (bucket_head own)))

    fits : fits_insert thunk ≡ true
    fits = all_true _ _ _ _ (small_is (thunk.lock + 2) (let at = fit.lock in let low = own_low in let most = few in omega arith)) (small_is (operand thunk 1) key_small) (small_is (operand thunk 2) value_low) (small_is (operand thunk 3) next_small)

    abbrev filled : ℕ → ℕ
    filled = made_cells cells (3 * 2 ^ bits) t (operand thunk 1) (operand thunk 2) (operand thunk 3)

    filled_holds : HoldsNow filled (get pairs) stands.on stands.rank
    filled_holds = made_holds (2 ^ bits) (bucket bits) small slots cells (get pairs) stands.on stands.rank holds t (operand thunk 1) (operand thunk 2) (operand thunk 3) free.out

    stays : (p : ℕ) → p < 3 * 2 ^ bits → filled p ≡ cells p
    stays = fixed_stays (2 ^ bits) (bucket bits) small slots cells (get pairs) stands.on stands.rank holds t (operand thunk 1) (operand thunk 2) (operand thunk 3) free.out

    -- what the new node holds
    key_is : key_at (2 ^ bits) (bucket bits) small slots filled t ≡ key_of op
    key_is = made_key (2 ^ bits) (bucket bits) small slots cells (get pairs) stands.on stands.rank holds t (operand thunk 1) (operand thunk 2) (operand thunk 3) free.out key_small ∙ (named.3 ∙ sym named.2.0)

    value_is : value_at (2 ^ bits) (bucket bits) small slots filled t ≡ named.1
    value_is = made_value (2 ^ bits) (bucket bits) small slots cells (get pairs) stands.on stands.rank holds t (operand thunk 1) (operand thunk 2) (operand thunk 3) free.out value_low ∙ named.4

    first : next_at (2 ^ bits) (bucket bits) small slots filled t ≡ value_of (filled (bucket_head own))
    first = made_next (2 ^ bits) (bucket bits) small slots cells (get pairs) stands.on stands.rank holds t (operand thunk 1) (operand thunk 2) (operand thunk 3) free.out next_small
        ∙ (head_is_read ∙ sym (ap value_of (stays (bucket_head own) (let low = own_low in omega arith))))

    abbrev link_word : ℕ
    link_word = next_word (cells (thunk.lock + 2)) (value_of (t + 1))

    abbrev edition_word : ℕ
    edition_word = next_word (cells (thunk.lock + 1)) 0

    abbrev after : ℕ → ℕ
    after = upd (upd filled (bucket_head own) link_word) (bucket_edition own) edition_word

    stands_after : Left after
    stands_after =
        let put = put_holds (2 ^ bits) (bucket bits) small slots filled (get pairs) stands.on stands.rank filled_holds t link_word free.within free.out
        (link_to (cells (thunk.lock + 2)) t free.linked) (ap (get pairs) key_is ∙ none) own own_low (ap (bucket bits) key_is) first in
        stands_by (2 ^ bits) (bucket bits) small slots after _ _ _ (map_after pairs op)
        (edition_holds (2 ^ bits) (bucket bits) small slots (upd filled (bucket_head own) link_word) _ _ _ put.1 own edition_word own_low)
        (λ q. ap (λ k. upd (get pairs) k (Some (value_at (2 ^ bits) (bucket bits) small slots filled t)) q) (key_is ∙ named.2.0) ∙ (ap (λ v. upd (get pairs) named.0 (Some v) q) value_is
        ∙ insert_map pairs op named.0 named.1 named.2 (ap (get pairs) (sym named.2.0) ∙ none) q))

    insert_case : Does (table_steps thunk)
    insert_case =
        let ends = insert_run (plain_setting (insert_steps thunk) got memory) cells memory.clock (slice_index memory.stamps request) (slice_index memory.replies request) thunk wanted (unspent.edition (λ one. let own = fit.form ∙ form in omega arith)) (unspent.head (fit.form ∙ form)) in
        let written : inserted_cells (plain_setting (insert_steps thunk) got memory) cells memory.clock (slice_index memory.stamps request) (slice_index memory.replies request) thunk ≡ after =
        ap (λ fixed. exchanged (exchanged (made_cells cells fixed t (operand thunk 1) (operand thunk 2) (operand thunk 3)) (thunk.lock + 2) (cells (thunk.lock + 2)) link_word) (thunk.lock + 1) (cells (thunk.lock + 1)) edition_word) contents.fixed
        ∙ exchanges_write filled (thunk.lock + 2) (thunk.lock + 1) (cells (thunk.lock + 2)) link_word (cells (thunk.lock + 1)) edition_word
        (stays (thunk.lock + 2) (let at = fit.lock in let low = own_low in omega arith)) (stays (thunk.lock + 1) (let at = fit.lock in let low = own_low in omega arith)) (λ e. omega arith)
        ∙ (λ i. upd (upd filled (head_place i) link_word) (edition_place i) edition_word) in
        subst Does (sym (body Inserts (λ two. two) form fits)) (record {
          answer = ends.answered ∙ ap (λ n. Some (Answered n)) (insert_reply pairs op x.found form none);
          contents = subst Left (sym (ends.left ∙ written)) stands_after;
        })

  -- a node taken out
  module _ (form : form_for op x.found ≡ 3) where
    removal : (x.found ≡ true) × ((is_del op ≡ true) × (operand thunk 1 ≡ x.place) × (operand thunk 2 ≡ x.slot) × (operand thunk 3 ≡ x.next))
    removal = (let n = remove_operands (2 ^ bits) op x x.found form in (n.0, (n.1.0, ap (λ ns. slice_index ns 1) fit.operands ∙ n.1.1, ap (λ ns. slice_index ns 2) fit.operands ∙ n.1.2, ap (λ ns. slice_index ns 3) fit.operands ∙ n.1.3)))

    found : IsFound (2 ^ bits) (bucket bits) cells stands.on op x
    found = known.1 removal.0

    link : IsLinkOf (2 ^ bits) (bucket bits) cells stands.on own (operand thunk 1)
    link = subst (IsLinkOf (2 ^ bits) (bucket bits) cells stands.on own) (sym removal.1.1) found.0.0

    leads : value_of (cells (operand thunk 1)) ≡ suc x.slot
    leads = ap (λ p. value_of (cells p)) removal.1.1 ∙ found.0.1

    next_is : next_at (2 ^ bits) (bucket bits) small slots cells x.slot ≡ operand thunk 3
    next_is = found.3 removal.1.0 ∙ sym removal.1.3

    link_small : operand thunk 3 < 2 ^ 32
    link_small = subst (λ n. n < 2 ^ 32) next_is (value_small (cells (cell_at (2 ^ bits) (bucket bits) x.slot 3)))

    slot_small : operand thunk 2 < 2 ^ 32
    slot_small = (let s = removal.1.2 in let l = leads in let v = value_small (cells (operand thunk 1)) in omega arith)

    removal_fits : fits_remove thunk ≡ true
    removal_fits = all_true _ _ _ _ (small_is (thunk.lock + 1) (let at = fit.lock in let low = own_low in let most = few in omega arith))
        (small_is (operand thunk 1) (link_place bits slots memory pairs contents own own_low (operand thunk 1) link)) (small_is (operand thunk 2) slot_small) (small_is (operand thunk 3) link_small)

    abbrev new_link : ℕ
    new_link = next_word (cells (operand thunk 1)) (operand thunk 3)

    abbrev new_edition : ℕ
    new_edition = next_word (cells (thunk.lock + 1)) 0

    abbrev left : ℕ → ℕ
    left = upd (upd cells (operand thunk 1) new_link) (bucket_edition own) new_edition

    stands_left : Left left
    stands_left =
        let taken = removed_holds (2 ^ bits) (bucket bits) small slots cells (get pairs) stands.on stands.rank holds own (operand thunk 1) x.slot new_link own_low link leads
        (value-next_word (cells (operand thunk 1)) (operand thunk 3) link_small ∙ sym next_is) in
        stands_by (2 ^ bits) (bucket bits) small slots left _ _ _ (map_after pairs op)
        (edition_holds (2 ^ bits) (bucket bits) small slots (upd cells (operand thunk 1) new_link) _ _ _ taken own new_edition own_low)
        (λ q. ap (λ k. upd (get pairs) k None q) found.1 ∙ remove_map pairs op removal.1.0 q)

    remove_case : Does (table_steps thunk)
    remove_case =
        let ends = remove_run (plain_setting (remove_steps thunk) got memory) cells memory.clock (slice_index memory.stamps request) (slice_index memory.replies request) thunk wanted (unspent.edition (λ one. let own = fit.form ∙ form in omega arith)) (unspent.link (fit.form ∙ form)) in
        let written : removed_cells (plain_setting (remove_steps thunk) got memory) cells memory.clock (slice_index memory.stamps request) (slice_index memory.replies request) thunk ≡ left =
        exchanges_write cells (operand thunk 1) (thunk.lock + 1) (cells (operand thunk 1)) new_link (cells (thunk.lock + 1)) new_edition refl refl
        (λ e. no_edition (2 ^ bits) (bucket bits) small slots cells (get pairs) stands.on stands.rank holds own own (operand thunk 1) own_low link (sym edition_place ∙ e))
        ∙ ap (λ p. upd (upd cells (operand thunk 1) new_link) p new_edition) edition_place in
        subst Does (sym (body Removes (λ two. two) form removal_fits)) (record {
          answer = ends.answered ∙ ap (λ n. Some (Answered n)) (remove_reply pairs op x.value removal.1.0 (looks_found removal.0));
          contents = subst Left (sym (ends.left ∙ written)) stands_left;
        })

  -- a node with a new value
  module _ (form : form_for op x.found ≡ 4) where
    setting : (x.found ≡ true) × (key v : ℕ) × (op ≡ Put key v) × (operand thunk 1 ≡ cell_at (2 ^ bits) (bucket bits) x.slot 2) × (operand thunk 2 ≡ v) × (operand thunk 3 ≡ 6 * 2 ^ 32 + x.value)
    setting = (let n = set_operands (2 ^ bits) op x x.found form in
        (n.0, n.1.0, n.1.1, n.1.2, ap (λ ns. slice_index ns 1) fit.operands ∙ n.1.3, ap (λ ns. slice_index ns 2) fit.operands ∙ n.1.4, ap (λ ns. slice_index ns 3) fit.operands ∙ n.1.5))

    set_found : IsFound (2 ^ bits) (bucket bits) cells stands.on op x
    set_found = known.1 setting.0

    set_on : stands.on x.slot ≡ true
    set_on = found_on (2 ^ bits) (bucket bits) small slots cells (get pairs) stands.on stands.rank holds op x set_found

    set_small : operand thunk 2 < 2 ^ 32
    set_small = (let low = numbers.value setting.2 (ap value_given setting.3) in let at = setting.5 in omega arith)

    cell_small : operand thunk 1 < 2 ^ 32
    cell_small = (let w = stands.within x.slot set_on in let f = contents.room in let p = contents.places in let at = setting.4 in omega arith)

    set_fits : fits_set thunk ≡ true
    set_fits = (λ i. small_is (thunk.lock + 1) (let at = fit.lock in let low = own_low in let most = few in omega arith) i && (small_is (operand thunk 1) cell_small i && small_is (operand thunk 2) set_small i))

    abbrev new_word : ℕ
    new_word = next_word (cells (operand thunk 1)) (operand thunk 2)

    abbrev set_edition : ℕ
    set_edition = next_word (cells (thunk.lock + 1)) 0

    abbrev set_left : ℕ → ℕ
    set_left = upd (upd cells (cell_at (2 ^ bits) (bucket bits) x.slot 2) new_word) (bucket_edition own) set_edition

    set_apart : thunk.lock + 1 ≢ operand thunk 1
    set_apart same = (let at = edition_place in let p = setting.4 in let low = own_low in omega arith)

    set_stands : Left set_left
    set_stands =
        let changed = set_holds (2 ^ bits) (bucket bits) small slots cells (get pairs) stands.on stands.rank holds x.slot new_word (operand thunk 2) set_on
        (value-next_word (cells (operand thunk 1)) (operand thunk 2) set_small) in
        stands_by (2 ^ bits) (bucket bits) small slots set_left _ _ _ (map_after pairs op)
        (edition_holds (2 ^ bits) (bucket bits) small slots (upd cells (cell_at (2 ^ bits) (bucket bits) x.slot 2) new_word) _ _ _ changed own set_edition own_low)
        (λ q. ap (λ k. upd (get pairs) k (Some (operand thunk 2)) q) set_found.1 ∙ (ap (λ v. upd (get pairs) (key_of op) (Some v) q) setting.5 ∙ set_map pairs op setting.1 setting.2 setting.3 q))

    set_case : Does (table_steps thunk)
    set_case =
        let ends = set_run (plain_setting (set_steps thunk) got memory) cells memory.clock (slice_index memory.stamps request) (slice_index memory.replies request) thunk wanted (unspent.edition (λ one. let own = fit.form ∙ form in omega arith)) (unspent.value (fit.form ∙ form)) in
        let written : set_cells (plain_setting (set_steps thunk) got memory) cells memory.clock (slice_index memory.stamps request) (slice_index memory.replies request) thunk ≡ set_left =
        exchanges_write cells (operand thunk 1) (thunk.lock + 1) (cells (operand thunk 1)) new_word (cells (thunk.lock + 1)) set_edition refl refl set_apart
        ∙ (λ i. upd (upd cells (setting.4 i) new_word) (edition_place i) set_edition) in
        subst Does (sym (body Sets (λ two. two) form set_fits)) (record {
          answer = ends.answered ∙ ap (λ n. Some (Answered n)) (setting.6 ∙ set_reply pairs op setting.1 setting.2 x.value setting.3 (looks_found setting.0));
          contents = subst Left (sym (ends.left ∙ written)) set_stands;
        })

-- whichever locks are got, since these bodies take none
pub runs_do : (bits slots request : ℕ) (memory : PlainMemory) (pairs : Pairs) (op : Op) (thunk : Thunk) (got : List Bool) (contents : HasContents bits slots memory pairs)
    → HasSmallNumbers op → IsWalked bits memory op thunk → IsUnspent bits memory thunk
    → (thunk.form ≡ 2 → IsOut bits slots memory pairs contents)
    → DoesTheOperation bits slots pairs op (plain_run (table_steps thunk) request memory got)
runs_do bits slots request memory pairs op thunk got contents numbers walked unspent free =
    let walked_found = (walk (2 ^ bits) (bucket bits) walked.bounds op start walked.readings).found in
    let fits = fit bits slots request memory pairs op thunk got contents numbers walked unspent in
    ⊎_elim
    (λ one. read_case bits slots request memory pairs op thunk got contents numbers walked unspent one)
    (λ more. ⊎_elim
    (λ two. insert_case bits slots request memory pairs op thunk got contents numbers walked unspent two (free (fits.form ∙ two)))
    (λ last. ⊎_elim
    (λ three. remove_case bits slots request memory pairs op thunk got contents numbers walked unspent three)
    (λ four. set_case bits slots request memory pairs op thunk got contents numbers walked unspent four) last) more)
    (form_cases op walked_found fits.one)

pub runs_do_the_operations : RunsDoTheOperations
runs_do_the_operations bits slots request memory pairs op thunk =
    runs_do bits slots request memory pairs op thunk []
