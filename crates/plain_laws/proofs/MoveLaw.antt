-- The law of the plain runs on the table that moves keys.
use Rattle.std.proofs.Common.{◌≡◌, ◌≢◌, ℕ, suc, ◌+◌, ◌*◌, ◌<◌, ◌≤◌, Bool, true, false, cond, List, [], ◌∷◌, refl, sym, ap, ◌∙◌, subst, inl, inr, ⊎_elim, arith, Some, None, Option}
use Rattle.std.specs.Prelude.{◌==◌, ◌&&◌, ◌||◌, ◌⊎◌, ◌^◌, nat_lt, Contains, slice_index}
use Rattle.std.specs.FinMap.{get}
use Rattle.std.proofs.lemmas.Bool.{both_ways}
use Rattle.structure_laws.specs.table_words.specs.small_lemmas.proofs.Bools.{both_of}
use Rattle.structure_laws.specs.table_words.specs.small_lemmas.proofs.Numbers.{tested_equal, tested_other, other_tested}
use Rattle.structure_laws.specs.map_history.specs.declared.op.Op.{Op}
use Rattle.structure_laws.specs.map_history.specs.declared.op.Op.TheVariants.{Get, Ins, Del, Put, Mov}
use Rattle.structure_laws.specs.map_history.specs.Replay.{Pairs, reply_of, map_after}
use Rattle.structure_laws.specs.map_history.specs.Words.{word_of}
use Rattle.structure_laws.specs.body_terms.specs.Update.{upd}
use Rattle.structure_laws.specs.body_terms.specs.Word.{value_of, next_word, is_free}
use Rattle.structure_laws.specs.body_terms.specs.Memory.{PlainMemory}
use Rattle.structure_laws.specs.body_terms.specs.Run.{exchanged}
use Rattle.structure_laws.specs.body_terms.specs.Plain.{plain_setting, plain_run}
use Rattle.structure_laws.specs.body_terms.specs.declared.outcome.Outcome.TheVariants.{Answered}
use Rattle.structure_laws.specs.body_terms.specs.declared.step.Step.{Step}
use Rattle.structure_laws.specs.body_terms.specs.declared.thunk.Thunk.{Thunk}
use Rattle.structure_laws.proofs.Changes.{upd_other, value-next_word, value_small}
use Rattle.tree_laws.specs.section_body.specs.Bucket.{bucket_lock, bucket_edition, bucket_head, operand, read_steps}
use Rattle.tree_laws.specs.bucket_laws.specs.bucket_bodies.specs.Table.{table_steps}
use Rattle.tree_laws.specs.bucket_laws.specs.bucket_bodies.specs.Two.{low_half, high_half, higher_lock, takes_lower, target_lock}
use Rattle.tree_laws.specs.bucket_laws.specs.bucket_bodies.specs.Two.{look_two_steps, move_steps, rename_steps, two_steps}
use Rattle.tree_laws.specs.bucket_laws.specs.bucket_bodies.specs.Two.{fits_look_two, fits_move, fits_rename}
use Rattle.tree_laws.specs.bucket_laws.specs.Halves.{Half, look_half, rename_half, look_two_half}
use Rattle.tree_laws.specs.bucket_laws.specs.Halves.{taking_half, putting_half, Form, Reads, ReadsTwo, Moves, Renames}
use Rattle.tree_laws.specs.bucket_laws.specs.Halves.{form_of, steps_of, halves_of}
use Rattle.tree_laws.specs.bucket_laws.specs.Walk.{Stage, AtEdition, AtLock, AtEnd, start, cell_at, walk, fits_walk}
use Rattle.tree_laws.specs.bucket_laws.specs.TwoWalk.{TwoWalk, two_start}
use Rattle.tree_laws.specs.bucket_laws.specs.TwoWalk.{lower_of, higher_of, is_one}
use Rattle.tree_laws.specs.bucket_laws.specs.TwoWalk.{two_walk, moves, one_operands, both_operands, side_op, side_of_two}
use Rattle.tree_laws.specs.bucket_laws.specs.Buckets.{BucketsStand, Knows, IsLinkOf, IsFound}
use Rattle.tree_laws.specs.bucket_laws.proofs.Fit.{fit_of, form_few}
use Rattle.tree_laws.specs.bucket_laws.proofs.HalfFit.{OpFit, TwoFit, two_fit_of, mov_fit, two_answer, not_true}
use Rattle.tree_laws.specs.bucket_laws.proofs.Halves.{number_of, fits_for, form_is}
use Rattle.tree_laws.specs.bucket_laws.proofs.Maps.{still_moved, moved_reply, moved_map}
use Rattle.tree_laws.specs.bucket_laws.proofs.TableLaws.{buckets_few}
use Rattle.tree_laws.specs.bucket_laws.proofs.TwoWalks.{side_seen}
use Rattle.plain_laws.specs.Runs.{cells_of, HasSmallNumbers, bucket, HasContents, IsOut, DoesTheOperation}
use Rattle.plain_laws.specs.MoveRuns.{IsWalked, IsUnspent, Makes, RunsDoTheOperations}
use Rattle.plain_laws.proofs.Forms.{small_is, body_of, exchanges_write, is_got, read_run}
use Rattle.plain_laws.proofs.MoveForms.{moved_cells, renamed_cells, look_two_run, move_run, rename_run}
use Rattle.plain_laws.proofs.Follows.{within, KnowBoth, both_known}
use Rattle.plain_laws.proofs.Law.{link_place, runs_do}
use Rattle.plain_laws.proofs.Table.{Holds, holds_of, stands_by, key_at, value_at, next_at, made_cells, made_holds, fixed_stays, node_stays}
use Rattle.plain_laws.proofs.Table.{link_stays, made_key, made_value, made_next, edition_holds, removed_holds, put_holds, renamed_holds}
use Rattle.plain_laws.proofs.Table.{link_to, no_edition, no_head, no_cell, none_still, found_on, found_is, missing_is}

-- a body over one key is that of the hash table
one_body : (t : Thunk) → t.form ≤ 4 → two_steps t ≡ table_steps t
one_body t few = ap (λ b. cond b (cond (fits_look_two t) (look_two_steps t) []) (cond (t.form == 22) (cond (fits_move t) (move_steps t) []) (cond (t.form == 23) (cond (fits_rename t) (rename_steps t) []) (table_steps t)))) (not_it 21 (omega arith))
    ∙ (ap (λ b. cond b (cond (fits_move t) (move_steps t) []) (cond (t.form == 23) (cond (fits_rename t) (rename_steps t) []) (table_steps t))) (not_it 22 (omega arith))
    ∙ ap (λ b. cond b (cond (fits_rename t) (rename_steps t) []) (table_steps t)) (not_it 23 (omega arith)))
  where
    not_it : (n : ℕ) → 4 < n → (t.form == n) ≡ false
    not_it n high = other_tested t.form n (λ e. omega (arith, few, high, e))

-- four exchanges, each from what stands there
four_write : (f : ℕ → ℕ) (p q e d a b c k na nb nc nd : ℕ) → f p ≡ a → f q ≡ b → f e ≡ c → f d ≡ k → q ≢ p → e ≢ p → e ≢ q → d ≢ p → d ≢ q → d ≢ e
    → exchanged (exchanged (exchanged (exchanged f p a na) q b nb) e c nc) d k nd ≡ upd (upd (upd (upd f p na) q nb) e nc) d nd
four_write f p q e d a b c k na nb nc nd at_p at_q at_e at_d qp ep eq dp dq de =
    ap (λ g. exchanged (exchanged g e c nc) d k nd) (exchanges_write f p q a na b nb at_p at_q qp)
    ∙ exchanges_write (upd (upd f p na) q nb) e d c nc k nd
    (upd_other (upd f p na) q e nb eq ∙ (upd_other f p e na ep ∙ at_e))
    (upd_other (upd f p na) q d nb dq ∙ (upd_other f p d na dp ∙ at_d)) de

-- of two numbers, one way round or the other
two_below : (c : Bool) (i j n : ℕ) → i < n → j < n → cond c i j < n
two_below true i j n low low' = low
two_below false i j n low low' = low'

two_apart : (c : Bool) (i j : ℕ) → i ≢ j → cond c i j ≢ cond c j i
two_apart true i j ne e = ne e
two_apart false i j ne e = ne (sym e)

-- the words of two editions, whichever is the lower one
two_wants : (cells : ℕ → ℕ) (c : Bool) (low high a b : ℕ) → cells (cond c low high + 1) ≡ cond c a b → cells (cond c high low + 1) ≡ cond c b a
    → (cells (low + 1) ≡ a) × (cells (high + 1) ≡ b)
two_wants cells true low high a b first second = (first, second)
two_wants cells false low high a b first second = (second, first)

module _ (bits slots request : ℕ) (memory : PlainMemory) (pairs : Pairs) (from to : ℕ) (thunk : Thunk) (contents : HasContents bits slots memory pairs) (numbers : HasSmallNumbers (Mov from to)) (walked : IsWalked bits memory (Mov from to) thunk) (unspent : IsUnspent bits memory thunk) where
  abbrev cells : ℕ → ℕ
  cells = cells_of memory

  abbrev buckets : ℕ
  buckets = 2 ^ bits

  abbrev stands : BucketsStand buckets (bucket bits) slots cells pairs
  stands = contents.stands

  abbrev small : (key : ℕ) → bucket bits key < buckets
  small = within bits contents.few

  few : 3 * buckets ≤ 12288
  few = buckets_few bits contents.few

  abbrev HoldsNow : (ℕ → ℕ) → (ℕ → Option ℕ) → (ℕ → Bool) → (ℕ → ℕ) → Type 0
  HoldsNow cells lookup on rank = Holds buckets (bucket bits) small slots cells lookup on rank

  holds : HoldsNow cells (get pairs) stands.on stands.rank
  holds = holds_of buckets (bucket bits) small slots cells pairs stands

  -- the buckets of both keys, and the lower and the higher one of them
  abbrev i : ℕ
  i = bucket bits from

  abbrev j : ℕ
  j = bucket bits to

  abbrev l : ℕ
  l = lower_of i j

  abbrev k : ℕ
  k = higher_of i j

  l_low : l < buckets
  l_low = two_below (nat_lt i j) i j buckets (small from) (small to)

  k_low : k < buckets
  k_low = two_below (nat_lt i j) j i buckets (small to) (small from)

  -- the walks of both keys
  abbrev w : TwoWalk
  w = two_walk buckets (bucket bits) from to walked.bounds two_start walked.readings

  abbrev one : Bool
  one = is_one buckets (bucket bits) from to

  abbrev m : Bool
  m = moves buckets (bucket bits) from to w

  fit : TwoFit true buckets (bucket bits) small few walked.bounds from to walked.readings thunk
  fit = two_fit_of true buckets (bucket bits) small few walked.bounds from to walked.readings thunk refl (or_false _ walked.fits)
    where
      or_false : (fits : Bool) → (fits || false) ≡ true → fits ≡ true
      or_false true h = refl
      or_false false h = h

  whole_fit : OpFit true buckets (bucket bits) (Mov from to) (side_op (Mov from to)) (side_of_two buckets (bucket bits) walked.bounds w) walked.readings walked.bounds thunk
  whole_fit = mov_fit true buckets (bucket bits) small few walked.bounds from to walked.readings thunk fit

  known : KnowBoth bits contents.few cells stands.on stands.rank stands.chains walked.bounds from to w
  known = both_known bits contents.few cells stands.on stands.rank stands.chains walked.bounds from to walked.readings walked.read

  first_known : Knows buckets (bucket bits) cells stands.on stands.rank (Del from) w.first AtLock
  first_known = subst (λ stage. Knows buckets (bucket bits) cells stands.on stands.rank (Del from) w.first stage) fit.whole.0 known.0

  second_known : (from == to) ≡ false → Knows buckets (bucket bits) cells stands.on stands.rank (Get to) w.second AtLock
  second_known other = ⊎_elim (λ same. absurd (both_ways (from == to) other same.0))
      (λ whole. subst (λ stage. Knows buckets (bucket bits) cells stands.on stands.rank (Get to) w.second stage) whole.1 known.1)
      fit.whole.1

  -- a key that its walk found is in the map with its value, and one that it missed isn't
  from_some : w.first.found ≡ true → get pairs from ≡ Some w.first.value
  from_some e = found_is buckets (bucket bits) small slots cells (get pairs) stands.on stands.rank holds (Del from) w.first (first_known.1 e)

  from_none : w.first.found ≡ false → get pairs from ≡ None
  from_none e = missing_is buckets (bucket bits) small slots cells (get pairs) stands.on stands.rank holds from (first_known.2 e)

  to_some : (from == to) ≡ false → w.second.found ≡ true → get pairs to ≡ Some w.second.value
  to_some other e = found_is buckets (bucket bits) small slots cells (get pairs) stands.on stands.rank holds (Get to) w.second ((second_known other).1 e)

  to_none : (from == to) ≡ false → w.second.found ≡ false → get pairs to ≡ None
  to_none other e = missing_is buckets (bucket bits) small slots cells (get pairs) stands.on stands.rank holds to ((second_known other).2 e)

  -- the edition of the bucket of each half is the one that its walk read
  abbrev Has : Half → Type 0
  Has h = Contains (halves_of (form_of true thunk) thunk) h

  has_of : (f : Form) → form_of true thunk ≡ f → (h : Half) → Contains (halves_of f thunk) h → Has h
  has_of f is h has = subst (λ f. Contains (halves_of f thunk) h) (sym is) has

  half_edition : (h : Half) → Has h → cells (h.lock + 1) ≡ h.word
  half_edition h has =
      let sees = (whole_fit.halves h has).sees in
      let seen = side_seen buckets (bucket bits) small walked.bounds (Mov from to) walked.readings sees.0 (late _ sees.1.whole) in
      ap (λ lock. cells (lock + 1)) sees.1.place ∙ (walked.read seen.0 _ _ seen.1 ∙ sym sees.1.word)
    where
      late : (stage : Stage) → (stage ≡ AtLock) ⊎ (stage ≡ AtEnd) → stage ≢ AtEdition
      late stage whole first = ⊎_elim (λ lock. let no = sym lock ∙ first in cc) (λ end. let no = sym end ∙ first in cc) whole

  -- the form, by its number
  numbered : (c d : Bool) → one ≡ c → m ≡ d → thunk.form ≡ cond c (cond d 23 1) (cond d 22 21)
  numbered c d is goes = fit.form ∙ (ap (λ c. cond c (cond m 23 1) (cond m 22 21)) is ∙ ap (λ d. cond c (cond d 23 1) (cond d 22 21)) goes)

  formed : (f : Form) → thunk.form ≡ number_of f → fits_for f thunk ≡ true → form_of true thunk ≡ f
  formed f number fits = form_is true f thunk (λ is. refl) number fits

  body : (f : Form) → form_of true thunk ≡ f → two_steps thunk ≡ steps_of f thunk
  body f is = body_of true f thunk is

  -- and the operands
  number_at : (n : ℕ) (c d : Bool) → one ≡ c → m ≡ d → operand thunk n ≡ slice_index (cond c (one_operands buckets (bucket bits) from to w d) (both_operands buckets (bucket bits) from to w d)) n
  number_at n c d is goes = ap (λ ns. slice_index ns n) fit.operands
      ∙ (ap (λ c. slice_index (cond c (one_operands buckets (bucket bits) from to w m) (both_operands buckets (bucket bits) from to w m)) n) is
      ∙ ap (λ d. slice_index (cond c (one_operands buckets (bucket bits) from to w d) (both_operands buckets (bucket bits) from to w d)) n) goes)

  lock_is : thunk.lock ≡ bucket_lock l
  lock_is = fit.lock

  lock_small : thunk.lock + 2 < 2 ^ 32
  lock_small = (let at = lock_is in let low = l_low in let most = few in omega (arith, at, low, most))

  high_small : bucket_lock k + 2 < 2 ^ 32
  high_small = (let low = k_low in let most = few in omega (arith, low, most))

  -- the lock that is taken is free
  lock_free : one ≡ false → (d : Bool) → m ≡ d → is_free (operand thunk 1) ≡ true
  lock_free two true goes = ap is_free (number_at 1 false true two goes) ∙ (both_of _ _ (fit.higher_read two).1).0
  lock_free two false still = ap is_free (number_at 1 false false two still) ∙ (both_of _ _ (fit.higher_read two).1).0

  abbrev Does : List Step → Type 0
  Does steps = DoesTheOperation bits slots pairs (Mov from to) (plain_run steps request memory (true ∷ []))

  abbrev Left : (ℕ → ℕ) → Type 0
  Left left = BucketsStand buckets (bucket bits) slots left (map_after pairs (Mov from to))

  -- where nothing moves
  module _ (still : m ≡ false) where
    stays : (cond w.first.found (2 * 2 ^ 32) (5 * 2 ^ 32) ≡ word_of (reply_of pairs (Mov from to))) × (pairs ≡ map_after pairs (Mov from to))
    stays = still_moved pairs from to w.first.found w.second.found (from == to) (λ found. (w.first.value, from_some found)) from_none
        (λ same. sym (tested_equal from to same)) (λ other found. (w.second.value, to_some other found)) still

    still_stands : Left cells
    still_stands = subst (λ pairs. BucketsStand buckets (bucket bits) slots cells pairs) stays.1 stands

    read_case : one ≡ true → Does (two_steps thunk)
    read_case is =
        let form = formed Reads (numbered true false is still) (small_is (thunk.lock + 1) (let low = lock_small in omega (arith, low))) in
        let answer = two_answer true buckets (bucket bits) small few walked.bounds from to walked.readings thunk fit Reads form (λ e. cc) in
        let ends = read_run (plain_setting (read_steps thunk) (true ∷ []) memory) cells memory.clock (slice_index memory.stamps request) (slice_index memory.replies request) thunk
        (half_edition (look_half thunk) (has_of Reads form (look_half thunk) (0, omega arith, refl))) in
        subst Does (sym (body Reads form)) (record {
          answer = ends.answered ∙ ap (λ n. Some (Answered n)) (answer.1 ∙ stays.0);
          contents = subst Left (sym ends.left) still_stands;
        })

    look_two_case : one ≡ false → Does (two_steps thunk)
    look_two_case two =
        let place : operand thunk 3 ≡ bucket_lock k = number_at 3 false false two still in
        let number : thunk.form ≡ 21 = numbered false false two still in
        let form = formed ReadsTwo number (λ z. small_is (thunk.lock + 2) lock_small z && small_is (operand thunk 3 + 2) (let low = high_small in omega (arith, place, low)) z) in
        let answer = two_answer true buckets (bucket bits) small few walked.bounds from to walked.readings thunk fit ReadsTwo form (λ e. cc) in
        let ends = look_two_run (plain_setting (look_two_steps thunk) (true ∷ []) memory) cells memory.clock (slice_index memory.stamps request) (slice_index memory.replies request) thunk
        (record {
          lower = half_edition (look_two_half true thunk) (has_of ReadsTwo form (look_two_half true thunk) (0, omega arith, refl));
          lock = is_got (plain_setting (look_two_steps thunk) (true ∷ []) memory) 1 (operand thunk 1) refl refl refl (lock_free two false still) (unspent.lock (inl number));
          higher = half_edition (look_two_half false thunk) (has_of ReadsTwo form (look_two_half false thunk) (1, omega arith, refl));
        }) in
        subst Does (sym (body ReadsTwo form)) (record {
          answer = ends.answered ∙ ap (λ n. Some (Answered n)) (answer.1 ∙ stays.0);
          contents = subst Left (sym ends.left) still_stands;
        })

  -- where the value moves
  module _ (goes : m ≡ true) where
    found : IsFound buckets (bucket bits) cells stands.on (Del from) w.first
    found = first_known.1 (both_of _ _ goes).0

    other : (from == to) ≡ false
    other = not_true _ (both_of _ _ (both_of _ _ goes).1).1

    has_from : get pairs from ≡ Some w.first.value
    has_from = from_some (both_of _ _ goes).0

    lacks_to : get pairs to ≡ None
    lacks_to = to_none other (not_true _ (both_of _ _ (both_of _ _ goes).1).0)

    abbrev gone : ℕ
    gone = w.first.slot

    gone_on : stands.on gone ≡ true
    gone_on = found_on buckets (bucket bits) small slots cells (get pairs) stands.on stands.rank holds (Del from) w.first found

    place_small : w.first.place < 2 ^ 32
    place_small = link_place bits slots memory pairs contents i (small from) w.first.place found.0.0

    next_small : w.first.next < 2 ^ 32
    next_small = subst (λ n. n < 2 ^ 32) (found.3 refl) (value_small (cells (cell_at buckets (bucket bits) gone 3)))

    to_small : to < 2 ^ 32
    to_small = numbers.keys to (inr refl)

    moved_answer : Some (Answered (7 * 2 ^ 32)) ≡ Some (Answered (word_of (reply_of pairs (Mov from to))))
    moved_answer = ap (λ n. Some (Answered n)) (moved_reply pairs from to w.first.value has_from lacks_to)

    -- the map then: the node that goes has the first key, and the new one the second
    moved_same : (old new v : ℕ) → old ≡ from → new ≡ to → v ≡ w.first.value → (q : ℕ)
        → upd (upd (get pairs) old None) new (Some v) q ≡ get (map_after pairs (Mov from to)) q
    moved_same old new v first second value q = ap (λ key. upd (upd (get pairs) key None) new (Some v) q) first
        ∙ (ap (λ key. upd (upd (get pairs) from None) key (Some v) q) second
        ∙ (ap (λ v. upd (upd (get pairs) from None) to (Some v) q) value
        ∙ moved_map pairs from to w.first.value has_from lacks_to q))

    -- once the new node is made with these numbers; the link to the old one is at p
    module _ (free : IsOut bits slots memory pairs contents) (key value next p : ℕ) (has_key : key ≡ to) (has_value : value ≡ w.first.value) (next_low : next < 2 ^ 32) (is_link : p ≡ w.first.place) where
      abbrev t : ℕ
      t = slice_index memory.free 0

      abbrev filled : ℕ → ℕ
      filled = made_cells cells (3 * buckets) t key value next

      filled_holds : HoldsNow filled (get pairs) stands.on stands.rank
      filled_holds = made_holds buckets (bucket bits) small slots cells (get pairs) stands.on stands.rank holds t key value next free.out

      link : IsLinkOf buckets (bucket bits) cells stands.on i p
      link = subst (IsLinkOf buckets (bucket bits) cells stands.on i) (sym is_link) found.0.0

      fixed_same : (q : ℕ) → q < 3 * buckets → filled q ≡ cells q
      fixed_same = fixed_stays buckets (bucket bits) small slots cells (get pairs) stands.on stands.rank holds t key value next free.out

      link_same : IsLinkOf buckets (bucket bits) filled stands.on i p × (filled p ≡ cells p)
      link_same = link_stays buckets (bucket bits) small slots cells (get pairs) stands.on stands.rank holds t key value next free.out i p (small from) link

      leads : value_of (filled p) ≡ suc gone
      leads = ap value_of link_same.1 ∙ (ap (λ p. value_of (cells p)) is_link ∙ found.0.1)

      gone_same : (cell : ℕ) → cell < 5 → filled (cell_at buckets (bucket bits) gone cell) ≡ cells (cell_at buckets (bucket bits) gone cell)
      gone_same cell low = node_stays buckets (bucket bits) small slots cells (get pairs) stands.on stands.rank holds t key value next free.out gone cell low gone_on

      gone_key : key_at buckets (bucket bits) small slots filled gone ≡ from
      gone_key = ap value_of (gone_same 1 (omega arith)) ∙ found.1

      gone_next : next_at buckets (bucket bits) small slots filled gone ≡ w.first.next
      gone_next = ap value_of (gone_same 3 (omega arith)) ∙ found.3 refl

      new_key : key_at buckets (bucket bits) small slots filled t ≡ to
      new_key = made_key buckets (bucket bits) small slots cells (get pairs) stands.on stands.rank holds t key value next free.out (subst (λ n. n < 2 ^ 32) (sym has_key) to_small) ∙ has_key

      new_value : value_at buckets (bucket bits) small slots filled t ≡ w.first.value
      new_value = made_value buckets (bucket bits) small slots cells (get pairs) stands.on stands.rank holds t key value next free.out (subst (λ n. n < 2 ^ 32) (sym has_value) fit.value_small) ∙ has_value

      new_next : next_at buckets (bucket bits) small slots filled t ≡ next
      new_next = made_next buckets (bucket bits) small slots cells (get pairs) stands.on stands.rank holds t key value next free.out next_low

      -- the old one is taken out of its bucket, and then the new one put in at the head of the other
      module _ (off in_head low_word high_word : ℕ) (apart : i ≢ j) (off_is : value_of off ≡ w.first.next) (head_is : value_of in_head ≡ suc t) (first_is : next ≡ value_of (cells (bucket_head j))) where
        abbrev left : ℕ → ℕ
        left = upd filled p off

        taken : HoldsNow left (upd (get pairs) (key_at buckets (bucket bits) small slots filled gone) None) (upd stands.on gone false) stands.rank
        taken = removed_holds buckets (bucket bits) small slots filled (get pairs) stands.on stands.rank filled_holds i p gone off (small from) link_same.0 leads (off_is ∙ sym gone_next)

        cell_same : (cell : ℕ) → cell < 5 → left (cell_at buckets (bucket bits) t cell) ≡ filled (cell_at buckets (bucket bits) t cell)
        cell_same cell low = upd_other filled p (cell_at buckets (bucket bits) t cell) off
            (no_cell buckets (bucket bits) small slots cells (get pairs) stands.on stands.rank holds i p t cell (small from) free.out low link)

        head_same : left (bucket_head j) ≡ cells (bucket_head j)
        head_same = upd_other filled p (bucket_head j) off (no_head buckets (bucket bits) small slots cells (get pairs) stands.on stands.rank holds i j p (small to) apart link)
            ∙ fixed_same (bucket_head j) (let low = small to in omega (arith, low))

        out_still : upd stands.on gone false t ≡ false
        out_still = upd_other stands.on gone t false (λ e. both_ways (stands.on gone) (sym (ap stands.on e) ∙ free.out) gone_on) ∙ free.out

        key_still : key_at buckets (bucket bits) small slots left t ≡ to
        key_still = ap value_of (cell_same 1 (omega arith)) ∙ new_key

        value_still : value_at buckets (bucket bits) small slots left t ≡ w.first.value
        value_still = ap value_of (cell_same 2 (omega arith)) ∙ new_value

        first_still : next_at buckets (bucket bits) small slots left t ≡ value_of (left (bucket_head j))
        first_still = ap value_of (cell_same 3 (omega arith)) ∙ (new_next ∙ (first_is ∙ sym (ap value_of head_same)))

        abbrev moved : ℕ → ℕ
        moved = upd (upd (upd left (bucket_head j) in_head) (bucket_edition l) low_word) (bucket_edition k) high_word

        moved_stands : Left moved
        moved_stands =
            let put = put_holds buckets (bucket bits) small slots left _ _ _ taken t in_head free.within out_still head_is
            (none_still (get pairs) _ _ (ap (get pairs) key_still ∙ lacks_to)) j (small to) (ap (bucket bits) key_still) first_still in
            stands_by buckets (bucket bits) small slots moved _ _ _ (map_after pairs (Mov from to))
            (edition_holds buckets (bucket bits) small slots (upd (upd left (bucket_head j) in_head) (bucket_edition l) low_word) _ _ _
            (edition_holds buckets (bucket bits) small slots (upd left (bucket_head j) in_head) _ _ _ put.1 l low_word l_low) k high_word k_low)
            (moved_same _ _ _ gone_key key_still value_still)

      -- the new one takes the place of the old one
      module _ (in_link low_word : ℕ) (same : i ≡ j) (link_is : value_of in_link ≡ suc t) (next_is : next ≡ w.first.next) where
        abbrev renamed : ℕ → ℕ
        renamed = upd (upd filled p in_link) (bucket_edition l) low_word

        renamed_stands : Left renamed
        renamed_stands =
            let there = renamed_holds buckets (bucket bits) small slots filled (get pairs) stands.on stands.rank filled_holds t in_link free.within free.out link_is
            (ap (get pairs) new_key ∙ lacks_to) i p gone (small from) link_same.0 leads (ap (bucket bits) new_key ∙ sym same) (new_next ∙ (next_is ∙ sym gone_next)) in
            stands_by buckets (bucket bits) small slots renamed _ _ _ (map_after pairs (Mov from to))
            (edition_holds buckets (bucket bits) small slots (upd filled p in_link) _ _ _ there l low_word l_low)
            (moved_same _ _ _ gone_key new_key new_value)

    -- to another bucket
    module _ (two : one ≡ false) (makes : Makes thunk → IsOut bits slots memory pairs contents) where
      number : thunk.form ≡ 22
      number = numbered false true two goes

      free : IsOut bits slots memory pairs contents
      free = makes (inr (inl number))

      apart : i ≢ j
      apart = tested_other i j two

      higher_is : higher_lock thunk ≡ bucket_lock k
      higher_is = ap value_of (number_at 3 false true two goes) ∙ (let low = high_small in omega (arith, low))

      form : form_of true thunk ≡ Moves
      form = formed Moves number (λ z. small_is (thunk.lock + 2) lock_small z && small_is (higher_lock thunk + 2) (let at = higher_is in let low = high_small in omega (arith, at, low)) z)

      abbrev takes : Half
      takes = taking_half (takes_lower thunk) thunk

      abbrev puts : Half
      puts = putting_half (takes_lower thunk) thunk

      has_takes : Has takes
      has_takes = has_of Moves form takes (0, omega arith, refl)

      has_puts : Has puts
      has_puts = has_of Moves form puts (1, omega arith, refl)

      wants : (cells (thunk.lock + 1) ≡ operand thunk 0) × (cells (higher_lock thunk + 1) ≡ operand thunk 2)
      wants = two_wants cells (takes_lower thunk) thunk.lock (higher_lock thunk) (operand thunk 0) (operand thunk 2) (half_edition takes has_takes) (half_edition puts has_puts)

      abbrev p : ℕ
      p = low_half thunk 4

      is_link : p ≡ w.first.place
      is_link = ap value_of (number_at 4 false true two goes) ∙ (let low = place_small in omega (arith, low))

      off_is : low_half thunk 5 ≡ w.first.next
      off_is = ((whole_fit.halves takes has_takes).takes tt).5

      has_key : low_half thunk 6 ≡ to
      has_key = ((whole_fit.halves puts has_puts).puts tt).2

      has_value : high_half thunk 6 ≡ w.first.value
      has_value = (two_answer true buckets (bucket bits) small few walked.bounds from to walked.readings thunk fit Moves form (λ e. cc)).1

      first_is : high_half thunk 5 ≡ value_of (cells (bucket_head j))
      first_is = ((whole_fit.halves puts has_puts).heads refl).1 ∙ (second_known other).0

      target_is : target_lock thunk + 2 ≡ bucket_head j
      target_is = ap (λ lock. lock + 2) ((whole_fit.halves puts has_puts).puts tt).0.place

      low_place : thunk.lock + 1 ≡ bucket_edition l
      low_place = ap (λ lock. lock + 1) lock_is

      high_place : higher_lock thunk + 1 ≡ bucket_edition k
      high_place = ap (λ lock. lock + 1) higher_is

      next_low : high_half thunk 5 < 2 ^ 32
      next_low = subst (λ n. n < 2 ^ 32) (sym first_is) (value_small (cells (bucket_head j)))

      abbrev off : ℕ
      off = next_word (cells p) (low_half thunk 5)

      abbrev in_head : ℕ
      in_head = next_word (cells (target_lock thunk + 2)) (value_of (slice_index memory.free 0 + 1))

      abbrev low_word : ℕ
      low_word = next_word (cells (thunk.lock + 1)) 0

      abbrev high_word : ℕ
      high_word = next_word (cells (higher_lock thunk + 1)) 0

      abbrev made : ℕ → ℕ → ℕ
      made fixed = made_cells cells fixed (slice_index memory.free 0) (low_half thunk 6) (high_half thunk 6) (high_half thunk 5)

      link_here : IsLinkOf buckets (bucket bits) cells stands.on i p
      link_here = link free (low_half thunk 6) (high_half thunk 6) (high_half thunk 5) p has_key has_value next_low is_link

      made_same : (q : ℕ) → q < 3 * buckets → made (3 * buckets) q ≡ cells q
      made_same = fixed_same free (low_half thunk 6) (high_half thunk 6) (high_half thunk 5) p has_key has_value next_low is_link

      written : moved_cells (plain_setting (move_steps thunk) (true ∷ []) memory) cells memory.clock (slice_index memory.stamps request) (slice_index memory.replies request) thunk
          ≡ upd (upd (upd (upd (made (3 * buckets)) p off) (bucket_head j) in_head) (bucket_edition l) low_word) (bucket_edition k) high_word
      written =
          ap (λ fixed. exchanged (exchanged (exchanged (exchanged (made fixed) p (cells p) off) (target_lock thunk + 2) (cells (target_lock thunk + 2)) in_head)
          (thunk.lock + 1) (cells (thunk.lock + 1)) low_word) (higher_lock thunk + 1) (cells (higher_lock thunk + 1)) high_word) contents.fixed
          ∙ (four_write (made (3 * buckets)) p (target_lock thunk + 2) (thunk.lock + 1) (higher_lock thunk + 1) (cells p) (cells (target_lock thunk + 2)) (cells (thunk.lock + 1)) (cells (higher_lock thunk + 1)) off in_head low_word high_word
          (link_same free (low_half thunk 6) (high_half thunk 6) (high_half thunk 5) p has_key has_value next_low is_link).1
          (made_same (target_lock thunk + 2) (let at = target_is in let low = small to in omega (arith, at, low)))
          (made_same (thunk.lock + 1) (let at = low_place in let low = l_low in omega (arith, at, low)))
          (made_same (higher_lock thunk + 1) (let at = high_place in let low = k_low in omega (arith, at, low)))
          (λ e. no_head buckets (bucket bits) small slots cells (get pairs) stands.on stands.rank holds i j p (small to) apart link_here (sym target_is ∙ e))
          (λ e. no_edition buckets (bucket bits) small slots cells (get pairs) stands.on stands.rank holds i l p l_low link_here (sym low_place ∙ e))
          (λ e. let first = low_place in let second = target_is in omega (arith, e, first, second))
          (λ e. no_edition buckets (bucket bits) small slots cells (get pairs) stands.on stands.rank holds i k p k_low link_here (sym high_place ∙ e))
          (λ e. let first = high_place in let second = target_is in omega (arith, e, first, second))
          (λ e. two_apart (nat_lt i j) i j apart (let first = low_place in let second = high_place in omega (arith, e, first, second)))
          ∙ (λ z. upd (upd (upd (upd (made (3 * buckets)) p off) (target_is z) in_head) (low_place z) low_word) (high_place z) high_word))

      move_case : Does (two_steps thunk)
      move_case =
          let fresh = unspent.move number in
          let ends = move_run (plain_setting (move_steps thunk) (true ∷ []) memory) cells memory.clock (slice_index memory.stamps request) (slice_index memory.replies request) thunk
          (record {
            lower = wants.0;
            lock = is_got (plain_setting (move_steps thunk) (true ∷ []) memory) 1 (operand thunk 1) refl refl refl (lock_free two true goes) (unspent.lock (inr number));
            higher = wants.1;
          }) fresh.lower fresh.higher fresh.link fresh.head in
          subst Does (sym (body Moves form)) (record {
            answer = ends.answered ∙ moved_answer;
            contents = subst Left (sym (ends.left ∙ written))
                (moved_stands free (low_half thunk 6) (high_half thunk 6) (high_half thunk 5) p has_key has_value next_low is_link off in_head low_word high_word apart
                (value-next_word (cells p) (low_half thunk 5) (subst (λ n. n < 2 ^ 32) (sym off_is) next_small) ∙ off_is)
                (link_to (cells (target_lock thunk + 2)) (slice_index memory.free 0) free.linked) first_is);
          })

    -- within its bucket
    module _ (is : one ≡ true) (makes : Makes thunk → IsOut bits slots memory pairs contents) where
      rename_number : thunk.form ≡ 23
      rename_number = numbered true true is goes

      rename_free : IsOut bits slots memory pairs contents
      rename_free = makes (inr (inr rename_number))

      rename_link : operand thunk 1 ≡ w.first.place
      rename_link = number_at 1 true true is goes

      rename_next : operand thunk 3 ≡ w.first.next
      rename_next = number_at 3 true true is goes

      rename_key : operand thunk 4 ≡ to
      rename_key = number_at 4 true true is goes

      rename_value : operand thunk 5 ≡ w.first.value
      rename_value = number_at 5 true true is goes

      rename_low : operand thunk 3 < 2 ^ 32
      rename_low = subst (λ n. n < 2 ^ 32) (sym rename_next) next_small

      rename_fits : fits_rename thunk ≡ true
      rename_fits = (λ z. small_is (thunk.lock + 2) lock_small z && (small_is (operand thunk 1) (subst (λ n. n < 2 ^ 32) (sym rename_link) place_small) z
          && (small_is (operand thunk 2) (subst (λ n. n < 2 ^ 32) (sym (number_at 2 true true is goes)) fit.slot_small) z
          && (small_is (operand thunk 3) rename_low z && (small_is (operand thunk 4) (subst (λ n. n < 2 ^ 32) (sym rename_key) to_small) z
          && small_is (operand thunk 5) (subst (λ n. n < 2 ^ 32) (sym rename_value) fit.value_small) z)))))

      rename_form : form_of true thunk ≡ Renames
      rename_form = formed Renames rename_number rename_fits

      rename_place : thunk.lock + 1 ≡ bucket_edition l
      rename_place = ap (λ lock. lock + 1) lock_is

      abbrev in_link : ℕ
      in_link = next_word (cells (operand thunk 1)) (value_of (slice_index memory.free 0 + 1))

      abbrev rename_word : ℕ
      rename_word = next_word (cells (thunk.lock + 1)) 0

      abbrev rename_made : ℕ → ℕ → ℕ
      rename_made fixed = made_cells cells fixed (slice_index memory.free 0) (operand thunk 4) (operand thunk 5) (operand thunk 3)

      rename_chain : IsLinkOf buckets (bucket bits) cells stands.on i (operand thunk 1)
      rename_chain = link rename_free (operand thunk 4) (operand thunk 5) (operand thunk 3) (operand thunk 1) rename_key rename_value rename_low rename_link

      rename_written : renamed_cells (plain_setting (rename_steps thunk) (true ∷ []) memory) cells memory.clock (slice_index memory.stamps request) (slice_index memory.replies request) thunk
          ≡ upd (upd (rename_made (3 * buckets)) (operand thunk 1) in_link) (bucket_edition l) rename_word
      rename_written =
          ap (λ fixed. exchanged (exchanged (rename_made fixed) (operand thunk 1) (cells (operand thunk 1)) in_link) (thunk.lock + 1) (cells (thunk.lock + 1)) rename_word) contents.fixed
          ∙ (exchanges_write (rename_made (3 * buckets)) (operand thunk 1) (thunk.lock + 1) (cells (operand thunk 1)) in_link (cells (thunk.lock + 1)) rename_word
          (link_same rename_free (operand thunk 4) (operand thunk 5) (operand thunk 3) (operand thunk 1) rename_key rename_value rename_low rename_link).1
          (fixed_same rename_free (operand thunk 4) (operand thunk 5) (operand thunk 3) (operand thunk 1) rename_key rename_value rename_low rename_link (thunk.lock + 1) (let at = rename_place in let low = l_low in omega (arith, at, low)))
          (λ e. no_edition buckets (bucket bits) small slots cells (get pairs) stands.on stands.rank holds i l (operand thunk 1) l_low rename_chain (sym rename_place ∙ e))
          ∙ ap (λ place. upd (upd (rename_made (3 * buckets)) (operand thunk 1) in_link) place rename_word) rename_place)

      rename_case : Does (two_steps thunk)
      rename_case =
          let fresh = unspent.rename rename_number in
          let ends = rename_run (plain_setting (rename_steps thunk) (true ∷ []) memory) cells memory.clock (slice_index memory.stamps request) (slice_index memory.replies request) thunk
          (half_edition (rename_half thunk) (has_of Renames rename_form (rename_half thunk) (0, omega arith, refl))) fresh.edition fresh.link in
          subst Does (sym (body Renames rename_form)) (record {
            answer = ends.answered ∙ moved_answer;
            contents = subst Left (sym (ends.left ∙ rename_written))
                (renamed_stands rename_free (operand thunk 4) (operand thunk 5) (operand thunk 3) (operand thunk 1) rename_key rename_value rename_low rename_link in_link rename_word
                (tested_equal i j is) (link_to (cells (operand thunk 1)) (slice_index memory.free 0) rename_free.linked) rename_next);
          })

  mov_case : (Makes thunk → IsOut bits slots memory pairs contents) → Does (two_steps thunk)
  mov_case free = by one m refl refl
    where
      by : (c d : Bool) → one ≡ c → m ≡ d → Does (two_steps thunk)
      by true true is goes = rename_case goes is free
      by true false is still = read_case still is
      by false true two goes = move_case goes two free
      by false false two still = look_two_case still two

-- of an operation over one key
one_case : (bits slots request : ℕ) (memory : PlainMemory) (pairs : Pairs) (op : Op) (thunk : Thunk) (contents : HasContents bits slots memory pairs) → HasSmallNumbers op
    → (walked : IsWalked bits memory op thunk) → fits_walk (2 ^ bits) (bucket bits) op (walk (2 ^ bits) (bucket bits) walked.bounds op start walked.readings) thunk ≡ true
    → IsUnspent bits memory thunk → (Makes thunk → IsOut bits slots memory pairs contents)
    → DoesTheOperation bits slots pairs op (plain_run (two_steps thunk) request memory (true ∷ []))
one_case bits slots request memory pairs op thunk contents numbers walked fits unspent free =
    let x = walk (2 ^ bits) (bucket bits) walked.bounds op start walked.readings in
    let form = (fit_of (2 ^ bits) (bucket bits) op x thunk fits).form in
    let few : thunk.form ≤ 4 = subst (λ n. n ≤ 4) (sym form) (form_few op x.found) in
    subst (λ steps. DoesTheOperation bits slots pairs op (plain_run steps request memory (true ∷ []))) (sym (one_body thunk few))
    (runs_do bits slots request memory pairs op thunk (true ∷ []) contents numbers
    (record { bounds = walked.bounds; readings = walked.readings; read = walked.read; fits = fits }) (unspent.one few) (λ two. free (inl two)))

pub runs_do_the_operations : RunsDoTheOperations
runs_do_the_operations bits slots request memory pairs (Get key) thunk contents numbers walked unspent free =
    one_case bits slots request memory pairs (Get key) thunk contents numbers walked walked.fits unspent free
runs_do_the_operations bits slots request memory pairs (Ins key value) thunk contents numbers walked unspent free =
    one_case bits slots request memory pairs (Ins key value) thunk contents numbers walked walked.fits unspent free
runs_do_the_operations bits slots request memory pairs (Del key) thunk contents numbers walked unspent free =
    one_case bits slots request memory pairs (Del key) thunk contents numbers walked walked.fits unspent free
runs_do_the_operations bits slots request memory pairs (Put key value) thunk contents numbers walked unspent free =
    one_case bits slots request memory pairs (Put key value) thunk contents numbers walked walked.fits unspent free
runs_do_the_operations bits slots request memory pairs (Mov from to) thunk contents numbers walked unspent free =
    mov_case bits slots request memory pairs from to thunk contents numbers walked unspent free
