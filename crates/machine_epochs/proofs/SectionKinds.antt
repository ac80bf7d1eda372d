-- The publication of a section.
use Rattle.std.specs.Prelude.{◌==◌, ◌&&◌, ◌||◌, not, cond, ◌^◌, ◌%◌, Bool, true, false, nat_lt, replicate, slice_index}
use Rattle.std.specs.List.{filter}
use Rattle.std.proofs.Common.{◌≡◌, ◌≢◌, ℕ, zero, suc, ◌+◌, ◌-◌, ◌<◌, List, [], ◌∷◌, length, refl, sym, ap, ◌∙◌, subst, arith, ⊎_elim, inl, inr, Option, Some, None}
use Rattle.std.proofs.lemmas.Bool.{cases_eq}
use Rattle.std.proofs.lemmas.Bool.Decides.{nat_tests}
use Rattle.section_lines.specs.small_lemmas.proofs.Numbers.{tested_equal as same_word, tested_other as other_word, other_tested}
use Rattle.machine_states.specs.map_history.specs.declared.op.Request.{Request}
use Rattle.machine_states.specs.body_terms.specs.declared.thunk.Thunk.{Thunk}
use Rattle.machine_states.specs.body_terms.specs.Word.{held_word}
use Rattle.machine_states.specs.table_words.specs.declared.layout.Layout.{Layout}
use Rattle.machine_states.specs.table_words.specs.declared.spot.Spot.{Spot}
use Rattle.machine_states.specs.table_words.specs.declared.spot.Spot.TheVariants.{Cell, ThunkWord, LogWord, LinkWord}
use Rattle.machine_states.specs.table_words.specs.declared.access.Access.{Access}
use Rattle.machine_states.specs.table_words.specs.declared.access.Access.TheVariants.{Exchanges}
use Rattle.machine_states.specs.table_words.specs.Access.{written}
use Rattle.machine_states.specs.table_words.specs.Places.{part_words}
use Rattle.machine_states.specs.table_words.specs.Seen.{upd, put}
use Rattle.machine_states.specs.structure_laws.specs.Meaning.{Meaning}
use Rattle.machine_states.specs.runner_parts.specs.declared.event.EventKind.TheVariants as kinds
use Rattle.machine_states.specs.epoch_core.specs.declared.stage.Stage.TheVariants.{Entered}
use Rattle.machine_states.specs.runner_parts.specs.declared.entries.Published.{Published}
use Rattle.machine_states.specs.runner_parts.specs.declared.entries.Stored.{Stored}
use Rattle.machine_states.specs.runner_parts.specs.State.{PartState, RecordsState}
use Rattle.machine_states.specs.runner_parts.specs.Tests.{has, last_stored, is_some_of, are_stored, thunk_words, is_prepared}
use Rattle.machine_states.specs.runner_steps.specs.Outside.{descriptor_spot, hold_ask, is_sure_of}
use Rattle.machine_states.specs.runner_steps.specs.Sections.{thunk_of}
use Rattle.machine_states.specs.runner_parts.specs.Lists as lists
use Rattle.machine_states.specs.epoch_core.specs.declared.location.Location.{Location}
use Rattle.machine_states.specs.epoch_core.specs.declared.location.Location.TheVariants.{Live, Hand, Free}
use Rattle.machine_states.specs.epoch_core.specs.Update.{upd2, upd_row}
use Rattle.machine_states.specs.epoch_core.specs.State.{EpochState, Role, is_entered}
use Rattle.machine_states.specs.epoch_core.specs.Events as events
use Rattle.machine_states.specs.epoch_core.specs.Events.{slot_of}
use Rattle.machine_states.specs.epoch_core.specs.History.{is_out}
use Rattle.machine_states.specs.Sight.{Sight}
use Rattle.machine_states.proofs.Steps.{some_same}
use Rattle.machine_states.proofs.Updates.{map_upd}
use Rattle.machine_epochs.specs.Entries.{counts_of}
use Rattle.machine_epochs.specs.Roles.{role_at}
use Rattle.machine_epochs.specs.Slots.{lists_of, thunk_in}
use Rattle.machine_epochs.specs.Joined.{IsJoinedToEpochs}
use Rattle.machine_epochs.specs.Chunks.{roles_of, IsOutsideChunk}
use Rattle.machine_epochs.proofs.OutsideAsked as asked
use Rattle.machine_epochs.proofs.Places.{free_descriptor}
use Rattle.machine_epochs.proofs.Joining.{but_cell, descriptor_same, Goes, GoesBy, StaysAt, next, as_published, stages_stay, stays, board_kept, goes_with}
use Rattle.machine_epochs.proofs.SlotKinds.{other_place, this_place, kept_place, slot_apart}
use Rattle.machine_epochs.proofs.OutsideKinds.{Leads, tied_by}
use Rattle.machine_states.specs.runner_steps.specs.AfterOutside.{published_by}

-- each of these words was stored last at its place
pub stored_index : (stored : List Stored) (d : ℕ) (ns : List ℕ) (word i : ℕ) → i < length ns → are_stored stored d word ns ≡ true → last_stored stored d (word + i) None ≡ Some (slice_index ns i)
unfolding are_stored
stored_index stored d [] word i low e = absurd (omega arith)
stored_index stored d (n ∷ ns) word zero low e = ap (λ k. last_stored stored d k None) (let h : word + 0 ≡ word = omega arith in h) ∙ is_it (last_stored stored d word None) (first (is_some_of (last_stored stored d word None) n) _ e)
  where
    first : (a b : Bool) → (a && b) ≡ true → a ≡ true
    first true b e = refl
    first false b e = absurd (let x = e in cc)

    same : (a b : ℕ) → (a == b) ≡ true → a ≡ b
    same a b h = grind (arith, nat_tests)

    is_it : (o : Option ℕ) → is_some_of o n ≡ true → o ≡ Some n
    is_it None e = absurd (let x = e in cc)
    is_it (Some k) e = ap (λ a. Some a) (same k n e)
stored_index stored d (n ∷ ns) word (suc i) low e =
    ap (λ k. last_stored stored d k None) (let h : word + suc i ≡ word + 1 + i = omega arith in h) ∙ stored_index stored d ns (word + 1) i (omega arith) (second (is_some_of (last_stored stored d word None) n) _ e)
  where
    second : (a b : Bool) → (a && b) ≡ true → b ≡ true
    second true b e = e
    second false b e = absurd (let x = e in cc)

-- what was stored into other descriptors
last_kept : (xs : List Stored) (d d' j : ℕ) (so_far : Option ℕ) → d' ≢ d → last_stored (filter (λ x. not (x.descriptor == d)) xs) d' j so_far ≡ last_stored xs d' j so_far
last_kept [] d d' j so_far ne = refl
last_kept (x ∷ xs) d d' j so_far ne = by_test (x.descriptor == d) refl (λ o. last_kept xs d d' j o ne)
  where
    others : (a b c : ℕ) (e : Bool) (o o' : Option ℕ) → (a == b) ≡ true → c ≢ b → cond (a == c && e) o o' ≡ o'
    others a b c e o o' h ne = grind (arith, nat_tests)

    by_test : (b : Bool) → (x.descriptor == d) ≡ b → ((o : Option ℕ) → last_stored (filter (λ y. not (y.descriptor == d)) xs) d' j o ≡ last_stored xs d' j o)
        → last_stored (cond (not b) (x ∷ filter (λ y. not (y.descriptor == d)) xs) (filter (λ y. not (y.descriptor == d)) xs)) d' j so_far ≡ last_stored (x ∷ xs) d' j so_far
    by_test true e rest = rest so_far ∙ ap (λ (o : Option ℕ). last_stored xs d' j o) (sym (others x.descriptor d d' (x.word == j) (Some x.number) so_far e ne))
    by_test false e rest = rest _

-- nothing is left that was stored into a descriptor that was taken
last_taken : (xs : List Stored) (d j : ℕ) (so_far : Option ℕ) → last_stored (filter (λ x. not (x.descriptor == d)) xs) d j so_far ≡ so_far
last_taken [] d j so_far = refl
last_taken (x ∷ xs) d j so_far = by_test (x.descriptor == d) refl (λ o. last_taken xs d j o)
  where
    by_test : (b : Bool) → (x.descriptor == d) ≡ b → ((o : Option ℕ) → last_stored (filter (λ y. not (y.descriptor == d)) xs) d j o ≡ o)
        → last_stored (cond (not b) (x ∷ filter (λ y. not (y.descriptor == d)) xs) (filter (λ y. not (y.descriptor == d)) xs)) d j so_far ≡ so_far
    by_test true e rest = rest so_far
    by_test false e rest = rest _ ∙ ap (λ b. cond (b && x.word == j) (Some x.number) so_far) e

has_without : (xs : List ℕ) (d d' : ℕ) → d' ≢ d → has (lists.without xs d) d' ≡ has xs d'
has_without [] d d' ne = refl
has_without (x ∷ xs) d d' ne = by_test (x == d) refl (has_without xs d d' ne)
  where
    other : (a b c : ℕ) (e : Bool) → (a == b) ≡ true → c ≢ b → e ≡ (a == c || e)
    other a b c e h ne = grind (arith, nat_tests)

    by_test : (b : Bool) → (x == d) ≡ b → has (lists.without xs d) d' ≡ has xs d' → has (cond (not b) (x ∷ lists.without xs d) (lists.without xs d)) d' ≡ (x == d' || has xs d')
    by_test true e rest = rest ∙ other x d d' (has xs d') e ne
    by_test false e rest = ap (λ b. x == d' || b) rest

pair_more : (holds : ℕ → ℕ → Bool) (r u i t : ℕ) → holds i t ≡ true → upd2 holds r u true i t ≡ true
pair_more holds r u i t h = grind (arith, nat_tests)

pair_here : (holds : ℕ → ℕ → Bool) (r u t : ℕ) → t ≡ u → upd2 holds r u true r t ≡ true
pair_here holds r u t e = grind (arith, nat_tests)

pair_other : (holds : ℕ → ℕ → Bool) (r u i t : ℕ) → t ≢ u → upd2 holds r u true i t ≡ true → holds i t ≡ true
pair_other holds r u i t ne h = grind (arith, nat_tests)

pair_else : (holds : ℕ → ℕ → Bool) (r u i t : ℕ) → i ≢ r → upd2 holds r u true i t ≡ true → holds i t ≡ true
pair_else holds r u i t ne h = grind (arith, nat_tests)

live_more : (f : ℕ → Location) (t i : ℕ) → f i ≡ Live → upd f t Live i ≡ Live
live_more f t i e = grind (arith, nat_tests)

row_other : (f : ℕ → ℕ → Role) (d i k : ℕ) (row : ℕ → Role) → i ≢ d → upd_row f d row i k ≡ f i k
row_other f d i k row ne = grind (arith, nat_tests)

row_here : (f : ℕ → ℕ → Role) (d i k : ℕ) (row : ℕ → Role) → i ≡ d → upd_row f d row i k ≡ row k
row_here f d i k row e = grind (arith, nat_tests)

free_live : (r : ℕ) → Free r ≡ Live → ⊥
free_live r e = let x = e in cc

free_not_hand : (r i : ℕ) → Free r ≡ Hand i → ⊥
free_not_hand r i e = let x = e in cc

pub link_spot : (d : ℕ) → descriptor_spot d (13 + part_words) ≡ LinkWord d
link_spot d = refl

pub log_spot : (d k : ℕ) → k < part_words → descriptor_spot d (13 + k) ≡ LogWord d k
log_spot d k low = rw (far k, near k, inner k low, back k) refl
  where
    far : (k : ℕ) → nat_lt (13 + k) 12 ≡ false
    far k = grind (arith, nat_tests)

    near : (k : ℕ) → (13 + k == 12) ≡ false
    near k = grind (arith, nat_tests)

    inner : (k : ℕ) → k < part_words → (13 + k == 13 + part_words) ≡ false
    inner k low = other_tested (13 + k) (13 + part_words) (λ same. omega (arith, low, same))

    back : (k : ℕ) → 13 + k - 13 ≡ k
    back k = omega arith

pub replicate_index : (n x i : ℕ) → i < n → slice_index (replicate n x) i ≡ x
replicate_index zero x i low = absurd (omega arith)
replicate_index (suc n) x zero low = refl
replicate_index (suc n) x (suc i) low = replicate_index n x i (omega arith)

eight : (xs : List ℕ) → length xs ≡ 8 → slice_index xs 0 ∷ slice_index xs 1 ∷ slice_index xs 2 ∷ slice_index xs 3 ∷ slice_index xs 4 ∷ slice_index xs 5 ∷ slice_index xs 6 ∷ slice_index xs 7 ∷ [] ≡ xs
eight (a ∷ b ∷ c ∷ d ∷ e ∷ f ∷ g ∷ h ∷ []) n = refl
eight (a ∷ b ∷ c ∷ d ∷ e ∷ f ∷ g ∷ h ∷ i ∷ xs) n = absurd (omega (arith, n))
eight _ n = absurd (omega (arith, n))

small : (n : ℕ) → n < 2 ^ 32 → n % 2 ^ 32 ≡ n
small n h = grind arith

-- a thunk with eight operands, whose request and lock are numbers of 32 bits, is the one that its words hold
pub thunk_again : (t : Thunk) → length t.operands ≡ 8 → t.request < 2 ^ 32 → t.lock < 2 ^ 32 → thunk_of (thunk_words t) ≡ t
thunk_again t given request lock = λ i. record {
  form = t.form;
  request = small t.request request i;
  lock = small t.lock lock i;
  word = t.word;
  operands = eight t.operands given i;
}

-- a prepared descriptor has the thunk that the words hold which were stored
module _ (m : Meaning) (l : Layout) (w : EpochState) (s : Sight) (old : IsJoinedToEpochs m l w s) (r : ℕ) (t : Thunk) (d : ℕ) (free : has (s.part r).descriptors.free d ≡ true)
    (prepared : is_prepared (s.part r).descriptors.stored d t ≡ true) where
  prepared_word : (j : ℕ) → j < 12 → s.word (descriptor_spot d j) ≡ slice_index (thunk_words t) j
  prepared_word j low = (old.tied r).stored d j (slice_index (thunk_words t) j) free
      (ap (λ n. last_stored (s.part r).descriptors.stored d n None) (let h : j ≡ 0 + j = omega arith in h)
      ∙ stored_index (s.part r).descriptors.stored d (thunk_words t) 0 j low (left _ _ prepared))
    where
      left : (a b : Bool) → (a && b) ≡ true → a ≡ true
      left true b e = refl
      left false b e = absurd (let x = e in cc)

  pub prepared_thunk : thunk_in s.word d ≡ thunk_of (thunk_words t)
  prepared_thunk =
      let word0 : s.word (ThunkWord d 0) ≡ slice_index (thunk_words t) 0 = prepared_word 0 (omega arith) in
      let word1 : s.word (ThunkWord d 1) ≡ slice_index (thunk_words t) 1 = prepared_word 1 (omega arith) in
      let word2 : s.word (ThunkWord d 2) ≡ slice_index (thunk_words t) 2 = prepared_word 2 (omega arith) in
      let word3 : s.word (ThunkWord d 3) ≡ slice_index (thunk_words t) 3 = prepared_word 3 (omega arith) in
      let word4 : s.word (ThunkWord d 4) ≡ slice_index (thunk_words t) 4 = prepared_word 4 (omega arith) in
      let word5 : s.word (ThunkWord d 5) ≡ slice_index (thunk_words t) 5 = prepared_word 5 (omega arith) in
      let word6 : s.word (ThunkWord d 6) ≡ slice_index (thunk_words t) 6 = prepared_word 6 (omega arith) in
      let word7 : s.word (ThunkWord d 7) ≡ slice_index (thunk_words t) 7 = prepared_word 7 (omega arith) in
      let word8 : s.word (ThunkWord d 8) ≡ slice_index (thunk_words t) 8 = prepared_word 8 (omega arith) in
      let word9 : s.word (ThunkWord d 9) ≡ slice_index (thunk_words t) 9 = prepared_word 9 (omega arith) in
      let word10 : s.word (ThunkWord d 10) ≡ slice_index (thunk_words t) 10 = prepared_word 10 (omega arith) in
      let word11 : s.word (ThunkWord d 11) ≡ slice_index (thunk_words t) 11 = prepared_word 11 (omega arith) in
      λ i. thunk_of (word0 i ∷ word1 i ∷ word2 i ∷ word3 i ∷ word4 i ∷ word5 i ∷ word6 i ∷ word7 i ∷ word8 i ∷ word9 i ∷ word10 i ∷ word11 i ∷ [])

module _ (m : Meaning) (l : Layout) (w : EpochState) (s : Sight) (old : IsJoinedToEpochs m l w s) (r : ℕ) (none : (s.part r).run ≡ None) (t : Thunk) (d : ℕ) (records : RecordsState)
    (v : ℕ) (entered : is_entered (w.stage r) ≡ true) where
  abbrev p : PartState
  p = s.part r

  abbrev found : ℕ
  found = s.word (Cell t.lock)

  abbrev f : Spot → ℕ
  f = put s.word (Cell t.lock) v

  abbrev here : ℕ
  here = slot_of (counts_of m l) d

  -- the section is published
  module _ (few : d < (counts_of m l).descriptors) (free : has (s.part r).descriptors.free d ≡ true) (prepared : is_prepared (s.part r).descriptors.stored d t ≡ true) (unpublished : (s.part r).published ≡ None) (named : (s.part r).guards.named ≡ Some d) where
    abbrev mine : Published
    mine = published_by t d p

    abbrev holding : PartState
    holding = record p { published = Some mine; descriptors = lists.descriptor_taken p.descriptors d; guards = lists.published_seen p.guards d; reads = lists.cell_read p.reads t.lock found; records = records }

    abbrev roles : ℕ → Role
    roles = roles_of m (thunk_words t)

    at_free : w.location here ≡ Free r
    at_free = free_descriptor m l w s old r d few free

    second : (a b : Bool) → (a && b) ≡ true → b ≡ true
    second true b e = e
    second false b e = absurd (let x = e in cc)

    -- the guard word names it, and so no other one is sure
    named_one : (d' : ℕ) (sure : Bool) → (sure && is_some_of p.guards.named d') ≡ true → d' ≡ d
    named_one d' sure e = sym (same_word d d' (ap (λ (o : Option ℕ). is_some_of o d') (sym named) ∙ second sure _ e))

    sure_now : is_sure_of (lists.published_seen p.guards d) d ≡ true
    sure_now = ap (λ (o : Option ℕ). (p.guards.sure || is_some_of o d) && is_some_of o d) named ∙ yes p.guards.sure d
      where
        yes : (b : Bool) (d : ℕ) → ((b || d == d) && d == d) ≡ true
        yes b d = grind (arith, nat_tests)

    sure_alone_now : (d' : ℕ) → upd2 w.holds r here true r (slot_of (counts_of m l) d') ≡ true → is_sure_of (lists.published_seen p.guards d) d' ≡ true
    sure_alone_now d' h = ⊎_elim
        (λ same. ap (is_sure_of (lists.published_seen p.guards d)) same ∙ sure_now)
        (λ other. absurd (other (named_one d' p.guards.sure ((old.tied r).sure_alone d' (pair_other w.holds r here r (slot_of (counts_of m l) d') (slot_apart (counts_of m l).nodes d d' other) h)))))
        (cases_eq d' d)

    taken : (d' j n : ℕ) → last_stored (filter (λ x. not (x.descriptor == d)) p.descriptors.stored) d' j None ≡ Some n → (d' ≢ d) × (last_stored p.descriptors.stored d' j None ≡ Some n)
    taken d' j n e = let ne : d' ≢ d = apart in (ne, sym (last_kept p.descriptors.stored d d' j None ne) ∙ e)
      where
        apart : d' ≢ d
        apart same = let h = sym (last_taken p.descriptors.stored d j None) ∙ (ap (λ i. last_stored (filter (λ x. not (x.descriptor == d)) p.descriptors.stored) i j None) (sym same) ∙ e) in absurd (let x = h in cc)

    -- nobody else has published it
    not_published : (i : ℕ) (x : Published) → (s.part i).published ≡ Some x → x.descriptor ≢ d
    not_published i x e same = free_live r (sym at_free ∙ (ap (λ n. w.location (slot_of (counts_of m l) n)) (sym same) ∙ (old.tied i).published x e))

    alone : (i i' : ℕ) (x x' : Published) → (upd s.part r holding i).published ≡ Some x → (upd s.part r holding i').published ≡ Some x' → x.descriptor ≡ x'.descriptor → i ≡ i'
    alone i i' x x' e e' same = ⊎_elim
        (λ a. ⊎_elim (λ b. a ∙ sym b) (λ b. absurd (not_published i' x' (else i' b x' e') (sym same ∙ own i a x e))) (cases_eq i' r))
        (λ a. ⊎_elim (λ b. absurd (not_published i x (else i a x e) (same ∙ own i' b x' e'))) (λ b. old.published_once i i' x x' (else i a x e) (else i' b x' e') same) (cases_eq i' r))
        (cases_eq i r)
      where
        here_is : (g : ℕ → PartState) (q : PartState) (k j : ℕ) → k ≡ j → upd g j q k ≡ q
        here_is g q k j e = grind (arith, nat_tests)

        else_is : (g : ℕ → PartState) (q : PartState) (k j : ℕ) → k ≢ j → upd g j q k ≡ g k
        else_is g q k j e = grind (arith, nat_tests)

        own : (k : ℕ) → k ≡ r → (y : Published) → (upd s.part r holding k).published ≡ Some y → y.descriptor ≡ d
        own k a y e = ap (λ (z : Published). z.descriptor) (sym (some_same mine y (sym (ap (λ (q : PartState). q.published) (here_is s.part holding k r a)) ∙ e)))

        else : (k : ℕ) → k ≢ r → (y : Published) → (upd s.part r holding k).published ≡ Some y → (s.part k).published ≡ Some y
        else k a y e = sym (ap (λ (q : PartState). q.published) (else_is s.part holding k r a)) ∙ e

    publishes : Goes m l (events.Publish r d roles ∷ []) w (next m l w s old r f holding)
    publishes =
        goes_with m l w s old r (events.Publish r d roles ∷ []) ((entered, at_free), tt) f holding
        (sym (map_upd lists_of s.part r holding))
        (record { epoch = old.entries.epoch; announced = old.entries.announced; stage = stages_stay m l w s old r f holding refl })
        (board_kept m l w s old r (events.Publish r d roles ∷ []) refl ((entered, at_free), tt) f holding (λ i. refl))
        (λ d' k out. ⊎_elim
        (λ same. row_here w.role d d' k roles same ∙ (ap (λ (u : Thunk). role_at (m.body u) k) (sym (prepared_thunk m l w s old r t d free prepared)) ∙ ap (λ n. role_at (m.body (thunk_in s.word n)) k) (sym same)))
        (λ other. row_other w.role d d' k roles other ∙ old.roles d' k (ap is_out (sym (other_place w.location here (slot_of (counts_of m l) d') Live (slot_apart (counts_of m l).nodes d d' other))) ∙ out))
        (cases_eq d' d))
        alone
        (record {
          run_held = λ q e. absurd (let y = sym none ∙ e in cc);
          run_opened = λ q j e low low'. absurd (let y = sym none ∙ e in cc);
          run_begins = λ q e low. absurd (let y = sym none ∙ e in cc);
          run_made = λ q u e made. absurd (let y = sym none ∙ e in cc);
          retire = (old.tied r).retire;
          published = λ x e. this_place w.location here (slot_of (counts_of m l) x.descriptor) Live (ap (λ (y : Published). slot_of (counts_of m l) y.descriptor) (sym (some_same mine x e)));
          run_sure = λ q e. absurd (let y = sym none ∙ e in cc);
          published_sure = λ x e. ap (λ (y : Published). is_sure_of (lists.published_seen p.guards d) y.descriptor) (sym (some_same mine x e)) ∙ sure_now;
          numbered = (old.tied r).numbered;
          sure = λ d' is. pair_here w.holds r here (slot_of (counts_of m l) d') (ap (slot_of (counts_of m l)) (named_one d' _ is));
          sure_alone = sure_alone_now;
          reached = λ u isin node is_there. pair_more w.holds r here r u ((old.tied r).reached u entered node is_there);
          stored_free = λ d' j n last. let k = taken d' j n last in has_without p.descriptors.free d d' k.0 ∙ (old.tied r).stored_free d' j n k.1;
          stored = λ d' j n has_it last. let k = taken d' j n last in
              descriptor_same f s.word (but_cell s.word t.lock v) d' j ∙ (old.tied r).stored d' j n ((old.tied r).stored_free d' j n k.1) k.1;
        })
        (λ i ne. record {
          holds = λ u h. pair_more w.holds r here i u h;
          alone = λ d' h. pair_else w.holds r here i (slot_of (counts_of m l) d') ne h;
          words = λ d' j h. refl;
          hand = λ u h. kept_place w.location here u Live (Free r) (Hand i) at_free (free_not_hand r i) h;
          retire = refl;
          live = λ x e h. live_more w.location here (slot_of (counts_of m l) x.descriptor) h;
          entered = λ h. h;
          stored = λ d' j h. descriptor_same f s.word (but_cell s.word t.lock v) d' j;
        })

  -- the lock was held, and the descriptor stays free
  loses : StaysAt m l w (next m l w s old r f (record p { reads = lists.cell_read p.reads t.lock found; records = records }))
  loses =
      let now : PartState = record p { reads = lists.cell_read p.reads t.lock found; records = records } in
      let same = but_cell s.word t.lock v in
      let tied = tied_by m l w s old r none f same in
      stays m l w s old r f now same refl refl (as_published m l w s old r now refl) (record {
        run_held = tied.run_held;
        run_opened = tied.run_opened;
        run_begins = tied.run_begins;
        run_made = tied.run_made;
        retire = tied.retire;
        published = tied.published;
        run_sure = tied.run_sure;
        published_sure = tied.published_sure;
        numbered = tied.numbered;
        sure = tied.sure;
        sure_alone = tied.sure_alone;
        reached = tied.reached;
        stored_free = tied.stored_free;
        stored = tied.stored;
      })

module _ (m : Meaning) (l : Layout) (w : EpochState) (s : Sight) (old : IsJoinedToEpochs m l w s) (r : ℕ) (none : (s.part r).run ≡ None) (records : RecordsState) (x : Spot × Access) where
  abbrev now : PartState
  now = s.part r

  pub hold : (rs : List Request) (t : Thunk) (d : ℕ) → hold_ask m l rs r t d now ≡ Some x → Leads m l w s old r none (kinds.Hold t d) records x
  hold rs t d e =
      let h = asked.hold_asked m l rs r t d now x e in
      subst (Leads m l w s old r none (kinds.Hold t d) records) h.is (by_test h (s.word (Cell t.lock) == t.word) refl)
    where
      won : ℕ → PartState
      won found = record now {
        published = Some (published_by t d now);
        descriptors = lists.descriptor_taken now.descriptors d;
        guards = lists.published_seen now.guards d;
        reads = lists.cell_read now.reads t.lock found;
      }

      lost : ℕ → PartState
      lost found = record now { reads = lists.cell_read now.reads t.lock found }

      entered : (g : ℕ) → now.stage ≡ Entered g → is_entered (w.stage r) ≡ true
      entered g e = ap is_entered (old.entries.stage r ∙ e)

      by_test : asked.HoldAsked m l rs t d now x → (b : Bool) → (s.word (Cell t.lock) == t.word) ≡ b
          → GoesBy m l (IsOutsideChunk m l r (kinds.Hold t d) now (s.word (Cell t.lock))) w (next m l w s old r (put s.word (Cell t.lock) (written (Exchanges t.word (held_word d t.word)) (s.word (Cell t.lock)))) (record (cond b (won (s.word (Cell t.lock))) (lost (s.word (Cell t.lock)))) { records = records }))
      by_test h true is = (
        _,
        inl (same_word _ _ is, refl),
        publishes m l w s old r none t d records _ (entered h.entry h.entered) h.few h.free h.prepared h.unpublished h.named,
      )
      by_test h false is = let stay = loses m l w s old r none t d records _ (entered h.entry h.entered) in (stay.0, inr (other_word _ _ is, stay.1), stay.2)
