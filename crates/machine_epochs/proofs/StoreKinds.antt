-- Private stores into the words of own free descriptors, and private loads of these.
use Rattle.std.specs.Prelude.{◌==◌, ◌&&◌, cond, if◌then◌else◌, Bool, true, false, nat_lt}
use Rattle.std.proofs.Common.{◌≡◌, ◌≢◌, ℕ, ◌+◌, ◌-◌, ◌<◌, List, [], ◌∷◌, ◌++◌, refl, sym, ap, ◌∙◌, subst, ⊎_elim, arith, Option, Some, None}
use Rattle.std.proofs.lemmas.Bool.Decides.{nat_tests}
use Rattle.section_lines.specs.small_lemmas.proofs.Lists.{same_number as some_number}
use Rattle.section_lines.specs.small_lemmas.proofs.Numbers.{less_tested}
use Rattle.machine_states.specs.map_history.specs.declared.op.Request.{Request}
use Rattle.machine_states.specs.body_terms.specs.declared.thunk.Thunk.{Thunk}
use Rattle.machine_states.specs.table_words.specs.declared.layout.Layout.{Layout}
use Rattle.machine_states.specs.table_words.specs.declared.sizes.Sizes.{Sizes}
use Rattle.machine_states.specs.table_words.specs.declared.spot.Spot.{Spot}
use Rattle.machine_states.specs.table_words.specs.declared.spot.Spot.TheVariants.{Epoch, Announcement, ThunkWord, DoneWord, LogWord, LinkWord, Board}
use Rattle.machine_states.specs.table_words.specs.declared.access.Access.{Access}
use Rattle.machine_states.specs.table_words.specs.declared.access.Access.TheVariants.{Loads}
use Rattle.machine_states.specs.table_words.specs.Places.{Fits, part_words, slot_count, descriptor_count}
use Rattle.machine_states.specs.table_words.specs.Seen.{put}
use Rattle.machine_states.specs.structure_laws.specs.Meaning.{Meaning}
use Rattle.machine_states.specs.runner_parts.specs.declared.event.EventKind.TheVariants as kinds
use Rattle.machine_states.specs.runner_parts.specs.declared.entries.Stored.{Stored}
use Rattle.machine_states.specs.runner_parts.specs.State.{PartState, RecordsState}
use Rattle.machine_states.specs.runner_parts.specs.Tests.{has, last_stored}
use Rattle.machine_states.specs.runner_parts.specs.Lists.{nodes_looked, descriptor_stored}
use Rattle.machine_states.specs.runner_steps.specs.Outside.{descriptor_spot, blocks_from}
use Rattle.machine_states.specs.runner_steps.specs.Outside.{private_load_ask, private_store_ask, block_spot}
use Rattle.machine_states.specs.runner_steps.specs.AfterOutside.{stored_if, descriptor_known}
use Rattle.machine_epochs.proofs.LogSpots.{but_block}
use Rattle.machine_states.specs.runner_steps.specs.Asks.{sizes_for}
use Rattle.machine_states.specs.epoch_core.specs.declared.location.Location.TheVariants.{Free}
use Rattle.machine_states.specs.epoch_core.specs.Update.{upd2}
use Rattle.machine_states.specs.epoch_core.specs.State.{EpochState}
use Rattle.machine_states.specs.epoch_core.specs.Events as events
use Rattle.machine_states.specs.epoch_core.specs.Events.{slot_of}
use Rattle.machine_states.specs.epoch_core.specs.Schedules.{AllEnabled, after_all}
use Rattle.machine_states.specs.epoch_core.specs.History.{is_out}
use Rattle.machine_states.specs.epoch_core.specs.Lists.{listed_all}
use Rattle.machine_states.specs.Sight.{Sight}
use Rattle.machine_states.proofs.Updates.{map_same}
use Rattle.machine_epochs.specs.Entries.{counts_of}
use Rattle.machine_epochs.specs.Roles.{role_at}
use Rattle.machine_epochs.specs.Slots.{lists_of, thunk_in, ShowsEntries}
use Rattle.machine_epochs.specs.Joined.{IsTied, IsJoinedToEpochs}
use Rattle.machine_epochs.specs.Chunks.{looked, stored}
use Rattle.machine_epochs.proofs.OutsideAsked as asked
use Rattle.machine_epochs.proofs.Places.{spot_by, free_descriptor, held_unfree}
use Rattle.machine_epochs.proofs.Boards.{is_off_board}
use Rattle.machine_epochs.proofs.Joining.{but_load, thunk_same, IsElsewhere, Goes, GoesBy, next, as_published, once, stages_stay, board_kept, goes_with, StaysAt}
use Rattle.machine_epochs.proofs.OutsideKinds.{Leads, node_load, unlooked, leaves}

hits : (a b : Bool) (v x : ℕ) → cond a (cond b v x) x ≡ cond (a && b) v x
hits true b v x = refl
hits false b v x = refl

hits_one : (n d d' j word v x : ℕ) → (word == n) ≡ true → (j == n) ≡ true → cond (d' == d) v x ≡ cond (d' == d && j == word) v x
hits_one n d d' j word v x e e' = grind (arith, nat_tests)

hits_log : (d d' j word v x : ℕ) → nat_lt word 12 ≡ false → (word == 12) ≡ false → nat_lt j 12 ≡ false → (j == 12) ≡ false
    → cond (d' == d) (cond (j - 13 == word - 13) v x) x ≡ cond (d' == d && j == word) v x
hits_log d d' j word v x e e1 e2 e3 = grind (arith, nat_tests)

misses : (a : Bool) (j word v x : ℕ) → j ≢ word → x ≡ cond (a && j == word) v x
misses a j word v x ne = grind (arith, nat_tests)

apart_below : (j word : ℕ) → nat_lt word 12 ≡ true → nat_lt j 12 ≡ false → j ≢ word
apart_below j word e e' = grind (arith, nat_tests)

apart_above : (j word : ℕ) → nat_lt word 12 ≡ false → nat_lt j 12 ≡ true → j ≢ word
apart_above j word e e' = grind (arith, nat_tests)

apart_here : (n j word : ℕ) → (word == n) ≡ true → (j == n) ≡ false → j ≢ word
apart_here n j word e e' = grind (arith, nat_tests)

apart_there : (n j word : ℕ) → (word == n) ≡ false → (j == n) ≡ true → j ≢ word
apart_there n j word e e' = grind (arith, nat_tests)

-- a store into a word of a descriptor is seen in that word and in no other of a descriptor
module _ (f : Spot → ℕ) (d word v d' j : ℕ) where
  abbrev n : ℕ
  n = 13 + part_words

  -- of two words whose numbers are like this
  record Alike (b b' b'' a a' a'' : Bool) : Type 0 where
    small : nat_lt word 12 ≡ b
    done : (word == 12) ≡ b'
    link : (word == n) ≡ b''
    small_there : nat_lt j 12 ≡ a
    done_there : (j == 12) ≡ a'
    link_there : (j == n) ≡ a''

  abbrev Seen : Bool → Bool → Bool → Bool → Bool → Bool → Type 0
  Seen b b' b'' a a' a'' = put f (spot_by d word b b' b'') v (spot_by d' j a a' a'') ≡ cond (d' == d && j == word) v (f (spot_by d' j a a' a''))

  put_by : (b b' b'' a a' a'' : Bool) → Alike b b' b'' a a' a'' → Seen b b' b'' a a' a''
  put_by true b' b'' true a' a'' e = hits (d' == d) (j == word) v (f (ThunkWord d' j))
  put_by true b' b'' false true a'' e = misses (d' == d) j word v _ (apart_below j word e.small e.small_there)
  put_by true b' b'' false false true e = misses (d' == d) j word v _ (apart_below j word e.small e.small_there)
  put_by true b' b'' false false false e = misses (d' == d) j word v _ (apart_below j word e.small e.small_there)
  put_by false true b'' true a' a'' e = misses (d' == d) j word v _ (apart_above j word e.small e.small_there)
  put_by false false true true a' a'' e = misses (d' == d) j word v _ (apart_above j word e.small e.small_there)
  put_by false false false true a' a'' e = misses (d' == d) j word v _ (apart_above j word e.small e.small_there)
  put_by false true b'' false true a'' e = hits_one 12 d d' j word v (f (DoneWord d')) e.done e.done_there
  put_by false true b'' false false true e = misses (d' == d) j word v _ (apart_here 12 j word e.done e.done_there)
  put_by false true b'' false false false e = misses (d' == d) j word v _ (apart_here 12 j word e.done e.done_there)
  put_by false false true false true a'' e = misses (d' == d) j word v _ (apart_there 12 j word e.done e.done_there)
  put_by false false false false true a'' e = misses (d' == d) j word v _ (apart_there 12 j word e.done e.done_there)
  put_by false false true false false true e = hits_one n d d' j word v (f (LinkWord d')) e.link e.link_there
  put_by false false true false false false e = misses (d' == d) j word v _ (apart_here n j word e.link e.link_there)
  put_by false false false false false true e = misses (d' == d) j word v _ (apart_there n j word e.link e.link_there)
  put_by false false false false false false e = hits_log d d' j word v (f (LogWord d' (j - 13))) e.small e.done e.small_there e.done_there

  pub put_spot : put f (descriptor_spot d word) v (descriptor_spot d' j) ≡ cond (d' == d && j == word) v (f (descriptor_spot d' j))
  put_spot = put_by (nat_lt word 12) (word == 12) (word == n) (nat_lt j 12) (j == 12) (j == n)
      (record { small = refl; done = refl; link = refl; small_there = refl; done_there = refl; link_there = refl })

-- what was stored last, after one more store
last_push : (xs : List Stored) (x : Stored) (d j : ℕ) (so_far : Option ℕ) → last_stored (xs ++ x ∷ []) d j so_far ≡ cond (x.descriptor == d && x.word == j) (Some x.number) (last_stored xs d j so_far)
last_push [] x d j so_far = refl
last_push (y ∷ ys) x d j so_far = last_push ys x d j (cond (y.descriptor == d && y.word == j) (Some y.number) so_far)

pair_test : (a b x y : ℕ) → (a == b && x == y) ≡ true → (a ≡ b) × (x ≡ y)
pair_test a b x y e = grind (arith, nat_tests)

pair_turned : (a b x y : ℕ) → (a == b && x == y) ≡ (b == a && y == x)
pair_turned a b x y = grind (arith, nat_tests)

module _ (m : Meaning) (l : Layout) (w : EpochState) (s : Sight) (old : IsJoinedToEpochs m l w s) (r : ℕ) (none : (s.part r).run ≡ None)
    (d word number : ℕ) (few : d < (counts_of m l).descriptors) (free : has (s.part r).descriptors.free d ≡ true) (records : RecordsState) where
  abbrev p : PartState
  p = s.part r

  abbrev p' : PartState
  p' = record p { descriptors = descriptor_stored p.descriptors d word number; records = records }

  abbrev xs : List Stored
  xs = p.descriptors.stored

  abbrev new : Stored
  new = record { descriptor = d; word = word; number = number }

  at_free : w.location (slot_of (counts_of m l) d) ≡ Free r
  at_free = free_descriptor m l w s old r d few free

  -- nobody holds it, and it is in no other free list
  unheld : (i d' : ℕ) → w.holds i (slot_of (counts_of m l) d') ≡ true → d' ≢ d
  unheld i d' h e = held_unfree m l w s old i r d (ap (λ n. w.holds i (slot_of (counts_of m l) n)) (sym e) ∙ h) few free

  unlisted : (i d' : ℕ) → i ≢ r → has (s.part i).descriptors.free d' ≡ true → d' ≢ d
  unlisted i d' ne h e = ne (owner i r (sym (free_descriptor m l w s old i d few (ap (has (s.part i).descriptors.free) (sym e) ∙ h)) ∙ at_free))
    where
      owner : (i r : ℕ) → Free i ≡ Free r → i ≡ r
      owner i r e = cc

  given_out : (d' : ℕ) → is_out (w.location (slot_of (counts_of m l) d')) ≡ true → d' ≢ d
  given_out d' out e = let x = sym out ∙ ap is_out (ap (λ n. w.location (slot_of (counts_of m l) n)) e ∙ at_free) in absurd (cc)

  -- the words after the store
  module _ (f : Spot → ℕ) (spot : (d' j : ℕ) → f (descriptor_spot d' j) ≡ cond (d' == d && j == word) number (s.word (descriptor_spot d' j)))
      (thunk : (d' j : ℕ) → d' ≢ d → f (ThunkWord d' j) ≡ s.word (ThunkWord d' j)) (epoch : f Epoch ≡ s.word Epoch) (announced : (i : ℕ) → f (Announcement i) ≡ s.word (Announcement i)) (board : (i : ℕ) → f (Board i) ≡ s.word (Board i)) where
    elsewhere : (d' j : ℕ) → d' ≢ d → f (descriptor_spot d' j) ≡ s.word (descriptor_spot d' j)
    elsewhere d' j ne = spot d' j ∙ not_there d' d (j == word) number _ ne
      where
        not_there : (a b : ℕ) (c : Bool) (v x : ℕ) → a ≢ b → cond (a == b && c) v x ≡ x
        not_there a b c v x ne = grind (arith, nat_tests)

    last_is : (d' j n : ℕ) → last_stored (xs ++ new ∷ []) d' j None ≡ Some n → cond (d' == d && j == word) (Some number) (last_stored xs d' j None) ≡ Some n
    last_is d' j n e = ap (λ b. cond b (Some number) (last_stored xs d' j None)) (pair_turned d' d j word) ∙ (sym (last_push xs new d' j None) ∙ e)

    free_by : (b : Bool) (d' j n : ℕ) → (d' == d && j == word) ≡ b → cond b (Some number) (last_stored xs d' j None) ≡ Some n → has p.descriptors.free d' ≡ true
    free_by true d' j n e last = ap (has p.descriptors.free) (pair_test d' d j word e).0 ∙ free
    free_by false d' j n e last = (old.tied r).stored_free d' j n last

    stored_by : (b : Bool) (d' j n : ℕ) → (d' == d && j == word) ≡ b → cond b (Some number) (last_stored xs d' j None) ≡ Some n → f (descriptor_spot d' j) ≡ n
    stored_by true d' j n e last = spot d' j ∙ (ap (λ b. cond b number (s.word (descriptor_spot d' j))) e ∙ some_number number n last)
    stored_by false d' j n e last = spot d' j ∙ (ap (λ b. cond b number (s.word (descriptor_spot d' j))) e ∙ (old.tied r).stored d' j n ((old.tied r).stored_free d' j n last) last)

    stores : (es : List events.Event) → is_off_board es ≡ true → AllEnabled (counts_of m l) w es → (log : ℕ → ℕ → ℕ) → after_all (counts_of m l) w es ≡ record w { log = log }
        → listed_all (counts_of m l) w (λ i. lists_of (s.part i)) es ≡ (λ i. lists_of (s.part i))
        → Goes m l es w (next m l w s old r f p')
    stores es off ok log is lists =
        goes_with m l w s old r es ok f p' (lists ∙ sym (map_same lists_of s.part r p' refl))
        (subst (λ (v : EpochState). ShowsEntries v (next m l w s old r f p')) (sym is) (record {
          epoch = old.entries.epoch ∙ sym epoch;
          announced = λ i. old.entries.announced i ∙ sym (announced i);
          stage = stages_stay m l w s old r f p' refl;
        }))
        (board_kept m l w s old r es off ok f p' board)
        (λ d' k out. ap (λ (v : EpochState). v.role d' k) is ∙ roles d' k (ap (λ (v : EpochState). is_out (v.location (slot_of (counts_of m l) d'))) (sym is) ∙ out))
        (once m l w s old r p' (as_published m l w s old r p' refl))
        (subst (λ (v : EpochState). IsTied m l v f r p') (sym is) (record {
          run_held = λ q e. absurd (let y = sym none ∙ e in cc);
          run_opened = λ q j e low low'. absurd (let y = sym none ∙ e in cc);
          run_begins = λ q e few. absurd (let y = sym none ∙ e in cc);
          run_made = λ q t e made. absurd (let y = sym none ∙ e in cc);
          retire = (old.tied r).retire;
          published = (old.tied r).published;
          run_sure = λ q e. absurd (let y = sym none ∙ e in cc);
          published_sure = (old.tied r).published_sure;
          numbered = (old.tied r).numbered;
          sure = (old.tied r).sure;
          sure_alone = (old.tied r).sure_alone;
          reached = (old.tied r).reached;
          stored_free = λ d' j n last. free_by (d' == d && j == word) d' j n refl (last_is d' j n last);
          stored = λ d' j n has_it last. stored_by (d' == d && j == word) d' j n refl (last_is d' j n last);
        }))
        (λ i ne. subst (λ (v : EpochState). IsElsewhere m l w v s.word f i (s.part i)) (sym is) (record {
          holds = λ t h. h;
          alone = λ d h. h;
          words = λ d' j h. thunk d' j (unheld i d' h);
          hand = λ t h. h;
          retire = refl;
          live = λ y e h. h;
          entered = λ h. h;
          stored = λ d' j h. elsewhere d' j (unlisted i d' ne h);
        }))
      where
        roles : (d' k : ℕ) → is_out (w.location (slot_of (counts_of m l) d')) ≡ true → w.role d' k ≡ role_at (m.body (thunk_in f d')) k
        roles d' k out = old.roles d' k out ∙ ap (λ (t : Thunk). role_at (m.body t) k) (sym (thunk_same f s.word d' (λ j. thunk d' j (given_out d' out))))

  thunk_else : (a b j k v x : ℕ) → a ≢ b → cond (a == b) (cond (j == k) v x) x ≡ x
  thunk_else a b j k v x ne = grind (arith, nat_tests)

  -- the store, by the word that it meets
  store_by : (b b' b'' : Bool) → ((d' j : ℕ) → put s.word (spot_by d word b b' b'') number (descriptor_spot d' j) ≡ cond (d' == d && j == word) number (s.word (descriptor_spot d' j)))
      → GoesBy m l (λ es. es ≡ cond b [] (cond b' [] (cond b'' [] (events.StoreLog r d (word - 13) number ∷ [])))) w (next m l w s old r (put s.word (spot_by d word b b' b'') number) p')
  store_by true b' b'' spot = (_, refl, stores _ spot (λ d' j ne. thunk_else d' d j word number _ ne) refl (λ i. refl) (λ i. refl) [] refl tt w.log refl refl)
  store_by false true b'' spot = (_, refl, stores _ spot (λ d' j ne. refl) refl (λ i. refl) (λ i. refl) [] refl tt w.log refl refl)
  store_by false false true spot = (_, refl, stores _ spot (λ d' j ne. refl) refl (λ i. refl) (λ i. refl) [] refl tt w.log refl refl)
  store_by false false false spot = (
    _,
    refl,
    stores _ spot (λ d' j ne. refl) refl (λ i. refl) (λ i. refl) (events.StoreLog r d (word - 13) number ∷ []) refl (at_free, tt) (upd2 w.log d (word - 13) number) refl refl,
  )

  pub stores_there : GoesBy m l (λ es. es ≡ stored r d word number) w (next m l w s old r (put s.word (descriptor_spot d word) number) p')
  stores_there = store_by (nat_lt word 12) (word == 12) (word == 13 + part_words) (λ d' j. put_spot s.word d word number d' j)

  -- what is found there is known as what was stored there
  pub loads_there : number ≡ s.word (descriptor_spot d word) → Goes m l [] w (next m l w s old r (put s.word (descriptor_spot d word) (s.word (descriptor_spot d word))) p')
  loads_there found =
      let a = descriptor_spot d word in
      let same = but_load s.word a in
      stores (put s.word a (s.word a))
      (λ d' j. subst (λ n. put s.word a n (descriptor_spot d' j) ≡ cond (d' == d && j == word) number (s.word (descriptor_spot d' j))) found (put_spot s.word d word number d' j))
      (λ d' j ne. same.thunk d' j) same.epoch same.announced same.board [] refl tt w.log refl refl

few_by : (sizes : Sizes) (d word : ℕ) (b b' b'' : Bool) → Fits sizes (spot_by d word b b' b'') → d < sizes.descriptors
few_by sizes d word true b' b'' h = h.0
few_by sizes d word false true b'' h = h
few_by sizes d word false false true h = h
few_by sizes d word false false false h = h.0

fits_few : (sizes : Sizes) (d word : ℕ) → Fits sizes (descriptor_spot d word) → d < sizes.descriptors
fits_few sizes d word h = few_by sizes d word (nat_lt word 12) (word == 12) (word == 13 + part_words) h

-- the words of descriptors stand before those of blocks
pub before_blocks : (m : Meaning) (l : Layout) (rs : List Request) (slot word : ℕ) → Fits (sizes_for m l rs) (descriptor_spot (slot - slot_count l m.fixed_slots) word)
    → nat_lt slot (blocks_from m l) ≡ true
before_blocks m l rs slot word fits = less_tested slot (blocks_from m l)
    (let few = fits_few (sizes_for m l rs) (slot - slot_count l m.fixed_slots) word fits in behind slot (slot_count l m.fixed_slots) (descriptor_count l) few)
  where
    behind : (i n c : ℕ) → i - n < c → i < n + c
    behind i n c few = omega (arith, few)

module _ (m : Meaning) (l : Layout) (w : EpochState) (s : Sight) (old : IsJoinedToEpochs m l w s) (r : ℕ) (none : (s.part r).run ≡ None) where
  -- the part after a private load or store of this number, of a descriptor or of a block
  abbrev known : ℕ → ℕ → ℕ → RecordsState → Bool → PartState
  known slot word number records b = record (s.part r) { descriptors = stored_if b (s.part r).descriptors (slot - slot_count l m.fixed_slots) word number; records = records }

  pub private_store : (rs : List Request) (records : RecordsState) (slot word number : ℕ) (x : Spot × Access) → Fits (sizes_for m l rs) x.0
      → private_store_ask m l slot word number (s.part r) ≡ Some x → Leads m l w s old r none (kinds.PrivateStore slot word number) records x
  private_store rs records slot word number x fits e =
      let d = slot - slot_count l m.fixed_slots in
      ⊎_elim
      (λ own.
      let a = descriptor_spot d word in
      let there : Fits (sizes_for m l rs) a = subst (λ (y : Spot × Access). Fits (sizes_for m l rs) y.0) (sym own.2) fits in
      subst (Leads m l w s old r none (kinds.PrivateStore slot word number) records) own.2
      (subst (λ (b : Bool). GoesBy m l (λ es. es ≡ (if b then stored r d word number else [])) w (next m l w s old r (put s.word a number) (known slot word number records b))) (sym own.0)
      (stores_there m l w s old r none d word number (fits_few (sizes_for m l rs) d word there) own.1 records)))
      (λ block.
      let a = block_spot (slot - blocks_from m l) word in
      subst (Leads m l w s old r none (kinds.PrivateStore slot word number) records) block.1
      (subst (λ (b : Bool). GoesBy m l (λ es. es ≡ (if b then stored r d word number else [])) w (next m l w s old r (put s.word a number) (known slot word number records b))) (sym block.0)
      (leaves m l w s old r none (put s.word a number) (but_block s.word number (slot - blocks_from m l) word) records)))
      (asked.private_store_cases m l slot word number (s.part r) x e)

  -- a private load of a cell of a node slot, of a word of an own free descriptor, or of a word of a block
  pub private_load : (rs : List Request) (records : RecordsState) (slot word : ℕ) (x : Spot × Access) → Fits (sizes_for m l rs) x.0
      → private_load_ask m l slot word (s.part r) ≡ Some x → Leads m l w s old r none (kinds.PrivateLoad slot word) records x
  private_load rs records slot word x fits e = ⊎_elim
      (λ node. subst (Leads m l w s old r none (kinds.PrivateLoad slot word) records) node.2 (node_load m l w s old r none records slot word node.1 node.0))
      (⊎_elim
      (λ own.
      let d = slot - slot_count l m.fixed_slots in
      let a = descriptor_spot d word in
      let there : Fits (sizes_for m l rs) a = subst (λ (y : Spot × Access). Fits (sizes_for m l rs) y.0) (sym own.3) fits in
      let few = fits_few (sizes_for m l rs) d word there in
      subst (Leads m l w s old r none (kinds.PrivateLoad slot word) records) own.3
      (behind_nodes records slot word a own.0 true own.1 ([], refl, loads_there m l w s old r none d word (s.word a) few own.2 records refl)))
      (λ block.
      let a = block_spot (slot - blocks_from m l) word in
      subst (Leads m l w s old r none (kinds.PrivateLoad slot word) records) block.2
      (behind_nodes records slot word a block.0 false block.1 (leaves m l w s old r none (put s.word a (s.word a)) (but_load s.word a) records))))
      (asked.private_load_cases m l slot word (s.part r) x e)
    where
      -- behind the node slots no slot is looked at
      behind_nodes : (records : RecordsState) (slot word : ℕ) (a : Spot) → nat_lt slot (slot_count l m.fixed_slots) ≡ false → (b : Bool) → nat_lt slot (blocks_from m l) ≡ b
          → StaysAt m l w (next m l w s old r (put s.word a (s.word a)) (known slot word (s.word a) records b)) → Leads m l w s old r none (kinds.PrivateLoad slot word) records (a, Loads)
      behind_nodes records slot word a high b is goes =
          let p = s.part r in
          subst (λ (c : Bool). GoesBy m l (λ es. es ≡ looked l r p.nodes slot word (s.word a)) w (next m l w s old r (put s.word a (s.word a))
          (record (if c then record p { nodes = nodes_looked l p.nodes slot word (s.word a) } else descriptor_known m l slot word p (s.word a)) { records = records })))
          (sym high)
          (subst (λ (c : Bool). GoesBy m l (λ es. es ≡ looked l r p.nodes slot word (s.word a)) w (next m l w s old r (put s.word a (s.word a)) (known slot word (s.word a) records c))) (sym is)
          (goes.0, goes.1 ∙ unlooked m l w s old r none slot word (s.word a) high, goes.2))
