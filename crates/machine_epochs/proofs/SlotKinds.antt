-- The kinds of step of a run by which node slots change their places.
use Rattle.std.specs.Prelude.{◌==◌, ◌||◌, cond, if◌then◌else◌, Bool, true, false, slice_index}
use Rattle.std.proofs.Common.{◌≡◌, ◌≢◌, ℕ, zero, suc, ◌+◌, ◌-◌, ◌<◌, List, [], ◌∷◌, ◌++◌, length, refl, sym, ap, ◌∙◌, subst, arith, ◌⊎◌, inl, inr, Option, Some, None, ⊎_elim}
use Rattle.std.proofs.lemmas.Bool.Decides.{nat_tests}
use Rattle.section_lines.specs.small_lemmas.proofs.Numbers.{tested_equal as same_slot}
use Rattle.machine_states.specs.body_terms.specs.declared.micro.Micro.{Micro}
use Rattle.machine_states.specs.body_terms.specs.declared.micro.Micro.TheVariants as micros
use Rattle.machine_states.specs.body_terms.specs.Line.{line, micro_at}
use Rattle.machine_states.specs.body_terms.specs.Run.{written_once}
use Rattle.machine_states.specs.table_words.specs.declared.layout.Layout.{Layout}
use Rattle.machine_states.specs.table_words.specs.declared.spot.Spot.{Spot}
use Rattle.machine_states.specs.table_words.specs.declared.spot.Spot.TheVariants.{Cell}
use Rattle.machine_states.specs.table_words.specs.declared.access.Access.{Access}
use Rattle.machine_states.specs.table_words.specs.declared.access.Access.TheVariants.{Loads, Exchanges}
use Rattle.machine_states.specs.table_words.specs.Access.{exchanged, written}
use Rattle.machine_states.specs.table_words.specs.Seen.{upd, put}
use Rattle.machine_states.specs.structure_laws.specs.Meaning.{Meaning}
use Rattle.machine_states.specs.runner_parts.specs.declared.event.EventKind.TheVariants as kinds
use Rattle.machine_states.specs.runner_parts.specs.State.{RunState, PartState, RecordsState}
use Rattle.machine_states.specs.runner_steps.specs.Sections.{thunk_of, is_open_run, next_of, commits_to, needs_link}
use Rattle.machine_states.specs.runner_parts.specs.Tests.{has}
use Rattle.machine_states.specs.runner_parts.specs.Lists.{without, slot_taken, slot_made, slot_back}
use Rattle.machine_states.specs.runner_steps.specs.InRun.{last_of, make_slot, is_slot, fill_load_ask, private_store_in_run_ask, link_commit_ask, make_commit_ask}
use Rattle.machine_states.specs.body_terms.specs.block_words.specs.Blocks.{log_spot}
use Rattle.machine_states.specs.runner_steps.specs.AfterInRun as runs
use Rattle.machine_states.specs.runner_steps.specs.Outside.{block_spot, blocks_from}
use Rattle.machine_states.specs.body_terms.specs.block_words.specs.Blocks.{link_spot}
use Rattle.machine_states.specs.epoch_core.specs.declared.location.Location.{Location}
use Rattle.machine_states.specs.epoch_core.specs.declared.location.Location.TheVariants.{Live, Hand, Free}
use Rattle.machine_states.specs.epoch_core.specs.Moves as moves
use Rattle.machine_states.specs.epoch_core.specs.State.{EpochState, Makes}
use Rattle.machine_states.specs.epoch_core.specs.Events.{slot_of}
use Rattle.machine_states.specs.epoch_core.specs.Events as events
use Rattle.machine_states.specs.epoch_core.specs.History.{is_out}
use Rattle.machine_states.specs.epoch_core.specs.Sound.{is_for_nodes}
use Rattle.machine_states.specs.epoch_core.specs.Lists.{Lists, made_lists, tested_lists}
use Rattle.machine_states.specs.Sight.{Sight}
use Rattle.machine_states.proofs.Updates.{map_upd}
use Rattle.machine_epochs.specs.Entries.{counts_of}
use Rattle.machine_epochs.specs.Joined.{IsJoinedToEpochs}
use Rattle.machine_epochs.specs.Slots.{lists_of}
use Rattle.machine_epochs.proofs.InsideAsked as asked
use Rattle.machine_epochs.proofs.Roles as roles
use Rattle.machine_epochs.proofs.RunPlaces.{is_of_end, next_in_line, open_run}
use Rattle.machine_epochs.proofs.Places.{free_node, apart, run_few, run_role}
use Rattle.machine_epochs.proofs.Joining.{but_cell, descriptor_same, Goes, GoesBy, StaysAt, next}
use Rattle.machine_epochs.proofs.LogSpots.{LeavesRest, same_leaves, log_leaves, link_leaves, but_block}
use Rattle.machine_epochs.proofs.RunKinds.{is_of_retire, run_goes, still, stands, steps, goes_on, Leads, for_step}

-- a place changes at one slot
pub other_place : (f : ℕ → Location) (t i : ℕ) (p : Location) → i ≢ t → upd f t p i ≡ f i
other_place f t i p ne = grind (arith, nat_tests)

pub this_place : (f : ℕ → Location) (t i : ℕ) (p : Location) → i ≡ t → upd f t p i ≡ p
this_place f t i p e = grind (arith, nat_tests)

-- where one slot leaves another's place alone
pub kept_place : (f : ℕ → Location) (t i : ℕ) (p before q : Location) → f t ≡ before → (before ≡ q → ⊥) → f i ≡ q → upd f t p i ≡ q
kept_place f t i p before q at apart is = other_place f t i p (λ e. apart (sym at ∙ (ap f (sym e) ∙ is))) ∙ is

free_hand : (r i : ℕ) → Free r ≡ Hand i → ⊥
free_hand r i e = let x = e in cc

pub hand_hand : (r i : ℕ) → i ≢ r → Hand r ≡ Hand i → ⊥
hand_hand r i ne e = let same : r ≡ i = cc in ne (sym same)

pub slot_apart : (n d d' : ℕ) → d' ≢ d → n + d' ≢ n + d
slot_apart n d d' ne e = ne (omega arith)

pub live_hand : (i : ℕ) → Live ≡ Hand i → ⊥
live_hand i e = let x = e in cc

-- the lists after a slot has come back
pub back_lists : (p : PartState) (slot : ℕ) (worn : Bool) → tested_lists worn slot (lists_of p) ≡ lists_of (record p { nodes = slot_back p.nodes slot worn })
back_lists p slot true = refl
back_lists p slot false = refl

has_index : (xs : List ℕ) (i : ℕ) → i < length xs → has xs (slice_index xs i) ≡ true
has_index [] i h = absurd (omega arith)
has_index (x ∷ xs) zero h = first x (has xs x)
  where
    first : (x : ℕ) (b : Bool) → (x == x || b) ≡ true
    first x b = grind (arith, nat_tests)
has_index (x ∷ xs) (suc i) h = rest (x == slice_index xs i) (has_index xs i (omega arith))
  where
    rest : (a : Bool) {b : Bool} → b ≡ true → (a || b) ≡ true
    rest true e = refl
    rest false e = e

-- the last free slot is a free one
pub last_has : (xs : List ℕ) (slot : ℕ) → is_slot (last_of xs) slot ≡ true → has xs slot ≡ true
last_has xs slot e = by_length (length xs == 0) refl e
  where
    same : (a b : ℕ) → (a == b) ≡ true → a ≡ b
    same a b h = grind (arith, nat_tests)

    more : (n : ℕ) → (n == 0) ≡ false → n - 1 < n
    more n h = grind (arith, nat_tests)

    by_length : (b : Bool) → (length xs == 0) ≡ b → is_slot (cond b None (Some (slice_index xs (length xs - 1)))) slot ≡ true → has xs slot ≡ true
    by_length true h e = absurd (let x = e in cc)
    by_length false h e = ap (has xs) (sym (same _ _ e)) ∙ has_index xs (length xs - 1) (more (length xs) h)

module _ (m : Meaning) (l : Layout) (w : EpochState) (s : Sight) (old : IsJoinedToEpochs m l w s) (r : ℕ) (q : RunState) (at : (s.part r).run ≡ Some q) (is_open : is_open_run q ≡ true) where
  abbrev p : PartState
  p = s.part r

  descriptor_place : (t : ℕ) (place : Location) (d : ℕ) → t < (counts_of m l).nodes → upd w.location t place (slot_of (counts_of m l) d) ≡ w.location (slot_of (counts_of m l) d)
  descriptor_place t place d low = other_place w.location t (slot_of (counts_of m l) d) place (λ e. absurd (omega arith))

  -- a Make's commit, and where its slot is then
  module _ (slot k : ℕ) (in_hand : w.location slot ≡ Hand r) (micro : Micro) (ahead : next_of m q ≡ micro) (inner : is_of_end micro ≡ false) (other : is_of_retire micro ≡ false)
      (role : w.role q.descriptor k ≡ Makes)
      (logged : w.log q.descriptor k ≡ s.word (log_spot q.descriptor q.links k)) where
    abbrev a : Spot
    a = log_spot q.descriptor q.links k

    abbrev found : ℕ
    found = s.word a

    abbrev f : Spot → ℕ
    f = put s.word a (exchanged found 0 (slot + 1))

    rest : LeavesRest s.word a (exchanged found 0 (slot + 1)) q.descriptor
    rest = log_leaves s.word (exchanged found 0 (slot + 1)) q.descriptor q.links k

    few : q.descriptor < (counts_of m l).descriptors
    few = run_few m l w s old r q at

    abbrev making : RunState
    making = record q { made = None; worn = false }

    abbrev agreed : RunState
    agreed = runs.agrees m l making (written_once found (slot + 1))

    abbrev place : Location
    place = moves.made (w.log q.descriptor k) r q.worn

    node : slot < (counts_of m l).nodes
    node = old.sound.for_nodes slot (ap is_for_nodes in_hand)

    held : w.holds r (slot_of (counts_of m l) q.descriptor) ≡ true
    held = (old.tied r).run_held q at

    lists_by : (b : Bool) → cond b (record (lists_of p) { hand = without p.nodes.hand slot }) (tested_lists q.worn slot (lists_of p)) ≡ lists_of (record p { nodes = (if b then slot_made p.nodes slot else slot_back p.nodes slot q.worn) })
    lists_by true = refl
    lists_by false = back_lists p slot q.worn

    own_lists : made_lists (w.log q.descriptor k) q.worn slot (lists_of p) ≡ lists_of (record p { nodes = runs.made p q slot found })
    own_lists = ap (λ n. made_lists n q.worn slot (lists_of p)) logged ∙ lists_by (found == 0)

    pub makes : (records : RecordsState) → Goes m l (events.MakeCommit r q.descriptor k slot q.worn ∷ []) w (next m l w s old r f (record p { run = Some agreed; nodes = runs.made p q slot found; records = records }))
    makes records =
        run_goes m l w s old r q at is_open (events.MakeCommit r q.descriptor k slot q.worn ∷ []) refl ((held, role, in_hand), tt) f agreed _
        (record {
          holds = λ t h. h;
          alone = λ d h. h;
          entered = λ h. h;
          live = λ d h. descriptor_place slot place d node ∙ h;
          thunk = rest.thunk;
          stored = λ d j has_it. rest.elsewhere d j (apart m l w s old r r q.descriptor d held few has_it);
          on_run = record { descriptor = refl; opened = refl };
          made = λ t e. absurd (let x = e in cc);
          moved = record { stage = refl; published = refl; descriptors = refl; guards = refl; walk = refl };
          here = refl;
          retire = still m l w s old r q at is_open micro ahead inner other agreed (record { descriptor = refl; opened = refl }) (q.trail ++ written_once found (slot + 1) ∷ []) refl;
        })
        (record {
          epoch = refl;
          announced = λ i. refl;
          stage = λ i. refl;
          role = λ d i. refl;
          out = λ d h. ap is_out (sym (descriptor_place slot place d node)) ∙ h;
          seen_epoch = rest.epoch;
          seen_announced = rest.announced;
          seen_board = rest.board;
        })
        (λ i ne. record {
          holds = λ t h. h;
          alone = λ d h. h;
          words = λ d j h. rest.thunk d j;
          hand = λ t h. kept_place w.location slot t place (Hand r) (Hand i) in_hand (hand_hand r i ne) h;
          retire = refl;
          live = λ x e h. descriptor_place slot place x.descriptor node ∙ h;
          entered = λ h. h;
          stored = λ d j has_it. rest.elsewhere d j (apart m l w s old r i q.descriptor d held few has_it);
        })
        (ap (λ (x : Lists). upd (λ i. lists_of (s.part i)) r x) own_lists ∙ sym (map_upd lists_of s.part r _))

  module _ (slot : ℕ) (node : slot < (counts_of m l).nodes) (free : w.location slot ≡ Free r) (micro : Micro) (ahead : next_of m q ≡ micro) (inner : is_of_end micro ≡ false) (other : is_of_retire micro ≡ false) where
    abbrev taking : RunState
    taking = record q { made = Some slot; worn = false }

    some_slot : (t : ℕ) → Some slot ≡ Some t → slot ≡ t
    some_slot t e = cc

    -- the first step of a Make takes a free slot into the hand
    pub takes : (place v : ℕ) (word : ℕ) (records : RecordsState)
        → Goes m l (events.TakeSlot r slot ∷ []) w (next m l w s old r (put s.word (Cell place) v) (record p { run = Some (runs.goes_on m l taking word); nodes = slot_taken p.nodes slot; records = records }))
    takes place v word records =
        run_goes m l w s old r q at is_open (events.TakeSlot r slot ∷ []) refl ((free, node), tt) (put s.word (Cell place) v) (runs.goes_on m l taking word) _
        (record {
          holds = λ t h. h;
          alone = λ d h. h;
          entered = λ h. h;
          live = λ d h. descriptor_place slot (Hand r) d node ∙ h;
          thunk = λ d j. refl;
          stored = λ d j has_it. descriptor_same (put s.word (Cell place) v) s.word (but_cell s.word place v) d j;
          on_run = record { descriptor = refl; opened = refl };
          made = λ t e. this_place w.location slot t (Hand r) (sym (some_slot t e));
          moved = record { stage = refl; published = refl; descriptors = refl; guards = refl; walk = refl };
          here = refl;
          retire = still m l w s old r q at is_open micro ahead inner other (runs.goes_on m l taking word) (record { descriptor = refl; opened = refl }) q.trail refl;
        })
        (record {
          epoch = refl;
          announced = λ i. refl;
          stage = λ i. refl;
          role = λ d k. refl;
          out = λ d h. ap is_out (sym (descriptor_place slot (Hand r) d node)) ∙ h;
          seen_epoch = refl;
          seen_announced = λ i. refl;
          seen_board = λ i. refl;
        })
        (λ i ne. record {
          holds = λ t h. h;
          alone = λ d h. h;
          words = λ d j h. refl;
          hand = λ t h. kept_place w.location slot t (Hand r) (Free r) (Hand i) free (free_hand r i) h;
          retire = refl;
          live = λ x e h. descriptor_place slot (Hand r) x.descriptor node ∙ h;
          entered = λ h. h;
          stored = λ d j has_it. descriptor_same (put s.word (Cell place) v) s.word (but_cell s.word place v) d j;
        })
        (sym (map_upd lists_of s.part r _))

  -- the kinds of step by which a Make fills its slot, and its commit
  module _ (records : RecordsState) (micro : Micro) (ahead : next_of m q ≡ micro) (x : Spot × Access) where
    module _ (slot word place cell log : ℕ) (e : micro ≡ micros.PrivateLoad cell log) where
      abbrev filled : Option ℕ → PartState
      filled o = record (runs.fill_loaded m l slot p q o (s.word (Cell place))) { records = records }

      fill_by : (o : Option ℕ) → slot < (counts_of m l).nodes → is_slot (make_slot o p.nodes.free) slot ≡ true
          → GoesBy m l (λ es. ((o ≡ None) × (es ≡ events.TakeSlot r slot ∷ [])) ⊎ ((o ≡ Some slot) × (es ≡ []))) w (next m l w s old r (put s.word (Cell place) (s.word (Cell place))) (filled o))
      fill_by None low is =
          (_, inl (refl, refl), takes slot low (free_node m l w s old r slot low (last_has p.nodes.free slot is)) (micros.PrivateLoad cell log) (ahead ∙ e) refl refl place _ (s.word (Cell place)) records)
      fill_by (Some t) low is =
          let stay = steps m l w s old r q at is_open (micros.PrivateLoad cell log) (ahead ∙ e) refl refl _ (but_cell s.word place _) (s.word (Cell place)) p.reads records refl in
          (stay.0, inr (ap Some (same_slot t slot is), stay.1), stay.2)

    pub fill_load : (slot word : ℕ) → fill_load_ask m l slot word p.nodes.free q micro ≡ Some x → Leads m l w s old r q at is_open (kinds.PrivateLoad slot word) records micro x
    fill_load slot word e =
        let h = asked.fill_load_asked q x m l slot word p.nodes.free micro e in
        for_step m l w s old r q at is_open (kinds.PrivateLoad slot word) records micro x (micros.PrivateLoad h.0 h.1) (Cell h.2, Loads) h.3 h.6 (fill_by slot word h.2 h.0 h.1 h.3 q.made h.4 h.5)

    -- a private store of a run: of a Make, or into a block
    abbrev stored_part : ℕ → ℕ → Bool → PartState
    stored_part slot number b = record (runs.with_run p (if b then runs.block_emptied (slot - blocks_from m l) q else runs.filled m l number q)) { records = records }

    pub run_store : (slot word number : ℕ) (blocks : List ℕ) → private_store_in_run_ask m l slot word number blocks q micro ≡ Some x
        → Leads m l w s old r q at is_open (kinds.PrivateStore slot word number) records micro x
    run_store slot word number blocks e = ⊎_elim
        (λ link.
        let a = block_spot (slot - blocks_from m l) word in
        subst (λ (y : Spot × Access). StaysAt m l w (next m l w s old r (put s.word y.0 (written y.1 (s.word y.0))) (stored_part slot number (needs_link q micro)))) link.1
        (subst (λ b. StaysAt m l w (next m l w s old r (put s.word a number) (stored_part slot number b))) (sym link.0)
        (stands m l w s old r q at is_open a number (same_leaves s.word number a q.descriptor (but_block s.word number (slot - blocks_from m l) word)) q.links (Some (slot - blocks_from m l)) (runs.emptied_more q) q.won records)))
        (λ fills.
        let h = asked.fill_store_asked q x m l slot word number micro fills.1 in
        let μ : Micro = micros.PrivateStore h.0 h.1 h.3 in
        let a = Cell h.2 in
        subst (λ (y : Spot × Access). StaysAt m l w (next m l w s old r (put s.word y.0 (written y.1 (s.word y.0))) (stored_part slot number (needs_link q micro)))) h.5
        (subst (λ b. StaysAt m l w (next m l w s old r (put s.word a number) (stored_part slot number b))) (sym fills.0)
        (goes_on m l w s old r q at is_open μ (ahead ∙ h.4) refl refl (put s.word a number) (but_cell s.word h.2 number)
        (runs.filled m l number q) (record { descriptor = refl; opened = refl }) refl q.trail refl _
        (record { stage = refl; published = refl; descriptors = refl; guards = refl; walk = refl }) refl refl)))
        (asked.run_store_asked q x m l slot word number blocks micro e)

    -- and its link
    pub link_commit : (b : ℕ) → link_commit_ask l b q micro ≡ Some x → Leads m l w s old r q at is_open (kinds.LinkCommit b) records micro x
    link_commit b e =
        let a = link_spot q.descriptor q.links (length q.links) in
        let v = exchanged (s.word a) 0 (b + 1) in
        subst (λ (y : Spot × Access). StaysAt m l w (next m l w s old r (put s.word y.0 (written y.1 (s.word y.0))) (record (runs.link_committed b p q (s.word y.0)) { records = records }))) (asked.link_asked q x l b micro e)
        (stands m l w s old r q at is_open a v (link_leaves s.word v q.descriptor q.links (length q.links)) _ None 0 _ records)

    pub make_commit : ((k : ℕ) → commits_to micro ≡ Some k → needs_link q micro ≡ false → w.log q.descriptor k ≡ s.word x.0)
        → make_commit_ask q micro ≡ Some x → Leads m l w s old r q at is_open kinds.MakeCommit records micro x
    make_commit logged e =
        let h = asked.make_commit_asked q x micro e in
        let k = h.2.log in
        let here : micro_at (line (m.body (thunk_of q.opened))) q.at ≡ micros.MakeCommit k = next_in_line m q (micros.MakeCommit k) refl (ahead ∙ h.2.step) in
        for_step m l w s old r q at is_open kinds.MakeCommit records micro x (micros.MakeCommit k) (log_spot q.descriptor q.links k, Exchanges 0 (h.0 + 1)) h.2.step h.2.is (
          _,
          (k, h.0, refl, h.1, refl),
          subst (λ (o : Option ℕ). Goes m l (events.MakeCommit r q.descriptor k h.0 q.worn ∷ []) w (next m l w s old r (put s.word (log_spot q.descriptor q.links k) (exchanged (s.word (log_spot q.descriptor q.links k)) 0 (h.0 + 1))) (record (runs.make_committed m l p q o (s.word (log_spot q.descriptor q.links k))) { records = records }))) (sym h.1)
              (makes h.0 k ((old.tied r).run_made q h.0 at h.1) (micros.MakeCommit k) (ahead ∙ h.2.step) refl refl
              (run_role m l w s old r q at (open_run q is_open) k Makes (roles.make_role (m.body (thunk_of q.opened)) q.at k here))
              (logged k (ap commits_to h.2.step) (ap (needs_link q) h.2.step ∙ h.2.linked) ∙ ap (λ (y : Spot × Access). s.word y.0) (sym h.2.is)) records),
        )
