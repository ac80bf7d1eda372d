-- The kinds of step outside a run that change no stage.
use Rattle.std.specs.Prelude.{◌==◌, ◌&&◌, ◌||◌, not, cond, if◌then◌else◌, Bool, true, false, nat_lt, nat_le, slice_index}
use Rattle.std.proofs.Common.{◌≡◌, ℕ, zero, suc, ◌+◌, ◌-◌, ◌<◌, ◌≤◌, List, [], ◌∷◌, ◌++◌, length, refl, sym, ap, ◌∙◌, subst, arith, Option, Some, None}
use Rattle.std.proofs.lemmas.Bool.Decides.{nat_tests}
use Rattle.machine_states.specs.map_history.specs.declared.op.Request.{Request}
use Rattle.machine_states.specs.body_terms.specs.declared.thunk.Thunk.{Thunk}
use Rattle.machine_states.specs.body_terms.specs.Word.{is_free, value_of}
use Rattle.machine_states.specs.table_words.specs.declared.layout.Layout.{Layout}
use Rattle.machine_states.specs.table_words.specs.declared.spot.Spot.{Spot}
use Rattle.machine_states.specs.table_words.specs.declared.spot.Spot.TheVariants.{Seat, Clock, Announcement, Cell, ThunkWord}
use Rattle.machine_states.specs.table_words.specs.declared.access.Access.{Access}
use Rattle.machine_states.specs.table_words.specs.declared.access.Access.TheVariants.{Loads}
use Rattle.machine_states.specs.table_words.specs.Places.{slot_count}
use Rattle.machine_states.specs.table_words.specs.Access.{written}
use Rattle.machine_states.specs.table_words.specs.Seen.{upd, put}
use Rattle.machine_states.specs.structure_laws.specs.Meaning.{Meaning}
use Rattle.machine_states.specs.runner_parts.specs.declared.event.EventKind.{EventKind}
use Rattle.machine_states.specs.runner_parts.specs.declared.event.EventKind.TheVariants as kinds
use Rattle.machine_states.specs.epoch_core.specs.declared.stage.Stage.TheVariants.{Entered}
use Rattle.machine_states.specs.runner_parts.specs.declared.entries.Look.{Look}
use Rattle.machine_states.specs.runner_parts.specs.declared.entries.LookStage.TheVariants.{Replied, Stamped}
use Rattle.machine_states.specs.runner_parts.specs.declared.entries.Tested.{Tested}
use Rattle.machine_states.specs.runner_parts.specs.State.{RunState, PartState, NodesState, GuardsState, ReadsState, RecordsState}
use Rattle.machine_states.specs.runner_parts.specs.Tests.{has, is_some_of}
use Rattle.machine_states.specs.runner_steps.specs.Outside.{split_ask, entry_ask, read_ask, open_ask, is_sure_of}
use Rattle.machine_states.specs.runner_steps.specs.Reads.{read_plan_ask, read_clock_ask, read_reply_ask, read_stamp_ask, plan_by, looked_by, come_to}
use Rattle.machine_states.specs.runner_parts.specs.Lists as lists
use Rattle.machine_states.specs.runner_steps.specs.AfterOutside as outside
use Rattle.machine_states.specs.runner_steps.specs.After.{outside_after}
use Rattle.machine_states.specs.epoch_core.specs.declared.location.Location.TheVariants.{Hand}
use Rattle.machine_states.specs.epoch_core.specs.Moves.{tested}
use Rattle.machine_states.specs.epoch_core.specs.State.{EpochState, no_retire, MayHold, is_entered}
use Rattle.machine_states.specs.epoch_core.specs.Events as events
use Rattle.machine_states.specs.epoch_core.specs.Events.{slot_of}
use Rattle.machine_states.specs.epoch_core.specs.Sound.{is_for_nodes}
use Rattle.machine_states.specs.epoch_core.specs.History.{is_out}
use Rattle.machine_states.specs.epoch_core.specs.Lists.{Lists, times}
use Rattle.machine_states.specs.Sight.{Sight}
use Rattle.machine_states.proofs.Steps.{some_same}
use Rattle.machine_states.proofs.Updates.{map_same, map_upd}
use Rattle.machine_epochs.specs.Entries.{counts_of}
use Rattle.machine_epochs.specs.Roles.{role_at}
use Rattle.machine_epochs.specs.Slots.{lists_of, retiring_of}
use Rattle.machine_epochs.specs.Joined.{IsTied, IsJoinedToEpochs}
use Rattle.machine_epochs.specs.Chunks.{is_last_look, looked as looked_events, IsOutsideChunk}
use Rattle.machine_epochs.specs.Supplied.{sees_slot, comes_outside}
use Rattle.machine_epochs.proofs.OutsideAsked as asked
use Rattle.machine_epochs.proofs.ReadsAsked as reads_asked
use Rattle.machine_epochs.proofs.RunPlaces.{begins_unretired}
use Rattle.machine_epochs.proofs.Places.{has_times, hand_node}
use Rattle.machine_epochs.proofs.Joining.{copied, looking, IsSameBut, but_load, but_kept, but_stamp, but_reply, descriptor_same, thunk_same, still_tied, Goes, GoesBy, StaysAt, next, as_published, once, stages_stay, stays, board_kept, goes_with}
use Rattle.machine_epochs.proofs.CommitKinds.{row_else, row_only, row_named, row_back}
use Rattle.machine_epochs.proofs.Reaching.{may_hold}
use Rattle.machine_epochs.proofs.SlotKinds.{kept_place, other_place, hand_hand, back_lists}

-- a test of a slot is a test of that slot
test_slot : (tests : List Tested) (slot : ℕ) → (lists.test_of tests slot).slot ≡ slot
test_slot [] slot = refl
test_slot (x ∷ xs) slot = by_test (x.slot == slot) refl (test_slot xs slot)
  where
    same : (a b : ℕ) → (a == b) ≡ true → a ≡ b
    same a b h = grind (arith, nat_tests)

    by_test : (b : Bool) → (x.slot == slot) ≡ b → (lists.test_of xs slot).slot ≡ slot → (cond b x (lists.test_of xs slot)).slot ≡ slot
    by_test true e h = same x.slot slot e
    by_test false e h = h

-- of a lock's word that names a descriptor the guard word may name the same one
seen_slot : (lock : Bool) (v n d : ℕ) (named : Option ℕ) (node : Bool)
    → ((lock && not (v == 0)) && (is_some_of named (v - 1) && is_some_of named d))
    ≡ ((nat_lt (n + d) n && node) || (lock && (nat_le n (n + d) && (not (v == 0) && (v == n + d - n + 1 && is_some_of named (n + d - n))))))
seen_slot lock v n d named node = by_name named ∙ sym (λ i. (is_none n d i && node) || (lock && (is_slot n d i && (not (v == 0) && (v == back n d i + 1 && is_some_of named (back n d i))))))
  where
    is_none : (n d : ℕ) → nat_lt (n + d) n ≡ false
    is_none n d = grind (arith, nat_tests)

    is_slot : (n d : ℕ) → nat_le n (n + d) ≡ true
    is_slot n d = grind (arith, nat_tests)

    back : (n d : ℕ) → n + d - n ≡ d
    back n d = omega arith

    same : (v d k : ℕ) → (not (v == 0) && (k == v - 1 && k == d)) ≡ (not (v == 0) && (v == d + 1 && k == d))
    same v d k = grind (arith, nat_tests)

    none : (a b : Bool) → (a && (b && false)) ≡ false
    none true true = refl
    none true false = refl
    none false b = refl

    by_lock : (b : Bool) (k : ℕ) → ((b && not (v == 0)) && (k == v - 1 && k == d)) ≡ (b && (not (v == 0) && (v == d + 1 && k == d)))
    by_lock true k = same v d k
    by_lock false k = refl

    unseen : (b a : Bool) → ((b && a) && false) ≡ (b && (a && ((v == d + 1) && false)))
    unseen true true = sym (none true (v == d + 1))
    unseen true false = refl
    unseen false a = refl

    by_name : (o : Option ℕ) → ((lock && not (v == 0)) && (is_some_of o (v - 1) && is_some_of o d)) ≡ (lock && (not (v == 0) && (v == d + 1 && is_some_of o d)))
    by_name None = unseen lock (not (v == 0))
    by_name (Some k) = by_lock lock k

first_true : (a b : Bool) → (a && b) ≡ true → a ≡ true
first_true true b e = refl
first_true false b e = absurd (let x = e in cc)

module _ (m : Meaning) (l : Layout) (w : EpochState) (s : Sight) (old : IsJoinedToEpochs m l w s) (r : ℕ) (none : (s.part r).run ≡ None) where
  abbrev p : PartState
  p = s.part r

  -- the state after a step of this kind on this word, with these records
  abbrev pub Leads : EventKind → RecordsState → Spot × Access → Type 0
  Leads kind records x = GoesBy m l (IsOutsideChunk m l r kind p (s.word x.0)) w (next m l w s old r (put s.word x.0 (written x.1 (s.word x.0))) (record (outside_after m l kind p (s.word x.0)) { records = records }))

  -- what was tied to the part is so by words that are the same for it
  pub tied_by : (f : Spot → ℕ) → IsSameBut f s.word → IsTied m l w f r p
  tied_by f same = still_tied m l w w s.word f r p (record {
    holds = λ t h. h;
    alone = λ d h. h;
    words = λ d j h. same.thunk d j;
    hand = λ t h. h;
    retire = refl;
    live = λ x e h. h;
    entered = λ h. h;
    stored = λ d j h. descriptor_same f s.word same d j;
  }) (old.tied r)

  -- what is tied to a part in which tests and records alone have changed
  same_tied : (f : Spot → ℕ) → IsSameBut f s.word → (tests : List Tested) (records : RecordsState) → IsTied m l w f r (record p { nodes = record (p.nodes) { tests = tests }; records = records })
  same_tied f same tests records = copied m l w f r p (record (p.nodes) { tests = tests }) records p.gone (tied_by f same)

  -- a step after which records alone have changed
  pub leaves : (f : Spot → ℕ) → IsSameBut f s.word → (records : RecordsState) → StaysAt m l w (next m l w s old r f (record p { records = records }))
  leaves f same records =
      let p' : PartState = record p { records = records } in
      stays m l w s old r f p' same refl refl (as_published m l w s old r p' refl) (copied m l w f r p p.nodes records p.gone (tied_by f same))

  -- a load after which tests and records alone have changed
  pub notes : (a : Spot) (tests : List Tested) (records : RecordsState) → StaysAt m l w (next m l w s old r (put s.word a (s.word a)) (record p { nodes = record (p.nodes) { tests = tests }; records = records }))
  notes a tests records = stays m l w s old r _ p' (but_load s.word a) refl refl (as_published m l w s old r p' refl) (same_tied _ (but_load s.word a) tests records)
    where
      p' : PartState
      p' = record p { nodes = record (p.nodes) { tests = tests }; records = records }

  entered_at : (g : ℕ) → p.stage ≡ Entered g → is_entered (w.stage r) ≡ true
  entered_at g e = ap is_entered (old.entries.stage r ∙ e)

  unretired : w.retire r ≡ no_retire
  unretired = (old.tied r).retire ∙ ap (retiring_of m) none

  -- a step after which the look and the records alone have changed
  sees : (f : Spot → ℕ) → IsSameBut f s.word → (look : Option Look) (records : RecordsState)
      → StaysAt m l w (next m l w s old r f (record p { reads = record (p.reads) { look = look }; records = records }))
  sees f same look records =
      stays m l w s old r f p' same refl refl (as_published m l w s old r p' refl) (looking m l w f r p look records (tied_by f same))
    where
      p' : PartState
      p' = record p { reads = record (p.reads) { look = look }; records = records }

  pub read_plan : (records : RecordsState) (thunk : Thunk) (x : Spot × Access) → read_plan_ask r thunk p ≡ Some x
      → Leads (kinds.ReadPlan thunk) records x
  read_plan records thunk x e = subst (Leads (kinds.ReadPlan thunk) records) (reads_asked.read_plan_asked r thunk p x e).is
      (sees _ (but_kept s.word (Announcement r)) (Some (plan_by thunk)) records)

  pub read_clock : (records : RecordsState) (x : Spot × Access) → read_clock_ask p p.reads.look ≡ Some x
      → Leads kinds.ReadClock records x
  read_clock records x e = subst (Leads kinds.ReadClock records) (reads_asked.read_clock_asked p x e).is
      (sees _ (but_load s.word Clock) (looked_by p (s.word Clock) p.reads.look) records)

  pub read_reply : (rs : List Request) (records : RecordsState) (x : Spot × Access) → read_reply_ask m l rs r p p.reads.look ≡ Some x
      → Leads kinds.ReadReply records x
  read_reply rs records x e = subst (Leads kinds.ReadReply records) (reads_asked.read_reply_asked m l rs r p x e).is
      (sees _ (but_reply s.word _ _) (come_to Replied p.reads.look) records)

  pub read_stamp : (records : RecordsState) (x : Spot × Access) → read_stamp_ask p p.reads.look ≡ Some x → Leads kinds.ReadStamp records x
  read_stamp records x e = subst (Leads kinds.ReadStamp records) (reads_asked.read_stamp_asked p x e).is
      (sees _ (but_stamp s.word _ _) (come_to Stamped p.reads.look) records)

  pub load_entry : (records : RecordsState) (request : ℕ) (reply : Bool) (x : Spot × Access) → entry_ask request reply p ≡ Some x → Leads (kinds.LoadEntry request reply) records x
  load_entry records request reply x e = subst (Leads (kinds.LoadEntry request reply) records) (asked.entry_asked request reply p x e) (notes _ p.nodes.tests records)

  pub split : (records : RecordsState) (x : Spot × Access) → split_ask l r p ≡ Some x → Leads kinds.Split records x
  split records x e = subst (Leads kinds.Split records) (asked.split_asked l r p x e) (by_test (nat_lt p.records.splits l.runners))
    where
      by_test : (b : Bool) → StaysAt m l w (next m l w s old r (put s.word Seat (s.word Seat)) (record (cond b (record p { records = record (p.records) { splits = p.records.splits + 1 } }) p) { records = records }))
      by_test true = notes Seat p.nodes.tests records
      by_test false = notes Seat p.nodes.tests records

  -- a run begins with the first word of a descriptor that the runner holds
  pub load_thunk : (records : RecordsState) (d : ℕ) (x : Spot × Access) → open_ask d p ≡ Some x → Leads (kinds.LoadThunk (Some d)) records x
  load_thunk records d x e =
      let h = asked.open_asked d p x e in
      let found = s.word (ThunkWord d 0) in
      let begun : RunState = outside.opened d found in
      let p' : PartState = record p { run = Some begun; records = records } in
      subst (Leads (kinds.LoadThunk (Some d)) records) h.3 (stays m l w s old r _ p' (but_load s.word (ThunkWord d 0)) refl refl (as_published m l w s old r p' refl) (record {
        run_held = λ q e'. ap (λ (a : RunState). w.holds r (slot_of (counts_of m l) a.descriptor)) (sym (some_same begun q e')) ∙ (old.tied r).sure d h.2;
        run_opened = λ q j e' low low'. subst (λ (a : RunState). j < length a.opened → slice_index a.opened j ≡ put s.word (ThunkWord d 0) found (ThunkWord a.descriptor j)) (some_same begun q e') (first d j) low;
        run_begins = λ q e' few. ap (λ (a : RunState). a.at) (sym (some_same begun q e'));
        run_made = λ q t e' made. absurd (let y = ap (λ (a : RunState). a.made) (some_same begun q e') ∙ made in cc);
        retire = unretired ∙ sym (begins_unretired m begun refl);
        published = (old.tied r).published;
        run_sure = λ q e'. ap (λ (a : RunState). is_sure_of p.guards a.descriptor) (sym (some_same begun q e')) ∙ h.2;
        published_sure = (old.tied r).published_sure;
        sure = (old.tied r).sure;
        numbered = (old.tied r).numbered;
        sure_alone = (old.tied r).sure_alone;
        reached = (old.tied r).reached;
        stored_free = (old.tied r).stored_free;
        stored = λ d' j n free last. descriptor_same _ s.word (but_load s.word (ThunkWord d 0)) d' j ∙ (old.tied r).stored d' j n free last;
      }))
    where
      here : (d v w : ℕ) → v ≡ cond (d == d) v w
      here d v w = grind (arith, nat_tests)

      first : (d j : ℕ) → j < 1 → slice_index (s.word (ThunkWord d 0) ∷ []) j ≡ put s.word (ThunkWord d 0) (s.word (ThunkWord d 0)) (ThunkWord d j)
      first d zero low = here d (s.word (ThunkWord d 0)) (s.word (ThunkWord d 0))
      first d (suc j) low = absurd (omega arith)

  -- readings by which the runner comes to hold these slots
  module _ (f : Spot → ℕ) (same : IsSameBut f s.word) (entered : is_entered (w.stage r) ≡ true) (comes : ℕ → Bool) (may : (t : ℕ) → comes t ≡ true → w.holds r t ≡ false → MayHold w r t) where
    pub reads : (guards : GuardsState) (now : ReadsState) (records : RecordsState) → guards.named ≡ p.guards.named → ((d : ℕ) → is_sure_of guards d ≡ (is_sure_of p.guards d || comes (slot_of (counts_of m l) d)))
        → ((t : ℕ) → t < (counts_of m l).nodes → m.reaches now.walk t ≡ true → (m.reaches p.reads.walk t || comes t) ≡ true)
        → Goes m l (events.Reach r comes ∷ []) w (next m l w s old r f (record p { guards = guards; reads = now; records = records }))
    reads guards now records named sure_by reached =
        goes_with m l w s old r (events.Reach r comes ∷ []) ((entered, λ t h. may_hold (counts_of m l) w old.sound r t (may t h)), tt) f p'
        (sym (map_same lists_of s.part r p' refl))
        (record {
          epoch = old.entries.epoch ∙ sym same.epoch;
          announced = λ i. old.entries.announced i ∙ sym (same.announced i);
          stage = stages_stay m l w s old r f p' refl;
        })
        (board_kept m l w s old r (events.Reach r comes ∷ []) refl ((entered, λ t h. may_hold (counts_of m l) w old.sound r t (may t h)), tt) f p' same.board)
        (λ d k out. old.roles d k out ∙ ap (λ (t : Thunk). role_at (m.body t) k) (sym (thunk_same f s.word d (same.thunk d))))
        (once m l w s old r p' (as_published m l w s old r p' refl))
        (record {
          run_held = λ q e. absurd (let y = sym none ∙ e in cc);
          run_opened = λ q j e low low'. absurd (let y = sym none ∙ e in cc);
          run_begins = λ q e few. absurd (let y = sym none ∙ e in cc);
          run_made = λ q t e made. absurd (let y = sym none ∙ e in cc);
          retire = (old.tied r).retire;
          published = (old.tied r).published;
          run_sure = λ q e. absurd (let y = sym none ∙ e in cc);
          published_sure = λ y e. sure_by y.descriptor ∙ ap (λ b. b || comes (slot_of (counts_of m l) y.descriptor)) ((old.tied r).published_sure y e);
          sure = λ d is. row_named r (is_sure_of p.guards d) (comes (slot_of (counts_of m l) d)) (w.holds r (slot_of (counts_of m l) d)) ((old.tied r).sure d) (sym (sure_by d) ∙ is);
          numbered = λ d e. (old.tied r).numbered d (sym named ∙ e);
          sure_alone = λ d h. sure_by d ∙ row_back r (w.holds r (slot_of (counts_of m l) d)) (comes (slot_of (counts_of m l) d)) (is_sure_of p.guards d) ((old.tied r).sure_alone d) h;
          reached = λ t isin node is_there. row_named r (m.reaches p.reads.walk t) (comes t) (w.holds r t) ((old.tied r).reached t entered node) (reached t node is_there);
          stored_free = (old.tied r).stored_free;
          stored = λ d j n free last. descriptor_same f s.word same d j ∙ (old.tied r).stored d j n free last;
        })
        (λ i ne. record {
          holds = λ t h. row_else w.holds r i t (λ u. w.holds r u || comes u) ne h;
          alone = λ d h. row_only w.holds r i (slot_of (counts_of m l) d) (λ u. w.holds r u || comes u) ne h;
          words = λ d j h. same.thunk d j;
          hand = λ t h. h;
          retire = refl;
          live = λ x e h. h;
          entered = λ h. h;
          stored = λ d j h. descriptor_same f s.word same d j;
        })
      where
        p' : PartState
        p' = record p { guards = guards; reads = now; records = records }

  -- a cell is read outside a run
  module _ (records : RecordsState) (place : ℕ) (x : Spot × Access) where
    abbrev comes : ℕ → ℕ → Bool
    comes found t = comes_outside m (counts_of m l) (kinds.LoadCell (Some place)) p found t

    seen_named : (b : Bool) (d : ℕ) → (cond b (lists.published_seen p.guards d) p.guards).named ≡ p.guards.named
    seen_named true d = refl
    seen_named false d = refl

    -- what it is sure of after it read this word
    sure_then : (found d : ℕ) (lock : Bool) → is_sure_of (lists.named_seen p.guards lock found) d
        ≡ (is_sure_of p.guards d || ((nat_lt (slot_of (counts_of m l) d) (counts_of m l).nodes && m.reaches (p.reads.walk ++ (place, found) ∷ []) (slot_of (counts_of m l) d))
        || (lock && sees_slot (counts_of m l) p.guards found (slot_of (counts_of m l) d))))
    sure_then found d lock =
        by_test (lock && not (is_free found)) refl
        ∙ ap (λ b. is_sure_of p.guards d || b) (seen_slot lock (value_of found) (counts_of m l).nodes d p.guards.named (m.reaches (p.reads.walk ++ (place, found) ∷ []) (slot_of (counts_of m l) d)))
      where
        by_test : (b : Bool) → (lock && not (is_free found)) ≡ b
            → is_sure_of (cond b (lists.published_seen p.guards (value_of found - 1)) p.guards) d ≡ (is_sure_of p.guards d || (b && (is_some_of p.guards.named (value_of found - 1) && is_some_of p.guards.named d)))
        by_test true e = spread p.guards.sure (is_some_of p.guards.named (value_of found - 1)) (is_some_of p.guards.named d)
          where
            spread : (a b c : Bool) → ((a || b) && c) ≡ ((a && c) || (b && c))
            spread true true true = refl
            spread true true false = refl
            spread true false true = refl
            spread true false false = refl
            spread false b c = refl
        by_test false e = sym (or_none (is_sure_of p.guards d))
          where
            or_none : (a : Bool) → (a || false) ≡ a
            or_none true = refl
            or_none false = refl

    reached_then : (t n : ℕ) (a b c : Bool) → t < n → b ≡ true → (a || ((nat_lt t n && b) || c)) ≡ true
    reached_then t n a b c low e = grind (arith, nat_tests)

    abbrev May : Spot × Access → Type 0
    May y = (t : ℕ) → comes (s.word y.0) t ≡ true → w.holds r t ≡ false → MayHold w r t

    pub load_cell : May x → read_ask m place p ≡ Some x → Leads (kinds.LoadCell (Some place)) records x
    load_cell may e =
        let h = asked.read_asked m place p x e in
        let found = s.word (Cell place) in
        subst (Leads (kinds.LoadCell (Some place)) records) h.2 (
          _,
          refl,
          reads _ (but_load s.word (Cell place)) (entered_at h.0 h.1) (comes found) (subst May (sym h.2) may)
              (lists.named_seen p.guards (m.is_lock place) found) (lists.walked p.reads place found) records (seen_named (m.is_lock place && not (is_free found)) (value_of found - 1))
              (λ d. sure_then found d (m.is_lock place))
              (λ t node is_there. reached_then t (counts_of m l).nodes (m.reaches p.reads.walk t) (m.reaches (p.reads.walk ++ (place, found) ∷ []) t) (m.is_lock place && sees_slot (counts_of m l) p.guards found t) node is_there),
        )

  -- a slot in the hand was looked at whole, and comes back
  module _ (a : Spot) (t : ℕ) (worn : Bool) (in_hand : w.location t ≡ Hand r) (records : RecordsState) where
    abbrev back : PartState
    back = record p { nodes = lists.slot_back p.nodes t worn; records = records }

    abbrev f : Spot → ℕ
    f = put s.word a (s.word a)

    same : IsSameBut f s.word
    same = but_load s.word a

    node : t < (counts_of m l).nodes
    node = old.sound.for_nodes t (ap is_for_nodes in_hand)

    descriptor_place : (d : ℕ) → upd w.location t (tested worn r) (slot_of (counts_of m l) d) ≡ w.location (slot_of (counts_of m l) d)
    descriptor_place d = let low = node in other_place w.location t (slot_of (counts_of m l) d) (tested worn r) (λ e. absurd (omega arith))

    comes_back : Goes m l (events.Test r t worn ∷ []) w (next m l w s old r f back)
    comes_back =
        goes_with m l w s old r (events.Test r t worn ∷ []) (in_hand, tt) f back
        (ap (λ (x : Lists). upd (λ i. lists_of (s.part i)) r x) (back_lists p t worn) ∙ sym (map_upd lists_of s.part r back))
        (record {
          epoch = old.entries.epoch ∙ sym same.epoch;
          announced = λ i. old.entries.announced i ∙ sym (same.announced i);
          stage = stages_stay m l w s old r f back refl;
        })
        (board_kept m l w s old r (events.Test r t worn ∷ []) refl (in_hand, tt) f back same.board)
        (λ d k out. old.roles d k (ap is_out (sym (descriptor_place d)) ∙ out) ∙ ap (λ (u : Thunk). role_at (m.body u) k) (sym (thunk_same f s.word d (same.thunk d))))
        (once m l w s old r back (as_published m l w s old r back refl))
        (record {
          run_held = λ q e. absurd (let y = sym none ∙ e in cc);
          run_opened = λ q j e low low'. absurd (let y = sym none ∙ e in cc);
          run_begins = λ q e few. absurd (let y = sym none ∙ e in cc);
          run_made = λ q u e made. absurd (let y = sym none ∙ e in cc);
          retire = (old.tied r).retire;
          published = λ y e. descriptor_place y.descriptor ∙ (old.tied r).published y e;
          run_sure = λ q e. absurd (let y = sym none ∙ e in cc);
          published_sure = (old.tied r).published_sure;
          sure = (old.tied r).sure;
          numbered = (old.tied r).numbered;
          sure_alone = (old.tied r).sure_alone;
          reached = (old.tied r).reached;
          stored_free = (old.tied r).stored_free;
          stored = λ d j n free last. descriptor_same f s.word same d j ∙ (old.tied r).stored d j n free last;
        })
        (λ i ne. record {
          holds = λ u h. h;
          alone = λ d h. h;
          words = λ d j h. same.thunk d j;
          hand = λ u h. kept_place w.location t u (tested worn r) (Hand r) (Hand i) in_hand (hand_hand r i ne) h;
          retire = refl;
          live = λ y e h. descriptor_place y.descriptor ∙ h;
          entered = λ h. h;
          stored = λ d j h. descriptor_same f s.word same d j;
        })

  -- a private load looks at a cell of a slot in the hand, or changes nothing
  module _ (records : RecordsState) (slot word : ℕ) (a : Spot) where
    abbrev looked : Tested
    looked = lists.one_more l (lists.test_of p.nodes.tests slot) (s.word a)

    -- it does, where this was the last look
    abbrev Looks : Bool → NodesState → Type 0
    Looks last nodes = GoesBy m l (λ es. es ≡ cond last (events.Test r slot looked.worn ∷ []) []) w (next m l w s old r (put s.word a (s.word a)) (record p { nodes = nodes; records = records }))

    in_hand : has p.nodes.hand slot ≡ true → w.location looked.slot ≡ Hand r
    in_hand e = ap w.location (test_slot p.nodes.tests slot) ∙ hand_node m l w s old r slot (below (counts_of m l).nodes slot (old.listed.hand_nodes r slot) (has_times p.nodes.hand slot e)) e
      where
        below : (n t : ℕ) {k : ℕ} → (n ≤ t → k ≡ 0) → 1 ≤ k → t < n
        below n t h some = grind arith

    whole : (b : Bool) → has p.nodes.hand slot ≡ true → Looks b (cond b (lists.slot_back p.nodes looked.slot looked.worn) (record (p.nodes) { tests = lists.tests_without p.nodes.tests looked.slot ++ looked ∷ [] }))
    whole true e = (_, ap (λ t. events.Test r t looked.worn ∷ []) (test_slot p.nodes.tests slot), comes_back a looked.slot looked.worn (in_hand e) records)
    whole false e = notes a _ records

    looks : (b : Bool) → (has p.nodes.hand slot && (word == (lists.test_of p.nodes.tests slot).cells && nat_lt word 5)) ≡ b → Looks (b && looked.cells == 5) (cond b (lists.slot_tested p.nodes looked) p.nodes)
    looks true e = whole (looked.cells == 5) (first_true _ _ e)
    looks false e = notes a p.nodes.tests records

    pub looks_at : Looks (is_last_look p.nodes slot word) (lists.nodes_looked l p.nodes slot word (s.word a))
    looks_at = looks (has p.nodes.hand slot && (word == (lists.test_of p.nodes.tests slot).cells && nat_lt word 5)) refl

  -- a private load of a cell of a node slot
  pub node_load : (records : RecordsState) (slot word : ℕ) (a : Spot) → nat_lt slot (slot_count l m.fixed_slots) ≡ true → Leads (kinds.PrivateLoad slot word) records (a, Loads)
  node_load records slot word a low =
      subst (λ (b : Bool). GoesBy m l (λ es. es ≡ looked_events l r p.nodes slot word (s.word a)) w (next m l w s old r (put s.word a (s.word a))
      (record (if b then record p { nodes = lists.nodes_looked l p.nodes slot word (s.word a) } else outside.descriptor_known m l slot word p (s.word a)) { records = records })))
      (sym low) (looks_at records slot word a)

  -- a slot that is no node slot is in no hand, so to look at its words is not to look at a node slot
  pub unlooked : (slot word found : ℕ) → nat_lt slot (slot_count l m.fixed_slots) ≡ false → [] ≡ looked_events l r p.nodes slot word found
  unlooked slot word found high = ap (λ (b : Bool). if (b && (word == (lists.test_of p.nodes.tests slot).cells && nat_lt word 5)) && (lists.test_of p.nodes.tests slot).cells + 1 == 5 then events.Test r slot (lists.one_more l (lists.test_of p.nodes.tests slot) found).worn ∷ [] else [])
      (sym (unhanded (has p.nodes.hand slot) (has_times p.nodes.hand slot)))
    where
      unhanded : (b : Bool) → (b ≡ true → 1 ≤ times slot p.nodes.hand) → b ≡ false
      unhanded true some = absurd (none_of (slot_count l m.fixed_slots) slot high (old.listed.hand_nodes r slot) (some refl))
        where
          none_of : (n t : ℕ) {k : ℕ} → nat_lt t n ≡ false → (n ≤ t → k ≡ 0) → 1 ≤ k → ⊥
          none_of n t e h some = grind (arith, nat_tests)
      unhanded false some = refl
