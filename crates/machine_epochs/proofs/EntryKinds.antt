-- The kinds of step that change the epoch, an announcement or a stage.
use Rattle.std.specs.Prelude.{◌&&◌, not, cond, Bool, true, false, nat_lt, nat_le}
use Rattle.std.specs.List.{filter}
use Rattle.std.proofs.Common.{◌≡◌, ◌≢◌, ℕ, suc, ◌+◌, ◌<◌, ◌≤◌, List, [], ◌∷◌, ◌++◌, map, refl, sym, ap, ◌∙◌, subst, arith, add-one, Option, Some, None, inl, inr}
use Rattle.std.proofs.lemmas.Bool.Decides.{nat_tests}
use Rattle.std.proofs.lemmas.Option.{none-some}
use Rattle.machine_states.specs.body_terms.specs.declared.thunk.Thunk.{Thunk}
use Rattle.machine_states.specs.table_words.specs.declared.layout.Layout.{Layout}
use Rattle.machine_states.specs.table_words.specs.declared.spot.Spot.{Spot}
use Rattle.machine_states.specs.table_words.specs.declared.spot.Spot.TheVariants.{Epoch, Announcement, Board}
use Rattle.machine_states.specs.table_words.specs.declared.access.Access.{Access}
use Rattle.machine_states.specs.table_words.specs.Access.{exchanged, written}
use Rattle.machine_states.specs.table_words.specs.Seen.{upd, put}
use Rattle.machine_states.specs.structure_laws.specs.Meaning.{Meaning}
use Rattle.machine_states.specs.runner_parts.specs.declared.event.EventKind.{EventKind}
use Rattle.machine_states.specs.runner_parts.specs.declared.event.EventKind.TheVariants as kinds
use Rattle.machine_states.specs.epoch_core.specs.declared.stage.Stage.{Stage}
use Rattle.machine_states.specs.epoch_core.specs.declared.stage.Stage.TheVariants.{Idle, Loaded, Announced, Entered, Scanning}
use Rattle.machine_states.specs.runner_parts.specs.declared.entries.Published.{Published}
use Rattle.machine_states.specs.runner_parts.specs.declared.entries.Retired.{Retired}
use Rattle.machine_states.specs.runner_parts.specs.State.{PartState, GuardsState, RecordsState}
use Rattle.machine_states.specs.runner_parts.specs.Tests.{has, is_some_of, last_stored}
use Rattle.machine_states.specs.runner_steps.specs.Outside.{enter_load_ask, announce_ask, enter_again_ask, idle_ask, scan_one_ask, advance_ask, is_sure_of}
use Rattle.machine_states.specs.runner_parts.specs.Lists as lists
use Rattle.machine_states.specs.runner_steps.specs.After.{outside_after}
use Rattle.machine_states.specs.runner_steps.specs.AfterOutside as outside
use Rattle.machine_states.specs.epoch_core.specs.Update.{upd_row}
use Rattle.machine_states.specs.epoch_core.specs.declared.location.Location.{Location}
use Rattle.machine_states.specs.epoch_core.specs.declared.location.Location.TheVariants.{Fixed, Live, Hand, Free, Worn, Limbo, OnBoard}
use Rattle.machine_states.specs.epoch_core.specs.Moves.{is_clear, is_over, is_old, collected}
use Rattle.machine_states.specs.epoch_core.specs.State.{EpochState, Retiring, no_retire, last_epoch, is_entered}
use Rattle.machine_states.specs.epoch_core.specs.Events as events
use Rattle.machine_states.specs.epoch_core.specs.Events.{slot_of, Enabled, after, after_collect}
use Rattle.machine_states.specs.epoch_core.specs.History.{is_out}
use Rattle.machine_states.specs.epoch_core.specs.Lists.{Entry, Lists, old_slots, young, collect_lists, listed}
use Rattle.machine_states.specs.Sight.{Sight}
use Rattle.machine_states.proofs.Updates.{map_same, map_upd, upd_here, upd_else}
use Rattle.machine_epochs.specs.Entries.{counts_of}
use Rattle.machine_epochs.specs.Roles.{role_at}
use Rattle.machine_epochs.specs.Slots.{entry_of, lists_of, retiring_of, ShowsEntries}
use Rattle.machine_epochs.specs.Joined.{IsJoinedToEpochs}
use Rattle.machine_epochs.specs.ScanEnds.{advance_collects, scan_collects, collects}
use Rattle.machine_epochs.specs.Chunks.{IsOutsideChunk}
use Rattle.machine_epochs.proofs.OutsideAsked as asked
use Rattle.machine_epochs.proofs.Entrances as entrances
use Rattle.machine_epochs.proofs.CommitKinds.{row_else, row_only}
use Rattle.machine_epochs.proofs.Boards.{is_off_board}
use Rattle.machine_epochs.proofs.Joining.{but_load, but_entries, IsSameSections, section_same, thunk_same, Goes, GoesBy, next, as_published, once, board_kept, goes_with}

within_test : (a b : ℕ) (p p' : PartState) → a ≤ b → cond (nat_le a b) p p' ≡ p
within_test a b p p' h = grind (arith, nat_tests)

below_test : (a b : ℕ) (p p' : PartState) → a < b → cond (nat_lt a b) p p' ≡ p
below_test a b p p' h = grind (arith, nat_tests)

below_some : (a b x : ℕ) → a < b → cond (nat_lt a b) (Some x) None ≡ Some x
below_some a b x h = grind (arith, nat_tests)

collected_hand : (node : Bool) (r e i : ℕ) (p : Location) → p ≡ Hand i → collected node r e p ≡ Hand i
collected_hand node r e i p is = ap (collected node r e) is

collected_live : (node : Bool) (r e : ℕ) (p : Location) → p ≡ Live → collected node r e p ≡ Live
collected_live node r e p is = ap (collected node r e) is

collected_out : (node : Bool) (r e : ℕ) (p : Location) → is_out (collected node r e p) ≡ true → is_out p ≡ true
collected_out node r e (Limbo r' y) h = refl
collected_out node r e Fixed h = refl
collected_out node r e Live h = refl
collected_out node r e (Hand r') h = h
collected_out node r e (Free r') h = h
collected_out node r e (Worn r') h = h
collected_out node r e (OnBoard i) h = h

-- what a collect takes from limbo, and what it leaves there
old_same : (e : ℕ) (xs : List Retired) → old_slots e (map entry_of xs) ≡ lists.slots_of (filter (lists.is_old e) xs)
old_same e [] = refl
old_same e (x ∷ xs) = by_test (is_old x.epoch e) (filter (λ y. is_old y.epoch e) (map entry_of xs)) (filter (lists.is_old e) xs) (old_same e xs)
  where
    by_test : (b : Bool) (ys : List Entry) (zs : List Retired) → map (λ y. y.slot) ys ≡ lists.slots_of zs → map (λ y. y.slot) (cond b (entry_of x ∷ ys) ys) ≡ lists.slots_of (cond b (x ∷ zs) zs)
    by_test true ys zs h = ap (λ (ns : List ℕ). x.slot ∷ ns) h
    by_test false ys zs h = h

young_same : (e : ℕ) (xs : List Retired) → young e (map entry_of xs) ≡ map entry_of (filter (λ x. not (lists.is_old e x)) xs)
young_same e [] = refl
young_same e (x ∷ xs) = by_test (not (is_old x.epoch e)) (young e (map entry_of xs)) (filter (λ y. not (lists.is_old e y)) xs) (young_same e xs)
  where
    by_test : (b : Bool) (ys : List Entry) (zs : List Retired) → ys ≡ map entry_of zs → cond b (entry_of x ∷ ys) ys ≡ map entry_of (cond b (x ∷ zs) zs)
    by_test true ys zs h = ap (λ (ns : List Entry). entry_of x ∷ ns) h
    by_test false ys zs h = h

-- the lists after a collect
collect_same : (e : ℕ) (p : PartState) → collect_lists e (lists_of p) ≡ lists_of (outside.collected p e)
collect_same e p = λ i. record {
  hand = p.nodes.hand ++ old_same e p.nodes.limbo i;
  free = p.nodes.free;
  worn = p.nodes.worn;
  limbo = young_same e p.nodes.limbo i;
  free_descriptors = p.descriptors.free;
  limbo_descriptors = p.descriptors.limbo;
}

-- an exit leaves nothing that is held
row_none : (f : ℕ → ℕ → Bool) (r t : ℕ) → upd_row f r (λ u. false) r t ≡ false
row_none f r t = grind (arith, nat_tests)

-- where the guard word names nothing, the runner is sure of nothing
unsure : (g : GuardsState) (d : ℕ) → g.named ≡ None → is_sure_of g d ≡ false
unsure g d e = ap (λ (o : Option ℕ). g.sure && is_some_of o d) e ∙ no g.sure
  where
    no : (b : Bool) → (b && false) ≡ false
    no true = refl
    no false = refl

module _ (m : Meaning) (l : Layout) (w : EpochState) (s : Sight) (old : IsJoinedToEpochs m l w s) (r : ℕ) (none : (s.part r).run ≡ None) where
  abbrev p : PartState
  p = s.part r

  unretired : w.retire r ≡ no_retire
  unretired = (old.tied r).retire ∙ ap (retiring_of m) none

  -- what an event that changes entries leaves as it was
  record KeepsSlots (w' : EpochState) (f : Spot → ℕ) (p' : PartState) : Type 0 where
    holds : (i : ℕ) → i ≢ r → (t : ℕ) → w.holds i t ≡ true → w'.holds i t ≡ true
    hand : (i t : ℕ) → w.location t ≡ Hand i → w'.location t ≡ Hand i
    live : (t : ℕ) → w.location t ≡ Live → w'.location t ≡ Live
    out : (t : ℕ) → is_out (w'.location t) ≡ true → is_out (w.location t) ≡ true
    retire : (i : ℕ) → w'.retire i ≡ w.retire i
    role : (d k : ℕ) → w'.role d k ≡ w.role d k
    log : (d k : ℕ) → w'.log d k ≡ w.log d k
    stage : (i : ℕ) → i ≢ r → w'.stage i ≡ w.stage i
    same : IsSameSections f s.word
    board : (i : ℕ) → f (Board i) ≡ s.word (Board i)
    run : p'.run ≡ None
    published : p'.published ≡ p.published
    stored : p'.descriptors.stored ≡ p.descriptors.stored
    freed : (d : ℕ) → has p.descriptors.free d ≡ true → has p'.descriptors.free d ≡ true
    alone : (i : ℕ) → i ≢ r → (d : ℕ) → w'.holds i (slot_of (counts_of m l) d) ≡ true → w.holds i (slot_of (counts_of m l) d) ≡ true
    numbered : (d : ℕ) → p'.guards.named ≡ Some d → d < (counts_of m l).descriptors
    published_sure : (x : Published) → p.published ≡ Some x → is_sure_of p'.guards x.descriptor ≡ true
    sure : (d : ℕ) → is_sure_of p'.guards d ≡ true → w'.holds r (slot_of (counts_of m l) d) ≡ true
    sure_alone : (d : ℕ) → w'.holds r (slot_of (counts_of m l) d) ≡ true → is_sure_of p'.guards d ≡ true
    reached : (t : ℕ) → is_entered (w'.stage r) ≡ true → t < (counts_of m l).nodes → m.reaches p'.reads.walk t ≡ true → w'.holds r t ≡ true

  enters : (e : events.Event) → is_off_board (e ∷ []) ≡ true → (f : Spot → ℕ) (p' : PartState) → Enabled (counts_of m l) w e × ShowsEntries (after (counts_of m l) w e) (next m l w s old r f p')
      → ◌≡◌ {A = ℕ → Lists} (listed w (λ i. lists_of (s.part i)) e) (λ i. lists_of (upd s.part r p' i)) → KeepsSlots (after (counts_of m l) w e) f p' → Goes m l (e ∷ []) w (next m l w s old r f p')
  enters e off f p' goes lists k =
      goes_with m l w s old r (e ∷ []) (goes.0, tt) f p' lists goes.1
      (board_kept m l w s old r (e ∷ []) off (goes.0, tt) f p' k.board)
      (λ d i out. k.role d i ∙ (old.roles d i (k.out _ out) ∙ ap (λ (t : Thunk). role_at (m.body t) i) (sym (thunk_same f s.word d (k.same.thunk d)))))
      (once m l w s old r p' (as_published m l w s old r p' k.published))
      (record {
        run_held = λ q e'. absurd (none-some _ (sym k.run ∙ e'));
        run_opened = λ q j e' low low'. absurd (none-some _ (sym k.run ∙ e'));
        run_begins = λ q e' few. absurd (none-some _ (sym k.run ∙ e'));
        run_made = λ q t e' made. absurd (none-some _ (sym k.run ∙ e'));
        retire = k.retire r ∙ (unretired ∙ ap (retiring_of m) (sym k.run));
        published = λ x e'. k.live _ ((old.tied r).published x (sym k.published ∙ e'));
        run_sure = λ q e'. absurd (none-some _ (sym k.run ∙ e'));
        published_sure = λ x e'. k.published_sure x (sym k.published ∙ e');
        numbered = k.numbered;
        sure = k.sure;
        sure_alone = k.sure_alone;
        reached = k.reached;
        stored_free = λ d j n last. k.freed d ((old.tied r).stored_free d j n (before d j n last));
        stored = λ d j n free last. section_same f s.word k.same d j ∙ (old.tied r).stored d j n ((old.tied r).stored_free d j n (before d j n last)) (before d j n last);
      })
      (λ i ne. record {
        holds = k.holds i ne;
        alone = k.alone i ne;
        words = λ d j h. k.same.thunk d j;
        hand = k.hand i;
        retire = k.retire i;
        live = λ x e' h. k.live _ h;
        entered = λ h. ap is_entered (sym (k.stage i ne)) ∙ h;
        stored = λ d j h. section_same f s.word k.same d j;
      })
    where
      before : (d j n : ℕ) → last_stored p'.descriptors.stored d j None ≡ Some n → last_stored p.descriptors.stored d j None ≡ Some n
      before d j n last = ap (λ xs. last_stored xs d j None) (sym k.stored) ∙ last

  -- a runner at this stage isn't entered
  unentered : {B : Type 0} → (a : Stage) → is_entered a ≡ false → is_entered (upd w.stage r a r) ≡ true → B
  unentered a outside isin = absurd (let x = sym (ap is_entered (upd_here w.stage r a) ∙ outside) ∙ isin in cc)

  -- the state after a step of this kind on this word, with these records
  abbrev pub Leads : EventKind → RecordsState → Spot × Access → Type 0
  Leads kind records x = GoesBy m l (IsOutsideChunk m l r kind p (s.word x.0)) w (next m l w s old r (put s.word x.0 (written x.1 (s.word x.0))) (record (outside_after m l kind p (s.word x.0)) { records = records }))

  same_load : (a : Spot) → IsSameSections (put s.word a (s.word a)) s.word
  same_load a = but_entries _ _ (but_load s.word a)

  module _ (records : RecordsState) where
    pub enter_load : (x : Spot × Access) → enter_load_ask p.stage ≡ Some x → Leads kinds.EnterLoad records x
    enter_load x e =
        let h = asked.enter_load_asked p.stage x e in
        let p' : PartState = record p { stage = Loaded (s.word Epoch); records = records } in
        subst (Leads kinds.EnterLoad records) h.1 (
          _,
          refl,
          enters (events.EnterLoad r) refl _ p' (entrances.enter_load m l w s old.entries r p' h.0 refl) (sym (map_same lists_of s.part r p' refl)) (record {
            holds = λ i ne t h. h;
            hand = λ i t h. h;
            live = λ t h. h;
            out = λ t h. h;
            retire = λ i. refl;
            role = λ d k. refl;
            log = λ d k. refl;
            stage = λ i ne. upd_else w.stage r _ i ne;
            same = same_load Epoch;
            board = λ i. refl;
            run = none;
            published = refl;
            stored = refl;
            freed = λ d h. h;
            alone = λ i ne d h. h;
            numbered = (old.tied r).numbered;
            published_sure = (old.tied r).published_sure;
            sure = (old.tied r).sure;
            sure_alone = (old.tied r).sure_alone;
            reached = λ t isin. unentered (Loaded w.epoch) refl isin;
          }),
        )

    pub announce : (x : Spot × Access) → r ≤ l.runners → announce_ask r p.stage ≡ Some x → Leads kinds.Announce records x
    announce x some e =
        let h = asked.announce_asked r p.stage x e in
        let p' : PartState = record p { stage = Announced; records = records } in
        subst (Leads kinds.Announce records) h.2 (
          _,
          (h.0, h.1, refl),
          enters (events.Announce r h.0) refl _ p' (entrances.announce m l w s old.entries r p' h.0 some h.1 refl) (sym (map_same lists_of s.part r p' refl)) (record {
            holds = λ i ne t h. h;
            hand = λ i t h. h;
            live = λ t h. h;
            out = λ t h. h;
            retire = λ i. refl;
            role = λ d k. refl;
            log = λ d k. refl;
            stage = λ i ne. upd_else w.stage r _ i ne;
            same = record { thunk = λ d j. refl; done = λ d. refl; log = λ d k. refl; link = λ d. refl };
            board = λ i. refl;
            run = none;
            published = refl;
            stored = refl;
            freed = λ d h. h;
            alone = λ i ne d h. h;
            numbered = (old.tied r).numbered;
            published_sure = (old.tied r).published_sure;
            sure = (old.tied r).sure;
            sure_alone = (old.tied r).sure_alone;
            reached = λ t isin. unentered Announced refl isin;
          }),
        )

    pub enter_again : (x : Spot × Access) → ((t : ℕ) → m.reaches [] t ≡ false) → enter_again_ask p ≡ Some x → Leads kinds.EnterAgain records x
    enter_again x unread e =
        let h = asked.enter_again_asked p x e in
        let p' : PartState = record p { stage = Entered (s.word Epoch); guards = lists.with_looked p.guards []; reads = lists.no_reads; records = records } in
        subst (Leads kinds.EnterAgain records) h.1 (
          _,
          refl,
          enters (events.EnterAgain r) refl _ p' (entrances.enter_again m l w s old.entries r p' h.0 refl) (sym (map_same lists_of s.part r p' refl)) (record {
            holds = λ i ne t h. h;
            hand = λ i t h. h;
            live = λ t h. h;
            out = λ t h. h;
            retire = λ i. refl;
            role = λ d k. refl;
            log = λ d k. refl;
            stage = λ i ne. upd_else w.stage r _ i ne;
            same = same_load Epoch;
            board = λ i. refl;
            run = none;
            published = refl;
            stored = refl;
            freed = λ d h. h;
            alone = λ i ne d h. h;
            numbered = (old.tied r).numbered;
            published_sure = (old.tied r).published_sure;
            sure = (old.tied r).sure;
            sure_alone = (old.tied r).sure_alone;
            reached = λ t isin node is_there. absurd (let x = sym (unread t) ∙ is_there in cc);
          }),
        )

    pub exit : (x : Spot × Access) → idle_ask r p ≡ Some x → Leads kinds.Idle records x
    exit x e =
        let h = asked.idle_asked r p x e in
        let away = asked.idle_away r p x e in
        let p' : PartState = record p { stage = Idle; records = records } in
        subst (Leads kinds.Idle records) h.3 (
          _,
          refl,
          enters (events.Exit r) refl _ p' (entrances.exit m l w s old.entries r p' h.0 (ap (λ (y : Retiring). y.loaded) unretired) h.1 refl) (sym (map_same lists_of s.part r p' refl)) (record {
            holds = λ i ne t h. row_else w.holds r i t (λ u. false) ne h;
            hand = λ i t h. h;
            live = λ t h. h;
            out = λ t h. h;
            retire = λ i. refl;
            role = λ d k. refl;
            log = λ d k. refl;
            stage = λ i ne. upd_else w.stage r _ i ne;
            same = record { thunk = λ d j. refl; done = λ d. refl; log = λ d k. refl; link = λ d. refl };
            board = λ i. refl;
            run = none;
            published = refl;
            stored = refl;
            freed = λ d h. h;
            alone = λ i ne d h. row_only w.holds r i (slot_of (counts_of m l) d) (λ u. false) ne h;
            numbered = (old.tied r).numbered;
            published_sure = λ y e'. absurd (none-some _ (sym away.0 ∙ e'));
            sure = λ d is. absurd (let y = sym (unsure p.guards d away.1) ∙ is in cc);
            sure_alone = λ d h. absurd (let y = sym (row_none w.holds r (slot_of (counts_of m l) d)) ∙ h in cc);
            reached = λ t isin. unentered Idle refl isin;
          }),
        )

    pub scan_epoch : (x : Spot × Access) → enter_load_ask p.stage ≡ Some x → Leads kinds.ScanEpoch records x
    scan_epoch x e =
        let h = asked.enter_load_asked p.stage x e in
        let p' : PartState = record p { stage = Scanning (s.word Epoch) 0 true; records = records } in
        subst (Leads kinds.ScanEpoch records) h.1 (
          _,
          refl,
          enters (events.ScanEpoch r) refl _ p' (entrances.scan_epoch m l w s old.entries r p' h.0 refl) (sym (map_same lists_of s.part r p' refl)) (record {
            holds = λ i ne t h. h;
            hand = λ i t h. h;
            live = λ t h. h;
            out = λ t h. h;
            retire = λ i. refl;
            role = λ d k. refl;
            log = λ d k. refl;
            stage = λ i ne. upd_else w.stage r _ i ne;
            same = same_load Epoch;
            board = λ i. refl;
            run = none;
            published = refl;
            stored = refl;
            freed = λ d h. h;
            alone = λ i ne d h. h;
            numbered = (old.tied r).numbered;
            published_sure = (old.tied r).published_sure;
            sure = (old.tied r).sure;
            sure_alone = (old.tied r).sure_alone;
            reached = λ t isin. unentered (Scanning w.epoch 0 true) refl isin;
          }),
        )

    -- the end of a scan
    module _ (epoch : ℕ) where
      abbrev over : PartState
      over = record (outside.collected p epoch) { records = records }

      own_lists : ◌≡◌ {A = ℕ → Lists} (upd (λ i. lists_of (s.part i)) r (collect_lists epoch (lists_of p))) (λ i. lists_of (upd s.part r over i))
      own_lists = ap (λ (x : Lists). upd (λ i. lists_of (s.part i)) r x) (collect_same epoch p) ∙ sym (map_upd lists_of s.part r over)

      ends : (w' : EpochState) (f : Spot → ℕ) → IsSameSections f s.word → ((i : ℕ) → f (Board i) ≡ s.word (Board i)) → w' ≡ record w { epoch = w'.epoch; stage = upd w.stage r Idle; location = after_collect (counts_of m l) w.location r epoch } → KeepsSlots w' f over
      ends w' f same board is = subst (λ (v : EpochState). KeepsSlots v f over) (sym is) (record {
        holds = λ i ne t h. h;
        hand = λ i t h. collected_hand _ r epoch i (w.location t) h;
        live = λ t h. collected_live _ r epoch (w.location t) h;
        out = λ t h. collected_out _ r epoch (w.location t) h;
        retire = λ i. refl;
        role = λ d k. refl;
        log = λ d k. refl;
        stage = λ i ne. upd_else w.stage r _ i ne;
        same = same;
        board = board;
        run = none;
        published = refl;
        stored = refl;
        freed = λ d h. h;
        alone = λ i ne d h. h;
        numbered = (old.tied r).numbered;
        published_sure = (old.tied r).published_sure;
        sure = (old.tied r).sure;
        sure_alone = (old.tied r).sure_alone;
        reached = λ t isin. unentered Idle refl isin;
      })

    pub advance : (x : Spot × Access) → advance_ask l p.stage ≡ Some x → Leads kinds.Advance records x
    advance x e =
        let h = asked.advance_asked l p.stage x e in
        let collect : collects l kinds.Advance p.stage (s.word Epoch) ≡ Some (h.0 + 1) = ap advance_collects h.2 ∙ below_some h.0 last_epoch _ h.4 in
        subst (Leads kinds.Advance records) h.5 (
          _,
          (h.0, h.1, h.2, collect, refl),
          subst (λ (q : PartState). Goes m l (events.Advance r h.0 h.1 ∷ []) w (next m l w s old r (put s.word Epoch (exchanged (s.word Epoch) h.0 (h.0 + 1))) (record q { records = records })))
              (sym (ap (λ (q : Stage). outside.advance_after p q) h.2 ∙ below_test h.0 last_epoch _ p h.4))
              (enters (events.Advance r h.0 h.1) refl _ (over (h.0 + 1)) (entrances.advance m l w s old.entries r (over (h.0 + 1)) h.0 h.1 h.2 h.3 h.4 refl) (own_lists (h.0 + 1))
              (ends (h.0 + 1) (after (counts_of m l) w (events.Advance r h.0 h.1)) _ (record { thunk = λ d j. refl; done = λ d. refl; log = λ d k. refl; link = λ d. refl }) (λ i. refl) refl)),
        )

    module _ (x n : ℕ) (clear : Bool) (some : n ≤ l.runners) (was : p.stage ≡ Scanning x n clear) where
      abbrev still : Bool
      still = clear && is_clear x (s.word (Announcement n))

      abbrev Scans : PartState → Type 0
      Scans q = GoesBy m l (IsOutsideChunk m l r (kinds.ScanOne n) p (s.word (Announcement n))) w (next m l w s old r (put s.word (Announcement n) (s.word (Announcement n))) (record q { records = records }))

      collect : (b : Bool) → is_over l.runners x n still ≡ b → collects l (kinds.ScanOne n) p.stage (s.word (Announcement n)) ≡ cond b (Some x) None
      collect b is = ap (scan_collects l (s.word (Announcement n))) was ∙ ap (λ a. cond a (Some x) None) is

      scan_by : (b : Bool) → is_over l.runners x n still ≡ b → Scans (cond b (outside.collected p x) (outside.with_stage p (Scanning x (n + 1) still)))
      scan_by true is = (
        _,
        (x, clear, was, inr (collect true is, refl)),
        enters (events.ScanLast r x n clear) refl _ (over x) (entrances.scan_last m l w s old.entries r (over x) x n clear some was is refl) (own_lists x)
            (ends x (after (counts_of m l) w (events.ScanLast r x n clear)) _ (same_load (Announcement n)) (λ i. refl) refl),
      )
      scan_by false is =
          let p' : PartState = record p { stage = Scanning x (n + 1) still; records = records } in (
            _,
            (x, clear, was, inl (collect false is, refl)),
            enters (events.ScanOne r x n clear) refl _ p' (entrances.scan_one m l w s old.entries r p' x n clear some was is (ap (λ k. Scanning x k still) (add-one n))) (sym (map_same lists_of s.part r p' refl)) (record {
              holds = λ i ne t h. h;
              hand = λ i t h. h;
              live = λ t h. h;
              out = λ t h. h;
              retire = λ i. refl;
              role = λ d k. refl;
              log = λ d k. refl;
              stage = λ i ne. upd_else w.stage r _ i ne;
              same = same_load (Announcement n);
              board = λ i. refl;
              run = none;
              published = refl;
              stored = refl;
              freed = λ d h. h;
              alone = λ i ne d h. h;
              numbered = (old.tied r).numbered;
              published_sure = (old.tied r).published_sure;
              sure = (old.tied r).sure;
              sure_alone = (old.tied r).sure_alone;
              reached = λ t isin. unentered (Scanning x (suc n) (clear && is_clear x (w.announced n))) refl isin;
            }),
          )

      scans : Scans (outside.scan_one_after l p p.stage (s.word (Announcement n)))
      scans = subst Scans (sym (ap (λ (q : Stage). outside.scan_one_after l p q (s.word (Announcement n))) was ∙ within_test n l.runners _ p some))
          (scan_by (is_over l.runners x n still) refl)

    pub scan_one : (n : ℕ) (x : Spot × Access) → scan_one_ask l n p.stage ≡ Some x → Leads (kinds.ScanOne n) records x
    scan_one n x e = let h = asked.scan_one_asked l n p.stage x e in subst (Leads (kinds.ScanOne n) records) h.4 (scans h.0 n h.1 h.3 h.2)
