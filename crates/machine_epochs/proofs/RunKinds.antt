-- The kinds of step by which a run goes on and no slot and no log changes.
use Rattle.std.specs.Prelude.{cond, Bool, true, false, slice_index}
use Rattle.std.proofs.Common.{◌≡◌, ◌≢◌, ℕ, ◌+◌, ◌<◌, List, [], length, refl, sym, ap, ◌∙◌, subst, arith, Option, Some, None}
use Rattle.machine_states.specs.body_terms.specs.declared.micro.Micro.{Micro}
use Rattle.machine_states.specs.body_terms.specs.declared.micro.Micro.TheVariants as micros
use Rattle.machine_states.specs.body_terms.specs.Line.{micro_at}
use Rattle.machine_states.specs.body_terms.specs.Run.{settled, written_once}
use Rattle.machine_states.specs.table_words.specs.declared.layout.Layout.{Layout}
use Rattle.machine_states.specs.table_words.specs.declared.spot.Spot.{Spot}
use Rattle.machine_states.specs.table_words.specs.declared.spot.Spot.TheVariants.{Epoch, Announcement, Cell, Clock, Stamp, Reply, ThunkWord, Board}
use Rattle.machine_states.specs.table_words.specs.declared.access.Access.{Access}
use Rattle.machine_states.specs.table_words.specs.declared.access.Access.TheVariants.{Loads}
use Rattle.machine_states.specs.table_words.specs.Access.{written}
use Rattle.machine_states.specs.table_words.specs.Seen.{upd, put}
use Rattle.machine_states.specs.structure_laws.specs.Meaning.{Meaning}
use Rattle.machine_states.specs.runner_parts.specs.declared.event.EventKind.{EventKind}
use Rattle.machine_states.specs.runner_parts.specs.declared.event.EventKind.TheVariants as kinds
use Rattle.machine_states.specs.runner_parts.specs.State.{RunState, PartState, DescriptorsState, GuardsState, ReadsState, RecordsState}
use Rattle.machine_states.specs.runner_steps.specs.Sections.{thunk_of, is_open_run, line_of, next_of, setting_of}
use Rattle.machine_states.specs.runner_steps.specs.InRun.{load_cell_ask, exchange_cell_ask, nested_load_ask, nested_hold_ask, outcome_load_ask, clock_load_ask, stamp_exchange_ask, clock_raise_ask, reply_exchange_ask, stamp_after}
use Rattle.machine_states.specs.runner_steps.specs.Outside.{descriptor_spot, is_sure_of}
use Rattle.machine_states.specs.runner_parts.specs.Tests.{has, last_stored}
use Rattle.machine_states.specs.runner_parts.specs.Lists.{cell_read, learned}
use Rattle.machine_states.specs.runner_steps.specs.AfterInRun as runs
use Rattle.machine_states.specs.runner_steps.specs.After.{line_after}
use Rattle.machine_states.specs.epoch_core.specs.declared.location.Location.TheVariants.{Live, Hand}
use Rattle.machine_states.specs.epoch_core.specs.State.{EpochState, is_entered}
use Rattle.machine_states.specs.epoch_core.specs.Events.{slot_of}
use Rattle.machine_states.specs.epoch_core.specs.Events as events
use Rattle.machine_states.specs.epoch_core.specs.Schedules.{AllEnabled, after_all}
use Rattle.machine_states.specs.epoch_core.specs.History.{is_out}
use Rattle.machine_states.specs.epoch_core.specs.Lists.{Lists, listed_all}
use Rattle.machine_states.specs.Sight.{Sight}
use Rattle.machine_states.proofs.Steps.{some_same}
use Rattle.machine_states.proofs.Updates.{map_same}
use Rattle.machine_states.specs.body_terms.specs.declared.thunk.Thunk.{Thunk}
use Rattle.machine_epochs.specs.Entries.{counts_of}
use Rattle.machine_epochs.specs.Roles.{role_at}
use Rattle.machine_epochs.specs.Slots.{lists_of, retire_before, retiring_of}
use Rattle.machine_epochs.specs.Joined.{IsTied, IsJoinedToEpochs}
use Rattle.machine_epochs.specs.Chunks.{IsLineChunk}
use Rattle.machine_epochs.proofs.InsideAsked as asked
use Rattle.machine_epochs.proofs.RunPlaces.{is_of_end, next_in_line, open_run, goes_on_unretired, unretired_before}
use Rattle.machine_epochs.proofs.Boards.{is_off_board}
use Rattle.machine_epochs.proofs.LogSpots.{LeavesRest}
use Rattle.machine_epochs.proofs.Places.{apart, run_few}
use Rattle.machine_epochs.proofs.Joining.{IsSameBut, but_cell, but_clock, but_stamp, but_reply, descriptor_same, thunk_same, IsElsewhere, Goes, GoesBy, StaysAt, next, as_published, once, stages_stay, stays, board_kept, goes_with}

-- a step of a Retire
abbrev pub is_of_retire : Micro → Bool
is_of_retire (micros.EpochForRetire slot log) = true
is_of_retire (micros.RetireCommit slot log) = true
is_of_retire _ = false

pub no_epoch : (micro : Micro) → is_of_retire micro ≡ false → (s k : ℕ) → micro ≡ micros.EpochForRetire s k → ⊥
no_epoch micro h s k e = let x = ap is_of_retire e in cc

pub no_commit : (micro : Micro) → is_of_retire micro ≡ false → (s k : ℕ) → micro ≡ micros.RetireCommit s k → ⊥
no_commit micro h s k e = let x = ap is_of_retire e in cc

-- the part differs in its run, its node slots, the cells and lock words that it has read, and its records alone
pub record IsMoved (p' p : PartState) : Type 0 where
  pub stage : p'.stage ≡ p.stage
  pub published : p'.published ≡ p.published
  pub descriptors : p'.descriptors ≡ p.descriptors
  pub guards : p'.guards ≡ p.guards
  pub walk : p'.reads.walk ≡ p.reads.walk

-- the run goes on in the same section
pub record IsOn (q' q : RunState) : Type 0 where
  pub descriptor : q'.descriptor ≡ q.descriptor
  pub opened : q'.opened ≡ q.opened

pub moved_lists : (p' p : PartState) → IsMoved p' p → p'.nodes ≡ p.nodes → lists_of p' ≡ lists_of p
moved_lists p' p h nodes = λ i. lists_of (record p { nodes = nodes i; descriptors = h.descriptors i })

module _ (m : Meaning) (l : Layout) (w : EpochState) (s : Sight) (old : IsJoinedToEpochs m l w s) (r : ℕ) (q : RunState) (at : (s.part r).run ≡ Some q) (is_open : is_open_run q ≡ true) where
  abbrev pub p : PartState
  p = s.part r

  loaded : length q.opened ≡ 13
  loaded = open_run q is_open

  -- why what is tied to the part of a run stays where the run goes on
  pub record KeepsRun (w' : EpochState) (f : Spot → ℕ) (q' : RunState) (p' : PartState) : Type 0 where
    pub holds : (t : ℕ) → w.holds r t ≡ true → w'.holds r t ≡ true
    pub alone : (d : ℕ) → w'.holds r (slot_of (counts_of m l) d) ≡ true → w.holds r (slot_of (counts_of m l) d) ≡ true
    pub entered : is_entered (w'.stage r) ≡ true → is_entered (w.stage r) ≡ true
    pub live : (d : ℕ) → w.location (slot_of (counts_of m l) d) ≡ Live → w'.location (slot_of (counts_of m l) d) ≡ Live
    pub thunk : (d j : ℕ) → f (ThunkWord d j) ≡ s.word (ThunkWord d j)
    pub stored : (d j : ℕ) → has p.descriptors.free d ≡ true → f (descriptor_spot d j) ≡ s.word (descriptor_spot d j)
    pub on_run : IsOn q' q
    pub made : (t : ℕ) → q'.made ≡ Some t → w'.location t ≡ Hand r
    pub moved : IsMoved p' p
    pub here : p'.run ≡ Some q'
    pub retire : w'.retire r ≡ retiring_of m (Some q')

  pub run_tied : (w' : EpochState) (f : Spot → ℕ) (q' : RunState) (p' : PartState) → KeepsRun w' f q' p' → IsTied m l w' f r p'
  run_tied w' f q' p' k =
      let t = old.tied r in
      record {
        run_held = λ q2 e. let descriptor : q2.descriptor ≡ q.descriptor = ap (λ (a : RunState). a.descriptor) (is q2 e) ∙ k.on_run.descriptor in
            k.holds _ (ap (λ d. w.holds r (slot_of (counts_of m l) d)) descriptor ∙ t.run_held q at);
        run_opened = λ q2 j e low low'.
            let opened : q2.opened ≡ q.opened = ap (λ (a : RunState). a.opened) (is q2 e) ∙ k.on_run.opened in
            let descriptor : q2.descriptor ≡ q.descriptor = ap (λ (a : RunState). a.descriptor) (is q2 e) ∙ k.on_run.descriptor in
            ap (λ (xs : List ℕ). slice_index xs j) opened
            ∙ (t.run_opened q j at (subst (λ (xs : List ℕ). j < length xs) opened low) low' ∙ (sym (k.thunk q.descriptor j) ∙ ap (λ d. f (ThunkWord d j)) (sym descriptor)));
        run_begins = λ q2 e few.
            let all : length q2.opened ≡ 13 = ap (λ (a : RunState). length a.opened) (is q2 e) ∙ (ap (λ (xs : List ℕ). length xs) k.on_run.opened ∙ loaded) in absurd (omega arith);
        run_made = λ q2 u e is_made. k.made u (ap (λ (a : RunState). a.made) (sym (is q2 e)) ∙ is_made);
        retire = k.retire ∙ ap (retiring_of m) (sym k.here);
        published = λ x e. k.live x.descriptor (t.published x (sym k.moved.published ∙ e));
        run_sure = λ q2 e.
            let descriptor : q2.descriptor ≡ q.descriptor = ap (λ (a : RunState). a.descriptor) (is q2 e) ∙ k.on_run.descriptor in
            (λ i. is_sure_of (k.moved.guards i) (descriptor i)) ∙ t.run_sure q at;
        published_sure = λ x e. ap (λ (g : GuardsState). is_sure_of g x.descriptor) k.moved.guards ∙ t.published_sure x (sym k.moved.published ∙ e);
        sure = λ d e. k.holds _ (t.sure d (ap (λ (g : GuardsState). is_sure_of g d) (sym k.moved.guards) ∙ e));
        numbered = λ d e. t.numbered d (ap (λ (g : GuardsState). g.named) (sym k.moved.guards) ∙ e);
        sure_alone = λ d h. ap (λ (g : GuardsState). is_sure_of g d) k.moved.guards ∙ t.sure_alone d (k.alone d h);
        reached = λ u isin node there. k.holds u (t.reached u (k.entered isin) node (ap (λ (xs : List (ℕ × ℕ)). m.reaches xs u) (sym k.moved.walk) ∙ there));
        stored_free = λ d j n last. ap (λ (xs : DescriptorsState). has xs.free d) k.moved.descriptors ∙ t.stored_free d j n (ap (λ (xs : DescriptorsState). last_stored xs.stored d j None) (sym k.moved.descriptors) ∙ last);
        stored = λ d j n free last.
            let free' : has p.descriptors.free d ≡ true = ap (λ (xs : DescriptorsState). has xs.free d) (sym k.moved.descriptors) ∙ free in
            k.stored d j free' ∙ t.stored d j n free' (ap (λ (xs : DescriptorsState). last_stored xs.stored d j None) (sym k.moved.descriptors) ∙ last);
      }
    where
      is : (q2 : RunState) → p'.run ≡ Some q2 → q2 ≡ q'
      is q2 e = sym (some_same q' q2 (sym k.here ∙ e))

  -- what is the same in the component's state after an event of a run, and in the words
  pub record KeepsRest (w' : EpochState) (f : Spot → ℕ) : Type 0 where
    pub epoch : w'.epoch ≡ w.epoch
    pub announced : (i : ℕ) → w'.announced i ≡ w.announced i
    pub stage : (i : ℕ) → w'.stage i ≡ w.stage i
    pub role : (d k : ℕ) → w'.role d k ≡ w.role d k
    pub out : (d : ℕ) → is_out (w'.location (slot_of (counts_of m l) d)) ≡ true → is_out (w.location (slot_of (counts_of m l) d)) ≡ true
    pub seen_epoch : f Epoch ≡ s.word Epoch
    pub seen_announced : (i : ℕ) → f (Announcement i) ≡ s.word (Announcement i)
    pub seen_board : (i : ℕ) → f (Board i) ≡ s.word (Board i)

  -- a step of the run that is these events of the component
  pub run_goes : (es : List events.Event) → is_off_board es ≡ true → AllEnabled (counts_of m l) w es → (f : Spot → ℕ) (q' : RunState) (p' : PartState) → KeepsRun (after_all (counts_of m l) w es) f q' p'
      → KeepsRest (after_all (counts_of m l) w es) f → ((i : ℕ) → i ≢ r → IsElsewhere m l w (after_all (counts_of m l) w es) s.word f i (s.part i))
      → ◌≡◌ {A = ℕ → Lists} (listed_all (counts_of m l) w (λ i. lists_of (s.part i)) es) (λ i. lists_of (upd s.part r p' i))
      → Goes m l es w (next m l w s old r f p')
  run_goes es off ok f q' p' k rest others lists =
      goes_with m l w s old r es ok f p' lists
      (record {
        epoch = rest.epoch ∙ (old.entries.epoch ∙ sym rest.seen_epoch);
        announced = λ i. rest.announced i ∙ (old.entries.announced i ∙ sym (rest.seen_announced i));
        stage = λ i. rest.stage i ∙ stages_stay m l w s old r f p' k.moved.stage i;
      })
      (board_kept m l w s old r es off ok f p' rest.seen_board)
      (λ d j out. rest.role d j ∙ (old.roles d j (rest.out d out) ∙ ap (λ (t : Thunk). role_at (m.body t) j) (sym (thunk_same f s.word d (k.thunk d)))))
      (once m l w s old r p' (as_published m l w s old r p' k.moved.published)) (run_tied (after_all (counts_of m l) w es) f q' p' k) others

  -- a step by which a run stays where it stands: it links a block
  module _ (links : List ℕ) (block : Option ℕ) (emptied : ℕ) (won : List ℕ) where
    abbrev linking : RunState
    linking = record q { links = links; block = block; emptied = emptied; won = won }

    same_retire : (micro : Micro) → retire_before q micro ≡ retire_before linking micro
    same_retire (micros.RetireCommit slot log) = refl
    same_retire _ = refl

  pub stands : (a : Spot) (v : ℕ) → LeavesRest s.word a v q.descriptor → (links : List ℕ) (block : Option ℕ) (emptied : ℕ) (won : List ℕ) (records : RecordsState)
      → StaysAt m l w (next m l w s old r (put s.word a v) (record p { run = Some (linking links block emptied won); records = records }))
  stands a v rest links block emptied won records =
      let q' = linking links block emptied won in
      let p' : PartState = record p { run = Some q'; records = records } in
      let held = (old.tied r).run_held q at in
      let few = run_few m l w s old r q at in (
        [],
        refl,
        run_goes [] refl tt (put s.word a v) q' p'
            (record {
              holds = λ t h. h;
              alone = λ d h. h;
              entered = λ h. h;
              live = λ d h. h;
              thunk = rest.thunk;
              stored = λ d j free. rest.elsewhere d j (apart m l w s old r r q.descriptor d held few free);
              on_run = record { descriptor = refl; opened = refl };
              made = λ t e. (old.tied r).run_made q t at e;
              moved = record { stage = refl; published = refl; descriptors = refl; guards = refl; walk = refl };
              here = refl;
              retire = (old.tied r).retire ∙ (ap (retiring_of m) at ∙ same_retire links block emptied won (micro_at (line_of m q) q.at));
            })
            (record {
              epoch = refl;
              announced = λ i. refl;
              stage = λ i. refl;
              role = λ i j. refl;
              out = λ i h. h;
              seen_epoch = rest.epoch;
              seen_announced = rest.announced;
              seen_board = rest.board;
            })
            (λ i ne. record {
              holds = λ t h. h;
              alone = λ d h. h;
              words = λ d j h. rest.thunk d j;
              hand = λ t h. h;
              retire = refl;
              live = λ x here h. h;
              entered = λ h. h;
              stored = λ d j free. rest.elsewhere d j (apart m l w s old r i q.descriptor d held few free);
            })
            (sym (map_same lists_of s.part r p' refl)),
      )

  module _ (micro : Micro) (ahead : next_of m q ≡ micro) (inner : is_of_end micro ≡ false) (other : is_of_retire micro ≡ false) where
    here : micro_at (line_of m q) q.at ≡ micro
    here = next_in_line m q micro inner ahead

    -- the run was at no Retire, and isn't at one now
    pub still : (q' : RunState) → IsOn q' q → (trail : List ℕ) → q'.at ≡ settled (setting_of l q.descriptor) trail (line_of m q) (q.at + 1) → w.retire r ≡ retiring_of m (Some q')
    still q' on' trail rests =
        (old.tied r).retire ∙ (ap (retiring_of m) at ∙ (unretired_before m q micro (no_commit micro other) here
        ∙ sym (goes_on_unretired m l q micro here (no_epoch micro other) q' on'.opened trail rests)))

    -- a step of the run that is no event of the component
    pub goes_on : (f : Spot → ℕ) → IsSameBut f s.word → (q' : RunState) → IsOn q' q → q'.made ≡ q.made → (trail : List ℕ)
        → q'.at ≡ settled (setting_of l q.descriptor) trail (line_of m q) (q.at + 1) → (p' : PartState) → IsMoved p' p → p'.nodes ≡ p.nodes → p'.run ≡ Some q' → StaysAt m l w (next m l w s old r f p')
    goes_on f same q' on' made trail rests p' moved nodes here' =
        stays m l w s old r f p' same moved.stage (moved_lists p' p moved nodes) (as_published m l w s old r p' moved.published)
        (run_tied w f q' p' (record {
          holds = λ t h. h;
          alone = λ d h. h;
          entered = λ h. h;
          live = λ d h. h;
          thunk = same.thunk;
          stored = λ d j h. descriptor_same f s.word same d j;
          on_run = on';
          made = λ t e. (old.tied r).run_made q t at (sym made ∙ e);
          moved = moved;
          here = here';
          retire = still q' on' trail rests;
        }))

    -- a step that leaves the run with a number to go by, and the runner with these cells read
    pub steps : (f : Spot → ℕ) → IsSameBut f s.word → (word : ℕ) (reads : ReadsState) (records : RecordsState) → reads.walk ≡ p.reads.walk
        → StaysAt m l w (next m l w s old r f (record p { run = Some (runs.goes_on m l q word); reads = reads; records = records }))
    steps f same word reads records walk = goes_on f same (runs.goes_on m l q word) (record { descriptor = refl; opened = refl }) refl q.trail refl _
        (record { stage = refl; published = refl; descriptors = refl; guards = refl; walk = walk }) refl refl

  -- the part where the stamp was made, which found this word
  abbrev stamped : ℕ → PartState
  stamped found = let stamp = written_once found (stamp_after q.word) in
      record p { run = Some (runs.goes_on m l q stamp); records = learned p.records (thunk_of q.opened).request false stamp }

  -- the state after a step of this run on this word, with these records
  abbrev pub Leads : EventKind → RecordsState → Micro → Spot × Access → Type 0
  Leads kind records micro x = GoesBy m l (IsLineChunk m l r kind p q micro (s.word x.0)) w (next m l w s old r (put s.word x.0 (written x.1 (s.word x.0))) (record (line_after m l kind p q micro (s.word x.0)) { records = records }))

  module _ (kind : EventKind) (records : RecordsState) (micro : Micro) (x : Spot × Access) where
    -- the step in hand, for the one that the run asks
    pub for_step : (μ : Micro) (y : Spot × Access) → micro ≡ μ → y ≡ x → Leads kind records μ y → Leads kind records micro x
    for_step μ y e h goes = subst (Leads kind records micro) h (subst (λ (a : Micro). Leads kind records a y) (sym e) goes)

  module _ (records : RecordsState) (micro : Micro) (ahead : next_of m q ≡ micro) (x : Spot × Access) where
    pub load_cell : load_cell_ask q micro ≡ Some x → Leads (kinds.LoadCell None) records micro x
    load_cell e = let h = asked.load_cell_asked q x micro e in
        for_step (kinds.LoadCell None) records micro x (micros.LoadCell h.place h.step.0) (Cell h.place, h.access) h.step.1 h.is
        (steps _ (ahead ∙ h.step.1) refl refl _ (but_cell s.word h.place _) _ (cell_read p.reads h.place _) records refl)

    pub exchange_cell : exchange_cell_ask l q micro ≡ Some x → Leads kinds.ExchangeCell records micro x
    exchange_cell e = let h = asked.exchange_cell_asked q x l micro e in
        for_step kinds.ExchangeCell records micro x (micros.ExchangeCell h.place h.step.0 h.step.1) (Cell h.place, h.access) h.step.2 h.is
        (steps _ (ahead ∙ h.step.2) refl refl _ (but_cell s.word h.place _) _ (cell_read p.reads h.place _) records refl)

    pub nested_load : nested_load_ask q micro ≡ Some x → Leads kinds.NestedLoad records micro x
    nested_load e = let h = asked.nested_load_asked q x micro e in
        for_step kinds.NestedLoad records micro x (micros.NestedLoad h.place h.step.0) (Cell h.place, h.access) h.step.1 h.is
        (steps _ (ahead ∙ h.step.1) refl refl _ (but_cell s.word h.place _) _ (cell_read p.reads h.place _) records refl)

    pub nested_hold : nested_hold_ask l q micro ≡ Some x → Leads kinds.NestedHold records micro x
    nested_hold e = let h = asked.nested_hold_asked q x l micro e in
        for_step kinds.NestedHold records micro x (micros.NestedHold h.place h.step.0) (Cell h.place, h.access) h.step.1 h.is
        (steps _ (ahead ∙ h.step.1) refl refl _ (but_cell s.word h.place _) _ (cell_read p.reads h.place _) records refl)

    pub outcome_load : outcome_load_ask q micro ≡ Some x → Leads kinds.OutcomeLoad records micro x
    outcome_load e = let h = asked.outcome_load_asked q x micro e in
        for_step kinds.OutcomeLoad records micro x (micros.OutcomeLoad h.place h.step.0) (Cell h.place, h.access) h.step.1 h.is
        (steps _ (ahead ∙ h.step.1) refl refl _ (but_cell s.word h.place _) _ (cell_read p.reads h.place _) records refl)

    pub clock_load : clock_load_ask q micro ≡ Some x → Leads kinds.ClockLoad records micro x
    clock_load e = let h = asked.clock_load_asked q x micro e in
        for_step kinds.ClockLoad records micro x micros.ClockLoad (Clock, Loads) h.0 h.1 (steps _ (ahead ∙ h.0) refl refl _ (but_clock s.word _) _ p.reads records refl)

    pub clock_raise : clock_raise_ask q micro ≡ Some x → Leads kinds.ClockRaise records micro x
    clock_raise e = let h = asked.clock_raise_asked q x micro e in
        for_step kinds.ClockRaise records micro x micros.ClockRaise (Clock, h.1) h.0 h.2 (steps _ (ahead ∙ h.0) refl refl _ (but_clock s.word _) _ p.reads records refl)

    pub reply_exchange : reply_exchange_ask q micro ≡ Some x → Leads kinds.ReplyExchange records micro x
    reply_exchange e = let h = asked.reply_exchange_asked q x micro e in
        for_step kinds.ReplyExchange records micro x (micros.ReplyExchange h.0) (Reply (thunk_of q.opened).request, h.2) h.1 h.3 (steps _ (ahead ∙ h.1) refl refl _ (but_reply s.word _ _) _ p.reads records refl)

    pub stamp_exchange : stamp_exchange_ask q micro ≡ Some x → Leads kinds.StampExchange records micro x
    stamp_exchange e = let h = asked.stamp_exchange_asked q x micro e in
        let spot = Stamp (thunk_of q.opened).request in
        for_step kinds.StampExchange records micro x micros.StampExchange (spot, h.2) h.0 h.3
        (subst (λ b. StaysAt m l w (next m l w s old r (put s.word spot (written h.2 (s.word spot))) (record (cond b (stamped (s.word spot)) p) { records = records }))) (sym h.1)
        (steps _ (ahead ∙ h.0) refl refl _ (but_stamp s.word _ _) _ p.reads records refl))
