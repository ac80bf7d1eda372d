-- Every kind of step keeps the join.
use Rattle.std.specs.Prelude.{cond, Bool, true, false}
use Rattle.std.proofs.Common.{◌≡◌, ◌≢◌, ℕ, ◌<◌, ◌≤◌, List, [], refl, sym, ap, ◌∙◌, subst, arith, Option, Some, None}
use Rattle.machine_states.specs.map_history.specs.declared.op.Request.{Request}
use Rattle.machine_states.specs.table_words.specs.declared.layout.Layout.{Layout}
use Rattle.machine_states.specs.table_words.specs.declared.spot.Spot.{Spot}
use Rattle.machine_states.specs.table_words.specs.declared.spot.Spot.TheVariants.{Seat}
use Rattle.machine_states.specs.table_words.specs.declared.access.Access.{Access}
use Rattle.machine_states.specs.table_words.specs.declared.access.Access.TheVariants.{Loads}
use Rattle.machine_states.specs.table_words.specs.Access.{written}
use Rattle.machine_states.specs.table_words.specs.Places.{Fits}
use Rattle.machine_states.specs.table_words.specs.Seen.{upd, put}
use Rattle.machine_states.specs.structure_laws.specs.Meaning.{Meaning}
use Rattle.machine_states.specs.runner_parts.specs.declared.entries.BoardRead.{BoardRead}
use Rattle.machine_states.specs.runner_parts.specs.declared.event.EventKind.{EventKind}
use Rattle.machine_states.specs.runner_parts.specs.declared.event.EventKind.TheVariants as kinds
use Rattle.machine_states.specs.runner_parts.specs.State.{RunState, BlocksState, PartState, RecordsState}
use Rattle.machine_states.specs.runner_steps.specs.Sections.{is_open_run, next_of}
use Rattle.machine_states.specs.runner_steps.specs.AfterInRun.{opened_more}
use Rattle.machine_states.specs.runner_steps.specs.Asks.{outside_ask, line_ask, opening_ask, inside_ask, ask_by, asks, sizes_for}
use Rattle.machine_states.specs.runner_steps.specs.After.{outside_after, line_after, inside_after, after_by, after}
use Rattle.machine_states.specs.runner_steps.specs.After.{noted, leaves, knows_also}
use Rattle.machine_states.specs.runner_steps.specs.Blocks.{blocks_after}
use Rattle.machine_states.specs.runner_steps.specs.Board.{board_after}
use Rattle.machine_states.specs.epoch_core.specs.State.{EpochState, MayHold}
use Rattle.machine_states.specs.epoch_core.specs.Events.{Event}
use Rattle.machine_states.specs.epoch_core.specs.Schedules.{after_all}
use Rattle.machine_states.specs.World.{is_join}
use Rattle.machine_states.specs.Sight.{Sight, sight_after, Steps}
use Rattle.machine_states.proofs.Sights.{if_some, some_none, cond_none, unless_gone, joins}
use Rattle.machine_states.proofs.Updates.{upd_else}
use Rattle.machine_epochs.specs.Entries.{counts_of}
use Rattle.machine_epochs.specs.Slots.{lists_of}
use Rattle.machine_epochs.specs.Joined.{IsTied, IsJoinedToEpochs}
use Rattle.machine_epochs.specs.Chunks.{IsOutsideChunk, IsLineChunk, IsInsideChunk, IsChunk}
use Rattle.machine_epochs.specs.Supplied.{comes_by, EpochsAreSupplied}
use Rattle.machine_epochs.proofs.Joining.{copied, joined_on, but_load, descriptor_same, still_tied, GoesBy, StaysAt, next, as_published, stays_joined}
use Rattle.machine_epochs.proofs.EntryKinds as entry
use Rattle.machine_epochs.proofs.OutsideKinds as outside
use Rattle.machine_epochs.proofs.StoreKinds as stores
use Rattle.machine_epochs.proofs.SectionKinds as sections
use Rattle.machine_epochs.proofs.RunKinds as runs
use Rattle.machine_epochs.proofs.CommitKinds as commits
use Rattle.machine_epochs.proofs.SlotKinds as slots
use Rattle.machine_epochs.proofs.RetireKinds as retires
use Rattle.machine_epochs.proofs.EndKinds as ends
use Rattle.machine_epochs.proofs.GuardKinds as guarding
use Rattle.machine_epochs.proofs.BoardKinds as board

module _ (m : Meaning) (l : Layout) (rs : List Request) (w : EpochState) (s : Sight) (old : IsJoinedToEpochs m l w s) (r : ℕ) (some : r ≤ l.runners) (x : Spot × Access) (fits : Fits (sizes_for m l rs) x.0) where
  abbrev p : PartState
  p = s.part r

  abbrev found : ℕ
  found = s.word x.0

  abbrev f : Spot → ℕ
  f = put s.word x.0 (written x.1 found)

  -- the runner's records after a step of this kind that led to this part
  abbrev records_of : EventKind → PartState → RecordsState
  records_of kind p' = noted l r kind x.0 x.1 found p'.records

  -- events of which this holds lead to a joined state, if a step of this kind leads to this part
  abbrev To : (List Event → Type 0) → EventKind → PartState → Type 0
  To P kind p' = GoesBy m l P w (next m l w s old r f (record p' { records = records_of kind p' }))

  -- whatever its blocks and its loads of the board are then
  with_board : (P : List Event → Type 0) (kind : EventKind) (p' : PartState) (blocks : BlocksState) (loads : List BoardRead) → To P kind p'
      → GoesBy m l P w (next m l w s old r f (record p' { blocks = blocks; board = loads; records = records_of kind p' }))
  with_board P kind p' blocks loads goes = (
    goes.0,
    goes.1,
    record {
      enabled = goes.2.enabled;
      joined = joined_on m l (after_all (counts_of m l) w goes.0) f s.part r (record p' { records = records_of kind p' }) blocks loads goes.2.joined;
    },
  )

  not_join : (kind : EventKind) → is_join kind ≡ false → sight_after m l s r kind x ≡ next m l w s old r f (after m l r kind x.0 x.1 p found)
  not_join (kinds.Join worker) e = absurd (let y = e in cc)
  not_join _ e = refl

  module _ (kind : EventKind) (supplied : EpochsAreSupplied m l w s r kind x.0) where
    -- what the runner comes to hold, in a run or outside
    may_by : (o : Option RunState) → p.run ≡ o → (t : ℕ) → comes_by m (counts_of m l) kind p o found t ≡ true → w.holds r t ≡ false → MayHold w r t
    may_by o at t e new = supplied.held t (ap (λ (a : Option RunState). comes_by m (counts_of m l) kind p a found t) at ∙ e) new

  -- the steps of a run
  module _ (q : RunState) (at : p.run ≡ Some q) where
    module _ (is_open : is_open_run q ≡ true) where
      line_goes : (kind : EventKind) → EpochsAreSupplied m l w s r kind x.0 → line_ask m l kind p.nodes.free p.blocks.free q (next_of m q) ≡ Some x
          → To (IsLineChunk m l r kind p q (next_of m q) found) kind (line_after m l kind p q (next_of m q) found)
      line_goes kinds.Commit u e = commits.commit m l w s old r q at is_open _ (next_of m q) refl x e
      line_goes (kinds.LoadCell None) u e = runs.load_cell m l w s old r q at is_open _ (next_of m q) refl x e
      line_goes kinds.ExchangeCell u e = runs.exchange_cell m l w s old r q at is_open _ (next_of m q) refl x e
      line_goes (kinds.PrivateLoad slot word) u e = slots.fill_load m l w s old r q at is_open _ (next_of m q) refl x slot word e
      line_goes (kinds.PrivateStore slot word number) u e = slots.run_store m l w s old r q at is_open _ (next_of m q) refl x slot word number p.blocks.free e
      line_goes (kinds.LinkCommit b) u e = slots.link_commit m l w s old r q at is_open _ (next_of m q) refl x b e
      line_goes kinds.MakeCommit u e = slots.make_commit m l w s old r q at is_open _ (next_of m q) refl x (λ k. u.logged q k at is_open) e
      line_goes kinds.RetireCommit u e = retires.retire_commit m l w s old r q at is_open _ (next_of m q) refl x (λ k. u.logged q k at is_open) e
      line_goes kinds.EpochForRetire u e = retires.epoch_for_retire m l w s old r q at is_open _ (next_of m q) refl x (λ slot k is. u.retires q slot k at is_open is) e
      line_goes kinds.SetDone u e = ends.set_done m l w s old r q at is_open _ (next_of m q) refl x rs fits e
      line_goes kinds.Release u e = ends.release m l w s old r q at is_open _ (next_of m q) refl x e
      line_goes kinds.ClockLoad u e = runs.clock_load m l w s old r q at is_open _ (next_of m q) refl x e
      line_goes kinds.StampExchange u e = runs.stamp_exchange m l w s old r q at is_open _ (next_of m q) refl x e
      line_goes kinds.ClockRaise u e = runs.clock_raise m l w s old r q at is_open _ (next_of m q) refl x e
      line_goes kinds.ReplyExchange u e = runs.reply_exchange m l w s old r q at is_open _ (next_of m q) refl x e
      line_goes kinds.NestedLoad u e = runs.nested_load m l w s old r q at is_open _ (next_of m q) refl x e
      line_goes kinds.NestedHold u e = runs.nested_hold m l w s old r q at is_open _ (next_of m q) refl x e
      line_goes kinds.OutcomeLoad u e = runs.outcome_load m l w s old r q at is_open _ (next_of m q) refl x e
      line_goes kinds.OutcomeCommit u e = commits.outcome_commit m l w s old r q at is_open _ (next_of m q) refl x e
      line_goes _ u e = some_none x e

    opening_goes : (kind : EventKind) → opening_ask kind q ≡ Some x → To (λ es. es ≡ []) kind (opened_more p q found)
    opening_goes (kinds.LoadThunk None) e = ends.load_thunk m l w s old r q at _ x e
    opening_goes kinds.LoadDone e = ends.load_done m l w s old r q at _ x e
    opening_goes _ e = some_none x e

    inside_by : (kind : EventKind) (b : Bool) → is_open_run q ≡ b → EpochsAreSupplied m l w s r kind x.0 → cond b (line_ask m l kind p.nodes.free p.blocks.free q (next_of m q)) (opening_ask kind q) ≡ Some x
        → To (IsInsideChunk m l r b kind p q found) kind (cond b (line_after m l kind p q (next_of m q) found) (opened_more p q found))
    inside_by kind true is u e = line_goes is kind u e
    inside_by kind false is u e = opening_goes kind e

    inside_goes : (kind : EventKind) → EpochsAreSupplied m l w s r kind x.0 → inside_ask m l kind p.nodes.free p.blocks.free q ≡ Some x
        → To (IsInsideChunk m l r (is_open_run q) kind p q found) kind (inside_after m l kind p q found)
    inside_goes kind u e = inside_by kind (is_open_run q) refl u e

  -- the steps of a runner in no run
  module _ (none : p.run ≡ None) where
    outside_goes : (kind : EventKind) → is_join kind ≡ false → EpochsAreSupplied m l w s r kind x.0 → outside_ask m l rs r kind p ≡ Some x
        → To (IsOutsideChunk m l r kind p found) kind (outside_after m l kind p found)
    outside_goes kinds.EnterLoad j u e = entry.enter_load m l w s old r none _ x e
    outside_goes kinds.Announce j u e = entry.announce m l w s old r none _ x some e
    outside_goes kinds.EnterAgain j u e = entry.enter_again m l w s old r none _ x u.unread e
    outside_goes kinds.Idle j u e = entry.exit m l w s old r none _ x e
    outside_goes kinds.ScanEpoch j u e = entry.scan_epoch m l w s old r none _ x e
    outside_goes (kinds.ScanOne n) j u e = entry.scan_one m l w s old r none _ n x e
    outside_goes kinds.Advance j u e = entry.advance m l w s old r none _ x e
    outside_goes kinds.Split j u e = outside.split m l w s old r none _ x e
    outside_goes (kinds.Join worker) j u e = absurd (let y = j in cc)
    outside_goes (kinds.LoadCell (Some place)) j u e = outside.load_cell m l w s old r none _ place x (λ t. may_by (kinds.LoadCell (Some place)) u None none t) e
    outside_goes (kinds.LoadEntry request reply) j u e = outside.load_entry m l w s old r none _ request reply x e
    outside_goes (kinds.PrivateLoad slot word) j u e = stores.private_load m l w s old r none rs _ slot word x fits e
    outside_goes (kinds.PrivateStore slot word number) j u e = stores.private_store m l w s old r none rs _ slot word number x fits e
    outside_goes (kinds.Hold thunk d) j u e = sections.hold m l w s old r none _ x rs thunk d e
    outside_goes (kinds.LoadThunk (Some d)) j u e = outside.load_thunk m l w s old r none _ d x e
    outside_goes (kinds.ReadPlan thunk) j u e = outside.read_plan m l w s old r none _ thunk x e
    outside_goes kinds.ReadClock j u e = outside.read_clock m l w s old r none _ x e
    outside_goes kinds.ReadReply j u e = outside.read_reply m l w s old r none rs _ x e
    outside_goes kinds.ReadStamp j u e = outside.read_stamp m l w s old r none _ x e
    outside_goes (kinds.Guard d) j u e = guarding.guard m l w s old r none _ d x e
    outside_goes (kinds.LoadGuard n) j u e = guarding.load_guard m l w s old r none _ n x (λ d q. u.swept n d q refl) e
    outside_goes (kinds.BoardLoad word) j u e = board.board_load m l w s old r none _ word x e
    outside_goes (kinds.BoardTake word link) j u e = board.board_take m l w s old r none _ word link x u.small e
    outside_goes (kinds.BoardGive word slot) j u e = board.board_give m l w s old r none _ word slot x e
    outside_goes _ j u e = some_none x e

-- a join changes the keeper's records, and the worker makes no further step
module _ (m : Meaning) (l : Layout) (w : EpochState) (s : Sight) (old : IsJoinedToEpochs m l w s) (r worker : ℕ) (other : worker ≢ r) (records : RecordsState) where
  abbrev seat : Spot → ℕ
  seat = put s.word Seat (s.word Seat)

  abbrev keeper : PartState
  keeper = record (s.part r) { records = records }

  abbrev kept : Sight
  kept = next m l w s old r seat keeper

  keeper_tied : IsTied m l w seat r keeper
  keeper_tied = copied m l w seat r (s.part r) (s.part r).nodes records (s.part r).gone (still_tied m l w w s.word seat r (s.part r) (record {
    holds = λ t h. h;
    alone = λ d h. h;
    words = λ d j h. refl;
    hand = λ t h. h;
    retire = refl;
    live = λ x e h. h;
    entered = λ h. h;
    stored = λ d j h. descriptor_same seat s.word (but_load s.word Seat) d j;
  }) (old.tied r))

  keeper_joined : IsJoinedToEpochs m l w kept
  keeper_joined = stays_joined m l w s old r seat keeper (but_load s.word Seat) refl refl (as_published m l w s old r keeper refl) keeper_tied

  worker_is : kept.part worker ≡ s.part worker
  worker_is = upd_else s.part r keeper worker other

  worker_tied : IsTied m l w seat worker (leaves (s.part worker))
  worker_tied = copied m l w seat worker (s.part worker) (s.part worker).nodes (s.part worker).records true (subst (IsTied m l w seat worker) worker_is (keeper_joined.tied worker))

  join_goes : StaysAt m l w (record { word = seat; part = upd (upd s.part r keeper) worker (leaves (s.part worker)) })
  join_goes = (
    [],
    refl,
    record {
      enabled = tt;
      joined = stays_joined m l w kept keeper_joined worker seat (leaves (s.part worker)) (record { epoch = refl; announced = λ i. refl; thunk = λ d j. refl; done = λ d. refl; log = λ d k. refl; link = λ d. refl; board = λ i. refl })
          (ap (λ (q : PartState). q.stage) (sym worker_is)) (ap lists_of (sym worker_is))
          (as_published m l w kept keeper_joined worker (leaves (s.part worker)) (ap (λ (q : PartState). q.published) (sym worker_is))) worker_tied;
    },
  )

below_other : (a b c : ℕ) → a < b → c ≡ b → a ≢ c
below_other a b c h e e' = omega arith

module _ (m : Meaning) (l : Layout) (rs : List Request) (w : EpochState) (s : Sight) (old : IsJoinedToEpochs m l w s) (r : ℕ) (x : Spot × Access) where
  -- the keeper joins a worker
  joins_worker : (worker : ℕ) → asks m l rs r (kinds.Join worker) (s.part r) ≡ Some x
      → GoesBy m l (IsChunk m l r (kinds.Join worker) (s.part r) (s.part r).run (s.word x.0)) w (sight_after m l s r (kinds.Join worker) x)
  joins_worker worker e =
      let is_his = joins m l rs (kinds.Join worker) r (s.part r) x e in
      let asked = by_run (s.part r).run refl (unless_gone (sizes_for m l rs) (s.part r).gone _ x e).1 in
      let other : worker ≢ r = below_other worker l.runners r is_his.1 is_his.0 in
      subst (λ (y : Spot × Access). GoesBy m l (IsChunk m l r (kinds.Join worker) (s.part r) (s.part r).run (s.word y.0)) w (sight_after m l s r (kinds.Join worker) y)) asked.1
      (subst (λ (o : Option RunState). GoesBy m l (IsChunk m l r (kinds.Join worker) (s.part r) o (s.word Seat)) w (record { word = put s.word Seat (s.word Seat); part = upd (upd s.part r (knows_also (record (after_by m l (kinds.Join worker) (s.part r) o (s.word Seat)) { blocks = blocks_after m l (kinds.Join worker) (s.part r) o (s.word Seat); board = (s.part r).board; records = noted l r (kinds.Join worker) Seat Loads (s.word Seat) (after_by m l (kinds.Join worker) (s.part r) o (s.word Seat)).records }) (s.part worker))) worker (leaves (s.part worker)) }))
      (sym asked.0) (join_goes m l w s old r worker other _))
    where
      by_run : (o : Option RunState) → (s.part r).run ≡ o → ask_by m l rs r (kinds.Join worker) (s.part r) o ≡ Some x → ((s.part r).run ≡ None) × ((Seat, Loads) ≡ x)
      by_run None at e = (at, (if_some _ _ x e).1)
      by_run (Some q) at e = cond_none (is_open_run q) x e

  module _ (some : r ≤ l.runners) (fits : Fits (sizes_for m l rs) x.0) where
    -- a step of another kind, in a run or outside
    plain_goes : (kind : EventKind) (o : Option RunState) → (s.part r).run ≡ o → is_join kind ≡ false → EpochsAreSupplied m l w s r kind x.0 → ask_by m l rs r kind (s.part r) o ≡ Some x
        → To m l rs w s old r some x fits (IsChunk m l r kind (s.part r) o (s.word x.0)) kind (after_by m l kind (s.part r) o (s.word x.0))
    plain_goes kind None at j u e = outside_goes m l rs w s old r some x fits at kind j u e
    plain_goes kind (Some q) at j u e = inside_goes m l rs w s old r some x fits q at kind u e

    plain_step : (kind : EventKind) → is_join kind ≡ false → EpochsAreSupplied m l w s r kind x.0 → asks m l rs r kind (s.part r) ≡ Some x
        → GoesBy m l (IsChunk m l r kind (s.part r) (s.part r).run (s.word x.0)) w (sight_after m l s r kind x)
    plain_step kind j u e =
        subst (GoesBy m l (IsChunk m l r kind (s.part r) (s.part r).run (s.word x.0)) w) (sym (not_join m l rs w s old r some x fits kind j))
        (with_board m l rs w s old r some x fits (IsChunk m l r kind (s.part r) (s.part r).run (s.word x.0)) kind (after_by m l kind (s.part r) (s.part r).run (s.word x.0)) (blocks_after m l kind (s.part r) (s.part r).run (s.word x.0)) (board_after kind (s.part r).board (s.word x.0))
        (plain_goes kind (s.part r).run refl j u (unless_gone (sizes_for m l rs) (s.part r).gone _ x e).1))

    kind_goes : (kind : EventKind) → EpochsAreSupplied m l w s r kind x.0 → asks m l rs r kind (s.part r) ≡ Some x
        → GoesBy m l (IsChunk m l r kind (s.part r) (s.part r).run (s.word x.0)) w (sight_after m l s r kind x)
    kind_goes (kinds.Join worker) u e = joins_worker worker e
    kind_goes kind u e = plain_step kind refl u e

-- a step of the machine that is supplied leads from a joined state to a joined one, by the component's events of its kind
pub joined_step : (m : Meaning) (l : Layout) (rs : List Request) (w : EpochState) (s s' : Sight) (r : ℕ) (kind : EventKind) → (step : Steps m l rs s s' r kind) → IsJoinedToEpochs m l w s
    → EpochsAreSupplied m l w s r kind step.ask.0 → GoesBy m l (IsChunk m l r kind (s.part r) (s.part r).run (s.word (step.ask.0))) w s'
joined_step m l rs w s s' r kind step old supplied = subst (GoesBy m l (IsChunk m l r kind (s.part r) (s.part r).run (s.word (step.ask.0))) w) (sym step.next) (kind_goes m l rs w s old r step.ask step.runner step.has_word kind supplied step.asked)
