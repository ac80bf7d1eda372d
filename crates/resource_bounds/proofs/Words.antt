-- The kinds of step that leave each cell as it is.
use Rattle.std.specs.Prelude.{◌==◌, ◌-◌, nat_lt, Bool, true, false, if◌then◌else◌, ◌/◌, ◌%◌}
use Rattle.std.proofs.Common.{◌≡◌, ℕ, List, refl, ap, subst, Some, None, zero, suc, ◌+◌, ⊎_elim, length}
use Rattle.std.proofs.lemmas.Bool.{true≢false}
use Rattle.machine_states.specs.map_history.specs.declared.op.Request.{Request}
use Rattle.machine_states.specs.body_terms.specs.declared.micro.Micro.{Micro}
use Rattle.machine_states.specs.body_terms.specs.declared.micro.Micro.TheVariants as micros
use Rattle.machine_states.specs.table_words.specs.declared.layout.Layout.{Layout}
use Rattle.machine_states.specs.table_words.specs.declared.spot.Spot.{Spot}
use Rattle.machine_states.specs.table_words.specs.declared.spot.Spot.TheVariants as spots
use Rattle.machine_states.specs.table_words.specs.declared.access.Access.{Access}
use Rattle.machine_states.specs.table_words.specs.declared.access.Access.TheVariants.{Loads, Stores, Exchanges}
use Rattle.machine_states.specs.table_words.specs.Access.{written}
use Rattle.machine_states.specs.table_words.specs.Places.{slot_count, part_words}
use Rattle.machine_states.specs.table_words.specs.Seen.{put}
use Rattle.machine_states.specs.structure_laws.specs.Meaning.{Meaning}
use Rattle.machine_states.specs.runner_parts.specs.declared.event.EventKind.{EventKind}
use Rattle.machine_states.specs.runner_parts.specs.declared.event.EventKind.TheVariants as kinds
use Rattle.machine_states.specs.runner_parts.specs.State.{RunState, PartState}
use Rattle.machine_states.specs.runner_steps.specs.InRun.{load_cell_ask, nested_load_ask, outcome_load_ask}
use Rattle.machine_states.specs.runner_steps.specs.Outside.{descriptor_spot, block_spot, blocks_from}
use Rattle.machine_states.specs.runner_steps.specs.Asks.{opening_ask}
use Rattle.machine_states.specs.runner_steps.specs.Asks.{outside_ask, line_ask}
use Rattle.machine_states.proofs.Sights.{if_some, some_none}
use Rattle.machine_states.proofs.Steps.{some_same}
use Rattle.machine_states.proofs.Updates.{put_same}
use Rattle.machine_epochs.proofs.InsideAsked as inside
use Rattle.machine_epochs.proofs.OutsideAsked as outside
use Rattle.machine_epochs.proofs.BoardAsked as board
use Rattle.machine_epochs.proofs.ReadsAsked as reads
use Rattle.machine_states.specs.body_terms.specs.block_words.specs.Blocks.{part_spot, link_spot, log_spot}

-- the kinds that may change a cell: in a run, and outside one
abbrev pub changes_inside : EventKind → Bool
changes_inside kinds.ExchangeCell = true
changes_inside (kinds.PrivateStore slot word number) = true
changes_inside kinds.NestedHold = true
changes_inside kinds.Release = true
changes_inside _ = false

abbrev pub changes_outside : EventKind → Bool
changes_outside (kinds.Hold thunk d) = true
changes_outside _ = false

module _ (f : Spot → ℕ) (p : ℕ) where
  -- the step leaves the cell
  abbrev pub Stays : Spot × Access → Type 0
  Stays x = put f x.0 (written x.1 (f x.0)) (spots.Cell p) ≡ f (spots.Cell p)

  loads : (a : Spot) → Stays (a, Loads)
  loads a = ap (λ (g : Spot → ℕ). g (spots.Cell p)) (put_same f a)

  loaded : (a : Spot) (x : Spot × Access) → (a, Loads) ≡ x → Stays x
  loaded a x e = subst Stays e (loads a)

  -- the words of logs, links and blocks are no cells
  log_stays : (d : ℕ) (links : List ℕ) (k new : ℕ) → Stays (log_spot d links k, Exchanges 0 new)
  log_stays d links k new = by (k / part_words) (k % part_words)
    where
      by : (i j : ℕ) → Stays (part_spot d links i j, Exchanges 0 new)
      by zero j = refl
      by (suc i) j = refl

  link_stays : (d : ℕ) (links : List ℕ) (i new : ℕ) → Stays (link_spot d links i, Exchanges 0 new)
  link_stays d links zero new = refl
  link_stays d links (suc i) new = refl

  pub block_stays : (b word number : ℕ) → Stays (block_spot b word, Stores number)
  block_stays b word number = by (word == part_words)
    where
      by : (c : Bool) → Stays ((if c then spots.BlockLink b else spots.BlockWord b word), Stores number)
      by true = refl
      by false = refl

  module _ (m : Meaning) (l : Layout) (q : RunState) (x : Spot × Access) where
    load_stays : (micro : Micro) → load_cell_ask q micro ≡ Some x → Stays x
    load_stays (micros.LoadCell place log) e = loaded (spots.Cell place) x (some_same _ _ e)
    load_stays _ e = some_none x e

    nested_stays : (micro : Micro) → nested_load_ask q micro ≡ Some x → Stays x
    nested_stays (micros.NestedLoad place log) e = loaded (spots.Cell place) x (some_same _ _ e)
    nested_stays _ e = some_none x e

    outcome_stays : (micro : Micro) → outcome_load_ask q micro ≡ Some x → Stays x
    outcome_stays (micros.OutcomeLoad place log) e = loaded (spots.Cell place) x (some_same _ _ e)
    outcome_stays _ e = some_none x e

    pub line_stays : (kind : EventKind) (free blocks : List ℕ) (micro : Micro) → changes_inside kind ≡ false → line_ask m l kind free blocks q micro ≡ Some x → Stays x
    line_stays kinds.Commit free blocks micro no_change e = let h = inside.commit_asked q x micro e in subst Stays h.is (log_stays q.descriptor q.links h.log q.word)
    line_stays (kinds.LoadCell None) free blocks micro no_change e = load_stays micro e
    line_stays kinds.ExchangeCell free blocks micro no_change e = absurd (true≢false no_change)
    line_stays (kinds.PrivateLoad slot word) free blocks micro no_change e =
        let h = inside.fill_load_asked q x m l slot word free micro e in loaded (spots.Cell h.2) x h.6
    line_stays (kinds.PrivateStore slot word number) free blocks micro no_change e = absurd (true≢false no_change)
    line_stays (kinds.LinkCommit b) free blocks micro no_change e = subst Stays (inside.link_asked q x l b micro e) (link_stays q.descriptor q.links (length q.links) (b + 1))
    line_stays kinds.MakeCommit free blocks micro no_change e =
        let h = inside.make_commit_asked q x micro e in subst Stays h.2.is (log_stays q.descriptor q.links h.2.log (h.0 + 1))
    line_stays kinds.RetireCommit free blocks micro no_change e =
        let h = inside.retire_commit_asked q x micro e in subst Stays h.1.is (log_stays q.descriptor q.links h.1.log (h.0 + 1))
    line_stays kinds.EpochForRetire free blocks micro no_change e = loaded spots.Epoch x (inside.epoch_for_retire_asked q x micro e).3
    line_stays kinds.SetDone free blocks micro no_change e = subst Stays (inside.set_done_asked q x micro e).1 refl
    line_stays kinds.Release free blocks micro no_change e = absurd (true≢false no_change)
    line_stays kinds.ClockLoad free blocks micro no_change e = loaded spots.Clock x (inside.clock_load_asked q x micro e).1
    line_stays kinds.StampExchange free blocks micro no_change e = subst Stays (inside.stamp_exchange_asked q x micro e).3 refl
    line_stays kinds.ClockRaise free blocks micro no_change e = subst Stays (inside.clock_raise_asked q x micro e).2 refl
    line_stays kinds.ReplyExchange free blocks micro no_change e = subst Stays (inside.reply_exchange_asked q x micro e).3 refl
    line_stays kinds.NestedLoad free blocks micro no_change e = nested_stays micro e
    line_stays kinds.NestedHold free blocks micro no_change e = absurd (true≢false no_change)
    line_stays kinds.OutcomeLoad free blocks micro no_change e = outcome_stays micro e
    line_stays kinds.OutcomeCommit free blocks micro no_change e =
        let h = inside.outcome_commit_asked q x micro e in subst Stays h.is (log_stays q.descriptor q.links h.log q.word)
    line_stays _ free blocks micro no_change e = some_none x e

    pub opening_stays : (kind : EventKind) → opening_ask kind q ≡ Some x → Stays x
    opening_stays (kinds.LoadThunk None) e = loaded _ x (inside.open_more_asked q x e).1
    opening_stays kinds.LoadDone e = loaded _ x (inside.load_done_asked q x e).1
    opening_stays _ e = some_none x e

  -- a private store outside a run into a word of a descriptor
  store_stays : (d word number : ℕ) → Stays (descriptor_spot d word, Stores number)
  store_stays d word number = by (nat_lt word 12) (word == 12) (word == 13 + part_words)
    where
      by : (b b' c : Bool)
          → Stays ((if b then spots.ThunkWord d word else (if b' then spots.DoneWord d else (if c then spots.LinkWord d else spots.LogWord d (word - 13)))), Stores number)
      by true b' c = refl
      by false true c = refl
      by false false true = refl
      by false false false = refl

  module _ (m : Meaning) (l : Layout) (rs : List Request) (r : ℕ) (y : PartState) (x : Spot × Access) where
    pub outside_stays : (kind : EventKind) → changes_outside kind ≡ false → outside_ask m l rs r kind y ≡ Some x → Stays x
    outside_stays kinds.EnterLoad no_change e = loaded _ x (outside.enter_load_asked y.stage x e).1
    outside_stays kinds.Announce no_change e = subst Stays (outside.announce_asked r y.stage x e).2 refl
    outside_stays kinds.EnterAgain no_change e = loaded _ x (outside.enter_again_asked y x e).1
    outside_stays kinds.Idle no_change e = subst Stays (outside.idle_asked r y x e).3 refl
    outside_stays kinds.ScanEpoch no_change e = loaded _ x (outside.enter_load_asked y.stage x e).1
    outside_stays (kinds.ScanOne n) no_change e = loaded _ x (outside.scan_one_asked l n y.stage x e).4
    outside_stays kinds.Advance no_change e = subst Stays (outside.advance_asked l y.stage x e).5 refl
    outside_stays kinds.Split no_change e = loaded _ x (outside.split_asked l r y x e)
    outside_stays (kinds.Join worker) no_change e = loaded _ x (if_some _ _ x e).1
    outside_stays (kinds.LoadCell (Some place)) no_change e = loaded _ x (outside.read_asked m place y x e).2
    outside_stays (kinds.LoadEntry request reply) no_change e = loaded _ x (outside.entry_asked request reply y x e)
    outside_stays (kinds.PrivateLoad slot word) no_change e = let h = outside.private_load_asked m l slot word y x e in loaded h.0 x h.1
    outside_stays (kinds.PrivateStore slot word number) no_change e =
        ⊎_elim
        (λ own. subst Stays own.2 (store_stays (slot - slot_count l m.fixed_slots) word number))
        (λ block. subst Stays block.1 (block_stays (slot - blocks_from m l) word number))
        (outside.private_store_cases m l slot word number y x e)
    outside_stays (kinds.Hold thunk d) no_change e = absurd (true≢false no_change)
    outside_stays (kinds.Guard d) no_change e = subst Stays (outside.guard_asked l r d y x e).is refl
    outside_stays (kinds.LoadGuard n) no_change e = loaded _ x (outside.load_guard_asked l n y x e).is
    outside_stays (kinds.BoardLoad word) no_change e = loaded _ x (board.board_load_asked l r word y x e).is
    outside_stays (kinds.BoardTake word link) no_change e = subst Stays (board.board_take_asked l r word link y x e).is refl
    outside_stays (kinds.BoardGive word slot) no_change e = subst Stays (board.board_give_asked l r word slot y x e).is refl
    outside_stays (kinds.LoadThunk (Some d)) no_change e = loaded _ x (outside.open_asked d y x e).3
    outside_stays (kinds.ReadPlan thunk) no_change e = subst Stays (reads.read_plan_asked r thunk y x e).is refl
    outside_stays kinds.ReadClock no_change e = loaded _ x (reads.read_clock_asked y x e).is
    outside_stays kinds.ReadReply no_change e = subst Stays (reads.read_reply_asked m l rs r y x e).is refl
    outside_stays kinds.ReadStamp no_change e = subst Stays (reads.read_stamp_asked y x e).is refl
    outside_stays _ no_change e = some_none x e
