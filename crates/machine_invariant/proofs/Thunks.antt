-- No step changes the thunk words of a descriptor but a private store to them.
use Rattle.std.specs.Prelude.{◌-◌, ◌==◌, Bool, true, false, nat_lt, if◌then◌else◌, ◌/◌, ◌%◌, cond}
use Rattle.std.proofs.Common.{◌≡◌, ◌≢◌, ℕ, List, refl, ap, subst, arith, Some, None, zero, suc, ◌+◌, ⊎_elim}
use Rattle.std.proofs.lemmas.Bool.Decides.{nat_tests}
use Rattle.machine_states.specs.map_history.specs.declared.op.Request.{Request}
use Rattle.machine_states.specs.body_terms.specs.declared.micro.Micro.{Micro}
use Rattle.machine_states.specs.table_words.specs.declared.layout.Layout.{Layout}
use Rattle.machine_states.specs.table_words.specs.declared.spot.Spot.{Spot}
use Rattle.machine_states.specs.table_words.specs.declared.spot.Spot.TheVariants as spots
use Rattle.machine_states.specs.table_words.specs.declared.access.Access.{Access}
use Rattle.machine_states.specs.table_words.specs.declared.access.Access.TheVariants.{Loads, Stores}
use Rattle.machine_states.specs.table_words.specs.Access.{written}
use Rattle.machine_states.specs.table_words.specs.Seen.{put}
use Rattle.machine_states.specs.structure_laws.specs.Meaning.{Meaning}
use Rattle.machine_states.specs.runner_parts.specs.declared.event.EventKind.{EventKind}
use Rattle.machine_states.specs.runner_parts.specs.declared.event.EventKind.TheVariants as kinds
use Rattle.machine_states.specs.runner_parts.specs.State.{RunState, PartState}
use Rattle.machine_states.specs.runner_steps.specs.Sections.{is_open_run, next_of}
use Rattle.machine_states.specs.runner_steps.specs.Outside.{descriptor_spot, block_spot, blocks_from}
use Rattle.machine_states.specs.runner_steps.specs.Asks.{opening_ask}
use Rattle.machine_states.specs.runner_steps.specs.Asks.{outside_ask, line_ask, inside_ask}
use Rattle.machine_states.proofs.Sights.{if_some, some_none}
use Rattle.machine_states.proofs.Updates.{put_same}
use Rattle.machine_blocks.specs.machine_guards.specs.machine_agreement.specs.machine_epochs.proofs.InsideAsked as inside
use Rattle.machine_blocks.specs.machine_guards.specs.machine_agreement.specs.machine_epochs.proofs.OutsideAsked as outside
use Rattle.machine_blocks.specs.machine_guards.specs.machine_agreement.specs.machine_epochs.proofs.ReadsAsked as reads
use Rattle.machine_blocks.specs.machine_guards.specs.machine_agreement.specs.machine_epochs.proofs.BoardAsked as board
use Rattle.machine_states.specs.table_words.specs.Places.{part_words}
use Rattle.machine_blocks.specs.block_words.specs.Blocks.{part_spot, link_spot, log_spot}
use Rattle.machine_blocks.specs.machine_guards.specs.machine_agreement.specs.machine_epochs.proofs.Places.{spot_by}

-- the step leaves every thunk word
pub record LeavesThunks (x : Spot × Access) : Type 0 where
  pub same : (word : Spot → ℕ) (d j : ℕ) → put word x.0 (written x.1 (word x.0)) (spots.ThunkWord d j) ≡ word (spots.ThunkWord d j)

load_leaves : (a : Spot) → LeavesThunks (a, Loads)
load_leaves a = record { same = λ word d j. ap (λ (f : Spot → ℕ). f (spots.ThunkWord d j)) (put_same word a) }

cell_leaves : (p : ℕ) (access : Access) → LeavesThunks (spots.Cell p, access)
cell_leaves p access = record { same = λ word d j. refl }

part_leaves : (d : ℕ) (links : List ℕ) (i j : ℕ) (access : Access) → LeavesThunks (part_spot d links i j, access)
part_leaves d links zero j access = record { same = λ word d j. refl }
part_leaves d links (suc i) j access = record { same = λ word d j. refl }

log_leaves : (d : ℕ) (links : List ℕ) (k : ℕ) (access : Access) → LeavesThunks (log_spot d links k, access)
log_leaves d links k access = part_leaves d links (k / part_words) (k % part_words) access

link_leaves : (d : ℕ) (links : List ℕ) (i : ℕ) (access : Access) → LeavesThunks (link_spot d links i, access)
link_leaves d links zero access = record { same = λ word d j. refl }
link_leaves d links (suc i) access = record { same = λ word d j. refl }

pub block_leaves : (b j : ℕ) (access : Access) → LeavesThunks (block_spot b j, access)
block_leaves b j access = by (j == part_words)
  where
    by : (c : Bool) → LeavesThunks (cond c (spots.BlockLink b) (spots.BlockWord b j), access)
    by true = record { same = λ word d i. refl }
    by false = record { same = λ word d i. refl }

module _ (m : Meaning) (l : Layout) where
  module _ (q : RunState) (x : Spot × Access) where
    line_leaves : (kind : EventKind) (free blocks : List ℕ) (micro : Micro) → line_ask m l kind free blocks q micro ≡ Some x → LeavesThunks x
    line_leaves kinds.Commit free blocks micro e = let h = inside.commit_asked q x micro e in subst LeavesThunks h.is (log_leaves _ _ _ _)
    line_leaves (kinds.LoadCell None) free blocks micro e = let h = inside.load_cell_asked q x micro e in subst LeavesThunks h.is (cell_leaves _ _)
    line_leaves kinds.ExchangeCell free blocks micro e = let h = inside.exchange_cell_asked q x l micro e in
        subst LeavesThunks h.is (cell_leaves _ _)
    line_leaves (kinds.PrivateLoad slot word) free blocks micro e = let h = inside.fill_load_asked q x m l slot word free micro e in
        subst LeavesThunks h.6 (cell_leaves _ _)
    line_leaves (kinds.PrivateStore slot word number) free blocks micro e = ⊎_elim
        (λ link. subst LeavesThunks link.1 (block_leaves (slot - blocks_from m l) word (Stores number)))
        (λ fills. let h = inside.fill_store_asked q x m l slot word number micro fills.1 in subst LeavesThunks h.5 (cell_leaves _ _))
        (inside.run_store_asked q x m l slot word number blocks micro e)
    line_leaves (kinds.LinkCommit b) free blocks micro e = subst LeavesThunks (inside.link_asked q x l b micro e) (link_leaves _ _ _ _)
    line_leaves kinds.MakeCommit free blocks micro e = let h = inside.make_commit_asked q x micro e in subst LeavesThunks h.2.is (log_leaves _ _ _ _)
    line_leaves kinds.RetireCommit free blocks micro e = let h = inside.retire_commit_asked q x micro e in
        subst LeavesThunks h.1.is (log_leaves _ _ _ _)
    line_leaves kinds.EpochForRetire free blocks micro e = let h = inside.epoch_for_retire_asked q x micro e in
        subst LeavesThunks h.3 (load_leaves _)
    line_leaves kinds.SetDone free blocks micro e = let h = inside.set_done_asked q x micro e in
        subst LeavesThunks h.1 (record { same = λ word d j. refl })
    line_leaves kinds.Release free blocks micro e = let h = inside.release_asked q x l micro e in subst LeavesThunks h.is (cell_leaves _ _)
    line_leaves kinds.ClockLoad free blocks micro e = let h = inside.clock_load_asked q x micro e in subst LeavesThunks h.1 (load_leaves _)
    line_leaves kinds.StampExchange free blocks micro e = let h = inside.stamp_exchange_asked q x micro e in
        subst LeavesThunks h.3 (record { same = λ word d j. refl })
    line_leaves kinds.ClockRaise free blocks micro e = let h = inside.clock_raise_asked q x micro e in
        subst LeavesThunks h.2 (record { same = λ word d j. refl })
    line_leaves kinds.ReplyExchange free blocks micro e = let h = inside.reply_exchange_asked q x micro e in
        subst LeavesThunks h.3 (record { same = λ word d j. refl })
    line_leaves kinds.NestedLoad free blocks micro e = let h = inside.nested_load_asked q x micro e in subst LeavesThunks h.is (cell_leaves _ _)
    line_leaves kinds.NestedHold free blocks micro e = let h = inside.nested_hold_asked q x l micro e in subst LeavesThunks h.is (cell_leaves _ _)
    line_leaves kinds.OutcomeLoad free blocks micro e = let h = inside.outcome_load_asked q x micro e in subst LeavesThunks h.is (cell_leaves _ _)
    line_leaves kinds.OutcomeCommit free blocks micro e = let h = inside.outcome_commit_asked q x micro e in
        subst LeavesThunks h.is (log_leaves _ _ _ _)
    line_leaves _ free blocks micro e = some_none x e

    opening_leaves : (kind : EventKind) → opening_ask kind q ≡ Some x → LeavesThunks x
    opening_leaves (kinds.LoadThunk None) e = subst LeavesThunks (inside.open_more_asked q x e).1 (load_leaves _)
    opening_leaves kinds.LoadDone e = subst LeavesThunks (inside.load_done_asked q x e).1 (load_leaves _)
    opening_leaves _ e = some_none x e

    pub inside_leaves : (kind : EventKind) (free blocks : List ℕ) → inside_ask m l kind free blocks q ≡ Some x → LeavesThunks x
    inside_leaves kind free blocks e = by (is_open_run q) e
      where
        by : (b : Bool) → (if b then line_ask m l kind free blocks q (next_of m q) else opening_ask kind q) ≡ Some x → LeavesThunks x
        by true e = line_leaves kind free blocks (next_of m q) e
        by false e = opening_leaves kind e

  -- a private store, which is one to a word of an own free descriptor or block
  abbrev pub is_private_store : EventKind → Bool
  is_private_store (kinds.PrivateStore slot word number) = true
  is_private_store _ = false

  module _ (rs : List Request) (r : ℕ) (p : PartState) (x : Spot × Access) where
    announce_leaves : (e : ℕ) (access : Access) → LeavesThunks (spots.Announcement e, access)
    announce_leaves e access = record { same = λ word d j. refl }

    guard_leaves : (access : Access) → LeavesThunks (spots.Guard r, access)
    guard_leaves access = record { same = λ word d j. refl }

    pub outside_leaves : (kind : EventKind) → is_private_store kind ≡ false → outside_ask m l rs r kind p ≡ Some x → LeavesThunks x
    outside_leaves kinds.EnterLoad is e = subst LeavesThunks (outside.enter_load_asked p.stage x e).1 (load_leaves _)
    outside_leaves kinds.Announce is e = subst LeavesThunks (outside.announce_asked r p.stage x e).2 (announce_leaves _ _)
    outside_leaves kinds.EnterAgain is e = subst LeavesThunks (outside.enter_again_asked p x e).1 (load_leaves _)
    outside_leaves kinds.Idle is e = subst LeavesThunks (outside.idle_asked r p x e).3 (announce_leaves _ _)
    outside_leaves kinds.ScanEpoch is e = subst LeavesThunks (outside.enter_load_asked p.stage x e).1 (load_leaves _)
    outside_leaves (kinds.ScanOne n) is e = subst LeavesThunks (outside.scan_one_asked l n p.stage x e).4 (load_leaves _)
    outside_leaves kinds.Advance is e = subst LeavesThunks (outside.advance_asked l p.stage x e).5 (record { same = λ word d j. refl })
    outside_leaves kinds.Split is e = subst LeavesThunks (outside.split_asked l r p x e) (load_leaves _)
    outside_leaves (kinds.Join worker) is e = subst LeavesThunks (if_some _ _ x e).1 (load_leaves _)
    outside_leaves (kinds.LoadCell (Some place)) is e = subst LeavesThunks (outside.read_asked m place p x e).2 (load_leaves _)
    outside_leaves (kinds.LoadEntry request reply) is e = subst LeavesThunks (outside.entry_asked request reply p x e) (load_leaves _)
    outside_leaves (kinds.PrivateLoad slot word) is e = let h = outside.private_load_asked m l slot word p x e in
        subst LeavesThunks h.1 (load_leaves _)
    outside_leaves (kinds.PrivateStore slot word number) is e = absurd (cc)
    outside_leaves (kinds.Hold thunk d) is e = subst LeavesThunks (outside.hold_asked m l rs r thunk d p x e).is (cell_leaves _ _)
    outside_leaves (kinds.LoadThunk (Some d)) is e = subst LeavesThunks (outside.open_asked d p x e).3 (load_leaves _)
    outside_leaves (kinds.Guard d) is e = subst LeavesThunks (outside.guard_asked l r d p x e).is (guard_leaves _)
    outside_leaves (kinds.LoadGuard n) is e = subst LeavesThunks (outside.load_guard_asked l n p x e).is (load_leaves _)
    outside_leaves (kinds.ReadPlan thunk) is e = subst LeavesThunks (reads.read_plan_asked r thunk p x e).is (announce_leaves _ _)
    outside_leaves kinds.ReadClock is e = subst LeavesThunks (reads.read_clock_asked p x e).is (load_leaves _)
    outside_leaves kinds.ReadReply is e = subst LeavesThunks (reads.read_reply_asked m l rs r p x e).is (record { same = λ word d j. refl })
    outside_leaves kinds.ReadStamp is e = subst LeavesThunks (reads.read_stamp_asked p x e).is (record { same = λ word d j. refl })
    outside_leaves (kinds.BoardLoad word) is e = subst LeavesThunks (board.board_load_asked l r word p x e).is (load_leaves _)
    outside_leaves (kinds.BoardTake word link) is e = subst LeavesThunks (board.board_take_asked l r word link p x e).is (record { same = λ d j n. refl })
    outside_leaves (kinds.BoardGive word slot) is e = subst LeavesThunks (board.board_give_asked l r word slot p x e).is (record { same = λ d j n. refl })
    outside_leaves _ is e = some_none x e

-- a store into a word of another descriptor
pub other_thunk : (f : Spot → ℕ) (d word v d' j : ℕ) → d' ≢ d → put f (descriptor_spot d word) v (spots.ThunkWord d' j)
    ≡ f (spots.ThunkWord d' j)
other_thunk f d word v d' j ne = by (nat_lt word 12) (word == 12) (word == 13 + part_words)
  where
    apart : (d d' j word v : ℕ) → d' ≢ d → put f (spots.ThunkWord d word) v (spots.ThunkWord d' j) ≡ f (spots.ThunkWord d' j)
    apart d d' j word v ne = grind (arith, nat_tests)

    by : (b b' b'' : Bool) → put f (spot_by d word b b' b'') v (spots.ThunkWord d' j) ≡ f (spots.ThunkWord d' j)
    by true b' b'' = apart d d' j word v ne
    by false true b'' = refl
    by false false true = refl
    by false false false = refl
