-- Which words a step of each kind may change.
use Rattle.std.specs.Prelude.{◌==◌, ◌-◌, nat_lt, Bool, true, false, if◌then◌else◌, ◌/◌, ◌%◌}
use Rattle.std.proofs.Common.{◌≡◌, ℕ, List, refl, sym, ap, ◌∙◌, subst, Option, Some, None, suc, zero, ⊎_elim, ◌+◌, length}
use Rattle.machine_states.specs.map_history.specs.declared.op.Request.{Request}
use Rattle.machine_states.specs.body_terms.specs.declared.micro.Micro.{Micro}
use Rattle.machine_states.specs.body_terms.specs.declared.micro.Micro.TheVariants as micros
use Rattle.machine_states.specs.body_terms.specs.Word.{held_word}
use Rattle.machine_states.specs.table_words.specs.declared.layout.Layout.{Layout}
use Rattle.machine_states.specs.table_words.specs.declared.spot.Spot.{Spot}
use Rattle.machine_states.specs.table_words.specs.declared.spot.Spot.TheVariants as spots
use Rattle.machine_states.specs.table_words.specs.declared.access.Access.{Access}
use Rattle.machine_states.specs.table_words.specs.declared.access.Access.TheVariants.{Loads, Stores, Exchanges, Raises}
use Rattle.machine_states.specs.table_words.specs.Access.{written}
use Rattle.machine_states.specs.table_words.specs.Places.{slot_count, part_words}
use Rattle.machine_states.specs.table_words.specs.Seen.{put}
use Rattle.machine_states.specs.structure_laws.specs.Meaning.{Meaning}
use Rattle.machine_states.specs.runner_parts.specs.declared.event.EventKind.{EventKind}
use Rattle.machine_states.specs.runner_parts.specs.declared.event.EventKind.TheVariants as kinds
use Rattle.machine_states.specs.runner_parts.specs.State.{RunState, PartState}
use Rattle.machine_states.specs.runner_steps.specs.Sections.{thunk_of, is_open_run, next_of}
use Rattle.machine_states.specs.runner_steps.specs.InRun.{load_cell_ask, nested_load_ask, outcome_load_ask}
use Rattle.machine_states.specs.runner_steps.specs.Outside.{descriptor_spot, block_spot, blocks_from}
use Rattle.machine_states.specs.body_terms.specs.block_words.specs.Blocks.{part_spot, link_spot, log_spot}
use Rattle.machine_states.specs.runner_steps.specs.Asks.{opening_ask}
use Rattle.machine_states.specs.runner_steps.specs.Asks.{outside_ask, line_ask, inside_ask, ask_by, asks}
use Rattle.machine_states.proofs.Sights.{if_some, some_none, unless_gone}
use Rattle.machine_states.proofs.Steps.{some_same}
use Rattle.machine_states.proofs.Updates.{put_same}
use Rattle.machine_invariant.specs.machine_blocks.specs.machine_guards.specs.machine_agreement.specs.machine_epochs.proofs.InsideAsked as inside
use Rattle.machine_invariant.specs.machine_blocks.specs.machine_guards.specs.machine_agreement.specs.machine_epochs.proofs.OutsideAsked as outside
use Rattle.machine_invariant.specs.machine_blocks.specs.machine_guards.specs.machine_agreement.specs.machine_epochs.proofs.ReadsAsked as reads
use Rattle.machine_invariant.specs.machine_blocks.specs.machine_guards.specs.machine_agreement.specs.machine_epochs.proofs.BoardAsked as board
use Rattle.machine_invariant.proofs.Basics.{not_both}

-- what a step on a word may change
pub data Touched : Type 0 where
  Nothing : Touched
  TheClock : Touched
  AStamp : Touched
  ACell : Touched
  ABoardWord : Touched
  Another : Touched

abbrev pub changed : Spot → Touched
changed spots.Clock = TheClock
changed (spots.Stamp q) = AStamp
changed (spots.Cell p) = ACell
changed (spots.Board i) = ABoardWord
changed _ = Another

abbrev pub touched : Spot → Access → Touched
touched a Loads = Nothing
touched a (Stores number) = changed a
touched a (Exchanges old new) = changed a
touched a (Raises number) = changed a

-- the one kind that changes the clock, those that change stamps, and those that change cells
abbrev pub raises_clock : EventKind → Bool
raises_clock kinds.ClockRaise = true
raises_clock _ = false

abbrev pub stamps : EventKind → Bool
stamps kinds.StampExchange = true
stamps kinds.ReadStamp = true
stamps _ = false

abbrev pub changes_cells : EventKind → Bool
changes_cells kinds.ExchangeCell = true
changes_cells (kinds.PrivateStore slot word number) = true
changes_cells (kinds.Hold thunk d) = true
changes_cells kinds.NestedHold = true
changes_cells kinds.Release = true
changes_cells _ = false

abbrev pub changes_board : EventKind → Bool
changes_board (kinds.BoardTake word link) = true
changes_board (kinds.BoardGive word slot) = true
changes_board _ = false

abbrev pub may : EventKind → Touched → Bool
may kind TheClock = raises_clock kind
may kind AStamp = stamps kind
may kind ACell = changes_cells kind
may kind ABoardWord = changes_board kind
may kind Nothing = true
may kind Another = true

-- a step of this kind may change this word in this way
abbrev pub May : EventKind → Spot × Access → Type 0
May kind x = may kind (touched x.0 x.1) ≡ true

at_spot : (kind : EventKind) (a : Spot) (access : Access) → may kind (changed a) ≡ true → May kind (a, access)
at_spot kind a Loads h = refl
at_spot kind a (Stores number) h = h
at_spot kind a (Exchanges old new) h = h
at_spot kind a (Raises number) h = h

-- each kind may change the words of logs, links and blocks
other_may : (kind : EventKind) (a : Spot) (access : Access) → changed a ≡ Another → May kind (a, access)
other_may kind a access e = at_spot kind a access (ap (may kind) e)

log_may : (kind : EventKind) (d : ℕ) (links : List ℕ) (k : ℕ) (access : Access) → May kind (log_spot d links k, access)
log_may kind d links k access = other_may kind (log_spot d links k) access (by (k / part_words) (k % part_words))
  where
    by : (i j : ℕ) → changed (part_spot d links i j) ≡ Another
    by zero j = refl
    by (suc i) j = refl

link_may : (kind : EventKind) (d : ℕ) (links : List ℕ) (i : ℕ) (access : Access) → May kind (link_spot d links i, access)
link_may kind d links i access = other_may kind (link_spot d links i) access (by i)
  where
    by : (i : ℕ) → changed (link_spot d links i) ≡ Another
    by zero = refl
    by (suc i) = refl

block_may : (kind : EventKind) (b j : ℕ) (access : Access) → May kind (block_spot b j, access)
block_may kind b j access = other_may kind (block_spot b j) access (by (j == part_words))
  where
    by : (link : Bool) → changed (if link then spots.BlockLink b else spots.BlockWord b j) ≡ Another
    by true = refl
    by false = refl

module _ (m : Meaning) (l : Layout) where
  module _ (q : RunState) (x : Spot × Access) where
    load_may : (micro : Micro) → load_cell_ask q micro ≡ Some x → May (kinds.LoadCell None) x
    load_may (micros.LoadCell place log) e = subst (May (kinds.LoadCell None)) (some_same _ _ e) refl
    load_may _ e = some_none x e

    nested_may : (micro : Micro) → nested_load_ask q micro ≡ Some x → May kinds.NestedLoad x
    nested_may (micros.NestedLoad place log) e = subst (May kinds.NestedLoad) (some_same _ _ e) refl
    nested_may _ e = some_none x e

    outcome_may : (micro : Micro) → outcome_load_ask q micro ≡ Some x → May kinds.OutcomeLoad x
    outcome_may (micros.OutcomeLoad place log) e = subst (May kinds.OutcomeLoad) (some_same _ _ e) refl
    outcome_may _ e = some_none x e

    line_may : (kind : EventKind) (free blocks : List ℕ) (micro : Micro) → line_ask m l kind free blocks q micro ≡ Some x → May kind x
    line_may kinds.Commit free blocks micro e = subst (May kinds.Commit) (inside.commit_asked q x micro e).is
        (log_may kinds.Commit q.descriptor q.links (inside.commit_asked q x micro e).log (Exchanges 0 q.word))
    line_may (kinds.LoadCell None) free blocks micro e = load_may micro e
    line_may kinds.ExchangeCell free blocks micro e =
        subst (May kinds.ExchangeCell) (inside.exchange_cell_asked q x l micro e).is (at_spot kinds.ExchangeCell (spots.Cell (inside.exchange_cell_asked q x l micro e).place) _ refl)
    line_may (kinds.PrivateLoad slot word) free blocks micro e = let h = inside.fill_load_asked q x m l slot word free micro e in
        subst (May (kinds.PrivateLoad slot word)) h.6 refl
    line_may (kinds.PrivateStore slot word number) free blocks micro e = ⊎_elim
        (λ block. subst (May (kinds.PrivateStore slot word number)) block.1 (block_may (kinds.PrivateStore slot word number) (slot - blocks_from m l) word (Stores number)))
        (λ fills. subst (May (kinds.PrivateStore slot word number)) (inside.fill_store_asked q x m l slot word number micro fills.1).5 refl)
        (inside.run_store_asked q x m l slot word number blocks micro e)
    line_may (kinds.LinkCommit b) free blocks micro e =
        subst (May (kinds.LinkCommit b)) (inside.link_asked q x l b micro e) (link_may (kinds.LinkCommit b) q.descriptor q.links (length q.links) (Exchanges 0 (b + 1)))
    line_may kinds.MakeCommit free blocks micro e = let h = inside.make_commit_asked q x micro e in
        subst (May kinds.MakeCommit) h.2.is (log_may kinds.MakeCommit q.descriptor q.links h.2.log (Exchanges 0 (h.0 + 1)))
    line_may kinds.RetireCommit free blocks micro e = let h = inside.retire_commit_asked q x micro e in
        subst (May kinds.RetireCommit) h.1.is (log_may kinds.RetireCommit q.descriptor q.links h.1.log (Exchanges 0 (h.0 + 1)))
    line_may kinds.EpochForRetire free blocks micro e = subst (May kinds.EpochForRetire) (inside.epoch_for_retire_asked q x micro e).3 refl
    line_may kinds.SetDone free blocks micro e = subst (May kinds.SetDone) (inside.set_done_asked q x micro e).1 refl
    line_may kinds.Release free blocks micro e =
        subst (May kinds.Release) (inside.release_asked q x l micro e).is (at_spot kinds.Release (spots.Cell (inside.release_asked q x l micro e).place) _ refl)
    line_may kinds.ClockLoad free blocks micro e = subst (May kinds.ClockLoad) (inside.clock_load_asked q x micro e).1 refl
    line_may kinds.StampExchange free blocks micro e =
        subst (May kinds.StampExchange) (inside.stamp_exchange_asked q x micro e).3 (at_spot kinds.StampExchange (spots.Stamp (thunk_of q.opened).request) _ refl)
    line_may kinds.ClockRaise free blocks micro e =
        subst (May kinds.ClockRaise) (inside.clock_raise_asked q x micro e).2 (at_spot kinds.ClockRaise (spots.Clock) _ refl)
    line_may kinds.ReplyExchange free blocks micro e =
        subst (May kinds.ReplyExchange) (inside.reply_exchange_asked q x micro e).3 (at_spot kinds.ReplyExchange (spots.Reply (thunk_of q.opened).request) _ refl)
    line_may kinds.NestedLoad free blocks micro e = nested_may micro e
    line_may kinds.NestedHold free blocks micro e =
        subst (May kinds.NestedHold) (inside.nested_hold_asked q x l micro e).is (at_spot kinds.NestedHold (spots.Cell (inside.nested_hold_asked q x l micro e).place) _ refl)
    line_may kinds.OutcomeLoad free blocks micro e = outcome_may micro e
    line_may kinds.OutcomeCommit free blocks micro e = subst (May kinds.OutcomeCommit) (inside.outcome_commit_asked q x micro e).is
        (log_may kinds.OutcomeCommit q.descriptor q.links (inside.outcome_commit_asked q x micro e).log (Exchanges 0 q.word))
    line_may _ free blocks micro e = some_none x e

    opening_may : (kind : EventKind) → opening_ask kind q ≡ Some x → May kind x
    opening_may (kinds.LoadThunk None) e = subst (May (kinds.LoadThunk None)) (inside.open_more_asked q x e).1 refl
    opening_may kinds.LoadDone e = subst (May kinds.LoadDone) (inside.load_done_asked q x e).1 refl
    opening_may _ e = some_none x e

    inside_may : (kind : EventKind) (free blocks : List ℕ) → inside_ask m l kind free blocks q ≡ Some x → May kind x
    inside_may kind free blocks e = by (is_open_run q) e
      where
        by : (b : Bool) → (if b then line_ask m l kind free blocks q (next_of m q) else opening_ask kind q) ≡ Some x → May kind x
        by true e = line_may kind free blocks (next_of m q) e
        by false e = opening_may kind e

  -- a private store outside a run is one to a word of a descriptor
  store_may : (slot word number d : ℕ) → May (kinds.PrivateStore slot word number) (descriptor_spot d word, Stores number)
  store_may slot word number d = by (nat_lt word 12) (word == 12) (word == 13 + part_words)
    where
      by : (b b' c : Bool) → May (kinds.PrivateStore slot word number)
          ((if b then spots.ThunkWord d word else (if b' then spots.DoneWord d else (if c then spots.LinkWord d else spots.LogWord d (word - 13)))), Stores number)
      by true b' c = refl
      by false true c = refl
      by false false true = refl
      by false false false = refl

  module _ (rs : List Request) (r : ℕ) (p : PartState) (x : Spot × Access) where
    outside_may : (kind : EventKind) → outside_ask m l rs r kind p ≡ Some x → May kind x
    outside_may kinds.EnterLoad e = subst (May kinds.EnterLoad) (outside.enter_load_asked p.stage x e).1 refl
    outside_may kinds.Announce e = subst (May kinds.Announce) (outside.announce_asked r p.stage x e).2 refl
    outside_may kinds.EnterAgain e = subst (May kinds.EnterAgain) (outside.enter_again_asked p x e).1 refl
    outside_may kinds.Idle e = subst (May kinds.Idle) (outside.idle_asked r p x e).3 refl
    outside_may kinds.ScanEpoch e = subst (May kinds.ScanEpoch) (outside.enter_load_asked p.stage x e).1 refl
    outside_may (kinds.ScanOne n) e = subst (May (kinds.ScanOne n)) (outside.scan_one_asked l n p.stage x e).4 refl
    outside_may kinds.Advance e = subst (May kinds.Advance) (outside.advance_asked l p.stage x e).5 refl
    outside_may kinds.Split e = subst (May kinds.Split) (outside.split_asked l r p x e) refl
    outside_may (kinds.Join worker) e = subst (May (kinds.Join worker)) (if_some _ _ x e).1 refl
    outside_may (kinds.LoadCell (Some place)) e = subst (May (kinds.LoadCell (Some place))) (outside.read_asked m place p x e).2 refl
    outside_may (kinds.LoadEntry request reply) e =
        subst (May (kinds.LoadEntry request reply)) (outside.entry_asked request reply p x e) refl
    outside_may (kinds.PrivateLoad slot word) e =
        subst (May (kinds.PrivateLoad slot word)) (outside.private_load_asked m l slot word p x e).1 refl
    outside_may (kinds.PrivateStore slot word number) e = ⊎_elim
        (λ own. subst (May (kinds.PrivateStore slot word number)) own.2 (store_may slot word number (slot - slot_count l m.fixed_slots)))
        (λ block. subst (May (kinds.PrivateStore slot word number)) block.1 (block_may (kinds.PrivateStore slot word number) (slot - blocks_from m l) word (Stores number)))
        (outside.private_store_cases m l slot word number p x e)
    outside_may (kinds.Hold thunk d) e = subst (May (kinds.Hold thunk d)) (outside.hold_asked m l rs r thunk d p x e).is
        (at_spot (kinds.Hold thunk d) (spots.Cell thunk.lock) (Exchanges thunk.word (held_word d thunk.word)) refl)
    outside_may (kinds.LoadThunk (Some d)) e = subst (May (kinds.LoadThunk (Some d))) (outside.open_asked d p x e).3 refl
    outside_may (kinds.Guard d) e = subst (May (kinds.Guard d)) (outside.guard_asked l r d p x e).is refl
    outside_may (kinds.LoadGuard n) e = subst (May (kinds.LoadGuard n)) (outside.load_guard_asked l n p x e).is refl
    outside_may (kinds.ReadPlan thunk) e = subst (May (kinds.ReadPlan thunk)) (reads.read_plan_asked r thunk p x e).is refl
    outside_may kinds.ReadClock e = subst (May kinds.ReadClock) (reads.read_clock_asked p x e).is refl
    outside_may kinds.ReadReply e = subst (May kinds.ReadReply) (reads.read_reply_asked m l rs r p x e).is refl
    outside_may kinds.ReadStamp e = subst (May kinds.ReadStamp) (reads.read_stamp_asked p x e).is refl
    outside_may (kinds.BoardLoad word) e = subst (May (kinds.BoardLoad word)) (board.board_load_asked l r word p x e).is refl
    outside_may (kinds.BoardTake word link) e = subst (May (kinds.BoardTake word link)) (board.board_take_asked l r word link p x e).is refl
    outside_may (kinds.BoardGive word slot) e = subst (May (kinds.BoardGive word slot)) (board.board_give_asked l r word slot p x e).is refl
    outside_may _ e = some_none x e

    by_run : (kind : EventKind) (o : Option RunState) → ask_by m l rs r kind p o ≡ Some x → May kind x
    by_run kind None e = outside_may kind e
    by_run kind (Some q) e = inside_may q x kind p.nodes.free p.blocks.free e

    -- what a step of this kind asks is what the kind may change
    pub asked_may : (kind : EventKind) → asks m l rs r kind p ≡ Some x → May kind x
    asked_may kind asked = by_run kind p.run (unless_gone _ p.gone _ x asked).1

-- what a step leaves that doesn't change this sort of word
not_clock : (f : Spot → ℕ) (a : Spot) (v : ℕ) → (changed a ≡ TheClock → ⊥) → put f a v spots.Clock ≡ f spots.Clock
not_clock f spots.Clock v ne = absurd (ne refl)
not_clock f _ v ne = refl

not_stamp : (f : Spot → ℕ) (a : Spot) (v q : ℕ) → (changed a ≡ AStamp → ⊥) → put f a v (spots.Stamp q) ≡ f (spots.Stamp q)
not_stamp f (spots.Stamp q') v q ne = absurd (ne refl)
not_stamp f _ v q ne = refl

not_cell : (f : Spot → ℕ) (a : Spot) (v p : ℕ) → (changed a ≡ ACell → ⊥) → put f a v (spots.Cell p) ≡ f (spots.Cell p)
not_cell f (spots.Cell p') v p ne = absurd (ne refl)
not_cell f _ v p ne = refl

not_board : (f : Spot → ℕ) (a : Spot) (v i : ℕ) → (changed a ≡ ABoardWord → ⊥) → put f a v (spots.Board i) ≡ f (spots.Board i)
not_board f (spots.Board i') v i ne = absurd (ne refl)
not_board f _ v i ne = refl

module _ (f : Spot → ℕ) (a : Spot) (kind : EventKind) where
  pub clock_same : (access : Access) → raises_clock kind ≡ false → May kind (a, access)
      → put f a (written access (f a)) spots.Clock ≡ f spots.Clock
  clock_same Loads never h = ap (λ (g : Spot → ℕ). g spots.Clock) (put_same f a)
  clock_same (Stores number) never h = not_clock f a _ (λ e. not_both (sym (ap (may kind) e) ∙ h) never)
  clock_same (Exchanges old new) never h = not_clock f a _ (λ e. not_both (sym (ap (may kind) e) ∙ h) never)
  clock_same (Raises number) never h = not_clock f a _ (λ e. not_both (sym (ap (may kind) e) ∙ h) never)

  pub stamp_same : (access : Access) (q : ℕ) → stamps kind ≡ false → May kind (a, access)
      → put f a (written access (f a)) (spots.Stamp q) ≡ f (spots.Stamp q)
  stamp_same Loads q never h = ap (λ (g : Spot → ℕ). g (spots.Stamp q)) (put_same f a)
  stamp_same (Stores number) q never h = not_stamp f a _ q (λ e. not_both (sym (ap (may kind) e) ∙ h) never)
  stamp_same (Exchanges old new) q never h = not_stamp f a _ q (λ e. not_both (sym (ap (may kind) e) ∙ h) never)
  stamp_same (Raises number) q never h = not_stamp f a _ q (λ e. not_both (sym (ap (may kind) e) ∙ h) never)

  pub cell_same : (access : Access) (p : ℕ) → changes_cells kind ≡ false → May kind (a, access)
      → put f a (written access (f a)) (spots.Cell p) ≡ f (spots.Cell p)
  cell_same Loads p never h = ap (λ (g : Spot → ℕ). g (spots.Cell p)) (put_same f a)
  cell_same (Stores number) p never h = not_cell f a _ p (λ e. not_both (sym (ap (may kind) e) ∙ h) never)
  cell_same (Exchanges old new) p never h = not_cell f a _ p (λ e. not_both (sym (ap (may kind) e) ∙ h) never)
  cell_same (Raises number) p never h = not_cell f a _ p (λ e. not_both (sym (ap (may kind) e) ∙ h) never)

  pub board_same : (access : Access) (i : ℕ) → changes_board kind ≡ false → May kind (a, access)
      → put f a (written access (f a)) (spots.Board i) ≡ f (spots.Board i)
  board_same Loads i never h = ap (λ (g : Spot → ℕ). g (spots.Board i)) (put_same f a)
  board_same (Stores number) i never h = not_board f a _ i (λ e. not_both (sym (ap (may kind) e) ∙ h) never)
  board_same (Exchanges old new) i never h = not_board f a _ i (λ e. not_both (sym (ap (may kind) e) ∙ h) never)
  board_same (Raises number) i never h = not_board f a _ i (λ e. not_both (sym (ap (may kind) e) ∙ h) never)
