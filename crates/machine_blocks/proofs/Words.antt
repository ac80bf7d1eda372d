-- Which steps leave the log words as they are, and on which word a commit is.
use Rattle.std.specs.Prelude.{◌/◌, nat_lt, cond, Bool, true, false, if◌then◌else◌}
use Rattle.std.proofs.Common.{◌≡◌, ℕ, List, length, sym, ap, ◌∙◌, subst, ⊎_elim, Some, None, refl, ◌+◌, ◌<◌, arith}
use Rattle.machine_states.specs.map_history.specs.declared.op.Request.{Request}
use Rattle.machine_states.specs.body_terms.specs.declared.micro.Micro.{Micro}
use Rattle.machine_states.specs.table_words.specs.declared.layout.Layout.{Layout}
use Rattle.machine_states.specs.table_words.specs.declared.spot.Spot.{Spot}
use Rattle.machine_states.specs.table_words.specs.Places.{part_words, slot_count}
use Rattle.machine_states.specs.table_words.specs.declared.access.Access.{Access}
use Rattle.machine_states.specs.table_words.specs.declared.access.Access.TheVariants.{Loads, Exchanges}
use Rattle.machine_states.specs.table_words.specs.Access.{written}
use Rattle.machine_states.specs.table_words.specs.Seen.{put}
use Rattle.machine_states.specs.table_words.proofs.Seen.{put_elsewhere}
use Rattle.machine_states.specs.structure_laws.specs.Meaning.{Meaning}
use Rattle.machine_states.specs.epoch_core.specs.small_lemmas.proofs.Bools.{not_both}
use Rattle.machine_states.specs.epoch_core.specs.small_lemmas.proofs.Numbers.{tested_not_less}
use Rattle.machine_states.specs.runner_parts.specs.declared.event.EventKind.{EventKind}
use Rattle.machine_states.specs.runner_parts.specs.declared.event.EventKind.TheVariants as kinds
use Rattle.machine_states.specs.runner_parts.specs.State.{RunState, PartState}
use Rattle.machine_states.specs.runner_steps.specs.Asks.{opening_ask, outside_ask, line_ask}
use Rattle.machine_states.specs.runner_steps.specs.InRun.{fill_store_ask, block_empty_ask}
use Rattle.machine_states.specs.runner_steps.specs.Outside.{Ask, when, private_load_ask, blocks_from}
use Rattle.machine_states.specs.runner_steps.specs.Sections.{next_of, commits_to, is_beyond, needs_link}
use Rattle.machine_states.proofs.Sights.{if_some, some_none}
use Rattle.machine_states.proofs.Steps.{some_same}
use Rattle.machine_states.proofs.Updates.{put_same}
use Rattle.machine_guards.specs.machine_agreement.specs.machine_epochs.proofs.InsideAsked as inside
use Rattle.machine_guards.specs.machine_agreement.specs.machine_epochs.proofs.OutsideAsked as outside
use Rattle.machine_guards.specs.machine_agreement.specs.machine_epochs.proofs.ReadsAsked as reads
use Rattle.machine_guards.specs.machine_agreement.specs.machine_epochs.proofs.BoardAsked as board
use Rattle.machine_guards.proofs.Views.{is_linking}
use Rattle.block_words.specs.Blocks.{log_spot, room}
use Rattle.machine_blocks.proofs.Asked as asked
use Rattle.machine_blocks.proofs.Chunks.{is_commit, is_store}
use Rattle.machine_blocks.proofs.Keeping.{is_of_log}

-- the step leaves the words of logs, their links, and the words of blocks
abbrev pub LogWordsStay : (Spot → ℕ) → Spot × Access → Type 0
LogWordsStay f x = (y : Spot) → is_of_log y ≡ true → put f x.0 (written x.1 (f x.0)) y ≡ f y

module _ (f : Spot → ℕ) where
  -- where it is on another word
  pub off : (a : Spot) (access : Access) (x : Spot × Access) → (a, access) ≡ x → is_of_log a ≡ false → LogWordsStay f x
  off a access x is other = subst (LogWordsStay f) is (λ y of. put_elsewhere f a _ y (λ same. not_both of (ap is_of_log same ∙ other)))

  -- or where it is a load
  pub loads : (a : Spot) (x : Spot × Access) → (a, Loads) ≡ x → LogWordsStay f x
  loads a x is = subst (LogWordsStay f) is (λ y of. ap (λ (g : Spot → ℕ). g y) (put_same f a))

  when_loads : (b : Bool) (a : Spot) (x : Spot × Access) → when b a Loads ≡ Some x → LogWordsStay f x
  when_loads b a x e = loads a x (if_some b _ x e).1

  either_loads : (b : Bool) (o o' : Ask) (x : Spot × Access) → (o ≡ Some x → LogWordsStay f x) → (o' ≡ Some x → LogWordsStay f x) → cond b o o' ≡ Some x → LogWordsStay f x
  either_loads true o o' x h h' e = h e
  either_loads false o o' x h h' e = h' e

  module _ (m : Meaning) (l : Layout) (q : RunState) (x : Spot × Access) where
    line_words : (kind : EventKind) (free blocks : List ℕ) (micro : Micro) → is_commit kind ≡ false → is_linking kind ≡ false → line_ask m l kind free blocks q micro ≡ Some x → LogWordsStay f x
    line_words kinds.Commit free blocks micro k n e = absurd (let y = k in cc)
    line_words (kinds.LoadCell None) free blocks micro k n e = off _ _ x (inside.load_cell_asked q x micro e).is refl
    line_words kinds.ExchangeCell free blocks micro k n e = off _ _ x (inside.exchange_cell_asked q x l micro e).is refl
    line_words (kinds.PrivateLoad slot word) free blocks micro k n e = off _ _ x (inside.fill_load_asked q x m l slot word free micro e).6 refl
    line_words (kinds.PrivateStore slot word number) free blocks micro k n e = absurd (let y = n in cc)
    line_words (kinds.LinkCommit b) free blocks micro k n e = absurd (let y = n in cc)
    line_words kinds.MakeCommit free blocks micro k n e = absurd (let y = k in cc)
    line_words kinds.RetireCommit free blocks micro k n e = absurd (let y = k in cc)
    line_words kinds.EpochForRetire free blocks micro k n e = off _ _ x (inside.epoch_for_retire_asked q x micro e).3 refl
    line_words kinds.SetDone free blocks micro k n e = off _ _ x (inside.set_done_asked q x micro e).1 refl
    line_words kinds.Release free blocks micro k n e = off _ _ x (inside.release_asked q x l micro e).is refl
    line_words kinds.ClockLoad free blocks micro k n e = off _ _ x (inside.clock_load_asked q x micro e).1 refl
    line_words kinds.StampExchange free blocks micro k n e = off _ _ x (inside.stamp_exchange_asked q x micro e).3 refl
    line_words kinds.ClockRaise free blocks micro k n e = off _ _ x (inside.clock_raise_asked q x micro e).2 refl
    line_words kinds.ReplyExchange free blocks micro k n e = off _ _ x (inside.reply_exchange_asked q x micro e).3 refl
    line_words kinds.NestedLoad free blocks micro k n e = off _ _ x (inside.nested_load_asked q x micro e).is refl
    line_words kinds.NestedHold free blocks micro k n e = off _ _ x (inside.nested_hold_asked q x l micro e).is refl
    line_words kinds.OutcomeLoad free blocks micro k n e = off _ _ x (inside.outcome_load_asked q x micro e).is refl
    line_words kinds.OutcomeCommit free blocks micro k n e = absurd (let y = k in cc)
    line_words _ free blocks micro k n e = some_none x e

    opening_words : (kind : EventKind) → opening_ask kind q ≡ Some x → LogWordsStay f x
    opening_words (kinds.LoadThunk None) e = off _ _ x (inside.open_more_asked q x e).1 refl
    opening_words kinds.LoadDone e = off _ _ x (inside.load_done_asked q x e).1 refl
    opening_words _ e = some_none x e

    pub inside_words : (kind : EventKind) (free blocks : List ℕ) (b : Bool) → is_commit kind ≡ false → is_linking kind ≡ false
        → (if b then line_ask m l kind free blocks q (next_of m q) else opening_ask kind q) ≡ Some x → LogWordsStay f x
    inside_words kind free blocks true k n e = line_words kind free blocks (next_of m q) k n e
    inside_words kind free blocks false k n e = opening_words kind e

  -- a private load is on a cell, on a word of a descriptor, or on one of a block
  private_loads : (m : Meaning) (l : Layout) (p : PartState) (slot word : ℕ) (x : Spot × Access) → private_load_ask m l slot word p ≡ Some x → LogWordsStay f x
  private_loads m l p slot word x e = either_loads (nat_lt slot (slot_count l m.fixed_slots)) _ _ x (when_loads _ _ x)
      (either_loads (nat_lt slot (blocks_from m l)) _ _ x (when_loads _ _ x) (when_loads _ _ x)) e

  pub outside_words : (m : Meaning) (l : Layout) (rs : List Request) (r : ℕ) (p : PartState) (x : Spot × Access) (kind : EventKind) → is_store kind ≡ false
      → outside_ask m l rs r kind p ≡ Some x → LogWordsStay f x
  outside_words m l rs r p x kinds.EnterLoad k e = loads _ x (outside.enter_load_asked p.stage x e).1
  outside_words m l rs r p x kinds.Announce k e = off _ _ x (outside.announce_asked r p.stage x e).2 refl
  outside_words m l rs r p x kinds.EnterAgain k e = loads _ x (outside.enter_again_asked p x e).1
  outside_words m l rs r p x kinds.Idle k e = off _ _ x (outside.idle_asked r p x e).3 refl
  outside_words m l rs r p x kinds.ScanEpoch k e = loads _ x (outside.enter_load_asked p.stage x e).1
  outside_words m l rs r p x (kinds.ScanOne n) k e = loads _ x (outside.scan_one_asked l n p.stage x e).4
  outside_words m l rs r p x kinds.Advance k e = off _ _ x (outside.advance_asked l p.stage x e).5 refl
  outside_words m l rs r p x kinds.Split k e = loads _ x (outside.split_asked l r p x e)
  outside_words m l rs r p x (kinds.Join worker) k e = loads _ x (if_some _ _ x e).1
  outside_words m l rs r p x (kinds.LoadCell (Some place)) k e = loads _ x (outside.read_asked m place p x e).2
  outside_words m l rs r p x (kinds.LoadEntry request reply) k e = loads _ x (outside.entry_asked request reply p x e)
  outside_words m l rs r p x (kinds.PrivateLoad slot word) k e = private_loads m l p slot word x e
  outside_words m l rs r p x (kinds.PrivateStore slot word number) k e = absurd (let y = k in cc)
  outside_words m l rs r p x (kinds.Hold thunk d) k e = off _ _ x (outside.hold_asked m l rs r thunk d p x e).is refl
  outside_words m l rs r p x (kinds.LoadThunk (Some d)) k e = loads _ x (outside.open_asked d p x e).3
  outside_words m l rs r p x (kinds.ReadPlan thunk) k e = off _ _ x (reads.read_plan_asked r thunk p x e).is refl
  outside_words m l rs r p x kinds.ReadClock k e = loads _ x (reads.read_clock_asked p x e).is
  outside_words m l rs r p x kinds.ReadReply k e = off _ _ x (reads.read_reply_asked m l rs r p x e).is refl
  outside_words m l rs r p x kinds.ReadStamp k e = off _ _ x (reads.read_stamp_asked p x e).is refl
  outside_words m l rs r p x (kinds.Guard d) k e = off _ _ x (outside.guard_asked l r d p x e).is refl
  outside_words m l rs r p x (kinds.LoadGuard n) k e = loads _ x (outside.load_guard_asked l n p x e).is
  outside_words m l rs r p x (kinds.BoardLoad word) k e = loads _ x (board.board_load_asked l r word p x e).is
  outside_words m l rs r p x (kinds.BoardTake word link) k e = off _ _ x (board.board_take_asked l r word link p x e).is refl
  outside_words m l rs r p x (kinds.BoardGive word slot) k e = off _ _ x (board.board_give_asked l r word slot p x e).is refl
  outside_words m l rs r p x _ k e = some_none x e

-- a place that isn't beyond the parts that the run knows
pub near_room : (q : RunState) (k : ℕ) → is_beyond q (Some k) ≡ false → k < room q.links
near_room q k near = let most = tested_not_less (length q.links) (k / part_words) near in omega (arith, most)

-- a run that stands before a commit, and has no block to link, makes no other step: it exchanges the log word
module _ (m : Meaning) (l : Layout) (q : RunState) (x : Spot × Access) (k : ℕ) where
  -- the step is on this log word, which stands where the run looks for it
  pub record OnLogWord : Type 0 where
    pub near : is_beyond q (Some k) ≡ false
    pub is : log_spot q.descriptor q.links k ≡ x.0

  another : (micro μ : Micro) → micro ≡ μ → commits_to μ ≡ None → commits_to micro ≡ Some k → OnLogWord
  another micro μ is none commits = some_none k (sym (ap commits_to is ∙ none) ∙ commits)

  here : (micro μ : Micro) (log proposal : ℕ) → micro ≡ μ → commits_to μ ≡ Some log → is_beyond q (Some log) ≡ false
      → (log_spot q.descriptor q.links log, Exchanges 0 proposal) ≡ x → commits_to micro ≡ Some k → OnLogWord
  here micro μ log proposal step at near is commits =
      let same : k ≡ log = some_same k log (sym commits ∙ (ap commits_to step ∙ at)) in
      record { near = ap (λ n. is_beyond q (Some n)) same ∙ near; is = ap (log_spot q.descriptor q.links) same ∙ ap (λ (y : Spot × Access). y.0) is }

  pub commit_word : (kind : EventKind) (free blocks : List ℕ) (micro : Micro) → line_ask m l kind free blocks q micro ≡ Some x → commits_to micro ≡ Some k → needs_link q micro ≡ false → OnLogWord
  commit_word kinds.Commit free blocks micro e commits n = let h = asked.commit_asked q x micro e in ⊎_elim
      (λ word. here micro _ h.log q.word word refl h.near h.is commits) (λ lock. here micro _ h.log q.word lock refl h.near h.is commits) h.step.1
  commit_word (kinds.LoadCell None) free blocks micro e commits n = another micro _ (inside.load_cell_asked q x micro e).step.1 refl commits
  commit_word kinds.ExchangeCell free blocks micro e commits n = another micro _ (inside.exchange_cell_asked q x l micro e).step.2 refl commits
  commit_word (kinds.PrivateLoad slot word) free blocks micro e commits n = another micro _ (inside.fill_load_asked q x m l slot word free micro e).3 refl commits
  commit_word (kinds.PrivateStore slot word number) free blocks micro e commits n =
      another micro _ (inside.fill_store_asked q x m l slot word number micro (unlinking (needs_link q micro) n e)).4 refl commits
    where
      unlinking : (b : Bool) → b ≡ false → cond b (block_empty_ask m l slot word number blocks q) (fill_store_ask m l slot word number q micro) ≡ Some x
          → fill_store_ask m l slot word number q micro ≡ Some x
      unlinking true is e0 = absurd (let y = is in cc)
      unlinking false is e0 = e0
  commit_word (kinds.LinkCommit b) free blocks micro e commits n = absurd (not_both (asked.link_asked q x l b micro e).needs n)
  commit_word kinds.MakeCommit free blocks micro e commits n = let h = asked.make_commit_asked q x micro e in here micro _ h.2.log (h.0 + 1) h.2.step refl h.2.near h.2.is commits
  commit_word kinds.RetireCommit free blocks micro e commits n = let h = asked.retire_commit_asked q x micro e in here micro _ h.1.log (h.0 + 1) h.1.step refl h.1.near h.1.is commits
  commit_word kinds.EpochForRetire free blocks micro e commits n = another micro _ (inside.epoch_for_retire_asked q x micro e).2 refl commits
  commit_word kinds.SetDone free blocks micro e commits n = another micro _ (inside.set_done_asked q x micro e).0 refl commits
  commit_word kinds.Release free blocks micro e commits n = another micro _ (inside.release_asked q x l micro e).step.1 refl commits
  commit_word kinds.ClockLoad free blocks micro e commits n = another micro _ (inside.clock_load_asked q x micro e).0 refl commits
  commit_word kinds.StampExchange free blocks micro e commits n = another micro _ (inside.stamp_exchange_asked q x micro e).0 refl commits
  commit_word kinds.ClockRaise free blocks micro e commits n = another micro _ (inside.clock_raise_asked q x micro e).0 refl commits
  commit_word kinds.ReplyExchange free blocks micro e commits n = another micro _ (inside.reply_exchange_asked q x micro e).1 refl commits
  commit_word kinds.NestedLoad free blocks micro e commits n = another micro _ (inside.nested_load_asked q x micro e).step.1 refl commits
  commit_word kinds.NestedHold free blocks micro e commits n = another micro _ (inside.nested_hold_asked q x l micro e).step.1 refl commits
  commit_word kinds.OutcomeLoad free blocks micro e commits n = another micro _ (inside.outcome_load_asked q x micro e).step.1 refl commits
  commit_word kinds.OutcomeCommit free blocks micro e commits n = let h = asked.outcome_commit_asked q x micro e in here micro _ h.log q.word h.step.1 refl h.near h.is commits
  commit_word _ free blocks micro e commits n = some_none x e
