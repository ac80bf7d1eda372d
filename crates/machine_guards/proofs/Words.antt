-- Which steps leave the guard words as they are.
use Rattle.std.specs.Prelude.{◌-◌, ◌/◌, ◌%◌, ◌==◌, not, nat_lt, length, cond, Bool, true, false}
use Rattle.std.proofs.Common.{◌≡◌, ℕ, zero, suc, ◌+◌, List, refl, sym, ap, ◌∙◌, Option, Some, None}
use Rattle.machine_states.specs.epoch_core.specs.small_lemmas.proofs.Bools.{not_both}
use Rattle.machine_states.specs.map_history.specs.declared.op.Request.{Request}
use Rattle.machine_states.specs.body_terms.specs.Memory.{cell_of}
use Rattle.machine_states.specs.body_terms.specs.declared.micro.Micro.{Micro}
use Rattle.machine_states.specs.body_terms.specs.declared.micro.Micro.TheVariants as micros
use Rattle.machine_states.specs.table_words.specs.declared.layout.Layout.{Layout}
use Rattle.machine_states.specs.table_words.specs.declared.spot.Spot.{Spot}
use Rattle.machine_states.specs.table_words.specs.declared.spot.Spot.TheVariants.{Guard, Cell, BlockWord, BlockLink}
use Rattle.machine_states.specs.table_words.specs.declared.access.Access.{Access}
use Rattle.machine_states.specs.table_words.specs.declared.access.Access.TheVariants.{Loads, Stores, Exchanges}
use Rattle.machine_states.specs.table_words.specs.Places.{part_words, slot_count}
use Rattle.machine_states.specs.table_words.specs.Seen.{put}
use Rattle.machine_states.specs.table_words.proofs.Seen.{put_elsewhere}
use Rattle.machine_states.specs.structure_laws.specs.Meaning.{Meaning}
use Rattle.machine_states.specs.epoch_core.specs.declared.stage.Stage.{Stage}
use Rattle.machine_states.specs.epoch_core.specs.declared.stage.Stage.TheVariants.{Idle, Announced, Loaded, Scanning}
use Rattle.machine_states.specs.runner_parts.specs.declared.event.EventKind.{EventKind}
use Rattle.machine_states.specs.runner_parts.specs.declared.event.EventKind.TheVariants as kinds
use Rattle.machine_states.specs.runner_parts.specs.declared.entries.Look.{Look}
use Rattle.machine_states.specs.runner_parts.specs.State.{RunState, PartState}
use Rattle.machine_states.specs.body_terms.specs.block_words.specs.Blocks.{part_spot, link_spot}
use Rattle.machine_states.specs.runner_steps.specs.Asks.{opening_ask, outside_ask, line_ask, inside_ask, ask_by}
use Rattle.machine_states.specs.runner_steps.specs.InRun.{commit_to, commit_ask, make_commit_to, make_commit_ask, retire_commit_ask, outcome_commit_ask, load_cell_ask, exchange_cell_ask, fill_load_ask, fill_store_ask, epoch_for_retire_ask, clock_load_ask, stamp_exchange_ask, clock_raise_ask, reply_exchange_ask, nested_load_ask, nested_hold_ask, outcome_load_ask, set_done_ask, release_ask}
use Rattle.machine_states.specs.runner_steps.specs.Outside.{Ask, when, descriptor_spot, block_spot, blocks_from, enter_load_ask, announce_ask, enter_again_by, scan_one_ask, advance_ask, entry_spot}
use Rattle.machine_states.specs.runner_steps.specs.Reads.{read_clock_ask, read_reply_ask, read_stamp_ask}
use Rattle.machine_states.specs.runner_steps.specs.Sections.{is_open_run, next_of, is_beyond, needs_link}
use Rattle.machine_states.proofs.Updates.{put_same}
use Rattle.machine_guards.proofs.Views.{is_linking}
use Rattle.machine_agreement.specs.machine_epochs.proofs.Places.{spot_by}

-- it is a guard word
abbrev is_guard : Spot → Bool
is_guard (Guard r) = true
is_guard _ = false

-- the step asks for one
abbrev asks_guard : Ask → Bool
asks_guard None = false
asks_guard (Some x) = is_guard x.0

-- the steps that store or load one
abbrev pub is_of_guards : EventKind → Bool
is_of_guards (kinds.Guard d) = true
is_of_guards (kinds.LoadGuard n) = true
is_of_guards _ = false

no_when : (b : Bool) (a : Spot) (access : Access) → is_guard a ≡ false → asks_guard (when b a access) ≡ false
no_when true a access apart = apart
no_when false a access apart = refl

either_ask : (b : Bool) (a a' : Ask) → asks_guard a ≡ false → asks_guard a' ≡ false → asks_guard (cond b a a') ≡ false
either_ask true a a' e e' = e
either_ask false a a' e e' = e'

of_entry : (request : ℕ) (reply : Bool) → is_guard (entry_spot request reply) ≡ false
of_entry request true = refl
of_entry request false = refl

of_descriptor : (b c e : Bool) (d word : ℕ) → is_guard (spot_by d word b c e) ≡ false
of_descriptor true c e d word = refl
of_descriptor false true e d word = refl
of_descriptor false false true d word = refl
of_descriptor false false false d word = refl

of_block : (b word : ℕ) → is_guard (block_spot b word) ≡ false
of_block b word = by (word == part_words)
  where
    by : (k : Bool) → is_guard (cond k (BlockLink b) (BlockWord b word)) ≡ false
    by true = refl
    by false = refl

of_part : (d : ℕ) (blocks : List ℕ) (i j : ℕ) → is_guard (part_spot d blocks i j) ≡ false
of_part d blocks zero j = refl
of_part d blocks (suc i) j = refl

of_link : (d : ℕ) (blocks : List ℕ) (i : ℕ) → is_guard (link_spot d blocks i) ≡ false
of_link d blocks zero = refl
of_link d blocks (suc i) = refl

enter_load : (st : Stage) → asks_guard (enter_load_ask st) ≡ false
enter_load Idle = refl
enter_load _ = refl

announce : (r : ℕ) (st : Stage) → asks_guard (announce_ask r st) ≡ false
announce r (Loaded e) = refl
announce r _ = refl

enter_again : (b : Bool) (st : Stage) → asks_guard (enter_again_by b st) ≡ false
enter_again true st = refl
enter_again false Announced = refl
enter_again false _ = refl

scan_one : (l : Layout) (n : ℕ) (st : Stage) → asks_guard (scan_one_ask l n st) ≡ false
scan_one l n (Scanning x next clear) = no_when _ _ _ refl
scan_one l n _ = refl

advance : (l : Layout) (st : Stage) → asks_guard (advance_ask l st) ≡ false
advance l (Scanning x next clear) = no_when _ _ _ refl
advance l _ = refl

module _ (m : Meaning) (l : Layout) (rs : List Request) (r : ℕ) where
  read_clock : (p : PartState) (o : Option Look) → asks_guard (read_clock_ask p o) ≡ false
  read_clock p None = refl
  read_clock p (Some x) = no_when _ _ _ refl

  read_reply : (p : PartState) (o : Option Look) → asks_guard (read_reply_ask m l rs r p o) ≡ false
  read_reply p None = refl
  read_reply p (Some x) = no_when _ _ _ refl

  read_stamp : (p : PartState) (o : Option Look) → asks_guard (read_stamp_ask p o) ≡ false
  read_stamp p None = refl
  read_stamp p (Some x) = no_when _ _ _ refl

  outside : (kind : EventKind) (p : PartState) → is_of_guards kind ≡ false → asks_guard (outside_ask m l rs r kind p) ≡ false
  outside kinds.EnterLoad p k = enter_load p.stage
  outside kinds.Announce p k = announce r p.stage
  outside kinds.EnterAgain p k = enter_again _ p.stage
  outside kinds.Idle p k = no_when _ _ _ refl
  outside kinds.ScanEpoch p k = enter_load p.stage
  outside (kinds.ScanOne n) p k = scan_one l n p.stage
  outside kinds.Advance p k = advance l p.stage
  outside kinds.Split p k = no_when _ _ _ refl
  outside (kinds.Join worker) p k = no_when _ _ _ refl
  outside (kinds.LoadCell (Some place)) p k = no_when _ _ _ refl
  outside (kinds.LoadEntry request reply) p k = no_when _ _ _ (of_entry request reply)
  outside (kinds.PrivateLoad slot word) p k = either_ask (nat_lt slot (slot_count l m.fixed_slots)) _ _ (no_when _ (Cell (cell_of m.fixed_cells slot word)) Loads refl)
      (either_ask (nat_lt slot (blocks_from m l)) _ _ (no_when _ (descriptor_spot (slot - slot_count l m.fixed_slots) word) Loads (of_descriptor (nat_lt word 12) (word == 12) (word == 13 + part_words) _ _)) (no_when _ (block_spot (slot - blocks_from m l) word) Loads (of_block (slot - blocks_from m l) word)))
  outside (kinds.PrivateStore slot word number) p k = either_ask (nat_lt slot (blocks_from m l)) _ _
      (no_when _ (descriptor_spot (slot - slot_count l m.fixed_slots) word) (Stores number) (of_descriptor (nat_lt word 12) (word == 12) (word == 13 + part_words) _ _)) (no_when _ (block_spot (slot - blocks_from m l) word) (Stores number) (of_block (slot - blocks_from m l) word))
  outside (kinds.Hold thunk d) p k = no_when _ _ _ refl
  outside (kinds.LoadThunk (Some d)) p k = no_when _ _ _ refl
  outside (kinds.ReadPlan thunk) p k = no_when _ _ _ refl
  outside kinds.ReadClock p k = read_clock p p.reads.look
  outside kinds.ReadReply p k = read_reply p p.reads.look
  outside kinds.ReadStamp p k = read_stamp p p.reads.look
  outside (kinds.BoardLoad word) p k = no_when _ _ _ refl
  outside (kinds.BoardTake word link) p k = no_when _ _ _ refl
  outside (kinds.BoardGive word slot) p k = no_when _ _ _ refl
  outside (kinds.Guard d) p k = absurd (let y = k in cc)
  outside (kinds.LoadGuard n) p k = absurd (let y = k in cc)
  outside _ p k = refl

-- an ask is made
abbrev asks_some : Ask → Bool
asks_some None = false
asks_some (Some x) = true

-- what a run asks before this step: no guard word, and nothing where it has to link a block first
record Row (q : RunState) (micro : Micro) (a : Ask) : Type 0 where
  apart : asks_guard a ≡ false
  stops : needs_link q micro ≡ true → asks_some a ≡ false

module _ (m : Meaning) (l : Layout) (q : RunState) where
  no_row : (micro : Micro) → Row q micro None
  no_row micro = record { apart = refl; stops = λ link. refl }

  -- before a step that is no commit
  row : (micro : Micro) (b : Bool) (a : Spot) (access : Access) → is_guard a ≡ false → needs_link q micro ≡ false → Row q micro (when b a access)
  row micro b a access apart none = record { apart = no_when b a access apart; stops = λ link. absurd (not_both link none) }

  -- and before a commit
  commits : (micro : Micro) (log number : ℕ) → needs_link q micro ≡ is_beyond q (Some log) → Row q micro (commit_to q log number)
  commits micro log number same = record {
    apart = no_when (not (is_beyond q (Some log))) (part_spot q.descriptor q.links (log / part_words) (log % part_words)) (Exchanges 0 number) (of_part q.descriptor q.links (log / part_words) (log % part_words));
    stops = λ link. stopped (is_beyond q (Some log)) (sym same ∙ link);
  }
    where
      stopped : (b : Bool) → b ≡ true → asks_some (when (not b) (part_spot q.descriptor q.links (log / part_words) (log % part_words)) (Exchanges 0 number)) ≡ false
      stopped true e = refl
      stopped false e = absurd (let y = e in cc)

  commit : (micro : Micro) → Row q micro (commit_ask q micro)
  commit (micros.Commit place log) = commits (micros.Commit place log) log q.word refl
  commit (micros.NestedCommit place log) = commits (micros.NestedCommit place log) log q.word refl
  commit micro = no_row micro

  load_cell : (micro : Micro) → Row q micro (load_cell_ask q micro)
  load_cell (micros.LoadCell place log) = row (micros.LoadCell place log) true (Cell place) Loads refl refl
  load_cell micro = no_row micro

  exchange_cell : (micro : Micro) → Row q micro (exchange_cell_ask l q micro)
  exchange_cell (micros.ExchangeCell place log value) = row (micros.ExchangeCell place log value) _ _ _ refl refl
  exchange_cell micro = no_row micro

  fill_load : (slot word : ℕ) (free : List ℕ) (micro : Micro) → Row q micro (fill_load_ask m l slot word free q micro)
  fill_load slot word free (micros.PrivateLoad cell log) = row (micros.PrivateLoad cell log) _ _ _ refl refl
  fill_load slot word free micro = no_row micro

  make_commit_of : (log : ℕ) (o : Option ℕ) → Row q (micros.MakeCommit log) (make_commit_to q log o)
  make_commit_of log None = no_row (micros.MakeCommit log)
  make_commit_of log (Some s) = commits (micros.MakeCommit log) log _ refl

  make_commit : (micro : Micro) → Row q micro (make_commit_ask q micro)
  make_commit (micros.MakeCommit log) = make_commit_of log q.made
  make_commit micro = no_row micro

  retire_commit : (micro : Micro) → Row q micro (retire_commit_ask q micro)
  retire_commit (micros.RetireCommit slot log) = commits (micros.RetireCommit slot log) log _ refl
  retire_commit micro = no_row micro

  epoch_for_retire : (micro : Micro) → Row q micro (epoch_for_retire_ask q micro)
  epoch_for_retire (micros.EpochForRetire slot log) = row (micros.EpochForRetire slot log) true _ _ refl refl
  epoch_for_retire micro = no_row micro

  clock_load : (micro : Micro) → Row q micro (clock_load_ask q micro)
  clock_load micros.ClockLoad = row micros.ClockLoad true _ _ refl refl
  clock_load micro = no_row micro

  stamp_exchange : (micro : Micro) → Row q micro (stamp_exchange_ask q micro)
  stamp_exchange micros.StampExchange = row micros.StampExchange _ _ _ refl refl
  stamp_exchange micro = no_row micro

  clock_raise : (micro : Micro) → Row q micro (clock_raise_ask q micro)
  clock_raise micros.ClockRaise = row micros.ClockRaise true _ _ refl refl
  clock_raise micro = no_row micro

  reply_exchange : (micro : Micro) → Row q micro (reply_exchange_ask q micro)
  reply_exchange (micros.ReplyExchange reply) = row (micros.ReplyExchange reply) true _ _ refl refl
  reply_exchange micro = no_row micro

  nested_load : (micro : Micro) → Row q micro (nested_load_ask q micro)
  nested_load (micros.NestedLoad place log) = row (micros.NestedLoad place log) true _ _ refl refl
  nested_load micro = no_row micro

  nested_hold : (micro : Micro) → Row q micro (nested_hold_ask l q micro)
  nested_hold (micros.NestedHold place word) = row (micros.NestedHold place word) _ _ _ refl refl
  nested_hold micro = no_row micro

  outcome_load : (micro : Micro) → Row q micro (outcome_load_ask q micro)
  outcome_load (micros.OutcomeLoad place log) = row (micros.OutcomeLoad place log) true _ _ refl refl
  outcome_load micro = no_row micro

  outcome_commit : (micro : Micro) → Row q micro (outcome_commit_ask q micro)
  outcome_commit (micros.OutcomeCommit place log) = commits (micros.OutcomeCommit place log) log q.word refl
  outcome_commit micro = no_row micro

  set_done : (micro : Micro) → Row q micro (set_done_ask q micro)
  set_done micros.SetDone = row micros.SetDone true _ _ refl refl
  set_done micro = no_row micro

  release : (micro : Micro) → Row q micro (release_ask l q micro)
  release (micros.Release place word) = row (micros.Release place word) _ _ _ refl refl
  release micro = no_row micro

  -- a step by which no block is linked
  in_line : (kind : EventKind) (free blocks : List ℕ) (micro : Micro) → is_linking kind ≡ false → Row q micro (line_ask m l kind free blocks q micro)
  in_line kinds.Commit free blocks micro n = commit micro
  in_line (kinds.LoadCell None) free blocks micro n = load_cell micro
  in_line kinds.ExchangeCell free blocks micro n = exchange_cell micro
  in_line (kinds.PrivateLoad slot word) free blocks micro n = fill_load slot word free micro
  in_line (kinds.PrivateStore slot word number) free blocks micro n = absurd (let y = n in cc)
  in_line (kinds.LinkCommit b) free blocks micro n = absurd (let y = n in cc)
  in_line kinds.MakeCommit free blocks micro n = make_commit micro
  in_line kinds.RetireCommit free blocks micro n = retire_commit micro
  in_line kinds.EpochForRetire free blocks micro n = epoch_for_retire micro
  in_line kinds.SetDone free blocks micro n = set_done micro
  in_line kinds.Release free blocks micro n = release micro
  in_line kinds.ClockLoad free blocks micro n = clock_load micro
  in_line kinds.StampExchange free blocks micro n = stamp_exchange micro
  in_line kinds.ClockRaise free blocks micro n = clock_raise micro
  in_line kinds.ReplyExchange free blocks micro n = reply_exchange micro
  in_line kinds.NestedLoad free blocks micro n = nested_load micro
  in_line kinds.NestedHold free blocks micro n = nested_hold micro
  in_line kinds.OutcomeLoad free blocks micro n = outcome_load micro
  in_line kinds.OutcomeCommit free blocks micro n = outcome_commit micro
  in_line _ free blocks micro n = no_row micro

  fill_store : (slot word number : ℕ) (micro : Micro) → asks_guard (fill_store_ask m l slot word number q micro) ≡ false
  fill_store slot word number (micros.PrivateStore cell log value) = no_when _ _ _ refl
  fill_store slot word number _ = refl

  any_line : (kind : EventKind) (free blocks : List ℕ) (micro : Micro) → asks_guard (line_ask m l kind free blocks q micro) ≡ false
  any_line (kinds.PrivateStore slot word number) free blocks micro = either_ask (needs_link q micro) _ _ (no_when _ _ _ (of_block (slot - blocks_from m l) word)) (fill_store slot word number micro)
  any_line (kinds.LinkCommit b) free blocks micro = no_when _ _ _ (of_link q.descriptor q.links (length q.links))
  any_line kind free blocks micro = (in_line kind free blocks micro refl).apart

  in_opening : (kind : EventKind) → asks_guard (opening_ask kind q) ≡ false
  in_opening (kinds.LoadThunk None) = no_when _ _ _ refl
  in_opening kinds.LoadDone = no_when _ _ _ refl
  in_opening _ = refl

  inside : (kind : EventKind) (free blocks : List ℕ) → asks_guard (inside_ask m l kind free blocks q) ≡ false
  inside kind free blocks = either_ask (is_open_run q) _ _ (any_line kind free blocks (next_of m q)) (in_opening kind)

  -- so whoever makes such a step in a run has no block to link
  pub links_nothing : (kind : EventKind) (free blocks : List ℕ) (micro : Micro) (x : Spot × Access) → is_linking kind ≡ false → line_ask m l kind free blocks q micro ≡ Some x → needs_link q micro ≡ true → ⊥
  links_nothing kind free blocks micro x n e link = not_both (ap asks_some e) ((in_line kind free blocks micro n).stops link)

-- no other step asks for a guard word
no_guard : (m : Meaning) (l : Layout) (rs : List Request) (r : ℕ) (kind : EventKind) (p : PartState) (o : Option RunState)
    → is_of_guards kind ≡ false → asks_guard (ask_by m l rs r kind p o) ≡ false
no_guard m l rs r kind p None k = outside m l rs r kind p k
no_guard m l rs r kind p (Some q) k = inside m l q kind p.nodes.free p.blocks.free

elsewhere : (f : Spot → ℕ) (a : Spot) (v i : ℕ) → is_guard a ≡ false → put f a v (Guard i) ≡ f (Guard i)
elsewhere f a v i apart = put_elsewhere f a v (Guard i) (λ same. not_both (sym (ap is_guard same)) apart)

-- so it leaves them all
pub guards_left : (m : Meaning) (l : Layout) (rs : List Request) (r : ℕ) (kind : EventKind) (p : PartState) (o : Option RunState) (x : Spot × Access)
    → is_of_guards kind ≡ false → ask_by m l rs r kind p o ≡ Some x → (f : Spot → ℕ) (v i : ℕ) → put f x.0 v (Guard i) ≡ f (Guard i)
guards_left m l rs r kind p o x k e f v i = elsewhere f x.0 v i (ap asks_guard (sym e) ∙ no_guard m l rs r kind p o k)

-- in a run every step does
pub inside_left : (m : Meaning) (l : Layout) (q : RunState) (kind : EventKind) (free blocks : List ℕ) (x : Spot × Access) → inside_ask m l kind free blocks q ≡ Some x
    → (f : Spot → ℕ) (v i : ℕ) → put f x.0 v (Guard i) ≡ f (Guard i)
inside_left m l q kind free blocks x e f v i = elsewhere f x.0 v i (ap asks_guard (sym e) ∙ inside m l q kind free blocks)

-- and so does a load
pub load_left : (f : Spot → ℕ) (a : Spot) (i : ℕ) → put f a (f a) (Guard i) ≡ f (Guard i)
load_left f a i = ap (λ (g : Spot → ℕ). g (Guard i)) (put_same f a)
