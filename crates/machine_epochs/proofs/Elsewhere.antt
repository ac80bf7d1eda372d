-- The kinds of step that change neither the epoch, nor an announcement, nor a stage.
use Rattle.std.specs.Prelude.{cond, Bool, true, false, nat_lt}
use Rattle.std.proofs.Common.{◌≡◌, ℕ, zero, suc, ◌-◌, List, refl, sym, ap, subst, Option, Some, None}
use Rattle.section_lines.specs.small_lemmas.proofs.Bools.{not_both}
use Rattle.machine_states.specs.map_history.specs.declared.op.Request.{Request}
use Rattle.machine_states.specs.body_terms.specs.declared.micro.Micro.{Micro}
use Rattle.machine_states.specs.body_terms.specs.declared.micro.Micro.TheVariants as micros
use Rattle.machine_states.specs.table_words.specs.declared.layout.Layout.{Layout}
use Rattle.machine_states.specs.table_words.specs.declared.spot.Spot.{Spot}
use Rattle.machine_states.specs.table_words.specs.declared.spot.Spot.TheVariants.{Epoch, Announcement, ThunkWord, DoneWord, LogWord, LinkWord, BlockWord, BlockLink}
use Rattle.machine_states.specs.table_words.specs.declared.access.Access.{Access}
use Rattle.machine_states.specs.table_words.specs.declared.access.Access.TheVariants.{Loads, Exchanges}
use Rattle.machine_states.specs.table_words.specs.Access.{written}
use Rattle.machine_states.specs.table_words.specs.Seen.{put}
use Rattle.machine_states.specs.table_words.proofs.Seen.{put_elsewhere}
use Rattle.machine_states.specs.structure_laws.specs.Meaning.{Meaning}
use Rattle.machine_states.specs.runner_parts.specs.declared.event.EventKind.{EventKind}
use Rattle.machine_states.specs.runner_parts.specs.declared.event.EventKind.TheVariants as kinds
use Rattle.machine_states.specs.runner_parts.specs.declared.entries.Look.{Look}
use Rattle.machine_states.specs.runner_parts.specs.State.{RunState, PartState}
use Rattle.machine_states.specs.runner_steps.specs.Sections.{is_open_run, next_of, needs_link}
use Rattle.machine_states.specs.runner_steps.specs.Outside.{when, blocks_from}
use Rattle.machine_states.specs.table_words.specs.Places.{slot_count}
use Rattle.machine_states.specs.runner_steps.specs.Reads.{read_clock_ask, read_reply_ask, read_stamp_ask}
use Rattle.machine_states.specs.runner_steps.specs.InRun.{commit_ask, make_commit_ask, make_commit_to, retire_commit_ask, outcome_commit_ask, private_store_in_run_ask, block_empty_ask, link_commit_ask, load_cell_ask, exchange_cell_ask, fill_load_ask, fill_store_ask, epoch_for_retire_ask, clock_load_ask, stamp_exchange_ask, clock_raise_ask, reply_exchange_ask, nested_load_ask, nested_hold_ask, outcome_load_ask, set_done_ask, release_ask}
use Rattle.machine_states.specs.runner_steps.specs.After.{outside_after, line_after, inside_after, after_by}
use Rattle.machine_states.specs.body_terms.specs.block_words.specs.Blocks.{part_spot, link_spot}
use Rattle.machine_states.specs.runner_steps.specs.Asks.{outside_ask, line_ask, opening_ask, ask_by}
use Rattle.machine_states.specs.runner_steps.specs.Guards.{load_guard_by}
use Rattle.machine_states.specs.epoch_core.specs.declared.stage.Stage.{Stage}
use Rattle.machine_states.specs.epoch_core.specs.declared.stage.Stage.TheVariants.{Idle, Loaded, Announced, Entered, Scanning}
use Rattle.machine_states.specs.runner_steps.specs.AfterInRun.{fill_loaded, make_committed}
use Rattle.machine_states.proofs.Sights.{if_some, some_none}
use Rattle.machine_states.proofs.Steps.{some_same}
use Rattle.machine_states.proofs.Updates.{put_same, put_kept}

-- whether this kind changes the epoch, an announcement or a stage
abbrev pub is_entry : EventKind → Bool
is_entry kinds.EnterLoad = true
is_entry kinds.Announce = true
is_entry kinds.EnterAgain = true
is_entry kinds.Idle = true
is_entry kinds.ScanEpoch = true
is_entry (kinds.ScanOne n) = true
is_entry kinds.Advance = true
is_entry _ = false

-- the epoch or an announcement
abbrev is_entry_word : Spot → Bool
is_entry_word Epoch = true
is_entry_word (Announcement r) = true
is_entry_word _ = false

-- this step on this word leaves the epoch and the announcements as they were
abbrev pub Quiet : Spot × Access → Type 0
Quiet x = (f : Spot → ℕ) → (put f x.0 (written x.1 (f x.0)) Epoch ≡ f Epoch) × ((r : ℕ) → put f x.0 (written x.1 (f x.0)) (Announcement r) ≡ f (Announcement r))

quiet_word : (a : Spot) (access : Access) → is_entry_word a ≡ false → Quiet (a, access)
quiet_word a access e f = (
  put_elsewhere f a _ Epoch (λ same. not_both (sym (ap is_entry_word same)) e),
  λ r. put_elsewhere f a _ (Announcement r) (λ same. not_both (sym (ap is_entry_word same)) e),
)

quiet_load : (a : Spot) → Quiet (a, Loads)
quiet_load a f = (ap (λ (g : Spot → ℕ). g Epoch) (put_same f a), λ r. ap (λ (g : Spot → ℕ). g (Announcement r)) (put_same f a))

quiet_kept : (a : Spot) → Quiet (a, Exchanges 0 0)
quiet_kept a f = (ap (λ (g : Spot → ℕ). g Epoch) (put_kept f a), λ r. ap (λ (g : Spot → ℕ). g (Announcement r)) (put_kept f a))

of_word : (a : Spot) (access : Access) (x : Spot × Access) → is_entry_word a ≡ false → Some (a, access) ≡ Some x → Quiet x
of_word a access x q e = subst Quiet (some_same _ _ e) (quiet_word a access q)

when_word : (b : Bool) (a : Spot) (access : Access) (x : Spot × Access) → is_entry_word a ≡ false → when b a access ≡ Some x → Quiet x
when_word b a access x q e = subst Quiet (if_some b _ _ e).1 (quiet_word a access q)

when_load : (b : Bool) (a : Spot) (x : Spot × Access) → when b a Loads ≡ Some x → Quiet x
when_load b a x e = subst Quiet (if_some b _ _ e).1 (quiet_load a)

when_kept : (b : Bool) (a : Spot) (x : Spot × Access) → when b a (Exchanges 0 0) ≡ Some x → Quiet x
when_kept b a x e = subst Quiet (if_some b _ _ e).1 (quiet_kept a)

either_load : (c b b' : Bool) (a a' : Spot) (x : Spot × Access) → cond c (when b a Loads) (when b' a' Loads) ≡ Some x → Quiet x
either_load true b b' a a' x e = when_load b a x e
either_load false b b' a a' x e = when_load b' a' x e

one_load : (c c' b b' b'' : Bool) (a a' a'' : Spot) (x : Spot × Access) → cond c (when b a Loads) (cond c' (when b' a' Loads) (when b'' a'' Loads)) ≡ Some x → Quiet x
one_load true c' b b' b'' a a' a'' x e = when_load b a x e
one_load false c' b b' b'' a a' a'' x e = either_load c' b' b'' a' a'' x e

either_word : (c b b' : Bool) (a a' : Spot) (access access' : Access) (x : Spot × Access) → is_entry_word a ≡ false → is_entry_word a' ≡ false
    → cond c (when b a access) (when b' a' access') ≡ Some x → Quiet x
either_word true b b' a a' access access' x q q' e = when_word b a access x q e
either_word false b b' a a' access access' x q q' e = when_word b' a' access' x q' e

in_block : (c : Bool) (b word : ℕ) → is_entry_word (cond c (BlockLink b) (BlockWord b word)) ≡ false
in_block true b word = refl
in_block false b word = refl

in_part : (d : ℕ) (links : List ℕ) (i j : ℕ) → is_entry_word (part_spot d links i j) ≡ false
in_part d links zero j = refl
in_part d links (suc i) j = refl

in_link : (d : ℕ) (links : List ℕ) (i : ℕ) → is_entry_word (link_spot d links i) ≡ false
in_link d links zero = refl
in_link d links (suc i) = refl

in_descriptor : (b c e : Bool) (d word : ℕ) → is_entry_word (cond b (ThunkWord d word) (cond c (DoneWord d) (cond e (LinkWord d) (LogWord d (word - 13))))) ≡ false
in_descriptor true c e d word = refl
in_descriptor false true e d word = refl
in_descriptor false false true d word = refl
in_descriptor false false false d word = refl

module _ (m : Meaning) (l : Layout) (rs : List Request) where
  quiet_clock : (p : PartState) (o : Option Look) (x : Spot × Access) → read_clock_ask p o ≡ Some x → Quiet x
  quiet_clock p None x e = some_none x e
  quiet_clock p (Some look) x e = when_load _ _ x e

  quiet_reply : (r : ℕ) (p : PartState) (o : Option Look) (x : Spot × Access) → read_reply_ask m l rs r p o ≡ Some x → Quiet x
  quiet_reply r p None x e = some_none x e
  quiet_reply r p (Some look) x e = when_word _ _ _ x refl e

  quiet_stamp : (p : PartState) (o : Option Look) (x : Spot × Access) → read_stamp_ask p o ≡ Some x → Quiet x
  quiet_stamp p None x e = some_none x e
  quiet_stamp p (Some look) x e = when_word _ _ _ x refl e

  quiet_guard : (n looked : ℕ) (st : Stage) (x : Spot × Access) → load_guard_by l n looked st ≡ Some x → Quiet x
  quiet_guard n looked Idle x e = when_load _ _ x e
  quiet_guard n looked (Loaded g) x e = some_none x e
  quiet_guard n looked Announced x e = some_none x e
  quiet_guard n looked (Entered g) x e = some_none x e
  quiet_guard n looked (Scanning y next clear) x e = some_none x e

  quiet_outside : (r : ℕ) (kind : EventKind) (p : PartState) (x : Spot × Access) → is_entry kind ≡ false → outside_ask m l rs r kind p ≡ Some x → Quiet x
  quiet_outside r kinds.EnterLoad p x k e = absurd (let y = k in cc)
  quiet_outside r kinds.Announce p x k e = absurd (let y = k in cc)
  quiet_outside r kinds.EnterAgain p x k e = absurd (let y = k in cc)
  quiet_outside r kinds.Idle p x k e = absurd (let y = k in cc)
  quiet_outside r kinds.ScanEpoch p x k e = absurd (let y = k in cc)
  quiet_outside r (kinds.ScanOne n) p x k e = absurd (let y = k in cc)
  quiet_outside r kinds.Advance p x k e = absurd (let y = k in cc)
  quiet_outside r kinds.Split p x k e = when_load _ _ x e
  quiet_outside r (kinds.Join worker) p x k e = when_load _ _ x e
  quiet_outside r (kinds.LoadCell (Some place)) p x k e = when_load _ _ x e
  quiet_outside r (kinds.LoadEntry request reply) p x k e = when_load _ _ x e
  quiet_outside r (kinds.PrivateLoad slot word) p x k e = one_load (nat_lt slot (slot_count l m.fixed_slots)) (nat_lt slot (blocks_from m l)) _ _ _ _ _ _ x e
  quiet_outside r (kinds.PrivateStore slot word number) p x k e = either_word _ _ _ _ _ _ _ x (in_descriptor _ _ _ _ _) (in_block _ _ _) e
  quiet_outside r (kinds.Hold thunk d) p x k e = when_word _ _ _ x refl e
  quiet_outside r (kinds.LoadThunk (Some d)) p x k e = when_load _ _ x e
  quiet_outside r (kinds.ReadPlan thunk) p x k e = when_kept _ _ x e
  quiet_outside r kinds.ReadClock p x k e = quiet_clock p p.reads.look x e
  quiet_outside r kinds.ReadReply p x k e = quiet_reply r p p.reads.look x e
  quiet_outside r kinds.ReadStamp p x k e = quiet_stamp p p.reads.look x e
  quiet_outside r (kinds.Guard d) p x k e = when_word _ _ _ x refl e
  quiet_outside r (kinds.LoadGuard n) p x k e = quiet_guard n _ p.stage x e
  quiet_outside r (kinds.BoardLoad word) p x k e = when_load _ _ x e
  quiet_outside r (kinds.BoardTake word link) p x k e = when_word _ _ _ x refl e
  quiet_outside r (kinds.BoardGive word slot) p x k e = when_word _ _ _ x refl e
  quiet_outside r _ p x k e = some_none x e

module _ (l : Layout) (q : RunState) (x : Spot × Access) where
  quiet_commit : (micro : Micro) → commit_ask q micro ≡ Some x → Quiet x
  quiet_commit (micros.Commit place log) e = when_word _ _ _ x (in_part q.descriptor q.links _ _) e
  quiet_commit (micros.NestedCommit place log) e = when_word _ _ _ x (in_part q.descriptor q.links _ _) e
  quiet_commit _ e = some_none x e

  quiet_load_cell : (micro : Micro) → load_cell_ask q micro ≡ Some x → Quiet x
  quiet_load_cell (micros.LoadCell place log) e = of_word _ _ x refl e
  quiet_load_cell _ e = some_none x e

  quiet_exchange_cell : (micro : Micro) → exchange_cell_ask l q micro ≡ Some x → Quiet x
  quiet_exchange_cell (micros.ExchangeCell place log value) e = when_word _ _ _ x refl e
  quiet_exchange_cell _ e = some_none x e

  quiet_fill_load : (m : Meaning) (slot word : ℕ) (free : List ℕ) (micro : Micro) → fill_load_ask m l slot word free q micro ≡ Some x → Quiet x
  quiet_fill_load m slot word free (micros.PrivateLoad cell log) e = when_word _ _ _ x refl e
  quiet_fill_load m slot word free _ e = some_none x e

  quiet_fill_store : (m : Meaning) (slot word number : ℕ) (micro : Micro) → fill_store_ask m l slot word number q micro ≡ Some x → Quiet x
  quiet_fill_store m slot word number (micros.PrivateStore cell log value) e = when_word _ _ _ x refl e
  quiet_fill_store m slot word number _ e = some_none x e

  quiet_run_store : (m : Meaning) (slot word number : ℕ) (blocks : List ℕ) (micro : Micro) → private_store_in_run_ask m l slot word number blocks q micro ≡ Some x → Quiet x
  quiet_run_store m slot word number blocks micro e = by (needs_link q micro) e
    where
      by : (b : Bool) → cond b (block_empty_ask m l slot word number blocks q) (fill_store_ask m l slot word number q micro) ≡ Some x → Quiet x
      by true e = when_word _ _ _ x (in_block _ _ _) e
      by false e = quiet_fill_store m slot word number micro e

  quiet_link_commit : (b : ℕ) (micro : Micro) → link_commit_ask l b q micro ≡ Some x → Quiet x
  quiet_link_commit b micro e = when_word _ _ _ x (in_link q.descriptor q.links _) e

  quiet_make_commit_to : (log : ℕ) (o : Option ℕ) → make_commit_to q log o ≡ Some x → Quiet x
  quiet_make_commit_to log None e = some_none x e
  quiet_make_commit_to log (Some s) e = when_word _ _ _ x (in_part q.descriptor q.links _ _) e

  quiet_make_commit : (micro : Micro) → make_commit_ask q micro ≡ Some x → Quiet x
  quiet_make_commit (micros.MakeCommit log) e = quiet_make_commit_to log q.made e
  quiet_make_commit _ e = some_none x e

  quiet_retire_commit : (micro : Micro) → retire_commit_ask q micro ≡ Some x → Quiet x
  quiet_retire_commit (micros.RetireCommit slot log) e = when_word _ _ _ x (in_part q.descriptor q.links _ _) e
  quiet_retire_commit _ e = some_none x e

  quiet_epoch_for_retire : (micro : Micro) → epoch_for_retire_ask q micro ≡ Some x → Quiet x
  quiet_epoch_for_retire (micros.EpochForRetire slot log) e = when_load true _ x e
  quiet_epoch_for_retire _ e = some_none x e

  quiet_clock_load : (micro : Micro) → clock_load_ask q micro ≡ Some x → Quiet x
  quiet_clock_load micros.ClockLoad e = of_word _ _ x refl e
  quiet_clock_load _ e = some_none x e

  quiet_stamp_exchange : (micro : Micro) → stamp_exchange_ask q micro ≡ Some x → Quiet x
  quiet_stamp_exchange micros.StampExchange e = when_word _ _ _ x refl e
  quiet_stamp_exchange _ e = some_none x e

  quiet_clock_raise : (micro : Micro) → clock_raise_ask q micro ≡ Some x → Quiet x
  quiet_clock_raise micros.ClockRaise e = of_word _ _ x refl e
  quiet_clock_raise _ e = some_none x e

  quiet_reply_exchange : (micro : Micro) → reply_exchange_ask q micro ≡ Some x → Quiet x
  quiet_reply_exchange (micros.ReplyExchange reply) e = of_word _ _ x refl e
  quiet_reply_exchange _ e = some_none x e

  quiet_nested_load : (micro : Micro) → nested_load_ask q micro ≡ Some x → Quiet x
  quiet_nested_load (micros.NestedLoad place log) e = of_word _ _ x refl e
  quiet_nested_load _ e = some_none x e

  quiet_nested_hold : (micro : Micro) → nested_hold_ask l q micro ≡ Some x → Quiet x
  quiet_nested_hold (micros.NestedHold place word) e = when_word _ _ _ x refl e
  quiet_nested_hold _ e = some_none x e

  quiet_outcome_load : (micro : Micro) → outcome_load_ask q micro ≡ Some x → Quiet x
  quiet_outcome_load (micros.OutcomeLoad place log) e = of_word _ _ x refl e
  quiet_outcome_load _ e = some_none x e

  quiet_outcome_commit : (micro : Micro) → outcome_commit_ask q micro ≡ Some x → Quiet x
  quiet_outcome_commit (micros.OutcomeCommit place log) e = when_word _ _ _ x (in_part q.descriptor q.links _ _) e
  quiet_outcome_commit _ e = some_none x e

  quiet_set_done : (micro : Micro) → set_done_ask q micro ≡ Some x → Quiet x
  quiet_set_done micros.SetDone e = of_word _ _ x refl e
  quiet_set_done _ e = some_none x e

  quiet_release : (micro : Micro) → release_ask l q micro ≡ Some x → Quiet x
  quiet_release (micros.Release place word) e = when_word _ _ _ x refl e
  quiet_release _ e = some_none x e

  quiet_line : (m : Meaning) (kind : EventKind) (free blocks : List ℕ) (micro : Micro) → line_ask m l kind free blocks q micro ≡ Some x → Quiet x
  quiet_line m kinds.Commit free blocks micro e = quiet_commit micro e
  quiet_line m (kinds.LoadCell None) free blocks micro e = quiet_load_cell micro e
  quiet_line m kinds.ExchangeCell free blocks micro e = quiet_exchange_cell micro e
  quiet_line m (kinds.PrivateLoad slot word) free blocks micro e = quiet_fill_load m slot word free micro e
  quiet_line m (kinds.PrivateStore slot word number) free blocks micro e = quiet_run_store m slot word number blocks micro e
  quiet_line m (kinds.LinkCommit b) free blocks micro e = quiet_link_commit b micro e
  quiet_line m kinds.MakeCommit free blocks micro e = quiet_make_commit micro e
  quiet_line m kinds.RetireCommit free blocks micro e = quiet_retire_commit micro e
  quiet_line m kinds.EpochForRetire free blocks micro e = quiet_epoch_for_retire micro e
  quiet_line m kinds.SetDone free blocks micro e = quiet_set_done micro e
  quiet_line m kinds.Release free blocks micro e = quiet_release micro e
  quiet_line m kinds.ClockLoad free blocks micro e = quiet_clock_load micro e
  quiet_line m kinds.StampExchange free blocks micro e = quiet_stamp_exchange micro e
  quiet_line m kinds.ClockRaise free blocks micro e = quiet_clock_raise micro e
  quiet_line m kinds.ReplyExchange free blocks micro e = quiet_reply_exchange micro e
  quiet_line m kinds.NestedLoad free blocks micro e = quiet_nested_load micro e
  quiet_line m kinds.NestedHold free blocks micro e = quiet_nested_hold micro e
  quiet_line m kinds.OutcomeLoad free blocks micro e = quiet_outcome_load micro e
  quiet_line m kinds.OutcomeCommit free blocks micro e = quiet_outcome_commit micro e
  quiet_line m _ free blocks micro e = some_none x e

  quiet_opening : (kind : EventKind) → opening_ask kind q ≡ Some x → Quiet x
  quiet_opening (kinds.LoadThunk None) e = when_word _ _ _ x refl e
  quiet_opening kinds.LoadDone e = when_word _ _ _ x refl e
  quiet_opening _ e = some_none x e

  quiet_inside : (m : Meaning) (kind : EventKind) (free blocks : List ℕ) (b : Bool) → cond b (line_ask m l kind free blocks q (next_of m q)) (opening_ask kind q) ≡ Some x → Quiet x
  quiet_inside m kind free blocks true e = quiet_line m kind free blocks (next_of m q) e
  quiet_inside m kind free blocks false e = quiet_opening kind e

-- in a run no kind changes an entry; outside, none but those that say so
pub quiet_asks : (m : Meaning) (l : Layout) (rs : List Request) (r : ℕ) (kind : EventKind) (p : PartState) (o : Option RunState) (x : Spot × Access)
    → is_entry kind ≡ false → ask_by m l rs r kind p o ≡ Some x → Quiet x
quiet_asks m l rs r kind p None x k e = quiet_outside m l rs r kind p x k e
quiet_asks m l rs r kind p (Some q) x k e = quiet_inside l q x m kind p.nodes.free p.blocks.free (is_open_run q) e

either_stage : (b : Bool) (p p' p'' : PartState) → p'.stage ≡ p.stage → p''.stage ≡ p.stage → (cond b p' p'').stage ≡ p.stage
either_stage true p p' p'' e e' = e
either_stage false p p' p'' e e' = e'

-- the stage stays
module _ (m : Meaning) (l : Layout) where
  outside_stage : (kind : EventKind) (p : PartState) (found : ℕ) → is_entry kind ≡ false → (outside_after m l kind p found).stage ≡ p.stage
  outside_stage kinds.EnterLoad p found k = absurd (let y = k in cc)
  outside_stage kinds.Announce p found k = absurd (let y = k in cc)
  outside_stage kinds.EnterAgain p found k = absurd (let y = k in cc)
  outside_stage kinds.Idle p found k = absurd (let y = k in cc)
  outside_stage kinds.ScanEpoch p found k = absurd (let y = k in cc)
  outside_stage (kinds.ScanOne n) p found k = absurd (let y = k in cc)
  outside_stage kinds.Advance p found k = absurd (let y = k in cc)
  outside_stage kinds.Split p found k = either_stage _ p _ _ refl refl
  outside_stage (kinds.Join worker) p found k = refl
  outside_stage (kinds.LoadCell (Some place)) p found k = refl
  outside_stage (kinds.LoadEntry request reply) p found k = refl
  outside_stage (kinds.PrivateLoad slot word) p found k = either_stage _ p _ _ refl refl
  outside_stage (kinds.PrivateStore slot word number) p found k = refl
  outside_stage (kinds.Hold thunk d) p found k = either_stage _ p _ _ refl refl
  outside_stage (kinds.LoadThunk (Some d)) p found k = refl
  outside_stage _ p found k = refl

  module _ (p : PartState) (q : RunState) (found : ℕ) where
    filled_stage : (slot : ℕ) (o : Option ℕ) → (fill_loaded m l slot p q o found).stage ≡ p.stage
    filled_stage slot None = refl
    filled_stage slot (Some s) = refl

    made_stage : (o : Option ℕ) → (make_committed m l p q o found).stage ≡ p.stage
    made_stage None = refl
    made_stage (Some s) = refl

    line_stage : (kind : EventKind) (micro : Micro) → (line_after m l kind p q micro found).stage ≡ p.stage
    line_stage kinds.Commit micro = refl
    line_stage (kinds.LoadCell place) micro = refl
    line_stage kinds.ExchangeCell micro = refl
    line_stage (kinds.PrivateLoad slot word) micro = filled_stage slot q.made
    line_stage (kinds.PrivateStore slot word number) micro = refl
    line_stage kinds.MakeCommit micro = made_stage q.made
    line_stage kinds.RetireCommit micro = refl
    line_stage kinds.EpochForRetire micro = refl
    line_stage kinds.SetDone micro = refl
    line_stage kinds.Release micro = either_stage _ p _ _ refl refl
    line_stage kinds.ClockLoad micro = refl
    line_stage kinds.StampExchange micro = either_stage _ p _ _ refl refl
    line_stage kinds.ClockRaise micro = refl
    line_stage kinds.ReplyExchange micro = refl
    line_stage kinds.NestedLoad micro = refl
    line_stage kinds.NestedHold micro = refl
    line_stage kinds.OutcomeLoad micro = refl
    line_stage kinds.OutcomeCommit micro = refl
    line_stage _ micro = refl

    inside_stage : (kind : EventKind) → (inside_after m l kind p q found).stage ≡ p.stage
    inside_stage kind = either_stage (is_open_run q) p _ _ (line_stage kind (next_of m q)) refl

  pub stage_kept : (kind : EventKind) (p : PartState) (o : Option RunState) (found : ℕ) → is_entry kind ≡ false → (after_by m l kind p o found).stage ≡ p.stage
  stage_kept kind p None found k = outside_stage kind p found k
  stage_kept kind p (Some q) found k = inside_stage p q found kind
