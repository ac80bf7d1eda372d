-- What it says of a run that an event of its is enabled.
use Rattle.std.specs.Prelude.{◌==◌, ◌&&◌, ◌-◌, Bool, true, false, nat_lt, length, if◌then◌else◌}
use Rattle.std.proofs.Common.{◌≡◌, ◌⊎◌, inl, inr, ℕ, ◌+◌, ◌<◌, List, refl, Option, Some, None}
use Rattle.std.proofs.Common.{arith}
use Rattle.std.proofs.lemmas.Bool.Decides.{nat_tests}
use Rattle.machine_states.specs.body_terms.specs.declared.micro.Source.{Source}
use Rattle.machine_states.specs.body_terms.specs.declared.micro.Micro.{Micro}
use Rattle.machine_states.specs.body_terms.specs.declared.micro.Micro.TheVariants as micros
use Rattle.machine_states.specs.table_words.specs.declared.layout.Layout.{Layout}
use Rattle.machine_states.specs.table_words.specs.declared.spot.Spot.{Spot}
use Rattle.machine_states.specs.table_words.specs.declared.spot.Spot.TheVariants.{Epoch, Clock, Stamp, Reply, Cell, ThunkWord, DoneWord}
use Rattle.machine_states.specs.table_words.specs.declared.access.Access.{Access}
use Rattle.machine_states.specs.table_words.specs.declared.access.Access.TheVariants.{Loads, Stores, Exchanges}
use Rattle.machine_states.specs.table_words.specs.Places.{slot_count}
use Rattle.machine_states.specs.structure_laws.specs.Meaning.{Meaning}
use Rattle.machine_states.specs.runner_parts.specs.State.{RunState}
use Rattle.machine_states.specs.runner_steps.specs.Sections.{thunk_of, is_beyond, needs_link}
use Rattle.section_lines.specs.small_lemmas.proofs.Bools.{negated as not_so}
use Rattle.machine_states.specs.runner_steps.specs.Outside.{block_spot, blocks_from}
use Rattle.machine_states.specs.body_terms.specs.block_words.specs.Blocks.{link_spot, log_spot}
use Rattle.machine_states.specs.runner_steps.specs.InRun.{commit_ask, make_commit_to, make_commit_ask, retire_commit_ask, outcome_commit_ask, private_store_in_run_ask, block_empty_ask, link_commit_ask, open_more_ask, load_done_ask, load_cell_ask, exchange_cell_ask, make_slot, is_slot, fill_load_ask, fill_store_ask, epoch_for_retire_ask, clock_load_ask, last_clock, stamp_exchange_ask, clock_raise_ask, reply_exchange_ask, nested_load_ask, nested_hold_ask, outcome_load_ask, set_done_ask, release_ask}
use Rattle.machine_states.proofs.Steps.{some_same}
use Rattle.machine_states.proofs.Sights.{if_some, some_none}

module _ (q : RunState) (x : Spot × Access) where
  -- the step is one on this cell
  pub record AtCell (micro : Micro) (P : ℕ → Micro → Type 0) : Type 0 where
    pub place : ℕ
    pub step : P place micro
    pub access : Access
    pub is : (Cell place, access) ≡ x

  pub load_cell_asked : (micro : Micro) → load_cell_ask q micro ≡ Some x → AtCell micro (λ p μ. (log : ℕ) × (μ ≡ micros.LoadCell p log))
  load_cell_asked (micros.LoadCell place log) e = record { place = place; step = (log, refl); access = Loads; is = some_same _ _ e }
  load_cell_asked _ e = some_none x e

  pub exchange_cell_asked : (l : Layout) (micro : Micro) → exchange_cell_ask l q micro ≡ Some x → AtCell micro (λ p μ. (log : ℕ) × (v : Source) × (μ ≡ micros.ExchangeCell p log v))
  exchange_cell_asked l (micros.ExchangeCell place log v) e = record { place = place; step = (log, v, refl); access = _; is = (if_some _ _ _ e).1 }
  exchange_cell_asked l _ e = some_none x e

  pub nested_load_asked : (micro : Micro) → nested_load_ask q micro ≡ Some x → AtCell micro (λ p μ. (log : ℕ) × (μ ≡ micros.NestedLoad p log))
  nested_load_asked (micros.NestedLoad place log) e = record { place = place; step = (log, refl); access = Loads; is = some_same _ _ e }
  nested_load_asked _ e = some_none x e

  pub nested_hold_asked : (l : Layout) (micro : Micro) → nested_hold_ask l q micro ≡ Some x → AtCell micro (λ p μ. (word : ℕ) × (μ ≡ micros.NestedHold p word))
  nested_hold_asked l (micros.NestedHold place word) e = record { place = place; step = (word, refl); access = _; is = (if_some _ _ _ e).1 }
  nested_hold_asked l _ e = some_none x e

  pub outcome_load_asked : (micro : Micro) → outcome_load_ask q micro ≡ Some x → AtCell micro (λ p μ. (log : ℕ) × (μ ≡ micros.OutcomeLoad p log))
  outcome_load_asked (micros.OutcomeLoad place log) e = record { place = place; step = (log, refl); access = Loads; is = some_same _ _ e }
  outcome_load_asked _ e = some_none x e

  pub release_asked : (l : Layout) (micro : Micro) → release_ask l q micro ≡ Some x → AtCell micro (λ p μ. (word : ℕ) × (μ ≡ micros.Release p word))
  release_asked l (micros.Release place word) e = record { place = place; step = (word, refl); access = _; is = (if_some _ _ _ e).1 }
  release_asked l _ e = some_none x e

  pub clock_load_asked : (micro : Micro) → clock_load_ask q micro ≡ Some x → (micro ≡ micros.ClockLoad) × ((Clock, Loads) ≡ x)
  clock_load_asked micros.ClockLoad e = (refl, some_same _ _ e)
  clock_load_asked _ e = some_none x e

  pub stamp_exchange_asked : (micro : Micro) → stamp_exchange_ask q micro ≡ Some x → (micro ≡ micros.StampExchange) × (nat_lt q.word last_clock ≡ true) × (access : Access) × ((Stamp (thunk_of q.opened).request, access) ≡ x)
  stamp_exchange_asked micros.StampExchange e = let h = if_some _ _ _ e in (refl, h.0, _, h.1)
  stamp_exchange_asked _ e = some_none x e

  pub clock_raise_asked : (micro : Micro) → clock_raise_ask q micro ≡ Some x → (micro ≡ micros.ClockRaise) × (access : Access) × ((Clock, access) ≡ x)
  clock_raise_asked micros.ClockRaise e = (refl, _, some_same _ _ e)
  clock_raise_asked _ e = some_none x e

  pub reply_exchange_asked : (micro : Micro) → reply_exchange_ask q micro ≡ Some x → (reply : ℕ) × (micro ≡ micros.ReplyExchange reply) × (access : Access) × ((Reply (thunk_of q.opened).request, access) ≡ x)
  reply_exchange_asked (micros.ReplyExchange reply) e = (reply, refl, _, some_same _ _ e)
  reply_exchange_asked _ e = some_none x e

  -- the step agrees on a word at this place of the log
  pub record AtLog (micro : Micro) (proposal : ℕ) (P : ℕ → Micro → Type 0) : Type 0 where
    pub log : ℕ
    pub step : P log micro
    pub linked : is_beyond q (Some log) ≡ false
    pub is : (log_spot q.descriptor q.links log, Exchanges 0 proposal) ≡ x

  pub commit_asked : (micro : Micro) → commit_ask q micro ≡ Some x → AtLog micro q.word (λ k μ. (place : ℕ) × ((μ ≡ micros.Commit place k) ⊎ (μ ≡ micros.NestedCommit place k)))
  commit_asked (micros.Commit place log) e = record { log = log; step = (place, inl refl); linked = not_so _ (if_some _ _ _ e).0; is = (if_some _ _ _ e).1 }
  commit_asked (micros.NestedCommit place log) e = record { log = log; step = (place, inr refl); linked = not_so _ (if_some _ _ _ e).0; is = (if_some _ _ _ e).1 }
  commit_asked _ e = some_none x e

  pub outcome_commit_asked : (micro : Micro) → outcome_commit_ask q micro ≡ Some x → AtLog micro q.word (λ k μ. (place : ℕ) × (μ ≡ micros.OutcomeCommit place k))
  outcome_commit_asked (micros.OutcomeCommit place log) e = record { log = log; step = (place, refl); linked = not_so _ (if_some _ _ _ e).0; is = (if_some _ _ _ e).1 }
  outcome_commit_asked _ e = some_none x e

  make_asked : (o : Option ℕ) (log : ℕ) → make_commit_to q log o ≡ Some x → (slot : ℕ) × (o ≡ Some slot) × (is_beyond q (Some log) ≡ false) × ((log_spot q.descriptor q.links log, Exchanges 0 (slot + 1)) ≡ x)
  make_asked None log e = some_none x e
  make_asked (Some slot) log e = let h = if_some _ _ _ e in (slot, refl, not_so _ h.0, h.1)

  pub make_commit_asked : (micro : Micro) → make_commit_ask q micro ≡ Some x → (slot : ℕ) × (q.made ≡ Some slot) × AtLog micro (slot + 1) (λ k μ. μ ≡ micros.MakeCommit k)
  make_commit_asked (micros.MakeCommit log) e = let h = make_asked q.made log e in (h.0, h.1, record { log = log; step = refl; linked = h.2; is = h.3 })
  make_commit_asked _ e = some_none x e

  pub retire_commit_asked : (micro : Micro) → retire_commit_ask q micro ≡ Some x → (slot : ℕ) × AtLog micro (slot + 1) (λ k μ. μ ≡ micros.RetireCommit slot k)
  retire_commit_asked (micros.RetireCommit slot log) e = (slot, record { log = log; step = refl; linked = not_so _ (if_some _ _ _ e).0; is = (if_some _ _ _ e).1 })
  retire_commit_asked _ e = some_none x e

  pub epoch_for_retire_asked : (micro : Micro) → epoch_for_retire_ask q micro ≡ Some x → (slot log : ℕ) × (micro ≡ micros.EpochForRetire slot log) × ((Epoch, Loads) ≡ x)
  epoch_for_retire_asked (micros.EpochForRetire slot log) e = (slot, log, refl, some_same _ _ e)
  epoch_for_retire_asked _ e = some_none x e

  cell_test : (slot n word cell : ℕ) (b : Bool) → ((nat_lt slot n && nat_lt word 5) && (b && word == cell)) ≡ true → (slot < n) × (b ≡ true)
  cell_test slot n word cell b e = grind (arith, nat_tests)

  -- a private load or store of a Make is one on a cell of a node slot
  pub fill_load_asked : (m : Meaning) (l : Layout) (slot word : ℕ) (free : List ℕ) (micro : Micro) → fill_load_ask m l slot word free q micro ≡ Some x
      → (cell log place : ℕ) × (micro ≡ micros.PrivateLoad cell log) × (slot < slot_count l m.fixed_slots) × (is_slot (make_slot q.made free) slot ≡ true) × ((Cell place, Loads) ≡ x)
  fill_load_asked m l slot word free (micros.PrivateLoad cell log) e =
      let h = if_some _ _ _ e in let t = cell_test slot (slot_count l m.fixed_slots) word cell (is_slot (make_slot q.made free) slot) h.0 in (cell, log, _, refl, t.0, t.1, h.1)
  fill_load_asked m l slot word free _ e = some_none x e

  pub fill_store_asked : (m : Meaning) (l : Layout) (slot word number : ℕ) (micro : Micro) → fill_store_ask m l slot word number q micro ≡ Some x
      → (cell log place : ℕ) × (v : Source) × (micro ≡ micros.PrivateStore cell log v) × ((Cell place, Stores number) ≡ x)
  fill_store_asked m l slot word number (micros.PrivateStore cell log v) e = let h = if_some _ _ _ e in (cell, log, _, v, refl, h.1)
  fill_store_asked m l slot word number _ e = some_none x e

  -- before a commit behind its blocks a run stores into a block, and otherwise into the cells of a Make
  pub run_store_asked : (m : Meaning) (l : Layout) (slot word number : ℕ) (blocks : List ℕ) (micro : Micro) → private_store_in_run_ask m l slot word number blocks q micro ≡ Some x
      → ((needs_link q micro ≡ true) × ((block_spot (slot - blocks_from m l) word, Stores number) ≡ x)) ⊎ ((needs_link q micro ≡ false) × (fill_store_ask m l slot word number q micro ≡ Some x))
  run_store_asked m l slot word number blocks micro e = by (needs_link q micro) refl e
    where
      by : (b : Bool) → needs_link q micro ≡ b → (if b then block_empty_ask m l slot word number blocks q else fill_store_ask m l slot word number q micro) ≡ Some x
          → ((needs_link q micro ≡ true) × ((block_spot (slot - blocks_from m l) word, Stores number) ≡ x)) ⊎ ((needs_link q micro ≡ false) × (fill_store_ask m l slot word number q micro ≡ Some x))
      by true is e = inl (is, (if_some _ _ _ e).1)
      by false is e = inr (is, e)

  pub link_asked : (l : Layout) (b : ℕ) (micro : Micro) → link_commit_ask l b q micro ≡ Some x → (link_spot q.descriptor q.links (length q.links), Exchanges 0 (b + 1)) ≡ x
  link_asked l b micro e = (if_some _ _ _ e).1

  pub set_done_asked : (micro : Micro) → set_done_ask q micro ≡ Some x → (micro ≡ micros.SetDone) × ((DoneWord q.descriptor, Exchanges 0 1) ≡ x)
  set_done_asked micros.SetDone e = (refl, some_same _ _ e)
  set_done_asked _ e = some_none x e

  below_test : (a b : ℕ) → nat_lt a b ≡ true → a < b
  below_test a b e = grind (arith, nat_tests)

  same_test : (a b : ℕ) → (a == b) ≡ true → a ≡ b
  same_test a b e = grind (arith, nat_tests)

  pub open_more_asked : open_more_ask q ≡ Some x → (length q.opened < 12) × ((ThunkWord q.descriptor (length q.opened), Loads) ≡ x)
  open_more_asked e = let h = if_some _ _ _ e in (below_test _ _ h.0, h.1)

  pub load_done_asked : load_done_ask q ≡ Some x → (length q.opened ≡ 12) × ((DoneWord q.descriptor, Loads) ≡ x)
  load_done_asked e = let h = if_some _ _ _ e in (same_test _ _ h.0, h.1)
