-- What it says of a run that an event of its line is enabled.
use Rattle.std.specs.Prelude.{◌==◌, ◌&&◌, ◌/◌, ◌^◌, Bool, true, nat_lt, slice_index, if◌then◌else◌, false, ◌-◌, length}
use Rattle.std.proofs.Common.{◌≡◌, ℕ, ◌+◌, List, sym, refl, ap, ◌∙◌, arith, inl, inr, Option, Some, None}
use Rattle.std.specs.Prelude.{◌⊎◌}
use Rattle.std.proofs.lemmas.Bool.Decides.{nat_tests}
use Rattle.machine_states.specs.map_history.specs.declared.op.Request.{Request}
use Rattle.machine_states.specs.body_terms.specs.declared.micro.Micro.{Micro}
use Rattle.machine_states.specs.body_terms.specs.declared.micro.Micro.TheVariants as micros
use Rattle.machine_states.specs.body_terms.specs.declared.micro.Source.{Source}
use Rattle.machine_states.specs.body_terms.specs.Word.{next_word, held_word}
use Rattle.machine_states.specs.body_terms.specs.Memory.{cell_of}
use Rattle.machine_states.specs.body_terms.specs.Run.{source_value}
use Rattle.machine_states.specs.table_words.specs.declared.layout.Layout.{Layout}
use Rattle.machine_states.specs.table_words.specs.declared.spot.Spot.{Spot}
use Rattle.machine_states.specs.table_words.specs.declared.spot.Spot.TheVariants as spots
use Rattle.machine_states.specs.table_words.specs.declared.access.Access.{Access}
use Rattle.machine_states.specs.table_words.specs.declared.access.Access.TheVariants.{Loads, Stores, Exchanges, Raises}
use Rattle.machine_states.specs.structure_laws.specs.Meaning.{Meaning}
use Rattle.machine_states.specs.runner_parts.specs.declared.event.EventKind.{EventKind}
use Rattle.machine_states.specs.runner_parts.specs.State.{RunState, PartState}
use Rattle.machine_states.specs.runner_steps.specs.Sections.{thunk_of, is_open_run, next_of, is_beyond, needs_link}
use Rattle.machine_states.specs.runner_steps.specs.InRun.{commit_ask, commit_to, make_commit_ask, make_commit_to, retire_commit_ask, outcome_commit_ask, private_store_in_run_ask, link_commit_ask, load_cell_ask, exchange_cell_ask, fill_load_ask, fill_store_ask, epoch_for_retire_ask, clock_load_ask, stamp_exchange_ask, clock_raise_ask, reply_exchange_ask, nested_load_ask, nested_hold_ask, outcome_load_ask, set_done_ask, release_ask, can_raise, stamp_after, is_slot, make_slot}
use Rattle.machine_states.specs.body_terms.specs.block_words.specs.Blocks.{link_spot, log_spot}
use Rattle.machine_states.specs.epoch_core.specs.small_lemmas.proofs.Bools.{negated as not_so}
use Rattle.machine_states.specs.runner_steps.specs.Outside.{block_spot, blocks_from}
use Rattle.machine_states.specs.runner_steps.specs.Asks.{asks, ask_by, line_ask, inside_ask, opening_ask}
use Rattle.machine_states.proofs.Sights.{if_some, some_none, unless_gone}
use Rattle.machine_states.proofs.Steps.{some_same}
use Rattle.machine_epochs.proofs.InsideAsked as epochs

module _ (q : RunState) (x : Spot × Access) where
  abbrev logs : ℕ → ℕ → Spot × Access
  logs k proposal = (log_spot q.descriptor q.links k, Exchanges 0 proposal)

  -- a commit is one at a place in a part that is linked
  at_log : (k proposal : ℕ) → commit_to q k proposal ≡ Some x → (is_beyond q (Some k) ≡ false) × (logs k proposal ≡ x)
  at_log k proposal e = let h = if_some _ _ x e in (not_so _ h.0, h.1)

  pub commit_asked : (micro : Micro) → commit_ask q micro ≡ Some x → (p k : ℕ) × ((micro ≡ micros.Commit p k) ⊎ (micro ≡ micros.NestedCommit p k)) × (is_beyond q (Some k) ≡ false) × (logs k q.word ≡ x)
  commit_asked (micros.Commit p k) e = let h = at_log k q.word e in (p, k, inl refl, h.0, h.1)
  commit_asked (micros.NestedCommit p k) e = let h = at_log k q.word e in (p, k, inr refl, h.0, h.1)
  commit_asked _ e = some_none x e

  pub outcome_commit_asked : (micro : Micro) → outcome_commit_ask q micro ≡ Some x → (p k : ℕ) × (micro ≡ micros.OutcomeCommit p k) × (is_beyond q (Some k) ≡ false) × (logs k q.word ≡ x)
  outcome_commit_asked (micros.OutcomeCommit p k) e = let h = at_log k q.word e in (p, k, refl, h.0, h.1)
  outcome_commit_asked _ e = some_none x e

  pub load_cell_asked : (micro : Micro) → load_cell_ask q micro ≡ Some x → (p k : ℕ) × (micro ≡ micros.LoadCell p k) × ((spots.Cell p, Loads) ≡ x)
  load_cell_asked (micros.LoadCell p k) e = (p, k, refl, some_same _ _ e)
  load_cell_asked _ e = some_none x e

  pub nested_load_asked : (micro : Micro) → nested_load_ask q micro ≡ Some x → (p k : ℕ) × (micro ≡ micros.NestedLoad p k) × ((spots.Cell p, Loads) ≡ x)
  nested_load_asked (micros.NestedLoad p k) e = (p, k, refl, some_same _ _ e)
  nested_load_asked _ e = some_none x e

  pub outcome_load_asked : (micro : Micro) → outcome_load_ask q micro ≡ Some x → (p k : ℕ) × (micro ≡ micros.OutcomeLoad p k) × ((spots.Cell p, Loads) ≡ x)
  outcome_load_asked (micros.OutcomeLoad p k) e = (p, k, refl, some_same _ _ e)
  outcome_load_asked _ e = some_none x e

  pub exchange_asked : (l : Layout) (micro : Micro) → exchange_cell_ask l q micro ≡ Some x
      → (p k : ℕ) × (v : Source) × (micro ≡ micros.ExchangeCell p k v) × ((spots.Cell p, Exchanges (slice_index q.trail k) (next_word (slice_index q.trail k) (source_value q.trail v))) ≡ x)
  exchange_asked l (micros.ExchangeCell p k v) e = let h = if_some _ _ x e in (p, k, v, refl, h.1)
  exchange_asked l _ e = some_none x e

  pub nested_hold_asked : (l : Layout) (micro : Micro) → nested_hold_ask l q micro ≡ Some x
      → (p word : ℕ) × (micro ≡ micros.NestedHold p word) × ((spots.Cell p, Exchanges word (held_word q.descriptor word)) ≡ x)
  nested_hold_asked l (micros.NestedHold p word) e = let h = if_some _ _ x e in (p, word, refl, h.1)
  nested_hold_asked l _ e = some_none x e

  pub fill_load_asked : (m : Meaning) (l : Layout) (slot word : ℕ) (free : List ℕ) (micro : Micro) → fill_load_ask m l slot word free q micro ≡ Some x
      → (k : ℕ) × (micro ≡ micros.PrivateLoad word k) × (is_slot (make_slot q.made free) slot ≡ true) × ((spots.Cell (cell_of m.fixed_cells slot word), Loads) ≡ x)
  fill_load_asked m l slot word free (micros.PrivateLoad cell k) e =
      let h = if_some _ _ x e in let t = three _ _ word cell h.0 in
      (k, ap (λ c. micros.PrivateLoad c k) (sym t.1), t.0, h.1)
    where
      three : (a b : Bool) (word cell : ℕ) → (a && (b && word == cell)) ≡ true → (b ≡ true) × (word ≡ cell)
      three a b word cell e = grind (arith, nat_tests)
  fill_load_asked m l slot word free _ e = some_none x e

  pub fill_store_asked : (m : Meaning) (l : Layout) (slot word number : ℕ) (micro : Micro) → fill_store_ask m l slot word number q micro ≡ Some x
      → (k : ℕ) × (v : Source) × (micro ≡ micros.PrivateStore word k v) × (is_slot q.made slot ≡ true) × (can_raise l q.word ≡ true) × (number ≡ next_word q.word (source_value q.trail v))
      × ((spots.Cell (cell_of m.fixed_cells slot word), Stores number) ≡ x)
  fill_store_asked m l slot word number (micros.PrivateStore cell k v) e =
      let h = if_some _ _ x e in let t = five _ _ word cell _ number _ h.0 in
      (k, v, ap (λ c. micros.PrivateStore c k v) (sym t.1), t.0, t.2, t.3, h.1)
    where
      five : (a b : Bool) (word cell : ℕ) (d : Bool) (number n : ℕ) → (a && (b && (word == cell && (d && number == n)))) ≡ true → (b ≡ true) × (word ≡ cell) × (d ≡ true) × (number ≡ n)
      five a b word cell d number n e = grind (arith, nat_tests)
  fill_store_asked m l slot word number _ e = some_none x e

  -- before a commit behind its blocks a run stores into a block, and otherwise into the cells of a Make
  pub run_store_asked : (m : Meaning) (l : Layout) (slot word number : ℕ) (blocks : List ℕ) (micro : Micro) → private_store_in_run_ask m l slot word number blocks q micro ≡ Some x
      → ((needs_link q micro ≡ true) × ((block_spot (slot - blocks_from m l) word, Stores number) ≡ x)) ⊎ ((needs_link q micro ≡ false) × (fill_store_ask m l slot word number q micro ≡ Some x))
  run_store_asked m l slot word number blocks micro e = epochs.run_store_asked q x m l slot word number blocks micro e

  pub link_asked : (l : Layout) (b : ℕ) (micro : Micro) → link_commit_ask l b q micro ≡ Some x → (link_spot q.descriptor q.links (length q.links), Exchanges 0 (b + 1)) ≡ x
  link_asked l b micro e = epochs.link_asked q x l b micro e

  pub make_commit_asked : (micro : Micro) → make_commit_ask q micro ≡ Some x → (k slot : ℕ) × (micro ≡ micros.MakeCommit k) × (q.made ≡ Some slot) × (is_beyond q (Some k) ≡ false) × (logs k (slot + 1) ≡ x)
  make_commit_asked (micros.MakeCommit k) e = let h = by k q.made refl e in (k, h.0, refl, h.1, h.2, h.3)
    where
      by : (k : ℕ) (made : Option ℕ) → q.made ≡ made → make_commit_to q k made ≡ Some x → (slot : ℕ) × (q.made ≡ Some slot) × (is_beyond q (Some k) ≡ false) × (logs k (slot + 1) ≡ x)
      by k None is e = some_none x e
      by k (Some slot) is e = let h = at_log k (slot + 1) e in (slot, is, h.0, h.1)
  make_commit_asked _ e = some_none x e

  pub retire_commit_asked : (micro : Micro) → retire_commit_ask q micro ≡ Some x → (slot k : ℕ) × (micro ≡ micros.RetireCommit slot k) × (is_beyond q (Some k) ≡ false) × (logs k (slot + 1) ≡ x)
  retire_commit_asked (micros.RetireCommit slot k) e = let h = at_log k (slot + 1) e in (slot, k, refl, h.0, h.1)
  retire_commit_asked _ e = some_none x e

  pub epoch_asked : (micro : Micro) → epoch_for_retire_ask q micro ≡ Some x → (slot k : ℕ) × (micro ≡ micros.EpochForRetire slot k) × ((spots.Epoch, Loads) ≡ x)
  epoch_asked (micros.EpochForRetire slot k) e = (slot, k, refl, some_same _ _ e)
  epoch_asked _ e = some_none x e

  pub clock_load_asked : (micro : Micro) → clock_load_ask q micro ≡ Some x → (micro ≡ micros.ClockLoad) × ((spots.Clock, Loads) ≡ x)
  clock_load_asked micros.ClockLoad e = (refl, some_same _ _ e)
  clock_load_asked _ e = some_none x e

  pub stamp_asked : (micro : Micro) → stamp_exchange_ask q micro ≡ Some x
      → (micro ≡ micros.StampExchange) × (nat_lt q.word (2 ^ 62) ≡ true) × ((spots.Stamp ((thunk_of q.opened).request), Exchanges 0 (stamp_after q.word)) ≡ x)
  stamp_asked micros.StampExchange e = let h = if_some _ _ x e in (refl, h.0, h.1)
  stamp_asked _ e = some_none x e

  pub clock_raise_asked : (micro : Micro) → clock_raise_ask q micro ≡ Some x → (micro ≡ micros.ClockRaise) × ((spots.Clock, Raises (q.word / 2)) ≡ x)
  clock_raise_asked micros.ClockRaise e = (refl, some_same _ _ e)
  clock_raise_asked _ e = some_none x e

  pub reply_asked : (micro : Micro) → reply_exchange_ask q micro ≡ Some x → (n : ℕ) × (micro ≡ micros.ReplyExchange n) × ((spots.Reply ((thunk_of q.opened).request), Exchanges 0 n) ≡ x)
  reply_asked (micros.ReplyExchange n) e = (n, refl, some_same _ _ e)
  reply_asked _ e = some_none x e

  pub set_done_asked : (micro : Micro) → set_done_ask q micro ≡ Some x → (micro ≡ micros.SetDone) × ((spots.DoneWord q.descriptor, Exchanges 0 1) ≡ x)
  set_done_asked micros.SetDone e = (refl, some_same _ _ e)
  set_done_asked _ e = some_none x e

  pub release_asked : (l : Layout) (micro : Micro) → release_ask l q micro ≡ Some x
      → (p word : ℕ) × (micro ≡ micros.Release p word) × ((spots.Cell p, Exchanges (held_word q.descriptor word) (next_word (held_word q.descriptor word) 0)) ≡ x)
  release_asked l (micros.Release p word) e = let h = if_some _ _ x e in (p, word, refl, h.1)
  release_asked l _ e = some_none x e

-- an enabled event of an open run is one of its line, and one of a run that isn't open loads its words
module _ (m : Meaning) (l : Layout) (rs : List Request) where
  pub inside_asked : (r : ℕ) (kind : EventKind) (p : PartState) (q : RunState) (x : Spot × Access) → asks m l rs r kind p ≡ Some x → p.run ≡ Some q → inside_ask m l kind p.nodes.free p.blocks.free q ≡ Some x
  inside_asked r kind p q x e run = ap (ask_by m l rs r kind p) (sym run) ∙ (unless_gone _ p.gone _ x e).1

  pub line_asked : (r : ℕ) (kind : EventKind) (p : PartState) (q : RunState) (x : Spot × Access) → asks m l rs r kind p ≡ Some x → p.run ≡ Some q → is_open_run q ≡ true → line_ask m l kind p.nodes.free p.blocks.free q (next_of m q) ≡ Some x
  line_asked r kind p q x e run opened =
      ap (λ b. if b then line_ask m l kind p.nodes.free p.blocks.free q (next_of m q) else opening_ask kind q) (sym opened) ∙ inside_asked r kind p q x e run
