-- What it says of a run that a commit of its is enabled, or a step by which it links a block.
use Rattle.std.specs.Prelude.{◌-◌, ◌==◌, not, nat_lt, nat_le, length, true, false}
use Rattle.std.proofs.Common.{◌≡◌, ◌⊎◌, inl, inr, ℕ, ◌+◌, ◌<◌, List, refl, Option, Some, None}
use Rattle.std.proofs.lemmas.Bool.{and_parts}
use Rattle.block_words.specs.Blocks.{link_spot, log_spot}
use Rattle.machine_states.specs.epoch_core.specs.small_lemmas.proofs.Bools.{negated}
use Rattle.machine_states.specs.epoch_core.specs.small_lemmas.proofs.Numbers.{tested_equal, tested_less}
use Rattle.machine_states.specs.body_terms.specs.declared.micro.Micro.{Micro}
use Rattle.machine_states.specs.body_terms.specs.declared.micro.Micro.TheVariants as micros
use Rattle.machine_states.specs.table_words.specs.declared.layout.Layout.{Layout}
use Rattle.machine_states.specs.table_words.specs.declared.spot.Spot.{Spot}
use Rattle.machine_states.specs.table_words.specs.declared.access.Access.{Access}
use Rattle.machine_states.specs.table_words.specs.declared.access.Access.TheVariants.{Stores, Exchanges}
use Rattle.machine_states.specs.table_words.specs.Places.{block_words, block_count}
use Rattle.machine_states.specs.structure_laws.specs.Meaning.{Meaning}
use Rattle.machine_states.specs.runner_parts.specs.State.{RunState}
use Rattle.machine_states.specs.runner_steps.specs.Sections.{is_beyond, needs_link}
use Rattle.machine_states.specs.runner_steps.specs.InRun.{commit_to, commit_ask, make_commit_to, make_commit_ask, retire_commit_ask, outcome_commit_ask, make_slot, is_slot, block_empty_ask, link_commit_ask}
use Rattle.machine_states.specs.runner_steps.specs.Outside.{block_spot, blocks_from}
use Rattle.machine_states.proofs.Sights.{if_some, some_none}

module _ (q : RunState) (x : Spot × Access) where
  -- the step agrees on a word at this place of the log, whose part is linked
  pub record AtLog (micro : Micro) (proposal : ℕ) (P : ℕ → Micro → Type 0) : Type 0 where
    pub log : ℕ
    pub step : P log micro
    pub near : is_beyond q (Some log) ≡ false
    pub is : (log_spot q.descriptor q.links log, Exchanges 0 proposal) ≡ x

  to_log : (log proposal : ℕ) → commit_to q log proposal ≡ Some x → (is_beyond q (Some log) ≡ false) × ((log_spot q.descriptor q.links log, Exchanges 0 proposal) ≡ x)
  to_log log proposal e = let h = if_some (not (is_beyond q (Some log))) _ x e in (negated (is_beyond q (Some log)) h.0, h.1)

  pub commit_asked : (micro : Micro) → commit_ask q micro ≡ Some x → AtLog micro q.word (λ k μ. (place : ℕ) × ((μ ≡ micros.Commit place k) ⊎ (μ ≡ micros.NestedCommit place k)))
  commit_asked (micros.Commit place log) e = let h = to_log log q.word e in record { log = log; step = (place, inl refl); near = h.0; is = h.1 }
  commit_asked (micros.NestedCommit place log) e = let h = to_log log q.word e in record { log = log; step = (place, inr refl); near = h.0; is = h.1 }
  commit_asked _ e = some_none x e

  pub outcome_commit_asked : (micro : Micro) → outcome_commit_ask q micro ≡ Some x → AtLog micro q.word (λ k μ. (place : ℕ) × (μ ≡ micros.OutcomeCommit place k))
  outcome_commit_asked (micros.OutcomeCommit place log) e = let h = to_log log q.word e in record { log = log; step = (place, refl); near = h.0; is = h.1 }
  outcome_commit_asked _ e = some_none x e

  make_asked : (o : Option ℕ) (log : ℕ) → make_commit_to q log o ≡ Some x
      → (slot : ℕ) × (o ≡ Some slot) × (is_beyond q (Some log) ≡ false) × ((log_spot q.descriptor q.links log, Exchanges 0 (slot + 1)) ≡ x)
  make_asked None log e = some_none x e
  make_asked (Some slot) log e = let h = to_log log (slot + 1) e in (slot, refl, h.0, h.1)

  pub make_commit_asked : (micro : Micro) → make_commit_ask q micro ≡ Some x → (slot : ℕ) × (q.made ≡ Some slot) × AtLog micro (slot + 1) (λ k μ. μ ≡ micros.MakeCommit k)
  make_commit_asked (micros.MakeCommit log) e = let h = make_asked q.made log e in (h.0, h.1, record { log = log; step = refl; near = h.2; is = h.3 })
  make_commit_asked _ e = some_none x e

  pub retire_commit_asked : (micro : Micro) → retire_commit_ask q micro ≡ Some x → (slot : ℕ) × AtLog micro (slot + 1) (λ k μ. μ ≡ micros.RetireCommit slot k)
  retire_commit_asked (micros.RetireCommit slot log) e = let h = to_log log (slot + 1) e in (slot, record { log = log; step = refl; near = h.0; is = h.1 })
  retire_commit_asked _ e = some_none x e

  -- one more word of a block is made 0: of that in the hand, or of the last of the free list
  pub record EmptyAsked (m : Meaning) (l : Layout) (slot word number : ℕ) (free : List ℕ) : Type 0 where
    pub block : is_slot (make_slot q.block free) (slot - blocks_from m l) ≡ true
    pub next : word ≡ q.emptied
    pub few : word < block_words
    pub none : number ≡ 0
    pub is : (block_spot (slot - blocks_from m l) word, Stores number) ≡ x

  pub empty_asked : (m : Meaning) (l : Layout) (slot word number : ℕ) (free : List ℕ) → block_empty_ask m l slot word number free q ≡ Some x → EmptyAsked m l slot word number free
  empty_asked m l slot word number free e =
      let h = if_some _ _ x e in
      let b = and_parts (is_slot (make_slot q.block free) (slot - blocks_from m l)) _ (and_parts (nat_le (blocks_from m l) slot) _ h.0).1 in
      let n = and_parts (word == q.emptied) _ b.1 in
      let f = and_parts (nat_lt word block_words) (number == 0) n.1 in
      record { block = b.0; next = tested_equal word q.emptied n.0; few = tested_less word block_words f.0; none = tested_equal number 0 f.1; is = h.1 }

  -- an emptied block is put into the link behind the last part
  pub record LinkAsked (l : Layout) (b : ℕ) (micro : Micro) : Type 0 where
    pub needs : needs_link q micro ≡ true
    pub whole : q.emptied ≡ block_words
    pub block : q.block ≡ Some b
    pub few : b < block_count l
    pub is : (link_spot q.descriptor q.links (length q.links), Exchanges 0 (b + 1)) ≡ x

  slot_is : (o : Option ℕ) (b : ℕ) → is_slot o b ≡ true → o ≡ Some b
  slot_is None b e = absurd (let y = e in cc)
  slot_is (Some c) b e = let same = tested_equal c b e in cc

  pub link_asked : (l : Layout) (b : ℕ) (micro : Micro) → link_commit_ask l b q micro ≡ Some x → LinkAsked l b micro
  link_asked l b micro e =
      let h = if_some _ _ x e in
      let n = and_parts (needs_link q micro) _ h.0 in
      let w = and_parts (q.emptied == block_words) _ n.1 in
      let c = and_parts (is_slot q.block b) (nat_lt b (block_count l)) w.1 in
      record { needs = n.0; whole = tested_equal q.emptied block_words w.0; block = slot_is q.block b c.0; few = tested_less b (block_count l) c.1; is = h.1 }
