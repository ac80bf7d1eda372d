-- A run empties an own block, and links it.
use Rattle.std.specs.Prelude.{◌==◌, ◌-◌, nat_le, length, map, Bool, true, false, if◌then◌else◌}
use Rattle.std.proofs.Common.{◌≡◌, ℕ, ◌+◌, ◌<◌, ◌≤◌, List, [], ◌∷◌, ◌++◌, refl, sym, ap, ◌∙◌, subst, arith, Option, Some, None}
use Rattle.std.proofs.lemmas.Bool.{and_parts}
use Rattle.std.proofs.lemmas.Option.{none-some}
use Rattle.machine_states.specs.epoch_core.specs.small_lemmas.proofs.Bools.{not_both}
use Rattle.machine_states.specs.epoch_core.specs.small_lemmas.proofs.Numbers.{tested_equal as same_number}
use Rattle.machine_states.specs.body_terms.specs.Run.{written_once}
use Rattle.machine_states.specs.body_terms.specs.Word.{value_of}
use Rattle.machine_states.specs.table_words.specs.declared.layout.Layout.{Layout}
use Rattle.machine_states.specs.table_words.specs.declared.spot.Spot.{Spot}
use Rattle.machine_states.specs.table_words.specs.declared.spot.Spot.TheVariants.{Guard}
use Rattle.machine_states.specs.table_words.specs.declared.access.Access.{Access}
use Rattle.machine_states.specs.table_words.specs.Places.{block_words}
use Rattle.machine_states.specs.table_words.specs.Seen.{upd}
use Rattle.agreement_core.specs.State.{AgreementState}
use Rattle.machine_states.specs.structure_laws.specs.Meaning.{Meaning}
use Rattle.machine_states.specs.runner_parts.specs.declared.entries.BoardRead.{BoardRead}
use Rattle.machine_states.specs.runner_parts.specs.declared.event.EventKind.{EventKind}
use Rattle.machine_states.specs.runner_parts.specs.Lists.{block_back}
use Rattle.machine_states.specs.runner_parts.specs.State.{RunState, BlocksState, PartState, RecordsState}
use Rattle.machine_states.specs.runner_steps.specs.AfterInRun.{with_run, filled, block_emptied, private_stored, link_committed}
use Rattle.machine_states.specs.runner_steps.specs.Asks.{line_ask}
use Rattle.machine_states.specs.runner_steps.specs.Blocks.{block_in_hand}
use Rattle.machine_states.specs.runner_steps.specs.InRun.{make_slot, is_slot, link_commit_ask, fill_store_ask, block_empty_ask, private_store_in_run_ask}
use Rattle.machine_states.specs.runner_steps.specs.Outside.{Ask, blocks_from}
use Rattle.machine_states.specs.runner_steps.specs.Sections.{is_open_run, next_of, needs_link}
use Rattle.machine_states.specs.epoch_core.specs.Lists.{times}
use Rattle.machine_states.specs.epoch_core.specs.State.{EpochState}
use Rattle.machine_states.specs.epoch_core.specs.Events.{slot_of}
use Rattle.machine_states.specs.guard_core.specs.Events as events
use Rattle.machine_states.specs.guard_core.specs.Events.{Event}
use Rattle.machine_states.specs.guard_core.specs.State.{most_linked}
use Rattle.machine_states.specs.Sight.{Sight}
use Rattle.machine_states.proofs.Sights.{if_some}
use Rattle.machine_agreement.specs.machine_epochs.specs.Entries.{counts_of}
use Rattle.machine_agreement.specs.machine_epochs.proofs.SlotKinds.{last_has}
use Rattle.machine_guards.specs.State.{run_of, won_of, hand_of, block_with}
use Rattle.machine_guards.specs.Stands.{times_held, StandsAtLink, GuardsStand}
use Rattle.machine_guards.specs.Chunks.{linked_more}
use Rattle.machine_guards.proofs.Lists.{times_has}
use Rattle.machine_guards.proofs.Blocks.{at as place, added_times, taken_times}
use Rattle.machine_guards.proofs.Views.{view, ran, is_linking}
use Rattle.machine_guards.proofs.Words.{links_nothing}
use Rattle.machine_guards.proofs.Steps as steps

-- the block in a hand
slot_is : (o : Option ℕ) (b : ℕ) → is_slot o b ≡ true → o ≡ Some b
slot_is None b e = absurd (let y = e in cc)
slot_is (Some c) b e = ap (λ (i : ℕ). Some i) (same_number c b e)

-- taken, it is in the hand
module _ (b c : ℕ) (o : Option ℕ) (blocks : BlocksState) (few : (i : ℕ) → times i blocks.free ≤ 1) (is : is_slot (make_slot o blocks.free) b ≡ true) where
  taken_limbo : (block_in_hand blocks b o).limbo ≡ blocks.limbo
  taken_limbo = by o
    where
      by : (o : Option ℕ) → (block_in_hand blocks b o).limbo ≡ blocks.limbo
      by None = refl
      by (Some d) = refl

  taken_counts : times c (block_in_hand blocks b o).free + times_held (Some b) c ≡ times c blocks.free + times_held o c
  taken_counts = by o is
    where
      one : (n : ℕ) → 1 ≤ n → n ≤ 1 → n ≡ 1
      one n some most = omega arith

      nought : (n : ℕ) → n ≡ n + 0
      nought n = omega arith

      by : (o : Option ℕ) → is_slot (make_slot o blocks.free) b ≡ true → times c (block_in_hand blocks b o).free + times_held (Some b) c ≡ times c blocks.free + times_held o c
      by None is = taken_times b c blocks.free (one (times b blocks.free) (times_has blocks.free b (last_has blocks.free b is)) (few b)) ∙ nought (times c blocks.free)
      by (Some d) is = ap (λ (i : Option ℕ). times c blocks.free + times_held i c) (sym (slot_is (Some d) b is))

free_few : (x y : ℕ) → x + y ≤ 1 → x ≤ 1
free_few x y h = omega arith

turned : (x x' y k h h' : ℕ) → x' + h' ≡ x + h → x' + (y + (k + h')) ≡ x + (y + (k + h))
turned x x' y k h h' e = omega arith

module _ (m : Meaning) (l : Layout) (chain : ℕ → List ℕ) (a : AgreementState) (e : EpochState) (s : Sight) (old : GuardsStand m l chain a e s) (r : ℕ) (q : RunState) (at : (s.part r).run ≡ Some q) where
  -- who makes another step of a run has no block in its hand
  pub no_hand : (kind : EventKind) (free blocks : List ℕ) (other : Ask) (x : Spot × Access) → is_linking kind ≡ false
      → (if is_open_run q then line_ask m l kind free blocks q (next_of m q) else other) ≡ Some x → q.block ≡ None
  no_hand kind free blocks other x n ask = by q.block refl
    where
      line : (b : Bool) → b ≡ true → (if b then line_ask m l kind free blocks q (next_of m q) else other) ≡ Some x → line_ask m l kind free blocks q (next_of m q) ≡ Some x
      line true is e0 = e0
      line false is e0 = absurd (let y = is in cc)

      by : (o : Option ℕ) → q.block ≡ o → o ≡ None
      by None held = refl
      by (Some b) held = let stands = old.hand r b q at held in
          absurd (links_nothing m l q kind free blocks (next_of m q) x n (line (is_open_run q) stands.is_open ask) stands.linking)

module _ (m : Meaning) (l : Layout) (chain : ℕ → List ℕ) (a a' : AgreementState) (e e' : EpochState) (s : Sight) (old : GuardsStand m l chain a e s)
    (r : ℕ) (q : RunState) (at : (s.part r).run ≡ Some q) (board : List BoardRead) (records : PartState → RecordsState) (f : Spot → ℕ)
    (left : (i : ℕ) → f (Guard i) ≡ s.word (Guard i)) (over : (d : ℕ) → a'.over d ≡ a.over d)
    (stay : (d : ℕ) → e'.location (slot_of (counts_of m l) d) ≡ e.location (slot_of (counts_of m l) d)) where
  abbrev p : PartState
  p = s.part r

  abbrev To : (ℕ → List ℕ) → List Event → BlocksState → PartState → Type 0
  To chain' es blocks p' = steps.To m l chain chain' a a' e e' s old r f (record p' { blocks = blocks; board = board; records = records p' }) es

  same_place : (b : ℕ) (blocks : BlocksState) (q' : RunState) → q'.won ≡ q.won → blocks.limbo ≡ p.blocks.limbo → place r q'.won blocks.limbo b ≡ block_with r p b
  same_place b blocks q' won limbo = (λ i. place r (won i) (limbo i) b) ∙ ap (λ o. place r (won_of o) p.blocks.limbo b) (sym at)

  few : (b : ℕ) → times b p.blocks.free ≤ 1
  few b = free_few (times b p.blocks.free) _ (steps.few m l chain chain a a' e e' s old r f p b)

  -- one more word of the block is 0, or a Make's slot is filled
  pub store : (slot word number : ℕ) (x : Spot × Access) → is_open_run q ≡ true → private_store_in_run_ask m l slot word number p.blocks.free q (next_of m q) ≡ Some x
      → To chain [] (if needs_link q (next_of m q) then block_in_hand p.blocks (slot - blocks_from m l) q.block else p.blocks) (private_stored m l slot number p q (next_of m q))
  store slot word number x is_open ask = by (needs_link q (next_of m q)) refl ask
    where
      hand_none : (o : Option ℕ) → q.block ≡ o → needs_link q (next_of m q) ≡ false → o ≡ None
      hand_none None held n = refl
      hand_none (Some b) held n = absurd (not_both (old.hand r b q at held).linking n)

      emptied : is_slot (make_slot q.block p.blocks.free) (slot - blocks_from m l) ≡ true → needs_link q (next_of m q) ≡ true
          → To chain [] (block_in_hand p.blocks (slot - blocks_from m l) q.block) (with_run p (block_emptied (slot - blocks_from m l) q))
      emptied slot_at link = steps.moved m l chain chain a a' e e' s old r f _ left (λ i. refl) over stay
          (λ i. record (view p) { run = run_of (sym at i); won = won_of (sym at i); hand = Some (slot - blocks_from m l) })
          (λ b. same_place b (block_in_hand p.blocks (slot - blocks_from m l) q.block) q refl (taken_limbo (slot - blocks_from m l) b q.block p.blocks few slot_at))
          (λ b. turned (times b p.blocks.free) _ _ (times b q.won) (times_held q.block b) (times_held (Some (slot - blocks_from m l)) b) (taken_counts (slot - blocks_from m l) b q.block p.blocks few slot_at)
          ∙ (λ i. times b p.blocks.free + (times b (map (λ y. y.block) (limbo_is slot_at i)) + (times b (won_of (sym at i)) + times_held (hand_of (sym at i)) b))))
          (λ b k runs held. subst (StandsAtLink m) (same_run k runs) (record { is_open = is_open; linking = link }))
        where
          limbo_is : is_slot (make_slot q.block p.blocks.free) (slot - blocks_from m l) ≡ true → (block_in_hand p.blocks (slot - blocks_from m l) q.block).limbo ≡ p.blocks.limbo
          limbo_is slot_at = taken_limbo (slot - blocks_from m l) 0 q.block p.blocks few slot_at

          same_run : (k : RunState) → Some (block_emptied (slot - blocks_from m l) q) ≡ Some k → block_emptied (slot - blocks_from m l) q ≡ k
          same_run k e0 = cc

      by : (b : Bool) → needs_link q (next_of m q) ≡ b → (if b then block_empty_ask m l slot word number p.blocks.free q else fill_store_ask m l slot word number q (next_of m q)) ≡ Some x
          → To chain [] (if b then block_in_hand p.blocks (slot - blocks_from m l) q.block else p.blocks) (with_run p (if b then block_emptied (slot - blocks_from m l) q else filled m l number q))
      by true link ask = emptied (and_parts (is_slot (make_slot q.block p.blocks.free) (slot - blocks_from m l)) _ (and_parts (nat_le (blocks_from m l) slot) _ (if_some _ _ x ask).0).1).0 link
      by false fills ask = steps.quiet m l chain chain a a' e e' s old r f _ left (λ i. refl) over stay refl (ap hand_of at ∙ hand_none q.block refl fills) (ran m l p q at 0)

  abbrev chain_behind : ℕ → Bool → ℕ → List ℕ
  chain_behind b won = if won then upd chain q.descriptor (chain q.descriptor ++ b ∷ []) else chain

  abbrev blocks_behind : ℕ → Bool → BlocksState
  blocks_behind b won = if won then p.blocks else block_back p.blocks b

  abbrev run_behind : ℕ → ℕ → Bool → RunState
  run_behind b found won = record q {
    links = q.links ++ value_of (written_once found (b + 1) - 1) ∷ [];
    block = None;
    emptied = 0;
    won = (if won then q.won ++ b ∷ [] else q.won);
  }

  -- the block is linked, or comes back
  pub link : (b found : ℕ) (x : Spot × Access) → link_commit_ask l b q (next_of m q) ≡ Some x → (found ≡ 0 → length (chain q.descriptor) < most_linked)
      → To (linked_more chain b p.run found) (if found == 0 then events.Link r q.descriptor b ∷ [] else []) (if found == 0 then p.blocks else block_back p.blocks b) (link_committed b p q found)
  link b found x ask short = subst (λ o. To (linked_more chain b o found) (if found == 0 then events.Link r q.descriptor b ∷ [] else []) (if found == 0 then p.blocks else block_back p.blocks b) (link_committed b p q found)) (sym at)
      (by (found == 0) refl)
    where
      test : is_slot q.block b ≡ true
      test = (and_parts (is_slot q.block b) _ (and_parts (q.emptied == block_words) _ (and_parts (needs_link q (next_of m q)) _ (if_some _ _ x ask).0).1).1).0

      held : q.block ≡ Some b
      held = slot_is q.block b test

      by : (won : Bool) → (found == 0) ≡ won → To (chain_behind b won) (if won then events.Link r q.descriptor b ∷ [] else []) (blocks_behind b won) (with_run p (run_behind b found won))
      by true is = steps.link m l chain (chain_behind b true) a a' e e' s old r f _ left q.descriptor b q at refl held refl (λ i. refl) (short (same_number found 0 is)) over stay
          (λ i. record (view p) { run = run_of (sym at i); won = q.won ++ b ∷ []; hand = None })
      by false is = steps.moved m l chain chain a a' e e' s old r f _ left (λ i. refl) over stay
          (λ i. record (view p) { run = run_of (sym at i); won = won_of (sym at i); hand = None })
          (λ c. same_place c (block_back p.blocks b) q refl refl)
          (λ c. turned (times c p.blocks.free) (times c (p.blocks.free ++ b ∷ [])) (times c (map (λ y. y.block) p.blocks.limbo)) (times c q.won) (times_held (Some b) c) 0 (back c (added_times b c p.blocks.free))
          ∙ (λ i. times c p.blocks.free + (times c (map (λ y. y.block) p.blocks.limbo) + (times c (won_of (sym at i)) + times_held (hand_is i) c))))
          (λ c k runs there. absurd (none-some c (ap (λ o. hand_of o) runs ∙ there)))
        where
          back : (c : ℕ) → times c (p.blocks.free ++ b ∷ []) ≡ times c p.blocks.free + times_held (Some b) c → times c (p.blocks.free ++ b ∷ []) + 0 ≡ times c p.blocks.free + times_held (Some b) c
          back c e0 = omega arith

          hand_is : Some b ≡ hand_of p.run
          hand_is = sym (ap hand_of at ∙ held)
