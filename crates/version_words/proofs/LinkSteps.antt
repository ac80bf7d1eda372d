-- The exchange that links a block to the log of a run's section.
use Rattle.std.proofs.Common.{◌≡◌, ℕ, zero, suc, ◌+◌, ◌-◌, ◌*◌, ◌<◌, ◌≤◌, ◌^◌, List, [], ◌∷◌, ◌++◌, length, Bool, true, false, refl, sym, ap, subst, ◌∙◌, eq-eqb, ne_eqb, arith, Option, Some, None, if◌then◌else◌}
use Rattle.std.specs.Prelude.{◌/◌, ◌==◌, ◌&&◌, nat_lt, nat_le, slice_index}
use Rattle.std.proofs.lemmas.Bool.Decides.{nat_tests}
use Rattle.std.proofs.lemmas.Bool.{false≢true}
use Rattle.std.proofs.lemmas.Option.{none-some}
use Rattle.atomic_table.specs.Table.{Me}
use Rattle.atomic_table.specs.Seated.{TableId}
use Rattle.machine_states.specs.map_history.specs.declared.op.Request.{Request}
use Rattle.machine_states.specs.epoch_core.specs.small_lemmas.proofs.Numbers.{tested_less, tested_not_less}
use Rattle.machine_states.specs.body_terms.specs.declared.thunk.Thunk.{Thunk}
use Rattle.machine_states.specs.body_terms.specs.declared.micro.Micro.{Micro}
use Rattle.machine_states.specs.body_terms.specs.Line.{micro_at}
use Rattle.machine_states.specs.body_terms.specs.Run.{written_once}
use Rattle.machine_states.specs.body_terms.specs.Word.{value_of}
use Rattle.machine_states.specs.table_words.specs.declared.layout.Layout.{Layout}
use Rattle.machine_states.specs.table_words.specs.declared.spot.Spot.{Spot}
use Rattle.machine_states.specs.table_words.specs.declared.spot.Spot.TheVariants as spots
use Rattle.machine_states.specs.table_words.specs.declared.access.Access.{Access}
use Rattle.machine_states.specs.table_words.specs.declared.access.Access.TheVariants.{Exchanges}
use Rattle.machine_states.specs.table_words.specs.Limits.{IsWithinLimits}
use Rattle.machine_states.specs.table_words.specs.Places.{part_words, block_words, block_count}
use Rattle.machine_states.specs.table_words.proofs.Counts.{few_blocks as blocks_few}
use Rattle.machine_states.specs.structure_laws.specs.Meaning.{Meaning}
use Rattle.machine_states.specs.structure_laws.specs.Laws.{Laws}
use Rattle.machine_states.specs.body_terms.specs.block_words.specs.Blocks.{link_spot}
use Rattle.machine_states.specs.runner_parts.specs.declared.event.EventKind.{EventKind}
use Rattle.machine_states.specs.runner_parts.specs.declared.event.EventKind.TheVariants as kinds
use Rattle.machine_states.specs.runner_parts.specs.State.{RunState, PartState}
use Rattle.machine_states.specs.runner_steps.specs.Sections.{is_open_run, line_of, next_of, commits_to, is_beyond, needs_link}
use Rattle.machine_states.specs.runner_steps.specs.InRun.{last_of, is_slot, link_commit_ask}
use Rattle.machine_states.specs.runner_steps.specs.Asks.{asks, ask_by, sizes_for}
use Rattle.machine_states.specs.runner_steps.specs.AfterInRun.{with_run}
use Rattle.machine_states.proofs.Steps.{some_same}
use Rattle.machine_invariant.specs.After.{AreAllowed}
use Rattle.runner_block.specs.declared.block.Block.{Block}
use Rattle.runner_block.specs.Kept.{with_blocks}
use Rattle.runner_block.specs.Links.{block_linked}
use Rattle.version_words.specs.declared.view.View.{View}
use Rattle.version_words.specs.RunnerState.{RunnerState}
use Rattle.version_words.specs.TableState.{TableState}
use Rattle.version_words.specs.Naming.{is_seat}
use Rattle.version_words.specs.Place.{AreLinks, IsPlaced, link_behind}
use Rattle.version_words.specs.ReachedWith.{ReachedWith, is_told}
use Rattle.version_words.specs.Kept.{KeepsBlocks, IsKept}
use Rattle.version_words.specs.Events.{met_by, IsEnabled, IsNamed, Makes, step_at, nothing, seen_seat}
use Rattle.version_words.proofs.Asked.{unless_gone, tested}
use Rattle.version_words.proofs.BlockSteps.{linked}
use Rattle.version_words.proofs.Keeps.{KeepsPart, was_part, part_is, then_kept_with}
use Rattle.version_words.proofs.Founds.{link_word}
use Rattle.version_words.proofs.Inside.{PlacesRun, both_true, goes_inside, places, step_is}
use Rattle.version_words.proofs.NextWords.{next_agreed, few_agreed}
use Rattle.version_words.proofs.Privates.{IsOpenFor, slot_is, open_inside}
use Rattle.version_words.proofs.Shows.{seen_before}

-- the code finds the link where it stands
behind_last : (d : ℕ) (xs : List ℕ) (n : ℕ) → length xs ≡ n → link_behind d (last_of xs) ≡ link_spot d xs n
behind_last d xs zero e = ap (λ (b : Bool). link_behind d (if b then None else Some (slice_index xs (length xs - 1)))) (eq-eqb (length xs) 0 e)
behind_last d xs (suc i) e =
    ap (λ (b : Bool). link_behind d (if b then None else Some (slice_index xs (length xs - 1)))) (ne_eqb (length xs) 0 (λ none. omega (arith, e, none)))
    ∙ ap (λ (k : ℕ). spots.BlockLink (slice_index xs k)) (let at : length xs - 1 ≡ i = omega (arith, e) in at)

-- it isn't the seat word
off_seat : (d : ℕ) (last : Option ℕ) → is_seat (link_behind d last) ≡ false
off_seat d None = refl
off_seat d (Some block) = refl

pub link_apart : (d : ℕ) (last : Option ℕ) (spot : Spot) → spot ≡ link_behind d last → is_seat spot ≡ false
link_apart d last spot is = ap is_seat is ∙ off_seat d last

-- the blocks of a table have numbers of 32 bits
pub few_blocks : (l : Layout) → IsWithinLimits l → block_count l < 2 ^ 32
few_blocks l limits = let few = blocks_few l limits in omega (arith, few)

-- what a run links next
record IsLink (l : Layout) (block : ℕ) (q : RunState) (micro : Micro) (x : Spot × Access) : Type 0 where
  pub needs : needs_link q micro ≡ true
  pub own : q.block ≡ Some block
  pub few : block < block_count l
  pub met : x ≡ (link_spot q.descriptor q.links (length q.links), Exchanges 0 (block + 1))

link_asks : (l : Layout) (block : ℕ) (q : RunState) (micro : Micro) (x : Spot × Access) → link_commit_ask l block q micro ≡ Some x → IsLink l block q micro x
link_asks l block q micro x e =
    let t = tested (needs_link q micro && (q.emptied == block_words && (is_slot q.block block && nat_lt block (block_count l)))) (link_spot q.descriptor q.links (length q.links)) (Exchanges 0 (block + 1)) x e in
    let needs = both_true (needs_link q micro) (q.emptied == block_words && (is_slot q.block block && nat_lt block (block_count l))) t.0 in
    let full = both_true (q.emptied == block_words) (is_slot q.block block && nat_lt block (block_count l)) needs.1 in
    let own = both_true (is_slot q.block block) (nat_lt block (block_count l)) full.1 in
    record { needs = needs.0; own = slot_is q.block block own.0; few = tested_less block (block_count l) own.1; met = sym t.1 }

module _ (m : Meaning) (l : Layout) (rs : List Request) (r block : ℕ) (p : PartState) (x : Spot × Access) where
  link_by : (o : Option RunState) → p.run ≡ o → ask_by m l rs r (kinds.LinkCommit block) p o ≡ Some x → IsOpenFor m l (kinds.LinkCommit block) p x
  link_by None run e = absurd (none-some x e)
  link_by (Some q) run e =
      let h = open_inside m l (kinds.LinkCommit block) p q (is_open_run q) x refl refl e in
      record { open_run = record { run = q; there = run; ready = h.0 }; asks_so = h.1 }

  link_asked : asks m l rs r (kinds.LinkCommit block) p ≡ Some x → IsOpenFor m l (kinds.LinkCommit block) p x
  link_asked e = link_by p.run refl (unless_gone (sizes_for m l rs) p.gone (ask_by m l rs r (kinds.LinkCommit block) p p.run) x e)

-- a run links before a commit into a part that it doesn't know yet
beyond_of : (q : RunState) (o : Option ℕ) → is_beyond q o ≡ true → (k : ℕ) × (o ≡ Some k) × (length q.links < k / part_words)
beyond_of q None e = absurd (false≢true e)
beyond_of q (Some k) e = (k, refl, tested_less (length q.links) (k / part_words) e)

-- and then its last part is full
full_part : (n k : ℕ) → n < k / part_words → part_words * n + part_words ≤ k
full_part n k beyond = omega (arith, beyond)

-- a link is due where the next word stands behind the last part
pub link_due : (n links : ℕ) → nat_le (part_words * links + part_words) n ≡ nat_lt links (n / part_words)
link_due n links = by (nat_lt links (n / part_words)) refl
  where
    by : (b : Bool) → nat_lt links (n / part_words) ≡ b → nat_le (part_words * links + part_words) n ≡ b
    by true e = let full = full_part links n (tested_less links (n / part_words) e) in grind (arith, nat_tests, full)
    by false e =
        let low = tested_not_less links (n / part_words) e in
        let room : n < part_words * links + part_words = omega (arith, low) in grind (arith, nat_tests, room)

link_kind : (block : ℕ) → kinds.LinkCommit (block + 1 - 1) ≡ kinds.LinkCommit block
link_kind block = ap kinds.LinkCommit (let same : block + 1 - 1 ≡ block = omega arith in same)

module _ {T : Type 0} (mean : T → Meaning) (s : T) (block number : ℕ) (kept : Block) (own_table : TableId) (me : Me Thunk (View T)) (live : me.0.structure ≡ Some s)
    (enabled : IsEnabled (mean s) (kinds.LinkCommit block) (seen_seat own_table me)) (was : IsKept mean number kept me) where
  abbrev m : Meaning
  m = mean s

  abbrev l : Layout
  l = me.0.layout

  abbrev p : PartState
  p = me.0.part

  abbrev k : EventKind
  k = kinds.LinkCommit block

  opens : IsOpenFor m l k p enabled.met
  opens = link_asked m l me.0.requests me.0.number block p enabled.met enabled.asked

  abbrev q : RunState
  q = opens.open_run.run

  link : IsLink l block q (next_of m q) enabled.met
  link = link_asks l block q (next_of m q) enabled.met opens.asks_so

  links : AreLinks kept.lists.blocks.links q
  links = was.blocks.links.of_run q opens.open_run.there

  placed : IsPlaced kept.place q
  placed = was.place.run q opens.open_run.there

  -- the block is the one in the hand
  pub link_own : kept.lists.blocks.links.block ≡ Some block
  link_own = links.block ∙ link.own

  spot_is : link_behind kept.place.descriptor kept.lists.blocks.links.last ≡ link_spot q.descriptor q.links (length q.links)
  spot_is = (λ i. link_behind (placed.descriptor i) (links.last i)) ∙ behind_last q.descriptor q.links (length q.links) refl

  pub link_named : (t : TableState T) (spot : Spot) → spot ≡ link_behind kept.place.descriptor kept.lists.blocks.links.last
      → IsNamed m (λ m' l' rs' p' made. kinds.LinkCommit (made.second - 1)) (seen_seat own_table me) (step_at m t spot 0 (block + 1) nothing) (spot, Exchanges 0 (block + 1))
  link_named t spot is = record {
    asked = ap (met_by m (seen_seat own_table me)) (link_kind block)
        ∙ (enabled.asked ∙ ap Some (link.met ∙ ap (λ (z : Spot). (z, Exchanges 0 (block + 1))) (sym (is ∙ spot_is))));
    plain = refl;
  }

  pub link_event : (found : ℕ) (r' : RunnerState T) → Makes m (kinds.LinkCommit (block + 1 - 1)) found (seen_seat own_table me) r' → Makes m k found (seen_seat own_table me) r'
  link_event found r' made = subst (λ (kind : EventKind). Makes m kind found (seen_seat own_table me) r') (link_kind block) made

  module _ (found : ℕ) (new_table : TableId) (me' : Me Thunk (View T)) (made : Makes m k found (seen_seat own_table me) (seen_seat new_table me')) (slots : me'.1 ≡ me.1) where
    before : KeepsPart m kept p
    before = was_part mean s k found number kept own_table new_table me me' live made slots was

    abbrev q' : RunState
    q' = record q {
      links = q.links ++ value_of (written_once found (block + 1) - 1) ∷ [];
      block = None;
      emptied = 0;
      won = (if found == 0 then q.won ++ block ∷ [] else q.won);
    }

    abbrev kept' : Block
    kept' = record kept { lists = with_blocks kept.lists (block_linked kept.lists.blocks block found) }

    goes : PlacesRun kept'.place q.made (Some q')
    goes = places kept'.place q.made q' (record {
      descriptor = placed.descriptor;
      some = placed.some;
      request = placed.request;
      lock = placed.lock;
      agreed = placed.agreed;
      making = placed.making;
      worn = placed.worn;
    }) refl

    part_linked : KeepsPart m kept' (with_run p q')
    part_linked = record {
      lists = was.lists;
      place = record {
        run = λ y e. (goes y e).0;
        outside = λ none. absurd (none-some q' (sym none));
        in_hand = λ y n e f. was.place.in_hand q n opens.open_run.there (sym (goes y e).1 ∙ f);
      };
      run = record { ending = λ y e ready closed. absurd (goes_inside m l kept p q k enabled.met before opens.open_run.there opens.open_run.ready refl opens.asks_so closed) };
      epoch = record {
        opening = λ y e few. before.epoch.opening q opens.open_run.there (subst (λ (z : RunState). length z.opened < 13) (sym (some_same q' y e)) few) ∙ ap (λ (z : RunState). z.word) (some_same q' y e);
        retiring = λ y slot log e at. before.epoch.retiring q slot log opens.open_run.there (ap (λ (z : RunState). micro_at (line_of m z) z.at) (some_same q' y e) ∙ at) ∙ ap (λ (z : RunState). z.word) (some_same q' y e);
      };
    }

    -- what it met, and the state in which it met it
    met_is : made.met ≡ (link_spot q.descriptor q.links (length q.links), Exchanges 0 (block + 1))
    met_is = some_same made.met enabled.met (sym made.asked ∙ enabled.asked) ∙ link.met

    told : is_told made.met.1 ≡ true
    told = ap (λ (x : Spot × Access). is_told x.1) met_is

    shown_before : ReachedWith m me'.0.layout me'.0.requests me'.0.number p made.met.0 found
    shown_before = seen_before m me'.0.layout me'.0.requests me'.0.number k p me'.0.part made.met found made.shown told

    module _ (laws : Laws m) (limits : IsWithinLimits me'.0.layout) (allowed : AreAllowed me'.0.requests) where
      -- the last part of the log that the run knows is full
      last_full : part_words * length q.links + part_words ≤ length q.trail
      last_full =
          let behind = beyond_of q (commits_to (next_of m q)) link.needs in
          subst (λ (n : ℕ). part_words * length q.links + part_words ≤ n)
          (next_agreed m laws k found own_table new_table me me' made limits allowed told q opens.open_run.there opens.open_run.ready behind.0 behind.1)
          (full_part (length q.links) behind.0 behind.2)

      pub link_kept : IsKept mean number kept' me'
      link_kept =
          let few : block + 1 < 2 ^ 32 = (let low = link.few in let all = few_blocks l (subst IsWithinLimits (ap (λ (r : RunnerState T). r.layout) made.made) limits) in omega (arith, low, all)) in
          then_kept_with mean s k found number kept own_table new_table me me' live made slots was refl kept' refl refl
          (subst (KeepsBlocks kept'.lists) (sym (part_is mean s k found number kept own_table new_table me me' live made slots was))
          (linked m l me.0.number made.met.0 made.met.1 p found kept.lists was.blocks q opens.open_run.there opens.open_run.ready block few last_full))
          (subst (KeepsPart m kept') (sym (step_is m l k p found opens.open_run)) part_linked)

      -- it found 0 or the number plus one of a block of the table
      pub link_found : found < 2 ^ 32
      link_found =
          let low = link_word m laws me'.0.layout me'.0.requests me'.0.number p made.met.0 found limits allowed shown_before q opens.open_run.there (ap (λ (x : Spot × Access). x.0) met_is) in
          let few = few_blocks me'.0.layout limits in omega (arith, low, few)

      -- the last part of the log begins within 32 bits, and so does the next one
      pub link_start : kept.lists.blocks.links.start + part_words < 2 ^ 32
      link_start =
          let behind = beyond_of q (commits_to (next_of m q)) link.needs in
          let low = few_agreed m laws k found own_table new_table me me' made limits allowed told q opens.open_run.there opens.open_run.ready behind.0 behind.1 in
          let full = last_full in let start = links.start in omega (arith, low, full, start)
