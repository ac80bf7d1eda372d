-- The commit of a Retire.
use Rattle.std.proofs.Common.{◌≡◌, ℕ, [], ◌+◌, ◌<◌, List, ◌∷◌, ◌++◌, Bool, true, false, refl, sym, ap, subst, ◌∙◌, arith, Option, Some, None, if◌then◌else◌, length-append}
use Rattle.std.specs.Prelude.{◌==◌, not}
use Rattle.std.proofs.lemmas.Option.{none-some}
use Rattle.atomic_table.specs.Table.{Me}
use Rattle.atomic_table.specs.Seated.{TableId}
use Rattle.machine_states.specs.map_history.specs.declared.op.Request.{Request}
use Rattle.machine_states.specs.body_terms.specs.declared.thunk.Thunk.{Thunk}
use Rattle.machine_states.specs.body_terms.specs.declared.micro.Micro.{Micro}
use Rattle.machine_states.specs.body_terms.specs.declared.micro.Micro.TheVariants as micros
use Rattle.machine_states.specs.body_terms.specs.Line.{micro_at}
use Rattle.machine_states.specs.body_terms.specs.Run.{written_once}
use Rattle.machine_states.specs.table_words.specs.declared.layout.Layout.{Layout}
use Rattle.machine_states.specs.table_words.specs.declared.spot.Spot.{Spot}
use Rattle.machine_states.specs.table_words.specs.declared.access.Access.{Access}
use Rattle.machine_states.specs.table_words.specs.declared.access.Access.TheVariants.{Exchanges}
use Rattle.machine_states.specs.table_words.specs.Access.{written}
use Rattle.machine_states.specs.table_words.specs.Limits.{IsWithinLimits}
use Rattle.machine_states.specs.table_words.specs.Places.{slot_count}
use Rattle.machine_states.specs.body_terms.specs.block_words.specs.Blocks.{log_spot}
use Rattle.machine_states.specs.structure_laws.specs.Meaning.{Meaning}
use Rattle.machine_states.specs.structure_laws.specs.Laws.{Laws}
use Rattle.machine_states.specs.runner_parts.specs.declared.event.EventKind.TheVariants as kinds
use Rattle.machine_states.specs.runner_parts.specs.State.{RunState, PartState, NodesState}
use Rattle.machine_states.specs.runner_parts.specs.Tests.{has}
use Rattle.machine_states.specs.runner_parts.specs.Lists.{slot_retired}
use Rattle.machine_states.specs.runner_steps.specs.Sections.{is_open_run, next_of, line_of, commits_to, is_beyond}
use Rattle.machine_states.specs.runner_steps.specs.Asks.{asks, sizes_for}
use Rattle.machine_states.specs.runner_steps.specs.AfterInRun.{agrees, retire_committed, retired_slot_of}
use Rattle.machine_states.specs.runner_steps.specs.After.{stepped}
use Rattle.machine_invariant.specs.machine_blocks.specs.machine_guards.specs.machine_agreement.specs.machine_epochs.proofs.RunPlaces.{next_in_line}
use Rattle.machine_states.proofs.Steps.{some_same}
use Rattle.machine_invariant.specs.After.{AreAllowed}
use Rattle.machine_states.specs.runner_steps.specs.InRun.{retire_commit_ask}
use Rattle.machine_states.specs.runner_steps.specs.Asks.{ask_by}
use Rattle.version_words.specs.declared.view.View.{View}
use Rattle.version_words.specs.ReachedWith.{ReachedWith, is_told}
use Rattle.runner_block.specs.declared.block.Block.{Block}
use Rattle.version_words.specs.RunnerState.{RunnerState}
use Rattle.runner_block.specs.Room.{AreFew}
use Rattle.version_words.specs.Place.{IsPlaced}
use Rattle.runner_block.specs.Blocks.{block_slot_retired}
use Rattle.version_words.specs.Kept.{IsKept}
use Rattle.version_words.specs.Events.{met_by, Makes, seen_seat}
use Rattle.version_words.proofs.Asked.{unless_gone, tested}
use Rattle.version_words.proofs.MakeSteps.{not_so}
use Rattle.version_words.proofs.Keeps.{KeepsPart, was_part, then_kept}
use Rattle.version_words.proofs.Epochs.{goes_epoch}
use Rattle.version_words.proofs.Founds.{retired_word, one_found}
use Rattle.version_words.proofs.Inside.{PlacesRun, opened_all, goes_inside, places, step_is}
use Rattle.version_words.proofs.NextWords.{few_agreed}
use Rattle.version_words.proofs.Privates.{IsOpenFor, open_inside}
use Rattle.version_words.proofs.Shows.{seen_then}

-- what an exchange puts there
abbrev new_of : Access → ℕ
new_of (Exchanges old new) = new
new_of _ = 0

-- the step of the line that a commit of a Retire makes, and the log word to which it goes
retires_next : (q : RunState) (micro : Micro) (spot : Spot) (slot : ℕ) → retire_commit_ask q micro ≡ Some (spot, Exchanges 0 (slot + 1))
    → (log : ℕ) × (micro ≡ micros.RetireCommit slot log) × (is_beyond q (Some log) ≡ false) × (spot ≡ log_spot q.descriptor q.links log)
retires_next q (micros.RetireCommit s log) spot slot e =
    let t = tested (not (is_beyond q (Some log))) (log_spot q.descriptor q.links log) (Exchanges 0 (s + 1)) (spot, Exchanges 0 (slot + 1)) e in
    let same = ap (λ (x : Spot × Access). new_of x.1) t.1 in
    (log, ap (λ (n : ℕ). micros.RetireCommit n log) (let is : s ≡ slot = omega (arith, same) in is), not_so (is_beyond q (Some log)) t.0, ap (λ (x : Spot × Access). x.0) (sym t.1))
retires_next q _ spot slot e = absurd (none-some (spot, Exchanges 0 (slot + 1)) e)

module _ (m : Meaning) (l : Layout) (rs : List Request) (r : ℕ) (p : PartState) (x : Spot × Access) where
  retire_by : (o : Option RunState) → p.run ≡ o → ask_by m l rs r kinds.RetireCommit p o ≡ Some x → IsOpenFor m l kinds.RetireCommit p x
  retire_by None run e = absurd (none-some x e)
  retire_by (Some q) run e = let h = open_inside m l kinds.RetireCommit p q (is_open_run q) x refl refl e in record { open_run = record { run = q; there = run; ready = h.0 }; asks_so = h.1 }

  retire_asked : asks m l rs r kinds.RetireCommit p ≡ Some x → IsOpenFor m l kinds.RetireCommit p x
  retire_asked e = retire_by p.run refl (unless_gone (sizes_for m l rs) p.gone (ask_by m l rs r kinds.RetireCommit p p.run) x e)

-- the lists of node slots after the commit, which leaves the hand
abbrev lists_after : Bool → NodesState → ℕ → ℕ → NodesState
lists_after won n slot epoch = if won then slot_retired n slot epoch else n

same_hand : (won : Bool) (n : NodesState) (slot epoch : ℕ) → (lists_after won n slot epoch).hand ≡ n.hand
same_hand true n slot epoch = refl
same_hand false n slot epoch = refl

-- it is of a run
pub retire_run : {T : Type 0} (m : Meaning) (spot : Spot) (slot : ℕ) (own_table : TableId) (me : Me Thunk (View T))
    → met_by m (seen_seat own_table me) kinds.RetireCommit ≡ Some (spot, Exchanges 0 (slot + 1)) → (y : RunState) × (me.0.part.run ≡ Some y)
retire_run m spot slot own_table me next =
    let opens = retire_asked m me.0.layout me.0.requests me.0.number me.0.part (spot, Exchanges 0 (slot + 1)) next in
    (opens.open_run.run, opens.open_run.there)

module _ {T : Type 0} (mean : T → Meaning) (s : T) (spot : Spot) (slot number : ℕ) (kept : Block) (own_table : TableId) (me : Me Thunk (View T)) (live : me.0.structure ≡ Some s)
    (next : met_by (mean s) (seen_seat own_table me) kinds.RetireCommit ≡ Some (spot, Exchanges 0 (slot + 1))) (was : IsKept mean number kept me)
    (found : ℕ) (new_table : TableId) (me' : Me Thunk (View T)) (made : Makes (mean s) kinds.RetireCommit found (seen_seat own_table me) (seen_seat new_table me')) (slots : me'.1 ≡ me.1) where
  abbrev p : PartState
  p = me.0.part

  opens : IsOpenFor (mean s) me.0.layout kinds.RetireCommit p (spot, Exchanges 0 (slot + 1))
  opens = retire_asked (mean s) me.0.layout me.0.requests me.0.number p (spot, Exchanges 0 (slot + 1)) next

  abbrev q : RunState
  q = opens.open_run.run

  retires : (log : ℕ) × (next_of (mean s) q ≡ micros.RetireCommit slot log) × (is_beyond q (Some log) ≡ false) × (spot ≡ log_spot q.descriptor q.links log)
  retires = retires_next q (next_of (mean s) q) spot slot opens.asks_so

  abbrev placed : IsPlaced kept.place q
  placed = was.place.run q opens.open_run.there

  abbrev before : KeepsPart (mean s) kept p
  before = was_part mean s kinds.RetireCommit found number kept own_table new_table me me' live made slots was

  here : micro_at (line_of (mean s) q) q.at ≡ micros.RetireCommit slot retires.0
  here = next_in_line (mean s) q (micros.RetireCommit slot retires.0) refl retires.1

  -- the log has a word for the commit
  pub retire_low : Laws (mean s) → IsWithinLimits me'.0.layout → AreAllowed me'.0.requests → kept.place.agreed < 64
  retire_low laws limits allowed =
      let told = ap (λ (x : Spot × Access). is_told x.1) (some_same made.met (spot, Exchanges 0 (slot + 1)) (sym made.asked ∙ next)) in
      let low = few_agreed (mean s) laws kinds.RetireCommit found own_table new_table me me' made limits allowed told q opens.open_run.there opens.open_run.ready retires.0 (ap commits_to retires.1) in
      let same = placed.agreed in omega (arith, low, same)

  -- the epoch that the code keeps is the one that the run loaded last
  loaded : kept.place.epoch ≡ q.word
  loaded = before.epoch.retiring q slot retires.0 opens.open_run.there here

  abbrev part' : PartState
  part' = retire_committed (mean s) me.0.layout slot p q found

  after_is : stepped (mean s) me.0.layout kinds.RetireCommit p found ≡ part'
  after_is = step_is (mean s) me.0.layout kinds.RetireCommit p found opens.open_run
      ∙ ap (λ (micro : Micro). retire_committed (mean s) me.0.layout (retired_slot_of micro) p q found) retires.1

  nodes_are : lists_after (found == 0) kept.lists.part.nodes slot kept.place.epoch ≡ part'.nodes
  nodes_are = (λ i. lists_after (found == 0) (was.lists i).nodes slot (loaded i))

  -- the lists have room for the slot, where the exchange won
  pub retire_room : AreFew (slot_count me'.0.layout (mean s).fixed_slots) me'.0.part.nodes → found == 0 ≡ true → AreFew kept.lists.room (slot_retired kept.lists.part.nodes slot kept.place.epoch)
  retire_room few won =
      let nodes : me'.0.part.nodes ≡ slot_retired kept.lists.part.nodes slot kept.place.epoch =
      ap (λ (r : RunnerState T). r.part.nodes) made.made ∙ (ap (λ (y : PartState). y.nodes) after_is
      ∙ (sym nodes_are ∙ ap (λ (b : Bool). lists_after b kept.lists.part.nodes slot kept.place.epoch) won)) in
      let room : slot_count me'.0.layout (mean s).fixed_slots ≡ kept.lists.room = ap (λ (r : RunnerState T). slot_count r.layout (mean s).fixed_slots) made.made ∙ sym (was.of_table s live).room in
      subst (λ (n : ℕ). AreFew n (slot_retired kept.lists.part.nodes slot kept.place.epoch)) room
      (subst (λ (n : NodesState). AreFew (slot_count me'.0.layout (mean s).fixed_slots) n) nodes few)

  abbrev q' : RunState
  q' = agrees (mean s) me.0.layout q (written_once found (slot + 1))

  abbrev kept' : Block
  kept' = block_slot_retired kept slot (found == 0)

  goes : PlacesRun kept'.place q.made (Some q')
  goes = places kept'.place q.made q' (record {
    descriptor = placed.descriptor;
    some = placed.some;
    request = placed.request;
    lock = placed.lock;
    agreed = (let a = placed.agreed in let b = length-append q.trail (written_once found (slot + 1) ∷ []) in omega (arith, a, b));
    making = placed.making;
    worn = placed.worn;
  }) refl

  part_retired : KeepsPart (mean s) kept' part'
  part_retired = record {
    lists = (λ i. record (was.lists i) { nodes = nodes_are i });
    place = record {
      run = λ y e. (goes y e).0;
      outside = λ none. absurd (none-some q' (sym none));
      in_hand = λ y n e f. ap (λ (xs : List ℕ). has xs n) (same_hand (found == 0) p.nodes slot q.word) ∙ was.place.in_hand q n opens.open_run.there (sym (goes y e).1 ∙ f);
    };
    run = record { ending = λ y e ready closed. absurd (goes_inside (mean s) me.0.layout kept p q kinds.RetireCommit (spot, Exchanges 0 (slot + 1)) before opens.open_run.there opens.open_run.ready refl opens.asks_so closed) };
    epoch = goes_epoch (mean s) me.0.layout p.nodes.free p.blocks.free q kinds.RetireCommit (spot, Exchanges 0 (slot + 1)) refl opens.asks_so opens.open_run.ready kept.place.epoch q' (q.trail ++ written_once found (slot + 1) ∷ []) refl refl;
  }

  pub retire_kept : IsKept mean number kept' me'
  retire_kept = then_kept mean s kinds.RetireCommit found number kept own_table new_table me me' live made slots was refl kept' refl
      (subst (KeepsPart (mean s) kept') (sym after_is) part_retired)

  -- the log word that it left is 0 or names the slot that the section retires, so it is known what it found
  pub retire_found : Laws (mean s) → IsWithinLimits me'.0.layout → AreAllowed me'.0.requests → found ≡ (if found == 0 then 0 else slot + 1)
  retire_found laws limits allowed =
      let runs : me'.0.part.run ≡ Some q' = ap (λ (r : RunnerState T). r.part.run) made.made ∙ ap (λ (y : PartState). y.run) after_is in
      let left = subst (λ (x : Spot × Access). ReachedWith (mean s) me'.0.layout me'.0.requests me'.0.number me'.0.part x.0 (written x.1 found)) (some_same made.met (spot, Exchanges 0 (slot + 1)) (sym made.asked ∙ next)) (seen_then _ _ _ _ _ _ _ _ _ made.shown) in
      one_found found slot (retired_word (mean s) laws me'.0.layout me'.0.requests me'.0.number me'.0.part spot (written_once found (slot + 1)) limits allowed left q' runs q.at slot retires.0
      (opened_all q opens.open_run.ready) here retires.2 retires.3)
