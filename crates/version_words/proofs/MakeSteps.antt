-- The commit of a Make, and the load of the epoch for a retirement.
use Rattle.std.proofs.Common.{◌≡◌, ℕ, [], ◌+◌, ◌<◌, ◌^◌, List, ◌∷◌, ◌++◌, true, false, refl, sym, ap, subst, ◌∙◌, arith, Option, Some, None, if◌then◌else◌, length-append}
use Rattle.std.specs.Prelude.{◌==◌, Bool, not}
use Rattle.std.proofs.lemmas.Option.{none-some}
use Rattle.std.proofs.lemmas.Bool.{true≢false}
use Rattle.atomic_table.specs.Table.{Me}
use Rattle.atomic_table.specs.Seated.{TableId}
use Rattle.machine_states.specs.map_history.specs.declared.op.Request.{Request}
use Rattle.machine_states.specs.body_terms.specs.declared.thunk.Thunk.{Thunk}
use Rattle.machine_states.specs.body_terms.specs.declared.micro.Micro.{Micro}
use Rattle.machine_states.specs.body_terms.specs.declared.micro.Micro.TheVariants as micros
use Rattle.machine_states.specs.body_terms.specs.Run.{written_once}
use Rattle.machine_states.specs.table_words.specs.declared.layout.Layout.{Layout}
use Rattle.machine_states.specs.table_words.specs.declared.spot.Spot.{Spot}
use Rattle.machine_states.specs.table_words.specs.declared.spot.Spot.TheVariants as spots
use Rattle.machine_states.specs.table_words.specs.declared.access.Access.{Access}
use Rattle.machine_states.specs.table_words.specs.declared.access.Access.TheVariants.{Loads, Exchanges}
use Rattle.machine_states.specs.table_words.specs.Access.{written}
use Rattle.machine_states.specs.table_words.specs.Limits.{IsWithinLimits}
use Rattle.machine_states.specs.body_terms.specs.block_words.specs.Blocks.{log_spot}
use Rattle.machine_states.specs.structure_laws.specs.Meaning.{Meaning}
use Rattle.machine_states.specs.structure_laws.specs.Laws.{Laws}
use Rattle.machine_states.specs.runner_parts.specs.declared.event.EventKind.TheVariants as kinds
use Rattle.machine_states.specs.runner_parts.specs.State.{RunState, PartState}
use Rattle.machine_states.specs.runner_parts.specs.Tests.{has}
use Rattle.machine_states.specs.runner_parts.specs.Lists.{slot_made, slot_back}
use Rattle.machine_states.specs.runner_steps.specs.Sections.{is_open_run, next_of, commits_to, is_beyond}
use Rattle.machine_states.specs.runner_steps.specs.InRun.{epoch_for_retire_ask}
use Rattle.machine_states.specs.runner_steps.specs.Asks.{asks, sizes_for}
use Rattle.machine_states.specs.runner_steps.specs.AfterInRun.{goes_on, agrees, make_committed}
use Rattle.machine_states.specs.runner_steps.specs.After.{stepped}
use Rattle.machine_invariant.specs.machine_blocks.specs.machine_guards.specs.machine_agreement.specs.machine_epochs.proofs.RunPlaces.{next_in_line}
use Rattle.machine_invariant.specs.After.{AreAllowed}
use Rattle.machine_states.specs.runner_steps.specs.InRun.{make_commit_ask, make_commit_to}
use Rattle.machine_states.specs.runner_steps.specs.Asks.{ask_by}
use Rattle.version_words.specs.declared.view.View.{View}
use Rattle.version_words.specs.ReachedWith.{ReachedWith, is_told}
use Rattle.runner_block.specs.declared.block.Block.{Block}
use Rattle.version_words.specs.RunnerState.{RunnerState}
use Rattle.version_words.specs.TableState.{TableState}
use Rattle.version_words.specs.Place.{IsPlaced}
use Rattle.runner_block.specs.Blocks.{block_made, block_retired}
use Rattle.version_words.specs.Kept.{IsKept}
use Rattle.version_words.specs.Events.{met_by, IsEnabled, IsNamed, Makes, step_at, nothing, seen_seat}
use Rattle.version_words.proofs.Asked.{unless_gone, tested}
use Rattle.version_words.proofs.Keeps.{KeepsPart, was_part, then_kept}
use Rattle.version_words.proofs.Epochs.{goes_epoch, loaded_epoch}
use Rattle.version_words.proofs.Founds.{made_word, few_found}
use Rattle.version_words.proofs.Inside.{PlacesRun, opened_all, goes_inside, places, step_is}
use Rattle.version_words.proofs.NextWords.{few_agreed}
use Rattle.version_words.proofs.Privates.{IsOpenFor, open_inside}
use Rattle.version_words.proofs.OwnLoads.{goes_on_part}
use Rattle.machine_states.proofs.Steps.{some_same}
use Rattle.version_words.proofs.Shows.{seen_then}

pub not_so : (b : Bool) → not b ≡ true → b ≡ false
not_so true e = absurd (true≢false (sym e))
not_so false e = refl

-- what an exchange puts there
abbrev new_of : Access → ℕ
new_of (Exchanges old new) = new
new_of _ = 0

slot_by : (q : RunState) (log : ℕ) (o : Option ℕ) (spot : Spot) (slot : ℕ) → make_commit_to q log o ≡ Some (spot, Exchanges 0 (slot + 1)) → o ≡ Some slot
slot_by q log None spot slot e = absurd (none-some (spot, Exchanges 0 (slot + 1)) e)
slot_by q log (Some s) spot slot e =
    let same = ap (λ (x : Spot × Access). new_of x.1) (tested (not (is_beyond q (Some log))) (log_spot q.descriptor q.links log) (Exchanges 0 (s + 1)) (spot, Exchanges 0 (slot + 1)) e).1 in
    ap (λ (n : ℕ). Some n) (let is : s ≡ slot = omega (arith, same) in is)

-- the commit of a Make proposes the slot that the run has in the hand
made_slot : (q : RunState) (micro : Micro) (spot : Spot) (slot : ℕ) → make_commit_ask q micro ≡ Some (spot, Exchanges 0 (slot + 1)) → q.made ≡ Some slot
made_slot q (micros.MakeCommit log) spot slot e = slot_by q log q.made spot slot e
made_slot q _ spot slot e = absurd (none-some (spot, Exchanges 0 (slot + 1)) e)

-- and goes to the log word of the step at which the run is, whose part is linked
log_by : (q : RunState) (log : ℕ) (o : Option ℕ) (x : Spot × Access) → make_commit_to q log o ≡ Some x → (is_beyond q (Some log) ≡ false) × (x.0 ≡ log_spot q.descriptor q.links log)
log_by q log None x e = absurd (none-some x e)
log_by q log (Some s) x e =
    let t = tested (not (is_beyond q (Some log))) (log_spot q.descriptor q.links log) (Exchanges 0 (s + 1)) x e in
    (not_so (is_beyond q (Some log)) t.0, ap (λ (y : Spot × Access). y.0) (sym t.1))

made_log : (q : RunState) (micro : Micro) (x : Spot × Access) → make_commit_ask q micro ≡ Some x → (log : ℕ) × (micro ≡ micros.MakeCommit log) × (is_beyond q (Some log) ≡ false) × (x.0 ≡ log_spot q.descriptor q.links log)
made_log q (micros.MakeCommit log) x e = let h = log_by q log q.made x e in (log, refl, h.0, h.1)
made_log q _ x e = absurd (none-some x e)

module _ (m : Meaning) (l : Layout) (rs : List Request) (r : ℕ) (p : PartState) (x : Spot × Access) where
  make_by : (o : Option RunState) → p.run ≡ o → ask_by m l rs r kinds.MakeCommit p o ≡ Some x → IsOpenFor m l kinds.MakeCommit p x
  make_by None run e = absurd (none-some x e)
  make_by (Some q) run e = let h = open_inside m l kinds.MakeCommit p q (is_open_run q) x refl refl e in record { open_run = record { run = q; there = run; ready = h.0 }; asks_so = h.1 }

  make_asked : asks m l rs r kinds.MakeCommit p ≡ Some x → IsOpenFor m l kinds.MakeCommit p x
  make_asked e = make_by p.run refl (unless_gone (sizes_for m l rs) p.gone (ask_by m l rs r kinds.MakeCommit p p.run) x e)

  epoch_spot : (q : RunState) (micro : Micro) → epoch_for_retire_ask q micro ≡ Some x → x ≡ (spots.Epoch, Loads)
  epoch_spot q (micros.EpochForRetire slot log) e = sym (some_same (spots.Epoch, Loads) x e)
  epoch_spot q _ e = absurd (none-some x e)

  epoch_by : (o : Option RunState) → p.run ≡ o → ask_by m l rs r kinds.EpochForRetire p o ≡ Some x → (x ≡ (spots.Epoch, Loads)) × IsOpenFor m l kinds.EpochForRetire p x
  epoch_by None run e = absurd (none-some x e)
  epoch_by (Some q) run e = let h = open_inside m l kinds.EpochForRetire p q (is_open_run q) x refl refl e in
      (epoch_spot q (next_of m q) h.1, record { open_run = record { run = q; there = run; ready = h.0 }; asks_so = h.1 })

  epoch_asked : asks m l rs r kinds.EpochForRetire p ≡ Some x → (x ≡ (spots.Epoch, Loads)) × IsOpenFor m l kinds.EpochForRetire p x
  epoch_asked e = epoch_by p.run refl (unless_gone (sizes_for m l rs) p.gone (ask_by m l rs r kinds.EpochForRetire p p.run) x e)

pub epoch_named : {T : Type 0} (m : Meaning) (t : TableState T) (r : RunnerState T) → IsEnabled m kinds.EpochForRetire r
    → IsNamed m (λ m' l' rs' p' made. kinds.EpochForRetire) r (step_at m t spots.Epoch 0 0 nothing) (spots.Epoch, Loads)
epoch_named m t r enabled = record { asked = enabled.asked ∙ ap Some (epoch_asked m r.layout r.requests r.number r.part enabled.met enabled.asked).0; plain = refl }

-- the block after the load of the epoch is that of the part
epoch_part : (m : Meaning) (l : Layout) (found : ℕ) (kept : Block) (p : PartState) (x : Spot × Access) → KeepsPart m kept p → IsOpenFor m l kinds.EpochForRetire p x → KeepsPart m (block_retired kept found) (stepped m l kinds.EpochForRetire p found)
epoch_part m l found kept p x was h = subst (KeepsPart m (block_retired kept found)) (sym (step_is m l kinds.EpochForRetire p found h.open_run))
    (goes_on_part m l kinds.EpochForRetire kept found p h.open_run x found was refl h.asks_so (loaded_epoch m (goes_on m l h.open_run.run found)))

module _ {T : Type 0} (mean : T → Meaning) (s : T) (found number : ℕ) (kept : Block) (old_table new_table : TableId) (me me' : Me Thunk (View T)) (live : me.0.structure ≡ Some s)
    (made : Makes (mean s) kinds.EpochForRetire found (seen_seat old_table me) (seen_seat new_table me')) (slots : me'.1 ≡ me.1) (was : IsKept mean number kept me) where
  pub epoch_kept : IsKept mean number (block_retired kept found) me'
  epoch_kept = then_kept mean s kinds.EpochForRetire found number kept old_table new_table me me' live made slots was refl (block_retired kept found) refl
      (epoch_part (mean s) me.0.layout found kept me.0.part made.met (was_part mean s kinds.EpochForRetire found number kept old_table new_table me me' live made slots was)
      (epoch_asked (mean s) me.0.layout me.0.requests me.0.number me.0.part made.met made.asked).1)

-- the commit of a Make
module _ {T : Type 0} (mean : T → Meaning) (s : T) (spot : Spot) (slot number : ℕ) (kept : Block) (own_table : TableId) (me : Me Thunk (View T)) (live : me.0.structure ≡ Some s)
    (next : met_by (mean s) (seen_seat own_table me) kinds.MakeCommit ≡ Some (spot, Exchanges 0 (slot + 1))) (was : IsKept mean number kept me) where
  abbrev p : PartState
  p = me.0.part

  opens : IsOpenFor (mean s) me.0.layout kinds.MakeCommit p (spot, Exchanges 0 (slot + 1))
  opens = make_asked (mean s) me.0.layout me.0.requests me.0.number p (spot, Exchanges 0 (slot + 1)) next

  abbrev q : RunState
  q = opens.open_run.run

  fills : q.made ≡ Some slot
  fills = made_slot q (next_of (mean s) q) spot slot opens.asks_so

  -- it is of a run
  pub make_run : (y : RunState) × (p.run ≡ Some y)
  make_run = (q, opens.open_run.there)

  -- its slot is in the hand
  pub in_hand : has kept.lists.part.nodes.hand slot ≡ true
  in_hand = ap (λ (y : PartState). has y.nodes.hand slot) was.lists ∙ was.place.in_hand q slot opens.open_run.there fills

  module _ (found : ℕ) (new_table : TableId) (me' : Me Thunk (View T)) (made : Makes (mean s) kinds.MakeCommit found (seen_seat own_table me) (seen_seat new_table me')) (slots : me'.1 ≡ me.1) where
    abbrev placed : IsPlaced kept.place q
    placed = was.place.run q opens.open_run.there

    abbrev before : KeepsPart (mean s) kept p
    before = was_part mean s kinds.MakeCommit found number kept own_table new_table me me' live made slots was

    abbrev q' : RunState
    q' = agrees (mean s) me.0.layout (record q { made = None; worn = false }) (written_once found (slot + 1))

    abbrev kept' : Block
    kept' = block_made kept slot (found == 0)

    goes : PlacesRun kept'.place None (Some q')
    goes = places kept'.place None q' (record {
      descriptor = placed.descriptor;
      some = placed.some;
      request = placed.request;
      lock = placed.lock;
      agreed = (let a = placed.agreed in let b = length-append q.trail (written_once found (slot + 1) ∷ []) in omega (arith, a, b));
      making = refl;
      worn = refl;
    }) refl

    part_made : KeepsPart (mean s) kept' (make_committed (mean s) me.0.layout p q (Some slot) found)
    part_made = record {
      lists = (λ i. record (was.lists i) { nodes = if found == 0 then slot_made (was.lists i).nodes slot else slot_back (was.lists i).nodes slot (placed.worn i) });
      place = record {
        run = λ y e. (goes y e).0;
        outside = λ none. absurd (none-some q' (sym none));
        in_hand = λ y n e f. absurd (none-some n (sym (goes y e).1 ∙ f));
      };
      run = record { ending = λ y e ready closed. absurd (goes_inside (mean s) me.0.layout kept p q kinds.MakeCommit (spot, Exchanges 0 (slot + 1)) before opens.open_run.there opens.open_run.ready refl opens.asks_so closed) };
      epoch = goes_epoch (mean s) me.0.layout p.nodes.free p.blocks.free q kinds.MakeCommit (spot, Exchanges 0 (slot + 1)) refl opens.asks_so opens.open_run.ready kept.place.epoch q' (q.trail ++ written_once found (slot + 1) ∷ []) refl refl;
    }

    after_is : stepped (mean s) me.0.layout kinds.MakeCommit p found ≡ make_committed (mean s) me.0.layout p q (Some slot) found
    after_is = step_is (mean s) me.0.layout kinds.MakeCommit p found opens.open_run ∙ ap (λ (o : Option ℕ). make_committed (mean s) me.0.layout p q o found) fills

    pub make_kept : IsKept mean number kept' me'
    make_kept = then_kept mean s kinds.MakeCommit found number kept own_table new_table me me' live made slots was refl kept' refl (subst (KeepsPart (mean s) kept') (sym after_is) part_made)

    -- the log has a word for it
    pub make_low : Laws (mean s) → IsWithinLimits me'.0.layout → AreAllowed me'.0.requests → kept.place.agreed < 64
    make_low laws limits allowed =
        let at = made_log q (next_of (mean s) q) (spot, Exchanges 0 (slot + 1)) opens.asks_so in
        let told = ap (λ (x : Spot × Access). is_told x.1) (some_same made.met (spot, Exchanges 0 (slot + 1)) (sym made.asked ∙ next)) in
        let low = few_agreed (mean s) laws kinds.MakeCommit found own_table new_table me me' made limits allowed told q opens.open_run.there opens.open_run.ready at.0 (ap commits_to at.1) in
        let same = placed.agreed in omega (arith, low, same)

    -- the log word that it left names a node slot, so it found a number of 32 bits
    pub make_found : Laws (mean s) → IsWithinLimits me'.0.layout → AreAllowed me'.0.requests → found < 2 ^ 32
    make_found laws limits allowed =
        let at = made_log q (next_of (mean s) q) (spot, Exchanges 0 (slot + 1)) opens.asks_so in
        let runs : me'.0.part.run ≡ Some q' = ap (λ (r : RunnerState T). r.part.run) made.made ∙ ap (λ (y : PartState). y.run) after_is in
        let left = subst (λ (x : Spot × Access). ReachedWith (mean s) me'.0.layout me'.0.requests me'.0.number me'.0.part x.0 (written x.1 found)) (some_same made.met (spot, Exchanges 0 (slot + 1)) (sym made.asked ∙ next)) (seen_then _ _ _ _ _ _ _ _ _ made.shown) in
        few_found found (slot + 1) (made_word (mean s) laws me'.0.layout me'.0.requests me'.0.number me'.0.part spot (written_once found (slot + 1)) limits allowed left q' runs q.at at.0
        (opened_all q opens.open_run.ready) (next_in_line (mean s) q (micros.MakeCommit at.0) refl at.1) at.2 at.3)
