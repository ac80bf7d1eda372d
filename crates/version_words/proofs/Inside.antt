-- A runner's code keeps the place of its run.
use Rattle.std.proofs.Common.{◌≡◌, ℕ, ◌-◌, ◌*◌, ◌+◌, ◌<◌, List, [], ◌∷◌, ◌++◌, length, Bool, true, false, refl, sym, ap, subst, ◌∙◌, arith, Option, Some, None, ⊎_elim, if◌then◌else◌, length-append}
use Rattle.std.specs.Prelude.{◌%◌, ◌^◌, ◌&&◌, ◌==◌, suc, zero, nat_lt, slice_index, slice_index_or, cond, take}
use Rattle.std.specs.Option.{is_some}
use Rattle.std.specs.List.{list_all}
use Rattle.std.proofs.lemmas.List.Folds.{list_all-append}
use Rattle.machine_states.specs.epoch_core.specs.small_lemmas.proofs.Bools.{false_not_true as false_true}
use Rattle.machine_states.specs.map_history.specs.declared.op.Request.{Request}
use Rattle.machine_states.specs.body_terms.specs.declared.thunk.Thunk.{Thunk}
use Rattle.machine_states.specs.body_terms.specs.declared.micro.Micro.{Micro}
use Rattle.machine_states.specs.body_terms.specs.declared.micro.Micro.TheVariants as micros
use Rattle.machine_states.specs.body_terms.specs.Word.{value_of, version_of, held_word, next_word}
use Rattle.machine_states.specs.body_terms.specs.Line.{is_end, is_event, micro_at, release_of, releases, ending}
use Rattle.machine_states.specs.body_terms.specs.Run.{written_once}
use Rattle.atomic_table.specs.Table.{Me}
use Rattle.atomic_table.specs.Seated.{TableId}
use Rattle.machine_states.specs.table_words.specs.declared.layout.Layout.{Layout}
use Rattle.machine_states.specs.table_words.specs.declared.spot.Spot.{Spot}
use Rattle.machine_states.specs.table_words.specs.declared.spot.Spot.TheVariants as spots
use Rattle.machine_states.specs.table_words.specs.declared.access.Access.{Access}
use Rattle.machine_states.specs.table_words.specs.declared.access.Access.TheVariants.{Exchanges}
use Rattle.machine_states.specs.table_words.specs.Places.{address, cells_at, descriptor_count}
use Rattle.machine_states.specs.table_words.specs.Limits.{IsWithinLimits}
use Rattle.std.proofs.Math.Nat.{mul-le-mul_left}
use Rattle.std.proofs.lemmas.Bool.Decides.{nat_tests}
use Rattle.std.proofs.lemmas.Option.{none-some}
use Rattle.std.proofs.lemmas.Bool.{true≢false}
use Rattle.machine_states.specs.structure_laws.specs.Meaning.{Meaning}
use Rattle.machine_states.specs.runner_parts.specs.declared.event.EventKind.{EventKind}
use Rattle.machine_states.specs.runner_parts.specs.declared.event.EventKind.TheVariants as kinds
use Rattle.machine_states.specs.runner_parts.specs.State.{RunState, PartState, NodesState, BlocksState}
use Rattle.machine_states.specs.runner_steps.specs.Sections.{line_limit, is_open_run, next_of, thunk_of, line_of}
use Rattle.machine_states.specs.runner_parts.specs.declared.entries.Published.{Published}
use Rattle.machine_states.specs.runner_parts.specs.Tests.{has}
use Rattle.machine_states.specs.runner_steps.specs.InRun.{stamp_after, last_clock, can_raise, can_hold, nested_hold_ask, release_ask}
use Rattle.machine_states.specs.runner_steps.specs.Asks.{asks, sizes_for, opening_ask}
use Rattle.machine_states.specs.runner_steps.specs.AfterInRun.{opened_more, kept_unless, retired_if, goes_on, agrees, with_run, ended_more, run_over, place_of, reply_word_of}
use Rattle.machine_states.specs.runner_parts.specs.Lists.{cell_read, learned, descriptor_retired, blocks_seen, blocks_given_back}
use Rattle.machine_states.specs.runner_steps.specs.After.{line_after, after_by, stepped}
use Rattle.machine_states.specs.runner_steps.specs.Asks.{ask_by, outside_ask, line_ask}
use Rattle.version_words.specs.declared.view.View.{View}
use Rattle.runner_block.specs.declared.place.RunPlace.{RunPlace}
use Rattle.runner_block.specs.declared.block.Block.{Block}
use Rattle.version_words.specs.Naming.{load_of}
use Rattle.runner_block.specs.Kept.{KeptState, with_blocks, published_as, over_in}
use Rattle.runner_block.specs.Links.{BlocksKept, names, blocks_are, links_over}
use Rattle.runner_block.specs.Blocks.{lists_released, block_released, block_saw}
use Rattle.version_words.specs.RunnerState.{RunnerState, told_part, told_published}
use Rattle.version_words.specs.TableState.{TableState, IsOf}
use Rattle.version_words.specs.Place.{IsPlaced, HasEpoch, is_ending}
use Rattle.version_words.specs.Kept.{KeepsBlocks, IsUnseen, IsSeen, IsKept}
use Rattle.version_words.specs.Events.{met_by, Makes, seen_seat}
use Rattle.version_words.proofs.Splits.{learns}
use Rattle.version_words.proofs.Told.{told_read}
use Rattle.version_words.proofs.BlockSteps.{released, seen, seen_none, seen_unnamed, seen_named_so}
use Rattle.version_words.proofs.BlocksKept.{blocks_to}
use Rattle.version_words.proofs.Asked.{unless_gone, tested}
use Rattle.version_words.proofs.Keeps.{KeepsPart, beside, leaves_all, no_epoch, was_part, part_is, then_kept, then_kept_with}
use Rattle.version_words.proofs.Epochs.{is_epoch, goes_epoch, ended_epoch, epoch_if}
use Rattle.machine_states.proofs.Steps.{some_same}

-- the kinds of step that are made in a run alone, once it has loaded its opening, and that leave the lists as they are
-- and the log; but the release with which the run is over retires the own section's descriptor
abbrev pub is_quiet : EventKind → Bool
is_quiet (kinds.LoadCell None) = true
is_quiet kinds.ExchangeCell = true
is_quiet kinds.SetDone = true
is_quiet kinds.Release = true
is_quiet kinds.ClockLoad = true
is_quiet kinds.StampExchange = true
is_quiet kinds.ClockRaise = true
is_quiet kinds.ReplyExchange = true
is_quiet kinds.NestedLoad = true
is_quiet kinds.NestedHold = true
is_quiet kinds.OutcomeLoad = true
is_quiet _ = false

-- those that commit a loaded word
abbrev pub is_commit : EventKind → Bool
is_commit kinds.Commit = true
is_commit kinds.OutcomeCommit = true
is_commit _ = false

-- those of the end of a run
abbrev pub is_ender : EventKind → Bool
is_ender kinds.SetDone = true
is_ender kinds.Release = true
is_ender _ = false

-- the release of a lock
abbrev pub is_release : EventKind → Bool
is_release kinds.Release = true
is_release _ = false

no_release : (k : EventKind) → is_ender k ≡ false → is_release k ≡ false
no_release kinds.Release n = absurd (true≢false n)
no_release _ n = refl

ender_quiet : (k : EventKind) → is_ender k ≡ true → is_quiet k ≡ true
ender_quiet kinds.SetDone e = refl
ender_quiet kinds.Release e = refl
ender_quiet _ e = absurd (false_true e)

commit_goes : (k : EventKind) → is_commit k ≡ true → is_ender k ≡ false
commit_goes kinds.Commit e = refl
commit_goes kinds.OutcomeCommit e = refl
commit_goes _ e = absurd (false_true e)

abbrev pub is_inner : EventKind → Bool
is_inner kinds.Commit = true
is_inner kinds.OutcomeCommit = true
is_inner k = is_quiet k

quiet_inner : (k : EventKind) → is_quiet k ≡ true → is_inner k ≡ true
quiet_inner kinds.Commit e = absurd (false_true e)
quiet_inner kinds.OutcomeCommit e = absurd (false_true e)
quiet_inner (kinds.LoadCell None) e = refl
quiet_inner (kinds.LoadCell (Some place)) e = absurd (false_true e)
quiet_inner _ e = e

commit_inner : (k : EventKind) → is_commit k ≡ true → is_inner k ≡ true
commit_inner kinds.Commit e = refl
commit_inner kinds.OutcomeCommit e = refl
commit_inner _ e = absurd (false_true e)

inner_left : (k : EventKind) → is_inner k ≡ true → is_release k ≡ false → leaves_all k ≡ true
inner_left kinds.Commit e n = refl
inner_left kinds.OutcomeCommit e n = refl
inner_left (kinds.LoadCell None) e n = refl
inner_left (kinds.LoadCell (Some place)) e n = absurd (false_true e)
inner_left kinds.ExchangeCell e n = refl
inner_left kinds.SetDone e n = refl
inner_left kinds.Release e n = absurd (true≢false n)
inner_left kinds.ClockLoad e n = refl
inner_left kinds.StampExchange e n = refl
inner_left kinds.ClockRaise e n = refl
inner_left kinds.ReplyExchange e n = refl
inner_left kinds.NestedLoad e n = refl
inner_left kinds.NestedHold e n = refl
inner_left kinds.OutcomeLoad e n = refl
inner_left _ e n = absurd (false_true e)

-- a run that has loaded its opening
pub record HasOpenRun (p : PartState) : Type 0 where
  pub run : RunState
  pub there : p.run ≡ Some run
  pub ready : is_open_run run ≡ true

open_by : (m : Meaning) (l : Layout) (k : EventKind) (free blocks : List ℕ) (q : RunState) (x : Spot × Access) (b : Bool) → opening_ask k q ≡ None
    → (if b then line_ask m l k free blocks q (next_of m q) else opening_ask k q) ≡ Some x → b ≡ true
open_by m l k free blocks q x true none e = refl
open_by m l k free blocks q x false none e = absurd (none-some x (sym none ∙ e))

no_opening : (k : EventKind) (q : RunState) → is_inner k ≡ true → opening_ask k q ≡ None
no_opening (kinds.LoadThunk o) q e = absurd (false_true e)
no_opening kinds.LoadDone q e = absurd (false_true e)
no_opening _ q e = refl

not_outside : (m : Meaning) (l : Layout) (rs : List Request) (r : ℕ) (k : EventKind) (p : PartState) → is_inner k ≡ true → outside_ask m l rs r k p ≡ None
not_outside m l rs r kinds.Commit p e = refl
not_outside m l rs r kinds.OutcomeCommit p e = refl
not_outside m l rs r (kinds.LoadCell None) p e = refl
not_outside m l rs r kinds.ExchangeCell p e = refl
not_outside m l rs r kinds.SetDone p e = refl
not_outside m l rs r kinds.Release p e = refl
not_outside m l rs r kinds.ClockLoad p e = refl
not_outside m l rs r kinds.StampExchange p e = refl
not_outside m l rs r kinds.ClockRaise p e = refl
not_outside m l rs r kinds.ReplyExchange p e = refl
not_outside m l rs r kinds.NestedLoad p e = refl
not_outside m l rs r kinds.NestedHold p e = refl
not_outside m l rs r kinds.OutcomeLoad p e = refl
not_outside m l rs r (kinds.LoadCell (Some place)) p e = absurd (false_true e)
not_outside m l rs r _ p e = absurd (false_true e)

by_run : (m : Meaning) (l : Layout) (rs : List Request) (r : ℕ) (k : EventKind) (p : PartState) (o : Option RunState) (x : Spot × Access) → is_inner k ≡ true → ask_by m l rs r k p o ≡ Some x
    → (q : RunState) × (o ≡ Some q) × (is_open_run q ≡ true)
by_run m l rs r k p None x e h = absurd (none-some x (sym (not_outside m l rs r k p e) ∙ h))
by_run m l rs r k p (Some q) x e h = (q, refl, open_by m l k p.nodes.free p.blocks.free q x (is_open_run q) (no_opening k q e) h)

pub opened_run : (m : Meaning) (l : Layout) (rs : List Request) (r : ℕ) (k : EventKind) (p : PartState) (x : Spot × Access) → is_inner k ≡ true → asks m l rs r k p ≡ Some x → HasOpenRun p
opened_run m l rs r k p x e h = let b = by_run m l rs r k p p.run x e (unless_gone (sizes_for m l rs) p.gone (ask_by m l rs r k p p.run) x h) in record { run = b.0; there = b.1; ready = b.2 }

pub step_is : (m : Meaning) (l : Layout) (k : EventKind) (p : PartState) (found : ℕ) (h : HasOpenRun p) → stepped m l k p found ≡ line_after m l k p h.run (next_of m h.run) found
step_is m l k p found h = ap (λ (o : Option RunState). after_by m l k p o found) h.there ∙ ap (λ (b : Bool). if b then line_after m l k p h.run (next_of m h.run) found else opened_more p h.run found) h.ready

-- the lists stay
told_same : (b : Bool) (p q r : PartState) → told_part p ≡ told_part r → told_part q ≡ told_part r → told_part (if b then p else q) ≡ told_part r
told_same true p q r e e' = e
told_same false p q r e e' = e'

module _ (m : Meaning) (l : Layout) (p : PartState) (q : RunState) (micro : Micro) (found : ℕ) where
  knows_more : (request : ℕ) (reply : Bool) (number : ℕ) → told_part (record p { records = learned p.records request reply number }) ≡ told_part p
  knows_more request reply number = ap (λ (n : ℕ). record (told_part p) { records = record { known = []; finished = []; events = 0; won = 0; epoch_seen = 0; crossed = false; crosses = false; left = []; splits = n; joined = []; only_loads = false; gave_above = true } }) (learns p.records request reply number)

  -- a quiet step leaves the lists
  quiet_lists : (k : EventKind) → is_inner k ≡ true → is_release k ≡ false → told_part (line_after m l k p q micro found) ≡ told_part p
  quiet_lists kinds.Commit e n = refl
  quiet_lists kinds.OutcomeCommit e n = refl
  quiet_lists (kinds.LoadCell None) e n = refl
  quiet_lists kinds.ExchangeCell e n = refl
  quiet_lists kinds.SetDone e n = refl
  quiet_lists kinds.Release e n = absurd (true≢false n)
  quiet_lists kinds.ClockLoad e n = refl
  quiet_lists kinds.StampExchange e n = let stamp = written_once found (stamp_after q.word) in let request = (thunk_of q.opened).request in
      told_same (nat_lt q.word last_clock) (record p { run = Some (goes_on m l q stamp); records = learned p.records request false stamp }) p p (knows_more request false stamp) refl
  quiet_lists kinds.ClockRaise e n = refl
  quiet_lists kinds.ReplyExchange e n = knows_more (thunk_of q.opened).request true (written_once found (reply_word_of micro))
  quiet_lists kinds.NestedLoad e n = refl
  quiet_lists kinds.NestedHold e n = refl
  quiet_lists kinds.OutcomeLoad e n = refl
  quiet_lists (kinds.LoadCell (Some place)) e n = absurd (false_true e)
  quiet_lists _ e n = absurd (false_true e)

-- a run that is over has its own section's descriptor in limbo, as the code has
over_some : (b : Bool) (p : PartState) (x : Published) (d : ℕ) → record (told_part p) { published = (if b then None else published_as (Some x.descriptor)); descriptors = (if b then descriptor_retired (told_part p).descriptors d else (told_part p).descriptors) }
    ≡ told_part (record p { published = (if b then None else Some x); descriptors = (if b then descriptor_retired p.descriptors d else p.descriptors) })
over_some true p x d = refl
over_some false p x d = refl

over_lists : (p : PartState) (o : Option Published) (d : ℕ) → over_in (record (told_part p) { published = told_published o }) d ≡ told_part (record p { published = kept_unless o d; descriptors = retired_if p.descriptors o d })
over_lists p None d = refl
over_lists p (Some x) d = over_some (x.descriptor == d) p x d

over_told : (m : Meaning) (l : Layout) (p : PartState) (q : RunState) → over_in (told_part p) q.descriptor ≡ told_part (run_over m l p q)
over_told m l p q = over_lists p p.published q.descriptor

-- the place of a run with these words
pub same_place : (kept : RunPlace) (q y : RunState) → y.descriptor ≡ q.descriptor → y.opened ≡ q.opened → y.trail ≡ q.trail → y.made ≡ q.made → y.worn ≡ q.worn → IsPlaced kept q → IsPlaced kept y
same_place kept q y d o t a w is = record {
  descriptor = is.descriptor ∙ sym d;
  some = subst (λ (xs : List ℕ). 0 < length xs) (sym o) is.some;
  request = λ some. subst (λ (xs : List ℕ). 1 < length xs → kept.request ≡ slice_index xs 1 % 2 ^ 32) (sym o) is.request some;
  lock = λ some. subst (λ (xs : List ℕ). 2 < length xs → kept.lock ≡ slice_index xs 2 % 2 ^ 32) (sym o) is.lock some;
  agreed = is.agreed ∙ ap length (sym t);
  making = is.making ∙ ap is_some (sym a);
  worn = is.worn ∙ sym w;
}

-- the place is that of this run, in which a Make has the same slot as before
abbrev pub PlacesRun : RunPlace → Option ℕ → Option RunState → Type 0
PlacesRun kept made o = (y : RunState) → o ≡ Some y → IsPlaced kept y × (y.made ≡ made)

pub places : (kept : RunPlace) (made : Option ℕ) (q : RunState) → IsPlaced kept q → q.made ≡ made → PlacesRun kept made (Some q)
places kept made q is same y e = let e' = some_same q y e in (subst (IsPlaced kept) e' is, ap (λ (z : RunState). z.made) (sym e') ∙ same)

pub places_none : (kept : RunPlace) (made : Option ℕ) → PlacesRun kept made None
places_none kept made y e = absurd (none-some y e)

run_if : (kept : RunPlace) (made : Option ℕ) (b : Bool) (p p' : PartState) → PlacesRun kept made p.run → PlacesRun kept made p'.run → PlacesRun kept made (if b then p else p').run
run_if kept made true p p' e e' = e
run_if kept made false p p' e e' = e'

some_if : (b : Bool) (p p' : PartState) → (p.run ≡ None → ⊥) → (p'.run ≡ None → ⊥) → (if b then p else p').run ≡ None → ⊥
some_if true p p' e e' = e
some_if false p p' e e' = e'

-- the same place, not marked as in progress any more
abbrev pub at_end : RunPlace → RunPlace
at_end kept = record kept { inside = false }

at_end_placed : (kept : RunPlace) (q : RunState) → IsPlaced kept q → IsPlaced (at_end kept) q
at_end_placed kept q is = record { descriptor = is.descriptor; some = is.some; request = is.request; lock = is.lock; agreed = is.agreed; making = is.making; worn = is.worn }

module _ (m : Meaning) (l : Layout) (p : PartState) (q : RunState) (there : p.run ≡ Some q) (micro : Micro) (found : ℕ) (kept : RunPlace) (is : IsPlaced kept q) where
  goes_placed : (word : ℕ) → PlacesRun kept q.made (Some (goes_on m l q word))
  goes_placed word = places kept q.made (goes_on m l q word) (same_place kept q (goes_on m l q word) refl refl refl refl refl is) refl

  ended_placed : PlacesRun (at_end kept) q.made (Some (ended_more q))
  ended_placed = places (at_end kept) q.made (ended_more q) (same_place (at_end kept) q (ended_more q) refl refl refl refl refl (at_end_placed kept q is)) refl

  stays_place : (k : EventKind) → is_quiet k ≡ true → is_ender k ≡ false → PlacesRun kept q.made (line_after m l k p q micro found).run
  stays_place (kinds.LoadCell None) e n = goes_placed found
  stays_place kinds.ExchangeCell e n = goes_placed q.word
  stays_place kinds.SetDone e n = absurd (true≢false n)
  stays_place kinds.Release e n = absurd (true≢false n)
  stays_place kinds.ClockLoad e n = goes_placed found
  stays_place kinds.StampExchange e n = let stamp = written_once found (stamp_after q.word) in let request = (thunk_of q.opened).request in
      run_if kept q.made (nat_lt q.word last_clock) (record p { run = Some (goes_on m l q stamp); records = learned p.records request false stamp }) p (goes_placed stamp)
      (λ y e. places kept q.made q is refl y (sym there ∙ e))
  stays_place kinds.ClockRaise e n = goes_placed q.word
  stays_place kinds.ReplyExchange e n = goes_placed q.word
  stays_place kinds.NestedLoad e n = goes_placed found
  stays_place kinds.NestedHold e n = goes_placed q.word
  stays_place kinds.OutcomeLoad e n = goes_placed found
  stays_place (kinds.LoadCell (Some place)) e n = absurd (false_true e)
  stays_place _ e n = absurd (false_true e)

  stays_open : (k : EventKind) → is_quiet k ≡ true → is_ender k ≡ false → (line_after m l k p q micro found).run ≡ None → ⊥
  stays_open kinds.SetDone e n none = true≢false n
  stays_open kinds.Release e n none = true≢false n
  stays_open kinds.StampExchange e n none = let stamp = written_once found (stamp_after q.word) in let request = (thunk_of q.opened).request in
      some_if (nat_lt q.word last_clock) (record p { run = Some (goes_on m l q stamp); records = learned p.records request false stamp }) p (λ h. none-some (goes_on m l q stamp) (sym h)) (λ h. none-some q (sym h ∙ there)) none
  stays_open (kinds.LoadCell None) e n none = none-some (goes_on m l q found) (sym none)
  stays_open kinds.ExchangeCell e n none = none-some (goes_on m l q q.word) (sym none)
  stays_open kinds.ClockLoad e n none = none-some (goes_on m l q found) (sym none)
  stays_open kinds.ClockRaise e n none = none-some (goes_on m l q q.word) (sym none)
  stays_open kinds.ReplyExchange e n none = none-some (goes_on m l q q.word) (sym none)
  stays_open kinds.NestedLoad e n none = none-some (goes_on m l q found) (sym none)
  stays_open kinds.NestedHold e n none = none-some (goes_on m l q q.word) (sym none)
  stays_open kinds.OutcomeLoad e n none = none-some (goes_on m l q found) (sym none)
  stays_open (kinds.LoadCell (Some place)) e n none = false_true e
  stays_open _ e n none = false_true e

  commit_open : (k : EventKind) → is_commit k ≡ true → (line_after m l k p q micro found).run ≡ None → ⊥
  commit_open kinds.Commit e none = none-some (agrees m l q (written_once found q.word)) (sym none)
  commit_open kinds.OutcomeCommit e none = none-some (agrees m l q (written_once found q.word)) (sym none)
  commit_open _ e none = false_true e

  ends_place : (k : EventKind) → is_ender k ≡ true → PlacesRun (at_end kept) q.made (line_after m l k p q micro found).run
  ends_place kinds.SetDone e = ended_placed
  ends_place kinds.Release e = let after_release = record p { reads = cell_read p.reads (place_of micro) found } in
      run_if (at_end kept) q.made (is_end (next_of m (ended_more q))) (run_over m l after_release (ended_more q)) (with_run after_release (ended_more q)) (places_none (at_end kept) q.made) ended_placed
  ends_place _ e = absurd (false_true e)

  abbrev one_more : RunPlace
  one_more = record kept { agreed = kept.agreed + 1 }

  agrees_placed : (word : ℕ) → PlacesRun one_more q.made (Some (agrees m l q word))
  agrees_placed word = places one_more q.made (agrees m l q word) (record {
    descriptor = is.descriptor;
    some = is.some;
    request = is.request;
    lock = is.lock;
    agreed = (let a = is.agreed in let b = length-append q.trail (word ∷ []) in omega (arith, a, b));
    making = is.making;
    worn = is.worn;
  }) refl

  commit_place : (k : EventKind) → is_commit k ≡ true → PlacesRun one_more q.made (line_after m l k p q micro found).run
  commit_place kinds.Commit e = agrees_placed (written_once found q.word)
  commit_place kinds.OutcomeCommit e = agrees_placed (written_once found q.word)
  commit_place _ e = absurd (false_true e)

-- the epoch that a run loaded stays when it goes on
module _ (m : Meaning) (l : Layout) (p : PartState) (q : RunState) (there : p.run ≡ Some q) (micro : Micro) (found epoch : ℕ) (was : HasEpoch m epoch (Some q)) where
  quiet_epoch : ((word : ℕ) → HasEpoch m epoch (Some (goes_on m l q word))) → (k : EventKind) → is_quiet k ≡ true → is_ender k ≡ false → HasEpoch m epoch (line_after m l k p q micro found).run
  quiet_epoch goes (kinds.LoadCell None) e n = goes found
  quiet_epoch goes kinds.ExchangeCell e n = goes q.word
  quiet_epoch goes kinds.SetDone e n = absurd (true≢false n)
  quiet_epoch goes kinds.Release e n = absurd (true≢false n)
  quiet_epoch goes kinds.ClockLoad e n = goes found
  quiet_epoch goes kinds.StampExchange e n = let stamp = written_once found (stamp_after q.word) in let request = (thunk_of q.opened).request in
      epoch_if m epoch (nat_lt q.word last_clock) (record p { run = Some (goes_on m l q stamp); records = learned p.records request false stamp }) p (goes stamp) (subst (HasEpoch m epoch) (sym there) was)
  quiet_epoch goes kinds.ClockRaise e n = goes q.word
  quiet_epoch goes kinds.ReplyExchange e n = goes q.word
  quiet_epoch goes kinds.NestedLoad e n = goes found
  quiet_epoch goes kinds.NestedHold e n = goes q.word
  quiet_epoch goes kinds.OutcomeLoad e n = goes found
  quiet_epoch goes (kinds.LoadCell (Some place)) e n = absurd (false_true e)
  quiet_epoch goes _ e n = absurd (false_true e)

  commit_epoch : ((word : ℕ) → HasEpoch m epoch (Some (agrees m l q word))) → (k : EventKind) → is_commit k ≡ true → HasEpoch m epoch (line_after m l k p q micro found).run
  commit_epoch agree kinds.Commit e = agree (written_once found q.word)
  commit_epoch agree kinds.OutcomeCommit e = agree (written_once found q.word)
  commit_epoch agree _ e = absurd (false_true e)

  ender_epoch : (k : EventKind) → is_ender k ≡ true → HasEpoch m epoch (line_after m l k p q micro found).run
  ender_epoch kinds.SetDone e = ended_epoch m epoch q was
  ender_epoch kinds.Release e = let after_release = record p { reads = cell_read p.reads (place_of micro) found } in
      epoch_if m epoch (is_end (next_of m (ended_more q))) (run_over m l after_release (ended_more q)) (with_run after_release (ended_more q)) (no_epoch m epoch None (λ y e. none-some y e)) (ended_epoch m epoch q was)
  ender_epoch _ e = absurd (false_true e)

quiet_other : (k : EventKind) → is_quiet k ≡ true → is_epoch k ≡ false
quiet_other kinds.EpochForRetire e = absurd (false_true e)
quiet_other _ e = refl

commit_other : (k : EventKind) → is_commit k ≡ true → is_epoch k ≡ false
commit_other kinds.EpochForRetire e = absurd (false_true e)
commit_other _ e = refl

pub both_true : (a b : Bool) → a && b ≡ true → (a ≡ true) × (b ≡ true)
both_true true b e = (refl, e)
both_true false b e = absurd (false_true e)

pub opened_all : (q : RunState) → is_open_run q ≡ true → length q.opened ≡ 13
opened_all q e = let a = (both_true (length q.opened == 13) (nat_lt q.at line_limit && nat_lt q.ended line_limit) e).0 in grind (arith, nat_tests)

-- at the end of a run its line asks for nothing but the done word and releases
module _ (m : Meaning) (l : Layout) (free blocks : List ℕ) (q : RunState) where
  done_asks : (k : EventKind) → is_ender k ≡ false → line_ask m l k free blocks q micros.SetDone ≡ None
  done_asks (kinds.LoadCell None) n = refl
  done_asks (kinds.LoadCell (Some place)) n = refl
  done_asks kinds.SetDone n = absurd (true≢false n)
  done_asks kinds.Release n = absurd (true≢false n)
  done_asks _ n = refl

  release_asks : (k : EventKind) (place word : ℕ) → is_ender k ≡ false → line_ask m l k free blocks q (micros.Release place word) ≡ None
  release_asks (kinds.LoadCell None) place word n = refl
  release_asks (kinds.LoadCell (Some p)) place word n = refl
  release_asks kinds.SetDone place word n = absurd (true≢false n)
  release_asks kinds.Release place word n = absurd (true≢false n)
  release_asks _ place word n = refl

  end_asks : (k : EventKind) → line_ask m l k free blocks q micros.End ≡ None
  end_asks (kinds.LoadCell None) = refl
  end_asks (kinds.LoadCell (Some p)) = refl
  end_asks _ = refl

  ending_asks : (k : EventKind) → is_ender k ≡ false → (micro : Micro) → is_ending micro ≡ true → line_ask m l k free blocks q micro ≡ None
  ending_asks k n micros.SetDone e = done_asks k n
  ending_asks k n (micros.Release place word) e = release_asks k place word n
  ending_asks k n micros.End e = end_asks k
  ending_asks k n _ e = absurd (false_true e)

  -- and where it asks for these it is at its end
  ender_ends : (k : EventKind) → is_ender k ≡ true → (micro : Micro) (x : Spot × Access) → line_ask m l k free blocks q micro ≡ Some x → is_ending micro ≡ true
  ender_ends kinds.SetDone e micros.SetDone x h = refl
  ender_ends kinds.SetDone e _ x h = absurd (none-some x h)
  ender_ends kinds.Release e (micros.Release place word) x h = refl
  ender_ends kinds.Release e _ x h = absurd (none-some x h)
  ender_ends _ e micro x h = absurd (false_true e)

all_ending : (xs : List Micro) → list_all is_ending xs ≡ true → (i : ℕ) → is_ending (slice_index_or xs i micros.End) ≡ true
all_ending [] e i = refl
all_ending (x ∷ xs) e zero = (both_true (is_ending x) (list_all is_ending xs) e).0
all_ending (x ∷ xs) e (suc i) = all_ending xs (both_true (is_ending x) (list_all is_ending xs) e).1 i

release_ends : (x : Micro) → list_all is_ending (release_of x) ≡ true
release_ends (micros.CheckHeld place log word) = refl
release_ends _ = refl

both : (a b : Bool) → a ≡ true → b ≡ true → a && b ≡ true
both true b e e' = e'
both false b e e' = absurd (false_true e)

releases_end : (xs : List Micro) → list_all is_ending (releases xs) ≡ true
releases_end [] = refl
releases_end (x ∷ xs) = list_all-append is_ending (release_of x) (releases xs) ∙ both (list_all is_ending (release_of x)) (list_all is_ending (releases xs)) (release_ends x) (releases_end xs)

ending_ends : (line : List Micro) (at lock word : ℕ) → list_all is_ending (ending line at lock word) ≡ true
ending_ends line at lock word = list_all-append is_ending (releases (take at line)) (micros.Release lock word ∷ [])
    ∙ both (list_all is_ending (releases (take at line))) true (releases_end (take at line)) refl

next_ends_by : (b : Bool) (micro : Micro) (xs : List Micro) (i j : ℕ) → list_all is_ending xs ≡ true → is_ending (cond b micro (slice_index_or xs i micros.End)) ≡ true → is_ending (cond b micro (slice_index_or xs j micros.End)) ≡ true
next_ends_by true micro xs i j all e = e
next_ends_by false micro xs i j all e = all_ending xs all j

-- a run at its end stays there
next_ends : (m : Meaning) (q : RunState) → is_ending (next_of m q) ≡ true → is_ending (next_of m (ended_more q)) ≡ true
next_ends m q e = let t = thunk_of q.opened in next_ends_by (is_event (micro_at (line_of m q) q.at)) (micro_at (line_of m q) q.at) (ending (line_of m q) q.at t.lock t.word) q.ended (q.ended + 1) (ending_ends (line_of m q) q.at t.lock t.word) e

-- the run, if any, after a step of the end
ends_some : (m : Meaning) (q : RunState) → is_ending (next_of m q) ≡ true → (y : RunState) → Some q ≡ Some y → is_ending (next_of m y) ≡ true
ends_some m q e y h = subst (λ (z : RunState). is_ending (next_of m z) ≡ true) (some_same q y h) e

ends_if : (m : Meaning) (b : Bool) (p p' : PartState) → ((y : RunState) → p.run ≡ Some y → is_ending (next_of m y) ≡ true) → ((y : RunState) → p'.run ≡ Some y → is_ending (next_of m y) ≡ true)
    → (y : RunState) → (if b then p else p').run ≡ Some y → is_ending (next_of m y) ≡ true
ends_if m true p p' e e' = e
ends_if m false p p' e e' = e'

ends_run : (m : Meaning) (l : Layout) (p : PartState) (q : RunState) (micro : Micro) (found : ℕ) (k : EventKind) → is_ender k ≡ true → is_ending (next_of m q) ≡ true
    → (y : RunState) → (line_after m l k p q micro found).run ≡ Some y → is_ending (next_of m y) ≡ true
ends_run m l p q micro found kinds.SetDone e is = ends_some m (ended_more q) (next_ends m q is)
ends_run m l p q micro found kinds.Release e is = let after_release = record p { reads = cell_read p.reads (place_of micro) found } in
    ends_if m (is_end (next_of m (ended_more q))) (run_over m l after_release (ended_more q)) (with_run after_release (ended_more q)) (λ y h. absurd (none-some y h)) (ends_some m (ended_more q) (next_ends m q is))
ends_run m l p q micro found _ e is = absurd (false_true e)

-- a run that goes on isn't at its end
pub goes_inside : (m : Meaning) (l : Layout) (kept : Block) (p : PartState) (q : RunState) (k : EventKind) (x : Spot × Access) → KeepsPart m kept p → p.run ≡ Some q → is_open_run q ≡ true → is_ender k ≡ false
    → line_ask m l k p.nodes.free p.blocks.free q (next_of m q) ≡ Some x → kept.place.inside ≡ false → ⊥
goes_inside m l kept p q k x was there ready n asked closed = none-some x (sym (ending_asks m l p.nodes.free p.blocks.free q k n (next_of m q) (was.run.ending q there ready closed)) ∙ asked)

module _ (m : Meaning) (l : Layout) (k : EventKind) (kept : Block) (p : PartState) (found : ℕ) (h : HasOpenRun p) (x : Spot × Access) (asked : line_ask m l k p.nodes.free p.blocks.free h.run (next_of m h.run) ≡ Some x) (was : KeepsPart m kept p) where
  abbrev q : RunState
  q = h.run

  abbrev p' : PartState
  p' = line_after m l k p q (next_of m q) found

  abbrev placed : IsPlaced kept.place q
  placed = was.place.run q h.there

  -- the hand has the same slots, so the slot of a Make too
  hand_stays : (place : RunPlace) → PlacesRun place q.made p'.run → p'.nodes ≡ p.nodes → (y : RunState) (slot : ℕ) → p'.run ≡ Some y → y.made ≡ Some slot → has p'.nodes.hand slot ≡ true
  hand_stays place run same y slot there made = ap (λ (n : NodesState). has n.hand slot) same ∙ was.place.in_hand q slot h.there (sym (run y there).1 ∙ made)

  goes_part : (kept' : Block) → kept'.place.inside ≡ kept.place.inside → is_ender k ≡ false → kept'.lists.part ≡ told_part p' → PlacesRun kept'.place q.made p'.run → (p'.run ≡ None → ⊥)
      → told_part p' ≡ told_part p → HasEpoch m kept'.place.epoch p'.run → KeepsPart m kept' p'
  goes_part kept' inside n lists run goes same epoch = record {
    lists = lists;
    place = record {
      run = λ y e. (run y e).0;
      outside = λ none. absurd (goes none);
      in_hand = hand_stays kept'.place run (ap (λ (z : PartState). z.nodes) same);
    };
    run = record { ending = λ y e ready closed. absurd (goes_inside m l kept p q k x was h.there h.ready n asked (sym inside ∙ closed)) };
    epoch = epoch;
  }

  was_epoch : HasEpoch m kept.place.epoch (Some q)
  was_epoch = subst (HasEpoch m kept.place.epoch) h.there was.epoch

  -- after a step of a run that leaves the lists and the log
  stays_part : is_quiet k ≡ true → is_ender k ≡ false → KeepsPart m kept p'
  stays_part quiet n =
      let same = quiet_lists m l p q (next_of m q) found k (quiet_inner k quiet) (no_release k n) in
      goes_part kept refl n (was.lists ∙ sym same) (stays_place m l p q h.there (next_of m q) found kept.place placed k quiet n) (stays_open m l p q h.there (next_of m q) found kept.place placed k quiet n) same
      (quiet_epoch m l p q h.there (next_of m q) found kept.place.epoch was_epoch (λ word. goes_epoch m l p.nodes.free p.blocks.free q k x (quiet_other k quiet) asked h.ready kept.place.epoch (goes_on m l q word) q.trail refl refl) k quiet n)

  -- after a commit of a loaded word
  commit_part : is_commit k ≡ true → KeepsPart m (record kept { place = record (kept.place) { agreed = kept.place.agreed + 1 } }) p'
  commit_part commits =
      let same = quiet_lists m l p q (next_of m q) found k (commit_inner k commits) (no_release k (commit_goes k commits)) in
      goes_part (record kept { place = record (kept.place) { agreed = kept.place.agreed + 1 } }) refl (commit_goes k commits) (was.lists ∙ sym same) (commit_place m l p q h.there (next_of m q) found kept.place placed k commits)
      (commit_open m l p q h.there (next_of m q) found kept.place placed k commits) same
      (commit_epoch m l p q h.there (next_of m q) found kept.place.epoch was_epoch (λ word. goes_epoch m l p.nodes.free p.blocks.free q k x (commit_other k commits) asked h.ready kept.place.epoch (agrees m l q word) (q.trail ++ word ∷ []) refl refl) k commits)

  -- after a step of the end
  ends_part : is_ender k ≡ true → (kept' : KeptState) → kept'.part ≡ told_part p' → p'.nodes ≡ p.nodes → KeepsPart m (record { lists = kept'; place = at_end kept.place }) p'
  ends_part ender kept' lists nodes =
      let run = ends_place m l p q h.there (next_of m q) found kept.place placed k ender in
      record {
        lists = lists;
        place = record { run = λ y e. (run y e).0; outside = λ none. refl; in_hand = hand_stays (at_end kept.place) run nodes };
        run = record { ending = λ y e ready closed. ends_run m l p q (next_of m q) found k ender (ender_ends m l p.nodes.free p.blocks.free q k ender (next_of m q) x asked) y e };
        epoch = ender_epoch m l p q h.there (next_of m q) found kept.place.epoch was_epoch k ender;
      }

  -- after the done word was set, which leaves the lists
  done_part : is_ender k ≡ true → is_release k ≡ false → KeepsPart m (record kept { place = at_end kept.place }) p'
  done_part ender n =
      let same = quiet_lists m l p q (next_of m q) found k (quiet_inner k (ender_quiet k ender)) n in
      ends_part ender kept.lists (was.lists ∙ sym same) (ap (λ (z : PartState). z.nodes) same)

-- after a release, of which the last one, of the section's own lock, ends the run
module _ (m : Meaning) (l : Layout) (kept : Block) (p : PartState) (found place : ℕ) (h : HasOpenRun p) (x : Spot × Access) (asked : line_ask m l kinds.Release p.nodes.free p.blocks.free h.run (next_of m h.run) ≡ Some x) (was : KeepsPart m kept p)
    (last : is_end (next_of m (ended_more h.run)) ≡ place == kept.place.lock) where
  abbrev read : PartState
  read = record p { reads = cell_read p.reads (place_of (next_of m h.run)) found }

  abbrev end : RunState
  end = ended_more h.run

  lists_by : (b : Bool) → (lists_released kept.lists kept.place.descriptor b).part ≡ told_part (if b then run_over m l read end else with_run read end)
  lists_by true = (λ i. over_in (was.lists i) ((was.place.run h.run h.there).descriptor i)) ∙ over_told m l read end
  lists_by false = was.lists

  nodes_by : (b : Bool) → (if b then run_over m l read end else with_run read end).nodes ≡ p.nodes
  nodes_by true = refl
  nodes_by false = refl

  released_part : KeepsPart m (block_released kept place) (line_after m l kinds.Release p h.run (next_of m h.run) found)
  released_part = ends_part m l kinds.Release kept p found h x asked was refl (lists_released kept.lists kept.place.descriptor (place == kept.place.lock))
      (ap (λ (b : Bool). (lists_released kept.lists kept.place.descriptor b).part) (sym last) ∙ lists_by (is_end (next_of m end))) (nodes_by (is_end (next_of m end)))

released_room : (lists : KeptState) (descriptor : ℕ) (b : Bool) → ((lists_released lists descriptor b).room ≡ lists.room) × ((lists_released lists descriptor b).marks ≡ lists.marks)
released_room lists descriptor true = (refl, refl)
released_room lists descriptor false = (refl, refl)

released_blocks : (lists : KeptState) (descriptor : ℕ) (b : Bool)
    → ((if b then links_over lists.blocks descriptor else lists.blocks) ≡ (lists_released lists descriptor b).blocks) × (lists.named ≡ (lists_released lists descriptor b).named)
released_blocks lists descriptor true = (refl, refl)
released_blocks lists descriptor false = (refl, refl)

line_by : (m : Meaning) (l : Layout) (k : EventKind) (free blocks : List ℕ) (q : RunState) (x : Spot × Access) (b : Bool) → opening_ask k q ≡ None
    → (if b then line_ask m l k free blocks q (next_of m q) else opening_ask k q) ≡ Some x → line_ask m l k free blocks q (next_of m q) ≡ Some x
line_by m l k free blocks q x true none e = e
line_by m l k free blocks q x false none e = absurd (none-some x (sym none ∙ e))

asked_by : (m : Meaning) (l : Layout) (rs : List Request) (r : ℕ) (k : EventKind) (p : PartState) (o : Option RunState) (q : RunState) (x : Spot × Access) → is_inner k ≡ true → o ≡ Some q
    → ask_by m l rs r k p o ≡ Some x → line_ask m l k p.nodes.free p.blocks.free q (next_of m q) ≡ Some x
asked_by m l rs r k p o q x e there h = line_by m l k p.nodes.free p.blocks.free q x (is_open_run q) (no_opening k q e) (sym (ap (ask_by m l rs r k p) there) ∙ h)

-- what the step of a run asks that comes next
pub line_asked : {T : Type 0} (m : Meaning) (r : RunnerState T) (k : EventKind) (q : RunState) (x : Spot × Access) → is_inner k ≡ true → r.part.run ≡ Some q → met_by m r k ≡ Some x
    → line_ask m r.layout k r.part.nodes.free r.part.blocks.free q (next_of m q) ≡ Some x
line_asked m r k q x e there h = asked_by m r.layout r.requests r.number k r.part r.part.run q x e there (unless_gone (sizes_for m r.layout r.requests) r.part.gone (ask_by m r.layout r.requests r.number k r.part r.part.run) x h)

module _ {T : Type 0} (mean : T → Meaning) (s : T) (k : EventKind) (found number : ℕ) (kept : Block) (old_table new_table : TableId) (me me' : Me Thunk (View T)) (live : me.0.structure ≡ Some s)
    (made : Makes (mean s) k found (seen_seat old_table me) (seen_seat new_table me')) (slots : me'.1 ≡ me.1) (was : IsKept mean number kept me) (inner : is_inner k ≡ true) where
  opens : HasOpenRun me.0.part
  opens = opened_run (mean s) me.0.layout me.0.requests me.0.number k me.0.part made.met inner made.asked

  next_asked : line_ask (mean s) me.0.layout k me.0.part.nodes.free me.0.part.blocks.free opens.run (next_of (mean s) opens.run) ≡ Some made.met
  next_asked = line_asked (mean s) (seen_seat old_table me) k opens.run made.met inner opens.there made.asked

  run_kept : is_release k ≡ false → (kept' : Block) → beside kept'.lists ≡ beside kept.lists → KeepsPart (mean s) kept' (line_after (mean s) me.0.layout k me.0.part opens.run (next_of (mean s) opens.run) found) → IsKept mean number kept' me'
  run_kept n kept' room h = then_kept mean s k found number kept old_table new_table me me' live made slots was (inner_left k inner n) kept' room (subst (KeepsPart (mean s) kept') (sym (step_is (mean s) me.0.layout k me.0.part found opens)) h)

  abbrev before : KeepsPart (mean s) kept me.0.part
  before = was_part mean s k found number kept old_table new_table me me' live made slots was

  -- what the code keeps after a step of a run that leaves the lists and the log
  pub quiet_kept : is_quiet k ≡ true → is_ender k ≡ false → IsKept mean number kept me'
  quiet_kept quiet n = run_kept (no_release k n) kept refl (stays_part (mean s) me.0.layout k kept me.0.part found opens made.met next_asked before quiet n)

  -- after a commit of a loaded word
  pub commit_kept : is_commit k ≡ true → IsKept mean number (record kept { place = record (kept.place) { agreed = kept.place.agreed + 1 } }) me'
  commit_kept commits = run_kept (no_release k (commit_goes k commits)) (record kept { place = record (kept.place) { agreed = kept.place.agreed + 1 } }) refl (commit_part (mean s) me.0.layout k kept me.0.part found opens made.met next_asked before commits)

  -- after the done word was set
  pub done_set_kept : is_ender k ≡ true → is_release k ≡ false → IsKept mean number (record kept { place = at_end kept.place }) me'
  done_set_kept ender n = run_kept n (record kept { place = at_end kept.place }) refl (done_part (mean s) me.0.layout k kept me.0.part found opens made.met next_asked before ender n)

-- what the code keeps after a release
module _ {T : Type 0} (mean : T → Meaning) (s : T) (found number : ℕ) (kept : Block) (old_table new_table : TableId) (me me' : Me Thunk (View T)) (live : me.0.structure ≡ Some s)
    (made : Makes (mean s) kinds.Release found (seen_seat old_table me) (seen_seat new_table me')) (slots : me'.1 ≡ me.1) (was : IsKept mean number kept me) where
  -- the run that it was of
  pub releasing : HasOpenRun me.0.part
  releasing = opens mean s kinds.Release found number kept old_table new_table me me' live made slots was refl

  pub release_kept : (place : ℕ) → is_end (next_of (mean s) (ended_more releasing.run)) ≡ place == kept.place.lock → IsKept mean number (block_released kept place) me'
  unfolding releasing opens
  release_kept place last =
      let over = place == kept.place.lock in let q = releasing.run in let d = kept.place.descriptor in
      let room = released_room kept.lists d over in let blocks = released_blocks kept.lists d over in
      let same : d ≡ q.descriptor = (was.place.run q releasing.there).descriptor in
      then_kept_with mean s kinds.Release found number kept old_table new_table me me' live made slots was refl (block_released kept place) room.0 room.1
      (blocks_to blocks.0 blocks.1
      (subst (λ (n : ℕ). KeepsBlocks (with_blocks kept.lists (if over then links_over kept.lists.blocks n else kept.lists.blocks)) me'.0.part) (sym same)
      (subst (KeepsBlocks (with_blocks kept.lists (if over then links_over kept.lists.blocks q.descriptor else kept.lists.blocks)))
      (sym (part_is mean s kinds.Release found number kept old_table new_table me me' live made slots was))
      (released (mean s) me.0.layout me.0.number made.met.0 made.met.1 me.0.part found kept.lists was.blocks q releasing.there releasing.ready over last))))
      (subst (KeepsPart (mean s) (block_released kept place)) (sym (step_is (mean s) me.0.layout kinds.Release me.0.part found releasing))
      (released_part (mean s) me.0.layout kept me.0.part found place releasing made.met (next_asked mean s kinds.Release found number kept old_table new_table me me' live made slots was refl)
      (was_part mean s kinds.Release found number kept old_table new_table me me' live made slots was) last))

-- what an exchange expects
abbrev old_of : Access → ℕ
old_of (Exchanges old new) = old
old_of _ = 0

-- the lock can be held by this descriptor with this word
record CanHold (l : Layout) (descriptor word : ℕ) : Type 0 where
  pub few : descriptor < descriptor_count l
  pub low : version_of word < l.version_max

can_hold_is : (l : Layout) (d word : ℕ) → can_hold l d word ≡ true → CanHold l d word
can_hold_is l d word e = let b = both_true (nat_lt d (descriptor_count l)) (nat_lt (version_of word) l.version_max) e in let one = b.0 in let two = b.1 in record { few = grind (arith, nat_tests); low = grind (arith, nat_tests) }

nested_can : (l : Layout) (q : RunState) (micro : Micro) (x : Spot × Access) → nested_hold_ask l q micro ≡ Some x → CanHold l q.descriptor (old_of x.1)
nested_can l q (micros.NestedHold place word) x e =
    let t = tested (can_hold l q.descriptor word) (spots.Cell place) (Exchanges word (held_word q.descriptor word)) x e in
    subst (λ (y : Spot × Access). CanHold l q.descriptor (old_of y.1)) t.1 (can_hold_is l q.descriptor word t.0)
nested_can l q _ x e = absurd (none-some x e)

-- these numbers fit
pub few_descriptors : (l : Layout) → IsWithinLimits l → descriptor_count l < 20000
few_descriptors l limits = let a = mul-le-mul_left l.sections limits.few_runners in let d = limits.few_sections in let b = limits.few_runners in omega (arith, a, b, d)

-- the held word of this lock can be made
pub record CanMake (descriptor word : ℕ) : Type 0 where
  pub few : descriptor < 2 ^ 32 - 1
  pub low : version_of word < 2 ^ 32 - 1

can_make : (l : Layout) (d word : ℕ) → IsWithinLimits l → CanHold l d word → CanMake d word
can_make l d word limits can = let a = few_descriptors l limits in let b = limits.few_versions in let e = can.few in let f = can.low in record { few = omega (arith, a, e); low = omega (arith, b, f) }

-- a nested lock can be held where its exchange is enabled
pub may_nest : {T : Type 0} (m : Meaning) (r : RunnerState T) (q : RunState) (place word new : ℕ) → IsWithinLimits r.layout → r.part.run ≡ Some q → met_by m r kinds.NestedHold ≡ Some (spots.Cell place, Exchanges word new) → CanMake q.descriptor word
may_nest m r q place word new limits there h = can_make r.layout q.descriptor word limits (nested_can r.layout q (next_of m q) (spots.Cell place, Exchanges word new) (line_asked m r kinds.NestedHold q (spots.Cell place, Exchanges word new) refl there h))

release_can : (l : Layout) (q : RunState) (micro : Micro) (x : Spot × Access) → release_ask l q micro ≡ Some x → (word : ℕ) × CanHold l q.descriptor word × (version_of (held_word q.descriptor word) < l.version_max) × (old_of x.1 ≡ held_word q.descriptor word)
release_can l q (micros.Release place word) x e =
    let held = held_word q.descriptor word in
    let t = tested (can_hold l q.descriptor word && can_raise l held) (spots.Cell place) (Exchanges held (next_word held 0)) x e in
    let b = both_true (can_hold l q.descriptor word) (can_raise l held) t.0 in let two = b.1 in
    (word, can_hold_is l q.descriptor word b.0, (let low : version_of held < l.version_max = grind (arith, nat_tests, two) in low), ap (λ (y : Spot × Access). old_of y.1) (sym t.1))
release_can l q _ x e = absurd (none-some x e)

same_version : (d v v' : ℕ) → 2 ^ 32 * (v + 1) + (d + 1) ≡ 2 ^ 32 * (v' + 1) + (d + 1) → v ≡ v'
same_version d v v' e = omega arith

-- a lock can be released where its exchange is enabled
pub may_release : {T : Type 0} (m : Meaning) (r : RunnerState T) (q : RunState) (place word new : ℕ) → IsWithinLimits r.layout → r.part.run ≡ Some q → met_by m r kinds.Release ≡ Some (spots.Cell place, Exchanges (held_word q.descriptor word) new)
    → CanMake q.descriptor word × (version_of (held_word q.descriptor word) + 1 < 2 ^ 32)
may_release m r q place word new limits there h =
    let c = release_can r.layout q (next_of m q) (spots.Cell place, Exchanges (held_word q.descriptor word) new) (line_asked m r kinds.Release q (spots.Cell place, Exchanges (held_word q.descriptor word) new) refl there h) in
    let same = same_version q.descriptor (version_of word) (version_of c.0) c.3 in
    let made = can_make r.layout q.descriptor c.0 limits c.1 in let low = made.low in
    let raised : version_of (held_word q.descriptor word) < r.layout.version_max = subst (λ n. version_of n < r.layout.version_max) (sym c.3) c.2 in
    let max = limits.few_versions in
    (record { few = made.few; low = omega (arith, low, same) }, omega (arith, raised, max))

-- a run is in progress where one of its steps is enabled
pub has_run : {T : Type 0} (m : Meaning) (r : RunnerState T) (k : EventKind) (x : Spot × Access) → is_inner k ≡ true → met_by m r k ≡ Some x → (q : RunState) × (r.part.run ≡ Some q)
has_run m r k x e h = let o = opened_run m r.layout r.requests r.number k r.part x e h in (o.run, o.there)

second_false : (a b : Bool) → b ≡ false → a && b ≡ false
second_false true b e = e
second_false false b e = refl

not_false : (b : Bool) → (b ≡ false → ⊥) → b ≡ true
not_false b not_so = by b refl
  where
    by : (c : Bool) → b ≡ c → c ≡ true
    by true e = refl
    by false e = absurd (not_so e)

-- what the code keeps after a load of a cell, in a run or outside
module _ {T : Type 0} (mean : T → Meaning) (s : T) (place found number : ℕ) (kept : Block) (old_table new_table : TableId) (me me' : Me Thunk (View T)) (live : me.0.structure ≡ Some s)
    (slots : me'.1 ≡ me.1) (was : IsKept mean number kept me) where
  -- outside a run these blocks are those that it has then; in a run they stay
  module _ (blocks : BlocksKept) (links : blocks.links ≡ kept.lists.blocks.links) (seen_so : kept.place.inside ≡ false → blocks.lists ≡ blocks_seen me.0.part.guards ((mean s).is_lock place) found me.0.part.blocks)
      (stay : kept.place.inside ≡ true → blocks ≡ kept.lists.blocks) where
    abbrev kept' : Block
    kept' = record kept { lists = with_blocks kept.lists blocks }

    cell_by : (o : Option RunState) → me.0.part.run ≡ o → Makes (mean s) (load_of o place) found (seen_seat old_table me) (seen_seat new_table me') → IsKept mean number kept' me'
    cell_by None none made =
        let b = was_part mean s (kinds.LoadCell (Some place)) found number kept old_table new_table me me' live made slots was in
        then_kept_with mean s (kinds.LoadCell (Some place)) found number kept old_table new_table me me' live made slots was refl kept' refl refl
        (subst (KeepsBlocks (with_blocks kept.lists blocks)) (sym (part_is mean s (kinds.LoadCell (Some place)) found number kept old_table new_table me me' live made slots was))
        (seen (mean s) me.0.layout me.0.number made.met.0 made.met.1 me.0.part found kept.lists was.blocks none place blocks links (seen_so (was.place.outside none))))
        (subst (KeepsPart (mean s) kept') (sym (ap (λ (o : Option RunState). after_by (mean s) me.0.layout (kinds.LoadCell (Some place)) me.0.part o found) none))
        (record {
          lists = b.lists ∙ sym (told_read (mean s) place found me.0.part);
          place = record { run = b.place.run; outside = b.place.outside; in_hand = b.place.in_hand };
          run = record { ending = b.run.ending };
          epoch = record { opening = b.epoch.opening; retiring = b.epoch.retiring };
        }))
    cell_by (Some q) there made =
        let opens = opens mean s (kinds.LoadCell None) found number kept old_table new_table me me' live made slots was refl in
        let asked = next_asked mean s (kinds.LoadCell None) found number kept old_table new_table me me' live made slots was refl in
        let before = was_part mean s (kinds.LoadCell None) found number kept old_table new_table me me' live made slots was in
        let inside : kept.place.inside ≡ true = not_false kept.place.inside
        (λ closed. goes_inside (mean s) me.0.layout kept me.0.part opens.run (kinds.LoadCell None) made.met before opens.there opens.ready refl asked closed) in
        subst (λ (b : BlocksKept). IsKept mean number (record kept { lists = with_blocks kept.lists b }) me') (sym (stay inside))
        (quiet_kept mean s (kinds.LoadCell None) found number kept old_table new_table me me' live made slots was refl refl refl)

    cell_kept : Makes (mean s) (load_of me.0.part.run place) found (seen_seat old_table me) (seen_seat new_table me') → IsKept mean number kept' me'
    cell_kept made = cell_by me.0.part.run refl made

  abbrev lock : Bool
  lock = (mean s).is_lock place

  -- the guard word that the code keeps is that of the part
  names_so : names kept.lists.named found ≡ names me.0.part.guards.named found
  names_so = ap (λ (o : Option ℕ). names o found) was.blocks.named

  unseen : IsUnseen (mean s) kept place found → kept.lists.blocks.lists ≡ blocks_seen me.0.part.guards lock found me.0.part.blocks
  unseen none = ⊎_elim
      (λ empty. was.blocks.lists ∙ sym (seen_none me.0.part.guards lock found me.0.part.blocks (ap (λ (b : BlocksState). length b.limbo) (sym was.blocks.lists) ∙ empty)))
      (λ rest. was.blocks.lists ∙ sym (seen_unnamed me.0.part.guards lock found me.0.part.blocks (⊎_elim
      (λ other. second_false lock (names me.0.part.guards.named found) (sym names_so ∙ other))
      (λ cell. ap (λ (b : Bool). b && names me.0.part.guards.named found) cell) rest))) none

  -- what the code keeps after the load, by whether it made the runner sure of a descriptor
  pub cell_saw : (sure : Bool) → (sure ≡ false → kept.place.inside ≡ false → IsUnseen (mean s) kept place found) → (sure ≡ true → IsSeen (mean s) kept place found)
      → Makes (mean s) (load_of me.0.part.run place) found (seen_seat old_table me) (seen_seat new_table me') → IsKept mean number (block_saw kept sure found) me'
  cell_saw true none some made =
      let is = some refl in
      cell_kept (blocks_are kept.lists.blocks (blocks_given_back (value_of found - 1) kept.lists.blocks.lists)) refl
      (λ outside. ap (blocks_given_back (value_of found - 1)) was.blocks.lists ∙ sym (seen_named_so me.0.part.guards lock found me.0.part.blocks (λ i. is.lock i && (sym names_so ∙ is.names) i)))
      (λ inside. absurd (true≢false (sym inside ∙ is.outside))) made
  cell_saw false none some made = cell_kept kept.lists.blocks refl (λ outside. unseen (none refl outside)) (λ inside. refl) made

-- the step that loads a cell has the event's name
pub cell_event : {T : Type 0} (m : Meaning) (t : TableState T) (r : RunnerState T) → IsOf t r → (place found : ℕ) (r' : RunnerState T)
    → Makes m (load_of r.part.run (address (sizes_for m t.layout t.requests) (spots.Cell place) - cells_at (sizes_for m r.layout r.requests))) found r r' → Makes m (load_of r.part.run place) found r r'
cell_event m t r own place found r' = subst (λ (n : ℕ). Makes m (load_of r.part.run n) found r r')
    ((λ i. address (sizes_for m (sym own.layout i) (sym own.requests i)) (spots.Cell place) - cells_at (sizes_for m r.layout r.requests)) ∙ (let is : address (sizes_for m r.layout r.requests) (spots.Cell place) - cells_at (sizes_for m r.layout r.requests) ≡ place = omega arith in is))
