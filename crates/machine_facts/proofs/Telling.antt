-- Each step of a runner leaves it knowing the words to which its run has written.
use Rattle.std.specs.Prelude.{◌==◌, ◌&&◌, not, nat_lt, cond, Bool, true, false, slice_index_or, if◌then◌else◌}
use Rattle.std.proofs.Common.{◌≡◌, ◌≢◌, ℕ, ◌+◌, ◌-◌, ◌<◌, List, [], ◌∷◌, ◌++◌, refl, sym, ap, ◌∙◌, subst, ⊎_elim, arith, Option, Some, None}
use Rattle.std.proofs.lemmas.Bool.{cases_eq, cases_lt, and_parts}
use Rattle.std.proofs.lemmas.Bool.Decides.{nat_tests}
use Rattle.std.proofs.lemmas.List.Folds.{list_any-append}
use Rattle.machine_states.specs.epoch_core.specs.small_lemmas.proofs.Bools.{or_first as true_or, or_second as or_true}
use Rattle.machine_states.specs.body_terms.specs.declared.micro.Micro.{Micro}
use Rattle.machine_states.specs.body_terms.specs.declared.micro.Micro.TheVariants as micros
use Rattle.machine_states.specs.body_terms.specs.Line.{is_end, is_check, is_event, micro_at, ending}
use Rattle.machine_states.specs.body_terms.specs.Run.{written_once}
use Rattle.machine_states.specs.table_words.specs.declared.layout.Layout.{Layout}
use Rattle.machine_states.specs.table_words.specs.declared.spot.Spot.{Spot}
use Rattle.machine_states.specs.table_words.specs.declared.access.Access.{Access}
use Rattle.machine_states.specs.structure_laws.specs.Meaning.{Meaning}
use Rattle.machine_states.specs.runner_parts.specs.declared.entries.Known.{Known}
use Rattle.machine_states.specs.runner_parts.specs.declared.event.EventKind.{EventKind}
use Rattle.machine_states.specs.runner_parts.specs.declared.event.EventKind.TheVariants as kinds
use Rattle.machine_states.specs.runner_parts.specs.State.{RunState, RecordsState, PartState}
use Rattle.machine_states.specs.runner_parts.specs.Lists.{learned}
use Rattle.machine_states.specs.runner_parts.specs.Tests.{knows}
use Rattle.machine_states.specs.runner_steps.specs.Sections.{thunk_of, line_of, next_of, needs_link, settles}
use Rattle.machine_states.specs.runner_steps.specs.Outside.{blocks_from}
use Rattle.machine_states.specs.runner_steps.specs.InRun.{last_clock, stamp_after}
use Rattle.machine_states.specs.runner_steps.specs.Asks.{line_ask}
use Rattle.machine_states.specs.runner_steps.specs.After.{line_after}
use Rattle.machine_states.specs.runner_steps.specs.AfterInRun as inside
use Rattle.machine_states.proofs.Sights.{some_none}
use Rattle.machine_states.proofs.Steps.{some_same}
use Rattle.machine_invariant.specs.machine_blocks.specs.machine_guards.specs.machine_agreement.proofs.Passes.{ahead}
use Rattle.machine_facts.specs.Told.{IsTold, PartIsTold}

-- who knows more knows what it knew
abbrev pub Grows : List Known → List Known → Type 0
Grows known known' = (n : ℕ) (reply : Bool) → knows known n reply ≡ true → knows known' n reply ≡ true

pub grows_append : (known more : List Known) → Grows known (known ++ more)
grows_append known more n reply e = list_any-append (λ (x : Known). x.request == n && cond reply x.reply (not x.reply)) known more
    ∙ true_or (knows known n reply) (knows more n reply) e

some_zero : (n : ℕ) → n ≢ 0 → (n == 0) ≡ false
some_zero n some = grind (arith, nat_tests)

pub grows_learned : (s : RecordsState) (request : ℕ) (reply : Bool) (number : ℕ) → Grows s.known (learned s request reply number).known
grows_learned s request reply number n b e = by (number == 0)
  where
    by : (c : Bool) → knows (if c then s else record s { known = s.known ++ record { request = request; reply = reply; number = number } ∷ [] }).known n b ≡ true
    by true = e
    by false = grows_append s.known (record { request = request; reply = reply; number = number } ∷ []) n b e

-- a word that isn't 0 is known where it was learned
own_entry : (request number : ℕ) (reply : Bool) → knows (record { request = request; reply = reply; number = number } ∷ []) request reply ≡ true
own_entry request number true = grind (arith, nat_tests)
own_entry request number false = grind (arith, nat_tests)

pub learned_known : (s : RecordsState) (request : ℕ) (reply : Bool) (number : ℕ) → number ≢ 0 → knows (learned s request reply number).known request reply ≡ true
learned_known s request reply number some =
    ap (λ (c : Bool). knows (if c then s else record s { known = s.known ++ record { request = request; reply = reply; number = number } ∷ [] }).known request reply) (some_zero number some)
    ∙ (list_any-append (λ (x : Known). x.request == request && cond reply x.reply (not x.reply)) s.known (record { request = request; reply = reply; number = number } ∷ [])
    ∙ or_true (knows s.known request reply) _ (own_entry request number reply))

once_some : (old new : ℕ) → new ≢ 0 → written_once old new ≢ 0
once_some old new some none = by (old == 0) refl none
  where
    by : (b : Bool) → (old == 0) ≡ b → cond b new old ≡ 0 → ⊥
    by true e none = some none
    by false e none = let x : (old == 0) ≡ true = is_zero old none in absurd (let y = sym x ∙ e in cc)
      where
        is_zero : (n : ℕ) → n ≡ 0 → (n == 0) ≡ true
        is_zero n e = grind (arith, nat_tests)

-- it is told of the same steps
pub told_more : (known known' : List Known) (request : ℕ) (micro : Micro) → Grows known known' → IsTold known request micro → IsTold known' request micro
told_more known known' request micros.StampExchange grows h = grows request false h
told_more known known' request (micros.ReplyExchange reply) grows h = grows request true h
told_more known known' request _ grows h = tt

-- steps that write no such word
told_check : (known : List Known) (request : ℕ) (micro : Micro) → is_check micro ≡ true → IsTold known request micro
told_check known request micros.StampExchange e = absurd (let x = e in cc)
told_check known request (micros.ReplyExchange reply) e = absurd (let x = e in cc)
told_check known request _ e = tt

told_quiet : (known : List Known) (request : ℕ) (micro : Micro) → is_event micro ≡ false → IsTold known request micro
told_quiet known request micros.StampExchange e = absurd (let x = e in cc)
told_quiet known request (micros.ReplyExchange reply) e = absurd (let x = e in cc)
told_quiet known request _ e = tt

-- an exchange of a stamp or of a reply
abbrev is_telling : EventKind → Bool
is_telling kinds.StampExchange = true
is_telling kinds.ReplyExchange = true
is_telling _ = false

module _ (m : Meaning) (l : Layout) (p : PartState) (q : RunState) (is : p.run ≡ Some q) (x : Spot × Access) where
  abbrev request : ℕ
  request = (thunk_of q.opened).request

  -- no other step asks of a run that stands before such an exchange
  other_stamp : {A : Type 0} (kind : EventKind) → is_telling kind ≡ false → line_ask m l kind p.nodes.free p.blocks.free q micros.StampExchange ≡ Some x → A
  other_stamp kinds.StampExchange other e = absurd (let z = other in cc)
  other_stamp (kinds.LoadCell None) other e = some_none x e
  other_stamp (kinds.LoadCell (Some place)) other e = some_none x e
  other_stamp _ other e = some_none x e

  other_reply : {A : Type 0} (kind : EventKind) (reply : ℕ) → is_telling kind ≡ false → line_ask m l kind p.nodes.free p.blocks.free q (micros.ReplyExchange reply) ≡ Some x → A
  other_reply kinds.ReplyExchange reply other e = absurd (let z = other in cc)
  other_reply (kinds.LoadCell None) reply other e = some_none x e
  other_reply (kinds.LoadCell (Some place)) reply other e = some_none x e
  other_reply _ reply other e = some_none x e

  told_other : (known : List Known) (kind : EventKind) (micro : Micro) → is_telling kind ≡ false → line_ask m l kind p.nodes.free p.blocks.free q micro ≡ Some x → IsTold known request micro
  told_other known kind micros.StampExchange other e = other_stamp kind other e
  told_other known kind (micros.ReplyExchange reply) other e = other_reply kind reply other e
  told_other known kind _ other e = tt

  -- the step at the run's place is the one that comes next, or none on shared words
  told_here : (known : List Known) → IsTold known request (next_of m q) → IsTold known request (micro_at (line_of m q) q.at)
  told_here known next = by (is_event (micro_at (line_of m q) q.at)) refl next
    where
      by : (b : Bool) → is_event (micro_at (line_of m q) q.at) ≡ b
          → IsTold known request (cond b (micro_at (line_of m q) q.at) (slice_index_or (ending (line_of m q) q.at (thunk_of q.opened).lock (thunk_of q.opened).word) q.ended micros.End))
          → IsTold known request (micro_at (line_of m q) q.at)
      by true e next = next
      by false e next = told_quiet known request (micro_at (line_of m q) q.at) e

  module _ (old : PartIsTold m p) where
    -- the run goes on behind its step and the checks that pass
    goes : (p' : PartState) (y : RunState) → p'.run ≡ Some (settles m l y) → y.at ≡ q.at + 1 → y.opened ≡ q.opened → Grows p.records.known p'.records.known
        → IsTold p'.records.known request (next_of m q) → PartIsTold m p'
    goes p' y run place opened grows next = record {
      told = λ q' at. subst (λ (z : RunState). (i : ℕ) → i < z.at → IsTold p'.records.known (thunk_of z.opened).request (micro_at (line_of m z) i))
          (some_same (settles m l y) q' (sym run ∙ at)) told;
    }
      where
        same : (i : ℕ) → IsTold p'.records.known request (micro_at (line_of m q) i) → IsTold p'.records.known (thunk_of y.opened).request (micro_at (line_of m y) i)
        same i h = subst (λ (z : RunState). IsTold p'.records.known (thunk_of z.opened).request (micro_at (line_of m z) i)) (λ j. record q { opened = sym opened j }) h

        told : (i : ℕ) → i < (settles m l y).at → IsTold p'.records.known (thunk_of y.opened).request (micro_at (line_of m y) i)
        told i low = ⊎_elim
            (λ before. same i (told_more p.records.known p'.records.known request _ grows (old.told q is i before)))
            (λ from. ⊎_elim
            (λ here. same i (subst (λ k. IsTold p'.records.known request (micro_at (line_of m q) k)) (sym here) (told_here p'.records.known next)))
            (λ ne. let over : i ≡ y.at + (i - y.at) = omega arith in
            subst (λ k. IsTold p'.records.known (thunk_of y.opened).request (micro_at (line_of m y) k)) (sym over)
            (told_check p'.records.known _ _ (and_parts _ _ (ahead m l y (i - y.at) (let z = low in omega arith))).0))
            (cases_eq i q.at))
            (cases_lt i q.at)

    -- the run stays at its place
    stays : (p' : PartState) (y : RunState) → p'.run ≡ Some y → y.at ≡ q.at → y.opened ≡ q.opened → p'.records.known ≡ p.records.known → PartIsTold m p'
    stays p' y run place opened known = record {
      told = λ q' at. subst (λ (z : RunState). (i : ℕ) → i < z.at → IsTold p'.records.known (thunk_of z.opened).request (micro_at (line_of m z) i))
          (some_same y q' (sym run ∙ at))
          (λ i low. subst (λ (z : RunState). IsTold p'.records.known (thunk_of z.opened).request (micro_at (line_of m z) i)) (λ j. record q { opened = sym opened j })
          (subst (λ xs. IsTold xs request (micro_at (line_of m q) i)) (sym known) (old.told q is i (subst (λ k. i < k) place low))));
    }

    -- it is over
    over : (p' : PartState) → p'.run ≡ None → PartIsTold m p'
    over p' run = record { told = λ q' at. some_none q' (sym run ∙ at) }

    either : (b : Bool) (y z : PartState) → PartIsTold m y → PartIsTold m z → PartIsTold m (if b then y else z)
    either true y z one two = one
    either false y z one two = two

    module _ (kind : EventKind) (found : ℕ) (other : is_telling kind ≡ false) (asked : line_ask m l kind p.nodes.free p.blocks.free q (next_of m q) ≡ Some x) where
      on : (p' : PartState) (y : RunState) → p'.run ≡ Some (settles m l y) → y.at ≡ q.at + 1 → y.opened ≡ q.opened → p'.records.known ≡ p.records.known → PartIsTold m p'
      on p' y run place opened known = goes p' y run place opened (λ n reply e. ap (λ xs. knows xs n reply) known ∙ e) (told_other p'.records.known kind (next_of m q) other asked)

    fill_told : (slot word found : ℕ) (asked : line_ask m l (kinds.PrivateLoad slot word) p.nodes.free p.blocks.free q (next_of m q) ≡ Some x) (made : Option ℕ)
        → PartIsTold m (inside.fill_loaded m l slot p q made found)
    fill_told slot word found asked None = on (kinds.PrivateLoad slot word) found refl asked _ _ refl refl refl refl
    fill_told slot word found asked (Some t) = on (kinds.PrivateLoad slot word) found refl asked _ _ refl refl refl refl

    make_told : (found : ℕ) (asked : line_ask m l kinds.MakeCommit p.nodes.free p.blocks.free q (next_of m q) ≡ Some x) (made : Option ℕ)
        → PartIsTold m (inside.make_committed m l p q made found)
    make_told found asked None = stays p q is refl refl refl
    make_told found asked (Some t) = on kinds.MakeCommit found refl asked _ _ refl refl refl refl

    released_told : (found place : ℕ) → PartIsTold m (inside.lock_released m l place p q found)
    released_told found place = either (is_end (next_of m (inside.ended_more q))) _ _ (over _ refl) (stays _ (inside.ended_more q) refl refl refl refl)

    stamp_told : (found : ℕ) (micro : Micro) → next_of m q ≡ micro → line_ask m l kinds.StampExchange p.nodes.free p.blocks.free q micro ≡ Some x → PartIsTold m (inside.stamp_agreed m l p q found)
    stamp_told found micros.StampExchange next asked = either (nat_lt q.word last_clock) _ _
        (goes _ _ refl refl refl (grows_learned p.records request false stamp)
        (subst (IsTold (learned p.records request false stamp).known request) (sym next) (learned_known p.records request false stamp some)))
        (stays p q is refl refl refl)
      where
        stamp : ℕ
        stamp = written_once found (stamp_after q.word)

        after_some : stamp_after q.word ≢ 0
        after_some e = omega arith

        some : written_once found (stamp_after q.word) ≢ 0
        some = once_some found (stamp_after q.word) after_some
    stamp_told found _ next asked = some_none x asked

    reply_told : (found : ℕ) (micro : Micro) → ((n : ℕ) → micro ≡ micros.ReplyExchange n → n ≢ 0) → next_of m q ≡ micro
        → line_ask m l kinds.ReplyExchange p.nodes.free p.blocks.free q micro ≡ Some x → PartIsTold m (inside.reply_agreed m l (inside.reply_word_of micro) p q found)
    reply_told found (micros.ReplyExchange reply) some next asked =
        goes _ _ refl refl refl (grows_learned p.records request true (written_once found reply))
        (subst (IsTold (learned p.records request true (written_once found reply)).known request) (sym next)
        (learned_known p.records request true (written_once found reply) (once_some found reply (some reply refl))))
    reply_told found _ some next asked = some_none x asked

    -- a step of a run's line
    pub line_told : (kind : EventKind) (found : ℕ) → ((n : ℕ) → next_of m q ≡ micros.ReplyExchange n → n ≢ 0)
        → line_ask m l kind p.nodes.free p.blocks.free q (next_of m q) ≡ Some x → PartIsTold m (line_after m l kind p q (next_of m q) found)
    line_told kinds.Commit found some asked = on kinds.Commit found refl asked _ _ refl refl refl refl
    line_told (kinds.LoadCell place) found some asked = on (kinds.LoadCell place) found refl asked _ _ refl refl refl refl
    line_told kinds.ExchangeCell found some asked = on kinds.ExchangeCell found refl asked _ _ refl refl refl refl
    line_told (kinds.PrivateLoad slot word) found some asked = fill_told slot word found asked q.made
    line_told (kinds.PrivateStore slot word number) found some asked = by (needs_link q (next_of m q))
      where
        by : (b : Bool) → PartIsTold m (inside.with_run p (if b then inside.block_emptied (slot - blocks_from m l) q else inside.filled m l number q))
        by true = stays _ _ refl refl refl refl
        by false = on (kinds.PrivateStore slot word number) found refl asked _ _ refl refl refl refl
    line_told (kinds.LinkCommit b) found some asked = stays _ _ refl refl refl refl
    line_told kinds.MakeCommit found some asked = make_told found asked q.made
    line_told kinds.RetireCommit found some asked = on kinds.RetireCommit found refl asked _ _ refl refl refl refl
    line_told kinds.EpochForRetire found some asked = on kinds.EpochForRetire found refl asked _ _ refl refl refl refl
    line_told kinds.SetDone found some asked = stays _ (inside.ended_more q) refl refl refl refl
    line_told kinds.Release found some asked = released_told found (inside.place_of (next_of m q))
    line_told kinds.ClockLoad found some asked = on kinds.ClockLoad found refl asked _ _ refl refl refl refl
    line_told kinds.StampExchange found some asked = stamp_told found (next_of m q) refl asked
    line_told kinds.ClockRaise found some asked = on kinds.ClockRaise found refl asked _ _ refl refl refl refl
    line_told kinds.ReplyExchange found some asked = reply_told found (next_of m q) some refl asked
    line_told kinds.NestedLoad found some asked = on kinds.NestedLoad found refl asked _ _ refl refl refl refl
    line_told kinds.NestedHold found some asked = on kinds.NestedHold found refl asked _ _ refl refl refl refl
    line_told kinds.OutcomeLoad found some asked = on kinds.OutcomeLoad found refl asked _ _ refl refl refl refl
    line_told kinds.OutcomeCommit found some asked = on kinds.OutcomeCommit found refl asked _ _ refl refl refl refl
    line_told _ found some asked = some_none x asked
