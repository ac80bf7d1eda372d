-- Where a step of a run leaves it in its line, and what it tells.
use Rattle.std.specs.Prelude.{◌==◌, ◌&&◌, ◌||◌, Bool, true, false, if◌then◌else◌}
use Rattle.std.proofs.Common.{◌≡◌, ℕ, ◌+◌, ◌-◌, ◌<◌, ◌≤◌, List, [], ◌∷◌, ◌++◌, refl, sym, ap, ◌∙◌, subst, arith, Option, Some, None}
use Rattle.std.proofs.lemmas.List.Folds.{list_any-append}
use Rattle.std.proofs.lemmas.Bool.{and_parts}
use Rattle.machine_states.specs.body_terms.specs.declared.micro.Micro.{Micro}
use Rattle.machine_states.specs.body_terms.specs.declared.micro.Micro.TheVariants as micros
use Rattle.machine_states.specs.body_terms.specs.Line.{micro_at, is_check, is_end}
use Rattle.machine_states.specs.table_words.specs.declared.layout.Layout.{Layout}
use Rattle.machine_states.specs.structure_laws.specs.Meaning.{Meaning}
use Rattle.machine_states.specs.runner_parts.specs.State.{RunState, PartState, RecordsState}
use Rattle.machine_states.specs.runner_parts.specs.Tests.{has_pair}
use Rattle.machine_states.specs.runner_steps.specs.InRun.{make_slot}
use Rattle.machine_states.specs.runner_steps.specs.Sections.{line_of, next_of, settles}
use Rattle.machine_states.specs.runner_steps.specs.AfterInRun as inside
use Rattle.machine_states.specs.runner_steps.specs.AfterInRun.{ended_more}
use Rattle.machine_states.specs.runner_steps.specs.After.{line_after}
use Rattle.machine_facts.specs.machine_agreement.proofs.Passes.{ahead, settled_rests}
use Rattle.machine_states.proofs.Steps.{some_same, none_some}
use Rattle.caller_facts.specs.lock_walks.specs.runner_facts.specs.next_steps.specs.Steps.{slot_in, kind_at}
use Rattle.caller_facts.specs.lock_walks.specs.runner_facts.specs.next_steps.specs.Stages.{filling_slot, run_behind, reads_behind}

-- the step writes to the stamp word or to the reply word of its request
abbrev pub tells : Micro → Bool
tells micros.StampExchange = true
tells (micros.ReplyExchange reply) = true
tells _ = false

module _ (m : Meaning) (l : Layout) (p : PartState) (q : RunState) (found : ℕ) where
  -- behind this step the run is no further back, and between its place before and the one behind there are checks alone
  pub record IsOn (micro : Micro) (y : RunState) : Type 0 where
    pub opened : y.opened ≡ q.opened
    pub descriptor : y.descriptor ≡ q.descriptor
    pub on : q.at ≤ y.at
    pub past : tells micro ≡ true → q.at < y.at
    pub checks : (i : ℕ) → q.at < i → i < y.at → is_check (micro_at (line_of m q) i) ≡ true
    pub rests : settles m l q ≡ q → settles m l y ≡ y

  -- it goes on in its line
  goes : (micro : Micro) (y : RunState) → y.at ≡ q.at + 1 → y.opened ≡ q.opened → y.descriptor ≡ q.descriptor
      → (after : RunState) → Some (settles m l y) ≡ Some after → IsOn micro after
  goes micro y at opened descriptor after e = subst (IsOn micro) (some_same (settles m l y) after e) (record {
    opened = opened;
    descriptor = descriptor;
    on = omega (arith, at);
    past = λ telling. omega (arith, at);
    checks = checks;
    rests = λ rest. settled_rests m l y;
  })
    where
      checks : (i : ℕ) → q.at < i → i < (settles m l y).at → is_check (micro_at (line_of m q) i) ≡ true
      checks i above below =
          let over : i ≡ y.at + (i - y.at) = omega (arith, at, above) in
          ap (λ xs. is_check (micro_at (line_of m (record q { opened = xs })) i)) (sym opened)
          ∙ (ap (λ k. is_check (micro_at (line_of m y) k)) over
          ∙ (and_parts _ _ (ahead m l y (i - y.at) (omega (arith, at, above, below)))).0)

  -- it stays at its place
  stays : (micro : Micro) (y : RunState) → tells micro ≡ false → y ≡ record q { ended = y.ended }
      → (after : RunState) → Some y ≡ Some after → IsOn micro after
  stays micro y quiet same after e = subst (IsOn micro) (some_same y after e) (subst (IsOn micro) (sym same) (record {
    opened = refl;
    descriptor = refl;
    on = omega arith;
    past = λ telling. absurd (let z = sym quiet ∙ telling in cc);
    checks = λ i above below. absurd (omega (arith, above, below));
    rests = λ rest. ap (λ (x : RunState). record x { ended = y.ended }) rest;
  }))

  filled : (o : Option ℕ) (slot cell log : ℕ) (after : RunState) → Some (inside.goes_on m l (filling_slot o q slot) found) ≡ Some after
      → IsOn (micros.PrivateLoad cell log) after
  filled None slot cell log after e = goes (micros.PrivateLoad cell log) _ refl refl refl after e
  filled (Some t) slot cell log after e = goes (micros.PrivateLoad cell log) _ refl refl refl after e

  released : (place word : ℕ) (b : Bool) (after : RunState) → (if b then None else Some (ended_more q)) ≡ Some after
      → IsOn (micros.Release place word) after
  released place word true after e = absurd (none_some after (sym e))
  released place word false after e = stays (micros.Release place word) (ended_more q) refl refl after e

  pub is_on : (micro : Micro) (after : RunState) → run_behind m l p q micro found ≡ Some after → IsOn micro after
  is_on (micros.LoadCell place log) after e = goes (micros.LoadCell place log) _ refl refl refl after e
  is_on (micros.Commit place log) after e = goes (micros.Commit place log) _ refl refl refl after e
  is_on (micros.CheckWord place log word) after e = stays (micros.CheckWord place log word) q refl refl after e
  is_on (micros.CheckFresh place log) after e = stays (micros.CheckFresh place log) q refl refl after e
  is_on (micros.NestedLoad place log) after e = goes (micros.NestedLoad place log) _ refl refl refl after e
  is_on (micros.NestedCommit place log) after e = goes (micros.NestedCommit place log) _ refl refl refl after e
  is_on (micros.CheckFree place log word) after e = stays (micros.CheckFree place log word) q refl refl after e
  is_on (micros.NestedHold place word) after e = goes (micros.NestedHold place word) _ refl refl refl after e
  is_on (micros.OutcomeLoad place log) after e = goes (micros.OutcomeLoad place log) _ refl refl refl after e
  is_on (micros.OutcomeCommit place log) after e = goes (micros.OutcomeCommit place log) _ refl refl refl after e
  is_on (micros.CheckHeld place log word) after e = stays (micros.CheckHeld place log word) q refl refl after e
  is_on (micros.PrivateLoad cell log) after e = filled q.made (slot_in (make_slot q.made p.nodes.free)) cell log after e
  is_on (micros.PrivateStore cell log value) after e = goes (micros.PrivateStore cell log value) _ refl refl refl after e
  is_on (micros.MakeCommit log) after e = goes (micros.MakeCommit log) _ refl refl refl after e
  is_on micros.ClockLoad after e = goes micros.ClockLoad _ refl refl refl after e
  is_on micros.StampExchange after e = goes micros.StampExchange _ refl refl refl after e
  is_on micros.ClockRaise after e = goes micros.ClockRaise _ refl refl refl after e
  is_on (micros.ExchangeCell place log value) after e = goes (micros.ExchangeCell place log value) _ refl refl refl after e
  is_on (micros.EpochForRetire slot log) after e = goes (micros.EpochForRetire slot log) _ refl refl refl after e
  is_on (micros.RetireCommit slot log) after e = goes (micros.RetireCommit slot log) _ refl refl refl after e
  is_on (micros.ReplyExchange reply) after e = goes (micros.ReplyExchange reply) _ refl refl refl after e
  is_on micros.End after e = stays micros.End q refl refl after e
  is_on micros.SetDone after e = stays micros.SetDone (ended_more q) refl refl after e
  is_on (micros.Release place word) after e = released place word (is_end (next_of m (ended_more q))) after e

  -- the step that ends a run is the release of its last lock
  pub record IsLast (micro : Micro) : Type 0 where
    pub place : ℕ
    pub word : ℕ
    pub is : micro ≡ micros.Release place word
    pub over : is_end (next_of m (ended_more q)) ≡ true

  last_release : (place word : ℕ) → (if is_end (next_of m (ended_more q)) then None else Some (ended_more q)) ≡ None
      → IsLast (micros.Release place word)
  last_release place word e = by (is_end (next_of m (ended_more q))) refl e
    where
      by : (b : Bool) → is_end (next_of m (ended_more q)) ≡ b → (if b then None else Some (ended_more q)) ≡ None
          → IsLast (micros.Release place word)
      by true over e = record { place = place; word = word; is = refl; over = over }
      by false over e = absurd (none_some (ended_more q) e)

  goes_still : {A : Type 0} (y : RunState) → Some y ≡ None → A
  goes_still y e = absurd (none_some y e)

  pub is_last : (micro : Micro) → run_behind m l p q micro found ≡ None → IsLast micro
  is_last (micros.Release place word) e = last_release place word e
  is_last (micros.LoadCell place log) e = goes_still _ e
  is_last (micros.Commit place log) e = goes_still _ e
  is_last (micros.CheckWord place log word) e = goes_still _ e
  is_last (micros.CheckFresh place log) e = goes_still _ e
  is_last (micros.NestedLoad place log) e = goes_still _ e
  is_last (micros.NestedCommit place log) e = goes_still _ e
  is_last (micros.CheckFree place log word) e = goes_still _ e
  is_last (micros.NestedHold place word) e = goes_still _ e
  is_last (micros.OutcomeLoad place log) e = goes_still _ e
  is_last (micros.OutcomeCommit place log) e = goes_still _ e
  is_last (micros.CheckHeld place log word) e = goes_still _ e
  is_last (micros.PrivateLoad cell log) e = goes_still _ e
  is_last (micros.PrivateStore cell log value) e = goes_still _ e
  is_last (micros.MakeCommit log) e = goes_still _ e
  is_last micros.ClockLoad e = goes_still _ e
  is_last micros.StampExchange e = goes_still _ e
  is_last micros.ClockRaise e = goes_still _ e
  is_last (micros.ExchangeCell place log value) e = goes_still _ e
  is_last (micros.EpochForRetire slot log) e = goes_still _ e
  is_last (micros.RetireCommit slot log) e = goes_still _ e
  is_last (micros.ReplyExchange reply) e = goes_still _ e
  is_last micros.End e = goes_still _ e
  is_last micros.SetDone e = goes_still _ e

  -- no other step tells of a request
  loaded_quiet : (slot : ℕ) (o : Option ℕ) → (inside.fill_loaded m l slot p q o found).records.known ≡ p.records.known
  loaded_quiet slot None = refl
  loaded_quiet slot (Some t) = refl

  made_quiet : (o : Option ℕ) → (inside.make_committed m l p q o found).records.known ≡ p.records.known
  made_quiet None = refl
  made_quiet (Some t) = refl

  released_quiet : (b : Bool) (y : PartState) → y.records ≡ p.records
      → (if b then inside.run_over m l y (ended_more q) else inside.with_run y (ended_more q)).records.known ≡ p.records.known
  released_quiet true y e = ap (λ (s : RecordsState). s.known) e
  released_quiet false y e = ap (λ (s : RecordsState). s.known) e

  pub quiet_known : (micro : Micro) → tells micro ≡ false
      → (line_after m l (kind_at p q micro) p q micro found).records.known ≡ p.records.known
  quiet_known (micros.LoadCell place log) e = refl
  quiet_known (micros.Commit place log) e = refl
  quiet_known (micros.CheckWord place log word) e = refl
  quiet_known (micros.CheckFresh place log) e = refl
  quiet_known (micros.NestedLoad place log) e = refl
  quiet_known (micros.NestedCommit place log) e = refl
  quiet_known (micros.CheckFree place log word) e = refl
  quiet_known (micros.NestedHold place word) e = refl
  quiet_known (micros.OutcomeLoad place log) e = refl
  quiet_known (micros.OutcomeCommit place log) e = refl
  quiet_known (micros.CheckHeld place log word) e = refl
  quiet_known (micros.PrivateLoad cell log) e = loaded_quiet (slot_in (make_slot q.made p.nodes.free)) q.made
  quiet_known (micros.PrivateStore cell log value) e = refl
  quiet_known (micros.MakeCommit log) e = made_quiet q.made
  quiet_known micros.ClockLoad e = refl
  quiet_known micros.StampExchange e = absurd (let z = e in cc)
  quiet_known micros.ClockRaise e = refl
  quiet_known (micros.ExchangeCell place log value) e = refl
  quiet_known (micros.EpochForRetire slot log) e = refl
  quiet_known (micros.RetireCommit slot log) e = refl
  quiet_known (micros.ReplyExchange reply) e = absurd (let z = e in cc)
  quiet_known micros.End e = refl
  quiet_known micros.SetDone e = refl
  quiet_known (micros.Release place word) e =
      released_quiet (is_end (next_of m (ended_more q))) (record p { reads = _ }) refl

  -- and none forgets a cell that was read
  cells_more : (xs ys : List (ℕ × ℕ)) (a b : ℕ) → has_pair xs a b ≡ true → has_pair (xs ++ ys) a b ≡ true
  cells_more xs ys a b e = list_any-append (λ x. x.0 == a && x.1 == b) xs ys ∙ ap (λ c. c || has_pair ys a b) e

  pub cells_stay : (micro : Micro) (a b : ℕ) → has_pair p.reads.cells a b ≡ true
      → has_pair (reads_behind p q micro found).cells a b ≡ true
  cells_stay (micros.LoadCell place log) a b e = cells_more p.reads.cells ((place, found) ∷ []) a b e
  cells_stay (micros.NestedLoad place log) a b e = cells_more p.reads.cells ((place, found) ∷ []) a b e
  cells_stay (micros.NestedHold place word) a b e = cells_more p.reads.cells ((place, found) ∷ []) a b e
  cells_stay (micros.OutcomeLoad place log) a b e = cells_more p.reads.cells ((place, found) ∷ []) a b e
  cells_stay (micros.ExchangeCell place log value) a b e = cells_more p.reads.cells ((place, found) ∷ []) a b e
  cells_stay (micros.Release place word) a b e = cells_more p.reads.cells ((place, found) ∷ []) a b e
  cells_stay _ a b e = e
