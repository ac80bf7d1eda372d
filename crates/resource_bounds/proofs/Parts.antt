-- What a runner's runs may have raised, and what each step adds to it.
use Rattle.std.specs.Prelude.{◌==◌, ◌-◌, ◌*◌, ◌%◌, ◌&&◌, not, nat_lt, nat_le, cond, Bool, true, false, if◌then◌else◌}
use Rattle.std.proofs.Common.{◌≡◌, ℕ, ◌+◌, ◌<◌, ◌≤◌, List, [], ◌∷◌, ◌++◌, length, length-append, refl, ap, ◌∙◌, arith, Option, Some, None}
use Rattle.std.proofs.lemmas.Bool.Decides.{nat_tests}
use Rattle.machine_states.specs.body_terms.specs.Line.{line, micro_at, is_end}
use Rattle.machine_states.specs.body_terms.specs.declared.micro.Micro.{Micro}
use Rattle.machine_states.specs.body_terms.specs.declared.thunk.Thunk.{Thunk}
use Rattle.machine_states.specs.table_words.specs.declared.layout.Layout.{Layout}
use Rattle.machine_states.specs.table_words.specs.Places.{slot_count}
use Rattle.machine_states.specs.structure_laws.specs.Meaning.{Meaning}
use Rattle.machine_states.specs.epoch_core.specs.Moves.{is_clear}
use Rattle.machine_states.specs.runner_parts.specs.declared.entries.Published.{Published}
use Rattle.machine_states.specs.epoch_core.specs.declared.stage.Stage.{Stage}
use Rattle.machine_states.specs.epoch_core.specs.declared.stage.Stage.TheVariants as stages
use Rattle.machine_states.specs.runner_parts.specs.declared.event.EventKind.{EventKind}
use Rattle.machine_states.specs.runner_parts.specs.declared.event.EventKind.TheVariants as kinds
use Rattle.machine_states.specs.runner_parts.specs.State.{RunState, FinishedState, PartState}
use Rattle.machine_states.specs.runner_parts.specs.Lists as lists
use Rattle.machine_states.specs.runner_steps.specs.Sections.{thunk_of, line_of, next_of, needs_link}
use Rattle.machine_states.specs.epoch_core.specs.State.{last_epoch}
use Rattle.machine_states.specs.runner_steps.specs.InRun.{last_clock}
use Rattle.machine_states.specs.runner_steps.specs.AfterInRun as inside
use Rattle.machine_states.specs.runner_steps.specs.AfterOutside as outside
use Rattle.machine_states.specs.runner_steps.specs.After.{line_after, outside_after}
use Rattle.resource_bounds.proofs.Weights.{weight, spent, spent_here}
use Rattle.machine_states.specs.runner_steps.specs.Outside.{blocks_from}

module _ (m : Meaning) (p : ℕ) where
  -- which of a slot's cells the place is, where it is one
  abbrev pub index : ℕ
  index = (p - m.fixed_cells) % 5

  abbrev pub spent_by : List ℕ → ℕ → ℕ
  spent_by opened at = cond (length opened == 13) (spent (weight p index) at (line (m.body (thunk_of opened)))) 0

  -- what a run in progress may have raised, and a publication
  abbrev pub by_run : Option RunState → ℕ
  by_run None = 0
  by_run (Some q) = spent_by q.opened q.at

  abbrev pub by_open : Option Published → ℕ
  by_open None = 0
  by_open (Some x) = cond (x.thunk.lock == p) 2 0

  -- what a runner's runs may have raised
  abbrev pub charge : PartState → ℕ
  charge y = 4 * length y.records.finished + (by_run y.run + by_open y.published)

  pub same_charge : (y z : PartState) → z.records.finished ≡ y.records.finished → z.run ≡ y.run → z.published ≡ y.published → charge z ≡ charge y
  same_charge y z finished run published =
      let a = ap (λ (xs : List FinishedState). length xs) finished in let b = ap by_run run in let c = ap by_open published in omega (arith, a, b, c)

  thirteen : (opened : List ℕ) (at : ℕ) → length opened ≡ 13 → spent_by opened at ≡ spent (weight p index) at (line (m.body (thunk_of opened)))
  thirteen opened at all = ap (λ n. cond (n == 13) (spent (weight p index) at (line (m.body (thunk_of opened)))) 0) all

  pub fewer : (opened : List ℕ) (at : ℕ) → (length opened == 13) ≡ false → spent_by opened at ≡ 0
  fewer opened at few = ap (λ b. cond b (spent (weight p index) at (line (m.body (thunk_of opened)))) 0) few

  pub by_opened_run : (q : RunState) → length q.opened ≡ 13 → by_run (Some q) ≡ spent (weight p index) q.at (line_of m q)
  by_opened_run q all = thirteen q.opened q.at all

  module _ (l : Layout) (y : PartState) (found : ℕ) where
    pub record Keeps (z : PartState) : Type 0 where
      pub up : charge y ≤ charge z

    as_is : Keeps y
    as_is = record { up = omega arith }

    same : (z : PartState) → z.records.finished ≡ y.records.finished → z.run ≡ y.run → z.published ≡ y.published → Keeps z
    same z finished run published = record { up = let e = same_charge y z finished run published in omega (arith, e) }

    either : (b : Bool) (z z' : PartState) → Keeps z → Keeps z' → Keeps (if b then z else z')
    either true z z' one two = one
    either false z z' one two = two

    module _ (q : RunState) (runs : y.run ≡ Some q) (all : length q.opened ≡ 13) where
      -- the run went on past its step
      pub record Gains (z : PartState) : Type 0 where
        pub up : charge y + weight p index (micro_at (line_of m q) q.at) ≤ charge z

      went : (z : PartState) (q' : RunState) → z.run ≡ Some q' → q'.opened ≡ q.opened → q.at < q'.at
          → z.records.finished ≡ y.records.finished → z.published ≡ y.published → Gains z
      went z q' now opened on finished published =
          let a = ap (λ (xs : List FinishedState). length xs) finished in
          let c = ap by_open published in
          let before = ap by_run runs ∙ by_opened_run q all in
          let after = ap by_run now ∙ (ap (λ (xs : List ℕ). spent_by xs q'.at) opened ∙ thirteen q.opened q'.at all) in
          let more = spent_here (weight p index) refl q.at q'.at (line_of m q) on in
          record { up = omega (arith, a, c, before, after, more) }

      on_more : (n k : ℕ) → n < (n + 1) + k
      on_more n k = omega arith

      eithers : (b : Bool) (z z' : PartState) → Gains z → Gains z' → Gains (if b then z else z')
      eithers true z z' one two = one
      eithers false z z' one two = two

      pub exchanged : (place : ℕ) → Gains (inside.cell_exchanged m l place y q found)
      exchanged place = went _ _ refl refl (on_more q.at _) refl refl

      pub stored : (number : ℕ) → Gains (inside.with_run y (inside.filled m l number q))
      stored number = went _ _ refl refl (on_more q.at _) refl refl

      loses : (z : PartState) → Gains z → Keeps z
      loses z h = record { up = let more = h.up in omega (arith, more) }

      -- the run stays at its place
      waits : (z : PartState) (q' : RunState) → z.run ≡ Some q' → q'.opened ≡ q.opened → q'.at ≡ q.at
          → z.records.finished ≡ y.records.finished → z.published ≡ y.published → Keeps z
      waits z q' now opened at finished published =
          let a = ap (λ (xs : List FinishedState). length xs) finished in
          let c = ap by_open published in
          let before = ap by_run runs ∙ by_opened_run q all in
          let after = ap by_run now ∙ (ap (λ (xs : List ℕ). spent_by xs q'.at) opened ∙ (ap (spent_by q.opened) at ∙ thirteen q.opened q.at all)) in
          record { up = omega (arith, a, c, before, after) }

      -- the run made one more exchange of its end
      ended : (z : PartState) → z.run ≡ Some (inside.ended_more q) → z.records.finished ≡ y.records.finished → z.published ≡ y.published → Keeps z
      ended z now finished published =
          let a = ap (λ (xs : List FinishedState). length xs) finished in
          let c = ap by_open published in
          let before = ap by_run runs in
          let after = ap by_run now in record { up = omega (arith, a, c, before, after) }

      -- what is known of the run
      module _ (most : spent (weight p index) q.at (line_of m q) ≤ 4)
          (outer : (x : Published) → y.published ≡ Some x → x.descriptor ≡ q.descriptor → (x.thunk.lock == p) ≡ true
          → spent (weight p index) q.at (line_of m q) ≤ 2) where
        over_keeps : (o : Option Published) → y.published ≡ o → by_run (Some q) + by_open o ≤ 4 + by_open (inside.kept_unless o q.descriptor)
        over_keeps None now = let e = by_opened_run q all in omega (arith, e, most)
        over_keeps (Some x) now = by (x.descriptor == q.descriptor) (x.thunk.lock == p) refl refl
          where
            same_number : (a b : ℕ) → (a == b) ≡ true → a ≡ b
            same_number a b e = grind (arith, nat_tests)

            -- where another run ended, the publication stays
            over_of : Bool → ℕ
            over_of k = cond k 2 0

            by : (d k : Bool) → (x.descriptor == q.descriptor) ≡ d → (x.thunk.lock == p) ≡ k
                → by_run (Some q) + cond k 2 0 ≤ 4 + by_open (if d then None else Some x)
            by false k ed ek = let e = by_opened_run q all in let stays = ap over_of ek in omega (arith, e, most, stays)
            by true false ed ek = let e = by_opened_run q all in omega (arith, e, most)
            by true true ed ek =
                let e = by_opened_run q all in let two = outer x now (same_number x.descriptor q.descriptor ed) ek in omega (arith, e, two)

        released : (place : ℕ) → Keeps (inside.lock_released m l place y q found)
        released place = either (is_end (next_of m (inside.ended_more q))) _ _
            (let over = over_keeps y.published refl in
            let one = length-append y.records.finished (inside.finished_of m l (inside.ended_more q) ∷ []) in
            let before = ap by_run runs in record { up = omega (arith, over, one, before) })
            (ended _ refl refl refl)

        fill : (slot : ℕ) (made : Option ℕ) → Keeps (inside.fill_loaded m l slot y q made found)
        fill slot None = loses _ (went _ _ refl refl (on_more q.at _) refl refl)
        fill slot (Some t) = loses _ (went _ _ refl refl (on_more q.at _) refl refl)

        make : (made : Option ℕ) → Keeps (inside.make_committed m l y q made found)
        make None = as_is
        make (Some t) = loses _ (went _ _ refl refl (on_more q.at _) refl refl)

        gone : (z : PartState) (q' : RunState) → z.run ≡ Some q' → q'.opened ≡ q.opened → q.at < q'.at
            → z.records.finished ≡ y.records.finished → z.published ≡ y.published → Keeps z
        gone z q' now opened on finished published = loses z (went z q' now opened on finished published)

        learnt : (request : ℕ) (reply : Bool) (number : ℕ) → (lists.learned y.records request reply number).finished ≡ y.records.finished
        learnt request reply number = by (number == 0)
          where
            by : (b : Bool) → (if b then y.records else record (y.records)
                { known = y.records.known ++ record { request = request; reply = reply; number = number } ∷ [] }).finished ≡ y.records.finished
            by true = refl
            by false = refl

        pub line_keeps : (kind : EventKind) (micro : Micro) → Keeps (line_after m l kind y q micro found)
        line_keeps kinds.Commit micro = gone _ _ refl refl (on_more q.at _) refl refl
        line_keeps (kinds.LoadCell place) micro = gone _ _ refl refl (on_more q.at _) refl refl
        line_keeps kinds.ExchangeCell micro = loses _ (exchanged (inside.place_of micro))
        line_keeps (kinds.PrivateLoad slot word) micro = fill slot q.made
        line_keeps (kinds.PrivateStore slot word number) micro = by (needs_link q micro)
          where
            by : (b : Bool) → Keeps (inside.with_run y (if b then inside.block_emptied (slot - blocks_from m l) q else inside.filled m l number q))
            by true = waits _ _ refl refl refl refl refl
            by false = loses _ (stored number)
        line_keeps (kinds.LinkCommit b) micro = waits _ _ refl refl refl refl refl
        line_keeps kinds.MakeCommit micro = make q.made
        line_keeps kinds.RetireCommit micro = gone _ _ refl refl (on_more q.at _) refl refl
        line_keeps kinds.EpochForRetire micro = gone _ _ refl refl (on_more q.at _) refl refl
        line_keeps kinds.SetDone micro = ended _ refl refl refl
        line_keeps kinds.Release micro = released (inside.place_of micro)
        line_keeps kinds.ClockLoad micro = gone _ _ refl refl (on_more q.at _) refl refl
        line_keeps kinds.StampExchange micro = either (nat_lt q.word last_clock) _ _
            (gone _ _ refl refl (on_more q.at _) (learnt _ false _) refl) as_is
        line_keeps kinds.ClockRaise micro = gone _ _ refl refl (on_more q.at _) refl refl
        line_keeps kinds.ReplyExchange micro = gone _ _ refl refl (on_more q.at _) (learnt _ true _) refl
        line_keeps kinds.NestedLoad micro = gone _ _ refl refl (on_more q.at _) refl refl
        line_keeps kinds.NestedHold micro = loses _ (exchanged (inside.place_of micro))
        line_keeps kinds.OutcomeLoad micro = gone _ _ refl refl (on_more q.at _) refl refl
        line_keeps kinds.OutcomeCommit micro = gone _ _ refl refl (on_more q.at _) refl refl
        line_keeps kind micro = as_is

    -- a run that hasn't loaded its words yet has raised nothing
    pub opening_keeps : (q : RunState) → y.run ≡ Some q → (length q.opened == 13) ≡ false → Keeps (inside.opened_more y q found)
    opening_keeps q runs few = let before = ap by_run runs ∙ fewer q.opened q.at few in record { up = omega (arith, before) }

    collected : (epoch : ℕ) → Keeps (outside.collected y epoch)
    collected epoch = same _ refl refl refl

    scan : (stage : Stage) → Keeps (outside.scan_one_after l y stage found)
    scan (stages.Scanning x next clear) = either (nat_le next l.runners) _ _
        (either (next == l.runners && not ((clear && is_clear x found) && nat_lt x last_epoch)) _ _ (collected x) (same _ refl refl refl)) as_is
    scan _ = as_is

    advance : (stage : Stage) → Keeps (outside.advance_after y stage)
    advance (stages.Scanning x next clear) = either (nat_lt x last_epoch) _ _ (collected (x + 1)) as_is
    advance _ = as_is

    -- a publication raises its lock twice, with the release
    pub held : (t : Thunk) (d : ℕ) → y.published ≡ None → found ≡ t.word → t.lock ≡ p → charge y + 2 ≤ charge (outside.hold_after t d y found)
    held t d none won lock = by (found == t.word) (same_test found t.word won)
      where
        same_test : (a b : ℕ) → a ≡ b → (a == b) ≡ true
        same_test a b e = grind (arith, nat_tests)

        by : (b : Bool) → b ≡ true → charge y + 2 ≤ charge (if b then record y {
          published = Some (outside.published_by t d y);
          descriptors = lists.descriptor_taken y.descriptors d;
          guards = lists.published_seen y.guards d;
          reads = lists.cell_read y.reads t.lock found;
        } else record y { reads = lists.cell_read y.reads t.lock found })
        by true e = let before = ap by_open none in let two = ap {B = ℕ} (λ b. cond b 2 0) (same_test t.lock p lock) in omega (arith, before, two)
        by false e = absurd (let z = e in cc)

    hold_keeps : (t : Thunk) (d : ℕ) → y.published ≡ None → Keeps (outside.hold_after t d y found)
    hold_keeps t d none = either (found == t.word) _ _ (record { up = let before = ap by_open none in omega (arith, before) }) (same _ refl refl refl)

    -- a run begins where there is none, and a publication comes where nothing is published
    abbrev pub MayGo : EventKind → Type 0
    MayGo (kinds.Hold t d) = y.published ≡ None
    MayGo _ = Unit {0}

    entry : (request : ℕ) (reply : Bool) → Keeps (outside.entry_after request reply y found)
    entry request reply = by (found == 0)
      where
        by : (b : Bool) → Keeps (record y {
          records = (if b then y.records else record (y.records)
              { known = y.records.known ++ record { request = request; reply = reply; number = found } ∷ [] });
        })
        by true = same _ refl refl refl
        by false = same _ refl refl refl

    pub outside_keeps : y.run ≡ None → (kind : EventKind) → MayGo kind → Keeps (outside_after m l kind y found)
    outside_keeps none kinds.EnterLoad may = same _ refl refl refl
    outside_keeps none kinds.Announce may = same _ refl refl refl
    outside_keeps none kinds.EnterAgain may = same _ refl refl refl
    outside_keeps none kinds.Idle may = same _ refl refl refl
    outside_keeps none kinds.ScanEpoch may = same _ refl refl refl
    outside_keeps none (kinds.ScanOne n) may = scan y.stage
    outside_keeps none kinds.Advance may = advance y.stage
    outside_keeps none kinds.Split may = either (nat_lt y.records.splits l.runners) _ _ (same _ refl refl refl) as_is
    outside_keeps none (kinds.Join worker) may = same _ refl refl refl
    outside_keeps none (kinds.LoadCell (Some place)) may = same _ refl refl refl
    outside_keeps none (kinds.LoadEntry request reply) may = entry request reply
    outside_keeps none (kinds.PrivateLoad slot word) may = either (nat_lt slot (slot_count l m.fixed_slots)) _ _ (same _ refl refl refl) (same _ refl refl refl)
    outside_keeps none (kinds.PrivateStore slot word number) may = same _ refl refl refl
    outside_keeps none (kinds.Hold t d) may = hold_keeps t d may
    outside_keeps none (kinds.LoadThunk (Some d)) may = record { up = let before = ap by_run none in omega (arith, before) }
    outside_keeps none kind may = same _ refl refl refl
