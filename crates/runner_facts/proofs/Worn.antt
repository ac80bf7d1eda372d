-- A slot in a worn list has a cell with the greatest version.
use Rattle.std.specs.Prelude.{◌==◌, ◌||◌, ◌&&◌, ◌-◌, not, cond, nat_lt, nat_le, Bool, true, false, if◌then◌else◌}
use Rattle.std.proofs.Common.{◌≡◌, ℕ, ◌+◌, ◌<◌, ◌≤◌, List, [], ◌∷◌, ◌++◌, ⊎_elim, sym, refl, ap, ◌∙◌, subst, arith, Option, Some, None}
use Rattle.std.proofs.lemmas.Bool.Decides.{nat_tests}
use Rattle.std.proofs.lemmas.Bool.{cases_eq}
use Rattle.machine_states.specs.map_history.specs.declared.op.Request.{Request}
use Rattle.machine_states.specs.body_terms.specs.Line.{is_end}
use Rattle.machine_states.specs.body_terms.specs.Memory.{cell_of}
use Rattle.machine_states.specs.body_terms.specs.Run.{written_once}
use Rattle.machine_states.specs.body_terms.specs.Word.{version_of}
use Rattle.machine_states.specs.body_terms.specs.declared.micro.Micro.{Micro}
use Rattle.machine_states.specs.table_words.specs.declared.layout.Layout.{Layout}
use Rattle.machine_states.specs.table_words.specs.declared.spot.Spot.{Spot}
use Rattle.machine_states.specs.table_words.specs.declared.spot.Spot.TheVariants.{Cell}
use Rattle.machine_states.specs.table_words.specs.declared.access.Access.{Access}
use Rattle.machine_states.specs.table_words.specs.declared.access.Access.TheVariants.{Loads, Stores}
use Rattle.machine_states.specs.table_words.specs.Access.{written}
use Rattle.machine_states.specs.table_words.specs.Limits.{IsWithinLimits}
use Rattle.machine_states.specs.table_words.specs.Places.{slot_count}
use Rattle.machine_states.specs.table_words.specs.Seen.{put}
use Rattle.machine_states.specs.structure_laws.specs.Meaning.{Meaning}
use Rattle.machine_states.specs.structure_laws.specs.Laws.{Laws}
use Rattle.machine_states.specs.epoch_core.specs.Moves.{is_clear}
use Rattle.machine_states.specs.runner_parts.specs.declared.entries.Tested.{Tested}
use Rattle.machine_states.specs.epoch_core.specs.declared.stage.Stage.{Stage}
use Rattle.machine_states.specs.epoch_core.specs.declared.stage.Stage.TheVariants as stages
use Rattle.machine_states.specs.runner_parts.specs.declared.event.EventKind.{EventKind}
use Rattle.machine_states.specs.runner_parts.specs.declared.event.EventKind.TheVariants as kinds
use Rattle.machine_states.specs.runner_parts.specs.State.{RunState, NodesState, PartState}
use Rattle.machine_states.specs.runner_parts.specs.Lists.{test_of, tests_without, slot_back, slot_tested, one_more, nodes_looked, slot_made, slot_retired}
use Rattle.machine_states.specs.runner_parts.specs.Tests.{has, is_resting}
use Rattle.machine_states.specs.runner_steps.specs.Asks.{opening_ask}
use Rattle.machine_states.specs.runner_steps.specs.Asks.{ask_by, line_ask, outside_ask}
use Rattle.machine_states.specs.runner_steps.specs.Outside.{private_load_ask, blocks_from, block_spot}
use Rattle.machine_states.specs.runner_steps.specs.AfterOutside.{private_load_after}
use Rattle.machine_states.specs.runner_steps.specs.After.{line_after, inside_after, outside_after, after_by}
use Rattle.machine_states.specs.runner_steps.specs.Sections.{is_open_run, next_of, needs_link}
use Rattle.machine_states.specs.runner_steps.specs.Outside.{when, descriptor_spot}
use Rattle.machine_states.specs.epoch_core.specs.State.{last_epoch}
use Rattle.machine_states.specs.runner_steps.specs.InRun.{last_clock, is_slot, fill_store_ask, block_empty_ask}
use Rattle.machine_states.specs.runner_steps.specs.AfterInRun as inside
use Rattle.machine_states.specs.runner_steps.specs.AfterOutside as outside
use Rattle.machine_states.specs.World.{World}
use Rattle.machine_states.specs.First.{first_part}
use Rattle.machine_states.specs.Reached.{Reached}
use Rattle.machine_states.specs.Sight.{Sight, sight}
use Rattle.machine_states.proofs.FirstSights.{first_parts}
use Rattle.machine_states.proofs.Sights.{if_some, some_none, unless_gone, joins}
use Rattle.machine_states.proofs.Steps.{some_same}
use Rattle.machine_facts.specs.machine_agreement.specs.machine_epochs.proofs.FirstJoin as FirstJoin
use Rattle.machine_facts.specs.machine_agreement.proofs.LineAsked.{fill_store_asked}
use Rattle.machine_facts.specs.machine_invariant.specs.After.{AreAllowed}
use Rattle.machine_facts.specs.machine_invariant.specs.Rising.{CellsRise}
use Rattle.machine_facts.specs.machine_invariant.proofs.Basics.{not_both}
use Rattle.machine_facts.specs.machine_invariant.proofs.Keeping.{IsStep}
use Rattle.next_steps.proofs.Parts.{each_part}
use Rattle.next_steps.proofs.Tests.{either_has, test_slot, tests_without_other, tests_push_own, tests_push_other}
use Rattle.runner_facts.specs.Facts.{HasWornCell, WornAreWorn}
use Rattle.runner_facts.proofs.Raising.{raising_keeps}

one_has : (a t : ℕ) → has (a ∷ []) t ≡ true → t ≡ a
one_has a t e = grind (arith, nat_tests)

-- without a slot's entries none says that a cell of it is worn
own_unworn : (xs : List Tested) (d : ℕ) → (test_of (tests_without xs d) d).worn ≡ false
own_unworn [] d = refl
own_unworn (x ∷ xs) d = by (x.slot == d) refl (own_unworn xs d)
  where
    by : (b : Bool) → (x.slot == d) ≡ b → (test_of (tests_without xs d) d).worn ≡ false
        → (test_of (if not b then x ∷ tests_without xs d else tests_without xs d) d).worn ≡ false
    by true e rest = rest
    by false e rest = ap (λ (b : Bool). (if b then x else test_of (tests_without xs d) d).worn) e ∙ rest

module _ (m : Meaning) (l : Layout) (word : Spot → ℕ) where
  abbrev Worn : ℕ → Type 0
  Worn t = HasWornCell m l word t

  -- a Make that has stored a word of the greatest version fills a slot with such a cell
  abbrev FillsWorn : Option RunState → Type 0
  FillsWorn o = (q : RunState) (t : ℕ) → o ≡ Some q → q.made ≡ Some t → q.worn ≡ true → Worn t

  -- what a part says to be worn is: its worn list, what it has looked at, and the slot that a Make fills
  record IsWorn (p : PartState) : Type 0 where
    listed : (t : ℕ) → has p.nodes.worn t ≡ true → Worn t
    tested : (t : ℕ) → (test_of p.nodes.tests t).worn ≡ true → Worn t
    filled : FillsWorn p.run

  -- the lists are the same
  record SameWorn (n n' : NodesState) : Type 0 where
    worn : n'.worn ≡ n.worn
    tests : n'.tests ≡ n.tests

  same : (n : NodesState) → SameWorn n n
  same n = record { worn = refl; tests = refl }

  kept : (p p' : PartState) → SameWorn p.nodes p'.nodes → FillsWorn p'.run → IsWorn p → IsWorn p'
  kept p p' is fills old = record {
    listed = λ t own. old.listed t (ap (λ xs. has xs t) (sym is.worn) ∙ own);
    tested = λ t worn. old.tested t (ap (λ (xs : List Tested). (test_of xs t).worn) (sym is.tests) ∙ worn);
    filled = fills;
  }

  tested_else : (p : PartState) → IsWorn p → (slot t : ℕ) → (test_of (tests_without p.nodes.tests slot) t).worn ≡ true → Worn t
  tested_else p old slot t worn = ⊎_elim
      (λ here. not_both (ap (λ n. (test_of (tests_without p.nodes.tests slot) n).worn) (sym here) ∙ worn) (own_unworn p.nodes.tests slot))
      (λ ne. old.tested t (ap (λ (x : Tested). x.worn) (sym (tests_without_other p.nodes.tests slot t ne)) ∙ worn))
      (cases_eq t slot)

  -- a slot of the hand comes back
  back : (p : PartState) (slot : ℕ) (b : Bool) → IsWorn p → (b ≡ true → Worn slot) → (p' : PartState) → p'.nodes ≡ slot_back p.nodes slot b
      → FillsWorn p'.run → IsWorn p'
  back p slot true old shows p' is fills = subst (λ (n : NodesState). IsWorn (record p' { nodes = n })) (sym is) (record {
    listed = λ t own. ⊎_elim (λ before. old.listed t before) (λ new. subst Worn (sym (one_has slot t new)) (shows refl))
        (either_has p.nodes.worn (slot ∷ []) t own);
    tested = tested_else p old slot;
    filled = fills;
  })
  back p slot false old shows p' is fills = subst (λ (n : NodesState). IsWorn (record p' { nodes = n })) (sym is) (record {
    listed = old.listed;
    tested = tested_else p old slot;
    filled = fills;
  })

  -- one more cell of a slot of the hand was looked at
  tested_more : (p : PartState) (x : Tested) → IsWorn p → (x.worn ≡ true → Worn x.slot) → (p' : PartState) → p'.nodes ≡ slot_tested p.nodes x
      → FillsWorn p'.run → IsWorn p'
  tested_more p x old shows p' is fills = by (x.cells == 5) is
    where
      by : (b : Bool)
          → p'.nodes ≡ (if b then slot_back p.nodes x.slot x.worn else record (p.nodes) { tests = tests_without p.nodes.tests x.slot ++ x ∷ [] })
          → IsWorn p'
      by true is = back p x.slot x.worn old shows p' is fills
      by false is = subst (λ (n : NodesState). IsWorn (record p' { nodes = n })) (sym is) (record {
        listed = old.listed;
        tested = λ t worn. ⊎_elim
            (λ here. subst Worn (sym here) (shows (ap (λ (y : Tested). y.worn) (sym (ap (test_of (tests_without p.nodes.tests x.slot ++ x ∷ [])) here
            ∙ tests_push_own p.nodes.tests x)) ∙ worn)))
            (λ ne. old.tested t (ap (λ (y : Tested). y.worn) (sym (tests_push_other p.nodes.tests x t ne)) ∙ worn))
            (cases_eq t x.slot);
        filled = fills;
      })

  looked : (p : PartState) (slot cell found : ℕ) → IsWorn p → (cell < 5 → version_of found ≡ l.version_max → Worn slot)
      → (p' : PartState) → p'.nodes ≡ nodes_looked l p.nodes slot cell found → FillsWorn p'.run → IsWorn p'
  looked p slot cell found old shows p' is fills = by (has p.nodes.hand slot && (cell == x.cells && nat_lt cell 5)) refl is
    where
      x : Tested
      x = test_of p.nodes.tests slot

      low : (a b c : Bool) (cell : ℕ) → (a && (b && nat_lt cell 5)) ≡ true → cell < 5
      low a b c cell e = grind (arith, nat_tests)

      more : (w : Bool) (v max : ℕ) → x.worn ≡ w → (w || v == max) ≡ true → (v ≡ max → Worn slot) → Worn slot
      more true v max is e new = old.tested slot is
      more false v max is e new = new (grind (arith, nat_tests))

      by : (b : Bool) → (has p.nodes.hand slot && (cell == x.cells && nat_lt cell 5)) ≡ b
          → p'.nodes ≡ (if b then slot_tested p.nodes (one_more l x found) else p.nodes) → IsWorn p'
      by true e is = tested_more p (one_more l x found) old
          (λ worn. subst Worn (sym (test_slot p.nodes.tests slot))
          (more x.worn (version_of found) l.version_max refl worn (shows (low (has p.nodes.hand slot) (cell == x.cells) true cell e)))) p' is fills
      by false e is = kept p p' (subst (SameWorn p.nodes) (sym is) (same p.nodes)) fills old

  either : (b : Bool) (y z : PartState) → IsWorn y → IsWorn z → IsWorn (if b then y else z)
  either true y z one two = one
  either false y z one two = two

  -- no run, or one in no Make
  fills_none : FillsWorn None
  fills_none q t at made worn = some_none q at

  fills_unmade : (q1 : RunState) → q1.made ≡ None → FillsWorn (Some q1)
  fills_unmade q1 none q t at made worn = absurd (let one = sym none ∙ (ap (λ (y : RunState). y.made) (some_same q1 q at) ∙ made) in cc)

  -- a step of a run
  module _ (p : PartState) (q : RunState) (is : p.run ≡ Some q) (old : IsWorn p) (found : ℕ) where
    fills_as : (q1 : RunState) → q1.made ≡ q.made → q1.worn ≡ q.worn → FillsWorn (Some q1)
    fills_as q1 made worn q' t at here worn' = let one = some_same q1 q' at in
        old.filled q t is (sym made ∙ (ap (λ (y : RunState). y.made) one ∙ here)) (sym worn ∙ (ap (λ (y : RunState). y.worn) one ∙ worn'))

    -- the run goes on, and the lists are the same
    goes : (p' : PartState) (q1 : RunState) → SameWorn p.nodes p'.nodes → p'.run ≡ Some q1 → q1.made ≡ q.made → q1.worn ≡ q.worn → IsWorn p'
    goes p' q1 lists runs made worn = kept p p' lists (subst FillsWorn (sym runs) (fills_as q1 made worn)) old

    -- a store shows a word of the greatest version in the slot that the Make fills
    abbrev StoresShow : EventKind → Micro → Type 0
    StoresShow (kinds.PrivateStore slot cell number) micro = needs_link q micro ≡ false → (t : ℕ) → q.made ≡ Some t → version_of number ≡ l.version_max → Worn t
    StoresShow _ micro = Unit {0}

    fill_worn : (slot : ℕ) (o : Option ℕ) → IsWorn (inside.fill_loaded m l slot p q o found)
    fill_worn slot None = kept p _ (record { worn = refl; tests = refl })
        (λ q' t at made worn. let one = some_same _ q' at in not_both worn (ap (λ (y : RunState). y.worn) (sym one))) old
    fill_worn slot (Some t) = goes _ _ (same p.nodes) refl refl refl

    store_worn : (number : ℕ) → ((t : ℕ) → q.made ≡ Some t → version_of number ≡ l.version_max → Worn t) → IsWorn (inside.with_run p (inside.filled m l number q))
    store_worn number shows = kept p _ (same p.nodes)
        (λ q' t at made worn. let one = some_same _ q' at in
        let made' : q.made ≡ Some t = ap (λ (y : RunState). y.made) one ∙ made in
        by q.worn (version_of number) refl (ap (λ (y : RunState). y.worn) one ∙ worn) made' (shows t made')) old
      where
        by : (w : Bool) (v : ℕ) → q.worn ≡ w → (w || v == l.version_max) ≡ true → {t : ℕ} → q.made ≡ Some t → (v ≡ l.version_max → Worn t) → Worn t
        by true v w e {t} made new = old.filled q t is made w
        by false v w e made new = new (grind (arith, nat_tests))

    commit_worn : (o : Option ℕ) → q.made ≡ o → IsWorn (inside.make_committed m l p q o found)
    commit_worn None e = old
    commit_worn (Some slot) e = by (found == 0)
      where
        by : (b : Bool) → IsWorn (record p {
          run = Some (inside.agrees m l (record q { made = None; worn = false }) (written_once found (slot + 1)));
          nodes = (if b then slot_made p.nodes slot else slot_back p.nodes slot q.worn);
        })
        by true = kept p _ (record { worn = refl; tests = refl }) (fills_unmade _ refl) old
        by false = back p slot q.worn old (λ worn. old.filled q slot is e worn) _ refl (fills_unmade _ refl)

    retired_same : (slot : ℕ) (b : Bool) → SameWorn p.nodes (if b then slot_retired p.nodes slot q.word else p.nodes)
    retired_same slot true = record { worn = refl; tests = refl }
    retired_same slot false = same p.nodes

    line_worn : (kind : EventKind) (micro : Micro) → StoresShow kind micro → IsWorn (line_after m l kind p q micro found)
    line_worn kinds.Commit micro h = goes _ _ (same p.nodes) refl refl refl
    line_worn (kinds.LoadCell place) micro h = goes _ _ (same p.nodes) refl refl refl
    line_worn kinds.ExchangeCell micro h = goes _ _ (same p.nodes) refl refl refl
    line_worn (kinds.PrivateLoad slot cell) micro h = fill_worn slot q.made
    line_worn (kinds.PrivateStore slot cell number) micro h = by (needs_link q micro) refl
      where
        by : (b : Bool) → needs_link q micro ≡ b → IsWorn (inside.with_run p (if b then inside.block_emptied (slot - blocks_from m l) q else inside.filled m l number q))
        by true e = goes _ _ (same p.nodes) refl refl refl
        by false e = store_worn number (h e)
    line_worn (kinds.LinkCommit b) micro h = goes _ _ (same p.nodes) refl refl refl
    line_worn kinds.MakeCommit micro h = commit_worn q.made refl
    line_worn kinds.RetireCommit micro h = goes _ _ (retired_same (inside.retired_slot_of micro) (found == 0)) refl refl refl
    line_worn kinds.EpochForRetire micro h = goes _ _ (same p.nodes) refl refl refl
    line_worn kinds.SetDone micro h = goes _ _ (same p.nodes) refl refl refl
    line_worn kinds.Release micro h = either (is_end (next_of m (inside.ended_more q))) _ _
        (kept p _ (same p.nodes) fills_none old) (goes _ _ (same p.nodes) refl refl refl)
    line_worn kinds.ClockLoad micro h = goes _ _ (same p.nodes) refl refl refl
    line_worn kinds.StampExchange micro h = either (nat_lt q.word last_clock) _ _ (goes _ _ (same p.nodes) refl refl refl) old
    line_worn kinds.ClockRaise micro h = goes _ _ (same p.nodes) refl refl refl
    line_worn kinds.ReplyExchange micro h = goes _ _ (same p.nodes) refl refl refl
    line_worn kinds.NestedLoad micro h = goes _ _ (same p.nodes) refl refl refl
    line_worn kinds.NestedHold micro h = goes _ _ (same p.nodes) refl refl refl
    line_worn kinds.OutcomeLoad micro h = goes _ _ (same p.nodes) refl refl refl
    line_worn kinds.OutcomeCommit micro h = goes _ _ (same p.nodes) refl refl refl
    line_worn _ micro h = old

    inside_worn : (kind : EventKind) → (is_open_run q ≡ true → StoresShow kind (next_of m q)) → IsWorn (inside_after m l kind p q found)
    inside_worn kind shows = by (is_open_run q) refl
      where
        by : (b : Bool) → is_open_run q ≡ b → IsWorn (if b then line_after m l kind p q (next_of m q) found else inside.opened_more p q found)
        by true e = line_worn kind (next_of m q) (shows e)
        by false e = goes _ _ (same p.nodes) refl refl refl

  -- a step outside a run
  module _ (p : PartState) (none : p.run ≡ None) (old : IsWorn p) (found : ℕ) where
    rests : (p' : PartState) → p'.run ≡ p.run → SameWorn p.nodes p'.nodes → IsWorn p'
    rests p' run lists = kept p p' lists (subst FillsWorn (sym (run ∙ none)) fills_none) old

    abbrev LoadsShow : EventKind → Type 0
    LoadsShow (kinds.PrivateLoad slot cell) = nat_lt slot (slot_count l m.fixed_slots) ≡ true → cell < 5 → version_of found ≡ l.version_max → Worn slot
    LoadsShow _ = Unit {0}

    look_worn : (slot cell : ℕ) → LoadsShow (kinds.PrivateLoad slot cell) → IsWorn (private_load_after m l slot cell p found)
    look_worn slot cell shows = by (nat_lt slot (slot_count l m.fixed_slots)) refl
      where
        by : (b : Bool) → nat_lt slot (slot_count l m.fixed_slots) ≡ b
            → IsWorn (if b then record p { nodes = nodes_looked l p.nodes slot cell found }
            else outside.descriptor_known m l slot cell p found)
        by true e = looked p slot cell found old (shows e) _ refl (subst FillsWorn (sym none) fills_none)
        by false e = rests _ refl (same p.nodes)

    scan_worn : (stage : Stage) → IsWorn (outside.scan_one_after l p stage found)
    scan_worn (stages.Scanning x next clear) = either (nat_le next l.runners) _ _
        (either (next == l.runners && not ((clear && is_clear x found) && nat_lt x last_epoch)) _ _
        (rests _ refl (record { worn = refl; tests = refl })) (rests _ refl (same p.nodes))) old
    scan_worn _ = old

    advance_worn : (stage : Stage) → IsWorn (outside.advance_after p stage)
    advance_worn (stages.Scanning x next clear) = either (nat_lt x last_epoch) _ _ (rests _ refl (record { worn = refl; tests = refl })) old
    advance_worn _ = old

    outside_worn : (kind : EventKind) → LoadsShow kind → IsWorn (outside_after m l kind p found)
    outside_worn kinds.EnterLoad h = rests _ refl (same p.nodes)
    outside_worn kinds.Announce h = rests _ refl (same p.nodes)
    outside_worn kinds.EnterAgain h = rests _ refl (same p.nodes)
    outside_worn kinds.Idle h = rests _ refl (same p.nodes)
    outside_worn kinds.ScanEpoch h = rests _ refl (same p.nodes)
    outside_worn (kinds.ScanOne n) h = scan_worn p.stage
    outside_worn kinds.Advance h = advance_worn p.stage
    outside_worn kinds.Split h = either (nat_lt p.records.splits l.runners) _ _ (rests _ refl (same p.nodes)) old
    outside_worn (kinds.Join worker) h = rests _ refl (same p.nodes)
    outside_worn (kinds.LoadCell (Some place)) h = rests _ refl (same p.nodes)
    outside_worn (kinds.LoadEntry request reply) h = rests _ refl (same p.nodes)
    outside_worn (kinds.PrivateLoad slot cell) h = look_worn slot cell h
    outside_worn (kinds.PrivateStore slot word number) h = rests _ refl (same p.nodes)
    outside_worn (kinds.Hold t d) h = either (found == t.word) _ _ (rests _ refl (same p.nodes)) (rests _ refl (same p.nodes))
    outside_worn (kinds.LoadThunk (Some d)) h = kept p _ (same p.nodes) (fills_unmade _ refl) old
    outside_worn (kinds.BoardTake word link) h = rests _ refl (record { worn = refl; tests = refl })
    outside_worn (kinds.BoardGive word slot) h = rests _ refl (record { worn = refl; tests = refl })
    outside_worn _ h = rests _ refl (same p.nodes)

-- each step
module _ (m : Meaning) (l : Layout) (rs : List Request) (s s' : Sight) (r : ℕ) (kind : EventKind) (st : IsStep m l rs s s' r kind)
    (rise : CellsRise s.word s'.word) where
  abbrev p : PartState
  p = s.part r

  -- a worn cell stays so
  stays : (t : ℕ) → HasWornCell m l s.word t → HasWornCell m l s'.word t
  stays t x = record {
    cell = x.cell;
    low = x.low;
    worn = ⊎_elim (λ same. ap version_of same ∙ x.worn)
        (λ one. absurd (let was = x.worn in let now = most in omega (arith, one, was, now))) (rise (cell_of m.fixed_cells t x.cell));
  }
    where
      most : version_of (s'.word (Cell (cell_of m.fixed_cells t x.cell))) ≤ l.version_max
      most = subst (λ n. version_of n ≤ l.version_max) (st.whole'.sections.words.cells (cell_of m.fixed_cells t x.cell))
          (st.whole'.sections.sound.versions.bounded (cell_of m.fixed_cells t x.cell))

  words : (p : PartState) → IsWorn m l s.word p → IsWorn m l s'.word p
  words p old = record {
    listed = λ t own. stays t (old.listed t own);
    tested = λ t worn. stays t (old.tested t worn);
    filled = λ q t at made worn. stays t (old.filled q t at made worn);
  }

  -- a Make's store
  store_shows : (q : RunState) (slot cell number : ℕ) → fill_store_ask m l slot cell number q (next_of m q) ≡ Some st.step.ask
      → (t : ℕ) → q.made ≡ Some t → version_of number ≡ l.version_max → HasWornCell m l s'.word t
  store_shows q slot cell number e t made most =
      let h = fill_store_asked q st.step.ask m l slot cell number (next_of m q) e in
      let same = of_slot q.made t slot made h.3 in
      record {
        cell = cell;
        low = few _ _ cell (if_some _ _ st.step.ask
            (ap (λ (micro : Micro). fill_store_ask m l slot cell number q micro) (sym h.2) ∙ e)).0;
        worn = ap version_of (ap (λ n. s'.word (Cell (cell_of m.fixed_cells n cell))) (sym same) ∙ new_word h.6) ∙ most;
      }
    where
      few : (a b : Bool) (cell : ℕ) → ((a && nat_lt cell 5) && b) ≡ true → cell < 5
      few a b cell e = grind (arith, nat_tests)

      equal : (a b : ℕ) → (a == b) ≡ true → b ≡ a
      equal a b e = grind (arith, nat_tests)

      of_slot : (o : Option ℕ) (t slot : ℕ) → o ≡ Some t → is_slot o slot ≡ true → slot ≡ t
      of_slot o t slot is found = equal t slot (ap (λ (o : Option ℕ). is_slot o slot) (sym is) ∙ found)

      here : (a w : ℕ) → cond (a == a) number w ≡ number
      here a w = grind (arith, nat_tests)

      new_word : (Cell (cell_of m.fixed_cells slot cell), Stores number) ≡ st.step.ask → s'.word (Cell (cell_of m.fixed_cells slot cell)) ≡ number
      new_word is = ap (λ (y : Sight). y.word (Cell (cell_of m.fixed_cells slot cell))) st.step.next
          ∙ subst (λ (y : Spot × Access). put s.word y.0 (written y.1 (s.word y.0)) (Cell (cell_of m.fixed_cells slot cell)) ≡ number) is
          (here (cell_of m.fixed_cells slot cell) (s.word (Cell (cell_of m.fixed_cells slot cell))))

  -- a private load of a slot's cell
  load_shows : (slot cell : ℕ) → private_load_ask m l slot cell p ≡ Some st.step.ask → nat_lt slot (slot_count l m.fixed_slots) ≡ true
      → cell < 5 → version_of (s.word st.step.ask.0) ≡ l.version_max → HasWornCell m l s.word slot
  load_shows slot cell e test low most = record {
    cell = cell;
    low = low;
    worn = ap version_of (ap s.word met) ∙ most;
  }
    where
      met : Cell (cell_of m.fixed_cells slot cell) ≡ st.step.ask.0
      met = ap (λ (y : Spot × Access). y.0) (if_some _ _ st.step.ask
          (ap (λ b. if b
          then when (is_resting p.stage p.run && (nat_lt cell 5 && (has p.nodes.free slot || has p.nodes.hand slot))) (Cell (cell_of m.fixed_cells slot cell)) Loads
          else (if nat_lt slot (blocks_from m l)
          then when (is_resting p.stage p.run && has p.descriptors.free (slot - slot_count l m.fixed_slots)) (descriptor_spot (slot - slot_count l m.fixed_slots) cell) Loads
          else when (is_resting p.stage p.run && has p.blocks.free (slot - blocks_from m l)) (block_spot (slot - blocks_from m l) cell) Loads))
          (sym test) ∙ e)).1

  outside_shows : (k : EventKind) → (none : p.run ≡ None) → (old : IsWorn m l s.word p) → outside_ask m l rs r k p ≡ Some st.step.ask
      → IsWorn m l s.word (outside_after m l k p (s.word st.step.ask.0))
  outside_shows (kinds.PrivateLoad slot cell) none old e =
      outside_worn m l s.word p none old (s.word st.step.ask.0) (kinds.PrivateLoad slot cell) (load_shows slot cell e)
  outside_shows k none old e = outside_worn m l s.word p none old (s.word st.step.ask.0) k tt

  inside_shows : (k : EventKind) (q : RunState) → ask_by m l rs r k p (Some q) ≡ Some st.step.ask → is_open_run q ≡ true
      → (is : p.run ≡ Some q) (old : IsWorn m l s'.word p) → StoresShow m l s'.word p q is old (s.word st.step.ask.0) k (next_of m q)
  inside_shows (kinds.PrivateStore slot cell number) q e opened is old = λ linked. store_shows q slot cell number
      (ap (λ (b : Bool). if b then block_empty_ask m l slot cell number p.blocks.free q else fill_store_ask m l slot cell number q (next_of m q)) (sym linked)
      ∙ (ap (λ (b : Bool). if b then line_ask m l (kinds.PrivateStore slot cell number) p.nodes.free p.blocks.free q (next_of m q)
      else opening_ask (kinds.PrivateStore slot cell number) q) (sym opened) ∙ e))
  inside_shows k q e opened is old = tt

  own_worn : (o : Option RunState) → p.run ≡ o → ask_by m l rs r kind p o ≡ Some st.step.ask → IsWorn m l s.word p
      → IsWorn m l s'.word (after_by m l kind p o (s.word st.step.ask.0))
  own_worn None none e old = words _ (outside_shows kind none old e)
  own_worn (Some q) is e old = let now = words p old in
      inside_worn m l s'.word p q is now (s.word st.step.ask.0) kind (λ opened. inside_shows kind q e opened is now)

  worn_kept : ((i : ℕ) → IsWorn m l s.word (s.part i)) → (i : ℕ) → IsWorn m l s'.word (s'.part i)
  worn_kept old i = subst (λ (y : Sight). IsWorn m l s'.word (y.part i)) (sym st.step.next)
      (each_part m l s r st.step.ask (λ k p'. IsWorn m l s'.word p')
      (λ k p' blocks board records gone h. record { listed = h.listed; tested = h.tested; filled = h.filled })
      kind (joins m l rs kind r p st.step.ask st.step.asked)
      (own_worn p.run refl (unless_gone _ p.gone _ st.step.ask st.step.asked).1 (old r))
      (λ k ne. words (s.part k) (old k)) i)

pub reached_worn : (m : Meaning) → Laws m → (l : Layout) → IsWithinLimits l → (rs : List Request) → AreAllowed rs → (w : World)
    → Reached m l rs w → WornAreWorn m l (sight m l rs w)
reached_worn m laws l limits rs allowed w reached r t own =
    (raising_keeps m laws l limits rs allowed (λ s. (i : ℕ) → IsWorn m l s.word (s.part i))
    (λ v start i. subst (λ (p : PartState). IsWorn m l (sight m l rs v).word p) (sym (first_parts m l v.parts start.parts i))
    (FirstJoin.each_part m l (λ p. IsWorn m l (sight m l rs v).word p)
    (none_worn v _ _ _) (λ k. none_worn v _ _ _) (none_worn v _ _ _) i))
    (λ s s' i kind st rise old. worn_kept m l rs s s' i kind st rise old) w reached r).listed t own
  where
    none_worn : (v : World) (nodes descriptors blocks : List ℕ) → IsWorn m l (sight m l rs v).word (first_part nodes descriptors blocks)
    none_worn v nodes descriptors blocks = record {
      listed = λ t own. absurd (let z = own in cc);
      tested = λ t worn. absurd (let z = worn in cc);
      filled = λ q t at. some_none q at;
    }
