-- One cell of a new node is filled in a run.
use Rattle.std.proofs.Common.{◌≡◌, ℕ, zero, suc, ◌+◌, ◌*◌, ◌^◌, ◌<◌, List, true, false, refl, sym, ap, subst, ◌∙◌, arith, Option, Some, None}
use Rattle.std.specs.Prelude.{◌==◌, ◌||◌, is_some, nat_lt, slice_index, slice_index_or, if◌then◌else◌}
use Rattle.std.proofs.lemmas.Bool.Decides.{nat_tests}
use Rattle.runner_steps.specs.body_terms.specs.declared.value.Init.{Init}
use Rattle.runner_steps.specs.body_terms.specs.declared.step.Step.TheVariants.{Make}
use Rattle.runner_steps.specs.body_terms.specs.declared.micro.Source.{Source}
use Rattle.runner_steps.specs.body_terms.specs.declared.micro.Micro.TheVariants.{PrivateLoad, PrivateStore}
use Rattle.runner_steps.specs.body_terms.specs.Shape.{IsStep}
use Rattle.runner_steps.specs.body_terms.specs.declared.value.Value.TheVariants.{Const}
use Rattle.runner_steps.specs.body_terms.specs.Line.{Registers, begins, micro_at, micros, is_event, registers_before, source_of}
use Rattle.runner_steps.specs.body_terms.specs.Run.{source_value}
use Rattle.runner_steps.specs.body_terms.specs.Word.{version_of, next_word}
use Rattle.runner_steps.specs.body_terms.proofs.LineLemmas.{micro_within}
use Rattle.section_lines.proofs.Ordered.{Fills, fills}
use Rattle.runner_steps.specs.table_words.specs.declared.layout.Layout.{Layout}
use Rattle.runner_steps.specs.table_words.specs.Limits.{IsWithinLimits}
use Rattle.section_lines.specs.structure_laws.specs.Meaning.{Meaning}
use Rattle.section_lines.specs.structure_laws.specs.Laws.{Laws}
use Rattle.runner_steps.specs.runner_parts.specs.declared.event.EventKind.TheVariants as kinds
use Rattle.runner_steps.specs.runner_parts.specs.State.{RunState, NodesState}
use Rattle.runner_steps.specs.runner_parts.specs.Lists.{slot_taken}
use Rattle.runner_steps.specs.InRun.{last_of, make_slot, can_raise}
use Rattle.runner_steps.specs.Sections.{thunk_of, line_of, next_of}
use Rattle.runner_steps.specs.AfterInRun.{goes_on}
use Rattle.commit_log.specs.version_words.specs.machine_invariant.specs.machine_blocks.specs.machine_guards.specs.machine_agreement.proofs.LineAsked.{fill_store_asked}
use Rattle.commit_log.specs.version_words.specs.machine_invariant.specs.After.{AreAllowed}
use Rattle.commit_log.specs.next_steps.specs.Steps.{slot_in, kind_at, ask_at, has_slot}
use Rattle.commit_log.specs.next_steps.specs.Stages.{filling_slot, nodes_taking}
use Rattle.commit_log.specs.version_words.specs.RunnerState.{RunnerState}
use Rattle.commit_log.specs.version_words.specs.TableState.{TableState, IsOf}
use Rattle.commit_log.specs.version_words.specs.Events.{met_by, IsEnabled, Makes}
use Rattle.commit_log.specs.Runs.{IsRunning, Stepped, Ran}
use Rattle.commit_log.proofs.Running.{may_make, asked_there, then_made, ran_one, ran_more}
use Rattle.commit_log.proofs.Next.{next_here, settled_at, settled_next}
use Rattle.idem_alloc.specs.Made.{fills_with, MayFill, HasFilled, MayMake, IsFilling}

has_one : {T : Type 0} (r : RunnerState T) (q : RunState) (slot cell log : ℕ) → make_slot q.made r.part.nodes.free ≡ Some slot → has_slot r.part q (PrivateLoad cell log) ≡ true
has_one {T} r q slot zero log e = ap is_some e
has_one {T} r q slot (suc cell) log e = refl

-- the run with the slot that it fills
module _ (q : RunState) (slot : ℕ) where
  pub made_is : (o : Option ℕ) (free : List ℕ) → q.made ≡ o → make_slot o free ≡ Some slot → (filling_slot o q slot).made ≡ Some slot
  made_is None free e s = refl
  made_is (Some t) free e s = e ∙ s

  pub trail_is : (o : Option ℕ) → (filling_slot o q slot).trail ≡ q.trail
  trail_is None = refl
  trail_is (Some t) = refl

  pub opened_is : (o : Option ℕ) → (filling_slot o q slot).opened ≡ q.opened
  opened_is None = refl
  opened_is (Some t) = refl

  pub at_is : (o : Option ℕ) → (filling_slot o q slot).at ≡ q.at
  at_is None = refl
  at_is (Some t) = refl

  pub descriptor_is : (o : Option ℕ) → (filling_slot o q slot).descriptor ≡ q.descriptor
  descriptor_is None = refl
  descriptor_is (Some t) = refl

  pub ended_is : (o : Option ℕ) → (filling_slot o q slot).ended ≡ q.ended
  ended_is None = refl
  ended_is (Some t) = refl

  pub links_is : (o : Option ℕ) → (filling_slot o q slot).links ≡ q.links
  links_is None = refl
  links_is (Some t) = refl

  pub block_is : (o : Option ℕ) → (filling_slot o q slot).block ≡ q.block
  block_is None = refl
  block_is (Some t) = refl

-- behind the store of each cell an event stands
later : (g : Registers) (init : Init) (into cell : ℕ) → cell < 5 → is_event (micro_at (micros g (Make init into)) (2 * cell + 2)) ≡ true
later g init into zero few = refl
later g init into (suc zero) few = refl
later g init into (suc (suc zero)) few = refl
later g init into (suc (suc (suc zero))) few = refl
later g init into (suc (suc (suc (suc zero)))) few = refl
later g init into (suc (suc (suc (suc (suc cell))))) few = absurd (omega arith)

module _ {T : Type 0} (m : Meaning) (laws : Laws m) (t : TableState T) (limits : IsWithinLimits t.layout) (allowed : AreAllowed t.requests) (r : RunnerState T) (own : IsOf t r) (slot cell value : ℕ) (q : RunState) (may : MayFill m r slot cell value q) where
  abbrev log : ℕ
  log = (registers_before (m.body (thunk_of q.opened)) may.next.step).count

  abbrev source : Source
  source = fills_with m may.init cell (2 * cell) q may.next

  parts : Fills (registers_before (m.body (thunk_of q.opened)) may.next.step) may.init may.next.into cell
  parts = fills (registers_before (m.body (thunk_of q.opened)) may.next.step) may.init may.next.into cell may.few

  load_there : micro_at (line_of m q) q.at ≡ PrivateLoad cell log
  load_there = ap (micro_at (line_of m q)) may.next.at
      ∙ (micro_within (m.body (thunk_of q.opened)) may.next.step (2 * cell) (Make may.init may.next.into) may.next.makes (let f = may.few in omega (arith, f)) ∙ parts.load)

  store_there : micro_at (line_of m q) (q.at + 1) ≡ PrivateStore cell log source
  store_there = ap (micro_at (line_of m q)) (let e = may.next.at in let z : q.at + 1 ≡ begins (m.body (thunk_of q.opened)) may.next.step + (1 + 2 * cell) = omega (arith, e) in z)
      ∙ (micro_within (m.body (thunk_of q.opened)) may.next.step (1 + 2 * cell) (Make may.init may.next.into) may.next.makes (let f = may.few in omega (arith, f)) ∙ parts.store)

  ahead : next_of m q ≡ PrivateLoad cell log
  ahead = next_here m q (PrivateLoad cell log) load_there refl

  slot_same : slot_in (make_slot q.made r.part.nodes.free) ≡ slot
  slot_same = ap slot_in may.slot_is

  has : has_slot r.part q (PrivateLoad cell log) ≡ true
  has = has_one r q slot cell log may.slot_is

  pub may_load : IsEnabled m (kinds.PrivateLoad slot cell) r
  may_load = record {
    met = ask_at m r.part q (PrivateLoad cell log);
    asked = subst (λ n. met_by m r (kinds.PrivateLoad n cell) ≡ Some (ask_at m r.part q (PrivateLoad cell log))) slot_same
        (may_make m laws t limits allowed r own q may.running (PrivateLoad cell log) ahead refl has);
  }

  pub loads : (found : ℕ) (r' : RunnerState T) → Makes m (kinds.PrivateLoad slot cell) found r r' → Stepped m q (PrivateLoad cell log) found r r'
  loads found r' made = then_made m laws t limits allowed r own q may.running (PrivateLoad cell log) ahead refl has found r'
      (subst (λ n. Makes m (kinds.PrivateLoad n cell) found r r') (sym slot_same) made)

  module _ (found : ℕ) (r' : RunnerState T) (own' : IsOf t r') (load : Stepped m q (PrivateLoad cell log) found r r') where
    abbrev filling : RunState
    filling = filling_slot q.made q slot

    abbrev loaded : RunState
    loaded = goes_on m r.layout filling found

    running : IsRunning m r' loaded
    running = load.goes_on loaded (load.behind.run ∙ ap (λ n. Some (goes_on m r.layout (filling_slot q.made q n) found)) slot_same)

    next_there : micro_at (line_of m filling) (filling.at + 1) ≡ PrivateStore cell log source
    next_there = (λ i. micro_at (line_of m (record q { opened = opened_is q slot q.made i })) (at_is q slot q.made i + 1)) ∙ store_there

    store_ahead : next_of m loaded ≡ PrivateStore cell log source
    store_ahead = settled_next m r.layout (record filling { at = filling.at + 1; word = found }) (PrivateStore cell log source) next_there refl

    made_same : loaded.made ≡ Some slot
    made_same = made_is q slot q.made r.part.nodes.free refl may.slot_is

    number_is : next_word loaded.word (source_value loaded.trail source) ≡ next_word found value
    number_is = ap (λ (xs : List ℕ). next_word found (source_value xs source)) (trail_is q slot q.made) ∙ ap (λ n. next_word found n) (sym may.given)

    kind_is : kind_at r'.part loaded (PrivateStore cell log source) ≡ kinds.PrivateStore slot cell (next_word found value)
    kind_is = (λ i. kinds.PrivateStore (slot_in (made_same i)) cell (number_is i))

    store_met : met_by m r' (kind_at r'.part loaded (PrivateStore cell log source)) ≡ Some (ask_at m r'.part loaded (PrivateStore cell log source))
    store_met = may_make m laws t limits allowed r' own' loaded running (PrivateStore cell log source) store_ahead refl refl

    pub may_store : (number : ℕ) → number ≡ next_word found value → IsEnabled m (kinds.PrivateStore slot cell number) r'
    may_store number e = record {
      met = ask_at m r'.part loaded (PrivateStore cell log source);
      asked = subst (λ k. met_by m r' k ≡ Some (ask_at m r'.part loaded (PrivateStore cell log source))) (kind_is ∙ ap (λ n. kinds.PrivateStore slot cell n) (sym e)) store_met;
    }

    same : r'.layout ≡ r.layout
    same = ap (λ (y : RunnerState T). y.layout) load.event.made

    pub few_versions : version_of found + 1 < 2 ^ 32
    few_versions =
        let asked = asked_there m laws t limits allowed r' own' loaded running (PrivateStore cell log source) store_ahead refl refl in
        let raise : can_raise r'.layout found ≡ true = (fill_store_asked loaded _ m r'.layout _ _ _ (PrivateStore cell log source) asked).4 in
        let low = less (version_of found) r'.layout.version_max raise in
        let b = limits.few_versions in let c = ap (λ (l : Layout). l.version_max) own'.layout in omega (arith, low, b, c)
      where
        less : (a b : ℕ) → nat_lt a b ≡ true → a < b
        less a b e = grind (arith, nat_tests)

    pub stores : (number over : ℕ) (r2 : RunnerState T) → number ≡ next_word found value → Makes m (kinds.PrivateStore slot cell number) over r' r2
        → Stepped m loaded (PrivateStore cell log source) over r' r2
    stores number over r2 e made = then_made m laws t limits allowed r' own' loaded running (PrivateStore cell log source) store_ahead refl refl over r2
        (subst (λ k. Makes m k over r' r2) (ap (λ n. kinds.PrivateStore slot cell n) e ∙ sym kind_is) made)

    -- behind it the load of the next cell stands, or the commit
    event_after : is_event (micro_at (line_of m q) (q.at + 2)) ≡ true
    event_after = ap (λ n. is_event (micro_at (line_of m q) n)) (let e = may.next.at in let z : q.at + 2 ≡ begins (m.body (thunk_of q.opened)) may.next.step + (2 * cell + 2) = omega (arith, e) in z)
        ∙ (ap is_event (micro_within (m.body (thunk_of q.opened)) may.next.step (2 * cell + 2) (Make may.init may.next.into) may.next.makes (let f = may.few in omega (arith, f)))
        ∙ later (registers_before (m.body (thunk_of q.opened)) may.next.step) may.init may.next.into cell may.few)

    loaded_at : loaded.at ≡ q.at + 1
    loaded_at = ap (λ (p : RunState). p.at) (settled_at m r.layout (record filling { at = filling.at + 1; word = found }) (PrivateStore cell log source) next_there refl)
        ∙ ap (λ n. n + 1) (at_is q slot q.made)

    abbrev filled : RunState
    filled = record loaded { worn = loaded.worn || version_of (next_word loaded.word (source_value loaded.trail source)) == r'.layout.version_max }

    filled_at : (goes_on m r'.layout filled loaded.word).at ≡ q.at + 2
    filled_at = ap (λ (p : RunState). p.at) (settled_at m r'.layout (record filled { at = filled.at + 1; word = loaded.word }) (micro_at (line_of m filled) (filled.at + 1)) refl
        ((λ i. is_event (micro_at (line_of m (record q { opened = opened_is q slot q.made i })) (two i))) ∙ event_after)) ∙ two
      where
        two : loaded.at + 1 ≡ q.at + 2
        two = let e = loaded_at in omega (arith, e)

    pub then_filled : (over : ℕ) (r2 : RunnerState T) → Stepped m loaded (PrivateStore cell log source) over r' r2 → HasFilled m slot cell value r r2 q
    then_filled over r2 store = record {
      log = log;
      source = source;
      found = found;
      over = over;
      middle = r';
      load = load;
      store = store;
      nodes = store.behind.nodes ∙ (load.behind.nodes ∙ ap (λ n. nodes_taking q.made r.part.nodes n) slot_same);
      behind = goes_on m r'.layout (record loaded { worn = loaded.worn || version_of (next_word loaded.word (source_value loaded.trail source)) == r'.layout.version_max }) loaded.word;
      goes_on = store.goes_on _ store.behind.run;
      at = filled_at;
      made = made_same;
      trail = trail_is q slot q.made;
      opened = opened_is q slot q.made;
      descriptor = descriptor_is q slot q.made;
      ended = ended_is q slot q.made;
      links = links_is q slot q.made;
      block = block_is q slot q.made;
      blocks = store.behind.blocks ∙ load.behind.blocks;
      worn = (λ i. filling.worn || version_of (number_is i) == (same i).version_max);
    }

zero_not : (k : ℕ) → (suc k == 0) ≡ false
zero_not k = grind (arith, nat_tests)

-- cell after cell
module _ {T : Type 0} (m : Meaning) (old : RunnerState T) (values : List ℕ) (q : RunState) (may : MayMake m old values q) (slot : ℕ) (free : last_of old.part.nodes.free ≡ Some slot) where
  pub none_filled : IsFilling m slot 0 old old q
  none_filled = record {
    behind = q;
    running = may.running;
    ran = refl;
    at = let e : q.at ≡ q.at + 2 * 0 = omega arith in e;
    made = may.none;
    trail = refl;
    opened = refl;
    descriptor = refl;
    ended = refl;
    links = refl;
    block = refl;
    blocks = refl;
    nodes = refl;
  }

  module _ (count : ℕ) (r : RunnerState T) (filling : IsFilling m slot count old r q) (few : count < 5) where
    slot_of : (k : ℕ) → (made : Option ℕ) → made ≡ (if k == 0 then None else Some slot) → (n : NodesState) → n ≡ (if k == 0 then old.part.nodes else slot_taken old.part.nodes slot)
        → make_slot made n.free ≡ Some slot
    slot_of zero made e n ns = (λ i. make_slot (e i) (ns i).free) ∙ free
    slot_of (suc k) made e n ns = ap (λ (o : Option ℕ). make_slot o n.free) (e ∙ ap (λ b. if b then None else Some slot) (zero_not k))

    pub may_fill : MayFill m r slot count (slice_index values count) filling.behind
    may_fill =
        let opened = filling.opened in
        let begun : begins (m.body (thunk_of filling.behind.opened)) may.next.step ≡ begins (m.body (thunk_of q.opened)) may.next.step = ap (λ xs. begins (m.body (thunk_of xs)) may.next.step) opened in
        record {
          running = filling.running;
          init = may.init;
          next = record {
            step = may.next.step;
            into = may.next.into;
            makes = subst (λ xs. IsStep (m.body (thunk_of xs)) may.next.step (Make may.init may.next.into)) (sym opened) may.next.makes;
            at = let a = filling.at in let b = may.next.at in omega (arith, a, b, begun);
          };
          few = few;
          slot_is = slot_of count filling.behind.made filling.made r.part.nodes filling.nodes;
          given = may.given count few ∙ (λ i. source_value (sym filling.trail i) (source_of (registers_before (m.body (thunk_of (sym opened i))) may.next.step) (slice_index_or may.init.cells count (Const 0))));
        }

    taken_of : (k : ℕ) → (made : Option ℕ) → made ≡ (if k == 0 then None else Some slot) → (n : NodesState) → n ≡ (if k == 0 then old.part.nodes else slot_taken old.part.nodes slot)
        → nodes_taking made n slot ≡ slot_taken old.part.nodes slot
    taken_of zero made e n ns = λ i. nodes_taking (e i) (ns i) slot
    taken_of (suc k) made e n ns = (λ i. nodes_taking ((e ∙ ap (λ b. if b then None else Some slot) (zero_not k)) i) n slot)
        ∙ (ns ∙ ap (λ b. if b then old.part.nodes else slot_taken old.part.nodes slot) (zero_not k))

    pub filled_more : (value : ℕ) (r' : RunnerState T) → HasFilled m slot count value r r' filling.behind → IsFilling m slot (count + 1) old r' q
    filled_more value r' has =
        let positive : (count + 1 == 0) ≡ false = grind (arith, nat_tests) in
        record {
          behind = has.behind;
          running = has.goes_on;
          ran = let e : 2 * count + 2 ≡ 2 * (count + 1) = omega arith in subst (λ n. Ran m n old r') e
              (ran_more m (2 * count) 2 old r r' filling.ran (ran_more m 1 1 r has.middle r' (ran_one m _ _ _ _ _ has.load) (ran_one m _ _ _ _ _ has.store)));
          at = let a = has.at in let b = filling.at in omega (arith, a, b);
          made = has.made ∙ sym (ap (λ b. if b then None else Some slot) positive);
          trail = has.trail ∙ filling.trail;
          opened = has.opened ∙ filling.opened;
          descriptor = has.descriptor ∙ filling.descriptor;
          ended = has.ended ∙ filling.ended;
          links = has.links ∙ filling.links;
          block = has.block ∙ filling.block;
          blocks = has.blocks ∙ filling.blocks;
          nodes = has.nodes ∙ (taken_of count filling.behind.made filling.made r.part.nodes filling.nodes ∙ sym (ap (λ b. if b then old.part.nodes else slot_taken old.part.nodes slot) positive));
        }
