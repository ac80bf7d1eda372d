-- The steps of a body, each by the call that makes it.
use Rattle.std.proofs.Common.{◌≡◌, ℕ, suc, ◌+◌, ◌-◌, ◌<◌, ◌≤◌, List, [], ◌∷◌, ◌++◌, length, length-append, Bool, true, false, refl, sym, ap, ◌∙◌, subst, arith, Some, None, zero, eq-eqb}
use Rattle.std.specs.Prelude.{◌==◌, cond, if◌then◌else◌, is_some, not, slice_index, slice_index_or}
use Rattle.std.proofs.lemmas.Bool.Decides.{nat_tests}
use Rattle.idem_cell.specs.machine_states.specs.body_terms.specs.declared.micro.Micro.{Micro}
use Rattle.idem_cell.specs.machine_states.specs.body_terms.specs.declared.micro.Micro.TheVariants as micros
use Rattle.idem_cell.specs.machine_states.specs.body_terms.specs.declared.step.Step.TheVariants.{Load, Make, Store, Retire}
use Rattle.idem_cell.specs.machine_states.specs.body_terms.specs.declared.value.Init.{Init}
use Rattle.idem_cell.specs.machine_states.specs.body_terms.specs.declared.value.Value.{Value}
use Rattle.idem_cell.specs.machine_states.specs.body_terms.specs.declared.value.Value.TheVariants.{Const}
use Rattle.idem_cell.specs.machine_states.specs.body_terms.specs.Line.{registers_before, source_of}
use Rattle.idem_cell.specs.machine_states.specs.body_terms.specs.Run.{source_value}
use Rattle.idem_cell.specs.machine_states.specs.table_words.specs.declared.layout.Layout.{Layout}
use Rattle.idem_cell.specs.machine_states.specs.table_words.specs.Limits.{IsWithinLimits}
use Rattle.idem_cell.specs.machine_states.specs.structure_laws.specs.Meaning.{Meaning}
use Rattle.idem_cell.specs.machine_states.specs.structure_laws.specs.Laws.{Laws}
use Rattle.idem_cell.specs.machine_states.specs.runner_parts.specs.State.{RunState, NodesState, PartState}
use Rattle.idem_cell.specs.machine_states.specs.runner_parts.specs.Tests.{has}
use Rattle.idem_cell.specs.machine_states.specs.runner_parts.specs.Lists.{without, tests_without, slot_taken, slot_made, slot_back}
use Rattle.idem_cell.specs.machine_states.specs.runner_steps.specs.InRun.{last_of}
use Rattle.idem_cell.specs.machine_states.specs.runner_steps.specs.Sections.{settles}
use Rattle.idem_cell.specs.machine_states.specs.runner_steps.specs.AfterInRun.{goes_on, agrees}
use Rattle.idem_cell.specs.machine_states.specs.epoch_core.specs.Lists.{times}
use Rattle.idem_cell.specs.machine_states.specs.Sight.{part_or_first}
use Rattle.idem_cell.specs.machine_states.proofs.Steps.{some_same}
use Rattle.nested_lock.specs.machine_facts.specs.machine_invariant.specs.After.{AreAllowed}
use Rattle.nested_lock.specs.machine_facts.specs.machine_invariant.specs.Slots.{times_among}
use Rattle.nested_lock.specs.machine_facts.specs.machine_invariant.proofs.After.{whole_after}
use Rattle.idem_alloc.specs.commit_log.specs.next_steps.specs.Steps.{stock}
use Rattle.idem_alloc.specs.commit_log.specs.next_steps.specs.Stages.{unfilled, nodes_behind}
use Rattle.idem_alloc.specs.commit_log.specs.next_steps.proofs.Stocks.{without_length}
use Rattle.idem_alloc.specs.commit_log.specs.version_words.specs.RunnerState.{RunnerState}
use Rattle.idem_alloc.specs.commit_log.specs.Runs.{IsRunning, Ran}
use Rattle.idem_alloc.specs.commit_log.specs.Links.{with_links}
use Rattle.idem_alloc.specs.commit_log.specs.Committed.{commits_loaded, HasCommitted}
use Rattle.idem_alloc.specs.commit_log.proofs.Committing.{commit_blocks}
use Rattle.idem_alloc.specs.commit_log.proofs.Next.{settled_at}
use Rattle.idem_alloc.specs.commit_log.proofs.Running.{moved_layout}
use Rattle.idem_cell.specs.Loaded.{MayLoad, HasLoaded}
use Rattle.idem_cell.specs.Stored.{MayStore, HasStored}
use Rattle.idem_alloc.specs.Made.{MayMake, HasMade}
use Rattle.idem_alloc.specs.Retired.{MayRetire, HasRetired, nodes_retired}
use Rattle.section_runs.specs.Reached.{run_of}
use Rattle.section_runs.specs.Bodies.{NodesStepped, body_of, MayGo, GoesOn}
use Rattle.section_runs.proofs.Going.{stock_same, nodes_same, begins_here, stands, comes_next, arrives, has_room, same_run}

pub append_none : {A : Type 0} (xs : List A) → xs ++ [] ≡ xs
append_none [] = refl
append_none (x ∷ xs) = ap (λ ys. x ∷ ys) (append_none xs)

-- the commit of a loaded word changes no list of nodes
loaded_nodes : (p : PartState) (q : RunState) (micro : Micro) (found : ℕ) → commits_loaded micro ≡ true → nodes_behind p q micro found ≡ p.nodes
loaded_nodes p q (micros.Commit place log) found loaded = refl
loaded_nodes p q (micros.NestedCommit place log) found loaded = refl
loaded_nodes p q _ found loaded = absurd (let z = loaded in cc)

pub commit_nodes : {T : Type 0} (m : Meaning) (a b : RunnerState T) (q : RunState) (agreed : ℕ) (first : Bool) → HasCommitted m agreed first a b q → b.part.nodes ≡ a.part.nodes
commit_nodes m a b q agreed first has = has.step.behind.nodes ∙ loaded_nodes a.part q has.micro has.found has.loaded

module _ {T : Type 0} (m : Meaning) (r : RunnerState T) where
  abbrev q : RunState
  q = run_of r

  abbrev count : ℕ → ℕ
  count n = (registers_before (body_of m r) n).count

  -- a Load
  module _ (place into : ℕ) where
    pub may_load : MayGo m (Load place into) r → MayLoad m r place q
    may_load may = record {
      running = may.before.running;
      log = count may.n;
      next = comes_next m r may.n (Load place into) may.before may.here (micros.LoadCell place (count may.n)) refl refl refl;
      room = has_room m r (Load place into) may;
    }

    pub load_goes : (agreed : ℕ) (new : RunnerState T) → HasLoaded m place agreed r new q → GoesOn m (Load place into) r new
    load_goes agreed new has =
        let q1 : RunState = goes_on m r.layout q has.found in
        let k : RunState = with_links q1 has.between in
        let layout : new.layout ≡ r.layout = ap (λ (y : RunnerState T). y.layout) has.commit.step.event.made ∙ (has.links.same.layout ∙ ap (λ (y : RunnerState T). y.layout) has.load.event.made) in
        let running : IsRunning m new (agrees m r.layout k agreed) = subst (λ (y : RunState). IsRunning m new (agrees m r.layout y agreed)) has.links.line has.goes_on in
        let kept : stock r.part q ≤ stock new.part k =
        (let one = stock_same r.part has.middle.part q has.load.behind.blocks in
        let two : stock has.middle.part q ≤ stock has.linked.part has.between = has.links.blocks in
        let three = stock_same has.linked.part new.part has.between (commit_blocks m has.linked new has.between agreed has.first has.commit) in omega (arith, one, two, three)) in
        record {
          before = λ n before here.
              let there = stands m r n (Load place into) before here 1 (q.at + 1) refl (omega arith) refl in
              let at : q1.at ≡ q.at + 1 = ap (λ (y : RunState). y.at) (settled_at m r.layout (record q { at = q.at + 1; word = has.found }) (micros.Commit place (count n)) there refl) in
              let b = begins_here m r n (Load place into) before here refl in
              arrives m r n (Load place into) before here new (record k { at = q1.at + 1; trail = q1.trail ++ agreed ∷ [] }) (agreed ∷ []) running layout refl refl refl refl before.none before.unended
              kept (omega (arith, at, b));
          same = same_run m r new _ running layout refl refl;
          nodes = nodes_same (Load place into) r.part.nodes new.part.nodes (commit_nodes m has.linked new has.between agreed has.first has.commit ∙ (has.links.same.nodes ∙ has.load.behind.nodes));
        }

  -- a Store, in place of the register's word
  module _ (reg : ℕ) (value : Value) where
    pub may_store : (may : MayGo m (Store reg value) r) (place old number : ℕ) → let g = registers_before (body_of m r) may.n in
        place ≡ g.place reg → old ≡ slice_index q.trail (g.log reg) → number ≡ source_value q.trail (source_of g value) → MayStore m r place old number q
    may_store may place old number there word given =
        let g = registers_before (body_of m r) may.n in
        subst (λ p. MayStore m r p old number q) (sym there) (record {
          running = may.before.running;
          log = g.log reg;
          source = source_of g value;
          next = comes_next m r may.n (Store reg value) may.before may.here (micros.ExchangeCell (g.place reg) (g.log reg) (source_of g value)) refl refl refl;
          word = word;
          given = given;
        })

    pub store_goes : (place old number : ℕ) (new : RunnerState T) → HasStored m place old number r new q → GoesOn m (Store reg value) r new
    store_goes place old number new has =
        let layout : new.layout ≡ r.layout = ap (λ (y : RunnerState T). y.layout) has.step.event.made in
        record {
          before = λ n before here.
              let b = begins_here m r n (Store reg value) before here refl in
              arrives m r n (Store reg value) before here new (record q { at = q.at + 1; word = q.word }) [] has.goes_on layout refl refl (sym (append_none q.trail)) refl before.none before.unended
              (stock_same r.part new.part q has.step.behind.blocks) (omega (arith, b));
          same = same_run m r new _ has.goes_on layout refl refl;
          nodes = nodes_same (Store reg value) r.part.nodes new.part.nodes has.step.behind.nodes;
        }

  -- a Retire
  module _ (slot : ℕ) where
    pub may_retire : MayGo m (Retire slot) r → MayRetire m r slot q
    may_retire may = record {
      running = may.before.running;
      log = count may.n;
      next = comes_next m r may.n (Retire slot) may.before may.here (micros.EpochForRetire slot (count may.n)) refl refl refl;
      room = has_room m r (Retire slot) may;
    }

    retired : (first : Bool) (epoch : ℕ) (old new : NodesState) → new ≡ nodes_retired first old slot epoch → NodesStepped (Retire slot) old new
    retired true epoch old new e = subst (NodesStepped (Retire slot) old) (sym e) (record {
      free = omega arith;
      hand = refl;
      tests = λ none. none;
      more = record { slot = slot; epoch = epoch } ∷ [];
      limbo = refl;
      few = omega arith;
      same = λ make retire. absurd (let z = retire in cc);
    })
    retired false epoch old new e = nodes_same (Retire slot) old new e

    pub retire_goes : (new : RunnerState T) → HasRetired m slot r new q → GoesOn m (Retire slot) r new
    retire_goes new has =
        let q1 : RunState = goes_on m r.layout q has.epoch in
        let k : RunState = with_links q1 has.between in
        let layout : new.layout ≡ r.layout = ap (λ (y : RunnerState T). y.layout) has.commit.event.made ∙ (has.links.same.layout ∙ ap (λ (y : RunnerState T). y.layout) has.load.event.made) in
        let running : IsRunning m new (agrees m r.layout k (slot + 1)) = subst (λ (y : RunState). IsRunning m new (agrees m r.layout y (slot + 1))) has.links.line has.goes_on in
        let kept : stock r.part q ≤ stock new.part k =
        (let one = stock_same r.part has.middle.part q has.load.behind.blocks in
        let two : stock has.middle.part q ≤ stock has.linked.part has.between = has.links.blocks in
        let three = stock_same has.linked.part new.part has.between has.commit.behind.blocks in omega (arith, one, two, three)) in
        record {
          before = λ n before here.
              let there = stands m r n (Retire slot) before here 1 (q.at + 1) refl (omega arith) refl in
              let at : q1.at ≡ q.at + 1 = ap (λ (y : RunState). y.at) (settled_at m r.layout (record q { at = q.at + 1; word = has.epoch }) (micros.RetireCommit slot (count n)) there refl) in
              let b = begins_here m r n (Retire slot) before here refl in
              arrives m r n (Retire slot) before here new (record k { at = q1.at + 1; trail = q1.trail ++ (slot + 1) ∷ [] }) ((slot + 1) ∷ []) running layout refl refl refl refl before.none before.unended
              kept (omega (arith, at, b));
          same = same_run m r new _ running layout refl refl;
          nodes = retired has.first has.epoch r.part.nodes new.part.nodes has.nodes;
        }

-- a slot that is taken out of a list in which it doesn't stand
without_none : (xs : List ℕ) (d : ℕ) → times d xs ≡ 0 → without xs d ≡ xs
without_none [] d none = refl
without_none (x ∷ xs) d none = by (x == d) none (without_none xs d)
  where
    by : (b : Bool) → cond b (1 + times d xs) (times d xs) ≡ 0 → (times d xs ≡ 0 → without xs d ≡ xs) → (if not b then x ∷ without xs d else without xs d) ≡ x ∷ xs
    by true e rest = absurd (omega (arith, e))
    by false e rest = ap (λ ys. x ∷ ys) (rest e)

without_last : (xs : List ℕ) (d : ℕ) → times d xs ≡ 0 → without (xs ++ d ∷ []) d ≡ xs
without_last [] d none = by (d == d) (eq-eqb d d refl)
  where
    by : (b : Bool) → b ≡ true → (if not b then d ∷ [] else []) ≡ []
    by true e = refl
    by false e = absurd (let z = e in cc)
without_last (x ∷ xs) d none = by (x == d) none (without_last xs d)
  where
    by : (b : Bool) → cond b (1 + times d xs) (times d xs) ≡ 0 → (times d xs ≡ 0 → without (xs ++ d ∷ []) d ≡ xs)
        → (if not b then x ∷ without (xs ++ d ∷ []) d else without (xs ++ d ∷ []) d) ≡ x ∷ xs
    by true e rest = absurd (omega (arith, e))
    by false e rest = ap (λ ys. x ∷ ys) (rest e)

-- the last of a list stands in it
last_times : (xs : List ℕ) (slot : ℕ) → last_of xs ≡ Some slot → 1 ≤ times slot xs
last_times [] slot e = absurd (let z = e in cc)
last_times (x ∷ xs) slot e =
    let some : (suc (length xs) == 0) ≡ false = grind (arith, nat_tests) in
    let at : slice_index (x ∷ xs) (suc (length xs) - 1) ≡ slot = some_same (slice_index (x ∷ xs) (suc (length xs) - 1)) slot
    (sym (ap (λ b. if b then None else Some (slice_index (x ∷ xs) (suc (length xs) - 1))) some) ∙ e) in
    stands_in (x ∷ xs) slot (suc (length xs) - 1) at (let z : suc (length xs) - 1 < suc (length xs) = omega arith in z)
  where
    stands_in : (ys : List ℕ) (y i : ℕ) → slice_index ys i ≡ y → i < length ys → 1 ≤ times y ys
    stands_in [] y i at low = absurd (omega (arith, low))
    stands_in (z ∷ ys) y zero at low = by (z == y) (eq-eqb z y at)
      where
        by : (b : Bool) → b ≡ true → 1 ≤ cond b (1 + times y ys) (times y ys)
        by true e = omega arith
        by false e = absurd (let w = e in cc)
    stands_in (z ∷ ys) y (suc i) at low = by (z == y) (stands_in ys y i at (omega (arith, low)))
      where
        by : (b : Bool) → 1 ≤ times y ys → 1 ≤ cond b (1 + times y ys) (times y ys)
        by true h = omega arith
        by false h = h

-- a Make's lists
module _ (init : Init) (into slot : ℕ) (n : NodesState) (once : times_among n slot ≤ 1) (free : last_of n.free ≡ Some slot) where
  fewer : length n.free ≤ length (without n.free slot) + 1
  fewer = let a = without_length n.free slot in omega (arith, a, once)

  hand_back : without (n.hand ++ slot ∷ []) slot ≡ n.hand
  hand_back = let a = last_times n.free slot free in without_last n.hand slot (omega (arith, a, once))

  tests_back : n.tests ≡ [] → tests_without n.tests slot ≡ []
  tests_back none = ap (λ ts. tests_without ts slot) none

  back : (worn : Bool) → NodesStepped (Make init into) n (slot_back (slot_taken n slot) slot worn)
  back true = record {
    free = fewer;
    hand = hand_back;
    tests = tests_back;
    more = [];
    limbo = sym (append_none n.limbo);
    few = omega arith;
    same = λ make retire. absurd (let z = make in cc);
  }
  back false = record {
    free = let f = fewer in let l = length-append (without n.free slot) (slot ∷ []) in omega (arith, f, l);
    hand = hand_back;
    tests = tests_back;
    more = [];
    limbo = sym (append_none n.limbo);
    few = omega arith;
    same = λ make retire. absurd (let z = make in cc);
  }

  pub made_stepped : (first worn : Bool) (new : NodesState) → new ≡ (if first then slot_made (slot_taken n slot) slot else slot_back (slot_taken n slot) slot worn) → NodesStepped (Make init into) n new
  made_stepped true worn new e = subst (NodesStepped (Make init into) n) (sym e) (record {
    free = fewer;
    hand = hand_back;
    tests = λ none. none;
    more = [];
    limbo = sym (append_none n.limbo);
    few = omega arith;
    same = λ make retire. absurd (let z = make in cc);
  })
  made_stepped false worn new e = subst (NodesStepped (Make init into) n) (sym e) (back worn)

module _ {T : Type 0} (m : Meaning) where
  pub ran_layout : (n : ℕ) (a b : RunnerState T) → Ran m n a b → b.layout ≡ a.layout
  ran_layout zero a b same = ap (λ (y : RunnerState T). y.layout) same
  ran_layout (suc n) a b ran = ran_layout n ran.0 b ran.4 ∙ moved_layout m ran.1 ran.2 a ran.0 ran.3

  -- the slots of a runner's lists stand there once, in every state that the machine reaches
  pub lists_once : Laws m → (r : RunnerState T) → IsWithinLimits r.layout → AreAllowed r.requests → (q : RunState) → IsRunning m r q → (slot : ℕ) → times_among r.part.nodes slot ≤ 1
  lists_once laws r limits allowed q is slot =
      let w = is.inside.world in
      let nodes = (whole_after m laws r.layout r.requests is.inside.reached.events w limits allowed is.inside.reached.after).sound.slots.in_nodes in
      subst (λ (p : PartState). times_among p.nodes slot ≤ 1) (ap part_or_first is.inside.own) (nodes.once r.number slot)

-- a Make
module _ {T : Type 0} (m : Meaning) (r : RunnerState T) (init : Init) (into : ℕ) where
  abbrev run : RunState
  run = run_of r

  pub may_make : (may : MayGo m (Make init into) r) (values : List ℕ) → 1 ≤ length r.part.nodes.free
      → ((cell : ℕ) → cell < 5 → slice_index values cell ≡ source_value run.trail (source_of (registers_before (body_of m r) may.n) (slice_index_or init.cells cell (Const 0)))) → MayMake m r values run
  may_make may values reserve given = record {
    running = may.before.running;
    init = init;
    next = record {
      step = may.n;
      into = into;
      makes = may.here;
      at = let b = begins_here m r may.n (Make init into) may.before may.here refl in omega (arith, b);
    };
    none = may.before.none;
    reserve = reserve;
    room = has_room m r (Make init into) may;
    given = given;
  }

  module _ (agreed : ℕ) (new : RunnerState T) (has : HasMade m agreed r new run) where
    abbrev full : RunState
    full = has.filled.behind

    abbrev k : RunState
    k = with_links full has.between

    abbrev last : RunState
    last = record (unfilled k) { at = full.at + 1; trail = full.trail ++ (agreed + 1) ∷ [] }

    full_layout : has.full.layout ≡ r.layout
    full_layout = ran_layout m 10 r has.full has.filled.ran

    new_layout : new.layout ≡ r.layout
    new_layout = ap (λ (y : RunnerState T). y.layout) has.commit.event.made ∙ (has.links.same.layout ∙ full_layout)

    running : IsRunning m new (settles m r.layout last)
    running = subst (λ (l : Layout). IsRunning m new (settles m l last)) full_layout
        (subst (λ (y : RunState). IsRunning m new (agrees m has.full.layout (unfilled y) (agreed + 1))) has.links.line has.goes_on)

    stock_filled : stock has.full.part full ≡ stock r.part run
    stock_filled = λ i. length (has.filled.links i) + (if is_some (has.filled.block i) then 1 else 0) + length (has.filled.blocks i).free

    kept : stock r.part run ≤ stock new.part last
    kept = let one = stock_filled in let two = has.links.blocks in
        let three = stock_same has.linked.part new.part has.between has.commit.behind.blocks in omega (arith, one, two, three)

    pub make_goes : times_among r.part.nodes has.slot ≤ 1 → GoesOn m (Make init into) r new
    make_goes once = record {
      before = λ n before here.
          let b = begins_here m r n (Make init into) before here refl in
          let a = has.filled.at in
          arrives m r n (Make init into) before here new last ((agreed + 1) ∷ []) running new_layout has.filled.opened has.filled.descriptor
          (ap (λ xs. xs ++ (agreed + 1) ∷ []) has.filled.trail) refl refl (has.filled.ended ∙ before.unended) kept (omega (arith, a, b));
      same = same_run m r new _ running new_layout has.filled.opened has.filled.descriptor;
      nodes = made_stepped init into has.slot r.part.nodes once has.free has.first has.filled.behind.worn new.part.nodes has.nodes;
    }
