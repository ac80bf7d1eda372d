-- What a runner's part says of its descriptors and of its limbo lists, whatever the others do.
use Rattle.std.specs.Prelude.{◌==◌, not, cond, Bool, true, false, All}
use Rattle.std.specs.List.{filter}
use Rattle.std.proofs.Common.{◌≡◌, ◌≢◌, ℕ, ◌+◌, ◌<◌, ◌≤◌, List, [], ◌∷◌, ◌++◌, length, refl, sym, ap, ◌∙◌, subst, arith, ⊎_elim, Option, Some, None}
use Rattle.std.proofs.lemmas.Bool.{cases_eq}
use Rattle.std.proofs.lemmas.Bool.Decides.{nat_tests}
use Rattle.std.proofs.lemmas.List.Elements.{All-filter, All-weaker}
use Rattle.machine_states.specs.table_words.specs.declared.layout.Layout.{Layout}
use Rattle.machine_states.specs.table_words.specs.Places.{descriptor_count}
use Rattle.machine_states.specs.structure_laws.specs.Meaning.{Meaning}
use Rattle.machine_states.specs.epoch_core.specs.declared.stage.Stage.TheVariants.{Entered}
use Rattle.machine_states.specs.runner_parts.specs.declared.entries.Published.{Published}
use Rattle.machine_states.specs.runner_parts.specs.declared.entries.Retired.{Retired}
use Rattle.machine_states.specs.runner_parts.specs.State.{RunState, PartState, GuardsState, RecordsState}
use Rattle.machine_states.specs.runner_parts.specs.Tests.{has}
use Rattle.machine_states.specs.runner_parts.specs.Lists as lists
use Rattle.machine_states.specs.runner_steps.specs.AfterOutside as outside
use Rattle.machine_states.specs.runner_steps.specs.AfterInRun as runs
use Rattle.machine_states.specs.epoch_core.specs.Lists.{times}
use Rattle.machine_epochs.specs.Firsts.{owner_of}
use Rattle.machine_epochs.specs.Slots.{retiring_of}
use Rattle.machine_states.specs.epoch_core.proofs.Times.{times-append}
use Rattle.machine_epochs.proofs.Places.{has_times}
use Rattle.machine_epochs.specs.Descriptors.{times_published, times_with}
use Rattle.machine_states.specs.runner_steps.specs.AfterOutside.{published_by}
use Rattle.machine_states.specs.body_terms.specs.declared.thunk.Thunk.{Thunk}

-- the Retire at which an entered runner's run is has an epoch that is no earlier than the runner's entry
abbrev pub IsRecent : Meaning → PartState → Type 0
IsRecent m p = (g : ℕ) → p.stage ≡ Entered g → (retiring_of m p.run).loaded ≡ true → g ≤ (retiring_of m p.run).epoch

-- what is so of a runner's part where the epoch is this
pub record IsOwn (m : Meaning) (l : Layout) (epoch r : ℕ) (p : PartState) : Type 0 where
  pub once : (d : ℕ) → d < descriptor_count l → times_with p d ≡ cond (owner_of l.sections l.runners d == r) 1 0
  pub nodes_most : All (λ x. x.epoch ≤ epoch) p.nodes.limbo
  -- the Retire at which its run is, if any, has an epoch that was loaded
  pub retire_most : (retiring_of m p.run).epoch ≤ epoch
  pub retire_least : IsRecent m p
  pub run_begins : (q : RunState) → p.run ≡ Some q → length q.opened < 13 → q.at ≡ 0

-- lists of this part are those of that one
pub record IsSameLists (p' p : PartState) : Type 0 where
  pub free : p'.descriptors.free ≡ p.descriptors.free
  pub limbo : p'.descriptors.limbo ≡ p.descriptors.limbo
  pub published : (d : ℕ) → times_published d p'.published ≡ times_published d p.published
  pub nodes : p'.nodes.limbo ≡ p.nodes.limbo

later : (epoch epoch' : ℕ) → epoch ≤ epoch' → (xs : List Retired) → All (λ x. x.epoch ≤ epoch) xs → All (λ x. x.epoch ≤ epoch') xs
later epoch epoch' h xs all = All-weaker (λ x. x.epoch ≤ epoch) (λ x. x.epoch ≤ epoch') (λ x low. omega arith) xs all

module _ (m : Meaning) (l : Layout) (epoch r : ℕ) where
  -- a step that changes neither lists nor what was published
  pub stays : (p p' : PartState) → IsSameLists p' p → (retiring_of m p'.run).epoch ≤ epoch → IsRecent m p' → ((q : RunState) → p'.run ≡ Some q → length q.opened < 13 → q.at ≡ 0)
      → IsOwn m l epoch r p → IsOwn m l epoch r p'
  stays p p' same retire least begins old = record {
    once = λ d few. counts d ∙ old.once d few;
    nodes_most = subst (All (λ x. x.epoch ≤ epoch)) (sym same.nodes) old.nodes_most;
    retire_most = retire;
    retire_least = least;
    run_begins = begins;
  }
    where
      counts : (d : ℕ) → times_with p' d ≡ times_with p d
      counts d = λ i. times d (same.free i) + (times d (same.limbo i) + same.published d i)

  -- the same with no run
  pub idles : (p p' : PartState) → IsSameLists p' p → p'.run ≡ None → IsOwn m l epoch r p → IsOwn m l epoch r p'
  idles p p' same none old = stays p p' same (subst (λ (o : Option RunState). (retiring_of m o).epoch ≤ epoch) (sym none) (omega arith)) (λ g at loaded. absurd (let x = sym (ap (λ (o : Option RunState). (retiring_of m o).loaded) none) ∙ loaded in cc)) (λ q at few. absurd (let x = sym none ∙ at in cc)) old

  -- the epoch goes on
  pub passes : (epoch' : ℕ) (p : PartState) → epoch ≤ epoch' → IsOwn m l epoch r p → IsOwn m l epoch' r p
  passes epoch' p h old = record {
    once = old.once;
    nodes_most = later epoch epoch' h _ old.nodes_most;
    retire_most = let low = old.retire_most in omega arith;
    retire_least = old.retire_least;
    run_begins = old.run_begins;
  }

-- a sweep moves what it frees from limbo
split : (test : ℕ → Bool) (xs : List ℕ) (d : ℕ) → times d (filter test xs) + times d (filter (λ x. not (test x)) xs) ≡ times d xs
split test [] d = refl
split test (x ∷ xs) d = by_test (test x) (x == d) refl (split test xs d)
  where
    by_test : (b b' : Bool) → (x == d) ≡ b' → times d (filter test xs) + times d (filter (λ y. not (test y)) xs) ≡ times d xs
        → times d (cond b (x ∷ filter test xs) (filter test xs)) + times d (cond (not b) (x ∷ filter (λ y. not (test y)) xs) (filter (λ y. not (test y)) xs)) ≡ cond (x == d) (1 + times d xs) (times d xs)
    by_test true true e h = rw e (omega arith)
    by_test true false e h = rw e h
    by_test false true e h = rw e (omega arith)
    by_test false false e h = rw e h

without_times : (xs : List ℕ) (d d' : ℕ) → d' ≢ d → times d' (lists.without xs d) ≡ times d' xs
without_times [] d d' ne = refl
without_times (x ∷ xs) d d' ne = by_test (x == d) refl (without_times xs d d' ne)
  where
    other : (a b c : ℕ) (n : ℕ) → (a == b) ≡ true → c ≢ b → n ≡ cond (a == c) (1 + n) n
    other a b c n h ne = grind (arith, nat_tests)

    by_test : (b : Bool) → (x == d) ≡ b → times d' (lists.without xs d) ≡ times d' xs → times d' (cond (not b) (x ∷ lists.without xs d) (lists.without xs d)) ≡ cond (x == d') (1 + times d' xs) (times d' xs)
    by_test true e h = h ∙ other x d d' (times d' xs) e ne
    by_test false e h = ap (λ n. cond (x == d') (1 + n) n) h

without_all : (xs : List ℕ) (d : ℕ) → times d (lists.without xs d) ≡ 0
without_all [] d = refl
without_all (x ∷ xs) d = by_test (x == d) refl (without_all xs d)
  where
    by_test : (b : Bool) → (x == d) ≡ b → times d (lists.without xs d) ≡ 0 → times d (cond (not b) (x ∷ lists.without xs d) (lists.without xs d)) ≡ 0
    by_test true e h = h
    by_test false e h = ap (λ b. cond b (1 + times d (lists.without xs d)) (times d (lists.without xs d))) e ∙ h

pub one_most : (b : Bool) → cond b 1 0 ≤ 1
one_most true = omega arith
one_most false = omega arith

pub_other : (a b : ℕ) → b ≢ a → ◌≡◌ {A = ℕ} (cond (a == b) 1 0) 0
pub_other a b ne = grind (arith, nat_tests)

pub_here : (a b : ℕ) → b ≡ a → ◌≡◌ {A = ℕ} (cond (a == b) 1 0) 1
pub_here a b e = grind (arith, nat_tests)

module _ (m : Meaning) (l : Layout) (epoch r : ℕ) (p : PartState) (old : IsOwn m l epoch r p) (none : p.run ≡ None) (records : RecordsState) where
  at_none : (retiring_of m p.run).epoch ≤ epoch
  at_none = old.retire_most

  -- a scan ends
  pub collects : (e : ℕ) → IsOwn m l epoch r (record (outside.collected p e) { records = records })
  collects e = record {
    once = old.once;
    nodes_most = All-filter (λ x. not (lists.is_old e x)) (λ x. x.epoch ≤ epoch) p.nodes.limbo old.nodes_most;
    retire_most = at_none;
    retire_least = λ g at loaded. absurd (let x = at in cc);
    run_begins = old.run_begins;
  }

  -- a sweep ends, or goes on
  pub sweeps : (guards : GuardsState) (test : ℕ → Bool) (b : Bool) → IsOwn m l epoch r (record p {
    descriptors = cond b (record (p.descriptors) {
      free = p.descriptors.free ++ filter test p.descriptors.limbo;
      limbo = filter (λ x. not (test x)) p.descriptors.limbo;
    }) p.descriptors;
    guards = guards;
    records = records;
  })
  sweeps guards test true = record {
    once = λ d few. let add = times-append d p.descriptors.free (filter test p.descriptors.limbo) in
        let moved = split test p.descriptors.limbo d in let was = old.once d few in omega arith;
    nodes_most = old.nodes_most;
    retire_most = at_none;
    retire_least = old.retire_least;
    run_begins = old.run_begins;
  }
  sweeps guards test false = record {
    once = old.once;
    nodes_most = old.nodes_most;
    retire_most = at_none;
    retire_least = old.retire_least;
    run_begins = old.run_begins;
  }

  -- a section is published
  module _ (d : ℕ) (few : d < descriptor_count l) (free : has p.descriptors.free d ≡ true) (unpublished : p.published ≡ None) (t : Thunk) (found : ℕ) where
    abbrev mine : Published
    mine = published_by t d p

    abbrev holding : PartState
    holding = record p { published = Some mine; descriptors = lists.descriptor_taken p.descriptors d; guards = lists.published_seen p.guards d; reads = lists.cell_read p.reads t.lock found; records = records }

    before : (d' : ℕ) → times_published d' p.published ≡ 0
    before d' = ap (times_published d') unpublished

    -- it was free once, and nowhere else
    was_free : (times d p.descriptors.free ≡ 1) × (times d p.descriptors.limbo ≡ 0)
    was_free =
        let some = has_times p.descriptors.free d free in
        let was = old.once d few in
        let most = one_most (owner_of l.sections l.runners d == r) in
        let now = before d in (omega arith, omega arith)

    pub publishes : IsOwn m l epoch r holding
    publishes = record {
      once = λ d' few'. ⊎_elim
          (λ same. here d' same few')
          (λ other. let was = old.once d' few' in let now = before d' in let kept = without_times p.descriptors.free d d' other in let none = pub_other d d' other in omega arith)
          (cases_eq d' d);
      nodes_most = old.nodes_most;
      retire_most = at_none;
      retire_least = old.retire_least;
      run_begins = old.run_begins;
    }
      where
        here : (d' : ℕ) → d' ≡ d → d' < descriptor_count l → times_with holding d' ≡ cond (owner_of l.sections l.runners d' == r) 1 0
        here d' same few' =
            let was = old.once d' few' in let now = before d' in
            let one = ap (λ n. times n p.descriptors.free) same ∙ was_free.0 in
            let gone = ap (λ n. times n (lists.without p.descriptors.free d)) same ∙ without_all p.descriptors.free d in
            let mine_is = pub_here d d' same in omega arith

-- the run of a section ends, and the own published one, if it was this, is retired
module _ (p : PartState) (descriptor : ℕ) where
  over_by : (d : ℕ) (o : Option Published) → p.published ≡ o
      → times d (runs.retired_if p.descriptors o descriptor).free + (times d (runs.retired_if p.descriptors o descriptor).limbo + times_published d (runs.kept_unless o descriptor)) ≡ times_with p d
  over_by d None is = ap (λ (o : Option Published). times d p.descriptors.free + (times d p.descriptors.limbo + times_published d o)) (sym is)
  over_by d (Some y) is = by_test (y.descriptor == descriptor) refl ∙ ap (λ (o : Option Published). times d p.descriptors.free + (times d p.descriptors.limbo + times_published d o)) (sym is)
    where
      same : (a b d : ℕ) → (a == b) ≡ true → cond (a == d) 1 0 ≡ cond (b == d) (1 + 0) 0
      same a b d e = grind (arith, nat_tests)

      by_test : (b : Bool) → (y.descriptor == descriptor) ≡ b
          → times d (cond b (lists.descriptor_retired p.descriptors descriptor) p.descriptors).free + (times d (cond b (lists.descriptor_retired p.descriptors descriptor) p.descriptors).limbo + times_published d (cond b None (Some y)))
          ≡ times d p.descriptors.free + (times d p.descriptors.limbo + times_published d (Some y))
      by_test true e = let add = times-append d p.descriptors.limbo (descriptor ∷ []) in let one = same y.descriptor descriptor d e in omega arith
      by_test false e = refl

  pub over_counts : (d : ℕ)
      → times d (runs.retired_if p.descriptors p.published descriptor).free + (times d (runs.retired_if p.descriptors p.published descriptor).limbo + times_published d (runs.kept_unless p.published descriptor)) ≡ times_with p d
  over_counts d = over_by d p.published refl
