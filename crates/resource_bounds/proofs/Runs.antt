-- A run raises a place's version four times at most, with its section's publication.
use Rattle.std.specs.Prelude.{Bool, true, false}
use Rattle.std.proofs.Common.{◌≡◌, ℕ, ◌≤◌, length, refl, sym, ap, ◌∙◌, arith, Some}
use Rattle.std.proofs.lemmas.Bool.{both_ways}
use Rattle.machine_states.specs.body_terms.specs.Line.{micro_at, no_registers}
use Rattle.machine_states.specs.body_terms.specs.declared.micro.Micro.{Micro}
use Rattle.machine_states.specs.body_terms.specs.declared.micro.Micro.TheVariants.{NestedHold}
use Rattle.agreement_core.specs.section_lines.specs.Line.{IsLine}
use Rattle.machine_states.specs.table_words.specs.declared.layout.Layout.{Layout}
use Rattle.machine_states.specs.structure_laws.specs.Meaning.{Meaning}
use Rattle.machine_states.specs.runner_parts.specs.State.{RunState}
use Rattle.machine_states.specs.runner_steps.specs.Sections.{thunk_of, line_of}
use Rattle.agreement_core.specs.State.{Section}
use Rattle.agreement_core.proofs.Lines.{hold_lock, hold_inner, hold_once, exchange_unlocked}
use Rattle.machine_states.specs.Sight.{Sight}
use Rattle.machine_scenes.specs.Shown.{rules_of}
use Rattle.reached_histories.specs.machine_facts.specs.machine_agreement.proofs.RunPlaces.{used_here, code_here, of_thunk}
use Rattle.reached_histories.specs.machine_facts.specs.machine_invariant.specs.Whole.{Beside, IsWhole}
use Rattle.next_steps.proofs.Runs.{shaped}
use Rattle.resource_bounds.proofs.Weights.{takes_one, stores_one, fills_one, weight, total, spent, spent_all, nought, never, once, takes_few, stores_few, takes_it, stores_it, total_parts, few_fills}

module _ (m : Meaning) (l : Layout) (g : Beside) (s : Sight) (whole : IsWhole m l g s) (r : ℕ) (q : RunState) (is : (s.part r).run ≡ Some q)
    (all : length q.opened ≡ 13) (p index : ℕ) where
  abbrev x : Section
  x = g.agreement.section q.descriptor

  in_line : IsLine m.is_lock l.version_max x.lock x.code x.slot
  in_line = (whole.sections.sound.sections q.descriptor (used_here m l g.agreement s whole.sections r q is)).published.line

  code : (i : ℕ) → x.code i ≡ micro_at (line_of m q) i
  code i = code_here m l g.agreement s whole.sections r q is all i

  lock : x.lock ≡ (thunk_of q.opened).lock
  lock = (of_thunk m l g.agreement s whole.sections r q is all).lock

  takes_at : (i : ℕ) → takes_one p (micro_at (line_of m q) i) ≡ 1 → (word : ℕ) × (x.code i ≡ NestedHold p word)
  takes_at i e = let t = takes_it p (micro_at (line_of m q) i) e in (t.0, code i ∙ t.1)

  none : (f : Micro → ℕ) → ((y : Micro) → f y ≤ 1) → ((i : ℕ) → f (micro_at (line_of m q) i) ≡ 1 → ⊥) → total f (line_of m q) ≡ 0
  none f few h = never f (line_of m q) (λ i. nought (f (micro_at (line_of m q) i)) (few (micro_at (line_of m q) i)) (h i))

  -- each lock is taken once, each cell stored to once, and each slot filled twice
  takes_once : total (takes_one p) (line_of m q) ≤ 1
  takes_once = once (takes_one p) (takes_few p) (line_of m q)
      (λ i j one two. let a = takes_at i one in let b = takes_at j two in
      hold_once (rules_of m l) x.lock x.code x.slot in_line i j p a.0 b.0 a.1 b.1)

  stores_once : total (stores_one p) (line_of m q) ≤ 1
  stores_once = once (stores_one p) (stores_few p) (line_of m q)
      (λ i j one two. let a = stores_it p (micro_at (line_of m q) i) one in let b = stores_it p (micro_at (line_of m q) j) two in
      in_line.placed.store_once i j p a.0 b.0 a.1 b.1 (code i ∙ a.2) (code j ∙ b.2))

  fills_twice : total (fills_one index) (line_of m q) ≤ 2
  fills_twice = let few = few_fills index no_registers (m.body (thunk_of q.opened)) in
      let makes = (shaped m l g s whole r q is all).shape.makes in omega (arith, few, makes)

  -- a lock isn't stored to, a cell isn't taken, and the outer lock is neither
  unstored : m.is_lock p ≡ true → total (stores_one p) (line_of m q) ≡ 0
  unstored is_lock = none (stores_one p) (stores_few p)
      (λ i one. let a = stores_it p (micro_at (line_of m q) i) one in
      absurd (both_ways (m.is_lock p) (exchange_unlocked (rules_of m l) x.lock x.code x.slot in_line i p a.0 a.1 (code i ∙ a.2)) is_lock))

  untaken : m.is_lock p ≡ false → total (takes_one p) (line_of m q) ≡ 0
  untaken no_lock = none (takes_one p) (takes_few p)
      (λ i one. let a = takes_at i one in absurd (both_ways (m.is_lock p) no_lock (hold_lock (rules_of m l) x.lock x.code x.slot in_line i p a.0 a.1)))

  inner : (thunk_of q.opened).lock ≡ p → total (takes_one p) (line_of m q) ≡ 0
  inner outer = none (takes_one p) (takes_few p)
      (λ i one. let a = takes_at i one in hold_inner (rules_of m l) x.lock x.code x.slot in_line i p a.0 a.1 (sym (lock ∙ outer)))

  pub run_most : spent (weight p index) q.at (line_of m q) ≤ 4
  run_most = by (m.is_lock p) refl
    where
      by : (b : Bool) → m.is_lock p ≡ b → spent (weight p index) q.at (line_of m q) ≤ 4
      by true e = let all = spent_all (weight p index) q.at (line_of m q) in let parts = total_parts p index (line_of m q) in
          let takes = takes_once in let stores = unstored e in let fills = fills_twice in omega (arith, all, parts, takes, stores, fills)
      by false e = let all = spent_all (weight p index) q.at (line_of m q) in let parts = total_parts p index (line_of m q) in
          let takes = untaken e in let stores = stores_once in let fills = fills_twice in omega (arith, all, parts, takes, stores, fills)

  -- the publication raises the outer lock, and the run doesn't take it
  pub outer_most : (thunk_of q.opened).lock ≡ p → spent (weight p index) q.at (line_of m q) ≤ 2
  outer_most outer = let all = spent_all (weight p index) q.at (line_of m q) in let parts = total_parts p index (line_of m q) in
      let takes = inner outer in let stores = unstored (ap m.is_lock (sym (lock ∙ outer)) ∙ in_line.placed.outer_lock) in let fills = fills_twice in
      omega (arith, all, parts, takes, stores, fills)
