-- How a Make goes on in its line, and what other steps have to do with it.
use Rattle.std.specs.Prelude.{◌⊎◌, ◌*◌, ◌&&◌, cond, slice_index_or, Bool, true, false, is_none}
use Rattle.std.proofs.Common.{◌≡◌, ℕ, zero, suc, ◌+◌, ◌<◌, ◌≤◌, List, inl, inr, ⊎_elim, sym, refl, ap, ◌∙◌, subst, arith, add-one, Some, None}
use Rattle.std.proofs.lemmas.Bool.{cases_lt}
use Rattle.machine_states.specs.body_terms.specs.declared.micro.Micro.{Micro}
use Rattle.machine_states.specs.body_terms.specs.declared.micro.Micro.TheVariants as micros
use Rattle.machine_states.specs.body_terms.specs.declared.micro.Source.{Source}
use Rattle.machine_states.specs.body_terms.specs.declared.step.Step.{Step}
use Rattle.machine_states.specs.body_terms.specs.Line.{is_check, is_commit, is_event, line, micro_at, registers_before, ending, committed}
use Rattle.machine_states.specs.body_terms.specs.Run.{Setting, settled, leaves}
use Rattle.agreement_core.specs.section_lines.proofs.Sources.{part_there, of_make}
use Rattle.machine_states.specs.body_terms.specs.Shape.{IsShaped}
use Rattle.agreement_core.specs.section_lines.proofs.Ordered.{fills, fill_of, few_loads, is_ordered}
use Rattle.agreement_core.specs.section_lines.proofs.Counted.{is_counted}
use Rattle.machine_states.specs.table_words.specs.declared.layout.Layout.{Layout}
use Rattle.machine_states.specs.table_words.specs.declared.spot.Spot.{Spot}
use Rattle.machine_states.specs.table_words.specs.declared.access.Access.{Access}
use Rattle.machine_states.specs.structure_laws.specs.Meaning.{Meaning}
use Rattle.machine_states.specs.runner_parts.specs.declared.event.EventKind.{EventKind}
use Rattle.machine_states.specs.runner_parts.specs.declared.event.EventKind.TheVariants as kinds
use Rattle.machine_states.specs.runner_parts.specs.State.{RunState}
use Rattle.machine_states.specs.runner_steps.specs.Sections.{thunk_of, line_of, next_of}
use Rattle.machine_states.specs.runner_steps.specs.Asks.{line_ask}
use Rattle.machine_states.proofs.Sights.{some_none}
use Rattle.machine_invariant.specs.machine_blocks.specs.machine_guards.specs.machine_agreement.proofs.Passes.{settled_here}
use Rattle.next_steps.specs.Rooms.{filling}

-- behind a private store comes the load of the next cell, or the commit
pub store_next : (body : List Step) (i c k : ℕ) (v : Source) → micro_at (line body) i ≡ micros.PrivateStore c k v
    → (micro_at (line body) (suc i) ≡ micros.PrivateLoad (suc c) k) ⊎ (micro_at (line body) (suc i) ≡ micros.MakeCommit k)
store_next body i c k v e =
    let s = of_make body i (micros.PrivateStore c k v) e refl in let f = s.2.from in let g = registers_before body f.n in
    let within = f.within in
    let same : micros.PrivateStore c k v ≡ micros.PrivateStore c g.count (fill_of g s.0 c) = s.2.same ∙ (fills g s.0 s.1 c (omega arith)).store in
    let count : k ≡ g.count = cc in
    ⊎_elim
    (λ low. inl (part_there body f (suc i) (2 * suc c) (let place = f.place in omega arith) (omega arith)
    ∙ ((fills g s.0 s.1 (suc c) low).load ∙ ap (λ n. micros.PrivateLoad (suc c) n) (sym count))))
    (λ high. inr (part_there body f (suc i) 10 (let place = f.place in omega arith) (omega arith) ∙ ap (λ n. micros.MakeCommit n) (sym count)))
    (cases_lt (suc c) 5)

-- a run rests right behind a step behind which no check stands
pub rests_behind : (setting : Setting) (trail : List ℕ) (ms : List Micro) (at : ℕ) (micro : Micro) → micro_at ms (suc at) ≡ micro
    → is_check micro ≡ false → micro_at ms (settled setting trail ms (at + 1)) ≡ micro
rests_behind setting trail ms at micro next no_check =
    let is : micro_at ms (at + 1) ≡ micro = ap (micro_at ms) (add-one at) ∙ next in
    ap (micro_at ms) (settled_here setting trail ms (at + 1)
    (ap (λ b. b && is_none (leaves setting trail (micro_at ms (at + 1)))) (ap is_check is ∙ no_check))) ∙ is

-- the kinds of a Make's steps, and of those that may come before its commit
abbrev pub fills_slot : EventKind → Bool
fills_slot (kinds.PrivateLoad slot word) = true
fills_slot (kinds.PrivateStore slot word number) = true
fills_slot (kinds.LinkCommit b) = true
fills_slot kinds.MakeCommit = true
fills_slot _ = false

check_fills_none : (micro : Micro) → is_event micro ≡ false → filling micro ≡ None
check_fills_none (micros.PrivateLoad c k) e = absurd (let z = e in cc)
check_fills_none (micros.PrivateStore c k v) e = absurd (let z = e in cc)
check_fills_none (micros.MakeCommit k) e = absurd (let z = e in cc)
check_fills_none _ e = refl

-- where an event of another kind is enabled, the run is in no Make
module _ (m : Meaning) (l : Layout) (q : RunState) (x : Spot × Access) (free blocks : List ℕ) where
  none_load : {A : Type 0} (kind : EventKind) (c k : ℕ) → fills_slot kind ≡ false → line_ask m l kind free blocks q (micros.PrivateLoad c k) ≡ Some x → A
  none_load (kinds.PrivateLoad slot word) c k h e = absurd (let z = h in cc)
  none_load (kinds.LinkCommit b) c k h e = absurd (let z = h in cc)
  none_load (kinds.LoadCell None) c k h e = some_none x e
  none_load _ c k h e = some_none x e

  none_store : {A : Type 0} (kind : EventKind) (c k : ℕ) (v : Source) → fills_slot kind ≡ false
      → line_ask m l kind free blocks q (micros.PrivateStore c k v) ≡ Some x → A
  none_store (kinds.PrivateStore slot word number) c k v h e = absurd (let z = h in cc)
  none_store (kinds.LinkCommit b) c k v h e = absurd (let z = h in cc)
  none_store (kinds.LoadCell None) c k v h e = some_none x e
  none_store _ c k v h e = some_none x e

  none_commit : {A : Type 0} (kind : EventKind) (k : ℕ) → fills_slot kind ≡ false → line_ask m l kind free blocks q (micros.MakeCommit k) ≡ Some x → A
  none_commit kinds.MakeCommit k h e = absurd (let z = h in cc)
  none_commit (kinds.PrivateStore slot word number) k h e = absurd (let z = h in cc)
  none_commit (kinds.LinkCommit b) k h e = absurd (let z = h in cc)
  none_commit (kinds.LoadCell None) k h e = some_none x e
  none_commit _ k h e = some_none x e

  other_none : (kind : EventKind) (micro : Micro) → fills_slot kind ≡ false → line_ask m l kind free blocks q micro ≡ Some x → filling micro ≡ None
  other_none kind (micros.PrivateLoad c k) h e = none_load kind c k h e
  other_none kind (micros.PrivateStore c k v) h e = none_store kind c k v h e
  other_none kind (micros.MakeCommit k) h e = none_commit kind k h e
  other_none kind _ h e = refl

  pub in_no_make : (kind : EventKind) → fills_slot kind ≡ false → line_ask m l kind free blocks q (next_of m q) ≡ Some x
      → filling (micro_at (line_of m q) q.at) ≡ None
  in_no_make kind h e = by (is_event (micro_at (line_of m q) q.at)) refl
    where
      by : (b : Bool) → is_event (micro_at (line_of m q) q.at) ≡ b → filling (micro_at (line_of m q) q.at) ≡ None
      by false is = check_fills_none _ is
      by true is = other_none kind (micro_at (line_of m q) q.at) h
          (subst (λ (micro : Micro). line_ask m l kind free blocks q micro ≡ Some x) (here is) e)
        where
          here : is_event (micro_at (line_of m q) q.at) ≡ true → next_of m q ≡ micro_at (line_of m q) q.at
          here is = ap (λ b. cond b (micro_at (line_of m q) q.at)
              (slice_index_or (ending (line_of m q) q.at (thunk_of q.opened).lock (thunk_of q.opened).word) q.ended micros.End)) is

-- a Make's private loads and its commit have the number of the words committed before it as their place in the log
module _ (body : List Step) (shaped : IsShaped body) where
  pub low_cell : (i c k : ℕ) → micro_at (line body) i ≡ micros.PrivateLoad c k → c < 5
  low_cell i c k e = let o = of_make body i (micros.PrivateLoad c k) e refl in
      few_loads (registers_before body o.2.from.n) o.0 o.1 c k o.2.from.within o.2.same

  pub fill_log : (fuel i c k : ℕ) → 5 ≤ c + fuel → micro_at (line body) i ≡ micros.PrivateLoad c k → k ≡ committed (line body) i
  fill_log zero i c k enough e = absurd (let low = low_cell i c k e in omega arith)
  fill_log (suc n) i c k enough e =
      let counted = is_counted body shaped.short in
      let store = (is_ordered body).fill_next i c k e in
      let one = counted.slot_same i (ap is_commit e) in
      let two = counted.slot_same (suc i) (ap is_commit store.1) in
      ⊎_elim
      (λ load. let rest = fill_log n (suc (suc i)) (suc c) k (omega arith) load in omega arith)
      (λ commit. let last = counted.make_log (suc (suc i)) k commit in omega arith)
      (store_next body (suc i) c k store.0 store.1)
