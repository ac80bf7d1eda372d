-- Which locks a run releases at its end, and how many exchanges that end has.
use Rattle.std.specs.Prelude.{◌⊎◌, slice_index_or, true, false}
use Rattle.std.proofs.Common.{◌≡◌, ℕ, zero, suc, ◌<◌, ◌≤◌, List, [], ◌∷◌, length, take, inl, inr, ⊎_elim, sym, refl, ap, ◌∙◌, subst, arith, Some}
use Rattle.machine_states.specs.map_history.specs.declared.op.Request.{Request}
use Rattle.machine_states.specs.body_terms.specs.declared.micro.Micro.{Micro}
use Rattle.machine_states.specs.body_terms.specs.declared.micro.Micro.TheVariants as micros
use Rattle.machine_states.specs.body_terms.specs.declared.thunk.Thunk.{Thunk}
use Rattle.machine_states.specs.body_terms.specs.Line.{is_check, line, micro_at, releases, ending}
use Rattle.machine_states.specs.body_terms.specs.Word.{is_free, is_spent}
use Rattle.agreement_core.specs.section_lines.proofs.Sources.{of_take}
use Rattle.agreement_core.specs.section_lines.proofs.Ordered.{is_ordered}
use Rattle.machine_states.specs.table_words.specs.declared.layout.Layout.{Layout}
use Rattle.machine_states.specs.structure_laws.specs.Scene.{Readings}
use Rattle.machine_states.specs.structure_laws.specs.Meaning.{Meaning}
use Rattle.machine_states.specs.structure_laws.specs.Shape.{Shaped}
use Rattle.machine_states.specs.runner_parts.specs.State.{RunState}
use Rattle.machine_states.specs.runner_steps.specs.Sections.{thunk_of, is_open_run, line_of, next_of}
use Rattle.machine_states.specs.Sight.{Sight}
use Rattle.machine_invariant.specs.machine_blocks.specs.machine_guards.specs.machine_agreement.proofs.RunPlaces.{of_thunk}
use Rattle.machine_invariant.specs.machine_blocks.specs.machine_guards.specs.machine_agreement.proofs.Ends.{at_end}
use Rattle.machine_invariant.specs.machine_blocks.specs.machine_guards.specs.machine_agreement.proofs.Endings.{TakesIn, release_taken}
use Rattle.machine_invariant.specs.Whole.{Beside, IsWhole}
use Rattle.next_steps.proofs.Runs.{section_sound, shaped}

-- a step below a place of a line stands in the line
taken_at : (ms : List Micro) (n i : ℕ) → i < length (take n ms) → micro_at (take n ms) i ≡ micro_at ms i
taken_at [] zero i low = refl
taken_at [] (suc n) i low = refl
taken_at (x ∷ ms) zero i low = absurd (omega arith)
taken_at (x ∷ ms) (suc n) zero low = refl
taken_at (x ∷ ms) (suc n) (suc i) low = taken_at ms n i (omega arith)

-- this lock with this free word: the section's outer one, or one that its line tries to take
abbrev pub IsLockWith : Meaning → Thunk → ℕ → ℕ → Type 0
IsLockWith m t p w = ((p ≡ t.lock) × (w ≡ t.word)) ⊎ ((i : ℕ) × (micro_at (line (m.body t)) i ≡ micros.NestedHold p w))

module _ (m : Meaning) (l : Layout) (rs : List Request) (g : Beside) (s : Sight) (whole : IsWhole m l g s) (r : ℕ) (q : RunState)
    (is : (s.part r).run ≡ Some q) (opened : is_open_run q ≡ true) where
  abbrev t : Thunk
  t = thunk_of q.opened

  behind : (p w : ℕ) → (n : ℕ) → slice_index_or (ending (line_of m q) q.at t.lock t.word) n micros.End ≡ micros.Release p w
      → TakesIn (take q.at (line_of m q)) t.lock t.word p w
  behind p w zero e = absurd (let z : micros.SetDone ≡ micros.Release p w = e in cc)
  behind p w (suc n) e = release_taken (take q.at (line_of m q)) t.lock t.word p w n e

  -- what a run releases is a lock of its section
  pub released_lock : (p w : ℕ) → next_of m q ≡ micros.Release p w → IsLockWith m t p w
  released_lock p w next =
      let place = at_end m l rs g.agreement s whole.sections r q is opened (micros.Release p w) (omega arith) next in
      ⊎_elim (λ outer. inl outer)
      (λ nested. let here : micro_at (line_of m q) nested.0 ≡ micros.CheckHeld p nested.1 w = sym (taken_at (line_of m q) q.at nested.0 nested.2) ∙ nested.3 in
      let held = (is_ordered (m.body t)).held_before nested.0 p nested.1 w here in inr (held.0, held.2))
      (behind p w q.ended place.1)

-- a line that begins with no check has fewer releases than steps
few_releases : (ms : List Micro) → length (releases ms) ≤ length ms
few_releases [] = omega arith
few_releases (micros.CheckHeld p k w ∷ ms) = let rest = few_releases ms in omega arith
few_releases (micro ∷ ms) = let rest = few_releases ms in omega arith

pub fewer_releases : (ms : List Micro) → is_check (micro_at ms 0) ≡ false → 0 < length ms → length (releases ms) < length ms
fewer_releases [] start some = absurd (omega arith)
fewer_releases (micros.CheckHeld p k w ∷ ms) start some = absurd (let z = start in cc)
fewer_releases (micro ∷ ms) start some = let rest = few_releases ms in omega arith

-- a Take's lock is a lock, with a free word that leaves room for two versions
pub taken_lock : (m : Meaning) (l : Layout) (readings : Readings) (t : Thunk) → Shaped m l readings t → (i p w : ℕ)
    → micro_at (line (m.body t)) i ≡ micros.NestedHold p w
    → (m.is_lock p ≡ true) × (is_free w ≡ true) × (is_spent l.version_max w ≡ false)
taken_lock m l readings t shaped i p w e =
    let o = of_take (m.body t) i (micros.NestedHold p w) e refl in
    let place : p ≡ o.0 = let s = o.2.same in cc in
    let word : w ≡ o.1 = let s = o.2.same in cc in (
      subst (λ a. m.is_lock a ≡ true) (sym place) (shaped.take_lock o.2.from.n o.0 o.1 o.2.from.here),
      subst (λ a. is_free a ≡ true) (sym word) (shaped.take_free o.2.from.n o.0 o.1 o.2.from.here),
      subst (λ a. is_spent l.version_max a ≡ false) (sym word) (shaped.take_unspent o.2.from.n o.0 o.1 o.2.from.here),
    )

-- so is every lock of a run's section
pub section_lock : (m : Meaning) (l : Layout) (g : Beside) (s : Sight) (whole : IsWhole m l g s) (r : ℕ) (q : RunState)
    → (s.part r).run ≡ Some q → length q.opened ≡ 13 → (p w : ℕ) → IsLockWith m (thunk_of q.opened) p w
    → (m.is_lock p ≡ true) × (is_free w ≡ true) × (is_spent l.version_max w ≡ false)
section_lock m l g s whole r q is all p w lock =
    let sound = (section_sound m l g s whole r q is).published in
    let of = of_thunk m l g.agreement s whole.sections r q is all in
    let shape = shaped m l g s whole r q is all in
    ⊎_elim
    (λ outer. (
      subst (λ a. m.is_lock a ≡ true) (sym outer.0) shape.outer_lock,
      subst (λ a. is_free a ≡ true) (sym outer.1) (ap is_free (sym of.word) ∙ sound.free),
      subst (λ a. is_spent l.version_max a ≡ false) (sym outer.1) (ap (is_spent l.version_max) (sym of.word) ∙ sound.unspent),
    ))
    (λ nested. taken_lock m l (g.publications.readings q.descriptor) (thunk_of q.opened) shape nested.0 p w nested.1) lock
