-- The release with which a run is over is that of its section's own lock.
use Rattle.std.proofs.Common.{◌≡◌, ◌≢◌, ℕ, zero, suc, ◌+◌, List, [], ◌∷◌, ◌++◌, append_assoc, length, take, Bool, true, false, refl, sym, ap, subst, ◌∙◌, eq-eqb, ne_eqb, arith, Some}
use Rattle.std.specs.Prelude.{◌==◌, ◌&&◌, cond, slice_index_or}
use Rattle.std.specs.List.{list_all}
use Rattle.std.proofs.lemmas.Bool.{true≢false}
use Rattle.std.proofs.lemmas.List.Folds.{list_all-append}
use Rattle.machine_states.specs.map_history.specs.declared.op.Request.{Request}
use Rattle.machine_states.specs.body_terms.specs.declared.thunk.Thunk.{Thunk}
use Rattle.machine_states.specs.body_terms.specs.declared.micro.Micro.{Micro}
use Rattle.machine_states.specs.body_terms.specs.declared.micro.Micro.TheVariants as micros
use Rattle.machine_states.specs.body_terms.specs.Line.{Registers, no_registers, registers_after, micros as step_micros, line_from, is_end, is_event, line, micro_at, release_of, releases, ending}
use Rattle.machine_states.specs.body_terms.specs.declared.step.Step.{Step}
use Rattle.machine_states.specs.body_terms.specs.declared.step.Step.TheVariants.{Load, Want, Fresh, Take, Make, Stamp, Store, Retire, Answer}
use Rattle.machine_states.specs.table_words.specs.declared.layout.Layout.{Layout}
use Rattle.machine_states.specs.table_words.specs.declared.spot.Spot.{Spot}
use Rattle.machine_states.specs.table_words.specs.declared.access.Access.{Access}
use Rattle.machine_states.specs.table_words.specs.Limits.{IsWithinLimits}
use Rattle.machine_states.specs.structure_laws.specs.Meaning.{Meaning}
use Rattle.machine_states.specs.structure_laws.specs.Laws.{Laws}
use Rattle.machine_states.specs.runner_parts.specs.declared.event.EventKind.{EventKind}
use Rattle.machine_states.specs.runner_parts.specs.State.{RunState, PartState}
use Rattle.machine_states.specs.runner_steps.specs.Sections.{thunk_of, line_of, next_of}
use Rattle.machine_states.specs.runner_steps.specs.AfterInRun.{ended_more, place_of}
use Rattle.machine_states.specs.Sight.{Sight, sight, part_or_first}
use Rattle.machine_invariant.specs.machine_blocks.specs.machine_guards.specs.machine_agreement.specs.machine_epochs.specs.Slots.{thunk_in}
use Rattle.machine_invariant.specs.machine_blocks.specs.machine_guards.specs.machine_agreement.specs.machine_epochs.proofs.Places.{run_thunk}
use Rattle.machine_invariant.specs.Whole.{Beside, IsWhole}
use Rattle.machine_invariant.specs.After.{AreAllowed}
use Rattle.machine_invariant.proofs.Trails.{run_used}
use Rattle.machine_invariant.proofs.After.{reached_whole}
use Rattle.version_words.specs.ReachedWith.{ReachedBy}

-- what stands in the first part of a line stands there in the whole
taken_at : (ms : List Micro) (n i : ℕ) (x : Micro) → is_end x ≡ false → micro_at (take n ms) i ≡ x → micro_at ms i ≡ x
taken_at [] zero i x n e = e
taken_at [] (suc k) i x n e = e
taken_at (y ∷ ms) zero i x n e = absurd (true≢false (ap is_end e ∙ n))
taken_at (y ∷ ms) (suc k) zero x n e = e
taken_at (y ∷ ms) (suc k) (suc i) x n e = taken_at ms k i x n e

-- the last one of these releases is that of this lock, and no other one is
abbrev EndsWith : ℕ → List Micro → Type 0
EndsWith lock xs = (e place w : ℕ) → slice_index_or xs e micros.End ≡ micros.Release place w → is_end (slice_index_or xs (suc e) micros.End) ≡ place == lock

abbrev Begins : List Micro → Type 0
Begins xs = is_end (slice_index_or xs 0 micros.End) ≡ false

one_begins : (micro : Micro) (xs : List Micro) → Begins xs → Begins (release_of micro ++ xs)
one_begins (micros.CheckHeld p k v) xs h = refl
one_begins _ xs h = h

one_ends : (micro : Micro) (lock : ℕ) (xs : List Micro) → ((p k w : ℕ) → micro ≡ micros.CheckHeld p k w → p ≢ lock) → Begins xs → EndsWith lock xs → EndsWith lock (release_of micro ++ xs)
one_ends (micros.CheckHeld p k v) lock xs apart begins ends zero place w e = begins ∙ sym (ne_eqb place lock (λ same. apart p k v refl (ap place_of e ∙ same)))
one_ends (micros.CheckHeld p k v) lock xs apart begins ends (suc n) place w e = ends n place w e
one_ends _ lock xs apart begins ends n place w e = ends n place w e

-- the releases of a section's end: those of the nested locks that it took, and of its own lock
abbrev releases_to : List Micro → ℕ → ℕ → List Micro
releases_to ms lock word = releases ms ++ micros.Release lock word ∷ []

begin_so : (ms : List Micro) (lock word : ℕ) → Begins (releases_to ms lock word)
begin_so [] lock word = refl
begin_so (micro ∷ ms) lock word = subst Begins (sym (append_assoc (release_of micro) (releases ms) (micros.Release lock word ∷ []))) (one_begins micro (releases_to ms lock word) (begin_so ms lock word))

-- no lock that these steps found to be held is this one
abbrev Apart : ℕ → List Micro → Type 0
Apart lock ms = (i p k w : ℕ) → micro_at ms i ≡ micros.CheckHeld p k w → p ≢ lock

end_so : (ms : List Micro) (lock word : ℕ) → Apart lock ms → EndsWith lock (releases_to ms lock word)
end_so [] lock word apart zero place w e = sym (eq-eqb place lock (sym (ap place_of e)))
end_so [] lock word apart (suc n) place w e = absurd (true≢false (ap is_end e))
end_so (micro ∷ ms) lock word apart n place w e = subst (EndsWith lock) (sym (append_assoc (release_of micro) (releases ms) (micros.Release lock word ∷ [])))
    (one_ends micro lock (releases_to ms lock word) (λ p k v h. apart 0 p k v h) (begin_so ms lock word) (end_so ms lock word (λ i p k v h. apart (suc i) p k v h))) n place w e

abbrev is_done : Micro → Bool
is_done micros.SetDone = true
is_done _ = false

ending_so : (ms : List Micro) (at lock word : ℕ) → Apart lock (take at ms) → EndsWith lock (ending ms at lock word)
ending_so ms at lock word apart zero place w e = absurd (true≢false (ap is_done e))
ending_so ms at lock word apart (suc n) place w e = end_so (take at ms) lock word apart n place w e

next_so : (b : Bool) (here : Micro) (xs : List Micro) (e j place w lock : ℕ) → (here ≡ micros.Release place w → ⊥) → j ≡ suc e → EndsWith lock xs → cond b here (slice_index_or xs e micros.End) ≡ micros.Release place w
    → is_end (cond b here (slice_index_or xs j micros.End)) ≡ place == lock
next_so true here xs e j place w lock other next ends is = absurd (other is)
next_so false here xs e j place w lock other next ends is = ap (λ n. is_end (slice_index_or xs n micros.End)) next ∙ ends e place w is

-- no release stands in a body's line
abbrev is_other : Micro → Bool
is_other (micros.Release place word) = false
is_other _ = true

of_step : (g : Registers) (step : Step) → list_all is_other (step_micros g step) ≡ true
of_step g (Load place into) = refl
of_step g (Want reg word) = refl
of_step g (Fresh reg) = refl
of_step g (Take place word) = refl
of_step g (Make init into) = refl
of_step g Stamp = refl
of_step g (Store reg value) = refl
of_step g (Retire slot) = refl
of_step g (Answer reply) = refl

both : (a b : Bool) → a ≡ true → b ≡ true → a && b ≡ true
both true b e e' = e'
both false b e e' = absurd (true≢false (sym e))

of_steps : (g : Registers) (steps : List Step) → list_all is_other (line_from g steps) ≡ true
of_steps g [] = refl
of_steps g (step ∷ steps) = list_all-append is_other (step_micros g step) (line_from (registers_after g step) steps)
    ∙ both (list_all is_other (step_micros g step)) (list_all is_other (line_from (registers_after g step) steps)) (of_step g step) (of_steps (registers_after g step) steps)

other_at : (ms : List Micro) → list_all is_other ms ≡ true → (i : ℕ) → is_other (micro_at ms i) ≡ true
other_at [] e i = refl
other_at (x ∷ ms) e zero = first_true (is_other x) (list_all is_other ms) e
  where
    first_true : (a b : Bool) → a && b ≡ true → a ≡ true
    first_true true b e = refl
    first_true false b e = absurd (true≢false (sym e))
other_at (x ∷ ms) e (suc i) = other_at ms (rest_true (is_other x) (list_all is_other ms) e) i
  where
    rest_true : (a b : Bool) → a && b ≡ true → b ≡ true
    rest_true true b e = e
    rest_true false b e = absurd (true≢false (sym e))

-- of a run that has loaded its opening, in a state that meets the whole invariant
module _ (m : Meaning) (l : Layout) (g : Beside) (s : Sight) (whole : IsWhole m l g s) (r : ℕ) (q : RunState) (at : (s.part r).run ≡ Some q) (loaded : length q.opened ≡ 13) where
  used : g.agreement.used q.descriptor ≡ true
  used = run_used m l g.agreement s whole.sections r q at

  thunk : thunk_in s.word q.descriptor ≡ thunk_of q.opened
  thunk = run_thunk m l g.epochs s whole.slots r q at loaded

  code_is : (i : ℕ) → (g.agreement.section q.descriptor).code i ≡ micro_at (line_of m q) i
  code_is i = (whole.sections.thunks q.descriptor used).code i ∙ ap (λ (t : Thunk). micro_at (line (m.body t)) i) thunk

  lock_is : (g.agreement.section q.descriptor).lock ≡ (thunk_of q.opened).lock
  lock_is = (whole.sections.thunks q.descriptor used).lock ∙ ap (λ (t : Thunk). t.lock) thunk

  -- the nested locks aren't the section's own
  nested_apart : (i p k w : ℕ) → micro_at (line_of m q) i ≡ micros.CheckHeld p k w → p ≢ (thunk_of q.opened).lock
  nested_apart i p k w e same =
      let line = (whole.sections.sound.sections q.descriptor used).published.line in
      let held = line.ordered.held_before i p k w (code_is i ∙ e) in
      let free = line.ordered.hold_before held.0 p w held.2 in
      let commit = line.ordered.free_before free.0 p free.1 w free.3 in
      let load = line.ordered.nested_before commit.0 p free.1 commit.2 in
      line.placed.take_inner load.0 p free.1 load.2 (same ∙ sym lock_is)

  unreleased : (i place w : ℕ) → micro_at (line_of m q) i ≡ micros.Release place w → ⊥
  unreleased i place w e = true≢false (sym (other_at (line_of m q) (of_steps no_registers (m.body (thunk_of q.opened))) i) ∙ ap is_other e)

  last_in : (place w : ℕ) → next_of m q ≡ micros.Release place w → is_end (next_of m (ended_more q)) ≡ place == (thunk_of q.opened).lock
  last_in place w e =
      let t = thunk_of q.opened in
      next_so (is_event (micro_at (line_of m q) q.at)) (micro_at (line_of m q) q.at) (ending (line_of m q) q.at t.lock t.word) q.ended (q.ended + 1) place w t.lock
      (unreleased q.at place w) (omega arith)
      (ending_so (line_of m q) q.at t.lock t.word (λ i p k v h. nested_apart i p k v (taken_at (line_of m q) q.at i (micros.CheckHeld p k v) refl h))) e

-- and so of a run in a state that the machine reaches
pub last_release : (m : Meaning) → Laws m → (l : Layout) (rs : List Request) (r : ℕ) (kind : EventKind) (old new : PartState) (met : Spot × Access) (found : ℕ) → IsWithinLimits l → AreAllowed rs
    → ReachedBy m l rs r kind old new met found → (q : RunState) → old.run ≡ Some q → length q.opened ≡ 13 → (place w : ℕ) → next_of m q ≡ micros.Release place w
    → is_end (next_of m (ended_more q)) ≡ place == (thunk_of q.opened).lock
last_release m laws l rs r kind old new met found limits allowed shown q run loaded place w next =
    let stands = reached_whole m laws l rs shown.was_reached.events shown.before limits allowed shown.was_reached.after in
    let here : ((sight m l rs shown.before).part r).run ≡ Some q = ap (λ (p : PartState). p.run) (ap part_or_first shown.was_own) ∙ run in
    last_in m l stands.0 (sight m l rs shown.before) stands.1 r q here loaded place w next
