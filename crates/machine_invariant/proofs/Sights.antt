-- What a step leaves of the sight.
use Rattle.std.specs.Prelude.{true, false}
use Rattle.std.proofs.Common.{◌≡◌, ℕ, refl, sym, ap, ◌∙◌, subst, Some, None}
use Rattle.machine_states.specs.table_words.specs.declared.layout.Layout.{Layout}
use Rattle.machine_states.specs.table_words.specs.declared.spot.Spot.{Spot}
use Rattle.machine_states.specs.table_words.specs.declared.access.Access.{Access}
use Rattle.machine_states.specs.table_words.specs.Access.{written}
use Rattle.machine_states.specs.table_words.specs.Seen.{upd, put}
use Rattle.machine_states.specs.structure_laws.specs.Meaning.{Meaning}
use Rattle.machine_states.specs.runner_parts.specs.declared.event.EventKind.{EventKind}
use Rattle.machine_states.specs.runner_parts.specs.declared.event.EventKind.TheVariants as kinds
use Rattle.machine_states.specs.runner_parts.specs.State.{RunState, PartState}
use Rattle.machine_states.specs.runner_steps.specs.After.{leaves, knows_also}
use Rattle.machine_states.specs.runner_steps.specs.After.{inside_after, after_by, after}
use Rattle.machine_states.specs.World.{is_join}
use Rattle.machine_states.specs.Sight.{Sight, sight_after}
use Rattle.machine_states.proofs.Updates.{upd_split}
use Rattle.machine_blocks.specs.machine_guards.specs.machine_agreement.specs.machine_epochs.specs.Slots.{thunk_in}
use Rattle.machine_blocks.specs.machine_guards.specs.machine_agreement.specs.machine_epochs.proofs.Joining.{thunk_same}
use Rattle.machine_invariant.specs.Whole.{HasPublished, made_in, made_of}
use Rattle.machine_invariant.proofs.Parts.{IsSamePart, is_making, is_release, inside_same, inside_made, is_other, outside_same, outside_made, noted_same}
use Rattle.machine_invariant.proofs.Quiet.{StayRead, IsQuiet}
use Rattle.machine_invariant.proofs.Thunks.{LeavesThunks}
use Rattle.machine_states.specs.body_terms.specs.declared.thunk.Thunk.{Thunk}

module _ (m : Meaning) (l : Layout) (s : Sight) (r : ℕ) where
  abbrev p : PartState
  p = s.part r

  -- only the stepping runner's part is new
  pub after_is : (kind : EventKind) (x : Spot × Access) → is_join kind ≡ false
      → sight_after m l s r kind x ≡ record {
        word = put s.word x.0 (written x.1 (s.word x.0));
        part = upd s.part r (after m l r kind x.0 x.1 p (s.word x.0));
      }
  after_is (kinds.Join worker) x e = absurd (cc)
  after_is _ x e = refl

  -- a part that has read what it had, and has to retire what it had to retire
  pub one_stays : (word' : Spot → ℕ) (p' : PartState) → IsSamePart m l p p' → StayRead m l s (record { word = word'; part = upd s.part r p' })
  one_stays word' p' same = record {
    walk = upd_split s.part r p' (λ i y. y.reads.walk ≡ (s.part i).reads.walk) same.walk (λ i ne. refl);
    published = upd_split s.part r p' (λ i y. (d : ℕ) (t : Thunk) → HasPublished m l (s.part i) d t → HasPublished m l y d t) same.published
        (λ i ne d t h. h);
  }

  -- a part that is as before for the whole invariant
  one_quiet : (word' : Spot → ℕ) (p' : PartState) → IsSamePart m l p p' → ((q : RunState) → p'.run ≡ Some q → q.made ≡ made_in p.run)
      → IsQuiet m l s (record { word = word'; part = upd s.part r p' })
  one_quiet word' p' same made = record {
    stay = one_stays word' p' same;
    made = upd_split s.part r p' (λ i y. (q : RunState) → y.run ≡ Some q → q.made ≡ made_of s i) made (λ i ne q is. ap made_in (sym is));
  }

  pub quiet_after : (kind : EventKind) (x : Spot × Access) → is_join kind ≡ false
      → IsSamePart m l p (after_by m l kind p p.run (s.word x.0))
      → ((q : RunState) → (after_by m l kind p p.run (s.word x.0)).run ≡ Some q → q.made ≡ made_in p.run)
      → IsQuiet m l s (sight_after m l s r kind x)
  quiet_after kind x j same made = subst (IsQuiet m l s) (sym (after_is kind x j))
      (one_quiet _ (after m l r kind x.0 x.1 p (s.word x.0)) (noted_same m l r kind x.0 x.1 p (s.word x.0) same) made)

  -- a step in a run that takes and commits no slot for a Make, and leaves the part as it was for the whole invariant
  pub by_part : (kind : EventKind) (x : Spot × Access) (q : RunState) → p.run ≡ Some q → is_join kind ≡ false → is_making kind ≡ false
      → IsSamePart m l p (inside_after m l kind p q (s.word x.0)) → IsQuiet m l s (sight_after m l s r kind x)
  by_part kind x q is j other same = quiet_after kind x j
      (subst (λ o. IsSamePart m l p (after_by m l kind p o (s.word x.0))) (sym is) same)
      (λ q' e. (inside_made m l p q is (s.word x.0) kind other).same q' (ap (λ o. (after_by m l kind p o (s.word x.0)).run) (sym is) ∙ e)
      ∙ ap made_in (sym is))

  -- so does each of them that is no release
  pub inside_quiet : (kind : EventKind) (x : Spot × Access) (q : RunState) → p.run ≡ Some q → is_join kind ≡ false → is_making kind ≡ false
      → is_release kind ≡ false → IsQuiet m l s (sight_after m l s r kind x)
  inside_quiet kind x q is j other released = by_part kind x q is j other (inside_same m l p q (s.word x.0) kind released)

  -- a step outside a run that is no entry, no load of a cell and no publication
  pub outside_quiet : (kind : EventKind) (x : Spot × Access) → p.run ≡ None → is_join kind ≡ false → is_other kind ≡ true
      → IsQuiet m l s (sight_after m l s r kind x)
  outside_quiet kind x none j other = quiet_after kind x j
      (subst (λ o. IsSamePart m l p (after_by m l kind p o (s.word x.0))) (sym none) (outside_same m l p (s.word x.0) kind other))
      (λ q' e. (outside_made m l p none (s.word x.0) kind).nothing q' (ap (λ o. (after_by m l kind p o (s.word x.0)).run) (sym none) ∙ e)
      ∙ ap made_in (sym none))

  -- a join changes nothing of that in the keeper's part, nor in the worker's
  pub join_quiet : (worker : ℕ) (x : Spot × Access) → p.run ≡ None → IsQuiet m l s (sight_after m l s r (kinds.Join worker) x)
  join_quiet worker x none = record {
    stay = record {
      walk = λ i. all (λ i y. y.reads.walk ≡ (s.part i).reads.walk) same.walk refl (λ i. refl) i;
      published = λ i. all (λ i y. (d : ℕ) (t : Thunk) → HasPublished m l (s.part i) d t → HasPublished m l y d t) same.published (λ d t h. h) (λ i d t h. h) i;
    };
    made = λ i. all (λ i y. (q : RunState) → y.run ≡ Some q → q.made ≡ made_of s i)
        (λ q e. absurd (let h = sym (ap (λ o. (after_by m l (kinds.Join worker) p o (s.word x.0)).run) none ∙ none) ∙ e in cc))
        (λ q e. ap made_in (sym e)) (λ i q e. ap made_in (sym e)) i;
  }
    where
      keeper : PartState
      keeper = knows_also (after m l r (kinds.Join worker) x.0 x.1 p (s.word x.0)) (s.part worker)

      same : IsSamePart m l p keeper
      same = let h = noted_same m l r (kinds.Join worker) x.0 x.1 p (s.word x.0)
          (subst (λ o. IsSamePart m l p (after_by m l (kinds.Join worker) p o (s.word x.0))) (sym none)
          (outside_same m l p (s.word x.0) (kinds.Join worker) refl)) in
          record { walk = h.walk; published = h.published }

      all : (Q : ℕ → PartState → Type 0) → Q r keeper → Q worker (leaves (s.part worker)) → ((i : ℕ) → Q i (s.part i)) → (i : ℕ)
          → Q i (upd (upd s.part r keeper) worker (leaves (s.part worker)) i)
      all Q own other rest = upd_split (upd s.part r keeper) worker (leaves (s.part worker)) Q other
          (λ i ne. upd_split s.part r keeper Q own (λ i ne. rest i) i)

  -- the thunks stand
  pub thunks_after : (kind : EventKind) (x : Spot × Access) → LeavesThunks x → (d : ℕ) → thunk_in (sight_after m l s r kind x).word d
      ≡ thunk_in s.word d
  thunks_after kind x same d = thunk_same (put s.word x.0 (written x.1 (s.word x.0))) s.word d (λ j. same.same s.word d j)
