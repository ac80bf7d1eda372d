-- A step of a run's line that concerns a slot keeps the whole invariant, by what the joint states meet behind its events.
use Rattle.std.specs.Prelude.{Bool, true, false, replicate, if◌then◌else◌}
use Rattle.std.proofs.Common.{◌≡◌, ℕ, List, [], ◌∷◌, ⊎_elim, sym, refl, ap, ◌∙◌, subst, Option, Some}
use Rattle.std.proofs.lemmas.Bool.{cases_eq}
use Rattle.machine_states.specs.map_history.specs.declared.op.Request.{Request}
use Rattle.machine_states.specs.table_words.specs.declared.layout.Layout.{Layout}
use Rattle.machine_states.specs.table_words.specs.declared.spot.Spot.{Spot}
use Rattle.machine_states.specs.table_words.specs.declared.access.Access.{Access}
use Rattle.machine_states.specs.table_words.specs.Limits.{IsWithinLimits}
use Rattle.machine_states.specs.table_words.specs.Seen.{upd}
use Rattle.machine_states.specs.structure_laws.specs.Meaning.{Meaning}
use Rattle.machine_states.specs.structure_laws.specs.Laws.{Laws}
use Rattle.machine_states.specs.runner_parts.specs.declared.event.EventKind.{EventKind}
use Rattle.machine_states.specs.runner_parts.specs.State.{RunState, PartState}
use Rattle.machine_states.specs.runner_steps.specs.Sections.{is_open_run, next_of}
use Rattle.machine_states.specs.runner_steps.specs.AfterInRun.{opened_more}
use Rattle.machine_states.specs.runner_steps.specs.After.{line_after, after_by, after}
use Rattle.machine_states.specs.runner_steps.specs.Asks.{asks}
use Rattle.agreement_core.specs.State.{AgreementState}
use Rattle.agreement_core.specs.Events as agreement
use Rattle.agreement_core.specs.Schedules as agreement_schedules
use Rattle.machine_states.specs.epoch_core.specs.Events as epochs
use Rattle.machine_states.specs.World.{is_join}
use Rattle.machine_states.specs.Sight.{Sight, sight_after}
use Rattle.machine_states.proofs.Updates.{upd_split, upd_here, upd_else}
use Rattle.machine_blocks.specs.machine_guards.specs.machine_agreement.specs.machine_epochs.specs.Entries.{counts_of}
use Rattle.machine_blocks.specs.machine_guards.specs.machine_agreement.specs.machine_epochs.specs.Slots.{thunk_in}
use Rattle.machine_blocks.specs.machine_guards.specs.machine_agreement.specs.machine_epochs.proofs.Reaching.{leaves_descriptors}
use Rattle.machine_blocks.specs.machine_guards.specs.machine_agreement.specs.machine_scenes.specs.Shown.{States, rules_of}
use Rattle.machine_blocks.specs.machine_guards.specs.machine_agreement.proofs.LineAsked as asked_line
use Rattle.machine_slots.specs.Hands.{Made}
use Rattle.machine_invariant.specs.Whole.{Beside, states_of, made_in, made_of, IsWhole}
use Rattle.machine_invariant.proofs.Parts.{IsSamePart, is_release, inside_same, noted_same}
use Rattle.machine_invariant.proofs.Runs.{AllAre, InHands, Stands, is_calm, agreement_stands, passes_are}
use Rattle.machine_invariant.proofs.Jointly.{IsWholeAfter}
use Rattle.machine_invariant.proofs.Ties.{tied_onward}
use Rattle.machine_invariant.proofs.Quiet.{is_still, StayRead, KeepsUse, all_still, all_stay, with_walk}
use Rattle.machine_invariant.proofs.Sights.{after_is, one_stays, thunks_after}
use Rattle.machine_invariant.proofs.Thunks.{inside_leaves}
use Rattle.machine_invariant.proofs.Pieces.{Leads, led}

-- the step of an open run's line
module _ (m : Meaning) (l : Layout) (s : Sight) (r : ℕ) (kind : EventKind) (x : Spot × Access) (j : is_join kind ≡ false) (q : RunState)
    (is : (s.part r).run ≡ Some q) (opened : is_open_run q ≡ true) where
  abbrev p : PartState
  p = s.part r

  abbrev s' : Sight
  s' = sight_after m l s r kind x

  -- the part after it
  abbrev pub line_part : PartState
  line_part = line_after m l kind p q (next_of m q) (s.word x.0)

  pub part_is : after_by m l kind p p.run (s.word x.0) ≡ line_part
  part_is = ap (λ (o : Option RunState). after_by m l kind p o (s.word x.0)) is
      ∙ ap (λ b. if b then line_part else opened_more p q (s.word x.0)) opened

  pub run_after : (s'.part r).run ≡ line_part.run
  run_after = subst (λ (t : Sight). (t.part r).run ≡ line_part.run) (sym (after_is m l s r kind x j))
      (ap (λ (y : PartState). y.run) (upd_here s.part r (after m l r kind x.0 x.1 p (s.word x.0))) ∙ ap (λ (y : PartState). y.run) part_is)

  -- the slot that the runner's Make fills
  pub made_after : (o : Option ℕ) → made_in line_part.run ≡ o → (i : ℕ) → made_of s' i ≡ upd (made_of s) r o i
  made_after o e = subst (λ (t : Sight). (i : ℕ) → made_of t i ≡ upd (made_of s) r o i) (sym (after_is m l s r kind x j))
      (upd_split s.part r (after m l r kind x.0 x.1 p (s.word x.0)) (λ k (y : PartState). made_in y.run ≡ upd (made_of s) r o k)
      (ap (λ (y : PartState). made_in y.run) part_is ∙ (e ∙ sym (upd_here (made_of s) r o)))
      (λ k ne. sym (upd_else (made_of s) r o k ne)))

  -- where that is what it was, each Make fills the slot that it did
  pub made_same : made_in line_part.run ≡ q.made → (i : ℕ) → made_of s' i ≡ made_of s i
  made_same e i = made_after q.made e i ∙ ⊎_elim
      (λ here. ap (upd (made_of s) r q.made) here ∙ (upd_here (made_of s) r q.made ∙ (ap made_in (sym is) ∙ ap (made_of s) (sym here))))
      (λ ne. upd_else (made_of s) r q.made i ne)
      (cases_eq i r)

  -- it changes nothing of what runners have read outside runs and published, where it is no release
  pub stays_read : is_release kind ≡ false → StayRead m l s s'
  stays_read other = subst (StayRead m l s) (sym (after_is m l s r kind x j)) (one_stays m l s r _ p' same)
    where
      p' : PartState
      p' = after m l r kind x.0 x.1 p (s.word x.0)

      same : IsSamePart m l p p'
      same = noted_same m l r kind x.0 x.1 p (s.word x.0)
          (subst (λ (o : Option RunState). IsSamePart m l p (after_by m l kind p o (s.word x.0))) (sym is)
          (inside_same m l p q (s.word x.0) kind other))

  -- nor of the thunks
  pub thunks_stay : (rs : List Request) → asks m l rs r kind p ≡ Some x → (d : ℕ) → thunk_in s'.word d ≡ thunk_in s.word d
  thunks_stay rs asked =
      thunks_after m l s r kind x (inside_leaves m l q x kind p.nodes.free p.blocks.free (asked_line.inside_asked m l rs r kind p q x asked is))

module _ (m : Meaning) (laws : Laws m) (l : Layout) (limits : IsWithinLimits l) where
  -- the checks that pass
  pub passes_stand : {from : States} (r n : ℕ) (j : States) (made : Made)
      → agreement_schedules.AllEnabled (rules_of m l) j.agreement (replicate n (agreement.Pass r)) → InHands m laws l limits j.epochs made
      → Stands m laws l limits from j made
      → Stands m laws l limits from (record j {
        agreement = agreement_schedules.after_all (rules_of m l) j.agreement (replicate n (agreement.Pass r));
      }) made
  passes_stand r n j made =
      agreement_stands m laws l limits (replicate n (agreement.Pass r)) j made (passes_are is_calm (agreement.Pass r) refl n)

  -- an event that gives out, retires and frees no descriptor, and the checks that pass behind it
  passes_use : (w : AgreementState) (r n : ℕ) (v : agreement.Event) → KeepsUse w (agreement.after w v)
      → KeepsUse w (agreement_schedules.after_all (rules_of m l) w (v ∷ replicate n (agreement.Pass r)))
  passes_use w r n v one =
      let more = all_still (rules_of m l) (agreement.after w v) (replicate n (agreement.Pass r))
      (passes_are is_still (agreement.Pass r) refl n) in
      record { used = more.used ∙ one.used; live = more.live ∙ one.live }

  module _ (g : Beside) (s s' : Sight) (whole : IsWhole m l g s) (stay : StayRead m l s s')
      (thunks : (d : ℕ) → thunk_in s'.word d ≡ thunk_in s.word d) (r : ℕ) (v : agreement.Event) (fs : List epochs.Event)
      (go : Leads m l g s' r (v ∷ []) fs) where
    abbrev g' : Beside
    g' = led m l g r (v ∷ []) go.passes fs g.publications

    -- the whole invariant after an event of agreement with the checks that pass behind it, and events of epochs and slots
    pub line_whole : KeepsUse g.agreement (agreement.after g.agreement v) → AllAre leaves_descriptors fs
        → Stands m laws l limits (states_of g s) (record (states_of g s) { agreement = g'.agreement; epochs = g'.epochs }) (made_of s')
        → IsWholeAfter m l (states_of g s) g' s'
    line_whole stays_used leaves stands =
        let uses = passes_use g.agreement r go.passes v stays_used in
        let new = with_walk m laws l limits (record (states_of g s) { agreement = g'.agreement; epochs = g'.epochs }) (made_of s')
        (λ i. (s'.part i).reads.walk) stay.walk stands in
        record {
          passed = new.passed;
          whole = record {
            sections = go.joined;
            slots = go.joined_slots;
            tied = tied_onward m l g.agreement g'.agreement g.epochs g'.epochs g.publications s s' whole.tied
                (λ d. ap (λ (f : ℕ → Bool). f d) uses.used) (λ d. ap (λ (f : ℕ → Bool). f d) uses.live)
                (all_stay (counts_of m l) fs g.epochs go.enabled_slots whole.slots.sound leaves) stay.published (λ d used. thunks d);
            kept = new.kept;
            held = new.held;
            filled = new.filled;
            logs = go.logs;
          };
        }
