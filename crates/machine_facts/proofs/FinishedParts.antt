-- What runners keep of the runs that they have finished, after a step: what they kept, or it is the stepping runner's.
use Rattle.std.specs.Prelude.{◌⊎◌, true, slice_get}
use Rattle.std.proofs.Common.{◌≡◌, ℕ, List, sym, ap, ◌∙◌, subst, inl, inr, ⊎_elim, Some}
use Rattle.std.proofs.lemmas.Bool.{cases_eq}
use Rattle.machine_states.specs.map_history.specs.declared.op.Request.{Request}
use Rattle.machine_states.specs.table_words.specs.declared.layout.Layout.{Layout}
use Rattle.machine_states.specs.table_words.specs.Seen.{upd}
use Rattle.machine_states.specs.structure_laws.specs.Meaning.{Meaning}
use Rattle.machine_states.specs.runner_parts.specs.declared.event.EventKind.{EventKind}
use Rattle.machine_states.specs.runner_parts.specs.declared.event.EventKind.TheVariants as kinds
use Rattle.machine_states.specs.runner_parts.specs.State.{FinishedState, PartState, RunState}
use Rattle.machine_states.specs.runner_steps.specs.After.{leaves as leaves_part, knows_also}
use Rattle.machine_states.specs.runner_steps.specs.After.{after, stepped}
use Rattle.machine_states.specs.Sight.{Sight, Steps, parts_after}
use Rattle.machine_states.proofs.Updates.{upd_here, upd_else}
use Rattle.machine_states.specs.runner_steps.specs.Sections.{is_open_run}
use Rattle.machine_states.specs.runner_steps.specs.AfterInRun.{ended_more, finished_of}
use Rattle.machine_invariant.specs.machine_blocks.specs.machine_guards.specs.machine_agreement.proofs.LineKinds.{noted_finished}
use Rattle.machine_invariant.specs.machine_blocks.specs.machine_guards.specs.machine_agreement.proofs.Releases.{get_more}
use Rattle.machine_facts.proofs.Records.{stepped_same}

module _ (m : Meaning) (l : Layout) (rs : List Request) (s s' : Sight) (r : ℕ) (kind : EventKind) (step : Steps m l rs s s' r kind) where
  -- the runner's run is over by this step, and this is kept of it
  pub record IsNew (r1 : ℕ) (f : FinishedState) : Type 0 where
    pub run : RunState
    pub own : r1 ≡ r
    pub runs : (s.part r).run ≡ Some run
    pub release : kind ≡ kinds.Release
    pub open_run : is_open_run run ≡ true
    pub is : finished_of m l (ended_more run) ≡ f

  abbrev pub part1 : PartState
  part1 = after m l r kind step.ask.0 step.ask.1 (s.part r) (s.word step.ask.0)

  -- the parts after the step: one that it had, or the stepping runner's. A join changes nothing of what is asked
  pub by_any : (Q : PartState → Type 0) → ((p worker : PartState) → Q (knows_also p worker) → Q p) → ((p : PartState) → Q (leaves_part p) → Q p)
      → (r1 : ℕ) → Q (s'.part r1) → Q (s.part r1) ⊎ ((r1 ≡ r) × Q part1)
  by_any Q knows gone r1 q = at_kind kind (subst (λ (t : Sight). Q (t.part r1)) step.next q)
    where
      own : (i : ℕ) → Q (upd s.part r part1 i) → Q (s.part i) ⊎ ((i ≡ r) × Q part1)
      own i q = ⊎_elim
          (λ e. inr (e, subst Q (ap (upd s.part r part1) e ∙ upd_here s.part r part1) q))
          (λ ne. inl (subst Q (upd_else s.part r part1 i ne) q))
          (cases_eq i r)

      joining : (worker : ℕ) → Q (upd (upd s.part r (knows_also part1 (s.part worker))) worker (leaves_part (s.part worker)) r1)
          → Q (s.part r1) ⊎ ((r1 ≡ r) × Q part1)
      joining worker q = ⊎_elim
          (λ e. inl (subst (λ n. Q (s.part n)) (sym e) (gone (s.part worker) (subst Q
          (ap (upd (upd s.part r (knows_also part1 (s.part worker))) worker (leaves_part (s.part worker))) e
          ∙ upd_here (upd s.part r (knows_also part1 (s.part worker))) worker (leaves_part (s.part worker))) q))))
          (λ ne. ⊎_elim
          (λ e. inr (
            e,
            knows part1 (s.part worker) (subst Q (upd_else (upd s.part r (knows_also part1 (s.part worker))) worker (leaves_part (s.part worker)) r1 ne
                ∙ (ap (upd s.part r (knows_also part1 (s.part worker))) e ∙ upd_here s.part r (knows_also part1 (s.part worker)))) q),
          ))
          (λ ne'. inl (subst Q (upd_else (upd s.part r (knows_also part1 (s.part worker))) worker (leaves_part (s.part worker)) r1 ne
          ∙ upd_else s.part r (knows_also part1 (s.part worker)) r1 ne') q))
          (cases_eq r1 r))
          (cases_eq r1 worker)

      at_kind : (kind' : EventKind) → Q (parts_after kind' s.part r part1 r1) → Q (s.part r1) ⊎ ((r1 ≡ r) × Q part1)
      at_kind (kinds.Join worker) q = joining worker q
      at_kind kind' q = own r1 q

  pub by_part : (Q : List FinishedState → Type 0) (r1 : ℕ) → Q (s'.part r1).records.finished
      → Q (s.part r1).records.finished ⊎ ((r1 ≡ r) × Q part1.records.finished)
  by_part Q r1 q = by_any (λ (p : PartState). Q p.records.finished) (λ p worker h. h) (λ p h. h) r1 q

  -- what a runner keeps after the step it kept before, or it is of the run that is over
  pub entry : (r1 i : ℕ) (f : FinishedState) → slice_get (s'.part r1).records.finished i ≡ Some f
      → (slice_get (s.part r1).records.finished i ≡ Some f) ⊎ IsNew r1 f
  entry r1 i f at = ⊎_elim (λ before. inl before) (λ own. by_step own.0 own.1)
      (by_part (λ xs. slice_get xs i ≡ Some f) r1 at)
    where
      noted : part1.records.finished ≡ (stepped m l kind (s.part r) (s.word step.ask.0)).records.finished
      noted = noted_finished l r kind step.ask.0 step.ask.1 (s.word step.ask.0) (stepped m l kind (s.part r) (s.word step.ask.0)).records

      by_step : r1 ≡ r → slice_get part1.records.finished i ≡ Some f → (slice_get (s.part r1).records.finished i ≡ Some f) ⊎ IsNew r1 f
      by_step own at1 = ⊎_elim
          (λ same. inl (ap (λ n. slice_get (s.part n).records.finished i) own ∙ (ap (λ xs. slice_get xs i) (sym (noted ∙ same)) ∙ at1)))
          (λ x. ⊎_elim
          (λ before. inl (ap (λ n. slice_get (s.part n).records.finished i) own ∙ before.1))
          (λ now. inr (record { run = x.0; own = own; runs = x.1; release = x.2.release; open_run = x.2.open_run; is = now.1 }))
          (get_more (s.part r).records.finished (finished_of m l (ended_more x.0)) f i (ap (λ xs. slice_get xs i) (sym (noted ∙ x.2.more)) ∙ at1)))
          (stepped_same m l kind (s.part r) (s.word step.ask.0))
