-- What a step of the machine does to the components' histories, and to the section of a used descriptor.
use Rattle.std.specs.Prelude.{replicate}
use Rattle.std.proofs.Common.{◌≡◌, ℕ, zero, suc, Bool, true, false, List, [], ◌∷◌, ◌++◌, refl, sym, ap, ◌∙◌, subst, inl, inr, ⊎_elim, arith, Option, Some, None}
use Rattle.std.specs.Prelude.{◌⊎◌}
use Rattle.machine_states.specs.map_history.specs.declared.op.Request.{Request}
use Rattle.machine_states.specs.body_terms.specs.Update.{upd}
use Rattle.machine_states.specs.table_words.specs.declared.layout.Layout.{Layout}
use Rattle.machine_states.specs.structure_laws.specs.Meaning.{Meaning}
use Rattle.machine_states.specs.runner_parts.specs.declared.event.EventKind.{EventKind}
use Rattle.machine_states.specs.runner_parts.specs.State.{RunState}
use Rattle.agreement_core.specs.State.{CellRules, AgreementState}
use Rattle.agreement_core.specs.Events as agreement
use Rattle.agreement_core.specs.Schedules as agreement_schedules
use Rattle.agreement_core.specs.History as agreement_history
use Rattle.machine_states.specs.epoch_core.specs.State.{Counts, Role, EpochState}
use Rattle.machine_states.specs.epoch_core.specs.Events as epochs
use Rattle.machine_states.specs.epoch_core.specs.History as epoch_history
use Rattle.machine_states.specs.epoch_core.specs.Freed.{SlotsMove, FreedStay}
use Rattle.machine_states.specs.Sight.{Sight}
use Rattle.machine_invariant.specs.machine_blocks.specs.machine_guards.specs.machine_agreement.specs.machine_epochs.specs.Entries.{counts_of}
use Rattle.machine_invariant.specs.machine_blocks.specs.machine_guards.specs.machine_agreement.specs.machine_scenes.specs.Shown.{rules_of}
use Rattle.machine_invariant.specs.machine_blocks.specs.machine_guards.specs.machine_agreement.specs.Chunks as sections
use Rattle.machine_invariant.specs.machine_blocks.specs.machine_guards.specs.machine_agreement.specs.Joined.{IsJoinedToAgreement, ShowsRun}
use Rattle.machine_invariant.specs.Along.{Components, reaches_of, components_after, AreEventsOf, AreExact}
use Rattle.machine_invariant.proofs.Runs.{AllAre, passes_are, append_are}
use Rattle.machine_facts.specs.States.{NumberAlike}
use Rattle.machine_facts.proofs.Agreement.{is_unfreeing, is_unpublishing, Lasts, lasts_all, frees_all, frees_runs}
use Rattle.machine_facts.proofs.Agreement as lists
use Rattle.machine_facts.proofs.Epochs.{IsChain, is_unpublished, chain_reaches, unpublished_reaches, moves_all, freed_all}
use Rattle.machine_facts.proofs.Epochs as slots
use Rattle.machine_facts.proofs.Chunks.{Sort, Publishes, all_unfreeing, all_unpublishing, sort_of}

module _ (c : CellRules) where
  after_append : (w : AgreementState) (xs ys : List agreement.Event) → agreement_schedules.after_all c w (xs ++ ys)
      ≡ agreement_schedules.after_all c (agreement_schedules.after_all c w xs) ys
  after_append w [] ys = refl
  after_append w (x ∷ xs) ys = after_append (agreement.after w x) xs ys

  enabled_back : (w : AgreementState) (xs ys : List agreement.Event) → agreement_schedules.AllEnabled c w (xs ++ ys)
      → agreement_schedules.AllEnabled c (agreement_schedules.after_all c w xs) ys
  enabled_back w [] ys ok = ok
  enabled_back w (x ∷ xs) ys ok = enabled_back (agreement.after w x) xs ys ok.1

  -- a run goes behind checks
  passes_used : (w : AgreementState) (r n : ℕ) → (agreement_schedules.after_all c w (replicate n (agreement.Pass r))).used ≡ w.used
  passes_used w r zero = refl
  passes_used w r (suc n) = passes_used (agreement.after w (agreement.Pass r)) r n

  passes_noted : (w : AgreementState) (h : agreement_history.History) (r n : ℕ)
      → agreement_history.noted_all w h (replicate n (agreement.Pass r)) ≡ h
  passes_noted w h r zero = refl
  passes_noted w h r (suc n) = passes_noted (agreement.after w (agreement.Pass r)) h r n

  frees_unpublishing : (ds : List ℕ) → AllAre is_unpublishing (sections.frees ds)
  frees_unpublishing [] = tt
  frees_unpublishing (d ∷ ds) = (refl, frees_unpublishing ds)

upd_true : (f : ℕ → Bool) (d : ℕ) → upd f d true d ≡ true
upd_true f d = grind arith

-- a publication gives the next number to its descriptor
published_slots : (c : Counts) (w : EpochState) (h : epoch_history.History) (reaches : List (ℕ × (ℕ → Bool))) (r d : ℕ) (roles : ℕ → Role)
    → ((epoch_history.noted_all c w h (reaches_of reaches ++ epochs.Publish r d roles ∷ [])).published ≡ suc h.published)
    × ((n : ℕ) → (epoch_history.noted_all c w h (reaches_of reaches ++ epochs.Publish r d roles ∷ [])).section n ≡ upd h.section d (suc h.published) n)
published_slots c w h [] r d roles = (refl, λ n. refl)
published_slots c w h (x ∷ reaches) r d roles = published_slots c (epochs.after c w (epochs.Reach x.0 x.1)) h reaches r d roles

module _ (m : Meaning) (l : Layout) (rs : List Request) (k : Components) (s : Sight) (joined : IsJoinedToAgreement m l k.agreement s)
    (exact : AreExact m l k) (alike : NumberAlike k)
    (r : ℕ) (kind : EventKind) (es : List agreement.Event) (vs : List epochs.Event) (are : AreEventsOf m l rs k s r kind es vs) where
  abbrev pub j : Components
  j = components_after m l k es vs

  sort : Sort m r (s.part r).run are.heads are.tails
  sort = sort_of m l k.agreement r kind (s.part r) (s.part r).run (s.word are.ask.0) are.heads are.tails are.in_sections are.in_slots

  chain : IsChain vs
  chain = subst IsChain (sym are.all_tails) (chain_reaches are.reaches are.tails (⊎_elim (λ q. q.tails_are.chain)
      (λ other. ⊎_elim (λ p. subst IsChain (sym p.tails_are) tt) (λ f. f.tails_are.chain) other) sort))

  -- where the slots go, and what is won for a section whose descriptor is free after the step
  pub moves : SlotsMove (counts_of m l) k.epochs j.epochs k.wins j.wins
  moves = moves_all (counts_of m l) k.epochs k.wins vs are.enabled_slots exact.epochs exact.wins chain

  pub freed : FreedStay (counts_of m l) k.epochs j.epochs k.wins j.wins
  freed = freed_all (counts_of m l) k.epochs k.wins vs are.enabled_slots exact.epochs chain

  -- a section is published by this step, or none
  pub record Published : Type 0 where
    pub descriptor : ℕ
    pub used : j.agreement.used descriptor ≡ true
    pub before : k.agreement.used descriptor ≡ false
    pub changes : j.changes.published ≡ suc k.changes.published
    pub section : (d : ℕ) → j.changes.section d ≡ upd k.changes.section descriptor (suc k.changes.published) d
    pub wins : j.wins.published ≡ suc k.wins.published
    pub slot_section : (d : ℕ) → j.wins.section d ≡ upd k.wins.section descriptor (suc k.wins.published) d

  pub record NonePublished : Type 0 where
    pub changes : j.changes.published ≡ k.changes.published
    pub section : (d : ℕ) → j.changes.section d ≡ k.changes.section d
    pub wins : j.wins.published ≡ k.wins.published
    pub slot_section : (d : ℕ) → j.wins.section d ≡ k.wins.section d
    pub used : (d : ℕ) → j.agreement.used d ≡ true → k.agreement.used d ≡ true

  none_published : AllAre is_unpublishing es → AllAre is_unpublished vs → NonePublished
  none_published heads tails =
      let one = lists.unpublished_all (rules_of m l) k.agreement k.changes es heads in
      let two = slots.unpublished_all (counts_of m l) k.epochs k.wins vs tails in
      record {
        changes = one.published;
        section = λ d. ap (λ (f : ℕ → ℕ). f d) one.section;
        wins = two.published;
        slot_section = λ d. ap (λ (f : ℕ → ℕ). f d) two.section;
        used = lists.used_all (rules_of m l) k.agreement es heads;
      }

  tails_unpublished : AllAre is_unpublished are.tails → AllAre is_unpublished vs
  tails_unpublished tails = subst (AllAre is_unpublished) (sym are.all_tails) (unpublished_reaches are.reaches are.tails tails)

  heads_are : (test : agreement.Event → Bool) → test (agreement.Pass r) ≡ true → AllAre test are.heads → AllAre test es
  heads_are test pass heads = subst (AllAre test) (sym are.all_heads)
      (append_are test are.heads (replicate are.passes (agreement.Pass r)) heads (passes_are test (agreement.Pass r) pass are.passes))

  one_published : Publishes m r are.heads are.tails → Published
  one_published p =
      let d = p.descriptor in
      let t = p.thunk in
      let two : es ≡ agreement.Read t.lock ∷ sections.publication m d t ∷ replicate are.passes (agreement.Pass r) =
      are.all_heads ∙ ap (λ hs. hs ++ replicate are.passes (agreement.Pass r)) p.heads_are in
      let w1 = agreement.after k.agreement (agreement.Read t.lock) in
      let w2 = agreement.after w1 (sections.publication m d t) in
      let there : agreement_schedules.after_all (rules_of m l) k.agreement es
      ≡ agreement_schedules.after_all (rules_of m l) w2 (replicate are.passes (agreement.Pass r)) =
      ap (agreement_schedules.after_all (rules_of m l) k.agreement) two in
      let noted : agreement_history.noted_all k.agreement k.changes es ≡ agreement_history.noted w1 k.changes (sections.publication m d t) =
      ap (agreement_history.noted_all k.agreement k.changes) two
      ∙ passes_noted (rules_of m l) w2 (agreement_history.noted w1 k.changes (sections.publication m d t)) r are.passes in
      let enabled = subst (agreement_schedules.AllEnabled (rules_of m l) k.agreement) two are.enabled in
      let in_slots : vs ≡ reaches_of are.reaches ++ epochs.Publish r d p.roles ∷ [] =
      are.all_tails ∙ ap (λ ts. reaches_of are.reaches ++ ts) p.tails_are in
      let numbers = published_slots (counts_of m l) k.epochs k.wins are.reaches r d p.roles in
      record {
        descriptor = d;
        used = ap (λ (w : AgreementState). w.used d) there
            ∙ (ap (λ (f : ℕ → Bool). f d) (passes_used (rules_of m l) w2 r are.passes) ∙ upd_true k.agreement.used d);
        before = enabled.1.0.0;
        changes = ap (λ (h : agreement_history.History). h.published) noted;
        section = λ n. ap (λ (h : agreement_history.History). h.section n) noted;
        wins = ap (λ ts. (epoch_history.noted_all (counts_of m l) k.epochs k.wins ts).published) in_slots ∙ numbers.0;
        slot_section = λ n. ap (λ ts. (epoch_history.noted_all (counts_of m l) k.epochs k.wins ts).section n) in_slots ∙ numbers.1 n;
      }

  pub publication : Published ⊎ NonePublished
  publication = ⊎_elim
      (λ q. inr (none_published (heads_are is_unpublishing refl (all_unpublishing are.heads q.lasting)) (tails_unpublished q.tails_are.unpublished)))
      (λ other. ⊎_elim (λ p. inl (one_published p))
      (λ f. inr (none_published (heads_are is_unpublishing refl (subst (AllAre is_unpublishing) (sym f.heads_are) (frees_unpublishing (rules_of m l) f.descriptors)))
      (tails_unpublished f.tails_are.unpublished))) other)
      sort

  -- both histories still give one number to one section
  pub still_alike : NumberAlike j
  still_alike = ⊎_elim
      (λ p. record {
        published = p.wins ∙ ap suc alike.published ∙ sym p.changes;
        section = λ d. p.slot_section d ∙ same_upd k.wins.section k.changes.section p.descriptor _ _ d (alike.section d) (ap suc alike.published)
            ∙ sym (p.section d);
      })
      (λ n. record {
        published = n.wins ∙ alike.published ∙ sym n.changes;
        section = λ d. n.slot_section d ∙ alike.section d ∙ sym (n.section d);
      })
      publication
    where
      same_upd : (f g : ℕ → ℕ) (d v w n : ℕ) → f n ≡ g n → v ≡ w → upd f d v n ≡ upd g d w n
      same_upd f g d v w n e e' = grind arith

  -- the section of a used descriptor goes on, where the step frees no descriptor; else each section is as it was
  abbrev pub Goes : ℕ → Type 0
  Goes d = Lasts (rules_of m l) k.agreement j.agreement d ⊎ (j.agreement.section d ≡ k.agreement.section d)

  no_pass : (passes : ℕ) (ds : List ℕ) → (s.part r).run ≡ None
      → agreement_schedules.AllEnabled (rules_of m l) k.agreement (sections.frees ds ++ replicate passes (agreement.Pass r)) → passes ≡ 0
  no_pass zero ds none ok = refl
  no_pass (suc n) ds none ok =
      let enabled = enabled_back (rules_of m l) k.agreement (sections.frees ds) (replicate (suc n) (agreement.Pass r)) ok in
      let run = frees_runs (rules_of m l) k.agreement ds r in
      let running : (k.agreement.run r).running ≡ true = ap (λ q. q.running) (sym run) ∙ enabled.0.0 in
      absurd (not_running (s.part r).run none ((joined.tied r).run) running)
    where
      not_running : (o : Option RunState) → o ≡ None → ShowsRun (k.agreement.run r) o → (k.agreement.run r).running ≡ true → ⊥
      not_running None none shows running = cc
      not_running (Some q) none shows running = cc

  append_nil : (xs : List agreement.Event) → xs ++ [] ≡ xs
  append_nil [] = refl
  append_nil (x ∷ xs) = ap (λ ys. x ∷ ys) (append_nil xs)

  pub goes : (d : ℕ) → k.agreement.used d ≡ true → Goes d
  goes d used = ⊎_elim
      (λ q. inl (lasting (all_unfreeing are.heads q.lasting)))
      (λ other. ⊎_elim
      (λ p. inl (lasting (subst (AllAre is_unfreeing) (sym p.heads_are) (refl, (refl, tt)))))
      (λ f. inr (
      let only : es ≡ sections.frees f.descriptors ++ replicate are.passes (agreement.Pass r) =
      are.all_heads ∙ ap (λ hs. hs ++ replicate are.passes (agreement.Pass r)) f.heads_are in
      let none = no_pass are.passes f.descriptors f.outside (subst (agreement_schedules.AllEnabled (rules_of m l) k.agreement) only are.enabled) in
      let all : es ≡ sections.frees f.descriptors = only ∙ (ap (λ n. sections.frees f.descriptors ++ replicate n (agreement.Pass r)) none
      ∙ append_nil (sections.frees f.descriptors)) in
      ap (λ xs. (agreement_schedules.after_all (rules_of m l) k.agreement xs).section d) all ∙ frees_all (rules_of m l) k.agreement f.descriptors d))
      other)
      sort
    where
      lasting : AllAre is_unfreeing are.heads → Lasts (rules_of m l) k.agreement j.agreement d
      lasting heads = lasts_all (rules_of m l) k.agreement es are.enabled joined.sound (heads_are is_unfreeing refl heads) d used

  -- where the runner is in a run, no descriptor is freed
  pub goes_inside : (q : RunState) → (s.part r).run ≡ Some q → (d : ℕ) → k.agreement.used d ≡ true → Lasts (rules_of m l) k.agreement j.agreement d
  goes_inside q runs d used = ⊎_elim
      (λ x. lasting (all_unfreeing are.heads x.lasting))
      (λ other. ⊎_elim
      (λ p. lasting (subst (AllAre is_unfreeing) (sym p.heads_are) (refl, (refl, tt))))
      (λ f. absurd (some_run q (sym runs ∙ f.outside)))
      other)
      sort
    where
      lasting : AllAre is_unfreeing are.heads → Lasts (rules_of m l) k.agreement j.agreement d
      lasting heads = lasts_all (rules_of m l) k.agreement es are.enabled joined.sound (heads_are is_unfreeing refl heads) d used

      some_run : (q : RunState) → Some q ≡ None → ⊥
      some_run q e = cc
