-- What the other components' events of a step do to what guards see of them.
use Rattle.std.specs.Prelude.{◌==◌, cond, Bool, true, false, replicate, if◌then◌else◌}
use Rattle.std.proofs.Common.{◌≡◌, ℕ, ◌+◌, List, [], ◌∷◌, ◌++◌, refl, sym, ap, ◌∙◌, arith, Option, Some, None}
use Rattle.std.proofs.lemmas.Bool.Decides.{nat_tests}
use Rattle.machine_states.specs.body_terms.specs.declared.micro.Micro.{Micro}
use Rattle.machine_states.specs.table_words.specs.declared.layout.Layout.{Layout}
use Rattle.agreement_core.specs.State.{AgreementState, Run}
use Rattle.agreement_core.specs.Events as agreement
use Rattle.agreement_core.specs.Schedules as agreement_schedules
use Rattle.machine_states.specs.structure_laws.specs.Meaning.{Meaning}
use Rattle.machine_states.specs.runner_parts.specs.declared.entries.Published.{Published}
use Rattle.machine_states.specs.epoch_core.specs.State.{Counts, EpochState, Role}
use Rattle.machine_states.specs.epoch_core.specs.declared.location.Location as places
use Rattle.machine_states.specs.epoch_core.specs.declared.location.Location.TheVariants as epoch_places
use Rattle.machine_states.specs.epoch_core.specs.Events as epochs
use Rattle.machine_states.specs.epoch_core.specs.Events.{slot_of}
use Rattle.machine_states.specs.epoch_core.specs.Schedules as epoch_schedules
use Rattle.machine_states.specs.guard_core.specs.Update as guard_update
use Rattle.machine_states.specs.Sight.{Sight}
use Rattle.machine_agreement.specs.machine_epochs.specs.Entries.{counts_of}
use Rattle.machine_agreement.specs.machine_epochs.specs.Joined.{IsJoinedToEpochs}
use Rattle.machine_agreement.specs.machine_epochs.proofs.Reaching.{leaves_descriptors}
use Rattle.machine_agreement.specs.machine_scenes.specs.Shown.{rules_of}
use Rattle.machine_agreement.specs.Chunks as sections
use Rattle.machine_agreement.specs.Goes as sections_goes
use Rattle.machine_guards.proofs.Places.{AllAre, leaves_over, over_all, over_passes, passes_are, append_are, places_all}

module _ (m : Meaning) (l : Layout) (a a' : AgreementState) (r : ℕ) (heads : List agreement.Event) (leads : sections_goes.Leads m l r heads a a') where
  -- of agreement's events
  pub over_same : AllAre leaves_over heads → (d : ℕ) → a'.over d ≡ a.over d
  over_same are d =
      ap (λ (v : AgreementState). v.over d) (sym leads.there)
      ∙ ap (λ (f : ℕ → Bool). f d) (over_passes (rules_of m l) a heads r leads.passes are)

  abbrev checks : List agreement.Event
  checks = replicate leads.passes (agreement.Pass r)

  -- a publication
  pub over_published : (place d lock word request : ℕ) (code : ℕ → Micro) (slot : ℕ → ℕ) → heads ≡ agreement.Read place ∷ agreement.Publish d lock word request code slot ∷ []
      → (i : ℕ) → a'.over i ≡ guard_update.upd a.over d false i
  over_published place d lock word request code slot is i =
      ap (λ (v : AgreementState). v.over i) (sym leads.there ∙ ap (λ es. agreement_schedules.after_all (rules_of m l) a (es ++ checks)) is)
      ∙ ap (λ (f : ℕ → Bool). f i) (over_all (rules_of m l) (agreement.after (agreement.after a (agreement.Read place)) (agreement.Publish d lock word request code slot)) checks (passes_are r leads.passes))

  -- the run that comes to its end is of the descriptor that it was of before its last release
  same_run : (run : ℕ → Run) (i : ℕ) (g : ℕ → Bool) → (cond (i == i) (record (run i) { released = g }) (run i)).descriptor ≡ (run i).descriptor
  same_run run i g = by (i == i)
    where
      by : (b : Bool) → (cond b (record (run i) { released = g }) (run i)).descriptor ≡ (run i).descriptor
      by true = refl
      by false = refl

  retires_are : (o : Option Published) (d : ℕ) → AllAre leaves_over (sections.retires_own o d)
  retires_are None d = tt
  retires_are (Some x) d = by (x.descriptor == d)
    where
      by : (b : Bool) → AllAre leaves_over (if b then agreement.RetireDescriptor d ∷ [] else [])
      by true = (refl, tt)
      by false = tt

  pub over_finished : (place word : ℕ) (o : Option Published) (d : ℕ) → (a.run r).descriptor ≡ d
      → heads ≡ agreement.Read place ∷ agreement.Release r place word ∷ agreement.Finish r ∷ sections.retires_own o d
      → (i : ℕ) → a'.over i ≡ guard_update.upd a.over d true i
  over_finished place word o d runs is i =
      let released = agreement.after (agreement.after a (agreement.Read place)) (agreement.Release r place word) in
      ap (λ (v : AgreementState). v.over i) (sym leads.there ∙ ap (λ es. agreement_schedules.after_all (rules_of m l) a (es ++ checks)) is)
      ∙ (ap (λ (f : ℕ → Bool). f i) (over_all (rules_of m l) (agreement.after released (agreement.Finish r)) (sections.retires_own o d ++ checks)
      (append_are leaves_over (sections.retires_own o d) checks (retires_are o d) (passes_are r leads.passes)))
      ∙ ap (λ (n : ℕ). guard_update.upd a.over n true i) (same_run a.run r _ ∙ runs))

module _ (m : Meaning) (l : Layout) (e e' : EpochState) (s : Sight) (joined : IsJoinedToEpochs m l e s) (tails : List epochs.Event)
    (enabled : epoch_schedules.AllEnabled (counts_of m l) e tails) (there : epoch_schedules.after_all (counts_of m l) e tails ≡ e') where
  abbrev c : Counts
  c = counts_of m l

  abbrev here : EpochState → ℕ → places.Location
  here v d = v.location (slot_of c d)

  -- and of those of epochs and slots
  pub places_same : AllAre leaves_descriptors tails → (d : ℕ) → here e' d ≡ here e d
  places_same are d = ap (λ (v : EpochState). here v d) (sym there) ∙ places_all c e tails enabled joined.sound are d

  ends : (tails' : List epochs.Event) → tails ≡ tails' → (d : ℕ) → here e' d ≡ here (epoch_schedules.after_all c e tails') d
  ends tails' is d = ap (λ (v : EpochState). here v d) (sym there ∙ ap (epoch_schedules.after_all c e) is)

  one_place : (n i d : ℕ) (f : ℕ → places.Location) (x : places.Location) → cond (n + i == n + d) x (f (n + i)) ≡ cond (i == d) x (f (n + i))
  one_place n i d f x = by (n + i == n + d) (i == d) (iff n i d)
    where
      iff : (n i d : ℕ) → (n + i == n + d) ≡ (i == d)
      iff n i d = grind (arith, nat_tests)

      by : (b b' : Bool) → b ≡ b' → cond b x (f (n + i)) ≡ cond b' x (f (n + i))
      by b b' same = ap (λ (k : Bool). cond k x (f (n + i))) same

  pub place_published : (r d : ℕ) (roles : ℕ → Role) → tails ≡ epochs.Publish r d roles ∷ [] → (i : ℕ) → here e' i ≡ cond (i == d) epoch_places.Live (here e i)
  place_published r d roles is i = ends (epochs.Publish r d roles ∷ []) is i ∙ one_place c.nodes i d e.location epoch_places.Live

  pub place_retired : (r d : ℕ) → tails ≡ epochs.RetireDescriptor r d ∷ [] → (i : ℕ) → here e' i ≡ cond (i == d) (epoch_places.Limbo r e.epoch) (here e i)
  place_retired r d is i = ends (epochs.RetireDescriptor r d ∷ []) is i ∙ one_place c.nodes i d e.location (epoch_places.Limbo r e.epoch)

  pub place_kept : tails ≡ [] → (i : ℕ) → here e' i ≡ here e i
  place_kept is i = ends [] is i

  pub place_swept : (r : ℕ) (test : ℕ → Bool) → tails ≡ epochs.Sweep r test ∷ [] → (i : ℕ) → here e' i ≡ here (epochs.after c e (epochs.Sweep r test)) i
  place_swept r test is i = ends (epochs.Sweep r test ∷ []) is i
