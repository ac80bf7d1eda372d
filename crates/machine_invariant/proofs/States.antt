-- The whole invariant gives all that is known of a state.
use Rattle.std.proofs.Common.{◌≡◌, sym, subst, ℕ, ◌∙◌, ap, true, Some}
use Rattle.machine_states.specs.table_words.specs.declared.layout.Layout.{Layout}
use Rattle.machine_states.specs.structure_laws.specs.Meaning.{Meaning}
use Rattle.machine_states.specs.epoch_core.specs.State.{EpochState}
use Rattle.machine_states.specs.epoch_core.specs.History as epoch_history
use Rattle.agreement_core.specs.State.{AgreementState}
use Rattle.agreement_core.specs.History as agreement_history
use Rattle.machine_states.specs.Sight.{Sight}
use Rattle.machine_blocks.specs.machine_guards.specs.machine_agreement.specs.machine_epochs.specs.Entries.{counts_of}
use Rattle.machine_invariant.specs.Whole.{Beside, IsWhole}
use Rattle.machine_invariant.specs.Along.{Components}
use Rattle.machine_invariant.specs.States.{StateIsSound}
use Rattle.machine_invariant.proofs.Slots.{slots_sound}
use Rattle.machine_invariant.proofs.Sections.{sections_sound}
use Rattle.machine_states.specs.runner_parts.specs.declared.entries.Published.{Published}
use Rattle.machine_invariant.specs.Trails.{PublishedStand}
use Rattle.machine_states.proofs.Steps.{some_same}
use Rattle.machine_states.specs.epoch_core.specs.History.{is_out}

-- the components' states with these histories
abbrev pub with_histories : Beside → agreement_history.History → epoch_history.History → Components
with_histories g changes wins = record { agreement = g.agreement; changes = changes; epochs = g.epochs; wins = wins }

module _ (m : Meaning) (l : Layout) (g : Beside) (s : Sight) (whole : IsWhole m l g s) where
  -- what a runner has published is the section in its descriptor, which is live
  published_stand : PublishedStand m g.agreement s
  published_stand = record {
    used = λ r x is. used r x is;
    thunk = λ r x is.
        let there = whole.tied.publisher x.descriptor (whole.tied.is_live x.descriptor ((whole.slots.tied r).published x is)) in
        let one = whole.slots.published_once r (g.publications.runner x.descriptor) x there.0 is there.1 (sym there.2) in
        let same : x ≡ there.0 = some_same x there.0 (sym is ∙ (ap (λ i. (s.part i).published) one ∙ there.1)) in
        sym (whole.tied.thunk x.descriptor (used r x is)) ∙ (sym there.3 ∙ ap (λ (y : Published). y.thunk) (sym same));
  }
    where
      used : (r : ℕ) (x : Published) → (s.part r).published ≡ Some x → g.agreement.used x.descriptor ≡ true
      used r x is = whole.tied.used x.descriptor ∙ ap is_out ((whole.slots.tied r).published x is)

  sound_with : (changes : agreement_history.History) → agreement_history.IsExact g.agreement changes
      → (wins : epoch_history.History) → epoch_history.IsExact (counts_of m l) g.epochs wins
      → StateIsSound m l s (with_histories g changes wins)
  sound_with changes exact wins won = record {
    slots = slots_sound m l g.epochs s whole.slots wins won;
    sections = sections_sound m l g.agreement g.epochs s whole.sections whole.slots whole.logs changes exact wins won whole.tied.used
        (λ d used. (g.publications.thunk d, whole.kept.thunks d used, (whole.kept.shaped d used).shape))
        (λ d live. let p = whole.tied.publisher d live in (g.publications.runner d, p.0, p.1, p.2)) published_stand;
    logs = whole.logs;
    used = whole.tied.used;
    live = whole.tied.live;
    is_live = whole.tied.is_live;
  }

  -- where the components' states are those of the invariant, and their histories say what happened
  pub state_sound : (k : Components) → k.agreement ≡ g.agreement → k.epochs ≡ g.epochs → agreement_history.IsExact k.agreement k.changes
      → epoch_history.IsExact (counts_of m l) k.epochs k.wins → StateIsSound m l s k
  state_sound k same_agreement same_epochs exact won =
      subst (λ (a : AgreementState). StateIsSound m l s (record k { agreement = a })) (sym same_agreement)
      (subst (λ (e : EpochState). StateIsSound m l s (record k { agreement = g.agreement; epochs = e })) (sym same_epochs)
      (sound_with k.changes (subst (λ (a : AgreementState). agreement_history.IsExact a k.changes) same_agreement exact)
      k.wins (subst (λ (e : EpochState). epoch_history.IsExact (counts_of m l) e k.wins) same_epochs won)))
