-- What the components say of descriptors still belongs together after steps that concern other things.
use Rattle.std.proofs.Common.{◌≡◌, ℕ, true, sym, ap, ◌∙◌}
use Rattle.machine_states.specs.table_words.specs.declared.layout.Layout.{Layout}
use Rattle.machine_states.specs.structure_laws.specs.Meaning.{Meaning}
use Rattle.agreement_core.specs.State.{AgreementState}
use Rattle.machine_states.specs.epoch_core.specs.State.{Counts, EpochState}
use Rattle.machine_states.specs.epoch_core.specs.Events.{slot_of}
use Rattle.machine_states.specs.epoch_core.specs.History.{is_out}
use Rattle.machine_states.specs.Sight.{Sight}
use Rattle.machine_blocks.specs.machine_guards.specs.machine_agreement.specs.machine_epochs.specs.Entries.{counts_of}
use Rattle.machine_blocks.specs.machine_guards.specs.machine_agreement.specs.machine_epochs.specs.Slots.{thunk_in}
use Rattle.machine_blocks.specs.machine_guards.specs.machine_agreement.specs.machine_scenes.specs.Shown.{Publications}
use Rattle.machine_invariant.specs.Whole.{HasPublished, AreTied}
use Rattle.machine_states.specs.body_terms.specs.declared.thunk.Thunk.{Thunk}

module _ (m : Meaning) (l : Layout) where
  abbrev c : Counts
  c = counts_of m l

  -- nothing was published, retired or freed
  pub tied_onward : (a a' : AgreementState) (e e' : EpochState) (p : Publications) (s s' : Sight)
      → AreTied m l (record { agreement = a; epochs = e; publications = p }) s
      → ((d : ℕ) → a'.used d ≡ a.used d) → ((d : ℕ) → a'.live d ≡ a.live d)
      → ((d : ℕ) → e'.location (slot_of c d) ≡ e.location (slot_of c d))
      → ((i d : ℕ) (t : Thunk) → HasPublished m l (s.part i) d t → HasPublished m l (s'.part i) d t)
      → ((d : ℕ) → a.used d ≡ true → thunk_in s'.word d ≡ thunk_in s.word d)
      → AreTied m l (record { agreement = a'; epochs = e'; publications = p }) s'
  tied_onward a a' e e' p s s' old used live places published thunks = record {
    used = λ d. used d ∙ (old.used d ∙ sym (ap is_out (places d)));
    live = λ d is. places d ∙ old.live d (sym (live d) ∙ is);
    is_live = λ d is. live d ∙ old.is_live d (sym (places d) ∙ is);
    within = λ d is. old.within d (sym (used d) ∙ is);
    publisher = λ d is. published (p.runner d) d (p.thunk d) (old.publisher d (sym (live d) ∙ is));
    thunk = λ d is. let was = sym (used d) ∙ is in old.thunk d was ∙ sym (thunks d was);
    op = λ d is. old.op d (sym (used d) ∙ is);
  }
