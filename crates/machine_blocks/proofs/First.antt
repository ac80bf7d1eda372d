-- In the first state no log has a word.
use Rattle.std.specs.Prelude.{cond, slice_index, Bool, true, false}
use Rattle.std.proofs.Common.{◌≡◌, ℕ, List, [], refl, sym, ap, ◌∙◌, Some, None}
use Rattle.std.proofs.lemmas.Option.{none-some}
use Rattle.machine_states.specs.map_history.specs.declared.op.Request.{Request}
use Rattle.machine_states.specs.table_words.specs.declared.layout.Layout.{Layout}
use Rattle.machine_states.specs.table_words.specs.declared.spot.Spot.TheVariants.{Cell, LinkWord}
use Rattle.machine_states.specs.table_words.specs.Places.{fits, address}
use Rattle.machine_states.specs.table_words.proofs.Seen as words
use Rattle.machine_states.specs.structure_laws.specs.Meaning.{Meaning}
use Rattle.machine_states.specs.runner_steps.specs.Asks.{sizes_for}
use Rattle.machine_states.specs.epoch_core.specs.Schedules as epoch_schedules
use Rattle.agreement_core.specs.Schedules as agreement_schedules
use Rattle.machine_states.specs.World.{World}
use Rattle.machine_states.specs.First.{IsFirst}
use Rattle.machine_states.specs.Sight.{Sight, sight}
use Rattle.machine_states.proofs.FirstSights.{unlogged, first_parts}
use Rattle.machine_states.specs.runner_parts.specs.State.{RunState, PartState}
use Rattle.machine_guards.specs.machine_agreement.specs.machine_epochs.proofs.FirstJoin.{each_part}
use Rattle.machine_guards.specs.machine_agreement.specs.machine_epochs.specs.Firsts.{first_place}
use Rattle.machine_blocks.specs.Stands.{LogsStand}
use Rattle.block_words.proofs.Parts.{alone}

module _ (m : Meaning) (l : Layout) (rs : List Request) (w : World) (start : IsFirst m l rs w) where
  abbrev s : Sight
  s = sight m l rs w

  -- no descriptor has a link
  unlinked : (d : ℕ) → s.word (LinkWord d) ≡ 0
  unlinked d = by_fit (fits (sizes_for m l rs) (LinkWord d)) refl
    where
      by_fit : (b : Bool) → fits (sizes_for m l rs) (LinkWord d) ≡ b → s.word (LinkWord d) ≡ 0
      by_fit true is = start.words.seen (LinkWord d) (words.fits_means (sizes_for m l rs) (LinkWord d) is)
      by_fit false is = ap (λ b. cond b (slice_index w.words (address (sizes_for m l rs) (LinkWord d))) 0) is

  -- nobody is in a run
  unrun : (r : ℕ) → (s.part r).run ≡ None
  unrun r = ap (λ (p : PartState). p.run) (first_parts m l w.parts start.parts r) ∙ each_part m l (λ (p : PartState). p.run ≡ None) refl (λ k. refl) refl r

  no_run : (r : ℕ) (q : RunState) → (s.part r).run ≡ Some q → ⊥
  no_run r q at = none-some q (sym (unrun r) ∙ at)

  pub first_stand : LogsStand (λ d. []) (agreement_schedules.first_state (λ p. s.word (Cell p))) (epoch_schedules.first_state (first_place m l)) s
  first_stand = record {
    same = λ d k. refl;
    own = λ d k low. unlogged m l rs w start d k;
    rest = λ d k high. refl;
    logs = λ r d sure. alone (λ k. 0) s.word d (λ k. refl) (λ j low. unlogged m l rs w start d j) (unlinked d);
    agreed = λ r q at. absurd (no_run r q at);
    emptied = λ r b j q at held low. absurd (no_run r q at);
    begun = λ r q at none. absurd (no_run r q at);
    most = λ r q at. absurd (no_run r q at);
  }
