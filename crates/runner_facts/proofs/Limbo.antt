-- The section of a descriptor in limbo is done.
use Rattle.std.specs.Prelude.{Bool, true, false}
use Rattle.std.proofs.Common.{◌≡◌, ℕ, zero, suc, List, ◌<◌, ◌≤◌, sym, refl, ◌∙◌, subst, arith}
use Rattle.machine_states.specs.map_history.specs.declared.op.Request.{Request}
use Rattle.machine_states.specs.table_words.specs.declared.layout.Layout.{Layout}
use Rattle.machine_states.specs.table_words.specs.Limits.{IsWithinLimits}
use Rattle.machine_states.specs.table_words.specs.Places.{descriptor_count}
use Rattle.machine_states.specs.structure_laws.specs.Meaning.{Meaning}
use Rattle.machine_states.specs.structure_laws.specs.Laws.{Laws}
use Rattle.machine_states.specs.epoch_core.specs.declared.location.Location.{Location}
use Rattle.machine_states.specs.epoch_core.specs.declared.location.Location.TheVariants as locations
use Rattle.machine_states.specs.epoch_core.specs.Events.{slot_of}
use Rattle.machine_states.specs.epoch_core.specs.History.{is_out}
use Rattle.machine_states.specs.epoch_core.specs.Lists.{times, in_any_limbo}
use Rattle.machine_states.specs.World.{World}
use Rattle.machine_states.specs.Reached.{Reached}
use Rattle.machine_states.specs.Sight.{Sight, sight}
use Rattle.machine_facts.specs.machine_agreement.specs.machine_epochs.specs.Entries.{counts_of}
use Rattle.machine_facts.specs.machine_agreement.specs.machine_epochs.proofs.Places.{has_times}
use Rattle.machine_facts.specs.machine_invariant.specs.After.{AreAllowed}
use Rattle.machine_facts.specs.machine_invariant.specs.Whole.{Beside, IsWhole}
use Rattle.machine_facts.specs.machine_invariant.proofs.After.{reached_whole}
use Rattle.next_steps.proofs.Numbers.{reached_numbers}
use Rattle.runner_facts.specs.Facts.{LimboIsDone}

module _ (m : Meaning) (l : Layout) (g : Beside) (s : Sight) (whole : IsWhole m l g s) (r d : ℕ) (few : d < descriptor_count l)
    (once : 1 ≤ times d (s.part r).descriptors.limbo) where
  abbrev at : Location
  at = g.epochs.location (slot_of (counts_of m l) d)

  listed : 1 ≤ in_any_limbo r at
  listed = subst (λ n. 1 ≤ n) (whole.slots.listed.limbo_descriptors r d few) once

  -- it was given out, and isn't live
  out : (p : Location) → 1 ≤ in_any_limbo r p → is_out p ≡ true
  out (locations.Limbo r' y') h = refl
  out locations.Live h = refl
  out locations.Fixed h = absurd (omega arith)
  out (locations.Hand r') h = absurd (omega arith)
  out (locations.Free r') h = absurd (omega arith)
  out (locations.Worn r') h = absurd (omega arith)
  out (locations.OnBoard i) h = absurd (omega arith)

  not_live : 1 ≤ in_any_limbo r locations.Live → ⊥
  not_live h = omega arith

  used : g.agreement.used d ≡ true
  used = whole.tied.used d ∙ out at listed

  retired : (b : Bool) → g.agreement.live d ≡ b → b ≡ false
  retired true e = absurd (not_live (subst (λ p. 1 ≤ in_any_limbo r p) (whole.tied.live d e) listed))
  retired false e = refl

  undone_never : (n : ℕ) → (g.agreement.section d).done ≡ n → n ≤ 1 → n ≡ 1
  undone_never zero e le = absurd (
      let live = (whole.sections.sound.sections d used).open_live e in
      let z = sym live ∙ retired (g.agreement.live d) refl in cc)
  undone_never (suc n) e le = omega arith

  done : (g.agreement.section d).done ≡ 1
  done = undone_never ((g.agreement.section d).done) refl ((whole.sections.sound.sections d used).done_most)

pub reached_limbo : (m : Meaning) → Laws m → (l : Layout) → IsWithinLimits l → (rs : List Request) → AreAllowed rs → (w : World)
    → Reached m l rs w → LimboIsDone (sight m l rs w)
reached_limbo m laws l limits rs allowed w reached r d has_it =
    let whole = reached_whole m laws l rs reached.events w limits allowed reached.after in
    let few = ((reached_numbers m laws l limits rs allowed w reached).parts r).limbo d has_it in
    let once = has_times ((sight m l rs w).part r).descriptors.limbo d has_it in
    sym (whole.1.sections.sections d).done ∙ done m l whole.0 (sight m l rs w) whole.1 r d few once
