-- Where no lock is held no section is open, and the cells stand for the map to which the history leads.
use Rattle.std.specs.Prelude.{◌==◌, cond, Bool, true, false}
use Rattle.std.proofs.Common.{◌≡◌, ◌≢◌, ℕ, List, refl, sym, ap, ◌∙◌, subst, arith, Some, None}
use Rattle.std.proofs.lemmas.Bool.Decides.{nat_tests}
use mathlib.Core.Path.{fun_ext}
use Rattle.machine_states.specs.map_history.specs.declared.op.Request.{Request}
use Rattle.machine_states.specs.table_words.specs.declared.layout.Layout.{Layout}
use Rattle.machine_states.specs.table_words.specs.declared.spot.Spot.TheVariants.{Cell}
use Rattle.machine_states.specs.structure_laws.specs.Meaning.{Meaning}
use Rattle.machine_states.specs.structure_laws.specs.Scene.{Scene}
use Rattle.machine_states.specs.structure_laws.specs.InTurn.{StandsFor}
use Rattle.machine_states.specs.structure_laws.specs.Planner.{IsQuiet}
use Rattle.agreement_core.specs.State.{AgreementState}
use Rattle.machine_states.specs.Sight.{Sight}
use Rattle.machine_epochs.specs.Entries.{counts_of}
use Rattle.machine_scenes.specs.Shown.{scene_of, section_of, section_with}
use Rattle.reached_histories.specs.machine_facts.specs.machine_invariant.specs.Whole.{states_of, IsWhole}
use Rattle.reached_histories.specs.History.{IsClosed}
use Rattle.reached_histories.specs.Laws.{HasHistory}
use Rattle.resource_bounds.specs.InUse.{NoneIsHeld}

some_done : (n : ℕ) → n ≢ 0 → (n == 0) ≡ false
some_done n ne = grind (arith, nat_tests)

module _ (m : Meaning) (l : Layout) (rs : List Request) (s : Sight) (history : HasHistory m l rs s) (free : NoneIsHeld m s) where
  whole : IsWhole m l history.beside s
  whole = history.whole

  abbrev a : AgreementState
  a = history.beside.agreement

  abbrev pub scene : Scene
  scene = scene_of m (counts_of m l) (states_of history.beside s)

  closed : IsClosed m l rs history.beside s history.state.history history.state.pairs
  closed = history.closed free

  -- its cells are the words
  pub cells_are : (p : ℕ) → scene.cells p ≡ s.word (Cell p)
  cells_are p = whole.sections.words.cells p

  pub stands_for : StandsFor m l scene history.state.pairs
  stands_for = record {
    sound = whole.kept.lawful.sound;
    kept = whole.kept.lawful.kept;
    stands = subst (λ (cells : ℕ → ℕ). m.stands l cells history.state.pairs) (sym (fun_ext cells_are)) closed.settled;
  }

  -- no section is open
  pub quiet : IsQuiet m scene
  quiet d = by (a.used d) refl
    where
      by : (b : Bool) → a.used d ≡ b → section_of m history.beside.publications d b (a.section d) ≡ None
      by true e = ap (λ c. cond c (Some (section_with m history.beside.publications d (a.section d).log (a.section d).edge)) None)
          (some_done (a.section d).done (λ z. closed.done d e (sym (whole.sections.sections d).done ∙ z)))
      by false e = refl
