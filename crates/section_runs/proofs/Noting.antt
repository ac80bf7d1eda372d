-- The registers that are kept, behind a step.
use Rattle.std.proofs.Common.{◌≡◌, [], refl, sym, subst, ◌∙◌}
use Rattle.idem_cell.specs.machine_states.specs.body_terms.specs.Line.{Registers, registers_after}
use Rattle.idem_cell.specs.machine_states.specs.body_terms.specs.Shape.{set_registers}
use Rattle.idem_cell.specs.machine_states.specs.body_terms.specs.declared.step.Step.{Step}
use Rattle.idem_cell.specs.machine_states.specs.body_terms.specs.declared.step.Step.TheVariants.{Load, Want, Fresh, Take, Make, Stamp, Store, Retire, Answer}
use Rattle.section_runs.specs.Registers.{AreKept}
use Rattle.section_runs.specs.declared.registers.Places.{Places}

-- what is kept holds for other registers that are at the same places, whatever is counted
kept_as : (kept : Places) (g g' : Registers) → g'.place ≡ g.place → g'.log ≡ g.log → AreKept kept g → AreKept kept g'
kept_as kept g g' places logs are = record {
  places = are.places;
  logs = are.logs;
  place = λ reg low. are.place reg low ∙ (λ i. (sym places) i reg);
  log = λ reg low. are.log reg low ∙ (λ i. (sym logs) i reg);
}

kept_on : (kept : Places) (g : Registers) (step : Step) → set_registers step ≡ [] → AreKept kept g → AreKept kept (registers_after g step)
kept_on kept g (Load place into) none are = absurd (let z = none in cc)
kept_on kept g (Want reg word) none are = are
kept_on kept g (Fresh reg) none are = are
kept_on kept g (Take place word) none are = kept_as kept g (registers_after g (Take place word)) refl refl are
kept_on kept g (Make init into) none are = absurd (let z = none in cc)
kept_on kept g Stamp none are = are
kept_on kept g (Store reg value) none are = are
kept_on kept g (Retire slot) none are = kept_as kept g (registers_after g (Retire slot)) refl refl are
kept_on kept g (Answer reply) none are = are

-- a step that sets no register leaves what is kept
pub none_noted : (kept : Places) (g : Registers) (step known : Step) → step ≡ known → set_registers known ≡ [] → AreKept kept g → AreKept kept (registers_after g step)
none_noted kept g step known is none are = subst (λ (s : Step). AreKept kept (registers_after g s)) (sym is) (kept_on kept g known none are)
