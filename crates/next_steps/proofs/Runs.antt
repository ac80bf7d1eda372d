-- What the whole invariant says of a run that has loaded its thunk and its done word.
use Rattle.std.specs.Prelude.{Bool, true, false, if◌then◌else◌}
use Rattle.std.proofs.Common.{◌≡◌, ℕ, ◌<◌, List, length, sym, refl, ◌∙◌, subst, Option, Some, None}
use Rattle.machine_states.specs.map_history.specs.declared.op.Request.{Request}
use Rattle.machine_states.specs.body_terms.specs.Line.{line, micro_at}
use Rattle.machine_states.specs.table_words.specs.declared.layout.Layout.{Layout}
use Rattle.machine_states.specs.table_words.specs.declared.spot.Spot.{Spot}
use Rattle.machine_states.specs.table_words.specs.declared.access.Access.{Access}
use Rattle.machine_states.specs.table_words.specs.Places.{descriptor_count}
use Rattle.machine_states.specs.structure_laws.specs.Meaning.{Meaning}
use Rattle.machine_states.specs.structure_laws.specs.Shape.{Shaped}
use Rattle.machine_states.specs.runner_parts.specs.declared.event.EventKind.{EventKind}
use Rattle.machine_states.specs.runner_parts.specs.State.{RunState, PartState}
use Rattle.machine_states.specs.runner_steps.specs.Sections.{thunk_of, is_open_run, line_of, next_of}
use Rattle.machine_states.specs.runner_steps.specs.Asks.{opening_ask}
use Rattle.machine_states.specs.runner_steps.specs.Asks.{outside_ask, line_ask, ask_by, asks}
use Rattle.agreement_core.specs.State.{Section}
use Rattle.agreement_core.specs.State as agreement
use Rattle.agreement_core.specs.Runs.{RunIsSound}
use Rattle.agreement_core.specs.Sound.{UsedIsSound}
use Rattle.machine_states.specs.Sight.{Sight}
use Rattle.machine_states.proofs.Sights.{some_none, unless_gone}
use Rattle.machine_invariant.specs.machine_blocks.specs.machine_guards.specs.machine_agreement.specs.machine_scenes.specs.Shown.{rules_of}
use Rattle.machine_invariant.specs.machine_blocks.specs.machine_guards.specs.machine_agreement.specs.Joined.{IsRunOf}
use Rattle.machine_invariant.specs.machine_blocks.specs.machine_guards.specs.machine_agreement.proofs.RunPlaces.{run_here, used_here, opened_thunk, code_here}
use Rattle.machine_invariant.specs.Whole.{Beside, IsWhole}

-- an enabled event of a kind that comes in the line of a run alone
pub record InLine (m : Meaning) (l : Layout) (kind : EventKind) (p : PartState) (x : Spot × Access) : Type 0 where
  pub run : RunState
  pub runs : p.run ≡ Some run
  pub opened : is_open_run run ≡ true
  pub asked : line_ask m l kind p.nodes.free p.blocks.free run (next_of m run) ≡ Some x

pub in_line : (m : Meaning) (l : Layout) (rs : List Request) (r : ℕ) (kind : EventKind) (p : PartState) (x : Spot × Access)
    → outside_ask m l rs r kind p ≡ None → ((q : RunState) → opening_ask kind q ≡ None) → asks m l rs r kind p ≡ Some x
    → InLine m l kind p x
in_line m l rs r kind p x outside opening asked = by_run p.run refl (unless_gone _ p.gone _ x asked).1
  where
    by_run : (o : Option RunState) → p.run ≡ o → ask_by m l rs r kind p o ≡ Some x → InLine m l kind p x
    by_run None is e = some_none x (sym outside ∙ e)
    by_run (Some q) is e = by_open (is_open_run q) refl e
      where
        by_open : (b : Bool) → is_open_run q ≡ b
            → (if b then line_ask m l kind p.nodes.free p.blocks.free q (next_of m q) else opening_ask kind q) ≡ Some x → InLine m l kind p x
        by_open true is_open e = record { run = q; runs = is; opened = is_open; asked = e }
        by_open false is_open e = some_none x (sym (opening q) ∙ e)

-- an enabled event of a kind that comes in no run
pub record OutOfRun (m : Meaning) (l : Layout) (rs : List Request) (r : ℕ) (kind : EventKind) (p : PartState) (x : Spot × Access) : Type 0 where
  pub none : p.run ≡ None
  pub asked : outside_ask m l rs r kind p ≡ Some x

pub out_of_run : (m : Meaning) (l : Layout) (rs : List Request) (r : ℕ) (kind : EventKind) (p : PartState) (x : Spot × Access)
    → ((q : RunState) → line_ask m l kind p.nodes.free p.blocks.free q (next_of m q) ≡ None) → ((q : RunState) → opening_ask kind q ≡ None)
    → asks m l rs r kind p ≡ Some x → OutOfRun m l rs r kind p x
out_of_run m l rs r kind p x line opening asked = by_run p.run refl (unless_gone _ p.gone _ x asked).1
  where
    by_run : (o : Option RunState) → p.run ≡ o → ask_by m l rs r kind p o ≡ Some x → OutOfRun m l rs r kind p x
    by_run None is e = record { none = is; asked = e }
    by_run (Some q) is e = by_open (is_open_run q) e
      where
        by_open : (b : Bool) → (if b then line_ask m l kind p.nodes.free p.blocks.free q (next_of m q) else opening_ask kind q) ≡ Some x
            → OutOfRun m l rs r kind p x
        by_open true e = some_none x (sym (line q) ∙ e)
        by_open false e = some_none x (sym (opening q) ∙ e)

module _ (m : Meaning) (l : Layout) (g : Beside) (s : Sight) (whole : IsWhole m l g s) (r : ℕ) (q : RunState) (is : (s.part r).run ≡ Some q) where
  abbrev pub section : Section
  section = g.agreement.section q.descriptor

  abbrev pub run : agreement.Run
  run = g.agreement.run r

  pub here : IsRunOf run q
  here = run_here m l g.agreement s whole.sections r q is

  pub used : g.agreement.used q.descriptor ≡ true
  used = used_here m l g.agreement s whole.sections r q is

  -- its descriptor is one of the table's
  pub few_descriptors : q.descriptor < descriptor_count l
  few_descriptors = whole.tied.within q.descriptor used

  pub section_sound : UsedIsSound (rules_of m l) g.agreement.shared (g.agreement.live q.descriptor) (g.agreement.over q.descriptor) q.descriptor section
  section_sound = whole.sections.sound.sections q.descriptor used

  pub run_sound : RunIsSound (rules_of m l) g.agreement.shared q.descriptor section run
  run_sound = subst (λ d. RunIsSound (rules_of m l) g.agreement.shared d (g.agreement.section d) run) here.descriptor
      (whole.sections.sound.runs r here.running)

  module _ (all : length q.opened ≡ 13) where
    pub thunk_is : g.publications.thunk q.descriptor ≡ thunk_of q.opened
    thunk_is = whole.tied.thunk q.descriptor used ∙ opened_thunk m l g.agreement s whole.sections r q is all

    -- its body has the shape that the laws ask for
    pub shaped : Shaped m l (g.publications.readings q.descriptor) (thunk_of q.opened)
    shaped = subst (Shaped m l (g.publications.readings q.descriptor)) thunk_is (whole.kept.shaped q.descriptor used)

    pub code : (i : ℕ) → section.code i ≡ micro_at (line_of m q) i
    code = code_here m l g.agreement s whole.sections r q is all
