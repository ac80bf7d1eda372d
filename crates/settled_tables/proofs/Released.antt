-- The words of a table that its keeper has settled, and what became of the sections of a run.
use Rattle.std.proofs.Common.{◌≡◌, suc, Bool, sym, ap, ◌∙◌, subst, eq-eqb, if◌then◌else◌}
use Rattle.std.specs.Prelude.{slice_get, IsSome, List}
use Rattle.machine_states.specs.map_history.specs.declared.op.Request.{Request}
use Rattle.machine_states.specs.body_terms.specs.Word.{value_of}
use Rattle.machine_states.specs.table_words.specs.declared.layout.Layout.{Layout}
use Rattle.machine_states.specs.table_words.specs.declared.spot.Spot.TheVariants.{Cell}
use Rattle.machine_states.specs.table_words.specs.Limits.{IsWithinLimits}
use Rattle.machine_states.specs.structure_laws.specs.Meaning.{Meaning}
use Rattle.machine_states.specs.structure_laws.specs.Laws.{Laws}
use Rattle.machine_states.specs.runner_steps.specs.Asks.{sizes_for}
use Rattle.machine_states.specs.table_words.specs.Seen.{seen}
use Rattle.machine_states.specs.World.{seat_of}
use Rattle.machine_states.specs.Reached.{Reached}
use Rattle.machine_states.specs.Sight.{sight}
use Rattle.closed_words.specs.reached_histories.specs.machine_facts.proofs.Following.{facts_after}
use Rattle.closed_words.specs.version_words.specs.machine_invariant.specs.After.{AreAllowed}
use Rattle.closed_words.specs.version_words.specs.RunnerState.{RunnerState}
use Rattle.closed_words.specs.version_words.specs.Shown.{left_part}
use Rattle.closed_words.specs.version_words.specs.TableState.{TableState, WordsState, IsOf, IsClosing, HasJoinedAll}
use Rattle.closed_words.specs.Histories.{HoldsNoLock}
use Rattle.settling.specs.Settled.{Settles, IsSettled}
use Rattle.settled_tables.specs.Once.{SectionsCameOnce}

module _ {T : Type 0} (m : Meaning) (t : TableState T) (gathered keeper : RunnerState T) (settles : Settles m gathered keeper) where
  -- the keeper has joined whom it had joined
  pub joined_still : HasJoinedAll t gathered → HasJoinedAll t keeper
  joined_still all = record {
    number = settles.number ∙ all.number;
    joined = λ worker few. subst (λ js. IsSome (left_part js worker)) (sym settles.joined) (all.joined worker few);
  }

  module _ (w : WordsState T) (own : IsOf t keeper) (number : keeper.number ≡ t.layout.runners) (closing : IsClosing m t keeper w) where
    seat_is : seat_of keeper.layout keeper.number ≡ 0
    seat_is = ap (λ (b : Bool). if b then 0 else suc keeper.number) (eq-eqb keeper.number keeper.layout.runners (number ∙ sym (ap (λ (l : Layout). l.runners) own.layout)))

    settled : IsSettled m (sight m t.layout t.requests closing.world)
    settled = subst (λ (l : Layout). IsSettled m (sight m l t.requests closing.world)) own.layout
        (subst (λ (rs : List Request). IsSettled m (sight m keeper.layout rs closing.world)) own.requests
        (settles.settled closing.world
        (subst (λ (l : Layout). Reached m l keeper.requests closing.world) (sym own.layout) (subst (λ (rs : List Request). Reached m t.layout rs closing.world) (sym own.requests) closing.reached))
        (ap (slice_get closing.world.parts) seat_is ∙ closing.keeper_part)))

    -- so no lock of the closed words is held
    pub holds_none : HoldsNoLock m w
    holds_none p lock = ap value_of
        (λ i. seen (sizes_for m (closing.layout i) (closing.requests i)) (sym closing.words i) (Cell p)) ∙ settled.free p lock

-- each section that was published had its effects once, or none
pub came_once : {T : Type 0} (m : Meaning) → Laws m → (t : TableState T) (keeper : RunnerState T) (w : WordsState T) → IsWithinLimits t.layout → AreAllowed t.requests
    → IsClosing m t keeper w → SectionsCameOnce m w
came_once m laws t keeper w limits allowed closing =
    let reached : Reached m w.layout w.requests closing.world =
    subst (λ (l : Layout). Reached m l w.requests closing.world) (sym closing.layout) (subst (λ (rs : List Request). Reached m t.layout rs closing.world) (sym closing.requests) closing.reached) in
    record {
      world = closing.world;
      words = closing.words;
      reached = reached;
      facts = facts_after m laws w.layout w.requests reached.events closing.world (subst IsWithinLimits (sym closing.layout) limits) (subst AreAllowed (sym closing.requests) allowed) reached.after;
    }
