-- Every state that the machine reaches is sound.
use Rattle.std.proofs.Common.{◌≡◌, List, refl}
use Rattle.machine_states.specs.map_history.specs.declared.op.Request.{Request}
use Rattle.machine_states.specs.table_words.specs.Limits.{IsWithinLimits}
use Rattle.machine_states.specs.table_words.specs.declared.layout.Layout.{Layout}
use Rattle.machine_states.specs.structure_laws.specs.Meaning.{Meaning}
use Rattle.machine_states.specs.structure_laws.specs.Laws.{Laws}
use Rattle.machine_states.specs.runner_parts.specs.declared.event.Event.{Event}
use Rattle.agreement_core.specs.History as agreement_history
use Rattle.machine_states.specs.epoch_core.specs.History as epoch_history
use Rattle.machine_states.specs.World.{World}
use Rattle.machine_states.specs.First.{IsFirst}
use Rattle.machine_states.specs.Schedules.{IsAfter}
use Rattle.machine_states.specs.Sight.{sight}
use Rattle.machine_states.proofs.FirstSights as firsts
use Rattle.machine_invariant.specs.Along.{Components}
use Rattle.machine_invariant.specs.Whole.{Beside, IsWhole}
use Rattle.machine_invariant.specs.After.{AreAllowed, WholeAfter}
use Rattle.machine_invariant.specs.Lengths.{ShortAfter}
use Rattle.machine_invariant.specs.LogWords.{LogWordsSayAfter}
use Rattle.machine_invariant.proofs.Lengths.{lists_short}
use Rattle.machine_invariant.proofs.LogWords.{log_words_say}
use Rattle.machine_invariant.proofs.Along.{exact_begins, exact_along}
use Rattle.machine_invariant.proofs.States.{with_histories, state_sound}
use Rattle.machine_invariant.proofs.First.{first_beside, first_whole}
use Rattle.machine_invariant.proofs.Following.{Follows, follows}
use Rattle.machine_invariant.proofs.AllKinds.{step_whole}

module _ (m : Meaning) (laws : Laws m) (l : Layout) (limits : IsWithinLimits l) (requests : List Request) where
  -- the components as the machine begins
  abbrev begun : (w : World) → IsFirst m l requests w → Components
  begun w first = with_histories (first_beside m laws l limits requests w first) agreement_history.no_history epoch_history.no_history

  -- they go along with its events, to a state that meets the whole invariant
  followed : AreAllowed requests → (events : List Event) (w : World) (after : IsAfter m l requests events w)
      → Follows m l requests after.start (begun after.start after.first) events w
  followed allowed events w after =
      follows m l requests
      (λ g s s' r kind whole of step. step_whole m laws l limits requests allowed.in_order.few allowed.each g s s' r kind whole of step)
      events after.start w (first_beside m laws l limits requests after.start after.first)
      agreement_history.no_history epoch_history.no_history (firsts.first_whole m l requests after.start after.first)
      (first_whole m laws l limits requests after.start after.first) refl after.runs

-- each state that the machine reaches meets the whole invariant, beside some states of the components
pub reached_whole : (m : Meaning) → Laws m → (l : Layout) (requests : List Request) (events : List Event) (w : World) → IsWithinLimits l
    → AreAllowed requests → IsAfter m l requests events w → (g : Beside) × IsWhole m l g (sight m l requests w)
reached_whole m laws l requests events w limits allowed after =
    let all = followed m laws l limits requests allowed events w after in (all.beside, all.whole)

-- which were published for these requests
pub reached_beside : (m : Meaning) → Laws m → (l : Layout) (requests : List Request) (events : List Event) (w : World) → IsWithinLimits l
    → AreAllowed requests → IsAfter m l requests events w
    → (g : Beside) × IsWhole m l g (sight m l requests w) × (g.publications.requests ≡ requests)
reached_beside m laws l requests events w limits allowed after =
    let all = followed m laws l limits requests allowed events w after in (all.beside, all.whole, all.requests)

pub whole_after : (m : Meaning) → Laws m → (l : Layout) (requests : List Request) (events : List Event) (w : World)
    → WholeAfter m l requests events w
whole_after m laws l requests events w limits allowed after =
    let all = followed m laws l limits requests allowed events w after in
    let k : Components = with_histories all.beside all.changes all.wins in
    let exact = exact_along m l requests after.start (begun m laws l limits requests after.start after.first) events w k all.along
    (exact_begins m l laws.first limits requests after.start after.first) in
    record {
      components = k;
      along = all.along;
      sound = state_sound m l all.beside (sight m l requests w) all.whole k refl refl exact.changes exact.wins;
    }

-- and its lists of node slots are short
pub short_after : (m : Meaning) → Laws m → (l : Layout) (requests : List Request) (events : List Event) (w : World)
    → ShortAfter m l requests events w
short_after m laws l requests events w limits allowed after =
    let sound = whole_after m laws l requests events w limits allowed after in
    lists_short m l sound.components.epochs.location (sight m l requests w) sound.sound.slots.in_nodes

-- and the log words and done words of the sections that are run say what they may
pub log_words_after : (m : Meaning) → Laws m → (l : Layout) (requests : List Request) (events : List Event) (w : World)
    → LogWordsSayAfter m l requests events w
log_words_after m laws l requests events w limits allowed after =
    let all = followed m laws l limits requests allowed events w after in
    log_words_say m l all.beside (sight m l requests w) all.whole
