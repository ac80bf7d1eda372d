-- A publication of the machine as a step of the joint states with the history.
use Rattle.std.specs.Prelude.{ℕ, ◌≡◌, false, List, Some, slice_get}
use Rattle.machine_states.specs.map_history.specs.declared.op.Request.{Request}
use Rattle.machine_states.specs.body_terms.specs.declared.thunk.Thunk.{Thunk}
use Rattle.machine_states.specs.body_terms.specs.Line.{line, micro_at, committed}
use Rattle.machine_states.specs.table_words.specs.declared.layout.Layout.{Layout}
use Rattle.machine_states.specs.table_words.specs.declared.spot.Spot.{Spot}
use Rattle.machine_states.specs.table_words.specs.declared.access.Access.{Access}
use Rattle.machine_states.specs.structure_laws.specs.Meaning.{Meaning}
use Rattle.machine_states.specs.runner_parts.specs.declared.event.EventKind.TheVariants.{Hold}
use Rattle.machine_states.specs.runner_steps.specs.Asks.{asks}
use Rattle.still_reads.specs.agreement_core.specs.Events as agreement
use Rattle.machine_history.specs.history_core.specs.State.{HistoryState, is_replied}
use Rattle.machine_states.specs.Sight.{Sight}
use Rattle.machine_facts.specs.machine_agreement.specs.machine_epochs.specs.Entries.{counts_of}
use Rattle.machine_facts.specs.machine_agreement.specs.machine_scenes.specs.Shown.{rules_of}
use Rattle.machine_history.specs.Steps.{HistoryStates, MayPublish}
use Rattle.machine_facts.specs.machine_agreement.specs.Chunks.{publication}
use Rattle.machine_facts.specs.machine_invariant.specs.After.{AreAllowed}
use Rattle.machine_facts.specs.machine_invariant.specs.Whole.{Beside, states_of, IsWhole}
use Rattle.reached_histories.specs.Requests.{requests_of}
use Rattle.reached_histories.specs.Kept.{AreKept}

module _ (m : Meaning) (l : Layout) (requests : List Request) where
  -- the joint states behind the reading of this lock, with this state of the history
  abbrev pub behind_read : Beside → Sight → HistoryState → ℕ → HistoryStates
  behind_read g s w lock = record {
    joint = record (states_of g s) {
      agreement = agreement.after g.agreement (agreement.Read lock);
    };
    history = w;
  }

  -- the section of this thunk may be published as the step of a request that there is, with the
  -- reply of its line
  pub record IsPublication (h : HistoryStates) (r d : ℕ) (t : Thunk) : Type 0 where
    pub request : Request
    pub asked : slice_get requests t.request ≡ Some request
    pub reply : ℕ
    pub may : MayPublish m l (counts_of m l) (requests_of m l requests) h r d t.lock t.word t.request
        (micro_at (line (m.body t))) (committed (line (m.body t))) request.op t reply

  -- where a runner may try to publish a section and has written no read's reply without its stamp, and agreement's
  -- publication may come behind the reading of the lock, the publication may come in the joint states with the history
  abbrev pub PublicationsMayCome : Type 0
  PublicationsMayCome = AreAllowed requests → (g : Beside) (s : Sight) (w : HistoryState)
      → IsWhole m l g s → AreKept s w → (r d : ℕ) (t : Thunk) (x : Spot × Access)
      → asks m l requests r (Hold t d) (s.part r) ≡ Some x → is_replied (w.look r) ≡ false
      → agreement.Enabled (rules_of m l) (agreement.after g.agreement (agreement.Read t.lock))
      (publication m d t)
      → IsPublication (behind_read g s w t.lock) r d t
