-- What a worker has that has read a lock.
use Rattle.std.proofs.Common.{◌≡◌, ℕ, ◌≤◌, length, true, sym, ap, subst, ◌∙◌, arith, Some, None}
use Rattle.machine_states.specs.structure_laws.specs.Meaning.{Meaning}
use Rattle.machine_states.specs.structure_laws.specs.Laws.{Laws}
use Rattle.machine_states.specs.epoch_core.specs.declared.stage.Stage.TheVariants as stages
use Rattle.machine_states.specs.runner_parts.specs.declared.event.EventKind.TheVariants as kinds
use Rattle.machine_states.specs.runner_parts.specs.State.{DescriptorsState, GuardsState, NodesState, ReadsState}
use Rattle.machine_states.specs.runner_parts.specs.Tests.{has_pair}
use Rattle.settled_tables.specs.closed_words.specs.version_words.specs.RunnerState.{RunnerState}
use Rattle.settled_tables.specs.closed_words.specs.version_words.specs.TableState.{TableState, IsOf}
use Rattle.settled_tables.specs.closed_words.specs.version_words.specs.Events.{Makes}
use Rattle.settled_tables.specs.closed_words.specs.version_words.specs.Naming.{load_of}
use Rattle.settled_tables.specs.closed_words.specs.version_words.specs.Stages.{IsAt}
use Rattle.settled_tables.specs.closed_words.specs.version_words.proofs.Stages.{then_loaded_cell}
use Rattle.hash_table.specs.try_lock.specs.epoch_slots.specs.Entries.{Enters}
use Rattle.hash_table.specs.try_lock.specs.epoch_slots.proofs.Outside.{nodes_made, descriptors_made, no_fewer_blocks, guards_made, reads_made, known_made}
use Rattle.hash_table.specs.try_lock.specs.Reached.{IsReached}
use Rattle.hash_table.specs.try_lock.proofs.Watching.{same_looked}
use Rattle.lock_attempts.specs.attempts.specs.runner_facts.proofs.Names.{pair_last}
use Rattle.lock_attempts.specs.attempts.proofs.Held.{read_within, read_few}
use Rattle.lock_tests.specs.Workers.{IsReady, HasRead}

module _ {T : Type 0} (m : Meaning) (laws : Laws m) (t : TableState T) where
  pub then_read : (idle entered r : RunnerState T) (number place word : ℕ) → IsOf t r → m.is_lock place ≡ true → IsReady number idle → Enters m idle entered
      → Makes m (load_of entered.part.run place) word entered r → HasRead m place word r
  then_read idle entered r number place word own lock ready enters made =
      let resting = enters.at.resting in
      let load : Makes m (kinds.LoadCell (Some place)) word entered r = subst (λ o. Makes m (load_of o place) word entered r) resting made in
      let nodes : r.part.nodes ≡ idle.part.nodes = nodes_made m (kinds.LoadCell (Some place)) word entered r load resting ∙ enters.keeps.nodes in
      let descriptors : r.part.descriptors ≡ idle.part.descriptors = descriptors_made m (kinds.LoadCell (Some place)) word entered r load resting ∙ enters.keeps.descriptors in
      let at : IsAt r (stages.Entered enters.epoch) None = then_loaded_cell m word enters.epoch place entered r None made enters.at in
      let read : has_pair r.part.reads.cells place word ≡ true = ap (λ (s : ReadsState). has_pair s.cells place word) (reads_made m (kinds.LoadCell (Some place)) word entered r load resting)
      ∙ pair_last entered.part.reads.cells place word in
      let reached : IsReached m r = record { world = made.shown.world; reached = made.shown.reached; own = made.shown.own } in
      record {
        epoch = enters.epoch;
        at = at;
        read = read;
        watch = λ names. record {
          epoch = enters.epoch;
          at = at;
          lock = lock;
          within = read_within m laws r (own.limits r.layout own.layout) (own.allowed r.requests own.requests) reached place word read;
          names = names;
          few = read_few m laws r (own.limits r.layout own.layout) (own.allowed r.requests own.requests) reached place word read lock names;
        };
        knows = known_made m (kinds.LoadCell (Some place)) word entered r load resting ∙ (enters.keeps.known ∙ ready.fresh.knows);
        reserve = record {
          nodes = subst (λ (n : NodesState). 2 ≤ length n.free) (sym nodes) ready.reserve.nodes;
          descriptors = subst (λ (d : DescriptorsState). 1 ≤ length d.free) (sym descriptors) ready.reserve.descriptors;
          blocks = (let had = ready.reserve.blocks in let entered_too = enters.keeps.blocks in
              let more = no_fewer_blocks m (kinds.LoadCell (Some place)) word entered r load resting in omega (arith, had, entered_too, more));
        };
        hand = record {
          hand = ap (λ (n : NodesState). n.hand) nodes ∙ ready.fresh.tidy.hand;
          tests = ap (λ (n : NodesState). n.tests) nodes ∙ ready.fresh.tidy.tests;
          looked = ap (λ (g : GuardsState). g.looked) (guards_made m (kinds.LoadCell (Some place)) word entered r load resting)
              ∙ (same_looked entered.part.guards (m.is_lock place) word ∙ ap (λ (g : GuardsState). g.looked) enters.guards);
        };
        reached = reached;
      }
