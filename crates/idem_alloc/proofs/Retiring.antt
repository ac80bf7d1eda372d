-- A retirement in a run.
use Rattle.std.proofs.Common.{◌≡◌, ℕ, ◌+◌, ◌≤◌, length, Bool, true, false, refl, sym, ap, subst, ◌∙◌, cond, add-one, arith, Option, Some}
use Rattle.std.specs.Prelude.{◌==◌, is_some, if◌then◌else◌}
use Rattle.std.proofs.lemmas.Bool.Decides.{nat_tests}
use Rattle.runner_steps.specs.body_terms.specs.declared.micro.Micro.TheVariants.{EpochForRetire, RetireCommit}
use Rattle.runner_steps.specs.body_terms.specs.Line.{micro_at}
use Rattle.runner_steps.specs.body_terms.specs.Run.{written_once}
use Rattle.section_lines.proofs.Ordered.{is_ordered}
use Rattle.runner_steps.specs.table_words.specs.declared.spot.Spot.TheVariants.{Epoch}
use Rattle.runner_steps.specs.table_words.specs.declared.access.Access.TheVariants.{Loads, Exchanges}
use Rattle.runner_steps.specs.table_words.specs.Limits.{IsWithinLimits}
use Rattle.section_lines.specs.structure_laws.specs.Meaning.{Meaning}
use Rattle.section_lines.specs.structure_laws.specs.Laws.{Laws}
use Rattle.runner_steps.specs.runner_parts.specs.declared.event.EventKind.TheVariants as kinds
use Rattle.runner_steps.specs.runner_parts.specs.State.{RunState, NodesState, BlocksState}
use Rattle.runner_steps.specs.block_words.specs.Blocks.{log_spot, blocks_for}
use Rattle.runner_steps.specs.runner_parts.specs.Lists.{slot_retired}
use Rattle.runner_steps.specs.Sections.{thunk_of, line_of, next_of, commits_to, needs_link}
use Rattle.runner_steps.specs.AfterInRun.{goes_on, agrees}
use Rattle.machine_epochs.proofs.RunPlaces.{next_in_line}
use Rattle.commit_log.specs.version_words.specs.machine_invariant.specs.After.{AreAllowed}
use Rattle.commit_log.specs.version_words.specs.RunnerState.{RunnerState}
use Rattle.commit_log.specs.version_words.specs.TableState.{TableState, IsOf}
use Rattle.commit_log.specs.version_words.specs.Events.{met_by, IsEnabled, Makes}
use Rattle.commit_log.specs.version_words.specs.Place.{next_log, KnowsPart}
use Rattle.commit_log.specs.Runs.{IsRunning, Stepped}
use Rattle.commit_log.specs.Links.{MayLink, HasLinked}
use Rattle.commit_log.proofs.Running.{may_make, goes_behind, unneeded, knows_part, then_made}
use Rattle.commit_log.proofs.Linking.{linked_ahead}
use Rattle.commit_log.proofs.Next.{settled_next}
use Rattle.idem_alloc.specs.Retired.{nodes_retired, retired_word, MayRetire, HasRetired}

-- both words agree on the slot
agreed_slot : (first : Bool) (slot : ℕ) → written_once (retired_word first slot) (slot + 1) ≡ slot + 1
agreed_slot true slot = refl
agreed_slot false slot = by (slot + 1 == 0)
  where
    by : (b : Bool) → cond b (slot + 1) (slot + 1) ≡ slot + 1
    by true = refl
    by false = refl

retired_nodes : (first : Bool) (n : NodesState) (slot epoch : ℕ) → (if retired_word first slot == 0 then slot_retired n slot epoch else n) ≡ nodes_retired first n slot epoch
retired_nodes true n slot epoch = refl
retired_nodes false n slot epoch = let e : (slot + 1 == 0) ≡ false = grind (arith, nat_tests) in ap (λ b. if b then slot_retired n slot epoch else n) e

module _ {T : Type 0} (m : Meaning) (laws : Laws m) (t : TableState T) (limits : IsWithinLimits t.layout) (allowed : AreAllowed t.requests) where
  module _ (r : RunnerState T) (own : IsOf t r) (slot : ℕ) (q : RunState) (may : MayRetire m r slot q) where
    pub may_load : IsEnabled m kinds.EpochForRetire r
    may_load = record { met = (Epoch, Loads); asked = may_make m laws t limits allowed r own q may.running (EpochForRetire slot may.log) may.next refl refl }

    pub loads : (found : ℕ) (r' : RunnerState T) → Makes m kinds.EpochForRetire found r r' → Stepped m q (EpochForRetire slot may.log) found r r'
    loads found r' made = then_made m laws t limits allowed r own q may.running (EpochForRetire slot may.log) may.next refl refl found r' made

    -- behind it stands its commit
    commit_next : (epoch : ℕ) → next_of m (goes_on m r.layout q epoch) ≡ RetireCommit slot may.log
    commit_next epoch = settled_next m r.layout (record q { at = q.at + 1; word = epoch }) (RetireCommit slot may.log)
        (ap (micro_at (line_of m q)) (add-one q.at) ∙ (is_ordered (m.body (thunk_of q.opened))).retire_next q.at slot may.log (next_in_line m q (EpochForRetire slot may.log) refl may.next)) refl

    module _ (epoch : ℕ) (r' : RunnerState T) (own' : IsOf t r') (step : Stepped m q (EpochForRetire slot may.log) epoch r r') where
      abbrev behind : RunState
      behind = goes_on m r.layout q epoch

      pub running : IsRunning m r' behind
      running = step.goes_on behind step.behind.run

      -- it has a block for the slot's word where one is to be linked
      pub may_link : MayLink m r' behind
      may_link = record {
        running = running;
        commits = ap commits_to (commit_next epoch) ∙ ap (λ (n : ℕ). Some n) (goes_behind m laws t limits allowed r' own' behind running (RetireCommit slot may.log) (commit_next epoch) may.log refl);
        room = subst (λ (b : BlocksState). blocks_for (length q.trail + 1) ≤ length q.links + (if is_some q.block then 1 else 0) + length b.free) (sym step.behind.blocks) may.room;
      }

      -- and behind the link
      module _ (linked : RunnerState T) (own'' : IsOf t linked) (between : RunState) (links : HasLinked m r' linked behind between) where
        on : next_of m between ≡ RetireCommit slot may.log
        on = linked_ahead m r' linked behind between links (RetireCommit slot may.log) (commit_next epoch)

        unlinked : needs_link between (RetireCommit slot may.log) ≡ false
        unlinked = unneeded m laws t limits allowed linked own'' between links.running (RetireCommit slot may.log) on links.linked

        pub may_commit : met_by m linked kinds.RetireCommit ≡ Some (next_log linked.part.run, Exchanges 0 (slot + 1))
        may_commit = may_make m laws t limits allowed linked own'' between links.running (RetireCommit slot may.log) on unlinked refl
            ∙ (ap (λ k. Some (log_spot between.descriptor between.links k, Exchanges 0 (slot + 1))) (goes_behind m laws t limits allowed linked own'' between links.running (RetireCommit slot may.log) on may.log refl)
            ∙ ap (λ (o : Option RunState). Some (next_log o, Exchanges 0 (slot + 1))) (sym links.running.inside.running))

        pub knows : KnowsPart linked.part.run
        knows = knows_part m linked between links.running links.linked

        pub commits : (first : Bool) (r'' : RunnerState T) → Makes m kinds.RetireCommit (retired_word first slot) linked r''
            → Stepped m between (RetireCommit slot may.log) (retired_word first slot) linked r''
        commits first r'' made = then_made m laws t limits allowed linked own'' between links.running (RetireCommit slot may.log) on unlinked refl (retired_word first slot) r'' made

        pub then_retired : (first : Bool) (r'' : RunnerState T) → Stepped m between (RetireCommit slot may.log) (retired_word first slot) linked r'' → HasRetired m slot r r'' q
        then_retired first r'' commit =
            let nodes : linked.part.nodes ≡ r.part.nodes = links.same.nodes ∙ step.behind.nodes in
            let word : between.word ≡ epoch = ap (λ (y : RunState). y.word) links.line in
            let layout : linked.layout ≡ r.layout = links.same.layout ∙ ap (λ (y : RunnerState T). y.layout) step.event.made in
            record {
              log = may.log;
              epoch = epoch;
              first = first;
              middle = r';
              load = step;
              between = between;
              linked = linked;
              links = links;
              commit = commit;
              nodes = commit.behind.nodes ∙ ((λ i. if retired_word first slot == 0 then slot_retired (nodes i) slot (word i) else nodes i) ∙ retired_nodes first r.part.nodes slot epoch);
              goes_on = commit.goes_on (agrees m r.layout between (slot + 1)) (commit.behind.run ∙ (λ i. Some (agrees m (layout i) between (agreed_slot first slot i))));
            }
