-- A load in a run.
use Rattle.std.proofs.Common.{◌≡◌, ℕ, ◌+◌, ◌≤◌, Bool, length, refl, sym, ap, subst, ◌∙◌, add-one, Option, Some}
use Rattle.std.specs.Prelude.{is_some, if◌then◌else◌}
use Rattle.machine_states.specs.body_terms.specs.declared.micro.Micro.TheVariants.{LoadCell, Commit}
use Rattle.machine_states.specs.body_terms.specs.Line.{micro_at}
use Rattle.section_lines.proofs.Ordered.{is_ordered}
use Rattle.machine_states.specs.table_words.specs.declared.spot.Spot.TheVariants.{Cell}
use Rattle.machine_states.specs.table_words.specs.declared.access.Access.TheVariants.{Loads}
use Rattle.machine_states.specs.table_words.specs.Limits.{IsWithinLimits}
use Rattle.machine_states.specs.structure_laws.specs.Meaning.{Meaning}
use Rattle.machine_states.specs.structure_laws.specs.Laws.{Laws}
use Rattle.machine_states.specs.runner_parts.specs.State.{RunState, BlocksState}
use Rattle.machine_states.specs.body_terms.specs.block_words.specs.Blocks.{blocks_for}
use Rattle.machine_states.specs.runner_steps.specs.Sections.{thunk_of, line_of, next_of, commits_to}
use Rattle.machine_states.specs.runner_steps.specs.AfterInRun.{goes_on, agrees}
use Rattle.machine_epochs.proofs.RunPlaces.{next_in_line}
use Rattle.commit_log.specs.version_words.specs.machine_invariant.specs.After.{AreAllowed}
use Rattle.commit_log.specs.version_words.specs.RunnerState.{RunnerState}
use Rattle.commit_log.specs.version_words.specs.TableState.{TableState, IsOf}
use Rattle.commit_log.specs.version_words.specs.Events.{met_by, Makes}
use Rattle.commit_log.specs.version_words.specs.Naming.{load_of}
use Rattle.commit_log.specs.Runs.{IsRunning, Stepped}
use Rattle.commit_log.specs.Links.{MayLink, HasLinked}
use Rattle.commit_log.specs.Committed.{MayCommit, HasCommitted}
use Rattle.commit_log.proofs.Running.{may_make, goes_behind, then_made}
use Rattle.commit_log.proofs.Next.{settled_next}
use Rattle.idem_cell.specs.Loaded.{MayLoad, HasLoaded}

module _ {T : Type 0} (m : Meaning) (laws : Laws m) (t : TableState T) (limits : IsWithinLimits t.layout) (allowed : AreAllowed t.requests) (r : RunnerState T) (own : IsOf t r) (place : ℕ) (q : RunState) (may : MayLoad m r place q) where
  pub may_load : met_by m r (load_of r.part.run place) ≡ Some (Cell place, Loads)
  may_load = ap (λ (o : Option RunState). met_by m r (load_of o place)) may.running.inside.running
      ∙ may_make m laws t limits allowed r own q may.running (LoadCell place may.log) may.next refl refl

  pub loads : (found : ℕ) (r' : RunnerState T) → Makes m (load_of r.part.run place) found r r' → Stepped m q (LoadCell place may.log) found r r'
  loads found r' made = then_made m laws t limits allowed r own q may.running (LoadCell place may.log) may.next refl refl found r'
      (subst (λ (o : Option RunState). Makes m (load_of o place) found r r') may.running.inside.running made)

  -- behind it stands its commit
  pub commit_ahead : (found : ℕ) → next_of m (goes_on m r.layout q found) ≡ Commit place may.log
  commit_ahead found = settled_next m r.layout (record q { at = q.at + 1; word = found }) (Commit place may.log)
      (ap (micro_at (line_of m q)) (add-one q.at) ∙ (is_ordered (m.body (thunk_of q.opened))).load_next q.at place may.log (next_in_line m q (LoadCell place may.log) refl may.next)) refl

  -- before which a block may be linked
  pub link_next : (found : ℕ) (r' : RunnerState T) (own' : IsOf t r') → Stepped m q (LoadCell place may.log) found r r' → MayLink m r' (goes_on m r.layout q found)
  link_next found r' own' step =
      let running = step.goes_on (goes_on m r.layout q found) step.behind.run in
      record {
        running = running;
        commits = ap commits_to (commit_ahead found)
            ∙ ap Some (goes_behind m laws t limits allowed r' own' (goes_on m r.layout q found) running (Commit place may.log) (commit_ahead found) may.log refl);
        room = subst (λ (b : BlocksState). blocks_for (length q.trail + 1) ≤ length q.links + (if is_some q.block then 1 else 0) + length b.free) (sym step.behind.blocks) may.room;
      }

  -- and behind the link it stands there still
  pub commit_next : (found : ℕ) (middle linked : RunnerState T) (between : RunState) → Stepped m q (LoadCell place may.log) found r middle
      → HasLinked m middle linked (goes_on m r.layout q found) between → MayCommit m linked found between
  commit_next found middle linked between step links = record {
    running = links.running;
    micro = Commit place may.log;
    next = ap (next_of m) links.line ∙ commit_ahead found;
    loaded = refl;
    linked = links.linked;
    word = sym (ap (λ (y : RunState). y.word) links.line);
  }

  pub then_loaded : (found : ℕ) (middle linked : RunnerState T) (between : RunState) → Stepped m q (LoadCell place may.log) found r middle
      → HasLinked m middle linked (goes_on m r.layout q found) between → (agreed : ℕ) (first : Bool) (r' : RunnerState T)
      → HasCommitted m agreed first linked r' between → HasLoaded m place agreed r r' q
  then_loaded found middle linked between step links agreed first r' committed = record {
    log = may.log;
    found = found;
    first = first;
    middle = middle;
    load = step;
    between = between;
    linked = linked;
    links = links;
    commit = committed;
    goes_on = subst (λ l. IsRunning m r' (agrees m l between agreed)) (links.same.layout ∙ ap (λ (y : RunnerState T). y.layout) step.event.made) committed.goes_on;
  }
