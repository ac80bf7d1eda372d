-- The first half of a Take in a run.
use Rattle.std.proofs.Common.{◌≡◌, ℕ, suc, ◌+◌, ◌<◌, ◌≤◌, List, [], ◌∷◌, ◌++◌, length, length-append, Bool, refl, sym, ap, subst, ◌∙◌, arith, slice_index, Some, None}
use Rattle.std.specs.Prelude.{is_some, if◌then◌else◌}
use Rattle.machine_states.specs.body_terms.specs.declared.step.Step.TheVariants.{Take}
use Rattle.machine_states.specs.body_terms.specs.declared.micro.Micro.TheVariants.{NestedLoad, NestedCommit, CheckFree, NestedHold}
use Rattle.machine_states.specs.body_terms.specs.Shape.{IsStep}
use Rattle.machine_states.specs.body_terms.specs.Line.{begins, micro_at, micros, is_check, registers_before}
use Rattle.machine_states.specs.body_terms.specs.Run.{leaves, settled}
use Rattle.machine_states.specs.body_terms.proofs.LineLemmas.{micro_within}
use Rattle.section_lines.proofs.Resting.{rests_at}
use Rattle.machine_states.specs.table_words.specs.declared.layout.Layout.{Layout}
use Rattle.machine_states.specs.table_words.specs.declared.spot.Spot.TheVariants.{Cell}
use Rattle.machine_states.specs.table_words.specs.declared.access.Access.TheVariants.{Loads}
use Rattle.machine_states.specs.table_words.specs.Limits.{IsWithinLimits}
use Rattle.machine_states.specs.structure_laws.specs.Meaning.{Meaning}
use Rattle.machine_states.specs.structure_laws.specs.Laws.{Laws}
use Rattle.machine_states.specs.runner_parts.specs.declared.event.EventKind.TheVariants as kinds
use Rattle.machine_states.specs.runner_parts.specs.State.{RunState, BlocksState}
use Rattle.machine_states.specs.runner_steps.specs.Sections.{thunk_of, line_of, next_of, commits_to, setting_of}
use Rattle.machine_states.specs.runner_steps.specs.AfterInRun.{goes_on, agrees}
use Rattle.machine_facts.specs.machine_invariant.specs.After.{AreAllowed}
use Rattle.commit_log.specs.version_words.specs.RunnerState.{RunnerState}
use Rattle.commit_log.specs.version_words.specs.TableState.{TableState, IsOf}
use Rattle.commit_log.specs.version_words.specs.Events.{met_by, Makes}
use Rattle.commit_log.specs.Runs.{IsRunning, Stepped}
use Rattle.commit_log.specs.Links.{links_cost, MayLink, HasLinked}
use Rattle.commit_log.specs.next_steps.specs.Steps.{stock}
use Rattle.commit_log.specs.Committed.{MayCommit, HasCommitted}
use Rattle.commit_log.proofs.Running.{may_make, goes_behind, then_made}
use Rattle.commit_log.proofs.Committing.{commit_blocks}
use Rattle.commit_log.proofs.Linking.{cost_more, linked_ahead}
use Rattle.commit_log.proofs.Next.{next_here, settled_at, settled_next}
use Rattle.nested_lock.specs.Answers.{first_outcome}
use Rattle.nested_lock.specs.Taken.{IsInTake, MayTake, MayHold, HasRead}

-- the log's place of a Take
abbrev pub log_of : (m : Meaning) (place expected past : ℕ) (q : RunState) → IsInTake m place expected past q → ℕ
log_of m place expected past q is = (registers_before (m.body (thunk_of q.opened)) is.step).count

-- which atomic step stands there
pub stands : (m : Meaning) (place expected past : ℕ) (q : RunState) (is : IsInTake m place expected past q) (i at : ℕ) → i < 7
    → at ≡ begins (m.body (thunk_of q.opened)) is.step + i
    → micro_at (line_of m q) at ≡ micro_at (micros (registers_before (m.body (thunk_of q.opened)) is.step) (Take place expected)) i
stands m place expected past q is i at few e = ap (micro_at (line_of m q)) e ∙ micro_within (m.body (thunk_of q.opened)) is.step i (Take place expected) is.takes few

pub index_last : (xs : List ℕ) (x k : ℕ) → k ≡ length xs → slice_index (xs ++ x ∷ []) k ≡ x
index_last xs x k e = ap (slice_index (xs ++ x ∷ [])) e ∙ last xs
  where
    last : (ys : List ℕ) → slice_index (ys ++ x ∷ []) (length ys) ≡ x
    last [] = refl
    last (y ∷ ys) = last ys

module _ {T : Type 0} (m : Meaning) (laws : Laws m) (t : TableState T) (limits : IsWithinLimits t.layout) (allowed : AreAllowed t.requests) (r : RunnerState T) (own : IsOf t r) (place expected : ℕ) (q : RunState) (may : MayTake m r place expected q) where
  abbrev log : ℕ
  log = log_of m place expected 0 q may.next

  ahead : next_of m q ≡ NestedLoad place log
  ahead = next_here m q (NestedLoad place log) (stands m place expected 0 q may.next 0 q.at (omega arith) may.next.at) refl

  pub may_load : met_by m r kinds.NestedLoad ≡ Some (Cell place, Loads)
  may_load = may_make m laws t limits allowed r own q may.running (NestedLoad place log) ahead refl refl

  pub loads : (found : ℕ) (r' : RunnerState T) → Makes m kinds.NestedLoad found r r' → Stepped m q (NestedLoad place log) found r r'
  loads found r' made = then_made m laws t limits allowed r own q may.running (NestedLoad place log) ahead refl refl found r' made

  commit_there : micro_at (line_of m q) (q.at + 1) ≡ NestedCommit place log
  commit_there = stands m place expected 0 q may.next 1 (q.at + 1) (omega arith) (let e = may.next.at in omega (arith, e))

  -- behind it stands its commit
  commit_ahead : (found : ℕ) → next_of m (goes_on m r.layout q found) ≡ NestedCommit place log
  commit_ahead found = settled_next m r.layout (record q { at = q.at + 1; word = found }) (NestedCommit place log) commit_there refl

  module _ (found : ℕ) (r' : RunnerState T) (own' : IsOf t r') (step : Stepped m q (NestedLoad place log) found r r') where
    abbrev looked : RunState
    looked = goes_on m r.layout q found

    running : IsRunning m r' looked
    running = step.goes_on looked step.behind.run

    -- how many words were agreed on
    length_is : log ≡ length q.trail
    length_is = goes_behind m laws t limits allowed r' own' looked running (NestedCommit place log) (commit_ahead found) log refl

    layouts : r'.layout ≡ r.layout
    layouts = ap (λ (y : RunnerState T). y.layout) step.event.made

    stocks : stock r'.part looked ≡ stock r.part q
    stocks = ap (λ (b : BlocksState). length q.links + (if is_some q.block then 1 else 0) + length b.free) step.behind.blocks

    -- it has a block for the word where one is to be linked
    pub link_next : MayLink m r' looked
    link_next = record {
      running = running;
      commits = ap commits_to (commit_ahead found) ∙ ap (λ (n : ℕ). Some n) length_is;
      room = (let had = may.room in let same = stocks in omega (arith, had, same));
    }

    -- the first word was the expected one, free and not spent: the exchange stands next
    goes_past : (read : ℕ) → first_outcome r.layout.version_max place expected read ≡ None → (agrees m r.layout looked read).at ≡ begins (m.body (thunk_of q.opened)) may.next.step + 3
    goes_past read none =
        let trail = q.trail ++ read ∷ [] in
        let s = setting_of r.layout q.descriptor in
        let b = begins (m.body (thunk_of q.opened)) may.next.step in
        let one : looked.at ≡ q.at + 1 = ap (λ (p : RunState). p.at) (settled_at m r.layout (record q { at = q.at + 1; word = found }) (NestedCommit place log) commit_there refl) in
        let two : looked.at + 1 ≡ b + 2 = (let e = may.next.at in omega (arith, e, one)) in
        let there : micro_at (line_of m q) (b + 2) ≡ CheckFree place log expected = stands m place expected 0 q may.next 2 (b + 2) (omega arith) refl in
        let next : micro_at (line_of m q) (suc (b + 2)) ≡ NestedHold place expected = stands m place expected 0 q may.next 3 (suc (b + 2)) (omega arith) (omega arith) in
        let passes : leaves s trail (CheckFree place log expected) ≡ None = ap (λ n. first_outcome r.layout.version_max place expected n) (index_last q.trail read log length_is) ∙ none in
        ap (settled s trail (line_of m q)) two
        ∙ ((rests_at s trail (line_of m q)).goes (b + 2) (ap is_check there) (ap (leaves s trail) there ∙ passes)
        ∙ ((rests_at s trail (line_of m q)).stays (suc (b + 2)) (ap is_check next) ∙ (let e : suc (b + 2) ≡ b + 3 = omega arith in e)))

    -- behind the link
    module _ (linked : RunnerState T) (between : RunState) (links : HasLinked m r' linked looked between) where
      pub commit_next : MayCommit m linked found between
      commit_next = record {
        running = links.running;
        micro = NestedCommit place log;
        next = linked_ahead m r' linked looked between links (NestedCommit place log) (commit_ahead found);
        loaded = refl;
        linked = links.linked;
        word = sym (ap (λ (y : RunState). y.word) links.line);
      }

      -- where the run stands behind it
      abbrev behind : ℕ → RunState
      behind read = agrees m r.layout between read

      pub has_read : (read : ℕ) (first : Bool) (r'' : RunnerState T) → HasCommitted m read first linked r'' between → HasRead m place read r r'' q (behind read)
      has_read read first r'' commit = record {
        log = log;
        loaded = found;
        first = first;
        middle = r';
        load = step;
        between = between;
        linked = linked;
        links = links;
        commit = commit;
        after = refl;
        goes_on = subst (λ (l : Layout). IsRunning m r'' (agrees m l between read)) (links.same.layout ∙ layouts) commit.goes_on;
      }

      words : (read : ℕ) → length (between.trail ++ read ∷ []) ≡ length q.trail + 1
      words read = length-append between.trail (read ∷ []) ∙ ap (λ (y : RunState). length y.trail + 1) links.line

      -- the links for both words
      pub costs : (read : ℕ) (first : Bool) (r'' : RunnerState T) → HasCommitted m read first linked r'' between → links_cost 1 q + links_cost 1 (behind read) ≤ links_cost 2 q
      costs read first r'' commit = cost_more q may.running.enough 1 1 (behind read) (words read) (let more = links.links in omega (arith, more)) (has_read read first r'' commit).goes_on.enough

      pub hold_next : (read : ℕ) (first : Bool) (r'' : RunnerState T) → HasCommitted m read first linked r'' between
          → first_outcome r.layout.version_max place expected read ≡ None → MayHold m r'' place expected (behind read)
      hold_next read first r'' commit none = record {
        running = (has_read read first r'' commit).goes_on;
        next = record {
          step = may.next.step;
          takes = subst (λ (y : RunState). IsStep (m.body (thunk_of y.opened)) may.next.step (Take place expected)) (sym links.line) may.next.takes;
          at = ap (λ (y : RunState). (agrees m r.layout y read).at) links.line ∙ (goes_past read none
              ∙ ap (λ (y : RunState). begins (m.body (thunk_of y.opened)) may.next.step + 3) (sym links.line));
        };
        room = (let had = may.room in let kept = links.blocks in let same = stocks in
            let last = ap (λ (b : BlocksState). length between.links + (if is_some between.block then 1 else 0) + length b.free) (commit_blocks m linked r'' between read first commit) in
            let one = words read in
            omega (arith, had, kept, same, last, one));
      }
