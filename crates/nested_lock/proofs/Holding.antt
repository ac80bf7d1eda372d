-- The second half of a Take in a run.
use Rattle.std.proofs.Common.{◌≡◌, ℕ, suc, ◌+◌, ◌-◌, ◌^◌, ◌<◌, ◌≤◌, List, [], ◌∷◌, ◌++◌, length, Bool, true, false, cond, refl, sym, ap, ◌∙◌, subst, arith, Option, Some, None}
use Rattle.std.specs.Prelude.{◌&&◌, ◌==◌, nat_lt, is_some, if◌then◌else◌, Result, slice_get}
use Rattle.std.proofs.lemmas.Bool.Decides.{nat_tests}
use Rattle.machine_states.specs.body_terms.specs.declared.outcome.Refused.{Refused}
use Rattle.machine_states.specs.body_terms.specs.declared.micro.Micro.TheVariants.{NestedHold, OutcomeLoad, OutcomeCommit}
use Rattle.machine_states.specs.body_terms.specs.Line.{micro_at}
use Rattle.machine_states.specs.body_terms.specs.Run.{written_once}
use Rattle.machine_states.specs.body_terms.specs.Word.{version_of, held_word}
use Rattle.machine_states.specs.table_words.specs.Access.{written}
use Rattle.machine_states.specs.table_words.specs.Places.{descriptor_count}
use Rattle.machine_states.specs.table_words.specs.declared.layout.Layout.{Layout}
use Rattle.machine_states.specs.table_words.specs.declared.spot.Spot.{Spot}
use Rattle.machine_states.specs.table_words.specs.declared.spot.Spot.TheVariants.{Cell}
use Rattle.machine_states.specs.table_words.specs.declared.access.Access.{Access}
use Rattle.machine_states.specs.table_words.specs.declared.access.Access.TheVariants.{Loads, Exchanges}
use Rattle.machine_states.specs.table_words.specs.Limits.{IsWithinLimits}
use Rattle.machine_states.specs.structure_laws.specs.Meaning.{Meaning}
use Rattle.machine_states.specs.structure_laws.specs.Laws.{Laws}
use Rattle.machine_states.specs.runner_parts.specs.declared.event.EventKind.TheVariants as kinds
use Rattle.machine_states.specs.runner_parts.specs.State.{RunState, PartState, BlocksState}
use Rattle.machine_states.specs.body_terms.specs.block_words.specs.Blocks.{log_spot, blocks_for}
use Rattle.machine_states.specs.runner_steps.specs.Sections.{line_of, next_of, commits_to, needs_link}
use Rattle.machine_states.specs.runner_steps.specs.AfterInRun.{goes_on, agrees}
use Rattle.machine_states.specs.Sight.{part_or_first}
use Rattle.machine_states.proofs.Sights.{if_some}
use Rattle.machine_states.proofs.Steps.{some_same}
use Rattle.machine_facts.specs.machine_invariant.specs.After.{AreAllowed}
use Rattle.machine_facts.specs.Got.{HasGot}
use Rattle.machine_facts.proofs.Got.{reached_got_held}
use Rattle.commit_log.specs.version_words.specs.RunnerState.{RunnerState}
use Rattle.commit_log.specs.version_words.specs.TableState.{TableState, IsOf}
use Rattle.commit_log.specs.version_words.specs.Events.{met_by, Makes, Leaves}
use Rattle.commit_log.specs.version_words.specs.Place.{next_log, KnowsPart, held_by_run}
use Rattle.commit_log.specs.version_words.proofs.Inside.{few_descriptors}
use Rattle.commit_log.specs.Runs.{IsRunning, Stepped}
use Rattle.commit_log.specs.Links.{MayLink, HasLinked}
use Rattle.commit_log.proofs.Running.{may_make, asked_there, goes_behind, unneeded, knows_part, then_made}
use Rattle.commit_log.proofs.Linking.{linked_ahead}
use Rattle.commit_log.proofs.Next.{next_here, settled_at, settled_next}
use Rattle.nested_lock.specs.Answers.{left_by, second_outcome, outcome_at}
use Rattle.nested_lock.specs.Held.{IsHeld}
use Rattle.nested_lock.specs.Taken.{MayHold, HasHeld}
use Rattle.nested_lock.proofs.Reading.{log_of, stands}
use Rattle.nested_lock.proofs.Halves.{ok_none}

both : (a b c d : ℕ) → (nat_lt a b && nat_lt c d) ≡ true → (a < b) × (c < d)
both a b c d e = (grind (arith, nat_tests, e), grind (arith, nat_tests, e))

-- the last of a list
get_behind : (xs : List ℕ) (x k : ℕ) → k ≡ length xs → slice_get (xs ++ x ∷ []) k ≡ Some x
get_behind xs x k e = ap (slice_get (xs ++ x ∷ [])) e ∙ last xs
  where
    last : (ys : List ℕ) → slice_get (ys ++ x ∷ []) (length ys) ≡ Some x
    last [] = refl
    last (y ∷ ys) = last ys

-- no outcome: the word names the section
named_by : (version_max descriptor place expected read : ℕ) → second_outcome version_max descriptor place expected read ≡ None
    → read ≡ held_word descriptor expected
named_by version_max descriptor place expected read none = by (read == held_word descriptor expected) refl none
  where
    same : (a b : ℕ) → (a == b) ≡ true → a ≡ b
    same a b e = grind (arith, nat_tests)

    by : (b : Bool) → (read == held_word descriptor expected) ≡ b → cond b None (Some (left_by version_max place expected read)) ≡ None
        → read ≡ held_word descriptor expected
    by true is e = same read (held_word descriptor expected) is
    by false is e = absurd (let z = e in cc)

module _ {T : Type 0} (m : Meaning) (laws : Laws m) (t : TableState T) (limits : IsWithinLimits t.layout) (allowed : AreAllowed t.requests) (r : RunnerState T) (own : IsOf t r) (place expected : ℕ) (q : RunState) (may : MayHold m r place expected q) where
  abbrev log : ℕ
  log = log_of m place expected 3 q may.next + 1

  ahead : next_of m q ≡ NestedHold place expected
  ahead = next_here m q (NestedHold place expected) (stands m place expected 3 q may.next 3 q.at (omega arith) may.next.at) refl

  pub may_hold : met_by m r kinds.NestedHold ≡ Some (Cell place, Exchanges expected (held_by_run r.part.run expected))
  may_hold = may_make m laws t limits allowed r own q may.running (NestedHold place expected) ahead refl refl
      ∙ ap (λ (o : Option RunState). Some (Cell place, Exchanges expected (held_by_run o expected))) (sym may.running.inside.running)

  rooms : (q.descriptor < descriptor_count r.layout) × (version_of expected < r.layout.version_max)
  rooms = both q.descriptor (descriptor_count r.layout) (version_of expected) r.layout.version_max
      (if_some _ _ _ (asked_there m laws t limits allowed r own q may.running (NestedHold place expected) ahead refl refl)).0

  pub few_versions : version_of expected < 2 ^ 32 - 1
  few_versions = let a = rooms.1 in let b = limits.few_versions in let c = ap (λ (l : Layout). l.version_max) own.layout in omega (arith, a, b, c)

  pub few_held : q.descriptor < 2 ^ 32 - 1
  few_held = let a = rooms.0 in let b = few_descriptors t.layout limits in let c = ap descriptor_count own.layout in omega (arith, a, b, c)

  pub holds : (found : ℕ) (r' : RunnerState T) → Makes m kinds.NestedHold found r r' → Stepped m q (NestedHold place expected) found r r'
  holds found r' made = then_made m laws t limits allowed r own q may.running (NestedHold place expected) ahead refl refl found r' made

  -- behind the exchange the lock is loaded again
  abbrev held : RunState
  held = goes_on m r.layout q q.word

  load_there : micro_at (line_of m q) (q.at + 1) ≡ OutcomeLoad place log
  load_there = stands m place expected 3 q may.next 4 (q.at + 1) (omega arith) (let e = may.next.at in omega (arith, e))

  load_ahead : next_of m held ≡ OutcomeLoad place log
  load_ahead = settled_next m r.layout (record q { at = q.at + 1; word = q.word }) (OutcomeLoad place log) load_there refl

  held_at : held.at ≡ q.at + 1
  held_at = ap (λ (p : RunState). p.at) (settled_at m r.layout (record q { at = q.at + 1; word = q.word }) (OutcomeLoad place log) load_there refl)

  module _ (found : ℕ) (r2 : RunnerState T) (own2 : IsOf t r2) (hold : Stepped m q (NestedHold place expected) found r r2) where
    running2 : IsRunning m r2 held
    running2 = hold.goes_on held hold.behind.run

    same2 : r2.layout ≡ r.layout
    same2 = ap (λ (y : RunnerState T). y.layout) hold.event.made

    pub may_look : met_by m r2 kinds.OutcomeLoad ≡ Some (Cell place, Loads)
    may_look = may_make m laws t limits allowed r2 own2 held running2 (OutcomeLoad place log) load_ahead refl refl

    pub looks : (loaded : ℕ) (r3 : RunnerState T) → Makes m kinds.OutcomeLoad loaded r2 r3 → Stepped m held (OutcomeLoad place log) loaded r2 r3
    looks loaded r3 made = then_made m laws t limits allowed r2 own2 held running2 (OutcomeLoad place log) load_ahead refl refl loaded r3 made

    module _ (loaded : ℕ) (r3 : RunnerState T) (own3 : IsOf t r3) (look : Stepped m held (OutcomeLoad place log) loaded r2 r3) where
      abbrev looked : RunState
      looked = goes_on m r.layout held loaded

      pub running3 : IsRunning m r3 looked
      running3 = look.goes_on looked (look.behind.run ∙ ap (λ (l : Layout). Some (goes_on m l held loaded)) same2)

      same3 : r3.layout ≡ r.layout
      same3 = ap (λ (y : RunnerState T). y.layout) look.event.made ∙ same2

      requests3 : r3.requests ≡ r.requests
      requests3 = ap (λ (y : RunnerState T). y.requests) look.event.made ∙ ap (λ (y : RunnerState T). y.requests) hold.event.made

      commit_ahead : next_of m looked ≡ OutcomeCommit place log
      commit_ahead = settled_next m r.layout (record held { at = held.at + 1; word = loaded }) (OutcomeCommit place log)
          (stands m place expected 3 q may.next 5 (held.at + 1) (omega arith) (let e = may.next.at in let f = held_at in omega (arith, e, f))) refl

      -- it has a block for the word where one is to be linked
      pub may_link : MayLink m r3 looked
      may_link = record {
        running = running3;
        commits = ap commits_to commit_ahead ∙ ap (λ (n : ℕ). Some n) (goes_behind m laws t limits allowed r3 own3 looked running3 (OutcomeCommit place log) commit_ahead log refl);
        room = subst (λ (b : BlocksState). blocks_for (length q.trail + 1) ≤ length q.links + (if is_some q.block then 1 else 0) + length b.free)
            (sym (look.behind.blocks ∙ hold.behind.blocks)) may.room;
      }

      -- and behind the link
      module _ (linked : RunnerState T) (own4 : IsOf t linked) (between : RunState) (links : HasLinked m r3 linked looked between) where
        on : next_of m between ≡ OutcomeCommit place log
        on = linked_ahead m r3 linked looked between links (OutcomeCommit place log) commit_ahead

        unlinked : needs_link between (OutcomeCommit place log) ≡ false
        unlinked = unneeded m laws t limits allowed linked own4 between links.running (OutcomeCommit place log) on links.linked

        behind_trail : log ≡ length between.trail
        behind_trail = goes_behind m laws t limits allowed linked own4 between links.running (OutcomeCommit place log) on log refl

        word : between.word ≡ loaded
        word = ap (λ (y : RunState). y.word) links.line

        layout4 : linked.layout ≡ r.layout
        layout4 = links.same.layout ∙ same3

        requests4 : linked.requests ≡ r.requests
        requests4 = links.same.requests ∙ requests3

        pub may_agree : met_by m linked kinds.OutcomeCommit ≡ Some (next_log linked.part.run, Exchanges 0 loaded)
        may_agree = may_make m laws t limits allowed linked own4 between links.running (OutcomeCommit place log) on unlinked refl
            ∙ ((λ i. Some (log_spot between.descriptor between.links (behind_trail i), Exchanges 0 (word i)))
            ∙ ap (λ (o : Option RunState). Some (next_log o, Exchanges 0 loaded)) (sym links.running.inside.running))

        pub knows : KnowsPart linked.part.run
        knows = knows_part m linked between links.running links.linked

        pub commits : (new : RunnerState T) (other : ℕ) → Makes m kinds.OutcomeCommit other linked new → Stepped m between (OutcomeCommit place log) other linked new
        commits new other made = then_made m laws t limits allowed linked own4 between links.running (OutcomeCommit place log) on unlinked refl other new made

        -- where the agreed word names the section, the lock is held by it
        module _ (read : ℕ) (new : RunnerState T) (layout : new.layout ≡ r.layout) (requests : new.requests ≡ r.requests)
            (running : IsRunning m new (agrees m r.layout between read)) (names : read ≡ held_word q.descriptor expected) where
          -- a link leaves the thunk that the run has loaded
          at_line : (i : ℕ) → micro_at (line_of m between) i ≡ micro_at (line_of m q) i
          at_line i = ap (λ (y : RunState). micro_at (line_of m y) i) links.line

          got : HasGot m (agrees m r.layout between read) place expected
          got = record {
            at = q.at;
            log = log;
            takes = at_line q.at ∙ stands m place expected 3 q may.next 3 q.at (omega arith) may.next.at;
            commits = at_line (suc (suc q.at)) ∙ stands m place expected 3 q may.next 5 (suc (suc q.at)) (omega arith) (let e = may.next.at in omega (arith, e));
            agreed = get_behind between.trail read log behind_trail ∙ ap Some (names ∙ ap (λ (y : RunState). held_word y.descriptor expected) (sym links.line));
          }

          descriptor : between.descriptor ≡ q.descriptor
          descriptor = ap (λ (y : RunState). y.descriptor) links.line

          is_held : IsHeld m place expected q.descriptor new
          is_held = subst (λ (d : ℕ). IsHeld m place expected d new) descriptor
              (λ w reached own'. reached_got_held m laws new.layout new.requests
              (subst IsWithinLimits (sym (layout ∙ own.layout)) limits) (subst AreAllowed (sym (requests ∙ own.requests)) allowed)
              w reached new.number place expected (agrees m r.layout between read)
              (ap (λ (p : PartState). p.run) (ap part_or_first own') ∙ running.inside.running) running.opened got)

        pub then_held : (read : ℕ) (new : RunnerState T) (made : Leaves m kinds.OutcomeCommit read linked new) (answer : Result (Unit {0}) Refused)
            → Stepped m between (OutcomeCommit place log) made.found linked new
            → second_outcome r.layout.version_max q.descriptor place expected read ≡ outcome_at place answer → HasHeld m place expected read answer r new q
        then_held read new made answer commit told =
            let met = some_same made.event.met (next_log linked.part.run, Exchanges 0 loaded) (sym made.event.asked ∙ may_agree) in
            let agreed : read ≡ written_once made.found loaded = made.told ∙ ap (λ (x : Spot × Access). written x.1 made.found) met in
            let left : written_once made.found between.word ≡ read = ap (written_once made.found) word ∙ sym agreed in
            let rest = commit.goes_on (agrees m r.layout between read) (commit.behind.run ∙ (λ i. Some (agrees m (layout4 i) between (left i)))) in
            record {
              log = log;
              held = found;
              loaded = loaded;
              found = made.found;
              holding = r2;
              looking = r3;
              hold = hold;
              load = look;
              between = between;
              linked = linked;
              links = links;
              commit = commit;
              agreed = agreed;
              told = told;
              got = λ ok. is_held read new (ap (λ (y : RunnerState T). y.layout) commit.event.made ∙ layout4)
                  (ap (λ (y : RunnerState T). y.requests) commit.event.made ∙ requests4) rest
                  (named_by r.layout.version_max q.descriptor place expected read (told ∙ ok_none place answer ok));
              goes_on = rest;
            }
