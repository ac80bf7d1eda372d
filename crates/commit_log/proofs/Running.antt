-- A runner in a run may make the step that stands next, and is behind it then; and so it may link a block before.
use Rattle.std.proofs.Common.{◌≡◌, ℕ, zero, suc, ◌+◌, ◌-◌, ◌≤◌, inl, inr, [], ◌∷◌, ◌++◌, length, length-append, Bool, true, false, refl, sym, ap, subst, ◌∙◌, arith, Option, Some, None}
use Rattle.std.specs.Prelude.{◌*◌, ◌/◌, is_some, nat_lt, if◌then◌else◌}
use Rattle.std.proofs.lemmas.Bool.Decides.{nat_tests}
use Rattle.machine_states.specs.body_terms.specs.declared.micro.Micro.{Micro}
use Rattle.machine_states.specs.body_terms.specs.declared.micro.Micro.TheVariants as micros
use Rattle.machine_states.specs.body_terms.specs.Line.{is_end}
use Rattle.machine_states.specs.body_terms.specs.Run.{written_once}
use Rattle.machine_states.specs.body_terms.specs.Word.{value_of}
use Rattle.machine_states.specs.table_words.specs.declared.layout.Layout.{Layout}
use Rattle.machine_states.specs.table_words.specs.Limits.{IsWithinLimits}
use Rattle.machine_states.specs.table_words.specs.Places.{part_words, block_words}
use Rattle.machine_states.specs.structure_laws.specs.Meaning.{Meaning}
use Rattle.machine_states.specs.structure_laws.specs.Laws.{Laws}
use Rattle.machine_states.specs.runner_parts.specs.declared.event.EventKind.{EventKind}
use Rattle.machine_states.specs.runner_parts.specs.State.{RunState, PartState}
use Rattle.machine_states.specs.runner_steps.specs.Sections.{next_of, commits_to, is_beyond, needs_link}
use Rattle.machine_states.specs.runner_steps.specs.InRun.{make_slot}
use Rattle.machine_states.specs.runner_steps.specs.Asks.{line_ask}
use Rattle.version_words.specs.machine_invariant.specs.machine_blocks.specs.machine_guards.specs.machine_agreement.proofs.LineAsked.{line_asked}
use Rattle.machine_states.specs.runner_steps.specs.AfterInRun.{goes_on, ended_more, block_emptied, link_committed}
use Rattle.version_words.specs.machine_invariant.specs.After.{AreAllowed}
use Rattle.next_steps.specs.Steps.{slot_in, kind_at, ask_at, has_slot, next_block, link_kind, link_ask}
use Rattle.next_steps.specs.Stages.{filling_slot, run_behind, run_linked, IsBehind, IsLinked}
use Rattle.next_steps.proofs.Stages.{in_table, may_step, may_link, commits_behind, then_stepped, then_linked}
use Rattle.version_words.specs.RunnerState.{RunnerState}
use Rattle.version_words.specs.Place.{KnowsPart}
use Rattle.version_words.specs.TableState.{TableState, IsOf}
use Rattle.version_words.specs.Events.{met_by, Makes}
use Rattle.commit_log.specs.Runs.{IsRunning, Stepped, LinkStepped, Moved, Ran}
use Rattle.commit_log.specs.Links.{is_due, with_links}

-- the run of a runner that is in this one
pub run_same : (q p : RunState) → Some q ≡ Some p → q ≡ p
run_same q p e = ap of e
  where
    of : Option RunState → RunState
    of None = q
    of (Some x) = x

-- how many words a step commits
abbrev pub committed : Micro → ℕ
committed micro = if is_some (commits_to micro) then 1 else 0

-- a run behind a step of another one that commits so many words: it has loaded the same, linked the same, and has the
-- same block in its hand
record Keeps (more : ℕ) (q after : RunState) : Type 0 where
  opened : after.opened ≡ q.opened
  chain : with_links after q ≡ after
  trail : length after.trail ≡ length q.trail + more

-- no step behind the opening changes what that loaded, and a step of the line links nothing
module _ (m : Meaning) (l : Layout) (p : PartState) (q : RunState) (found : ℕ) where
  keeps : (x after : RunState) (more : ℕ) → Some x ≡ Some after → x.opened ≡ q.opened → with_links x q ≡ x
      → length x.trail ≡ length q.trail + more → Keeps more q after
  keeps x after more e opened chain trail =
      let same = sym (run_same x after e) in
      record {
        opened = ap (λ (y : RunState). y.opened) same ∙ opened;
        chain = subst (λ (y : RunState). with_links y q ≡ y) (sym same) chain;
        trail = ap (λ (y : RunState). length y.trail) same ∙ trail;
      }

  none_more : length q.trail ≡ length q.trail + 0
  none_more = omega arith

  one_more : (agreed : ℕ) → length (q.trail ++ agreed ∷ []) ≡ length q.trail + 1
  one_more agreed = length-append q.trail (agreed ∷ [])

  filled : (o : Option ℕ) (slot : ℕ) (after : RunState) → Some (goes_on m l (filling_slot o q slot) found) ≡ Some after → Keeps 0 q after
  filled None slot after e = keeps _ after 0 e refl refl none_more
  filled (Some t) slot after e = keeps _ after 0 e refl refl none_more

  released : (b : Bool) (after : RunState) → (if b then None else Some (ended_more q)) ≡ Some after → Keeps 0 q after
  released true after e = absurd (let z = e in cc)
  released false after e = keeps _ after 0 e refl refl none_more

  stays : (micro : Micro) (after : RunState) → run_behind m l p q micro found ≡ Some after → Keeps (committed micro) q after
  stays (micros.LoadCell place log) after e = keeps _ after 0 e refl refl none_more
  stays (micros.Commit place log) after e = keeps _ after 1 e refl refl (one_more _)
  stays (micros.CheckWord place log word) after e = keeps _ after 0 e refl refl none_more
  stays (micros.CheckFresh place log) after e = keeps _ after 0 e refl refl none_more
  stays (micros.NestedLoad place log) after e = keeps _ after 0 e refl refl none_more
  stays (micros.NestedCommit place log) after e = keeps _ after 1 e refl refl (one_more _)
  stays (micros.CheckFree place log word) after e = keeps _ after 0 e refl refl none_more
  stays (micros.NestedHold place word) after e = keeps _ after 0 e refl refl none_more
  stays (micros.OutcomeLoad place log) after e = keeps _ after 0 e refl refl none_more
  stays (micros.OutcomeCommit place log) after e = keeps _ after 1 e refl refl (one_more _)
  stays (micros.CheckHeld place log word) after e = keeps _ after 0 e refl refl none_more
  stays (micros.PrivateLoad cell log) after e = filled q.made (slot_in (make_slot q.made p.nodes.free)) after e
  stays (micros.PrivateStore cell log value) after e = keeps _ after 0 e refl refl none_more
  stays (micros.MakeCommit log) after e = keeps _ after 1 e refl refl (one_more _)
  stays micros.ClockLoad after e = keeps _ after 0 e refl refl none_more
  stays micros.StampExchange after e = keeps _ after 0 e refl refl none_more
  stays micros.ClockRaise after e = keeps _ after 0 e refl refl none_more
  stays (micros.ExchangeCell place log value) after e = keeps _ after 0 e refl refl none_more
  stays (micros.EpochForRetire slot log) after e = keeps _ after 0 e refl refl none_more
  stays (micros.RetireCommit slot log) after e = keeps _ after 1 e refl refl (one_more _)
  stays (micros.ReplyExchange reply) after e = keeps _ after 0 e refl refl none_more
  stays micros.End after e = keeps _ after 0 e refl refl none_more
  stays micros.SetDone after e = keeps _ after 0 e refl refl none_more
  stays (micros.Release place word) after e = released (is_end (next_of m (ended_more q))) after e

  pub opened_stays : (micro : Micro) (after : RunState) → run_behind m l p q micro found ≡ Some after → after.opened ≡ q.opened
  opened_stays micro after e = (stays micro after e).opened

  -- and a step of the line links nothing
  pub chain_stays : (micro : Micro) (after : RunState) → run_behind m l p q micro found ≡ Some after → with_links after q ≡ after
  chain_stays micro after e = (stays micro after e).chain

  pub trail_grows : (micro : Micro) (after : RunState) → run_behind m l p q micro found ≡ Some after → length after.trail ≡ length q.trail + committed micro
  trail_grows micro after e = (stays micro after e).trail

  -- a commit goes into a part that is linked, so behind it one link more is still enough
  pub enough_stays : (micro : Micro) (after : RunState) → run_behind m l p q micro found ≡ Some after
      → ((k : ℕ) → commits_to micro ≡ Some k → k ≡ length q.trail) → needs_link q micro ≡ false
      → length q.trail ≤ part_words * suc (length q.links) → length after.trail ≤ part_words * suc (length after.links)
  enough_stays micro after e behind linked enough = by (commits_to micro) refl
    where
      has : Keeps (committed micro) q after
      has = stays micro after e

      same : length after.links ≡ length q.links
      same = ap (λ (y : RunState). length y.links) (sym has.chain)

      by : (o : Option ℕ) → commits_to micro ≡ o → length after.trail ≤ part_words * suc (length after.links)
      by None none =
          let more = has.trail ∙ ap (λ (o : Option ℕ). length q.trail + (if is_some o then 1 else 0)) none in
          omega (arith, same, more, enough)
      by (Some k) some =
          let more = has.trail ∙ ap (λ (o : Option ℕ). length q.trail + (if is_some o then 1 else 0)) some in
          let at = behind k some in
          let in_part = not_less (length q.links) (k / part_words) (ap (is_beyond q) (sym some) ∙ linked) in
          omega (arith, same, more, at, in_part)
        where
          not_less : (a b : ℕ) → nat_lt a b ≡ false → b ≤ a
          not_less a b e = grind (arith, nat_tests)

-- a step by which the run links a block leaves its line where it was, and the run knows at most one block more
record KeepsLine (q after : RunState) : Type 0 where
  line : after ≡ with_links q after
  known : length q.links ≤ length after.links
  one : length after.links ≤ length q.links + 1

module _ (p : PartState) (q : RunState) (found : ℕ) where
  line_as : (x after : RunState) → Some x ≡ Some after → x ≡ with_links q x → length q.links ≤ length x.links → length x.links ≤ length q.links + 1
      → KeepsLine q after
  line_as x after e line known one = subst (KeepsLine q) (run_same x after e) (record { line = line; known = known; one = one })

  line_by : (b : Bool) (after : RunState)
      → (if b then Some (block_emptied (slot_in (next_block p q)) q) else (link_committed (slot_in q.block) p q found).run) ≡ Some after
      → KeepsLine q after
  line_by true after e = line_as _ after e refl (omega arith) (omega arith)
  line_by false after e =
      let long = length-append q.links (value_of (written_once found (slot_in q.block + 1) - 1) ∷ []) in line_as _ after e refl (omega (arith, long)) (omega (arith, long))

  line_stays : (after : RunState) → run_linked p q found ≡ Some after → KeepsLine q after
  line_stays after e = line_by (nat_lt q.emptied block_words) after e

  pub line_linked : (after : RunState) → run_linked p q found ≡ Some after → after ≡ with_links q after
  line_linked after e = (line_stays after e).line

  pub link_one : (after : RunState) → run_linked p q found ≡ Some after → length after.links ≤ length q.links + 1
  link_one after e = (line_stays after e).one

-- one step, and more
module _ {T : Type 0} (m : Meaning) where
  pub ran_one : (q : RunState) (micro : Micro) (found : ℕ) (a b : RunnerState T) → Stepped m q micro found a b → Ran m 1 a b
  ran_one q micro found a b step = (b, q, found, inl (micro, step), refl)

  pub ran_link : (q : RunState) (found : ℕ) (a b : RunnerState T) → LinkStepped m q found a b → Ran m 1 a b
  ran_link q found a b step = (b, q, found, inr step, refl)

  pub ran_more : (n k : ℕ) (a b c : RunnerState T) → Ran m n a b → Ran m k b c → Ran m (n + k) a c
  ran_more zero k a b c one two = let e : k ≡ 0 + k = omega arith in
      subst (λ i. Ran m i a c) e (subst (λ (x : RunnerState T). Ran m k x c) one two)
  ran_more (suc n) k a b c one two = let e : suc (n + k) ≡ suc n + k = omega arith in
      subst (λ i. Ran m i a c) e (one.0, one.1, one.2, one.3, ran_more n k one.0 b c one.4 two)

-- a step of either kind changes nothing of a runner but its part, and begins in this run
module _ {T : Type 0} (m : Meaning) (q : RunState) (found : ℕ) (a b : RunnerState T) where
  pub moved_same : Moved m q found a b → b ≡ record a { part = b.part }
  moved_same (inl step) = ap (λ (y : RunnerState T). record y { part = b.part }) step.1.event.made
  moved_same (inr step) = ap (λ (y : RunnerState T). record y { part = b.part }) step.event.made

  pub moved_layout : Moved m q found a b → b.layout ≡ a.layout
  moved_layout moved = ap (λ (y : RunnerState T). y.layout) (moved_same moved)

  pub moved_running : Moved m q found a b → IsRunning m a q
  moved_running (inl step) = step.1.running
  moved_running (inr step) = step.running

-- a runner is in one run
pub one_run : {T : Type 0} (m : Meaning) (r : RunnerState T) (q p : RunState) → IsRunning m r q → IsRunning m r p → q ≡ p
one_run m r q p one two = run_same q p (sym one.inside.running ∙ two.inside.running)

-- a run before whose next word no link is due knows the part of its log in which that word stands
pub knows_part : {T : Type 0} (m : Meaning) (r : RunnerState T) (q : RunState) → IsRunning m r q → is_due q ≡ false → KnowsPart r.part.run
knows_part m r q is linked y runs = ap is_due (run_same y q (sym runs ∙ is.inside.running)) ∙ linked

-- a runner of a table that is within its limits
module _ {T : Type 0} (m : Meaning) (laws : Laws m) (t : TableState T) (limits : IsWithinLimits t.layout) (allowed : AreAllowed t.requests) (r : RunnerState T) (own : IsOf t r) (q : RunState) (is : IsRunning m r q) (micro : Micro) (ahead : next_of m q ≡ micro) where
  abbrev within : IsWithinLimits r.layout
  within = subst IsWithinLimits (sym own.layout) limits

  abbrev few : AreAllowed r.requests
  few = subst AreAllowed (sym own.requests) allowed

  -- a commit goes behind the words that were agreed on
  pub goes_behind : (k : ℕ) → commits_to micro ≡ Some k → k ≡ length q.trail
  goes_behind k commits = commits_behind m laws r.layout within r.requests few r.number r.part q is.inside is.opened micro ahead k commits

  -- so no link is needed before it where none is due
  pub unneeded : is_due q ≡ false → needs_link q micro ≡ false
  unneeded linked = by (commits_to micro) refl
    where
      by : (o : Option ℕ) → commits_to micro ≡ o → needs_link q micro ≡ false
      by None e = ap (is_beyond q) e
      by (Some k) e = ap (is_beyond q) e ∙ (ap (λ (n : ℕ). is_beyond q (Some n)) (goes_behind k e) ∙ linked)

  -- the step that stands next may be made
  pub may_make : needs_link q micro ≡ false → has_slot r.part q micro ≡ true → met_by m r (kind_at r.part q micro) ≡ Some (ask_at m r.part q micro)
  may_make linked has = may_step m laws r.layout within r.requests few r.number r.part q is.inside is.opened micro ahead linked has

  -- so the machine's rule for a line has this word for it
  pub asked_there : needs_link q micro ≡ false → has_slot r.part q micro ≡ true → line_ask m r.layout (kind_at r.part q micro) r.part.nodes.free r.part.blocks.free q micro ≡ Some (ask_at m r.part q micro)
  asked_there linked has = ap (λ (x : Micro). line_ask m r.layout (kind_at r.part q micro) r.part.nodes.free r.part.blocks.free q x) (sym ahead)
      ∙ line_asked m r.layout r.requests r.number (kind_at r.part q micro) r.part q (ask_at m r.part q micro)
      (may_make linked has) is.inside.running
      ((in_table m laws r.layout within r.requests few r.number r.part q is.inside).goes is.opened)

  -- and where a block is to be linked before, the next step to that
  pub may_make_link : needs_link q micro ≡ true → is_some (next_block r.part q) ≡ true → met_by m r (link_kind m r.layout r.part q) ≡ Some (link_ask r.part q)
  may_make_link due has = may_link m laws r.layout within r.requests few r.number r.part q is.inside is.opened micro ahead due has

  -- the runner behind an event that left it in a run
  running_behind : (kind : EventKind) (found : ℕ) (r' : RunnerState T) → Makes m kind found r r' → r'.part.gone ≡ r.part.gone
      → (after : RunState) → r'.part.run ≡ Some after → after.opened ≡ q.opened
      → length after.trail ≤ part_words * suc (length after.links) → IsRunning m r' after
  running_behind kind found r' event present after runs opened enough = record {
    inside = record {
      present = present ∙ is.inside.present;
      running = runs;
      world = event.shown.world;
      reached = event.shown.reached;
      own = event.shown.own;
    };
    opened = ap length opened ∙ is.opened;
    enough = enough;
  }

  pub then_made : needs_link q micro ≡ false → has_slot r.part q micro ≡ true → (found : ℕ) (r' : RunnerState T) → Makes m (kind_at r.part q micro) found r r' → Stepped m q micro found r r'
  then_made linked has found r' event =
      let made = ap (λ (y : RunnerState T). y.part) event.made in
      let behind : IsBehind m r.layout r.part q micro found r'.part = subst (λ (p : PartState). IsBehind m r.layout r.part q micro found p) (sym made)
      (then_stepped m laws r.layout within r.requests few r.number r.part q micro event.met found is.inside is.opened ahead linked has) in
      record {
        running = is;
        next = ahead;
        linked = linked;
        event = event;
        behind = behind;
        goes_on = λ after runs.
            let e = sym behind.run ∙ runs in
            running_behind (kind_at r.part q micro) found r' event behind.present after runs
            (opened_stays m r.layout r.part q found micro after e)
            (enough_stays m r.layout r.part q found micro after e goes_behind linked is.enough);
      }

  pub then_made_link : needs_link q micro ≡ true → (found : ℕ) (r' : RunnerState T) → Makes m (link_kind m r.layout r.part q) found r r' → LinkStepped m q found r r'
  then_made_link due found r' event =
      let made = ap (λ (y : RunnerState T). y.part) event.made in
      let behind : IsLinked m r.layout r.part q found r'.part = subst (λ (p : PartState). IsLinked m r.layout r.part q found p) (sym made)
      (then_linked m laws r.layout within r.requests few r.number r.part q micro event.met found is.inside is.opened ahead due) in
      record {
        running = is;
        due = ap (needs_link q) ahead ∙ due;
        event = event;
        behind = behind;
        goes_on = λ after runs.
            let here = line_stays r.part q found after (sym behind.run ∙ runs) in
            let t = ap (λ (y : RunState). length y.trail) here.line in let k = here.known in let e = is.enough in
            running_behind (link_kind m r.layout r.part q) found r' event behind.present after runs (ap (λ (y : RunState). y.opened) here.line) (omega (arith, t, k, e));
      }
