-- How a runner leaves that was turned away.
use Rattle.std.specs.Prelude.{◌==◌, ◌&&◌, ◌||◌, ◌⊎◌, Bool, true, false, not, slice_get, if◌then◌else◌}
use Rattle.std.proofs.Common.{◌≡◌, ◌≢◌, ℕ, suc, ◌+◌, ◌-◌, ◌≤◌, List, [], ◌∷◌, ◌++◌, length, length-append, refl, sym, ap, ◌∙◌, subst, arith, Option, Some, None, inl, inr}
use Rattle.std.proofs.lemmas.Bool.Decides.{nat_tests}
use Rattle.machine_states.specs.body_terms.specs.Trail.{Agreed}
use Rattle.machine_states.specs.body_terms.specs.Word.{value_of, is_free}
use Rattle.machine_states.specs.body_terms.specs.declared.outcome.Outcome.{Outcome}
use Rattle.machine_states.specs.body_terms.specs.declared.thunk.Thunk.{Thunk}
use Rattle.machine_states.specs.table_words.specs.declared.layout.Layout.{Layout}
use Rattle.machine_states.specs.table_words.specs.Limits.{IsWithinLimits}
use Rattle.runner_gate.specs.Asks.{Asks}
use Rattle.machine_states.specs.structure_laws.specs.Meaning.{Meaning}
use Rattle.machine_states.specs.structure_laws.specs.Laws.{Laws}
use Rattle.machine_states.specs.runner_parts.specs.declared.entries.Published.{Published}
use Rattle.machine_states.specs.epoch_core.specs.declared.stage.Stage.TheVariants as stages
use Rattle.machine_states.specs.runner_parts.specs.State.{NodesState, GuardsState, ReadsState, PartState}
use Rattle.machine_states.specs.runner_parts.specs.Tests.{has_pair, is_answered, is_between}
use Rattle.machine_states.specs.runner_parts.specs.Lists.{named_seen, published_seen}
use Rattle.machine_states.specs.runner_parts.specs.declared.event.EventKind.TheVariants as kinds
use Rattle.machine_states.specs.runner_steps.specs.Outside.{is_sure_of}
use Rattle.machine_states.specs.runner_steps.specs.AfterInRun.{kept_unless}
use Rattle.machine_states.specs.World.{World}
use Rattle.machine_states.specs.Reached.{Reached}
use Rattle.machine_states.specs.Sight.{sight, part_or_first}
use Rattle.machine_facts.specs.machine_invariant.specs.After.{AreAllowed}
use Rattle.caller_facts.specs.lock_walks.specs.runner_facts.specs.Names.{NamesStand}
use Rattle.machine_facts.specs.Watched.{WasDone}
use Rattle.version_words.specs.RunnerState.{RunnerState}
use Rattle.version_words.specs.Stages.{IsAt}
use Rattle.caller_facts.specs.epoch_slots.specs.Entries.{KeepsOwn, Exits}
use Rattle.caller_facts.specs.epoch_slots.proofs.Outside.{guards_made, own_kept_on}
use Rattle.caller_facts.specs.section_runs.specs.commit_log.specs.Asked.{IsAsked}
use Rattle.caller_facts.specs.section_runs.specs.commit_log.proofs.Asked.{asked_none}
use Rattle.caller_facts.specs.try_lock.specs.Ends.{EndsSo, IsCutShort}
use Rattle.caller_facts.specs.try_lock.specs.Reached.{MayHelp}
use Rattle.caller_facts.specs.try_lock.specs.Watches.{Watched}
use Rattle.caller_facts.specs.try_lock.proofs.Guarding.{guard_at}
use Rattle.attempts.specs.Learned.{HasLearned, IsCut}
use Rattle.caller_facts.specs.Knowing.{KnowsMore, IsOwn}
use Rattle.attempts.specs.Course.{IsEmptyHanded, HasGone, HasHelped, IsOfHelped}
use Rattle.attempts.specs.Attempts.{is_halted, is_refusal, Leaves, leaving_steps, leaving_helps}
use Rattle.attempts.specs.Rests.{MayLeave, MayLetGo, LearnsNoOwn, HasTurned}
use Rattle.attempts.specs.declared.answers.Attempt.{Attempt}
use Rattle.attempts.specs.declared.answers.Attempt.TheVariants as answers
use Rattle.caller_facts.proofs.Knowing.{knows_same, knows_on, length_on, own_on}
use Rattle.attempts.proofs.Reaching.{exits_reached}
use Rattle.attempts.proofs.Helping.{learns_no_own}
use Rattle.attempts.proofs.LettingGo.{exits_tidy, gone_keeps, gone_tidy}

-- a word that isn't free names the descriptor below its value
named_value : (n : ℕ) → (n == 0) ≡ false → n ≡ suc (n - 1)
named_value n e = grind (arith, nat_tests)

pub not_free : (word : ℕ) → is_free word ≡ false → value_of word ≡ suc (value_of word - 1)
not_free word e = named_value (value_of word) e

refused_going : (answer : Attempt) → is_refusal answer ≡ true → is_halted answer ≡ false
refused_going (answers.Busy place word) e = refl
refused_going (answers.Stale place expected read) e = refl
refused_going (answers.Far loads) e = refl
refused_going (answers.Spent place word) e = refl
refused_going (answers.Done reply stamp) e = absurd (let z = e in cc)
refused_going (answers.Short short) e = absurd (let z = e in cc)
refused_going answers.Halted e = absurd (let z = e in cc)

-- what was read is known on
pub pair_on : (xs : List (ℕ × ℕ)) (p f place word : ℕ) → has_pair xs place word ≡ true → has_pair (xs ++ (p, f) ∷ []) place word ≡ true
pair_on [] p f place word e = absurd (let z = e in cc)
pair_on (x ∷ xs) p f place word e = more (x.0 == place && x.1 == word) (has_pair xs place word) (has_pair (xs ++ (p, f) ∷ []) place word) (pair_on xs p f place word) e
  where
    more : (a b c : Bool) → (b ≡ true → c ≡ true) → (a || b) ≡ true → (a || c) ≡ true
    more true b c next e = refl
    more false b c next e = next e

last_get : {A : Type 0} (xs : List A) (x : A) → slice_get (xs ++ x ∷ []) (length xs) ≡ Some x
last_get [] x = refl
last_get (y ∷ xs) x = last_get xs x

no_more : (n : ℕ) (b : Bool) → b ≡ false → n ≡ n + (if b then 1 else 0)
no_more n true e = absurd (let z = e in cc)
no_more n false e = omega arith

module _ {T : Type 0} (m : Meaning) where
  leaves_by_exit : (answer : Attempt) → ((place word : ℕ) → answer ≢ answers.Busy place word) → (old new : RunnerState T) → Exits m old new
      → Leaves m answer old new
  leaves_by_exit (answers.Busy place word) other old new exits = absurd (other place word refl)
  leaves_by_exit (answers.Stale place expected read) other old new exits = exits
  leaves_by_exit (answers.Far loads) other old new exits = exits
  leaves_by_exit (answers.Spent place word) other old new exits = exits
  leaves_by_exit (answers.Done reply stamp) other old new exits = exits
  leaves_by_exit (answers.Short short) other old new exits = exits
  leaves_by_exit answers.Halted other old new exits = exits

  -- in no counted step
  exit_steps : (answer : Attempt) (other : (place word : ℕ) → answer ≢ answers.Busy place word) (old new : RunnerState T) (exits : Exits m old new)
      → 0 ≡ leaving_steps m answer old new (leaves_by_exit answer other old new exits)
  exit_steps (answers.Busy place word) other old new exits = absurd (other place word refl)
  exit_steps (answers.Stale place expected read) other old new exits = refl
  exit_steps (answers.Far loads) other old new exits = refl
  exit_steps (answers.Spent place word) other old new exits = refl
  exit_steps (answers.Done reply stamp) other old new exits = refl
  exit_steps (answers.Short short) other old new exits = refl
  exit_steps answers.Halted other old new exits = refl

  -- and nobody was helped
  exit_helps : (answer : Attempt) (other : (place word : ℕ) → answer ≢ answers.Busy place word) (old new : RunnerState T) (exits : Exits m old new)
      → leaving_helps m answer old new (leaves_by_exit answer other old new exits) ≡ false
  exit_helps (answers.Busy place word) other old new exits = absurd (other place word refl)
  exit_helps (answers.Stale place expected read) other old new exits = refl
  exit_helps (answers.Far loads) other old new exits = refl
  exit_helps (answers.Spent place word) other old new exits = refl
  exit_helps (answers.Done reply stamp) other old new exits = refl
  exit_helps (answers.Short short) other old new exits = refl
  exit_helps answers.Halted other old new exits = refl

  -- it leaves at once
  pub turned_by_exit : (answer : Attempt) → is_refusal answer ≡ true → ((place word : ℕ) → answer ≢ answers.Busy place word)
      → (old new : RunnerState T) → MayLeave m answer old → Exits m old new → (halts : ℕ) (asks : Asks) (steps : ℕ)
      → HasTurned m answer answer old new halts halts asks asks steps steps
  turned_by_exit answer refusal other old new may exits halts asks steps =
      let going = refused_going answer refusal in
      let same = ap length exits.keeps.finished in record {
        made = 0;
        asked = subst (λ b. IsAsked 0 b halts halts asks asks steps steps) (ap not (sym going)) (asked_none halts asks steps);
        knows = knows_same old new exits.keeps.number exits.keeps.known exits.keeps.finished;
        no_own = λ q own. ap (λ xs. is_answered xs q.number) exits.keeps.known;
        reached = exits_reached m old new exits;
        halted = λ e. absurd (let z = sym going ∙ e in cc);
        short = λ e. absurd (let z = sym going ∙ e in cc);
        leaves = λ e. leaves_by_exit answer other old new exits;
        made_is = λ e. exit_steps answer other old new exits;
        same = λ e. refl;
        tidy = λ e. exits_tidy m old new may.hand may.leave.unguarded exits;
        runs = λ e. same ∙ no_more (length old.part.records.finished) _ (exit_helps answer other old new exits);
        few_runs = omega (arith, same);
      }

-- a run leaves a runner as it was, but for what it learned
module _ {T : Type 0} (m : Meaning) (d : ℕ) (t : Thunk) (outcome : Outcome) (trail : Agreed) (made : ℕ) (old new : RunnerState T)
    (ends : EndsSo m d t outcome trail made old new) where
  pub ended_knows : KnowsMore old new
  ended_knows = record {
    number = ends.number;
    known = record { back = ends.learns.more; parts = ends.learns.adds };
    finished = record { back = ends.finished ∷ []; parts = ends.kept };
  }

  pub ended_at : (epoch : ℕ) (published : Option Published) → IsAt old (stages.Entered epoch) published → IsAt new (stages.Entered epoch) (kept_unless published d)
  ended_at epoch published at = record {
    present = ends.present ∙ at.present;
    resting = ends.resting;
    at = ends.stage ∙ at.at;
    published = ends.published ∙ ap (λ o. kept_unless o d) at.published;
    settled = ap is_between ends.look ∙ at.settled;
    seated = subst (λ n. n ≤ new.layout.runners) (sym ends.number) (subst (λ (l : Layout). old.number ≤ l.runners) (sym ends.layout) at.seated);
  }

  pub ended_hand : IsEmptyHanded old → IsEmptyHanded new
  ended_hand hand = record { hand = ends.nodes.hand ∙ hand.hand; tests = ends.nodes.tests hand.tests; looked = ap (λ (g : GuardsState). g.looked) ends.guards ∙ hand.looked }

-- a watch leaves a runner as it was, but for its guard and what it read
module _ {T : Type 0} (m : Meaning) (place word : ℕ) (same : Bool) (old watching : RunnerState T) (watched : Watched m place word same old watching) (may : MayLeave m (answers.Busy place word) old) where
  pub watched_layout : watching.layout ≡ old.layout
  watched_layout = ap (λ (y : RunnerState T). y.layout) watched.load.made ∙ ap (λ (y : RunnerState T). y.layout) watched.guard.event.made

  pub watched_requests : watching.requests ≡ old.requests
  watched_requests = ap (λ (y : RunnerState T). y.requests) watched.load.made ∙ ap (λ (y : RunnerState T). y.requests) watched.guard.event.made

  pub watched_at : IsAt watching (stages.Entered may.leave.epoch) None
  watched_at = watched.at may.leave.epoch may.leave.at

  pub watched_hand : IsEmptyHanded watching
  watched_hand = record {
    hand = ap (λ n. n.hand) watched.keeps.nodes ∙ may.hand.hand;
    tests = ap (λ n. n.tests) watched.keeps.nodes ∙ may.hand.tests;
    looked = watched_looked;
  }
    where
      -- neither of the two steps is one of a sweep
      watched_looked : watching.part.guards.looked ≡ []
      watched_looked = ap (λ (g : GuardsState). g.looked) (guards_made m (kinds.LoadCell (Some place)) watched.found watched.guarding watching watched.load at_guarding.resting)
          ∙ (looked_same watched.guarding.part.guards (m.is_lock place) watched.found
          ∙ (ap (λ (g : GuardsState). g.looked) (guards_made m (kinds.Guard (Some (value_of word - 1))) watched.guard.found old watched.guarding watched.guard.event may.leave.at.resting) ∙ may.hand.looked))
        where
          at_guarding : IsAt watched.guarding (stages.Entered may.leave.epoch) None
          at_guarding = guard_at m (Some (value_of word - 1)) watched.guard.found old watched.guarding watched.guard.event may.leave.epoch may.leave.at

          looked_same : (g : GuardsState) (lock : Bool) (w : ℕ) → (named_seen g lock w).looked ≡ g.looked
          looked_same g lock w = by (lock && not (is_free w))
            where
              by : (b : Bool) → (if b then published_seen g (value_of w - 1) else g).looked ≡ g.looked
              by true = refl
              by false = refl

  -- the section that the word names may be helped, where the lock has the word still
  pub watched_help : same ≡ true → MayHelp m watching word
  watched_help e = record {
    epoch = may.leave.epoch;
    published = None;
    at = watched_at;
    names = (may.watch place word refl).names;
    sure = watched.sure e;
    reserve = subst (λ (n : NodesState). 2 ≤ length n.free) (sym watched.keeps.nodes) may.reserve;
    blocks = (let had = may.blocks in let more = watched.keeps.blocks in omega (arith, had, more));
    reached = watched.reached;
  }

  pub watched_go : MayLetGo watching
  watched_go = record { epoch = may.leave.epoch; at = watched_at }

-- the lock had moved on
module _ {T : Type 0} (m : Meaning) (place word : ℕ) (old watching new : RunnerState T) (may : MayLeave m (answers.Busy place word) old) (watched : Watched m place word false old watching)
    (done : WasDone m watching.layout watching.requests watched.reached.world place word (value_of word - 1)) (gone : HasGone m watching new) where
  keeps : KeepsOwn old new
  keeps = own_kept_on old watching new watched.keeps (gone_keeps m watching new (watched_go m place word false old watching watched may) gone)

  pub turned_by_watch : (halts : ℕ) (asks : Asks) (steps : ℕ) → HasTurned m (answers.Busy place word) (answers.Busy place word) old new halts halts asks asks steps steps
  turned_by_watch halts asks steps =
      let same = ap length keeps.finished in record {
        made = 0;
        asked = asked_none halts asks steps;
        knows = knows_same old new keeps.number keeps.known keeps.finished;
        no_own = λ q own. ap (λ xs. is_answered xs q.number) keeps.known;
        reached = exits_reached m gone.unguarded new gone.exits;
        halted = λ e. absurd (let z = e in cc);
        short = λ e. absurd (let z = e in cc);
        leaves = λ e. inr (record { names = (may.watch place word refl).names; watching = watching; watches = watched; done = done; leaves = gone });
        made_is = λ e. refl;
        same = λ e. refl;
        tidy = λ e. gone_tidy m watching new (watched_go m place word false old watching watched may) gone (watched_hand m place word false old watching watched may);
        runs = λ e. same ∙ no_more (length old.part.records.finished) false refl;
        few_runs = omega (arith, same);
      }

-- it helps first
module _ {T : Type 0} (m : Meaning) (laws : Laws m) (place word : ℕ) (old watching helped new : RunnerState T) (may : MayLeave m (answers.Busy place word) old)
    (watched : Watched m place word true old watching) (limits : IsWithinLimits watching.layout) (allowed : AreAllowed watching.requests) (requests : helped.requests ≡ watching.requests) (t : Thunk)
    (outcome : Outcome) (trail : Agreed) (made : ℕ) (ends : EndsSo m (value_of word - 1) t outcome trail made watching helped) (gone : HasGone m helped new)
    (learned : HasLearned m (value_of word - 1) t watching helped) where
  at_helped : IsAt helped (stages.Entered may.leave.epoch) None
  at_helped = ended_at m (value_of word - 1) t outcome trail made watching helped ends may.leave.epoch None (watched_at m place word true old watching watched may)

  pub helped_go : MayLetGo helped
  helped_go = record { epoch = may.leave.epoch; at = at_helped }

  still : KeepsOwn helped new
  still = gone_keeps m helped new helped_go gone

  no_own : LearnsNoOwn m old new
  no_own q own = ap (λ xs. is_answered xs q.number) still.known
      ∙ (learns_no_own m laws watching helped limits allowed (value_of word - 1) t learned (watched_at m place word true old watching watched may).published q own_watching
      ∙ ap (λ xs. is_answered xs q.number) watched.keeps.known)
    where
      own_watching : IsOwn watching q
      own_watching = own_on old watching (watched_requests m place word true old watching watched may) (watched_layout m place word true old watching watched may) watched.keeps.number q own

  abbrev helps : HasHelped m place word old new
  helps = record {
    names = (may.watch place word refl).names;
    watching = watching;
    watches = watched;
    thunk = t;
    outcome = outcome;
    trail = trail;
    made = made;
    helped = helped;
    ends = ends;
    leaves = gone;
    told = λ answer answered. ap (λ xs. is_answered xs t.request) still.known ∙ ends.told answer answered;
  }

  module _ (names : (w : World) → Reached m helped.layout helped.requests w → NamesStand m (sight m helped.layout helped.requests w)) where
    -- behind the watch the reading of the lock is the last of the walk, and the runner is sure; the help changes neither
    of_lock : IsOfHelped m place word old new helps
    of_lock = (names ends.reached.world ends.reached.reached).lock helped.number place word (value_of word - 1) (record {
      read = record {
        at = length old.part.reads.walk;
        here = ap (λ ws. slice_get ws (length old.part.reads.walk)) walk_is ∙ last_get old.part.reads.walk (place, word);
        last = ap length walk_is ∙ (length-append old.part.reads.walk ((place, word) ∷ []) ∙ (let e : length old.part.reads.walk + 1 ≡ suc (length old.part.reads.walk) = omega arith in e));
      };
      lock = (may.watch place word refl).lock;
      names = not_free word (may.watch place word refl).names;
      sure = ap (λ (p : PartState). is_sure_of p.guards (value_of word - 1)) here ∙ (ap (λ (g : GuardsState). is_sure_of g (value_of word - 1)) ends.guards ∙ watched.sure refl);
    })
      where
        here : (sight m helped.layout helped.requests ends.reached.world).part helped.number ≡ helped.part
        here = ap part_or_first ends.reached.own

        found_is : watched.found ≡ word
        found_is = let test = sym watched.told in grind (arith, nat_tests, test)

        walk_is : ((sight m helped.layout helped.requests ends.reached.world).part helped.number).reads.walk ≡ old.part.reads.walk ++ (place, word) ∷ []
        walk_is = ap (λ (p : PartState). p.reads.walk) here ∙ (ends.walk ∙ (ap (λ (s : ReadsState). s.walk) watched.reads ∙ ap (λ w. old.part.reads.walk ++ (place, w) ∷ []) found_is))

    one_more : length new.part.records.finished ≡ length old.part.records.finished + 1
    one_more = ap length still.finished ∙ (length_on watching.part.records.finished (ends.finished ∷ []) helped.part.records.finished ends.kept ∙ ap (λ fs. length fs + 1) watched.keeps.finished)

    pub turned_by_help : (halts halts' : ℕ) (asks asks' : Asks) (steps steps' : ℕ) → IsAsked made true halts halts' asks asks' steps steps'
        → HasTurned m (answers.Busy place word) (answers.Busy place word) old new halts halts' asks asks' steps steps'
    turned_by_help halts halts' asks asks' steps steps' asked = record {
      made = made;
      asked = asked;
      knows = knows_on old watching new (knows_same old watching watched.keeps.number watched.keeps.known watched.keeps.finished)
          (knows_on watching helped new (ended_knows m (value_of word - 1) t outcome trail made watching helped ends) (knows_same helped new still.number still.known still.finished));
      no_own = no_own;
      reached = exits_reached m gone.unguarded new gone.exits;
      halted = λ e. absurd (let z = e in cc);
      short = λ e. absurd (let z = e in cc);
      leaves = λ e. inl (record { helps = helps; of_lock = of_lock });
      made_is = λ e. refl;
      same = λ e. refl;
      tidy = λ e. gone_tidy m helped new helped_go gone (ended_hand m (value_of word - 1) t outcome trail made watching helped ends (watched_hand m place word true old watching watched may));
      runs = λ e. one_more;
      few_runs = let more = one_more in omega (arith, more);
    }

-- a gate halts it as it helps
module _ {T : Type 0} (m : Meaning) (laws : Laws m) (place word : ℕ) (d : ℕ) (old watching new : RunnerState T) (may : MayLeave m (answers.Busy place word) old)
    (watched : Watched m place word true old watching) (limits : IsWithinLimits watching.layout) (allowed : AreAllowed watching.requests) (cut : IsCut m d watching new) where
  none_there : watching.part.published ≡ None
  none_there = (watched_at m place word true old watching watched may).published

  still_none : (new.part.published ≡ watching.part.published) ⊎ (new.part.published ≡ kept_unless watching.part.published d) → new.part.published ≡ None
  still_none (inl same) = same ∙ none_there
  still_none (inr over) = over ∙ ap (λ o. kept_unless o d) none_there

  no_own_cut : LearnsNoOwn m old new
  no_own_cut q own = learns_no_own m laws watching new limits allowed d cut.thunk cut.learned none_there q
      (own_on old watching (watched_requests m place word true old watching watched may) (watched_layout m place word true old watching watched may) watched.keeps.number q own)
      ∙ ap (λ xs. is_answered xs q.number) watched.keeps.known

  pub turned_by_halt : (made : ℕ) → IsCutShort m (value_of word - 1) made watching new → (halts halts' : ℕ) (asks asks' : Asks) (steps steps' : ℕ)
      → IsAsked made false halts halts' asks asks' steps steps'
      → HasTurned m (answers.Busy place word) answers.Halted old new halts halts' asks asks' steps steps'
  turned_by_halt made short halts halts' asks asks' steps steps' asked = record {
    made = made;
    asked = asked;
    knows = knows_on old watching new (knows_same old watching watched.keeps.number watched.keeps.known watched.keeps.finished) (record {
      number = cut.number;
      known = record { back = cut.learned.learns.more; parts = cut.learned.learns.adds };
      finished = record { back = cut.more; parts = cut.finished };
    });
    no_own = no_own_cut;
    reached = cut.reached;
    halted = λ e. still_none cut.published;
    short = λ e. (place, word, refl, watching, watched, short);
    leaves = λ e. absurd (let z = e in cc);
    made_is = λ e. absurd (let z = e in cc);
    same = λ e. absurd (let z = e in cc);
    tidy = λ e. absurd (let z = e in cc);
    runs = λ e. absurd (let z = e in cc);
    few_runs =
        let long = length_on watching.part.records.finished cut.more new.part.records.finished cut.finished in
        let was = ap length watched.keeps.finished in
        let few = cut.few in omega (arith, long, was, few);
  }
