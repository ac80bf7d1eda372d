-- An attempt's own run, to its end or to where a gate halted it.
use Rattle.std.specs.Prelude.{◌&&◌, not, Bool, true, false, Ok, slice_get, if◌then◌else◌}
use Rattle.std.proofs.Common.{◌≡◌, ◌≢◌, ℕ, ◌+◌, ◌≤◌, List, [], ◌∷◌, ◌++◌, length, refl, sym, ap, ◌∙◌, subst, ⊎_elim, arith, Some, None}
use Rattle.std.proofs.lemmas.Bool.{true≢false}
use Rattle.machine_states.specs.map_history.specs.declared.op.Request.{Request}
use Rattle.machine_states.specs.body_terms.specs.Trail.{Agreed}
use Rattle.machine_states.specs.body_terms.specs.declared.outcome.Outcome.{Outcome}
use Rattle.machine_states.specs.body_terms.specs.declared.outcome.Outcome.TheVariants.{Answered}
use Rattle.machine_states.specs.body_terms.specs.declared.thunk.Thunk.{Thunk}
use Rattle.machine_states.specs.table_words.specs.declared.layout.Layout.{Layout}
use Rattle.machine_states.specs.table_words.specs.Limits.{IsWithinLimits}
use Rattle.runner_gate.specs.Asks.{Asks}
use Rattle.machine_states.specs.structure_laws.specs.Meaning.{Meaning}
use Rattle.machine_states.specs.structure_laws.specs.Laws.{Laws}
use Rattle.machine_states.specs.runner_parts.specs.declared.entries.Known.{Known}
use Rattle.machine_states.specs.runner_parts.specs.declared.entries.Published.{Published}
use Rattle.machine_states.specs.runner_parts.specs.State.{PartState, RunState, FinishedState}
use Rattle.machine_states.specs.runner_parts.specs.Tests.{is_answered}
use Rattle.machine_states.specs.runner_steps.specs.Sections.{thunk_of}
use Rattle.machine_states.specs.World.{World, seat_of}
use Rattle.machine_states.specs.Reached.{Reached}
use Rattle.machine_states.specs.Sight.{Sight, sight, part_or_first}
use Rattle.lock_words.specs.machine_epochs.specs.Slots.{thunk_in}
use Rattle.machine_facts.specs.machine_agreement.proofs.RunPlaces.{opened_thunk}
use Rattle.machine_facts.specs.machine_invariant.specs.After.{AreAllowed}
use Rattle.machine_facts.specs.After.{AreFactsAfter}
use Rattle.machine_facts.proofs.Following.{facts_after}
use Rattle.version_words.specs.RunnerState.{RunnerState}
use Rattle.version_words.specs.TableState.{TableState, IsOf}
use Rattle.caller_facts.specs.section_runs.specs.commit_log.specs.Asked.{IsAsked}
use Rattle.caller_facts.specs.try_lock.specs.declared.section.Section.{Section}
use Rattle.caller_facts.specs.try_lock.specs.Planning.{Planning}
use Rattle.caller_facts.specs.try_lock.specs.Reached.{IsSectionOf}
use Rattle.caller_facts.specs.try_lock.specs.Ends.{EndsSo, IsCutShort}
use Rattle.caller_facts.specs.Knowing.{LearnsNoOther}
use Rattle.attempts.specs.Learned.{StoodAtStamp, IsCut}
use Rattle.attempts.specs.Course.{HasTried, HasEnded}
use Rattle.caller_facts.specs.Counted.{IsCounted}
use Rattle.attempts.specs.Attempts.{is_halted, has_helped, most_of_run, IsBrief, InOwnRun, HasJustEnded, IsHalted}
use Rattle.attempts.specs.Rests.{Rests}
use Rattle.attempts.specs.declared.answers.Attempt.{Attempt}
use Rattle.attempts.specs.declared.answers.Attempt.TheVariants as answers
use Rattle.caller_facts.proofs.Knowing.{knows_on, front_same, no_other_same, no_other_on, no_other_learned, append_none, length_on}
use Rattle.caller_facts.proofs.Counting.{counted_steps, asked_then, steps_then, seen_then}
use Rattle.attempts.proofs.Leaving.{ended_knows}
use Rattle.attempts.proofs.Along.{HasLastStep}
use Rattle.attempts.proofs.Trying.{unknown_here, is_published, cut_published}
use Rattle.attempts.proofs.Telling.{IsAtEnd, IsOn, along, kept, kept_is, end_quiet, end_told, end_left, cut_end, cut_is}
use Rattle.attempts.proofs.Stamps.{own_stamp_above, own_stamp_even}
use Rattle.attempts.proofs.RealTime.{above_answered}
use Rattle.attempts.proofs.Costs.{ended_costs, cut_costs}

-- a runner in a run of the section that it has published: the run's thunk is the one with which it was published
module _ (m : Meaning) (laws : Laws m) (l : Layout) (requests : List Request) (limits : IsWithinLimits l) (allowed : AreAllowed requests)
    (w : World) (reached : Reached m l requests w) (r : ℕ) (part : PartState) (own : slice_get w.parts (seat_of l r) ≡ Some part)
    (q : RunState) (runs : part.run ≡ Some q) (opened : length q.opened ≡ 13)
    (x : Published) (published : part.published ≡ Some x) (of : q.descriptor ≡ x.descriptor) where
  abbrev s : Sight
  s = sight m l requests w

  all : AreFactsAfter m l requests reached.events w reached.after
  all = facts_after m laws l requests reached.events w limits allowed reached.after

  seen : s.part r ≡ part
  seen = ap part_or_first own

  of_run : thunk_in s.word q.descriptor ≡ thunk_of q.opened
  of_run = opened_thunk m l all.components.agreement s all.here.sound.sections.joined r q (ap (λ (p : PartState). p.run) seen ∙ runs) opened

  of_own : thunk_in s.word x.descriptor ≡ x.thunk
  of_own = all.here.sound.sections.in_published.thunk r x (ap (λ (p : PartState). p.published) seen ∙ published)

  pub own_run_thunk : thunk_of q.opened ≡ x.thunk
  own_run_thunk = sym of_run ∙ (ap (thunk_in s.word) of ∙ of_own)

module _ {T : Type 0} (m : Meaning) (laws : Laws m) (t : TableState T) (limits : IsWithinLimits t.layout) (allowed : AreAllowed t.requests)
    (planning : Planning) (request : Request) (section : Section) (thunk : Thunk) (old here : RunnerState T)
    (own_here : IsOf t here) (tried : HasTried m planning request thunk (Ok section) old here) where
  -- a gate halts it in the run
  module _ (new : RunnerState T) (own_new : IsOf t new) (n : ℕ) (short : IsCutShort m section.descriptor n here new) where
    cut : IsCut m section.descriptor here new
    cut = cut_is m laws t limits allowed here new own_new section.descriptor n short

    -- what it has published
    abbrev section_of : IsSectionOf here thunk section
    section_of = tried.publishes.published.section

    same : StoodAtStamp m section.descriptor cut.thunk here → cut.thunk.request ≡ request.number
    same stood = ap (λ (u : Thunk). u.request) (sym stood.thunk
        ∙ (own_run_thunk m laws here.layout here.requests (subst IsWithinLimits (sym own_here.layout) limits) (subst AreAllowed (sym own_here.requests) allowed)
        stood.world stood.reached here.number stood.part stood.own stood.run stood.runs stood.opened section_of.published (stood.published ∙ section_of.own)
        (stood.of_descriptor ∙ sym section_of.descriptor) ∙ section_of.thunk))
        ∙ tried.plans.answers.request

    no_other : LearnsNoOther request.number here new
    no_other = by cut.learned.learns.more refl
      where
        by : (more : List Known) → cut.learned.learns.more ≡ more → LearnsNoOther request.number here new
        by [] none = no_other_same request.number here new
            (cut.learned.learns.adds ∙ (ap (λ ys. here.part.records.known ++ ys) none ∙ append_none here.part.records.known))
        by (x ∷ more) is = no_other_learned request.number here new (record {
          more = cut.learned.learns.more;
          adds = cut.learned.learns.adds;
          only = λ i y there. cut.learned.learns.only i y there ∙ same (cut.learned.stood (λ none. some_none (sym is ∙ none)));
        })
          where
            some_none : x ∷ more ≡ [] → ⊥
            some_none e = let z = e in cc

    one_more : length new.part.records.finished ≤ length here.part.records.finished + 1
    one_more =
        let long = length_on here.part.records.finished cut.more new.part.records.finished cut.finished in
        let few = cut.few in omega (arith, long, few)

    -- where it has published none then, it was halted behind the last step of the run
    module _ (none : new.part.published ≡ None) where
      end : (u : Thunk) × IsAtEnd m laws t limits allowed here new own_new section.descriptor u
      end = ⊎_elim
          (λ (on : IsOn m laws t limits allowed here new own_new section.descriptor).
          absurd (is_published m planning request old thunk section here tried (sym on.published ∙ none)))
          (λ (is : (u : Thunk) × IsAtEnd m laws t limits allowed here new own_new section.descriptor u). is)
          (cut_end m laws t limits allowed here new own_new section.descriptor n short)

      abbrev last : HasLastStep m laws t limits allowed here section.descriptor end.0 new
      last = end.1.last

      -- the own thunk's
      end_thunk : thunk_of last.run.opened ≡ thunk
      end_thunk = own_run_thunk m laws last.before.layout last.before.requests
          (subst IsWithinLimits (sym last.own.layout) limits) (subst AreAllowed (sym last.own.requests) allowed)
          last.step.running.inside.world last.step.running.inside.reached last.before.number last.before.part last.step.running.inside.own
          last.run last.step.running.inside.running last.step.running.opened section_of.published
          ((along m laws t limits allowed here new own_new section.descriptor end.0 end.1).published ∙ section_of.own)
          ((along m laws t limits allowed here new own_new section.descriptor end.0 end.1).descriptor ∙ sym section_of.descriptor) ∙ section_of.thunk

      asks_this : end.0.request ≡ request.number
      asks_this = ap (λ (u : Thunk). u.request) (sym (along m laws t limits allowed here new own_new section.descriptor end.0 end.1).thunk_is ∙ end_thunk)
          ∙ tried.plans.answers.request

      abbrev run_kept : FinishedState
      run_kept = kept m laws t limits allowed here new own_new section.descriptor end.0 end.1

      quiet : new.part.records.known ≡ last.before.part.records.known
      quiet = end_quiet m laws t limits allowed here new own_new section.descriptor end.0 end.1

      untold : (outcome : Outcome) → run_kept.outcome ≡ outcome → ((answer : ℕ) → outcome ≢ Answered answer) → is_answered new.part.records.known request.number ≡ false
      untold outcome e other = ap (λ ks. is_answered ks request.number) (end_left m laws t limits allowed here new own_new section.descriptor end.0 end.1 outcome e other)
          ∙ unknown_here planning request old tried.plans.enters.may here tried.still

      just_ended : HasJustEnded m planning request thunk section old here new
      just_ended = record {
        finished = run_kept;
        kept = kept_is m laws t limits allowed here new own_new section.descriptor end.0 end.1;
        of_descriptor = (along m laws t limits allowed here new own_new section.descriptor end.0 end.1).descriptor;
        lock = ap (λ (u : Thunk). u.lock) end_thunk;
        word = ap (λ (u : Thunk). u.word) end_thunk;
        for = tried.plans.answers.request;
        told = λ answer e. subst (λ k. is_answered new.part.records.known k ≡ true) asks_this
            (end_told m laws t limits allowed here new own_new section.descriptor end.0 end.1 answer e);
        untold = λ other. untold run_kept.outcome refl other;
        above = λ x entry stamped known answered stamp knows.
            own_stamp_above m laws t limits allowed planning request thunk section old here tried new end.0 last
            (ap (λ ks. is_answered ks request.number) (sym quiet) ∙ answered)
            new own_new (front_same last.before.part.records.known new.part.records.known quiet) cut.reached stamp knows x entry stamped known;
        in_time = λ answered stamp knows.
            above_answered m laws planning request old new (subst IsWithinLimits layout_before limits) (subst AreAllowed requests_before allowed)
            tried.plans.enters.may (own_new.layout ∙ layout_before) (own_new.requests ∙ requests_before) stamp knows
            (own_stamp_even m laws t limits allowed planning request thunk section old here tried new end.0 last
            (ap (λ ks. is_answered ks request.number) (sym quiet) ∙ answered)
            new own_new (front_same last.before.part.records.known new.part.records.known quiet) cut.reached stamp knows);
      }
        where
          layout_before : t.layout ≡ old.layout
          layout_before = sym own_here.layout ∙ tried.still.layout

          requests_before : t.requests ≡ old.requests
          requests_before = sym own_here.requests ∙ tried.still.requests

    abbrev was_halted : IsHalted m planning request old new
    was_halted = record {
      at = InOwnRun thunk section here n tried short;
      published = cut_published m planning request old thunk section here tried section.descriptor new cut.published;
      unknown = λ none elsewhere. absurd (true≢false elsewhere);
      ended = λ none. just_ended none;
      reached = cut.reached;
    }

    one_ask : (readings : ℕ) → 1 + readings + 1 ≡ 2 + readings
    one_ask readings = omega arith

    pub cut_rests : (Seen : ℕ → Asks → Type 0) (halts halts1 halts' : ℕ) (asks asks1 asks' : Asks) (steps steps' : ℕ) → Seen halts1 asks1
        → IsCounted 0 1 true halts halts1 asks asks1 steps steps → IsAsked n false halts1 halts' asks1 asks' steps steps'
        → Rests m planning request false (length tried.readings) most_of_run answers.Halted old here new Seen halts halts' asks asks' steps steps'
    cut_rests Seen halts halts1 halts' asks asks1 asks' steps steps' seen ask asked = record {
      answers = was_halted;
      knows = record {
        number = cut.number;
        known = record { back = cut.learned.learns.more; parts = cut.learned.learns.adds };
        finished = record { back = cut.more; parts = cut.finished };
      };
      no_other = no_other;
      made = n;
      made_is = refl;
      published = true;
      published_is = refl;
      late = λ e. refl;
      asked = asked_then 1 n 0 false halts halts1 halts' asks asks1 asks' steps steps' ask
          (counted_steps n false halts1 halts' asks1 asks' steps steps' asked);
      let_go = λ e. (1, one_ask (length tried.readings), seen_then Seen halts halts1 asks asks1 1 0 (ask.went refl) ask.asked seen);
      entered = refl;
      runs = λ going. absurd (true≢false going);
      few_runs = let few = one_more in let all : length new.part.records.finished ≤ length here.part.records.finished + 2 = omega (arith, few) in all;
      brief = λ none. record {
        few_steps = cut_costs m laws t limits allowed here new own_new section.descriptor n short;
        few_runs = one_more;
      };
    }

  -- it comes to its end
  module _ (outcome : Outcome) (trail : Agreed) (ran : RunnerState T) (own_ran : IsOf t ran) (n : ℕ)
      (ends : EndsSo m section.descriptor thunk outcome trail n here ran) where
    abbrev pub ended : HasEnded m planning request section thunk outcome trail old ran
    ended = record { published = here; made = n; tries = tried; ends = ends }

    no_more : (b : Bool) → ◌≡◌ {A = ℕ} (if b && not true then 1 else 0) 0
    no_more true = refl
    no_more false = refl

    -- the own run is kept
    own_run : length ran.part.records.finished ≡ length here.part.records.finished + 1
    own_run = length_on here.part.records.finished (ends.finished ∷ []) ran.part.records.finished ends.kept

    brief_on : (new : RunnerState T) (made : ℕ) → IsBrief 0 0 made ran new → IsBrief most_of_run 1 (n + made) here new
    brief_on new made brief = record {
      few_steps =
          let few = brief.few_steps in
          let cost = ended_costs m laws t limits allowed here ran own_ran section.descriptor thunk outcome trail n ends in omega (arith, few, cost);
      few_runs = let few = brief.few_runs in let own = own_run in omega (arith, few, own);
    }

    steps_on : (readings made : ℕ) → readings + (n + made) ≡ readings + n + made
    steps_on readings made = omega arith

    asks_on : (readings more : ℕ) → 1 + readings + (1 + (n + more)) ≡ 2 + (readings + n) + more
    asks_on readings more = omega arith

    pub ended_rests : (got : Attempt) (new : RunnerState T) → IsOf t new → (Seen : ℕ → Asks → Type 0)
        (halts halts1 halts2 halts' : ℕ) (asks asks1 asks2 asks' : Asks) (steps steps2 steps' : ℕ)
        → IsCounted 0 1 true halts halts1 asks asks1 steps steps → IsAsked n true halts1 halts2 asks1 asks2 steps steps2
        → Rests m planning request true (length tried.readings + n) 0 got old ran new Seen halts2 halts' asks2 asks' steps2 steps'
        → Rests m planning request false (length tried.readings) most_of_run got old here new Seen halts halts' asks asks' steps steps'
    ended_rests got new own_new Seen halts halts1 halts2 halts' asks asks1 asks2 asks' steps steps2 steps' ask asked rests = record {
      answers = rests.answers;
      knows = knows_on here ran new (ended_knows m section.descriptor thunk outcome trail n here ran ends) rests.knows;
      no_other = no_other_on request.number here ran new (own_ran.requests ∙ sym own_here.requests) (own_ran.layout ∙ sym own_here.layout) ends.number
          (no_other_learned request.number here ran (record {
            more = ends.learns.more;
            adds = ends.learns.adds;
            only = λ i y there. ends.learns.only i y there ∙ tried.plans.answers.request;
          })) rests.no_other;
      made = n + rests.made;
      made_is = steps_on (length tried.readings) rests.made ∙ rests.made_is;
      published = true;
      published_is = sym (rests.late refl) ∙ rests.published_is;
      late = λ e. refl;
      asked = asked_then 1 (n + rests.made) 0 (not (is_halted got)) halts halts1 halts' asks asks1 asks' steps steps' ask
          (steps_then n rests.made 0 (not (is_halted got)) halts1 halts2 halts' asks1 asks2 asks' steps steps2 steps' asked
          (subst (λ more. IsCounted rests.made more (not (is_halted got)) halts2 halts' asks2 asks' steps2 steps') (no_more rests.published) rests.asked));
      let_go = λ halted. let last = rests.let_go halted in (
        1 + (n + last.0),
        asks_on (length tried.readings) last.0 ∙ last.1,
        seen_then Seen halts halts1 asks asks1 1 (n + last.0) (ask.went refl) ask.asked
            (seen_then Seen halts1 halts2 asks1 asks2 n last.0 (asked.went refl) asked.asked last.2),
      );
      entered = rests.entered;
      runs = λ going.
          let more = rests.runs going ∙ ap (λ k. length ran.part.records.finished + (k + (if has_helped m planning request got old new rests.answers then 1 else 0))) (no_more rests.published) in
          let own = own_run in
          let all : length new.part.records.finished ≡ length here.part.records.finished + (1 + (if has_helped m planning request got old new rests.answers then 1 else 0)) = omega (arith, more, own) in all;
      few_runs =
          let few : length new.part.records.finished ≤ length ran.part.records.finished + 1 = rests.few_runs in
          let own = own_run in
          let all : length new.part.records.finished ≤ length here.part.records.finished + 2 = omega (arith, few, own) in all;
      brief = λ none. brief_on new rests.made (rests.brief none);
    }
