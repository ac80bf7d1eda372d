-- What a run that answered has told its runner: both words of its section's request.
use Rattle.std.specs.Prelude.{◌&&◌, ◌==◌, ◌⊎◌, cond, is_none, not, slice_index, Bool, true, false}
use Rattle.std.proofs.Common.{◌≡◌, ◌≢◌, ℕ, ◌+◌, ◌-◌, ◌<◌, ◌≤◌, List, ◌++◌, length, refl, sym, ap, ◌∙◌, subst, ⊎_elim, arith, Option, Some, None}
use Rattle.std.proofs.lemmas.Bool.{and_parts}
use Rattle.std.proofs.lemmas.List.Folds.{list_any-append}
use Rattle.idem_cell.specs.section_lines.specs.small_lemmas.proofs.Bools.{or_first as or_true}
use Rattle.idem_cell.specs.machine_states.specs.body_terms.specs.declared.micro.Micro.{Micro}
use Rattle.idem_cell.specs.machine_states.specs.body_terms.specs.declared.micro.Micro.TheVariants as micros
use Rattle.idem_cell.specs.machine_states.specs.body_terms.specs.declared.outcome.Outcome.{Outcome}
use Rattle.idem_cell.specs.machine_states.specs.body_terms.specs.declared.outcome.Outcome.TheVariants as outcomes
use Rattle.idem_cell.specs.machine_states.specs.body_terms.specs.declared.step.Step.{Step}
use Rattle.idem_cell.specs.machine_states.specs.body_terms.specs.declared.step.Step.TheVariants.{Stamp, Answer}
use Rattle.idem_cell.specs.machine_states.specs.body_terms.specs.Line.{line, micro_at, is_check, is_event, begins}
use Rattle.idem_cell.specs.machine_states.specs.body_terms.specs.Run.{Setting, leaves, refusal}
use Rattle.idem_cell.specs.machine_states.specs.body_terms.specs.Shape.{IsShaped, IsStep}
use Rattle.idem_cell.specs.machine_states.specs.body_terms.specs.Shape as shape
use Rattle.idem_cell.specs.machine_states.specs.body_terms.specs.Word.{is_free, is_spent}
use Rattle.idem_cell.specs.section_lines.specs.Line.{phase}
use Rattle.idem_cell.specs.section_lines.proofs.Phases.{sole, is_the_stamp, is_in_phases}
use Rattle.idem_cell.specs.section_lines.proofs.Places.{stands_there}
use Rattle.idem_cell.specs.machine_states.specs.table_words.specs.Limits.{IsWithinLimits}
use Rattle.idem_cell.specs.machine_states.specs.structure_laws.specs.Meaning.{Meaning}
use Rattle.idem_cell.specs.machine_states.specs.structure_laws.specs.Laws.{Laws}
use Rattle.idem_cell.specs.machine_states.specs.runner_parts.specs.declared.entries.Known.{Known}
use Rattle.idem_cell.specs.machine_states.specs.runner_parts.specs.State.{RunState, PartState}
use Rattle.idem_cell.specs.machine_states.specs.runner_parts.specs.Tests.{knows, is_answered}
use Rattle.idem_cell.specs.machine_states.specs.runner_steps.specs.AfterInRun.{ended_more}
use Rattle.idem_cell.specs.machine_states.specs.runner_steps.specs.Sections.{thunk_of, line_of, setting_of, outcome_of, outcome_or, reply_in, settles}
use Rattle.idem_cell.specs.machine_states.specs.Sight.{sight, part_or_first}
use Rattle.idem_cell.specs.machine_states.proofs.Steps.{some_same, none_some}
use Rattle.nested_lock.specs.machine_facts.specs.machine_agreement.proofs.Passes.{resting}
use Rattle.nested_lock.specs.machine_facts.specs.machine_invariant.specs.After.{AreAllowed}
use Rattle.nested_lock.specs.machine_facts.specs.Told.{IsTold}
use Rattle.nested_lock.specs.machine_facts.proofs.ToldReached.{reached_told}
use Rattle.idem_alloc.specs.commit_log.specs.version_words.specs.RunnerState.{RunnerState}
use Rattle.idem_alloc.specs.commit_log.specs.version_words.specs.TableState.{TableState, IsOf}
use Rattle.idem_alloc.specs.commit_log.specs.Runs.{Stepped}
use Rattle.section_runs.proofs.Going.{shaped}
use Rattle.section_runs.proofs.Replies.{last_answer}
use Rattle.section_runs.proofs.Staying.{step_learns}

-- where the stamp's exchange stands in a line: before the reply's, and behind all checks
pub record HasStamp (code : ℕ → Micro) : Type 0 where
  pub place : ℕ
  pub here : code place ≡ micros.StampExchange
  pub before : (i n : ℕ) → code i ≡ micros.ReplyExchange n → place < i
  pub behind : (i : ℕ) → is_check (code i) ≡ true → i ≤ place
  -- and all of them stand before the line's end
  pub inside : (i : ℕ) → code i ≡ micros.End → place < i

check_early : (micro : Micro) → is_check micro ≡ true → phase micro ≡ 1
check_early micro check = grind arith

pub stamp_of : (body : List Step) → IsShaped body → HasStamp (λ i. micro_at (line body) i)
stamp_of body whole =
    let a = sole shape.is_stamp body whole.stamps in
    let at : IsStep body a.n Stamp = subst (IsStep body a.n) (is_the_stamp a.step a.passes) a.here in
    let here = stands_there body a.n 1 Stamp at (omega arith) in
    let third = ap phase here in
    let rises = (is_in_phases body whole).phases in
    record {
      place = begins body a.n + 1;
      here = here;
      before = λ i n reply. above (begins body a.n + 1) i (λ low. let falls = rises i (begins body a.n + 1) low in let sixth = ap phase reply in omega (arith, falls, sixth, third));
      behind = λ i check. below i (begins body a.n + 1) (λ over. let falls = rises (begins body a.n + 1) i (omega (arith, over)) in
          let first = check_early (micro_at (line body) i) check in omega (arith, falls, first, third));
      inside = λ i end. above (begins body a.n + 1) i (λ low. let falls = rises i (begins body a.n + 1) low in let last = ap phase end in omega (arith, falls, last, third));
    }
  where
    above : (i j : ℕ) → (j ≤ i → ⊥) → i < j
    above i j none = search arith

    below : (i j : ℕ) → (j < i → ⊥) → i ≤ j
    below i j none = search arith

-- the reply's exchange stands in the line
pub record HasReply (code : ℕ → Micro) : Type 0 where
  pub place : ℕ
  pub reply : ℕ
  pub here : code place ≡ micros.ReplyExchange reply
  pub inside : (i : ℕ) → code i ≡ micros.End → place < i
  -- and no step of an end does
  pub line : (i place word : ℕ) → code i ≢ micros.Release place word

reply_of : (body : List Step) → IsShaped body → HasReply (λ i. micro_at (line body) i)
reply_of body whole =
    let a = last_answer body whole in
    let n = length body - 1 in
    let here = stands_there body n 0 (Answer (reply_in body)) a.here (omega arith) in
    let sixth = ap phase here in
    let phases = is_in_phases body whole in
    record {
      place = begins body n + 0;
      reply = reply_in body;
      here = here;
      inside = λ i end. above (begins body n + 0) i (λ low. let falls = phases.phases i (begins body n + 0) low in let last = ap phase end in omega (arith, falls, last, sixth));
      line = λ i place word release. let high = ap phase release in ⊎_elim
          (λ low. let few = phases.inside i low in absurd (omega (arith, few, high)))
          (λ over. let last = ap phase (phases.outside i over) in absurd (omega (arith, last, high)))
          (order i phases.length);
    }
  where
    above : (i j : ℕ) → (j ≤ i → ⊥) → i < j
    above i j none = search arith

    order : (i n : ℕ) → (i < n) ⊎ (n ≤ i)
    order i n = search arith

-- a check leaves with no answer
abbrev answers : Outcome → Bool
answers (outcomes.Answered reply) = true
answers _ = false

refusal_left : (s : Setting) (place expected read : ℕ) → answers (refusal s place expected read) ≡ false
refusal_left s place expected read = by (is_free read) (is_spent s.version_max read)
  where
    by : (free spent : Bool)
        → answers (cond free (cond spent (outcomes.Spent place read) (outcomes.Stale place expected read)) (outcomes.Busy place read)) ≡ false
    by true true = refl
    by true false = refl
    by false spent = refl

some_left : (x o : Outcome) → answers x ≡ false → Some x ≡ Some o → answers o ≡ false
some_left x o e same = ap answers (sym (some_same x o same)) ∙ e

unless : (b : Bool) (x o : Outcome) → answers x ≡ false → cond b None (Some x) ≡ Some o → answers o ≡ false
unless true x o e same = absurd (none_some o (sym same))
unless false x o e same = some_left x o e same

where_so : (b : Bool) (x o : Outcome) → answers x ≡ false → cond b (Some x) None ≡ Some o → answers o ≡ false
where_so true x o e same = some_left x o e same
where_so false x o e same = absurd (none_some o (sym same))

either : (b c : Bool) (x y o : Outcome) → answers x ≡ false → answers y ≡ false → cond b (Some x) (cond c None (Some y)) ≡ Some o → answers o ≡ false
either true c x y o e f same = some_left x o e same
either false c x y o e f same = unless c y o f same

pub leaves_left : (s : Setting) (trail : List ℕ) (micro : Micro) (o : Outcome) → leaves s trail micro ≡ Some o → (answers o ≡ false) × (is_check micro ≡ true)
leaves_left s trail (micros.CheckWord place log word) o e = (unless _ _ o refl e, refl)
leaves_left s trail (micros.CheckFresh place log) o e = (where_so _ _ o refl e, refl)
leaves_left s trail (micros.CheckFree place log word) o e = (either (s.refused log) _ _ _ o refl (refusal_left s place word (slice_index trail log)) e, refl)
leaves_left s trail (micros.CheckHeld place log word) o e = (unless _ _ o (refusal_left s place word (slice_index trail log)) e, refl)
leaves_left s trail _ o e = absurd (none_some o (sym e))

-- an outcome that is an answer is that of no check
none_by : (x : Option Outcome) (reply n : ℕ) → outcome_or x reply ≡ outcomes.Answered n → ((o : Outcome) → x ≡ Some o → answers o ≡ false) → x ≡ None
none_by None reply n e left = refl
none_by (Some y) reply n e left = absurd (let z : false ≡ true = sym (left y refl) ∙ ap answers e in cc)

-- where no check passes and no event stands, the line is at its end
at_end : (micro : Micro) (none : Bool) → none ≡ true → (is_check micro && none) ≡ false → is_event micro ≡ false → micro ≡ micros.End
at_end micros.End none e checks event = refl
at_end (micros.CheckWord place log word) none e checks event = absurd (let z : true ≡ false = sym e ∙ checks in cc)
at_end (micros.CheckFresh place log) none e checks event = absurd (let z : true ≡ false = sym e ∙ checks in cc)
at_end (micros.CheckFree place log word) none e checks event = absurd (let z : true ≡ false = sym e ∙ checks in cc)
at_end (micros.CheckHeld place log word) none e checks event = absurd (let z : true ≡ false = sym e ∙ checks in cc)
at_end _ none e checks event = absurd (let z = event in cc)

-- what was answered is answered on
answered_on : (known more : List Known) (n : ℕ) → is_answered known n ≡ true → is_answered (known ++ more) n ≡ true
answered_on known more n e = ap (λ b. b && knows (known ++ more) n true) (word false (and_parts _ _ e).0) ∙ word true (and_parts _ _ e).1
  where
    word : (reply : Bool) → knows known n reply ≡ true → knows (known ++ more) n reply ≡ true
    word reply is = list_any-append (λ x. x.request == n && cond reply x.reply (not x.reply)) known more ∙ or_true (knows known n reply) (knows more n reply) is

-- a run whose outcome is an answer stands at its line's end, behind the exchanges of the stamp and of the reply
module _ {T : Type 0} (m : Meaning) (laws : Laws m) (t : TableState T) (limits : IsWithinLimits t.layout) (allowed : AreAllowed t.requests)
    (r new : RunnerState T) (own : IsOf t r) (q : RunState) (place word found : ℕ) (step : Stepped m q (micros.Release place word) found r new)
    (rests : settles m r.layout q ≡ q) (answer : ℕ) (is : outcome_of m r.layout (ended_more q) ≡ outcomes.Answered answer) where
  abbrev request : ℕ
  request = (thunk_of q.opened).request

  abbrev setting : Setting
  setting = setting_of r.layout q.descriptor

  abbrev at : Micro
  at = micro_at (line_of m q) q.at

  whole : IsShaped (m.body (thunk_of q.opened))
  whole = shaped m laws t limits allowed r own q step.running

  stamp : HasStamp (λ i. micro_at (line_of m q) i)
  stamp = stamp_of (m.body (thunk_of q.opened)) whole

  reply : HasReply (λ i. micro_at (line_of m q) i)
  reply = reply_of (m.body (thunk_of q.opened)) whole

  stays : leaves setting q.trail at ≡ None
  stays = none_by (leaves setting q.trail at) _ answer is (λ o left. (leaves_left setting q.trail at o left).0)

  no_event : is_event at ≡ false
  no_event = by (is_event at) _ step.next
    where
      by : (b : Bool) (rest : Micro) → cond b at rest ≡ micros.Release place word → b ≡ false
      by false rest next = refl
      by true rest next = absurd (reply.line q.at place word next)

  ends : at ≡ micros.End
  ends = at_end at (is_none (leaves setting q.trail at)) (ap is_none stays) (resting m r.layout q rests) no_event

  told : (i : ℕ) → i < q.at → IsTold r.part.records.known request (micro_at (line_of m q) i)
  told i low = subst (λ (p : PartState). IsTold p.records.known request (micro_at (line_of m q) i)) seen
      ((reached_told m laws r.layout r.requests (subst IsWithinLimits (sym own.layout) limits) (subst AreAllowed (sym own.requests) allowed)
      step.running.inside.world step.running.inside.reached r.number).told q (ap (λ (p : PartState). p.run) seen ∙ step.running.inside.running) i low)
    where
      seen : (sight m r.layout r.requests step.running.inside.world).part r.number ≡ r.part
      seen = ap part_or_first step.running.inside.own

  both_known : (known : List Known) → knows known request false ≡ true → knows known request true ≡ true → is_answered known request ≡ true
  both_known known one two = ap (λ b. b && knows known request true) one ∙ two

  before : is_answered r.part.records.known request ≡ true
  before = both_known r.part.records.known
      (subst (IsTold r.part.records.known request) stamp.here (told stamp.place (stamp.inside q.at ends)))
      (subst (IsTold r.part.records.known request) reply.here (told reply.place (reply.inside q.at ends)))

  pub answered_told : is_answered new.part.records.known request ≡ true
  answered_told =
      let learns = step_learns m laws t limits allowed r new own q (micros.Release place word) found step in
      ap (λ known. is_answered known request) learns.adds ∙ answered_on r.part.records.known learns.more request before
