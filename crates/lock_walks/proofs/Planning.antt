-- What is answered where a walker has led.
use Rattle.std.proofs.Common.{◌≡◌, ℕ, ◌+◌, ◌*◌, ◌≤◌, [], ◌∷◌, ◌++◌, length, Bool, true, false, refl, sym, ap, subst, ◌∙◌, arith, Option, Some, None}
use Rattle.std.specs.Prelude.{◌-◌, ◌==◌, ◌&&◌, is_some, not, if◌then◌else◌}
use Rattle.machine_states.specs.map_history.specs.declared.op.Op.{Op}
use Rattle.machine_states.specs.map_history.specs.declared.op.Request.{Request}
use Rattle.machine_states.specs.body_terms.specs.Word.{value_of, version_of, pack, is_free, is_spent}
use Rattle.machine_states.specs.body_terms.specs.declared.thunk.Thunk.{Thunk}
use Rattle.machine_states.specs.table_words.specs.declared.layout.Layout.{Layout}
use Rattle.try_lock.specs.section_runs.specs.runner_gate.specs.Asks.{Asks}
use Rattle.machine_states.specs.structure_laws.specs.Scene.{Readings}
use Rattle.machine_states.specs.structure_laws.specs.Meaning.{Meaning}
use Rattle.machine_states.specs.structure_laws.specs.Cells.{slots}
use Rattle.machine_states.specs.runner_parts.specs.State.{ReadsState}
use Rattle.try_lock.specs.commit_log.specs.version_words.specs.RunnerState.{RunnerState}
use Rattle.try_lock.specs.commit_log.specs.version_words.specs.TableState.{TableState, IsOf}
use Rattle.try_lock.specs.commit_log.specs.Asked.{IsAsked}
use Rattle.try_lock.specs.declared.planned.Planned.{Planned}
use Rattle.try_lock.specs.declared.planned.Planned.TheVariants as answers
use Rattle.try_lock.specs.Planning as planning
use Rattle.try_lock.specs.Plans.{is_halted, refused_at, IsWalk, IsRefused, IsFit, Answers, MayPlan, HasPlanned}
use Rattle.lock_walks.specs.Way.{Way, fed_all, Leads}
use Rattle.lock_walks.specs.Own.{own_thunk, IsOwn}
use Rattle.lock_walks.specs.Led.{HasLed}
use Rattle.lock_walks.proofs.Leading.{fed_more, none_more}

-- this answer is a refusal
abbrev IsRefusal : Planned → Type 0
IsRefusal (answers.Thunk thunk) = ⊥
IsRefusal (answers.Busy place word) = Unit {0}
IsRefusal (answers.Spent place word) = Unit {0}
IsRefusal (answers.Stale place expected read) = Unit {0}
IsRefusal (answers.Far loads) = Unit {0}
IsRefusal answers.Halted = ⊥

abbrev IsRefusalIfAny : Option Planned → Type 0
IsRefusalIfAny None = Unit {0}
IsRefusalIfAny (Some answer) = IsRefusal answer

by_tests : (lock free spent stale far : Bool) (a b c d : Planned) → IsRefusal a → IsRefusal b → IsRefusal c → IsRefusal d
    → IsRefusalIfAny (if lock then (if free then (if spent then Some a else None) else Some b) else (if stale then Some c else (if far then Some d else None)))
by_tests true true true stale far a b c d ia ib ic id = ia
by_tests true true false stale far a b c d ia ib ic id = tt
by_tests true false spent stale far a b c d ia ib ic id = ib
by_tests false free spent true far a b c d ia ib ic id = ic
by_tests false free spent false true a b c d ia ib ic id = id
by_tests false free spent false false a b c d ia ib ic id = tt

not_halted : (answer : Planned) → IsRefusal answer → not (is_halted answer) ≡ true
not_halted (answers.Thunk thunk) is = absurd is
not_halted (answers.Busy place word) is = refl
not_halted (answers.Spent place word) is = refl
not_halted (answers.Stale place expected read) is = refl
not_halted (answers.Far loads) is = refl
not_halted answers.Halted is = absurd is

module _ (m : Meaning) (plans : planning.Planning) (layout : Layout) (op : Op) where
  refuses : (before : Readings) (place word : ℕ) (answer : Planned) → refused_at m plans layout op before place word ≡ Some answer → IsRefusal answer
  refuses before place word answer e = subst IsRefusalIfAny e (by_tests (m.is_lock place) (is_free word) (is_spent layout.version_max word) (plans.is_mark place && (value_of word == 1))
      (plans.is_far layout op (before ++ (place, word) ∷ [])) (answers.Spent place word) (answers.Busy place word) (answers.Stale place (pack 0 (version_of word - 1)) word)
      (answers.Far (slots m layout + 8)) tt tt tt tt)

  answers_so : (number : ℕ) (readings : Readings) (answer : Planned) → IsRefusal answer → IsRefused m plans layout op readings answer → Answers m plans layout op number readings answer
  answers_so number readings (answers.Thunk thunk) is so = absurd is
  answers_so number readings (answers.Busy place word) is so = so
  answers_so number readings (answers.Spent place word) is so = so
  answers_so number readings (answers.Stale place expected read) is so = so
  answers_so number readings (answers.Far loads) is so = so
  answers_so number readings answers.Halted is so = absurd is

-- what is told of an answer by a table's own structure and layout
pub tells_here : {T : Type 0} (meaning : T → Meaning) (plans : planning.Planning) (op : Op) (place word : ℕ) (answer : Planned)
    (structure own : T) → structure ≡ own → (layout own_layout : Layout) → layout ≡ own_layout
    → ((before : Readings) → is_some (refused_at (meaning structure) plans layout op before place word) ≡ true → refused_at (meaning structure) plans layout op before place word ≡ Some answer)
    → (before : Readings) → is_some (refused_at (meaning own) plans own_layout op before place word) ≡ true → refused_at (meaning own) plans own_layout op before place word ≡ Some answer
tells_here meaning plans op place word answer structure own same layout own_layout same_layout tells before =
    subst (λ s. is_some (refused_at (meaning s) plans own_layout op before place word) ≡ true → refused_at (meaning s) plans own_layout op before place word ≡ Some answer) same
    (subst (λ l. is_some (refused_at (meaning structure) plans l op before place word) ≡ true → refused_at (meaning structure) plans l op before place word ≡ Some answer) same_layout
    (tells before))

module _ {W T : Type 0} (m : Meaning) (way : Way W) (t : TableState T) (walk : W) (leads : Leads way m t.layout walk) (old : RunnerState T) (own : IsOf t old) (request : Request)
    (same_op : way.op walk ≡ request.op) (walk' : W) (place word : ℕ) (going : Bool) (new : RunnerState T) (halts halts' : ℕ) (asks asks' : Asks) (steps steps' : ℕ)
    (so : HasLed m t.layout way walk walk' place word going old new halts halts' asks asks' steps steps') where
  planned : (answer : Planned) → Answers m (way.planning walk) t.layout (way.op walk) request.number so.readings answer → going ≡ not (is_halted answer)
      → HasPlanned m (way.planning walk) request answer old new halts halts' asks asks' steps steps'
  planned answer answers went = record {
    readings = so.readings;
    walk = subst (λ (o : Op). IsWalk m (way.planning walk) old.layout o so.readings) same_op (subst (λ (l : Layout). IsWalk m (way.planning walk) l (way.op walk) so.readings) (sym own.layout) so.walks);
    walked = so.walked;
    answers = subst (λ (o : Op). Answers m (way.planning walk) old.layout o request.number so.readings answer) same_op
        (subst (λ (l : Layout). Answers m (way.planning walk) l (way.op walk) request.number so.readings answer) (sym own.layout) answers);
    asked = subst (λ b. IsAsked (length so.readings) b halts halts' asks asks' steps steps') went so.asked;
    few = subst (λ (l : Layout). length so.readings ≤ 6 * slots m l + 44) (sym own.layout) (let a = so.few in let b = leads.few in omega (arith, a, b));
    reached = so.reached;
  }

  pub cut : going ≡ false → HasPlanned m (way.planning walk) request answers.Halted old new halts halts' asks asks' steps steps'
  cut halted = planned answers.Halted (record { before = so.last.before; place = place; word = word; last = so.last.last; first = so.last.none }) halted

  -- how the last reading refuses, by what is told of the answer
  module _ (went : going ≡ true) (is : way.refused walk' ≡ true) (answer : Planned)
      (tells : (before : Readings) → is_some (refused_at m (way.planning walk') t.layout (way.op walk) before place word) ≡ true
      → refused_at m (way.planning walk') t.layout (way.op walk) before place word ≡ Some answer) where
    cause : refused_at m (way.planning walk) t.layout (way.op walk) so.last.before place word ≡ Some answer
    cause =
        let same : way.planning walk' ≡ way.planning walk = ap way.planning so.behind ∙ leads.steady so.readings in
        let some : is_some (refused_at m (way.planning walk) t.layout (way.op walk) so.last.before place word) ≡ true = sym (leads.refuses so.last.before place word so.last.led so.last.wanted (subst (m.walked t.layout (way.op walk)) so.last.last so.last.stands))
        ∙ (ap way.refused (sym (fed_more m way walk so.last.before place word) ∙ (ap (fed_all way walk) (sym so.last.last) ∙ sym so.behind)) ∙ is) in
        subst (λ p. is_some (refused_at m p t.layout (way.op walk) so.last.before place word) ≡ true → refused_at m p t.layout (way.op walk) so.last.before place word ≡ Some answer)
        same (tells so.last.before) some

    kind : IsRefusal answer
    kind = refuses m (way.planning walk) t.layout (way.op walk) so.last.before place word answer cause

    -- it does so as its answer says
    pub refused : HasPlanned m (way.planning walk) request answer old new halts halts' asks asks' steps steps'
    refused = planned answer (answers_so m (way.planning walk) t.layout (way.op walk) request.number so.readings answer kind
        (record { before = so.last.before; place = place; word = word; last = so.last.last; first = so.last.none; cause = cause })) (went ∙ sym (not_halted answer kind))

    -- and answers no thunk
    pub refused_owns : (readings : Readings) → IsOwn way walk request.number readings answer
    refused_owns readings = no_thunk answer kind
      where
        no_thunk : (a : Planned) → IsRefusal a → IsOwn way walk request.number readings a
        no_thunk (answers.Thunk thunk) is_one = absurd is_one
        no_thunk (answers.Busy place word) is_one = tt
        no_thunk (answers.Spent place word) is_one = tt
        no_thunk (answers.Stale place expected read) is_one = tt
        no_thunk (answers.Far loads) is_one = tt
        no_thunk answers.Halted is_one = tt

  -- the walk is whole
  pub whole : going ≡ true → way.refused walk' ≡ false → (thunk : Thunk) → thunk ≡ way.thunk walk' request.number
      → HasPlanned m (way.planning walk) request (answers.Thunk thunk) old new halts halts' asks asks' steps steps'
  whole went goes thunk is =
      let ends : way.wants (fed_all way walk so.readings) ≡ None = ap way.wants (sym so.behind) ∙ so.ends went in
      let free : way.refused (fed_all way walk so.readings) ≡ false = ap way.refused (sym so.behind) ∙ goes in
      let fit = leads.fits request.number so.readings so.led ends free in
      let same : way.thunk (fed_all way walk so.readings) request.number ≡ thunk = ap (λ w. way.thunk w request.number) (sym so.behind) ∙ sym is in
      planned (answers.Thunk thunk) (subst (λ x. IsFit m (way.planning walk) t.layout (way.op walk) request.number so.readings x) same (record {
        none = none_more m way t.layout walk leads so.readings place word so.last free;
        whole = leads.wanted so.readings so.led ∙ ends;
        fits = fit.fits;
        request = fit.request;
        operands = fit.operands;
        free = fit.free;
        unspent = fit.unspent;
        read = fit.read;
      })) went

  -- its thunk is the walk's own: the runner had read nothing before
  pub whole_owns : MayPlan old → (thunk : Thunk) → thunk ≡ way.thunk walk' request.number
      → IsOwn way walk request.number new.part.reads.walk (answers.Thunk thunk)
  whole_owns may thunk is =
      let read : new.part.reads.walk ≡ so.readings = ap (λ (s : ReadsState). s.walk) so.walked.reads ∙ ap (λ rs. rs ++ so.readings) may.fresh in
      is ∙ (ap (λ w. way.thunk w request.number) so.behind ∙ ap (own_thunk way walk request.number) (sym read))
