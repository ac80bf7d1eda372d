-- A section that is attempted again.
use Rattle.std.specs.Prelude.{◌==◌, ◌&&◌, ◌||◌, not, nat_lt, ◌%◌, Bool, true, false, slice_get, Result, Ok, Err}
use Rattle.std.specs.List.{list_all}
use Rattle.std.proofs.Common.{◌≡◌, ℕ, suc, ◌+◌, ◌≤◌, List, [], ◌∷◌, refl, sym, ap, ◌∙◌, subst, arith}
use Rattle.machine_states.specs.map_history.specs.declared.op.Request.{Request}
use Rattle.machine_states.specs.body_terms.specs.declared.thunk.Thunk.{Thunk}
use Rattle.runner_gate.specs.Asks.{Asks}
use Rattle.machine_states.specs.structure_laws.specs.Scene.{Readings}
use Rattle.machine_states.specs.structure_laws.specs.Meaning.{Meaning}
use Rattle.machine_states.specs.runner_parts.specs.declared.entries.Known.{Known}
use Rattle.machine_states.specs.runner_parts.specs.Tests.{is_answered, are_answered}
use Rattle.version_words.specs.RunnerState.{RunnerState}
use Rattle.version_words.specs.TableState.{TableState, IsOf}
use Rattle.attempts.specs.epoch_slots.specs.Collects.{IsTidy}
use Rattle.attempts.specs.try_lock.specs.Planning.{Planning}
use Rattle.attempts.specs.caller_facts.specs.Knowing.{IsFront, KnowsMore, LearnsNoOther}
use Rattle.attempts.specs.caller_facts.specs.Asking.{MayAttempt}
use Rattle.attempts.specs.Attempts.{is_halted, Answers}
use Rattle.attempts.specs.declared.answers.Attempt.{Attempt}
use Rattle.attempts.specs.declared.answers.Attempt.TheVariants as answers
use Rattle.attempts.specs.caller_facts.proofs.Knowing.{answered_on, knows_same, knows_on, no_other_on}
use Rattle.lock_attempts.specs.Sections.{is_done, SectionAttempts}
use Rattle.lock_attempts.specs.Again.{is_tried_again, AreRefused, Persists}

pub both : (a b : Bool) → (a && b) ≡ true → (a ≡ true) × (b ≡ true)
both true b e = (refl, e)
both false b e = absurd (let z = e in cc)

pub both_are : (a b : Bool) → a ≡ true → b ≡ true → (a && b) ≡ true
both_are a b one two = ap (λ x. x && b) one ∙ two

-- a weaker test
pub all_on : {X : Type 0} (p q : X → Bool) → ((x : X) → p x ≡ true → q x ≡ true) → (xs : List X) → list_all p xs ≡ true → list_all q xs ≡ true
all_on p q on [] e = refl
all_on p q on (x ∷ xs) e = let parts = both (p x) (list_all p xs) e in both_are (q x) (list_all q xs) (on x parts.0) (all_on p q on xs parts.1)

or_on : (a b c : Bool) → (b ≡ true → c ≡ true) → (a || b) ≡ true → (a || c) ≡ true
or_on true b c on e = refl
or_on false b c on e = on e

-- what was answered is answered on
pub answered_more : (known more : List Known) → IsFront known more → (n : ℕ) → is_answered known n ≡ true → is_answered more n ≡ true
answered_more known more front n e = ap (λ xs. is_answered xs n) front.parts ∙ answered_on known front.back n e

pub earlier_on : (known more : List Known) → IsFront known more → (trace below : ℕ) (requests : List Request)
    → are_answered known trace below requests ≡ true → are_answered more trace below requests ≡ true
earlier_on known more front trace below requests e = all_on
    (λ (x : Request). not (x.trace == trace && nat_lt x.number below) || is_answered known x.number)
    (λ (x : Request). not (x.trace == trace && nat_lt x.number below) || is_answered more x.number)
    (λ x. or_on (not (x.trace == trace && nat_lt x.number below)) (is_answered known x.number) (is_answered more x.number) (answered_more known more front x.number))
    requests e

next_parts : (a b c : Bool) → (a && (not b && c)) ≡ true → (a ≡ true) × (b ≡ false) × (c ≡ true)
next_parts true false true e = (refl, refl, refl)
next_parts true false false e = absurd (let z = e in cc)
next_parts true true c e = absurd (let z = e in cc)
next_parts false b c e = absurd (let z = e in cc)

pub next_of_parts : (a b c : Bool) → a ≡ true → b ≡ false → c ≡ true → (a && (not b && c)) ≡ true
next_of_parts a b c one two three = ap (λ x. x && (not b && c)) one ∙ (ap (λ x. not x && c) two ∙ three)

-- a runner that knows more, and doesn't know this request, may attempt it still
module _ {T : Type 0} (planning : Planning) (request : Request) (t : TableState T) (old new : RunnerState T) (own_old : IsOf t old) (own_new : IsOf t new) where
  layout : new.layout ≡ old.layout
  layout = own_new.layout ∙ sym own_old.layout

  requests : new.requests ≡ old.requests
  requests = own_new.requests ∙ sym own_old.requests

  pub may_again : MayAttempt planning request old → KnowsMore old new → IsTidy new → is_answered new.part.records.known request.number ≡ false
      → MayAttempt planning request new
  may_again may knows tidy unknown = record {
    tidy = tidy;
    there = ap (λ rs. slice_get rs request.number) requests ∙ may.there;
    next = next_of_parts _ _ _
        ((λ i. request.trace % (layout i).runners == knows.number i) ∙ parts.0)
        unknown
        (ap (are_answered new.part.records.known request.trace request.number) requests
        ∙ earlier_on old.part.records.known new.part.records.known knows.known request.trace request.number old.requests parts.2);
    served = may.served;
  }
    where
      parts : (request.trace % old.layout.runners == old.number ≡ true) × (is_answered old.part.records.known request.number ≡ false)
          × (are_answered old.part.records.known request.trace request.number old.requests ≡ true)
      parts = next_parts _ _ _ may.next

-- what an answer that is no Done and no Halted leaves
module _ {T : Type 0} (m : Meaning) (planning : Planning) (request : Request) (old new : RunnerState T) where
  pub open_after : (answer : Attempt) → is_done answer ≡ false → is_halted answer ≡ false → Answers m planning request answer old new
      → IsTidy new × (is_answered new.part.records.known request.number ≡ false)
  open_after (answers.Busy place word) e go is = (is.tidy, is.untouched.unknown)
  open_after (answers.Stale place expected read) e go is = (is.tidy, is.untouched.unknown)
  open_after (answers.Far loads) e go is = (is.tidy, is.untouched.unknown)
  open_after (answers.Spent place word) e go is = (is.tidy, is.untouched.unknown)
  open_after (answers.Short short) e go is = (is.reclaims.rested.tidy, is.untouched.unknown)
  open_after (answers.Done reply stamp) e go is = absurd (let z = e in cc)
  open_after answers.Halted e go is = absurd (let z = go in cc)

again_going : (answer : Attempt) → is_tried_again (Err answer) ≡ true → is_halted answer ≡ false
again_going (answers.Busy place word) e = refl
again_going (answers.Stale place expected read) e = refl
again_going (answers.Far loads) e = refl
again_going (answers.Spent place word) e = refl
again_going (answers.Done reply stamp) e = refl
again_going (answers.Short short) e = refl
again_going answers.Halted e = absurd (let z = e in cc)

module _ {T : Type 0} (m : Meaning) (planning : Planning) (request : Request) (own : Readings → Thunk) (t : TableState T) (old : RunnerState T) (Seen : ℕ → Asks → Type 0) where
  -- so many attempts so far, after each of which the section was attempted again
  pub record IsTrying (n : ℕ) (r : RunnerState T) (halts halts' : ℕ) (asks asks' : Asks) (steps steps' : ℕ) : Type 0 where
    pub of_table : IsOf t r
    pub tries : AreRefused m planning request own n old r Seen halts halts' asks asks' steps steps'
    pub went : halts' ≡ halts
    pub may : MayAttempt planning request r
    pub knows : KnowsMore old r
    pub no_other : LearnsNoOther request.number old r

module _ {T : Type 0} (m : Meaning) (planning : Planning) (request : Request) (own : Readings → Thunk) (t : TableState T) (old : RunnerState T) (own_old : IsOf t old)
    (Seen : ℕ → Asks → Type 0) where
  abbrev pub Tries : (n : ℕ) (r : RunnerState T) (halts halts' : ℕ) (asks asks' : Asks) (steps steps' : ℕ) → Type 0
  Tries n r halts halts' asks asks' steps steps' = IsTrying m planning request own t old Seen n r halts halts' asks asks' steps steps'

  pub trying_begins : MayAttempt planning request old → (halts : ℕ) (asks : Asks) (steps : ℕ) → Tries 0 old halts halts asks asks steps steps
  trying_begins may halts asks steps = record {
    of_table = own_old;
    tries = (refl, refl, refl, refl);
    went = refl;
    may = may;
    knows = knows_same old old refl refl refl;
    no_other = λ q own ne. refl;
  }

  module _ (n : ℕ) (r : RunnerState T) (halts halts' : ℕ) (asks asks' : Asks) (steps steps' : ℕ) (is : Tries n r halts halts' asks asks' steps steps')
      (new : RunnerState T) (own_new : IsOf t new) (halts'' : ℕ) (asks'' : Asks) (steps'' : ℕ) where
    no_others : (b : RunnerState T) → LearnsNoOther request.number r b → LearnsNoOther request.number old b
    no_others b more = no_other_on request.number old r b (is.of_table.requests ∙ sym own_old.requests) (is.of_table.layout ∙ sym own_old.layout) is.knows.number is.no_other more

    -- one more
    trying_on : (answer : Result ℕ Attempt) → is_tried_again answer ≡ true → SectionAttempts m planning request own answer r new Seen halts' halts'' asks' asks'' steps' steps''
        → Tries (suc n) new halts halts'' asks asks'' steps steps''
    trying_on (Ok reply) e a = absurd (let z = e in cc)
    trying_on (Err answer) e a =
        let going = again_going answer e in
        let left = open_after m planning request r new answer a.0 going a.1.is.answers in
        record {
          of_table = own_new;
          tries = (r, halts', asks', steps', answer, is.tries, e, a);
          went = a.1.asked.went (ap not going) ∙ is.went;
          may = may_again planning request t r new is.of_table own_new is.may a.1.is.knows left.0 left.1;
          knows = knows_on old r new is.knows a.1.is.knows;
          no_other = no_others new a.1.is.no_other;
        }

    pub trying_next : (answer : Result ℕ Attempt) → is_tried_again answer ≡ true → SectionAttempts m planning request own answer r new Seen halts' halts'' asks' asks'' steps' steps''
        → Tries (n + 1) new halts halts'' asks asks'' steps steps''
    trying_next answer e a =
        let same : suc n ≡ n + 1 = omega arith in
        subst (λ k. Tries k new halts halts'' asks asks'' steps steps'') same (trying_on answer e a)

    knows_all : (answer : Result ℕ Attempt) → SectionAttempts m planning request own answer r new Seen halts' halts'' asks' asks'' steps' steps'' → KnowsMore r new
    knows_all (Ok reply) a = a.knows
    knows_all (Err answer) a = a.1.is.knows

    knows_no_other : (answer : Result ℕ Attempt) → SectionAttempts m planning request own answer r new Seen halts' halts'' asks' asks'' steps' steps''
        → LearnsNoOther request.number r new
    knows_no_other (Ok reply) a = a.no_other
    knows_no_other (Err answer) a = a.1.is.no_other

    -- the last one
    pub trying_ends : (more : ℕ) → n ≤ more → (answer : Result ℕ Attempt) → SectionAttempts m planning request own answer r new Seen halts' halts'' asks' asks'' steps' steps''
        → Persists m planning request own more answer old new Seen halts halts'' asks asks'' steps steps''
    trying_ends more few answer a = record {
      before = r;
      asks1 = asks';
      steps1 = steps';
      refused = n;
      few = few;
      tries = subst (λ h. AreRefused m planning request own n old r Seen halts h asks asks' steps steps') is.went is.tries;
      may = is.may;
      last = subst (λ h. SectionAttempts m planning request own answer r new Seen h halts'' asks' asks'' steps' steps'') is.went a;
      knows = knows_on old r new is.knows (knows_all answer a);
      no_other = no_others new (knows_no_other answer a);
    }
