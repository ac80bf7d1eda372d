-- What a worker knows of its own requests, from one to the next.
use Rattle.std.specs.Prelude.{◌==◌, ◌&&◌, ◌||◌, ◌%◌, not, nat_lt, Bool, true, false, slice_get, Result, Ok, IfOk}
use Rattle.std.specs.List.{list_all}
use Rattle.std.proofs.Common.{◌≡◌, ◌≢◌, ℕ, zero, suc, ◌+◌, ◌<◌, List, [], ◌∷◌, refl, sym, ap, ◌∙◌, subst, eq-eqb, arith, ⊎_elim, Some}
use Rattle.std.proofs.lemmas.Bool.{cases_eq}
use Rattle.std.proofs.lemmas.Bool.Decides.{nat_tests}
use Rattle.machine_states.specs.map_history.specs.declared.op.Request.{Request}
use Rattle.machine_states.specs.map_history.specs.declared.reply.Reply.{Reply}
use Rattle.machine_states.specs.map_history.specs.Requests.{AreInOrder}
use Rattle.machine_states.specs.map_history.specs.Words.{word_of}
use Rattle.machine_states.specs.table_words.specs.declared.layout.Layout.{Layout}
use Rattle.machine_states.specs.structure_laws.specs.Meaning.{Meaning}
use Rattle.machine_states.specs.runner_parts.specs.Tests.{is_answered, are_answered}
use Rattle.machine_states.proofs.Steps.{some_same}
use Rattle.settled_tables.specs.settling.specs.runner_gate.specs.Asks.{Asks}
use Rattle.settled_tables.specs.closed_words.specs.version_words.specs.RunnerState.{RunnerState}
use Rattle.settled_tables.specs.closed_words.specs.version_words.specs.TableState.{TableState, IsOf}
use Rattle.hash_table.specs.try_lock.specs.epoch_slots.specs.declared.reserves.Short.{Short}
use Rattle.hash_table.specs.try_lock.specs.Planning.{Planning}
use Rattle.lock_attempts.specs.attempts.specs.Attempts.{Answers, Attempts}
use Rattle.lock_attempts.specs.attempts.specs.caller_facts.specs.Asking.{MayAttempt}
use Rattle.lock_attempts.specs.attempts.specs.caller_facts.specs.Knowing.{IsOwn}
use Rattle.lock_attempts.specs.attempts.specs.declared.answers.Attempt.{Attempt}
use Rattle.lock_attempts.specs.attempts.specs.declared.answers.Attempt.TheVariants as answers
use Rattle.lock_tests.specs.Workers.{IsNewWorker}
use Rattle.lock_tests.specs.Sharing.{HasServedOwn}
use Rattle.lock_tests.proofs.Numbered.{numbered}
use Rattle.lock_tests.proofs.Next.{knows_entry}

all_of : {A : Type 0} (p : A → Bool) (xs : List A) → ((i : ℕ) (x : A) → slice_get xs i ≡ Some x → p x ≡ true) → list_all p xs ≡ true
all_of p [] each = refl
all_of p (x ∷ xs) each = (λ i. each zero x refl i && all_of p xs (λ n y at. each (suc n) y at) i)

-- what is said of an Ok
pub ok_then : {A B : Type 0} (told : Result A B) (a : A) (P : Type 0) → told ≡ Ok a → IfOk told (λ _. P) → P
ok_then told a P is holds = subst (λ o. IfOk o (λ _. P)) is holds

is_same : (a b : ℕ) → (a == b) ≡ true → a ≡ b
is_same a b e = grind (arith, nat_tests, e)

is_below : (a b : ℕ) → nat_lt a b ≡ true → a < b
is_below a b e = grind (arith, nat_tests, e)

each : (same low known : Bool) → (same ≡ true → low ≡ true → known ≡ true) → (not (same && low) || known) ≡ true
each true true known by = by refl refl
each true false known by = refl
each false low known by = refl

module _ {T : Type 0} where
  -- a new worker has served none
  pub new_has_served_own : (n : ℕ) (r : RunnerState T) → IsNewWorker n r → HasServedOwn 0 r
  new_has_served_own n r new = record {
    tidy = new.tidy;
    answered = λ q own low. absurd (omega (arith, low));
    others = λ q own high. ap (λ known. is_answered known q.number) new.knows;
  }

  module _ (number : ℕ) (r : RunnerState T) (before : HasServedOwn number r) (q : Request) (there : slice_get r.requests number ≡ Some q) (order : AreInOrder r.requests 64) where
    here : q.number ≡ number
    here = numbered r.requests order number q there

    -- a request of another worker's is passed over
    pub passed_over : q.trace % r.layout.runners ≢ r.number → HasServedOwn (number + 1) r
    passed_over other = record {
      tidy = before.tidy;
      answered = λ x own low. ⊎_elim (λ same. absurd (other (whose x own same))) (λ ne. before.answered x own (omega (arith, low, ne))) (cases_eq x.number number);
      others = λ x own high. before.others x own (omega (arith, high));
    }
      where
        whose : (x : Request) → IsOwn r x → x.number ≡ number → q.trace % r.layout.runners ≡ r.number
        whose x own same = ap (λ (y : Request). y.trace % r.layout.runners)
            (some_same q x (sym there ∙ (ap (slice_get r.requests) (sym same) ∙ own.there))) ∙ own.own

    -- an own one may be attempted
    pub may_attempt : (planning : Planning) → q.trace % r.layout.runners ≡ r.number → planning.serves q.op ≡ true → MayAttempt planning q r
    may_attempt planning mine serves = record {
      tidy = before.tidy;
      there = ap (slice_get r.requests) here ∙ there;
      next = (λ i. eq-eqb (q.trace % r.layout.runners) r.number mine i && (not (unknown i) && earlier i));
      served = serves;
    }
      where
        unknown : is_answered r.part.records.known q.number ≡ false
        unknown = before.others q (record { there = ap (slice_get r.requests) here ∙ there; own = mine }) (omega (arith, here))

        own_too : (i : ℕ) (x : Request) → slice_get r.requests i ≡ Some x → x.trace ≡ q.trace → IsOwn r x
        own_too i x at same = record {
          there = ap (slice_get r.requests) (numbered r.requests order i x at) ∙ at;
          own = ap (λ n. n % r.layout.runners) same ∙ mine;
        }

        earlier : are_answered r.part.records.known q.trace q.number r.requests ≡ true
        earlier = all_of (λ (x : Request). not (x.trace == q.trace && nat_lt x.number q.number) || is_answered r.part.records.known x.number) r.requests
            (λ i x at. each (x.trace == q.trace) (nat_lt x.number q.number) (is_answered r.part.records.known x.number)
            (λ same low. before.answered x (own_too i x at (is_same x.trace q.trace same))
            (let less = is_below x.number q.number low in let e = here in omega (arith, less, e))))

  -- so it is of a table with two workers
  module _ (t : TableState T) (r : RunnerState T) (own : IsOf t r) (two : t.layout.runners ≡ 2) (q : Request) (there : slice_get t.requests q.number ≡ Some q)
      (before : HasServedOwn q.number r) where
    runners : r.layout.runners ≡ 2
    runners = ap (λ (l : Layout). l.runners) own.layout ∙ two

    order : AreInOrder r.requests 64
    order = subst (λ rs. AreInOrder rs 64) (sym own.requests) (own.allowed _ refl).in_order

    here_too : slice_get r.requests q.number ≡ Some q
    here_too = ap (λ rs. slice_get rs q.number) own.requests ∙ there

    pub passed_of_two : q.trace % 2 ≢ r.number → HasServedOwn (q.number + 1) r
    passed_of_two other = passed_over q.number r before q here_too order (λ same. other (ap (λ n. q.trace % n) (sym runners) ∙ same))

    pub may_of_two : (planning : Planning) → q.trace % 2 ≡ r.number → planning.serves q.op ≡ true → MayAttempt planning q r
    may_of_two planning mine serves = may_attempt q.number r before q here_too order planning (ap (λ n. q.trace % n) runners ∙ mine) serves

module _ {T : Type 0} (m : Meaning) (planning : Planning) (t : TableState T) (old new : RunnerState T) (own_old : IsOf t old) (own_new : IsOf t new)
    (q : Request) (answer : Attempt) (Seen : ℕ → Asks → Type 0) (halts halts' : ℕ) (asked asked' : Asks) (steps steps' : ℕ)
    (attempts : Attempts m planning q answer old new Seen halts halts' asked asked' steps steps') (before : HasServedOwn q.number old) where
  was_own : (x : Request) → IsOwn new x → IsOwn old x
  was_own x own = record {
    there = ap (λ rs. slice_get rs x.number) (own_old.requests ∙ sym own_new.requests) ∙ own.there;
    own = ap (λ (l : Layout). x.trace % l.runners) (own_old.layout ∙ sym own_new.layout) ∙ (own.own ∙ attempts.is.knows.number);
  }

  as_before : (x : Request) → IsOwn new x → x.number ≢ q.number → is_answered new.part.records.known x.number ≡ is_answered old.part.records.known x.number
  as_before x own ne = attempts.is.no_other x (was_own x own) ne

  -- the request is served
  pub served_own : (reply : Reply) (stamp : ℕ) → answer ≡ answers.Done reply stamp → HasServedOwn (q.number + 1) new
  served_own reply stamp done =
      let served = subst (λ (a : Attempt). Answers m planning q a old new) done attempts.is.answers in
      let known : is_answered new.part.records.known q.number ≡ true
      = (λ i. knows_entry new.part.records.known served.knows_stamp.0 q.number stamp false served.knows_stamp.1 i && knows_entry new.part.records.known served.knows_reply.0 q.number (word_of reply) true served.knows_reply.1 i) in record {
        tidy = served.tidy;
        answered = λ x own low. ⊎_elim (λ same. ap (is_answered new.part.records.known) same ∙ known)
            (λ ne. as_before x own ne ∙ before.answered x (was_own x own) (omega (arith, low, ne))) (cases_eq x.number q.number);
        others = λ x own high. as_before x own (λ same. omega (arith, same, high)) ∙ before.others x (was_own x own) (omega (arith, high));
      }

  -- slots lack
  pub lacks_still : (short : Short) → answer ≡ answers.Short short → HasServedOwn q.number new
  lacks_still short lacks =
      let is = subst (λ (a : Attempt). Answers m planning q a old new) lacks attempts.is.answers in record {
        tidy = is.reclaims.rested.tidy;
        answered = λ x own low. as_before x own (λ same. omega (arith, same, low)) ∙ before.answered x (was_own x own) low;
        others = λ x own high. ⊎_elim (λ same. ap (is_answered new.part.records.known) same ∙ is.untouched.unknown)
            (λ ne. as_before x own ne ∙ before.others x (was_own x own) high) (cases_eq x.number q.number);
      }
