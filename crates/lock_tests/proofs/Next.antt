-- What a worker may attempt.
use Rattle.std.specs.Prelude.{◌==◌, ◌&&◌, ◌||◌, ◌%◌, cond, not, Bool, true, false, slice_get}
use Rattle.std.proofs.Common.{◌≡◌, ℕ, zero, suc, List, [], ◌∷◌, refl, sym, ap, ◌∙◌, subst, arith, Some}
use Rattle.std.proofs.lemmas.Bool.Decides.{nat_tests}
use Rattle.machine_states.specs.map_history.specs.declared.op.Request.{Request}
use Rattle.machine_states.specs.map_history.specs.declared.reply.Reply.{Reply}
use Rattle.machine_states.specs.map_history.specs.Words.{word_of}
use Rattle.settled_tables.specs.settling.specs.runner_gate.specs.Asks.{Asks}
use Rattle.machine_states.specs.table_words.specs.declared.layout.Layout.{Layout}
use Rattle.machine_states.specs.structure_laws.specs.Meaning.{Meaning}
use Rattle.machine_states.specs.runner_parts.specs.declared.entries.Known.{Known}
use Rattle.machine_states.specs.runner_parts.specs.Tests.{knows, is_answered, are_answered}
use Rattle.machine_states.proofs.Steps.{some_same, none_some}
use Rattle.settled_tables.specs.closed_words.specs.version_words.specs.RunnerState.{RunnerState}
use Rattle.settled_tables.specs.closed_words.specs.version_words.specs.TableState.{TableState, IsOf}
use Rattle.hash_table.specs.try_lock.specs.epoch_slots.specs.Collects.{IsTidy}
use Rattle.hash_table.specs.try_lock.specs.Planning.{Planning}
use Rattle.lock_attempts.specs.attempts.specs.Attempts.{Answers, Attempts}
use Rattle.lock_attempts.specs.attempts.specs.caller_facts.specs.Asking.{MayAttempt}
use Rattle.lock_attempts.specs.attempts.specs.declared.answers.Attempt.{Attempt}
use Rattle.lock_attempts.specs.attempts.specs.declared.answers.Attempt.TheVariants as answers
use Rattle.lock_tests.specs.AttemptScene.{adds, takes, asks, their_requests, IsScene, IsFresh}

module _ {T : Type 0} (planning : Planning) (t : TableState T) (scene : IsScene planning t) (r : RunnerState T) (own : IsOf t r) (tidy : IsTidy r) where
  requests : r.requests ≡ their_requests
  requests = own.requests ∙ scene.requests

  runners : r.layout.runners ≡ 2
  runners = ap (λ (l : Layout). l.runners) own.layout ∙ scene.runners

  pub may_add : r.number ≡ 0 → is_answered r.part.records.known 0 ≡ false → MayAttempt planning adds r
  may_add first unknown = record {
    tidy = tidy;
    there = ap (λ rs. slice_get rs 0) requests;
    next = (λ i. 0 % runners i == first i && (not (unknown i) && are_answered r.part.records.known 0 0 (requests i)));
    served = scene.serves.0;
  }

  pub may_take : r.number ≡ 0 → is_answered r.part.records.known 0 ≡ true → is_answered r.part.records.known 1 ≡ false → MayAttempt planning takes r
  may_take first known unknown = record {
    tidy = tidy;
    there = ap (λ rs. slice_get rs 1) requests;
    next = (λ i. 0 % runners i == first i && (not (unknown i) && are_answered r.part.records.known 0 1 (requests i))) ∙ (λ i. known i && true);
    served = scene.serves.1;
  }

  pub may_ask : r.number ≡ 1 → is_answered r.part.records.known 2 ≡ false → MayAttempt planning asks r
  may_ask one unknown = record {
    tidy = tidy;
    there = ap (λ rs. slice_get rs 2) requests;
    next = (λ i. 1 % runners i == one i && (not (unknown i) && are_answered r.part.records.known 1 2 (requests i)));
    served = scene.serves.2;
  }

-- a word that stands in the list is known
pub knows_entry : (known : List Known) (i number found : ℕ) (reply : Bool) → slice_get known i ≡ Some (record { request = number; reply = reply; number = found }) → knows known number reply ≡ true
knows_entry [] i number found reply at = absurd (none_some _ (sym at))
knows_entry (x ∷ known) zero number found reply at =
    ap (λ (y : Known). (y.request == number && cond reply y.reply (not y.reply)) || knows known number reply) (some_same x _ at) ∙ by reply
  where
    by : (b : Bool) → ((number == number && cond b b (not b)) || knows known number reply) ≡ true
    by true = let e : (number == number) ≡ true = grind (arith, nat_tests) in ap (λ c. (c && true) || knows known number reply) e
    by false = let e : (number == number) ≡ true = grind (arith, nat_tests) in ap (λ c. (c && true) || knows known number reply) e
knows_entry (x ∷ known) (suc i) number found reply at = either (x.request == number && cond reply x.reply (not x.reply)) _ (knows_entry known i number found reply at)
  where
    either : (p q : Bool) → q ≡ true → (p || q) ≡ true
    either true q e = refl
    either false q e = e

module _ {T : Type 0} (m : Meaning) (planning : Planning) (t : TableState T) (scene : IsScene planning t) (old new : RunnerState T) (own_old : IsOf t old) (own : IsOf t new)
    (q : Request) (answer : Attempt) (Seen : ℕ → Asks → Type 0) (halts halts' : ℕ) (asked asked' : Asks) (steps steps' : ℕ)
    (attempts : Attempts m planning q answer old new Seen halts halts' asked asked' steps steps') where
  -- where a lock was held, the second worker may attempt its request again
  pub may_ask_again : old.number ≡ 1 → q ≡ asks → (place word : ℕ) → answer ≡ answers.Busy place word → MayAttempt planning q new
  may_ask_again one same place word busy =
      let away = subst (λ (a : Attempt). Answers m planning q a old new) busy attempts.is.answers in
      subst (λ (x : Request). MayAttempt planning x new) (sym same)
      (may_ask planning t scene new own away.tidy (attempts.is.knows.number ∙ one)
      (subst (λ n. is_answered new.part.records.known n ≡ false) (ap (λ (x : Request). x.number) same) away.untouched.unknown))

  -- where the pair was added, the first worker may take it out
  pub may_take_then : IsFresh 0 old → q ≡ adds → (reply : Reply) (stamp : ℕ) → answer ≡ answers.Done reply stamp → MayAttempt planning takes new
  may_take_then fresh same reply stamp done =
      let served = subst (λ (a : Attempt). Answers m planning q a old new) done attempts.is.answers in
      let known : is_answered new.part.records.known q.number ≡ true
      = (λ i. knows_entry new.part.records.known served.knows_stamp.0 q.number stamp false served.knows_stamp.1 i && knows_entry new.part.records.known served.knows_reply.0 q.number (word_of reply) true served.knows_reply.1 i) in
      let unknown : is_answered new.part.records.known 1 ≡ false
      = attempts.is.no_other takes (record {
        there = ap (λ rs. slice_get rs 1) (own_old.requests ∙ scene.requests);
        own = (λ i. 0 % (ap (λ (l : Layout). l.runners) own_old.layout ∙ scene.runners) i) ∙ sym fresh.number;
      }) (λ one. other q.number (ap (λ (x : Request). x.number) same) one) ∙ ap (λ xs. is_answered xs 1) fresh.knows in
      may_take planning t scene new own served.tidy (attempts.is.knows.number ∙ fresh.number) (ap (λ (x : Request). is_answered new.part.records.known x.number) (sym same) ∙ known) unknown
    where
      other : (n : ℕ) → n ≡ 0 → 1 ≡ n → ⊥
      other n none one = omega (arith, none, one)
