-- A worker's tickets behind an attempt of the next one.
use Rattle.std.specs.Prelude.{◌==◌, ◌&&◌, ◌||◌, not, nat_lt, ◌%◌, Bool, true, false, slice_get, Ok, Err}
use Rattle.std.proofs.Common.{◌≡◌, ◌≢◌, ℕ, ◌+◌, ◌<◌, ◌≤◌, List, refl, sym, ap, ◌∙◌, arith, Some, eq-eqb}
use Rattle.std.proofs.lemmas.Bool.Decides.{nat_tests}
use mathlib.Core.Logic.{dite}
use native.Mathlib.Decide.{ℕ_discrete}
use Rattle.machine_states.specs.map_history.specs.declared.op.Request.{Request}
use Rattle.machine_states.specs.map_history.specs.declared.op.Op.TheVariants.{Get}
use Rattle.machine_states.specs.body_terms.specs.declared.thunk.Thunk.{Thunk}
use Rattle.runner_gate.specs.Asks.{Asks}
use Rattle.machine_states.specs.structure_laws.specs.Scene.{Readings}
use Rattle.machine_states.specs.structure_laws.specs.Meaning.{Meaning}
use Rattle.machine_states.specs.runner_parts.specs.declared.entries.Known.{Known}
use Rattle.machine_states.specs.runner_parts.specs.Tests.{is_answered, are_answered}
use Rattle.machine_states.specs.table_words.specs.declared.layout.Layout.{Layout}
use Rattle.version_words.specs.RunnerState.{RunnerState}
use Rattle.version_words.specs.TableState.{TableState, IsOf}
use Rattle.attempts.specs.epoch_slots.specs.Collects.{IsTidy}
use Rattle.attempts.specs.try_lock.specs.Planning.{Planning}
use Rattle.attempts.specs.caller_facts.specs.Knowing.{IsFront, KnowsMore, IsOwn, LearnsNoOther}
use Rattle.attempts.specs.caller_facts.specs.Asking.{MayAttempt}
use Rattle.attempts.specs.Attempts.{is_halted}
use Rattle.attempts.specs.declared.answers.Attempt.{Attempt}
use Rattle.attempts.specs.declared.answers.Attempt.TheVariants as answers
use Rattle.lock_attempts.specs.Again.{Persists}
use Rattle.lock_attempts.specs.Tickets.{ticket, HasTickets}
use Rattle.lock_attempts.specs.declared.tickets.Tickets.{Tickets}
use Rattle.lock_attempts.proofs.Repeated.{all_on, answered_more, earlier_on, next_of_parts, open_after}

-- the earlier requests are answered, and this one
earlier_then : (known more : List Known) → IsFront known more → (trace n : ℕ) → is_answered more n ≡ true → (requests : List Request)
    → are_answered known trace n requests ≡ true → are_answered more trace (n + 1) requests ≡ true
earlier_then known more front trace n here requests e = all_on
    (λ (x : Request). not (x.trace == trace && nat_lt x.number n) || is_answered known x.number)
    (λ (x : Request). not (x.trace == trace && nat_lt x.number (n + 1)) || is_answered more x.number) each requests e
  where
    by_one : (a b b' c c' : Bool) → (b' ≡ true → (b ≡ true → ⊥) → c' ≡ true) → (c ≡ true → c' ≡ true) → (not (a && b) || c) ≡ true → (not (a && b') || c') ≡ true
    by_one false b b' c c' new old e = refl
    by_one true b false c c' new old e = refl
    by_one true true true c c' new old e = old e
    by_one true false true c c' new old e = new refl (λ z. absurd (let y = z in cc))

    each : (x : Request) → (not (x.trace == trace && nat_lt x.number n) || is_answered known x.number) ≡ true
        → (not (x.trace == trace && nat_lt x.number (n + 1)) || is_answered more x.number) ≡ true
    each x was = by_one (x.trace == trace) (nat_lt x.number n) (nat_lt x.number (n + 1)) (is_answered known x.number) (is_answered more x.number)
        (λ low high. let below : x.number < n + 1 = grind (arith, nat_tests, low) in
        let from : n ≤ x.number = (dite (ℕ_discrete x.number n) (λ e. omega (arith, e)) (λ ne. absurd (high (let less : x.number < n = omega (arith, below, ne) in grind (arith, nat_tests, less))))) in
        let same : n ≡ x.number = omega (arith, below, from) in ap (is_answered more) (sym same) ∙ here)
        (answered_more known more front x.number) was

module _ {T : Type 0} (t : TableState T) (tickets : Tickets) (old : RunnerState T) (own_old : IsOf t old) (has : HasTickets tickets old) where
  -- the next ticket may be attempted
  pub may_spend : (planning : Planning) → planning.serves (Get 0) ≡ true → tickets.next < tickets.end → MayAttempt planning (ticket tickets.trace tickets.next) old
  may_spend planning serves some = record {
    tidy = has.tidy;
    there = has.there tickets.next (omega arith) some;
    next = next_of_parts _ _ _ (eq-eqb _ _ has.own) (has.unused tickets.next (omega arith) some) has.earlier;
    served = serves;
  }

  own_of : (n : ℕ) → tickets.next ≤ n → n < tickets.end → IsOwn old (ticket tickets.trace n)
  own_of n from to = record { there = has.there n from to; own = has.own }

  module _ (new : RunnerState T) (own_new : IsOf t new) (knows : KnowsMore old new) (no_other : LearnsNoOther tickets.next old new) (tidy : IsTidy new) where
    same_layout : new.layout ≡ old.layout
    same_layout = own_new.layout ∙ sym own_old.layout

    same_requests : new.requests ≡ old.requests
    same_requests = own_new.requests ∙ sym own_old.requests

    own_still : tickets.trace % new.layout.runners ≡ new.number
    own_still = ap (λ (l : Layout). tickets.trace % l.runners) same_layout ∙ (has.own ∙ sym knows.number)

    there_still : (n : ℕ) → tickets.next ≤ n → n < tickets.end → slice_get new.requests n ≡ Some (ticket tickets.trace n)
    there_still n from to = ap (λ rs. slice_get rs n) same_requests ∙ has.there n from to

    unused_still : (n : ℕ) → tickets.next < n → n < tickets.end → is_answered new.part.records.known n ≡ false
    unused_still n past to = no_other (ticket tickets.trace n) (own_of n (omega (arith, past)) to) (λ e. absurd (omega (arith, e, past)))
        ∙ has.unused n (omega (arith, past)) to

    -- it was used
    pub one_used : is_answered new.part.records.known tickets.next ≡ true → HasTickets (record tickets { next = tickets.next + 1 }) new
    one_used known = record {
      tidy = tidy;
      own = own_still;
      there = λ n from to. there_still n (omega (arith, from)) to;
      unused = λ n from to. unused_still n (omega (arith, from)) to;
      earlier = ap (are_answered new.part.records.known tickets.trace (tickets.next + 1)) same_requests
          ∙ earlier_then old.part.records.known new.part.records.known knows.known tickets.trace tickets.next known old.requests has.earlier;
    }

    -- or it wasn't
    pub none_used : is_answered new.part.records.known tickets.next ≡ false → HasTickets tickets new
    none_used unknown = record {
      tidy = tidy;
      own = own_still;
      there = there_still;
      unused = λ n from to. dite (ℕ_discrete n tickets.next)
          (λ e. ap (is_answered new.part.records.known) e ∙ unknown)
          (λ ne. unused_still n (omega (arith, from, ne)) to);
      earlier = ap (are_answered new.part.records.known tickets.trace tickets.next) same_requests
          ∙ earlier_on old.part.records.known new.part.records.known knows.known tickets.trace tickets.next old.requests has.earlier;
    }

-- behind the last attempt
module _ {T : Type 0} (m : Meaning) (planning : Planning) (own : Readings → Thunk) (t : TableState T) (tickets : Tickets) (old : RunnerState T) (own_old : IsOf t old) (has : HasTickets tickets old)
    (more : ℕ) (new : RunnerState T) (own_new : IsOf t new) (Seen : ℕ → Asks → Type 0) (halts halts' : ℕ) (asks asks' : Asks) (steps steps' : ℕ) where
  pub used_after : (reply : ℕ) → Persists m planning (ticket tickets.trace tickets.next) own more (Ok reply) old new Seen halts halts' asks asks' steps steps'
      → HasTickets (record tickets { next = tickets.next + 1 }) new
  used_after reply is = one_used t tickets old own_old has new own_new is.knows is.no_other is.last.answers.tidy is.last.answers.knows

  pub unused_after : (answer : Attempt) → is_halted answer ≡ false
      → Persists m planning (ticket tickets.trace tickets.next) own more (Err answer) old new Seen halts halts' asks asks' steps steps'
      → HasTickets tickets new
  unused_after answer going is =
      let left = open_after m planning (ticket tickets.trace tickets.next) is.before new answer is.last.0 going is.last.1.is.answers in
      none_used t tickets old own_old has new own_new is.knows is.no_other left.0 left.1

-- no attempt but a halted one is halted
pub not_halted : (answer : Attempt) → answer ≢ answers.Halted → is_halted answer ≡ false
not_halted (answers.Busy place word) ne = refl
not_halted (answers.Stale place expected read) ne = refl
not_halted (answers.Far loads) ne = refl
not_halted (answers.Spent place word) ne = refl
not_halted (answers.Done reply stamp) ne = refl
not_halted (answers.Short short) ne = refl
not_halted answers.Halted ne = absurd (ne refl)
