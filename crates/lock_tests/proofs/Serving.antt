-- What a worker knows of requests, from one to the next.
use Rattle.std.specs.Prelude.{◌==◌, ◌&&◌, ◌||◌, ◌%◌, cond, not, nat_lt, slice_get, if◌then◌else◌}
use Rattle.std.proofs.Common.{◌≡◌, ◌≢◌, ℕ, zero, suc, ◌+◌, ◌<◌, List, [], ◌∷◌, ◌++◌, Bool, true, false, refl, sym, ap, ◌∙◌, arith, ⊎_elim, Some, None}
use Rattle.std.proofs.lemmas.Bool.{cases_eq}
use Rattle.std.proofs.lemmas.Bool.Decides.{nat_tests}
use Rattle.machine_states.specs.map_history.specs.declared.op.Request.{Request}
use Rattle.machine_states.specs.structure_laws.specs.Meaning.{Meaning}
use Rattle.machine_states.specs.runner_parts.specs.declared.entries.Known.{Known}
use Rattle.machine_states.specs.runner_parts.specs.declared.event.EventKind.TheVariants as kinds
use Rattle.machine_states.specs.epoch_core.specs.declared.stage.Stage.TheVariants as stages
use Rattle.machine_states.specs.runner_parts.specs.Lists.{learned}
use Rattle.machine_states.specs.runner_parts.specs.State.{GuardsState, NodesState}
use Rattle.machine_states.specs.runner_parts.specs.Tests.{knows, is_answered, are_answered}
use Rattle.machine_states.proofs.Steps.{some_same, none_some}
use Rattle.settled_tables.specs.closed_words.specs.version_words.specs.RunnerState.{RunnerState}
use Rattle.settled_tables.specs.closed_words.specs.version_words.specs.Events.{Makes}
use Rattle.settled_tables.specs.closed_words.specs.version_words.proofs.Stages.{then_knows}
use Rattle.hash_table.specs.try_lock.specs.epoch_slots.specs.Collects.{IsTidy}
use Rattle.hash_table.specs.try_lock.specs.epoch_slots.proofs.Outside.{nodes_made, guards_made, known_made}
use Rattle.hash_table.specs.try_lock.specs.section_runs.specs.Opened.{Learns}
use Rattle.lock_attempts.specs.attempts.specs.caller_facts.proofs.Knowing.{answered_of_other}
use Rattle.lock_tests.specs.Workers.{HasReserve, IsNewWorker}
use Rattle.lock_tests.specs.Asked.{KnowsOthers, IsDue, IsOnlyWorker, HasServed}

abbrev entry : ℕ → Bool → ℕ → Known
entry number reply found = record { request = number; reply = reply; number = found }

only_one : (x : Known) (number : ℕ) → x.request ≡ number → (i : ℕ) (y : Known) → slice_get (x ∷ []) i ≡ Some y → y.request ≡ number
only_one x number is zero y at = ap (λ (z : Known). z.request) (sym (some_same x y at)) ∙ is
only_one x number is (suc i) y at = absurd (none_some y (sym at))

-- what is learned of one request leaves what is known of others
pub learns_others : (number : ℕ) (old new : List Known) → Learns number old new → KnowsOthers number old new
learns_others number old new learns k ne = ap (λ xs. is_answered xs k) learns.adds ∙ answered_of_other old learns.more k number learns.only (λ same. ne (sym same))

last_known : (known : List Known) (number found : ℕ) (reply : Bool) → knows (known ++ entry number reply found ∷ []) number reply ≡ true
last_known [] number found true = let e : ((number == number && true) || false) ≡ true = grind (arith, nat_tests) in e
last_known [] number found false = let e : ((number == number && true) || false) ≡ true = grind (arith, nat_tests) in e
last_known (x ∷ known) number found reply = either (x.request == number && cond reply x.reply (not x.reply)) _ (last_known known number found reply)
  where
    either : (p q : Bool) → q ≡ true → (p || q) ≡ true
    either true q e = refl
    either false q e = e

still_known : (known more : List Known) (number : ℕ) (reply : Bool) → knows known number reply ≡ true → knows (known ++ more) number reply ≡ true
still_known [] more number reply e = absurd (let z = e in cc)
still_known (x ∷ known) more number reply e = on (x.request == number && cond reply x.reply (not x.reply)) (knows known number reply) (knows (known ++ more) number reply) e (still_known known more number reply)
  where
    on : (p q r : Bool) → (p || q) ≡ true → (q ≡ true → r ≡ true) → (p || r) ≡ true
    on true q r e more_known = refl
    on false q r e more_known = more_known e

module _ {T : Type 0} (m : Meaning) (number : ℕ) (reply : Bool) (found : ℕ) (r r' : RunnerState T) (made : Makes m (kinds.LoadEntry number reply) found r r') (tidy : IsTidy r) where
  loaded_known : r'.part.records.known ≡ (learned r.part.records number reply found).known
  loaded_known = known_made m (kinds.LoadEntry number reply) found r r' made tidy.at.resting

  -- after the load of a request's word
  pub loaded_tidy : IsTidy r'
  loaded_tidy = let nodes = nodes_made m (kinds.LoadEntry number reply) found r r' made tidy.at.resting in
      let guards = guards_made m (kinds.LoadEntry number reply) found r r' made tidy.at.resting in record {
        at = then_knows m found r r' None stages.Idle number reply made tidy.at;
        hand = ap (λ (s : NodesState). s.hand) nodes ∙ tidy.hand;
        tests = ap (λ (s : NodesState). s.tests) nodes ∙ tidy.tests;
        looked = ap (λ (s : GuardsState). s.looked) guards ∙ tidy.looked;
        unguarded = ap (λ (s : GuardsState). s.named) guards ∙ tidy.unguarded;
      }

  pub loaded_others : KnowsOthers number r.part.records.known r'.part.records.known
  loaded_others k ne = ap (λ xs. is_answered xs k) loaded_known ∙ by (found == 0)
    where
      by : (b : Bool) → is_answered (if b then r.part.records else record (r.part.records) { known = r.part.records.known ++ entry number reply found ∷ [] }).known k ≡ is_answered r.part.records.known k
      by true = refl
      by false = answered_of_other r.part.records.known (entry number reply found ∷ []) k number (only_one (entry number reply found) number refl) (λ same. ne (sym same))

  loaded_some : found ≢ 0 → r'.part.records.known ≡ r.part.records.known ++ entry number reply found ∷ []
  loaded_some some = loaded_known ∙ by (found == 0) (unequal found some)
    where
      unequal : (n : ℕ) → n ≢ 0 → (n == 0) ≡ false
      unequal n ne = grind (arith, nat_tests, ne)

      by : (b : Bool) → b ≡ false → (if b then r.part.records else record (r.part.records) { known = r.part.records.known ++ entry number reply found ∷ [] }).known ≡ r.part.records.known ++ entry number reply found ∷ []
      by true e = absurd (let z = e in cc)
      by false e = refl

  pub loaded_knows : found ≢ 0 → knows r'.part.records.known number reply ≡ true
  loaded_knows some = ap (λ xs. knows xs number reply) (loaded_some some) ∙ last_known r.part.records.known number found reply

  pub loaded_still : (other : Bool) → found ≢ 0 → knows r.part.records.known number other ≡ true → knows r'.part.records.known number other ≡ true
  loaded_still other some e = ap (λ xs. knows xs number other) (loaded_some some) ∙ still_known r.part.records.known (entry number reply found ∷ []) number other e

module _ {T : Type 0} where
  -- a new worker has served none
  pub new_has_served : (number : ℕ) (r : RunnerState T) → IsNewWorker number r → HasServed 0 r
  new_has_served number r new = record {
    tidy = new.tidy;
    answered = λ k low. absurd (omega (arith, low));
    others = λ k high. ap (λ xs. is_answered xs k) new.knows;
  }

  -- the next request is served, and nothing else was learned
  pub served_one : (number : ℕ) (old new : RunnerState T) → HasServed number old → IsTidy new → KnowsOthers number old.part.records.known new.part.records.known
      → is_answered new.part.records.known number ≡ true → HasServed (number + 1) new
  served_one number old new served tidy others answered = record {
    tidy = tidy;
    answered = λ k low. ⊎_elim (λ same. ap (is_answered new.part.records.known) same ∙ answered) (λ ne. others k ne ∙ served.answered k (let a = ne in omega (arith, low, a))) (cases_eq k number);
    others = λ k high. others k (λ same. omega (arith, same, high)) ∙ served.others k (omega (arith, high));
  }

  -- what a scan of the announcements leaves known
  pub served_on : (number : ℕ) (old new : RunnerState T) → HasServed number old → IsTidy new → new.part.records.known ≡ old.part.records.known → HasServed number new
  served_on number old new served tidy known = record {
    tidy = tidy;
    answered = λ k low. ap (λ xs. is_answered xs k) known ∙ served.answered k low;
    others = λ k high. ap (λ xs. is_answered xs k) known ∙ served.others k high;
  }

  -- the only worker's next request is due
  pub is_due_next : (r : RunnerState T) (request : Request) → IsOnlyWorker r → HasServed request.number r → slice_get r.requests request.number ≡ Some request → HasReserve r → IsDue request r
  is_due_next r request only served there reserve = record {
    tidy = served.tidy;
    reserve = reserve;
    there = there;
    next = (λ i. whole (only.alone i) (only.number i)) ∙ (λ i. one request.trace i && (not (served.others request.number (omega arith) i) && all r.requests i));
  }
    where
      whole : ℕ → ℕ → Bool
      whole runners worker = request.trace % runners == worker && (not (is_answered r.part.records.known request.number) && are_answered r.part.records.known request.trace request.number r.requests)

      one : (n : ℕ) → (n % 1 == 0) ≡ true
      one n = grind (arith, nat_tests)

      each : (same low known : Bool) → (low ≡ true → known ≡ true) → (not (same && low) || known) ≡ true
      each true true known by_low = by_low refl
      each true false known by_low = refl
      each false low known by_low = refl

      below : (n : ℕ) → nat_lt n request.number ≡ true → n < request.number
      below n e = grind (arith, nat_tests, e)

      all : (xs : List Request) → are_answered r.part.records.known request.trace request.number xs ≡ true
      all [] = refl
      all (x ∷ xs) = (λ i. each (x.trace == request.trace) (nat_lt x.number request.number) (is_answered r.part.records.known x.number) (λ low. served.answered x.number (below x.number low)) i && all xs i)
