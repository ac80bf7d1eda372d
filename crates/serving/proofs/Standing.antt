-- What a runner knows of stamps, in a state that the machine reaches.
use Rattle.std.specs.Prelude.{true, false, slice_get}
use Rattle.std.proofs.Common.{◌≡◌, ℕ, List, sym, ap, ◌∙◌}
use Rattle.std.proofs.lemmas.Bool.{and_parts}
use Rattle.machine_states.specs.table_words.specs.Limits.{IsWithinLimits}
use Rattle.machine_states.specs.structure_laws.specs.Meaning.{Meaning}
use Rattle.machine_states.specs.structure_laws.specs.Laws.{Laws}
use Rattle.machine_states.specs.runner_parts.specs.declared.entries.Known.{Known}
use Rattle.machine_states.specs.runner_parts.specs.State.{PartState}
use Rattle.machine_states.specs.runner_parts.specs.Tests.{is_answered}
use Rattle.machine_states.specs.runner_steps.specs.Outside.{entry_spot}
use Rattle.machine_states.specs.Sight.{sight, part_or_first}
use Rattle.attempt_bounds.specs.version_words.specs.machine_invariant.specs.After.{AreAllowed}
use Rattle.attempt_bounds.specs.one_worker.specs.machine_facts.specs.Known.{KnownStand}
use Rattle.attempt_bounds.specs.one_worker.specs.machine_facts.proofs.Following.{facts_after}
use Rattle.attempt_bounds.specs.one_worker.specs.reached_histories.proofs.First.{entry_of}
use Rattle.attempt_bounds.specs.version_words.specs.RunnerState.{RunnerState}
use Rattle.attempt_bounds.specs.attempts.specs.try_lock.specs.Reached.{IsReached}
use Rattle.attempt_bounds.specs.attempts.specs.request_facts.specs.Laws.{HasEntry}
use Rattle.attempt_bounds.specs.attempts.specs.caller_facts.specs.Knowing.{IsFront}
use Rattle.attempt_bounds.specs.attempts.specs.caller_facts.proofs.Knowing.{front_entry, answered_on}

-- an entry of what was known is one of what is known
pub entry_on : (known more : List Known) → IsFront known more → (x : Known) → HasEntry known x → HasEntry more x
entry_on known more front x h = (h.0, front_entry known more h.0 x front h.1)

-- what was answered is answered on
pub answered_more : (known more : List Known) → IsFront known more → (n : ℕ) → is_answered known n ≡ true → is_answered more n ≡ true
answered_more known more front n e = ap (λ xs. is_answered xs n) front.parts ∙ answered_on known front.back n e

-- who knows and_parts words of a request knows a stamp of it
pub stamp_of : (known : List Known) (n : ℕ) → is_answered known n ≡ true
    → (x : Known) × HasEntry known x × (x.request ≡ n) × (x.reply ≡ false)
stamp_of known n e = let h = entry_of known n false (and_parts _ _ e).0 in (h.entry, (h.place, h.at), h.request, h.is)

module _ {T : Type 0} (m : Meaning) (laws : Laws m) (r : RunnerState T) (limits : IsWithinLimits r.layout) (allowed : AreAllowed r.requests)
    (reached : IsReached m r) where
  here : (sight m r.layout r.requests reached.world).part r.number ≡ r.part
  here = ap part_or_first reached.own

  stand : KnownStand (sight m r.layout r.requests reached.world)
  stand = (facts_after m laws r.layout r.requests reached.reached.events reached.world limits allowed reached.reached.after).here.known

  -- each word that the runner knows stands
  entry_stands : (x : Known) → HasEntry r.part.records.known x
      → (sight m r.layout r.requests reached.world).word (entry_spot x.request x.reply) ≡ x.number
  entry_stands x h = stand.stands r.number h.0 x (ap (λ (p : PartState). slice_get p.records.known h.0) here ∙ h.1)

  -- so two stamps that it knows of one request are one
  pub one_stamp : (x y : Known) → HasEntry r.part.records.known x → HasEntry r.part.records.known y → x.request ≡ y.request
      → x.reply ≡ false → y.reply ≡ false → x.number ≡ y.number
  one_stamp x y hx hy request one two = sym (entry_stands x hx)
      ∙ (ap (sight m r.layout r.requests reached.world).word (λ i. entry_spot (request i) ((one ∙ sym two) i)) ∙ entry_stands y hy)
