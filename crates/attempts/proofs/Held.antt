-- What a runner read of a lock that was held.
use Rattle.std.specs.Prelude.{◌⊎◌, true, false}
use Rattle.std.proofs.Common.{◌≡◌, ℕ, suc, ◌-◌, ◌<◌, List, ap, ◌∙◌, subst, inl, inr}
use Rattle.machine_states.specs.map_history.specs.declared.op.Request.{Request}
use Rattle.machine_states.specs.body_terms.specs.Word.{value_of, is_free}
use Rattle.machine_states.specs.table_words.specs.declared.layout.Layout.{Layout}
use Rattle.machine_states.specs.table_words.specs.declared.spot.Spot.TheVariants.{Cell}
use Rattle.machine_states.specs.table_words.specs.Limits.{IsWithinLimits}
use Rattle.machine_states.specs.table_words.specs.Places.{descriptor_count}
use Rattle.machine_states.specs.structure_laws.specs.Meaning.{Meaning}
use Rattle.machine_states.specs.structure_laws.specs.Laws.{Laws}
use Rattle.machine_states.specs.runner_parts.specs.State.{PartState}
use Rattle.machine_states.specs.runner_parts.specs.Tests.{has_pair}
use Rattle.machine_states.specs.World.{World}
use Rattle.machine_states.specs.Reached.{Reached}
use Rattle.machine_states.specs.Sight.{sight, part_or_first}
use Rattle.machine_facts.specs.machine_invariant.specs.After.{AreAllowed}
use Rattle.machine_facts.specs.Watched.{WasDone}
use Rattle.machine_facts.proofs.Following.{facts_after}
use Rattle.machine_facts.proofs.Watched.{seen_locks_stand}
use Rattle.version_words.specs.RunnerState.{RunnerState}
use Rattle.caller_facts.specs.lock_walks.specs.runner_facts.specs.next_steps.specs.Rooms.{cell_count}
use Rattle.caller_facts.specs.lock_walks.specs.runner_facts.specs.next_steps.proofs.Numbers.{reached_numbers}
use Rattle.caller_facts.specs.try_lock.specs.Reached.{IsReached}
use Rattle.attempts.proofs.Leaving.{not_free}

module _ (m : Meaning) (laws : Laws m) (l : Layout) (rs : List Request) (limits : IsWithinLimits l) (allowed : AreAllowed rs) where
  -- a lock names a descriptor of the table: that of a section which some runner has published
  pub named_few : (w : World) → Reached m l rs w → (place d : ℕ) → m.is_lock place ≡ true → value_of ((sight m l rs w).word (Cell place)) ≡ suc d → d < descriptor_count l
  named_few w reached place d lock names =
      let facts = facts_after m laws l rs reached.events w limits allowed reached.after in
      let by = facts.here.sound.sections.in_locks.published place d lock names in
      subst (λ n. n < descriptor_count l) by.3 (((reached_numbers m laws l limits rs allowed w reached).parts by.0).published by.1 by.2)

module _ {T : Type 0} (m : Meaning) (laws : Laws m) (r : RunnerState T) (limits : IsWithinLimits r.layout) (allowed : AreAllowed r.requests) (is : IsReached m r)
    (place word : ℕ) (read : has_pair r.part.reads.cells place word ≡ true) where
  read_there : has_pair ((sight m r.layout r.requests is.world).part r.number).reads.cells place word ≡ true
  read_there = ap (λ (p : PartState). has_pair p.reads.cells place word) (ap part_or_first is.own) ∙ read

  pub read_within : place < cell_count m r.layout
  read_within = ((reached_numbers m laws r.layout limits r.requests allowed is.world is.reached).parts r.number).read place word read_there

  pub read_few : m.is_lock place ≡ true → is_free word ≡ false → value_of word - 1 < descriptor_count r.layout
  read_few lock names = by (seen_locks_stand m laws r.layout r.requests limits allowed is.world is.reached r.number place word (value_of word - 1) lock (not_free word names)
      read_there)
    where
      by : ((sight m r.layout r.requests is.world).word (Cell place) ≡ word) ⊎ WasDone m r.layout r.requests is.world place word (value_of word - 1) → value_of word - 1 < descriptor_count r.layout
      by (inl stands) = named_few m laws r.layout r.requests limits allowed is.world is.reached place (value_of word - 1) lock (ap value_of stands ∙ not_free word names)
      by (inr was) = named_few m laws r.layout r.requests limits allowed was.earlier was.reached place (value_of word - 1) lock (ap value_of was.held ∙ not_free word names)
