-- What a step found, where every state that the machine reaches tells it.
use Rattle.std.proofs.Common.{◌≡◌, ◌≢◌, ℕ, suc, ◌+◌, ◌<◌, ◌≤◌, ◌^◌, ◌⊎◌, ⊎_elim, List, length, Bool, eq-eqb, ne_eqb, sym, ap, subst, ◌∙◌, arith, Some, if◌then◌else◌}
use Rattle.std.specs.Prelude.{◌==◌, false, not, cond}
use mathlib.Core.Logic.{dite}
use native.Mathlib.Decide.{ℕ_discrete}
use Rattle.machine_states.specs.map_history.specs.declared.op.Request.{Request}
use Rattle.machine_states.specs.body_terms.specs.declared.micro.Micro.TheVariants as micros
use Rattle.machine_states.specs.body_terms.specs.Line.{micro_at}
use Rattle.machine_states.specs.body_terms.specs.Run.{written_once}
use Rattle.machine_states.specs.table_words.specs.declared.layout.Layout.{Layout}
use Rattle.machine_states.specs.table_words.specs.declared.spot.Spot.{Spot}
use Rattle.machine_states.specs.table_words.specs.declared.spot.Spot.TheVariants as spots
use Rattle.machine_states.specs.table_words.specs.Limits.{IsWithinLimits}
use Rattle.machine_states.specs.table_words.specs.Places.{slot_count, block_count}
use Rattle.machine_states.specs.table_words.specs.Seen.{seen}
use Rattle.machine_states.specs.structure_laws.specs.Meaning.{Meaning}
use Rattle.machine_states.specs.structure_laws.specs.Laws.{Laws}
use Rattle.machine_states.specs.runner_parts.specs.State.{RunState, PartState}
use Rattle.machine_states.specs.runner_steps.specs.Sections.{line_of, commits_to, is_beyond}
use Rattle.machine_states.specs.body_terms.specs.block_words.specs.Blocks.{link_spot, log_spot}
use Rattle.machine_states.specs.runner_steps.specs.Asks.{sizes_for}
use Rattle.machine_states.specs.Sight.{sight, part_or_first}
use Rattle.machine_invariant.specs.After.{AreAllowed}
use Rattle.machine_invariant.specs.LogWords.{LogWordsSay}
use Rattle.machine_invariant.proofs.After.{log_words_after}
use Rattle.version_words.specs.ReachedWith.{ReachedWith}

-- the table's node slots have numbers of 32 bits
few_slots : (m : Meaning) → Laws m → (l : Layout) → IsWithinLimits l → slot_count l m.fixed_slots < 2 ^ 32
few_slots m laws l limits = let a = laws.first.few_slots in let b = limits.few_nodes in let c = limits.few_runners in omega (arith, a, b, c)

-- what a runner whose section is run has seen of the section's words
module _ (m : Meaning) (laws : Laws m) (l : Layout) (rs : List Request) (r : ℕ) (p : PartState) (spot : Spot) (number : ℕ) (limits : IsWithinLimits l) (allowed : AreAllowed rs) (shown : ReachedWith m l rs r p spot number)
    (q : RunState) (run : p.run ≡ Some q) where
  says : LogWordsSay m l (sight m l rs shown.world)
  says = log_words_after m laws l rs shown.reached.events shown.world limits allowed shown.reached.after

  run_seen : ((sight m l rs shown.world).part r).run ≡ Some q
  run_seen = ap (λ (y : PartState). y.run) (ap part_or_first shown.own) ∙ run

  -- the word that it saw
  word_is : (at : Spot) → spot ≡ at → seen (sizes_for m l rs) shown.world.words at ≡ number
  word_is at is = ap (seen (sizes_for m l rs) shown.world.words) (sym is) ∙ shown.word

  -- of a word of its log whose part is linked
  pub made_word : (i k : ℕ) → length q.opened ≡ 13 → micro_at (line_of m q) i ≡ micros.MakeCommit k → is_beyond q (Some k) ≡ false → spot ≡ log_spot q.descriptor q.links k → number < 2 ^ 32
  made_word i k loaded here linked at =
      let low = subst (λ (n : ℕ). n ≤ slot_count l m.fixed_slots) (word_is (log_spot q.descriptor q.links k) at) (says.made r i k q run_seen loaded here linked) in
      let few = few_slots m laws l limits in omega (arith, low, few)

  pub retired_word : (i slot k : ℕ) → length q.opened ≡ 13 → micro_at (line_of m q) i ≡ micros.RetireCommit slot k → is_beyond q (Some k) ≡ false → spot ≡ log_spot q.descriptor q.links k
      → (number ≡ 0) ⊎ (number ≡ suc slot)
  retired_word i slot k loaded here linked at =
      subst (λ (n : ℕ). (n ≡ 0) ⊎ (n ≡ suc slot)) (word_is (log_spot q.descriptor q.links k) at) (says.retired r i slot k q run_seen loaded here linked)

  -- the link behind the last part of its log that the run knows
  pub link_word : spot ≡ link_spot q.descriptor q.links (length q.links) → number ≤ block_count l
  link_word at = subst (λ (n : ℕ). n ≤ block_count l) (word_is (link_spot q.descriptor q.links (length q.links)) at) (says.linked r q run_seen)

  -- each commit of its line goes to one of the first 64 words
  pub word_few : (i k : ℕ) → length q.opened ≡ 13 → commits_to (micro_at (line_of m q) i) ≡ Some k → k < 64
  word_few i k loaded here = says.few r i k q run_seen loaded here

  -- and the one before which it stands to the word behind those on which it has agreed
  pub word_next : (k : ℕ) → length q.opened ≡ 13 → commits_to (micro_at (line_of m q) q.at) ≡ Some k → k ≡ length q.trail
  word_next k loaded here = says.next r k q run_seen loaded here

  pub done_word : spot ≡ spots.DoneWord q.descriptor → number ≤ 1
  done_word at = subst (λ (n : ℕ). n ≤ 1) (word_is (spots.DoneWord q.descriptor) at) (says.done r q run_seen)

-- an exchange from 0 that lost leaves what it found
left_as_found : (found new : ℕ) → found ≢ 0 → written_once found new ≡ found
left_as_found found new some = ap (λ (b : Bool). cond b new found) (ne_eqb found 0 some)

-- so it found a number of 32 bits, where one is left there
pub few_found : (found new : ℕ) → written_once found new < 2 ^ 32 → found < 2 ^ 32
few_found found new few = dite (ℕ_discrete found 0) (λ e. omega (arith, e)) (λ some. let same = left_as_found found new some in omega (arith, few, same))

-- and it found the one number that may be there, if any
pub one_found : (found slot : ℕ) → (written_once found (slot + 1) ≡ 0) ⊎ (written_once found (slot + 1) ≡ suc slot) → found ≡ (if found == 0 then 0 else slot + 1)
one_found found slot left = dite (ℕ_discrete found 0)
    (λ e. e ∙ sym (ap (λ (b : Bool). if b then 0 else slot + 1) (eq-eqb found 0 e)))
    (λ some. let same = sym (left_as_found found (slot + 1) some) in
    ⊎_elim
    (λ none. absurd (some (same ∙ none)))
    (λ is. (let e : found ≡ slot + 1 = omega (arith, same, is) in e) ∙ sym (ap (λ (b : Bool). if b then 0 else slot + 1) (ne_eqb found 0 some)))
    left)

-- a done word is 1 where it is set
pub done_is : (found : ℕ) → found ≤ 1 → found ≡ (if not (found == 0) then 1 else 0)
done_is found few = dite (ℕ_discrete found 0)
    (λ e. e ∙ sym (ap (λ (b : Bool). if not b then 1 else 0) (eq-eqb found 0 e)))
    (λ some. (let e : found ≡ 1 = omega (arith, few, some) in e) ∙ sym (ap (λ (b : Bool). if not b then 1 else 0) (ne_eqb found 0 some)))
