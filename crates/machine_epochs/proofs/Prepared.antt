-- The words of a descriptor that was prepared for a thunk.
use Rattle.std.specs.Prelude.{◌^◌, true, replicate}
use Rattle.std.proofs.Common.{◌≡◌, ℕ, ◌+◌, ◌<◌, length, sym, ap, ◌∙◌, arith, Some}
use Rattle.std.proofs.lemmas.Bool.{and_parts}
use Rattle.std.proofs.lemmas.List.{length-replicate}
use Rattle.machine_states.specs.body_terms.specs.declared.thunk.Thunk.{Thunk}
use Rattle.machine_states.specs.table_words.specs.declared.layout.Layout.{Layout}
use Rattle.machine_states.specs.table_words.specs.declared.spot.Spot.TheVariants.{DoneWord, LogWord, LinkWord}
use Rattle.machine_states.specs.table_words.specs.Places.{part_words}
use Rattle.machine_states.specs.structure_laws.specs.Meaning.{Meaning}
use Rattle.machine_states.specs.runner_parts.specs.Tests.{has, is_prepared}
use Rattle.machine_states.specs.runner_steps.specs.Outside.{descriptor_spot}
use Rattle.machine_states.specs.epoch_core.specs.State.{EpochState}
use Rattle.machine_states.specs.Sight.{Sight}
use Rattle.machine_epochs.specs.Slots.{thunk_in}
use Rattle.machine_epochs.specs.Joined.{IsJoinedToEpochs}
use Rattle.machine_epochs.proofs.SectionKinds.{stored_index, replicate_index, prepared_thunk, thunk_again, log_spot, link_spot}

module _ (m : Meaning) (l : Layout) (w : EpochState) (s : Sight) (old : IsJoinedToEpochs m l w s) (r : ℕ) (t : Thunk) (d : ℕ)
    (free : has (s.part r).descriptors.free d ≡ true) (prepared : is_prepared (s.part r).descriptors.stored d t ≡ true) where
  -- the descriptor has the thunk that it was prepared for
  pub thunk_is : length t.operands ≡ 8 → t.request < 2 ^ 32 → t.lock < 2 ^ 32 → thunk_in s.word d ≡ t
  thunk_is given request lock = prepared_thunk m l w s old r t d free prepared ∙ thunk_again t given request lock

  zero_at : (i : ℕ) → i < part_words + 2 → s.word (descriptor_spot d (12 + i)) ≡ 0
  zero_at i low = (old.tied r).stored d (12 + i) 0 free
      (stored_index (s.part r).descriptors.stored d (replicate (part_words + 2) 0) 12 i (let h = length-replicate {A = ℕ} (part_words + 2) 0 in omega (arith, low, h))
      (and_parts _ _ prepared).1 ∙ ap (λ n. Some n) (replicate_index (part_words + 2) 0 i low))

  -- no done
  pub done_is : s.word (DoneWord d) ≡ 0
  done_is = zero_at 0 (omega arith)

  behind : (k : ℕ) → 13 + k ≡ 12 + (1 + k)
  behind k = omega arith

  -- no word of its log
  pub log_is : (k : ℕ) → k < part_words → s.word (LogWord d k) ≡ 0
  log_is k low = ap s.word (sym (log_spot d k low)) ∙ (ap (λ n. s.word (descriptor_spot d n)) (behind k) ∙ zero_at (1 + k) (omega (arith, low)))

  -- and no link
  pub link_is : s.word (LinkWord d) ≡ 0
  link_is = ap s.word (sym (link_spot d)) ∙ (ap (λ n. s.word (descriptor_spot d n)) (behind part_words) ∙ zero_at (1 + part_words) (omega arith))
