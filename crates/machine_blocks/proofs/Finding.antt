-- A run finds its section's log where it looks for it, and the links.
use Rattle.std.specs.Prelude.{◌/◌, ◌⊎◌, cond, slice_index, length, Bool, true, false, if◌then◌else◌}
use Rattle.std.proofs.Common.{◌≡◌, inl, inr, ℕ, ◌+◌, ◌<◌, ◌≤◌, List, refl, sym, ap, ◌∙◌, subst, arith, Some}
use Rattle.std.proofs.lemmas.Bool.{cases_lt}
use Rattle.std.proofs.lemmas.List.{get_or-take}
use Rattle.block_words.specs.Blocks.{link_spot, log_spot, link_at}
use Rattle.block_words.proofs.Parts.{found_block}
use Rattle.block_words.proofs.Prefixes.{no_more, log_word, link_word, last}
use Rattle.machine_states.specs.map_history.specs.declared.op.Request.{Request}
use Rattle.machine_states.specs.table_words.specs.declared.layout.Layout.{Layout}
use Rattle.machine_states.specs.table_words.specs.declared.spot.Spot.{Spot}
use Rattle.machine_states.specs.table_words.specs.declared.access.Access.{Access}
use Rattle.machine_states.specs.table_words.specs.Places.{part_words, block_count}
use Rattle.machine_states.specs.epoch_core.specs.small_lemmas.proofs.Numbers.{tested_less, less_tested, not_less_tested}
use Rattle.machine_states.specs.structure_laws.specs.Meaning.{Meaning}
use Rattle.machine_states.specs.runner_parts.specs.declared.event.EventKind.{EventKind}
use Rattle.machine_states.specs.runner_parts.specs.declared.event.EventKind.TheVariants as kinds
use Rattle.machine_states.specs.runner_parts.specs.State.{RunState}
use Rattle.machine_states.specs.runner_steps.specs.Asks.{line_ask, opening_ask, ask_by, asks, sizes_for}
use Rattle.machine_states.specs.runner_steps.specs.Sections.{is_open_run, next_of, commits_to, is_beyond, needs_link}
use Rattle.machine_states.specs.epoch_core.specs.State.{EpochState}
use Rattle.agreement_core.specs.State.{AgreementState}
use Rattle.machine_states.specs.Sight.{Sight}
use Rattle.machine_states.proofs.Sights.{some_none, unless_gone}
use Rattle.machine_guards.specs.machine_agreement.specs.machine_epochs.specs.Joined.{IsJoinedToEpochs}
use Rattle.machine_guards.specs.Stands.{GuardsStand}
use Rattle.machine_blocks.specs.Stands.{LogsStand}
use Rattle.machine_blocks.proofs.Apart.{linked_in_table}
use Rattle.machine_blocks.proofs.Asked.{LinkAsked, link_asked}
use Rattle.machine_blocks.proofs.Words.{near_room, commit_word}

-- a log word in a part that the run knows
pub log_seen : (m : Meaning) (l : Layout) (chain : ℕ → List ℕ) (a : AgreementState) (e : EpochState) (s : Sight) → IsJoinedToEpochs m l e s → LogsStand chain a e s
    → (r : ℕ) (q : RunState) → (s.part r).run ≡ Some q → (k : ℕ) → is_beyond q (Some k) ≡ false → s.word (log_spot q.descriptor q.links k) ≡ (a.section q.descriptor).log k
log_seen m l chain a e s joined old r q at k near = log_word q.links (chain q.descriptor) (old.agreed r q at) (a.section q.descriptor).log s.word q.descriptor k
    (old.logs r q.descriptor ((joined.tied r).run_sure q at)) (near_room q k near)

-- the link behind the last part that it knows
module _ (m : Meaning) (l : Layout) (chain : ℕ → List ℕ) (a : AgreementState) (e : EpochState) (s : Sight) (joined : IsJoinedToEpochs m l e s) (old : LogsStand chain a e s)
    (r : ℕ) (q : RunState) (at : (s.part r).run ≡ Some q) where
  abbrev n : ℕ
  n = q.descriptor

  pub link_seen : s.word (link_spot n q.links (length q.links)) ≡ link_at (chain n) (length q.links)
  link_seen = link_word q.links (chain n) (old.agreed r q at) (a.section n).log s.word n (old.logs r n ((joined.tied r).run_sure q at))

  -- so it names no block, or one of the table's
  pub link_in_table : GuardsStand m l chain a e s → s.word (link_spot n q.links (length q.links)) ≤ block_count l
  link_in_table stands = subst (λ v. v ≤ block_count l) (sym link_seen) (by (cases_lt (length q.links) (length (chain n))))
    where
      by : (length q.links < length (chain n)) ⊎ (length (chain n) ≤ length q.links) → link_at (chain n) (length q.links) ≤ block_count l
      by (inl low) = subst (λ v. v ≤ block_count l) (sym (ap (λ c. cond c (slice_index (chain n) (length q.links) + 1) 0) (less_tested (length q.links) (length (chain n)) low)))
          (let few = linked_in_table m l chain a e s stands n (slice_index (chain n) (length q.links)) (r, (joined.tied r).run_sure q at)
          (found_block (chain n) (length q.links) (slice_index (chain n) (length q.links)) low refl) in omega (arith, few))
      by (inr high) = subst (λ v. v ≤ block_count l) (sym (ap (λ c. cond c (slice_index (chain n) (length q.links) + 1) 0) (not_less_tested (length q.links) (length (chain n)) high)))
          (omega arith)

  -- the blocks that it knows are the table's too
  pub known_in_table : GuardsStand m l chain a e s → (i : ℕ) → i < length q.links → slice_index q.links i < block_count l
  known_in_table stands i low =
      let first = old.agreed r q at in
      let few = no_more q.links (chain n) first in
      let same : slice_index q.links i ≡ slice_index (chain n) i = ap (λ (xs : List ℕ). slice_index xs i) (sym first) ∙ get_or-take (length q.links) (chain n) i 0 low in
      subst (λ b. b < block_count l) (sym same) (linked_in_table m l chain a e s stands n (slice_index (chain n) i) (r, (joined.tied r).run_sure q at)
      (found_block (chain n) i (slice_index (chain n) i) (omega (arith, low, few)) refl))

module _ (m : Meaning) (l : Layout) (rs : List Request) (chain : ℕ → List ℕ) (a : AgreementState) (e : EpochState) (s : Sight) (joined : IsJoinedToEpochs m l e s) (old : LogsStand chain a e s)
    (r : ℕ) (kind : EventKind) (x : Spot × Access) (asked : asks m l rs r kind (s.part r) ≡ Some x) (q : RunState) (at : (s.part r).run ≡ Some q) where
  inside : (if is_open_run q then line_ask m l kind (s.part r).nodes.free (s.part r).blocks.free q (next_of m q) else opening_ask kind q) ≡ Some x
  inside = sym (ap (ask_by m l rs r kind (s.part r)) at) ∙ (unless_gone (sizes_for m l rs) (s.part r).gone _ x asked).1

  in_line : is_open_run q ≡ true → line_ask m l kind (s.part r).nodes.free (s.part r).blocks.free q (next_of m q) ≡ Some x
  in_line opened = sym (ap (λ b. if b then line_ask m l kind (s.part r).nodes.free (s.part r).blocks.free q (next_of m q) else opening_ask kind q) opened) ∙ inside

  pub commit_finds : is_open_run q ≡ true → (k : ℕ) → commits_to (next_of m q) ≡ Some k → needs_link q (next_of m q) ≡ false → s.word x.0 ≡ (a.section q.descriptor).log k
  commit_finds opened k commits near =
      let word = commit_word m l q x k kind (s.part r).nodes.free (s.part r).blocks.free (next_of m q) (in_line opened) commits near in
      ap s.word (sym word.is) ∙ log_seen m l chain a e s joined old r q at k word.near

-- a run that puts a block into a link stands before it
module _ (m : Meaning) (l : Layout) (rs : List Request) (chain : ℕ → List ℕ) (a : AgreementState) (e : EpochState) (s : Sight) (joined : IsJoinedToEpochs m l e s) (old : LogsStand chain a e s)
    (r b : ℕ) (x : Spot × Access) (asked : asks m l rs r (kinds.LinkCommit b) (s.part r) ≡ Some x) (q : RunState) (at : (s.part r).run ≡ Some q) where
  pub link_is : LinkAsked q x l b (next_of m q)
  link_is = by (is_open_run q) refl
    where
      by : (k : Bool) → is_open_run q ≡ k → LinkAsked q x l b (next_of m q)
      by true opened = link_asked q x l b (next_of m q) (in_line m l rs chain a e s joined old r (kinds.LinkCommit b) x asked q at opened)
      by false closed = some_none x (sym (ap (λ k. if k then line_ask m l (kinds.LinkCommit b) (s.part r).nodes.free (s.part r).blocks.free q (next_of m q) else opening_ask (kinds.LinkCommit b) q) closed)
          ∙ inside m l rs chain a e s joined old r (kinds.LinkCommit b) x asked q at)

  pub link_opened : is_open_run q ≡ true
  link_opened = by (is_open_run q) refl
    where
      by : (k : Bool) → is_open_run q ≡ k → k ≡ true
      by true opened = refl
      by false closed = some_none x (sym (ap (λ k. if k then line_ask m l (kinds.LinkCommit b) (s.part r).nodes.free (s.part r).blocks.free q (next_of m q) else opening_ask (kinds.LinkCommit b) q) closed)
          ∙ inside m l rs chain a e s joined old r (kinds.LinkCommit b) x asked q at)

  -- so it finds the next one
  pub link_finds : s.word x.0 ≡ link_at (chain q.descriptor) (length q.links)
  link_finds = ap (λ (y : Spot × Access). s.word y.0) (sym link_is.is) ∙ link_seen m l chain a e s joined old r q at

  -- and where there is none, it knew them all
  pub linked_few : (k : ℕ) → commits_to (next_of m q) ≡ Some k → s.word x.0 ≡ 0 → length (chain q.descriptor) < k / part_words
  linked_few k commits none =
      let all = last q.links (chain q.descriptor) (old.agreed r q at) (sym link_finds ∙ none) in
      subst (λ (xs : List ℕ). length xs < k / part_words) all (tested_less (length q.links) (k / part_words) (sym (ap (is_beyond q) commits) ∙ link_is.needs))
