-- What a step of a runner in no run makes of its own slots and of what it knows.
use Rattle.std.specs.Prelude.{◌-◌, ◌==◌, map, if◌then◌else◌}
use Rattle.std.specs.List.{filter}
use Rattle.std.proofs.Common.{◌≡◌, ℕ, ◌≤◌, ◌∷◌, [], ◌++◌, Bool, true, false, length, length-append, ap, ◌∙◌, subst, sym, arith, Option, None, Some}
use Rattle.machine_states.specs.body_terms.specs.Word.{value_of}
use Rattle.machine_states.specs.table_words.specs.declared.layout.Layout.{Layout}
use Rattle.machine_states.specs.structure_laws.specs.Meaning.{Meaning}
use Rattle.machine_states.specs.guard_core.specs.Moves.{is_unnamed}
use Rattle.machine_states.specs.runner_parts.specs.declared.entries.Waiting.{Waiting}
use Rattle.machine_states.specs.runner_parts.specs.declared.event.EventKind.{EventKind}
use Rattle.machine_states.specs.runner_parts.specs.declared.event.EventKind.TheVariants as kinds
use Rattle.machine_states.specs.runner_parts.specs.Lists.{blocks_freed, names_guarded}
use Rattle.machine_states.specs.runner_parts.specs.State.{RunState, BlocksState, PartState, RecordsState}
use Rattle.machine_states.specs.runner_steps.specs.Guards.{is_last_guard}
use Rattle.machine_states.specs.runner_steps.specs.After.{outside_after, after_by}
use Rattle.machine_states.specs.runner_steps.specs.Blocks.{blocks_outside, blocks_after}
use Rattle.version_words.specs.RunnerState.{RunnerState}
use Rattle.version_words.specs.Events.{Makes}
use Rattle.epoch_slots.specs.Entries.{KeepsOwn}

-- outside a run own blocks come out of limbo, and none leaves the free list
freed_more : (b : Bool) (test : ℕ → Bool) (blocks : BlocksState) → length blocks.free ≤ length (if b then blocks_freed test blocks else blocks).free
freed_more true test blocks =
    let more = length-append blocks.free (map (λ (x : Waiting). x.block) (filter (λ (x : Waiting). test x.descriptor) blocks.limbo)) in omega (arith, more)
freed_more false test blocks = let same : length blocks.free ≤ length blocks.free = omega arith in same

pub blocks_stay : (m : Meaning) (l : Layout) (k : EventKind) (p : PartState) (found : ℕ) → length p.blocks.free ≤ length (blocks_outside m l k p found).free
blocks_stay m l (kinds.LoadCell (Some place)) p found = freed_more (names_guarded p.guards (m.is_lock place) found) (λ d. d == value_of found - 1) p.blocks
blocks_stay m l (kinds.Hold thunk d) p found = freed_more (found == thunk.word) (λ e. e == d) p.blocks
blocks_stay m l (kinds.LoadGuard n) p found = freed_more (is_last_guard l p.guards.looked) (is_unnamed (p.guards.looked ++ found ∷ [])) p.blocks
blocks_stay m l _ p found = let same : length p.blocks.free ≤ length p.blocks.free = omega arith in same

module _ {T : Type 0} (m : Meaning) (k : EventKind) (found : ℕ) (r r' : RunnerState T) (made : Makes m k found r r') (resting : r.part.run ≡ None) where
  abbrev next : PartState
  next = outside_after m r.layout k r.part found

  pub nodes_made : r'.part.nodes ≡ next.nodes
  nodes_made = ap (λ (y : RunnerState T). y.part.nodes) made.made ∙ ap (λ (o : Option RunState). (after_by m r.layout k r.part o found).nodes) resting

  pub descriptors_made : r'.part.descriptors ≡ next.descriptors
  descriptors_made = ap (λ (y : RunnerState T). y.part.descriptors) made.made
      ∙ ap (λ (o : Option RunState). (after_by m r.layout k r.part o found).descriptors) resting

  pub blocks_made : r'.part.blocks ≡ blocks_outside m r.layout k r.part found
  blocks_made = ap (λ (y : RunnerState T). y.part.blocks) made.made ∙ ap (λ (o : Option RunState). blocks_after m r.layout k r.part o found) resting

  -- whatever the step is
  pub no_fewer_blocks : length r.part.blocks.free ≤ length r'.part.blocks.free
  no_fewer_blocks = subst (λ (b : BlocksState). length r.part.blocks.free ≤ length b.free) (sym blocks_made) (blocks_stay m r.layout k r.part found)

  pub guards_made : r'.part.guards ≡ next.guards
  guards_made = ap (λ (y : RunnerState T). y.part.guards) made.made ∙ ap (λ (o : Option RunState). (after_by m r.layout k r.part o found).guards) resting

  pub reads_made : r'.part.reads ≡ next.reads
  reads_made = ap (λ (y : RunnerState T). y.part.reads) made.made ∙ ap (λ (o : Option RunState). (after_by m r.layout k r.part o found).reads) resting

  pub known_made : r'.part.records.known ≡ next.records.known
  known_made = ap (λ (y : RunnerState T). y.part.records.known) made.made
      ∙ ap (λ (o : Option RunState). (after_by m r.layout k r.part o found).records.known) resting

  pub finished_made : r'.part.records.finished ≡ next.records.finished
  finished_made = ap (λ (y : RunnerState T). y.part.records.finished) made.made
      ∙ ap (λ (o : Option RunState). (after_by m r.layout k r.part o found).records.finished) resting

  -- where the step makes nothing of the own slots and of the records
  pub own_kept : next.nodes ≡ r.part.nodes → next.descriptors ≡ r.part.descriptors → next.records ≡ r.part.records → KeepsOwn r r'
  own_kept nodes descriptors records = record {
    number = ap (λ (y : RunnerState T). y.number) made.made;
    nodes = nodes_made ∙ nodes;
    descriptors = descriptors_made ∙ descriptors;
    blocks = no_fewer_blocks;
    known = known_made ∙ ap (λ (s : RecordsState). s.known) records;
    finished = finished_made ∙ ap (λ (s : RecordsState). s.finished) records;
  }

pub own_kept_on : {T : Type 0} (a b c : RunnerState T) → KeepsOwn a b → KeepsOwn b c → KeepsOwn a c
own_kept_on a b c one two = record {
  number = two.number ∙ one.number;
  nodes = two.nodes ∙ one.nodes;
  descriptors = two.descriptors ∙ one.descriptors;
  blocks = (let a = one.blocks in let b = two.blocks in omega (arith, a, b));
  known = two.known ∙ one.known;
  finished = two.finished ∙ one.finished;
}
