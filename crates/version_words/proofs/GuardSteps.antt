-- Steps on guard words: their names, and what they tell.
use Rattle.std.proofs.Common.{◌≡◌, ℕ, [], ◌∷◌, ◌++◌, length, refl, sym, ap, subst, ◌∙◌, Option, Some, None}
use Rattle.atomic_table.specs.Table.{Me}
use Rattle.atomic_table.specs.Seated.{TableId}
use Rattle.machine_states.specs.body_terms.specs.declared.thunk.Thunk.{Thunk}
use Rattle.machine_states.specs.table_words.specs.declared.layout.Layout.{Layout}
use Rattle.machine_states.specs.runner_steps.specs.Guards.{is_last_guard, load_guard_after}
use Rattle.runner_block.specs.declared.block.Block.{Block}
use Rattle.runner_block.specs.Kept.{KeptState, with_part, with_blocks, with_named, freed_if}
use Rattle.version_words.specs.declared.view.View.{View}
use Rattle.version_words.specs.Kept.{KeepsBlocks, IsKept}
use Rattle.machine_states.specs.table_words.specs.declared.spot.Spot.TheVariants as spots
use Rattle.machine_states.specs.table_words.specs.declared.access.Access.TheVariants.{Loads, Stores}
use Rattle.machine_states.specs.structure_laws.specs.Meaning.{Meaning}
use Rattle.machine_states.specs.runner_parts.specs.declared.event.EventKind.{EventKind}
use Rattle.machine_states.specs.runner_parts.specs.declared.event.EventKind.TheVariants as kinds
use Rattle.machine_states.specs.guard_core.specs.State.{word_of}
use Rattle.machine_states.specs.runner_parts.specs.State.{RunState, PartState}
use Rattle.machine_states.specs.runner_steps.specs.After.{after_by, noted}
use Rattle.version_words.specs.RunnerState.{RunnerState}
use Rattle.version_words.specs.TableState.{TableState}
use Rattle.version_words.specs.Naming.{guarded_by}
use Rattle.machine_states.specs.runner_steps.specs.Blocks.{blocks_after}
use Rattle.version_words.specs.Events.{met_by, IsEnabled, IsNamed, IsBlind, Makes, step_at, nothing, seen_seat}
use Rattle.version_words.proofs.Told.{told_guard, told_load_guard}
use Rattle.version_words.proofs.BlocksKept.{blocks_to}
use Rattle.version_words.proofs.BlockSteps.{guarded, swept}
use Rattle.version_words.proofs.Keeps.{part_is, resting, outer_kept}
use Rattle.version_words.proofs.Asked.{IsNextGuard, in_no_run, asks_guard, asks_load_guard}

-- the word by which a guard names a descriptor names it
guarded_is : (d : Option ℕ) → guarded_by (word_of d) ≡ d
guarded_is None = refl
guarded_is (Some d) = refl

module _ {T : Type 0} (m : Meaning) (r : RunnerState T) (d : Option ℕ) (enabled : IsEnabled m (kinds.Guard d) r) (number : ℕ) (is : number ≡ word_of d) where
  guard_kind : kinds.Guard (guarded_by number) ≡ kinds.Guard d
  guard_kind = ap (λ n. kinds.Guard (guarded_by n)) is ∙ ap kinds.Guard (guarded_is d)

  -- the guard word is that of the runner with this number, its own
  pub guard_named : (own : ℕ) → own ≡ r.number → (t : TableState T) → IsNamed m (λ m' l' rs' p' made. kinds.Guard (guarded_by made.first)) r (step_at m t (spots.Guard own) number 0 nothing) (spots.Guard own, Stores number)
  guard_named own same t = record {
    asked = ap (met_by m r) guard_kind ∙ (enabled.asked ∙ ap Some (asks_guard m r d enabled.met enabled.asked ∙ (λ i. (spots.Guard (sym same i), Stores (sym is i)))));
    plain = refl;
  }

  -- the part after it, whatever the word held before
  abbrev part_by : ℕ → Option RunState → ℕ → PartState
  part_by own o found = let p' = after_by m r.layout (kinds.Guard (guarded_by number)) r.part o found in
      record p' { blocks = blocks_after m r.layout (kinds.Guard (guarded_by number)) r.part o found; board = r.part.board; records = noted r.layout r.number (kinds.Guard (guarded_by number)) (spots.Guard own) (Stores number) found p'.records }

  same_by : (own : ℕ) (o : Option RunState) → o ≡ None → (found other : ℕ) → part_by own o found ≡ part_by own o other
  same_by own o none found other = ap (λ (o : Option RunState). part_by own o found) none ∙ sym (ap (λ (o : Option RunState). part_by own o other) none)

  pub guard_blind : (own : ℕ) → IsBlind m (kinds.Guard (guarded_by number)) (spots.Guard own, Stores number) r
  guard_blind own = record { same = λ found other. same_by own r.part.run (in_no_run m r (kinds.Guard d) refl enabled) found other }

  pub guard_event : (found : ℕ) (r' : RunnerState T) → Makes m (kinds.Guard (guarded_by number)) found r r' → Makes m (kinds.Guard d) found r r'
  guard_event found r' made = subst (λ (k : EventKind). Makes m k found r r') guard_kind made

module _ {T : Type 0} (m : Meaning) (r : RunnerState T) (n : ℕ) (enabled : IsEnabled m (kinds.LoadGuard n) r) where
  pub next_guard : IsNextGuard r.layout n (length r.part.guards.looked) enabled.met
  next_guard = asks_load_guard m r n enabled.met enabled.asked

  look_kind : kinds.LoadGuard (length r.part.guards.looked) ≡ kinds.LoadGuard n
  look_kind = ap kinds.LoadGuard (sym next_guard.next)

  pub look_named : (t : TableState T) → IsNamed m (λ m' l' rs' p' made. kinds.LoadGuard (length p'.guards.looked)) r (step_at m t (spots.Guard n) 0 0 nothing) (spots.Guard n, Loads)
  look_named t = record {
    asked = ap (met_by m r) look_kind ∙ (enabled.asked ∙ ap Some (sym next_guard.met));
    plain = refl;
  }

  pub look_event : (found : ℕ) (r' : RunnerState T) → Makes m (kinds.LoadGuard (length r.part.guards.looked)) found r r' → Makes m (kinds.LoadGuard n) found r r'
  look_event found r' made = subst (λ (k : EventKind). Makes m k found r r') look_kind made

-- the lists after a sweep read one more guard word
abbrev pub swept_lists : Layout → KeptState → ℕ → KeptState
swept_lists l kept found = with_blocks (with_part kept (load_guard_after l kept.part found))
    (freed_if (is_last_guard l kept.part.guards.looked) (kept.part.guards.looked ++ found ∷ []) kept.blocks)

module _ {T : Type 0} (mean : T → Meaning) (s : T) where
  -- what the code keeps when the guard word moved
  pub guard_kept : (d : Option ℕ) (found number : ℕ) (kept : Block) (old_table new_table : TableId) (me me' : Me Thunk (View T)) → me.0.structure ≡ Some s
      → Makes (mean s) (kinds.Guard d) found (seen_seat old_table me) (seen_seat new_table me') → me'.1 ≡ me.1 → IsKept mean number kept me → (lists : KeptState) → lists ≡ with_named kept.lists d
      → IsKept mean number (record kept { lists = lists }) me'
  guard_kept d found number kept old_table new_table me me' live made slots was lists is =
      let rests = resting mean s (kinds.Guard d) found number kept old_table new_table me me' live made slots was refl in
      outer_kept mean s (kinds.Guard d) found number kept old_table new_table me me' live made slots was refl lists (ap (λ l. l.room) is) (ap (λ l. l.part) is ∙ (was.lists ∙ sym (told_guard me.0.part d)))
      (ap (λ l. l.marks) is ∙ was.marks)
      (blocks_to (sym (ap (λ l. l.blocks) is)) (sym (ap (λ l. l.named) is))
      (subst (KeepsBlocks (with_named kept.lists d)) (sym (part_is mean s (kinds.Guard d) found number kept old_table new_table me me' live made slots was))
      (guarded (mean s) me.0.layout me.0.number made.met.0 made.met.1 me.0.part found kept.lists was.blocks rests d)))

  -- and when a sweep read one more guard word
  pub look_kept : (n found number : ℕ) (kept : Block) (old_table new_table : TableId) (me me' : Me Thunk (View T)) → me.0.structure ≡ Some s
      → Makes (mean s) (kinds.LoadGuard n) found (seen_seat old_table me) (seen_seat new_table me') → me'.1 ≡ me.1 → IsKept mean number kept me → (lists : KeptState) → lists ≡ swept_lists me.0.layout kept.lists found
      → IsKept mean number (record kept { lists = lists }) me'
  look_kept n found number kept old_table new_table me me' live made slots was lists is =
      let rests = resting mean s (kinds.LoadGuard n) found number kept old_table new_table me me' live made slots was refl in let l = me.0.layout in
      outer_kept mean s (kinds.LoadGuard n) found number kept old_table new_table me me' live made slots was refl lists (ap (λ l. l.room) is)
      (ap (λ l. l.part) is ∙ (ap (λ p. load_guard_after l p found) was.lists ∙ told_load_guard l me.0.part found)) (ap (λ l. l.marks) is ∙ was.marks)
      (blocks_to (ap (λ (p : PartState). freed_if (is_last_guard l p.guards.looked) (p.guards.looked ++ found ∷ []) kept.lists.blocks) (sym was.lists) ∙ sym (ap (λ l. l.blocks) is)) (sym (ap (λ l. l.named) is))
      (subst (KeepsBlocks (with_blocks kept.lists (freed_if (is_last_guard l me.0.part.guards.looked) (me.0.part.guards.looked ++ found ∷ []) kept.lists.blocks)))
      (sym (part_is mean s (kinds.LoadGuard n) found number kept old_table new_table me me' live made slots was))
      (swept (mean s) l me.0.number made.met.0 made.met.1 me.0.part found kept.lists was.blocks rests n)))
