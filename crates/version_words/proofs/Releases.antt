-- What a runner's code keeps after the release of a lock.
use Rattle.std.proofs.Common.{◌≡◌, ℕ, length, refl, sym, ap, ◌∙◌, arith, Some}
use Rattle.std.specs.Prelude.{◌==◌, ◌&&◌}
use Rattle.std.proofs.lemmas.Option.{none-some}
use Rattle.atomic_table.specs.Table.{Me}
use Rattle.atomic_table.specs.Seated.{TableId}
use Rattle.machine_states.specs.body_terms.specs.declared.thunk.Thunk.{Thunk}
use Rattle.machine_states.specs.body_terms.specs.declared.micro.Micro.{Micro}
use Rattle.machine_states.specs.body_terms.specs.declared.micro.Micro.TheVariants as micros
use Rattle.machine_states.specs.body_terms.specs.Word.{held_word, next_word}
use Rattle.machine_states.specs.table_words.specs.declared.layout.Layout.{Layout}
use Rattle.machine_states.specs.table_words.specs.declared.spot.Spot.{Spot}
use Rattle.machine_states.specs.table_words.specs.declared.spot.Spot.TheVariants as spots
use Rattle.machine_states.specs.table_words.specs.declared.access.Access.{Access}
use Rattle.machine_states.specs.table_words.specs.declared.access.Access.TheVariants.{Exchanges}
use Rattle.machine_states.specs.table_words.specs.Limits.{IsWithinLimits}
use Rattle.machine_states.specs.structure_laws.specs.Meaning.{Meaning}
use Rattle.machine_states.specs.structure_laws.specs.Laws.{Laws}
use Rattle.machine_states.specs.runner_parts.specs.declared.event.EventKind.TheVariants as kinds
use Rattle.machine_states.specs.runner_parts.specs.State.{RunState}
use Rattle.machine_states.specs.runner_steps.specs.Sections.{thunk_of, next_of}
use Rattle.machine_states.specs.runner_steps.specs.InRun.{can_hold, can_raise, release_ask}
use Rattle.machine_invariant.specs.After.{AreAllowed}
use Rattle.version_words.specs.declared.view.View.{View}
use Rattle.runner_block.specs.declared.block.Block.{Block}
use Rattle.runner_block.specs.Blocks.{block_released}
use Rattle.version_words.specs.Kept.{IsKept}
use Rattle.version_words.specs.Events.{met_by, Makes, seen_seat}
use Rattle.version_words.proofs.Asked.{tested}
use Rattle.version_words.proofs.Inside.{opened_all, line_asked, releasing, release_kept}
use Rattle.version_words.proofs.Last.{last_release}

abbrev cell_in : Spot → ℕ
cell_in (spots.Cell place) = place
cell_in _ = 0

-- the lock that a release meets is the one that comes next
release_next : (l : Layout) (q : RunState) (micro : Micro) (place : ℕ) (access : Access) → release_ask l q micro ≡ Some (spots.Cell place, access) → (w : ℕ) × (micro ≡ micros.Release place w)
release_next l q (micros.Release p word) place access e =
    let held = held_word q.descriptor word in
    let t = tested (can_hold l q.descriptor word && can_raise l held) (spots.Cell p) (Exchanges held (next_word held 0)) (spots.Cell place, access) e in
    (word, ap (λ (n : ℕ). micros.Release n word) (ap (λ (x : Spot × Access). cell_in x.0) t.1))
release_next l q _ place access e = absurd (none-some (spots.Cell place, access) e)

module _ {T : Type 0} (mean : T → Meaning) (s : T) (found number place : ℕ) (access : Access) (kept : Block) (old_table new_table : TableId) (me me' : Me Thunk (View T)) (live : me.0.structure ≡ Some s)
    (made : Makes (mean s) kinds.Release found (seen_seat old_table me) (seen_seat new_table me')) (slots : me'.1 ≡ me.1) (was : IsKept mean number kept me)
    (asked : met_by (mean s) (seen_seat old_table me) kinds.Release ≡ Some (spots.Cell place, access)) where
  abbrev q : RunState
  q = (releasing mean s found number kept old_table new_table me me' live made slots was).run

  there : me.0.part.run ≡ Some q
  there = (releasing mean s found number kept old_table new_table me me' live made slots was).there

  loaded : length q.opened ≡ 13
  loaded = opened_all q (releasing mean s found number kept old_table new_table me me' live made slots was).ready

  next : (w : ℕ) × (next_of (mean s) q ≡ micros.Release place w)
  next = release_next me.0.layout q (next_of (mean s) q) place access (line_asked (mean s) (seen_seat old_table me) kinds.Release q (spots.Cell place, access) refl there asked)

  same_lock : kept.place.lock ≡ (thunk_of q.opened).lock
  same_lock = (was.place.run q there).lock (omega (arith, loaded))

  pub released_kept : Laws (mean s) → IsWithinLimits me'.0.layout → AreAllowed me'.0.requests → IsKept mean number (block_released kept place) me'
  released_kept laws limits allowed = release_kept mean s found number kept old_table new_table me me' live made slots was place
      (last_release (mean s) laws me'.0.layout me'.0.requests me'.0.number kinds.Release me.0.part me'.0.part made.met found limits allowed made.shown q there loaded place next.0 next.1
      ∙ ap (λ (n : ℕ). place == n) (sym same_lock))
