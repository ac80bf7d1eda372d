-- Loads of cells outside a run, one after the other.
use Rattle.std.proofs.Common.{◌≡◌, ℕ, ◌+◌, ◌*◌, ◌<◌, List, [], ◌∷◌, ◌++◌, append-nil, Bool, true, refl, sym, ap, subst, ◌∙◌, arith, Option, Some, None}
use Rattle.std.specs.Prelude.{if◌then◌else◌, ◌&&◌}
use Rattle.std.proofs.lemmas.List.{append_assoc}
use Rattle.machine_states.specs.table_words.specs.declared.spot.Spot.TheVariants as spots
use Rattle.machine_states.specs.table_words.specs.declared.access.Access.TheVariants.{Loads}
use Rattle.machine_states.specs.table_words.specs.Places.{slot_count}
use Rattle.machine_states.specs.table_words.proofs.Seen.{fits_is}
use Rattle.machine_states.specs.structure_laws.specs.Scene.{Readings}
use Rattle.machine_states.specs.structure_laws.specs.Meaning.{Meaning}
use Rattle.machine_states.specs.runner_parts.specs.declared.event.EventKind.TheVariants as kinds
use Rattle.machine_states.specs.runner_parts.specs.declared.entries.Published.{Published}
use Rattle.machine_states.specs.epoch_core.specs.declared.stage.Stage.TheVariants as stages
use Rattle.machine_states.specs.runner_parts.specs.Lists.{walked}
use Rattle.machine_states.specs.runner_parts.specs.State.{RunState, GuardsState, ReadsState}
use Rattle.machine_states.specs.runner_parts.specs.Tests.{is_walking, is_readable}
use Rattle.machine_states.specs.runner_steps.specs.Outside.{when}
use Rattle.machine_states.specs.runner_steps.specs.Asks.{ask_by, fitting, sizes_for}
use Rattle.try_lock.specs.commit_log.specs.version_words.specs.RunnerState.{RunnerState}
use Rattle.try_lock.specs.commit_log.specs.version_words.specs.Events.{met_by, Makes}
use Rattle.try_lock.specs.commit_log.specs.version_words.specs.Naming.{load_of}
use Rattle.try_lock.specs.commit_log.specs.version_words.specs.Stages.{IsAt}
use Rattle.try_lock.specs.commit_log.specs.version_words.proofs.Stages.{then_loaded_cell}
use Rattle.try_lock.specs.epoch_slots.proofs.Outside.{guards_made, reads_made, own_kept, own_kept_on}
use Rattle.try_lock.proofs.Watching.{same_named, same_looked}
use Rattle.try_lock.specs.Plans as plans
use Rattle.try_lock.specs.Plans.{reads_walked, HasWalked}

module _ {T : Type 0} (m : Meaning) where
  -- an entered runner may load a place that its readings give
  pub may_load : (r : RunnerState T) (epoch place : ℕ) (section : Option Published) → IsAt r (stages.Entered epoch) section → is_readable m r.part.reads.walk place ≡ true
      → place < m.fixed_cells + 5 * slot_count r.layout m.fixed_slots → met_by m r (load_of r.part.run place) ≡ Some (spots.Cell place, Loads)
  may_load r epoch place section is readable low =
      let sizes = sizes_for m r.layout r.requests in
      let kind = kinds.LoadCell (Some place) in
      ap (λ (o : Option RunState). met_by m r (load_of o place)) is.resting
      ∙ (ap (λ (g : Bool). if g then None else fitting sizes (ask_by m r.layout r.requests r.number kind r.part r.part.run)) is.present
      ∙ (ap (fitting sizes) (ap (ask_by m r.layout r.requests r.number kind r.part) is.resting ∙ ap (λ (b : Bool). when b (spots.Cell place) Loads) (λ i. is_walking (is.at i) (is.resting i) && readable i))
      ∙ ap (λ (b : Bool). if b then Some (spots.Cell place, Loads) else None) (fits_is sizes (spots.Cell place) low)))

  loads_more : (readings : Readings) (place word : ℕ) (old r r' : RunnerState T) → plans.Loads m readings old r → Makes m (kinds.LoadCell (Some place)) word r r'
      → plans.Loads m (readings ++ (place, word) ∷ []) old r'
  loads_more [] place word old r r' same made = (r', subst (λ y. Makes m (kinds.LoadCell (Some place)) word y r') same made, refl)
  loads_more (x ∷ readings) place word old r r' (y, one, rest) made = (y, one, loads_more readings place word y r r' rest made)

reads_more : (reads : ReadsState) (readings : Readings) (place word : ℕ) → walked (reads_walked reads readings) place word ≡ reads_walked reads (readings ++ (place, word) ∷ [])
reads_more reads readings place word = (λ i. record {
  walk = append_assoc reads.walk readings ((place, word) ∷ []) i;
  cells = append_assoc reads.cells readings ((place, word) ∷ []) i;
  look = reads.look;
})

module _ {T : Type 0} (m : Meaning) where
  pub walked_none : (r : RunnerState T) → HasWalked m [] r r
  walked_none r = record {
    loads = refl;
    at = λ epoch section is. is;
    reads = (λ i. record { walk = none r.part.reads.walk i; cells = none r.part.reads.cells i; look = r.part.reads.look });
    guarded = refl;
    looked = refl;
    keeps = record { number = refl; nodes = refl; descriptors = refl; blocks = omega arith; known = refl; finished = refl };
    same = refl;
  }
    where
      none : {X : Type 0} (xs : List X) → xs ≡ xs ++ []
      none xs = sym (append-nil xs)

  pub walked_more : (readings : Readings) (place word : ℕ) (old r r' : RunnerState T) (epoch : ℕ) (section : Option Published) → HasWalked m readings old r → IsAt r (stages.Entered epoch) section
      → Makes m (load_of r.part.run place) word r r' → HasWalked m (readings ++ (place, word) ∷ []) old r'
  walked_more readings place word old r r' epoch section so is loaded =
      let made : Makes m (kinds.LoadCell (Some place)) word r r' = subst (λ (o : Option RunState). Makes m (load_of o place) word r r') is.resting loaded in
      record {
        loads = loads_more m readings place word old r r' so.loads made;
        at = λ e s before. then_loaded_cell m word e place r r' s loaded (so.at e s before);
        reads = reads_made m (kinds.LoadCell (Some place)) word r r' made is.resting
            ∙ (ap (λ (s : ReadsState). walked s place word) so.reads ∙ reads_more old.part.reads readings place word);
        guarded = ap (λ (g : GuardsState). g.named) (guards_made m (kinds.LoadCell (Some place)) word r r' made is.resting) ∙ (same_named r.part.guards (m.is_lock place) word ∙ so.guarded);
        looked = ap (λ (g : GuardsState). g.looked) (guards_made m (kinds.LoadCell (Some place)) word r r' made is.resting) ∙ (same_looked r.part.guards (m.is_lock place) word ∙ so.looked);
        keeps = own_kept_on old r r' so.keeps (own_kept m (kinds.LoadCell (Some place)) word r r' made is.resting
            refl refl refl);
        same = made.made ∙ ((λ i. record r { part = sym (ap (λ (y : RunnerState T). y.part) made.made) i }) ∙ (λ i. record (so.same i) { part = r'.part }));
      }
