-- The cells that a glance looks at: their loads, and what is missed of them.
use Rattle.std.specs.Prelude.{◌==◌, ◌||◌, not, position, Bool, true, false, slice_get}
use Rattle.std.specs.List.{list_any}
use Rattle.std.proofs.Common.{◌≡◌, ℕ, ◌≤◌, List, [], ◌∷◌, length, refl, sym, ap, subst, arith, Option, Some, None}
use Rattle.std.proofs.lemmas.Bool.{and_left, and_right}
use Rattle.machine_states.specs.epoch_core.specs.small_lemmas.proofs.Numbers.{equal_tested}
use Rattle.machine_states.specs.map_history.specs.declared.op.Request.{Request}
use Rattle.machine_states.specs.body_terms.specs.Shape.{IsStep, is_look}
use Rattle.machine_states.specs.body_terms.specs.declared.step.Step.TheVariants.{Load, Want, Stamp, Answer}
use Rattle.machine_states.specs.body_terms.specs.declared.thunk.Thunk.{Thunk}
use Rattle.machine_states.specs.table_words.specs.Limits.{IsWithinLimits}
use Rattle.machine_states.specs.table_words.specs.declared.spot.Spot.TheVariants as spots
use Rattle.machine_states.specs.table_words.specs.declared.access.Access.TheVariants.{Loads}
use Rattle.caller_facts.specs.section_runs.specs.runner_gate.specs.Asks.{Asks}
use Rattle.machine_states.specs.structure_laws.specs.Scene.{Readings}
use Rattle.machine_states.specs.structure_laws.specs.Meaning.{Meaning}
use Rattle.machine_states.specs.structure_laws.specs.Laws.{Laws}
use Rattle.machine_states.specs.runner_steps.specs.Sections.{reply_in}
use Rattle.caller_facts.specs.version_words.specs.machine_invariant.specs.After.{AreAllowed}
use Rattle.caller_facts.specs.section_runs.specs.commit_log.specs.Asked.{IsAsked}
use Rattle.caller_facts.specs.section_runs.specs.commit_log.proofs.Asked.{asked_none}
use Rattle.caller_facts.specs.lock_walks.proofs.Walking.{walked_none}
use Rattle.caller_facts.specs.lock_walks.specs.declared.glance.Glance.{Glance}
use Rattle.caller_facts.specs.lock_walks.specs.declared.glance.WantedCell.{WantedCell}
use Rattle.caller_facts.specs.lock_walks.specs.Glances.{glanced, behind_first}
use Rattle.caller_facts.specs.try_lock.specs.Planning.{Planning}
use Rattle.caller_facts.specs.version_words.specs.RunnerState.{RunnerState}
use Rattle.caller_facts.specs.version_words.specs.Events.{met_by, Makes}
use Rattle.caller_facts.specs.version_words.specs.Naming.{load_of}
use Rattle.seq_read.specs.Wants.{is_other, is_missed, WantOne}
use Rattle.seq_read.specs.Parts.{MayLoad, HasCells, HasLoadedCells}
use Rattle.seq_read.specs.declared.cells.Loaded.{Loaded}
use Rattle.seq_read.proofs.Loading.{cell_asked, next_cells, cut_cells, same_cells, all_cells}

-- such a body changes nothing, is short, and has this reply
pub glance_looks : (g : Glance) → position (λ step. not (is_look step)) (glanced g) ≡ None
glance_looks g = by g.second
  where
    by : (second : Option WantedCell) → position (λ step. not (is_look step)) (Load g.first.place 0 ∷ Want 0 g.first.word ∷ behind_first second g.reply) ≡ None
    by None = refl
    by (Some second) = refl

pub glance_short : (g : Glance) → length (glanced g) ≤ 6
glance_short g = by g.second
  where
    by : (second : Option WantedCell) → length (Load g.first.place 0 ∷ Want 0 g.first.word ∷ behind_first second g.reply) ≤ 6
    by None = omega arith
    by (Some second) = omega arith

pub glance_reply : (g : Glance) → reply_in (glanced g) ≡ g.reply
glance_reply g = by g.second
  where
    by : (second : Option WantedCell) → reply_in (Load g.first.place 0 ∷ Want 0 g.first.word ∷ behind_first second g.reply) ≡ g.reply
    by None = refl
    by (Some second) = refl

both : (a b : Bool) → a ≡ false → b ≡ false → (a || b) ≡ false
both false b e f = f
both true b e f = absurd (let z = e in cc)

-- a Want of a register into which its word was loaded misses nothing, nor does one of another register
same_met : (reg word : ℕ) (x : Loaded) → x.word ≡ word → is_missed (x ∷ []) (Want reg word) ≡ false
same_met reg word x same = both (is_other reg word x) false (and_right (x.into == reg) (not (x.word == word)) (ap not (equal_tested x.word word same))) refl

other_met : (reg word : ℕ) (x : Loaded) → (x.into == reg) ≡ false → is_missed (x ∷ []) (Want reg word) ≡ false
other_met reg word x other = both (is_other reg word x) false (and_left (x.into == reg) (not (x.word == word)) other) refl

-- of each of the two registers one word is wanted
pub first_wanted : (g : Glance) → WantOne (glanced g) 0 g.first.word
first_wanted g = record { wants = (1, refl); met = λ x into same. by g.second x into same }
  where
    by : (second : Option WantedCell) (x : Loaded) → x.into ≡ 0 → x.word ≡ g.first.word
        → list_any (is_missed (x ∷ [])) (Load g.first.place 0 ∷ Want 0 g.first.word ∷ behind_first second g.reply) ≡ false
    by None x into same = both (is_missed (x ∷ []) (Want 0 g.first.word)) false (same_met 0 g.first.word x same) refl
    by (Some second) x into same = both (is_missed (x ∷ []) (Want 0 g.first.word)) (is_missed (x ∷ []) (Want 1 second.word) || false) (same_met 0 g.first.word x same)
        (both (is_missed (x ∷ []) (Want 1 second.word)) false (other_met 1 second.word x (ap (λ n. n == 1) into)) refl)

pub second_wanted : (g : Glance) (second : WantedCell) → g.second ≡ Some second → WantOne (glanced g) 1 second.word
second_wanted g second e = record {
  wants = (3, ap (λ s. slice_get (behind_first s g.reply) 1) e);
  met = λ x into same. subst (λ s. list_any (is_missed (x ∷ [])) (Load g.first.place 0 ∷ Want 0 g.first.word ∷ behind_first s g.reply) ≡ false) (sym e)
      (both (is_missed (x ∷ []) (Want 0 g.first.word)) (is_missed (x ∷ []) (Want 1 second.word) || false)
      (other_met 0 g.first.word x (ap (λ n. n == 0) into)) (both (is_missed (x ∷ []) (Want 1 second.word)) false (same_met 1 second.word x same) refl));
}

-- its cells are loaded one behind the other
module _ {T : Type 0} (m : Meaning) (laws : Laws m) (planning : Planning) (request : Request) (old : RunnerState T)
    (limits : IsWithinLimits old.layout) (allowed : AreAllowed old.requests) (g : Glance) (thunk : Thunk) (readings : Readings) (start : RunnerState T)
    (may : MayLoad m planning request (glanced g) thunk readings old start) (halts : ℕ) (asks : Asks) (made : ℕ) where
  none_yet : HasCells m (glanced g) 0 [] start start halts halts asks asks made made
  none_yet = record { cells = refl; loads = walked_none m start; reached = may.plans.reached; asked = asked_none halts asks made }

  pub first_asked : met_by m start (load_of start.part.run g.first.place) ≡ Some (spots.Cell g.first.place, Loads)
  first_asked = cell_asked m laws planning request old limits allowed (glanced g) thunk readings start may 0 [] start halts halts asks asks made made
      none_yet g.first.place 0 refl

  module _ (r : RunnerState T) (word : ℕ) (loaded : Makes m (load_of start.part.run g.first.place) word start r) (halts1 : ℕ) (asks1 : Asks) (made1 : ℕ) where
    abbrev pub first_cell : Loaded
    first_cell = record { place = g.first.place; into = 0; word = word }

    -- a gate halted the runner behind the first one
    pub first_cut : (Seen : ℕ → Asks → Type 0) → Seen halts asks → IsAsked 1 false halts halts1 asks asks1 made made1
        → HasLoadedCells m (glanced g) (first_cell ∷ []) false start r Seen halts halts1 asks asks1 made made1
    first_cut Seen seen asked = cut_cells m laws planning request old limits allowed (glanced g) thunk readings start may 0 [] start halts halts asks asks made made
        none_yet g.first.place 0 refl r word loaded (first_cell ∷ []) refl halts1 asks1 made1 Seen seen asked

    module _ (asked : IsAsked 1 true halts halts1 asks asks1 made made1) where
      tested : HasCells m (glanced g) 2 (first_cell ∷ []) start r halts halts1 asks asks1 made made1
      tested = same_cells m (glanced g) 1 (first_cell ∷ []) start r halts halts1 asks asks1 made made1
          (next_cells m laws planning request old limits allowed (glanced g) thunk readings start may 0 [] start halts halts asks asks made made
          none_yet g.first.place 0 refl r word loaded (first_cell ∷ []) refl halts1 asks1 made1 asked)
          (Want 0 g.first.word) refl (λ place into e. absurd (let z = e in cc))

      -- and there is no second one: what stands behind it loads nothing
      pub first_all : g.second ≡ None → (Seen : ℕ → Asks → Type 0)
          → HasLoadedCells m (glanced g) (first_cell ∷ []) true start r Seen halts halts1 asks asks1 made made1
      first_all e Seen = all_cells m (glanced g) 4 (first_cell ∷ []) start r halts halts1 asks asks1 made made1
          (same_cells m (glanced g) 3 (first_cell ∷ []) start r halts halts1 asks asks1 made made1
          (same_cells m (glanced g) 2 (first_cell ∷ []) start r halts halts1 asks asks1 made made1 tested
          Stamp (ap (λ s. slice_get (behind_first s g.reply) 0) e) (λ place into e. absurd (let z = e in cc)))
          (Answer g.reply) (ap (λ s. slice_get (behind_first s g.reply) 1) e) (λ place into e. absurd (let z = e in cc)))
          (subst (λ s. length (Load g.first.place 0 ∷ Want 0 g.first.word ∷ behind_first s g.reply) ≤ 4) (sym e) (omega arith)) Seen

      module _ (second : WantedCell) (e : g.second ≡ Some second) where
        here : IsStep (glanced g) 2 (Load second.place 1)
        here = ap (λ s. slice_get (behind_first s g.reply) 0) e

        pub second_asked : met_by m r (load_of r.part.run second.place) ≡ Some (spots.Cell second.place, Loads)
        second_asked = cell_asked m laws planning request old limits allowed (glanced g) thunk readings start may 2 (first_cell ∷ []) r halts halts1 asks asks1 made made1
            tested second.place 1 here

        module _ (r2 : RunnerState T) (word2 : ℕ) (loaded2 : Makes m (load_of r.part.run second.place) word2 r r2) (halts2 : ℕ) (asks2 : Asks) (made2 : ℕ) where
          abbrev pub second_cell : Loaded
          second_cell = record { place = second.place; into = 1; word = word2 }

          abbrev pub cells : List Loaded
          cells = first_cell ∷ second_cell ∷ []

          pub second_all : (Seen : ℕ → Asks → Type 0) → Seen halts1 asks1 → (going : Bool) → IsAsked 1 going halts1 halts2 asks1 asks2 made1 made2
              → HasLoadedCells m (glanced g) cells going start r2 Seen halts halts2 asks asks2 made made2
          second_all Seen seen false asked2 = cut_cells m laws planning request old limits allowed (glanced g) thunk readings start may 2 (first_cell ∷ []) r
              halts halts1 asks asks1 made made1 tested second.place 1 here r2 word2 loaded2 cells refl halts2 asks2 made2 Seen seen asked2
          second_all Seen seen true asked2 = all_cells m (glanced g) 6 cells start r2 halts halts2 asks asks2 made made2
              (same_cells m (glanced g) 5 cells start r2 halts halts2 asks asks2 made made2
              (same_cells m (glanced g) 4 cells start r2 halts halts2 asks asks2 made made2
              (same_cells m (glanced g) 3 cells start r2 halts halts2 asks asks2 made made2
              (next_cells m laws planning request old limits allowed (glanced g) thunk readings start may 2 (first_cell ∷ []) r
              halts halts1 asks asks1 made made1 tested second.place 1 here r2 word2 loaded2 cells refl halts2 asks2 made2 asked2)
              (Want 1 second.word) (ap (λ s. slice_get (behind_first s g.reply) 1) e) (λ place into e. absurd (let z = e in cc)))
              Stamp (ap (λ s. slice_get (behind_first s g.reply) 2) e) (λ place into e. absurd (let z = e in cc)))
              (Answer g.reply) (ap (λ s. slice_get (behind_first s g.reply) 3) e) (λ place into e. absurd (let z = e in cc)))
              (glance_short g) Seen
