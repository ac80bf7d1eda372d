-- How many node slots the runners have where no section is under way.
use Rattle.std.specs.Prelude.{ℕ, zero, suc, ◌+◌, ◌*◌, ◌≤◌, ◌≡◌, ◌==◌, cond, true, List}
use Rattle.std.specs.FinMap.{len}
use Rattle.machine_states.specs.map_history.specs.declared.op.Request.{Request}
use Rattle.machine_states.specs.body_terms.specs.Word.{value_of}
use Rattle.machine_states.specs.table_words.specs.declared.layout.Layout.{Layout}
use Rattle.machine_states.specs.table_words.specs.declared.spot.Spot.{Spot}
use Rattle.machine_states.specs.table_words.specs.declared.spot.Spot.TheVariants.{Cell, Board}
use Rattle.machine_states.specs.table_words.specs.Places.{board_words}
use Rattle.machine_states.specs.structure_laws.specs.Meaning.{Meaning}
use Rattle.machine_states.specs.runner_parts.specs.State.{PartState}
use Rattle.machine_states.specs.Sight.{Sight}
use Rattle.machine_states.specs.runner_parts.specs.Lists.{entry_count}
use Rattle.reached_histories.specs.Laws.{HasHistory}

-- the entries of the lists of node slots of the runners with the first numbers, so many
abbrev pub entries_below : (ℕ → PartState) → ℕ → ℕ
entries_below part zero = 0
entries_below part (suc n) = entries_below part n + entry_count (part n).nodes

-- how many of the board's first words, so many, name a node slot
abbrev pub named_below : (Spot → ℕ) → ℕ → ℕ
named_below word zero = 0
named_below word (suc n) = named_below word n + cond (word (Board n) == 0) 0 1

-- no lock word names a descriptor
abbrev pub NoneIsHeld : Meaning → Sight → Type 0
NoneIsHeld m s = (p : ℕ) → m.is_lock p ≡ true → value_of (s.word (Cell p)) ≡ 0

-- where no lock is held: the workers' node slots and the keeper's are all in their lists or on the board, but for so
-- many at most for each pair of the map to which the history leads
abbrev pub FewAreInUse : ℕ → Meaning → Layout → List Request → Sight → Type 0
FewAreInUse per_pair m l requests s = (stands : HasHistory m l requests s) → NoneIsHeld m s
    → l.nodes * l.runners + (2 * l.runners + 2)
    ≤ entries_below s.part (suc l.runners) + named_below s.word board_words + per_pair * len stands.state.pairs
