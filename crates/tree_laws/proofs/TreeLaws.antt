-- The search tree meets the laws of a structure, and sections can be planned on it.
use Rattle.std.specs.Prelude.{◌^◌, true, false}
use Rattle.std.proofs.Common.{◌≡◌, ℕ, suc, ◌<◌, refl, arith}
use Rattle.structure_laws.specs.Scene.{Cells}
use Rattle.structure_laws.specs.Cells.{first_word}
use Rattle.structure_laws.specs.Laws.{FirstMemory, Laws}
use Rattle.structure_laws.specs.Planner.{PlannerLaws}
use Rattle.tree_laws.specs.Leaves.{first_value, is_lock_place, is_link_in, bounds, tree}
use Rattle.tree_laws.proofs.Fitting.{tree_fitting}
use Rattle.tree_laws.proofs.First.{first_kept, first_stands}
use Rattle.tree_laws.proofs.Gives.{tree_gives}
use Rattle.tree_laws.proofs.TreeKeeps.{tree_keeps}
use Rattle.tree_laws.proofs.Planning.{wants_read, makes_add}
use Rattle.tree_laws.proofs.Sized.{tree_sized}
use Rattle.tree_laws.proofs.TreeShape.{tree_shaped}
use Rattle.tree_laws.proofs.TurnStores.{tree_turns}

first_small : (p : ℕ) → p < 15 → first_value p < 2 ^ 32
first_small p fixed = grind arith

first_locks : (p : ℕ) → p < 15 → is_lock_place p ≡ true → first_value p ≡ 0
first_locks p fixed lock = grind arith

first_links : (p t : ℕ) → p < 15 → is_link_in (first_word tree) p ≡ true → first_value p ≡ suc t → t < 3
first_links p t fixed link leads = grind arith

lock_unlinked : (cells : Cells) (p : ℕ) → is_lock_place p ≡ true → is_link_in cells p ≡ false
lock_unlinked cells p lock = grind arith

pub tree_memory : FirstMemory tree
tree_memory = record {
  few_cells = omega arith;
  few_slots = omega arith;
  small = first_small;
  locks_free = first_locks;
  links = first_links;
}

pub tree_laws : Laws tree
tree_laws = record {
  first = tree_memory;
  unlinked_lock = lock_unlinked;
  over = λ layout limits. record {
    begins = first_kept layout;
    empty = first_stands layout;
    shape = λ s sound kept r readings op thunk reader allowed fits.
        tree_shaped layout limits s sound kept r readings op thunk reader allowed fits;
    fitting = tree_fitting layout;
    in_turn = tree_turns layout limits;
    keeps = tree_keeps layout limits;
    gives = λ s sound kept. tree_gives layout limits s sound kept;
  };
}

pub tree_plans : PlannerLaws tree 2
tree_plans = record {
  serves = refl;
  over = λ layout limits. record {
    want_read = λ readings op thunk allowed. wants_read (bounds layout) op readings thunk;
    make_adds = λ readings op thunk allowed. makes_add (bounds layout) op readings thunk;
    sized = λ s pairs slots before quiet used. tree_sized layout s pairs slots before quiet used;
  };
}
