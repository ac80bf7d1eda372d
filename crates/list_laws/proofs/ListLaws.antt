-- The sorted list meets the laws of a structure, and sections can be planned on it.
use Rattle.std.specs.Prelude.{◌^◌, true, false}
use Rattle.std.proofs.Common.{◌≡◌, ℕ, suc, ◌<◌, refl, arith}
use Rattle.structure_laws.specs.table_words.specs.declared.layout.Layout.{Layout}
use Rattle.structure_laws.specs.Laws.{FirstMemory, Laws}
use Rattle.structure_laws.specs.Planner.{PlannerLaws}
use Rattle.list_laws.specs.Landing.{LandingLaw}
use Rattle.list_laws.specs.Nodes.{first_value, is_lock_place, is_link_place, bounds, list}
use Rattle.list_laws.proofs.First.{first_kept, first_stands}
use Rattle.list_laws.proofs.Fitting.{list_fitting}
use Rattle.list_laws.proofs.Gives.{list_gives}
use Rattle.list_laws.proofs.ListKeeps.{list_keeps}
use Rattle.list_laws.proofs.ListShape.{list_shaped}
use Rattle.list_laws.proofs.Open.{lands}
use Rattle.list_laws.proofs.Planning.{wants_read, makes_add}
use Rattle.list_laws.proofs.Sized.{list_sized}
use Rattle.list_laws.proofs.TurnStores.{list_turns}

first_small : (p : ℕ) → p < 10 → first_value p < 2 ^ 32
first_small p fixed = grind arith

first_locks : (p : ℕ) → p < 10 → is_lock_place p ≡ true → first_value p ≡ 0
first_locks p fixed lock = grind arith

first_links : (p t : ℕ) → p < 10 → is_link_place p ≡ true → first_value p ≡ suc t → t < 2
first_links p t fixed link leads = grind arith

lock_unlinked : (p : ℕ) → is_lock_place p ≡ true → is_link_place p ≡ false
lock_unlinked p lock = grind arith

pub list_memory : FirstMemory list
list_memory = record {
  few_cells = omega arith;
  few_slots = omega arith;
  small = first_small;
  locks_free = first_locks;
  links = first_links;
}

pub list_laws : Laws list
list_laws = record {
  first = list_memory;
  unlinked_lock = λ cells p lock. lock_unlinked p lock;
  over = λ layout limits. record {
    begins = first_kept layout;
    empty = first_stands layout;
    shape = λ s sound kept r readings op thunk reader allowed fits.
        list_shaped layout limits s sound kept r readings op thunk reader allowed fits;
    fitting = list_fitting layout;
    in_turn = list_turns layout limits;
    keeps = list_keeps layout limits;
    gives = λ s sound kept. list_gives layout s sound kept limits;
  };
}

pub list_plans : PlannerLaws list 1
list_plans = record {
  serves = refl;
  over = λ layout limits. record {
    want_read = λ readings op thunk allowed. wants_read (bounds layout) op readings thunk;
    make_adds = λ readings op thunk allowed. makes_add (bounds layout) op readings thunk;
    sized = λ s pairs slots before quiet used. list_sized layout s pairs slots before quiet used;
  };
}

pub list_lands : (layout : Layout) → LandingLaw layout
list_lands layout s sound kept d x here link mark = lands layout s sound kept d x here link mark
