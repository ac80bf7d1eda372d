-- What becomes of the completed memory, and of the map for which it stands.
use Rattle.std.specs.Prelude.{ℕ, ◌<◌, ◌≡◌, true, false}
use Rattle.std.specs.FinMap.{empty}
use Rattle.structure_laws.specs.map_history.specs.Replay.{Pairs, reply_of, map_after}
use Rattle.structure_laws.specs.map_history.specs.Words.{word_of}
use Rattle.structure_laws.specs.body_terms.specs.Update.{upd}
use Rattle.structure_laws.specs.body_terms.specs.Word.{next_word}
use Rattle.structure_laws.specs.body_terms.specs.declared.value.Value.{Value}
use Rattle.structure_laws.specs.body_terms.specs.declared.step.Step.TheVariants.{Load, Stamp, Store, Answer}
use Rattle.structure_laws.specs.table_words.specs.declared.layout.Layout.{Layout}
use Rattle.structure_laws.specs.Scene.{Cells, Section, Free, Scene, with_cell, passes}
use Rattle.structure_laws.specs.Meaning.{Meaning}
use Rattle.structure_laws.specs.Sections.{value_in, Here, IsStep}
use Rattle.structure_laws.specs.Cells.{cell_of}
use Rattle.structure_laws.specs.Lawful.{IsLawful}
use Rattle.structure_laws.specs.Laws.{IsFirst}
use Rattle.completed_memory.specs.Pending.{Marks, AreMarked, IsPending, IsCompleted, AreBelow}

module _ (m : Meaning) where
  -- the completed memory of a lawful scene stands for this map
  pub record StandsCompleted (layout : Layout) (s : Scene) (stamped : Marks) (pairs : Pairs) : Type 0 where
    pub lawful : IsLawful m layout s
    pub marked : AreMarked m s stamped
    pub count : ℕ
    pub below : AreBelow m count s
    pub cells : Cells
    pub completed : IsCompleted m s stamped cells
    pub stands : m.stands layout cells pairs

  -- a scene with the same cells and the same remaining Stores
  pub record LeavesStores (s s' : Scene) (stamped stamped' : Marks) : Type 0 where
    pub cells : (p : ℕ) → s'.cells p ≡ s.cells p
    pub no_more : (p word : ℕ) → IsPending m s' stamped' p word → IsPending m s stamped p word
    pub no_fewer : (p word : ℕ) → IsPending m s stamped p word → IsPending m s' stamped' p word

  -- an open section that has no stamp yet comes to its Stamp
  pub record IsAtStamp (s : Scene) (stamped : Marks) (d : ℕ) (x : Section) : Type 0 where
    pub here : Here s d x
    pub step : IsStep m x x.at Stamp
    pub unmarked : stamped d ≡ false

  pub record MemoryMoves (layout : Layout) : Type 0 where
    -- at first it stands for the empty map
    pub first : (s : Scene) → IsFirst m s → StandsCompleted layout s (λ d. false) empty
    -- a section gets its stamp: its Answer is the map's reply, and the map goes on to the one after
    -- its operation
    pub answers : (s : Scene) (stamped : Marks) (pairs : Pairs) (d : ℕ) (x : Section)
        → StandsCompleted layout s stamped pairs
        → IsAtStamp s stamped d x → m.is_map ≡ true → (j n : ℕ) → IsStep m x j (Answer n)
        → n ≡ word_of (reply_of pairs x.op)
    pub stamps : (s : Scene) (stamped : Marks) (pairs : Pairs) (d : ℕ) (x : Section)
        → StandsCompleted layout s stamped pairs
        → IsAtStamp s stamped d x → StandsCompleted layout s (upd stamped d true) (map_after pairs x.op)
    -- what leaves the remaining Stores leaves the map
    pub leaves : (s s' : Scene) (stamped stamped' : Marks) (pairs : Pairs) (count : ℕ)
        → StandsCompleted layout s stamped pairs
        → IsLawful m layout s' → AreMarked m s' stamped' → AreBelow m count s'
        → LeavesStores s s' stamped stamped'
        → StandsCompleted layout s' stamped' pairs
    -- so does the next Store of a stamped section
    pub store : (s : Scene) (stamped : Marks) (pairs : Pairs) (d j p r : ℕ) (x : Section) (v : Value)
        → StandsCompleted layout s stamped pairs
        → Here s d x → stamped d ≡ true → IsStep m x x.at (Store r v) → IsStep m x j (Load p r)
        → StandsCompleted layout (with_cell (passes s d x) p (next_word (x.reg r) (value_in x.reg v))) stamped pairs
    -- and a change of a lock, or of a cell of a slot in a hand
    pub lock : (s : Scene) (stamped : Marks) (pairs : Pairs) (p w : ℕ)
        → StandsCompleted layout s stamped pairs → m.is_lock p ≡ true
        → IsLawful m layout (with_cell s p w) → StandsCompleted layout (with_cell s p w) stamped pairs
    pub hand : (s : Scene) (stamped : Marks) (pairs : Pairs) (t i w : ℕ) → StandsCompleted layout s stamped pairs
        → s.status t ≡ Free → i < 5
        → IsLawful m layout (with_cell s (cell_of m t i) w)
        → StandsCompleted layout (with_cell s (cell_of m t i) w) stamped pairs
    -- where nothing is pending, the cells stand for the map
    pub settled : (s : Scene) (stamped : Marks) (pairs : Pairs) → StandsCompleted layout s stamped pairs
        → ((p word : ℕ) → IsPending m s stamped p word → ⊥) → m.stands layout s.cells pairs
