-- The second law: sections one after the other do what the map does.
use Rattle.std.specs.Prelude.{ℕ, ◌<◌, ◌≡◌, true}
use Rattle.map_history.specs.Replay.{Pairs, reply_of, map_after}
use Rattle.map_history.specs.Words.{word_of}
use Rattle.body_terms.specs.Word.{next_word}
use Rattle.body_terms.specs.declared.value.Value.{Value}
use Rattle.body_terms.specs.declared.step.Step.TheVariants.{Load, Stamp, Store, Answer}
use Rattle.body_terms.specs.block_words.specs.table_words.specs.declared.layout.Layout.{Layout}
use Rattle.body_terms.specs.Update.{upd}
use Rattle.structure_laws.specs.Scene.{Cells, Section, Free, Scene}
use Rattle.structure_laws.specs.Meaning.{Meaning}
use Rattle.structure_laws.specs.Sections.{value_in, Here, IsStep, Complete}
use Rattle.structure_laws.specs.Cells.{cell_of}
use Rattle.structure_laws.specs.Sound.{Sound}

module _ (m : Meaning) where
  -- the scene is kept, and its memory stands for the map
  pub record StandsFor (layout : Layout) (s : Scene) (pairs : Pairs) : Type 0 where
    pub sound : Sound m layout s
    pub kept : m.kept layout s
    pub stands : m.stands layout s.cells pairs

  -- with nothing pending, an open section comes to its Stamp
  pub record AtStamp (s : Scene) (d : ℕ) (x : Section) : Type 0 where
    pub complete : Complete m s
    pub here : Here s d x
    pub stamp : IsStep m x x.at Stamp

  -- the cells after all the section's Stores
  pub record AfterStores (x : Section) (before after : Cells) : Type 0 where
    pub changed : (i j p r : ℕ) (v : Value) → IsStep m x i (Store r v) → IsStep m x j (Load p r)
        → after p ≡ next_word (x.reg r) (value_in x.reg v)
    pub same : (p : ℕ) → ((i j r : ℕ) (v : Value) → IsStep m x i (Store r v) → IsStep m x j (Load p r) → ⊥)
        → after p ≡ before p

  pub record InTurn (layout : Layout) : Type 0 where
    -- its Answer is the map's reply
    pub answers : (s : Scene) (pairs : Pairs) (d : ℕ) (x : Section) → StandsFor layout s pairs
        → AtStamp s d x → m.is_map ≡ true
        → (j n : ℕ) → IsStep m x j (Answer n) → n ≡ word_of (reply_of pairs x.op)
    -- its Stores lead to a memory that stands for the map after its operation
    pub stores : (s : Scene) (pairs : Pairs) (d : ℕ) (x : Section) → StandsFor layout s pairs → AtStamp s d x
        → (after : Cells) → AfterStores x s.cells after → m.stands layout after (map_after pairs x.op)
    -- a change of a lock, or in a slot of a hand, leaves what the memory stands for
    pub lock : (s : Scene) (pairs : Pairs) (p w : ℕ) → StandsFor layout s pairs → m.is_lock p ≡ true
        → m.stands layout (upd s.cells p w) pairs
    pub hand : (s : Scene) (pairs : Pairs) (t i w : ℕ) → StandsFor layout s pairs → s.status t ≡ Free
        → i < 5 → m.stands layout (upd s.cells (cell_of m t i) w) pairs
