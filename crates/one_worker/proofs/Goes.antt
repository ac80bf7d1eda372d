-- What holds of the one section that is under way: nobody else changes what it wants and takes.
use Rattle.std.specs.Prelude.{ℕ, suc, ◌≡◌, ◌≢◌, ◌⊎◌, length, Some}
use Rattle.machine_states.specs.body_terms.specs.Line.{line, micro_at}
use Rattle.machine_states.specs.body_terms.specs.Word.{held_word}
use Rattle.machine_states.specs.body_terms.specs.declared.micro.Micro.{Micro}
use Rattle.machine_states.specs.body_terms.specs.declared.micro.Micro.TheVariants as micros
use Rattle.machine_states.specs.body_terms.specs.declared.thunk.Thunk.{Thunk}
use Rattle.machine_states.specs.table_words.specs.declared.spot.Spot.TheVariants as spots
use Rattle.machine_states.specs.body_terms.specs.block_words.specs.Blocks.{log_in}
use Rattle.machine_states.specs.structure_laws.specs.Meaning.{Meaning}
use Rattle.machine_states.specs.runner_parts.specs.State.{RunState}
use Rattle.machine_states.specs.Sight.{Sight}

module _ (m : Meaning) (s : Sight) (d : ℕ) (t : Thunk) where
  abbrev pub code : ℕ → Micro
  code i = micro_at (line (m.body t)) i

  abbrev pub cell : ℕ → ℕ
  cell p = s.word (spots.Cell p)

  abbrev pub log : ℕ → ℕ
  log k = log_in s.word d k

  abbrev pub IsUndone : Type 0
  IsUndone = s.word (spots.DoneWord d) ≡ 0

  pub record Goes : Type 0 where
    -- until it is done: a wanted cell holds its word until the word is agreed, and a lock that it takes its free word or its held one
    pub wants : IsUndone → (i p k w : ℕ) → code i ≡ micros.CheckWord p k w → (cell p ≡ w) ⊎ (log k ≢ 0)
    pub takes : IsUndone → (i p w : ℕ) → code i ≡ micros.NestedHold p w → (cell p ≡ w) ⊎ (cell p ≡ held_word d w)
    -- a run that is about to agree on a Take's word has the expected one
    pub loads : (r : ℕ) (q : RunState) (p k w : ℕ) → (s.part r).run ≡ Some q → q.descriptor ≡ d → length q.opened ≡ 13
        → code q.at ≡ micros.NestedCommit p k → code (suc q.at) ≡ micros.CheckFree p k w → log k ≡ 0 → q.word ≡ w
    -- what is agreed passes
    pub wanted : (i p k w : ℕ) → code i ≡ micros.CheckWord p k w → log k ≢ 0 → log k ≡ w
    pub free : (i p k w : ℕ) → code i ≡ micros.CheckFree p k w → log k ≢ 0 → log k ≡ w
    pub held : (i p k w : ℕ) → code i ≡ micros.CheckHeld p k w → log k ≢ 0 → log k ≡ held_word d w
