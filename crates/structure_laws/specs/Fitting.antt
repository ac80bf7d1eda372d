-- The fifth law: a thunk that fits goes on to fit, and where its body stores nothing, it answers so.
use Rattle.std.specs.Prelude.{ℕ, ◌++◌, ◌≡◌, ◌⊎◌, true}
use Rattle.map_history.specs.declared.op.Op.{Op}
use Rattle.map_history.specs.declared.op.Op.TheVariants.{Get, Ins, Del, Put, Mov}
use Rattle.map_history.specs.declared.reply.Reply.TheVariants.{Dup, Absent}
use Rattle.map_history.specs.Words.{word_of}
use Rattle.body_terms.specs.declared.value.Value.{Value}
use Rattle.body_terms.specs.declared.step.Step.TheVariants.{Store, Answer}
use Rattle.body_terms.specs.declared.thunk.Thunk.{Thunk}
use Rattle.body_terms.specs.block_words.specs.table_words.specs.declared.layout.Layout.{Layout}
use Rattle.structure_laws.specs.Scene.{Readings}
use Rattle.structure_laws.specs.Meaning.{Meaning}
use Rattle.structure_laws.specs.Sections.{IsAllowed}
use Rattle.structure_laws.specs.Shape.{HasStep}

-- the reply word says that the operation leaves the map as it was; a `get` always does, and a `put` never says so
abbrev pub Leaves : Op → ℕ → Type 0
Leaves (Get key) reply = Unit {0}
Leaves (Ins key value) reply = reply ≡ word_of Dup
Leaves (Del key) reply = reply ≡ word_of Absent
Leaves (Put key value) reply = ⊥
Leaves (Mov from to) reply = (reply ≡ word_of Dup) ⊎ (reply ≡ word_of Absent)

module _ (m : Meaning) where
  -- no step of the thunk's body is a Store
  abbrev pub StoresNothing : Thunk → Type 0
  StoresNothing thunk = (j r : ℕ) (v : Value) → HasStep m thunk j (Store r v) → ⊥

  pub record Fitting (layout : Layout) : Type 0 where
    -- a thunk that fits readings fits them with more behind
    pub fits_on : (readings more : Readings) (op : Op) (thunk : Thunk) → m.fits layout op readings thunk ≡ true
        → m.fits layout op (readings ++ more) thunk ≡ true
    -- in a structure that serves the map, a body without a Store answers what leaves the map as it was
    pub still : m.is_map ≡ true → (readings : Readings) (op : Op) (thunk : Thunk) → IsAllowed op
        → m.fits layout op readings thunk ≡ true → StoresNothing thunk → (j reply : ℕ)
        → HasStep m thunk j (Answer reply) → Leaves op reply
