-- What follows where a reader's look stands.
use Rattle.std.specs.Prelude.{ℕ, ◌≡◌, true}
use Rattle.section_lines.specs.structure_laws.specs.map_history.specs.declared.op.Op.{Op}
use Rattle.section_lines.specs.structure_laws.specs.map_history.specs.Keys.{HaveNoCommonKey}
use Rattle.section_lines.specs.structure_laws.specs.map_history.specs.Replay.{Pairs, reply_of, map_after}
use Rattle.section_lines.specs.structure_laws.specs.map_history.specs.Words.{word_of}
use Rattle.section_lines.specs.structure_laws.specs.body_terms.specs.declared.step.Step.TheVariants.{Answer}
use Rattle.section_lines.specs.structure_laws.specs.body_terms.specs.declared.thunk.Thunk.{Thunk}
use Rattle.section_lines.specs.structure_laws.specs.table_words.specs.declared.layout.Layout.{Layout}
use Rattle.section_lines.specs.structure_laws.specs.Scene.{Section, Scene}
use Rattle.section_lines.specs.structure_laws.specs.Meaning.{Meaning}
use Rattle.section_lines.specs.structure_laws.specs.Sections.{Here, Settled, Unstored}
use Rattle.section_lines.specs.structure_laws.specs.Shape.{HasStep}
use Rattle.section_lines.specs.structure_laws.specs.Lawful.{IsLawful}
use Rattle.completed_memory.specs.Pending.{Marks, AreBelow}
use Rattle.completed_memory.specs.Moves.{StandsCompleted}
use Rattle.read_answers.specs.Looks.{LookStands}

module _ (m : Meaning) where
  pub record LooksAnswer (layout : Layout) : Type 0 where
    -- the Answer is the reply of the map for which the completed memory stands
    pub answers : (s : Scene) (stamped : Marks) (pairs : Pairs) (r : ℕ) (op : Op) (thunk : Thunk)
        → StandsCompleted m layout s stamped pairs → LookStands m layout s r op thunk → m.is_map ≡ true
        → (j n : ℕ) → HasStep m thunk j (Answer n) → n ≡ word_of (reply_of pairs op)
    -- and the operation leaves this map as it is
    pub leaves_map : (s : Scene) (stamped : Marks) (pairs : Pairs) (r : ℕ) (op : Op) (thunk : Thunk)
        → StandsCompleted m layout s stamped pairs → LookStands m layout s r op thunk → m.is_map ≡ true
        → map_after pairs op ≡ pairs
    -- an open section that has passed its Takes, Wants and Freshes and made no Store has no key in common with it
    pub alone : (s : Scene) (count r : ℕ) (op : Op) (thunk : Thunk) → IsLawful m layout s → AreBelow m count s
        → LookStands m layout s r op thunk → m.is_map ≡ true
        → (d : ℕ) (x : Section) → Here s d x → Settled m x → Unstored m x → HaveNoCommonKey op x.op
