-- What follows where a look stands, by its imagined section.
use Rattle.std.proofs.Common.{◌≡◌, ◌≢◌, ℕ, suc, true, false, refl, sym, ap, ◌∙◌, subst, ⊎_elim, arith}
use Rattle.std.specs.Prelude.{Some}
use Rattle.section_lines.specs.structure_laws.specs.map_history.specs.declared.op.Op.{Op}
use Rattle.section_lines.specs.structure_laws.specs.map_history.specs.Keys.{HaveNoCommonKey}
use Rattle.section_lines.specs.structure_laws.specs.map_history.specs.Replay.{Pairs, reply_of, map_after}
use Rattle.section_lines.specs.structure_laws.specs.map_history.specs.Words.{word_of}
use Rattle.section_lines.specs.structure_laws.specs.body_terms.specs.Update.{upd}
use Rattle.section_lines.specs.structure_laws.specs.body_terms.specs.declared.step.Step.TheVariants.{Answer}
use Rattle.section_lines.specs.structure_laws.specs.body_terms.specs.declared.micro.Micro.TheVariants.{ReplyExchange}
use Rattle.section_lines.specs.structure_laws.specs.body_terms.specs.declared.thunk.Thunk.{Thunk}
use Rattle.section_lines.specs.structure_laws.specs.table_words.specs.declared.layout.Layout.{Layout}
use Rattle.section_lines.specs.structure_laws.specs.table_words.specs.Limits.{IsWithinLimits}
use Rattle.section_lines.specs.structure_laws.specs.Scene.{Section, Scene, with_section}
use Rattle.section_lines.specs.structure_laws.specs.Meaning.{Meaning}
use Rattle.section_lines.specs.structure_laws.specs.Sections.{Here, Settled, Unstored, Unstamped}
use Rattle.section_lines.specs.structure_laws.specs.Shape.{Shaped, HasStep}
use Rattle.section_lines.specs.structure_laws.specs.Fitting.{Leaves}
use Rattle.section_lines.specs.structure_laws.specs.Laws.{Laws}
use Rattle.section_lines.specs.structure_laws.specs.Lawful.{IsLawful}
use Rattle.section_lines.specs.structure_laws.proofs.Changes.{upd_same, upd_other, upd_some}
use Rattle.section_lines.proofs.Phases.{is_stamped}
use Rattle.section_lines.proofs.Sources.{of_answer}
use Rattle.completed_memory.specs.Pending.{Marks, AreMarked, AreBelow}
use Rattle.completed_memory.specs.Moves.{StandsCompleted, LeavesStores}
use Rattle.completed_memory.proofs.Stores.{come_settled}
use Rattle.completed_memory.proofs.Completing.{true_false, some_none}
use Rattle.completed_memory.proofs.Moving.{memory_moves}
use Rattle.read_answers.specs.Looks.{LookStands}
use Rattle.read_answers.specs.Answers.{LooksAnswer}
use Rattle.read_answers.proofs.Unchanged.{unchanged}
use Rattle.read_answers.proofs.Imagined.{looked, Imagined, imagined}

module _ (m : Meaning) (laws : Laws m) (layout : Layout) (limits : IsWithinLimits layout) (s : Scene) (op : Op) (thunk : Thunk)
    (count : ℕ) (below : AreBelow m count s) (look : Imagined m layout s count op thunk) where
  abbrev x : Section
  x = looked op thunk look.readings look.at look.reg

  -- the scene with the imagined section
  abbrev beside : Scene
  beside = with_section s count (Some x)

  here : Here beside count x
  here = upd_same s.section count count (Some x) refl

  shaped : Shaped m layout look.readings thunk
  shaped = look.lawful.shaped count x here

  unstamped : Unstamped m x
  unstamped j step = let same = look.only j step in omega arith

  -- every other section has another descriptor, and is there too
  apart : (d : ℕ) (y : Section) → Here s d y → d ≢ count
  apart d y there same = some_none (sym there ∙ ap s.section same ∙ below count (omega arith))

  still : (d : ℕ) (y : Section) → Here s d y → Here beside d y
  still d y there = upd_other s.section count d (Some x) (apart d y there) ∙ there

  pub alone_on_keys : m.is_map ≡ true → (d : ℕ) (y : Section) → Here s d y → Settled m y → Unstored m y → HaveNoCommonKey op y.op
  alone_on_keys map d y there settled unstored =
      ((laws.over layout limits).gives beside look.lawful.sound look.lawful.kept).one_key map count d x y here (still d y there)
      (λ same. apart d y there (sym same)) (come_settled m layout x shaped (look.at, omega arith, look.stamp)) settled
      (λ j into v store. absurd (look.no_store j into v store)) unstored

  -- where the completed memory stands for a map, it does so beside the imagined section, which has no stamp
  module _ (stamped : Marks) (pairs : Pairs) (st : StandsCompleted m layout s stamped pairs) where
    abbrev marks : Marks
    marks = upd stamped count false

    as_before : (d : ℕ) → d ≢ count → marks d ≡ stamped d
    as_before d ne = upd_other stamped count d false ne

    own_unmarked : (d : ℕ) → d ≡ count → marks d ≡ true → ⊥
    own_unmarked d same mark = true_false (sym mark ∙ upd_same stamped count d false same)

    marked : AreMarked m beside marks
    marked = record {
      come = λ d y there mark. ⊎_elim (λ own. absurd (own_unmarked d own.0 mark))
          (λ other. st.marked.come d y other.1 (sym (as_before d other.0) ∙ mark)) (upd_some s.section count d x y there);
      before = λ d y there mark. ⊎_elim (λ own. subst (Unstamped m) own.1 unstamped)
          (λ other. st.marked.before d y other.1 (sym (as_before d other.0) ∙ mark)) (upd_some s.section count d x y there);
    }

    leaves : LeavesStores m s beside stamped marks
    leaves = record {
      cells = λ p. refl;
      no_more = λ p word a. ⊎_elim (λ own. absurd (own_unmarked a.descriptor own.0 a.marked))
          (λ other. record {
            descriptor = a.descriptor;
            section = a.section;
            here = other.1;
            marked = sym (as_before a.descriptor other.0) ∙ a.marked;
            store = a.store;
          })
          (upd_some s.section count a.descriptor x a.section a.here);
      no_fewer = λ p word a. record {
        descriptor = a.descriptor;
        section = a.section;
        here = still a.descriptor a.section a.here;
        marked = as_before a.descriptor (apart a.descriptor a.section a.here) ∙ a.marked;
        store = a.store;
      };
    }

    stands_beside : StandsCompleted m layout beside marks pairs
    stands_beside = (memory_moves m laws layout limits).leaves s beside stamped marks pairs (suc count) st look.lawful marked
        (λ d le. upd_other s.section count d (Some x) (λ same. absurd (omega arith)) ∙ below d (omega arith)) leaves

    pub reply_is : m.is_map ≡ true → (j n : ℕ) → HasStep m thunk j (Answer n) → n ≡ word_of (reply_of pairs op)
    reply_is map j n step = (memory_moves m laws layout limits).answers beside marks pairs count x stands_beside
        (record { here = here; step = look.stamp; unmarked = upd_same stamped count count false refl }) map j n step

    -- the body has an Answer, and by it the operation leaves the map
    pub map_stays : m.is_map ≡ true → map_after pairs op ≡ pairs
    map_stays map =
        let line = is_stamped (m.body thunk) shaped.shape shaped.answers in
        let answer = of_answer (m.body thunk) line.answer (ReplyExchange line.reply) line.answers refl in
        let from = answer.1.from in
        unchanged pairs op (subst (Leaves op) (reply_is map from.n answer.0 from.here)
        ((laws.over layout limits).fitting.still map look.readings op thunk (look.lawful.sound.allowed count x here)
        (look.lawful.sound.fits count x here) look.no_store from.n answer.0 from.here))

pub looks_answer : (m : Meaning) → Laws m → (layout : Layout) → IsWithinLimits layout → LooksAnswer m layout
looks_answer m laws layout limits = record {
  answers = λ s stamped pairs r op thunk st look map.
      reply_is m laws layout limits s op thunk st.count st.below (at_stamp s r op thunk look st.lawful st.count st.below) stamped pairs st map;
  leaves_map = λ s stamped pairs r op thunk st look map.
      map_stays m laws layout limits s op thunk st.count st.below (at_stamp s r op thunk look st.lawful st.count st.below) stamped pairs st map;
  alone = λ s count r op thunk lawful below look map.
      alone_on_keys m laws layout limits s op thunk count below (at_stamp s r op thunk look lawful count below) map;
}
  where
    at_stamp : (s : Scene) (r : ℕ) (op : Op) (thunk : Thunk) → LookStands m layout s r op thunk → IsLawful m layout s → (count : ℕ) → AreBelow m count s
        → Imagined m layout s count op thunk
    at_stamp s r op thunk look lawful count below = imagined m laws layout limits s lawful r op thunk look count (below count (omega arith))
