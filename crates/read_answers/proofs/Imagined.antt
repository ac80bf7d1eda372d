-- The imagined section: a look is a section that is published now and passes all steps before its Stamp.
use Rattle.std.proofs.Common.{◌≡◌, ℕ, zero, suc, ◌+◌, ◌<◌, ◌≤◌, true, false, List, length, refl, sym, ◌∙◌, subst, ⊎_elim, arith}
use Rattle.std.specs.Prelude.{◌++◌, Some, None, [], ◌∷◌, slice_get}
use Rattle.std.proofs.lemmas.Option.{slice_get_within, slice_get_cases}
use Rattle.section_lines.specs.structure_laws.specs.map_history.specs.declared.op.Op.{Op}
use Rattle.section_lines.specs.structure_laws.specs.body_terms.specs.Update.{upd}
use Rattle.section_lines.specs.structure_laws.specs.body_terms.specs.declared.value.Value.{Value}
use Rattle.section_lines.specs.structure_laws.specs.body_terms.specs.declared.step.Step.{Step}
use Rattle.section_lines.specs.structure_laws.specs.body_terms.specs.declared.step.Step.TheVariants.{Load, Want, Fresh, Take, Make, Stamp, Store, Retire, Answer}
use Rattle.section_lines.specs.structure_laws.specs.body_terms.specs.declared.thunk.Thunk.{Thunk}
use Rattle.section_lines.specs.structure_laws.specs.body_terms.specs.Shape as shape
use Rattle.section_lines.specs.structure_laws.specs.body_terms.specs.Shape.{phase, is_look}
use Rattle.section_lines.specs.structure_laws.specs.table_words.specs.declared.layout.Layout.{Layout}
use Rattle.section_lines.specs.structure_laws.specs.table_words.specs.Limits.{IsWithinLimits}
use Rattle.section_lines.specs.structure_laws.specs.Scene.{Readings, Section, Scene, with_section}
use Rattle.section_lines.specs.structure_laws.specs.Meaning.{Meaning}
use Rattle.section_lines.specs.structure_laws.specs.Sections.{Here}
use Rattle.section_lines.specs.structure_laws.specs.Shape.{Shaped, HasStep}
use Rattle.section_lines.specs.structure_laws.specs.Keeps.{Publishes}
use Rattle.section_lines.specs.structure_laws.specs.Gives.{Gives}
use Rattle.section_lines.specs.structure_laws.specs.Laws.{LawsOver, Laws}
use Rattle.section_lines.specs.structure_laws.specs.Lawful.{IsLawful, Moves}
use Rattle.section_lines.specs.structure_laws.proofs.Bodies.{loaded_before}
use Rattle.section_lines.specs.structure_laws.proofs.Changes.{upd_same}
use Rattle.section_lines.specs.structure_laws.proofs.Moves.{moves}
use Rattle.section_lines.proofs.Phases.{sole, is_the_stamp}
use Rattle.completed_memory.proofs.Finishing.{upd_twice}
use Rattle.completed_memory.proofs.Completing.{true_false}
use Rattle.read_answers.specs.Looks.{LookStands}

-- an item of two lists in a row, from the first and from the second
get_front : {A : Type 0} (xs ys : List A) (v : A) (i : ℕ) → slice_get xs i ≡ Some v → slice_get (xs ++ ys) i ≡ Some v
get_front [] ys v i h = absurd (cc)
get_front (x ∷ xs) ys v zero h = h
get_front (x ∷ xs) ys v (suc i) h = get_front xs ys v i h

get_back : {A : Type 0} (xs ys : List A) (v : A) (i k : ℕ) → k ≡ length xs + i → slice_get ys i ≡ Some v → slice_get (xs ++ ys) k ≡ Some v
get_back [] ys v i k e h = subst (λ n. slice_get ys n ≡ Some v) (let same : i ≡ k = omega arith in same) h
get_back (x ∷ xs) ys v i zero e h = absurd (omega arith)
get_back (x ∷ xs) ys v i (suc k) e h = get_back xs ys v i k (omega arith) h

-- a section of these readings, so many steps of its body passed
abbrev pub looked : Op → Thunk → Readings → ℕ → (ℕ → ℕ) → Section
looked op thunk readings at reg = record { op = op; thunk = thunk; readings = readings; at = at; reg = reg }

-- the thunk's section stands at its Stamp, in this descriptor, in a lawful scene that is else the same; and it stores nothing
pub record Imagined (m : Meaning) (layout : Layout) (s : Scene) (d : ℕ) (op : Op) (thunk : Thunk) : Type 0 where
  pub readings : Readings
  pub at : ℕ
  pub reg : ℕ → ℕ
  pub lawful : IsLawful m layout (with_section s d (Some (looked op thunk readings at reg)))
  pub stamp : HasStep m thunk at Stamp
  pub only : (j : ℕ) → HasStep m thunk j Stamp → j ≡ at
  pub no_store : (j into : ℕ) (v : Value) → HasStep m thunk j (Store into v) → ⊥

module _ (m : Meaning) (laws : Laws m) (layout : Layout) (limits : IsWithinLimits layout) (s : Scene) (lawful : IsLawful m layout s)
    (r : ℕ) (op : Op) (thunk : Thunk) (look : LookStands m layout s r op thunk) (d : ℕ) (none : s.section d ≡ None) where
  abbrev over : LawsOver m layout
  over = laws.over layout limits

  abbrev by_moves : Moves m layout
  by_moves = moves m laws layout limits

  abbrev readings : Readings
  readings = look.planned ++ look.found

  abbrev body : List Step
  body = m.body thunk

  fits : m.fits layout op readings thunk ≡ true
  fits = over.fitting.fits_on look.planned look.found op thunk look.look.fits

  shaped : Shaped m layout readings thunk
  shaped = over.shape s lawful.sound lawful.kept r readings op thunk look.reader look.look.allowed fits

  -- a step that the body doesn't have
  other : (j : ℕ) (step : Step) → is_look step ≡ false → HasStep m thunk j step → ⊥
  other j step unlike here = true_false (sym (look.look.looks j step here) ∙ unlike)

  no_store : (j into : ℕ) (v : Value) → HasStep m thunk j (Store into v) → ⊥
  no_store j into v = other j (Store into v) refl

  -- where its Stamp stands
  abbrev stamp : ℕ
  stamp = (sole shape.is_stamp body shaped.shape.stamps).n

  stamp_here : HasStep m thunk stamp Stamp
  stamp_here = let a = sole shape.is_stamp body shaped.shape.stamps in subst (HasStep m thunk a.n) (is_the_stamp a.step a.passes) a.here

  stamp_only : (j : ℕ) → HasStep m thunk j Stamp → j ≡ stamp
  stamp_only j here = (sole shape.is_stamp body shaped.shape.stamps).only j Stamp here refl

  abbrev section_at : ℕ → (ℕ → ℕ) → Section
  section_at = looked op thunk readings

  -- the scene in which the look's section has come so far
  abbrev scene_at : ℕ → (ℕ → ℕ) → Scene
  scene_at at reg = with_section s d (Some (section_at at reg))

  here_at : (at : ℕ) (reg : ℕ → ℕ) → Here (scene_at at reg) d (section_at at reg)
  here_at at reg = upd_same s.section d d (Some (section_at at reg)) refl

  publishes : Publishes m layout s readings op thunk
  publishes = record {
    allowed = look.look.allowed;
    fits = fits;
    free = look.look.free;
    unspent = look.look.unspent;
    found = look.here;
    unheld = look.unheld;
  }

  opens : IsLawful m layout (scene_at 0 (λ reg. 0))
  opens = by_moves.holds s r d readings op thunk look.reader publishes none lawful

  -- what a Want wants stands in the cell that was loaded, since the look's lock guards it
  wanted : (at reg word place by : ℕ) → HasStep m thunk by (Load place reg) → HasStep m thunk at (Want reg word)
      → m.guard s.cells place ≡ thunk.lock → s.cells place ≡ word
  wanted at reg word place by load want guard =
      let found = look.look.wanted by at place reg word load want in
      let lock = look.look.lock in
      let within = slice_get_within look.planned lock.0 (thunk.lock, thunk.word) lock.1 in
      look.stand lock.0 (length look.planned + found.0) thunk.lock thunk.word place word (omega arith)
      (get_front look.planned look.found (thunk.lock, thunk.word) lock.0 lock.1)
      (get_back look.planned look.found (place, word) found.0 (length look.planned + found.0) refl found.1)
      shaped.outer_lock look.look.free look.here (shaped.load_unlocked by place reg load) guard

  -- one scene more, the next step passed
  module _ (at : ℕ) (reg : ℕ → ℕ) (now : IsLawful m layout (scene_at at reg)) where
    gives : Gives m layout (scene_at at reg)
    gives = over.gives (scene_at at reg) now.sound now.kept

    guarded : (by place into : ℕ) → by ≤ at → HasStep m thunk by (Load place into) → m.guard s.cells place ≡ thunk.lock
    guarded by place into le load = ⊎_elim (λ outer. outer)
        (λ took. absurd (other took.0 (Take (m.guard s.cells place) took.1) refl took.3))
        (gives.guarded d by place into (section_at at reg) (here_at at reg) le load)

    passes_want : (into word : ℕ) → HasStep m thunk at (Want into word) → reg into ≡ word
    passes_want into word step =
        let by = loaded_before body shaped.shape at into (Want into word) [] step refl in
        let earlier = by.earlier in
        sym (now.sound.loaded d (section_at at reg) (here_at at reg) by.by by.place into by.earlier by.loads
        (λ i v store. absurd (no_store i into v store)))
        ∙ wanted at into word by.place by.by by.loads step (guarded by.by by.place into (omega arith) by.loads)

    -- the section of the descriptor has changed twice
    again : (y : Section) → IsLawful m layout (with_section (scene_at at reg) d (Some y)) → IsLawful m layout (with_section s d (Some y))
    again y = subst (λ section. IsLawful m layout (record s { section = section })) (upd_twice s.section d (Some (section_at at reg)) (Some y))

    next : at < stamp → (reg' : ℕ → ℕ) × IsLawful m layout (scene_at (suc at) reg')
    next low = ⊎_elim
        (λ some. by_step some.0 some.2)
        (λ past. absurd (let long = past.0 in let within = slice_get_within body stamp Stamp stamp_here in omega arith))
        ((slice_get_cases body at).1)
      where
        by_step : (b : Step) → HasStep m thunk at b → (reg' : ℕ → ℕ) × IsLawful m layout (scene_at (suc at) reg')
        by_step (Load place into) step = (
          upd reg into (s.cells place),
          again (section_at (suc at) (upd reg into (s.cells place)))
              (by_moves.load (scene_at at reg) d place into (section_at at reg) (here_at at reg) step now),
        )
        by_step (Want into word) step = (
          reg,
          again (section_at (suc at) reg)
              (by_moves.want (scene_at at reg) d into word (section_at at reg) (here_at at reg) step (passes_want into word step) now),
        )
        by_step Stamp step = absurd (let same = stamp_only at step in omega arith)
        by_step (Answer reply) step =
            absurd (let order : phase (Answer reply) ≤ phase Stamp = shaped.shape.phases at stamp (Answer reply) Stamp low step stamp_here in omega arith)
        by_step (Fresh into) step = absurd (other at (Fresh into) refl step)
        by_step (Take place word) step = absurd (other at (Take place word) refl step)
        by_step (Make init into) step = absurd (other at (Make init into) refl step)
        by_step (Store into value) step = absurd (other at (Store into value) refl step)
        by_step (Retire slot) step = absurd (other at (Retire slot) refl step)

  -- up to the Stamp
  walk : (left at : ℕ) (reg : ℕ → ℕ) → at + left ≡ stamp → IsLawful m layout (scene_at at reg) → (reg' : ℕ → ℕ) × IsLawful m layout (scene_at stamp reg')
  walk zero at reg is now = (reg, subst (λ n. IsLawful m layout (scene_at n reg)) (let same : at ≡ stamp = omega arith in same) now)
  walk (suc left) at reg is now = let one = next at reg now (omega arith) in walk left (suc at) one.0 (omega arith) one.1

  -- so the look is a section that stands at its Stamp
  pub imagined : Imagined m layout s d op thunk
  imagined = let walked = walk stamp 0 (λ reg. 0) (omega arith) opens in record {
    readings = readings;
    at = stamp;
    reg = walked.0;
    lawful = walked.1;
    stamp = stamp_here;
    only = stamp_only;
    no_store = no_store;
  }
