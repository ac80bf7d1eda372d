-- The core's side of the laws: every move leads from a lawful scene to a lawful scene.
use Rattle.std.proofs.Common.{◌≡◌, ◌≢◌, ℕ, suc, ◌+◌, ◌*◌, ◌<◌, ◌≤◌, Bool, true, false, cond, refl, sym, ap, ◌∙◌, subst, inl, inr, ⊎_elim, arith}
use Rattle.std.specs.Prelude.{◌⊎◌, ◌^◌, Option, Some, None, [], ◌∷◌, ◌++◌, nat_lt}
use Rattle.std.proofs.lemmas.Option.{none-some}
use mathlib.Core.Logic.{dite}
use native.Mathlib.Decide.{ℕ_discrete}
use Rattle.map_history.specs.declared.op.Op.{Op}
use Rattle.body_terms.specs.Update.{upd}
use Rattle.body_terms.specs.Word.{version_of, next_word}
use Rattle.body_terms.specs.declared.value.Value.{Value}
use Rattle.body_terms.specs.declared.value.Value.TheVariants.{Const, Of, Made}
use Rattle.body_terms.specs.declared.value.Init.{Init}
use Rattle.body_terms.specs.declared.step.Step.{Step}
use Rattle.body_terms.specs.declared.step.Step.TheVariants.{Load, Want, Fresh, Take, Make, Stamp, Store, Retire, Answer}
use Rattle.body_terms.specs.declared.thunk.Thunk.{Thunk}
use Rattle.body_terms.specs.block_words.specs.table_words.specs.declared.layout.Layout.{Layout}
use Rattle.body_terms.specs.block_words.specs.table_words.specs.Limits.{IsWithinLimits}
use Rattle.structure_laws.specs.Scene.{Cells, Readings, Section, Status, Free, Live, Retired, Scene, with_cell, with_reader, with_section, with_status, with_reading, opened, passes, sets}
use Rattle.structure_laws.specs.Meaning.{Meaning}
use Rattle.structure_laws.specs.Sections.{IsSmall, Here, IsStep, Holds, Unheld, Settled, Ended, value_in}
use Rattle.structure_laws.specs.Cells.{IsSafe, IsReader, cell_of, IsCellOf, slots, IsLoadable, IsOutside, Links}
use Rattle.structure_laws.specs.Sound.{IsRead, Sound}
use Rattle.structure_laws.specs.Shape.{Shaped}
use Rattle.structure_laws.specs.Keeps.{Publishes, IsPrepared}
use Rattle.structure_laws.specs.Gives.{Gives}
use Rattle.structure_laws.specs.Laws.{IsFirst, LawsOver, Laws}
use Rattle.structure_laws.specs.Lawful.{IsLawful, IsRecent, Moves}
use Rattle.structure_laws.proofs.Changes.{upd_same, upd_other, upd_some, upd_none, version-next_word, value_small}
use Rattle.structure_laws.proofs.Bodies.{apart_steps, same_step, no_exit_after}
use Rattle.structure_laws.proofs.Progress.{stepped, Agrees, OpenSound, open_sound, cells_kept, section_done, section_put, others_agree, opened_agrees, passed_agrees, set_agrees, store_agrees}
use Rattle.structure_laws.proofs.Readings.{seen_risen, read_on, none_read, read_more, known_outside, known_target}

live_free : (x : Status) → x ≡ Live → x ≢ Free
live_free x live free = cc

module _ (m : Meaning) (laws : Laws m) (layout : Layout) (limits : IsWithinLimits layout) (s : Scene) (lawful : IsLawful m layout s) where
  abbrev over : LawsOver m layout
  over = laws.over layout limits

  abbrev gives : Gives m layout s
  gives = over.gives s lawful.sound lawful.kept

  -- the statuses of the slots, in place of the scene's
  record SlotsSound (status : ℕ → Status) : Type 0 where
    fixed : (t : ℕ) → t < m.fixed_slots → status t ≡ Live
    within : (t : ℕ) → status t ≢ Free → t < slots m layout
    retired : (t y : ℕ) → status t ≡ Retired y → y ≤ s.epoch

  same_slots : SlotsSound s.status
  same_slots = record { fixed = lawful.sound.fixed; within = lawful.sound.within; retired = lawful.sound.retired }

  -- a scene with the same readers and the same epoch, in which the section of one descriptor has become another one, of the same thunk
  abbrev stepped_scene : Cells → (ℕ → Status) → ℕ → Section → (ℕ → ℕ) → Scene
  stepped_scene cells status d x reg = record { cells = cells; epoch = s.epoch; status = status; reader = s.reader; section = upd s.section d (Some (stepped x reg)) }

  step_lawful : (cells : Cells) (status : ℕ → Status) (d : ℕ) (x : Section) (reg : ℕ → ℕ) → Here s d x → SlotsSound status
      → ((readings : Readings) → IsRead m s readings → IsRead m (stepped_scene cells status d x reg) readings)
      → OpenSound m layout cells (upd s.section d (Some (stepped x reg)))
      → (Sound m layout (stepped_scene cells status d x reg) → m.kept layout (stepped_scene cells status d x reg))
      → IsLawful m layout (stepped_scene cells status d x reg)
  step_lawful cells status d x reg here slots reads sections kept = record { sound = sound; kept = kept sound; shaped = shaped }
    where
      s' : Scene
      s' = stepped_scene cells status d x reg

      published : (e : ℕ) (y : Section) → upd s.section d (Some (stepped x reg)) e ≡ Some y → IsRead m (stepped_scene cells status d x reg) y.readings
      published e y h = ⊎_elim (λ same. subst (λ y. IsRead m (stepped_scene cells status d x reg) y.readings) same.1 (reads x.readings (lawful.sound.published d x here)))
          (λ other. reads y.readings (lawful.sound.published e y other.1)) (upd_some s.section d e (stepped x reg) y h)

      sound : Sound m layout (stepped_scene cells status d x reg)
      sound = record {
        fixed = slots.fixed;
        within = slots.within;
        retired = slots.retired;
        readers = λ r readings h. reads readings (lawful.sound.readers r readings h);
        published = published;
        fits = sections.fits;
        allowed = sections.allowed;
        apart = sections.apart;
        loaded = λ e y h. (sections.agrees e y h).loaded;
        stored = λ e y h. (sections.agrees e y h).stored;
        wanted = λ e y h. (sections.agrees e y h).wanted;
      }

      shaped : (e : ℕ) (y : Section) → upd s.section d (Some (stepped x reg)) e ≡ Some y → Shaped m layout y.readings y.thunk
      shaped e y h = ⊎_elim (λ same. subst (λ y. Shaped m layout y.readings y.thunk) same.1 (lawful.shaped d x here)) (λ other. lawful.shaped e y other.1) (upd_some s.section d e (stepped x reg) y h)

  -- the same readings, where neither cells nor statuses change
  same_reads : (d : ℕ) (x : Section) (reg : ℕ → ℕ) (readings : Readings) → IsRead m s readings → IsRead m (stepped_scene s.cells s.status d x reg) readings
  same_reads d x reg readings read = read_on m s (stepped_scene s.cells s.status d x reg) readings read (λ p w seen. seen) (λ p outside link. link) (λ t safe. safe)

  -- what a section holds after a step that takes no lock it held before
  held_before : (x : Section) (reg : ℕ → ℕ) (b : Step) (l : ℕ) → IsStep m x x.at b → ((l w : ℕ) → b ≢ Take l w) → Holds m (stepped x reg) l → Holds m x l
  held_before x reg b l h no_take holds = ⊎_elim inl
      (λ took. inr (took.0, took.1, (let ne = apart_steps (m.body x.thunk) took.0 x.at (Take l took.1) b took.3 h (λ e. no_take l took.1 (sym e)) in let lt = took.2 in omega arith), took.3)) holds

  -- the sections after a step of one of them that takes no lock
  put_step : (d : ℕ) (x : Section) (reg : ℕ → ℕ) (b : Step) (cells : Cells) → Here s d x → IsStep m x x.at b → ((l w : ℕ) → b ≢ Take l w)
      → OpenSound m layout cells s.section → Agrees m cells (stepped x reg) → OpenSound m layout cells (upd s.section d (Some (stepped x reg)))
  put_step d x reg b cells here h no_take before agrees = section_put m layout cells cells s.section d (stepped x reg) before (lawful.sound.fits d x here) (lawful.sound.allowed d x here)
      (λ e z ne there l holds holds'. lawful.sound.apart e d z x there here ne l holds' (held_before x reg b l h no_take holds)) agrees (λ e z ne there. before.agrees e z there)

  -- a step that changes nothing but how far the section has come
  quiet : (d : ℕ) (x : Section) (b : Step) → Here s d x → IsStep m x x.at b → ((p r : ℕ) → b ≢ Load p r) → ((r : ℕ) (v : Value) → b ≢ Store r v) → ((l w : ℕ) → b ≢ Take l w)
      → ((r w : ℕ) → b ≡ Want r w → x.reg r ≡ w) → (Sound m layout (passes s d x) → m.kept layout (passes s d x)) → IsLawful m layout (passes s d x)
  quiet d x b here h no_load no_store no_take want kept = step_lawful s.cells s.status d x x.reg here same_slots (same_reads d x x.reg)
      (put_step d x x.reg b s.cells here h no_take before (passed_agrees m s.cells x b (before.agrees d x here) h no_load no_store want)) kept
    where
      before : OpenSound m layout s.cells s.section
      before = open_sound m layout s lawful.sound

  pub want_lawful : (d r w : ℕ) (x : Section) → Here s d x → IsStep m x x.at (Want r w) → x.reg r ≡ w → IsLawful m layout (passes s d x)
  want_lawful d r w x here h equal = quiet d x (Want r w) here h (λ p q e. cc) (λ q v e. cc) (λ l u e. cc) (λ q u e. grind arith)
      (λ sound'. over.keeps.want s d r w x here h equal lawful.sound lawful.kept sound')

  pub fresh_lawful : (d r : ℕ) (x : Section) → Here s d x → IsStep m x x.at (Fresh r) → version_of (x.reg r) ≢ layout.version_max → IsLawful m layout (passes s d x)
  fresh_lawful d r x here h newer = quiet d x (Fresh r) here h (λ p q e. cc) (λ q v e. cc) (λ l u e. cc) (λ q u e. absurd (cc))
      (λ sound'. over.keeps.fresh s d r x here h newer lawful.sound lawful.kept sound')

  pub stamp_lawful : (d : ℕ) (x : Section) → Here s d x → IsStep m x x.at Stamp → IsLawful m layout (passes s d x)
  stamp_lawful d x here h = quiet d x Stamp here h (λ p q e. cc) (λ q v e. cc) (λ l u e. cc) (λ q u e. absurd (cc))
      (λ sound'. over.keeps.stamp s d x here h lawful.sound lawful.kept sound')

  pub answer_lawful : (d n : ℕ) (x : Section) → Here s d x → IsStep m x x.at (Answer n) → IsLawful m layout (passes s d x)
  answer_lawful d n x here h = quiet d x (Answer n) here h (λ p q e. cc) (λ q v e. cc) (λ l u e. cc) (λ q u e. absurd (cc))
      (λ sound'. over.keeps.answer s d n x here h lawful.sound lawful.kept sound')

  pub load_lawful : (d p r : ℕ) (x : Section) → Here s d x → IsStep m x x.at (Load p r) → IsLawful m layout (sets s d x r (s.cells p))
  load_lawful d p r x here h = step_lawful s.cells s.status d x (upd x.reg r (s.cells p)) here same_slots (same_reads d x (upd x.reg r (s.cells p)))
      (put_step d x (upd x.reg r (s.cells p)) (Load p r) s.cells here h (λ l w e. cc) before
      (set_agrees m layout s.cells x (Load p r) r (s.cells p) (lawful.shaped d x here) (before.agrees d x here) h refl (omega arith) (λ q v e. cc) (λ q w e. cc) (λ q u e. loaded q u e)))
      (λ sound'. over.keeps.load s d p r x here h lawful.sound lawful.kept sound')
    where
      before : OpenSound m layout s.cells s.section
      before = open_sound m layout s lawful.sound

      loaded : (q u : ℕ) → Load p r ≡ Load q u → (u ≡ r) × (s.cells q ≡ s.cells p)
      loaded q u e = (cc, ap s.cells (place_of q u e))
        where
          place_of : (q u : ℕ) → Load p r ≡ Load q u → q ≡ p
          place_of q u e = cc

  -- a slot of a hand becomes live
  pub make_lawful : (d t r : ℕ) (x : Section) (init : Init) → Here s d x → IsStep m x x.at (Make init r) → IsPrepared m layout s x t init → IsLawful m layout (with_status (sets s d x r (suc t)) t Live)
  make_lawful d t r x init here h prepared = step_lawful s.cells (upd s.status t Live) d x (upd x.reg r (suc t)) here
      (record {
        fixed = λ u low. live_too s.status t u (lawful.sound.fixed u low);
        within = λ u used. dite (ℕ_discrete u t) (λ e. let within = prepared.within in omega arith) (λ ne. lawful.sound.within u (λ free. used (upd_other s.status t u Live ne ∙ free)));
        retired = λ u y h. dite (ℕ_discrete u t) (λ e. absurd (live_retired y (sym (upd_same s.status t u Live e) ∙ h))) (λ ne. lawful.sound.retired u y (sym (upd_other s.status t u Live ne) ∙ h));
      })
      (λ readings read. read_on m s (stepped_scene s.cells (upd s.status t Live) d x (upd x.reg r (suc t))) readings read (λ p w seen. seen) (λ p outside link. link)
      (λ u safe. ⊎_elim (λ live. inl (live_too s.status t u live))
      (λ retired. inr (retired.0, upd_other s.status t u Live (λ e. free_retired retired.0 (sym prepared.in_hand ∙ ap s.status (sym e) ∙ retired.1)) ∙ retired.1, retired.2)) safe))
      (put_step d x (upd x.reg r (suc t)) (Make init r) s.cells here h (λ l w e. cc) before
      (set_agrees m layout s.cells x (Make init r) r (suc t) (lawful.shaped d x here) (before.agrees d x here) h refl (omega arith) (λ q v e. cc) (λ q w e. cc) (λ q u e. absurd (cc))))
      (λ sound'. over.keeps.make s d t r x init here h prepared lawful.sound lawful.kept sound')
    where
      before : OpenSound m layout s.cells s.section
      before = open_sound m layout s lawful.sound

      live_too : (status : ℕ → Status) (t u : ℕ) → status u ≡ Live → upd status t Live u ≡ Live
      live_too status t u live = dite (ℕ_discrete u t) (λ e. upd_same status t u Live e) (λ ne. upd_other status t u Live ne ∙ live)

      live_retired : (y : ℕ) → Live ≡ Retired y → ⊥
      live_retired y e = cc

      free_retired : (y : ℕ) → Free ≡ Retired y → ⊥
      free_retired y e = cc

  -- a lock is taken
  pub take_lawful : (d l w : ℕ) (x : Section) → Here s d x → IsStep m x x.at (Take l w) → Unheld m s l → IsLawful m layout (passes s d x)
  take_lawful d l w x here h unheld = step_lawful s.cells s.status d x x.reg here same_slots (same_reads d x x.reg)
      (section_put m layout s.cells s.cells s.section d (stepped x x.reg) before (lawful.sound.fits d x here) (lawful.sound.allowed d x here)
      (λ e z ne there k holds holds'. ⊎_elim (λ held. lawful.sound.apart e d z x there here ne k holds' held) (λ taken. unheld e z there (subst (Holds m z) taken holds')) (held k holds))
      (passed_agrees m s.cells x (Take l w) (before.agrees d x here) h (λ p r e. cc) (λ r v e. cc) (λ r u e. absurd (cc))) (λ e z ne there. before.agrees e z there))
      (λ sound'. over.keeps.take s d l w x here h unheld lawful.sound lawful.kept sound')
    where
      before : OpenSound m layout s.cells s.section
      before = open_sound m layout s lawful.sound

      split : (j n : ℕ) → j < suc n → (j ≡ n) ⊎ (j < n)
      split j n lt = search arith

      lock_of : (k u l w : ℕ) → Take k u ≡ Take l w → k ≡ l
      lock_of k u l w e = cc

      held : (k : ℕ) → Holds m (stepped x x.reg) k → Holds m x k ⊎ (k ≡ l)
      held k holds = ⊎_elim (λ outer. inl (inl outer)) (λ took. ⊎_elim (λ e. inr (lock_of k took.1 l w (same_step (m.body x.thunk) took.0 x.at (Take k took.1) (Take l w) took.3 h e)))
          (λ lt. inl (inr (took.0, took.1, lt, took.3))) (split took.0 x.at took.2)) holds

  value_in_small : (x : Section) (v : Value) → IsSmall v → value_in x.reg v < 2 ^ 32
  value_in_small x (Const n) small = small
  value_in_small x (Of r) small = value_small (x.reg r)
  value_in_small x (Made r) small = value_small (x.reg r)

  -- a cell gets its next word
  pub store_lawful : (d j p r : ℕ) (x : Section) (v : Value) → Here s d x → IsStep m x x.at (Store r v) → j < x.at → IsStep m x j (Load p r) → s.cells p ≡ x.reg r
      → IsLawful m layout (with_cell (passes s d x) p (next_word (x.reg r) (value_in x.reg v)))
  store_lawful d j p r x v here h earlier load found = step_lawful (upd s.cells p word) s.status d x x.reg here same_slots
      (λ readings read. read_on m s (stepped_scene (upd s.cells p word) s.status d x x.reg) readings read (λ q w seen. seen_risen s.cells p word q w rises seen)
      (λ q outside link. sym (gives.steady_store d j p q r x v here h load) ∙ link) (λ t safe. safe))
      (section_put m layout s.cells (upd s.cells p word) s.section d (stepped x x.reg) before (lawful.sound.fits d x here) (lawful.sound.allowed d x here)
      (λ e z ne there l holds holds'. lawful.sound.apart e d z x there here ne l holds' (held_before x x.reg (Store r v) l h (λ k u e. cc) holds))
      (store_agrees m layout s.cells x j p r v (lawful.shaped d x here) (before.agrees d x here) h load)
      (λ e z ne there. others_agree m layout s.cells (upd s.cells p word) z (lawful.shaped e z there) (before.agrees e z there)
      (λ i q u le load'. upd_other s.cells p q word (λ same. lawful.sound.apart e d z x there here ne (m.guard s.cells q) (gives.guarded e i q u z there le load')
      (subst (λ q. Holds m x (m.guard s.cells q)) (sym same) (gives.guarded d j p r x here (omega arith) load))))))
      (λ sound'. over.keeps.store s d j p r x v here h earlier load found lawful.sound lawful.kept sound')
    where
      word : ℕ
      word = next_word (x.reg r) (value_in x.reg v)

      before : OpenSound m layout s.cells s.section
      before = open_sound m layout s lawful.sound

      rises : version_of (s.cells p) < version_of (next_word (x.reg r) (value_in x.reg v))
      rises = let same = ap version_of found in let next = version-next_word (x.reg r) (value_in x.reg v) (value_in_small x v ((lawful.shaped d x here).store_small x.at r v h)) in omega arith

  -- a slot is retired, in an epoch that is at most one behind
  pub retire_lawful : (d t y : ℕ) (x : Section) → Here s d x → IsStep m x x.at (Retire t) → y ≤ s.epoch → s.epoch ≤ y + 1
      → ((q z i : ℕ) → i < 5 → s.status q ≡ Retired z → Links m s (cell_of m q i) t → z ≤ y) → IsLawful m layout (with_status (passes s d x) t (Retired y))
  retire_lawful d t y x here h past recent links = step_lawful s.cells (upd s.status t (Retired y)) d x x.reg here
      (record {
        fixed = λ u low. upd_other s.status t u (Retired y) (λ e. let high = unfixed in omega arith) ∙ lawful.sound.fixed u low;
        within = λ u used. dite (ℕ_discrete u t) (λ e. lawful.sound.within u (live_free (s.status u) (ap s.status e ∙ live))) (λ ne. lawful.sound.within u (λ free. used (upd_other s.status t u (Retired y) ne ∙ free)));
        retired = λ u z h. dite (ℕ_discrete u t) (λ e. let same = retired_in (sym (upd_same s.status t u (Retired y) e) ∙ h) in omega arith) (λ ne. lawful.sound.retired u z (sym (upd_other s.status t u (Retired y) ne) ∙ h));
      })
      (λ readings read. read_on m s (stepped_scene s.cells (upd s.status t (Retired y)) d x x.reg) readings read (λ p w seen. seen) (λ p outside link. link)
      (λ u safe. dite (ℕ_discrete u t) (λ e. inr (y, upd_same s.status t u (Retired y) e, recent))
      (λ ne. ⊎_elim (λ live'. inl (upd_other s.status t u (Retired y) ne ∙ live')) (λ retired. inr (retired.0, upd_other s.status t u (Retired y) ne ∙ retired.1, retired.2)) safe)))
      (put_step d x x.reg (Retire t) s.cells here h (λ k u e. cc) before (passed_agrees m s.cells x (Retire t) (before.agrees d x here) h (λ p r e. cc) (λ r v e. cc) (λ r w e. absurd (cc))))
      (λ sound'. over.keeps.retire s d t y x here h past recent links lawful.sound lawful.kept sound')
    where
      before : OpenSound m layout s.cells s.section
      before = open_sound m layout s lawful.sound

      settled : Settled m x
      settled j step le h' = no_exit_after (m.body x.thunk) (lawful.shaped d x here).shape x.at j (Retire t) step h h' (omega arith) le

      live : s.status t ≡ Live
      live = gives.retire_live d x.at t x here settled (omega arith) h

      unfixed : m.fixed_slots ≤ t
      unfixed = gives.retire_unfixed d x.at t x here settled (omega arith) h

      retired_in : {z w : ℕ} → Retired z ≡ Retired w → z ≡ w
      retired_in e = cc

  -- a scene in which neither cells nor slots change
  part_lawful : (reader : ℕ → Option Readings) (section : ℕ → Option Section)
      → ((r : ℕ) (readings : Readings) → reader r ≡ Some readings → IsRead m s readings) → ((d : ℕ) (x : Section) → section d ≡ Some x → IsRead m s x.readings × Shaped m layout x.readings x.thunk)
      → OpenSound m layout s.cells section
      → (Sound m layout (record s { reader = reader; section = section }) → m.kept layout (record s { reader = reader; section = section }))
      → IsLawful m layout (record s { reader = reader; section = section })
  part_lawful reader section readers published sections kept = record { sound = sound; kept = kept sound; shaped = λ d x here. (published d x here).1 }
    where
      again : (readings : Readings) → IsRead m s readings → IsRead m (record s { reader = reader; section = section }) readings
      again readings read = read_on m s (record s { reader = reader; section = section }) readings read (λ p w seen. seen) (λ p outside link. link) (λ t safe. safe)

      sound : Sound m layout (record s { reader = reader; section = section })
      sound = record {
        fixed = lawful.sound.fixed;
        within = lawful.sound.within;
        retired = lawful.sound.retired;
        readers = λ r readings h. again readings (readers r readings h);
        published = λ d x here. again x.readings (published d x here).0;
        fits = sections.fits;
        allowed = sections.allowed;
        apart = sections.apart;
        loaded = λ d x here. (sections.agrees d x here).loaded;
        stored = λ d x here. (sections.agrees d x here).stored;
        wanted = λ d x here. (sections.agrees d x here).wanted;
      }

  reader_lawful : (r : ℕ) (new : Option Readings) → ((readings : Readings) → new ≡ Some readings → IsRead m s readings)
      → (Sound m layout (with_reader s r new) → m.kept layout (with_reader s r new)) → IsLawful m layout (with_reader s r new)
  reader_lawful r new reads kept = part_lawful (upd s.reader r new) s.section
      (λ q readings h. dite (ℕ_discrete q r) (λ e. reads readings (sym (upd_same s.reader r q new e) ∙ h)) (λ ne. lawful.sound.readers q readings (sym (upd_other s.reader r q new ne) ∙ h)))
      (λ d x here. (lawful.sound.published d x here, lawful.shaped d x here)) (open_sound m layout s lawful.sound) kept

  -- a runner enters, loads a place, leaves
  pub enters_lawful : (r : ℕ) → IsLawful m layout (with_reader s r (Some []))
  enters_lawful r = reader_lawful r (Some []) (λ readings h. subst (IsRead m s) (some_inj h) (none_read m s)) (λ sound'. over.keeps.enters s r lawful.sound lawful.kept sound')
    where
      some_inj : {x y : Readings} → Some x ≡ Some y → x ≡ y
      some_inj e = cc

  pub leaves_lawful : (r : ℕ) → IsLawful m layout (with_reader s r None)
  leaves_lawful r = reader_lawful r None (λ readings h. absurd (none-some readings h)) (λ sound'. over.keeps.leaves s r lawful.sound lawful.kept sound')

  pub reads_lawful : (r p : ℕ) (readings : Readings) → s.reader r ≡ Some readings → IsLoadable m readings p → IsLawful m layout (with_reading s r readings p)
  reads_lawful r p readings reader loadable = reader_lawful r (Some (readings ++ (p, s.cells p) ∷ []))
      (λ longer h. subst (IsRead m s) (some_inj h) (read_more m s readings p read outside target)) (λ sound'. over.keeps.reads s r p readings reader loadable lawful.sound lawful.kept sound')
    where
      some_inj : {x y : Readings} → Some x ≡ Some y → x ≡ y
      some_inj e = cc

      read : IsRead m s readings
      read = lawful.sound.readers r readings reader

      outside : IsOutside m s p
      outside = ⊎_elim (known_outside m layout s lawful.sound gives readings (inl (r, reader)) read p) (λ lock. inr (inl lock)) loadable

      true_false : {b : Bool} → b ≡ true → b ≡ false → ⊥
      true_false e e' = cc

      target : (t : ℕ) → Links m s p t → IsSafe s t
      target t links = ⊎_elim (λ known. known_target m layout s lawful.sound gives readings (inl (r, reader)) read p t known links)
          (λ lock. absurd (true_false links.0 (laws.unlinked_lock s.cells p lock))) loadable

  -- a section is published
  pub holds_lawful : (r d : ℕ) (readings : Readings) (op : Op) (thunk : Thunk) → s.reader r ≡ Some readings → Publishes m layout s readings op thunk → s.section d ≡ None
      → IsLawful m layout (with_section s d (Some (opened op thunk readings)))
  holds_lawful r d readings op thunk reader publishes none = part_lawful s.reader (upd s.section d (Some (opened op thunk readings))) lawful.sound.readers
      (λ e y h. ⊎_elim (λ same. subst (λ y. IsRead m s y.readings × Shaped m layout y.readings y.thunk) same.1 (lawful.sound.readers r readings reader, shaped))
      (λ other. (lawful.sound.published e y other.1, lawful.shaped e y other.1)) (upd_some s.section d e (opened op thunk readings) y h))
      (section_put m layout s.cells s.cells s.section d (opened op thunk readings) before publishes.fits publishes.allowed
      (λ e z ne there l holds holds'. publishes.unheld e z there (subst (Holds m z) (outer l holds) holds'))
      (opened_agrees m s.cells op thunk readings) (λ e z ne there. before.agrees e z there))
      (λ sound'. over.keeps.holds s r d readings op thunk reader publishes none lawful.sound lawful.kept sound')
    where
      before : OpenSound m layout s.cells s.section
      before = open_sound m layout s lawful.sound

      shaped : Shaped m layout readings thunk
      shaped = over.shape s lawful.sound lawful.kept r readings op thunk reader publishes.allowed publishes.fits

      outer : (l : ℕ) → Holds m (opened op thunk readings) l → l ≡ thunk.lock
      outer l holds = ⊎_elim (λ e. e) (λ took. absurd (let low = took.2 in omega arith)) holds

  -- a section is done
  pub done_lawful : (d : ℕ) (x : Section) → Here s d x → (Settled m x → Ended m x) → IsLawful m layout (with_section s d None)
  done_lawful d x here ended = part_lawful s.reader (upd s.section d None) lawful.sound.readers
      (λ e y h. let there = (upd_none s.section d e y h).1 in (lawful.sound.published e y there, lawful.shaped e y there))
      (section_done m layout s.cells s.section d (open_sound m layout s lawful.sound)) (λ sound'. over.keeps.done s d x here ended lawful.sound lawful.kept sound')

  -- a cell that no open section loads gets a later version, and no link elsewhere is made or ended
  cell_lawful : (p w : ℕ) → version_of (s.cells p) < version_of w → ((d : ℕ) (x : Section) → Here s d x → (j q r : ℕ) → IsStep m x j (Load q r) → q ≢ p)
      → ((q : ℕ) → IsOutside m s q → m.is_link (upd s.cells p w) q ≡ true → m.is_link s.cells q ≡ true)
      → (Sound m layout (with_cell s p w) → m.kept layout (with_cell s p w)) → IsLawful m layout (with_cell s p w)
  cell_lawful p w rises other links kept = record { sound = sound; kept = kept sound; shaped = lawful.shaped }
    where
      sections : OpenSound m layout (upd s.cells p w) s.section
      sections = cells_kept m layout s.cells (upd s.cells p w) s.section (open_sound m layout s lawful.sound) (λ d x here j q r load. upd_other s.cells p q w (other d x here j q r load))

      again : (readings : Readings) → IsRead m s readings → IsRead m (with_cell s p w) readings
      again readings read = read_on m s (with_cell s p w) readings read (λ q v seen. seen_risen s.cells p w q v rises seen) links (λ t safe. safe)

      sound : Sound m layout (with_cell s p w)
      sound = record {
        fixed = lawful.sound.fixed;
        within = lawful.sound.within;
        retired = lawful.sound.retired;
        readers = λ r readings h. again readings (lawful.sound.readers r readings h);
        published = λ d x here. again x.readings (lawful.sound.published d x here);
        fits = sections.fits;
        allowed = sections.allowed;
        apart = sections.apart;
        loaded = λ d x here. (sections.agrees d x here).loaded;
        stored = λ d x here. (sections.agrees d x here).stored;
        wanted = λ d x here. (sections.agrees d x here).wanted;
      }

  true_false : (b : Bool) → b ≡ true → b ≡ false → ⊥
  true_false b e e' = cc

  -- a lock gets a later version
  pub lock_lawful : (p w : ℕ) → m.is_lock p ≡ true → version_of (s.cells p) < version_of w → IsLawful m layout (with_cell s p w)
  lock_lawful p w lock rises = cell_lawful p w rises
      (λ d x here j q r load e. true_false (m.is_lock p) lock (ap m.is_lock (sym e) ∙ (lawful.shaped d x here).load_unlocked j q r load))
      (λ q outside link. sym (gives.steady_lock p q w lock) ∙ link)
      (λ sound'. over.keeps.lock s p w lock lawful.sound lawful.kept sound')

  one_slot : (first t u i j p : ℕ) → i < 5 → j < 5 → p ≡ first + 5 * t + i → p ≡ first + 5 * u + j → t ≡ u
  one_slot first t u i j p low low' e e' = omega arith

  no_slot : (first t i p : ℕ) → p < first → p ≡ first + 5 * t + i → ⊥
  no_slot first t i p low e = omega arith

  -- a safe slot isn't free
  safe_used : (t : ℕ) → IsSafe s t → s.status t ≡ Free → ⊥
  safe_used t safe free = ⊎_elim (λ live. live_free (s.status t) live free) (λ retired. free_retired (s.status t) retired.0 free retired.1) safe
    where
      free_retired : (x : Status) (y : ℕ) → x ≡ Free → x ≡ Retired y → ⊥
      free_retired x y e e' = cc

  -- a cell of a slot in a hand gets a later version
  pub hand_lawful : (t i w : ℕ) → s.status t ≡ Free → i < 5 → version_of (s.cells (cell_of m t i)) < version_of w → IsLawful m layout (with_cell s (cell_of m t i) w)
  hand_lawful t i w free low rises = cell_lawful (cell_of m t i) w rises
      (λ d x here j q r load e. ⊎_elim (λ fixed. no_slot m.fixed_cells t i q fixed e)
      (⊎_elim (λ lock. true_false (m.is_lock q) lock ((lawful.shaped d x here).load_unlocked j q r load)) (λ slot. apart_slot q e slot))
      (known_outside m layout s lawful.sound gives x.readings (inr (d, x, here, refl)) (lawful.sound.published d x here) q ((lawful.shaped d x here).load_known j q r load)))
      (λ q outside link. ⊎_elim (λ fixed. steady q link (λ cell. no_slot m.fixed_cells t cell.0 q fixed cell.2))
      (⊎_elim (λ lock. absurd (true_false (m.is_link (upd s.cells (cell_of m t i) w) q) link (laws.unlinked_lock (upd s.cells (cell_of m t i) w) q lock)))
      (λ slot. steady q link (λ cell. safe_used slot.0 slot.2 (ap s.status (one_slot m.fixed_cells slot.0 t slot.1.0 cell.0 q slot.1.1 cell.1 slot.1.2 cell.2) ∙ free)))) outside)
      (λ sound'. over.keeps.hand s t i w free low lawful.sound lawful.kept sound')
    where
      steady : (q : ℕ) → m.is_link (upd s.cells (cell_of m t i) w) q ≡ true → (IsCellOf m t q → ⊥) → m.is_link s.cells q ≡ true
      steady q link other = sym (gives.steady_hand t i q w free low other) ∙ link

      apart_slot : (q : ℕ) → q ≡ cell_of m t i → (u : ℕ) × IsCellOf m u q × IsSafe s u → ⊥
      apart_slot q e slot = safe_used slot.0 slot.2 (ap s.status (one_slot m.fixed_cells slot.0 t slot.1.0 i q slot.1.1 low slot.1.2 e) ∙ free)

  -- a scene in which only statuses and the epoch change
  slots_lawful : (status : ℕ → Status) (epoch : ℕ) → ((t : ℕ) → t < m.fixed_slots → status t ≡ Live) → ((t : ℕ) → status t ≢ Free → t < slots m layout) → ((t y : ℕ) → status t ≡ Retired y → y ≤ epoch)
      → ((readings : Readings) → IsReader s readings → IsRead m s readings → IsRead m (record s { status = status; epoch = epoch }) readings)
      → (Sound m layout (record s { status = status; epoch = epoch }) → m.kept layout (record s { status = status; epoch = epoch })) → IsLawful m layout (record s { status = status; epoch = epoch })
  slots_lawful status epoch fixed within retired again kept = record { sound = sound; kept = kept sound; shaped = lawful.shaped }
    where
      sound : Sound m layout (record s { status = status; epoch = epoch })
      sound = record {
        fixed = fixed;
        within = within;
        retired = retired;
        readers = λ r readings h. again readings (inl (r, h)) (lawful.sound.readers r readings h);
        published = λ d x here. again x.readings (inr (d, x, here, refl)) (lawful.sound.published d x here);
        fits = lawful.sound.fits;
        allowed = lawful.sound.allowed;
        apart = lawful.sound.apart;
        loaded = lawful.sound.loaded;
        stored = lawful.sound.stored;
        wanted = lawful.sound.wanted;
      }

  -- a slot leaves limbo two epochs after it was retired
  pub collect_lawful : (t y : ℕ) → s.status t ≡ Retired y → y + 2 ≤ s.epoch → IsLawful m layout (with_status s t Free)
  collect_lawful t y retired old = slots_lawful (upd s.status t Free) s.epoch
      (λ u low. other u (λ e. live_retired (s.status u) y (lawful.sound.fixed u low) (ap s.status e ∙ retired)) ∙ lawful.sound.fixed u low)
      (λ u used. dite (ℕ_discrete u t) (λ e. absurd (used (upd_same s.status t u Free e))) (λ ne. lawful.sound.within u (λ free. used (other u ne ∙ free))))
      (λ u z h. dite (ℕ_discrete u t) (λ e. absurd (free_retired z (sym (upd_same s.status t u Free e) ∙ h))) (λ ne. lawful.sound.retired u z (sym (other u ne) ∙ h)))
      (λ readings reader read. read_on m s (with_status s t Free) readings read (λ p w seen. seen) (λ p outside link. link)
      (λ u safe. ⊎_elim (λ live. inl (other u (λ e. live_retired (s.status u) y live (ap s.status e ∙ retired)) ∙ live))
      (λ late. inr (late.0, other u (λ e. let same = retired_in (sym retired ∙ ap s.status (sym e) ∙ late.1) in let recent = late.2 in omega arith) ∙ late.1, late.2)) safe))
      (λ sound'. over.keeps.collect s t y retired old lawful.sound lawful.kept sound')
    where
      other : (u : ℕ) → u ≢ t → upd s.status t Free u ≡ s.status u
      other u ne = upd_other s.status t u Free ne

      live_retired : (x : Status) (y : ℕ) → x ≡ Live → x ≡ Retired y → ⊥
      live_retired x y e e' = cc

      free_retired : (y : ℕ) → Free ≡ Retired y → ⊥
      free_retired y e = cc

      retired_in : {z w : ℕ} → Retired z ≡ Retired w → z ≡ w
      retired_in e = cc

  -- the epoch rises, where what is read is recent
  pub advance_lawful : ((readings : Readings) → IsReader s readings → IsRecent m s readings) → IsLawful m layout (record s { epoch = suc s.epoch })
  advance_lawful recent = slots_lawful s.status (suc s.epoch) lawful.sound.fixed lawful.sound.within (λ t y h. let past = lawful.sound.retired t y h in omega arith)
      again (λ sound'. over.keeps.advance s lawful.sound lawful.kept sound')
    where
      still : (t : ℕ) → IsSafe s t → ((y : ℕ) → s.status t ≡ Retired y → s.epoch ≤ y) → IsSafe (record s { epoch = suc s.epoch }) t
      still t safe late = ⊎_elim inl (λ retired. inr (retired.0, retired.1, (let order = late retired.0 retired.1 in omega arith))) safe

      locked : (b : Bool) → (b ≡ true) ⊎ (b ≡ false)
      locked true = inl refl
      locked false = inr refl

      again : (readings : Readings) → IsReader s readings → IsRead m s readings → IsRead m (record s { epoch = suc s.epoch }) readings
      again readings reader read = record {
        seen = read.seen;
        rising = read.rising;
        outside = λ i p w h. ⊎_elim inl (⊎_elim (λ lock. inr (inl lock))
            (λ slot. ⊎_elim (λ lock. inr (inl lock)) (λ no_lock. inr (inr (slot.0, slot.1, still slot.0 slot.2 (λ y. (recent readings reader).places i p w slot.0 y h no_lock slot.1)))) (locked (m.is_lock p)))) (read.outside i p w h);
        safe = λ i p w t h link leads. still t (read.safe i p w t h link leads) (λ y. (recent readings reader).targets i p w t y h link leads);
      }

-- the first scene is lawful
pub first_lawful : (m : Meaning) → Laws m → (layout : Layout) → IsWithinLimits layout → (s : Scene) → IsFirst m s → IsLawful m layout s
first_lawful m laws layout limits s first = record {
  sound = record {
    fixed = λ t low. first.status t ∙ first_live t m.fixed_slots low;
    within = λ t used. below t m.fixed_slots (slots m layout) (λ none. used (first.status t ∙ none)) (omega arith);
    retired = λ t y h. absurd (first_unretired t m.fixed_slots y (sym (first.status t) ∙ h));
    readers = λ r readings h. absurd (no_reader readings (sym (first.reader r) ∙ h));
    published = λ d x here. absurd (no_section x (sym (first.section d) ∙ here));
    fits = λ d x here. absurd (no_section x (sym (first.section d) ∙ here));
    allowed = λ d x here. absurd (no_section x (sym (first.section d) ∙ here));
    apart = λ d e x y here. absurd (no_section x (sym (first.section d) ∙ here));
    loaded = λ d x here. absurd (no_section x (sym (first.section d) ∙ here));
    stored = λ d x here. absurd (no_section x (sym (first.section d) ∙ here));
    wanted = λ d x here. absurd (no_section x (sym (first.section d) ∙ here));
  };
  kept = (laws.over layout limits).begins s first;
  shaped = λ d x here. absurd (no_section x (sym (first.section d) ∙ here));
}
  where
    first_live : (t n : ℕ) → t < n → cond (nat_lt t n) Live Free ≡ Live
    first_live t n low = grind arith

    below : (t n k : ℕ) → (cond (nat_lt t n) Live Free ≡ Free → ⊥) → n ≤ k → t < k
    below t n k used le = ⊎_elim (λ lt. omega arith) (λ past. absurd (used (free_past t n past))) (split t n)
      where
        split : (t n : ℕ) → (t < n) ⊎ (n ≤ t)
        split t n = search arith

        free_past : (t n : ℕ) → n ≤ t → cond (nat_lt t n) Live Free ≡ Free
        free_past t n le = grind arith

    first_unretired : (t n y : ℕ) → cond (nat_lt t n) Live Free ≡ Retired y → ⊥
    first_unretired t n y h = grind arith

    no_reader : (readings : Readings) → None ≡ Some readings → ⊥
    no_reader readings h = cc

    no_section : (x : Section) → None ≡ Some x → ⊥
    no_section x h = cc

-- every move leads from a lawful scene to a lawful scene
pub moves : (m : Meaning) → Laws m → (layout : Layout) → IsWithinLimits layout → Moves m layout
moves m laws layout limits = record {
  first = first_lawful m laws layout limits;
  enters = λ s r lawful. enters_lawful m laws layout limits s lawful r;
  reads = λ s r p readings reader loadable lawful. reads_lawful m laws layout limits s lawful r p readings reader loadable;
  leaves = λ s r lawful. leaves_lawful m laws layout limits s lawful r;
  holds = λ s r d readings op thunk reader publishes none lawful. holds_lawful m laws layout limits s lawful r d readings op thunk reader publishes none;
  load = λ s d p r x here h lawful. load_lawful m laws layout limits s lawful d p r x here h;
  want = λ s d r w x here h equal lawful. want_lawful m laws layout limits s lawful d r w x here h equal;
  fresh = λ s d r x here h newer lawful. fresh_lawful m laws layout limits s lawful d r x here h newer;
  take = λ s d l w x here h unheld lawful. take_lawful m laws layout limits s lawful d l w x here h unheld;
  make = λ s d t r x init here h prepared lawful. make_lawful m laws layout limits s lawful d t r x init here h prepared;
  stamp = λ s d x here h lawful. stamp_lawful m laws layout limits s lawful d x here h;
  store = λ s d j p r x v here h earlier load found lawful. store_lawful m laws layout limits s lawful d j p r x v here h earlier load found;
  retire = λ s d t y x here h past recent links lawful. retire_lawful m laws layout limits s lawful d t y x here h past recent links;
  answer = λ s d n x here h lawful. answer_lawful m laws layout limits s lawful d n x here h;
  done = λ s d x here ended lawful. done_lawful m laws layout limits s lawful d x here ended;
  lock = λ s p w lock rises lawful. lock_lawful m laws layout limits s lawful p w lock rises;
  hand = λ s t i w free low rises lawful. hand_lawful m laws layout limits s lawful t i w free low rises;
  collect = λ s t y retired old lawful. collect_lawful m laws layout limits s lawful t y retired old;
  advance = λ s recent lawful. advance_lawful m laws layout limits s lawful recent;
}
