-- What the core supplies of the open sections, over each change of one of them.
use Rattle.std.proofs.Common.{◌≡◌, ◌≢◌, ℕ, suc, ◌<◌, ◌≤◌, true, refl, sym, ap, ◌∙◌, subst, ⊎_elim, arith}
use Rattle.std.specs.Prelude.{◌⊎◌, Option, Some, None, [], ◌∷◌}
use Rattle.map_history.specs.declared.op.Op.{Op}
use Rattle.body_terms.specs.Update.{upd}
use Rattle.body_terms.specs.Word.{next_word}
use Rattle.body_terms.specs.declared.value.Value.{Value}
use Rattle.body_terms.specs.declared.step.Step.{Step}
use Rattle.body_terms.specs.declared.step.Step.TheVariants.{Load, Want, Store}
use Rattle.body_terms.specs.declared.thunk.Thunk.{Thunk}
use Rattle.body_terms.specs.Shape.{phase, set_registers}
use Rattle.body_terms.specs.block_words.specs.table_words.specs.declared.layout.Layout.{Layout}
use Rattle.structure_laws.specs.Scene.{Cells, Readings, Section, Scene, opened}
use Rattle.structure_laws.specs.Meaning.{Meaning}
use Rattle.structure_laws.specs.Sections.{IsAllowed, IsStep, Holds, value_in}
use Rattle.structure_laws.specs.Sound.{Sound}
use Rattle.structure_laws.specs.Shape.{Shaped}
use Rattle.structure_laws.proofs.Changes.{upd_same, upd_other, upd_some, upd_none}
use Rattle.structure_laws.proofs.Bodies.{apart_steps, same_step, no_store_before, loaded_before, load_before, one_load, fresh_register}

-- the section after its next step, with these registers
abbrev pub stepped : Section → (ℕ → ℕ) → Section
stepped x reg = record x { at = suc x.at; reg = reg }

module _ (m : Meaning) where
  -- what the words of the cells say of one section
  pub record Agrees (cells : Cells) (x : Section) : Type 0 where
    pub loaded : (j p r : ℕ) → j < x.at → IsStep m x j (Load p r) → ((i : ℕ) (v : Value) → IsStep m x i (Store r v) → x.at ≤ i) → cells p ≡ x.reg r
    pub stored : (i j p r : ℕ) (v : Value) → i < x.at → IsStep m x i (Store r v) → IsStep m x j (Load p r) → cells p ≡ next_word (x.reg r) (value_in x.reg v)
    pub wanted : (j r w : ℕ) → j < x.at → IsStep m x j (Want r w) → x.reg r ≡ w

  -- what the core supplies of the open sections
  pub record OpenSound (layout : Layout) (cells : Cells) (section : ℕ → Option Section) : Type 0 where
    pub fits : (d : ℕ) (x : Section) → section d ≡ Some x → m.fits layout x.op x.readings x.thunk ≡ true
    pub allowed : (d : ℕ) (x : Section) → section d ≡ Some x → IsAllowed x.op
    pub apart : (d e : ℕ) (x y : Section) → section d ≡ Some x → section e ≡ Some y → d ≢ e → (l : ℕ) → Holds m x l → Holds m y l → ⊥
    pub agrees : (d : ℕ) (x : Section) → section d ≡ Some x → Agrees cells x

  pub open_sound : (layout : Layout) (s : Scene) → Sound m layout s → OpenSound layout s.cells s.section
  open_sound layout s sound = record {
    fits = sound.fits;
    allowed = sound.allowed;
    apart = sound.apart;
    agrees = λ d x here. record { loaded = sound.loaded d x here; stored = sound.stored d x here; wanted = sound.wanted d x here };
  }

  -- the loaded cells stay as they are
  pub cells_kept : (layout : Layout) (cells cells' : Cells) (section : ℕ → Option Section) → OpenSound layout cells section
      → ((d : ℕ) (x : Section) → section d ≡ Some x → (j p r : ℕ) → IsStep m x j (Load p r) → cells' p ≡ cells p) → OpenSound layout cells' section
  cells_kept layout cells cells' section before same = record {
    fits = before.fits;
    allowed = before.allowed;
    apart = before.apart;
    agrees = λ d x here. record {
      loaded = λ j p r lt load none. same d x here j p r load ∙ (before.agrees d x here).loaded j p r lt load none;
      stored = λ i j p r v lt store load. same d x here j p r load ∙ (before.agrees d x here).stored i j p r v lt store load;
      wanted = (before.agrees d x here).wanted;
    };
  }

  -- a section is done
  pub section_done : (layout : Layout) (cells : Cells) (section : ℕ → Option Section) (d : ℕ) → OpenSound layout cells section → OpenSound layout cells (upd section d None)
  section_done layout cells section d before = record {
    fits = λ e y h. before.fits e y (upd_none section d e y h).1;
    allowed = λ e y h. before.allowed e y (upd_none section d e y h).1;
    apart = λ e c y z h h' ne. before.apart e c y z (upd_none section d e y h).1 (upd_none section d c z h').1 ne;
    agrees = λ e y h. before.agrees e y (upd_none section d e y h).1;
  }

  -- a section takes the place of another, or of none: it fits, holds no other section's lock, and agrees with the cells as they
  -- are then, as the others do
  pub section_put : (layout : Layout) (cells cells' : Cells) (section : ℕ → Option Section) (d : ℕ) (y : Section) → OpenSound layout cells section
      → m.fits layout y.op y.readings y.thunk ≡ true → IsAllowed y.op → ((e : ℕ) (z : Section) → e ≢ d → section e ≡ Some z → (l : ℕ) → Holds m y l → Holds m z l → ⊥)
      → Agrees cells' y → ((e : ℕ) (z : Section) → e ≢ d → section e ≡ Some z → Agrees cells' z) → OpenSound layout cells' (upd section d (Some y))
  section_put layout cells cells' section d y before fits allowed apart agrees others = record {
    fits = λ e z h. ⊎_elim (λ same. subst (λ z. m.fits layout z.op z.readings z.thunk ≡ true) same.1 fits) (λ other. before.fits e z other.1) (upd_some section d e y z h);
    allowed = λ e z h. ⊎_elim (λ same. subst (λ z. IsAllowed z.op) same.1 allowed) (λ other. before.allowed e z other.1) (upd_some section d e y z h);
    apart = λ e c z u h h' ne l holds holds'. ⊎_elim
        (λ same. ⊎_elim (λ same'. ne (same.0 ∙ sym same'.0)) (λ other. apart c u other.0 other.1 l (subst (λ z. Holds m z l) (sym same.1) holds) holds') (upd_some section d c y u h'))
        (λ other. ⊎_elim (λ same. apart e z other.0 other.1 l (subst (λ u. Holds m u l) (sym same.1) holds') holds) (λ other'. before.apart e c z u other.1 other'.1 ne l holds holds') (upd_some section d c y u h'))
        (upd_some section d e y z h);
    agrees = λ e z h. ⊎_elim (λ same. subst (Agrees cells') same.1 agrees) (λ other. others e z other.0 other.1) (upd_some section d e y z h);
  }

  -- a section as it is published agrees with any cells
  pub opened_agrees : (cells : Cells) (op : Op) (thunk : Thunk) (readings : Readings) → Agrees cells (opened op thunk readings)
  opened_agrees cells op thunk readings = record { loaded = λ j p r lt. absurd (omega arith); stored = λ i j p r v lt. absurd (omega arith); wanted = λ j r w lt. absurd (omega arith) }

  -- the sections whose loaded cells stay as they are
  pub others_agree : (layout : Layout) (cells cells' : Cells) (z : Section) → Shaped m layout z.readings z.thunk → Agrees cells z
      → ((j p r : ℕ) → j ≤ z.at → IsStep m z j (Load p r) → cells' p ≡ cells p) → Agrees cells' z
  others_agree layout cells cells' z shaped before same = record {
    loaded = λ j p r lt load none. same j p r (omega arith) load ∙ before.loaded j p r lt load none;
    stored = λ i j p r v lt store load. same j p r (let earlier = load_before (m.body z.thunk) shaped.shape i j p r v store load in omega arith) load ∙ before.stored i j p r v lt store load;
    wanted = before.wanted;
  }

  below : (j n : ℕ) → j < suc n → j ≢ n → j < n
  below j n lt ne = omega arith

  -- a step that sets no register and changes no cell
  pub passed_agrees : (cells : Cells) (x : Section) (b : Step) → Agrees cells x → IsStep m x x.at b → ((p r : ℕ) → b ≢ Load p r) → ((r : ℕ) (v : Value) → b ≢ Store r v)
      → ((r w : ℕ) → b ≡ Want r w → x.reg r ≡ w) → Agrees cells (stepped x x.reg)
  passed_agrees cells x b before h no_load no_store want =
      let body = m.body x.thunk in
      record {
        loaded = λ j p r lt load none. before.loaded j p r (below j x.at lt (apart_steps body j x.at (Load p r) b load h (λ e. no_load p r (sym e)))) load (λ i v store. let later = none i v store in omega arith);
        stored = λ i j p r v lt store load. before.stored i j p r v (below i x.at lt (apart_steps body i x.at (Store r v) b store h (λ e. no_store r v (sym e)))) store load;
        wanted = λ j r w lt h'. ⊎_elim (λ e. want r w (same_step body x.at j b (Want r w) h h' (sym e))) (λ lt'. before.wanted j r w lt' h') (split j x.at lt);
      }
    where
      split : (j n : ℕ) → j < suc n → (j ≡ n) ⊎ (j < n)
      split j n lt = search arith

  -- a Load or a Make, which sets a register that no earlier step has set
  pub set_agrees : (layout : Layout) (cells : Cells) (x : Section) (b : Step) (r n : ℕ) → Shaped m layout x.readings x.thunk → Agrees cells x → IsStep m x x.at b
      → set_registers b ≡ r ∷ [] → phase b ≤ 3 → ((q : ℕ) (v : Value) → b ≢ Store q v) → ((q w : ℕ) → b ≢ Want q w) → ((p q : ℕ) → b ≡ Load p q → (q ≡ r) × (cells p ≡ n))
      → Agrees cells (stepped x (upd x.reg r n))
  set_agrees layout cells x b r n shaped before h sets low no_store no_want loads =
      let body = m.body x.thunk in
      let other : (j p q : ℕ) → j < x.at → IsStep m x j (Load p q) → upd x.reg r n q ≡ x.reg q = λ j p q lt load. upd_other x.reg r q n (fresh_register body shaped.shape j x.at p q r b load h lt sets) in
      record {
        loaded = λ j p q lt load none. ⊎_elim
            (λ e. let loaded = loads p q (same_step body x.at j b (Load p q) h load (sym e)) in loaded.1 ∙ sym (upd_same x.reg r q n loaded.0))
            (λ lt'. before.loaded j p q lt' load (λ i v store. let later = none i v store in omega arith) ∙ sym (other j p q lt' load)) (split j x.at lt);
        stored = λ i j p q v lt store load. absurd (no_store_before body shaped.shape i x.at q v b store h low (below i x.at lt (apart_steps body i x.at (Store q v) b store h (λ e. no_store q v (sym e)))));
        wanted = λ j q w lt h'.
            let lt' = below j x.at lt (apart_steps body j x.at (Want q w) b h' h (λ e. no_want q w (sym e))) in
            let by = loaded_before body shaped.shape j q (Want q w) [] h' refl in
            other by.by by.place q (let earlier = by.earlier in omega arith) by.loads ∙ before.wanted j q w lt' h';
      }
    where
      split : (j n : ℕ) → j < suc n → (j ≡ n) ⊎ (j < n)
      split j n lt = search arith

  -- a Store
  pub store_agrees : (layout : Layout) (cells : Cells) (x : Section) (j p r : ℕ) (v : Value) → Shaped m layout x.readings x.thunk → Agrees cells x
      → IsStep m x x.at (Store r v) → IsStep m x j (Load p r) → Agrees (upd cells p (next_word (x.reg r) (value_in x.reg v))) (stepped x x.reg)
  store_agrees layout cells x j p r v shaped before store load =
      let body = m.body x.thunk in
      let word = next_word (x.reg r) (value_in x.reg v) in
      record {
        loaded = λ i q u lt h none.
            let lt' = below i x.at lt (apart_steps body i x.at (Load q u) (Store r v) h store (λ e. cc)) in
            let ne : q ≢ p = λ e. let once = shaped.load_once i j p u r (subst (λ q. IsStep m x i (Load q u)) e h) load in
            let same = register_of q u p r (same_step body i j (Load q u) (Load p r) h load once) in
            let past = none x.at v (subst (λ u. IsStep m x x.at (Store u v)) (sym same) store) in omega arith in
            upd_other cells p q word ne ∙ before.loaded i q u lt' h (λ n w h'. let later = none n w h' in omega arith);
        stored = λ i k q u w lt h h'. ⊎_elim
            (λ e. let same = same_step body x.at i (Store r v) (Store u w) store h (sym e) in
            let to = store_register r v u w same in
            let at = place_of q u p r (same_step body k j (Load q u) (Load p r) h' load (one_load body shaped.shape k j q p r (subst (λ u. IsStep m x k (Load q u)) (sym to) h') load)) in
            upd_same cells p q word at ∙ ap (λ step. stored_word x step) same)
            (λ lt'. let ne : q ≢ p = λ e. let once = shaped.load_once k j p u r (subst (λ q. IsStep m x k (Load q u)) e h') load in
            let same = register_of q u p r (same_step body k j (Load q u) (Load p r) h' load once) in
            let again = shaped.store_once i x.at r w v (subst (λ u. IsStep m x i (Store u w)) same h) store in omega arith in
            upd_other cells p q word ne ∙ before.stored i k q u w lt' h h')
            (split i x.at lt);
        wanted = λ i q w lt h. before.wanted i q w (below i x.at lt (apart_steps body i x.at (Want q w) (Store r v) h store (λ e. cc))) h;
      }
    where
      split : (j n : ℕ) → j < suc n → (j ≡ n) ⊎ (j < n)
      split j n lt = search arith

      register_of : (q u p r : ℕ) → Load q u ≡ Load p r → u ≡ r
      register_of q u p r e = cc

      place_of : (q u p r : ℕ) → Load q u ≡ Load p r → q ≡ p
      place_of q u p r e = cc

      store_register : (r : ℕ) (v : Value) (u : ℕ) (w : Value) → Store r v ≡ Store u w → r ≡ u
      store_register r v u w e = cc

      stored_word : Section → Step → ℕ
      stored_word x (Store r v) = next_word (x.reg r) (value_in x.reg v)
      stored_word x _ = 0
