-- The test structure keeps what it keeps, by every move.
use Rattle.std.proofs.Common.{◌≡◌, ◌≢◌, ℕ, suc, ◌+◌, ◌*◌, ◌≤◌, refl, sym, ap, ◌∙◌, subst, inl, inr, ⊎_elim, arith}
use Rattle.std.specs.Prelude.{◌-◌, ◌⊎◌, Some, None, slice_get}
use mathlib.Core.Logic.{dite}
use native.Mathlib.Decide.{ℕ_discrete}
use Rattle.body_terms.specs.block_words.specs.table_words.specs.small_lemmas.proofs.Numbers.{zero_not_suc as zero_suc}
use Rattle.body_terms.specs.Update.{upd}
use Rattle.body_terms.specs.Word.{value_of, next_word}
use Rattle.body_terms.specs.declared.value.Value.{Value}
use Rattle.body_terms.specs.declared.value.Value.TheVariants.{Const, Made}
use Rattle.body_terms.specs.declared.value.Init.{Init}
use Rattle.body_terms.specs.declared.step.Step.{Step}
use Rattle.body_terms.specs.declared.step.Step.TheVariants.{Load, Want, Fresh, Make, Stamp, Store, Retire, Answer}
use Rattle.body_terms.specs.block_words.specs.table_words.specs.declared.layout.Layout.{Layout}
use Rattle.body_terms.specs.block_words.specs.table_words.specs.Limits.{IsWithinLimits}
use Rattle.structure_laws.specs.Scene.{Section, Status, Free, Live, Retired, Scene, with_cell, with_section, with_status, passed, passed_with, opened, passes, sets}
use Rattle.structure_laws.proofs.Limits.{links_small, value-small}
use Rattle.structure_laws.specs.Sections.{Here, IsStep, value_in}
use Rattle.structure_laws.specs.Sound.{Sound}
use Rattle.structure_laws.specs.Keeps.{Keeps}
use Rattle.structure_laws.specs.Tray.{Form, Number, Link, Unlink, form_of, operand_of, body_of, TrayKept, tray, zeros}
use Rattle.structure_laws.proofs.Changes.{upd_same, upd_other, upd_some, upd_none, value-next_word, equal_of}
use Rattle.structure_laws.proofs.Steps.{no_take, load_step, store_step, make_step, retire_step}
use Rattle.structure_laws.proofs.TrayGives.{step_at, one_section, unlink_live}

-- what the structure keeps of a section's new node, and of the node that a section takes out
abbrev KeepsMade : Scene → Section → Type 0
KeepsMade s x = form_of x.thunk ≡ Link → 4 ≤ x.at → x.at ≤ 5 → (t : ℕ) × (x.reg 1 ≡ suc t) × (s.status t ≡ Live)

abbrev KeepsUnlinked : Scene → Section → Type 0
KeepsUnlinked s x = form_of x.thunk ≡ Unlink → x.at ≡ 5 → (s.status (value_of (operand_of x.thunk) - 1) ≡ Live) × (value_of (s.cells 2) ≡ 0)

abbrev KeepsLinked : Scene → Type 0
KeepsLinked s = (t : ℕ) → value_of (s.cells 2) ≡ suc t → s.status t ≡ Live

-- a scene in which the open section has gone on
moved : (layout : Layout) (s s' : Scene) (d : ℕ) (x y : Section) → Sound tray layout s → Here s d x → s'.section ≡ upd s.section d (Some y)
    → KeepsLinked s' → KeepsMade s' y → KeepsUnlinked s' y → TrayKept s'
moved layout s s' d x y sound here sections linked made unlinked =
    let only : (e : ℕ) (z : Section) → s'.section e ≡ Some z → y ≡ z = λ e z h. ⊎_elim (λ same. same.1) (λ other. absurd (other.0 (one_section layout s sound e d z x other.1 here)))
    (upd_some s.section d e y z (sym (ap (λ f. f e) sections) ∙ h)) in
    record {
      linked = linked;
      made = λ e z h. subst (KeepsMade s') (only e z h) made;
      unlinked = λ e z h. subst (KeepsUnlinked s') (only e z h) unlinked;
    }

link_before : (word n : ℕ) (step : Step) → slice_get (body_of Link word) n ≡ Some step → 3 ≤ n → n ≤ 4 → ((n ≡ 3) × (step ≡ Make zeros 1)) ⊎ ((n ≡ 4) × (step ≡ Stamp))
link_before word n step h low high = dite (ℕ_discrete n 3) (λ e. inl (e, grind arith)) (λ ne. let four : n ≡ 4 = omega arith in inr (four, grind arith))

unlink_before : (word : ℕ) (step : Step) → slice_get (body_of Unlink word) 4 ≡ Some step → step ≡ Store 0 (Const 0)
unlink_before word step h = grind arith

-- a step that changes nothing but how far the section has come
quiet : (layout : Layout) (s : Scene) (d : ℕ) (x : Section) (step : Step) → Sound tray layout s → TrayKept s → Here s d x → IsStep tray x x.at step
    → step ≢ Make zeros 1 → step ≢ Store 0 (Const 0) → TrayKept (passes s d x)
quiet layout s d x step sound kept here h no_make no_store = moved layout s (passes s d x) d x (passed x) sound here refl kept.linked
    (λ form low high. ⊎_elim (λ made. absurd (no_make made.1)) (λ stamp. kept.made d x here form (let four = stamp.0 in omega arith) (let four = stamp.0 in omega arith))
    (link_before (operand_of x.thunk) x.at step (sym (step_at x Link x.at form) ∙ h) (omega arith) (omega arith)))
    (λ form five. let four : x.at ≡ 4 = omega arith in
    absurd (no_store (unlink_before (operand_of x.thunk) step (sym (ap (slice_get (body_of Unlink (operand_of x.thunk))) four) ∙ sym (step_at x Unlink x.at form) ∙ h))))

link_unlink : (f : Form) → f ≡ Link → f ≡ Unlink → ⊥
link_unlink f a b = cc

number_link : (f : Form) → f ≡ Number → f ≡ Link → ⊥
number_link f a b = cc

number_unlink : (f : Form) → f ≡ Number → f ≡ Unlink → ⊥
number_unlink f a b = cc

live_retired : (x : Status) (y : ℕ) → x ≡ Live → x ≡ Retired y → ⊥
live_retired x y a b = cc

-- a live slot stays live where another one changes, and where it becomes live itself
still_live : (status : ℕ → Status) (t u : ℕ) (v : Status) → (u ≡ t → v ≡ Live) → status u ≡ Live → upd status t v u ≡ Live
still_live status t u v same live = dite (ℕ_discrete u t) (λ e. upd_same status t u v e ∙ same e) (λ ne. upd_other status t u v ne ∙ live)

-- no cell that holds the link changes
link_kept : (s : Scene) (p w : ℕ) → TrayKept s → 2 ≢ p → TrayKept (with_cell s p w)
link_kept s p w kept other =
    let same : upd s.cells p w 2 ≡ s.cells 2 = upd_other s.cells p 2 w other in
    record {
      linked = λ t h. kept.linked t (ap value_of (sym same) ∙ h);
      made = kept.made;
      unlinked = λ d x here form five. let before = kept.unlinked d x here form five in (before.0, ap value_of same ∙ before.1);
    }

module _ (layout : Layout) (limits : IsWithinLimits layout) (s : Scene) (sound : Sound tray layout s) (kept : TrayKept s) (d : ℕ) (x : Section) (here : Here s d x) where
  -- the scene after a Store
  abbrev after : ℕ → ℕ → Value → Scene
  after p r v = with_cell (passes s d x) p (next_word (x.reg r) (value_in x.reg v))

  -- a Store of a number leaves the link
  number_stored : (p r : ℕ) (v : Value) → form_of x.thunk ≡ Number → p ≡ 1 → TrayKept (after p r v)
  number_stored p r v form one =
      let same : (after p r v).cells 2 ≡ s.cells 2 = upd_other s.cells p 2 (next_word (x.reg r) (value_in x.reg v)) (λ e. omega arith) in
      moved layout s (after p r v) d x (passed x) sound here refl (λ t h. kept.linked t (ap value_of (sym same) ∙ h))
      (λ linking. absurd (number_link (form_of x.thunk) form linking)) (λ unlinking. absurd (number_unlink (form_of x.thunk) form unlinking))

  -- a Store of a link leads to the new node
  link_stored : (p r : ℕ) (v : Value) → form_of x.thunk ≡ Link → p ≡ 2 → x.at ≡ 5 → v ≡ Made 1 → TrayKept (after p r v)
  link_stored p r v form two five made =
      let node = kept.made d x here form (omega arith) (omega arith) in
      let small = links_small layout 0 node.0 limits (omega arith) (sound.within node.0 (λ free. live_free (s.status node.0) node.2 free)) in
      let stored : value_in x.reg v ≡ suc node.0 = ap (value_in x.reg) made ∙ ap value_of node.1 ∙ value-small (suc node.0) small in
      let now : value_of ((after p r v).cells 2) ≡ suc node.0 =
      ap value_of (upd_same s.cells p 2 (next_word (x.reg r) (value_in x.reg v)) (sym two)) ∙ value-next_word (x.reg r) (value_in x.reg v) (omega arith) ∙ stored in
      moved layout s (after p r v) d x (passed x) sound here refl
      (λ t h. subst (λ t. s.status t ≡ Live) (let same = sym now ∙ h in omega arith) node.2)
      (λ linking low high. absurd (omega arith)) (λ unlinking. absurd (link_unlink (form_of x.thunk) form unlinking))
    where
      live_free : (x : Status) → x ≡ Live → x ≡ Free → ⊥
      live_free x a b = cc

  -- a Store of 0 leaves no link
  unlink_stored : (p r : ℕ) (v : Value) → form_of x.thunk ≡ Unlink → p ≡ 2 → x.at ≡ 4 → v ≡ Const 0 → TrayKept (after p r v)
  unlink_stored p r v form two four nothing =
      let live = unlink_live layout s sound kept d x here form (omega arith) (omega arith) in
      let stored : value_in x.reg v ≡ 0 = ap (value_in x.reg) nothing in
      let now : value_of ((after p r v).cells 2) ≡ 0 =
      ap value_of (upd_same s.cells p 2 (next_word (x.reg r) (value_in x.reg v)) (sym two)) ∙ value-next_word (x.reg r) (value_in x.reg v) (omega arith) ∙ stored in
      moved layout s (after p r v) d x (passed x) sound here refl (λ t h. absurd (zero_suc t (sym now ∙ h)))
      (λ linking. absurd (link_unlink (form_of x.thunk) linking form)) (λ unlinking five. (live, now))

  store_kept : (j p r : ℕ) (v : Value) → IsStep tray x x.at (Store r v) → IsStep tray x j (Load p r) → TrayKept (after p r v)
  store_kept j p r v store load =
      let step = store_step (form_of x.thunk) (operand_of x.thunk) x.at r v store in
      let loaded = (load_step (form_of x.thunk) (operand_of x.thunk) j p r load).2 in
      ⊎_elim (λ number. number_stored p r v number.0 (one_of number.0 loaded))
      (⊎_elim (λ linking. link_stored p r v linking.0 (two_of (inl linking.0) loaded) linking.1 linking.2)
      (λ unlinking. unlink_stored p r v unlinking.0 (two_of (inr unlinking.0) loaded) unlinking.1 unlinking.2)) step.1
    where
      one_of : {f : Form} {p : ℕ} → f ≡ Number → ((f ≡ Number) × (p ≡ 1)) ⊎ ((f ≡ Link) × (p ≡ 2)) ⊎ ((f ≡ Unlink) × (p ≡ 2)) → p ≡ 1
      one_of {f = f} form loaded = ⊎_elim (λ one. one.1) (⊎_elim (λ two. absurd (number_link f form two.0)) (λ two. absurd (number_unlink f form two.0))) loaded

      two_of : {f : Form} {p : ℕ} → (f ≡ Link) ⊎ (f ≡ Unlink) → ((f ≡ Number) × (p ≡ 1)) ⊎ ((f ≡ Link) × (p ≡ 2)) ⊎ ((f ≡ Unlink) × (p ≡ 2)) → p ≡ 2
      two_of {f = f} form loaded = ⊎_elim (λ one. absurd (⊎_elim (number_link f one.0) (number_unlink f one.0) form)) (⊎_elim (λ two. two.1) (λ two. two.1)) loaded

  -- a Make gives the section its node
  make_kept : (t r : ℕ) (init : Init) → IsStep tray x x.at (Make init r) → TrayKept (with_status (sets s d x r (suc t)) t Live)
  make_kept t r init h =
      let step = make_step (form_of x.thunk) (operand_of x.thunk) x.at r init h in
      moved layout s (with_status (sets s d x r (suc t)) t Live) d x (passed_with x r (suc t)) sound here refl
      (λ u linked. still_live s.status t u Live (λ e. refl) (kept.linked u linked))
      (λ form low high. (t, upd_same x.reg r 1 (suc t) (sym step.2), upd_same s.status t t Live refl))
      (λ unlinking. absurd (link_unlink (form_of x.thunk) step.0 unlinking))

  -- a Retire takes out the node that nothing links
  retire_kept : (t y : ℕ) → IsStep tray x x.at (Retire t) → TrayKept (with_status (passes s d x) t (Retired y))
  retire_kept t y h =
      let step = retire_step (form_of x.thunk) (operand_of x.thunk) x.at t h in
      let none = (kept.unlinked d x here step.0 step.1).1 in
      moved layout s (with_status (passes s d x) t (Retired y)) d x (passed x) sound here refl (λ u linked. absurd (zero_suc u (sym none ∙ linked)))
      (λ linking. absurd (link_unlink (form_of x.thunk) linking step.0)) (λ unlinking five. let at = step.1 in absurd (omega arith))

  load_kept : (p r : ℕ) → IsStep tray x x.at (Load p r) → TrayKept (sets s d x r (s.cells p))
  load_kept p r h =
      let first = (load_step (form_of x.thunk) (operand_of x.thunk) x.at p r h).0 in
      moved layout s (sets s d x r (s.cells p)) d x (passed_with x r (s.cells p)) sound here refl kept.linked (λ form low high. absurd (omega arith)) (λ form five. absurd (omega arith))

-- a slot leaves limbo, and was not live
collect_kept : (s : Scene) (t y : ℕ) → TrayKept s → s.status t ≡ Retired y → TrayKept (with_status s t Free)
collect_kept s t y kept retired =
    let other : (u : ℕ) → s.status u ≡ Live → upd s.status t Free u ≡ Live =
    λ u live. still_live s.status t u Free (λ e. absurd (live_retired (s.status t) y (subst (λ v. s.status v ≡ Live) e live) retired)) live in
    record {
      linked = λ u h. other u (kept.linked u h);
      made = λ d x here form low high. let node = kept.made d x here form low high in (node.0, node.1, other node.0 node.2);
      unlinked = λ d x here form five. let before = kept.unlinked d x here form five in (other (value_of (operand_of x.thunk) - 1) before.0, before.1);
    }

-- a section that has passed nothing has neither made a node nor taken one out
hold_kept : (s : Scene) (d : ℕ) (x : Section) → TrayKept s → x.at ≡ 0 → TrayKept (with_section s d (Some x))
hold_kept s d x kept unpassed = record {
  linked = kept.linked;
  made = λ e y h form low high. ⊎_elim (λ same. absurd (let at = ap (λ z. z.at) same.1 in omega arith)) (λ other. kept.made e y other.1 form low high) (upd_some s.section d e x y h);
  unlinked = λ e y h form five. ⊎_elim (λ same. absurd (let at = ap (λ z. z.at) same.1 in omega arith)) (λ other. kept.unlinked e y other.1 form five) (upd_some s.section d e x y h);
}

done_kept : (s : Scene) (d : ℕ) → TrayKept s → TrayKept (with_section s d None)
done_kept s d kept = record {
  linked = kept.linked;
  made = λ e y h. kept.made e y (upd_none s.section d e y h).1;
  unlinked = λ e y h. kept.unlinked e y (upd_none s.section d e y h).1;
}

pub tray_keeps : (layout : Layout) → IsWithinLimits layout → Keeps tray layout
tray_keeps layout limits = record {
  enters = λ s r sound kept sound'. record { linked = kept.linked; made = kept.made; unlinked = kept.unlinked };
  reads = λ s r p readings reader known sound kept sound'. record { linked = kept.linked; made = kept.made; unlinked = kept.unlinked };
  leaves = λ s r sound kept sound'. record { linked = kept.linked; made = kept.made; unlinked = kept.unlinked };
  holds = λ s r d readings op thunk reader publishes none sound kept sound'. hold_kept s d (opened op thunk readings) kept refl;
  load = λ s d p r x here h sound kept sound'. load_kept layout limits s sound kept d x here p r h;
  want = λ s d r w x here h equal sound kept sound'. quiet layout s d x (Want r w) sound kept here h (λ e. cc) (λ e. cc);
  fresh = λ s d r x here h newer sound kept sound'. quiet layout s d x (Fresh r) sound kept here h (λ e. cc) (λ e. cc);
  take = λ s d l w x here h unheld sound kept sound'. absurd (no_take (form_of x.thunk) (operand_of x.thunk) x.at l w h);
  make = λ s d t r x init here h prepared sound kept sound'. make_kept layout limits s sound kept d x here t r init h;
  stamp = λ s d x here h sound kept sound'. quiet layout s d x Stamp sound kept here h (λ e. cc) (λ e. cc);
  store = λ s d j p r x v here h earlier load found sound kept sound'. store_kept layout limits s sound kept d x here j p r v h load;
  retire = λ s d t y x here h past recent links sound kept sound'. retire_kept layout limits s sound kept d x here t y h;
  answer = λ s d n x here h sound kept sound'. quiet layout s d x (Answer n) sound kept here h (λ e. cc) (λ e. cc);
  done = λ s d x here ended sound kept sound'. done_kept s d kept;
  lock = λ s p w lock sound kept sound'. link_kept s p w kept (λ e. let first = equal_of p 0 lock in omega arith);
  hand = λ s t i w free low sound kept sound'. link_kept s (3 + 5 * t + i) w kept (λ e. omega arith);
  collect = λ s t y retired past sound kept sound'. collect_kept s t y kept retired;
  advance = λ s sound kept sound'. record { linked = kept.linked; made = kept.made; unlinked = kept.unlinked };
}
