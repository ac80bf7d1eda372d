-- The cells of a free slot stand, but where a Make stores to them.
use Rattle.std.proofs.Common.{◌≡◌, ℕ, ◌+◌, ◌*◌, ◌<◌, true, refl, sym, ap, ◌∙◌, subst, inl, inr, ⊎_elim, arith}
use Rattle.std.proofs.lemmas.Bool.{cases_eq}
use Rattle.agreement_core.specs.map_history.specs.declared.op.Op.{Op}
use Rattle.agreement_core.specs.body_terms.specs.Update.{upd}
use Rattle.agreement_core.specs.body_terms.specs.Line.{is_event}
use Rattle.agreement_core.specs.body_terms.specs.Word.{value_of, held_word, next_word}
use Rattle.agreement_core.specs.body_terms.specs.declared.micro.Micro.{Micro}
use Rattle.agreement_core.specs.body_terms.specs.declared.micro.Source.{Source}
use Rattle.agreement_core.specs.body_terms.specs.declared.micro.Micro.TheVariants as micros
use Rattle.agreement_core.specs.body_terms.specs.declared.thunk.Thunk.{Thunk}
use Rattle.agreement_core.specs.table_words.specs.declared.layout.Layout.{Layout}
use Rattle.agreement_core.specs.table_words.specs.Limits.{IsWithinLimits}
use Rattle.agreement_core.specs.section_lines.specs.structure_laws.specs.Scene.{Free}
use Rattle.agreement_core.specs.section_lines.specs.structure_laws.specs.Scene as scenes
use Rattle.agreement_core.specs.section_lines.specs.structure_laws.specs.Meaning.{Meaning}
use Rattle.agreement_core.specs.section_lines.specs.structure_laws.specs.Cells.{cell_of, slots}
use Rattle.agreement_core.specs.section_lines.specs.structure_laws.specs.Laws.{Laws}
use Rattle.agreement_core.specs.section_lines.specs.structure_laws.proofs.Changes.{upd_other}
use Rattle.agreement_core.specs.section_lines.specs.structure_laws.proofs.Readings.{known_outside}
use Rattle.agreement_core.specs.State.{AgreementState, IsOpen}
use Rattle.agreement_core.specs.Checks.{exchanged, stored_word}
use Rattle.agreement_core.specs.Events.{HasCome, IsBefore}
use Rattle.agreement_core.specs.Events as agreement
use Rattle.agreement_core.specs.Sound.{UsedIsSound}
use Rattle.agreement_core.proofs.Changing.{exchange_fails, upd_found}
use Rattle.agreement_core.proofs.Late.{by_stepper}
use Rattle.agreement_core.proofs.Releasing.{taken_lock}
use Rattle.agreement_core.proofs.Storing.{store_come}
use Rattle.agreement_core.proofs.Words.{value_held}
use Rattle.epoch_core.specs.State.{Counts}
use Rattle.machine_scenes.specs.Shown.{Publications, States, rules_of, status_of, section_with, scene_of}
use Rattle.machine_scenes.specs.Kinds.{is_plain}
use Rattle.machine_scenes.specs.Steps.{Step, Agreement, Epochs, Enter, Read, Leave, Publish, Fill, Make, LoadEpoch, Retire, after, Enabled, descriptor_of, MayPublish}
use Rattle.machine_scenes.specs.Kept.{IsKept}
use Rattle.machine_scenes.proofs.Shown.{shown_open}
use Rattle.machine_scenes.proofs.Running.{by_place, event_open}
use Rattle.machine_scenes.proofs.Links.{one_slot, gives, outside_used}
use Rattle.machine_scenes.proofs.Places.{come_load}
use Rattle.machine_slots.specs.Hands.{IsLockOf, IsNoFill, LocksAreHeld}
use Rattle.machine_slots.proofs.Locks.{held_used, lock_held, unfixed, lock_used, known_held, new_known}

one_cell : (first t u i k : ℕ) → i < 5 → k < 5 → first + 5 * t + i ≡ first + 5 * u + k → k ≡ i
one_cell first t u i k low low' e = let same = one_slot first t u i k (first + 5 * t + i) low low' refl e in omega arith

module _ (m : Meaning) (laws : Laws m) (layout : Layout) (limits : IsWithinLimits layout) (c : Counts) (nodes : c.nodes ≡ slots m layout)
    (j : States) (kept : IsKept m layout c j) (held : LocksAreHeld m c j)
    (t i : ℕ) (low : t < c.nodes) (five : i < 5) (free : status_of c j.epochs.location t ≡ Free) where
  abbrev a : AgreementState
  a = j.agreement

  abbrev p : Publications
  p = j.publications

  abbrev scene : scenes.Scene
  scene = scene_of m c j

  abbrev cells : ℕ → ℕ
  cells = a.shared.cells

  abbrev place : ℕ
  place = cell_of m t i

  -- another place changes
  elsewhere : (q word : ℕ) → (q ≡ place → ⊥) → upd cells q word place ≡ cells place
  elsewhere q word ne = upd_other cells q place word (λ e. ne (sym e))

  -- an exchange of this place fails
  exchange : (q found new : ℕ) → (q ≡ place → cells q ≡ found → ⊥) → upd cells q (exchanged (cells q) found new) place ≡ cells place
  exchange q found new never = ⊎_elim
      (λ same. upd_found cells q (exchanged (cells q) found new) (exchange_fails (cells q) found new (never same)) place)
      (λ ne. elsewhere q (exchanged (cells q) found new) ne) (cases_eq q place)

  own : (d : ℕ) → a.used d ≡ true → UsedIsSound (rules_of m layout) a.shared (a.live d) (a.over d) d (a.section d)
  own d used = kept.agreement.sections d used

  -- no open section has come to it
  not_come : (d : ℕ) → IsOpen a d → HasCome (a.section d) place → ⊥
  not_come d is come =
      let x = section_with m p d ((a.section d).log) ((a.section d).edge) in
      let here = shown_open m p d (a.used d) (a.section d) is.used is.undone in
      let load = come_load (m.body (p.thunk d)) ((a.section d).edge) come.0 place come.1 come.2
      (sym ((kept.thunks d is.used).code come.0) ∙ come.3) in
      let shaped = kept.lawful.shaped d x here in
      outside_used m laws layout limits scene kept.lawful place
      (known_outside m layout scene kept.lawful.sound (gives m laws layout limits scene kept.lawful) (p.readings d) (inr (d, x, here, refl))
      (kept.lawful.sound.published d x here) place (shaped.load_known load.step place load.register load.here))
      (shaped.load_unlocked load.step place load.register load.here) t (i, five, refl) free

  -- a section that isn't retired has no lock there
  not_locked : (d q : ℕ) → a.live d ≡ true → IsLockOf (a.section d) q → q ≡ place → ⊥
  not_locked d q live lock same = lock_used m laws layout limits c nodes j kept held d t i live low five
      (subst (IsLockOf (a.section d)) same lock) free

  store : (r q log : ℕ) (value : Source) → IsBefore a r (micros.ExchangeCell q log value)
      → (agreement.after a (agreement.ExchangeCell r q log value)).shared.cells place ≡ cells place
  store r q log value ok = by_place m layout p a kept.agreement kept.thunks r ok.running ok.going
      (λ late. (by_stepper (rules_of m layout) a (agreement.ExchangeCell r q log value) ok kept.agreement r refl late).cells place)
      (λ at.
      let d = descriptor_of j r in let used = kept.agreement.running_used r ok.running in let s = a.section (descriptor_of j r) in
      let un = event_open m layout p a kept.agreement kept.thunks r ok.running ok.going (ap is_event ok.next) at in
      let o = own d used in
      let come = store_come (rules_of m layout) a.shared d s q log value o.published (ap s.code (sym at) ∙ ok.next) o.section in
      elsewhere q (exchanged (cells q) ((a.run r).trail log) (stored_word ((a.run r).trail) log value))
      (λ same. not_come d (record { used = used; undone = un }) (subst (HasCome s) same come)))

  hold : (r q word : ℕ) → IsBefore a r (micros.NestedHold q word)
      → (agreement.after a (agreement.NestedHold r q word)).shared.cells place ≡ cells place
  hold r q word ok = by_place m layout p a kept.agreement kept.thunks r ok.running ok.going
      (λ late. (by_stepper (rules_of m layout) a (agreement.NestedHold r q word) ok kept.agreement r refl late).cells place)
      (λ at.
      let d = descriptor_of j r in
      let un = event_open m layout p a kept.agreement kept.thunks r ok.running ok.going (ap is_event ok.next) at in
      let live = (own d (kept.agreement.running_used r ok.running)).open_live un in
      elsewhere q (exchanged (cells q) word (held_word d word)) (not_locked d q live (inr ((a.run r).at, word, ok.next))))

  release : (r q word : ℕ) → agreement.Enabled (rules_of m layout) a (agreement.Release r q word)
      → (agreement.after a (agreement.Release r q word)).shared.cells place ≡ cells place
  release r q word ok =
      let d = descriptor_of j r in let s = a.section (descriptor_of j r) in
      let o = own d (kept.agreement.running_used r ok.0) in
      let lock = taken_lock (rules_of m layout) d s o.published ((a.run r).at) q word ok.2 in
      exchange q (held_word d word) (next_word (held_word d word) 0)
      (λ same finds. let names = ap value_of finds ∙ value_held d word o.published.link in
      not_locked d q (kept.agreement.named q d lock names)
      (lock_held d s q (cells q) (o.section.in_locks.held q lock names)) same)

  publish : (r d lock word request : ℕ) (code : ℕ → Micro) (slot : ℕ → ℕ) (op : Op) (thunk : Thunk)
      → MayPublish m layout c j r d lock word request code slot op thunk → upd cells lock (held_word d word) place ≡ cells place
  publish r d lock word request code slot op thunk ok = elsewhere lock (held_word d word)
      (λ same. held_used c j.epochs kept.epochs r t
      (known_held m laws layout limits c nodes j kept r t i ok.entered low five (unfixed m laws layout limits c nodes j kept t free)
      (new_known m laws layout limits c nodes j kept r d lock word request code slot op thunk ok place (inl (sym same)))) low free)

  event_stands : (v : agreement.Event) → is_plain v ≡ true → agreement.Enabled (rules_of m layout) a v
      → (agreement.after a v).shared.cells place ≡ cells place
  event_stands (agreement.Publish d lock word request code slot) plain ok = absurd (cc)
  event_stands (agreement.PrivateStore r cell log value q word) plain ok = absurd (cc)
  event_stands (agreement.Release r q word) plain ok = release r q word ok
  event_stands (agreement.NestedHold r q word) plain ok = hold r q word ok
  event_stands (agreement.ExchangeCell r q log value) plain ok = store r q log value ok
  event_stands v plain ok = refl

  -- a step that doesn't store there leaves it
  pub hands_stand : (step : Step) → Enabled m layout c j step → IsNoFill step t i
      → (after m layout c j step).agreement.shared.cells place ≡ cells place
  hands_stand (Agreement v) ok no_fill = event_stands v ok.0 ok.1
  hands_stand (Epochs v) ok no_fill = refl
  hands_stand (Enter r) ok no_fill = refl
  hands_stand (Read r q) ok no_fill = refl
  hands_stand (Leave r) ok no_fill = refl
  hands_stand (Publish r d lock word request code slot op thunk) ok no_fill = publish r d lock word request code slot op thunk ok
  hands_stand (Fill r cell log value u word) ok no_fill = elsewhere (cell_of m u cell) word
      (λ same. no_fill (one_slot m.fixed_cells u t cell i place ok.2 five (sym same) refl) (one_cell m.fixed_cells t u i cell five ok.2 (sym same)))
  hands_stand (Make r log u worn) ok no_fill = refl
  hands_stand (LoadEpoch r log u) ok no_fill = refl
  hands_stand (Retire r log u) ok no_fill = refl
