-- Each step keeps what is known of the Retires for which an epoch is loaded.
use Rattle.std.proofs.Common.{◌≡◌, ◌≢◌, ℕ, suc, ◌<◌, ◌≤◌, Bool, true, false, refl, sym, ap, ◌∙◌, subst, inl, inr, ⊎_elim, arith}
use Rattle.std.specs.Prelude.{◌⊎◌, nat_lt, cond}
use Rattle.std.proofs.lemmas.Bool.{cases_eq, cases_lt}
use Rattle.std.proofs.lemmas.Bool.Decides.{nat_tests}
use Rattle.agreement_core.specs.body_terms.specs.Update.{upd}
use Rattle.agreement_core.specs.body_terms.specs.Word.{value_of}
use Rattle.agreement_core.specs.body_terms.specs.Line.{is_event}
use Rattle.agreement_core.specs.table_words.specs.declared.layout.Layout.{Layout}
use Rattle.agreement_core.specs.table_words.specs.Limits.{IsWithinLimits}
use Rattle.agreement_core.specs.section_lines.specs.structure_laws.specs.Scene.{Status, Free, Live, Retired}
use Rattle.agreement_core.specs.section_lines.specs.structure_laws.specs.Scene as scenes
use Rattle.agreement_core.specs.section_lines.specs.structure_laws.specs.Meaning.{Meaning}
use Rattle.agreement_core.specs.section_lines.specs.structure_laws.specs.Cells.{cell_of, slots, Links}
use Rattle.agreement_core.specs.section_lines.specs.structure_laws.specs.Laws.{Laws}
use Rattle.agreement_core.specs.section_lines.specs.structure_laws.proofs.Changes.{upd_same, upd_other}
use Rattle.agreement_core.specs.section_lines.proofs.Moves.{retire_moves}
use Rattle.agreement_core.specs.State.{AgreementState}
use Rattle.agreement_core.specs.Events as agreement
use Rattle.epoch_core.specs.declared.location.Location.{Location}
use Rattle.epoch_core.specs.declared.location.Location.TheVariants as locations
use Rattle.epoch_core.specs.State.{Counts, EpochState, Retiring, IsPending, entry_of}
use Rattle.epoch_core.specs.Moves.{made, retired}
use Rattle.epoch_core.specs.Events as epochs
use Rattle.machine_scenes.specs.Shown.{Publications, States, rules_of, status_at, status_of, section_with, sections_of, scene_of}
use Rattle.machine_scenes.specs.Kinds.{is_plain, is_publication, is_retire_commit}
use Rattle.machine_scenes.specs.Cells.{LeavesLinks}
use Rattle.machine_scenes.specs.Steps.{Step, Agreement, Epochs, Enter, Read, Leave, Publish, Fill, Make, LoadEpoch, Retire, after, Enabled, descriptor_of, MayRetire, MayLoadEpoch}
use Rattle.machine_scenes.specs.Kept.{StandsAt, IsLinkedBy, RetiresAreKept, IsKept}
use Rattle.machine_scenes.proofs.Shown.{shown_open}
use Rattle.machine_scenes.proofs.Running.{event_open}
use Rattle.machine_scenes.proofs.Links.{gives, one_slot}
use Rattle.machine_scenes.proofs.Retires.{recent_after, was_pending, retire_alone, was_pending_make, was_pending_retire, was_pending_load}
use Rattle.machine_scenes.proofs.StandingEvents.{event_stands, retire_stands, publish_stands}
use Rattle.machine_scenes.proofs.EpochEvents.{alone_status}
use Rattle.machine_scenes.proofs.Keeping.{leaves}

pub plain_unpublished : (v : agreement.Event) → is_plain v ≡ true → is_publication v ≡ false
plain_unpublished (agreement.Publish d lock word request code slot) plain = cc
plain_unpublished v plain = refl

pub plain_unretired : (v : agreement.Event) → is_plain v ≡ true → is_retire_commit v ≡ false
plain_unretired (agreement.RetireCommit r slot log) plain = cc
plain_unretired v plain = refl

free_retired : (x : Status) (y : ℕ) → x ≡ Free → x ≡ Retired y → ⊥
free_retired x y e e' = cc

-- the slot of a Make doesn't become retired
made_unretired : (c : Counts) (found r y u : ℕ) (worn : Bool) → cond (nat_lt u c.nodes) (status_at (made found r worn)) Free ≡ Retired y → ⊥
made_unretired c found r y u true is = grind (arith, nat_tests)
made_unretired c found r y u false is = grind (arith, nat_tests)

module _ (m : Meaning) (laws : Laws m) (layout : Layout) (limits : IsWithinLimits layout) (c : Counts) (nodes : c.nodes ≡ slots m layout)
    (j : States) (kept : IsKept m layout c j) where
  abbrev a : AgreementState
  a = j.agreement

  abbrev e : EpochState
  e = j.epochs

  abbrev p : Publications
  p = j.publications

  abbrev scene : scenes.Scene
  scene = scene_of m c j

  recent_step : (step : Step) → Enabled m layout c j step → (r : ℕ) → ((after m layout c j step).epochs.retire r).loaded ≡ true
      → entry_of ((after m layout c j step).epochs.stage r) ≤ ((after m layout c j step).epochs.retire r).epoch
  recent_step (Agreement v) ok = kept.retires.recent
  recent_step (Epochs v) ok = recent_after c e kept.epochs kept.retires.recent v ok.1
  recent_step (Enter r) ok = recent_after c e kept.epochs kept.retires.recent (epochs.EnterAgain r) ok
  recent_step (Read r place) ok = kept.retires.recent
  recent_step (Leave r) ok = recent_after c e kept.epochs kept.retires.recent (epochs.Exit r) ok.0
  recent_step (Publish r d lock word request code slot op thunk) ok = kept.retires.recent
  recent_step (Fill r cell log value t word) ok = kept.retires.recent
  recent_step (Make r log t worn) ok = recent_after c e kept.epochs kept.retires.recent
      (epochs.MakeCommit r (descriptor_of j r) log t worn) ok.takes
  recent_step (LoadEpoch r log t) ok = recent_after c e kept.epochs kept.retires.recent
      (epochs.RetireEpoch r (descriptor_of j r) log t) ok.enabled
  recent_step (Retire r log t) ok = recent_after c e kept.epochs kept.retires.recent (epochs.RetireCommit r) ok.loaded

  abbrev loading : ℕ → ℕ → ℕ → Retiring
  loading r log t = record { loaded = true; descriptor = descriptor_of j r; index = log; slot = t; epoch = e.epoch }

  -- a runner whose run stands before a Retire's commit of which nothing is agreed yet is at the edge
  load_stands : (r log t : ℕ) → MayLoadEpoch m layout c j r log t → e.log (descriptor_of j r) log ≡ 0 → StandsAt a (loading r log t)
  load_stands r log t ok none = record {
    open_section = record {
      used = kept.agreement.running_used r ok.before.running;
      undone = event_open m layout p a kept.agreement
          kept.thunks r ok.before.running ok.before.going (ap is_event ok.before.next) at;
    };
    next = ap ((a.section (descriptor_of j r)).code) (sym at) ∙ ok.before.next;
  }
    where
      at : (a.run r).at ≡ (a.section (descriptor_of j r)).edge
      at =
          let s = a.section (descriptor_of j r) in
          ⊎_elim
          (λ lt. absurd (let agreed = (kept.agreement.sections (descriptor_of j r)
          (kept.agreement.running_used r ok.before.running)).section.in_log.retired ((a.run r).at) t log lt ok.before.next in
          let zero : s.log log ≡ 0 = sym ok.word ∙ none in omega arith))
          (λ le. let most = (kept.agreement.runs r ok.before.running).in_trail.behind in omega arith)
          (cases_lt ((a.run r).at) s.edge)

  stands_step : (step : Step) → Enabled m layout c j step → (r : ℕ) → IsPending (after m layout c j step).epochs r
      → StandsAt (after m layout c j step).agreement ((after m layout c j step).epochs.retire r)
  stands_step (Agreement v) ok i pending = event_stands (rules_of m layout) a kept.agreement (e.retire i)
      (kept.retires.stands i pending) v (plain_unpublished v ok.0) (plain_unretired v ok.0) ok.1
  stands_step (Epochs v) ok i pending = subst (StandsAt a) (sym (retire_alone c e kept.epochs v ok.0 i))
      (kept.retires.stands i (was_pending c e kept.epochs v ok.0 ok.1 i pending))
  stands_step (Enter r) ok i pending = kept.retires.stands i pending
  stands_step (Read r place) ok i pending = kept.retires.stands i pending
  stands_step (Leave r) ok i pending = kept.retires.stands i pending
  stands_step (Publish r d lock word request code slot op thunk) ok i pending = publish_stands (rules_of m layout) a kept.agreement
      (e.retire i) (kept.retires.stands i pending) d lock word request code slot ok.enabled.0
  stands_step (Fill r cell log value t word) ok i pending =
      event_stands (rules_of m layout) a kept.agreement (e.retire i) (kept.retires.stands i pending)
      (agreement.PrivateStore r cell log value (cell_of m t cell) word) refl refl ok.0
  stands_step (Make r log t worn) ok i pending =
      event_stands (rules_of m layout) a kept.agreement (e.retire i)
      (kept.retires.stands i (was_pending_make c e kept.epochs r (descriptor_of j r) log t worn i pending))
      (agreement.MakeCommit r log (suc t)) refl refl ok.enabled
  stands_step (LoadEpoch r log t) ok i pending = ⊎_elim
      (λ same. let is = upd_same e.retire r i (loading r log t) same in
      subst (StandsAt a) (sym is) (load_stands r log t ok (sym (ap (λ (x : Retiring). e.log x.descriptor x.index) is) ∙ pending.1)))
      (λ ne. subst (StandsAt a) (sym (upd_other e.retire r i (loading r log t) ne))
      (kept.retires.stands i (was_pending_load c e kept.epochs r (descriptor_of j r) log t i ne pending)))
      (cases_eq i r)
  stands_step (Retire r log t) ok i pending =
      let other = was_pending_retire c e kept.epochs r i pending in
      subst (StandsAt (agreement.after a (agreement.RetireCommit r t log))) (sym other.same)
      (retire_stands (rules_of m layout) a kept.agreement (e.retire i) (kept.retires.stands i other.before) r t log ok.enabled
      (λ d k. other.apart (ok.descriptor ∙ d) (ok.index ∙ k)))

  -- links of slots that were retired before stand
  linked_on : (cells : ℕ → ℕ) (status : ℕ → Status) → LeavesLinks m scene cells → (t y : ℕ) → IsLinkedBy m scene t y
      → (u z i : ℕ) → i < 5 → scene.status u ≡ Retired z → Links m (record scene { cells = cells; status = status }) (cell_of m u i) t
      → z ≤ y
  linked_on cells status leaves t y linked u z i low retired links = linked u z i low retired (
    sym (leaves.steady (cell_of m u i) (λ v cell free. free_retired (scene.status u) z
        (ap scene.status (one_slot m.fixed_cells u v i cell.0 (cell_of m u i) low cell.1 refl cell.2) ∙ free) retired)) ∙ links.0,
    ap value_of (sym (leaves.retired u z i low retired links.0)) ∙ links.1,
  )

  -- a step that retires no slot keeps them
  linked_same : (step : Step) → (ok : Enabled m layout c j step)
      → ((u z : ℕ) → (scene_of m c (after m layout c j step)).status u ≡ Retired z → scene.status u ≡ Retired z)
      → (t y : ℕ) → IsLinkedBy m scene t y → IsLinkedBy m (scene_of m c (after m layout c j step)) t y
  linked_same step ok was t y linked u z i low retired links =
      linked_on ((after m layout c j step).agreement.shared.cells) ((scene_of m c (after m layout c j step)).status)
      (leaves m laws layout limits c nodes j kept step ok) t y linked u z i low (was u z retired) links

  alone_unretired : (v : epochs.Event) → (ok : Enabled m layout c j (Epochs v)) → (u z : ℕ)
      → status_of c (epochs.after c e v).location u ≡ Retired z → scene.status u ≡ Retired z
  alone_unretired v ok u z is = ⊎_elim (λ same. sym same ∙ is)
      (λ old. absurd (free_retired (status_of c (epochs.after c e v).location u) z old.3 is))
      (alone_status m laws layout limits c a.shared.cells p.runner
      (λ d. sections_of m p a d) e j.walk kept.epochs kept.lawful v ok.0 ok.1 u)

  make_unretired : (r log t : ℕ) (worn : Bool) (u z : ℕ)
      → status_of c (upd e.location t (made (e.log (descriptor_of j r) log) r worn)) u ≡ Retired z → scene.status u ≡ Retired z
  make_unretired r log t worn u z is = ⊎_elim
      (λ same. absurd (made_unretired c (e.log (descriptor_of j r) log) r z u worn
      (subst (λ l. cond (nat_lt u c.nodes) (status_at l) Free ≡ Retired z)
      (upd_same e.location t u (made (e.log (descriptor_of j r) log) r worn) same) is)))
      (λ ne. subst (λ l. cond (nat_lt u c.nodes) (status_at l) Free ≡ Retired z)
      (upd_other e.location t u (made (e.log (descriptor_of j r) log) r worn) ne) is)
      (cases_eq u t)

  -- a slot that is live links no slot before whose Retire's commit a section stands
  stands_unlinked : (x : Retiring) → StandsAt a x → (u i : ℕ) → i < 5 → scene.status u ≡ Live → Links m scene (cell_of m u i) x.slot → ⊥
  stands_unlinked x stands u i low live links =
      let d = x.descriptor in let s = a.section d in
      let step = retire_moves (m.body (p.thunk d)) (p.op d) (p.thunk d) (p.readings d) s.log s.edge x.slot x.index 0
      (sym ((kept.thunks d stands.open_section.used).code s.edge) ∙ stands.next) in
      (gives m laws layout limits scene kept.lawful).retire_unlinked d x.slot (cell_of m u i) (section_with m p d s.log s.edge)
      (shown_open m p d (a.used d) s stands.open_section.used stands.open_section.undone) step.0 (inr (u, (i, low, refl), live)) links

  retired_found : (found r y : ℕ) (l : Location) → (found ≡ 0) ⊎ (retired found r y l ≡ l)
  retired_found found r y l = ⊎_elim inl (λ ne. inr (lost found r y l ne)) (cases_eq found 0)
    where
      lost : (found r y : ℕ) (l : Location) → found ≢ 0 → retired found r y l ≡ l
      lost found r y l ne = grind (arith, nat_tests)

  live_status : (t : ℕ) → t < c.nodes → e.location t ≡ locations.Live → scene.status t ≡ Live
  live_status t low is = inside t c.nodes (status_at (e.location t)) low ∙ ap status_at is
    where
      inside : (t n : ℕ) (x : Status) → t < n → cond (nat_lt t n) x Free ≡ x
      inside t n x lt = grind (arith, nat_tests)

  -- the slot that a Retire's commit retires, which was live, links none of the others
  linked_retire : (r log t : ℕ) → (ok : MayRetire m layout c j r log t) → (x : Retiring) → StandsAt a x → IsLinkedBy m scene x.slot x.epoch
      → IsLinkedBy m (scene_of m c (after m layout c j (Retire r log t))) x.slot x.epoch
  linked_retire r log t ok x stands linked u z i low retired_now links = ⊎_elim
      (λ same. ⊎_elim
      (λ none. absurd (stands_unlinked x stands u i low
      (subst (λ n. scene.status n ≡ Live) (sym same)
      (live_status ((e.retire r).slot) (kept.epochs.retire_node r ok.loaded) (kept.epochs.retire_live r (ok.loaded, none)))) links))
      (λ lost. linked u z i low (subst (λ l. cond (nat_lt u c.nodes) (status_at l) Free ≡ Retired z)
      (upd_same e.location ((e.retire r).slot) u new same ∙ (lost ∙ ap e.location (sym same))) retired_now) links)
      (retired_found (e.log ((e.retire r).descriptor) ((e.retire r).index)) r ((e.retire r).epoch) (e.location ((e.retire r).slot))))
      (λ ne. linked u z i low (subst (λ l. cond (nat_lt u c.nodes) (status_at l) Free ≡ Retired z)
      (upd_other e.location ((e.retire r).slot) u new ne) retired_now) links)
      (cases_eq u ((e.retire r).slot))
    where
      new : Location
      new = retired (e.log ((e.retire r).descriptor) ((e.retire r).index)) r ((e.retire r).epoch) (e.location ((e.retire r).slot))

  linked_step : (step : Step) → Enabled m layout c j step → (r : ℕ) → IsPending (after m layout c j step).epochs r
      → IsLinkedBy m (scene_of m c (after m layout c j step)) ((after m layout c j step).epochs.retire r).slot
      ((after m layout c j step).epochs.retire r).epoch
  linked_step (Agreement v) ok i pending = linked_same (Agreement v) ok (λ u z is. is) _ _ (kept.retires.linked i pending)
  linked_step (Epochs v) ok i pending = subst
      (λ (x : Retiring). IsLinkedBy m (scene_of m c (after m layout c j (Epochs v))) x.slot x.epoch)
      (sym (retire_alone c e kept.epochs v ok.0 i))
      (linked_same (Epochs v) ok (alone_unretired v ok) _ _ (kept.retires.linked i (was_pending c e kept.epochs v ok.0 ok.1 i pending)))
  linked_step (Enter r) ok i pending = linked_same (Enter r) ok (λ u z is. is) _ _ (kept.retires.linked i pending)
  linked_step (Read r place) ok i pending = linked_same (Read r place) ok (λ u z is. is) _ _ (kept.retires.linked i pending)
  linked_step (Leave r) ok i pending = linked_same (Leave r) ok (λ u z is. is) _ _ (kept.retires.linked i pending)
  linked_step (Publish r d lock word request code slot op thunk) ok i pending = linked_same
      (Publish r d lock word request code slot op thunk) ok (λ u z is. is) _ _ (kept.retires.linked i pending)
  linked_step (Fill r cell log value t word) ok i pending = linked_same (Fill r cell log value t word) ok (λ u z is. is) _ _
      (kept.retires.linked i pending)
  linked_step (Make r log t worn) ok i pending = linked_same (Make r log t worn) ok (make_unretired r log t worn) _ _
      (kept.retires.linked i (was_pending_make c e kept.epochs r (descriptor_of j r) log t worn i pending))
  linked_step (LoadEpoch r log t) ok i pending = ⊎_elim
      (λ same. subst (λ (x : Retiring). IsLinkedBy m scene x.slot x.epoch) (sym (upd_same e.retire r i (loading r log t) same))
      (λ u z k low is links. kept.lawful.sound.retired u z is))
      (λ ne. subst (λ (x : Retiring). IsLinkedBy m scene x.slot x.epoch) (sym (upd_other e.retire r i (loading r log t) ne))
      (kept.retires.linked i (was_pending_load c e kept.epochs r (descriptor_of j r) log t i ne pending)))
      (cases_eq i r)
  linked_step (Retire r log t) ok i pending =
      let other = was_pending_retire c e kept.epochs r i pending in
      subst (λ (x : Retiring). IsLinkedBy m (scene_of m c (after m layout c j (Retire r log t))) x.slot x.epoch) (sym other.same)
      (linked_retire r log t ok (e.retire i) (kept.retires.stands i other.before) (kept.retires.linked i other.before))

  pub retires_after : (step : Step) → Enabled m layout c j step → RetiresAreKept m c (after m layout c j step)
  retires_after step ok = record { recent = recent_step step ok; stands = stands_step step ok; linked = linked_step step ok }
