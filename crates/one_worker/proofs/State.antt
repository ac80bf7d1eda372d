-- The section that is under way, in a state.
use Rattle.std.specs.Prelude.{◌^◌, ◌⊎◌, Bool, true, false}
use Rattle.std.proofs.Common.{◌≡◌, ◌≢◌, ℕ, zero, suc, ◌+◌, ◌*◌, ◌<◌, ◌≤◌, List, refl, sym, ap, ◌∙◌, subst, ⊎_elim, inl, inr, arith}
use Rattle.std.proofs.lemmas.Bool.{cases_lt}
use Rattle.machine_states.specs.map_history.specs.declared.op.Request.{Request}
use Rattle.machine_states.specs.body_terms.specs.Line.{line, micro_at, is_event, is_commit}
use Rattle.machine_states.specs.body_terms.specs.Memory.{cell_of}
use Rattle.machine_states.specs.body_terms.specs.Word.{value_of, held_word}
use Rattle.machine_states.specs.body_terms.specs.declared.micro.Micro.{Micro}
use Rattle.machine_states.specs.body_terms.specs.declared.micro.Micro.TheVariants as micros
use Rattle.machine_states.specs.body_terms.specs.declared.thunk.Thunk.{Thunk}
use Rattle.agreement_core.specs.section_lines.specs.Line.{IsLine}
use Rattle.machine_states.specs.table_words.specs.declared.layout.Layout.{Layout}
use Rattle.machine_states.specs.table_words.specs.declared.spot.Spot.TheVariants as spots
use Rattle.machine_states.specs.structure_laws.specs.Meaning.{Meaning}
use Rattle.machine_states.specs.structure_laws.specs.Scene.{Scene, Status, Free, Live, Retired}
use Rattle.machine_states.specs.structure_laws.specs.Cells.{IsSafe, IsOutside}
use Rattle.agreement_core.specs.State.{AgreementState, Section}
use Rattle.agreement_core.specs.Checks.{is_stop}
use Rattle.agreement_core.specs.Sound.{UsedIsSound}
use Rattle.agreement_core.proofs.Lines.{event_goes}
use Rattle.machine_states.specs.epoch_core.specs.declared.location.Location.TheVariants.{Hand}
use Rattle.machine_states.specs.epoch_core.specs.declared.location.Location.{Location}
use Rattle.machine_states.specs.epoch_core.specs.Sound.{is_for_nodes}
use Rattle.machine_states.specs.epoch_core.specs.State.{IsKept, entry_of}
use Rattle.machine_states.specs.Sight.{Sight}
use Rattle.resource_bounds.specs.machine_epochs.specs.Entries.{counts_of}
use Rattle.resource_bounds.specs.machine_epochs.specs.Slots.{thunk_in}
use Rattle.resource_bounds.specs.machine_scenes.specs.Shown.{rules_of, scene_of}
use Rattle.resource_bounds.specs.machine_scenes.proofs.JointSteps.{hand_status}
use Rattle.runner_facts.specs.machine_facts.specs.machine_invariant.specs.Whole.{states_of, IsWhole}
use Rattle.resource_bounds.specs.reached_histories.specs.Laws.{HasHistory}
use Rattle.runner_facts.proofs.Logs.{log_of, log_place}
use Rattle.machine_states.specs.body_terms.specs.block_words.specs.Blocks.{log_in}
use Rattle.runner_facts.specs.machine_facts.specs.machine_invariant.specs.machine_blocks.proofs.Holding.{log_read}
use Rattle.runner_facts.specs.machine_facts.specs.machine_invariant.proofs.LogSteps.{IsSure}

pub event_commit : (micro : Micro) → is_commit micro ≡ true → is_event micro ≡ true
event_commit micro e = grind arith

free_not_live : (a : Status) → a ≡ Free → a ≡ Live → ⊥
free_not_live a one two = cc

free_not_retired : (a : Status) (y : ℕ) → a ≡ Free → a ≡ Retired y → ⊥
free_not_retired a y one two = cc

same_slot : (fixed t i slot cell : ℕ) → i < 5 → cell < 5 → fixed + 5 * slot + cell ≡ fixed + 5 * t + i → slot ≡ t
same_slot fixed t i slot cell low low' e = omega (arith, low, low', e)

pub not_both : {B : Type 0} → (b : Bool) → b ≡ true → b ≡ false → B
not_both b one two = absurd (let e = sym one ∙ two in cc)

pub by_zero : (n : ℕ) → (n ≡ 0) ⊎ (n ≢ 0)
by_zero zero = inl refl
by_zero (suc n) = inr (λ e. omega (arith, e))

pub held_value : (d w : ℕ) → suc d < 2 ^ 32 → value_of (held_word d w) ≡ suc d
held_value d w low = omega (arith, low)

-- the section that the worker has published, in a state
module _ (m : Meaning) (l : Layout) (rs : List Request) (s : Sight) (before : HasHistory m l rs s) (d : ℕ) (t : Thunk)
    (used : before.beside.agreement.used d ≡ true) (thunk_is : thunk_in s.word d ≡ t) where
  whole : IsWhole m l before.beside s
  whole = before.whole

  abbrev a : AgreementState
  a = before.beside.agreement

  abbrev x : Section
  x = a.section d

  pub sound : UsedIsSound (rules_of m l) a.shared (a.live d) (a.over d) d x
  sound = whole.sections.sound.sections d used

  pub in_line : IsLine m.is_lock l.version_max x.lock x.code x.slot
  in_line = sound.published.line

  pub code_is : (i : ℕ) (micro : Micro) → micro_at (line (m.body t)) i ≡ micro → x.code i ≡ micro
  code_is i micro e = (whole.sections.thunks d used).code i ∙ (ap (λ (u : Thunk). micro_at (line (m.body u)) i) thunk_is ∙ e)

  pub code_back : (i : ℕ) (micro : Micro) → x.code i ≡ micro → micro_at (line (m.body t)) i ≡ micro
  code_back i micro e = sym (code_is i _ refl) ∙ e

  pub log_same : IsSure s d → (k : ℕ) → x.log k ≡ log_in s.word d k
  log_same sure k = sym (log_read m l whole.logs sure.0 d sure.1 k)

  -- a commit that is passed is agreed
  pub passed_some : IsSure s d → (i k : ℕ) (micro : Micro) → x.code i ≡ micro → is_commit micro ≡ true → log_of micro ≡ k → i < x.edge → log_in s.word d k ≢ 0
  passed_some sure i k micro e commit place below z =
      let at = log_place m.is_lock l.version_max x.lock x.code x.slot in_line i micro e commit in
      let more = in_line.counted.slot_commit i (ap is_commit e ∙ commit) in
      let rises = in_line.counted.slot_rises (suc i) x.edge (omega (arith, below)) in
      let full = sound.section.in_log.full k (omega (arith, at, place, more, rises)) in
      let same = log_same sure k in omega (arith, full, same, z)

  -- once it is done, its runs are past each step that they have come to
  pub done_passed : s.word (spots.DoneWord d) ≢ 0 → (i : ℕ) (micro : Micro) → x.code i ≡ micro → is_event micro ≡ true → i ≤ x.edge → i < x.edge
  done_passed done i micro e event le = ⊎_elim (λ less. less) (λ ge. absurd (stops (omega (arith, le, ge)))) (cases_lt i x.edge)
    where
      stops : i ≡ x.edge → ⊥
      stops same =
          let stop = sound.section.in_log.stops (λ z. done (sym ((whole.sections.sections d).done) ∙ z)) in
          let goes = event_goes (rules_of m l) d x.log micro event in
          let here : x.code x.edge ≡ micro = ap x.code (sym same) ∙ e in
          let both = sym (ap (λ n. is_stop (rules_of m l) d x.log n) here) ∙ stop in let fails = sym both ∙ goes in cc

  abbrev pub scene : Scene
  scene = scene_of m (counts_of m l) (states_of before.beside s)

  -- a slot in a hand has none of the cells that its publisher read, but locks, and none of its locks
  module _ (r slot cell p : ℕ) (low : cell < 5) (place : p ≡ cell_of m.fixed_cells slot cell) (hand : before.beside.epochs.location slot ≡ Hand r) where
    is_free : scene.status slot ≡ Free
    is_free = hand_status (counts_of m l) before.beside.epochs.location slot r hand

    pub not_outside : m.is_lock p ≡ false → IsOutside m scene p → ⊥
    not_outside unlocked outside = ⊎_elim
        (λ few. omega (arith, few, place))
        (λ more. ⊎_elim
        (λ lock. not_both (m.is_lock p) lock unlocked)
        (λ other. safe other.0 (same_slot m.fixed_cells other.0 other.1.0 slot cell other.1.1 low (sym place ∙ other.1.2)) other.2)
        more)
        outside
      where
        safe : (u : ℕ) → slot ≡ u → IsSafe scene u → ⊥
        safe u same is = ⊎_elim
            (λ live. free_not_live (scene.status slot) is_free (ap scene.status same ∙ live))
            (λ retired. free_not_retired (scene.status slot) retired.0 is_free (ap scene.status same ∙ retired.1))
            is

    pub not_locked : a.live d ≡ true → (i w : ℕ) → x.code i ≡ micros.NestedHold p w → ⊥
    not_locked live i w e = ⊎_elim
        (λ fixed. free_not_live (scene.status slot) is_free (whole.kept.lawful.sound.fixed slot fixed))
        (λ unfixed.
        let holds = whole.held.held d slot cell live low (whole.slots.sound.for_nodes slot (ap is_for_nodes hand)) unfixed
        (inr (i, w, e ∙ ap (λ n. micros.NestedHold n w) place)) in
        subst (λ (y : Location). IsKept y (entry_of (before.beside.epochs.stage (before.beside.publications.runner d)))) hand
        (whole.slots.sound.held (before.beside.publications.runner d) slot holds))
        (cases_lt slot m.fixed_slots)
