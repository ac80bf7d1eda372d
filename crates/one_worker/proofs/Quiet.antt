-- Where no section is open a step changes no cell, but by a publication or in the slot of a Make.
use Rattle.std.specs.Prelude.{◌==◌, ◌^◌, ◌⊎◌, Bool, true, false, slice_index, if◌then◌else◌, ◌-◌}
use Rattle.std.proofs.Common.{◌≡◌, ◌≢◌, ℕ, suc, ◌<◌, ◌≤◌, List, length, refl, sym, ap, ◌∙◌, subst, ⊎_elim, inl, inr, arith, Option, Some, None}
use Rattle.std.proofs.lemmas.Bool.{cases_eq}
use Rattle.std.proofs.lemmas.Bool.Decides.{nat_tests}
use Rattle.machine_states.specs.map_history.specs.declared.op.Request.{Request}
use Rattle.machine_states.specs.body_terms.specs.Line.{micro_at, is_event, is_commit}
use Rattle.machine_states.specs.body_terms.specs.Memory.{cell_of}
use Rattle.machine_states.specs.body_terms.specs.Word.{value_of, version_of, held_word}
use Rattle.machine_states.specs.body_terms.specs.declared.micro.Micro.{Micro}
use Rattle.machine_states.specs.body_terms.specs.declared.micro.Micro.TheVariants as micros
use Rattle.machine_states.specs.body_terms.specs.declared.thunk.Thunk.{Thunk}
use Rattle.agreement_core.specs.section_lines.specs.Line.{IsLine}
use Rattle.machine_states.specs.table_words.specs.declared.layout.Layout.{Layout}
use Rattle.machine_states.specs.table_words.specs.declared.spot.Spot.{Spot}
use Rattle.machine_states.specs.table_words.specs.declared.spot.Spot.TheVariants as spots
use Rattle.machine_states.specs.table_words.specs.declared.access.Access.{Access}
use Rattle.machine_states.specs.structure_laws.specs.Meaning.{Meaning}
use Rattle.machine_states.specs.runner_parts.specs.declared.event.EventKind.{EventKind}
use Rattle.machine_states.specs.runner_parts.specs.declared.event.EventKind.TheVariants as kinds
use Rattle.machine_states.specs.runner_parts.specs.State.{RunState, PartState}
use Rattle.machine_states.specs.runner_steps.specs.Asks.{opening_ask}
use Rattle.machine_states.specs.runner_steps.specs.Asks.{ask_by, line_ask, outside_ask}
use Rattle.machine_states.specs.runner_steps.specs.InRun.{is_slot, fill_store_ask}
use Rattle.machine_states.specs.runner_steps.specs.Sections.{is_open_run, line_of, next_of}
use Rattle.agreement_core.specs.State.{AgreementState, Section, Run}
use Rattle.agreement_core.specs.Checks.{is_stop}
use Rattle.agreement_core.specs.Runs.{RunIsSound}
use Rattle.agreement_core.specs.Sound.{UsedIsSound}
use Rattle.agreement_core.proofs.Lines.{event_goes, store_logged}
use Rattle.machine_states.specs.epoch_core.specs.declared.location.Location.TheVariants.{Hand}
use Rattle.machine_states.specs.Sight.{Sight}
use Rattle.resource_bounds.specs.machine_epochs.specs.Entries.{counts_of}
use Rattle.resource_bounds.specs.machine_epochs.proofs.OutsideAsked.{HoldAsked, hold_asked}
use Rattle.resource_bounds.specs.machine_epochs.proofs.RunPlaces.{next_in_line, open_run}
use Rattle.resource_bounds.specs.machine_scenes.specs.Shown.{rules_of}
use Rattle.runner_facts.specs.machine_facts.specs.machine_slots.proofs.Runs.{fill_low}
use Rattle.runner_facts.specs.machine_facts.specs.machine_agreement.specs.Joined.{IsRunOf}
use Rattle.runner_facts.specs.machine_facts.specs.machine_agreement.proofs.RunPlaces.{run_here, used_here, code_here}
use Rattle.runner_facts.specs.machine_facts.specs.machine_agreement.proofs.LineAsked as asked_line
use Rattle.runner_facts.specs.machine_facts.specs.machine_invariant.specs.Whole.{Beside, states_of, IsWhole}
use Rattle.resource_bounds.proofs.Releases.{released_lock}
use Rattle.resource_bounds.proofs.Words.{Stays, line_stays, opening_stays, outside_stays, block_stays}
use Rattle.one_worker.proofs.OneCell.{test_same, other, misses}
use Rattle.one_worker.specs.Alone.{NoneIsOpen}
use Rattle.machine_states.specs.runner_steps.specs.Outside.{blocks_from}
use Rattle.runner_facts.specs.machine_facts.specs.machine_invariant.specs.machine_blocks.proofs.Asked as blocks_asked
use Rattle.runner_facts.specs.machine_facts.specs.machine_invariant.specs.machine_blocks.proofs.Finding.{log_seen}

-- a step of a runner that has this part in this state, which asks this
module _ (m : Meaning) (l : Layout) (rs : List Request) (g : Beside) (s : Sight) (whole : IsWhole m l g s) (quiet : NoneIsOpen m s)
    (r : ℕ) (kind : EventKind) (x : Spot × Access) (p : ℕ) where
  abbrev f : Spot → ℕ
  f = s.word

  abbrev y : PartState
  y = s.part r

  -- a publication
  pub record Publishes : Type 0 where
    pub thunk : Thunk
    pub descriptor : ℕ
    pub is : kind ≡ kinds.Hold thunk descriptor
    pub none : y.run ≡ None
    pub won : f x.0 ≡ thunk.word

  -- a store into a slot in the runner's hand
  pub record Fills : Type 0 where
    pub slot : ℕ
    pub cell : ℕ
    pub place : p ≡ cell_of m.fixed_cells slot cell
    pub here : g.epochs.location slot ≡ Hand r
    pub low : cell < 5

  abbrev pub Leaves : Type 0
  Leaves = Stays f p x ⊎ (Publishes ⊎ Fills)

  module _ (q : RunState) (runs : y.run ≡ Some q) (opened : is_open_run q ≡ true) where
    all : length q.opened ≡ 13
    all = open_run q opened

    abbrev a : AgreementState
    a = g.agreement

    abbrev section : Section
    section = a.section q.descriptor

    abbrev run : Run
    run = a.run r

    used : a.used q.descriptor ≡ true
    used = used_here m l a s whole.sections r q runs

    here : IsRunOf run q
    here = run_here m l a s whole.sections r q runs

    sound : UsedIsSound (rules_of m l) a.shared (a.live q.descriptor) (a.over q.descriptor) q.descriptor section
    sound = whole.sections.sound.sections q.descriptor used

    run_sound : RunIsSound (rules_of m l) a.shared q.descriptor section run
    run_sound = subst (λ d. RunIsSound (rules_of m l) a.shared d (a.section d) run) here.descriptor (whole.sections.sound.runs r here.running)

    in_line : IsLine m.is_lock l.version_max section.lock section.code section.slot
    in_line = sound.published.line

    code : (micro : Micro) → micro_at (line_of m q) q.at ≡ micro → section.code q.at ≡ micro
    code micro at = code_here m l a s whole.sections r q runs all q.at ∙ at

    done : section.done ≢ 0
    done e = quiet.done r q runs (sym ((whole.sections.sections q.descriptor).done) ∙ e)

    -- its run is behind the furthest one
    late : (micro : Micro) → micro_at (line_of m q) q.at ≡ micro → is_event micro ≡ true → q.at < section.edge
    late micro at event = ⊎_elim (λ less. less) (λ e. absurd (stops e)) (less_or_same q.at section.edge
        (let behind = run_sound.in_trail.behind in let same = here.at in omega (arith, behind, same)))
      where
        less_or_same : (i n : ℕ) → i ≤ n → (i < n) ⊎ (i ≡ n)
        less_or_same i n le = search arith

        stops : q.at ≡ section.edge → ⊥
        stops e =
            let stop = sound.section.in_log.stops done in
            let goes = event_goes (rules_of m l) q.descriptor section.log micro event in
            let same : section.code section.edge ≡ micro = ap section.code (sym e) ∙ code micro at in
            let both = sym (ap (λ n. is_stop (rules_of m l) q.descriptor section.log n) same) ∙ stop in let no = sym both ∙ goes in cc

    cell_same : (place : ℕ) → a.shared.cells place ≡ f (spots.Cell place)
    cell_same place = whole.sections.words.cells place

    store_leaves : line_ask m l kinds.ExchangeCell y.nodes.free y.blocks.free q (next_of m q) ≡ Some x → Stays f p x
    store_leaves e =
        let h = asked_line.exchange_asked q x l (next_of m q) e in
        let at = next_in_line m q (micros.ExchangeCell h.0 h.1 h.2) refl h.3 in
        misses f p x h.0 (slice_index q.trail h.1) _ h.4 (λ finds. absurd (
        let past = sound.section.in_cells.left q.at h.0 h.1 h.2 (late _ at refl) (code _ at) in
        let count = run_sound.in_trail.counted ∙ ap section.slot here.at in
        let low = store_logged (rules_of m l) section.lock section.code section.slot in_line q.at h.0 h.1 h.2 (code _ at) in
        let trail : slice_index q.trail h.1 ≡ section.log h.1 = sym (here.trail h.1) ∙ run_sound.in_trail.agreed h.1 (omega (arith, low, count)) in
        let same : a.shared.cells h.0 ≡ section.log h.1 = cell_same h.0 ∙ (finds ∙ trail) in
        let v = ap version_of same in omega (arith, past, v)))

    take_leaves : line_ask m l kinds.NestedHold y.nodes.free y.blocks.free q (next_of m q) ≡ Some x → Stays f p x
    take_leaves e =
        let h = asked_line.nested_hold_asked q x l (next_of m q) e in
        let at = next_in_line m q (micros.NestedHold h.0 h.1) refl h.2 in
        misses f p x h.0 h.1 _ h.3 (λ finds. absurd (
        let past = sound.section.in_locks.nested_past q.at h.0 h.1 (late _ at refl) (code _ at) in
        let v = ap version_of (cell_same h.0 ∙ finds) in omega (arith, past, v)))

    release_leaves : line_ask m l kinds.Release y.nodes.free y.blocks.free q (next_of m q) ≡ Some x → Stays f p x
    release_leaves e =
        let h = asked_line.release_asked q x l (next_of m q) e in
        let lock = released_lock m l rs g s whole r q runs opened h.0 h.1 h.2 in
        misses f p x h.0 (held_word q.descriptor h.1) _ h.3 (λ finds. absurd (
        held_value q.descriptor h.1 sound.published.link (sym (ap value_of finds) ∙ quiet.unlocked h.0 lock)))
      where
        held_value : (d w : ℕ) → suc d < 2 ^ 32 → value_of (held_word d w) ≡ 0 → ⊥
        held_value d w low none = absurd (omega (arith, low, none))

    -- a commit of a Make comes late
    make_loses : line_ask m l kinds.MakeCommit y.nodes.free y.blocks.free q (next_of m q) ≡ Some x → f x.0 ≡ 0 → ⊥
    make_loses e none =
        let c = blocks_asked.make_commit_asked q x (next_of m q) e in
        let k = c.2.log in
        let at = next_in_line m q (micros.MakeCommit k) refl c.2.step in
        let behind = late _ at refl in
        let place = in_line.counted.make_log q.at k (code _ at) in
        let more = in_line.counted.slot_commit q.at (ap is_commit (code _ at)) in
        let rises = in_line.counted.slot_rises (suc q.at) section.edge (omega (arith, behind)) in
        let full = sound.section.in_log.full k (omega (arith, place, more, rises)) in
        let same : section.log k ≡ 0 = sym (log_seen m l whole.logs.chain g.agreement g.epochs s whole.slots whole.logs.stands r q runs k c.2.near)
        ∙ (ap (λ (u : Spot × Access). f u.0) c.2.is ∙ none) in
        absurd (omega (arith, full, same))

    own_slot : (made : Option ℕ) (t : ℕ) → is_slot made t ≡ true → made ≡ Some t
    own_slot None t e = absurd (let no = e in cc)
    own_slot (Some u) t e = ap (λ k. Some k) (test_same u t e)

    fill_leaves : (t cell number : ℕ) → fill_store_ask m l t cell number q (next_of m q) ≡ Some x → Leaves
    fill_leaves t cell number e =
        let h = asked_line.fill_store_asked q x m l t cell number (next_of m q) e in
        ⊎_elim
        (λ at. inr (inr (record {
          slot = t;
          cell = cell;
          place = at;
          here = (whole.slots.tied r).run_made q t runs (own_slot q.made t h.3);
          low = fill_low m l (counts_of m l) (states_of g s) whole.kept q.descriptor q.at cell h.0 h.1 used
              (code _ (next_in_line m q (micros.PrivateStore cell h.0 h.1) refl h.2));
        })))
        (λ ne. inl (other f p x (cell_of m.fixed_cells t cell) _ h.6 ne))
        (cases_eq p (cell_of m.fixed_cells t cell))

    line_leaves : (kind' : EventKind) → line_ask m l kind' y.nodes.free y.blocks.free q (next_of m q) ≡ Some x → Leaves
    line_leaves kinds.ExchangeCell e = inl (store_leaves e)
    line_leaves (kinds.PrivateStore t cell number) e = ⊎_elim
        (λ block. inl (subst (Stays f p) block.1 (block_stays f p (t - blocks_from m l) cell number)))
        (λ fills. fill_leaves t cell number fills.1)
        (asked_line.run_store_asked q x m l t cell number y.blocks.free (next_of m q) e)
    line_leaves kinds.NestedHold e = inl (take_leaves e)
    line_leaves kinds.Release e = inl (release_leaves e)
    line_leaves kind' e = inl (line_stays f p m l q x kind' y.nodes.free y.blocks.free (next_of m q) refl e)

  inside_leaves : (q : RunState) → y.run ≡ Some q → (b : Bool) → is_open_run q ≡ b
      → (if b then line_ask m l kind y.nodes.free y.blocks.free q (next_of m q) else opening_ask kind q) ≡ Some x → Leaves
  inside_leaves q runs true opened e = line_leaves q runs opened kind e
  inside_leaves q runs false opened e = inl (opening_stays f p m l q x kind e)

  hold_leaves : (t : Thunk) (d : ℕ) → kind ≡ kinds.Hold t d → y.run ≡ None → outside_ask m l rs r (kinds.Hold t d) y ≡ Some x → Leaves
  hold_leaves t d is none e = by (f x.0 == t.word) refl
    where
      asked : HoldAsked m l rs t d y x
      asked = hold_asked m l rs r t d y x e

      by : (b : Bool) → (f x.0 == t.word) ≡ b → Leaves
      by true won = inr (inl (record { thunk = t; descriptor = d; is = is; none = none; won = test_same (f x.0) t.word won }))
      by false fails = inl (misses f p x t.lock t.word _ asked.is
          (λ finds. unlike (f x.0) t.word fails (ap (λ (u : Spot × Access). f u.0) (sym asked.is) ∙ finds)))
        where
          unlike : (i k : ℕ) → (i == k) ≡ false → i ≡ k → ⊥
          unlike i k fails same = grind (arith, nat_tests)

  outside_leaves : (kind' : EventKind) → kind ≡ kind' → y.run ≡ None → outside_ask m l rs r kind' y ≡ Some x → Leaves
  outside_leaves (kinds.Hold t d) is none e = hold_leaves t d is none e
  outside_leaves kind' is none e = inl (outside_stays f p m l rs r y x kind' refl e)

  pub leaves : ask_by m l rs r kind y y.run ≡ Some x → Leaves
  leaves asked = by y.run refl asked
    where
      by : (o : Option RunState) → y.run ≡ o → ask_by m l rs r kind y o ≡ Some x → Leaves
      by None is e = outside_leaves kind refl is e
      by (Some q) is e = inside_leaves q is (is_open_run q) refl e

  -- no Make wins
  pub no_make : ask_by m l rs r kind y y.run ≡ Some x → (q : RunState) → y.run ≡ Some q → is_open_run q ≡ true → kind ≡ kinds.MakeCommit → f x.0 ≡ 0 → ⊥
  no_make asked q runs opened is none = make_loses q runs opened
      (ap (λ b. if b then line_ask m l kinds.MakeCommit y.nodes.free y.blocks.free q (next_of m q) else opening_ask kinds.MakeCommit q) (sym opened)
      ∙ subst (λ k. ask_by m l rs r k y (Some q) ≡ Some x) is (subst (λ o. ask_by m l rs r kind y o ≡ Some x) runs asked)) none
