-- Where one section alone is open a step changes a cell by that section, or in the slot of a Make.
use Rattle.std.specs.Prelude.{◌^◌, ◌⊎◌, nat_le, Bool, true, false, slice_index, slice_index_or, if◌then◌else◌, ◌-◌}
use Rattle.std.proofs.Common.{◌≡◌, ◌≢◌, ℕ, zero, suc, ◌<◌, ◌≤◌, List, length, refl, sym, ap, ◌∙◌, subst, ⊎_elim, inl, inr, arith, Option, Some, None}
use Rattle.std.proofs.lemmas.Bool.{cases_eq}
use Rattle.std.proofs.lemmas.Bool.Decides.{nat_tests}
use Rattle.machine_states.specs.map_history.specs.declared.op.Request.{Request}
use Rattle.machine_states.specs.body_terms.specs.Line.{micro_at, is_event, ending}
use Rattle.machine_states.specs.body_terms.specs.Memory.{cell_of}
use Rattle.machine_states.specs.body_terms.specs.Word.{value_of, version_of, held_word}
use Rattle.machine_states.specs.body_terms.specs.declared.micro.Source.{Source}
use Rattle.machine_states.specs.body_terms.specs.declared.micro.Micro.{Micro}
use Rattle.machine_states.specs.body_terms.specs.declared.micro.Micro.TheVariants as micros
use Rattle.machine_states.specs.body_terms.specs.declared.thunk.Thunk.{Thunk}
use Rattle.agreement_core.specs.section_lines.specs.Line.{IsLine}
use Rattle.machine_states.specs.table_words.specs.declared.layout.Layout.{Layout}
use Rattle.machine_states.specs.table_words.specs.declared.spot.Spot.{Spot}
use Rattle.machine_states.specs.table_words.specs.declared.spot.Spot.TheVariants as spots
use Rattle.machine_states.specs.table_words.specs.declared.access.Access.{Access}
use Rattle.machine_states.specs.table_words.specs.Access.{written, exchanged}
use Rattle.machine_states.specs.table_words.specs.Seen.{put}
use Rattle.machine_states.specs.structure_laws.specs.Meaning.{Meaning}
use Rattle.machine_states.specs.runner_parts.specs.declared.event.EventKind.{EventKind}
use Rattle.machine_states.specs.runner_parts.specs.declared.event.EventKind.TheVariants as kinds
use Rattle.machine_states.specs.runner_parts.specs.State.{RunState, PartState}
use Rattle.machine_states.specs.runner_steps.specs.Asks.{opening_ask}
use Rattle.machine_states.specs.runner_steps.specs.Asks.{ask_by, line_ask, outside_ask}
use Rattle.machine_states.specs.runner_steps.specs.InRun.{is_slot, fill_store_ask}
use Rattle.machine_states.specs.runner_steps.specs.Sections.{thunk_of, is_open_run, line_of, next_of}
use Rattle.agreement_core.specs.State.{AgreementState, Section, Run}
use Rattle.agreement_core.specs.Checks.{is_stop}
use Rattle.agreement_core.specs.Runs.{RunIsSound}
use Rattle.agreement_core.specs.Sound.{UsedIsSound}
use Rattle.agreement_core.proofs.Lines.{event_goes, store_logged}
use Rattle.machine_states.specs.epoch_core.specs.declared.location.Location.TheVariants.{Hand}
use Rattle.machine_states.specs.Sight.{Sight}
use Rattle.resource_bounds.specs.machine_epochs.specs.Entries.{counts_of}
use Rattle.resource_bounds.specs.machine_epochs.proofs.OutsideAsked.{HoldAsked, hold_asked}
use Rattle.resource_bounds.specs.machine_epochs.proofs.RunPlaces.{next_in_line, open_run}
use Rattle.resource_bounds.specs.machine_scenes.specs.Shown.{rules_of}
use Rattle.runner_facts.specs.machine_facts.specs.machine_slots.proofs.Runs.{fill_low}
use Rattle.runner_facts.specs.machine_facts.specs.machine_agreement.specs.Joined.{IsRunOf}
use Rattle.runner_facts.specs.machine_facts.specs.machine_agreement.proofs.Ends.{at_end}
use Rattle.runner_facts.specs.machine_facts.specs.machine_agreement.proofs.RunPlaces.{run_here, used_here, code_here}
use Rattle.runner_facts.specs.machine_facts.specs.machine_agreement.proofs.LineAsked as asked_line
use Rattle.runner_facts.specs.machine_facts.specs.machine_invariant.specs.Whole.{Beside, states_of, IsWhole}
use Rattle.resource_bounds.proofs.Releases.{released_lock}
use Rattle.resource_bounds.proofs.Words.{Stays, line_stays, opening_stays, outside_stays, block_stays}
use Rattle.one_worker.proofs.OneCell.{test_same, other, it, misses}
use Rattle.machine_states.specs.runner_steps.specs.Outside.{blocks_from}

-- a run of a section: its place, and what a late one does
module _ (m : Meaning) (l : Layout) (g : Beside) (s : Sight) (whole : IsWhole m l g s) (r : ℕ) (q : RunState) (runs : (s.part r).run ≡ Some q)
    (all : length q.opened ≡ 13) where
  abbrev a : AgreementState
  a = g.agreement

  abbrev pub section : Section
  section = a.section q.descriptor

  abbrev pub run : Run
  run = a.run r

  pub used : a.used q.descriptor ≡ true
  used = used_here m l a s whole.sections r q runs

  pub here : IsRunOf run q
  here = run_here m l a s whole.sections r q runs

  pub sound : UsedIsSound (rules_of m l) a.shared (a.live q.descriptor) (a.over q.descriptor) q.descriptor section
  sound = whole.sections.sound.sections q.descriptor used

  pub run_sound : RunIsSound (rules_of m l) a.shared q.descriptor section run
  run_sound = subst (λ d. RunIsSound (rules_of m l) a.shared d (a.section d) run) here.descriptor (whole.sections.sound.runs r here.running)

  pub in_line : IsLine m.is_lock l.version_max section.lock section.code section.slot
  in_line = sound.published.line

  pub code : (micro : Micro) → micro_at (line_of m q) q.at ≡ micro → section.code q.at ≡ micro
  code micro at = code_here m l a s whole.sections r q runs all q.at ∙ at

  pub behind : q.at ≤ section.edge
  behind = let le = run_sound.in_trail.behind in let same = here.at in omega (arith, le, same)

  less_or_same : (i n : ℕ) → i ≤ n → (i < n) ⊎ (i ≡ n)
  less_or_same i n le = search arith

  -- in a section that is done each step comes late
  pub late : section.done ≢ 0 → (micro : Micro) → micro_at (line_of m q) q.at ≡ micro → is_event micro ≡ true → q.at < section.edge
  late done micro at event = ⊎_elim (λ less. less) (λ e. absurd (stops e)) (less_or_same q.at section.edge behind)
    where
      stops : q.at ≡ section.edge → ⊥
      stops e =
          let stop = sound.section.in_log.stops done in
          let goes = event_goes (rules_of m l) q.descriptor section.log micro event in
          let same : section.code section.edge ≡ micro = ap section.code (sym e) ∙ code micro at in
          let both = sym (ap (λ n. is_stop (rules_of m l) q.descriptor section.log n) same) ∙ stop in let fails = sym both ∙ goes in cc

  -- what it has agreed on
  pub trail_is : (k : ℕ) → k < section.slot q.at → slice_index q.trail k ≡ section.log k
  trail_is k low = let count = run_sound.in_trail.counted ∙ ap section.slot here.at in
      sym (here.trail k) ∙ run_sound.in_trail.agreed k (omega (arith, low, count))

-- a step of a runner that has this part in this state, which asks this; one section is open
module _ (m : Meaning) (l : Layout) (rs : List Request) (g : Beside) (s : Sight) (whole : IsWhole m l g s) (d : ℕ)
    (open_one : (g.agreement.section d).done ≡ 0)
    (alone : (e : ℕ) → g.agreement.used e ≡ true → (g.agreement.section e).done ≡ 0 → e ≡ d)
    (named : (p e : ℕ) → m.is_lock p ≡ true → value_of (s.word (spots.Cell p)) ≡ suc e → e ≡ d)
    (r : ℕ) (kind : EventKind) (x : Spot × Access) (p : ℕ)
    (no_hold : (t : Thunk) (e : ℕ) → kind ≡ kinds.Hold t e → (s.part r).run ≡ None → s.word x.0 ≡ t.word → ⊥) where
  abbrev f : Spot → ℕ
  f = s.word

  abbrev y : PartState
  y = s.part r

  abbrev word' : ℕ
  word' = put f x.0 (written x.1 (f x.0)) (spots.Cell p)

  -- a store into a slot in the runner's hand
  pub record Fills : Type 0 where
    pub slot : ℕ
    pub cell : ℕ
    pub low : cell < 5
    pub place : p ≡ cell_of m.fixed_cells slot cell
    pub here : g.epochs.location slot ≡ Hand r

  -- a run of the open section stores to the cell, or takes the lock
  pub record Own : Type 0 where
    pub run : RunState
    pub runs : y.run ≡ Some run
    pub opened : length run.opened ≡ 13
    pub of : run.descriptor ≡ d
    pub by : ((k : ℕ) × (v : Source) × (micro_at (line_of m run) run.at ≡ micros.ExchangeCell p k v))
        ⊎ ((w : ℕ) × (micro_at (line_of m run) run.at ≡ micros.NestedHold p w) × (word' ≡ exchanged (f (spots.Cell p)) w (held_word d w)))

  abbrev pub Leaves : Type 0
  Leaves = Stays f p x ⊎ (Fills ⊎ Own)

  module _ (q : RunState) (runs : y.run ≡ Some q) (opened : is_open_run q ≡ true) where
    all : length q.opened ≡ 13
    all = open_run q opened

    abbrev x0 : Section
    x0 = g.agreement.section q.descriptor

    cell_same : (place : ℕ) → g.agreement.shared.cells place ≡ f (spots.Cell place)
    cell_same place = whole.sections.words.cells place

    -- the section is the open one, or done
    either_way : (n : ℕ) → x0.done ≡ n → (q.descriptor ≡ d) ⊎ (x0.done ≡ 0 → ⊥)
    either_way zero e = inl (alone q.descriptor (used m l g s whole r q runs all) e)
    either_way (suc n) e = inr (λ z. omega (arith, e, z))

    store_leaves : line_ask m l kinds.ExchangeCell y.nodes.free y.blocks.free q (next_of m q) ≡ Some x → Leaves
    store_leaves e =
        let h = asked_line.exchange_asked q x l (next_of m q) e in
        let at = next_in_line m q (micros.ExchangeCell h.0 h.1 h.2) refl h.3 in
        ⊎_elim
        (λ own. ⊎_elim
        (λ same. inr (inr (record {
          run = q;
          runs = runs;
          opened = all;
          of = own;
          by = inl (h.1, h.2, at ∙ ap (λ i. micros.ExchangeCell i h.1 h.2) (sym same));
        })))
        (λ ne. inl (other f p x h.0 _ h.4 ne))
        (cases_eq p h.0))
        (λ done. inl (misses f p x h.0 (slice_index q.trail h.1) _ h.4 (λ finds.
        let past = (sound m l g s whole r q runs all).section.in_cells.left q.at h.0 h.1 h.2
        (late m l g s whole r q runs all done _ at refl) (code m l g s whole r q runs all _ at) in
        let low = store_logged (rules_of m l) x0.lock x0.code x0.slot (in_line m l g s whole r q runs all) q.at h.0 h.1 h.2 (code m l g s whole r q runs all _ at) in
        let same : g.agreement.shared.cells h.0 ≡ x0.log h.1 = cell_same h.0 ∙ (finds ∙ trail_is m l g s whole r q runs all h.1 low) in
        let v = ap version_of same in omega (arith, past, v))))
        (either_way x0.done refl)

    take_leaves : line_ask m l kinds.NestedHold y.nodes.free y.blocks.free q (next_of m q) ≡ Some x → Leaves
    take_leaves e =
        let h = asked_line.nested_hold_asked q x l (next_of m q) e in
        let at = next_in_line m q (micros.NestedHold h.0 h.1) refl h.2 in
        ⊎_elim
        (λ own. ⊎_elim
        (λ same. inr (inr (record {
          run = q;
          runs = runs;
          opened = all;
          of = own;
          by = inr (
            h.1,
            at ∙ ap (λ i. micros.NestedHold i h.1) (sym same),
            it f p x h.0 _ h.3 same ∙ ap (λ e. exchanged (f (spots.Cell p)) h.1 (held_word e h.1)) own,
          );
        })))
        (λ ne. inl (other f p x h.0 _ h.3 ne))
        (cases_eq p h.0))
        (λ done. inl (misses f p x h.0 h.1 _ h.3 (λ finds.
        let past = (sound m l g s whole r q runs all).section.in_locks.nested_past q.at h.0 h.1
        (late m l g s whole r q runs all done _ at refl) (code m l g s whole r q runs all _ at) in
        let v = ap version_of (cell_same h.0 ∙ finds) in omega (arith, past, v))))
        (either_way x0.done refl)

    release_leaves : line_ask m l kinds.Release y.nodes.free y.blocks.free q (next_of m q) ≡ Some x → Stays f p x
    release_leaves e =
        let h = asked_line.release_asked q x l (next_of m q) e in
        let lock = released_lock m l rs g s whole r q runs opened h.0 h.1 h.2 in
        misses f p x h.0 (held_word q.descriptor h.1) _ h.3 (λ finds.
        let own = named h.0 q.descriptor lock (ap value_of finds ∙ held_value q.descriptor h.1 (sound m l g s whole r q runs all).published.link) in
        ended h.0 h.1 h.2 (ap (λ e. (g.agreement.section e).done) own ∙ open_one))
      where
        held_value : (e w : ℕ) → suc e < 2 ^ 32 → value_of (held_word e w) ≡ suc e
        held_value e w low = omega (arith, low)

        some_ended : (n : ℕ) → n ≢ 0 → nat_le 1 n ≡ true
        some_ended n ne = grind (arith, nat_tests)

        -- a run that releases has found its section done
        ended : (place w : ℕ) → next_of m q ≡ micros.Release place w → x0.done ≡ 0 → ⊥
        ended place w next undone =
            let at = at_end m l rs g.agreement s whole.sections r q runs opened (micros.Release place w) (omega arith) next in
            (run_sound m l g s whole r q runs all).in_trail.ended_done
            ((here m l g s whole r q runs all).ended ∙ some_ended q.ended (λ z. first z at.1)) undone
          where
            first : q.ended ≡ 0 → slice_index_or (ending (line_of m q) q.at (thunk_of q.opened).lock (thunk_of q.opened).word) q.ended micros.End ≡ micros.Release place w → ⊥
            first z is = let none : micros.SetDone ≡ micros.Release place w =
                ap (λ n. slice_index_or (ending (line_of m q) q.at (thunk_of q.opened).lock (thunk_of q.opened).word) n micros.End) (sym z) ∙ is in cc

    own_slot : (made : Option ℕ) (t : ℕ) → is_slot made t ≡ true → made ≡ Some t
    own_slot None t e = absurd (let fails = e in cc)
    own_slot (Some u) t e = ap (λ k. Some k) (test_same u t e)

    fill_leaves : (t cell number : ℕ) → fill_store_ask m l t cell number q (next_of m q) ≡ Some x → Leaves
    fill_leaves t cell number e =
        let h = asked_line.fill_store_asked q x m l t cell number (next_of m q) e in
        ⊎_elim
        (λ at. inr (inl (record {
          slot = t;
          cell = cell;
          low = fill_low m l (counts_of m l) (states_of g s) whole.kept q.descriptor q.at cell h.0 h.1 (used m l g s whole r q runs all)
              (code m l g s whole r q runs all _ (next_in_line m q (micros.PrivateStore cell h.0 h.1) refl h.2));
          place = at;
          here = (whole.slots.tied r).run_made q t runs (own_slot q.made t h.3);
        })))
        (λ ne. inl (other f p x (cell_of m.fixed_cells t cell) _ h.6 ne))
        (cases_eq p (cell_of m.fixed_cells t cell))

    line_leaves : (kind' : EventKind) → line_ask m l kind' y.nodes.free y.blocks.free q (next_of m q) ≡ Some x → Leaves
    line_leaves kinds.ExchangeCell e = store_leaves e
    line_leaves (kinds.PrivateStore t cell number) e = ⊎_elim
        (λ block. inl (subst (Stays f p) block.1 (block_stays f p (t - blocks_from m l) cell number)))
        (λ fills. fill_leaves t cell number fills.1)
        (asked_line.run_store_asked q x m l t cell number y.blocks.free (next_of m q) e)
    line_leaves kinds.NestedHold e = take_leaves e
    line_leaves kinds.Release e = inl (release_leaves e)
    line_leaves kind' e = inl (line_stays f p m l q x kind' y.nodes.free y.blocks.free (next_of m q) refl e)

  inside_leaves : (q : RunState) → y.run ≡ Some q → (b : Bool) → is_open_run q ≡ b
      → (if b then line_ask m l kind y.nodes.free y.blocks.free q (next_of m q) else opening_ask kind q) ≡ Some x → Leaves
  inside_leaves q runs true opened e = line_leaves q runs opened kind e
  inside_leaves q runs false opened e = inl (opening_stays f p m l q x kind e)

  hold_leaves : (t : Thunk) (e : ℕ) → kind ≡ kinds.Hold t e → y.run ≡ None → outside_ask m l rs r (kinds.Hold t e) y ≡ Some x → Leaves
  hold_leaves t e is none asks = inl (misses f p x t.lock t.word _ asked.is
      (λ finds. no_hold t e is none (ap (λ (u : Spot × Access). f u.0) (sym asked.is) ∙ finds)))
    where
      asked : HoldAsked m l rs t e y x
      asked = hold_asked m l rs r t e y x asks

  outside_leaves : (kind' : EventKind) → kind ≡ kind' → y.run ≡ None → outside_ask m l rs r kind' y ≡ Some x → Leaves
  outside_leaves (kinds.Hold t e) is none asks = hold_leaves t e is none asks
  outside_leaves kind' is none asks = inl (outside_stays f p m l rs r y x kind' refl asks)

  pub leaves : ask_by m l rs r kind y y.run ≡ Some x → Leaves
  leaves asked = by y.run refl asked
    where
      by : (o : Option RunState) → y.run ≡ o → ask_by m l rs r kind y o ≡ Some x → Leaves
      by None is e = outside_leaves kind refl is e
      by (Some q) is e = inside_leaves q is (is_open_run q) refl e
