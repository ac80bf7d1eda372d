-- What a Make's private stores and its commit ask for.
use Rattle.std.proofs.Common.{◌≡◌, ℕ, suc, ◌<◌, ◌≤◌, ◌^◌, true, zero, refl, sym, ap, ◌∙◌, subst, ⊎_elim, arith}
use Rattle.std.specs.Prelude.{Option, Some, slice_get, slice_index_or, List, [], ◌∷◌, length}
use Rattle.std.proofs.lemmas.Bool.{cases_eq, cases_lt, both_ways}
use Rattle.agreement_core.specs.body_terms.specs.Word.{value_of, version_of, next_word}
use Rattle.agreement_core.specs.body_terms.specs.Line.{Registers, registers_before, source_of, is_commit}
use Rattle.agreement_core.specs.body_terms.specs.declared.micro.Source.{Source}
use Rattle.agreement_core.specs.body_terms.specs.declared.micro.Micro.{Micro}
use Rattle.agreement_core.specs.body_terms.specs.declared.micro.Micro.TheVariants as micros
use Rattle.agreement_core.specs.body_terms.specs.declared.value.Value.{Value}
use Rattle.agreement_core.specs.body_terms.specs.declared.value.Value.TheVariants.{Const, Of, Made}
use Rattle.agreement_core.specs.table_words.specs.declared.layout.Layout.{Layout}
use Rattle.agreement_core.specs.table_words.specs.Limits.{IsWithinLimits}
use Rattle.agreement_core.specs.section_lines.specs.structure_laws.specs.Meaning.{Meaning}
use Rattle.agreement_core.specs.section_lines.specs.structure_laws.specs.Sections.{IsSmall}
use Rattle.agreement_core.specs.section_lines.specs.structure_laws.specs.Cells.{cell_of, slots}
use Rattle.agreement_core.specs.section_lines.specs.structure_laws.specs.Laws.{Laws}
use Rattle.agreement_core.specs.section_lines.specs.Line.{IsLine}
use Rattle.agreement_core.specs.section_lines.proofs.Fills.{fill_at}
use Rattle.agreement_core.specs.State.{Run, Section, AgreementState, section_of}
use Rattle.agreement_core.specs.Checks.{source_in}
use Rattle.agreement_core.specs.Events.{IsBefore, IsPrivateStore}
use Rattle.agreement_core.proofs.Words.{version_next, value_next, value_small}
use Rattle.epoch_core.specs.declared.location.Location.{Location}
use Rattle.epoch_core.specs.declared.location.Location.TheVariants.{Hand}
use Rattle.epoch_core.specs.State.{Counts}
use Rattle.machine_scenes.specs.Shown.{States, rules_of}
use Rattle.machine_scenes.specs.Kept.{IsKept}
use Rattle.machine_scenes.specs.Supplied.{SuppliesAgreement}
use Rattle.machine_scenes.specs.Schedules.{first_states}
use Rattle.machine_scenes.specs.Shown.{Publications}
use Rattle.machine_scenes.proofs.JointSteps.{hand_status}
use Rattle.machine_scenes.proofs.Supplies.{supplies_agreement}
use Rattle.machine_slots.specs.Hands as hands
use Rattle.machine_slots.specs.Hands.{LocksAreHeld, LocksAreFree, AreInHand, SlotsAreFilled}
use Rattle.machine_slots.specs.Laws.{SuppliesStores, FirstHands}
use Rattle.machine_slots.proofs.Runs.{fill_low, fill_place}

same_slot : (t u : ℕ) (x : Option ℕ) → x ≡ Some t → x ≡ Some u → t ≡ u
same_slot t u x e e' = cc

store_commit : (x : Micro) (cell log k : ℕ) (value : Source) → x ≡ micros.PrivateStore cell log value → x ≡ micros.MakeCommit k → ⊥
store_commit x cell log k value e e' = cc

get_within : (cells : List Value) (cell : ℕ) (value : Value) → cell < length cells
    → slice_get cells cell ≡ Some (slice_index_or cells cell value)
get_within [] cell value low = absurd (omega arith)
get_within (first ∷ cells) zero value low = refl
get_within (first ∷ cells) (suc cell) value low = get_within cells cell value (omega arith)

-- what a small value writes has 32 bits
source_small : (g : Registers) (value : Value) (trail : ℕ → ℕ) → IsSmall value → source_in trail (source_of g value) < 2 ^ 32
source_small g (Const n) trail small = small
source_small g (Of r) trail small = value_small (trail (g.log r))
source_small g (Made r) trail small = value_small (trail (g.log r))

module _ (m : Meaning) (layout : Layout) (c : Counts) (j : States) (kept : IsKept m layout c j) where
  abbrev a : AgreementState
  a = j.agreement

  -- before a Make's commit each cell of its slot holds what the Make's private store there writes
  pub may_make_filled : (made : hands.Made) → SlotsAreFilled m c j made → (r log t : ℕ) → IsBefore a r (micros.MakeCommit log) → made r ≡ Some t
      → (cell at : ℕ) (value : Source) → cell < 5 → (section_of a r).code at ≡ micros.PrivateStore cell log value
      → value_of (a.shared.cells (cell_of m t cell)) ≡ source_in ((a.run r).trail) value
  may_make_filled made was r log t before is cell at value low stores =
      let f = was.filled r at cell log value before.running below stores (commits ∙ sym counted) in
      ap (λ n. value_of (a.shared.cells (cell_of m n cell))) (same_slot t f.0 (made r) is f.1) ∙ f.2
    where
      s : Section
      s = section_of a r

      q : Run
      q = a.run r

      used : a.used q.descriptor ≡ true
      used = kept.agreement.running_used r before.running

      line : IsLine m.is_lock layout.version_max s.lock s.code s.slot
      line = (kept.agreement.sections q.descriptor used).published.line

      place : log ≡ s.slot at
      place = fill_place m layout c j kept q.descriptor at cell log value used stores

      commits : log ≡ s.slot q.at
      commits = line.counted.make_log q.at log before.next

      counted : q.count ≡ s.slot q.at
      counted = (kept.agreement.runs r before.running).in_trail.counted

      below : at < q.at
      below = ⊎_elim (λ lt. lt)
          (λ le. ⊎_elim
          (λ same. absurd (store_commit (s.code at) cell log log value stores (ap s.code same ∙ before.next)))
          (λ ne. absurd (let next = line.counted.slot_commit q.at (ap is_commit before.next) in
          let rises = line.counted.slot_rises (suc q.at) at (omega arith) in
          let one : s.slot at ≡ s.slot q.at = sym place ∙ commits in omega arith))
          (cases_eq at q.at))
          (cases_lt at q.at)

  -- what a private store writes has 32 bits
  pub fill_small : (r i cell log : ℕ) (value : Source) (trail : ℕ → ℕ) → (a.run r).running ≡ true
      → (section_of a r).code i ≡ micros.PrivateStore cell log value → source_in trail value < 2 ^ 32
  fill_small r i cell log value trail running is =
      let d = (a.run r).descriptor in let used = kept.agreement.running_used r running in
      let fill = fill_at (m.body (j.publications.thunk d)) i cell log value (sym ((kept.thunks d used).code i) ∙ is) in
      let shaped = kept.shaped d used in
      let whole = shaped.make_whole fill.step fill.register fill.init fill.here in
      let given = slice_index_or fill.init.cells cell (Const 0) in
      subst (λ x. source_in trail x < 2 ^ 32) (sym fill.source)
      (source_small (registers_before (m.body (j.publications.thunk d)) fill.step) given trail
      (shaped.make_small fill.step fill.register cell fill.init given fill.here
      (get_within fill.init.cells cell (Const 0) (let low = fill.low in omega arith))))

module _ (m : Meaning) (laws : Laws m) (layout : Layout) (limits : IsWithinLimits layout) (c : Counts) (nodes : c.nodes ≡ slots m layout)
    (j : States) (kept : IsKept m layout c j) where
  -- a Make's store of the next word, of a version within the greatest one
  pub private_store_is : LocksAreFree m c j → (made : hands.Made) → SlotsAreFilled m c j made → (r cell log t number : ℕ) (value : Source)
      → IsBefore j.agreement r (micros.PrivateStore cell log value) → made r ≡ Some t → j.epochs.location t ≡ Hand r → t < c.nodes
      → number ≡ next_word ((j.agreement.run r).word) (source_in ((j.agreement.run r).trail) value)
      → version_of ((j.agreement.run r).word) < layout.version_max
      → IsPrivateStore (rules_of m layout) j.agreement (cell_of m t cell) number
  private_store_is free made was r cell log t number value before is here node word more = record {
    apart = supplies.apart r t cell here low;
    free_before = λ lock. free t cell node low (hand_status c j.epochs.location t r here) lock;
    free_after = λ lock. ap value_of word ∙ (value_next q.word (source_in q.trail value) small
        ∙ ap (source_in q.trail) (supplies.unlocked r cell log t value before lock));
    rises = rises ∙ ap (λ n. suc (version_of n)) found;
    bounded = subst (λ n. n ≤ layout.version_max) (sym rises) (omega arith);
  }
    where
      q : Run
      q = j.agreement.run r

      supplies : SuppliesAgreement m layout c j
      supplies = supplies_agreement m laws layout limits c nodes j kept

      low : cell < 5
      low = fill_low m layout c j kept q.descriptor q.at cell log value (kept.agreement.running_used r before.running) before.next

      small : source_in q.trail value < 2 ^ 32
      small = fill_small m layout c j kept r q.at cell log value q.trail before.running before.next

      rises : version_of number ≡ suc (version_of q.word)
      rises = ap version_of word ∙ version_next q.word (source_in q.trail value) small

      found : q.word ≡ j.agreement.shared.cells (cell_of m t cell)
      found = let f = was.looked r cell log value before in
          f.2 ∙ ap (λ n. j.agreement.shared.cells (cell_of m n cell)) (same_slot f.0 t (made r) f.1 is)

  -- all that Makes ask for
  pub supplies_stores : LocksAreFree m c j → (made : hands.Made) → SlotsAreFilled m c j made → SuppliesStores m layout c j made
  supplies_stores free made was = record {
    commit = may_make_filled m layout c j kept made was;
    store = private_store_is free made was;
  }

module _ (m : Meaning) (c : Counts) (location : ℕ → Location) (p : Publications) where
  -- in the first states nothing is published, and nobody is in a run
  pub first_held : LocksAreHeld m c (first_states m location p)
  first_held = record { entered = λ d live. absurd (both_ways _ refl live); held = λ d t i live. absurd (both_ways _ refl live) }

  pub first_in_hand : (made : hands.Made) → AreInHand m c (first_states m location p) made
  first_in_hand made = record { node = λ r t running. absurd (both_ways _ refl running); here = λ r t running. absurd (both_ways _ refl running) }

  pub first_filled : (made : hands.Made) → SlotsAreFilled m c (first_states m location p) made
  first_filled made = record {
    filled = λ r i cell log value running. absurd (both_ways _ refl running);
    looked = λ r cell log value is. absurd (both_ways _ refl is.running);
  }

  pub hands_begin : (made : hands.Made) → FirstHands m c (first_states m location p) made
  hands_begin made = record { held = first_held; in_hand = first_in_hand made; filled = first_filled made }
