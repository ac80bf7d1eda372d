-- What a run has filled and looked at of its Make's slot, over each event but a private load or store of its own.
use Rattle.std.proofs.Common.{◌≡◌, ◌≢◌, ℕ, suc, ◌<◌, Bool, true, false, refl, sym, ap, ◌∙◌, subst, ⊎_elim, arith}
use Rattle.std.specs.Prelude.{Option, Some}
use Rattle.std.proofs.lemmas.Bool.{both_ways}
use Rattle.epoch_core.specs.small_lemmas.proofs.Numbers.{last_or_before as last_or}
use Rattle.agreement_core.specs.body_terms.specs.Update.{upd}
use Rattle.agreement_core.specs.body_terms.specs.Word.{value_of}
use Rattle.agreement_core.specs.body_terms.specs.declared.micro.Source.{Source}
use Rattle.agreement_core.specs.body_terms.specs.declared.micro.Micro.{Micro}
use Rattle.agreement_core.specs.body_terms.specs.declared.micro.Micro.TheVariants as micros
use Rattle.agreement_core.specs.table_words.specs.declared.layout.Layout.{Layout}
use Rattle.agreement_core.specs.section_lines.specs.structure_laws.specs.Meaning.{Meaning}
use Rattle.agreement_core.specs.section_lines.specs.structure_laws.specs.Cells.{cell_of}
use Rattle.agreement_core.specs.section_lines.specs.Line.{IsLine}
use Rattle.agreement_core.specs.section_lines.proofs.Fills.{fill_at, fill_log, fill_once}
use Rattle.agreement_core.specs.State.{CellRules, Run, AgreementState}
use Rattle.agreement_core.specs.Checks.{passes, source_in}
use Rattle.agreement_core.specs.Events.{Event, Enabled, after, begun, step_of}
use Rattle.agreement_core.specs.Events as agreement
use Rattle.agreement_core.specs.Sound.{UsedIsSound}
use Rattle.agreement_core.proofs.Continuing.{goes_on_all}
use Rattle.agreement_core.proofs.Moving.{upd_split}
use Rattle.epoch_core.specs.State.{Counts}
use Rattle.machine_scenes.specs.Shown.{States, rules_of}
use Rattle.machine_scenes.specs.Kept.{IsKept}
use Rattle.machine_slots.specs.Hands.{Made, SlotsAreFilled}

-- a private load or store
abbrev is_private : Micro → Bool
is_private (micros.PrivateLoad cell log) = true
is_private (micros.PrivateStore cell log value) = true
is_private _ = false

-- an event that is neither
abbrev pub is_shared : Event → Bool
is_shared (agreement.PrivateLoad r cell log place) = false
is_shared (agreement.PrivateStore r cell log value place word) = false
is_shared _ = true

no_store : (x : Micro) (cell log : ℕ) (value : Source) → is_private x ≡ false → x ≡ micros.PrivateStore cell log value → ⊥
no_store x cell log value other is = neither (is_private x) other (ap is_private is)
  where
    neither : (b : Bool) → b ≡ false → b ≡ true → ⊥
    neither b e e' = cc

no_load : (x : Micro) (cell log : ℕ) → is_private x ≡ false → x ≡ micros.PrivateLoad cell log → ⊥
no_load x cell log other is = neither (is_private x) other (ap is_private is)
  where
    neither : (b : Bool) → b ≡ false → b ≡ true → ⊥
    neither b e e' = cc

pass_shared : (c : CellRules) (d : ℕ) (trail : ℕ → ℕ) (x : Micro) → passes c d trail x ≡ true → is_private x ≡ false
pass_shared c d trail (micros.PrivateLoad cell log) pass = cc
pass_shared c d trail (micros.PrivateStore cell log value) pass = cc
pass_shared c d trail x pass = grind arith

module _ (m : Meaning) (layout : Layout) (c : Counts) (j : States) (kept : IsKept m layout c j) where
  abbrev a : AgreementState
  a = j.agreement

  abbrev rules : CellRules
  rules = rules_of m layout

  own : (d : ℕ) → a.used d ≡ true → UsedIsSound rules a.shared (a.live d) (a.over d) d (a.section d)
  own d used = kept.agreement.sections d used

  line_of : (d : ℕ) → a.used d ≡ true → IsLine m.is_lock layout.version_max ((a.section d).lock) ((a.section d).code) ((a.section d).slot)
  line_of d used = (own d used).published.line

  -- a private store of a published section: its cell, its place in the log, and that its Make stores to its cell once
  pub fill_low : (d i cell log : ℕ) (value : Source) → a.used d ≡ true → (a.section d).code i ≡ micros.PrivateStore cell log value → cell < 5
  fill_low d i cell log value used is =
      (fill_at (m.body (j.publications.thunk d)) i cell log value (sym ((kept.thunks d used).code i) ∙ is)).low

  pub fill_place : (d i cell log : ℕ) (value : Source) → a.used d ≡ true → (a.section d).code i ≡ micros.PrivateStore cell log value
      → log ≡ (a.section d).slot i
  fill_place d i cell log value used is =
      fill_log (m.body (j.publications.thunk d)) i cell log value (sym ((kept.thunks d used).code i) ∙ is) ∙ sym ((kept.thunks d used).slot i)

  pub fill_same : (d i k cell log : ℕ) (v w : Source) → a.used d ≡ true → (a.section d).code i ≡ micros.PrivateStore cell log v
      → (a.section d).code k ≡ micros.PrivateStore cell log w → i ≡ k
  fill_same d i k cell log v w used is is' =
      fill_once (m.body (j.publications.thunk d)) (kept.shaped d used).shape i k cell log v w (sym ((kept.thunks d used).code i) ∙ is)
      (sym ((kept.thunks d used).code k) ∙ is')

  -- a private store stands right after the load of its cell
  pub load_before : (d n cell log : ℕ) (value : Source) → a.used d ≡ true → (a.section d).code (suc n) ≡ micros.PrivateStore cell log value
      → (a.section d).code n ≡ micros.PrivateLoad cell log
  load_before d n cell log value used is =
      let before = (line_of d used).ordered.fill_before (suc n) cell log value is in
      let same : before.0 ≡ n = (let e = before.1 in omega arith) in
      ap ((a.section d).code) (sym same) ∙ before.2

  -- what this run has filled and looked at, by these cells, where this is the slot that its Make fills
  pub record FillsRun (cells : ℕ → ℕ) (slot : Option ℕ) (q : Run) : Type 0 where
    pub used : q.running ≡ true → a.used q.descriptor ≡ true
    pub filled : (i cell log : ℕ) (value : Source) → q.running ≡ true → i < q.at
        → (a.section q.descriptor).code i ≡ micros.PrivateStore cell log value → log ≡ q.count
        → (t : ℕ) × (slot ≡ Some t) × (value_of (cells (cell_of m t cell)) ≡ source_in q.trail value)
    pub looked : (cell log : ℕ) (value : Source) → q.running ≡ true → q.ended ≡ false
        → (a.section q.descriptor).code q.at ≡ micros.PrivateStore cell log value
        → (t : ℕ) × (slot ≡ Some t) × (q.word ≡ cells (cell_of m t cell))

  -- after an event
  pub fills_all : (v : Event) → Enabled rules a v → (made : Made) → ((r : ℕ) → FillsRun ((after a v).shared.cells) (made r) ((after a v).run r))
      → (j' : States) → j'.agreement ≡ after a v → SlotsAreFilled m c j' made
  fills_all v ok made fills j' same = subst (λ (w : AgreementState). SlotsAreFilled m c (record j' { agreement = w }) made) (sym same) (record {
    filled = λ r i cell log value running below stores here. (fills r).filled i cell log value running below
        (before r i ((fills r).used running) ∙ stores) here;
    looked = λ r cell log value is. (fills r).looked cell log value is.running is.going
        (before r (((after a v).run r).at) ((fills r).used is.running) ∙ is.next);
  })
    where
      before : (r i : ℕ) → a.used (((after a v).run r).descriptor) ≡ true
          → (a.section (((after a v).run r).descriptor)).code i ≡ ((after a v).section (((after a v).run r).descriptor)).code i
      before r i used = ap (λ (f : ℕ → Micro). f i) (sym (goes_on_all rules a v ok (((after a v).run r).descriptor) used).code)

  module _ (made : Made) (was : SlotsAreFilled m c j made) where
    module _ (cells : ℕ → ℕ) (r : ℕ) (slot : Option ℕ) where
      abbrev q : Run
      q = a.run r

      -- the cells of the slot that its Make fills stand
      abbrev pub SlotStands : Type 0
      SlotStands = (t i : ℕ) → q.running ≡ true → made r ≡ Some t → i < 5 → cells (cell_of m t i) ≡ a.shared.cells (cell_of m t i)

      module _ (stands : SlotStands) (same : slot ≡ made r) where
        same_run : FillsRun cells slot q
        same_run = record {
          used = kept.agreement.running_used r;
          filled = λ i cell log value running below stores here.
              let f = was.filled r i cell log value running below stores here in (
                f.0,
                same ∙ f.1,
                ap value_of (stands f.0 cell running f.1
                    (fill_low q.descriptor i cell log value (kept.agreement.running_used r running) stores)) ∙ f.2,
              );
          looked = λ cell log value running going next.
              let f = was.looked r cell log value (record { running = running; going = going; next = next }) in (
                f.0,
                same ∙ f.1,
                f.2 ∙ sym (stands f.0 cell running f.1
                    (fill_low q.descriptor q.at cell log value (kept.agreement.running_used r running) next)),
              );
        }

        -- the run goes on, past a step that is neither a private load nor a private store
        goes_run : (word : ℕ) → is_private (step_of a r) ≡ false → FillsRun cells slot (record q { at = suc q.at; word = word })
        goes_run word other = record {
          used = kept.agreement.running_used r;
          filled = λ i cell log value running below stores here. ⊎_elim
              (λ lt. same_run.filled i cell log value running lt stores here)
              (λ last. absurd (no_store (step_of a r) cell log value other (ap ((a.section q.descriptor).code) (sym last) ∙ stores)))
              (last_or i q.at below);
          looked = λ cell log value running going next. absurd (no_load (step_of a r) cell log other
              (load_before q.descriptor q.at cell log value (kept.agreement.running_used r running) next));
        }

        -- it has set the done word, or releases a lock after that
        ended_run : (released : ℕ → Bool) → FillsRun cells slot (record q { ended = true; released = released })
        ended_run released = record {
          used = kept.agreement.running_used r;
          filled = λ i cell log value running below stores here. same_run.filled i cell log value running below stores here;
          looked = λ cell log value running going next. absurd (both_ways _ going refl);
        }

        released_run : q.ended ≡ true → (released : ℕ → Bool) → FillsRun cells slot (record q { released = released })
        released_run ended released = record {
          used = kept.agreement.running_used r;
          filled = λ i cell log value running below stores here. same_run.filled i cell log value running below stores here;
          looked = λ cell log value running going next. absurd (both_ways _ going ended);
        }

      -- the run has agreed on a word: it was in no Make, or at a Make's end
      agreed_run : is_private (step_of a r) ≡ false → (trail : ℕ → ℕ)
          → FillsRun cells slot (record q { at = suc q.at; count = suc q.count; trail = trail })
      agreed_run other trail = record {
        used = kept.agreement.running_used r;
        filled = λ i cell log value running below stores here.
            let used = kept.agreement.running_used r running in
            let place = fill_place q.descriptor i cell log value used stores in
            let rises = (line_of q.descriptor used).counted.slot_rises i q.at (omega arith) in
            let count = (kept.agreement.runs r running).in_trail.counted in
            absurd (omega arith);
        looked = λ cell log value running going next. absurd (no_load (step_of a r) cell log other
            (load_before q.descriptor q.at cell log value (kept.agreement.running_used r running) next));
      }

      -- the run begins, or is over
      begun_run : (d : ℕ) → a.used d ≡ true → FillsRun cells slot (begun d)
      begun_run d used = record {
        used = λ running. used;
        filled = λ i cell log value running below stores here. absurd (omega arith);
        looked = λ cell log value running going next.
            absurd (let before = (line_of d used).ordered.fill_before 0 cell log value next in let e = before.1 in omega arith);
      }

      over_run : FillsRun cells slot (record q { running = false })
      over_run = record {
        used = λ running. absurd (both_ways _ refl running);
        filled = λ i cell log value running below stores here. absurd (both_ways _ refl running);
        looked = λ cell log value running going next. absurd (both_ways _ refl running);
      }

    module _ (cells : ℕ → ℕ) (made' : Made) where
      -- one run changes, the others don't, and neither do the slots that their Makes fill
      pub one_run : (r0 : ℕ) (q' : Run) → FillsRun cells (made' r0) q' → ((r : ℕ) → r ≢ r0 → SlotStands cells r (made' r))
          → ((r : ℕ) → r ≢ r0 → made' r ≡ made r) → (r : ℕ) → FillsRun cells (made' r) (upd a.run r0 q' r)
      one_run r0 q' here stands others = upd_split a.run r0 q' (λ r q. FillsRun cells (made' r) q) here
          (λ r ne. same_run cells r (made' r) (stands r ne) (others r ne))

    module _ (cells : ℕ → ℕ) (made' : Made) (stands : (r : ℕ) → SlotStands cells r (made' r)) where
      alone : (r0 : ℕ) (q' : Run) → FillsRun cells (made' r0) q' → ((r : ℕ) → r ≢ r0 → made' r ≡ made r) → (r : ℕ)
          → FillsRun cells (made' r) (upd a.run r0 q' r)
      alone r0 q' here others = one_run cells made' r0 q' here (λ r ne. stands r) others

      -- a run goes on, past a step that is neither a private load nor a private store
      goes : (r0 word : ℕ) → is_private (step_of a r0) ≡ false → ((r : ℕ) → made' r ≡ made r) → (r : ℕ)
          → FillsRun cells (made' r) (upd a.run r0 (record (a.run r0) { at = suc ((a.run r0).at); word = word }) r)
      goes r0 word other same = alone r0 (record (a.run r0) { at = suc ((a.run r0).at); word = word })
          (goes_run cells r0 (made' r0) (stands r0) (same r0) word other) (λ r ne. same r)

      -- or agrees on a word
      agrees : (r0 : ℕ) (trail : ℕ → ℕ) → is_private (step_of a r0) ≡ false → ((r : ℕ) → r ≢ r0 → made' r ≡ made r) → (r : ℕ)
          → FillsRun cells (made' r)
          (upd a.run r0 (record (a.run r0) { at = suc ((a.run r0).at); count = suc ((a.run r0).count); trail = trail }) r)
      agrees r0 trail other others = alone r0
          (record (a.run r0) { at = suc ((a.run r0).at); count = suc ((a.run r0).count); trail = trail })
          (agreed_run cells r0 (made' r0) other trail) others

      -- the commit of a Make
      pub make_fills : (r0 log proposal : ℕ) → Enabled rules a (agreement.MakeCommit r0 log proposal)
          → ((r : ℕ) → r ≢ r0 → made' r ≡ made r) → (r : ℕ)
          → FillsRun cells (made' r) ((after a (agreement.MakeCommit r0 log proposal)).run r)
      make_fills r0 log proposal ok others = agrees r0 _ (ap is_private ok.0.next) others

      -- every other event but a private load or store
      pub event_fills : (v : Event) → is_shared v ≡ true → Enabled rules a v → ((r : ℕ) → made' r ≡ made r) → (r : ℕ)
          → FillsRun cells (made' r) ((after a v).run r)
      event_fills (agreement.PrivateLoad r0 cell log place) shared ok same = absurd (cc)
      event_fills (agreement.PrivateStore r0 cell log value place word) shared ok same = absurd (cc)
      event_fills (agreement.Open r0 d) shared ok same = alone r0 (begun d) (begun_run cells r0 (made' r0) d ok.1) (λ r ne. same r)
      event_fills (agreement.Pass r0) shared ok same =
          goes r0 ((a.run r0).word) (pass_shared rules ((a.run r0).descriptor) ((a.run r0).trail) (step_of a r0) ok.2) same
      event_fills (agreement.SetDone r0) shared ok same = alone r0 (record (a.run r0) { ended = true })
          (ended_run cells r0 (made' r0) (stands r0) (same r0) ((a.run r0).released)) (λ r ne. same r)
      event_fills (agreement.Release r0 place word) shared ok same =
          alone r0 (record (a.run r0) { released = upd ((a.run r0).released) place true })
          (released_run cells r0 (made' r0) (stands r0) (same r0) ok.1 (upd ((a.run r0).released) place true)) (λ r ne. same r)
      event_fills (agreement.Finish r0) shared ok same =
          alone r0 (record (a.run r0) { running = false }) (over_run cells r0 (made' r0)) (λ r ne. same r)
      event_fills (agreement.LoadCell r0 place log) shared ok same = goes r0 (a.shared.cells place) (ap is_private ok.0.next) same
      event_fills (agreement.Commit r0 place log) shared ok same = agrees r0 _ (ap is_private ok.next) (λ r ne. same r)
      event_fills (agreement.NestedLoad r0 place log) shared ok same = goes r0 (a.shared.cells place) (ap is_private ok.next) same
      event_fills (agreement.NestedCommit r0 place log) shared ok same = agrees r0 _ (ap is_private ok.next) (λ r ne. same r)
      event_fills (agreement.NestedHold r0 place word) shared ok same = goes r0 ((a.run r0).word) (ap is_private ok.next) same
      event_fills (agreement.OutcomeLoad r0 place log) shared ok same = goes r0 (a.shared.cells place) (ap is_private ok.next) same
      event_fills (agreement.OutcomeCommit r0 place log) shared ok same = agrees r0 _ (ap is_private ok.next) (λ r ne. same r)
      event_fills (agreement.MakeCommit r0 log proposal) shared ok same = make_fills r0 log proposal ok (λ r ne. same r)
      event_fills (agreement.ClockLoad r0) shared ok same = goes r0 a.shared.clock (ap is_private ok.next) same
      event_fills (agreement.StampExchange r0) shared ok same = goes r0 _ (ap is_private ok.next) same
      event_fills (agreement.ClockRaise r0) shared ok same = goes r0 ((a.run r0).word) (ap is_private ok.next) same
      event_fills (agreement.ExchangeCell r0 place log value) shared ok same = goes r0 ((a.run r0).word) (ap is_private ok.next) same
      event_fills (agreement.EpochForRetire r0 slot log epoch) shared ok same = goes r0 epoch (ap is_private ok.next) same
      event_fills (agreement.RetireCommit r0 slot log) shared ok same = agrees r0 _ (ap is_private ok.next) (λ r ne. same r)
      event_fills (agreement.ReplyExchange r0 reply) shared ok same = goes r0 ((a.run r0).word) (ap is_private ok.next) same
      event_fills v shared ok same = λ r. same_run cells r (made' r) (stands r) (same r)
