-- No slot becomes fixed.
use Rattle.std.proofs.Common.{◌≡◌, ◌≢◌, ℕ, ◌+◌, Bool, true, false, cond, sym, ap, ◌∙◌, ⊎_elim}
use Rattle.std.specs.Prelude.{◌==◌, ◌&&◌, nat_lt}
use Rattle.std.proofs.lemmas.Bool.{cases_eq}
use Rattle.agreement_core.specs.table_words.specs.declared.layout.Layout.{Layout}
use Rattle.agreement_core.specs.section_lines.specs.structure_laws.specs.Meaning.{Meaning}
use Rattle.agreement_core.specs.section_lines.specs.structure_laws.proofs.Changes.{upd_same, upd_other}
use Rattle.epoch_core.specs.Update.{upd}
use Rattle.epoch_core.specs.declared.location.Location.{Location}
use Rattle.epoch_core.specs.declared.location.Location.TheVariants.{Fixed, Live, Hand, Free, Worn, Limbo, OnBoard}
use Rattle.epoch_core.specs.State.{Counts, EpochState}
use Rattle.epoch_core.specs.Moves.{collected, is_old, swept, tested, made, retired}
use Rattle.epoch_core.specs.Events.{Event, after, slot_of, is_among}
use Rattle.epoch_core.specs.Events as events
use Rattle.machine_scenes.specs.Shown.{States}
use Rattle.machine_scenes.specs.Steps.{Step, Epochs, Enter, Leave, Make, LoadEpoch, Retire, descriptor_of}
use Rattle.machine_scenes.specs.Steps as steps

tested_unfixed : (worn : Bool) (r : ℕ) → tested worn r ≢ Fixed
tested_unfixed true r e = cc
tested_unfixed false r e = cc

made_unfixed : (found r : ℕ) (worn : Bool) → made found r worn ≢ Fixed
made_unfixed found r worn e = by_win (found == 0) worn e
  where
    by_win : (won worn : Bool) → cond won Live (tested worn r) ≢ Fixed
    by_win true worn e = cc
    by_win false worn e = tested_unfixed worn r e

retired_fixed : (found r y : ℕ) (l : Location) → retired found r y l ≡ Fixed → l ≡ Fixed
retired_fixed found r y l e = by_win (found == 0) e
  where
    by_win : (won : Bool) → cond won (Limbo r y) l ≡ Fixed → l ≡ Fixed
    by_win true e = absurd (cc)
    by_win false e = e

collected_fixed : (node : Bool) (r x : ℕ) (l : Location) → collected node r x l ≡ Fixed → l ≡ Fixed
collected_fixed node r x (Limbo r' y) e = absurd (by_age (node && (r' == r && is_old y x)) e)
  where
    by_age : (old : Bool) → cond old (Hand r) (Limbo r' y) ≢ Fixed
    by_age true e = cc
    by_age false e = cc
collected_fixed node r x Fixed e = e
collected_fixed node r x Live e = e
collected_fixed node r x (Hand r') e = e
collected_fixed node r x (Free r') e = e
collected_fixed node r x (Worn r') e = e
collected_fixed node r x (OnBoard i) e = e

swept_fixed : (b : Bool) (r : ℕ) (l : Location) → swept b r l ≡ Fixed → l ≡ Fixed
swept_fixed b r (Limbo r' y) e = by (r' == r && b) e
  where
    by : (c : Bool) → cond c (Free r) (Limbo r' y) ≡ Fixed → Limbo r' y ≡ Fixed
    by true e = absurd (cc)
    by false e = e
swept_fixed b r Fixed e = e
swept_fixed b r Live e = e
swept_fixed b r (Hand r') e = e
swept_fixed b r (Free r') e = e
swept_fixed b r (Worn r') e = e
swept_fixed b r (OnBoard i) e = e

module _ (c : Counts) (e : EpochState) where
  changed : (s : ℕ) (l : Location) (t : ℕ) → (l ≡ Fixed → e.location s ≡ Fixed) → upd e.location s l t ≡ Fixed → e.location t ≡ Fixed
  changed s l t was is = ⊎_elim
      (λ same. ap e.location same ∙ was (sym (upd_same e.location s t l same) ∙ is))
      (λ ne. sym (upd_other e.location s t l ne) ∙ is) (cases_eq t s)

  event_fixed : (v : Event) (t : ℕ) → (after c e v).location t ≡ Fixed → e.location t ≡ Fixed
  event_fixed (events.ScanLast r x n b) t is = collected_fixed (nat_lt t c.nodes) r x (e.location t) is
  event_fixed (events.Advance r x n) t is = collected_fixed (nat_lt t c.nodes) r (x + 1) (e.location t) is
  event_fixed (events.Test r s worn) t is = changed s (tested worn r) t (λ fixed. absurd (tested_unfixed worn r fixed)) is
  event_fixed (events.TakeSlot r s) t is = changed s (Hand r) t (λ fixed. absurd (cc)) is
  event_fixed (events.GiveBoard r s i) t is = changed s (OnBoard i) t (λ fixed. absurd (cc)) is
  event_fixed (events.TakeBoard r s i) t is = changed s (Free r) t (λ fixed. absurd (cc)) is
  event_fixed (events.MakeCommit r d k s worn) t is = changed s (made (e.log d k) r worn) t
      (λ fixed. absurd (made_unfixed (e.log d k) r worn fixed)) is
  event_fixed (events.RetireCommit r) t is = changed ((e.retire r).slot)
      (retired (e.log ((e.retire r).descriptor) ((e.retire r).index)) r ((e.retire r).epoch) (e.location ((e.retire r).slot))) t
      (λ fixed. retired_fixed (e.log ((e.retire r).descriptor) ((e.retire r).index)) r ((e.retire r).epoch)
      (e.location ((e.retire r).slot)) fixed) is
  event_fixed (events.Publish r d roles) t is = changed (slot_of c d) Live t (λ fixed. absurd (cc)) is
  event_fixed (events.RetireDescriptor r d) t is = changed (slot_of c d) (Limbo r e.epoch) t (λ fixed. absurd (cc)) is
  event_fixed (events.Sweep r descriptors) t is = swept_fixed (is_among c descriptors t) r (e.location t) is
  event_fixed v t is = is

module _ (m : Meaning) (layout : Layout) (c : Counts) (j : States) where
  pub was_fixed : (step : Step) (t : ℕ) → (steps.after m layout c j step).epochs.location t ≡ Fixed → j.epochs.location t ≡ Fixed
  was_fixed (Epochs v) t is = event_fixed c j.epochs v t is
  was_fixed (Enter r) t is = event_fixed c j.epochs (events.EnterAgain r) t is
  was_fixed (Leave r) t is = event_fixed c j.epochs (events.Exit r) t is
  was_fixed (Make r log s worn) t is = event_fixed c j.epochs (events.MakeCommit r (descriptor_of j r) log s worn) t is
  was_fixed (LoadEpoch r log s) t is = event_fixed c j.epochs (events.RetireEpoch r (descriptor_of j r) log s) t is
  was_fixed (Retire r log s) t is = event_fixed c j.epochs (events.RetireCommit r) t is
  was_fixed step t is = is
