-- What runners keep of sections that left by spent words, over one step of the machine.
use Rattle.std.specs.Prelude.{slice_get, true}
use Rattle.std.proofs.Common.{◌≡◌, ℕ, ◌<◌, List, length, sym, ap, ◌∙◌, subst, ⊎_elim, inl, inr, arith, Some}
use Rattle.std.proofs.lemmas.Bool.Decides.{nat_tests}
use Rattle.machine_states.specs.map_history.specs.declared.op.Request.{Request}
use Rattle.machine_states.specs.body_terms.specs.Line.{micro_at}
use Rattle.machine_states.specs.body_terms.specs.Word.{version_of}
use Rattle.machine_states.specs.body_terms.specs.Run.{leaves}
use Rattle.machine_states.specs.body_terms.specs.declared.outcome.Outcome.TheVariants.{Spent}
use Rattle.machine_states.specs.table_words.specs.declared.layout.Layout.{Layout}
use Rattle.machine_states.specs.table_words.specs.declared.spot.Spot.{Spot}
use Rattle.machine_states.specs.structure_laws.specs.Meaning.{Meaning}
use Rattle.machine_states.specs.runner_parts.specs.declared.event.EventKind.{EventKind}
use Rattle.machine_states.specs.runner_parts.specs.State.{RunState, FinishedState}
use Rattle.machine_states.specs.runner_steps.specs.Sections.{is_open_run, setting_of, line_of, reply_in, thunk_of}
use Rattle.agreement_core.specs.State.{AgreementState}
use Rattle.machine_states.specs.Sight.{Sight, Steps}
use Rattle.runner_facts.specs.machine_facts.specs.machine_agreement.specs.Joined.{IsJoinedToAgreement}
use Rattle.runner_facts.specs.machine_facts.specs.machine_invariant.specs.Rising.{CellsRise}
use Rattle.runner_facts.specs.machine_facts.proofs.FinishedParts as parts
use Rattle.lock_words.specs.Spent.{IsPast, WasSpent}
use Rattle.lock_words.proofs.Leaving.{LeavesAt, leaves_at, not_reply}
use Rattle.lock_words.proofs.Agreed.{left_late, left_past}

-- of what a runner keeps of sections that it ran to their end
abbrev pub FinishedStand : Meaning → Layout → Sight → Type 0
FinishedStand m l s = (r i place spent : ℕ) (f : FinishedState) → slice_get (s.part r).records.finished i ≡ Some f → f.outcome ≡ Spent place spent
    → WasSpent m l s.word place spent

pub open_length : (q : RunState) → is_open_run q ≡ true → length q.opened ≡ 13
open_length q e = grind (arith, nat_tests)

-- versions don't fall
risen : (word word' : Spot → ℕ) → CellsRise word word' → (place old : ℕ) → IsPast word place old → IsPast word' place old
risen word word' rise place old past = ⊎_elim
    (λ same. ⊎_elim (λ is. inl (same ∙ is)) (λ below. inr (subst (λ w. version_of old < version_of w) (sym same) below)) past)
    (λ more. ⊎_elim (λ is. inr (let same = ap version_of is in omega (arith, more, same))) (λ below. inr (omega (arith, more, below))) past)
    (rise place)

module _ (m : Meaning) (l : Layout) (rs : List Request) (s s' : Sight) (r : ℕ) (kind : EventKind) (step : Steps m l rs s s' r kind) where
  -- the runner's run is over by this step, and this is kept of it
  abbrev IsNew : ℕ → FinishedState → Type 0
  IsNew r1 f = parts.IsNew m l rs s s' r kind step r1 f

  module _ (a : AgreementState) (joined : IsJoinedToAgreement m l a s) (rise : CellsRise s.word s'.word) where
    -- the run that is over left by a word that was read at its place
    now_left : (r1 place spent : ℕ) (f : FinishedState) → IsNew r1 f → f.outcome ≡ Spent place spent → WasSpent m l s.word place spent
    now_left r1 place spent f new e =
        let q = new.run in
        let left : LeavesAt l q.trail (micro_at (line_of m q) q.at) place spent = leaves_at l q.descriptor q.trail place spent (micro_at (line_of m q) q.at)
        (not_reply (leaves (setting_of l q.descriptor) q.trail (micro_at (line_of m q) q.at)) (reply_in (m.body (thunk_of q.opened))) place spent
        (ap (λ (y : FinishedState). y.outcome) new.is ∙ e)) in
        record {
          late = left_late m l a s joined r q new.runs (open_length q new.open_run) place spent left;
          past = left_past m l a s joined r q new.runs (open_length q new.open_run) place spent left;
        }

    pub finished_kept : FinishedStand m l s → FinishedStand m l s'
    finished_kept old r1 i place spent f at e = let was = ⊎_elim (λ before. old r1 i place spent f before e) (λ new. now_left r1 place spent f new e) (parts.entry m l rs s s' r kind step r1 i f at) in
        record { late = was.late; past = risen s.word s'.word rise place spent was.past }
