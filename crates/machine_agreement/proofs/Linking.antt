-- The steps by which a run links a block: the component doesn't see them.
use Rattle.std.specs.Prelude.{true, slice_get, slice_index}
use Rattle.std.proofs.Common.{◌≡◌, ℕ, ◌<◌, List, [], length, sym, refl, ap, ◌∙◌, subst, Option, Some}
use Rattle.machine_states.specs.table_words.specs.declared.layout.Layout.{Layout}
use Rattle.machine_states.specs.table_words.specs.declared.spot.Spot.{Spot}
use Rattle.machine_states.specs.table_words.specs.declared.spot.Spot.TheVariants as spots
use Rattle.machine_states.specs.table_words.specs.Seen as table
use Rattle.machine_states.specs.structure_laws.specs.Meaning.{Meaning}
use Rattle.machine_states.specs.runner_parts.specs.State.{RunState, PartState, ReadsState}
use Rattle.machine_states.specs.runner_parts.specs.Tests.{has_pair}
use Rattle.machine_states.specs.runner_steps.specs.Sections.{thunk_of, line_of}
use Rattle.agreement_core.specs.State.{AgreementState}
use Rattle.machine_states.specs.Sight.{Sight}
use Rattle.machine_states.proofs.Steps.{some_same}
use Rattle.machine_agreement.specs.Goes.{Goes}
use Rattle.machine_agreement.specs.Joined.{has_released, ShowsRun, IsAtRest, IsTied, IsJoinedToAgreement}
use Rattle.machine_agreement.proofs.Assembly.{leads_alone, plain_joined, thunks_kept}
use Rattle.machine_agreement.proofs.Outside.{lead_none, other_none}
use Rattle.machine_agreement.proofs.Words.{SameWords, shows_same, section_same}

module _ (m : Meaning) (l : Layout) (w : AgreementState) (s : Sight) (old : IsJoinedToAgreement m l w s) (r : ℕ) (q : RunState) (at : (s.part r).run ≡ Some q)
    (links : List ℕ) (block : Option ℕ) (emptied : ℕ) (won : List ℕ) where
  abbrev q' : RunState
  q' = record q { links = links; block = block; emptied = emptied; won = won }

  t : IsTied m l w s.word r (s.part r)
  t = old.tied r

  rests : length q.opened ≡ 13 → IsAtRest m l q'
  rests full = ap (λ (n : ℕ). record q' { at = n }) (ap (λ (a : RunState). a.at) (t.rests q at full))

  module _ (word' : Spot → ℕ) (p' : PartState) (same : SameWords s.word word') (run : p'.run ≡ Some q') (finished : p'.records.finished ≡ (s.part r).records.finished) (reads : p'.reads ≡ (s.part r).reads) where
    is : (q2 : RunState) → p'.run ≡ Some q2 → q' ≡ q2
    is q2 e = some_same q' q2 (sym run ∙ e)

    tied : IsTied m l w word' r p'
    tied = record {
      run = subst (ShowsRun (w.run r)) (sym run) (let x = subst (ShowsRun (w.run r)) at t.run in record { running = x.running; descriptor = x.descriptor; at = x.at; word = x.word; count = x.count; trail = x.trail; ended = x.ended });
      opened = λ q2 j e low more. subst (λ (a : RunState). j < length a.opened → slice_index a.opened j ≡ word' (spots.ThunkWord a.descriptor j)) (is q2 e)
          (λ few. t.opened q j at few more ∙ sym (same.thunks q.descriptor j)) low;
      begins = λ q2 e few. subst (λ (a : RunState). length a.opened < 13 → (a.at ≡ 0) × (a.ended ≡ 0)) (is q2 e) (t.begins q at) few;
      rests = λ q2 e full. subst (λ (a : RunState). length a.opened ≡ 13 → IsAtRest m l a) (is q2 e) rests full;
      released = λ q2 place e. subst (λ (a : RunState). has_released (line_of m a) a.at ((thunk_of a.opened).lock) ((thunk_of a.opened).word) a.ended place ≡ true → (w.run r).released place ≡ true) (is q2 e) (t.released q place at);
      read = λ place found has. t.read place found (subst (λ (y : ReadsState). has_pair y.cells place found ≡ true) reads has);
      finishes = t.finishes ∙ ap length (sym finished);
      finished = λ i f e. t.finished i f (ap (λ xs. slice_get xs i) (sym finished) ∙ e);
    }

    pub links_goes : Goes m l r [] w (record { word = word'; part = table.upd s.part r p' })
    links_goes = record {
      next = w;
      leads = leads_alone m l r [] w w (lead_none m l w);
      joined = plain_joined m l [] w w s r word' p' old (lead_none m l w) (other_none m l w r) (shows_same w.shared s.word word' same old.words)
          (λ d. section_same (w.section d) s.word word' d same (old.sections d))
          (thunks_kept m l w w s word' old refl (λ d. record { lock = refl; word = refl; request = refl; code = refl; slot = refl }) same.thunks) same.thunks tied;
    }
