-- The steps outside a run's line, joined.
use Rattle.std.specs.Prelude.{◌==◌, cond, true, slice_get}
use Rattle.std.proofs.Common.{◌≡◌, ◌≢◌, ℕ, [], ◌∷◌, ◌++◌, length, sym, refl, ap, ◌∙◌, subst, None}
use Rattle.machine_states.specs.body_terms.specs.Run.{written_once}
use Rattle.machine_states.specs.table_words.specs.declared.layout.Layout.{Layout}
use Rattle.machine_states.specs.table_words.specs.declared.spot.Spot.{Spot}
use Rattle.machine_states.specs.table_words.specs.declared.spot.Spot.TheVariants as spots
use Rattle.machine_states.specs.table_words.specs.declared.access.Access.{Access}
use Rattle.machine_states.specs.table_words.specs.Seen.{put}
use Rattle.machine_states.specs.table_words.specs.Seen as table
use Rattle.machine_states.specs.structure_laws.specs.Meaning.{Meaning}
use Rattle.machine_states.specs.runner_parts.specs.declared.event.EventKind.{EventKind}
use Rattle.machine_states.specs.runner_parts.specs.State.{PartState}
use Rattle.machine_states.specs.runner_parts.specs.Tests.{has_pair}
use Rattle.machine_states.specs.runner_steps.specs.After.{after, after_by, outside_after}
use Rattle.agreement_core.specs.State.{Run, Finished, AgreementState}
use Rattle.agreement_core.specs.Events as events
use Rattle.agreement_core.specs.Events.{reads}
use Rattle.machine_states.specs.Sight.{Sight}
use Rattle.machine_agreement.specs.Joined.{ShowsRun, IsFinishOf, IsTied, IsJoinedToAgreement}
use Rattle.machine_agreement.proofs.Frames.{tied_stays}
use Rattle.machine_agreement.proofs.Components.{reads_own, reads_more}
use Rattle.machine_agreement.specs.Goes.{Goes}
use Rattle.machine_agreement.proofs.Assembly.{LeadBy, IsOtherStep, ThunksStay, leads_alone, plain_joined, plain_goes, thunks_kept}
use Rattle.machine_agreement.proofs.LineKinds.{noting}
use Rattle.machine_agreement.proofs.Words.{shows_same, section_same}
pub use Rattle.machine_agreement.proofs.Words.{SameWords, load_same}

module _ (m : Meaning) (l : Layout) where
  -- the part after an event outside a run
  pub after_outside : (r : ℕ) (kind : EventKind) (x : Spot × Access) (p : PartState) (found : ℕ) → p.run ≡ None
      → after m l r kind x.0 x.1 p found ≡ noting m l r kind x.0 x.1 found p (outside_after m l kind p found)
  after_outside r kind x p found none = ap (noting m l r kind x.0 x.1 found p) (ap (λ o. after_by m l kind p o found) none)

  pub other_none : (w : AgreementState) (r : ℕ) → IsOtherStep m l w w r
  other_none w r = record { others = λ i ne. refl; finishes = λ i ne. refl; finished = λ i k ne. refl; seen = λ p word e. e }

  pub lead_none : (w : AgreementState) → LeadBy m l [] w w
  lead_none w = record { enabled = tt; there = refl }

  -- what a part keeps that the component sees
  pub record IsSamePart (p p' : PartState) : Type 0 where
    pub run : p'.run ≡ p.run
    pub finished : p'.records.finished ≡ p.records.finished
    pub read : (place found : ℕ) → has_pair p'.reads.cells place found ≡ true → has_pair p.reads.cells place found ≡ true

  -- a part that keeps what the component sees is tied as before, with what else it has read
  tied_same : (w w' : AgreementState) (word : Spot → ℕ) (r : ℕ) (p p' : PartState) → w'.run ≡ w.run → w'.finishes ≡ w.finishes → w'.finished ≡ w.finished
      → p'.run ≡ p.run → p'.records.finished ≡ p.records.finished
      → ((place found : ℕ) → has_pair p'.reads.cells place found ≡ true → w'.shared.seen place found ≡ true) → IsTied m l w word r p → IsTied m l w' word r p'
  tied_same w w' word r p p' runs finishes finished run kept read tied = record {
    run = subst (λ (f : ℕ → Run). ShowsRun (f r) p'.run) (sym runs) (subst (ShowsRun (w.run r)) (sym run) tied.run);
    opened = λ q j e. tied.opened q j (sym run ∙ e);
    begins = λ q e. tied.begins q (sym run ∙ e);
    rests = λ q e. tied.rests q (sym run ∙ e);
    released = λ q a e has. ap (λ (f : ℕ → Run). (f r).released a) runs ∙ tied.released q a (sym run ∙ e) has;
    read = read;
    finishes = ap (λ (f : ℕ → ℕ). f r) finishes ∙ (tied.finishes ∙ ap length (sym kept));
    finished = λ i f e. subst (λ (y : Finished). IsFinishOf y f) (ap (λ (g : ℕ → ℕ → Finished). g r i) (sym finished)) (tied.finished i f (ap (λ xs. slice_get xs i) (sym kept) ∙ e));
  }

  -- the same with other words of which the component's thunks are as before
  pub tied_word : (w : AgreementState) (word word' : Spot → ℕ) (r : ℕ) (p : PartState) → ThunksStay word word' → IsTied m l w word r p → IsTied m l w word' r p
  tied_word w word word' r p stay tied = tied_stays m l w w word word' r p refl refl (λ i. refl) (λ a b e. e) stay tied

  module _ (w : AgreementState) (s : Sight) (old : IsJoinedToAgreement m l w s) (r : ℕ) where
    -- a step that the component doesn't see
    pub quiet_joined : (word' : Spot → ℕ) (p' : PartState) → SameWords s.word word' → IsSamePart (s.part r) p' → IsJoinedToAgreement m l w (record { word = word'; part = table.upd s.part r p' })
    quiet_joined word' p' words same = plain_joined m l [] w w s r word' p' old (lead_none w) (other_none w r) (shows_same w.shared s.word word' words old.words)
        (λ d. section_same (w.section d) s.word word' d words (old.sections d))
        (thunks_kept m l w w s word' old refl (λ d. record { lock = refl; word = refl; request = refl; code = refl; slot = refl }) words.thunks) words.thunks
        (tied_word w s.word word' r p' words.thunks (tied_same w w s.word r (s.part r) p' refl refl refl same.run same.finished (λ a b has. (old.tied r).read a b (same.read a b has)) (old.tied r)))

    pub quiet_goes : (word' : Spot → ℕ) (p' : PartState) → SameWords s.word word' → IsSamePart (s.part r) p' → Goes m l r [] w (record { word = word'; part = table.upd s.part r p' })
    quiet_goes word' p' words same = record { next = w; leads = leads_alone m l r [] w w (lead_none w); joined = quiet_joined word' p' words same }

    -- a read without a lock writes a request's reply word, or its stamp word
    pub reply_goes : (n reply : ℕ) → reply ≢ 0 → (p' : PartState) → IsSamePart (s.part r) p'
        → Goes m l r (events.ReadReply n reply ∷ []) w (record { word = put s.word (spots.Reply n) (written_once (s.word (spots.Reply n)) reply); part = table.upd s.part r p' })
    reply_goes n reply some p' same =
        let word' = put s.word (spots.Reply n) (written_once (s.word (spots.Reply n)) reply) in
        let w1 = events.after w (events.ReadReply n reply) in
        let x = old.words in
        plain_goes m l (events.ReadReply n reply ∷ []) w w1 s r word' p' old (record { enabled = (some, tt); there = refl })
        (record { others = λ i ne. refl; finishes = λ i ne. refl; finished = λ i k ne. refl; seen = λ a b e. e })
        (record {
          cells = x.cells;
          clock = x.clock;
          stamp = x.stamp;
          reply = λ i. ap (λ k. cond (i == n) (written_once k reply) (w.shared.reply i)) (x.reply n)
              ∙ ap (cond (i == n) (written_once (s.word (spots.Reply n)) reply)) (x.reply i);
        })
        (λ d. record { done = (old.sections d).done })
        (thunks_kept m l w w1 s word' old refl (λ d. record { lock = refl; word = refl; request = refl; code = refl; slot = refl }) (λ d j. refl)) (λ d j. refl)
        (tied_word w1 s.word word' r p' (λ d j. refl) (tied_same w w1 s.word r (s.part r) p' refl refl refl same.run same.finished
        (λ a b has. (old.tied r).read a b (same.read a b has)) (old.tied r)))

    pub stamp_goes : (n stamp : ℕ) → stamp ≢ 0 → (p' : PartState) → IsSamePart (s.part r) p'
        → Goes m l r (events.ReadStamp n stamp ∷ []) w (record { word = put s.word (spots.Stamp n) (written_once (s.word (spots.Stamp n)) stamp); part = table.upd s.part r p' })
    stamp_goes n stamp some p' same =
        let word' = put s.word (spots.Stamp n) (written_once (s.word (spots.Stamp n)) stamp) in
        let w1 = events.after w (events.ReadStamp n stamp) in
        let x = old.words in
        plain_goes m l (events.ReadStamp n stamp ∷ []) w w1 s r word' p' old (record { enabled = (some, tt); there = refl })
        (record { others = λ i ne. refl; finishes = λ i ne. refl; finished = λ i k ne. refl; seen = λ a b e. e })
        (record {
          cells = x.cells;
          clock = x.clock;
          reply = x.reply;
          stamp = λ i. ap (λ k. cond (i == n) (written_once k stamp) (w.shared.stamp i)) (x.stamp n)
              ∙ ap (cond (i == n) (written_once (s.word (spots.Stamp n)) stamp)) (x.stamp i);
        })
        (λ d. record { done = (old.sections d).done })
        (thunks_kept m l w w1 s word' old refl (λ d. record { lock = refl; word = refl; request = refl; code = refl; slot = refl }) (λ d j. refl)) (λ d j. refl)
        (tied_word w1 s.word word' r p' (λ d j. refl) (tied_same w w1 s.word r (s.part r) p' refl refl refl same.run same.finished
        (λ a b has. (old.tied r).read a b (same.read a b has)) (old.tied r)))

    -- a cell is read
    pub read_goes : (place : ℕ) (p' : PartState) → p'.run ≡ (s.part r).run → p'.records.finished ≡ (s.part r).records.finished
        → p'.reads.cells ≡ (s.part r).reads.cells ++ (place, s.word (spots.Cell place)) ∷ [] → (word' : Spot → ℕ) → SameWords s.word word'
        → Goes m l r (events.Read place ∷ []) w (record { word = word'; part = table.upd s.part r p' })
    read_goes place p' run finished cells word' words =
        let w1 = reads w place in
        plain_goes m l (events.Read place ∷ []) w w1 s r word' p' old (record { enabled = (tt, tt); there = refl })
        (record { others = λ i ne. refl; finishes = λ i ne. refl; finished = λ i k ne. refl; seen = (reads_own w r place).seen })
        (let x = shows_same w.shared s.word word' words old.words in record { cells = x.cells; clock = x.clock; stamp = x.stamp; reply = x.reply })
        (λ d. section_same (w.section d) s.word word' d words (old.sections d))
        (thunks_kept m l w w1 s word' old refl (λ d. record { lock = refl; word = refl; request = refl; code = refl; slot = refl }) words.thunks) words.thunks
        (tied_word w1 s.word word' r p' words.thunks (tied_same w w1 s.word r (s.part r) p' refl refl refl run finished
        (reads_more w place (s.word (spots.Cell place)) (s.part r).reads.cells p'.reads.cells (old.words.cells place) cells (λ a b has. (old.tied r).read a b has)) (old.tied r)))
