-- What an event of one run leaves as it is.
use Rattle.std.specs.Prelude.{true, slice_index, slice_get}
use Rattle.std.proofs.Common.{◌≡◌, ◌≢◌, ℕ, ◌<◌, List, length, sym, ap, ◌∙◌, subst, arith, Option, Some, None}
use Rattle.machine_states.specs.body_terms.specs.declared.micro.Micro.{Micro}
use Rattle.machine_states.specs.body_terms.specs.declared.thunk.Thunk.{Thunk}
use Rattle.machine_states.specs.table_words.specs.declared.layout.Layout.{Layout}
use Rattle.machine_states.specs.table_words.specs.declared.spot.Spot.{Spot}
use Rattle.machine_states.specs.table_words.specs.declared.spot.Spot.TheVariants as spots
use Rattle.machine_states.specs.structure_laws.specs.Meaning.{Meaning}
use Rattle.machine_states.specs.runner_parts.specs.State.{RunState, PartState}
use Rattle.machine_states.specs.runner_parts.specs.Tests.{has_pair}
use Rattle.machine_states.specs.runner_steps.specs.Sections.{thunk_of, line_of, settles}
use Rattle.agreement_core.specs.State.{Section, Run, Finished, AgreementState}
use Rattle.machine_scenes.specs.Shown.{IsOfThunk}
use Rattle.machine_agreement.specs.Joined.{has_released, IsRunOf, ShowsRun, IsFinishOf, IsTied}

-- a section whose description is the same
pub record HasSameText (x y : Section) : Type 0 where
  pub lock : x.lock ≡ y.lock
  pub word : x.word ≡ y.word
  pub request : x.request ≡ y.request
  pub code : x.code ≡ y.code
  pub slot : x.slot ≡ y.slot

-- what an event of a run leaves: the other runs, the descriptions of the sections, what came to its end; and what was read stays read
pub record IsOwnStep (w w' : AgreementState) (r : ℕ) : Type 0 where
  pub others : (i : ℕ) → i ≢ r → w'.run i ≡ w.run i
  pub used : w'.used ≡ w.used
  pub live : w'.live ≡ w.live
  pub over : w'.over ≡ w.over
  pub finishes : w'.finishes ≡ w.finishes
  pub finished : w'.finished ≡ w.finished
  pub text : (d : ℕ) → HasSameText (w'.section d) (w.section d)
  pub seen : (p word : ℕ) → w.shared.seen p word ≡ true → w'.shared.seen p word ≡ true

-- a section of the same text is that of the same thunk
pub same_thunk : (m : Meaning) (x y : Section) (t : Thunk) → HasSameText x y → IsOfThunk m y t → IsOfThunk m x t
same_thunk m x y t same is = record {
  lock = same.lock ∙ is.lock;
  word = same.word ∙ is.word;
  request = same.request ∙ is.request;
  code = λ i. ap (λ (f : ℕ → Micro). f i) same.code ∙ is.code i;
  slot = λ i. ap (λ (f : ℕ → ℕ). f i) same.slot ∙ is.slot i;
}

module _ (m : Meaning) (l : Layout) where
  -- a runner to whom nothing happens: its run, the words that it has loaded, and what it has read are as before
  pub tied_stays : (w w' : AgreementState) (word word' : Spot → ℕ) (r : ℕ) (p : PartState) → w'.run r ≡ w.run r → w'.finishes r ≡ w.finishes r → ((i : ℕ) → w'.finished r i ≡ w.finished r i)
      → ((place found : ℕ) → w.shared.seen place found ≡ true → w'.shared.seen place found ≡ true)
      → ((d j : ℕ) → word' (spots.ThunkWord d j) ≡ word (spots.ThunkWord d j)) → IsTied m l w word r p → IsTied m l w' word' r p
  tied_stays w w' word word' r p run finishes finished seen thunk tied = record {
    run = shows p.run tied.run;
    opened = λ q j is low more. tied.opened q j is low more ∙ sym (thunk q.descriptor j);
    begins = tied.begins;
    rests = tied.rests;
    released = λ q place is released. ap (λ (x : Run). x.released place) run ∙ tied.released q place is released;
    read = λ place found is. seen place found (tied.read place found is);
    finishes = finishes ∙ tied.finishes;
    finished = λ i f is. subst (λ (x : Finished). IsFinishOf x f) (sym (finished i)) (tied.finished i f is);
  }
    where
      shows : (o : Option RunState) → ShowsRun (w.run r) o → ShowsRun (w'.run r) o
      shows None old = ap (λ (x : Run). x.running) run ∙ old
      shows (Some q) old = subst (λ (x : Run). IsRunOf x q) (sym run) old

  -- what a line's event makes of its runner's part
  pub record IsOwnPart (p p' : PartState) (q : RunState) : Type 0 where
    pub run : p'.run ≡ Some (settles m l q)
    pub published : p'.published ≡ p.published
    pub finished : p'.records.finished ≡ p.records.finished

  -- after an event of its line the runner's part belongs to the component's state
  pub tied_own : (w w' : AgreementState) (word word' : Spot → ℕ) (r : ℕ) (p p' : PartState) (q q' : RunState) → IsOwnStep w w' r → p.run ≡ Some q → IsOwnPart p p' q'
      → q'.descriptor ≡ q.descriptor → q'.opened ≡ q.opened → q'.ended ≡ 0 → length q.opened ≡ 13 → IsRunOf (w'.run r) (settles m l q') → settles m l (settles m l q') ≡ settles m l q'
      → ((place found : ℕ) → has_pair p'.reads.cells place found ≡ true → w'.shared.seen place found ≡ true)
      → ((d j : ℕ) → word' (spots.ThunkWord d j) ≡ word (spots.ThunkWord d j)) → IsTied m l w word r p → IsTied m l w' word' r p'
  tied_own w w' word word' r p p' q q' step is own descriptor opened going all run rest read thunk tied = record {
    run = subst (ShowsRun (w'.run r)) (sym own.run) run;
    opened = λ k j e low more. let same = is_next k e in
        ap (λ (x : RunState). slice_index x.opened j) same ∙ (ap (λ xs. slice_index xs j) opened
        ∙ (tied.opened q j is (subst (λ n. j < n) (ap (λ (x : RunState). length x.opened) same ∙ ap length opened) low) more
        ∙ (sym (thunk q.descriptor j) ∙ ap (λ d. word' (spots.ThunkWord d j)) (sym descriptor ∙ ap (λ (x : RunState). x.descriptor) (sym same)))));
    begins = λ k e low. let same = is_next k e in absurd (let long : length k.opened ≡ 13 = ap (λ (x : RunState). length x.opened) same ∙ (ap length opened ∙ all) in omega arith);
    rests = λ k e long. let same = is_next k e in subst (λ (x : RunState). settles m l x ≡ x) (sym same) rest;
    released = λ k place e released. absurd (let same = is_next k e in
        none (line_of m k) k.at ((thunk_of k.opened).lock) ((thunk_of k.opened).word) k.ended place (ap (λ (x : RunState). x.ended) same ∙ going) released);
    read = read;
    finishes = ap (λ (f : ℕ → ℕ). f r) step.finishes ∙ (tied.finishes ∙ ap length (sym own.finished));
    finished = λ i f e. subst (λ (x : Finished). IsFinishOf x f) (ap (λ (g : ℕ → ℕ → Finished). g r i) (sym step.finished)) (tied.finished i f (ap (λ xs. slice_get xs i) (sym own.finished) ∙ e));
  }
    where
      is_next : (k : RunState) → p'.run ≡ Some k → k ≡ settles m l q'
      is_next k e = let both = sym e ∙ own.run in cc

      none : (ms : List Micro) (at lock word ended place : ℕ) → ended ≡ 0 → has_released ms at lock word ended place ≡ true → ⊥
      none ms at lock word ended place e released =
          let nought : has_released ms at lock word 0 place ≡ true = subst (λ n. has_released ms at lock word n place ≡ true) e released in cc
