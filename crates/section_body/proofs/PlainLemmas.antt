-- A run in one go, from its first step to its end.
use Rattle.std.proofs.Common.{◌≡◌, ℕ, suc, ◌≤◌, List, [], ◌∷◌, ◌++◌, length, take, drop, refl, sym, ap, ◌∙◌, subst, arith, Some, None}
use Rattle.std.specs.Prelude.{Bool, false, count_by, slice_index}
use Rattle.std.proofs.lemmas.List.{set-get_or}
use Rattle.body_terms.specs.Trail.{Agreed as Agreement}
use Rattle.body_terms.specs.Memory.{PlainMemory}
use Rattle.body_terms.specs.Line.{registers_before, registers_after, micros, line, line_from}
use Rattle.body_terms.specs.Run.{Run, ran}
use Rattle.body_terms.specs.Plain.{plain_setting, unstarted, plain_run, memory_after, first_values, PlacesFit, VersionsFit}
use Rattle.body_terms.specs.Shape.{IsStep, IsShaped, is_answer}
use Rattle.body_terms.specs.Act.{Shows}
use Rattle.body_terms.specs.declared.outcome.Outcome.{Outcome}
use Rattle.body_terms.specs.declared.step.Step.{Step}
use Rattle.body_terms.proofs.LineLemmas.{line_next, line_split, take_all}
use Rattle.body_terms.proofs.RunLemmas.{ran-append, ran_over, changes}
use Rattle.body_terms.proofs.SoundLemmas.{Sound, sound_next}
use Rattle.body_terms.proofs.ValueLemmas.{first_values-list}

-- the run in one go before step n
abbrev pub run_before : List Step → ℕ → PlainMemory → List Bool → ℕ → Run
run_before body request start taken n = ran (plain_setting body taken start) (unstarted request start) (line (take n body))

append_nil : (xs : List ℕ) → xs ≡ xs ++ []
append_nil [] = refl
append_nil (x ∷ xs) = ap (λ rest. x ∷ rest) (append_nil xs)

module _ (body : List Step) (request : ℕ) (start : PlainMemory) (taken : List Bool) where
  -- at first the memory is as it was
  pub shows_first : (trail : Agreement) → trail.words ≡ [] → trail.late ≡ false → Shows request start (run_before body request start taken 0) start trail None
  shows_first trail words late = record {
    left = ap (λ cs. record start { cells = cs }) (first_values-list start.cells)
        ∙ (ap (λ rs. record (record start { cells = first_values (length start.cells) (slice_index start.cells) }) { retired = rs }) (append_nil start.retired)
        ∙ (ap (λ ss. record (memory_after request start (unstarted request start)) { stamps = ss; replies = start.replies }) (sym (set-get_or start.stamps request 0))
        ∙ ap (λ rs. record (memory_after request start (unstarted request start)) { replies = rs }) (sym (set-get_or start.replies request 0))));
    agreed = (λ i. record { words = words i; late = late i });
    ended = refl;
  }

  module _ (n : ℕ) (step : Step) (here : IsStep body n step) where
    -- one step more
    pub run_next : run_before body request start taken (suc n) ≡ ran (plain_setting body taken start) (run_before body request start taken n) (micros (registers_before body n) step)
    run_next =
        ap (ran (plain_setting body taken start) (unstarted request start)) (line_next body n step here)
        ∙ ran-append (plain_setting body taken start) (unstarted request start) (line (take n body)) (micros (registers_before body n) step)

    -- the whole run is the run up to a step with which it ends
    pub run_ended : (outcome : Outcome) → (ran (plain_setting body taken start) (run_before body request start taken n) (micros (registers_before body n) step)).outcome ≡ Some outcome → plain_run body request start taken ≡ ran (plain_setting body taken start) (run_before body request start taken n) (micros (registers_before body n) step)
    run_ended outcome over =
        let s = plain_setting body taken start in
        let r = run_before body request start taken n in
        let ms = micros (registers_before body n) step in
        let rest = line_from (registers_after (registers_before body n) step) (drop (suc n) body) in
        ap (ran s (unstarted request start)) (line_split body n step here)
        ∙ (ran-append s (unstarted request start) (line (take n body)) (ms ++ rest)
        ∙ (ran-append s r ms rest ∙ ran_over s (ran s r ms) outcome rest over))

    -- what holds before a step holds before the next one, where the run goes on
    pub sound_more : (shaped : IsShaped body) → PlacesFit body start → VersionsFit start → (memory after : PlainMemory) (trail more : Agreement) → Shows request start (run_before body request start taken n) memory trail None → Shows request start (ran (plain_setting body taken start) (run_before body request start taken n) (micros (registers_before body n) step)) after more None → Sound body start taken shaped n (run_before body request start taken n) → Sound body start taken shaped (suc n) (run_before body request start taken (suc n))
    sound_more shaped places versions memory after trail more shows shown sound =
        let r = run_before body request start taken n in
        let s = plain_setting body taken start in
        subst (Sound body start taken shaped (suc n)) (sym run_next)
        (sound_next body start taken shaped n step here r sound (ran s r (micros (registers_before body n) step)) (changes s (registers_before body n) r step shows.ended shown.ended) places versions)

  -- before the first step
  pub sound_first : (shaped : IsShaped body) → Sound body start taken shaped 0 (run_before body request start taken 0)
  sound_first shaped = record {
    count = refl;
    made = refl;
    retired = refl;
    unanswered = refl;
    clock = λ _. refl;
    loaded = λ i place reg low. absurd (omega arith);
    fresh = λ i reg low. absurd (omega arith);
    untouched = λ early p apart. refl;
  }

  -- a run that went through all steps has answered
  pub not_through : (shaped : IsShaped body) (n : ℕ) → length body ≤ n → Sound body start taken shaped n (run_before body request start taken n) → ⊥
  not_through shaped n whole sound =
      let all = ap (count_by is_answer) (take_all body n whole) in
      let one = shaped.answers in
      let none = sound.unanswered in
      omega arith
