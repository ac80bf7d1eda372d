-- Descriptors and the beginnings of runs, joined: private stores, publication, retirement, and the words that a run loads first.
use Rattle.std.specs.Prelude.{◌==◌, ◌&&◌, ◌%◌, ◌^◌, is_none, true, false, slice_index, slice_get, cond}
use Rattle.std.proofs.Common.{◌≡◌, ◌≢◌, ℕ, zero, suc, ◌<◌, List, [], ◌∷◌, ◌++◌, length, sym, refl, ap, ◌∙◌, subst, arith, inl, inr, ⊎_elim, Some, None}
use Rattle.std.specs.Prelude.{◌⊎◌}
use Rattle.std.proofs.lemmas.Bool.{cases_eq}
use Rattle.std.proofs.lemmas.Bool.Decides.{nat_tests}
use Rattle.machine_states.specs.body_terms.specs.Update.{upd}
use Rattle.machine_states.specs.body_terms.specs.Word.{held_word}
use Rattle.machine_states.specs.body_terms.specs.declared.thunk.Thunk.{Thunk}
use Rattle.machine_states.specs.body_terms.specs.Line.{line, micro_at, committed, is_check}
use Rattle.machine_states.specs.body_terms.specs.Run.{leaves}
use Rattle.machine_states.specs.table_words.specs.declared.layout.Layout.{Layout}
use Rattle.machine_states.specs.table_words.specs.declared.spot.Spot.{Spot}
use Rattle.machine_states.specs.table_words.specs.declared.spot.Spot.TheVariants as spots
use Rattle.machine_states.specs.table_words.specs.Seen.{put}
use Rattle.machine_states.specs.table_words.specs.Seen as table
use Rattle.machine_states.specs.structure_laws.specs.Meaning.{Meaning}
use Rattle.machine_states.specs.runner_parts.specs.State.{RunState, PartState}
use Rattle.machine_states.specs.runner_parts.specs.Tests.{has_pair}
use Rattle.machine_states.specs.runner_steps.specs.Sections.{thunk_of, line_of, settles, setting_of}
use Rattle.machine_states.specs.runner_steps.specs.AfterOutside.{opened}
use Rattle.agreement_core.specs.State.{CellRules, Shared, Section, Run, Finished, AgreementState}
use Rattle.agreement_core.specs.Events as events
use Rattle.agreement_core.specs.Events.{IsPublishable, begun, reads}
use Rattle.machine_states.specs.Sight.{Sight}
use Rattle.machine_states.proofs.Updates.{upd_here, upd_else, upd_split}
use Rattle.machine_epochs.specs.Slots.{thunk_in}
use Rattle.machine_scenes.specs.Shown.{rules_of, IsOfThunk}
use Rattle.machine_agreement.specs.Joined.{has_released, IsRunOf, ShowsRun, IsFinishOf, ShowsWords, ShowsSection, IsTied, IsJoinedToAgreement}
use Rattle.machine_agreement.proofs.Passes.{settled_here}
use Rattle.machine_agreement.proofs.Frames.{HasSameText}
use Rattle.machine_agreement.proofs.Components.{reads_own, reads_more}
use Rattle.machine_agreement.specs.Chunks.{publication}
use Rattle.machine_agreement.specs.Goes.{Goes}
use Rattle.machine_agreement.proofs.Assembly.{LeadBy, ThunksStay, same_thunk_in, leads_alone, plain_goes, thunks_kept, lead_sound}
use Rattle.machine_agreement.proofs.Outside.{SameWords, lead_none}
use Rattle.machine_agreement.proofs.RunPlaces as places

module _ (m : Meaning) (l : Layout) (w : AgreementState) (s : Sight) (old : IsJoinedToAgreement m l w s) (r : ℕ) where
  abbrev c : CellRules
  c = rules_of m l

  -- a runner's part whose records and lists alone changed is tied as before
  same_tied : (w' : AgreementState) (word' : Spot → ℕ) (i : ℕ) (p p' : PartState) → w'.run i ≡ w.run i → w'.finishes i ≡ w.finishes i → ((k : ℕ) → w'.finished i k ≡ w.finished i k)
      → p'.run ≡ p.run → p'.records.finished ≡ p.records.finished
      → ((a b : ℕ) → has_pair p'.reads.cells a b ≡ true → w'.shared.seen a b ≡ true)
      → ((q : RunState) (j : ℕ) → p.run ≡ Some q → word' (spots.ThunkWord q.descriptor j) ≡ s.word (spots.ThunkWord q.descriptor j))
      → IsTied m l w s.word i p → IsTied m l w' word' i p'
  same_tied w' word' i p p' run finishes finished runs records read stay tied = record {
    run = subst (ShowsRun (w'.run i)) (sym runs) (subst (λ (y : Run). ShowsRun y p.run) (sym run) tied.run);
    opened = λ q j e low more. tied.opened q j (sym runs ∙ e) low more ∙ sym (stay q j (sym runs ∙ e));
    begins = λ q e. tied.begins q (sym runs ∙ e);
    rests = λ q e. tied.rests q (sym runs ∙ e);
    released = λ q a e has. ap (λ (y : Run). y.released a) run ∙ tied.released q a (sym runs ∙ e) has;
    read = read;
    finishes = finishes ∙ (tied.finishes ∙ ap length (sym records));
    finished = λ k f e. subst (λ (y : Finished). IsFinishOf y f) (sym (finished k)) (tied.finished k f (ap (λ xs. slice_get xs k) (sym records) ∙ e));
  }

  -- a runner in a run is in that of a published descriptor
  run_used : (i : ℕ) (q : RunState) → (s.part i).run ≡ Some q → w.used q.descriptor ≡ true
  run_used i q e = places.used_here m l w s old i q e

  not_unused : (i d : ℕ) (q : RunState) → w.used d ≡ false → (s.part i).run ≡ Some q → q.descriptor ≢ d
  not_unused i d q unused e same = let both = sym (run_used i q e) ∙ (ap w.used same ∙ unused) in cc

  -- a private store into a thunk word of an unpublished descriptor
  pub thunk_stored : (d j number : ℕ) (p' : PartState) → w.used d ≡ false → p'.run ≡ (s.part r).run → p'.published ≡ (s.part r).published → p'.records.finished ≡ (s.part r).records.finished → p'.reads ≡ (s.part r).reads
      → Goes m l r [] w (record { word = put s.word (spots.ThunkWord d j) number; part = table.upd s.part r p' })
  thunk_stored d j number p' unused run published records reads_same =
      let word' = put s.word (spots.ThunkWord d j) number in
      let other : (d' j' : ℕ) → d' ≢ d → word' (spots.ThunkWord d' j') ≡ s.word (spots.ThunkWord d' j') = λ d' j' ne. ap (λ b. cond b (cond (j' == j) number (s.word (spots.ThunkWord d' j'))) (s.word (spots.ThunkWord d' j'))) (else_test d' d ne) in
      record {
        next = w;
        leads = leads_alone m l r [] w w (lead_none m l w);
        joined = record {
          sound = old.sound;
          words = (let x = old.words in record { cells = x.cells; clock = x.clock; stamp = x.stamp; reply = x.reply });
          sections = λ k. record { done = (old.sections k).done };
          thunks = λ k used. subst (IsOfThunk m (w.section k)) (sym (same_thunk_at word' k (λ i. other k i (λ same. let both = sym used ∙ (ap w.used same ∙ unused) in absurd (cc))))) (old.thunks k used);
          tied = upd_split s.part r p' (λ i p. IsTied m l w word' i p)
              (same_tied w word' r (s.part r) p' refl refl (λ k. refl) run records
              (λ a b has. (old.tied r).read a b (subst (λ y. has_pair y.cells a b ≡ true) reads_same has)) (λ q i e. other q.descriptor i (not_unused r d q unused e)) (old.tied r))
              (λ i ne. same_tied w word' i (s.part i) (s.part i) refl refl (λ k. refl) refl refl (old.tied i).read (λ q k e. other q.descriptor k (not_unused i d q unused e)) (old.tied i));
        };
      }
    where
      else_test : (i n : ℕ) → i ≢ n → (i == n) ≡ false
      else_test i n ne = grind (arith, nat_tests)

      same_thunk_at : (word' : Spot → ℕ) (k : ℕ) → ((i : ℕ) → word' (spots.ThunkWord k i) ≡ s.word (spots.ThunkWord k i)) → thunk_in word' k ≡ thunk_in s.word k
      same_thunk_at word' k same = λ i. let v : ℕ → ℕ = λ j. same j i in thunk_of (v 0 ∷ v 1 ∷ v 2 ∷ v 3 ∷ v 4 ∷ v 5 ∷ v 6 ∷ v 7 ∷ v 8 ∷ v 9 ∷ v 10 ∷ v 11 ∷ [])

  -- what a step needs that changes a descriptor's words or its place alone
  changed_goes : (heads : List events.Event) (w1 : AgreementState) (word' : Spot → ℕ) (p' : PartState) → LeadBy m l heads w w1 → w1.run ≡ w.run → w1.finishes ≡ w.finishes → w1.finished ≡ w.finished → w1.shared ≡ w.shared
      → p'.run ≡ (s.part r).run → p'.records.finished ≡ (s.part r).records.finished → p'.reads ≡ (s.part r).reads
      → ShowsWords w.shared word' → ((d : ℕ) → ShowsSection (w1.section d) word' d) → ((d : ℕ) → w1.used d ≡ true → IsOfThunk m (w1.section d) (thunk_in word' d)) → ThunksStay s.word word'
      → Goes m l r heads w (record { word = word'; part = table.upd s.part r p' })
  changed_goes heads w1 word' p' leads run finishes finished shared runs records reads_same words sections thunks stay = record {
    next = w1;
    leads = leads_alone m l r heads w w1 leads;
    joined = record {
      sound = lead_sound m l heads w w1 leads old.sound;
      words = subst (λ (x : Shared). ShowsWords x word') (sym shared) words;
      sections = sections;
      thunks = thunks;
      tied = upd_split s.part r p' (λ i p. IsTied m l w1 word' i p)
          (same_tied w1 word' r (s.part r) p' (ap (λ (f : ℕ → Run). f r) run) (ap (λ (f : ℕ → ℕ). f r) finishes) (λ k. ap (λ (f : ℕ → ℕ → Finished). f r k) finished) runs records
          (λ a b has. ap (λ (x : Shared). x.seen a b) shared ∙ (old.tied r).read a b (subst (λ y. has_pair y.cells a b ≡ true) reads_same has)) (λ q j e. stay q.descriptor j) (old.tied r))
          (λ i ne. same_tied w1 word' i (s.part i) (s.part i) (ap (λ (f : ℕ → Run). f i) run) (ap (λ (f : ℕ → ℕ). f i) finishes) (λ k. ap (λ (f : ℕ → ℕ → Finished). f i k) finished) refl refl
          (λ a b has. ap (λ (x : Shared). x.seen a b) shared ∙ (old.tied i).read a b has) (λ q j e. stay q.descriptor j) (old.tied i));
    };
  }

  -- private stores into the done word and into the log of an unpublished descriptor
  pub done_stored : (d number : ℕ) (p' : PartState) → w.used d ≡ false → p'.run ≡ (s.part r).run → p'.published ≡ (s.part r).published → p'.records.finished ≡ (s.part r).records.finished → p'.reads ≡ (s.part r).reads
      → Goes m l r (events.StoreDone d number ∷ []) w (record { word = put s.word (spots.DoneWord d) number; part = table.upd s.part r p' })
  done_stored d number p' unused run published records reads_same =
      let w1 = events.after w (events.StoreDone d number) in
      changed_goes (events.StoreDone d number ∷ []) w1 (put s.word (spots.DoneWord d) number) p' (record { enabled = (unused, tt); there = refl }) refl refl refl refl
      run records reads_same (let x = old.words in record { cells = x.cells; clock = x.clock; stamp = x.stamp; reply = x.reply })
      (upd_split w.section d (record (w.section d) { done = number }) (λ i y. ShowsSection y (put s.word (spots.DoneWord d) number) i)
      (record { done = sym (ap (λ b. cond b number (s.word (spots.DoneWord d))) (at d)) })
      (λ i ne. record { done = (old.sections i).done ∙ sym (ap (λ b. cond b number (s.word (spots.DoneWord i))) (other i d ne)) }))
      (thunks_kept m l w w1 s (put s.word (spots.DoneWord d) number) old refl
      (upd_split w.section d (record (w.section d) { done = number }) (λ i y. HasSameText y (w.section i)) (record { lock = refl; word = refl; request = refl; code = refl; slot = refl }) (λ i ne. record { lock = refl; word = refl; request = refl; code = refl; slot = refl }))
      (λ i j. refl)) (λ i j. refl)
    where
      at : (n : ℕ) → (n == n) ≡ true
      at n = grind (arith, nat_tests)

      other : (i n : ℕ) → i ≢ n → (i == n) ≡ false
      other i n ne = grind (arith, nat_tests)

  pub log_stored : (d k number : ℕ) (p' : PartState) → w.used d ≡ false → p'.run ≡ (s.part r).run → p'.published ≡ (s.part r).published → p'.records.finished ≡ (s.part r).records.finished → p'.reads ≡ (s.part r).reads
      → Goes m l r (events.StoreLog d k number ∷ []) w (record { word = put s.word (spots.LogWord d k) number; part = table.upd s.part r p' })
  log_stored d k number p' unused run published records reads_same =
      let w1 = events.after w (events.StoreLog d k number) in
      let x1 : Section = record (w.section d) { log = upd ((w.section d).log) k number } in
      changed_goes (events.StoreLog d k number ∷ []) w1 (put s.word (spots.LogWord d k) number) p' (record { enabled = (unused, tt); there = refl }) refl refl refl refl
      run records reads_same (let x = old.words in record { cells = x.cells; clock = x.clock; stamp = x.stamp; reply = x.reply })
      (upd_split w.section d x1 (λ i y. ShowsSection y (put s.word (spots.LogWord d k) number) i)
      (record { done = (old.sections d).done })
      (λ i ne. record { done = (old.sections i).done }))
      (thunks_kept m l w w1 s (put s.word (spots.LogWord d k) number) old refl
      (upd_split w.section d x1 (λ i y. HasSameText y (w.section i)) (record { lock = refl; word = refl; request = refl; code = refl; slot = refl }) (λ i ne. record { lock = refl; word = refl; request = refl; code = refl; slot = refl }))
      (λ i j. refl)) (λ i j. refl)

  -- a run begins with the first word of a published descriptor
  pub run_begins : (d : ℕ) (p' : PartState) → (s.part r).run ≡ None → w.used d ≡ true → p'.run ≡ Some (opened d (s.word (spots.ThunkWord d 0))) → p'.published ≡ (s.part r).published
      → p'.records.finished ≡ (s.part r).records.finished → p'.reads ≡ (s.part r).reads → (word' : Spot → ℕ) → SameWords s.word word' → Goes m l r (events.Open r d ∷ []) w (record { word = word'; part = table.upd s.part r p' })
  run_begins d p' none used run published records reads_same word' words =
      let w1 = events.after w (events.Open r d) in
      let first = opened d (s.word (spots.ThunkWord d 0)) in
      let fresh : w1.run r ≡ begun d = upd_here w.run r (begun d) in
      plain_goes m l (events.Open r d ∷ []) w w1 s r word' p' old
      (record { there = refl; enabled = ((subst (ShowsRun (w.run r)) none (old.tied r).run, used), tt) })
      (record { others = λ i ne. upd_else w.run r (begun d) i ne; finishes = λ i ne. refl; finished = λ i k ne. refl; seen = λ a b e. e })
      (let x = old.words in record { cells = λ i. x.cells i ∙ sym (words.cells i); clock = x.clock ∙ sym words.clock; stamp = λ i. x.stamp i ∙ sym (words.stamp i); reply = λ i. x.reply i ∙ sym (words.reply i) })
      (λ i. record { done = (old.sections i).done ∙ sym (words.done i) })
      (thunks_kept m l w w1 s word' old refl (λ i. record { lock = refl; word = refl; request = refl; code = refl; slot = refl }) words.thunks) words.thunks
      (record {
        run = subst (ShowsRun (w1.run r)) (sym run) (subst (λ (y : Run). IsRunOf y first) (sym fresh) (record { running = refl; descriptor = refl; at = refl; word = refl; count = refl; trail = λ k. refl; ended = refl }));
        opened = λ q j e low more. let same : first ≡ q = (let both = sym run ∙ e in cc) in first_word q j same low (words.thunks d 0);
        begins = λ q e low. let same : first ≡ q = (let both = sym run ∙ e in cc) in (ap (λ (y : RunState). y.at) (sym same), ap (λ (y : RunState). y.ended) (sym same));
        rests = λ q e long. let same : first ≡ q = (let both = sym run ∙ e in cc) in absurd (let n = ap (λ (y : RunState). length y.opened) same in omega arith);
        released = λ q a e has. let same : first ≡ q = (let both = sym run ∙ e in cc) in absurd (let n = ap (λ (y : RunState). length y.opened) same in none_released q a same has);
        read = λ a b has. (old.tied r).read a b (subst (λ y. has_pair y.cells a b ≡ true) reads_same has);
        finishes = (old.tied r).finishes ∙ ap length (sym records);
        finished = λ i f e. (old.tied r).finished i f (ap (λ xs. slice_get xs i) (sym records) ∙ e);
      })
    where
      first_word : (q : RunState) (j : ℕ) → opened d (s.word (spots.ThunkWord d 0)) ≡ q → j < length q.opened → word' (spots.ThunkWord d 0) ≡ s.word (spots.ThunkWord d 0) → slice_index q.opened j ≡ word' (spots.ThunkWord q.descriptor j)
      first_word q j same low stay =
          let one : length q.opened ≡ 1 = ap (λ (y : RunState). length y.opened) (sym same) in
          let zero_th : j ≡ 0 = omega arith in
          subst (λ (y : RunState). slice_index y.opened j ≡ word' (spots.ThunkWord y.descriptor j)) same (subst (λ k. slice_index (s.word (spots.ThunkWord d 0) ∷ []) k ≡ word' (spots.ThunkWord d k)) (sym zero_th) (sym stay))

      none_released : (q : RunState) (a : ℕ) → opened d (s.word (spots.ThunkWord d 0)) ≡ q → has_released (line_of m q) q.at ((thunk_of q.opened).lock) ((thunk_of q.opened).word) q.ended a ≡ true → ⊥
      none_released q a same has =
          let nought : has_released (line_of m q) q.at ((thunk_of q.opened).lock) ((thunk_of q.opened).word) 0 a ≡ true = subst (λ n. has_released (line_of m q) q.at ((thunk_of q.opened).lock) ((thunk_of q.opened).word) n a ≡ true) (ap (λ (y : RunState). y.ended) (sym same)) has in cc

  -- a run loads one more of its words
  pub run_opens : (q : RunState) (found : ℕ) (p' : PartState) → (s.part r).run ≡ Some q → length q.opened < 13 → (length q.opened < 12 → found ≡ s.word (spots.ThunkWord q.descriptor (length q.opened)))
      → p'.run ≡ Some (record q { opened = q.opened ++ found ∷ [] }) → p'.published ≡ (s.part r).published → p'.records.finished ≡ (s.part r).records.finished → p'.reads ≡ (s.part r).reads
      → (word' : Spot → ℕ) → SameWords s.word word' → Goes m l r [] w (record { word = word'; part = table.upd s.part r p' })
  run_opens q found p' is low word run published records reads_same word' words =
      let q1 : RunState = record q { opened = q.opened ++ found ∷ [] } in
      let here : IsRunOf (w.run r) q = places.run_here m l w s old r q is in
      plain_goes m l [] w w s r word' p' old (lead_none m l w)
      (record { others = λ i ne. refl; finishes = λ i ne. refl; finished = λ i k ne. refl; seen = λ a b e. e })
      (let x = old.words in record { cells = λ i. x.cells i ∙ sym (words.cells i); clock = x.clock ∙ sym words.clock; stamp = λ i. x.stamp i ∙ sym (words.stamp i); reply = λ i. x.reply i ∙ sym (words.reply i) })
      (λ i. record { done = (old.sections i).done ∙ sym (words.done i) })
      (thunks_kept m l w w s word' old refl (λ i. record { lock = refl; word = refl; request = refl; code = refl; slot = refl }) words.thunks) words.thunks
      (record {
        run = subst (ShowsRun (w.run r)) (sym run) (record { running = here.running; descriptor = here.descriptor; at = here.at; word = here.word; count = here.count; trail = here.trail; ended = here.ended });
        opened = λ k j e inside more. let same : q1 ≡ k = (let both = sym run ∙ e in cc) in
            subst (λ (y : RunState). j < length y.opened → slice_index y.opened j ≡ word' (spots.ThunkWord y.descriptor j)) same (λ inside. opened_word j inside more) inside;
        begins = λ k e few. let same : q1 ≡ k = (let both = sym run ∙ e in cc) in let b = (old.tied r).begins q is low in (ap (λ (y : RunState). y.at) (sym same) ∙ b.0, ap (λ (y : RunState). y.ended) (sym same) ∙ b.1);
        rests = λ k e long. let same : q1 ≡ k = (let both = sym run ∙ e in cc) in subst (λ (y : RunState). settles m l y ≡ y) same (at_rest (ap (λ (y : RunState). length y.opened) same ∙ long));
        released = λ k a e has. let same : q1 ≡ k = (let both = sym run ∙ e in cc) in absurd (none_released k a (ap (λ (y : RunState). y.ended) (sym same) ∙ ((old.tied r).begins q is low).1) has);
        read = λ a b has. (old.tied r).read a b (subst (λ y. has_pair y.cells a b ≡ true) reads_same has);
        finishes = (old.tied r).finishes ∙ ap length (sym records);
        finished = λ i f e. (old.tied r).finished i f (ap (λ xs. slice_get xs i) (sym records) ∙ e);
      })
    where
      last_or_before : (xs : List ℕ) (y j : ℕ) → j < length (xs ++ y ∷ []) → ((j < length xs) × (slice_index (xs ++ y ∷ []) j ≡ slice_index xs j)) ⊎ ((j ≡ length xs) × (slice_index (xs ++ y ∷ []) j ≡ y))
      last_or_before [] y zero low = inr (refl, refl)
      last_or_before [] y (suc j) low = absurd (omega arith)
      last_or_before (x ∷ xs) y zero low = inl (omega arith, refl)
      last_or_before (x ∷ xs) y (suc j) low = ⊎_elim (λ b. inl ((let a = b.0 in omega arith), b.1)) (λ n. inr (ap suc n.0, n.1)) (last_or_before xs y j (omega arith))

      opened_word : (j : ℕ) → j < length (q.opened ++ found ∷ []) → j < 12 → slice_index (q.opened ++ found ∷ []) j ≡ word' (spots.ThunkWord q.descriptor j)
      opened_word j inside more = ⊎_elim
          (λ before. before.1 ∙ ((old.tied r).opened q j is before.0 more ∙ sym (words.thunks q.descriptor j)))
          (λ last. last.1 ∙ (word (subst (λ n. n < 12) last.0 more) ∙ (ap (λ k. s.word (spots.ThunkWord q.descriptor k)) (sym last.0) ∙ sym (words.thunks q.descriptor j))))
          (last_or_before q.opened found j inside)

      whole_thunk : length (q.opened ++ found ∷ []) ≡ 13 → thunk_of (q.opened ++ found ∷ []) ≡ thunk_in word' q.descriptor
      whole_thunk long = λ i. record {
        form = opened_word 0 (omega arith) (omega arith) i;
        request = opened_word 1 (omega arith) (omega arith) i % 2 ^ 32;
        lock = opened_word 2 (omega arith) (omega arith) i % 2 ^ 32;
        word = opened_word 3 (omega arith) (omega arith) i;
        operands = opened_word 4 (omega arith) (omega arith) i ∷ opened_word 5 (omega arith) (omega arith) i ∷ opened_word 6 (omega arith) (omega arith) i ∷ opened_word 7 (omega arith) (omega arith) i
            ∷ opened_word 8 (omega arith) (omega arith) i ∷ opened_word 9 (omega arith) (omega arith) i ∷ opened_word 10 (omega arith) (omega arith) i ∷ opened_word 11 (omega arith) (omega arith) i ∷ [];
      }

      -- no line begins with a check
      no_check : length (q.opened ++ found ∷ []) ≡ 13 → is_check (micro_at (line (m.body (thunk_of (q.opened ++ found ∷ [])))) 0) ≡ false
      no_check long =
          let used = places.used_here m l w s old r q is in
          let thunk = whole_thunk long ∙ same_thunk_in s.word word' q.descriptor words.thunks in
          ap (λ t. is_check (micro_at (line (m.body t)) 0)) thunk
          ∙ (ap is_check (sym ((old.thunks q.descriptor used).code 0)) ∙ (old.sound.sections q.descriptor used).published.line.in_phases.start)

      at_rest : length (q.opened ++ found ∷ []) ≡ 13 → settles m l (record q { opened = q.opened ++ found ∷ [] }) ≡ record q { opened = q.opened ++ found ∷ [] }
      at_rest long =
          let ms = line (m.body (thunk_of (q.opened ++ found ∷ []))) in
          let start : q.at ≡ 0 = ((old.tied r).begins q is low).0 in
          let none : is_check (micro_at ms q.at) ≡ false = ap (λ n. is_check (micro_at ms n)) start ∙ no_check long in
          ap (λ at. record q { opened = q.opened ++ found ∷ []; at = at })
          (settled_here (setting_of l q.descriptor) q.trail ms q.at (ap (λ b. b && is_none (leaves (setting_of l q.descriptor) q.trail (micro_at ms q.at))) none))

      none_released : (k : RunState) (a : ℕ) → k.ended ≡ 0 → has_released (line_of m k) k.at ((thunk_of k.opened).lock) ((thunk_of k.opened).word) k.ended a ≡ true → ⊥
      none_released k a e has =
          let nought : has_released (line_of m k) k.at ((thunk_of k.opened).lock) ((thunk_of k.opened).word) 0 a ≡ true = subst (λ n. has_released (line_of m k) k.at ((thunk_of k.opened).lock) ((thunk_of k.opened).word) n a ≡ true) e has in cc

  -- a section is published: the outer lock stood free with the thunk's word, and names the descriptor from now on
  module _ (d : ℕ) (t : Thunk) (p' : PartState) (none : (s.part r).run ≡ None) (unused : w.used d ≡ false) (found : s.word (spots.Cell t.lock) ≡ t.word) (words_of : thunk_in s.word d ≡ t)
      (line_of_t : IsPublishable c d t.lock t.word (micro_at (line (m.body t))) (committed (line (m.body t)))) (undone : s.word (spots.DoneWord d) ≡ 0)
      (run : p'.run ≡ None) (records : p'.records.finished ≡ (s.part r).records.finished)
      (cells : p'.reads.cells ≡ (s.part r).reads.cells ++ (t.lock, s.word (spots.Cell t.lock)) ∷ []) where
    abbrev word' : Spot → ℕ
    word' = put s.word (spots.Cell t.lock) (held_word d t.word)

    abbrev publish : events.Event
    publish = publication m d t

    abbrev w0 : AgreementState
    w0 = reads w t.lock

    abbrev w1 : AgreementState
    w1 = events.after w0 publish

    abbrev section1 : Section
    section1 = record (w.section d) { lock = t.lock; word = t.word; request = t.request; code = micro_at (line (m.body t)); slot = committed (line (m.body t)); log = λ k. 0; edge = 0 }

    leads : LeadBy m l (events.Read t.lock ∷ publish ∷ []) w w1
    leads = record {
      there = refl;
      enabled = (tt, ((unused, old.words.cells t.lock ∙ found, line_of_t, (old.sections d).done ∙ undone), tt));
    }

    pub publishes : Goes m l r (events.Read t.lock ∷ publish ∷ []) w (record { word = word'; part = table.upd s.part r p' })
    publishes = record {
      next = w1;
      leads = leads_alone m l r (events.Read t.lock ∷ publish ∷ []) w w1 leads;
      joined = record {
        sound = lead_sound m l (events.Read t.lock ∷ publish ∷ []) w w1 leads old.sound;
        words = record { clock = old.words.clock; stamp = old.words.stamp; reply = old.words.reply; cells = λ i. ap (cond (i == t.lock) (held_word d t.word)) (old.words.cells i) };
        sections = upd_split w.section d section1 (λ i y. ShowsSection y word' i) (record { done = (old.sections d).done }) (λ i ne. record { done = (old.sections i).done });
        thunks = λ i used. ⊎_elim
            (λ e. subst (λ k. IsOfThunk m (w1.section k) (thunk_in word' k)) (sym e)
            (subst (λ (y : Section). IsOfThunk m y (thunk_in word' d)) (sym (upd_here w.section d section1)) (subst (IsOfThunk m section1) (sym words_of)
            (record { lock = refl; word = refl; request = refl; code = λ k. refl; slot = λ k. refl }))))
            (λ ne. subst (λ (y : Section). IsOfThunk m y (thunk_in word' i)) (sym (upd_else w.section d section1 i ne)) (old.thunks i (sym (upd_else w.used d true i ne) ∙ used)))
            (cases_eq i d);
        tied = upd_split s.part r p' (λ i p. IsTied m l w1 word' i p)
            (same_tied w1 word' r (s.part r) p' refl refl (λ k. refl) (run ∙ sym none) records
            (reads_more w t.lock (s.word (spots.Cell t.lock)) (s.part r).reads.cells p'.reads.cells (old.words.cells t.lock) cells (λ a b has. (old.tied r).read a b has)) (λ q j e. refl) (old.tied r))
            (λ i ne. same_tied w1 word' i (s.part i) (s.part i) refl refl (λ k. refl) refl refl
            (λ a b has. (reads_own w r t.lock).seen a b ((old.tied i).read a b has)) (λ q j e. refl) (old.tied i));
      };
    }
