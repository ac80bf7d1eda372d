-- The releases at the end of a run, and what is kept of it, joined.
use Rattle.std.specs.Prelude.{◌==◌, Bool, true, false, nat_le, slice_index, slice_index_or, slice_get, cond, if◌then◌else◌}
use Rattle.std.specs.List.{list_any}
use Rattle.std.proofs.Common.{◌≡◌, ◌≢◌, ℕ, zero, suc, ◌+◌, ◌-◌, ◌<◌, ◌≤◌, List, [], ◌∷◌, ◌++◌, length, take, sym, refl, ap, ◌∙◌, subst, arith, inl, inr, ⊎_elim, length-append, Option, Some, None}
use Rattle.std.specs.Prelude.{◌⊎◌}
use Rattle.std.proofs.lemmas.Bool.Decides.{nat_tests}
use Rattle.std.proofs.lemmas.List.{take_all, get_or-take, length-take, get_or_past}
use Rattle.machine_states.specs.map_history.specs.declared.op.Request.{Request}
use Rattle.machine_states.specs.body_terms.specs.Update.{upd}
use Rattle.machine_states.specs.body_terms.specs.Word.{next_word, held_word}
use Rattle.machine_states.specs.body_terms.specs.declared.micro.Micro.{Micro}
use Rattle.machine_states.specs.body_terms.specs.declared.micro.Micro.TheVariants as micros
use Rattle.machine_states.specs.body_terms.specs.Line.{micro_at, is_event, is_end, ending}
use Rattle.machine_states.specs.body_terms.specs.declared.thunk.Thunk.{Thunk}
use Rattle.machine_states.specs.table_words.specs.declared.layout.Layout.{Layout}
use Rattle.machine_states.specs.table_words.specs.declared.spot.Spot.{Spot}
use Rattle.machine_states.specs.table_words.specs.declared.spot.Spot.TheVariants as spots
use Rattle.machine_states.specs.table_words.specs.declared.access.Access.{Access}
use Rattle.machine_states.specs.table_words.specs.declared.access.Access.TheVariants.{Exchanges}
use Rattle.machine_states.specs.table_words.specs.Seen.{put}
use Rattle.machine_states.specs.table_words.specs.Seen as table
use Rattle.machine_states.specs.structure_laws.specs.Meaning.{Meaning}
use Rattle.machine_states.specs.runner_parts.specs.declared.event.EventKind.{EventKind}
use Rattle.machine_states.specs.runner_parts.specs.declared.event.EventKind.TheVariants as kinds
use Rattle.machine_states.specs.runner_parts.specs.State.{RunState, DescriptorsState, PartState}
use Rattle.machine_states.specs.runner_parts.specs.Tests.{has_pair}
use Rattle.machine_states.specs.runner_parts.specs.Lists.{cell_read, descriptor_retired}
use Rattle.machine_states.specs.runner_parts.specs.declared.entries.Published.{Published}
use Rattle.machine_states.specs.runner_steps.specs.Sections.{thunk_of, is_open_run, next_of, line_of, settles}
use Rattle.machine_states.specs.runner_steps.specs.Asks.{asks}
use Rattle.machine_states.specs.runner_steps.specs.AfterInRun.{place_of, ended_more, run_over, kept_unless, retired_if, finished_of}
use Rattle.agreement_core.specs.State.{CellRules, Section, Run, Finished, AgreementState, section_of}
use Rattle.agreement_core.specs.Checks.{exchanged}
use Rattle.agreement_core.specs.Events as events
use Rattle.agreement_core.specs.Events.{HasTaken, with_cell, reads}
use Rattle.agreement_core.specs.Update.{upd2}
use Rattle.machine_states.specs.Sight.{Sight, sight_after}
use Rattle.machine_states.proofs.Updates.{upd_here, upd_else}
use Rattle.machine_scenes.specs.Shown.{rules_of, IsOfThunk}
use Rattle.machine_agreement.specs.Joined.{has_released, IsRunOf, IsFinishOf, ShowsWords, ShowsSection, IsTied, IsJoinedToAgreement}
use Rattle.machine_agreement.proofs.RunPlaces as places
use Rattle.machine_agreement.proofs.LineAsked as asked
use Rattle.machine_agreement.proofs.Frames.{HasSameText}
use Rattle.machine_agreement.proofs.Components.{reads_own, reads_more}
use Rattle.machine_states.specs.epoch_core.specs.small_lemmas.proofs.Numbers.{tested_equal as same_descriptor}
use Rattle.machine_agreement.specs.Chunks.{retires_own, IsLineChunk}
use Rattle.machine_agreement.specs.Goes.{Goes}
use Rattle.machine_agreement.proofs.Assembly.{LeadBy, IsOtherStep, lead_more, plain_goes, thunks_kept}
use Rattle.machine_agreement.proofs.Endings.{TakesIn, tail_of, release_taken, past_all, all_released, released_more}
use Rattle.machine_agreement.proofs.Ends as ends
use Rattle.machine_agreement.proofs.LineKinds.{noting, noted_finished, after_line, all}

-- what stands in a list with one more at its end
pub get_more : {A : Type 0} (xs : List A) (f g : A) (i : ℕ) → slice_get (xs ++ f ∷ []) i ≡ Some g → ((i < length xs) × (slice_get xs i ≡ Some g)) ⊎ ((i ≡ length xs) × (f ≡ g))
get_more [] f g zero e = inr (refl, cc)
get_more [] f g (suc i) e = cc
get_more (x ∷ xs) f g zero e = inl (omega arith, e)
get_more (x ∷ xs) f g (suc i) e = ⊎_elim (λ before. inl ((let low = before.0 in omega arith), before.1)) (λ now. inr (ap suc now.0, now.1)) (get_more xs f g i e)

two_other : (f : ℕ → ℕ → Finished) (r n : ℕ) (v : Finished) (i k : ℕ) → i ≢ r → upd2 f r n v i k ≡ f i k
two_other f r n v i k ne = grind (arith, nat_tests)

two_before : (f : ℕ → ℕ → Finished) (r n : ℕ) (v : Finished) (k : ℕ) → k ≢ n → upd2 f r n v r k ≡ f r k
two_before f r n v k ne = grind (arith, nat_tests)

two_here : (f : ℕ → ℕ → Finished) (r n : ℕ) (v : Finished) (k : ℕ) → k ≡ n → upd2 f r n v r k ≡ v
two_here f r n v k e = grind (arith, nat_tests)

module _ (m : Meaning) (l : Layout) (rs : List Request) (w : AgreementState) (s : Sight) (old : IsJoinedToAgreement m l w s) (r : ℕ) (q : RunState) (is : (s.part r).run ≡ Some q) (opened : is_open_run q ≡ true) where
  abbrev c : CellRules
  c = rules_of m l

  -- the step leads to a joined state, by the events of its kind
  abbrev After : EventKind → Spot × Access → Type 0
  After kind x = (heads : List events.Event) × IsLineChunk m l w r kind (s.part r) q (s.word x.0) heads × Goes m l r heads w (sight_after m l s r kind x)

  run_here : IsRunOf (w.run r) q
  run_here = places.run_here m l w s old r q is

  long : length q.opened ≡ 13
  long = all m l rs w s old r q is opened

  abbrev t : Thunk
  t = thunk_of q.opened

  abbrev ms : List Micro
  ms = line_of m q

  abbrev tail : List Micro
  tail = tail_of (take q.at ms) t.lock t.word

  text : IsOfThunk m (section_of w r) t
  text = subst (λ d. IsOfThunk m (w.section d) t) (sym run_here.descriptor) (places.of_thunk m l w s old r q is long)

  -- what the line has taken, in the component's words and back
  has_taken : (p word : ℕ) → TakesIn (take q.at ms) t.lock t.word p word → HasTaken (section_of w r) ((w.run r).at) p word
  has_taken p word taken = ⊎_elim (λ first. inl (first.0 ∙ sym text.lock, first.1 ∙ sym text.word))
      (λ nested. let low : nested.0 < q.at = (let n = nested.2 in let long = length-take q.at ms in omega arith) in
      inr (nested.0, nested.1, subst (λ n. nested.0 < n) (sym run_here.at) low, text.code nested.0 ∙ (sym (get_or-take q.at ms nested.0 micros.End low) ∙ nested.3))) taken

  takes_in : (p word : ℕ) → HasTaken (section_of w r) ((w.run r).at) p word → TakesIn (take q.at ms) t.lock t.word p word
  takes_in p word taken = ⊎_elim (λ first. inl (first.0 ∙ text.lock, first.1 ∙ text.word))
      (λ nested. let low : nested.0 < q.at = subst (λ n. nested.0 < n) run_here.at nested.2 in
      let here : micro_at ms nested.0 ≡ micros.CheckHeld p nested.1 word = sym (text.code nested.0) ∙ nested.3 in
      inr (nested.0, nested.1, inside nested.1 nested.0 low here, get_or-take q.at ms nested.0 micros.End low ∙ here)) taken
    where
      order : (i n : ℕ) → (i < n) ⊎ (n ≤ i)
      order i n = search arith

      inside : (log i : ℕ) → i < q.at → micro_at ms i ≡ micros.CheckHeld p log word → i < length (take q.at ms)
      inside log i low here = ⊎_elim (λ within. let n = length-take q.at ms in omega arith) (λ past. absurd (let end = sym here ∙ get_or_past ms i micros.End past in cc)) (order i (length ms))

  module _ (p word : ℕ) (next : next_of m q ≡ micros.Release p word) where
    abbrev found : ℕ
    found = s.word (spots.Cell p)

    abbrev held : ℕ
    held = held_word q.descriptor word

    abbrev new : ℕ
    new = exchanged found held (next_word held 0)

    abbrev x : Spot × Access
    x = (spots.Cell p, Exchanges held (next_word held 0))

    abbrev word' : Spot → ℕ
    word' = put s.word (spots.Cell p) new

    abbrev q1 : RunState
    q1 = ended_more q

    abbrev w0 : AgreementState
    w0 = reads w p

    abbrev w1 : AgreementState
    w1 = events.after w0 (events.Release r p word)

    stands : (is_event (micro_at ms q.at) ≡ false) × (slice_index_or (ending ms q.at t.lock t.word) q.ended micros.End ≡ micros.Release p word)
    stands = ends.at_end m l rs w s old r q is opened (micros.Release p word) (omega arith) next

    -- one exchange of the end was made, which set the done word
    further : (n : ℕ) → slice_index_or (ending ms q.at t.lock t.word) n micros.End ≡ micros.Release p word → (k : ℕ) × (n ≡ suc k) × (slice_index_or tail k micros.End ≡ micros.Release p word)
    further zero e = cc
    further (suc k) e = (k, refl, e)

    abbrev place : (k : ℕ) × (q.ended ≡ suc k) × (slice_index_or tail k micros.End ≡ micros.Release p word)
    place = further q.ended stands.1

    run0 : IsRunOf (w1.run r) q1
    run0 = subst (λ (y : Run). IsRunOf y q1) (sym (upd_here w.run r (record (w.run r) { released = upd ((w.run r).released) p true })))
        (record {
          running = run_here.running;
          descriptor = run_here.descriptor;
          at = run_here.at;
          word = run_here.word;
          count = run_here.count;
          trail = run_here.trail;
          ended = run_here.ended ∙ one_more q.ended place.0 place.1;
        })
      where
        one_more : (n k : ℕ) → n ≡ suc k → nat_le 1 n ≡ nat_le 1 (n + 1)
        one_more n k e = grind (arith, nat_tests)

    is_ended : (w.run r).ended ≡ true
    is_ended = run_here.ended ∙ some q.ended place.0 place.1
      where
        some : (n k : ℕ) → n ≡ suc k → nat_le 1 n ≡ true
        some n k e = grind (arith, nat_tests)

    -- the lock is read, and released
    abbrev heads : List events.Event
    heads = events.Read p ∷ events.Release r p word ∷ []

    leads : LeadBy m l heads w w1
    leads = record {
      there = refl;
      enabled = (tt, ((run_here.running, is_ended, has_taken p word (release_taken (take q.at ms) t.lock t.word p word place.0 place.2)), tt));
    }

    other : IsOtherStep m l w w1 r
    other = record { others = λ i ne. upd_else w.run r _ i ne; finishes = λ i ne. refl; finished = λ i k ne. refl; seen = (reads_own w r p).seen }

    new_word : exchanged (w.shared.cells p) (held_word ((w.run r).descriptor) word) (next_word (held_word ((w.run r).descriptor) word) 0) ≡ new
    new_word = ap (λ n. exchanged n (held_word ((w.run r).descriptor) word) (next_word (held_word ((w.run r).descriptor) word) 0)) (old.words.cells p)
        ∙ ap (λ d. exchanged found (held_word d word) (next_word (held_word d word) 0)) run_here.descriptor

    words : ShowsWords w1.shared word'
    words = record {
      clock = old.words.clock;
      stamp = old.words.stamp;
      reply = old.words.reply;
      cells = λ i. ap (cond (i == p) _) (old.words.cells i) ∙ ap (λ n. cond (i == p) n (s.word (spots.Cell i))) new_word;
    }

    sections : (d : ℕ) → ShowsSection (w1.section d) word' d
    sections d = record { done = (old.sections d).done }

    same_text : (d : ℕ) → HasSameText (w1.section d) (w.section d)
    same_text d = record { lock = refl; word = refl; request = refl; code = refl; slot = refl }

    -- the locks that are released now
    released_now : (a : ℕ) → has_released ms q.at t.lock t.word (q.ended + 1) a ≡ true → (w1.run r).released a ≡ true
    released_now a has = ap (λ (y : Run). y.released a) (upd_here w.run r _) ∙ ⊎_elim
        (λ before. keep ((w.run r).released) a ((old.tied r).released q a is (subst (λ n. list_any (λ y. place_of y == a) (take (n - 1) tail) ≡ true) (sym place.1) (subst (λ n. list_any (λ y. place_of y == a) (take n tail) ≡ true) (let e : place.0 ≡ suc place.0 - 1 = omega arith in e) before))))
        (λ now. here ((w.run r).released) a now)
        (released_more tail place.0 a (micros.Release p word) place.2 refl (subst (λ n. list_any (λ y. place_of y == a) (take n tail) ≡ true) (let e : q.ended + 1 - 1 ≡ suc place.0 = (let k = place.1 in omega arith) in e) has))
      where
        keep : (f : ℕ → Bool) (a : ℕ) → f a ≡ true → upd f p true a ≡ true
        keep f a e = grind (arith, nat_tests)

        here : (f : ℕ → Bool) (a : ℕ) → p ≡ a → upd f p true a ≡ true
        here f a e = grind (arith, nat_tests)

    -- the part of a run that goes on to its next release
    abbrev read_part : PartState
    read_part = record (s.part r) { reads = cell_read (s.part r).reads p found }

    read : (a b : ℕ) → has_pair read_part.reads.cells a b ≡ true → w1.shared.seen a b ≡ true
    read = reads_more w p found (s.part r).reads.cells _ (old.words.cells p) refl (λ a b has. (old.tied r).read a b has)

    abbrev noted_of : PartState → PartState
    noted_of y = noting m l r kinds.Release (spots.Cell p) (Exchanges held (next_word held 0)) found (s.part r) y

    goes_on_tied : IsTied m l w1 word' r (noted_of (record read_part { run = Some q1 }))
    goes_on_tied = record {
      run = run0;
      opened = λ k j e low more. let same : q1 ≡ k = cc in subst (λ (y : RunState). j < length y.opened → slice_index y.opened j ≡ word' (spots.ThunkWord y.descriptor j)) same (λ low. (old.tied r).opened q j is low more) low;
      begins = λ k e low. let same : q1 ≡ k = cc in absurd (let n = ap (λ (y : RunState). length y.opened) same in let all = long in omega arith);
      rests = λ k e all. let same : q1 ≡ k = cc in subst (λ (y : RunState). settles m l y ≡ y) same (ap (λ (y : RunState). ended_more y) ((old.tied r).rests q is long));
      released = λ k a e has. let same : q1 ≡ k = cc in released_now a (subst (λ (y : RunState). has_released (line_of m y) y.at ((thunk_of y.opened).lock) ((thunk_of y.opened).word) y.ended a ≡ true) (sym same) has);
      read = read;
      finishes = (old.tied r).finishes ∙ ap length (sym (noted_finished l r kinds.Release (spots.Cell p) (Exchanges held (next_word held 0)) found (s.part r).records));
      finished = λ i f e. (old.tied r).finished i f (ap (λ xs. slice_get xs i) (sym (noted_finished l r kinds.Release (spots.Cell p) (Exchanges held (next_word held 0)) found (s.part r).records)) ∙ e);
    }

    -- the run is over
    module _ (end : is_end (next_of m q1) ≡ true) where
      abbrev w2 : AgreementState
      w2 = events.after w1 (events.Finish r)

      whole : length tail ≤ q.ended
      whole =
          let next : next_of m q1 ≡ slice_index_or (ending ms q.at t.lock t.word) (q.ended + 1) micros.End
          = ap (λ b. cond b (micro_at ms q.at) (slice_index_or (ending ms q.at t.lock t.word) (q.ended + 1) micros.End)) stands.0 in
          let more : slice_index_or (ending ms q.at t.lock t.word) (q.ended + 1) micros.End ≡ slice_index_or tail q.ended micros.End
          = ap (λ n. slice_index_or (ending ms q.at t.lock t.word) n micros.End) (let e : q.ended + 1 ≡ suc q.ended = omega arith in e) in
          past_all (take q.at ms) t.lock t.word q.ended (ap is_end (sym (next ∙ more)) ∙ end)

      each_released : (a b : ℕ) → HasTaken (section_of w1 r) ((w1.run r).at) a b → (w1.run r).released a ≡ true
      each_released a b taken =
          let run = upd_here w.run r (record (w.run r) { released = upd ((w.run r).released) p true }) in
          let before : HasTaken (section_of w r) ((w.run r).at) a b = subst (λ (y : Run). HasTaken (w.section y.descriptor) y.at a b) run taken in
          released_now a (ap (list_any (λ y. place_of y == a)) (take_all (q.ended + 1 - 1) tail (let few = whole in omega arith))
          ∙ all_released (take q.at ms) t.lock t.word a b (takes_in a b before))

      leads2 : LeadBy m l (heads ++ events.Finish r ∷ []) w w2
      leads2 = lead_more m l heads (events.Finish r ∷ []) w w1 w2 leads (record { there = refl; enabled = ((run0.running, run0.ended ∙ some q.ended, each_released), tt) })
        where
          some : (n : ℕ) → nat_le 1 (n + 1) ≡ true
          some n = grind (arith, nat_tests)

      over_here : (f : ℕ → Bool) (d i : ℕ) → i ≡ d → upd f d true i ≡ true
      over_here f d i e = grind (arith, nat_tests)

      other2 : IsOtherStep m l w w2 r
      other2 = record {
        others = λ i ne. upd_else w1.run r _ i ne ∙ upd_else w.run r _ i ne;
        finishes = λ i ne. upd_else w.finishes r _ i ne;
        finished = λ i k ne. two_other w.finished r (w.finishes r) _ i k ne;
        seen = (reads_own w r p).seen;
      }

      abbrev kept : Finished
      kept = events.finished_of (section_of w1 r) (w1.run r)

      finish_here : IsFinishOf kept (finished_of m l q1)
      finish_here =
          let place : w1.section ((w1.run r).descriptor) ≡ w.section q.descriptor = ap w.section run0.descriptor in
          let at = places.of_thunk m l w s old r q is long in record {
            lock = ap (λ (y : Section). y.lock) place ∙ at.lock;
            word = ap (λ (y : Section). y.word) place ∙ at.word;
            descriptor = run0.descriptor;
            count = run0.count;
            trail = run0.trail;
          }

      over_tied : (published : Option Published) (descriptors : DescriptorsState) → IsTied m l w2 word' r (noted_of (record (run_over m l read_part q1) { published = published; descriptors = descriptors }))
      over_tied published descriptors =
          let finished = noted_finished l r kinds.Release (spots.Cell p) (Exchanges held (next_word held 0)) found (run_over m l read_part q1).records in
          record {
            run = ap (λ (y : Run). y.running) (upd_here w1.run r _);
            opened = λ k j e low more. absurd (let none = e in cc);
            begins = λ k e low. absurd (let none = e in cc);
            rests = λ k e all. absurd (let none = e in cc);
            released = λ k a e has. absurd (let none = e in cc);
            read = read;
            finishes = upd_here w.finishes r _ ∙ (ap suc (old.tied r).finishes ∙ (more_long (s.part r).records.finished (finished_of m l q1) ∙ ap length (sym finished)));
            finished = λ i f e. ⊎_elim
                (λ before. subst (λ (y : Finished). IsFinishOf y f) (sym (two_before w.finished r (w.finishes r) kept i (λ same. let long = (old.tied r).finishes in let low = before.0 in absurd (omega arith)))) ((old.tied r).finished i f before.1))
                (λ now. subst (λ (y : Finished). IsFinishOf y f) (sym (two_here w.finished r (w.finishes r) kept i (now.0 ∙ sym (old.tied r).finishes))) (subst (IsFinishOf kept) now.1 finish_here))
                (get_more (s.part r).records.finished (finished_of m l q1) f i (ap (λ xs. slice_get xs i) (sym finished) ∙ e));
          }
        where
          more_long : {A : Type 0} (xs : List A) (y : A) → suc (length xs) ≡ length (xs ++ y ∷ [])
          more_long xs y = let n = length-append xs (y ∷ []) in omega arith

    -- the own section is retired with it, where this was its run
    module _ (live : (y : Published) → (s.part r).published ≡ Some y → w.live y.descriptor ≡ true) (end : is_end (next_of m q1) ≡ true) where
      -- the part then, where this is what it had published
      abbrev over_part : Option Published → PartState
      over_part o = noted_of (record (run_over m l read_part q1) { published = kept_unless o q.descriptor; descriptors = retired_if (s.part r).descriptors o q.descriptor })

      abbrev w3 : AgreementState
      w3 = events.after (w2 end) (events.RetireDescriptor q.descriptor)

      finishes_only : (published : Option Published) (descriptors : DescriptorsState)
          → Goes m l r (heads ++ events.Finish r ∷ []) w (record { word = word'; part = table.upd s.part r (noted_of (record (run_over m l read_part q1) { published = published; descriptors = descriptors })) })
      finishes_only published descriptors = plain_goes m l (heads ++ events.Finish r ∷ []) w (w2 end) s r word' _ old (leads2 end) (other2 end)
          (record { cells = words.cells; clock = words.clock; stamp = words.stamp; reply = words.reply }) sections (thunks_kept m l w (w2 end) s word' old refl same_text (λ d j. refl)) (λ d j. refl) (over_tied end published descriptors)

      retires_too : (y : Published) → (s.part r).published ≡ Some y → y.descriptor ≡ q.descriptor → (published : Option Published) (descriptors : DescriptorsState)
          → Goes m l r (heads ++ events.Finish r ∷ events.RetireDescriptor q.descriptor ∷ []) w (record { word = word'; part = table.upd s.part r (noted_of (record (run_over m l read_part q1) { published = published; descriptors = descriptors })) })
      retires_too y at own published descriptors =
          let t = over_tied end published descriptors in
          let o = other2 end in
          plain_goes m l (heads ++ events.Finish r ∷ events.RetireDescriptor q.descriptor ∷ []) w w3 s r word' _ old
          (lead_more m l (heads ++ events.Finish r ∷ []) (events.RetireDescriptor q.descriptor ∷ []) w (w2 end) w3 (leads2 end)
          (record { there = refl; enabled = ((ap w.live (sym own) ∙ live y at, over_here end w1.over ((w1.run r).descriptor) q.descriptor (sym run0.descriptor)), tt) }))
          (record { others = o.others; finishes = o.finishes; finished = o.finished; seen = o.seen })
          (record { cells = words.cells; clock = words.clock; stamp = words.stamp; reply = words.reply }) sections (thunks_kept m l w w3 s word' old refl same_text (λ d j. refl)) (λ d j. refl)
          (record { run = t.run; opened = t.opened; begins = t.begins; rests = t.rests; released = t.released; read = t.read; finishes = t.finishes; finished = t.finished })

      over_goes : Goes m l r (heads ++ events.Finish r ∷ retires_own (s.part r).published q.descriptor) w (record { word = word'; part = table.upd s.part r (over_part (s.part r).published) })
      over_goes = by_published (s.part r).published refl
        where
          by_test : (y : Published) → (s.part r).published ≡ Some y → (b : Bool) → (y.descriptor == q.descriptor) ≡ b
              → Goes m l r (heads ++ events.Finish r ∷ (if b then events.RetireDescriptor q.descriptor ∷ [] else [])) w (record {
                word = word';
                part = table.upd s.part r (noted_of (record (run_over m l read_part q1) {
                  published = (if b then None else Some y);
                  descriptors = (if b then descriptor_retired (s.part r).descriptors q.descriptor else (s.part r).descriptors);
                }));
              })
          by_test y at true e = retires_too y at (same_descriptor _ _ e) _ _
          by_test y at false e = finishes_only _ _

          by_published : (o : Option Published) → (s.part r).published ≡ o
              → Goes m l r (heads ++ events.Finish r ∷ retires_own o q.descriptor) w (record { word = word'; part = table.upd s.part r (over_part o) })
          by_published None at = finishes_only _ _
          by_published (Some y) at = by_test y at (y.descriptor == q.descriptor) refl

    -- and the run is over where this was the last of its releases
    abbrev heads_by : Bool → List events.Event
    heads_by b = if b then heads ++ events.Finish r ∷ retires_own (s.part r).published q.descriptor else heads

    release_by : ((y : Published) → (s.part r).published ≡ Some y → w.live y.descriptor ≡ true) → (b : Bool) → is_end (next_of m q1) ≡ b
        → Goes m l r (heads_by b) w (record { word = word'; part = table.upd s.part r (noted_of (if b then run_over m l read_part q1 else record read_part { run = Some q1 })) })
    release_by live false e = plain_goes m l heads w w1 s r word' (noted_of (record read_part { run = Some q1 })) old leads other words sections (thunks_kept m l w w1 s word' old refl same_text (λ d j. refl)) (λ d j. refl) goes_on_tied
    release_by live true e = over_goes live e

    over_or_on : (b : Bool) → is_end (next_of m q1) ≡ b
        → ((is_end (next_of m q1) ≡ false) × (heads_by b ≡ heads)) ⊎ ((is_end (next_of m q1) ≡ true) × (heads_by b ≡ events.Read p ∷ events.Release r p word ∷ events.Finish r ∷ retires_own (s.part r).published q.descriptor))
    over_or_on false e = inl (e, refl)
    over_or_on true e = inr (e, refl)

    release_goes : ((y : Published) → (s.part r).published ≡ Some y → w.live y.descriptor ≡ true) → After kinds.Release x
    release_goes live = (
      heads_by (is_end (next_of m q1)),
      (p, word, next, over_or_on (is_end (next_of m q1)) refl),
      subst (λ (y : PartState). Goes m l r (heads_by (is_end (next_of m q1))) w (record { word = word'; part = table.upd s.part r y }))
          (sym (after_line m l r kinds.Release x (s.part r) found q (micros.Release p word) is opened next)) (release_by live (is_end (next_of m q1)) refl),
    )

  pub release : (x : Spot × Access) → ((y : Published) → (s.part r).published ≡ Some y → w.live y.descriptor ≡ true) → asks m l rs r kinds.Release (s.part r) ≡ Some x → After kinds.Release x
  release x live e =
      let h = asked.release_asked q x l (next_of m q) (asked.line_asked m l rs r kinds.Release (s.part r) q x e is opened) in
      subst (After kinds.Release) h.3 (release_goes h.0 h.1 h.2 live)
