-- The kinds of step at a run's start and at its end.
use Rattle.std.specs.Prelude.{◌==◌, cond, Bool, true, false, slice_index}
use Rattle.std.proofs.Common.{◌≡◌, ◌≢◌, ℕ, zero, suc, ◌<◌, List, [], ◌∷◌, ◌++◌, length, refl, sym, ap, ◌∙◌, subst, arith, length-append, ⊎_elim, Option, Some, None}
use Rattle.std.proofs.lemmas.Bool.{cases_eq}
use Rattle.std.proofs.lemmas.Option.{none-some}
use Rattle.machine_states.specs.map_history.specs.declared.op.Request.{Request}
use Rattle.machine_states.specs.body_terms.specs.declared.micro.Micro.{Micro}
use Rattle.machine_states.specs.body_terms.specs.declared.micro.Micro.TheVariants as micros
use Rattle.machine_states.specs.body_terms.specs.Line.{is_end}
use Rattle.machine_states.specs.table_words.specs.declared.layout.Layout.{Layout}
use Rattle.machine_states.specs.table_words.specs.declared.spot.Spot.{Spot}
use Rattle.machine_states.specs.table_words.specs.declared.spot.Spot.TheVariants.{Epoch, Announcement, Cell, ThunkWord, DoneWord, Board}
use Rattle.machine_states.specs.table_words.specs.declared.access.Access.{Access}
use Rattle.machine_states.specs.table_words.specs.declared.access.Access.TheVariants.{Exchanges}
use Rattle.machine_states.specs.table_words.specs.Access.{exchanged, written}
use Rattle.machine_states.specs.table_words.specs.Places.{Fits}
use Rattle.machine_states.specs.table_words.specs.Seen.{upd, put}
use Rattle.machine_states.specs.structure_laws.specs.Meaning.{Meaning}
use Rattle.machine_states.specs.runner_parts.specs.declared.event.EventKind.TheVariants as kinds
use Rattle.machine_states.specs.runner_parts.specs.declared.entries.Published.{Published}
use Rattle.machine_states.specs.runner_parts.specs.State.{RunState, PartState, DescriptorsState, ReadsState, RecordsState}
use Rattle.machine_states.specs.runner_parts.specs.declared.entries.Stored.{Stored}
use Rattle.machine_states.specs.runner_parts.specs.Tests.{has, last_stored}
use Rattle.machine_states.specs.runner_steps.specs.Outside.{descriptor_spot, is_sure_of}
use Rattle.machine_states.specs.runner_steps.specs.Sections.{is_open_run, next_of}
use Rattle.machine_states.specs.runner_steps.specs.Asks.{sizes_for}
use Rattle.machine_states.specs.runner_steps.specs.InRun.{open_more_ask, load_done_ask, set_done_ask, release_ask}
use Rattle.machine_states.specs.runner_parts.specs.Lists.{cell_read, descriptor_retired}
use Rattle.machine_states.specs.runner_steps.specs.AfterInRun.{kept_unless, retired_if, ended_more, opened_more}
use Rattle.section_lines.specs.small_lemmas.proofs.Numbers.{tested_equal as same_slot}
use Rattle.machine_states.specs.epoch_core.specs.declared.location.Location.{Location}
use Rattle.machine_states.specs.epoch_core.specs.declared.location.Location.TheVariants.{Live, Hand, Limbo}
use Rattle.machine_states.specs.epoch_core.specs.State.{EpochState, no_retire, is_entered}
use Rattle.machine_states.specs.epoch_core.specs.Events.{slot_of, after}
use Rattle.machine_states.specs.epoch_core.specs.Events as events
use Rattle.machine_states.specs.epoch_core.specs.History.{is_out}
use Rattle.machine_states.specs.Sight.{Sight}
use Rattle.machine_states.proofs.Steps.{some_same}
use Rattle.machine_states.proofs.Updates.{map_same, map_upd}
use Rattle.machine_epochs.specs.Entries.{counts_of}
use Rattle.machine_epochs.specs.Joined.{IsTied, IsJoinedToEpochs}
use Rattle.machine_epochs.specs.Slots.{lists_of, retiring_of}
use Rattle.machine_epochs.specs.Chunks.{retires_own}
use Rattle.machine_epochs.proofs.InsideAsked as asked
use Rattle.machine_epochs.proofs.RunPlaces.{is_of_end, begins_unretired, ends_unretired}
use Rattle.machine_epochs.proofs.Places.{apart, done_elsewhere}
use Rattle.machine_epochs.proofs.Joining.{IsSameBut, but_cell, but_load, descriptor_same, Goes, GoesBy, StaysAt, next, as_published, once, stages_stay, stays, board_kept, goes_with}
use Rattle.machine_epochs.proofs.RunKinds.{run_goes, Leads, for_step}
use Rattle.machine_epochs.proofs.SlotKinds.{other_place, kept_place, live_hand, slot_apart}

index_old : (xs : List ℕ) (x j : ℕ) → j < length xs → slice_index (xs ++ x ∷ []) j ≡ slice_index xs j
index_old [] x j h = absurd (omega arith)
index_old (y ∷ ys) x zero h = refl
index_old (y ∷ ys) x (suc j) h = index_old ys x j (omega arith)

index_new : (xs : List ℕ) (x : ℕ) → slice_index (xs ++ x ∷ []) (length xs) ≡ x
index_new [] x = refl
index_new (y ∷ ys) x = index_new ys x

module _ (m : Meaning) (l : Layout) (w : EpochState) (s : Sight) (old : IsJoinedToEpochs m l w s) (r : ℕ) (q : RunState) (at : (s.part r).run ≡ Some q) where
  abbrev p : PartState
  p = s.part r

  -- one more word of the thunk, or the done word, is loaded
  module _ (found : ℕ) (few : length q.opened < 13) (word : length q.opened < 12 → found ≡ s.word (ThunkWord q.descriptor (length q.opened))) where
    abbrev opened : RunState
    opened = record q { opened = q.opened ++ found ∷ [] }

    starts : q.at ≡ 0
    starts = (old.tied r).run_begins q at few

    there : (j : ℕ) → j < length (q.opened ++ found ∷ []) → j < 12 → slice_index (q.opened ++ found ∷ []) j ≡ s.word (ThunkWord q.descriptor j)
    there j low low' = ⊎_elim
        (λ last. ap (slice_index (q.opened ++ found ∷ [])) last ∙ (index_new q.opened found ∙ (word (omega arith) ∙ ap (λ i. s.word (ThunkWord q.descriptor i)) (sym last))))
        (λ other. let before : j < length q.opened = (let more = length-append q.opened (found ∷ []) in omega arith) in index_old q.opened found j before ∙ (old.tied r).run_opened q j at before low')
        (cases_eq j (length q.opened))

    pub opens : (f : Spot → ℕ) → IsSameBut f s.word → (records : RecordsState) → StaysAt m l w (next m l w s old r f (record p { run = Some opened; records = records }))
    opens f same records =
        let t = old.tied r in
        stays m l w s old r f (record p { run = Some opened; records = records }) same refl refl (as_published m l w s old r (record p { run = Some opened; records = records }) refl) (record {
          run_held = λ q2 e. ap (λ (a : RunState). w.holds r (slot_of (counts_of m l) a.descriptor)) (sym (is q2 e)) ∙ t.run_held q at;
          run_opened = λ q2 j e low low'. subst (λ (a : RunState). slice_index a.opened j ≡ f (ThunkWord a.descriptor j)) (is q2 e)
              (there j (subst (λ (a : RunState). j < length a.opened) (sym (is q2 e)) low) low' ∙ sym (same.thunk q.descriptor j));
          run_begins = λ q2 e few'. ap (λ (a : RunState). a.at) (sym (is q2 e)) ∙ starts;
          run_made = λ q2 u e made. t.run_made q u at (ap (λ (a : RunState). a.made) (is q2 e) ∙ made);
          retire = t.retire ∙ (ap (retiring_of m) at ∙ (begins_unretired m q starts ∙ sym (begins_unretired m opened starts)));
          published = t.published;
          run_sure = λ q2 e. ap (λ (a : RunState). is_sure_of p.guards a.descriptor) (sym (is q2 e)) ∙ t.run_sure q at;
          published_sure = t.published_sure;
          numbered = t.numbered;
          sure = t.sure;
          sure_alone = t.sure_alone;
          reached = t.reached;
          stored_free = t.stored_free;
          stored = λ d j n free last. descriptor_same f s.word same d j ∙ t.stored d j n free last;
        })
      where
        is : (q2 : RunState) → Some opened ≡ Some q2 → opened ≡ q2
        is q2 e = some_same opened q2 e

  -- the state after such a step on this word
  abbrev pub Opens : RecordsState → Spot × Access → Type 0
  Opens records x = StaysAt m l w (next m l w s old r (put s.word x.0 (written x.1 (s.word x.0))) (record (opened_more p q (s.word x.0)) { records = records }))

  pub load_thunk : (records : RecordsState) (x : Spot × Access) → open_more_ask q ≡ Some x → Opens records x
  load_thunk records x e = let h = asked.open_more_asked q x e in
      subst (Opens records) h.1 (opens (s.word (ThunkWord q.descriptor (length q.opened))) (let few = h.0 in omega arith) (λ low. refl) _ (but_load s.word (ThunkWord q.descriptor (length q.opened))) records)

  pub load_done : (records : RecordsState) (x : Spot × Access) → load_done_ask q ≡ Some x → Opens records x
  load_done records x e = let h = asked.load_done_asked q x e in
      subst (Opens records) h.1 (opens (s.word (DoneWord q.descriptor)) (let few = h.0 in omega arith) (λ low. absurd (let few = h.0 in omega arith)) _ (but_load s.word (DoneWord q.descriptor)) records)

module _ (m : Meaning) (l : Layout) (w : EpochState) (s : Sight) (old : IsJoinedToEpochs m l w s) (r : ℕ) (q : RunState) (at : (s.part r).run ≡ Some q) (is_open : is_open_run q ≡ true)
    (records : RecordsState) (micro : Micro) (ahead : next_of m q ≡ micro) (x : Spot × Access) where
  abbrev now : PartState
  now = s.part r

  held : w.holds r (slot_of (counts_of m l) q.descriptor) ≡ true
  held = (old.tied r).run_held q at

  -- one more step of the end was made, and these cells were read
  abbrev ended : ReadsState → PartState
  ended reads = record now { run = Some (ended_more q); reads = reads; records = records }

  module _ (μ : Micro) (here : next_of m q ≡ μ) (ends : is_of_end μ ≡ true) where
    unretired : w.retire r ≡ no_retire
    unretired = (old.tied r).retire ∙ (ap (retiring_of m) at ∙ ends_unretired m q μ here ends q)

    -- the run goes on with its end
    goes_on : (f : Spot → ℕ) → ((d j : ℕ) → f (ThunkWord d j) ≡ s.word (ThunkWord d j)) → ((i d j : ℕ) → has (s.part i).descriptors.free d ≡ true → f (descriptor_spot d j) ≡ s.word (descriptor_spot d j))
        → f Epoch ≡ s.word Epoch → ((i : ℕ) → f (Announcement i) ≡ s.word (Announcement i)) → ((i : ℕ) → f (Board i) ≡ s.word (Board i))
        → (reads : ReadsState) → reads.walk ≡ now.reads.walk → StaysAt m l w (next m l w s old r f (ended reads))
    goes_on f thunk stored epoch announced board reads walk = (
      [],
      refl,
      run_goes m l w s old r q at is_open [] refl tt f (ended_more q) (ended reads)
          (record {
            holds = λ t h. h;
            alone = λ d h. h;
            entered = λ h. h;
            live = λ d h. h;
            thunk = thunk;
            stored = λ d j h. stored r d j h;
            on_run = record { descriptor = refl; opened = refl };
            made = λ t e. (old.tied r).run_made q t at e;
            moved = record { stage = refl; published = refl; descriptors = refl; guards = refl; walk = walk };
            here = refl;
            retire = unretired ∙ sym (ends_unretired m q μ here ends (ended_more q));
          })
          (record {
            epoch = refl;
            announced = λ i. refl;
            stage = λ i. refl;
            role = λ d k. refl;
            out = λ d h. h;
            seen_epoch = epoch;
            seen_announced = announced;
            seen_board = board;
          })
          (λ i ne. record {
            holds = λ t h. h;
            alone = λ d h. h;
            words = λ d j h. thunk d j;
            hand = λ t h. h;
            retire = refl;
            live = λ y e h. h;
            entered = λ h. h;
            stored = λ d j h. stored i d j h;
          })
          (sym (map_same lists_of s.part r (ended reads) refl)),
    )

    -- the run is over
    module _ (place v : ℕ) (reads : ReadsState) (walk : reads.walk ≡ now.reads.walk) where
      abbrev words : Spot → ℕ
      words = put s.word (Cell place) v

      same : IsSameBut words s.word
      same = but_cell s.word place v

      -- the part then, where these are its descriptors and this is what it has published
      abbrev over : DescriptorsState → Option Published → PartState
      over descriptors published = record now { run = None; published = published; descriptors = descriptors; reads = reads; records = records }

      -- what was tied to the run is over, and nothing else
      over_tied : (w' : EpochState) (descriptors : DescriptorsState) (published : Option Published)
          → (λ (v : EpochState). v.holds) w' ≡ w.holds → ((i : ℕ) → w'.stage i ≡ w.stage i) → w'.retire r ≡ no_retire
          → descriptors.free ≡ now.descriptors.free → descriptors.stored ≡ now.descriptors.stored
          → ((y : Published) → published ≡ Some y → (now.published ≡ Some y) × (w'.location (slot_of (counts_of m l) y.descriptor) ≡ Live))
          → IsTied m l w' words r (over descriptors published)
      over_tied w' descriptors published holds stage retire free stored kept = record {
        run_held = λ q2 e. absurd (none-some _ e);
        run_opened = λ q2 j e low low'. absurd (none-some _ e);
        run_begins = λ q2 e few. absurd (none-some _ e);
        run_made = λ q2 t e made. absurd (none-some _ e);
        retire = retire;
        published = λ y e. (kept y e).1;
        run_sure = λ q2 e. absurd (none-some _ e);
        published_sure = λ y e. (old.tied r).published_sure y (kept y e).0;
        numbered = (old.tied r).numbered;
        sure = λ d is. ap (λ (h : ℕ → ℕ → Bool). h r (slot_of (counts_of m l) d)) holds ∙ (old.tied r).sure d is;
        sure_alone = λ d h. (old.tied r).sure_alone d (ap (λ (g : ℕ → ℕ → Bool). g r (slot_of (counts_of m l) d)) (sym holds) ∙ h);
        reached = λ t isin node is_there. ap (λ (h : ℕ → ℕ → Bool). h r t) holds
            ∙ (old.tied r).reached t (ap is_entered (sym (stage r)) ∙ isin) node (ap (λ (xs : List (ℕ × ℕ)). m.reaches xs t) (sym walk) ∙ is_there);
        stored_free = λ d j n last. ap (λ (xs : List ℕ). has xs d) free ∙ (old.tied r).stored_free d j n (ap (λ (xs : List Stored). last_stored xs d j None) (sym stored) ∙ last);
        stored = λ d j n is_free last. descriptor_same words s.word same d j
            ∙ (old.tied r).stored d j n (ap (λ (xs : List ℕ). has xs d) (sym free) ∙ is_free) (ap (λ (xs : List Stored). last_stored xs d j None) (sym stored) ∙ last);
      }

      -- the own published section, if any, is another one
      stays_over : (o : Option Published) → now.published ≡ o → StaysAt m l w (next m l w s old r words (over now.descriptors o))
      stays_over o is =
          stays m l w s old r words (over now.descriptors o) same refl refl (as_published m l w s old r (over now.descriptors o) (sym is))
          (over_tied w now.descriptors o refl (λ i. refl) unretired refl refl (λ y e. (is ∙ e, (old.tied r).published y (is ∙ e))))

      -- it is this one, and its descriptor goes into limbo
      module _ (y : Published) (is_published : now.published ≡ Some y) (own : y.descriptor ≡ q.descriptor) where
        abbrev place_then : Location
        place_then = Limbo r w.epoch

        abbrev slot : ℕ
        slot = slot_of (counts_of m l) q.descriptor

        at_live : w.location slot ≡ Live
        at_live = ap (λ d. w.location (slot_of (counts_of m l) d)) (sym own) ∙ (old.tied r).published y is_published

        -- no other runner has published it
        others_live : (i : ℕ) → i ≢ r → (z : Published) → (s.part i).published ≡ Some z → w.location (slot_of (counts_of m l) z.descriptor) ≡ Live
            → upd w.location slot place_then (slot_of (counts_of m l) z.descriptor) ≡ Live
        others_live i ne z e live = other_place w.location slot (slot_of (counts_of m l) z.descriptor) place_then
            (slot_apart (counts_of m l).nodes q.descriptor z.descriptor (λ alike. ne (old.published_once i r z y e is_published (alike ∙ sym own)))) ∙ live

        out_before : (t : ℕ) → is_out (upd w.location slot place_then t) ≡ true → is_out (w.location t) ≡ true
        out_before t out = ⊎_elim
            (λ alike. ap is_out (ap w.location alike ∙ at_live))
            (λ other. ap is_out (sym (other_place w.location slot t place_then other)) ∙ out)
            (cases_eq t slot)

        abbrev gone : PartState
        gone = over (descriptor_retired now.descriptors q.descriptor) None

        retires : Goes m l (events.RetireDescriptor r q.descriptor ∷ []) w (next m l w s old r words gone)
        retires =
            goes_with m l w s old r (events.RetireDescriptor r q.descriptor ∷ []) ((old.sound.holder r _ held, at_live), tt) words gone
            (sym (map_upd lists_of s.part r gone))
            (record { epoch = old.entries.epoch; announced = old.entries.announced; stage = stages_stay m l w s old r words gone refl })
            (board_kept m l w s old r (events.RetireDescriptor r q.descriptor ∷ []) refl ((old.sound.holder r _ held, at_live), tt) words gone (λ i. refl))
            (λ d k out. old.roles d k (out_before (slot_of (counts_of m l) d) out))
            (once m l w s old r gone (λ z e. absurd (none-some _ e)))
            (over_tied (after (counts_of m l) w (events.RetireDescriptor r q.descriptor)) (descriptor_retired now.descriptors q.descriptor) None
            refl (λ i. refl) unretired refl refl (λ z e. absurd (none-some _ e)))
            (λ i ne. record {
              holds = λ t h. h;
              alone = λ d h. h;
              words = λ d j h. refl;
              hand = λ t h. kept_place w.location slot t place_then Live (Hand i) at_live (live_hand i) h;
              retire = refl;
              live = λ z e h. others_live i ne z e h;
              entered = λ h. h;
              stored = λ d j h. descriptor_same words s.word same d j;
            })

      -- either way
      pub is_over : GoesBy m l (λ es. es ≡ retires_own r now.published q.descriptor) w
          (next m l w s old r words (over (retired_if now.descriptors now.published q.descriptor) (kept_unless now.published q.descriptor)))
      is_over = by_published now.published refl
        where
          by_test : (y : Published) → now.published ≡ Some y → (b : Bool) → (y.descriptor == q.descriptor) ≡ b
              → GoesBy m l (λ es. es ≡ cond b (events.RetireDescriptor r q.descriptor ∷ []) []) w
              (next m l w s old r words (over (cond b (descriptor_retired now.descriptors q.descriptor) now.descriptors) (cond b None (Some y))))
          by_test y is true e = (_, refl, retires y is (same_slot _ _ e))
          by_test y is false e = stays_over (Some y) is

          by_published : (o : Option Published) → now.published ≡ o
              → GoesBy m l (λ es. es ≡ retires_own r o q.descriptor) w (next m l w s old r words (over (retired_if now.descriptors o q.descriptor) (kept_unless o q.descriptor)))
          by_published None is = stays_over None is
          by_published (Some y) is = by_test y is (y.descriptor == q.descriptor) refl

  pub set_done : (rs : List Request) → Fits (sizes_for m l rs) x.0 → set_done_ask q micro ≡ Some x → Leads m l w s old r q at is_open kinds.SetDone records micro x
  set_done rs fits e =
      let h = asked.set_done_asked q x micro e in
      let few : q.descriptor < (counts_of m l).descriptors = subst (λ (y : Spot × Access). Fits (sizes_for m l rs) y.0) (sym h.1) fits in
      for_step m l w s old r q at is_open kinds.SetDone records micro x micros.SetDone (DoneWord q.descriptor, Exchanges 0 1) h.0 h.1
      (goes_on micros.SetDone (ahead ∙ h.0) refl (put s.word (DoneWord q.descriptor) (exchanged (s.word (DoneWord q.descriptor)) 0 1)) (λ d j. refl)
      (λ i d j free. done_elsewhere s.word q.descriptor _ d j (apart m l w s old r i q.descriptor d held few free))
      refl (λ i. refl) (λ i. refl) now.reads refl)

  -- after a release the run is over, or goes on with the next one
  release_by : (b : Bool) (place word v : ℕ) → next_of m q ≡ micros.Release place word → (reads : ReadsState) → reads.walk ≡ now.reads.walk → (finished : RecordsState)
      → GoesBy m l (λ es. es ≡ cond b (retires_own r now.published q.descriptor) []) w (next m l w s old r (put s.word (Cell place) v) (record (cond b
      (record now { run = None; published = kept_unless now.published q.descriptor; descriptors = retired_if now.descriptors now.published q.descriptor; reads = reads; records = finished })
      (record now { run = Some (ended_more q); reads = reads })) { records = records }))
  release_by true place word v here reads walk finished = is_over (micros.Release place word) here refl place v reads walk
  release_by false place word v here reads walk finished =
      goes_on (micros.Release place word) here refl (put s.word (Cell place) v) (λ d j. refl) (λ i d j free. descriptor_same (put s.word (Cell place) v) s.word (but_cell s.word place v) d j)
      refl (λ i. refl) (λ i. refl) reads walk

  pub release : release_ask l q micro ≡ Some x → Leads m l w s old r q at is_open kinds.Release records micro x
  release e =
      let h = asked.release_asked q x l micro e in
      for_step m l w s old r q at is_open kinds.Release records micro x (micros.Release h.place h.step.0) (Cell h.place, h.access) h.step.1 h.is
      (release_by (is_end (next_of m (ended_more q))) h.place h.step.0 (written h.access (s.word (Cell h.place))) (ahead ∙ h.step.1) (cell_read now.reads h.place (s.word (Cell h.place))) refl _)
