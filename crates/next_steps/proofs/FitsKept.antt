-- Each step keeps it that the numbers which thunks of published sections give are the table's.
use Rattle.std.specs.Prelude.{◌==◌, ◌-◌, ◌%◌, ◌^◌, false}
use Rattle.std.proofs.Common.{◌≡◌, ◌≢◌, ℕ, ◌<◌, List, length, ⊎_elim, sym, refl, ap, ◌∙◌, subst, arith, Option, Some, None}
use Rattle.std.proofs.lemmas.Bool.Decides.{nat_tests}
use Rattle.std.proofs.lemmas.Bool.{cases_eq}
use Rattle.std.proofs.lemmas.Option.{slice_get_within}
use Rattle.std.proofs.lemmas.Grind.{common_steps}
use Rattle.machine_states.specs.map_history.specs.declared.op.Request.{Request}
use Rattle.machine_states.specs.body_terms.specs.declared.thunk.Thunk.{Thunk}
use Rattle.machine_states.specs.table_words.specs.declared.layout.Layout.{Layout}
use Rattle.machine_states.specs.table_words.specs.declared.spot.Spot.{Spot}
use Rattle.machine_states.specs.table_words.specs.declared.spot.Spot.TheVariants as spots
use Rattle.machine_states.specs.table_words.specs.declared.access.Access.{Access}
use Rattle.machine_states.specs.table_words.specs.Access.{written}
use Rattle.machine_states.specs.table_words.specs.Seen.{put}
use Rattle.machine_states.specs.table_words.specs.Places.{slot_count, descriptor_count}
use Rattle.machine_states.specs.table_words.specs.Limits.{IsWithinLimits}
use Rattle.machine_states.specs.structure_laws.specs.Meaning.{Meaning}
use Rattle.machine_states.specs.structure_laws.specs.Laws.{Laws}
use Rattle.machine_states.specs.runner_parts.specs.declared.event.EventKind.{EventKind}
use Rattle.machine_states.specs.runner_parts.specs.declared.event.EventKind.TheVariants as kinds
use Rattle.machine_states.specs.runner_parts.specs.State.{RunState, PartState}
use Rattle.machine_states.specs.runner_parts.specs.Tests.{has, thunk_words}
use Rattle.machine_states.specs.runner_steps.specs.Sections.{thunk_of}
use Rattle.machine_states.specs.runner_steps.specs.Asks.{ask_by}
use Rattle.machine_states.specs.runner_steps.specs.After.{after_by, after}
use Rattle.machine_states.specs.runner_steps.specs.AfterOutside as outside
use Rattle.machine_states.specs.World.{World}
use Rattle.machine_states.specs.First.{IsFirst}
use Rattle.machine_states.specs.Reached.{Reached}
use Rattle.machine_states.specs.Sight.{Sight, sight, sight_after}
use Rattle.machine_states.proofs.Sights.{unless_gone, joins}
use Rattle.machine_states.proofs.Updates.{upd_here}
use Rattle.machine_invariant.specs.machine_blocks.specs.machine_guards.specs.machine_agreement.specs.machine_epochs.specs.Slots.{thunk_in}
use Rattle.machine_invariant.specs.machine_blocks.specs.machine_guards.specs.machine_agreement.specs.machine_epochs.proofs.Joining.{thunk_same}
use Rattle.machine_invariant.specs.machine_blocks.specs.machine_guards.specs.machine_agreement.specs.machine_epochs.proofs.OutsideAsked.{HoldAsked, hold_asked, private_store_cases}
use Rattle.machine_invariant.specs.machine_blocks.specs.machine_guards.specs.machine_agreement.proofs.Words.{block_same}
use Rattle.machine_invariant.specs.machine_blocks.specs.machine_guards.specs.machine_agreement.specs.machine_epochs.proofs.SectionKinds.{prepared_thunk}
use Rattle.machine_invariant.specs.After.{AreAllowed}
use Rattle.machine_invariant.proofs.First.{first_beside, first_whole}
use Rattle.machine_invariant.specs.machine_blocks.specs.machine_guards.specs.machine_agreement.specs.machine_epochs.proofs.Prepared.{done_is}
use Rattle.machine_invariant.proofs.Sights.{thunks_after}
use Rattle.machine_invariant.proofs.Thunks.{inside_leaves, outside_leaves, other_thunk}
use Rattle.next_steps.specs.Rooms.{ThunkFits, ThunksFit}
use Rattle.machine_invariant.proofs.Keeping.{IsStep, reached_keeps}
use Rattle.next_steps.proofs.Parts.{each_part}
use Rattle.next_steps.proofs.Runs.{OutOfRun, out_of_run}
use Rattle.next_steps.proofs.Fits.{open_fits, used_here, LeavesFree, by_same, inside_free, publishes_at, outside_free}
use Rattle.machine_invariant.proofs.Basics.{not_both}
use Rattle.machine_states.specs.runner_steps.specs.Outside.{blocks_from}

module _ (m : Meaning) (laws : Laws m) (l : Layout) (limits : IsWithinLimits l) (rs : List Request) (s s' : Sight) (r : ℕ) where
  abbrev p : PartState
  p = s.part r

  module _ (kind : EventKind) (st : IsStep m l rs s s' r kind) where
    abbrev x : Spot × Access
    x = st.step.ask

    abbrev found : ℕ
    found = s.word x.0

    asked : ask_by m l rs r kind p p.run ≡ Some x
    asked = (unless_gone _ p.gone _ x st.step.asked).1

    -- a thunk stands in each descriptor that isn't in the runner's free list
    thunk_by : (kind' : EventKind) → kind' ≡ kind → (o : Option RunState) → ask_by m l rs r kind' p o ≡ Some x → (d : ℕ)
        → has p.descriptors.free d ≡ false
        → thunk_in (sight_after m l s r kind' x).word d ≡ thunk_in s.word d
    thunk_by (kinds.PrivateStore slot word number) same None e d unfree =
        thunk_same (put s.word x.0 (written x.1 (s.word x.0))) s.word d (λ j.
        let is = λ (y : Spot × Access). put s.word y.0 (written y.1 (s.word y.0)) (spots.ThunkWord d j) ≡ s.word (spots.ThunkWord d j) in
        ⊎_elim
        (λ own. let d1 = slot - slot_count l m.fixed_slots in
        let ne : d ≢ d1 = λ here. not_both (ap (has p.descriptors.free) here ∙ own.1) unfree in subst is own.2 (other_thunk s.word d1 word number d j ne))
        (λ block. subst is block.1 ((block_same s.word number (slot - blocks_from m l) word).thunks d j))
        (private_store_cases m l slot word number p x e))
    thunk_by kind' same None e d unfree = thunks_after m l s r kind' x (outside_leaves m l rs r p x kind' refl e) d
    thunk_by kind' same (Some q) e d unfree = thunks_after m l s r kind' x (inside_leaves m l q x kind' p.nodes.free p.blocks.free e) d

    thunk_stays : (d : ℕ) → has p.descriptors.free d ≡ false → thunk_in s'.word d ≡ thunk_in s.word d
    thunk_stays d unfree = subst (λ (y : Sight). thunk_in y.word d ≡ thunk_in s.word d) (sym st.step.next)
        (thunk_by kind refl p.run asked d unfree)

    -- a descriptor that is in nobody's free list was in nobody's, unless a section is published there
    own_free : (d : ℕ) → publishes_at m l d p found kind ≡ false → (o : Option RunState) → LeavesFree d p (after_by m l kind p o found)
    own_free d h None = outside_free m l d p found kind h
    own_free d h (Some q) = inside_free m l d p q found kind

    unfree_before : (d : ℕ) → publishes_at m l d p found kind ≡ false → ((i : ℕ) → has (s'.part i).descriptors.free d ≡ false)
        → (i : ℕ) → has (s.part i).descriptors.free d ≡ false
    unfree_before d h unfree i =
        (subst (λ (y : Sight). LeavesFree d (s.part i) (y.part i)) (sym st.step.next)
        (each_part m l s r x (λ k p'. LeavesFree d (s.part k) p') (λ k p' blocks board records gone h. record { back = h.back }) kind
        (joins m l rs kind r p x st.step.asked) (own_free d h p.run) (λ k ne. by_same m l d (s.part k) (s.part k) refl) i)).back (unfree i)

    other_fits : (d : ℕ) → publishes_at m l d p found kind ≡ false → d < descriptor_count l
        → ((i : ℕ) → has (s'.part i).descriptors.free d ≡ false) → ThunksFit m l rs s → ThunkFits m l rs (thunk_in s'.word d)
    other_fits d h few unfree old =
        let before = unfree_before d h unfree in
        subst (ThunkFits m l rs) (sym (thunk_stays d (before r))) (old d few before)

  -- a section is published at the descriptor
  module _ (t : Thunk) (d : ℕ) (st : IsStep m l rs s s' r (kinds.Hold t d)) (few : d < descriptor_count l)
      (unfree : (i : ℕ) → has (s'.part i).descriptors.free d ≡ false) where
    abbrev hold : EventKind
    hold = kinds.Hold t d

    out : OutOfRun m l rs r hold p st.step.ask
    out = out_of_run m l rs r hold p st.step.ask (λ q. refl) (λ q. refl) st.step.asked

    none : p.run ≡ None
    none = out.none

    holds : HoldAsked m l rs t d p st.step.ask
    holds = hold_asked m l rs r t d p st.step.ask out.asked

    -- it was free with its owner, so the exchange won
    free_after : (s'.part r).descriptors.free ≡ (outside.hold_after t d p (found hold st)).descriptors.free
    free_after = subst (λ (y : Sight). (y.part r).descriptors.free ≡ (outside.hold_after t d p (found hold st)).descriptors.free) (sym st.step.next)
        (ap (λ (y : PartState). y.descriptors.free) (upd_here s.part r (after m l r hold st.step.ask.0 st.step.ask.1 p (found hold st)))
        ∙ ap (λ (o : Option RunState). (after_by m l hold p o (found hold st)).descriptors.free) none)

    thunk_now : thunk_in s'.word d ≡ thunk_of (thunk_words t)
    thunk_now =
        let leaves = outside_leaves m l rs r p st.step.ask hold refl out.asked in
        subst (λ (y : Sight). thunk_in y.word d ≡ thunk_in s.word d) (sym st.step.next) (thunks_after m l s r hold st.step.ask leaves d)
        ∙ prepared_thunk m l st.beside.epochs s st.whole.slots r t d holds.free holds.prepared

    undone : (st.beside'.agreement.section d).done ≡ 0
    undone = (st.whole'.sections.sections d).done
        ∙ (ap (λ (y : Sight). y.word (spots.DoneWord d)) st.step.next
        ∙ (subst (λ (y : Spot × Access). put s.word y.0 (written y.1 (s.word y.0)) (spots.DoneWord d) ≡ s.word (spots.DoneWord d)) holds.is refl
        ∙ done_is m l st.beside.epochs s st.whole.slots r t d holds.free holds.prepared))

    low_request : (a n : ℕ) → a < n → a % 2 ^ 32 < n
    low_request a n low = grind (arith, common_steps)

    pub published_fits : ThunkFits m l rs (thunk_in s'.word d)
    published_fits =
        let used = used_here m laws l limits st.beside' s' st.whole' d few unfree in
        let fits = open_fits m laws l limits st.beside' s' st.whole' d used undone (thunk_in s'.word d) (st.whole'.tied.thunk d used) in
        record {
          request = subst (λ (y : Thunk). y.request < length rs) (sym thunk_now)
              (low_request t.request (length rs) (slice_get_within rs t.request holds.request holds.of_request));
          lock = fits.0;
          places = fits.1;
        }

  pub fits_kept : (kind : EventKind) → IsStep m l rs s s' r kind → ThunksFit m l rs s → ThunksFit m l rs s'
  fits_kept (kinds.Hold t d') st old d few unfree = ⊎_elim
      (λ same. subst (λ n. ThunkFits m l rs (thunk_in s'.word n)) (sym same)
      (published_fits t d' st (subst (λ n. n < descriptor_count l) same few) (λ i. ap (has (s'.part i).descriptors.free) (sym same) ∙ unfree i)))
      (λ ne. other_fits (kinds.Hold t d') st d (not_at d d' ne) few unfree old)
      (cases_eq d d')
    where
      not_at : (d d' : ℕ) → d ≢ d' → (d' == d) ≡ false
      not_at d d' ne = grind (arith, nat_tests)
  fits_kept kind st old d few unfree = other_fits kind st d refl few unfree old

pub first_fits : (m : Meaning) (laws : Laws m) (l : Layout) (limits : IsWithinLimits l) (rs : List Request) (w : World)
    → IsFirst m l rs w → ThunksFit m l rs (sight m l rs w)
first_fits m laws l limits rs w start d few unfree =
    not_both (used_here m laws l limits (first_beside m laws l limits rs w start) (sight m l rs w)
    (first_whole m laws l limits rs w start) d few unfree) refl

pub reached_fits : (m : Meaning) → Laws m → (l : Layout) → IsWithinLimits l → (rs : List Request) → AreAllowed rs → (w : World)
    → Reached m l rs w → ThunksFit m l rs (sight m l rs w)
reached_fits m laws l limits rs allowed w reached =
    reached_keeps m laws l limits rs allowed (ThunksFit m l rs) (first_fits m laws l limits rs)
    (λ s s' r kind st old. fits_kept m laws l limits rs s s' r kind st old) w reached
