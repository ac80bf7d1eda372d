-- A runner that tries to publish a section keeps the whole invariant.
use Rattle.std.specs.Prelude.{replicate, slice_get, ◌==◌, Bool, true, false, All, if◌then◌else◌}
use Rattle.std.proofs.Common.{◌≡◌, ◌≢◌, ℕ, ◌<◌, ◌≤◌, List, [], ◌∷◌, ◌++◌, length, sym, refl, ap, ◌∙◌, subst, arith, ⊎_elim}
use Rattle.std.proofs.Common.{Some, None}
use Rattle.std.proofs.lemmas.Bool.{cases_eq}
use Rattle.std.proofs.lemmas.Bool.Decides.{nat_tests}
use Rattle.machine_states.specs.map_history.specs.declared.op.Op.{Op}
use Rattle.machine_states.specs.map_history.specs.declared.op.Request.{Request}
use Rattle.machine_states.specs.body_terms.specs.declared.thunk.Thunk.{Thunk}
use Rattle.machine_states.specs.body_terms.specs.Line.{line, micro_at, committed}
use Rattle.machine_states.specs.table_words.specs.declared.layout.Layout.{Layout}
use Rattle.machine_states.specs.table_words.specs.declared.spot.Spot.{Spot}
use Rattle.machine_states.specs.table_words.specs.declared.access.Access.{Access}
use Rattle.machine_states.specs.table_words.specs.Limits.{IsWithinLimits}
use Rattle.machine_states.specs.structure_laws.specs.Scene.{Readings}
use Rattle.machine_states.specs.structure_laws.specs.Meaning.{Meaning}
use Rattle.machine_states.specs.structure_laws.specs.Laws.{Laws}
use Rattle.machine_states.specs.structure_laws.specs.Sections.{IsAllowed}
use Rattle.machine_states.specs.structure_laws.proofs.Changes.{upd_same, upd_other}
use Rattle.machine_states.specs.runner_parts.specs.declared.entries.Published.{Published}
use Rattle.machine_states.specs.runner_parts.specs.declared.event.EventKind.{EventKind}
use Rattle.machine_states.specs.runner_parts.specs.declared.event.EventKind.TheVariants as kinds
use Rattle.machine_states.specs.runner_parts.specs.State.{PartState}
use Rattle.machine_states.specs.runner_parts.specs.Tests.{thunk_words}
use Rattle.machine_states.specs.runner_parts.specs.Lists.{descriptor_taken, published_seen, cell_read}
use Rattle.machine_states.specs.runner_steps.specs.Outside.{hold_ask}
use Rattle.machine_states.specs.runner_steps.specs.Asks.{asks}
use Rattle.machine_states.specs.runner_steps.specs.After.{after_by, after}
use Rattle.machine_states.specs.runner_steps.specs.AfterOutside.{hold_after, published_by}
use Rattle.agreement_core.specs.State.{AgreementState}
use Rattle.agreement_core.specs.Events as agreement
use Rattle.agreement_core.specs.Schedules as agreement_schedules
use Rattle.machine_states.specs.epoch_core.specs.declared.location.Location.TheVariants.{Live}
use Rattle.machine_states.specs.epoch_core.specs.State.{Counts, EpochState, Role, is_entered}
use Rattle.machine_states.specs.epoch_core.specs.Update.{upd}
use Rattle.machine_states.specs.epoch_core.specs.Events as epochs
use Rattle.machine_states.specs.epoch_core.specs.Events.{Event, slot_of}
use Rattle.machine_states.specs.epoch_core.specs.History.{is_out}
use Rattle.machine_states.specs.Sight.{Sight, sight_after}
use Rattle.machine_states.proofs.Sights.{some_none}
use Rattle.machine_states.proofs.Updates.{upd_split}
use Rattle.machine_blocks.specs.machine_guards.specs.machine_agreement.specs.machine_epochs.specs.Entries.{counts_of}
use Rattle.machine_blocks.specs.machine_guards.specs.machine_agreement.specs.machine_epochs.specs.Slots.{thunk_in}
use Rattle.machine_blocks.specs.machine_guards.specs.machine_agreement.specs.machine_epochs.specs.Chunks.{roles_of}
use Rattle.machine_blocks.specs.machine_guards.specs.machine_agreement.specs.machine_epochs.proofs.OutsideAsked as outside
use Rattle.machine_blocks.specs.machine_guards.specs.machine_agreement.specs.machine_scenes.specs.Shown.{States, Publications, publishes, rules_of}
use Rattle.machine_blocks.specs.machine_guards.specs.machine_agreement.specs.machine_scenes.specs.Steps as steps
use Rattle.machine_blocks.specs.machine_guards.specs.machine_agreement.specs.Chunks.{publication}
use Rattle.machine_invariant.specs.Whole.{Beside, states_of, made_in, made_of, HasPublished, AreTied, IsWhole}
use Rattle.machine_invariant.proofs.Asked.{entered_at}
use Rattle.machine_invariant.proofs.Parts.{IsSamePart, outside_made}
use Rattle.machine_invariant.proofs.Runs.{is_calm, step_anew, agreement_stands, epochs_stand, passes_are}
use Rattle.machine_invariant.proofs.Quiet.{is_still, all_still, hands_of, quiet_whole, stands_now}
use Rattle.machine_invariant.proofs.Thunks.{outside_leaves}
use Rattle.machine_invariant.proofs.Sights.{thunks_after, quiet_after}
use Rattle.machine_invariant.proofs.SuppliesSections as supplies
use Rattle.machine_invariant.proofs.Jointly.{HoldsNothing, behind_lock, IsWholeAfter}
use Rattle.machine_invariant.proofs.Pieces.{Pieces, KeepsWhole, Leads, led, keeps_by, keeps_publishing}
use Rattle.machine_invariant.proofs.Outside.{outside_asked, outside_heads, outside_events, made_outside, place_here, place_else, parts_whole}

-- a runner's part after a publication
abbrev published_part : Thunk → ℕ → PartState → ℕ → PartState
published_part t d p found = record p {
  published = Some (published_by t d p);
  descriptors = descriptor_taken p.descriptors d;
  guards = published_seen p.guards d;
  reads = cell_read p.reads t.lock found;
}

-- where the lock stood free with the thunk's word, the section is published
hold_won : (t : Thunk) (d : ℕ) (p : PartState) (found : ℕ) → found ≡ t.word → hold_after t d p found ≡ published_part t d p found
hold_won t d p found e = by (found == t.word) (equal found t.word e) _
  where
    equal : (a b : ℕ) → a ≡ b → (a == b) ≡ true
    equal a b e = grind (arith, nat_tests)

    by : (b : Bool) → b ≡ true → (y : PartState) → (if b then published_part t d p found else y) ≡ published_part t d p found
    by true e y = refl
    by false e y = absurd (let z = e in cc)

-- otherwise nothing is
hold_lost : (m : Meaning) (l : Layout) (t : Thunk) (d : ℕ) (p : PartState) (found : ℕ) → found ≢ t.word
    → IsSamePart m l p (hold_after t d p found)
hold_lost m l t d p found ne = by (found == t.word) (other found t.word ne) _ (record { walk = refl; published = λ n u h. h })
  where
    other : (a b : ℕ) → a ≢ b → (a == b) ≡ false
    other a b ne = grind (arith, nat_tests)

    by : (b : Bool) → b ≡ false → (y : PartState) → IsSamePart m l p y → IsSamePart m l p (if b then published_part t d p found else y)
    by true e y same = absurd (let z = e in cc)
    by false e y same = same

-- a section is published at a free descriptor
module _ (m : Meaning) (l : Layout) (g : Beside) (s : Sight) (old : AreTied m l g s) (r d : ℕ) (roles : ℕ → Role)
    (p' : PartState) (few : d < (counts_of m l).descriptors) where
  abbrev c : Counts
  c = counts_of m l

  abbrev after_publish : EpochState
  after_publish = epochs.after c g.epochs (epochs.Publish r d roles)

  module _ (op : Op) (t : Thunk) (walk : Readings) (word' : Spot → ℕ) (a' : AgreementState)
      (used' : (n : ℕ) → a'.used n ≡ upd g.agreement.used d true n) (live' : (n : ℕ) → a'.live n ≡ upd g.agreement.live d true n)
      (unpublished : (s.part r).published ≡ None) (own : Published) (own_is : p'.published ≡ Some own) (own_d : own.descriptor ≡ d) (own_t : own.thunk ≡ t)
      (thunks : (n : ℕ) → thunk_in word' n ≡ thunk_in s.word n) (thunk_d : thunk_in s.word d ≡ t)
      (asked : Request) (of_request : slice_get g.publications.requests t.request ≡ Some asked) (of_op : asked.op ≡ op) where
    op_after : (n : ℕ) → a'.used n ≡ true → (q : Request) × (slice_get g.publications.requests (upd g.publications.thunk d t n).request ≡ Some q) × (q.op ≡ upd g.publications.op d op n)
    op_after n is = ⊎_elim
        (λ same. (
          asked,
          ap (λ (u : Thunk). slice_get g.publications.requests u.request) (upd_same g.publications.thunk d n t same) ∙ of_request,
          of_op ∙ sym (upd_same g.publications.op d n op same),
        ))
        (λ ne. let h = old.op n (sym (used' n ∙ upd_other g.agreement.used d n true ne) ∙ is) in (
          h.0,
          ap (λ (u : Thunk). slice_get g.publications.requests u.request) (upd_other g.publications.thunk d n t ne) ∙ h.1,
          h.2 ∙ sym (upd_other g.publications.op d n op ne),
        ))
        (cases_eq n d)

    publisher_after : (n : ℕ) → a'.live n ≡ true → HasPublished m l (upd s.part r p' (upd g.publications.runner d r n)) n (upd g.publications.thunk d t n)
    publisher_after n is = ⊎_elim
        (λ same. (
          own,
          ap (λ (y : PartState). y.published) (ap (upd s.part r p') (upd_same g.publications.runner d n r same)
              ∙ upd_same s.part r r p' refl) ∙ own_is,
          own_d ∙ sym same,
          own_t ∙ sym (upd_same g.publications.thunk d n t same),
        ))
        (λ ne. let h = old.publisher n (sym (live' n ∙ upd_other g.agreement.live d n true ne) ∙ is) in
        let apart : g.publications.runner n ≢ r = λ same. some_none h.0
        (sym unpublished ∙ (ap (λ i. (s.part i).published) (sym same) ∙ h.1)) in (
          h.0,
          ap (λ (y : PartState). y.published) (ap (upd s.part r p') (upd_other g.publications.runner d n r ne)
              ∙ upd_other s.part r _ p' apart) ∙ h.1,
          h.2,
          h.3 ∙ sym (upd_other g.publications.thunk d n t ne),
        ))
        (cases_eq n d)

    tied_published : AreTied m l (record { agreement = a'; epochs = after_publish; publications = publishes g.publications d r op t walk })
        (record { word = word'; part = upd s.part r p' })
    tied_published = record {
      used = λ n. used' n ∙ ⊎_elim
          (λ same. upd_same g.agreement.used d n true same ∙ sym (ap is_out (place_here c g.epochs.location d n Live same)))
          (λ ne. upd_other g.agreement.used d n true ne ∙ (old.used n ∙ sym (ap is_out (place_else c g.epochs.location d n Live ne))))
          (cases_eq n d);
      live = λ n is. ⊎_elim
          (λ same. place_here c g.epochs.location d n Live same)
          (λ ne. place_else c g.epochs.location d n Live ne ∙ old.live n (sym (live' n ∙ upd_other g.agreement.live d n true ne) ∙ is))
          (cases_eq n d);
      is_live = λ n is. live' n ∙ ⊎_elim
          (λ same. upd_same g.agreement.live d n true same)
          (λ ne. upd_other g.agreement.live d n true ne ∙ old.is_live n (sym (place_else c g.epochs.location d n Live ne) ∙ is))
          (cases_eq n d);
      within = λ n is. ⊎_elim
          (λ same. subst (λ k. k < c.descriptors) (sym same) few)
          (λ ne. old.within n (sym (used' n ∙ upd_other g.agreement.used d n true ne) ∙ is))
          (cases_eq n d);
      publisher = publisher_after;
      thunk = λ n is. ⊎_elim
          (λ same. upd_same g.publications.thunk d n t same ∙ sym (thunks n ∙ (ap (thunk_in s.word) same ∙ thunk_d)))
          (λ ne. upd_other g.publications.thunk d n t ne
          ∙ (old.thunk n (sym (used' n ∙ upd_other g.agreement.used d n true ne) ∙ is) ∙ sym (thunks n)))
          (cases_eq n d);
      op = op_after;
    }

module _ (m : Meaning) (laws : Laws m) (l : Layout) (limits : IsWithinLimits l) (rs : List Request) (few : length rs ≤ 131072)
    (allowed : All (λ (q : Request). IsAllowed q.op) rs) (g : Beside) (s : Sight) (whole : IsWhole m l g s) (of : g.publications.requests ≡ rs) (r : ℕ)
    (x : Spot × Access) where
  abbrev p : PartState
  p = s.part r

  module _ (t : Thunk) (d : ℕ) (asked : asks m l rs r (kinds.Hold t d) p ≡ Some x) (none : p.run ≡ None) where
    abbrev kind : EventKind
    kind = kinds.Hold t d

    abbrev hold_sight : Sight
    hold_sight = sight_after m l s r kind x

    abbrev publish : List Event
    publish = epochs.Publish r d (roles_of m (thunk_words t)) ∷ []

    asks_hold : hold_ask m l rs r t d p ≡ Some x
    asks_hold = outside_asked m l rs g s hold_sight r kind x none asked

    thunks : (n : ℕ) → thunk_in hold_sight.word n ≡ thunk_in s.word n
    thunks = thunks_after m l s r kind x (outside_leaves m l rs r p x kind refl asks_hold)

    -- the lock didn't stand free with the thunk's word
    lost : s.word x.0 ≢ t.word → (go : Leads m l g hold_sight r (agreement.Read t.lock ∷ []) [])
        → IsWholeAfter m l (states_of g s) (led m l g r (agreement.Read t.lock ∷ []) go.passes [] g.publications) hold_sight
    lost ne go =
        let passes = replicate go.passes (agreement.Pass r) in
        let quiet = quiet_after m l s r kind x refl
        (subst (λ o. IsSamePart m l p (after_by m l kind p o (s.word x.0))) (sym none) (hold_lost m l t d p (s.word x.0) ne))
        (λ q' e. (outside_made m l p none (s.word x.0) kind).nothing q'
        (ap (λ o. (after_by m l kind p o (s.word x.0)).run) (sym none) ∙ e) ∙ ap made_in (sym none)) in
        quiet_whole m laws l limits g s hold_sight whole quiet (λ n used. thunks n) (agreement.Read t.lock ∷ passes)
        (refl, passes_are is_still (agreement.Pass r) refl go.passes) go.enabled go.joined
        [] tt tt go.enabled_slots go.joined_slots go.logs

    -- it did
    module _ (same : s.word x.0 ≡ t.word) where
      abbrev asked_hold : outside.HoldAsked m l rs t d p x
      asked_hold = outside.hold_asked m l rs r t d p x asks_hold

      abbrev op : Op
      op = asked_hold.request.op

      abbrev won_part : PartState
      won_part = after m l r kind x.0 x.1 p (s.word x.0)

      won_is : after_by m l kind p p.run (s.word x.0) ≡ published_part t d p (s.word x.0)
      won_is = ap (λ o. after_by m l kind p o (s.word x.0)) none ∙ hold_won t d p (s.word x.0) same

      abbrev heads : List agreement.Event
      heads = agreement.Read t.lock ∷ publication m d t ∷ []

      -- the joint step
      abbrev step : steps.Step
      step = steps.Publish r d t.lock t.word t.request (micro_at (line (m.body t))) (committed (line (m.body t))) op t

      abbrev published_at : Publications
      published_at = publishes g.publications d r op t p.reads.walk

      thunk_d : thunk_in s.word d ≡ t
      thunk_d = (supplies.publishes m laws l limits rs few allowed g s whole r kind x asked t d refl none).words

      entered : is_entered (g.epochs.stage r) ≡ true
      entered = entered_at m l g.epochs s whole.slots r asked_hold.entry asked_hold.entered

      -- the publication's states
      abbrev behind : States
      behind = steps.after m l (counts_of m l) (behind_lock m l (states_of g s) t.lock) step

      won : (go : Leads m l g hold_sight r heads publish) → IsWholeAfter m l behind (led m l g r heads go.passes publish published_at) hold_sight
      won go =
          let passes = replicate go.passes (agreement.Pass r) in
          let hands = hands_of m laws l limits g.epochs s whole.slots in
          let read = agreement.after g.agreement (agreement.Read t.lock) in
          let one = agreement_stands m laws l limits (agreement.Read t.lock ∷ []) (states_of g s) (made_of s) (refl, tt)
          (go.enabled.0, tt) hands
          (stands_now m laws l limits g s whole) in
          let may : steps.Enabled m l (counts_of m l) (record (states_of g s) { agreement = read }) step = record {
            enabled = go.enabled.1.0;
            entered = entered;
            allowed = supplies.request_allowed m laws l limits rs few allowed g s whole r kind x asked
                t.request asked_hold.request asked_hold.of_request;
            fits = asked_hold.serves;
            of_thunk = record { lock = refl; word = refl; request = refl; code = λ i. refl; slot = λ i. refl };
          } in
          let two = step_anew m laws l limits (record (states_of g s) { agreement = read }) (made_of s) (made_of s) step may tt hands
          (λ i. refl) one in
          let three = agreement_stands m laws l limits passes
          (steps.after m l (counts_of m l) (record (states_of g s) { agreement = read }) step) (made_of s)
          (passes_are is_calm (agreement.Pass r) refl go.passes) go.enabled.1.1 hands two in
          let four = epochs_stand m laws l limits publish _ (made_of s) (refl, tt) go.enabled_slots three in
          let uses = all_still (rules_of m l) (agreement.after read (publication m d t)) passes
          (passes_are is_still (agreement.Pass r) refl go.passes) in
          let tied = tied_published m l g s whole.tied r d (roles_of m (thunk_words t)) won_part asked_hold.few
          op t p.reads.walk hold_sight.word (agreement_schedules.after_all (rules_of m l) g.agreement (heads ++ passes))
          (λ n. ap (λ (f : ℕ → Bool). f n) uses.used) (λ n. ap (λ (f : ℕ → Bool). f n) uses.live)
          asked_hold.unpublished _ (ap (λ (y : PartState). y.published) won_is) refl refl thunks thunk_d
          asked_hold.request (ap (λ (qs : List Request). slice_get qs t.request) of ∙ asked_hold.of_request) refl in
          parts_whole m laws l limits (led m l g r heads go.passes publish published_at) s hold_sight go.joined go.joined_slots tied
          (λ i. (s.part i).reads.walk)
          (upd_split s.part r won_part (λ i y. y.reads.walk ≡ (s.part i).reads.walk) (ap (λ (y : PartState). y.reads.walk) won_is)
          (λ i ne. refl))
          (made_outside m l s r kind x refl none) four go.logs

    -- the lock stands with another word than the try's
    still_other : s.word x.0 ≢ t.word → HoldsNothing m l kind (s.word x.0)
    still_other ne t' d' same is = ne (is ∙ ap (λ (u : Thunk). u.word) (sym (same_thunk t t' d d' same)))
      where
        same_thunk : (t t' : Thunk) (d d' : ℕ) → kinds.Hold t d ≡ kinds.Hold t' d' → t ≡ t'
        same_thunk t t' d d' e = cc

    -- in any case
    pub hold_whole : (pieces : Pieces m l g s hold_sight r kind x) → KeepsWhole m l g s hold_sight r kind x pieces
    hold_whole pieces = ⊎_elim
        (λ in_heads. ⊎_elim
        (λ in_events. let holds = outside.hold_asked m l rs r t d p x asks_hold in
        keeps_publishing m l g s hold_sight r kind x pieces
        (agreement.Read t.lock ∷ publication m d t ∷ []) publish in_heads.1 in_events.1 (publishes g.publications d r holds.request.op t p.reads.walk)
        refl (λ go. let there = won in_heads.0 go in (
          there.whole,
          record {
            thunk = t;
            descriptor = d;
            kind_is = refl;
            found_is = in_heads.0;
            request = holds.request;
            asked = ap (λ (qs : List Request). slice_get qs t.request) of ∙ holds.of_request;
            publishes = go.enabled.1.0;
            passed = there.passed;
          },
        )))
        (λ in_events. absurd (in_events.0 in_heads.0))
        (outside_events m l rs g s hold_sight r kind x none pieces))
        (λ in_heads. ⊎_elim
        (λ in_events. absurd (in_heads.0 in_events.0))
        (λ in_events. keeps_by m l g s hold_sight r kind x pieces (agreement.Read t.lock ∷ []) [] in_heads.1 in_events.1 g.publications refl
        (still_other in_heads.0) refl (lost in_heads.0))
        (outside_events m l rs g s hold_sight r kind x none pieces))
        (outside_heads m l rs g s hold_sight r kind x none pieces)
