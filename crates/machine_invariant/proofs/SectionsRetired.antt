-- A release, and with the last one the retirement of the own section, keep the whole invariant.
use Rattle.std.specs.Prelude.{replicate, ◌==◌, Bool, true, false, All, if◌then◌else◌}
use Rattle.std.proofs.Common.{◌≡◌, ◌≢◌, ℕ, ◌≤◌, List, [], ◌∷◌, ◌++◌, length, sym, refl, ap, ◌∙◌, subst, ⊎_elim, Option, Some, None}
use Rattle.std.proofs.lemmas.Bool.{cases_eq}
use Rattle.machine_states.specs.map_history.specs.declared.op.Request.{Request}
use Rattle.machine_states.specs.body_terms.specs.Line.{is_end}
use Rattle.machine_states.specs.table_words.specs.declared.layout.Layout.{Layout}
use Rattle.machine_states.specs.table_words.specs.declared.spot.Spot.{Spot}
use Rattle.machine_states.specs.table_words.specs.declared.access.Access.{Access}
use Rattle.machine_states.specs.table_words.specs.Limits.{IsWithinLimits}
use Rattle.machine_states.specs.structure_laws.specs.Meaning.{Meaning}
use Rattle.machine_states.specs.structure_laws.specs.Laws.{Laws}
use Rattle.machine_states.specs.structure_laws.specs.Sections.{IsAllowed}
use Rattle.machine_states.specs.structure_laws.proofs.Changes.{upd_same, upd_other}
use Rattle.machine_states.specs.runner_parts.specs.declared.entries.Published.{Published}
use Rattle.machine_states.specs.runner_parts.specs.declared.event.EventKind.TheVariants as kinds
use Rattle.machine_states.specs.runner_parts.specs.State.{RunState, PartState}
use Rattle.machine_states.specs.runner_steps.specs.Sections.{is_open_run, next_of}
use Rattle.machine_states.specs.runner_steps.specs.Asks.{asks}
use Rattle.machine_states.specs.runner_steps.specs.After.{after_by, after}
use Rattle.machine_states.specs.runner_steps.specs.AfterInRun.{ended_more, kept_unless, opened_more, place_of}
use Rattle.agreement_core.specs.State.{AgreementState}
use Rattle.agreement_core.specs.Events as agreement
use Rattle.agreement_core.specs.Schedules as agreement_schedules
use Rattle.machine_states.specs.epoch_core.specs.declared.location.Location.{Location}
use Rattle.machine_states.specs.epoch_core.specs.declared.location.Location.TheVariants.{Live, Limbo}
use Rattle.machine_states.specs.epoch_core.specs.Update.{upd}
use Rattle.machine_states.specs.epoch_core.specs.State.{Counts, EpochState}
use Rattle.machine_states.specs.epoch_core.specs.Events as epochs
use Rattle.machine_states.specs.epoch_core.specs.Events.{slot_of}
use Rattle.machine_states.specs.epoch_core.specs.History.{is_out}
use Rattle.machine_states.specs.Sight.{Sight, sight_after}
use Rattle.machine_states.proofs.Steps.{some_same}
use Rattle.machine_states.proofs.Updates.{upd_split}
use Rattle.machine_blocks.specs.machine_guards.specs.machine_agreement.specs.machine_epochs.specs.Entries.{counts_of}
use Rattle.machine_blocks.specs.machine_guards.specs.machine_agreement.specs.machine_epochs.specs.Slots.{thunk_in}
use Rattle.machine_blocks.specs.machine_guards.specs.machine_agreement.specs.machine_epochs.specs.Chunks as slots
use Rattle.machine_blocks.specs.machine_guards.specs.machine_agreement.specs.machine_scenes.specs.Shown.{rules_of}
use Rattle.machine_blocks.specs.machine_guards.specs.machine_agreement.specs.Chunks as chunks
use Rattle.machine_invariant.specs.Whole.{Beside, states_of, made_in, made_of, HasPublished, AreTied, IsWhole}
use Rattle.machine_invariant.proofs.Basics.{same_test}
use Rattle.machine_invariant.proofs.Asked.{line_heads, line_events}
use Rattle.machine_invariant.proofs.Parts.{IsSamePart, by_reads, released_is, published_behind, inside_made}
use Rattle.machine_invariant.proofs.Runs.{is_calm, agreement_stands, epochs_stand, passes_are}
use Rattle.machine_invariant.proofs.Quiet.{is_still, all_still, IsQuiet, hands_of, stands_now}
use Rattle.machine_invariant.proofs.Chunked.{AreCalm, AreSteady}
use Rattle.machine_invariant.proofs.Sights.{by_part}
use Rattle.machine_invariant.proofs.SlotSteps.{part_is, line_part, thunks_stay}
use Rattle.machine_invariant.proofs.Plain.{calm_whole}
use Rattle.machine_invariant.proofs.Jointly.{IsWholeAfter, no_hold}
use Rattle.machine_invariant.proofs.Pieces.{Pieces, KeepsWhole, Leads, led, keeps_by}
use Rattle.machine_invariant.proofs.Outside.{place_here, place_else, parts_whole}

-- a published section is retired
module _ (m : Meaning) (l : Layout) (g : Beside) (s : Sight) (old : AreTied m l g s) (r : ℕ) (y : Published)
    (is : (s.part r).published ≡ Some y) (d : ℕ) (own : y.descriptor ≡ d)
    (p' : PartState) (word' : Spot → ℕ) (a' : AgreementState) where
  abbrev c : Counts
  c = counts_of m l

  abbrev after_retirement : EpochState
  after_retirement = epochs.after c g.epochs (epochs.RetireDescriptor r d)

  module _ (used' : (n : ℕ) → a'.used n ≡ g.agreement.used n) (live' : (n : ℕ) → a'.live n ≡ upd g.agreement.live d false n) where
    still_live : (n : ℕ) → a'.live n ≡ true → (n ≢ d) × (g.agreement.live n ≡ true)
    still_live n alive = (other, sym (live' n ∙ upd_other g.agreement.live d n false other) ∙ alive)
      where
        other : n ≢ d
        other same = let h = sym alive ∙ (live' n ∙ upd_same g.agreement.live d n false same) in cc

    -- a section that isn't retired has another publisher
    publisher_stays : (n : ℕ) → a'.live n ≡ true → HasPublished m l (upd s.part r p' (g.publications.runner n)) n (g.publications.thunk n)
    publisher_stays n alive =
        let h = still_live n alive in let there = old.publisher n h.1 in
        let apart : g.publications.runner n ≢ r = λ same. h.0 (sym there.2
        ∙ ap (λ (z : Published). z.descriptor) (some_same there.0 y (sym there.1 ∙ (ap (λ i. (s.part i).published) same ∙ is))) ∙ own) in
        (there.0, ap (λ (z : PartState). z.published) (upd_other s.part r _ p' apart) ∙ there.1, there.2, there.3)

    tied_retired : g.epochs.location (slot_of c d) ≡ Live → ((n : ℕ) → thunk_in word' n ≡ thunk_in s.word n)
        → AreTied m l (record { agreement = a'; epochs = after_retirement; publications = g.publications })
        (record { word = word'; part = upd s.part r p' })
    tied_retired at_live thunks = record {
      used = λ n. used' n ∙ (old.used n ∙ ⊎_elim
          (λ same. ap is_out (ap (λ k. g.epochs.location (slot_of c k)) same ∙ at_live)
          ∙ sym (ap is_out (place_here c g.epochs.location d n limbo same)))
          (λ ne. sym (ap is_out (place_else c g.epochs.location d n limbo ne)))
          (cases_eq n d));
      live = λ n alive. let h = still_live n alive in place_else c g.epochs.location d n limbo h.0 ∙ old.live n h.1;
      is_live = λ n there. ⊎_elim
          (λ same. absurd (in_limbo (g.epochs.epoch) (sym (place_here c g.epochs.location d n limbo same) ∙ there)))
          (λ ne. live' n ∙ (upd_other g.agreement.live d n false ne
          ∙ old.is_live n (sym (place_else c g.epochs.location d n limbo ne) ∙ there)))
          (cases_eq n d);
      within = λ n used. old.within n (sym (used' n) ∙ used);
      publisher = publisher_stays;
      thunk = λ n used. old.thunk n (sym (used' n) ∙ used) ∙ sym (thunks n);
      op = λ n used. old.op n (sym (used' n) ∙ used);
    }
      where
        limbo : Location
        limbo = Limbo r g.epochs.epoch

        in_limbo : (z : ℕ) → Limbo r z ≡ Live → ⊥
        in_limbo z e = cc

-- the events of a release
release_calm : (place word r : ℕ) → AreCalm (agreement.Read place ∷ agreement.Release r place word ∷ [])
release_calm place word r = record { still = (refl, (refl, tt)) }

finish_calm : (place word r : ℕ) → AreCalm (agreement.Read place ∷ agreement.Release r place word ∷ agreement.Finish r ∷ [])
finish_calm place word r = record { still = (refl, (refl, (refl, tt))) }

module _ (m : Meaning) (laws : Laws m) (l : Layout) (limits : IsWithinLimits l) (rs : List Request) (few : length rs ≤ 131072)
    (allowed : All (λ (q : Request). IsAllowed q.op) rs) (g : Beside) (s : Sight) (whole : IsWhole m l g s) (r : ℕ)
    (x : Spot × Access) where
  abbrev p : PartState
  p = s.part r

  module _ (asked : asks m l rs r kinds.Release p ≡ Some x) (q : RunState) (is : p.run ≡ Some q) (opened : is_open_run q ≡ true) where
    abbrev released : Sight
    released = sight_after m l s r kinds.Release x

    abbrev released_part : PartState
    released_part = after m l r kinds.Release x.0 x.1 p (s.word x.0)

    abbrev behind : PartState
    behind = line_part m l s r kinds.Release x refl q is opened

    facts : (behind.reads.walk ≡ p.reads.walk) × (behind.published ≡ published_behind m l p q (s.word x.0))
    facts = released_is m l p q (s.word x.0) (place_of (next_of m q))

    part_behind : after_by m l kinds.Release p p.run (s.word x.0) ≡ behind
    part_behind = part_is m l s r kinds.Release x refl q is opened

    thunks : (n : ℕ) → thunk_in released.word n ≡ thunk_in s.word n
    thunks = thunks_stay m l s r kinds.Release x refl q is opened rs asked

    walks : (i : ℕ) → (released.part i).reads.walk ≡ (s.part i).reads.walk
    walks = upd_split s.part r released_part (λ i (y : PartState). y.reads.walk ≡ (s.part i).reads.walk)
        (ap (λ (y : PartState). y.reads.walk) part_behind ∙ facts.0) (λ i ne. refl)

    made_behind : (i : ℕ) (q' : RunState) → (released.part i).run ≡ Some q' → q'.made ≡ made_of s i
    made_behind = upd_split s.part r released_part (λ i (y : PartState). (q' : RunState) → y.run ≡ Some q' → q'.made ≡ made_of s i)
        (λ q' e. (inside_made m l p q is (s.word x.0) kinds.Release refl).same q'
        (ap (λ (o : Option RunState). (after_by m l kinds.Release p o (s.word x.0)).run) (sym is) ∙ e) ∙ ap made_in (sym is))
        (λ i ne q' e. ap made_in (sym e))

    -- where the own section isn't retired
    quiet : published_behind m l p q (s.word x.0) ≡ p.published → IsQuiet m l s released
    quiet same = by_part m l s r kinds.Release x q is refl refl
        (subst (λ b. IsSamePart m l p (if b then behind else opened_more p q (s.word x.0))) (sym opened)
        (by_reads m l p behind facts.0 (facts.1 ∙ same)))

    stays : (pieces : Pieces m l g s released r kinds.Release x) → published_behind m l p q (s.word x.0) ≡ p.published
        → AreCalm pieces.heads → pieces.events ≡ [] → KeepsWhole m l g s released r kinds.Release x pieces
    stays pieces same calm none = calm_whole m laws l limits g s released whole r kinds.Release x pieces calm
        (subst AreSteady (sym none) (record { alone = tt; leaves = tt })) (quiet same) (λ n used. thunks n) refl refl

    -- the last release of the own section's run
    module _ (y : Published) (at : p.published ≡ Some y) (own : y.descriptor ≡ q.descriptor) (place word : ℕ) where
      abbrev heads : List agreement.Event
      heads = agreement.Read place ∷ agreement.Release r place word ∷ agreement.Finish r ∷ agreement.RetireDescriptor q.descriptor ∷ []

      abbrev events : List epochs.Event
      events = epochs.RetireDescriptor r q.descriptor ∷ []

      retire : (go : Leads m l g released r heads events)
          → IsWholeAfter m l (states_of g s) (led m l g r heads go.passes events g.publications) released
      retire go =
          let passes = replicate go.passes (agreement.Pass r) in
          let es = heads ++ passes in
          let a' = agreement_schedules.after_all (rules_of m l) g.agreement es in
          let uses = all_still (rules_of m l) (agreement_schedules.after_all (rules_of m l) g.agreement heads) passes
          (passes_are is_still (agreement.Pass r) refl go.passes) in
          let one = agreement_stands m laws l limits es (states_of g s) (made_of s)
          (refl, (refl, (refl, (refl, passes_are is_calm (agreement.Pass r) refl go.passes)))) go.enabled
          (hands_of m laws l limits g.epochs s whole.slots) (stands_now m laws l limits g s whole) in
          let two = epochs_stand m laws l limits events (record (states_of g s) { agreement = a' }) (made_of s)
          (refl, tt) go.enabled_slots one in
          parts_whole m laws l limits (led m l g r heads go.passes events g.publications) s released go.joined go.joined_slots
          (tied_retired m l g s whole.tied r y at q.descriptor own released_part released.word a'
          (λ n. ap (λ (f : ℕ → Bool). f n) uses.used) (λ n. ap (λ (f : ℕ → Bool). f n) uses.live) go.enabled_slots.0.1 thunks)
          (λ i. (s.part i).reads.walk) walks made_behind two go.logs

    abbrev over : ℕ → ℕ → List agreement.Event → List agreement.Event
    over place word more = agreement.Read place ∷ agreement.Release r place word ∷ agreement.Finish r ∷ more

    abbrev ends : Bool
    ends = is_end (next_of m (ended_more q))

    -- in any case
    pub release_whole : (pieces : Pieces m l g s released r kinds.Release x) → KeepsWhole m l g s released r kinds.Release x pieces
    release_whole pieces =
        let chunk = line_heads m l r kinds.Release p q is opened (s.word x.0) g.agreement pieces.heads pieces.in_sections in
        let none = line_events m l r kinds.Release p q is opened (s.word x.0) pieces.events pieces.in_slots in
        ⊎_elim
        (λ more. stays pieces (ap (λ b. if b then kept_unless p.published q.descriptor else p.published) more.0)
        (subst AreCalm (sym more.1) (release_calm chunk.0 chunk.1 r))
        (none ∙ ap (λ b. if b then slots.retires_own r p.published q.descriptor else []) more.0))
        (λ last. by_published chunk.0 chunk.1 last.0 last.1
        (none ∙ ap (λ b. if b then slots.retires_own r p.published q.descriptor else []) last.0) p.published refl) chunk.3
      where
        -- nothing is retired
        over_quietly : (place word : ℕ) → ends ≡ true → pieces.heads ≡ over place word (chunks.retires_own p.published q.descriptor)
            → pieces.events ≡ slots.retires_own r p.published q.descriptor
            → kept_unless p.published q.descriptor ≡ p.published → chunks.retires_own p.published q.descriptor ≡ []
            → slots.retires_own r p.published q.descriptor ≡ [] → KeepsWhole m l g s released r kinds.Release x pieces
        over_quietly place word end in_heads in_events same no_heads no_events = stays pieces
            (ap (λ b. if b then kept_unless p.published q.descriptor else p.published) end ∙ same)
            (subst AreCalm (sym (in_heads ∙ ap (over place word) no_heads)) (finish_calm place word r)) (in_events ∙ no_events)

        by_own : (place word : ℕ) → ends ≡ true → pieces.heads ≡ over place word (chunks.retires_own p.published q.descriptor)
            → pieces.events ≡ slots.retires_own r p.published q.descriptor → (y : Published) → p.published ≡ Some y
            → (b : Bool) → (y.descriptor == q.descriptor) ≡ b → KeepsWhole m l g s released r kinds.Release x pieces
        by_own place word end in_heads in_events y at true e =
            keeps_by m l g s released r kinds.Release x pieces (heads y at (same_test y.descriptor q.descriptor e) place word)
            (events y at (same_test y.descriptor q.descriptor e) place word)
            (in_heads ∙ ap (over place word) (ap (λ o. chunks.retires_own o q.descriptor) at
            ∙ ap (λ b. if b then agreement.RetireDescriptor q.descriptor ∷ [] else []) e))
            (in_events ∙ (ap (λ o. slots.retires_own r o q.descriptor) at
            ∙ ap (λ b. if b then epochs.RetireDescriptor r q.descriptor ∷ [] else []) e))
            g.publications refl (no_hold m l kinds.Release (s.word x.0) refl) refl
            (retire y at (same_test y.descriptor q.descriptor e) place word)
        by_own place word end in_heads in_events y at false e = over_quietly place word end in_heads in_events
            (ap (λ o. kept_unless o q.descriptor) at ∙ (ap (λ (b : Bool). if b then None else Some y) e ∙ sym at))
            (ap (λ o. chunks.retires_own o q.descriptor) at
            ∙ ap (λ b. if b then agreement.RetireDescriptor q.descriptor ∷ [] else []) e)
            (ap (λ o. slots.retires_own r o q.descriptor) at
            ∙ ap (λ b. if b then epochs.RetireDescriptor r q.descriptor ∷ [] else []) e)

        by_published : (place word : ℕ) → ends ≡ true → pieces.heads ≡ over place word (chunks.retires_own p.published q.descriptor)
            → pieces.events ≡ slots.retires_own r p.published q.descriptor → (o : Option Published) → p.published ≡ o
            → KeepsWhole m l g s released r kinds.Release x pieces
        by_published place word end in_heads in_events None at = over_quietly place word end in_heads in_events
            (ap (λ o. kept_unless o q.descriptor) at ∙ sym at) (ap (λ o. chunks.retires_own o q.descriptor) at)
            (ap (λ o. slots.retires_own r o q.descriptor) at)
        by_published place word end in_heads in_events (Some y) at =
            by_own place word end in_heads in_events y at (y.descriptor == q.descriptor) refl
