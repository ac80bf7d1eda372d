-- The descriptors that leave limbo at the end of a sweep.
use Rattle.std.specs.Prelude.{replicate, ◌==◌, ◌&&◌, ◌||◌, ◌-◌, Bool, true, false, cond, nat_le, All, if◌then◌else◌}
use Rattle.std.proofs.Common.{◌≡◌, ℕ, ◌+◌, ◌≤◌, List, [], ◌∷◌, ◌++◌, length, sym, refl, ap, ◌∙◌, subst, arith, Some, None}
use Rattle.std.proofs.lemmas.Bool.Decides.{nat_tests}
use Rattle.machine_states.specs.map_history.specs.declared.op.Request.{Request}
use Rattle.machine_states.specs.table_words.specs.declared.layout.Layout.{Layout}
use Rattle.machine_states.specs.table_words.specs.declared.spot.Spot.{Spot}
use Rattle.machine_states.specs.table_words.specs.declared.access.Access.{Access}
use Rattle.machine_states.specs.table_words.specs.Limits.{IsWithinLimits}
use Rattle.machine_states.specs.structure_laws.specs.Meaning.{Meaning}
use Rattle.machine_states.specs.structure_laws.specs.Laws.{Laws}
use Rattle.machine_states.specs.structure_laws.specs.Sections.{IsAllowed}
use Rattle.machine_states.specs.guard_core.specs.Moves.{is_unnamed}
use Rattle.machine_states.specs.runner_parts.specs.declared.event.EventKind.{EventKind}
use Rattle.machine_states.specs.runner_parts.specs.declared.event.EventKind.TheVariants as kinds
use Rattle.machine_states.specs.runner_parts.specs.State.{PartState}
use Rattle.machine_states.specs.runner_parts.specs.Tests.{has}
use Rattle.machine_states.specs.runner_steps.specs.Guards.{is_last_guard}
use Rattle.machine_states.specs.runner_steps.specs.Asks.{asks}
use Rattle.agreement_core.specs.State.{CellRules, AgreementState}
use Rattle.agreement_core.specs.Events as agreement
use Rattle.agreement_core.specs.Schedules as agreement_schedules
use Rattle.machine_states.specs.epoch_core.specs.declared.location.Location.{Location}
use Rattle.machine_states.specs.epoch_core.specs.declared.location.Location.TheVariants.{Live, Fixed, Hand, Free, Worn, Limbo, OnBoard}
use Rattle.machine_states.specs.epoch_core.specs.Update.{upd}
use Rattle.machine_states.specs.epoch_core.specs.Moves as moves
use Rattle.machine_states.specs.epoch_core.specs.State.{Counts, EpochState}
use Rattle.machine_states.specs.epoch_core.specs.Events as epochs
use Rattle.machine_states.specs.epoch_core.specs.Events.{Event, slot_of, is_among}
use Rattle.machine_states.specs.epoch_core.specs.History.{is_out}
use Rattle.machine_states.specs.Sight.{Sight, sight_after}
use Rattle.machine_slots.specs.Hands.{Made}
use Rattle.machine_blocks.specs.machine_guards.specs.machine_agreement.specs.machine_epochs.specs.Entries.{counts_of}
use Rattle.machine_blocks.specs.machine_guards.specs.machine_agreement.specs.machine_epochs.specs.Slots.{thunk_in}
use Rattle.machine_blocks.specs.machine_guards.specs.machine_agreement.specs.machine_epochs.specs.Joined as joins
use Rattle.machine_blocks.specs.machine_guards.specs.machine_agreement.specs.machine_scenes.specs.Shown.{States, rules_of}
use Rattle.machine_blocks.specs.machine_guards.specs.machine_agreement.specs.machine_scenes.specs.Steps.{Agreement}
use Rattle.machine_blocks.specs.machine_guards.specs.machine_agreement.specs.machine_scenes.specs.Steps as steps
use Rattle.machine_blocks.specs.machine_guards.specs.machine_agreement.specs.Chunks.{frees}
use Rattle.machine_blocks.specs.machine_guards.specs.machine_agreement.specs.Chunks as chunks
use Rattle.machine_blocks.specs.Stands.{LogsHold}
use Rattle.machine_invariant.specs.Whole.{Beside, states_of, made_of, AreTied, IsWhole}
use Rattle.machine_invariant.proofs.Basics.{both_hold, both}
use Rattle.machine_invariant.proofs.Runs.{is_calm, AllAre, passes_are, InHands, Stands, step_stands, agreement_stands, epochs_stand}
use Rattle.machine_invariant.proofs.Quiet.{IsQuiet, is_still, all_still, hands_of, stands_now}
use Rattle.machine_invariant.proofs.Limbo.{has_filter, at_its_limbo, in_its_limbo}
use Rattle.machine_invariant.proofs.Thunks.{outside_leaves}
use Rattle.machine_invariant.proofs.Sights.{thunks_after, outside_quiet}
use Rattle.machine_invariant.proofs.Chunked.{AreCalm, AreSteady}
use Rattle.machine_invariant.proofs.Plain.{calm_whole}
use Rattle.machine_invariant.proofs.Jointly.{IsWholeAfter, no_hold}
use Rattle.machine_invariant.proofs.Pieces.{Pieces, KeepsWhole, Leads, led, keeps_by}
use Rattle.machine_invariant.proofs.Outside.{outside_asked, outside_heads, outside_events, parts_whole}

pub frees_are : (test : agreement.Event → Bool) → ((d : ℕ) → test (agreement.Free d) ≡ true) → (ds : List ℕ) → AllAre test (frees ds)
frees_are test each [] = tt
frees_are test each (d ∷ ds) = (each d, frees_are test each ds)

one_more_free : (b : Bool) (f : ℕ → Bool) (d n : ℕ) → cond b false (upd f d false n) ≡ cond (d == n || b) false (f n)
one_more_free b f d n = grind (arith, nat_tests)

-- descriptors that become free aren't used any more, and the others are as before
freed : (c : CellRules) (w : AgreementState) (ds : List ℕ) (es : List agreement.Event) → AllAre is_still es → (n : ℕ)
    → (agreement_schedules.after_all c w (frees ds ++ es)).used n ≡ cond (has ds n) false (w.used n)
freed c w [] es still n = ap (λ (f : ℕ → Bool). f n) (all_still c w es still).used
freed c w (d ∷ ds) es still n = freed c (agreement.after w (agreement.Free d)) ds es still n ∙ one_more_free (has ds n) w.used d n

freed_live : (c : CellRules) (w : AgreementState) (ds : List ℕ) (es : List agreement.Event) → AllAre is_still es
    → (agreement_schedules.after_all c w (frees ds ++ es)).live ≡ w.live
freed_live c w [] es still = (all_still c w es still).live
freed_live c w (d ∷ ds) es still = freed_live c (agreement.after w (agreement.Free d)) ds es still

-- where a descriptor is after a sweep
module _ (frees : Bool) (r : ℕ) where
  in_stays : (p : Location) → is_out p ≡ false → is_out (moves.swept frees r p) ≡ false
  in_stays (Limbo r' y) e = absurd (let x = e in cc)
  in_stays Fixed e = e
  in_stays Live e = e
  in_stays (Hand r') e = e
  in_stays (Free r') e = e
  in_stays (Worn r') e = e
  in_stays (OnBoard i) e = e

  out_stays : (p : Location) → is_out p ≡ true → ((y : ℕ) → p ≡ Limbo r y → frees ≡ true → ⊥) → is_out (moves.swept frees r p) ≡ true
  out_stays (Limbo r' y) e held = by (r' == r && frees) refl
    where
      own : (a b : ℕ) (o : Bool) → (a == b && o) ≡ true → (a ≡ b) × (o ≡ true)
      own a b o e = grind (arith, nat_tests)

      by : (b : Bool) → (r' == r && frees) ≡ b → is_out (cond b (Free r) (Limbo r' y)) ≡ true
      by true is = let h = own r' r frees is in absurd (held y (ap (λ i. Limbo i y) h.0) h.1)
      by false is = refl
  out_stays Fixed e held = e
  out_stays Live e held = e
  out_stays (Hand r') e held = absurd (let x = e in cc)
  out_stays (Free r') e held = absurd (let x = e in cc)
  out_stays (Worn r') e held = absurd (let x = e in cc)
  out_stays (OnBoard i) e held = absurd (let x = e in cc)

  live_was : (p : Location) → moves.swept frees r p ≡ Live → p ≡ Live
  live_was (Limbo r' y) e = by (r' == r && frees) e
    where
      by : (b : Bool) → cond b (Free r) (Limbo r' y) ≡ Live → Limbo r' y ≡ Live
      by true e = absurd (let x = e in cc)
      by false e = e
  live_was Fixed e = e
  live_was Live e = e
  live_was (Hand r') e = e
  live_was (Free r') e = e
  live_was (Worn r') e = e
  live_was (OnBoard i) e = e

-- what a sweep frees of the sweeper's own is in its free list
own_freed : (r y : ℕ) (frees : Bool) → frees ≡ true → moves.swept frees r (Limbo r y) ≡ Free r
own_freed r y frees e = by (Free r) (Limbo r y) r frees e
  where
    by : (p q : Location) (r : ℕ) (b : Bool) → b ≡ true → cond (r == r && b) p q ≡ p
    by p q r b e = grind (arith, nat_tests)

-- a descriptor's slot is among these where the descriptor is
among_descriptors : (c : Counts) (test : ℕ → Bool) (n : ℕ) → is_among c test (slot_of c n) ≡ test n
among_descriptors c test n = by (nat_le c.nodes (c.nodes + n)) (above c.nodes n) ∙ ap test (back c.nodes n)
  where
    above : (k n : ℕ) → nat_le k (k + n) ≡ true
    above k n = grind (arith, nat_tests)

    back : (k n : ℕ) → (k + n) - k ≡ n
    back k n = omega arith

    by : (b : Bool) → b ≡ true → (b && test (c.nodes + n - c.nodes)) ≡ test (c.nodes + n - c.nodes)
    by true e = refl
    by false e = absurd (let x = e in cc)

-- a sweep ends in which these words were read
module _ (m : Meaning) (l : Layout) (g : Beside) (s s' : Sight) (old : AreTied m l g s) (slots : joins.IsJoinedToEpochs m l g.epochs s)
    (logs : LogsHold m l g.agreement g.epochs s) (r : ℕ) (words : List ℕ) (a' : AgreementState) where
  abbrev c : Counts
  c = counts_of m l

  abbrev leaving : List ℕ
  leaving = chunks.unnamed words (s.part r)

  abbrev swept : EpochState
  swept = epochs.after c g.epochs (epochs.Sweep r (is_unnamed words))

  abbrev was : ℕ → Location
  was n = g.epochs.location (slot_of c n)

  place : (n : ℕ) → swept.location (slot_of c n) ≡ moves.swept (is_unnamed words n) r (was n)
  place n = ap (λ b. moves.swept b r (was n)) (among_descriptors c (is_unnamed words) n)

  -- a descriptor that leaves limbo is free
  gone : (n : ℕ) → has leaving n ≡ true → is_out (swept.location (slot_of c n)) ≡ false
  gone n leaves =
      let h = both (has (s.part r).descriptors.limbo n) _ (sym (has_filter (is_unnamed words) (s.part r).descriptors.limbo n) ∙ leaves) in
      let there = at_its_limbo m l g.epochs s slots r n (logs.guards.within r n h.0) h.0 in
      ap is_out (place n ∙ (ap (moves.swept (is_unnamed words n) r) there.1 ∙ own_freed r there.0 (is_unnamed words n) h.1))

  -- any other is where it was
  kept : (n : ℕ) → has leaving n ≡ false → (b : Bool) → g.agreement.used n ≡ b → is_out (swept.location (slot_of c n)) ≡ b
  kept n stays false unused = ap is_out (place n) ∙ in_stays (is_unnamed words n) r (was n) (sym (old.used n) ∙ unused)
  kept n stays true used = ap is_out (place n) ∙ out_stays (is_unnamed words n) r (was n) (sym (old.used n) ∙ used)
      (λ y limbo unnamed. absurd (let h = sym stays ∙ (has_filter (is_unnamed words) (s.part r).descriptors.limbo n
      ∙ both_hold _ _ (in_its_limbo m l g.epochs s slots r n (old.within n used) y limbo) unnamed) in cc))

  -- what the components say of descriptors still belongs together
  tied_freed : ((n : ℕ) → a'.used n ≡ cond (has leaving n) false (g.agreement.used n)) → a'.live ≡ g.agreement.live
      → IsQuiet m l s s' → ((n : ℕ) → thunk_in s'.word n ≡ thunk_in s.word n)
      → AreTied m l (record { agreement = a'; epochs = swept; publications = g.publications }) s'
  tied_freed used' live' quiet thunks = record {
    used = λ n. used' n ∙ used_here n (has leaving n) refl;
    live = λ n is. place n ∙ ap (moves.swept (is_unnamed words n) r) (old.live n (was_live n is));
    is_live = λ n is. ap (λ (f : ℕ → Bool). f n) live' ∙ old.is_live n (live_was (is_unnamed words n) r (was n) (sym (place n) ∙ is));
    within = λ n is. old.within n (was_used n is);
    publisher = λ n is. quiet.stay.published (g.publications.runner n) n (g.publications.thunk n) (old.publisher n (was_live n is));
    thunk = λ n is. old.thunk n (was_used n is) ∙ sym (thunks n);
    op = λ n is. old.op n (was_used n is);
  }
    where
      was_live : (n : ℕ) → a'.live n ≡ true → g.agreement.live n ≡ true
      was_live n is = sym (ap (λ (f : ℕ → Bool). f n) live') ∙ is

      was_used : (n : ℕ) → a'.used n ≡ true → g.agreement.used n ≡ true
      was_used n is = still (has leaving n) (g.agreement.used n) (sym (used' n) ∙ is)
        where
          still : (b u : Bool) → cond b false u ≡ true → u ≡ true
          still true u e = absurd (let x = e in cc)
          still false u e = e

      used_here : (n : ℕ) (b : Bool) → has leaving n ≡ b → cond b false (g.agreement.used n) ≡ is_out (swept.location (slot_of c n))
      used_here n true leaves = sym (gone n leaves)
      used_here n false stays = sym (kept n stays (g.agreement.used n) refl)

-- the joint states stand behind descriptors that become free, none of which was live, and other events
frees_stand : (m : Meaning) (laws : Laws m) (l : Layout) (limits : IsWithinLimits l) (from : States) (ds : List ℕ) (es : List agreement.Event)
    → AllAre is_calm es → (j : States) (made : Made) → j.agreement.live ≡ from.agreement.live
    → agreement_schedules.AllEnabled (rules_of m l) j.agreement (frees ds ++ es) → InHands m laws l limits j.epochs made
    → Stands m laws l limits from j made
    → Stands m laws l limits from (record j { agreement = agreement_schedules.after_all (rules_of m l) j.agreement (frees ds ++ es) }) made
frees_stand m laws l limits from [] es calm j made live ok hands old = agreement_stands m laws l limits es j made calm ok hands old
frees_stand m laws l limits from (d ∷ ds) es calm j made live ok hands old =
    frees_stand m laws l limits from ds es calm (steps.after m l (counts_of m l) j (Agreement (agreement.Free d))) made live ok.1 hands
    (step_stands m laws l limits j made made (Agreement (agreement.Free d)) (refl, ok.0) tt
    (ap (λ (f : ℕ → Bool). f d) (sym live) ∙ ok.0.0) hands (λ i. refl) old)

module _ (m : Meaning) (laws : Laws m) (l : Layout) (limits : IsWithinLimits l) (rs : List Request) (few : length rs ≤ 131072)
    (allowed : All (λ (q : Request). IsAllowed q.op) rs) (g : Beside) (s : Sight) (whole : IsWhole m l g s) (r : ℕ)
    (x : Spot × Access) where
  abbrev p : PartState
  p = s.part r

  -- one more guard word is read in a sweep
  module _ (n : ℕ) (asked : asks m l rs r (kinds.LoadGuard n) p ≡ Some x) (none : p.run ≡ None) where
    abbrev look : EventKind
    look = kinds.LoadGuard n

    abbrev looked_sight : Sight
    looked_sight = sight_after m l s r look x

    abbrev words : List ℕ
    words = p.guards.looked ++ s.word x.0 ∷ []

    abbrev leave : List agreement.Event
    leave = frees (chunks.unnamed words p)

    abbrev sweep : List Event
    sweep = epochs.Sweep r (is_unnamed words) ∷ []

    thunks : (n : ℕ) → thunk_in looked_sight.word n ≡ thunk_in s.word n
    thunks = thunks_after m l s r look x (outside_leaves m l rs r p x look refl
        (outside_asked m l rs g s looked_sight r look x none asked))

    quiet : IsQuiet m l s looked_sight
    quiet = outside_quiet m l s r look x none refl refl

    -- the sweep ends
    sweep_whole : (go : Leads m l g looked_sight r leave sweep)
        → IsWholeAfter m l (states_of g s) (led m l g r leave go.passes sweep g.publications) looked_sight
    sweep_whole go =
        let ds = chunks.unnamed words p in
        let passes = replicate go.passes (agreement.Pass r) in
        let still = passes_are is_still (agreement.Pass r) refl go.passes in
        let a' = agreement_schedules.after_all (rules_of m l) g.agreement (leave ++ passes) in
        let one = frees_stand m laws l limits (states_of g s) ds passes (passes_are is_calm (agreement.Pass r) refl go.passes)
        (states_of g s) (made_of s) refl go.enabled (hands_of m laws l limits g.epochs s whole.slots) (stands_now m laws l limits g s whole) in
        let two = epochs_stand m laws l limits sweep (record (states_of g s) { agreement = a' }) (made_of s)
        (refl, tt) go.enabled_slots one in
        let tied = tied_freed m l g s looked_sight whole.tied whole.slots whole.logs r words a' (freed (rules_of m l) g.agreement ds passes still)
        (freed_live (rules_of m l) g.agreement ds passes still) quiet thunks in
        parts_whole m laws l limits (led m l g r leave go.passes sweep g.publications) s looked_sight go.joined go.joined_slots tied
        (λ i. (s.part i).reads.walk) quiet.stay.walk quiet.made two go.logs

    pub load_guard_whole : (pieces : Pieces m l g s looked_sight r look x) → KeepsWhole m l g s looked_sight r look x pieces
    load_guard_whole pieces = by (is_last_guard l p.guards.looked)
        (outside_heads m l rs g s looked_sight r look x none pieces) (outside_events m l rs g s looked_sight r look x none pieces)
      where
        by : (b : Bool) → pieces.heads ≡ (if b then leave else []) → pieces.events ≡ (if b then sweep else [])
            → KeepsWhole m l g s looked_sight r look x pieces
        by true heads events = keeps_by m l g s looked_sight r look x pieces leave sweep heads events g.publications refl
            (no_hold m l look (s.word x.0) refl) refl sweep_whole
        by false heads events = calm_whole m laws l limits g s looked_sight whole r look x pieces
            (subst AreCalm (sym heads) (record { still = tt })) (subst AreSteady (sym events) (record { alone = tt; leaves = tt }))
            quiet (λ n used. thunks n) refl refl
