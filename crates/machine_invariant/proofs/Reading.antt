-- A step by which a read without a lock writes a word keeps the whole invariant.
use Rattle.std.specs.Prelude.{Bool, true, false, replicate}
use Rattle.std.proofs.Common.{◌≡◌, ℕ, List, [], ◌∷◌, refl, ap, ◌∙◌, None, Some}
use Rattle.machine_states.specs.map_history.specs.declared.op.Request.{Request}
use Rattle.machine_states.specs.table_words.specs.declared.layout.Layout.{Layout}
use Rattle.machine_states.specs.table_words.specs.declared.spot.Spot.{Spot}
use Rattle.machine_states.specs.table_words.specs.declared.access.Access.{Access}
use Rattle.machine_states.specs.table_words.specs.Limits.{IsWithinLimits}
use Rattle.machine_states.specs.structure_laws.specs.Meaning.{Meaning}
use Rattle.machine_states.specs.structure_laws.specs.Laws.{Laws}
use Rattle.machine_states.specs.runner_parts.specs.declared.event.EventKind.{EventKind}
use Rattle.machine_states.specs.runner_parts.specs.declared.event.EventKind.TheVariants as kinds
use Rattle.machine_states.specs.runner_parts.specs.State.{PartState}
use Rattle.machine_states.specs.runner_steps.specs.Sections.{reply_in}
use Rattle.machine_states.specs.runner_steps.specs.Reads.{read_stamp_after}
use Rattle.machine_states.specs.runner_steps.specs.Asks.{asks}
use Rattle.agreement_core.specs.State.{AgreementState}
use Rattle.agreement_core.specs.Events as agreement
use Rattle.agreement_core.specs.Schedules as agreement_schedules
use Rattle.machine_states.specs.World.{is_join}
use Rattle.machine_states.specs.Sight.{Sight, sight_after}
use Rattle.machine_blocks.specs.machine_guards.specs.machine_agreement.specs.machine_epochs.specs.Entries.{counts_of}
use Rattle.machine_blocks.specs.machine_guards.specs.machine_agreement.specs.machine_epochs.specs.Slots.{thunk_in}
use Rattle.machine_blocks.specs.machine_guards.specs.machine_agreement.specs.machine_scenes.specs.Shown.{States, rules_of}
use Rattle.machine_blocks.specs.machine_guards.specs.machine_agreement.specs.machine_scenes.specs.Steps as steps
use Rattle.machine_slots.specs.Hands.{Made}
use Rattle.machine_invariant.specs.Whole.{Beside, states_of, made_of, IsWhole}
use Rattle.machine_invariant.proofs.Parts.{is_other}
use Rattle.machine_invariant.proofs.Runs.{passes_are, is_calm, InHands, Stands, step_anew, agreement_stands}
use Rattle.machine_invariant.proofs.Ties.{tied_onward}
use Rattle.machine_invariant.proofs.Quiet.{KeepsUse, is_still, all_still, IsQuiet, hands_of, stands_now}
use Rattle.machine_invariant.proofs.Thunks.{is_private_store, outside_leaves}
use Rattle.machine_invariant.proofs.Sights.{outside_quiet, thunks_after}
use Rattle.machine_invariant.proofs.Jointly.{IsWholeAfter}
use Rattle.machine_invariant.proofs.Pieces.{Pieces, KeepsWhole, Leads, led, keeps_reading}
use Rattle.machine_invariant.proofs.Outside.{outside_asked, outside_heads, outside_events, parts_whole}

-- an event of agreement that writes a word of a read without a lock
abbrev is_read_word : agreement.Event → Bool
is_read_word (agreement.ReadReply request reply) = true
is_read_word (agreement.ReadStamp request stamp) = true
is_read_word _ = false

read_uses : (w : AgreementState) (v : agreement.Event) → is_read_word v ≡ true → KeepsUse w (agreement.after w v)
read_uses w (agreement.ReadReply request reply) is = record { used = refl; live = refl }
read_uses w (agreement.ReadStamp request stamp) is = record { used = refl; live = refl }
read_uses w _ is = absurd (cc)

module _ (m : Meaning) (laws : Laws m) (l : Layout) (limits : IsWithinLimits l) where
  -- a step of its own, from whose states on the steps are counted anew
  read_anew : {from : States} (j : States) (made : Made) (v : agreement.Event) → is_read_word v ≡ true
      → agreement.Enabled (rules_of m l) j.agreement v → InHands m laws l limits j.epochs made → Stands m laws l limits from j made
      → Stands m laws l limits (steps.after m l (counts_of m l) j (steps.Agreement v)) (steps.after m l (counts_of m l) j (steps.Agreement v)) made
  read_anew j made (agreement.ReadReply request reply) is ok hands old =
      step_anew m laws l limits j made made (steps.Agreement (agreement.ReadReply request reply)) (refl, ok) tt hands (λ i. refl) old
  read_anew j made (agreement.ReadStamp request stamp) is ok hands old =
      step_anew m laws l limits j made made (steps.Agreement (agreement.ReadStamp request stamp)) (refl, ok) tt hands (λ i. refl) old
  read_anew j made _ is ok hands old = absurd (cc)

module _ (m : Meaning) (laws : Laws m) (l : Layout) (limits : IsWithinLimits l) (rs : List Request) (g : Beside) (s : Sight)
    (whole : IsWhole m l g s) (r : ℕ) (x : Spot × Access) where
  abbrev p : PartState
  p = s.part r

  module _ (kind : EventKind) (v : agreement.Event) (writes : is_read_word v ≡ true) (asked : asks m l rs r kind p ≡ Some x) (none : p.run ≡ None)
      (joins : is_join kind ≡ false) (other : is_other kind ≡ true) (store : is_private_store m l kind ≡ false) where
    abbrev read_sight : Sight
    read_sight = sight_after m l s r kind x

    -- the states behind the event
    abbrev behind : States
    behind = steps.after m l (counts_of m l) (states_of g s) (steps.Agreement v)

    quiet : IsQuiet m l s read_sight
    quiet = outside_quiet m l s r kind x none joins other

    thunks : (d : ℕ) → thunk_in read_sight.word d ≡ thunk_in s.word d
    thunks = thunks_after m l s r kind x (outside_leaves m l rs r p x kind store (outside_asked m l rs g s read_sight r kind x none asked))

    writes_whole : (go : Leads m l g read_sight r (v ∷ []) [])
        → IsWholeAfter m l behind (led m l g r (v ∷ []) go.passes [] g.publications) read_sight
    writes_whole go =
        let passes = replicate go.passes (agreement.Pass r) in
        let w = agreement_schedules.after_all (rules_of m l) g.agreement (v ∷ passes) in
        let hands = hands_of m laws l limits g.epochs s whole.slots in
        let one = read_anew m laws l limits (states_of g s) (made_of s) v writes go.enabled.0 hands (stands_now m laws l limits g s whole) in
        let two = agreement_stands m laws l limits passes behind (made_of s)
        (passes_are is_calm (agreement.Pass r) refl go.passes) go.enabled.1 hands one in
        let first = read_uses g.agreement v writes in
        let uses = all_still (rules_of m l) (agreement.after g.agreement v) passes (passes_are is_still (agreement.Pass r) refl go.passes) in
        let tied = tied_onward m l g.agreement w g.epochs g.epochs g.publications s read_sight whole.tied
        (λ d. ap (λ (f : ℕ → Bool). f d) (uses.used ∙ first.used)) (λ d. ap (λ (f : ℕ → Bool). f d) (uses.live ∙ first.live))
        (λ d. refl) quiet.stay.published (λ d used. thunks d) in
        parts_whole m laws l limits (record { agreement = w; epochs = g.epochs; publications = g.publications }) s read_sight go.joined go.joined_slots
        tied (λ i. (s.part i).reads.walk) quiet.stay.walk quiet.made two go.logs

  pub read_reply_whole : asks m l rs r kinds.ReadReply p ≡ Some x → p.run ≡ None
      → (pieces : Pieces m l g s (sight_after m l s r kinds.ReadReply x) r kinds.ReadReply x)
      → KeepsWhole m l g s (sight_after m l s r kinds.ReadReply x) r kinds.ReadReply x pieces
  read_reply_whole asked none pieces =
      let s' = sight_after m l s r kinds.ReadReply x in
      let chunk = outside_heads m l rs g s s' r kinds.ReadReply x none pieces in
      let v = agreement.ReadReply chunk.0.thunk.request (reply_in (m.body chunk.0.thunk)) in
      keeps_reading m l g s s' r kinds.ReadReply x pieces (v ∷ []) [] chunk.2 (outside_events m l rs g s s' r kinds.ReadReply x none pieces)
      (λ go. let there = writes_whole kinds.ReadReply v refl asked none refl refl refl go in
      (there.whole, record { reading = refl; none = none; event = v; chunk = (chunk.0, chunk.1, refl); enabled = go.enabled.0; passed = there.passed }))

  pub read_stamp_whole : asks m l rs r kinds.ReadStamp p ≡ Some x → p.run ≡ None
      → (pieces : Pieces m l g s (sight_after m l s r kinds.ReadStamp x) r kinds.ReadStamp x)
      → KeepsWhole m l g s (sight_after m l s r kinds.ReadStamp x) r kinds.ReadStamp x pieces
  read_stamp_whole asked none pieces =
      let s' = sight_after m l s r kinds.ReadStamp x in
      let chunk = outside_heads m l rs g s s' r kinds.ReadStamp x none pieces in
      let v = agreement.ReadStamp chunk.0.thunk.request (read_stamp_after chunk.0.clock) in
      keeps_reading m l g s s' r kinds.ReadStamp x pieces (v ∷ []) [] chunk.2 (outside_events m l rs g s s' r kinds.ReadStamp x none pieces)
      (λ go. let there = writes_whole kinds.ReadStamp v refl asked none refl refl refl go in
      (there.whole, record { reading = refl; none = none; event = v; chunk = (chunk.0, chunk.1, refl); enabled = go.enabled.0; passed = there.passed }))
