-- The kinds of step that are quiet keep the whole invariant.
use Rattle.std.specs.Prelude.{◌-◌, Bool, true, false, nat_lt, replicate, if◌then◌else◌}
use Rattle.std.proofs.Common.{◌≡◌, ◌≢◌, ℕ, List, ◌++◌, sym, refl, ap, ◌∙◌, subst, Option, Some, None, ⊎_elim}
use Rattle.machine_states.specs.map_history.specs.declared.op.Request.{Request}
use Rattle.machine_states.specs.table_words.specs.declared.layout.Layout.{Layout}
use Rattle.machine_states.specs.table_words.specs.declared.spot.Spot.{Spot}
use Rattle.machine_states.specs.table_words.specs.declared.access.Access.{Access}
use Rattle.machine_states.specs.table_words.specs.declared.spot.Spot.TheVariants.{ThunkWord}
use Rattle.machine_states.specs.table_words.specs.Access.{written}
use Rattle.machine_states.specs.table_words.specs.Places.{slot_count}
use Rattle.machine_states.specs.table_words.specs.Seen.{put}
use Rattle.machine_states.specs.table_words.specs.Limits.{IsWithinLimits}
use Rattle.machine_states.specs.structure_laws.specs.Meaning.{Meaning}
use Rattle.machine_states.specs.structure_laws.specs.Laws.{Laws}
use Rattle.machine_states.specs.runner_parts.specs.declared.event.EventKind.{EventKind}
use Rattle.machine_states.specs.runner_parts.specs.declared.event.EventKind.TheVariants as kinds
use Rattle.machine_states.specs.runner_parts.specs.State.{RunState, PartState}
use Rattle.machine_states.specs.runner_steps.specs.Sections.{is_open_run, next_of}
use Rattle.machine_states.specs.runner_steps.specs.Outside.{private_store_ask}
use Rattle.machine_states.specs.runner_steps.specs.Asks.{outside_ask, inside_ask, line_ask, asks}
use Rattle.machine_states.specs.runner_steps.specs.Asks.{opening_ask}
use Rattle.machine_states.specs.runner_steps.specs.Outside.{blocks_from}
use Rattle.agreement_core.specs.Events as agreement
use Rattle.machine_states.specs.World.{is_join}
use Rattle.machine_states.specs.Sight.{Sight, sight_after}
use Rattle.machine_states.proofs.Sights.{some_none}
use Rattle.machine_blocks.specs.machine_guards.specs.machine_agreement.specs.machine_epochs.specs.Slots.{thunk_in}
use Rattle.machine_blocks.specs.machine_guards.specs.machine_agreement.specs.machine_epochs.specs.Chunks as slots
use Rattle.machine_blocks.specs.machine_guards.specs.machine_agreement.specs.machine_epochs.proofs.Joining.{thunk_same}
use Rattle.machine_blocks.specs.machine_guards.specs.machine_agreement.specs.machine_epochs.proofs.OutsideAsked.{private_store_cases}
use Rattle.machine_blocks.specs.machine_guards.specs.machine_agreement.specs.Chunks as chunks
use Rattle.machine_blocks.specs.machine_guards.specs.machine_agreement.proofs.LineAsked.{inside_asked}
use Rattle.machine_invariant.specs.Whole.{Beside, IsWhole}
use Rattle.machine_invariant.proofs.Asked.{asked_by}
use Rattle.machine_invariant.proofs.Parts.{is_making, is_release, is_other}
use Rattle.machine_invariant.proofs.Runs.{passes_are, append_are}
use Rattle.machine_invariant.proofs.Quiet.{is_still, IsQuiet, quiet_whole}
use Rattle.machine_invariant.proofs.Thunks.{inside_leaves, outside_leaves, other_thunk, block_leaves}
use Rattle.machine_invariant.proofs.Sights.{inside_quiet, outside_quiet, join_quiet, thunks_after}
use Rattle.machine_invariant.proofs.Chunked.{AreCalm, AreSteady, is_plain_line, inside_calm, inside_steady}
use Rattle.machine_invariant.proofs.Chunked.{is_plain_outside, outside_calm, outside_steady, join_calm, join_steady}
use Rattle.machine_invariant.proofs.Outside.{outside_asked, outside_heads, outside_events}
use Rattle.machine_invariant.proofs.Jointly.{is_hold, is_reading, no_hold}
use Rattle.machine_invariant.proofs.Pieces.{Pieces, KeepsWhole, keeps_quietly}
use Rattle.machine_states.specs.table_words.specs.declared.access.Access.TheVariants.{Stores}

plain_making : (kind : EventKind) → is_plain_line kind ≡ true → is_making kind ≡ false
plain_making (kinds.PrivateLoad slot word) plain = absurd (cc)
plain_making kinds.MakeCommit plain = absurd (cc)
plain_making _ plain = refl

plain_release : (kind : EventKind) → is_plain_line kind ≡ true → is_release kind ≡ false
plain_release kinds.Release plain = absurd (cc)
plain_release _ plain = refl

plain_hold : (kind : EventKind) → is_plain_line kind ≡ true → is_hold kind ≡ false
plain_hold (kinds.Hold thunk d) plain = absurd (cc)
plain_hold _ plain = refl

outside_hold : (kind : EventKind) → is_plain_outside kind ≡ true → is_hold kind ≡ false
outside_hold (kinds.Hold thunk d) plain = absurd (cc)
outside_hold _ plain = refl

outside_apart : (kind : EventKind) → is_plain_outside kind ≡ true → is_reading kind ≡ false
outside_apart kinds.ReadReply plain = absurd (cc)
outside_apart kinds.ReadStamp plain = absurd (cc)
outside_apart _ plain = refl

plain_join : (kind : EventKind) → is_plain_outside kind ≡ true → is_join kind ≡ false
plain_join (kinds.Join worker) plain = absurd (cc)
plain_join _ plain = refl

plain_other : (kind : EventKind) → is_plain_outside kind ≡ true → is_other kind ≡ true
plain_other kinds.EnterAgain plain = absurd (cc)
plain_other (kinds.LoadCell (Some place)) plain = absurd (cc)
plain_other (kinds.Hold thunk d) plain = absurd (cc)
plain_other _ plain = refl

module _ (m : Meaning) (laws : Laws m) (l : Layout) (limits : IsWithinLimits l) (g : Beside) (s s' : Sight) (whole : IsWhole m l g s)
    (r : ℕ) (kind : EventKind) (x : Spot × Access) (pieces : Pieces m l g s s' r kind x) where
  abbrev es : List agreement.Event
  es = pieces.heads ++ replicate pieces.passes (agreement.Pass r)

  -- the events of agreement and the checks that pass behind them
  calm_heads : AreCalm pieces.heads → AreCalm es
  calm_heads calm = record {
    still = append_are is_still pieces.heads (replicate pieces.passes (agreement.Pass r)) calm.still
        (passes_are is_still (agreement.Pass r) refl pieces.passes);
  }

  pub calm_whole : AreCalm pieces.heads → AreSteady pieces.events → IsQuiet m l s s'
      → ((d : ℕ) → g.agreement.used d ≡ true → thunk_in s'.word d ≡ thunk_in s.word d) → is_hold kind ≡ false → is_reading kind ≡ false
      → KeepsWhole m l g s s' r kind x pieces
  calm_whole calm steady quiet thunks other apart =
      keeps_quietly m l g s s' r kind x pieces (no_hold m l kind (s.word x.0) other) apart
      (quiet_whole m laws l limits g s s' whole quiet thunks es (calm_heads calm).still pieces.enabled pieces.joined
      pieces.events steady.alone steady.leaves pieces.enabled_slots pieces.joined_slots pieces.logs)

module _ (m : Meaning) (laws : Laws m) (l : Layout) (limits : IsWithinLimits l) (rs : List Request) (g : Beside) (s : Sight)
    (whole : IsWhole m l g s) (r : ℕ) (x : Spot × Access) where
  abbrev p : PartState
  p = s.part r

  -- in a run nobody writes a word of a read
  inside_apart : (kind : EventKind) (q : RunState) → inside_ask m l kind p.nodes.free p.blocks.free q ≡ Some x → is_reading kind ≡ false
  inside_apart kinds.ReadReply q e = by (is_open_run q) e
    where
      by : (b : Bool) → (if b then line_ask m l kinds.ReadReply p.nodes.free p.blocks.free q (next_of m q) else opening_ask kinds.ReadReply q) ≡ Some x → true ≡ false
      by true e = some_none x e
      by false e = some_none x e
  inside_apart kinds.ReadStamp q e = by (is_open_run q) e
    where
      by : (b : Bool) → (if b then line_ask m l kinds.ReadStamp p.nodes.free p.blocks.free q (next_of m q) else opening_ask kinds.ReadStamp q) ≡ Some x → true ≡ false
      by true e = some_none x e
      by false e = some_none x e
  inside_apart _ q e = refl

  -- a step of a run that takes and commits no slot and no Retire, and is no release
  pub plain_whole : (kind : EventKind) → asks m l rs r kind p ≡ Some x → (q : RunState) → p.run ≡ Some q → is_join kind ≡ false
      → is_plain_line kind ≡ true
      → (pieces : Pieces m l g s (sight_after m l s r kind x) r kind x) → KeepsWhole m l g s (sight_after m l s r kind x) r kind x pieces
  plain_whole kind asked q is j plain pieces = calm_whole m laws l limits g s (sight_after m l s r kind x) whole r kind x pieces
      (inside_calm m l g.agreement r kind p q (s.word x.0) pieces.heads (is_open_run q) plain
      (subst (λ o. chunks.IsChunk m l g.agreement r kind p o (s.word x.0) pieces.heads) is pieces.in_sections))
      (inside_steady m l g.agreement r kind p q (s.word x.0) pieces.events (is_open_run q) plain
      (subst (λ o. slots.IsChunk m l r kind p o (s.word x.0) pieces.events) is pieces.in_slots))
      (inside_quiet m l s r kind x q is j (plain_making kind plain) (plain_release kind plain))
      (λ d used. thunks_after m l s r kind x (inside_leaves m l q x kind p.nodes.free p.blocks.free (inside_asked m l rs r kind p q x asked is)) d)
      (plain_hold kind plain) (inside_apart kind q (inside_asked m l rs r kind p q x asked is))

  unused_apart : (d d0 : ℕ) → g.agreement.used d ≡ true → g.agreement.used d0 ≡ false → d ≢ d0
  unused_apart d d0 used unused same = let clash = sym used ∙ (ap g.agreement.used same ∙ unused) in cc

  -- a private store to a word of an own free descriptor leaves the others' thunks, and one to a word of a block all
  store_thunks : (slot word number : ℕ) → private_store_ask m l slot word number p ≡ Some x
      → (nat_lt slot (blocks_from m l) ≡ true → g.agreement.used (slot - slot_count l m.fixed_slots) ≡ false)
      → (d : ℕ) → g.agreement.used d ≡ true → thunk_in (sight_after m l s r (kinds.PrivateStore slot word number) x).word d
      ≡ thunk_in s.word d
  store_thunks slot word number e inside d used = thunk_same (put s.word x.0 (written x.1 (s.word x.0))) s.word d (λ j. ⊎_elim
      (λ own. subst (λ (y : Spot × Access). put s.word y.0 (written y.1 (s.word y.0)) (ThunkWord d j) ≡ s.word (ThunkWord d j)) own.2
      (other_thunk s.word (slot - slot_count l m.fixed_slots) word number d j
      (unused_apart d (slot - slot_count l m.fixed_slots) used (inside own.0))))
      (λ block. subst (λ (y : Spot × Access). put s.word y.0 (written y.1 (s.word y.0)) (ThunkWord d j) ≡ s.word (ThunkWord d j)) block.1
      ((block_leaves (slot - blocks_from m l) word (Stores number)).same s.word d j))
      (private_store_cases m l slot word number p x e))

  outside_thunks : (kind : EventKind) → outside_ask m l rs r kind p ≡ Some x → (heads : List agreement.Event)
      → chunks.IsOutsideChunk m l g.agreement r kind p (s.word x.0) heads
      → (d : ℕ) → g.agreement.used d ≡ true → thunk_in (sight_after m l s r kind x).word d ≡ thunk_in s.word d
  outside_thunks (kinds.PrivateStore slot word number) e heads chunk d used = store_thunks slot word number e chunk.0 d used
  outside_thunks kind e heads chunk d used = thunks_after m l s r kind x (outside_leaves m l rs r p x kind refl e) d

  -- a step outside a run by which nobody enters, leaves, reads a cell, publishes or goes on with a sweep
  pub outside_whole : (kind : EventKind) → asks m l rs r kind p ≡ Some x → p.run ≡ None → is_plain_outside kind ≡ true
      → (pieces : Pieces m l g s (sight_after m l s r kind x) r kind x) → KeepsWhole m l g s (sight_after m l s r kind x) r kind x pieces
  outside_whole kind asked none plain pieces =
      let chunk = outside_heads m l rs g s (sight_after m l s r kind x) r kind x none pieces in
      calm_whole m laws l limits g s (sight_after m l s r kind x) whole r kind x pieces
      (outside_calm m l g.agreement r kind p (s.word x.0) pieces.heads plain chunk)
      (outside_steady m l g.agreement r kind p (s.word x.0) pieces.events plain
      (outside_events m l rs g s (sight_after m l s r kind x) r kind x none pieces))
      (outside_quiet m l s r kind x none (plain_join kind plain) (plain_other kind plain))
      (outside_thunks kind (outside_asked m l rs g s (sight_after m l s r kind x) r kind x none asked) pieces.heads chunk)
      (outside_hold kind plain) (outside_apart kind plain)

  -- a join, by which the worker makes no further step and the keeper learns what it knew
  pub join_whole : (worker : ℕ) → asks m l rs r (kinds.Join worker) p ≡ Some x
      → (pieces : Pieces m l g s (sight_after m l s r (kinds.Join worker) x) r (kinds.Join worker) x)
      → KeepsWhole m l g s (sight_after m l s r (kinds.Join worker) x) r (kinds.Join worker) x pieces
  join_whole worker asked pieces = by p.run refl
    where
      by : (o : Option RunState) → p.run ≡ o → KeepsWhole m l g s (sight_after m l s r (kinds.Join worker) x) r (kinds.Join worker) x pieces
      by None none = calm_whole m laws l limits g s (sight_after m l s r (kinds.Join worker) x) whole r (kinds.Join worker) x pieces
          (join_calm m l g.agreement r worker p p.run (s.word x.0) pieces.heads pieces.in_sections)
          (join_steady m l g.agreement r worker p p.run (s.word x.0) pieces.events pieces.in_slots)
          (join_quiet m l s r worker x none)
          (λ d used. thunks_after m l s r (kinds.Join worker) x
          (outside_leaves m l rs r p x (kinds.Join worker) refl
          (outside_asked m l rs g s (sight_after m l s r (kinds.Join worker) x) r (kinds.Join worker) x none asked)) d)
          refl refl
      by (Some q) is = no_join (is_open_run q) (asked_by m l r (kinds.Join worker) p rs x (Some q) is asked)
        where
          no_join : (b : Bool)
              → (if b then line_ask m l (kinds.Join worker) p.nodes.free p.blocks.free q (next_of m q) else opening_ask (kinds.Join worker) q) ≡ Some x
              → KeepsWhole m l g s (sight_after m l s r (kinds.Join worker) x) r (kinds.Join worker) x pieces
          no_join true e = some_none x e
          no_join false e = some_none x e
