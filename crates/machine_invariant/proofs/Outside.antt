-- What the lemmas on steps outside runs have in common.
use Rattle.std.specs.Prelude.{Bool, false}
use Rattle.std.proofs.Common.{◌≡◌, ◌≢◌, ℕ, ◌+◌, List, sym, ap, ◌∙◌, subst, arith, Some, None}
use Rattle.machine_states.specs.map_history.specs.declared.op.Request.{Request}
use Rattle.machine_states.specs.table_words.specs.declared.layout.Layout.{Layout}
use Rattle.machine_states.specs.table_words.specs.declared.spot.Spot.{Spot}
use Rattle.machine_states.specs.table_words.specs.declared.access.Access.{Access}
use Rattle.machine_states.specs.table_words.specs.Limits.{IsWithinLimits}
use Rattle.machine_states.specs.table_words.specs.Seen.{upd}
use Rattle.machine_states.specs.structure_laws.specs.Scene.{Readings}
use Rattle.machine_states.specs.structure_laws.specs.Meaning.{Meaning}
use Rattle.machine_states.specs.structure_laws.specs.Laws.{Laws}
use Rattle.machine_states.specs.structure_laws.proofs.Changes.{upd_same, upd_other}
use Rattle.machine_states.specs.runner_parts.specs.declared.event.EventKind.{EventKind}
use Rattle.machine_states.specs.runner_parts.specs.State.{RunState, PartState}
use Rattle.machine_states.specs.runner_steps.specs.Asks.{asks, outside_ask}
use Rattle.machine_states.specs.runner_steps.specs.After.{after_by, after}
use Rattle.agreement_core.specs.Events as agreement
use Rattle.agreement_core.specs.Schedules as agreement_schedules
use Rattle.machine_states.specs.epoch_core.specs.declared.location.Location.{Location}
use Rattle.machine_states.specs.epoch_core.specs.State.{Counts, EpochState}
use Rattle.machine_states.specs.epoch_core.specs.Events.{slot_of}
use Rattle.machine_states.specs.World.{is_join}
use Rattle.machine_states.specs.Sight.{Sight, sight_after}
use Rattle.machine_states.proofs.Updates.{upd_split}
use Rattle.machine_blocks.specs.machine_guards.specs.machine_agreement.specs.machine_epochs.specs.Entries.{counts_of}
use Rattle.machine_blocks.specs.machine_guards.specs.machine_agreement.specs.machine_epochs.specs.Slots.{thunk_in}
use Rattle.machine_blocks.specs.machine_guards.specs.machine_agreement.specs.machine_epochs.specs.Joined as joins
use Rattle.machine_blocks.specs.machine_guards.specs.machine_agreement.specs.machine_epochs.specs.Chunks as slots
use Rattle.machine_blocks.specs.machine_guards.specs.machine_agreement.specs.machine_scenes.specs.Shown.{States, rules_of}
use Rattle.machine_blocks.specs.machine_guards.specs.machine_agreement.specs.Joined as sections
use Rattle.machine_blocks.specs.machine_guards.specs.machine_agreement.specs.Chunks as chunks
use Rattle.machine_invariant.specs.Whole.{Beside, states_of, made_in, made_of, HasPublished, AreTied, IsWhole}
use Rattle.machine_invariant.proofs.Asked.{asked_by}
use Rattle.machine_invariant.proofs.Runs.{AllAre, Stands, filled_other}
use Rattle.machine_invariant.proofs.Jointly.{IsWholeAfter}
use Rattle.machine_invariant.proofs.Ties.{tied_onward}
use Rattle.machine_invariant.proofs.Quiet.{is_still, all_still, in_run, with_walk}
use Rattle.machine_invariant.proofs.Parts.{outside_made}
use Rattle.machine_invariant.proofs.Sights.{after_is}
use Rattle.machine_invariant.proofs.Pieces.{Pieces}
use Rattle.machine_states.specs.body_terms.specs.declared.thunk.Thunk.{Thunk}
use Rattle.machine_blocks.specs.Stands.{LogsHold}

-- a descriptor's place, where one has changed
module _ (c : Counts) (f : ℕ → Location) (d n : ℕ) (v : Location) where
  pub place_here : n ≡ d → upd f (slot_of c d) v (slot_of c n) ≡ v
  place_here same = upd_same f (slot_of c d) (slot_of c n) v (ap (slot_of c) same)

  pub place_else : n ≢ d → upd f (slot_of c d) v (slot_of c n) ≡ f (slot_of c n)
  place_else ne = upd_other f (slot_of c d) (slot_of c n) v (λ e. ne (same_number c.nodes n d e))
    where
      same_number : (k n d : ℕ) → k + n ≡ k + d → n ≡ d
      same_number k n d e = omega arith

module _ (m : Meaning) (l : Layout) where
  -- outside a run a step's events and what it asks are those of its kind
  module _ (rs : List Request) (g : Beside) (s s' : Sight) (r : ℕ) (kind : EventKind) (x : Spot × Access)
      (none : (s.part r).run ≡ None) where
    pub outside_asked : asks m l rs r kind (s.part r) ≡ Some x → outside_ask m l rs r kind (s.part r) ≡ Some x
    outside_asked = asked_by m l r kind (s.part r) rs x None none

    pub outside_heads : (pieces : Pieces m l g s s' r kind x) → chunks.IsOutsideChunk m l g.agreement r kind (s.part r)
        (s.word x.0) pieces.heads
    outside_heads pieces = subst (λ o. chunks.IsChunk m l g.agreement r kind (s.part r) o (s.word x.0) pieces.heads) none pieces.in_sections

    pub outside_events : (pieces : Pieces m l g s s' r kind x) → slots.IsOutsideChunk m l r kind (s.part r) (s.word x.0) pieces.events
    outside_events pieces = subst (λ o. slots.IsChunk m l r kind (s.part r) o (s.word x.0) pieces.events) none pieces.in_slots

  -- a step outside a run begins none that is in a Make
  pub made_outside : (s : Sight) (r : ℕ) (kind : EventKind) (x : Spot × Access) → is_join kind ≡ false → (s.part r).run ≡ None
      → (i : ℕ) (q : RunState) → ((sight_after m l s r kind x).part i).run ≡ Some q → q.made ≡ made_of s i
  made_outside s r kind x j none i = subst (λ (s' : Sight). (q : RunState) → (s'.part i).run ≡ Some q → q.made ≡ made_of s i)
      (sym (after_is m l s r kind x j))
      (upd_split s.part r (after m l r kind x.0 x.1 (s.part r) (s.word x.0)) (λ i y. (q : RunState) → y.run ≡ Some q → q.made ≡ made_of s i)
      (λ q' e. (outside_made m l (s.part r) none (s.word x.0) kind).nothing q'
      (ap (λ o. (after_by m l kind (s.part r) o (s.word x.0)).run) (sym none) ∙ e)
      ∙ ap made_in (sym none))
      (λ i ne q is. ap made_in (sym is)) i)

  -- what was published stays so, where it is the same in the runner's part
  pub published_after : (part : ℕ → PartState) (r : ℕ) (p' : PartState) → p'.published ≡ (part r).published
      → (i d : ℕ) (t : Thunk) → HasPublished m l (part i) d t → HasPublished m l (upd part r p' i) d t
  published_after part r p' kept = upd_split part r p' (λ i y. (d : ℕ) (t : Thunk) → HasPublished m l (part i) d t → HasPublished m l y d t)
      (λ d t h. (h.0, kept ∙ h.1, h.2, h.3)) (λ i ne d t h. h)

module _ (m : Meaning) (laws : Laws m) (l : Layout) (limits : IsWithinLimits l) where
  abbrev c : Counts
  c = counts_of m l

  -- all parts together, where the joint states stand, with what the parts have read
  pub parts_whole : {from : States} (g' : Beside) (s s' : Sight) → sections.IsJoinedToAgreement m l g'.agreement s' → joins.IsJoinedToEpochs m l g'.epochs s'
      → AreTied m l g' s'
      → (walk : ℕ → Readings) → ((i : ℕ) → (s'.part i).reads.walk ≡ walk i)
      → ((i : ℕ) (q : RunState) → (s'.part i).run ≡ Some q → q.made ≡ made_of s i)
      → Stands m laws l limits from (record (states_of g' s') { walk = walk }) (made_of s)
      → LogsHold m l g'.agreement g'.epochs s' → IsWholeAfter m l from g' s'
  parts_whole g' s s' joined joined' tied walk same made stands logs =
      let new = with_walk m laws l limits (record (states_of g' s') { walk = walk }) (made_of s)
      (λ i. (s'.part i).reads.walk) same stands in
      record {
        passed = new.passed;
        whole = record {
          sections = joined;
          slots = joined';
          tied = tied;
          kept = new.kept;
          held = new.held;
          filled = filled_other m laws l limits (states_of g' s') (made_of s) (made_of s')
              (λ r running. let q = in_run m l g'.agreement s' joined r running in ap made_in q.1 ∙ made r q.0 q.1) new.filled;
          logs = logs;
        };
      }

  -- the same where no descriptor goes anywhere
  pub onward_whole : {from : States} (g : Beside) (s s' : Sight) → IsWhole m l g s
      → (es : List agreement.Event) → AllAre is_still es
      → sections.IsJoinedToAgreement m l (agreement_schedules.after_all (rules_of m l) g.agreement es) s'
      → (e' : EpochState) → joins.IsJoinedToEpochs m l e' s'
      → ((d : ℕ) → e'.location (slot_of c d) ≡ g.epochs.location (slot_of c d))
      → ((i d : ℕ) (t : Thunk) → HasPublished m l (s.part i) d t → HasPublished m l (s'.part i) d t)
      → ((d : ℕ) → thunk_in s'.word d ≡ thunk_in s.word d)
      → (walk : ℕ → Readings) → ((i : ℕ) → (s'.part i).reads.walk ≡ walk i)
      → ((i : ℕ) (q : RunState) → (s'.part i).run ≡ Some q → q.made ≡ made_of s i)
      → Stands m laws l limits from (record {
        agreement = agreement_schedules.after_all
            (rules_of m l) g.agreement es;
        epochs = e';
        publications = g.publications;
        walk = walk;
      }) (made_of s)
      → LogsHold m l (agreement_schedules.after_all (rules_of m l) g.agreement es) e' s'
      → IsWholeAfter m l from (record {
        agreement = agreement_schedules.after_all
            (rules_of m l) g.agreement es;
        epochs = e';
        publications = g.publications;
      }) s'
  onward_whole g s s' whole es still joined e' joined' places published thunks walk same made stands logs =
      let w = agreement_schedules.after_all (rules_of m l) g.agreement es in
      let uses = all_still (rules_of m l) g.agreement es still in
      parts_whole (record { agreement = w; epochs = e'; publications = g.publications }) s s' joined joined'
      (tied_onward m l g.agreement w g.epochs e' g.publications s s' whole.tied
      (λ d. ap (λ (f : ℕ → Bool). f d) uses.used) (λ d. ap (λ (f : ℕ → Bool). f d) uses.live) places published (λ d used. thunks d))
      walk same made stands logs
