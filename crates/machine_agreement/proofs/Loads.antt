-- The loads and the commits of a run's line, each kind of step joined.
use Rattle.std.specs.Prelude.{true, false}
use Rattle.std.proofs.Common.{◌≡◌, ℕ, suc, ◌+◌, List, [], ◌∷◌, ◌++◌, refl, ap, subst, arith, inl, inr, ⊎_elim, Some, None, ◌∙◌, sym}
use Rattle.machine_states.specs.map_history.specs.declared.op.Request.{Request}
use Rattle.machine_states.specs.body_terms.specs.declared.micro.Micro.{Micro}
use Rattle.machine_states.specs.body_terms.specs.declared.micro.Micro.TheVariants as micros
use Rattle.machine_states.specs.body_terms.specs.Line.{is_event}
use Rattle.machine_states.specs.body_terms.specs.Run.{written_once}
use Rattle.machine_states.specs.table_words.specs.declared.layout.Layout.{Layout}
use Rattle.machine_states.specs.table_words.specs.declared.spot.Spot.{Spot}
use Rattle.machine_states.specs.table_words.specs.declared.spot.Spot.TheVariants as spots
use Rattle.machine_states.specs.table_words.specs.declared.access.Access.{Access}
use Rattle.machine_states.specs.structure_laws.specs.Meaning.{Meaning}
use Rattle.machine_states.specs.runner_parts.specs.declared.event.EventKind.{EventKind}
use Rattle.machine_states.specs.runner_parts.specs.declared.event.EventKind.TheVariants as kinds
use Rattle.machine_states.specs.runner_parts.specs.State.{RunState, PartState}
use Rattle.machine_states.specs.runner_steps.specs.Sections.{is_open_run, next_of, commits_to, needs_link}
use Rattle.machine_states.specs.runner_steps.specs.Asks.{asks}
use Rattle.machine_states.specs.runner_steps.specs.After.{line_after}
use Rattle.machine_states.specs.body_terms.specs.block_words.specs.Blocks.{log_spot}
use Rattle.machine_states.specs.runner_steps.specs.AfterInRun.{make_committed}
use Rattle.agreement_core.specs.State.{AgreementState, section_of}
use Rattle.agreement_core.specs.Events as events
use Rattle.agreement_core.specs.Events.{IsBefore, IsAlone}
use Rattle.machine_states.specs.Sight.{Sight, sight_after}
use Rattle.machine_epochs.proofs.RunPlaces.{is_of_end}
use Rattle.machine_agreement.specs.Joined.{IsJoinedToAgreement}
use Rattle.machine_agreement.proofs.RunPlaces as places
use Rattle.machine_agreement.proofs.LineAsked as asked
use Rattle.machine_agreement.specs.Chunks.{IsLineChunk}
use Rattle.machine_agreement.specs.Goes.{Goes}
use Rattle.machine_agreement.proofs.LineKinds.{load_goes, number_goes, commit_goes, all}
use Rattle.machine_states.specs.table_words.specs.declared.access.Access.TheVariants.{Exchanges}

module _ (m : Meaning) (l : Layout) (rs : List Request) (w : AgreementState) (s : Sight) (old : IsJoinedToAgreement m l w s) (r : ℕ) (q : RunState) (is : (s.part r).run ≡ Some q) (opened : is_open_run q ≡ true) where
  -- the step leads to a joined state, by the events of its kind
  abbrev After : EventKind → Spot × Access → Type 0
  After kind x = (heads : List events.Event) × IsLineChunk m l w r kind (s.part r) q (s.word x.0) heads × Goes m l r heads w (sight_after m l s r kind x)

  before : (micro : Micro) → is_of_end micro ≡ false → is_event micro ≡ true → next_of m q ≡ micro → IsBefore w r micro
  before micro inner event next = places.before m l w s old r q is (all m l rs w s old r q is opened) micro inner event next

  pub load_cell : (x : Spot × Access) → asks m l rs r (kinds.LoadCell None) (s.part r) ≡ Some x
      → ((p k : ℕ) → next_of m q ≡ micros.LoadCell p k → (w.run r).at ≡ (section_of w r).edge → (section_of w r).done ≡ 0 → IsAlone w ((w.run r).descriptor) p) → After (kinds.LoadCell None) x
  load_cell x e alone =
      let h = asked.load_cell_asked q x (next_of m q) (asked.line_asked m l rs r (kinds.LoadCell None) (s.part r) q x e is opened) in
      subst (After (kinds.LoadCell None)) h.3 (
        events.LoadCell r h.0 h.1 ∷ [],
        (h.0, h.1, h.2, refl),
        load_goes m l rs w s old r q is opened (kinds.LoadCell None) h.0 (micros.LoadCell h.0 h.1) (events.LoadCell r h.0 h.1) h.2 refl refl refl
            (before (micros.LoadCell h.0 h.1) refl refl h.2, alone h.0 h.1 h.2) (record { run = refl; published = refl; finished = refl }) refl,
      )

  pub nested_load : (x : Spot × Access) → asks m l rs r kinds.NestedLoad (s.part r) ≡ Some x → After kinds.NestedLoad x
  nested_load x e =
      let h = asked.nested_load_asked q x (next_of m q) (asked.line_asked m l rs r kinds.NestedLoad (s.part r) q x e is opened) in
      subst (After kinds.NestedLoad) h.3 (
        events.NestedLoad r h.0 h.1 ∷ [],
        (h.0, h.1, h.2, refl),
        load_goes m l rs w s old r q is opened kinds.NestedLoad h.0 (micros.NestedLoad h.0 h.1) (events.NestedLoad r h.0 h.1) h.2 refl refl refl
            (before (micros.NestedLoad h.0 h.1) refl refl h.2) (record { run = refl; published = refl; finished = refl }) refl,
      )

  pub outcome_load : (x : Spot × Access) → asks m l rs r kinds.OutcomeLoad (s.part r) ≡ Some x → After kinds.OutcomeLoad x
  outcome_load x e =
      let h = asked.outcome_load_asked q x (next_of m q) (asked.line_asked m l rs r kinds.OutcomeLoad (s.part r) q x e is opened) in
      subst (After kinds.OutcomeLoad) h.3 (
        events.OutcomeLoad r h.0 h.1 ∷ [],
        (h.0, h.1, h.2, refl),
        load_goes m l rs w s old r q is opened kinds.OutcomeLoad h.0 (micros.OutcomeLoad h.0 h.1) (events.OutcomeLoad r h.0 h.1) h.2 refl refl refl
            (before (micros.OutcomeLoad h.0 h.1) refl refl h.2) (record { run = refl; published = refl; finished = refl }) refl,
      )

  pub clock_load : (x : Spot × Access) → asks m l rs r kinds.ClockLoad (s.part r) ≡ Some x → After kinds.ClockLoad x
  clock_load x e =
      let h = asked.clock_load_asked q x (next_of m q) (asked.line_asked m l rs r kinds.ClockLoad (s.part r) q x e is opened) in
      subst (After kinds.ClockLoad) h.1 (
        events.ClockLoad r ∷ [],
        (h.0, refl),
        number_goes m l rs w s old r q is opened kinds.ClockLoad spots.Clock micros.ClockLoad (events.ClockLoad r) h.0 refl refl w.shared.clock refl old.words.clock
            (before micros.ClockLoad refl refl h.0) (record { run = refl; published = refl; finished = refl }) refl,
      )

  pub epoch_load : (x : Spot × Access) → asks m l rs r kinds.EpochForRetire (s.part r) ≡ Some x → After kinds.EpochForRetire x
  epoch_load x e =
      let h = asked.epoch_asked q x (next_of m q) (asked.line_asked m l rs r kinds.EpochForRetire (s.part r) q x e is opened) in
      subst (After kinds.EpochForRetire) h.3 (
        events.EpochForRetire r h.0 h.1 (s.word spots.Epoch) ∷ [],
        (h.0, h.1, h.2, refl),
        number_goes m l rs w s old r q is opened kinds.EpochForRetire spots.Epoch (micros.EpochForRetire h.0 h.1) (events.EpochForRetire r h.0 h.1 (s.word spots.Epoch)) h.2 refl refl (s.word spots.Epoch) refl refl
            (before (micros.EpochForRetire h.0 h.1) refl refl h.2) (record { run = refl; published = refl; finished = refl }) refl,
      )

  own_word : (w.run r).word ≡ q.word
  own_word = (places.run_here m l w s old r q is).word

  -- a commit on this word finds what the section's log has there
  abbrev FindsLog : Spot × Access → Type 0
  FindsLog x = (k : ℕ) → commits_to (next_of m q) ≡ Some k → needs_link q (next_of m q) ≡ false → (w.section q.descriptor).log k ≡ s.word x.0

  logged_at : (x : Spot × Access) (micro : Micro) (k number : ℕ) → FindsLog x → next_of m q ≡ micro → commits_to micro ≡ Some k → needs_link q micro ≡ false → (log_spot q.descriptor q.links k, Exchanges 0 number) ≡ x
      → (w.section q.descriptor).log k ≡ s.word (log_spot q.descriptor q.links k)
  logged_at x micro k number finds next there linked is_word = finds k (ap commits_to next ∙ there) (ap (needs_link q) next ∙ linked) ∙ ap (λ (y : Spot × Access). s.word y.0) (sym is_word)

  pub commit : (x : Spot × Access) → FindsLog x → asks m l rs r kinds.Commit (s.part r) ≡ Some x → After kinds.Commit x
  commit x finds e =
      let h = asked.commit_asked q x (next_of m q) (asked.line_asked m l rs r kinds.Commit (s.part r) q x e is opened) in
      subst (After kinds.Commit) h.4 (⊎_elim
      (λ word. (
        events.Commit r h.0 h.1 ∷ [],
        (h.0, h.1, inl (word, refl)),
        commit_goes m l rs w s old r q is opened kinds.Commit h.1 ((w.run r).word) q.word (micros.Commit h.0 h.1) (events.Commit r h.0 h.1) word refl refl refl own_word
            (logged_at x (micros.Commit h.0 h.1) h.1 q.word finds word refl h.3 h.4)
            (before (micros.Commit h.0 h.1) refl refl word)
            (record q { at = q.at + 1; trail = q.trail ++ written_once (s.word (log_spot q.descriptor q.links h.1)) q.word ∷ [] }) refl refl refl refl refl refl (record { run = refl; published = refl; finished = refl }) refl,
      ))
      (λ lock. (
        events.NestedCommit r h.0 h.1 ∷ [],
        (h.0, h.1, inr (lock, refl)),
        commit_goes m l rs w s old r q is opened kinds.Commit h.1 ((w.run r).word) q.word (micros.NestedCommit h.0 h.1) (events.NestedCommit r h.0 h.1) lock refl refl refl own_word
            (logged_at x (micros.NestedCommit h.0 h.1) h.1 q.word finds lock refl h.3 h.4)
            (before (micros.NestedCommit h.0 h.1) refl refl lock)
            (record q { at = q.at + 1; trail = q.trail ++ written_once (s.word (log_spot q.descriptor q.links h.1)) q.word ∷ [] }) refl refl refl refl refl refl (record { run = refl; published = refl; finished = refl }) refl,
      )) h.2)

  pub outcome_commit : (x : Spot × Access) → FindsLog x → asks m l rs r kinds.OutcomeCommit (s.part r) ≡ Some x → After kinds.OutcomeCommit x
  outcome_commit x finds e =
      let h = asked.outcome_commit_asked q x (next_of m q) (asked.line_asked m l rs r kinds.OutcomeCommit (s.part r) q x e is opened) in
      subst (After kinds.OutcomeCommit) h.4 (
        events.OutcomeCommit r h.0 h.1 ∷ [],
        (h.0, h.1, h.2, refl),
        commit_goes m l rs w s old r q is opened kinds.OutcomeCommit h.1 ((w.run r).word) q.word (micros.OutcomeCommit h.0 h.1) (events.OutcomeCommit r h.0 h.1) h.2 refl refl refl own_word
            (logged_at x (micros.OutcomeCommit h.0 h.1) h.1 q.word finds h.2 refl h.3 h.4)
            (before (micros.OutcomeCommit h.0 h.1) refl refl h.2)
            (record q { at = q.at + 1; trail = q.trail ++ written_once (s.word (log_spot q.descriptor q.links h.1)) q.word ∷ [] }) refl refl refl refl refl refl (record { run = refl; published = refl; finished = refl }) refl,
      )

  pub retire_commit : (x : Spot × Access) → FindsLog x → asks m l rs r kinds.RetireCommit (s.part r) ≡ Some x → After kinds.RetireCommit x
  retire_commit x finds e =
      let h = asked.retire_commit_asked q x (next_of m q) (asked.line_asked m l rs r kinds.RetireCommit (s.part r) q x e is opened) in
      subst (After kinds.RetireCommit) h.4 (
        events.RetireCommit r h.0 h.1 ∷ [],
        (h.0, h.1, h.2, refl),
        commit_goes m l rs w s old r q is opened kinds.RetireCommit h.1 (suc h.0) (h.0 + 1) (micros.RetireCommit h.0 h.1) (events.RetireCommit r h.0 h.1) h.2 refl refl refl (let e : suc h.0 ≡ h.0 + 1 = omega arith in e)
            (logged_at x (micros.RetireCommit h.0 h.1) h.1 (h.0 + 1) finds h.2 refl h.3 h.4)
            (before (micros.RetireCommit h.0 h.1) refl refl h.2)
            (record q { at = q.at + 1; trail = q.trail ++ written_once (s.word (log_spot q.descriptor q.links h.1)) (h.0 + 1) ∷ [] }) refl refl refl refl refl refl (record { run = refl; published = refl; finished = refl }) refl,
      )

  -- the part after a Make's commit of this slot
  make_after : (k slot found : ℕ) → q.made ≡ Some slot → line_after m l kinds.MakeCommit (s.part r) q (micros.MakeCommit k) found ≡ make_committed m l (s.part r) q (Some slot) found
  make_after k slot found made = ap (λ o. make_committed m l (s.part r) q o found) made

  pub make_commit : (x : Spot × Access) → FindsLog x → asks m l rs r kinds.MakeCommit (s.part r) ≡ Some x → After kinds.MakeCommit x
  make_commit x finds e =
      let h = asked.make_commit_asked q x (next_of m q) (asked.line_asked m l rs r kinds.MakeCommit (s.part r) q x e is opened) in
      let found = s.word (log_spot q.descriptor q.links h.0) in
      let next = make_after h.0 h.1 found h.3 in
      subst (After kinds.MakeCommit) h.5 (
        events.MakeCommit r h.0 (suc h.1) ∷ [],
        (h.0, h.1, h.2, h.3, refl),
        commit_goes m l rs w s old r q is opened kinds.MakeCommit h.0 (suc h.1) (h.1 + 1) (micros.MakeCommit h.0) (events.MakeCommit r h.0 (suc h.1)) h.2 refl refl refl (let e : suc h.1 ≡ h.1 + 1 = omega arith in e)
            (logged_at x (micros.MakeCommit h.0) h.0 (h.1 + 1) finds h.2 refl h.4 h.5)
            (before (micros.MakeCommit h.0) refl refl h.2, λ none. absurd (omega arith))
            (record q { made = None; worn = false; at = q.at + 1; trail = q.trail ++ written_once found (h.1 + 1) ∷ [] }) refl refl refl refl refl refl
            (record { run = ap (λ (p : PartState). p.run) next; published = ap (λ (p : PartState). p.published) next; finished = ap (λ (p : PartState). p.records.finished) next })
            (ap (λ (p : PartState). p.reads.cells) next),
      )
