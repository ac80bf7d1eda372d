-- The words that a step of the machine leaves as they are.
use Rattle.std.specs.Prelude.{◌-◌, true, false}
use Rattle.std.proofs.Common.{◌≡◌, ◌≢◌, ℕ, ◌<◌, List, refl, sym, ap, ◌∙◌, subst, ⊎_elim, arith, Option, Some, None}
use Rattle.machine_states.specs.map_history.specs.declared.op.Request.{Request}
use Rattle.machine_states.specs.table_words.specs.declared.layout.Layout.{Layout}
use Rattle.machine_states.specs.table_words.specs.declared.spot.Spot.{Spot}
use Rattle.machine_states.specs.table_words.specs.declared.spot.Spot.TheVariants.{ThunkWord, DoneWord, LogWord}
use Rattle.machine_states.specs.table_words.specs.declared.access.Access.{Access}
use Rattle.machine_states.specs.table_words.specs.Access.{written}
use Rattle.machine_states.specs.table_words.specs.Places.{slot_count, part_words}
use Rattle.machine_states.specs.table_words.specs.Seen.{put}
use Rattle.machine_states.specs.structure_laws.specs.Meaning.{Meaning}
use Rattle.machine_states.specs.runner_parts.specs.declared.event.EventKind.{EventKind}
use Rattle.machine_states.specs.runner_parts.specs.declared.event.EventKind.TheVariants as kinds
use Rattle.machine_states.specs.runner_parts.specs.State.{RunState, PartState}
use Rattle.machine_states.specs.runner_steps.specs.Asks.{outside_ask}
use Rattle.agreement_core.specs.Events as agreement
use Rattle.machine_states.specs.Sight.{Sight, Steps}
use Rattle.machine_states.proofs.Steps.{some_same}
use Rattle.machine_states.specs.runner_steps.specs.Outside.{blocks_from}
use Rattle.machine_invariant.specs.machine_blocks.specs.machine_guards.specs.machine_agreement.specs.machine_epochs.proofs.OutsideAsked.{private_store_cases}
use Rattle.machine_invariant.specs.machine_blocks.specs.machine_guards.specs.machine_agreement.proofs.Words.{block_same}
use Rattle.machine_invariant.specs.machine_blocks.specs.machine_guards.specs.machine_agreement.specs.machine_scenes.specs.Shown.{rules_of}
use Rattle.machine_invariant.specs.machine_blocks.specs.machine_guards.specs.machine_agreement.specs.Chunks as sections
use Rattle.machine_invariant.specs.machine_blocks.specs.machine_guards.specs.machine_agreement.specs.Joined.{IsJoinedToAgreement}
use Rattle.machine_invariant.specs.Along.{Components, components_after, AreEventsOf, AreExact}
use Rattle.machine_invariant.proofs.Asked.{asked_by}
use Rattle.machine_invariant.proofs.Thunks.{inside_leaves, outside_leaves, other_thunk}
use Rattle.machine_facts.specs.Steps.{WordsStand}
use Rattle.machine_facts.specs.States.{NumberAlike}
use Rattle.machine_facts.proofs.Agreement.{entries_all}
use Rattle.machine_facts.proofs.Going.{goes}
use Rattle.machine_invariant.specs.machine_blocks.specs.Stands.{LogsHold}
use Rattle.std.proofs.lemmas.Bool.{cases_lt}

some_of : (n : ℕ) → n ≢ 0 → 0 < n
some_of n ne = grind arith

module _ (m : Meaning) (l : Layout) (rs : List Request) (k : Components) (s s' : Sight) (joined : IsJoinedToAgreement m l k.agreement s)
    (exact : AreExact m l k) (alike : NumberAlike k) (r : ℕ) (kind : EventKind) (step : Steps m l rs s s' r kind)
    (es : List agreement.Event) (vs : List _) (are : AreEventsOf m l rs k s r kind es vs)
    (joined' : IsJoinedToAgreement m l (components_after m l k es vs).agreement s')
    (logs : LogsHold m l k.agreement k.epochs s) (logs' : LogsHold m l (components_after m l k es vs).agreement (components_after m l k es vs).epochs s') where
  abbrev j : Components
  j = components_after m l k es vs

  abbrev p : PartState
  p = s.part r

  -- only a private store changes the thunk words of a descriptor, and then it isn't used
  thunk_stands : (d i : ℕ) → k.agreement.used d ≡ true → s'.word (ThunkWord d i) ≡ s.word (ThunkWord d i)
  thunk_stands d i used = ap (λ (t : Sight). t.word (ThunkWord d i)) step.next ∙ by p.run refl
    where
      asked_same : step.ask ≡ are.ask
      asked_same = some_same _ _ (sym step.asked ∙ are.asked)

      after : Spot × Access → ℕ
      after x = put s.word x.0 (written x.1 (s.word x.0)) (ThunkWord d i)

      apart : (d0 : ℕ) → k.agreement.used d0 ≡ false → d ≢ d0
      apart d0 unused same = let clash = sym used ∙ (ap k.agreement.used same ∙ unused) in cc

      outside : (kind : EventKind) → outside_ask m l rs r kind p ≡ Some step.ask
          → sections.IsOutsideChunk m l k.agreement r kind p (s.word are.ask.0) are.heads
          → after step.ask ≡ s.word (ThunkWord d i)
      outside (kinds.PrivateStore slot word number) e chunk =
          let is = λ (y : Spot × Access). after y ≡ s.word (ThunkWord d i) in
          ⊎_elim
          (λ own. subst is own.2 (other_thunk s.word (slot - slot_count l m.fixed_slots) word number d i (apart _ (chunk.0 own.0))))
          (λ block. subst is block.1 ((block_same s.word number (slot - blocks_from m l) word).thunks d i))
          (private_store_cases m l slot word number p step.ask e)
      outside kind e chunk = (outside_leaves m l rs r p step.ask kind refl e).same s.word d i

      by : (run : Option RunState) → p.run ≡ run → after step.ask ≡ s.word (ThunkWord d i)
      by None is = outside kind (asked_by m l r kind p rs step.ask None is step.asked)
          (subst (λ (o : Option RunState). sections.IsChunk m l k.agreement r kind p o (s.word are.ask.0) are.heads) is are.in_sections)
      by (Some q) is = (inside_leaves m l q step.ask kind p.nodes.free p.blocks.free (asked_by m l r kind p rs step.ask (Some q) is step.asked)).same s.word d i

  log_stands : (d i : ℕ) → k.agreement.used d ≡ true → s.word (LogWord d i) ≢ 0 → s'.word (LogWord d i) ≡ s.word (LogWord d i)
  log_stands d i used some =
      ⊎_elim
      (λ low. let old = logs.stands.own d i low in
      logs'.stands.own d i low ∙ ⊎_elim
      (λ lasts. lasts.goes.log i (subst (λ n. 0 < n) old (some_of _ some)))
      (λ same. ap (λ x. x.log i) same)
      (goes m l rs k s joined exact alike r kind es vs are d used) ∙ sym old)
      (λ high. absurd (some (logs.beyond d i high)))
      (cases_lt i part_words)

  done_stands : (d : ℕ) → k.agreement.used d ≡ true → s.word (DoneWord d) ≢ 0 → s'.word (DoneWord d) ≡ s.word (DoneWord d)
  done_stands d used some =
      let old = (joined.sections d).done in
      let new = (joined'.sections d).done in
      sym new ∙ ⊎_elim
      (λ lasts. lasts.goes.done (λ z. some (sym old ∙ z)))
      (λ same. ap (λ x. x.done) same)
      (goes m l rs k s joined exact alike r kind es vs are d used) ∙ old

  whole_stands : (d i : ℕ) → k.agreement.used d ≡ true → s.word (DoneWord d) ≢ 0 → s'.word (LogWord d i) ≡ s.word (LogWord d i)
  whole_stands d i used some =
      ⊎_elim
      (λ low. logs'.stands.own d i low ∙ ⊎_elim
      (λ lasts. lasts.log (λ z. some (sym ((joined.sections d).done) ∙ z)) i)
      (λ same. ap (λ x. x.log i) same)
      (goes m l rs k s joined exact alike r kind es vs are d used) ∙ sym (logs.stands.own d i low))
      (λ high. logs'.beyond d i high ∙ sym (logs.beyond d i high))
      (cases_lt i part_words)

  pub words_stand : WordsStand k.agreement.used s.word s'.word
  words_stand =
      let entries = entries_all (rules_of m l) k.agreement es in
      record {
        stamp = λ q some. sym (joined'.words.stamp q) ∙ entries.stamp q (subst (λ n. 0 < n) (sym (joined.words.stamp q)) (some_of _ some))
            ∙ joined.words.stamp q;
        reply = λ q some. sym (joined'.words.reply q) ∙ entries.reply q (subst (λ n. 0 < n) (sym (joined.words.reply q)) (some_of _ some))
            ∙ joined.words.reply q;
        thunk = thunk_stands;
        log = log_stands;
        done = done_stands;
        whole = whole_stands;
      }
