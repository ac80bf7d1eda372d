-- Whoever is sure of a descriptor behind a step, somebody was before; or the step publishes a section there, with an
-- empty log.
use Rattle.std.specs.Prelude.{◌⊎◌, ◌==◌, ◌-◌, ◌&&◌, not, Bool, true, false, if◌then◌else◌}
use Rattle.std.proofs.Common.{◌≡◌, ℕ, suc, List, [], inl, inr, refl, sym, ap, ◌∙◌, subst, ⊎_elim, arith, Option, Some, None}
use Rattle.std.proofs.lemmas.Bool.{and_parts}
use Rattle.machine_states.specs.epoch_core.specs.small_lemmas.proofs.Numbers.{tested_some}
use Rattle.machine_states.specs.map_history.specs.declared.op.Request.{Request}
use Rattle.machine_states.specs.body_terms.specs.Word.{value_of, is_free}
use Rattle.machine_states.specs.body_terms.specs.declared.thunk.Thunk.{Thunk}
use Rattle.machine_states.specs.table_words.specs.declared.layout.Layout.{Layout}
use Rattle.machine_states.specs.table_words.specs.declared.spot.Spot.{Spot}
use Rattle.machine_states.specs.table_words.specs.declared.spot.Spot.TheVariants.{Cell, LogWord, LinkWord}
use Rattle.machine_states.specs.table_words.specs.declared.access.Access.{Access}
use Rattle.machine_states.specs.table_words.specs.Access.{written}
use Rattle.machine_states.specs.table_words.specs.Seen.{put}
use Rattle.machine_states.specs.structure_laws.specs.Meaning.{Meaning}
use Rattle.machine_states.specs.body_terms.specs.block_words.specs.Blocks.{log_in, HasBlocks}
use Rattle.machine_states.specs.body_terms.specs.block_words.proofs.Parts.{alone}
use Rattle.machine_states.specs.body_terms.specs.block_words.proofs.Reading.{read_log}
use Rattle.machine_states.specs.runner_parts.specs.declared.entries.Published.{Published}
use Rattle.machine_states.specs.runner_parts.specs.declared.event.EventKind.{EventKind}
use Rattle.machine_states.specs.runner_parts.specs.declared.event.EventKind.TheVariants as kinds
use Rattle.machine_states.specs.runner_parts.specs.Lists.{descriptor_taken, cell_read, published_seen}
use Rattle.machine_states.specs.runner_parts.specs.State.{RunState, GuardsState, PartState}
use Rattle.machine_states.specs.runner_steps.specs.AfterOutside.{published_by}
use Rattle.machine_states.specs.runner_steps.specs.Asks.{ask_by, outside_ask}
use Rattle.machine_states.specs.runner_steps.specs.After.{outside_after, after_by}
use Rattle.machine_states.specs.runner_steps.specs.Outside.{is_sure_of}
use Rattle.machine_states.specs.runner_steps.specs.Sections.{is_open_run}
use Rattle.machine_states.specs.Sight.{Sight}
use Rattle.machine_states.proofs.Sights.{unless_gone, joins}
use Rattle.machine_epochs.proofs.OutsideAsked.{named_is, hold_asked, read_asked}
use Rattle.machine_epochs.proofs.Prepared.{log_is, link_is}
use Rattle.runner_facts.specs.machine_facts.specs.machine_invariant.specs.Whole.{Beside, IsWhole}
use Rattle.runner_facts.specs.machine_facts.specs.machine_invariant.specs.machine_blocks.proofs.Seen.{inside_guards, quiet_guards}
use Rattle.runner_facts.specs.machine_facts.specs.machine_invariant.proofs.Keeping.{IsStep}
use Rattle.runner_facts.specs.machine_facts.specs.machine_invariant.proofs.LogSteps.{IsSure}
use Rattle.runner_facts.specs.next_steps.proofs.Parts.{each_part}
use Rattle.runner_facts.proofs.Names.{seen_sure, sure_unfree}
use Rattle.lock_words.proofs.Facts.{used_of}

-- a section is in a descriptor of which somebody is sure
pub sure_used : (m : Meaning) (l : Layout) (b : Beside) (s : Sight) (whole : IsWhole m l b s) (d : ℕ) → IsSure s d → b.agreement.used d ≡ true
sure_used m l b s whole d sure =
    let named = named_is (s.part sure.0).guards.named d (and_parts (s.part sure.0).guards.sure _ sure.1).1 in
    used_of m l b s whole d ((whole.slots.tied sure.0).numbered d named) (sure_unfree m l b s whole sure.0 d sure.1)

-- who has published a section is sure of it, and who runs one
pub published_sure : (m : Meaning) (l : Layout) (b : Beside) (s : Sight) (whole : IsWhole m l b s) (r d : ℕ) (y : Published) → (s.part r).published ≡ Some y → y.descriptor ≡ d → IsSure s d
published_sure m l b s whole r d y is at = (r, subst (λ e. is_sure_of (s.part r).guards e ≡ true) at ((whole.slots.tied r).published_sure y is))

pub run_sure : (m : Meaning) (l : Layout) (b : Beside) (s : Sight) (whole : IsWhole m l b s) (r d : ℕ) (q : RunState) → (s.part r).run ≡ Some q → q.descriptor ≡ d → IsSure s d
run_sure m l b s whole r d q runs of = (r, subst (λ e. is_sure_of (s.part r).guards e ≡ true) of ((whole.slots.tied r).run_sure q runs))

module _ (m : Meaning) (l : Layout) (rs : List Request) (s s' : Sight) (r : ℕ) (kind : EventKind) (st : IsStep m l rs s s' r kind) (d : ℕ) where
  abbrev p : PartState
  p = s.part r

  abbrev x : Spot × Access
  x = st.step.ask

  abbrev found : ℕ
  found = s.word x.0

  -- the step publishes a section in this descriptor
  abbrev pub Holds : Type 0
  Holds = (t : Thunk) × (outside_ask m l rs r (kinds.Hold t d) p ≡ Some x)

  -- then its log is empty behind it
  module _ (holds : Holds) where
    stays : (b : Spot) → ((n : ℕ) → put s.word (Cell holds.0.lock) n b ≡ s.word b) → s'.word b ≡ s.word b
    stays b same =
        let h = hold_asked m l rs r holds.0 d p x holds.1 in
        ap (λ (y : Sight). y.word b) st.step.next
        ∙ subst (λ (y : Spot × Access). put s.word y.0 (written y.1 (s.word y.0)) b ≡ s.word b) h.is (same _)

    begun : HasBlocks (λ k. 0) s'.word d []
    begun =
        let h = hold_asked m l rs r holds.0 d p x holds.1 in
        alone (λ k. 0) s'.word d (λ k. refl)
        (λ k low. stays (LogWord d k) (λ n. refl) ∙ log_is m l st.beside.epochs s st.whole.slots r holds.0 d h.free h.prepared k low)
        (stays (LinkWord d) (λ n. refl) ∙ link_is m l st.beside.epochs s st.whole.slots r holds.0 d h.free h.prepared)

    pub emptied : (k : ℕ) → log_in s'.word d k ≡ 0
    emptied k = read_log (λ i. 0) s'.word d [] begun k (omega arith)

  -- a lock's word was read: it names a live section, of which its publisher is sure
  module _ (place : ℕ) (here : s.word (Cell place) ≡ found) where
    reads : (lock free : Bool) → m.is_lock place ≡ lock → is_free found ≡ free
        → is_sure_of (if lock && not free then published_seen p.guards (value_of found - 1) else p.guards) d ≡ true → IsSure s d
    reads false free is is' sure = (r, sure)
    reads true true is is' sure = (r, sure)
    reads true false is is' sure = ⊎_elim (λ was. (r, was)) live (seen_sure p.guards (value_of found - 1) d sure)
      where
        live : value_of found - 1 ≡ d → IsSure s d
        live same =
            let some = tested_some (value_of found) is' in
            let value : value_of found ≡ suc d = omega (arith, some, same) in
            let named = st.whole.sections.sound.named place d is (ap value_of (st.whole.sections.words.cells place ∙ here) ∙ value) in
            let there = st.whole.tied.publisher d named in
            published_sure m l st.beside s st.whole (st.beside.publications.runner d) d there.0 there.1 there.2

  abbrev Was : PartState → Type 0
  Was p' = is_sure_of p'.guards d ≡ true → IsSure s d ⊎ Holds

  outside_was : (k : EventKind) → outside_ask m l rs r k p ≡ Some x → Was (outside_after m l k p found)
  outside_was (kinds.LoadCell (Some place)) e sure =
      inl (reads place (ap (λ (y : Spot × Access). s.word y.0) (read_asked m place p x e).2) (m.is_lock place) (is_free found) refl refl sure)
  outside_was (kinds.Hold t n) e sure = by (found == t.word) sure
    where
      by : (b : Bool) → is_sure_of (if b then record p {
        published = Some (published_by t n p);
        descriptors = descriptor_taken p.descriptors n;
        guards = published_seen p.guards n;
        reads = cell_read p.reads t.lock found;
      } else record p { reads = cell_read p.reads t.lock found }).guards d ≡ true → IsSure s d ⊎ Holds
      by true sure = ⊎_elim (λ was. inl (r, was))
          (λ same. inr (t, subst (λ i. outside_ask m l rs r (kinds.Hold t i) p ≡ Some x) same e)) (seen_sure p.guards n d sure)
      by false sure = inl (r, sure)
  outside_was kinds.EnterAgain e sure = inl (r, sure)
  outside_was kinds.Idle e sure = inl (r, sure)
  outside_was (kinds.LoadThunk (Some n)) e sure = inl (r, sure)
  outside_was (kinds.LoadGuard n) e sure = inl (r, sure)
  outside_was (kinds.Guard o) e sure = absurd (let z = sure in cc)
  outside_was k e sure = inl (r, sym (quiet_guards m l rs r p found x k refl e d) ∙ sure)

  own : (o : Option RunState) → ask_by m l rs r kind p o ≡ Some x → Was (after_by m l kind p o found)
  own None e sure = outside_was kind e sure
  own (Some q) e sure = inl (r, ap (λ (g : GuardsState). is_sure_of g d) (sym (inside_guards m l p q found kind (is_open_run q))) ∙ sure)

  pub sure_before : IsSure s' d → IsSure s d ⊎ Holds
  sure_before sure = subst (λ (y : Sight). Was (y.part sure.0)) (sym st.step.next)
      (each_part m l s r x (λ i p'. Was p') (λ i p' blocks board records gone h. h) kind (joins m l rs kind r p x st.step.asked)
      (own p.run (unless_gone _ p.gone _ x st.step.asked).1) (λ i ne sure. inl (i, sure)) sure.0) sure.1
