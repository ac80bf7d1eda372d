-- How a lock's word changes: it becomes free, or it names a section that is being run or published.
use Rattle.std.specs.Prelude.{◌-◌, ◌==◌, cond, nat_lt, Bool, true, false, replicate, if◌then◌else◌}
use Rattle.std.proofs.Common.{◌≡◌, ℕ, suc, List, [], ◌∷◌, ◌++◌, refl, sym, ap, ◌∙◌, subst, inl, inr, ⊎_elim, arith, Option, Some, None, ◌+◌}
use Rattle.std.specs.Prelude.{◌⊎◌}
use Rattle.std.proofs.lemmas.Bool.{cases_eq}
use Rattle.machine_states.specs.body_terms.specs.Update.{upd}
use Rattle.machine_states.specs.body_terms.specs.Word.{value_of, next_word, held_word}
use Rattle.machine_states.specs.table_words.specs.declared.layout.Layout.{Layout}
use Rattle.machine_states.specs.table_words.specs.declared.spot.Spot.TheVariants.{Cell}
use Rattle.machine_states.specs.table_words.specs.Places.{slot_count, part_words}
use Rattle.machine_states.specs.map_history.specs.declared.op.Request.{Request}
use Rattle.machine_states.specs.structure_laws.specs.Meaning.{Meaning}
use Rattle.machine_states.specs.runner_parts.specs.declared.entries.Published.{Published}
use Rattle.machine_states.specs.runner_parts.specs.declared.event.EventKind.{EventKind}
use Rattle.machine_states.specs.runner_parts.specs.declared.event.EventKind.TheVariants as kinds
use Rattle.machine_states.specs.runner_parts.specs.State.{RunState, PartState}
use Rattle.machine_states.specs.runner_steps.specs.Outside.{blocks_from}
use Rattle.machine_states.specs.runner_steps.specs.Sections.{is_open_run}
use Rattle.agreement_core.specs.State.{CellRules, AgreementState, section_of}
use Rattle.agreement_core.specs.Checks.{exchanged}
use Rattle.agreement_core.specs.Events.{Event, Enabled, after}
use Rattle.agreement_core.specs.Events as agreement
use Rattle.agreement_core.specs.Schedules as agreement_schedules
use Rattle.agreement_core.specs.Sound.{UsedIsSound, IsSound}
use Rattle.agreement_core.proofs.Keeping as agreement_keeping
use Rattle.agreement_core.proofs.Committing.{upd_else}
use Rattle.agreement_core.proofs.Frame.{not_both}
use Rattle.agreement_core.proofs.Words.{value_next, value_held}
use Rattle.agreement_core.proofs.Lines.{exchange_unlocked}
use Rattle.machine_states.specs.Sight.{Sight}
use Rattle.machine_scenes.specs.Shown.{rules_of}
use Rattle.runner_facts.specs.machine_facts.specs.machine_agreement.specs.Chunks as sections
use Rattle.runner_facts.specs.machine_facts.specs.machine_agreement.specs.Joined.{IsJoinedToAgreement, ShowsRun}
use Rattle.runner_facts.specs.machine_facts.specs.machine_invariant.specs.Along.{Components, components_after, AreEventsOf}
use Rattle.runner_facts.specs.machine_facts.specs.machine_invariant.proofs.Runs.{AllAre, passes_are, append_are}
use Rattle.runner_facts.specs.machine_facts.proofs.Chunks.{swept_frees}

-- the word is as before, or free
abbrev pub IsFreer : ℕ → ℕ → Type 0
IsFreer old new = (new ≡ old) ⊎ (value_of new ≡ 0)

freer_on : (a b c : ℕ) → IsFreer a b → IsFreer b c → IsFreer a c
freer_on a b c one two = ⊎_elim (λ same. subst (IsFreer a) (sym same) one) (λ free. inr free) two

-- no publication, and no hold of a nested lock
abbrev pub is_unholding : Event → Bool
is_unholding (agreement.Publish d lock word request code slot) = false
is_unholding (agreement.NestedHold r place word) = false
is_unholding _ = true

-- one place of a changed function
upd_at : (f : ℕ → ℕ) (place p v : ℕ) → p ≡ place → upd f place v p ≡ v
upd_at f place p v e = subst (λ n. upd f place v n ≡ v) (sym e) (here place)
  where
    here : (n : ℕ) → upd f n v n ≡ v
    here n = by (n == n) (same n)
      where
        same : (n : ℕ) → (n == n) ≡ true
        same n = grind arith

        by : (b : Bool) → b ≡ true → cond b v (f n) ≡ v
        by true e = refl
        by false e = absurd (let z = e in cc)

-- what an exchange leaves is what it found, or its new word
exchange_or : (found old new : ℕ) → (exchanged found old new ≡ found) ⊎ (exchanged found old new ≡ new)
exchange_or found old new = by (found == old)
  where
    by : (b : Bool) → (cond b new found ≡ found) ⊎ (cond b new found ≡ new)
    by true = inr refl
    by false = inl refl

-- a place where such a word was put
put_or : (f : ℕ → ℕ) (place word p : ℕ) (P : ℕ → Type 0) → ((word ≡ f place) ⊎ P word) → (upd f place word p ≡ f p) ⊎ P (upd f place word p)
put_or f place word p P why = ⊎_elim
    (λ e. ⊎_elim
    (λ same. inl (upd_at f place p word e ∙ same ∙ ap f (sym e)))
    (λ is. inr (subst P (sym (upd_at f place p word e)) is))
    why)
    (λ ne. inl (upd_else f place p word ne))
    (cases_eq p place)

module _ (c : CellRules) where
  own_line : (w : AgreementState) → IsSound c w → (r : ℕ) → (w.run r).running ≡ true
      → UsedIsSound c w.shared (w.live ((w.run r).descriptor)) (w.over ((w.run r).descriptor)) ((w.run r).descriptor) (section_of w r)
  own_line w old r running = old.sections ((w.run r).descriptor) (old.running_used r running)

  one_frees : (w : AgreementState) (e : Event) → is_unholding e ≡ true → Enabled c w e → IsSound c w → (p : ℕ) → c.is_lock p ≡ true
      → IsFreer (w.shared.cells p) ((after w e).shared.cells p)
  one_frees w (agreement.Publish d lock word request code slot) is ok old p locked = absurd (let z = is in cc)
  one_frees w (agreement.NestedHold r place word) is ok old p locked = absurd (let z = is in cc)
  one_frees w (agreement.Release r place word) is ok old p locked =
      let held = held_word ((w.run r).descriptor) word in
      put_or w.shared.cells place (exchanged (w.shared.cells place) held (next_word held 0)) p (λ n. value_of n ≡ 0)
      (⊎_elim (λ same. inl same) (λ new. inr (ap value_of new ∙ value_next held 0 (omega arith))) (exchange_or (w.shared.cells place) held (next_word held 0)))
  one_frees w (agreement.PrivateStore r cell log value place word) is ok old p locked = ⊎_elim
      (λ e. inr (ap value_of (upd_at w.shared.cells place p word e) ∙ ok.1.free_after (ap c.is_lock (sym e) ∙ locked)))
      (λ ne. inl (upd_else w.shared.cells place p word ne))
      (cases_eq p place)
  one_frees w (agreement.ExchangeCell r place log value) is ok old p locked =
      let o = own_line w old r ok.running in
      let s = section_of w r in
      inl (upd_else w.shared.cells place p _
      (λ e. not_both _ locked (ap c.is_lock e ∙ exchange_unlocked c s.lock s.code s.slot o.published.line
      ((w.run r).at) place log value ok.next)))
  one_frees w e is ok old p locked = inl refl

  all_free : (w : AgreementState) (es : List Event) → agreement_schedules.AllEnabled c w es → IsSound c w → AllAre is_unholding es → (p : ℕ)
      → c.is_lock p ≡ true → IsFreer (w.shared.cells p) ((agreement_schedules.after_all c w es).shared.cells p)
  all_free w [] ok old are p locked = inl refl
  all_free w (e ∷ es) ok old are p locked =
      freer_on _ _ _ (one_frees w e are.0 ok.0 old p locked)
      (all_free (after w e) es ok.1 (agreement_keeping.keeps c w e ok.0 old) are.1 p locked)

  -- a hold of a nested lock: the word is as before, or names the run's section
  hold_names : (w : AgreementState) (r place word : ℕ) → Enabled c w (agreement.NestedHold r place word) → IsSound c w → (p : ℕ)
      → ((after w (agreement.NestedHold r place word)).shared.cells p ≡ w.shared.cells p)
      ⊎ (value_of ((after w (agreement.NestedHold r place word)).shared.cells p) ≡ suc ((w.run r).descriptor))
  hold_names w r place word ok old p =
      let d = (w.run r).descriptor in
      put_or w.shared.cells place (exchanged (w.shared.cells place) word (held_word d word)) p (λ n. value_of n ≡ suc d)
      (⊎_elim (λ same. inl same) (λ new. inr (ap value_of new ∙ value_held d word ((own_line w old r ok.running).published.link)))
      (exchange_or (w.shared.cells place) word (held_word d word)))

-- what a runner with this run may make of a lock's word
abbrev pub IsChanged : Option RunState → ℕ → ℕ → Type 0
IsChanged run old new = IsFreer old new ⊎ ((q : RunState) × (run ≡ Some q) × (value_of new ≡ suc q.descriptor))

module _ (m : Meaning) (l : Layout) (w : AgreementState) (r : ℕ) where
  abbrev Un : List Event → Type 0
  Un heads = AllAre is_unholding heads

  abbrev is_nested_hold : EventKind → Bool
  is_nested_hold kinds.NestedHold = true
  is_nested_hold _ = false

  -- the retirement of the own section holds nothing
  retires_un : (o : Option Published) (d : ℕ) → Un (sections.retires_own o d)
  retires_un None d = tt
  retires_un (Some x) d = by (x.descriptor == d)
    where
      by : (b : Bool) → Un (if b then agreement.RetireDescriptor d ∷ [] else [])
      by true = (refl, tt)
      by false = tt

  line_un : (kind : EventKind) → is_nested_hold kind ≡ false → (p : PartState) (q : RunState) (found : ℕ) (heads : List Event)
      → sections.IsLineChunk m l w r kind p q found heads → Un heads
  line_un kinds.Commit is p q found heads chunk =
      ⊎_elim (λ h. subst Un (sym h.1) (refl, tt)) (λ h. subst Un (sym h.1) (refl, tt)) chunk.2
  line_un (kinds.LoadCell None) is p q found heads chunk = subst Un (sym chunk.3) (refl, tt)
  line_un kinds.ExchangeCell is p q found heads chunk = subst Un (sym chunk.4) (refl, (refl, tt))
  line_un (kinds.PrivateLoad slot cell) is p q found heads chunk = subst Un (sym chunk.2) (refl, tt)
  line_un (kinds.PrivateStore slot cell number) is p q found heads chunk = ⊎_elim (λ link. subst Un (sym link.1) tt) (λ fills. subst Un (sym fills.4) (refl, tt)) chunk
  line_un kinds.MakeCommit is p q found heads chunk = subst Un (sym chunk.4) (refl, tt)
  line_un kinds.RetireCommit is p q found heads chunk = subst Un (sym chunk.3) (refl, tt)
  line_un kinds.EpochForRetire is p q found heads chunk = subst Un (sym chunk.3) (refl, tt)
  line_un kinds.NestedLoad is p q found heads chunk = subst Un (sym chunk.3) (refl, tt)
  line_un kinds.OutcomeLoad is p q found heads chunk = subst Un (sym chunk.3) (refl, tt)
  line_un kinds.ClockLoad is p q found heads chunk = subst Un (sym chunk.1) (refl, tt)
  line_un kinds.StampExchange is p q found heads chunk = subst Un (sym chunk.1) (refl, tt)
  line_un kinds.ClockRaise is p q found heads chunk = subst Un (sym chunk.1) (refl, tt)
  line_un kinds.ReplyExchange is p q found heads chunk = subst Un (sym chunk.2) (refl, tt)
  line_un kinds.NestedHold is p q found heads chunk = absurd (let z = is in cc)
  line_un kinds.OutcomeCommit is p q found heads chunk = subst Un (sym chunk.3) (refl, tt)
  line_un kinds.SetDone is p q found heads chunk = subst Un (sym chunk.1) (refl, tt)
  line_un kinds.Release is p q found heads chunk = ⊎_elim
      (λ h. subst Un (sym h.1) (refl, (refl, tt)))
      (λ h. subst Un (sym h.1) (refl, (refl, (refl, retires_un p.published q.descriptor))))
      chunk.3
  line_un _ is p q found heads chunk = subst Un (sym chunk) tt

  stored_un : (d word number : ℕ) → Un (sections.stored d word number)
  stored_un d word number = by (nat_lt word 12) (word == 12) (word == 13 + part_words)
    where
      by : (b b' c : Bool) → Un (if b then [] else (if b' then agreement.StoreDone d number ∷ [] else (if c then [] else agreement.StoreLog d (word - 13) number ∷ [])))
      by true b' c = tt
      by false true c = (refl, tt)
      by false false true = tt
      by false false false = (refl, tt)

  frees_un : (ds : List ℕ) → Un (sections.frees ds)
  frees_un [] = tt
  frees_un (d ∷ ds) = (refl, frees_un ds)

  swept_un : (p : PartState) (found : ℕ) → Un (sections.swept l p found)
  swept_un p found = let some = swept_frees m l w r p found in subst Un (sym some.1) (frees_un some.0)

  abbrev pub is_hold : EventKind → Bool
  is_hold (kinds.Hold t d) = true
  is_hold _ = false

  if_un : (b : Bool) (heads : List Event) → Un heads → Un (if b then heads else [])
  if_un true heads un = un
  if_un false heads un = tt

  outside_un : (kind : EventKind) → is_hold kind ≡ false → (p : PartState) (found : ℕ) (heads : List Event)
      → sections.IsOutsideChunk m l w r kind p found heads → Un heads
  outside_un (kinds.LoadGuard n) is p found heads chunk = subst Un (sym chunk) (swept_un p found)
  outside_un (kinds.LoadCell (Some place)) is p found heads chunk = subst Un (sym chunk) (refl, tt)
  outside_un (kinds.PrivateStore slot word number) is p found heads chunk =
      subst Un (sym chunk.1) (if_un (nat_lt slot (blocks_from m l)) (sections.stored (slot - slot_count l m.fixed_slots) word number) (stored_un (slot - slot_count l m.fixed_slots) word number))
  outside_un (kinds.Hold t d) is p found heads chunk = absurd (let z = is in cc)
  outside_un (kinds.LoadThunk (Some d)) is p found heads chunk = subst Un (sym chunk) (refl, tt)
  outside_un kinds.ReadReply is p found heads chunk = subst Un (sym chunk.2) (refl, tt)
  outside_un kinds.ReadStamp is p found heads chunk = subst Un (sym chunk.2) (refl, tt)
  outside_un _ is p found heads chunk = subst Un (sym chunk) tt

module _ (m : Meaning) (l : Layout) (rs : List Request) (k : Components) (s s' : Sight) (joined : IsJoinedToAgreement m l k.agreement s)
    (r : ℕ) (kind : EventKind) (es : List Event) (vs : List _) (are : AreEventsOf m l rs k s r kind es vs)
    (joined' : IsJoinedToAgreement m l (components_after m l k es vs).agreement s') where
  abbrev c : CellRules
  c = rules_of m l

  abbrev passes : List Event
  passes = replicate are.passes (agreement.Pass r)

  abbrev Changed : Type 0
  Changed = (p : ℕ) → m.is_lock p ≡ true → IsChanged (s.part r).run (s.word (Cell p)) (s'.word (Cell p))

  still : AllAre is_unholding are.heads → Changed
  still heads p locked =
      let all = subst (AllAre is_unholding) (sym are.all_heads)
      (append_are is_unholding are.heads (replicate are.passes (agreement.Pass r)) heads
      (passes_are is_unholding (agreement.Pass r) refl are.passes)) in
      inl (subst (λ n. IsFreer n (s'.word (Cell p))) (joined.words.cells p) (subst (λ n. IsFreer (k.agreement.shared.cells p) n) (joined'.words.cells p)
      (all_free c k.agreement es are.enabled joined.sound all p locked)))

  -- the hold of a nested lock
  holding : (q : RunState) → (s.part r).run ≡ Some q → (place word : ℕ) → are.heads ≡ agreement.Read place ∷ agreement.NestedHold r place word ∷ [] → Changed
  holding q runs place word is p locked =
      let w = k.agreement in
      let e = agreement.NestedHold r place word in
      let two : es ≡ agreement.Read place ∷ e ∷ passes = are.all_heads ∙ ap (λ hs. hs ++ passes) is in
      let w1 = after w (agreement.Read place) in
      let ok = subst (agreement_schedules.AllEnabled c w) two are.enabled in
      let sound1 = agreement_keeping.keeps c w (agreement.Read place) ok.0 joined.sound in
      let sound2 = agreement_keeping.keeps c w1 e ok.1.0 sound1 in
      let rest = all_free c (after w1 e) passes ok.1.1 sound2 (passes_are is_unholding (agreement.Pass r) refl are.passes) p locked in
      let run = subst (ShowsRun (w.run r)) runs ((joined.tied r).run) in
      let end : (agreement_schedules.after_all c (after w1 e) passes).shared.cells p ≡ s'.word (Cell p)
      = ap (λ xs. (agreement_schedules.after_all c w xs).shared.cells p) (sym two) ∙ joined'.words.cells p in
      let behind : IsFreer ((after w1 e).shared.cells p) (s'.word (Cell p)) = subst (λ n. IsFreer ((after w1 e).shared.cells p) n) end rest in
      ⊎_elim
      (λ (same : (after w1 e).shared.cells p ≡ w.shared.cells p). inl (subst (λ n. IsFreer n (s'.word (Cell p))) (same ∙ joined.words.cells p) behind))
      (λ (named : value_of ((after w1 e).shared.cells p) ≡ suc ((w.run r).descriptor)). ⊎_elim
      (λ (same : s'.word (Cell p) ≡ (after w1 e).shared.cells p). inr (q, runs, ap value_of same ∙ named ∙ ap suc run.descriptor))
      (λ (free : value_of (s'.word (Cell p)) ≡ 0). inl (inr free))
      behind)
      (hold_names c w1 r place word ok.1.0 sound1 p)

  line_by : (kind' : EventKind) → kind ≡ kind' → (q : RunState) → (s.part r).run ≡ Some q
      → sections.IsLineChunk m l k.agreement r kind' (s.part r) q (s.word are.ask.0) are.heads → Changed
  line_by kinds.NestedHold is q runs chunk = holding q runs chunk.0 chunk.1 chunk.3
  line_by kind' is q runs chunk = still (line_un m l k.agreement r kind' refl (s.part r) q (s.word are.ask.0) are.heads chunk)

  -- by a step that is no publication a lock's word stays, becomes free, or comes to name the section of the run
  pub lock_changes : is_hold m l k.agreement r kind ≡ false → Changed
  lock_changes is = by (s.part r).run refl are.in_sections
    where
      inside : (q : RunState) → (s.part r).run ≡ Some q → (b : Bool)
          → sections.IsInsideChunk m l k.agreement r b kind (s.part r) q (s.word are.ask.0) are.heads → Changed
      inside q runs true chunk = line_by kind refl q runs chunk
      inside q runs false chunk = still (subst (AllAre is_unholding) (sym chunk) tt)

      by : (run : Option RunState) → (s.part r).run ≡ run
          → sections.IsChunk m l k.agreement r kind (s.part r) run (s.word are.ask.0) are.heads → Changed
      by None none chunk = still (outside_un m l k.agreement r kind is (s.part r) (s.word are.ask.0) are.heads chunk)
      by (Some q) runs chunk = inside q runs (is_open_run q) chunk
