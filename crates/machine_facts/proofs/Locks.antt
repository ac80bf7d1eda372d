-- A lock that names a section stands until a run of that section releases it.
use Rattle.std.specs.Prelude.{◌-◌, ◌==◌, nat_lt, Bool, true, false, replicate, if◌then◌else◌}
use Rattle.std.proofs.Common.{◌≡◌, ℕ, suc, List, [], ◌∷◌, ◌++◌, refl, sym, ap, ◌∙◌, subst, inl, inr, ⊎_elim, arith, Option, Some, None, ◌+◌}
use Rattle.std.specs.Prelude.{◌⊎◌}
use Rattle.machine_states.specs.body_terms.specs.Word.{value_of}
use Rattle.machine_states.specs.table_words.specs.declared.layout.Layout.{Layout}
use Rattle.machine_states.specs.table_words.specs.declared.spot.Spot.TheVariants.{Cell}
use Rattle.machine_states.specs.table_words.specs.Places.{slot_count, part_words}
use Rattle.machine_states.specs.map_history.specs.declared.op.Request.{Request}
use Rattle.machine_states.specs.structure_laws.specs.Meaning.{Meaning}
use Rattle.machine_states.specs.runner_parts.specs.declared.event.EventKind.{EventKind}
use Rattle.machine_states.specs.runner_parts.specs.declared.event.EventKind.TheVariants as kinds
use Rattle.machine_states.specs.runner_parts.specs.State.{RunState, PartState}
use Rattle.machine_states.specs.runner_steps.specs.Outside.{blocks_from}
use Rattle.machine_states.specs.runner_steps.specs.Sections.{is_open_run}
use Rattle.agreement_core.specs.State.{CellRules, AgreementState}
use Rattle.agreement_core.specs.Events as agreement
use Rattle.agreement_core.specs.Schedules as agreement_schedules
use Rattle.agreement_core.specs.Sound as agreement_sound
use Rattle.agreement_core.specs.Late.{IsReleaseOf}
use Rattle.agreement_core.proofs.Keeping as agreement_keeping
use Rattle.agreement_core.proofs.Late.{locks_leave}
use Rattle.machine_states.specs.Sight.{Sight}
use Rattle.machine_invariant.specs.machine_blocks.specs.machine_guards.specs.machine_agreement.specs.machine_scenes.specs.Shown.{rules_of}
use Rattle.machine_invariant.specs.machine_blocks.specs.machine_guards.specs.machine_agreement.specs.Chunks as sections
use Rattle.machine_states.specs.runner_parts.specs.declared.entries.Published.{Published}
use Rattle.machine_invariant.specs.machine_blocks.specs.machine_guards.specs.machine_agreement.specs.Joined.{IsJoinedToAgreement, ShowsRun}
use Rattle.machine_invariant.specs.Along.{Components, components_after, AreEventsOf}
use Rattle.machine_invariant.proofs.Runs.{AllAre, passes_are, append_are}
use Rattle.machine_facts.specs.Steps.{IsRelease, LocksStand}
use Rattle.machine_facts.proofs.Chunks.{swept_frees}

-- no release of a lock
abbrev pub is_unreleasing : agreement.Event → Bool
is_unreleasing (agreement.Release r place word) = false
is_unreleasing _ = true

abbrev is_release : EventKind → Bool
is_release kinds.Release = true
is_release _ = false

release_releases : (e : agreement.Event) (r p word : ℕ) → is_unreleasing e ≡ true → e ≡ agreement.Release r p word → ⊥
release_releases e r p word is same = let f : is_unreleasing (agreement.Release r p word) ≡ true = subst (λ x. is_unreleasing x ≡ true) same is in cc

-- where nothing is released, a lock that names a section stands
locks_all : (c : CellRules) (w : AgreementState) (es : List agreement.Event) → agreement_schedules.AllEnabled c w es
    → agreement_sound.IsSound c w → AllAre is_unreleasing es → (d p : ℕ) → c.is_lock p ≡ true → value_of (w.shared.cells p) ≡ suc d
    → (agreement_schedules.after_all c w es).shared.cells p ≡ w.shared.cells p
locks_all c w [] ok old are d p lock names = refl
locks_all c w (e ∷ es) ok old are d p lock names =
    let one : (agreement.after w e).shared.cells p ≡ w.shared.cells p = ⊎_elim (λ same. same)
    (λ release. absurd (release_releases e release.0 p release.1 are.0 release.2)) (locks_leave c w e ok.0 old d p lock names) in
    locks_all c (agreement.after w e) es ok.1 (agreement_keeping.keeps c w e ok.0 old) are.1 d p lock (ap value_of one ∙ names) ∙ one

module _ (m : Meaning) (l : Layout) (w : AgreementState) (r : ℕ) where
  abbrev Un : List agreement.Event → Type 0
  Un heads = AllAre is_unreleasing heads

  line_un : (kind : EventKind) → is_release kind ≡ false → (p : PartState) (q : RunState) (found : ℕ) (heads : List agreement.Event)
      → sections.IsLineChunk m l w r kind p q found heads → Un heads
  line_un kinds.Commit is p q found heads chunk =
      ⊎_elim (λ h. subst Un (sym h.1) (refl, tt)) (λ h. subst Un (sym h.1) (refl, tt)) chunk.2
  line_un (kinds.LoadCell None) is p q found heads chunk = subst Un (sym chunk.3) (refl, tt)
  line_un kinds.ExchangeCell is p q found heads chunk = subst Un (sym chunk.4) (refl, (refl, tt))
  line_un (kinds.PrivateLoad slot cell) is p q found heads chunk = subst Un (sym chunk.2) (refl, tt)
  line_un (kinds.PrivateStore slot cell number) is p q found heads chunk = ⊎_elim (λ link. subst Un (sym link.1) tt) (λ fills. subst Un (sym fills.4) (refl, tt)) chunk
  line_un kinds.MakeCommit is p q found heads chunk = subst Un (sym chunk.4) (refl, tt)
  line_un kinds.RetireCommit is p q found heads chunk = subst Un (sym chunk.3) (refl, tt)
  line_un kinds.EpochForRetire is p q found heads chunk = subst Un (sym chunk.3) (refl, tt)
  line_un kinds.NestedLoad is p q found heads chunk = subst Un (sym chunk.3) (refl, tt)
  line_un kinds.OutcomeLoad is p q found heads chunk = subst Un (sym chunk.3) (refl, tt)
  line_un kinds.ClockLoad is p q found heads chunk = subst Un (sym chunk.1) (refl, tt)
  line_un kinds.StampExchange is p q found heads chunk = subst Un (sym chunk.1) (refl, tt)
  line_un kinds.ClockRaise is p q found heads chunk = subst Un (sym chunk.1) (refl, tt)
  line_un kinds.ReplyExchange is p q found heads chunk = subst Un (sym chunk.2) (refl, tt)
  line_un kinds.NestedHold is p q found heads chunk = subst Un (sym chunk.3) (refl, (refl, tt))
  line_un kinds.OutcomeCommit is p q found heads chunk = subst Un (sym chunk.3) (refl, tt)
  line_un kinds.SetDone is p q found heads chunk = subst Un (sym chunk.1) (refl, tt)
  line_un kinds.Release is p q found heads chunk = absurd (let no : ⊥ = cc in no)
  line_un _ is p q found heads chunk = subst Un (sym chunk) tt

  stored_un : (d word number : ℕ) → Un (sections.stored d word number)
  stored_un d word number = by (nat_lt word 12) (word == 12) (word == 13 + part_words)
    where
      by : (b b' c : Bool) → Un (if b then [] else (if b' then agreement.StoreDone d number ∷ [] else (if c then [] else agreement.StoreLog d (word - 13) number ∷ [])))
      by true b' c = tt
      by false true c = (refl, tt)
      by false false true = tt
      by false false false = (refl, tt)

  frees_un : (ds : List ℕ) → Un (sections.frees ds)
  frees_un [] = tt
  frees_un (d ∷ ds) = (refl, frees_un ds)

  swept_un : (p : PartState) (found : ℕ) → Un (sections.swept l p found)
  swept_un p found = let some = swept_frees m l w r p found in subst Un (sym some.1) (frees_un some.0)

  -- the retirement of the own section releases nothing
  pub retires_un : (o : Option Published) (d : ℕ) → Un (sections.retires_own o d)
  retires_un None d = tt
  retires_un (Some x) d = by (x.descriptor == d)
    where
      by : (b : Bool) → Un (if b then agreement.RetireDescriptor d ∷ [] else [])
      by true = (refl, tt)
      by false = tt

  if_un : (b : Bool) (heads : List agreement.Event) → Un heads → Un (if b then heads else [])
  if_un true heads un = un
  if_un false heads un = tt

  outside_un : (kind : EventKind) (p : PartState) (found : ℕ) (heads : List agreement.Event)
      → sections.IsOutsideChunk m l w r kind p found heads → Un heads
  outside_un (kinds.LoadGuard n) p found heads chunk = subst Un (sym chunk) (swept_un p found)
  outside_un (kinds.LoadCell (Some place)) p found heads chunk = subst Un (sym chunk) (refl, tt)
  outside_un (kinds.PrivateStore slot word number) p found heads chunk =
      subst Un (sym chunk.1) (if_un (nat_lt slot (blocks_from m l)) (sections.stored (slot - slot_count l m.fixed_slots) word number) (stored_un (slot - slot_count l m.fixed_slots) word number))
  outside_un (kinds.Hold t d) p found heads chunk =
      ⊎_elim (λ won. subst Un (sym won.1) (refl, (refl, tt))) (λ lost. subst Un (sym lost.1) (refl, tt)) chunk
  outside_un (kinds.LoadThunk (Some d)) p found heads chunk = subst Un (sym chunk) (refl, tt)
  outside_un kinds.ReadReply p found heads chunk = subst Un (sym chunk.2) (refl, tt)
  outside_un kinds.ReadStamp p found heads chunk = subst Un (sym chunk.2) (refl, tt)
  outside_un _ p found heads chunk = subst Un (sym chunk) tt

-- a release of a lock by this runner, and what may follow it
record Releases (r : ℕ) (heads : List agreement.Event) : Type 0 where
  pub place : ℕ
  pub word : ℕ
  pub rest : List agreement.Event
  pub heads_are : heads ≡ agreement.Read place ∷ agreement.Release r place word ∷ rest
  pub unreleasing : AllAre is_unreleasing rest

module _ (m : Meaning) (l : Layout) (rs : List Request) (k : Components) (s s' : Sight) (joined : IsJoinedToAgreement m l k.agreement s)
    (r : ℕ) (kind : EventKind) (es : List agreement.Event) (vs : List _) (are : AreEventsOf m l rs k s r kind es vs)
    (joined' : IsJoinedToAgreement m l (components_after m l k es vs).agreement s') where
  abbrev c : CellRules
  c = rules_of m l

  passes : List agreement.Event
  passes = replicate are.passes (agreement.Pass r)

  still : AllAre is_unreleasing are.heads → (p d : ℕ) → m.is_lock p ≡ true → value_of (s.word (Cell p)) ≡ suc d
      → s'.word (Cell p) ≡ s.word (Cell p)
  still heads p d lock names =
      let all = subst (AllAre is_unreleasing) (sym are.all_heads)
      (append_are is_unreleasing are.heads (replicate are.passes (agreement.Pass r)) heads
      (passes_are is_unreleasing (agreement.Pass r) refl are.passes)) in
      sym (joined'.words.cells p)
      ∙ locks_all c k.agreement es are.enabled joined.sound all d p lock (ap value_of (joined.words.cells p) ∙ names)
      ∙ joined.words.cells p

  -- a run of its end releases a lock: its own section's
  releasing : (q : RunState) → (s.part r).run ≡ Some q → kind ≡ kinds.Release → Releases r are.heads → (p d : ℕ) → m.is_lock p ≡ true
      → value_of (s.word (Cell p)) ≡ suc d → (s'.word (Cell p) ≡ s.word (Cell p)) ⊎ IsRelease (s.part r) kind s.word d
  releasing q runs release x p d lock names =
      let w = k.agreement in
      let three : es ≡ agreement.Read x.place ∷ agreement.Release r x.place x.word ∷ (x.rest ++ replicate are.passes (agreement.Pass r)) =
      are.all_heads ∙ ap (λ hs. hs ++ replicate are.passes (agreement.Pass r)) x.heads_are in
      let w1 = agreement.after w (agreement.Read x.place) in
      let e = agreement.Release r x.place x.word in
      let w2 = agreement.after w1 e in
      let ok = subst (agreement_schedules.AllEnabled c w) three are.enabled in
      let sound1 = agreement_keeping.keeps c w (agreement.Read x.place) ok.0 joined.sound in
      let sound2 = agreement_keeping.keeps c w1 e ok.1.0 sound1 in
      let here : value_of (w.shared.cells p) ≡ suc d = ap value_of (joined.words.cells p) ∙ names in
      ⊎_elim
      (λ (same : w2.shared.cells p ≡ w.shared.cells p). inl (sym (joined'.words.cells p)
      ∙ ap (λ xs. (agreement_schedules.after_all c w xs).shared.cells p) three
      ∙ locks_all c w2 (x.rest ++ replicate are.passes (agreement.Pass r)) ok.1.1 sound2
      (append_are is_unreleasing x.rest (replicate are.passes (agreement.Pass r)) x.unreleasing
      (passes_are is_unreleasing (agreement.Pass r) refl are.passes)) d p lock (ap value_of same ∙ here)
      ∙ same ∙ joined.words.cells p))
      (λ (of : IsReleaseOf w1 e d p).
      let runner : r ≡ of.0 = one_runner r x.place x.word of.0 p of.1 of.2 in
      let run = subst (ShowsRun (w.run r)) runs ((joined.tied r).run) in
      let same : (w.run r).descriptor ≡ d = ap (λ n. (w.run n).descriptor) runner ∙ of.4 in
      inr (record {
        release = release;
        run = q;
        runs = runs;
        of_section = sym run.descriptor ∙ same;
        done = λ z. (joined.sound.runs r run.running).in_trail.ended_done ok.1.0.1
            (ap (λ n. (w.section n).done) same ∙ ((joined.sections d).done ∙ z));
      }))
      (locks_leave c w1 e ok.1.0 sound1 d p lock here)
    where
      one_runner : (r p w r' p' w' : ℕ) → agreement.Release r p w ≡ agreement.Release r' p' w' → r ≡ r'
      one_runner r p w r' p' w' e = grind arith

  line_by : (kind' : EventKind) → kind ≡ kind' → (q : RunState) → (s.part r).run ≡ Some q
      → sections.IsLineChunk m l k.agreement r kind' (s.part r) q (s.word are.ask.0) are.heads
      → LocksStand m (s.part r) kind s.word s'.word
  line_by kinds.Release is q runs chunk p d lock names = releasing q runs is (⊎_elim
      (λ h. record { place = chunk.0; word = chunk.1; rest = []; heads_are = h.1; unreleasing = tt })
      (λ h. record { place = chunk.0; word = chunk.1; rest = agreement.Finish r ∷ sections.retires_own (s.part r).published q.descriptor; heads_are = h.1; unreleasing = (refl, retires_un m l k.agreement r (s.part r).published q.descriptor) })
      chunk.3) p d lock names
  line_by kind' is q runs chunk p d lock names = inl (still (line_un m l k.agreement r kind' refl (s.part r) q (s.word are.ask.0) are.heads chunk) p d lock names)

  pub locks_stand : LocksStand m (s.part r) kind s.word s'.word
  locks_stand = by (s.part r).run refl are.in_sections
    where
      inside : (q : RunState) → (s.part r).run ≡ Some q → (b : Bool)
          → sections.IsInsideChunk m l k.agreement r b kind (s.part r) q (s.word are.ask.0) are.heads → LocksStand m (s.part r) kind s.word s'.word
      inside q runs true chunk p d lock names = line_by kind refl q runs chunk p d lock names
      inside q runs false chunk p d lock names = inl (still (subst (AllAre is_unreleasing) (sym chunk) tt) p d lock names)

      by : (run : Option RunState) → (s.part r).run ≡ run
          → sections.IsChunk m l k.agreement r kind (s.part r) run (s.word are.ask.0) are.heads → LocksStand m (s.part r) kind s.word s'.word
      by None is chunk p d lock names = inl (still (outside_un m l k.agreement r kind (s.part r) (s.word are.ask.0) are.heads chunk) p d lock names)
      by (Some q) is chunk p d lock names = inside q is (is_open_run q) chunk p d lock names
