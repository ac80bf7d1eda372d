-- A step of the keeper, once it has joined all workers.
use Rattle.std.specs.Prelude.{◌==◌, ◌%◌, cond, is_none, not, slice_get, Bool, true, false}
use Rattle.std.proofs.Common.{◌≡◌, ◌≢◌, ℕ, suc, ◌≤◌, List, [], ◌∷◌, ◌++◌, length, le_of_eq, ⊎_elim, inl, inr, sym, refl, ap, ◌∙◌, subst, arith, Option, Some, None}
use Rattle.std.specs.Prelude.{◌⊎◌}
use Rattle.std.proofs.lemmas.Bool.Decides.{nat_tests}
use Rattle.std.proofs.lemmas.Bool.{cases_lt, and_parts}
use Rattle.std.proofs.lemmas.Nat.{mod_below}
use Rattle.machine_states.specs.map_history.specs.declared.op.Request.{Request}
use Rattle.machine_states.specs.body_terms.specs.Word.{value_of}
use Rattle.machine_states.specs.body_terms.specs.declared.thunk.Thunk.{Thunk}
use Rattle.machine_states.specs.table_words.specs.declared.layout.Layout.{Layout}
use Rattle.machine_states.specs.table_words.specs.declared.spot.Spot.{Spot}
use Rattle.machine_states.specs.table_words.specs.declared.spot.Spot.TheVariants.{Cell}
use Rattle.machine_states.specs.table_words.specs.declared.access.Access.{Access}
use Rattle.machine_states.specs.table_words.specs.Access.{written}
use Rattle.machine_states.specs.table_words.specs.Limits.{IsWithinLimits}
use Rattle.machine_states.specs.table_words.specs.Seen.{upd, put}
use Rattle.machine_states.specs.table_words.proofs.Seen.{put_here}
use Rattle.machine_states.specs.structure_laws.specs.Meaning.{Meaning}
use Rattle.machine_states.specs.structure_laws.specs.Laws.{Laws}
use Rattle.machine_states.specs.runner_parts.specs.declared.entries.Known.{Known}
use Rattle.machine_states.specs.runner_parts.specs.declared.entries.Left.{Left}
use Rattle.machine_states.specs.runner_parts.specs.declared.event.Event.{Event}
use Rattle.machine_states.specs.runner_parts.specs.declared.event.EventKind.{EventKind}
use Rattle.machine_states.specs.runner_parts.specs.declared.event.EventKind.TheVariants as kinds
use Rattle.machine_states.specs.runner_parts.specs.State.{RunState, FinishedState, PartState}
use Rattle.machine_states.specs.runner_parts.specs.Tests.{has, is_next, is_open, is_walking, is_between}
use Rattle.machine_states.specs.runner_steps.specs.Asks.{sizes_for}
use Rattle.machine_states.specs.runner_steps.specs.Asks.{ask_by}
use Rattle.machine_states.specs.runner_steps.specs.After.{after_by, after}
use Rattle.machine_states.specs.runner_steps.specs.Outside.{hold_ask, is_ready, is_publishable}
use Rattle.machine_states.specs.runner_steps.specs.Sections.{thunk_of, is_open_run}
use Rattle.machine_states.specs.runner_steps.specs.AfterInRun.{ended_more, finished_of}
use Rattle.machine_states.specs.World.{World, happens, is_join}
use Rattle.machine_states.specs.Reached.{Reached}
use Rattle.machine_states.specs.Sight.{Sight, sight}
use Rattle.machine_states.specs.Sight as states
use Rattle.machine_states.proofs.Reached.{more_reached, reached_all}
use Rattle.machine_states.proofs.Sights.{if_some, some_none, unless_gone, happens_steps}
use Rattle.machine_states.proofs.Updates.{upd_here, upd_else, upd_split}
use Rattle.machine_epochs.specs.Slots.{thunk_in}
use Rattle.machine_epochs.proofs.Joining.{thunk_same}
use Rattle.runner_facts.specs.machine_facts.specs.machine_agreement.specs.Joined.{IsJoinedToAgreement}
use Rattle.runner_facts.specs.machine_facts.specs.machine_agreement.proofs.LineKinds.{noted_finished}
use Rattle.runner_facts.specs.machine_facts.specs.machine_agreement.proofs.RunPlaces.{opened_thunk}
use Rattle.runner_facts.specs.machine_facts.specs.machine_invariant.specs.After.{AreAllowed}
use Rattle.runner_facts.specs.machine_facts.specs.machine_invariant.specs.Along.{components_after}
use Rattle.runner_facts.specs.machine_facts.specs.machine_invariant.specs.Trails.{IsEndOf}
use Rattle.runner_facts.specs.machine_facts.specs.machine_invariant.proofs.After.{reached_whole, reached_beside}
use Rattle.runner_facts.specs.machine_facts.specs.machine_invariant.proofs.Basics.{not_both}
use Rattle.runner_facts.specs.machine_facts.specs.machine_invariant.proofs.Sights.{after_is}
use Rattle.runner_facts.specs.machine_facts.specs.After.{AreFactsOfStep}
use Rattle.runner_facts.specs.machine_facts.specs.Steps.{IsRelease}
use Rattle.runner_facts.specs.machine_facts.proofs.Following.{step_facts_after}
use Rattle.runner_facts.specs.machine_facts.specs.machine_invariant.proofs.Keeping.{IsStep}
use Rattle.runner_facts.specs.Keeper.{AllJoined}
use Rattle.runner_facts.specs.Facts.{JoinedAreGone}
use Rattle.keeper_facts.proofs.Changes.{IsChanged, is_hold, lock_changes}
use Rattle.keeper_facts.proofs.Keeping.{after_keeps, noted_joined, noted_left}
use Rattle.keeper_facts.proofs.Runs.{IsIn, IsOver, Behind, inside_behind}

-- no request is the keeper's to serve
not_next : (l : Layout) → 1 ≤ l.runners → (rs : List Request) (known : List Known) (o : Option Request) → is_next l l.runners rs known o ≡ true → ⊥
not_next l some rs known None e = absurd (let z = e in cc)
not_next l some rs known (Some q) e =
    let same = equal (q.trace % l.runners) l.runners (and_parts (q.trace % l.runners == l.runners) _ e).0 in
    let low = mod_below q.trace l.runners some in omega (arith, same, low)
  where
    equal : (a b : ℕ) → (a == b) ≡ true → a ≡ b
    equal a b e = grind (arith, nat_tests)

no_hold : (m : Meaning) (l : Layout) → 1 ≤ l.runners → (rs : List Request) (t : Thunk) (d : ℕ) (p : PartState) (x : Spot × Access)
    → hold_ask m l rs l.runners t d p ≡ Some x → ⊥
no_hold m l some rs t d p x e =
    let ready = and_parts (is_ready l p d t) (is_publishable m l rs l.runners t p) (if_some _ _ x e).0 in
    let walks = and_parts (is_walking p.stage p.run) _ ready.1 in
    let none = and_parts (is_none p.published) _ walks.1 in
    let settled = and_parts (not (is_between p.reads.look)) _ none.1 in
    let lock = and_parts (is_open l p.reads.cells t) _ settled.1 in
    let due = and_parts (is_next l l.runners rs p.records.known (slice_get rs t.request)) _ lock.1 in
    not_next l some rs p.records.known (slice_get rs t.request) due.0

module _ (m : Meaning) (laws : Laws m) (l : Layout) (limits : IsWithinLimits l) (rs : List Request) (allowed : AreAllowed rs)
    (w v : World) (e : Event) (reached : Reached m l rs w) (goes : happens m l rs w e ≡ Some v) (other : is_join e.kind ≡ false)
    (gone : JoinedAreGone l (sight m l rs w)) where
  abbrev pub s : Sight
  s = sight m l rs w

  abbrev pub s' : Sight
  s' = sight m l rs v

  whole : states.IsWhole m l rs w
  whole = let all = reached_all m l rs w reached in record { words = le_of_eq (sym all.words); parts = all.parts }

  abbrev pub facts : AreFactsOfStep m l rs w e v
  facts = step_facts_after m laws l rs reached.events w limits allowed reached.after e v goes

  pub reached' : Reached m l rs v
  reached' = more_reached m l rs w v e reached goes

  pub st : IsStep m l rs s s' e.runner e.kind
  st =
      let a = reached_beside m laws l rs reached.events w limits allowed reached.after in
      let b = reached_whole m laws l rs reached'.events v limits allowed reached'.after in
      record { step = (happens_steps m l rs w v e whole goes).0; beside = a.0; whole = a.1; requests = a.2; beside' = b.0; whole' = b.1 }

  abbrev x : Spot × Access
  x = st.step.ask

  abbrev found : ℕ
  found = s.word x.0

  abbrev p' : PartState
  p' = after m l e.runner e.kind x.0 x.1 (s.part e.runner) found

  next : s' ≡ record { word = put s.word x.0 (written x.1 found); part = upd s.part e.runner p' }
  next = st.step.next ∙ after_is m l s e.runner e.kind x other

  own_joined : p'.records.joined ≡ (s.part e.runner).records.joined
  own_joined = noted_joined l e.runner e.kind x.0 x.1 found (after_by m l e.kind (s.part e.runner) (s.part e.runner).run found).records
      ∙ ap (λ (xs : List ℕ × List Left). xs.0) (after_keeps m l (s.part e.runner) found e.kind other (s.part e.runner).run)

  same_joined : (s'.part l.runners).records.joined ≡ (s.part l.runners).records.joined
  same_joined = ap (λ (y : Sight). (y.part l.runners).records.joined) next
      ∙ upd_split s.part e.runner p' (λ i y. y.records.joined ≡ (s.part i).records.joined) own_joined (λ i ne. refl) l.runners

  pub was_joined : AllJoined l s' → AllJoined l s
  was_joined all worker low = ap (λ xs. has xs worker) (sym same_joined) ∙ all worker low

  module _ (all' : AllJoined l s') where
    gone_part : ((s.part e.runner).gone ≡ false) × (ask_by m l rs e.runner e.kind (s.part e.runner) (s.part e.runner).run ≡ Some x)
    gone_part = let u = unless_gone (sizes_for m l rs) (s.part e.runner).gone (ask_by m l rs e.runner e.kind (s.part e.runner) (s.part e.runner).run) x st.step.asked in (u.0, u.1)

    is : e.runner ≡ l.runners
    is = ⊎_elim
        (λ low. not_both (gone e.runner (was_joined all' e.runner low)) gone_part.0)
        (λ high. let top = st.step.runner in omega (arith, high, top))
        (cases_lt e.runner l.runners)

    keeper' : s'.part l.runners ≡ p'
    keeper' = ap (λ (y : Sight). y.part l.runners) next ∙ ap (upd s.part e.runner p') (sym is) ∙ upd_here s.part e.runner p'

    -- no other part is changed
    pub others : (i : ℕ) → i ≢ l.runners → s'.part i ≡ s.part i
    others i ne = ap (λ (y : Sight). y.part i) next ∙ upd_else s.part e.runner p' i (λ same. ne (same ∙ is))

    abbrev pub entry : Left
    entry = record { spot = x.0; number = written x.1 found }

    -- one entry more, which is what stands then in its word
    pub left' : (s'.part l.runners).records.left ≡ (s.part l.runners).records.left ++ entry ∷ []
    left' = ap (λ (y : PartState). y.records.left) keeper'
        ∙ (noted_left l e.runner is e.kind x.0 x.1 found (after_by m l e.kind (s.part e.runner) (s.part e.runner).run found).records other
        ∙ (ap (λ (xs : List ℕ × List Left). xs.1 ++ entry ∷ []) (after_keeps m l (s.part e.runner) found e.kind other (s.part e.runner).run)
        ∙ ap (λ n. (s.part n).records.left ++ entry ∷ []) is))

    pub entry_stands : s'.word entry.spot ≡ entry.number
    entry_stands = ap (λ (y : Sight). y.word x.0) next ∙ put_here s.word x.0 (written x.1 found)

    not_hold : is_hold m l facts.before.agreement e.runner e.kind ≡ false
    not_hold = by e.kind refl
      where
        by : (kind : EventKind) → e.kind ≡ kind → is_hold m l facts.before.agreement e.runner kind ≡ false
        by (kinds.Hold t d) same = absurd (in_run (s.part e.runner).run refl)
          where
            asked : (o : Option RunState) → (s.part e.runner).run ≡ o → ask_by m l rs l.runners (kinds.Hold t d) (s.part e.runner) o ≡ Some x
            asked o run = (λ i. ask_by m l rs (sym is i) (sym same i) (s.part e.runner) (sym run i)) ∙ gone_part.1

            in_run : (o : Option RunState) → (s.part e.runner).run ≡ o → ⊥
            in_run None run = no_hold m l limits.some_runners rs t d (s.part e.runner) x (asked None run)
            in_run (Some q) run = inside (is_open_run q) (asked (Some q) run)
              where
                inside : (b : Bool) → cond b None None ≡ Some x → ⊥
                inside true h = some_none x h
                inside false h = some_none x h
        by _ same = refl

    joined' : IsJoinedToAgreement m l (components_after m l facts.before facts.leads.sections facts.leads.slots).agreement s'
    joined' = subst (λ k. IsJoinedToAgreement m l k.agreement s') facts.leads.next facts.here.sound.sections.joined

    -- a lock's word stays, becomes free, or comes to name the section of the keeper's run
    pub changed : (p : ℕ) → m.is_lock p ≡ true → IsChanged (s.part l.runners).run (s.word (Cell p)) (s'.word (Cell p))
    changed = subst (λ n. (p : ℕ) → m.is_lock p ≡ true → IsChanged (s.part n).run (s.word (Cell p)) (s'.word (Cell p))) is
        (lock_changes m l rs facts.before s s' facts.there.sound.sections.joined e.runner e.kind facts.leads.sections facts.leads.slots facts.leads.events joined' not_hold)

    -- one that names a section stays, or a run of that section releases it
    pub stays : (p d : ℕ) → m.is_lock p ≡ true → value_of (s.word (Cell p)) ≡ suc d → (s'.word (Cell p) ≡ s.word (Cell p)) ⊎ IsIn (s.part l.runners) d
    stays p d lock names = ⊎_elim inl
        (λ (release : IsRelease (s.part e.runner) e.kind s.word d). inr (subst (λ n. IsIn (s.part n) d) is
        (record { run = release.run; runs = release.runs; of_section = release.of_section })))
        (facts.leads.locks p d lock names)

    module _ (q : RunState) (runs : (s.part l.runners).run ≡ Some q) where
      own_runs : (s.part e.runner).run ≡ Some q
      own_runs = ap (λ n. (s.part n).run) is ∙ runs

      stepped : Behind m l (s.part e.runner) q own_runs found (after_by m l e.kind (s.part e.runner) (s.part e.runner).run found)
      stepped = subst (λ (o : Option RunState). Behind m l (s.part e.runner) q own_runs found (after_by m l e.kind (s.part e.runner) o found)) (sym own_runs)
          (inside_behind m l (s.part e.runner) q own_runs found e.kind)

      -- the section is over: no lock names it
      over : IsOver m l (s.part e.runner) q (after_by m l e.kind (s.part e.runner) (s.part e.runner).run found) → (p : ℕ) → m.is_lock p ≡ true
          → value_of (s'.word (Cell p)) ≢ suc q.descriptor
      over ends p lock names =
          let d = q.descriptor in
          let f : FinishedState = finished_of m l (ended_more q) in
          let used = facts.there.sound.sections.in_trails.running e.runner q own_runs in
          let used' = facts.here.sound.sections.in_locks.used p d lock names in
          let before = opened_thunk m l facts.before.agreement s facts.there.sound.sections.joined e.runner q own_runs (opened_all ends.opened) in
          let now : thunk_in s'.word d ≡ thunk_of q.opened = thunk_same s'.word s.word d (λ i. facts.leads.words.thunk d i used) ∙ before in
          let kept : (s'.part e.runner).records.finished ≡ (s.part e.runner).records.finished ++ f ∷ []
          = ap (λ (y : Sight). (y.part e.runner).records.finished) next ∙ (ap (λ (y : PartState). y.records.finished) (upd_here s.part e.runner p')
          ∙ (noted_finished l e.runner e.kind x.0 x.1 found (after_by m l e.kind (s.part e.runner) (s.part e.runner).run found).records ∙ ends.kept)) in
          let end : IsEndOf m facts.after.agreement s' e.runner d f = record {
            at = length (s.part e.runner).records.finished;
            kept = ap (λ fs. slice_get fs (length (s.part e.runner).records.finished)) kept ∙ last_get (s.part e.runner).records.finished f;
            lock = ap (λ (t : Thunk). t.lock) (sym now);
            word = ap (λ (t : Thunk). t.word) (sym now);
          } in
          facts.here.sound.sections.in_locks.unnamed e.runner d p f used' end lock names
        where
          last_get : (fs : List FinishedState) (f : FinishedState) → slice_get (fs ++ f ∷ []) (length fs) ≡ Some f
          last_get [] f = refl
          last_get (y ∷ fs) f = last_get fs f

          opened_all : is_open_run q ≡ true → length q.opened ≡ 13
          opened_all opened = equal (length q.opened) 13 (and_parts (length q.opened == 13) _ opened).0
            where
              equal : (a b : ℕ) → (a == b) ≡ true → a ≡ b
              equal a b e = grind (arith, nat_tests)

      -- so where a lock names the run's section behind the step, the keeper is in the run still
      pub goes_on : (p : ℕ) → m.is_lock p ≡ true → value_of (s'.word (Cell p)) ≡ suc q.descriptor → IsIn (s'.part l.runners) q.descriptor
      goes_on p lock names = ⊎_elim
          (λ (is_in : IsIn (after_by m l e.kind (s.part e.runner) (s.part e.runner).run found) q.descriptor). record {
            run = is_in.run;
            runs = ap (λ (y : PartState). y.run) keeper' ∙ is_in.runs;
            of_section = is_in.of_section;
          })
          (λ ends. absurd (over ends p lock names))
          stepped
