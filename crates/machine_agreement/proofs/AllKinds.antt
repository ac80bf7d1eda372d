-- Every kind of step keeps the join.
use Rattle.std.specs.Prelude.{◌==◌, Bool, true, false, nat_lt, if◌then◌else◌}
use Rattle.std.proofs.Common.{◌≡◌, ◌≢◌, ℕ, ◌<◌, List, [], length, refl, sym, ap, ◌∙◌, subst, arith, Option, Some, None}
use Rattle.std.proofs.lemmas.Bool.Decides.{nat_tests}
use Rattle.machine_states.specs.map_history.specs.declared.op.Request.{Request}
use Rattle.machine_states.specs.table_words.specs.declared.layout.Layout.{Layout}
use Rattle.machine_states.specs.table_words.specs.declared.spot.Spot.{Spot}
use Rattle.machine_states.specs.table_words.specs.declared.spot.Spot.TheVariants as spots
use Rattle.machine_states.specs.table_words.specs.declared.access.Access.{Access}
use Rattle.machine_states.specs.table_words.specs.declared.access.Access.TheVariants.{Loads}
use Rattle.machine_states.specs.table_words.specs.Access.{written}
use Rattle.machine_states.specs.table_words.specs.Seen.{upd, put}
use Rattle.machine_states.specs.structure_laws.specs.Meaning.{Meaning}
use Rattle.machine_states.specs.runner_parts.specs.declared.event.EventKind.{EventKind}
use Rattle.machine_states.specs.runner_parts.specs.declared.event.EventKind.TheVariants as kinds
use Rattle.machine_states.specs.runner_parts.specs.State.{RunState, PartState}
use Rattle.machine_states.specs.runner_steps.specs.Sections.{is_open_run, next_of}
use Rattle.machine_states.specs.runner_parts.specs.Tests.{has_pair}
use Rattle.machine_states.specs.runner_steps.specs.Outside.{join_ask}
use Rattle.machine_states.specs.runner_steps.specs.AfterInRun.{opened_more}
use Rattle.machine_states.specs.runner_steps.specs.Asks.{outside_ask, line_ask, ask_by, asks, opening_ask, sizes_for}
use Rattle.machine_states.specs.table_words.specs.Places.{Fits}
use Rattle.machine_states.specs.runner_steps.specs.After.{after, after_by, line_after, leaves, knows_also, joins as joins_after}
use Rattle.agreement_core.specs.State.{AgreementState}
use Rattle.agreement_core.specs.Events.{Event}
use Rattle.machine_states.specs.World.{is_join}
use Rattle.machine_states.specs.Sight.{Sight, sight_after, Steps}
use Rattle.machine_states.proofs.Sights.{if_some, some_none, unless_gone, joins}
use Rattle.machine_states.proofs.Updates.{upd_else}
use Rattle.machine_epochs.proofs.OutsideAsked as asked_outside
use Rattle.machine_agreement.specs.Joined.{IsJoinedToAgreement}
use Rattle.machine_agreement.specs.Supplied.{AgreementIsSupplied}
use Rattle.machine_agreement.specs.Chunks.{IsLineChunk, IsInsideChunk, IsChunk}
use Rattle.machine_agreement.specs.Goes.{Goes}
use Rattle.machine_agreement.proofs.Assembly.{leads_alone}
use Rattle.machine_agreement.proofs.LineKinds.{noting, noted_finished}
use Rattle.machine_agreement.proofs.Outside.{after_outside, lead_none, load_same, quiet_joined}
use Rattle.machine_agreement.proofs.Descriptors as descriptors
use Rattle.machine_agreement.proofs.LineAsked as asked
use Rattle.machine_agreement.proofs.Loads as loads
use Rattle.machine_agreement.proofs.Stores as stores
use Rattle.machine_agreement.proofs.Ends as ends
use Rattle.machine_agreement.proofs.Releases as releases
use Rattle.machine_agreement.proofs.OutsideKinds as outside

module _ (m : Meaning) (l : Layout) (rs : List Request) (w : AgreementState) (s : Sight) (old : IsJoinedToAgreement m l w s) (r : ℕ) where
  abbrev p : PartState
  p = s.part r

  -- the step leads to a joined state, by the events of its kind
  abbrev To : EventKind → Spot × Access → Type 0
  To kind x = (heads : List Event) × IsChunk m l w r kind p p.run (s.word x.0) heads × Goes m l r heads w (sight_after m l s r kind x)

  -- the steps of a run
  module _ (q : RunState) (at : p.run ≡ Some q) where
    -- the same in the words of its line
    abbrev LineTo : EventKind → Spot × Access → Type 0
    LineTo kind x = (heads : List Event) × IsLineChunk m l w r kind p q (s.word x.0) heads × Goes m l r heads w (sight_after m l s r kind x)

    inside_to : (kind : EventKind) (x : Spot × Access) (b : Bool) (heads : List Event) → is_open_run q ≡ b → IsInsideChunk m l w r b kind p q (s.word x.0) heads → Goes m l r heads w (sight_after m l s r kind x) → To kind x
    inside_to kind x b heads is chunk goes =
        (heads, subst (λ o. IsChunk m l w r kind p o (s.word x.0) heads) (sym at) (subst (λ c. IsInsideChunk m l w r c kind p q (s.word x.0) heads) (sym is) chunk), goes)

    line_goes : (kind : EventKind) (x : Spot × Access) → is_open_run q ≡ true → AgreementIsSupplied m l w s r kind (s.word x.0) → asks m l rs r kind p ≡ Some x → line_ask m l kind p.nodes.free p.blocks.free q (next_of m q) ≡ Some x → LineTo kind x
    line_goes kinds.Commit x open_q u e k = loads.commit m l rs w s old r q at open_q x (λ log. u.logged q log at open_q) e
    line_goes (kinds.LoadCell None) x open_q u e k = loads.load_cell m l rs w s old r q at open_q x e (λ place log is. u.alone q place log at open_q is)
    line_goes kinds.ExchangeCell x open_q u e k = stores.exchange_cell m l rs w s old r q at open_q x e
    line_goes (kinds.PrivateLoad slot word) x open_q u e k = stores.private_load m l rs w s old r q at open_q slot word x e
    line_goes (kinds.PrivateStore slot word number) x open_q u e k = stores.private_store m l rs w s old r q at open_q slot word number x e (λ linked. u.private q slot word number at linked refl)
    line_goes (kinds.LinkCommit b) x open_q u e k = stores.link_commit m l rs w s old r q at open_q b x e
    line_goes kinds.MakeCommit x open_q u e k = loads.make_commit m l rs w s old r q at open_q x (λ log. u.logged q log at open_q) e
    line_goes kinds.RetireCommit x open_q u e k = loads.retire_commit m l rs w s old r q at open_q x (λ log. u.logged q log at open_q) e
    line_goes kinds.EpochForRetire x open_q u e k = loads.epoch_load m l rs w s old r q at open_q x e
    line_goes kinds.SetDone x open_q u e k = ends.set_done m l rs w s old r q at open_q x e
    line_goes kinds.Release x open_q u e k = releases.release m l rs w s old r q at open_q x u.live e
    line_goes kinds.ClockLoad x open_q u e k = loads.clock_load m l rs w s old r q at open_q x e
    line_goes kinds.StampExchange x open_q u e k = stores.stamp_exchange m l rs w s old r q at open_q x e
    line_goes kinds.ClockRaise x open_q u e k = stores.clock_raise m l rs w s old r q at open_q x e
    line_goes kinds.ReplyExchange x open_q u e k = stores.reply_exchange m l rs w s old r q at open_q x e
    line_goes kinds.NestedLoad x open_q u e k = loads.nested_load m l rs w s old r q at open_q x e
    line_goes kinds.NestedHold x open_q u e k = stores.nested_hold m l rs w s old r q at open_q x e
    line_goes kinds.OutcomeLoad x open_q u e k = loads.outcome_load m l rs w s old r q at open_q x e
    line_goes kinds.OutcomeCommit x open_q u e k = loads.outcome_commit m l rs w s old r q at open_q x (λ log. u.logged q log at open_q) e
    line_goes _ x open_q u e k = some_none x k

    -- a run that has still to load words of its thunk
    after_opening : (kind : EventKind) (x : Spot × Access) → is_open_run q ≡ false → after m l r kind x.0 x.1 p (s.word x.0) ≡ noting m l r kind x.0 x.1 (s.word x.0) p (opened_more p q (s.word x.0))
    after_opening kind x unopened = ap (noting m l r kind x.0 x.1 (s.word x.0) p)
        (ap (λ o. after_by m l kind p o (s.word x.0)) at ∙ ap (λ b. if b then line_after m l kind p q (next_of m q) (s.word x.0) else opened_more p q (s.word x.0)) unopened)

    opens : (kind : EventKind) (a : Spot) → length q.opened < 13 → (length q.opened < 12 → s.word a ≡ s.word (spots.ThunkWord q.descriptor (length q.opened)))
        → Goes m l r [] w (record { word = put s.word a (s.word a); part = upd s.part r (noting m l r kind a Loads (s.word a) p (opened_more p q (s.word a))) })
    opens kind a few word = descriptors.run_opens m l w s old r q (s.word a) _ at few word refl refl (noted_finished l r kind a Loads (s.word a) p.records) refl (put s.word a (s.word a)) (load_same s.word a)

    less : (a b : ℕ) → nat_lt a b ≡ true → a < b
    less a b e = grind (arith, nat_tests)

    equal : (a b : ℕ) → (a == b) ≡ true → a ≡ b
    equal a b e = grind (arith, nat_tests)

    opening_goes : (kind : EventKind) (x : Spot × Access) → is_open_run q ≡ false → is_join kind ≡ false → opening_ask kind q ≡ Some x → To kind x
    opening_goes (kinds.LoadThunk None) x unopened j e =
        let h = if_some _ _ x e in let few = less (length q.opened) 12 h.0 in
        subst (To (kinds.LoadThunk None)) h.1
        (inside_to (kinds.LoadThunk None) (spots.ThunkWord q.descriptor (length q.opened), Loads) false [] unopened refl (subst (λ (y : PartState). Goes m l r [] w (record { word = put s.word (spots.ThunkWord q.descriptor (length q.opened)) (s.word (spots.ThunkWord q.descriptor (length q.opened))); part = upd s.part r y }))
        (sym (after_opening (kinds.LoadThunk None) (spots.ThunkWord q.descriptor (length q.opened), Loads) unopened)) (opens (kinds.LoadThunk None) (spots.ThunkWord q.descriptor (length q.opened)) (omega arith) (λ low. refl))))
    opening_goes kinds.LoadDone x unopened j e =
        let h = if_some _ _ x e in let twelve = equal (length q.opened) 12 h.0 in
        subst (To kinds.LoadDone) h.1
        (inside_to kinds.LoadDone (spots.DoneWord q.descriptor, Loads) false [] unopened refl (subst (λ (y : PartState). Goes m l r [] w (record { word = put s.word (spots.DoneWord q.descriptor) (s.word (spots.DoneWord q.descriptor)); part = upd s.part r y }))
        (sym (after_opening kinds.LoadDone (spots.DoneWord q.descriptor, Loads) unopened)) (opens kinds.LoadDone (spots.DoneWord q.descriptor) (omega arith) (λ low. absurd (omega arith)))))
    opening_goes _ x unopened j e = some_none x e

    inside_goes : (kind : EventKind) (x : Spot × Access) (b : Bool) → is_open_run q ≡ b → is_join kind ≡ false → AgreementIsSupplied m l w s r kind (s.word x.0) → asks m l rs r kind p ≡ Some x → To kind x
    inside_goes kind x true is j u e = let to = line_goes kind x is u e (asked.line_asked m l rs r kind p q x e at is) in inside_to kind x true to.0 is to.1 to.2
    inside_goes kind x false is j u e = opening_goes kind x is j (ap (λ b. if b then line_ask m l kind p.nodes.free p.blocks.free q (next_of m q) else opening_ask kind q) (sym is) ∙ asked.inside_asked m l rs r kind p q x e at)

  -- the steps of a runner in no run
  module _ (none : p.run ≡ None) where
    outside_to : (kind : EventKind) (x : Spot × Access) → is_join kind ≡ false → outside.To m l rs w s old r none kind x → To kind x
    outside_to (kinds.Join worker) x j to = absurd (let y = j in cc)
    outside_to kind x j to = (
      to.0,
      subst (λ o. IsChunk m l w r kind p o (s.word x.0) to.0) (sym none) to.1,
      subst (λ (y : PartState). Goes m l r to.0 w (record { word = put s.word x.0 (written x.1 (s.word x.0)); part = upd s.part r y })) (sym (after_outside m l r kind x p (s.word x.0) none)) to.2,
    )

    outside_goes : (kind : EventKind) (x : Spot × Access) → Fits (sizes_for m l rs) x.0 → is_join kind ≡ false → AgreementIsSupplied m l w s r kind (s.word x.0) → outside_ask m l rs r kind p ≡ Some x → outside.To m l rs w s old r none kind x
    outside_goes kinds.EnterLoad x fits j u e = outside.enter_load m l rs w s old r none x e
    outside_goes kinds.Announce x fits j u e = outside.announce m l rs w s old r none x e
    outside_goes kinds.EnterAgain x fits j u e = outside.enter_again m l rs w s old r none x e
    outside_goes kinds.Idle x fits j u e = outside.exit m l rs w s old r none x e
    outside_goes kinds.ScanEpoch x fits j u e = outside.scan_epoch m l rs w s old r none x e
    outside_goes (kinds.ScanOne n) x fits j u e = outside.scan_one m l rs w s old r none n x e
    outside_goes kinds.Advance x fits j u e = outside.advance m l rs w s old r none x e
    outside_goes kinds.Split x fits j u e = outside.split m l rs w s old r none x e
    outside_goes (kinds.Join worker) x fits j u e = absurd (let y = j in cc)
    outside_goes (kinds.LoadCell (Some place)) x fits j u e = outside.load_cell m l rs w s old r none place x e
    outside_goes (kinds.LoadEntry request reply) x fits j u e = outside.load_entry m l rs w s old r none request reply x e
    outside_goes (kinds.PrivateLoad slot word) x fits j u e = outside.private_load m l rs w s old r none slot word x e
    outside_goes (kinds.PrivateStore slot word number) x fits j u e = outside.private_store m l rs w s old r none slot word number x fits e u.unused
    outside_goes (kinds.Hold thunk d) x fits j u e = let h = asked_outside.hold_asked m l rs r thunk d p x e in
        outside.hold_kind m l rs w s old r none thunk d x e u.unused (λ same. u.publishes thunk d refl none (ap (λ (y : Spot × Access). s.word y.0) (sym h.is) ∙ same))
    outside_goes (kinds.LoadThunk (Some d)) x fits j u e = outside.load_thunk m l rs w s old r none d x e (u.used d refl)
    outside_goes (kinds.ReadPlan thunk) x fits j u e = outside.read_plan m l rs w s old r none thunk x e
    outside_goes kinds.ReadClock x fits j u e = outside.read_clock m l rs w s old r none x e
    outside_goes kinds.ReadReply x fits j u e = outside.read_reply m l rs w s old r none x e
    outside_goes kinds.ReadStamp x fits j u e = outside.read_stamp m l rs w s old r none x e
    outside_goes (kinds.Guard d) x fits j u e = outside.guard m l rs w s old r none d x e
    outside_goes (kinds.LoadGuard n) x fits j u e = outside.load_guard m l rs w s old r none n x e (λ last d is. u.idle n d refl last is)
    outside_goes (kinds.BoardLoad word) x fits j u e = outside.board_load m l rs w s old r none word x e
    outside_goes (kinds.BoardTake word link) x fits j u e = outside.board_take m l rs w s old r none word link x e
    outside_goes (kinds.BoardGive word slot) x fits j u e = outside.board_give m l rs w s old r none word slot x e
    outside_goes _ x fits j u e = some_none x e

    -- a join: the keeper takes over what the worker knew, and the worker makes no further step
    join_goes : (worker : ℕ) (x : Spot × Access) → worker ≢ r → join_ask l r worker p ≡ Some x → To (kinds.Join worker) x
    join_goes worker x other e =
        let h = if_some _ _ x e in
        subst (To (kinds.Join worker)) h.1 (joined worker other)
      where
        joined : (worker : ℕ) → worker ≢ r → To (kinds.Join worker) (spots.Seat, Loads)
        joined worker other =
            let word' = put s.word spots.Seat (s.word spots.Seat) in
            let p1 = after m l r (kinds.Join worker) spots.Seat Loads p (s.word spots.Seat) in
            let known = knows_also p1 (s.part worker) in
            let same : p1 ≡ noting m l r (kinds.Join worker) spots.Seat Loads (s.word spots.Seat) p (joins_after p worker) = after_outside m l r (kinds.Join worker) (spots.Seat, Loads) p (s.word spots.Seat) none in
            let one = quiet_joined m l w s old r word' known (load_same s.word spots.Seat)
            (record {
              run = ap (λ (y : PartState). y.run) same;
              finished = ap (λ (z : PartState). z.records.finished) same ∙ noted_finished l r (kinds.Join worker) spots.Seat Loads (s.word spots.Seat) ((joins_after p worker).records);
              read = λ a b e. subst (λ (z : PartState). has_pair z.reads.cells a b ≡ true) same e;
            }) in
            let s1 : Sight = record { word = word'; part = upd s.part r known } in
            let here : upd s.part r known worker ≡ s.part worker = upd_else s.part r known worker other in
            let two = quiet_joined m l w s1 one worker word' (leaves (s.part worker))
            (record { cells = λ i. refl; clock = refl; stamp = λ i. refl; reply = λ i. refl; thunks = λ d j. refl; done = λ d. refl })
            (record {
              run = ap (λ (y : PartState). y.run) (sym here);
              finished = ap (λ (y : PartState). y.records.finished) (sym here);
              read = λ a b e. subst (λ (z : PartState). has_pair z.reads.cells a b ≡ true) (sym here) e;
            }) in
            ([], subst (λ o. IsChunk m l w r (kinds.Join worker) p o (s.word spots.Seat) []) (sym none) refl, record { next = w; leads = leads_alone m l r [] w w (lead_none m l w); joined = two })

  -- the step by whether the runner is in a run
  by_run : (kind : EventKind) (x : Spot × Access) → is_join kind ≡ false → AgreementIsSupplied m l w s r kind (s.word x.0) → asks m l rs r kind p ≡ Some x → (o : Option RunState) → p.run ≡ o → To kind x
  by_run kind x j u e None none = let ask = unless_gone (sizes_for m l rs) p.gone _ x e in outside_to none kind x j (outside_goes none kind x ask.2 j u (ap (ask_by m l rs r kind p) (sym none) ∙ ask.1))
  by_run kind x j u e (Some q) at = inside_goes q at kind x (is_open_run q) refl j u e

  join_by : (worker : ℕ) (x : Spot × Access) → worker ≢ r → (o : Option RunState) → p.run ≡ o → ask_by m l rs r (kinds.Join worker) p o ≡ Some x → To (kinds.Join worker) x
  join_by worker x other None none e = join_goes none worker x other e
  join_by worker x other (Some q) at e = no_join (is_open_run q) e
    where
      no_join : (b : Bool) → (if b then line_ask m l (kinds.Join worker) p.nodes.free p.blocks.free q (next_of m q) else opening_ask (kinds.Join worker) q) ≡ Some x → To (kinds.Join worker) x
      no_join true e = some_none x e
      no_join false e = some_none x e

  to_any : (kind : EventKind) (x : Spot × Access) → AgreementIsSupplied m l w s r kind (s.word x.0) → asks m l rs r kind p ≡ Some x → To kind x
  to_any (kinds.Join worker) x u e =
      let who = joins m l rs (kinds.Join worker) r p x e in
      join_by worker x (λ same. let keeper = who.0 in let low = who.1 in absurd (omega arith)) p.run refl (unless_gone _ p.gone _ x e).1
  to_any kind x u e = by_run kind x refl u e p.run refl

  -- a step of the machine that is supplied leads to a joined state, by the events of its kind
  pub step_goes : (s' : Sight) (kind : EventKind) (step : Steps m l rs s s' r kind) → AgreementIsSupplied m l w s r kind (s.word (step.ask.0))
      → (heads : List Event) × IsChunk m l w r kind p p.run (s.word (step.ask.0)) heads × Goes m l r heads w s'
  step_goes s' kind step u = let to = to_any kind step.ask u step.asked in (to.0, to.1, subst (Goes m l r to.0 w) (sym step.next) to.2)
