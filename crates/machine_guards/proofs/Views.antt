-- What guards see of a runner's part, and which steps leave it as it is.
use Rattle.std.specs.Prelude.{cond, Bool, true, false, nat_le}
use Rattle.std.proofs.Common.{◌≡◌, ℕ, List, refl, sym, ap, Option, Some, None}
use Rattle.machine_states.specs.map_history.specs.declared.op.Request.{Request}
use Rattle.machine_states.specs.body_terms.specs.declared.micro.Micro.{Micro}
use Rattle.machine_states.specs.table_words.specs.declared.layout.Layout.{Layout}
use Rattle.machine_states.specs.table_words.specs.declared.spot.Spot.{Spot}
use Rattle.machine_states.specs.table_words.specs.declared.access.Access.{Access}
use Rattle.machine_states.specs.structure_laws.specs.Meaning.{Meaning}
use Rattle.machine_states.specs.epoch_core.specs.State.{is_entered}
use Rattle.machine_states.specs.epoch_core.specs.declared.stage.Stage.{Stage}
use Rattle.machine_states.specs.epoch_core.specs.declared.stage.Stage.TheVariants.{Scanning}
use Rattle.machine_states.specs.runner_parts.specs.declared.event.EventKind.{EventKind}
use Rattle.machine_states.specs.runner_parts.specs.declared.event.EventKind.TheVariants as kinds
use Rattle.machine_states.specs.runner_parts.specs.declared.entries.Published.{Published}
use Rattle.machine_states.specs.runner_parts.specs.State.{RunState, PartState}
use Rattle.machine_states.specs.runner_steps.specs.Asks.{outside_ask}
use Rattle.machine_states.specs.runner_steps.specs.After.{outside_after, line_after}
use Rattle.machine_states.specs.runner_steps.specs.Blocks.{blocks_outside, blocks_in_line}
use Rattle.machine_states.specs.runner_steps.specs.AfterInRun.{opened_more, fill_loaded, make_committed}
use Rattle.machine_states.specs.runner_steps.specs.AfterOutside.{scan_one_after, advance_after}
use Rattle.machine_states.specs.runner_steps.specs.Outside.{scan_one_ask, advance_ask}
use Rattle.machine_states.specs.runner_steps.specs.Sections.{next_of}
use Rattle.machine_states.proofs.Sights.{some_none}
use Rattle.machine_agreement.specs.machine_epochs.proofs.OutsideAsked as asked
use Rattle.machine_guards.specs.State.{run_of, won_of, hand_of}

-- what guards see of a part but for its lists of blocks, with its published section and its limbo
pub record View : Type 0 where
  pub entered : Bool
  pub named : Option ℕ
  pub sure : Bool
  pub looked : List ℕ
  pub run : Option ℕ
  pub published : Option Published
  pub limbo : List ℕ
  pub won : List ℕ
  pub hand : Option ℕ

abbrev pub view : PartState → View
view p = record {
  entered = is_entered p.stage;
  named = p.guards.named;
  sure = p.guards.sure;
  looked = p.guards.looked;
  run = run_of p.run;
  published = p.published;
  limbo = p.descriptors.limbo;
  won = won_of p.run;
  hand = hand_of p.run;
}

-- the steps that may change it, outside a run
abbrev pub is_guarding : EventKind → Bool
is_guarding kinds.EnterAgain = true
is_guarding kinds.Idle = true
is_guarding (kinds.LoadCell (Some place)) = true
is_guarding (kinds.Hold thunk d) = true
is_guarding (kinds.LoadThunk (Some d)) = true
is_guarding (kinds.Guard d) = true
is_guarding (kinds.LoadGuard n) = true
is_guarding _ = false

-- and in a run
abbrev pub is_release : EventKind → Bool
is_release kinds.Release = true
is_release _ = false

-- a run links a block
abbrev pub is_linking : EventKind → Bool
is_linking (kinds.PrivateStore slot word number) = true
is_linking (kinds.LinkCommit b) = true
is_linking _ = false

either_view : (b : Bool) (p p' p'' : PartState) → view p' ≡ view p → view p'' ≡ view p → view (cond b p' p'') ≡ view p
either_view true p p' p'' e e' = e
either_view false p p' p'' e e' = e'

module _ (m : Meaning) (l : Layout) (rs : List Request) (r : ℕ) (p : PartState) (found : ℕ) (x : Spot × Access) where
  -- a stage that isn't entered, behind one that isn't
  not_entered : (b : Bool) → b ≡ is_entered p.stage → ◌≡◌ {A = View} (record (view p) { entered = b }) (view p)
  not_entered b e = ap (λ c. record (view p) { entered = c }) e

  scan_one : (n : ℕ) (st : Stage) → p.stage ≡ st → scan_one_ask l n st ≡ Some x → view (scan_one_after l p st found) ≡ view p
  scan_one n (Scanning epoch next clear) at e =
      let out = not_entered false (sym (ap is_entered at)) in
      either_view (nat_le next l.runners) p _ _ (either_view _ p _ _ out out) refl
  scan_one n _ at e = some_none x e

  advance : (st : Stage) → p.stage ≡ st → advance_ask l st ≡ Some x → view (advance_after p st) ≡ view p
  advance (Scanning epoch next clear) at e =
      let out = not_entered false (sym (ap is_entered at)) in either_view _ p _ _ out refl
  advance _ at e = some_none x e

  outside : (kind : EventKind) → is_guarding kind ≡ false → outside_ask m l rs r kind p ≡ Some x → view (outside_after m l kind p found) ≡ view p
  outside kinds.EnterLoad k e = not_entered false (sym (ap is_entered (asked.enter_load_asked p.stage x e).0))
  outside kinds.Announce k e = not_entered false (sym (ap is_entered (asked.announce_asked r p.stage x e).1))
  outside kinds.EnterAgain k e = absurd (let y = k in cc)
  outside kinds.Idle k e = absurd (let y = k in cc)
  outside kinds.ScanEpoch k e = not_entered false (sym (ap is_entered (asked.enter_load_asked p.stage x e).0))
  outside (kinds.ScanOne n) k e = scan_one n p.stage refl e
  outside kinds.Advance k e = advance p.stage refl e
  outside kinds.Split k e = either_view _ p _ _ refl refl
  outside (kinds.LoadCell (Some place)) k e = absurd (let y = k in cc)
  outside (kinds.PrivateLoad slot word) k e = either_view _ p _ _ refl refl
  outside (kinds.Hold thunk d) k e = absurd (let y = k in cc)
  outside (kinds.LoadThunk (Some d)) k e = absurd (let y = k in cc)
  outside (kinds.Guard d) k e = absurd (let y = k in cc)
  outside (kinds.LoadGuard n) k e = absurd (let y = k in cc)
  outside _ k e = refl

module _ (m : Meaning) (l : Layout) (p : PartState) (q : RunState) (at : p.run ≡ Some q) (found : ℕ) where
  -- the run goes on
  pub ran : ◌≡◌ {A = View} (record (view p) { run = Some q.descriptor; won = q.won; hand = q.block }) (view p)
  ran = ap (λ o. record (view p) { run = run_of o; won = won_of o; hand = hand_of o }) (sym at)

  filled : (slot : ℕ) (o : Option ℕ) → view (fill_loaded m l slot p q o found) ≡ view p
  filled slot None = ran
  filled slot (Some s) = ran

  made : (o : Option ℕ) → view (make_committed m l p q o found) ≡ view p
  made None = refl
  made (Some s) = ran

  in_line : (kind : EventKind) (micro : Micro) → is_release kind ≡ false → is_linking kind ≡ false → view (line_after m l kind p q micro found) ≡ view p
  in_line kinds.Commit micro k n = ran
  in_line (kinds.LoadCell place) micro k n = ran
  in_line kinds.ExchangeCell micro k n = ran
  in_line (kinds.PrivateLoad slot word) micro k n = filled slot q.made
  in_line (kinds.PrivateStore slot word number) micro k n = absurd (let y = n in cc)
  in_line (kinds.LinkCommit b) micro k n = absurd (let y = n in cc)
  in_line kinds.MakeCommit micro k n = made q.made
  in_line kinds.RetireCommit micro k n = ran
  in_line kinds.EpochForRetire micro k n = ran
  in_line kinds.SetDone micro k n = ran
  in_line kinds.Release micro k n = absurd (let y = k in cc)
  in_line kinds.ClockLoad micro k n = ran
  in_line kinds.StampExchange micro k n = either_view _ p _ _ ran refl
  in_line kinds.ClockRaise micro k n = ran
  in_line kinds.ReplyExchange micro k n = ran
  in_line kinds.NestedLoad micro k n = ran
  in_line kinds.NestedHold micro k n = ran
  in_line kinds.OutcomeLoad micro k n = ran
  in_line kinds.OutcomeCommit micro k n = ran
  in_line _ micro k n = refl

  pub inside : (kind : EventKind) (b : Bool) → is_release kind ≡ false → is_linking kind ≡ false → view (cond b (line_after m l kind p q (next_of m q) found) (opened_more p q found)) ≡ view p
  inside kind b k n = either_view b p _ _ (in_line kind (next_of m q) k n) ran

  -- and its runner's blocks stay
  blocks_line : (kind : EventKind) (micro : Micro) → is_release kind ≡ false → is_linking kind ≡ false → blocks_in_line m l kind p.blocks q micro found ≡ p.blocks
  blocks_line (kinds.PrivateStore slot word number) micro k n = absurd (let y = n in cc)
  blocks_line (kinds.LinkCommit b) micro k n = absurd (let y = n in cc)
  blocks_line kinds.Release micro k n = absurd (let y = k in cc)
  blocks_line _ micro k n = refl

  pub blocks_inside : (kind : EventKind) (b : Bool) → is_release kind ≡ false → is_linking kind ≡ false → cond b (blocks_in_line m l kind p.blocks q (next_of m q) found) p.blocks ≡ p.blocks
  blocks_inside kind true k n = blocks_line kind (next_of m q) k n
  blocks_inside kind false k n = refl

-- outside a run, such a step leaves what guards see
pub view_outside : (m : Meaning) (l : Layout) (rs : List Request) (r : ℕ) (p : PartState) (found : ℕ) (x : Spot × Access) (kind : EventKind)
    → is_guarding kind ≡ false → outside_ask m l rs r kind p ≡ Some x → view (outside_after m l kind p found) ≡ view p
view_outside m l rs r p found x kind k e = outside m l rs r p found x kind k e

pub blocks_stay : (m : Meaning) (l : Layout) (p : PartState) (found : ℕ) (kind : EventKind) → is_guarding kind ≡ false → blocks_outside m l kind p found ≡ p.blocks
blocks_stay m l p found (kinds.LoadCell (Some place)) k = absurd (let y = k in cc)
blocks_stay m l p found (kinds.Hold thunk d) k = absurd (let y = k in cc)
blocks_stay m l p found (kinds.LoadGuard n) k = absurd (let y = k in cc)
blocks_stay m l p found _ k = refl
