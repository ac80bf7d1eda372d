-- A run in progress has a step that comes next.
use Rattle.std.specs.Prelude.{◌==◌, ◌&&◌, not, nat_lt, nat_le, cond, slice_index_or, Bool, true, false, if◌then◌else◌, ◌-◌}
use Rattle.std.proofs.Common.{◌≡◌, ℕ, zero, suc, ◌+◌, ◌≤◌, List, [], ◌∷◌, ◌++◌, length, length-append, take, sym, refl, ap, ◌∙◌, subst, arith, Option, Some, None}
use Rattle.machine_states.specs.map_history.specs.declared.op.Request.{Request}
use Rattle.machine_states.specs.body_terms.specs.declared.micro.Micro.{Micro}
use Rattle.machine_states.specs.body_terms.specs.declared.micro.Micro.TheVariants as micros
use Rattle.machine_states.specs.body_terms.specs.declared.thunk.Thunk.{Thunk}
use Rattle.machine_states.specs.body_terms.specs.Line.{is_event, is_end, micro_at, releases, ending}
use Rattle.machine_states.specs.table_words.specs.declared.layout.Layout.{Layout}
use Rattle.machine_states.specs.table_words.specs.declared.spot.Spot.{Spot}
use Rattle.machine_states.specs.table_words.specs.declared.access.Access.{Access}
use Rattle.machine_states.specs.table_words.specs.Limits.{IsWithinLimits}
use Rattle.machine_states.specs.table_words.specs.Places.{slot_count}
use Rattle.machine_states.specs.structure_laws.specs.Meaning.{Meaning}
use Rattle.machine_states.specs.structure_laws.specs.Laws.{Laws}
use Rattle.machine_states.specs.epoch_core.specs.Moves.{is_clear}
use Rattle.machine_states.specs.epoch_core.specs.declared.stage.Stage.{Stage}
use Rattle.machine_states.specs.epoch_core.specs.declared.stage.Stage.TheVariants as stages
use Rattle.machine_states.specs.runner_parts.specs.declared.event.EventKind.{EventKind}
use Rattle.machine_states.specs.runner_parts.specs.declared.event.EventKind.TheVariants as kinds
use Rattle.machine_states.specs.runner_parts.specs.State.{RunState, PartState}
use Rattle.machine_states.specs.runner_steps.specs.Sections.{thunk_of, is_open_run, line_of, next_of, needs_link}
use Rattle.machine_states.specs.runner_parts.specs.Lists.{cell_read}
use Rattle.machine_states.specs.epoch_core.specs.State.{last_epoch}
use Rattle.machine_states.specs.runner_steps.specs.InRun.{last_clock}
use Rattle.machine_states.specs.runner_steps.specs.Asks.{opening_ask}
use Rattle.machine_states.specs.runner_steps.specs.Asks.{ask_by, line_ask}
use Rattle.machine_states.specs.runner_steps.specs.After.{line_after, outside_after, after_by}
use Rattle.machine_states.specs.runner_steps.specs.AfterInRun as inside
use Rattle.machine_states.specs.runner_steps.specs.AfterOutside as outside
use Rattle.machine_states.specs.World.{World}
use Rattle.machine_states.specs.First.{IsFirst}
use Rattle.machine_states.specs.Reached.{Reached}
use Rattle.machine_states.specs.Sight.{Sight, sight}
use Rattle.machine_states.proofs.Sights.{some_none, unless_gone, joins}
use Rattle.machine_states.proofs.Steps.{some_same}
use Rattle.machine_invariant.specs.machine_blocks.specs.machine_guards.specs.machine_agreement.specs.machine_epochs.proofs.InsideAsked as asked
use Rattle.machine_invariant.specs.machine_blocks.specs.machine_guards.specs.machine_agreement.specs.machine_epochs.proofs.RunPlaces.{is_of_end, next_in_line, open_run}
use Rattle.machine_invariant.specs.machine_blocks.specs.machine_guards.specs.machine_agreement.specs.machine_epochs.proofs.FirstJoin as FirstJoin
use Rattle.machine_states.proofs.FirstSights.{first_parts}
use Rattle.machine_invariant.specs.machine_blocks.specs.machine_guards.specs.machine_agreement.proofs.RunPlaces.{not_ended}
use Rattle.machine_invariant.specs.machine_blocks.specs.machine_guards.specs.machine_agreement.proofs.Ends.{at_end}
use Rattle.machine_invariant.specs.machine_blocks.specs.machine_guards.specs.machine_agreement.proofs.Endings.{no_done}
use Rattle.machine_invariant.specs.After.{AreAllowed}
use Rattle.machine_invariant.specs.Whole.{Beside, IsWhole}
use Rattle.machine_invariant.proofs.Keeping.{IsStep, reached_keeps}
use Rattle.next_steps.proofs.Parts.{each_part}
use Rattle.machine_states.specs.runner_steps.specs.Outside.{blocks_from}

-- a run loads thirteen words, and then has a step that comes next
pub record HasNext (m : Meaning) (q : RunState) : Type 0 where
  pub most : length q.opened ≤ 13
  pub next : length q.opened ≡ 13 → is_end (next_of m q) ≡ false

abbrev pub RunsHaveNext : Meaning → Sight → Type 0
RunsHaveNext m s = (r : ℕ) (q : RunState) → (s.part r).run ≡ Some q → HasNext m q

-- at its end's beginning, or before
event_no_end : (micro : Micro) → is_event micro ≡ true → is_end micro ≡ false
event_no_end micros.End e = absurd (cc)
event_no_end _ e = refl

begins_next : (m : Meaning) (q : RunState) → q.ended ≡ 0 → is_end (next_of m q) ≡ false
begins_next m q e = by (is_event (micro_at (line_of m q) q.at)) refl
  where
    t : Thunk
    t = thunk_of q.opened

    by : (b : Bool) → is_event (micro_at (line_of m q) q.at) ≡ b
        → is_end (cond b (micro_at (line_of m q) q.at) (slice_index_or (ending (line_of m q) q.at t.lock t.word) q.ended micros.End)) ≡ false
    by true is = event_no_end _ is
    by false is = ap (λ n. is_end (slice_index_or (ending (line_of m q) q.at t.lock t.word) n micros.End)) e

abbrev is_ending : EventKind → Bool
is_ending kinds.SetDone = true
is_ending kinds.Release = true
is_ending _ = false

-- an enabled event of a line that is no exchange of its end is that of an event of the line
module _ (m : Meaning) (l : Layout) (q : RunState) (x : Spot × Access) (free blocks : List ℕ) where
  abbrev Asked : EventKind → Micro → Type 0
  Asked kind micro = line_ask m l kind free blocks q micro ≡ Some x

  none_done : {A : Type 0} (kind : EventKind) → is_ending kind ≡ false → Asked kind micros.SetDone → A
  none_done kinds.SetDone h e = absurd (let z = h in cc)
  none_done (kinds.LoadCell None) h e = some_none x e
  none_done _ h e = some_none x e

  none_release : {A : Type 0} (kind : EventKind) (p w : ℕ) → is_ending kind ≡ false → Asked kind (micros.Release p w) → A
  none_release kinds.Release p w h e = absurd (let z = h in cc)
  none_release (kinds.LoadCell None) p w h e = some_none x e
  none_release _ p w h e = some_none x e

  none_end : {A : Type 0} (kind : EventKind) → Asked kind micros.End → A
  none_end (kinds.LoadCell None) e = some_none x e
  none_end _ e = some_none x e

  none_word : {A : Type 0} (kind : EventKind) (p k w : ℕ) → Asked kind (micros.CheckWord p k w) → A
  none_word (kinds.LoadCell None) p k w e = some_none x e
  none_word _ p k w e = some_none x e

  none_fresh : {A : Type 0} (kind : EventKind) (p k : ℕ) → Asked kind (micros.CheckFresh p k) → A
  none_fresh (kinds.LoadCell None) p k e = some_none x e
  none_fresh _ p k e = some_none x e

  none_free : {A : Type 0} (kind : EventKind) (p k w : ℕ) → Asked kind (micros.CheckFree p k w) → A
  none_free (kinds.LoadCell None) p k w e = some_none x e
  none_free _ p k w e = some_none x e

  none_held : {A : Type 0} (kind : EventKind) (p k w : ℕ) → Asked kind (micros.CheckHeld p k w) → A
  none_held (kinds.LoadCell None) p k w e = some_none x e
  none_held _ p k w e = some_none x e

  line_event : (kind : EventKind) (micro : Micro) → is_ending kind ≡ false → Asked kind micro → (is_of_end micro ≡ false) × (is_event micro ≡ true)
  line_event kind micros.SetDone h e = none_done kind h e
  line_event kind (micros.Release p w) h e = none_release kind p w h e
  line_event kind micros.End h e = none_end kind e
  line_event kind (micros.CheckWord p k w) h e = none_word kind p k w e
  line_event kind (micros.CheckFresh p k) h e = none_fresh kind p k e
  line_event kind (micros.CheckFree p k w) h e = none_free kind p k w e
  line_event kind (micros.CheckHeld p k w) h e = none_held kind p k w e
  line_event kind _ h e = (refl, refl)

  pub stands_at_event : (kind : EventKind) → is_ending kind ≡ false → Asked kind (next_of m q) → is_event (micro_at (line_of m q) q.at) ≡ true
  stands_at_event kind h e =
      let is = line_event kind (next_of m q) h e in
      ap is_event (next_in_line m q (next_of m q) is.0 refl) ∙ is.1

-- the run of this part, if any, has loaded what this run has and made as many exchanges of its end
pub record SameEnd (q : RunState) (p' : PartState) : Type 0 where
  pub same : (q' : RunState) → p'.run ≡ Some q' → (q'.opened ≡ q.opened) × (q'.ended ≡ q.ended)

module _ (m : Meaning) (l : Layout) (p : PartState) (q : RunState) (at : p.run ≡ Some q) (found : ℕ) where
  by_run : (p' : PartState) (q1 : RunState) → p'.run ≡ Some q1 → q1.opened ≡ q.opened → q1.ended ≡ q.ended → SameEnd q p'
  by_run p' q1 e words ended = record {
    same = λ q' is. let one : q1 ≡ q' = some_same q1 q' (sym e ∙ is) in
        (ap (λ (y : RunState). y.opened) (sym one) ∙ words, ap (λ (y : RunState). y.ended) (sym one) ∙ ended);
  }

  if_same : (b : Bool) (y z : PartState) → SameEnd q y → SameEnd q z → SameEnd q (if b then y else z)
  if_same true y z one two = one
  if_same false y z one two = two

  unchanged : SameEnd q p
  unchanged = by_run p q at refl refl

  fill_same : (slot : ℕ) (made : Option ℕ) → SameEnd q (inside.fill_loaded m l slot p q made found)
  fill_same slot None = by_run _ _ refl refl refl
  fill_same slot (Some t) = by_run _ _ refl refl refl

  make_same : (made : Option ℕ) → SameEnd q (inside.make_committed m l p q made found)
  make_same None = unchanged
  make_same (Some t) = by_run _ _ refl refl refl

  line_same : (kind : EventKind) (micro : Micro) → is_ending kind ≡ false → SameEnd q (line_after m l kind p q micro found)
  line_same kinds.Commit micro h = by_run _ _ refl refl refl
  line_same (kinds.LoadCell place) micro h = by_run _ _ refl refl refl
  line_same kinds.ExchangeCell micro h = by_run _ _ refl refl refl
  line_same (kinds.PrivateLoad slot word) micro h = fill_same slot q.made
  line_same (kinds.PrivateStore slot word number) micro h = by (needs_link q micro)
    where
      by : (b : Bool) → SameEnd q (inside.with_run p (if b then inside.block_emptied (slot - blocks_from m l) q else inside.filled m l number q))
      by true = by_run _ _ refl refl refl
      by false = by_run _ _ refl refl refl
  line_same (kinds.LinkCommit b) micro h = by_run _ _ refl refl refl
  line_same kinds.MakeCommit micro h = make_same q.made
  line_same kinds.RetireCommit micro h = by_run _ _ refl refl refl
  line_same kinds.EpochForRetire micro h = by_run _ _ refl refl refl
  line_same kinds.SetDone micro h = absurd (let z = h in cc)
  line_same kinds.Release micro h = absurd (let z = h in cc)
  line_same kinds.ClockLoad micro h = by_run _ _ refl refl refl
  line_same kinds.StampExchange micro h = if_same (nat_lt q.word last_clock) _ _ (by_run _ _ refl refl refl) unchanged
  line_same kinds.ClockRaise micro h = by_run _ _ refl refl refl
  line_same kinds.ReplyExchange micro h = by_run _ _ refl refl refl
  line_same kinds.NestedLoad micro h = by_run _ _ refl refl refl
  line_same kinds.NestedHold micro h = by_run _ _ refl refl refl
  line_same kinds.OutcomeLoad micro h = by_run _ _ refl refl refl
  line_same kinds.OutcomeCommit micro h = by_run _ _ refl refl refl
  line_same _ micro h = unchanged

-- the first of the releases stands behind the setting of the done word
first_release : (ms : List Micro) (lock word : ℕ) → is_end (slice_index_or (releases ms ++ micros.Release lock word ∷ []) 0 micros.End) ≡ false
first_release [] lock word = refl
first_release (micros.CheckHeld p k w ∷ ms) lock word = refl
first_release (micro ∷ ms) lock word = first_release ms lock word

-- the run of this part, if any, has one
pub record HaveNext (m : Meaning) (p : PartState) : Type 0 where
  pub have : (q : RunState) → p.run ≡ Some q → HasNext m q

pub if_next : (m : Meaning) (b : Bool) (y z : PartState) → HaveNext m y → HaveNext m z → HaveNext m (if b then y else z)
if_next m true y z one two = one
if_next m false y z one two = two

one_next : {m : Meaning} (p' : PartState) (q1 : RunState) → p'.run ≡ Some q1 → HasNext m q1 → HaveNext m p'
one_next {m = m} p' q1 e has = record { have = λ q is. subst (HasNext m) (some_same q1 q (sym e ∙ is)) has }

module _ (m : Meaning) (l : Layout) (rs : List Request) (g : Beside) (s : Sight) (whole : IsWhole m l g s) (r : ℕ) (q : RunState)
    (is : (s.part r).run ≡ Some q) (old : HasNext m q) (x : Spot × Access) where
  abbrev p : PartState
  p = s.part r

  abbrev found : ℕ
  found = s.word x.0

  -- a step of the line
  in_line_next : (kind : EventKind) → is_open_run q ≡ true → is_ending kind ≡ false → line_ask m l kind p.nodes.free p.blocks.free q (next_of m q) ≡ Some x
      → HaveNext m (line_after m l kind p q (next_of m q) found)
  in_line_next kind opened h e =
      let all = open_run q opened in
      let going = not_ended m l g.agreement s whole.sections r q is all (stands_at_event m l q x p.nodes.free p.blocks.free kind h e) in
      record {
        have = λ q' is'. let same = (line_same m l p q is found kind (next_of m q) h).same q' is' in record {
          most = subst (λ (xs : List ℕ). length xs ≤ 13) (sym same.0) old.most;
          next = λ long. begins_next m q' (same.1 ∙ going);
        };
      }

  module _ (opened : is_open_run q ≡ true) where
    abbrev t : Thunk
    t = thunk_of q.opened

    ended_at : (n : ℕ) (micro : Micro) → slice_index_or (ending (line_of m q) q.at t.lock t.word) n micros.End ≡ micros.SetDone → n ≡ 0
    ended_at zero micro e = refl
    ended_at (suc n) micro e = absurd (no_done (take q.at (line_of m q)) t.lock t.word n e)

    done_next : next_of m q ≡ micros.SetDone → is_end (next_of m (inside.ended_more q)) ≡ false
    done_next next =
        let place = at_end m l rs g.agreement s whole.sections r q is opened micros.SetDone (omega arith) next in
        let going : q.ended ≡ 0 = ended_at q.ended micros.SetDone place.1 in
        ap (λ b. is_end (cond b (micro_at (line_of m q) q.at) (slice_index_or (ending (line_of m q) q.at t.lock t.word) (q.ended + 1) micros.End))) place.0
        ∙ (ap (λ n. is_end (slice_index_or (ending (line_of m q) q.at t.lock t.word) (n + 1) micros.End)) going
        ∙ first_release (take q.at (line_of m q)) t.lock t.word)

    set_done_next : line_ask m l kinds.SetDone p.nodes.free p.blocks.free q (next_of m q) ≡ Some x → HaveNext m (line_after m l kinds.SetDone p q (next_of m q) found)
    set_done_next e = one_next (inside.done_set p q) (inside.ended_more q) refl
        (record { most = old.most; next = λ long. done_next ((asked.set_done_asked q x (next_of m q) e).0) })

    release_next : HaveNext m (line_after m l kinds.Release p q (next_of m q) found)
    release_next = by (is_end (next_of m (inside.ended_more q))) refl (record p { reads = cell_read p.reads (inside.place_of (next_of m q)) found })
      where
        by : (b : Bool) → is_end (next_of m (inside.ended_more q)) ≡ b → (pp : PartState)
            → HaveNext m (if b then inside.run_over m l pp (inside.ended_more q) else inside.with_run pp (inside.ended_more q))
        by true e pp = record { have = λ q' is'. some_none q' is' }
        by false e pp = one_next (inside.with_run pp (inside.ended_more q)) (inside.ended_more q) refl
            (record { most = old.most; next = λ long. e })

    line_next : (kind : EventKind) → line_ask m l kind p.nodes.free p.blocks.free q (next_of m q) ≡ Some x → HaveNext m (line_after m l kind p q (next_of m q) found)
    line_next kinds.SetDone e = set_done_next e
    line_next kinds.Release e = release_next
    line_next kind e = in_line_next kind opened refl e

  -- a load of one more word
  opening_next : (kind : EventKind) → opening_ask kind q ≡ Some x → HaveNext m (inside.opened_more p q found)
  opening_next (kinds.LoadThunk None) e =
      let low = (asked.open_more_asked q x e).0 in
      let long = length-append q.opened (found ∷ []) in
      one_next (inside.opened_more p q found) (record q { opened = q.opened ++ found ∷ [] }) refl
      (record { most = omega arith; next = λ all. absurd (omega arith) })
  opening_next kinds.LoadDone e =
      let last = (asked.load_done_asked q x e).0 in
      let long = length-append q.opened (found ∷ []) in
      let begun = ((whole.sections.tied r).begins q is (omega arith)).1 in
      one_next (inside.opened_more p q found) (record q { opened = q.opened ++ found ∷ [] }) refl
      (record { most = omega arith; next = λ all. begins_next m (record q { opened = q.opened ++ found ∷ [] }) begun })
  opening_next _ e = some_none x e

  pub inside_next : (kind : EventKind) → ask_by m l rs r kind p (Some q) ≡ Some x → HaveNext m (after_by m l kind p (Some q) found)
  inside_next kind e = by (is_open_run q) refl e
    where
      by : (b : Bool) → is_open_run q ≡ b → (if b then line_ask m l kind p.nodes.free p.blocks.free q (next_of m q) else opening_ask kind q) ≡ Some x
          → HaveNext m (if b then line_after m l kind p q (next_of m q) found else inside.opened_more p q found)
      by true opened e = line_next opened kind e
      by false opened e = opening_next kind e

-- a step outside a run begins one, or none
module _ (m : Meaning) (l : Layout) (p : PartState) (none : p.run ≡ None) (found : ℕ) where
  no_run : (p' : PartState) → p'.run ≡ p.run → HaveNext m p'
  no_run p' e = record { have = λ q is. some_none q (sym none ∙ (sym e ∙ is)) }

  scan_next : (stage : Stage) → HaveNext m (outside.scan_one_after l p stage found)
  scan_next (stages.Scanning x next clear) = if_next m (nat_le next l.runners) _ _
      (if_next m (next == l.runners && not ((clear && is_clear x found) && nat_lt x last_epoch)) _ _ (no_run _ refl) (no_run _ refl)) (no_run _ refl)
  scan_next _ = no_run _ refl

  advance_next : (stage : Stage) → HaveNext m (outside.advance_after p stage)
  advance_next (stages.Scanning x next clear) = if_next m (nat_lt x last_epoch) _ _ (no_run _ refl) (no_run _ refl)
  advance_next _ = no_run _ refl

  begun_next : (d : ℕ) → HaveNext m (outside.open_after d p found)
  begun_next d = one_next (outside.open_after d p found) (outside.opened d found) refl
      (record { most = omega arith; next = λ all. absurd (omega arith) })

  pub outside_next : (kind : EventKind) → HaveNext m (outside_after m l kind p found)
  outside_next kinds.EnterLoad = no_run _ refl
  outside_next kinds.Announce = no_run _ refl
  outside_next kinds.EnterAgain = no_run _ refl
  outside_next kinds.Idle = no_run _ refl
  outside_next kinds.ScanEpoch = no_run _ refl
  outside_next (kinds.ScanOne n) = scan_next p.stage
  outside_next kinds.Advance = advance_next p.stage
  outside_next kinds.Split = if_next m (nat_lt p.records.splits l.runners) _ _ (no_run _ refl) (no_run _ refl)
  outside_next (kinds.Join worker) = no_run _ refl
  outside_next (kinds.LoadCell (Some place)) = no_run _ refl
  outside_next (kinds.LoadEntry request reply) = no_run _ refl
  outside_next (kinds.PrivateLoad slot word) = if_next m (nat_lt slot (slot_count l m.fixed_slots)) _ _ (no_run _ refl) (no_run _ refl)
  outside_next (kinds.PrivateStore slot word number) = no_run _ refl
  outside_next (kinds.Hold thunk d) = if_next m (found == thunk.word) _ _ (no_run _ refl) (no_run _ refl)
  outside_next (kinds.LoadThunk (Some d)) = begun_next d
  outside_next _ = no_run _ refl

module _ (m : Meaning) (l : Layout) (rs : List Request) (s s' : Sight) (r : ℕ) (kind : EventKind) (st : IsStep m l rs s s' r kind) where
  own_next : RunsHaveNext m s → (o : Option RunState) → (s.part r).run ≡ o → ask_by m l rs r kind (s.part r) o ≡ Some st.step.ask
      → HaveNext m (after_by m l kind (s.part r) o (s.word st.step.ask.0))
  own_next old None is e = outside_next m l (s.part r) is (s.word st.step.ask.0) kind
  own_next old (Some q) is e = inside_next m l rs st.beside s st.whole r q is (old r q is) st.step.ask kind e

  pub next_kept : RunsHaveNext m s → RunsHaveNext m s'
  next_kept old r' = (subst (λ (y : Sight). HaveNext m (y.part r')) (sym st.step.next)
      (each_part m l s r st.step.ask (λ i p. HaveNext m p) (λ i p blocks board records gone h. record { have = h.have }) kind (joins m l rs kind r (s.part r) st.step.ask st.step.asked)
      (own_next old (s.part r).run refl (unless_gone _ (s.part r).gone _ st.step.ask st.step.asked).1)
      (λ i ne. record { have = old i }) r')).have

pub reached_next : (m : Meaning) → Laws m → (l : Layout) → IsWithinLimits l → (rs : List Request) → AreAllowed rs → (w : World)
    → Reached m l rs w → RunsHaveNext m (sight m l rs w)
reached_next m laws l limits rs allowed w reached =
    reached_keeps m laws l limits rs allowed (RunsHaveNext m)
    (λ v start r q is. absurd (no_run_first m l rs v start r q is))
    (λ s s' r kind st old. next_kept m l rs s s' r kind st old) w reached
  where
    no_run_first : (m : Meaning) (l : Layout) (rs : List Request) (v : World) → IsFirst m l rs v → (r : ℕ) (q : RunState) → ((sight m l rs v).part r).run ≡ Some q → ⊥
    no_run_first m l rs v start r q is =
        let none : ((sight m l rs v).part r).run ≡ None = subst (λ (p : PartState). p.run ≡ None) (sym (first_parts m l v.parts start.parts r))
        (FirstJoin.each_part m l (λ p. p.run ≡ None) refl (λ k. refl) refl r) in
        some_none q (sym none ∙ is)
