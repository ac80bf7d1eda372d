-- Once all workers are joined, what the keeper left last in a word stands there; and the keeper publishes nothing.
use Rattle.std.specs.Prelude.{◌==◌, ◌&&◌, ◌%◌, not, nat_lt, nat_le, slice_get, is_none, Bool, true, false, if◌then◌else◌}
use Rattle.std.proofs.Common.{◌≡◌, ◌≢◌, ℕ, zero, suc, ◌<◌, ◌≤◌, List, [], ◌∷◌, ◌++◌, length, ⊎_elim, sym, refl, ap, ◌∙◌, subst, arith, Option, Some, None}
use Rattle.std.proofs.lemmas.Bool.Decides.{nat_tests}
use Rattle.std.proofs.lemmas.Bool.{cases_lt, and_parts}
use Rattle.std.proofs.lemmas.Nat.{mod_below}
use Rattle.section_lines.specs.small_lemmas.proofs.Lists.{get_last}
use Rattle.machine_states.specs.map_history.specs.declared.op.Request.{Request}
use Rattle.machine_states.specs.body_terms.specs.Line.{is_end}
use Rattle.machine_states.specs.body_terms.specs.declared.micro.Micro.{Micro}
use Rattle.machine_states.specs.body_terms.specs.declared.thunk.Thunk.{Thunk}
use Rattle.machine_states.specs.table_words.specs.declared.layout.Layout.{Layout}
use Rattle.machine_states.specs.table_words.specs.declared.spot.Spot.{Spot}
use Rattle.machine_states.specs.table_words.specs.declared.access.Access.{Access}
use Rattle.machine_states.specs.table_words.specs.Access.{written}
use Rattle.machine_states.specs.table_words.specs.Limits.{IsWithinLimits}
use Rattle.machine_states.specs.table_words.specs.Places.{slot_count}
use Rattle.machine_states.specs.table_words.specs.Seen.{upd, put}
use Rattle.machine_states.specs.table_words.proofs.Seen.{put_here, put_elsewhere}
use Rattle.machine_states.specs.structure_laws.specs.Meaning.{Meaning}
use Rattle.machine_states.specs.structure_laws.specs.Laws.{Laws}
use Rattle.machine_states.specs.epoch_core.specs.Moves.{is_clear}
use Rattle.machine_states.specs.runner_parts.specs.declared.entries.Known.{Known}
use Rattle.machine_states.specs.runner_parts.specs.declared.entries.Left.{Left}
use Rattle.machine_states.specs.runner_parts.specs.declared.entries.Published.{Published}
use Rattle.machine_states.specs.epoch_core.specs.declared.stage.Stage.{Stage}
use Rattle.machine_states.specs.epoch_core.specs.declared.stage.Stage.TheVariants as stages
use Rattle.machine_states.specs.runner_parts.specs.declared.event.EventKind.{EventKind}
use Rattle.machine_states.specs.runner_parts.specs.declared.event.EventKind.TheVariants as kinds
use Rattle.machine_states.specs.runner_parts.specs.State.{RunState, RecordsState, PartState}
use Rattle.machine_states.specs.runner_parts.specs.Tests.{has, is_next, is_open, is_walking, is_between, are_answered, is_answered}
use Rattle.machine_states.specs.runner_steps.specs.Asks.{sizes_for}
use Rattle.machine_states.specs.runner_steps.specs.Asks.{ask_by, outside_ask}
use Rattle.machine_states.specs.runner_steps.specs.After.{line_after, inside_after, outside_after, after_by, after}
use Rattle.machine_states.specs.runner_steps.specs.Sections.{is_open_run, next_of}
use Rattle.machine_states.specs.runner_steps.specs.Outside.{hold_ask, is_ready, is_publishable}
use Rattle.machine_states.specs.epoch_core.specs.State.{last_epoch}
use Rattle.machine_states.specs.runner_steps.specs.InRun.{last_clock}
use Rattle.machine_states.specs.runner_steps.specs.AfterInRun as inside
use Rattle.machine_states.specs.runner_steps.specs.AfterOutside as outside
use Rattle.machine_states.specs.runner_steps.specs.After.{left_more, noted, knows_also, leaves}
use Rattle.machine_states.specs.World.{World, is_join}
use Rattle.machine_states.specs.First.{IsFirst, first_part, keeper_part, worker_part}
use Rattle.machine_states.specs.Reached.{Reached}
use Rattle.machine_states.specs.Sight.{Sight, sight}
use Rattle.machine_states.proofs.FirstSights.{first_parts}
use Rattle.machine_states.proofs.Sights.{if_some, unless_gone, joins}
use Rattle.machine_states.proofs.Updates.{upd_here, upd_else}
use Rattle.machine_facts.specs.machine_agreement.specs.machine_epochs.proofs.FirstJoin as FirstJoin
use Rattle.machine_facts.specs.machine_agreement.proofs.Releases.{get_more}
use Rattle.machine_facts.specs.machine_invariant.specs.After.{AreAllowed}
use Rattle.machine_facts.specs.machine_invariant.proofs.Basics.{not_both}
use Rattle.machine_facts.specs.machine_invariant.proofs.Sights.{after_is}
use Rattle.machine_facts.specs.machine_invariant.proofs.Keeping.{IsStep, reached_keeps}
use Rattle.next_steps.proofs.Parts.{each_part}
use Rattle.runner_facts.specs.Facts.{JoinedAreGone}
use Rattle.runner_facts.specs.Keeper.{AllJoined, IsLastLeft, LeftStands, KeeperStands}
use Rattle.runner_facts.proofs.Joined.{keeps, alike, gone_kept, first_gone}

get_kept : {A : Type 0} (xs : List A) (f y : A) (i : ℕ) → slice_get xs i ≡ Some y → slice_get (xs ++ f ∷ []) i ≡ Some y
get_kept [] f y i e = absurd (let z = e in cc)
get_kept (x ∷ xs) f y zero e = e
get_kept (x ∷ xs) f y (suc i) e = get_kept xs f y i e

-- what the keeper's step adds
left_pushed : (before : List Left) (kind : EventKind) (spot : Spot) (n : ℕ) → is_join kind ≡ false
    → left_more kind spot n before ≡ before ++ record { spot = spot; number = n } ∷ []
left_pushed before (kinds.Join worker) spot n other = absurd (let e = other in cc)
left_pushed before _ spot n other = refl

module _ (l : Layout) (r : ℕ) (is : r ≡ l.runners) where
  keeper_test : (r == l.runners) ≡ true
  keeper_test = same r l.runners is
    where
      same : (a b : ℕ) → a ≡ b → (a == b) ≡ true
      same a b e = grind (arith, nat_tests)

  noted_left : (kind : EventKind) (spot : Spot) (access : Access) (found : ℕ) (z : RecordsState) → is_join kind ≡ false
      → (noted l r kind spot access found z).left ≡ z.left ++ record { spot = spot; number = written access found } ∷ []
  noted_left kind spot access found z other =
      ap (λ (b : Bool). if b then left_more kind spot (written access found) z.left else z.left) keeper_test
      ∙ left_pushed z.left kind spot (written access found) other

  joined_left : (worker : ℕ) (spot : Spot) (access : Access) (found : ℕ) (z : RecordsState)
      → (noted l r (kinds.Join worker) spot access found z).left ≡ []
  joined_left worker spot access found z =
      ap (λ (b : Bool). if b then left_more (kinds.Join worker) spot (written access found) z.left else z.left) keeper_test

-- an entry more, and the word as it leaves it
one_more : (word : Spot → ℕ) (left : List Left) (x0 : Left) → ((x : Left) → IsLastLeft left x → word x.spot ≡ x.number) → (x : Left)
    → IsLastLeft (left ++ x0 ∷ []) x → put word x0.spot x0.number x.spot ≡ x.number
one_more word left x0 old x last = ⊎_elim
    (λ before. put_elsewhere word x0.spot x0.number x.spot (λ e. last.last (length left) x0 before.0 (get_last left x0) (sym e))
    ∙ old x (record { at = last.at; here = before.1; last = λ i y later e. last.last i y later (get_kept left x0 y i e) }))
    (λ now. subst (λ (y : Left). put word x0.spot x0.number y.spot ≡ y.number) now.1 (put_here word x0.spot x0.number))
    (get_more left x0 x last.at last.here)

module _ (m : Meaning) (l : Layout) (rs : List Request) (s s' : Sight) (r : ℕ) where
  -- who makes a step once all workers are joined is the keeper
  is_keeper : (kind : EventKind) → IsStep m l rs s s' r kind → JoinedAreGone l s → AllJoined l s → r ≡ l.runners
  is_keeper kind st gone all = ⊎_elim
      (λ low. not_both (gone r (all r low)) (unless_gone (sizes_for m l rs) (s.part r).gone (ask_by m l rs r kind (s.part r) (s.part r).run) st.step.ask st.step.asked).0)
      (λ high. let top = st.step.runner in omega arith)
      (cases_lt r l.runners)

  other_left : (kind : EventKind) (st : IsStep m l rs s s' r kind) → is_join kind ≡ false → JoinedAreGone l s → LeftStands l s → LeftStands l s'
  other_left kind st other gone old all' x last =
      let all : AllJoined l s = λ worker low. ap (λ xs. has xs worker) (sym (alike m l rs s s' r kind st other l.runners).joined) ∙ all' worker low in
      let is = is_keeper kind st gone all in
      let found = s.word st.step.ask.0 in
      let p' = after m l r kind st.step.ask.0 st.step.ask.1 (s.part r) found in
      let next = st.step.next ∙ after_is m l s r kind st.step.ask other in
      let left : (s'.part l.runners).records.left ≡ (s.part l.runners).records.left
      ++ record { spot = st.step.ask.0; number = written st.step.ask.1 found } ∷ [] =
      ap (λ (y : Sight). (y.part l.runners).records.left) next
      ∙ (ap (λ n. (upd s.part r p' n).records.left) (sym is)
      ∙ (ap (λ (y : PartState). y.records.left) (upd_here s.part r p')
      ∙ (noted_left l r is kind st.step.ask.0 st.step.ask.1 found (after_by m l kind (s.part r) (s.part r).run found).records other
      ∙ (ap (λ (xs : List ℕ × List Left). xs.1 ++ record { spot = st.step.ask.0; number = written st.step.ask.1 found } ∷ [])
      (keeps m l rs s s' r kind st other).records
      ∙ ap (λ n. (s.part n).records.left ++ record { spot = st.step.ask.0; number = written st.step.ask.1 found } ∷ []) is)))) in
      ap (λ (y : Sight). y.word x.spot) st.step.next
      ∙ one_more s.word (s.part l.runners).records.left (record { spot = st.step.ask.0; number = written st.step.ask.1 found }) (old all) x
      (subst (λ (xs : List Left). IsLastLeft xs x) left last)

  join_left : (worker : ℕ) → IsStep m l rs s s' r (kinds.Join worker) → LeftStands l s'
  join_left worker st all x last = absurd (no_last (s'.part l.runners).records.left left last)
    where
      no_last : (left : List Left) → left ≡ [] → IsLastLeft left x → ⊥
      no_last left e last = let z = ap (λ (xs : List Left). slice_get xs last.at) (sym e) ∙ last.here in cc

      is : (r ≡ l.runners) × (worker < l.runners)
      is = joins m l rs (kinds.Join worker) r (s.part r) st.step.ask st.step.asked

      keeper : PartState
      keeper = knows_also (after m l r (kinds.Join worker) st.step.ask.0 st.step.ask.1 (s.part r) (s.word st.step.ask.0)) (s.part worker)

      apart : r ≢ worker
      apart same = let a = is.0 in let b = is.1 in omega (arith, a, b, same)

      left : (s'.part l.runners).records.left ≡ []
      left = ap (λ (y : Sight). (y.part l.runners).records.left) st.step.next
          ∙ (ap (λ n. (upd (upd s.part r keeper) worker (leaves (s.part worker)) n).records.left) (sym is.0)
          ∙ (ap (λ (y : PartState). y.records.left) (upd_else (upd s.part r keeper) worker (leaves (s.part worker)) r apart ∙ upd_here s.part r keeper)
          ∙ joined_left l r is.0 worker st.step.ask.0 st.step.ask.1 (s.word st.step.ask.0)
          (after_by m l (kinds.Join worker) (s.part r) (s.part r).run (s.word st.step.ask.0)).records))

  left_kept : (kind : EventKind) → IsStep m l rs s s' r kind → JoinedAreGone l s → LeftStands l s → LeftStands l s'
  left_kept (kinds.Join worker) st gone old = join_left worker st
  left_kept kind st gone old = other_left kind st refl gone old

-- no request is the keeper's to serve
not_next : (l : Layout) → 1 ≤ l.runners → (rs : List Request) (known : List Known) (o : Option Request) → is_next l l.runners rs known o ≡ true → ⊥
not_next l some rs known None e = absurd (let z = e in cc)
not_next l some rs known (Some q) e =
    let same = equal (q.trace % l.runners) l.runners
    (and_parts (q.trace % l.runners == l.runners) (not (is_answered known q.number) && are_answered known q.trace q.number rs) e).0 in
    let low = mod_below q.trace l.runners some in omega (arith, same, low)
  where
    equal : (a b : ℕ) → (a == b) ≡ true → a ≡ b
    equal a b e = grind (arith, nat_tests)

no_hold : (m : Meaning) (l : Layout) → 1 ≤ l.runners → (rs : List Request) (t : Thunk) (d : ℕ) (p : PartState) (x : Spot × Access)
    → hold_ask m l rs l.runners t d p ≡ Some x → ⊥
no_hold m l some rs t d p x e =
    let ready = and_parts (is_ready l p d t) (is_publishable m l rs l.runners t p) (if_some _ _ x e).0 in
    let walks = and_parts (is_walking p.stage p.run) _ ready.1 in
    let none = and_parts (is_none p.published) _ walks.1 in
    let settled = and_parts (not (is_between p.reads.look)) _ none.1 in
    let lock = and_parts (is_open l p.reads.cells t) _ settled.1 in
    let due = and_parts (is_next l l.runners rs p.records.known (slice_get rs t.request)) _ lock.1 in
    not_next l some rs p.records.known (slice_get rs t.request) due.0

-- who has published nothing has published nothing behind a step that is no publication
module _ (m : Meaning) (l : Layout) (p : PartState) (none : p.published ≡ None) (found : ℕ) where
  abbrev IsUnpublished : PartState → Type 0
  IsUnpublished p' = p'.published ≡ None

  either : (b : Bool) (y z : PartState) → IsUnpublished y → IsUnpublished z → IsUnpublished (if b then y else z)
  either true y z one two = one
  either false y z one two = two

  module _ (q : RunState) where
    fill_none : (slot : ℕ) (made : Option ℕ) → IsUnpublished (inside.fill_loaded m l slot p q made found)
    fill_none slot None = none
    fill_none slot (Some t) = none

    make_none : (made : Option ℕ) → IsUnpublished (inside.make_committed m l p q made found)
    make_none None = none
    make_none (Some t) = none

    line_none : (kind : EventKind) (micro : Micro) → IsUnpublished (line_after m l kind p q micro found)
    line_none kinds.Commit micro = none
    line_none (kinds.LoadCell place) micro = none
    line_none kinds.ExchangeCell micro = none
    line_none (kinds.PrivateLoad slot word) micro = fill_none slot q.made
    line_none (kinds.PrivateStore slot word number) micro = none
    line_none kinds.MakeCommit micro = make_none q.made
    line_none kinds.RetireCommit micro = none
    line_none kinds.EpochForRetire micro = none
    line_none kinds.SetDone micro = none
    line_none kinds.Release micro = either (is_end (next_of m (inside.ended_more q))) _ _
        (ap (λ (o : Option Published). inside.kept_unless o q.descriptor) none) none
    line_none kinds.ClockLoad micro = none
    line_none kinds.StampExchange micro = either (nat_lt q.word last_clock) _ _ none none
    line_none kinds.ClockRaise micro = none
    line_none kinds.ReplyExchange micro = none
    line_none kinds.NestedLoad micro = none
    line_none kinds.NestedHold micro = none
    line_none kinds.OutcomeLoad micro = none
    line_none kinds.OutcomeCommit micro = none
    line_none _ micro = none

    inside_none : (kind : EventKind) → IsUnpublished (inside_after m l kind p q found)
    inside_none kind = either (is_open_run q) _ _ (line_none kind (next_of m q)) none

  scan_none : (stage : Stage) → IsUnpublished (outside.scan_one_after l p stage found)
  scan_none (stages.Scanning x next clear) = either (nat_le next l.runners) _ _
      (either (next == l.runners && not ((clear && is_clear x found) && nat_lt x last_epoch)) _ _ none none) none
  scan_none _ = none

  advance_none : (stage : Stage) → IsUnpublished (outside.advance_after p stage)
  advance_none (stages.Scanning x next clear) = either (nat_lt x last_epoch) _ _ none none
  advance_none _ = none

  -- a publication by the keeper isn't enabled
  outside_none : 1 ≤ l.runners → (rs : List Request) (kind : EventKind) (x : Spot × Access) → outside_ask m l rs l.runners kind p ≡ Some x
      → IsUnpublished (outside_after m l kind p found)
  outside_none some rs kinds.EnterLoad x e = none
  outside_none some rs kinds.Announce x e = none
  outside_none some rs kinds.EnterAgain x e = none
  outside_none some rs kinds.Idle x e = none
  outside_none some rs kinds.ScanEpoch x e = none
  outside_none some rs (kinds.ScanOne n) x e = scan_none p.stage
  outside_none some rs kinds.Advance x e = advance_none p.stage
  outside_none some rs kinds.Split x e = either (nat_lt p.records.splits l.runners) _ _ none none
  outside_none some rs (kinds.Join worker) x e = none
  outside_none some rs (kinds.LoadCell (Some place)) x e = none
  outside_none some rs (kinds.LoadEntry request reply) x e = none
  outside_none some rs (kinds.PrivateLoad slot word) x e = either (nat_lt slot (slot_count l m.fixed_slots)) _ _ none none
  outside_none some rs (kinds.PrivateStore slot word number) x e = none
  outside_none some rs (kinds.Hold t d) x e = absurd (no_hold m l some rs t d p x e)
  outside_none some rs (kinds.LoadThunk (Some d)) x e = none
  outside_none some rs _ x e = none

  after_none : 1 ≤ l.runners → (rs : List Request) (kind : EventKind) (o : Option RunState) (x : Spot × Access) → ask_by m l rs l.runners kind p o ≡ Some x
      → IsUnpublished (after_by m l kind p o found)
  after_none some rs kind None x e = outside_none some rs kind x e
  after_none some rs kind (Some q) x e = inside_none q kind

-- so the keeper has published nothing behind each step
module _ (m : Meaning) (l : Layout) (limits : IsWithinLimits l) (rs : List Request) (s s' : Sight) (r : ℕ) (kind : EventKind) (st : IsStep m l rs s s' r kind) where
  abbrev IsKeepers : ℕ → PartState → Type 0
  IsKeepers i p = i ≡ l.runners → p.published ≡ None

  own_none : IsKeepers r (s.part r) → IsKeepers r (after_by m l kind (s.part r) (s.part r).run (s.word st.step.ask.0))
  own_none old is = after_none m l (s.part r) (old is) (s.word st.step.ask.0) limits.some_runners rs kind (s.part r).run st.step.ask
      (ap (λ n. ask_by m l rs n kind (s.part r) (s.part r).run) (sym is)
      ∙ (unless_gone (sizes_for m l rs) (s.part r).gone (ask_by m l rs r kind (s.part r) (s.part r).run) st.step.ask st.step.asked).1)

  none_kept : ((i : ℕ) → IsKeepers i (s.part i)) → (i : ℕ) → IsKeepers i (s'.part i)
  none_kept old i = subst (λ (y : Sight). IsKeepers i (y.part i)) (sym st.step.next)
      (each_part m l s r st.step.ask IsKeepers (λ k p' blocks board records gone h. h) kind (joins m l rs kind r (s.part r) st.step.ask st.step.asked)
      (own_none (old r)) (λ k ne. old k) i)

-- what the first parts have
first_of : (m : Meaning) (l : Layout) (rs : List Request) (v : World) → IsFirst m l rs v → (Q : PartState → Type 0) → Q (keeper_part m l)
    → ((k : ℕ) → Q (worker_part m l k)) → Q (first_part [] [] []) → (i : ℕ) → Q ((sight m l rs v).part i)
first_of m l rs v start Q keeper worker nobody i = subst Q (sym (first_parts m l v.parts start.parts i)) (FirstJoin.each_part m l Q keeper worker nobody i)

-- what is kept along the steps
record AllStands (l : Layout) (s : Sight) : Type 0 where
  gone : JoinedAreGone l s
  left : LeftStands l s
  none : (i : ℕ) → i ≡ l.runners → (s.part i).published ≡ None

pub reached_keeper : (m : Meaning) → Laws m → (l : Layout) → IsWithinLimits l → (rs : List Request) → AreAllowed rs → (w : World)
    → Reached m l rs w → KeeperStands l (sight m l rs w)
reached_keeper m laws l limits rs allowed w reached =
    let all : AllStands l (sight m l rs w) = reached_keeps m laws l limits rs allowed (AllStands l)
    (λ v start. record {
      gone = first_gone m l rs v start;
      left = λ all x last. absurd (no_left (first_of m l rs v start (λ p. p.records.left ≡ []) refl (λ k. refl) refl l.runners) last);
      none = λ i is. first_of m l rs v start (λ p. p.published ≡ None) refl (λ k. refl) refl i;
    })
    (λ s s' r kind st old. record {
      gone = gone_kept m l rs s s' r kind st old.gone;
      left = left_kept m l rs s s' r kind st old.gone old.left;
      none = none_kept m l limits rs s s' r kind st old.none;
    }) w reached in
    record { left = all.left; unpublished = all.none l.runners refl }
  where
    no_left : {left : List Left} {x : Left} → left ≡ [] → IsLastLeft left x → ⊥
    no_left e last = let z = ap (λ (xs : List Left). slice_get xs last.at) (sym e) ∙ last.here in cc
