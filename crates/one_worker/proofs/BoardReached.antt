-- With one worker that keeps enough slots the board is empty, in every reached state.
use Rattle.std.specs.Prelude.{◌==◌, ◌&&◌, ◌||◌, not, cond, nat_lt, nat_le, ◌*◌, slice_index, Bool, true, false, if◌then◌else◌}
use Rattle.std.proofs.Common.{◌≡◌, ◌≢◌, ℕ, zero, suc, ◌≤◌, ◌<◌, ◌+◌, List, [], length, le_of_eq, refl, sym, ap, ◌∙◌, subst, arith, ⊎_elim, Option, Some, None}
use Rattle.std.proofs.lemmas.Bool.{cases_eq, and_parts}
use Rattle.std.proofs.lemmas.Bool.Decides.{nat_tests}
use Rattle.machine_states.specs.map_history.specs.declared.op.Request.{Request}
use Rattle.machine_states.specs.table_words.specs.declared.layout.Layout.{Layout}
use Rattle.machine_states.specs.table_words.specs.declared.spot.Spot.{Spot}
use Rattle.machine_states.specs.table_words.specs.declared.spot.Spot.TheVariants.{Epoch, Board}
use Rattle.machine_states.specs.table_words.specs.declared.access.Access.{Access}
use Rattle.machine_states.specs.table_words.specs.declared.access.Access.TheVariants.{Exchanges}
use Rattle.machine_states.specs.table_words.specs.Access.{written}
use Rattle.machine_states.specs.table_words.specs.Limits.{IsWithinLimits}
use Rattle.machine_states.specs.table_words.specs.Places.{fits, address}
use Rattle.machine_states.specs.table_words.specs.Seen.{upd, put}
use Rattle.machine_states.specs.table_words.proofs.Seen as words
use Rattle.machine_states.specs.structure_laws.specs.Laws.{Laws}
use Rattle.machine_states.specs.structure_laws.specs.Meaning.{Meaning}
use Rattle.machine_states.specs.runner_parts.specs.declared.event.Event.{Event}
use Rattle.machine_states.specs.runner_parts.specs.declared.event.EventKind.{EventKind}
use Rattle.machine_states.specs.runner_parts.specs.declared.event.EventKind.TheVariants as kinds
use Rattle.machine_states.specs.epoch_core.specs.declared.location.Location.{Location}
use Rattle.machine_states.specs.epoch_core.specs.declared.location.Location.TheVariants.{Fixed}
use Rattle.machine_states.specs.runner_parts.specs.Lists.{without}
use Rattle.machine_states.specs.runner_parts.specs.Tests.{has}
use Rattle.machine_states.specs.runner_parts.specs.State.{RunState, NodesState, RecordsState, PartState}
use Rattle.machine_states.specs.runner_steps.specs.Asks.{asks, ask_by}
use Rattle.machine_states.specs.runner_steps.specs.After.{after, after_by, stepped}
use Rattle.machine_states.specs.runner_steps.specs.After.{leaves, knows_also, epoch_after, is_late_join}
use Rattle.machine_states.specs.runner_steps.specs.Asks.{sizes_for}
use Rattle.machine_states.specs.epoch_core.specs.declared.stage.Stage.TheVariants.{Idle}
use Rattle.machine_states.specs.World.{World, happens, is_join}
use Rattle.machine_states.specs.First.{IsFirst, falling, first_part, keeper_part, worker_part}
use Rattle.machine_states.specs.Reached.{Reached}
use Rattle.machine_states.specs.Sight.{Sight, sight, sight_after, Steps}
use Rattle.machine_states.proofs.FirstSights.{first_parts}
use Rattle.machine_states.proofs.Marks.{Stays, stays}
use Rattle.machine_states.proofs.Reached.{first_reached, more_reached, reached_has, reached_all}
use Rattle.machine_states.proofs.Sights.{happens_steps, unless_gone, cond_none, joins}
use Rattle.machine_states.proofs.Updates.{upd_here, upd_else}
use Rattle.resource_bounds.proofs.Above as gives
use Rattle.resource_bounds.proofs.Entries.{without_length}
use Rattle.resource_bounds.specs.machine_epochs.proofs.BoardAsked.{board_take_asked, board_give_asked}
use Rattle.resource_bounds.specs.machine_epochs.proofs.Places.{has_times}
use Rattle.resource_bounds.specs.machine_epochs.proofs.Reached.{sound_after}
use Rattle.runner_facts.specs.machine_facts.proofs.Following.{facts_after}
use Rattle.runner_facts.specs.machine_facts.specs.machine_invariant.specs.After.{AreAllowed}
use Rattle.runner_facts.specs.machine_facts.specs.machine_invariant.specs.Slots.{NodesStand}
use Rattle.runner_facts.specs.next_steps.proofs.Touched.{board_same, asked_may}
use Rattle.one_worker.specs.Uncrossed.{EpochIsOwn}
use Rattle.one_worker.specs.Ungiven.{IsBare, NothingIsGiven}
use Rattle.one_worker.proofs.EpochsReached.{elsewhere, or_left, or_right, none_seen, true_false, reached_uncrossed}
use Rattle.one_worker.proofs.Resting.{Rests, rests}
use Rattle.one_worker.proofs.Slots.{few}

is_last : (n : ℕ) → n ≡ 1 → (1 == n) ≡ true
is_last n e = grind (arith, nat_tests)

is_none : (n : ℕ) → n ≡ 0 → (n == 0) ≡ true
is_none n e = grind (arith, nat_tests)

le_test : (a b : ℕ) → nat_le a b ≡ true → a ≤ b
le_test a b e = grind (arith, nat_tests)

-- a give that won, and that left enough
left_enough : (found runners free : ℕ) (above : Bool) → found ≡ 0 → (if found == 0 then above && nat_le runners free else above) ≡ true → runners ≤ free
left_enough found runners free above none e = le_test runners free (and_parts above (nat_le runners free)
    (ap (λ (b : Bool). if b then above && nat_le runners free else above) (sym (is_none found none)) ∙ e)).1

falling_length : (from n : ℕ) → length (falling from n) ≡ n
falling_length from zero = refl
falling_length from (suc n) = ap suc (falling_length from n)

module _ (m : Meaning) (l : Layout) where
  -- the keeper's slots are those that it had at first, and it is in no run
  pub record IsUntouched (p : PartState) : Type 0 where
    pub nodes : p.nodes ≡ (keeper_part m l).nodes
    pub run : p.run ≡ None

  pub record Stands (s : Sight) : Type 0 where
    pub given : NothingIsGiven s
    pub untouched : (s.part 0).gone ≡ false → (s.part 1).records.epoch_seen ≡ 0 → IsUntouched (s.part 1)

module _ (m : Meaning) (l : Layout) (rs : List Request) (one : l.runners ≡ 1) (s s' : Sight) (r : ℕ) (kind : EventKind) (st : Steps m l rs s s' r kind)
    (some : 1 ≤ s'.word Epoch) (uncrossed : EpochIsOwn s)
    (location : ℕ → Location) (stands : NodesStand m l location s) (fixed : (t : ℕ) → t < m.fixed_slots → location t ≡ Fixed) (old : Stands m l s) where
  abbrev x : Spot × Access
  x = st.ask

  abbrev word : ℕ
  word = s.word x.0

  abbrev p : PartState
  p = s.part r

  abbrev p' : PartState
  p' = after m l r kind x.0 x.1 p word

  staying : Stays p (stepped m l kind p word)
  staying = stays m l p word kind p.run

  asking : (p.gone ≡ false) × (ask_by m l rs r kind p p.run ≡ Some x)
  asking = let h = unless_gone _ p.gone _ x st.asked in (h.0, h.1)

  abbrev before : RecordsState
  before = (stepped m l kind p word).records

  epoch_is : before.epoch_seen ≡ p.records.epoch_seen
  epoch_is = ap (λ (z : ℕ × (Bool × Bool)). z.0) staying.kept

  crosses_is : before.crosses ≡ p.records.crosses
  crosses_is = ap (λ (z : ℕ × (Bool × Bool)). z.1.1) staying.kept

  word_is : (a : Spot) → s'.word a ≡ put s.word x.0 (written x.1 word) a
  word_is a = ap (λ (y : Sight). y.word a) st.next

  above_was : (s'.part 0).records.gave_above ≡ true → (s.part 0).records.gave_above ≡ true
  above_was above = gives.above_before m l rs s s' r kind st (stands.once r) 0 above

  -- a give that won left the worker fewer slots than it had at first
  gives_none : (slot : ℕ) → r ≡ 0 → has p.nodes.free slot ≡ true → l.nodes ≤ length (without p.nodes.free slot) → IsUntouched m l (s.part 1) → ⊥
  gives_none slot worker own enough untouched =
      let here : length (s.part 0).nodes.free ≡ length p.nodes.free = ap (λ i. length (s.part i).nodes.free) (sym worker) in
      let less = without_length p.nodes.free slot in
      let there = has_times p.nodes.free slot own in
      let all = few m l location s stands fixed one in
      let keeper : length (s.part 1).nodes.free ≡ length (falling (m.fixed_slots + l.nodes * l.runners) (2 * l.runners + 2)) =
      ap (λ (n : NodesState). length n.free) untouched.nodes in
      let four = falling_length (m.fixed_slots + l.nodes * l.runners) (2 * l.runners + 2) in
      omega (arith, here, less, there, all, keeper, four, enough, one)

  taken : (i n link v : ℕ) → v ≡ 0 → cond (i == n) (written (Exchanges link 0) 0) v ≡ 0
  taken i n link v e = grind (arith, nat_tests)

  abbrev Bare : EventKind → Option RunState → Type 0
  Bare k o = asks m l rs r k p ≡ Some x → ask_by m l rs r k p o ≡ Some x → (r ≡ 0 → (after_by m l k p o word).records.gave_above ≡ true)
      → (r ≡ 0 → IsUntouched m l (s.part 1)) → IsBare s → IsBare s'

  bare_by : (k : EventKind) (o : Option RunState) → Bare k o
  bare_by (kinds.BoardTake n link) None whole e enough untouched bare =
      let h = board_take_asked l r n link p x e in
      λ i. word_is (Board i) ∙ subst (λ (y : Spot × Access). put s.word y.0 (written y.1 (s.word y.0)) (Board i) ≡ 0) h.is
      (ap (λ v. cond (i == n) (written (Exchanges link 0) v) (s.word (Board i))) (bare n) ∙ taken i n link (s.word (Board i)) (bare i))
  bare_by (kinds.BoardTake n link) (Some q) whole e enough untouched bare = cond_none _ x e
  bare_by (kinds.BoardGive n slot) None whole e enough untouched bare =
      let h = board_give_asked l r n slot p x e in
      let worker : r ≡ 0 = let low = h.worker in omega (arith, low, one) in
      let found : word ≡ 0 = ap (λ (y : Spot × Access). s.word y.0) (sym h.is) ∙ bare n in
      absurd (gives_none slot worker h.own (left_enough word l.nodes (length (without p.nodes.free slot)) p.records.gave_above found (enough worker)) (untouched worker))
  bare_by (kinds.BoardGive n slot) (Some q) whole e enough untouched bare = cond_none _ x e
  bare_by k o whole e enough untouched bare = λ i. word_is (Board i) ∙ (board_same s.word x.0 k x.1 i refl (asked_may m l rs r p x k whole) ∙ bare i)

  bare_then : (s'.part 0).records.gave_above ≡ true → (r ≡ 0 → IsUntouched m l (s.part 1)) → IsBare s → IsBare s'
  bare_then above untouched bare = bare_by kind p.run st.asked asking.1
      (λ worker. gives.above_own m l rs s s' r kind st (stands.once r) (ap (λ i. (s'.part i).records.gave_above) worker ∙ above))
      untouched bare

  module _ (other : is_join kind ≡ false) where
    part_is : (i : ℕ) → s'.part i ≡ upd s.part r p' i
    part_is i = ap (λ (y : Sight). y.part i) (st.next ∙ after_is kind other)
      where
        after_is : (k : EventKind) → is_join k ≡ false → sight_after m l s r k x ≡ record { word = put s.word x.0 (written x.1 word); part = upd s.part r (after m l r k x.0 x.1 p word) }
        after_is (kinds.Join worker) plain = absurd (let z = plain in cc)
        after_is _ plain = refl

    here : s'.part r ≡ p'
    here = part_is r ∙ upd_here s.part r p'

    others_are : (i : ℕ) → i ≢ r → s'.part i ≡ s.part i
    others_are i ne = part_is i ∙ upd_else s.part r p' i ne

    -- of each runner: whether it is gone stays, and what its own steps met and crossed stays met and crossed
    gone_is : (i : ℕ) → (s'.part i).gone ≡ (s.part i).gone
    gone_is i = ⊎_elim
        (λ e. ap (λ k. (s'.part k).gone) e ∙ (ap (λ (y : PartState). y.gone) here ∙ (staying.gone ∙ ap (λ k. (s.part k).gone) (sym e))))
        (λ ne. ap (λ (y : PartState). y.gone) (others_are i ne))
        (cases_eq i r)

    own_unmet : p'.records.epoch_seen ≡ 0 → p.records.epoch_seen ≡ 0
    own_unmet unmet = ⊎_elim
        (λ on. absurd (
        let same : s'.word Epoch ≡ p'.records.epoch_seen = word_is Epoch
        ∙ subst (λ (a : Spot). put s.word a (written x.1 word) Epoch ≡ epoch_after a (written x.1 word) before.epoch_seen) (sym on) refl in
        omega (arith, same, unmet, some)))
        (λ off. sym epoch_is ∙ (sym (off.seen (written x.1 word) before.epoch_seen) ∙ unmet))
        (elsewhere x.0)

    unmet_was : (i : ℕ) → (s'.part i).records.epoch_seen ≡ 0 → (s.part i).records.epoch_seen ≡ 0
    unmet_was i unmet = ⊎_elim
        (λ e. ap (λ k. (s.part k).records.epoch_seen) e
        ∙ own_unmet (sym (ap (λ (y : PartState). y.records.epoch_seen) here) ∙ (ap (λ k. (s'.part k).records.epoch_seen) (sym e) ∙ unmet)))
        (λ ne. sym (ap (λ (y : PartState). y.records.epoch_seen) (others_are i ne)) ∙ unmet)
        (cases_eq i r)

    apart_was : (i : ℕ) → (s'.part i).records.crosses ≡ false → (s.part i).records.crosses ≡ false
    apart_was i apart = ⊎_elim
        (λ e. ap (λ k. (s.part k).records.crosses) e ∙ (sym crosses_is ∙ or_right (is_late_join kind before.epoch_seen) before.crosses
        (sym (ap (λ (y : PartState). y.records.crosses) here) ∙ (ap (λ k. (s'.part k).records.crosses) (sym e) ∙ apart))))
        (λ ne. sym (ap (λ (y : PartState). y.records.crosses) (others_are i ne)) ∙ apart)
        (cases_eq i r)

    -- the keeper stays as it is
    keeper_rests : (s.part 1).stage ≡ Idle → IsUntouched m l (s.part 1) → IsUntouched m l (s'.part 1)
    keeper_rests idle untouched = ⊎_elim
        (λ e. record {
          nodes = ap (λ k. (s'.part k).nodes) e ∙ (ap (λ (y : PartState). y.nodes) here ∙ ((rested e).nodes ∙ (ap (λ k. (s.part k).nodes) (sym e) ∙ untouched.nodes)));
          run = ap (λ k. (s'.part k).run) e ∙ (ap (λ (y : PartState). y.run) here ∙ ((rested e).run ∙ (ap (λ k. (s.part k).run) (sym e) ∙ untouched.run)));
        })
        (λ ne. record {
          nodes = ap (λ (y : PartState). y.nodes) (others_are 1 ne) ∙ untouched.nodes;
          run = ap (λ (y : PartState). y.run) (others_are 1 ne) ∙ untouched.run;
        })
        (cases_eq 1 r)
      where
        by : (o : Option RunState) → p.run ≡ o → o ≡ None → 1 ≡ r → ask_by m l rs r kind p o ≡ Some x → Rests p (after_by m l kind p o word)
        by None at none e asked = rests m l rs r p word x (ap (λ k. (s.part k).stage) (sym e) ∙ idle)
            (ap (λ (n : NodesState). n.hand) (ap (λ k. (s.part k).nodes) (sym e) ∙ untouched.nodes)) (omega (arith, one, e)) kind asked
        by (Some q) at none e asked = absurd (let z = none in cc)

        rested : 1 ≡ r → Rests p (stepped m l kind p word)
        rested e = by p.run refl (ap (λ k. (s.part k).run) (sym e) ∙ untouched.run) e asking.1

    other_then : Stands m l s'
    other_then = record {
      given = record {
        before = λ present unmet above.
            let was = sym (gone_is 0) ∙ present in let unmet' = unmet_was 1 unmet in
            bare_then above (λ worker. old.untouched was unmet') (old.given.before was unmet' (above_was above));
        behind = λ gone apart above.
            let was = sym (gone_is 0) ∙ gone in
            bare_then above (λ worker. true_false (ap (λ i. (s.part i).gone) worker ∙ was) asking.0) (old.given.behind was (apart_was 1 apart) (above_was above));
      };
      untouched = λ present unmet.
          let was = sym (gone_is 0) ∙ present in let unmet' = unmet_was 1 unmet in
          keeper_rests (uncrossed.before was unmet').idle (old.untouched was unmet');
    }

-- a join
module _ (m : Meaning) (l : Layout) (rs : List Request) (one : l.runners ≡ 1) (s s' : Sight) (r worker : ℕ) (st : Steps m l rs s s' r (kinds.Join worker))
    (location : ℕ → Location) (stands : NodesStand m l location s) (old : Stands m l s) where
  abbrev y : Spot × Access
  y = st.ask

  abbrev q : PartState
  q = after m l r (kinds.Join worker) y.0 y.1 (s.part r) (s.word y.0)

  joining : (r ≡ l.runners) × (worker < l.runners)
  joining = joins m l rs (kinds.Join worker) r (s.part r) y st.asked

  first : worker ≡ 0
  first = let low = joining.1 in omega (arith, low, one)

  last : r ≡ 1
  last = joining.0 ∙ one

  abbrev parts : ℕ → PartState
  parts = upd (upd s.part r (knows_also q (s.part worker))) worker (leaves (s.part worker))

  joined_is : s'.part 0 ≡ leaves (s.part 0)
  joined_is = ap (λ (z : Sight). z.part 0) st.next ∙ (ap parts (sym first) ∙ (upd_here (upd s.part r (knows_also q (s.part worker))) worker (leaves (s.part worker)) ∙ ap (λ n. leaves (s.part n)) first))

  keeper_then : s'.part 1 ≡ knows_also q (s.part worker)
  keeper_then = ap (λ (z : Sight). z.part 1) st.next
      ∙ (upd_else (upd s.part r (knows_also q (s.part worker))) worker (leaves (s.part worker)) 1 (λ e. omega (arith, e, first))
      ∙ (ap (upd s.part r (knows_also q (s.part worker))) (sym last) ∙ upd_here s.part r (knows_also q (s.part worker))))

  kept_marks : Stays (s.part r) (stepped m l (kinds.Join worker) (s.part r) (s.word y.0))
  kept_marks = stays m l (s.part r) (s.word y.0) (kinds.Join worker) (s.part r).run

  abbrev had : RecordsState
  had = (stepped m l (kinds.Join worker) (s.part r) (s.word y.0)).records

  board_is : IsBare s → IsBare s'
  board_is bare i = ap (λ (z : Sight). z.word (Board i)) st.next
      ∙ (board_same s.word y.0 (kinds.Join worker) y.1 i refl (asked_may m l rs r (s.part r) y (kinds.Join worker) st.asked) ∙ bare i)

  join_then : Stands m l s'
  join_then = record {
    given = record {
      before = λ present unmet above. true_false (ap (λ (z : PartState). z.gone) joined_is) present;
      behind = λ gone apart above. board_is (behind_join apart (sym (ap (λ (z : PartState). z.records.gave_above) joined_is) ∙ above));
    };
    untouched = λ present unmet. true_false (ap (λ (z : PartState). z.gone) joined_is) present;
  }
    where
      behind_join : (s'.part 1).records.crosses ≡ false → (s.part 0).records.gave_above ≡ true → IsBare s
      behind_join apart above =
          let late : (not (had.epoch_seen == 0) || had.crosses) ≡ false = sym (ap (λ (z : PartState). z.records.crosses) keeper_then) ∙ apart in
          let unmet : (s.part 1).records.epoch_seen ≡ 0 = ap (λ n. (s.part n).records.epoch_seen) (sym last)
          ∙ (sym (ap (λ (z : ℕ × (Bool × Bool)). z.0) kept_marks.kept) ∙ none_seen had.epoch_seen (or_left (not (had.epoch_seen == 0)) had.crosses late)) in
          let apart_before : (s.part 1).records.crosses ≡ false = ap (λ n. (s.part n).records.crosses) (sym last)
          ∙ (sym (ap (λ (z : ℕ × (Bool × Bool)). z.1.1) kept_marks.kept) ∙ or_right (not (had.epoch_seen == 0)) had.crosses late) in
          by (s.part 0).gone refl unmet apart_before
        where
          by : (b : Bool) → (s.part 0).gone ≡ b → (s.part 1).records.epoch_seen ≡ 0 → (s.part 1).records.crosses ≡ false → IsBare s
          by true gone unmet apart = old.given.behind gone apart above
          by false present unmet apart = old.given.before present unmet above

module _ (m : Meaning) (laws : Laws m) (l : Layout) (limits : IsWithinLimits l) (rs : List Request) (allowed : AreAllowed rs) (one : l.runners ≡ 1) where
  kept : (s s' : Sight) (r : ℕ) (kind : EventKind) → Steps m l rs s s' r kind → 1 ≤ s'.word Epoch → EpochIsOwn s
      → (location : ℕ → Location) → NodesStand m l location s → ((t : ℕ) → t < m.fixed_slots → location t ≡ Fixed) → Stands m l s → Stands m l s'
  kept s s' r (kinds.Join worker) st some uncrossed location stands fixed old = join_then m l rs one s s' r worker st location stands old
  kept s s' r kind st some uncrossed location stands fixed old = other_then m l rs one s s' r kind st some uncrossed location stands fixed old refl

  -- a reached state that has it
  record Has (w : World) : Type 0 where
    reached : Reached m l rs w
    has : Stands m l (sight m l rs w)

  first_word : (w : World) → IsFirst m l rs w → (i : ℕ) → (sight m l rs w).word (Board i) ≡ 0
  first_word w first i = by_fit (fits (sizes_for m l rs) (Board i)) refl
    where
      by_fit : (b : Bool) → fits (sizes_for m l rs) (Board i) ≡ b → (sight m l rs w).word (Board i) ≡ 0
      by_fit true is = first.words.seen (Board i) (words.fits_means (sizes_for m l rs) (Board i) is)
      by_fit false is = ap (λ b. cond b (slice_index w.words (address (sizes_for m l rs) (Board i))) 0) is

  first_has : (w : World) → IsFirst m l rs w → Stands m l (sight m l rs w)
  first_has w first = record {
    given = record {
      before = λ present unmet above i. bare i;
      behind = λ gone apart above i. bare i;
    };
    untouched = λ present unmet. record { nodes = ap (λ (p : PartState). p.nodes) keeper; run = ap (λ (p : PartState). p.run) keeper };
  }
    where
      bare : IsBare (sight m l rs w)
      bare i = first_word w first i

      keeper : (sight m l rs w).part 1 ≡ keeper_part m l
      keeper = first_parts m l w.parts first.parts 1 ∙ ap (λ (b : Bool). cond b (keeper_part m l) (cond (nat_lt 1 l.runners) (worker_part m l 1) (first_part [] [] []))) (is_last l.runners one)

  step_has : (w v : World) (e : Event) → Has w → happens m l rs w e ≡ Some v → Has v
  step_has w v e old goes =
      let reached = more_reached m l rs w v e old.reached goes in
      let all = reached_all m l rs w old.reached in
      let facts = facts_after m laws l rs old.reached.events w limits allowed old.reached.after in
      record {
        reached = reached;
        has = kept (sight m l rs w) (sight m l rs v) e.runner e.kind
            (happens_steps m l rs w v e (record { words = le_of_eq (sym all.words); parts = all.parts }) goes).0
            (sound_after m l rs reached.events v reached.after).some (reached_uncrossed m l rs one w old.reached)
            facts.components.epochs.location facts.here.sound.slots.in_nodes facts.here.fixed old.has;
      }

  pub reached_bare : (w : World) → Reached m l rs w → NothingIsGiven (sight m l rs w)
  reached_bare w reached = (reached_has m l rs Has
      (λ v start. record { reached = first_reached m l rs v start; has = first_has v start }) step_has w reached).has.given
