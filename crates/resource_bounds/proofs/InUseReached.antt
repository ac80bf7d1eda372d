-- Where no lock is held, few slots are in use, in every reached state.
use Rattle.std.specs.Prelude.{◌==◌, ◌*◌, ◌&&◌, nat_lt, cond, Bool, false, slice_index}
use Rattle.std.specs.FinMap.{len}
use Rattle.std.proofs.Common.{◌≡◌, ℕ, suc, ◌+◌, ◌<◌, ◌≤◌, List, [], ◌++◌, length-append, refl, ap, ◌∙◌, ⊎_elim, arith}
use Rattle.std.proofs.lemmas.Bool.{cases_lt}
use Rattle.std.proofs.lemmas.Bool.Decides.{nat_tests}
use Rattle.std.proofs.lemmas.Option.{slice_get_past}
use Rattle.machine_states.specs.epoch_core.specs.small_lemmas.proofs.Numbers.{less_tested as less}
use Rattle.machine_states.specs.map_history.specs.declared.op.Request.{Request}
use Rattle.machine_states.specs.table_words.specs.declared.layout.Layout.{Layout}
use Rattle.machine_states.specs.table_words.specs.declared.spot.Spot.TheVariants.{Board}
use Rattle.machine_states.specs.table_words.specs.Limits.{IsWithinLimits}
use Rattle.machine_states.specs.table_words.specs.Places.{address, board_words}
use Rattle.machine_states.specs.structure_laws.specs.Meaning.{Meaning}
use Rattle.machine_states.specs.structure_laws.specs.Scene.{Scene, Free}
use Rattle.machine_states.specs.structure_laws.specs.Planner.{PlannerLaws, AreInUse}
use Rattle.machine_states.specs.runner_parts.specs.State.{PartState}
use Rattle.machine_states.specs.runner_steps.specs.Asks.{sizes_for}
use Rattle.machine_states.specs.epoch_core.specs.declared.location.Location.{Location}
use Rattle.machine_states.specs.epoch_core.specs.declared.location.Location.TheVariants as locations
use Rattle.machine_states.specs.epoch_core.specs.Lists.{times, in_hand, in_free, in_worn, in_limbo}
use Rattle.machine_states.specs.epoch_core.proofs.Times.{times-append}
use Rattle.machine_states.specs.World.{World, seat_of}
use Rattle.machine_states.specs.First.{first_part}
use Rattle.machine_states.specs.Reached.{Reached}
use Rattle.machine_states.specs.Sight.{Sight, sight, part_or_first}
use Rattle.machine_states.proofs.Reached.{reached_all}
use Rattle.machine_epochs.specs.Entries.{counts_of}
use Rattle.machine_scenes.specs.Shown.{status_at}
use Rattle.reached_histories.specs.machine_facts.specs.machine_invariant.specs.Slots.{node_count, times_among, NodesStand}
use Rattle.reached_histories.specs.machine_facts.specs.machine_invariant.specs.Whole.{IsWhole}
use Rattle.reached_histories.specs.machine_facts.specs.machine_invariant.proofs.Slots.{nodes_stand}
use Rattle.reached_histories.specs.Laws.{HasHistory}
use Rattle.resource_bounds.specs.InUse.{entries_below, named_below, NoneIsHeld, FewAreInUse}
use Rattle.resource_bounds.proofs.Quiet.{scene, stands_for, quiet}
use Rattle.resource_bounds.proofs.Lists.{covered, slots_below, below_length, below_times, retired_waits, slots_named, named_length, named_times}
use Rattle.resource_bounds.proofs.Live.{is_live, live_is, live_from, stands, each, once}

one_here : (i : ℕ) → ◌≡◌ {A = ℕ} (cond (i == i) 1 0) 1
one_here i = grind (arith, nat_tests)

both_here : (i j : ℕ) → ◌≡◌ {A = ℕ} (cond (i == i && j == j) 1 0) 1
both_here i j = grind (arith, nat_tests)

module _ (m : Meaning) (l : Layout) (limits : IsWithinLimits l) (rs : List Request) (per_pair : ℕ) (planner : PlannerLaws m per_pair)
    (s : Sight) (past : (r : ℕ) → l.runners < r → s.part r ≡ first_part [] [] []) (beyond : (i : ℕ) → board_words ≤ i → s.word (Board i) ≡ 0) (history : HasHistory m l rs s) (free : NoneIsHeld m s) where
  whole : IsWhole m l history.beside s
  whole = history.whole

  abbrev location : ℕ → Location
  location = history.beside.epochs.location

  nodes : NodesStand m l location s
  nodes = nodes_stand m l history.beside.epochs s whole.slots

  abbrev many : ℕ
  many = l.nodes * l.runners + (2 * l.runners + 2)

  abbrev in_use : List ℕ
  in_use = live_from location m.fixed_slots many

  abbrev listed : List ℕ
  listed = slots_below s.part (suc l.runners)

  abbrev given : List ℕ
  given = slots_named s.word board_words

  -- a slot in a runner's lists
  in_lists : (r t : ℕ) → 1 ≤ times_among (s.part r).nodes t → 1 ≤ times t listed
  in_lists r t some = ⊎_elim
      (λ high. absurd (let none = ap (λ (p : PartState). times_among p.nodes t) (past r high) in omega (arith, some, none)))
      (λ low. below_times s.part r t (suc l.runners) (omega (arith, low)) some)
      (cases_lt l.runners r)

  -- each slot that isn't fixed is live, in a list or on the board
  each_slot : (t : ℕ) → m.fixed_slots ≤ t → t < m.fixed_slots + many → 1 ≤ times t (in_use ++ (listed ++ given))
  each_slot t low high = by (location t) refl
    where
      node : t < node_count m l
      node = omega (arith, high)

      both : 1 ≤ times t in_use + (times t listed + times t given) → 1 ≤ times t (in_use ++ (listed ++ given))
      both some = let sum = times-append t in_use (listed ++ given) in let rest = times-append t listed given in omega (arith, sum, rest, some)

      own : (r : ℕ) → 1 ≤ times_among (s.part r).nodes t → 1 ≤ times t (in_use ++ (listed ++ given))
      own r some = both (let one = in_lists r t some in omega (arith, one))

      inside : (i : ℕ) → s.word (Board i) ≡ suc t → i < board_words
      inside i named = ⊎_elim (λ low. low) (λ high. absurd (let none = beyond i high in omega (arith, none, named))) (cases_lt i board_words)

      by : (x : Location) → location t ≡ x → 1 ≤ times t (in_use ++ (listed ++ given))
      by locations.Fixed e = absurd (let fixed = whole.kept.fixed t e in omega (arith, low, fixed))
      by locations.Live e = both (let one = stands location m.fixed_slots t many low high (ap is_live e) in omega (arith, one))
      by (locations.Hand r) e = own r (let one = nodes.hand r t node ∙ (ap (in_hand r) e ∙ one_here r) in omega (arith, one))
      by (locations.Free r) e = own r (let one = nodes.free r t node ∙ (ap (in_free r) e ∙ one_here r) in omega (arith, one))
      by (locations.Worn r) e = own r (let one = nodes.worn r t node ∙ (ap (in_worn r) e ∙ one_here r) in omega (arith, one))
      by (locations.OnBoard i) e = let named = nodes.board t i e in both (let one = named_times s.word i t board_words (inside i named) named in omega (arith, one))
      by (locations.Limbo r y) e = own r (
          let one = nodes.limbo r t y node ∙ (ap (in_limbo r y) e ∙ both_here r y) in
          let waits = retired_waits t y (s.part r).nodes.limbo in omega (arith, one, waits))

  abbrev quiet_scene : Scene
  quiet_scene = scene m l rs s history free

  used : AreInUse m quiet_scene in_use
  used = record {
    once = λ i j t e e'. once location m.fixed_slots many i j t e e';
    live = λ i t e. let one = each location m.fixed_slots many i t e in
        ap (λ b. cond b (status_at (location t)) Free) (less t (counts_of m l).nodes (let high = one.high in omega (arith, high)))
        ∙ ap status_at (live_is (location t) one.live);
    unfixed = λ i t e. (each location m.fixed_slots many i t e).low;
  }

  pub few : many ≤ entries_below s.part (suc l.runners) + named_below s.word board_words + per_pair * len history.state.pairs
  few =
      let all = covered m.fixed_slots many (in_use ++ (listed ++ given)) each_slot in
      let sum = length-append in_use (listed ++ given) in
      let rest = length-append listed given in
      let named = named_length s.word board_words in
      let entries = below_length s.part (suc l.runners) in
      let most = (planner.over l limits).sized quiet_scene history.state.pairs in_use (stands_for m l rs s history free) (quiet m l rs s history free) used in
      omega (arith, all, sum, rest, named, entries, most)

pub reached_few : (m : Meaning) (l : Layout) → IsWithinLimits l → (rs : List Request) (per_pair : ℕ) → PlannerLaws m per_pair → (w : World) → Reached m l rs w
    → FewAreInUse per_pair m l rs (sight m l rs w)
reached_few m l limits rs per_pair planner w reached history free = few m l limits rs per_pair planner (sight m l rs w) past beyond history free
  where
    beyond : (i : ℕ) → board_words ≤ i → (sight m l rs w).word (Board i) ≡ 0
    beyond i high = ap (λ (b : Bool). cond b (slice_index w.words (address (sizes_for m l rs) (Board i))) 0) (none i board_words high)
      where
        none : (i n : ℕ) → n ≤ i → nat_lt i n ≡ false
        none i n high = grind (arith, nat_tests)

    past : (r : ℕ) → l.runners < r → (sight m l rs w).part r ≡ first_part [] [] []
    past r high = ap part_or_first (slice_get_past w.parts (seat_of l r)
        (let all = (reached_all m l rs w reached).parts in let seat = far r high in omega (arith, all, seat, high)))
      where
        far : (r : ℕ) → l.runners < r → seat_of l r ≡ suc r
        far r high = grind (arith, nat_tests)
