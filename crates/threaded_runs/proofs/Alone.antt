-- What the words of a closed table hold where there was one worker.
use Rattle.std.specs.Prelude.{◌*◌, ◌%◌, ◌==◌, cond, nat_lt, slice_get, Bool, true, false}
use Rattle.std.specs.FinMap.{len}
use Rattle.std.proofs.Common.{◌≡◌, ℕ, zero, suc, ◌+◌, ◌<◌, ◌≤◌, List, [], ◌∷◌, length, refl, sym, ap, ◌∙◌, subst, arith, ⊎_elim, inl, Option, Some, None, get_or, eq-eqb, if◌then◌else◌}
use Rattle.std.proofs.lemmas.Bool.{cases_lt}
use Rattle.std.proofs.lemmas.Bool.Decides.{nat_tests}
use Rattle.std.proofs.lemmas.Nat.{mul-le}
use Rattle.std.proofs.lemmas.Option.{slice_get-get_or}
use Rattle.std.proofs.Math.Nat.{mod-one}
use Rattle.machine_states.specs.map_history.specs.declared.op.Op.TheVariants.{Get}
use Rattle.machine_states.specs.map_history.specs.declared.op.Request.{Request}
use Rattle.machine_states.specs.map_history.specs.Replay.{Pairs}
use Rattle.machine_states.specs.map_history.specs.Requests.{AreInOrder}
use Rattle.lone_reads.specs.seq_read.specs.history_orders.proofs.Replays.{map-oldest_first}
use Rattle.lone_reads.specs.seq_read.specs.history_orders.specs.Turns.{Follows}
use Rattle.map_sizes.specs.Sizes.{HaveFirstStamps, map_behind, peak}
use Rattle.map_sizes.proofs.InOrder.{replayed}
use Rattle.map_sizes.proofs.Peaks.{below_peak}
use Rattle.machine_states.specs.body_terms.specs.Word.{version_of}
use Rattle.machine_states.specs.table_words.specs.declared.spot.Spot.TheVariants.{Board, Cell, Stamp}
use Rattle.machine_states.specs.table_words.specs.Places.{board_words}
use Rattle.machine_states.specs.table_words.specs.declared.spot.Spot.{Spot}
use Rattle.machine_states.specs.structure_laws.specs.Meaning.{Meaning}
use Rattle.machine_states.specs.runner_parts.specs.State.{PartState}
use Rattle.machine_states.specs.runner_parts.specs.Tests.{has}
use Rattle.machine_states.specs.runner_steps.specs.After.{leaves}
use Rattle.machine_states.specs.First.{falling, keeper_part}
use Rattle.machine_states.specs.Sight.{Sight, part_or_first}
use Rattle.machine_states.proofs.Steps.{none_some}
use Rattle.machine_states.specs.runner_parts.specs.Lists.{entry_count}
use Rattle.reached_facts.specs.request_facts.specs.reached_histories.specs.Requests.{or_none, requests_of}
use Rattle.reached_facts.specs.request_facts.specs.reached_histories.specs.Laws.{HasHistory}
use Rattle.version_words.specs.RunnerState.{RunnerState}
use Rattle.version_words.specs.TableState.{TableState, WordsState, IsClosing, word_of}
use Rattle.free_serving.specs.resource_bounds.specs.Versions.{VersionsAreCounted, run_count, open_count, runs_of, runs_below}
use Rattle.lone_reads.specs.lone_plans.specs.one_worker.specs.Ungiven.{IsBare}
use Rattle.free_serving.specs.resource_bounds.specs.InUse.{FewAreInUse, NoneIsHeld, entries_below, named_below}
use Rattle.reached_facts.specs.keeper_facts.specs.Freed.{IsFreed, IsPublished, LocksTell}
use Rattle.reached_facts.specs.keeper_facts.specs.runner_facts.specs.Keeper.{AllJoined}
use Rattle.free_serving.specs.Left.{Rises}
use Rattle.threaded_runs.specs.Own.{own_requests}
use Rattle.threaded_runs.specs.Runs.{AreEntered, stamp_of}
use Rattle.settled_tables.proofs.Keeping.{length-falling}
use Rattle.threaded_runs.proofs.Owning.{numbered}
use Rattle.threaded_runs.proofs.Closing.{end, word_is}

-- what rises follows
follows_by : (reads_free : Bool) (s t : ℕ) → Rises reads_free s t → Follows s t
follows_by true s t rises = rises
follows_by false s t rises = inl rises

-- all requests are the one worker's
pub all_own : (requests : List Request) → own_requests 1 0 requests ≡ requests
all_own [] = refl
all_own (q ∷ requests) =
    ap (λ (b : Bool). cond b (q ∷ own_requests 1 0 requests) (own_requests 1 0 requests)) (zero_is (q.trace % 1) (mod-one q.trace))
    ∙ ap (λ (rest : List Request). q ∷ rest) (all_own requests)
  where
    zero_is : (n : ℕ) → n ≡ 0 → (n == 0) ≡ true
    zero_is n e = grind (arith, nat_tests)

unseen : (there : Bool) (word : ℕ) → there ≡ false → cond there word 0 ≡ 0
unseen true word is = absurd (cc)
unseen false word is = refl

-- the keeper's own slots apart, where none is on the board
fits : (nodes worker keeper given used : ℕ) → nodes * 1 + (2 * 1 + 2) ≤ 0 + worker + keeper + given + used → keeper ≡ 4 → given ≡ 0 → nodes ≤ worker + used
fits nodes worker keeper given used all own none = omega (arith, all, own, none)

none_named : (word : Spot → ℕ) → ((i : ℕ) → word (Board i) ≡ 0) → (n : ℕ) → named_below word n ≡ 0
none_named word bare zero = refl
none_named word bare (suc n) =
    let rest = none_named word bare n in
    let last : ◌≡◌ {A = ℕ} (cond (word (Board n) == 0) 0 1) 0 = ap (λ (k : ℕ). cond (k == 0) 0 1) (bare n) in omega (arith, rest, last)

most : (per_pair size largest : ℕ) → size ≤ largest → per_pair * size ≤ per_pair * largest
most per_pair size largest few = mul-le per_pair size per_pair largest (omega arith) few

module _ {T : Type 0} (m : Meaning) (t : TableState T) (keeper : RunnerState T) (w : WordsState T) (closing : IsClosing m t keeper w)
    (one : t.layout.runners ≡ 1) (p : PartState) (p_is : (end m t keeper w closing).part 0 ≡ leaves p)
    (unpublished : p.published ≡ None) where
  abbrev last : Sight
  last = end m t keeper w closing

  keeper_is : last.part t.layout.runners ≡ keeper.part
  keeper_is = ap (λ (b : Bool). part_or_first (slice_get closing.world.parts (if b then 0 else suc t.layout.runners)))
      (eq-eqb t.layout.runners t.layout.runners refl) ∙ ap part_or_first closing.keeper_part

  pub second_is : last.part 1 ≡ keeper.part
  second_is = ap last.part (sym one) ∙ keeper_is

  -- a worker that published nothing left no section to the keeper
  pub none_freed : LocksTell m t.layout last → ((worker : ℕ) → worker < t.layout.runners → has keeper.part.records.joined worker ≡ true)
      → (d : ℕ) → IsFreed m keeper.part.records.left d → ⊥
  none_freed tells told d freed = by owner.worker (omega (arith, owner.low, one)) owner.published
    where
      joined : AllJoined t.layout last
      joined worker low = ap (λ (x : PartState). has x.records.joined worker) keeper_is ∙ told worker low

      owner : IsPublished t.layout last d
      owner = tells.owned joined d (subst (λ (x : PartState). IsFreed m x.records.left d) (sym keeper_is) freed)

      by : (r : ℕ) → r ≡ 0 → (last.part r).published ≡ Some owner.section → ⊥
      by r is published = none_some owner.section (sym published ∙ (ap (λ k. (last.part k).published) is ∙ (ap (λ (x : PartState). x.published) p_is ∙ unpublished)))

  module _ (counted : VersionsAreCounted t.layout last) (resting : p.run ≡ None) (keeper_resting : keeper.part.run ≡ None)
      (keeper_unpublished : keeper.part.published ≡ None) (none_ran : length keeper.part.records.finished ≡ 0)
      (few : length p.records.finished ≤ length t.requests + 1) where
    worker_runs : runs_of (last.part 0) ≡ length p.records.finished
    worker_runs =
        let all : runs_of (last.part 0) ≡ length p.records.finished + (run_count p.run + open_count p.published) = ap runs_of p_is in
        let none : run_count p.run ≡ 0 = ap run_count resting in
        let nothing : open_count p.published ≡ 0 = ap open_count unpublished in omega (arith, all, none, nothing)

    keeper_runs : runs_of (last.part 1) ≡ 0
    keeper_runs =
        let all : runs_of (last.part 1) ≡ length keeper.part.records.finished + (run_count keeper.part.run + open_count keeper.part.published) = ap runs_of second_is in
        let none : run_count keeper.part.run ≡ 0 = ap run_count keeper_resting in
        let nothing : open_count keeper.part.published ≡ 0 = ap open_count keeper_unpublished in omega (arith, all, none, nothing, none_ran)

    all_runs : runs_below last.part (suc t.layout.runners) ≡ 0 + runs_of (last.part 0) + runs_of (last.part 1)
    all_runs = ap (λ (n : ℕ). runs_below last.part (suc n)) one

    pub few_versions : (place : ℕ) → version_of (word_of m w (Cell place)) ≤ 4 * length w.requests + 5
    few_versions place =
        let is = ap version_of (word_is m t keeper w closing (Cell place)) in
        let most = counted place in
        let requests = ap length closing.requests in
        omega (arith, is, most, requests, all_runs, worker_runs, keeper_runs, few)

  module _ (per_pair : ℕ) (in_use : FewAreInUse per_pair m t.layout t.requests last) (bare : IsBare last) (free : NoneIsHeld m last)
      (history : HasHistory m t.layout t.requests last) (is_map : m.is_map ≡ true) (order : AreInOrder t.requests 64)
      (nodes : keeper.part.nodes ≡ (keeper_part m t.layout).nodes) (count : ℕ) (reads_free : Bool) (entered : AreEntered m w reads_free t.requests count) where
    abbrev nobody : Request
    nobody = record { trace = 0; number = 0; op = Get 0 }

    at : (n : ℕ) → n < length t.requests → slice_get t.requests n ≡ Some (get_or t.requests n nobody)
    at n low = slice_get-get_or t.requests n nobody low

    stamp_is : (n : ℕ) → n < length t.requests → last.word (Stamp n) ≡ stamp_of m w (get_or t.requests n nobody)
    stamp_is n low = sym (word_is m t keeper w closing (Stamp n))
        ∙ ap (λ (k : ℕ). word_of m w (Stamp k)) (sym (numbered t.requests order n (get_or t.requests n nobody) (at n low)))

    inside : (n : ℕ) → n < count → n < length t.requests
    inside n low = let few = entered.few in omega (arith, low, few)

    first : HaveFirstStamps (λ n. last.word (Stamp n)) t.requests count
    first = record {
      few = entered.few;
      some = λ n low zero. entered.entries n (get_or t.requests n nobody) low (at n (inside n low)) (sym (stamp_is n (inside n low)) ∙ zero);
      rising = λ n k less low.
          let below : n < count = omega (arith, less, low) in
          let a = stamp_is n (inside n below) in let b = stamp_is k (inside k low) in
          let c = entered.rising n k (get_or t.requests n nobody) (get_or t.requests k nobody) less low (at n (inside n below)) (at k (inside k low)) in
          subst (λ (s : ℕ). Follows s (last.word (Stamp k))) (sym a)
          (subst (λ (s : ℕ). Follows (stamp_of m w (get_or t.requests n nobody)) s) (sym b) (follows_by reads_free _ _ c));
      none = λ n high. ⊎_elim
          (λ low. stamp_is n low ∙ entered.none n (get_or t.requests n nobody) high (at n low))
          (λ beyond. unseen _ _ (past n (length t.requests) beyond))
          (cases_lt n (length t.requests));
    }
      where
        past : (a b : ℕ) → b ≤ a → nat_lt a b ≡ false
        past a b high = grind (arith, nat_tests)

    pairs_are : history.state.pairs ≡ map_behind t.requests count
    pairs_are = history.legal.map is_map ∙ (map-oldest_first history.state.history
        ∙ replayed (requests_of m t.layout t.requests).op (λ n. last.word (Stamp n)) t.requests count history.state.history
        (λ n q there. ap (λ (o : Option Request). (or_none o).op) there) first history.legal.entries)

    own_slots : entry_count (last.part 1).nodes ≡ 4
    own_slots =
        let own = length-falling (m.fixed_slots + t.layout.nodes * t.layout.runners) (2 * t.layout.runners + 2) in
        let same : entry_count (last.part 1).nodes
        ≡ 0 + (length (falling (m.fixed_slots + t.layout.nodes * t.layout.runners) (2 * t.layout.runners + 2)) + (0 + 0)) =
        ap (λ (x : PartState). entry_count x.nodes) second_is ∙ ap entry_count nodes in
        omega (arith, same, own, one)

    pub few_slots : t.layout.nodes ≤ entry_count p.nodes + per_pair * peak t.requests
    few_slots =
        let all = subst (λ (n : ℕ). t.layout.nodes * n + (2 * n + 2) ≤ entries_below last.part (suc n) + named_below last.word board_words + per_pair * len history.state.pairs) one (in_use history free) in
        let left = fits t.layout.nodes (entry_count (last.part 0).nodes) (entry_count (last.part 1).nodes) (named_below last.word board_words) (per_pair * len history.state.pairs) all own_slots
        (none_named last.word bare board_words) in
        let worker = ap (λ (x : PartState). entry_count x.nodes) p_is in
        let pairs = most per_pair (len history.state.pairs) (peak t.requests) (subst (λ (pairs : Pairs). len pairs ≤ peak t.requests) (sym pairs_are) (below_peak t.requests count)) in
        omega (arith, left, worker, pairs)
