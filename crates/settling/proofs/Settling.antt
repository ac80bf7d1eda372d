-- The beginning and the end of settling.
use Rattle.std.specs.Prelude.{◌==◌, ◌||◌, Bool, slice_get, slice_index, nat_lt, cond, true, false}
use Rattle.std.proofs.Common.{◌≡◌, ℕ, ◌+◌, ◌*◌, ◌<◌, ◌≤◌, List, [], ◌∷◌, length, ⊎_elim, sym, refl, ap, ◌∙◌, subst, arith, Some, None}
use Rattle.std.proofs.lemmas.Bool.{cases_lt}
use Rattle.std.proofs.lemmas.Bool.Decides.{nat_tests}
use Rattle.machine_states.specs.body_terms.specs.Word.{value_of}
use Rattle.machine_states.specs.table_words.specs.declared.spot.Spot.TheVariants.{Cell}
use Rattle.machine_states.specs.table_words.specs.Limits.{IsWithinLimits}
use Rattle.machine_states.specs.table_words.specs.Places.{address, keeper_blocks}
use Rattle.machine_states.specs.runner_steps.specs.Asks.{sizes_for}
use Rattle.machine_states.specs.structure_laws.specs.Meaning.{Meaning}
use Rattle.machine_states.specs.structure_laws.specs.Laws.{Laws}
use Rattle.machine_states.specs.runner_parts.specs.declared.event.EventKind.TheVariants as kinds
use Rattle.machine_states.specs.runner_parts.specs.State.{NodesState, GuardsState, ReadsState, PartState}
use Rattle.machine_states.specs.runner_parts.specs.Tests.{has}
use Rattle.machine_states.specs.Reached.{Reached}
use Rattle.machine_states.specs.Sight.{Sight, sight, part_or_first}
use Rattle.machine_states.specs.World.{World, seat_of}
use Rattle.reached_histories.specs.machine_facts.specs.machine_invariant.specs.After.{AreAllowed}
use Rattle.keeper_facts.specs.runner_facts.specs.Keeper.{AllJoined}
use Rattle.keeper_facts.specs.Freed.{IsCleared, IsNamed, IsFreed, IsAlone, LocksTell}
use Rattle.reached_histories.specs.Laws.{HasHistory}
use Rattle.reached_histories.proofs.Histories.{reached_have}
use Rattle.try_lock.specs.commit_log.specs.version_words.specs.RunnerState.{RunnerState}
use Rattle.try_lock.specs.commit_log.specs.version_words.specs.TableState.{TableState, IsOf}
use Rattle.try_lock.specs.epoch_slots.specs.Entries.{HasLeave, Enters, Exits}
use Rattle.try_lock.specs.epoch_slots.proofs.Outside.{reads_made}
use Rattle.try_lock.specs.section_runs.specs.Reached.{run_blocks}
use Rattle.settling.specs.Settled.{LoadsLocks, MaySettle, IsSettled, Settles}
use Rattle.settling.specs.Clearing.{cell_count, KeepsJoins, IsUnderway, IsClearing}
use Rattle.settling.proofs.Blocks.{keeper_has}
use Rattle.settling.proofs.Growing.{Grows, grows_on, own_grows, grows_made}
use Rattle.settling.proofs.Clears.{RecordTells, cleared_in, freed_in, keeps_grown}

module _ {T : Type 0} (m : Meaning) (laws : Laws m) (t : TableState T) (limits : IsWithinLimits t.layout) (allowed : AreAllowed t.requests) (record_tells : RecordTells m) where
  module _ (old r : RunnerState T) (own : IsOf t old) (may : MaySettle t old) (enters : Enters m old r) where
    entering : Grows old r
    entering =
        let one = grows_made m kinds.EnterLoad enters.announced old enters.loading refl enters.load in
        let two = grows_made m kinds.Announce enters.announce.found enters.loading enters.waiting refl enters.announce.event in
        let three = grows_made m kinds.EnterAgain enters.epoch enters.waiting r refl enters.again in
        grows_on old enters.loading r one (grows_on enters.loading enters.waiting r two three)

    pub enter_keeps : KeepsJoins old r
    enter_keeps = keeps_grown old r entering enters.keeps

    begins_way : IsUnderway m (length r.part.records.finished) 0 r
    begins_way = record {
      epoch = enters.epoch;
      at = enters.at;
      keeper = entering.number ∙ may.joined.number ∙ ap (λ l. l.runners) (sym (entering.layout ∙ own.layout));
      told = λ worker few. ap (λ xs. has xs worker) entering.told ∙ may.told worker (subst (λ l. worker < l.runners) (entering.layout ∙ own.layout) few);
      reached = record { world = enters.again.shown.world; reached = enters.again.shown.reached; own = enters.again.shown.own };
      hand = ap (λ (n : NodesState). n.hand) enters.keeps.nodes ∙ may.tidy.hand;
      tests = ap (λ (n : NodesState). n.tests) enters.keeps.nodes ∙ may.tidy.tests;
      loaded = λ i place word here. absurd (none_read (ap (λ (s : ReadsState). slice_get s.walk i) (sym enters.reads) ∙ here));
      cleared = λ place low lock. absurd (omega (arith, low));
      freed = [];
      apart = tt;
      each = λ d h. absurd (let z = h in cc);
      reserve = subst (λ l. 2 * l.runners + 2 ≤ length r.part.nodes.free + 0) (sym (entering.layout ∙ own.layout))
          (let a = ap (λ (n : NodesState). length n.free) enters.keeps.nodes in let b = may.free in omega (arith, a, b));
      blocks = subst (λ l. run_blocks * l.runners ≤ length r.part.blocks.free + run_blocks * 0) (sym (entering.layout ∙ own.layout))
          (has_all (run_blocks * t.layout.runners) (keeper_blocks t.layout) (length old.part.blocks.free) (length r.part.blocks.free) (run_blocks * 0)
          (keeper_has t.layout) may.blocks enters.keeps.blocks);
      runs = omega arith;
      looked = ap (λ (g : GuardsState). g.looked) enters.guards;
    }
      where
        none_read : {x : ℕ × ℕ} → None ≡ Some x → ⊥
        none_read e = cc

        has_all : (all own free left more : ℕ) → all ≤ own → free ≡ own → free ≤ left → all ≤ left + more
        has_all all own free left more enough whole stay = omega (arith, enough, whole, stay)

    pub begins : IsClearing m (length r.part.records.finished) 0 r
    begins = record { way = begins_way; unguarded = ap (λ (g : GuardsState). g.named) enters.guards ∙ may.tidy.unguarded }

  pub may_leave : (begun below : ℕ) (r : RunnerState T) → IsClearing m begun below r → HasLeave r
  may_leave begun below r is = record { epoch = is.way.epoch; at = is.way.at; unguarded = is.unguarded }

  module _ (begun : ℕ) (r new : RunnerState T) (own : IsOf t r) (is : IsClearing m begun (cell_count m t.layout) r) (exits : Exits m r new) where
    leaving : Grows r new
    leaving = grows_made m kinds.Idle exits.announce.found r new refl exits.announce.event

    pub exit_keeps : KeepsJoins r new
    exit_keeps = keeps_grown r new leaving exits.keeps

    own' : IsOf t new
    own' = own_grows t r new leaving own

    keeper : new.number ≡ new.layout.runners
    keeper = leaving.number ∙ is.way.keeper ∙ ap (λ l. l.runners) (sym leaving.layout)

    -- in each state in which the keeper has this part
    module _ (w : World) (reached : Reached m new.layout new.requests w) (part : slice_get w.parts (seat_of new.layout new.number) ≡ Some new.part) where
      abbrev s : Sight
      s = sight m new.layout new.requests w

      within : IsWithinLimits new.layout
      within = subst IsWithinLimits (sym own'.layout) limits

      few : AreAllowed new.requests
      few = subst AreAllowed (sym own'.requests) allowed

      seen : s.part new.layout.runners ≡ new.part
      seen = ap (λ n. part_or_first (slice_get w.parts (seat_of new.layout n))) (sym keeper) ∙ ap part_or_first part

      joined : AllJoined new.layout s
      joined worker low = ap (λ (p : PartState). has p.records.joined worker) seen
          ∙ (ap (λ xs. has xs worker) leaving.told ∙ is.way.told worker (subst (λ l. worker < l.runners) leaving.layout low))

      alone : IsAlone new.layout s
      alone = record { joined = joined; resting = ap (λ (p : PartState). p.run) seen ∙ exits.at.resting }

      tells : LocksTell m new.layout s
      tells = record_tells new.layout new.requests w within few reached

      free : (place : ℕ) → m.is_lock place ≡ true → value_of (s.word (Cell place)) ≡ 0
      free place lock = ⊎_elim
          (λ low. tells.cleared alone place (subst (λ (p : PartState). IsCleared p.records.left place) (sym seen)
          (cleared_in r.part.records.left new.part.records.left leaving.left place (is.way.cleared place low lock))) lock)
          (λ high. ap value_of (beyond place high))
          (cases_lt place (cell_count m t.layout))
        where
          -- a cell that the table doesn't have
          beyond : (place : ℕ) → cell_count m t.layout ≤ place → s.word (Cell place) ≡ 4294967296
          beyond place high = ap (λ b. cond b (slice_index w.words (address (sizes_for m new.layout new.requests) (Cell place))) 4294967296) (none place (cell_count m new.layout) (subst (λ l. cell_count m l ≤ place) (sym own'.layout) high))
            where
              none : (a b : ℕ) → b ≤ a → nat_lt a b ≡ false
              none a b high = grind (arith, nat_tests)

      history : HasHistory m new.layout new.requests s
      history = reached_have m laws new.layout new.requests within few w reached

      settled : IsSettled m s
      settled = record { free = free; replied = (history.closed free).replied }

      -- it ran at most one section for each worker
      few_freed : length is.way.freed ≤ new.layout.runners
      few_freed = tells.few joined is.way.freed is.way.apart (λ d h. subst (λ (p : PartState). IsNamed m p.records.left d) (sym seen)
          (let f = freed_in m r.part.records.left new.part.records.left leaving.left d (is.way.each d h) in
          record { place = f.place; lock = f.lock; word = f.word; named = f.named; names = f.names }))

    -- where it has freed none, it ran none
    none_freed : ((d : ℕ) → IsFreed m new.part.records.left d → ⊥) → length is.way.freed ≡ 0
    none_freed none = by is.way.freed (λ d h. none d (freed_in m r.part.records.left new.part.records.left leaving.left d (is.way.each d h)))
      where
        by : (ds : List ℕ) → ((d : ℕ) → has ds d ≡ true → ⊥) → length ds ≡ 0
        by [] empty = refl
        by (d ∷ ds) empty = absurd (empty d (there d (has ds d)))
          where
            there : (d : ℕ) (b : Bool) → ((d == d) || b) ≡ true
            there d b = grind (arith, nat_tests)

    pub settles : (old : RunnerState T) → begun ≡ length old.part.records.finished → KeepsJoins old new → Settles m old new
    settles old same keeps = record {
      settled = settled;
      reached = record { world = exits.announce.event.shown.world; reached = exits.announce.event.shown.reached; own = exits.announce.event.shown.own };
      tidy = record {
        at = exits.at;
        hand = ap (λ (n : NodesState). n.hand) exits.keeps.nodes ∙ is.way.hand;
        tests = ap (λ (n : NodesState). n.tests) exits.keeps.nodes ∙ is.way.tests;
        looked = ap (λ (g : GuardsState). g.looked) exits.guards ∙ is.way.looked;
        unguarded = ap (λ (g : GuardsState). g.named) exits.guards ∙ is.unguarded;
      };
      number = keeps.number;
      joined = keeps.joined;
      told = keeps.told;
      crosses = keeps.crosses;
      known = keeps.known;
      loaded = subst (LoadsLocks m) (ap (λ (s : ReadsState). s.walk) (sym (reads_made m kinds.Idle exits.announce.found r new exits.announce.event is.way.at.resting))) is.way.loaded;
      few =
          let shown = exits.announce.event.shown in
          let freed = few_freed shown.world shown.reached shown.own in
          let runs = ap length exits.keeps.finished ∙ is.way.runs in
          let layout = ap (λ l. l.runners) keeps.layout in omega (arith, freed, runs, layout, same);
      quiet = λ none.
          let runs = ap length exits.keeps.finished ∙ is.way.runs in
          let freed = none_freed none in
          let finished : length new.part.records.finished ≡ length old.part.records.finished = omega (arith, runs, freed, same) in
          (keeps.quiet finished, finished);
    }
