-- One lock is loaded, and the section that it names is run.
use Rattle.std.specs.Prelude.{◌==◌, ◌&&◌, ◌||◌, ◌/◌, count_by, slice_get, nat_lt, Bool, true, false, if◌then◌else◌}
use Rattle.std.proofs.Common.{◌≡◌, ◌≢◌, ℕ, suc, ◌+◌, ◌*◌, ◌-◌, ◌<◌, ◌≤◌, List, [], ◌∷◌, ◌++◌, length, length-append, ⊎_elim, inl, inr, sym, refl, ap, ◌∙◌, subst, arith, Option, Some, None}
use Rattle.std.specs.Prelude.{◌⊎◌}
use Rattle.std.proofs.lemmas.Bool.{cases_lt, both_ways}
use Rattle.std.proofs.lemmas.Bool.Decides.{nat_tests}
use Rattle.machine_states.specs.body_terms.specs.Shape.{IsShaped, is_make}
use Rattle.machine_states.specs.body_terms.specs.Word.{value_of, is_free}
use Rattle.machine_states.specs.table_words.specs.Access.{written}
use Rattle.machine_states.specs.table_words.specs.declared.access.Access.TheVariants.{Loads}
use Rattle.machine_states.specs.table_words.specs.declared.spot.Spot.TheVariants as spots
use Rattle.machine_states.specs.table_words.specs.Limits.{IsWithinLimits}
use Rattle.machine_states.specs.table_words.specs.Places.{descriptor_count}
use Rattle.machine_states.specs.table_words.proofs.Seen.{fits_is}
use Rattle.machine_states.specs.structure_laws.specs.Meaning.{Meaning}
use Rattle.machine_states.specs.structure_laws.specs.Laws.{Laws}
use Rattle.machine_states.specs.runner_parts.specs.declared.entries.Left.{Left}
use Rattle.machine_states.specs.runner_parts.specs.declared.entries.Published.{Published}
use Rattle.machine_states.specs.runner_parts.specs.declared.event.EventKind.{EventKind}
use Rattle.machine_states.specs.runner_parts.specs.declared.event.EventKind.TheVariants as kinds
use Rattle.machine_states.specs.epoch_core.specs.declared.stage.Stage.TheVariants as stages
use Rattle.machine_states.specs.runner_parts.specs.Lists.{named_seen}
use Rattle.machine_states.specs.runner_parts.specs.State.{RunState, NodesState, GuardsState, ReadsState, PartState}
use Rattle.machine_states.specs.runner_parts.specs.Tests.{has, is_walking, is_readable, is_between}
use Rattle.machine_states.specs.runner_steps.specs.Outside.{when}
use Rattle.machine_states.specs.runner_steps.specs.Asks.{ask_by, fitting, sizes_for}
use Rattle.machine_states.specs.runner_steps.specs.AfterInRun.{kept_unless}
use Rattle.machine_states.specs.runner_steps.specs.After.{after, after_by}
use Rattle.machine_states.specs.Sight.{Sight, sight, part_or_first}
use Rattle.machine_states.specs.Reached.{Reached}
use Rattle.machine_states.specs.World.{World, seat_of}
use Rattle.machine_states.specs.map_history.specs.declared.op.Request.{Request}
use Rattle.machine_states.specs.table_words.specs.declared.layout.Layout.{Layout}
use Rattle.machine_states.proofs.Steps.{some_same}
use Rattle.reached_histories.specs.machine_facts.specs.machine_invariant.specs.After.{AreAllowed}
use Rattle.reached_histories.specs.machine_facts.proofs.Following.{facts_after}
use Rattle.keeper_facts.specs.runner_facts.specs.next_steps.proofs.Numbers.{reached_numbers}
use Rattle.keeper_facts.specs.runner_facts.specs.Keeper.{AllJoined}
use Rattle.keeper_facts.specs.Freed.{HasLeft, IsCleared, IsNamed, IsFreed, AreApart, IsAlone, StandsSeen, LocksTell}
use Rattle.keeper_facts.proofs.Lists.{left_on}
use Rattle.keeper_facts.proofs.Keeping.{after_keeps, noted_left}
use Rattle.try_lock.specs.commit_log.specs.version_words.specs.RunnerState.{RunnerState}
use Rattle.try_lock.specs.commit_log.specs.version_words.specs.TableState.{TableState, IsOf}
use Rattle.try_lock.specs.commit_log.specs.version_words.specs.Events.{met_by, IsEnabled, Makes}
use Rattle.try_lock.specs.commit_log.specs.version_words.specs.Naming.{load_of}
use Rattle.try_lock.specs.commit_log.specs.version_words.specs.Stages.{IsAt}
use Rattle.try_lock.specs.commit_log.specs.version_words.proofs.Stages.{made_at}
use Rattle.try_lock.specs.epoch_slots.specs.Entries.{KeepsOwn}
use Rattle.try_lock.specs.epoch_slots.proofs.Outside.{guards_made, reads_made, own_kept}
use Rattle.try_lock.specs.section_runs.specs.Reached.{run_of, run_blocks}
use Rattle.try_lock.specs.section_runs.specs.Ended.{EndsSo}
use Rattle.try_lock.specs.section_runs.proofs.Blocks.{run_few}
use Rattle.try_lock.specs.section_runs.proofs.Going.{shaped}
use Rattle.try_lock.specs.section_runs.proofs.Openeds.{stands_opened, opened_body}
use Rattle.try_lock.specs.Reached.{MayHelp}
use Rattle.try_lock.specs.Watches.{MayWatch, Watched}
use Rattle.try_lock.proofs.Guarding.{may_let_go, guard_at, guard_named, guard_reads, guard_keeps}
use Rattle.try_lock.proofs.Watching.{same_named, same_looked}
use Rattle.reached_histories.specs.machine_facts.specs.machine_agreement.proofs.Releases.{get_more}
use Rattle.settling.specs.Settled.{IsFront, LoadsLocks}
use Rattle.settling.specs.Clearing.{cell_count, KeepsJoins, IsUnderway, IsClearing, HasMet, HasRun}
use Rattle.settling.proofs.Blocks.{for_next, behind_one, with_more}
use Rattle.settling.proofs.Growing.{front_same, front_on, Grows, grows_on, own_grows, grows_made, grows_ran, grows_opens}

-- what the record of what the keeper's steps left tells, in every reached state
abbrev pub RecordTells : Meaning → Type 0
RecordTells m = (layout : Layout) (requests : List Request) (w : World) → IsWithinLimits layout → AreAllowed requests → Reached m layout requests w
    → LocksTell m layout (sight m layout requests w)

equal : (a b : ℕ) → (a == b) ≡ true → a ≡ b
equal a b e = grind (arith, nat_tests)

-- a place below the next one
old_or_this : (p place : ℕ) → p < place + 1 → (p < place) ⊎ (p ≡ place)
old_or_this p place low = ⊎_elim (λ below. inl below) (λ high. inr (omega (arith, low, high))) (cases_lt p place)

-- what was seen stays seen while the record grows
left_in : (old new : List Left) → IsFront old new → (place number : ℕ) → HasLeft old place number → HasLeft new place number
left_in old new front place number is = subst (λ xs. HasLeft xs place number) (sym front.parts) (left_on old front.back place number is)

pub cleared_in : (old new : List Left) → IsFront old new → (place : ℕ) → IsCleared old place → IsCleared new place
cleared_in old new front place is = record {
  first = is.first;
  second = is.second;
  seen = left_in old new front place is.first is.seen;
  also = left_in old new front place is.second is.also;
  why = is.why;
}

pub freed_in : (m : Meaning) (old new : List Left) → IsFront old new → (d : ℕ) → IsFreed m old d → IsFreed m new d
freed_in m old new front d is = record {
  place = is.place;
  lock = is.lock;
  word = is.word;
  other = is.other;
  named = left_in old new front is.place is.word is.named;
  names = is.names;
  also = left_in old new front is.place is.other is.also;
  differs = is.differs;
}

pub keeps_on : {T : Type 0} (a b c : RunnerState T) → KeepsJoins a b → KeepsJoins b c → KeepsJoins a c
keeps_on a b c one two = record {
  layout = two.layout ∙ one.layout;
  number = two.number ∙ one.number;
  joined = two.joined ∙ one.joined;
  told = two.told ∙ one.told;
  crosses = two.crosses ∙ one.crosses;
  known = front_on a.part.records.known b.part.records.known c.part.records.known one.known two.known;
  more = let first = one.more in let second = two.more in omega (arith, first, second);
  quiet = λ same. let first = one.more in let second = two.more in
      two.quiet (omega (arith, first, second, same)) ∙ one.quiet (omega (arith, first, second, same));
}

pub keeps_same : {T : Type 0} (r : RunnerState T) → KeepsJoins r r
keeps_same r = record {
  layout = refl;
  number = refl;
  joined = refl;
  told = refl;
  crosses = refl;
  known = front_same r.part.records.known r.part.records.known refl;
  more = omega arith;
  quiet = λ same. refl;
}

-- where no run came to its end
pub keeps_grown : {T : Type 0} (a b : RunnerState T) → Grows a b → KeepsOwn a b → KeepsJoins a b
keeps_grown a b grows own = record {
  layout = grows.layout;
  number = grows.number;
  joined = grows.joined;
  told = grows.told;
  crosses = grows.crosses;
  known = front_same a.part.records.known b.part.records.known own.known;
  more = let same = ap length own.finished in omega (arith, same);
  quiet = λ same. own.nodes;
}

module _ {T : Type 0} (m : Meaning) (begun place : ℕ) (r : RunnerState T) (is : IsUnderway m begun place r) where
  -- the next lock is cleared, or is none
  onward : ((p : ℕ) → p ≡ place → m.is_lock p ≡ true → IsCleared r.part.records.left p) → IsUnderway m begun (place + 1) r
  onward this = record {
    epoch = is.epoch;
    at = is.at;
    keeper = is.keeper;
    told = is.told;
    reached = is.reached;
    hand = is.hand;
    tests = is.tests;
    loaded = is.loaded;
    cleared = λ p low lock. ⊎_elim (λ before. is.cleared p before lock) (λ same. this p same lock) (old_or_this p place low);
    freed = is.freed;
    apart = is.apart;
    each = is.each;
    reserve = is.reserve;
    blocks = is.blocks;
    runs = is.runs;
    looked = is.looked;
  }

  pub clears : IsCleared r.part.records.left place → IsUnderway m begun (place + 1) r
  clears this = onward (λ p same lock. subst (IsCleared r.part.records.left) (sym same) this)

-- a place that is no lock
pub skips : {T : Type 0} (m : Meaning) (begun place : ℕ) (r : RunnerState T) → m.is_lock place ≡ false → IsClearing m begun place r → IsClearing m begun (place + 1) r
skips m begun place r other is = record {
  way = onward m begun place r is.way (λ p same lock. absurd (both_ways _ (ap m.is_lock same ∙ other) lock));
  unguarded = is.unguarded;
}

-- a word that isn't free names a descriptor
names_one : (word : ℕ) → value_of word ≢ 0 → value_of word ≡ suc (value_of word - 1)
names_one word ne = by (value_of word) ne
  where
    by : (n : ℕ) → n ≢ 0 → n ≡ suc (n - 1)
    by n ne = omega (arith, ne)

not_free : (word : ℕ) → value_of word ≢ 0 → is_free word ≡ false
not_free word ne = by (value_of word) ne
  where
    by : (n : ℕ) → n ≢ 0 → (n == 0) ≡ false
    by n ne = grind (arith, nat_tests)

-- a step that is none of a run leaves the keeper under way
module _ {T : Type 0} (m : Meaning) (begun below : ℕ) (a b : RunnerState T) (is : IsUnderway m begun below a) where
  stepped : (kind : EventKind) (found : ℕ) → Makes m kind found a b → Grows a b → KeepsOwn a b → IsAt b (stages.Entered is.epoch) None
      → LoadsLocks m b.part.reads.walk → b.part.guards.looked ≡ [] → IsUnderway m begun below b
  stepped kind found made grows own at loaded looked = record {
    epoch = is.epoch;
    at = at;
    keeper = grows.number ∙ is.keeper ∙ ap (λ l. l.runners) (sym grows.layout);
    told = λ worker few. ap (λ xs. has xs worker) grows.told ∙ is.told worker (subst (λ l. worker < l.runners) grows.layout few);
    reached = record { world = made.shown.world; reached = made.shown.reached; own = made.shown.own };
    hand = ap (λ (n : NodesState). n.hand) own.nodes ∙ is.hand;
    tests = ap (λ (n : NodesState). n.tests) own.nodes ∙ is.tests;
    loaded = loaded;
    cleared = λ place low lock. cleared_in a.part.records.left b.part.records.left grows.left place (is.cleared place low lock);
    freed = is.freed;
    apart = is.apart;
    each = λ d h. freed_in m a.part.records.left b.part.records.left grows.left d (is.each d h);
    reserve = subst (λ l. 2 * l.runners + 2 ≤ length b.part.nodes.free + 2 * length is.freed) (sym grows.layout)
        (subst (λ (n : NodesState). 2 * a.layout.runners + 2 ≤ length n.free + 2 * length is.freed) (sym own.nodes) is.reserve);
    blocks = subst (λ l. run_blocks * l.runners ≤ length b.part.blocks.free + run_blocks * length is.freed) (sym grows.layout)
        (with_more (run_blocks * a.layout.runners) (length a.part.blocks.free) (length b.part.blocks.free) (run_blocks * length is.freed) is.blocks own.blocks);
    runs = ap length own.finished ∙ is.runs;
    looked = looked;
  }

  -- a store of the own guard word
  module _ (d : Option ℕ) (found : ℕ) (made : Makes m (kinds.Guard d) found a b) where
    guard_grows : Grows a b
    guard_grows = grows_made m (kinds.Guard d) found a b refl made

    pub guarded : IsUnderway m begun below b
    guarded = stepped (kinds.Guard d) found made guard_grows (guard_keeps m d found a b made is.at.resting) (guard_at m d found a b made is.epoch is.at)
        (subst (LoadsLocks m) (ap (λ (s : ReadsState). s.walk) (sym (guard_reads m d found a b made is.at.resting))) is.loaded)
        (ap (λ (g : GuardsState). g.looked) (guards_made m (kinds.Guard d) found a b made is.at.resting) ∙ is.looked)

    pub guarded_keeps : KeepsJoins a b
    guarded_keeps = keeps_grown a b guard_grows (guard_keeps m d found a b made is.at.resting)

  -- a load of a lock
  module _ (place : ℕ) (lock : m.is_lock place ≡ true) (low : place < cell_count m a.layout) where
    abbrev load : EventKind
    load = kinds.LoadCell (Some place)

    asked : met_by m a load ≡ Some (spots.Cell place, Loads)
    asked =
        let sizes = sizes_for m a.layout a.requests in
        ap (λ (g : Bool). if g then None else fitting sizes (ask_by m a.layout a.requests a.number load a.part a.part.run)) is.at.present
        ∙ (ap (fitting sizes) (ap (ask_by m a.layout a.requests a.number load a.part) is.at.resting
        ∙ ap (λ (c : Bool). when c (spots.Cell place) Loads) ((λ i. is_walking (is.at.at i) (is.at.resting i) && is_readable m a.part.reads.walk place) ∙ readable))
        ∙ ap (λ (c : Bool). if c then Some (spots.Cell place, Loads) else None) (fits_is sizes (spots.Cell place) low))
      where
        readable : is_readable m a.part.reads.walk place ≡ true
        readable = ap (λ c. nat_lt place m.fixed_cells || (c || (nat_lt ((place - m.fixed_cells) / 5) m.fixed_slots || m.reaches a.part.reads.walk ((place - m.fixed_cells) / 5)))) lock
            ∙ or_true (nat_lt place m.fixed_cells)
          where
            or_true : (c : Bool) → (c || true) ≡ true
            or_true true = refl
            or_true false = refl

    pub may_load : met_by m a (load_of a.part.run place) ≡ Some (spots.Cell place, Loads)
    may_load = ap (λ (o : Option RunState). met_by m a (load_of o place)) is.at.resting ∙ asked

    module _ (found : ℕ) (made : Makes m load found a b) where
      load_grows : Grows a b
      load_grows = grows_made m load found a b refl made

      load_own : KeepsOwn a b
      load_own = own_kept m load found a b made is.at.resting refl refl refl

      pub loaded_keeps : KeepsJoins a b
      loaded_keeps = keeps_grown a b load_grows load_own

      met : made.met ≡ (spots.Cell place, Loads)
      met = some_same _ _ (sym made.asked ∙ asked)

      left_more : b.part.records.left ≡ a.part.records.left ++ record { spot = spots.Cell place; number = found } ∷ []
      left_more =
          let part : b.part ≡ after m a.layout a.number load made.met.0 made.met.1 a.part found
          = ap (λ (y : RunnerState T). y.part) made.made in
          ap (λ (p : PartState). p.records.left) part
          ∙ (noted_left a.layout a.number is.keeper load made.met.0 made.met.1 found (after_by m a.layout load a.part a.part.run found).records refl
          ∙ (ap (λ (z : List ℕ × List Left). z.1 ++ record { spot = made.met.0; number = written made.met.1 found } ∷ []) (after_keeps m a.layout a.part found load refl a.part.run)
          ∙ (λ i. a.part.records.left ++ record { spot = (met i).0; number = written (met i).1 found } ∷ [])))

      pub has_word : HasLeft b.part.records.left place found
      has_word = subst (λ xs. HasLeft xs place found) (sym left_more) (record {
        at = length a.part.records.left;
        entry = record { spot = spots.Cell place; number = found };
        here = last_get a.part.records.left (record { spot = spots.Cell place; number = found });
        spot = refl;
        number_is = refl;
      })
        where
          last_get : (xs : List Left) (x : Left) → slice_get (xs ++ x ∷ []) (length xs) ≡ Some x
          last_get [] x = refl
          last_get (y ∷ xs) x = last_get xs x

      -- the word stood in the lock
      pub loaded_word : (sight m b.layout b.requests made.shown.world).word (spots.Cell place) ≡ found
      loaded_word = let s = sight m b.layout b.requests made.shown.world in ap (λ x. s.word x.0) (sym met) ∙ (made.shown.word ∙ ap (λ x. written x.1 found) met)

      walk_more : b.part.reads.walk ≡ a.part.reads.walk ++ (place, found) ∷ []
      walk_more = ap (λ (s : ReadsState). s.walk) (reads_made m load found a b made is.at.resting)

      only_locks : LoadsLocks m b.part.reads.walk
      only_locks i p w here = ⊎_elim
          (λ before. is.loaded i p w before.1)
          (λ now. ap (λ (x : ℕ × ℕ). m.is_lock x.0) (sym now.1) ∙ lock)
          (get_more a.part.reads.walk (place, found) (p, w) i (ap (λ xs. slice_get xs i) (sym walk_more) ∙ here))

      guards_then : b.part.guards ≡ named_seen a.part.guards (m.is_lock place) found
      guards_then = guards_made m load found a b made is.at.resting

      pub loaded_named : b.part.guards.named ≡ a.part.guards.named
      loaded_named = ap (λ (g : GuardsState). g.named) guards_then ∙ same_named a.part.guards (m.is_lock place) found

      pub loaded : IsUnderway m begun below b
      loaded = stepped load found made load_grows load_own
          (made_at m load found a b made is.at.resting (stages.Entered is.epoch) None is.at.seated is.at.present is.at.resting is.at.at is.at.published is.at.settled)
          only_locks (ap (λ (g : GuardsState). g.looked) guards_then ∙ (same_looked a.part.guards (m.is_lock place) found ∙ is.looked))

module _ {T : Type 0} (m : Meaning) (laws : Laws m) (t : TableState T) (limits : IsWithinLimits t.layout) (allowed : AreAllowed t.requests) where
  module _ (r : RunnerState T) (own : IsOf t r) where
    within : IsWithinLimits r.layout
    within = subst IsWithinLimits (sym own.layout) limits

    few : AreAllowed r.requests
    few = subst AreAllowed (sym own.requests) allowed

    -- a lock names a descriptor of the table: that of a section which some runner has published
    named_few : (w : World) → Reached m r.layout r.requests w → (place d : ℕ) → m.is_lock place ≡ true
        → value_of ((sight m r.layout r.requests w).word (spots.Cell place)) ≡ suc d → d < descriptor_count r.layout
    named_few w reached place d lock names =
        let facts = facts_after m laws r.layout r.requests reached.events w within few reached.after in
        let by = facts.here.sound.sections.in_locks.published place d lock names in
        subst (λ n. n < descriptor_count r.layout) by.3 (((reached_numbers m laws r.layout within r.requests few w reached).parts by.0).published by.1 by.2)

  -- the next lock is loaded
  module _ (begun place : ℕ) (lock : m.is_lock place ≡ true) (r : RunnerState T) (is : IsClearing m begun place r) (low : place < cell_count m r.layout)
      (word : ℕ) (r1 : RunnerState T) (own1 : IsOf t r1) (made0 : Makes m (load_of r.part.run place) word r r1) where
    made : Makes m (kinds.LoadCell (Some place)) word r r1
    made = subst (λ (o : Option RunState). Makes m (load_of o place) word r r1) is.way.at.resting made0

    pub load_keeps : KeepsJoins r r1
    load_keeps = loaded_keeps m begun place r r1 is.way place lock low word made

    still_unguarded : r1.part.guards.named ≡ None
    still_unguarded = loaded_named m begun place r r1 is.way place lock low word made ∙ is.unguarded

    seen1 : HasLeft r1.part.records.left place word
    seen1 = has_word m begun place r r1 is.way place lock low word made

    -- it was found free
    pub clears_free : value_of word ≡ 0 → IsClearing m begun (place + 1) r1
    clears_free free = record {
      way = clears m begun place r1 (loaded m begun place r r1 is.way place lock low word made)
          (record { first = word; second = word; seen = seen1; also = seen1; why = inl free });
      unguarded = still_unguarded;
    }

    -- or it named a section
    pub has_met : value_of word ≢ 0 → HasMet m begun place word r1
    has_met ne = record {
      clearing = record { way = loaded m begun place r r1 is.way place lock low word made; unguarded = still_unguarded };
      seen = seen1;
      names = ne;
      few = named_few r1 own1 made.shown.world made.shown.reached place (value_of word - 1) lock
          (ap value_of (loaded_word m begun place r r1 is.way place lock low word made) ∙ names_one word ne);
    }

  module _ (record_tells : RecordTells m) (begun place held : ℕ) (lock : m.is_lock place ≡ true) (r : RunnerState T) (met : HasMet m begun place held r)
      (low : place < cell_count m r.layout) where
    abbrev d : ℕ
    d = value_of held - 1

    names : value_of held ≡ suc d
    names = names_one held met.names

    pub may_watch : MayWatch m place held r
    may_watch = record { epoch = met.clearing.way.epoch; at = met.clearing.way.at; lock = lock; within = low; names = not_free held met.names; few = met.few }

    module _ (stands : Bool) (r1 : RunnerState T) (own1 : IsOf t r1) (watched : Watched m place held stands r r1) where
      abbrev g : RunnerState T
      g = watched.guarding

      guarding : IsUnderway m begun place g
      guarding = guarded m begun place r g met.clearing.way (Some d) watched.guard.found watched.guard.event

      low1 : place < cell_count m g.layout
      low1 = subst (λ l. place < cell_count m l) (sym (ap (λ (y : RunnerState T). y.layout) watched.guard.event.made)) low

      way1 : IsUnderway m begun place r1
      way1 = loaded m begun place g r1 guarding place lock low1 watched.found watched.load

      watch_keeps : KeepsJoins r r1
      watch_keeps = keeps_on r g r1 (guarded_keeps m begun place r g met.clearing.way (Some d) watched.guard.found watched.guard.event)
          (loaded_keeps m begun place g r1 guarding place lock low1 watched.found watched.load)

      grows1 : Grows r r1
      grows1 = grows_on r g r1 (grows_made m (kinds.Guard (Some d)) watched.guard.found r g refl watched.guard.event)
          (grows_made m (kinds.LoadCell (Some place)) watched.found g r1 refl watched.load)

      has_held : HasLeft r1.part.records.left place held
      has_held = left_in r.part.records.left r1.part.records.left grows1.left place held met.seen

      pub may_let_go_then : IsEnabled m (kinds.Guard None) r1
      may_let_go_then = may_let_go m r1 way1.epoch way1.at

      -- it has another word by now
      module _ (moved : stands ≡ false) (found : ℕ) (r2 : RunnerState T) (goes : Makes m (kinds.Guard None) found r1 r2) where
        differs : held ≢ watched.found
        differs same = other watched.found held (sym watched.told ∙ moved) (sym same)
          where
            other : (n k : ℕ) → (n == k) ≡ false → n ≢ k
            other n k e = grind (arith, nat_tests)

        pub clears_moved : IsClearing m begun (place + 1) r2
        clears_moved = record {
          way = guarded m begun (place + 1) r1 r2 (clears m begun place r1 way1 (record {
            first = held;
            second = watched.found;
            seen = has_held;
            also = has_word m begun place g r1 guarding place lock low1 watched.found watched.load;
            why = inr differs;
          })) None found goes;
          unguarded = guard_named m None found r1 r2 goes way1.at.resting;
        }

        pub moved_keeps : KeepsJoins r r2
        moved_keeps = keeps_on r r1 r2 watch_keeps (guarded_keeps m begun place r1 r2 way1 None found goes)

      -- it has the word still
      module _ (same : stands ≡ true) where
        abbrev s1 : Sight
        s1 = sight m r1.layout r1.requests watched.reached.world

        part1 : s1.part r1.layout.runners ≡ r1.part
        part1 = ap (λ n. part_or_first (slice_get watched.reached.world.parts (seat_of r1.layout n))) (sym way1.keeper) ∙ ap part_or_first watched.reached.own

        joined1 : AllJoined r1.layout s1
        joined1 worker low = ap (λ (p : PartState). has p.records.joined worker) part1 ∙ way1.told worker low

        alone1 : IsAlone r1.layout s1
        alone1 = record { joined = joined1; resting = ap (λ (p : PartState). p.run) part1 ∙ way1.at.resting }

        tell1 : LocksTell m r1.layout s1
        tell1 = record_tells r1.layout r1.requests watched.reached.world (within r1 own1) (few r1 own1) watched.reached.reached

        word1 : value_of (s1.word (spots.Cell place)) ≡ suc d
        word1 = ap value_of (watched.here ∙ same_word watched.found held (sym watched.told ∙ same)) ∙ names
          where
            same_word : (n k : ℕ) → (n == k) ≡ true → n ≡ k
            same_word n k e = grind (arith, nat_tests)

        freed1 : (e : ℕ) → has way1.freed e ≡ true → IsFreed m (s1.part r1.layout.runners).records.left e
        freed1 e h = subst (λ (p : PartState). IsFreed m p.records.left e) (sym part1) (way1.each e h)

        -- the section that it names wasn't run before: so fewer were than there are workers
        new_one : (b : Bool) → has way1.freed d ≡ b → b ≡ false
        new_one true h = absurd (tell1.freed alone1 d place (freed1 d h) lock word1)
        new_one false h = refl

        apart1 : AreApart (d ∷ way1.freed)
        apart1 = (new_one (has way1.freed d) refl, way1.apart)

        named1 : (e : ℕ) → has (d ∷ way1.freed) e ≡ true → IsNamed m (s1.part r1.layout.runners).records.left e
        named1 e h = by (d == e) refl h
          where
            by : (b : Bool) → (d == e) ≡ b → (b || has way1.freed e) ≡ true → IsNamed m (s1.part r1.layout.runners).records.left e
            by true same h = subst (IsNamed m (s1.part r1.layout.runners).records.left) (equal d e same)
                (record { place = place; lock = lock; word = held; named = subst (λ (p : PartState). HasLeft p.records.left place held) (sym part1) has_held; names = names })
            by false same h = let f = freed1 e h in record { place = f.place; lock = f.lock; word = f.word; named = f.named; names = f.names }

        few1 : length way1.freed < r1.layout.runners
        few1 = tell1.few joined1 (d ∷ way1.freed) apart1 named1

        -- the section that it names may be run
        pub may_help : MayHelp m r1 held
        may_help = record {
          epoch = way1.epoch;
          published = None;
          at = way1.at;
          names = not_free held met.names;
          sure = watched.sure same;
          reserve = (let a = way1.reserve in let b = few1 in omega (arith, a, b));
          blocks = for_next run_blocks r1.layout.runners (length r1.part.blocks.free) (length way1.freed) way1.blocks few1;
          reached = watched.reached;
        }

        module _ (r2 : RunnerState T) (own2 : IsOf t r2) (ran : HasRun m d r1 r2) where
          abbrev ends : EndsSo m d ran.thunk ran.outcome ran.trail ran.made r1 r2
          ends = ran.ends

          grows2 : Grows r1 r2
          grows2 = grows_on r1 ends.opened r2 (grows_opens m 13 r1 ends.opened ends.opening.loads) (grows_ran m ends.count ends.opened r2 ends.ran)

          one_run : length r2.part.records.finished ≡ length r1.part.records.finished + 1
          one_run = ap length ends.kept ∙ length-append r1.part.records.finished (ends.finished ∷ [])

          run_keeps : KeepsJoins r1 r2
          run_keeps = record {
            layout = grows2.layout;
            number = grows2.number;
            joined = grows2.joined;
            told = grows2.told;
            crosses = grows2.crosses;
            known = record { back = ends.learns.more; parts = ends.learns.adds };
            more = omega (arith, one_run);
            quiet = λ same. absurd (omega (arith, one_run, same));
          }

          own_opened : IsOf t ends.opened
          own_opened = own_grows t r1 ends.opened (grows_opens m 13 r1 ends.opened ends.opening.loads) own1

          is_shaped : IsShaped (m.body ran.thunk)
          is_shaped =
              let stood = stands_opened m d ran.thunk ran.trail.late r1 ends.opened
              (record { epoch = way1.epoch; published = None; at = way1.at; sure = watched.sure same; reached = watched.reached }) ends.opening in
              subst IsShaped (opened_body m d ran.thunk ran.trail.late ends.opened stood)
              (shaped m laws t limits allowed ends.opened own_opened (run_of ends.opened) ends.opening.inside)

          makes : count_by is_make (m.body ran.thunk) ≤ 2
          makes = is_shaped.makes

          few_won : length ends.blocks.won ≤ run_blocks
          few_won = let few = ends.blocks.few in let most = run_few (m.body ran.thunk) is_shaped in omega (arith, few, most)

          abbrev s2 : Sight
          s2 = sight m r2.layout r2.requests ends.reached.world

          keeper2 : r2.number ≡ r2.layout.runners
          keeper2 = ends.number ∙ way1.keeper ∙ ap (λ l. l.runners) (sym ends.layout)

          told2 : (worker : ℕ) → worker < r2.layout.runners → has r2.part.records.joined worker ≡ true
          told2 worker low = ap (λ xs. has xs worker) grows2.told ∙ way1.told worker (subst (λ l. worker < l.runners) ends.layout low)

          part2 : s2.part r2.layout.runners ≡ r2.part
          part2 = ap (λ n. part_or_first (slice_get ends.reached.world.parts (seat_of r2.layout n))) (sym keeper2) ∙ ap part_or_first ends.reached.own

          joined2 : AllJoined r2.layout s2
          joined2 worker low = ap (λ (p : PartState). has p.records.joined worker) part2 ∙ told2 worker low

          has_held2 : HasLeft r2.part.records.left place held
          has_held2 = left_in r1.part.records.left r2.part.records.left grows2.left place held has_held

          -- another word stands in the lock now
          last2 : StandsSeen r2.part.records.left place (s2.word (spots.Cell place))
          last2 = subst (λ (p : PartState). StandsSeen p.records.left place (s2.word (spots.Cell place))) part2
              ((record_tells r2.layout r2.requests ends.reached.world (within r2 own2) (few r2 own2) ends.reached.reached).stands joined2 place held
              (subst (λ (p : PartState). HasLeft p.records.left place held) (sym part2) has_held2))

          differs2 : last2.number ≢ held
          differs2 same = ends.is_done.unnamed place lock (ap value_of (last2.is ∙ same) ∙ names)

          freed2 : IsFreed m r2.part.records.left d
          freed2 = record { place = place; lock = lock; word = held; other = last2.number; named = has_held2; names = names; also = last2.has; differs = differs2 }

          each2 : (e : ℕ) → has (d ∷ way1.freed) e ≡ true → IsFreed m r2.part.records.left e
          each2 e h = by (d == e) refl h
            where
              by : (b : Bool) → (d == e) ≡ b → (b || has way1.freed e) ≡ true → IsFreed m r2.part.records.left e
              by true same h = subst (IsFreed m r2.part.records.left) (equal d e same) freed2
              by false same h = freed_in m r1.part.records.left r2.part.records.left grows2.left e (way1.each e h)

          way2 : IsUnderway m begun (place + 1) r2
          way2 = record {
            epoch = way1.epoch;
            at = record {
              present = ends.present ∙ way1.at.present;
              resting = ends.resting;
              at = ends.stage ∙ way1.at.at;
              published = ends.published ∙ ap (λ (o : Option Published). kept_unless o d) way1.at.published;
              settled = ap is_between ends.look ∙ way1.at.settled;
              seated = (let k = keeper2 in omega (arith, k));
            };
            keeper = keeper2;
            told = told2;
            reached = ends.reached;
            hand = ends.nodes.hand ∙ way1.hand;
            tests = ends.nodes.tests way1.tests;
            loaded = subst (LoadsLocks m) (sym ends.walk) way1.loaded;
            cleared = λ p low' lock'. ⊎_elim
                (λ before. cleared_in r1.part.records.left r2.part.records.left grows2.left p (way1.cleared p before lock'))
                (λ here. subst (IsCleared r2.part.records.left) (sym here)
                (record { first = held; second = last2.number; seen = has_held2; also = last2.has; why = inr (λ e. differs2 (sym e)) }))
                (old_or_this p place low');
            freed = d ∷ way1.freed;
            apart = apart1;
            each = each2;
            reserve = subst (λ l. 2 * l.runners + 2 ≤ length r2.part.nodes.free + 2 * suc (length way1.freed)) (sym ends.layout)
                (let a = way1.reserve in let b = ends.nodes.free in let c = makes in omega (arith, a, b, c));
            blocks = subst (λ l. run_blocks * l.runners ≤ length r2.part.blocks.free + run_blocks * suc (length way1.freed)) (sym ends.layout)
                (behind_one run_blocks r1.layout.runners (length r1.part.blocks.free) (length r2.part.blocks.free) (length ends.blocks.won) (length way1.freed)
                way1.blocks ends.blocks.free few_won);
            runs =
                let here = way1.runs in
                let more = one_run in omega (arith, here, more);
            looked = ap (λ (y : GuardsState). y.looked) ends.guards ∙ way1.looked;
          }

          pub may_let_go_behind : IsEnabled m (kinds.Guard None) r2
          may_let_go_behind = may_let_go m r2 way2.epoch way2.at

          module _ (found : ℕ) (r3 : RunnerState T) (goes : Makes m (kinds.Guard None) found r2 r3) where
            pub clears_named : IsClearing m begun (place + 1) r3
            clears_named = record {
              way = guarded m begun (place + 1) r2 r3 way2 None found goes;
              unguarded = guard_named m None found r2 r3 goes way2.at.resting;
            }

            pub named_keeps : KeepsJoins r r3
            named_keeps = keeps_on r r2 r3 (keeps_on r r1 r2 watch_keeps run_keeps) (guarded_keeps m begun (place + 1) r2 r3 way2 None found goes)
