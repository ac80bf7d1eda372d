-- What the words of a closed table hold of a worker's requests, by how the worker served them.
use Rattle.std.specs.Prelude.{◌%◌, ◌*◌, ◌==◌, ◌||◌, ◌⊎◌, not, Bool, true, false, count_by, slice_get}
use Rattle.std.proofs.Common.{◌≡◌, ◌≢◌, ℕ, zero, suc, ◌+◌, ◌<◌, ◌≤◌, List, [], ◌∷◌, length, refl, sym, ap, ◌∙◌, subst, arith, Option, Some, None, inl, inr, ⊎_elim, eq-eqb, ne_eqb, if◌then◌else◌}
use mathlib.Core.Logic.{dite}
use native.Mathlib.Decide.{ℕ_discrete}
use Rattle.std.proofs.lemmas.Bool.{cases_lt}
use Rattle.std.proofs.lemmas.Option.{slice_get_within}
use Rattle.machine_states.specs.epoch_core.specs.small_lemmas.proofs.Bools.{from_both as true_false}
use Rattle.machine_states.specs.map_history.specs.declared.op.Request.{Request}
use Rattle.machine_states.specs.table_words.specs.Places.{worker_blocks, attempt_blocks}
use Rattle.machine_states.specs.table_words.specs.declared.layout.Layout.{Layout}
use Rattle.machine_states.specs.table_words.specs.declared.spot.Spot.{Spot}
use Rattle.machine_states.specs.table_words.specs.declared.spot.Spot.TheVariants.{Cell, Stamp, DoneWord}
use Rattle.machine_states.specs.table_words.specs.Seen.{seen}
use Rattle.machine_states.specs.guard_core.specs.State.{most_linked}
use Rattle.machine_states.specs.structure_laws.specs.Cells as cells
use Rattle.machine_states.specs.structure_laws.specs.Meaning.{Meaning}
use Rattle.machine_states.specs.runner_parts.specs.declared.entries.Known.{Known}
use Rattle.machine_states.specs.runner_parts.specs.declared.entries.Published.{Published}
use Rattle.machine_states.specs.runner_parts.specs.State.{PartState}
use Rattle.machine_states.specs.runner_parts.specs.Tests.{has, has_pair, is_answered}
use Rattle.machine_states.specs.runner_steps.specs.Asks.{sizes_for}
use Rattle.machine_states.specs.runner_steps.specs.After.{leaves}
use Rattle.machine_states.specs.Sight.{Sight, sight, part_or_first}
use Rattle.machine_states.proofs.Steps.{some_same, none_some}
use Rattle.reached_facts.specs.request_facts.specs.reached_histories.specs.Requests.{requests_of, or_none}
use Rattle.machine_states.specs.runner_parts.specs.Lists.{entry_count}
use Rattle.version_words.specs.machine_invariant.specs.Lengths.{ListsAreShort}
use Rattle.settled_tables.specs.settling.specs.runner_gate.specs.Asks.{Asks}
use Rattle.reached_facts.specs.keeper_facts.specs.runner_facts.specs.Own.{HasOwn, OwnStand}
use Rattle.reached_facts.specs.keeper_facts.specs.runner_facts.specs.Facts.{LimboIsDone, DescriptorsAreKept, BlocksAreKept, HasWornCell, WornAreWorn, descriptors_of, published_count, blocks_of, blocks_of_run}
use Rattle.free_serving.specs.lock_words.specs.Spent.{IsLate, IsPast, IsSpentAt, SpentStand}
use Rattle.reached_facts.specs.request_facts.specs.reached_histories.specs.Sections.{Knows, HasOpen}
use Rattle.reached_facts.specs.request_facts.specs.reached_histories.specs.Laws.{HasHistory}
use Rattle.reached_facts.specs.request_facts.specs.Laws.{CallersStand}
use Rattle.version_words.specs.RunnerState.{RunnerState}
use Rattle.version_words.specs.Shown.{left_part}
use Rattle.version_words.specs.TableState.{TableState, WordsState, IsOf, IsClosing, word_of}
use Rattle.settled_tables.specs.settling.specs.epoch_slots.specs.Collects.{IsTidy}
use Rattle.settled_tables.specs.settling.specs.epoch_slots.specs.Reserves.{counts_of}
use Rattle.settled_tables.specs.settling.specs.epoch_slots.specs.declared.reserves.Kind.{Kind}
use Rattle.settled_tables.specs.settling.specs.epoch_slots.specs.declared.reserves.Kind.TheVariants as slots
use Rattle.settled_tables.specs.settling.specs.epoch_slots.specs.declared.reserves.Short.{Short}
use Rattle.settled_tables.specs.settling.specs.try_lock.specs.Planning.{Planning}
use Rattle.free_serving.specs.serving.specs.attempts.specs.Attempts.{IsFew}
use Rattle.free_serving.specs.serving.specs.Serving.{Try, WasJustServed, WasHalted, StopsShort}
use Rattle.free_serving.specs.Services.{is_get}
use Rattle.free_serving.specs.Left.{Rises, IsBefore, IsOdd, AreAskedWholly, WasPublished, WasReadInVain, Leaves, Ends}
use Rattle.free_serving.specs.serving.specs.declared.answers.Served.{Served}
use Rattle.free_serving.specs.serving.specs.declared.answers.Served.TheVariants as answers
use Rattle.free_serving.specs.resource_bounds.specs.Makes.{added, slots_left}
use Rattle.threaded_runs.specs.Runs.{stamp_of, AreEntered, AreWornOut, IsShortOf, HasServed}
use Rattle.threaded_runs.specs.Counts.{halted}
use Rattle.threaded_runs.proofs.Picked.{front_only}
use Rattle.threaded_runs.proofs.Spending.{kept_read}
use Rattle.threaded_runs.proofs.Stopping.{IsKeptSpent, kept_spent}
use mathlib.Core.Path.{fun_ext}
use Rattle.machine_states.specs.body_terms.specs.Memory.{cell_of}
use Rattle.machine_states.specs.body_terms.specs.Word.{version_of}
use Rattle.machine_states.proofs.Sights.{some_none}

-- what is above another one comes behind it
rises_by : (reads_free : Bool) (s t : ℕ) → s < t → Rises reads_free s t
rises_by true s t less = inl less
rises_by false s t less = less

-- what stands in a list is in it
has_of : (xs : List ℕ) (i x : ℕ) → slice_get xs i ≡ Some x → has xs x ≡ true
has_of [] i x e = some_none x e
has_of (y ∷ xs) zero x e = ap (λ (b : Bool). b || has xs x) (eq-eqb y x (some_same y x e))
has_of (y ∷ xs) (suc i) x e = ap (λ (b : Bool). (y == x) || b) (has_of xs i x e) ∙ or_so (y == x)
  where
    or_so : (b : Bool) → (b || true) ≡ true
    or_so true = refl
    or_so false = refl

module _ {T : Type 0} (m : Meaning) (t : TableState T) (keeper : RunnerState T) (w : WordsState T) (closing : IsClosing m t keeper w) where
  -- the state in which the table was closed
  abbrev pub end : Sight
  end = sight m t.layout t.requests closing.world

  -- its words are the closed ones
  pub word_is : (spot : Spot) → word_of m w spot ≡ end.word spot
  word_is spot = ap (λ (l : Layout). seen (sizes_for m l w.requests) w.words spot) closing.layout
      ∙ (ap (λ (rs : List Request). seen (sizes_for m t.layout rs) w.words spot) closing.requests
      ∙ ap (λ (ws : List ℕ). seen (sizes_for m t.layout t.requests) ws spot) (sym closing.words))

  -- as many requests added a pair by these words as by the state's
  pub added_is : added (word_of m w) (length w.requests) ≡ added end.word (length t.requests)
  added_is = ap (λ (rs : List Request). added (word_of m w) (length rs)) closing.requests
      ∙ ap (λ (f : Spot → ℕ). added f (length t.requests)) (fun_ext word_is)

  -- a request of which a worker knows both words has its entry
  pub known_entry : HasHistory m t.layout t.requests end → (worker n : ℕ) → is_answered (end.part worker).records.known n ≡ true → word_of m w (Stamp n) ≢ 0
  known_entry history worker n known_so = λ zero_stamp. (history.asked.known worker n known_so).some (sym (word_is (Stamp n)) ∙ zero_stamp)

  -- a joined worker has there the part that the keeper keeps
  pub part_is : (worker : ℕ) (p : PartState) → worker < t.layout.runners → left_part keeper.joined worker ≡ Some (leaves p) → end.part worker ≡ leaves p
  part_is worker p few kept = ap (λ (b : Bool). part_or_first (slice_get closing.world.parts (if b then 0 else suc worker))) (ne_eqb worker t.layout.runners (λ e. omega (arith, few, e)))
      ∙ ap part_or_first (closing.worker_parts worker few ∙ kept)

  -- and each of its gives left it enough slots
  pub above_is : (worker : ℕ) (p : PartState) → worker < t.layout.runners → left_part keeper.joined worker ≡ Some (leaves p) → (end.part worker).records.gave_above ≡ true
  above_is worker p few kept = ap (λ (q : PartState). q.records.gave_above) (part_is worker p few kept) ∙ closing.above (suc worker) (leaves p) (closing.worker_parts worker few ∙ kept)

  module _ (is_map : m.is_map ≡ true) (history : HasHistory m t.layout t.requests end) (callers : CallersStand m t.layout t.requests end)
      (worker : ℕ) (own : List Request) (retry_short reads_free : Bool) (planning : Planning) (answer : Served) (old new : RunnerState T)
      (part : end.part worker ≡ leaves new.part) (Seen : ℕ → Asks → Type 0) (first : ℕ) (asks asks' : Asks)
      (tries : List Try) (left : Leaves m planning retry_short reads_free own answer tries old new Seen first asks asks')
      (there : (i : ℕ) (q : Request) → slice_get own i ≡ Some q → slice_get t.requests q.number ≡ Some q)
      (trace : (i : ℕ) (q : Request) → slice_get own i ≡ Some q → q.trace % t.layout.runners ≡ worker)
      (once : (i j : ℕ) (q q' : Request) → slice_get own i ≡ Some q → slice_get own j ≡ Some q' → q.number ≡ q'.number → i ≡ j) where
    abbrev count : ℕ
    count = left.count

    abbrev known : List Known
    known = (end.part worker).records.known

    known_is : known ≡ new.part.records.known
    known_is = ap (λ (p : PartState). p.records.known) part

    published_is : (end.part worker).published ≡ new.part.published
    published_is = ap (λ (p : PartState). p.published) part

    answered_is : (n : ℕ) (b : Bool) → is_answered new.part.records.known n ≡ b → is_answered known n ≡ b
    answered_is n b e = ap (λ (k : List Known). is_answered k n) known_is ∙ e

    of_worker : (i : ℕ) (q : Request) → slice_get own i ≡ Some q → (requests_of m t.layout t.requests).worker q.number ≡ worker
    of_worker i q e = ap (λ (o : Option Request). (or_none o).trace % t.layout.runners) (there i q e) ∙ trace i q e

    -- an answered request has its entry
    stamped : (n : ℕ) → is_answered known n ≡ true → end.word (Stamp n) ≢ 0
    stamped n known_so = (history.asked.known worker n known_so).some

    entry : (i : ℕ) (q : Request) → slice_get own i ≡ Some q → is_answered new.part.records.known q.number ≡ true → stamp_of m w q ≢ 0
    entry i q e known_so = known_entry history worker q.number (answered_is q.number true known_so)

    -- the stamps of answered requests are those that the worker knows
    before : (q q' : Request) → is_answered new.part.records.known q.number ≡ true → is_answered new.part.records.known q'.number ≡ true
        → IsBefore reads_free new.part.records.known q q' → Rises reads_free (stamp_of m w q) (stamp_of m w q')
    before q q' known_so known_also less =
        let k = callers.known is_map worker q.number (answered_is q.number true known_so) in
        let k' = callers.known is_map worker q'.number (answered_is q'.number true known_also) in
        let less' : IsBefore reads_free known q q' = subst (λ (ks : List Known). IsBefore reads_free ks q q') (sym known_is) less in
        let low : Rises reads_free k.stamp k'.stamp = less' _ _ k.knows_stamp k'.knows_stamp refl refl refl refl in
        subst (λ (n : ℕ). Rises reads_free n (stamp_of m w q')) (sym (word_is (Stamp q.number) ∙ k.served.stamp_word))
        (subst (λ (n : ℕ). Rises reads_free k.stamp n) (sym (word_is (Stamp q'.number) ∙ k'.served.stamp_word)) low)

    -- a request of the worker's that isn't answered has an entry only where it is that of the worker's open section
    unserved : (i : ℕ) (q : Request) → slice_get own i ≡ Some q → is_answered new.part.records.known q.number ≡ false
        → (HasOpen end worker q.number → ⊥) → stamp_of m w q ≡ 0
    unserved i q e unknown_so closed = dite (ℕ_discrete (stamp_of m w q) 0) (λ is. is) (λ some. absurd (by (history.asked.answered q.number (λ z. some (word_is (Stamp q.number) ∙ z)))))
      where
        by : Knows end ((requests_of m t.layout t.requests).worker q.number) q.number ⊎ HasOpen end ((requests_of m t.layout t.requests).worker q.number) q.number → ⊥
        by (inl knows) = true_false (is_answered known q.number) (subst (λ (r : ℕ). Knows end r q.number) (of_worker i q e) knows) (answered_is q.number false unknown_so)
        by (inr held) = closed (subst (λ (r : ℕ). HasOpen end r q.number) (of_worker i q e) held)

    module _ (opened : (x : Published) → new.part.published ≡ Some x → (q : Request) × (slice_get own count ≡ Some q) × (x.thunk.request ≡ q.number)) where
      -- nothing is open for a request that stands elsewhere
      elsewhere : (i : ℕ) (q : Request) → slice_get own i ≡ Some q → i ≢ count → HasOpen end worker q.number → ⊥
      elsewhere i q e far held =
          let o = opened held.section (sym published_is ∙ held.published) in
          far (once i count q o.0 e o.1 (sym held.request ∙ o.2))

      behind : (i : ℕ) (q : Request) → count < i → slice_get own i ≡ Some q → stamp_of m w q ≡ 0
      behind i q far e = unserved i q e (left.served.behind i q far e) (elsewhere i q e (λ is. omega (arith, far, is)))

      -- where the request behind the answered ones has unknown_so entry, these are all that have one
      pub entered_so : ((q : Request) → slice_get own count ≡ Some q → stamp_of m w q ≡ 0) → AreEntered m w reads_free own count
      entered_so next = record {
        few = left.served.few;
        entries = λ i q low e. entry i q e (left.served.answered i q low e);
        rising = λ i j q q' less low e e'. before q q' (left.served.answered i q (omega (arith, less, low)) e) (left.served.answered j q' low e') (left.served.rising i j q q' less low e e');
        none = λ i q past e. dite (ℕ_discrete i count) (λ is. next q (subst (λ (k : ℕ). slice_get own k ≡ Some q) is e)) (λ far. behind i q (omega (arith, past, far)) e);
      }

      -- where it has one, behind those of the earlier ones, one more has an entry
      module _ (q : Request) (at : slice_get own count ≡ Some q) (some : stamp_of m w q ≢ 0)
          (above : (i : ℕ) (q' : Request) → i < count → slice_get own i ≡ Some q' → Rises reads_free (stamp_of m w q') (stamp_of m w q)) where
        entries_more : (i : ℕ) (q' : Request) → i < count + 1 → slice_get own i ≡ Some q' → stamp_of m w q' ≢ 0
        entries_more i q' low e = dite (ℕ_discrete i count)
            (λ is. subst (λ (y : Request). stamp_of m w y ≢ 0) (some_same q q' (sym at ∙ subst (λ (k : ℕ). slice_get own k ≡ Some q') is e)) some)
            (λ far. entry i q' e (left.served.answered i q' (omega (arith, low, far)) e))

        rising_more : (i j : ℕ) (a b : Request) → i < j → j < count + 1 → slice_get own i ≡ Some a → slice_get own j ≡ Some b → Rises reads_free (stamp_of m w a) (stamp_of m w b)
        rising_more i j a b less low e e' = dite (ℕ_discrete j count)
            (λ is. subst (λ (y : Request). Rises reads_free (stamp_of m w a) (stamp_of m w y)) (some_same q b (sym at ∙ subst (λ (k : ℕ). slice_get own k ≡ Some b) is e')) (above i a (omega (arith, less, is)) e))
            (λ far. let under : j < count = omega (arith, low, far) in before a b (left.served.answered i a (omega (arith, less, under)) e) (left.served.answered j b under e') (left.served.rising i j a b less under e e'))

        pub one_more_entered : AreEntered m w reads_free own (count + 1)
        one_more_entered = record {
          few = let low = slice_get_within own count q at in omega (arith, low);
          entries = entries_more;
          rising = rising_more;
          none = λ i q' past e. behind i q' (omega (arith, past)) e;
        }

      -- so it is where its section was published, and others have run it
      module _ (x : Published) (own_section : new.part.published ≡ Some x) (q : Request) (at : slice_get own count ≡ Some q) (request : x.thunk.request ≡ q.number) (some : stamp_of m w q ≢ 0) where
        below : (i : ℕ) (q' : Request) → i < count → slice_get own i ≡ Some q' → stamp_of m w q' < stamp_of m w q
        below i q' low e =
            let apart : q'.number ≢ x.thunk.request = λ same. omega (arith, low, once i count q' q e at (same ∙ request)) in
            let mine : end.word (Stamp x.thunk.request) ≢ 0 = λ z. some (word_is (Stamp q.number) ∙ (ap (λ (n : ℕ). end.word (Stamp n)) (sym request) ∙ z)) in
            let less = (history.asked.before worker q'.number x (published_is ∙ own_section) mine (inr (of_worker i q' e, stamped q'.number (answered_is q'.number true (left.served.answered i q' low e)), apart))).1 in
            subst (λ (n : ℕ). n < stamp_of m w q) (sym (word_is (Stamp q'.number)))
            (subst (λ (n : ℕ). end.word (Stamp q'.number) < n) (ap (λ (n : ℕ). end.word (Stamp n)) request ∙ sym (word_is (Stamp q.number))) less)

        above : (i : ℕ) (q' : Request) → i < count → slice_get own i ≡ Some q' → Rises reads_free (stamp_of m w q') (stamp_of m w q)
        above i q' low e = rises_by reads_free (stamp_of m w q') (stamp_of m w q) (below i q' low e)

        pub entered_more : AreEntered m w reads_free own (count + 1)
        entered_more = one_more_entered q at some above

    -- a runner with nothing published has nothing open
    nothing_open : new.part.published ≡ None → (n : ℕ) → HasOpen end worker n → ⊥
    nothing_open nothing n held = none_some held.section (sym held.published ∙ (published_is ∙ nothing))

    opened_none : new.part.published ≡ None → (x : Published) → new.part.published ≡ Some x → (q : Request) × (slice_get own count ≡ Some q) × (x.thunk.request ≡ q.number)
    opened_none nothing x e = absurd (none_some x (sym e ∙ nothing))

    -- where the worker stopped at a request with nothing published, that one has unknown_so entry
    entered_stopped : new.part.published ≡ None → ((q : Request) → slice_get own count ≡ Some q → is_answered new.part.records.known q.number ≡ false) → AreEntered m w reads_free own count
    entered_stopped nothing unknown = entered_so (opened_none nothing) (λ q e. unserved count q e (unknown q e) (nothing_open nothing q.number))

    same_request : (q q' : Request) → slice_get own count ≡ Some q → slice_get own count ≡ Some q' → is_answered new.part.records.known q.number ≡ false → is_answered new.part.records.known q'.number ≡ false
    same_request q q' e e' unknown_so = subst (λ (y : Request). is_answered new.part.records.known y.number ≡ false) (some_same q q' (sym e ∙ e')) unknown_so

    module _ (low : worker < t.layout.runners) (own_new : IsOf t new) (number : new.number ≡ worker) (kept : DescriptorsAreKept t.layout end) (blocks_kept : BlocksAreKept t.layout end) (spent : SpentStand m t.layout end) (worn : WornAreWorn m t.layout end)
        (once_worn : (i j slot : ℕ) → slice_get (end.part worker).nodes.worn i ≡ Some slot → slice_get (end.part worker).nodes.worn j ≡ Some slot → i ≡ j)
        (many : t.layout.nodes ≤ slots_left (end.part worker).nodes + 2 * added end.word (length t.requests)) (lists : ListsAreShort m t.layout end) where
      -- where the request behind them was just served, it has an entry
      entered_just : new.part.published ≡ None → (q : Request) → slice_get own count ≡ Some q → WasJustServed q new → AreEntered m w reads_free own (count + 1)
      entered_just nothing q at just = one_more_entered (opened_none nothing) q at (entry count q at just.answered)
          (λ i q' few e. let known_so = left.served.answered i q' few e in
          before q' q known_so just.answered (λ x y hx hy isx isy ofx ofy. rises_by reads_free x.number y.number
          (just.above q' (record { there = ap (λ rs. slice_get rs q'.number) own_new.requests ∙ there i q' e; own = ap (λ l. q'.trace % l.runners) own_new.layout ∙ (trace i q' e ∙ sym number) })
          (λ same. omega (arith, few, once i count q' q e at same)) known_so x y hx hy isx isy ofx ofy)))

      -- a slot in the worker's worn list is worn in the closed words
      worn_there : (i slot : ℕ) → slice_get new.part.nodes.worn i ≡ Some slot → HasWornCell m w.layout (word_of m w) slot
      worn_there i slot e =
          let at = worn worker slot (has_of (end.part worker).nodes.worn i slot (ap (λ (p : PartState). slice_get p.nodes.worn i) part ∙ e)) in record {
            cell = at.cell;
            low = at.low;
            worn = ap version_of (word_is (Cell (cell_of m.fixed_cells slot at.cell))) ∙ (at.worn ∙ ap (λ (l : Layout). l.version_max) (sym closing.layout));
          }

      -- of the other kinds none wears
      none_worn_of : (short : Short) → 0 ≡ short.worn → AreWornOut m w short.worn
      none_worn_of short none = record { slots = []; many = none; once = λ i j slot e e'. some_none slot e; each = λ i slot e. some_none slot e }

      worn_slots : (short : Short) → (k : Kind) → short ≡ counts_of new k → AreWornOut m w short.worn
      worn_slots short slots.Node counts = record {
        slots = new.part.nodes.worn;
        many = sym (ap (λ (x : Short). x.worn) counts);
        once = λ i j slot e e'. once_worn i j slot (ap (λ (p : PartState). slice_get p.nodes.worn i) part ∙ e) (ap (λ (p : PartState). slice_get p.nodes.worn j) part ∙ e');
        each = worn_there;
      }
      worn_slots short slots.Descriptor counts = none_worn_of short (sym (ap (λ (x : Short). x.worn) counts))
      worn_slots short slots.Block counts = none_worn_of short (sym (ap (λ (x : Short). x.worn) counts))

      -- the word at which the worker stopped
      past_of : (place word : ℕ) → IsPast end.word place word → IsPast (word_of m w) place word
      past_of place word past = subst (λ (n : ℕ). (n ≡ word) ⊎ (version_of word < version_of n)) (sym (word_is (Cell place))) past

      spent_at : (place word : ℕ) → IsKeptSpent m new place word → IsSpentAt m w.layout place word × IsPast (word_of m w) place word
      spent_at place word (inl read) = (
        inl (read.0, read.1, subst (λ (l : Layout). IsLate l word) (own_new.layout ∙ sym closing.layout) read.2),
        past_of place word (spent.read worker place word (ap (λ (p : PartState). has_pair p.reads.cells place word) part ∙ read.3)),
      )
      spent_at place word (inr kept_run) =
          let was = spent.finished worker kept_run.0 place word kept_run.1 (ap (λ (p : PartState). slice_get p.records.finished kept_run.0) part ∙ kept_run.2) kept_run.3 in (
            subst (λ (l : Layout). IsSpentAt m l place word) (sym closing.layout) was.late,
            past_of place word was.past,
          )

      short_nodes : (short : Short) → IsFew new short.kind → short ≡ counts_of new short.kind → short.kind ≡ slots.Node → short.free < 2
      short_nodes short few counts kind =
          let same : short ≡ counts_of new slots.Node = counts ∙ ap (counts_of new) kind in
          subst (λ (n : ℕ). n < 2) (sym (ap (λ (x : Short). x.free) same)) (subst (λ (k : Kind). IsFew new k) kind few)

      all_in_limbo : length new.part.descriptors.free ≡ 0 → new.part.published ≡ None → length new.part.descriptors.limbo ≡ w.layout.sections
      all_in_limbo none nothing =
          let sum : length new.part.descriptors.free + (length new.part.descriptors.limbo + published_count new.part.published) ≡ t.layout.sections = sym (ap descriptors_of part) ∙ kept.worker worker low in
          let unpublished : published_count new.part.published ≡ 0 = ap published_count nothing in
          let same : w.layout.sections ≡ t.layout.sections = ap (λ (l : Layout). l.sections) closing.layout in
          omega (arith, none, sum, unpublished, same)

      short_descriptors : (short : Short) → IsFew new short.kind → short ≡ counts_of new short.kind → new.part.published ≡ None → short.kind ≡ slots.Descriptor
          → (short.free ≡ 0) × (short.worn ≡ 0) × (short.limbo ≡ w.layout.sections)
      short_descriptors short few counts nothing kind =
          let same : short ≡ counts_of new slots.Descriptor = counts ∙ ap (counts_of new) kind in
          let lacks : length new.part.descriptors.free ≡ 0 = (subst (λ (k : Kind). IsFew new k) kind few).1 in (
            ap (λ (x : Short). x.free) same ∙ lacks,
            ap (λ (x : Short). x.worn) same,
            ap (λ (x : Short). x.limbo) same ∙ all_in_limbo lacks nothing,
          )

      -- where blocks lacked, those that weren't free were in limbo: it was in no run
      short_blocks : (short : Short) → IsFew new short.kind → short ≡ counts_of new short.kind → new.part.run ≡ None → short.kind ≡ slots.Block
          → (short.free < attempt_blocks) × (short.worn ≡ 0) × (short.free + short.limbo ≡ worker_blocks w.layout)
      short_blocks short few counts resting kind =
          let same : short ≡ counts_of new slots.Block = counts ∙ ap (counts_of new) kind in
          let lacks = (subst (λ (k : Kind). IsFew new k) kind few).2 in
          let free : short.free ≡ length new.part.blocks.free = ap (λ (x : Short). x.free) same in
          let limbo : short.limbo ≡ length new.part.blocks.limbo = ap (λ (x : Short). x.limbo) same in
          let sum : length new.part.blocks.free + (length new.part.blocks.limbo + blocks_of_run new.part.run) ≡ worker_blocks t.layout = sym (ap blocks_of part) ∙ blocks_kept.worker worker low in
          let idle : blocks_of_run new.part.run ≡ 0 = ap blocks_of_run resting in
          let layout : worker_blocks w.layout ≡ worker_blocks t.layout = ap (λ (l : Layout). worker_blocks l) closing.layout in (
            subst (λ (n : ℕ). n < attempt_blocks) (sym free) lacks,
            ap (λ (x : Short). x.worn) same,
            omega (arith, free, limbo, sum, idle, layout),
          )

      -- its hand is empty, so its slots outside limbo are free or worn
      short_counted : (short : Short) → short ≡ counts_of new short.kind → IsTidy new → short.kind ≡ slots.Node
          → w.layout.nodes ≤ short.free + short.worn + 2 * added (word_of m w) (length w.requests)
      short_counted short counts tidy kind =
          let same : short ≡ counts_of new slots.Node = counts ∙ ap (counts_of new) kind in
          let free : short.free ≡ length new.part.nodes.free = ap (λ (x : Short). x.free) same in
          let worn_out : short.worn ≡ length new.part.nodes.worn = ap (λ (x : Short). x.worn) same in
          let hand : length new.part.nodes.hand ≡ 0 = ap length tidy.hand in
          let left : slots_left (end.part worker).nodes ≡ slots_left new.part.nodes = ap (λ (p : PartState). slots_left p.nodes) part in
          let nodes : w.layout.nodes ≡ t.layout.nodes = ap (λ (l : Layout). l.nodes) closing.layout in
          let pairs = added_is in
          omega (arith, free, worn_out, hand, left, nodes, pairs, many)

      -- and they are no more than the table has
      short_most : (short : Short) → short ≡ counts_of new short.kind → short.kind ≡ slots.Node → short.free + (short.limbo + short.worn) ≤ cells.slots m w.layout
      short_most short counts kind =
          let same : short ≡ counts_of new slots.Node = counts ∙ ap (counts_of new) kind in
          let free : short.free ≡ length new.part.nodes.free = ap (λ (x : Short). x.free) same in
          let limbo : short.limbo ≡ length new.part.nodes.limbo = ap (λ (x : Short). x.limbo) same in
          let worn_out : short.worn ≡ length new.part.nodes.worn = ap (λ (x : Short). x.worn) same in
          let entries : entry_count (end.part worker).nodes ≡ entry_count new.part.nodes = ap (λ (p : PartState). entry_count p.nodes) part in
          let all : entry_count (end.part worker).nodes ≤ cells.slots m w.layout =
          subst (λ (l : Layout). entry_count (end.part worker).nodes ≤ cells.slots m l) (sym closing.layout) (lists.all worker) in
          omega (arith, free, limbo, worn_out, entries, all)

      -- where it lacked a descriptor, each of its own is in limbo, and so done
      none_free : (xs : List ℕ) (d : ℕ) → length xs ≡ 0 → has xs d ≡ true → ⊥
      none_free [] d none h = let z = h in cc
      none_free (x ∷ xs) d none h = omega (arith, none)

      own_done : OwnStand t.layout end → LimboIsDone end → (short : Short) → IsFew new short.kind → IsTidy new → short.kind ≡ slots.Descriptor
          → (d : ℕ) → w.layout.sections * worker ≤ d → d < w.layout.sections * worker + w.layout.sections → word_of m w (DoneWord d) ≡ 1
      own_done stands limbo_done short few tidy kind d from to = word_is (DoneWord d) ∙ by (stands worker d low
          (subst (λ (l : Layout). l.sections * worker ≤ d) closing.layout from)
          (subst (λ (l : Layout). d < l.sections * worker + l.sections) closing.layout to))
        where
          lacks : length (end.part worker).descriptors.free ≡ 0
          lacks = ap (λ (p : PartState). length p.descriptors.free) part ∙ (subst (λ (k : Kind). IsFew new k) kind few).1

          by : HasOwn (end.part worker) d → end.word (DoneWord d) ≡ 1
          by (inl free) = absurd (none_free (end.part worker).descriptors.free d lacks free)
          by (inr (inl limbo)) = limbo_done worker d limbo
          by (inr (inr own_published)) = absurd (none_some own_published.0 (sym own_published.1 ∙ (published_is ∙ tidy.at.published)))

      pub descriptors_done : OwnStand t.layout end → LimboIsDone end → (short : Short) → answer ≡ answers.Short short → short.kind ≡ slots.Descriptor
          → (d : ℕ) → w.layout.sections * worker ≤ d → d < w.layout.sections * worker + w.layout.sections → word_of m w (DoneWord d) ≡ 1
      descriptors_done stands limbo_done short is kind =
          let ends : Ends m planning retry_short own (answers.Short short) count tries old new = subst (λ (a : Served). Ends m planning retry_short own a count tries old new) is left.ends in
          own_done stands limbo_done short ends.2.stops.cause.few ends.2.tidy kind

      is_short : (short : Short) (q : Request) (from : RunnerState T) → StopsShort m planning retry_short short q from new → IsTidy new → IsShortOf m w retry_short short
      is_short short q from stops tidy = record {
        over = stops.over;
        nodes = short_nodes short stops.cause.few stops.cause.counts;
        counted = short_counted short stops.cause.counts tidy;
        most = short_most short stops.cause.counts;
        descriptors = short_descriptors short stops.cause.few stops.cause.counts tidy.at.published;
        named = λ kind. subst (λ (l : Layout). short.limbo ≤ l.runners) (own_new.layout ∙ sym closing.layout) (stops.cause.named kind);
        blocks = short_blocks short stops.cause.few stops.cause.counts tidy.at.resting;
        kept = λ kind. subst (λ (l : Layout). short.limbo ≤ most_linked * l.runners) (own_new.layout ∙ sym closing.layout) (stops.cause.kept kind);
      }

      -- as many have an entry as were served, or one more, whose section it published
      abbrev IsCounted : ℕ → Type 0
      IsCounted n = (n ≡ count) ⊎ ((n ≡ count + 1) × ((q : Request) → slice_get own count ≡ Some q → WasPublished q new))

      -- what is left of it, and how many of its requests have an entry: one more at most than were served, where it
      -- was halted
      abbrev pub LeavesServed : Served → Type 0
      LeavesServed a = (served : HasServed m w retry_short reads_free own a) × (served.count ≤ left.full + halted a) × IsCounted served.count

      -- so many are asked about to the end: all, or all but one of a halted worker
      no_more : (a : Served) → AreAskedWholly own a count left.full new → count ≤ left.full + halted a
      no_more a (inl same) = omega (arith, same)
      no_more a (inr cut) =
          let one : halted a ≡ 1 = ap halted cut.0 in
          let more = cut.2 in omega (arith, one, more)

      one_more : AreAskedWholly own answers.Halted count left.full new → (x : Published) → new.part.published ≡ Some x → count + 1 ≤ left.full + 1
      one_more (inl same) x some = omega (arith, same)
      one_more (inr cut) x some = absurd (none_some x (sym some ∙ cut.1))

      just_more : AreAskedWholly own answers.Halted count left.full new → (q : Request) → slice_get own count ≡ Some q → WasJustServed q new → count + 1 ≤ left.full + 1
      just_more (inl same) q at just = omega (arith, same)
      just_more (inr cut) q at just = absurd (true_false (is_answered new.part.records.known q.number) just.answered (cut.3 q at))

      -- with nothing published: the request behind the served ones has an entry where it was just served
      halted_with_none : AreAskedWholly own answers.Halted count left.full new → WasHalted own count new → new.part.published ≡ None
          → (o : Option Request) → slice_get own count ≡ o → LeavesServed answers.Halted
      halted_with_none whole was nothing None last = (
        record { count = count; entered = entered_stopped nothing (λ q e. absurd (none_some q (sym e ∙ last))); cause = tt; shown = tt },
        no_more answers.Halted whole,
        inl refl,
      )
      halted_with_none whole was nothing (Some q) at = ⊎_elim
          (λ unknown. (
            record { count = count; entered = entered_stopped nothing (λ q' e. same_request q q' at e unknown); cause = tt; shown = tt },
            no_more answers.Halted whole,
            inl refl,
          ))
          (λ just. (
            record { count = count + 1; entered = entered_just nothing q at just; cause = tt; shown = tt },
            just_more whole q at just,
            inr (refl, λ q' e. inr (subst (λ (y : Request). is_answered new.part.records.known y.number ≡ true) (some_same q q' (sym at ∙ e)) just.answered)),
          ))
          (was.unanswered nothing q at)

      halted_at : AreAskedWholly own answers.Halted count left.full new → WasHalted own count new → (o : Option Published) → new.part.published ≡ o → LeavesServed answers.Halted
      halted_at whole was None nothing = halted_with_none whole was nothing (slice_get own count) refl
      halted_at whole was (Some x) is = let o = was.published x is in dite (ℕ_discrete (stamp_of m w o.0) 0)
          (λ z. (
            record {
              count = count;
              entered = entered_so was.published (λ q e. subst (λ (y : Request). stamp_of m w y ≡ 0) (some_same o.0 q (sym o.1 ∙ e)) z);
              cause = tt;
              shown = tt;
            },
            no_more answers.Halted whole,
            inl refl,
          ))
          (λ some. (
            record { count = count + 1; entered = entered_more was.published x is o.0 o.1 o.2 some; cause = tt; shown = tt },
            one_more whole x is,
            inr (refl, λ q e. inl (x, is)),
          ))

      leaves_served : (a : Served) → AreAskedWholly own a count left.full new → Ends m planning retry_short own a count tries old new → LeavesServed a
      leaves_served answers.All whole ends = (
        record {
          count = count;
          entered = entered_stopped ends.1.at.published (λ q e. let few = slice_get_within own count q e in let all = ends.0 in absurd (omega (arith, few, all)));
          cause = ends.0;
          shown = tt;
        },
        no_more answers.All whole,
        inl refl,
      )
      leaves_served (answers.Short short) whole ends = let stopped = ends.2 in (
        record {
          count = count;
          entered = entered_stopped stopped.tidy.at.published (λ q e. same_request ends.0 q ends.1 e stopped.unanswered);
          cause = (slice_get_within own count ends.0 ends.1, is_short short ends.0 stopped.before stopped.stops stopped.tidy);
          shown = worn_slots short short.kind stopped.stops.cause.counts;
        },
        no_more (answers.Short short) whole,
        inl refl,
      )
      leaves_served (answers.Spent place word) whole ends = let stopped = ends.2 in (
        record {
          count = count;
          entered = entered_stopped stopped.tidy.at.published (λ q e. same_request ends.0 q ends.1 e stopped.unanswered);
          cause = slice_get_within own count ends.0 ends.1;
          shown = spent_at place word (⊎_elim
              (kept_spent m planning ends.0 place word stopped.before new)
              (λ read. kept_read m planning ends.0 place word stopped.before new read.1) stopped.stops);
        },
        no_more (answers.Spent place word) whole,
        inl refl,
      )
      leaves_served answers.Halted whole ends = halted_at whole ends new.part.published refl

      pub has_served : HasServed m w retry_short reads_free own answer
      has_served = (leaves_served answer left.whole left.ends).0

      pub few_entered : count_by (λ (q : Request). not (stamp_of m w q == 0)) own ≤ left.full + halted answer
      few_entered =
          let served = leaves_served answer left.whole left.ends in
          let few = front_only (λ (q : Request). not (stamp_of m w q == 0)) own served.0.count
          (λ i q past e. ap not (eq-eqb (stamp_of m w q) 0 (served.0.entered.none i q past e))) in
          omega (arith, few, served.1)

      -- the stamps of requests that were read
      odd_known : (i : ℕ) (q : Request) → i < count → slice_get own i ≡ Some q → IsOdd new.part.records.known q → stamp_of m w q % 2 ≡ 1
      odd_known i q low e odd =
          let k = callers.known is_map worker q.number (answered_is q.number true (left.served.answered i q low e)) in
          ap (λ (n : ℕ). n % 2) (word_is (Stamp q.number) ∙ k.served.stamp_word)
          ∙ subst (λ (ks : List Known). IsOdd ks q) (sym known_is) odd _ k.knows_stamp refl refl

      pub read_odd : reads_free ≡ true → (i : ℕ) (q : Request) → slice_get own i ≡ Some q → is_get q.op ≡ true → stamp_of m w q ≢ 0
          → (stamp_of m w q % 2 ≡ 1) ⊎ WasReadInVain m planning q old
      read_odd free i q e get some = ⊎_elim here (λ high. absurd (some (served.0.entered.none i q high e))) (cases_lt i served.0.count)
        where
          served : LeavesServed answer
          served = leaves_served answer left.whole left.ends

          known_odd : i < count → (stamp_of m w q % 2 ≡ 1) ⊎ WasReadInVain m planning q old
          known_odd low = ⊎_elim (λ odd. inl (odd_known i q low e odd)) inr ((left.read free).odd i q low e get)

          here : i < served.0.count → (stamp_of m w q % 2 ≡ 1) ⊎ WasReadInVain m planning q old
          here low = ⊎_elim
              (λ same. known_odd (omega (arith, low, same)))
              (λ more. ⊎_elim known_odd
              (λ high. let there_so = subst (λ (n : ℕ). slice_get own n ≡ Some q) (let is = more.0 in let last : i ≡ count = omega (arith, low, is, high) in last) e in
              inr ((left.read free).next q there_so get (more.1 q there_so)))
              (cases_lt i count))
              served.2
