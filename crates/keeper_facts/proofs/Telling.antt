-- What the keeper's record tells of the locks, in every reached state.
use Rattle.std.specs.Prelude.{◌==◌, slice_get, Bool, true, false, if◌then◌else◌}
use Rattle.std.proofs.Common.{◌≡◌, ◌≢◌, ℕ, zero, suc, ◌+◌, ◌<◌, ◌≤◌, List, [], ◌∷◌, length, ⊎_elim, inl, inr, sym, refl, ap, ◌∙◌, subst, arith, Option, Some, None}
use Rattle.std.specs.Prelude.{◌⊎◌}
use Rattle.std.proofs.lemmas.Bool.{cases_eq, cases_lt}
use Rattle.std.proofs.lemmas.Bool.Decides.{nat_tests}
use Rattle.machine_states.specs.map_history.specs.declared.op.Request.{Request}
use Rattle.machine_states.specs.body_terms.specs.Word.{value_of}
use Rattle.machine_states.specs.table_words.specs.declared.layout.Layout.{Layout}
use Rattle.machine_states.specs.table_words.specs.declared.spot.Spot.{Spot}
use Rattle.machine_states.specs.table_words.specs.declared.spot.Spot.TheVariants.{Cell}
use Rattle.machine_states.specs.table_words.specs.declared.access.Access.{Access}
use Rattle.machine_states.specs.table_words.specs.Access.{written}
use Rattle.machine_states.specs.table_words.specs.Limits.{IsWithinLimits}
use Rattle.machine_states.specs.structure_laws.specs.Meaning.{Meaning}
use Rattle.machine_states.specs.structure_laws.specs.Laws.{Laws}
use Rattle.machine_states.specs.runner_parts.specs.declared.entries.Left.{Left}
use Rattle.machine_states.specs.runner_parts.specs.declared.entries.Published.{Published}
use Rattle.machine_states.specs.runner_parts.specs.declared.event.Event.{Event}
use Rattle.machine_states.specs.runner_parts.specs.declared.event.EventKind.{EventKind}
use Rattle.machine_states.specs.runner_parts.specs.declared.event.EventKind.TheVariants as kinds
use Rattle.machine_states.specs.runner_parts.specs.State.{RunState, RecordsState, PartState}
use Rattle.machine_states.specs.runner_parts.specs.Tests.{has}
use Rattle.machine_states.specs.runner_steps.specs.After.{left_more, noted, knows_also, leaves}
use Rattle.machine_states.specs.runner_steps.specs.After.{after, after_by}
use Rattle.machine_states.specs.World.{World, happens, is_join, seat_of}
use Rattle.machine_states.specs.First.{IsFirst}
use Rattle.machine_states.specs.Reached.{Reached}
use Rattle.machine_states.specs.Sight.{Sight, sight, Steps}
use Rattle.machine_states.specs.Sight as states
use Rattle.machine_states.proofs.FirstSights.{first_parts}
use Rattle.machine_states.proofs.Reached.{first_reached, more_reached, reached_all, reached_has}
use Rattle.machine_states.proofs.Sights.{joins, happens_steps}
use Rattle.machine_states.proofs.Updates.{upd_here, upd_else}
use Rattle.machine_states.specs.table_words.specs.Seen.{upd}
use Rattle.machine_epochs.proofs.FirstJoin as FirstJoin
use Rattle.runner_facts.specs.machine_facts.specs.machine_invariant.specs.After.{AreAllowed}
use Rattle.runner_facts.specs.machine_facts.proofs.Following.{facts_after}
use Rattle.runner_facts.specs.Facts.{JoinedAreGone}
use Rattle.runner_facts.specs.Keeper.{AllJoined, KeeperStands}
use Rattle.keeper_facts.specs.Freed.{HasLeft, IsCleared, IsNamed, IsFreed, IsPublished, AreApart, IsAlone, LocksTell}
use Rattle.keeper_facts.proofs.Lists.{left_split, StandsLast, last_stands, few_given}
use Rattle.keeper_facts.proofs.Runs.{IsIn}
use Rattle.keeper_facts.proofs.Steps as steps

-- what is kept along the events
pub record Tells (m : Meaning) (l : Layout) (s : Sight) : Type 0 where
  -- a lock that the keeper's record has with the name of a section named one that a worker published
  pub published : AllJoined l s → (place d word : ℕ) → m.is_lock place ≡ true → HasLeft (s.part l.runners).records.left place word
      → value_of word ≡ suc d → IsPublished l s d
  -- where a lock names a section that was freed, the keeper is in a run of it
  pub freed : AllJoined l s → (d place : ℕ) → IsFreed m (s.part l.runners).records.left d → m.is_lock place ≡ true
      → value_of (s.word (Cell place)) ≡ suc d → IsIn (s.part l.runners) d

none_left : {left : List Left} {place number : ℕ} → left ≡ [] → HasLeft left place number → ⊥
none_left {left} e is = let z = ap (λ (xs : List Left). slice_get xs is.at) (sym e) ∙ is.here in cc

nothing_tells : (m : Meaning) (l : Layout) (s : Sight) → (s.part l.runners).records.left ≡ [] → Tells m l s
nothing_tells m l s e = record {
  published = λ all place d word lock is names. absurd (none_left e is);
  freed = λ all d place is lock names. absurd (none_left e is.named);
}

module _ (m : Meaning) (laws : Laws m) (l : Layout) (limits : IsWithinLimits l) (rs : List Request) (allowed : AreAllowed rs)
    (reached_joined : (w : World) → Reached m l rs w → JoinedAreGone l (sight m l rs w))
    (reached_keeper : (w : World) → Reached m l rs w → KeeperStands l (sight m l rs w)) where
  -- who has published a section, once the keeper's own are none
  worker_of : (w : World) → Reached m l rs w → (r : ℕ) (y : Published) → ((sight m l rs w).part r).published ≡ Some y → r < l.runners
  worker_of w reached r y is = ⊎_elim (λ low. low)
      (λ high. ⊎_elim
      (λ same. let z = sym (reached_keeper w reached).unpublished ∙ ap (λ n. ((sight m l rs w).part n).published) (sym same) ∙ is in absurd (cc))
      (λ ne. absurd (let z = sym (nobody r (above l.runners r high ne)) ∙ is in cc))
      (cases_eq r l.runners))
      (cases_lt r l.runners)
    where
      above : (k r : ℕ) → k ≤ r → r ≢ k → k < r
      above k r high ne = grind arith

      nobody : (r : ℕ) → l.runners < r → ((sight m l rs w).part r).published ≡ None
      nobody r high = ap (λ (o : Option PartState). (states.part_or_first o).published) (beyond w.parts (seat_of l r) (seat_high (reached_all m l rs w reached).parts))
        where
          seat_high : length w.parts ≡ l.runners + 1 → length w.parts ≤ seat_of l r
          seat_high long = by (r == l.runners) refl
            where
              equal : (a b : ℕ) → (a == b) ≡ true → a ≡ b
              equal a b e = grind (arith, nat_tests)

              by : (b : Bool) → (r == l.runners) ≡ b → length w.parts ≤ (if b then 0 else suc r)
              by true same = let z = equal r l.runners same in absurd (omega (arith, z, high))
              by false same = omega (arith, long, high)

          beyond : (xs : List PartState) (i : ℕ) → length xs ≤ i → slice_get xs i ≡ None
          beyond [] i high = refl
          beyond (x ∷ xs) zero high = absurd (omega (arith, high))
          beyond (x ∷ xs) (suc i) high = beyond xs i (omega (arith, high))

  named_published : (w : World) → Reached m l rs w → (p d : ℕ) → m.is_lock p ≡ true → value_of ((sight m l rs w).word (Cell p)) ≡ suc d → IsPublished l (sight m l rs w) d
  named_published w reached p d lock names =
      let facts = facts_after m laws l rs reached.events w limits allowed reached.after in
      let is = facts.here.sound.sections.in_locks.published p d lock names in
      record { worker = is.0; low = worker_of w reached is.0 is.1 is.2; section = is.1; published = is.2; of_section = is.3 }

  module _ (w v : World) (e : Event) (reached : Reached m l rs w) (goes : happens m l rs w e ≡ Some v) where
    abbrev s : Sight
    s = sight m l rs w

    abbrev s' : Sight
    s' = sight m l rs v

    -- behind a join the keeper's record is empty
    module _ (worker : ℕ) (kind : e.kind ≡ kinds.Join worker) where
      step : Steps m l rs s s' e.runner e.kind
      step = (happens_steps m l rs w v e (let all = reached_all m l rs w reached in
          record { words = (let z = all.words in omega (arith, z)); parts = all.parts }) goes).0

      stepj : Steps m l rs s s' e.runner (kinds.Join worker)
      stepj = subst (Steps m l rs s s' e.runner) kind step

      keeper : (e.runner ≡ l.runners) × (worker < l.runners)
      keeper = joins m l rs (kinds.Join worker) e.runner (s.part e.runner) stepj.ask stepj.asked

      abbrev joined : PartState
      joined = knows_also (after m l e.runner (kinds.Join worker) stepj.ask.0 stepj.ask.1 (s.part e.runner) (s.word stepj.ask.0)) (s.part worker)

      apart : e.runner ≢ worker
      apart same = let a = keeper.0 in let b = keeper.1 in omega (arith, a, b, same)

      same_test : (a b : ℕ) → a ≡ b → (a == b) ≡ true
      same_test a b e = grind (arith, nat_tests)

      noted_none : (spot : Spot) (access : Access) (found : ℕ) (z : RecordsState) → (noted l e.runner (kinds.Join worker) spot access found z).left ≡ []
      noted_none spot access found z =
          ap (λ (b : Bool). if b then left_more (kinds.Join worker) spot (written access found) z.left else z.left)
          (same_test e.runner l.runners keeper.0)

      empty : (s'.part l.runners).records.left ≡ []
      empty = ap (λ (y : Sight). (y.part l.runners).records.left) stepj.next
          ∙ (ap (λ n. (upd (upd s.part e.runner joined) worker (leaves (s.part worker)) n).records.left) (sym keeper.0)
          ∙ (ap (λ (y : PartState). y.records.left) (upd_else (upd s.part e.runner joined) worker (leaves (s.part worker)) e.runner apart ∙ upd_here s.part e.runner joined)
          ∙ noted_none stepj.ask.0 stepj.ask.1 (s.word stepj.ask.0)
          (after_by m l (kinds.Join worker) (s.part e.runner) (s.part e.runner).run (s.word stepj.ask.0)).records))

    -- any other step adds one entry
    module _ (other : is_join e.kind ≡ false) (old : Tells m l s) (all' : AllJoined l s') where
      abbrev left : List Left
      left = (s.part l.runners).records.left

      all : AllJoined l s
      all = steps.was_joined m laws l limits rs allowed w v e reached goes other (reached_joined w reached) all'

      abbrev x : Left
      x = steps.entry m laws l limits rs allowed w v e reached goes other (reached_joined w reached) all'

      split : (place number : ℕ) → HasLeft (s'.part l.runners).records.left place number
          → HasLeft left place number ⊎ ((x.spot ≡ Cell place) × (x.number ≡ number))
      split place number is = left_split left x place number
          (subst (λ xs. HasLeft xs place number) (steps.left' m laws l limits rs allowed w v e reached goes other (reached_joined w reached) all') is)

      -- the new entry's number stands in its word
      stands : (place number : ℕ) → (x.spot ≡ Cell place) × (x.number ≡ number) → s'.word (Cell place) ≡ number
      stands place number is = ap s'.word (sym is.0) ∙ (steps.entry_stands m laws l limits rs allowed w v e reached goes other (reached_joined w reached) all' ∙ is.1)

      -- and the last of the old ones stood before
      stood : (place number : ℕ) → HasLeft left place number → StandsLast left place (s.word (Cell place))
      stood place number is = last_stands s.word left ((reached_keeper w reached).left all) place number is

      published' : (place d word : ℕ) → m.is_lock place ≡ true → HasLeft (s'.part l.runners).records.left place word → value_of word ≡ suc d → IsPublished l s' d
      published' place d word lock is names = ⊎_elim
          (λ before. let p = old.published all place d word lock before names in record {
            worker = p.worker;
            low = p.low;
            section = p.section;
            published = ap (λ (y : PartState). y.published) (steps.others m laws l limits rs allowed w v e reached goes other (reached_joined w reached) all' p.worker (below p.worker p.low)) ∙ p.published;
            of_section = p.of_section;
          })
          (λ now. named_published v (steps.reached' m laws l limits rs allowed w v e reached goes other (reached_joined w reached)) place d lock (ap value_of (stands place word now) ∙ names))
          (split place word is)
        where
          below : (i : ℕ) → i < l.runners → i ≢ l.runners
          below i low = grind arith

      -- whoever was in a run of it is, as long as a lock names it
      still : (d p : ℕ) → m.is_lock p ≡ true → value_of (s'.word (Cell p)) ≡ suc d → IsIn (s.part l.runners) d → IsIn (s'.part l.runners) d
      still d p lock names is = subst (IsIn (s'.part l.runners)) is.of_section
          (steps.goes_on m laws l limits rs allowed w v e reached goes other (reached_joined w reached) all' is.run is.runs p lock (names ∙ ap suc (sym is.of_section)))

      -- a lock that names a section behind the step did before, or the keeper is in a run of it
      named_before : (d p : ℕ) → m.is_lock p ≡ true → value_of (s'.word (Cell p)) ≡ suc d
          → ((s'.word (Cell p) ≡ s.word (Cell p)) × (value_of (s.word (Cell p)) ≡ suc d)) ⊎ IsIn (s'.part l.runners) d
      named_before d p lock names = ⊎_elim
          (λ freer. ⊎_elim
          (λ (same : s'.word (Cell p) ≡ s.word (Cell p)). inl (same, ap value_of (sym same) ∙ names))
          (λ (free : value_of (s'.word (Cell p)) ≡ 0). absurd (zero_not d (sym free ∙ names)))
          freer)
          (λ own. inr (still d p lock names (record { run = own.0; runs = own.1; of_section = suc_same own.0.descriptor d (sym own.2 ∙ names) })))
          (steps.changed m laws l limits rs allowed w v e reached goes other (reached_joined w reached) all' p lock)
        where
          zero_not : (d : ℕ) → 0 ≡ suc d → ⊥
          zero_not d e = omega (arith, e)

          suc_same : (a b : ℕ) → suc a ≡ suc b → a ≡ b
          suc_same a b e = omega (arith, e)

      -- the section was freed before
      was_freed : (d p : ℕ) → m.is_lock p ≡ true → value_of (s'.word (Cell p)) ≡ suc d → IsFreed m left d → IsIn (s'.part l.runners) d
      was_freed d p lock names freed = ⊎_elim
          (λ before. still d p lock names (old.freed all d p freed lock before.1))
          (λ is. is)
          (named_before d p lock names)

      freed' : (d p : ℕ) → IsFreed m (s'.part l.runners).records.left d → m.is_lock p ≡ true → value_of (s'.word (Cell p)) ≡ suc d → IsIn (s'.part l.runners) d
      freed' d p f lock names = ⊎_elim
          (λ named. ⊎_elim
          (λ also. was_freed d p lock names (record { place = f.place; lock = f.lock; word = f.word; other = f.other; named = named; names = f.names; also = also; differs = f.differs }))
          (λ now. new_other named now)
          (split f.place f.other f.also))
          (λ now. ⊎_elim
          (λ also. new_name now also)
          (λ too. absurd (f.differs (sym (stands f.place f.other too) ∙ stands f.place f.word now)))
          (split f.place f.other f.also))
          (split f.place f.word f.named)
        where
          -- the new entry is another word of the lock
          new_other : HasLeft left f.place f.word → (x.spot ≡ Cell f.place) × (x.number ≡ f.other) → IsIn (s'.part l.runners) d
          new_other named now =
              let z = stood f.place f.word named in
              ⊎_elim
              (λ (same : z.number ≡ f.word). ⊎_elim
              (λ (stays : s'.word (Cell f.place) ≡ s.word (Cell f.place)). absurd (f.differs (sym (stands f.place f.other now) ∙ stays ∙ z.is ∙ same)))
              (λ is. still d p lock names is)
              (steps.stays m laws l limits rs allowed w v e reached goes other (reached_joined w reached) all' f.place d f.lock (ap value_of (z.is ∙ same) ∙ f.names)))
              (λ ne. was_freed d p lock names (record { place = f.place; lock = f.lock; word = f.word; other = z.number; named = named; names = f.names; also = z.has; differs = ne }))
              (cases_eq z.number f.word)

          -- the new entry names the section
          new_name : (x.spot ≡ Cell f.place) × (x.number ≡ f.word) → HasLeft left f.place f.other → IsIn (s'.part l.runners) d
          new_name now also = ⊎_elim
              (λ before.
              let z = stood f.place f.other also in
              let number : z.number ≡ f.word = sym z.is ∙ sym before.0 ∙ stands f.place f.word now in
              was_freed d p lock names (record { place = f.place; lock = f.lock; word = z.number; other = f.other; named = z.has; names = ap value_of number ∙ f.names; also = also; differs = λ same. f.differs (same ∙ number) }))
              (λ is. is)
              (named_before d f.place f.lock (ap value_of (stands f.place f.word now) ∙ f.names))

    tells_on : Tells m l s → Tells m l s'
    tells_on old = by e.kind refl
      where
        plain : is_join e.kind ≡ false → Tells m l s'
        plain other = record {
          published = λ all' place d word lock is names. published' other old all' place d word lock is names;
          freed = λ all' d place is lock names. freed' other old all' d place is lock names;
        }

        by : (kind : EventKind) → e.kind ≡ kind → Tells m l s'
        by (kinds.Join worker) is = nothing_tells m l s' (empty worker is)
        by kind is = plain (ap is_join is)

  record Has (w : World) : Type 0 where
    reached : Reached m l rs w
    tells : Tells m l (sight m l rs w)

  first_tells : (w : World) → IsFirst m l rs w → Tells m l (sight m l rs w)
  first_tells w start = nothing_tells m l (sight m l rs w)
      (subst (λ (p : PartState). p.records.left ≡ []) (sym (first_parts m l w.parts start.parts l.runners))
      (FirstJoin.each_part m l (λ p. p.records.left ≡ []) refl (λ k. refl) refl l.runners))

  reached_tells : (w : World) → Reached m l rs w → Tells m l (sight m l rs w)
  reached_tells w reached = (reached_has m l rs Has
      (λ v start. record { reached = first_reached m l rs v start; tells = first_tells v start })
      (λ a b e old goes. record { reached = more_reached m l rs a b e old.reached goes; tells = tells_on a b e old.reached goes old.tells })
      w reached).tells

  module _ (w : World) (reached : Reached m l rs w) where
    abbrev here : Sight
    here = sight m l rs w

    abbrev seen : List Left
    seen = (here.part l.runners).records.left

    all_tells : Tells m l here
    all_tells = reached_tells w reached

    last_of : AllJoined l here → (place number : ℕ) → HasLeft seen place number → StandsLast seen place (here.word (Cell place))
    last_of joined place number is = last_stands here.word seen ((reached_keeper w reached).left joined) place number is

    never : IsAlone l here → (d place : ℕ) → IsFreed m seen d → m.is_lock place ≡ true → value_of (here.word (Cell place)) ≢ suc d
    never alone d place is lock names =
        let run = all_tells.freed alone.joined d place is lock names in
        none_runs run.run (sym alone.resting ∙ run.runs)
      where
        none_runs : (q : RunState) → None ≡ Some q → ⊥
        none_runs q e = cc

    module _ (alone : IsAlone l here) (place : ℕ) (is : IsCleared seen place) (lock : m.is_lock place ≡ true) where
      last : StandsLast seen place (here.word (Cell place))
      last = last_of alone.joined place is.first is.seen

      -- where the lock names a section, no entry is another word
      against : (d other : ℕ) → value_of (here.word (Cell place)) ≡ suc d → HasLeft seen place other → other ≢ last.number → ⊥
      against d other names also ne = never alone d place (record {
        place = place;
        lock = lock;
        word = last.number;
        other = other;
        named = last.has;
        names = ap value_of (sym last.is) ∙ names;
        also = also;
        differs = ne;
      }) lock names

      two_words : (d : ℕ) → value_of (here.word (Cell place)) ≡ suc d → is.first ≢ is.second → ⊥
      two_words d names ne = ⊎_elim
          (λ same. against d is.second names is.also (λ e. ne (same ∙ sym e)))
          (λ other. against d is.first names is.seen other)
          (cases_eq is.first last.number)

      zero_not : (d : ℕ) → 0 ≡ suc d → ⊥
      zero_not d e = omega (arith, e)

      free_by : (n : ℕ) → value_of (here.word (Cell place)) ≡ n → value_of (here.word (Cell place)) ≡ 0
      free_by zero e = e
      free_by (suc d) e = absurd (⊎_elim
          (λ (none : value_of is.first ≡ 0). against d is.first e is.seen (λ same. zero_not d (sym none ∙ ap value_of same ∙ ap value_of (sym last.is) ∙ e)))
          (λ ne. two_words d e ne)
          is.why)

      free : value_of (here.word (Cell place)) ≡ 0
      free = free_by (value_of (here.word (Cell place))) refl

    abbrev descriptor_of : Option Published → Option ℕ
    descriptor_of None = None
    descriptor_of (Some y) = Some y.descriptor

    some_of : (o : Option Published) (y : Published) (d : ℕ) → o ≡ Some y → y.descriptor ≡ d → descriptor_of o ≡ Some d
    some_of None y d e is = absurd (let z = e in cc)
    some_of (Some z) y d e is = ap (λ n. Some n) (ap (λ (z' : Published). z'.descriptor) (same z y e) ∙ is)
      where
        same : (z y : Published) → Some z ≡ Some y → z ≡ y
        same z y e = cc

    owned_by : AllJoined l here → (d : ℕ) → IsFreed m seen d → IsPublished l here d
    owned_by joined d f = all_tells.published joined f.place d f.word f.lock f.named f.names

    few_named : AllJoined l here → (ds : List ℕ) → AreApart ds → ((d : ℕ) → has ds d ≡ true → IsNamed m seen d) → length ds ≤ l.runners
    few_named joined ds apart each = few_given (λ r. descriptor_of (here.part r).published) l.runners ds apart
        (λ d h. let n = each d h in let p = all_tells.published joined n.place d n.word n.lock n.named n.names in
        (p.worker, p.low, some_of (here.part p.worker).published p.section d p.published p.of_section))

    pub locks_tell : LocksTell m l here
    locks_tell = record {
      freed = never;
      cleared = free;
      owned = owned_by;
      few = few_named;
      stands = λ joined place number is. let last = last_of joined place number is in record { number = last.number; has = last.has; is = last.is };
    }
