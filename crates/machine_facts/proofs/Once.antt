-- Each section once, for good.
use Rattle.std.proofs.Common.{◌≡◌, ◌≢◌, ℕ, suc, ◌<◌, ◌≤◌, Bool, true, false, List, [], ◌∷◌, refl, sym, ap, ◌∙◌, subst, inl, inr, ⊎_elim, arith}
use Rattle.std.specs.Prelude.{◌⊎◌}
use Rattle.std.proofs.lemmas.Bool.{cases_lt}
use Rattle.machine_states.specs.epoch_core.specs.small_lemmas.proofs.Bools.{true_not_false as both_ways}
use Rattle.machine_states.specs.map_history.specs.declared.op.Request.{Request}
use Rattle.machine_states.specs.body_terms.specs.Update.{upd}
use Rattle.machine_states.specs.table_words.specs.declared.layout.Layout.{Layout}
use Rattle.machine_states.specs.table_words.specs.declared.spot.Spot.TheVariants.{Stamp, Reply, DoneWord}
use Rattle.machine_states.specs.structure_laws.specs.Meaning.{Meaning}
use Rattle.machine_states.specs.runner_parts.specs.declared.event.Event.{Event}
use Rattle.agreement_core.specs.Closed.{IsClosed}
use Rattle.agreement_core.specs.History as agreement_history
use Rattle.machine_states.specs.epoch_core.specs.declared.location.Location.{Location}
use Rattle.machine_states.specs.epoch_core.specs.declared.location.Location.TheVariants.{Live, Limbo}
use Rattle.machine_states.specs.epoch_core.specs.Events.{slot_of}
use Rattle.machine_states.specs.epoch_core.specs.History as epoch_history
use Rattle.machine_states.specs.epoch_core.specs.Freed.{IsFreed, FreedStay}
use Rattle.machine_states.specs.World.{World}
use Rattle.machine_states.specs.Sight.{Sight, sight}
use Rattle.machine_invariant.specs.machine_blocks.specs.machine_guards.specs.machine_agreement.specs.machine_epochs.specs.Entries.{counts_of}
use Rattle.machine_invariant.specs.machine_blocks.specs.machine_guards.specs.machine_agreement.specs.machine_scenes.specs.Shown.{rules_of}
use Rattle.machine_invariant.specs.Along.{Components, components_after}
use Rattle.machine_invariant.specs.Trails.{thunk_at}
use Rattle.machine_invariant.specs.Sections.{IsAnswered}
use Rattle.machine_facts.specs.States.{FactsStand}
use Rattle.machine_facts.specs.Passed.{Leads, GoSoundly}
use Rattle.machine_facts.specs.Once.{IsSection, EffectsAreOnce, LastState, EachSectionOnce}
use Rattle.machine_facts.proofs.Agreement.{Closed, closed_all}
use Rattle.machine_facts.proofs.Going.{Published, NonePublished, publication, freed}

not_limbo : (x : Location) (r y : ℕ) → x ≡ Live → x ≡ Limbo r y → ⊥
not_limbo x r y live limbo = let no = sym live ∙ limbo in cc

some_written : (n : ℕ) → agreement_history.written n ≡ n ∷ [] → n ≢ 0
some_written n e z = grind arith

here_upd : (f : ℕ → ℕ) (d v : ℕ) → upd f d v d ≡ v
here_upd f d v = grind arith

other_upd : (f : ℕ → ℕ) (d v n : ℕ) → n ≢ d → upd f d v n ≡ f n
other_upd f d v n ne = grind arith

module _ (m : Meaning) (l : Layout) (rs : List Request) where
  abbrev pub FactsAt : World → Components → Type 0
  FactsAt w k = FactsStand m l (sight m l rs w) k

  -- the first state of a list is one that it passes
  first_facts : (w : World) (k : Components) (events : List Event) (w' : World) (k' : Components) → GoSoundly m l rs w k events w' k' → FactsAt w k
  first_facts w k [] w' k' go = go.2
  first_facts w k (e ∷ events) w' k' go = go.0

  pub last_facts : (w : World) (k : Components) (events : List Event) (w' : World) (k' : Components) → GoSoundly m l rs w k events w' k' → FactsAt w' k'
  last_facts w k [] w' k' go = subst (λ (j : Components). FactsStand m l (sight m l rs w') j) (sym go.1)
      (subst (λ (u : World). FactsStand m l (sight m l rs u) k) (sym go.0) go.2)
  last_facts w k (e ∷ events) w' k' go = last_facts go.1 go.2 events w' k' go.4

  -- a list of no events
  none_go : (w : World) (k : Components) → FactsAt w k → GoSoundly m l rs w k [] w k
  none_go w k facts = (refl, refl, facts)

  -- a stamp word and a reply word that isn't 0 stands until the end
  record EntriesLast (w w' : World) : Type 0 where
    pub stamp : (q : ℕ) → (sight m l rs w).word (Stamp q) ≢ 0 → (sight m l rs w').word (Stamp q) ≡ (sight m l rs w).word (Stamp q)
    pub reply : (q : ℕ) → (sight m l rs w).word (Reply q) ≢ 0 → (sight m l rs w').word (Reply q) ≡ (sight m l rs w).word (Reply q)

  entries_last : (w : World) (k : Components) (events : List Event) (w' : World) (k' : Components) → GoSoundly m l rs w k events w' k'
      → EntriesLast w w'
  entries_last w k [] w' k' go = record {
    stamp = λ q some. ap (λ (u : World). (sight m l rs u).word (Stamp q)) go.0;
    reply = λ q some. ap (λ (u : World). (sight m l rs u).word (Reply q)) go.0;
  }
  entries_last w k (e ∷ events) w' k' go =
      let one = go.3.words in
      let more = entries_last go.1 go.2 events w' k' go.4 in
      record {
        stamp = λ q some. more.stamp q (λ z. some (sym (one.stamp q some) ∙ z)) ∙ one.stamp q some;
        reply = λ q some. more.reply q (λ z. some (sym (one.reply q some) ∙ z)) ∙ one.reply q some;
      }

  -- a section that was published, and whose descriptor is free again
  record IsGone (k : Components) (n : ℕ) : Type 0 where
    pub published : n ≤ k.changes.published
    pub closed : IsClosed k.agreement k.changes n
    pub freed : IsFreed (counts_of m l) k.epochs k.wins n

  -- what the histories say of it stays
  record SaySame (n : ℕ) (k k' : Components) : Type 0 where
    pub moved : (i : ℕ) → k'.changes.moved n i ≡ k.changes.moved n i
    pub stamped : k'.changes.stamped n ≡ k.changes.stamped n
    pub replied : k'.changes.replied n ≡ k.changes.replied n
    pub made : (i : ℕ) → k'.wins.made n i ≡ k.wins.made n i
    pub retired : (i : ℕ) → k'.wins.retired n i ≡ k.wins.retired n i

  say_same : (n : ℕ) (k : Components) → SaySame n k k
  say_same n k = record { moved = λ i. refl; stamped = refl; replied = refl; made = λ i. refl; retired = λ i. refl }

  say_then : (n : ℕ) (k k1 k2 : Components) → SaySame n k k1 → SaySame n k1 k2 → SaySame n k k2
  say_then n k k1 k2 one two = record {
    moved = λ i. two.moved i ∙ one.moved i;
    stamped = two.stamped ∙ one.stamped;
    replied = two.replied ∙ one.replied;
    made = λ i. two.made i ∙ one.made i;
    retired = λ i. two.retired i ∙ one.retired i;
  }

  -- one event
  module _ (w : World) (k : Components) (e : Event) (v : World) (j : Components) (facts : FactsAt w k) (leads : Leads m l rs w k e v j) where
    abbrev next : Components
    next = components_after m l k leads.sections leads.slots

    published : Published m l rs k (sight m l rs w) facts.sound.sections.joined facts.exact facts.numbers e.runner e.kind leads.sections leads.slots leads.events
        ⊎ NonePublished m l rs k (sight m l rs w) facts.sound.sections.joined facts.exact facts.numbers e.runner e.kind leads.sections leads.slots leads.events
    published = publication m l rs k (sight m l rs w) facts.sound.sections.joined facts.exact facts.numbers e.runner e.kind leads.sections leads.slots leads.events

    freed_step : FreedStay (counts_of m l) k.epochs next.epochs k.wins next.wins
    freed_step = freed m l rs k (sight m l rs w) facts.sound.sections.joined facts.exact facts.numbers e.runner e.kind leads.sections leads.slots leads.events

    changes_same : (n : ℕ) → n ≤ k.changes.published → IsClosed k.agreement k.changes n
        → Closed (rules_of m l) k.agreement next.agreement k.changes next.changes n
    changes_same n le closed = closed_all (rules_of m l) k.agreement k.changes leads.sections leads.events.enabled facts.exact.agreement
        facts.exact.changes n le closed

    -- where the section is closed before, and its descriptor free after
    same_by : (n : ℕ) → n ≤ k.changes.published → IsClosed k.agreement k.changes n → IsFreed (counts_of m l) next.epochs next.wins n
        → SaySame n k next × IsGone next n
    same_by n le closed free =
        let x = changes_same n le closed in (
          record {
            moved = x.moved;
            stamped = x.stamped;
            replied = x.replied;
            made = λ i. freed_step.made n i free;
            retired = λ i. freed_step.retired n i free;
          },
          record { published = x.published; closed = x.closed; freed = free },
        )

    abbrev At : ℕ → Components → Type 0
    At n x = SaySame n k x × IsGone x n

    gone_step : (n : ℕ) → IsGone k n → At n j
    gone_step n gone = subst (At n) (sym leads.next)
        (same_by n gone.published gone.closed (freed_step.freed n (subst (λ p. n ≤ p) (sym facts.numbers.published) gone.published) gone.freed))

    -- a used descriptor keeps its section's number
    number_stays : (d : ℕ) → k.agreement.used d ≡ true → j.changes.section d ≡ k.changes.section d
    number_stays d used = ap (λ (x : Components). x.changes.section d) leads.next ∙ ⊎_elim
        (λ p. p.section d ∙ other_upd k.changes.section p.descriptor _ d (λ e. both_ways _ used (ap k.agreement.used e ∙ p.before)))
        (λ n. n.section d) published

    -- the section of a descriptor that is free after the event is done, and gone after it
    module _ (facts' : FactsAt v j) (d n : ℕ) (is : IsSection k d n) (some : 1 ≤ n) (unused : j.agreement.used d ≡ false) where
      abbrev at_d : Components → Location
      at_d x = x.epochs.location (slot_of (counts_of m l) d)

      limbo : (r y : ℕ) × (at_d k ≡ Limbo r y)
      limbo = ⊎_elim
          (λ still. absurd (both_ways _ (facts'.sound.used d ∙ (ap epoch_history.is_out (ap at_d leads.next) ∙ still)) unused))
          (λ at. at)
          (freed_step.late d (sym (facts.sound.used d) ∙ is.used))

      done : (k.agreement.section d).done ≢ 0
      done z = not_limbo (at_d k) limbo.0 limbo.1 (facts.sound.live d ((facts.exact.agreement.sections d is.used).open_live z)) limbo.2

      -- no other descriptor has this number
      closed : IsClosed k.agreement k.changes n
      closed d' is_open number =
          let same : d' ≡ d = facts.exact.changes.apart d' d (subst (λ p. 1 ≤ p) (sym number) some) (number ∙ sym is.number) in
          done (subst (λ p. (k.agreement.section p).done ≡ 0) same is_open.undone)

      free : IsFreed (counts_of m l) next.epochs next.wins n
      free d' out number =
          let here : j.changes.section d' ≡ n = sym (facts'.numbers.section d') ∙ (ap (λ (x : Components). x.wins.section d') leads.next ∙ number) in
          let there : j.changes.section d ≡ n = number_stays d is.used ∙ is.number in
          let same : d' ≡ d = facts'.exact.changes.apart d' d (subst (λ p. 1 ≤ p) (sym here) some) (here ∙ sym there) in
          both_ways _ (facts'.sound.used d' ∙ (ap (λ (x : Components). epoch_history.is_out (x.epochs.location (slot_of (counts_of m l) d'))) leads.next ∙ out))
          (ap j.agreement.used same ∙ unused)

      free_step : At n j × ((sight m l rs w).word (DoneWord d) ≢ 0)
      free_step = (
        subst (At n) (sym leads.next) (same_by n (subst (λ p. p ≤ k.changes.published) is.number (facts.exact.changes.numbered d)) closed free),
        λ z. done (((facts.sound.sections.joined).sections d).done ∙ z),
      )

  -- what is gone stays so, and what the histories say of it
  gone_last : (n : ℕ) (w : World) (k : Components) (events : List Event) (w' : World) (k' : Components) → GoSoundly m l rs w k events w' k'
      → IsGone k n → SaySame n k k'
  gone_last n w k [] w' k' go gone = subst (λ (x : Components). SaySame n k x) (sym go.1) (say_same n k)
  gone_last n w k (e ∷ events) w' k' go gone =
      let one = gone_step w k e go.1 go.2 go.0 go.3 n gone in
      say_then n k go.2 k' one.0 (gone_last n go.1 go.2 events w' k' go.4 one.1)

  -- what the histories say at the end of a section that is done there, or was done when its descriptor became free
  module _ (v : World) (j : Components) (facts : FactsAt v j) (d n : ℕ) (is : IsSection j d n) (w' : World) (k' : Components)
      (facts' : FactsAt w' k') (last : EntriesLast v w') (say : (sight m l rs v).word (DoneWord d) ≢ 0 → SaySame n j k') where
    abbrev s : Sight
    s = sight m l rs v

    slot_number : j.wins.section d ≡ n
    slot_number = facts.numbers.section d ∙ is.number

    stamp_once : (x : IsAnswered m j.agreement s d) → k'.changes.stamps (thunk_at m j.agreement s d).request ≡ s.word (Stamp (thunk_at m j.agreement s d).request) ∷ []
    stamp_once x =
        let q = (thunk_at m j.agreement s d).request in
        let here = facts.sound.sections.in_effects.stamped d x in
        let some = some_written (s.word (Stamp q)) (sym (facts.sound.sections.in_effects.stamps q) ∙ here) in
        facts'.sound.sections.in_effects.stamps q ∙ (ap agreement_history.written (last.stamp q some)
        ∙ (sym (facts.sound.sections.in_effects.stamps q) ∙ here))

    reply_once : (x : IsAnswered m j.agreement s d) → k'.changes.replies (thunk_at m j.agreement s d).request ≡ s.word (Reply (thunk_at m j.agreement s d).request) ∷ []
    reply_once x =
        let q = (thunk_at m j.agreement s d).request in
        let here = facts.sound.sections.in_effects.replied d x in
        let some = some_written (s.word (Reply q)) (sym (facts.sound.sections.in_effects.replies q) ∙ here) in
        facts'.sound.sections.in_effects.replies q ∙ (ap agreement_history.written (last.reply q some)
        ∙ (sym (facts.sound.sections.in_effects.replies q) ∙ here))

    effects_once : EffectsAreOnce m j.agreement s d n k'
    effects_once =
        let once = facts.sound.sections.in_effects in
        record {
          over = once.over d is.used;
          stored = λ i place log value x step. (say x.done).moved i ∙ (ap (λ p. j.changes.moved p i) (sym is.number) ∙ once.stored d i place log value x step);
          stamped = stamp_once;
          replied = reply_once;
          made = λ i log x step. (say x.done).made log ∙ (ap (λ p. j.wins.made p log) (sym slot_number) ∙ once.made d i log x step);
          retired = λ i slot log x step. let y = once.retired d i slot log x step in
              (y.0, (say x.done).retired log ∙ (ap (λ p. j.wins.retired p log) (sym slot_number) ∙ y.1));
          unmoved = λ i x. (say x.done).moved i ∙ (ap (λ p. j.changes.moved p i) (sym is.number) ∙ once.unmoved d i x);
          unstamped = λ x. (say x.done).stamped ∙ (ap j.changes.stamped (sym is.number) ∙ once.unstamped d x);
          unreplied = λ x. (say x.done).replied ∙ (ap j.changes.replied (sym is.number) ∙ once.unreplied d x);
          unmade = λ log x. (say x.done).made log ∙ (ap (λ p. j.wins.made p log) (sym slot_number) ∙ once.unmade d log x);
          unretired = λ log x. (say x.done).retired log ∙ (ap (λ p. j.wins.retired p log) (sym slot_number) ∙ once.unretired d log x);
          moved_once = facts'.exact.changes.moved_once n;
          stamped_once = facts'.exact.changes.stamped_once n;
          replied_once = facts'.exact.changes.replied_once n;
          made_once = facts'.exact.wins.made_once n;
          retired_once = facts'.exact.wins.retired_once n;
        }

  -- one event before
  extend : (w : World) (k : Components) (e : Event) (events : List Event) (w' : World) (k' : Components) (n : ℕ) (facts : FactsAt w k)
      (v : World) (j : Components) → Leads m l rs w k e v j → LastState m l rs v j events w' k' n → LastState m l rs w k (e ∷ events) w' k' n
  extend w k e events w' k' n facts v j leads x = record {
    front = e ∷ x.front;
    back = x.back;
    whole = ap (λ es. e ∷ es) x.whole;
    world = x.world;
    components = x.components;
    before = (facts, v, j, leads, x.before);
    after = x.after;
    descriptor = x.descriptor;
    is = x.is;
    last = x.last;
    effects = x.effects;
  }

  -- from a state in which the section is there
  track : (n : ℕ) → 1 ≤ n → (w : World) (k : Components) (events : List Event) (w' : World) (k' : Components)
      → GoSoundly m l rs w k events w' k' → (d : ℕ) → IsSection k d n → LastState m l rs w k events w' k' n
  track n some w k [] w' k' go d is = record {
    front = [];
    back = [];
    whole = refl;
    world = w;
    components = k;
    before = none_go w k go.2;
    after = go;
    descriptor = d;
    is = is;
    last = inl refl;
    effects = effects_once w k go.2 d n is w' k' (last_facts w k [] w' k' go) (entries_last w k [] w' k' go)
        (λ done. subst (λ (x : Components). SaySame n k x) (sym go.1) (say_same n k));
  }
  track n some w k (e ∷ events) w' k' go d is = by (λ there. track n some go.1 go.2 events w' k' go.4 d there) (go.2.agreement.used d) refl
    where
      by : (IsSection go.2 d n → LastState m l rs go.1 go.2 events w' k' n) → (b : Bool) → go.2.agreement.used d ≡ b
          → LastState m l rs w k (e ∷ events) w' k' n
      by more true used = extend w k e events w' k' n go.0 go.1 go.2 go.3 (more (record {
        used = used;
        number = number_stays w k e go.1 go.2 go.0 go.3 d is.used ∙ is.number;
      }))
      by more false unused =
          let one = free_step w k e go.1 go.2 go.0 go.3 (first_facts go.1 go.2 events w' k' go.4) d n is some unused in
          record {
            front = [];
            back = e ∷ events;
            whole = refl;
            world = w;
            components = k;
            before = none_go w k go.0;
            after = go;
            descriptor = d;
            is = is;
            last = inr one.1;
            effects = effects_once w k go.0 d n is w' k' (last_facts w k (e ∷ events) w' k' go) (entries_last w k (e ∷ events) w' k' go)
                (λ done. say_then n k go.2 k' one.0.0 (gone_last n go.1 go.2 events w' k' go.4 one.0.1));
          }

  -- from a state before its publication
  born : (n : ℕ) → 1 ≤ n → (w : World) (k : Components) (events : List Event) (w' : World) (k' : Components)
      → GoSoundly m l rs w k events w' k' → k.changes.published < n → n ≤ k'.changes.published → LastState m l rs w k events w' k' n
  born n some w k [] w' k' go early le =
      absurd (let same = ap (λ (x : Components). x.changes.published) go.1 in omega arith)
  born n some w k (e ∷ events) w' k' go early le = extend w k e events w' k' n go.0 go.1 go.2 go.3
      (⊎_elim
      (λ later. born n some go.1 go.2 events w' k' go.4 later le)
      (λ now. ⊎_elim (λ p. this now p.descriptor p.used p.section p.changes) (λ x. none now x.changes)
      (published w k e go.1 go.2 go.0 go.3))
      (cases_lt go.2.changes.published n))
    where
      next : Components
      next = components_after m l k go.3.sections go.3.slots

      none : n ≤ go.2.changes.published → next.changes.published ≡ k.changes.published → LastState m l rs go.1 go.2 events w' k' n
      none now same = absurd (let here = ap (λ (x : Components). x.changes.published) go.3.next in omega arith)

      this : n ≤ go.2.changes.published → (d : ℕ) → next.agreement.used d ≡ true
          → ((d' : ℕ) → next.changes.section d' ≡ upd k.changes.section d (suc k.changes.published) d')
          → next.changes.published ≡ suc k.changes.published → LastState m l rs go.1 go.2 events w' k' n
      this now d used section more = track n some go.1 go.2 events w' k' go.4 d (record {
        used = ap (λ (x : Components). x.agreement.used d) go.3.next ∙ used;
        number = ap (λ (x : Components). x.changes.section d) go.3.next ∙ (section d ∙ (here_upd k.changes.section d (suc k.changes.published)
            ∙ (let here = ap (λ (x : Components). x.changes.published) go.3.next in omega arith)));
      })

  -- where nothing was published before
  pub each_once : (w : World) (k : Components) (events : List Event) (w' : World) (k' : Components) → GoSoundly m l rs w k events w' k'
      → k.changes.published ≡ 0 → EachSectionOnce m l rs w k events w' k'
  each_once w k events w' k' go none n some le = born n some w k events w' k' go (omega arith) le
