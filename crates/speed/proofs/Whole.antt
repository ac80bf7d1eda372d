-- The worker goes from one request to the next.
use Rattle.std.proofs.Common.{◌≡◌, ℕ, zero, suc, ◌+◌, ◌<◌, ◌≤◌, List, [], ◌∷◌, ◌++◌, length, Bool, true, false, refl, sym, ap, subst, ◌∙◌, eq-eqb, arith, Option, Result, Ok, Some, None, inl, inr, slice_get}
use Rattle.std.specs.Prelude.{◌==◌, ◌&&◌, ◌||◌, not, cond, if◌then◌else◌, ◌%◌}
use Rattle.std.proofs.lemmas.Bool.Decides.{nat_tests}
use Rattle.machine_states.specs.epoch_core.specs.small_lemmas.proofs.Bools.{or_second as either}
use Rattle.machine_states.specs.body_terms.specs.Trail.{Agreed}
use Rattle.machine_states.specs.body_terms.specs.Word.{value_of, version_of, is_free, is_spent}
use Rattle.machine_states.specs.body_terms.specs.declared.outcome.Outcome.{Outcome}
use Rattle.machine_states.specs.body_terms.specs.declared.outcome.Refused.{Refused}
use Rattle.machine_states.specs.body_terms.specs.declared.thunk.Thunk.{Thunk}
use Rattle.machine_states.specs.table_words.specs.Places.{attempt_blocks}
use Rattle.machine_states.specs.table_words.specs.declared.layout.Layout.{Layout}
use Rattle.machine_states.specs.structure_laws.specs.Tray.{tray}
use Rattle.machine_states.specs.runner_parts.specs.declared.entries.Known.{Known}
use Rattle.machine_states.specs.runner_parts.specs.declared.entries.Published.{Published}
use Rattle.machine_states.specs.runner_parts.specs.declared.event.EventKind.TheVariants as kinds
use Rattle.machine_states.specs.epoch_core.specs.declared.stage.Stage.TheVariants as stages
use Rattle.machine_states.specs.runner_parts.specs.State.{DescriptorsState, GuardsState, NodesState, ReadsState}
use Rattle.machine_states.specs.runner_parts.specs.Tests.{has_pair, is_open, is_next, is_answered, knows, serves, is_between}
use Rattle.runner_steps.specs.AfterInRun.{kept_unless}
use Rattle.runner_steps.specs.Outside.{is_due}
use Rattle.table_steps.specs.version_words.specs.RunnerState.{RunnerState}
use Rattle.table_steps.specs.version_words.specs.TableState.{TableState, IsOf}
use Rattle.table_steps.specs.version_words.specs.Events.{IsEnabled, Makes}
use Rattle.table_steps.specs.version_words.specs.Naming.{load_of}
use Rattle.table_steps.specs.version_words.specs.Stages.{IsAt}
use Rattle.table_steps.specs.version_words.proofs.Stages.{then_loaded_cell}
use Rattle.try_lock.specs.epoch_slots.specs.Entries.{HasLeave, Enters, Exits}
use Rattle.try_lock.specs.epoch_slots.proofs.Outside.{nodes_made, descriptors_made, no_fewer_blocks, guards_made, reads_made, known_made}
use Rattle.try_lock.specs.commit_log.specs.Runs.{Ran}
use Rattle.try_lock.specs.commit_log.proofs.Running.{moved_same}
use Rattle.try_lock.specs.declared.section.Section.{Section}
use Rattle.try_lock.specs.Ends.{EndsSo, IsCutShort}
use Rattle.try_lock.specs.Publishes.{MayPublish, Publishes}
use Rattle.try_lock.proofs.Blocks.{for_one}
use Rattle.try_lock.proofs.Guarding.{may_let_go, guard_at, guard_named, guard_keeps, guard_keeps_else}
use Rattle.try_lock.proofs.Watching.{same_looked}
use Rattle.speed.specs.Scenes.{eight_requests, IsScene}
use Rattle.try_lock.specs.Reached.{MayRunSection}
use Rattle.speed.specs.Workers.{KnowsBelow, IsBefore, HasRead, MayRun}

-- what isn't known
unknown_in : (known : List Known) (n : ℕ) (reply : Bool) → ((i : ℕ) (x : Known) → slice_get known i ≡ Some x → x.request < n) → knows known n reply ≡ false
unknown_in [] n reply below = refl
unknown_in (x ∷ known) n reply below =
    let less = below 0 x refl in let other : x.request == n ≡ false = grind (arith, nat_tests, less) in
    (λ i. (other i && cond reply x.reply (not x.reply)) || unknown_in known n reply (λ j y e. below (suc j) y e) i)

unanswered : (known : List Known) (n : ℕ) → KnowsBelow n known → is_answered known n ≡ false
unanswered known n so = ap (λ b. b && knows known n true) (unknown_in known n false so.below)

-- and what is known besides
below_more : (old more : List Known) (n : ℕ) → ((i : ℕ) (x : Known) → slice_get old i ≡ Some x → x.request < n) → ((i : ℕ) (x : Known) → slice_get more i ≡ Some x → x.request ≡ n)
    → (i : ℕ) (x : Known) → slice_get (old ++ more) i ≡ Some x → x.request < n + 1
below_more [] more n below only i x e = let is = only i x e in omega (arith, is)
below_more (y ∷ old) more n below only zero x e = let less = below 0 x e in omega (arith, less)
below_more (y ∷ old) more n below only (suc i) x e = below_more old more n (λ j z f. below (suc j) z f) only i x e

-- a free word that isn't spent
not_spent : (most word : ℕ) → value_of word ≡ 0 → version_of word + 2 ≤ most → is_spent most word ≡ false
not_spent most word free low = grind (arith, nat_tests, free, low)

-- each request is the first of its trace
due : (l : Layout) (walk : List (ℕ × ℕ)) (known : List Known) (t : Thunk) (n : ℕ) → l.runners ≡ 1 → KnowsBelow n known → n < 8 → t.request ≡ n → t.lock ≡ 0
    → is_due tray l eight_requests 0 known walk t ≡ true
due l walk known t zero one below few request lock = let unknown = unanswered known 0 below in
    (λ i. is_next l 0 eight_requests known (slice_get eight_requests (request i)) && serves tray l walk t (slice_get eight_requests (request i)))
    ∙ (λ i. (0 % one i == 0 && (not (unknown i) && true)) && (lock i == 0))
due l walk known t (suc zero) one below few request lock = let unknown = unanswered known 1 below in
    (λ i. is_next l 0 eight_requests known (slice_get eight_requests (request i)) && serves tray l walk t (slice_get eight_requests (request i)))
    ∙ (λ i. (1 % one i == 0 && (not (unknown i) && true)) && (lock i == 0))
due l walk known t (suc (suc zero)) one below few request lock = let unknown = unanswered known 2 below in
    (λ i. is_next l 0 eight_requests known (slice_get eight_requests (request i)) && serves tray l walk t (slice_get eight_requests (request i)))
    ∙ (λ i. (2 % one i == 0 && (not (unknown i) && true)) && (lock i == 0))
due l walk known t (suc (suc (suc zero))) one below few request lock = let unknown = unanswered known 3 below in
    (λ i. is_next l 0 eight_requests known (slice_get eight_requests (request i)) && serves tray l walk t (slice_get eight_requests (request i)))
    ∙ (λ i. (3 % one i == 0 && (not (unknown i) && true)) && (lock i == 0))
due l walk known t (suc (suc (suc (suc zero)))) one below few request lock = let unknown = unanswered known 4 below in
    (λ i. is_next l 0 eight_requests known (slice_get eight_requests (request i)) && serves tray l walk t (slice_get eight_requests (request i)))
    ∙ (λ i. (4 % one i == 0 && (not (unknown i) && true)) && (lock i == 0))
due l walk known t (suc (suc (suc (suc (suc zero))))) one below few request lock = let unknown = unanswered known 5 below in
    (λ i. is_next l 0 eight_requests known (slice_get eight_requests (request i)) && serves tray l walk t (slice_get eight_requests (request i)))
    ∙ (λ i. (5 % one i == 0 && (not (unknown i) && true)) && (lock i == 0))
due l walk known t (suc (suc (suc (suc (suc (suc zero)))))) one below few request lock = let unknown = unanswered known 6 below in
    (λ i. is_next l 0 eight_requests known (slice_get eight_requests (request i)) && serves tray l walk t (slice_get eight_requests (request i)))
    ∙ (λ i. (6 % one i == 0 && (not (unknown i) && true)) && (lock i == 0))
due l walk known t (suc (suc (suc (suc (suc (suc (suc zero))))))) one below few request lock = let unknown = unanswered known 7 below in
    (λ i. is_next l 0 eight_requests known (slice_get eight_requests (request i)) && serves tray l walk t (slice_get eight_requests (request i)))
    ∙ (λ i. (7 % one i == 0 && (not (unknown i) && true)) && (lock i == 0))
due l walk known t (suc (suc (suc (suc (suc (suc (suc (suc n)))))))) one below few request lock = absurd (omega (arith, few))

pair_last : (xs : List (ℕ × ℕ)) (a b : ℕ) → has_pair (xs ++ (a, b) ∷ []) a b ≡ true
pair_last [] a b = let e : ((a == a && b == b) || false) ≡ true = grind (arith, nat_tests) in e
pair_last (x ∷ xs) a b = either (x.0 == a && x.1 == b) (has_pair (xs ++ (a, b) ∷ []) a b) (pair_last xs a b)

-- a section that was run to its end isn't published any more
none_kept : (x : Published) (d : ℕ) → x.descriptor ≡ d → kept_unless (Some x) d ≡ None
none_kept x d same = ap (λ b. if b then None else Some x) (eq-eqb x.descriptor d same)

module _ {T : Type 0} where
  pub then_read : (idle entered r : RunnerState T) (request word : ℕ) → IsBefore request idle → 2 ≤ length idle.part.nodes.free → 1 ≤ length idle.part.descriptors.free
      → attempt_blocks ≤ length idle.part.blocks.free → Enters tray idle entered → Makes tray (load_of entered.part.run 0) word entered r → HasRead request word r
  then_read idle entered r request word before enough some for_logs enters made =
      let resting = enters.at.resting in
      let load : Makes tray (kinds.LoadCell (Some 0)) word entered r = subst (λ o. Makes tray (load_of o 0) word entered r) resting made in
      let reads = reads_made tray (kinds.LoadCell (Some 0)) word entered r load resting in
      let nodes : r.part.nodes ≡ idle.part.nodes = nodes_made tray (kinds.LoadCell (Some 0)) word entered r load resting ∙ enters.keeps.nodes in
      let descriptors : r.part.descriptors ≡ idle.part.descriptors = descriptors_made tray (kinds.LoadCell (Some 0)) word entered r load resting ∙ enters.keeps.descriptors in
      record {
        epoch = enters.epoch;
        at = then_loaded_cell tray word enters.epoch 0 entered r None made enters.at;
        read = ap (λ (s : ReadsState). has_pair s.cells 0 word) reads ∙ pair_last entered.part.reads.cells 0 word;
        number = ap (λ (y : RunnerState T). y.number) load.made ∙ (enters.keeps.number ∙ before.number);
        knows = subst (KnowsBelow request) (sym (known_made tray (kinds.LoadCell (Some 0)) word entered r load resting ∙ enters.keeps.known)) before.knows;
        nodes = subst (λ (n : NodesState). 2 ≤ length n.free) (sym nodes) enough;
        descriptors = subst (λ (d : DescriptorsState). 1 ≤ length d.free) (sym descriptors) some;
        blocks = (let entered_too = enters.keeps.blocks in
            let more = no_fewer_blocks tray (kinds.LoadCell (Some 0)) word entered r load resting in omega (arith, for_logs, entered_too, more));
        hand = ap (λ (n : NodesState). n.hand) nodes ∙ before.tidy.hand;
        tests = ap (λ (n : NodesState). n.tests) nodes ∙ before.tidy.tests;
        looked = ap (λ (g : GuardsState). g.looked) (guards_made tray (kinds.LoadCell (Some 0)) word entered r load resting)
            ∙ (same_looked entered.part.guards (tray.is_lock 0) word ∙ ap (λ (g : GuardsState). g.looked) enters.guards);
        reached = record { world = made.shown.world; reached = made.shown.reached; own = made.shown.own };
      }

  module _ (t : TableState T) (r : RunnerState T) (thunk : Thunk) (own : IsOf t r) (scene : IsScene t) (request : ℕ) (few : request < 8) (read : HasRead request thunk.word r) where
    pub may_publish : thunk.request ≡ request → thunk.lock ≡ 0 → value_of thunk.word ≡ 0 → version_of thunk.word + 2 ≤ t.layout.version_max → MayPublish tray r thunk
    may_publish its lock free low =
        let requests = own.requests ∙ scene.requests in
        let number = read.number in
        let free_so : is_free thunk.word ≡ true = eq-eqb (value_of thunk.word) 0 free in
        let unspent = not_spent r.layout.version_max thunk.word free (subst (λ l. version_of thunk.word + 2 ≤ l.version_max) (sym own.layout) low) in
        let seen : has_pair r.part.reads.cells thunk.lock thunk.word ≡ true = ap (λ p. has_pair r.part.reads.cells p thunk.word) lock ∙ read.read in
        let unlocked : is_open r.layout r.part.reads.cells thunk ≡ true = (λ i. free_so i && (not (unspent i) && seen i)) in
        record {
          epoch = read.epoch;
          at = read.at;
          unlocked = unlocked;
          due = (λ i. is_due tray r.layout (requests i) (number i) r.part.records.known r.part.reads.walk thunk)
              ∙ due r.layout r.part.reads.walk r.part.records.known thunk request (ap (λ l. l.runners) own.layout ∙ scene.runners) read.knows few its lock;
          reserve = read.descriptors;
          reached = read.reached;
        }

  -- a section that was published may be run
  module _ (old new : RunnerState T) (thunk : Thunk) (answer : Result Section Refused) (request : ℕ) (read : HasRead request thunk.word old) (its : thunk.request ≡ request)
      (publishes : Publishes tray thunk answer old new) (may : MayPublish tray old thunk) where
    pub may_run : (section : Section) → answer ≡ Ok section → MayRun request section new
    may_run section ok =
        let won = (subst (λ a. Publishes tray thunk a old new) ok publishes).published in
        record {
          thunk = thunk;
          serves = its;
          may = record {
            epoch = may.epoch;
            published = _;
            at = won.at may.epoch may.at;
            section = won.section;
            reserve = subst (λ (n : NodesState). 2 ≤ length n.free) (sym publishes.nodes) read.nodes;
            blocks = (let had = for_one (length old.part.blocks.free) read.blocks in let more = publishes.blocks in omega (arith, had, more));
            reached = publishes.reached;
          };
          number = publishes.number ∙ read.number;
          knows = subst (KnowsBelow request) (sym publishes.known) read.knows;
          hand = ap (λ (n : NodesState). n.hand) publishes.nodes ∙ read.hand;
          tests = ap (λ (n : NodesState). n.tests) publishes.nodes ∙ read.tests;
          looked = publishes.looked ∙ read.looked;
        }

  ran_number : (n : ℕ) (old new : RunnerState T) → Ran tray n old new → new.number ≡ old.number
  ran_number zero old new same = ap (λ (r : RunnerState T). r.number) same
  ran_number (suc n) old new (r, q, found, moved, rest) = ran_number n r new rest ∙ ap (λ (y : RunnerState T). y.number) (moved_same tray q found old r moved)

  -- a worker that was halted in a run has its number
  pub cut_number : (d made : ℕ) (old new : RunnerState T) → IsCutShort tray d made old new → new.number ≡ old.number
  cut_number d made old new (inl (words, opening)) = opening.stays.number
  cut_number d made old new (inr short) = ran_number short.count short.opened new short.ran ∙ short.opening.stays.number

  module _ (request : ℕ) (section : Section) (o : Outcome) (trail : Agreed) (made : ℕ) (old new : RunnerState T) (may : MayRun request section old) (ends : EndsSo tray section.descriptor may.thunk o trail made old new) where
    abbrev run : MayRunSection tray old may.thunk section
    run = may.may

    -- the section is over
    over_at : IsAt new (stages.Entered run.epoch) None
    over_at = record {
      present = ends.present ∙ run.at.present;
      resting = ends.resting;
      at = ends.stage ∙ run.at.at;
      published = ends.published ∙ (ap (λ (p : Option Published). kept_unless p section.descriptor) run.section.own
          ∙ none_kept run.section.published section.descriptor run.section.descriptor);
      settled = ap is_between ends.look ∙ run.at.settled;
      seated = let few = run.at.seated in let number = ends.number in let e = ap (λ (l : Layout). l.runners) ends.layout in omega (arith, number, e, few);
    }

    -- so the worker may let its guard go
    pub may_go : IsEnabled tray (kinds.Guard None) new
    may_go = may_let_go tray new run.epoch over_at

    module _ (found : ℕ) (gone : RunnerState T) (goes : Makes tray (kinds.Guard None) found new gone) where
      -- and leave
      pub may_leave : HasLeave gone
      may_leave = record {
        epoch = run.epoch;
        at = guard_at tray None found new gone goes run.epoch over_at;
        unguarded = guard_named tray None found new gone goes ends.resting;
      }

      pub gone_number : gone.number ≡ 0
      gone_number = (guard_keeps tray None found new gone goes ends.resting).number ∙ (ends.number ∙ may.number)

      -- behind it it is before the next request
      pub then_next : (idle : RunnerState T) → Exits tray gone idle → IsBefore (request + 1) idle
      then_next idle exits =
          let keeps = guard_keeps tray None found new gone goes ends.resting in
          record {
            tidy = record {
              at = exits.at;
              hand = ap (λ (n : NodesState). n.hand) (exits.keeps.nodes ∙ keeps.nodes) ∙ (ends.nodes.hand ∙ may.hand);
              tests = ap (λ (n : NodesState). n.tests) (exits.keeps.nodes ∙ keeps.nodes) ∙ ends.nodes.tests may.tests;
              looked = ap (λ (g : GuardsState). g.looked) exits.guards ∙ ((guard_keeps_else tray None found new gone goes ends.resting).looked
                  ∙ (ap (λ (g : GuardsState). g.looked) ends.guards ∙ may.looked));
              unguarded = ap (λ (g : GuardsState). g.named) exits.guards ∙ guard_named tray None found new gone goes ends.resting;
            };
            number = exits.keeps.number ∙ gone_number;
            knows = subst (KnowsBelow (request + 1)) (sym (exits.keeps.known ∙ (keeps.known ∙ ends.learns.adds)))
                (record { below = below_more old.part.records.known ends.learns.more request may.knows.below (λ i x e. ends.learns.only i x e ∙ may.serves) });
          }
