-- What a worker that has read the lock may publish, and that it may run its section then.
use Rattle.std.proofs.Common.{◌≡◌, ℕ, zero, suc, ◌+◌, ◌<◌, ◌≤◌, List, [], length, true, false, sym, ap, subst, ◌∙◌, eq-eqb, arith, Result, Ok}
use Rattle.std.specs.Prelude.{◌==◌, ◌&&◌, not, ◌%◌, slice_get}
use Rattle.std.proofs.lemmas.Bool.Decides.{nat_tests}
use Rattle.machine_states.specs.body_terms.specs.Word.{value_of, version_of, is_free, is_spent}
use Rattle.machine_states.specs.body_terms.specs.declared.outcome.Refused.{Refused}
use Rattle.machine_states.specs.body_terms.specs.declared.thunk.Thunk.{Thunk}
use Rattle.machine_states.specs.table_words.specs.Places.{attempt_blocks}
use Rattle.machine_states.specs.table_words.specs.declared.layout.Layout.{Layout}
use Rattle.machine_states.specs.structure_laws.specs.Meaning.{Meaning}
use Rattle.machine_states.specs.structure_laws.specs.Tray.{tray}
use Rattle.machine_states.specs.runner_parts.specs.declared.entries.Known.{Known}
use Rattle.machine_states.specs.runner_parts.specs.State.{NodesState}
use Rattle.machine_states.specs.runner_parts.specs.Tests.{has_pair, is_open, is_next, serves}
use Rattle.machine_states.specs.runner_steps.specs.Outside.{is_due}
use Rattle.settled_tables.specs.closed_words.specs.version_words.specs.RunnerState.{RunnerState}
use Rattle.settled_tables.specs.closed_words.specs.version_words.specs.TableState.{TableState, IsOf}
use Rattle.hash_table.specs.try_lock.specs.declared.section.Section.{Section}
use Rattle.hash_table.specs.try_lock.specs.Publishes.{MayPublish, Publishes}
use Rattle.hash_table.specs.try_lock.proofs.Blocks.{for_one}
use Rattle.lock_tests.specs.declared.offers.Offer.{Offer}
use Rattle.lock_tests.specs.declared.offers.Offer.TheVariants.{Published}
use Rattle.lock_tests.specs.Scenes.{two_requests, IsScene}
use Rattle.lock_tests.specs.Workers.{HasRead, MayRun, MayRunFor, IsEmptyHanded}

-- a free word that isn't spent
not_spent : (most word : ℕ) → value_of word ≡ 0 → version_of word + 2 ≤ most → is_spent most word ≡ false
not_spent most word free low = grind (arith, nat_tests, free, low)

-- each worker's request is the next one
due : (l : Layout) (walk : List (ℕ × ℕ)) (known : List Known) (t : Thunk) (r : ℕ) → l.runners ≡ 2 → known ≡ [] → r < 2 → t.request ≡ r → t.lock ≡ 0 → is_due tray l two_requests r known walk t ≡ true
due l walk known t zero two none few request lock =
    (λ i. is_next l 0 two_requests (none i) (slice_get two_requests (request i)) && serves tray l walk t (slice_get two_requests (request i)))
    ∙ (λ i. (0 % two i == 0 && true) && (lock i == 0))
due l walk known t (suc zero) two none few request lock =
    (λ i. is_next l 1 two_requests (none i) (slice_get two_requests (request i)) && serves tray l walk t (slice_get two_requests (request i)))
    ∙ (λ i. (1 % two i == 1 && true) && (lock i == 0))
due l walk known t (suc (suc n)) two none few request lock = absurd (omega (arith, few))

module _ {T : Type 0} (t : TableState T) (r : RunnerState T) (thunk : Thunk) (own : IsOf t r) (scene : IsScene t) (few : r.number < 2) (read : HasRead tray 0 thunk.word r) where
  pub may_publish : thunk.request ≡ r.number → thunk.lock ≡ 0 → value_of thunk.word ≡ 0 → version_of thunk.word + 2 ≤ t.layout.version_max → MayPublish tray r thunk
  may_publish request lock free low =
      let requests = own.requests ∙ scene.requests in
      let free_so : is_free thunk.word ≡ true = eq-eqb (value_of thunk.word) 0 free in
      let unspent = not_spent r.layout.version_max thunk.word free (subst (λ l. version_of thunk.word + 2 ≤ l.version_max) (sym own.layout) low) in
      let seen : has_pair r.part.reads.cells thunk.lock thunk.word ≡ true = ap (λ p. has_pair r.part.reads.cells p thunk.word) lock ∙ read.read in
      let unlocked : is_open r.layout r.part.reads.cells thunk ≡ true = (λ i. free_so i && (not (unspent i) && seen i)) in
      record {
        epoch = read.epoch;
        at = read.at;
        unlocked = unlocked;
        due = (λ i. is_due tray r.layout (requests i) r.number r.part.records.known r.part.reads.walk thunk)
            ∙ due r.layout r.part.reads.walk r.part.records.known thunk r.number (ap (λ l. l.runners) own.layout ∙ scene.runners) read.knows few request lock;
        reserve = read.reserve.descriptors;
        reached = read.reached;
      }

-- a section that was published may be run
module _ {T : Type 0} (m : Meaning) (old new : RunnerState T) (thunk : Thunk) (answer : Result Section Refused) (publishes : Publishes m thunk answer old new) (may : MayPublish m old thunk) where
  pub may_run : 2 ≤ length old.part.nodes.free → attempt_blocks ≤ length old.part.blocks.free → IsEmptyHanded old → (section : Section) → answer ≡ Ok section → MayRun m section new
  may_run reserve blocks hand section ok =
      let won = (subst (λ a. Publishes m thunk a old new) ok publishes).published in
      record {
        thunk = thunk;
        may = record {
          epoch = may.epoch;
          published = _;
          at = won.at may.epoch may.at;
          section = won.section;
          reserve = subst (λ (n : NodesState). 2 ≤ length n.free) (sym publishes.nodes) reserve;
          blocks = (let had = for_one (length old.part.blocks.free) blocks in let more = publishes.blocks in omega (arith, had, more));
          reached = publishes.reached;
        };
        hand = record {
          hand = ap (λ (n : NodesState). n.hand) publishes.nodes ∙ hand.hand;
          tests = ap (λ (n : NodesState). n.tests) publishes.nodes ∙ hand.tests;
          looked = publishes.looked ∙ hand.looked;
        };
      }

  -- and it is of the thunk's request
  pub may_run_for : 2 ≤ length old.part.nodes.free → attempt_blocks ≤ length old.part.blocks.free → IsEmptyHanded old → (section : Section) → answer ≡ Ok section → (number : ℕ) → thunk.request ≡ number → MayRunFor m number section new
  unfolding may_run
  may_run_for reserve blocks hand section ok number request = record { run = may_run reserve blocks hand section ok; request = request }

abbrev section_or : Section → Offer → Section
section_or d (Published s) = s
section_or d _ = d

-- the section that was published is one
pub same_section : (a b : Section) → Published a ≡ Published b → a ≡ b
same_section a b e = ap (section_or a) e
