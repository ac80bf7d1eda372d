-- The exchange that publishes a section, and what stands before and behind it.
use Rattle.std.proofs.Common.{◌≡◌, ℕ, zero, suc, ◌+◌, ◌-◌, ◌*◌, ◌<◌, ◌≤◌, List, [], ◌∷◌, length, Bool, true, false, refl, sym, ap, subst, ◌∙◌, eq-eqb, le_of_eq, arith, Some, None, Ok, Err, replicate}
use Rattle.std.specs.Prelude.{◌==◌, ◌&&◌, ◌||◌, nat_lt, slice_index, is_none, if◌then◌else◌, not}
use Rattle.std.proofs.lemmas.List.{length-replicate}
use Rattle.machine_states.specs.epoch_core.specs.small_lemmas.proofs.Bools.{second_of as and_right}
use Rattle.machine_states.specs.epoch_core.specs.small_lemmas.proofs.Numbers.{less_tested as tests_below}
use Rattle.machine_states.specs.map_history.specs.declared.op.Request.{Request}
use Rattle.machine_states.specs.body_terms.specs.Word.{held_word}
use Rattle.machine_states.specs.body_terms.specs.declared.outcome.Refused.{Refused}
use Rattle.machine_states.specs.body_terms.specs.declared.thunk.Thunk.{Thunk}
use Rattle.machine_states.specs.table_words.specs.declared.layout.Layout.{Layout}
use Rattle.machine_states.specs.table_words.specs.declared.spot.Spot.{Spot}
use Rattle.machine_states.specs.table_words.specs.declared.spot.Spot.TheVariants as spots
use Rattle.machine_states.specs.table_words.specs.declared.access.Access.{Access}
use Rattle.machine_states.specs.table_words.specs.declared.access.Access.TheVariants.{Exchanges}
use Rattle.machine_states.specs.table_words.specs.Access.{written}
use Rattle.machine_states.specs.table_words.specs.Seen.{put}
use Rattle.machine_states.specs.table_words.specs.Limits.{IsWithinLimits}
use Rattle.machine_states.specs.table_words.specs.Places.{part_words, slot_count, descriptor_count}
use Rattle.machine_states.specs.structure_laws.specs.Meaning.{Meaning}
use Rattle.machine_states.specs.structure_laws.specs.Laws.{Laws}
use Rattle.machine_states.specs.runner_parts.specs.declared.event.EventKind.TheVariants as kinds
use Rattle.machine_states.specs.epoch_core.specs.declared.stage.Stage.TheVariants as stages
use Rattle.machine_states.specs.runner_parts.specs.State.{GuardsState, DescriptorsState, BlocksState, PartState}
use Rattle.machine_states.specs.runner_parts.specs.Tests.{has, is_walking, is_open, last_stored, is_prepared, is_between, is_some_of}
use Rattle.machine_states.specs.runner_parts.specs.Lists.{without, cell_read, descriptor_taken, published_seen}
use Rattle.machine_states.specs.runner_steps.specs.Outside.{when, is_ready, is_publishable, is_due, descriptor_spot, is_sure_of}
use Rattle.machine_states.specs.runner_steps.specs.AfterOutside.{hold_after, published_by}
use Rattle.machine_states.specs.runner_steps.specs.Asks.{asks}
use Rattle.machine_states.specs.Sight.{Sight, sight, part_or_first, Steps}
use Rattle.machine_states.specs.Sight as states
use Rattle.machine_states.proofs.Reached.{reached_all}
use Rattle.machine_states.proofs.Steps.{some_same}
use Rattle.machine_states.proofs.Sights.{happens_steps}
use Rattle.machine_epochs.proofs.SectionKinds.{stored_index, replicate_index, log_spot}
use Rattle.section_runs.specs.machine_facts.specs.machine_invariant.specs.After.{AreAllowed}
use Rattle.section_runs.specs.machine_facts.specs.After.{AreFactsOfStep}
use Rattle.section_runs.specs.machine_facts.proofs.Following.{step_facts_after}
use Rattle.section_runs.specs.commit_log.specs.next_steps.specs.Numbers.{PartFits}
use Rattle.section_runs.specs.commit_log.specs.next_steps.proofs.Numbers.{reached_numbers}
use Rattle.section_runs.specs.commit_log.specs.version_words.specs.RunnerState.{RunnerState}
use Rattle.section_runs.specs.commit_log.specs.version_words.specs.Events.{IsEnabled, Makes, IsMade}
use Rattle.section_runs.specs.commit_log.specs.version_words.specs.Stages.{IsAt}
use Rattle.section_runs.specs.commit_log.specs.version_words.proofs.Holds.{holds_so}
use Rattle.section_runs.specs.commit_log.specs.version_words.proofs.Stages.{enabled, made_at}
use Rattle.epoch_slots.proofs.Outside.{nodes_made, descriptors_made, no_fewer_blocks, guards_made, reads_made, known_made, finished_made}
use Rattle.try_lock.specs.declared.section.Section.{Section}
use Rattle.try_lock.specs.Reached.{IsReached, IsSectionOf}
use Rattle.try_lock.specs.Prepares.{MaySet, KeepsElse, IsReady}
use Rattle.try_lock.specs.Publishes.{refused_by, IsUnrun, MayPublish, IsPublished, IsRefused, Publishes}
use Rattle.try_lock.proofs.Preparing.{keeps_on}
use Rattle.try_lock.proofs.Guarding.{guard_at, guard_named, guard_keeps, guard_keeps_else}

-- an entry of a list is in it
has_at : (xs : List ℕ) (i : ℕ) → i < length xs → has xs (slice_index xs i) ≡ true
has_at [] i low = absurd (omega (arith, low))
has_at (x ∷ xs) zero low = ap (λ (b : Bool). b || has xs x) (eq-eqb x x refl)
has_at (x ∷ xs) (suc i) low = let rest = has_at xs i (omega (arith, low)) in either (x == slice_index xs i) (has xs (slice_index xs i)) rest
  where
    either : (a b : Bool) → b ≡ true → (a || b) ≡ true
    either true b e = refl
    either false b e = e

-- the last of the free ones
pub last_is_free : (free xs : List ℕ) → xs ≡ free → 1 ≤ length free → has free (slice_index xs (length xs - 1)) ≡ true
last_is_free free xs is some = subst (λ ys. has ys (slice_index xs (length xs - 1)) ≡ true) is (has_at xs (length xs - 1) (let a = ap length is in omega (arith, a, some)))

-- the words of the descriptor are those of the thunk, no done and an empty log, and the guard word names it
pub record IsGuarded {T : Type 0} (d : ℕ) (t : Thunk) (old new : RunnerState T) : Type 0 where
  pub at : (epoch : ℕ) → IsAt old (stages.Entered epoch) None → IsAt new (stages.Entered epoch) None
  pub keeps : KeepsElse old new
  pub prepared : is_prepared new.part.descriptors.stored d t ≡ true
  pub named : new.part.guards.named ≡ Some d

pub guarded : {T : Type 0} (m : Meaning) (d : ℕ) (t : Thunk) (r b g : RunnerState T) (epoch : ℕ) → IsAt r (stages.Entered epoch) None → IsReady m d t r b → IsMade m (kinds.Guard (Some d)) b g → IsGuarded d t r g
guarded m d t r b g epoch at ready guard =
    let was = ready.at epoch at in
    record {
      at = λ e is. guard_at m (Some d) guard.found b g guard.event e (ready.at e is);
      keeps = keeps_on r b g ready.keeps (guard_keeps_else m (Some d) guard.found b g guard.event was.resting);
      prepared = ap (λ (x : DescriptorsState). is_prepared x.stored d t) (guard_keeps m (Some d) guard.found b g guard.event was.resting).descriptors ∙ ready.prepared;
      named = guard_named m (Some d) guard.found b g guard.event was.resting;
    }

module _ {T : Type 0} (m : Meaning) where
  -- the part of a runner in a state that the machine reaches
  fits : Laws m → (r : RunnerState T) → IsWithinLimits r.layout → AreAllowed r.requests → IsReached m r → PartFits m r.layout r.part
  fits laws r limits allowed is =
      subst (λ (p : PartState). PartFits m r.layout p) (ap part_or_first is.own) ((reached_numbers m laws r.layout limits r.requests allowed is.world is.reached).parts r.number)

  -- the last free descriptor may be written
  pub may_prepare : Laws m → (r : RunnerState T) (t : Thunk) → IsWithinLimits r.layout → AreAllowed r.requests → MayPublish m r t → (d : ℕ) → has r.part.descriptors.free d ≡ true → MaySet r d
  may_prepare laws r t limits allowed may d free = record { epoch = may.epoch; at = may.at; free = record { own = free; few = (fits laws r limits allowed may.reached).free d free } }

  module _ (r b : RunnerState T) (t : Thunk) (d : ℕ) (may : MayPublish m r t) (ready : IsGuarded d t r b) where
    abbrev keeps : KeepsElse r b
    keeps = ready.keeps

    at_ready : IsAt b (stages.Entered may.epoch) None
    at_ready = ready.at may.epoch may.at

    -- the exchange may be made
    pub may_hold : Laws m → IsWithinLimits r.layout → AreAllowed r.requests → has r.part.descriptors.free d ≡ true → length t.operands ≡ 8 → IsEnabled m (kinds.Hold t d) b
    may_hold laws limits allowed free eight =
        let part = fits laws r limits allowed may.reached in
        let few : nat_lt d (descriptor_count r.layout) ≡ true = tests_below d (descriptor_count r.layout) (part.free d free) in
        let prepared : is_ready b.layout b.part d t ≡ true =
        (λ i. nat_lt d (descriptor_count (keeps.layout i)) && (has (keeps.free i) d && (is_some_of (ready.named i) d && (length t.operands == 8 && ready.prepared i))))
        ∙ (λ i. few i && (free i && (eq-eqb d d refl i && (eq-eqb (length t.operands) 8 eight i && true)))) in
        let unlocked : is_open b.layout b.part.reads.cells t ≡ true = (λ i. is_open (keeps.layout i) ((keeps.reads i).cells) t) ∙ may.unlocked in
        let due : is_due m b.layout b.requests b.number b.part.records.known b.part.reads.walk t ≡ true =
        (λ i. is_due m (keeps.layout i) (keeps.requests i) (keeps.number i) (keeps.known i) ((keeps.reads i).walk) t) ∙ may.due in
        let publishable : is_publishable m b.layout b.requests b.number t b.part ≡ true =
        (λ i. is_walking (at_ready.at i) (at_ready.resting i) && (is_none (at_ready.published i) && (not (at_ready.settled i) && (unlocked i && due i)))) in
        let place : t.lock < m.fixed_cells + 5 * slot_count b.layout m.fixed_slots = subst (λ l. t.lock < m.fixed_cells + 5 * slot_count l m.fixed_slots) (sym keeps.layout)
        (part.read t.lock t.word (and_right _ _ (and_right _ _ may.unlocked))) in
        enabled m b (kinds.Hold t d) (spots.Cell t.lock, Exchanges t.word (held_word d t.word)) at_ready.present at_ready.resting
        (ap (λ (c : Bool). when c (spots.Cell t.lock) (Exchanges t.word (held_word d t.word))) (λ i. prepared i && publishable i)) place

-- the part after an exchange that won, and after one that lost
abbrev part_won : Thunk → ℕ → PartState → ℕ → PartState
part_won t d p found = record p {
  published = Some (published_by t d p);
  descriptors = descriptor_taken p.descriptors d;
  guards = published_seen p.guards d;
  reads = cell_read p.reads t.lock found;
}

abbrev part_lost : Thunk → PartState → ℕ → PartState
part_lost t p found = record p { reads = cell_read p.reads t.lock found }

module _ {T : Type 0} (m : Meaning) (t : Thunk) (d found : ℕ) (r b r' : RunnerState T) (keeps : KeepsElse r b)
    (stays : (epoch : ℕ) → IsAt r (stages.Entered epoch) None → IsAt b (stages.Entered epoch) None) (named : b.part.guards.named ≡ Some d) (entry : ℕ) (was : IsAt r (stages.Entered entry) None) (made : Makes m (kinds.Hold t d) found b r') where
  at : IsAt b (stages.Entered entry) None
  at = stays entry was

  -- whichever way it went
  by_test : {A : Type 0} (f : PartState → A) (a : A) → f (part_won t d b.part found) ≡ a → f (part_lost t b.part found) ≡ a → f (hold_after t d b.part found) ≡ a
  by_test {A} f a one two = by (found == t.word)
    where
      by : (c : Bool) → f (if c then part_won t d b.part found else part_lost t b.part found) ≡ a
      by true = one
      by false = two

  pub number_held : r'.number ≡ r.number
  number_held = ap (λ (y : RunnerState T). y.number) made.made ∙ keeps.number

  pub nodes_held : r'.part.nodes ≡ r.part.nodes
  nodes_held = nodes_made m (kinds.Hold t d) found b r' made at.resting ∙ (by_test (λ p. p.nodes) b.part.nodes refl refl ∙ keeps.nodes)

  pub limbo_held : r'.part.descriptors.limbo ≡ r.part.descriptors.limbo
  limbo_held = ap (λ x. x.limbo) (descriptors_made m (kinds.Hold t d) found b r' made at.resting) ∙ (by_test (λ p. p.descriptors.limbo) b.part.descriptors.limbo refl refl ∙ keeps.limbo)

  pub blocks_held : length r.part.blocks.free ≤ length r'.part.blocks.free
  blocks_held = let same = ap (λ (b : BlocksState). length b.free) keeps.blocks in let more = no_fewer_blocks m (kinds.Hold t d) found b r' made at.resting in omega (arith, same, more)

  pub looked_held : r'.part.guards.looked ≡ r.part.guards.looked
  looked_held = ap (λ x. x.looked) (guards_made m (kinds.Hold t d) found b r' made at.resting) ∙ (by_test (λ p. p.guards.looked) b.part.guards.looked refl refl ∙ keeps.looked)

  pub cells_held : r'.part.reads.cells ≡ (cell_read r.part.reads t.lock found).cells
  cells_held = ap (λ x. x.cells) (reads_made m (kinds.Hold t d) found b r' made at.resting)
      ∙ (by_test (λ p. p.reads.cells) (cell_read b.part.reads t.lock found).cells refl refl ∙ ap (λ s. (cell_read s t.lock found).cells) keeps.reads)

  pub known_held : r'.part.records.known ≡ r.part.records.known
  known_held = known_made m (kinds.Hold t d) found b r' made at.resting ∙ (by_test (λ p. p.records.known) b.part.records.known refl refl ∙ keeps.known)

  pub finished_held : r'.part.records.finished ≡ r.part.records.finished
  finished_held = finished_made m (kinds.Hold t d) found b r' made at.resting ∙ (by_test (λ p. p.records.finished) b.part.records.finished refl refl ∙ keeps.finished)

  abbrev pub reached_held : IsReached m r'
  reached_held = record { world = made.shown.world; reached = made.shown.reached; own = made.shown.own }

  -- where it won
  module _ (won : found ≡ t.word) where
    part_is : hold_after t d b.part found ≡ part_won t d b.part found
    part_is = ap (λ (c : Bool). if c then part_won t d b.part found else part_lost t b.part found) (eq-eqb found t.word won)

    same_publication : published_by t d b.part ≡ published_by t d r.part
    same_publication = (λ i. record { descriptor = d; thunk = t; walked = length (keeps.reads i).walk; known = length (keeps.known i) })

    pub at_won : (epoch : ℕ) → IsAt r (stages.Entered epoch) None → IsAt r' (stages.Entered epoch) (Some (published_by t d r.part))
    at_won epoch entered = let is = stays epoch entered in
        made_at m (kinds.Hold t d) found b r' made is.resting (stages.Entered epoch) (Some (published_by t d r.part)) is.seated
        (ap (λ p. p.gone) part_is ∙ is.present) (ap (λ p. p.run) part_is ∙ is.resting) (ap (λ p. p.stage) part_is ∙ is.at) (ap (λ p. p.published) part_is ∙ ap Some same_publication) (ap (λ p. is_between p.reads.look) part_is ∙ is.settled)

    pub free_won : r'.part.descriptors.free ≡ without r.part.descriptors.free d
    free_won = ap (λ x. x.free) (descriptors_made m (kinds.Hold t d) found b r' made at.resting) ∙ (ap (λ p. p.descriptors.free) part_is ∙ ap (λ xs. without xs d) keeps.free)

    pub reads_won : r'.part.reads ≡ cell_read r.part.reads t.lock found
    reads_won = reads_made m (kinds.Hold t d) found b r' made at.resting ∙ (ap (λ p. p.reads) part_is ∙ ap (λ s. cell_read s t.lock found) keeps.reads)

    sure_won : is_sure_of r'.part.guards d ≡ true
    sure_won = ap (λ (g : GuardsState). is_sure_of g d) (guards_made m (kinds.Hold t d) found b r' made at.resting ∙ ap (λ p. p.guards) part_is)
        ∙ ((λ i. (b.part.guards.sure || is_some_of (named i) d) && is_some_of (named i) d) ∙ (λ i. (b.part.guards.sure || eq-eqb d d refl i) && eq-eqb d d refl i) ∙ seen b.part.guards.sure)
      where
        seen : (s : Bool) → ((s || true) && true) ≡ true
        seen true = refl
        seen false = refl

    pub section_won : (s : Section) → s ≡ record { descriptor = d; place = t.lock; held = held_word d t.word } → IsSectionOf r' t s
    section_won s is = subst (λ (x : Section). IsSectionOf r' t x) (sym is) (record {
      published = published_by t d r.part;
      own = (at_won entry was).published;
      descriptor = refl;
      thunk = refl;
      place = refl;
      held = refl;
      sure = sure_won;
    })

    pub published_won : (s : Section) → s ≡ record { descriptor = d; place = t.lock; held = held_word d t.word } → IsPublished t d found r r' s
    published_won s is = record {
      won = won;
      own = ap (λ (x : Section). x.descriptor) is;
      section = section_won s is;
      published = (at_won entry was).published;
      at = at_won;
      free = free_won;
      reads = reads_won;
    }

  -- where it lost
  module _ (lost : found == t.word ≡ false) where
    part_still : hold_after t d b.part found ≡ part_lost t b.part found
    part_still = ap (λ (c : Bool). if c then part_won t d b.part found else part_lost t b.part found) lost

    pub at_lost : (epoch : ℕ) → IsAt r (stages.Entered epoch) None → IsAt r' (stages.Entered epoch) None
    at_lost epoch entered = let is = stays epoch entered in
        made_at m (kinds.Hold t d) found b r' made is.resting (stages.Entered epoch) None is.seated
        (ap (λ p. p.gone) part_still ∙ is.present) (ap (λ p. p.run) part_still ∙ is.resting) (ap (λ p. p.stage) part_still ∙ is.at) (ap (λ p. p.published) part_still ∙ is.published) (ap (λ p. is_between p.reads.look) part_still ∙ is.settled)

    pub free_lost : r'.part.descriptors.free ≡ r.part.descriptors.free
    free_lost = ap (λ x. x.free) (descriptors_made m (kinds.Hold t d) found b r' made at.resting) ∙ (ap (λ p. p.descriptors.free) part_still ∙ keeps.free)

    pub reads_lost : r'.part.reads ≡ cell_read r.part.reads t.lock found
    reads_lost = reads_made m (kinds.Hold t d) found b r' made at.resting ∙ (ap (λ p. p.reads) part_still ∙ ap (λ s. cell_read s t.lock found) keeps.reads)

    guarded_lost : r'.part.guards.named ≡ Some d
    guarded_lost = ap (λ (g : GuardsState). g.named) (guards_made m (kinds.Hold t d) found b r' made at.resting ∙ ap (λ p. p.guards) part_still) ∙ named

    pub refused_lost : (e : Refused) → e ≡ refused_by r.layout.version_max t.word found → IsRefused t d found r r' e
    refused_lost e is = record { lost = lost; why = is; at = at_lost; free = free_lost; guarded = guarded_lost; reads = reads_lost }

-- the words of the descriptor, once the section is published
module _ {T : Type 0} (m : Meaning) (laws : Laws m) (t : Thunk) (d found : ℕ) (r b r' : RunnerState T) (keeps : KeepsElse r b) (made : Makes m (kinds.Hold t d) found b r')
    (limits : IsWithinLimits r.layout) (allowed : AreAllowed r.requests) (free : has r.part.descriptors.free d ≡ true) (prepared : is_prepared b.part.descriptors.stored d t ≡ true)
    (published : r'.part.published ≡ Some (published_by t d r.part)) where
  abbrev l : Layout
  l = r'.layout

  abbrev rs : List Request
  rs = r'.requests

  limits' : IsWithinLimits l
  limits' = subst IsWithinLimits (sym (ap (λ (y : RunnerState T). y.layout) made.made ∙ keeps.layout)) limits

  allowed' : AreAllowed rs
  allowed' = subst AreAllowed (sym (ap (λ (y : RunnerState T). y.requests) made.made ∙ keeps.requests)) allowed

  facts : AreFactsOfStep m l rs made.shown.before (record { runner = r'.number; kind = kinds.Hold t d }) made.shown.world
  facts = step_facts_after m laws l rs made.shown.was_reached.events made.shown.before limits' allowed' made.shown.was_reached.after (record { runner = r'.number; kind = kinds.Hold t d }) made.shown.world made.shown.happened

  here : (sight m l rs made.shown.world).part r'.number ≡ r'.part
  here = ap part_or_first made.shown.own

  before : (sight m l rs made.shown.before).part r'.number ≡ b.part
  before = ap part_or_first made.shown.was_own

  complete : states.IsWhole m l rs made.shown.before
  complete = let all = reached_all m l rs made.shown.before made.shown.was_reached in record { words = le_of_eq (sym all.words); parts = all.parts }

  abbrev word : Spot → ℕ
  word = (sight m l rs made.shown.before).word

  step : Steps m l rs (sight m l rs made.shown.before) (sight m l rs made.shown.world) r'.number (kinds.Hold t d)
  step = (happens_steps m l rs made.shown.before made.shown.world (record { runner = r'.number; kind = kinds.Hold t d }) complete made.shown.happened).0

  lock_spot : step.ask.0 ≡ spots.Cell t.lock
  lock_spot =
      let same = some_same step.ask made.met (sym step.asked ∙ (ap (asks m l rs r'.number (kinds.Hold t d)) before
      ∙ ((λ i. asks m (made.made i).layout (made.made i).requests (made.made i).number (kinds.Hold t d) b.part) ∙ made.asked))) in
      ap (λ (x : Spot × Access). x.0) (same ∙ (holds_so m b t d (record { met = made.met; asked = made.asked })).met)

  same_word : (spot : Spot) → (sight m l rs made.shown.world).word spot ≡ put word (spots.Cell t.lock) (written step.ask.1 (word step.ask.0)) spot
  same_word spot = ap (λ (s : Sight). s.word spot) step.next ∙ ap (λ (x : Spot). put word x (written step.ask.1 (word step.ask.0)) spot) lock_spot

  zero_before : (i : ℕ) → i < part_words + 2 → word (descriptor_spot d (12 + i)) ≡ 0
  zero_before i low = facts.there.stored r'.number d (12 + i) 0
      (ap (λ (p : PartState). has p.descriptors.free d) before ∙ (ap (λ xs. has xs d) keeps.free ∙ free))
      (ap (λ (p : PartState). last_stored p.descriptors.stored d (12 + i) None) before
      ∙ (stored_index b.part.descriptors.stored d (replicate (part_words + 2) 0) 12 i (let h = length-replicate {A = ℕ} (part_words + 2) 0 in omega (arith, h, low)) (and_right _ _ prepared)
      ∙ ap Some (replicate_index (part_words + 2) 0 i low)))

  pub unrun : IsUnrun d t (sight m l rs made.shown.world)
  unrun = record {
    thunk = facts.here.sound.sections.in_published.thunk r'.number (published_by t d r.part) (ap (λ (p : PartState). p.published) here ∙ published);
    undone = same_word (spots.DoneWord d) ∙ zero_before 0 (omega arith);
    empty = λ k low. same_word (spots.LogWord d k) ∙ (ap word (sym (log_spot d k low)) ∙ (ap (λ n. word (descriptor_spot d n)) (let e : 13 + k ≡ 12 + (1 + k) = omega arith in e) ∙ zero_before (1 + k) (omega (arith, low))));
    unlinked = same_word (spots.LinkWord d) ∙ zero_before (1 + part_words) (omega arith);
  }

-- the whole publication
module _ {T : Type 0} (m : Meaning) (laws : Laws m) (r b g r' : RunnerState T) (t : Thunk) (d found : ℕ) (limits : IsWithinLimits r.layout) (allowed : AreAllowed r.requests) (may : MayPublish m r t)
    (free : has r.part.descriptors.free d ≡ true) (ready : IsReady m d t r b) (guard : IsMade m (kinds.Guard (Some d)) b g) (made : Makes m (kinds.Hold t d) found g r') where
  whole : IsGuarded d t r g
  whole = guarded m d t r b g may.epoch may.at ready guard

  pub publishes_won : found ≡ t.word → (s : Section) → s ≡ record { descriptor = d; place = t.lock; held = held_word d t.word } → Publishes m t (Ok s) r r'
  publishes_won won s is =
      let done = published_won m t d found r g r' whole.keeps whole.at whole.named may.epoch may.at made won s is in
      record {
        descriptor = d;
        found = found;
        ready = b;
        guarding = g;
        was_free = free;
        sets = ready.sets;
        guard = guard;
        hold = made;
        published = done;
        refused = tt;
        read = cells_held m t d found r g r' whole.keeps whole.at whole.named may.epoch may.at made;
        number = number_held m t d found r g r' whole.keeps whole.at whole.named may.epoch may.at made;
        nodes = nodes_held m t d found r g r' whole.keeps whole.at whole.named may.epoch may.at made;
        limbo = limbo_held m t d found r g r' whole.keeps whole.at whole.named may.epoch may.at made;
        blocks = blocks_held m t d found r g r' whole.keeps whole.at whole.named may.epoch may.at made;
        looked = looked_held m t d found r g r' whole.keeps whole.at whole.named may.epoch may.at made;
        known = known_held m t d found r g r' whole.keeps whole.at whole.named may.epoch may.at made;
        finished = finished_held m t d found r g r' whole.keeps whole.at whole.named may.epoch may.at made;
        reached = reached_held m t d found r g r' whole.keeps whole.at whole.named may.epoch may.at made;
        stands = subst (λ n. IsUnrun n t (sight m r'.layout r'.requests made.shown.world)) (sym done.own)
            (unrun m laws t d found r g r' whole.keeps made limits allowed free whole.prepared done.published);
      }

  pub publishes_lost : found == t.word ≡ false → (e : Refused) → e ≡ refused_by r.layout.version_max t.word found → Publishes m t (Err e) r r'
  publishes_lost lost e is = record {
    descriptor = d;
    found = found;
    ready = b;
    guarding = g;
    was_free = free;
    sets = ready.sets;
    guard = guard;
    hold = made;
    published = tt;
    refused = refused_lost m t d found r g r' whole.keeps whole.at whole.named may.epoch may.at made lost e is;
    read = cells_held m t d found r g r' whole.keeps whole.at whole.named may.epoch may.at made;
    number = number_held m t d found r g r' whole.keeps whole.at whole.named may.epoch may.at made;
    nodes = nodes_held m t d found r g r' whole.keeps whole.at whole.named may.epoch may.at made;
    limbo = limbo_held m t d found r g r' whole.keeps whole.at whole.named may.epoch may.at made;
    blocks = blocks_held m t d found r g r' whole.keeps whole.at whole.named may.epoch may.at made;
    looked = looked_held m t d found r g r' whole.keeps whole.at whole.named may.epoch may.at made;
    known = known_held m t d found r g r' whole.keeps whole.at whole.named may.epoch may.at made;
    finished = finished_held m t d found r g r' whole.keeps whole.at whole.named may.epoch may.at made;
    reached = reached_held m t d found r g r' whole.keeps whole.at whole.named may.epoch may.at made;
    stands = tt;
  }
