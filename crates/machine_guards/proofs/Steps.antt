-- Guards stand after a step that is one of their events, or none.
use Rattle.std.specs.Prelude.{◌==◌, ◌&&◌, nat_lt, map, cond, Bool, true, false}
use Rattle.std.proofs.Common.{◌≡◌, ◌≢◌, ℕ, suc, ◌+◌, ◌<◌, ◌≤◌, List, [], ◌∷◌, ◌++◌, length, refl, sym, ap, ◌∙◌, arith, Option, Some, None}
use Rattle.std.proofs.lemmas.Bool.Decides.{nat_tests}
use Rattle.std.proofs.lemmas.Option.{none-some}
use Rattle.machine_states.specs.epoch_core.specs.small_lemmas.proofs.Numbers.{self_tested, other_tested}
use Rattle.machine_states.specs.table_words.specs.declared.layout.Layout.{Layout}
use Rattle.machine_states.specs.table_words.specs.declared.spot.Spot.{Spot}
use Rattle.machine_states.specs.table_words.specs.declared.spot.Spot.TheVariants.{Guard}
use Rattle.machine_states.specs.table_words.specs.Places.{descriptor_count, block_count}
use Rattle.machine_states.specs.table_words.specs.Seen.{upd}
use Rattle.agreement_core.specs.State.{AgreementState}
use Rattle.machine_states.specs.structure_laws.specs.Meaning.{Meaning}
use Rattle.machine_states.specs.runner_parts.specs.declared.entries.Published.{Published}
use Rattle.machine_states.specs.runner_parts.specs.State.{RunState, PartState}
use Rattle.machine_states.specs.runner_parts.specs.Lists.{blocks_freed, blocks_retired}
use Rattle.machine_states.specs.runner_parts.specs.Tests.{has}
use Rattle.machine_states.specs.epoch_core.specs.State.{EpochState, is_entered}
use Rattle.machine_states.specs.epoch_core.specs.Events.{slot_of}
use Rattle.machine_states.specs.epoch_core.specs.Lists.{times}
use Rattle.machine_states.specs.guard_core.specs.State as guards
use Rattle.machine_states.specs.guard_core.specs.State.{Counts, GuardState, word_of, most_linked}
use Rattle.machine_states.specs.guard_core.specs.Events.{Event, Enter, Exit, StoreGuard, ClearGuard, Validate, Publish, Begin, Link, Finish, LoadGuard, LoadLast, Enabled, with_next, after}
use Rattle.machine_states.specs.guard_core.specs.Frame.{IsSame}
use Rattle.machine_states.specs.guard_core.specs.Moves.{is_unnamed, retired, freed, swept}
use Rattle.machine_states.specs.guard_core.specs.Owners as owners
use Rattle.machine_states.specs.guard_core.specs.Schedules.{AllEnabled, after_all}
use Rattle.machine_states.specs.guard_core.specs.Sound.{IsSound}
use Rattle.machine_states.specs.guard_core.proofs.Keeping.{keeps, keeps_all}
use Rattle.machine_states.specs.guard_core.proofs.Owning.{stays_with_owner}
use Rattle.machine_states.specs.guard_core.proofs.Same.{same_sound}
use Rattle.machine_states.specs.Sight.{Sight}
use Rattle.machine_states.proofs.Updates.{upd_split, map_same, map_upd}
use Rattle.machine_agreement.specs.machine_epochs.specs.Entries.{counts_of}
use Rattle.machine_agreement.specs.machine_epochs.specs.Firsts.{owner_of}
use Rattle.machine_guards.specs.State.{guard_counts, place_of, run_of, won_of, hand_of, block_owner, block_with, block_of, guards_of}
use Rattle.machine_guards.specs.Stands.{times_held, block_times, StandsAtLink, GuardsStand}
use Rattle.machine_guards.specs.Goes.{Goes}
use Rattle.machine_guards.proofs.Views.{View, view}
use Rattle.machine_guards.proofs.Blocks.{at as place, same_place, same_times, freed_block, freed_else, freed_times, retired_block, retired_else, retired_times, linked_block, added_times, held_free}

-- one at most, and whose it is
one_most : (n : ℕ) (k : Bool) → n ≡ cond k 1 0 → n ≤ 1
one_most n true e = omega arith
one_most n false e = omega arith

all_counted : (x y n k h n' h' : ℕ) → n ≡ k + h → n' ≡ k → h' ≡ h → x + (y + (n + 0)) ≡ x + (y + (n' + h'))
all_counted x y n k h n' h' one two three = omega arith

in_hand_alone : (x y k h : ℕ) → x + (y + (k + h)) ≤ 1 → h ≡ 1 → (y ≡ 0) × (k ≡ 0)
in_hand_alone x y k h most one = (omega arith, omega arith)

in_hand_some : (x y k h : ℕ) → h ≡ 1 → 1 ≤ x + (y + (k + h))
in_hand_some x y k h one = omega arith

owned_by : (n b most owner r : ℕ) → n ≡ cond (nat_lt b most && owner == r) 1 0 → 1 ≤ n → owner ≡ r
owned_by n b most owner r e some = grind (arith, nat_tests)

module _ (m : Meaning) (l : Layout) (chain chain' : ℕ → List ℕ) (a a' : AgreementState) (e e' : EpochState) (s : Sight) (old : GuardsStand m l chain a e s) where
  abbrev pub w : GuardState
  w = guards_of m l chain a e s

  abbrev pub c : Counts
  c = guard_counts l

  -- nothing changes hands
  same_owner : (es : List Event) (v : GuardState) → AllEnabled c v es → IsSound c v → (d : ℕ)
      → owners.owner_of ((after_all v es).descriptor d) ≡ owners.owner_of (v.descriptor d)
  same_owner [] v ok sound d = refl
  same_owner (x ∷ es) v ok sound d = same_owner es (after v x) ok.1 (keeps c v x ok.0 sound) d ∙ (stays_with_owner c v x ok.0 sound).descriptor d

  -- who has a block in its hand is about to link it
  abbrev Stood : PartState → Type 0
  Stood p = (b : ℕ) (q : RunState) → p.run ≡ Some q → q.block ≡ Some b → StandsAtLink m q

  pub goes : (s' : Sight) (es : List Event) → AllEnabled c w es → IsSame (after_all w es) (guards_of m l chain' a' e' s')
      → ((i : ℕ) → s'.word (Guard i) ≡ word_of (s'.part i).guards.named)
      → ((i : ℕ) (y : Published) → (s'.part i).published ≡ Some y → owner_of l.sections l.runners y.descriptor ≡ i)
      → ((i d : ℕ) → has (s'.part i).descriptors.limbo d ≡ true → d < descriptor_count l)
      → ((i b : ℕ) → block_times (s'.part i) b ≡ block_times (s.part i) b)
      → ((i : ℕ) → Stood (s'.part i))
      → Goes m l es chain chain' a a' e e' s s'
  goes s' es ok same words publisher within counted stood = record {
    enabled = ok;
    same = same;
    stands = record {
      words = words;
      sound = same_sound c (after_all w es) (guards_of m l chain' a' e' s') same (keeps_all c w es ok old.sound);
      owned = λ d. ap owners.owner_of (same.descriptor d) ∙ (same_owner es w ok old.sound d ∙ old.owned d);
      publisher = publisher;
      within = within;
      blocks = λ r b. counted r b ∙ old.blocks r b;
      hand = λ r. stood r;
    };
  }

  -- a step by which nothing changes that guards see
  pub quiet_all : (s' : Sight) → ((d : ℕ) → chain' d ≡ chain d) → ((i : ℕ) → s'.word (Guard i) ≡ s.word (Guard i)) → ((d : ℕ) → a'.over d ≡ a.over d)
      → ((d : ℕ) → e'.location (slot_of (counts_of m l) d) ≡ e.location (slot_of (counts_of m l) d))
      → ((i : ℕ) → view (s'.part i) ≡ view (s.part i)) → ((i : ℕ) → (s'.part i).blocks ≡ (s.part i).blocks) → ((i : ℕ) → Stood (s'.part i))
      → Goes m l [] chain chain' a a' e e' s s'
  quiet_all s' linked left over stay views blocks stood = goes s' [] tt (record {
    entered = λ i. ap (λ (v : View). v.entered) (views i);
    guard = λ i. ap (λ (v : View). v.named) (views i);
    sure = λ i. ap (λ (v : View). v.sure) (views i);
    run = λ i. ap (λ (v : View). v.run) (views i);
    looked = λ i. ap (λ (v : View). v.looked) (views i);
    descriptor = λ d. ap (place_of l d) (stay d);
    block = λ b. same_place (block_owner l b) b (s.part (block_owner l b)) (s'.part (block_owner l b)) (ap (λ (v : View). v.won) (views (block_owner l b))) (blocks (block_owner l b));
    linked = linked;
    over = over;
  }) (λ i. left i ∙ (old.words i ∙ sym (ap (λ (v : View). word_of v.named) (views i))))
      (λ i y is. old.publisher i y (sym (ap (λ (v : View). v.published) (views i)) ∙ is))
      (λ i d is. old.within i d (ap (λ (v : View). has v.limbo d) (sym (views i)) ∙ is))
      (λ i b. same_times b (s.part i) (s'.part i) (ap (λ (v : View). v.won) (views i)) (ap (λ (v : View). v.hand) (views i)) (blocks i))
      stood

  -- a runner's step, which leaves these words and its part like this
  module _ (r : ℕ) (f : Spot → ℕ) (p' : PartState) where
    abbrev pub p : PartState
    p = s.part r

    abbrev pub next : Sight
    next = record { word = f; part = upd s.part r p' }

    abbrev pub To : List Event → Type 0
    To es = Goes m l es chain chain' a a' e e' s next

    kept : {B : Type 0} → (h : PartState → B) → h p' ≡ h p → (i : ℕ) → h (upd s.part r p' i) ≡ h (s.part i)
    kept {B} h same i = ap (λ (g : ℕ → B). g i) (map_same h s.part r p' same)

    set : {B : Type 0} → (h : PartState → B) (v : B) → h p' ≡ v → (i : ℕ) → h (upd s.part r p' i) ≡ upd (λ j. h (s.part j)) r v i
    set {B} h v same i = ap (λ (g : ℕ → B). g i) (map_upd h s.part r p') ∙ ap (λ (u : B). upd (λ j. h (s.part j)) r u i) same

    own_publisher : ((y : Published) → p'.published ≡ Some y → owner_of l.sections l.runners y.descriptor ≡ r)
        → (i : ℕ) (y : Published) → (upd s.part r p' i).published ≡ Some y → owner_of l.sections l.runners y.descriptor ≡ i
    own_publisher here i = upd_split s.part r p' (λ j q. (y : Published) → q.published ≡ Some y → owner_of l.sections l.runners y.descriptor ≡ j) here (λ j ne. old.publisher j) i

    own_within : ((d : ℕ) → has p'.descriptors.limbo d ≡ true → d < descriptor_count l) → (i d : ℕ) → has (upd s.part r p' i).descriptors.limbo d ≡ true → d < descriptor_count l
    own_within here i = upd_split s.part r p' (λ j q. (d : ℕ) → has q.descriptors.limbo d ≡ true → d < descriptor_count l) here (λ j ne. old.within j) i

    -- where the publication and the limbo stay
    same_publisher : p'.published ≡ p.published → (i : ℕ) (y : Published) → (upd s.part r p' i).published ≡ Some y → owner_of l.sections l.runners y.descriptor ≡ i
    same_publisher same = own_publisher (λ y is. old.publisher r y (sym same ∙ is))

    same_within : p'.descriptors.limbo ≡ p.descriptors.limbo → (i d : ℕ) → has (upd s.part r p' i).descriptors.limbo d ≡ true → d < descriptor_count l
    same_within same = own_within (λ d is. old.within r d (ap (λ (xs : List ℕ). has xs d) (sym same) ∙ is))

    -- and the guard words
    same_words : ((i : ℕ) → f (Guard i) ≡ s.word (Guard i)) → p'.guards.named ≡ p.guards.named → (i : ℕ) → f (Guard i) ≡ word_of (upd s.part r p' i).guards.named
    same_words left same i = left i ∙ (old.words i ∙ sym (ap word_of (kept (λ (y : PartState). y.guards.named) same i)))

    -- the own guard word has changed
    new_words : (o : Option ℕ) → ((i : ℕ) → f (Guard i) ≡ cond (i == r) (word_of o) (s.word (Guard i))) → p'.guards.named ≡ o → (i : ℕ) → f (Guard i) ≡ word_of (upd s.part r p' i).guards.named
    new_words o stored same i =
        stored i ∙ (ap (λ (n : ℕ). cond (i == r) (word_of o) n) (old.words i)
        ∙ sym (set (λ (y : PartState). word_of y.guards.named) (word_of o) (ap word_of same) i))

    -- no block comes into a hand, or the one in it is about to be linked
    own_hand : Stood p' → (i : ℕ) → Stood (upd s.part r p' i)
    own_hand here i = upd_split s.part r p' (λ j y. Stood y) here (λ j ne. old.hand j) i

    empty_hand : hand_of p'.run ≡ None → (i : ℕ) → Stood (upd s.part r p' i)
    empty_hand none = own_hand (λ b q at held. absurd (none-some _ (sym none ∙ (ap hand_of at ∙ held))))

    -- each block stands as often with each runner
    own_times : ((b : ℕ) → block_times p' b ≡ block_times p b) → (i b : ℕ) → block_times (upd s.part r p' i) b ≡ block_times (s.part i) b
    own_times here i b = upd_split s.part r p' (λ j y. block_times y b ≡ block_times (s.part j) b) (here b) (λ j ne. refl) i

    pub few : (b : ℕ) → block_times p b ≤ 1
    few b = one_most _ _ (old.blocks r b)

    -- and is in the place to which this leads
    own_block : (h : ℕ → guards.Location → guards.Location) → ((b : ℕ) → block_with r p' b ≡ h b (block_with r p b))
        → ((j b : ℕ) → j ≢ r → block_owner l b ≡ j → block_with j (s.part j) b ≡ h b (block_with j (s.part j) b))
        → (b : ℕ) → block_of l next b ≡ h b (w.block b)
    own_block h here else b = upd_split s.part r p' (λ j y. block_owner l b ≡ j → block_with j y b ≡ h b (block_with j (s.part j) b)) (λ is. here b) (λ j ne is. else j b ne is) (block_owner l b) refl

    module _ (blocks : p'.blocks ≡ p.blocks) (won : won_of p'.run ≡ won_of p.run) where
      same_blocks : (b : ℕ) → block_of l next b ≡ w.block b
      same_blocks b = own_block (λ i x. x) (λ i. same_place r i p p' won blocks) (λ j i ne is. refl) b

      same_counts : hand_of p'.run ≡ hand_of p.run → (i b : ℕ) → block_times (upd s.part r p' i) b ≡ block_times (s.part i) b
      same_counts hand = own_times (λ b. same_times b p p' won hand blocks)

    -- blocks under some descriptors are given back
    module _ (test : ℕ → Bool) (blocks : p'.blocks ≡ blocks_freed test p.blocks) (won : won_of p'.run ≡ won_of p.run) where
      given_blocks : (b : ℕ) → block_of l next b ≡ freed r test (w.block b)
      given_blocks b = own_block (λ i x. freed r test x)
          (λ i. same_place r i (record p { blocks = blocks_freed test p.blocks }) p' won blocks ∙ freed_block r test (won_of p.run) p.blocks.limbo i (let some = few i in omega arith))
          (λ j i ne is. freed_else r test j (won_of (s.part j).run) (s.part j).blocks.limbo i ne) b

      given_counts : hand_of p'.run ≡ hand_of p.run → (i b : ℕ) → block_times (upd s.part r p' i) b ≡ block_times (s.part i) b
      given_counts hand = own_times (λ b. same_times b (record p { blocks = blocks_freed test p.blocks }) p' won hand blocks
          ∙ freed_times r test p.blocks.free p.blocks.limbo b (times b (won_of p.run) + times_held (hand_of p.run) b))

    module _ (left : (i : ℕ) → f (Guard i) ≡ s.word (Guard i)) (linked : (d : ℕ) → chain' d ≡ chain d) (over : (d : ℕ) → a'.over d ≡ a.over d)
        (stay : (d : ℕ) → e'.location (slot_of (counts_of m l) d) ≡ e.location (slot_of (counts_of m l) d)) where
      abbrev stayed : (d : ℕ) → place_of l d (e'.location (slot_of (counts_of m l) d)) ≡ place_of l d (e.location (slot_of (counts_of m l) d))
      stayed d = ap (place_of l d) (stay d)

      -- no event, by which blocks may come into the hand, or out of it into the free list
      pub moved : view p' ≡ record (view p) { hand = hand_of p'.run } → ((b : ℕ) → block_with r p' b ≡ block_with r p b)
          → ((b : ℕ) → block_times p' b ≡ block_times p b) → Stood p' → To []
      moved is places counted stood = goes next [] tt (record {
        entered = kept (λ (y : PartState). is_entered y.stage) (ap (λ (v : View). v.entered) is);
        guard = kept (λ (y : PartState). y.guards.named) (ap (λ (v : View). v.named) is);
        sure = kept (λ (y : PartState). y.guards.sure) (ap (λ (v : View). v.sure) is);
        run = kept (λ (y : PartState). run_of y.run) (ap (λ (v : View). v.run) is);
        looked = kept (λ (y : PartState). y.guards.looked) (ap (λ (v : View). v.looked) is);
        descriptor = stayed;
        block = own_block (λ i x. x) places (λ j i ne at. refl);
        linked = linked;
        over = over;
      }) (same_words left (ap (λ (v : View). v.named) is)) (same_publisher (ap (λ (v : View). v.published) is)) (same_within (ap (λ (v : View). v.limbo) is))
          (own_times counted) (own_hand stood)

      pub quiet : p'.blocks ≡ p.blocks → hand_of p.run ≡ None → view p' ≡ view p → To []
      quiet blocks none is = moved (is ∙ ap (λ o. record (view p) { hand = o }) (sym (ap (λ (v : View). v.hand) is)))
          (λ b. same_place r b p p' (ap (λ (v : View). v.won) is) blocks)
          (λ b. same_times b p p' (ap (λ (v : View). v.won) is) (ap (λ (v : View). v.hand) is) blocks)
          (λ b q at held. absurd (none-some _ (sym none ∙ (sym (ap (λ (v : View). v.hand) is) ∙ (ap hand_of at ∙ held)))))

      pub enter : p'.blocks ≡ p.blocks → hand_of p.run ≡ None → is_entered p.stage ≡ false → view p' ≡ record (view p) { entered = true; looked = [] } → To (Enter r ∷ [])
      enter blocks none out is = goes next (Enter r ∷ []) (out, tt) (record {
        entered = set (λ (y : PartState). is_entered y.stage) true (ap (λ (v : View). v.entered) is);
        guard = kept (λ (y : PartState). y.guards.named) (ap (λ (v : View). v.named) is);
        sure = kept (λ (y : PartState). y.guards.sure) (ap (λ (v : View). v.sure) is);
        run = kept (λ (y : PartState). run_of y.run) (ap (λ (v : View). v.run) is);
        looked = set (λ (y : PartState). y.guards.looked) [] (ap (λ (v : View). v.looked) is);
        descriptor = stayed;
        block = same_blocks blocks (ap (λ (v : View). v.won) is);
        linked = linked;
        over = over;
      }) (same_words left (ap (λ (v : View). v.named) is)) (same_publisher (ap (λ (v : View). v.published) is)) (same_within (ap (λ (v : View). v.limbo) is))
          (same_counts blocks (ap (λ (v : View). v.won) is) (ap (λ (v : View). v.hand) is)) (empty_hand (ap (λ (v : View). v.hand) is ∙ none))

      pub exit : p'.blocks ≡ p.blocks → hand_of p.run ≡ None → p.guards.named ≡ None → view p' ≡ record (view p) { entered = false } → To (Exit r ∷ [])
      exit blocks none clear is = goes next (Exit r ∷ []) (clear, tt) (record {
        entered = set (λ (y : PartState). is_entered y.stage) false (ap (λ (v : View). v.entered) is);
        guard = kept (λ (y : PartState). y.guards.named) (ap (λ (v : View). v.named) is);
        sure = kept (λ (y : PartState). y.guards.sure) (ap (λ (v : View). v.sure) is);
        run = kept (λ (y : PartState). run_of y.run) (ap (λ (v : View). v.run) is);
        looked = kept (λ (y : PartState). y.guards.looked) (ap (λ (v : View). v.looked) is);
        descriptor = stayed;
        block = same_blocks blocks (ap (λ (v : View). v.won) is);
        linked = linked;
        over = over;
      }) (same_words left (ap (λ (v : View). v.named) is)) (same_publisher (ap (λ (v : View). v.published) is)) (same_within (ap (λ (v : View). v.limbo) is))
          (same_counts blocks (ap (λ (v : View). v.won) is) (ap (λ (v : View). v.hand) is)) (empty_hand (ap (λ (v : View). v.hand) is ∙ none))

      pub validate : (d : ℕ) → p'.blocks ≡ blocks_freed (λ i. i == d) p.blocks → hand_of p.run ≡ None → Enabled c w (Validate r d) → view p' ≡ record (view p) { sure = true } → To (Validate r d ∷ [])
      validate d blocks none ok is = goes next (Validate r d ∷ []) (ok, tt) (record {
        entered = kept (λ (y : PartState). is_entered y.stage) (ap (λ (v : View). v.entered) is);
        guard = kept (λ (y : PartState). y.guards.named) (ap (λ (v : View). v.named) is);
        sure = set (λ (y : PartState). y.guards.sure) true (ap (λ (v : View). v.sure) is);
        run = kept (λ (y : PartState). run_of y.run) (ap (λ (v : View). v.run) is);
        looked = kept (λ (y : PartState). y.guards.looked) (ap (λ (v : View). v.looked) is);
        descriptor = stayed;
        block = given_blocks (λ i. i == d) blocks (ap (λ (v : View). v.won) is);
        linked = linked;
        over = over;
      }) (same_words left (ap (λ (v : View). v.named) is)) (same_publisher (ap (λ (v : View). v.published) is)) (same_within (ap (λ (v : View). v.limbo) is))
          (given_counts (λ i. i == d) blocks (ap (λ (v : View). v.won) is) (ap (λ (v : View). v.hand) is)) (empty_hand (ap (λ (v : View). v.hand) is ∙ none))

      pub begin : p'.blocks ≡ p.blocks → hand_of p.run ≡ None → (d : ℕ) → Enabled c w (Begin r d) → view p' ≡ record (view p) { run = Some d } → To (Begin r d ∷ [])
      begin blocks none d ok is = goes next (Begin r d ∷ []) (ok, tt) (record {
        entered = kept (λ (y : PartState). is_entered y.stage) (ap (λ (v : View). v.entered) is);
        guard = kept (λ (y : PartState). y.guards.named) (ap (λ (v : View). v.named) is);
        sure = kept (λ (y : PartState). y.guards.sure) (ap (λ (v : View). v.sure) is);
        run = set (λ (y : PartState). run_of y.run) (Some d) (ap (λ (v : View). v.run) is);
        looked = kept (λ (y : PartState). y.guards.looked) (ap (λ (v : View). v.looked) is);
        descriptor = stayed;
        block = same_blocks blocks (ap (λ (v : View). v.won) is);
        linked = linked;
        over = over;
      }) (same_words left (ap (λ (v : View). v.named) is)) (same_publisher (ap (λ (v : View). v.published) is)) (same_within (ap (λ (v : View). v.limbo) is))
          (same_counts blocks (ap (λ (v : View). v.won) is) (ap (λ (v : View). v.hand) is)) (empty_hand (ap (λ (v : View). v.hand) is ∙ none))

      pub load_guard : p'.blocks ≡ p.blocks → hand_of p.run ≡ None → Enabled c w (LoadGuard r) → view p' ≡ record (view p) { looked = with_next w r } → To (LoadGuard r ∷ [])
      load_guard blocks none ok is = goes next (LoadGuard r ∷ []) (ok, tt) (record {
        entered = kept (λ (y : PartState). is_entered y.stage) (ap (λ (v : View). v.entered) is);
        guard = kept (λ (y : PartState). y.guards.named) (ap (λ (v : View). v.named) is);
        sure = kept (λ (y : PartState). y.guards.sure) (ap (λ (v : View). v.sure) is);
        run = kept (λ (y : PartState). run_of y.run) (ap (λ (v : View). v.run) is);
        looked = set (λ (y : PartState). y.guards.looked) (with_next w r) (ap (λ (v : View). v.looked) is);
        descriptor = stayed;
        block = same_blocks blocks (ap (λ (v : View). v.won) is);
        linked = linked;
        over = over;
      }) (same_words left (ap (λ (v : View). v.named) is)) (same_publisher (ap (λ (v : View). v.published) is)) (same_within (ap (λ (v : View). v.limbo) is))
          (same_counts blocks (ap (λ (v : View). v.won) is) (ap (λ (v : View). v.hand) is)) (empty_hand (ap (λ (v : View). v.hand) is ∙ none))

    -- the own guard word moves
    module _ (linked : (d : ℕ) → chain' d ≡ chain d) (over : (d : ℕ) → a'.over d ≡ a.over d) (stay : (d : ℕ) → e'.location (slot_of (counts_of m l) d) ≡ e.location (slot_of (counts_of m l) d)) where
      pub store_guard : p'.blocks ≡ p.blocks → hand_of p.run ≡ None → (d : ℕ) → ((i : ℕ) → f (Guard i) ≡ cond (i == r) (suc d) (s.word (Guard i))) → Enabled c w (StoreGuard r d)
          → view p' ≡ record (view p) { named = Some d; sure = false } → To (StoreGuard r d ∷ [])
      store_guard blocks none d stored ok is = goes next (StoreGuard r d ∷ []) (ok, tt) (record {
        entered = kept (λ (y : PartState). is_entered y.stage) (ap (λ (v : View). v.entered) is);
        guard = set (λ (y : PartState). y.guards.named) (Some d) (ap (λ (v : View). v.named) is);
        sure = set (λ (y : PartState). y.guards.sure) false (ap (λ (v : View). v.sure) is);
        run = kept (λ (y : PartState). run_of y.run) (ap (λ (v : View). v.run) is);
        looked = kept (λ (y : PartState). y.guards.looked) (ap (λ (v : View). v.looked) is);
        descriptor = λ i. ap (place_of l i) (stay i);
        block = same_blocks blocks (ap (λ (v : View). v.won) is);
        linked = linked;
        over = over;
      }) (new_words (Some d) stored (ap (λ (v : View). v.named) is)) (same_publisher (ap (λ (v : View). v.published) is)) (same_within (ap (λ (v : View). v.limbo) is))
          (same_counts blocks (ap (λ (v : View). v.won) is) (ap (λ (v : View). v.hand) is)) (empty_hand (ap (λ (v : View). v.hand) is ∙ none))

      pub clear_guard : p'.blocks ≡ p.blocks → hand_of p.run ≡ None → ((i : ℕ) → f (Guard i) ≡ cond (i == r) 0 (s.word (Guard i))) → Enabled c w (ClearGuard r)
          → view p' ≡ record (view p) { named = None; sure = false } → To (ClearGuard r ∷ [])
      clear_guard blocks none stored ok is = goes next (ClearGuard r ∷ []) (ok, tt) (record {
        entered = kept (λ (y : PartState). is_entered y.stage) (ap (λ (v : View). v.entered) is);
        guard = set (λ (y : PartState). y.guards.named) None (ap (λ (v : View). v.named) is);
        sure = set (λ (y : PartState). y.guards.sure) false (ap (λ (v : View). v.sure) is);
        run = kept (λ (y : PartState). run_of y.run) (ap (λ (v : View). v.run) is);
        looked = kept (λ (y : PartState). y.guards.looked) (ap (λ (v : View). v.looked) is);
        descriptor = λ i. ap (place_of l i) (stay i);
        block = same_blocks blocks (ap (λ (v : View). v.won) is);
        linked = linked;
        over = over;
      }) (new_words None stored (ap (λ (v : View). v.named) is)) (same_publisher (ap (λ (v : View). v.published) is)) (same_within (ap (λ (v : View). v.limbo) is))
          (same_counts blocks (ap (λ (v : View). v.won) is) (ap (λ (v : View). v.hand) is)) (empty_hand (ap (λ (v : View). v.hand) is ∙ none))

    module _ (left : (i : ℕ) → f (Guard i) ≡ s.word (Guard i)) where
      -- a section is published in an own free descriptor
      pub publish : (d : ℕ) (y : Published) → p'.blocks ≡ blocks_freed (λ i. i == d) p.blocks → hand_of p.run ≡ None → ((i : ℕ) → chain' i ≡ upd chain d [] i) → y.descriptor ≡ d → Enabled c w (Publish r d) → ((i : ℕ) → a'.over i ≡ upd a.over d false i)
          → ((i : ℕ) → place_of l i (e'.location (slot_of (counts_of m l) i)) ≡ upd w.descriptor d (guards.Live r) i)
          → view p' ≡ record (view p) { sure = true; published = Some y } → To (Publish r d ∷ [])
      publish d y blocks none linked of ok over moved is = goes next (Publish r d ∷ []) (ok, tt) (record {
        entered = kept (λ (y : PartState). is_entered y.stage) (ap (λ (v : View). v.entered) is);
        guard = kept (λ (y : PartState). y.guards.named) (ap (λ (v : View). v.named) is);
        sure = set (λ (y : PartState). y.guards.sure) true (ap (λ (v : View). v.sure) is);
        run = kept (λ (y : PartState). run_of y.run) (ap (λ (v : View). v.run) is);
        looked = kept (λ (y : PartState). y.guards.looked) (ap (λ (v : View). v.looked) is);
        descriptor = moved;
        block = given_blocks (λ i. i == d) blocks (ap (λ (v : View). v.won) is);
        linked = linked;
        over = over;
      }) (same_words left (ap (λ (v : View). v.named) is))
          (own_publisher (λ z at. ap (λ (q : Published). owner_of l.sections l.runners q.descriptor) (same_some z (sym (ap (λ (v : View). v.published) is) ∙ at))
          ∙ (ap (owner_of l.sections l.runners) of ∙ (sym (old.owned d) ∙ ap owners.owner_of ok.1))))
          (same_within (ap (λ (v : View). v.limbo) is))
          (given_counts (λ i. i == d) blocks (ap (λ (v : View). v.won) is) (ap (λ (v : View). v.hand) is)) (empty_hand (ap (λ (v : View). v.hand) is ∙ none))
        where
          same_some : (z : Published) → Some y ≡ Some z → z ≡ y
          same_some z at = cc

      -- a run comes to its end
      pub finish : (d : ℕ) → p'.blocks ≡ blocks_retired p.blocks (won_of p.run) d → hand_of p.run ≡ None → ((i : ℕ) → chain' i ≡ chain i) → Enabled c w (Finish r d) → ((i : ℕ) → a'.over i ≡ upd a.over d true i)
          → ((i : ℕ) → place_of l i (e'.location (slot_of (counts_of m l) i)) ≡ upd w.descriptor d (retired r d (w.descriptor d)) i)
          → ((y : Published) → p'.published ≡ Some y → p.published ≡ Some y)
          → ((i : ℕ) → has p'.descriptors.limbo i ≡ true → i < descriptor_count l)
          → is_entered p'.stage ≡ is_entered p.stage → p'.guards ≡ p.guards → p'.run ≡ None → To (Finish r d ∷ [])
      finish d blocks no_hand linked ok over moved published within entered guards none = goes next (Finish r d ∷ []) (ok, tt) (record {
        entered = kept (λ (y : PartState). is_entered y.stage) entered;
        guard = kept (λ (y : PartState). y.guards.named) (ap (λ g. g.named) guards);
        sure = kept (λ (y : PartState). y.guards.sure) (ap (λ g. g.sure) guards);
        run = set (λ (y : PartState). run_of y.run) None (ap run_of none);
        looked = kept (λ (y : PartState). y.guards.looked) (ap (λ g. g.looked) guards);
        descriptor = moved;
        block = own_block (λ i x. retired r d x)
            (λ i. same_place r i (record p { run = None; blocks = blocks_retired p.blocks (won_of p.run) d }) p' (ap won_of none) blocks ∙ retired_block r d (won_of p.run) p.blocks.limbo i (let some = few i in omega arith))
            (λ j i ne at. retired_else r d j (won_of (s.part j).run) (s.part j).blocks.limbo i ne);
        linked = linked;
        over = over;
      }) (same_words left (ap (λ g. g.named) guards)) (own_publisher (λ y at. old.publisher r y (published y at))) (own_within within)
          (own_times (λ b. same_times b (record p { run = None; blocks = blocks_retired p.blocks (won_of p.run) d }) p' (ap won_of none) (ap hand_of none) blocks
          ∙ (retired_times r d p.blocks.free p.blocks.limbo (won_of p.run) b
          ∙ ap (λ o. times b p.blocks.free + (times b (map (λ x. x.block) p.blocks.limbo) + (times b (won_of p.run) + times_held o b))) (sym no_hand))))
          (empty_hand (ap hand_of none))

      -- a sweep comes to its end
      pub load_last : (words : List ℕ) → p'.blocks ≡ blocks_freed (is_unnamed words) p.blocks → p.run ≡ None → ((i : ℕ) → chain' i ≡ chain i) → words ≡ with_next w r → Enabled c w (LoadLast r) → ((d : ℕ) → a'.over d ≡ a.over d)
          → ((i : ℕ) → place_of l i (e'.location (slot_of (counts_of m l) i)) ≡ swept r words (w.descriptor i))
          → ((i : ℕ) → has p'.descriptors.limbo i ≡ true → has p.descriptors.limbo i ≡ true)
          → is_entered p'.stage ≡ is_entered p.stage → p'.guards.named ≡ p.guards.named → p'.guards.sure ≡ p.guards.sure → p'.guards.looked ≡ []
          → p'.run ≡ p.run → p'.published ≡ p.published → To (LoadLast r ∷ [])
      load_last words blocks none linked read ok over moved less entered named sure looked run published = goes next (LoadLast r ∷ []) (ok, tt) (record {
        entered = kept (λ (y : PartState). is_entered y.stage) entered;
        guard = kept (λ (y : PartState). y.guards.named) named;
        sure = kept (λ (y : PartState). y.guards.sure) sure;
        run = kept (λ (y : PartState). run_of y.run) (ap run_of run);
        looked = set (λ (y : PartState). y.guards.looked) [] looked;
        descriptor = λ i. moved i ∙ ap (λ (ws : List ℕ). swept r ws (w.descriptor i)) read;
        block = λ b. given_blocks (is_unnamed words) blocks (ap won_of run) b ∙ ap (λ (ws : List ℕ). swept r ws (w.block b)) read;
        linked = linked;
        over = over;
      }) (same_words left named) (same_publisher published) (own_within (λ i at. old.within r i (less i at)))
          (given_counts (is_unnamed words) blocks (ap won_of run) (ap hand_of run)) (empty_hand (ap hand_of (run ∙ none)))

      -- a block is linked
      pub link : (d b : ℕ) (q : RunState) → p.run ≡ Some q → q.descriptor ≡ d → q.block ≡ Some b → p'.blocks ≡ p.blocks
          → ((i : ℕ) → chain' i ≡ upd chain d (chain d ++ b ∷ []) i) → length (chain d) < most_linked → ((i : ℕ) → a'.over i ≡ a.over i)
          → ((i : ℕ) → e'.location (slot_of (counts_of m l) i) ≡ e.location (slot_of (counts_of m l) i))
          → view p' ≡ record (view p) { won = q.won ++ b ∷ []; hand = None } → To (Link r d b ∷ [])
      link d b q runs of held blocks linked short over stay is = goes next (Link r d b ∷ []) ((ap run_of runs ∙ ap (λ (i : ℕ). Some i) of, here_free, short), tt) (record {
        entered = kept (λ (y : PartState). is_entered y.stage) (ap (λ (v : View). v.entered) is);
        guard = kept (λ (y : PartState). y.guards.named) (ap (λ (v : View). v.named) is);
        sure = kept (λ (y : PartState). y.guards.sure) (ap (λ (v : View). v.sure) is);
        run = kept (λ (y : PartState). run_of y.run) (ap (λ (v : View). v.run) is);
        looked = kept (λ (y : PartState). y.guards.looked) (ap (λ (v : View). v.looked) is);
        descriptor = λ i. ap (place_of l i) (stay i);
        block = own_block (λ i x. cond (i == b) (guards.Live r) x)
            (λ i. same_place r i (record p { run = Some (record q { won = q.won ++ b ∷ []; block = None }) }) p' (ap (λ (v : View). v.won) is) blocks ∙ (linked_block r b q.won p.blocks.limbo i
            ∙ ap (λ (xs : List ℕ). cond (i == b) (guards.Live r) (place r xs p.blocks.limbo i)) (sym won_is)))
            (λ j i ne whose. sym (ap (λ k. cond k (guards.Live r) (block_with j (s.part j) i)) (other_tested i b (λ same. ne (sym whose ∙ (ap (block_owner l) same ∙ own))))));
        linked = linked;
        over = over;
      }) (same_words left (ap (λ (v : View). v.named) is)) (same_publisher (ap (λ (v : View). v.published) is)) (same_within (ap (λ (v : View). v.limbo) is))
          (own_times (λ i. same_times i (record p { run = Some (record q { won = q.won ++ b ∷ []; block = None }) }) p' (ap (λ (v : View). v.won) is) (ap (λ (v : View). v.hand) is) blocks ∙ counted i)) (empty_hand (ap (λ (v : View). v.hand) is))
        where
          won_is : won_of p.run ≡ q.won
          won_is = ap won_of runs

          hand_is : hand_of p.run ≡ Some b
          hand_is = ap hand_of runs ∙ held

          one : times_held (hand_of p.run) b ≡ 1
          one = ap (λ o. times_held o b) hand_is ∙ ap (λ k. cond k 1 0) (self_tested b)

          own : block_owner l b ≡ r
          own = owned_by _ b (block_count l) (block_owner l b) r (old.blocks r b) (in_hand_some (times b p.blocks.free) (times b (map (λ x. x.block) p.blocks.limbo)) (times b (won_of p.run)) _ one)

          here_free : block_of l s b ≡ guards.Free r
          here_free =
              let alone = in_hand_alone (times b p.blocks.free) (times b (map (λ x. x.block) p.blocks.limbo)) (times b (won_of p.run)) _ (few b) one in
              ap (λ j. block_with j (s.part j) b) own ∙ held_free r b (won_of p.run) p.blocks.limbo alone.0 alone.1

          counted : (i : ℕ) → block_times (record p { run = Some (record q { won = q.won ++ b ∷ []; block = None }) }) i ≡ block_times p i
          counted i = all_counted (times i p.blocks.free) (times i (map (λ x. x.block) p.blocks.limbo)) (times i (q.won ++ b ∷ [])) (times i q.won) (times_held (Some b) i)
              (times i (won_of p.run)) (times_held (hand_of p.run) i) (added_times b i q.won) (ap (times i) won_is) (ap (λ o. times_held o i) hand_is)
