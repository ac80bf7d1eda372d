-- The exchange that publishes a section.
use Rattle.std.proofs.Common.{Option, None, ◌≡◌, ℕ, ◌+◌, ◌-◌, ◌*◌, ◌^◌, ◌<◌, ◌≤◌, List, length, Bool, true, false, refl, sym, ap, subst, ◌∙◌, arith, Some, if◌then◌else◌}
use Rattle.std.specs.Prelude.{◌%◌, ◌==◌, ◌&&◌, not, nat_lt, is_none}
use Rattle.std.proofs.lemmas.Bool.Decides.{nat_tests}
use Rattle.atomic_table.specs.Table.{Me}
use Rattle.atomic_table.specs.Seated.{TableId}
use Rattle.machine_states.specs.map_history.specs.declared.op.Request.{Request}
use Rattle.machine_states.specs.body_terms.specs.declared.thunk.Thunk.{Thunk}
use Rattle.machine_states.specs.body_terms.specs.Word.{value_of, version_of, held_word, is_free, is_spent}
use Rattle.machine_states.specs.table_words.specs.declared.layout.Layout.{Layout}
use Rattle.machine_states.specs.table_words.specs.declared.spot.Spot.{Spot}
use Rattle.machine_states.specs.table_words.specs.declared.spot.Spot.TheVariants as spots
use Rattle.machine_states.specs.table_words.specs.declared.access.Access.{Access}
use Rattle.machine_states.specs.table_words.specs.declared.access.Access.TheVariants.{Exchanges}
use Rattle.machine_states.specs.table_words.specs.Limits.{IsWithinLimits}
use Rattle.machine_states.specs.table_words.specs.Places.{descriptor_count}
use Rattle.machine_states.specs.structure_laws.specs.Meaning.{Meaning}
use Rattle.machine_states.specs.runner_parts.specs.declared.event.EventKind.{EventKind}
use Rattle.machine_states.specs.runner_parts.specs.declared.event.EventKind.TheVariants as kinds
use Rattle.machine_states.specs.runner_parts.specs.State.{PartState}
use Rattle.machine_states.specs.runner_parts.specs.Tests.{has, is_walking, is_open, is_prepared, has_pair, is_between, is_some_of}
use Rattle.machine_states.specs.epoch_core.specs.Lists.{times}
use Rattle.machine_states.specs.runner_steps.specs.Outside.{hold_ask, is_ready, is_publishable, is_due}
use Rattle.machine_states.specs.runner_steps.specs.AfterOutside.{hold_after}
use Rattle.machine_states.specs.runner_steps.specs.After.{after}
use Rattle.version_words.specs.declared.view.View.{View}
use Rattle.runner_block.specs.declared.block.Block.{Block}
use Rattle.runner_block.specs.Kept.{KeptState, held_in, with_part, with_blocks, given_back_if}
use Rattle.version_words.specs.RunnerState.{RunnerState, told_part, told_published}
use Rattle.machine_states.specs.runner_parts.specs.declared.entries.Published.{Published}
use Rattle.version_words.specs.TableState.{TableState}
use Rattle.version_words.specs.Naming.{hold_of}
use Rattle.version_words.specs.Kept.{KeepsBlocks, IsKept}
use Rattle.version_words.proofs.BlocksKept.{blocks_to}
use Rattle.version_words.specs.Events.{met_by, IsEnabled, IsNamed, Makes, step_at, announcing, seen_seat}
use Rattle.version_words.proofs.Asked.{outer, tested}
use Rattle.version_words.proofs.Bounds.{descriptor_once}
use Rattle.version_words.proofs.Inside.{both_true, few_descriptors}
use Rattle.version_words.proofs.BlockSteps.{part_won, part_lost, held}
use Rattle.version_words.proofs.Keeps.{part_is, resting, outer_kept}

-- what an enabled exchange that publishes asks
pub record IsHold (l : Layout) (t : Thunk) (d : ℕ) (p : PartState) (x : Spot × Access) : Type 0 where
  pub met : x ≡ (spots.Cell t.lock, Exchanges t.word (held_word d t.word))
  pub few : d < descriptor_count l
  pub own : has p.descriptors.free d ≡ true
  pub unpublished : is_none p.published ≡ true
  pub low : version_of t.word + 2 ≤ l.version_max

unspent : (max version : ℕ) (b : Bool) → b ≡ true → not (b && nat_lt max (version + 2)) ≡ true → version + 2 ≤ max
unspent max version true e h = grind (arith, nat_tests, h)
unspent max version false e h = absurd (let no : ⊥ = cc in no)

hold_asked : (m : Meaning) (l : Layout) (rs : List Request) (r : ℕ) (t : Thunk) (d : ℕ) (p : PartState) (x : Spot × Access) → hold_ask m l rs r t d p ≡ Some x → IsHold l t d p x
hold_asked m l rs r t d p x e =
    let c = tested (is_ready l p d t && is_publishable m l rs r t p) (spots.Cell t.lock) (Exchanges t.word (held_word d t.word)) x e in
    let both = both_true (is_ready l p d t) (is_publishable m l rs r t p) c.0 in
    let prepared = is_some_of p.guards.named d && (length t.operands == 8 && is_prepared p.descriptors.stored d t) in
    let ready = both_true (nat_lt d (descriptor_count l)) (has p.descriptors.free d && prepared) both.0 in
    let free = both_true (has p.descriptors.free d) prepared ready.1 in
    let walking = both_true (is_walking p.stage p.run) (is_none p.published && (not (is_between p.reads.look) && (is_open l p.reads.cells t && is_due m l rs r p.records.known p.reads.walk t))) both.1 in
    let none = both_true (is_none p.published) (not (is_between p.reads.look) && (is_open l p.reads.cells t && is_due m l rs r p.records.known p.reads.walk t)) walking.1 in
    let settled = both_true (not (is_between p.reads.look)) (is_open l p.reads.cells t && is_due m l rs r p.records.known p.reads.walk t) none.1 in
    let unheld = both_true (is_open l p.reads.cells t) (is_due m l rs r p.records.known p.reads.walk t) settled.1 in
    let unlocked = both_true (is_free t.word) (not (is_spent l.version_max t.word) && has_pair p.reads.cells t.lock t.word) unheld.0 in
    let unworn = both_true (not (is_spent l.version_max t.word)) (has_pair p.reads.cells t.lock t.word) unlocked.1 in
    let below = ready.0 in
    record {
      met = sym c.1;
      few = grind (arith, nat_tests, below);
      own = free.0;
      unpublished = none.0;
      low = unspent l.version_max (version_of t.word) (is_free t.word) unlocked.0 unworn.0;
    }

pub holds_so : {T : Type 0} (m : Meaning) (r : RunnerState T) (t : Thunk) (d : ℕ) (enabled : IsEnabled m (kinds.Hold t d) r) → IsHold r.layout t d r.part enabled.met
holds_so m r t d enabled = hold_asked m r.layout r.requests r.number t d r.part enabled.met (outer m r.layout r.requests r.number (kinds.Hold t d) r.part enabled.met refl enabled.asked).1

-- the held word can be made
pub record CanPublish (d word : ℕ) : Type 0 where
  pub few : d < 2 ^ 32 - 1
  pub low : version_of word < 2 ^ 32 - 1

pub can_publish : {T : Type 0} (m : Meaning) (r : RunnerState T) (t : Thunk) (d : ℕ) → IsWithinLimits r.layout → IsEnabled m (kinds.Hold t d) r → CanPublish d t.word
can_publish m r t d limits enabled =
    let h = holds_so m r t d enabled in let a = few_descriptors r.layout limits in let b = limits.few_versions in let few = h.few in let low = h.low in
    record { few = omega (arith, a, few); low = omega (arith, b, low) }

named_descriptor : (d version : ℕ) → d < 2 ^ 32 - 1 → (2 ^ 32 * (version + 1) + (d + 1)) % 2 ^ 32 - 1 ≡ d
named_descriptor d version few = grind arith

-- the step's name is that of the event
hold_name : (t : Thunk) (d held : ℕ) → d < 2 ^ 32 - 1 → held ≡ held_word d t.word → hold_of (announcing t) (value_of held - 1) ≡ kinds.Hold t d
hold_name t d held few is = ap (λ n. kinds.Hold t (value_of n - 1)) is ∙ ap (kinds.Hold t) (named_descriptor d (version_of t.word) few)

pub hold_event : {T : Type 0} (m : Meaning) (t : Thunk) (d held found : ℕ) (r r' : RunnerState T) → d < 2 ^ 32 - 1 → held ≡ held_word d t.word → Makes m (hold_of (announcing t) (value_of held - 1)) found r r' → Makes m (kinds.Hold t d) found r r'
hold_event m t d held found r r' few is made = subst (λ (k : EventKind). Makes m k found r r') (hold_name t d held few is) made

pub hold_named : {T : Type 0} (m : Meaning) (s : TableState T) (r : RunnerState T) (t : Thunk) (d free held : ℕ) → d < 2 ^ 32 - 1 → free ≡ t.word → held ≡ held_word d t.word → IsEnabled m (kinds.Hold t d) r
    → IsNamed m (λ m' l' rs' p' made. hold_of made.said (value_of made.second - 1)) r (step_at m s (spots.Cell t.lock) free held (announcing t)) (spots.Cell t.lock, Exchanges free held)
hold_named m s r t d free held few same is enabled = record {
  asked = ap (met_by m r) (hold_name t d held few is) ∙ (enabled.asked ∙ ap Some ((holds_so m r t d enabled).met ∙ (λ i. (spots.Cell t.lock, Exchanges (sym same i) (sym is i)))));
  plain = ap (Rattle.version_words.specs.Naming.is_plain r.layout r.part) (hold_name t d held few is);
}

hold_won : (t : Thunk) (d found : ℕ) (p : PartState) → found == t.word ≡ true → hold_after t d p found ≡ part_won t d found p
hold_won t d found p e = ap (λ (b : Bool). if b then part_won t d found p else part_lost t found p) e

hold_lost : (t : Thunk) (d found : ℕ) (p : PartState) → found == t.word ≡ false → hold_after t d p found ≡ part_lost t found p
hold_lost t d found p e = ap (λ (b : Bool). if b then part_won t d found p else part_lost t found p) e

-- what the code keeps after the exchange
module _ {T : Type 0} (mean : T → Meaning) (s : T) (t : Thunk) (d found number : ℕ) (kept : Block) (old_table new_table : TableId) (me me' : Me Thunk (View T)) (live : me.0.structure ≡ Some s)
    (made : Makes (mean s) (kinds.Hold t d) found (seen_seat old_table me) (seen_seat new_table me')) (slots : me'.1 ≡ me.1) (was : IsKept mean number kept me) where
  told_held : (b : Bool) → found == t.word ≡ b → held_in (told_part me.0.part) d b ≡ told_part (hold_after t d me.0.part found)
  told_held true e = sym (ap told_part (hold_won t d found me.0.part e))
  told_held false e = sym (ap told_part (hold_lost t d found me.0.part e))

  -- the descriptor stands in the free list once
  pub once_here : times d kept.lists.part.descriptors.free ≤ 1
  once_here =
      let few = (holds_so (mean s) (seen_seat old_table me) t d (record { met = made.met; asked = made.asked })).few in
      subst (λ (p : PartState). times d p.descriptors.free ≤ 1) (sym was.lists)
      (descriptor_once (mean s) me'.0.layout me'.0.requests me'.0.number (kinds.Hold t d) me.0.part me'.0.part made.met found made.shown d
      (subst (λ (l : Layout). d < descriptor_count l) (sym (ap (λ (r : RunnerState T). r.layout) made.made)) few))

  pub hold_kept : (b : Bool) (lists : KeptState) → b ≡ found == t.word → lists ≡ with_blocks (with_part kept.lists (held_in kept.lists.part d b)) (given_back_if b d kept.lists.blocks) → IsKept mean number (record kept { lists = lists }) me'
  hold_kept b lists won is = outer_kept mean s (kinds.Hold t d) found number kept old_table new_table me me' live made slots was refl lists (ap (λ l. l.room) is)
      (ap (λ l. l.part) is ∙ (ap (λ p. held_in p d b) was.lists ∙ told_held b (sym won))) (ap (λ l. l.marks) is ∙ was.marks)
      (blocks_to (sym (ap (λ l. l.blocks) is)) (sym (ap (λ l. l.named) is)) (subst (KeepsBlocks (with_blocks kept.lists (given_back_if b d kept.lists.blocks))) (sym (part_is mean s (kinds.Hold t d) found number kept old_table new_table me me' live made slots was))
      (subst (λ (w : Bool). KeepsBlocks (with_blocks kept.lists (given_back_if w d kept.lists.blocks)) (after (mean s) me.0.layout me.0.number (kinds.Hold t d) made.met.0 made.met.1 me.0.part found)) (sym won)
      (held (mean s) me.0.layout me.0.number made.met.0 made.met.1 me.0.part found kept.lists was.blocks (resting mean s (kinds.Hold t d) found number kept old_table new_table me me' live made slots was refl) t d))))

-- the descriptor may be published
module _ {T : Type 0} (mean : T → Meaning) (s : T) (t : Thunk) (d number : ℕ) (kept : Block) (own_table : TableId) (me : Me Thunk (View T)) (enabled : IsEnabled (mean s) (kinds.Hold t d) (seen_seat own_table me)) (was : IsKept mean number kept me) where
  pub free_here : has kept.lists.part.descriptors.free d ≡ true
  free_here = ap (λ (p : PartState). has p.descriptors.free d) was.lists ∙ (holds_so (mean s) (seen_seat own_table me) t d enabled).own

  none_told : (o : Option Published) → is_none o ≡ true → told_published o ≡ None
  none_told None e = refl
  none_told (Some x) e = absurd (let no : ⊥ = cc in no)

  pub none_here : kept.lists.part.published ≡ None
  none_here = ap (λ (p : PartState). p.published) was.lists ∙ none_told me.0.part.published (holds_so (mean s) (seen_seat own_table me) t d enabled).unpublished
