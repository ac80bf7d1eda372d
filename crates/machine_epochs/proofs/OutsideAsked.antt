-- What it says of a runner in no run that an event of its is enabled.
use Rattle.std.specs.Prelude.{◌==◌, ◌&&◌, ◌⊎◌, cond, Bool, true, false, nat_lt, nat_le, is_none, slice_get}
use Rattle.std.proofs.Common.{◌≡◌, ℕ, ◌+◌, ◌-◌, ◌<◌, ◌≤◌, List, length, sym, refl, ap, subst, inl, inr, arith, Option, Some, None}
use Rattle.std.proofs.lemmas.Bool.Decides.{nat_tests}
use Rattle.std.proofs.lemmas.Bool.{and_parts}
use Rattle.std.proofs.lemmas.Option.{none-some}
use Rattle.section_lines.specs.small_lemmas.proofs.Bools.{negated as not_so}
use Rattle.section_lines.specs.small_lemmas.proofs.Numbers.{tested_less as lt_test, tested_equal as same_test}
use Rattle.machine_states.specs.map_history.specs.declared.op.Request.{Request}
use Rattle.machine_states.specs.body_terms.specs.declared.thunk.Thunk.{Thunk}
use Rattle.machine_states.specs.body_terms.specs.Word.{held_word, is_free, is_spent}
use Rattle.machine_states.specs.table_words.specs.declared.layout.Layout.{Layout}
use Rattle.machine_states.specs.table_words.specs.declared.spot.Spot.{Spot}
use Rattle.machine_states.specs.table_words.specs.declared.spot.Spot.TheVariants.{Seat, Epoch, Announcement, Guard, Cell, ThunkWord}
use Rattle.machine_states.specs.table_words.specs.Places.{slot_count, descriptor_count}
use Rattle.machine_states.specs.table_words.specs.declared.access.Access.{Access}
use Rattle.machine_states.specs.table_words.specs.declared.access.Access.TheVariants.{Loads, Stores, Exchanges}
use Rattle.machine_states.specs.structure_laws.specs.Meaning.{Meaning}
use Rattle.machine_states.specs.epoch_core.specs.declared.stage.Stage.{Stage}
use Rattle.machine_states.specs.epoch_core.specs.declared.stage.Stage.TheVariants.{Idle, Loaded, Announced, Entered, Scanning}
use Rattle.machine_states.specs.runner_parts.specs.State.{RunState, PartState}
use Rattle.machine_states.specs.runner_parts.specs.Tests.{has, is_walking, is_prepared, is_between, is_resting}
use Rattle.machine_states.specs.runner_parts.specs.Tests as tests
use Rattle.machine_states.specs.runner_steps.specs.Outside.{when, enter_load_ask, announce_ask, enter_again_by, enter_again_ask, idle_ask, scan_one_ask, advance_ask, split_ask, entry_spot, entry_ask, read_ask, descriptor_spot, block_spot, blocks_from, private_load_ask, private_store_ask, hold_ask, open_ask, is_sure_of}
use Rattle.machine_states.specs.runner_steps.specs.Guards.{is_numbered, guard_ask, load_guard_by, load_guard_ask}
use Rattle.machine_states.specs.guard_core.specs.State.{word_of}
use Rattle.machine_states.specs.epoch_core.specs.State.{last_epoch}
use Rattle.machine_states.proofs.Steps.{some_same}
use Rattle.machine_states.proofs.Sights.{if_some, some_none}

pub walking : (stage : Stage) (run : Option RunState) → is_walking stage run ≡ true → (g : ℕ) × (stage ≡ Entered g) × (run ≡ None)
walking (Entered g) None e = (g, refl, refl)
walking _ _ e = absurd (let x = e in cc)

pub enter_load_asked : (stage : Stage) (x : Spot × Access) → enter_load_ask stage ≡ Some x → (stage ≡ Idle) × ((Epoch, Loads) ≡ x)
enter_load_asked Idle x e = (refl, some_same _ _ e)
enter_load_asked _ x e = some_none x e

pub announce_asked : (r : ℕ) (stage : Stage) (x : Spot × Access) → announce_ask r stage ≡ Some x → (n : ℕ) × (stage ≡ Loaded n) × ((Announcement r, Stores n) ≡ x)
announce_asked r (Loaded n) x e = (n, refl, some_same _ _ e)
announce_asked r _ x e = some_none x e

-- no reply of a read is without its stamp
enter_again_by_asked : (between : Bool) (stage : Stage) (x : Spot × Access) → enter_again_by between stage ≡ Some x
    → (stage ≡ Announced) × ((Epoch, Loads) ≡ x) × (between ≡ false)
enter_again_by_asked true stage x e = some_none x e
enter_again_by_asked false Announced x e = (refl, some_same _ _ e, refl)
enter_again_by_asked false _ x e = some_none x e

pub enter_again_asked : (p : PartState) (x : Spot × Access) → enter_again_ask p ≡ Some x
    → (p.stage ≡ Announced) × ((Epoch, Loads) ≡ x) × (is_between p.reads.look ≡ false)
enter_again_asked p x e = enter_again_by_asked (is_between p.reads.look) p.stage x e

pub idle_asked : (r : ℕ) (p : PartState) (x : Spot × Access) → idle_ask r p ≡ Some x → (g : ℕ) × (p.stage ≡ Entered g) × (p.run ≡ None) × ((Announcement r, Stores 0) ≡ x)
idle_asked r p x e =
    let h = if_some _ _ x e in
    let w = walking p.stage p.run (and_parts _ _ h.0).0 in (w.0, w.1, w.2, h.1)

-- no section of its is published, and its guard word names nothing
pub idle_away : (r : ℕ) (p : PartState) (x : Spot × Access) → idle_ask r p ≡ Some x → (p.published ≡ None) × (p.guards.named ≡ None)
idle_away r p x e =
    let b = and_parts _ _ (and_parts _ _ (if_some _ _ x e).0).1 in
    (none_of p.published b.0, none_of p.guards.named (and_parts _ _ b.1).0)
  where
    none_of : {A : Type 0} → (o : Option A) → is_none o ≡ true → o ≡ None
    none_of None e = refl
    none_of (Some y) e = absurd (let x = e in cc)

next_test : (n next runners : ℕ) → (n == next && nat_le next runners) ≡ true → (n ≡ next) × (next ≤ runners)
next_test n next runners e = grind (arith, nat_tests)

pub scan_one_asked : (l : Layout) (n : ℕ) (stage : Stage) (x : Spot × Access) → scan_one_ask l n stage ≡ Some x
    → (epoch : ℕ) × (clear : Bool) × (stage ≡ Scanning epoch n clear) × (n ≤ l.runners) × ((Announcement n, Loads) ≡ x)
scan_one_asked l n (Scanning epoch next clear) x e =
    let h = if_some _ _ x e in
    let t = next_test n next l.runners h.0 in (epoch, clear, ap (λ k. Scanning epoch k clear) (sym t.0), subst (λ k. k ≤ l.runners) (sym t.0) t.1, h.1)
scan_one_asked l n _ x e = some_none x e

advance_test : (runners next epoch : ℕ) (clear : Bool) → (nat_lt runners next && (clear && nat_lt epoch last_epoch)) ≡ true → (runners < next) × (clear ≡ true) × (epoch < last_epoch)
advance_test runners next epoch clear e = grind (arith, nat_tests)

pub advance_asked : (l : Layout) (stage : Stage) (x : Spot × Access) → advance_ask l stage ≡ Some x
    → (epoch next : ℕ) × (stage ≡ Scanning epoch next true) × (l.runners < next) × (epoch < last_epoch) × ((Epoch, Exchanges epoch (epoch + 1)) ≡ x)
advance_asked l (Scanning epoch next clear) x e =
    let h = if_some _ _ x e in
    let t = advance_test l.runners next epoch clear h.0 in (epoch, next, ap (λ b. Scanning epoch next b) t.1, t.0, t.2, h.1)
advance_asked l _ x e = some_none x e

pub split_asked : (l : Layout) (r : ℕ) (p : PartState) (x : Spot × Access) → split_ask l r p ≡ Some x → (Seat, Loads) ≡ x
split_asked l r p x e = (if_some _ _ x e).1

pub entry_asked : (request : ℕ) (reply : Bool) (p : PartState) (x : Spot × Access) → entry_ask request reply p ≡ Some x → (entry_spot request reply, Loads) ≡ x
entry_asked request reply p x e = (if_some _ _ x e).1

pub read_asked : (m : Meaning) (place : ℕ) (p : PartState) (x : Spot × Access) → read_ask m place p ≡ Some x → (g : ℕ) × (p.stage ≡ Entered g) × ((Cell place, Loads) ≡ x)
read_asked m place p x e =
    let h = if_some _ _ x e in
    let w = walking p.stage p.run (and_parts _ _ h.0).0 in (w.0, w.1, h.1)

load_of : (b b' b'' c c' : Bool) (a a' a'' : Spot) (x : Spot × Access) → cond c (when b a Loads) (cond c' (when b' a' Loads) (when b'' a'' Loads)) ≡ Some x
    → (spot : Spot) × ((spot, Loads) ≡ x)
load_of b b' b'' true c' a a' a'' x e = (a, (if_some b _ x e).1)
load_of b b' b'' false true a a' a'' x e = (a', (if_some b' _ x e).1)
load_of b b' b'' false false a a' a'' x e = (a'', (if_some b'' _ x e).1)

pub private_load_asked : (m : Meaning) (l : Layout) (slot word : ℕ) (p : PartState) (x : Spot × Access) → private_load_ask m l slot word p ≡ Some x → (spot : Spot) × ((spot, Loads) ≡ x)
private_load_asked m l slot word p x e = load_of _ _ _ (nat_lt slot (slot_count l m.fixed_slots)) (nat_lt slot (blocks_from m l)) _ _ _ x e

load_cases : (b a t b' c d : Bool) (n n' n'' : Spot) (x : Spot × Access) (c' d' : Bool) → c ≡ c' → d ≡ d' → cond c' (when b n Loads) (cond d' (when (a && t) n' Loads) (when b' n'' Loads)) ≡ Some x
    → ((c ≡ true) × (spot : Spot) × ((spot, Loads) ≡ x)) ⊎ (((c ≡ false) × (d ≡ true) × (t ≡ true) × ((n', Loads) ≡ x)) ⊎ ((c ≡ false) × (d ≡ false) × ((n'', Loads) ≡ x)))
load_cases b a t b' c d n n' n'' x true d' is is' e = inl (is, n, (if_some b _ x e).1)
load_cases b a t b' c d n n' n'' x false true is is' e = let h = if_some (a && t) _ x e in inr (inl (is, is', (and_parts a t h.0).1, h.1))
load_cases b a t b' c d n n' n'' x false false is is' e = inr (inr (is, is', (if_some b' _ x e).1))

-- a private load is one of a cell of a node slot, of a word of an own free descriptor, or of a word of a block
pub private_load_cases : (m : Meaning) (l : Layout) (slot word : ℕ) (p : PartState) (x : Spot × Access) → private_load_ask m l slot word p ≡ Some x
    → ((nat_lt slot (slot_count l m.fixed_slots) ≡ true) × (spot : Spot) × ((spot, Loads) ≡ x))
    ⊎ (((nat_lt slot (slot_count l m.fixed_slots) ≡ false) × (nat_lt slot (blocks_from m l) ≡ true) × (has p.descriptors.free (slot - slot_count l m.fixed_slots) ≡ true) × ((descriptor_spot (slot - slot_count l m.fixed_slots) word, Loads) ≡ x))
    ⊎ ((nat_lt slot (slot_count l m.fixed_slots) ≡ false) × (nat_lt slot (blocks_from m l) ≡ false) × ((block_spot (slot - blocks_from m l) word, Loads) ≡ x)))
private_load_cases m l slot word p x e = load_cases _ _ _ _ (nat_lt slot (slot_count l m.fixed_slots)) (nat_lt slot (blocks_from m l)) _ _ _ x _ _ refl refl e

store_test : (n slot : ℕ) (a b : Bool) → (nat_le n slot && (a && b)) ≡ true → b ≡ true
store_test n slot a true e = refl
store_test n slot true false e = grind (arith, nat_tests)
store_test n slot false false e = grind (arith, nat_tests)

-- a private store is one into a word of an own free descriptor, or into a word of a block
pub private_store_cases : (m : Meaning) (l : Layout) (slot word number : ℕ) (p : PartState) (x : Spot × Access) → private_store_ask m l slot word number p ≡ Some x
    → ((nat_lt slot (blocks_from m l) ≡ true) × (has p.descriptors.free (slot - slot_count l m.fixed_slots) ≡ true) × ((descriptor_spot (slot - slot_count l m.fixed_slots) word, Stores number) ≡ x))
    ⊎ ((nat_lt slot (blocks_from m l) ≡ false) × ((block_spot (slot - blocks_from m l) word, Stores number) ≡ x))
private_store_cases m l slot word number p x e = by (nat_lt slot (blocks_from m l)) refl e
  where
    by : (b : Bool) → nat_lt slot (blocks_from m l) ≡ b
        → cond b (when (nat_le (slot_count l m.fixed_slots) slot && (is_resting p.stage p.run && has p.descriptors.free (slot - slot_count l m.fixed_slots))) (descriptor_spot (slot - slot_count l m.fixed_slots) word) (Stores number))
        (when (is_resting p.stage p.run && (has p.blocks.free (slot - blocks_from m l) && number == 0)) (block_spot (slot - blocks_from m l) word) (Stores number)) ≡ Some x
        → ((nat_lt slot (blocks_from m l) ≡ true) × (has p.descriptors.free (slot - slot_count l m.fixed_slots) ≡ true) × ((descriptor_spot (slot - slot_count l m.fixed_slots) word, Stores number) ≡ x))
        ⊎ ((nat_lt slot (blocks_from m l) ≡ false) × ((block_spot (slot - blocks_from m l) word, Stores number) ≡ x))
    by true is e = let h = if_some _ _ x e in inl (is, store_test (slot_count l m.fixed_slots) slot _ _ h.0, h.1)
    by false is e = inr (is, (if_some _ _ x e).1)

-- what a publication needs
pub record HoldAsked (m : Meaning) (l : Layout) (rs : List Request) (t : Thunk) (d : ℕ) (p : PartState) (x : Spot × Access) : Type 0 where
  pub few : d < descriptor_count l
  pub free : has p.descriptors.free d ≡ true
  pub named : p.guards.named ≡ Some d
  pub eight : length t.operands ≡ 8
  pub prepared : is_prepared p.descriptors.stored d t ≡ true
  pub entry : ℕ
  pub entered : p.stage ≡ Entered entry
  pub unpublished : p.published ≡ None
  -- no reply of a read is without its stamp
  pub settled : is_between p.reads.look ≡ false
  pub unheld : is_free t.word ≡ true
  pub unspent : is_spent l.version_max t.word ≡ false
  pub request : Request
  pub of_request : slice_get rs t.request ≡ Some request
  pub serves : m.fits l request.op p.reads.walk t ≡ true
  pub is : (Cell t.lock, Exchanges t.word (held_word d t.word)) ≡ x

pub no_option : {A : Type 0} → (o : Option A) → is_none o ≡ true → o ≡ None
no_option None e = refl
no_option (Some y) e = absurd (let x = e in cc)

-- what serves a request serves one that there is
serves_some : (m : Meaning) (l : Layout) (walk : List (ℕ × ℕ)) (t : Thunk) (o : Option Request) → tests.serves m l walk t o ≡ true
    → (q : Request) × (o ≡ Some q) × (m.fits l q.op walk t ≡ true)
serves_some m l walk t None e = absurd (let x = e in cc)
serves_some m l walk t (Some q) e = (q, refl, e)

pub named_is : (o : Option ℕ) (d : ℕ) → tests.is_some_of o d ≡ true → o ≡ Some d
named_is None d e = absurd (let x = e in cc)
named_is (Some n) d e = ap (λ (k : ℕ). Some k) (same_test n d e)

pub hold_asked : (m : Meaning) (l : Layout) (rs : List Request) (r : ℕ) (t : Thunk) (d : ℕ) (p : PartState) (x : Spot × Access) → hold_ask m l rs r t d p ≡ Some x → HoldAsked m l rs t d p x
hold_asked m l rs r t d p x e =
    let h = if_some _ _ x e in
    let b = and_parts _ _ h.0 in
    let ready = and_parts _ _ b.0 in
    let own = and_parts _ _ ready.1 in
    let named = and_parts _ _ own.1 in
    let words = and_parts _ _ named.1 in
    let may = and_parts _ _ b.1 in
    let w = walking p.stage p.run may.0 in
    let rest = and_parts _ _ may.1 in
    let settled = and_parts _ _ rest.1 in
    let due = and_parts _ _ settled.1 in
    let lock = and_parts _ _ due.0 in
    let request = serves_some m l p.reads.walk t (slice_get rs t.request) (and_parts _ _ due.1).1 in
    record {
      few = lt_test _ _ ready.0;
      free = own.0;
      named = named_is p.guards.named d named.0;
      eight = same_test _ _ words.0;
      prepared = words.1;
      entry = w.0;
      entered = w.1;
      unpublished = no_option p.published rest.0;
      settled = not_so _ settled.0;
      unheld = lock.0;
      unspent = not_so _ (and_parts _ _ lock.1).0;
      request = request.0;
      of_request = request.1;
      serves = request.2;
      is = h.1;
    }

pub open_asked : (d : ℕ) (p : PartState) (x : Spot × Access) → open_ask d p ≡ Some x → (g : ℕ) × (p.stage ≡ Entered g) × (is_sure_of p.guards d ≡ true) × ((ThunkWord d 0, Loads) ≡ x)
open_asked d p x e =
    let h = if_some _ _ x e in
    let b = and_parts _ _ h.0 in
    let w = walking p.stage p.run b.0 in (w.0, w.1, b.1, h.1)

pub record GuardAsked (l : Layout) (r : ℕ) (d : Option ℕ) (p : PartState) (x : Spot × Access) : Type 0 where
  pub entry : ℕ
  pub entered : p.stage ≡ Entered entry
  pub none : p.run ≡ None
  pub unpublished : p.published ≡ None
  pub few : (n : ℕ) → d ≡ Some n → n < descriptor_count l
  pub is : (Guard r, Stores (word_of d)) ≡ x

pub guard_asked : (l : Layout) (r : ℕ) (d : Option ℕ) (p : PartState) (x : Spot × Access) → guard_ask l r d p ≡ Some x → GuardAsked l r d p x
guard_asked l r d p x e =
    let h = if_some _ _ x e in
    let b = and_parts _ _ h.0 in
    let w = walking p.stage p.run b.0 in
    record { entry = w.0; entered = w.1; none = w.2; unpublished = no_option p.published (and_parts _ _ b.1).0; few = numbered d (and_parts _ _ b.1).1; is = h.1 }
  where
    numbered : (o : Option ℕ) → is_numbered l o ≡ true → (n : ℕ) → o ≡ Some n → n < descriptor_count l
    numbered None e n is = absurd (none-some _ is)
    numbered (Some k) e n is = subst (λ (i : ℕ). i < descriptor_count l) (some_same k n is) (lt_test _ _ e)

pub record LoadGuardAsked (l : Layout) (n : ℕ) (p : PartState) (x : Spot × Access) : Type 0 where
  pub idle : p.stage ≡ Idle
  pub next : n ≡ length p.guards.looked
  pub few : n ≤ l.runners
  pub is : (Guard n, Loads) ≡ x

pub load_guard_asked : (l : Layout) (n : ℕ) (p : PartState) (x : Spot × Access) → load_guard_ask l n p ≡ Some x → LoadGuardAsked l n p x
load_guard_asked l n p x e = let h = by p.stage e in record { idle = h.0; next = h.1; few = h.2; is = h.3 }
  where
    le_of : (a b : ℕ) → nat_le a b ≡ true → a ≤ b
    le_of a b e = grind (arith, nat_tests)

    by : (st : Stage) → load_guard_by l n (length p.guards.looked) st ≡ Some x
        → (st ≡ Idle) × (n ≡ length p.guards.looked) × (n ≤ l.runners) × ((Guard n, Loads) ≡ x)
    by Idle e = let h = if_some _ _ x e in let b = and_parts _ _ h.0 in (refl, same_test _ _ b.0, le_of _ _ b.1, h.1)
    by (Loaded g) e = some_none x e
    by Announced e = some_none x e
    by (Entered g) e = some_none x e
    by (Scanning y next clear) e = some_none x e
