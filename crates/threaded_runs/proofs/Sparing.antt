-- Where a run has room for all its requests, a worker that no gate halted has served all of its own, wherever another one stopped.
use Rattle.std.specs.Prelude.{◌⊎◌, ◌*◌, slice_get}
use Rattle.std.proofs.Common.{◌≡◌, ℕ, zero, suc, ◌+◌, ◌<◌, ◌≤◌, ◌∙◌, Bool, List, [], ◌∷◌, length, Some, refl, ap, ⊎_elim, inl, inr, arith}
use Rattle.machine_states.specs.map_history.specs.declared.op.Request.{Request}
use Rattle.machine_states.specs.body_terms.specs.Memory.{cell_of}
use Rattle.machine_states.specs.body_terms.specs.Word.{version_of}
use Rattle.machine_states.specs.table_words.specs.Places.{worker_blocks}
use Rattle.machine_states.specs.table_words.specs.declared.layout.Layout.{Layout}
use Rattle.machine_states.specs.guard_core.specs.State.{most_linked}
use Rattle.machine_states.specs.table_words.specs.declared.spot.Spot.{Spot}
use Rattle.machine_states.specs.table_words.specs.declared.spot.Spot.TheVariants.{Cell}
use Rattle.machine_states.specs.structure_laws.specs.Meaning.{Meaning}
use Rattle.version_words.specs.TableState.{WordsState, word_of}
use Rattle.settled_tables.specs.settling.specs.epoch_slots.specs.declared.reserves.Kind.{Kind}
use Rattle.settled_tables.specs.settling.specs.epoch_slots.specs.declared.reserves.Kind.TheVariants as slots
use Rattle.settled_tables.specs.settling.specs.epoch_slots.specs.declared.reserves.Short.{Short}
use Rattle.reached_facts.specs.keeper_facts.specs.runner_facts.proofs.Blocks.{enough_free}
use Rattle.free_serving.specs.lock_words.specs.Spent.{IsLate, IsPast, IsSpentAt}
use Rattle.free_serving.specs.resource_bounds.specs.Makes.{added, inserts}
use Rattle.free_serving.specs.serving.specs.declared.answers.Served.{Served}
use Rattle.free_serving.specs.serving.specs.declared.answers.Served.TheVariants as answers
use Rattle.threaded_runs.specs.Room.{HasEnoughVersions, HasRoomForAll}
use Rattle.threaded_runs.specs.Runs.{AreWornOut, IsShortOf, HasServed}

-- fewer than two versions are left behind a word that is told spent, and its place isn't at an earlier one
pub is_late : (m : Meaning) (l : Layout) (place word : ℕ) → IsSpentAt m l place word → IsLate l word
is_late m l place word spent = ⊎_elim (λ free. free.2) (λ limit. omega (arith, limit.1)) spent

pub is_past : (words : Spot → ℕ) (place word : ℕ) → IsPast words place word → version_of word ≤ version_of (words (Cell place))
is_past words place word past = ⊎_elim (λ same. let now = ap version_of same in omega (arith, now)) (λ below. omega (arith, below)) past

pub first_of : (xs : List ℕ) → 1 ≤ length xs → (x : ℕ) × (slice_get xs 0 ≡ Some x)
first_of [] some = absurd (omega (arith, some))
first_of (x ∷ xs) some = (x, refl)

module _ {T : Type 0} (m : Meaning) (w : WordsState T) (versions : HasEnoughVersions m w) where
  -- no word is spent
  pub none_spent : (place word : ℕ) → IsSpentAt m w.layout place word → IsPast (word_of m w) place word → ⊥
  none_spent place word spent past =
      let late = is_late m w.layout place word spent in
      let now = is_past (word_of m w) place word past in
      let left = versions place in
      omega (arith, late, now, left)

  -- and no slot is worn
  pub none_worn : (count : ℕ) → AreWornOut m w count → count ≡ 0
  none_worn zero worn = refl
  none_worn (suc n) worn =
      let many = worn.many in
      let one = first_of worn.slots (omega (arith, many)) in
      let cell = worn.each 0 one.0 one.1 in
      let full = cell.worn in
      let left = versions (cell_of m.fixed_cells one.0 cell.cell) in
      absurd (omega (arith, full, left))

-- a worker with more descriptors than so many guard words has blocks enough, where no more lie in limbo than these keep
-- there
pub no_blocks : {T : Type 0} (m : Meaning) (w : WordsState T) (retry_short : Bool) (short : Short) → IsShortOf m w retry_short short → short.kind ≡ slots.Block
    → (words : ℕ) → short.limbo ≤ most_linked * words → words < w.layout.sections → ⊥
no_blocks m w retry_short short is e words few more =
    let all = is.blocks e in
    let sum : short.free + (short.limbo + 0) ≡ worker_blocks w.layout = ap (λ n. short.free + n) (none_more short.limbo) ∙ all.2 in
    let enough = enough_free w.layout short.free short.limbo words sum few more in
    let lacks = all.0 in omega (arith, lacks, enough)
  where
    none_more : (n : ℕ) → n + 0 ≡ n
    none_more n = omega arith

module _ {T : Type 0} (m : Meaning) (w : WordsState T) (room : HasRoomForAll m w)
    (few_added : added (word_of m w) (length w.requests) ≤ inserts w.requests) (retry_short reads_free : Bool) (requests : List Request) where
  -- no want of slots comes: of node slots Makes use up all but two, of descriptors other runners' guard words name all but
  -- one, and of blocks they keep all but as many as an attempt may want
  none_short : (short : Short) → IsShortOf m w retry_short short → AreWornOut m w short.worn → ⊥
  none_short short is worn = by short.kind refl
    where
      by : (kind : Kind) → short.kind ≡ kind → ⊥
      by slots.Node e =
          let few = is.nodes e in
          let all = is.counted e in
          let unworn = none_worn m w room.versions short.worn worn in
          let enough = room.slots in
          omega (arith, few, all, unworn, few_added, enough)
      by slots.Descriptor e =
          let all = (is.descriptors e).2 in
          let named = is.named e in
          let enough = room.descriptors in
          omega (arith, all, named, enough)
      by slots.Block e = no_blocks m w retry_short short is e w.layout.runners (is.kept e) (let more = room.descriptors in omega (arith, more))

  pub all_or_halted : (answer : Served) → HasServed m w retry_short reads_free requests answer
      → (answer ≡ answers.All) ⊎ (answer ≡ answers.Halted)
  all_or_halted answers.All served = inl refl
  all_or_halted answers.Halted served = inr refl
  all_or_halted (answers.Short short) served = absurd (none_short short served.cause.1 served.shown)
  all_or_halted (answers.Spent place word) served = absurd (none_spent m w room.versions place word served.shown.0 served.shown.1)
