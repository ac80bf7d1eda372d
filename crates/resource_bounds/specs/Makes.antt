-- How many node slots a worker can still come by, and how many requests added a pair.
use Rattle.std.specs.Prelude.{◌≡◌, ℕ, zero, suc, ◌+◌, ◌*◌, ◌<◌, ◌≤◌, cond, true, List, length, count_by}
use Rattle.machine_states.specs.map_history.specs.declared.op.Request.{Request}
use Rattle.machine_states.specs.map_history.specs.Keys.{may_add}
use Rattle.machine_states.specs.map_history.specs.Words.{adds_by}
use Rattle.machine_states.specs.body_terms.specs.Word.{value_of}
use Rattle.machine_states.specs.table_words.specs.declared.layout.Layout.{Layout}
use Rattle.machine_states.specs.table_words.specs.declared.spot.Spot.{Spot}
use Rattle.machine_states.specs.table_words.specs.declared.spot.Spot.TheVariants.{Reply, Cell}
use Rattle.machine_states.specs.structure_laws.specs.Meaning.{Meaning}
use Rattle.machine_states.specs.Sight.{Sight}
use Rattle.machine_states.specs.runner_parts.specs.State.{NodesState}

-- how many of the first requests have a reply that says that a pair was added, or put in the place of another
abbrev pub added : (Spot → ℕ) → ℕ → ℕ
added word zero = 0
added word (suc n) = added word n + cond (adds_by (word (Reply n))) 1 0

-- no lock word names a descriptor
abbrev pub HoldsNoLock : Meaning → (Spot → ℕ) → Type 0
HoldsNoLock m word = (p : ℕ) → m.is_lock p ≡ true → value_of (word (Cell p)) ≡ 0

-- how many node slots a runner has free, in its hand or worn: those in its limbo aren't counted
abbrev pub slots_left : NodesState → ℕ
slots_left n = length n.hand + (length n.free + length n.worn)

-- where no lock is held: of the slots of a worker that gave away none but what it had above its own number, only those
-- are gone that Makes used up, which are at most two for each request that added a pair, or put a new one in the place
-- of another. What it retired comes on top, though it may wait in limbo for ever
abbrev pub MakesAreCounted : Meaning → Layout → List Request → Sight → Type 0
MakesAreCounted m l requests s = HoldsNoLock m s.word → (r : ℕ) → r < l.runners
    → (s.part r).records.gave_above ≡ true → l.nodes ≤ slots_left (s.part r).nodes + 2 * added s.word (length requests)

-- how many requests may add a pair
abbrev pub inserts : List Request → ℕ
inserts requests = count_by (λ (q : Request). may_add q.op) requests

-- where the structure serves a map, no more requests added a pair than may
abbrev pub FewAreAdded : Meaning → List Request → Sight → Type 0
FewAreAdded m requests s = m.is_map ≡ true → added s.word (length requests) ≤ inserts requests
