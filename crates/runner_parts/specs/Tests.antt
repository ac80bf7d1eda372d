-- What a runner can tell from what it keeps.
use Rattle.std.specs.Prelude.{ℕ, ◌+◌, ◌-◌, ◌/◌, ◌%◌, List, [], ◌∷◌, Bool, true, false, not, ◌==◌, ◌&&◌, ◌||◌, nat_lt, cond, Option, Some, None, slice_index, replicate}
use Rattle.std.specs.List.{list_any, list_all}
use Rattle.structure_laws.specs.map_history.specs.declared.op.Request.{Request}
use Rattle.structure_laws.specs.body_terms.specs.declared.thunk.Thunk.{Thunk}
use Rattle.structure_laws.specs.body_terms.specs.Word.{is_free, is_spent}
use Rattle.block_words.specs.table_words.specs.declared.layout.Layout.{Layout}
use Rattle.block_words.specs.table_words.specs.Places.{part_words}
use Rattle.structure_laws.specs.Meaning.{Meaning}
use Rattle.epoch_core.specs.declared.stage.Stage.{Stage}
use Rattle.epoch_core.specs.declared.stage.Stage.TheVariants as stages
use Rattle.runner_parts.specs.declared.entries.Stored.{Stored}
use Rattle.runner_parts.specs.declared.entries.Known.{Known}
use Rattle.runner_parts.specs.declared.entries.Look.{Look}
use Rattle.runner_parts.specs.declared.entries.LookStage.{LookStage}
use Rattle.runner_parts.specs.declared.entries.LookStage.TheVariants.{Planned, Looked, Replied, Stamped}
use Rattle.runner_parts.specs.State.{RunState}

-- the list has this number
abbrev pub has : List ℕ → ℕ → Bool
has xs x = list_any (λ y. y == x) xs

-- the list has this pair
abbrev pub has_pair : List (ℕ × ℕ) → ℕ → ℕ → Bool
has_pair xs a b = list_any (λ x. x.0 == a && x.1 == b) xs

-- entered, and in no run
abbrev pub is_walking : Stage → Option RunState → Bool
is_walking (stages.Entered g) None = true
is_walking _ _ = false

-- idle, or entered and in no run
abbrev pub is_resting : Stage → Option RunState → Bool
is_resting stages.Idle None = true
is_resting (stages.Entered g) None = true
is_resting _ _ = false

-- in no run
abbrev pub is_outside : Option RunState → Bool
is_outside None = true
is_outside (Some q) = false

-- the stamp word, or the reply word, of this request is known
abbrev pub knows : List Known → ℕ → Bool → Bool
knows known request reply = list_any (λ x. x.request == request && cond reply x.reply (not x.reply)) known

-- both words of this request are known
abbrev pub is_answered : List Known → ℕ → Bool
is_answered known request = knows known request false && knows known request true

-- each request of this trace below this number has been answered
abbrev pub are_answered : List Known → ℕ → ℕ → List Request → Bool
are_answered known trace below requests =
    list_all (λ x. not (x.trace == trace && nat_lt x.number below) || is_answered known x.number) requests

-- the request is this worker's next one: it isn't answered, and each earlier one of its trace is
abbrev pub is_next : Layout → ℕ → List Request → List Known → Option Request → Bool
is_next l r requests known None = false
is_next l r requests known (Some q) =
    q.trace % l.runners == r && (not (is_answered known q.number) && are_answered known q.trace q.number requests)

-- what was stored or found last in this word of a descriptor, if anything was
abbrev pub last_stored : List Stored → ℕ → ℕ → Option ℕ → Option ℕ
last_stored [] descriptor word so_far = so_far
last_stored (x ∷ xs) descriptor word so_far =
    last_stored xs descriptor word (cond (x.descriptor == descriptor && x.word == word) (Some x.number) so_far)

-- this number was stored
abbrev pub is_some_of : Option ℕ → ℕ → Bool
is_some_of None number = false
is_some_of (Some n) number = n == number

-- these numbers were stored last into the words from this one on
unfoldable pub are_stored : List Stored → ℕ → ℕ → List ℕ → Bool
are_stored stored descriptor word [] = true
are_stored stored descriptor word (x ∷ xs) =
    is_some_of (last_stored stored descriptor word None) x && are_stored stored descriptor (word + 1) xs

-- the words of a thunk
abbrev pub thunk_words : Thunk → List ℕ
thunk_words t =
    let o = slice_index t.operands in
    t.form ∷ t.request ∷ t.lock ∷ t.word ∷ o 0 ∷ o 1 ∷ o 2 ∷ o 3 ∷ o 4 ∷ o 5 ∷ o 6 ∷ o 7 ∷ []

-- the descriptor's words were stored or found with this thunk, no done, an empty log and no link
abbrev pub is_prepared : List Stored → ℕ → Thunk → Bool
is_prepared stored descriptor t =
    are_stored stored descriptor 0 (thunk_words t) && are_stored stored descriptor 12 (replicate (part_words + 2) 0)

-- the outer lock's word is free, isn't spent, and was read
abbrev pub is_open : Layout → List (ℕ × ℕ) → Thunk → Bool
is_open l cells t = is_free t.word && (not (is_spent l.version_max t.word) && has_pair cells t.lock t.word)

-- the thunk serves this request by these readings
abbrev pub serves : Meaning → Layout → List (ℕ × ℕ) → Thunk → Option Request → Bool
serves m l walk t None = false
serves m l walk t (Some q) = m.fits l q.op walk t

-- the runner may read this place outside a run
abbrev pub is_readable : Meaning → List (ℕ × ℕ) → ℕ → Bool
is_readable m walk place =
    nat_lt place m.fixed_cells
    || (m.is_lock place || (nat_lt ((place - m.fixed_cells) / 5) m.fixed_slots
    || m.reaches walk ((place - m.fixed_cells) / 5)))

-- the read's thunk was announced, and the clock isn't loaded for it yet
abbrev pub is_planned_stage : LookStage → Bool
is_planned_stage Planned = true
is_planned_stage Looked = false
is_planned_stage Replied = false
is_planned_stage Stamped = false

-- the clock was loaded for the read, and its reply isn't written yet
abbrev pub is_looked : LookStage → Bool
is_looked Planned = false
is_looked Looked = true
is_looked Replied = false
is_looked Stamped = false

-- the read's reply was written, and its stamp is to come
abbrev pub is_replied : LookStage → Bool
is_replied Planned = false
is_replied Looked = false
is_replied Replied = true
is_replied Stamped = false

-- the runner has written the reply of a read, and its stamp is to come
abbrev pub is_between : Option Look → Bool
is_between None = false
is_between (Some x) = is_replied x.stage
