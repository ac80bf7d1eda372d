-- The words of a closed table stand for what those of a hash table with as many buckets stand for.
use Rattle.std.proofs.Common.{ℕ, Result, Ok, Err, IfOk}
use Rattle.machine_states.specs.map_history.specs.Replay.{Pairs}
use Rattle.bucket_walks.specs.bucket_laws.specs.Buckets.{buckets_meaning, moves_meaning}
use Rattle.lock_walks.specs.version_words.specs.TableState.{WordsState}
use Rattle.lock_walks.specs.try_lock.specs.Contents.{StandFor}

pub as_buckets : {T : Type 0} (bits : ℕ) (words : WordsState T) (pairs : Pairs) → StandFor (moves_meaning bits) words pairs
    → StandFor (buckets_meaning bits) words pairs
as_buckets bits words pairs stand = record { cells = stand.cells; same = stand.same; stands = stand.stands }

pub if_ok : {T E : Type 0} (P Q : T → Type 0) (result : Result T E) → IfOk result P → ((value : T) → P value → Q value)
    → IfOk result Q
if_ok P Q (Ok value) given step = step value given
if_ok P Q (Err error) given step = tt
