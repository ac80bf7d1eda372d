-- How a run ends, by the answers of its runners and by how many requests are unserved.
use Rattle.std.specs.Prelude.{◌≡◌, ℕ, ◌+◌, Bool, true, false, ◌||◌, ◌&&◌, List, [], ◌∷◌, ◌++◌, Option, None, Some, if◌then◌else◌, codes, decimal, nat_lt, unwrap_or}
use Rattle.machine_states.specs.body_terms.specs.Word.{value_of, version_of}
use Rattle.hash_table.specs.try_lock.specs.epoch_slots.specs.declared.reserves.Kind.{Kind}
use Rattle.hash_table.specs.try_lock.specs.epoch_slots.specs.declared.reserves.Kind.TheVariants.{Node, Descriptor, Block}
use Rattle.hash_table.specs.try_lock.specs.epoch_slots.specs.declared.reserves.Short.{Short}
use Rattle.threaded_runs.specs.free_serving.specs.serving.specs.declared.answers.Served.{Served}
use Rattle.threaded_runs.specs.free_serving.specs.serving.specs.declared.answers.Served.TheVariants as answers
use Rattle.flock_tool.specs.Streams.{Stream, Told}
use Rattle.flock_tool.specs.declared.finish.Finish.{Finish}
use Rattle.flock_tool.specs.declared.finish.Finish.TheVariants.{Whole, Halted, Slots, WornSlots, Versions}

-- the runner lacked versions: it met a word with too few of them, or some of its slots are worn
abbrev pub versions_of : ℕ → Served → Option Finish
versions_of runner (answers.Spent place word) = Some (Versions place word)
versions_of runner (answers.Short short) = if nat_lt 0 short.worn then Some (WornSlots runner short) else None
versions_of runner _ = None

-- the runner lacked slots
abbrev pub slots_of : ℕ → Served → Option Finish
slots_of runner (answers.Short short) = Some (Slots runner short)
slots_of runner _ = None

abbrev pub is_halted : Served → Bool
is_halted answers.Halted = true
is_halted _ = false

abbrev pub any_halted : List Served → Bool
any_halted [] = false
any_halted (answer ∷ answers) = is_halted answer || any_halted answers

abbrev pub first_or : Option Finish → Option Finish → Option Finish
first_or (Some finish) later = Some finish
first_or None later = later

-- what the first of these runners gives that gives anything; they are numbered from one on
abbrev pub first_from : (ℕ → Served → Option Finish) → ℕ → List Served → Option Finish
first_from given runner [] = None
first_from given runner (answer ∷ answers) = first_or (given runner answer) (first_from given (runner + 1) answers)

-- versions come first, then slots, then halts that leave a request unserved
abbrev pub finish_by : List Served → ℕ → Finish
finish_by answers unserved =
    unwrap_or (first_from versions_of 0 answers)
    (unwrap_or (first_from slots_of 0 answers)
    (if nat_lt 0 unserved && any_halted answers then Halted unserved else Whole))

abbrev pub is_whole : Finish → Bool
is_whole Whole = true
is_whole _ = false

abbrev pub finish_status : Finish → ℕ
finish_status Whole = 0
finish_status (Halted unserved) = 1
finish_status (Slots runner short) = 5
finish_status (WornSlots runner short) = 6
finish_status (Versions place word) = 6

-- how a kind of slot is printed
abbrev pub kind_name : Kind → List ℕ
kind_name Node = codes "node"
kind_name Descriptor = codes "descriptor"
kind_name Block = codes "block"

-- what a runner lacked, with the counts of its slots of the kind
abbrev pub counts_line : List ℕ → ℕ → Short → List ℕ
counts_line what runner short =
    codes "flock: " ++ what ++ codes ": runner " ++ decimal runner ++ codes " " ++ kind_name short.kind
    ++ codes " free " ++ decimal short.free ++ codes " limbo " ++ decimal short.limbo ++ codes " worn " ++ decimal
    short.worn ++ codes "\n"

-- the line that is told; none where every request is answered
abbrev pub finish_line : Finish → List ℕ
finish_line Whole = []
finish_line (Halted unserved) = codes "flock: halted, " ++ decimal unserved ++ codes " unserved\n"
finish_line (Slots runner short) = counts_line (codes "slots") runner short
finish_line (WornSlots runner short) = counts_line (codes "versions") runner short
finish_line (Versions place word) =
    codes "flock: versions: place " ++ decimal place ++ codes " value " ++ decimal (value_of word)
    ++ codes " version " ++ decimal (version_of word) ++ codes "\n"

-- the line was told, or a part of it where the sink counted a fault
abbrev pub TellsFinish : Finish → Stream → Type 0
TellsFinish Whole faults = (faults.after ≡ faults.before) × (faults.faults_after ≡ faults.faults_before)
TellsFinish finish faults = Told (finish_line finish) faults
