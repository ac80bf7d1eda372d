-- What a runner's code keeps of a run in progress.
use Rattle.std.specs.Prelude.{◌≡◌, ℕ, ◌-◌, ◌*◌, Bool, true, false, ◌<◌, ◌≤◌, ◌%◌, ◌^◌, nat_lt, length, slice_index, Option, Some, None, if◌then◌else◌}
use Rattle.std.specs.Option.{is_some}
use Rattle.machine_states.specs.body_terms.specs.declared.micro.Micro.{Micro}
use Rattle.machine_states.specs.body_terms.specs.declared.micro.Micro.TheVariants as micros
use Rattle.machine_states.specs.body_terms.specs.Word.{held_word}
use Rattle.machine_states.specs.body_terms.specs.Line.{micro_at}
use Rattle.machine_states.specs.table_words.specs.Places.{part_words}
use Rattle.machine_states.specs.table_words.specs.declared.spot.Spot.{Spot}
use Rattle.machine_states.specs.table_words.specs.declared.spot.Spot.TheVariants as spots
use Rattle.machine_states.specs.structure_laws.specs.Meaning.{Meaning}
use Rattle.machine_states.specs.body_terms.specs.block_words.specs.Blocks.{log_spot}
use Rattle.machine_states.specs.runner_parts.specs.State.{RunState, PartState}
use Rattle.machine_states.specs.runner_parts.specs.Tests.{has}
use Rattle.machine_states.specs.runner_steps.specs.Sections.{is_open_run, line_of, next_of, is_beyond}
use Rattle.machine_states.specs.runner_steps.specs.InRun.{last_of}
use Rattle.runner_block.specs.declared.place.RunPlace.{RunPlace}
use Rattle.runner_block.specs.Links.{LinksKept, no_links}

-- a word of its opening was loaded, and it has the run's descriptor, the request and the lock that its words name, how
-- many words were agreed on, whether a Make has its slot in the hand, and whether a cell of that slot came to the
-- greatest version
pub record IsPlaced (kept : RunPlace) (q : RunState) : Type 0 where
  pub descriptor : kept.descriptor ≡ q.descriptor
  pub some : 0 < length q.opened
  pub request : 1 < length q.opened → kept.request ≡ slice_index q.opened 1 % 2 ^ 32
  pub lock : 2 < length q.opened → kept.lock ≡ slice_index q.opened 2 % 2 ^ 32
  pub agreed : kept.agreed ≡ length q.trail
  pub making : kept.making ≡ is_some q.made
  pub worn : kept.worn ≡ q.worn

-- where the runner has a run in progress, in which the slot of a Make is in the hand
pub record HasPlace (kept : RunPlace) (p : PartState) : Type 0 where
  pub run : (q : RunState) → p.run ≡ Some q → IsPlaced kept q
  pub outside : p.run ≡ None → kept.inside ≡ false
  pub in_hand : (q : RunState) (slot : ℕ) → p.run ≡ Some q → q.made ≡ Some slot → has p.nodes.hand slot ≡ true

-- the run has linked these blocks, so that its section's last part begins here and stands there; and it has this block
-- in the hand, of which so many words are 0, and linked these itself
pub record AreLinks (kept : LinksKept) (q : RunState) : Type 0 where
  pub start : kept.start ≡ part_words * length q.links
  pub last : kept.last ≡ last_of q.links
  pub block : kept.block ≡ q.block
  pub emptied : kept.emptied ≡ q.emptied
  pub won : kept.won ≡ q.won
  -- it links a block only where the parts before are full
  pub full : part_words * length q.links ≤ length q.trail

-- where the runner has a run in progress, and none are kept of a runner in no run
pub record HasLinks (kept : LinksKept) (run : Option RunState) : Type 0 where
  pub of_run : (q : RunState) → run ≡ Some q → AreLinks kept q
  pub outside : run ≡ None → kept ≡ no_links

-- a step of the end of a run
abbrev pub is_ending : Micro → Bool
is_ending micros.SetDone = true
is_ending (micros.Release place word) = true
is_ending micros.End = true
is_ending _ = false

-- while a run's opening is loaded, and before its commit of a retirement, this is the number that it loaded last
pub record HasEpoch (m : Meaning) (epoch : ℕ) (run : Option RunState) : Type 0 where
  pub opening : (q : RunState) → run ≡ Some q → length q.opened < 13 → epoch ≡ q.word
  pub retiring : (q : RunState) (slot log : ℕ) → run ≡ Some q
      → micro_at (line_of m q) q.at ≡ micros.RetireCommit slot log → epoch ≡ q.word

-- an open run that isn't marked as in progress is at its end
pub record EndsSo (m : Meaning) (kept : RunPlace) (run : Option RunState) : Type 0 where
  pub ending : (q : RunState) → run ≡ Some q → is_open_run q ≡ true → kept.inside ≡ false
      → is_ending (next_of m q) ≡ true

-- the next word of the log of a runner's run
abbrev pub next_log : Option RunState → Spot
next_log None = spots.Seat
next_log (Some q) = log_spot q.descriptor q.links (length q.trail)

-- the run knows the part of its log in which the next word stands: no link is due before it
abbrev pub KnowsPart : Option RunState → Type 0
KnowsPart run = (q : RunState) → run ≡ Some q → is_beyond q (Some (length q.trail)) ≡ false

-- a word of a part of a log: this block has the part, or it is this descriptor's
abbrev pub word_in_part : ℕ → Option ℕ → ℕ → Spot
word_in_part descriptor None word = spots.LogWord descriptor word
word_in_part descriptor (Some block) word = spots.BlockWord block word

-- where the next word of a run's log is looked for: in the descriptor as long as that has room, and then in the last
-- part
abbrev pub kept_log : RunPlace → LinksKept → Spot
kept_log place links =
    if nat_lt place.agreed part_words then spots.LogWord place.descriptor place.agreed
    else word_in_part place.descriptor links.last (place.agreed - links.start)

-- the link behind a part of a log: this block has the part, or it is this descriptor's
abbrev pub link_behind : ℕ → Option ℕ → Spot
link_behind descriptor None = spots.LinkWord descriptor
link_behind descriptor (Some block) = spots.BlockLink block

-- the done word of the run's descriptor
abbrev pub own_done : Option RunState → Spot
own_done None = spots.Seat
own_done (Some q) = spots.DoneWord q.descriptor

-- the stamp word and the reply word of the run's request
abbrev pub own_stamp : Option RunState → Spot
own_stamp None = spots.Seat
own_stamp (Some q) = spots.Stamp (slice_index q.opened 1 % 2 ^ 32)

abbrev pub own_reply : Option RunState → Spot
own_reply None = spots.Seat
own_reply (Some q) = spots.Reply (slice_index q.opened 1 % 2 ^ 32)

-- the word of a lock that the run's section holds, where this free word stood before
abbrev pub held_by_run : Option RunState → ℕ → ℕ
held_by_run None word = 0
held_by_run (Some q) word = held_word q.descriptor word

-- how many words of the opening were loaded
abbrev pub opened_of : Option RunState → ℕ
opened_of None = 0
opened_of (Some q) = length q.opened
