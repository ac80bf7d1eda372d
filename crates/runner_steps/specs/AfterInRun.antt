-- A runner's part after an event of a run, which found this word.
use Rattle.std.specs.Prelude.{ℕ, ◌+◌, ◌-◌, [], ◌∷◌, ◌++◌, true, false, ◌==◌, ◌||◌, nat_lt, Option, Some, None, if◌then◌else◌}
use Rattle.runner_parts.specs.structure_laws.specs.body_terms.specs.declared.micro.Micro.{Micro}
use Rattle.runner_parts.specs.structure_laws.specs.body_terms.specs.declared.micro.Micro.TheVariants as micros
use Rattle.runner_parts.specs.structure_laws.specs.body_terms.specs.Word.{value_of, version_of}
use Rattle.runner_parts.specs.structure_laws.specs.body_terms.specs.Line.{is_end}
use Rattle.runner_parts.specs.structure_laws.specs.body_terms.specs.Run.{written_once}
use Rattle.runner_parts.specs.block_words.specs.table_words.specs.declared.layout.Layout.{Layout}
use Rattle.runner_parts.specs.block_words.specs.table_words.specs.Places.{block_words}
use Rattle.runner_parts.specs.structure_laws.specs.Meaning.{Meaning}
use Rattle.runner_parts.specs.declared.entries.Published.{Published}
use Rattle.runner_parts.specs.State.{RunState, FinishedState, PartState, NodesState, DescriptorsState}
use Rattle.runner_steps.specs.Sections.{thunk_of, next_of, needs_link, settles, outcome_of, is_late}
use Rattle.runner_steps.specs.Outside.{blocks_from}
use Rattle.runner_steps.specs.InRun.{stamp_after, last_clock}
use Rattle.runner_parts.specs.Lists.{cell_read, descriptor_retired, slot_taken, slot_made, slot_back, slot_retired, learned}

-- the next place of the line, with this number to go by
abbrev pub goes_on : Meaning → Layout → RunState → ℕ → RunState
goes_on m l q word = settles m l (record q { at = q.at + 1; word = word })

-- one more agreed word
abbrev pub agrees : Meaning → Layout → RunState → ℕ → RunState
agrees m l q agreed = settles m l (record q { at = q.at + 1; trail = q.trail ++ agreed ∷ [] })

abbrev pub with_run : PartState → RunState → PartState
with_run p q = record p { run = Some q }

-- the opening: one more word
abbrev pub opened_more : PartState → RunState → ℕ → PartState
opened_more p q found = with_run p (record q { opened = q.opened ++ found ∷ [] })

-- a cell was loaded, to be committed
abbrev pub cell_loaded : Meaning → Layout → ℕ → PartState → RunState → ℕ → PartState
cell_loaded m l place p q found = record p { run = Some (goes_on m l q found); reads = cell_read p.reads place found }

-- a cell was exchanged; whether it changed plays no part
abbrev pub cell_exchanged : Meaning → Layout → ℕ → PartState → RunState → ℕ → PartState
cell_exchanged m l place p q found =
    record p { run = Some (goes_on m l q q.word); reads = cell_read p.reads place found }

-- a number was loaded from a word that is no cell
abbrev pub number_loaded : Meaning → Layout → PartState → RunState → ℕ → PartState
number_loaded m l p q found = with_run p (goes_on m l q found)

-- the word is agreed on that stood in the log, or else the proposal
abbrev pub word_committed : Meaning → Layout → PartState → RunState → ℕ → PartState
word_committed m l p q found = with_run p (agrees m l q (written_once found q.word))

-- the first private load of a Make takes the slot into the hand
abbrev pub fill_loaded : Meaning → Layout → ℕ → PartState → RunState → Option ℕ → ℕ → PartState
fill_loaded m l slot p q None found =
    record p {
      run = Some (goes_on m l (record q { made = Some slot; worn = false }) found);
      nodes = slot_taken p.nodes slot;
    }
fill_loaded m l slot p q (Some s) found = with_run p (goes_on m l q found)

abbrev pub filled : Meaning → Layout → ℕ → RunState → RunState
filled m l number q = goes_on m l (record q { worn = q.worn || version_of number == l.version_max }) q.word

-- how many words of the block are 0 after one more
abbrev pub emptied_more : RunState → ℕ
emptied_more q = if nat_lt q.emptied block_words then q.emptied + 1 else q.emptied

-- one more word of the block is 0, which is in the hand from the first one on
abbrev pub block_emptied : ℕ → RunState → RunState
block_emptied b q = record q { block = Some b; emptied = emptied_more q }

-- a private store of a run: into a block where it is to link one, and otherwise that of a Make
abbrev pub private_stored : Meaning → Layout → ℕ → ℕ → PartState → RunState → Micro → PartState
private_stored m l slot number p q micro =
    with_run p (if needs_link q micro then block_emptied (slot - blocks_from m l) q else filled m l number q)

-- the block is agreed on that stood in the link, or else the own one
abbrev pub link_committed : ℕ → PartState → RunState → ℕ → PartState
link_committed b p q found =
    with_run p (record q {
      links = q.links ++ value_of (written_once found (b + 1) - 1) ∷ [];
      block = None;
      emptied = 0;
      won = (if found == 0 then q.won ++ b ∷ [] else q.won);
    })

-- where this exchange won, the slot is live; otherwise it comes back
abbrev pub made : PartState → RunState → ℕ → ℕ → NodesState
made p q slot found = if found == 0 then slot_made p.nodes slot else slot_back p.nodes slot q.worn

abbrev pub make_committed : Meaning → Layout → PartState → RunState → Option ℕ → ℕ → PartState
make_committed m l p q None found = p
make_committed m l p q (Some slot) found =
    record p {
      run = Some (agrees m l (record q { made = None; worn = false }) (written_once found (slot + 1)));
      nodes = made p q slot found;
    }

-- only the exchange that won retires
abbrev pub retire_committed : Meaning → Layout → ℕ → PartState → RunState → ℕ → PartState
retire_committed m l slot p q found =
    record p {
      run = Some (agrees m l q (written_once found (slot + 1)));
      nodes = (if found == 0 then slot_retired p.nodes slot q.word else p.nodes);
    }

-- the agreed stamp is what then stands there
abbrev pub stamp_agreed : Meaning → Layout → PartState → RunState → ℕ → PartState
stamp_agreed m l p q found = let stamp = written_once found (stamp_after q.word) in let t = thunk_of q.opened in
    if nat_lt q.word last_clock
    then record p { run = Some (goes_on m l q stamp); records = learned p.records t.request false stamp }
    else p

abbrev pub clock_raised : Meaning → Layout → PartState → RunState → PartState
clock_raised m l p q = with_run p (goes_on m l q q.word)

abbrev pub reply_agreed : Meaning → Layout → ℕ → PartState → RunState → ℕ → PartState
reply_agreed m l reply p q found = let t = thunk_of q.opened in
    record p {
      run = Some (goes_on m l q q.word);
      records = learned p.records t.request true (written_once found reply);
    }

-- one more exchange of the end
abbrev pub ended_more : RunState → RunState
ended_more q = record q { ended = q.ended + 1 }

abbrev pub done_set : PartState → RunState → PartState
done_set p q = with_run p (ended_more q)

-- the own section is published no more once the runner has run it to its end
abbrev pub kept_unless : Option Published → ℕ → Option Published
kept_unless None descriptor = None
kept_unless (Some x) descriptor = if x.descriptor == descriptor then None else Some x

-- and then its descriptor goes into limbo
abbrev pub retired_if : DescriptorsState → Option Published → ℕ → DescriptorsState
retired_if d None descriptor = d
retired_if d (Some x) descriptor = if x.descriptor == descriptor then descriptor_retired d descriptor else d

-- what is kept of a run at its end
abbrev pub finished_of : Meaning → Layout → RunState → FinishedState
finished_of m l q = let t = thunk_of q.opened in
    record {
      descriptor = q.descriptor;
      lock = t.lock;
      word = t.word;
      outcome = outcome_of m l q;
      trail = q.trail;
      late = is_late q;
    }

abbrev pub run_over : Meaning → Layout → PartState → RunState → PartState
run_over m l p q =
    record p {
      run = None;
      published = kept_unless p.published q.descriptor;
      descriptors = retired_if p.descriptors p.published q.descriptor;
      records = record (p.records) { finished = p.records.finished ++ finished_of m l q ∷ [] };
    }

-- the run goes on to the next release, and is over after the last
abbrev pub released_more : Meaning → Layout → PartState → RunState → PartState
released_more m l p q = if is_end (next_of m q) then run_over m l p q else with_run p q

abbrev pub lock_released : Meaning → Layout → ℕ → PartState → RunState → ℕ → PartState
lock_released m l place p q found =
    released_more m l (record p { reads = cell_read p.reads place found }) (ended_more q)

-- the cell that a step of a run meets
abbrev pub place_of : Micro → ℕ
place_of (micros.LoadCell place log) = place
place_of (micros.NestedLoad place log) = place
place_of (micros.NestedHold place word) = place
place_of (micros.OutcomeLoad place log) = place
place_of (micros.ExchangeCell place log value) = place
place_of (micros.Release place word) = place
place_of _ = 0

abbrev pub retired_slot_of : Micro → ℕ
retired_slot_of (micros.RetireCommit slot log) = slot
retired_slot_of _ = 0

abbrev pub reply_word_of : Micro → ℕ
reply_word_of (micros.ReplyExchange reply) = reply
reply_word_of _ = 0
