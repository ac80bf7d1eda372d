-- Which word an event of a read without a lock meets, and how, and the part after it.
use Rattle.std.specs.Prelude.{ℕ, ◌+◌, ◌-◌, ◌*◌, List, [], ◌∷◌, Bool, true, false, not, ◌==◌, ◌&&◌, ◌||◌, nat_lt, take, drop, length, Option, Some, None, is_none, if◌then◌else◌}
use Rattle.std.specs.List.{list_all}
use Rattle.runner_parts.specs.structure_laws.specs.map_history.specs.declared.op.Request.{Request}
use Rattle.runner_parts.specs.structure_laws.specs.body_terms.specs.Run.{written_once}
use Rattle.runner_parts.specs.structure_laws.specs.body_terms.specs.Shape.{is_look, loaded_places}
use Rattle.runner_parts.specs.structure_laws.specs.body_terms.specs.declared.step.Step.{Step}
use Rattle.runner_parts.specs.structure_laws.specs.body_terms.specs.declared.step.Step.TheVariants.{Load, Want}
use Rattle.runner_parts.specs.structure_laws.specs.body_terms.specs.declared.thunk.Thunk.{Thunk}
use Rattle.runner_parts.specs.block_words.specs.table_words.specs.declared.layout.Layout.{Layout}
use Rattle.runner_parts.specs.block_words.specs.table_words.specs.declared.spot.Spot.TheVariants as spots
use Rattle.runner_parts.specs.block_words.specs.table_words.specs.declared.access.Access.TheVariants.{Loads, Exchanges}
use Rattle.runner_parts.specs.structure_laws.specs.Meaning.{Meaning}
use Rattle.runner_parts.specs.declared.entries.Look.{Look}
use Rattle.runner_parts.specs.declared.entries.LookStage.{LookStage}
use Rattle.runner_parts.specs.declared.entries.LookStage.TheVariants.{Planned, Looked, Replied, Stamped}
use Rattle.runner_parts.specs.declared.event.EventKind.{EventKind}
use Rattle.runner_parts.specs.declared.event.EventKind.TheVariants as kinds
use Rattle.runner_parts.specs.declared.entries.Known.{Known}
use Rattle.runner_parts.specs.State.{RecordsState, PartState}
use Rattle.runner_parts.specs.Lists.{learned}
use Rattle.runner_parts.specs.Tests.{has_pair, is_walking, is_open, is_planned_stage, is_looked, is_replied}
use Rattle.runner_steps.specs.Sections.{reply_in}
use Rattle.runner_steps.specs.InRun.{last_clock}
use Rattle.runner_steps.specs.Outside.{Ask, when, is_due}

-- these readings are of these places, in their order, and no more
abbrev pub are_of : List ℕ → List (ℕ × ℕ) → Bool
are_of [] [] = true
are_of [] (y ∷ ys) = false
are_of (place ∷ places) [] = false
are_of (place ∷ places) (y ∷ ys) = y.0 == place && are_of places ys

-- where this step loads the register, this word was found in its cell
abbrev pub is_found : List (ℕ × ℕ) → ℕ → ℕ → Step → Bool
is_found found reg word (Load place into) = not (into == reg) || has_pair found place word
is_found found reg word _ = true

-- what a Want asks for was found in the cells that load its register
abbrev pub is_met : List Step → List (ℕ × ℕ) → Step → Bool
is_met body found (Want reg word) = list_all (is_found found reg word) body
is_met body found _ = true

-- these readings are of the cells that the body loads, and what its Wants ask for is among them
abbrev pub finds : List Step → List (ℕ × ℕ) → Bool
finds body found = are_of (loaded_places body) found && list_all (is_met body found) body

-- how many cells the look's body loads
abbrev pub loads_of : Meaning → Look → ℕ
loads_of m x = length (loaded_places (m.body x.thunk))

-- what was read for its plan, and behind that, up to the load of the clock
abbrev pub planned_of : Meaning → Look → List (ℕ × ℕ) → List (ℕ × ℕ)
planned_of m x walk = take (x.walked - loads_of m x) walk

abbrev pub found_of : Meaning → Look → List (ℕ × ℕ) → List (ℕ × ℕ)
found_of m x walk = drop (x.walked - loads_of m x) (take x.walked walk)

-- its thunk could be published by what was read for the plan: its lock's word was read free, and it serves the
-- worker's next request by what the worker knew when it loaded the clock
abbrev pub is_planned : Meaning → Layout → List Request → ℕ → Look → List Known → List (ℕ × ℕ) → Bool
is_planned m l requests r x known walk =
    is_open l (planned_of m x walk) x.thunk
    && is_due m l requests r (take x.known known) (planned_of m x walk) x.thunk

-- the body changes nothing, and answers
abbrev pub is_looking : List Step → Bool
is_looking body = list_all is_look body && not (reply_in body == 0)

-- it is a read: its body changes nothing, its thunk could be published, and behind the plan each cell that the body
-- loads was loaded, with the words that the body wants
abbrev pub is_fit : Meaning → Layout → List Request → ℕ → Look → List Known → List (ℕ × ℕ) → Bool
is_fit m l requests r x known walk =
    is_looking (m.body x.thunk)
    && (finds (m.body x.thunk) (found_of m x walk) && is_planned m l requests r x known walk)

-- behind the load of the clock its lock was read once more, with its word again, and nothing else
abbrev pub is_again : Look → List (ℕ × ℕ) → Bool
is_again x walk = length (drop x.walked walk) == 1 && has_pair (drop x.walked walk) x.thunk.lock x.thunk.word

-- once in an entry, behind loads of cells alone, a read is announced: by an exchange that leaves the runner's
-- announcement as it is, and with which the thunk can be told to whoever proves the words
abbrev pub read_plan_ask : ℕ → Thunk → PartState → Ask
read_plan_ask r t p =
    when (is_walking p.stage p.run && (p.records.only_loads && (is_none p.reads.look
    && length t.operands == 8))) (spots.Announcement r) (Exchanges 0 0)

-- and then the clock is loaded for it
abbrev pub read_clock_ask : PartState → Option Look → Ask
read_clock_ask p None = None
read_clock_ask p (Some x) =
    when (is_walking p.stage p.run && (p.records.only_loads && is_planned_stage x.stage)) spots.Clock Loads

-- the runner has only loaded cells since it entered, but for a read's first steps, and no section is left to retire
abbrev pub only_reads : PartState → Bool
only_reads p = is_walking p.stage p.run && (p.records.only_loads && is_none p.published)

-- the clock was loaded for the look, and a stamp may be made from it; the runner knows no more than then, and has read
-- the lock again
abbrev pub has_come : PartState → Look → Bool
has_come p x =
    is_looked x.stage && (nat_lt x.clock last_clock
    && (length p.records.known == x.known && is_again x p.reads.walk))

-- the runner may write the reply of its read
abbrev pub may_reply : Meaning → Layout → List Request → ℕ → PartState → Look → Bool
may_reply m l requests r p x =
    only_reads p && (has_come p x && is_fit m l requests r x p.records.known p.reads.walk)

abbrev pub read_reply_ask : Meaning → Layout → List Request → ℕ → PartState → Option Look → Ask
read_reply_ask m l requests r p None = None
read_reply_ask m l requests r p (Some x) =
    when (may_reply m l requests r p x) (spots.Reply x.thunk.request) (Exchanges 0 (reply_in (m.body x.thunk)))

-- the stamp of a read for which this clock was loaded: behind those that were made by then, before those to come
abbrev pub read_stamp_after : ℕ → ℕ
read_stamp_after clock = 2 * clock + 1

abbrev pub read_stamp_ask : PartState → Option Look → Ask
read_stamp_ask p None = None
read_stamp_ask p (Some x) =
    when (is_walking p.stage p.run && (is_replied x.stage && nat_lt x.clock last_clock))
    (spots.Stamp x.thunk.request) (Exchanges 0 (read_stamp_after x.clock))

-- the look as it is announced
abbrev pub plan_by : Thunk → Look
plan_by t = record { thunk = t; clock = 0; walked = 0; known = 0; stage = Planned }

abbrev pub read_plan_after : Thunk → PartState → PartState
read_plan_after t p = record p { reads = record (p.reads) { look = Some (plan_by t) } }

-- the look with the clock that was loaded for it
abbrev pub look_by : Thunk → PartState → ℕ → Look
look_by t p found = record {
  thunk = t;
  clock = found;
  walked = length p.reads.walk;
  known = length p.records.known;
  stage = Looked;
}

abbrev pub looked_by : PartState → ℕ → Option Look → Option Look
looked_by p found None = None
looked_by p found (Some x) = Some (look_by x.thunk p found)

abbrev pub read_clock_after : PartState → ℕ → PartState
read_clock_after p found = record p { reads = record (p.reads) { look = looked_by p found p.reads.look } }

-- the read has come so far
abbrev pub come_to : LookStage → Option Look → Option Look
come_to stage None = None
come_to stage (Some x) = Some (record x { stage = stage })

-- what is known once the reply word was met: what stands there afterwards
abbrev pub reply_known : Meaning → Option Look → ℕ → RecordsState → List Known
reply_known m None found s = s.known
reply_known m (Some x) found s =
    (learned s x.thunk.request true (written_once found (reply_in (m.body x.thunk)))).known

-- and once the stamp word was met
abbrev pub stamp_known : Option Look → ℕ → RecordsState → List Known
stamp_known None found s = s.known
stamp_known (Some x) found s =
    if nat_lt x.clock last_clock
    then (learned s x.thunk.request false (written_once found (read_stamp_after x.clock))).known
    else s.known

abbrev pub read_reply_after : Meaning → PartState → ℕ → PartState
read_reply_after m p found = record p {
  reads = record (p.reads) { look = come_to Replied p.reads.look };
  records = record (p.records) { known = reply_known m p.reads.look found p.records };
}

abbrev pub read_stamped_after : PartState → ℕ → PartState
read_stamped_after p found = record p {
  reads = record (p.reads) { look = come_to Stamped p.reads.look };
  records = record (p.records) { known = stamp_known p.reads.look found p.records };
}

-- whether the runner has made no other step than loads of cells since it entered, and those with which a read begins
abbrev pub only_loads_after : EventKind → Bool → Bool
only_loads_after kinds.EnterAgain before = true
only_loads_after (kinds.LoadCell place) before = before
only_loads_after (kinds.ReadPlan thunk) before = before
only_loads_after kinds.ReadClock before = before
only_loads_after _ before = false
