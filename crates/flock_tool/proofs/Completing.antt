-- From how each command ends to completeness.
use Rattle.std.specs.Prelude.{◌⊎◌, not, is_some, slice_get}
use Rattle.std.proofs.Common.{◌≡◌, ◌≢◌, ℕ, zero, suc, ◌+◌, ◌*◌, ◌<◌, ◌≤◌, Bool, true, false, cond, List, [], ◌∷◌, length, Option, None, Some, IfSome, IsSome, refl, sym, ap, ◌∙◌, ⊎_elim, inl, inr, subst, arith}
use Rattle.std.proofs.lemmas.List.Sums.{sum_by-cons}
use Rattle.std.proofs.lemmas.Option.{slice_get-get_or}
use Rattle.machine_states.specs.map_history.specs.declared.op.Entry.{Entry}
use Rattle.machine_states.specs.map_history.specs.declared.op.Request.{Request}
use Rattle.threaded_runs.specs.map_sizes.specs.Sizes.{peak}
use Rattle.machine_states.specs.table_words.specs.declared.layout.Layout.{Layout}
use Rattle.machine_states.specs.table_words.specs.declared.spot.Spot.TheVariants.{Stamp}
use Rattle.machine_states.specs.structure_laws.specs.Meaning.{Meaning}
use Rattle.threaded_runs.specs.free_serving.specs.resource_bounds.specs.Makes.{inserts}
use Rattle.version_words.specs.TableState.{WordsState, word_of}
use Rattle.command_line.specs.trace_reader.specs.Answer.{AreTracesOf}
use Rattle.command_line.specs.trace_reader.specs.Generator.{generated}
use Rattle.command_line.specs.trace_reader.specs.declared.generator.Gen.{Gen}
use Rattle.command_line.specs.trace_reader.specs.declared.traces.Traces.{Traces}
use Rattle.report_check.specs.Inputs.{HasLegalReport}
use Rattle.load_counts.specs.run_reports.specs.Reports.{HaveEntries, unserved_in}
use Rattle.command_line.specs.Halts.{names_below}
use Rattle.command_line.specs.declared.command.Command.{Command}
use Rattle.command_line.specs.declared.command.Command.TheVariants as commands
use Rattle.command_line.specs.declared.generated.LoadOptions.{LoadOptions}
use Rattle.command_line.specs.declared.options.RunOptions.{RunOptions}
use Rattle.threaded_runs.specs.Lone.{ServesAlone}
use Rattle.threaded_runs.specs.Runs.{AreServed}
use Rattle.flock_tool.specs.Alone.{HasLoneRoom, IsValidAlone, KeepsVersions, NothingStops}
use Rattle.flock_tool.specs.Checks.{IsDue}
use Rattle.flock_tool.specs.Commands.{CheckEnds, Ends, GenEnds, LoadEnds, LoadRuns, RunEnds}
use Rattle.threaded_runs.specs.Room.{HasEnoughSlots, HasEnoughVersions}
use Rattle.flock_tool.specs.Complete.{Completes, IsAnswered}
use Rattle.flock_tool.specs.Finish.{finish_by, finish_status}
use Rattle.flock_tool.specs.Loads.{HasCounted, HasLoadRun}
use Rattle.flock_tool.specs.Plans.{AsksAnotherTable, AsksTooMuch, IsForAnotherTable, LoadAsksTooMuch, all_nodes, all_requests, layout_by}
use Rattle.flock_tool.specs.Runs.{words_in, answers_in, meaning_of, per_pair_in, waits_out, HasEnded, HasRun, IsRunOf, IsRunStatus}
use Rattle.flock_tool.specs.Streams.{Gating, Stream}
use Rattle.flock_tool.specs.Valid.{HasRoom, IsValid, IsWhole, NothingFails}
use Rattle.flock_tool.specs.declared.ran.Ran.{Ran}
use Rattle.flock_tool.specs.declared.ran.Ran.TheVariants as tables
use Rattle.flock_tool.proofs.Ends.{GrammaticalAt, also_another}
use Rattle.flock_tool.proofs.EnoughAlone.{never_five, never_six}

-- where none is unserved, each entry is there
each_there : (entries : List (Option Entry)) → unserved_in entries ≡ 0 → (n : ℕ) → slice_get entries n ≢ Some None
each_there [] none n is = absurd (cc)
each_there (None ∷ entries) none n is =
    let first = sum_by-cons (λ (e : Option Entry). cond (not (is_some e)) 1 0) None entries in
    absurd (omega (arith, first, none))
each_there (Some entry ∷ entries) none zero is = absurd (cc)
each_there (Some entry ∷ entries) none (suc n) is =
    let first = sum_by-cons (λ (e : Option Entry). cond (not (is_some e)) 1 0) (Some entry) entries in
    each_there entries (omega (arith, first, none)) n is

-- and so each request has a stamp
module _ {T : Type 0} (m : Meaning) (w : WordsState T) (entries : List (Option Entry)) (shown : HaveEntries m w entries) where
  stamped : (number : ℕ) (entry : Option Entry) → slice_get entries number ≡ Some entry → slice_get entries number ≢ Some None → word_of m w (Stamp number) ≢ 0
  stamped number None is there = absurd (there is)
  stamped number (Some entry) is there = (shown.each number (Some entry) is).0

  answered : unserved_in entries ≡ 0 → IsAnswered m w
  answered none number low =
      stamped number _ (slice_get-get_or entries number None (omega (arith, low, shown.one_each))) (each_there entries none number)

some_of : (back : Option Ran) → IsSome back → (ran : Ran) × (back ≡ Some ran)
some_of None some = absurd (none some)
  where
    none : IsSome {T = Ran} None → ⊥
    none is = cc
some_of (Some ran) some = (ran, refl)

-- what holds of what came back
of_back : (P : Ran → Type 0) (back : Option Ran) (ran : Ran) → back ≡ Some ran → IfSome back P → P ran
of_back P back ran is given = subst (λ (b : Option Ran). IfSome b P) is given

to_back : (P : Ran → Type 0) (back : Option Ran) (ran : Ran) → back ≡ Some ran → P ran → IfSome back P
to_back P back ran is given = subst (λ (b : Option Ran). IfSome b P) (sym is) given

zero_of : (number : ℕ) → IsRunStatus number → number ≢ 1 → number ≢ 5 → number ≢ 6 → number ≢ 9 → number ≡ 0
zero_of number (inl is_0) not_one not_five not_six not_nine = is_0
zero_of number (inr (inl one)) not_one not_five not_six not_nine = absurd (not_one one)
zero_of number (inr (inr (inl five))) not_one not_five not_six not_nine = absurd (not_five five)
zero_of number (inr (inr (inr (inl six)))) not_one not_five not_six not_nine = absurd (not_six six)
zero_of number (inr (inr (inr (inr nine)))) not_one not_five not_six not_nine = absurd (not_nine nine)

not_of : (b : Bool) → b ≡ false → not b ≢ false
not_of true is = absurd (cc)
not_of false is = λ clash. absurd (cc)

-- a run of these options and requests
module _ {format : ℕ} (options : RunOptions) (traces : Traces) (count : ℕ) (count_is : count ≡ traces.count)
    (ran : Ran) (requests : (words_in ran).requests ≡ traces.requests) (run : IsRunOf options format count ran) where
  layout : (words_in ran).layout ≡ layout_by options traces.count traces.requests
  layout = run.layout ∙ ap (layout_by options count) requests ∙ ap (λ n. layout_by options n traces.requests) count_is

  abbrev waits : Bool
  waits = not (names_below options.halts (words_in ran).layout.runners)

  -- with room, its status isn't 5
  not_five : HasRoom options traces → (number : ℕ) → Completes (meaning_of ran) (words_in ran) waits number → number ≢ 5
  not_five room number suffices = suffices.slots waited enough
    where
      waited : waits ≢ false
      waited = not_of (names_below options.halts (words_in ran).layout.runners)
          (ap (λ (l : Layout). names_below options.halts l.runners) layout ∙ room.unhalted)

      enough : HasEnoughSlots (meaning_of ran) (words_in ran)
      enough = subst (λ l. 2 * inserts (words_in ran).requests + 2 ≤ l.nodes) (sym layout)
          (subst (λ rs. 2 * inserts rs + 2 ≤ (layout_by options traces.count traces.requests).nodes) (sym requests) room.enough)

  few_per_pair : (back : Ran) → per_pair_in back ≤ 2
  few_per_pair (tables.Hash words answers) = omega arith
  few_per_pair (tables.Move words answers) = omega arith
  few_per_pair (tables.Tree words answers) = omega arith
  few_per_pair (tables.List words answers) = omega arith

  -- with room for one runner it is neither 5 nor 6
  avoids : HasLoneRoom options traces → (number unserved : ℕ) → (number ≢ 9 → number ≡ finish_status (finish_by (answers_in ran) unserved))
      → (number ≢ 5) × (number ≢ 6)
  avoids room number unserved status = (
    λ five. never_five (meaning_of ran) (per_pair_in ran) (words_in ran) waits (answers_in ran) run.served unserved run.lone one some (few_per_pair ran) versions slots
        (sym (status (λ nine. omega (arith, five, nine))) ∙ five),
    λ six. never_six (meaning_of ran) (per_pair_in ran) (words_in ran) waits (answers_in ran) run.served unserved run.lone one versions
        (sym (status (λ nine. omega (arith, six, nine))) ∙ six),
  )
    where
      one : (words_in ran).layout.runners ≡ 1
      one = ap (λ (l : Layout). l.runners) layout ∙ room.one

      some : 1 ≤ (words_in ran).layout.sections
      some = subst (λ (l : Layout). 1 ≤ l.sections) (sym layout) room.some

      slots : 2 * peak (words_in ran).requests + 16 ≤ (words_in ran).layout.nodes
      slots = subst (λ (l : Layout). 2 * peak (words_in ran).requests + 16 ≤ l.nodes) (sym layout)
          (subst (λ rs. 2 * peak rs + 16 ≤ (layout_by options traces.count traces.requests).nodes) (sym requests) room.slots)

      versions : 8 * length (words_in ran).requests + 8 ≤ (words_in ran).layout.version_max
      versions = subst (λ (l : Layout). 8 * length (words_in ran).requests + 8 ≤ l.version_max) (sym layout)
          (subst (λ rs. 8 * length rs + 8 ≤ (layout_by options traces.count traces.requests).version_max) (sym requests) room.versions)

-- what the closed words keep of versions, by the status of a run
keeps : {reads : Bool} (ran : Ran) (waits : Bool) → AreServed (meaning_of ran) (words_in ran) waits reads (answers_in ran)
    → ServesAlone (meaning_of ran) (per_pair_in ran) (words_in ran) (answers_in ran) → (number unserved : ℕ)
    → (number ≢ 9 → number ≡ finish_status (finish_by (answers_in ran) unserved)) → (words_in ran).layout.runners ≡ 1
    → 8 * length (words_in ran).requests + 8 ≤ (words_in ran).layout.version_max → number ≢ 6
keeps ran waits served lone number unserved status one versions six =
    never_six (meaning_of ran) (per_pair_in ran) (words_in ran) waits (answers_in ran) served unserved lone one versions
    (sym (status (λ nine. omega (arith, six, nine))) ∙ six)

pub if_some : (P Q : Ran → Type 0) (back : Option Ran) → IfSome back P → ((ran : Ran) → P ran → Q ran) → IfSome back Q
if_some P Q None given step = tt
if_some P Q (Some ran) given step = step ran given

pub none_keeps : (result : ℕ × Option Ran) → result.1 ≡ None → KeepsVersions result
none_keeps result none = subst (λ (back : Option Ran). IfSome back (λ ran. (words_in ran).layout.runners ≡ 1
    → 8 * length (words_in ran).requests + 8 ≤ (words_in ran).layout.version_max → result.0 ≢ 6)) (sym none) tt

pub run_keeps : (options : RunOptions) (result : ℕ × Option Ran) (source sink faults : Stream) (gates : Gating)
    → RunEnds options result source sink faults gates → KeepsVersions result
run_keeps options result source sink faults gates ends = if_some _ _ result.1 ends.ended
    (λ ran ended. keeps ran _ ended.1.run.served ended.1.run.lone result.0 ended.2.unserved ended.2.status)

pub load_keeps : (load : LoadOptions) (result : ℕ × Option Ran) (sink faults : Stream) (gates : Gating)
    → LoadRuns load result sink faults gates → KeepsVersions result
load_keeps load result sink faults gates ends = if_some _ _ result.1 ends.ended
    (λ ran ended. keeps ran _ ended.0.run.served ended.0.run.lone result.0 (unserved_in ended.1.entries) ended.1.status)

abbrev traces_by : LoadOptions → Traces
traces_by load = record { format = 1; count = load.plan.traces; requests = generated load.plan }

module _ (result : ℕ × Option Ran) (source sink faults : Stream) (gates : Gating) where
  gen_whole : (plan : Gen) → GenEnds plan result source sink faults gates → all_requests plan ≤ 131072 → NothingFails result.1 source sink gates → IsWhole result ⊎ (result.0 ≡ 7)
  gen_whole plan ends few fine = by ends.prints.statuses
    where
      by : (result.0 ≡ 0) ⊎ (result.0 ≡ 4) ⊎ (result.0 ≡ 7) ⊎ (result.0 ≡ 9) → IsWhole result ⊎ (result.0 ≡ 7)
      by (inl is_0) = inl (record { status = is_0; answered = subst (λ back. IfSome back (λ ran. IsAnswered (meaning_of ran) (words_in ran))) (sym ends.none) tt })
      by (inr (inl four)) = let much = (ends.prints.limit four).0 in absurd (omega (arith, much, few))
      by (inr (inr (inl seven))) = inr seven
      by (inr (inr (inr nine))) = absurd (fine.written (ends.prints.write nine).0)

  check_whole : CheckEnds result source sink faults gates → ((input : List ℕ) × (source.before ≡ Some input) × HasLegalReport input) → NothingFails result.1 source sink gates → IsWhole result ⊎ (result.0 ≡ 7)
  check_whole ends (input, tells, has) fine = by (due.legal has)
    where
      due : IsDue result.0 input
      due = subst (λ left. IfSome left (IsDue result.0)) tells (ends.prints.due fine.read)

      by : (result.0 ≡ 0) ⊎ (result.0 ≡ 9) ⊎ (result.0 ≡ 7) → IsWhole result ⊎ (result.0 ≡ 7)
      by (inl is_0) = inl (record { status = is_0; answered = subst (λ back. IfSome back (λ ran. IsAnswered (meaning_of ran) (words_in ran))) (sym ends.none) tt })
      by (inr (inl nine)) = let said = ends.prints.judged (inr (inr nine)) in absurd (fine.written (said.1.1.in_part nine).1)
      by (inr (inr seven)) = inr seven

  -- a run of a text in the grammar on a table that serves it, with no more node slots than the limit, is whole where nothing stops it
  -- and its status is neither 5 nor 6
  run_done : (options : RunOptions) → RunEnds options result source sink faults gates → NothingStops source sink gates
      → (text : List ℕ) (traces : Traces) → source.before ≡ Some text → AreTracesOf traces text → (IsForAnotherTable options traces → ⊥)
      → all_nodes (layout_by options traces.count traces.requests) ≤ 262144
      → ((ran : Ran) (format count : ℕ) → count ≡ traces.count → (words_in ran).requests ≡ traces.requests → IsRunOf options format count ran
      → HasEnded ran count (waits_out options.halts (words_in ran).layout.runners) result.0 sink faults → result.1 ≡ Some ran → (result.0 ≢ 5) × (result.0 ≢ 6))
      → IsWhole result ⊎ (result.0 ≡ 7)
  run_done options ends fine text traces tells are served room avoids = by (at _ (ends.grammatical fine.read) are.accepted)
    where
      at : (P : List ℕ → Type 0) → IfSome source.before P → P text
      at P given = subst (λ left. IfSome left P) tells given

      few : (slots : ℕ) → AsksTooMuch options source.before slots → ⊥
      few slots asks =
          let others = at (AreTracesOf asks.traces) asks.text in
          let same = asks.count ∙ ap (λ n. all_nodes (layout_by options n asks.traces.requests)) (others.count ∙ sym are.count)
          ∙ ap (λ (r : List Request). all_nodes (layout_by options traces.count r)) (others.requests ∙ sym are.requests) in
          let much = asks.much in omega (arith, same, room, much)

      same_table : AsksAnotherTable options source.before → ⊥
      same_table asks = served (also_another options traces asks.traces text are (at (AreTracesOf asks.traces) asks.text) asks.another)

      on : (ran : Ran) → result.1 ≡ Some ran → IsRunStatus result.0 → IsWhole result
      on ran back status = record { status = is_0; answered = to_back (λ r. IsAnswered (meaning_of r) (words_in r)) result.1 ran back all }
        where
          ended : (count : ℕ) × HasRun options source.before count ran gates
              × HasEnded ran count (waits_out options.halts (words_in ran).layout.runners) result.0 sink faults
          ended = of_back _ result.1 ran back ends.ended

          read : AreTracesOf (record { format = ended.1.format; count = ended.0; requests = (words_in ran).requests }) text
          read = at _ ended.1.text

          is_0 : result.0 ≡ 0
          is_0 =
              let not = avoids ran ended.1.format ended.0 (read.count ∙ sym are.count) (read.requests ∙ sym are.requests) ended.1.run ended.2 back in
              zero_of result.0 status (λ one. fine.went (ends.halted one)) not.0 not.1 (λ nine. fine.written (ends.write nine).0)

          all : IsAnswered (meaning_of ran) (words_in ran)
          all = let report = ended.2.is_report in
              answered (meaning_of ran) (words_in ran) report.entries report.shown (sym report.counted ∙ ended.2.all is_0)

      by : GrammaticalAt options source.before result.0 → IsWhole result ⊎ (result.0 ≡ 7)
      by (inl status) = let back = some_of result.1 (ends.ran.1 status) in inl (on back.0 back.1 status)
      by (inr (inl seven)) = inr seven
      by (inr (inr (inl (four, slots, asks)))) = absurd (few slots asks)
      by (inr (inr (inr (two, asks)))) = absurd (same_table asks)

  load_done : (load : LoadOptions) → LoadEnds load result source sink faults gates → NothingStops source sink gates
      → all_requests load.plan ≤ 131072 → all_nodes (layout_by load.run load.plan.traces (generated load.plan)) ≤ 262144
      → ((ran : Ran) → (words_in ran).requests ≡ generated load.plan → IsRunOf load.run 1 load.plan.traces ran
      → HasCounted ran (waits_out load.run.halts (words_in ran).layout.runners) result.0 sink faults → result.1 ≡ Some ran → (result.0 ≢ 5) × (result.0 ≢ 6))
      → IsWhole result ⊎ (result.0 ≡ 7)
  load_done load ends fine few room avoids = by ends.runs.statuses
    where
      on : (ran : Ran) → result.1 ≡ Some ran → IsRunStatus result.0 → IsWhole result
      on ran back status = record { status = is_0; answered = to_back (λ r. IsAnswered (meaning_of r) (words_in r)) result.1 ran back all }
        where
          ended : HasLoadRun load ran gates
              × HasCounted ran (waits_out load.run.halts (words_in ran).layout.runners) result.0 sink faults
          ended = of_back _ result.1 ran back ends.runs.ended

          is_0 : result.0 ≡ 0
          is_0 =
              let not = avoids ran ended.0.requests ended.0.run ended.1 back in
              zero_of result.0 status (λ one. fine.went (ends.runs.halted one)) not.0 not.1 (λ nine. fine.written (ends.runs.write nine).0)

          all : IsAnswered (meaning_of ran) (words_in ran)
          all = answered (meaning_of ran) (words_in ran) ended.1.entries ended.1.shown (ended.1.all (inl is_0))

      at_4 : ((131072 < all_requests load.plan) × Unit {0}) ⊎ ((count : ℕ) × LoadAsksTooMuch load count) → ⊥
      at_4 (inl much) = let much = much.0 in omega (arith, much, few)
      at_4 (inr (slots, asks)) = let same = asks.count in let much = asks.much in omega (arith, same, much, room)

      by : IsRunStatus result.0 ⊎ (result.0 ≡ 4) ⊎ (result.0 ≡ 7) → IsWhole result ⊎ (result.0 ≡ 7)
      by (inl status) = let back = some_of result.1 (ends.runs.ran.1 status) in inl (on back.0 back.1 status)
      by (inr (inl four)) = absurd (at_4 (⊎_elim (λ much. inl (much.0, tt)) (λ asks. inr (asks.1.0, asks.1.1.0)) (ends.runs.limit four)))
      by (inr (inr seven)) = inr seven

  stops_none : NothingFails result.1 source sink gates → NothingStops source sink gates
  stops_none fine = record { read = fine.read; written = fine.written; went = fine.went }

  -- what is valid is done whole where nothing fails, or memory is wanting
  pub whole : (command : Command) → Ends command result source sink faults gates → IsValid command source.before → NothingFails result.1 source sink gates
      → IsWhole result ⊎ (result.0 ≡ 7)
  whole (commands.Run options) ends (text, traces, tells, are, served, room) fine = run_done options ends (stops_none fine) text traces tells are served room.few
      (λ ran format count counted requests run ended back. let enough = ended.enough in (
        not_five options traces count counted ran requests run room result.0 enough,
        enough.versions (of_back (λ r. HasEnoughVersions (meaning_of r) (words_in r)) result.1 ran back fine.versions),
      ))
  whole (commands.Gen plan) ends valid fine = gen_whole plan ends valid fine
  whole (commands.Load load) ends (few, room) fine = load_done load ends (stops_none fine) few room.few
      (λ ran requests run counted back. let enough = counted.enough in (
        not_five load.run (traces_by load) load.plan.traces refl ran requests run room result.0 enough,
        enough.versions (of_back (λ r. HasEnoughVersions (meaning_of r) (words_in r)) result.1 ran back fine.versions),
      ))
  whole commands.Check ends valid fine = check_whole ends valid fine

  -- and with one runner
  pub whole_alone : (command : Command) → Ends command result source sink faults gates → IsValidAlone command source.before
      → NothingStops source sink gates → IsWhole result ⊎ (result.0 ≡ 7)
  whole_alone (commands.Run options) ends (text, traces, tells, are, served, room) fine = run_done options ends fine text traces tells are served room.few
      (λ ran format count counted requests run ended back. avoids options traces count counted ran requests run room result.0 ended.unserved ended.status)
  whole_alone (commands.Gen plan) ends valid fine = absurd valid
  whole_alone commands.Check ends valid fine = absurd valid
  whole_alone (commands.Load load) ends (few, room) fine = load_done load ends fine few room.few
      (λ ran requests run counted back. avoids load.run (traces_by load) load.plan.traces refl ran requests run room result.0
      (unserved_in counted.entries) counted.status)
