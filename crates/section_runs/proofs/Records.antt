-- What a step of a run leaves of the runner's records: it is counted, and what is learned is of the run's request.
use Rattle.std.proofs.Common.{◌≡◌, ℕ, zero, suc, List, [], ◌∷◌, ◌++◌, Bool, true, false, refl, sym, ap, ◌∙◌, subst, Option, Some, None}
use Rattle.std.specs.Prelude.{◌==◌, nat_lt, slice_get, if◌then◌else◌}
use Rattle.idem_cell.specs.section_lines.specs.small_lemmas.proofs.Lists.{append_none}
use Rattle.idem_cell.specs.machine_states.specs.body_terms.specs.declared.micro.Micro.{Micro}
use Rattle.idem_cell.specs.machine_states.specs.body_terms.specs.declared.micro.Micro.TheVariants as micros
use Rattle.idem_cell.specs.machine_states.specs.body_terms.specs.Line.{is_end}
use Rattle.idem_cell.specs.machine_states.specs.body_terms.specs.Run.{written_once}
use Rattle.idem_cell.specs.machine_states.specs.table_words.specs.declared.layout.Layout.{Layout}
use Rattle.idem_cell.specs.machine_states.specs.table_words.specs.declared.spot.Spot.{Spot}
use Rattle.idem_cell.specs.machine_states.specs.table_words.specs.declared.access.Access.{Access}
use Rattle.idem_cell.specs.machine_states.specs.structure_laws.specs.Meaning.{Meaning}
use Rattle.idem_cell.specs.machine_states.specs.runner_parts.specs.declared.event.EventKind.{EventKind}
use Rattle.idem_cell.specs.machine_states.specs.runner_parts.specs.declared.entries.Known.{Known}
use Rattle.idem_cell.specs.machine_states.specs.runner_parts.specs.State.{RunState, RecordsState, PartState}
use Rattle.idem_cell.specs.machine_states.specs.runner_parts.specs.Lists.{learned, cell_read}
use Rattle.idem_cell.specs.machine_states.specs.runner_steps.specs.InRun.{make_slot, last_clock, stamp_after}
use Rattle.idem_cell.specs.machine_states.specs.runner_steps.specs.Sections.{thunk_of, next_of}
use Rattle.idem_cell.specs.machine_states.specs.runner_steps.specs.AfterInRun as inside
use Rattle.idem_cell.specs.machine_states.specs.runner_steps.specs.After.{line_after, counted, noted}
use Rattle.idem_cell.specs.machine_states.proofs.Steps.{some_same}
use Rattle.idem_alloc.specs.commit_log.specs.next_steps.specs.Steps.{slot_in, kind_at}
use Rattle.section_runs.specs.Opened.{Learns}

module _ (l : Layout) (r : ℕ) (kind : EventKind) (spot : Spot) (access : Access) (n : ℕ) (s : RecordsState) where
  pub noted_known : (noted l r kind spot access n s).known ≡ s.known
  noted_known = refl

  pub noted_events : (noted l r kind spot access n s).events ≡ counted s.events
  noted_events = refl

one : {request : ℕ} (y : Known) → y.request ≡ request → (i : ℕ) (x : Known) → slice_get (y ∷ []) i ≡ Some x → x.request ≡ request
one y same zero x at = ap (λ (k : Known). k.request) (sym (some_same y x at)) ∙ same
one y same (suc i) x at = absurd (let z = at in cc)

pub learns_none : (request : ℕ) (known : List Known) → Learns request known known
learns_none request known = record { more = []; adds = sym (append_none known); only = λ i x at. absurd (let z = at in cc) }

-- the records of this part and of the one behind a step, before the step is noted
pub record Leaves (request : ℕ) (p y : PartState) : Type 0 where
  pub events : y.records.events ≡ p.records.events
  pub learns : Learns request p.records.known y.records.known

module _ (m : Meaning) (l : Layout) (p : PartState) (q : RunState) (found : ℕ) where
  abbrev request : ℕ
  request = (thunk_of q.opened).request

  abbrev Left : PartState → Type 0
  Left y = Leaves request p y

  same : (y : PartState) → y.records.events ≡ p.records.events → p.records.known ≡ y.records.known → Left y
  same y events known = record { events = events; learns = subst (Learns request p.records.known) known (learns_none request p.records.known) }

  loaded : (slot : ℕ) (o : Option ℕ) → Left (inside.fill_loaded m l slot p q o found)
  loaded slot None = same (inside.fill_loaded m l slot p q None found) refl refl
  loaded slot (Some t) = same (inside.fill_loaded m l slot p q (Some t) found) refl refl

  committed : (o : Option ℕ) → Left (inside.make_committed m l p q o found)
  committed None = same p refl refl
  committed (Some t) = same (inside.make_committed m l p q (Some t) found) refl refl

  released : (b : Bool) (y : PartState) → y.records ≡ p.records → Left (if b then inside.run_over m l y (inside.ended_more q) else inside.with_run y (inside.ended_more q))
  released true y e = same (inside.run_over m l y (inside.ended_more q)) (ap (λ (s : RecordsState). s.events) e) (ap (λ (s : RecordsState). s.known) (sym e))
  released false y e = same (inside.with_run y (inside.ended_more q)) (ap (λ (s : RecordsState). s.events) e) (ap (λ (s : RecordsState). s.known) (sym e))

  -- what is learned of the run's request
  learns_this : (reply : Bool) (n : ℕ) → Learns request p.records.known (learned p.records request reply n).known
  learns_this reply n = by (n == 0)
    where
      by : (b : Bool) → Learns request p.records.known (if b then p.records else record (p.records) { known = p.records.known ++ record { request = request; reply = reply; number = n } ∷ [] }).known
      by true = learns_none request p.records.known
      by false = record { more = record { request = request; reply = reply; number = n } ∷ []; adds = refl; only = one (record { request = request; reply = reply; number = n }) refl }

  learned_events : (reply : Bool) (n : ℕ) → (learned p.records request reply n).events ≡ p.records.events
  learned_events reply n = by (n == 0)
    where
      by : (b : Bool) → (if b then p.records else record (p.records) { known = p.records.known ++ record { request = request; reply = reply; number = n } ∷ [] }).events ≡ p.records.events
      by true = refl
      by false = refl

  stamped : (b : Bool) → Left (if b
      then record p { run = Some (inside.goes_on m l q (written_once found (stamp_after q.word))); records = learned p.records request false (written_once found (stamp_after q.word)) }
      else p)
  stamped true = record { events = learned_events false (written_once found (stamp_after q.word)); learns = learns_this false (written_once found (stamp_after q.word)) }
  stamped false = same p refl refl

  pub line_leaves : (micro : Micro) → Left (line_after m l (kind_at p q micro) p q micro found)
  line_leaves (micros.LoadCell place log) = same _ refl refl
  line_leaves (micros.Commit place log) = same _ refl refl
  line_leaves (micros.CheckWord place log word) = same _ refl refl
  line_leaves (micros.CheckFresh place log) = same _ refl refl
  line_leaves (micros.NestedLoad place log) = same _ refl refl
  line_leaves (micros.NestedCommit place log) = same _ refl refl
  line_leaves (micros.CheckFree place log word) = same _ refl refl
  line_leaves (micros.NestedHold place word) = same _ refl refl
  line_leaves (micros.OutcomeLoad place log) = same _ refl refl
  line_leaves (micros.OutcomeCommit place log) = same _ refl refl
  line_leaves (micros.CheckHeld place log word) = same _ refl refl
  line_leaves (micros.PrivateLoad cell log) = loaded (slot_in (make_slot q.made p.nodes.free)) q.made
  line_leaves (micros.PrivateStore cell log value) = same _ refl refl
  line_leaves (micros.MakeCommit log) = committed q.made
  line_leaves micros.ClockLoad = same _ refl refl
  line_leaves micros.StampExchange = stamped (nat_lt q.word last_clock)
  line_leaves micros.ClockRaise = same _ refl refl
  line_leaves (micros.ExchangeCell place log value) = same _ refl refl
  line_leaves (micros.EpochForRetire slot log) = same _ refl refl
  line_leaves (micros.RetireCommit slot log) = same _ refl refl
  line_leaves (micros.ReplyExchange reply) = record { events = learned_events true (written_once found reply); learns = learns_this true (written_once found reply) }
  line_leaves micros.End = same _ refl refl
  line_leaves micros.SetDone = same _ refl refl
  line_leaves (micros.Release place word) = released (is_end (next_of m (inside.ended_more q))) (record p { reads = cell_read p.reads place found }) refl
