-- What a step by which a run links a block leaves of its runner: the run stands where it stood, and nothing is learned.
use Rattle.std.specs.Prelude.{nat_lt, if◌then◌else◌}
use Rattle.std.proofs.Common.{◌≡◌, ℕ, ◌+◌, Bool, true, false, refl, sym, ap, ◌∙◌, Some, None}
use Rattle.idem_cell.specs.machine_states.specs.table_words.specs.Places.{block_words}
use Rattle.idem_cell.specs.machine_states.specs.structure_laws.specs.Meaning.{Meaning}
use Rattle.idem_cell.specs.machine_states.specs.runner_parts.specs.declared.event.EventKind.{EventKind}
use Rattle.idem_cell.specs.machine_states.specs.runner_parts.specs.declared.event.EventKind.TheVariants as kinds
use Rattle.idem_cell.specs.machine_states.specs.runner_parts.specs.State.{RunState, ReadsState, PartState}
use Rattle.idem_cell.specs.machine_states.specs.runner_steps.specs.Sections.{is_open_run, next_of}
use Rattle.idem_cell.specs.machine_states.specs.runner_steps.specs.Outside.{blocks_from}
use Rattle.idem_cell.specs.machine_states.specs.runner_steps.specs.AfterInRun.{block_emptied, link_committed}
use Rattle.idem_cell.specs.machine_states.specs.runner_steps.specs.After.{line_after, counted}
use Rattle.idem_alloc.specs.commit_log.specs.next_steps.specs.Steps.{slot_in, next_block, link_kind}
use Rattle.idem_alloc.specs.commit_log.specs.version_words.specs.RunnerState.{RunnerState}
use Rattle.idem_alloc.specs.commit_log.specs.version_words.specs.TableState.{TableState, IsOf}
use Rattle.idem_alloc.specs.commit_log.specs.Links.{with_links}
use Rattle.idem_alloc.specs.commit_log.specs.Runs.{LinkStepped}
use Rattle.idem_alloc.specs.commit_log.proofs.Running.{line_linked}
use Rattle.idem_alloc.specs.commit_log.proofs.Linking.{same_line}
use Rattle.section_runs.specs.Opened.{Stays}
use Rattle.section_runs.proofs.Noted.{after_line}
use Rattle.section_runs.proofs.Records.{noted_known, noted_events}

module _ {T : Type 0} (m : Meaning) (a b : RunnerState T) (q : RunState) (found : ℕ) (step : LinkStepped m q found a b) where
  -- the run has linked what it is said to have linked then, and is the same else
  pub link_line : (y : RunState) → b.part.run ≡ Some y → y ≡ with_links q y
  link_line y runs = line_linked a.part q found y (sym step.behind.run ∙ runs)

  -- it isn't over
  pub link_runs : b.part.run ≡ None → ⊥
  link_runs none = by (nat_lt q.emptied block_words) (sym step.behind.run ∙ none)
    where
      by : (c : Bool) → (if c then Some (block_emptied (slot_in (next_block a.part q)) q) else (link_committed (slot_in q.block) a.part q found).run) ≡ None → ⊥
      by true e = let z = e in cc
      by false e = let z = e in cc

  pub link_own : (t : TableState T) → IsOf t a → IsOf t b
  link_own t own = let made = step.event.made in record {
    table = ap (λ (y : RunnerState T). y.table) made ∙ own.table;
    structure = ap (λ (y : RunnerState T). y.structure) made ∙ own.structure;
    layout = ap (λ (y : RunnerState T). y.layout) made ∙ own.layout;
    requests = ap (λ (y : RunnerState T). y.requests) made ∙ own.requests;
    limits = own.limits;
    allowed = own.allowed;
  }

  pub link_stays : Stays a b
  link_stays = let same = same_line m q found a b step in record {
    layout = same.layout;
    requests = same.requests;
    number = same.number;
    present = same.present;
    stage = same.stage;
    published = same.published;
    descriptors = same.descriptors;
    finished = same.finished;
    guards = same.guards;
    walk = ap (λ (s : ReadsState). s.walk) same.reads;
    look = ap (λ (s : ReadsState). s.look) same.reads;
  }

  -- where the run is open, as a run is that may link
  module _ (goes : is_open_run q ≡ true) where
    abbrev kind : EventKind
    kind = link_kind m a.layout a.part q

    abbrev then_part : PartState
    then_part = line_after m a.layout kind a.part q (next_of m q) found

    abbrev kind_by : Bool → EventKind
    kind_by c = if c then kinds.PrivateStore (blocks_from m a.layout + slot_in (next_block a.part q)) q.emptied 0 else kinds.LinkCommit (slot_in q.block)

    known_by : (c : Bool) → (line_after m a.layout (kind_by c) a.part q (next_of m q) found).records.known ≡ a.part.records.known
    known_by true = refl
    known_by false = refl

    events_by : (c : Bool) → (line_after m a.layout (kind_by c) a.part q (next_of m q) found).records.events ≡ a.part.records.events
    events_by true = refl
    events_by false = refl

    pub link_known : b.part.records.known ≡ a.part.records.known
    link_known = let x = step.event.met in
        ap (λ (p : PartState). p.records.known) (ap (λ (y : RunnerState T). y.part) step.event.made
        ∙ after_line m a.layout a.number kind x.0 x.1 a.part found q (next_of m q) step.running.inside.running goes refl)
        ∙ (noted_known a.layout a.number kind x.0 x.1 found then_part.records ∙ known_by (nat_lt q.emptied block_words))

    pub link_events : b.part.records.events ≡ counted a.part.records.events
    link_events = let x = step.event.met in
        ap (λ (p : PartState). p.records.events) (ap (λ (y : RunnerState T). y.part) step.event.made
        ∙ after_line m a.layout a.number kind x.0 x.1 a.part found q (next_of m q) step.running.inside.running goes refl)
        ∙ (noted_events a.layout a.number kind x.0 x.1 found then_part.records ∙ ap counted (events_by (nat_lt q.emptied block_words)))
