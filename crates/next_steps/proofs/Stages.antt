-- What a caller may do in a run, and what its part is then.
use Rattle.std.specs.Prelude.{◌==◌, ◌&&◌, ◌-◌, nat_lt, is_some, Bool, true, false, if◌then◌else◌}
use Rattle.std.proofs.Common.{◌≡◌, ℕ, ◌+◌, ◌<◌, ◌≤◌, List, [], ◌∷◌, ◌++◌, length, sym, refl, ap, ◌∙◌, subst, arith, Option, Some, None}
use Rattle.std.proofs.lemmas.Bool.Decides.{nat_tests}
use Rattle.machine_states.specs.map_history.specs.declared.op.Request.{Request}
use Rattle.machine_states.specs.body_terms.specs.declared.micro.Micro.{Micro}
use Rattle.machine_states.specs.body_terms.specs.declared.micro.Micro.TheVariants as micros
use Rattle.machine_states.specs.body_terms.specs.Line.{is_end, is_check}
use Rattle.machine_states.specs.body_terms.specs.Run.{written_once}
use Rattle.machine_states.specs.epoch_core.specs.Lists.{times}
use Rattle.machine_states.specs.table_words.specs.declared.layout.Layout.{Layout}
use Rattle.machine_states.specs.table_words.specs.declared.spot.Spot.{Spot}
use Rattle.machine_states.specs.table_words.specs.declared.access.Access.{Access}
use Rattle.machine_states.specs.table_words.specs.Limits.{IsWithinLimits}
use Rattle.machine_states.specs.table_words.specs.Places.{block_words}
use Rattle.machine_states.specs.structure_laws.specs.Meaning.{Meaning}
use Rattle.machine_states.specs.structure_laws.specs.Laws.{Laws}
use Rattle.machine_states.specs.runner_parts.specs.declared.event.EventKind.{EventKind}
use Rattle.machine_states.specs.runner_parts.specs.declared.event.EventKind.TheVariants as kinds
use Rattle.machine_states.specs.runner_parts.specs.declared.entries.Published.{Published}
use Rattle.machine_states.specs.runner_parts.specs.State.{RunState, FinishedState, RecordsState, DescriptorsState, PartState}
use Rattle.machine_states.specs.runner_steps.specs.Sections.{thunk_of, is_open_run, next_of, commits_to, needs_link}
use Rattle.machine_states.specs.runner_steps.specs.InRun.{make_slot, last_clock, stamp_after}
use Rattle.machine_states.specs.runner_steps.specs.After.{line_after, after_by, after}
use Rattle.machine_states.specs.runner_steps.specs.Asks.{line_ask}
use Rattle.machine_states.specs.runner_steps.specs.Outside.{blocks_from}
use Rattle.machine_states.specs.runner_steps.specs.Blocks.{block_in_hand, blocks_in_line, blocks_after}
use Rattle.machine_states.specs.runner_parts.specs.Lists.{cell_read, learned}
use Rattle.machine_states.specs.runner_steps.specs.AfterInRun as inside
use Rattle.machine_states.specs.Sight.{Sight, sight, part_or_first}
use Rattle.machine_invariant.specs.machine_blocks.specs.machine_guards.specs.machine_agreement.specs.machine_epochs.proofs.RunPlaces.{is_of_end, next_in_line}
use Rattle.machine_invariant.specs.machine_blocks.specs.machine_guards.specs.machine_agreement.proofs.LineKinds.{noted_finished}
use Rattle.machine_invariant.specs.machine_blocks.specs.machine_guards.specs.machine_agreement.proofs.LineAsked.{line_asked, stamp_asked, make_commit_asked}
use Rattle.machine_invariant.specs.After.{AreAllowed}
use Rattle.machine_invariant.proofs.After.{log_words_after}
use Rattle.next_steps.specs.Steps.{slot_in, kind_at, ask_at, next_block, link_kind, link_ask, opening_kind, opened_next, has_slot}
use Rattle.next_steps.specs.Enabled.{Meets, IsInTable, NextIsEnabled}
use Rattle.next_steps.specs.Stages.{IsInRun, filling_slot, nodes_taking, unfilled, run_behind, nodes_behind, reads_behind, published_behind, descriptors_behind, blocks_behind, finished_behind, ThenOpened, ThenStepped, ThenLinked}
use Rattle.next_steps.proofs.Lines.{next_no_check}
use Rattle.next_steps.proofs.Enabled.{IsKnown, next_enabled, reached_known}
use Rattle.next_steps.proofs.Stocks.{free_once, stock_stays}

module _ (m : Meaning) (laws : Laws m) (l : Layout) (limits : IsWithinLimits l) (rs : List Request) (allowed : AreAllowed rs) where
  module _ (r : ℕ) (p : PartState) (q : RunState) (is : IsInRun m l rs r p q) where
    abbrev s : Sight
    s = sight m l rs is.world

    known : IsKnown m l rs s
    known = reached_known m laws l limits rs allowed is.world is.reached

    enabled : NextIsEnabled m l rs s
    enabled = next_enabled m laws l limits rs allowed.in_order.few s known

    seen : s.part r ≡ p
    seen = ap part_or_first is.own

    there : (s.part r).gone ≡ false
    there = ap (λ (y : PartState). y.gone) seen ∙ is.present

    runs : (s.part r).run ≡ Some q
    runs = ap (λ (y : PartState). y.run) seen ∙ is.running

    pub in_table : IsInTable m l rs q
    in_table = enabled.runs r q runs

    pub may_open : length q.opened < 13 → Meets m l rs r p (opening_kind q) (opened_next q)
    may_open low = subst (λ (y : PartState). Meets m l rs r y (opening_kind q) (opened_next q)) seen (enabled.opening r q there runs low)

    module _ (all : length q.opened ≡ 13) where
      opened : is_open_run q ≡ true
      opened = (enabled.runs r q runs).goes all

      module _ (micro : Micro) (ahead : next_of m q ≡ micro) where
        pub may_step : needs_link q micro ≡ false → has_slot p q micro ≡ true → Meets m l rs r p (kind_at p q micro) (ask_at m p q micro)
        may_step near has = subst (λ (x : Micro). Meets m l rs r p (kind_at p q x) (ask_at m p q x)) ahead
            (subst (λ (y : PartState). Meets m l rs r y (kind_at y q (next_of m q)) (ask_at m y q (next_of m q))) seen
            (enabled.inside r q there runs all (ap (needs_link q) ahead ∙ near)
            (ap (λ (y : PartState). has_slot y q (next_of m q)) seen ∙ (ap (has_slot p q) ahead ∙ has))))

        pub may_link : needs_link q micro ≡ true → is_some (next_block p q) ≡ true → Meets m l rs r p (link_kind m l p q) (link_ask p q)
        may_link needs some = subst (λ (y : PartState). Meets m l rs r y (link_kind m l y q) (link_ask y q)) seen
            (enabled.linking r q there runs all (ap (needs_link q) ahead ∙ needs) (ap (λ (y : PartState). is_some (next_block y q)) seen ∙ some))

        pub commits_behind : (k : ℕ) → commits_to micro ≡ Some k → k ≡ length q.trail
        commits_behind k commits = (log_words_after m laws l rs is.reached.events is.world limits allowed is.reached.after).next r k q runs all
            (ap commits_to (next_in_line m q micro (inner micro commits) ahead) ∙ commits)
          where
            inner : (x : Micro) → commits_to x ≡ Some k → is_of_end x ≡ false
            inner micros.SetDone e = absurd (let z = e in cc)
            inner (micros.Release place word) e = absurd (let z = e in cc)
            inner micros.End e = absurd (let z = e in cc)
            inner _ e = refl

-- the part after an event of an open run, and its run, slots and stage
module _ (m : Meaning) (l : Layout) (r : ℕ) (p : PartState) (q : RunState) (runs : p.run ≡ Some q) (kind : EventKind) (x : Spot × Access) (found : ℕ) where
  -- what a part is, but for what is noted of a step
  record Same (y z : PartState) : Type 0 where
    run : y.run ≡ z.run
    nodes : y.nodes ≡ z.nodes
    reads : y.reads ≡ z.reads
    published : y.published ≡ z.published
    finished : y.records.finished ≡ z.records.finished
    descriptors : y.descriptors ≡ z.descriptors
    guards : y.guards ≡ z.guards
    stage : y.stage ≡ z.stage
    present : y.gone ≡ z.gone

  of_path : (y z : PartState) → y ≡ z → Same y z
  of_path y z e = record {
    run = ap (λ (w : PartState). w.run) e;
    nodes = ap (λ (w : PartState). w.nodes) e;
    reads = ap (λ (w : PartState). w.reads) e;
    published = ap (λ (w : PartState). w.published) e;
    finished = ap (λ (w : PartState). w.records.finished) e;
    descriptors = ap (λ (w : PartState). w.descriptors) e;
    guards = ap (λ (w : PartState). w.guards) e;
    stage = ap (λ (w : PartState). w.stage) e;
    present = ap (λ (w : PartState). w.gone) e;
  }

  -- whatever is noted of it
  noted_same : (y : PartState) → after_by m l kind p (Some q) found ≡ y → Same (after m l r kind x.0 x.1 p found) y
  noted_same y e =
      let by : after_by m l kind p p.run found ≡ y = ap (λ (o : Option RunState). after_by m l kind p o found) runs ∙ e in
      let h = of_path (after_by m l kind p p.run found) y by in record {
        run = h.run;
        nodes = h.nodes;
        reads = h.reads;
        published = h.published;
        finished = noted_finished l r kind x.0 x.1 found (after_by m l kind p p.run found).records ∙ h.finished;
        descriptors = h.descriptors;
        guards = h.guards;
        stage = h.stage;
        present = h.present;
      }

  -- in the opening
  opened_same : is_open_run q ≡ false → Same (after m l r kind x.0 x.1 p found) (inside.opened_more p q found)
  opened_same closed = noted_same (inside.opened_more p q found)
      (ap (λ b. if b then line_after m l kind p q (next_of m q) found else inside.opened_more p q found) closed)

  -- in the line, before this step
  line_same : (micro : Micro) → is_open_run q ≡ true → next_of m q ≡ micro
      → Same (after m l r kind x.0 x.1 p found) (line_after m l kind p q micro found)
  line_same micro opened ahead = noted_same (line_after m l kind p q micro found)
      (ap (λ b. if b then line_after m l kind p q (next_of m q) found else inside.opened_more p q found) opened
      ∙ ap (λ (y : Micro). line_after m l kind p q y found) ahead)

closed_run : (q : RunState) → length q.opened < 13 → is_open_run q ≡ false
closed_run q low = test (length q.opened) _ low
  where
    test : (n : ℕ) (b : Bool) → n < 13 → (n == 13 && b) ≡ false
    test n b low = grind (arith, nat_tests)

pub then_opened : (m : Meaning) (l : Layout) (rs : List Request) → ThenOpened m l rs
then_opened m l rs r p q x found runs low =
    (opened_same m l r p q runs (opening_kind q) x found (closed_run q low)).run

-- what is learned adds no finished run
learned_finished : (z : RecordsState) (request : ℕ) (reply : Bool) (n : ℕ) → (learned z request reply n).finished ≡ z.finished
learned_finished z request reply n = by (n == 0)
  where
    by : (b : Bool) → (if b then z else record z { known = z.known ++ record { request = request; reply = reply; number = n } ∷ [] }).finished ≡ z.finished
    by true = refl
    by false = refl

-- what a part is behind a step, but for its blocks
record Stands (m : Meaning) (l : Layout) (p : PartState) (q : RunState) (micro : Micro) (found : ℕ) (p' : PartState) : Type 0 where
  run : p'.run ≡ run_behind m l p q micro found
  nodes : p'.nodes ≡ nodes_behind p q micro found
  reads : p'.reads ≡ reads_behind p q micro found
  published : p'.published ≡ published_behind m p q micro
  finished : p'.records.finished ≡ finished_behind m l p q micro
  descriptors : p'.descriptors ≡ descriptors_behind m p q micro
  guards : p'.guards ≡ p.guards
  stage : p'.stage ≡ p.stage
  present : p'.gone ≡ p.gone

-- and its blocks
module _ (m : Meaning) (l : Layout) (p : PartState) (q : RunState) (micro : Micro) (found : ℕ) where
  blocks_step : needs_link q micro ≡ false → blocks_in_line m l (kind_at p q micro) p.blocks q micro found ≡ blocks_behind m p q micro
  blocks_step near = by micro refl
    where
      by : (x : Micro) → micro ≡ x → blocks_in_line m l (kind_at p q x) p.blocks q micro found ≡ blocks_behind m p q x
      by (micros.PrivateStore cell log value) e = ap (λ b. if b
          then block_in_hand p.blocks (slot_in q.made - blocks_from m l) q.block
          else p.blocks) near
      by (micros.PrivateLoad cell log) e = refl
      by _ e = refl

  blocks_stand : (runs : p.run ≡ Some q) → is_open_run q ≡ true → next_of m q ≡ micro → needs_link q micro ≡ false
      → blocks_after m l (kind_at p q micro) p p.run found ≡ blocks_behind m p q micro
  blocks_stand runs opened ahead near = ap (λ (o : Option RunState). blocks_after m l (kind_at p q micro) p o found) runs
      ∙ (ap (λ b. if b then blocks_in_line m l (kind_at p q micro) p.blocks q (next_of m q) found else p.blocks) opened
      ∙ (ap (λ (x : Micro). blocks_in_line m l (kind_at p q micro) p.blocks q x found) ahead ∙ blocks_step near))

-- the part behind each step of a line
module _ (m : Meaning) (l : Layout) (p : PartState) (q : RunState) (runs : p.run ≡ Some q) (found : ℕ) where
  abbrev Behind : Micro → PartState → Type 0
  Behind micro p' = Stands m l p q micro found p'

  behind : (micro : Micro) (p' : PartState) → p'.run ≡ run_behind m l p q micro found → p'.nodes ≡ nodes_behind p q micro found
      → p'.reads ≡ reads_behind p q micro found → p'.published ≡ published_behind m p q micro
      → p'.records.finished ≡ finished_behind m l p q micro
      → p'.descriptors ≡ descriptors_behind m p q micro → p'.guards ≡ p.guards → p'.stage ≡ p.stage → p'.gone ≡ p.gone → Behind micro p'
  behind micro p' run nodes reads published finished descriptors guards stage present = record {
    run = run;
    nodes = nodes;
    reads = reads;
    published = published;
    finished = finished;
    descriptors = descriptors;
    guards = guards;
    stage = stage;
    present = present;
  }

  -- a Make's private load
  record Loads (made : Option ℕ) (slot : ℕ) (p' : PartState) : Type 0 where
    run : p'.run ≡ Some (inside.goes_on m l (filling_slot made q slot) found)
    nodes : p'.nodes ≡ nodes_taking made p.nodes slot
    reads : p'.reads ≡ p.reads
    published : p'.published ≡ p.published
    finished : p'.records.finished ≡ p.records.finished
    descriptors : p'.descriptors ≡ p.descriptors
    guards : p'.guards ≡ p.guards
    stage : p'.stage ≡ p.stage
    present : p'.gone ≡ p.gone

  loads : (made : Option ℕ) (slot : ℕ) → Loads made slot (inside.fill_loaded m l slot p q made found)
  loads None slot = record { run = refl; nodes = refl; reads = refl; published = refl; finished = refl; descriptors = refl; guards = refl; stage = refl; present = refl }
  loads (Some t) slot = record { run = refl; nodes = refl; reads = refl; published = refl; finished = refl; descriptors = refl; guards = refl; stage = refl; present = refl }

  load_behind : (cell log : ℕ) → Behind (micros.PrivateLoad cell log) (inside.fill_loaded m l (slot_in (make_slot q.made p.nodes.free)) p q q.made found)
  load_behind cell log = let h = loads q.made (slot_in (make_slot q.made p.nodes.free)) in
      behind (micros.PrivateLoad cell log) _ h.run h.nodes h.reads h.published h.finished h.descriptors h.guards h.stage h.present

  -- a Make's commit
  commit_behind : (log : ℕ) (o : Option ℕ) → q.made ≡ o → is_some o ≡ true → Behind (micros.MakeCommit log) (inside.make_committed m l p q q.made found)
  commit_behind log None made some = absurd (let z = some in cc)
  commit_behind log (Some slot) made some =
      let same : slot_in q.made ≡ slot = ap slot_in made in
      subst (λ (o : Option ℕ). Behind (micros.MakeCommit log) (inside.make_committed m l p q o found)) (sym made)
      (behind (micros.MakeCommit log) (inside.make_committed m l p q (Some slot) found)
      (ap (λ n. Some (inside.agrees m l (unfilled q) (written_once found (n + 1)))) (sym same))
      (ap (λ n. inside.made p q n found) (sym same)) refl refl refl refl refl refl refl)

  -- a release, the last one or another
  record IsPart (y : PartState) (place : ℕ) : Type 0 where
    nodes : y.nodes ≡ p.nodes
    reads : y.reads ≡ cell_read p.reads place found
    published : y.published ≡ p.published
    finished : y.records.finished ≡ p.records.finished
    descriptors : y.descriptors ≡ p.descriptors
    guards : y.guards ≡ p.guards
    stage : y.stage ≡ p.stage
    present : y.gone ≡ p.gone

  release_behind : (place word : ℕ) → Behind (micros.Release place word) (inside.lock_released m l place p q found)
  release_behind place word = by (is_end (next_of m (inside.ended_more q))) refl (record p { reads = cell_read p.reads place found })
      (record { nodes = refl; reads = refl; published = refl; finished = refl; descriptors = refl; guards = refl; stage = refl; present = refl })
    where
      by : (b : Bool) → is_end (next_of m (inside.ended_more q)) ≡ b → (y : PartState) → IsPart y place
          → Behind (micros.Release place word) (if b then inside.run_over m l y (inside.ended_more q) else inside.with_run y (inside.ended_more q))
      by true e y is = behind (micros.Release place word) _
          (sym (ap (λ b. if b then None else Some (inside.ended_more q)) e)) is.nodes is.reads
          (ap (λ (o : Option Published). inside.kept_unless o q.descriptor) is.published
          ∙ sym (ap (λ b. if b then inside.kept_unless p.published q.descriptor else p.published) e))
          (ap (λ (fs : List FinishedState). fs ++ inside.finished_of m l (inside.ended_more q) ∷ []) is.finished
          ∙ sym (ap (λ b. if b then p.records.finished ++ inside.finished_of m l (inside.ended_more q) ∷ [] else p.records.finished) e))
          (ap (λ (ds : DescriptorsState). inside.retired_if ds y.published q.descriptor) is.descriptors
          ∙ ap (λ (o : Option Published). inside.retired_if p.descriptors o q.descriptor) is.published
          ∙ sym (ap (λ b. if b then inside.retired_if p.descriptors p.published q.descriptor else p.descriptors) e))
          is.guards is.stage is.present
      by false e y is = behind (micros.Release place word) _
          (sym (ap (λ b. if b then None else Some (inside.ended_more q)) e)) is.nodes is.reads
          (is.published ∙ sym (ap (λ b. if b then inside.kept_unless p.published q.descriptor else p.published) e))
          (is.finished ∙ sym (ap (λ b. if b then p.records.finished ++ inside.finished_of m l (inside.ended_more q) ∷ [] else p.records.finished) e))
          (is.descriptors ∙ sym (ap (λ b. if b then inside.retired_if p.descriptors p.published q.descriptor else p.descriptors) e))
          is.guards is.stage is.present

  stamp_behind : nat_lt q.word last_clock ≡ true → Behind micros.StampExchange (inside.stamp_agreed m l p q found)
  stamp_behind low = subst (λ b. Behind micros.StampExchange (if b
      then record p {
        run = Some (inside.goes_on m l q (written_once found (stamp_after q.word)));
        records = learned p.records (thunk_of q.opened).request false (written_once found (stamp_after q.word));
      }
      else p)) (sym low) (behind micros.StampExchange _ refl refl refl refl
      (learned_finished p.records (thunk_of q.opened).request false (written_once found (stamp_after q.word))) refl refl refl refl)

  -- the step that stands next, where it is one of those that a run makes
  step_behind : (micro : Micro) → is_check micro ≡ false → is_end micro ≡ false → (micro ≡ micros.StampExchange → nat_lt q.word last_clock ≡ true)
      → ((log : ℕ) → micro ≡ micros.MakeCommit log → is_some q.made ≡ true) → Behind micro (line_after m l (kind_at p q micro) p q micro found)
  step_behind (micros.LoadCell place log) check over stamp made = behind (micros.LoadCell place log) _ refl refl refl refl refl refl refl refl refl
  step_behind (micros.Commit place log) check over stamp made = behind (micros.Commit place log) _ refl refl refl refl refl refl refl refl refl
  step_behind (micros.NestedLoad place log) check over stamp made = behind (micros.NestedLoad place log) _ refl refl refl refl refl refl refl refl refl
  step_behind (micros.NestedCommit place log) check over stamp made = behind (micros.NestedCommit place log) _ refl refl refl refl refl refl refl refl refl
  step_behind (micros.NestedHold place word) check over stamp made = behind (micros.NestedHold place word) _ refl refl refl refl refl refl refl refl refl
  step_behind (micros.OutcomeLoad place log) check over stamp made = behind (micros.OutcomeLoad place log) _ refl refl refl refl refl refl refl refl refl
  step_behind (micros.OutcomeCommit place log) check over stamp made = behind (micros.OutcomeCommit place log) _ refl refl refl refl refl refl refl refl refl
  step_behind (micros.PrivateLoad cell log) check over stamp made = load_behind cell log
  step_behind (micros.PrivateStore cell log value) check over stamp made = behind (micros.PrivateStore cell log value) _ refl refl refl refl refl refl refl refl refl
  step_behind (micros.MakeCommit log) check over stamp made = commit_behind log q.made refl (made log refl)
  step_behind micros.ClockLoad check over stamp made = behind micros.ClockLoad _ refl refl refl refl refl refl refl refl refl
  step_behind micros.StampExchange check over stamp made = stamp_behind (stamp refl)
  step_behind micros.ClockRaise check over stamp made = behind micros.ClockRaise _ refl refl refl refl refl refl refl refl refl
  step_behind (micros.ExchangeCell place log value) check over stamp made = behind (micros.ExchangeCell place log value) _ refl refl refl refl refl refl refl refl refl
  step_behind (micros.EpochForRetire slot log) check over stamp made = behind (micros.EpochForRetire slot log) _ refl refl refl refl refl refl refl refl refl
  step_behind (micros.RetireCommit slot log) check over stamp made = behind (micros.RetireCommit slot log) _ refl refl refl refl refl refl refl refl refl
  step_behind (micros.ReplyExchange reply) check over stamp made = behind (micros.ReplyExchange reply) _ refl refl refl refl
      (learned_finished p.records (thunk_of q.opened).request true (written_once found reply)) refl refl refl refl
  step_behind micros.SetDone check over stamp made = behind micros.SetDone _ refl refl refl refl refl refl refl refl refl
  step_behind (micros.Release place word) check over stamp made = release_behind place word
  step_behind micros.End check over stamp made = absurd (let z = over in cc)
  step_behind (micros.CheckWord place log word) check over stamp made = absurd (let z = check in cc)
  step_behind (micros.CheckFresh place log) check over stamp made = absurd (let z = check in cc)
  step_behind (micros.CheckFree place log word) check over stamp made = absurd (let z = check in cc)
  step_behind (micros.CheckHeld place log word) check over stamp made = absurd (let z = check in cc)

-- an enabled exchange of a stamp has room, and a Make that may commit has a slot
module _ (m : Meaning) (l : Layout) (rs : List Request) (r : ℕ) (p : PartState) (q : RunState) (runs : p.run ≡ Some q) (opened : is_open_run q ≡ true)
    (micro : Micro) where
  asked_here : (kind : EventKind) (x : Spot × Access) → next_of m q ≡ micro → Meets m l rs r p kind x → line_ask m l kind p.nodes.free p.blocks.free q micro ≡ Some x
  asked_here kind x ahead meets = ap (λ (y : Micro). line_ask m l kind p.nodes.free p.blocks.free q y) (sym ahead)
      ∙ line_asked m l rs r kind p q x meets runs opened

  stamp_low : micro ≡ micros.StampExchange → next_of m q ≡ micro → Meets m l rs r p (kind_at p q micro) (ask_at m p q micro)
      → nat_lt q.word last_clock ≡ true
  stamp_low e ahead meets =
      let asked = asked_here (kind_at p q micro) (ask_at m p q micro) ahead meets in
      (stamp_asked q (ask_at m p q micros.StampExchange) micros.StampExchange
      (subst (λ (y : Micro). line_ask m l (kind_at p q y) p.nodes.free p.blocks.free q y ≡ Some (ask_at m p q y)) e asked)).1

  made_some : (log : ℕ) → micro ≡ micros.MakeCommit log → next_of m q ≡ micro → Meets m l rs r p (kind_at p q micro) (ask_at m p q micro)
      → is_some q.made ≡ true
  made_some log e ahead meets =
      let asked = asked_here (kind_at p q micro) (ask_at m p q micro) ahead meets in
      let h = make_commit_asked q (ask_at m p q (micros.MakeCommit log)) (micros.MakeCommit log)
      (subst (λ (y : Micro). line_ask m l (kind_at p q y) p.nodes.free p.blocks.free q y ≡ Some (ask_at m p q y)) e asked) in ap is_some h.3

-- a part that has what this one has, but for its run and its blocks
record Leaves (p y : PartState) : Type 0 where
  nodes : y.nodes ≡ p.nodes
  reads : y.reads ≡ p.reads
  published : y.published ≡ p.published
  finished : y.records.finished ≡ p.records.finished
  descriptors : y.descriptors ≡ p.descriptors
  guards : y.guards ≡ p.guards
  stage : y.stage ≡ p.stage
  present : y.gone ≡ p.gone

module _ (m : Meaning) (laws : Laws m) (l : Layout) (limits : IsWithinLimits l) (rs : List Request) (allowed : AreAllowed rs) where
  pub then_stepped : ThenStepped m l rs
  then_stepped r p q micro x found is all ahead near has =
      let knows = known m laws l limits rs allowed r p q is in
      let same = line_same m l r p q is.running (kind_at p q micro) x found micro (opened m laws l limits rs allowed r p q is all) ahead in
      let meets = may_step m laws l limits rs allowed r p q is all micro ahead near has in
      let h = step_behind m l p q is.running found micro (ap is_check (sym ahead) ∙ next_no_check m q)
      (ap is_end (sym ahead) ∙ ((knows.next r q (runs m laws l limits rs allowed r p q is)).next all))
      (λ e. stamp_low m l rs r p q is.running (opened m laws l limits rs allowed r p q is all) micro e ahead meets)
      (λ log e. made_some m l rs r p q is.running (opened m laws l limits rs allowed r p q is all) micro log e ahead meets) in
      record {
        run = same.run ∙ h.run;
        nodes = same.nodes ∙ h.nodes;
        reads = same.reads ∙ h.reads;
        published = same.published ∙ h.published;
        finished = same.finished ∙ h.finished;
        descriptors = same.descriptors ∙ h.descriptors;
        blocks = blocks_stand m l p q micro found is.running (opened m laws l limits rs allowed r p q is all) ahead near;
        guards = same.guards ∙ h.guards;
        stage = same.stage ∙ h.stage;
        present = same.present ∙ h.present;
      }

  pub then_linked : ThenLinked m l rs
  then_linked r p q micro x found is all ahead needs =
      let same = line_same m l r p q is.running (kind_by less) x found micro (opened m laws l limits rs allowed r p q is all) ahead in
      let h = leaves less in
      let knows = known m laws l limits rs allowed r p q is in
      record {
        run = same.run ∙ line_run less;
        blocks = ap (λ (o : Option RunState). blocks_after m l (link_kind m l p q) p o found) is.running;
        kept = stock_stays m l p q found (opened m laws l limits rs allowed r p q is all) (ap (needs_link q) ahead ∙ needs)
            (λ b. subst (λ (y : PartState). times b y.blocks.free ≤ 1) (seen m laws l limits rs allowed r p q is) (free_once m l knows.beside (sight m l rs is.world) knows.whole r b))
            (after m l r (link_kind m l p q) x.0 x.1 p found) (same.run ∙ line_run less)
            (ap (λ (o : Option RunState). blocks_after m l (link_kind m l p q) p o found) is.running);
        nodes = same.nodes ∙ h.nodes;
        reads = same.reads ∙ h.reads;
        published = same.published ∙ h.published;
        finished = same.finished ∙ h.finished;
        descriptors = same.descriptors ∙ h.descriptors;
        guards = same.guards ∙ h.guards;
        stage = same.stage ∙ h.stage;
        present = same.present ∙ h.present;
      }
    where
      less : Bool
      less = nat_lt q.emptied block_words

      kind_by : Bool → EventKind
      kind_by b = if b then kinds.PrivateStore (blocks_from m l + slot_in (next_block p q)) q.emptied 0 else kinds.LinkCommit (slot_in q.block)

      back : (n b : ℕ) → n + b - n ≡ b
      back n b = omega arith

      line_run : (b : Bool) → (line_after m l (kind_by b) p q micro found).run
          ≡ (if b then Some (inside.block_emptied (slot_in (next_block p q)) q) else (inside.link_committed (slot_in q.block) p q found).run)
      line_run true = ap (λ c. Some (if c then inside.block_emptied (blocks_from m l + slot_in (next_block p q) - blocks_from m l) q else inside.filled m l 0 q)) needs
          ∙ ap (λ (b : ℕ). Some (inside.block_emptied b q)) (back (blocks_from m l) (slot_in (next_block p q)))
      line_run false = refl

      leaves : (b : Bool) → Leaves p (line_after m l (kind_by b) p q micro found)
      leaves true = record { nodes = refl; reads = refl; published = refl; finished = refl; descriptors = refl; guards = refl; stage = refl; present = refl }
      leaves false = record { nodes = refl; reads = refl; published = refl; finished = refl; descriptors = refl; guards = refl; stage = refl; present = refl }
