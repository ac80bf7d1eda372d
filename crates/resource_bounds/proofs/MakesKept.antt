-- What Makes used up is kept along the machine's steps.
use Rattle.std.specs.Prelude.{◌⊎◌, count_by, true, false, if◌then◌else◌}
use Rattle.std.proofs.Common.{◌≡◌, ◌≢◌, ℕ, zero, suc, ◌+◌, ◌<◌, ◌≤◌, List, length, refl, sym, ap, ◌∙◌, subst, ⊎_elim, inl, inr, arith, Option, Some, None}
use Rattle.std.proofs.lemmas.Bool.{cases_eq}
use Rattle.machine_states.specs.map_history.specs.declared.op.Request.{Request}
use Rattle.machine_states.specs.map_history.specs.Words.{adds_by}
use Rattle.machine_states.specs.map_history.proofs.Words.{adds_some}
use Rattle.machine_states.specs.body_terms.specs.Line.{line, micro_at, is_commit, no_registers}
use Rattle.machine_states.specs.body_terms.specs.Shape.{is_make}
use Rattle.machine_states.specs.body_terms.specs.declared.thunk.Thunk.{Thunk}
use Rattle.machine_states.specs.body_terms.specs.declared.step.Step.TheVariants.{Answer}
use Rattle.machine_states.specs.body_terms.specs.declared.micro.Micro.TheVariants as micros
use Rattle.machine_states.specs.table_words.specs.declared.layout.Layout.{Layout}
use Rattle.machine_states.specs.table_words.specs.declared.spot.Spot.{Spot}
use Rattle.machine_states.specs.table_words.specs.declared.spot.Spot.TheVariants as spots
use Rattle.machine_states.specs.table_words.specs.declared.access.Access.{Access}
use Rattle.machine_states.specs.table_words.specs.declared.access.Access.TheVariants.{Exchanges}
use Rattle.machine_states.specs.table_words.specs.Access.{written}
use Rattle.machine_states.specs.table_words.specs.Seen.{upd, put}
use Rattle.machine_states.specs.table_words.specs.Limits.{IsWithinLimits}
use Rattle.machine_states.specs.structure_laws.specs.Meaning.{Meaning}
use Rattle.machine_states.specs.structure_laws.specs.Laws.{Laws}
use Rattle.machine_states.specs.structure_laws.specs.Planner.{PlannerLawsOver}
use Rattle.machine_states.specs.structure_laws.specs.Shape.{HasStep}
use Rattle.machine_states.specs.runner_parts.specs.declared.entries.Published.{Published}
use Rattle.machine_states.specs.runner_parts.specs.declared.event.Event.{Event}
use Rattle.machine_states.specs.runner_parts.specs.declared.event.EventKind.TheVariants as kinds
use Rattle.machine_states.specs.runner_parts.specs.State.{RunState, PartState}
use Rattle.machine_states.specs.runner_steps.specs.Asks.{opening_ask}
use Rattle.machine_states.specs.runner_steps.specs.Asks.{ask_by, line_ask}
use Rattle.machine_states.specs.runner_steps.specs.After.{line_after, after_by}
use Rattle.machine_states.specs.runner_steps.specs.Sections.{is_open_run, next_of, is_beyond}
use Rattle.machine_states.specs.World.{World}
use Rattle.machine_states.specs.Reached.{Reached}
use Rattle.machine_states.specs.Sight.{Sight, sight, Steps}
use Rattle.machine_states.proofs.Sights.{unless_gone, joins}
use Rattle.machine_states.proofs.Steps.{some_same}
use Rattle.machine_states.proofs.Updates.{upd_here, upd_else}
use Rattle.machine_epochs.specs.Slots.{thunk_in}
use Rattle.reached_histories.specs.machine_facts.specs.machine_invariant.specs.machine_blocks.proofs.Asked.{make_commit_asked}
use Rattle.machine_epochs.proofs.RunPlaces.{next_in_line, open_run}
use Rattle.reached_histories.specs.machine_facts.specs.machine_agreement.proofs.LineAsked as asked_line
use Rattle.reached_histories.specs.machine_facts.specs.machine_agreement.proofs.RunPlaces.{run_here, used_here, opened_thunk}
use Rattle.reached_histories.specs.machine_facts.specs.Steps.{WordsStand}
use Rattle.reached_histories.specs.machine_facts.specs.States.{FactsStand}
use Rattle.reached_histories.specs.machine_facts.specs.After.{AreFactsOfStep}
use Rattle.reached_histories.specs.machine_facts.specs.machine_invariant.specs.Along.{Components}
use Rattle.reached_histories.specs.machine_facts.specs.machine_invariant.specs.After.{AreAllowed}
use Rattle.reached_histories.specs.machine_facts.specs.machine_invariant.specs.Slots.{times_among}
use Rattle.reached_histories.specs.Requests.{requests_of}
use Rattle.next_steps.proofs.Parts.{IsBlind, each_part}
use Rattle.next_steps.proofs.Enabled.{reached_enabled}
use Rattle.reached_histories.specs.Laws.{HasHistory}
use Rattle.reached_histories.proofs.Histories.{reached_have}
use Rattle.agreement_core.specs.Runs.{TrailIsSound}
use Rattle.machine_states.specs.epoch_core.specs.History.{is_out}
use Rattle.resource_bounds.specs.Makes.{slots_left}
use Rattle.resource_bounds.proofs.Lines.{makes_in, few_makes, some_make, makes_stay, makes_more}
use Rattle.resource_bounds.proofs.MakesSums.{total, total_more}
use Rattle.resource_bounds.proofs.Entries.{Stays, WinsMake, Ends, Gives, Leaves}
use Rattle.resource_bounds.proofs.Above.{leaves_own, above_own, above_before}
use Rattle.resource_bounds.proofs.Releases.{released_done}
use Rattle.resource_bounds.proofs.Sections.{reply_new, publisher, unreplied, answers_new}
use Rattle.machine_states.specs.body_terms.specs.Run.{written_once}
use Rattle.machine_states.specs.table_words.proofs.Seen.{put_here}
use Rattle.machine_states.specs.body_terms.specs.block_words.specs.Blocks.{log_spot, log_in}
use Rattle.machine_states.specs.runner_steps.specs.Outside.{is_sure_of}
use Rattle.machine_states.specs.runner_steps.specs.AfterInRun as inside
use Rattle.machine_states.proofs.Reached.{more_reached}
use Rattle.reached_histories.specs.machine_facts.specs.machine_invariant.specs.machine_blocks.proofs.Finding.{log_seen}
use Rattle.reached_histories.specs.machine_facts.specs.machine_invariant.specs.machine_blocks.proofs.Holding.{log_read}
use Rattle.reached_histories.specs.machine_facts.specs.machine_invariant.proofs.LogSteps.{kept_word, IsSure, reached_log_goes}

order : (a b : ℕ) → (a < b) ⊎ (b ≤ a)
order a b = search arith

module _ (m : Meaning) (l : Layout) (rs : List Request) where
  -- the worker of a request
  abbrev pub worker_of : ℕ → ℕ
  worker_of = (requests_of m l rs).worker

  -- the Makes of a published section on which its runs have agreed, where it is for this request, are so many at least
  pub record Makes (s : Sight) (q n : ℕ) : Type 0 where
    pub section : Published
    pub published : (s.part (worker_of q)).published ≡ Some section
    pub descriptor : ℕ
    pub thunk : Thunk
    pub at : section.descriptor ≡ descriptor
    pub of_thunk : section.thunk ≡ thunk
    pub request : thunk.request ≡ q
    pub many : n ≤ makes_in (λ k. log_in s.word descriptor k) (line (m.body thunk))
    pub adds : (j reply : ℕ) → HasStep m thunk j (Answer reply) → adds_by reply ≡ true

  -- so many Makes were won for this request at most
  abbrev pub IsMost : Sight → ℕ → ℕ → Type 0
  IsMost s q n = (n ≡ 0) ⊎ (((adds_by (s.word (spots.Reply q)) ≡ true) × (n ≤ 2)) ⊎ Makes s q n)

  -- by request, how many Makes were won for it
  pub record Counted (s : Sight) : Type 0 where
    pub won : ℕ → ℕ
    pub slots : (r : ℕ) → r < l.runners → (s.part r).records.gave_above ≡ true → l.nodes ≤ slots_left (s.part r).nodes + total won (length rs)
    pub most : (q : ℕ) → IsMost s q (won q)

-- of a state: what is published is a section, whose thunk stands there
module _ (m : Meaning) (l : Layout) (rs : List Request) (s : Sight) (stands : HasHistory m l rs s) (k : Components) (facts : FactsStand m l s k)
    (map : m.is_map ≡ true) where
  module _ (r : ℕ) (y : Published) (is : (s.part r).published ≡ Some y) where
    pub used_there : stands.beside.agreement.used y.descriptor ≡ true
    used_there = stands.whole.tied.used y.descriptor ∙ ap is_out ((stands.whole.slots.tied r).published y is)

    pub thunk_there : thunk_in s.word y.descriptor ≡ y.thunk
    thunk_there = facts.sound.sections.in_published.thunk r y is

  -- once the published section is done, its request has its reply
  pub settled : (q n : ℕ) (y : Makes m l rs s q n) → s.word (spots.DoneWord y.section.descriptor) ≢ 0
      → (n ≡ 0) ⊎ ((adds_by (s.word (spots.Reply q)) ≡ true) × (n ≤ 2))
  settled q zero y done = inl refl
  settled q (suc n) y done = inr (
    ap (λ i. adds_by (s.word (spots.Reply i))) (sym (ap (λ (t : Thunk). t.request) same ∙ y.request)) ∙ reply,
    (let few = few_makes log no_registers (m.body (thunk_in s.word d)) in let two = shaped in omega (arith, most, few, two)),
  )
    where
      d : ℕ
      d = y.section.descriptor

      log : ℕ → ℕ
      log k = log_in s.word d k

      sure : is_sure_of (s.part (worker_of m l rs q)).guards d ≡ true
      sure = (stands.whole.slots.tied (worker_of m l rs q)).published_sure y.section y.published

      used : stands.beside.agreement.used d ≡ true
      used = used_there (worker_of m l rs q) y.section y.published

      same : thunk_in s.word d ≡ y.thunk
      same = thunk_there (worker_of m l rs q) y.section y.published ∙ y.of_thunk

      most : suc n ≤ makes_in log (line (m.body (thunk_in s.word d)))
      most = subst (λ (t : Thunk). suc n ≤ makes_in log (line (m.body t))) (sym same)
          (subst (λ e. suc n ≤ makes_in (λ k. log_in s.word e k) (line (m.body y.thunk))) (sym y.at) y.many)

      some : (i k : ℕ) × (micro_at (line (m.body (thunk_in s.word d))) i ≡ micros.MakeCommit k) × (log k ≢ 0)
      some = some_make log (line (m.body (thunk_in s.word d))) (omega (arith, most))

      reply : adds_by (s.word (spots.Reply (thunk_in s.word d).request)) ≡ true
      reply = reply_new m l rs s stands d used some.0 some.1 some.2 (λ z. some.3 (log_read m l stands.whole.logs (worker_of m l rs q) d sure some.1 ∙ z)) done map
          (λ j n is. y.adds j n (subst (λ t. HasStep m t j (Answer n)) same is))

      shaped : count_by is_make (m.body (thunk_in s.word d)) ≤ 2
      shaped = subst (λ (t : Thunk). count_by is_make (m.body t) ≤ 2) (stands.whole.tied.thunk d used) ((stands.whole.kept.shaped d used).shape.makes)

-- one step of the machine
module _ (m : Meaning) (laws : Laws m) (l : Layout) (limits : IsWithinLimits l) (rs : List Request) (allowed : AreAllowed rs)
    (map : m.is_map ≡ true) (per_pair : ℕ) (over : PlannerLawsOver m l per_pair)
    (w v : World) (e : Event) (reached : Reached m l rs w) (facts : AreFactsOfStep m l rs w e v)
    (st : Steps m l rs (sight m l rs w) (sight m l rs v) e.runner e.kind) where
  abbrev s : Sight
  s = sight m l rs w

  abbrev s' : Sight
  s' = sight m l rs v

  abbrev r : ℕ
  r = e.runner

  abbrev p : PartState
  p = s.part r

  abbrev x : Spot × Access
  x = st.ask

  abbrev found : ℕ
  found = s.word x.0

  stands : HasHistory m l rs s
  stands = reached_have m laws l rs limits allowed w reached

  stands' : HasHistory m l rs s'
  stands' = reached_have m laws l rs limits allowed v (more_reached m l rs w v e reached facts.leads.happens)

  words : WordsStand facts.before.agreement.used s.word s'.word
  words = facts.leads.words

  once : (t : ℕ) → times_among p.nodes t ≤ 1
  once t = facts.there.sound.slots.in_nodes.once r t

  asked : ask_by m l rs r e.kind p p.run ≡ Some x
  asked = (unless_gone _ p.gone _ x st.asked).1

  own_leaves : Leaves l p (after_by m l e.kind p p.run found) e.kind found
  own_leaves = leaves_own m l rs s s' r e.kind st once

  -- a part after the step, by the runner's own and by the others that are as before
  parts : (Q : ℕ → PartState → Type 0) → IsBlind Q → Q r (after_by m l e.kind p p.run found) → ((i : ℕ) → i ≢ r → Q i (s.part i)) → (i : ℕ) → Q i (s'.part i)
  parts Q blind own rest i = subst (λ (y : Sight). Q i (y.part i)) (sym st.next)
      (each_part m l s r x Q blind e.kind (joins m l rs e.kind r p x st.asked) own rest i)

  -- a published section stays until its publisher has run it to its end
  published_stays : (i : ℕ) (y : Published) → (s.part i).published ≡ Some y → Stays y (s'.part i).published ⊎ Ends p e.kind y.descriptor
  published_stays = parts (λ i p'. (y : Published) → (s.part i).published ≡ Some y → Stays y p'.published ⊎ Ends p e.kind y.descriptor)
      (λ i p' blocks board records gone h. h) own_leaves.published (λ i ne y is. inl (y, is, refl, refl))

  -- a run releases a lock behind the store of its section's done word
  ended_done : (q : RunState) → p.run ≡ Some q → is_open_run q ≡ true → e.kind ≡ kinds.Release → s.word (spots.DoneWord q.descriptor) ≢ 0
  ended_done q runs opened is z =
      let in_line = subst (λ b. (if b then line_ask m l kinds.Release p.nodes.free p.blocks.free q (next_of m q) else opening_ask kinds.Release q) ≡ Some x) opened
      (subst (λ k. ask_by m l rs r k p (Some q) ≡ Some x) is (subst (λ o. ask_by m l rs r e.kind p o ≡ Some x) runs asked)) in
      let h = asked_line.release_asked q x l (next_of m q) in_line in
      released_done m l rs stands.beside s stands.whole r q runs opened h.0 h.1 h.2 ((stands.whole.sections.sections q.descriptor).done ∙ z)

  module _ (old : Counted m l rs s) where
    same_most : (q n : ℕ) → (n ≡ 0) ⊎ ((adds_by (s.word (spots.Reply q)) ≡ true) × (n ≤ 2)) → IsMost m l rs s' q n
    same_most q n h = ⊎_elim (λ z. inl z)
        (λ y. inr (inl (ap adds_by (words.reply q (adds_some (s.word (spots.Reply q)) y.0)) ∙ y.0, y.1))) h

    -- a word of a log stands, where somebody is sure of the descriptor
    log_stands : (d k : ℕ) → IsSure s d → IsSure s' d → log_in s.word d k ≢ 0 → log_in s'.word d k ≡ log_in s.word d k
    log_stands d k before behind some = ⊎_elim
        (λ same. same)
        (λ new. new.now ∙ kept_word (log_in s.word d k) new.proposal some)
        (reached_log_goes m laws l limits rs allowed w v r e.kind reached st d k before behind)

    most_keeps : (q n : ℕ) → IsMost m l rs s q n → IsMost m l rs s' q n
    most_keeps q n h = ⊎_elim (λ z. inl z)
        (λ more. ⊎_elim (λ y. same_most q n (inr y)) (λ y. ⊎_elim (stays y) (ends y)
        (published_stays (worker_of m l rs q) y.section y.published)) more) h
      where
        stays : (y : Makes m l rs s q n) → Stays y.section (s'.part (worker_of m l rs q)).published → IsMost m l rs s' q n
        stays y z = inr (inr (record {
          section = z.0;
          published = z.1;
          descriptor = y.descriptor;
          thunk = y.thunk;
          at = z.2 ∙ y.at;
          of_thunk = z.3 ∙ y.of_thunk;
          request = y.request;
          many = let before = y.many in
              let more = makes_stay (λ k. log_in s.word y.descriptor k) (λ k. log_in s'.word y.descriptor k)
              (λ k some. log_stands y.descriptor k
              (subst (IsSure s) y.at (worker_of m l rs q, (stands.whole.slots.tied (worker_of m l rs q)).published_sure y.section y.published))
              (subst (IsSure s') (z.2 ∙ y.at) (worker_of m l rs q, (stands'.whole.slots.tied (worker_of m l rs q)).published_sure z.0 z.1)) some)
              (line (m.body y.thunk)) in omega (arith, before, more);
          adds = y.adds;
        }))

        -- a section that is run to its end is done
        ends : (y : Makes m l rs s q n) → Ends p e.kind y.section.descriptor → IsMost m l rs s' q n
        ends y is = same_most q n (settled m l rs s stands facts.before facts.there map q n y
            (subst (λ d. s.word (spots.DoneWord d) ≢ 0) (sym is.of_section) (ended_done is.run is.runs is.opened is.is)))

    -- the step wins no commit of a Make
    kept : slots_left p.nodes ≤ slots_left (after_by m l e.kind p p.run found).nodes → Counted m l rs s'
    kept least = record {
      won = old.won;
      slots = λ i low above'. let before = old.slots i low (above_before m l rs s s' r e.kind st once i above') in let more = entries i in omega (arith, before, more);
      most = λ q. most_keeps q (old.won q) (old.most q);
    }
      where
        entries : (i : ℕ) → slots_left (s.part i).nodes ≤ slots_left (s'.part i).nodes
        entries = parts (λ i p'. slots_left (s.part i).nodes ≤ slots_left p'.nodes) (λ i p' blocks board records gone h. h) least (λ i ne. omega arith)

    -- it leaves the runner as many as it had at first, or gave away too many
    gave : Gives l (after_by m l e.kind p p.run found) → Counted m l rs s'
    gave given = record {
      won = old.won;
      slots = λ i low above'. ⊎_elim
          (λ same. let least = given.enough (above_own m l rs s s' r e.kind st once (ap (λ k. (s'.part k).records.gave_above) (sym same) ∙ above')) in let now = own i same in omega (arith, least, now))
          (λ ne. let before = old.slots i low (above_before m l rs s s' r e.kind st once i above') in let rest = others i ne in omega (arith, before, rest))
          (cases_eq i r);
      most = λ q. most_keeps q (old.won q) (old.most q);
    }
      where
        own : (i : ℕ) → i ≡ r → slots_left (after_by m l e.kind p p.run found).nodes ≤ slots_left (s'.part i).nodes
        own = parts (λ i p'. i ≡ r → slots_left (after_by m l e.kind p p.run found).nodes ≤ slots_left p'.nodes) (λ i p' blocks board records gone h. h) (λ same. omega arith) (λ i ne same. absurd (ne same))

        others : (i : ℕ) → i ≢ r → slots_left (s.part i).nodes ≤ slots_left (s'.part i).nodes
        others = parts (λ i p'. i ≢ r → slots_left (s.part i).nodes ≤ slots_left p'.nodes) (λ i p' blocks board records gone h. h) (λ ne. absurd (ne refl)) (λ i ne ne'. omega arith)

    -- it does
    module _ (wins : WinsMake p (after_by m l e.kind p p.run found) e.kind found) where
      abbrev q0 : RunState
      q0 = wins.run

      abbrev d : ℕ
      d = q0.descriptor

      in_line : line_ask m l kinds.MakeCommit p.nodes.free p.blocks.free q0 (next_of m q0) ≡ Some x
      in_line = subst (λ b. (if b then line_ask m l kinds.MakeCommit p.nodes.free p.blocks.free q0 (next_of m q0) else opening_ask kinds.MakeCommit q0) ≡ Some x) wins.opened
          (subst (λ k. ask_by m l rs r k p (Some q0) ≡ Some x) wins.is (subst (λ o. ask_by m l rs r e.kind p o ≡ Some x) wins.runs asked))

      module _ (slot k : ℕ) (next : next_of m q0 ≡ micros.MakeCommit k) (made : q0.made ≡ Some slot) (near : is_beyond q0 (Some k) ≡ false)
          (ask : (log_spot d q0.links k, Exchanges 0 (slot + 1)) ≡ x) where
        -- the log word, where the run looks for it
        abbrev spot : Spot
        spot = log_spot d q0.links k

        empty : s.word spot ≡ 0
        empty = ap (λ (y : Spot × Access). s.word y.0) ask ∙ wins.empty

        sure : IsSure s d
        sure = (r, (stands.whole.slots.tied r).run_sure q0 wins.runs)

        log_is : (stands.beside.agreement.section d).log k ≡ 0
        log_is = sym (log_seen m l stands.whole.logs.chain stands.beside.agreement stands.beside.epochs s stands.whole.slots stands.whole.logs.stands r q0 wins.runs k near) ∙ empty

        none : log_in s.word d k ≡ 0
        none = log_read m l stands.whole.logs sure.0 d sure.1 k ∙ log_is

        -- the run behind the step
        abbrev q1 : RunState
        q1 = inside.agrees m l (record q0 { made = None; worn = false }) (written_once found (slot + 1))

        own_run : (after_by m l e.kind p p.run found).run ≡ Some q1
        own_run = ap (λ k. (after_by m l k p p.run found).run) wins.is
            ∙ (ap (λ (o : Option RunState). (after_by m l kinds.MakeCommit p o found).run) wins.runs
            ∙ (ap (λ b. (if b then line_after m l kinds.MakeCommit p q0 (next_of m q0) found else inside.opened_more p q0 found).run) wins.opened
            ∙ ap (λ (o : Option ℕ). (inside.make_committed m l p q0 o found).run) made))

        runs' : (s'.part r).run ≡ Some q1
        runs' = parts (λ i p'. i ≡ r → p'.run ≡ Some q1) (λ i p' blocks board records gone h. h) (λ same. own_run) (λ i ne same. absurd (ne same)) r refl

        sure' : IsSure s' d
        sure' = (r, (stands'.whole.slots.tied r).run_sure q1 runs')

        some : log_in s'.word d k ≢ 0
        some z =
            let now : s'.word spot ≡ slot + 1 = ap (λ (y : Sight). y.word spot) st.next
            ∙ (ap (λ (y : Spot × Access). put s.word y.0 (written y.1 (s.word y.0)) spot) (sym ask)
            ∙ (put_here s.word spot (written (Exchanges 0 (slot + 1)) (s.word spot)) ∙ ap (written (Exchanges 0 (slot + 1))) empty)) in
            let seen : s'.word spot ≡ (stands'.beside.agreement.section d).log k = log_seen m l stands'.whole.logs.chain stands'.beside.agreement stands'.beside.epochs s' stands'.whole.slots stands'.whole.logs.stands r q1 runs' k near in
            let read = log_read m l stands'.whole.logs sure'.0 d sure'.1 k in
            omega (arith, z, now, seen, read)

        all : length q0.opened ≡ 13
        all = open_run q0 wins.opened

        used : stands.beside.agreement.used d ≡ true
        used = used_here m l stands.beside.agreement s stands.whole.sections r q0 wins.runs

        abbrev t : Thunk
        t = thunk_in s.word d

        at : micro_at (line (m.body t)) q0.at ≡ micros.MakeCommit k
        at = ap (λ (y : Thunk). micro_at (line (m.body y)) q0.at) (opened_thunk m l stands.beside.agreement s stands.whole.sections r q0 wins.runs all)
            ∙ next_in_line m q0 (micros.MakeCommit k) refl next

        edge : (stands.beside.agreement.section d).edge ≡ q0.at
        edge =
            let a = stands.beside.agreement in
            let here = run_here m l a s stands.whole.sections r q0 wins.runs in
            let trail = subst (λ i. TrailIsSound (a.section i) (a.run r)) here.descriptor (stands.whole.sections.sound.runs r here.running).in_trail in
            let sound = stands.whole.sections.sound.sections d used in
            let line = sound.published.line in
            let code = (stands.whole.sections.thunks d used).code q0.at ∙ at in
            let behind = trail.behind in
            let place = here.at in
            ⊎_elim (λ less. absurd (
            let log = line.counted.make_log q0.at k code in
            let more = line.counted.slot_commit q0.at (ap is_commit code) in
            let rises = line.counted.slot_rises (suc q0.at) (a.section d).edge (omega (arith, less)) in
            let full = sound.section.in_log.full k (omega (arith, log, more, rises)) in
            let same = log_is in omega (arith, full, same)))
            (λ le. omega (arith, le, behind, place))
            (order q0.at (a.section d).edge)

        abbrev n : ℕ
        n = t.request

        own : (y : Published) × ((s.part (worker_of m l rs n)).published ≡ Some y) × (y.descriptor ≡ d)
        own = publisher m l rs s stands d used q0.at k at edge

        few : n < length rs
        few = subst (λ (y : Thunk). y.request < length rs)
            (sym (opened_thunk m l stands.beside.agreement s stands.whole.sections r q0 wins.runs all))
            (((reached_enabled m laws l limits rs allowed w reached).runs r q0 wins.runs).thunk all).request

        own_stays : Stays own.0 (s'.part (worker_of m l rs n)).published
        own_stays = ⊎_elim (λ z. z) (λ ends. absurd (let z = sym wins.is ∙ ends.is in cc)) (published_stays (worker_of m l rs n) own.0 own.1)

        thunk_is : own.0.thunk ≡ t
        thunk_is = sym (thunk_there m l rs s stands facts.before facts.there map (worker_of m l rs n) own.0 own.1) ∙ ap (thunk_in s.word) own.2

        one_more : suc (makes_in (λ i. log_in s.word d i) (line (m.body t))) ≤ makes_in (λ i. log_in s'.word d i) (line (m.body t))
        one_more = makes_more (λ i. log_in s.word d i) (λ i. log_in s'.word d i)
            (λ i full. log_stands d i sure sure' full)
            (line (m.body t)) q0.at k at none some

        -- the Makes that its section had won
        had : IsMost m l rs s n (old.won n) → old.won n ≤ makes_in (λ i. log_in s.word d i) (line (m.body t))
        had h = ⊎_elim (λ z. omega (arith, z))
            (λ more. ⊎_elim (λ y. absurd (adds_some _ y.0 (unreplied m l rs s stands d used q0.at k at edge)))
            (λ y. let same : y.section ≡ own.0 = some_same y.section own.0 (sym y.published ∙ own.1) in
            let descriptor : y.descriptor ≡ d = sym y.at ∙ (ap (λ (z : Published). z.descriptor) same ∙ own.2) in
            let thunk : y.thunk ≡ t = sym y.of_thunk ∙ (ap (λ (z : Published). z.thunk) same ∙ thunk_is) in
            subst (λ (z : Thunk). old.won n ≤ makes_in (λ i. log_in s.word d i) (line (m.body z))) thunk
            (subst (λ j. old.won n ≤ makes_in (λ i. log_in s.word j i) (line (m.body y.thunk))) descriptor y.many)) more) h

        now : Makes m l rs s' n (suc (old.won n))
        now = record {
          section = own_stays.0;
          published = own_stays.1;
          descriptor = d;
          thunk = t;
          at = own_stays.2 ∙ own.2;
          of_thunk = own_stays.3 ∙ thunk_is;
          request = refl;
          many = let before = had (old.most n) in let more = one_more in omega (arith, before, more);
          adds = answers_new m l rs s stands d used q0.at k at edge per_pair over;
        }

        abbrev won' : ℕ → ℕ
        won' = upd old.won n (suc (old.won n))

        most' : (q : ℕ) → IsMost m l rs s' q (won' q)
        most' q = ⊎_elim
            (λ is. subst (λ i. IsMost m l rs s' i (won' i)) (sym is)
            (subst (IsMost m l rs s' n) (sym (upd_here old.won n (suc (old.won n)))) (inr (inr now))))
            (λ ne. subst (IsMost m l rs s' q) (sym (upd_else old.won n (suc (old.won n)) q ne)) (most_keeps q (old.won q) (old.most q)))
            (cases_eq q n)

        entries : (i : ℕ) → slots_left (s.part i).nodes ≤ suc (slots_left (s'.part i).nodes)
        entries = parts (λ i p'. slots_left (s.part i).nodes ≤ suc (slots_left p'.nodes)) (λ i p' blocks board records gone h. h) wins.less (λ i ne. omega arith)

        won_more : Counted m l rs s'
        won_more = record {
          won = won';
          slots = λ i low above'. let before = old.slots i low (above_before m l rs s s' r e.kind st once i above') in let less = entries i in let sum = total_more old.won n (length rs) few in
              omega (arith, before, less, sum);
          most = most';
        }

      won_one : Counted m l rs s'
      won_one =
          let c = make_commit_asked q0 x (next_of m q0) in_line in won_more c.0 c.2.log c.2.step c.1 c.2.near c.2.is

    pub counted_on : Counted m l rs s'
    counted_on = ⊎_elim kept (λ more. ⊎_elim won_one gave more) own_leaves.slots
