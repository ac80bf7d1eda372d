-- The Stamp and the Answer of a body.
use Rattle.std.proofs.Common.{◌≡◌, ℕ, ◌+◌, ◌*◌, ◌/◌, ◌<◌, ◌^◌, [], refl, sym, ap, ◌∙◌, arith, Option, Some}
use Rattle.idem_cell.specs.section_lines.specs.small_lemmas.proofs.Numbers.{tested_less as low}
use Rattle.idem_cell.specs.machine_states.specs.body_terms.specs.declared.micro.Micro.TheVariants as micros
use Rattle.idem_cell.specs.machine_states.specs.body_terms.specs.declared.step.Step.TheVariants.{Stamp, Answer}
use Rattle.idem_cell.specs.machine_states.specs.body_terms.specs.Line.{micro_at, registers_before}
use Rattle.idem_cell.specs.machine_states.specs.body_terms.specs.Line as lines
use Rattle.idem_cell.specs.machine_states.specs.body_terms.specs.Run.{written_once}
use Rattle.idem_cell.specs.machine_states.specs.table_words.specs.Access.{written}
use Rattle.idem_cell.specs.machine_states.specs.table_words.specs.Limits.{IsWithinLimits}
use Rattle.idem_cell.specs.machine_states.specs.table_words.specs.declared.layout.Layout.{Layout}
use Rattle.idem_cell.specs.machine_states.specs.table_words.specs.declared.spot.Spot.{Spot}
use Rattle.idem_cell.specs.machine_states.specs.table_words.specs.declared.spot.Spot.TheVariants as spots
use Rattle.idem_cell.specs.machine_states.specs.table_words.specs.declared.access.Access.{Access}
use Rattle.idem_cell.specs.machine_states.specs.table_words.specs.declared.access.Access.TheVariants.{Loads, Exchanges, Raises}
use Rattle.idem_cell.specs.machine_states.specs.structure_laws.specs.Meaning.{Meaning}
use Rattle.idem_cell.specs.machine_states.specs.structure_laws.specs.Laws.{Laws}
use Rattle.idem_cell.specs.machine_states.specs.runner_parts.specs.declared.event.EventKind.TheVariants as kinds
use Rattle.idem_cell.specs.machine_states.specs.runner_parts.specs.State.{RunState}
use Rattle.idem_cell.specs.machine_states.specs.runner_steps.specs.InRun.{last_clock, stamp_after}
use Rattle.idem_cell.specs.machine_states.specs.runner_steps.specs.Sections.{thunk_of, line_of, next_of}
use Rattle.idem_cell.specs.machine_states.specs.runner_steps.specs.AfterInRun.{goes_on}
use Rattle.idem_cell.specs.machine_states.proofs.Sights.{if_some}
use Rattle.idem_cell.specs.machine_states.proofs.Steps.{some_same}
use Rattle.nested_lock.specs.machine_facts.specs.machine_invariant.specs.After.{AreAllowed}
use Rattle.idem_alloc.specs.commit_log.specs.version_words.specs.RunnerState.{RunnerState}
use Rattle.idem_alloc.specs.commit_log.specs.version_words.specs.TableState.{TableState, IsOf}
use Rattle.idem_alloc.specs.commit_log.specs.version_words.specs.Events.{met_by, Makes, Leaves}
use Rattle.idem_alloc.specs.commit_log.specs.version_words.specs.Place.{own_stamp, own_reply}
use Rattle.idem_alloc.specs.commit_log.specs.Runs.{IsRunning, Stepped, Ran}
use Rattle.idem_alloc.specs.commit_log.proofs.Next.{settled_at, settled_next}
use Rattle.idem_alloc.specs.commit_log.proofs.Running.{may_make, asked_there, then_made, ran_one, ran_more}
use Rattle.section_runs.specs.Reached.{run_of}
use Rattle.section_runs.specs.Bodies.{body_of, MayGo, GoesOn}
use Rattle.section_runs.proofs.Going.{run_is, stock_same, nodes_same, begins_here, stands, comes_next, arrives, same_run}
use Rattle.section_runs.proofs.Cases.{append_none}

module _ {T : Type 0} (m : Meaning) (laws : Laws m) (t : TableState T) (limits : IsWithinLimits t.layout) (allowed : AreAllowed t.requests) (r : RunnerState T) (own : IsOf t r) where
  abbrev q : RunState
  q = run_of r

  abbrev l : Layout
  l = r.layout

  -- the Stamp's three steps
  module _ (may : MayGo m Stamp r) where
    there : (i at : ℕ) → i < 3 → at ≡ q.at + i → micro_at (line_of m q) at ≡ micro_at (lines.micros (registers_before (body_of m r) may.n) Stamp) i
    there i at few e = stands m r may.n Stamp may.before may.here i at refl few e

    clock_next : next_of m q ≡ micros.ClockLoad
    clock_next = comes_next m r may.n Stamp may.before may.here micros.ClockLoad refl refl refl

    pub may_load : met_by m r kinds.ClockLoad ≡ Some (spots.Clock, Loads)
    may_load = may_make m laws t limits allowed r own q may.before.running micros.ClockLoad clock_next refl refl

    pub loads : (clock : ℕ) (r1 : RunnerState T) → Makes m kinds.ClockLoad clock r r1 → Stepped m q micros.ClockLoad clock r r1
    loads clock r1 made = then_made m laws t limits allowed r own q may.before.running micros.ClockLoad clock_next refl refl clock r1 made

    module _ (clock : ℕ) (r1 : RunnerState T) (own1 : IsOf t r1) (load : Stepped m q micros.ClockLoad clock r r1) where
      abbrev q1 : RunState
      q1 = goes_on m l q clock

      running1 : IsRunning m r1 q1
      running1 = load.goes_on q1 load.behind.run

      layout1 : r1.layout ≡ l
      layout1 = ap (λ (y : RunnerState T). y.layout) load.event.made

      exchange_there : micro_at (line_of m q) (q.at + 1) ≡ micros.StampExchange
      exchange_there = there 1 (q.at + 1) (omega arith) refl

      exchange_next : next_of m q1 ≡ micros.StampExchange
      exchange_next = settled_next m l (record q { at = q.at + 1; word = clock }) micros.StampExchange exchange_there refl

      q1_at : q1.at ≡ q.at + 1
      q1_at = ap (λ (y : RunState). y.at) (settled_at m l (record q { at = q.at + 1; word = clock }) micros.StampExchange exchange_there refl)

      pub few_clock : clock < 2 ^ 62
      few_clock = low clock last_clock (if_some _ _ _ (asked_there m laws t limits allowed r1 own1 q1 running1 micros.StampExchange exchange_next refl refl)).0

      pub may_exchange : (stamp : ℕ) → stamp ≡ 2 * (clock + 1) → met_by m r1 kinds.StampExchange ≡ Some (own_stamp r1.part.run, Exchanges 0 stamp)
      may_exchange stamp e = may_make m laws t limits allowed r1 own1 q1 running1 micros.StampExchange exchange_next refl refl
          ∙ ((λ i. Some (spots.Stamp ((thunk_of q1.opened).request), Exchanges 0 (sym e i)))
          ∙ ap (λ (o : Option RunState). Some (own_stamp o, Exchanges 0 stamp)) (sym running1.inside.running))

      pub exchanges : (found : ℕ) (r2 : RunnerState T) → Makes m kinds.StampExchange found r1 r2 → Stepped m q1 micros.StampExchange found r1 r2
      exchanges found r2 made = then_made m laws t limits allowed r1 own1 q1 running1 micros.StampExchange exchange_next refl refl found r2 made

      pub stamp_is : (given stamp : ℕ) → given ≡ 2 * (clock + 1) → (r2 : RunnerState T) (made : Leaves m kinds.StampExchange stamp r1 r2) → stamp ≡ written_once made.found (stamp_after clock)
      stamp_is given stamp e r2 made =
          let met = some_same made.event.met (own_stamp r1.part.run, Exchanges 0 given) (sym made.event.asked ∙ may_exchange given e) in
          made.told ∙ (ap (λ (x : Spot × Access). written x.1 made.found) met ∙ ap (written_once made.found) e)

      module _ (found : ℕ) (r2 : RunnerState T) (own2 : IsOf t r2) (exchange : Stepped m q1 micros.StampExchange found r1 r2) where
        abbrev stamp : ℕ
        stamp = written_once found (stamp_after clock)

        abbrev q2 : RunState
        q2 = goes_on m l q1 stamp

        layout2 : r2.layout ≡ l
        layout2 = ap (λ (y : RunnerState T). y.layout) exchange.event.made ∙ layout1

        running2 : IsRunning m r2 q2
        running2 = exchange.goes_on q2 (exchange.behind.run ∙ ap (λ (x : Layout). Some (goes_on m x q1 stamp)) layout1)

        raise_there : micro_at (line_of m q) (q1.at + 1) ≡ micros.ClockRaise
        raise_there = there 2 (q1.at + 1) (omega arith) (let a = q1_at in omega (arith, a))

        raise_next : next_of m q2 ≡ micros.ClockRaise
        raise_next = settled_next m l (record q1 { at = q1.at + 1; word = stamp }) micros.ClockRaise raise_there refl

        q2_at : q2.at ≡ q.at + 2
        q2_at = ap (λ (y : RunState). y.at) (settled_at m l (record q1 { at = q1.at + 1; word = stamp }) micros.ClockRaise raise_there refl) ∙ (let a = q1_at in omega (arith, a))

        pub may_raise : (number : ℕ) → number ≡ stamp / 2 → met_by m r2 kinds.ClockRaise ≡ Some (spots.Clock, Raises number)
        may_raise number e = may_make m laws t limits allowed r2 own2 q2 running2 micros.ClockRaise raise_next refl refl ∙ ap (λ n. Some (spots.Clock, Raises n)) (sym e)

        pub raises : (other : ℕ) (r3 : RunnerState T) → Makes m kinds.ClockRaise other r2 r3 → Stepped m q2 micros.ClockRaise other r2 r3
        raises other r3 made = then_made m laws t limits allowed r2 own2 q2 running2 micros.ClockRaise raise_next refl refl other r3 made

        module _ (other : ℕ) (r3 : RunnerState T) (raise : Stepped m q2 micros.ClockRaise other r2 r3) where
          abbrev last : RunState
          last = record q2 { at = q2.at + 1; word = q2.word }

          layout3 : r3.layout ≡ l
          layout3 = ap (λ (y : RunnerState T). y.layout) raise.event.made ∙ layout2

          running3 : IsRunning m r3 (goes_on m l q2 q2.word)
          running3 = raise.goes_on (goes_on m l q2 q2.word) (raise.behind.run ∙ ap (λ (x : Layout). Some (goes_on m x q2 q2.word)) layout2)

          pub stamp_ran : Ran m 3 r r3
          stamp_ran = ran_more m 1 2 r r1 r3 (ran_one m _ _ _ _ _ load) (ran_more m 1 1 r1 r2 r3 (ran_one m _ _ _ _ _ exchange) (ran_one m _ _ _ _ _ raise))

          pub stamp_goes : GoesOn m Stamp r r3
          stamp_goes = record {
            before = λ n before here.
                let b = begins_here m r n Stamp before here refl in
                let a = q2_at in
                arrives m r n Stamp before here r3 last [] running3 layout3 refl refl (sym (append_none q.trail)) refl before.none before.unended
                (stock_same r.part r3.part q (raise.behind.blocks ∙ (exchange.behind.blocks ∙ load.behind.blocks))) (omega (arith, a, b));
            same = same_run m r r3 _ running3 layout3 refl refl;
            nodes = nodes_same Stamp r.part.nodes r3.part.nodes (raise.behind.nodes ∙ (exchange.behind.nodes ∙ load.behind.nodes));
          }

          pub stamp_trail : (run_of r3).trail ≡ q.trail
          stamp_trail = ap (λ (y : RunState). y.trail) (sym (run_is m r3 _ running3))

  -- the Answer's one
  module _ (reply : ℕ) (may : MayGo m (Answer reply) r) where
    answer_next : next_of m q ≡ micros.ReplyExchange reply
    answer_next = comes_next m r may.n (Answer reply) may.before may.here (micros.ReplyExchange reply) refl refl refl

    pub may_answer : met_by m r kinds.ReplyExchange ≡ Some (own_reply r.part.run, Exchanges 0 reply)
    may_answer = may_make m laws t limits allowed r own q may.before.running (micros.ReplyExchange reply) answer_next refl refl
        ∙ ap (λ (o : Option RunState). Some (own_reply o, Exchanges 0 reply)) (sym may.before.running.inside.running)

    pub answers : (found : ℕ) (r1 : RunnerState T) → Makes m kinds.ReplyExchange found r r1 → Stepped m q (micros.ReplyExchange reply) found r r1
    answers found r1 made = then_made m laws t limits allowed r own q may.before.running (micros.ReplyExchange reply) answer_next refl refl found r1 made

    module _ (found : ℕ) (r1 : RunnerState T) (answer : Stepped m q (micros.ReplyExchange reply) found r r1) where
      layout_answered : r1.layout ≡ l
      layout_answered = ap (λ (y : RunnerState T). y.layout) answer.event.made

      running_answered : IsRunning m r1 (goes_on m l q q.word)
      running_answered = answer.goes_on (goes_on m l q q.word) answer.behind.run

      pub answer_goes : GoesOn m (Answer reply) r r1
      answer_goes = record {
        before = λ n before here.
            let b = begins_here m r n (Answer reply) before here refl in
            arrives m r n (Answer reply) before here r1 (record q { at = q.at + 1; word = q.word }) [] running_answered layout_answered refl refl (sym (append_none q.trail)) refl before.none before.unended
            (stock_same r.part r1.part q answer.behind.blocks) (omega (arith, b));
        same = same_run m r r1 _ running_answered layout_answered refl refl;
        nodes = nodes_same (Answer reply) r.part.nodes r1.part.nodes answer.behind.nodes;
      }

      pub answer_trail : (run_of r1).trail ≡ q.trail
      answer_trail = ap (λ (y : RunState). y.trail) (sym (run_is m r1 _ running_answered))
