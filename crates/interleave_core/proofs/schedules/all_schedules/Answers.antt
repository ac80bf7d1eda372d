use Rattle.std.proofs.Common.{take, get_or, length, refl, sym, ap, ◌∙◌, Err}
use Rattle.std.proofs.lemmas.Option.{slice_get_read}
use Rattle.std.proofs.lemmas.List.{take_more}
use Rattle.machine_states.specs.runner_parts.specs.declared.event.Event.{Event}
use Rattle.machine_states.specs.World.{happens}
use Rattle.machine_states.proofs.Runs.{run_more}
use Rattle.machine_epochs.proofs.Reached.{sound_after, descriptors_after}
use Rattle.reached_histories.specs.machine_facts.specs.machine_invariant.proofs.After.{whole_after, log_words_after}
use Rattle.reached_histories.specs.machine_facts.specs.machine_invariant.proofs.Rising.{rises_after}
use Rattle.reached_histories.specs.machine_facts.proofs.Following.{facts_after, step_facts_after}
use Rattle.reached_histories.proofs.Histories.{history_after}
use Rattle.reached_histories.proofs.RealTime.{linearizable_after}
use Rattle.next_steps.proofs.Enabled.{reached_enabled}
use Rattle.next_steps.proofs.GoingOn.{reached_goes_on}
use Rattle.interleave_core.proofs.Stops.{stops}
use Rattle.interleave_core.proofs.schedules.all_schedules.Goals as goal

pub loop-at-preserved : goal.loop-at-preserved
loop-at-preserved g c =
    let begun = c.in-Ok.machine in
    let m = g.S.Structure.meaning begun.structure in
    let inv = c.loop-at.invariant in
    let fixed = c.in-Ok-step.ensures.fixed in
    let e = c.index-events-at.result in
    let more = take_more c.args.events.now c.loop-at.at e c.loop-at-test.true in
    let stepped = rw (inv.structure, inv.layout, inv.requests) at c.in-Ok-step.ensures.event in
    record {
      structure = fixed.structure ∙ inv.structure;
      layout = fixed.layout ∙ inv.layout;
      requests = fixed.requests ∙ inv.requests;
      so_far = rw more (run_more m begun.layout begun.requests (take c.loop-at.at c.args.events.now) (get_or c.args.events.now c.loop-at.at e) begun.world c.loop-at.machine.world c.step.new.self.world
          inv.so_far (ap (λ (x : Event). happens m begun.layout begun.requests c.loop-at.machine.world x) (sym c.index-events-at.is) ∙ stepped));
    }

pub returns-clause-epochs : goal.returns-clause-epochs
returns-clause-epochs g c = sound_after (g.S.Structure.meaning c.args.structure) c.args.layout c.args.requests.now c.args.events.now c.loop-at.machine.world

pub returns-clause-descriptors : goal.returns-clause-descriptors
returns-clause-descriptors g c = descriptors_after (g.S.Structure.meaning c.args.structure) c.args.layout c.args.requests.now c.args.events.now c.loop-at.machine.world

pub returns-clause-whole : goal.returns-clause-whole
returns-clause-whole g c =
    let met = g.met.S.Structure g.world.𝓛 g.world.𝓜 g.world.𝓡 ((λ s allowed. allowed), (λ patient. patient), (λ alone. alone), (λ cuts. cuts)) in
    whole_after (g.S.Structure.meaning c.args.structure) (met.laws c.args.structure) c.args.layout c.args.requests.now c.args.events.now c.loop-at.machine.world

pub returns-clause-logs : goal.returns-clause-logs
returns-clause-logs g c =
    let met = g.met.S.Structure g.world.𝓛 g.world.𝓜 g.world.𝓡 ((λ s allowed. allowed), (λ patient. patient), (λ alone. alone), (λ cuts. cuts)) in
    log_words_after (g.S.Structure.meaning c.args.structure) (met.laws c.args.structure) c.args.layout c.args.requests.now c.args.events.now c.loop-at.machine.world

pub returns-clause-rises : goal.returns-clause-rises
returns-clause-rises g c =
    let met = g.met.S.Structure g.world.𝓛 g.world.𝓜 g.world.𝓡 ((λ s allowed. allowed), (λ patient. patient), (λ alone. alone), (λ cuts. cuts)) in
    rises_after (g.S.Structure.meaning c.args.structure) (met.laws c.args.structure) c.args.layout c.args.requests.now c.args.events.now c.loop-at.machine.world

pub returns-clause-facts : goal.returns-clause-facts
returns-clause-facts g c =
    let met = g.met.S.Structure g.world.𝓛 g.world.𝓜 g.world.𝓡 ((λ s allowed. allowed), (λ patient. patient), (λ alone. alone), (λ cuts. cuts)) in
    facts_after (g.S.Structure.meaning c.args.structure) (met.laws c.args.structure) c.args.layout c.args.requests.now c.args.events.now c.loop-at.machine.world

pub returns-clause-steps : goal.returns-clause-steps
returns-clause-steps g c =
    let met = g.met.S.Structure g.world.𝓛 g.world.𝓜 g.world.𝓡 ((λ s allowed. allowed), (λ patient. patient), (λ alone. alone), (λ cuts. cuts)) in
    step_facts_after (g.S.Structure.meaning c.args.structure) (met.laws c.args.structure) c.args.layout c.args.requests.now c.args.events.now c.loop-at.machine.world

pub returns-clause-history : goal.returns-clause-history
returns-clause-history g c =
    let met = g.met.S.Structure g.world.𝓛 g.world.𝓜 g.world.𝓡 ((λ s allowed. allowed), (λ patient. patient), (λ alone. alone), (λ cuts. cuts)) in
    history_after (g.S.Structure.meaning c.args.structure) (met.laws c.args.structure) c.args.layout c.args.requests.now c.args.events.now c.loop-at.machine.world

pub returns-clause-order : goal.returns-clause-order
returns-clause-order g c =
    let met = g.met.S.Structure g.world.𝓛 g.world.𝓜 g.world.𝓡 ((λ s allowed. allowed), (λ patient. patient), (λ alone. alone), (λ cuts. cuts)) in
    linearizable_after (g.S.Structure.meaning c.args.structure) (met.laws c.args.structure) c.args.layout c.args.requests.now c.args.events.now c.loop-at.machine.world

pub returns-clause-next : goal.returns-clause-next
returns-clause-next g c = λ limits allowed after.
    let met = g.met.S.Structure g.world.𝓛 g.world.𝓜 g.world.𝓡 ((λ s allowed. allowed), (λ patient. patient), (λ alone. alone), (λ cuts. cuts)) in
    let m = g.S.Structure.meaning c.args.structure in
    let laws = met.laws c.args.structure in
    record {
      enabled = reached_enabled m laws c.args.layout limits c.args.requests.now allowed c.loop-at.machine.world (record { events = c.args.events.now; after = after });
      goes_on = reached_goes_on m laws c.args.layout limits c.args.requests.now allowed c.loop-at.machine.world (record { events = c.args.events.now; after = after });
    }

pub returns-in-Err-NotEnabled-clause-not_enabled : goal.returns-in-Err-NotEnabled-clause-not_enabled
returns-in-Err-NotEnabled-clause-not_enabled g c =
    let begun = c.in-Ok.machine in
    let inv = c.loop-at.invariant in
    let made = c.in-Ok.ensures in
    let refusal = c.in-Err-NotEnabled in
    let e = c.index-events-at.result in
    let m = g.S.Structure.meaning c.args.structure in
    let refused = rw (inv.structure, inv.layout, inv.requests, made.structure, made.layout, made.requests) at (refusal.ensures.refused refusal.enabled (ap Err refusal.field-0-is)) in
    let kinds = rw (inv.structure, inv.layout, inv.requests, made.structure, made.layout, made.requests) at (refusal.ensures.kinds refusal.enabled (ap Err refusal.field-0-is)) in
    let runs = rw (made.structure, made.layout, made.requests) at inv.so_far in
    let here = slice_get_read c.args.events.now (length c.args.events.now) c.loop-at.at e refl c.loop-at-test.true c.index-events-at.is in
    λ at enabled. stops m c.args.layout c.args.requests.now c.args.events.now begun.world c.loop-at.machine.world e c.loop-at.at refusal.enabled _ at enabled refusal.enabled-is made.first runs here refused kinds
