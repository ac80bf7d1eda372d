use Rattle.std.proofs.Common.{[], refl, ap, ◌∙◌}
use Rattle.machine_states.specs.runner_parts.specs.State.{GuardsState}
use Rattle.machine_states.specs.runner_parts.specs.Lists.{with_looked}
use Rattle.version_words.proofs.Stages.{may_enter_load, may_announce, may_enter_again, then_loaded, then_announced, then_entered}
use Rattle.epoch_slots.proofs.Outside.{guards_made, reads_made, own_kept, own_kept_on}
use Rattle.epoch_slots.proofs.entry.enter.Goals as goal

pub enter_load-runner-requires-clause-next : goal.enter_load-runner-requires-clause-next
enter_load-runner-requires-clause-next g c κs within = may_enter_load _ _ _ c.requires.idle

pub announce-runner-requires-clause-next : goal.announce-runner-requires-clause-next
announce-runner-requires-clause-next g c κs within = may_announce _ _ _ _ (then_loaded _ _ _ _ _ c.enter_load-runner.ensures.event c.requires.idle)

pub enter_again-runner-requires-clause-next : goal.enter_again-runner-requires-clause-next
enter_again-runner-requires-clause-next g c κs within =
    may_enter_again _ _ _ (then_announced _ _ _ _ _ _ (c.announce-runner.ensures.event 0) (then_loaded _ _ _ _ _ c.enter_load-runner.ensures.event c.requires.idle))

pub returns-clause-enters : goal.returns-clause-enters
returns-clause-enters g c =
    let load = c.enter_load-runner.ensures.event in
    let announce = c.announce-runner.ensures.event 0 in
    let again = c.enter_again-runner.ensures.event in
    let loaded = then_loaded _ _ _ _ _ load c.requires.idle in
    let announced = then_announced _ _ _ _ _ _ announce loaded in
    record {
      announced = c.enter_load-runner.result.1;
      epoch = c.enter_again-runner.result.1;
      loading = c.enter_load-runner.result.0;
      waiting = c.announce-runner.result;
      load = load;
      announce = record { found = 0; event = announce };
      again = again;
      at = then_entered _ _ _ _ _ again announced;
      reads = reads_made _ _ _ _ _ again announced.resting;
      guards = guards_made _ _ _ _ _ again announced.resting
          ∙ ap (λ (g : GuardsState). with_looked g []) (guards_made _ _ _ _ _ announce loaded.resting ∙ guards_made _ _ _ _ _ load c.requires.idle.resting);
      keeps = own_kept_on _ _ _ (own_kept _ _ _ _ _ load c.requires.idle.resting refl refl refl)
          (own_kept_on _ _ _ (own_kept _ _ _ _ _ announce loaded.resting refl refl refl)
          (own_kept _ _ _ _ _ again announced.resting refl refl refl));
    }
