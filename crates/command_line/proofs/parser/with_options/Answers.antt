use Rattle.std.proofs.Common.{◌∙◌, List, ap, ap₂, sym}
use Rattle.std.specs.Prelude.{◌||◌}
use Rattle.clap.specs.Simple.{App, app_of, with_rule}
use Rattle.clap.specs.Walk.{Rule}
use Rattle.command_line.proofs.Parses.{one_more_rule}
use Rattle.command_line.proofs.parser.with_options.Goals as goal

pub loop-option-preserved : goal.loop-option-preserved
loop-option-preserved c =
    let begun : App = app_of c.new-command.result in (
      c.in_ok-command.ensures.shape c.option_named.ensures.local
          ∙ ap₂ with_rule c.loop-option.invariant.0 c.option_named.ensures.rule
          ∙ ap (λ (rules : List Rule). record { top = record begun.top { rules = rules }; subs = begun.subs }) (sym (one_more_rule c.args.options.now c.loop-option.option-index _ c.loop-option-test.true)),
      c.in_ok-command.ensures.globals ∙ ap₂ ◌||◌ c.loop-option.invariant.1 c.option_named.ensures.local,
    )
