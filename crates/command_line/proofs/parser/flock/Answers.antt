use Rattle.std.proofs.Common.{◌≡◌, ◌∙◌, [], true, codes, ap, ap₂}
use Rattle.std.proofs.lemmas.Result.{IfOk-weaker}
use Rattle.clap.specs.Simple.{App, Shape, app_of, app_of_fields, new_app, on_top, shape_of, with_subcommand}
use Rattle.command_line.specs.Generated.{gen_names, load_names}
use Rattle.command_line.specs.Options.{run_names}
use Rattle.command_line.specs.Parser.{shape_with}
use Rattle.command_line.proofs.parser.flock.Goals as goal

abbrev bare : App
bare = on_top (λ s. record s { no_binary_name = true }) (new_app (codes "flock"))

abbrev helpless : App
helpless = on_top (λ s. record s { disable_help_subcommand = true }) (on_top (λ s. record s { disable_help_flag = true }) bare)

abbrev top_of : App → Shape
top_of a = a.top

pub returns : goal.returns
returns c =
    let bare_is : app_of c.no_binary_name.result ≡ bare = ap app_of_fields c.no_binary_name.ensures ∙ ap (on_top (λ s. record s { no_binary_name = true })) c.new.ensures.app in
    let helpless_is : app_of c.disable_help_subcommand.result ≡ helpless =
    ap app_of_fields c.disable_help_subcommand.ensures
    ∙ ap (on_top (λ s. record s { disable_help_subcommand = true })) (ap app_of_fields c.disable_help_flag.ensures ∙ ap (on_top (λ s. record s { disable_help_flag = true })) bare_is) in
    let settings : app_of c.subcommand_required.result ≡ on_top (λ s. record s { subcommand_required = true }) helpless =
    ap app_of_fields c.subcommand_required.ensures ∙ ap (on_top (λ s. record s { subcommand_required = true })) helpless_is in
    let run_is : shape_of c.in_ok-run.run' ≡ shape_with (codes "run") run_names = ap top_of c.in_ok-run.ensures.app in
    let gen_is : shape_of c.in_ok-generate.generate ≡ shape_with (codes "gen") gen_names = ap top_of c.in_ok-generate.ensures.app in
    let load_is : shape_of c.in_ok-load.load ≡ shape_with (codes "load") load_names = ap top_of c.in_ok-load.ensures.app in
    let first = c.in_ok-subcommand.ensures.shape c.in_ok-run.ensures.local ∙ ap₂ with_subcommand settings run_is in
    let second = c.in_ok-subcommand-2.ensures.shape c.in_ok-generate.ensures.local ∙ ap₂ with_subcommand first gen_is in
    let check_is : shape_of c.in_ok-check.check ≡ shape_with (codes "check") [] = ap top_of c.in_ok-check.ensures.app in
    let third = c.in_ok-subcommand-3.ensures.shape c.in_ok-load.ensures.local ∙ ap₂ with_subcommand second load_is in
    IfOk-weaker c.subcommand-4.result _ _ (λ command adds. adds.shape c.in_ok-check.ensures.local ∙ ap₂ with_subcommand third check_is) c.subcommand-4.ensures
