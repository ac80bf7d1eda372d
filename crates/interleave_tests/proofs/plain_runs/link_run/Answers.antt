use Rattle.std.proofs.Common.{rules, refl}
use Rattle.interleave_tests.proofs.Memories.{versions_fit, slots_fit}
use Rattle.interleave_tests.proofs.plain_runs.link_run.Goals as goal

pub plain-outcome-requires-clause-versions : goal.plain-outcome-requires-clause-versions
plain-outcome-requires-clause-versions c = versions_fit c.in_ok-from_slice.field-0.items c.pack-first.result c.args.number c.args.link c.in_ok-from_slice.ensures.items (search rules) (search rules) (search rules)

pub plain-outcome-requires-clause-slots : goal.plain-outcome-requires-clause-slots
plain-outcome-requires-clause-slots c =
    slots_fit c.tray_body-body.result _ c.args.operand c.pack-first.result c.args.number c.args.link (c.tray_body-body.ensures.link refl c.requires) c.in_ok-from_slice.ensures.items (search rules) refl refl c.pack-first.ensures.version
