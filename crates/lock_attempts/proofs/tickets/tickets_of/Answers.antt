use Rattle.std.proofs.Common.{rules, refl}
use Rattle.lock_attempts.proofs.Numbering.{new_tickets}
use Rattle.lock_attempts.proofs.tickets.tickets_of.Goals as goal

pub returns-clause-tickets : goal.returns-clause-tickets
returns-clause-tickets g c =
    new_tickets c.args.table.now.layout.runners c.args.each c.requires.some c.args.table.now c.args.worker.now c.requires.own c.requires.tidy c.requires.new refl c.requires.number c.requires.tickets
    _ c.number-trace.ensures (search rules) (search rules)
