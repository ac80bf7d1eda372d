use Rattle.std.proofs.Common.{sym, ap, ◌∙◌, subst}
use Rattle.account_laws.specs.Accounts.{lock_of, accounts_of}
use Rattle.lock_walks.specs.Way.{Leads}
use Rattle.accounts.specs.Walk.{transfer_way}
use Rattle.accounts.specs.Made.{Makes}
use Rattle.accounts.specs.declared.walk.Found.TheVariants.{Nothing}
use Rattle.accounts.specs.declared.walk.TransferWalk.{TransferWalk}
use Rattle.accounts.proofs.Leading.{leads}
use Rattle.accounts.proofs.Making.{makes}
use Rattle.accounts.proofs.Sums.{in_order, below}
use Rattle.accounts.proofs.Wanting.{wants_were_read}
use Rattle.accounts.proofs.table.Accounts.walk.Goals as goal

pub returns-clause-leads : goal.returns-clause-leads
returns-clause-leads c =
    let t = c.args.transfer in
    let s = c.args.self.now in
    subst (λ place. Leads {W = TransferWalk} transfer_way (accounts_of s.accounts s.opening) c.args.layout (record { transfer = t; lock = place; version_max = c.args.layout.version_max; op = c.args.op; found = Nothing }))
    (sym (c.lock_of.ensures ∙ ap lock_of c.lower-lower.ensures))
    (leads s.accounts s.opening c.args.layout c.args.op t (in_order t c.requires.apart) (below s.accounts t c.requires.from c.requires.to))

pub returns-clause-wants : goal.returns-clause-wants
returns-clause-wants c = wants_were_read c.args.self.now.accounts c.args.self.now.opening

pub returns-clause-makes : goal.returns-clause-makes
returns-clause-makes c =
    let t = c.args.transfer in
    let s = c.args.self.now in
    subst (λ place. Makes (accounts_of s.accounts s.opening) t (record { transfer = t; lock = place; version_max = c.args.layout.version_max; op = c.args.op; found = Nothing }))
    (sym (c.lock_of.ensures ∙ ap lock_of c.lower-lower.ensures))
    (makes s.accounts s.opening c.args.layout.version_max c.args.op t (in_order t c.requires.apart) (below s.accounts t c.requires.from c.requires.to))
