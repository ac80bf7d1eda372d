use Rattle.std.proofs.Common.{arith}
use Rattle.account_laws.proofs.AccountLaws.{account_laws}
use Rattle.account_laws.proofs.laws.accounts_meet_the_laws.Goals as goal

pub returns : goal.returns
returns c = account_laws c.args.accounts c.args.opening c.requires (let small = c.ranges.opening in omega (arith, small))
