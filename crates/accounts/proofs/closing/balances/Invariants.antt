use Rattle.account_laws.specs.Accounts.{accounts_of}
use Rattle.accounts.proofs.Listing.{AreFirst}
use Rattle.accounts.proofs.closing.balances.Given as goal

abbrev pub invariant-loop-account : goal.invariant-loop-account
invariant-loop-account l = AreFirst (accounts_of l.words.structure.accounts l.words.structure.opening) l.words l.account l.balances.items
