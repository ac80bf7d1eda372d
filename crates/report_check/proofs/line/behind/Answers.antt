use Rattle.std.proofs.Common.{Option, None, Some}
use Rattle.std.specs.Prelude.{IfNone, IfSome, MatchOption}
use Rattle.std.proofs.lemmas.Bool.Decides.{Decides-eqb}
use Rattle.std.proofs.lemmas.Slice.Eq.{strip_prefix_is}
use Rattle.report_check.proofs.line.behind.Goals as goal

some_case : {T : Type 0} (P : Type 0) (Q : T → Type 0) (found : Option T) → MatchOption found P Q → IfSome found Q
some_case P Q None cases = tt
some_case P Q (Some x) cases = cases

none_case : {T : Type 0} (P : Type 0) (Q : T → Type 0) (found : Option T) → MatchOption found P Q → IfNone found P
none_case P Q None cases = cases
none_case P Q (Some x) cases = tt

pub returns-clause-some : goal.returns-clause-some
returns-clause-some c = some_case _ _ c.strip_prefix.result (strip_prefix_is Decides-eqb c.args.line.now c.args.word.now c.strip_prefix.result c.strip_prefix.ensures.cases)

pub returns-clause-none : goal.returns-clause-none
returns-clause-none c = none_case _ _ c.strip_prefix.result (strip_prefix_is Decides-eqb c.args.line.now c.args.word.now c.strip_prefix.result c.strip_prefix.ensures.cases)
