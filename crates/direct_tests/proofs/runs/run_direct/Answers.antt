use Rattle.std.proofs.Common.{◌≡◌, false, sym, ap, ◌∙◌, subst}
use Rattle.direct_table.specs.direct_laws.specs.Direct.{direct}
use Rattle.direct_table.specs.declared.table.DirectTable.{DirectTable}
use Rattle.threaded_runs.specs.Runs.{AreServed}
use Rattle.direct_table.specs.try_lock.specs.Contents.{StandFor}
use Rattle.direct_tests.proofs.runs.run_direct.Goals as goal

pub returns-clause-served : goal.returns-clause-served
returns-clause-served g c = subst (λ m. AreServed m c.in_ok-words.words false false c.in_ok-words.answers.items)
    (λ i. direct (c.new-table.ensures.base i) (c.new-table.ensures.keys i)) c.in_ok-words.ensures.served.0

pub returns-clause-contents : goal.returns-clause-contents
returns-clause-contents g c = λ pairs stand.
    let base : c.in_ok-words.words.structure.base ≡ c.args.base = ap (λ (t : DirectTable). t.base) c.in_ok-words.ensures.words.structure ∙ c.new-table.ensures.base in
    let keys : c.in_ok-words.words.structure.keys ≡ 8 = ap (λ (t : DirectTable). t.keys) c.in_ok-words.ensures.words.structure ∙ c.new-table.ensures.keys in
    c.in_ok-pairs.ensures pairs (subst (λ m. StandFor m c.in_ok-words.words pairs) (λ i. direct (sym base i) (sym keys i)) stand)
