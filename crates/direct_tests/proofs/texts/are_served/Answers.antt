use Rattle.std.proofs.Common.{sym, ◌∙◌}
use Rattle.std.specs.Prelude.{◌&&◌, is_none, nat_lt}
use Rattle.std.proofs.lemmas.List.Sums.{AllPass-from_list_all}
use Rattle.direct_table.specs.map_history.specs.declared.op.Request.{Request}
use Rattle.direct_table.specs.map_history.specs.Keys.{key_of, other_key_of}
use Rattle.direct_tests.proofs.texts.are_served.Goals as goal

pub returns : goal.returns
returns c = λ is.
    AllPass-from_list_all (λ (x : Request). is_none (other_key_of x.op) && nat_lt (key_of x.op) 8) c.args.requests.now
    (sym c.are_low.ensures ∙ is)
