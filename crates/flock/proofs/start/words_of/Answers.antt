use Rattle.std.specs.Prelude.{◌≡◌, IfOk, map}
use Rattle.std.proofs.Common.{string_bytes, rules, tests, subst, List, String, Global}
use Rattle.std.proofs.lemmas.Iterator.{YieldsList-from_slice, YieldsList-from_map_by}
use Rattle.std.proofs.lemmas.Iterator.Consumers.{map_from_collect}
use Rattle.flock_tool.specs.command_line.specs.Commands.{texts}
use Rattle.flock.proofs.start.words_of.Goals as goal

pub returns : goal.returns
returns c =
    let behind = c.behind_name-words.result.now in
    subst (λ (args : List (String Global)). IfOk c.collect.result (λ words. texts words.items ≡ map string_bytes args)) c.behind_name-words.ensures
    (map_from_collect _ c.collect.ensures.ran (YieldsList-from_map_by _ (λ r. r.now) string_bytes (YieldsList-from_slice behind cc) c.map.ensures.closure (λ x r q k. search (rules, tests))))
