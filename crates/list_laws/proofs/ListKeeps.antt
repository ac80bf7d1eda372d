-- Every move leads the list from a kept scene to a kept one.
use Rattle.structure_laws.specs.table_words.specs.declared.layout.Layout.{Layout}
use Rattle.structure_laws.specs.table_words.specs.Limits.{IsWithinLimits}
use Rattle.structure_laws.specs.Keeps.{Keeps}
use Rattle.list_laws.specs.Nodes.{list}
use Rattle.list_laws.proofs.Collect.{keeps_collect}
use Rattle.list_laws.proofs.Pass.{keeps_enters, keeps_leaves, keeps_holds, keeps_load, keeps_want, keeps_fresh, keeps_take}
use Rattle.list_laws.proofs.Pass.{keeps_stamp, keeps_answer, keeps_done, keeps_lock, keeps_hand, keeps_advance}
use Rattle.list_laws.proofs.Read.{keeps_reads}
use Rattle.list_laws.proofs.Slots.{keeps_make, keeps_retire}
use Rattle.list_laws.proofs.Stores.{keeps_store}

pub list_keeps : (layout : Layout) → IsWithinLimits layout → Keeps list layout
list_keeps layout limits = record {
  enters = keeps_enters layout;
  reads = keeps_reads layout;
  leaves = keeps_leaves layout;
  holds = keeps_holds layout;
  load = keeps_load layout;
  want = keeps_want layout;
  fresh = keeps_fresh layout;
  take = keeps_take layout;
  make = keeps_make layout;
  stamp = keeps_stamp layout;
  store = keeps_store layout limits;
  retire = keeps_retire layout;
  answer = keeps_answer layout;
  done = keeps_done layout;
  lock = keeps_lock layout;
  hand = keeps_hand layout;
  collect = keeps_collect layout;
  advance = keeps_advance layout;
}
