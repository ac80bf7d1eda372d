-- The tree keeps what it keeps, by every move.
use Rattle.structure_laws.specs.table_words.specs.declared.layout.Layout.{Layout}
use Rattle.structure_laws.specs.table_words.specs.Limits.{IsWithinLimits}
use Rattle.structure_laws.specs.Keeps.{Keeps}
use Rattle.tree_laws.specs.Leaves.{tree}
use Rattle.tree_laws.proofs.KeepsCollect.{collect_kept}
use Rattle.tree_laws.proofs.KeepsMake.{make_kept}
use Rattle.tree_laws.proofs.KeepsPass.{keeps_enters, keeps_leaves, keeps_holds, keeps_load, keeps_want, keeps_fresh, keeps_take, keeps_stamp, keeps_answer, keeps_done, keeps_lock, keeps_hand, keeps_advance}
use Rattle.tree_laws.proofs.KeepsRead.{keeps_reads}
use Rattle.tree_laws.proofs.KeepsRetire.{retire_kept}
use Rattle.tree_laws.proofs.KeepsStore.{keeps_store}

pub tree_keeps : (layout : Layout) → IsWithinLimits layout → Keeps tree layout
tree_keeps layout limits = record {
  enters = keeps_enters layout;
  reads = keeps_reads layout;
  leaves = keeps_leaves layout;
  holds = keeps_holds layout;
  load = keeps_load layout;
  want = keeps_want layout;
  fresh = keeps_fresh layout;
  take = keeps_take layout;
  make = λ s d t r x init here h prepared sound kept sound'. make_kept layout limits s sound kept d x here t r init h prepared;
  stamp = keeps_stamp layout;
  store = keeps_store layout limits;
  retire = λ s d t y x here h past recent bound sound kept sound'. retire_kept layout limits s sound kept d x here t y h bound;
  answer = keeps_answer layout;
  done = keeps_done layout;
  lock = keeps_lock layout;
  hand = keeps_hand layout;
  collect = λ s t y retired old sound kept sound'. collect_kept layout limits s sound kept t y retired old sound';
  advance = keeps_advance layout;
}
