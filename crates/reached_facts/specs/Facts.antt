-- What holds of each state that the machine reaches over an allowed table.
use Rattle.std.specs.Prelude.{ℕ, List}
use Rattle.machine_states.specs.map_history.specs.declared.op.Request.{Request}
use Rattle.machine_states.specs.table_words.specs.declared.layout.Layout.{Layout}
use Rattle.machine_states.specs.table_words.specs.Limits.{IsWithinLimits}
use Rattle.machine_states.specs.structure_laws.specs.Meaning.{Meaning}
use Rattle.machine_states.specs.structure_laws.specs.Planner.{PlannerLaws}
use Rattle.machine_states.specs.World.{World}
use Rattle.machine_states.specs.Reached.{Reached}
use Rattle.machine_states.specs.Sight.{Sight, sight}
use Rattle.version_words.specs.machine_invariant.specs.After.{AreAllowed}
use Rattle.version_words.specs.machine_invariant.specs.Lengths.{ListsAreShort}
use Rattle.request_facts.specs.reached_histories.specs.Laws.{HasHistory}
use Rattle.request_facts.specs.Laws.{CallersStand}
use Rattle.keeper_facts.specs.runner_facts.specs.Facts.{BlocksAreEnough, BlocksAreKept, DescriptorsAreKept, LimboIsDone, WornAreWorn}
use Rattle.keeper_facts.specs.runner_facts.specs.Own.{OwnStand}
use Rattle.keeper_facts.specs.runner_facts.specs.Worn.{HasNoRepeats}
use Rattle.lock_words.specs.Spent.{SpentStand}
use Rattle.keeper_facts.specs.Freed.{LocksTell}
use Rattle.one_worker.specs.resource_bounds.specs.Versions.{VersionsAreCounted}
use Rattle.one_worker.specs.resource_bounds.specs.Makes.{MakesAreCounted, FewAreAdded}
use Rattle.one_worker.specs.resource_bounds.specs.InUse.{FewAreInUse}
use Rattle.one_worker.specs.Uncrossed.{OneWorkerIsUncrossed}
use Rattle.one_worker.specs.Ungiven.{LoneBoardIsEmpty}

module _ (m : Meaning) (layout : Layout) (requests : List Request) where
  -- all that holds of one state
  pub record HasFacts (s : Sight) : Type 0 where
    -- the stamped requests are one legal history, and what runners know of requests stands in it
    pub history : HasHistory m layout requests s
    pub callers : CallersStand m layout requests s
    -- each worker's descriptors are as many as the layout gives it, and each of its own is in its hands; the section
    -- of one in limbo is done
    pub descriptors : DescriptorsAreKept layout s
    pub own : OwnStand layout s
    pub limbo : LimboIsDone s
    -- its blocks are as many as the layout gives it, and a runner that has swept has as many free ones as an attempt may
    -- want
    pub blocks : BlocksAreKept layout s
    pub blocks_enough : BlocksAreEnough layout s
    -- slots that a runner holds worn are worn, and each stands once in its list
    pub worn : WornAreWorn m layout s
    pub worn_once : HasNoRepeats s
    -- words by which runs and plans stopped had too few versions left
    pub spent : SpentStand m layout s
    -- the keeper's record of its steps tells which locks name no section
    pub locks : LocksTell m layout s
    -- how much is used up: a runner's lists, pairs that were added, versions, and, where a planner keeps so many slots
    -- for a pair, node slots
    pub lists : ListsAreShort m layout s
    pub added : FewAreAdded m requests s
    pub versions : VersionsAreCounted layout s
    pub makes : (per_pair : ℕ) → PlannerLaws m per_pair → MakesAreCounted m layout requests s
    pub in_use : (per_pair : ℕ) → PlannerLaws m per_pair → FewAreInUse per_pair m layout requests s
    -- nobody crosses the steps of an only worker, and one that keeps its slots leaves the board empty
    pub uncrossed : OneWorkerIsUncrossed layout s
    pub ungiven : LoneBoardIsEmpty layout s

  -- the layout and the requests are allowed, and each reached state has these facts
  pub record KeepsFacts : Type 0 where
    pub limits : IsWithinLimits layout
    pub allowed : AreAllowed requests
    pub reached : (w : World) → Reached m layout requests w → HasFacts (sight m layout requests w)
