-- The events of agreement and of epochs that stand alone.
use Rattle.std.specs.Prelude.{Bool, true, false}
use Rattle.agreement_core.specs.Events.{Event}
use Rattle.agreement_core.specs.Events.{Publish, PrivateStore, MakeCommit, RetireCommit}
use Rattle.epoch_core.specs.Events as epochs

-- no publication, no private store, and no commit of a Make or of a Retire
abbrev pub is_plain : Event → Bool
is_plain (Publish d lock word request code slot) = false
is_plain (PrivateStore r cell log value place word) = false
is_plain (MakeCommit r log proposal) = false
is_plain (RetireCommit r slot log) = false
is_plain _ = true

-- an event of epochs and slots that changes nothing of a runner's readings, and is no commit of a Make, and
-- nothing of a Retire
abbrev pub is_alone : epochs.Event → Bool
is_alone (epochs.EnterAgain r) = false
is_alone (epochs.Exit r) = false
is_alone (epochs.MakeCommit r d index slot worn) = false
is_alone (epochs.RetireEpoch r d index slot) = false
is_alone (epochs.RetireCommit r) = false
is_alone _ = true

-- a publication
abbrev pub is_publication : Event → Bool
is_publication (Publish d lock word request code slot) = true
is_publication _ = false

-- a commit of a Retire
abbrev pub is_retire_commit : Event → Bool
is_retire_commit (RetireCommit r slot log) = true
is_retire_commit _ = false
