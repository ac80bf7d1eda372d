-- What the component of epochs and slots sees of the machine: the epoch, the announcements and the stages.
use Rattle.machine_states.specs.table_words.specs.declared.layout.Layout.{Layout}
use Rattle.machine_states.specs.table_words.specs.Places.{slot_count, descriptor_count}
use Rattle.machine_states.specs.table_words.specs.declared.spot.Spot.TheVariants.{Epoch, Announcement}
use Rattle.machine_states.specs.structure_laws.specs.Meaning.{Meaning}
use Rattle.machine_states.specs.epoch_core.specs.State.{Counts, EpochState}
use Rattle.machine_states.specs.Sight.{Sight}

-- how many workers, node slots and descriptors there are
abbrev pub counts_of : Meaning → Layout → Counts
counts_of m l = record { runners = l.runners; nodes = slot_count l m.fixed_slots; descriptors = descriptor_count l }

-- the machine's epoch, announcements and stages, beside what else the component's state has
abbrev pub entries_of : EpochState → Sight → EpochState
entries_of rest s = record rest {
  epoch = s.word Epoch;
  announced = λ r. s.word (Announcement r);
  stage = λ r. (s.part r).stage;
}
