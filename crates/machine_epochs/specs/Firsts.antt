-- Where the slots are at first.
use Rattle.std.specs.Prelude.{ℕ, ◌-◌, ◌*◌, ◌/◌, nat_lt, cond}
use Rattle.machine_states.specs.table_words.specs.declared.layout.Layout.{Layout}
use Rattle.machine_states.specs.table_words.specs.Places.{slot_count}
use Rattle.machine_states.specs.structure_laws.specs.Meaning.{Meaning}
use Rattle.machine_states.specs.epoch_core.specs.declared.location.Location.{Location}
use Rattle.machine_states.specs.epoch_core.specs.declared.location.Location.TheVariants.{Fixed, Free}

-- whose is the thing with this number, where each worker has as many and the keeper the others
abbrev pub owner_of : ℕ → ℕ → ℕ → ℕ
owner_of each runners n = cond (nat_lt n (each * runners)) (n / each) runners

-- the fixed slots are fixed; each other one is free, and its owner's; descriptors come after the node slots
abbrev pub first_place : Meaning → Layout → ℕ → Location
first_place m l t = let slots = slot_count l m.fixed_slots in
    cond (nat_lt t m.fixed_slots) Fixed
    (cond (nat_lt t slots) (Free (owner_of l.nodes l.runners (t - m.fixed_slots)))
    (Free (owner_of l.sections l.runners (t - slots))))
