-- The state of the machine: the table's words, and one part per runner, the keeper's first.
use Rattle.std.specs.Prelude.{ℕ, suc, List, [], ◌∷◌, Bool, true, false, ◌==◌, slice_get, slice_index, slice_set, Option, Some, None, if◌then◌else◌}
use Rattle.runner_steps.specs.map_history.specs.declared.op.Request.{Request}
use Rattle.runner_steps.specs.table_words.specs.declared.layout.Layout.{Layout}
use Rattle.runner_steps.specs.table_words.specs.Access.{written}
use Rattle.runner_steps.specs.table_words.specs.Places.{address}
use Rattle.runner_steps.specs.runner_parts.specs.structure_laws.specs.Meaning.{Meaning}
use Rattle.runner_steps.specs.runner_parts.specs.declared.event.EventKind.{EventKind}
use Rattle.runner_steps.specs.runner_parts.specs.declared.event.EventKind.TheVariants as kinds
use Rattle.runner_steps.specs.runner_parts.specs.declared.event.Event.{Event}
use Rattle.runner_steps.specs.runner_parts.specs.State.{PartState}
use Rattle.runner_steps.specs.Outside.{Ask}
use Rattle.runner_steps.specs.Asks.{asks, sizes_for}
use Rattle.runner_steps.specs.After.{after, leaves, knows_also}

pub record World : Type 0 where
  pub words : List ℕ
  pub parts : List PartState

-- where a runner's part stands: the keeper's first, then the workers' in order
abbrev pub seat_of : Layout → ℕ → ℕ
seat_of l r = if r == l.runners then 0 else suc r

-- the keeper's part after a join: it knows also what the worker knew
abbrev pub knowing : PartState → Option PartState → PartState
knowing keeper None = keeper
knowing keeper (Some worker) = knows_also keeper worker

-- whether this is a join, the one kind of event that reads and changes another runner's part too
abbrev pub is_join : EventKind → Bool
is_join (kinds.Join worker) = true
is_join _ = false

-- the stepping runner's part at the end of the event, where these parts stood before
abbrev pub settled_part : EventKind → PartState → List PartState → PartState
settled_part (kinds.Join worker) p parts = knowing p (slice_get parts (suc worker))
settled_part _ p parts = p

-- a worker that was joined makes no further step
abbrev pub left_by : List PartState → ℕ → Option PartState → List PartState
left_by parts seat None = parts
left_by parts seat (Some q) = slice_set parts seat (leaves q)

-- the parts after an event, with the stepping runner's part in its place; a join changes the worker's too,
-- and no other event changes another part
abbrev pub put_part : List PartState → EventKind → ℕ → PartState → List PartState
put_part parts (kinds.Join worker) seat p =
    left_by (slice_set parts seat p) (suc worker) (slice_get (slice_set parts seat p) (suc worker))
put_part parts _ seat p = slice_set parts seat p

-- the state after an event that asks this of this part
abbrev pub acted : Meaning → Layout → List Request → World → ℕ → EventKind → PartState → Ask → Option World
acted m l requests w r kind p None = None
acted m l requests w r kind p (Some x) =
    let s = sizes_for m l requests in
    let p' = after m l r kind x.0 x.1 p (slice_index w.words (address s x.0)) in
    Some (record {
      words = slice_set w.words (address s x.0) (written x.1 (slice_index w.words (address s x.0)));
      parts = put_part w.parts kind (seat_of l r) (settled_part kind p' w.parts);
    })

abbrev pub acts : Meaning → Layout → List Request → World → ℕ → EventKind → Option PartState → Option World
acts m l requests w r kind None = None
acts m l requests w r kind (Some p) = acted m l requests w r kind p (asks m l requests r kind p)

-- the state after this event; None where it isn't enabled
abbrev pub happens : Meaning → Layout → List Request → World → Event → Option World
happens m l requests w event = acts m l requests w event.runner event.kind (slice_get w.parts (seat_of l event.runner))

abbrev pub then_run : Option World → (World → Option World) → Option World
then_run None f = None
then_run (Some w) f = f w

-- the state after these events; None where one of them isn't enabled
abbrev pub run : Meaning → Layout → List Request → World → List Event → Option World
run m l requests w [] = Some w
run m l requests w (e ∷ es) = then_run (happens m l requests w e) (λ v. run m l requests v es)
