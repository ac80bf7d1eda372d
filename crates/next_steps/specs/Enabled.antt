-- The next step of a run is enabled.
use Rattle.std.specs.Prelude.{ℕ, ◌<◌, ◌≤◌, ◌≡◌, true, false, is_some, List, length, slice_get, Some}
use Rattle.machine_states.specs.map_history.specs.declared.op.Request.{Request}
use Rattle.machine_states.specs.body_terms.specs.Cost.{run_cost}
use Rattle.machine_states.specs.body_terms.specs.Shape.{IsShaped}
use Rattle.machine_states.specs.table_words.specs.Places.{descriptor_count}
use Rattle.machine_states.specs.table_words.specs.declared.layout.Layout.{Layout}
use Rattle.machine_states.specs.table_words.specs.declared.spot.Spot.{Spot}
use Rattle.machine_states.specs.table_words.specs.declared.access.Access.{Access}
use Rattle.machine_states.specs.structure_laws.specs.Meaning.{Meaning}
use Rattle.machine_states.specs.structure_laws.specs.Shape.{most_of_run}
use Rattle.machine_states.specs.runner_parts.specs.declared.event.EventKind.{EventKind}
use Rattle.machine_states.specs.runner_parts.specs.State.{RunState, PartState}
use Rattle.machine_states.specs.runner_steps.specs.Asks.{asks}
use Rattle.machine_states.specs.runner_steps.specs.Sections.{thunk_of, is_open_run, next_of, needs_link}
use Rattle.machine_states.specs.Sight.{Sight}
use Rattle.machine_states.specs.World.{World, seat_of}
use Rattle.machine_states.specs.World as machine
use Rattle.next_steps.specs.Rooms.{ThunkFits}
use Rattle.next_steps.specs.Steps.{opening_kind, opened_next, kind_at, ask_at, next_block, link_kind, link_ask, next_kind, next_ask, has_slot, has_next}

-- the runner's event of this kind is enabled, and meets this word in this way
abbrev pub Meets : Meaning → Layout → List Request → ℕ → PartState → EventKind → Spot × Access → Type 0
Meets m l requests r p kind x = asks m l requests r kind p ≡ Some x

-- a run in progress is one of the table's descriptors and loads thirteen words; once it has, its thunk and
-- its body's line are within the table, the body has the shape and costs few steps, and no place of the line and no
-- number of exchanges at the end is refused
pub record IsInTable (m : Meaning) (l : Layout) (requests : List Request) (q : RunState) : Type 0 where
  pub descriptor : q.descriptor < descriptor_count l
  pub most : length q.opened ≤ 13
  pub thunk : length q.opened ≡ 13 → ThunkFits m l requests (thunk_of q.opened)
  pub body : length q.opened ≡ 13 → IsShaped (m.body (thunk_of q.opened))
  pub brief : length q.opened ≡ 13 → run_cost (m.body (thunk_of q.opened)) ≤ most_of_run
  pub goes : length q.opened ≡ 13 → is_open_run q ≡ true

-- whoever is in a run and wasn't joined has an enabled event: in the opening the next load, and then the
-- step of the run's line or end that comes next, but where a Make's first private load finds the free list
-- empty; before a commit into a part that isn't linked it is the next step by which a block is linked, but where
-- there is no free one
pub record NextIsEnabled (m : Meaning) (l : Layout) (requests : List Request) (s : Sight) : Type 0 where
  pub runs : (r : ℕ) (q : RunState) → (s.part r).run ≡ Some q → IsInTable m l requests q
  pub opening : (r : ℕ) (q : RunState) → (s.part r).gone ≡ false → (s.part r).run ≡ Some q → length q.opened < 13
      → Meets m l requests r (s.part r) (opening_kind q) (opened_next q)
  pub linking : (r : ℕ) (q : RunState) → (s.part r).gone ≡ false → (s.part r).run ≡ Some q → length q.opened ≡ 13
      → needs_link q (next_of m q) ≡ true → is_some (next_block (s.part r) q) ≡ true
      → Meets m l requests r (s.part r) (link_kind m l (s.part r) q) (link_ask (s.part r) q)
  pub inside : (r : ℕ) (q : RunState) → (s.part r).gone ≡ false → (s.part r).run ≡ Some q → length q.opened ≡ 13
      → needs_link q (next_of m q) ≡ false → has_slot (s.part r) q (next_of m q) ≡ true
      → Meets m l requests r (s.part r) (kind_at (s.part r) q (next_of m q)) (ask_at m (s.part r) q (next_of m q))

-- an event of a runner that has this part in this state: it is enabled and meets this word, and the machine can make it
pub record CanMake (m : Meaning) (l : Layout) (requests : List Request) (w : World) (r : ℕ) (p : PartState)
    (kind : EventKind)
    (x : Spot × Access) : Type 0 where
  pub meets : Meets m l requests r p kind x
  pub next : World
  pub happens : machine.happens m l requests w (record { runner = r; kind = kind }) ≡ Some next

-- so the next event of each run can be made
abbrev pub RunsGoOn : Meaning → Layout → List Request → World → Type 0
RunsGoOn m l requests w = (r : ℕ) (p : PartState) (q : RunState) → slice_get w.parts (seat_of l r) ≡ Some p
    → p.gone ≡ false
    → p.run ≡ Some q → has_next p q (next_of m q) ≡ true
    → CanMake m l requests w r p (next_kind m l p q) (next_ask m p q)
