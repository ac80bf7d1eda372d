-- The rule of the table, and how views change.
use Rattle.std.specs.Prelude.{◌≡◌, ℕ, ◌+◌, true, ◌∷◌, [], List, length, slice_index, slice_get, Option, Some, None}
use mathlib.Core.Option.{some}
use lib.ListN.{get_elem?}
use Rattle.atomic_table.specs.Table.{State, Me, Step}
use Rattle.machine_states.specs.map_history.specs.declared.op.Request.{Request}
use Rattle.machine_states.specs.body_terms.specs.declared.thunk.Thunk.{Thunk}
use Rattle.machine_states.specs.table_words.specs.declared.layout.Layout.{Layout}
use Rattle.machine_states.specs.table_words.specs.declared.spot.Spot.{Spot}
use Rattle.machine_states.specs.table_words.specs.declared.spot.Spot.TheVariants.{Seat}
use Rattle.machine_states.specs.table_words.specs.declared.access.Access.{Access}
use Rattle.machine_states.specs.table_words.specs.declared.access.Access.TheVariants.{Loads}
use Rattle.machine_states.specs.structure_laws.specs.Meaning.{Meaning}
use Rattle.machine_states.specs.runner_parts.specs.declared.event.EventKind.{EventKind}
use Rattle.machine_states.specs.runner_parts.specs.declared.event.EventKind.TheVariants as kinds
use Rattle.machine_states.specs.runner_parts.specs.State.{PartState}
use Rattle.machine_states.specs.runner_steps.specs.Asks.{asks}
use Rattle.machine_states.specs.runner_steps.specs.After.{after, knows_also}
use Rattle.machine_states.specs.World.{World, seat_of}
use Rattle.machine_states.specs.First.{first_part, keeper_part, worker_part}
use Rattle.version_words.specs.declared.view.View.{View}
use Rattle.machine_states.specs.Reached.{Reached}
use Rattle.version_words.specs.Shown.{IsShown}
use Rattle.version_words.specs.Naming.{Naming}
use Rattle.version_words.specs.ReachedWith.{ReachedBy}

-- the view is of this table, and its runner has this seat
pub record IsSeatedAt {T : Type 0} (s : T) (l : Layout) (requests : List Request)
    (seat : ℕ) (t : T) (v : View T) : Type 0 where
  pub same_structure : t ≡ s
  pub same_layout : v.layout ≡ l
  pub same_requests : v.requests ≡ requests
  pub own_seat : seat_of l v.number ≡ seat

-- no runner gave a node slot to the board that left it fewer free ones than it had at first
abbrev pub GaveAbove : World → Type 0
GaveAbove w = (i : ℕ) (p : PartState) → slice_get w.parts i ≡ Some p → p.records.gave_above ≡ true

-- the words and all views show a state of the machine that enabled events lead to
pub record Holds {T : Type 0} (m : Meaning) (s : T) (l : Layout) (requests : List Request)
    (st : State Thunk (View T)) : Type 0 where
  pub world : World
  pub reached : Reached m l requests world
  pub above : GaveAbove world
  pub shown : IsShown m l st.words st.views world
  pub about : (seat : ℕ) (v : View T) (t : T) → get_elem? st.views seat ≡ some v
      → v.structure ≡ Some t → IsSeatedAt s l requests seat t v
  pub splits : (v : View T) → get_elem? st.views 0 ≡ some v → v.part.records.splits + 1 ≡ length st.views
  pub seat_word : slice_index st.words 0 ≡ 0

module _ {T : Type 0} where
  abbrev pub keeper_view : Meaning → T → Layout → List Request → View T
  keeper_view m s l requests = record {
    structure = Some s;
    layout = l;
    requests = requests;
    number = l.runners;
    part = keeper_part m l;
    joined = [];
  }

  -- the view after this event, which met this spot and found this number
  abbrev pub stepped : Meaning → EventKind → Spot → Access → View T → ℕ → View T
  stepped m kind spot access v found = record v { part = after m v.layout v.number kind spot access v.part found }

  -- the seat's view is the one after this event, which met this spot and found this number; and the machine reaches a
  -- state in which its runner has the part before and the word is that number, and by this event one in which it has
  -- the part after and the word is what was left
  pub record IsTold (m : Meaning) (kind : EventKind) (met : Spot × Access)
      (me : Me Thunk (View T)) (found : ℕ) (me' : Me Thunk (View T)) : Type 0 where
    pub view : me' ≡ (stepped m kind met.0 met.1 me.0 found, me.1)
    pub shown : ReachedBy m me'.0.layout me'.0.requests me'.0.number kind me.0.part me'.0.part met found

  -- what a step tells its seat: it was the event of this name on the own part, and the word had this number
  abbrev pub Tells : (T → Meaning) → Naming → Step Thunk → Me Thunk (View T) → ℕ → Me Thunk (View T) → Type 0
  Tells mean naming step me found me' = (s : T) (x : Spot × Access) → me.0.structure ≡ Some s
      → asks (mean s) me.0.layout me.0.requests me.0.number
      (naming (mean s) me.0.layout me.0.requests me.0.part step) me.0.part ≡ Some x
      → IsTold (mean s) (naming (mean s) me.0.layout me.0.requests me.0.part step) x me found me'

  -- the keeper's view once it has split off one more worker
  abbrev pub splitting : (T → Meaning) → View T → Option T → View T
  splitting mean v None = v
  splitting mean v (Some s) = stepped (mean s) kinds.Split Seat Loads v 0

  -- the view of the next worker
  abbrev pub split_off : (T → Meaning) → View T → Option T → View T
  split_off mean v None = v
  split_off mean v (Some s) = record v {
    number = v.part.records.splits;
    part = worker_part (mean s) v.layout v.part.records.splits;
    joined = [];
  }

  -- the keeper's view once it has joined a worker: it knows also what the worker knew, and keeps its part
  abbrev pub joining : (T → Meaning) → View T → View T → Option T → View T
  joining mean v w None = v
  joining mean v w (Some s) = record v {
    part = knows_also (after (mean s) v.layout v.number (kinds.Join w.number) Seat Loads v.part 0) w.part;
    joined = (w.number, w.part) ∷ v.joined;
  }

  -- what is left of the view of a joined worker
  abbrev pub spent : View T
  spent = record {
    structure = None;
    layout = record { runners = 0; nodes = 0; sections = 0; version_max = 0 };
    requests = [];
    number = 0;
    part = first_part [] [] [];
    joined = [];
  }
