-- Splitting off and joining a worker are events of the machine.
use Rattle.std.proofs.Common.{◌≡◌, ◌≢◌, ℕ, zero, suc, ◌+◌, ◌<◌, List, [], ◌∷◌, ◌++◌, Bool, true, length, set, sym, refl, ap, subst, ◌∙◌, ⊎_elim, arith, Option, Some, None, slice_get, length-set, length-append, eq-eqb, ne_eqb}
use Rattle.std.proofs.lemmas.Bool.{and_parts}
use Rattle.std.specs.Prelude.{slice_index, ◌==◌, ◌&&◌, not, nat_lt, if◌then◌else◌}
use Rattle.std.proofs.lemmas.List.{set-get_or}
use Rattle.std.proofs.lemmas.Option.{slice_get_within, none-some}
use Rattle.std.proofs.lemmas.Bool.Decides.{nat_tests}
use Rattle.std.specs.Option.{IsSome}
use mathlib.Core.Logic.{dite}
use native.Mathlib.Decide.{ℕ_discrete}
use mathlib.Core.Option.{some, some-injective, some-ne-none}
use lib.ListN.{get_elem?}
use Rattle.atomic_table.specs.Table.{State}
use Rattle.atomic_table.proofs.Lists.{at_set, set_else, set_here, at_longer}
use Rattle.machine_states.specs.map_history.specs.declared.op.Request.{Request}
use Rattle.machine_states.specs.body_terms.specs.declared.thunk.Thunk.{Thunk}
use Rattle.machine_states.specs.table_words.specs.declared.layout.Layout.{Layout}
use Rattle.machine_states.specs.table_words.specs.declared.spot.Spot.{Spot}
use Rattle.machine_states.specs.table_words.specs.declared.spot.Spot.TheVariants.{Seat}
use Rattle.machine_states.specs.table_words.specs.declared.access.Access.{Access}
use Rattle.machine_states.specs.table_words.specs.declared.access.Access.TheVariants.{Loads}
use Rattle.machine_states.specs.structure_laws.specs.Meaning.{Meaning}
use Rattle.machine_states.specs.runner_parts.specs.declared.event.EventKind.TheVariants as kinds
use Rattle.machine_states.specs.runner_parts.specs.declared.event.Event.{Event}
use Rattle.machine_states.specs.runner_parts.specs.State.{RunState, PartState}
use Rattle.machine_states.specs.runner_parts.specs.Tests.{is_outside, has}
use Rattle.machine_states.specs.runner_steps.specs.Asks.{asks}
use Rattle.machine_states.specs.runner_steps.specs.After.{after_by, after, leaves, knows_also}
use Rattle.machine_states.specs.World.{World, seat_of, knowing, settled_part, put_part, left_by, happens}
use Rattle.machine_states.specs.First.{worker_part}
use Rattle.std.proofs.lemmas.Bool.{cases_eq}
use Rattle.machine_states.proofs.Steps.{goes, some_same}
use Rattle.machine_states.proofs.Reached.{more_reached}
use Rattle.version_words.specs.declared.view.View.{View}
use Rattle.version_words.specs.Shown.{IsShown, IsSpent, left_part, part_at, joined_in}
use Rattle.version_words.specs.Rule.{IsSeatedAt, GaveAbove, Holds, spent}
use Rattle.version_words.proofs.Lists.{get_here, get_else, inside, at_end}
use Rattle.version_words.proofs.Splits.{notes, kept_splits, join_above, split_above}
use Rattle.version_words.proofs.Asked.{outer, tested}
use Rattle.version_words.proofs.Begins.{keeper_seat}
use Rattle.version_words.proofs.Ties.{view_after, world_after, seat_is, shown_after, about_after, reached_after, above_after}

pub record IsSplitting (l : Layout) (r : ℕ) (p : PartState) (x : Spot × Access) : Type 0 where
  pub keeper : r ≡ l.runners
  pub resting : p.run ≡ None
  pub few : p.records.splits < l.runners
  pub met : x ≡ (Seat, Loads)

pub record IsJoining (l : Layout) (r worker : ℕ) (p : PartState) (x : Spot × Access) : Type 0 where
  pub keeper : r ≡ l.runners
  pub resting : p.run ≡ None
  pub few : worker < l.runners
  pub met : x ≡ (Seat, Loads)

-- what an enabled split says of the keeper
pub split_asked : (m : Meaning) (l : Layout) (rs : List Request) (r : ℕ) (p : PartState) (x : Spot × Access) → asks m l rs r kinds.Split p ≡ Some x
    → IsSplitting l r p x
split_asked m l rs r p x h =
    let o = outer m l rs r kinds.Split p x refl h in
    let t = tested (r == l.runners && (is_outside p.run && nat_lt p.records.splits l.runners)) Seat Loads x o.1 in
    let a = and_parts (r == l.runners) (is_outside p.run && nat_lt p.records.splits l.runners) t.0 in let b = and_parts (is_outside p.run) (nat_lt p.records.splits l.runners) a.1 in
    let first = a.0 in let last = b.1 in
    record { keeper = grind (arith, nat_tests); resting = o.0; few = grind (arith, nat_tests); met = sym t.1 }

-- what an enabled join says of the keeper
pub join_asked : (m : Meaning) (l : Layout) (rs : List Request) (r worker : ℕ) (p : PartState) (x : Spot × Access) → asks m l rs r (kinds.Join worker) p ≡ Some x
    → IsJoining l r worker p x
join_asked m l rs r worker p x h =
    let o = outer m l rs r (kinds.Join worker) p x refl h in
    let t = tested (r == l.runners && (is_outside p.run && (nat_lt worker l.runners && not (has p.records.joined worker)))) Seat Loads x o.1 in
    let a = and_parts (r == l.runners) (is_outside p.run && (nat_lt worker l.runners && not (has p.records.joined worker))) t.0 in
    let b = and_parts (is_outside p.run) (nat_lt worker l.runners && not (has p.records.joined worker)) a.1 in let d = and_parts (nat_lt worker l.runners) (not (has p.records.joined worker)) b.1 in
    let first = a.0 in let last = d.0 in
    record { keeper = grind (arith, nat_tests); resting = o.0; few = grind (arith, nat_tests); met = sym t.1 }

worker_seat : (l : Layout) (k : ℕ) → k < l.runners → seat_of l k ≡ suc k
worker_seat l k h = ap (λ (b : Bool). if b then 0 else suc k) (ne_eqb k l.runners (λ e. omega arith))

joined_more : {T : Type 0} (views : List (View T)) (w : View T) → 0 < length views → joined_in (views ++ w ∷ []) ≡ joined_in views
joined_more [] w h = absurd (omega arith)
joined_more (v ∷ vs) w h = refl

-- a split makes one more split
pub one_split : (m : Meaning) (l : Layout) (r : ℕ) (spot : Spot) (access : Access) (found : ℕ) (p : PartState) → p.run ≡ None → p.records.splits < l.runners → (after m l r kinds.Split spot access p found).records.splits ≡ p.records.splits + 1
one_split m l r spot access found p none few =
    notes l r kinds.Split spot access found (after_by m l kinds.Split p p.run found).records
    ∙ (ap (λ (o : Option RunState). (after_by m l kinds.Split p o found).records.splits) none
    ∙ ap (λ (b : Bool). (if b then record p { records = record (p.records) { splits = p.records.splits + 1 } } else p).records.splits) (let e : nat_lt p.records.splits l.runners ≡ true = grind (arith, nat_tests, few) in e))

module _ {T : Type 0} (mean : T → Meaning) (s : T) (l : Layout) (rs : List Request) (id : ℕ) (v : View T) (live : v.structure ≡ Some s) where
  module _ (asked : asks (mean s) l rs v.number kinds.Split v.part ≡ Some (Seat, Loads)) (st : State Thunk (View T)) (h : Holds (mean s) s l rs st) (here : get_elem? st.views id ≡ some v) where
    abbrev m : Meaning
    m = mean s

    says : IsSplitting l v.number v.part (Seat, Loads)
    says = split_asked m l rs v.number v.part (Seat, Loads) asked

    abbrev kept_view : View T
    kept_view = view_after m s l rs kinds.Split id v (Seat, Loads) live refl asked st h here

    abbrev new_view : View T
    new_view = record v { number = v.part.records.splits; part = worker_part m l v.part.records.splits; joined = [] }

    keeper_id : id ≡ 0
    keeper_id = sym (seat_is m s l rs kinds.Split id v (Seat, Loads) live refl asked st h here) ∙ (ap (seat_of l) says.keeper ∙ keeper_seat l)

    as_many : v.part.records.splits + 1 ≡ length st.views
    as_many = h.splits v (ap (get_elem? st.views) (sym keeper_id) ∙ here)

    abbrev old_views : List (View T)
    old_views = set st.views id kept_view

    old_length : length old_views ≡ length st.views
    old_length = length-set st.views id kept_view

    some_seat : 0 < length old_views
    some_seat = let a = inside st.views id v here in omega (arith, a, old_length)

    shown_old : IsShown m l (set st.words 0 (slice_index st.words 0)) old_views (world_after m s l rs kinds.Split id v (Seat, Loads) live refl asked st h here)
    shown_old = shown_after m s l rs kinds.Split id v (Seat, Loads) live refl asked st h here

    new_here : slice_get (world_after m s l rs kinds.Split id v (Seat, Loads) live refl asked st h here).parts (suc v.part.records.splits) ≡ Some new_view.part
    new_here = shown_old.waiting v.part.records.splits (omega (arith, as_many, old_length)) says.few

    pub splits_hold : Holds m s l rs (record { words = st.words; homes = st.homes; views = old_views ++ new_view ∷ [] })
    splits_hold = record {
      world = world_after m s l rs kinds.Split id v (Seat, Loads) live refl asked st h here;
      reached = reached_after m s l rs kinds.Split id v (Seat, Loads) live refl asked st h here;
      above = above_after m s l rs kinds.Split id v (Seat, Loads) live refl asked st h here (λ above. split_above m l v.number Seat Loads v.part _ says.resting ∙ above);
      shown = record {
        words = set-get_or st.words 0 0;
        parts = shown_old.parts;
        seated = λ seat u e. ⊎_elim
            (λ (old : get_elem? old_views seat ≡ some u). shown_old.seated seat u old)
            (λ (last : (seat ≡ length old_views) × (new_view ≡ u)).
            subst (λ (y : View T). slice_get (world_after m s l rs kinds.Split id v (Seat, Loads) live refl asked st h here).parts seat ≡ part_at (joined_in old_views) seat y.part y.structure) last.1
            (ap (slice_get (world_after m s l rs kinds.Split id v (Seat, Loads) live refl asked st h here).parts) (last.0 ∙ (old_length ∙ omega (arith, as_many)))
            ∙ (new_here ∙ sym (ap (part_at (joined_in old_views) seat new_view.part) live))))
            (at_end old_views new_view u seat e) ∙ sym (ap (λ js. part_at js seat u.part u.structure) (joined_more old_views new_view some_seat));
        left = λ worker some_left. let was = shown_old.left worker (subst (λ (js : List (ℕ × PartState)). IsSome (left_part js worker)) (joined_more old_views new_view some_seat) some_left) in
            record { view = was.view; there = at_longer old_views (new_view ∷ []) (suc worker) was.view was.there; empty = was.empty };
        waiting = λ worker past few. shown_old.waiting worker (let a = length-append old_views (new_view ∷ []) in omega (arith, a)) few;
      };
      about = λ seat u t e is. ⊎_elim
          (λ (old : get_elem? old_views seat ≡ some u). about_after m s l rs kinds.Split id v (Seat, Loads) live refl asked st h here seat u t old is)
          (λ (last : (seat ≡ length old_views) × (new_view ≡ u)).
          subst (λ (y : View T). y.structure ≡ Some t → IsSeatedAt s l rs seat t y) last.1
          (λ alive. let old = h.about id v t here alive in record {
            same_structure = old.same_structure;
            same_layout = old.same_layout;
            same_requests = old.same_requests;
            own_seat = worker_seat l v.part.records.splits says.few ∙ omega (arith, last.0, old_length, as_many);
          }) is)
          (at_end old_views new_view u seat e);
      splits = λ u e. ⊎_elim
          (λ (old : get_elem? old_views 0 ≡ some u).
          let is : kept_view ≡ u = some-injective kept_view u (sym (set_here st.views 0 kept_view (let a = inside st.views id v here in omega (arith, a))) ∙ (ap (λ i. get_elem? (set st.views i kept_view) 0) (sym keeper_id) ∙ old)) in
          ap (λ (y : View T). y.part.records.splits + 1) (sym is) ∙ (ap (λ n. n + 1) (one_split m l v.number Seat Loads _ v.part says.resting says.few) ∙ (let a = length-append old_views (new_view ∷ []) in omega (arith, a, old_length, as_many))))
          (λ (last : (0 ≡ length old_views) × (new_view ≡ u)). absurd (let a = some_seat in let b = last.0 in omega (arith, a, b)))
          (at_end old_views new_view u 0 e);
      seat_word = h.seat_word;
    }

abbrev spent_of : (T : Type 0) → View T
spent_of T = spent

-- a join makes no split
pub joins_none : (m : Meaning) (l : Layout) (r worker found : ℕ) (p q : PartState) → (knows_also (after m l r (kinds.Join worker) Seat Loads p found) q).records.splits ≡ p.records.splits
joins_none m l r worker found p q = kept_splits m l r Seat Loads p found (kinds.Join worker) refl

pub first_joined : {T : Type 0} (views : List (View T)) (v : View T) → get_elem? views 0 ≡ some v → joined_in views ≡ v.joined
first_joined [] v e = absurd (some-ne-none v (sym e))
first_joined (x ∷ xs) v e = ap (λ u. u.joined) (some-injective x v e)

-- the parts of the other seats are shown as before
others_shown : {T : Type 0} (js : List (ℕ × PartState)) (worker seat : ℕ) (q p : PartState) (o : Option T) → seat ≢ suc worker → part_at js seat p o ≡ part_at ((worker, q) ∷ js) seat p o
others_shown js worker seat q p (Some s) ne = refl
others_shown js worker zero q p None ne = refl
others_shown js worker (suc k) q p None ne = ap (λ (b : Bool). if b then Some (leaves q) else left_part js k) (sym (ne_eqb worker k (λ e. ne (ap suc (sym e)))))

module _ {T : Type 0} (mean : T → Meaning) (s : T) (l : Layout) (rs : List Request) (id other : ℕ) (v w : View T) (live : v.structure ≡ Some s) (live' : w.structure ≡ Some s)
    (asked : asks (mean s) l rs v.number (kinds.Join w.number) v.part ≡ Some (Seat, Loads)) (st : State Thunk (View T)) (h : Holds (mean s) s l rs st) (here : get_elem? st.views id ≡ some v) where
  abbrev joined_part : PartState
  joined_part = knows_also (after (mean s) l v.number (kinds.Join w.number) Seat Loads v.part (slice_index st.words 0)) w.part

  abbrev both : View T
  both = record v { part = joined_part; joined = (w.number, w.part) ∷ v.joined }

  abbrev event : Event
  event = record { runner = v.number; kind = kinds.Join w.number }

  tells : IsJoining l v.number w.number v.part (Seat, Loads)
  tells = join_asked (mean s) l rs v.number w.number v.part (Seat, Loads) asked

  own_id : seat_of l v.number ≡ id
  own_id = (h.about id v s here live).own_seat

  zero_id : id ≡ 0
  zero_id = sym own_id ∙ (ap (seat_of l) tells.keeper ∙ keeper_seat l)

  module _ (apart : ¬ (other ≡ id)) (there : get_elem? (set st.views id both) other ≡ some w) where
    there_before : get_elem? st.views other ≡ some w
    there_before = sym (set_else st.views id other both apart) ∙ there

    other_is : other ≡ suc w.number
    other_is = sym (h.about other w s there_before live').own_seat ∙ worker_seat l w.number tells.few

    abbrev parts : List PartState
    parts = h.world.parts

    keeper_here : slice_get parts id ≡ Some v.part
    keeper_here = h.shown.seated id v here ∙ ap (part_at (joined_in st.views) id v.part) live

    worker_here : slice_get parts (suc w.number) ≡ Some w.part
    worker_here = ap (slice_get parts) (sym other_is) ∙ (h.shown.seated other w there_before ∙ ap (part_at (joined_in st.views) other w.part) live')

    abbrev parts_after : List PartState
    parts_after = set (set parts id joined_part) (suc w.number) (leaves w.part)

    abbrev world_joined : World
    world_joined = record { words = st.words; parts = parts_after }

    apart_seats : suc w.number ≢ id
    apart_seats = λ e. apart (other_is ∙ e)

    settled_path : settled_part (kinds.Join w.number) (after (mean s) l v.number (kinds.Join w.number) Seat Loads v.part (slice_index h.world.words 0)) parts ≡ joined_part
    settled_path = ap (λ (o : Option PartState). knowing (after (mean s) l v.number (kinds.Join w.number) Seat Loads v.part (slice_index h.world.words 0)) o) worker_here
        ∙ ap (λ ws. knows_also (after (mean s) l v.number (kinds.Join w.number) Seat Loads v.part (slice_index ws 0)) w.part) h.shown.words

    left_path : put_part parts (kinds.Join w.number) id joined_part ≡ parts_after
    left_path = ap (left_by (set parts id joined_part) (suc w.number)) (get_else parts id (suc w.number) joined_part apart_seats ∙ worker_here)

    happened : happens (mean s) l rs h.world event ≡ Some world_joined
    happened = goes (mean s) l rs h.world.words parts event v.part (Seat, Loads) (ap (slice_get parts) own_id ∙ keeper_here) asked
        ∙ (λ i. Some (record {
          words = (set-get_or h.world.words 0 0 ∙ h.shown.words) i;
          parts = (ap (λ n. put_part parts (kinds.Join w.number) n (settled_part (kinds.Join w.number) (after (mean s) l v.number (kinds.Join w.number) Seat Loads v.part (slice_index h.world.words 0)) parts)) own_id
              ∙ (ap (put_part parts (kinds.Join w.number) id) settled_path ∙ left_path)) i;
        }))

    abbrev views_after : List (View T)
    views_after = set (set st.views id both) other spent

    still_first : get_elem? views_after 0 ≡ some both
    still_first = set_else (set st.views id both) other 0 spent (λ e. apart (sym e ∙ sym zero_id))
        ∙ subst (λ (k : ℕ). get_elem? (set st.views id both) k ≡ some both) zero_id (set_here st.views id both (inside st.views id v here))

    joined_now : joined_in views_after ≡ (w.number, w.part) ∷ joined_in st.views
    joined_now = first_joined views_after both still_first ∙ ap (λ (js : List (ℕ × PartState)). (w.number, w.part) ∷ js) (sym (first_joined st.views v (ap (get_elem? st.views) (sym zero_id) ∙ here)))

    -- a seat after the join: the spent one, the keeper's, or one as before
    seat_cases : (P : ℕ → View T → Type 0) → P other spent → P id both → ((seat : ℕ) (u : View T) → seat ≢ other → seat ≢ id → get_elem? st.views seat ≡ some u → P seat u)
        → (seat : ℕ) (u : View T) → get_elem? views_after seat ≡ some u → P seat u
    seat_cases P gone keeper rest seat u e = ⊎_elim
        (λ (a : (seat ≡ other) × (spent ≡ u)). subst (λ (y : View T). P seat y) a.1 (subst (λ (n : ℕ). P n spent) (sym a.0) gone))
        (λ (a : (seat ≢ other) × (get_elem? (set st.views id both) seat ≡ some u)). ⊎_elim
        (λ (b : (seat ≡ id) × (both ≡ u)). subst (λ (y : View T). P seat y) b.1 (subst (λ (n : ℕ). P n both) (sym b.0) keeper))
        (λ (b : (seat ≢ id) × (get_elem? st.views seat ≡ some u)). rest seat u a.0 b.0 b.1)
        (at_set st.views id seat both u a.1))
        (at_set (set st.views id both) other seat spent u e)

    room : suc w.number < length (set parts id joined_part)
    room = let a = slice_get_within parts (suc w.number) w.part worker_here in let b = length-set parts id joined_part in omega (arith, a, b)

    parts_else : (seat : ℕ) → seat ≢ other → seat ≢ id → slice_get parts_after seat ≡ slice_get parts seat
    parts_else seat ne ne' = get_else (set parts id joined_part) (suc w.number) seat (leaves w.part) (λ e. ne (e ∙ sym other_is)) ∙ get_else parts id seat joined_part ne'

    seated_joined : (seat : ℕ) (u : View T) → get_elem? views_after seat ≡ some u → slice_get parts_after seat ≡ part_at ((w.number, w.part) ∷ joined_in st.views) seat u.part u.structure
    seated_joined = seat_cases (λ seat u. slice_get parts_after seat ≡ part_at ((w.number, w.part) ∷ joined_in st.views) seat u.part u.structure)
        (subst (λ (n : ℕ). slice_get parts_after n ≡ part_at ((w.number, w.part) ∷ joined_in st.views) n (spent_of T).part (spent_of T).structure) (sym other_is)
        (get_here (set parts id joined_part) (suc w.number) (leaves w.part) room ∙ ap (λ (b : Bool). if b then Some (leaves w.part) else left_part (joined_in st.views) w.number) (sym (eq-eqb w.number w.number refl))))
        (get_else (set parts id joined_part) (suc w.number) id (leaves w.part) (λ e. apart_seats (sym e))
        ∙ (get_here parts id joined_part (slice_get_within parts id v.part keeper_here) ∙ sym (ap (part_at ((w.number, w.part) ∷ joined_in st.views) id joined_part) live)))
        (λ seat u ne ne' old. parts_else seat ne ne' ∙ (h.shown.seated seat u old ∙ others_shown (joined_in st.views) w.number seat w.part u.part u.structure (λ e. ne (e ∙ sym other_is))))

    spent_here : IsSpent views_after other
    spent_here = record { view = spent; there = set_here (set st.views id both) other spent (let a = inside st.views other w there_before in let b = length-set st.views id both in omega (arith, a, b)); empty = refl }

    left_joined : (worker : ℕ) → IsSome (left_part ((w.number, w.part) ∷ joined_in st.views) worker) → IsSpent views_after (suc worker)
    left_joined worker some_left = dite (ℕ_discrete worker w.number)
        (λ e. subst (IsSpent views_after) (other_is ∙ ap suc (sym e)) spent_here)
        (λ ne. let was = h.shown.left worker (subst (λ (b : Bool). IsSome (if b then Some (leaves w.part) else left_part (joined_in st.views) worker)) (ne_eqb w.number worker (λ e. ne (sym e))) some_left) in record {
          view = was.view;
          there = set_else (set st.views id both) other (suc worker) spent (λ e. ne (omega (arith, e, other_is))) ∙ (set_else st.views id (suc worker) both (λ e. omega (arith, e, zero_id)) ∙ was.there);
          empty = was.empty;
        })

    length_now : length views_after ≡ length st.views
    length_now = length-set (set st.views id both) other spent ∙ length-set st.views id both

    joined_above : GaveAbove world_joined
    joined_above i p e = ⊎_elim
        (λ worker. let was = sym (get_here (set parts id joined_part) (suc w.number) (leaves w.part) room) ∙ (ap (slice_get parts_after) (sym worker) ∙ e) in
        ap (λ (q : PartState). q.records.gave_above) (sym (some_same (leaves w.part) p was)) ∙ h.above (suc w.number) w.part worker_here)
        (λ ne. ⊎_elim
        (λ keeper. let was = sym (get_here parts id joined_part (slice_get_within parts id v.part keeper_here))
        ∙ (sym (get_else (set parts id joined_part) (suc w.number) id (leaves w.part) (λ same. apart_seats (sym same))) ∙ (ap (slice_get parts_after) (sym keeper) ∙ e)) in
        ap (λ (q : PartState). q.records.gave_above) (sym (some_same joined_part p was))
        ∙ (join_above (mean s) l v.number Seat Loads v.part (slice_index st.words 0) w.number ∙ h.above id v.part keeper_here))
        (λ ne'. h.above i p (sym (get_else parts id i joined_part ne') ∙ (sym (get_else (set parts id joined_part) (suc w.number) i (leaves w.part) ne) ∙ e)))
        (cases_eq i id))
        (cases_eq i (suc w.number))

    pub joins_hold : Holds (mean s) s l rs (record { words = st.words; homes = st.homes; views = views_after })
    joins_hold = record {
      world = world_joined;
      reached = more_reached (mean s) l rs h.world world_joined event h.reached happened;
      above = joined_above;
      shown = record {
        words = refl;
        parts = length-set (set parts id joined_part) (suc w.number) (leaves w.part) ∙ (length-set parts id joined_part ∙ h.shown.parts);
        seated = λ seat u e. seated_joined seat u e ∙ sym (ap (λ js. part_at js seat u.part u.structure) joined_now);
        left = λ worker some_left. left_joined worker (subst (λ (js : List (ℕ × PartState)). IsSome (left_part js worker)) joined_now some_left);
        waiting = λ worker past few.
            let a = inside st.views id v here in let b = inside st.views other w there_before in
            parts_else (suc worker) (λ e. omega (arith, past, length_now, b)) (λ e. omega (arith, past, length_now, a)) ∙ h.shown.waiting worker (omega (arith, past, length_now)) few;
      };
      about = λ seat u t. seat_cases (λ seat u. u.structure ≡ Some t → IsSeatedAt s l rs seat t u)
          (λ is. absurd (none-some t is))
          (λ is. let old = h.about id v t here is in record { same_structure = old.same_structure; same_layout = old.same_layout; same_requests = old.same_requests; own_seat = old.own_seat })
          (λ seat u ne ne' old is. h.about seat u t old is) seat u;
      splits = λ u e. ap (λ (y : View T). y.part.records.splits + 1) (sym (some-injective both u (sym still_first ∙ e)))
          ∙ (ap (λ n. n + 1) (joins_none (mean s) l v.number w.number (slice_index st.words 0) v.part w.part) ∙ (h.splits v (ap (get_elem? st.views) (sym zero_id) ∙ here) ∙ sym length_now));
      seat_word = h.seat_word;
    }
