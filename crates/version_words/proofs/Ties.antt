-- A step at the table is one event of the machine.
use Rattle.std.proofs.Common.{◌≡◌, ◌≢◌, ℕ, zero, suc, ◌+◌, ◌<◌, List, [], ◌∷◌, true, false, length, set, sym, refl, ap, subst, ◌∙◌, ⊎_elim, arith, Some, slice_get, length-set}
use Rattle.std.specs.Prelude.{slice_index}
use Rattle.std.proofs.lemmas.List.{set-get_or, get_or-set_same, get_or-set_other}
use Rattle.std.proofs.lemmas.Option.{slice_get_within}
use Rattle.std.specs.Option.{IsSome}
use Rattle.std.proofs.lemmas.Bool.{true≢false}
use mathlib.Core.Option.{some, some-injective, some-ne-none}
use lib.ListN.{get_elem?}
use Rattle.machine_states.specs.epoch_core.specs.small_lemmas.proofs.Bools.{false_not_true as false_true}
use Rattle.machine_states.specs.epoch_core.specs.small_lemmas.proofs.Lists.{some_is_none as some_spent}
use Rattle.atomic_table.specs.Table.{State, Me, Step, keeps, Allows}
use Rattle.atomic_table.proofs.Lists.{at_set, set_else}
use Rattle.machine_states.specs.map_history.specs.declared.op.Request.{Request}
use Rattle.machine_states.specs.body_terms.specs.declared.thunk.Thunk.{Thunk}
use Rattle.machine_states.specs.table_words.specs.declared.layout.Layout.{Layout}
use Rattle.machine_states.specs.table_words.specs.declared.spot.Spot.{Spot}
use Rattle.machine_states.specs.table_words.specs.declared.access.Access.{Access}
use Rattle.machine_states.specs.table_words.specs.declared.access.Access.TheVariants.{Stores}
use Rattle.machine_states.specs.table_words.specs.Access.{written}
use Rattle.machine_states.specs.table_words.specs.Places.{address}
use Rattle.machine_states.specs.table_words.proofs.Seen.{within, seen_here}
use Rattle.machine_states.specs.structure_laws.specs.Meaning.{Meaning}
use Rattle.machine_states.specs.runner_parts.specs.declared.event.EventKind.{EventKind}
use Rattle.machine_states.specs.runner_parts.specs.declared.event.EventKind.TheVariants as kinds
use Rattle.machine_states.specs.runner_parts.specs.declared.event.Event.{Event}
use Rattle.machine_states.specs.runner_parts.specs.State.{PartState}
use Rattle.machine_states.specs.runner_steps.specs.Asks.{asks, sizes_for}
use Rattle.machine_states.specs.runner_steps.specs.After.{after}
use Rattle.machine_states.specs.World.{World, seat_of, is_join, settled_part, put_part, happens}
use Rattle.std.proofs.lemmas.Bool.{cases_eq}
use Rattle.machine_states.proofs.Steps.{goes, some_same, asked_fits}
use Rattle.machine_states.proofs.Reached.{more_reached, reached_all}
use Rattle.version_words.specs.declared.view.View.{View}
use Rattle.machine_states.specs.Reached.{Reached}
use Rattle.version_words.specs.Shown.{IsShown, left_part, part_at, joined_in}
use Rattle.version_words.specs.Naming.{Naming, is_plain}
use Rattle.version_words.specs.ReachedWith.{ReachedBy}
use Rattle.version_words.specs.Rule.{IsSeatedAt, GaveAbove, Holds, stepped, IsTold, Tells}
use Rattle.version_words.proofs.Lists.{get_here, get_else, inside}
use Rattle.version_words.proofs.Splits.{is_split, kept_splits, kept_above}
use Rattle.version_words.proofs.Shows.{blind_shown}

no_join : (l : Layout) (p : PartState) (k : EventKind) → is_plain l p k ≡ true → is_join k ≡ false
no_join l p (kinds.Join worker) e = absurd (false_true e)
no_join l p _ e = refl

no_split : (l : Layout) (p : PartState) (k : EventKind) → is_plain l p k ≡ true → is_split k ≡ false
no_split l p kinds.Split e = absurd (false_true e)
no_split l p _ e = refl

puts_own : (k : EventKind) → is_join k ≡ false → (ps : List PartState) (i : ℕ) (p : PartState) → put_part ps k i p ≡ set ps i p
puts_own (kinds.Join worker) e ps i p = absurd (true≢false e)
puts_own _ e ps i p = refl

settles_own : (k : EventKind) → is_join k ≡ false → (p : PartState) (ps : List PartState) → settled_part k p ps ≡ p
settles_own (kinds.Join worker) e p ps = absurd (true≢false e)
settles_own _ e p ps = refl

pub joined_same : {T : Type 0} (views : List (View T)) (id : ℕ) (v w : View T) → get_elem? views id ≡ some v → w.joined ≡ v.joined → joined_in (set views id w) ≡ joined_in views
joined_same [] id v w e same = absurd (some-ne-none v (sym e))
joined_same (x ∷ xs) zero v w e same = same ∙ ap (λ u. u.joined) (sym (some-injective x v e))
joined_same (x ∷ xs) (suc id) v w e same = refl

-- a word that stays 0
pub nought : (ws : List ℕ) (at : ℕ) (access : Access) → ((n : ℕ) → at ≡ 0 → written access n ≡ n) → slice_index ws 0 ≡ 0 → slice_index (set ws at (written access (slice_index ws at))) 0 ≡ 0
nought ws zero access blank is = ap (λ n. slice_index (set ws 0 n) 0) (blank (slice_index ws 0) refl) ∙ (ap (λ xs. slice_index xs 0) (set-get_or ws 0 0) ∙ is)
nought ws (suc at) access blank is = get_or-set_other ws (suc at) 0 (written access (slice_index ws (suc at))) 0 (λ e. omega arith) ∙ is

module _ {T : Type 0} (m : Meaning) (s : T) (l : Layout) (rs : List Request) where
  abbrev pub at_of : Spot → ℕ
  at_of spot = address (sizes_for m l rs) spot

  module _ (k : EventKind) (id : ℕ) (v : View T) (x : Spot × Access) (live : v.structure ≡ Some s) (single : is_join k ≡ false) (asked : asks m l rs v.number k v.part ≡ Some x)
      (st : State Thunk (View T)) (h : Holds m s l rs st) (here : get_elem? st.views id ≡ some v) where
    abbrev pub met : ℕ
    met = slice_index st.words (at_of x.0)

    abbrev pub next : PartState
    next = after m l v.number k x.0 x.1 v.part met

    abbrev pub view_after : View T
    view_after = record v { part = next }

    abbrev pub world_after : World
    world_after = record { words = set st.words (at_of x.0) (written x.1 met); parts = set h.world.parts id next }

    abbrev event : Event
    event = record { runner = v.number; kind = k }

    pub part_here : slice_get h.world.parts id ≡ Some v.part
    part_here = h.shown.seated id v here ∙ ap (part_at (joined_in st.views) id v.part) live

    pub seat_is : seat_of l v.number ≡ id
    seat_is = (h.about id v s here live).own_seat

    words_path : set h.world.words (at_of x.0) (written x.1 (slice_index h.world.words (at_of x.0))) ≡ world_after.words
    words_path = ap (λ ws. set ws (at_of x.0) (written x.1 (slice_index ws (at_of x.0)))) h.shown.words

    next_path : settled_part k (after m l v.number k x.0 x.1 v.part (slice_index h.world.words (at_of x.0))) h.world.parts ≡ next
    next_path = settles_own k single _ h.world.parts ∙ ap (λ ws. after m l v.number k x.0 x.1 v.part (slice_index ws (at_of x.0))) h.shown.words

    parts_path : put_part h.world.parts k (seat_of l v.number) (settled_part k (after m l v.number k x.0 x.1 v.part (slice_index h.world.words (at_of x.0))) h.world.parts) ≡ world_after.parts
    parts_path = puts_own k single h.world.parts (seat_of l v.number) _ ∙ (λ i. set h.world.parts (seat_is i) (next_path i))

    happened : happens m l rs h.world event ≡ Some world_after
    happened = goes m l rs h.world.words h.world.parts event v.part x (ap (slice_get h.world.parts) seat_is ∙ part_here) asked ∙ (λ i. Some (record { words = words_path i; parts = parts_path i }))

    pub same_joined : joined_in (set st.views id view_after) ≡ joined_in st.views
    same_joined = joined_same st.views id v view_after here refl

    seated_after : (seat : ℕ) (u : View T) → get_elem? (set st.views id view_after) seat ≡ some u → slice_get world_after.parts seat ≡ part_at (joined_in (set st.views id view_after)) seat u.part u.structure
    seated_after seat u e = ⊎_elim
        (λ (t : (seat ≡ id) × (view_after ≡ u)). ap (slice_get world_after.parts) t.0 ∙ (get_here h.world.parts id next (slice_get_within h.world.parts id v.part part_here)
        ∙ (sym (ap (part_at (joined_in (set st.views id view_after)) seat next) live) ∙ ap (λ (y : View T). part_at (joined_in (set st.views id view_after)) seat y.part y.structure) t.1)))
        (λ (t : (seat ≢ id) × (get_elem? st.views seat ≡ some u)). get_else h.world.parts id seat next t.0 ∙ (h.shown.seated seat u t.1 ∙ ap (λ js. part_at js seat u.part u.structure) (sym same_joined)))
        (at_set st.views id seat view_after u e)

    pub shown_after : IsShown m l (set st.words (at_of x.0) (written x.1 met)) (set st.views id view_after) world_after
    shown_after = record {
      words = refl;
      parts = length-set h.world.parts id next ∙ h.shown.parts;
      seated = seated_after;
      left = λ worker some_left. let was = h.shown.left worker (subst (λ (js : List (ℕ × PartState)). IsSome (left_part js worker)) same_joined some_left) in record {
        view = was.view;
        there = set_else st.views id (suc worker) view_after (λ e. some_spent (sym live ∙ (ap (λ (y : View T). y.structure) (some-injective v was.view (sym here ∙ (ap (get_elem? st.views) (sym e) ∙ was.there))) ∙ was.empty))) ∙ was.there;
        empty = was.empty;
      };
      waiting = λ worker past few. get_else h.world.parts id (suc worker) next (λ e. let a = inside st.views id v here in let b = length-set st.views id view_after in omega arith)
          ∙ h.shown.waiting worker (let b = length-set st.views id view_after in omega arith) few;
    }

    pub about_after : (seat : ℕ) (u : View T) (t : T) → get_elem? (set st.views id view_after) seat ≡ some u → u.structure ≡ Some t → IsSeatedAt s l rs seat t u
    about_after seat u t e is = ⊎_elim
        (λ (y : (seat ≡ id) × (view_after ≡ u)).
        let old = h.about id v t here (ap (λ (z : View T). z.structure) y.1 ∙ is) in
        record {
          same_structure = old.same_structure;
          same_layout = ap (λ (z : View T). z.layout) (sym y.1) ∙ old.same_layout;
          same_requests = ap (λ (z : View T). z.requests) (sym y.1) ∙ old.same_requests;
          own_seat = ap (λ (z : View T). seat_of l z.number) (sym y.1) ∙ (old.own_seat ∙ sym y.0);
        })
        (λ (y : (seat ≢ id) × (get_elem? st.views seat ≡ some u)). h.about seat u t y.1 is)
        (at_set st.views id seat view_after u e)

    pub reached_after : Reached m l rs world_after
    reached_after = more_reached m l rs h.world world_after event h.reached happened

    -- before the event the runner has the old part, and the word is what it finds; in the state after it the runner has the new part, and the
    -- word is what the event left there
    pub seen_after : ReachedBy m l rs v.number k v.part next x met
    seen_after =
        let fits = asked_fits m l rs st.words h.world.parts event v.part x asked in
        let room : at_of x.0 < length st.words = let low = within (sizes_for m l rs) x.0 fits in let all = (reached_all m l rs h.world h.reached).words in let same = ap length h.shown.words in omega (arith, low, all, same) in
        record {
          before = h.world;
          was_reached = h.reached;
          was_own = ap (slice_get h.world.parts) seat_is ∙ part_here;
          was_found = λ told. seen_here (sizes_for m l rs) h.world.words x.0 fits ∙ ap (λ ws. slice_index ws (at_of x.0)) h.shown.words;
          world = world_after;
          happened = happened;
          reached = reached_after;
          own = ap (slice_get world_after.parts) seat_is ∙ get_here h.world.parts id next (slice_get_within h.world.parts id v.part part_here);
          word = seen_here (sizes_for m l rs) world_after.words x.0 fits ∙ get_or-set_same st.words (at_of x.0) (written x.1 met) 0 room;
        }

    -- no other part changes
    pub above_after : (v.part.records.gave_above ≡ true → next.records.gave_above ≡ true) → GaveAbove world_after
    above_after own i p e = ⊎_elim
        (λ here'. let is : next ≡ p = some_same next p (sym (get_here h.world.parts id next (slice_get_within h.world.parts id v.part part_here)) ∙ (ap (slice_get world_after.parts) (sym here') ∙ e)) in
        ap (λ (q : PartState). q.records.gave_above) (sym is) ∙ own (h.above id v.part part_here))
        (λ ne. h.above i p (sym (get_else h.world.parts id i next ne) ∙ e))
        (cases_eq i id)

    splits_after : is_split k ≡ false → (u : View T) → get_elem? (set st.views id view_after) 0 ≡ some u → u.part.records.splits + 1 ≡ length (set st.views id view_after)
    splits_after counted u e = ⊎_elim
        (λ (y : (0 ≡ id) × (view_after ≡ u)). ap (λ (z : View T). z.part.records.splits + 1) (sym y.1)
        ∙ (ap (λ n. n + 1) (kept_splits m l v.number x.0 x.1 v.part met k counted) ∙ h.splits v (ap (get_elem? st.views) y.0 ∙ here)))
        (λ (y : (0 ≢ id) × (get_elem? st.views 0 ≡ some u)). h.splits u y.1)
        (at_set st.views id 0 view_after u e) ∙ sym (length-set st.views id view_after)

    -- the rule holds after the event
    pub holds_after : is_split k ≡ false → (v.part.records.gave_above ≡ true → next.records.gave_above ≡ true) → ((n : ℕ) → at_of x.0 ≡ 0 → written x.1 n ≡ n) → Holds m s l rs (record { words = set st.words (at_of x.0) (written x.1 met); homes = st.homes; views = set st.views id view_after })
    holds_after counted own blank = record {
      world = world_after;
      reached = reached_after;
      above = above_after own;
      shown = shown_after;
      about = about_after;
      splits = splits_after counted;
      seat_word = nought st.words (at_of x.0) x.1 blank h.seat_word;
    }

module _ {T : Type 0} (mean : T → Meaning) (naming : Naming) (step : Step Thunk) (s : T) (me : Me Thunk (View T)) where
  abbrev pub event_of : Meaning → EventKind
  event_of m = naming m me.0.layout me.0.requests me.0.part step

  -- what a step tells is determined by the event
  tells : (found : ℕ) (x : Spot × Access) (w : View T) → me.0.structure ≡ Some s → asks (mean s) me.0.layout me.0.requests me.0.number (event_of (mean s)) me.0.part ≡ Some x
      → IsTold (mean s) (event_of (mean s)) x me found (w, me.1) → Tells mean naming step me found (w, me.1)
  tells found x w live asked told t y live' asked' =
      let same : s ≡ t = some_same s t (sym live ∙ live') in
      let met : x ≡ y = some_same x y (sym asked ∙ (ap (λ z. asks (mean z) me.0.layout me.0.requests me.0.number (event_of (mean z)) me.0.part) same ∙ asked')) in
      subst (λ (z : T × (Spot × Access)). IsTold (mean z.0) (event_of (mean z.0)) z.1 me found (w, me.1)) (λ i. (same i, met i)) told

  module _ (l : Layout) (rs : List Request) (id : ℕ) (slots : ℕ) (x : Spot × Access) (live : me.0.structure ≡ Some s) (plain : is_plain me.0.layout me.0.part (event_of (mean s)) ≡ true)
      (blank : (n : ℕ) → address (sizes_for (mean s) l rs) x.0 ≡ 0 → written x.1 n ≡ n) (asked : asks (mean s) me.0.layout me.0.requests me.0.number (event_of (mean s)) me.0.part ≡ Some x) where
    -- a step that makes this event
    pub steps : Allows (Holds (mean s) s l rs) slots id me (address (sizes_for (mean s) l rs) x.0) (written x.1) (Tells mean naming step me)
    steps st h homes here fits =
        let about = h.about id me.0 s here live in
        let k : EventKind = event_of (mean s) in
        let found : ℕ = slice_index st.words (address (sizes_for (mean s) l rs) x.0) in
        let asked' : asks (mean s) l rs me.0.number k me.0.part ≡ Some x = (λ i. asks (mean s) (sym about.same_layout i) (sym about.same_requests i) me.0.number k me.0.part) ∙ asked in
        let plain' : is_plain l me.0.part k ≡ true = ap (λ (z : Layout). is_plain z me.0.part k) (sym about.same_layout) ∙ plain in
        let w : View T = stepped (mean s) k x.0 x.1 me.0 found in
        let view_is : record (me.0) { part = after (mean s) l me.0.number k x.0 x.1 me.0.part found } ≡ w = ap (λ z. record (me.0) { part = after (mean s) z me.0.number k x.0 x.1 me.0.part found }) (sym about.same_layout) in (
          w,
          keeps,
          tt,
          subst (λ (u : View T). Holds (mean s) s l rs (record { words = set st.words (address (sizes_for (mean s) l rs) x.0) (written x.1 found); homes = st.homes; views = set st.views id u })) view_is
              (holds_after (mean s) s l rs k id me.0 x live (no_join l me.0.part k plain') asked' st h here (no_split l me.0.part k plain') (kept_above (mean s) l me.0.number x.0 x.1 me.0.part found k plain') blank),
          tells found x w live asked (record {
            view = refl;
            shown = subst (λ (y : Layout × List Request). ReachedBy (mean s) y.0 y.1 me.0.number k me.0.part (after (mean s) y.0 me.0.number k x.0 x.1 me.0.part found) x found) (λ i. (sym about.same_layout i, sym about.same_requests i))
                (seen_after (mean s) s l rs k id me.0 x live (no_join l me.0.part k plain') asked' st h here);
          }),
        )

    -- a plain store that makes this event, which doesn't go by the number found
    pub stores : (n : ℕ) → x.1 ≡ Stores n → ((a b : ℕ) → after (mean s) me.0.layout me.0.number (event_of (mean s)) x.0 x.1 me.0.part a ≡ after (mean s) me.0.layout me.0.number (event_of (mean s)) x.0 x.1 me.0.part b)
        → Allows (Holds (mean s) s l rs) slots id me (address (sizes_for (mean s) l rs) x.0) (λ z. n) (λ z. Tells mean naming step me n)
    unfolding steps
    stores n is blind st h homes here fits =
        let found : ℕ = slice_index st.words (address (sizes_for (mean s) l rs) x.0) in
        let made = steps st h homes here fits in
        let told = made.4 s x live asked in
        let left : written x.1 found ≡ n = ap (λ a. written a found) is in (
          made.0,
          made.1,
          made.2,
          subst (λ (z : ℕ). Holds (mean s) s l rs (record { words = set st.words (address (sizes_for (mean s) l rs) x.0) z; homes = st.homes; views = set st.views id made.0 })) left made.3,
          tells n x made.0 live asked (record {
            view = told.view ∙ ap (λ p. (record (me.0) { part = p }, me.1)) (blind found n);
            shown = blind_shown (mean s) made.0.layout made.0.requests made.0.number (event_of (mean s)) me.0.part made.0.part x found told.shown n is n;
          }),
        )
