-- What splitting, joining and closing owe to the table, over plain values.
use Rattle.std.proofs.Common.{◌≡◌, ℕ, suc, ◌<◌, List, [], ◌∷◌, ◌++◌, set, sym, refl, ap, subst, ◌∙◌, arith, Some, true, false, Bool}
use Rattle.std.specs.Prelude.{slice_index, ◌==◌, if◌then◌else◌}
use Rattle.std.specs.Option.{IsSome}
use mathlib.Core.Option.{some}
use lib.ListN.{get_elem?}
use Rattle.atomic_table.specs.Table.{State, Me, Splits, Joins, Final, Seen}
use Rattle.atomic_table.specs.Seated.{TableId}
use Rattle.machine_states.specs.map_history.specs.declared.op.Request.{Request}
use Rattle.machine_states.specs.body_terms.specs.declared.thunk.Thunk.{Thunk}
use Rattle.machine_states.specs.table_words.specs.declared.layout.Layout.{Layout}
use Rattle.machine_states.specs.table_words.specs.declared.spot.Spot.{Spot}
use Rattle.machine_states.specs.table_words.specs.declared.spot.Spot.TheVariants.{Seat}
use Rattle.machine_states.specs.table_words.specs.declared.access.Access.{Access}
use Rattle.machine_states.specs.table_words.specs.declared.access.Access.TheVariants.{Loads}
use Rattle.machine_states.specs.structure_laws.specs.Meaning.{Meaning}
use Rattle.machine_states.specs.runner_parts.specs.declared.event.EventKind.{EventKind}
use Rattle.machine_states.specs.runner_parts.specs.declared.event.EventKind.TheVariants as kinds
use Rattle.machine_states.specs.runner_parts.specs.State.{PartState}
use Rattle.machine_states.specs.runner_steps.specs.Asks.{asks}
use Rattle.machine_states.specs.runner_steps.specs.After.{after, knows_also, leaves}
use Rattle.machine_states.specs.World.{seat_of}
use Rattle.machine_states.specs.First.{worker_part}
use Rattle.version_words.specs.declared.view.View.{View}
use Rattle.version_words.specs.declared.rule.Setup.{Setup}
use Rattle.version_words.specs.Shown.{left_part, part_at, joined_in}
use Rattle.version_words.specs.Rule.{Holds, splitting, split_off, joining, spent}
use Rattle.version_words.specs.RunnerState.{RunnerState}
use Rattle.version_words.specs.TableState.{TableState, WordsState, IsOf, IsBuilt, HasJoinedAll, IsClosing, AreShown}
use Rattle.version_words.specs.Events.{met_by, IsEnabled, seen_seat}
use Rattle.version_words.proofs.Begins.{keeper_seat}
use Rattle.version_words.proofs.Calls.{seen_table}
use Rattle.version_words.proofs.SeatMoves.{split_asked, splits_hold, join_asked, joins_hold, first_joined}

-- a worker that the keeper keeps as joined makes no further step
left_gone : (xs : List (ℕ × PartState)) (worker : ℕ) → IsSome (left_part xs worker) → (p : PartState) × (left_part xs worker ≡ Some p) × (p.gone ≡ true)
left_gone [] worker there = absurd (let no : false ≡ true → ⊥ = λ e. cc in no there)
left_gone (x ∷ xs) worker there = by (x.0 == worker) (left_gone xs worker) there
  where
    by : (b : Bool) → (IsSome (left_part xs worker) → (p : PartState) × (left_part xs worker ≡ Some p) × (p.gone ≡ true))
        → IsSome (if b then Some (leaves x.1) else left_part xs worker) → (p : PartState) × ((if b then Some (leaves x.1) else left_part xs worker) ≡ Some p) × (p.gone ≡ true)
    by true rest there = (leaves x.1, refl, refl)
    by false rest there = rest there

-- so the words that are closed are those of a state in which each worker was joined
closed_shown : {T : Type 0} (m : Meaning) (t : TableState T) (keeper : RunnerState T) (w : WordsState T) → IsClosing m t keeper w → HasJoinedAll t keeper → AreShown m t.layout t.requests w.words
closed_shown m t keeper w closing all = record {
  world = closing.world;
  reached = closing.reached;
  words = closing.words;
  gone = λ worker few. let left = left_gone keeper.joined worker (all.joined worker few) in (left.0, closing.worker_parts worker few ∙ left.1, left.2);
}

module _ {T : Type 0} (mean : T → Meaning) (table : TableId) (key built : Setup T) (ok : IsBuilt (mean built.structure) table key built) (own_table : TableId) (me : Me Thunk (View T))
    (t : TableState T) (r : RunnerState T) (t_is : seen_table table built ≡ t) (r_is : seen_seat own_table me ≡ r) (own : IsOf t r) where
  abbrev s : T
  s = built.structure

  abbrev l : Layout
  l = built.layout

  abbrev rs : List Request
  rs = built.requests.items

  abbrev v : View T
  v = me.0

  of_table : IsOf (seen_table table built) (seen_seat own_table me)
  of_table = subst (λ (u : TableState T). IsOf u (seen_seat own_table me)) (sym t_is) (subst (IsOf t) (sym r_is) own)

  enabled_here : (k : EventKind) → IsEnabled (mean t.structure) k r → IsEnabled (mean s) k (seen_seat own_table me)
  enabled_here k enabled = subst (λ (u : TableState T). IsEnabled (mean u.structure) k (seen_seat own_table me)) (sym t_is) (subst (IsEnabled (mean t.structure) k) (sym r_is) enabled)

  -- the event is enabled as the machine sees it
  asked_here : (k : EventKind) (x : Spot × Access) → met_by (mean s) (seen_seat own_table me) k ≡ Some x → asks (mean s) l rs v.number k v.part ≡ Some x
  asked_here k x e = (λ i. asks (mean s) (sym of_table.layout i) (sym of_table.requests i) v.number k v.part) ∙ e

  some_word : 0 < table.words
  some_word = let a = ok.words in omega (arith, a)

  split_met : IsEnabled (mean t.structure) kinds.Split r → asks (mean s) l rs v.number kinds.Split v.part ≡ Some (Seat, Loads)
  split_met enabled = let e = enabled_here kinds.Split enabled in let asked = asked_here kinds.Split e.met e.asked in asked ∙ ap Some (split_asked (mean s) l rs v.number v.part e.met asked).met

  pub splits_owe : (id : ℕ) → IsEnabled (mean t.structure) kinds.Split r
      → (own_table ≡ table) × (0 < table.words) × Splits (Holds (mean key.structure) key.structure key.layout key.requests.items) id v (splitting mean v v.structure) (split_off mean v v.structure)
  splits_owe id enabled = (
    of_table.table,
    some_word,
    subst (λ (y : Setup T). Splits (Holds (mean y.structure) y.structure y.layout y.requests.items) id v (splitting mean v v.structure) (split_off mean v v.structure)) (sym ok.told)
        (λ st h here.
        let kept : record v { part = after (mean s) l v.number kinds.Split Seat Loads v.part (slice_index st.words 0) } ≡ splitting mean v v.structure =
        (λ i. record v { part = after (mean s) (sym of_table.layout i) v.number kinds.Split Seat Loads v.part (h.seat_word i) }) ∙ sym (ap (splitting mean v) of_table.structure) in
        let new : record v { number = v.part.records.splits; part = worker_part (mean s) l v.part.records.splits; joined = [] } ≡ split_off mean v v.structure =
        ap (λ (z : Layout). record v { number = v.part.records.splits; part = worker_part (mean s) z v.part.records.splits; joined = [] }) (sym of_table.layout) ∙ sym (ap (split_off mean v) of_table.structure) in
        subst (λ (u : View T). Holds (mean s) s l rs (record { words = st.words; homes = st.homes; views = set st.views id u ++ split_off mean v v.structure ∷ [] })) kept
        (subst (λ (u : View T). Holds (mean s) s l rs (record { words = st.words; homes = st.homes; views = set st.views id (record v { part = after (mean s) l v.number kinds.Split Seat Loads v.part (slice_index st.words 0) }) ++ u ∷ [] })) new
        (splits_hold mean s l rs id v of_table.structure (split_met enabled) st h here))),
  )

  module _ (other_table : TableId) (me' : Me Thunk (View T)) (r' : RunnerState T) (r'_is : seen_seat other_table me' ≡ r') (own' : IsOf t r') (enabled : IsEnabled (mean t.structure) (kinds.Join r'.number) r) where
    abbrev w : View T
    w = me'.0

    of_table' : IsOf (seen_table table built) (seen_seat other_table me')
    of_table' = subst (λ (u : TableState T). IsOf u (seen_seat other_table me')) (sym t_is) (subst (IsOf t) (sym r'_is) own')

    join_met : asks (mean s) l rs v.number (kinds.Join w.number) v.part ≡ Some (Seat, Loads)
    join_met =
        let e = enabled_here (kinds.Join w.number) (subst (λ (y : RunnerState T). IsEnabled (mean t.structure) (kinds.Join y.number) r) (sym r'_is) enabled) in
        let asked = asked_here (kinds.Join w.number) e.met e.asked in
        asked ∙ ap Some (join_asked (mean s) l rs v.number w.number v.part e.met asked).met

    pub joins_owe : (id other : ℕ) → me'.1 ≡ []
        → (own_table ≡ table) × (other_table ≡ table) × (me'.1 ≡ []) × (0 < table.words) × Joins (Holds (mean key.structure) key.structure key.layout key.requests.items) id v other w (joining mean v w v.structure) spent
    joins_owe id other empty = (
      of_table.table,
      of_table'.table,
      empty,
      some_word,
      subst (λ (y : Setup T). Joins (Holds (mean y.structure) y.structure y.layout y.requests.items) id v other w (joining mean v w v.structure) spent) (sym ok.told)
          (λ st h here apart there.
          let both : record v { part = knows_also (after (mean s) l v.number (kinds.Join w.number) Seat Loads v.part (slice_index st.words 0)) w.part; joined = (w.number, w.part) ∷ v.joined } ≡ joining mean v w v.structure =
          (λ i. record v { part = knows_also (after (mean s) (sym of_table.layout i) v.number (kinds.Join w.number) Seat Loads v.part (h.seat_word i)) w.part; joined = (w.number, w.part) ∷ v.joined }) ∙ sym (ap (joining mean v w) of_table.structure) in
          subst (λ (u : View T). Holds (mean s) s l rs (record { words = st.words; homes = st.homes; views = set (set st.views id u) other spent })) both
          (joins_hold mean s l rs id other v w of_table.structure of_table'.structure join_met st h here apart
          (subst (λ (u : View T). get_elem? (set st.views id u) other ≡ some w) (sym both) there))),
    )

  module _ (held : List ℕ) (slots : List Thunk) (id : ℕ) (final : Final (Seen (Holds (mean key.structure) key.structure key.layout key.requests.items) id v) held slots) where
    final_here : Final (Seen (Holds (mean s) s l rs) id v) held slots
    final_here = subst (λ (y : Setup T). Final (Seen (Holds (mean y.structure) y.structure y.layout y.requests.items) id v) held slots) ok.told final

    abbrev st : State Thunk (View T)
    st = final_here.0

    holds : Holds (mean s) s l rs st
    holds = final_here.1.0

    here : get_elem? st.views id ≡ some v
    here = final_here.1.1

    abbrev words_closed : WordsState T
    words_closed = record { structure = s; layout = l; requests = rs; words = held }

    zero_id : v.number ≡ l.runners → id ≡ 0
    zero_id is = sym (holds.about id v s here of_table.structure).own_seat ∙ (ap (seat_of l) is ∙ keeper_seat l)

    closed_here : HasJoinedAll (seen_table table built) (seen_seat own_table me) → IsClosing (mean s) (seen_table table built) (seen_seat own_table me) words_closed
    closed_here all =
        let first : get_elem? st.views 0 ≡ some v = ap (get_elem? st.views) (sym (zero_id all.number)) ∙ here in
        let joined : joined_in st.views ≡ v.joined = first_joined st.views v first in
        record {
          structure = refl;
          layout = refl;
          requests = refl;
          world = holds.world;
          reached = holds.reached;
          above = holds.above;
          words = holds.shown.words ∙ final_here.2;
          keeper_part = holds.shown.seated 0 v first ∙ ap (part_at (joined_in st.views) 0 v.part) of_table.structure;
          worker_parts = λ worker few.
              let gone = holds.shown.left worker (subst (λ (js : List (ℕ × PartState)). IsSome (left_part js worker)) (sym joined) (all.joined worker few)) in
              holds.shown.seated (suc worker) gone.view gone.there ∙ (ap (part_at (joined_in st.views) (suc worker) gone.view.part) gone.empty ∙ ap (λ (js : List (ℕ × PartState)). left_part js worker) joined);
        }

    pub closes : HasJoinedAll t r → IsClosing (mean t.structure) t r words_closed
    closes all = subst (λ (u : TableState T). IsClosing (mean u.structure) u r words_closed) t_is
        (subst (λ (y : RunnerState T). IsClosing (mean s) (seen_table table built) y words_closed) r_is
        (closed_here (subst (λ (u : TableState T). HasJoinedAll u (seen_seat own_table me)) (sym t_is) (subst (HasJoinedAll t) (sym r_is) all))))

    -- the words are those of a state in which each worker was joined
    pub shown_closed : HasJoinedAll t r → AreShown (mean s) l rs held
    shown_closed all =
        let joined = subst (λ (u : TableState T). HasJoinedAll u (seen_seat own_table me)) (sym t_is) (subst (HasJoinedAll t) (sym r_is) all) in
        closed_shown (mean s) (seen_table table built) (seen_seat own_table me) words_closed (closed_here joined) joined
