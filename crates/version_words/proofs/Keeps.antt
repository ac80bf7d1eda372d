-- What a runner's code keeps, before and after a step.
use Rattle.std.proofs.Common.{◌∷◌, ◌≡◌, ℕ, Bool, true, false, refl, sym, ap, subst, ◌∙◌, Option, Some, None}
use Rattle.atomic_table.specs.Table.{Me}
use Rattle.atomic_table.specs.Seated.{TableId}
use Rattle.machine_states.specs.body_terms.specs.declared.thunk.Thunk.{Thunk}
use Rattle.machine_states.specs.table_words.specs.Places.{slot_count}
use Rattle.machine_states.specs.structure_laws.specs.Meaning.{Meaning}
use Rattle.machine_states.specs.runner_parts.specs.declared.event.EventKind.{EventKind}
use Rattle.machine_states.specs.runner_parts.specs.State.{RunState, PartState}
use Rattle.machine_states.specs.runner_parts.specs.declared.event.EventKind.TheVariants as kinds
use Rattle.machine_states.specs.runner_steps.specs.After.{outside_after, stepped, after, knows_also}
use Rattle.machine_states.specs.table_words.specs.declared.spot.Spot.TheVariants as spots
use Rattle.machine_states.specs.table_words.specs.declared.access.Access.TheVariants.{Loads}
use Rattle.machine_states.proofs.Steps.{some_same}
use Rattle.version_words.specs.declared.view.View.{View}
use Rattle.runner_block.specs.declared.block.Block.{Block}
use Rattle.runner_block.specs.declared.marks.Mark.{Mark}
use Rattle.runner_block.specs.Kept.{KeptState, with_part, with_marks}
use Rattle.runner_block.specs.Marks.{marks_of}
use Rattle.runner_block.specs.Links.{BlocksKept}
use Rattle.machine_states.specs.runner_steps.specs.Board.{board_after}
use Rattle.version_words.specs.RunnerState.{RunnerState, told_part}
use Rattle.version_words.specs.Place.{HasPlace, HasLinks, HasEpoch, EndsSo}
use Rattle.version_words.specs.Kept.{KeepsBlocks, IsKept, IsOfTable}
use Rattle.version_words.specs.Events.{IsEnabled, Makes, seen_seat}
use Rattle.version_words.specs.Rule.{joining, splitting}
use Rattle.machine_states.specs.table_words.specs.declared.layout.Layout.{Layout}
use Rattle.machine_states.specs.runner_steps.specs.AfterOutside.{split_after}
use Rattle.std.specs.Prelude.{nat_lt, ◌+◌, ◌&&◌, List, if◌then◌else◌}
use Rattle.std.proofs.lemmas.Bool.{and_parts}
use Rattle.std.proofs.lemmas.Option.{none-some}
use Rattle.version_words.proofs.Asked.{is_outer, in_no_run}
use Rattle.version_words.proofs.BlocksKept.{leaves_blocks, keeps_blocks, blocks_to}
use Rattle.version_words.proofs.Told.{told, told_outside, still_outside, leaves_board, board_left}

-- what a step of the code keeps beside the part: the room, and mostly the marks and the blocks
abbrev pub beside : KeptState → ℕ × (List Mark × (BlocksKept × Option ℕ))
beside kept = (kept.room, (kept.marks, (kept.blocks, kept.named)))

-- the kinds of step that leave the board's marks and the blocks
abbrev pub leaves_all : EventKind → Bool
leaves_all k = leaves_board k && leaves_blocks k

-- the block is that of this part
pub record KeepsPart (m : Meaning) (kept : Block) (p : PartState) : Type 0 where
  pub lists : kept.lists.part ≡ told_part p
  pub place : HasPlace kept.place p
  pub run : EndsSo m kept.place p.run
  pub epoch : HasEpoch m kept.place.epoch p.run

-- a runner in no run
pub no_epoch : (m : Meaning) (epoch : ℕ) (o : Option RunState) → ((q : RunState) → o ≡ Some q → ⊥) → HasEpoch m epoch o
no_epoch m epoch o none = record { opening = λ q e few. absurd (none q e); retiring = λ q slot log e at. absurd (none q e) }

-- a runner in no run, before and after, whose view keeps all but what it knows
module _ {T : Type 0} (mean : T → Meaning) (number : ℕ) (kept : Block) (me me' : Me Thunk (View T)) (view' : View T) (is : view' ≡ me'.0) (same_number : me.0.number ≡ view'.number) (same_layout : me.0.layout ≡ view'.layout)
    (same_structure : me.0.structure ≡ view'.structure) (slots : me'.1 ≡ me.1) (was : IsKept mean number kept me) (rested : me.0.part.run ≡ None) (rests : view'.part.run ≡ None) where
  none_runs : (q : RunState) → view'.part.run ≡ Some q → ⊥
  none_runs q e = none-some q (sym rests ∙ e)

  pub resting_kept : (lists : KeptState) → lists.room ≡ kept.lists.room → lists.part ≡ told_part view'.part → lists.marks ≡ marks_of view'.part.board → KeepsBlocks lists view'.part
      → IsKept mean number (record kept { lists = lists }) me'
  resting_kept lists room told_so marks blocks = record {
    same_number = was.same_number ∙ (same_number ∙ ap (λ (v : View T). v.number) is);
    lists = told_so ∙ ap (λ (v : View T). told_part v.part) is;
    marks = marks ∙ ap (λ (v : View T). marks_of v.part.board) is;
    blocks = subst (λ (v : View T). KeepsBlocks lists v.part) is blocks;
    place = subst (λ (v : View T). HasPlace kept.place v.part) is (record {
      run = λ q e. absurd (none_runs q e);
      outside = λ e. was.place.outside rested;
      in_hand = λ q slot e f. absurd (none_runs q e);
    });
    slots = slots ∙ was.slots;
    of_table = λ t there. subst (λ (v : View T). IsOfTable (mean t) (record kept { lists = lists }) v) is (record {
      room = room ∙ ((was.of_table t (same_structure ∙ (ap (λ (v : View T). v.structure) is ∙ there))).room ∙ ap (λ (l : Layout). slot_count l (mean t).fixed_slots) same_layout);
      run = record { ending = λ q e. absurd (none_runs q e) };
      epoch = no_epoch (mean t) kept.place.epoch view'.part.run none_runs;
    });
  }

module _ {T : Type 0} (mean : T → Meaning) (s : T) (k : EventKind) (found number : ℕ) (kept : Block) (old_table new_table : TableId) (me me' : Me Thunk (View T)) (live : me.0.structure ≡ Some s)
    (made : Makes (mean s) k found (seen_seat old_table me) (seen_seat new_table me')) (slots : me'.1 ≡ me.1) (was : IsKept mean number kept me) where
  pub was_part : KeepsPart (mean s) kept me.0.part
  was_part = record { lists = was.lists; place = was.place; run = (was.of_table s live).run; epoch = (was.of_table s live).epoch }

  pub part_is : me'.0.part ≡ after (mean s) me.0.layout me.0.number k made.met.0 made.met.1 me.0.part found
  part_is = ap (λ (r : RunnerState T). r.part) made.made

  -- the marks behind a step that leaves what the runner knows of the board
  same_marks : leaves_board k ≡ true → (marks : List Mark) → marks ≡ kept.lists.marks → marks ≡ marks_of (board_after k me.0.part.board found)
  same_marks left marks same = same ∙ (was.marks ∙ sym (ap marks_of (board_left k me.0.part.board found left)))

  -- the blocks behind a step that leaves them
  same_blocks : leaves_blocks k ≡ true → (lists : KeptState) → lists.blocks ≡ kept.lists.blocks → lists.named ≡ kept.lists.named → KeepsBlocks lists me'.0.part
  same_blocks quiet lists blocks named = blocks_to (sym blocks) (sym named)
      (subst (KeepsBlocks kept.lists) (sym part_is) (keeps_blocks (mean s) me.0.layout me.0.number k made.met.0 made.met.1 me.0.part found kept.lists quiet was.blocks))

  module _ (left : leaves_board k ≡ true) (kept' : Block) (room : kept'.lists.room ≡ kept.lists.room) (marked : kept'.lists.marks ≡ kept.lists.marks) (blocks : KeepsBlocks kept'.lists me'.0.part)
      (h : KeepsPart (mean s) kept' (stepped (mean s) me.0.layout k me.0.part found)) where
    ends : EndsSo (mean s) kept'.place me'.0.part.run
    ends = record { ending = λ q e. h.run.ending q (sym (ap (λ (p : PartState). p.run) part_is) ∙ e) }

    epoch_there : HasEpoch (mean s) kept'.place.epoch me'.0.part.run
    epoch_there = subst (HasEpoch (mean s) kept'.place.epoch) (sym (ap (λ (p : PartState). p.run) part_is)) h.epoch

    of_table : (s' : T) → me'.0.structure ≡ Some s' → IsOfTable (mean s') kept' me'.0
    of_table s' live' =
        let same = sym (ap (λ (r : RunnerState T). r.structure) made.made) ∙ live' in
        record {
          room = room ∙ ((was.of_table s' same).room ∙ sym (ap (λ (r : RunnerState T). slot_count r.layout (mean s').fixed_slots) made.made));
          run = subst (λ (y : T). EndsSo (mean y) kept'.place me'.0.part.run) (some_same s s' (sym live ∙ same)) ends;
          epoch = subst (λ (y : T). HasEpoch (mean y) kept'.place.epoch me'.0.part.run) (some_same s s' (sym live ∙ same)) epoch_there;
        }

    -- what the code keeps is that of the part after the step
    pub then_kept_with : IsKept mean number kept' me'
    then_kept_with = record {
      same_number = was.same_number ∙ sym (ap (λ (r : RunnerState T). r.number) made.made);
      lists = h.lists ∙ sym (ap told_part part_is ∙ told (mean s) me.0.layout me.0.number k made.met.0 made.met.1 me.0.part found);
      marks = same_marks left kept'.lists.marks marked ∙ sym (ap (λ (p : PartState). marks_of p.board) part_is);
      blocks = blocks;
      place = subst (HasPlace kept'.place) (sym part_is) (record { run = h.place.run; outside = h.place.outside; in_hand = h.place.in_hand });
      slots = slots ∙ was.slots;
      of_table = of_table;
    }

  -- and so behind a step that leaves the marks and the blocks
  pub then_kept : leaves_all k ≡ true → (kept' : Block) → beside kept'.lists ≡ beside kept.lists → KeepsPart (mean s) kept' (stepped (mean s) me.0.layout k me.0.part found) → IsKept mean number kept' me'
  then_kept left kept' same h =
      let both = and_parts (leaves_board k) (leaves_blocks k) left in
      then_kept_with both.0 kept' (ap (λ (z : ℕ × (List Mark × (BlocksKept × Option ℕ))). z.0) same) (ap (λ (z : ℕ × (List Mark × (BlocksKept × Option ℕ))). z.1.0) same)
      (same_blocks both.1 kept'.lists (ap (λ (z : ℕ × (List Mark × (BlocksKept × Option ℕ))). z.1.1.0) same) (ap (λ (z : ℕ × (List Mark × (BlocksKept × Option ℕ))). z.1.1.1) same)) h

  module _ (outer : is_outer k ≡ true) where
    pub resting : me.0.part.run ≡ None
    resting = in_no_run (mean s) (seen_seat old_table me) k outer (record { met = made.met; asked = made.asked })

    -- a step in no run
    pub outer_kept : (lists : KeptState) → lists.room ≡ kept.lists.room → lists.part ≡ told_part (outside_after (mean s) me.0.layout k me.0.part found)
        → lists.marks ≡ marks_of (board_after k me.0.part.board found) → KeepsBlocks lists me'.0.part → IsKept mean number (record kept { lists = lists }) me'
    outer_kept lists room is marks blocks = resting_kept mean number kept me me' me'.0 refl (sym (ap (λ (r : RunnerState T). r.number) made.made)) (sym (ap (λ (r : RunnerState T). r.layout) made.made)) (sym (ap (λ (r : RunnerState T). r.structure) made.made))
        slots was resting (ap (λ (p : PartState). p.run) part_is ∙ still_outside (mean s) me.0.layout me.0.part found me.0.number k made.met.0 made.met.1 outer resting) lists room
        (is ∙ sym (ap told_part part_is ∙ told_outside (mean s) me.0.layout me.0.number k made.met.0 made.met.1 me.0.part found resting))
        (marks ∙ sym (ap (λ (p : PartState). marks_of p.board) part_is)) blocks

    -- a step in no run that changes the lists and the marks as the code does
    pub marked_kept : leaves_blocks k ≡ true → (lists : KeptState) (f : PartState → PartState) (marks : List Mark) → lists ≡ with_marks (with_part kept.lists (f kept.lists.part)) marks
        → f (told_part me.0.part) ≡ told_part (outside_after (mean s) me.0.layout k me.0.part found) → marks ≡ marks_of (board_after k me.0.part.board found)
        → IsKept mean number (record kept { lists = lists }) me'
    marked_kept quiet lists f marks is same marked = outer_kept lists (ap (λ l. l.room) is) (ap (λ l. l.part) is ∙ (ap f was.lists ∙ same)) (ap (λ l. l.marks) is ∙ marked)
        (same_blocks quiet lists (ap (λ l. l.blocks) is) (ap (λ l. l.named) is))

  module _ (still : (is_outer k && leaves_all k) ≡ true) where
    outer : is_outer k ≡ true
    outer = (and_parts (is_outer k) (leaves_all k) still).0

    both : (leaves_board k ≡ true) × (leaves_blocks k ≡ true)
    both = and_parts (leaves_board k) (leaves_blocks k) (and_parts (is_outer k) (leaves_all k) still).1

    -- a step in no run that leaves the lists
    pub idle_kept : told_part (outside_after (mean s) me.0.layout k me.0.part found) ≡ told_part me.0.part → IsKept mean number kept me'
    idle_kept same = outer_kept outer kept.lists refl (was.lists ∙ sym same) (same_marks both.0 kept.lists.marks refl) (same_blocks both.1 kept.lists refl refl)

    -- a step in no run that changes the lists as the code does
    pub lists_kept : (lists : KeptState) (f : PartState → PartState) → lists ≡ with_part kept.lists (f kept.lists.part) → f (told_part me.0.part) ≡ told_part (outside_after (mean s) me.0.layout k me.0.part found)
        → IsKept mean number (record kept { lists = lists }) me'
    lists_kept lists f is same = outer_kept outer lists (ap (λ l. l.room) is) (ap (λ l. l.part) is ∙ (ap f was.lists ∙ same)) (same_marks both.0 lists.marks (ap (λ l. l.marks) is))
        (same_blocks both.1 lists (ap (λ l. l.blocks) is) (ap (λ l. l.named) is))

-- a keeper that joins a worker keeps what it has
module _ {T : Type 0} (mean : T → Meaning) (s : T) (number : ℕ) (kept : Block) (own_table : TableId) (me me' : Me Thunk (View T)) (w : View T) (live : me.0.structure ≡ Some s)
    (enabled : IsEnabled (mean s) (kinds.Join w.number) (seen_seat own_table me)) (joins : me'.0 ≡ joining mean me.0 w me.0.structure) (slots : me'.1 ≡ me.1) (was : IsKept mean number kept me) where
  abbrev met : PartState
  met = after (mean s) me.0.layout me.0.number (kinds.Join w.number) spots.Seat Loads me.0.part 0

  joined_rested : me.0.part.run ≡ None
  joined_rested = in_no_run (mean s) (seen_seat own_table me) (kinds.Join w.number) refl enabled

  pub join_kept : IsKept mean number kept me'
  join_kept = resting_kept mean number kept me me' (record (me.0) { part = knows_also met w.part; joined = (w.number, w.part) ∷ me.0.joined }) (sym (joins ∙ ap (joining mean me.0 w) live)) refl refl refl slots was joined_rested
      (still_outside (mean s) me.0.layout me.0.part 0 me.0.number (kinds.Join w.number) spots.Seat Loads refl joined_rested) kept.lists refl
      (was.lists ∙ sym (told_outside (mean s) me.0.layout me.0.number (kinds.Join w.number) spots.Seat Loads me.0.part 0 joined_rested)) was.marks
      (let here = keeps_blocks (mean s) me.0.layout me.0.number (kinds.Join w.number) spots.Seat Loads me.0.part 0 kept.lists refl was.blocks in record { lists = here.lists; named = here.named; links = here.links })

-- a keeper that splits off a worker counts it
module _ {T : Type 0} (mean : T → Meaning) (s : T) (number : ℕ) (kept : Block) (own_table : TableId) (me me' : Me Thunk (View T)) (live : me.0.structure ≡ Some s)
    (enabled : IsEnabled (mean s) kinds.Split (seen_seat own_table me)) (splits : me'.0 ≡ splitting mean me.0 me.0.structure) (slots : me'.1 ≡ me.1) (was : IsKept mean number kept me) where
  split_rested : me.0.part.run ≡ None
  split_rested = in_no_run (mean s) (seen_seat own_table me) kinds.Split refl enabled

  split_told : (b : Bool) → (if b then record (told_part me.0.part) { records = record ((told_part me.0.part).records) { splits = me.0.part.records.splits + 1 } } else told_part me.0.part)
      ≡ told_part (if b then record (me.0.part) { records = record (me.0.part.records) { splits = me.0.part.records.splits + 1 } } else me.0.part)
  split_told true = refl
  split_told false = refl

  pub split_kept : (l : Layout) (lists : KeptState) → l ≡ me.0.layout → lists ≡ with_part kept.lists (split_after l kept.lists.part) → IsKept mean number (record kept { lists = lists }) me'
  split_kept l lists same is = resting_kept mean number kept me me' (record (me.0) { part = after (mean s) me.0.layout me.0.number kinds.Split spots.Seat Loads me.0.part 0 }) (sym (splits ∙ ap (splitting mean me.0) live)) refl refl refl
      slots was split_rested (still_outside (mean s) me.0.layout me.0.part 0 me.0.number kinds.Split spots.Seat Loads refl split_rested) lists (ap (λ k. k.room) is)
      (ap (λ k. k.part) is ∙ (ap (λ (z : Layout). split_after z kept.lists.part) same ∙ (ap (split_after me.0.layout) was.lists
      ∙ (split_told (nat_lt me.0.part.records.splits me.0.layout.runners) ∙ sym (told_outside (mean s) me.0.layout me.0.number kinds.Split spots.Seat Loads me.0.part 0 split_rested)))))
      (ap (λ k. k.marks) is ∙ was.marks)
      (let here = keeps_blocks (mean s) me.0.layout me.0.number kinds.Split spots.Seat Loads me.0.part 0 kept.lists refl was.blocks in record {
        lists = ap (λ k. k.blocks.lists) is ∙ here.lists;
        named = ap (λ k. k.named) is ∙ here.named;
        links = subst (λ k. HasLinks k.blocks.links (after (mean s) me.0.layout me.0.number kinds.Split spots.Seat Loads me.0.part 0).run) (sym is) here.links;
      })
