-- What each step leaves of what a runner has read and published in its entry.
use Rattle.std.specs.Prelude.{◌==◌, ◌&&◌, ◌⊎◌, not, nat_lt, nat_le, Bool, true, false, if◌then◌else◌}
use Rattle.std.proofs.Common.{◌≡◌, ℕ, suc, ◌≤◌, List, [], ◌∷◌, ◌++◌, length, length-append, refl, sym, ap, ◌∙◌, inl, inr, arith, Option, Some, None}
use Rattle.machine_states.specs.body_terms.specs.Line.{is_end}
use Rattle.machine_states.specs.body_terms.specs.declared.micro.Micro.{Micro}
use Rattle.machine_states.specs.body_terms.specs.declared.thunk.Thunk.{Thunk}
use Rattle.machine_states.specs.table_words.specs.declared.layout.Layout.{Layout}
use Rattle.machine_states.specs.table_words.specs.Places.{slot_count}
use Rattle.machine_states.specs.structure_laws.specs.Meaning.{Meaning}
use Rattle.machine_states.specs.epoch_core.specs.Moves.{is_clear}
use Rattle.machine_states.specs.runner_parts.specs.declared.entries.Published.{Published}
use Rattle.machine_states.specs.epoch_core.specs.declared.stage.Stage.{Stage}
use Rattle.machine_states.specs.epoch_core.specs.declared.stage.Stage.TheVariants as stages
use Rattle.machine_states.specs.runner_parts.specs.declared.event.EventKind.{EventKind}
use Rattle.machine_states.specs.runner_parts.specs.declared.event.EventKind.TheVariants as kinds
use Rattle.machine_states.specs.runner_parts.specs.State.{RunState, ReadsState, PartState}
use Rattle.machine_states.specs.runner_steps.specs.Sections.{is_open_run, next_of}
use Rattle.machine_states.specs.epoch_core.specs.State.{last_epoch}
use Rattle.machine_states.specs.runner_steps.specs.InRun.{last_clock}
use Rattle.machine_states.specs.runner_steps.specs.AfterInRun as inside
use Rattle.machine_states.specs.runner_steps.specs.AfterOutside as outside
use Rattle.machine_states.specs.runner_steps.specs.After.{line_after, inside_after, outside_after}
use Rattle.machine_states.proofs.Steps.{some_same, none_some}

-- how many cells were read since the runner entered, and how many of them in walks
abbrev pub read_count : ReadsState → ℕ
read_count reads = length reads.cells

abbrev pub walk_count : ReadsState → ℕ
walk_count reads = length reads.walk

one_longer : {A : Type 0} (xs : List A) (y : A) → length (xs ++ y ∷ []) ≡ suc (length xs)
one_longer xs y = let sum = length-append xs (y ∷ []) in omega (arith, sum)

module _ (m : Meaning) (l : Layout) (y : PartState) (found : ℕ) (kind : EventKind) where
  -- what the part is at and keeps after the step
  module _ (stage : Stage) (reads : ReadsState) (published : Option Published) where
    -- the step reads one more cell in a walk
    abbrev pub Reads : Type 0
    Reads = (place : ℕ) × (kind ≡ kinds.LoadCell (Some place)) × (reads.walk ≡ y.reads.walk ++ (place, found) ∷ [])

    -- who has published a section has read a cell besides its walks, and as many as it had walked before it published
    abbrev pub Noted : Type 0
    Noted = (x : Published) → published ≡ Some x → (suc (walk_count reads) ≤ read_count reads) × (suc x.walked ≤ read_count reads)

    -- nothing is published, and at most one cell was read besides the walks
    abbrev pub None' : Type 0
    None' = (published ≡ None) × (read_count reads ≤ suc (walk_count reads))

  module _ (stage : Stage) (reads : ReadsState) (published : Option Published) where
    -- it was entered if it is, its walk is the same or has one more, and it had published nothing in its entry if it has
    -- published nothing
    pub record Stays : Type 0 where
      pub was : (entry : ℕ) → stage ≡ stages.Entered entry → y.stage ≡ stages.Entered entry
      pub walk : (reads.walk ≡ y.reads.walk) ⊎ Reads stage reads published
      pub few : walk_count y.reads ≤ read_count y.reads → walk_count reads ≤ read_count reads
      pub noted : walk_count y.reads ≤ read_count y.reads → Noted y.stage y.reads y.published → Noted stage reads published
      pub none : Noted y.stage y.reads y.published → None' stage reads published → None' y.stage y.reads y.published

    -- or it enters
    pub record Enters : Type 0 where
      pub is : kind ≡ kinds.EnterAgain
      pub walk : reads.walk ≡ []
      pub own : published ≡ y.published

    abbrev pub MovesBy : Type 0
    MovesBy = Stays ⊎ Enters

  pub record Moves (z : PartState) : Type 0 where
    pub by : MovesBy z.stage z.reads z.published

  -- the walk and what is published are the same, and there are as many readings or more
  as_before : (z : PartState) → z.stage ≡ y.stage → z.reads.walk ≡ y.reads.walk → read_count y.reads ≤ read_count z.reads → z.published ≡ y.published
      → Moves z
  as_before z stage walk up own =
      let walks = ap (λ (xs : List (ℕ × ℕ)). length xs) walk in record {
        by = inl (record {
          was = λ entry e. sym stage ∙ e;
          walk = inl walk;
          few = λ h. omega (arith, h, walks, up);
          noted = λ h noted x is. let two = noted x (sym own ∙ is) in let a = two.0 in let b = two.1 in (omega (arith, a, walks, up), omega (arith, b, up));
          none = λ noted h. let low = h.1 in (sym own ∙ h.0, omega (arith, low, walks, up));
        });
      }

  same : (z : PartState) → z.stage ≡ y.stage → z.reads.walk ≡ y.reads.walk → z.reads.cells ≡ y.reads.cells → z.published ≡ y.published → Moves z
  same z stage walk cells own =
      let count = ap (λ (xs : List (ℕ × ℕ)). length xs) cells in as_before z stage walk (omega (arith, count)) own

  -- one more cell is read, not in a walk
  read_more : (z : PartState) (u : ℕ × ℕ) → z.stage ≡ y.stage → z.reads.walk ≡ y.reads.walk → z.reads.cells ≡ y.reads.cells ++ u ∷ []
      → z.published ≡ y.published → Moves z
  read_more z u stage walk cells own =
      let more = ap (λ (xs : List (ℕ × ℕ)). length xs) cells ∙ one_longer y.reads.cells u in
      as_before z stage walk (omega (arith, more)) own

  either : (b : Bool) (z z' : PartState) → Moves z → Moves z' → Moves (if b then z else z')
  either true z z' one two = one
  either false z z' one two = two

  module _ (q : RunState) where
    fill : (slot : ℕ) (made : Option ℕ) → Moves (inside.fill_loaded m l slot y q made found)
    fill slot None = same _ refl refl refl refl
    fill slot (Some t) = same _ refl refl refl refl

    make : (made : Option ℕ) → Moves (inside.make_committed m l y q made found)
    make None = same y refl refl refl refl
    make (Some t) = same _ refl refl refl refl

    -- the own section was published, and the run that ends it reads one more cell
    over : (place : ℕ) (o : Option Published) → y.published ≡ o → (z : PartState) → z.stage ≡ y.stage → z.reads.walk ≡ y.reads.walk
        → z.reads.cells ≡ y.reads.cells ++ (place, found) ∷ [] → z.published ≡ inside.kept_unless o q.descriptor → Moves z
    over place None is z stage walk cells own = read_more z (place, found) stage walk cells (own ∙ sym is)
    over place (Some x) is z stage walk cells own = by (x.descriptor == q.descriptor) own
      where
        by : (b : Bool) → z.published ≡ (if b then None else Some x) → Moves z
        by false here = read_more z (place, found) stage walk cells (here ∙ sym is)
        by true here =
            let walks = ap (λ (xs : List (ℕ × ℕ)). length xs) walk in
            let more = ap (λ (xs : List (ℕ × ℕ)). length xs) cells ∙ one_longer y.reads.cells (place, found) in record {
              by = inl (record {
                was = λ entry e. sym stage ∙ e;
                walk = inl walk;
                few = λ h. omega (arith, h, walks, more);
                noted = λ h noted x1 is1. absurd (none_some x1 (sym is1 ∙ here));
                none = λ noted h. absurd (let low = h.1 in let two = (noted x is).0 in omega (arith, low, two, walks, more));
              });
            }

    released : (place : ℕ) → Moves (inside.lock_released m l place y q found)
    released place = either (is_end (next_of m (inside.ended_more q))) _ _
        (over place y.published refl _ refl refl refl refl)
        (read_more _ (place, found) refl refl refl refl)

    line_moves : (kind' : EventKind) (micro : Micro) → Moves (line_after m l kind' y q micro found)
    line_moves kinds.Commit micro = same _ refl refl refl refl
    line_moves (kinds.LoadCell place) micro = read_more _ _ refl refl refl refl
    line_moves kinds.ExchangeCell micro = read_more _ _ refl refl refl refl
    line_moves (kinds.PrivateLoad slot word) micro = fill slot q.made
    line_moves (kinds.PrivateStore slot word number) micro = same _ refl refl refl refl
    line_moves (kinds.LinkCommit b) micro = same _ refl refl refl refl
    line_moves kinds.MakeCommit micro = make q.made
    line_moves kinds.RetireCommit micro = same _ refl refl refl refl
    line_moves kinds.EpochForRetire micro = same _ refl refl refl refl
    line_moves kinds.SetDone micro = same _ refl refl refl refl
    line_moves kinds.Release micro = released (inside.place_of micro)
    line_moves kinds.ClockLoad micro = same _ refl refl refl refl
    line_moves kinds.StampExchange micro = either (nat_lt q.word last_clock) _ _ (same _ refl refl refl refl) (same y refl refl refl refl)
    line_moves kinds.ClockRaise micro = same _ refl refl refl refl
    line_moves kinds.ReplyExchange micro = same _ refl refl refl refl
    line_moves kinds.NestedLoad micro = read_more _ _ refl refl refl refl
    line_moves kinds.NestedHold micro = read_more _ _ refl refl refl refl
    line_moves kinds.OutcomeLoad micro = read_more _ _ refl refl refl refl
    line_moves kinds.OutcomeCommit micro = same _ refl refl refl refl
    line_moves kind' micro = same y refl refl refl refl

    pub inside_moves : (kind' : EventKind) → Moves (inside_after m l kind' y q found)
    inside_moves kind' = either (is_open_run q) _ _ (line_moves kind' (next_of m q)) (same _ refl refl refl refl)

  -- a runner that leaves or scans isn't entered
  apart : (z : PartState) → ((entry : ℕ) → z.stage ≡ stages.Entered entry → ⊥) → z.reads ≡ y.reads → z.published ≡ y.published → Moves z
  apart z out reads own =
      let walks = ap (λ (u : ReadsState). walk_count u) reads in
      let cells = ap (λ (u : ReadsState). read_count u) reads in record {
        by = inl (record {
          was = λ entry e. absurd (out entry e);
          walk = inl (ap (λ (u : ReadsState). u.walk) reads);
          few = λ h. omega (arith, h, walks, cells);
          noted = λ h noted x is. let two = noted x (sym own ∙ is) in let a = two.0 in let b = two.1 in (omega (arith, a, walks, cells), omega (arith, b, cells));
          none = λ noted h. let low = h.1 in (sym own ∙ h.0, omega (arith, low, walks, cells));
        });
      }

  scan : (stage : Stage) → y.stage ≡ stage → Moves (outside.scan_one_after l y stage found)
  scan (stages.Scanning x next clear) at = either (nat_le next l.runners) _ _
      (either (next == l.runners && not ((clear && is_clear x found) && nat_lt x last_epoch)) _ _
      (apart _ (λ entry e. absurd (let no = e in cc)) refl refl) (apart _ (λ entry e. absurd (let no = e in cc)) refl refl)) (same y refl refl refl refl)
  scan _ at = same y refl refl refl refl

  advance : (stage : Stage) → Moves (outside.advance_after y stage)
  advance (stages.Scanning x next clear) = either (nat_lt x last_epoch) _ _ (apart _ (λ entry e. absurd (let no = e in cc)) refl refl) (same y refl refl refl refl)
  advance _ = same y refl refl refl refl

  -- a publication reads its lock
  hold : (t : Thunk) (d : ℕ) → Moves (outside.hold_after t d y found)
  hold t d = either (found == t.word) _ _
      (let more = one_longer y.reads.cells (t.lock, found) in record {
        by = inl (record {
          was = λ entry e. e;
          walk = inl refl;
          few = λ h. omega (arith, h, more);
          noted = λ h noted x is.
              let walked = ap (λ (z : Published). z.walked) (some_same (outside.published_by t d y) x is) in
              (omega (arith, h, more), omega (arith, h, more, walked));
          none = λ noted h. absurd (none_some (outside.published_by t d y) h.0);
        });
      })
      (read_more _ (t.lock, found) refl refl refl refl)

  pub outside_moves : (kind' : EventKind) → kind ≡ kind' → Moves (outside_after m l kind' y found)
  outside_moves kinds.EnterLoad is = apart _ (λ entry e. absurd (let no = e in cc)) refl refl
  outside_moves kinds.Announce is = apart _ (λ entry e. absurd (let no = e in cc)) refl refl
  outside_moves kinds.EnterAgain is = record { by = inr (record { is = is; walk = refl; own = refl }) }
  outside_moves kinds.Idle is = apart _ (λ entry e. absurd (let no = e in cc)) refl refl
  outside_moves kinds.ScanEpoch is = apart _ (λ entry e. absurd (let no = e in cc)) refl refl
  outside_moves (kinds.ScanOne n) is = scan y.stage refl
  outside_moves kinds.Advance is = advance y.stage
  outside_moves kinds.Split is = either (nat_lt y.records.splits l.runners) _ _ (same _ refl refl refl refl) (same y refl refl refl refl)
  outside_moves (kinds.Join worker) is = same _ refl refl refl refl
  outside_moves (kinds.LoadCell (Some place)) is = record {
    by = inl (record {
      was = λ entry e. e;
      walk = inr (place, is, refl);
      few = λ h. let a = one_longer y.reads.walk (place, found) in let b = one_longer y.reads.cells (place, found) in omega (arith, h, a, b);
      noted = λ h noted x own.
          let a = one_longer y.reads.walk (place, found) in let b = one_longer y.reads.cells (place, found) in
          let two = noted x own in let c = two.0 in let d = two.1 in (omega (arith, a, b, c), omega (arith, b, d));
      none = λ noted h.
          let a = one_longer y.reads.walk (place, found) in let b = one_longer y.reads.cells (place, found) in
          let low = h.1 in (h.0, omega (arith, a, b, low));
    });
  }
  outside_moves (kinds.LoadEntry request reply) is = same _ refl refl refl refl
  outside_moves (kinds.PrivateLoad slot word) is = either (nat_lt slot (slot_count l m.fixed_slots)) _ _ (same _ refl refl refl refl) (same _ refl refl refl refl)
  outside_moves (kinds.PrivateStore slot word number) is = same _ refl refl refl refl
  outside_moves (kinds.Hold t d) is = hold t d
  outside_moves (kinds.LoadThunk (Some d)) is = same _ refl refl refl refl
  outside_moves kind' is = same _ refl refl refl refl
