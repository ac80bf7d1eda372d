-- The links that a walk over the whole board lost are those that its words' marks tell.
use Rattle.std.specs.Prelude.{◌==◌, cond, Bool, true, false, if◌then◌else◌}
use Rattle.std.proofs.Common.{◌≡◌, ℕ, zero, suc, ◌+◌, ◌≤◌, List, [], ◌∷◌, length, refl, sym, ap, subst, ◌∙◌, ◌⊎◌, eq-eqb, arith, Some}
use Rattle.std.proofs.lemmas.Bool.Decides.{nat_tests}
use Rattle.machine_states.specs.table_words.specs.Places.{board_words}
use Rattle.machine_states.specs.structure_laws.specs.Meaning.{Meaning}
use Rattle.machine_states.specs.runner_parts.specs.declared.entries.BoardRead.{BoardRead}
use Rattle.machine_states.specs.runner_parts.specs.declared.entries.Tried.{Tried}
use Rattle.machine_states.specs.runner_parts.specs.declared.entries.Tried.TheVariants as tries
use Rattle.version_words.specs.runner_block.specs.declared.marks.Mark.TheVariants.{Empty, Linked, Lost}
use Rattle.version_words.specs.runner_block.specs.Marks.{latest, mark_behind, mark_of, count_lost, lost_below, lost_links}
use Rattle.version_words.specs.RunnerState.{RunnerState}
use Rattle.epoch_slots.specs.Board.{lost_one, lost_among, behind, Draws, HasDrawn, IsDrawn}

told_none : (none : Bool) → count_lost (if none then Empty else Linked) ≡ 0
told_none true = refl
told_none false = refl

told_lost : (none : Bool) → count_lost (if none then Empty else Lost) ≡ cond none 0 1
told_lost true = refl
told_lost false = refl

told_one : (read : ℕ) (tried : Tried) → count_lost (if read == 0 then Empty else mark_behind tried) ≡ lost_one read tried
told_one read tries.Not = told_none (read == 0)
told_one read tries.Won = told_none (read == 0)
told_one read tries.Lost = told_lost (read == 0)

above : (a n : ℕ) → suc n ≤ a → (a == n) ≡ false
above a n low = grind (arith, nat_tests)

-- a load tells nothing of the words before its own
before_same : (x : BoardRead) (board : List BoardRead) (n : ℕ) → n ≤ x.word → lost_below (x ∷ board) n ≡ lost_below board n
before_same x board zero low = refl
before_same x board (suc n) low =
    ap (λ (k : ℕ). k + count_lost (mark_of (latest (x ∷ board) n))) (before_same x board n (omega (arith, low)))
    ∙ ap (λ (b : Bool). lost_below board n + count_lost (mark_of (if b then Some x else latest board n))) (above x.word n low)

lost_next : (x : BoardRead) (board : List BoardRead) (next : ℕ) → x.word ≡ next → lost_below (x ∷ board) (suc next) ≡ lost_below board next + lost_one x.read x.tried
lost_next x board next named =
    ap (λ (k : ℕ). k + count_lost (mark_of (latest (x ∷ board) next))) (before_same x board next (omega (arith, named)))
    ∙ (ap (λ (b : Bool). lost_below board next + count_lost (mark_of (if b then Some x else latest board next))) (eq-eqb x.word next named)
    ∙ ap (λ (k : ℕ). lost_below board next + k) (told_one x.read x.tried))

module _ {T : Type 0} (m : Meaning) where
  draws_lose : (n next : ℕ) (found : List BoardRead) (board : List BoardRead) (a b : RunnerState T) → Draws m n next found a b
      → lost_below (behind found board) (next + length found) ≡ lost_below board next + lost_among found
  draws_lose n next [] board a b same =
      let e : next + 0 ≡ next = omega arith in let f : lost_below board next ≡ lost_below board next + 0 = omega arith in
      ap (lost_below board) e ∙ f
  draws_lose n next (x ∷ found) board a b d =
      let e : next + suc (length found) ≡ next + 1 + length found = omega arith in let one : next + 1 ≡ suc next = omega arith in
      let rest = draws_lose n (next + 1) found (x ∷ board) d.0 b d.3 in
      let here = ap (lost_below (x ∷ board)) one ∙ lost_next x board next d.2.named in
      let sum : lost_below (x ∷ board) (next + 1) + lost_among found ≡ lost_below board next + (lost_one x.read x.tried + lost_among found) = omega (arith, here) in
      ap (lost_below (behind found (x ∷ board))) e ∙ (rest ∙ sum)

  -- behind a draw that went over all words
  pub lost_by_draw : (n : ℕ) (old new : RunnerState T) (drawn : HasDrawn m n board_words old new) → lost_links new.part.board ≡ lost_among drawn.found
  lost_by_draw n old new drawn =
      let each = drawn.each in let e : board_words ≡ 0 + length drawn.found = omega (arith, each) in
      let f : 0 + lost_among drawn.found ≡ lost_among drawn.found = omega arith in
      ap (λ (board : List BoardRead). lost_below board board_words) drawn.kept
      ∙ (ap (lost_below (behind drawn.found old.part.board)) e
      ∙ (draws_lose n 0 drawn.found old.part.board old new drawn.draws ∙ f))

  -- a draw at its end
  pub ends_drawn : (n count : ℕ) (old new : RunnerState T) → HasDrawn m n count old new → (n ≤ length new.part.nodes.free) ⊎ (count ≡ board_words) → IsDrawn m n old new
  ends_drawn n count old new drawn enough = record {
    count = count;
    drawn = drawn;
    enough = enough;
    lost = λ whole. subst (λ (c : ℕ). (d : HasDrawn m n c old new) → lost_links new.part.board ≡ lost_among d.found) (sym whole) (lost_by_draw n old new) drawn;
  }
