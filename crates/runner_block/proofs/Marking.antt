-- How loads of the board and exchanges there change the marks.
use Rattle.std.specs.Prelude.{◌==◌, Bool, true, false, if◌then◌else◌, slice_index_or, slice_set}
use Rattle.std.proofs.Common.{◌≡◌, ◌≢◌, ℕ, zero, suc, ◌+◌, ◌<◌, List, [], ◌∷◌, ◌++◌, length, length-append, refl, sym, ap, ◌∙◌, ⊎_elim, eq-eqb, arith, Option, Some}
use Rattle.std.proofs.Math.ListN.{get_or-append}
use Rattle.std.proofs.lemmas.Bool.{cases_eq, cases_lt}
use Rattle.std.proofs.lemmas.Bool.Decides.{nat_tests}
use Rattle.std.proofs.Math.Seq.{get_or-append_seam}
use Rattle.std.proofs.lemmas.List.{set-append_left, set_at, set_past}
use Rattle.machine_states.specs.runner_parts.specs.declared.entries.BoardRead.{BoardRead}
use Rattle.machine_states.specs.runner_parts.specs.declared.entries.Tried.{Tried}
use Rattle.machine_states.specs.runner_parts.specs.declared.entries.Tried.TheVariants as tries
use Rattle.machine_states.specs.runner_parts.specs.Lists.{board_read, board_tried, tried_as}
use Rattle.runner_block.specs.declared.marks.Mark.{Mark}
use Rattle.runner_block.specs.declared.marks.Mark.TheVariants.{Empty}
use Rattle.runner_block.specs.Marks.{latest, mark_behind, mark_of, mark_loaded, mark_tried, marks_below, count_lost, lost_in, lost_below}

pub marks_length : (board : List BoardRead) (n : ℕ) → length (marks_below board n) ≡ n
marks_length board zero = refl
marks_length board (suc n) =
    let sum = length-append (marks_below board n) (mark_of (latest board n) ∷ []) in let rest = marks_length board n in omega (arith, sum, rest)

pub mark_there : (board : List BoardRead) (word n : ℕ) → word < n → slice_index_or (marks_below board n) word Empty ≡ mark_of (latest board word)
mark_there board word zero low = absurd (omega (arith, low))
mark_there board word (suc n) low =
    let many = marks_length board n in
    ⊎_elim
    (λ e. ap (λ k. slice_index_or (marks_below board n ++ mark_of (latest board n) ∷ []) k Empty) (e ∙ sym many)
    ∙ (get_or-append_seam (marks_below board n) (mark_of (latest board n)) [] Empty ∙ ap (λ k. mark_of (latest board k)) (sym e)))
    (λ ne. get_or-append (marks_below board n) (mark_of (latest board n) ∷ []) Empty word (omega (arith, many, low, ne)) ∙ mark_there board word n (omega (arith, low, ne)))
    (cases_eq word n)

-- loads that tell another mark of one word, and the same of all others
module _ (old new : List BoardRead) (word : ℕ) (v : Mark) (here : mark_of (latest new word) ≡ v)
    (others : (n : ℕ) → n ≢ word → mark_of (latest new n) ≡ mark_of (latest old n)) where
  changed : (n : ℕ) → marks_below new n ≡ slice_set (marks_below old n) word v
  changed zero = refl
  changed (suc n) =
      let many = marks_length old n in
      ap (λ xs. xs ++ mark_of (latest new n) ∷ []) (changed n)
      ∙ ⊎_elim
      (λ e. ap (λ xs. xs ++ mark_of (latest new n) ∷ []) (set_past (marks_below old n) word v (omega (arith, many, e)))
      ∙ (ap (λ k. marks_below old n ++ k ∷ []) (ap (λ k. mark_of (latest new k)) e ∙ here)
      ∙ sym (set_at (marks_below old n) (mark_of (latest old n)) [] v word (many ∙ e))))
      (λ ne. ap (λ k. slice_set (marks_below old n) word v ++ k ∷ []) (others n ne) ∙ ⊎_elim
      (λ low. sym (set-append_left (marks_below old n) (mark_of (latest old n) ∷ []) word v (omega (arith, many, low))))
      (λ high. let sum = length-append (marks_below old n) (mark_of (latest old n) ∷ []) in
      ap (λ xs. xs ++ mark_of (latest old n) ∷ []) (set_past (marks_below old n) word v (omega (arith, many, high)))
      ∙ sym (set_past (marks_below old n ++ mark_of (latest old n) ∷ []) word v (omega (arith, sum, many, high, ne))))
      (cases_lt word n))
      (cases_eq n word)

if_true : {A : Type 0} (b : Bool) (x y : A) → b ≡ true → (if b then x else y) ≡ x
if_true true x y e = refl
if_true false x y e = absurd (let z = e in cc)

if_false : {A : Type 0} (b : Bool) (x y : A) → b ≡ false → (if b then x else y) ≡ y
if_false true x y e = absurd (let z = e in cc)
if_false false x y e = refl

another : (a b : ℕ) → a ≢ b → (a == b) ≡ false
another a b ne = grind (arith, nat_tests)

-- a load
pub marks_read : (board : List BoardRead) (word found n : ℕ) → marks_below (board_read board word found) n ≡ slice_set (marks_below board n) word (mark_loaded found)
marks_read board word found = changed board (board_read board word found) word (mark_loaded found)
    (ap mark_of (if_true (word == word) _ (latest board word) (eq-eqb word word refl)))
    (λ n ne. ap mark_of (if_false (word == n) _ (latest board n) (another word n (λ e. ne (sym e)))))

mark_won : (none won : Bool) (tried : Tried)
    → (if none then Empty else mark_behind (tried_as won)) ≡ mark_tried (if none then Empty else mark_behind tried) won
mark_won true won tried = refl
mark_won false true tries.Not = refl
mark_won false true tries.Won = refl
mark_won false true tries.Lost = refl
mark_won false false tries.Not = refl
mark_won false false tries.Won = refl
mark_won false false tries.Lost = refl

tried_here : (board : List BoardRead) (word : ℕ) (won : Bool) → mark_of (latest (board_tried board word won) word) ≡ mark_tried (mark_of (latest board word)) won
tried_here [] word won = refl
tried_here (x ∷ xs) word won = by (x.word == word) refl (tried_here xs word won)
  where
    by : (b : Bool) → (x.word == word) ≡ b → mark_of (latest (board_tried xs word won) word) ≡ mark_tried (mark_of (latest xs word)) won
        → mark_of (latest (if b then record x { tried = tried_as won } ∷ xs else x ∷ board_tried xs word won) word)
        ≡ mark_tried (mark_of (if b then Some x else latest xs word)) won
    by true e rest = ap mark_of (if_true (x.word == word) (Some (record x { tried = tried_as won })) (latest xs word) e) ∙ mark_won (x.read == 0) won x.tried
    by false e rest = ap mark_of (if_false (x.word == word) (Some x) (latest (board_tried xs word won) word) e) ∙ rest

tried_else : (board : List BoardRead) (word : ℕ) (won : Bool) (n : ℕ) → n ≢ word → latest (board_tried board word won) n ≡ latest board n
tried_else [] word won n ne = refl
tried_else (x ∷ xs) word won n ne = by (x.word == word) refl (tried_else xs word won n ne)
  where
    apart : (x.word == word) ≡ true → (x.word == n) ≡ false
    apart e = grind (arith, nat_tests)

    by : (b : Bool) → (x.word == word) ≡ b → latest (board_tried xs word won) n ≡ latest xs n
        → latest (if b then record x { tried = tried_as won } ∷ xs else x ∷ board_tried xs word won) n ≡ (if x.word == n then Some x else latest xs n)
    by true e rest = if_false (x.word == n) (Some (record x { tried = tried_as won })) (latest xs n) (apart e) ∙ sym (if_false (x.word == n) (Some x) (latest xs n) (apart e))
    by false e rest = ap (λ (o : Option BoardRead). if x.word == n then Some x else o) rest

-- an exchange
pub marks_tried : (board : List BoardRead) (word : ℕ) (won : Bool) (n : ℕ) → word < n
    → marks_below (board_tried board word won) n ≡ slice_set (marks_below board n) word (mark_tried (slice_index_or (marks_below board n) word Empty) won)
marks_tried board word won n low = changed board (board_tried board word won) word _
    (tried_here board word won ∙ ap (λ k. mark_tried k won) (sym (mark_there board word n low)))
    (λ k ne. ap mark_of (tried_else board word won k ne)) n

lost_one_more : (marks : List Mark) (mark : Mark) → lost_in (marks ++ mark ∷ []) ≡ lost_in marks + count_lost mark
lost_one_more [] mark = omega arith
lost_one_more (x ∷ xs) mark = let rest = lost_one_more xs mark in omega (arith, rest)

-- the marks tell how many links were lost
pub lost_marks : (board : List BoardRead) (n : ℕ) → lost_in (marks_below board n) ≡ lost_below board n
lost_marks board zero = refl
lost_marks board (suc n) = let rest = lost_marks board n in let more = lost_one_more (marks_below board n) (mark_of (latest board n)) in omega (arith, rest, more)
