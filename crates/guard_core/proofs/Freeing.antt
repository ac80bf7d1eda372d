-- What the end of a sweep frees.
use Rattle.std.proofs.Common.{◌≡◌, ◌≢◌, ℕ, suc, Bool, true, false, List, [], ◌∷◌, ◌++◌, refl, inl, inr, ⊎_elim, Option}
use Rattle.std.proofs.Common.{Some, None, arith}
use Rattle.std.specs.Prelude.{◌⊎◌, length}
use Rattle.std.proofs.lemmas.Bool.Decides.{nat_tests}
use mathlib.Core.Logic.{dite}
use native.Mathlib.Decide.{ℕ_discrete}
use Rattle.guard_core.specs.State.{Counts, Location, Free, Live, Limbo, GuardState, word_of}
use Rattle.guard_core.specs.Update.{has}
use Rattle.guard_core.specs.Moves.{swept}
use Rattle.guard_core.specs.Events.{Event, Enter, Exit, StoreGuard, ClearGuard, Validate, Publish, Begin, Link, Finish}
use Rattle.guard_core.specs.Events.{LoadGuard, LoadLast, Enabled, with_next, after}
use Rattle.guard_core.specs.Sound.{IsSound}
use Rattle.guard_core.specs.Schedules.{after_all}
use Rattle.guard_core.specs.Sweeps.{SweepsExactly, IsNamed, IsNamedAlong, FreesUnnamed}
use Rattle.guard_core.proofs.Counting.{has-append}
use Rattle.guard_core.proofs.Sweeping.{unheld}

pub not_true : (b : Bool) → (b ≡ true → ⊥) → b ≡ false
not_true true none = absurd (none refl)
not_true false none = refl

-- what lies in another place stays
swept_else : (r : ℕ) (words : List ℕ) (x : Location) → ((e : ℕ) → x ≢ Limbo r e) → swept r words x ≡ x
swept_else r words (Free q) other = refl
swept_else r words (Live q) other = refl
swept_else r words (Limbo q e) other = let none = other e in grind arith

-- what moves lay in the sweeper's limbo under a descriptor that no word names
swept_moved : (r : ℕ) (words : List ℕ) (x : Location) → swept r words x ≢ x
    → (e : ℕ) × (x ≡ Limbo r e) × (has words (suc e) ≡ false)
swept_moved r words (Free q) moved = absurd (moved refl)
swept_moved r words (Live q) moved = absurd (moved refl)
swept_moved r words (Limbo q e) moved = (e, grind arith, grind arith)

pub sweeps_exactly : (c : Counts) (w : GuardState) (r : ℕ) → IsSound c w → Enabled c w (LoadLast r) → SweepsExactly w r
sweeps_exactly c w r sound ok =
    record {
      descriptor_freed = λ d e at no. grind arith;
      descriptor_stays = λ d e at named. grind arith;
      block_freed = λ b e at no. grind arith;
      block_stays = λ b e at named. grind arith;
      descriptor_kept = λ d other. swept_else r (with_next w r) (w.descriptor d) other;
      block_kept = λ b other. swept_else r (with_next w r) (w.block b) other;
      unheld = λ d p moved s.
          let m = swept_moved r (with_next w r) (w.descriptor d) moved in let none = unheld c w r ok sound p d s in
          let same = sound.own r d m.0 m.1 in let first = none.0 in grind arith;
      unlinked = λ b p d moved s.
          let m = swept_moved r (with_next w r) (w.block b) moved in let none = unheld c w r ok sound p d s in
          not_true (has (w.linked d) b) (λ l.
          let same = sound.held_limbo p d b r m.0 s l m.1 in
          let no : has (with_next w r) (suc d) ≡ false = grind arith in
          let here : w.block b ≡ Limbo r d = grind arith in
          none.1 no b l here);
    }

-- a word that names a descriptor
word_names : (o : Option ℕ) (d : ℕ) → word_of o ≡ suc d → o ≡ Some d
word_names None d at = grind arith
word_names (Some e) d at = grind arith

-- of a list with one word more, the list or the word names it
named_more : (xs : List ℕ) (o : Option ℕ) (d : ℕ) → has (xs ++ word_of o ∷ []) (suc d) ≡ true
    → (has xs (suc d) ≡ true) ⊎ (o ≡ Some d)
named_more xs None d at = let more = has-append xs (0 ∷ []) (suc d) in inl (grind (arith, nat_tests))
named_more xs (Some e) d at =
    let more = has-append xs (suc e ∷ []) (suc d) in
    dite (ℕ_discrete e d) (λ same. inr (grind arith)) (λ other. inl (grind (arith, nat_tests)))

loaded : (w : GuardState) (q r d : ℕ) → has ((after w (LoadGuard q)).looked r) (suc d) ≡ true
    → (has (w.looked r) (suc d) ≡ true) ⊎ IsNamed w d
loaded w q r d at =
    dite (ℕ_discrete r q)
    (λ own. let l = w.looked r in let p = length l in
    let here : has (l ++ word_of (w.guard p) ∷ []) (suc d) ≡ true = grind arith in
    ⊎_elim (λ before. inl before) (λ names. inr (p, names)) (named_more l (w.guard p) d here))
    (λ other. inl (grind arith))

-- a word that a sweep has read was there at that time
step_named : (w : GuardState) (e : Event) (r d : ℕ) → has ((after w e).looked r) (suc d) ≡ true
    → (has (w.looked r) (suc d) ≡ true) ⊎ IsNamed w d
step_named w (Enter q) r d at = inl (grind arith)
step_named w (Exit q) r d at = inl at
step_named w (StoreGuard q e) r d at = inl at
step_named w (ClearGuard q) r d at = inl at
step_named w (Validate q e) r d at = inl at
step_named w (Publish q e) r d at = inl at
step_named w (Begin q e) r d at = inl at
step_named w (Link q e b) r d at = inl at
step_named w (Finish q e) r d at = inl at
step_named w (LoadGuard q) r d at = loaded w q r d at
step_named w (LoadLast q) r d at = inl (grind arith)

along_named : (w : GuardState) (es : List Event) (r d : ℕ) → has ((after_all w es).looked r) (suc d) ≡ true
    → (has (w.looked r) (suc d) ≡ true) ⊎ IsNamedAlong w es d
along_named w [] r d at = inl at
along_named w (e ∷ es) r d at =
    ⊎_elim (λ before. ⊎_elim (λ first. inl first) (λ here. inr (inl here)) (step_named w e r d before))
    (λ along. inr (inr along)) (along_named (after w e) es r d at)

-- what is named at the end
end_named : (w : GuardState) (es : List Event) (d : ℕ) → IsNamed (after_all w es) d → IsNamedAlong w es d
end_named w [] d here = here
end_named w (e ∷ es) d here = inr (end_named (after w e) es d here)

-- what no word names all along isn't among the words that the sweep has read at its end
unread : (w : GuardState) (es : List Event) (r d : ℕ) → w.looked r ≡ [] → (IsNamedAlong w es d → ⊥)
    → has (with_next (after_all w es) r) (suc d) ≡ false
unread w es r d empty never =
    let last = after_all w es in let l = last.looked r in let p = length l in
    not_true (has (l ++ word_of (last.guard p) ∷ []) (suc d))
    (λ at. ⊎_elim
    (λ before. ⊎_elim (λ first. absurd (grind arith)) (λ along. never along) (along_named w es r d before))
    (λ names. never (end_named w es d (p, names)))
    (named_more l (last.guard p) d at))

pub frees_unnamed : (c : Counts) → FreesUnnamed c
frees_unnamed c w es r d empty all ok never =
    let no = unread w es r d empty never in record { descriptors = λ e at. grind arith; blocks = λ b at. grind arith }
