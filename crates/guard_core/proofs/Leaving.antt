-- What leaves a limbo isn't held.
use Rattle.std.proofs.Common.{◌≡◌, ◌≢◌, ℕ, suc, true, false, List, arith}
use Rattle.guard_core.specs.State.{Counts, Limbo, GuardState, IsSureOf}
use Rattle.guard_core.specs.Update.{has}
use Rattle.guard_core.specs.Moves.{swept}
use Rattle.guard_core.specs.Events.{Event, Enter, Exit, StoreGuard, ClearGuard, Validate, Publish, Begin, Link, Finish}
use Rattle.guard_core.specs.Events.{LoadGuard, LoadLast, Enabled, with_next, after}
use Rattle.guard_core.specs.Sound.{IsSound}
use Rattle.guard_core.specs.Held.{LeavesUnheld}
use Rattle.guard_core.proofs.Sweeping.{unheld}
use Rattle.guard_core.proofs.Freeing.{not_true}
use Rattle.std.proofs.lemmas.Bool.Decides.{nat_tests}

descriptor_left : (c : Counts) (w : GuardState) (e : Event) → Enabled c w e → IsSound c w → (d r f p : ℕ)
    → w.descriptor d ≡ Limbo r f → (after w e).descriptor d ≢ Limbo r f → IsSureOf w p d → ⊥
descriptor_left c w (Enter q) ok sound d r f p at left s = left at
descriptor_left c w (Exit q) ok sound d r f p at left s = left at
descriptor_left c w (StoreGuard q g) ok sound d r f p at left s = left at
descriptor_left c w (ClearGuard q) ok sound d r f p at left s = left at
descriptor_left c w (Validate q g) ok sound d r f p at left s = left at
descriptor_left c w (Publish q g) ok sound d r f p at left s = left (grind arith)
descriptor_left c w (Begin q g) ok sound d r f p at left s = left at
descriptor_left c w (Link q g n) ok sound d r f p at left s = left at
descriptor_left c w (Finish q g) ok sound d r f p at left s = left (grind arith)
descriptor_left c w (LoadGuard q) ok sound d r f p at left s = left at
descriptor_left c w (LoadLast q) ok sound d r f p at left s = let none = unheld c w q ok sound p d s in
    let same = sound.own r d f at in let first = none.0 in left (grind arith)

-- what a sweep takes out of a limbo
swept_left : (q r f : ℕ) (words : List ℕ) → swept q words (Limbo r f) ≢ Limbo r f
    → (r ≡ q) × (has words (suc f) ≡ false)
swept_left q r f words left = (grind (arith, nat_tests), grind (arith, nat_tests))

block_left : (c : Counts) (w : GuardState) (e : Event) → Enabled c w e → IsSound c w → (b r f p d : ℕ)
    → w.block b ≡ Limbo r f → (after w e).block b ≢ Limbo r f → IsSureOf w p d → has (w.linked d) b ≡ true → ⊥
block_left c w (Enter q) ok sound b r f p d at left s l = left at
block_left c w (Exit q) ok sound b r f p d at left s l = left at
block_left c w (StoreGuard q g) ok sound b r f p d at left s l = left at
block_left c w (ClearGuard q) ok sound b r f p d at left s l = left at
block_left c w (Validate q g) ok sound b r f p d at left s l = let same = sound.held_limbo p d b r f s l at in
    let over = sound.ended b r f at in left (grind arith)
block_left c w (Publish q g) ok sound b r f p d at left s l = let same = sound.held_limbo p d b r f s l at in
    let free = sound.kept p d q s in left (grind arith)
block_left c w (Begin q g) ok sound b r f p d at left s l = left at
block_left c w (Link q g n) ok sound b r f p d at left s l = left (grind arith)
block_left c w (Finish q g) ok sound b r f p d at left s l = left (grind arith)
block_left c w (LoadGuard q) ok sound b r f p d at left s l = left at
block_left c w (LoadLast q) ok sound b r f p d at left s l = let none = unheld c w q ok sound p d s in
    let same = sound.held_limbo p d b r f s l at in
    let gone = swept_left q r f (with_next w q) (λ stays. left (grind arith)) in
    let no : has (with_next w q) (suc d) ≡ false = grind arith in let here : w.block b ≡ Limbo q d = grind arith in
    none.1 no b l here

pub leaves_unheld : (c : Counts) (w : GuardState) (e : Event) → Enabled c w e → IsSound c w → LeavesUnheld w (after w e)
leaves_unheld c w e ok sound =
    record {
      descriptor = λ d r f p at left s. descriptor_left c w e ok sound d r f p at left s;
      block = λ b r f p d at left s. not_true (has (w.linked d) b)
          (λ l. block_left c w e ok sound b r f p d at left s l);
    }
