-- What a worker has seen without a lock.
use Rattle.std.proofs.Common.{◌≡◌, ◌≢◌, ℕ, suc, Bool, true, false, Option, Some, None, refl, sym, ap, ◌∙◌, inl, inr, arith}
use Rattle.std.specs.Prelude.{◌⊎◌, ◌==◌, ◌&&◌}
use mathlib.Core.Logic.{dite}
use native.Mathlib.Decide.{ℕ_discrete}
use Rattle.body_terms.specs.Update.{upd}
use Rattle.history_core.specs.State.{Requests, Seen, HistoryState, is_replied, has_replied}
use Rattle.history_core.specs.Sound.{ReadsAreSound}
use Rattle.history_core.proofs.Changes.{upd_same, upd_other}

pub none_seen : (seen : Seen) → None ≡ Some seen → ⊥
none_seen seen e = cc

pub one_seen : (a b : Seen) → Some a ≡ Some b → a ≡ b
one_seen a b e = cc

pub no_link : (d : ℕ) → 0 ≡ suc d → ⊥
no_link d e = omega arith

pub not_both : true ≡ false → ⊥
not_both e = cc

-- what is replied to isn't unreplied
pub replied_clash : (look : ℕ → Option Seen) (r : ℕ) (seen : Seen) → look r ≡ Some seen → seen.replied ≡ true
    → is_replied (look r) ≡ false → ⊥
replied_clash look r seen is replied not = not_both (sym replied ∙ (sym (ap is_replied is) ∙ not))

-- what isn't replied to is so for no request
pub unreplied : (o : Option Seen) (n : ℕ) → is_replied o ≡ false → has_replied o n ≡ false
unreplied None n not = refl
unreplied (Some seen) n not = ap (λ b. b && seen.number == n) not

-- and of what is replied to, for no other
pub other_number : (seen : Seen) (n : ℕ) → n ≢ seen.number → has_replied (Some seen) n ≡ false
other_number seen n other = grind arith

pub own_number : (seen : Seen) (n : ℕ) → seen.replied ≡ true → n ≡ seen.number → has_replied (Some seen) n ≡ true
own_number seen n replied own = grind arith

-- who has replied to this request
pub replied_parts : (o : Option Seen) (n : ℕ) → has_replied o n ≡ true → (seen : Seen) × (o ≡ Some seen) × (seen.replied ≡ true) × (seen.number ≡ n)
replied_parts None n is = absurd (not_both (sym is))
replied_parts (Some seen) n is = (seen, refl, first seen.replied (seen.number == n) is, same seen.number n (second seen.replied (seen.number == n) is))
  where
    first : (a b : Bool) → (a && b) ≡ true → a ≡ true
    first a b is = grind arith

    second : (a b : Bool) → (a && b) ≡ true → b ≡ true
    second a b is = grind arith

    same : (a b : ℕ) → (a == b) ≡ true → a ≡ b
    same a b is = grind arith

-- where one worker's look changes, another's is as before
pub seen_cases : (look : ℕ → Option Seen) (r : ℕ) (now : Option Seen) (i : ℕ) (seen : Seen) → upd look r now i ≡ Some seen
    → ((i ≡ r) × (now ≡ Some seen)) ⊎ ((i ≢ r) × (look i ≡ Some seen))
seen_cases look r now i seen is = dite (ℕ_discrete i r)
    (λ own. inl (own, sym (upd_same look r i now own) ∙ is))
    (λ other. inr (other, sym (upd_other look r i now other) ∙ is))

-- a worker that has published a section has written no read's reply without its stamp
pub settled : (c : Requests) (w : HistoryState) → ReadsAreSound c w → (r d : ℕ) → w.published r ≡ suc d → is_replied (w.look r) ≡ false
settled c w reads r d is = by (w.look r) refl
  where
    by_seen : (seen : Seen) → w.look r ≡ Some seen → (b : Bool) → seen.replied ≡ b → b ≡ false
    by_seen seen at false replied = refl
    by_seen seen at true replied = absurd (no_link d (sym ((reads.looks r seen at).between replied).idle ∙ is))

    by : (o : Option Seen) → w.look r ≡ o → is_replied o ≡ false
    by None at = refl
    by (Some seen) at = by_seen seen at seen.replied refl
