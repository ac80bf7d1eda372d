-- The map's reply and the map afterwards, by what the key of an operation with one key had.
use Rattle.std.proofs.Common.{◌≡◌, ◌≢◌, ℕ, ◌<◌, refl, sym, ap, ◌∙◌, subst}
use Rattle.std.specs.Prelude.{◌^◌, Option, Some}
use Rattle.std.specs.FinMap.{get}
use mathlib.Core.Logic.{dite}
use native.Mathlib.Decide.{ℕ_discrete}
use Rattle.structure_laws.specs.map_history.specs.declared.op.Op.{Op}
use Rattle.structure_laws.specs.map_history.specs.AtKey.{Change, Keeps, Gets, Loses, left_by, left_at, change_at}
use Rattle.structure_laws.specs.map_history.specs.Keys.{key_of, IsOneKeyed}
use Rattle.structure_laws.specs.map_history.specs.Replay.{Pairs, map_after}
use Rattle.structure_laws.specs.map_history.proofs.Cells.{get-left, gets_given}
use Rattle.structure_laws.specs.body_terms.specs.Update.{upd}
use Rattle.structure_laws.specs.Sections.{IsAllowed}
use Rattle.structure_laws.proofs.Changes.{upd_same, upd_other}

-- the map afterwards, as a function
pub leaves : (pairs : Pairs) (op : Op) (q : ℕ) → IsOneKeyed op → get (map_after pairs op) q ≡ upd (get pairs) (key_of op) (left_at (get pairs (key_of op)) op) q
leaves pairs op q one = get-left pairs op q one

-- so a map that these answers stand for is, after the operation, one that those stand for: at its own key they are what it leaves,
-- and at each other one the same
pub stand_after : (pairs : Pairs) (op : Op) (has after : ℕ → Option ℕ) (had : Option ℕ) → IsOneKeyed op → ((q : ℕ) → get pairs q ≡ has q)
    → has (key_of op) ≡ had → after (key_of op) ≡ left_at had op → ((q : ℕ) → q ≢ key_of op → has q ≡ after q)
    → (q : ℕ) → get (map_after pairs op) q ≡ after q
stand_after pairs op has after had one stand looked own others q = leaves pairs op q one ∙ dite (ℕ_discrete q (key_of op))
    (λ e. upd_same (get pairs) (key_of op) q (left_at (get pairs (key_of op)) op) e
    ∙ (ap (λ o. left_at o op) (stand (key_of op) ∙ looked) ∙ (sym own ∙ ap after (sym e))))
    (λ ne. upd_other (get pairs) (key_of op) q (left_at (get pairs (key_of op)) op) ne ∙ (stand q ∙ others q ne))

-- what it leaves its key has 32 bits, where what the key had has
pub left_small : (op : Op) → IsAllowed op → (had : Option ℕ) → ((v : ℕ) → had ≡ Some v → v < 2 ^ 32) → (v : ℕ) → left_at had op ≡ Some v → v < 2 ^ 32
left_small op allowed had small v = by (change_at had op) refl
  where
    some_same : (a b : ℕ) → Some a ≡ Some b → a ≡ b
    some_same a b e = cc

    by : (change : Change) → change_at had op ≡ change → left_by had change ≡ Some v → v < 2 ^ 32
    by Keeps is h = small v h
    by (Gets value) is h = subst (λ n. n < 2 ^ 32) (some_same value v h) (allowed.value value (gets_given had op value is))
    by Loses is h = absurd (cc)
