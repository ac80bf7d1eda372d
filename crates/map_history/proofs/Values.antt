-- A map whose values have 32 bits keeps such values, and its replies have no other.
use Rattle.std.specs.Prelude.{◌^◌, cond, Bool, true, false, is_some}
use Rattle.std.proofs.Common.{◌≡◌, ℕ, ◌<◌, ◌==◌, refl, sym, ◌∙◌, subst, Option, Some, None}
use Rattle.std.specs.FinMap.{get, insert, remove}
use Rattle.map_history.specs.declared.op.Op.{Op}
use Rattle.map_history.specs.declared.op.Op.TheVariants.{Get, Ins, Del, Put, Mov}
use Rattle.map_history.specs.declared.reply.Reply.TheVariants.{New, Dup, Gone, Absent}
use Rattle.map_history.specs.Keys.{GivesSmall}
use Rattle.map_history.specs.Replay.{Pairs, HasSmallValues, found, replaced, moved, after_move, reply_of, map_after}
use Rattle.map_history.specs.Words.{IsReply}
use Rattle.map_history.proofs.Cells.{get-insert_key, get-remove_key}

some_same : (a b : ℕ) → Some a ≡ Some b → a ≡ b
some_same a b e = cc

inserted_small : (pairs : Pairs) (k x : ℕ) → x < 2 ^ 32 → HasSmallValues pairs → HasSmallValues (insert pairs k x)
inserted_small pairs k x low small q v e = by (q == k) (sym (get-insert_key pairs k x q) ∙ e)
  where
    by : (b : Bool) → cond b (Some x) (get pairs q) ≡ Some v → v < 2 ^ 32
    by true is = subst (λ n. n < 2 ^ 32) (some_same x v is) low
    by false is = small q v is

removed_small : (pairs : Pairs) (k : ℕ) → HasSmallValues pairs → HasSmallValues (remove pairs k)
removed_small pairs k small q v e = by (q == k) (sym (get-remove_key pairs k q) ∙ e)
  where
    by : (b : Bool) → cond b None (get pairs q) ≡ Some v → v < 2 ^ 32
    by true is = absurd (cc)
    by false is = small q v is

pub after_small : (pairs : Pairs) (op : Op) → GivesSmall op → HasSmallValues pairs → HasSmallValues (map_after pairs op)
after_small pairs (Get key) low small = small
after_small pairs (Ins key value) low small = by (is_some (get pairs key))
  where
    by : (b : Bool) → HasSmallValues (cond b pairs (insert pairs key value))
    by true = small
    by false = inserted_small pairs key value (low value refl) small
after_small pairs (Del key) low small = removed_small pairs key small
after_small pairs (Put key value) low small = inserted_small pairs key value (low value refl) small
after_small pairs (Mov from to) low small = by (get pairs from) (get pairs to) refl
  where
    by : (had there : Option ℕ) → get pairs from ≡ had → HasSmallValues (after_move pairs from to had there)
    by None there is = small
    by (Some value) (Some other) is = small
    by (Some value) None is = inserted_small (remove pairs from) to value (small from value is) (removed_small pairs from small)

pub reply_small : (pairs : Pairs) (op : Op) → HasSmallValues pairs → IsReply (reply_of pairs op)
reply_small pairs (Get key) small = by (get pairs key) refl
  where
    by : (had : Option ℕ) → get pairs key ≡ had → IsReply (found had)
    by None is = tt
    by (Some value) is = small key value is
reply_small pairs (Ins key value) small = by (is_some (get pairs key))
  where
    by : (b : Bool) → IsReply (cond b Dup New)
    by true = tt
    by false = tt
reply_small pairs (Del key) small = by (is_some (get pairs key))
  where
    by : (b : Bool) → IsReply (cond b Gone Absent)
    by true = tt
    by false = tt
reply_small pairs (Put key value) small = by (get pairs key) refl
  where
    by : (had : Option ℕ) → get pairs key ≡ had → IsReply (replaced had)
    by None is = tt
    by (Some old) is = small key old is
reply_small pairs (Mov from to) small = by (get pairs from) (get pairs to)
  where
    by : (had there : Option ℕ) → IsReply (moved had there)
    by None there = tt
    by (Some value) (Some other) = tt
    by (Some value) None = tt

pub ruleset values_small = (after_small, reply_small)
