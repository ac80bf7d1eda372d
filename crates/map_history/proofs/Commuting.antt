-- Operations without a common key commute.
use Rattle.std.proofs.Common.{◌≡◌, ℕ, sym, ◌∙◌, ⊎_elim}
use Rattle.std.specs.FinMap.{get}
use Rattle.map_history.specs.declared.op.Op.{Op}
use Rattle.map_history.specs.Keys.{DependsOn, HaveNoCommonKey}
use Rattle.map_history.specs.Replay.{Pairs, reply_of, map_after}
use Rattle.map_history.proofs.Cells.{depends, same_replies, elsewhere, alike_after, same_pairs}

-- the first's keys are as before it came
kept : (a b : Op) (pairs : Pairs) → HaveNoCommonKey a b → (key : ℕ) → DependsOn a key → get (map_after pairs b) key ≡ get pairs key
kept a b pairs apart key on = elsewhere pairs b key (apart key on)

-- at a key on which the second doesn't depend, it may as well come last
last_first : (a b : Op) (pairs : Pairs) → HaveNoCommonKey a b → (q : ℕ) → (DependsOn b q → ⊥)
    → get (map_after (map_after pairs a) b) q ≡ get (map_after (map_after pairs b) a) q
last_first a b pairs apart q off = elsewhere (map_after pairs a) b q off
    ∙ sym (alike_after (map_after pairs b) pairs a (kept a b pairs apart) q (elsewhere pairs b q off))

turned : (a b : Op) → HaveNoCommonKey a b → HaveNoCommonKey b a
turned a b apart = λ key on also. apart key also on

pub commuting_map : (a b : Op) (pairs : Pairs) → HaveNoCommonKey a b → map_after (map_after pairs a) b ≡ map_after (map_after pairs b) a
commuting_map a b pairs apart = same_pairs _ _ (λ q. ⊎_elim
    (λ on. sym (last_first b a pairs (turned a b apart) q (λ also. apart q also on)))
    (λ off. last_first a b pairs apart q off)
    (depends b q))

pub commuting_reply : (a b : Op) (pairs : Pairs) → HaveNoCommonKey a b → reply_of (map_after pairs b) a ≡ reply_of pairs a
commuting_reply a b pairs apart = same_replies (map_after pairs b) pairs a (kept a b pairs apart)

pub ruleset commuting = (commuting_map, commuting_reply)
