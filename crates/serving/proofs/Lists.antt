-- Tests of each element of a list, of requests and of known words too.
use Rattle.std.specs.Prelude.{◌==◌, ◌&&◌, ◌||◌, cond, not, Bool, true, false, map, slice_get}
use Rattle.std.specs.List.{list_all, range_with_len}
use Rattle.std.proofs.Common.{◌≡◌, ℕ, zero, suc, ◌<◌, List, [], ◌∷◌, length, refl, sym, ap, ◌∙◌, subst, Some, option_map}
use Rattle.std.proofs.lemmas.Bool.{eq-eqb, and_parts}
use Rattle.std.proofs.lemmas.Option.{slice_get-map, slice_get_within, slice_get-get_or}
use Rattle.std.proofs.lemmas.List.FromFn.{get_or-range_with_len, length-range_with_len}
use Rattle.machine_states.specs.epoch_core.specs.small_lemmas.proofs.Numbers.{from_zero as from_none}
use Rattle.machine_states.specs.map_history.specs.declared.op.Request.{Request}
use Rattle.machine_states.specs.map_history.specs.Requests.{AreInOrder}
use Rattle.machine_states.specs.runner_parts.specs.declared.entries.Known.{Known}
use Rattle.machine_states.specs.runner_parts.specs.Tests.{knows}
use Rattle.machine_states.proofs.Steps.{some_same, none_some}

pub and_true : (a b : Bool) → a ≡ true → b ≡ true → (a && b) ≡ true
and_true a b one two = ap (λ x. x && b) one ∙ two

-- each passes
pub all_pass : {X : Type 0} (test : X → Bool) (xs : List X) → ((i : ℕ) (x : X) → slice_get xs i ≡ Some x → test x ≡ true) → list_all test xs ≡ true
all_pass test [] each = refl
all_pass test (x ∷ xs) each = and_true (test x) (list_all test xs) (each 0 x refl) (all_pass test xs (λ i y at. each (suc i) y at))

-- what passes a test that is weaker everywhere
pub all_weaker : {X : Type 0} (test weaker : X → Bool) → ((x : X) → test x ≡ true → weaker x ≡ true) → (xs : List X) → list_all test xs ≡ true → list_all weaker xs ≡ true
all_weaker test weaker more [] e = refl
all_weaker test weaker more (x ∷ xs) e = let two = and_parts (test x) (list_all test xs) e in
    and_true (weaker x) (list_all weaker xs) (more x two.0) (all_weaker test weaker more xs two.1)

-- a test that holds where a premise does
pub where_held : (premise then : Bool) → (premise ≡ true → then ≡ true) → (not premise || then) ≡ true
where_held true then more = more refl
where_held false then more = refl

pub held_more : (premise then more : Bool) → (then ≡ true → more ≡ true) → (not premise || then) ≡ true → (not premise || more) ≡ true
held_more true then more on e = on e
held_more false then more on e = refl

-- requests are numbered by their place
pub numbered : (requests : List Request) → AreInOrder requests 64 → (n : ℕ) (q : Request) → slice_get requests n ≡ Some q → q.number ≡ n
numbered requests order n q at = some_same q.number n (sym by_map ∙ (ap (λ xs. slice_get xs n) order.numbered ∙ by_range))
  where
    low : n < length requests
    low = slice_get_within requests n q at

    by_map : slice_get (map (λ (x : Request). x.number) requests) n ≡ Some q.number
    by_map = slice_get-map (λ (x : Request). x.number) requests n ∙ ap (option_map (λ (x : Request). x.number)) at

    by_range : slice_get (range_with_len 0 (length requests)) n ≡ Some n
    by_range = slice_get-get_or (range_with_len 0 (length requests)) n 0 (subst (λ k. n < k) (sym (length-range_with_len 0 (length requests))) low)
        ∙ ap (λ (k : ℕ). Some k) (get_or-range_with_len 0 (length requests) n 0 low ∙ from_none n)

pub or_first : (a b : Bool) → a ≡ true → (a || b) ≡ true
or_first a b e = ap (λ x. x || b) e

pub or_second : (a b : Bool) → b ≡ true → (a || b) ≡ true
or_second true b e = refl
or_second false b e = e

of_kind : (reply b : Bool) → b ≡ reply → cond reply b (not b) ≡ true
of_kind true b e = e
of_kind false b e = ap not e

-- a word that stands in the list is known
pub entry_known : (known : List Known) (n : ℕ) (reply : Bool) (i : ℕ) (x : Known) → slice_get known i ≡ Some x → x.request ≡ n → x.reply ≡ reply
    → knows known n reply ≡ true
entry_known [] n reply i x e request is = absurd (none_some x (sym e))
entry_known (y ∷ known) n reply zero x e request is = or_first _ (knows known n reply)
    (and_true (y.request == n) (cond reply y.reply (not y.reply))
    (eq-eqb y.request n (ap (λ (z : Known). z.request) (some_same y x e) ∙ request))
    (of_kind reply y.reply (ap (λ (z : Known). z.reply) (some_same y x e) ∙ is)))
entry_known (y ∷ known) n reply (suc i) x e request is = or_second _ (knows known n reply) (entry_known known n reply i x e request is)
