-- The requests of a list in order are numbered by their places.
use Rattle.std.proofs.Common.{◌≡◌, ℕ, ◌<◌, List, length, map, refl, sym, ap, subst, ◌∙◌, Option, None, Some, option_map}
use Rattle.std.specs.Prelude.{true, is_none, slice_get}
use Rattle.std.specs.List.{range_with_len}
use Rattle.std.proofs.lemmas.List.FromFn.{get_or-range_with_len, length-range_with_len}
use Rattle.std.proofs.lemmas.Option.{slice_get-map, slice_get_within, slice_get-get_or}
use Rattle.machine_states.specs.epoch_core.specs.small_lemmas.proofs.Numbers.{from_zero as from_none}
use Rattle.machine_states.proofs.Steps.{some_same}
use Rattle.machine_states.specs.map_history.specs.declared.op.Request.{Request}
use Rattle.machine_states.specs.map_history.specs.Requests.{AreInOrder}

pub none_of : {A : Type 0} (o : Option A) → is_none o ≡ true → o ≡ None
none_of None e = refl
none_of (Some x) e = absurd (cc)

-- requests are numbered by their places
pub numbered : (requests : List Request) → AreInOrder requests 64 → (n : ℕ) (q : Request) → slice_get requests n ≡ Some q → q.number ≡ n
numbered requests order n q at = some_same q.number n (sym by_map ∙ (ap (λ xs. slice_get xs n) order.numbered ∙ by_range))
  where
    by_map : slice_get (map (λ (x : Request). x.number) requests) n ≡ Some q.number
    by_map = slice_get-map (λ (x : Request). x.number) requests n ∙ ap (option_map (λ (x : Request). x.number)) at

    by_range : slice_get (range_with_len 0 (length requests)) n ≡ Some n
    by_range = let low = slice_get_within requests n q at in
        slice_get-get_or (range_with_len 0 (length requests)) n 0 (subst (λ k. n < k) (sym (length-range_with_len 0 (length requests))) low)
        ∙ ap (λ (k : ℕ). Some k) (get_or-range_with_len 0 (length requests) n 0 low ∙ from_none n)
