-- Steps that are written over others from the first on.
use Rattle.std.proofs.Common.{◌≡◌, ℕ, ◌+◌, ◌≤◌, ◌<◌, ⊎_elim, min, List, [], ◌∷◌, ◌++◌, length, take, sym, ap, ◌∙◌, arith, get_or, set}
use Rattle.std.proofs.lemmas.Bool.{cases_lt}
use Rattle.std.proofs.lemmas.List.{take_all, take-take, take_more, take_more_set}

-- two lists of one length that agree up to one place agree up to another, where nothing stands between
pub agrees_to : {A : Type 0} (xs ys : List A) (n m : ℕ) → length xs ≡ length ys → take n xs ≡ take n ys → min (length ys) m ≤ n → take m xs ≡ take m ys
agrees_to xs ys n m long same far = ⊎_elim (λ below.
    let all : length ys ≤ n = omega (arith, below, far) in
    let over : length xs ≤ n = omega (arith, long, all) in
    take_all m xs (omega (arith, over, below)) ∙ (sym (take_all n xs over) ∙ (same ∙ (take_all n ys all ∙ sym (take_all m ys (omega (arith, all, below)))))))
    (λ within. sym (take-take m n xs within) ∙ (ap (take m) same ∙ take-take m n ys within)) (cases_lt n m)

-- one more is written
pub agrees_more : {A : Type 0} (xs ys : List A) (n : ℕ) (d : A) → length xs ≡ length ys → take n xs ≡ take n ys → n < length ys → take (n + 1) (set xs n (get_or ys n d)) ≡ take (n + 1) ys
agrees_more xs ys n d long same inside =
    take_more_set xs n (get_or ys n d) (omega (arith, inside, long))
    ∙ (ap (λ l. l ++ get_or ys n d ∷ []) same ∙ sym (take_more ys n d inside))
