-- A trace text that grows.
use Rattle.std.proofs.Common.{◌≡◌, ℕ, zero, suc, ◌+◌, ◌-◌, ◌<◌, List, [], ◌∷◌, ◌++◌, append_assoc, arith, codes, get_or, length, refl, sym, ap, ◌∙◌, subst, ⊎_elim}
use Rattle.std.specs.Prelude.{flat_map}
use Rattle.std.proofs.lemmas.Bool.{cases_lt}
use Rattle.map_history.specs.declared.op.Request.{Request}
use Rattle.trace_reader.specs.Printed.{HasSmallValue, beginnings, line_of, lines_behind, with_feed}

abbrev bytes_of : List (List ℕ) → List ℕ
bytes_of lines = flat_map with_feed lines

bytes-append : (xs ys : List (List ℕ)) → bytes_of (xs ++ ys) ≡ bytes_of xs ++ bytes_of ys
bytes-append [] ys = refl
bytes-append (x ∷ xs) ys = ap (λ rest. with_feed x ++ rest) (bytes-append xs ys) ∙ sym (append_assoc (with_feed x) (bytes_of xs) (bytes_of ys))

fewer : (n : ℕ) → 0 < n → beginnings n ≡ codes "trace" ∷ beginnings (n - 1)
fewer zero some = absurd (omega (arith, some))
fewer (suc n) some =
    let same : n ≡ suc n - 1 = omega arith in
    ap (λ n. codes "trace" ∷ beginnings n) same

-- one trace more begins
pub beginning_more : (before after whole : List ℕ) (left : ℕ) → 0 < left → after ≡ before ++ codes "trace\n" → before ++ bytes_of (beginnings left) ≡ whole → after ++ bytes_of (beginnings (left - 1)) ≡ whole
beginning_more before after whole left some added stood =
    ap (λ front. front ++ bytes_of (beginnings (left - 1))) added
    ∙ append_assoc before (codes "trace\n") (bytes_of (beginnings (left - 1)))
    ∙ ap (λ lines. before ++ bytes_of lines) (sym (fewer left some))
    ∙ stood

-- the lines of one request more
pub text_more : (text begun_text after : List ℕ) (begun : ℕ) (request : Request) (requests : List Request) (traces : ℕ) → begun_text ≡ text ++ bytes_of (beginnings (request.trace + 1 - begun)) → after ≡ begun_text ++ with_feed (line_of request.op)
    → after ++ bytes_of (lines_behind (request.trace + 1) requests traces) ≡ text ++ bytes_of (lines_behind begun (request ∷ requests) traces)
text_more text begun_text after begun request requests traces begins asks =
    let first = bytes_of (beginnings (request.trace + 1 - begun)) in
    let rest = bytes_of (lines_behind (request.trace + 1) requests traces) in
    ap (λ front. front ++ rest) asks
    ∙ ap (λ front. (front ++ with_feed (line_of request.op)) ++ rest) begins
    ∙ append_assoc (text ++ first) (with_feed (line_of request.op)) rest
    ∙ append_assoc text first (with_feed (line_of request.op) ++ rest)
    ∙ ap (λ back. text ++ back) (sym (bytes-append (beginnings (request.trace + 1 - begun)) (line_of request.op ∷ lines_behind (request.trace + 1) requests traces)))

pub same_item : (requests : List Request) (k : ℕ) (d e : Request) → k < length requests → get_or requests k d ≡ get_or requests k e
same_item [] k d e within = absurd (omega (arith, within))
same_item (request ∷ requests) zero d e within = refl
same_item (request ∷ requests) (suc k) d e within = same_item requests k d e (omega (arith, within))

-- one more value fits
pub value_more : (requests : List Request) (i : ℕ) → i < length requests → ((k : ℕ) (d : Request) → k < i → HasSmallValue (get_or requests k d).op) → (e : Request) → HasSmallValue (get_or requests i e).op
    → (k : ℕ) (d : Request) → k < i + 1 → HasSmallValue (get_or requests k d).op
value_more requests i there before e here k d early = ⊎_elim
    (λ less. before k d less)
    (λ past.
    let same : i ≡ k = omega (arith, past, early) in
    subst (λ (n : ℕ). HasSmallValue (get_or requests n d).op) same (subst (λ (x : Request). HasSmallValue x.op) (same_item requests i e d there) here))
    (cases_lt k i)
