-- Requests in order, with one more.
use Rattle.std.proofs.Common.{◌≡◌, ℕ, zero, suc, add-one, zero-add, ◌+◌, ◌-◌, ◌≤◌, ◌<◌, List, [], ◌∷◌, ◌++◌, length, refl, sym, ap, ◌∙◌, subst, arith, length-append, ⊎_elim, get_or}
use Rattle.std.specs.Prelude.{All, map}
use Rattle.std.specs.List.{range_with_len}
use Rattle.std.specs.List.Sorted.{IsNonDecreasingBy}
use Rattle.std.proofs.lemmas.Bool.{cases_lt}
use Rattle.std.proofs.lemmas.List.{map-append}
use Rattle.std.proofs.lemmas.List.Elements.{All-append}
use Rattle.std.proofs.Math.ListN.{get_or-append}
use Rattle.std.proofs.Math.Seq.{get_or-append_seam}
use Rattle.map_history.specs.declared.op.Op.{Op}
use Rattle.map_history.specs.declared.op.Request.{Request}
use Rattle.map_history.specs.Keys.{DependsOn}
use Rattle.map_history.specs.Requests.{AreInOrder}

pub AreInOrder-none : AreInOrder [] 0
AreInOrder-none = record {
  few_traces = omega arith;
  few = omega arith;
  numbered = refl;
  within = λ k d early. absurd (omega arith);
  rising = λ i j d le early. absurd (omega arith);
  keys = λ k d early. absurd (omega arith);
}

-- one more trace
pub AreInOrder-trace : (requests : List Request) (before after : ℕ) → after ≡ before + 1 → after ≤ 64 → AreInOrder requests before → AreInOrder requests after
AreInOrder-trace requests before after more few are = record {
  few_traces = few;
  few = are.few;
  numbered = are.numbered;
  within = λ k d early. omega (arith, are.within k d early, more);
  rising = are.rising;
  keys = are.keys;
}

pub All-one : {X : Type 0} (P : X → Type 0) (x : X) → P x → All P (x ∷ [])
All-one P x holds k d early = let e : k ≡ 0 = omega arith in subst (λ (n : ℕ). P (get_or (x ∷ []) n d)) (sym e) holds

-- a list that doesn't fall, with an element that no earlier one is above
rising-push : {X : Type 0} (n : X → ℕ) (xs : List X) (x : X) → IsNonDecreasingBy n xs → All (λ y. n y ≤ n x) xs → IsNonDecreasingBy n (xs ++ x ∷ [])
rising-push n xs x rising below i j d le within =
    let size : length (xs ++ x ∷ []) ≡ length xs + 1 = length-append xs (x ∷ []) in
    ⊎_elim
    (λ j_early. rw (get_or-append xs (x ∷ []) d i (omega arith), get_or-append xs (x ∷ []) d j j_early) (rising i j d le j_early))
    (λ j_late.
    let last : get_or (xs ++ x ∷ []) j d ≡ x = ap (λ k. get_or (xs ++ x ∷ []) k d) (omega arith) ∙ get_or-append_seam xs x [] d in
    rw last (⊎_elim
    (λ i_early. rw (get_or-append xs (x ∷ []) d i i_early) (below i d i_early))
    (λ i_late.
    let same : get_or (xs ++ x ∷ []) i d ≡ x = ap (λ k. get_or (xs ++ x ∷ []) k d) (omega arith) ∙ get_or-append_seam xs x [] d in
    rw same (omega arith))
    (cases_lt i (length xs))))
    (cases_lt j (length xs))

-- the numbers from one on, with the next
range-push : (a n : ℕ) → range_with_len a (suc n) ≡ range_with_len a n ++ (a + n) ∷ []
range-push a zero = ap (λ k. k ∷ []) (omega arith)
range-push a (suc n) = ap (λ more. a ∷ more) (range-push (a + 1) n ∙ ap (λ k. range_with_len (a + 1) n ++ k ∷ []) (omega arith))

numbered-push : (requests : List Request) (last : Request) → map (λ request. request.number) requests ≡ range_with_len 0 (length requests) → last.number ≡ length requests → map (λ request. request.number) (requests ++ last ∷ []) ≡ range_with_len 0 (length (requests ++ last ∷ []))
numbered-push requests last numbered next =
    let longer : length (requests ++ last ∷ []) ≡ suc (length requests) = length-append requests (last ∷ []) ∙ add-one (length requests) in
    map-append (λ (request : Request). request.number) requests (last ∷ [])
    ∙ ap (λ front. front ++ last.number ∷ []) numbered
    ∙ ap (λ k. range_with_len 0 (length requests) ++ k ∷ []) (next ∙ sym (zero-add (length requests)))
    ∙ sym (ap (range_with_len 0) longer ∙ range-push 0 (length requests))

-- a request's keys are within the limit
abbrev AreLow : Request → Type 0
AreLow request = (key : ℕ) → DependsOn request.op key → key ≤ 4294967293

-- one more request of the last trace
pub AreInOrder-ask : (before after : List Request) (traces : ℕ) (op : Op) → 0 < traces → ((key : ℕ) → DependsOn op key → key ≤ 4294967293) → after ≡ before ++ record { trace = traces - 1; number = length before; op = op } ∷ [] → length after ≤ 131072 → AreInOrder before traces → AreInOrder after traces
AreInOrder-ask before after traces op begun small added few are =
    let last : Request = record { trace = traces - 1; number = length before; op = op } in
    record {
      few_traces = are.few_traces;
      few = few;
      numbered = rw added (numbered-push before last are.numbered refl);
      within = rw added (All-append (λ request. request.trace < traces) before (last ∷ []) are.within (All-one (λ (request : Request). request.trace < traces) last (omega arith)));
      rising = rw added (rising-push (λ request. request.trace) before last are.rising (λ k d early. omega (arith, are.within k d early)));
      keys = rw added (All-append AreLow before (last ∷ []) are.keys (All-one AreLow last small));
    }
