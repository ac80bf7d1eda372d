-- Generated requests are in order.
use Rattle.std.proofs.Common.{◌≡◌, ℕ, zero, suc, ◌+◌, ◌*◌, ◌/◌, ◌%◌, ◌<◌, ◌≤◌, Bool, true, false, cond, List, [], ◌∷◌, length, map, refl, sym, ap, ◌∙◌, subst, arith, get_or}
use Rattle.std.specs.Prelude.{◌==◌, nat_lt}
use Rattle.std.specs.List.{range_with_len}
use Rattle.std.proofs.lemmas.List.FromFn.{get_or-map-range_with_len, length-map-range_with_len}
use Rattle.std.proofs.lemmas.Nat.{div_below, div-add-mod', le-div, mod_below, mul-le}
use Rattle.map_history.specs.declared.op.Request.{Request}
use Rattle.map_history.specs.declared.op.Op.TheVariants.{Get, Ins, Del}
use Rattle.map_history.specs.Keys.{is_format_1}
use Rattle.map_history.specs.Requests.{AreInOrder, AreOfFormat1}
use Rattle.trace_reader.proofs.Formats.{keys_low}
use Rattle.trace_reader.specs.declared.generator.Gen.{Gen}
use Rattle.trace_reader.specs.Said.{HasLowKeys}
use Rattle.trace_reader.specs.Generator.{IsPlan, generated, generated_at, key_by, next_state, op_by, output_at, state_after}

-- one draw more
pub state_more : (seed draws more : ℕ) → more ≡ suc draws → state_after seed more ≡ next_state (state_after seed draws)
state_more seed draws more e = ap (state_after seed) e

no_product : (traces length number : ℕ) → number < traces * length → 0 < length
no_product traces zero number within = absurd (omega (arith, within))
no_product traces (suc length) number within = omega arith

-- a request's trace is one of the plan's
pub trace_within : (plan : Gen) (number : ℕ) → number < plan.traces * plan.length → number / plan.length < plan.traces
trace_within plan number within = div_below number plan.length plan.traces (no_product plan.traces plan.length number within) within

later_trace : (length i j : ℕ) → 0 < length → i ≤ j → i / length ≤ j / length
later_trace length i j some le = le-div (i / length) j length some (omega (arith, div-add-mod' i length, le))

numbers : (plan : Gen) (numbers : List ℕ) → map (λ request. request.number) (map (generated_at plan) numbers) ≡ numbers
numbers plan [] = refl
numbers plan (number ∷ more) = ap (λ rest. number ∷ rest) (numbers plan more)

key_small : (plan : Gen) (trace output : ℕ) → IsPlan plan → trace < plan.traces → key_by plan trace output ≤ 4294967293
key_small plan trace output is within = by_form plan.apart refl
  where
    below : output % plan.keys < plan.keys
    below = mod_below output plan.keys (omega (arith, is.some_keys))

    by_form : (apart : Bool) → plan.apart ≡ apart → key_by plan trace output ≤ 4294967293
    by_form true form =
        let key = ap (λ b. cond b (output % plan.keys * plan.traces + trace) (output % plan.keys)) form in
        omega (arith, key, mul-le (output % plan.keys) plan.traces 32768 64 (omega (arith, below, is.keys)) is.traces, within, is.traces)
    by_form false form =
        let key = ap (λ b. cond b (output % plan.keys * plan.traces + trace) (output % plan.keys)) form in
        omega (arith, key, below, is.keys)

op_low : (output key : ℕ) → key ≤ 4294967293 → HasLowKeys (op_by output key)
op_low output key low = by_tests (nat_lt (output % 4) 2) (output % 4 == 2)
  where
    by_tests : (a b : Bool) → HasLowKeys (cond a (Ins key (10 * key)) (cond b (Del key) (Get key)))
    by_tests true b = low
    by_tests false true = low
    by_tests false false = low

pub op_format : (output key : ℕ) → is_format_1 (op_by output key) ≡ true
op_format output key = by_tests (nat_lt (output % 4) 2) (output % 4 == 2)
  where
    by_tests : (a b : Bool) → is_format_1 (cond a (Ins key (10 * key)) (cond b (Del key) (Get key))) ≡ true
    by_tests true b = refl
    by_tests false true = refl
    by_tests false false = refl

-- what is generated can be asked in a text of format 1
pub generated_format : (plan : Gen) → AreOfFormat1 (generated plan)
generated_format plan =
    let count = plan.traces * plan.length in
    let size : length (generated plan) ≡ count = length-map-range_with_len (generated_at plan) 0 count in
    λ k d early. subst (λ (r : Request). is_format_1 r.op ≡ true)
    (sym (get_or-map-range_with_len (generated_at plan) 0 count k k d (omega (arith, size, early)) (omega arith)))
    (op_format (output_at plan.seed (2 * k)) (key_by plan (k / plan.length) (output_at plan.seed (2 * k + 1))))

-- what is generated is in order
pub generated_in_order : (plan : Gen) → IsPlan plan → AreInOrder (generated plan) plan.traces
generated_in_order plan is =
    let count = plan.traces * plan.length in
    let size : length (generated plan) ≡ count = length-map-range_with_len (generated_at plan) 0 count in
    let at : (k : ℕ) (d : Request) → k < count → get_or (generated plan) k d ≡ generated_at plan k = λ k d early. get_or-map-range_with_len (generated_at plan) 0 count k k d early (omega arith) in
    record {
      few_traces = is.traces;
      few = omega (arith, size, is.requests);
      numbered = numbers plan (range_with_len 0 count) ∙ ap (range_with_len 0) (sym size);
      within = λ k d early. rw (at k d (omega (arith, size))) (trace_within plan k (omega (arith, size)));
      rising = λ i j d le early. rw (at i d (omega (arith, size)), at j d (omega (arith, size))) (later_trace plan.length i j (no_product plan.traces plan.length j (omega (arith, size))) le);
      keys = λ k d early. rw (at k d (omega (arith, size))) (
          let output = output_at plan.seed (2 * k + 1) in
          keys_low (generated_at plan k).op
          (op_low (output_at plan.seed (2 * k)) (key_by plan (k / plan.length) output) (key_small plan (k / plan.length) output is (trace_within plan k (omega (arith, size))))));
    }
