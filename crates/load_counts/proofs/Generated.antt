-- The requests of a plan whose traces have keys of their own.
use Rattle.std.proofs.Common.{◌≡◌, ℕ, zero, suc, ◌+◌, ◌*◌, ◌/◌, ◌%◌, ◌<◌, Bool, true, false, refl, sym, ap, ◌∙◌, subst, arith, zero-add}
use Rattle.std.specs.Prelude.{◌==◌, All, get_or, if◌then◌else◌, nat_lt}
use Rattle.std.specs.List.{range_with_len}
use Rattle.std.proofs.lemmas.List.Elements.{All-map}
use Rattle.std.proofs.lemmas.List.FromFn.{get_or-range_with_len, length-range_with_len}
use Rattle.std.proofs.lemmas.Nat.{mod-mul-add}
use Rattle.std.proofs.Math.Nat.{div-lt_iff_lt-mul}
use Rattle.structure_laws.specs.map_history.specs.declared.op.Op.TheVariants.{Get, Ins, Del}
use Rattle.structure_laws.specs.map_history.specs.declared.op.Request.{Request}
use Rattle.structure_laws.specs.map_history.specs.Keys.{key_of, IsOneKeyed}
use Rattle.structure_laws.specs.map_history.proofs.Cells.{format_1_one_keyed}
use Rattle.trace_reader.proofs.Generated.{op_format}
use Rattle.trace_reader.specs.Generator.{generated, generated_at, key_by, op_by, output_at}
use Rattle.trace_reader.specs.declared.generator.Gen.{Gen}
use Rattle.load_counts.specs.Apart.{AreApart}

key_of_op : (output key : ℕ) → key_of (op_by output key) ≡ key
key_of_op output key = by (nat_lt (output % 4) 2) (output % 4 == 2)
  where
    by : (a b : Bool) → key_of (if a then Ins key (10 * key) else if b then Del key else Get key) ≡ key
    by true b = refl
    by false true = refl
    by false false = refl

module _ (plan : Gen) (own : plan.apart ≡ true) where
  key_tells : (trace output : ℕ) → trace < plan.traces → trace ≡ key_by plan trace output % plan.traces
  key_tells trace output few =
      sym (ap (λ b. (if b then output % plan.keys * plan.traces + trace else output % plan.keys) % plan.traces) own
      ∙ mod-mul-add (output % plan.keys) plan.traces trace few)

  trace_few : (number : ℕ) → number < plan.traces * plan.length → number / plan.length < plan.traces
  trace_few number inside = (div-lt_iff_lt-mul (some plan.length refl)).1 inside
    where
      some : (n : ℕ) → plan.length ≡ n → 0 < plan.length
      some zero is = let none : number < plan.traces * 0 = subst (λ n. number < plan.traces * n) is inside in absurd (omega (arith, none))
      some (suc n) is = omega (arith, is)

  tells : (number : ℕ) → number < plan.traces * plan.length → (generated_at plan number).trace ≡ key_of (generated_at plan number).op % plan.traces
  tells number inside =
      key_tells (number / plan.length) (output_at plan.seed (2 * number + 1)) (trace_few number inside)
      ∙ sym (ap (λ key. key % plan.traces) (key_of_op (output_at plan.seed (2 * number)) (key_by plan (number / plan.length) (output_at plan.seed (2 * number + 1)))))

  pub generated_apart : AreApart (generated plan) plan.traces
  generated_apart = All-map (λ (q : Request). IsOneKeyed q.op × (q.trace ≡ key_of q.op % plan.traces)) (generated_at plan) (range_with_len 0 (plan.traces * plan.length)) each
    where
      each : All (λ (n : ℕ). IsOneKeyed (generated_at plan n).op × ((generated_at plan n).trace ≡ key_of (generated_at plan n).op % plan.traces)) (range_with_len 0 (plan.traces * plan.length))
      each k d inside =
          let few : k < plan.traces * plan.length = omega (arith, inside, length-range_with_len 0 (plan.traces * plan.length)) in
          let there : get_or (range_with_len 0 (plan.traces * plan.length)) k d ≡ k = get_or-range_with_len 0 (plan.traces * plan.length) k d few ∙ zero-add k in
          subst (λ (n : ℕ). IsOneKeyed (generated_at plan n).op × ((generated_at plan n).trace ≡ key_of (generated_at plan n).op % plan.traces)) (sym there)
          (format_1_one_keyed (generated_at plan k).op (op_format (output_at plan.seed (2 * k)) (key_by plan (k / plan.length) (output_at plan.seed (2 * k + 1)))), tells k few)
