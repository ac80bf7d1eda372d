use Rattle.std.proofs.Common.{ℕ, List, [], ◌∷◌, refl, sym, subst, arith}
use Rattle.machine_states.specs.map_history.specs.declared.op.Request.{Request}
use Rattle.machine_states.specs.map_history.specs.declared.op.Op.TheVariants.{Get}
use Rattle.machine_states.specs.map_history.specs.Requests.{AreInOrder}
use Rattle.interleave_tests.proofs.Orders.{in_order}
use Rattle.interleave_tests.proofs.random.requests.Goals as goal

abbrev asked : ℕ → ℕ → Request
asked trace number = record { trace = trace; number = number; op = Get 1 }

abbrev all_asked : List Request
all_asked = asked 0 0 ∷ asked 0 1 ∷ asked 0 2 ∷ asked 0 3 ∷ asked 0 4 ∷ asked 0 5 ∷ asked 0 6 ∷ asked 0 7 ∷ asked 1 8 ∷ asked 1 9 ∷ asked 1 10 ∷ asked 1 11 ∷ asked 1 12 ∷ asked 1 13 ∷ asked 1 14 ∷ asked 1 15 ∷ []

pub returns : goal.returns
returns c = subst (λ (xs : List Request). AreInOrder xs 64)
    (λ i. sym c.request.ensures i ∷ sym c.request-2.ensures i ∷ sym c.request-3.ensures i ∷ sym c.request-4.ensures i ∷ sym c.request-5.ensures i ∷ sym c.request-6.ensures i ∷ sym c.request-7.ensures i ∷ sym c.request-8.ensures i ∷ sym c.request-9.ensures i ∷ sym c.request-10.ensures i ∷ sym c.request-11.ensures i ∷ sym c.request-12.ensures i ∷ sym c.request-13.ensures i ∷ sym c.request-14.ensures i ∷ sym c.request-15.ensures i ∷ sym c.request-16.ensures i ∷ [])
    (in_order all_asked (omega arith) refl refl refl refl refl)
