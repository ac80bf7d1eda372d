-- A worker that has done nothing may serve the first requests of a table.
use Rattle.std.specs.Prelude.{All, slice_get, true}
use Rattle.std.proofs.lemmas.Option.{slice_get_within, get_or_from_slice_get}
use Rattle.std.proofs.Common.{◌≡◌, ℕ, ◌<◌, ◌%◌, List, take, sym, subst, ap, ◌∙◌, arith, Some, inr}
use Rattle.std.proofs.Math.Nat.{mod-one}
use Rattle.machine_states.specs.map_history.specs.declared.op.Request.{Request}
use Rattle.machine_states.specs.table_words.specs.declared.layout.Layout.{Layout}
use Rattle.machine_states.specs.runner_parts.specs.Tests.{is_answered}
use Rattle.table_steps.specs.version_words.specs.RunnerState.{RunnerState}
use Rattle.table_steps.specs.version_words.specs.TableState.{TableState, IsOf}
use Rattle.try_lock.specs.Planning.{Planning}
use Rattle.serving.specs.Serving.{MayServe}
use Rattle.speed.specs.declared.attempt_rounds.kinds.Kind.{Kind}
use Rattle.speed.specs.Asked.{requests_of}
use Rattle.speed.specs.Fresh.{IsFresh}
use Rattle.speed.proofs.Asked.{numbered}
use Rattle.speed.proofs.Fronts.{stands, in_front, is_early}

module _ {T : Type 0} (planning : Planning) (t : TableState T) (r : RunnerState T) (own : IsOf t r) (fresh : IsFresh r) (one : t.layout.runners ≡ 1)
    (kind : Kind) (count : ℕ) (asked : t.requests ≡ requests_of kind count) (serves : All (λ (q : Request). planning.serves q.op ≡ true) (requests_of kind count)) (served : ℕ) where
  abbrev list : List Request
  list = requests_of kind count

  abbrev front : List Request
  front = take served list

  number_of : (i : ℕ) (q : Request) → slice_get front i ≡ Some q → q.number ≡ i
  number_of i q e = numbered kind count i q (stands list served i q e)

  -- the worker has the table's requests
  requests : r.requests ≡ list
  requests = own.requests ∙ asked

  there : (i : ℕ) (q : Request) → slice_get front i ≡ Some q → slice_get r.requests q.number ≡ Some q
  there i q e = ap (λ (rs : List Request). slice_get rs q.number) requests
      ∙ (ap (slice_get list) (number_of i q e) ∙ stands list served i q e)

  runners : r.layout.runners ≡ 1
  runners = ap (λ (l : Layout). l.runners) own.layout ∙ one

  its : (q : Request) → q.trace % r.layout.runners ≡ r.number
  its q = ap (λ (n : ℕ). q.trace % n) runners ∙ (mod-one q.trace ∙ sym fresh.number)

  earlier : (i : ℕ) (q q' : Request) → slice_get front i ≡ Some q → slice_get r.requests q'.number ≡ Some q' → q'.number < q.number → (j : ℕ) × (j < i) × (slice_get front j ≡ Some q')
  earlier i q q' e at low =
      let number = number_of i q e in let early = is_early list served i q e in (
        q'.number,
        omega (arith, low, number),
        in_front list served q'.number q' (omega (arith, low, number, early)) (ap (λ (rs : List Request). slice_get rs q'.number) (sym requests) ∙ at),
      )

  its_served : (i : ℕ) (q : Request) → slice_get list i ≡ Some q → planning.serves q.op ≡ true
  its_served i q e = subst (λ (x : Request). planning.serves x.op ≡ true) (get_or_from_slice_get list i q q e) (serves i q (slice_get_within list i q e))

  pub may_serve : MayServe planning front r
  may_serve = record {
    tidy = fresh.tidy;
    own = λ i q e. record { there = there i q e; own = its q };
    served = λ i q e. its_served i q (stands list served i q e);
    once = λ i j q q' e e' same. sym (number_of i q e) ∙ (same ∙ number_of j q' e');
    unanswered = λ i q e. ap (λ known. is_answered known q.number) fresh.knows;
    earlier = λ i q q' e other trace low. inr (earlier i q q' e other.there low);
  }
