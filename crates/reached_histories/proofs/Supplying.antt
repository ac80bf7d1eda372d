-- What the machine's states supply to the history's events.
use Rattle.std.specs.Prelude.{◌==◌, ◌&&◌, ◌||◌, ◌%◌, not, nat_lt, cond, Bool, true, false, map, slice_get}
use Rattle.std.specs.List.{list_all, range_with_len}
use Rattle.std.proofs.Common.{◌≡◌, ℕ, zero, suc, ◌<◌, ◌≤◌, List, [], ◌∷◌, length, refl, sym, ap, ◌∙◌, subst, arith, Option, Some, None, option_map, is_none}
use Rattle.std.proofs.lemmas.Bool.Decides.{nat_tests}
use Rattle.std.proofs.lemmas.Option.{slice_get-map, slice_get_within, slice_get-get_or}
use Rattle.std.proofs.lemmas.List.FromFn.{get_or-range_with_len, length-range_with_len}
use Rattle.std.proofs.lemmas.Bool.{and_parts}
use Rattle.machine_states.specs.epoch_core.specs.small_lemmas.proofs.Bools.{negated as not_so}
use Rattle.machine_states.specs.epoch_core.specs.small_lemmas.proofs.Numbers.{tested_equal as same_test, from_zero as from_none}
use Rattle.machine_states.specs.map_history.specs.declared.op.Request.{Request}
use Rattle.machine_states.specs.map_history.specs.Requests.{AreInOrder}
use Rattle.machine_states.specs.body_terms.specs.declared.thunk.Thunk.{Thunk}
use Rattle.machine_states.specs.table_words.specs.declared.layout.Layout.{Layout}
use Rattle.machine_states.specs.table_words.specs.declared.spot.Spot.{Spot}
use Rattle.machine_states.specs.table_words.specs.declared.access.Access.{Access}
use Rattle.machine_states.specs.structure_laws.specs.Meaning.{Meaning}
use Rattle.machine_states.specs.runner_parts.specs.declared.entries.Known.{Known}
use Rattle.machine_states.specs.runner_parts.specs.declared.entries.Published.{Published}
use Rattle.machine_states.specs.runner_parts.specs.declared.event.EventKind.TheVariants.{Hold}
use Rattle.machine_states.specs.runner_parts.specs.State.{RunState, PartState}
use Rattle.machine_states.specs.runner_parts.specs.Tests.{is_answered, are_answered, is_next, is_between}
use Rattle.machine_states.specs.runner_steps.specs.Sections.{is_open_run, next_of}
use Rattle.machine_states.specs.runner_steps.specs.Outside.{hold_ask}
use Rattle.machine_states.specs.runner_steps.specs.Asks.{opening_ask}
use Rattle.machine_states.specs.runner_steps.specs.Asks.{ask_by, line_ask}
use Rattle.machine_states.specs.epoch_core.specs.declared.location.Location.{Location}
use Rattle.machine_states.specs.epoch_core.specs.declared.location.Location.TheVariants.{Fixed, Live, Hand, Free, Worn, Limbo, OnBoard}
use Rattle.machine_states.specs.epoch_core.specs.Events.{slot_of}
use Rattle.machine_states.specs.epoch_core.specs.History.{is_out}
use Rattle.machine_states.specs.epoch_core.specs.Lists.{in_any_limbo}
use Rattle.machine_states.proofs.Sights.{if_some, some_none, unless_gone}
use Rattle.machine_states.proofs.Steps.{some_same}
use Rattle.machine_facts.specs.machine_agreement.specs.machine_epochs.specs.Entries.{counts_of}
use Rattle.machine_facts.specs.machine_agreement.specs.machine_epochs.proofs.Places.{has_times}
use Rattle.reached_histories.specs.Requests.{or_none, request_at}
use Rattle.reached_histories.specs.Kept.{link_of}
use Rattle.reached_histories.specs.Supplies.{HoldsAreDue, OperationsAreAsked, FreesAreOver}

-- requests are numbered by their place
numbered : (requests : List Request) → AreInOrder requests 64 → (n : ℕ) (q : Request) → slice_get requests n ≡ Some q → q.number ≡ n
numbered requests order n q at = some_same q.number n (sym by_map ∙ (ap (λ xs. slice_get xs n) order.numbered ∙ by_range))
  where
    low : n < length requests
    low = slice_get_within requests n q at

    by_map : slice_get (map (λ (x : Request). x.number) requests) n ≡ Some q.number
    by_map = slice_get-map (λ (x : Request). x.number) requests n ∙ ap (option_map (λ (x : Request). x.number)) at

    by_range : slice_get (range_with_len 0 (length requests)) n ≡ Some n
    by_range = slice_get-get_or (range_with_len 0 (length requests)) n 0 (subst (λ k. n < k) (sym (length-range_with_len 0 (length requests))) low)
        ∙ ap (λ (k : ℕ). Some k) (get_or-range_with_len 0 (length requests) n 0 low ∙ from_none n)

-- an element of a list all of which pass
pub passes : {A : Type 0} (test : A → Bool) (xs : List A) (i : ℕ) (x : A) → list_all test xs ≡ true → slice_get xs i ≡ Some x → test x ≡ true
passes test [] i x all at = some_none x at
passes test (y ∷ xs) zero x all at = subst (λ z. test z ≡ true) (some_same y x at) (and_parts (test y) (list_all test xs) all).0
passes test (y ∷ xs) (suc i) x all at = passes test xs i x (and_parts (test y) (list_all test xs) all).1 at

-- an earlier request of the trace is answered
earlier_passes : (trace t below n : ℕ) (answered : Bool) → (not (t == trace && nat_lt n below) || answered) ≡ true → t ≡ trace → n < below → answered ≡ true
earlier_passes trace t below n answered e same low = grind (arith, nat_tests)

-- a retired descriptor is given out and not live
retired_out : (r : ℕ) (p : Location) → 1 ≤ in_any_limbo r p → is_out p ≡ true
retired_out r (Limbo r' y') h = refl
retired_out r Fixed h = absurd (omega arith)
retired_out r Live h = refl
retired_out r (Hand r') h = absurd (omega arith)
retired_out r (Free r') h = absurd (omega arith)
retired_out r (Worn r') h = absurd (omega arith)
retired_out r (OnBoard i) h = absurd (omega arith)

retired_unlive : (r : ℕ) (p : Location) → 1 ≤ in_any_limbo r p → p ≡ Live → ⊥
retired_unlive r (Limbo r' y') h e = cc
retired_unlive r Fixed h e = cc
retired_unlive r Live h e = absurd (omega arith)
retired_unlive r (Hand r') h e = cc
retired_unlive r (Free r') h e = cc
retired_unlive r (Worn r') h e = cc
retired_unlive r (OnBoard i) h e = cc

of_link : (n d : ℕ) → suc n ≡ suc d → n ≡ d
of_link n d e = omega arith

module _ (m : Meaning) (l : Layout) (rs : List Request) where
  -- the thunk's request is there, and is the worker's next one by these known words
  pub record IsNextRequest (r : ℕ) (t : Thunk) (known : List Known) : Type 0 where
    pub request : Request
    pub of_request : slice_get rs t.request ≡ Some request
    pub next : is_next l r rs known (Some request) ≡ true

  -- what a try to publish asks of the requests
  record NextAsked (r : ℕ) (t : Thunk) (p : PartState) : Type 0 where
    pub unpublished : p.published ≡ None
    pub settled : is_between p.reads.look ≡ false
    pub due : IsNextRequest r t p.records.known

  none_of : {A : Type 0} → (o : Option A) → is_none o ≡ true → o ≡ None
  none_of None e = refl
  none_of (Some y) e = absurd (let x = e in cc)

  next_some : (r : ℕ) (known : List Known) (o : Option Request) → is_next l r rs known o ≡ true → (q : Request) × (o ≡ Some q) × (is_next l r rs known (Some q) ≡ true)
  next_some r known None e = absurd (let x = e in cc)
  next_some r known (Some q) e = (q, refl, e)

  pub next_request : (r : ℕ) (t : Thunk) (known : List Known) → is_next l r rs known (slice_get rs t.request) ≡ true → IsNextRequest r t known
  next_request r t known e = let h = next_some r known (slice_get rs t.request) e in record { request = h.0; of_request = h.1; next = h.2 }

  hold_next : (r d : ℕ) (t : Thunk) (p : PartState) (x : Spot × Access) → hold_ask m l rs r t d p ≡ Some x → NextAsked r t p
  hold_next r d t p x e =
      let h = if_some _ _ x e in
      let may = and_parts _ _ (and_parts _ _ h.0).1 in
      let rest = and_parts _ _ may.1 in
      let settled = and_parts _ _ rest.1 in
      let due = and_parts _ _ (and_parts _ _ settled.1).1 in
      record { unpublished = none_of p.published rest.0; settled = not_so _ settled.0; due = next_request r t p.records.known due.0 }

  -- in a run nobody publishes
  pub hold_outside : (r d : ℕ) (t : Thunk) (p : PartState) (run : Option RunState) (x : Spot × Access) → ask_by m l rs r (Hold t d) p run ≡ Some x → hold_ask m l rs r t d p ≡ Some x
  hold_outside r d t p None x e = e
  hold_outside r d t p (Some q) x e = by (is_open_run q) e
    where
      by : (b : Bool) → cond b (line_ask m l (Hold t d) p.nodes.free p.blocks.free q (next_of m q)) (opening_ask (Hold t d) q) ≡ Some x → hold_ask m l rs r t d p ≡ Some x
      by true e = some_none x e
      by false e = some_none x e

  -- what the request is, and what its worker knows
  module _ (order : AreInOrder rs 64) (r : ℕ) (t : Thunk) (known : List Known) (asked : IsNextRequest r t known) where
    abbrev q : Request
    q = asked.request

    test : ((q.trace % l.runners == r) ≡ true) × ((not (is_answered known q.number) && are_answered known q.trace q.number rs) ≡ true)
    test = and_parts _ _ asked.next

    here : request_at rs t.request ≡ q
    here = ap or_none asked.of_request

    number : q.number ≡ t.request
    number = numbered rs order t.request q asked.of_request

    pub own_request : (request_at rs t.request).trace % l.runners ≡ r
    own_request = ap (λ (z : Request). z.trace % l.runners) here ∙ same_test _ _ test.0

    pub unanswered : is_answered known t.request ≡ false
    unanswered = ap (is_answered known) (sym number) ∙ not_so _ (and_parts _ _ test.1).0

    pub earlier_answered : (k : ℕ) → k < t.request → (request_at rs k).trace ≡ (request_at rs t.request).trace → is_answered known k ≡ true
    earlier_answered k low same = found (slice_get rs k) refl
      where
        found : (o : Option Request) → slice_get rs k ≡ o → is_answered known k ≡ true
        found None at = absurd (let all = slice_get_within rs t.request q asked.of_request in
            some_none _ (sym at ∙ slice_get-get_or rs k q (omega arith)))
        found (Some y) at = subst (λ n. is_answered known n ≡ true) (numbered rs order k y at)
            (earlier_passes q.trace y.trace q.number y.number (is_answered known y.number)
            (passes (λ (z : Request). not (z.trace == q.trace && nat_lt z.number q.number) || is_answered known z.number) rs k y (and_parts _ _ test.1).1 at)
            (sym (ap (λ (o : Option Request). (or_none o).trace) at) ∙ (same ∙ ap (λ (z : Request). z.trace) here))
            (let a = numbered rs order k y at in let b = number in omega arith))

  pub holds_due : HoldsAreDue m l rs
  holds_due order s w r d t x kept asked =
      let p = s.part r in
      let next = hold_next r d t p x (hold_outside r d t p p.run x (unless_gone _ p.gone _ x asked).1) in
      record {
        idle = kept.published r ∙ ap link_of next.unpublished;
        own = own_request order r t p.records.known next.due;
        unknown = kept.known r t.request ∙ unanswered order r t p.records.known next.due;
        earlier = λ k low same. kept.known r k ∙ earlier_answered order r t p.records.known next.due k low same;
      }

  pub operations_asked : OperationsAreAsked m l rs
  operations_asked g s whole of d used =
      let h = whole.tied.op d used in
      ap (λ (q : Request). q.op) (ap (λ requests. request_at requests (g.publications.thunk d).request) (sym of) ∙ ap or_none h.1) ∙ h.2

  pub frees_over : FreesAreOver m l rs
  frees_over g s w whole kept r d few there = record {
    used = whole.tied.used d ∙ retired_out r _ place;
    over = λ i e. unpublished i (s.part i).published refl (sym (kept.published i) ∙ e);
  }
    where
      place : 1 ≤ in_any_limbo r (g.epochs.location (slot_of (counts_of m l) d))
      place = subst (λ n. 1 ≤ n) (whole.slots.listed.limbo_descriptors r d few) (has_times (s.part r).descriptors.limbo d there)

      unpublished : (i : ℕ) (o : Option Published) → (s.part i).published ≡ o → link_of (s.part i).published ≡ suc d → ⊥
      unpublished i None at e = absurd (let z = ap link_of (sym at) ∙ e in cc)
      unpublished i (Some y) at e = retired_unlive r _ place
          (subst (λ n. g.epochs.location (slot_of (counts_of m l) n) ≡ Live) (of_link y.descriptor d (ap link_of (sym at) ∙ e)) ((whole.slots.tied i).published y at))
