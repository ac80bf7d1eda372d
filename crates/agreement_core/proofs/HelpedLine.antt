-- The example's line is a line.
use Rattle.std.proofs.Common.{◌≡◌, ◌≢◌, ℕ, suc, ◌≤◌, cond, refl, sym, ◌∙◌, subst, lit<, arith}
use Rattle.std.specs.Prelude.{◌==◌, nat_lt}
use Rattle.section_lines.specs.structure_laws.specs.body_terms.specs.declared.micro.Source.{Source}
use Rattle.section_lines.specs.structure_laws.specs.body_terms.specs.declared.micro.Source.TheVariants.{Fixed, Agreed}
use Rattle.section_lines.specs.structure_laws.specs.body_terms.specs.declared.micro.Micro.TheVariants as micros
use Rattle.section_lines.specs.Line.{phase, IsInPhases, IsCounted, IsOrdered, IsResolved, IsPlaced, IsStamped, IsLine, IsWholeLine}
use Rattle.agreement_core.specs.Helped.{few, code, slot}

abbrev InPhases : Type 0
InPhases = IsInPhases code

phase_of : ℕ → ℕ
phase_of i = cond (nat_lt i 3) 1 (cond (nat_lt i 6) 3 (cond (i == 6) 4 (cond (i == 7) 6 7)))

phase_is : (i : ℕ) → phase (code i) ≡ phase_of i
unfolding phase_of
phase_is i = grind arith

phases_rise : (i j : ℕ) → i ≤ j → phase_of i ≤ phase_of j
unfolding phase_of
phases_rise i j le = grind arith

in_phases : InPhases
in_phases = record {
  length = 8;
  short = lit< tt;
  inside = λ i lt. grind arith;
  outside = λ i le. grind arith;
  phases = λ i j le. subst (λ n. n ≤ phase (code j)) (sym (phase_is i))
      (subst (λ n. phase_of i ≤ n) (sym (phase_is j)) (phases_rise i j le));
  start = refl;
}

counted : IsCounted code slot
counted = record {
  slot_start = refl;
  slot_commit = λ i e. grind arith;
  slot_same = λ i e. grind arith;
  slot_rises = λ i j le. grind arith;
  slot_most = λ i. grind arith;
  commit_log = λ i p k e. grind arith;
  nested_log = λ i p k e. grind arith;
  outcome_log = λ i p k e. grind arith;
  make_log = λ i k e. grind arith;
  retire_log = λ i s k e. grind arith;
}

no_nested : (i p k : ℕ) → code i ≢ micros.NestedCommit p k
no_nested i p k e = grind arith

no_free : (i p k w : ℕ) → code i ≢ micros.CheckFree p k w
no_free i p k w e = grind arith

no_hold : (i p w : ℕ) → code i ≢ micros.NestedHold p w
no_hold i p w e = grind arith

no_load : (i p k : ℕ) → code i ≢ micros.NestedLoad p k
no_load i p k e = grind arith

no_outcome_load : (i p k : ℕ) → code i ≢ micros.OutcomeLoad p k
no_outcome_load i p k e = grind arith

no_outcome : (i p k : ℕ) → code i ≢ micros.OutcomeCommit p k
no_outcome i p k e = grind arith

pub no_held : (i p k w : ℕ) → code i ≢ micros.CheckHeld p k w
no_held i p k w e = grind arith

no_make : (i k : ℕ) → code i ≢ micros.MakeCommit k
no_make i k e = grind arith

no_fill_load : (i n k : ℕ) → code i ≢ micros.PrivateLoad n k
no_fill_load i n k e = grind arith

no_fill : (i n k : ℕ) (v : Source) → code i ≢ micros.PrivateStore n k v
no_fill i n k v e = grind arith

no_epoch : (i s k : ℕ) → code i ≢ micros.EpochForRetire s k
no_epoch i s k e = grind arith

no_retire : (i s k : ℕ) → code i ≢ micros.RetireCommit s k
no_retire i s k e = grind arith

commit_is : (i p k : ℕ) → code i ≡ micros.Commit p k → (i ≡ 1) × (micros.LoadCell 1 0 ≡ micros.LoadCell p k)
commit_is i p k e = (grind arith, grind arith)

clock_then : (i m : ℕ) → code i ≡ micros.ClockLoad → m ≡ suc i → code m ≡ micros.StampExchange
clock_then i m e f = grind arith

stamp_then : (i m : ℕ) → code i ≡ micros.StampExchange → m ≡ suc i → code m ≡ micros.ClockRaise
stamp_then i m e f = grind arith

clock_first : (i m : ℕ) → code m ≡ micros.StampExchange → m ≡ suc i → code i ≡ micros.ClockLoad
clock_first i m e f = grind arith

stamp_first : (i m : ℕ) → code m ≡ micros.ClockRaise → m ≡ suc i → code i ≡ micros.StampExchange
stamp_first i m e f = grind arith

ordered : IsOrdered code
ordered = record {
  load_next = λ i p k e. grind arith;
  commit_before = λ i p k e. let h = commit_is i p k e in (0, h.0, h.1);
  nested_next = λ i p k e. absurd (no_load i p k e);
  nested_before = λ i p k e. absurd (no_nested i p k e);
  free_before = λ i p k w e. absurd (no_free i p k w e);
  hold_next = λ i p w e. absurd (no_hold i p w e);
  hold_before = λ i p w e. absurd (no_hold i p w e);
  outcome_next = λ i p k e. absurd (no_outcome_load i p k e);
  outcome_load_before = λ i p k e. absurd (no_outcome_load i p k e);
  outcome_before = λ i p k e. absurd (no_outcome i p k e);
  held_before = λ i p k w e. absurd (no_held i p k w e);
  make_before = λ i k e. absurd (no_make i k e);
  fill_before = λ i n k v e. absurd (no_fill i n k v e);
  fill_next = λ i n k e. absurd (no_fill_load i n k e);
  refill_before = λ i n k e. absurd (no_fill_load i (suc n) k e);
  clock_next = clock_then;
  stamp_before = clock_first;
  stamp_next = stamp_then;
  raise_before = stamp_first;
  retire_next = λ i s k e. absurd (no_epoch i s k e);
  retire_before = λ i s k e. absurd (no_retire i s k e);
}

no_word : (i p k w : ℕ) → code i ≢ micros.CheckWord p k w
no_word i p k w e = grind arith

fresh_is : (i p k : ℕ) → code i ≡ micros.CheckFresh p k → (i ≡ 2) × (micros.Commit 1 0 ≡ micros.Commit p k)
fresh_is i p k e = (grind arith, grind arith)

exchange_is : (i p k : ℕ) (v : Source) → code i ≡ micros.ExchangeCell p k v
    → (i ≡ 6) × (micros.Commit 1 0 ≡ micros.Commit p k) × (micros.CheckFresh 1 0 ≡ micros.CheckFresh p k) × (v ≡ Fixed 5)
exchange_is i p k v e = (grind arith, grind arith, grind arith, grind arith)

no_agreed : (n k : ℕ) → Fixed n ≢ Agreed k
no_agreed n k e = cc

resolved : IsResolved code slot
resolved = record {
  word_loaded = λ i p k w e. absurd (no_word i p k w e);
  fresh_loaded = λ i p k e. let h = fresh_is i p k e in (1, let z = h.0 in omega arith, h.1);
  store_loaded = λ i p k v e. let h = exchange_is i p k v e in (1, let z = h.0 in omega arith, h.1);
  store_fresh = λ i p k v e. let h = exchange_is i p k v e in (2, let z = h.0 in omega arith, h.2);
  store_source = λ i p k v e n f. let h = exchange_is i p k v e in absurd (no_agreed 5 n (sym h.3 ∙ f));
  fill_source = λ i n k v e. absurd (no_fill i n k v e);
}

placed : IsPlaced few.is_lock 9 0 code
placed = record {
  outer_lock = refl;
  load_unlocked = λ i p k e. grind arith;
  take_lock = λ i p k e. absurd (no_load i p k e);
  take_inner = λ i p k e. absurd (no_load i p k e);
  take_free = λ i p k w e. absurd (no_free i p k w e);
  take_unspent = λ i p k w e. absurd (no_free i p k w e);
  load_once = λ i j p k k' e f. grind arith;
  take_once = λ i j p k k' e f. absurd (no_load i p k e);
  store_once = λ i j p k k' v v' e f. let h = exchange_is i p k v e in let h' = exchange_is j p k' v' f in h.0 ∙ sym h'.0;
}

stamp_once : (i : ℕ) → code i ≡ micros.StampExchange → i ≡ 4
stamp_once i e = grind arith

answer_once : (i n : ℕ) → code i ≡ micros.ReplyExchange n → i ≡ 7
answer_once i n e = grind arith

stamped : IsStamped code
stamped = record {
  stamp = 4;
  stamps = refl;
  stamp_once = stamp_once;
  answer = 7;
  reply = 7;
  answers = refl;
  answer_once = answer_once;
  replies = λ e. omega arith;
}

pub helped_line : IsLine few.is_lock 9 0 code slot
helped_line = record {
  in_phases = in_phases;
  counted = counted;
  ordered = ordered;
  resolved = resolved;
  placed = placed;
  stamped = stamped;
}

number_is : (i p k n : ℕ) → code i ≡ micros.ExchangeCell p k (Fixed n) → n ≡ 5
number_is i p k n e = same_number n 5 (exchange_is i p k (Fixed n) e).3
  where
    same_number : (a b : ℕ) → Fixed a ≡ Fixed b → a ≡ b
    same_number a b e = grind arith

pub helped_whole : IsWholeLine code
helped_whole = record {
  store_value = λ i p k n e. let h = number_is i p k n e in omega arith;
  outcome_check = λ i p w e. absurd (no_hold i p w e);
  start_raise = refl;
}
