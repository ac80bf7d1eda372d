-- The counts of gates, with one more given or taken back.
use Rattle.std.specs.Prelude.{◌^◌, ◌-◌, OnErr, Option, Result, Ok, Err}
use Rattle.std.proofs.Common.{◌≡◌, ◌≢◌, ℕ, zero, suc, ◌+◌, ◌<◌, ◌≤◌, List, [], ◌∷◌, ◌++◌, length, take, get_or, refl, sym, ap, ◌∙◌, arith, zero-add}
use Rattle.std.proofs.Math.Nat.{min-le_left}
use Rattle.std.proofs.lemmas.List.{take_more, take_all, length-take}
use Rattle.settled_tables.specs.settling.specs.runner_gate.specs.Asks.{Asks}
use Rattle.settled_tables.specs.settling.specs.runner_gate.specs.Counts.{plus, halts_after, plans_after, planned_after}
use Rattle.settled_tables.specs.settling.specs.runner_gate.specs.declared.counts.GatePlan.{GatePlan}
use Rattle.free_serving.specs.serving.specs.declared.answers.Served.{Served}
use Rattle.free_serving.specs.serving.specs.declared.answers.Served.TheVariants as answers
use Rattle.threaded_runs.specs.declared.job.Finished.{Finished}
use Rattle.threaded_runs.specs.Counts.{halted, halts_counted, plans_given, plans_from, returns_counted, GivesFront}
use Rattle.threaded_runs.specs.Jobs.{asks_counted}

-- one more answer
pub halts_more : (halts : ℕ) (given : List Served) (answer : Served) → halts_counted halts (given ++ answer ∷ []) ≡ halts_after (halts_counted halts given) (halted answer)
halts_more halts [] answer = refl
halts_more halts (x ∷ given) answer = halts_more (halts_after halts (halted x)) given answer

-- the gate of a worker halted exactly where its answer is Halted
pub counted_so : (halts of_gate : ℕ) (answer : Served) → (answer ≡ answers.Halted → of_gate ≡ 1) → (answer ≢ answers.Halted → of_gate ≡ 0) → halts_after halts of_gate ≡ halts_after halts (halted answer)
counted_so halts of_gate answers.Halted some none = ap (halts_after halts) (some refl)
counted_so halts of_gate answers.All some none = ap (halts_after halts) (none (λ e. let x = e in cc))
counted_so halts of_gate (answers.Short short) some none = ap (halts_after halts) (none (λ e. let x = e in cc))
counted_so halts of_gate (answers.Spent place word) some none = ap (halts_after halts) (none (λ e. let x = e in cc))

-- the gate of one more worker
module _ {T H : Type 0} (asks : H → Asks) where
  asks_more : (count : ℕ) (finished : List (Finished T H)) (f : Finished T H) → asks_counted asks count (finished ++ f ∷ []) ≡ plus (asks_counted asks count finished) (asks f.gate).count
  asks_more count [] f = refl
  asks_more count (x ∷ finished) f = asks_more (plus count (asks x.gate).count) finished f

  pub asks_next : (count : ℕ) (finished : List (Finished T H)) (n : ℕ) (f : Finished T H) → n < length finished → ((d : Finished T H) → get_or finished n d ≡ f)
      → asks_counted asks count (take (n + 1) finished) ≡ plus (asks_counted asks count (take n finished)) (asks f.gate).count
  asks_next count finished n f low here =
      ap (asks_counted asks count) (take_more finished n f low ∙ ap (λ (x : Finished T H). take n finished ++ x ∷ []) (here f)) ∙ asks_more count (take n finished) f

  -- the gate of the only one
  pub asks_of_one : (count : ℕ) (finished : List (Finished T H)) (d : Finished T H) → length finished ≡ 1 → asks_counted asks count finished ≡ plus count (asks (get_or finished 0 d).gate).count
  asks_of_one count [] d one = absurd (omega (arith, one))
  asks_of_one count (f ∷ []) d one = refl
  asks_of_one count (f ∷ g ∷ finished) d one = absurd (omega (arith, one))

-- a count rises by no more than what is added
pub rises_within : (before behind all more most : ℕ) → behind ≡ all → all ≡ plus before more → more ≤ most → behind ≤ before + most
rises_within before behind all more most is counted few = let low : plus before more ≤ before + more = min-le_left (before + more) (2 ^ 64 - 1) in omega (arith, is, counted, few, low)

-- one more plan
given_more : (plans : ℕ) (given : List (Option ℕ)) (halt : Option ℕ) → plans_given plans (given ++ halt ∷ []) ≡ plans_after (plans_given plans given) halt
given_more plans [] halt = refl
given_more plans (x ∷ given) halt = given_more (plans_after plans x) given halt

pub plans_more : (plans : ℕ) (halts : List (Option ℕ)) (n : ℕ) (d : Option ℕ) → n < length halts
    → plans_after (plans_given plans (take n halts)) (get_or halts n d) ≡ plans_given plans (take (n + 1) halts)
plans_more plans halts n d low = sym (ap (plans_given plans) (take_more halts n d low) ∙ given_more plans (take n halts) (get_or halts n d))

-- where at most 16 are given, all are kept
keeps_all : {X : Type 0} (xs : List X) (n : ℕ) (d : X) → n < length xs → length xs ≤ 16 → take 16 (take n xs ++ get_or xs n d ∷ []) ≡ take (n + 1) xs
keeps_all xs n d low few = let all = take (n + 1) xs in let short : length all ≤ 16 = (let l = length-take (n + 1) xs in omega arith) in
    ap (take 16) (sym (take_more xs n d low)) ∙ take_all 16 all short

length-plans_from : (worker : ℕ) (halts : List (Option ℕ)) → length (plans_from worker halts) ≡ length halts
length-plans_from worker [] = refl
length-plans_from worker (halt ∷ halts) = ap suc (length-plans_from (worker + 1) halts)

abbrev plan_of : ℕ → Option ℕ → GatePlan
plan_of worker halt = record { runner = worker; halt = halt }

plan_at : (worker : ℕ) (halts : List (Option ℕ)) (n : ℕ) (d : Option ℕ) → n < length halts
    → get_or (plans_from worker halts) n (plan_of (worker + n) d) ≡ plan_of (worker + n) (get_or halts n d)
plan_at worker [] n d low = absurd (omega (arith, low))
plan_at worker (halt ∷ halts) zero d low = ap (λ (k : ℕ). plan_of k halt) (omega arith)
plan_at worker (halt ∷ halts) (suc n) d low =
    let shift : worker + suc n ≡ (worker + 1) + n = omega arith in
    ap (λ (k : ℕ). get_or (plans_from (worker + 1) halts) n (plan_of k d)) shift
    ∙ (plan_at (worker + 1) halts n d (omega (arith, low)) ∙ ap (λ (k : ℕ). plan_of k (get_or halts n d)) (sym shift))

pub next_plan : (halts : List (Option ℕ)) (n : ℕ) (d : Option ℕ) → n < length halts → length halts ≤ 16
    → take 16 (take n (plans_from 0 halts) ++ plan_of n (get_or halts n d) ∷ []) ≡ take (n + 1) (plans_from 0 halts)
next_plan halts n d low few =
    let long = length-plans_from 0 halts in
    let here = plan_at 0 halts n d low ∙ ap (λ (k : ℕ). plan_of k (get_or halts n d)) (zero-add n) in
    ap (λ (p : GatePlan). take 16 (take n (plans_from 0 halts) ++ p ∷ [])) (sym here)
    ∙ keeps_all (plans_from 0 halts) n (plan_of (0 + n) d) (omega (arith, low, long)) (omega (arith, few, long))

-- all of them
pub all_plans : (halts : List (Option ℕ)) (n : ℕ) → n ≡ length halts → take n (plans_from 0 halts) ≡ plans_from 0 halts
all_plans halts n all = take_all n (plans_from 0 halts) (omega (arith, all, length-plans_from 0 halts))

-- where memory is wanting, the first ones have their gates
pub front_none : (plans : ℕ) (planned : List GatePlan) (halts : List (Option ℕ)) → GivesFront plans plans planned planned halts
front_none plans planned halts = (0, refl, λ empty. empty)

pub front_more : (plans now next : ℕ) (planned held given : List GatePlan) (halts : List (Option ℕ)) (n : ℕ) (d : Option ℕ) → n < length halts
    → length halts ≤ 16 → now ≡ plans_given plans (take n halts) → next ≡ plans_after now (get_or halts n d)
    → (planned ≡ [] → held ≡ take n (plans_from 0 halts)) → given ≡ planned_after held n (get_or halts n d) → GivesFront plans next planned given halts
front_more plans now next planned held given halts n d low few was is were are = (
  n + 1,
  is ∙ (ap (λ p. plans_after p (get_or halts n d)) was ∙ plans_more plans halts n d low),
  λ empty. are ∙ (ap (λ (xs : List GatePlan). planned_after xs n (get_or halts n d)) (were empty) ∙ next_plan halts n d low few),
)

pub front_all : (plans next : ℕ) (planned given : List GatePlan) (halts : List (Option ℕ)) → next ≡ plans_given plans halts
    → (planned ≡ [] → given ≡ plans_from 0 halts) → GivesFront plans next planned given halts
front_all plans next planned given halts is are = (
  length halts,
  is ∙ ap (plans_given plans) (sym (take_all (length halts) halts (omega arith))),
  λ empty. are empty ∙ sym (all_plans halts (length halts) refl),
)

-- one more gate came back
pub one_returned : (returned n : ℕ) → returns_counted returned (n + 1) ≡ plus (returns_counted returned n) 1
one_returned returned n = let next : n + 1 ≡ suc n = omega arith in ap (returns_counted returned) next

-- what an error leaves, whatever it is
pub on_err : {X E : Type 0} (fact : Type 0) (result : Result X E) → fact → OnErr result fact
on_err fact (Ok x) so = tt
on_err fact (Err error) so = so
