-- What streams and gates tell and count before and after a call.
use Rattle.std.specs.Prelude.{◌≡◌, ℕ, List, Option}
use Rattle.threaded_runs.specs.runner_gate.specs.declared.counts.GatePlan.{GatePlan}
use Rattle.threaded_runs.specs.runner_gate.specs.fault_count.specs.Rose.{Rose}
use Rattle.flock_tool.specs.End.{Tells}

-- what a stream tells before and after a call, and its count of faults
pub record Stream : Type 0 where
  pub before : Option (List ℕ)
  pub after : Option (List ℕ)
  pub faults_before : ℕ
  pub faults_after : ℕ

abbrev pub stream : (before after : Option (List ℕ)) → (faults_before faults_after : ℕ) → Stream
stream before after faults_before faults_after =
    record { before = before; after = after; faults_before = faults_before; faults_after = faults_after }

-- it was left alone
pub record IsUntouched (s : Stream) : Type 0 where
  pub same : s.after ≡ s.before
  pub steady : s.faults_after ≡ s.faults_before

-- its count of faults rose
abbrev pub Fails : Stream → Type 0
Fails s = Rose s.faults_before s.faults_after

-- the line was added to it, or a part of it where its count of faults rose
abbrev pub Told : List ℕ → Stream → Type 0
Told line s = Tells line s.before s.after s.faults_before s.faults_after

-- what the gates have counted before and after a call: the halts, the asks, the plans, for which runners gates were
-- given and with which plans, and how many came back
pub record Gating : Type 0 where
  pub halts_before : ℕ
  pub halts_after : ℕ
  pub asks_before : ℕ
  pub asks_after : ℕ
  pub plans_before : ℕ
  pub plans_after : ℕ
  pub planned_before : List GatePlan
  pub planned_after : List GatePlan
  pub returned_before : ℕ
  pub returned_after : ℕ

abbrev pub gating : (halts_before halts_after asks_before asks_after plans_before plans_after : ℕ)
    → (planned_before planned_after : List GatePlan) → (returned_before returned_after : ℕ) → Gating
gating halts_before halts_after asks_before asks_after plans_before plans_after planned_before planned_after
    returned_before returned_after = record {
      halts_before = halts_before;
      halts_after = halts_after;
      asks_before = asks_before;
      asks_after = asks_after;
      plans_before = plans_before;
      plans_after = plans_after;
      planned_before = planned_before;
      planned_after = planned_after;
      returned_before = returned_before;
      returned_after = returned_after;
    }

-- they were left alone
pub record IsIdle (g : Gating) : Type 0 where
  pub halts : g.halts_after ≡ g.halts_before
  pub asks : g.asks_after ≡ g.asks_before
  pub plans : g.plans_after ≡ g.plans_before
  pub planned : g.planned_after ≡ g.planned_before
  pub returned : g.returned_after ≡ g.returned_before

-- the count of the gates' halts rose
abbrev pub Halts : Gating → Type 0
Halts g = Rose g.halts_before g.halts_after
