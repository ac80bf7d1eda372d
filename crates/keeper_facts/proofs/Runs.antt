-- A step of a run leaves the run in its descriptor, or brings it to its end.
use Rattle.std.specs.Prelude.{nat_lt, Bool, true, false, if◌then◌else◌, ◌-◌}
use Rattle.std.proofs.Common.{◌≡◌, ℕ, [], ◌∷◌, ◌++◌, refl, ap, inl, inr, Option, Some, None}
use Rattle.std.specs.Prelude.{◌⊎◌}
use Rattle.machine_states.specs.body_terms.specs.Line.{is_end}
use Rattle.machine_states.specs.body_terms.specs.declared.micro.Micro.{Micro}
use Rattle.machine_states.specs.table_words.specs.declared.layout.Layout.{Layout}
use Rattle.machine_states.specs.structure_laws.specs.Meaning.{Meaning}
use Rattle.machine_states.specs.runner_parts.specs.declared.event.EventKind.{EventKind}
use Rattle.machine_states.specs.runner_parts.specs.declared.event.EventKind.TheVariants as kinds
use Rattle.machine_states.specs.runner_parts.specs.State.{RunState, RecordsState, PartState}
use Rattle.machine_states.specs.runner_parts.specs.Lists.{cell_read}
use Rattle.machine_states.specs.runner_steps.specs.Sections.{is_open_run, next_of, needs_link}
use Rattle.machine_states.specs.runner_steps.specs.InRun.{last_clock}
use Rattle.machine_states.specs.runner_steps.specs.AfterInRun as inside
use Rattle.machine_states.specs.runner_steps.specs.AfterInRun.{ended_more, finished_of}
use Rattle.machine_states.specs.runner_steps.specs.After.{line_after, inside_after}
use Rattle.machine_states.specs.runner_steps.specs.Outside.{blocks_from}

-- the part is in a run of this descriptor
pub record IsIn (p : PartState) (d : ℕ) : Type 0 where
  pub run : RunState
  pub runs : p.run ≡ Some run
  pub of_section : run.descriptor ≡ d

-- the run came to its end, and what is kept of it says so
pub record IsOver (m : Meaning) (l : Layout) (p : PartState) (q : RunState) (p' : PartState) : Type 0 where
  pub opened : is_open_run q ≡ true
  pub resting : p'.run ≡ None
  pub kept : p'.records.finished ≡ p.records.finished ++ finished_of m l (ended_more q) ∷ []

module _ (m : Meaning) (l : Layout) (p : PartState) (q : RunState) (runs : p.run ≡ Some q) (found : ℕ) where
  abbrev GoesOn : PartState → Type 0
  GoesOn p' = IsIn p' q.descriptor

  on : (p' : PartState) (q' : RunState) → p'.run ≡ Some q' → q'.descriptor ≡ q.descriptor → GoesOn p'
  on p' q' is same = record { run = q'; runs = is; of_section = same }

  either : (b : Bool) (y z : PartState) → GoesOn y → GoesOn z → GoesOn (if b then y else z)
  either true y z one two = one
  either false y z one two = two

  fill_on : (slot : ℕ) (made : Option ℕ) → GoesOn (inside.fill_loaded m l slot p q made found)
  fill_on slot None = on _ _ refl refl
  fill_on slot (Some t) = on _ _ refl refl

  make_on : (made : Option ℕ) → GoesOn (inside.make_committed m l p q made found)
  make_on None = on p q runs refl
  make_on (Some t) = on _ _ refl refl

  abbrev pub is_release : EventKind → Bool
  is_release kinds.Release = true
  is_release _ = false

  line_on : (kind : EventKind) → is_release kind ≡ false → (micro : Micro) → GoesOn (line_after m l kind p q micro found)
  line_on kinds.Commit is micro = on _ _ refl refl
  line_on (kinds.LoadCell place) is micro = on _ _ refl refl
  line_on kinds.ExchangeCell is micro = on _ _ refl refl
  line_on (kinds.PrivateLoad slot word) is micro = fill_on slot q.made
  line_on (kinds.PrivateStore slot word number) is micro = by (needs_link q micro)
    where
      by : (b : Bool) → GoesOn (inside.with_run p (if b then inside.block_emptied (slot - blocks_from m l) q else inside.filled m l number q))
      by true = on _ _ refl refl
      by false = on _ _ refl refl
  line_on (kinds.LinkCommit b) is micro = on _ _ refl refl
  line_on kinds.MakeCommit is micro = make_on q.made
  line_on kinds.RetireCommit is micro = on _ _ refl refl
  line_on kinds.EpochForRetire is micro = on _ _ refl refl
  line_on kinds.SetDone is micro = on _ _ refl refl
  line_on kinds.Release is micro = absurd (let z = is in cc)
  line_on kinds.ClockLoad is micro = on _ _ refl refl
  line_on kinds.StampExchange is micro = either (nat_lt q.word last_clock) _ _ (on _ _ refl refl) (on p q runs refl)
  line_on kinds.ClockRaise is micro = on _ _ refl refl
  line_on kinds.ReplyExchange is micro = on _ _ refl refl
  line_on kinds.NestedLoad is micro = on _ _ refl refl
  line_on kinds.NestedHold is micro = on _ _ refl refl
  line_on kinds.OutcomeLoad is micro = on _ _ refl refl
  line_on kinds.OutcomeCommit is micro = on _ _ refl refl
  line_on _ is micro = on p q runs refl

  abbrev pub Behind : PartState → Type 0
  Behind p' = GoesOn p' ⊎ IsOver m l p q p'

  released : (place : ℕ) → is_open_run q ≡ true → Behind (inside.lock_released m l place p q found)
  released place opened = by (is_end (next_of m (ended_more q))) (record p { reads = cell_read p.reads place found }) refl
    where
      by : (b : Bool) (y : PartState) → y.records ≡ p.records → Behind (if b then inside.run_over m l y (ended_more q) else inside.with_run y (ended_more q))
      by true y same = inr (record { opened = opened; resting = refl; kept = ap (λ (z : RecordsState). z.finished ++ finished_of m l (ended_more q) ∷ []) same })
      by false y same = inl (on _ _ refl refl)

  line_behind : is_open_run q ≡ true → (kind : EventKind) (micro : Micro) → Behind (line_after m l kind p q micro found)
  line_behind opened kinds.Release micro = released (inside.place_of micro) opened
  line_behind opened kind micro = inl (line_on kind refl micro)

  pub inside_behind : (kind : EventKind) → Behind (inside_after m l kind p q found)
  inside_behind kind = by (is_open_run q) refl
    where
      by : (b : Bool) → is_open_run q ≡ b → Behind (if b then line_after m l kind p q (next_of m q) found else inside.opened_more p q found)
      by true opened = line_behind opened kind (next_of m q)
      by false opened = inl (on _ _ refl refl)
