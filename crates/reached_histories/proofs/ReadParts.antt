-- The runner's part behind a step of a read without a lock.
use Rattle.std.specs.Prelude.{◌==◌, Bool, true, false, nat_lt, if◌then◌else◌}
use Rattle.std.proofs.Common.{◌≡◌, ◌≢◌, ℕ, List, refl, sym, ap, ◌∙◌, subst, arith, Option, Some, None}
use Rattle.machine_states.specs.map_history.specs.declared.op.Request.{Request}
use Rattle.machine_states.specs.body_terms.specs.Run.{written_once}
use Rattle.machine_states.specs.body_terms.specs.declared.thunk.Thunk.{Thunk}
use Rattle.machine_states.specs.table_words.specs.declared.layout.Layout.{Layout}
use Rattle.machine_states.specs.structure_laws.specs.Meaning.{Meaning}
use Rattle.machine_states.specs.runner_parts.specs.declared.entries.Known.{Known}
use Rattle.machine_states.specs.runner_parts.specs.declared.entries.Look.{Look}
use Rattle.machine_states.specs.runner_parts.specs.declared.entries.LookStage.TheVariants.{Replied, Stamped}
use Rattle.machine_states.specs.runner_parts.specs.declared.event.EventKind.{EventKind}
use Rattle.machine_states.specs.runner_parts.specs.declared.event.EventKind.TheVariants as kinds
use Rattle.machine_states.specs.runner_parts.specs.State.{RunState, PartState}
use Rattle.machine_states.specs.runner_parts.specs.Lists.{learned}
use Rattle.machine_states.specs.runner_parts.specs.Tests.{knows}
use Rattle.machine_states.specs.runner_steps.specs.Sections.{reply_in}
use Rattle.machine_states.specs.runner_steps.specs.InRun.{last_clock}
use Rattle.machine_states.specs.runner_steps.specs.Reads.{read_stamp_after, plan_by, look_by, looked_by, come_to, reply_known, stamp_known}
use Rattle.machine_states.specs.runner_steps.specs.After.{outside_after, after_by, after}
use Rattle.machine_states.specs.World.{is_join}
use Rattle.machine_states.specs.Sight.{Sight, Steps, parts_after}
use Rattle.machine_states.proofs.Updates.{upd_here}
use Rattle.machine_facts.proofs.Telling.{learned_known}

-- what stands in a word once something was written there isn't 0
pub some_written : (found n : ℕ) → n ≢ 0 → written_once found n ≢ 0
some_written found n some = by found
  where
    by : (k : ℕ) → written_once k n ≢ 0
    by k none = absurd (either (k == 0) refl none)
      where
        either : (b : Bool) → (k == 0) ≡ b → (if b then n else k) ≡ 0 → ⊥
        either true is e = some e
        either false is e = absurd (let z : true ≡ false = sym (ap (λ a. a == 0) e) ∙ is in cc)

module _ (m : Meaning) (l : Layout) (rs : List Request) (s s' : Sight) (r : ℕ) (kind : EventKind) (step : Steps m l rs s s' r kind)
    (none : (s.part r).run ≡ None) (alone : is_join kind ≡ false) where
  abbrev p : PartState
  p = s.part r

  abbrev found : ℕ
  found = s.word step.ask.0

  own_of : (kind' : EventKind) → is_join kind' ≡ false → (p' : PartState) → parts_after kind' s.part r p' r ≡ p'
  own_of (kinds.Join worker) alone p' = absurd (let z = alone in cc)
  own_of _ alone p' = upd_here s.part r p'

  part_is : s'.part r ≡ after m l r kind step.ask.0 step.ask.1 p found
  part_is = ap (λ (t : Sight). t.part r) step.next ∙ own_of kind alone (after m l r kind step.ask.0 step.ask.1 p found)

  -- what a step outside a run leaves of the reads, of what is known, and of the published section
  pub record LeavesSo (y : PartState) : Type 0 where
    pub reads : (s'.part r).reads ≡ y.reads
    pub known : (s'.part r).records.known ≡ y.records.known
    pub published : (s'.part r).published ≡ y.published

  pub leaves_so : LeavesSo (outside_after m l kind p found)
  leaves_so = subst (λ (o : Option RunState). LeavesSo (after_by m l kind p o found)) none (record {
    reads = ap (λ (y : PartState). y.reads) part_is;
    known = ap (λ (y : PartState). y.records.known) part_is;
    published = ap (λ (y : PartState). y.published) part_is;
  })

module _ (m : Meaning) (l : Layout) (rs : List Request) (s s' : Sight) (r : ℕ) where
  abbrev q : PartState
  q = s.part r

  -- the part behind the announcement of a read, behind the load of its clock, and behind its two words
  pub record ReadsOn (look : Option Look) : Type 0 where
    pub look_is : (s'.part r).reads.look ≡ look
    pub walk : (s'.part r).reads.walk ≡ q.reads.walk
    pub published : (s'.part r).published ≡ q.published

  pub planned_on : (t : Thunk) (step : Steps m l rs s s' r (kinds.ReadPlan t)) → q.run ≡ None
      → ReadsOn (Some (plan_by t)) × ((s'.part r).records.known ≡ q.records.known)
  planned_on t step none = let h = leaves_so m l rs s s' r (kinds.ReadPlan t) step none refl in
      (record { look_is = ap (λ y. y.look) h.reads; walk = ap (λ y. y.walk) h.reads; published = h.published }, h.known)

  pub looked_on : (step : Steps m l rs s s' r kinds.ReadClock) → q.run ≡ None → (x : Look) → q.reads.look ≡ Some x
      → ReadsOn (Some (look_by x.thunk q (s.word step.ask.0))) × ((s'.part r).records.known ≡ q.records.known)
  looked_on step none x at = let h = leaves_so m l rs s s' r kinds.ReadClock step none refl in (
    record { look_is = ap (λ y. y.look) h.reads ∙ ap (looked_by q (s.word step.ask.0)) at; walk = ap (λ y. y.walk) h.reads; published = h.published },
    h.known,
  )

  pub replied_on : (step : Steps m l rs s s' r kinds.ReadReply) → q.run ≡ None → (x : Look) → q.reads.look ≡ Some x → reply_in (m.body x.thunk) ≢ 0
      → ReadsOn (Some (record x { stage = Replied })) × (knows (s'.part r).records.known x.thunk.request true ≡ true)
  replied_on step none x at some = let h = leaves_so m l rs s s' r kinds.ReadReply step none refl in (
    record { look_is = ap (λ y. y.look) h.reads ∙ ap (come_to Replied) at; walk = ap (λ y. y.walk) h.reads; published = h.published },
    ap (λ (xs : List Known). knows xs x.thunk.request true) (h.known ∙ ap (λ o. reply_known m o (s.word step.ask.0) q.records) at)
        ∙ learned_known q.records x.thunk.request true (written_once (s.word step.ask.0) (reply_in (m.body x.thunk)))
        (some_written (s.word step.ask.0) (reply_in (m.body x.thunk)) some),
  )

  pub stamped_on : (step : Steps m l rs s s' r kinds.ReadStamp) → q.run ≡ None → (x : Look) → q.reads.look ≡ Some x → nat_lt x.clock last_clock ≡ true
      → ReadsOn (Some (record x { stage = Stamped })) × (knows (s'.part r).records.known x.thunk.request false ≡ true)
  stamped_on step none x at low = let h = leaves_so m l rs s s' r kinds.ReadStamp step none refl in (
    record { look_is = ap (λ y. y.look) h.reads ∙ ap (come_to Stamped) at; walk = ap (λ y. y.walk) h.reads; published = h.published },
    ap (λ (xs : List Known). knows xs x.thunk.request false) (h.known ∙ (ap (λ o. stamp_known o (s.word step.ask.0) q.records) at
        ∙ ap (λ (b : Bool). if b then (learned q.records x.thunk.request false (written_once (s.word step.ask.0) (read_stamp_after x.clock))).known else q.records.known) low))
        ∙ learned_known q.records x.thunk.request false (written_once (s.word step.ask.0) (read_stamp_after x.clock))
        (some_written (s.word step.ask.0) (read_stamp_after x.clock) (odd x.clock)),
  )
    where
      odd : (n : ℕ) → read_stamp_after n ≢ 0
      odd n e = absurd (omega (arith, e))
