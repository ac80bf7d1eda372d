-- What it says of a runner that a step of a read without a lock is enabled.
use Rattle.std.specs.Prelude.{◌==◌, true, not, nat_lt}
use Rattle.std.proofs.Common.{◌≡◌, ◌≢◌, ℕ, ◌<◌, List, length, refl, subst, arith, Option, Some, None}
use Rattle.std.proofs.lemmas.Bool.{and_parts}
use Rattle.section_lines.specs.small_lemmas.proofs.Numbers.{tested_less as lt_test, tested_equal as same_test}
use Rattle.machine_states.specs.map_history.specs.declared.op.Request.{Request}
use Rattle.machine_states.specs.body_terms.specs.declared.thunk.Thunk.{Thunk}
use Rattle.machine_states.specs.table_words.specs.declared.layout.Layout.{Layout}
use Rattle.machine_states.specs.table_words.specs.declared.spot.Spot.{Spot}
use Rattle.machine_states.specs.table_words.specs.declared.spot.Spot.TheVariants.{Clock, Announcement, Stamp, Reply}
use Rattle.machine_states.specs.table_words.specs.declared.access.Access.{Access}
use Rattle.machine_states.specs.table_words.specs.declared.access.Access.TheVariants.{Loads, Exchanges}
use Rattle.machine_states.specs.structure_laws.specs.Meaning.{Meaning}
use Rattle.machine_states.specs.epoch_core.specs.declared.stage.Stage.TheVariants.{Entered}
use Rattle.machine_states.specs.runner_parts.specs.declared.entries.Known.{Known}
use Rattle.machine_states.specs.runner_parts.specs.declared.entries.Look.{Look}
use Rattle.machine_states.specs.runner_parts.specs.State.{PartState}
use Rattle.machine_states.specs.runner_parts.specs.Tests.{is_walking, is_planned_stage, is_looked, is_replied}
use Rattle.machine_states.specs.runner_steps.specs.Sections.{reply_in}
use Rattle.machine_states.specs.runner_steps.specs.InRun.{last_clock}
use Rattle.machine_states.specs.runner_steps.specs.Reads.{is_fit, is_again, only_reads, has_come, read_plan_ask, read_clock_ask, read_reply_ask, read_stamp_ask, read_stamp_after}
use Rattle.machine_states.proofs.Sights.{if_some, some_none}
use Rattle.machine_epochs.proofs.OutsideAsked.{walking, no_option}

-- what the announcement of a read needs
pub record PlanAsked (r : ℕ) (p : PartState) (x : Spot × Access) : Type 0 where
  pub entry : ℕ
  pub entered : p.stage ≡ Entered entry
  pub none : p.run ≡ None
  pub loads : p.records.only_loads ≡ true
  pub unlooked : p.reads.look ≡ None
  pub is : (Announcement r, Exchanges 0 0) ≡ x

pub read_plan_asked : (r : ℕ) (t : Thunk) (p : PartState) (x : Spot × Access) → read_plan_ask r t p ≡ Some x → PlanAsked r p x
read_plan_asked r t p x e =
    let h = if_some _ _ x e in
    let b = and_parts _ _ h.0 in
    let w = walking p.stage p.run b.0 in
    let loads = and_parts _ _ b.1 in
    record {
      entry = w.0;
      entered = w.1;
      none = w.2;
      loads = loads.0;
      unlooked = no_option p.reads.look (and_parts _ _ loads.1).0;
      is = h.1;
    }

-- what the load of the clock for a read needs
pub record ClockAsked (p : PartState) (x : Spot × Access) : Type 0 where
  pub look : Look
  pub at : p.reads.look ≡ Some look
  pub entry : ℕ
  pub entered : p.stage ≡ Entered entry
  pub none : p.run ≡ None
  pub loads : p.records.only_loads ≡ true
  pub planned : is_planned_stage look.stage ≡ true
  pub is : (Clock, Loads) ≡ x

pub read_clock_asked : (p : PartState) (x : Spot × Access) → read_clock_ask p p.reads.look ≡ Some x → ClockAsked p x
read_clock_asked p x e = by p.reads.look refl e
  where
    by : (o : Option Look) → p.reads.look ≡ o → read_clock_ask p o ≡ Some x → ClockAsked p x
    by None at e = some_none x e
    by (Some look) at e =
        let h = if_some _ _ x e in
        let b = and_parts _ _ h.0 in
        let w = walking p.stage p.run b.0 in
        let stage = and_parts _ _ b.1 in
        record { look = look; at = at; entry = w.0; entered = w.1; none = w.2; loads = stage.0; planned = stage.1; is = h.1 }

-- what the exchange of the reply needs
pub record ReplyAsked (m : Meaning) (l : Layout) (rs : List Request) (r : ℕ) (p : PartState) (x : Spot × Access) : Type 0 where
  pub look : Look
  pub at : p.reads.look ≡ Some look
  pub entry : ℕ
  pub entered : p.stage ≡ Entered entry
  pub none : p.run ≡ None
  pub loads : p.records.only_loads ≡ true
  pub unpublished : p.published ≡ None
  pub looked : is_looked look.stage ≡ true
  pub clock : look.clock < last_clock
  pub knows : length p.records.known ≡ look.known
  pub again : is_again look p.reads.walk ≡ true
  pub fit : is_fit m l rs r look p.records.known p.reads.walk ≡ true
  pub is : (Reply look.thunk.request, Exchanges 0 (reply_in (m.body look.thunk))) ≡ x

pub read_reply_asked : (m : Meaning) (l : Layout) (rs : List Request) (r : ℕ) (p : PartState) (x : Spot × Access)
    → read_reply_ask m l rs r p p.reads.look ≡ Some x → ReplyAsked m l rs r p x
read_reply_asked m l rs r p x e = by p.reads.look refl e
  where
    by : (o : Option Look) → p.reads.look ≡ o → read_reply_ask m l rs r p o ≡ Some x → ReplyAsked m l rs r p x
    by None at e = some_none x e
    by (Some look) at e =
        let h = if_some _ _ x e in
        let both = and_parts (only_reads p) _ h.0 in
        let b = and_parts (is_walking p.stage p.run) _ both.0 in
        let w = walking p.stage p.run b.0 in
        let loads = and_parts p.records.only_loads _ b.1 in
        let come = and_parts (has_come p look) _ both.1 in
        let stage = and_parts (is_looked look.stage) _ come.0 in
        let clock = and_parts (nat_lt look.clock last_clock) _ stage.1 in
        let knows = and_parts (length p.records.known == look.known) _ clock.1 in
        record {
          look = look;
          at = at;
          entry = w.0;
          entered = w.1;
          none = w.2;
          loads = loads.0;
          unpublished = no_option p.published loads.1;
          looked = stage.0;
          clock = lt_test _ _ clock.0;
          knows = same_test _ _ knows.0;
          again = knows.1;
          fit = come.1;
          is = h.1;
        }

-- what the exchange of the stamp needs
pub record StampAsked (p : PartState) (x : Spot × Access) : Type 0 where
  pub look : Look
  pub at : p.reads.look ≡ Some look
  pub entry : ℕ
  pub entered : p.stage ≡ Entered entry
  pub none : p.run ≡ None
  pub replied : is_replied look.stage ≡ true
  pub clock : nat_lt look.clock last_clock ≡ true
  pub is : (Stamp look.thunk.request, Exchanges 0 (read_stamp_after look.clock)) ≡ x

pub read_stamp_asked : (p : PartState) (x : Spot × Access) → read_stamp_ask p p.reads.look ≡ Some x → StampAsked p x
read_stamp_asked p x e = by p.reads.look refl e
  where
    by : (o : Option Look) → p.reads.look ≡ o → read_stamp_ask p o ≡ Some x → StampAsked p x
    by None at e = some_none x e
    by (Some look) at e =
        let h = if_some _ _ x e in
        let b = and_parts _ _ h.0 in
        let w = walking p.stage p.run b.0 in
        let stage = and_parts _ _ b.1 in
        record { look = look; at = at; entry = w.0; entered = w.1; none = w.2; replied = stage.0; clock = stage.1; is = h.1 }

not_none : (n : ℕ) → not (n == 0) ≡ true → n ≢ 0
not_none n e is = absurd (let z : not (0 == 0) ≡ true = subst (λ (k : ℕ). not (k == 0) ≡ true) is e in cc)

-- the body of a read answers
pub fit_answers : (m : Meaning) (l : Layout) (rs : List Request) (r : ℕ) (look : Look) (known : List Known) (walk : List (ℕ × ℕ))
    → is_fit m l rs r look known walk ≡ true → reply_in (m.body look.thunk) ≢ 0
fit_answers m l rs r look known walk e = not_none _ (and_parts _ _ (and_parts _ _ e).0).1

pub stamp_some : (clock : ℕ) → read_stamp_after clock ≢ 0
stamp_some clock e = absurd (omega (arith, e))
