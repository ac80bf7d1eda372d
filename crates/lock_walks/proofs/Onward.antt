-- A walk goes on from wherever it has come.
use Rattle.std.proofs.Common.{◌≡◌, ℕ, ◌+◌, ◌^◌, ◌<◌, Bool, true, false, refl, sym, subst, arith, length, Option, Some, None}
use Rattle.std.specs.Prelude.{is_some, is_none}
use Rattle.machine_states.specs.epoch_core.specs.small_lemmas.proofs.Bools.{from_false as false_true}
use Rattle.machine_states.specs.table_words.specs.declared.layout.Layout.{Layout}
use Rattle.machine_states.specs.table_words.specs.declared.spot.Spot.TheVariants as spots
use Rattle.machine_states.specs.table_words.specs.declared.access.Access.TheVariants.{Loads}
use Rattle.machine_states.specs.table_words.specs.Limits.{IsWithinLimits}
use Rattle.try_lock.specs.section_runs.specs.runner_gate.specs.Asks.{Asks}
use Rattle.machine_states.specs.structure_laws.specs.Meaning.{Meaning}
use Rattle.machine_states.specs.structure_laws.specs.Laws.{Laws}
use Rattle.machine_states.specs.structure_laws.specs.Sections.{IsAllowed}
use Rattle.runner_facts.specs.machine_facts.specs.machine_invariant.specs.After.{AreAllowed}
use Rattle.try_lock.specs.commit_log.specs.version_words.specs.RunnerState.{RunnerState}
use Rattle.try_lock.specs.commit_log.specs.version_words.specs.TableState.{TableState, IsOf}
use Rattle.try_lock.specs.commit_log.specs.version_words.specs.Events.{met_by, Makes}
use Rattle.try_lock.specs.commit_log.specs.version_words.specs.Naming.{load_of}
use Rattle.try_lock.specs.commit_log.specs.Asked.{IsAsked}
use Rattle.try_lock.specs.Plans.{MayPlan}
use Rattle.lock_walks.specs.Way.{Way, Leads}
use Rattle.lock_walks.specs.Led.{HasLed, Start, IsOnWay, GoesOn}
use Rattle.lock_walks.proofs.Leading.{WalksStandIn, few_places, few_loads, wants_none, along_begins, is_low, may_load_next, along_more, led_cut, led_whole}

module _ {W T : Type 0} (m : Meaning) (way : Way W) (facts : WalksStandIn m) (t : TableState T) (limits : IsWithinLimits t.layout) (allowed : AreAllowed t.requests) where
  pub way_begins : (walk : W) (place word : ℕ) (runner : RunnerState T) (halts : ℕ) (asks : Asks) (steps : ℕ) → IsAllowed (way.op walk) → Leads way m t.layout walk → MayPlan runner
      → IsOnWay m t.layout way (record { walk = walk; runner = runner; halts = halts; asks = asks; steps = steps }) walk place word runner halts asks steps
  way_begins walk place word runner halts asks steps within leads may = record {
    allowed = within;
    leads = leads;
    entered = may;
    made = 0;
    along = along_begins m way facts t limits allowed walk within leads runner may halts asks steps place word;
  }

  module _ (walk : W) (place word : ℕ) (runner : RunnerState T) (own : IsOf t runner) (halts : ℕ) (asks : Asks) (steps : ℕ) where
    module _ (start : Start W T) (so : IsOnWay m t.layout way start walk place word runner halts asks steps) where
      pub few_left : Laws m → way.left walk < 2 ^ 64
      few_left laws = let few = few_loads m laws t.layout limits (way.left start.walk) so.leads.few in let left = so.along.left in omega (arith, few, left)

      pub whole_way : way.wants walk ≡ None
          → HasLed m t.layout way start.walk walk place word true start.runner runner start.halts halts start.asks asks start.steps steps
      whole_way ends = led_whole m way facts t limits allowed start.walk so.allowed so.leads start.runner so.entered start.halts start.asks start.steps
          so.made walk place word runner halts asks steps so.along ends

      pub none_left : way.left walk ≡ 0 → way.wants walk ≡ None
      none_left none = wants_none m way walk (λ place word wants. so.leads.shorter walk place word wants) none

      module _ (next : ℕ) (wants : way.wants walk ≡ Some next) where
        pub next_is_low : Laws m → next < 2 ^ 32
        next_is_low laws = few_places m laws t.layout limits next
            (is_low m way facts t limits allowed start.walk so.allowed so.leads start.runner so.entered start.halts start.asks start.steps
            so.made walk place word runner own halts asks steps so.along next wants)

        pub next_may_be_loaded : met_by m runner (load_of runner.part.run next) ≡ Some (spots.Cell next, Loads)
        next_may_be_loaded = may_load_next m way facts t limits allowed start.walk so.allowed so.leads start.runner so.entered start.halts start.asks start.steps
            so.made walk place word runner own halts asks steps so.along next wants

        pub is_nearer : (found : ℕ) → way.left (way.fed walk found) < way.left walk
        is_nearer found = so.leads.shorter walk next found wants

    -- a load, behind which the gate was asked
    pub goes_by : (next : ℕ) → way.wants walk ≡ Some next → (found : ℕ) (runner' : RunnerState T) → Makes m (load_of runner.part.run next) found runner runner'
        → (going : Bool) (halts' : ℕ) (asks' : Asks) (steps' : ℕ) → IsAsked 1 going halts halts' asks asks' steps steps'
        → GoesOn m t.layout way walk (way.fed walk found) place word next found going runner runner' halts halts' asks asks' steps steps'
    goes_by next wants found runner' loaded true halts' asks' steps' asked = record {
      on = λ start so e. record {
        allowed = so.allowed;
        leads = so.leads;
        entered = so.entered;
        made = so.made + 1;
        along = along_more m way facts t limits allowed start.walk so.allowed so.leads start.runner so.entered start.halts start.asks start.steps
            so.made walk place word runner own halts asks steps so.along next wants found runner' loaded halts' asks' steps' asked (so.leads.shorter walk next found wants);
      };
      cut = λ start so e. false_true (sym e);
    }
    goes_by next wants found runner' loaded false halts' asks' steps' asked = record {
      on = λ start so e. false_true e;
      cut = λ start so e. led_cut m way facts t limits allowed start.walk so.allowed so.leads start.runner so.entered start.halts start.asks start.steps
          so.made walk place word runner own halts asks steps so.along next wants found runner' loaded halts' asks' steps' asked (so.leads.shorter walk next found wants);
    }

    pub went_by : (walk' : W) (next : ℕ) → way.wants walk ≡ Some next → (found : ℕ) → walk' ≡ way.fed walk found → (runner' : RunnerState T) → Makes m (load_of runner.part.run next) found runner runner'
        → (going : Bool) (halts' : ℕ) (asks' : Asks) (steps' : ℕ) → IsAsked 1 going halts halts' asks asks' steps steps'
        → GoesOn m t.layout way walk walk' place word next found going runner runner' halts halts' asks asks' steps steps'
    went_by walk' next wants found fed runner' loaded going halts' asks' steps' asked =
        subst (λ w. GoesOn m t.layout way walk w place word next found going runner runner' halts halts' asks asks' steps steps') (sym fed)
        (goes_by next wants found runner' loaded going halts' asks' steps' asked)

pub some_of : {A : Type 0} (o : Option A) → is_none o ≡ false → is_some o ≡ true
some_of None e = cc
some_of (Some x) e = refl

pub none_of : {A : Type 0} (o : Option A) → is_none o ≡ true → o ≡ None
none_of None e = refl
none_of (Some x) e = absurd (cc)

module _ {W T : Type 0} (m : Meaning) (layout : Layout) (way : Way W) where
  pub stays : (walk : W) (place word : ℕ) (runner : RunnerState T) (halts : ℕ) (asks : Asks) (steps : ℕ)
      → GoesOn m layout way walk walk place word place word true runner runner halts halts asks asks steps steps
  stays walk place word runner halts asks steps = record { on = λ start so e. so; cut = λ start so e. false_true (sym e) }

  pub goes_then : {walk walk' walk'' : W} {place word place' word' place'' word'' : ℕ} {going : Bool} {runner runner' runner'' : RunnerState T}
      {halts halts' halts'' : ℕ} {asks asks' asks'' : Asks} {steps steps' steps'' : ℕ}
      → GoesOn m layout way walk walk' place word place' word' true runner runner' halts halts' asks asks' steps steps'
      → GoesOn m layout way walk' walk'' place' word' place'' word'' going runner' runner'' halts' halts'' asks' asks'' steps' steps''
      → GoesOn m layout way walk walk'' place word place'' word'' going runner runner'' halts halts'' asks asks'' steps steps''
  goes_then first second = record {
    on = λ start so e. second.on start (first.on start so refl) e;
    cut = λ start so e. second.cut start (first.on start so refl) e;
  }

module _ {W T : Type 0} {m : Meaning} {layout : Layout} {way : Way W} {walk walk' : W} {place word place' word' : ℕ} {going : Bool} {runner runner' : RunnerState T} {halts halts' : ℕ} {asks asks' : Asks} {steps steps' : ℕ}
    (goes : GoesOn m layout way walk walk' place word place' word' going runner runner' halts halts' asks asks' steps steps') where
  pub cut_short : going ≡ false → GoesOn m layout way walk walk' place word place' word' false runner runner' halts halts' asks asks' steps steps'
  cut_short e = subst (λ b. GoesOn m layout way walk walk' place word place' word' b runner runner' halts halts' asks asks' steps steps') e goes

  pub gone_on : going ≡ true → GoesOn m layout way walk walk' place word place' word' true runner runner' halts halts' asks asks' steps steps'
  gone_on e = subst (λ b. GoesOn m layout way walk walk' place word place' word' b runner runner' halts halts' asks asks' steps steps') e goes

-- a walk whose gate was told in the end
pub told_of : {W T : Type 0} {m : Meaning} {layout : Layout} {way : Way W} {walk walk' : W} {place word : ℕ} {going : Bool} {old new : RunnerState T} {halts halts' : ℕ} {asks asks' : Asks} {steps steps' : ℕ}
    (halts2 halts2' : ℕ) (asks2 asks2' : Asks) (steps2 steps2' : ℕ) → HasLed m layout way walk walk' place word going old new halts halts' asks asks' steps steps'
    → ((n : ℕ) → IsAsked n going halts halts' asks asks' steps steps' → IsAsked n going halts2 halts2' asks2 asks2' steps2 steps2')
    → HasLed m layout way walk walk' place word going old new halts2 halts2' asks2 asks2' steps2 steps2'
told_of halts2 halts2' asks2 asks2' steps2 steps2' led told = record {
  readings = led.readings;
  led = led.led;
  walks = led.walks;
  behind = led.behind;
  walked = led.walked;
  few = led.few;
  last = led.last;
  ends = led.ends;
  reached = led.reached;
  asked = told (length led.readings) led.asked;
}
