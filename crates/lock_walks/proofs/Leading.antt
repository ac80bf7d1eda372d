-- A walker leads a runner.
use Rattle.std.proofs.Common.{◌≡◌, ℕ, ◌+◌, ◌*◌, ◌^◌, ◌<◌, ◌≤◌, ◌⊎◌, inl, inr, List, [], ◌∷◌, ◌++◌, length, length-append, true, false, refl, sym, ap, subst, ◌∙◌, arith, Option, Some, None}
use Rattle.std.specs.Prelude.{is_some}
use mathlib.Core.Logic.{dite}
use native.Mathlib.Decide.{ℕ_discrete}
use Rattle.machine_states.specs.map_history.specs.declared.op.Op.{Op}
use Rattle.machine_states.specs.map_history.specs.declared.op.Request.{Request}
use Rattle.machine_states.specs.table_words.specs.declared.layout.Layout.{Layout}
use Rattle.machine_states.specs.table_words.specs.declared.spot.Spot.TheVariants as spots
use Rattle.machine_states.specs.table_words.specs.declared.access.Access.TheVariants.{Loads}
use Rattle.machine_states.specs.table_words.specs.Limits.{IsWithinLimits}
use Rattle.try_lock.specs.section_runs.specs.runner_gate.specs.Asks.{Asks}
use Rattle.machine_states.specs.structure_laws.specs.Scene.{Readings}
use Rattle.machine_states.specs.structure_laws.specs.Meaning.{Meaning}
use Rattle.machine_states.specs.structure_laws.specs.Laws.{Laws}
use Rattle.machine_states.specs.structure_laws.specs.Cells.{slots}
use Rattle.machine_states.specs.structure_laws.specs.Sections.{IsAllowed}
use Rattle.machine_states.specs.runner_parts.specs.declared.entries.Published.{Published}
use Rattle.machine_states.specs.epoch_core.specs.declared.stage.Stage.TheVariants as stages
use Rattle.machine_states.specs.runner_parts.specs.State.{PartState, ReadsState}
use Rattle.machine_states.specs.runner_parts.specs.Tests.{is_readable}
use Rattle.machine_states.specs.World.{World}
use Rattle.machine_states.specs.Reached.{Reached}
use Rattle.machine_states.specs.Sight.{sight, part_or_first}
use Rattle.runner_facts.specs.machine_facts.specs.machine_invariant.specs.After.{AreAllowed}
use Rattle.runner_facts.specs.Facts.{WalksStand}
use Rattle.try_lock.specs.commit_log.specs.version_words.specs.RunnerState.{RunnerState}
use Rattle.try_lock.specs.commit_log.specs.version_words.specs.TableState.{TableState, IsOf}
use Rattle.try_lock.specs.commit_log.specs.version_words.specs.Events.{met_by, Makes}
use Rattle.try_lock.specs.commit_log.specs.version_words.specs.Naming.{load_of}
use Rattle.try_lock.specs.commit_log.specs.version_words.specs.Stages.{IsAt}
use Rattle.try_lock.specs.commit_log.specs.Asked.{IsAsked}
use Rattle.try_lock.specs.commit_log.proofs.Asked.{asked_none, asked_more}
use Rattle.try_lock.specs.Reached.{IsReached}
use Rattle.try_lock.specs.Plans.{MayPlan, IsWalk, NoneRefuses, HasWalked, refused_at}
use Rattle.lock_walks.specs.Way.{Way, fed_all, IsLedBy, Leads}
use Rattle.lock_walks.specs.Led.{IsLast, IsAlong, HasLed}
use Rattle.lock_walks.proofs.Each.{each_more, each_none}
use Rattle.lock_walks.proofs.Walking.{may_load, walked_none, walked_more}

-- the place of a cell has 32 bits
pub few_places : (m : Meaning) → Laws m → (layout : Layout) → IsWithinLimits layout → (place : ℕ) → place < m.fixed_cells + 5 * slots m layout → place < 2 ^ 32
few_places m laws layout limits place low =
    let cells = laws.first.few_cells in let fixed = laws.first.few_slots in let nodes = limits.few_nodes in let runners = limits.few_runners in omega (arith, cells, fixed, nodes, runners, low)

-- so are the loads of a plan
pub few_loads : (m : Meaning) → Laws m → (layout : Layout) → IsWithinLimits layout → (loads : ℕ) → loads ≤ 6 * slots m layout + 44 → loads < 2 ^ 64
few_loads m laws layout limits loads low =
    let fixed = laws.first.few_slots in let nodes = limits.few_nodes in let runners = limits.few_runners in omega (arith, fixed, nodes, runners, low)

some_none : {A B : Type 0} (a : A) → Some a ≡ None → B
some_none a e = cc

no_length : {A : Type 0} (xs : List A) → length xs ≡ 0 → xs ≡ []
no_length [] e = refl
no_length (x ∷ xs) e = absurd (omega (arith, e))

-- what isn't there doesn't refuse
none_of : {A : Type 0} (o : Option A) → is_some o ≡ false → o ≡ None
none_of None e = refl
none_of (Some x) e = absurd (cc)

-- what is known of the readings in each reached state
abbrev pub WalksStandIn : Meaning → Type 0
WalksStandIn m = (l : Layout) (requests : List Request) (w : World) → IsWithinLimits l → AreAllowed requests → Reached m l requests w → WalksStand m l (sight m l requests w)

-- the part that a reached state shows is the runner's
stands : {T : Type 0} (m : Meaning) → WalksStandIn m → (r : RunnerState T) → IsWithinLimits r.layout → AreAllowed r.requests → IsReached m r
    → (epoch : ℕ) (section : Option Published) → IsAt r (stages.Entered epoch) section → (op : Op) → IsAllowed op → m.walked r.layout op r.part.reads.walk
stands m facts r limits allowed reached epoch section is op within =
    let shown = ap part_or_first reached.own in
    let there = facts r.layout r.requests reached.world limits allowed reached.reached r.number epoch op (ap (λ (p : PartState). p.stage) shown ∙ is.at) within in
    subst (λ (p : PartState). m.walked r.layout op p.reads.walk) shown there

module _ {W : Type 0} (m : Meaning) (way : Way W) where
  pub fed_more : (walk : W) (readings : Readings) (place word : ℕ) → fed_all way walk (readings ++ (place, word) ∷ []) ≡ way.fed (fed_all way walk readings) word
  fed_more walk [] place word = refl
  fed_more walk (x ∷ readings) place word = fed_more (way.fed walk x.1) readings place word

  -- where no load is left nothing is wanted
  pub wants_none : (walk : W) → ((place word : ℕ) → way.wants walk ≡ Some place → way.left (way.fed walk word) < way.left walk) → way.left walk ≡ 0 → way.wants walk ≡ None
  wants_none walk shorter none = by (way.wants walk) refl
    where
      by : (o : Option ℕ) → way.wants walk ≡ o → o ≡ None
      by None e = refl
      by (Some place) e = absurd (let less = shorter place 0 e in omega (arith, less, none))

  module _ (layout : Layout) (walk : W) (leads : Leads way m layout walk) where
    -- where the walker isn't refused behind the last reading, that one doesn't refuse either
    pub none_more : (readings : Readings) (place word : ℕ) → IsLast m layout way walk readings place word → way.refused (fed_all way walk readings) ≡ false
        → NoneRefuses m (way.planning walk) layout (way.op walk) readings
    none_more readings place word last goes =
        let before = last.before in
        subst (NoneRefuses m (way.planning walk) layout (way.op walk)) (sym last.last)
        (each_more (λ rs p w. refused_at m (way.planning walk) layout (way.op walk) rs p w ≡ None) before place word last.none
        (none_of _ (sym (leads.refuses before place word last.led last.wanted (subst (m.walked layout (way.op walk)) last.last last.stands))
        ∙ (ap way.refused (sym (fed_more walk before place word) ∙ ap (fed_all way walk) (sym last.last)) ∙ goes))))

    pub led_more : (readings : Readings) (place word : ℕ) → IsLedBy way walk readings → way.wants (fed_all way walk readings) ≡ Some place → IsLedBy way walk (readings ++ (place, word) ∷ [])
    led_more readings place word led wants = each_more (λ rs p w. way.wants (fed_all way walk rs) ≡ Some p) readings place word led wants

    pub walks_more : (readings : Readings) (place word : ℕ) → IsWalk m (way.planning walk) layout (way.op walk) readings → IsLedBy way walk readings → way.wants (fed_all way walk readings) ≡ Some place
        → IsWalk m (way.planning walk) layout (way.op walk) (readings ++ (place, word) ∷ [])
    walks_more readings place word walks led wants = each_more (λ rs p w. (way.planning walk).wants layout (way.op walk) rs ≡ Some p) readings place word walks (leads.wanted readings led ∙ wants)

    -- the first reading, and each further one
    pub last_more : (readings : Readings) (place word next found : ℕ) → (0 < length readings → IsLast m layout way walk readings place word) → IsLedBy way walk readings
        → way.wants (fed_all way walk readings) ≡ Some next → m.walked layout (way.op walk) (readings ++ (next, found) ∷ []) → IsLast m layout way walk (readings ++ (next, found) ∷ []) next found
    last_more readings place word next found last led goes known = record {
      before = readings;
      last = refl;
      led = led;
      wanted = goes;
      none = dite (ℕ_discrete (length readings) 0)
          (λ e. subst (NoneRefuses m (way.planning walk) layout (way.op walk)) (sym (no_length readings e)) (each_none (λ rs p w. refused_at m (way.planning walk) layout (way.op walk) rs p w ≡ None)))
          (λ ne. none_more readings place word (last (omega (arith, ne))) (leads.goes_on readings next led goes));
      stands = known;
    }

module _ {W T : Type 0} (m : Meaning) (way : Way W) where
  module _ (facts : WalksStandIn m) (t : TableState T) (limits : IsWithinLimits t.layout) (allowed : AreAllowed t.requests) (walk : W) (within : IsAllowed (way.op walk))
      (leads : Leads way m t.layout walk) (old : RunnerState T) (may : MayPlan old) (halts : ℕ) (asks : Asks) (steps : ℕ) where
    abbrev Along : ℕ → W → ℕ → ℕ → RunnerState T → ℕ → Asks → ℕ → Type 0
    Along made walk' place word r halts' asks' steps' = IsAlong m t.layout way made walk walk' place word old r halts halts' asks asks' steps steps'

    pub along_begins : (place word : ℕ) → Along 0 walk place word old halts asks steps
    along_begins place word = record {
      readings = [];
      each = refl;
      led = each_none (λ rs p w. way.wants (fed_all way walk rs) ≡ Some p);
      walks = each_none (λ rs p w. (way.planning walk).wants t.layout (way.op walk) rs ≡ Some p);
      behind = refl;
      walked = walked_none m old;
      left = omega arith;
      last = λ some. absurd (omega (arith, some));
      reached = λ some. absurd (omega (arith, some));
      asked = asked_none halts asks steps;
    }

    module _ (made : ℕ) (walk' : W) (place word : ℕ) (r : RunnerState T) (own : IsOf t r) (halts' : ℕ) (asks' : Asks) (steps' : ℕ) (so : Along made walk' place word r halts' asks' steps')
        (next : ℕ) (wants : way.wants walk' ≡ Some next) where
      here : way.wants (fed_all way walk so.readings) ≡ Some next
      here = ap way.wants (sym so.behind) ∙ wants

      entered : IsAt r (stages.Entered may.epoch) may.section
      entered = so.walked.at may.epoch may.section may.at

      has_read : r.part.reads.walk ≡ so.readings
      has_read = ap (λ (s : ReadsState). s.walk) so.walked.reads ∙ ap (λ rs. rs ++ so.readings) may.fresh

      known : (so.readings ≡ []) ⊎ m.walked t.layout (way.op walk) so.readings
      known = dite (ℕ_discrete made 0) (λ e. inl (no_length so.readings (so.each ∙ e)))
          (λ ne. inr (subst (λ l. m.walked l (way.op walk) so.readings) own.layout
          (subst (m.walked r.layout (way.op walk)) has_read
          (stands m facts r (subst IsWithinLimits (sym own.layout) limits) (subst AreAllowed (sym own.requests) allowed) (so.reached (omega (arith, ne))) may.epoch may.section entered (way.op walk) within))))

      pub is_low : next < m.fixed_cells + 5 * slots m t.layout
      is_low = (leads.readable so.readings next so.led here known).1

      pub may_load_next : met_by m r (load_of r.part.run next) ≡ Some (spots.Cell next, Loads)
      may_load_next = let readable = leads.readable so.readings next so.led here known in
          may_load m r may.epoch next may.section entered (ap (λ rs. is_readable m rs next) has_read ∙ readable.0)
          (subst (λ (l : Layout). next < m.fixed_cells + 5 * slots m l) (sym own.layout) readable.1)

      module _ (found : ℕ) (r' : RunnerState T) (made_it : Makes m (load_of r.part.run next) found r r') where
        then_walked : HasWalked m (so.readings ++ (next, found) ∷ []) old r'
        then_walked = walked_more m so.readings next found old r r' may.epoch may.section so.walked entered made_it

        -- what is known of the readings with this one, in the state that the machine then reaches
        then_known : m.walked t.layout (way.op walk) (so.readings ++ (next, found) ∷ [])
        then_known =
            let same_layout : r'.layout ≡ t.layout = ap (λ (y : RunnerState T). y.layout) made_it.made ∙ own.layout in
            let same_requests : r'.requests ≡ t.requests = ap (λ (y : RunnerState T). y.requests) made_it.made ∙ own.requests in
            let read : r'.part.reads.walk ≡ so.readings ++ (next, found) ∷ [] =
            ap (λ (s : ReadsState). s.walk) then_walked.reads ∙ ap (λ rs. rs ++ (so.readings ++ (next, found) ∷ [])) may.fresh in
            subst (λ l. m.walked l (way.op walk) (so.readings ++ (next, found) ∷ [])) same_layout
            (subst (m.walked r'.layout (way.op walk)) read
            (stands m facts r' (subst IsWithinLimits (sym same_layout) limits) (subst AreAllowed (sym same_requests) allowed)
            (record { world = made_it.shown.world; reached = made_it.shown.reached; own = made_it.shown.own }) may.epoch may.section (then_walked.at may.epoch may.section may.at) (way.op walk) within))

        pub along_more : (halts'' : ℕ) (asks'' : Asks) (steps'' : ℕ) → IsAsked 1 true halts' halts'' asks' asks'' steps' steps'' → way.left (way.fed walk' found) < way.left walk'
            → Along (made + 1) (way.fed walk' found) next found r' halts'' asks'' steps''
        along_more halts'' asks'' steps'' asked shorter = record {
          readings = so.readings ++ (next, found) ∷ [];
          each = length-append so.readings ((next, found) ∷ []) ∙ (let e = so.each in omega (arith, e));
          led = led_more m way t.layout walk leads so.readings next found so.led here;
          walks = walks_more m way t.layout walk leads so.readings next found so.walks so.led here;
          behind = ap (λ w. way.fed w found) so.behind ∙ sym (fed_more m way walk so.readings next found);
          walked = then_walked;
          left = let a = so.left in omega (arith, a, shorter);
          last = λ some. last_more m way t.layout walk leads so.readings place word next found (λ has. so.last (let e = so.each in omega (arith, e, has))) so.led here then_known;
          reached = λ some. record { world = made_it.shown.world; reached = made_it.shown.reached; own = made_it.shown.own };
          asked = asked_more made 1 true halts halts' halts'' asks asks' asks'' steps steps' steps'' so.asked asked;
        }

        -- the gate halted behind this one
        pub led_cut : (halts'' : ℕ) (asks'' : Asks) (steps'' : ℕ) → IsAsked 1 false halts' halts'' asks' asks'' steps' steps'' → way.left (way.fed walk' found) < way.left walk'
            → HasLed m t.layout way walk (way.fed walk' found) next found false old r' halts halts'' asks asks'' steps steps''
        led_cut halts'' asks'' steps'' asked shorter = record {
          readings = so.readings ++ (next, found) ∷ [];
          led = led_more m way t.layout walk leads so.readings next found so.led here;
          walks = walks_more m way t.layout walk leads so.readings next found so.walks so.led here;
          behind = ap (λ w. way.fed w found) so.behind ∙ sym (fed_more m way walk so.readings next found);
          walked = then_walked;
          few = let a = so.left in let e = so.each in let l = length-append so.readings ((next, found) ∷ []) in omega (arith, a, e, l, shorter);
          last = last_more m way t.layout walk leads so.readings place word next found (λ has. so.last (let e = so.each in omega (arith, e, has))) so.led here then_known;
          ends = λ e. absurd (cc);
          reached = record { world = made_it.shown.world; reached = made_it.shown.reached; own = made_it.shown.own };
          asked = subst (λ n. IsAsked n false halts halts'' asks asks'' steps steps'')
              (let e = so.each in let l = length-append so.readings ((next, found) ∷ []) in let same : made + 1 ≡ length (so.readings ++ (next, found) ∷ []) = omega (arith, e, l) in same)
              (asked_more made 1 false halts halts' halts'' asks asks' asks'' steps steps' steps'' so.asked asked);
        }

    -- the walker wants nothing more
    pub led_whole : (made : ℕ) (walk' : W) (place word : ℕ) (r : RunnerState T) (halts' : ℕ) (asks' : Asks) (steps' : ℕ) → Along made walk' place word r halts' asks' steps' → way.wants walk' ≡ None
        → HasLed m t.layout way walk walk' place word true old r halts halts' asks asks' steps steps'
    led_whole made walk' place word r halts' asks' steps' so ends = record {
      readings = so.readings;
      led = so.led;
      walks = so.walks;
      behind = so.behind;
      walked = so.walked;
      few = let a = so.left in let e = so.each in omega (arith, a, e);
      last = so.last some;
      ends = λ e. ends;
      reached = so.reached some;
      asked = subst (λ n. IsAsked n true halts halts' asks asks' steps steps') (sym so.each) so.asked;
    }
      where
        some : 0 < made
        some = dite (ℕ_discrete made 0) (λ e. some_none leads.begins.0
            (sym leads.begins.1 ∙ (ap way.wants (ap (fed_all way walk) (sym (no_length so.readings (so.each ∙ e))) ∙ sym so.behind) ∙ ends))) (λ ne. omega (arith, ne))
