-- All facts hold of each state that the machine passes, and of each of its steps.
use Rattle.std.proofs.Common.{◌≡◌, List, [], ◌∷◌, refl, sym, Option, Some, None, ℕ, ◌<◌, ◌≤◌, subst, ap, ◌∙◌, true}
use Rattle.std.specs.Prelude.{slice_get}
use Rattle.machine_states.specs.map_history.specs.declared.op.Request.{Request}
use Rattle.machine_states.specs.table_words.specs.declared.layout.Layout.{Layout}
use Rattle.machine_states.specs.table_words.specs.Limits.{IsWithinLimits}
use Rattle.machine_states.specs.structure_laws.specs.Meaning.{Meaning}
use Rattle.machine_states.specs.structure_laws.specs.Laws.{Laws}
use Rattle.machine_states.specs.runner_parts.specs.declared.event.Event.{Event}
use Rattle.agreement_core.specs.History as agreement_history
use Rattle.machine_states.specs.epoch_core.specs.declared.location.Location.TheVariants.{Fixed}
use Rattle.machine_states.specs.epoch_core.specs.History as epoch_history
use Rattle.machine_states.specs.epoch_core.specs.Freed.{SlotsMove}
use Rattle.machine_states.specs.World.{World, happens, then_run, run}
use Rattle.machine_states.specs.First.{IsFirst}
use Rattle.machine_states.specs.Schedules.{IsAfter}
use Rattle.machine_states.specs.Sight.{Sight, sight, Steps}
use Rattle.machine_states.specs.Sight as states
use Rattle.machine_states.proofs.FirstSights as firsts
use Rattle.machine_states.proofs.FirstSights.{first_parts}
use Rattle.machine_states.specs.runner_parts.specs.State.{PartState}
use Rattle.machine_states.specs.body_terms.specs.Shape.{IsShaped}
use Rattle.machine_states.specs.body_terms.specs.declared.thunk.Thunk.{Thunk}
use Rattle.machine_states.proofs.Sights.{some_none, happens_steps}
use Rattle.machine_states.proofs.Steps.{some_same}
use Rattle.machine_invariant.specs.machine_blocks.specs.machine_guards.specs.machine_agreement.specs.machine_epochs.specs.Entries.{counts_of}
use Rattle.machine_invariant.specs.machine_blocks.specs.machine_guards.specs.machine_agreement.specs.machine_epochs.proofs.FirstJoin.{at_fixed, each_part}
use Rattle.machine_invariant.specs.Along.{Components, first_components, components_after, AreExact}
use Rattle.machine_invariant.specs.After.{AreAllowed}
use Rattle.machine_invariant.specs.States.{StateIsSound}
use Rattle.machine_invariant.specs.Trails.{thunk_at}
use Rattle.machine_invariant.specs.Whole.{Beside, IsWhole}
use Rattle.machine_invariant.proofs.Along.{exact_begins, exact_after}
use Rattle.machine_invariant.proofs.AllKinds.{step_whole}
use Rattle.machine_invariant.proofs.First.{first_beside, first_whole}
use Rattle.machine_invariant.proofs.Following.{StepsWhole}
use Rattle.machine_invariant.proofs.States.{with_histories, state_sound}
use Rattle.machine_facts.specs.Steps.{WordsStand}
use Rattle.machine_facts.specs.States.{NumberAlike, FactsStand}
use Rattle.machine_facts.specs.Passed.{Leads, GoSoundly}
use Rattle.machine_facts.specs.After.{AreFactsAfter, FactsAfter, AreFactsOfStep, StepFactsAfter}
use Rattle.machine_facts.proofs.Going.{still_alike, moves}
use Rattle.machine_facts.proofs.Words.{words_stand}
use Rattle.machine_facts.proofs.Locks.{locks_stand}
use Rattle.machine_facts.proofs.Outcomes.{OutcomesKept, outcomes_kept}
use Rattle.machine_facts.proofs.Agreeing.{outcomes_agree}
use Rattle.machine_facts.specs.Known.{KnownStand}
use Rattle.machine_facts.proofs.Known.{known_stand}
use Rattle.machine_facts.proofs.Once.{each_once}

module _ (m : Meaning) (laws : Laws m) (l : Layout) (limits : IsWithinLimits l) (rs : List Request) (allowed : AreAllowed rs) where
  -- a state that meets the whole invariant, beside components whose histories say what happened
  record Stands (s : Sight) (g : Beside) (changes : agreement_history.History) (wins : epoch_history.History) : Type 0 where
    pub whole : IsWhole m l g s
    pub requests : g.publications.requests ≡ rs
    pub exact : AreExact m l (with_histories g changes wins)
    pub alike : NumberAlike (with_histories g changes wins)
    pub fixed : (t : ℕ) → t < m.fixed_slots → g.epochs.location t ≡ Fixed
    pub outcomes : OutcomesKept m l g.agreement s
    pub known : KnownStand s

  sound_of : (s : Sight) (g : Beside) (changes : agreement_history.History) (wins : epoch_history.History) → Stands s g changes wins
      → StateIsSound m l s (with_histories g changes wins)
  sound_of s g changes wins stands = state_sound m l g s stands.whole (with_histories g changes wins) refl refl stands.exact.changes stands.exact.wins

  -- the body of each used descriptor's thunk has the shape
  shaped : (s : Sight) (g : Beside) (whole : IsWhole m l g s) (d : ℕ) → g.agreement.used d ≡ true → IsShaped (m.body (thunk_at m g.agreement s d))
  shaped s g whole d used = subst (λ (t : Thunk). IsShaped (m.body t)) (whole.tied.thunk d used) ((whole.kept.shaped d used).shape)

  facts_of : (s : Sight) (g : Beside) (changes : agreement_history.History) (wins : epoch_history.History) → Stands s g changes wins
      → FactsStand m l s (with_histories g changes wins)
  facts_of s g changes wins stands = record {
    sound = sound_of s g changes wins stands;
    exact = stands.exact;
    numbers = stands.alike;
    outcomes = outcomes_agree m l s (with_histories g changes wins) (sound_of s g changes wins stands) (shaped s g stands.whole) stands.outcomes;
    known = stands.known;
    stored = λ r d i number free last. (stands.whole.slots.tied r).stored d i number free last;
    fixed = stands.fixed;
    done_most = λ d used. subst (λ n. n ≤ 1) ((stands.whole.sections.sections d).done) (stands.whole.sections.sound.sections d used).done_most;
  }

  -- where a list of events leads
  record Follows (w : World) (k : Components) (events : List Event) (v : World) : Type 0 where
    pub beside : Beside
    pub changes : agreement_history.History
    pub wins : epoch_history.History
    pub stands : Stands (sight m l rs v) beside changes wins
    pub all_words : states.IsWhole m l rs v
    pub go : GoSoundly m l rs w k events v (with_histories beside changes wins)

  -- one step
  module _ (w v : World) (e : Event) (g : Beside) (changes : agreement_history.History) (wins : epoch_history.History)
      (stands : Stands (sight m l rs w) g changes wins) (goes : happens m l rs w e ≡ Some v)
      (step : Steps m l rs (sight m l rs w) (sight m l rs v) e.runner e.kind) where
    abbrev k : Components
    k = with_histories g changes wins

    one : StepsWhole m l rs g (sight m l rs w) (sight m l rs v) e.runner e.kind
    one = step_whole m laws l limits rs allowed.in_order.few allowed.each g (sight m l rs w) (sight m l rs v) e.runner e.kind stands.whole stands.requests step

    abbrev j : Components
    j = components_after m l k one.es one.vs

    abbrev beside : Beside
    beside = record { agreement = j.agreement; epochs = j.epochs; publications = one.publications }

    moved : SlotsMove (counts_of m l) k.epochs j.epochs k.wins j.wins
    moved = moves m l rs k (sight m l rs w) stands.whole.sections stands.exact stands.alike e.runner e.kind one.es one.vs (one.events changes wins)

    exact_next : AreExact m l j
    exact_next = exact_after m l k one.es one.vs (one.events changes wins).enabled (one.events changes wins).enabled_slots stands.exact

    sound_next : StateIsSound m l (sight m l rs v) j
    sound_next = state_sound m l beside (sight m l rs v) one.whole j refl refl exact_next.changes exact_next.wins

    words : WordsStand k.agreement.used (sight m l rs w).word (sight m l rs v).word
    words = words_stand m l rs k (sight m l rs w) (sight m l rs v) stands.whole.sections stands.exact stands.alike e.runner e.kind step one.es one.vs
        (one.events changes wins) one.whole.sections stands.whole.logs one.whole.logs

    stands_after : Stands (sight m l rs v) beside j.changes j.wins
    stands_after = record {
      whole = one.whole;
      requests = one.requests ∙ stands.requests;
      exact = exact_next;
      alike = still_alike m l rs k (sight m l rs w) stands.whole.sections stands.exact stands.alike e.runner e.kind one.es one.vs (one.events changes wins);
      fixed = λ t low. moved.fixed t (stands.fixed t low);
      outcomes = outcomes_kept m l rs k (sight m l rs w) (sight m l rs v) (sound_of (sight m l rs w) g changes wins stands) stands.exact stands.alike
          e.runner e.kind step one.es one.vs (one.events changes wins) sound_next words stands.outcomes;
      known = known_stand m l rs (sight m l rs w) (sight m l rs v) e.runner e.kind step k.agreement.used words stands.known;
    }

    leads : Leads m l rs w k e v j
    leads = record {
      happens = goes;
      sections = one.es;
      slots = one.vs;
      events = one.events changes wins;
      next = refl;
      words = words;
      locks = locks_stand m l rs k (sight m l rs w) (sight m l rs v) stands.whole.sections e.runner e.kind one.es one.vs
          (one.events changes wins) one.whole.sections;
      moves = moved;
    }

  then_follows : (o : Option World) (f : World → Option World) (v : World) {A : Type 0} → ((u : World) → o ≡ Some u → f u ≡ Some v → A)
      → then_run o f ≡ Some v → A
  then_follows None f v goes e = some_none v e
  then_follows (Some u) f v goes e = goes u refl e

  follow : (events : List Event) (w v : World) (g : Beside) (changes : agreement_history.History) (wins : epoch_history.History)
      → states.IsWhole m l rs w → Stands (sight m l rs w) g changes wins → run m l rs w events ≡ Some v
      → Follows w (with_histories g changes wins) events v
  follow [] w v g changes wins all stands done = record {
    beside = g;
    changes = changes;
    wins = wins;
    stands = subst (λ (u : World). Stands (sight m l rs u) g changes wins) (some_same w v done) stands;
    all_words = subst (λ (u : World). states.IsWhole m l rs u) (some_same w v done) all;
    go = (sym (some_same w v done), refl, facts_of (sight m l rs w) g changes wins stands);
  }
  follow (e ∷ events) w v g changes wins all stands done =
      then_follows (happens m l rs w e) (λ u. run m l rs u events) v (λ u goes rest.
      let step = happens_steps m l rs w u e all goes in
      let next = beside w u e g changes wins stands goes step.0 in
      let after = j w u e g changes wins stands goes step.0 in
      let more = follow events u v next after.changes after.wins step.1 (stands_after w u e g changes wins stands goes step.0) rest in
      record {
        beside = more.beside;
        changes = more.changes;
        wins = more.wins;
        stands = more.stands;
        all_words = more.all_words;
        go = (facts_of (sight m l rs w) g changes wins stands, u, after, leads w u e g changes wins stands goes step.0, more.go);
      }) done

  -- at first no run came to its end, and no runner knows a stamp or a reply
  none_kept : (w : World) (first : IsFirst m l rs w) (r : ℕ) → ((sight m l rs w).part r).records.finished ≡ []
  none_kept w first r = subst (λ (p : PartState). p.records.finished ≡ []) (sym (first_parts m l w.parts first.parts r))
      (each_part m l (λ p. p.records.finished ≡ []) refl (λ n. refl) refl r)

  none_known : (w : World) (first : IsFirst m l rs w) (r : ℕ) → ((sight m l rs w).part r).records.known ≡ []
  none_known w first r = subst (λ (p : PartState). p.records.known ≡ []) (sym (first_parts m l w.parts first.parts r))
      (each_part m l (λ p. p.records.known ≡ []) refl (λ n. refl) refl r)

  no_entry : {B A : Type 0} (xs : List B) (i : ℕ) (x : B) → xs ≡ [] → slice_get xs i ≡ Some x → A
  no_entry xs i x none at = absurd (nothing (ap (λ ys. slice_get ys i) (sym none) ∙ at))
    where
      nothing : slice_get [] i ≡ Some x → ⊥
      nothing e = cc

  first_stands : (w : World) (first : IsFirst m l rs w)
      → Stands (sight m l rs w) (first_beside m laws l limits rs w first) agreement_history.no_history epoch_history.no_history
  first_stands w first = record {
    whole = first_whole m laws l limits rs w first;
    requests = refl;
    exact = exact_begins m l laws.first limits rs w first;
    alike = record { published = refl; section = λ d. refl };
    fixed = at_fixed m l;
    outcomes = record {
      ended = λ r d f used x. no_entry _ x.at f (none_kept w first r) x.kept;
      equal = λ r r' i i' f f' at at' lock word. no_entry _ i f (none_kept w first r) at;
    };
    known = record {
      some = λ r i x at. no_entry _ i x (none_known w first r) at;
      stands = λ r i x at. no_entry _ i x (none_known w first r) at;
    };
  }

module _ (m : Meaning) (laws : Laws m) (l : Layout) (requests : List Request) (events : List Event) (w : World) (limits : IsWithinLimits l)
    (allowed : AreAllowed requests) (after : IsAfter m l requests events w) where
  all : Follows m laws l limits requests allowed after.start (first_components m l (sight m l requests after.start)) events w
  all = follow m laws l limits requests allowed events after.start w (first_beside m laws l limits requests after.start after.first)
      agreement_history.no_history epoch_history.no_history (firsts.first_whole m l requests after.start after.first)
      (first_stands m laws l limits requests allowed after.start after.first) after.runs

  reached : AreFactsAfter m l requests events w after
  reached = record {
    components = with_histories all.beside all.changes all.wins;
    through = all.go;
    here = facts_of m laws l limits requests allowed (sight m l requests w) all.beside all.changes all.wins all.stands;
    once = each_once m l requests after.start _ events w (with_histories all.beside all.changes all.wins) all.go refl;
  }

  goes_on : (e : Event) (v : World) → happens m l requests w e ≡ Some v → AreFactsOfStep m l requests w e v
  goes_on e v goes =
      let step = happens_steps m l requests w v e all.all_words goes in
      record {
        before = with_histories all.beside all.changes all.wins;
        after = j m laws l limits requests allowed w v e all.beside all.changes all.wins all.stands goes step.0;
        there = facts_of m laws l limits requests allowed (sight m l requests w) all.beside all.changes all.wins all.stands;
        leads = leads m laws l limits requests allowed w v e all.beside all.changes all.wins all.stands goes step.0;
        here = facts_of m laws l limits requests allowed (sight m l requests v) _ _ _
            (stands_after m laws l limits requests allowed w v e all.beside all.changes all.wins all.stands goes step.0);
      }

pub facts_after : (m : Meaning) → Laws m → (l : Layout) (requests : List Request) (events : List Event) (w : World)
    → FactsAfter m l requests events w
facts_after m laws l requests events w limits allowed after = reached m laws l requests events w limits allowed after

pub step_facts_after : (m : Meaning) → Laws m → (l : Layout) (requests : List Request) (events : List Event) (w : World)
    → StepFactsAfter m l requests events w
step_facts_after m laws l requests events w limits allowed after = goes_on m laws l requests events w limits allowed after
