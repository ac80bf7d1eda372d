-- A lock that is held is watched.
use Rattle.std.proofs.Common.{◌≡◌, ℕ, ◌-◌, Bool, true, false, refl, sym, ap, subst, ◌∙◌, eq-eqb, arith, Option, Some, None}
use Rattle.std.specs.Prelude.{◌==◌, ◌&&◌, ◌||◌, ◌<◌, not, if◌then◌else◌}
use Rattle.std.proofs.lemmas.Bool.Decides.{nat_tests}
use Rattle.machine_states.specs.body_terms.specs.Word.{value_of, is_free}
use Rattle.machine_states.specs.table_words.specs.declared.spot.Spot.TheVariants as spots
use Rattle.machine_states.specs.table_words.specs.declared.spot.Spot.{Spot}
use Rattle.machine_states.specs.table_words.specs.declared.access.Access.{Access}
use Rattle.machine_states.specs.table_words.specs.declared.access.Access.TheVariants.{Loads}
use Rattle.machine_states.specs.table_words.specs.Access.{written}
use Rattle.machine_states.proofs.Steps.{some_same}
use Rattle.machine_states.specs.table_words.proofs.Seen.{fits_is}
use Rattle.machine_states.specs.structure_laws.specs.Meaning.{Meaning}
use Rattle.machine_states.specs.runner_parts.specs.declared.event.EventKind.TheVariants as kinds
use Rattle.machine_states.specs.epoch_core.specs.declared.stage.Stage.TheVariants as stages
use Rattle.machine_states.specs.runner_parts.specs.State.{RunState, GuardsState, ReadsState}
use Rattle.machine_states.specs.runner_parts.specs.Lists.{walked, published_seen, named_seen}
use Rattle.machine_states.specs.runner_parts.specs.Tests.{is_walking, is_readable, is_some_of}
use Rattle.machine_states.specs.runner_steps.specs.Outside.{when, is_sure_of}
use Rattle.machine_states.specs.runner_steps.specs.Asks.{ask_by, fitting, sizes_for}
use Rattle.machine_states.specs.Sight.{Sight, sight}
use Rattle.section_runs.specs.commit_log.specs.next_steps.specs.Rooms.{cell_count}
use Rattle.section_runs.specs.commit_log.specs.version_words.specs.RunnerState.{RunnerState}
use Rattle.section_runs.specs.commit_log.specs.version_words.specs.Events.{IsEnabled, Makes, met_by}
use Rattle.section_runs.specs.commit_log.specs.version_words.specs.Naming.{load_of}
use Rattle.section_runs.specs.commit_log.specs.version_words.specs.Stages.{IsAt}
use Rattle.section_runs.specs.commit_log.specs.version_words.proofs.Stages.{then_loaded_cell}
use Rattle.epoch_slots.proofs.Outside.{guards_made, reads_made, own_kept, own_kept_on}
use Rattle.try_lock.specs.Watches.{MayWatch, Watched}
use Rattle.try_lock.proofs.Guarding.{may_guard, guard_at, guard_named, guard_reads, guard_keeps}

-- a guard word names what it named, whatever is read
pub same_named : (g : GuardsState) (lock : Bool) (word : ℕ) → (named_seen g lock word).named ≡ g.named
same_named g lock word = by (lock && not (is_free word))
  where
    by : (b : Bool) → (if b then published_seen g (value_of word - 1) else g).named ≡ g.named
    by true = refl
    by false = refl

-- and a sweep isn't touched
pub same_looked : (g : GuardsState) (lock : Bool) (word : ℕ) → (named_seen g lock word).looked ≡ g.looked
same_looked g lock word = by (lock && not (is_free word))
  where
    by : (b : Bool) → (if b then published_seen g (value_of word - 1) else g).looked ≡ g.looked
    by true = refl
    by false = refl

-- a word that names a descriptor makes sure of it
named_sure : (g : GuardsState) (lock : Bool) (word d : ℕ) → lock ≡ true → is_free word ≡ false → d ≡ value_of word - 1 → g.named ≡ Some d → is_sure_of (named_seen g lock word) d ≡ true
named_sure g lock word d at held is named =
    ap (λ (b : Bool). is_sure_of (if b then published_seen g (value_of word - 1) else g) d) ((λ i. at i && not (held i)))
    ∙ ((λ i. (g.sure || is_some_of (named i) (sym is i)) && is_some_of (named i) d) ∙ ((λ i. (g.sure || eq-eqb d d refl i) && eq-eqb d d refl i) ∙ seen g.sure))
  where
    seen : (s : Bool) → ((s || true) && true) ≡ true
    seen true = refl
    seen false = refl

module _ {T : Type 0} (m : Meaning) (place held : ℕ) (r : RunnerState T) (may : MayWatch m place held r) where
  abbrev d : ℕ
  d = value_of held - 1

  pub may_guard_it : IsEnabled m (kinds.Guard (Some d)) r
  may_guard_it = may_guard m d r may.epoch may.at may.few

  module _ (found0 : ℕ) (g : RunnerState T) (guard : Makes m (kinds.Guard (Some d)) found0 r g) where
    at_guarding : IsAt g (stages.Entered may.epoch) None
    at_guarding = guard_at m (Some d) found0 r g guard may.epoch may.at

    within : place < cell_count m g.layout
    within = subst (λ l. place < cell_count m l) (sym (ap (λ (y : RunnerState T). y.layout) guard.made)) may.within

    pub may_load_it : met_by m g (load_of g.part.run place) ≡ Some (spots.Cell place, Loads)
    may_load_it =
        let sizes = sizes_for m g.layout g.requests in
        let kind = kinds.LoadCell (Some place) in
        ap (λ (o : Option RunState). met_by m g (load_of o place)) at_guarding.resting
        ∙ (ap (λ (b : Bool). if b then None else fitting sizes (ask_by m g.layout g.requests g.number kind g.part g.part.run)) at_guarding.present
        ∙ (ap (fitting sizes) (ap (ask_by m g.layout g.requests g.number kind g.part) at_guarding.resting
        ∙ ap (λ (b : Bool). when b (spots.Cell place) Loads) ((λ i. is_walking (at_guarding.at i) (at_guarding.resting i) && is_readable m g.part.reads.walk place) ∙ readable))
        ∙ ap (λ (b : Bool). if b then Some (spots.Cell place, Loads) else None) (fits_is sizes (spots.Cell place) within)))
      where
        either : (a b c : Bool) → b ≡ true → (a || (b || c)) ≡ true
        either true b c e = refl
        either false b c e = ap (λ (x : Bool). x || c) e

        readable : is_readable m g.part.reads.walk place ≡ true
        readable = either _ (m.is_lock place) _ may.lock

    module _ (found : ℕ) (r' : RunnerState T) (loaded : Makes m (load_of g.part.run place) found g r') where
      load : Makes m (kinds.LoadCell (Some place)) found g r'
      load = subst (λ (o : Option RunState). Makes m (load_of o place) found g r') at_guarding.resting loaded

      guards_are : r'.part.guards ≡ named_seen g.part.guards (m.is_lock place) found
      guards_are = guards_made m (kinds.LoadCell (Some place)) found g r' load at_guarding.resting

      named_there : g.part.guards.named ≡ Some d
      named_there = guard_named m (Some d) found0 r g guard may.at.resting

      reads_are : r'.part.reads ≡ walked r.part.reads place found
      reads_are = reads_made m (kinds.LoadCell (Some place)) found g r' load at_guarding.resting
          ∙ ap (λ (s : ReadsState). walked s place found) (guard_reads m (Some d) found0 r g guard may.at.resting)

      sure_then : found ≡ held → is_sure_of r'.part.guards d ≡ true
      sure_then same = ap (λ (x : GuardsState). is_sure_of x d) guards_are
          ∙ named_sure g.part.guards (m.is_lock place) found d may.lock (ap is_free same ∙ may.names) (ap (λ w. value_of w - 1) (sym same)) named_there

      abbrev s : Sight
      s = sight m r'.layout r'.requests load.shown.world

      met_is : load.met ≡ (spots.Cell place, Loads)
      met_is = some_same load.met (spots.Cell place, Loads) (sym load.asked ∙ (ap (λ (o : Option RunState). met_by m g (load_of o place)) (sym at_guarding.resting) ∙ may_load_it))

      loaded_word : s.word (spots.Cell place) ≡ found
      loaded_word = ap (λ (x : Spot × Access). s.word x.0) (sym met_is) ∙ (load.shown.word ∙ ap (λ (x : Spot × Access). written x.1 found) met_is)

      pub watched : (same : Bool) → same ≡ (found == held) → Watched m place held same r r'
      watched same told = record {
        found = found;
        guarding = g;
        guard = record { found = found0; event = guard };
        load = load;
        told = told;
        at = λ epoch is. then_loaded_cell m found epoch place g r' None loaded (guard_at m (Some d) found0 r g guard epoch is);
        reads = reads_are;
        guarded = ap (λ (x : GuardsState). x.named) guards_are ∙ (same_named g.part.guards (m.is_lock place) found ∙ named_there);
        keeps = own_kept_on r g r' (guard_keeps m (Some d) found0 r g guard may.at.resting) (own_kept m (kinds.LoadCell (Some place)) found g r' load at_guarding.resting refl refl refl);
        reached = record { world = load.shown.world; reached = load.shown.reached; own = load.shown.own };
        sure = λ e. sure_then (let test = sym told ∙ e in grind (arith, nat_tests, test));
        here = loaded_word;
      }
