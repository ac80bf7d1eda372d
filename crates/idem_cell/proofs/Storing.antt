-- A store in a run.
use Rattle.std.proofs.Common.{◌≡◌, ◌≢◌, ℕ, ◌+◌, ◌^◌, ◌<◌, Bool, true, false, refl, sym, ap, subst, ◌∙◌, arith, slice_index, eq-eqb, Some}
use Rattle.std.specs.Prelude.{◌==◌, if◌then◌else◌, nat_lt}
use Rattle.std.proofs.lemmas.Bool.Decides.{nat_tests}
use Rattle.machine_states.specs.body_terms.specs.declared.micro.Micro.TheVariants.{ExchangeCell}
use Rattle.machine_states.specs.body_terms.specs.Word.{version_of, next_word}
use Rattle.machine_states.specs.table_words.specs.declared.layout.Layout.{Layout}
use Rattle.machine_states.specs.table_words.specs.Access.{exchanged, written}
use Rattle.machine_states.specs.table_words.specs.Seen.{seen}
use Rattle.machine_states.specs.table_words.specs.declared.spot.Spot.{Spot}
use Rattle.machine_states.specs.table_words.specs.declared.spot.Spot.TheVariants.{Cell}
use Rattle.machine_states.specs.table_words.specs.declared.access.Access.{Access}
use Rattle.machine_states.specs.table_words.specs.declared.access.Access.TheVariants.{Exchanges}
use Rattle.machine_states.specs.table_words.specs.Limits.{IsWithinLimits}
use Rattle.machine_states.specs.structure_laws.specs.Meaning.{Meaning}
use Rattle.machine_states.specs.structure_laws.specs.Laws.{Laws}
use Rattle.machine_states.specs.runner_parts.specs.declared.event.EventKind.TheVariants as kinds
use Rattle.machine_states.specs.runner_parts.specs.State.{RunState}
use Rattle.machine_states.specs.runner_steps.specs.Asks.{sizes_for}
use Rattle.machine_states.proofs.Sights.{if_some}
use Rattle.machine_states.proofs.Steps.{some_same}
use Rattle.commit_log.specs.version_words.specs.machine_invariant.specs.After.{AreAllowed}
use Rattle.commit_log.specs.version_words.specs.RunnerState.{RunnerState}
use Rattle.commit_log.specs.version_words.specs.TableState.{TableState, IsOf}
use Rattle.commit_log.specs.version_words.specs.Events.{met_by, Makes}
use Rattle.commit_log.proofs.Running.{may_make, asked_there, then_made}
use Rattle.idem_cell.specs.Stored.{MayStore, HasStored}

module _ {T : Type 0} (m : Meaning) (laws : Laws m) (t : TableState T) (limits : IsWithinLimits t.layout) (allowed : AreAllowed t.requests) (r : RunnerState T) (own : IsOf t r) (place old value : ℕ) (q : RunState) (may : MayStore m r place old value q) where
  pub may_store : met_by m r kinds.ExchangeCell ≡ Some (Cell place, Exchanges old (next_word old value))
  may_store = may_make m laws t limits allowed r own q may.running (ExchangeCell place may.log may.source) may.next refl refl
      ∙ (λ i. Some (Cell place, Exchanges (sym may.word i) (next_word (sym may.word i) (sym may.given i))))

  pub has_room : version_of old < r.layout.version_max
  has_room = let e = (if_some _ _ _ (asked_there m laws t limits allowed r own q may.running (ExchangeCell place may.log may.source) may.next refl refl)).0 in
      let low = less (version_of (slice_index q.trail may.log)) r.layout.version_max e in
      subst (λ n. version_of n < r.layout.version_max) (sym may.word) low
    where
      less : (a b : ℕ) → nat_lt a b ≡ true → a < b
      less a b e = grind (arith, nat_tests)

  pub few_versions : version_of old + 1 < 2 ^ 32
  few_versions = let a = has_room in let b = limits.few_versions in let c = ap (λ (l : Layout). l.version_max) own.layout in omega (arith, a, b, c)

  -- the next word is another one
  moved : next_word old value ≢ old
  moved e = let h : next_word old value ≡ old = e in omega (arith, h)

  gone : (found : ℕ) → exchanged found old (next_word old value) ≢ old
  gone found = by (found == old) refl
    where
      differs : (found == old) ≡ false → found ≢ old
      differs e same = let a : (found == old) ≡ true = eq-eqb found old same in absurd (cc)

      by : (b : Bool) → (found == old) ≡ b → (if b then next_word old value else found) ≢ old
      by true e = moved
      by false e = differs e

  pub then_stored : (found : ℕ) (r' : RunnerState T) → Makes m kinds.ExchangeCell found r r' → HasStored m place old value r r' q
  then_stored found r' made =
      let step = then_made m laws t limits allowed r own q may.running (ExchangeCell place may.log may.source) may.next refl refl found r' made in
      let met = some_same made.met (Cell place, Exchanges old (next_word old value)) (sym made.asked ∙ may_store) in
      record {
        log = may.log;
        source = may.source;
        found = found;
        step = step;
        stands = record {
          world = made.shown.world;
          reached = made.shown.reached;
          own = made.shown.own;
          word = ap (λ (x : Spot × Access). seen (sizes_for m r'.layout r'.requests) made.shown.world.words x.0) (sym met)
              ∙ (made.shown.word ∙ ap (λ (x : Spot × Access). written x.1 found) met);
        };
        left = gone found;
        goes_on = step.goes_on _ step.behind.run;
      }
