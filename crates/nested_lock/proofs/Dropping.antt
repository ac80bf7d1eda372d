-- The release of a lock in a run.
use Rattle.std.proofs.Common.{◌≡◌, ◌≢◌, ℕ, ◌+◌, ◌-◌, ◌%◌, ◌^◌, ◌<◌, ◌≤◌, Bool, true, false, refl, sym, ap, ◌∙◌, arith, eq-eqb, Option, Some}
use Rattle.std.specs.Prelude.{◌==◌, ◌&&◌, nat_lt, if◌then◌else◌}
use Rattle.std.proofs.lemmas.Bool.Decides.{nat_tests}
use Rattle.machine_states.specs.body_terms.specs.declared.micro.Micro.TheVariants.{Release}
use Rattle.machine_states.specs.body_terms.specs.Word.{version_of, pack, next_word, held_word, is_free}
use Rattle.machine_states.specs.table_words.specs.Access.{exchanged, written}
use Rattle.machine_states.specs.table_words.specs.Places.{descriptor_count}
use Rattle.machine_states.specs.table_words.specs.Seen.{seen}
use Rattle.machine_states.specs.table_words.specs.declared.spot.Spot.{Spot}
use Rattle.machine_states.specs.table_words.specs.declared.spot.Spot.TheVariants.{Cell}
use Rattle.machine_states.specs.table_words.specs.declared.access.Access.{Access}
use Rattle.machine_states.specs.table_words.specs.declared.access.Access.TheVariants.{Exchanges}
use Rattle.machine_states.specs.table_words.specs.Limits.{IsWithinLimits}
use Rattle.machine_states.specs.structure_laws.specs.Meaning.{Meaning}
use Rattle.machine_states.specs.structure_laws.specs.Laws.{Laws}
use Rattle.machine_states.specs.runner_parts.specs.declared.event.EventKind.TheVariants as kinds
use Rattle.machine_states.specs.runner_parts.specs.State.{RunState}
use Rattle.machine_states.specs.runner_steps.specs.Asks.{sizes_for}
use Rattle.machine_states.proofs.Sights.{if_some}
use Rattle.machine_states.proofs.Steps.{some_same}
use Rattle.machine_facts.specs.machine_invariant.specs.After.{AreAllowed}
use Rattle.commit_log.specs.version_words.specs.RunnerState.{RunnerState}
use Rattle.commit_log.specs.version_words.specs.TableState.{TableState, IsOf}
use Rattle.commit_log.specs.version_words.specs.Events.{met_by, IsMade}
use Rattle.commit_log.specs.version_words.specs.Place.{held_by_run}
use Rattle.commit_log.specs.version_words.proofs.Inside.{few_descriptors}
use Rattle.commit_log.proofs.Running.{may_make, asked_there, then_made}
use Rattle.nested_lock.specs.Dropped.{MayDrop, HasDropped}

-- the free word before the held one
free_before : (word d : ℕ) → d + 1 < 2 ^ 32 → is_free word ≡ true → pack 0 (version_of (held_word d word) - 1) ≡ word
free_before word d few free = let low : word % 2 ^ 32 ≡ 0 = grind (arith, nat_tests, free) in omega (arith, few, low)

both : (a b c d : ℕ) (e : Bool) → ((nat_lt a b && nat_lt c d) && e) ≡ true → a < b
both a b c d e h = grind (arith, nat_tests, h)

module _ {T : Type 0} (m : Meaning) (laws : Laws m) (t : TableState T) (limits : IsWithinLimits t.layout) (allowed : AreAllowed t.requests) (r : RunnerState T) (own : IsOf t r) (place held : ℕ) (q : RunState) (may : MayDrop m r place held q) where
  few : q.descriptor + 1 < 2 ^ 32
  few = let a = both q.descriptor (descriptor_count r.layout) _ _ _ (if_some _ _ _ (asked_there m laws t limits allowed r own q may.running (Release place may.word) may.next refl refl)).0 in
      let b = few_descriptors t.layout limits in let c = ap descriptor_count own.layout in omega (arith, a, b, c)

  pub some_version : 1 ≤ version_of held
  some_version = let e = may.holds in let f = few in omega (arith, e, f)

  pub free_is : pack 0 (version_of held - 1) ≡ may.word
  free_is = ap (λ n. pack 0 (version_of n - 1)) may.holds ∙ free_before may.word q.descriptor few may.free

  held_is : held_by_run r.part.run may.word ≡ held
  held_is = ap (λ (o : Option RunState). held_by_run o may.word) may.running.inside.running ∙ sym may.holds

  pub may_drop : (word : ℕ) → word ≡ pack 0 (version_of held - 1) → met_by m r kinds.Release ≡ Some (Cell place, Exchanges (held_by_run r.part.run word) (next_word (held_by_run r.part.run word) 0))
  may_drop word is = may_make m laws t limits allowed r own q may.running (Release place may.word) may.next refl refl
      ∙ (ap (λ n. Some (Cell place, Exchanges n (next_word n 0))) (sym may.holds ∙ sym held_is)
      ∙ ap (λ n. Some (Cell place, Exchanges (held_by_run r.part.run n) (next_word (held_by_run r.part.run n) 0))) (sym (is ∙ free_is)))

  moved : next_word held 0 ≢ held
  moved e = let h : next_word held 0 ≡ held = e in omega (arith, h)

  gone : (found : ℕ) → exchanged found held (next_word held 0) ≢ held
  gone found = by (found == held) refl
    where
      differs : (found == held) ≡ false → found ≢ held
      differs e same = let a : (found == held) ≡ true = eq-eqb found held same in absurd (cc)

      by : (b : Bool) → (found == held) ≡ b → (if b then next_word held 0 else found) ≢ held
      by true e = moved
      by false e = differs e

  pub then_dropped : (r' : RunnerState T) → IsMade m kinds.Release r r' → HasDropped m place held r r' q
  then_dropped r' made =
      let met = some_same made.event.met (Cell place, Exchanges held (next_word held 0)) (sym made.event.asked
      ∙ (may_make m laws t limits allowed r own q may.running (Release place may.word) may.next refl refl ∙ ap (λ n. Some (Cell place, Exchanges n (next_word n 0))) (sym may.holds))) in
      record {
        word = may.word;
        found = made.found;
        step = then_made m laws t limits allowed r own q may.running (Release place may.word) may.next refl refl made.found r' made.event;
        stands = record {
          world = made.event.shown.world;
          reached = made.event.shown.reached;
          own = made.event.shown.own;
          word = ap (λ (x : Spot × Access). seen (sizes_for m r'.layout r'.requests) made.event.shown.world.words x.0) (sym met)
              ∙ (made.event.shown.word ∙ ap (λ (x : Spot × Access). written x.1 made.found) met);
        };
        left = gone made.found;
      }
