-- What a runner has learned, and the end of its own run, as events of the history.
use Rattle.std.specs.Prelude.{◌⊎◌, ◌==◌, ◌||◌, cond, Bool, true, false, []}
use Rattle.std.proofs.Common.{◌≡◌, ◌≢◌, ℕ, List, ◌∷◌, refl, sym, ap, ◌∙◌, ⊎_elim, arith}
use Rattle.std.proofs.lemmas.Bool.Decides.{nat_tests}
use Rattle.machine_states.specs.map_history.specs.declared.op.Request.{Request}
use Rattle.machine_states.specs.table_words.specs.declared.layout.Layout.{Layout}
use Rattle.machine_states.specs.table_words.specs.Limits.{IsWithinLimits}
use Rattle.machine_states.specs.structure_laws.specs.Meaning.{Meaning}
use Rattle.machine_states.specs.structure_laws.specs.Laws.{Laws}
use Rattle.machine_states.specs.runner_parts.specs.Tests.{has}
use Rattle.machine_states.specs.epoch_core.specs.State.{Counts}
use Rattle.machine_history.specs.history_core.specs.State.{Requests, HistoryState}
use Rattle.machine_history.specs.history_core.specs.Events as history
use Rattle.machine_history.specs.history_core.specs.Schedules.{after_all}
use Rattle.machine_states.specs.Sight.{Sight}
use Rattle.machine_facts.specs.machine_agreement.specs.machine_epochs.specs.Entries.{counts_of}
use Rattle.machine_facts.specs.machine_agreement.specs.machine_scenes.specs.Shown.{States}
use Rattle.machine_history.specs.Steps.{Over, Learn}
use Rattle.machine_history.specs.Laws.{IsJoined}
use Rattle.machine_history.proofs.Joining.{steps_keep}
use Rattle.machine_facts.specs.machine_invariant.specs.Whole.{Beside, states_of, IsWhole}
use Rattle.machine_facts.specs.Known.{KnownStand}
use Rattle.reached_histories.specs.Requests.{requests_of}
use Rattle.reached_histories.specs.Kept.{link_of, AreKept}
use Rattle.machine_facts.specs.Told.{RunsAreTold}
use Rattle.reached_histories.specs.Keeping.{answered_in, learns, ends, IsAtItsEnd}
use Rattle.reached_histories.proofs.Keeping.{answered_is}
use Rattle.reached_histories.proofs.Ending.{answered_learned, ends_over}
use Rattle.reached_histories.proofs.Quietly.{KnowsAlike, with_history}

-- the same events of learning leave alike what is known and published
pub learns_alike : (c : Requests) (r : ℕ) (ns : List ℕ) (w v : HistoryState) → KnowsAlike w v
    → KnowsAlike (after_all c w (learns r ns)) (after_all c v (learns r ns))
learns_alike c r [] w v alike = alike
learns_alike c r (n ∷ ns) w v alike =
    learns_alike c r ns (history.after c w (history.Learn r n)) (history.after c v (history.Learn r n)) (record {
      known = ap (λ (f : ℕ → ℕ → Bool). (history.after c (record w { known = f }) (history.Learn r n)).known) alike.known;
      published = alike.published;
    })

-- and so does the end of an own run
pub ends_alike : (c : Requests) (r : ℕ) (w v : HistoryState) → KnowsAlike w v
    → KnowsAlike (history.after c w (history.Over r)) (history.after c v (history.Over r))
ends_alike c r w v alike = record {
  known = alike.known;
  published = ap (λ (f : ℕ → ℕ). (history.after c (record w { published = f }) (history.Over r)).published) alike.published;
}

itself_or : (n : ℕ) (b : Bool) → (n == n || b) ≡ true
itself_or n b = grind (arith, nat_tests)

module _ (m : Meaning) (laws : Laws m) (l : Layout) (limits : IsWithinLimits l) (rs : List Request) where
  abbrev c : Counts
  c = counts_of m l

  abbrev asked : Requests
  asked = requests_of m l rs

  -- a runner comes to know requests both of whose words are there
  learned_joined : (j : States) (r : ℕ) (ns : List ℕ) (w : HistoryState)
      → ((n : ℕ) → has ns n ≡ true → (w.stamp n ≢ 0) × (w.reply n ≢ 0))
      → IsJoined m l c asked (with_history m laws l limits rs j w)
      → IsJoined m l c asked (with_history m laws l limits rs j (after_all asked w (learns r ns)))
  learned_joined j r [] w there joined = joined
  learned_joined j r (n ∷ ns) w there joined =
      learned_joined j r ns (history.after asked w (history.Learn r n)) (λ k is. there k (later k is))
      (steps_keep m laws l limits c refl asked refl (with_history m laws l limits rs j w) (Learn r n) (there n first) joined)
    where
      first : has (n ∷ ns) n ≡ true
      first = itself_or n (has ns n)

      later : (k : ℕ) → has ns k ≡ true → has (n ∷ ns) k ≡ true
      later k is = by (n == k) (has ns k) is
        where
          by : (a b : Bool) → b ≡ true → (a || b) ≡ true
          by true b is = refl
          by false b is = is

  -- all those both of whose words it has in its records
  pub learns_joined : (g : Beside) (s : Sight) (w : HistoryState) (r : ℕ) → IsWhole m l g s → KnownStand s
      → IsJoined m l c asked (with_history m laws l limits rs (states_of g s) w)
      → IsJoined m l c asked (with_history m laws l limits rs (states_of g s)
      (after_all asked w (learns r (answered_in (s.part r).records.known))))
  learns_joined g s w r whole known joined =
      learned_joined (states_of g s) r (answered_in (s.part r).records.known) w
      (λ n is. answered_learned m l asked g s w whole joined.tied known r n (sym (answered_is (s.part r).records.known n) ∙ is)) joined

  -- the end of its own run, where it is at it
  pub over_joined : (g : Beside) (s : Sight) (w : HistoryState) (r : ℕ) → IsWhole m l g s → AreKept s w → RunsAreTold m s
      → IsJoined m l c asked (with_history m laws l limits rs (states_of g s) w) → IsAtItsEnd (s.part r)
      → IsJoined m l c asked (with_history m laws l limits rs (states_of g s) (history.after asked w (history.Over r)))
  over_joined g s w r whole kept told joined end =
      steps_keep m laws l limits c refl asked refl (with_history m laws l limits rs (states_of g s) w) (Over r)
      (ends_over m l asked g s w whole joined.tied joined.sound kept told r end.run end.runs end.opened end.ended
      (kept.published r ∙ end.own)) joined

  -- where it has come, if the runner's link has changed
  pub ends_joined : (g : Beside) (s : Sight) (w : HistoryState) (r now : ℕ) → IsWhole m l g s → AreKept s w → RunsAreTold m s
      → IsJoined m l c asked (with_history m laws l limits rs (states_of g s) w)
      → (now ≡ link_of (s.part r).published) ⊎ IsAtItsEnd (s.part r)
      → IsJoined m l c asked (with_history m laws l limits rs (states_of g s)
      (after_all asked w (ends r (link_of (s.part r).published) now)))
  ends_joined g s w r now whole kept told joined own = by (link_of (s.part r).published == now) refl
    where
      unlike : (a b : ℕ) → (a == b) ≡ false → b ≡ a → ⊥
      unlike a b e same = grind (arith, nat_tests)

      by : (b : Bool) → (link_of (s.part r).published == now) ≡ b
          → IsJoined m l c asked (with_history m laws l limits rs (states_of g s) (after_all asked w (cond b [] (history.Over r ∷ []))))
      by true same = joined
      by false other = ⊎_elim
          (λ same. absurd (unlike _ _ other same))
          (λ end. over_joined g s w r whole kept told joined end)
          own
