-- What is answered in a state comes before what isn't asked there.
use Rattle.std.specs.Prelude.{◌⊎◌, Bool, true, false, take}
use Rattle.std.proofs.Common.{◌≡◌, ℕ, le_of_eq, zero, suc, List, [], ◌∷◌, Option, None, inl, inr, refl, sym, ap, ◌∙◌, subst, ⊎_elim, Some}
use Rattle.std.proofs.lemmas.Bool.{cases_eq}
use Rattle.std.proofs.lemmas.List.{append-nil}
use Rattle.machine_states.specs.body_terms.specs.Update.{upd}
use Rattle.machine_states.specs.structure_laws.proofs.Changes.{upd_same, upd_other}
use Rattle.machine_states.specs.epoch_core.specs.declared.stage.Stage.{Stage}
use Rattle.machine_states.specs.epoch_core.specs.declared.stage.Stage.TheVariants as stages
use Rattle.machine_states.specs.runner_parts.specs.declared.entries.Look.{Look}
use Rattle.machine_states.specs.runner_parts.specs.State.{PartState}
use Rattle.machine_states.specs.runner_parts.specs.Tests.{is_looked, is_replied, is_between}
use Rattle.machine_facts.specs.machine_agreement.specs.machine_epochs.specs.Entries.{counts_of}
use Rattle.machine_history.specs.history_core.specs.RealTime.{IsUnseen}
use Rattle.machine_history.specs.Steps.{Forget}
use Rattle.machine_history.proofs.Joining.{steps_keep}
use Rattle.machine_facts.specs.machine_invariant.specs.Whole.{states_of}
use Rattle.reached_histories.proofs.Quietly.{with_history}
use Rattle.reached_histories.proofs.LooksKept.{GoesOnSo, one_new}
use Rattle.reached_histories.proofs.Steps.{Stands}
use Rattle.machine_states.specs.map_history.specs.declared.op.Request.{Request}
use Rattle.machine_states.specs.table_words.specs.declared.layout.Layout.{Layout}
use Rattle.machine_states.specs.table_words.specs.Limits.{IsWithinLimits}
use Rattle.machine_states.specs.structure_laws.specs.Meaning.{Meaning}
use Rattle.machine_states.specs.structure_laws.specs.Laws.{Laws}
use Rattle.machine_states.specs.runner_parts.specs.declared.event.Event.{Event}
use Rattle.machine_history.specs.history_core.specs.State.{Requests, Seen, HistoryState}
use Rattle.machine_history.specs.history_core.specs.State as history_states
use Rattle.history_orders.specs.Turns.{Follows}
use Rattle.machine_states.specs.table_words.specs.declared.spot.Spot.TheVariants.{Stamp}
use Rattle.machine_history.specs.history_core.proofs.RealTime.{Passes, passes_nowhere, passes_more, unasked_since, follows_low, replied_low, half_of}
use Rattle.machine_states.specs.World.{World, happens, then_run, run}
use Rattle.machine_states.specs.Reached.{Reached}
use Rattle.machine_states.specs.Sight.{sight, Sight}
use Rattle.machine_states.proofs.Reached.{more_reached, reached_all, run_has}
use Rattle.machine_states.proofs.Sights.{happens_steps, some_none}
use Rattle.machine_facts.specs.machine_invariant.specs.After.{AreAllowed}
use Rattle.reached_histories.specs.Requests.{requests_of}
use Rattle.reached_histories.specs.RealTime.{IsSought, IsUnasked, AreInRealTime, ReachedAreLinearizable, LinearizableAfter}
use Rattle.reached_histories.proofs.Onward.{StandsSeen, Lows, with_looks, step_goes}
use Rattle.reached_histories.proofs.Reached.{reached_stands, known_at}
use Rattle.reached_histories.proofs.Words.{stamp_is, reply_is, open_of}

some_world : (w v : World) → Some w ≡ Some v → w ≡ v
some_world w v e = cc

none_world : (v : World) → None ≡ Some v → ⊥
none_world v e = cc

-- what the events behind a beginning lead to
module _ (m : Meaning) (l : Layout) (rs : List Request) where
  then_rest : (o : Option World) (f g : World → Option World) (v w : World) → ((x : World) → f x ≡ Some v → g x ≡ Some w → (es : List Event) × (run m l rs v es ≡ Some w))
      → then_run o f ≡ Some v → then_run o g ≡ Some w → (es : List Event) × (run m l rs v es ≡ Some w)
  then_rest None f g v w each e h = absurd (none_world v e)
  then_rest (Some x) f g v w each e h = each x e h

  rest_runs : (es : List Event) (at : ℕ) (start v w : World) → run m l rs start (take at es) ≡ Some v → run m l rs start es ≡ Some w
      → (rest : List Event) × (run m l rs v rest ≡ Some w)
  rest_runs es zero start v w begins runs = (es, subst (λ x. run m l rs x es ≡ Some w) (some_world start v begins) runs)
  rest_runs [] (suc at) start v w begins runs = ([], subst (λ x. run m l rs x [] ≡ Some w) (some_world start v begins) runs)
  rest_runs (e ∷ es) (suc at) start v w begins runs =
      then_rest (happens m l rs start e) (λ x. run m l rs x (take at es)) (λ x. run m l rs x es) v w
      (λ x begins runs. rest_runs es at x v w begins runs) begins runs

module _ (m : Meaning) (laws : Laws m) (l : Layout) (limits : IsWithinLimits l) (rs : List Request) (allowed : AreAllowed rs) where
  abbrev requests : Requests
  requests = requests_of m l rs

  -- a state that the machine reaches behind one beside which this history stands
  record IsBehind (h : HistoryState) (v : World) : Type 0 where
    pub reached : Reached m l rs v
    pub stands : StandsSeen m laws l limits rs allowed (sight m l rs v)
    pub passes : Passes h stands.core.history
    pub lows : Lows requests h stands.core.history

  step_behind : (h : HistoryState) (w v : World) (e : Event) → IsBehind h w → happens m l rs w e ≡ Some v → IsBehind h v
  step_behind h w v e old goes =
      let reached = more_reached m l rs w v e old.reached goes in
      let all = reached_all m l rs w old.reached in
      let step = (happens_steps m l rs w v e (record { words = le_of_eq (sym all.words); parts = all.parts }) goes).0 in
      let on = step_goes m laws l limits rs allowed (sight m l rs w) (sight m l rs v) e.runner e.kind step
      (known_at m laws l limits rs allowed v reached) old.stands in record {
        reached = reached;
        stands = on.to;
        passes = passes_more h old.stands.core.history _ old.passes on.passes;
        lows = λ k clock low. on.lows k clock (old.lows k clock low);
      }

  -- a state stands beside a history that hasn't seen a request which isn't asked: what its worker has left is forgotten
  record Unseen (s : Sight) (n : ℕ) : Type 0 where
    pub stands : StandsSeen m laws l limits rs allowed s
    pub unseen : IsUnseen stands.core.history n

  module _ (s : Sight) (at : StandsSeen m laws l limits rs allowed s) (n : ℕ) (unasked : IsUnasked m l rs s n) where
    abbrev r0 : ℕ
    r0 = requests.worker n

    abbrev h0 : HistoryState
    h0 = at.core.history

    -- what was seen of it is its worker's
    own_look : (r : ℕ) (seen : Seen) → h0.look r ≡ Some seen → seen.number ≡ n → r ≡ r0
    own_look r seen looked number = sym (at.core.joined.sound.reads.looks r seen looked).own ∙ ap requests.worker number

    same_on : (p : PartState) → GoesOnSo s p p
    same_on p = record {
      look = refl;
      walk = inl refl;
      known = ([], sym (append-nil p.records.known));
      grows = λ k b e. e;
      unpublished = λ between none. none;
      stage = λ g e. e;
    }

    seeks : (sought : (x : Look) → (s.part r0).reads.look ≡ Some x → (is_looked x.stage ≡ true) ⊎ (is_replied x.stage ≡ true) → IsSought (s.part r0) x) → Unseen s n
    seeks sought = record {
      stands = at;
      unseen = λ r seen looked number.
          let x = at.looks.only r seen looked in
          let there : (s.part r0).reads.look ≡ Some x.look = ap (λ k. (s.part k).reads.look) (sym (own_look r seen looked number)) ∙ x.looked in
          unasked.unlooked x.look there (sought x.look there x.begun) (x.request ∙ number);
    }

    forgets : is_between (s.part r0).reads.look ≡ false → ((g : ℕ) → (s.part r0).stage ≡ stages.Entered g → ⊥) → Unseen s n
    forgets between out = record {
      stands = record {
        core = core;
        looks = one_new m l rs s s (λ p. inl refl) h0 core.history r0 (λ i ne. same_on (s.part i)) (λ i ne. upd_other h0.look r0 i None ne)
            (λ x looked g isin. absurd (out g isin))
            (λ none. ap history_states.is_replied (upd_same h0.look r0 r0 None refl))
            (λ seen looked. some_none seen (sym (upd_same h0.look r0 r0 None refl) ∙ looked)) at.looks;
      };
      unseen = λ r seen looked number. ⊎_elim
          (λ mine. absurd (let clash : None ≡ Some seen = sym (upd_same h0.look r0 r None mine) ∙ looked in cc))
          (λ ne. absurd (ne (own_look r seen (sym (upd_other h0.look r0 r None ne) ∙ looked) number)))
          (cases_eq r r0);
    }
      where
        core : Stands m laws l limits rs allowed s
        core = with_looks m laws l limits rs allowed s at.core (upd h0.look r0 None)
            (steps_keep m laws l limits (counts_of m l) refl requests refl (with_history m laws l limits rs (states_of at.core.beside s) h0)
            (Forget r0) (at.looks.settled r0 between) at.core.joined)

    start : Unseen s n
    start = by (is_between (s.part r0).reads.look) refl
      where
        at_stage : is_between (s.part r0).reads.look ≡ false → (st : Stage) → (s.part r0).stage ≡ st → Unseen s n
        at_stage between (stages.Entered g) is = seeks (λ x looked begun. ⊎_elim (λ looks. inr (looks, g, is)) (λ replied. inl replied) begun)
        at_stage between stages.Idle is = forgets between (λ g e. let z = sym is ∙ e in cc)
        at_stage between (stages.Loaded y) is = forgets between (λ g e. let z = sym is ∙ e in cc)
        at_stage between stages.Announced is = forgets between (λ g e. let z = sym is ∙ e in cc)
        at_stage between (stages.Scanning y next clear) is = forgets between (λ g e. let z = sym is ∙ e in cc)

        by : (b : Bool) → is_between (s.part r0).reads.look ≡ b → Unseen s n
        by true between = seeks (λ x looked begun. inl (ap is_between (sym looked) ∙ between))
        by false between = at_stage between (s.part r0).stage refl

  behind : (w v : World) (reached : Reached m l rs w) (at : StandsSeen m laws l limits rs allowed (sight m l rs w)) (es : List Event)
      → run m l rs w es ≡ Some v → IsBehind at.core.history v
  behind w v reached at es runs =
      run_has m l rs (IsBehind at.core.history) (step_behind at.core.history) es w v
      (record { reached = reached; stands = at; passes = passes_nowhere at.core.history; lows = λ k clock low. low }) runs

  pub in_order : (w v : World) → Reached m l rs w → (es : List Event) → run m l rs w es ≡ Some v
      → AreInRealTime m l rs (sight m l rs w) (sight m l rs v)
  in_order w v reached es runs k n unasked replied some =
      let s = sight m l rs w in
      let s' = sight m l rs v in
      let from = start s (reached_stands m laws l limits rs allowed w reached) n unasked in
      let at = from.stands in
      let to = behind w v reached at es runs in
      let h = at.core.history in
      let h' = to.stands.core.history in
      let sound = at.core.joined.sound in
      let own = stamp_is m laws l limits rs allowed s at k in
      let his = stamp_is m laws l limits rs allowed s' to.stands k in
      let its = stamp_is m laws l limits rs allowed s' to.stands n in
      let high = (to.passes.since n h.clock (unasked_since requests h n sound (record {
        unstamped = stamp_is m laws l limits rs allowed s at n ∙ unasked.unstamped;
        unpublished = λ d used going own'. unasked.unpublished (open_of m laws l limits rs allowed s at (requests.worker n) n d
            (subst (λ q. h.published (requests.worker q) ≡ suc d) own' (sound.sections.published d used going)) own');
        unseen = from.unseen;
      }))).stamped (λ none. some (sym its ∙ none)) in
      let low = to.lows k h.clock (replied_low requests h sound k (λ none. replied (sym (reply_is m laws l limits rs allowed s at k) ∙ none))) in (
        λ stamped. sym his ∙ (to.passes.stamps k (λ none. stamped (sym own ∙ none)) ∙ own),
        λ now. subst (λ a. Follows a (s'.word (Stamp n))) his (subst (λ b. Follows (h'.stamp k) b) its
            (follows_low requests (h'.stamp k) (h'.stamp n) h.clock
            (half_of requests h' to.stands.core.joined.sound k h.clock (λ none. now (sym his ∙ none)) low) high)),
      )

pub reached_linearizable : (m : Meaning) → Laws m → (l : Layout) (rs : List Request) → ReachedAreLinearizable m l rs
reached_linearizable m laws l rs limits allowed w v reached leads = in_order m laws l limits rs allowed w v reached leads.events leads.runs

pub linearizable_after : (m : Meaning) → Laws m → (l : Layout) (rs : List Request) (events : List Event) (w : World)
    → LinearizableAfter m l rs events w
linearizable_after m laws l rs events w limits allowed is at v begins =
    let rest = rest_runs m l rs events at is.start v w begins is.runs in
    in_order m laws l limits rs allowed v w
    (record { events = take at events; after = record { start = is.start; first = is.first; runs = begins } }) rest.0 rest.1
