-- The words of a request that a runner knows, loaded again.
use Rattle.std.specs.Prelude.{◌==◌, Bool, true, false, slice_get, if◌then◌else◌}
use Rattle.std.proofs.Common.{◌≡◌, ℕ, zero, suc, List, [], ◌∷◌, ◌++◌, refl, sym, ap, ◌∙◌, subst, ⊎_elim, Option, Some, None}
use Rattle.std.proofs.lemmas.Bool.{cases_eq}
use Rattle.machine_states.specs.map_history.specs.declared.op.Request.{Request}
use Rattle.machine_states.specs.map_history.specs.Words.{word_of}
use Rattle.machine_states.specs.table_words.specs.declared.sizes.Sizes.{Sizes}
use Rattle.machine_states.specs.table_words.specs.declared.spot.Spot.{Spot}
use Rattle.machine_states.specs.table_words.specs.declared.access.Access.{Access}
use Rattle.machine_states.specs.table_words.specs.declared.access.Access.TheVariants.{Loads}
use Rattle.machine_states.specs.table_words.specs.Access.{written}
use Rattle.machine_states.specs.table_words.specs.Limits.{IsWithinLimits}
use Rattle.machine_states.specs.table_words.specs.Places.{fits}
use Rattle.machine_states.specs.structure_laws.specs.Meaning.{Meaning}
use Rattle.machine_states.specs.structure_laws.specs.Laws.{Laws}
use Rattle.machine_states.specs.runner_parts.specs.declared.entries.Known.{Known}
use Rattle.machine_states.specs.runner_parts.specs.declared.event.EventKind.TheVariants as kinds
use Rattle.machine_states.specs.epoch_core.specs.declared.stage.Stage.TheVariants as stages
use Rattle.machine_states.specs.runner_parts.specs.Lists.{learned}
use Rattle.machine_states.specs.runner_parts.specs.State.{RunState, PartState, RecordsState}
use Rattle.machine_states.specs.runner_parts.specs.Tests.{is_answered, is_resting}
use Rattle.machine_states.specs.runner_steps.specs.Outside.{when, entry_spot}
use Rattle.machine_states.specs.runner_steps.specs.Asks.{ask_by, fitting, sizes_for}
use Rattle.machine_states.specs.Sight.{sight, part_or_first}
use Rattle.machine_states.proofs.Steps.{some_same, none_some}
use Rattle.machine_facts.specs.machine_invariant.specs.After.{AreAllowed}
use Rattle.version_words.specs.RunnerState.{RunnerState}
use Rattle.version_words.specs.Events.{Makes}
use Rattle.version_words.specs.ReachedWith.{is_told}
use Rattle.version_words.specs.Stages.{IsAt}
use Rattle.version_words.proofs.Stages.{then_knows}
use Rattle.caller_facts.specs.epoch_slots.specs.Collects.{IsTidy}
use Rattle.caller_facts.specs.epoch_slots.specs.Entries.{Exits}
use Rattle.caller_facts.specs.epoch_slots.proofs.Outside.{nodes_made, guards_made, known_made, finished_made}
use Rattle.machine_facts.specs.Known.{KnownStand}
use Rattle.machine_facts.proofs.Following.{facts_after}
use Rattle.request_facts.specs.Placed.{IsServedAs}
use Rattle.request_facts.specs.Laws.{HasEntry, IsKnown}
use Rattle.request_facts.proofs.Standing.{callers_stand}
use Rattle.caller_facts.specs.Knowing.{KnowsMore, IsOwn}
use Rattle.attempts.specs.Rests.{LearnsNoOwn, MayLearn, HasLearnt}
use Rattle.caller_facts.proofs.Knowing.{front_same, front_on, front_entry, knows_same, knows_on, own_on, answered_on, answered_of_other, append_none}
use Rattle.attempts.proofs.LettingGo.{exits_tidy}

-- what is met is what fits
fitting_same : (s : Sizes) (y x : Spot × Access) → fitting s (Some y) ≡ Some x → y ≡ x
fitting_same s y x = by (fits s y.0)
  where
    by : (b : Bool) → (if b then Some y else None) ≡ Some x → y ≡ x
    by true e = some_same y x e
    by false e = absurd (none_some x (sym e))

-- what a load of an entry learns, as more known words
abbrev entry_of : ℕ → Bool → ℕ → List Known
entry_of n reply found = if found == 0 then [] else (record { request = n; reply = reply; number = found } ∷ [])

learned_adds : (s : RecordsState) (n : ℕ) (reply : Bool) (found : ℕ) → (learned s n reply found).known ≡ s.known ++ entry_of n reply found
learned_adds s n reply found = by (found == 0) refl
  where
    by : (b : Bool) → (found == 0) ≡ b → (learned s n reply found).known ≡ s.known ++ entry_of n reply found
    by true e = ap (λ b. (if b then s else record s { known = s.known ++ record { request = n; reply = reply; number = found } ∷ [] }).known) e
        ∙ (sym (append_none s.known) ∙ ap (λ b. s.known ++ (if b then [] else (record { request = n; reply = reply; number = found } ∷ []))) (sym e))
    by false e = ap (λ b. (if b then s else record s { known = s.known ++ record { request = n; reply = reply; number = found } ∷ [] }).known) e
        ∙ ap (λ b. s.known ++ (if b then [] else (record { request = n; reply = reply; number = found } ∷ []))) (sym e)

only_entry : (n : ℕ) (reply : Bool) (found i : ℕ) (x : Known) → slice_get (entry_of n reply found) i ≡ Some x → x.request ≡ n
only_entry n reply found i x = by (found == 0)
  where
    by : (b : Bool) → slice_get (if b then [] else (record { request = n; reply = reply; number = found } ∷ [])) i ≡ Some x → x.request ≡ n
    by true e = absurd (none_some x (sym e))
    by false e = first i e
      where
        first : (i : ℕ) → slice_get (record { request = n; reply = reply; number = found } ∷ []) i ≡ Some x → x.request ≡ n
        first zero e = ap (λ (y : Known). y.request) (sym (some_same _ x e))
        first (suc i) e = absurd (none_some x (sym e))

module _ {T : Type 0} (m : Meaning) (n : ℕ) (reply : Bool) (found : ℕ) (r r' : RunnerState T) (made : Makes m (kinds.LoadEntry n reply) found r r')
    (idle : IsAt r stages.Idle None) where
  -- it met the request's word
  met : made.met ≡ (entry_spot n reply, Loads)
  met = sym (fitting_same (sizes_for m r.layout r.requests) (entry_spot n reply, Loads) made.met
      (sym (ap (λ g. if g then None else fitting (sizes_for m r.layout r.requests) (ask_by m r.layout r.requests r.number (kinds.LoadEntry n reply) r.part r.part.run)) idle.present
      ∙ (ap (λ (o : Option RunState). fitting (sizes_for m r.layout r.requests) (ask_by m r.layout r.requests r.number (kinds.LoadEntry n reply) r.part o)) idle.resting
      ∙ ap (λ b. fitting (sizes_for m r.layout r.requests) (when b (entry_spot n reply) Loads)) (λ i. is_resting (idle.at i) (idle.resting i)))) ∙ made.asked))

  known_after : r'.part.records.known ≡ r.part.records.known ++ entry_of n reply found
  known_after = known_made m (kinds.LoadEntry n reply) found r r' made idle.resting
      ∙ learned_adds r.part.records n reply found

  pub load_finished : r'.part.records.finished ≡ r.part.records.finished
  load_finished = finished_made m (kinds.LoadEntry n reply) found r r' made idle.resting
      ∙ kept_finished (found == 0)
    where
      kept_finished : (b : Bool) → (if b then r.part.records else record (r.part.records) { known = r.part.records.known ++ record { request = n; reply = reply; number = found } ∷ [] }).finished ≡ r.part.records.finished
      kept_finished true = refl
      kept_finished false = refl

  pub load_knows : KnowsMore r r'
  load_knows = record {
    number = ap (λ (y : RunnerState T). y.number) made.made;
    known = record { back = entry_of n reply found; parts = known_after };
    finished = front_same r.part.records.finished r'.part.records.finished load_finished;
  }

  pub load_tidy : IsTidy r → IsTidy r'
  load_tidy tidy = record {
    at = then_knows m found r r' None stages.Idle n reply made tidy.at;
    hand = ap (λ s. s.hand) nodes_same ∙ tidy.hand;
    tests = ap (λ s. s.tests) nodes_same ∙ tidy.tests;
    looked = ap (λ s. s.looked) guards_same ∙ tidy.looked;
    unguarded = ap (λ s. s.named) guards_same ∙ tidy.unguarded;
  }
    where
      nodes_same : r'.part.nodes ≡ r.part.nodes
      nodes_same = nodes_made m (kinds.LoadEntry n reply) found r r' made idle.resting

      guards_same : r'.part.guards ≡ r.part.guards
      guards_same = guards_made m (kinds.LoadEntry n reply) found r r' made idle.resting

  -- so nothing is learned of a request but this one, and this one was known
  pub load_no_own : is_answered r.part.records.known n ≡ true → LearnsNoOwn m r r'
  load_no_own known q own = ap (λ xs. is_answered xs q.number) known_after ∙ ⊎_elim
      (λ same. let was = subst (λ k. is_answered r.part.records.known k ≡ true) same known in
      answered_on r.part.records.known (entry_of n reply found) q.number was ∙ sym was)
      (λ ne. answered_of_other r.part.records.known (entry_of n reply found) q.number n (only_entry n reply found) ne)
      (cases_eq n q.number)

  -- the word before the load, and after it, is what was found
  pub found_before : (sight m r'.layout r'.requests made.shown.before).word (entry_spot n reply) ≡ found
  found_before = ap (λ (x : Spot × Access). (sight m r'.layout r'.requests made.shown.before).word x.0) (sym met)
      ∙ made.shown.was_found (ap (λ (x : Spot × Access). is_told x.1) met)

  pub found_after : (sight m r'.layout r'.requests made.shown.world).word (entry_spot n reply) ≡ found
  found_after = ap (λ (x : Spot × Access). (sight m r'.layout r'.requests made.shown.world).word x.0) (sym met)
      ∙ (made.shown.word ∙ ap (λ (x : Spot × Access). written x.1 found) met)

-- the runner leaves, and loads both words of a request that it knows
module _ {T : Type 0} (m : Meaning) (laws : Laws m) (map : m.is_map ≡ true) (request : Request) (old r0 r1 r2 : RunnerState T) (may : MayLearn m request old)
    (exits : Exits m old r0) (stamp word : ℕ) (one : Makes m (kinds.LoadEntry request.number false) stamp r0 r1)
    (two : Makes m (kinds.LoadEntry request.number true) word r1 r2)
    (limits : IsWithinLimits r2.layout) (allowed : AreAllowed r2.requests) (layout : r1.layout ≡ r2.layout) (requests : r1.requests ≡ r2.requests)
    (layout_old : r0.layout ≡ old.layout) (requests_old : r0.requests ≡ old.requests) (layout_one : r1.layout ≡ r0.layout) (requests_one : r1.requests ≡ r0.requests) where
  abbrev n : ℕ
  n = request.number

  left : IsTidy r0
  left = exits_tidy m old r0 may.hand may.leave.unguarded exits

  tidy_one : IsTidy r1
  tidy_one = load_tidy m n false stamp r0 r1 one left.at left

  tidy_two : IsTidy r2
  tidy_two = load_tidy m n true word r1 r2 two tidy_one.at tidy_one

  known_none : is_answered r0.part.records.known n ≡ true
  known_none = ap (λ xs. is_answered xs n) exits.keeps.known ∙ may.knows

  own_of : (q : Request) → IsOwn old q → IsOwn r0 q
  own_of q own = own_on old r0 requests_old layout_old exits.keeps.number q own

  known_one : is_answered r1.part.records.known n ≡ true
  known_one = ap (λ xs. is_answered xs n) (known_after m n false stamp r0 r1 one left.at)
      ∙ answered_on r0.part.records.known (entry_of n false stamp) n known_none

  known_two : is_answered r2.part.records.known n ≡ true
  known_two = ap (λ xs. is_answered xs n) (known_after m n true word r1 r2 two tidy_one.at)
      ∙ answered_on r1.part.records.known (entry_of n true word) n known_one

  knows_one : KnowsMore r0 r1
  knows_one = load_knows m n false stamp r0 r1 one left.at

  knows_two : KnowsMore r1 r2
  knows_two = load_knows m n true word r1 r2 two tidy_one.at

  -- what is known in the last state
  here : (sight m r2.layout r2.requests two.shown.world).part r2.number ≡ r2.part
  here = ap part_or_first two.shown.own

  pub is_known : IsKnown m r2.layout r2.requests (sight m r2.layout r2.requests two.shown.world) r2.part.records.known n
  is_known = subst (λ (p : PartState). IsKnown m r2.layout r2.requests (sight m r2.layout r2.requests two.shown.world) p.records.known n) here
      ((callers_stand m laws r2.layout r2.requests limits allowed two.shown.world two.shown.reached).known map r2.number n
      (ap (λ (p : PartState). is_answered p.records.known n) here ∙ known_two))

  -- and before the first load
  there : (sight m r1.layout r1.requests one.shown.before).part r1.number ≡ r0.part
  there = ap part_or_first one.shown.was_own

  was_known : IsKnown m r1.layout r1.requests (sight m r1.layout r1.requests one.shown.before) r0.part.records.known n
  was_known = subst (λ (p : PartState). IsKnown m r1.layout r1.requests (sight m r1.layout r1.requests one.shown.before) p.records.known n) there
      ((callers_stand m laws r1.layout r1.requests (subst IsWithinLimits (sym layout) limits) (subst AreAllowed (sym requests) allowed) one.shown.before one.shown.was_reached).known map r1.number n
      (ap (λ (p : PartState). is_answered p.records.known n) there ∙ known_none))

  still : KnownStand (sight m r2.layout r2.requests two.shown.world)
  still = (facts_after m laws r2.layout r2.requests two.shown.reached.events two.shown.world limits allowed two.shown.reached.after).here.known

  known_entry : HasEntry r2.part.records.known (record { request = n; reply = false; number = was_known.stamp })
  known_entry = (
    was_known.knows_stamp.0,
    front_entry r0.part.records.known r2.part.records.known was_known.knows_stamp.0 _
        (front_on r0.part.records.known r1.part.records.known r2.part.records.known knows_one.known knows_two.known) was_known.knows_stamp.1,
  )

  same_stamp : is_known.stamp ≡ stamp
  same_stamp = sym is_known.served.stamp_word
      ∙ (still.stands r2.number known_entry.0 _ (ap (λ (p : PartState). slice_get p.records.known known_entry.0) here ∙ known_entry.1)
      ∙ (sym was_known.served.stamp_word ∙ found_before m n false stamp r0 r1 one left.at))

  pub same_word : word ≡ word_of is_known.reply
  same_word = sym (found_after m n true word r1 r2 two tidy_one.at) ∙ is_known.served.reply_word

  pub has_learnt : HasLearnt m request is_known.reply stamp old r2
  has_learnt = record {
    leaves = record { stamp = stamp; reply = word; idle = r0; stamped = r1; exits = exits; loads_stamp = one; loads_reply = two };
    knows = knows_on old r0 r2 (knows_same old r0 exits.keeps.number exits.keeps.known exits.keeps.finished) (knows_on r0 r1 r2 knows_one knows_two);
    no_own = λ q own. load_no_own m n true word r1 r2 two tidy_one.at known_one q (own_on r0 r1 requests_one layout_one (load_knows m n false stamp r0 r1 one left.at).number q (own_of q own))
        ∙ (load_no_own m n false stamp r0 r1 one left.at known_none q (own_of q own) ∙ ap (λ xs. is_answered xs q.number) exits.keeps.known);
    tidy = tidy_two;
    reached = record { world = two.shown.world; reached = two.shown.reached; own = two.shown.own };
    knows_stamp = subst (λ x. HasEntry r2.part.records.known (record { request = n; reply = false; number = x })) same_stamp is_known.knows_stamp;
    knows_reply = is_known.knows_reply;
    served = subst (λ x. IsServedAs m r2.layout r2.requests (sight m r2.layout r2.requests two.shown.world) n x is_known.reply) same_stamp is_known.served;
    finished = load_finished m n true word r1 r2 two tidy_one.at ∙ (load_finished m n false stamp r0 r1 one left.at ∙ exits.keeps.finished);
  }
