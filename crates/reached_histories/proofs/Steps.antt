-- Each step of the machine is steps of the joint states with the history.
use Rattle.std.specs.Prelude.{◌==◌, ◌||◌, cond, slice_get, Bool, true, false, []}
use Rattle.std.proofs.Common.{◌≡◌, ◌≢◌, ℕ, suc, ◌≤◌, List, ◌∷◌, ◌++◌, length, refl, sym, ap, ◌∙◌, subst, ⊎_elim, arith, Option, Some, None}
use Rattle.std.proofs.lemmas.Bool.{cases_eq}
use Rattle.std.proofs.lemmas.Bool.Decides.{nat_tests}
use Rattle.std.proofs.lemmas.List.{append-nil}
use Rattle.machine_states.specs.map_history.specs.declared.op.Request.{Request}
use Rattle.machine_states.specs.body_terms.specs.Line.{line, micro_at, committed}
use Rattle.machine_states.specs.body_terms.specs.declared.thunk.Thunk.{Thunk}
use Rattle.machine_states.specs.structure_laws.proofs.Changes.{upd_same, upd_other}
use Rattle.machine_states.specs.table_words.specs.declared.layout.Layout.{Layout}
use Rattle.machine_states.specs.table_words.specs.Limits.{IsWithinLimits}
use Rattle.machine_states.specs.structure_laws.specs.Meaning.{Meaning}
use Rattle.machine_states.specs.structure_laws.specs.Laws.{Laws}
use Rattle.machine_states.specs.runner_parts.specs.declared.entries.Known.{Known}
use Rattle.machine_states.specs.runner_parts.specs.declared.entries.Published.{Published}
use Rattle.machine_states.specs.runner_parts.specs.declared.event.EventKind.{EventKind}
use Rattle.machine_states.specs.runner_parts.specs.declared.event.EventKind.TheVariants as kinds
use Rattle.machine_states.specs.runner_parts.specs.State.{PartState}
use Rattle.machine_states.specs.runner_parts.specs.Tests.{has, is_answered}
use Rattle.machine_states.specs.body_terms.specs.Update.{upd}
use Rattle.machine_states.specs.runner_steps.specs.AfterOutside.{published_by}
use Rattle.machine_states.specs.runner_steps.specs.Asks.{asks}
use Rattle.still_reads.specs.agreement_core.specs.Events as agreement
use Rattle.still_reads.specs.agreement_core.specs.Schedules as agreement_schedules
use Rattle.machine_states.specs.epoch_core.specs.State.{Counts}
use Rattle.machine_states.specs.epoch_core.specs.History.{is_out}
use Rattle.machine_states.specs.epoch_core.specs.Schedules as epoch_schedules
use Rattle.machine_history.specs.history_core.specs.State.{Requests, HistoryState, is_replied}
use Rattle.machine_history.specs.history_core.specs.Events as history
use Rattle.machine_history.specs.history_core.specs.Schedules.{after_all}
use Rattle.machine_history.specs.history_core.proofs.RealTime.{Passes, passes_more, event_passes, unused_apart}
use Rattle.machine_states.specs.Sight.{Sight, Steps, sight_after}
use Rattle.machine_states.proofs.Steps.{some_same}
use Rattle.machine_facts.specs.machine_agreement.specs.machine_epochs.specs.Entries.{counts_of}
use Rattle.machine_facts.specs.machine_agreement.specs.machine_scenes.specs.Shown.{States, rules_of}
use Rattle.machine_facts.specs.machine_agreement.specs.machine_scenes.specs.Steps as scenes
use Rattle.machine_history.specs.Steps.{Joint, Publish}
use Rattle.machine_history.specs.Laws.{IsJoined}
use Rattle.machine_history.proofs.Joining.{steps_keep}
use Rattle.still_reads.specs.Standing.{WalksStand}
use Rattle.still_reads.proofs.Steps.{walks_after}
use Rattle.machine_facts.specs.machine_invariant.specs.After.{AreAllowed}
use Rattle.machine_facts.specs.machine_invariant.specs.Whole.{Beside, states_of, IsWhole}
use Rattle.machine_facts.specs.machine_invariant.proofs.AllKinds.{step_whole}
use Rattle.machine_facts.specs.machine_invariant.proofs.Following.{StepsWhole}
use Rattle.machine_facts.specs.machine_invariant.proofs.Jointly.{behind_lock, JointSteps, GoesQuietly, GoesByPublishing}
use Rattle.machine_facts.specs.Known.{KnownStand}
use Rattle.reached_histories.specs.Requests.{requests_of}
use Rattle.reached_histories.specs.Kept.{link_of, AreKept}
use Rattle.machine_facts.specs.Told.{RunsAreTold}
use Rattle.reached_histories.specs.Keeping.{answered_in, learns, ends, PublishesNothing}
use Rattle.reached_histories.specs.Publishing.{IsPublication, behind_read}
use Rattle.reached_histories.proofs.Keeping.{steps_kept, ends_are_own, publications_kept, after_append, own, others, others_same, learned_published, learned_else, learned_here}
use Rattle.reached_histories.proofs.Keeping as keeping
use Rattle.reached_histories.proofs.Parts.{WasPublished}
use Rattle.reached_histories.proofs.Publishing.{publications_may_come}
use Rattle.machine_facts.proofs.ToldSteps.{steps_tell}
use Rattle.reached_histories.proofs.Quietly.{KnowsAlike, goes_alike, goes_nowhere, JoinedAlike, with_history, passes_joined}
use Rattle.reached_histories.proofs.Publications.{IsOwn, passes_between, goes_later, later_between, own_later, own_published, own_elsewhere}
use Rattle.reached_histories.proofs.Learning.{learns_alike, learns_joined, ends_joined}

-- what runners keep, by what is known and published
pub kept_alike : (s : Sight) (w v : HistoryState) → KnowsAlike w v → AreKept s w → AreKept s v
kept_alike s w v alike kept = record {
  known = λ i n. ap (λ (f : ℕ → ℕ → Bool). f i n) alike.known ∙ kept.known i n;
  published = λ i. ap (λ (f : ℕ → ℕ). f i) alike.published ∙ kept.published i;
}

of_link : (n d : ℕ) → suc n ≡ suc d → n ≡ d
of_link n d e = omega arith

-- behind the end of an own run nothing else is published
ended_link : (c : Requests) (w : HistoryState) (r before now i d : ℕ) → (after_all c w (ends r before now)).published i ≡ suc d
    → w.published i ≡ suc d
ended_link c w r before now i d = by (before == now)
  where
    by : (b : Bool) → (after_all c w (cond b [] (history.Over r ∷ []))).published i ≡ suc d → w.published i ≡ suc d
    by true e = e
    by false e = ⊎_elim
        (λ own. absurd (let clash : 0 ≡ suc d = sym (upd_same w.published r i 0 own) ∙ e in cc))
        (λ ne. sym (upd_other w.published r i 0 ne) ∙ e)
        (cases_eq i r)

-- what a runner learns changes nothing of what it has seen, nor does the end of its own run
pub learned_look : (c : Requests) (r : ℕ) (ns : List ℕ) (w : HistoryState) → (after_all c w (learns r ns)).look ≡ w.look
learned_look c r [] w = refl
learned_look c r (n ∷ ns) w = learned_look c r ns (history.after c w (history.Learn r n))

pub ended_look : (c : Requests) (r before now : ℕ) (w : HistoryState) → (after_all c w (ends r before now)).look ≡ w.look
ended_look c r before now w = by (before == now)
  where
    by : (b : Bool) → (after_all c w (cond b [] (history.Over r ∷ []))).look ≡ w.look
    by true = refl
    by false = refl

module _ (m : Meaning) (laws : Laws m) (l : Layout) (limits : IsWithinLimits l) (rs : List Request) (allowed : AreAllowed rs) where
  abbrev c : Counts
  c = counts_of m l

  abbrev requests : Requests
  requests = requests_of m l rs

  -- a state of the machine that meets the whole invariant, beside joint states that are joined with a history
  pub record Stands (s : Sight) : Type 0 where
    pub beside : Beside
    pub history : HistoryState
    pub whole : IsWhole m l beside s
    pub asked : beside.publications.requests ≡ rs
    pub joined : IsJoined m l c requests (with_history m laws l limits rs (states_of beside s) history)
    pub kept : AreKept s history
    pub told : RunsAreTold m s
    -- what is known of the sections that workers have published and not retired
    pub publications : (r : ℕ) (x : Published) → (s.part r).published ≡ Some x
        → IsOwn requests history (s.part r).records.known r x.descriptor x.thunk.request x.known
    -- what runners have read behind free locks stands as long as these do
    pub walks : WalksStand m (states_of beside s)

  -- a state stands beside a history that has come from this one by this event, and has seen the same looks since
  pub record ReadsTo (s' : Sight) (w v : HistoryState) : Type 0 where
    pub to : Stands s'
    pub look : to.history.look ≡ v.look
    pub on : Passes v to.history
    pub passes : Passes w to.history

  -- the same of what was there before, but for being over
  pub same_own : (w : HistoryState) (known : List Known) (i : ℕ) (x x' : Published) → x'.descriptor ≡ x.descriptor → x'.thunk ≡ x.thunk
      → x'.known ≡ x.known → IsOwn requests w known i x.descriptor x.thunk.request x.known
      → IsOwn requests w known i x'.descriptor x'.thunk.request x'.known
  same_own w known i x x' descriptor thunk count is =
      subst (λ n. IsOwn requests w known i n x'.thunk.request x'.known) (sym descriptor)
      (subst (λ (t : Thunk). IsOwn requests w known i x.descriptor t.request x'.known) (sym thunk)
      (subst (λ n. IsOwn requests w known i x.descriptor x.thunk.request n) (sym count) is))

  -- a step on the same word, of a kind that is known
  pub of_kind : (s s' : Sight) (r : ℕ) (kind kind' : EventKind) → kind ≡ kind' → Steps m l rs s s' r kind → Steps m l rs s s' r kind'
  of_kind s s' r kind kind' same step = record {
    runner = step.runner;
    ask = step.ask;
    asked = subst (λ (k : EventKind). asks m l rs r k (s.part r) ≡ Some step.ask) same step.asked;
    has_word = step.has_word;
    next = subst (λ (k : EventKind). s' ≡ sight_after m l s r k step.ask) same step.next;
  }

  -- on the same word
  pub of_kind_ask : (s s' : Sight) (r : ℕ) (kind kind' : EventKind) (same : kind ≡ kind') (step : Steps m l rs s s' r kind)
      → (of_kind s s' r kind kind' same step).ask ≡ step.ask
  unfolding of_kind
  of_kind_ask s s' r kind kind' same step = refl

  module _ (s s' : Sight) (r : ℕ) (kind : EventKind) (step : Steps m l rs s s' r kind) (known : KnownStand s') (old : Stands s) where
    abbrev g : Beside
    g = old.beside

    abbrev w : HistoryState
    w = old.history

    pub one : StepsWhole m l rs g s s' r kind
    one = step_whole m laws l limits rs allowed.in_order.few allowed.each g s s' r kind old.whole old.asked step

    abbrev pub g' : Beside
    g' = record {
      agreement = agreement_schedules.after_all (rules_of m l) g.agreement one.es;
      epochs = epoch_schedules.after_all c g.epochs one.vs;
      publications = one.publications;
    }

    pub same_ask : one.ask ≡ step.ask
    same_ask = some_same one.ask step.ask (sym one.asked ∙ step.asked)

    -- a published section that isn't run to its end is live
    live : (i d : ℕ) → w.published i ≡ suc d → g.agreement.live d ≡ true
    live i d is = by (s.part i).published refl (sym (old.kept.published i) ∙ is)
      where
        by : (o : Option Published) → (s.part i).published ≡ o → link_of (s.part i).published ≡ suc d → g.agreement.live d ≡ true
        by None none e = absurd (let clash : 0 ≡ suc d = sym (ap link_of none) ∙ e in cc)
        by (Some y) some e = subst (λ n. g.agreement.live n ≡ true) (of_link y.descriptor d (sym (ap link_of some) ∙ e))
            (old.whole.tied.is_live y.descriptor ((old.whole.slots.tied i).published y some))

    -- what a worker has published and not run to its end is what it has published and not retired
    linked : (i : ℕ) (x : Published) → (s.part i).published ≡ Some x → (e : ℕ) → w.published i ≡ suc e → x.descriptor ≡ e
    linked i x at e is = of_link x.descriptor e (sym (ap link_of at) ∙ (sym (old.kept.published i) ∙ is))

    -- nothing is published: the own run may come to its end first, and what the runner comes to know is learned last
    module _ (quiet : GoesQuietly m l g s kind (s.word one.ask.0) (states_of g' s')) where
      pub nothing : PublishesNothing m l rs s s' r kind step
      nothing t d is e = quiet.nothing t d is (ap s.word (ap (λ x. x.0) same_ask) ∙ e)

      abbrev now : ℕ
      now = link_of (s'.part r).published

      abbrev ns : List ℕ
      ns = answered_in (s'.part r).records.known

      ended : HistoryState
      ended = after_all requests w (ends r (link_of (s.part r).published) now)

      ended_joined : IsJoined m l c requests (with_history m laws l limits rs (states_of g s) ended)
      unfolding ended
      ended_joined = ends_joined m laws l limits rs g s w r now old.whole old.kept old.told old.joined
          (ends_are_own m l rs g s s' r kind old.whole step nothing)

      ended_live : (i d : ℕ) → ended.published i ≡ suc d → g.agreement.live d ≡ true
      unfolding ended
      ended_live i d is = live i d (ended_link requests w r (link_of (s.part r).published) now i d is)

      passed : JoinedAlike m laws l limits rs ended (states_of g' s')
      passed = passes_joined m laws l limits rs (states_of g s) ended ended_live (states_of g' s') quiet.passed
          (record { history = ended; joined = ended_joined; on = goes_nowhere requests ended; walks = old.walks })

      kept_now : AreKept s' (after_all requests passed.history (learns r ns))
      unfolding ended
      kept_now = kept_alike s' _ _ (learns_alike requests r ns ended passed.history (goes_alike requests _ _ passed.on))
          (subst (AreKept s') (after_append requests r (ends r (link_of (s.part r).published) now) (learns r ns) w)
          (steps_kept m l rs requests g s s' w r kind old.whole step nothing old.kept))

      grown : (i : ℕ) → (more : List Known) × ((s'.part i).records.known ≡ (s.part i).records.known ++ more)
      grown i = ⊎_elim
          (λ same. subst (λ k. (more : List Known) × ((s'.part k).records.known ≡ (s.part k).records.known ++ more)) (sym same)
          (own m l rs g s s' r kind old.whole step nothing).appends)
          (λ ne. ([], (others m l rs g s s' r kind old.whole step i ne).known ∙ sym (append-nil (s.part i).records.known)))
          (cases_eq i r)

      was : (i : ℕ) (x' : Published) → (s'.part i).published ≡ Some x' → WasPublished (s.part i).published x'
      was i x' at = ⊎_elim
          (λ same. subst (λ k. WasPublished (s.part k).published x') (sym same)
          ((own m l rs g s s' r kind old.whole step nothing).was x' (ap (λ k. (s'.part k).published) (sym same) ∙ at)))
          (λ ne. (x', sym (others m l rs g s s' r kind old.whole step i ne).published ∙ at, refl, refl, refl))
          (cases_eq i r)

      publications_stay : (i : ℕ) (x' : Published) → (s'.part i).published ≡ Some x'
          → IsOwn requests (after_all requests passed.history (learns r ns)) (s'.part i).records.known i x'.descriptor x'.thunk.request x'.known
      unfolding ended
      publications_stay i x' at =
          let h = was i x' at in
          let more = grown i in
          subst (λ (known : List Known). IsOwn requests (after_all requests passed.history (learns r ns)) known i x'.descriptor x'.thunk.request x'.known)
          (sym more.1)
          (same_own _ _ i h.0 x' h.2 h.3 h.4
          (own_later requests i h.0.descriptor h.0.thunk.request h.0.known w _ (s.part i).records.known more.0
          (linked i h.0 h.1) (later_between requests r (link_of (s.part r).published) now ns w passed.history
          (ended_link requests w r (link_of (s.part r).published) now) passed.on) (old.publications i h.0 h.1)))

      pub quietly : Stands s'
      quietly = record {
        beside = g';
        history = after_all requests passed.history (learns r ns);
        whole = one.whole;
        asked = one.requests ∙ old.asked;
        joined = learns_joined m laws l limits rs g' s' passed.history r one.whole known passed.joined;
        kept = kept_now;
        told = steps_tell m l rs g s s' r kind old.whole step old.told;
        publications = publications_stay;
        walks = passed.walks;
      }

      pub quietly_look : quietly.history.look ≡ w.look
      unfolding quietly ended
      quietly_look = learned_look requests r ns passed.history ∙ (passed.on.look ∙ ended_look requests r (link_of (s.part r).published) now w)

      pub quietly_passes : Passes w quietly.history
      unfolding quietly ended
      quietly_passes = passes_between requests r (link_of (s.part r).published) now ns w passed.history passed.on.passes

    -- a section is published
    module _ (goes : GoesByPublishing m l g s r kind (s.word one.ask.0) (states_of g' s')) (settled : is_replied (w.look r) ≡ false) where
      abbrev t : Thunk
      t = goes.thunk

      abbrev d : ℕ
      d = goes.descriptor

      hold : Steps m l rs s s' r (kinds.Hold t d)
      hold = of_kind s s' r kind (kinds.Hold t d) goes.kind_is step

      found : s.word hold.ask.0 ≡ t.word
      unfolding hold of_kind
      found = ap s.word (ap (λ x. x.0) (sym same_ask)) ∙ goes.found_is

      publication : IsPublication m l rs (behind_read m l rs g s w t.lock) r d t
      publication = publications_may_come m l rs allowed g s w old.whole old.kept r d t hold.ask hold.asked settled goes.publishes

      same_request : publication.request ≡ goes.request
      same_request = some_same publication.request goes.request
          (sym publication.asked ∙ (ap (λ (qs : List Request). slice_get qs t.request) (sym old.asked) ∙ goes.asked))

      abbrev published : HistoryState
      published = history.after requests w (history.Publish r d t.request publication.reply)

      abbrev behind : Request → States
      behind q = scenes.after m l c (behind_lock m l (states_of g s) t.lock)
          (scenes.Publish r d t.lock t.word t.request (micro_at (line (m.body t))) (committed (line (m.body t))) q.op t)

      read_joined : IsJoined m l c requests (with_history m laws l limits rs (behind_lock m l (states_of g s) t.lock) w)
      read_joined = steps_keep m laws l limits c refl requests refl (with_history m laws l limits rs (states_of g s) w)
          (Joint (scenes.Agreement (agreement.Read t.lock))) (refl, (refl, tt), tt) old.joined

      read_walks : WalksStand m (behind_lock m l (states_of g s) t.lock)
      read_walks = walks_after m laws l limits c (states_of g s) old.joined.kept old.walks (scenes.Agreement (agreement.Read t.lock)) (refl, tt)

      published_walks : WalksStand m (behind goes.request)
      published_walks = subst (λ (q : Request). WalksStand m (behind q)) same_request
          (walks_after m laws l limits c (behind_lock m l (states_of g s) t.lock) read_joined.kept read_walks
          (scenes.Publish r d t.lock t.word t.request (micro_at (line (m.body t))) (committed (line (m.body t))) publication.request.op t)
          publication.may.enabled)

      published_joined : IsJoined m l c requests (with_history m laws l limits rs (behind goes.request) published)
      published_joined = subst (λ (q : Request). IsJoined m l c requests (with_history m laws l limits rs (behind q) published)) same_request
          (steps_keep m laws l limits c refl requests refl (with_history m laws l limits rs (behind_lock m l (states_of g s) t.lock) w)
          (Publish r d t.lock t.word t.request (micro_at (line (m.body t))) (committed (line (m.body t))) publication.request.op t publication.reply)
          publication.may read_joined)

      published_live : (i e : ℕ) → published.published i ≡ suc e → (behind goes.request).agreement.live e ≡ true
      published_live i e is = ⊎_elim
          (λ same. upd_same g.agreement.live d e true same)
          (λ ne. upd_other g.agreement.live d e true ne ∙ ⊎_elim
          (λ own. absurd (ne (same_suc e d (sym (sym (upd_same w.published r i (suc d) own) ∙ is)))))
          (λ other. live i e (sym (upd_other w.published r i (suc d) other) ∙ is))
          (cases_eq i r))
          (cases_eq e d)
        where
          same_suc : (a b : ℕ) → suc a ≡ suc b → a ≡ b
          same_suc a b e = omega arith

      passed_on : JoinedAlike m laws l limits rs published (states_of g' s')
      passed_on = passes_joined m laws l limits rs (behind goes.request) published published_live (states_of g' s') goes.passed
          (record { history = published; joined = published_joined; on = goes_nowhere requests published; walks = published_walks })

      -- a section that isn't retired is in another descriptor
      elsewhere : (i : ℕ) (x : Published) → (s.part i).published ≡ Some x → x.descriptor ≢ d
      elsewhere i x at same =
          let used : g.agreement.used x.descriptor ≡ true =
          old.whole.tied.used x.descriptor ∙ ap is_out ((old.whole.slots.tied i).published x at) in
          let clash : true ≡ false = sym used ∙ (ap g.agreement.used same ∙ publication.may.enabled.enabled.0) in cc

      own_now : IsOwn requests published (s.part r).records.known r d t.request (length (s.part r).records.known)
      own_now = own_published requests w old.joined.sound r d t.request publication.reply (s.part r).records.known (old.kept.known r)
          publication.may.idle publication.may.own publication.may.unknown

      publications_go : (i : ℕ) (x : Published) → (s'.part i).published ≡ Some x
          → IsOwn requests passed_on.history (s'.part i).records.known i x.descriptor x.thunk.request x.known
      publications_go i x at = ⊎_elim mine theirs (cases_eq i r)
        where
          same_suc : (a b : ℕ) → suc a ≡ suc b → a ≡ b
          same_suc a b e = omega arith

          later : (i : ℕ) (x : Published) (known : List Known) → ((e : ℕ) → published.published i ≡ suc e → x.descriptor ≡ e)
              → IsOwn requests published known i x.descriptor x.thunk.request x.known
              → IsOwn requests passed_on.history known i x.descriptor x.thunk.request x.known
          later i x known link is = subst (λ (xs : List Known). IsOwn requests passed_on.history xs i x.descriptor x.thunk.request x.known)
              (append-nil known)
              (own_later requests i x.descriptor x.thunk.request x.known published passed_on.history known [] link
              (goes_later requests published passed_on.history passed_on.on) is)

          mine : i ≡ r → IsOwn requests passed_on.history (s'.part i).records.known i x.descriptor x.thunk.request x.known
          mine same =
              let part = keeping.own_published m l rs s s' r d t hold found in
              let is : x ≡ published_by t d (s.part r) = some_same x (published_by t d (s.part r))
              (sym (ap (λ k. (s'.part k).published) (sym same) ∙ at) ∙ part.published) in
              subst (λ k. IsOwn requests passed_on.history (s'.part k).records.known k x.descriptor x.thunk.request x.known) (sym same)
              (subst (λ (xs : List Known). IsOwn requests passed_on.history xs r x.descriptor x.thunk.request x.known) (sym part.known)
              (subst (λ (y : Published). IsOwn requests passed_on.history (s.part r).records.known r y.descriptor y.thunk.request y.known) (sym is)
              (later r (published_by t d (s.part r)) (s.part r).records.known
              (λ e own. same_suc d e (sym (upd_same w.published r r (suc d) refl) ∙ own)) own_now)))

          theirs : i ≢ r → IsOwn requests passed_on.history (s'.part i).records.known i x.descriptor x.thunk.request x.known
          theirs ne =
              let part = others_same m l rs s s' r d t hold found i ne in
              let there : (s.part i).published ≡ Some x = sym (ap (λ (p : PartState). p.published) part) ∙ at in
              subst (λ (p : PartState). IsOwn requests passed_on.history p.records.known i x.descriptor x.thunk.request x.known) (sym part)
              (later i x (s.part i).records.known
              (λ e own. linked i x there e (sym (upd_other w.published r i (suc d) ne) ∙ own))
              (own_elsewhere requests w r d t.request publication.reply (s.part i).records.known i x.descriptor x.thunk.request x.known
              (elsewhere i x there) (old.publications i x there)))

      pub publishing : Stands s'
      publishing = record {
        beside = g';
        history = passed_on.history;
        whole = one.whole;
        asked = one.requests ∙ old.asked;
        joined = passed_on.joined;
        kept = kept_alike s' published passed_on.history (goes_alike requests _ _ passed_on.on)
            (publications_kept m l rs requests g s s' w r d publication.reply t old.whole hold found old.kept);
        told = steps_tell m l rs g s s' r kind old.whole step old.told;
        publications = publications_go;
        walks = passed_on.walks;
      }

      pub publishing_look : publishing.history.look ≡ w.look
      unfolding publishing
      publishing_look = passed_on.on.look

      pub publishing_passes : Passes w publishing.history
      unfolding publishing
      publishing_passes = passes_more w published passed_on.history
          (event_passes requests w (history.Publish r d t.request publication.reply)
          (unused_apart requests w d old.joined.sound (old.joined.tied.used d ∙ publication.may.enabled.enabled.0)))
          passed_on.on.passes

    -- a read without a lock writes one of its two words: what is the same for both. Behind the event the history stands
    -- so, in which the sections are the same, and so are the stamps but for requests of this worker
    module _ (none : (s.part r).run ≡ None) (nothing : PublishesNothing m l rs s s' r kind step) (unpublished : (s.part r).published ≡ None)
        (j : States) (to : JointSteps m l j (states_of g' s')) (v : HistoryState) (joined : IsJoined m l c requests (with_history m laws l limits rs j v))
        (walks : WalksStand m j) (same_live : j.agreement.live ≡ g.agreement.live)
        (same_published : v.published ≡ w.published) (same_request : v.request ≡ w.request) (same_knew : v.knew ≡ w.knew) (same_stage : v.stage ≡ w.stage)
        (stamps : (n : ℕ) → requests.worker n ≢ r → v.stamp n ≡ w.stamp n) (passes : Passes w v) where
      abbrev names : List ℕ
      names = answered_in (s'.part r).records.known

      read_passed : JoinedAlike m laws l limits rs v (states_of g' s')
      read_passed = passes_joined m laws l limits rs j v
          (λ i d is. ap (λ (f : ℕ → Bool). f d) same_live ∙ live i d (ap (λ (f : ℕ → ℕ). f i) (sym same_published) ∙ is)) (states_of g' s') to
          (record { history = v; joined = joined; on = goes_nowhere requests v; walks = walks })

      abbrev read_history : HistoryState
      read_history = after_all requests read_passed.history (learns r names)

      -- the runner's own run has no end here
      link_same : link_of (s'.part r).published ≡ link_of (s.part r).published
      link_same = ⊎_elim (λ same. same)
          (λ end. absurd (let clash = sym none ∙ end.runs in cc))
          (ends_are_own m l rs g s s' r kind old.whole step nothing)

      kept_learned : AreKept s' (after_all requests w (learns r names))
      kept_learned = subst (λ (b : Bool). AreKept s' (after_all requests w (cond b [] (history.Over r ∷ []) ++ learns r names))) (is_same _ _ (sym link_same))
          (steps_kept m l rs requests g s s' w r kind old.whole step nothing old.kept)
        where
          is_same : (a b : ℕ) → a ≡ b → (a == b) ≡ true
          is_same a b e = grind (arith, nat_tests)

      grown_more : (i : ℕ) → (more : List Known) × ((s'.part i).records.known ≡ (s.part i).records.known ++ more)
      grown_more i = ⊎_elim
          (λ same. subst (λ k. (more : List Known) × ((s'.part k).records.known ≡ (s.part k).records.known ++ more)) (sym same)
          (own m l rs g s s' r kind old.whole step nothing).appends)
          (λ ne. ([], (others m l rs g s s' r kind old.whole step i ne).known ∙ sym (append-nil (s.part i).records.known)))
          (cases_eq i r)

      -- the worker has published nothing
      still_none : (x : Published) → (s'.part r).published ≡ Some x → ⊥
      still_none x at = let h = (own m l rs g s s' r kind old.whole step nothing).was x at in let clash = sym unpublished ∙ h.1 in cc

      -- another worker's section is known as before
      own_there : (i : ℕ) → i ≢ r → (x : Published) → (s.part i).published ≡ Some x
          → IsOwn requests v (s.part i).records.known i x.descriptor x.thunk.request x.known
      own_there i ne x at = let o = old.publications i x at in record {
        own = o.own;
        request = ap (λ (f : ℕ → ℕ). f x.descriptor) same_request ∙ o.request;
        within = o.within;
        knew = λ n. ap (λ (f : ℕ → ℕ → Bool). f x.descriptor n) same_knew ∙ o.knew n;
        others = λ n mine some other. ap (λ (f : ℕ → ℕ → Bool). f x.descriptor n) same_knew
            ∙ o.others n mine (λ zero. some (stamps n (λ its. ne (sym mine ∙ its)) ∙ zero)) other;
        stamped = λ some. subst (λ (f : ℕ → ℕ). 2 ≤ f x.descriptor) (sym same_stage)
            (o.stamped (λ zero. some (stamps x.thunk.request (λ its. ne (sym o.own ∙ its)) ∙ zero)));
      }

      publications_read : (i : ℕ) (x : Published) → (s'.part i).published ≡ Some x
          → IsOwn requests read_history (s'.part i).records.known i x.descriptor x.thunk.request x.known
      publications_read i x at = ⊎_elim
          (λ mine. absurd (still_none x (ap (λ k. (s'.part k).published) (sym mine) ∙ at)))
          (λ ne.
          let there : (s.part i).published ≡ Some x = sym (others m l rs g s s' r kind old.whole step i ne).published ∙ at in
          subst (λ (known : List Known). IsOwn requests read_history known i x.descriptor x.thunk.request x.known) (sym (grown_more i).1)
          (own_later requests i x.descriptor x.thunk.request x.known v read_history (s.part i).records.known (grown_more i).0
          (λ e is. linked i x there e (ap (λ (f : ℕ → ℕ). f i) (sym same_published) ∙ is))
          (later_between requests r 0 0 names v read_passed.history (λ k d e. e) read_passed.on) (own_there i ne x there)))
          (cases_eq i r)

      -- where what is known comes to the same, the step is done
      read_stands : ((i n : ℕ) → (after_all requests v (learns r names)).known i n ≡ is_answered (s'.part i).records.known n) → Stands s'
      read_stands known_is = record {
        beside = g';
        history = read_history;
        whole = one.whole;
        asked = one.requests ∙ old.asked;
        joined = learns_joined m laws l limits rs g' s' read_passed.history r one.whole known read_passed.joined;
        kept = kept_alike s' (after_all requests v (learns r names)) read_history
            (learns_alike requests r names v read_passed.history (goes_alike requests _ _ read_passed.on)) (record {
              known = known_is;
              published = λ i. learned_published requests r names v i ∙ (ap (λ (f : ℕ → ℕ). f i) same_published
                  ∙ (sym (learned_published requests r names w i) ∙ kept_learned.published i));
            });
        told = steps_tell m l rs g s s' r kind old.whole step old.told;
        publications = publications_read;
        walks = read_passed.walks;
      }

      pub reads_to : ((i n : ℕ) → (after_all requests v (learns r names)).known i n ≡ is_answered (s'.part i).records.known n) → ReadsTo s' w v
      unfolding read_stands
      reads_to known_is =
          let on = passes_between requests r 0 0 names v read_passed.history read_passed.on.passes in record {
            to = read_stands known_is;
            look = learned_look requests r names read_passed.history ∙ read_passed.on.look;
            on = on;
            passes = passes_more w v read_history passes on;
          }

      -- what is known is the same before it is learned; or the worker also knows a request both of whose words it knows then
      pub known_same : v.known ≡ w.known → (i n : ℕ) → (after_all requests v (learns r names)).known i n ≡ is_answered (s'.part i).records.known n
      known_same same i n = ap (λ (f : ℕ → ℕ → Bool). f i n) (learns_alike requests r names w v (record { known = same; published = same_published })).known
          ∙ kept_learned.known i n

      pub known_more : (k : ℕ) → v.known ≡ upd w.known r (upd (w.known r) k true) → is_answered (s'.part r).records.known k ≡ true
          → (i n : ℕ) → (after_all requests v (learns r names)).known i n ≡ is_answered (s'.part i).records.known n
      known_more k is answered i n = ⊎_elim
          (λ mine. subst (λ e. (after_all requests v (learns r names)).known e n ≡ is_answered (s'.part e).records.known n) (sym mine)
          (learned_here requests r names v n ∙ (ap (λ (f : ℕ → ℕ → Bool). f r n || has names n) is
          ∙ (ap (λ (f : ℕ → Bool). f n || has names n) (upd_same w.known r r (upd (w.known r) k true) refl)
          ∙ ⊎_elim
          (λ here. ap (λ b. b || has names n) (upd_same (w.known r) k n true here) ∙ sym (ap (is_answered (s'.part r).records.known) here ∙ answered))
          (λ other. ap (λ b. b || has names n) (upd_other (w.known r) k n true other)
          ∙ (sym (learned_here requests r names w n) ∙ kept_learned.known r n))
          (cases_eq n k)))))
          (λ ne. learned_else requests r names v i n ne ∙ (ap (λ (f : ℕ → ℕ → Bool). f i n) is
          ∙ (ap (λ (f : ℕ → Bool). f n) (upd_other w.known r i (upd (w.known r) k true) ne)
          ∙ (sym (learned_else requests r names w i n ne) ∙ kept_learned.known i n))))
          (cases_eq i r)
