-- Where the clock is loaded for a look that is a read, the history may see it, or the lock has moved on.
use Rattle.std.specs.Prelude.{◌==◌, ◌&&◌, ◌||◌, ◌-◌, Bool, true, false, List, ◌++◌, take, drop, length, Option}
use Rattle.std.proofs.Common.{◌≡◌, ◌≢◌, ℕ, ◌<◌, refl, sym, ap, ◌∙◌, subst, ⊎_elim, arith}
use Rattle.std.proofs.lemmas.List.{take-append-drop}
use Rattle.std.proofs.lemmas.List.Folds.{list_any-append}
use Rattle.std.proofs.lemmas.List.Elements.{All-get_or}
use Rattle.std.proofs.lemmas.Option.{slice_get_within, get_or_from_slice_get}
use Rattle.std.proofs.Math.Seq.{take-length}
use Rattle.machine_states.specs.map_history.specs.declared.op.Op.{Op}
use Rattle.machine_states.specs.map_history.specs.declared.op.Request.{Request}
use Rattle.machine_states.specs.body_terms.specs.Word.{version_of}
use Rattle.machine_states.specs.table_words.specs.declared.layout.Layout.{Layout}
use Rattle.machine_states.specs.table_words.specs.declared.spot.Spot.TheVariants.{Cell}
use Rattle.machine_states.specs.structure_laws.specs.Meaning.{Meaning}
use Rattle.machine_states.specs.structure_laws.specs.Sections.{IsAllowed}
use Rattle.machine_states.specs.structure_laws.specs.Sound.{IsRead}
use Rattle.machine_states.specs.epoch_core.specs.State.{is_entered}
use Rattle.machine_states.specs.epoch_core.specs.declared.stage.Stage.TheVariants as stages
use Rattle.machine_states.specs.runner_parts.specs.declared.entries.Known.{Known}
use Rattle.machine_states.specs.runner_parts.specs.declared.entries.Look.{Look}
use Rattle.machine_states.specs.runner_parts.specs.State.{PartState}
use Rattle.machine_states.specs.runner_parts.specs.Tests.{has_pair, is_answered}
use Rattle.machine_states.specs.runner_steps.specs.Sections.{reply_in}
use Rattle.machine_states.specs.runner_steps.specs.Reads.{loads_of, planned_of, found_of, is_fit}
use Rattle.still_reads.specs.Standing.{WalksStand}
use Rattle.machine_facts.specs.machine_agreement.specs.machine_scenes.specs.Shown.{scene_of}
use Rattle.machine_facts.specs.machine_agreement.specs.machine_scenes.proofs.Readers.{entered_reads}
use Rattle.machine_history.specs.history_core.specs.State as history
use Rattle.machine_history.specs.history_core.specs.State.{HistoryState}
use Rattle.machine_history.specs.Memory.{HasLooked}
use Rattle.machine_history.specs.Steps.{MayLook}
use Rattle.machine_states.specs.Sight.{Sight}
use Rattle.machine_facts.specs.machine_agreement.specs.machine_epochs.specs.Entries.{counts_of}
use Rattle.machine_facts.specs.machine_invariant.specs.After.{AreAllowed}
use Rattle.machine_facts.specs.machine_invariant.specs.Whole.{Beside, states_of, IsWhole}
use Rattle.machine_facts.specs.machine_invariant.proofs.Asked.{entered_at}
use Rattle.reached_histories.specs.Requests.{or_none, requests_of}
use Rattle.reached_histories.specs.Kept.{AreKept}
use Rattle.reached_histories.proofs.Supplying.{IsNextRequest, own_request, unanswered, earlier_answered}
use Rattle.reached_histories.proofs.Fit.{pair_at, answer_at, looks_only, answers_some, lock_free, lock_unspent, lock_pair, want_found, next, serves_it}

true_or : (a b : Bool) → a ≡ true → (a || b) ≡ true
true_or true b e = refl
true_or false b e = absurd (let z = e in cc)

above_zero : (n : ℕ) → n ≢ 0 → 0 < n
above_zero n some = omega arith

module _ (m : Meaning) (l : Layout) (rs : List Request) (allowed : AreAllowed rs) (g : Beside) (s : Sight) (w : HistoryState) (whole : IsWhole m l g s)
    (kept : AreKept s w) (r : ℕ) where
  abbrev p : PartState
  p = s.part r

  module _ (x : Look) (entry : ℕ) (entered : p.stage ≡ stages.Entered entry) (walked : x.walked ≡ length p.reads.walk) (told : x.known ≡ length p.records.known)
      (fit : is_fit m l rs r x p.records.known p.reads.walk ≡ true) where
    abbrev planned : List (ℕ × ℕ)
    planned = planned_of m x p.reads.walk

    abbrev found : List (ℕ × ℕ)
    found = found_of m x p.reads.walk

    walk_is : planned ++ found ≡ p.reads.walk
    walk_is =
        let all : take x.walked p.reads.walk ≡ p.reads.walk = ap (λ k. take k p.reads.walk) walked ∙ take-length p.reads.walk in
        ap (λ (xs : List (ℕ × ℕ)). planned ++ drop (x.walked - loads_of m x) xs) all ∙ take-append-drop (x.walked - loads_of m x) p.reads.walk

    known_is : take x.known p.records.known ≡ p.records.known
    known_is = ap (λ k. take k p.records.known) told ∙ take-length p.records.known

    abbrev due : IsNextRequest m l rs r x.thunk (take x.known p.records.known)
    due = next m l rs r x p.records.known p.reads.walk fit

    isin : is_entered (g.epochs.stage r) ≡ true
    isin = entered_at m l g.epochs s whole.slots r entry entered

    is_allowed : IsAllowed due.request.op
    is_allowed = subst (λ (q : Request). IsAllowed q.op) (get_or_from_slice_get rs x.thunk.request due.request due.request due.of_request)
        (All-get_or (λ (q : Request). IsAllowed q.op) rs x.thunk.request due.request (slice_get_within rs x.thunk.request due.request due.of_request) allowed.each)

    -- the lock is past the word that was read
    pub lock_past : s.word (Cell x.thunk.lock) ≢ x.thunk.word → version_of x.thunk.word < version_of (s.word (Cell x.thunk.lock))
    lock_past other =
        let in_walk : has_pair p.reads.walk x.thunk.lock x.thunk.word ≡ true =
        subst (λ (xs : List (ℕ × ℕ)). has_pair xs x.thunk.lock x.thunk.word ≡ true) walk_is
        (list_any-append (λ (y : ℕ × ℕ). y.0 == x.thunk.lock && y.1 == x.thunk.word) planned found
        ∙ true_or (has_pair planned x.thunk.lock x.thunk.word) (has_pair found x.thunk.lock x.thunk.word) (lock_pair m l rs r x p.records.known p.reads.walk fit)) in
        let at = pair_at p.reads.walk x.thunk.lock x.thunk.word in_walk in
        let read : IsRead m (scene_of m (counts_of m l) (states_of g s)) p.reads.walk =
        whole.kept.lawful.sound.readers r p.reads.walk (entered_reads (g.epochs.stage r) p.reads.walk isin) in
        let here = whole.sections.words.cells x.thunk.lock in
        ⊎_elim
        (λ lower. subst (λ n. version_of x.thunk.word < version_of n) here lower)
        (λ same. absurd (other (sym here ∙ sym same)))
        (read.seen at.0 x.thunk.lock x.thunk.word at.1)

    module _ (walks : WalksStand m (states_of g s)) (here : s.word (Cell x.thunk.lock) ≡ x.thunk.word) (settled : history.is_replied (w.look r) ≡ false) where
      has_looked : HasLooked m l (states_of g s) r due.request.op x.thunk
      has_looked = record {
        planned = planned;
        found = found;
        entered = isin;
        walk = sym walk_is;
        look = record {
          allowed = is_allowed;
          fits = serves_it m l rs r x p.records.known p.reads.walk fit;
          looks = looks_only m l rs r x p.records.known p.reads.walk fit;
          lock = pair_at planned x.thunk.lock x.thunk.word (lock_pair m l rs r x p.records.known p.reads.walk fit);
          free = lock_free m l rs r x p.records.known p.reads.walk fit;
          unspent = lock_unspent m l rs r x p.records.known p.reads.walk fit;
          wanted = want_found m l rs r x p.records.known p.reads.walk fit;
        };
        here = whole.sections.words.cells x.thunk.lock ∙ here;
        stand = walks r isin;
      }

      pub may_look : (op : Op) × MayLook m l (counts_of m l) (requests_of m l rs) (record { joint = states_of g s; history = w }) r op x.thunk (reply_in (m.body x.thunk))
      may_look = (
        due.request.op,
        record {
          looked = has_looked;
          own = own_request m l rs allowed.in_order r x.thunk (take x.known p.records.known) due;
          unknown = kept.known r x.thunk.request ∙ (ap (λ (xs : List Known). is_answered xs x.thunk.request) (sym known_is)
              ∙ unanswered m l rs allowed.in_order r x.thunk (take x.known p.records.known) due);
          earlier = λ k low same. kept.known r k ∙ (ap (λ (xs : List Known). is_answered xs k) (sym known_is)
              ∙ earlier_answered m l rs allowed.in_order r x.thunk (take x.known p.records.known) due k low same);
          operation = ap (λ (o : Option Request). (or_none o).op) due.of_request;
          answers = answer_at (m.body x.thunk) (answers_some m l rs r x p.records.known p.reads.walk fit);
          positive = above_zero _ (answers_some m l rs r x p.records.known p.reads.walk fit);
          settled = settled;
        },
      )
