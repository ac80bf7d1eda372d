-- What the history has seen of runners' looks stands behind each step that makes none.
use Rattle.std.specs.Prelude.{◌⊎◌, ◌==◌, ◌&&◌, ◌||◌, ◌-◌, Bool, true, false, List, [], ◌∷◌, ◌++◌, take, drop, length, Some, None}
use Rattle.std.proofs.Common.{◌≡◌, ◌≢◌, ℕ, ◌<◌, ◌≤◌, inl, inr, refl, sym, ap, ◌∙◌, subst, ⊎_elim, arith}
use Rattle.std.proofs.lemmas.Bool.{cases_eq}
use Rattle.std.proofs.lemmas.Bool.Decides.{nat_tests}
use Rattle.std.proofs.lemmas.List.{take-append-le, drop-append-le, length-append, append-nil}
use Rattle.std.proofs.lemmas.List.Folds.{list_any-append}
use Rattle.machine_states.specs.map_history.specs.declared.op.Request.{Request}
use Rattle.machine_states.specs.body_terms.specs.Word.{version_of}
use Rattle.machine_states.specs.table_words.specs.declared.layout.Layout.{Layout}
use Rattle.machine_states.specs.table_words.specs.declared.spot.Spot.TheVariants.{Cell}
use Rattle.machine_states.specs.structure_laws.specs.Meaning.{Meaning}
use Rattle.machine_states.specs.runner_parts.specs.declared.entries.Known.{Known}
use Rattle.machine_states.specs.epoch_core.specs.declared.stage.Stage.TheVariants.{Entered}
use Rattle.machine_states.specs.runner_parts.specs.declared.entries.Look.{Look}
use Rattle.machine_states.specs.runner_parts.specs.State.{PartState}
use Rattle.machine_states.specs.runner_parts.specs.Tests.{has_pair, is_between}
use Rattle.machine_states.specs.runner_parts.specs.Tests as tests
use Rattle.machine_states.specs.runner_steps.specs.Outside.{is_due}
use Rattle.machine_states.specs.runner_steps.specs.Reads.{finds, loads_of, is_looking, is_fit}
use Rattle.machine_history.specs.history_core.specs.State as history
use Rattle.machine_history.specs.history_core.specs.State.{HistoryState}
use Rattle.machine_states.specs.Sight.{Sight}
use Rattle.machine_facts.specs.machine_invariant.specs.Rising.{CellsRise}
use Rattle.machine_facts.proofs.Telling.{Grows}
use Rattle.reached_histories.specs.Looks.{HasSeen, CameLate, IsLookOf, LookIsKept, LooksAreKept}

-- a list and some more of it
pub longer : {A : Type 0} (n : ℕ) (xs more : List A) → n ≤ length xs → n ≤ length (xs ++ more)
longer n xs more low = let e = length-append xs more in omega arith

-- what was read and known when a look began tells whether it is one, also once more is read and known
module _ (m : Meaning) (l : Layout) (rs : List Request) (r : ℕ) (x : Look) where
  abbrev fit_by : List (ℕ × ℕ) → List (ℕ × ℕ) → List Known → Bool
  fit_by found planned known = is_looking (m.body x.thunk)
      && (finds (m.body x.thunk) found && (tests.is_open l planned x.thunk && is_due m l rs r known planned x.thunk))

  pub fit_same : (known more : List Known) (walk later : List (ℕ × ℕ)) → x.known ≤ length known → x.walked ≤ length walk
      → is_fit m l rs r x (known ++ more) (walk ++ later) ≡ is_fit m l rs r x known walk
  fit_same known more walk later few low =
      let all : take x.walked (walk ++ later) ≡ take x.walked walk = take-append-le x.walked walk later low in
      let first : take (x.walked - loads_of m x) (walk ++ later) ≡ take (x.walked - loads_of m x) walk =
      take-append-le (x.walked - loads_of m x) walk later (omega (arith, low)) in
      let told : take x.known (known ++ more) ≡ take x.known known = take-append-le x.known known more few in
      λ i. fit_by (drop (x.walked - loads_of m x) (all i)) (first i) (told i)

-- a reading that isn't this one adds none of it
unread_more : (xs : List (ℕ × ℕ)) (place found lock word : ℕ) → has_pair xs lock word ≡ false → (place ≡ lock → found ≡ word → ⊥)
    → has_pair (xs ++ (place, found) ∷ []) lock word ≡ false
unread_more xs place found lock word none other =
    list_any-append (λ (x : ℕ × ℕ). x.0 == lock && x.1 == word) xs ((place, found) ∷ [])
    ∙ by (has_pair xs lock word) (place == lock && found == word) none (apart place found lock word other)
  where
    apart : (a b c d : ℕ) → (a ≡ c → b ≡ d → ⊥) → (a == c && b == d) ≡ false
    apart a b c d ne = grind (arith, nat_tests)

    by : (a b : Bool) → a ≡ false → b ≡ false → (a || (b || false)) ≡ false
    by false false e f = refl
    by false true e f = f
    by true b e f = e

-- how a runner goes on: it reads and knows more, and publishes nothing where it has no section
pub record GoesOnSo (s : Sight) (p p' : PartState) : Type 0 where
  pub look : p'.reads.look ≡ p.reads.look
  pub walk : (p'.reads.walk ≡ p.reads.walk) ⊎ ((place : ℕ) × (p'.reads.walk ≡ p.reads.walk ++ (place, s.word (Cell place)) ∷ []))
  pub known : (more : List Known) × (p'.records.known ≡ p.records.known ++ more)
  pub grows : Grows p.records.known p'.records.known
  pub unpublished : is_between p.reads.look ≡ true → p.published ≡ None → p'.published ≡ None
  pub stage : (g : ℕ) → p'.stage ≡ Entered g → p.stage ≡ Entered g

pub same_seen : (m : Meaning) (w w' : HistoryState) (r : ℕ) (x : Look) (replied : Bool) → w'.look r ≡ w.look r → HasSeen m w r x replied
    → HasSeen m w' r x replied
same_seen m w w' r x replied same old = record {
  seen = old.seen;
  looked = same ∙ old.looked;
  number = old.number;
  clock = old.clock;
  answer = old.answer;
  written = old.written;
}

module _ (m : Meaning) (l : Layout) (rs : List Request) (s s' : Sight) (rise : CellsRise s.word s'.word) (w w' : HistoryState) where
  -- a lock that is past a word stays so
  pub past_on : (place word : ℕ) → version_of word < version_of (s.word (Cell place)) → version_of word < version_of (s'.word (Cell place))
  past_on place word past = ⊎_elim
      (λ same. subst (λ n. version_of word < version_of n) (sym same) past)
      (λ up. omega (arith, past, up)) (rise place)

  module _ (r : ℕ) (p p' : PartState) (x : Look) (on : GoesOnSo s p p') (same : w'.look r ≡ w.look r) (old : LookIsKept m l rs s w r p x) where
    walk_more : (later : List (ℕ × ℕ)) × (p'.reads.walk ≡ p.reads.walk ++ later)
    walk_more = ⊎_elim (λ e. ([], e ∙ sym (append-nil p.reads.walk))) (λ h. ((h.0, s.word (Cell h.0)) ∷ [], h.1)) on.walk

    late_on : CameLate s p x → CameLate s' p' x
    late_on late = record {
      past = past_on x.thunk.lock x.thunk.word late.past;
      unread = ⊎_elim
          (λ e. ap (λ (xs : List (ℕ × ℕ)). has_pair (drop x.walked xs) x.thunk.lock x.thunk.word) e ∙ late.unread)
          (λ h. ap (λ (xs : List (ℕ × ℕ)). has_pair (drop x.walked xs) x.thunk.lock x.thunk.word) h.1
          ∙ (ap (λ (xs : List (ℕ × ℕ)). has_pair xs x.thunk.lock x.thunk.word) (drop-append-le x.walked p.reads.walk ((h.0, s.word (Cell h.0)) ∷ []) old.walked)
          ∙ unread_more (drop x.walked p.reads.walk) h.0 (s.word (Cell h.0)) x.thunk.lock x.thunk.word late.unread (λ here again.
          let word : s.word (Cell x.thunk.lock) ≡ x.thunk.word = ap (λ k. s.word (Cell k)) (sym here) ∙ again in
          let low = late.past in let e = ap version_of word in omega (arith, low, e))))
          on.walk;
    }

    fit_was : is_fit m l rs r x p'.records.known p'.reads.walk ≡ is_fit m l rs r x p.records.known p.reads.walk
    fit_was = (λ i. is_fit m l rs r x (on.known.1 i) (walk_more.1 i))
        ∙ fit_same m l rs r x p.records.known on.known.0 p.reads.walk walk_more.0 old.known old.walked

    pub kept_on : is_between (Some x) ≡ is_between p.reads.look → LookIsKept m l rs s' w' r p' x
    kept_on here = record {
      walked = subst (λ (xs : List (ℕ × ℕ)). x.walked ≤ length xs) (sym walk_more.1) (longer x.walked p.reads.walk walk_more.0 old.walked);
      known = subst (λ (xs : List Known). x.known ≤ length xs) (sym on.known.1) (longer x.known p.records.known on.known.0 old.known);
      looked = λ stage fit. ⊎_elim (λ seen. inl (same_seen m w w' r x false same seen)) (λ late. inr (late_on late))
          (old.looked stage (sym fit_was ∙ fit));
      replied = λ stage. let h = old.replied stage in record {
        seen = same_seen m w w' r x true same h.seen;
        told = on.grows x.thunk.request true h.told;
        unpublished = on.unpublished (sym here ∙ stage) h.unpublished;
      };
    }

  look_on : {seen : history.Seen} (i : ℕ) → (s'.part i).reads.look ≡ (s.part i).reads.look → IsLookOf (s.part i) seen → IsLookOf (s'.part i) seen
  look_on i same h = record { look = h.look; looked = same ∙ h.looked; request = h.request; begun = h.begun }

  -- all looks, where each runner goes on so and the history has seen the same
  pub all_on : ((i : ℕ) → GoesOnSo s (s.part i) (s'.part i)) → w'.look ≡ w.look → LooksAreKept m l rs s w → LooksAreKept m l rs s' w'
  all_on on same old = record {
    kept = λ i x at g isin. let was : (s.part i).reads.look ≡ Some x = sym (on i).look ∙ at in
        kept_on i (s.part i) (s'.part i) x (on i) (ap (λ f. f i) same) (old.kept i x was g ((on i).stage g isin)) (ap is_between (sym was));
    settled = λ i none. ap (λ f. history.is_replied (f i)) same ∙ old.settled i (ap is_between (sym (on i).look) ∙ none);
    only = λ i seen at. look_on i (on i).look (old.only i seen (ap (λ f. f i) (sym same) ∙ at));
  }

  -- all looks, where the one runner's is new
  pub one_new : (r : ℕ) → ((i : ℕ) → i ≢ r → GoesOnSo s (s.part i) (s'.part i)) → ((i : ℕ) → i ≢ r → w'.look i ≡ w.look i)
      → ((x : Look) → (s'.part r).reads.look ≡ Some x → (g : ℕ) → (s'.part r).stage ≡ Entered g → LookIsKept m l rs s' w' r (s'.part r) x)
      → (is_between (s'.part r).reads.look ≡ false → history.is_replied (w'.look r) ≡ false)
      → ((seen : history.Seen) → w'.look r ≡ Some seen → IsLookOf (s'.part r) seen)
      → LooksAreKept m l rs s w → LooksAreKept m l rs s' w'
  one_new r on same kept settled only old = record {
    kept = λ i x at g isin. ⊎_elim
        (λ own. subst (λ k. LookIsKept m l rs s' w' k (s'.part k) x) (sym own) (kept x (ap (λ k. (s'.part k).reads.look) (sym own) ∙ at) g (ap (λ k. (s'.part k).stage) (sym own) ∙ isin)))
        (λ ne. let was : (s.part i).reads.look ≡ Some x = sym (on i ne).look ∙ at in
        kept_on i (s.part i) (s'.part i) x (on i ne) (same i ne) (old.kept i x was g ((on i ne).stage g isin)) (ap is_between (sym was)))
        (cases_eq i r);
    settled = λ i none. ⊎_elim
        (λ own. ap (λ k. history.is_replied (w'.look k)) own ∙ settled (ap (λ k. is_between (s'.part k).reads.look) (sym own) ∙ none))
        (λ ne. ap history.is_replied (same i ne) ∙ old.settled i (ap is_between (sym (on i ne).look) ∙ none))
        (cases_eq i r);
    only = λ i seen at. ⊎_elim
        (λ own. subst (λ k. IsLookOf (s'.part k) seen) (sym own) (only seen (ap (λ k. w'.look k) (sym own) ∙ at)))
        (λ ne. look_on i (on i ne).look (old.only i seen (sym (same i ne) ∙ at)))
        (cases_eq i r);
  }
