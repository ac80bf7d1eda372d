-- The history's events of a step lead to what runners keep then.
use Rattle.std.specs.Prelude.{◌==◌, ◌&&◌, ◌||◌, not, cond, Bool, true, false, map, if◌then◌else◌}
use Rattle.std.specs.List.{filter, list_any}
use Rattle.std.proofs.Common.{◌≡◌, ◌≢◌, ℕ, suc, List, [], ◌∷◌, ◌++◌, append_assoc, refl, sym, ap, ◌∙◌, subst, inl, inr, ⊎_elim, arith, Option, Some, None}
use Rattle.std.specs.Prelude.{◌⊎◌}
use Rattle.std.proofs.lemmas.Bool.{cases_eq}
use Rattle.std.proofs.lemmas.Bool.Decides.{nat_tests}
use Rattle.machine_states.specs.map_history.specs.declared.op.Request.{Request}
use Rattle.machine_states.specs.body_terms.specs.declared.thunk.Thunk.{Thunk}
use Rattle.machine_states.specs.body_terms.specs.Update as updates
use Rattle.machine_states.specs.table_words.specs.declared.layout.Layout.{Layout}
use Rattle.machine_states.specs.table_words.specs.Seen.{upd}
use Rattle.machine_states.specs.structure_laws.specs.Meaning.{Meaning}
use Rattle.machine_states.specs.structure_laws.proofs.Changes.{upd_same, upd_other}
use Rattle.machine_states.specs.runner_parts.specs.declared.entries.Known.{Known}
use Rattle.machine_states.specs.runner_parts.specs.declared.event.EventKind.{EventKind}
use Rattle.machine_states.specs.runner_parts.specs.declared.event.EventKind.TheVariants as kinds
use Rattle.machine_states.specs.runner_parts.specs.State.{RunState, PartState}
use Rattle.machine_states.specs.runner_parts.specs.Tests.{has, knows, is_answered}
use Rattle.machine_states.specs.runner_steps.specs.After.{leaves, knows_also}
use Rattle.machine_states.specs.runner_steps.specs.After.{stepped, after, after_by}
use Rattle.machine_states.specs.runner_steps.specs.Asks.{line_ask}
use Rattle.machine_states.specs.runner_steps.specs.AfterOutside as outside
use Rattle.machine_states.specs.runner_steps.specs.Asks.{opening_ask}
use Rattle.machine_states.specs.runner_steps.specs.Sections.{is_open_run, next_of}
use Rattle.machine_states.specs.runner_parts.specs.Lists.{descriptor_taken, published_seen, cell_read}
use Rattle.machine_facts.specs.machine_invariant.proofs.Asked.{asked_by}
use Rattle.machine_states.proofs.Sights.{some_none}
use Rattle.machine_history.specs.history_core.specs.State.{Requests, HistoryState}
use Rattle.machine_history.specs.history_core.specs.Events as history
use Rattle.machine_history.specs.history_core.specs.Schedules.{after_all}
use Rattle.machine_states.specs.Sight.{Sight, Steps, parts_after}
use Rattle.machine_states.proofs.Updates.{upd_here, upd_else}
use Rattle.machine_facts.specs.machine_invariant.specs.Whole.{Beside, IsWhole}
use Rattle.reached_histories.specs.Kept.{link_of, AreKept}
use Rattle.reached_histories.specs.Keeping.{answered_in, learns, ends, events_of, IsAtItsEnd, PublishesNothing, StepsAreKept, EndsAreOwn, PublicationsAreKept}
use Rattle.machine_facts.proofs.Telling.{Grows, grows_append}
use Rattle.machine_facts.proofs.ToldSteps.{noted_known}
use Rattle.reached_histories.proofs.Parts.{KeepsOn, on, stepped_keeps}

-- the list of answered requests has those that are answered
answered_has : (known xs : List Known) (n : ℕ) → has (map (λ (x : Known). x.request) (filter (λ (x : Known). is_answered known x.request) xs)) n
    ≡ (is_answered known n && list_any (λ (x : Known). x.request == n) xs)
answered_has known [] n = none (is_answered known n)
  where
    none : (b : Bool) → false ≡ (b && false)
    none true = refl
    none false = refl
answered_has known (x ∷ xs) n = by (is_answered known x.request) (x.request == n) refl refl (answered_has known xs n)
  where
    same : (a b : ℕ) → (a == b) ≡ true → a ≡ b
    same a b e = grind (arith, nat_tests)

    rest : Bool
    rest = has (map (λ (y : Known). y.request) (filter (λ (y : Known). is_answered known y.request) xs)) n

    skipped : (a h : Bool) → (a && h) ≡ (a && (false || h))
    skipped true h = refl
    skipped false h = refl

    by : (b here : Bool) → is_answered known x.request ≡ b → (x.request == n) ≡ here
        → has (map (λ (y : Known). y.request) (filter (λ (y : Known). is_answered known y.request) xs)) n ≡ (is_answered known n && list_any (λ (y : Known). y.request == n) xs)
        → has (map (λ (y : Known). y.request) (cond b (x ∷ filter (λ (y : Known). is_answered known y.request) xs) (filter (λ (y : Known). is_answered known y.request) xs))) n
        ≡ (is_answered known n && (here || list_any (λ (y : Known). y.request == n) xs))
    by true true is here more = ap (λ b. b || has (map (λ (y : Known). y.request) (filter (λ (y : Known). is_answered known y.request) xs)) n) here
        ∙ sym (ap (λ b. b && true) (ap (is_answered known) (sym (same x.request n here)) ∙ is))
    by true false is other more = ap (λ b. b || has (map (λ (y : Known). y.request) (filter (λ (y : Known). is_answered known y.request) xs)) n) other ∙ more
    by false true is here more = more ∙ (ap (λ b. b && list_any (λ (y : Known). y.request == n) xs) unanswered ∙ sym (ap (λ b. b && true) unanswered))
      where
        unanswered : is_answered known n ≡ false
        unanswered = ap (is_answered known) (sym (same x.request n here)) ∙ is
    by false false is other more = more

-- a known word's request stands in the list
stands_there : (known : List Known) (n : ℕ) (reply : Bool) → knows known n reply ≡ true → list_any (λ (x : Known). x.request == n) known ≡ true
stands_there [] n reply e = e
stands_there (x ∷ xs) n reply e = by (x.request == n) (cond reply x.reply (not x.reply)) (λ more. stands_there xs n reply more) e
  where
    by : (a b : Bool) → (knows xs n reply ≡ true → list_any (λ (y : Known). y.request == n) xs ≡ true) → ((a && b) || knows xs n reply) ≡ true
        → (a || list_any (λ (y : Known). y.request == n) xs) ≡ true
    by true b rest e = refl
    by false b rest e = rest e

pub answered_is : (known : List Known) (n : ℕ) → has (answered_in known) n ≡ is_answered known n
answered_is known n = answered_has known known n ∙ by (knows known n false) (knows known n true) (stands_there known n false)
  where
    by : (a b : Bool) → (a ≡ true → list_any (λ (x : Known). x.request == n) known ≡ true) → ((a && b) && list_any (λ (x : Known). x.request == n) known) ≡ (a && b)
    by true true there = there refl
    by true false there = refl
    by false b there = refl

answered_grows : (known known' : List Known) → Grows known known' → (n : ℕ) → (is_answered known n || is_answered known' n) ≡ is_answered known' n
answered_grows known known' grows n = by (knows known n false) (knows known n true) (grows n false) (grows n true)
  where
    by : (a b : Bool) → (a ≡ true → knows known' n false ≡ true) → (b ≡ true → knows known' n true ≡ true)
        → ((a && b) || is_answered known' n) ≡ is_answered known' n
    by true true stamp reply = sym (ap (λ c. c && knows known' n true) (stamp refl) ∙ reply refl)
    by true false stamp reply = refl
    by false b stamp reply = refl

-- what a runner learns
module _ (c : Requests) (r : ℕ) where
  pub learned_published : (ns : List ℕ) (w : HistoryState) (i : ℕ) → (after_all c w (learns r ns)).published i ≡ w.published i
  learned_published [] w i = refl
  learned_published (k ∷ ns) w i = learned_published ns (history.after c w (history.Learn r k)) i

  pub learned_else : (ns : List ℕ) (w : HistoryState) (i n : ℕ) → i ≢ r → (after_all c w (learns r ns)).known i n ≡ w.known i n
  learned_else [] w i n ne = refl
  learned_else (k ∷ ns) w i n ne = learned_else ns (history.after c w (history.Learn r k)) i n ne
      ∙ ap (λ (f : ℕ → Bool). f n) (upd_other w.known r i (updates.upd (w.known r) k true) ne)

  pub learned_here : (ns : List ℕ) (w : HistoryState) (n : ℕ) → (after_all c w (learns r ns)).known r n ≡ (w.known r n || has ns n)
  learned_here [] w n = none (w.known r n)
    where
      none : (b : Bool) → b ≡ (b || false)
      none true = refl
      none false = refl
  learned_here (k ∷ ns) w n = learned_here ns (history.after c w (history.Learn r k)) n
      ∙ (ap (λ (f : ℕ → Bool). f n || has ns n) (upd_same w.known r r (updates.upd (w.known r) k true) refl)
      ∙ ⊎_elim
      (λ same. ap (λ b. b || has ns n) (upd_same (w.known r) k n true same) ∙ sym (ap (λ b. w.known r n || (b || has ns n)) (is_same k n same) ∙ to_true (w.known r n)))
      (λ ne. ap (λ b. b || has ns n) (upd_other (w.known r) k n true ne) ∙ sym (ap (λ b. w.known r n || (b || has ns n)) (is_other k n ne)))
      (cases_eq n k))
    where
      is_same : (k n : ℕ) → n ≡ k → (k == n) ≡ true
      is_same k n e = grind (arith, nat_tests)

      is_other : (k n : ℕ) → n ≢ k → (k == n) ≡ false
      is_other k n ne = grind (arith, nat_tests)

      to_true : (b : Bool) → (b || true) ≡ true
      to_true true = refl
      to_true false = refl

  pub after_append : (es fs : List history.Event) (w : HistoryState) → after_all c w (es ++ fs) ≡ after_all c (after_all c w es) fs
  after_append [] fs w = refl
  after_append (e ∷ es) fs w = after_append es fs (history.after c w e)

module _ (m : Meaning) (l : Layout) (rs : List Request) (g : Beside) (s s' : Sight) (r : ℕ) (kind : EventKind) (whole : IsWhole m l g s)
    (step : Steps m l rs s s' r kind) where
  -- another runner's part
  pub record SameFor (p p' : PartState) : Type 0 where
    pub known : p'.records.known ≡ p.records.known
    pub published : p'.published ≡ p.published

  part1 : PartState
  part1 = after m l r kind step.ask.0 step.ask.1 (s.part r) (s.word step.ask.0)

  pub others : (i : ℕ) → i ≢ r → SameFor (s.part i) (s'.part i)
  unfolding part1
  others i ne = subst (λ (t : Sight). SameFor (s.part i) (t.part i)) (sym step.next) (at_kind kind)
    where
      same : SameFor (s.part i) (s.part i)
      same = record { known = refl; published = refl }

      one : (p' : PartState) → SameFor (s.part i) (upd s.part r p' i)
      one p' = subst (SameFor (s.part i)) (sym (upd_else s.part r p' i ne)) same

      joining : (worker : ℕ) (p' left : PartState) → SameFor (s.part worker) left → SameFor (s.part i) (upd (upd s.part r p') worker left i)
      joining worker p' left of_left = ⊎_elim
          (λ e. subst (SameFor (s.part i)) (sym (ap (upd (upd s.part r p') worker left) e ∙ upd_here (upd s.part r p') worker left)) (subst (λ j. SameFor (s.part j) left) (sym e) of_left))
          (λ no. subst (SameFor (s.part i)) (sym (upd_else (upd s.part r p') worker left i no)) (one p'))
          (cases_eq i worker)

      at_kind : (kind' : EventKind) → SameFor (s.part i) (parts_after kind' s.part r part1 i)
      at_kind (kinds.Join worker) = joining worker (knows_also part1 (s.part worker)) (leaves (s.part worker)) (record { known = refl; published = refl })
      at_kind kind' = one part1

  module _ (quiet : PublishesNothing m l rs s s' r kind step) where
    part1_keeps : KeepsOn (s.part r) part1
    unfolding part1
    part1_keeps =
        let h = stepped_keeps m l rs g s whole r step.ask kind step.asked (s.word step.ask.0) quiet in
        record {
          grows = λ n reply e. ap (λ xs. knows xs n reply) (noted_known l r kind step.ask.0 step.ask.1 (s.word step.ask.0) (stepped m l kind (s.part r) (s.word step.ask.0)).records)
              ∙ h.grows n reply e;
          appends = (
            h.appends.0,
            noted_known l r kind step.ask.0 step.ask.1 (s.word step.ask.0) (stepped m l kind (s.part r) (s.word step.ask.0)).records
                ∙ h.appends.1,
          );
          was = h.was;
          link = h.link;
        }

    pub own : KeepsOn (s.part r) (s'.part r)
    unfolding part1
    own = subst (λ (t : Sight). KeepsOn (s.part r) (t.part r)) (sym step.next) (at_kind kind)
      where
        joining : (worker : ℕ) → KeepsOn (s.part r) (upd (upd s.part r (knows_also part1 (s.part worker))) worker (leaves (s.part worker)) r)
        joining worker =
            let f = upd s.part r (knows_also part1 (s.part worker)) in
            let left = leaves (s.part worker) in
            ⊎_elim
            (λ e. subst (KeepsOn (s.part r)) (sym (ap (upd f worker left) e ∙ upd_here f worker left))
            (subst (λ j. KeepsOn (s.part j) left) (sym e) (on (s.part worker) left refl refl)))
            (λ ne. subst (KeepsOn (s.part r)) (sym (upd_else f worker left r ne ∙ upd_here s.part r (knows_also part1 (s.part worker)))) (record {
              grows = λ n reply e. grows_append part1.records.known (s.part worker).records.known n reply (part1_keeps.grows n reply e);
              appends = (
                part1_keeps.appends.0 ++ (s.part worker).records.known,
                ap (λ xs. xs ++ (s.part worker).records.known) part1_keeps.appends.1
                    ∙ append_assoc (s.part r).records.known part1_keeps.appends.0 (s.part worker).records.known,
              );
              was = part1_keeps.was;
              link = part1_keeps.link;
            }))
            (cases_eq r worker)

        at_kind : (kind' : EventKind) → KeepsOn (s.part r) (parts_after kind' s.part r part1 r)
        at_kind (kinds.Join worker) = joining worker
        at_kind kind' = subst (KeepsOn (s.part r)) (sym (upd_here s.part r part1)) part1_keeps

    -- where its section's end comes, the runner was in its own run's end
    ends_own : (link_of (s'.part r).published ≡ link_of (s.part r).published) ⊎ IsAtItsEnd (s.part r)
    ends_own = ⊎_elim (λ same. inl same) (λ h. inr h.1) own.link

    module _ (c : Requests) (w : HistoryState) (old : AreKept s w) where
      -- behind the end of its section's run
      record Ended (v : HistoryState) : Type 0 where
        pub known : (i n : ℕ) → v.known i n ≡ w.known i n
        pub published : (i : ℕ) → v.published i ≡ link_of (s'.part i).published

      unchanged : (i : ℕ) → i ≢ r → w.published i ≡ link_of (s'.part i).published
      unchanged i ne = old.published i ∙ sym (ap link_of (others i ne).published)

      ended : Ended (after_all c w (ends r (link_of (s.part r).published) (link_of (s'.part r).published)))
      ended = by (link_of (s.part r).published == link_of (s'.part r).published) refl
        where
          same_test : (a b : ℕ) → (a == b) ≡ true → a ≡ b
          same_test a b e = grind (arith, nat_tests)

          other_test : (a b : ℕ) → (a == b) ≡ false → b ≡ a → ⊥
          other_test a b e same = grind (arith, nat_tests)

          by : (b : Bool) → (link_of (s.part r).published == link_of (s'.part r).published) ≡ b → Ended (after_all c w (cond b [] (history.Over r ∷ [])))
          by true e = record {
            known = λ i n. refl;
            published = λ i. ⊎_elim
                (λ is. ap w.published is ∙ (old.published r ∙ (same_test _ _ e ∙ sym (ap (λ j. link_of (s'.part j).published) is))))
                (λ ne. unchanged i ne)
                (cases_eq i r);
          }
          by false e = record {
            known = λ i n. refl;
            published = λ i. ⊎_elim
                (λ is. upd_same w.published r i 0 is ∙ sym (ap (λ j. link_of (s'.part j).published) is
                ∙ ⊎_elim (λ same. absurd (other_test _ _ e same)) (λ h. h.0) own.link))
                (λ ne. upd_other w.published r i 0 ne ∙ unchanged i ne)
                (cases_eq i r);
          }

      kept_now : AreKept s' (after_all c w (events_of r (s.part r) (s'.part r)))
      kept_now = subst (AreKept s') (sym (after_append c r (ends r (link_of (s.part r).published) (link_of (s'.part r).published)) (learns r (answered_in (s'.part r).records.known)) w)) (record {
        known = λ i n. ⊎_elim
            (λ is. subst (λ j. (after_all c v (learns r ns)).known j n ≡ is_answered (s'.part j).records.known n) (sym is) (here n))
            (λ ne. learned_else c r ns v i n ne ∙ (ended.known i n ∙ (old.known i n ∙ sym (ap (λ xs. is_answered xs n) (others i ne).known))))
            (cases_eq i r);
        published = λ i. learned_published c r ns v i ∙ ended.published i;
      })
        where
          ns : List ℕ
          ns = answered_in (s'.part r).records.known

          v : HistoryState
          v = after_all c w (ends r (link_of (s.part r).published) (link_of (s'.part r).published))

          here : (n : ℕ) → (after_all c v (learns r ns)).known r n ≡ is_answered (s'.part r).records.known n
          here n = learned_here c r ns v n ∙ (ap (λ b. b || has ns n) (ended.known r n ∙ old.known r n)
              ∙ (ap (λ b. is_answered (s.part r).records.known n || b) (answered_is (s'.part r).records.known n)
              ∙ answered_grows (s.part r).records.known (s'.part r).records.known own.grows n))

-- a publication
module _ (m : Meaning) (l : Layout) (rs : List Request) (s s' : Sight) (r d : ℕ) (t : Thunk) (step : Steps m l rs s s' r (kinds.Hold t d))
    (same : s.word step.ask.0 ≡ t.word) where
  -- the stepping runner has published this section, and knows what it knew
  pub record IsPublished (p' : PartState) : Type 0 where
    pub known : p'.records.known ≡ (s.part r).records.known
    pub published : p'.published ≡ Some (outside.published_by t d (s.part r))
    pub link : link_of p'.published ≡ suc d

  won : (found : ℕ) → (found == t.word) ≡ true → IsPublished (outside.hold_after t d (s.part r) found)
  won found e = subst (λ b. IsPublished (if b then record (s.part r) {
    published = Some (outside.published_by t d (s.part r));
    descriptors = descriptor_taken (s.part r).descriptors d;
    guards = published_seen (s.part r).guards d;
    reads = cell_read (s.part r).reads t.lock found;
  } else record (s.part r) { reads = cell_read (s.part r).reads t.lock found })) (sym e) (record { known = refl; published = refl; link = refl })

  stepped_published : IsPublished (stepped m l (kinds.Hold t d) (s.part r) (s.word step.ask.0))
  stepped_published = by (s.part r).run refl
    where
      is_same : (a b : ℕ) → a ≡ b → (a == b) ≡ true
      is_same a b e = grind (arith, nat_tests)

      in_run : (q : RunState) (b : Bool) → (if b then line_ask m l (kinds.Hold t d) (s.part r).nodes.free (s.part r).blocks.free q (next_of m q) else opening_ask (kinds.Hold t d) q) ≡ Some step.ask
          → IsPublished (after_by m l (kinds.Hold t d) (s.part r) (Some q) (s.word step.ask.0))
      in_run q true e = some_none step.ask e
      in_run q false e = some_none step.ask e

      by : (run : Option RunState) → (s.part r).run ≡ run → IsPublished (after_by m l (kinds.Hold t d) (s.part r) run (s.word step.ask.0))
      by None is = won (s.word step.ask.0) (is_same _ _ same)
      by (Some q) is = in_run q (is_open_run q) (asked_by m l r (kinds.Hold t d) (s.part r) rs step.ask (Some q) is step.asked)

  part2 : PartState
  part2 = after m l r (kinds.Hold t d) step.ask.0 step.ask.1 (s.part r) (s.word step.ask.0)

  part_published : IsPublished part2
  unfolding part2
  part_published = record {
    known = noted_known l r (kinds.Hold t d) step.ask.0 step.ask.1 (s.word step.ask.0) (stepped m l (kinds.Hold t d) (s.part r) (s.word step.ask.0)).records
        ∙ stepped_published.known;
    published = stepped_published.published;
    link = stepped_published.link;
  }

  part_there : s'.part ≡ upd s.part r part2
  unfolding part2
  part_there = ap (λ (x : Sight). x.part) step.next

  -- the stepping runner's part, and the others'
  pub own_published : IsPublished (s'.part r)
  unfolding part2
  own_published = subst IsPublished (sym (ap (λ (f : ℕ → PartState). f r) part_there ∙ upd_here s.part r part2)) part_published

  pub others_same : (i : ℕ) → i ≢ r → s'.part i ≡ s.part i
  others_same i ne = ap (λ (f : ℕ → PartState). f i) part_there ∙ upd_else s.part r part2 i ne

  module _ (c : Requests) (w : HistoryState) (answer : ℕ) (old : AreKept s w) where
    publication_kept : AreKept s' (history.after c w (history.Publish r d t.request answer))
    publication_kept = record {
      known = λ i n. ⊎_elim
          (λ is. old.known i n ∙ ap (λ xs. is_answered xs n) (ap (λ j. (s.part j).records.known) is ∙ sym (ap (λ (p : PartState). p.records.known) (here i is) ∙ part_published.known)))
          (λ ne. old.known i n ∙ sym (ap (λ (p : PartState). is_answered p.records.known n) (elsewhere i ne)))
          (cases_eq i r);
      published = λ i. ⊎_elim
          (λ is. upd_same w.published r i (suc d) is ∙ sym (ap (λ (p : PartState). link_of p.published) (here i is) ∙ part_published.link))
          (λ ne. upd_other w.published r i (suc d) ne ∙ (old.published i ∙ sym (ap (λ (p : PartState). link_of p.published) (elsewhere i ne))))
          (cases_eq i r);
    }
      where
        here : (i : ℕ) → i ≡ r → s'.part i ≡ part2
        here i is = ap (λ (f : ℕ → PartState). f i) part_there ∙ (ap (upd s.part r part2) is ∙ upd_here s.part r part2)

        elsewhere : (i : ℕ) → i ≢ r → s'.part i ≡ s.part i
        elsewhere i ne = ap (λ (f : ℕ → PartState). f i) part_there ∙ upd_else s.part r part2 i ne

pub publications_kept : (m : Meaning) (l : Layout) (rs : List Request) → PublicationsAreKept m l rs
publications_kept m l rs c g s s' w r d answer t whole step same old = publication_kept m l rs s s' r d t step same c w answer old

pub steps_kept : (m : Meaning) (l : Layout) (rs : List Request) → StepsAreKept m l rs
steps_kept m l rs c g s s' w r kind whole step quiet old = kept_now m l rs g s s' r kind whole step quiet c w old

pub ends_are_own : (m : Meaning) (l : Layout) (rs : List Request) → EndsAreOwn m l rs
ends_are_own m l rs g s s' r kind whole step quiet = ends_own m l rs g s s' r kind whole step quiet
