-- The kinds of step by which a guard word moves, and a sweep goes on.
use Rattle.std.specs.Prelude.{◌==◌, ◌&&◌, ◌||◌, cond, Bool, true, false, nat_lt}
use Rattle.std.proofs.Common.{◌≡◌, ℕ, ◌+◌, ◌<◌, ◌≤◌, List, [], ◌∷◌, ◌++◌, refl, sym, ap, ◌∙◌, subst, arith, Option, Some, None}
use Rattle.std.proofs.lemmas.Bool.Decides.{nat_tests}
use Rattle.std.proofs.lemmas.Option.{none-some}
use Rattle.section_lines.specs.small_lemmas.proofs.Numbers.{tested_equal as same_number}
use Rattle.machine_states.specs.table_words.specs.declared.layout.Layout.{Layout}
use Rattle.machine_states.specs.table_words.specs.declared.spot.Spot.{Spot}
use Rattle.machine_states.specs.table_words.specs.declared.spot.Spot.TheVariants.{Guard}
use Rattle.machine_states.specs.table_words.specs.declared.access.Access.{Access}
use Rattle.machine_states.specs.table_words.specs.declared.access.Access.TheVariants.{Loads}
use Rattle.machine_states.specs.table_words.specs.Seen.{put}
use Rattle.machine_states.specs.structure_laws.specs.Meaning.{Meaning}
use Rattle.machine_states.specs.guard_core.specs.Moves.{is_unnamed}
use Rattle.machine_states.specs.guard_core.specs.State.{word_of}
use Rattle.machine_states.specs.runner_parts.specs.declared.event.EventKind.TheVariants as kinds
use Rattle.machine_states.specs.runner_parts.specs.State.{PartState, RecordsState}
use Rattle.machine_states.specs.runner_parts.specs.Tests.{has, is_some_of}
use Rattle.machine_states.specs.runner_parts.specs.Lists.{descriptors_swept, guard_moved, with_looked}
use Rattle.machine_states.specs.runner_steps.specs.Outside.{is_sure_of}
use Rattle.machine_states.specs.runner_steps.specs.Guards.{guard_ask, load_guard_ask, is_last_guard}
use Rattle.machine_states.specs.epoch_core.specs.declared.location.Location.{Location}
use Rattle.machine_states.specs.epoch_core.specs.declared.location.Location.TheVariants.{Fixed, Live, Hand, Free, Worn, Limbo, OnBoard}
use Rattle.machine_states.specs.epoch_core.specs.Update.{upd_row}
use Rattle.machine_states.specs.epoch_core.specs.Moves.{swept}
use Rattle.machine_states.specs.epoch_core.specs.State.{EpochState, Retiring}
use Rattle.machine_states.specs.epoch_core.specs.Events.{slot_of, is_among, MayFree}
use Rattle.machine_states.specs.epoch_core.specs.Events as events
use Rattle.machine_states.specs.epoch_core.specs.History.{is_out}
use Rattle.machine_states.specs.epoch_core.specs.Lists.{times, in_any_limbo}
use Rattle.machine_states.specs.Sight.{Sight}
use Rattle.machine_states.proofs.Updates.{map_same, map_upd}
use Rattle.machine_epochs.specs.Entries.{counts_of}
use Rattle.machine_epochs.specs.Roles.{role_at}
use Rattle.machine_epochs.specs.Slots.{lists_of, retiring_of}
use Rattle.machine_epochs.specs.Joined.{IsJoinedToEpochs}
use Rattle.machine_epochs.proofs.OutsideAsked as asked
use Rattle.machine_epochs.proofs.CommitKinds.{row_else, row_only}
use Rattle.machine_epochs.proofs.Joining.{IsSameBut, IsSameSections, but_load, section_same, descriptor_same, thunk_same, Goes, GoesBy, StaysAt, next, as_published, once, stages_stay, stays, board_kept, goes_with}
use Rattle.machine_epochs.proofs.OutsideKinds.{Leads, tied_by}
use Rattle.machine_states.specs.body_terms.specs.declared.thunk.Thunk.{Thunk}

-- the node slots of a row stay where the descriptors of it go
row_nodes : (f : ℕ → ℕ → Bool) (r t n : ℕ) → f r t ≡ true → t < n → upd_row f r (λ u. f r u && nat_lt u n) r t ≡ true
row_nodes f r t n h low = grind (arith, nat_tests)

row_gone : (f : ℕ → ℕ → Bool) (r n d : ℕ) → upd_row f r (λ u. f r u && nat_lt u n) r (n + d) ≡ false
row_gone f r n d = by_test (f r (n + d)) (past n d)
  where
    past : (n d : ℕ) → nat_lt (n + d) n ≡ false
    past n d = grind (arith, nat_tests)

    by_test : (b : Bool) → nat_lt (n + d) n ≡ false → cond (r == r) (b && nat_lt (n + d) n) b ≡ false
    by_test true e = grind (arith, nat_tests)
    by_test false e = grind (arith, nat_tests)

swept_out : (frees : Bool) (r : ℕ) (p : Location) → is_out (swept frees r p) ≡ true → is_out p ≡ true
swept_out frees r (Limbo r' y) h = refl
swept_out frees r Fixed h = refl
swept_out frees r Live h = refl
swept_out frees r (Hand r') h = h
swept_out frees r (Free r') h = h
swept_out frees r (Worn r') h = h
swept_out frees r (OnBoard i) h = h

times_has : (xs : List ℕ) (d : ℕ) → 1 ≤ times d xs → has xs d ≡ true
times_has [] d some = absurd (omega arith)
times_has (x ∷ xs) d some = by_test (x == d) (has xs d) (times d xs) (times_has xs d) some
  where
    by_test : (b b' : Bool) (n : ℕ) → (1 ≤ n → b' ≡ true) → 1 ≤ cond b (1 + n) n → (b || b') ≡ true
    by_test true b' n rest some = refl
    by_test false b' n rest some = rest some

has_more : (xs ys : List ℕ) (d : ℕ) → has xs d ≡ true → has (xs ++ ys) d ≡ true
has_more [] ys d h = absurd (let x = h in cc)
has_more (x ∷ xs) ys d h = by_test (x == d) (has xs d) (has (xs ++ ys) d) (has_more xs ys d) h
  where
    by_test : (a b c : Bool) → (b ≡ true → c ≡ true) → (a || b) ≡ true → (a || c) ≡ true
    by_test a b c h e = grind arith

module _ (m : Meaning) (l : Layout) (w : EpochState) (s : Sight) (old : IsJoinedToEpochs m l w s) (r : ℕ) (none : (s.part r).run ≡ None) (records : RecordsState) where
  abbrev p : PartState
  p = s.part r

  -- the guard word moves, and the runner holds no descriptor any more
  module _ (d : Option ℕ) (v : ℕ) (unpublished : p.published ≡ None) (few : (n : ℕ) → d ≡ Some n → n < (counts_of m l).descriptors) where
    abbrev f : Spot → ℕ
    f = put s.word (Guard r) v

    elsewhere : IsSameSections f s.word
    elsewhere = record { thunk = λ n j. refl; done = λ n. refl; log = λ n k. refl; link = λ n. refl }

    abbrev moved : PartState
    moved = record p { guards = guard_moved p.guards d; records = records }

    unguards : Goes m l (events.Unguard r ∷ []) w (next m l w s old r f moved)
    unguards =
        goes_with m l w s old r (events.Unguard r ∷ []) (ap (λ (y : Retiring). y.loaded) ((old.tied r).retire ∙ ap (retiring_of m) none), tt) f moved
        (sym (map_same lists_of s.part r moved refl))
        (record { epoch = old.entries.epoch; announced = old.entries.announced; stage = stages_stay m l w s old r f moved refl })
        (board_kept m l w s old r (events.Unguard r ∷ []) refl (ap (λ (y : Retiring). y.loaded) ((old.tied r).retire ∙ ap (retiring_of m) none), tt) f moved (λ i. refl))
        old.roles
        (once m l w s old r moved (as_published m l w s old r moved refl))
        (record {
          run_held = λ q e. absurd (none-some _ (sym none ∙ e));
          run_opened = λ q j e low low'. absurd (none-some _ (sym none ∙ e));
          run_begins = λ q e low. absurd (none-some _ (sym none ∙ e));
          run_made = λ q u e made. absurd (none-some _ (sym none ∙ e));
          retire = (old.tied r).retire;
          published = λ y e. absurd (none-some _ (sym unpublished ∙ e));
          run_sure = λ q e. absurd (none-some _ (sym none ∙ e));
          published_sure = λ y e. absurd (none-some _ (sym unpublished ∙ e));
          numbered = few;
          sure = λ n is. absurd (let y = is in cc);
          sure_alone = λ n h. absurd (let y = sym (row_gone w.holds r (counts_of m l).nodes n) ∙ h in cc);
          reached = λ t isin node is_there. row_nodes w.holds r t (counts_of m l).nodes ((old.tied r).reached t isin node is_there) node;
          stored_free = (old.tied r).stored_free;
          stored = λ n j k free last. section_same f s.word elsewhere n j ∙ (old.tied r).stored n j k free last;
        })
        (λ i ne. record {
          holds = λ t h. row_else w.holds r i t (λ u. w.holds r u && nat_lt u (counts_of m l).nodes) ne h;
          alone = λ n h. row_only w.holds r i (slot_of (counts_of m l) n) (λ u. w.holds r u && nat_lt u (counts_of m l).nodes) ne h;
          words = λ n j h. refl;
          hand = λ t h. h;
          retire = refl;
          live = λ y e h. h;
          entered = λ h. h;
          stored = λ n j h. section_same f s.word elsewhere n j;
        })

  pub guard : (d : Option ℕ) (x : Spot × Access) → guard_ask l r d p ≡ Some x → Leads m l w s old r none (kinds.Guard d) records x
  guard d x e = let h = asked.guard_asked l r d p x e in
      subst (Leads m l w s old r none (kinds.Guard d) records) h.is (_, refl, unguards d (word_of d) h.unpublished h.few)

  -- a guard word was read
  module _ (a : Spot) where
    abbrev words : List ℕ
    words = p.guards.looked ++ s.word a ∷ []

    abbrev seen : Spot → ℕ
    seen = put s.word a (s.word a)

    same : IsSameBut seen s.word
    same = but_load s.word a

    -- nobody is sure of what the sweep frees
    abbrev IsUnsure : Type 0
    IsUnsure = (d q : ℕ) → has p.descriptors.limbo d ≡ true → is_unnamed words d ≡ true → is_sure_of (s.part q).guards d ≡ false

    -- the sweep goes on
    abbrev further : PartState
    further = record p { guards = with_looked p.guards words; records = records }

    reads_on : StaysAt m l w (next m l w s old r seen further)
    reads_on = let tied = tied_by m l w s old r none seen same in
        stays m l w s old r seen further same refl refl (as_published m l w s old r further refl) (record {
          run_held = tied.run_held;
          run_opened = tied.run_opened;
          run_begins = tied.run_begins;
          run_made = tied.run_made;
          retire = tied.retire;
          published = tied.published;
          run_sure = tied.run_sure;
          published_sure = tied.published_sure;
          numbered = tied.numbered;
          sure = tied.sure;
          sure_alone = tied.sure_alone;
          reached = tied.reached;
          stored_free = tied.stored_free;
          stored = tied.stored;
        })

    -- it is over
    abbrev freed : PartState
    freed = record p { descriptors = descriptors_swept words p.descriptors; guards = with_looked p.guards []; records = records }

    in_own_limbo : (d y : ℕ) → d < (counts_of m l).descriptors → w.location (slot_of (counts_of m l) d) ≡ Limbo r y → has p.descriptors.limbo d ≡ true
    in_own_limbo d y few at = times_has p.descriptors.limbo d (one r (old.listed.limbo_descriptors r d few ∙ ap (in_any_limbo r) at))
      where
        one : (i : ℕ) {n : ℕ} → n ≡ cond (i == i) 1 0 → 1 ≤ n
        one i e = grind (arith, nat_tests)

    may_free : IsUnsure → (d : ℕ) → is_unnamed words d ≡ true → MayFree (counts_of m l) w r d
    may_free unsure d unnamed y q at = by_test (w.holds q (slot_of (counts_of m l) d)) refl
      where
        of_named : (b : Bool) (o : Option ℕ) → (b && is_some_of o d) ≡ true → o ≡ Some d
        of_named true (Some n) e = ap (λ k. Some k) (same_number n d e)
        of_named true None e = absurd (let z = e in cc)
        of_named false o e = absurd (let z = e in cc)

        by_test : (b : Bool) → w.holds q (slot_of (counts_of m l) d) ≡ b → b ≡ false
        by_test false e = refl
        by_test true e =
            let sure = (old.tied q).sure_alone d e in
            absurd (let z = sym (unsure d q (in_own_limbo d y ((old.tied q).numbered d (of_named (s.part q).guards.sure (s.part q).guards.named sure)) at) unnamed) ∙ sure in cc)

    kept : (t : ℕ) (place : Location) → swept (is_among (counts_of m l) (is_unnamed words) t) r place ≡ place → w.location t ≡ place → swept (is_among (counts_of m l) (is_unnamed words) t) r (w.location t) ≡ place
    kept t place stays_there at = ap (swept (is_among (counts_of m l) (is_unnamed words) t) r) at ∙ stays_there

    sweeps_all : IsUnsure → Goes m l (events.Sweep r (is_unnamed words) ∷ []) w (next m l w s old r seen freed)
    sweeps_all unsure =
        goes_with m l w s old r (events.Sweep r (is_unnamed words) ∷ []) (may_free unsure, tt) seen freed
        (sym (map_upd lists_of s.part r freed))
        (record {
          epoch = old.entries.epoch ∙ sym same.epoch;
          announced = λ i. old.entries.announced i ∙ sym (same.announced i);
          stage = stages_stay m l w s old r seen freed refl;
        })
        (board_kept m l w s old r (events.Sweep r (is_unnamed words) ∷ []) refl (may_free unsure, tt) seen freed same.board)
        (λ d k out. old.roles d k (swept_out _ r _ out) ∙ ap (λ (t : Thunk). role_at (m.body t) k) (sym (thunk_same seen s.word d (same.thunk d))))
        (once m l w s old r freed (as_published m l w s old r freed refl))
        (record {
          run_held = λ q e. absurd (none-some _ (sym none ∙ e));
          run_opened = λ q j e low low'. absurd (none-some _ (sym none ∙ e));
          run_begins = λ q e low. absurd (none-some _ (sym none ∙ e));
          run_made = λ q u e made. absurd (none-some _ (sym none ∙ e));
          retire = (old.tied r).retire;
          published = λ y e. kept (slot_of (counts_of m l) y.descriptor) Live refl ((old.tied r).published y e);
          run_sure = λ q e. absurd (none-some _ (sym none ∙ e));
          published_sure = (old.tied r).published_sure;
          numbered = (old.tied r).numbered;
          sure = (old.tied r).sure;
          sure_alone = (old.tied r).sure_alone;
          reached = (old.tied r).reached;
          stored_free = λ d j n last. has_more p.descriptors.free _ d ((old.tied r).stored_free d j n last);
          stored = λ d j n free last. descriptor_same seen s.word same d j ∙ (old.tied r).stored d j n ((old.tied r).stored_free d j n last) last;
        })
        (λ i ne. record {
          holds = λ t h. h;
          alone = λ d h. h;
          words = λ d j h. same.thunk d j;
          hand = λ t h. kept t (Hand i) refl h;
          retire = refl;
          live = λ y e h. kept (slot_of (counts_of m l) y.descriptor) Live refl h;
          entered = λ h. h;
          stored = λ d j h. descriptor_same seen s.word same d j;
        })

    sweeps_by : (b : Bool) → (b ≡ true → IsUnsure)
        → GoesBy m l (λ es. es ≡ cond b (events.Sweep r (is_unnamed words) ∷ []) []) w
        (next m l w s old r seen (record p { descriptors = cond b (descriptors_swept words p.descriptors) p.descriptors; guards = with_looked p.guards (cond b [] words); records = records }))
    sweeps_by true unsure = (_, refl, sweeps_all (unsure refl))
    sweeps_by false unsure = reads_on

  abbrev IsFree : Spot × Access → Type 0
  IsFree y = (d q : ℕ) → is_last_guard l p.guards.looked ≡ true → has p.descriptors.limbo d ≡ true → is_unnamed (p.guards.looked ++ s.word y.0 ∷ []) d ≡ true → is_sure_of (s.part q).guards d ≡ false

  pub load_guard : (n : ℕ) (x : Spot × Access) → IsFree x → load_guard_ask l n p ≡ Some x → Leads m l w s old r none (kinds.LoadGuard n) records x
  load_guard n x free e =
      let h = asked.load_guard_asked l n p x e in
      let here : IsFree (Guard n, Loads) = subst IsFree (sym h.is) free in
      subst (Leads m l w s old r none (kinds.LoadGuard n) records) h.is (sweeps_by (Guard n) (is_last_guard l p.guards.looked) (λ last d q. here d q last))
