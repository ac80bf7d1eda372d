-- So it is in every reached state with one worker.
use Rattle.std.specs.Prelude.{◌==◌, ◌⊎◌, not, Bool, true, false, slice_get, if◌then◌else◌}
use Rattle.std.proofs.Common.{◌≡◌, ◌≢◌, ℕ, zero, suc, ◌≤◌, List, [], ◌∷◌, ◌++◌, length, le_of_eq, refl, sym, ap, ◌∙◌, subst, ⊎_elim, inl, inr, arith, Option, Some, None}
use Rattle.std.proofs.lemmas.Bool.{cases_lt}
use Rattle.machine_states.specs.epoch_core.specs.small_lemmas.proofs.Numbers.{equal_tested as same_test}
use Rattle.machine_states.specs.map_history.specs.declared.op.Request.{Request}
use Rattle.machine_states.specs.body_terms.specs.Line.{line, micro_at}
use Rattle.machine_states.specs.body_terms.specs.Word.{value_of}
use Rattle.machine_states.specs.body_terms.specs.declared.micro.Micro.TheVariants as micros
use Rattle.machine_states.specs.body_terms.specs.declared.thunk.Thunk.{Thunk}
use Rattle.machine_states.specs.table_words.specs.declared.layout.Layout.{Layout}
use Rattle.machine_states.specs.table_words.specs.declared.spot.Spot.{Spot}
use Rattle.machine_states.specs.table_words.specs.declared.spot.Spot.TheVariants as spots
use Rattle.machine_states.specs.table_words.specs.declared.access.Access.{Access}
use Rattle.machine_states.specs.table_words.specs.Access.{written}
use Rattle.machine_states.specs.table_words.specs.Seen.{put}
use Rattle.machine_states.specs.table_words.specs.Limits.{IsWithinLimits}
use Rattle.machine_states.specs.structure_laws.specs.Meaning.{Meaning}
use Rattle.machine_states.specs.structure_laws.specs.Laws.{Laws}
use Rattle.machine_states.specs.structure_laws.specs.Planner.{PlannerLaws}
use Rattle.machine_states.specs.structure_laws.specs.Scene.{Status, Free, Live}
use Rattle.machine_states.specs.runner_parts.specs.declared.entries.Published.{Published}
use Rattle.machine_states.specs.epoch_core.specs.declared.stage.Stage.TheVariants as stages
use Rattle.machine_states.specs.runner_parts.specs.declared.event.Event.{Event}
use Rattle.machine_states.specs.runner_parts.specs.declared.event.EventKind.TheVariants as kinds
use Rattle.machine_states.specs.runner_parts.specs.State.{RunState, NodesState, PartState}
use Rattle.machine_states.specs.runner_parts.specs.Lists.{cell_read, descriptor_taken, published_seen}
use Rattle.machine_states.specs.runner_steps.specs.Asks.{ask_by}
use Rattle.machine_states.specs.runner_steps.specs.After.{after_by}
use Rattle.machine_states.specs.runner_steps.specs.Sections.{is_open_run}
use Rattle.machine_states.specs.runner_steps.specs.AfterOutside.{published_by}
use Rattle.agreement_core.specs.State.{AgreementState}
use Rattle.machine_states.specs.epoch_core.specs.State.{entry_of}
use Rattle.machine_states.specs.epoch_core.specs.History.{is_out}
use Rattle.machine_states.specs.epoch_core.specs.Events.{slot_of}
use Rattle.machine_states.specs.epoch_core.specs.declared.location.Location.{Location}
use Rattle.machine_states.specs.epoch_core.specs.State.{IsKept}
use Rattle.machine_states.specs.World.{World, happens}
use Rattle.machine_states.specs.First.{IsFirst}
use Rattle.machine_states.specs.Reached.{Reached}
use Rattle.machine_states.specs.Sight.{Sight, sight, Steps}
use Rattle.machine_states.proofs.FirstSights.{first_parts}
use Rattle.machine_states.proofs.Reached.{first_reached, more_reached, reached_has, reached_all}
use Rattle.machine_states.proofs.Sights.{happens_steps, cond_none, unless_gone, joins}
use Rattle.machine_states.proofs.Steps.{none_some}
use Rattle.machine_states.proofs.Updates.{upd_else}
use Rattle.resource_bounds.specs.machine_epochs.specs.Entries.{counts_of}
use Rattle.resource_bounds.specs.machine_epochs.specs.Slots.{thunk_in}
use Rattle.resource_bounds.specs.machine_epochs.proofs.FirstJoin as FirstJoin
use Rattle.resource_bounds.specs.machine_epochs.proofs.OutsideAsked.{HoldAsked, hold_asked}
use Rattle.resource_bounds.specs.machine_epochs.proofs.Places.{free_descriptor}
use Rattle.machine_states.specs.epoch_core.specs.small_lemmas.proofs.Lists.{get_last}
use Rattle.runner_facts.specs.machine_facts.specs.machine_agreement.proofs.Releases.{get_more}
use Rattle.runner_facts.specs.machine_facts.specs.After.{AreFactsOfStep}
use Rattle.runner_facts.specs.machine_facts.proofs.Following.{facts_after, step_facts_after}
use Rattle.runner_facts.specs.machine_facts.specs.machine_invariant.specs.After.{AreAllowed}
use Rattle.runner_facts.specs.machine_facts.specs.machine_invariant.specs.Whole.{IsWhole}
use Rattle.resource_bounds.specs.machine_epochs.proofs.Prepared.{done_is, log_is, link_is}
use Rattle.resource_bounds.specs.reached_histories.specs.Kept.{link_of}
use Rattle.runner_facts.specs.next_steps.proofs.Parts.{each_part}
use Rattle.resource_bounds.specs.reached_histories.specs.Laws.{HasHistory}
use Rattle.resource_bounds.specs.reached_histories.proofs.Histories.{reached_have}
use Rattle.one_worker.proofs.Open.{only, owner}
use Rattle.one_worker.proofs.Idle.{idle_times}
use Rattle.one_worker.proofs.Kept.{IsIdlePlace, Holds}
use Rattle.one_worker.proofs.Places.{out, is_free, node, unread}
use Rattle.one_worker.proofs.Reached.{holds}
use Rattle.one_worker.specs.Alone.{HasPublishedNone}
use Rattle.one_worker.specs.Lone.{IsLastReading, LoneSectionsGoThrough}
use Rattle.one_worker.proofs.Parts.{Had, Published', KeepsBy, inside_keeps, outside_keeps}
use Rattle.one_worker.proofs.Goes.{Goes}
use Rattle.one_worker.proofs.SectionsKept.{kept}
use Rattle.one_worker.proofs.Published.{published}
use Rattle.one_worker.proofs.Ends.{ends_so}
use Rattle.machine_states.specs.body_terms.specs.block_words.specs.Blocks.{log_in, HasBlocks}
use Rattle.machine_states.specs.body_terms.specs.block_words.proofs.Parts.{alone as without_blocks}
use Rattle.machine_states.specs.body_terms.specs.block_words.proofs.Reading.{read_log}
use Rattle.runner_facts.specs.machine_facts.specs.machine_invariant.proofs.LogSteps.{IsSure, Commits, reached_log_goes}

-- what a list has it has with one more, and what it has then at a place below its end it had
get_kept : {A : Type 0} (xs : List A) (f y : A) (i : ℕ) → slice_get xs i ≡ Some y → slice_get (xs ++ f ∷ []) i ≡ Some y
get_kept [] f y i e = absurd (let z = e in cc)
get_kept (x ∷ xs) f y zero e = e
get_kept (x ∷ xs) f y (suc i) e = get_kept xs f y i e

-- the last reading of a list was so without one more, if it isn't that
last_before : (xs ys : List (ℕ × ℕ)) → (ys ≡ xs) ⊎ ((u : ℕ × ℕ) × (ys ≡ xs ++ u ∷ [])) → (at place word : ℕ) → suc at ≤ length xs
    → IsLastReading ys at place word → IsLastReading xs at place word
last_before xs ys (inl same) at place word low h = subst (λ (zs : List (ℕ × ℕ)). IsLastReading zs at place word) same h
last_before xs ys (inr more) at place word low h = record {
  here = ⊎_elim (λ before. before.1) (λ now. absurd (let end = now.0 in omega (arith, end, low)))
      (get_more xs more.0 (place, word) at (ap (λ (zs : List (ℕ × ℕ)). slice_get zs at) (sym more.1) ∙ h.here));
  last = λ i later e. h.last i later (ap (λ (zs : List (ℕ × ℕ)). slice_get zs i) more.1 ∙ get_kept xs more.0 (place, word) i e);
}

free_not_live : (a : Status) → a ≡ Free → a ≡ Live → ⊥
free_not_live a one two = cc

cell_place : (p p' : ℕ) → spots.Cell p ≡ spots.Cell p' → p ≡ p'
cell_place p p' e = cc

-- a state: whose the open sections are
module _ (m : Meaning) (l : Layout) (rs : List Request) (s : Sight) (history : HasHistory m l rs s) (one : l.runners ≡ 1) (x : Published)
    (is : (s.part 0).published ≡ Some x) where
  whole : IsWhole m l history.beside s
  whole = history.whole

  abbrev a : AgreementState
  a = history.beside.agreement

  linked : (e : ℕ) → suc x.descriptor ≡ suc e → e ≡ x.descriptor
  linked e h = omega (arith, h)

  pub alone : (e : ℕ) → a.used e ≡ true → (a.section e).done ≡ 0 → e ≡ x.descriptor
  alone e used undone =
      let h = history.state in
      let going : h.done e ≡ false = (history.joined.tied.sections e used).done ∙ ap (λ n. not (n == 0)) undone in
      let open_one = history.joined.sound.sections.published e (history.joined.tied.used e ∙ used) going in
      let first : h.published 0 ≡ suc e = ap h.published (sym (only m l rs s history one (h.request e))) ∙ open_one in
      linked e (sym (ap link_of is) ∙ (sym (history.kept.published 0) ∙ first))

  pub named : (p e : ℕ) → m.is_lock p ≡ true → value_of (s.word (spots.Cell p)) ≡ suc e → e ≡ x.descriptor
  named p e lock value =
      let here = ap value_of (whole.sections.words.cells p) ∙ value in
      let live = whole.kept.agreement.named p e lock here in
      let there = whole.tied.publisher e live in
      by (history.beside.publications.runner e) there.0 there.1 there.2
    where
      by : (r : ℕ) (y : Published) → (s.part r).published ≡ Some y → y.descriptor ≡ e → e ≡ x.descriptor
      by r y own at =
          let link : link_of (s.part r).published ≡ suc e = ap link_of own ∙ ap suc at in
          let first : link_of (s.part 0).published ≡ suc e = ap (λ i. link_of (s.part i).published) (sym (owner m l rs s history one r e link)) ∙ link in
          linked e (sym (ap link_of is) ∙ first)

  pub used_there : a.used x.descriptor ≡ true
  used_there = whole.tied.used x.descriptor ∙ ap is_out ((whole.slots.tied 0).published x is)

  pub live_there : a.live x.descriptor ≡ true
  live_there = whole.tied.is_live x.descriptor ((whole.slots.tied 0).published x is)

-- the first section in its entry goes on
abbrev pub Go : Meaning → Sight → Type 0
Go m s = (x : Published) → (s.part 0).published ≡ Some x → IsLastReading (s.part 0).reads.cells x.walked x.thunk.lock x.thunk.word → Goes m s x.descriptor x.thunk

-- one step
module _ (m : Meaning) (l : Layout) (limits : IsWithinLimits l) (rs : List Request) (per_pair : ℕ) (planner : PlannerLaws m per_pair)
    (w v : World) (e : Event) (facts : AreFactsOfStep m l rs w e v)
    (st : Steps m l rs (sight m l rs w) (sight m l rs v) e.runner e.kind) (before : HasHistory m l rs (sight m l rs w))
    (after : HasHistory m l rs (sight m l rs v)) (one : l.runners ≡ 1) (read : Holds m (sight m l rs w)) (read' : Holds m (sight m l rs v))
    (old : Go m (sight m l rs w)) (x' : Published) (is' : ((sight m l rs v).part 0).published ≡ Some x')
    (first' : IsLastReading ((sight m l rs v).part 0).reads.cells x'.walked x'.thunk.lock x'.thunk.word)
    (log_goes : (d k : ℕ) → IsSure (sight m l rs w) d → IsSure (sight m l rs v) d
    → (log_in (sight m l rs v).word d k ≡ log_in (sight m l rs w).word d k) ⊎ Commits m (sight m l rs w) (sight m l rs v) e.runner st.ask d k) where
  abbrev s : Sight
  s = sight m l rs w

  abbrev s' : Sight
  s' = sight m l rs v

  abbrev r : ℕ
  r = e.runner

  abbrev y : PartState
  y = s.part r

  abbrev x : Spot × Access
  x = st.ask

  abbrev found : ℕ
  found = s.word x.0

  asked : ask_by m l rs r e.kind y y.run ≡ Some x
  asked = (unless_gone _ y.gone _ x st.asked).1

  some : (s'.part 0).reads.cells ≡ [] → ⊥
  some z = let none = ap (λ (xs : List (ℕ × ℕ)). slice_get xs x'.walked) (sym z) ∙ first'.here in cc

  abbrev At : ℕ → PartState → Type 0
  At i z = (x1 : Published) → z.published ≡ Some x1 → (z.reads.cells ≡ [] → ⊥)
      → Had m l (s.part i) found e.kind z.reads z.published x1 ⊎ (Published' m l (s.part i) found e.kind z.reads z.published x1 × (i ≡ r))

  stepped : KeepsBy m l y found e.kind (after_by m l e.kind y y.run found).reads (after_by m l e.kind y y.run found).published
  stepped = by y.run
    where
      by : (o : Option RunState) → KeepsBy m l y found e.kind (after_by m l e.kind y o found).reads (after_by m l e.kind y o found).published
      by None = (outside_keeps m l y found e.kind e.kind refl).by
      by (Some q) = (inside_keeps m l y found e.kind q e.kind).by

  at_first : At 0 (s'.part 0)
  at_first = subst (λ (t : Sight). At 0 (t.part 0)) (sym st.next)
      (each_part m l s r x At (λ i z blocks board records gone h. h) e.kind (joins m l rs e.kind r y x st.asked)
      (λ x1 is none. ⊎_elim (λ had. inl had) (λ new. inr (new, refl)) (stepped x1 is none))
      (λ i ne x1 is none. inl (record { is = is; grows = inl refl })) 0)

  -- a publication that won
  module _ (t : Thunk) (d : ℕ) (hold : e.kind ≡ kinds.Hold t d) (none : y.run ≡ None) (won : found ≡ t.word) where
    asked_hold : HoldAsked m l rs t d y x
    asked_hold = hold_asked m l rs r t d y x (subst (λ k. ask_by m l rs r k y None ≡ Some x) hold (subst (λ o. ask_by m l rs r e.kind y o ≡ Some x) none asked))

    now : (after_by m l e.kind y y.run found).published ≡ Some (published_by t d y)
    now = ap (λ k. (after_by m l k y y.run found).published) hold
        ∙ (ap (λ o. (after_by m l (kinds.Hold t d) y o found).published) none ∙ by (found == t.word) (same_test found t.word won))
      where
        by : (b : Bool) → b ≡ true → (if b then record y {
          published = Some (published_by t d y);
          descriptors = descriptor_taken y.descriptors d;
          guards = published_seen y.guards d;
          reads = cell_read y.reads t.lock found;
        } else record y { reads = cell_read y.reads t.lock found }).published ≡ Some (published_by t d y)
        by true is = refl
        by false is = absurd (let z = is in cc)

    there : (s'.part r).published ≡ Some (published_by t d y)
    there = subst (λ (u : Sight). (u.part r).published ≡ Some (published_by t d y)) (sym st.next)
        (each_part m l s r x (λ i z. i ≡ r → z.published ≡ Some (published_by t d y)) (λ i z blocks board records gone h. h) e.kind
        (joins m l rs e.kind r y x st.asked) (λ same. now) (λ i ne same. absurd (ne same)) r refl)

    is_first : r ≡ 0
    is_first = owner m l rs s' after one r d (ap link_of there)

  -- a section that was published before
  goes_on : Had m l (s.part 0) found e.kind (s'.part 0).reads (s'.part 0).published x' → Goes m s' x'.descriptor x'.thunk
  goes_on had =
      kept m l limits rs (per_pair, planner.over l limits) s s' r e.kind st before x'.descriptor x'.thunk
      (used_there m l rs s before one x' had.is) (live_there m l rs s before one x' had.is)
      (facts.there.sound.sections.in_published.thunk 0 x' had.is)
      sure (λ k. log_goes x'.descriptor k sure (0, (after.whole.slots.tied 0).published_sure x' is'))
      (λ done. facts.leads.words.done x'.descriptor (facts.there.sound.sections.in_published.used 0 x' had.is) done)
      (alone m l rs s before one x' had.is) (named m l rs s before one x' had.is)
      (λ t d hold none won. none_some x' (sym had.is ∙ (ap (λ i. (s.part i).published) (sym (is_first t d hold none won)) ∙ (asked_hold t d hold none won).unpublished)))
      (old x' had.is (last_before (s.part 0).reads.cells (s'.part 0).reads.cells had.grows x'.walked x'.thunk.lock x'.thunk.word (read.noted x' had.is).1 first'))
    where
      sure : IsSure s x'.descriptor
      sure = (0, (before.whole.slots.tied 0).published_sure x' had.is)

  -- a section that the step publishes
  module _ (new : Published' m l (s.part 0) found e.kind (s'.part 0).reads (s'.part 0).published x') (at : 0 ≡ r) where
    abbrev d : ℕ
    d = new.descriptor

    abbrev t : Thunk
    t = new.thunk

    none_before : y.run ≡ None
    none_before = by y.run refl (subst (λ k. ask_by m l rs r k y y.run ≡ Some x) new.is asked)
      where
        by : (o : Option RunState) → y.run ≡ o → ask_by m l rs r (kinds.Hold t d) y o ≡ Some x → y.run ≡ None
        by None is asks = is
        by (Some q) is asks = cond_none (is_open_run q) x asks

    ha : HoldAsked m l rs t d y x
    ha = asked_hold t d new.is none_before new.won

    descriptor_is : x'.descriptor ≡ d
    descriptor_is = ap (λ (u : Published). u.descriptor) new.section

    thunk_of_it : x'.thunk ≡ t
    thunk_of_it = ap (λ (u : Published). u.thunk) new.section

    -- with the publication it read its lock last, so before it only in walks
    unpublished : HasPublishedNone (s.part 0)
    unpublished = record {
      unpublished = ap (λ i. (s.part i).published) at ∙ ha.unpublished;
      walked = ⊎_elim
          (λ before. absurd (first'.last (length (s.part 0).reads.cells) (let low = before.0 in omega (arith, low)) at_end))
          (λ now. let end = now.0 in omega (arith, end, walked))
          (get_more (s.part 0).reads.cells (t.lock, found) (x'.thunk.lock, x'.thunk.word) x'.walked
          (ap (λ (xs : List (ℕ × ℕ)). slice_get xs x'.walked) (sym new.read) ∙ first'.here));
    }
      where
        walked : x'.walked ≡ length (s.part 0).reads.walk
        walked = ap (λ (u : Published). u.walked) new.section

        at_end : slice_get (s'.part 0).reads.cells (length (s.part 0).reads.cells) ≡ Some (x'.thunk.lock, x'.thunk.word)
        at_end = ap (λ (xs : List (ℕ × ℕ)). slice_get xs (length (s.part 0).reads.cells)) new.read
            ∙ (get_last (s.part 0).reads.cells (t.lock, found)
            ∙ (ap (λ n. Some (t.lock, n)) new.won ∙ ap (λ (u : Thunk). Some (u.lock, u.word)) (sym thunk_of_it)))

    entered : (s.part 0).stage ≡ stages.Entered ha.entry
    entered = ap (λ i. (s.part i).stage) at ∙ ha.entered

    whole_before : IsWhole m l before.beside s
    whole_before = before.whole

    whole_after : IsWhole m l after.beside s'
    whole_after = after.whole

    other_word : (b : Spot) → ((p : ℕ) → b ≡ spots.Cell p → p ≡ t.lock → ⊥) → s'.word b ≡ s.word b
    other_word b ne = ap (λ (u : Sight). u.word b) st.next
        ∙ subst (λ (u : Spot × Access). put s.word u.0 (written u.1 (s.word u.0)) b ≡ s.word b) ha.is (by _ b ne)
      where
        by : (n : ℕ) (b : Spot) → ((p : ℕ) → b ≡ spots.Cell p → p ≡ t.lock → ⊥) → put s.word (spots.Cell t.lock) n b ≡ s.word b
        by n (spots.Cell p) ne = upd_else (λ i. s.word (spots.Cell i)) t.lock n p (ne p refl)
        by n b ne = refl

    -- the part behind an exchange that won, and behind one that lost
    abbrev won_part : PartState
    won_part = record y {
      published = Some (published_by t d y);
      descriptors = descriptor_taken y.descriptors d;
      guards = published_seen y.guards d;
      reads = cell_read y.reads t.lock found;
    }

    abbrev lost_part : PartState
    lost_part = record y { reads = cell_read y.reads t.lock found }

    -- the nodes and the runs are as they were
    abbrev Same : PartState → Type 0
    Same z = (z.run ≡ y.run) × (z.nodes ≡ y.nodes)

    both_same : (b : Bool) → Same (if b then won_part else lost_part)
    both_same true = (refl, refl)
    both_same false = (refl, refl)

    same_part : (i : ℕ) → ((s'.part i).run ≡ (s.part i).run) × ((s'.part i).nodes ≡ (s.part i).nodes)
    same_part = subst (λ (u : Sight). (i : ℕ) → ((u.part i).run ≡ (s.part i).run) × ((u.part i).nodes ≡ (s.part i).nodes)) (sym st.next)
        (each_part m l s r x (λ i z. (z.run ≡ (s.part i).run) × (z.nodes ≡ (s.part i).nodes)) (λ i z blocks board records gone h. h) e.kind
        (joins m l rs e.kind r y x st.asked) own_part (λ i ne. (refl, refl)))
      where
        own_part : ((after_by m l e.kind y y.run found).run ≡ y.run) × ((after_by m l e.kind y y.run found).nodes ≡ y.nodes)
        own_part = subst (λ k. ((after_by m l k y y.run found).run ≡ y.run) × ((after_by m l k y y.run found).nodes ≡ y.nodes)) (sym new.is)
            (subst (λ o. ((after_by m l (kinds.Hold t d) y o found).run ≡ y.run) × ((after_by m l (kinds.Hold t d) y o found).nodes ≡ y.nodes)) (sym none_before)
            (both_same (found == t.word)))

    live' : after.beside.agreement.live d ≡ true
    live' = subst (λ n. after.beside.agreement.live n ≡ true) descriptor_is (live_there m l rs s' after one x' is')

    used' : after.beside.agreement.used d ≡ true
    used' = subst (λ n. after.beside.agreement.used n ≡ true) descriptor_is (used_there m l rs s' after one x' is')

    publisher : after.beside.publications.runner d ≡ 0
    publisher =
        let there = whole_after.tied.publisher d live' in
        sym (whole_after.slots.published_once 0 (after.beside.publications.runner d) x' there.0 is' there.1 (descriptor_is ∙ sym there.2))

    no_run : (i : ℕ) (q : RunState) → (s'.part i).run ≡ Some q → q.descriptor ≡ d → ⊥
    no_run i q runs of =
        let held = (whole_before.slots.tied i).run_held q (sym (same_part i).0 ∙ runs) in
        let free = free_descriptor m l before.beside.epochs s whole_before.slots r d ha.few ha.free in
        subst (λ (u : Location). IsKept u (entry_of (before.beside.epochs.stage i))) (ap (λ n. before.beside.epochs.location (slot_of (counts_of m l) n)) of ∙ free)
        (whole_before.slots.sound.held i (slot_of (counts_of m l) q.descriptor) held)

    thunk_there : thunk_in s'.word d ≡ t
    thunk_there = subst (λ n. thunk_in s'.word n ≡ t) descriptor_is (facts.here.sound.sections.in_published.thunk 0 x' is' ∙ thunk_of_it)

    entered_now : (s'.part 0).stage ≡ stages.Entered ha.entry
    entered_now = subst (λ (u : Sight). (u.part 0).stage ≡ stages.Entered ha.entry) (sym st.next)
        (each_part m l s r x (λ i z. i ≡ 0 → z.stage ≡ stages.Entered ha.entry) (λ i z blocks board records gone h. h) e.kind
        (joins m l rs e.kind r y x st.asked) (λ same. own_stage) (λ i ne same. absurd (ne (same ∙ at))) 0 refl)
      where
        by : (b : Bool) → (if b then won_part else lost_part).stage ≡ y.stage
        by true = refl
        by false = refl

        own_stage : (after_by m l e.kind y y.run found).stage ≡ stages.Entered ha.entry
        own_stage = ap (λ k. (after_by m l k y y.run found).stage) new.is
            ∙ (ap (λ o. (after_by m l (kinds.Hold t d) y o found).stage) none_before ∙ (by (found == t.word) ∙ ha.entered))

    in_walk : (i place word : ℕ) → slice_get (s'.part 0).reads.walk i ≡ Some (place, word) → slice_get (s.part 0).reads.walk i ≡ Some (place, word)
    in_walk i place word h = ap (λ xs. slice_get xs i) (sym new.walk) ∙ h

    cell_stands : (i place word : ℕ) → slice_get (s'.part 0).reads.walk i ≡ Some (place, word) → place ≢ t.lock → m.is_lock place ≡ false → s'.word (spots.Cell place) ≡ word
    cell_stands i place word h ne unlocked =
        other_word (spots.Cell place) (λ p same lock. ne (cell_place place p same ∙ lock))
        ∙ ⊎_elim (λ stands. stands) (λ idle. absurd (unread m l rs s before read ha.entry entered place idle i word (in_walk i place word h) unlocked))
        (read.read ha.entry i place word entered unpublished (in_walk i place word h))

    lock_stands : (i place word w : ℕ) → slice_get (s'.part 0).reads.walk i ≡ Some (place, word) → place ≢ t.lock → (j : ℕ)
        → micro_at (line (m.body t)) j ≡ micros.NestedHold place w → s'.word (spots.Cell place) ≡ word
    lock_stands i place word w1 h ne j takes =
        other_word (spots.Cell place) (λ p same lock. ne (cell_place place p same ∙ lock))
        ∙ ⊎_elim (λ stands. stands) (λ idle. absurd (used_slot idle))
        (read.read ha.entry i place word entered unpublished (in_walk i place word h))
      where
        used_slot : IsIdlePlace m s place → ⊥
        used_slot idle = ⊎_elim
            (λ fixed. free_not_live _ (is_free m l rs s' after read' ha.entry entered_now place idle') (whole_after.kept.lawful.sound.fixed idle.slot fixed))
            (λ unfixed.
            let section_code = (whole_after.sections.thunks d used').code j ∙ (ap (λ (u : Thunk). micro_at (line (m.body u)) j) thunk_there ∙ takes) in
            let hold = whole_after.held.held d idle.slot idle.cell live' idle.low (node m l rs s' after read' ha.entry entered_now place idle') unfixed
            (inr (j, w1, section_code ∙ ap (λ n. micros.NestedHold n w1) idle.is)) in
            (out m l rs s' after read' ha.entry entered_now place idle').unkept _ (whole_after.slots.sound.held _ idle.slot hold))
            (cases_lt idle.slot m.fixed_slots)
          where
            idle' : IsIdlePlace m s' place
            idle' = record {
              slot = idle.slot;
              cell = idle.cell;
              runner = idle.runner;
              low = idle.low;
              is = idle.is;
              idle = subst (λ (n : NodesState). 1 ≤ idle_times n idle.slot) (sym (same_part idle.runner).1) idle.idle;
            }

    -- the log is empty, and has no block
    begun : HasBlocks (λ i. 0) s'.word d []
    begun = without_blocks (λ i. 0) s'.word d (λ i. refl)
        (λ i low. other_word (spots.LogWord d i) (λ p same lock. absurd (let z = same in cc)) ∙ log_is m l before.beside.epochs s whole_before.slots r t d ha.free ha.prepared i low)
        (other_word (spots.LinkWord d) (λ p same lock. absurd (let z = same in cc)) ∙ link_is m l before.beside.epochs s whole_before.slots r t d ha.free ha.prepared)

    goes_new : Goes m s' x'.descriptor x'.thunk
    goes_new = subst (λ n. Goes m s' n x'.thunk) (sym descriptor_is) (subst (λ u. Goes m s' d u) (sym thunk_of_it)
        (published m l rs per_pair (planner.over l limits) s' after d t used' thunk_there
        (other_word (spots.DoneWord d) (λ p same lock. absurd (let z = same in cc)) ∙ done_is m l before.beside.epochs s whole_before.slots r t d ha.free ha.prepared)
        (λ k. read_log (λ i. 0) s'.word d [] begun k (omega arith))
        publisher no_run cell_stands lock_stands))

  goes_step : Goes m s' x'.descriptor x'.thunk
  goes_step = ⊎_elim goes_on (λ new. goes_new new.0 new.1) (at_first x' is' some)

module _ (m : Meaning) (laws : Laws m) (l : Layout) (limits : IsWithinLimits l) (rs : List Request) (allowed : AreAllowed rs) (per_pair : ℕ)
    (planner : PlannerLaws m per_pair) where
  module _ (one : l.runners ≡ 1) where
    -- a reached state that has it
    record Has (w : World) : Type 0 where
      reached : Reached m l rs w
      has : Go m (sight m l rs w)

    first_has : (w : World) → IsFirst m l rs w → Go m (sight m l rs w)
    first_has w first x is last = absurd (none_some x (sym is ∙ unpublished))
      where
        unpublished : ((sight m l rs w).part 0).published ≡ None
        unpublished = ap (λ (p : PartState). p.published) (first_parts m l w.parts first.parts 0)
            ∙ FirstJoin.each_part m l (λ p. p.published ≡ None) refl (λ k. refl) refl 0

    step_has : (w v : World) (e : Event) → Has w → happens m l rs w e ≡ Some v → Has v
    step_has w v e old happens =
        let reached = more_reached m l rs w v e old.reached happens in
        let all = reached_all m l rs w old.reached in
        let st = (happens_steps m l rs w v e (record { words = le_of_eq (sym all.words); parts = all.parts }) happens).0 in
        record {
          reached = reached;
          has = λ x is first. goes_step m l limits rs per_pair planner w v e
              (step_facts_after m laws l rs old.reached.events w limits allowed old.reached.after e v happens)
              st (reached_have m laws l rs limits allowed w old.reached) (reached_have m laws l rs limits allowed v reached) one
              (holds m laws l limits rs allowed one w old.reached) (holds m laws l limits rs allowed one v reached) old.has x is first
              (λ d k before behind. reached_log_goes m laws l limits rs allowed w v e.runner e.kind old.reached st d k before behind);
        }

    go : (w : World) → Reached m l rs w → Go m (sight m l rs w)
    go w reached = (reached_has m l rs Has (λ v start. record { reached = first_reached m l rs v start; has = first_has v start }) step_has w reached).has

  pub reached_through : (w : World) → Reached m l rs w → LoneSectionsGoThrough m l (sight m l rs w)
  reached_through w reached one d r q first runs of all =
      let history = reached_have m laws l rs limits allowed w reached in
      let facts = facts_after m laws l rs reached.events w limits allowed reached.after in
      let x = first.section in
      let goes = go one w reached x first.published first.first in
      ends_so m l rs (sight m l rs w) history x.descriptor x.thunk (used_there m l rs (sight m l rs w) history one x first.published)
      (facts.here.sound.sections.in_published.thunk 0 x first.published) goes r q runs (of ∙ sym first.descriptor) all
