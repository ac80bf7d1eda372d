-- What the worker has read stands over each step, as long as it has published nothing in its entry.
use Rattle.std.specs.Prelude.{◌==◌, ◌⊎◌, Bool, true, false, slice_get, if◌then◌else◌}
use Rattle.std.proofs.Common.{◌≡◌, ℕ, suc, ◌<◌, ◌≤◌, List, length, refl, sym, ap, ◌∙◌, subst, ⊎_elim, inl, inr, arith, Option, Some, None}
use Rattle.std.proofs.lemmas.Bool.{both_ways}
use Rattle.machine_states.specs.epoch_core.specs.small_lemmas.proofs.Numbers.{equal_tested as same_test}
use Rattle.machine_states.specs.map_history.specs.declared.op.Request.{Request}
use Rattle.machine_states.specs.body_terms.specs.Memory.{cell_of}
use Rattle.machine_states.specs.table_words.specs.declared.layout.Layout.{Layout}
use Rattle.machine_states.specs.table_words.specs.declared.spot.Spot.{Spot}
use Rattle.machine_states.specs.table_words.specs.declared.spot.Spot.TheVariants as spots
use Rattle.machine_states.specs.table_words.specs.declared.access.Access.{Access}
use Rattle.machine_states.specs.table_words.specs.Access.{written}
use Rattle.machine_states.specs.table_words.specs.Seen.{put}
use Rattle.machine_states.specs.structure_laws.specs.Meaning.{Meaning}
use Rattle.machine_states.specs.runner_parts.specs.declared.entries.Published.{Published}
use Rattle.machine_states.specs.epoch_core.specs.declared.stage.Stage.TheVariants as stages
use Rattle.machine_states.specs.runner_parts.specs.declared.event.EventKind.{EventKind}
use Rattle.machine_states.specs.runner_parts.specs.declared.event.EventKind.TheVariants as kinds
use Rattle.machine_states.specs.runner_parts.specs.State.{RunState, PartState}
use Rattle.machine_states.specs.runner_steps.specs.Asks.{ask_by}
use Rattle.machine_states.specs.runner_steps.specs.After.{after_by}
use Rattle.machine_states.specs.runner_steps.specs.Sections.{is_open_run}
use Rattle.machine_states.specs.runner_parts.specs.Lists.{cell_read, descriptor_taken, published_seen}
use Rattle.machine_states.specs.runner_steps.specs.AfterOutside.{published_by}
use Rattle.machine_states.specs.epoch_core.specs.State.{is_entered}
use Rattle.machine_states.specs.Sight.{Sight, Steps}
use Rattle.machine_states.proofs.Sights.{cond_none, unless_gone, joins}
use Rattle.machine_states.proofs.Steps.{none_some}
use Rattle.machine_states.proofs.Updates.{upd_here}
use Rattle.resource_bounds.specs.machine_epochs.proofs.OutsideAsked.{enter_again_asked, read_asked}
use Rattle.resource_bounds.specs.machine_epochs.proofs.BoardAsked.{board_give_asked}
use Rattle.runner_facts.specs.machine_facts.specs.machine_agreement.proofs.Releases.{get_more}
use Rattle.runner_facts.specs.machine_facts.specs.machine_invariant.specs.Whole.{IsWhole}
use Rattle.resource_bounds.specs.reached_histories.specs.Kept.{link_of}
use Rattle.runner_facts.specs.next_steps.proofs.Parts.{each_part}
use Rattle.resource_bounds.specs.reached_histories.specs.Laws.{HasHistory}
use Rattle.resource_bounds.specs.Versions.{open_count}
use Rattle.one_worker.specs.Alone.{HasPublishedNone, NoneIsOpen}
use Rattle.one_worker.proofs.Open.{owner, none_open}
use Rattle.one_worker.proofs.Moves.{walk_count, read_count, Stays, Enters, MovesBy, inside_moves, outside_moves}
use Rattle.one_worker.proofs.Idle.{idle_times, in_hand_idle, is_give, inside_keeps as inside_idle, outside_keeps as outside_idle}
use Rattle.one_worker.proofs.Quiet.{Publishes, leaves, no_make}

-- the place is a cell of a slot that is in a runner's hand, free or worn
pub record IsIdlePlace (m : Meaning) (s : Sight) (place : ℕ) : Type 0 where
  pub slot : ℕ
  pub cell : ℕ
  pub runner : ℕ
  pub low : cell < 5
  pub is : place ≡ cell_of m.fixed_cells slot cell
  pub idle : 1 ≤ idle_times (s.part runner).nodes slot

-- what the worker reads in walks it has read; a publication in this entry shows in what it has read besides; and what it
-- has read stands, but for cells of such slots
pub record Holds (m : Meaning) (s : Sight) : Type 0 where
  pub few : walk_count (s.part 0).reads ≤ read_count (s.part 0).reads
  pub noted : (x : Published) → (s.part 0).published ≡ Some x
      → (suc (walk_count (s.part 0).reads) ≤ read_count (s.part 0).reads) × (suc x.walked ≤ read_count (s.part 0).reads)
  pub read : (entry i place word : ℕ) → (s.part 0).stage ≡ stages.Entered entry → HasPublishedNone (s.part 0)
      → slice_get (s.part 0).reads.walk i ≡ Some (place, word) → (s.word (spots.Cell place) ≡ word) ⊎ IsIdlePlace m s place

pair_same : (a b c d : ℕ) → ◌≡◌ {A = ℕ × ℕ} (a, b) (c, d) → (a ≡ c) × (b ≡ d)
pair_same a b c d e = (ap (λ (u : ℕ × ℕ). u.0) e, ap (λ (u : ℕ × ℕ). u.1) e)

module _ (m : Meaning) (l : Layout) (rs : List Request) (s s' : Sight) (r : ℕ) (kind : EventKind) (st : Steps m l rs s s' r kind)
    (before : HasHistory m l rs s) (after : HasHistory m l rs s') (one : l.runners ≡ 1) (old : Holds m s) where
  abbrev y : PartState
  y = s.part r

  abbrev x : Spot × Access
  x = st.ask

  abbrev found : ℕ
  found = s.word x.0

  abbrev own : PartState
  own = s.part 0

  whole : IsWhole m l before.beside s
  whole = before.whole

  asked : ask_by m l rs r kind y y.run ≡ Some x
  asked = (unless_gone _ y.gone _ x st.asked).1

  abbrev At : ℕ → PartState → Type 0
  At i z = Stays m l (s.part i) found kind z.stage z.reads z.published ⊎ (Enters m l (s.part i) found kind z.stage z.reads z.published × (i ≡ r))

  stepped : MovesBy m l y found kind (after_by m l kind y y.run found).stage (after_by m l kind y y.run found).reads (after_by m l kind y y.run found).published
  stepped = by y.run
    where
      by : (o : Option RunState) → MovesBy m l y found kind (after_by m l kind y o found).stage (after_by m l kind y o found).reads (after_by m l kind y o found).published
      by None = (outside_moves m l y found kind kind refl).by
      by (Some q) = (inside_moves m l y found kind q kind).by

  -- the worker's part after the step
  moves : At 0 (s'.part 0)
  moves = subst (λ (t : Sight). At 0 (t.part 0)) (sym st.next)
      (each_part m l s r x At (λ i z blocks board records gone h. h) kind (joins m l rs kind r y x st.asked)
      (⊎_elim (λ stays. inl stays) (λ enters. inr (enters, refl)) stepped)
      (λ i ne. inl (record { was = λ entry e. e; walk = inl refl; few = λ h. h; noted = λ h noted. noted; none = λ noted h. h })) 0)

  -- who has published a section is entered
  not_entering : (z : Published) → own.published ≡ Some z → kind ≡ kinds.EnterAgain → 0 ≡ r → ⊥
  not_entering z is enters at =
      let live = whole.tied.is_live z.descriptor ((whole.slots.tied 0).published z is) in
      let there = whole.tied.publisher z.descriptor live in
      let same = whole.slots.published_once 0 (before.beside.publications.runner z.descriptor) z there.0 is there.1 (sym there.2) in
      let entered : is_entered (before.beside.epochs.stage 0) ≡ true =
      ap (λ i. is_entered (before.beside.epochs.stage i)) same ∙ whole.held.entered z.descriptor live in
      let announced : own.stage ≡ stages.Announced = ap (λ i. (s.part i).stage) at ∙ announced_there y.run (subst (λ k. ask_by m l rs r k y y.run ≡ Some x) enters asked) in
      let out : is_entered (before.beside.epochs.stage 0) ≡ false = ap is_entered (whole.slots.entries.stage 0 ∙ announced) in
      absurd (both_ways _ out entered)
    where
      announced_there : (o : Option RunState) → ask_by m l rs r kinds.EnterAgain y o ≡ Some x → y.stage ≡ stages.Announced
      announced_there None e = (enter_again_asked y x e).0
      announced_there (Some q) e = cond_none (is_open_run q) x e

  few' : walk_count (s'.part 0).reads ≤ read_count (s'.part 0).reads
  few' = ⊎_elim
      (λ stays. stays.few old.few)
      (λ enters. let none = ap (λ (xs : List (ℕ × ℕ)). length xs) enters.0.walk in omega (arith, none))
      moves

  noted' : (z : Published) → (s'.part 0).published ≡ Some z
      → (suc (walk_count (s'.part 0).reads) ≤ read_count (s'.part 0).reads) × (suc z.walked ≤ read_count (s'.part 0).reads)
  noted' z is = ⊎_elim
      (λ stays. stays.noted old.few old.noted z is)
      (λ enters. absurd (not_entering z (sym enters.0.own ∙ is) enters.0.is enters.1))
      moves

  module _ (none : HasPublishedNone (s'.part 0)) (stays : Stays m l own found kind (s'.part 0).stage (s'.part 0).reads (s'.part 0).published)
      (entry : ℕ) (entered' : (s'.part 0).stage ≡ stages.Entered entry) where
    entered : own.stage ≡ stages.Entered entry
    entered = stays.was entry entered'

    -- so it was before
    none_before : HasPublishedNone own
    none_before = let h = stays.none old.noted (none.unpublished, none.walked) in record { unpublished = h.0; walked = h.1 }

    -- it has no section under way
    quiet : NoneIsOpen m s
    quiet = none_open m l rs s before one (ap open_count none_before.unpublished)

    -- nobody else publishes
    no_publication : (place : ℕ) → Publishes m l rs before.beside s whole quiet r kind x place → ⊥
    no_publication place p = none_some (published_by p.thunk p.descriptor y) (sym (ap (λ i. (s'.part i).published) (sym first) ∙ there) ∙ none.unpublished)
      where
        now : (after_by m l kind y y.run found).published ≡ Some (published_by p.thunk p.descriptor y)
        now = ap (λ k. (after_by m l k y y.run found).published) p.is
            ∙ (ap (λ o. (after_by m l (kinds.Hold p.thunk p.descriptor) y o found).published) p.none
            ∙ by (found == p.thunk.word) (same_test found p.thunk.word p.won))
          where
            by : (b : Bool) → b ≡ true → (if b then record y {
              published = Some (published_by p.thunk p.descriptor y);
              descriptors = descriptor_taken y.descriptors p.descriptor;
              guards = published_seen y.guards p.descriptor;
              reads = cell_read y.reads p.thunk.lock found;
            } else record y { reads = cell_read y.reads p.thunk.lock found }).published ≡ Some (published_by p.thunk p.descriptor y)
            by true e = refl
            by false e = absurd (let z = e in cc)

        there : (s'.part r).published ≡ Some (published_by p.thunk p.descriptor y)
        there = subst (λ (t : Sight). (t.part r).published ≡ Some (published_by p.thunk p.descriptor y)) (sym st.next)
            (each_part m l s r x (λ i z. i ≡ r → z.published ≡ Some (published_by p.thunk p.descriptor y)) (λ i z blocks board records gone h. h) kind
            (joins m l rs kind r y x st.asked) (λ e. now) (λ i ne e. absurd (ne e)) r refl)

        first : r ≡ 0
        first = owner m l rs s' after one r p.descriptor (ap link_of there)

    -- no slot comes into use
    idle_stays : (i t : ℕ) → 1 ≤ idle_times (s.part i).nodes t → 1 ≤ idle_times (s'.part i).nodes t
    idle_stays i t = subst (λ (u : Sight). 1 ≤ idle_times (s.part i).nodes t → 1 ≤ idle_times (u.part i).nodes t) (sym st.next)
        (each_part m l s r x (λ k z. 1 ≤ idle_times (s.part k).nodes t → 1 ≤ idle_times z.nodes t) (λ k z blocks board records gone h. h) kind
        (joins m l rs kind r y x st.asked) (own_idle y.run refl) (λ k ne h. h) i)
      where
        -- the worker is entered, and the keeper doesn't use the board
        ungiven : (k : EventKind) → ask_by m l rs r k y None ≡ Some x → is_give k ≡ false
        ungiven (kinds.BoardGive word slot) e =
            let h = board_give_asked l r word slot y x e in let low = h.worker in
            absurd (let z = sym (ap (λ i. (s.part i).stage) (omega (arith, low, one)) ∙ entered) ∙ h.idle in cc)
        ungiven _ e = refl

        own_idle : (o : Option RunState) → y.run ≡ o → 1 ≤ idle_times y.nodes t → 1 ≤ idle_times (after_by m l kind y o found).nodes t
        own_idle None is = (outside_idle m l y found kind (ungiven kind (ap (ask_by m l rs r kind y) (sym is) ∙ asked))).idle t
        own_idle (Some q) is = (inside_idle m l y found q kind
            (λ opened makes none. no_make m l rs before.beside s whole quiet r kind x 0 asked q is opened makes none)).idle t

    module _ (i place word : ℕ) (at : slice_get own.reads.walk i ≡ Some (place, word)) where
      stands : (s'.word (spots.Cell place) ≡ s.word (spots.Cell place)) ⊎ IsIdlePlace m s' place
      stands = ⊎_elim
          (λ same. inl (ap (λ (t : Sight). t.word (spots.Cell place)) st.next ∙ same))
          (λ more. ⊎_elim
          (λ p. absurd (no_publication place p))
          (λ fill. inr (record {
            slot = fill.slot;
            cell = fill.cell;
            runner = r;
            low = fill.low;
            is = fill.place;
            idle = idle_stays r fill.slot (in_hand_idle m l s before.beside.epochs whole.slots r fill.slot fill.here);
          }))
          more)
          (leaves m l rs before.beside s whole quiet r kind x place asked)

      still : (s'.word (spots.Cell place) ≡ word) ⊎ IsIdlePlace m s' place
      still = ⊎_elim
          (λ stood. ⊎_elim (λ same. inl (same ∙ stood)) (λ idle. inr idle) stands)
          (λ idle. inr (record {
            slot = idle.slot;
            cell = idle.cell;
            runner = idle.runner;
            low = idle.low;
            is = idle.is;
            idle = idle_stays idle.runner idle.slot idle.idle;
          }))
          (old.read entry i place word entered none_before at)

    -- a cell that was just read
    just_read : (place : ℕ) → kind ≡ kinds.LoadCell (Some place) → s'.word (spots.Cell place) ≡ found
    just_read place is = ap (λ (t : Sight). t.word (spots.Cell place)) st.next ∙ by y.run (subst (λ k. ask_by m l rs r k y y.run ≡ Some x) is asked)
      where
        by : (o : Option RunState) → ask_by m l rs r (kinds.LoadCell (Some place)) y o ≡ Some x
            → put s.word x.0 (written x.1 found) (spots.Cell place) ≡ found
        by None e = let h = read_asked m place y x e in
            subst (λ (u : Spot × Access). put s.word u.0 (written u.1 (s.word u.0)) (spots.Cell place) ≡ s.word u.0) h.2
            (upd_here (λ i. s.word (spots.Cell i)) place (s.word (spots.Cell place)))
        by (Some q) e = cond_none (is_open_run q) x e

    reads_on : (i place word : ℕ) → slice_get (s'.part 0).reads.walk i ≡ Some (place, word)
        → (s'.word (spots.Cell place) ≡ word) ⊎ IsIdlePlace m s' place
    reads_on i place word at = ⊎_elim
        (λ same. still i place word (ap (λ xs. slice_get xs i) (sym same) ∙ at))
        (λ more. ⊎_elim
        (λ had. still i place word had.1)
        (λ now. let same = pair_same more.0 found place word now.1 in
        inl (ap (λ k. s'.word (spots.Cell k)) (sym same.0) ∙ (just_read more.0 more.1 ∙ same.1)))
        (get_more own.reads.walk (more.0, found) (place, word) i (ap (λ xs. slice_get xs i) (sym more.2) ∙ at)))
        stays.walk

  pub kept : Holds m s'
  kept = record {
    few = few';
    noted = noted';
    read = λ entry i place word entered none at. ⊎_elim
        (λ stays. reads_on none stays entry entered i place word at)
        (λ enters. absurd (none_some (place, word) (sym at ∙ ap (λ xs. slice_get xs i) enters.0.walk)))
        moves;
  }
