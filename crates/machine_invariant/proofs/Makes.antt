-- A Make's private loads and stores and its commit keep the whole invariant.
use Rattle.std.specs.Prelude.{◌⊎◌, ◌-◌, ◌^◌, ◌&&◌, Bool, true, false, nat_lt, All}
use Rattle.std.proofs.Common.{◌≡◌, ℕ, suc, ◌<◌, ◌≤◌, List, [], ◌∷◌, length, inl, inr, ⊎_elim, sym, refl, ap, ◌∙◌, subst, arith, Option}
use Rattle.std.proofs.Common.{Some, None}
use Rattle.std.proofs.lemmas.Bool.{cases_eq}
use Rattle.std.proofs.lemmas.Bool.Decides.{nat_tests}
use Rattle.machine_states.specs.map_history.specs.declared.op.Request.{Request}
use Rattle.machine_states.specs.body_terms.specs.declared.micro.Source.{Source}
use Rattle.machine_states.specs.body_terms.specs.declared.micro.Micro.{Micro}
use Rattle.machine_states.specs.body_terms.specs.declared.micro.Micro.TheVariants as micros
use Rattle.machine_states.specs.body_terms.specs.Memory.{cell_of}
use Rattle.machine_states.specs.body_terms.specs.Run.{source_value}
use Rattle.machine_states.specs.body_terms.specs.Word.{value_of, next_word}
use Rattle.machine_states.specs.table_words.specs.declared.layout.Layout.{Layout}
use Rattle.machine_states.specs.table_words.specs.declared.spot.Spot.{Spot}
use Rattle.machine_states.specs.table_words.specs.declared.access.Access.{Access}
use Rattle.machine_states.specs.table_words.specs.Limits.{IsWithinLimits}
use Rattle.machine_states.specs.table_words.specs.Places.{slot_count}
use Rattle.machine_states.specs.table_words.specs.Seen.{upd}
use Rattle.machine_states.specs.structure_laws.specs.Meaning.{Meaning}
use Rattle.machine_states.specs.structure_laws.specs.Laws.{Laws}
use Rattle.machine_states.specs.structure_laws.specs.Sections.{IsAllowed}
use Rattle.machine_states.specs.runner_parts.specs.declared.event.EventKind.{EventKind}
use Rattle.machine_states.specs.runner_parts.specs.declared.event.EventKind.TheVariants as kinds
use Rattle.machine_states.specs.runner_parts.specs.State.{RunState, PartState}
use Rattle.machine_states.specs.runner_steps.specs.Sections.{is_open_run, next_of, needs_link}
use Rattle.machine_states.specs.runner_steps.specs.InRun.{fill_load_ask, fill_store_ask}
use Rattle.machine_states.specs.runner_steps.specs.AfterInRun.{fill_loaded, make_committed}
use Rattle.machine_states.specs.runner_steps.specs.Asks.{asks, line_ask}
use Rattle.agreement_core.specs.Checks.{source_in}
use Rattle.agreement_core.specs.Events as agreement
use Rattle.agreement_core.proofs.Words.{value_next}
use Rattle.machine_states.specs.epoch_core.specs.State.{Counts}
use Rattle.machine_states.specs.epoch_core.specs.Events as epochs
use Rattle.machine_states.specs.Sight.{Sight, sight_after}
use Rattle.machine_states.specs.epoch_core.specs.small_lemmas.proofs.Bools.{not_both}
use Rattle.machine_states.proofs.Sights.{if_some, some_none}
use Rattle.machine_states.proofs.Steps.{some_same}
use Rattle.machine_states.proofs.Updates.{upd_here, upd_else}
use Rattle.machine_blocks.specs.machine_guards.specs.machine_agreement.specs.machine_epochs.specs.Entries.{counts_of}
use Rattle.machine_blocks.specs.machine_guards.specs.machine_agreement.specs.machine_scenes.specs.Kinds.{is_alone}
use Rattle.machine_blocks.specs.machine_guards.specs.machine_agreement.specs.machine_scenes.specs.Shown.{States}
use Rattle.machine_blocks.specs.machine_guards.specs.machine_agreement.specs.machine_scenes.specs.Steps.{Agreement, Fill, Make, MayMake}
use Rattle.machine_blocks.specs.machine_guards.specs.machine_agreement.specs.machine_scenes.specs.Steps as steps
use Rattle.machine_blocks.specs.machine_guards.specs.machine_agreement.proofs.LineAsked as asked_line
use Rattle.machine_blocks.specs.machine_guards.specs.machine_agreement.proofs.RunPlaces.{run_here}
use Rattle.machine_slots.specs.Hands.{LooksAt}
use Rattle.machine_slots.proofs.Stores.{may_make_filled, fill_small}
use Rattle.machine_invariant.specs.Whole.{Beside, states_of, made_in, made_of, IsWhole}
use Rattle.machine_states.specs.runner_steps.specs.Outside.{blocks_from}
use Rattle.machine_invariant.proofs.Parts.{store_made}
use Rattle.machine_invariant.proofs.Asked.{line_heads, line_events, source_same}
use Rattle.machine_invariant.proofs.Chunked.{AreCalm, AreSteady}
use Rattle.machine_invariant.proofs.Plain.{calm_whole}
use Rattle.machine_invariant.proofs.Sights.{inside_quiet}
use Rattle.machine_invariant.proofs.Runs.{AllAre, InHands, Stands, step_stands, epochs_stand}
use Rattle.machine_invariant.proofs.Quiet.{hands_of, stands_now}
use Rattle.machine_invariant.proofs.Jointly.{no_hold}
use Rattle.machine_invariant.proofs.Pieces.{Pieces, KeepsWhole, Leads, led, keeps_by}
use Rattle.machine_invariant.proofs.SlotSteps.{made_after, made_same, stays_read, thunks_stay, passes_stand, line_whole}

-- a runner whose Make fills this slot, or none yet, keeps what it has
more_made : (f : ℕ → Option ℕ) (r slot : ℕ) → (f r ≡ None) ⊎ (f r ≡ Some slot) → (i t : ℕ) → f i ≡ Some t → upd f r (Some slot) i ≡ Some t
more_made f r slot before i t is = ⊎_elim
    (λ e. ap (upd f r (Some slot)) e ∙ (upd_here f r (Some slot) ∙ ⊎_elim
    (λ none. some_none t (sym none ∙ (ap f (sym e) ∙ is))) (λ some. sym some ∙ (ap f (sym e) ∙ is)) before))
    (λ ne. upd_else f r (Some slot) i ne ∙ is)
    (cases_eq i r)

one_log : (a b : ℕ) (x : Micro) → x ≡ micros.MakeCommit a → x ≡ micros.MakeCommit b → a ≡ b
one_log a b x e e' = cc

one_value : (cell log log' : ℕ) (v v' : Source) (x : Micro) → x ≡ micros.PrivateStore cell log v → x ≡ micros.PrivateStore cell log' v'
    → v ≡ v'
one_value cell log log' v v' x e e' = cc

-- a private load or store of a Make is one on a slot's cell
within : (slot n cell : ℕ) (b : Bool) → ((nat_lt slot n && nat_lt cell 5) && b) ≡ true → cell < 5
within slot n cell b e = grind (arith, nat_tests)

module _ (m : Meaning) (l : Layout) (slot cell : ℕ) (q : RunState) (x : Spot × Access) where
  load_within : (free : List ℕ) (micro : Micro) → fill_load_ask m l slot cell free q micro ≡ Some x → cell < 5
  load_within free (micros.PrivateLoad word log) e = within slot (slot_count l m.fixed_slots) cell _ (if_some _ _ x e).0
  load_within free _ e = some_none x e

  store_within : (number : ℕ) (micro : Micro) → fill_store_ask m l slot cell number q micro ≡ Some x → cell < 5
  store_within number (micros.PrivateStore word log v) e = within slot (slot_count l m.fixed_slots) cell _ (if_some _ _ x e).0
  store_within number _ e = some_none x e

-- behind a private load of a slot's cell the run's Make fills that slot
load_makes : (m : Meaning) (l : Layout) (slot : ℕ) (p : PartState) (q : RunState) (found : ℕ) (o : Option ℕ) → q.made ≡ o
    → (o ≡ None) ⊎ (o ≡ Some slot)
    → made_in (fill_loaded m l slot p q o found).run ≡ Some slot
load_makes m l slot p q found None is before = refl
load_makes m l slot p q found (Some t) is before = ⊎_elim (λ none. absurd (let e = none in cc)) (λ some. is ∙ some) before

module _ (m : Meaning) (laws : Laws m) (l : Layout) (limits : IsWithinLimits l) (rs : List Request) (few : length rs ≤ 131072)
    (allowed : All (λ (q : Request). IsAllowed q.op) rs) (g : Beside) (s : Sight) (whole : IsWhole m l g s) (r : ℕ)
    (x : Spot × Access) where
  abbrev c : Counts
  c = counts_of m l

  -- a Make looks at a cell of its slot, and takes the slot with its first look
  module _ (slot cell : ℕ) (asked : asks m l rs r (kinds.PrivateLoad slot cell) (s.part r) ≡ Some x) (q : RunState)
      (is : (s.part r).run ≡ Some q)
      (opened : is_open_run q ≡ true) where
    abbrev load : EventKind
    load = kinds.PrivateLoad slot cell

    abbrev loaded : Sight
    loaded = sight_after m l s r load x

    abbrev loads : ℕ → agreement.Event
    loads log = agreement.PrivateLoad r cell log (cell_of m.fixed_cells slot cell)

    low : cell < 5
    low = load_within m l slot cell q x (s.part r).nodes.free (next_of m q)
        (asked_line.line_asked m l rs r load (s.part r) q x asked is opened)

    load_stands : (log : ℕ) (fs : List epochs.Event) → (go : Leads m l g loaded r (loads log ∷ []) fs)
        → (q.made ≡ None) ⊎ (q.made ≡ Some slot)
        → AllAre is_alone fs
        → Stands m laws l limits (states_of g s) (record (states_of g s) {
          agreement = (led m l g r (loads log ∷ []) go.passes fs g.publications).agreement;
          epochs = (led m l g r (loads log ∷ []) go.passes fs g.publications).epochs;
        }) (made_of loaded)
    load_stands log fs go before alone =
        let e = (led m l g r (loads log ∷ []) go.passes fs g.publications).epochs in
        let goes : (i : ℕ) → made_of loaded i ≡ upd (made_of s) r (Some slot) i = made_after m l s r load x refl q is opened (Some slot)
        (load_makes m l slot (s.part r) q (s.word x.0) q.made refl before) in
        let mine : made_of s r ≡ q.made = ap made_in is in
        let was : (made_of s r ≡ None) ⊎ (made_of s r ≡ Some slot) = ⊎_elim (λ h. inl (mine ∙ h)) (λ h. inr (mine ∙ h)) before in
        let after : InHands m laws l limits e (made_of loaded) = hands_of m laws l limits e loaded go.joined_slots in
        let here = after r slot (goes r ∙ upd_here (made_of s) r (Some slot)) in
        let hands : InHands m laws l limits e (made_of s) =
        λ i t has_it. after i t (goes i ∙ more_made (made_of s) r slot was i t has_it) in
        let j : States = record (states_of g s) { epochs = e } in
        let looks : LooksAt m c j (made_of s) (made_of loaded) r cell (cell_of m.fixed_cells slot cell) = record {
          slot = slot;
          node = here.0;
          low = low;
          place_is = refl;
          in_hand = here.1;
          before = was;
          after = goes;
        } in
        let taken : Stands m laws l limits (states_of g s) j (made_of s) =
        epochs_stand m laws l limits fs (states_of g s) (made_of s) alone go.enabled_slots (stands_now m laws l limits g s whole) in
        passes_stand m laws l limits r go.passes (steps.after m l c j (Agreement (loads log))) (made_of loaded) go.enabled.1 after
        (step_stands m laws l limits j (made_of s) (made_of loaded) (Agreement (loads log)) (refl, go.enabled.0) tt tt hands looks taken)

    pub private_load_whole : (pieces : Pieces m l g s loaded r load x) → KeepsWhole m l g s loaded r load x pieces
    private_load_whole pieces =
        let heads = line_heads m l r load (s.part r) q is opened (s.word x.0) g.agreement pieces.heads pieces.in_sections in
        let stay = stays_read m l s r load x refl q is opened refl in
        let thunks = thunks_stay m l s r load x refl q is opened rs asked in
        ⊎_elim
        (λ first. keeps_by m l g s loaded r load x pieces (loads heads.0 ∷ []) (epochs.TakeSlot r slot ∷ []) heads.2 first.1 g.publications refl
        (no_hold m l load (s.word x.0) refl) refl
        (λ go. line_whole m laws l limits g s loaded whole stay thunks r (loads heads.0) (epochs.TakeSlot r slot ∷ []) go
        (record { used = refl; live = refl }) (refl, tt)
        (load_stands heads.0 (epochs.TakeSlot r slot ∷ []) go (inl first.0) (refl, tt))))
        (λ again. keeps_by m l g s loaded r load x pieces (loads heads.0 ∷ []) [] heads.2 again.1 g.publications refl
        (no_hold m l load (s.word x.0) refl) refl
        (λ go. line_whole m laws l limits g s loaded whole stay thunks r (loads heads.0) [] go
        (record { used = refl; live = refl }) tt
        (load_stands heads.0 [] go (inr again.0) tt)))
        (line_events m l r load (s.part r) q is opened (s.word x.0) pieces.events pieces.in_slots)

  -- a Make stores into a cell of its slot
  module _ (slot cell number : ℕ) (asked : asks m l rs r (kinds.PrivateStore slot cell number) (s.part r) ≡ Some x) (q : RunState)
      (is : (s.part r).run ≡ Some q) (opened : is_open_run q ≡ true) where
    abbrev store : EventKind
    store = kinds.PrivateStore slot cell number

    abbrev stored : Sight
    stored = sight_after m l s r store x

    abbrev stores : ℕ → Source → agreement.Event
    stores log value = agreement.PrivateStore r cell log value (cell_of m.fixed_cells slot cell) number

    abbrev line_asked : line_ask m l store (s.part r).nodes.free (s.part r).blocks.free q (next_of m q) ≡ Some x
    line_asked = asked_line.line_asked m l rs r store (s.part r) q x asked is opened

    -- a run that has no block to link stores into the slot of its Make
    filling : needs_link q (next_of m q) ≡ false → fill_store_ask m l slot cell number q (next_of m q) ≡ Some x
    filling near = ⊎_elim (λ link. absurd (not_both link.0 near)) (λ fills. fills.1)
        (asked_line.run_store_asked q x m l slot cell number (s.part r).blocks.free (next_of m q) line_asked)

    -- the stored word has the value that the Make's line gives
    store_value : (log : ℕ) (value : Source) → next_of m q ≡ micros.PrivateStore cell log value
        → agreement.IsBefore g.agreement r (micros.PrivateStore cell log value)
        → value_of number ≡ source_in ((g.agreement.run r).trail) value
    store_value log value next before =
        let h = asked_line.fill_store_asked q x m l slot cell number (next_of m q) (filling (ap (needs_link q) next)) in
        let word : number ≡ next_word q.word (source_value q.trail value) =
        h.5 ∙ ap (λ v. next_word q.word (source_value q.trail v)) (one_value cell h.0 log h.1 value (next_of m q) h.2 next) in
        let same = source_same (g.agreement.run r) q (run_here m l g.agreement s whole.sections r q is) value in
        let small : source_value q.trail value < 2 ^ 32 = subst (λ n. n < 2 ^ 32) same
        (fill_small m l c (states_of g s) whole.kept r ((g.agreement.run r).at) cell log value
        ((g.agreement.run r).trail) before.running before.next) in
        ap value_of word ∙ (value_next q.word (source_value q.trail value) small ∙ sym same)

    store_stands : (log : ℕ) (value : Source) → next_of m q ≡ micros.PrivateStore cell log value → q.made ≡ Some slot
        → (go : Leads m l g stored r (stores log value ∷ []) [])
        → Stands m laws l limits (states_of g s) (record (states_of g s) {
          agreement = (led m l g r (stores log value ∷ []) go.passes [] g.publications).agreement;
        }) (made_of stored)
    store_stands log value next makes go =
        let mine : made_of s r ≡ Some slot = ap made_in is ∙ makes in
        let hands : InHands m laws l limits g.epochs (made_of s) = hands_of m laws l limits g.epochs s whole.slots in
        let low : cell < 5 = store_within m l slot cell q x number (next_of m q) (filling (ap (needs_link q) next)) in
        passes_stand m laws l limits r go.passes (steps.after m l c (states_of g s) (Fill r cell log value slot number))
        (made_of stored) go.enabled.1
        (hands_of m laws l limits g.epochs stored go.joined_slots)
        (step_stands m laws l limits (states_of g s) (made_of s) (made_of stored) (Fill r cell log value slot number)
        (go.enabled.0, (r, (hands r slot mine).1), low) tt tt hands (
          mine,
          store_value log value next go.enabled.0.0,
          made_same m l s r store x refl q is opened
              (store_made m l (s.part r) q is (s.word x.0) (slot - blocks_from m l) number (needs_link q (next_of m q))),
        )
        (stands_now m laws l limits g s whole))

    pub private_store_whole : (pieces : Pieces m l g s stored r store x) → KeepsWhole m l g s stored r store x pieces
    private_store_whole pieces = ⊎_elim (λ link. empties_whole link.1) (λ fills. fills_whole fills.0 fills.1 fills.2 fills.3 fills.4)
        (line_heads m l r store (s.part r) q is opened (s.word x.0) g.agreement pieces.heads pieces.in_sections)
      where
        -- a word of a block is made 0, of which nothing is known here
        empties_whole : pieces.heads ≡ [] → KeepsWhole m l g s stored r store x pieces
        empties_whole none = calm_whole m laws l limits g s stored whole r store x pieces
            (subst AreCalm (sym none) (record { still = tt }))
            (subst AreSteady (sym (line_events m l r store (s.part r) q is opened (s.word x.0) pieces.events pieces.in_slots)) (record { alone = tt; leaves = tt }))
            (inside_quiet m l s r store x q is refl refl refl) (λ d used. thunks_stay m l s r store x refl q is opened rs asked d) refl refl

        fills_whole : (log : ℕ) (value : Source) → next_of m q ≡ micros.PrivateStore cell log value → q.made ≡ Some slot → pieces.heads ≡ stores log value ∷ []
            → KeepsWhole m l g s stored r store x pieces
        fills_whole log value next makes heads =
            let stay = stays_read m l s r store x refl q is opened refl in
            let thunks = thunks_stay m l s r store x refl q is opened rs asked in
            keeps_by m l g s stored r store x pieces (stores log value ∷ []) [] heads
            (line_events m l r store (s.part r) q is opened (s.word x.0) pieces.events pieces.in_slots) g.publications refl
            (no_hold m l store (s.word x.0) refl) refl
            (λ go. line_whole m laws l limits g s stored whole stay thunks r (stores log value) [] go
            (record { used = refl; live = refl }) tt
            (store_stands log value next makes go))

  -- a Make commits its slot
  module _ (asked : asks m l rs r kinds.MakeCommit (s.part r) ≡ Some x) (q : RunState) (is : (s.part r).run ≡ Some q)
      (opened : is_open_run q ≡ true) where
    abbrev committed : Sight
    committed = sight_after m l s r kinds.MakeCommit x

    -- the joint step's events
    abbrev commits : ℕ → ℕ → agreement.Event
    commits log slot = agreement.MakeCommit r log (suc slot)

    abbrev takes : ℕ → ℕ → epochs.Event
    takes log slot = epochs.MakeCommit r ((g.agreement.run r).descriptor) log slot q.worn

    commit_stands : (log slot : ℕ) → q.made ≡ Some slot → (go : Leads m l g committed r (commits log slot ∷ []) (takes log slot ∷ []))
        → Stands m laws l limits (states_of g s) (record (states_of g s) {
          agreement = (led m l g r (commits log slot ∷ []) go.passes (takes log slot ∷ []) g.publications).agreement;
          epochs = (led m l g r (commits log slot ∷ []) go.passes (takes log slot ∷ []) g.publications).epochs;
        }) (made_of committed)
    commit_stands log slot makes go =
        let e = (led m l g r (commits log slot ∷ []) go.passes (takes log slot ∷ []) g.publications).epochs in
        let d = (g.agreement.run r).descriptor in
        let goes : (i : ℕ) → made_of committed i ≡ upd (made_of s) r None i = made_after m l s r kinds.MakeCommit x refl q is opened None
        (ap (λ (o : Option ℕ). made_in (make_committed m l (s.part r) q o (s.word x.0)).run) makes) in
        let mine : made_of s r ≡ Some slot = ap made_in is ∙ makes in
        let hands : InHands m laws l limits g.epochs (made_of s) = hands_of m laws l limits g.epochs s whole.slots in
        let may : MayMake m l c (states_of g s) r log slot q.worn = record {
          enabled = go.enabled.0;
          takes = go.enabled_slots.0;
          node = (hands r slot mine).0;
          word = whole.logs.stands.same d log;
          filled = may_make_filled m l c (states_of g s) whole.kept (made_of s) whole.filled r log slot go.enabled.0.0 mine;
        } in
        passes_stand m laws l limits r go.passes (steps.after m l c (states_of g s) (Make r log slot q.worn))
        (made_of committed) go.enabled.1
        (hands_of m laws l limits e committed go.joined_slots)
        (step_stands m laws l limits (states_of g s) (made_of s) (made_of committed) (Make r log slot q.worn) may tt tt hands
        (λ i ne. goes i ∙ upd_else (made_of s) r None i ne) (stands_now m laws l limits g s whole))

    pub make_commit_whole : (pieces : Pieces m l g s committed r kinds.MakeCommit x)
        → KeepsWhole m l g s committed r kinds.MakeCommit x pieces
    make_commit_whole pieces =
        let heads = line_heads m l r kinds.MakeCommit (s.part r) q is opened (s.word x.0) g.agreement pieces.heads pieces.in_sections in
        let events = line_events m l r kinds.MakeCommit (s.part r) q is opened (s.word x.0) pieces.events pieces.in_slots in
        let log = heads.0 in
        let slot = heads.1 in
        let stay = stays_read m l s r kinds.MakeCommit x refl q is opened refl in
        let thunks = thunks_stay m l s r kinds.MakeCommit x refl q is opened rs asked in
        let taken : pieces.events ≡ takes log slot ∷ [] = events.4
        ∙ (ap (λ k. epochs.MakeCommit r q.descriptor k events.1 q.worn ∷ []) (one_log events.0 log (next_of m q) events.2 heads.2)
        ∙ (ap (λ t. epochs.MakeCommit r q.descriptor log t q.worn ∷ []) (some_same events.1 slot (sym events.3 ∙ heads.3))
        ∙ ap (λ d. epochs.MakeCommit r d log slot q.worn ∷ []) (sym (run_here m l g.agreement s whole.sections r q is).descriptor))) in
        keeps_by m l g s committed r kinds.MakeCommit x pieces (commits log slot ∷ []) (takes log slot ∷ []) heads.4 taken g.publications refl
        (no_hold m l kinds.MakeCommit (s.word x.0) refl) refl
        (λ go. line_whole m laws l limits g s committed whole stay thunks r (commits log slot) (takes log slot ∷ []) go
        (record { used = refl; live = refl }) (refl, tt)
        (commit_stands log slot heads.3 go))
