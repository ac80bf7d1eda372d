-- Every kind of step is the event of guards of its kind, or none, and guards stand behind it.
use Rattle.std.specs.Prelude.{cond, Bool, true, false}
use Rattle.std.proofs.Common.{◌≡◌, ℕ, ◌≤◌, List, [], refl, sym, ap, ◌∙◌, subst, Option, Some, None}
use Rattle.machine_states.specs.map_history.specs.declared.op.Request.{Request}
use Rattle.machine_states.specs.table_words.specs.declared.layout.Layout.{Layout}
use Rattle.machine_states.specs.table_words.specs.declared.spot.Spot.{Spot}
use Rattle.machine_states.specs.table_words.specs.declared.spot.Spot.TheVariants.{Guard}
use Rattle.machine_states.specs.table_words.specs.declared.access.Access.{Access}
use Rattle.machine_states.specs.table_words.specs.declared.access.Access.TheVariants.{Loads}
use Rattle.machine_states.specs.table_words.specs.Access.{written}
use Rattle.machine_states.specs.table_words.specs.Seen.{upd, put}
use Rattle.agreement_core.specs.State.{AgreementState}
use Rattle.machine_states.specs.structure_laws.specs.Meaning.{Meaning}
use Rattle.machine_states.specs.runner_parts.specs.declared.event.EventKind.{EventKind}
use Rattle.machine_states.specs.runner_parts.specs.declared.event.EventKind.TheVariants as kinds
use Rattle.machine_states.specs.runner_parts.specs.declared.entries.BoardRead.{BoardRead}
use Rattle.machine_states.specs.runner_parts.specs.State.{RunState, BlocksState, PartState, RecordsState}
use Rattle.machine_states.specs.runner_steps.specs.After.{noted, leaves, knows_also, outside_after, line_after, after_by, after}
use Rattle.machine_states.specs.runner_steps.specs.Blocks.{blocks_outside, blocks_in_line, blocks_after}
use Rattle.machine_states.specs.runner_steps.specs.Board.{board_after}
use Rattle.machine_states.specs.runner_steps.specs.AfterInRun.{opened_more}
use Rattle.machine_states.specs.runner_steps.specs.Asks.{outside_ask, line_ask, inside_ask, opening_ask, ask_by, asks, sizes_for}
use Rattle.machine_states.specs.runner_steps.specs.Sections.{is_open_run, next_of}
use Rattle.machine_states.specs.epoch_core.specs.State.{EpochState}
use Rattle.machine_states.specs.epoch_core.specs.Events.{slot_of}
use Rattle.machine_states.specs.guard_core.specs.Events.{Event}
use Rattle.machine_states.specs.World.{is_join}
use Rattle.machine_states.specs.Sight.{Sight, sight_after, Steps}
use Rattle.machine_states.proofs.Sights.{some_none, cond_none, unless_gone}
use Rattle.machine_states.proofs.Updates.{map_same}
use Rattle.machine_agreement.specs.machine_epochs.specs.Chunks as slots
use Rattle.machine_agreement.specs.machine_epochs.specs.Entries.{counts_of}
use Rattle.machine_agreement.specs.machine_epochs.specs.Joined.{IsJoinedToEpochs}
use Rattle.machine_agreement.specs.machine_epochs.proofs.OutsideAsked as asked
use Rattle.machine_agreement.specs.Joined.{IsJoinedToAgreement}
use Rattle.machine_agreement.specs.Chunks as sections
use Rattle.machine_guards.specs.State.{hand_of}
use Rattle.machine_guards.specs.Stands.{GuardsStand}
use Rattle.machine_guards.specs.Supplied.{GuardsAreSupplied}
use Rattle.machine_guards.specs.Chunks.{chain_after, outside_events, line_events, inside_events, guard_events}
use Rattle.machine_guards.specs.Goes.{OthersGo, Goes}
use Rattle.machine_guards.proofs.Places.{moves_descriptors, is_hold, inside_over, inside_places, outside_over, outside_places}
use Rattle.machine_guards.proofs.Words.{is_of_guards, guards_left, inside_left, load_left}
use Rattle.machine_guards.proofs.Views as views
use Rattle.machine_guards.proofs.Views.{view, is_guarding, is_release, is_linking}
use Rattle.machine_guards.proofs.Others as others
use Rattle.machine_guards.proofs.Steps as steps
use Rattle.machine_guards.proofs.GuardSteps as guarding
use Rattle.machine_guards.proofs.Ending as ending
use Rattle.machine_guards.proofs.Linking as linking

-- a step that isn't one of guards is none of their events
no_outside_event : (m : Meaning) (l : Layout) (r : ℕ) (kind : EventKind) (p : PartState) (found : ℕ) → is_guarding kind ≡ false → outside_events m l r kind p found ≡ []
no_outside_event m l r kinds.EnterAgain p found k = absurd (let y = k in cc)
no_outside_event m l r kinds.Idle p found k = absurd (let y = k in cc)
no_outside_event m l r (kinds.LoadCell (Some place)) p found k = absurd (let y = k in cc)
no_outside_event m l r (kinds.Hold thunk d) p found k = absurd (let y = k in cc)
no_outside_event m l r (kinds.LoadThunk (Some d)) p found k = absurd (let y = k in cc)
no_outside_event m l r (kinds.Guard None) p found k = absurd (let y = k in cc)
no_outside_event m l r (kinds.Guard (Some d)) p found k = absurd (let y = k in cc)
no_outside_event m l r (kinds.LoadGuard n) p found k = absurd (let y = k in cc)
no_outside_event m l r _ p found k = refl

no_line_event : (m : Meaning) (l : Layout) (r : ℕ) (kind : EventKind) (q : RunState) (found : ℕ) → is_release kind ≡ false → is_linking kind ≡ false → line_events m l r kind q found ≡ []
no_line_event m l r kinds.Release q found k n = absurd (let y = k in cc)
no_line_event m l r (kinds.LinkCommit b) q found k n = absurd (let y = n in cc)
no_line_event m l r _ q found k n = refl

no_inside_event : (m : Meaning) (l : Layout) (r : ℕ) (kind : EventKind) (q : RunState) (found : ℕ) (b : Bool) → is_release kind ≡ false → is_linking kind ≡ false → inside_events m l r b kind q found ≡ []
no_inside_event m l r kind q found true k n = no_line_event m l r kind q found k n
no_inside_event m l r kind q found false k n = refl

-- the other tests hold of a step that isn't one of guards
not_hold : (kind : EventKind) → is_guarding kind ≡ false → is_hold kind ≡ false
not_hold (kinds.Hold t d) k = absurd (let y = k in cc)
not_hold _ k = refl

not_moving : (kind : EventKind) → is_guarding kind ≡ false → moves_descriptors kind ≡ false
not_moving (kinds.Hold t d) k = absurd (let y = k in cc)
not_moving (kinds.LoadGuard n) k = absurd (let y = k in cc)
not_moving _ k = refl

not_of_guards : (kind : EventKind) → is_guarding kind ≡ false → is_of_guards kind ≡ false
not_of_guards (kinds.Guard d) k = absurd (let y = k in cc)
not_of_guards (kinds.LoadGuard n) k = absurd (let y = k in cc)
not_of_guards _ k = refl

module _ (m : Meaning) (l : Layout) (rs : List Request) (chain : ℕ → List ℕ) (a a' : AgreementState) (e e' : EpochState) (s : Sight) (of_sections : IsJoinedToAgreement m l a s)
    (joined : IsJoinedToEpochs m l e s) (old : GuardsStand m l chain a e s) (r : ℕ) (some : r ≤ l.runners) (x : Spot × Access) where
  abbrev p : PartState
  p = s.part r

  abbrev found : ℕ
  found = s.word x.0

  abbrev f : Spot → ℕ
  f = put s.word x.0 (written x.1 found)

  abbrev records_of : EventKind → PartState → RecordsState
  records_of kind p' = noted l r kind x.0 x.1 found p'.records

  abbrev board_of : EventKind → List BoardRead
  board_of kind = board_after kind p.board found

  -- a step that leaves these blocks and this part
  abbrev To : EventKind → List Event → BlocksState → PartState → Type 0
  To kind es blocks p' = steps.To m l chain (chain_after chain kind p found) a a' e e' s old r f (record p' { blocks = blocks; board = board_of kind; records = records_of kind p' }) es

  abbrev Others : EventKind → Type 0
  Others kind = OthersGo m l a a' e e' s r kind found

  abbrev Supplied : EventKind → Type 0
  Supplied kind = GuardsAreSupplied m l chain a e s r kind found

  -- no guard word changes
  left_by : (kind : EventKind) (o : Option RunState) → is_of_guards kind ≡ false → ask_by m l rs r kind p o ≡ Some x → (i : ℕ) → f (Guard i) ≡ s.word (Guard i)
  left_by kind o k ask i = guards_left m l rs r kind p o x k ask s.word (written x.1 found) i

  -- outside a run
  module _ (none : p.run ≡ None) where
    abbrev Outside : EventKind → Type 0
    Outside kind = To kind (outside_events m l r kind p found) (blocks_outside m l kind p found) (outside_after m l kind p found)

    in_sections : (kind : EventKind) (go : Others kind) → sections.IsOutsideChunk m l a r kind p found go.heads
    in_sections kind go = subst (λ o. sections.IsChunk m l a r kind p o found go.heads) none go.in_sections

    in_slots : (kind : EventKind) (go : Others kind) → slots.IsOutsideChunk m l r kind p found go.tails
    in_slots kind go = subst (λ o. slots.IsChunk m l r kind p o found go.tails) none go.in_slots

    quiet : (kind : EventKind) → is_guarding kind ≡ false → chain_after chain kind p found ≡ chain → outside_ask m l rs r kind p ≡ Some x → Others kind → Outside kind
    quiet kind k linked ask go = subst (λ es. To kind es (blocks_outside m l kind p found) (outside_after m l kind p found)) (sym (no_outside_event m l r kind p found k))
        (steps.quiet m l chain (chain_after chain kind p found) a a' e e' s old r f _ (left_by kind None (not_of_guards kind k) ask) (λ d. ap (λ (g : ℕ → List ℕ). g d) linked)
        (others.over_same m l a a' r go.heads go.leads (outside_over m l a r kind p found go.heads (not_hold kind k) (in_sections kind go)))
        (others.places_same m l e e' s joined go.tails go.enabled go.there (outside_places m l r kind p found go.tails (not_moving kind k) (in_slots kind go)))
        (views.blocks_stay m l p found kind k) (ap hand_of none)
        (views.view_outside m l rs r p found x kind k ask))

    loaded : (spot : Spot) → (spot, Loads) ≡ x → (i : ℕ) → f (Guard i) ≡ s.word (Guard i)
    loaded spot is i = subst (λ (z : Spot × Access). put s.word z.0 (written z.1 (s.word z.0)) (Guard i) ≡ s.word (Guard i)) is (load_left s.word spot i)

    outside : (kind : EventKind) → outside_ask m l rs r kind p ≡ Some x → Supplied kind → Others kind → Outside kind
    outside kinds.EnterAgain ask u go = guarding.enter_again m l chain a a' e e' s old joined r none (board_of kinds.EnterAgain) _ f x ask (left_by kinds.EnterAgain None refl ask) go u
    outside kinds.Idle ask u go = guarding.idle m l chain a a' e e' s old joined r none (board_of kinds.Idle) _ f x ask (left_by kinds.Idle None refl ask) go u
    outside (kinds.LoadCell (Some place)) ask u go = guarding.load_cell m l chain a a' e e' s old joined r none (board_of (kinds.LoadCell (Some place))) _ f place x (left_by (kinds.LoadCell (Some place)) None refl ask) go u
    outside (kinds.Hold thunk d) ask u go = guarding.hold m l chain a a' e e' s old joined r none (board_of (kinds.Hold thunk d)) _ f rs thunk d x ask (left_by (kinds.Hold thunk d) None refl ask) go u
    outside (kinds.LoadThunk (Some d)) ask u go = guarding.load_thunk m l chain a a' e e' s old joined r none (board_of (kinds.LoadThunk (Some d))) _ f d x ask (left_by (kinds.LoadThunk (Some d)) None refl ask) go u
    outside (kinds.Guard o) ask u go = guarding.guard m l chain a a' e e' s old joined r none (board_of (kinds.Guard o)) _ f o x some ask (λ i. refl) go u
    outside (kinds.LoadGuard n) ask u go = guarding.load_guard m l chain a a' e e' s old joined r none (board_of (kinds.LoadGuard n)) _ f n x ask (loaded (Guard n) (asked.load_guard_asked l n p x ask).is) go u
    outside kinds.EnterLoad ask u go = quiet kinds.EnterLoad refl refl ask go
    outside kinds.Announce ask u go = quiet kinds.Announce refl refl ask go
    outside kinds.ScanEpoch ask u go = quiet kinds.ScanEpoch refl refl ask go
    outside (kinds.ScanOne n) ask u go = quiet (kinds.ScanOne n) refl refl ask go
    outside kinds.Advance ask u go = quiet kinds.Advance refl refl ask go
    outside kinds.Split ask u go = quiet kinds.Split refl refl ask go
    outside (kinds.LoadEntry request reply) ask u go = quiet (kinds.LoadEntry request reply) refl refl ask go
    outside (kinds.PrivateLoad slot word) ask u go = quiet (kinds.PrivateLoad slot word) refl refl ask go
    outside (kinds.PrivateStore slot word number) ask u go = quiet (kinds.PrivateStore slot word number) refl refl ask go
    outside (kinds.ReadPlan thunk) ask u go = quiet (kinds.ReadPlan thunk) refl refl ask go
    outside kinds.ReadClock ask u go = quiet kinds.ReadClock refl refl ask go
    outside kinds.ReadReply ask u go = quiet kinds.ReadReply refl refl ask go
    outside kinds.ReadStamp ask u go = quiet kinds.ReadStamp refl refl ask go
    outside (kinds.BoardLoad word) ask u go = quiet (kinds.BoardLoad word) refl refl ask go
    outside (kinds.BoardTake word link) ask u go = quiet (kinds.BoardTake word link) refl refl ask go
    outside (kinds.BoardGive word slot) ask u go = quiet (kinds.BoardGive word slot) refl refl ask go
    outside (kinds.Join worker) ask u go = quiet (kinds.Join worker) refl refl ask go
    outside _ ask u go = some_none x ask

  -- in a run
  module _ (q : RunState) (at : p.run ≡ Some q) where
    abbrev Inside : EventKind → Bool → Type 0
    Inside kind b = To kind (inside_events m l r b kind q found) (cond b (blocks_in_line m l kind p.blocks q (next_of m q) found) p.blocks) (cond b (line_after m l kind p q (next_of m q) found) (opened_more p q found))

    in_sections_by : (kind : EventKind) (b : Bool) → is_open_run q ≡ b → (go : Others kind) → sections.IsInsideChunk m l a r b kind p q found go.heads
    in_sections_by kind b is go = subst (λ k. sections.IsInsideChunk m l a r k kind p q found go.heads) is (subst (λ o. sections.IsChunk m l a r kind p o found go.heads) at go.in_sections)

    in_slots_by : (kind : EventKind) (b : Bool) → is_open_run q ≡ b → (go : Others kind) → slots.IsInsideChunk m l r b kind p q found go.tails
    in_slots_by kind b is go = subst (λ k. slots.IsInsideChunk m l r k kind p q found go.tails) is (subst (λ o. slots.IsChunk m l r kind p o found go.tails) at go.in_slots)

    -- but for the last release the other components keep what guards see of them
    over_by : (kind : EventKind) (b : Bool) → is_open_run q ≡ b → is_release kind ≡ false → Others kind → (d : ℕ) → a'.over d ≡ a.over d
    over_by kind b is k go = others.over_same m l a a' r go.heads go.leads (inside_over m l a r kind p q found go.heads b k (in_sections_by kind b is go))

    stay_by : (kind : EventKind) (b : Bool) → is_open_run q ≡ b → is_release kind ≡ false → Others kind → (d : ℕ) → e'.location (slot_of (counts_of m l) d) ≡ e.location (slot_of (counts_of m l) d)
    stay_by kind b is k go = others.places_same m l e e' s joined go.tails go.enabled go.there (inside_places m l r kind p q found go.tails b k (in_slots_by kind b is go))

    abbrev Asked : EventKind → Type 0
    Asked kind = inside_ask m l kind p.nodes.free p.blocks.free q ≡ Some x

    guards_stay : (kind : EventKind) → Asked kind → (i : ℕ) → f (Guard i) ≡ s.word (Guard i)
    guards_stay kind ask i = inside_left m l q kind p.nodes.free p.blocks.free x ask s.word (written x.1 found) i

    -- who makes a step by which no block is linked has none in its hand
    no_hand : (kind : EventKind) → is_linking kind ≡ false → Asked kind → q.block ≡ None
    no_hand kind n ask = linking.no_hand m l chain a e s old r q at kind p.nodes.free p.blocks.free (opening_ask kind q) x n ask

    go_on : (kind : EventKind) (b : Bool) → is_open_run q ≡ b → is_release kind ≡ false → is_linking kind ≡ false → chain_after chain kind p found ≡ chain → Asked kind → Others kind → Inside kind b
    go_on kind b is k n linked ask go = subst (λ es. To kind es (cond b (blocks_in_line m l kind p.blocks q (next_of m q) found) p.blocks) (cond b (line_after m l kind p q (next_of m q) found) (opened_more p q found))) (sym (no_inside_event m l r kind q found b k n))
        (steps.quiet m l chain (chain_after chain kind p found) a a' e e' s old r f _ (guards_stay kind ask) (λ d. ap (λ (g : ℕ → List ℕ). g d) linked)
        (over_by kind b is k go) (stay_by kind b is k go) (views.blocks_inside m l p q at found kind b k n) (ap hand_of at ∙ no_hand kind n ask) (views.inside m l p q at found kind b k n))

    abbrev ask_of : EventKind → Bool → Type 0
    ask_of kind b = cond b (line_ask m l kind p.nodes.free p.blocks.free q (next_of m q)) (opening_ask kind q) ≡ Some x

    release : (b : Bool) → is_open_run q ≡ b → ask_of kinds.Release b → Asked kinds.Release → Supplied kinds.Release → Others kinds.Release → Inside kinds.Release b
    release true is by ask u go = ending.release m l chain a a' e e' s old of_sections joined r q at (no_hand kinds.Release refl ask) (board_of kinds.Release) (records_of kinds.Release) f (guards_stay kinds.Release ask) found u go
        (in_sections_by kinds.Release true is go) (in_slots_by kinds.Release true is go)
    release false is by ask u go = some_none x by

    store : (slot word number : ℕ) (b : Bool) → is_open_run q ≡ b → ask_of (kinds.PrivateStore slot word number) b → Asked (kinds.PrivateStore slot word number) → Others (kinds.PrivateStore slot word number) → Inside (kinds.PrivateStore slot word number) b
    store slot word number true is by ask go = linking.store m l chain a a' e e' s old r q at (board_of (kinds.PrivateStore slot word number)) (records_of (kinds.PrivateStore slot word number)) f (guards_stay (kinds.PrivateStore slot word number) ask)
        (over_by (kinds.PrivateStore slot word number) true is refl go) (stay_by (kinds.PrivateStore slot word number) true is refl go) slot word number x is by
    store slot word number false is by ask go = some_none x by

    link : (c : ℕ) (b : Bool) → is_open_run q ≡ b → ask_of (kinds.LinkCommit c) b → Asked (kinds.LinkCommit c) → Supplied (kinds.LinkCommit c) → Others (kinds.LinkCommit c) → Inside (kinds.LinkCommit c) b
    link c true is by ask u go = linking.link m l chain a a' e e' s old r q at (board_of (kinds.LinkCommit c)) (records_of (kinds.LinkCommit c)) f (guards_stay (kinds.LinkCommit c) ask)
        (over_by (kinds.LinkCommit c) true is refl go) (stay_by (kinds.LinkCommit c) true is refl go) c found x by (λ won. u.few c q refl at won)
    link c false is by ask u go = some_none x by

    -- what is to be shown of a step of this kind
    abbrev Shown : EventKind → Type 0
    Shown kind = Asked kind → Supplied kind → Others kind → Inside kind (is_open_run q)

    other : (kind : EventKind) → is_release kind ≡ false → is_linking kind ≡ false → chain_after chain kind p found ≡ chain → Shown kind
    other kind k n linked ask u go = go_on kind (is_open_run q) refl k n linked ask go

    inside : (kind : EventKind) → Shown kind
    inside kinds.Release ask u go = release (is_open_run q) refl ask ask u go
    inside (kinds.PrivateStore slot word number) ask u go = store slot word number (is_open_run q) refl ask ask go
    inside (kinds.LinkCommit b) ask u go = link b (is_open_run q) refl ask ask u go
    inside (kinds.Hold t d) ask u go = cond_none (is_open_run q) x ask
    inside kind ask u go = other kind refl refl refl ask u go

  -- a step in a run or outside
  abbrev By : EventKind → Option RunState → Type 0
  By kind o = To kind (guard_events m l r kind p o found) (blocks_after m l kind p o found) (after_by m l kind p o found)

  by_run : (kind : EventKind) (o : Option RunState) → p.run ≡ o → ask_by m l rs r kind p o ≡ Some x → Supplied kind → Others kind → By kind o
  by_run kind None none ask u go = outside none kind ask u go
  by_run kind (Some q) at ask u go = inside q at kind ask u go

  abbrev Shows : EventKind → Type 0
  Shows kind = Goes m l (guard_events m l r kind p p.run found) chain (chain_after chain kind p found) a a' e e' s (sight_after m l s r kind x)

  -- a join is no event: the keeper takes over what the worker knew, and the worker makes no further step
  module _ (worker : ℕ) (ask : ask_by m l rs r (kinds.Join worker) p p.run ≡ Some x) (go : Others (kinds.Join worker)) where
    in_no_run : (o : Option RunState) → ask_by m l rs r (kinds.Join worker) p o ≡ Some x → o ≡ None
    in_no_run None e0 = refl
    in_no_run (Some q) e0 = cond_none (is_open_run q) x e0

    none_runs : p.run ≡ None
    none_runs = in_no_run p.run ask

    abbrev keeper : PartState
    keeper = knows_also (after m l r (kinds.Join worker) x.0 x.1 p found) (s.part worker)

    -- what stays of the keeper's part and of the worker's stays of all
    all_same : {B : Type 0} → (h : PartState → B) → h keeper ≡ h p → h (leaves (s.part worker)) ≡ h (s.part worker)
        → (i : ℕ) → h (upd (upd s.part r keeper) worker (leaves (s.part worker)) i) ≡ h (s.part i)
    all_same {B} h of_keeper of_worker i =
        let kept = λ (j : ℕ). ap (λ (g : ℕ → B). g j) (map_same h s.part r keeper of_keeper) in
        ap (λ (g : ℕ → B). g i) (map_same h (upd s.part r keeper) worker (leaves (s.part worker)) (of_worker ∙ sym (kept worker))) ∙ kept i

    run_same : (i : ℕ) → (upd (upd s.part r keeper) worker (leaves (s.part worker)) i).run ≡ (s.part i).run
    run_same = all_same (λ y. y.run) (ap (λ o. (after_by m l (kinds.Join worker) p o found).run) none_runs) refl

    join : Shows (kinds.Join worker)
    join = subst (λ o. Goes m l (guard_events m l r (kinds.Join worker) p o found) chain chain a a' e e' s (sight_after m l s r (kinds.Join worker) x)) (sym none_runs)
        (steps.quiet_all m l chain chain a a' e e' s old (sight_after m l s r (kinds.Join worker) x) (λ d. refl) (left_by (kinds.Join worker) p.run refl ask)
        (others.over_same m l a a' r go.heads go.leads (outside_over m l a r (kinds.Join worker) p found go.heads refl (in_sections none_runs (kinds.Join worker) go)))
        (others.places_same m l e e' s joined go.tails go.enabled go.there (outside_places m l r (kinds.Join worker) p found go.tails refl (in_slots none_runs (kinds.Join worker) go)))
        (all_same view (ap (λ o. view (after_by m l (kinds.Join worker) p o found)) none_runs) refl)
        (all_same (λ y. y.blocks) (ap (λ o. blocks_after m l (kinds.Join worker) p o found) none_runs) refl)
        (λ i b q runs held. old.hand i b q (sym (run_same i) ∙ runs) held))

  not_join : (kind : EventKind) → is_join kind ≡ false → sight_after m l s r kind x ≡ record { word = f; part = upd s.part r (after m l r kind x.0 x.1 p found) }
  not_join (kinds.Join worker) k = absurd (let y = k in cc)
  not_join _ k = refl

  plain : (kind : EventKind) → is_join kind ≡ false → asks m l rs r kind p ≡ Some x → Supplied kind → Others kind → Shows kind
  plain kind k e1 u go = subst (Goes m l (guard_events m l r kind p p.run found) chain (chain_after chain kind p found) a a' e e' s) (sym (not_join kind k)) (by_run kind p.run refl (unless_gone (sizes_for m l rs) p.gone _ x e1).1 u go)

  shows : (kind : EventKind) → asks m l rs r kind p ≡ Some x → Supplied kind → Others kind → Shows kind
  shows (kinds.Join worker) e0 u go = join worker (unless_gone (sizes_for m l rs) p.gone _ x e0).1 go
  shows kind e0 u go = plain kind refl e0 u go

pub step_goes : (m : Meaning) (l : Layout) (rs : List Request) (chain : ℕ → List ℕ) (a a' : AgreementState) (e e' : EpochState) (s s' : Sight) (r : ℕ) (kind : EventKind)
    → IsJoinedToAgreement m l a s → IsJoinedToEpochs m l e s → GuardsStand m l chain a e s → (step : Steps m l rs s s' r kind)
    → GuardsAreSupplied m l chain a e s r kind (s.word (step.ask.0)) → OthersGo m l a a' e e' s r kind (s.word (step.ask.0))
    → Goes m l (guard_events m l r kind (s.part r) (s.part r).run (s.word (step.ask.0))) chain (chain_after chain kind (s.part r) (s.word (step.ask.0))) a a' e e' s s'
step_goes m l rs chain a a' e e' s s' r kind of_sections joined old step u go =
    subst (Goes m l (guard_events m l r kind (s.part r) (s.part r).run (s.word (step.ask.0))) chain (chain_after chain kind (s.part r) (s.word (step.ask.0))) a a' e e' s) (sym step.next)
    (shows m l rs chain a a' e e' s of_sections joined old r step.runner step.ask kind step.asked u go)
