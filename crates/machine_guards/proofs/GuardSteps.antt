-- The kinds of step that are events of guards.
use Rattle.std.specs.Prelude.{◌==◌, ◌&&◌, ◌||◌, ◌-◌, ◌+◌, not, cond, Bool, true, false, nat_le, if◌then◌else◌}
use Rattle.std.proofs.Common.{◌≡◌, ◌≢◌, ℕ, suc, ◌<◌, ◌≤◌, List, [], ◌∷◌, ◌++◌, length, refl, sym, ap, ◌∙◌, subst, arith, ⊎_elim, Option, Some, None}
use Rattle.std.proofs.lemmas.Bool.Decides.{nat_tests}
use Rattle.std.proofs.lemmas.Bool.{and_parts}
use Rattle.std.proofs.lemmas.Option.{none-some}
use Rattle.machine_states.specs.map_history.specs.declared.op.Request.{Request}
use Rattle.machine_states.specs.epoch_core.specs.small_lemmas.proofs.Numbers.{tested_equal as same_number, self_tested}
use Rattle.machine_states.specs.body_terms.specs.Word.{value_of, is_free}
use Rattle.machine_states.specs.body_terms.specs.declared.thunk.Thunk.{Thunk}
use Rattle.machine_states.specs.table_words.specs.declared.layout.Layout.{Layout}
use Rattle.machine_states.specs.table_words.specs.declared.spot.Spot.{Spot}
use Rattle.machine_states.specs.table_words.specs.declared.spot.Spot.TheVariants.{Guard}
use Rattle.machine_states.specs.table_words.specs.declared.access.Access.{Access}
use Rattle.machine_states.specs.table_words.specs.declared.access.Access.TheVariants.{Stores}
use Rattle.machine_states.specs.table_words.specs.Access.{written}
use Rattle.machine_states.specs.table_words.specs.Seen.{upd, put}
use Rattle.agreement_core.specs.State.{AgreementState}
use Rattle.agreement_core.specs.Events as agreement
use Rattle.machine_states.specs.structure_laws.specs.Meaning.{Meaning}
use Rattle.machine_states.specs.runner_parts.specs.declared.event.EventKind.{EventKind}
use Rattle.machine_states.specs.runner_parts.specs.declared.event.EventKind.TheVariants as kinds
use Rattle.machine_states.specs.runner_parts.specs.declared.entries.Published.{Published}
use Rattle.machine_states.specs.runner_parts.specs.declared.entries.BoardRead.{BoardRead}
use Rattle.machine_states.specs.runner_parts.specs.Lists.{names_guarded, cell_read, descriptor_taken, published_seen, descriptors_swept, with_looked, blocks_freed, blocks_given_back}
use Rattle.machine_states.specs.runner_parts.specs.State.{BlocksState, GuardsState, PartState, RecordsState}
use Rattle.machine_states.specs.runner_parts.specs.Tests.{has, is_some_of, thunk_words}
use Rattle.machine_states.specs.runner_steps.specs.After.{outside_after}
use Rattle.machine_states.specs.runner_steps.specs.Blocks.{blocks_outside}
use Rattle.machine_states.specs.runner_steps.specs.AfterOutside.{published_by}
use Rattle.machine_states.specs.runner_steps.specs.Guards.{guard_ask, load_guard_ask, is_last_guard}
use Rattle.machine_states.specs.runner_steps.specs.Outside.{enter_again_ask, idle_ask, hold_ask, open_ask}
use Rattle.machine_states.specs.epoch_core.specs.declared.location.Location as places
use Rattle.machine_states.specs.epoch_core.specs.declared.location.Location.TheVariants as epoch_places
use Rattle.machine_states.specs.epoch_core.specs.Moves as epoch_moves
use Rattle.machine_states.specs.epoch_core.specs.State.{EpochState, Role, is_entered}
use Rattle.machine_states.specs.epoch_core.specs.Events as epochs
use Rattle.machine_states.specs.epoch_core.specs.Events.{slot_of, is_among}
use Rattle.machine_states.specs.guard_core.specs.State as guards
use Rattle.machine_states.specs.guard_core.specs.State.{GuardState, word_of}
use Rattle.machine_states.specs.guard_core.specs.Events.{Event, with_next}
use Rattle.machine_states.specs.guard_core.specs.Moves.{is_unnamed, swept}
use Rattle.machine_states.specs.guard_core.specs.Owners as owners
use Rattle.machine_states.specs.guard_core.specs.Update as guard_update
use Rattle.machine_states.specs.Sight.{Sight}
use Rattle.machine_agreement.specs.machine_epochs.specs.Chunks as slots
use Rattle.machine_agreement.specs.machine_epochs.specs.Entries.{counts_of}
use Rattle.machine_agreement.specs.machine_epochs.specs.Firsts.{owner_of}
use Rattle.machine_agreement.specs.machine_epochs.specs.Joined.{IsJoinedToEpochs}
use Rattle.machine_agreement.specs.machine_epochs.proofs.OutsideAsked as asked
use Rattle.machine_agreement.specs.machine_epochs.proofs.Places.{free_descriptor}
use Rattle.machine_agreement.specs.Chunks as sections
use Rattle.machine_guards.specs.State.{place_of, run_of, won_of, hand_of, guards_of}
use Rattle.machine_guards.specs.Stands.{GuardsStand}
use Rattle.machine_guards.specs.Supplied.{GuardsAreSupplied}
use Rattle.machine_guards.specs.Chunks.{outside_events}
use Rattle.machine_guards.specs.Goes.{OthersGo}
use Rattle.machine_guards.proofs.Places.{AllAre, leaves_over, outside_over, outside_places}
use Rattle.machine_guards.proofs.Lists.{filter_has}
use Rattle.machine_guards.proofs.Others as others
use Rattle.machine_guards.proofs.Steps as steps
use Rattle.machine_states.specs.guard_core.specs.Events as events
use Rattle.machine_guards.proofs.Views.{View, view}

or_none : (b : Bool) → (b || false) ≡ b
or_none true = refl
or_none false = refl

or_so : (b : Bool) → (b || true) ≡ true
or_so true = refl
or_so false = refl

-- what a runner sees of a lock that doesn't name the descriptor that it guards, and of one that does
unseen : (g : GuardsState) (lock free : Bool) (d : ℕ) → (lock && (not free && is_some_of g.named d)) ≡ false
    → (if lock && not free then published_seen g d else g) ≡ g
unseen g false free d e = refl
unseen g true true d e = refl
unseen g true false d e = ap (λ b. record g { sure = g.sure || b }) e ∙ ap (λ b. record g { sure = b }) (or_none g.sure)

seen : (g : GuardsState) (lock free : Bool) (d : ℕ) → (lock && (not free && is_some_of g.named d)) ≡ true
    → (if lock && not free then published_seen g d else g) ≡ record g { sure = true }
seen g false free d e = absurd (let y = e in cc)
seen g true true d e = absurd (let y = e in cc)
seen g true false d e = ap (λ b. record g { sure = g.sure || b }) e ∙ ap (λ b. record g { sure = b }) (or_so g.sure)

-- a live place
pub place_live : (l : Layout) (d r : ℕ) (x : places.Location) → place_of l d x ≡ guards.Live r → (x ≡ epoch_places.Live) × (owner_of l.sections l.runners d ≡ r)
place_live l d r (epoch_places.Free q) at = absurd (let y = at in cc)
place_live l d r (epoch_places.Limbo q y) at = absurd (let y = at in cc)
place_live l d r (epoch_places.Hand q) at = absurd (let y = at in cc)
place_live l d r (epoch_places.Worn q) at = absurd (let y = at in cc)
place_live l d r (epoch_places.OnBoard i) at = absurd (let y = at in cc)
place_live l d r epoch_places.Fixed at = absurd (let y = at in cc)
place_live l d r epoch_places.Live at = (refl, ap owners.owner_of at)

-- the descriptor of a word that isn't free
named_value : (n : ℕ) → (n == 0) ≡ false → n ≡ suc (n - 1)
named_value n some = grind (arith, nat_tests)

-- where a swept descriptor is
place_swept : (l : Layout) (r d : ℕ) (words : List ℕ) (x : places.Location) (b : Bool) → b ≡ is_unnamed words d
    → place_of l d (epoch_moves.swept b r x) ≡ swept r words (place_of l d x)
place_swept l r d words (epoch_places.Free q) b is = refl
place_swept l r d words epoch_places.Live b is = refl
place_swept l r d words (epoch_places.Hand q) b is = refl
place_swept l r d words (epoch_places.Worn q) b is = refl
place_swept l r d words (epoch_places.OnBoard i) b is = refl
place_swept l r d words epoch_places.Fixed b is = refl
place_swept l r d words (epoch_places.Limbo q y) b is =
    ap (λ k. place_of l d (cond (q == r && k) (epoch_places.Free r) (epoch_places.Limbo q y))) is ∙ by (q == r && is_unnamed words d)
  where
    by : (k : Bool) → place_of l d (cond k (epoch_places.Free r) (epoch_places.Limbo q y)) ≡ cond k (guards.Free r) (guards.Limbo q d)
    by true = refl
    by false = refl

among : (n d : ℕ) (test : ℕ → Bool) → (nat_le n (n + d) && test (n + d - n)) ≡ test d
among n d test = ap (λ b. b && test (n + d - n)) (most n d) ∙ ap test (back n d)
  where
    most : (n d : ℕ) → nat_le n (n + d) ≡ true
    most n d = grind (arith, nat_tests)

    back : (n d : ℕ) → n + d - n ≡ d
    back n d = omega arith

module _ (m : Meaning) (l : Layout) (chain : ℕ → List ℕ) (a a' : AgreementState) (e e' : EpochState) (s : Sight) (old : GuardsStand m l chain a e s) (joined : IsJoinedToEpochs m l e s)
    (r : ℕ) (none : (s.part r).run ≡ None) (board : List BoardRead) (records : RecordsState) (f : Spot → ℕ) where
  abbrev p : PartState
  p = s.part r

  abbrev w : GuardState
  w = guards_of m l chain a e s

  no_hand : hand_of p.run ≡ None
  no_hand = ap hand_of none

  -- a step outside a run that leaves these chains, these blocks and this part
  abbrev To : (ℕ → List ℕ) → List Event → BlocksState → PartState → Type 0
  To chain' es blocks p' = steps.To m l chain chain' a a' e e' s old r f (record p' { blocks = blocks; board = board; records = records }) es

  module _ (kind : EventKind) (found : ℕ) (supplied : GuardsAreSupplied m l chain a e s r kind found) (go : OthersGo m l a a' e e' s r kind found) where
    -- the events of the other components
    in_sections : sections.IsOutsideChunk m l a r kind p found go.heads
    in_sections = subst (λ o. sections.IsChunk m l a r kind p o found go.heads) none go.in_sections

    in_slots : slots.IsOutsideChunk m l r kind p found go.tails
    in_slots = subst (λ o. slots.IsChunk m l r kind p o found go.tails) none go.in_slots

    -- a live descriptor of a runner is the one that it has published
    own_live : (d : ℕ) → w.descriptor d ≡ guards.Live r → (y : Published) × (p.published ≡ Some y) × (y.descriptor ≡ d)
    own_live d at =
        let live = place_live l d r _ at in
        let by = supplied.published d live.0 in
        let own : by.0 ≡ r = sym (old.publisher by.0 by.1 by.2) ∙ (ap (owner_of l.sections l.runners) by.3 ∙ live.1) in
        (by.1, subst (λ i. (s.part i).published ≡ Some by.1) own by.2, by.3)

  pub enter_again : (x : Spot × Access) → enter_again_ask p ≡ Some x → ((i : ℕ) → f (Guard i) ≡ s.word (Guard i)) → (go : OthersGo m l a a' e e' s r kinds.EnterAgain (s.word x.0))
      → GuardsAreSupplied m l chain a e s r kinds.EnterAgain (s.word x.0)
      → To chain (outside_events m l r kinds.EnterAgain p (s.word x.0)) (blocks_outside m l kinds.EnterAgain p (s.word x.0)) (outside_after m l kinds.EnterAgain p (s.word x.0))
  enter_again x ask left go u =
      steps.enter m l chain chain a a' e e' s old r f _ left (λ i. refl)
      (others.over_same m l a a' r go.heads go.leads (outside_over m l a r kinds.EnterAgain p (s.word x.0) go.heads refl (in_sections kinds.EnterAgain (s.word x.0) u go)))
      (others.places_same m l e e' s joined go.tails go.enabled go.there (outside_places m l r kinds.EnterAgain p (s.word x.0) go.tails refl (in_slots kinds.EnterAgain (s.word x.0) u go)))
      refl no_hand (ap is_entered (asked.enter_again_asked p x ask).0) refl

  pub idle : (x : Spot × Access) → idle_ask r p ≡ Some x → ((i : ℕ) → f (Guard i) ≡ s.word (Guard i)) → (go : OthersGo m l a a' e e' s r kinds.Idle (s.word x.0))
      → GuardsAreSupplied m l chain a e s r kinds.Idle (s.word x.0)
      → To chain (outside_events m l r kinds.Idle p (s.word x.0)) (blocks_outside m l kinds.Idle p (s.word x.0)) (outside_after m l kinds.Idle p (s.word x.0))
  idle x ask left go u =
      steps.exit m l chain chain a a' e e' s old r f _ left (λ i. refl)
      (others.over_same m l a a' r go.heads go.leads (outside_over m l a r kinds.Idle p (s.word x.0) go.heads refl (in_sections kinds.Idle (s.word x.0) u go)))
      (others.places_same m l e e' s joined go.tails go.enabled go.there (outside_places m l r kinds.Idle p (s.word x.0) go.tails refl (in_slots kinds.Idle (s.word x.0) u go)))
      refl no_hand (asked.idle_away r p x ask).1 refl

  pub load_thunk : (d : ℕ) (x : Spot × Access) → open_ask d p ≡ Some x → ((i : ℕ) → f (Guard i) ≡ s.word (Guard i))
      → (go : OthersGo m l a a' e e' s r (kinds.LoadThunk (Some d)) (s.word x.0)) → GuardsAreSupplied m l chain a e s r (kinds.LoadThunk (Some d)) (s.word x.0)
      → To chain (outside_events m l r (kinds.LoadThunk (Some d)) p (s.word x.0)) (blocks_outside m l (kinds.LoadThunk (Some d)) p (s.word x.0)) (outside_after m l (kinds.LoadThunk (Some d)) p (s.word x.0))
  load_thunk d x ask left go u =
      let sure = and_parts p.guards.sure (is_some_of p.guards.named d) (asked.open_asked d p x ask).2 in
      steps.begin m l chain chain a a' e e' s old r f _ left (λ i. refl)
      (others.over_same m l a a' r go.heads go.leads (outside_over m l a r (kinds.LoadThunk (Some d)) p (s.word x.0) go.heads refl (in_sections (kinds.LoadThunk (Some d)) (s.word x.0) u go)))
      (others.places_same m l e e' s joined go.tails go.enabled go.there (outside_places m l r (kinds.LoadThunk (Some d)) p (s.word x.0) go.tails refl (in_slots (kinds.LoadThunk (Some d)) (s.word x.0) u go)))
      refl no_hand d ((asked.named_is p.guards.named d sure.1, sure.0), ap run_of none) (λ i. record (view p) { run = Some d; won = won_of (sym none i); hand = hand_of (sym none i) })

  -- what is seen of the part with these guards
  abbrev with_guards : GuardsState → View
  with_guards g = view (record p { guards = g })

  -- a cell was read: where it is a lock that names the guarded descriptor, the runner is sure of it
  pub load_cell : (place : ℕ) (x : Spot × Access) → ((i : ℕ) → f (Guard i) ≡ s.word (Guard i)) → (go : OthersGo m l a a' e e' s r (kinds.LoadCell (Some place)) (s.word x.0))
      → GuardsAreSupplied m l chain a e s r (kinds.LoadCell (Some place)) (s.word x.0)
      → To chain (outside_events m l r (kinds.LoadCell (Some place)) p (s.word x.0)) (blocks_outside m l (kinds.LoadCell (Some place)) p (s.word x.0)) (outside_after m l (kinds.LoadCell (Some place)) p (s.word x.0))
  load_cell place x left go u = by (names_guarded p.guards (m.is_lock place) (s.word x.0)) refl
    where
      over : (d : ℕ) → a'.over d ≡ a.over d
      over = others.over_same m l a a' r go.heads go.leads (outside_over m l a r (kinds.LoadCell (Some place)) p (s.word x.0) go.heads refl (in_sections (kinds.LoadCell (Some place)) (s.word x.0) u go))

      stay : (d : ℕ) → e'.location (slot_of (counts_of m l) d) ≡ e.location (slot_of (counts_of m l) d)
      stay = others.places_same m l e e' s joined go.tails go.enabled go.there (outside_places m l r (kinds.LoadCell (Some place)) p (s.word x.0) go.tails refl (in_slots (kinds.LoadCell (Some place)) (s.word x.0) u go))

      by : (b : Bool) → names_guarded p.guards (m.is_lock place) (s.word x.0) ≡ b
          → To chain (if b then events.Validate r (value_of (s.word x.0) - 1) ∷ [] else []) (if b then blocks_given_back (value_of (s.word x.0) - 1) p.blocks else p.blocks) (outside_after m l (kinds.LoadCell (Some place)) p (s.word x.0))
      by false e0 = steps.quiet m l chain chain a a' e e' s old r f _ left (λ i. refl) over stay refl no_hand
          (ap with_guards (unseen p.guards (m.is_lock place) (is_free (s.word x.0)) (value_of (s.word x.0) - 1) e0))
      by true e0 =
          let lock = and_parts (m.is_lock place) _ e0 in
          let rest = and_parts (not (is_free (s.word x.0))) _ lock.1 in
          let value = named_value (value_of (s.word x.0)) (not_so (is_free (s.word x.0)) rest.0) in
          let d = value_of (s.word x.0) - 1 in
          steps.validate m l chain chain a a' e e' s old r f _ left (λ i. refl) over stay d refl no_hand
          (asked.named_is p.guards.named d rest.1, ap run_of none, u.unended place d refl lock.0 value, (owner_of l.sections l.runners d, ap (place_of l d) (u.live place d refl lock.0 value)))
          (ap with_guards (seen p.guards (m.is_lock place) (is_free (s.word x.0)) d e0))
        where
          not_so : (b : Bool) → not b ≡ true → b ≡ false
          not_so true e = absurd (let y = e in cc)
          not_so false e = refl

  -- the own guard word moves
  pub guard : (o : Option ℕ) (x : Spot × Access) → r ≤ l.runners → guard_ask l r o p ≡ Some x → ((i : ℕ) → f (Guard i) ≡ put s.word x.0 (written x.1 (s.word x.0)) (Guard i))
      → (go : OthersGo m l a a' e e' s r (kinds.Guard o) (s.word x.0)) → GuardsAreSupplied m l chain a e s r (kinds.Guard o) (s.word x.0)
      → To chain (outside_events m l r (kinds.Guard o) p (s.word x.0)) (blocks_outside m l (kinds.Guard o) p (s.word x.0)) (outside_after m l (kinds.Guard o) p (s.word x.0))
  guard o x few ask stored go u = by o h.is refl
    where
      h : asked.GuardAsked l r o p x
      h = asked.guard_asked l r o p x ask

      over : (d : ℕ) → a'.over d ≡ a.over d
      over = others.over_same m l a a' r go.heads go.leads (outside_over m l a r (kinds.Guard o) p (s.word x.0) go.heads refl (in_sections (kinds.Guard o) (s.word x.0) u go))

      stay : (d : ℕ) → e'.location (slot_of (counts_of m l) d) ≡ e.location (slot_of (counts_of m l) d)
      stay = others.places_same m l e e' s joined go.tails go.enabled go.there (outside_places m l r (kinds.Guard o) p (s.word x.0) go.tails refl (in_slots (kinds.Guard o) (s.word x.0) u go))

      no_live : (d : ℕ) → w.descriptor d ≢ guards.Live r
      no_live d at = let y = own_live (kinds.Guard o) (s.word x.0) u go d at in none-some _ (sym h.unpublished ∙ y.1)

      word_is : (q : Option ℕ) → (Guard r, Stores (word_of q)) ≡ x → (i : ℕ) → f (Guard i) ≡ cond (i == r) (word_of q) (s.word (Guard i))
      word_is q is i = stored i ∙ ap (λ (z : Spot × Access). put s.word z.0 (written z.1 (s.word z.0)) (Guard i)) (sym is)

      by : (q : Option ℕ) → (Guard r, Stores (word_of q)) ≡ x → o ≡ q → To chain (outside_events m l r (kinds.Guard q) p (s.word x.0)) (blocks_outside m l (kinds.Guard q) p (s.word x.0)) (outside_after m l (kinds.Guard q) p (s.word x.0))
      by None is same = steps.clear_guard m l chain chain a a' e e' s old r f _ (λ i. refl) over stay refl no_hand (word_is None is) (ap run_of none, no_live) refl
      by (Some d) is same = steps.store_guard m l chain chain a a' e e' s old r f _ (λ i. refl) over stay refl no_hand d (word_is (Some d) is) (few, ap is_entered h.entered, (ap run_of none, no_live)) refl

  -- the guard words that the runner has read when it reads this one, and its part behind it, at the end of its sweep or
  -- not
  abbrev words_with : ℕ → List ℕ
  words_with n = p.guards.looked ++ n ∷ []

  abbrev behind_load : ℕ → Bool → PartState
  behind_load n b = record p {
    descriptors = (if b then descriptors_swept (words_with n) p.descriptors else p.descriptors);
    guards = with_looked p.guards (if b then [] else words_with n);
  }

  -- a guard word is read
  pub load_guard : (n : ℕ) (x : Spot × Access) → load_guard_ask l n p ≡ Some x → ((i : ℕ) → f (Guard i) ≡ s.word (Guard i))
      → (go : OthersGo m l a a' e e' s r (kinds.LoadGuard n) (s.word x.0)) → GuardsAreSupplied m l chain a e s r (kinds.LoadGuard n) (s.word x.0)
      → To chain (outside_events m l r (kinds.LoadGuard n) p (s.word x.0)) (blocks_outside m l (kinds.LoadGuard n) p (s.word x.0)) (outside_after m l (kinds.LoadGuard n) p (s.word x.0))
  load_guard n x ask left go u = by (is_last_guard l p.guards.looked) refl (in_slots (kinds.LoadGuard n) (s.word x.0) u go)
    where
      h : asked.LoadGuardAsked l n p x
      h = asked.load_guard_asked l n p x ask

      over : (d : ℕ) → a'.over d ≡ a.over d
      over = others.over_same m l a a' r go.heads go.leads (outside_over m l a r (kinds.LoadGuard n) p (s.word x.0) go.heads refl (in_sections (kinds.LoadGuard n) (s.word x.0) u go))

      -- the word that it finds is what its runner has stored
      read : (words_with (s.word x.0)) ≡ with_next w r
      read = ap (λ (k : ℕ). p.guards.looked ++ k ∷ []) (ap (λ (z : Spot × Access). s.word z.0) (sym h.is) ∙ (ap (λ i. s.word (Guard i)) h.next ∙ old.words (length p.guards.looked)))

      less : (a b : ℕ) → a ≤ b → (a == b) ≡ false → a < b
      less a b few ne = grind (arith, nat_tests)

      by : (b : Bool) → is_last_guard l p.guards.looked ≡ b → go.tails ≡ (if b then epochs.Sweep r (is_unnamed (words_with (s.word x.0))) ∷ [] else [])
          → To chain (if b then events.LoadLast r ∷ [] else events.LoadGuard r ∷ []) (if b then blocks_freed (is_unnamed (words_with (s.word x.0))) p.blocks else p.blocks) (behind_load (s.word x.0) b)
      by false last tails = steps.load_guard m l chain chain a a' e e' s old r f _ left (λ i. refl) over (others.place_kept m l e e' s joined go.tails go.enabled go.there tails) refl no_hand
          (ap is_entered h.idle, less (length p.guards.looked) l.runners (subst (λ k. k ≤ l.runners) h.next h.few) last)
          (ap (λ (ws : List ℕ). record (view p) { looked = ws }) read)
      by true last tails = steps.load_last m l chain chain a a' e e' s old r f _ left (words_with (s.word x.0)) refl none (λ i. refl) read (ap is_entered h.idle, same_number (length p.guards.looked) l.runners last) over
          (λ i. ap (place_of l i) (others.place_swept m l e e' s joined go.tails go.enabled go.there r (is_unnamed (words_with (s.word x.0))) tails i)
          ∙ place_swept l r i (words_with (s.word x.0)) (e.location (slot_of (counts_of m l) i)) (is_among (counts_of m l) (is_unnamed (words_with (s.word x.0))) (slot_of (counts_of m l) i)) (among (counts_of m l).nodes i (is_unnamed (words_with (s.word x.0)))))
          (λ i is. (and_parts (has p.descriptors.limbo i) _ (sym (filter_has (λ y. not (is_unnamed (words_with (s.word x.0)) y)) p.descriptors.limbo i) ∙ is)).0) refl refl refl refl refl refl

  -- the part behind a try to publish, which won or lost
  abbrev behind_hold : Thunk → ℕ → ℕ → Bool → PartState
  behind_hold t d n b = if b then record p {
    published = Some (published_by t d p);
    descriptors = descriptor_taken p.descriptors d;
    guards = published_seen p.guards d;
    reads = cell_read p.reads t.lock n;
  } else record p { reads = cell_read p.reads t.lock n }

  abbrev chain_behind : ℕ → Bool → ℕ → List ℕ
  chain_behind d b = if b then upd chain d [] else chain

  abbrev blocks_behind : ℕ → Bool → BlocksState
  blocks_behind d b = if b then blocks_given_back d p.blocks else p.blocks

  -- a try to publish
  pub hold : (rs : List Request) (t : Thunk) (d : ℕ) (x : Spot × Access) → hold_ask m l rs r t d p ≡ Some x → ((i : ℕ) → f (Guard i) ≡ s.word (Guard i))
      → (go : OthersGo m l a a' e e' s r (kinds.Hold t d) (s.word x.0)) → GuardsAreSupplied m l chain a e s r (kinds.Hold t d) (s.word x.0)
      → To (chain_behind d (s.word x.0 == t.word)) (outside_events m l r (kinds.Hold t d) p (s.word x.0)) (blocks_outside m l (kinds.Hold t d) p (s.word x.0)) (outside_after m l (kinds.Hold t d) p (s.word x.0))
  hold rs t d x ask left go u = ⊎_elim
      (λ won. subst (λ b. To (chain_behind d b) (if b then events.Publish r d ∷ [] else []) (blocks_behind d b) (behind_hold t d (s.word x.0) b)) (sym (equal_is (s.word x.0) t.word won.0)) (published won.1))
      (λ lost. subst (λ b. To (chain_behind d b) (if b then events.Publish r d ∷ [] else []) (blocks_behind d b) (behind_hold t d (s.word x.0) b)) (sym (other_is (s.word x.0) t.word lost.0)) (tried lost.1 (slots_lost lost.0)))
      (in_sections (kinds.Hold t d) (s.word x.0) u go)
    where
      h : asked.HoldAsked m l rs t d p x
      h = asked.hold_asked m l rs r t d p x ask

      equal_is : (n k : ℕ) → n ≡ k → (n == k) ≡ true
      equal_is n k e0 = grind (arith, nat_tests)

      other_is : (n k : ℕ) → n ≢ k → (n == k) ≡ false
      other_is n k e0 = grind (arith, nat_tests)

      slots_lost : s.word x.0 ≢ t.word → go.tails ≡ []
      slots_lost ne = ⊎_elim (λ won. absurd (ne won.0)) (λ lost. lost.1) (in_slots (kinds.Hold t d) (s.word x.0) u go)

      tried : go.heads ≡ agreement.Read t.lock ∷ [] → go.tails ≡ [] → To chain [] p.blocks (behind_hold t d (s.word x.0) false)
      tried heads tails = steps.quiet m l chain chain a a' e e' s old r f _ left (λ i. refl)
          (others.over_same m l a a' r go.heads go.leads (subst (AllAre leaves_over) (sym heads) (refl, tt)))
          (others.place_kept m l e e' s joined go.tails go.enabled go.there tails) refl no_hand refl

      at_free : e.location (slot_of (counts_of m l) d) ≡ epoch_places.Free r
      at_free = free_descriptor m l e s joined r d h.few h.free

      own : owner_of l.sections l.runners d ≡ r
      own = sym (old.owned d) ∙ ap (λ z. owners.owner_of (place_of l d z)) at_free

      seen_now : (p.guards.sure || is_some_of p.guards.named d) ≡ true
      seen_now = ap (λ o. p.guards.sure || is_some_of o d) h.named ∙ (ap (λ b. p.guards.sure || b) (self_tested d) ∙ or_so p.guards.sure)

      moved : (roles : ℕ → Role) → go.tails ≡ epochs.Publish r d roles ∷ [] → (i : ℕ)
          → place_of l i (e'.location (slot_of (counts_of m l) i)) ≡ guard_update.upd w.descriptor d (guards.Live r) i
      moved roles tails i = ap (place_of l i) (others.place_published m l e e' s joined go.tails go.enabled go.there r d roles tails i) ∙ by (i == d) refl
        where
          by : (b : Bool) → (i == d) ≡ b → place_of l i (cond b epoch_places.Live (e.location (slot_of (counts_of m l) i))) ≡ cond b (guards.Live r) (place_of l i (e.location (slot_of (counts_of m l) i)))
          by true same = ap guards.Live (ap (owner_of l.sections l.runners) (same_number i d same) ∙ own)
          by false other = refl

      published_by_roles : (roles : ℕ → Role) → go.heads ≡ agreement.Read t.lock ∷ sections.publication m d t ∷ [] → go.tails ≡ epochs.Publish r d roles ∷ [] → To (chain_behind d true) (events.Publish r d ∷ []) (blocks_behind d true) (behind_hold t d (s.word x.0) true)
      published_by_roles roles heads tails = steps.publish m l chain (chain_behind d true) a a' e e' s old r f _ left d (published_by t d p) refl no_hand (λ i. refl) refl
          (h.named, ap (place_of l d) at_free)
          (others.over_published m l a a' r go.heads go.leads t.lock d t.lock t.word t.request _ _ heads)
          (moved roles tails)
          (ap (λ b. record (view p) { sure = b; published = Some (published_by t d p) }) seen_now)

      published : go.heads ≡ agreement.Read t.lock ∷ sections.publication m d t ∷ [] → To (chain_behind d true) (events.Publish r d ∷ []) (blocks_behind d true) (behind_hold t d (s.word x.0) true)
      published heads = ⊎_elim (λ won. published_by_roles (slots.roles_of m (thunk_words t)) heads won.1) (λ lost. absurd (lost.0 (word_won heads))) (in_slots (kinds.Hold t d) (s.word x.0) u go)
        where
          word_won : go.heads ≡ agreement.Read t.lock ∷ sections.publication m d t ∷ [] → s.word x.0 ≡ t.word
          word_won is = ⊎_elim (λ won. won.0) (λ lost. absurd (let y = sym is ∙ lost.1 in cc)) (in_sections (kinds.Hold t d) (s.word x.0) u go)
