-- The whole invariant supplies what the join of sections asks for, step by step.
use Rattle.std.specs.Prelude.{◌*◌, ◌^◌, Bool, true, false, slice_get, All, if◌then◌else◌}
use Rattle.std.specs.List.{filter}
use Rattle.std.proofs.Common.{◌≡◌, ◌≢◌, ℕ, suc, ◌<◌, ◌≤◌, List, [], ◌∷◌, ◌++◌, length, refl, sym, ap, ◌∙◌, subst, arith, ⊎_elim, Option, Some, None}
use Rattle.std.proofs.lemmas.Option.{slice_get_within, get_or_from_slice_get}
use Rattle.std.proofs.lemmas.List.Elements.{All-get_or}
use Rattle.machine_states.specs.map_history.specs.declared.op.Request.{Request}
use Rattle.machine_states.specs.body_terms.specs.declared.micro.Micro.TheVariants as micros
use Rattle.machine_states.specs.body_terms.specs.declared.thunk.Thunk.{Thunk}
use Rattle.machine_states.specs.body_terms.specs.Word.{next_word}
use Rattle.machine_states.specs.body_terms.specs.Line.{line, micro_at, committed}
use Rattle.machine_states.specs.body_terms.specs.Memory.{cell_of}
use Rattle.machine_states.specs.body_terms.specs.Run.{source_value}
use Rattle.machine_states.specs.table_words.specs.declared.layout.Layout.{Layout}
use Rattle.machine_states.specs.table_words.specs.declared.spot.Spot.{Spot}
use Rattle.machine_states.specs.table_words.specs.declared.spot.Spot.TheVariants as spots
use Rattle.machine_states.specs.table_words.specs.declared.access.Access.{Access}
use Rattle.machine_states.specs.table_words.specs.Limits.{IsWithinLimits}
use Rattle.machine_states.specs.table_words.specs.Places.{Fits, descriptor_count}
use Rattle.machine_states.specs.structure_laws.specs.Meaning.{Meaning}
use Rattle.machine_states.specs.structure_laws.specs.Laws.{Laws}
use Rattle.machine_states.specs.structure_laws.specs.Sections.{IsAllowed}
use Rattle.machine_states.specs.runner_parts.specs.declared.event.EventKind.{EventKind}
use Rattle.machine_states.specs.runner_parts.specs.declared.event.EventKind.TheVariants as kinds
use Rattle.machine_states.specs.runner_parts.specs.declared.entries.Published.{Published}
use Rattle.machine_states.specs.runner_parts.specs.State.{RunState, PartState}
use Rattle.machine_states.specs.runner_parts.specs.Tests.{has}
use Rattle.machine_states.specs.guard_core.specs.Moves.{is_unnamed}
use Rattle.machine_states.specs.runner_steps.specs.Guards.{is_last_guard}
use Rattle.machine_states.specs.runner_steps.specs.Asks.{sizes_for, opening_ask}
use Rattle.machine_states.specs.runner_steps.specs.Asks.{asks, ask_by, line_ask}
use Rattle.machine_states.specs.runner_steps.specs.InRun.{is_slot, can_raise, fill_store_ask}
use Rattle.machine_states.specs.runner_steps.specs.Outside.{is_sure_of, hold_ask}
use Rattle.machine_states.specs.runner_steps.specs.Sections.{is_open_run, next_of, needs_link}
use Rattle.agreement_core.specs.State.{AgreementState, section_of}
use Rattle.agreement_core.specs.Events.{IsAlone, IsPrivateStore, IsPublishable}
use Rattle.machine_states.specs.epoch_core.specs.declared.location.Location.TheVariants.{Hand}
use Rattle.machine_states.specs.epoch_core.specs.Events.{slot_of}
use Rattle.machine_states.specs.epoch_core.specs.Sound.{is_for_nodes}
use Rattle.machine_states.specs.epoch_core.specs.History.{is_out}
use Rattle.machine_states.specs.Sight.{Sight}
use Rattle.machine_states.proofs.Sights.{unless_gone, some_none}
use Rattle.machine_blocks.specs.machine_guards.specs.machine_agreement.specs.machine_epochs.specs.Entries.{counts_of}
use Rattle.machine_blocks.specs.machine_guards.specs.machine_agreement.specs.machine_epochs.proofs.OutsideAsked as outside
use Rattle.machine_blocks.specs.machine_guards.specs.machine_agreement.specs.machine_epochs.proofs.RunPlaces.{open_run}
use Rattle.machine_blocks.specs.machine_guards.specs.machine_agreement.specs.machine_epochs.proofs.Places.{free_descriptor, held_out}
use Rattle.machine_blocks.specs.machine_guards.specs.machine_agreement.specs.machine_scenes.specs.Shown.{rules_of}
use Rattle.machine_blocks.specs.machine_guards.specs.machine_agreement.specs.machine_scenes.specs.Supplied.{SuppliesAgreement}
use Rattle.machine_blocks.specs.machine_guards.specs.machine_agreement.specs.machine_scenes.proofs.Supplies.{supplies_agreement}
use Rattle.machine_blocks.specs.machine_guards.specs.machine_agreement.specs.Joined.{IsRunOf, ShowsRun}
use Rattle.machine_blocks.specs.machine_guards.specs.machine_agreement.specs.Supplied as supplied
use Rattle.machine_blocks.specs.machine_guards.specs.machine_agreement.proofs.LineAsked as asked_line
use Rattle.machine_blocks.specs.machine_guards.specs.machine_agreement.proofs.RunPlaces.{run_here, before}
use Rattle.machine_slots.proofs.Locks.{locks_free}
use Rattle.machine_slots.proofs.Stores.{private_store_is}
use Rattle.machine_invariant.specs.Whole.{Beside, states_of, made_in, made_of, IsWhole}
use Rattle.machine_invariant.proofs.Basics.{not_both, by_bool, both, below_test, same_test}
use Rattle.machine_invariant.proofs.Asked.{source_same, entered_at}
use Rattle.machine_blocks.specs.machine_guards.specs.machine_agreement.specs.machine_epochs.proofs.Prepared.{thunk_is, done_is}
use Rattle.machine_invariant.proofs.Limbo.{SweepsSafely, has_filter, limbo_unlive}
use Rattle.machine_blocks.proofs.Finding.{commit_finds}

some_product : (a b n k : ℕ) → a ≤ n → b ≤ k → a * b ≤ n * k
some_product a b n k h h' = grind arith

-- every descriptor's link is a value
few_links : (l : Layout) → IsWithinLimits l → (d : ℕ) → d < descriptor_count l → suc d < 2 ^ 32
few_links l limits d few =
    let product = some_product l.sections l.runners 1024 16 limits.few_sections limits.few_runners in
    let runners = limits.few_runners in omega arith

module _ (m : Meaning) (laws : Laws m) (l : Layout) (limits : IsWithinLimits l) (rs : List Request) (few : length rs ≤ 131072)
    (allowed : All (λ (q : Request). IsAllowed q.op) rs) (g : Beside) (s : Sight) (whole : IsWhole m l g s) (r : ℕ) (kind : EventKind)
    (x : Spot × Access) (asked : asks m l rs r kind (s.part r) ≡ Some x) where
  abbrev p : PartState
  p = s.part r

  abbrev a : AgreementState
  a = g.agreement

  abbrev slot : ℕ → ℕ
  slot d = slot_of (counts_of m l) d

  abbrev supplies : SuppliesAgreement m l (counts_of m l) (states_of g s)
  supplies = supplies_agreement m laws l limits (counts_of m l) refl (states_of g s) whole.kept

  -- the runner's run
  module _ (q : RunState) (is : (s.part r).run ≡ Some q) where
    abbrev here : IsRunOf (a.run r) q
    here = run_here m l a s whole.sections r q is

    alone : (place log : ℕ) → is_open_run q ≡ true → next_of m q ≡ micros.LoadCell place log → (a.run r).at ≡ (section_of a r).edge
        → IsAlone a ((a.run r).descriptor) place
    alone place log opened next at = supplies.alone r place log
        (before m l a s whole.sections r q is (open_run q opened) (micros.LoadCell place log) refl refl next) at

    own_slot : (made : Option ℕ) (t : ℕ) → is_slot made t ≡ true → made ≡ Some t
    own_slot None t e = absurd (let no = e in cc)
    own_slot (Some u) t e = ap (λ k. Some k) (same_test u t e)

    -- a Make's store into a cell of its slot
    private_in : (t cell number : ℕ) → needs_link q (next_of m q) ≡ false → kind ≡ kinds.PrivateStore t cell number → (b : Bool) → is_open_run q ≡ b
        → IsPrivateStore (rules_of m l) a (cell_of m.fixed_cells t cell) number
    private_in t cell number near is_store false closed =
        let inside = asked_line.inside_asked m l rs r kind p q x asked is in
        some_none x (ap (λ k. opening_ask k q) (sym is_store)
        ∙ (ap (λ b. if b then line_ask m l kind p.nodes.free p.blocks.free q (next_of m q) else opening_ask kind q) (sym closed) ∙ inside))
    private_in t cell number near is_store true opened =
        let asked_store = ap (λ k. asks m l rs r k p) (sym is_store) ∙ asked in
        let fills : fill_store_ask m l t cell number q (next_of m q) ≡ Some x = ⊎_elim (λ link. not_both link.0 near) (λ fills. fills.1)
        (asked_line.run_store_asked q x m l t cell number p.blocks.free (next_of m q)
        (asked_line.line_asked m l rs r (kinds.PrivateStore t cell number) p q x asked_store is opened)) in
        let h = asked_line.fill_store_asked q x m l t cell number (next_of m q) fills in
        let mine : made_of s r ≡ Some t = ap made_in is ∙ own_slot q.made t h.3 in
        let in_hand : g.epochs.location t ≡ Hand r = (whole.slots.tied r).run_made q t is (own_slot q.made t h.3) in
        private_store_is m laws l limits (counts_of m l) refl (states_of g s) whole.kept
        (locks_free m laws l limits (counts_of m l) refl (states_of g s) whole.kept whole.held)
        (made_of s) whole.filled r cell h.0 t number h.1
        (before m l a s whole.sections r q is (open_run q opened) (micros.PrivateStore cell h.0 h.1) refl refl h.2) mine in_hand
        (whole.slots.sound.for_nodes t (ap is_for_nodes in_hand))
        (h.5 ∙ (ap (λ n. next_word n (source_value q.trail h.1)) (sym here.word) ∙ ap (next_word ((a.run r).word))
        (sym (source_same (a.run r) q here h.1))))
        (below_test _ _ (ap (can_raise l) here.word ∙ h.4))

  unused : (d : ℕ) → has p.descriptors.free d ≡ true → a.used d ≡ false
  unused d free = by_bool (a.used d) (λ used.
      not_both used (whole.tied.used d ∙ ap is_out (free_descriptor m l g.epochs s whole.slots r d (whole.tied.within d used) free)))

  live : (y : Published) → p.published ≡ Some y → a.live y.descriptor ≡ true
  live y is = whole.tied.is_live y.descriptor ((whole.slots.tied r).published y is)

  used : (d : ℕ) → is_sure_of p.guards d ≡ true → a.used d ≡ true
  used d sure = whole.tied.used d ∙ held_out m l g.epochs s whole.slots r (slot d) ((whole.slots.tied r).sure d sure)

  pub request_allowed : (n : ℕ) (q : Request) → slice_get rs n ≡ Some q → IsAllowed q.op
  request_allowed n q is = subst (λ (q : Request). IsAllowed q.op) (get_or_from_slice_get rs n q q is)
      (All-get_or (λ (q : Request). IsAllowed q.op) rs n q (slice_get_within rs n q is) allowed)

  -- what a Hold asks for may be published
  pub hold_publishable : (t : Thunk) (d : ℕ) → hold_ask m l rs r t d p ≡ Some x
      → IsPublishable (rules_of m l) d t.lock t.word (micro_at (line (m.body t))) (committed (line (m.body t)))
  hold_publishable t d e =
      let h = outside.hold_asked m l rs r t d p x e in
      supplies.publishable r d h.request.op t (entered_at m l g.epochs s whole.slots r h.entry h.entered)
      (request_allowed t.request h.request h.of_request) h.serves
      h.unheld h.unspent (few_links l limits d h.few)

  -- a section that is published now
  pub publishes : (t : Thunk) (d : ℕ) → kind ≡ kinds.Hold t d → p.run ≡ None → supplied.MayPublish m l a s r t d
  publishes t d is none =
      let e = unless_gone (sizes_for m l rs) p.gone (ask_by m l rs r kind p p.run) x asked in
      let holds : hold_ask m l rs r t d p ≡ Some x =
      ap (λ k. ask_by m l rs r k p None) (sym is) ∙ (ap (ask_by m l rs r kind p) (sym none) ∙ e.1) in
      let h = outside.hold_asked m l rs r t d p x holds in
      let request = slice_get_within rs t.request h.request h.of_request in
      let lock : Fits (sizes_for m l rs) (spots.Cell t.lock) = subst (λ (y : Spot × Access). Fits (sizes_for m l rs) y.0) (sym h.is) e.2 in
      record {
        words = thunk_is m l g.epochs s whole.slots r t d h.free h.prepared h.eight (omega arith) (few_places t.lock lock);
        undone = done_is m l g.epochs s whole.slots r t d h.free h.prepared;
        publishable = hold_publishable t d holds;
      }
    where
      few_places : (lock : ℕ) → lock < (sizes_for m l rs).cells → lock < 2 ^ 32
      few_places lock inside = let nodes = limits.few_nodes in let runners = limits.few_runners in let few_cells = laws.first.few_cells in
          let few_slots = laws.first.few_slots in omega (arith, inside, nodes, runners, few_cells, few_slots)

  -- a descriptor that leaves limbo, of which nobody is sure
  module _ (swept : SweepsSafely l s r kind (s.word x.0)) where
    idle : (n d : ℕ) → kind ≡ kinds.LoadGuard n → is_last_guard l p.guards.looked ≡ true
        → has (filter (is_unnamed (p.guards.looked ++ s.word x.0 ∷ [])) p.descriptors.limbo) d ≡ true → supplied.IsIdle a d
    idle n d is last leaves = record { retired = by_bool (a.live d) retired; unrun = unrun }
      where
        left : (has p.descriptors.limbo d ≡ true) × (is_unnamed (p.guards.looked ++ s.word x.0 ∷ []) d ≡ true)
        left = both (has p.descriptors.limbo d) _
            (sym (has_filter (is_unnamed (p.guards.looked ++ s.word x.0 ∷ [])) p.descriptors.limbo d) ∙ leaves)

        retired : a.live d ≡ true → ⊥
        retired live = limbo_unlive m l g.epochs s whole.slots r d (whole.tied.within d (whole.sections.sound.live_used d live)) left.0
            (whole.tied.live d live)

        sure_by : (i : ℕ) (run : Option RunState) → (s.part i).run ≡ run → (a.run i).running ≡ true → (a.run i).descriptor ≡ d
            → is_sure_of (s.part i).guards d ≡ true
        sure_by i None at running same = not_both running (subst (ShowsRun (a.run i)) at (whole.sections.tied i).run)
        sure_by i (Some q) at running same =
            let shown = subst (ShowsRun (a.run i)) at (whole.sections.tied i).run in
            subst (λ k. is_sure_of (s.part i).guards k ≡ true) (sym shown.descriptor ∙ same) ((whole.slots.tied i).run_sure q at)

        unrun : (i : ℕ) → (a.run i).running ≡ true → (a.run i).descriptor ≢ d
        unrun i running same = not_both (sure_by i (s.part i).run refl running same) (swept n d i is last left.0 left.1)

    -- all of it
    pub sections_supplied : supplied.AgreementIsSupplied m l a s r kind (s.word x.0)
    sections_supplied = record {
      alone = λ q place log is opened next at undone. alone q is place log opened next at;
      logged = λ q k is opened commits near. sym (commit_finds m l rs whole.logs.chain a g.epochs s whole.slots whole.logs.stands r kind x asked q is opened k commits near);
      private = λ q t cell number is near is_store. private_in q is t cell number near is_store (is_open_run q) refl;
      unused = unused;
      live = live;
      used = λ d is sure. used d sure;
      publishes = λ t d is none same. publishes t d is none;
      idle = idle;
    }
