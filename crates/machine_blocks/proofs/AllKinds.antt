-- Every kind of step keeps where the logs stand.
use Rattle.std.specs.Prelude.{◌==◌, ◌-◌, ◌^◌, ◌&&◌, ◌||◌, ◌⊎◌, not, nat_lt, nat_le, cond, Bool, true, false, if◌then◌else◌}
use Rattle.std.proofs.Common.{◌≡◌, ◌≢◌, inl, inr, ℕ, suc, ◌+◌, ◌<◌, ◌≤◌, List, [], ◌∷◌, ◌++◌, refl, sym, ap, ◌∙◌, subst, ⊎_elim, arith, Option, Some, None}
use Rattle.std.proofs.lemmas.Bool.{and_parts}
use Rattle.machine_states.specs.epoch_core.specs.small_lemmas.proofs.Bools.{not_both}
use Rattle.machine_states.specs.epoch_core.specs.small_lemmas.proofs.Numbers.{tested_equal, tested_other, other_tested, tested_some}
use Rattle.machine_states.specs.map_history.specs.declared.op.Request.{Request}
use Rattle.machine_states.specs.body_terms.specs.declared.micro.Micro.{Micro}
use Rattle.machine_states.specs.body_terms.specs.declared.micro.Micro.TheVariants as micros
use Rattle.machine_states.specs.body_terms.specs.declared.thunk.Thunk.{Thunk}
use Rattle.machine_states.specs.body_terms.specs.Line.{line, micro_at, committed}
use Rattle.machine_states.specs.body_terms.specs.Memory.{cell_of}
use Rattle.block_words.specs.Blocks.{log_spot}
use Rattle.machine_states.specs.body_terms.specs.Run.{written_once}
use Rattle.machine_states.specs.body_terms.specs.Word.{value_of, is_free}
use Rattle.machine_states.specs.table_words.specs.declared.layout.Layout.{Layout}
use Rattle.machine_states.specs.table_words.specs.declared.spot.Spot.{Spot}
use Rattle.machine_states.specs.table_words.specs.declared.spot.Spot.TheVariants.{Cell, ThunkWord, DoneWord, LogWord}
use Rattle.machine_states.specs.table_words.specs.declared.access.Access.{Access}
use Rattle.machine_states.specs.table_words.specs.declared.access.Access.TheVariants.{Stores, Exchanges}
use Rattle.machine_states.specs.table_words.specs.Access.{written}
use Rattle.machine_states.specs.table_words.specs.Places.{Fits, part_words, block_words, block_count, slot_count}
use Rattle.machine_states.specs.table_words.specs.Seen.{put, upd}
use Rattle.machine_states.specs.structure_laws.specs.Meaning.{Meaning}
use Rattle.machine_states.specs.runner_parts.specs.declared.event.EventKind.{EventKind}
use Rattle.machine_states.specs.runner_parts.specs.declared.event.EventKind.TheVariants as kinds
use Rattle.machine_states.specs.runner_parts.specs.Lists.{descriptor_taken, blocks_given_back, cell_read, published_seen, named_seen}
use Rattle.machine_states.specs.runner_parts.specs.State.{RunState, GuardsState, PartState}
use Rattle.machine_states.specs.runner_parts.specs.Tests.{has, is_some_of, is_resting, thunk_words}
use Rattle.machine_states.specs.runner_steps.specs.After.{noted, leaves as leaves_part, knows_also, after, after_by, outside_after, line_after}
use Rattle.machine_states.specs.runner_steps.specs.AfterInRun.{opened_more, emptied_more, block_emptied, filled}
use Rattle.machine_states.specs.runner_steps.specs.AfterOutside.{published_by}
use Rattle.machine_states.specs.runner_steps.specs.Asks.{outside_ask, line_ask, opening_ask, ask_by, sizes_for}
use Rattle.machine_states.specs.runner_steps.specs.Blocks.{blocks_after}
use Rattle.machine_states.specs.runner_steps.specs.Board.{board_after}
use Rattle.machine_states.specs.runner_steps.specs.InRun.{make_slot, is_slot, fill_store_ask, block_empty_ask}
use Rattle.machine_states.specs.runner_steps.specs.Outside.{Ask, when, is_sure_of, block_spot, blocks_from, descriptor_spot}
use Rattle.machine_states.specs.runner_steps.specs.Sections.{is_open_run, line_of, next_of, commits_to, is_beyond, needs_link}
use Rattle.agreement_core.specs.State.{AgreementState}
use Rattle.agreement_core.specs.Events as agreement
use Rattle.machine_states.specs.epoch_core.specs.Schedules as epoch_schedules
use Rattle.machine_states.specs.epoch_core.specs.declared.location.Location.TheVariants.{Live}
use Rattle.machine_states.specs.epoch_core.specs.Lists.{times}
use Rattle.machine_states.specs.epoch_core.specs.Update.{upd2}
use Rattle.machine_states.specs.epoch_core.specs.State.{Retiring, EpochState}
use Rattle.machine_states.specs.epoch_core.specs.Events as epochs
use Rattle.machine_states.specs.epoch_core.specs.Events.{slot_of}
use Rattle.machine_states.specs.World.{is_join}
use Rattle.machine_states.specs.Sight.{Sight, sight_after, Steps}
use Rattle.machine_states.proofs.Sights.{unless_gone, some_none, cond_none, if_some}
use Rattle.machine_states.proofs.Steps.{some_same}
use Rattle.machine_states.proofs.Updates.{map_same, upd_split}
use Rattle.machine_guards.specs.machine_agreement.specs.machine_epochs.specs.Chunks as slots
use Rattle.machine_guards.specs.machine_agreement.specs.machine_epochs.specs.Entries.{counts_of}
use Rattle.machine_guards.specs.machine_agreement.specs.machine_epochs.specs.Firsts.{owner_of}
use Rattle.machine_guards.specs.machine_agreement.specs.machine_epochs.specs.Joined.{IsJoinedToEpochs}
use Rattle.machine_guards.specs.machine_agreement.specs.machine_epochs.specs.Slots.{retire_before, retiring_of}
use Rattle.machine_guards.specs.machine_agreement.specs.machine_epochs.proofs.OutsideAsked as outside_asked
use Rattle.machine_guards.specs.machine_agreement.specs.machine_epochs.proofs.Places.{spot_by}
use Rattle.machine_guards.specs.machine_agreement.specs.machine_epochs.proofs.Prepared.{log_is, link_is}
use Rattle.machine_guards.specs.machine_agreement.specs.machine_epochs.proofs.RunPlaces.{next_in_line}
use Rattle.machine_guards.specs.machine_agreement.specs.machine_epochs.proofs.SlotKinds.{last_has}
use Rattle.machine_guards.specs.machine_agreement.specs.Chunks as sections
use Rattle.machine_guards.specs.machine_agreement.specs.Joined.{IsRunOf, IsJoinedToAgreement}
use Rattle.machine_guards.specs.machine_agreement.proofs.LineAsked as asked_line
use Rattle.machine_guards.specs.machine_agreement.proofs.RunPlaces.{run_here}
use Rattle.machine_guards.specs.Chunks.{linked_more, chain_after}
use Rattle.machine_guards.specs.Goes.{OthersGo}
use Rattle.machine_guards.specs.State.{place_of, hand_of}
use Rattle.machine_guards.specs.Stands.{times_held, GuardsStand}
use Rattle.machine_guards.specs.Supplied.{GuardsAreSupplied}
use Rattle.machine_guards.proofs.Lists.{times_has}
use Rattle.machine_guards.proofs.Places.{AllAre}
use Rattle.machine_guards.proofs.Safe.{sure_kept}
use Rattle.machine_guards.proofs.Views.{is_guarding, is_release, is_linking}
use Rattle.machine_blocks.specs.Stands.{LogsStand}
use Rattle.machine_blocks.proofs.Events.{logs_of, leaves_logs, leaves_log, published_logs, stored_logs, logs_same, logs_behind, log_same}
use Rattle.machine_blocks.proofs.Chunks.{is_commit, is_writing, not_store, inside_logs, outside_logs, inside_log, outside_log}
use Rattle.machine_blocks.proofs.Words.{LogWordsStay, off, inside_words, outside_words}
use Rattle.machine_blocks.proofs.Asked as asked
use Rattle.machine_blocks.proofs.Seen.{Seen, seen, seen_in, run_seen, inside_seen, released_seen, quiet_seen, inside_guards, quiet_guards}
use Rattle.machine_blocks.proofs.Apart as apart
use Rattle.machine_blocks.proofs.Apart.{IsHeld}
use Rattle.machine_blocks.proofs.Keeping as keeping
use Rattle.machine_blocks.proofs.Keeping.{Fine, fine, begins_fine}
use Rattle.machine_blocks.proofs.Steps as steps
use Rattle.machine_blocks.proofs.Steps.{in_hand}

-- what a runner is sure of that has read this lock's word
sure_more : (g : GuardsState) (lock free : Bool) (n d : ℕ) → is_sure_of (if lock && not free then published_seen g n else g) d ≡ true
    → (is_sure_of g d ≡ true) ⊎ ((lock ≡ true) × (free ≡ false) × (n ≡ d))
sure_more g false free n d e = inl e
sure_more g true true n d e = inl e
sure_more g true false n d e = by g.sure g.named e
  where
    by : (b : Bool) (o : Option ℕ) → ((b || is_some_of o n) && is_some_of o d) ≡ true → ((b && is_some_of o d) ≡ true) ⊎ ((true ≡ true) × (false ≡ false) × (n ≡ d))
    by true o e = inl e
    by false None e = absurd (let y = e in cc)
    by false (Some c) e = let both = and_parts (c == n) (c == d) e in inr (refl, refl, sym (tested_equal c n both.0) ∙ tested_equal c d both.1)

-- and who publishes a section is sure of no other descriptor
sure_there : (g : GuardsState) (n d : ℕ) → g.named ≡ Some n → is_sure_of (published_seen g n) d ≡ true → d ≡ n
sure_there g n d named e =
    let own = (and_parts (g.sure || is_some_of g.named n) (is_some_of g.named d) e).1 in
    sym (tested_equal n d (ap (λ (o : Option ℕ). is_some_of o d) (sym named) ∙ own))

-- the descriptor of a word that isn't free
named_value : (n : ℕ) → (n == 0) ≡ false → n ≡ suc (n - 1)
named_value n some = let more = tested_some n some in omega (arith, more)

more : (n : ℕ) → suc n ≡ n + 1
more n = omega arith

-- what a private store asks outside a run: a word of a descriptor, or of a block
abbrev pub private_ask : Meaning → Layout → ℕ → ℕ → ℕ → PartState → Bool → Ask
private_ask m l slot word number p b = let slots = slot_count l m.fixed_slots in let blocks = blocks_from m l in
    if b
    then when (nat_le slots slot && (is_resting p.stage p.run && has p.descriptors.free (slot - slots))) (descriptor_spot (slot - slots) word) (Stores number)
    else when (is_resting p.stage p.run && (has p.blocks.free (slot - blocks) && number == 0)) (block_spot (slot - blocks) word) (Stores number)

module _ (m : Meaning) (l : Layout) (rs : List Request) (chain : ℕ → List ℕ) (a a' : AgreementState) (e e' : EpochState) (s : Sight) (of_sections : IsJoinedToAgreement m l a s)
    (joined : IsJoinedToEpochs m l e s) (stands : GuardsStand m l chain a e s) (old : LogsStand chain a e s) (r : ℕ) (x : Spot × Access) (kind : EventKind)
    (go : OthersGo m l a a' e e' s r kind (s.word x.0)) (guarded : GuardsAreSupplied m l chain a e s r kind (s.word x.0)) (small : block_count l ≤ 2 ^ 32) where
  abbrev p : PartState
  p = s.part r

  abbrev found : ℕ
  found = s.word x.0

  abbrev Held : ℕ → Type 0
  Held = IsHeld m l chain a e s stands

  -- the step leaves this part and these chains
  abbrev To : (ℕ → List ℕ) → PartState → Type 0
  To chain' p' = steps.Stand m l chain chain' a a' e e' s stands old joined r kind x go p'

  -- a descriptor that is free is one of which nobody is sure
  free_unheld : (d n : ℕ) → Held d → has p.descriptors.free n ≡ true → d ≢ n
  free_unheld d n held free same =
      let none = sure_kept m l chain a e s joined stands held.0 r d held.1 in
      let some = times_has p.descriptors.free d (ap (has p.descriptors.free) same ∙ free) in omega (arith, none, some)

  -- in a run
  module _ (q : RunState) (at : p.run ≡ Some q) where
    abbrev next : Micro
    next = next_of m q

    abbrev n : ℕ
    n = q.descriptor

    abbrev run : IsRunOf (a.run r) q
    run = run_here m l a s of_sections r q at

    abbrev behind : Bool → PartState
    behind b = cond b (line_after m l kind p q next found) (opened_more p q found)

    abbrev whole : Bool → PartState
    whole b = record (behind b) { blocks = blocks_after m l kind p (Some q) found; board = board_after kind p.board found; records = noted l r kind x.0 x.1 found (behind b).records }

    heads_in : (b : Bool) → is_open_run q ≡ b → sections.IsInsideChunk m l a r b kind p q found go.heads
    heads_in b opened = subst (λ c. sections.IsInsideChunk m l a r c kind p q found go.heads) opened
        (subst (λ o. sections.IsChunk m l a r kind p o found go.heads) at go.in_sections)

    tails_in : (b : Bool) → is_open_run q ≡ b → slots.IsInsideChunk m l r b kind p q found go.tails
    tails_in b opened = subst (λ c. slots.IsInsideChunk m l r c kind p q found go.tails) opened
        (subst (λ o. slots.IsChunk m l r kind p o found go.tails) at go.in_slots)

    held_in : (b : Bool) (d : ℕ) → is_sure_of (whole b).guards d ≡ true → Held d
    held_in b d is = (r, ap (λ (g : GuardsState). is_sure_of g d) (sym (inside_guards m l p q found kind b)) ∙ is)

    -- the run goes on as it was, or is over
    as_before : (v : Seen) → v ≡ seen q → Fine chain s.word v
    as_before v is = subst (Fine chain s.word) (sym is) (fine chain a e s old r (seen q) (ap seen_in at))

    same_seen : (u v : Seen) → Some u ≡ Some v → v ≡ u
    same_seen u v e = cc

    goes_on : (b : Bool) → is_open_run q ≡ b → is_commit kind ≡ false → is_linking kind ≡ false → ((v : Seen) → seen_in (behind b).run ≡ Some v → v ≡ seen q)
        → (if b then line_ask m l kind p.nodes.free p.blocks.free q next else opening_ask kind q) ≡ Some x → To chain (whole b)
    goes_on b opened k link run_is ask = steps.leaves m l chain chain a a' e e' s stands old joined r kind x go (whole b) (held_in b)
        (inside_logs m l a r kind p q found go.heads b k (heads_in b opened)) (inside_log m l r kind p q found go.tails b k (tails_in b opened))
        (λ d. refl) (inside_words s.word m l q x kind p.nodes.free p.blocks.free b k link ask) (λ v is. as_before v (run_is v is))

    quiet : (b : Bool) → is_open_run q ≡ b → is_commit kind ≡ false → is_linking kind ≡ false → is_release kind ≡ false
        → (if b then line_ask m l kind p.nodes.free p.blocks.free q next else opening_ask kind q) ≡ Some x → To chain (whole b)
    quiet b opened k link release ask = goes_on b opened k link (λ v is. same_seen (seen q) v (sym (inside_seen m l p q at found kind b release link) ∙ is)) ask

    -- a commit, by one event of each component
    module _ (release : is_release kind ≡ false) (link : is_linking kind ≡ false) where
      commits : (k proposal : ℕ) → is_beyond q (Some k) ≡ false → (log_spot n q.links k, Exchanges 0 proposal) ≡ x
          → (head : agreement.Event) (i : ℕ) → go.heads ≡ head ∷ [] → agreement.after a head ≡ agreement.agrees a r k i → i ≡ proposal
          → (tail : epochs.Event) (i' : ℕ) → go.tails ≡ tail ∷ []
          → ((d j : ℕ) → (epochs.after (counts_of m l) e tail).log d j ≡ upd2 e.log n k (written_once (e.log n k) i') d j) → i' ≡ proposal → To chain (whole true)
      commits k proposal near is = steps.commits m l chain chain a a' e e' s stands old joined r kind x go (whole true) q at k proposal near is (λ d. refl) (held_in true)
          (inside_seen m l p q at found kind true release link) run

      -- of the number by which the run goes
      carried : (micro : Micro) (k : ℕ) → next ≡ micro → commits_to micro ≡ Some k → (head : agreement.Event) → go.heads ≡ head ∷ []
          → agreement.after a head ≡ agreement.agrees a r k ((a.run r).word)
          → (k' : ℕ) → commits_to next ≡ Some k' → go.tails ≡ epochs.WordCommit r n k' q.word ∷ []
          → (k'' : ℕ) → commits_to next ≡ Some k'' → is_beyond q (Some k'') ≡ false → (log_spot n q.links k'', Exchanges 0 q.word) ≡ x → To chain (whole true)
      carried micro k is here head is_head agrees k' here' is_tail k'' here'' near is_word =
          let mine : commits_to next ≡ Some k = ap commits_to is ∙ here in
          let same' : k' ≡ k = some_same k' k (sym here' ∙ mine) in
          let same'' : k'' ≡ k = some_same k'' k (sym here'' ∙ mine) in
          commits k q.word (ap (λ c. is_beyond q (Some c)) (sym same'') ∙ near) (ap (λ c. (log_spot n q.links c, Exchanges 0 q.word)) (sym same'') ∙ is_word) head ((a.run r).word) is_head agrees run.word
          (epochs.WordCommit r n k q.word) q.word (is_tail ∙ ap (λ c. epochs.WordCommit r n c q.word ∷ []) same') (λ d j. refl) refl

      word_or_lock : (place k : ℕ) → (next ≡ micros.Commit place k) ⊎ (next ≡ micros.NestedCommit place k) → commits_to next ≡ Some k
      word_or_lock place k step = ⊎_elim (λ word. ap commits_to word) (λ lock. ap commits_to lock) step

      abbrev InSections : EventKind → Type 0
      InSections k = sections.IsLineChunk m l a r k p q found go.heads

      abbrev InSlots : EventKind → Type 0
      InSlots k = slots.IsLineChunk m l r k p q next found go.tails

      abbrev Asked : EventKind → Type 0
      Asked k = line_ask m l k p.nodes.free p.blocks.free q next ≡ Some x

      commit : InSections kinds.Commit → InSlots kinds.Commit → Asked kinds.Commit → To chain (whole true)
      commit heads tails ask =
          let h = asked.commit_asked q x next ask in
          let at_word = word_or_lock h.step.0 h.log h.step.1 in
          let at_slot = word_or_lock tails.0 tails.1 tails.2 in
          ⊎_elim
          (λ word. carried (micros.Commit heads.0 heads.1) heads.1 word.0 refl (agreement.Commit r heads.0 heads.1) word.1 refl tails.1 at_slot tails.3 h.log at_word h.near h.is)
          (λ lock. carried (micros.NestedCommit heads.0 heads.1) heads.1 lock.0 refl (agreement.NestedCommit r heads.0 heads.1) lock.1 refl tails.1 at_slot tails.3 h.log at_word h.near h.is)
          heads.2

      outcome_commit : InSections kinds.OutcomeCommit → InSlots kinds.OutcomeCommit → Asked kinds.OutcomeCommit → To chain (whole true)
      outcome_commit heads tails ask =
          let h = asked.outcome_commit_asked q x next ask in
          carried (micros.OutcomeCommit heads.0 heads.1) heads.1 heads.2 refl (agreement.OutcomeCommit r heads.0 heads.1) heads.3 refl
          tails.1 (ap commits_to tails.2) tails.3 h.log (ap commits_to h.step.1) h.near h.is

      -- of a Make's slot
      make_commit : InSections kinds.MakeCommit → InSlots kinds.MakeCommit → Asked kinds.MakeCommit → To chain (whole true)
      make_commit heads tails ask =
          let h = asked.make_commit_asked q x next ask in
          let k = heads.0 in
          let slot = heads.1 in
          let mine : commits_to next ≡ Some k = ap commits_to heads.2 in
          let at_word : h.2.log ≡ k = some_same h.2.log k (sym (ap commits_to h.2.step) ∙ mine) in
          let at_slot : tails.0 ≡ k = some_same tails.0 k (sym (ap commits_to tails.2) ∙ mine) in
          let slot_word : h.0 ≡ slot = some_same h.0 slot (sym h.1 ∙ heads.3) in
          let slot_slot : tails.1 ≡ slot = some_same tails.1 slot (sym tails.3 ∙ heads.3) in
          let is : (log_spot n q.links k, Exchanges 0 (slot + 1)) ≡ x = ap (λ c. (log_spot n q.links c, Exchanges 0 (slot + 1))) (sym at_word)
          ∙ (ap (λ c. (log_spot n q.links h.2.log, Exchanges 0 (c + 1))) (sym slot_word) ∙ h.2.is) in
          commits k (slot + 1) (ap (λ c. is_beyond q (Some c)) (sym at_word) ∙ h.2.near) is (agreement.MakeCommit r k (suc slot)) (suc slot) heads.4 refl (more slot)
          (epochs.MakeCommit r n k slot q.worn) (suc slot)
          (tails.4 ∙ (ap (λ c. epochs.MakeCommit r n c tails.1 q.worn ∷ []) at_slot ∙ ap (λ c. epochs.MakeCommit r n k c q.worn ∷ []) slot_slot)) (λ d j. refl) (more slot)

      -- of a Retire's slot
      retire_commit : InSections kinds.RetireCommit → InSlots kinds.RetireCommit → Asked kinds.RetireCommit → To chain (whole true)
      retire_commit heads tails ask =
          let h = asked.retire_commit_asked q x next ask in
          let slot = heads.0 in
          let k = heads.1 in
          let same = retired_slot h.0 slot h.1.log k (sym h.1.step ∙ heads.2) in
          let is : (log_spot n q.links k, Exchanges 0 (slot + 1)) ≡ x = ap (λ c. (log_spot n q.links c, Exchanges 0 (slot + 1))) (sym same.1)
          ∙ (ap (λ c. (log_spot n q.links h.1.log, Exchanges 0 (c + 1))) (sym same.0) ∙ h.1.is) in
          let here : micro_at (line_of m q) q.at ≡ micros.RetireCommit slot k = next_in_line m q (micros.RetireCommit slot k) refl heads.2 in
          let is_now : e.retire r ≡ record { loaded = true; descriptor = n; index = k; slot = slot; epoch = q.word } =
          (joined.tied r).retire ∙ (ap (retiring_of m) at ∙ ap (retire_before q) here) in
          commits k (slot + 1) (ap (λ c. is_beyond q (Some c)) (sym same.1) ∙ h.1.near) is (agreement.RetireCommit r slot k) (suc slot) heads.3 refl (more slot)
          (epochs.RetireCommit r) (suc slot) tails.3
          (λ d j. ap (λ (y : Retiring). upd2 e.log y.descriptor y.index (written_once (e.log y.descriptor y.index) (suc y.slot)) d j) is_now) (more slot)
        where
          retired_slot : (t t' k k' : ℕ) → micros.RetireCommit t k ≡ micros.RetireCommit t' k' → (t ≡ t') × (k ≡ k')
          retired_slot t t' k k' e = (cc, cc)

    -- a step that is no event of the components
    no_heads : go.heads ≡ [] → AllAre leaves_logs go.heads
    no_heads is = subst (AllAre leaves_logs) (sym is) tt

    no_tails : go.tails ≡ [] → AllAre leaves_log go.tails
    no_tails is = subst (AllAre leaves_log) (sym is) tt

    -- a word of a block is made 0, to link it
    module _ (slot word number : ℕ) (opened : is_open_run q ≡ true) (heads : go.heads ≡ []) (tails : go.tails ≡ [])
        (run_is : (v : Seen) → seen_in (whole true).run ≡ Some v → v ≡ record { descriptor = n; links = q.links; block = Some (slot - blocks_from m l); emptied = emptied_more q }) where
      abbrev c : ℕ
      c = slot - blocks_from m l

      empties : asked.EmptyAsked q x m l slot word number p.blocks.free → To chain (whole true)
      empties h = steps.clears m l chain chain a a' e e' s stands old joined r kind x go (whole true) (held_in true) (no_heads heads) (no_tails tails) c q.emptied (λ d. refl) is some here
        where
          is : (block_spot c q.emptied, Stores 0) ≡ x
          is = ap (λ i. (block_spot c i, Stores 0)) (sym h.next) ∙ (ap (λ i. (block_spot c word, Stores i)) (sym h.none) ∙ h.is)

          same_block : (i j : ℕ) → (i == j) ≡ true → Some i ≡ Some j
          same_block i j same = ap (λ (k : ℕ). Some k) (tested_equal i j same)

          by_hand : (o : Option ℕ) → q.block ≡ o → is_slot (make_slot o p.blocks.free) c ≡ true
              → (1 ≤ times c p.blocks.free + times_held (hand_of p.run) c) × ((o ≡ None) ⊎ (o ≡ Some c))
          by_hand None held test = (let some = times_has p.blocks.free c (last_has p.blocks.free c test) in omega (arith, some), inl refl)
          by_hand (Some i) held test = (in_hand (times c p.blocks.free) c (hand_of p.run) (ap hand_of at ∙ (held ∙ same_block i c test)), inr (same_block i c test))

          own : (1 ≤ times c p.blocks.free + times_held (hand_of p.run) c) × ((q.block ≡ None) ⊎ (q.block ≡ Some c))
          own = by_hand q.block refl h.block

          some : 1 ≤ times c p.blocks.free + times_held (hand_of p.run) c
          some = own.0

          here : (v : Seen) → seen_in (whole true).run ≡ Some v → Fine chain (put s.word x.0 (written x.1 found)) v
          here v seen_at = subst (Fine chain (put s.word x.0 (written x.1 found))) (sym (run_is v seen_at))
              (steps.empties m l chain chain a a' e e' s stands old joined r kind x go (whole true) q at c q.block refl own.1 (subst (λ i. i < block_words) h.next h.few) is)

    -- a link is exchanged
    module _ (b : ℕ) (heads : go.heads ≡ []) (tails : go.tails ≡ [])
        (run_is : (v : Seen) → seen_in (whole true).run ≡ Some v
        → v ≡ record { descriptor = n; links = q.links ++ value_of (written_once found (b + 1) - 1) ∷ []; block = None; emptied = 0 }) where
      links : asked.LinkAsked q x l b next → (won : Bool) → (found == 0) ≡ won → To (if won then upd chain n (chain n ++ b ∷ []) else chain) (whole true)
      links h true none = steps.wins m l chain (upd chain n (chain n ++ b ∷ [])) a a' e e' s stands old joined r kind x go (whole true) q at b h.is h.block (no_heads heads) (no_tails tails) (held_in true) h.few small
          (tested_equal found 0 none) h.whole (λ d. refl) run_is
      links h false some = steps.loses m l chain chain a a' e e' s stands old joined r kind x go (whole true) q at b h.is h.block (no_heads heads) (no_tails tails) (held_in true) h.few small
          (tested_other found 0 some) (λ d. refl) run_is

  -- outside a run
  module _ (none : p.run ≡ None) where
    abbrev part_of : PartState → PartState
    part_of p' = record p' { blocks = blocks_after m l kind p None found; board = board_after kind p.board found; records = noted l r kind x.0 x.1 found p'.records }

    abbrev out : PartState
    out = part_of (outside_after m l kind p found)

    heads_out : sections.IsOutsideChunk m l a r kind p found go.heads
    heads_out = subst (λ o. sections.IsChunk m l a r kind p o found go.heads) none go.in_sections

    tails_out : slots.IsOutsideChunk m l r kind p found go.tails
    tails_out = subst (λ o. slots.IsChunk m l r kind p o found go.tails) none go.in_slots

    no_run_seen : (o : Option RunState) → o ≡ None → (v : Seen) → seen_in o ≡ Some v → Fine chain s.word v
    no_run_seen o is v seen_at = absurd (let y = sym (ap seen_in is) ∙ seen_at in cc)

    -- a step that leaves the logs and this part, by which the runner is sure of what somebody was sure of, and in no run or in one that begins
    leaves : (q : PartState) → is_writing kind ≡ false → outside_ask m l rs r kind p ≡ Some x → ((d : ℕ) → is_sure_of q.guards d ≡ true → Held d)
        → ((v : Seen) → seen_in q.run ≡ Some v → Fine chain s.word v) → To chain q
    leaves q k ask held here = steps.leaves m l chain chain a a' e e' s stands old joined r kind x go q held
        (outside_logs m l a r kind p found go.heads k heads_out) (outside_log m l r kind p found go.tails k tails_out) (λ d. refl)
        (outside_words s.word m l rs r p x kind (not_store kind k) ask) here

    quiet_out : is_writing kind ≡ false → is_guarding kind ≡ false → outside_ask m l rs r kind p ≡ Some x → To chain out
    quiet_out k guarding ask = leaves out k ask
        (steps.same_held m l chain chain a a' e e' s stands old joined r kind x go (outside_after m l kind p found) (quiet_guards m l rs r p found x kind guarding ask))
        (no_run_seen (outside_after m l kind p found).run (quiet_seen m l rs r p found x kind none guarding ask))

    -- a lock's word was read, by which the runner is sure of a descriptor that is live: then its publisher is sure of it
    reads : (place : ℕ) → kind ≡ kinds.LoadCell (Some place) → (d : ℕ) → is_sure_of (named_seen p.guards (m.is_lock place) found) d ≡ true → Held d
    reads place is d sure = ⊎_elim (λ was. (r, was)) (λ new. live new.0 new.1 new.2)
        (sure_more p.guards (m.is_lock place) (is_free found) (value_of found - 1) d sure)
      where
        live : m.is_lock place ≡ true → is_free found ≡ false → value_of found - 1 ≡ d → Held d
        live lock held same =
            let value : value_of found ≡ suc d = named_value (value_of found) held ∙ ap suc same in
            let there : e.location (slot_of (counts_of m l) d) ≡ Live = guarded.live place d is lock value in
            let owner = owner_of l.sections l.runners d in
            (owner, apart.is_sure m l chain a e s stands owner d (stands.sound.owner owner d (ap (place_of l d) there)))

    -- a section is published
    module _ (q : PartState) (t : Thunk) (n : ℕ) (h : outside_asked.HoldAsked m l rs t n p x) where
      publishes : go.heads ≡ agreement.Read t.lock ∷ sections.publication m n t ∷ []
          → go.tails ≡ epochs.Publish r n (slots.roles_of m (thunk_words t)) ∷ [] → ((d : ℕ) → is_sure_of q.guards d ≡ true → d ≡ n) → q.run ≡ p.run
          → LogWordsStay s.word x → To (upd chain n []) q
      publishes heads tails only same_run words = keeping.published m l chain (upd chain n []) a a' e e' s (record { word = put s.word x.0 (written x.1 found); part = upd s.part r q }) stands old n
          (steps.own_runs m l chain (upd chain n []) a a' e e' s stands old joined r kind x go q
          (λ v seen_at. absurd (let y = sym (ap seen_in (same_run ∙ none)) ∙ seen_at in cc))
          (λ i v ne seen_at. keeping.fine_kept chain (upd chain n []) s.word (put s.word x.0 (written x.1 found)) v
          (ap (λ b. cond b [] (chain v.descriptor)) (other_tested v.descriptor n (run_other i v seen_at)))
          (λ b j held' none'. words (block_spot b j) (keeping.block_of_log b j) ∙ none') (fine chain a e s old i v seen_at)))
          (λ i d. held_by i d) (λ d held. free_unheld d n held h.free)
          logs_now log_now (λ d. refl) words (log_is m l e s joined r t n h.free h.prepared) (link_is m l e s joined r t n h.free h.prepared)
        where
          logs_now : (d k : ℕ) → logs_of a' d k ≡ cond (d == n) 0 (logs_of a d k)
          logs_now d k = logs_behind m l a a' r go.heads go.leads (agreement.Read t.lock) (sections.publication m n t) heads d k
              ∙ published_logs (agreement.after a (agreement.Read t.lock)) n t.lock t.word t.request (micro_at (line (m.body t))) (committed (line (m.body t))) d k

          log_now : (d k : ℕ) → e'.log d k ≡ cond (d == n) 0 (e.log d k)
          log_now d k = ap (λ (w : EpochState). w.log d k) (sym go.there ∙ ap (epoch_schedules.after_all (counts_of m l) e) tails)

          run_other : (i : ℕ) (v : Seen) → seen_in (s.part i).run ≡ Some v → v.descriptor ≢ n
          run_other i v seen_at = let run = run_seen (s.part i).run v seen_at in
              free_unheld v.descriptor n (i, ap (λ (u : Seen). is_sure_of (s.part i).guards u.descriptor) (sym run.2) ∙ (joined.tied i).run_sure run.0 run.1) h.free

          held_by : (i d : ℕ) → is_sure_of (upd s.part r q i).guards d ≡ true → (d ≡ n) ⊎ Held d
          held_by i = upd_split s.part r q (λ j y. (d : ℕ) → is_sure_of y.guards d ≡ true → (d ≡ n) ⊎ Held d) (λ d sure. inl (only d sure)) (λ j ne d sure. inr (j, sure)) i

    -- a store into a word of an own free descriptor
    module _ (n word number : ℕ) (free : has p.descriptors.free n ≡ true) (same_guards : out.guards ≡ p.guards) (same_run : out.run ≡ p.run) (fits : Fits (sizes_for m l rs) x.0) where
      held : (d : ℕ) → is_sure_of out.guards d ≡ true → Held d
      held d is = (r, ap (λ (g : GuardsState). is_sure_of g d) (sym same_guards) ∙ is)

      here : (v : Seen) → seen_in out.run ≡ Some v → Fine chain s.word v
      here = no_run_seen out.run (same_run ∙ none)

      room_for : (y : Spot) → y ≡ x.0 → Fits (sizes_for m l rs) y
      room_for y same = subst (Fits (sizes_for m l rs)) (sym same) fits

      store_by : (b b' b'' : Bool)
          → go.heads ≡ (if b then [] else (if b' then agreement.StoreDone n number ∷ [] else (if b'' then [] else agreement.StoreLog n (word - 13) number ∷ [])))
          → go.tails ≡ (if b then [] else (if b' then [] else (if b'' then [] else epochs.StoreLog r n (word - 13) number ∷ [])))
          → (spot_by n word b b' b'', Stores number) ≡ x → To chain out
      store_by true b' b'' heads tails is = steps.leaves m l chain chain a a' e e' s stands old joined r kind x go out held
          (subst (AllAre leaves_logs) (sym heads) tt) (subst (AllAre leaves_log) (sym tails) tt) (λ d. refl) (off s.word (ThunkWord n word) (Stores number) x is refl) here
      store_by false true b'' heads tails is = steps.leaves m l chain chain a a' e e' s stands old joined r kind x go out held
          (subst (AllAre leaves_logs) (sym heads) (refl, tt)) (subst (AllAre leaves_log) (sym tails) tt) (λ d. refl) (off s.word (DoneWord n) (Stores number) x is refl) here
      store_by false false true heads tails is = steps.unlinks m l chain chain a a' e e' s stands old joined r kind x go out held
          (subst (AllAre leaves_logs) (sym heads) tt) (subst (AllAre leaves_log) (sym tails) tt) n number (λ d. refl) is (λ d sure. free_unheld d n sure free) here
      store_by false false false heads tails is = steps.stores m l chain chain a a' e e' s stands old joined r kind x go out held n (word - 13) number (λ d. refl)
          (agreement.StoreLog n (word - 13) number) heads (stored_logs a n (word - 13) number)
          (epochs.StoreLog r n (word - 13) number) tails (λ d j. refl) (room_for (LogWord n (word - 13)) (ap (λ (y : Spot × Access). y.0) is)).1 (Stores number) is refl (λ d sure. free_unheld d n sure free) here

    -- or into a word of an own free block
    block_store : (b word number : ℕ) → has p.blocks.free b ≡ true → number ≡ 0 → out.guards ≡ p.guards → out.run ≡ p.run → go.heads ≡ [] → go.tails ≡ []
        → (block_spot b word, Stores number) ≡ x → To chain out
    block_store b word number free zero same_guards same_run heads tails is = steps.clears m l chain chain a a' e e' s stands old joined r kind x go out
        (λ d sure. (r, ap (λ (g : GuardsState). is_sure_of g d) (sym same_guards) ∙ sure))
        (subst (AllAre leaves_logs) (sym heads) tt) (subst (AllAre leaves_log) (sym tails) tt) b word (λ d. refl)
        (ap (λ i. (block_spot b word, Stores i)) (sym zero) ∙ is)
        (let some = times_has p.blocks.free b free in omega (arith, some))
        (λ v seen_at. absurd (let y = sym (ap seen_in (same_run ∙ none)) ∙ seen_at in cc))

-- by the kind of the step
module _ (m : Meaning) (l : Layout) (rs : List Request) (chain : ℕ → List ℕ) (a a' : AgreementState) (e e' : EpochState) (s : Sight) (of_sections : IsJoinedToAgreement m l a s)
    (joined : IsJoinedToEpochs m l e s) (stands : GuardsStand m l chain a e s) (old : LogsStand chain a e s) (r : ℕ) (x : Spot × Access) (fits : Fits (sizes_for m l rs) x.0) (small : block_count l ≤ 2 ^ 32) where
  abbrev own : PartState
  own = s.part r

  abbrev met : ℕ
  met = s.word x.0

  abbrev f : Spot → ℕ
  f = put s.word x.0 (written x.1 met)

  -- what a step of this kind comes with
  record Given (kind : EventKind) : Type 0 where
    go : OthersGo m l a a' e e' s r kind met
    guarded : GuardsAreSupplied m l chain a e s r kind met

  -- it leaves this part
  abbrev Leaves : EventKind → PartState → Type 0
  Leaves kind p' = LogsStand (chain_after chain kind own met) a' e' (record { word = f; part = upd s.part r p' })

  -- the part behind it, with this run or with none
  abbrev behind_by : EventKind → Option RunState → PartState
  behind_by kind o = let p' = after_by m l kind own o met in
      record p' { blocks = blocks_after m l kind own o met; board = board_after kind own.board met; records = noted l r kind x.0 x.1 met p'.records }

  module _ (none : own.run ≡ None) where
    abbrev Outside : EventKind → Type 0
    Outside kind = outside_ask m l rs r kind own ≡ Some x → Given kind → Leaves kind (behind_by kind None)

    quiet_kind : (kind : EventKind) → is_writing kind ≡ false → is_guarding kind ≡ false → outside_ask m l rs r kind own ≡ Some x → Given kind
        → LogsStand chain a' e' (record { word = f; part = upd s.part r (behind_by kind None) })
    quiet_kind kind k guarding ask g = quiet_out m l rs chain a a' e e' s of_sections joined stands old r x kind g.go g.guarded small none k guarding ask

    leaves_kind : (kind : EventKind) → is_writing kind ≡ false → outside_ask m l rs r kind own ≡ Some x → Given kind
        → ((d : ℕ) → is_sure_of (behind_by kind None).guards d ≡ true → IsHeld m l chain a e s stands d)
        → ((v : Seen) → seen_in (behind_by kind None).run ≡ Some v → Fine chain s.word v)
        → LogsStand chain a' e' (record { word = f; part = upd s.part r (behind_by kind None) })
    leaves_kind kind k ask g held here = leaves m l rs chain a a' e e' s of_sections joined stands old r x kind g.go g.guarded small none (behind_by kind None) k ask held here

    -- who is in no run
    still_out : (v : Seen) → seen_in own.run ≡ Some v → Fine chain s.word v
    still_out v seen_at = absurd (let y = sym (ap seen_in none) ∙ seen_at in cc)

    same_sure : (d : ℕ) → is_sure_of own.guards d ≡ true → IsHeld m l chain a e s stands d
    same_sure d sure = (r, sure)

    store : (slot word number : ℕ) → Outside (kinds.PrivateStore slot word number)
    store slot word number ask g = by (nat_lt slot (blocks_from m l)) refl
      where
        heads : (k : Bool) → nat_lt slot (blocks_from m l) ≡ k → g.go.heads ≡ (if k then sections.stored (slot - slot_count l m.fixed_slots) word number else [])
        heads k is = (heads_out m l rs chain a a' e e' s of_sections joined stands old r x (kinds.PrivateStore slot word number) g.go g.guarded small none).1 ∙ ap (λ c. if c then sections.stored (slot - slot_count l m.fixed_slots) word number else []) is

        tails : (k : Bool) → nat_lt slot (blocks_from m l) ≡ k → g.go.tails ≡ (if k then slots.stored r (slot - slot_count l m.fixed_slots) word number else [])
        tails k is = tails_out m l rs chain a a' e e' s of_sections joined stands old r x (kinds.PrivateStore slot word number) g.go g.guarded small none ∙ ap (λ c. if c then slots.stored r (slot - slot_count l m.fixed_slots) word number else []) is

        asked_by : (k : Bool) → nat_lt slot (blocks_from m l) ≡ k → private_ask m l slot word number own k ≡ Some x
        asked_by k is = sym (ap (private_ask m l slot word number own) is) ∙ ask

        by : (k : Bool) → nat_lt slot (blocks_from m l) ≡ k → Leaves (kinds.PrivateStore slot word number) (behind_by (kinds.PrivateStore slot word number) None)
        by true is = let h = if_some _ _ x (asked_by true is) in
            let free = (and_parts (is_resting own.stage own.run) (has own.descriptors.free (slot - slot_count l m.fixed_slots)) (and_parts (nat_le (slot_count l m.fixed_slots) slot) _ h.0).1).1 in
            store_by m l rs chain a a' e e' s of_sections joined stands old r x (kinds.PrivateStore slot word number) g.go g.guarded small none (slot - slot_count l m.fixed_slots) word number free refl refl fits (nat_lt word 12) (word == 12) (word == 13 + part_words)
            (heads true is) (tails true is) h.1
        by false is = let h = if_some _ _ x (asked_by false is) in
            let own_block = and_parts (has own.blocks.free (slot - blocks_from m l)) (number == 0) (and_parts (is_resting own.stage own.run) _ h.0).1 in
            block_store m l rs chain a a' e e' s of_sections joined stands old r x (kinds.PrivateStore slot word number) g.go g.guarded small none (slot - blocks_from m l) word number own_block.0 (tested_equal number 0 own_block.1) refl refl
            (heads false is) (tails false is) h.1

    -- the part behind a try to publish, which won or lost
    abbrev held_part : Thunk → ℕ → Bool → PartState
    held_part t d won = let p' = if won then record own {
      published = Some (published_by t d own);
      descriptors = descriptor_taken own.descriptors d;
      guards = published_seen own.guards d;
      reads = cell_read own.reads t.lock met;
    } else record own { reads = cell_read own.reads t.lock met } in record p' {
      blocks = (if won then blocks_given_back d own.blocks else own.blocks);
      board = board_after (kinds.Hold t d) own.board met;
      records = noted l r (kinds.Hold t d) x.0 x.1 met p'.records;
    }

    hold : (t : Thunk) (d : ℕ) → Outside (kinds.Hold t d)
    hold t d ask g = by (met == t.word) refl
      where
        h : outside_asked.HoldAsked m l rs t d own x
        h = outside_asked.hold_asked m l rs r t d own x ask

        heads : sections.IsOutsideChunk m l a r (kinds.Hold t d) own met g.go.heads
        heads = heads_out m l rs chain a a' e e' s of_sections joined stands old r x (kinds.Hold t d) g.go g.guarded small none

        tails : slots.IsOutsideChunk m l r (kinds.Hold t d) own met g.go.tails
        tails = tails_out m l rs chain a a' e e' s of_sections joined stands old r x (kinds.Hold t d) g.go g.guarded small none

        words : LogWordsStay s.word x
        words = outside_words s.word m l rs r own x (kinds.Hold t d) refl ask

        published_heads : met ≡ t.word → g.go.heads ≡ agreement.Read t.lock ∷ sections.publication m d t ∷ []
        published_heads won = ⊎_elim (λ y. y.1) (λ y. absurd (y.0 won)) heads

        by : (won : Bool) → (met == t.word) ≡ won → LogsStand (if won then upd chain d [] else chain) a' e' (record { word = f; part = upd s.part r (held_part t d won) })
        by true is = let won = tested_equal met t.word is in
            publishes m l rs chain a a' e e' s of_sections joined stands old r x (kinds.Hold t d) g.go g.guarded small none (held_part t d true) t d h (published_heads won)
            (⊎_elim (λ y. y.1) (λ y. absurd (y.0 won)) tails)
            (λ c sure. sure_there own.guards d c h.named sure) refl words
        by false is =
            let lost = tested_other met t.word is in
            steps.leaves m l chain chain a a' e e' s stands old joined r (kinds.Hold t d) x g.go (held_part t d false) same_sure
            (subst (AllAre leaves_logs) (sym (⊎_elim (λ y. absurd (lost y.0)) (λ y. y.1) heads)) (refl, tt))
            (subst (AllAre leaves_log) (sym (⊎_elim (λ y. absurd (lost y.0)) (λ y. y.1) tails)) tt) (λ d. refl) words still_out

    begins : (d : ℕ) → Outside (kinds.LoadThunk (Some d))
    begins d ask g = leaves_kind (kinds.LoadThunk (Some d)) refl ask g same_sure
        (λ v seen_at. subst (Fine chain s.word) (one v seen_at) (begins_fine chain s.word d))
      where
        one : (v : Seen) → Some (record { descriptor = d; links = []; block = None; emptied = 0 }) ≡ Some v → record { descriptor = d; links = []; block = None; emptied = 0 } ≡ v
        one v seen_at = cc

    outside_kept : (kind : EventKind) → Outside kind
    outside_kept (kinds.PrivateStore slot word number) ask g = store slot word number ask g
    outside_kept (kinds.Hold t d) ask g = hold t d ask g
    outside_kept (kinds.LoadThunk (Some d)) ask g = begins d ask g
    outside_kept (kinds.LoadCell (Some place)) ask g = leaves_kind (kinds.LoadCell (Some place)) refl ask g
        (reads m l rs chain a a' e e' s of_sections joined stands old r x (kinds.LoadCell (Some place)) g.go g.guarded small none place refl) still_out
    outside_kept kinds.EnterAgain ask g = leaves_kind kinds.EnterAgain refl ask g same_sure still_out
    outside_kept kinds.Idle ask g = leaves_kind kinds.Idle refl ask g same_sure still_out
    outside_kept (kinds.Guard o) ask g = leaves_kind (kinds.Guard o) refl ask g (λ d sure. absurd (let y = sure in cc)) still_out
    outside_kept (kinds.LoadGuard n) ask g = leaves_kind (kinds.LoadGuard n) refl ask g same_sure still_out
    outside_kept kinds.EnterLoad ask g = quiet_kind kinds.EnterLoad refl refl ask g
    outside_kept kinds.Announce ask g = quiet_kind kinds.Announce refl refl ask g
    outside_kept kinds.ScanEpoch ask g = quiet_kind kinds.ScanEpoch refl refl ask g
    outside_kept (kinds.ScanOne n) ask g = quiet_kind (kinds.ScanOne n) refl refl ask g
    outside_kept kinds.Advance ask g = quiet_kind kinds.Advance refl refl ask g
    outside_kept kinds.Split ask g = quiet_kind kinds.Split refl refl ask g
    outside_kept (kinds.Join worker) ask g = quiet_kind (kinds.Join worker) refl refl ask g
    outside_kept (kinds.LoadEntry request reply) ask g = quiet_kind (kinds.LoadEntry request reply) refl refl ask g
    outside_kept (kinds.PrivateLoad slot word) ask g = quiet_kind (kinds.PrivateLoad slot word) refl refl ask g
    outside_kept (kinds.ReadPlan thunk) ask g = quiet_kind (kinds.ReadPlan thunk) refl refl ask g
    outside_kept kinds.ReadClock ask g = quiet_kind kinds.ReadClock refl refl ask g
    outside_kept kinds.ReadReply ask g = quiet_kind kinds.ReadReply refl refl ask g
    outside_kept kinds.ReadStamp ask g = quiet_kind kinds.ReadStamp refl refl ask g
    outside_kept (kinds.BoardLoad word) ask g = quiet_kind (kinds.BoardLoad word) refl refl ask g
    outside_kept (kinds.BoardTake word link) ask g = quiet_kind (kinds.BoardTake word link) refl refl ask g
    outside_kept (kinds.BoardGive word slot) ask g = quiet_kind (kinds.BoardGive word slot) refl refl ask g
    outside_kept _ ask g = some_none x ask

  module _ (q : RunState) (at : own.run ≡ Some q) where
    abbrev ahead : Micro
    ahead = next_of m q

    abbrev run_part : EventKind → Bool → PartState
    run_part kind b = let p' = cond b (line_after m l kind own q ahead met) (opened_more own q met) in
        record p' { blocks = blocks_after m l kind own (Some q) met; board = board_after kind own.board met; records = noted l r kind x.0 x.1 met p'.records }

    abbrev Line : EventKind → Type 0
    Line kind = is_open_run q ≡ true → line_ask m l kind own.nodes.free own.blocks.free q ahead ≡ Some x → Given kind → Leaves kind (run_part kind true)

    quiet_line : (kind : EventKind) (b : Bool) → is_open_run q ≡ b → is_commit kind ≡ false → is_linking kind ≡ false → is_release kind ≡ false
        → (if b then line_ask m l kind own.nodes.free own.blocks.free q ahead else opening_ask kind q) ≡ Some x → Given kind
        → LogsStand chain a' e' (record { word = f; part = upd s.part r (run_part kind b) })
    quiet_line kind b opened k link release ask g = quiet m l rs chain a a' e e' s of_sections joined stands old r x kind g.go g.guarded small q at b opened k link release ask

    -- a word of a block is made 0, or a Make's slot is filled
    store_line : (slot word number : ℕ) → Line (kinds.PrivateStore slot word number)
    store_line slot word number opened ask g = by (needs_link q ahead) refl
      where
        heads : sections.IsLineChunk m l a r (kinds.PrivateStore slot word number) own q met g.go.heads
        heads = heads_in m l rs chain a a' e e' s of_sections joined stands old r x (kinds.PrivateStore slot word number) g.go g.guarded small q at true opened

        tails : g.go.tails ≡ []
        tails = tails_in m l rs chain a a' e e' s of_sections joined stands old r x (kinds.PrivateStore slot word number) g.go g.guarded small q at true opened

        asked_by : (b : Bool) → needs_link q ahead ≡ b → (if b then block_empty_ask m l slot word number own.blocks.free q else fill_store_ask m l slot word number q ahead) ≡ Some x
        asked_by b is = sym (ap (λ k. if k then block_empty_ask m l slot word number own.blocks.free q else fill_store_ask m l slot word number q ahead) is) ∙ ask

        -- the run behind it
        run_is : (b : Bool) → needs_link q ahead ≡ b → (v : Seen) → seen_in (run_part (kinds.PrivateStore slot word number) true).run ≡ Some v → v ≡ seen (if b then block_emptied (slot - blocks_from m l) q else filled m l number q)
        run_is b is v seen_at = same (seen (if b then block_emptied (slot - blocks_from m l) q else filled m l number q)) v
            (sym (ap (λ k. Some (seen (if k then block_emptied (slot - blocks_from m l) q else filled m l number q))) is) ∙ seen_at)
          where
            same : (u w : Seen) → Some u ≡ Some w → w ≡ u
            same u w e0 = cc

        no_heads : needs_link q ahead ≡ true → g.go.heads ≡ []
        no_heads is = ⊎_elim (λ link. link.1) (λ fills. absurd (not_both is (ap (needs_link q) fills.2))) heads

        by : (b : Bool) → needs_link q ahead ≡ b → Leaves (kinds.PrivateStore slot word number) (run_part (kinds.PrivateStore slot word number) true)
        by true is = empties m l rs chain a a' e e' s of_sections joined stands old r x (kinds.PrivateStore slot word number) g.go g.guarded small q at slot word number opened (no_heads is) tails (run_is true is)
            (asked.empty_asked q x m l slot word number own.blocks.free (asked_by true is))
        by false is = steps.leaves m l chain chain a a' e e' s stands old joined r (kinds.PrivateStore slot word number) x g.go (run_part (kinds.PrivateStore slot word number) true) (held_in m l rs chain a a' e e' s of_sections joined stands old r x (kinds.PrivateStore slot word number) g.go g.guarded small q at true)
            (inside_logs m l a r (kinds.PrivateStore slot word number) own q met g.go.heads true refl heads) (subst (AllAre leaves_log) (sym tails) tt) (λ d. refl)
            (off s.word (Cell (cell_of m.fixed_cells slot word)) (Stores number) x (asked_line.fill_store_asked q x m l slot word number ahead (asked_by false is)).6 refl)
            (λ v seen_at. as_before m l rs chain a a' e e' s of_sections joined stands old r x (kinds.PrivateStore slot word number) g.go g.guarded small q at v (run_is false is v seen_at))

    link_line : (b : ℕ) → Line (kinds.LinkCommit b)
    link_line b opened ask g = subst (λ o. LogsStand (linked_more chain b o met) a' e' (record { word = f; part = upd s.part r (run_part (kinds.LinkCommit b) true) })) (sym at)
        (links m l rs chain a a' e e' s of_sections joined stands old r x (kinds.LinkCommit b) g.go g.guarded small q at b
        (heads_in m l rs chain a a' e e' s of_sections joined stands old r x (kinds.LinkCommit b) g.go g.guarded small q at true opened) (tails_in m l rs chain a a' e e' s of_sections joined stands old r x (kinds.LinkCommit b) g.go g.guarded small q at true opened)
        (λ v seen_at. one v seen_at) (asked.link_asked q x l b ahead ask) (met == 0) refl)
      where
        one : (v : Seen) → Some (record { descriptor = q.descriptor; links = q.links ++ value_of (written_once met (b + 1) - 1) ∷ []; block = None; emptied = 0 }) ≡ Some v → v ≡ (record { descriptor = q.descriptor; links = q.links ++ value_of (written_once met (b + 1) - 1) ∷ []; block = None; emptied = 0 })
        one v seen_at = cc

    line_kept : (kind : EventKind) → Line kind
    line_kept kinds.Commit opened ask g = commit m l rs chain a a' e e' s of_sections joined stands old r x kinds.Commit g.go g.guarded small q at refl refl
        (heads_in m l rs chain a a' e e' s of_sections joined stands old r x kinds.Commit g.go g.guarded small q at true opened) (tails_in m l rs chain a a' e e' s of_sections joined stands old r x kinds.Commit g.go g.guarded small q at true opened) ask
    line_kept kinds.OutcomeCommit opened ask g = outcome_commit m l rs chain a a' e e' s of_sections joined stands old r x kinds.OutcomeCommit g.go g.guarded small q at refl refl
        (heads_in m l rs chain a a' e e' s of_sections joined stands old r x kinds.OutcomeCommit g.go g.guarded small q at true opened) (tails_in m l rs chain a a' e e' s of_sections joined stands old r x kinds.OutcomeCommit g.go g.guarded small q at true opened) ask
    line_kept kinds.MakeCommit opened ask g = make_commit m l rs chain a a' e e' s of_sections joined stands old r x kinds.MakeCommit g.go g.guarded small q at refl refl
        (heads_in m l rs chain a a' e e' s of_sections joined stands old r x kinds.MakeCommit g.go g.guarded small q at true opened) (tails_in m l rs chain a a' e e' s of_sections joined stands old r x kinds.MakeCommit g.go g.guarded small q at true opened) ask
    line_kept kinds.RetireCommit opened ask g = retire_commit m l rs chain a a' e e' s of_sections joined stands old r x kinds.RetireCommit g.go g.guarded small q at refl refl
        (heads_in m l rs chain a a' e e' s of_sections joined stands old r x kinds.RetireCommit g.go g.guarded small q at true opened) (tails_in m l rs chain a a' e e' s of_sections joined stands old r x kinds.RetireCommit g.go g.guarded small q at true opened) ask
    line_kept kinds.Release opened ask g = goes_on m l rs chain a a' e e' s of_sections joined stands old r x kinds.Release g.go g.guarded small q at true opened refl refl
        (λ v seen_at. released_seen m l own q at met ahead v seen_at) ask
    line_kept (kinds.PrivateStore slot word number) opened ask g = store_line slot word number opened ask g
    line_kept (kinds.LinkCommit b) opened ask g = link_line b opened ask g
    line_kept (kinds.Hold t d) opened ask g = some_none x ask
    line_kept kind opened ask g = quiet_line kind true opened refl refl refl ask g

    opening_kept : (kind : EventKind) → is_open_run q ≡ false → opening_ask kind q ≡ Some x → Given kind → Leaves kind (run_part kind false)
    opening_kept (kinds.LoadThunk None) opened ask g = quiet_line (kinds.LoadThunk None) false opened refl refl refl ask g
    opening_kept kinds.LoadDone opened ask g = quiet_line kinds.LoadDone false opened refl refl refl ask g
    opening_kept kind opened ask g = some_none x ask

    inside_kept : (kind : EventKind) (b : Bool) → is_open_run q ≡ b → (if b then line_ask m l kind own.nodes.free own.blocks.free q ahead else opening_ask kind q) ≡ Some x
        → Given kind → Leaves kind (run_part kind b)
    inside_kept kind true opened ask g = line_kept kind opened ask g
    inside_kept kind false opened ask g = opening_kept kind opened ask g

  by_run : (kind : EventKind) (o : Option RunState) → own.run ≡ o → ask_by m l rs r kind own o ≡ Some x → Given kind → Leaves kind (behind_by kind o)
  by_run kind None none ask g = outside_kept none kind ask g
  by_run kind (Some q) at ask g = inside_kept q at kind (is_open_run q) refl ask g

  abbrev Shows : EventKind → Type 0
  Shows kind = LogsStand (chain_after chain kind own met) a' e' (sight_after m l s r kind x)

  -- a join: the keeper takes over what the worker knew, and the worker makes no further step
  module _ (worker : ℕ) (ask : ask_by m l rs r (kinds.Join worker) own own.run ≡ Some x) (g : Given (kinds.Join worker)) where
    in_no_run : (o : Option RunState) → ask_by m l rs r (kinds.Join worker) own o ≡ Some x → o ≡ None
    in_no_run None e0 = refl
    in_no_run (Some q) e0 = cond_none (is_open_run q) x e0

    none_runs : own.run ≡ None
    none_runs = in_no_run own.run ask

    abbrev keeper : PartState
    keeper = knows_also (after m l r (kinds.Join worker) x.0 x.1 own met) (s.part worker)

    -- what stays of the keeper's part and of the worker's stays of all
    all_same : {B : Type 0} → (h : PartState → B) → h keeper ≡ h own → h (leaves_part (s.part worker)) ≡ h (s.part worker)
        → (i : ℕ) → h (upd (upd s.part r keeper) worker (leaves_part (s.part worker)) i) ≡ h (s.part i)
    all_same {B} h of_keeper of_worker i =
        let kept = λ (j : ℕ). ap (λ (g0 : ℕ → B). g0 j) (map_same h s.part r keeper of_keeper) in
        ap (λ (g0 : ℕ → B). g0 i) (map_same h (upd s.part r keeper) worker (leaves_part (s.part worker)) (of_worker ∙ sym (kept worker))) ∙ kept i

    join : Shows (kinds.Join worker)
    join = keeping.quiet m l chain chain a a' e e' s (sight_after m l s r (kinds.Join worker) x) stands old
        (λ i d sure. (i, ap (λ (h : GuardsState). is_sure_of h d) (sym (all_same (λ y. y.guards) (ap (λ o. (after_by m l (kinds.Join worker) own o met).guards) none_runs) refl i)) ∙ sure))
        (λ i v seen_at. keeping.fine_kept chain chain s.word f v refl (λ b j held none. words (block_spot b j) (keeping.block_of_log b j) ∙ none)
        (fine chain a e s old i v (sym (all_same (λ y. seen_in y.run) (ap (λ o. seen_in (after_by m l (kinds.Join worker) own o met).run) none_runs) refl i) ∙ seen_at)))
        (logs_same m l a a' r g.go.heads g.go.leads (outside_logs m l a r (kinds.Join worker) own met g.go.heads refl heads))
        (λ d k. ap (λ (w : EpochState). w.log d k) (sym g.go.there) ∙ ap (λ (h : ℕ → ℕ → ℕ). h d k) (log_same (counts_of m l) e g.go.tails (outside_log m l r (kinds.Join worker) own met g.go.tails refl tails)))
        (λ d. refl) words
      where
        heads : sections.IsOutsideChunk m l a r (kinds.Join worker) own met g.go.heads
        heads = heads_out m l rs chain a a' e e' s of_sections joined stands old r x (kinds.Join worker) g.go g.guarded small none_runs

        tails : slots.IsOutsideChunk m l r (kinds.Join worker) own met g.go.tails
        tails = tails_out m l rs chain a a' e e' s of_sections joined stands old r x (kinds.Join worker) g.go g.guarded small none_runs

        words : LogWordsStay s.word x
        words = outside_words s.word m l rs r own x (kinds.Join worker) refl (sym (ap (ask_by m l rs r (kinds.Join worker) own) none_runs) ∙ ask)

  not_join : (kind : EventKind) → is_join kind ≡ false → sight_after m l s r kind x ≡ record { word = f; part = upd s.part r (after m l r kind x.0 x.1 own met) }
  not_join (kinds.Join worker) k = absurd (let y = k in cc)
  not_join _ k = refl

  plain : (kind : EventKind) → is_join kind ≡ false → ask_by m l rs r kind own own.run ≡ Some x → Given kind → Shows kind
  plain kind k ask g = subst (LogsStand (chain_after chain kind own met) a' e') (sym (not_join kind k)) (by_run kind own.run refl ask g)

  shows : (kind : EventKind) → ask_by m l rs r kind own own.run ≡ Some x → Given kind → Shows kind
  shows (kinds.Join worker) ask g = join worker ask g
  shows kind ask g = plain kind refl ask g

pub logs_kept : (m : Meaning) (l : Layout) (rs : List Request) (chain : ℕ → List ℕ) (a a' : AgreementState) (e e' : EpochState) (s s' : Sight) (r : ℕ) (kind : EventKind)
    → IsJoinedToAgreement m l a s → IsJoinedToEpochs m l e s → GuardsStand m l chain a e s → LogsStand chain a e s → block_count l ≤ 2 ^ 32 → (step : Steps m l rs s s' r kind)
    → GuardsAreSupplied m l chain a e s r kind (s.word (step.ask.0))
    → OthersGo m l a a' e e' s r kind (s.word (step.ask.0)) → LogsStand (chain_after chain kind (s.part r) (s.word (step.ask.0))) a' e' s'
logs_kept m l rs chain a a' e e' s s' r kind of_sections joined stands old small step guarded go =
    subst (LogsStand (chain_after chain kind (s.part r) (s.word (step.ask.0))) a' e') (sym step.next)
    (shows m l rs chain a a' e e' s of_sections joined stands old r step.ask step.has_word small kind
    (unless_gone (sizes_for m l rs) (s.part r).gone _ step.ask step.asked).1 (record { go = go; guarded = guarded }))
