-- A step writes into the log of a section whose descriptor isn't free by a commit of a run of it alone.
use Rattle.std.specs.Prelude.{◌==◌, ◌-◌, ◌&&◌, ◌⊎◌, nat_lt, nat_le, cond, Bool, true, false, if◌then◌else◌}
use Rattle.std.proofs.Common.{◌≡◌, ◌≢◌, inl, inr, ℕ, suc, ◌+◌, List, [], ◌∷◌, refl, sym, ap, ◌∙◌, subst, ⊎_elim, arith, Option, Some, None}
use Rattle.std.proofs.lemmas.Bool.{and_parts, cases_eq}
use Rattle.machine_states.specs.epoch_core.specs.small_lemmas.proofs.Bools.{not_both}
use Rattle.machine_states.specs.epoch_core.specs.small_lemmas.proofs.Numbers.{tested_equal, tested_other, self_tested, other_tested}
use Rattle.machine_states.specs.map_history.specs.declared.op.Request.{Request}
use Rattle.machine_states.specs.body_terms.specs.Run.{written_once}
use Rattle.machine_states.specs.body_terms.specs.Line.{line, micro_at, committed}
use Rattle.machine_states.specs.body_terms.specs.declared.micro.Micro.{Micro}
use Rattle.machine_states.specs.body_terms.specs.declared.micro.Micro.TheVariants as micros
use Rattle.machine_states.specs.body_terms.specs.declared.thunk.Thunk.{Thunk}
use Rattle.block_words.specs.Blocks.{log_spot}
use Rattle.machine_states.specs.table_words.specs.declared.layout.Layout.{Layout}
use Rattle.machine_states.specs.table_words.specs.declared.spot.Spot.{Spot}
use Rattle.machine_states.specs.table_words.specs.declared.access.Access.{Access}
use Rattle.machine_states.specs.table_words.specs.declared.access.Access.TheVariants.{Stores, Exchanges}
use Rattle.machine_states.specs.table_words.specs.Places.{part_words, slot_count}
use Rattle.machine_states.specs.structure_laws.specs.Meaning.{Meaning}
use Rattle.machine_states.specs.runner_parts.specs.declared.event.EventKind.{EventKind}
use Rattle.machine_states.specs.runner_parts.specs.declared.event.EventKind.TheVariants as kinds
use Rattle.machine_states.specs.runner_parts.specs.State.{RunState, PartState}
use Rattle.machine_states.specs.runner_parts.specs.Tests.{has, is_resting}
use Rattle.machine_states.specs.runner_steps.specs.Asks.{outside_ask, line_ask, opening_ask, ask_by, sizes_for}
use Rattle.machine_states.specs.runner_steps.specs.Outside.{blocks_from}
use Rattle.machine_states.specs.runner_steps.specs.Sections.{is_open_run, next_of, commits_to, is_beyond}
use Rattle.agreement_core.specs.State.{AgreementState}
use Rattle.agreement_core.specs.Events as agreement
use Rattle.machine_states.specs.epoch_core.specs.Update.{upd2}
use Rattle.machine_states.specs.Sight.{Sight, Steps}
use Rattle.machine_states.proofs.Sights.{unless_gone, some_none, if_some}
use Rattle.machine_states.proofs.Steps.{some_same}
use Rattle.machine_guards.specs.machine_agreement.specs.machine_epochs.proofs.OutsideAsked as outside_asked
use Rattle.machine_guards.specs.machine_agreement.specs.Chunks as sections
use Rattle.machine_guards.specs.machine_agreement.specs.Joined.{IsRunOf, IsJoinedToAgreement}
use Rattle.machine_guards.specs.machine_agreement.proofs.RunPlaces.{run_here}
use Rattle.machine_guards.proofs.Places.{AllAre}
use Rattle.machine_blocks.specs.Writes.{SectionsGo, carries_word, Agrees, StepsWriteLogs}
use Rattle.machine_blocks.proofs.Events.{logs_of, leaves_logs, agreed_logs, published_logs, stored_logs, logs_same, logs_after, logs_behind}
use Rattle.machine_blocks.proofs.Chunks.{is_commit, inside_logs, outside_logs}
use Rattle.machine_blocks.proofs.Asked as asked
use Rattle.machine_blocks.proofs.AllKinds.{private_ask}

-- one place of one row is changed, and no other
row_here : (f : ℕ → ℕ → ℕ) (n k v : ℕ) → upd2 f n k v n k ≡ v
row_here f n k v = ap (λ b. cond b (cond (k == k) v (f n k)) (f n k)) (self_tested n) ∙ ap (λ b. cond b v (f n k)) (self_tested k)

row_else : (f : ℕ → ℕ → ℕ) (n k v i j : ℕ) → (i ≡ n → j ≡ k → ⊥) → upd2 f n k v i j ≡ f i j
row_else f n k v i j ne = by (i == n) refl (j == k) refl
  where
    by : (b : Bool) → (i == n) ≡ b → (c : Bool) → (j == k) ≡ c → cond b (cond c v (f i j)) (f i j) ≡ f i j
    by true is true is' = absurd (ne (tested_equal i n is) (tested_equal j k is'))
    by true is false is' = refl
    by false is c is' = refl

module _ (m : Meaning) (l : Layout) (rs : List Request) (a a' : AgreementState) (s : Sight) (of_sections : IsJoinedToAgreement m l a s) (r : ℕ) (x : Spot × Access) (d k : ℕ)
    (unfree : has (s.part r).descriptors.free d ≡ false) where
  abbrev p : PartState
  p = s.part r

  abbrev found : ℕ
  found = s.word x.0

  abbrev Written : Type 0
  Written = (logs_of a' d k ≡ logs_of a d k) ⊎ Agrees m a a' s r x d k

  abbrev Go : EventKind → Type 0
  Go kind = SectionsGo m l a a' s r kind found

  stays : (kind : EventKind) (go : Go kind) → AllAre leaves_logs go.heads → Written
  stays kind go heads = inl (logs_same m l a a' r go.heads go.leads heads d k)

  -- in a run that has loaded its thunk
  module _ (q : RunState) (at : p.run ≡ Some q) (opened : is_open_run q ≡ true) where
    abbrev next : Micro
    next = next_of m q

    abbrev n : ℕ
    n = q.descriptor

    run : IsRunOf (a.run r) q
    run = run_here m l a s of_sections r q at

    module _ (kind : EventKind) (go : Go kind) where
      wrote : (k0 i proposal : ℕ) → i ≡ proposal → (head : agreement.Event) → go.heads ≡ head ∷ [] → agreement.after a head ≡ agreement.agrees a r k0 i
          → commits_to next ≡ Some k0 → is_beyond q (Some k0) ≡ false → (log_spot n q.links k0, Exchanges 0 proposal) ≡ x
          → (carries_word next ≡ true → proposal ≡ q.word) → Written
      wrote k0 i proposal same head is_head agrees commits near is carried = by (cases_eq d n) (cases_eq k k0)
        where
          all : logs_of a' d k ≡ upd2 (logs_of a) n k0 (written_once (logs_of a n k0) proposal) d k
          all = logs_after m l a a' r go.heads go.leads head is_head d k
              ∙ (ap (λ (w : AgreementState). logs_of w d k) agrees
              ∙ (agreed_logs a r k0 i d k
              ∙ (ap (λ c. upd2 (logs_of a) c k0 (written_once (logs_of a c k0) i) d k) run.descriptor
              ∙ ap (λ c. upd2 (logs_of a) n k0 (written_once (logs_of a n k0) c) d k) same)))

          now : d ≡ n → k ≡ k0 → logs_of a' d k ≡ written_once (logs_of a d k) proposal
          now is_d is_k = all
              ∙ ((λ i. upd2 (logs_of a) n k0 (written_once (logs_of a n k0) proposal) (is_d i) (is_k i))
              ∙ (row_here (logs_of a) n k0 (written_once (logs_of a n k0) proposal)
              ∙ (λ i. written_once (logs_of a (sym is_d i) (sym is_k i)) proposal)))

          by : (d ≡ n) ⊎ (d ≢ n) → (k ≡ k0) ⊎ (k ≢ k0) → Written
          by (inl is_d) (inl is_k) = inr (record {
            run = q;
            runs = at;
            open_run = opened;
            of_section = sym is_d;
            commits = commits ∙ ap (λ (c : ℕ). Some c) (sym is_k);
            near = ap (λ c. is_beyond q (Some c)) is_k ∙ near;
            proposal = proposal;
            is = ap (λ c. (log_spot n q.links c, Exchanges 0 proposal)) is_k ∙ is;
            now = now is_d is_k;
            carried = carried;
          })
          by (inl is_d) (inr ne) = inl (all ∙ row_else (logs_of a) n k0 (written_once (logs_of a n k0) proposal) d k (λ same same'. ne same'))
          by (inr ne) other = inl (all ∙ row_else (logs_of a) n k0 (written_once (logs_of a n k0) proposal) d k (λ same same'. ne same))

      -- of the word by which the run goes
      words : (micro : Micro) (k0 : ℕ) → next ≡ micro → commits_to micro ≡ Some k0 → (head : agreement.Event) → go.heads ≡ head ∷ []
          → agreement.after a head ≡ agreement.agrees a r k0 ((a.run r).word) → (k1 : ℕ) → commits_to next ≡ Some k1 → is_beyond q (Some k1) ≡ false
          → (log_spot n q.links k1, Exchanges 0 q.word) ≡ x → Written
      words micro k0 is here head is_head agrees k1 here' near is_word =
          let mine : commits_to next ≡ Some k0 = ap commits_to is ∙ here in
          let same : k1 ≡ k0 = some_same k1 k0 (sym here' ∙ mine) in
          wrote k0 ((a.run r).word) q.word run.word head is_head agrees mine (ap (λ c. is_beyond q (Some c)) (sym same) ∙ near)
          (ap (λ c. (log_spot n q.links c, Exchanges 0 q.word)) (sym same) ∙ is_word) (λ z. refl)

      not_carried : (micro : Micro) → next ≡ micro → carries_word micro ≡ false → {B : Type 0} → carries_word next ≡ true → B
      not_carried micro is none some = absurd (not_both some (ap carries_word is ∙ none))

      abbrev Heads : EventKind → Type 0
      Heads c = sections.IsLineChunk m l a r c p q found go.heads

      abbrev Asked : EventKind → Type 0
      Asked c = line_ask m l c p.nodes.free p.blocks.free q next ≡ Some x

      commit : Heads kinds.Commit → Asked kinds.Commit → Written
      commit heads ask =
          let h = asked.commit_asked q x next ask in
          let at_word : commits_to next ≡ Some h.log = ⊎_elim (λ word. ap commits_to word) (λ lock. ap commits_to lock) h.step.1 in
          ⊎_elim
          (λ word. words (micros.Commit heads.0 heads.1) heads.1 word.0 refl (agreement.Commit r heads.0 heads.1) word.1 refl h.log at_word h.near h.is)
          (λ lock. words (micros.NestedCommit heads.0 heads.1) heads.1 lock.0 refl (agreement.NestedCommit r heads.0 heads.1) lock.1 refl h.log at_word h.near h.is)
          heads.2

      outcome_commit : Heads kinds.OutcomeCommit → Asked kinds.OutcomeCommit → Written
      outcome_commit heads ask =
          let h = asked.outcome_commit_asked q x next ask in
          words (micros.OutcomeCommit heads.0 heads.1) heads.1 heads.2 refl (agreement.OutcomeCommit r heads.0 heads.1) heads.3 refl h.log (ap commits_to h.step.1) h.near h.is

      make_commit : Heads kinds.MakeCommit → Asked kinds.MakeCommit → Written
      make_commit heads ask =
          let h = asked.make_commit_asked q x next ask in
          let k0 = heads.0 in
          let slot = heads.1 in
          let mine : commits_to next ≡ Some k0 = ap commits_to heads.2 in
          let at_word : h.2.log ≡ k0 = some_same h.2.log k0 (sym (ap commits_to h.2.step) ∙ mine) in
          let slot_word : h.0 ≡ slot = some_same h.0 slot (sym h.1 ∙ heads.3) in
          wrote k0 (suc slot) (slot + 1) (let e : suc slot ≡ slot + 1 = omega arith in e) (agreement.MakeCommit r k0 (suc slot)) heads.4 refl mine
          (ap (λ c. is_beyond q (Some c)) (sym at_word) ∙ h.2.near)
          (ap (λ c. (log_spot n q.links c, Exchanges 0 (slot + 1))) (sym at_word) ∙ (ap (λ c. (log_spot n q.links h.2.log, Exchanges 0 (c + 1))) (sym slot_word) ∙ h.2.is))
          (not_carried (micros.MakeCommit k0) heads.2 refl)

      retire_commit : Heads kinds.RetireCommit → Asked kinds.RetireCommit → Written
      retire_commit heads ask =
          let h = asked.retire_commit_asked q x next ask in
          let slot = heads.0 in
          let k0 = heads.1 in
          let same = retired_slot h.0 slot h.1.log k0 (sym h.1.step ∙ heads.2) in
          wrote k0 (suc slot) (slot + 1) (let e : suc slot ≡ slot + 1 = omega arith in e) (agreement.RetireCommit r slot k0) heads.3 refl (ap commits_to heads.2)
          (ap (λ c. is_beyond q (Some c)) (sym same.1) ∙ h.1.near)
          (ap (λ c. (log_spot n q.links c, Exchanges 0 (slot + 1))) (sym same.1) ∙ (ap (λ c. (log_spot n q.links h.1.log, Exchanges 0 (c + 1))) (sym same.0) ∙ h.1.is))
          (not_carried (micros.RetireCommit slot k0) heads.2 refl)
        where
          retired_slot : (t t' k k' : ℕ) → micros.RetireCommit t k ≡ micros.RetireCommit t' k' → (t ≡ t') × (k ≡ k')
          retired_slot t t' k k' e = (cc, cc)

      heads_in : sections.IsInsideChunk m l a r true kind p q found go.heads
      heads_in = subst (λ c. sections.IsInsideChunk m l a r c kind p q found go.heads) opened
          (subst (λ o. sections.IsChunk m l a r kind p o found go.heads) at go.in_sections)

      quiet : is_commit kind ≡ false → Written
      quiet none = stays kind go (inside_logs m l a r kind p q found go.heads true none heads_in)

    line_writes : (kind : EventKind) → Go kind → line_ask m l kind p.nodes.free p.blocks.free q next ≡ Some x → Written
    line_writes kinds.Commit go ask = commit kinds.Commit go (heads_in kinds.Commit go) ask
    line_writes kinds.OutcomeCommit go ask = outcome_commit kinds.OutcomeCommit go (heads_in kinds.OutcomeCommit go) ask
    line_writes kinds.MakeCommit go ask = make_commit kinds.MakeCommit go (heads_in kinds.MakeCommit go) ask
    line_writes kinds.RetireCommit go ask = retire_commit kinds.RetireCommit go (heads_in kinds.RetireCommit go) ask
    line_writes kind go ask = quiet kind go refl

  -- in the opening
  opening_writes : (q : RunState) → p.run ≡ Some q → is_open_run q ≡ false → (kind : EventKind) (go : Go kind) → Written
  opening_writes q at closed kind go = stays kind go (subst (AllAre leaves_logs) (sym none) tt)
    where
      none : go.heads ≡ []
      none = subst (λ c. sections.IsInsideChunk m l a r c kind p q found go.heads) closed
          (subst (λ o. sections.IsChunk m l a r kind p o found go.heads) at go.in_sections)

  -- outside a run
  module _ (none : p.run ≡ None) where
    heads_out : (kind : EventKind) (go : Go kind) → sections.IsOutsideChunk m l a r kind p found go.heads
    heads_out kind go = subst (λ o. sections.IsChunk m l a r kind p o found go.heads) none go.in_sections

    -- a descriptor in the own free list is another one
    another : (n : ℕ) → has p.descriptors.free n ≡ true → d ≢ n
    another n free same = not_both (ap (has p.descriptors.free) same ∙ free) unfree

    module _ (slot word number : ℕ) (ask : outside_ask m l rs r (kinds.PrivateStore slot word number) p ≡ Some x) (go : Go (kinds.PrivateStore slot word number)) where
      abbrev own : ℕ
      own = slot - slot_count l m.fixed_slots

      heads : (b : Bool) → nat_lt slot (blocks_from m l) ≡ b → go.heads ≡ (if b then sections.stored own word number else [])
      heads b is = (heads_out (kinds.PrivateStore slot word number) go).1 ∙ ap (λ c. if c then sections.stored own word number else []) is

      free : nat_lt slot (blocks_from m l) ≡ true → has p.descriptors.free own ≡ true
      free is = let h = if_some _ _ x (sym (ap (private_ask m l slot word number p) is) ∙ ask) in
          (and_parts (is_resting p.stage p.run) (has p.descriptors.free own) (and_parts (nat_le (slot_count l m.fixed_slots) slot) _ h.0).1).1

      by_word : (b b' c : Bool) → go.heads ≡ (if b then [] else (if b' then agreement.StoreDone own number ∷ [] else (if c then [] else agreement.StoreLog own (word - 13) number ∷ [])))
          → d ≢ own → Written
      by_word true b' c is ne = stays (kinds.PrivateStore slot word number) go (subst (AllAre leaves_logs) (sym is) tt)
      by_word false true c is ne = stays (kinds.PrivateStore slot word number) go (subst (AllAre leaves_logs) (sym is) (refl, tt))
      by_word false false true is ne = stays (kinds.PrivateStore slot word number) go (subst (AllAre leaves_logs) (sym is) tt)
      by_word false false false is ne = inl (logs_after m l a a' r go.heads go.leads (agreement.StoreLog own (word - 13) number) is d k
          ∙ (stored_logs a own (word - 13) number d k ∙ row_else (logs_of a) own (word - 13) number d k (λ same same'. ne same)))

      store : Written
      store = by (nat_lt slot (blocks_from m l)) refl
        where
          by : (b : Bool) → nat_lt slot (blocks_from m l) ≡ b → Written
          by true is = by_word (nat_lt word 12) (word == 12) (word == 13 + part_words) (heads true is) (another own (free is))
          by false is = stays (kinds.PrivateStore slot word number) go (subst (AllAre leaves_logs) (sym (heads false is)) tt)

    hold : (t : Thunk) (n : ℕ) → outside_ask m l rs r (kinds.Hold t n) p ≡ Some x → Go (kinds.Hold t n) → Written
    hold t n ask go = ⊎_elim
        (λ won. inl (logs_behind m l a a' r go.heads go.leads (agreement.Read t.lock) (sections.publication m n t) won.1 d k
        ∙ (published_logs (agreement.after a (agreement.Read t.lock)) n t.lock t.word t.request (micro_at (line (m.body t))) (committed (line (m.body t))) d k
        ∙ ap (λ b. cond b 0 (logs_of a d k)) (other_tested d n (another n (outside_asked.hold_asked m l rs r t n p x ask).free)))))
        (λ lost. stays (kinds.Hold t n) go (subst (AllAre leaves_logs) (sym lost.1) (refl, tt)))
        (heads_out (kinds.Hold t n) go)

    outside_writes : (kind : EventKind) → outside_ask m l rs r kind p ≡ Some x → Go kind → Written
    outside_writes (kinds.PrivateStore slot word number) ask go = store slot word number ask go
    outside_writes (kinds.Hold t n) ask go = hold t n ask go
    outside_writes kind ask go = stays kind go (outside_logs m l a r kind p found go.heads refl (heads_out kind go))

  by_run : (o : Option RunState) → p.run ≡ o → (kind : EventKind) → ask_by m l rs r kind p o ≡ Some x → Go kind → Written
  by_run None none kind ask go = outside_writes none kind ask go
  by_run (Some q) at kind ask go = by (is_open_run q) refl
    where
      by : (b : Bool) → is_open_run q ≡ b → Written
      by true opened = line_writes q at opened kind go
          (sym (ap (λ b. if b then line_ask m l kind p.nodes.free p.blocks.free q (next_of m q) else opening_ask kind q) opened) ∙ ask)
      by false closed = opening_writes q at closed kind go

pub steps_write : (m : Meaning) (l : Layout) (rs : List Request) → StepsWriteLogs m l rs
steps_write m l rs a a' s s' r kind joined step go d k unfree =
    by_run m l rs a a' s joined r step.ask d k unfree (s.part r).run refl kind
    (unless_gone (sizes_for m l rs) (s.part r).gone _ step.ask step.asked).1 go
