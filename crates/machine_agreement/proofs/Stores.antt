-- The private steps, the exchanges and the words of the request in a run's line, each kind of step joined.
use Rattle.std.specs.Prelude.{◌==◌, ◌||◌, nat_le, slice_index, max, ◌/◌, Bool, true, false, cond, if◌then◌else◌}
use Rattle.std.proofs.Common.{◌≡◌, inl, inr, ⊎_elim, ℕ, ◌-◌, ◌+◌, ◌*◌, List, [], ◌∷◌, ◌++◌, length, sym, refl, ap, ◌∙◌, subst, arith, Option, Some, None}
use Rattle.std.proofs.lemmas.Bool.Decides.{nat_tests}
use Rattle.machine_states.specs.map_history.specs.declared.op.Request.{Request}
use Rattle.machine_states.specs.body_terms.specs.declared.micro.Micro.{Micro}
use Rattle.machine_states.specs.body_terms.specs.declared.micro.Micro.TheVariants as micros
use Rattle.machine_states.specs.body_terms.specs.Update.{upd}
use Rattle.machine_states.specs.body_terms.specs.Line.{is_event}
use Rattle.machine_states.specs.body_terms.specs.Memory.{cell_of}
use Rattle.machine_states.specs.body_terms.specs.Run.{written_once, source_value}
use Rattle.machine_states.specs.body_terms.specs.Word.{version_of, value_of, next_word, held_word}
use Rattle.machine_states.specs.body_terms.specs.declared.micro.Source.{Source}
use Rattle.machine_states.specs.body_terms.specs.declared.micro.Source.TheVariants.{Fixed, Agreed}
use Rattle.machine_states.specs.table_words.specs.declared.layout.Layout.{Layout}
use Rattle.machine_states.specs.table_words.specs.declared.spot.Spot.{Spot}
use Rattle.machine_states.specs.table_words.specs.declared.spot.Spot.TheVariants as spots
use Rattle.machine_states.specs.table_words.specs.declared.access.Access.{Access}
use Rattle.machine_states.specs.table_words.specs.declared.access.Access.TheVariants.{Loads, Stores, Exchanges, Raises}
use Rattle.machine_states.specs.table_words.specs.Seen.{put}
use Rattle.machine_states.specs.table_words.specs.Seen as table
use Rattle.machine_states.specs.structure_laws.specs.Meaning.{Meaning}
use Rattle.machine_states.specs.runner_parts.specs.declared.event.EventKind.{EventKind}
use Rattle.machine_states.specs.runner_parts.specs.declared.event.EventKind.TheVariants as kinds
use Rattle.machine_states.specs.runner_parts.specs.State.{RunState, RecordsState, PartState}
use Rattle.machine_states.specs.runner_parts.specs.Tests.{has_pair}
use Rattle.machine_states.specs.runner_parts.specs.Lists.{learned}
use Rattle.machine_states.specs.runner_steps.specs.Sections.{thunk_of, is_open_run, next_of, needs_link}
use Rattle.machine_states.specs.runner_steps.specs.InRun.{fill_store_ask, stamp_after, is_slot}
use Rattle.machine_states.specs.runner_steps.specs.Asks.{asks}
use Rattle.machine_states.specs.runner_steps.specs.After.{after, line_after}
use Rattle.machine_states.specs.runner_steps.specs.Outside.{block_spot, blocks_from}
use Rattle.machine_states.specs.body_terms.specs.block_words.specs.Blocks.{link_spot}
use Rattle.machine_states.specs.runner_steps.specs.AfterInRun.{fill_loaded}
use Rattle.machine_states.specs.runner_steps.specs.AfterInRun as run_steps
use Rattle.agreement_core.specs.State.{CellRules, Shared, Run, AgreementState, section_of}
use Rattle.agreement_core.specs.Events as events
use Rattle.agreement_core.specs.Checks.{source_in, stored_word, exchanged}
use Rattle.agreement_core.specs.Events.{IsBefore, IsPrivateStore, goes_on, with_cell, reads}
use Rattle.machine_states.specs.Sight.{Sight, sight_after}
use Rattle.machine_epochs.proofs.RunPlaces.{is_of_end}
use Rattle.machine_scenes.specs.Shown.{rules_of}
use Rattle.machine_agreement.specs.Joined.{IsRunOf, ShowsWords, IsJoinedToAgreement}
use Rattle.machine_agreement.proofs.RunPlaces as places
use Rattle.machine_agreement.proofs.LineAsked as asked
use Rattle.machine_agreement.proofs.Frames.{IsOwnPart}
use Rattle.machine_agreement.specs.Chunks.{IsLineChunk}
use Rattle.machine_agreement.specs.Goes.{Goes}
use Rattle.machine_agreement.proofs.Assembly.{LeadBy}
use Rattle.machine_agreement.proofs.LineKinds.{step_goes, one, load_words, load_sections, load_thunks, all, after_line, word_after, noting, noted_finished}
use Rattle.machine_agreement.proofs.Linking.{links_goes}
use Rattle.machine_agreement.proofs.Words.{SameWords, link_same, block_same}
use Rattle.machine_agreement.proofs.Components.{own_then, own_shared, goes_on_own, goes_on_run, goes_on_sections, reads_own, reads_more, with_cell_own}

module _ (m : Meaning) (l : Layout) (rs : List Request) (w : AgreementState) (s : Sight) (old : IsJoinedToAgreement m l w s) (r : ℕ) (q : RunState) (is : (s.part r).run ≡ Some q) (opened : is_open_run q ≡ true) where
  abbrev c : CellRules
  c = rules_of m l

  -- the step leads to a joined state, by the events of its kind
  abbrev After : EventKind → Spot × Access → Type 0
  After kind x = (heads : List events.Event) × IsLineChunk m l w r kind (s.part r) q (s.word x.0) heads × Goes m l r heads w (sight_after m l s r kind x)

  before : (micro : Micro) → is_of_end micro ≡ false → is_event micro ≡ true → next_of m q ≡ micro → IsBefore w r micro
  before micro inner event next = places.before m l w s old r q is (all m l rs w s old r q is opened) micro inner event next

  run_here : IsRunOf (w.run r) q
  run_here = places.run_here m l w s old r q is

  -- the part after a Make's load of a cell of this slot
  filled : ℕ → ℕ → Option ℕ → RunState
  filled slot found None = record q { made = Some slot; worn = false; at = q.at + 1; word = found }
  filled slot found (Some t) = record q { at = q.at + 1; word = found }

  module _ (slot word k : ℕ) where
    abbrev p : ℕ
    p = cell_of m.fixed_cells slot word

    abbrev found : ℕ
    found = s.word (spots.Cell p)

    abbrev loaded : AgreementState
    loaded = reads (goes_on w r (w.shared.cells p)) p

    loaded_run : (q1 : RunState) → q1.descriptor ≡ q.descriptor → q1.at ≡ q.at + 1 → q1.word ≡ found → q1.trail ≡ q.trail → q1.ended ≡ q.ended → IsRunOf (loaded.run r) q1
    loaded_run q1 d a n t e =
        let run = goes_on_run w r q (w.shared.cells p) run_here in record {
          running = run.running;
          descriptor = run.descriptor ∙ sym d;
          at = run.at ∙ sym a;
          word = run.word ∙ (old.words.cells p ∙ sym n);
          count = run.count ∙ ap length (sym t);
          trail = λ i. run.trail i ∙ ap (λ xs. slice_index xs i) (sym t);
          ended = run.ended ∙ ap (nat_le 1) (sym e);
        }

    fill_goes : (x : Spot × Access) (micro : Micro) → next_of m q ≡ micros.PrivateLoad word k → (q1 : RunState) → q1.descriptor ≡ q.descriptor → q1.opened ≡ q.opened → q1.at ≡ q.at + 1 → q1.word ≡ found → q1.trail ≡ q.trail → q1.ended ≡ q.ended
        → IsOwnPart m l (s.part r) (line_after m l (kinds.PrivateLoad slot word) (s.part r) q (micros.PrivateLoad word k) found) q1
        → (line_after m l (kinds.PrivateLoad slot word) (s.part r) q (micros.PrivateLoad word k) found).reads.cells ≡ (s.part r).reads.cells
        → After (kinds.PrivateLoad slot word) (spots.Cell p, Loads)
    fill_goes x micro next q1 d o a n t e own cells = (
      events.PrivateLoad r word k p ∷ [],
      (k, next, refl),
      step_goes m l rs w s old r q is opened (events.PrivateLoad r word k p ∷ []) (kinds.PrivateLoad slot word) (spots.Cell p, Loads) (micros.PrivateLoad word k) q1 loaded next refl refl
          (one m l rs w s old r q is opened (events.PrivateLoad r word k p) (before (micros.PrivateLoad word k) refl refl next))
          (own_then w (goes_on w r (w.shared.cells p)) loaded r (goes_on_own w r (w.shared.cells p)) (reads_own (goes_on w r (w.shared.cells p)) r p))
          (loaded_run q1 d a n t e) e d o own
          (let y = load_words m l rs w s old r q is opened (spots.Cell p) in record { cells = y.cells; clock = y.clock; stamp = y.stamp; reply = y.reply })
          (load_sections m l rs w s old r q is opened (spots.Cell p) loaded (goes_on_sections w r (w.shared.cells p) s.word old.sections)) (load_thunks m l rs w s old r q is opened (spots.Cell p))
          (λ place word has. (reads_own (goes_on w r (w.shared.cells p)) r p).seen place word ((old.tied r).read place word (subst (λ xs. has_pair xs place word ≡ true) cells has))),
    )

    fill_by : (made : Option ℕ) → q.made ≡ made → next_of m q ≡ micros.PrivateLoad word k → After (kinds.PrivateLoad slot word) (spots.Cell p, Loads)
    fill_by None made next =
        let same : line_after m l (kinds.PrivateLoad slot word) (s.part r) q (micros.PrivateLoad word k) found ≡ fill_loaded m l slot (s.part r) q None found = ap (λ o. fill_loaded m l slot (s.part r) q o found) made in
        fill_goes (spots.Cell p, Loads) (micros.PrivateLoad word k) next (record q { made = Some slot; worn = false; at = q.at + 1; word = found }) refl refl refl refl refl refl
        (record { run = ap (λ (x : PartState). x.run) same; published = ap (λ (x : PartState). x.published) same; finished = ap (λ (x : PartState). x.records.finished) same })
        (ap (λ (x : PartState). x.reads.cells) same)
    fill_by (Some t) made next =
        let same : line_after m l (kinds.PrivateLoad slot word) (s.part r) q (micros.PrivateLoad word k) found ≡ fill_loaded m l slot (s.part r) q (Some t) found = ap (λ o. fill_loaded m l slot (s.part r) q o found) made in
        fill_goes (spots.Cell p, Loads) (micros.PrivateLoad word k) next (record q { at = q.at + 1; word = found }) refl refl refl refl refl refl
        (record { run = ap (λ (x : PartState). x.run) same; published = ap (λ (x : PartState). x.published) same; finished = ap (λ (x : PartState). x.records.finished) same })
        (ap (λ (x : PartState). x.reads.cells) same)

  pub private_load : (slot word : ℕ) (x : Spot × Access) → asks m l rs r (kinds.PrivateLoad slot word) (s.part r) ≡ Some x → After (kinds.PrivateLoad slot word) x
  private_load slot word x e =
      let h = asked.fill_load_asked q x m l slot word (s.part r).nodes.free (next_of m q) (asked.line_asked m l rs r (kinds.PrivateLoad slot word) (s.part r) q x e is opened) in
      subst (After (kinds.PrivateLoad slot word)) h.3 (fill_by slot word h.0 q.made refl h.1)

  -- the words after a cell was changed
  changed_words : (x : Shared) (p v n : ℕ) → x.cells ≡ w.shared.cells → x.clock ≡ w.shared.clock → x.stamp ≡ w.shared.stamp → x.reply ≡ w.shared.reply → v ≡ n
      → ShowsWords (record x { cells = upd x.cells p v }) (put s.word (spots.Cell p) n)
  changed_words x p v n cells clock stamp reply e = record {
    cells = λ i. ap (λ (f : ℕ → ℕ). upd f p v i) cells ∙ (ap (cond (i == p) v) (old.words.cells i) ∙ ap (λ k. cond (i == p) k (s.word (spots.Cell i))) e);
    clock = clock ∙ old.words.clock;
    stamp = λ i. ap (λ (f : ℕ → ℕ). f i) stamp ∙ old.words.stamp i;
    reply = λ i. ap (λ (f : ℕ → ℕ). f i) reply ∙ old.words.reply i;
  }

  filled_store : (slot word number : ℕ) (x : Spot × Access) → fill_store_ask m l slot word number q (next_of m q) ≡ Some x
      → IsPrivateStore c w (cell_of m.fixed_cells slot word) number → After (kinds.PrivateStore slot word number) x
  filled_store slot word number x e supplied =
      let h = asked.fill_store_asked q x m l slot word number (next_of m q) e in
      let p = cell_of m.fixed_cells slot word in
      let w1 = with_cell (goes_on w r ((w.run r).word)) p number in
      subst (After (kinds.PrivateStore slot word number)) h.6 (
        events.PrivateStore r word h.0 h.1 p number ∷ [],
        inr (h.0, h.1, h.2, own_slot q.made slot h.3, refl),
        step_goes m l rs w s old r q is opened (events.PrivateStore r word h.0 h.1 p number ∷ []) (kinds.PrivateStore slot word number) (spots.Cell p, Stores number) (micros.PrivateStore word h.0 h.1)
            (record q { worn = q.worn || version_of number == l.version_max; at = q.at + 1; word = q.word }) w1 h.2 refl refl
            (one m l rs w s old r q is opened (events.PrivateStore r word h.0 h.1 p number) (before (micros.PrivateStore word h.0 h.1) refl refl h.2, supplied))
            (own_then w (goes_on w r ((w.run r).word)) w1 r (goes_on_own w r ((w.run r).word)) (with_cell_own (goes_on w r ((w.run r).word)) r p number))
            (moved_run (w.run r).word run_here.word) refl refl refl (record { run = refl; published = refl; finished = refl })
            (changed_words w.shared p number number refl refl refl refl refl) (goes_on_sections w r ((w.run r).word) (put s.word (spots.Cell p) number) (λ d. record { done = (old.sections d).done })) (λ d j. refl)
            (λ place found has. (old.tied r).read place found has),
      )
    where
      own_slot : (made : Option ℕ) (slot : ℕ) → is_slot made slot ≡ true → made ≡ Some slot
      own_slot None slot e = absurd (let no = e in cc)
      own_slot (Some t) slot e = let same : t ≡ slot = equal t slot e in ap (λ k. Some k) same
        where
          equal : (a b : ℕ) → (a == b) ≡ true → a ≡ b
          equal a b e = grind (arith, nat_tests)

      moved_run : (n : ℕ) → n ≡ q.word → IsRunOf ((goes_on w r n).run r) (record q { worn = q.worn || version_of number == l.version_max; at = q.at + 1; word = q.word })
      moved_run n e = let run = goes_on_run w r q n run_here in record { running = run.running; descriptor = run.descriptor; at = run.at; word = run.word ∙ e; count = run.count; trail = run.trail; ended = run.ended }

  -- a step by which the run links a block
  links : (kind : EventKind) (x : Spot × Access) (blocks : List ℕ) (block : Option ℕ) (emptied : ℕ) (won : List ℕ) → SameWords s.word (word_after m l rs w s old r q is opened x)
      → line_after m l kind (s.part r) q (next_of m q) (s.word x.0) ≡ record (s.part r) { run = Some (record q { links = blocks; block = block; emptied = emptied; won = won }) }
      → Goes m l r [] w (record { word = word_after m l rs w s old r q is opened x; part = table.upd s.part r (after m l r kind x.0 x.1 (s.part r) (s.word x.0)) })
  links kind x blocks block emptied won same part =
      let words = word_after m l rs w s old r q is opened x in
      let left = line_after m l kind (s.part r) q (next_of m q) (s.word x.0) in
      subst (λ (y : PartState). Goes m l r [] w (record { word = words; part = table.upd s.part r y })) (sym (after_line m l r kind x (s.part r) (s.word x.0) q (next_of m q) is opened refl))
      (links_goes m l w s old r q is blocks block emptied won words (noting m l r kind x.0 x.1 (s.word x.0) (s.part r) left) same
      (ap (λ (y : PartState). y.run) part) (noted_finished l r kind x.0 x.1 (s.word x.0) left.records ∙ ap (λ (y : PartState). y.records.finished) part) (ap (λ (y : PartState). y.reads) part))

  pub link_commit : (b : ℕ) (x : Spot × Access) → asks m l rs r (kinds.LinkCommit b) (s.part r) ≡ Some x → After (kinds.LinkCommit b) x
  link_commit b x e =
      let a = link_spot q.descriptor q.links (length q.links) in
      subst (After (kinds.LinkCommit b)) (asked.link_asked q x l b (next_of m q) (asked.line_asked m l rs r (kinds.LinkCommit b) (s.part r) q x e is opened))
      ([], refl, links (kinds.LinkCommit b) (a, Exchanges 0 (b + 1)) _ None 0 _ (link_same s.word _ q.descriptor q.links (length q.links)) refl)

  pub private_store : (slot word number : ℕ) (x : Spot × Access) → asks m l rs r (kinds.PrivateStore slot word number) (s.part r) ≡ Some x
      → (needs_link q (next_of m q) ≡ false → IsPrivateStore c w (cell_of m.fixed_cells slot word) number) → After (kinds.PrivateStore slot word number) x
  private_store slot word number x e supplied = ⊎_elim
      (λ link.
      let kind : EventKind = kinds.PrivateStore slot word number in
      let a = block_spot (slot - blocks_from m l) word in
      subst (After kind) link.1 (
        [],
        inl (link.0, refl),
        links kind (a, Stores number) q.links (Some (slot - blocks_from m l)) (run_steps.emptied_more q) q.won (block_same s.word number (slot - blocks_from m l) word)
            (ap (λ b. run_steps.with_run (s.part r) (if b then run_steps.block_emptied (slot - blocks_from m l) q else run_steps.filled m l number q)) link.0),
      ))
      (λ fills. filled_store slot word number x fills.1 (supplied fills.0))
      (asked.run_store_asked q x m l slot word number (s.part r).blocks.free (next_of m q) (asked.line_asked m l rs r (kinds.PrivateStore slot word number) (s.part r) q x e is opened))

  -- the run behind its step, which goes by the same number
  behind : RunState
  behind = record q { at = q.at + 1; word = q.word }

  behind_run : (v : AgreementState) (n : ℕ) → v.run ≡ w.run → n ≡ q.word → IsRunOf ((goes_on v r n).run r) (record q { at = q.at + 1; word = q.word })
  behind_run v n same e = subst (λ k. IsRunOf ((goes_on v r n).run r) (record q { at = q.at + 1; word = k })) e (goes_on_run v r q n (subst (λ (f : ℕ → Run). IsRunOf (f r) q) (sym same) run_here))

  -- two events of the component, the first of which is that a cell is read
  module _ (p : ℕ) where
    abbrev w0 : AgreementState
    w0 = reads w p

    then_one : (e : events.Event) → events.Enabled c w0 e → LeadBy m l (events.Read p ∷ e ∷ []) w (events.after w0 e)
    then_one e enabled = record { enabled = (tt, (enabled, tt)); there = refl }

    -- the cell changes, and the run goes on
    exchange_goes : (kind : EventKind) (old_word new_word new : ℕ) (micro : Micro) (e : events.Event) → next_of m q ≡ micro → is_event micro ≡ true → is_of_end micro ≡ false
        → events.after w0 e ≡ with_cell (goes_on w0 r ((w.run r).word)) p new → events.Enabled c w0 e → new ≡ exchanged (s.word (spots.Cell p)) old_word new_word
        → IsOwnPart m l (s.part r) (line_after m l kind (s.part r) q micro (s.word (spots.Cell p))) (record q { at = q.at + 1; word = q.word })
        → (line_after m l kind (s.part r) q micro (s.word (spots.Cell p))).reads.cells ≡ (s.part r).reads.cells ++ (p, s.word (spots.Cell p)) ∷ []
        → Goes m l r (events.Read p ∷ e ∷ []) w (record { word = put s.word (spots.Cell p) (exchanged (s.word (spots.Cell p)) old_word new_word); part = table.upd s.part r (after m l r kind (spots.Cell p) (Exchanges old_word new_word) (s.part r) (s.word (spots.Cell p))) })
    exchange_goes kind old_word new_word new micro e next event inner there enabled same own cells =
        let w1 = with_cell (goes_on w0 r ((w.run r).word)) p new in
        step_goes m l rs w s old r q is opened (events.Read p ∷ e ∷ []) kind (spots.Cell p, Exchanges old_word new_word) micro (record q { at = q.at + 1; word = q.word }) w1 next event inner
        (subst (LeadBy m l (events.Read p ∷ e ∷ []) w) there (then_one e enabled))
        (own_then w w0 w1 r (reads_own w r p) (own_then w0 (goes_on w0 r ((w.run r).word)) w1 r (goes_on_own w0 r ((w.run r).word)) (with_cell_own (goes_on w0 r ((w.run r).word)) r p new)))
        (behind_run w0 (w.run r).word refl run_here.word) refl refl refl own
        (changed_words w0.shared p new (exchanged (s.word (spots.Cell p)) old_word new_word) refl refl refl refl same)
        (goes_on_sections w0 r ((w.run r).word) (put s.word (spots.Cell p) (exchanged (s.word (spots.Cell p)) old_word new_word)) (λ d. record { done = (old.sections d).done })) (λ d j. refl)
        (reads_more w p (s.word (spots.Cell p)) (s.part r).reads.cells _ (old.words.cells p) cells (λ place found has. (old.tied r).read place found has))

  before_read : (p : ℕ) (micro : Micro) → IsBefore w r micro → IsBefore (reads w p) r micro
  before_read p micro b = record { running = b.running; going = b.going; next = b.next }

  -- what a store writes is what the machine's does
  same_source : (v : Source) → source_in ((w.run r).trail) v ≡ source_value q.trail v
  same_source (Fixed number) = refl
  same_source (Agreed k) = ap value_of (run_here.trail k)

  same_stored : (k : ℕ) (v : Source) → stored_word ((w.run r).trail) k v ≡ next_word (slice_index q.trail k) (source_value q.trail v)
  same_stored k v = ap (λ n. next_word n (source_in ((w.run r).trail) v)) (run_here.trail k) ∙ ap (next_word (slice_index q.trail k)) (same_source v)

  pub exchange_cell : (x : Spot × Access) → asks m l rs r kinds.ExchangeCell (s.part r) ≡ Some x → After kinds.ExchangeCell x
  exchange_cell x e =
      let h = asked.exchange_asked q x l (next_of m q) (asked.line_asked m l rs r kinds.ExchangeCell (s.part r) q x e is opened) in
      let from = slice_index q.trail h.1 in let to = next_word from (source_value q.trail h.2) in
      subst (After kinds.ExchangeCell) h.4 (
        events.Read h.0 ∷ events.ExchangeCell r h.0 h.1 h.2 ∷ [],
        (h.0, h.1, h.2, h.3, refl),
        exchange_goes h.0 kinds.ExchangeCell from to (exchanged (w.shared.cells h.0) ((w.run r).trail h.1) (stored_word ((w.run r).trail) h.1 h.2)) (micros.ExchangeCell h.0 h.1 h.2) (events.ExchangeCell r h.0 h.1 h.2) h.3 refl refl
            refl (before_read h.0 (micros.ExchangeCell h.0 h.1 h.2) (before (micros.ExchangeCell h.0 h.1 h.2) refl refl h.3))
            (ap (λ n. exchanged n ((w.run r).trail h.1) (stored_word ((w.run r).trail) h.1 h.2)) (old.words.cells h.0)
            ∙ (ap (λ n. exchanged (s.word (spots.Cell h.0)) n (stored_word ((w.run r).trail) h.1 h.2)) (run_here.trail h.1) ∙ ap (exchanged (s.word (spots.Cell h.0)) from) (same_stored h.1 h.2)))
            (record { run = refl; published = refl; finished = refl }) refl,
      )

  pub nested_hold : (x : Spot × Access) → asks m l rs r kinds.NestedHold (s.part r) ≡ Some x → After kinds.NestedHold x
  nested_hold x e =
      let h = asked.nested_hold_asked q x l (next_of m q) (asked.line_asked m l rs r kinds.NestedHold (s.part r) q x e is opened) in
      subst (After kinds.NestedHold) h.3 (
        events.Read h.0 ∷ events.NestedHold r h.0 h.1 ∷ [],
        (h.0, h.1, h.2, refl),
        exchange_goes h.0 kinds.NestedHold h.1 (held_word q.descriptor h.1) (exchanged (w.shared.cells h.0) h.1 (held_word ((w.run r).descriptor) h.1)) (micros.NestedHold h.0 h.1) (events.NestedHold r h.0 h.1) h.2 refl refl
            refl (before_read h.0 (micros.NestedHold h.0 h.1) (before (micros.NestedHold h.0 h.1) refl refl h.2))
            (ap (λ n. exchanged n h.1 (held_word ((w.run r).descriptor) h.1)) (old.words.cells h.0) ∙ ap (λ d. exchanged (s.word (spots.Cell h.0)) h.1 (held_word d h.1)) run_here.descriptor)
            (record { run = refl; published = refl; finished = refl }) refl,
      )

  -- the words of the request: its section has the same one as the run's thunk
  own_request : (section_of w r).request ≡ (thunk_of q.opened).request
  own_request = ap (λ d. (w.section d).request) run_here.descriptor ∙ (places.of_thunk m l w s old r q is (all m l rs w s old r q is opened)).request

  learned_finished : (records : RecordsState) (request : ℕ) (reply : Bool) (n : ℕ) → (learned records request reply n).finished ≡ records.finished
  learned_finished records request reply n = by (n == 0)
    where
      by : (b : Bool) → (if b then records else record records { known = records.known ++ record { request = request; reply = reply; number = n } ∷ [] }).finished ≡ records.finished
      by true = refl
      by false = refl

  pub stamp_exchange : (x : Spot × Access) → asks m l rs r kinds.StampExchange (s.part r) ≡ Some x → After kinds.StampExchange x
  stamp_exchange x e =
      let h = asked.stamp_asked q x (next_of m q) (asked.line_asked m l rs r kinds.StampExchange (s.part r) q x e is opened) in
      let request = (thunk_of q.opened).request in
      let found = s.word (spots.Stamp request) in
      let stamp = written_once found (stamp_after q.word) in
      let mine = written_once (w.shared.stamp ((section_of w r).request)) (2 * ((w.run r).word + 1)) in
      let same : mine ≡ stamp = ap (λ n. written_once (w.shared.stamp n) (2 * ((w.run r).word + 1))) own_request
      ∙ (ap (λ n. written_once n (2 * ((w.run r).word + 1))) (old.words.stamp request) ∙ ap (λ n. written_once found (2 * (n + 1))) run_here.word) in
      let next : line_after m l kinds.StampExchange (s.part r) q micros.StampExchange found
      ≡ record (s.part r) { run = Some (run_steps.goes_on m l q stamp); records = learned (s.part r).records request false stamp }
      = ap (λ b. if b then record (s.part r) { run = Some (run_steps.goes_on m l q stamp); records = learned (s.part r).records request false stamp } else s.part r) h.1 in
      let w1 = record (goes_on w r mine) { shared = record (w.shared) { stamp = upd w.shared.stamp ((section_of w r).request) mine } } in
      subst (After kinds.StampExchange) h.2 (
        events.StampExchange r ∷ [],
        (h.0, refl),
        step_goes m l rs w s old r q is opened (events.StampExchange r ∷ []) kinds.StampExchange (spots.Stamp request, Exchanges 0 (stamp_after q.word)) micros.StampExchange (record q { at = q.at + 1; word = stamp }) w1 h.0 refl refl
            (one m l rs w s old r q is opened (events.StampExchange r) (before micros.StampExchange refl refl h.0))
            (own_then w (goes_on w r mine) w1 r (goes_on_own w r mine) (own_shared (goes_on w r mine) r (record (w.shared) { stamp = upd w.shared.stamp ((section_of w r).request) mine }) (λ p word seen. seen)))
            (subst (λ n. IsRunOf ((goes_on w r mine).run r) (record q { at = q.at + 1; word = n })) same (goes_on_run w r q mine run_here)) refl refl refl
            (record {
              run = ap (λ (p : PartState). p.run) next;
              published = ap (λ (p : PartState). p.published) next;
              finished = ap (λ (p : PartState). p.records.finished) next ∙ learned_finished (s.part r).records request false stamp;
            })
            (record {
              cells = old.words.cells;
              clock = old.words.clock;
              reply = old.words.reply;
              stamp = λ i. ap (λ k. upd w.shared.stamp k mine i) own_request ∙ (ap (λ k. upd w.shared.stamp request k i) same ∙ ap (cond (i == request) stamp) (old.words.stamp i));
            })
            (goes_on_sections w r mine (put s.word (spots.Stamp request) stamp) (λ d. record { done = (old.sections d).done })) (λ d j. refl)
            (λ place word has. (old.tied r).read place word (subst (λ xs. has_pair xs place word ≡ true) (ap (λ (p : PartState). p.reads.cells) next) has)),
      )

  pub clock_raise : (x : Spot × Access) → asks m l rs r kinds.ClockRaise (s.part r) ≡ Some x → After kinds.ClockRaise x
  clock_raise x e =
      let h = asked.clock_raise_asked q x (next_of m q) (asked.line_asked m l rs r kinds.ClockRaise (s.part r) q x e is opened) in
      let n = (w.run r).word in
      let w1 = record (goes_on w r n) { shared = record (w.shared) { clock = max w.shared.clock (n / 2) } } in
      subst (After kinds.ClockRaise) h.1 (
        events.ClockRaise r ∷ [],
        (h.0, refl),
        step_goes m l rs w s old r q is opened (events.ClockRaise r ∷ []) kinds.ClockRaise (spots.Clock, Raises (q.word / 2)) micros.ClockRaise (record q { at = q.at + 1; word = q.word }) w1 h.0 refl refl
            (one m l rs w s old r q is opened (events.ClockRaise r) (before micros.ClockRaise refl refl h.0))
            (own_then w (goes_on w r n) w1 r (goes_on_own w r n) (own_shared (goes_on w r n) r (record (w.shared) { clock = max w.shared.clock (n / 2) }) (λ p word seen. seen)))
            (behind_run w n refl run_here.word) refl refl refl (record { run = refl; published = refl; finished = refl })
            (record { cells = old.words.cells; stamp = old.words.stamp; reply = old.words.reply; clock = ap (λ k. max k (n / 2)) old.words.clock ∙ ap (λ k. max (s.word spots.Clock) (k / 2)) run_here.word })
            (goes_on_sections w r n (put s.word spots.Clock (max (s.word spots.Clock) (q.word / 2))) (λ d. record { done = (old.sections d).done })) (λ d j. refl)
            (λ place word has. (old.tied r).read place word has),
      )

  pub reply_exchange : (x : Spot × Access) → asks m l rs r kinds.ReplyExchange (s.part r) ≡ Some x → After kinds.ReplyExchange x
  reply_exchange x e =
      let h = asked.reply_asked q x (next_of m q) (asked.line_asked m l rs r kinds.ReplyExchange (s.part r) q x e is opened) in
      let request = (thunk_of q.opened).request in
      let found = s.word (spots.Reply request) in
      let reply = written_once found h.0 in
      let mine = written_once (w.shared.reply ((section_of w r).request)) h.0 in
      let same : mine ≡ reply = ap (λ n. written_once (w.shared.reply n) h.0) own_request ∙ ap (λ n. written_once n h.0) (old.words.reply request) in
      let n = (w.run r).word in
      let w1 = record (goes_on w r n) { shared = record (w.shared) { reply = upd w.shared.reply ((section_of w r).request) mine } } in
      subst (After kinds.ReplyExchange) h.2 (
        events.ReplyExchange r h.0 ∷ [],
        (h.0, h.1, refl),
        step_goes m l rs w s old r q is opened (events.ReplyExchange r h.0 ∷ []) kinds.ReplyExchange (spots.Reply request, Exchanges 0 h.0) (micros.ReplyExchange h.0) (record q { at = q.at + 1; word = q.word }) w1 h.1 refl refl
            (one m l rs w s old r q is opened (events.ReplyExchange r h.0) (before (micros.ReplyExchange h.0) refl refl h.1))
            (own_then w (goes_on w r n) w1 r (goes_on_own w r n) (own_shared (goes_on w r n) r (record (w.shared) { reply = upd w.shared.reply ((section_of w r).request) mine }) (λ p word seen. seen)))
            (behind_run w n refl run_here.word) refl refl refl
            (record { run = refl; published = refl; finished = learned_finished (s.part r).records request true reply })
            (record {
              cells = old.words.cells;
              clock = old.words.clock;
              stamp = old.words.stamp;
              reply = λ i. ap (λ k. upd w.shared.reply k mine i) own_request ∙ (ap (λ k. upd w.shared.reply request k i) same ∙ ap (cond (i == request) reply) (old.words.reply i));
            })
            (goes_on_sections w r n (put s.word (spots.Reply request) reply) (λ d. record { done = (old.sections d).done })) (λ d j. refl)
            (λ place word has. (old.tied r).read place word has),
      )
