-- The kinds of step on the board, by which node slots go from runner to runner.
use Rattle.std.specs.Prelude.{◌==◌, ◌%◌, ◌^◌, cond, Bool, true, false}
use Rattle.std.proofs.Common.{◌≡◌, ℕ, suc, ◌+◌, ◌-◌, ◌<◌, ◌≤◌, List, [], ◌∷◌, ◌++◌, refl, sym, ap, ◌∙◌, subst, arith, ⊎_elim, Some, None}
use Rattle.std.proofs.lemmas.Bool.{cases_eq}
use Rattle.section_lines.specs.small_lemmas.proofs.Numbers.{tested_equal as same_number}
use Rattle.machine_states.specs.body_terms.specs.Word.{value_of}
use Rattle.machine_states.specs.table_words.specs.declared.layout.Layout.{Layout}
use Rattle.machine_states.specs.table_words.specs.declared.spot.Spot.{Spot}
use Rattle.machine_states.specs.table_words.specs.declared.spot.Spot.TheVariants.{Board}
use Rattle.machine_states.specs.table_words.specs.declared.access.Access.{Access}
use Rattle.machine_states.specs.table_words.specs.Seen.{upd, put}
use Rattle.machine_states.specs.structure_laws.specs.Meaning.{Meaning}
use Rattle.machine_states.specs.runner_parts.specs.declared.event.EventKind.TheVariants as kinds
use Rattle.machine_states.specs.runner_parts.specs.State.{PartState, RecordsState}
use Rattle.machine_states.specs.runner_parts.specs.Tests.{has}
use Rattle.machine_states.specs.runner_parts.specs.Lists.{without, slot_given, slot_drawn}
use Rattle.machine_states.specs.runner_steps.specs.Outside.{descriptor_spot}
use Rattle.machine_states.specs.runner_steps.specs.Board.{free_if, board_load_ask, board_take_ask, board_give_ask}
use Rattle.machine_states.specs.epoch_core.specs.declared.location.Location.{Location}
use Rattle.machine_states.specs.epoch_core.specs.declared.location.Location.TheVariants.{Hand, Free, OnBoard}
use Rattle.machine_states.specs.epoch_core.specs.State.{EpochState}
use Rattle.machine_states.specs.epoch_core.specs.Events as events
use Rattle.machine_states.specs.epoch_core.specs.Events.{slot_of}
use Rattle.machine_states.specs.epoch_core.specs.Schedules.{AllEnabled, after_all}
use Rattle.machine_states.specs.epoch_core.specs.Sound.{is_for_nodes}
use Rattle.machine_states.specs.epoch_core.specs.History.{is_out}
use Rattle.machine_states.specs.epoch_core.specs.Lists.{Lists, listed_all}
use Rattle.machine_states.specs.Sight.{Sight}
use Rattle.machine_states.proofs.Updates.{upd_here, upd_else, map_upd}
use Rattle.machine_epochs.specs.Entries.{counts_of}
use Rattle.machine_epochs.specs.Slots.{lists_of, ShowsEntries, ShowsBoard}
use Rattle.machine_epochs.specs.Joined.{IsTied, IsJoinedToEpochs}
use Rattle.machine_epochs.proofs.BoardAsked as asked
use Rattle.machine_epochs.proofs.Places.{has_times, free_node}
use Rattle.machine_epochs.proofs.Joining.{section_same, Goes, GoesBy, IsElsewhere, next, as_published, once, stages_stay, goes_with}
use Rattle.machine_epochs.proofs.SlotKinds.{other_place, this_place, kept_place}
use Rattle.machine_epochs.proofs.OutsideKinds.{Leads, notes}

same_board : (i j : ℕ) → OnBoard i ≡ OnBoard j → i ≡ j
same_board i j e = cc

unfree : {B : Type 0} {r i : ℕ} → Free r ≡ OnBoard i → B
unfree e = absurd (let x = e in cc)

module _ (m : Meaning) (l : Layout) (w : EpochState) (s : Sight) (old : IsJoinedToEpochs m l w s) (r : ℕ) (none : (s.part r).run ≡ None) where
  abbrev p : PartState
  p = s.part r

  abbrev on : ℕ → ℕ
  on i = s.word (Board i)

  -- a node slot goes from its place to another one, neither of which is a hand, and the runner's free list becomes this one
  module _ (word v t : ℕ) (node : t < (counts_of m l).nodes) (place before : Location) (at : w.location t ≡ before) (unhand : (i : ℕ) → before ≡ Hand i → ⊥)
      (free : List ℕ) (records : RecordsState) where
    abbrev f : Spot → ℕ
    f = put s.word (Board word) v

    abbrev p' : PartState
    p' = record p { nodes = record (p.nodes) { free = free }; records = records }

    abbrev w' : EpochState
    w' = record w { location = upd w.location t place }

    descriptor_place : (d : ℕ) → upd w.location t place (slot_of (counts_of m l) d) ≡ w.location (slot_of (counts_of m l) d)
    descriptor_place d = let low = node in other_place w.location t (slot_of (counts_of m l) d) place (λ e. absurd (omega arith))

    moves : (es : List events.Event) → AllEnabled (counts_of m l) w es → after_all (counts_of m l) w es ≡ w'
        → ◌≡◌ {A = ℕ → Lists} (listed_all (counts_of m l) w (λ i. lists_of (s.part i)) es) (upd (λ i. lists_of (s.part i)) r (lists_of p'))
        → ShowsBoard w' (next m l w s old r f p') → Goes m l es w (next m l w s old r f p')
    moves es ok is lists shown =
        goes_with m l w s old r es ok f p' (lists ∙ sym (map_upd lists_of s.part r p'))
        (subst (λ (v : EpochState). ShowsEntries v (next m l w s old r f p')) (sym is) (record {
          epoch = old.entries.epoch;
          announced = old.entries.announced;
          stage = stages_stay m l w s old r f p' refl;
        }))
        (subst (λ (v : EpochState). ShowsBoard v (next m l w s old r f p')) (sym is) shown)
        (λ d k out. ap (λ (v : EpochState). v.role d k) is ∙ old.roles d k (ap is_out (sym (descriptor_place d)) ∙ (ap (λ (v : EpochState). is_out (v.location (slot_of (counts_of m l) d))) (sym is) ∙ out)))
        (once m l w s old r p' (as_published m l w s old r p' refl))
        (subst (λ (v : EpochState). IsTied m l v f r p') (sym is) (record {
          run_held = λ q e. absurd (let y = sym none ∙ e in cc);
          run_opened = λ q j e low low'. absurd (let y = sym none ∙ e in cc);
          run_begins = λ q e few. absurd (let y = sym none ∙ e in cc);
          run_made = λ q u e made. absurd (let y = sym none ∙ e in cc);
          retire = (old.tied r).retire;
          published = λ y e. descriptor_place y.descriptor ∙ (old.tied r).published y e;
          run_sure = λ q e. absurd (let y = sym none ∙ e in cc);
          published_sure = (old.tied r).published_sure;
          sure = (old.tied r).sure;
          numbered = (old.tied r).numbered;
          sure_alone = (old.tied r).sure_alone;
          reached = (old.tied r).reached;
          stored_free = (old.tied r).stored_free;
          stored = λ d j n has_it last. at_descriptor d j ∙ (old.tied r).stored d j n has_it last;
        }))
        (λ i ne. subst (λ (v : EpochState). IsElsewhere m l w v s.word f i (s.part i)) (sym is) (record {
          holds = λ u h. h;
          alone = λ d h. h;
          words = λ d j h. refl;
          hand = λ u h. kept_place w.location t u place before (Hand i) at (unhand i) h;
          retire = refl;
          live = λ y e h. descriptor_place y.descriptor ∙ h;
          entered = λ h. h;
          stored = λ d j h. at_descriptor d j;
        }))
      where
        at_descriptor : (d j : ℕ) → f (descriptor_spot d j) ≡ s.word (descriptor_spot d j)
        at_descriptor d j = section_same f s.word (record { thunk = λ n k. refl; done = λ n. refl; log = λ n k. refl; link = λ n. refl }) d j

  -- a slot goes onto a word that was 0
  module _ (word slot : ℕ) (own : has p.nodes.free slot ≡ true) (empty : on word ≡ 0) (records : RecordsState) where
    node : slot < (counts_of m l).nodes
    node = below (counts_of m l).nodes slot (old.listed.free_nodes r slot) (has_times p.nodes.free slot own)
      where
        below : (n t : ℕ) {k : ℕ} → (n ≤ t → k ≡ 0) → 1 ≤ k → t < n
        below n t h some = grind arith

    at_free : w.location slot ≡ Free r
    at_free = free_node m l w s old r slot node own

    abbrev given : PartState
    given = record p { nodes = record (p.nodes) { free = without p.nodes.free slot }; records = records }

    abbrev given_state : EpochState
    given_state = record w { location = upd w.location slot (OnBoard word) }

    shown : ShowsBoard given_state (next m l w s old r (put s.word (Board word) (slot + 1)) given)
    shown = record {
      word = λ u i at. ⊎_elim
          (λ e. let same : word ≡ i = same_board word i (sym (this_place w.location slot u (OnBoard word) e) ∙ at) in
          ap (upd on word (slot + 1)) (sym same) ∙ (upd_here on word (slot + 1) ∙ omega (arith, e)))
          (λ ne. let named = old.board.word u i (sym (other_place w.location slot u (OnBoard word) ne) ∙ at) in
          upd_else on word (slot + 1) i (λ e. let zero = sym (ap on e ∙ empty) ∙ named in omega (arith, zero)) ∙ named)
          (cases_eq u slot);
      slot = λ i u named. ⊎_elim
          (λ e. let here : slot + 1 ≡ suc u = sym (ap (upd on word (slot + 1)) e ∙ upd_here on word (slot + 1)) ∙ named in
          this_place w.location slot u (OnBoard word) (omega (arith, here)) ∙ ap OnBoard (sym e))
          (λ ne. let at = old.board.slot i u (sym (upd_else on word (slot + 1) i ne) ∙ named) in
          other_place w.location slot u (OnBoard word) (λ e. unfree (sym at_free ∙ (ap w.location (sym e) ∙ at))) ∙ at)
          (cases_eq i word);
    }

    gives_it : Goes m l (events.GiveBoard r slot word ∷ []) w (next m l w s old r (put s.word (Board word) (slot + 1)) given)
    gives_it = moves word (slot + 1) slot node (OnBoard word) (Free r) at_free (λ i e. absurd (let x = e in cc)) (without p.nodes.free slot) records
        (events.GiveBoard r slot word ∷ []) ((at_free, node), tt) refl refl shown

  -- a slot comes from the word that names it
  module _ (word slot : ℕ) (at_word : w.location slot ≡ OnBoard word) (records : RecordsState) where
    named_here : on word ≡ suc slot
    named_here = old.board.word slot word at_word

    abbrev drawn : PartState
    drawn = record p { nodes = record (p.nodes) { free = p.nodes.free ++ slot ∷ [] }; records = records }

    abbrev drawn_state : EpochState
    drawn_state = record w { location = upd w.location slot (Free r) }

    left : ShowsBoard drawn_state (next m l w s old r (put s.word (Board word) 0) drawn)
    left = record {
      word = λ u i at. ⊎_elim
          (λ e. unfree (sym (this_place w.location slot u (Free r) e) ∙ at))
          (λ ne. let named = old.board.word u i (sym (other_place w.location slot u (Free r) ne) ∙ at) in
          upd_else on word 0 i (λ e. let same = sym (ap on e ∙ named_here) ∙ named in ne (omega (arith, same))) ∙ named)
          (cases_eq u slot);
      slot = λ i u named. ⊎_elim
          (λ e. absurd (let zero = sym (ap (upd on word 0) e ∙ upd_here on word 0) ∙ named in omega (arith, zero)))
          (λ ne. let at = old.board.slot i u (sym (upd_else on word 0 i ne) ∙ named) in
          other_place w.location slot u (Free r) (λ e. ne (same_board i word (sym at ∙ (ap w.location e ∙ at_word)))) ∙ at)
          (cases_eq i word);
    }

    takes_it : Goes m l (events.TakeBoard r slot word ∷ []) w (next m l w s old r (put s.word (Board word) 0) drawn)
    takes_it = moves word 0 slot (old.sound.for_nodes slot (ap is_for_nodes at_word)) (Free r) (OnBoard word) at_word (λ i e. absurd (let x = e in cc)) (p.nodes.free ++ slot ∷ []) records
        (events.TakeBoard r slot word ∷ []) (at_word, tt) refl refl left

  pub board_load : (records : RecordsState) (word : ℕ) (x : Spot × Access) → board_load_ask l r word p ≡ Some x → Leads m l w s old r none (kinds.BoardLoad word) records x
  board_load records word x e =
      subst (Leads m l w s old r none (kinds.BoardLoad word) records) (asked.board_load_asked l r word p x e).is (notes m l w s old r none (Board word) p.nodes.tests records)

  give_by : (records : RecordsState) (word slot : ℕ) → has p.nodes.free slot ≡ true → (b : Bool) → (on word == 0) ≡ b
      → GoesBy m l (λ es. es ≡ cond b (events.GiveBoard r slot word ∷ []) []) w
      (next m l w s old r (put s.word (Board word) (cond b (slot + 1) (on word))) (record p { nodes = free_if b (slot_given p.nodes slot) p.nodes; records = records }))
  give_by records word slot own true e = (_, refl, gives_it word slot own (same_number (on word) 0 e) records)
  give_by records word slot own false e = notes m l w s old r none (Board word) p.nodes.tests records

  pub board_give : (records : RecordsState) (word slot : ℕ) (x : Spot × Access) → board_give_ask l r word slot p ≡ Some x → Leads m l w s old r none (kinds.BoardGive word slot) records x
  board_give records word slot x e = let h = asked.board_give_asked l r word slot p x e in
      subst (Leads m l w s old r none (kinds.BoardGive word slot) records) h.is (give_by records word slot h.own (on word == 0) refl)

  take_by : (records : RecordsState) (word link : ℕ) → 0 < link → (counts_of m l).nodes ≤ 2 ^ 32 → (b : Bool) → (on word == link) ≡ b
      → GoesBy m l (λ es. es ≡ cond b (events.TakeBoard r (value_of (link - 1)) word ∷ []) []) w
      (next m l w s old r (put s.word (Board word) (cond b 0 (on word))) (record p { nodes = free_if b (slot_drawn p.nodes (value_of (link - 1))) p.nodes; records = records }))
  take_by records word link some small true e =
      let at = old.board.slot word (link - 1) (same_number (on word) link e ∙ omega (arith, some)) in
      let low = old.sound.for_nodes (link - 1) (ap is_for_nodes at) in
      (_, refl, takes_it word (value_of (link - 1)) (ap w.location (itself (link - 1) (omega (arith, low, small))) ∙ at) records)
    where
      itself : (n : ℕ) → n < 2 ^ 32 → n % 2 ^ 32 ≡ n
      itself n h = grind arith
  take_by records word link some small false e = notes m l w s old r none (Board word) p.nodes.tests records

  pub board_take : (records : RecordsState) (word link : ℕ) (x : Spot × Access) → (counts_of m l).nodes ≤ 2 ^ 32 → board_take_ask l r word link p ≡ Some x
      → Leads m l w s old r none (kinds.BoardTake word link) records x
  board_take records word link x small e = let h = asked.board_take_asked l r word link p x e in
      subst (Leads m l w s old r none (kinds.BoardTake word link) records) h.is (take_by records word link h.some small (on word == link) refl)
