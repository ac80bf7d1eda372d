-- Every event keeps what is said of the epoch, the announcements and the stages.
use Rattle.std.specs.Prelude.{◌==◌, ◌&&◌, cond, Bool, true, false, nat_lt, nat_le}
use Rattle.std.proofs.Common.{◌≡◌, ◌≢◌, ℕ, ◌+◌, ◌<◌, ◌≤◌, List, sym, refl, ap, ◌∙◌, subst, arith, Option, Some, None, add-one}
use Rattle.std.proofs.lemmas.Bool.Decides.{nat_tests}
use Rattle.machine_states.specs.map_history.specs.declared.op.Request.{Request}
use Rattle.machine_states.specs.table_words.specs.declared.layout.Layout.{Layout}
use Rattle.machine_states.specs.table_words.specs.declared.spot.Spot.{Spot}
use Rattle.machine_states.specs.table_words.specs.declared.spot.Spot.TheVariants.{Epoch, Announcement}
use Rattle.machine_states.specs.table_words.specs.declared.access.Access.{Access}
use Rattle.machine_states.specs.table_words.specs.declared.access.Access.TheVariants.{Loads}
use Rattle.machine_states.specs.table_words.specs.Access.{written}
use Rattle.machine_states.specs.table_words.specs.Seen.{put, upd}
use Rattle.machine_states.specs.structure_laws.specs.Meaning.{Meaning}
use Rattle.machine_states.specs.runner_parts.specs.declared.entries.BoardRead.{BoardRead}
use Rattle.machine_states.specs.runner_parts.specs.declared.event.EventKind.{EventKind}
use Rattle.machine_states.specs.runner_parts.specs.declared.event.EventKind.TheVariants as kinds
use Rattle.machine_states.specs.epoch_core.specs.declared.stage.Stage.{Stage}
use Rattle.machine_states.specs.epoch_core.specs.declared.stage.Stage.TheVariants.{Idle, Loaded, Announced, Entered, Scanning}
use Rattle.machine_states.specs.runner_parts.specs.State.{RunState, BlocksState, PartState, RecordsState}
use Rattle.machine_states.specs.runner_steps.specs.Outside.{enter_load_ask, announce_ask, enter_again_ask, idle_ask, scan_one_ask, advance_ask}
use Rattle.machine_states.specs.runner_steps.specs.Asks.{asks, ask_by, outside_ask}
use Rattle.machine_states.specs.runner_steps.specs.After.{after, outside_after, after_by}
use Rattle.machine_states.specs.runner_steps.specs.AfterOutside as outside
use Rattle.machine_states.specs.runner_steps.specs.After.{noted, leaves, knows_also}
use Rattle.machine_states.specs.runner_steps.specs.Blocks.{blocks_after}
use Rattle.machine_states.specs.runner_steps.specs.Board.{board_after}
use Rattle.machine_states.specs.epoch_core.specs.Update.{upd2, upd_row}
use Rattle.machine_states.specs.epoch_core.specs.Moves.{is_clear, is_over}
use Rattle.machine_states.specs.epoch_core.specs.State.{EpochState, last_epoch}
use Rattle.machine_states.specs.epoch_core.specs.Events as events
use Rattle.machine_states.specs.epoch_core.specs.Sound.{IsSound}
use Rattle.machine_states.specs.epoch_core.proofs.Keeping.{keeps}
use Rattle.machine_states.specs.Sight.{Sight, parts_after, sight_after, Steps}
use Rattle.machine_states.proofs.Sights.{unless_gone, cond_none}
use Rattle.machine_states.proofs.Updates.{upd_split}
use Rattle.machine_epochs.specs.Entries.{counts_of}
use Rattle.machine_epochs.specs.Slots.{ShowsEntries}
use Rattle.machine_epochs.specs.Scans.{Found, found_one, found_more}
use Rattle.machine_epochs.proofs.OutsideAsked as asked
use Rattle.machine_epochs.proofs.Elsewhere.{is_entry, quiet_asks, stage_kept}
use Rattle.machine_epochs.proofs.Entrances as entrances

-- a scanner has found an announcement before this one that was neither idle nor of its epoch
abbrev pub FoundOther : Found → ℕ → ℕ → Type 0
FoundOther found r n = (r' : ℕ) × (r' < n) × (found r r' ≡ false)

-- a state of the component that has the machine's entries, is at no Retire, and has of each scanner what it has found
pub record Entries (m : Meaning) (l : Layout) (found : Found) (s : Sight) : Type 0 where
  pub state : EpochState
  pub sound : IsSound (counts_of m l) state
  pub shows : ShowsEntries state s
  pub unloaded : (r : ℕ) → (state.retire r).loaded ≡ false
  pub clear : (r r' x n : ℕ) (b : Bool) → (s.part r).stage ≡ Scanning x n b → state.clear r r' ≡ found r r'
  pub unclear : (r x n : ℕ) → (s.part r).stage ≡ Scanning x n false → FoundOther found r n

-- whether a runner at this stage scans
abbrev is_scanning : Stage → Bool
is_scanning (Scanning x n b) = true
is_scanning Idle = false
is_scanning (Loaded e) = false
is_scanning Announced = false
is_scanning (Entered g) = false

within_test : (a b : ℕ) (p p' : PartState) → a ≤ b → cond (nat_le a b) p p' ≡ p
within_test a b p p' h = grind (arith, nat_tests)

below_test : (a b : ℕ) (p p' : PartState) → a < b → cond (nat_lt a b) p p' ≡ p
below_test a b p p' h = grind (arith, nat_tests)

row_both : (f g : ℕ → ℕ → Bool) (r i j : ℕ) → (i ≢ r → f i j ≡ g i j) → upd_row f r (λ k. false) i j ≡ upd_row g r (λ k. false) i j
row_both f g r i j else = grind (arith, nat_tests)

pair_both : (f g : ℕ → ℕ → Bool) (r n i j : ℕ) (a b : Bool) → a ≡ b → f i j ≡ g i j → upd2 f r n a i j ≡ upd2 g r n b i j
pair_both f g r n i j a b e h = λ k. cond (i == r) (cond (j == n) (e k) (h k)) (h k)

row_kept : (f : ℕ → ℕ → Bool) (r i j : ℕ) → i ≢ r → upd_row f r (λ k. false) i j ≡ f i j
row_kept f r i j ne = grind (arith, nat_tests)

pair_here : (f : ℕ → ℕ → Bool) (r n : ℕ) (a : Bool) → upd2 f r n a r n ≡ a
pair_here f r n a = grind (arith, nat_tests)

pair_before : (f : ℕ → ℕ → Bool) (r n j : ℕ) (a : Bool) → j < n → f r j ≡ upd2 f r n a r j
pair_before f r n j a low = grind (arith, nat_tests)

pair_else : (f : ℕ → ℕ → Bool) (r n i j : ℕ) (a : Bool) → i ≢ r → f i j ≡ upd2 f r n a i j
pair_else f r n i j a ne = grind (arith, nat_tests)

module _ (m : Meaning) (l : Layout) (found : Found) (s : Sight) (old : Entries m l found s) (r : ℕ) where
  abbrev p : PartState
  p = s.part r

  abbrev w : EpochState
  w = old.state

  -- an event of the component after which the scanners have found this
  enters : (e : events.Event) (f : Spot → ℕ) (p' : PartState) (found' : Found) → events.Enabled (counts_of m l) w e × ShowsEntries (events.after (counts_of m l) w e) (record { word = f; part = upd s.part r p' })
      → ((i : ℕ) → ((events.after (counts_of m l) w e).retire i).loaded ≡ (w.retire i).loaded)
      → ((r' x n : ℕ) (b : Bool) → p'.stage ≡ Scanning x n b → (events.after (counts_of m l) w e).clear r r' ≡ found' r r')
      → ((i r' : ℕ) → i ≢ r → w.clear i r' ≡ found i r' → (events.after (counts_of m l) w e).clear i r' ≡ found' i r')
      → ((x n : ℕ) → p'.stage ≡ Scanning x n false → FoundOther found' r n) → ((i r' : ℕ) → i ≢ r → found' i r' ≡ found i r')
      → Entries m l found' (record { word = f; part = upd s.part r p' })
  enters e f p' found' goes retire own others missing kept = record {
    state = events.after (counts_of m l) w e;
    sound = keeps (counts_of m l) w e goes.0 old.sound;
    shows = goes.1;
    unloaded = λ i. retire i ∙ old.unloaded i;
    clear = λ i. upd_split s.part r p' (λ k q. (r' x n : ℕ) (b : Bool) → q.stage ≡ Scanning x n b → (events.after (counts_of m l) w e).clear k r' ≡ found' k r') own
        (λ k ne r' x n b is. others k r' ne (old.clear k r' x n b is)) i;
    unclear = λ i. upd_split s.part r p' (λ k q. (x n : ℕ) → q.stage ≡ Scanning x n false → FoundOther found' k n) missing
        (λ k ne x n is. let h = old.unclear k x n is in (h.0, h.1, kept k h.0 ne ∙ h.2)) i;
  }

  unscanning : {B : Type 0} {st : Stage} {x n : ℕ} {b : Bool} → is_scanning st ≡ false → st ≡ Scanning x n b → B
  unscanning out is = absurd (let y = sym out ∙ ap is_scanning is in cc)

  -- the state after a step outside a run on this word
  abbrev Leads : EventKind → Found → Spot × Access → Type 0
  Leads kind found' x = (records : RecordsState) → Entries m l found' (record { word = put s.word x.0 (written x.1 (s.word x.0)); part = upd s.part r (record (outside_after m l kind p (s.word x.0)) { records = records }) })

  enter_load : (x : Spot × Access) → enter_load_ask p.stage ≡ Some x → Leads kinds.EnterLoad found x
  enter_load x e = let h = asked.enter_load_asked p.stage x e in
      subst (Leads kinds.EnterLoad found) h.1 (λ records. enters (events.EnterLoad r) _ _ found (entrances.enter_load m l w s old.shows r _ h.0 refl) (λ i. refl) (λ r' x n b is. unscanning refl is) (λ i r' ne h. h) (λ x n is. unscanning refl is) (λ i r' ne. refl))

  announce : (x : Spot × Access) → r ≤ l.runners → announce_ask r p.stage ≡ Some x → Leads kinds.Announce found x
  announce x some e = let h = asked.announce_asked r p.stage x e in
      subst (Leads kinds.Announce found) h.2 (λ records. enters (events.Announce r h.0) _ _ found (entrances.announce m l w s old.shows r _ h.0 some h.1 refl) (λ i. refl) (λ r' x n b is. unscanning refl is) (λ i r' ne h. h) (λ x n is. unscanning refl is) (λ i r' ne. refl))

  enter_again : (x : Spot × Access) → enter_again_ask p ≡ Some x → Leads kinds.EnterAgain found x
  enter_again x e = let h = asked.enter_again_asked p x e in
      subst (Leads kinds.EnterAgain found) h.1 (λ records. enters (events.EnterAgain r) _ _ found (entrances.enter_again m l w s old.shows r _ h.0 refl) (λ i. refl) (λ r' x n b is. unscanning refl is) (λ i r' ne h. h) (λ x n is. unscanning refl is) (λ i r' ne. refl))

  exit : (x : Spot × Access) → idle_ask r p ≡ Some x → Leads kinds.Idle found x
  exit x e = let h = asked.idle_asked r p x e in
      subst (Leads kinds.Idle found) h.3 (λ records. enters (events.Exit r) _ _ found (entrances.exit m l w s old.shows r _ h.0 (old.unloaded r) h.1 refl) (λ i. refl) (λ r' x n b is. unscanning refl is) (λ i r' ne h. h) (λ x n is. unscanning refl is) (λ i r' ne. refl))

  scan_epoch : (x : Spot × Access) → enter_load_ask p.stage ≡ Some x → Leads kinds.ScanEpoch (upd_row found r (λ r'. false)) x
  scan_epoch x e = let h = asked.enter_load_asked p.stage x e in
      subst (Leads kinds.ScanEpoch (upd_row found r (λ r'. false))) h.1 (λ records. enters (events.ScanEpoch r) _ _ (upd_row found r (λ r'. false)) (entrances.scan_epoch m l w s old.shows r _ h.0 refl) (λ i. refl)
      (λ r' x n b is. row_both w.clear found r r r' (λ ne. absurd (ne refl))) (λ i r' ne h. row_both w.clear found r i r' (λ ne'. h)) (λ x n is. absurd (let y = is in cc)) (λ i r' ne. row_kept found r i r' ne))

  advance : (x : Spot × Access) → advance_ask l p.stage ≡ Some x → Leads kinds.Advance found x
  advance x e = let h = asked.advance_asked l p.stage x e in
      subst (Leads kinds.Advance found) h.5 (λ records.
      let over : outside.advance_after p p.stage ≡ outside.collected p (h.0 + 1) = ap (λ (q : Stage). outside.advance_after p q) h.2 ∙ below_test h.0 last_epoch _ p h.4 in
      let idle : (outside.advance_after p p.stage).stage ≡ Idle = ap (λ (q : PartState). q.stage) over in
      enters (events.Advance r h.0 h.1) _ _ found (entrances.advance m l w s old.shows r _ h.0 h.1 h.2 h.3 h.4 idle) (λ i. refl) (λ r' x n b is. unscanning refl (sym idle ∙ is)) (λ i r' ne h. h) (λ x n is. unscanning refl (sym idle ∙ is)) (λ i r' ne. refl))

  -- the next announcement of a scan
  module _ (x n : ℕ) (clear : Bool) (some : n ≤ l.runners) (was : p.stage ≡ Scanning x n clear) (records : RecordsState) where
    abbrev read : ℕ
    read = s.word (Announcement n)

    abbrev still : Bool
    still = clear && is_clear x read

    abbrev finds : Found
    finds = upd2 found r n (is_clear x read)

    abbrev Scans : PartState → Type 0
    Scans q = Entries m l finds (record { word = put s.word (Announcement n) read; part = upd s.part r (record q { records = records }) })

    missing_more : (b : Bool) → p.stage ≡ Scanning x n b → (x' n' : ℕ) → Scanning x (n + 1) (b && is_clear x read) ≡ Scanning x' n' false → FoundOther finds r n'
    missing_more true was' x' n' is = let out : is_clear x read ≡ false = cc in let past : n + 1 ≡ n' = cc in (n, omega arith, pair_here found r n (is_clear x read) ∙ out)
    missing_more false was' x' n' is = let past : n + 1 ≡ n' = cc in let h = old.unclear r x n was' in let low = h.1 in (h.0, omega arith, sym (pair_before found r n h.0 (is_clear x read) h.1) ∙ h.2)

    scan_by : (b : Bool) → is_over l.runners x n still ≡ b → Scans (cond b (outside.collected p x) (outside.with_stage p (Scanning x (n + 1) still)))
    scan_by true is = enters (events.ScanLast r x n clear) _ _ finds (entrances.scan_last m l w s old.shows r _ x n clear some was is refl) (λ i. refl)
        (λ r' x' n' b is'. unscanning refl is') (λ i r' ne h. h ∙ pair_else found r n i r' (is_clear x read) ne)
        (λ x' n' is'. unscanning refl is') (λ i r' ne. sym (pair_else found r n i r' (is_clear x read) ne))
    scan_by false is = enters (events.ScanOne r x n clear) _ _ finds (entrances.scan_one m l w s old.shows r _ x n clear some was is (ap (λ k. Scanning x k still) (add-one n))) (λ i. refl)
        (λ r' x' n' b is'. pair_both w.clear found r n r r' _ _ (ap (is_clear x) (old.shows.announced n)) (old.clear r r' x n clear was))
        (λ i r' ne h. pair_both w.clear found r n i r' _ _ (ap (is_clear x) (old.shows.announced n)) h)
        (λ x' n' is'. missing_more clear was x' n' is') (λ i r' ne. sym (pair_else found r n i r' (is_clear x read) ne))

    scans : Scans (outside.scan_one_after l p p.stage read)
    scans = subst Scans (sym (ap (λ (q : Stage). outside.scan_one_after l p q read) was ∙ within_test n l.runners _ p some)) (scan_by (is_over l.runners x n still) refl)

  scan_one : (n : ℕ) (x : Spot × Access) → scan_one_ask l n p.stage ≡ Some x → Leads (kinds.ScanOne n) (found_one found r n (s.word (Announcement n)) p.stage) x
  scan_one n x e = let h = asked.scan_one_asked l n p.stage x e in
      subst (Leads (kinds.ScanOne n) (found_one found r n (s.word (Announcement n)) p.stage)) h.4
      (subst (λ (f : Found). Leads (kinds.ScanOne n) f (Announcement n, Loads)) (sym (ap (λ (q : Stage). found_one found r n (s.word (Announcement n)) q) h.2)) (scans h.0 n h.1 h.3 h.2))

  -- a step that changes no stage, the epoch and no announcement
  quiet : (word : Spot → ℕ) (part : ℕ → PartState) → word Epoch ≡ s.word Epoch → ((i : ℕ) → word (Announcement i) ≡ s.word (Announcement i)) → ((i : ℕ) → (part i).stage ≡ (s.part i).stage)
      → Entries m l found (record { word = word; part = part })
  quiet word part epoch announced stage = record {
    state = w;
    sound = old.sound;
    shows = record {
      epoch = old.shows.epoch ∙ sym epoch;
      announced = λ i. old.shows.announced i ∙ sym (announced i);
      stage = λ i. old.shows.stage i ∙ (sym (stage i));
    };
    unloaded = old.unloaded;
    clear = λ i r' x n b is. old.clear i r' x n b (sym (stage i) ∙ is);
    unclear = λ i x n is. old.unclear i x n (sym (stage i) ∙ is);
  }

module _ (m : Meaning) (l : Layout) (rs : List Request) where
  -- the kinds that change a stage come outside a run
  entry_asked : (r : ℕ) (kind : EventKind) (p : PartState) (o : Option RunState) (x : Spot × Access) → is_entry kind ≡ true → ask_by m l rs r kind p o ≡ Some x → (o ≡ None) × (outside_ask m l rs r kind p ≡ Some x)
  entry_asked r kind p None x k e = (refl, e)
  entry_asked r kinds.EnterLoad p (Some q) x k e = cond_none _ x e
  entry_asked r kinds.Announce p (Some q) x k e = cond_none _ x e
  entry_asked r kinds.EnterAgain p (Some q) x k e = cond_none _ x e
  entry_asked r kinds.Idle p (Some q) x k e = cond_none _ x e
  entry_asked r kinds.ScanEpoch p (Some q) x k e = cond_none _ x e
  entry_asked r (kinds.ScanOne n) p (Some q) x k e = cond_none _ x e
  entry_asked r kinds.Advance p (Some q) x k e = cond_none _ x e
  entry_asked r _ p (Some q) x k e = absurd (let y = k in cc)

  pub asks_by : (r : ℕ) (kind : EventKind) (p : PartState) (x : Spot × Access) → asks m l rs r kind p ≡ Some x → ask_by m l rs r kind p p.run ≡ Some x
  asks_by r kind p x e = (unless_gone _ p.gone _ x e).1

  pub asked_outside : (s : Sight) (r : ℕ) (x : Spot × Access) (kind : EventKind) → is_entry kind ≡ true → asks m l rs r kind (s.part r) ≡ Some x → ((s.part r).run ≡ None) × (outside_ask m l rs r kind (s.part r) ≡ Some x)
  asked_outside s r x kind k e = entry_asked r kind (s.part r) (s.part r).run x k (asks_by r kind (s.part r) x e)

  module _ (found : Found) (s : Sight) (old : Entries m l found s) (r : ℕ) (x : Spot × Access) where
    -- the stages stay where the stepping runner's does
    stages_stay : (kind : EventKind) (p : PartState) → p.stage ≡ (s.part r).stage → (i : ℕ) → (parts_after kind s.part r p i).stage ≡ (s.part i).stage
    stages_stay (kinds.Join worker) p e i = upd_split (upd s.part r (knows_also p (s.part worker))) worker (leaves (s.part worker)) (λ k q. q.stage ≡ (s.part k).stage) refl
        (λ k ne. upd_split s.part r (knows_also p (s.part worker)) (λ j q. q.stage ≡ (s.part j).stage) e (λ j ne'. refl) k) i
    stages_stay _ p e i = upd_split s.part r p (λ k q. q.stage ≡ (s.part k).stage) e (λ k ne. refl) i

    quiet_goes : (kind : EventKind) → is_entry kind ≡ false → asks m l rs r kind (s.part r) ≡ Some x → Entries m l found (sight_after m l s r kind x)
    quiet_goes kind k e =
        let q = quiet_asks m l rs r kind (s.part r) (s.part r).run x k (asks_by r kind (s.part r) x e) s.word in
        quiet m l found s old r (sight_after m l s r kind x).word (sight_after m l s r kind x).part q.0 q.1 (stages_stay kind _ (stage_kept m l kind (s.part r) (s.part r).run (s.word x.0) k))

    -- nor do the runner's blocks and its loads of the board matter
    with_board : (found' : Found) (f : Spot → ℕ) (p : PartState) (blocks : BlocksState) (board : List BoardRead) → Entries m l found' (record { word = f; part = upd s.part r p })
        → Entries m l found' (record { word = f; part = upd s.part r (record p { blocks = blocks; board = board }) })
    with_board found' f p blocks board h = quiet m l found' (record { word = f; part = upd s.part r p }) h r f (upd s.part r (record p { blocks = blocks; board = board })) refl (λ i. refl) (λ i. same (i == r) i)
      where
        same : (b : Bool) (i : ℕ) → (cond b (record p { blocks = blocks; board = board }) (s.part i)).stage ≡ (cond b p (s.part i)).stage
        same true i = refl
        same false i = refl

    -- the part after a step outside a run
    out_of_run : (kind : EventKind) (found' : Found) → (s.part r).run ≡ None → Leads m l found s old r kind found' x
        → Entries m l found' (record { word = put s.word x.0 (written x.1 (s.word x.0)); part = upd s.part r (after m l r kind x.0 x.1 (s.part r) (s.word x.0)) })
    out_of_run kind found' none goes =
        subst (λ (o : Option RunState). Entries m l found' (record {
          word = put s.word x.0 (written x.1 (s.word x.0));
          part = upd s.part r
              (record (after_by m l kind (s.part r) o (s.word x.0)) { blocks = blocks_after m l kind (s.part r) o (s.word x.0); board = board_after kind (s.part r).board (s.word x.0); records = noted l r kind x.0 x.1 (s.word x.0) (after_by m l kind (s.part r) o (s.word x.0)).records });
        })) (sym none) (with_board found' _ _ _ _ (goes _))

    entry_goes : (kind : EventKind) → r ≤ l.runners → asks m l rs r kind (s.part r) ≡ Some x → Entries m l (found_more found s r kind) (sight_after m l s r kind x)
    entry_goes kinds.EnterLoad some e = let h = asked_outside s r x kinds.EnterLoad refl e in out_of_run kinds.EnterLoad _ h.0 (enter_load m l found s old r x h.1)
    entry_goes kinds.Announce some e = let h = asked_outside s r x kinds.Announce refl e in out_of_run kinds.Announce _ h.0 (announce m l found s old r x some h.1)
    entry_goes kinds.EnterAgain some e = let h = asked_outside s r x kinds.EnterAgain refl e in out_of_run kinds.EnterAgain _ h.0 (enter_again m l found s old r x h.1)
    entry_goes kinds.Idle some e = let h = asked_outside s r x kinds.Idle refl e in out_of_run kinds.Idle _ h.0 (exit m l found s old r x h.1)
    entry_goes kinds.ScanEpoch some e = let h = asked_outside s r x kinds.ScanEpoch refl e in out_of_run kinds.ScanEpoch _ h.0 (scan_epoch m l found s old r x h.1)
    entry_goes (kinds.ScanOne n) some e = let h = asked_outside s r x (kinds.ScanOne n) refl e in out_of_run (kinds.ScanOne n) _ h.0 (scan_one m l found s old r n x h.1)
    entry_goes kinds.Advance some e = let h = asked_outside s r x kinds.Advance refl e in out_of_run kinds.Advance _ h.0 (advance m l found s old r x h.1)
    entry_goes kind some e = quiet_goes kind refl e

  -- a step keeps it
  pub entries_step : (found : Found) (s s' : Sight) (r : ℕ) (kind : EventKind) → Steps m l rs s s' r kind → Entries m l found s → Entries m l (found_more found s r kind) s'
  entries_step found s s' r kind step old = subst (Entries m l (found_more found s r kind)) (sym step.next) (entry_goes found s old r step.ask kind step.runner step.asked)
