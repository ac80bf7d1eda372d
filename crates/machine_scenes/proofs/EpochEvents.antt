-- Each event of epochs and slots but the commits of a Make and of a Retire leads from a lawful scene to a lawful scene.
use Rattle.std.proofs.Common.{◌≡◌, ◌≢◌, ℕ, suc, ◌+◌, ◌<◌, ◌≤◌, Bool, true, false, cond, refl, sym, ap, ◌∙◌, subst, inl, inr, ⊎_elim, arith}
use Rattle.std.specs.Prelude.{◌&&◌, nat_lt, Option, Some, None, [], ◌∷◌, ◌++◌, slice_get}
use Rattle.std.proofs.lemmas.Bool.{cases_eq}
use Rattle.std.proofs.lemmas.Bool.Decides.{nat_tests}
use mathlib.Core.Path.{fun_ext}
use Rattle.agreement_core.specs.body_terms.specs.Update.{upd}
use Rattle.agreement_core.specs.table_words.specs.declared.layout.Layout.{Layout}
use Rattle.agreement_core.specs.table_words.specs.Limits.{IsWithinLimits}
use Rattle.agreement_core.specs.section_lines.specs.structure_laws.specs.Scene.{Readings, Status, Free, Retired, Scene}
use Rattle.agreement_core.specs.section_lines.specs.structure_laws.specs.Scene as scenes
use Rattle.agreement_core.specs.section_lines.specs.structure_laws.specs.Meaning.{Meaning}
use Rattle.agreement_core.specs.section_lines.specs.structure_laws.specs.Cells.{IsReader, IsLoadable}
use Rattle.agreement_core.specs.section_lines.specs.structure_laws.specs.Laws.{Laws}
use Rattle.agreement_core.specs.section_lines.specs.structure_laws.specs.Lawful.{IsLawful, IsRecent}
use Rattle.agreement_core.specs.section_lines.specs.structure_laws.proofs.Changes.{upd_same, upd_other}
use Rattle.agreement_core.specs.section_lines.specs.structure_laws.proofs.Moves.{moves}
use Rattle.epoch_core.specs.declared.stage.Stage.{Stage}
use Rattle.epoch_core.specs.declared.stage.Stage.TheVariants as stages
use Rattle.epoch_core.specs.declared.location.Location.{Location}
use Rattle.epoch_core.specs.declared.location.Location.TheVariants as locations
use Rattle.epoch_core.specs.State.{Counts, EpochState, is_entered, is_announcing, entry_of, IsKept}
use Rattle.epoch_core.specs.Moves.{advanced, swept, tested, is_clear}
use Rattle.epoch_core.specs.Events.{Event, Enabled, after, after_collect, is_among, slot_of}
use Rattle.epoch_core.specs.Events as events
use Rattle.epoch_core.specs.Sound.{IsSound}
use Rattle.epoch_core.proofs.Sweeping.{swept_not, not_among}
use Rattle.machine_scenes.specs.Shown.{status_at, status_of, reader_of}
use Rattle.machine_scenes.specs.Kinds.{is_alone}
use Rattle.machine_scenes.specs.Readers.{Meets, HoldMet, HavePublishers}
use Rattle.machine_scenes.proofs.Readers.{readers, entered_reads, reader_entered, one_reader, no_reader, reader_leaves, reader_reads}
use Rattle.machine_scenes.proofs.Collects.{StaysOrIsFree, collects, collected_status, other_status}

-- a slot's location changes, but not its status
pub status_same : (c : Counts) (location : ℕ → Location) (s : ℕ) (l : Location) → (s < c.nodes → status_at l ≡ status_at (location s))
    → ◌≡◌ {A = ℕ → Status} (λ t. status_of c (upd location s l) t) (λ t. status_of c location t)
status_same c location s l same = fun_ext at
  where
    inside : (b : Bool) (x y : Status) → (b ≡ true → x ≡ y) → cond b x Free ≡ cond b y Free
    inside true x y e = e refl
    inside false x y e = refl

    below : (t n : ℕ) → nat_lt t n ≡ true → t < n
    below t n e = grind (arith, nat_tests)

    at : (t : ℕ) → status_of c (upd location s l) t ≡ status_of c location t
    at t = inside (nat_lt t c.nodes) (status_at (upd location s l t)) (status_at (location t)) (λ low. ⊎_elim
        (λ e. ap status_at (upd_same location s t l e)
        ∙ (same (subst (λ n. n < c.nodes) e (below t c.nodes low)) ∙ ap (λ n. status_at (location n)) (sym e)))
        (λ ne. ap status_at (upd_other location s t l ne)) (cases_eq t s))

-- a node slot's location changes
pub status_change : (c : Counts) (location : ℕ → Location) (s : ℕ) (l : Location) → s < c.nodes
    → ◌≡◌ {A = ℕ → Status} (λ t. status_of c (upd location s l) t) (upd (λ t. status_of c location t) s (status_at l))
status_change c location s l low = fun_ext at
  where
    inside : (t n : ℕ) (x : Status) → t < n → cond (nat_lt t n) x Free ≡ x
    inside t n x lt = grind (arith, nat_tests)

    at : (t : ℕ) → status_of c (upd location s l) t ≡ upd (λ t. status_of c location t) s (status_at l) t
    at t = ⊎_elim
        (λ e. inside t c.nodes (status_at (upd location s l t)) (subst (λ n. n < c.nodes) (sym e) low)
        ∙ (ap status_at (upd_same location s t l e) ∙ sym (upd_same (λ t. status_of c location t) s t (status_at l) e)))
        (λ ne. ap (λ x. cond (nat_lt t c.nodes) (status_at x) Free) (upd_other location s t l ne)
        ∙ sym (upd_other (λ t. status_of c location t) s t (status_at l) ne)) (cases_eq t s)

-- a sweep moves no node slot
pub swept_status : (c : Counts) (location : ℕ → Location) (r : ℕ) (descriptors : ℕ → Bool)
    → ◌≡◌ {A = ℕ → Status} (λ t. status_of c (λ s. swept (is_among c descriptors s) r (location s)) t) (λ t. status_of c location t)
swept_status c location r descriptors = fun_ext at
  where
    inside : (b : Bool) (x y : Status) → (b ≡ true → x ≡ y) → cond b x Free ≡ cond b y Free
    inside true x y e = e refl
    inside false x y e = refl

    below : (t n : ℕ) → nat_lt t n ≡ true → t < n
    below t n e = grind (arith, nat_tests)

    at : (t : ℕ) → status_of c (λ s. swept (is_among c descriptors s) r (location s)) t ≡ status_of c location t
    at t = inside (nat_lt t c.nodes) (status_at (swept (is_among c descriptors t) r (location t))) (status_at (location t))
        (λ low. ap status_at (swept_not (is_among c descriptors t) r (location t) (not_among c descriptors t (below t c.nodes low))))

-- a retired node slot is in a limbo
pub record InLimbo (c : Counts) (location : ℕ → Location) (t y : ℕ) : Type 0 where
  pub low : t < c.nodes
  pub runner : ℕ
  pub here : location t ≡ locations.Limbo runner y

pub retired_limbo : (c : Counts) (location : ℕ → Location) (t y : ℕ) → status_of c location t ≡ Retired y → InLimbo c location t y
retired_limbo c location t y is =
    let low = by_node (nat_lt t c.nodes) (location t) is in let runner = by_location (location t) low.1 in
    record { low = below t c.nodes low.0; runner = runner.0; here = runner.1 }
  where
    by_node : (b : Bool) (l : Location) → cond b (status_at l) Free ≡ Retired y → (b ≡ true) × (status_at l ≡ Retired y)
    by_node true l is = (refl, is)
    by_node false l is = absurd (cc)

    by_location : (l : Location) → status_at l ≡ Retired y → (r : ℕ) × (l ≡ locations.Limbo r y)
    by_location (locations.Limbo r z) is = (r, (let e : z ≡ y = cc in ap (locations.Limbo r) e))
    by_location locations.Fixed is = absurd (cc)
    by_location locations.Live is = absurd (cc)
    by_location (locations.Hand r) is = absurd (cc)
    by_location (locations.Free r) is = absurd (cc)
    by_location (locations.Worn r) is = absurd (cc)
    by_location (locations.OnBoard i) is = absurd (cc)

    below : (t n : ℕ) → nat_lt t n ≡ true → t < n
    below t n e = grind (arith, nat_tests)

module _ (m : Meaning) (laws : Laws m) (layout : Layout) (limits : IsWithinLimits layout) (c : Counts) (cells : ℕ → ℕ)
    (publisher : ℕ → ℕ) (section : ℕ → Option scenes.Section) where
  abbrev pub scene : ℕ → (ℕ → Status) → (ℕ → Option Readings) → Scene
  scene epoch status reader = record { cells = cells; epoch = epoch; status = status; reader = reader; section = section }

  abbrev pub LawfulBy : ℕ → (ℕ → Status) → (ℕ → Option Readings) → Type 0
  LawfulBy epoch status reader = IsLawful m layout (scene epoch status reader)

  -- the scene of this state of epochs and slots, with these readings
  abbrev pub LawfulIn : EpochState → (ℕ → Readings) → Type 0
  LawfulIn e walk = LawfulBy e.epoch (λ t. status_of c e.location t) (λ r. reader_of e walk r)

  with_readers : (epoch : ℕ) (status : ℕ → Status) (a b : ℕ → Option Readings) → a ≡ b → LawfulBy epoch status b → LawfulBy epoch status a
  with_readers epoch status a b e lawful = subst (LawfulBy epoch status) (sym e) lawful

  pub with_statuses : (epoch : ℕ) (a b : ℕ → Status) (reader : ℕ → Option Readings) → a ≡ b → LawfulBy epoch b reader
      → LawfulBy epoch a reader
  with_statuses epoch a b reader e lawful = subst (λ s. LawfulBy epoch s reader) (sym e) lawful

  module _ (e : EpochState) (walk : ℕ → Readings) (old : IsSound c e) (lawful : LawfulIn e walk) where
    abbrev status : ℕ → Status
    status t = status_of c e.location t

    abbrev reader : ℕ → Option Readings
    reader r = reader_of e walk r

    -- a stage outside an entry becomes another one
    outside : (r : ℕ) (stage : Stage) → is_entered (e.stage r) ≡ false → is_entered stage ≡ false
        → LawfulBy e.epoch status (λ i. readers (upd e.stage r stage) walk i)
    outside r stage before after = with_readers e.epoch status (λ i. readers (upd e.stage r stage) walk i) reader
        (no_reader e.stage walk r stage before after) lawful

    -- a location becomes another one of the same status
    moved : (s : ℕ) (l : Location) → (s < c.nodes → status_at l ≡ status_at (e.location s))
        → LawfulBy e.epoch (λ t. status_of c (upd e.location s l) t) reader
    moved s l same = with_statuses e.epoch (λ t. status_of c (upd e.location s l) t) status reader
        (status_same c e.location s l same) lawful

    -- a runner enters, with no readings
    pub enters_lawful : (r : ℕ) → LawfulIn (after c e (events.EnterAgain r)) (upd walk r [])
    enters_lawful r = with_readers e.epoch status (λ i. readers (upd e.stage r (stages.Entered e.epoch)) (upd walk r []) i)
        (upd reader r (Some []))
        (one_reader e.stage walk r (stages.Entered e.epoch) []) ((moves m laws layout limits).enters (scene e.epoch status reader) r lawful)

    -- it reads a place that it may load
    pub reads_lawful : (r place : ℕ) → is_entered (e.stage r) ≡ true → IsLoadable m (walk r) place
        → LawfulIn e (upd walk r (walk r ++ (place, cells place) ∷ []))
    reads_lawful r place entered loadable = with_readers e.epoch status
        (λ i. readers e.stage (upd walk r (walk r ++ (place, cells place) ∷ [])) i)
        (upd reader r (Some (walk r ++ (place, cells place) ∷ [])))
        (reader_reads e.stage walk r (walk r ++ (place, cells place) ∷ []) entered)
        ((moves m laws layout limits).reads (scene e.epoch status reader) r place (walk r)
        (entered_reads (e.stage r) (walk r) entered) loadable lawful)

    pub leaves_lawful : (r : ℕ) → LawfulIn (after c e (events.Exit r)) walk
    leaves_lawful r = with_readers e.epoch status (λ i. readers (upd e.stage r stages.Idle) walk i) (upd reader r None)
        (reader_leaves e.stage walk r stages.Idle refl) ((moves m laws layout limits).leaves (scene e.epoch status reader) r lawful)

    -- a scan ends without an advance
    scan_lawful : (r x n : ℕ) (b : Bool) → e.stage r ≡ stages.Scanning x n b → LawfulIn (after c e (events.ScanLast r x n b)) walk
    scan_lawful r x n b is = collects m laws layout limits cells e.epoch (λ i. readers (upd e.stage r stages.Idle) walk i) section
        status (λ t. status_of c (after_collect c e.location r x) t) c.nodes
        (λ t le. other_status c e.location (after_collect c e.location r x) t le)
        (collected_status c e.location e.epoch x r (old.scan_most r x n b is)) (outside r stages.Idle (ap is_entered is) refl)

    -- where an advance wins, each entered runner has entered in this epoch, so that what it and a publisher have met is recent
    recent : (r x n : ℕ) → Enabled c e (events.Advance r x n) → e.epoch ≡ x → HoldMet m c cells e walk
        → HavePublishers e walk publisher section
        → (readings : Readings) → IsReader (scene e.epoch status reader) readings → IsRecent m (scene e.epoch status reader) readings
    recent r x n ok same met publishers readings is = ⊎_elim
        (λ runner. let by = reader_entered (e.stage runner.0) (walk runner.0) readings runner.1 in
        recent_by runner.0 by.0 (λ i place word there. subst (λ list. slice_get list i ≡ Some (place, word)) (sym by.1) there))
        (λ open_section. let by = publishers open_section.0 open_section.1 open_section.2 in
        recent_by (publisher open_section.0) by.entered
        (λ i place word there. by.read i place word (subst (λ list. slice_get list i ≡ Some (place, word)) open_section.3 there)))
        is
      where
        entry : (r' : ℕ) → is_entered (e.stage r') ≡ true → entry_of (e.stage r') ≡ e.epoch
        entry r' entered =
            let low = old.numbered r' (entered_announces (e.stage r') entered) in
            old.scanned r x n r' true ok.0 (old.scan_clear r x n r' ok.0 (let most = ok.1 in omega arith)) same entered ∙ sym same
          where
            entered_announces : (stage : Stage) → is_entered stage ≡ true → is_announcing stage ≡ true
            entered_announces (stages.Entered g) is = refl
            entered_announces stages.Idle is = cc
            entered_announces (stages.Loaded g) is = cc
            entered_announces stages.Announced is = cc
            entered_announces (stages.Scanning g n b) is = cc

        late : (r' t y : ℕ) → is_entered (e.stage r') ≡ true → status_of c e.location t ≡ Retired y
            → ((low : t < c.nodes) → Meets m cells (walk r') t) → e.epoch ≤ y
        late r' t y entered retired meets =
            let limbo = retired_limbo c e.location t y retired in
            let held = old.held r' t (met r' t entered limbo.low (meets limbo.low)) in
            subst (λ g. g ≤ y) (entry r' entered) (subst (λ l. IsKept l (entry_of (e.stage r'))) limbo.here held)

        recent_by : (r' : ℕ) → is_entered (e.stage r') ≡ true
            → ((i place word : ℕ) → slice_get readings i ≡ Some (place, word) → slice_get (walk r') i ≡ Some (place, word))
            → IsRecent m (scene e.epoch status reader) readings
        recent_by r' entered read = record {
          targets = λ i place word t y there link leads retired. late r' t y entered retired
              (λ low. record { index = i; place = place; word = word; read = read i place word there; by = inl (link, leads) });
          places = λ i place word t y there unlocked cell retired. late r' t y entered retired
              (λ low. record { index = i; place = place; word = word; read = read i place word there; by = inr (unlocked, cell) });
        }

    -- an advance
    pub advance_lawful : (r x n : ℕ) → Enabled c e (events.Advance r x n) → HoldMet m c cells e walk
        → HavePublishers e walk publisher section → LawfulIn (after c e (events.Advance r x n)) walk
    advance_lawful r x n ok met publishers = collects m laws layout limits cells (advanced e.epoch x)
        (λ i. readers (upd e.stage r stages.Idle) walk i) section
        status (λ t. status_of c (after_collect c e.location r (x + 1)) t) c.nodes
        (λ t le. other_status c e.location (after_collect c e.location r (x + 1)) t le)
        (collected_status c e.location (advanced e.epoch x) (x + 1) r past)
        (with_readers (advanced e.epoch x) status (λ i. readers (upd e.stage r stages.Idle) walk i) reader
        (no_reader e.stage walk r stages.Idle (ap is_entered ok.0) refl) advances)
      where
        most : x ≤ e.epoch
        most = old.scan_most r x n true ok.0

        past_by : (epoch x : ℕ) → x ≤ epoch → x + 1 ≤ advanced epoch x
        past_by epoch x le = grind (arith, nat_tests)

        past : x + 1 ≤ advanced e.epoch x
        past = past_by e.epoch x most

        wins : (epoch x : ℕ) → epoch ≡ x → advanced epoch x ≡ suc epoch
        wins epoch x e = grind (arith, nat_tests)

        fails : (epoch x : ℕ) → epoch ≢ x → advanced epoch x ≡ epoch
        fails epoch x ne = grind (arith, nat_tests)

        advances : LawfulBy (advanced e.epoch x) status reader
        advances = ⊎_elim
            (λ same. subst (λ n. LawfulBy n status reader) (sym (wins e.epoch x same))
            ((moves m laws layout limits).advance (scene e.epoch status reader) (recent r x n ok same met publishers) lawful))
            (λ ne. subst (λ n. LawfulBy n status reader) (sym (fails e.epoch x ne)) lawful)
            (cases_eq e.epoch x)

    hand_free : (l : Location) (r : ℕ) (worn : Bool) → l ≡ locations.Hand r → status_at (tested worn r) ≡ status_at l
    hand_free l r true is = sym (ap status_at is)
    hand_free l r false is = sym (ap status_at is)

    -- an event that changes nothing of a runner's readings, and is no commit of a Make, and nothing of a Retire
    pub alone_lawful : (v : Event) → is_alone v ≡ true → Enabled c e v → HoldMet m c cells e walk
        → HavePublishers e walk publisher section → LawfulIn (after c e v) walk
    alone_lawful (events.EnterLoad r) alone ok met publishers = outside r (stages.Loaded e.epoch) (ap is_entered ok) refl
    alone_lawful (events.Announce r g) alone ok met publishers = outside r stages.Announced (ap is_entered ok.1) refl
    alone_lawful (events.EnterAgain r) alone ok met publishers = absurd (cc)
    alone_lawful (events.Exit r) alone ok met publishers = absurd (cc)
    alone_lawful (events.ScanEpoch r) alone ok met publishers = outside r (stages.Scanning e.epoch 0 true) (ap is_entered ok) refl
    alone_lawful (events.ScanOne r x n b) alone ok met publishers = outside r
        (stages.Scanning x (suc n) (b && is_clear x (e.announced n))) (ap is_entered ok.0) refl
    alone_lawful (events.ScanLast r x n b) alone ok met publishers = scan_lawful r x n b ok.0
    alone_lawful (events.Advance r x n) alone ok met publishers = advance_lawful r x n ok met publishers
    alone_lawful (events.Test r s worn) alone ok met publishers = moved s (tested worn r) (λ low. hand_free (e.location s) r worn ok)
    alone_lawful (events.TakeSlot r s) alone ok met publishers = moved s (locations.Hand r) (λ low. sym (ap status_at ok.0))
    alone_lawful (events.GiveBoard r s i) alone ok met publishers = moved s (locations.OnBoard i) (λ low. sym (ap status_at ok.0))
    alone_lawful (events.TakeBoard r s i) alone ok met publishers = moved s (locations.Free r) (λ low. sym (ap status_at ok))
    alone_lawful (events.MakeCommit r d k s worn) alone ok met publishers = absurd (cc)
    alone_lawful (events.RetireEpoch r d k s) alone ok met publishers = absurd (cc)
    alone_lawful (events.RetireCommit r) alone ok met publishers = absurd (cc)
    alone_lawful (events.WordCommit r d k word) alone ok met publishers = lawful
    alone_lawful (events.StoreLog r d k word) alone ok met publishers = lawful
    alone_lawful (events.Reach r slots) alone ok met publishers = lawful
    alone_lawful (events.Publish r d roles) alone ok met publishers = moved (slot_of c d) locations.Live (λ low. absurd (omega arith))
    alone_lawful (events.RetireDescriptor r d) alone ok met publishers = moved (slot_of c d) (locations.Limbo r e.epoch)
        (λ low. absurd (omega arith))
    alone_lawful (events.Unguard r) alone ok met publishers = lawful
    alone_lawful (events.Sweep r descriptors) alone ok met publishers =
        with_statuses e.epoch (λ t. status_of c (after c e (events.Sweep r descriptors)).location t) status reader
        (swept_status c e.location r descriptors) lawful

    -- what stands alone makes no slot retired
    pub alone_status : (v : Event) → is_alone v ≡ true → Enabled c e v → (t : ℕ)
        → StaysOrIsFree (after c e v).epoch (status_of c e.location t) (status_of c (after c e v).location t)
    alone_status (events.EnterLoad r) alone ok t = inl refl
    alone_status (events.Announce r g) alone ok t = inl refl
    alone_status (events.EnterAgain r) alone ok t = absurd (cc)
    alone_status (events.Exit r) alone ok t = absurd (cc)
    alone_status (events.ScanEpoch r) alone ok t = inl refl
    alone_status (events.ScanOne r x n b) alone ok t = inl refl
    alone_status (events.ScanLast r x n b) alone ok t = collected_status c e.location e.epoch x r (old.scan_most r x n b ok.0) t
    alone_status (events.Advance r x n) alone ok t = collected_status c e.location (advanced e.epoch x) (x + 1) r
        (past_by e.epoch x (old.scan_most r x n true ok.0)) t
      where
        past_by : (epoch x : ℕ) → x ≤ epoch → x + 1 ≤ advanced epoch x
        past_by epoch x le = grind (arith, nat_tests)
    alone_status (events.Test r s worn) alone ok t = inl
        (ap (λ (f : ℕ → Status). f t) (status_same c e.location s (tested worn r) (λ low. hand_free (e.location s) r worn ok)))
    alone_status (events.TakeSlot r s) alone ok t = inl
        (ap (λ (f : ℕ → Status). f t) (status_same c e.location s (locations.Hand r) (λ low. sym (ap status_at ok.0))))
    alone_status (events.GiveBoard r s i) alone ok t = inl
        (ap (λ (f : ℕ → Status). f t) (status_same c e.location s (locations.OnBoard i) (λ low. sym (ap status_at ok.0))))
    alone_status (events.TakeBoard r s i) alone ok t = inl
        (ap (λ (f : ℕ → Status). f t) (status_same c e.location s (locations.Free r) (λ low. sym (ap status_at ok))))
    alone_status (events.MakeCommit r d k s worn) alone ok t = absurd (cc)
    alone_status (events.RetireEpoch r d k s) alone ok t = absurd (cc)
    alone_status (events.RetireCommit r) alone ok t = absurd (cc)
    alone_status (events.WordCommit r d k word) alone ok t = inl refl
    alone_status (events.StoreLog r d k word) alone ok t = inl refl
    alone_status (events.Reach r slots) alone ok t = inl refl
    alone_status (events.Publish r d roles) alone ok t = inl
        (ap (λ (f : ℕ → Status). f t) (status_same c e.location (slot_of c d) locations.Live (λ low. absurd (omega arith))))
    alone_status (events.RetireDescriptor r d) alone ok t = inl
        (ap (λ (f : ℕ → Status). f t) (status_same c e.location (slot_of c d) (locations.Limbo r e.epoch) (λ low. absurd (omega arith))))
    alone_status (events.Unguard r) alone ok t = inl refl
    alone_status (events.Sweep r descriptors) alone ok t = inl (ap (λ (f : ℕ → Status). f t) (swept_status c e.location r descriptors))
