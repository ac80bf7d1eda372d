-- What every kind of step has in common: what is new for the stepping runner, and why the facts on the others stay.
use Rattle.std.specs.Prelude.{◌==◌, cond, Bool, true, false, nat_lt}
use Rattle.std.proofs.Common.{◌≡◌, ◌≢◌, ℕ, ◌+◌, ◌-◌, List, [], refl, sym, ap, ◌∙◌, subst, Some, Option}
use Rattle.machine_states.specs.table_words.specs.declared.layout.Layout.{Layout}
use Rattle.machine_states.specs.table_words.specs.declared.spot.Spot.{Spot}
use Rattle.machine_states.specs.table_words.specs.Places.{part_words}
use Rattle.machine_states.specs.table_words.specs.declared.spot.Spot.TheVariants.{Epoch, Clock, Announcement, Stamp, Reply, Cell, ThunkWord, DoneWord, LogWord, LinkWord, Board}
use Rattle.machine_states.specs.table_words.specs.declared.access.Access.TheVariants.{Exchanges}
use Rattle.machine_states.specs.table_words.specs.Access.{written}
use Rattle.machine_states.specs.table_words.specs.Seen.{upd, put}
use Rattle.machine_states.specs.body_terms.specs.declared.thunk.Thunk.{Thunk}
use Rattle.machine_states.specs.structure_laws.specs.Meaning.{Meaning}
use Rattle.machine_states.specs.runner_parts.specs.declared.entries.BoardRead.{BoardRead}
use Rattle.machine_states.specs.runner_parts.specs.declared.entries.Look.{Look}
use Rattle.machine_states.specs.runner_parts.specs.declared.entries.Published.{Published}
use Rattle.machine_states.specs.runner_parts.specs.State.{BlocksState, PartState, NodesState, RecordsState}
use Rattle.machine_states.specs.runner_parts.specs.Tests.{has}
use Rattle.machine_states.specs.runner_steps.specs.Outside.{descriptor_spot}
use Rattle.machine_states.specs.epoch_core.specs.declared.location.Location.TheVariants.{Live, Hand}
use Rattle.machine_states.specs.epoch_core.specs.State.{Counts, EpochState, is_entered}
use Rattle.machine_states.specs.epoch_core.specs.Events.{slot_of}
use Rattle.machine_states.specs.epoch_core.specs.Events as events
use Rattle.machine_states.specs.epoch_core.specs.Schedules.{AllEnabled, after_all}
use Rattle.machine_states.specs.epoch_core.specs.Lists.{Lists, IsListed, listed_all}
use Rattle.machine_states.specs.epoch_core.specs.History.{is_out}
use Rattle.machine_states.specs.epoch_core.proofs.Keeping.{keeps_all}
use Rattle.machine_states.specs.epoch_core.proofs.Listing.{lists_follow_all}
use Rattle.machine_states.specs.Sight.{Sight}
use Rattle.machine_states.proofs.Updates.{upd_split, map_same, put_same, put_kept}
use Rattle.machine_epochs.specs.Entries.{counts_of}
use Rattle.machine_epochs.specs.Roles.{role_at}
use Rattle.machine_epochs.specs.Slots.{lists_of, thunk_in, ShowsEntries, ShowsBoard}
pub use Rattle.machine_epochs.specs.Goes.{Goes, GoesBy}
use Rattle.machine_epochs.specs.Joined.{IsTied, IsJoinedToEpochs}
use Rattle.machine_epochs.proofs.Boards.{is_off_board, board_shown}
use Rattle.machine_epochs.proofs.Places.{spot_by}

-- the words of descriptors are the same
pub record IsSameSections (f g : Spot → ℕ) : Type 0 where
  pub thunk : (d j : ℕ) → f (ThunkWord d j) ≡ g (ThunkWord d j)
  pub done : (d : ℕ) → f (DoneWord d) ≡ g (DoneWord d)
  pub log : (d k : ℕ) → f (LogWord d k) ≡ g (LogWord d k)
  pub link : (d : ℕ) → f (LinkWord d) ≡ g (LinkWord d)

-- these words are the same but for cells, stamps, replies, the clock and the seat word
pub record IsSameBut (f g : Spot → ℕ) : Type 0 where
  pub epoch : f Epoch ≡ g Epoch
  pub announced : (r : ℕ) → f (Announcement r) ≡ g (Announcement r)
  pub thunk : (d j : ℕ) → f (ThunkWord d j) ≡ g (ThunkWord d j)
  pub done : (d : ℕ) → f (DoneWord d) ≡ g (DoneWord d)
  pub log : (d k : ℕ) → f (LogWord d k) ≡ g (LogWord d k)
  pub link : (d : ℕ) → f (LinkWord d) ≡ g (LinkWord d)
  pub board : (i : ℕ) → f (Board i) ≡ g (Board i)

module _ (f : Spot → ℕ) where
  pub but_cell : (p v : ℕ) → IsSameBut (put f (Cell p) v) f
  but_cell p v = record { epoch = refl; announced = λ r. refl; thunk = λ d j. refl; done = λ d. refl; log = λ d k. refl; link = λ d. refl; board = λ i. refl }

  pub but_clock : (v : ℕ) → IsSameBut (put f Clock v) f
  but_clock v = record { epoch = refl; announced = λ r. refl; thunk = λ d j. refl; done = λ d. refl; log = λ d k. refl; link = λ d. refl; board = λ i. refl }

  pub but_stamp : (q v : ℕ) → IsSameBut (put f (Stamp q) v) f
  but_stamp q v = record { epoch = refl; announced = λ r. refl; thunk = λ d j. refl; done = λ d. refl; log = λ d k. refl; link = λ d. refl; board = λ i. refl }

  pub but_reply : (q v : ℕ) → IsSameBut (put f (Reply q) v) f
  but_reply q v = record { epoch = refl; announced = λ r. refl; thunk = λ d j. refl; done = λ d. refl; log = λ d k. refl; link = λ d. refl; board = λ i. refl }

  pub but_load : (a : Spot) → IsSameBut (put f a (f a)) f
  but_load a = record {
    epoch = ap (λ (g : Spot → ℕ). g Epoch) (put_same f a);
    announced = λ r. ap (λ (g : Spot → ℕ). g (Announcement r)) (put_same f a);
    thunk = λ d j. ap (λ (g : Spot → ℕ). g (ThunkWord d j)) (put_same f a);
    done = λ d. ap (λ (g : Spot → ℕ). g (DoneWord d)) (put_same f a);
    log = λ d k. ap (λ (g : Spot → ℕ). g (LogWord d k)) (put_same f a);
    link = λ d. ap (λ (g : Spot → ℕ). g (LinkWord d)) (put_same f a);
    board = λ i. ap (λ (g : Spot → ℕ). g (Board i)) (put_same f a);
  }

  -- an exchange from 0 to 0
  pub but_kept : (a : Spot) → IsSameBut (put f a (written (Exchanges 0 0) (f a))) f
  but_kept a = record {
    epoch = ap (λ (g : Spot → ℕ). g Epoch) (put_kept f a);
    announced = λ r. ap (λ (g : Spot → ℕ). g (Announcement r)) (put_kept f a);
    thunk = λ d j. ap (λ (g : Spot → ℕ). g (ThunkWord d j)) (put_kept f a);
    done = λ d. ap (λ (g : Spot → ℕ). g (DoneWord d)) (put_kept f a);
    log = λ d k. ap (λ (g : Spot → ℕ). g (LogWord d k)) (put_kept f a);
    link = λ d. ap (λ (g : Spot → ℕ). g (LinkWord d)) (put_kept f a);
    board = λ i. ap (λ (g : Spot → ℕ). g (Board i)) (put_kept f a);
  }

pub but_entries : (f g : Spot → ℕ) → IsSameBut f g → IsSameSections f g
but_entries f g same = record { thunk = same.thunk; done = same.done; log = same.log; link = same.link }

-- each word of a descriptor is then the same
pub section_same : (f g : Spot → ℕ) → IsSameSections f g → (d j : ℕ) → f (descriptor_spot d j) ≡ g (descriptor_spot d j)
section_same f g same d j = by_word (nat_lt j 12) (j == 12) (j == 13 + part_words)
  where
    by_word : (b b' b'' : Bool) → f (spot_by d j b b' b'') ≡ g (spot_by d j b b' b'')
    by_word true b' b'' = same.thunk d j
    by_word false true b'' = same.done d
    by_word false false true = same.link d
    by_word false false false = same.log d (j - 13)

pub descriptor_same : (f g : Spot → ℕ) → IsSameBut f g → (d j : ℕ) → f (descriptor_spot d j) ≡ g (descriptor_spot d j)
descriptor_same f g same d j = section_same f g (but_entries f g same) d j

-- the thunk in a descriptor's words hangs on its thunk words alone
pub thunk_same : (f g : Spot → ℕ) (d : ℕ) → ((j : ℕ) → f (ThunkWord d j) ≡ g (ThunkWord d j)) → thunk_in f d ≡ thunk_in g d
thunk_same f g d same = rw (same 0, same 1, same 2, same 3, same 4, same 5, same 6, same 7, same 8, same 9, same 10, same 11) refl

-- what is tied to a part hangs on no list of node slots and on no record, and not on whether the worker was joined
pub copied : (m : Meaning) (l : Layout) (w : EpochState) (g : Spot → ℕ) (i : ℕ) (q : PartState) (nodes : NodesState) (records : RecordsState) (gone : Bool)
    → IsTied m l w g i q → IsTied m l w g i (record q { nodes = nodes; records = records; gone = gone })
copied m l w g i q nodes records gone t = record {
  run_held = t.run_held;
  run_opened = t.run_opened;
  run_begins = t.run_begins;
  run_made = t.run_made;
  retire = t.retire;
  published = t.published;
  run_sure = t.run_sure;
  published_sure = t.published_sure;
  sure = t.sure;
  numbered = t.numbered;
  sure_alone = t.sure_alone;
  reached = t.reached;
  stored_free = t.stored_free;
  stored = t.stored;
}

-- nor on the runner's read without a lock
pub looking : (m : Meaning) (l : Layout) (w : EpochState) (g : Spot → ℕ) (i : ℕ) (q : PartState) (look : Option Look) (records : RecordsState)
    → IsTied m l w g i q → IsTied m l w g i (record q { reads = record (q.reads) { look = look }; records = records })
looking m l w g i q look records t = record {
  run_held = t.run_held;
  run_opened = t.run_opened;
  run_begins = t.run_begins;
  run_made = t.run_made;
  retire = t.retire;
  published = t.published;
  run_sure = t.run_sure;
  published_sure = t.published_sure;
  sure = t.sure;
  numbered = t.numbered;
  sure_alone = t.sure_alone;
  reached = t.reached;
  stored_free = t.stored_free;
  stored = t.stored;
}

-- nor on its blocks and its loads of the board
boarded : (m : Meaning) (l : Layout) (w : EpochState) (g : Spot → ℕ) (i : ℕ) (q : PartState) (blocks : BlocksState) (board : List BoardRead)
    → IsTied m l w g i q → IsTied m l w g i (record q { blocks = blocks; board = board })
boarded m l w g i q blocks board t = record {
  run_held = t.run_held;
  run_opened = t.run_opened;
  run_begins = t.run_begins;
  run_made = t.run_made;
  retire = t.retire;
  published = t.published;
  run_sure = t.run_sure;
  published_sure = t.published_sure;
  sure = t.sure;
  numbered = t.numbered;
  sure_alone = t.sure_alone;
  reached = t.reached;
  stored_free = t.stored_free;
  stored = t.stored;
}

-- so neither does what is joined
module _ (m : Meaning) (l : Layout) (w : EpochState) (f : Spot → ℕ) (part : ℕ → PartState) (r : ℕ) (p : PartState) (blocks : BlocksState) (board : List BoardRead) where
  abbrev with_loads : PartState
  with_loads = record p { blocks = blocks; board = board }

  seen : {B : Type 0} → (g : PartState → B) → g p ≡ g with_loads → (i : ℕ) → g (upd part r p i) ≡ g (upd part r with_loads i)
  seen g same i = by (i == r)
    where
      by : (b : Bool) → g (cond b p (part i)) ≡ g (cond b with_loads (part i))
      by true = same
      by false = refl

  tied_on : (i : ℕ) → IsTied m l w f i (upd part r p i) → IsTied m l w f i (upd part r with_loads i)
  tied_on i t = by (i == r) t
    where
      by : (b : Bool) → IsTied m l w f i (cond b p (part i)) → IsTied m l w f i (cond b with_loads (part i))
      by true t = boarded m l w f i p blocks board t
      by false t = t

  pub joined_on : IsJoinedToEpochs m l w (record { word = f; part = upd part r p }) → IsJoinedToEpochs m l w (record { word = f; part = upd part r with_loads })
  joined_on old = record {
    sound = old.sound;
    listed = subst (IsListed (counts_of m l) w) (λ j i. seen lists_of refl i j) old.listed;
    entries = record { epoch = old.entries.epoch; announced = old.entries.announced; stage = λ i. old.entries.stage i ∙ seen (λ q. q.stage) refl i };
    board = record { word = old.board.word; slot = old.board.slot };
    roles = old.roles;
    published_once = λ i i' x x' e e'. old.published_once i i' x x' (seen (λ q. q.published) refl i ∙ e) (seen (λ q. q.published) refl i' ∙ e');
    tied = λ i. tied_on i (old.tied i);
  }

module _ (m : Meaning) (l : Layout) where
  abbrev pub c : Counts
  c = counts_of m l

  -- no event leads there
  abbrev pub StaysAt : EpochState → Sight → Type 0
  StaysAt = GoesBy m l (λ es. es ≡ [])

  -- why what is tied to a runner's part stays, where it is another runner that steps
  pub record IsElsewhere (w w' : EpochState) (word word' : Spot → ℕ) (r : ℕ) (p : PartState) : Type 0 where
    pub holds : (t : ℕ) → w.holds r t ≡ true → w'.holds r t ≡ true
    pub alone : (d : ℕ) → w'.holds r (slot_of c d) ≡ true → w.holds r (slot_of c d) ≡ true
    pub words : (d j : ℕ) → w.holds r (slot_of c d) ≡ true → word' (ThunkWord d j) ≡ word (ThunkWord d j)
    pub hand : (t : ℕ) → w.location t ≡ Hand r → w'.location t ≡ Hand r
    pub retire : w'.retire r ≡ w.retire r
    pub live : (x : Published) → p.published ≡ Some x → w.location (slot_of c x.descriptor) ≡ Live → w'.location (slot_of c x.descriptor) ≡ Live
    pub entered : is_entered (w'.stage r) ≡ true → is_entered (w.stage r) ≡ true
    pub stored : (d j : ℕ) → has p.descriptors.free d ≡ true → word' (descriptor_spot d j) ≡ word (descriptor_spot d j)

  pub still_tied : (w w' : EpochState) (word word' : Spot → ℕ) (r : ℕ) (p : PartState) → IsElsewhere w w' word word' r p → IsTied m l w word r p → IsTied m l w' word' r p
  still_tied w w' word word' r p e old = record {
    run_held = λ q at. e.holds _ (old.run_held q at);
    run_opened = λ q j at low low'. old.run_opened q j at low low' ∙ sym (e.words q.descriptor j (old.run_held q at));
    run_begins = old.run_begins;
    run_made = λ q t at made. e.hand t (old.run_made q t at made);
    retire = e.retire ∙ old.retire;
    published = λ x at. e.live x at (old.published x at);
    run_sure = old.run_sure;
    published_sure = old.published_sure;
    sure = λ d is. e.holds _ (old.sure d is);
    numbered = old.numbered;
    sure_alone = λ d h. old.sure_alone d (e.alone d h);
    reached = λ t isin node there. e.holds t (old.reached t (e.entered isin) node there);
    stored_free = old.stored_free;
    stored = λ d j n free last. e.stored d j free ∙ old.stored d j n free last;
  }

  module _ (w : EpochState) (s : Sight) (old : IsJoinedToEpochs m l w s) (r : ℕ) where
    -- only the stepping runner's part is new
    abbrev pub next : (Spot → ℕ) → PartState → Sight
    next f p = record { word = f; part = upd s.part r p }

    -- what the stepping runner has published, it had published
    abbrev pub Publishes : PartState → Type 0
    Publishes p = (x : Published) → p.published ≡ Some x → (y : Published) × ((s.part r).published ≡ Some y) × (y.descriptor ≡ x.descriptor)

    pub as_published : (p : PartState) → p.published ≡ (s.part r).published → Publishes p
    as_published p e = λ x at. (x, sym e ∙ at, refl)

    pub once : (p : PartState) → Publishes p → (i i' : ℕ) (x x' : Published) → (upd s.part r p i).published ≡ Some x → (upd s.part r p i').published ≡ Some x' → x.descriptor ≡ x'.descriptor → i ≡ i'
    once p back i i' x x' e e' same =
        let y = had i x e in let y' = had i' x' e' in
        old.published_once i i' y.0 y'.0 y.1 y'.1 (y.2 ∙ (same ∙ sym y'.2))
      where
        had : (j : ℕ) (z : Published) → (upd s.part r p j).published ≡ Some z → (y : Published) × ((s.part j).published ≡ Some y) × (y.descriptor ≡ z.descriptor)
        had j z = upd_split s.part r p (λ k q. q.published ≡ Some z → (y : Published) × ((s.part k).published ≡ Some y) × (y.descriptor ≡ z.descriptor)) (back z) (λ k ne at. (z, at, refl)) j

    pub stages_stay : (f : Spot → ℕ) (p : PartState) → p.stage ≡ (s.part r).stage → (i : ℕ) → w.stage i ≡ (upd s.part r p i).stage
    stages_stay f p e i = upd_split s.part r p (λ k q. w.stage k ≡ q.stage) (old.entries.stage r ∙ sym e) (λ k ne. old.entries.stage k) i

    pub all_tied : (w' : EpochState) (f : Spot → ℕ) (p : PartState) → IsTied m l w' f r p → ((i : ℕ) → i ≢ r → IsElsewhere w w' s.word f i (s.part i)) → (i : ℕ) → IsTied m l w' f i (upd s.part r p i)
    all_tied w' f p own others = upd_split s.part r p (λ k q. IsTied m l w' f k q) own (λ k ne. still_tied w w' s.word f k (s.part k) (others k ne) (old.tied k))

    -- a step that is no event of the component: the words that it sees and the runner's lists stay
    pub stays_joined : (f : Spot → ℕ) (p : PartState) → IsSameBut f s.word → p.stage ≡ (s.part r).stage → lists_of p ≡ lists_of (s.part r) → Publishes p → IsTied m l w f r p → IsJoinedToEpochs m l w (next f p)
    stays_joined f p same stage lists back own = record {
      sound = old.sound;
      listed = subst (IsListed c w) (sym (map_same lists_of s.part r p lists)) old.listed;
      entries = record {
        epoch = old.entries.epoch ∙ sym same.epoch;
        announced = λ i. old.entries.announced i ∙ sym (same.announced i);
        stage = stages_stay f p stage;
      };
      board = board_shown c w s (next f p) [] refl tt old.sound same.board old.board;
      roles = λ d k out. old.roles d k out ∙ ap (λ (t : Thunk). role_at (m.body t) k) (sym (thunk_same f s.word d (same.thunk d)));
      published_once = once p back;
      tied = all_tied w f p own (λ i ne. record {
        holds = λ t h. h;
        alone = λ d h. h;
        words = λ d j h. same.thunk d j;
        hand = λ t h. h;
        retire = refl;
        live = λ x at h. h;
        entered = λ h. h;
        stored = λ d j h. descriptor_same f s.word same d j;
      });
    }

    pub stays : (f : Spot → ℕ) (p : PartState) → IsSameBut f s.word → p.stage ≡ (s.part r).stage → lists_of p ≡ lists_of (s.part r) → Publishes p → IsTied m l w f r p → StaysAt w (next f p)
    stays f p same stage lists back own = ([], refl, record { enabled = tt; joined = stays_joined f p same stage lists back own })

    -- by events of which none is a give or a take, where the board's words are the same
    pub board_kept : (es : List events.Event) → is_off_board es ≡ true → AllEnabled c w es → (f : Spot → ℕ) (p : PartState) → ((i : ℕ) → f (Board i) ≡ s.word (Board i)) → ShowsBoard (after_all c w es) (next f p)
    board_kept es off ok f p same = board_shown c w s (next f p) es off ok old.sound same old.board

    -- a step of these events of the component, by which a runner's part becomes this one
    pub goes_with : (es : List events.Event) → AllEnabled c w es → (f : Spot → ℕ) (p : PartState)
        → ◌≡◌ {A = ℕ → Lists} (listed_all c w (λ i. lists_of (s.part i)) es) (λ i. lists_of (upd s.part r p i))
        → ShowsEntries (after_all c w es) (next f p) → ShowsBoard (after_all c w es) (next f p)
        → ((d k : ℕ) → is_out ((after_all c w es).location (slot_of c d)) ≡ true → (after_all c w es).role d k ≡ role_at (m.body (thunk_in f d)) k)
        → ((i i' : ℕ) (x x' : Published) → (upd s.part r p i).published ≡ Some x → (upd s.part r p i').published ≡ Some x' → x.descriptor ≡ x'.descriptor → i ≡ i')
        → IsTied m l (after_all c w es) f r p → ((i : ℕ) → i ≢ r → IsElsewhere w (after_all c w es) s.word f i (s.part i)) → Goes m l es w (next f p)
    goes_with es ok f p lists entries board roles apart own others = record {
      enabled = ok;
      joined = record {
        sound = keeps_all c w es ok old.sound;
        listed = subst (IsListed c (after_all c w es)) lists (lists_follow_all c w (λ i. lists_of (s.part i)) es ok old.sound old.listed);
        entries = entries;
        board = board;
        roles = roles;
        published_once = apart;
        tied = all_tied (after_all c w es) f p own others;
      };
    }
