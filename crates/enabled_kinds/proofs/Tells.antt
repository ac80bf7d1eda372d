-- What the tests tell of the kinds whose events carry arguments.
use Rattle.std.specs.Prelude.{Bool, true, false, not, ◌==◌, ◌&&◌, ◌||◌, nat_lt, nat_le, is_none, if◌then◌else◌}
use Rattle.std.specs.List.{list_any}
use Rattle.std.proofs.Common.{◌≡◌, ◌+◌, ◌<◌, ◌≤◌, ℕ, List, [], ◌∷◌, length, ⊎_elim, sym, refl, ap, ◌∙◌, Option, Some, None, arith}
use Rattle.std.proofs.lemmas.Bool.Decides.{nat_tests}
use Rattle.machine_states.specs.map_history.specs.declared.op.Request.{Request}
use Rattle.machine_states.specs.body_terms.specs.declared.thunk.Thunk.{Thunk}
use Rattle.machine_states.specs.table_words.specs.declared.layout.Layout.{Layout}
use Rattle.machine_states.specs.table_words.specs.declared.spot.Spot.{Spot}
use Rattle.machine_states.specs.table_words.specs.declared.spot.Spot.TheVariants.{Announcement, Guard, Board}
use Rattle.machine_states.specs.table_words.specs.declared.access.Access.{Access}
use Rattle.machine_states.specs.table_words.specs.declared.access.Access.TheVariants.{Loads, Stores, Exchanges}
use Rattle.machine_states.specs.table_words.specs.Places.{fits, board_words}
use Rattle.machine_states.specs.structure_laws.specs.Meaning.{Meaning}
use Rattle.machine_states.specs.runner_parts.specs.declared.entries.BoardRead.{BoardRead}
use Rattle.machine_states.specs.runner_parts.specs.declared.event.EventKind.{EventKind}
use Rattle.machine_states.specs.runner_parts.specs.declared.event.EventKind.TheVariants as kinds
use Rattle.machine_states.specs.epoch_core.specs.declared.stage.Stage.{Stage}
use Rattle.machine_states.specs.epoch_core.specs.declared.stage.Stage.TheVariants as stages
use Rattle.machine_states.specs.runner_parts.specs.State.{RunState, PartState}
use Rattle.machine_states.specs.runner_parts.specs.Tests.{has, is_walking, is_outside, is_some_of}
use Rattle.runner_steps.specs.Outside.{when, scan_one_ask, entry_spot, is_sure_of}
use Rattle.runner_steps.specs.Guards.{load_guard_by}
use Rattle.runner_steps.specs.Board.{may_use, last_read}
use Rattle.runner_steps.specs.Asks.{sizes_for}
use Rattle.runner_steps.specs.Asks.{outside_ask, ask_by}
use Rattle.enabled_kinds.specs.Kinds.{kind_number, plain_kind, IsGiven}
use Rattle.enabled_kinds.specs.May.{is_enabled, is_enabled_if, May, Tells}
use Rattle.enabled_kinds.specs.Tried.{begun, link_of, linked, no_thunk}
use Rattle.enabled_kinds.proofs.Asked.{absent, not_both, not_true, both, either, neither, equal, some_passes, none_passes, when_asks, asks_when, below, is_below, resting_asks, asked, enabled, link_hand, no_run, asked_outside}
use Rattle.enabled_kinds.proofs.Numbers.{plain_only, only_scan, only_cell, only_thunk, only_link, only_board_load, only_take, only_give, only_clock, only_plan, only_guard, only_sweep, only_join, only_entry}

most : (a b : ℕ) → nat_le a b ≡ true → a ≤ b
most a b e = grind (arith, nat_tests)

-- where no load of the board passes the test, what was read last in a word doesn't
none_read : (test : ℕ → ℕ → Bool) (loads : List BoardRead) (word link : ℕ) → list_any (λ (x : BoardRead). test x.word x.read) loads ≡ false
    → is_some_of (last_read loads word) link ≡ true → test word link ≡ false
none_read test [] word link none read = absurd (not_both false read refl)
none_read test (x ∷ xs) word link none read =
    let parts = neither (test x.word x.read) (list_any (λ (y : BoardRead). test y.word y.read) xs) none in
    by (x.word == word) refl parts.0 (none_read test xs word link parts.1) read
  where
    by : (b : Bool) → (x.word == word) ≡ b → test x.word x.read ≡ false → (is_some_of (last_read xs word) link ≡ true → test word link ≡ false)
        → is_some_of (if b then Some x.read else last_read xs word) link ≡ true → test word link ≡ false
    by true same here rest read' = (λ i. test (sym (equal x.word word same) i) (sym (equal x.read link read') i)) ∙ here
    by false other here rest read' = rest read'

module _ (m : Meaning) (l : Layout) (rs : List Request) (r : ℕ) (p : PartState) where
  abbrev can : EventKind → Bool
  can k = is_enabled m l rs r p k

  -- some event of the kind with this number is enabled
  pub one : (k : EventKind) → IsGiven k → can k ≡ true → May m l rs r p (kind_number k)
  one k given e = record { kind = k; is_of = refl; given = given; enabled = e }

  -- the announcement that a scan loads is its next one
  scan_at : (n : ℕ) (st : Stage) (x : Spot × Access) → scan_one_ask l n st ≡ Some x → (e : ℕ) × (clear : Bool) × (st ≡ stages.Scanning e n clear)
  scan_at n (stages.Scanning e next clear) x h =
      let same = equal n next (both (n == next) (nat_le next l.runners) (when_asks _ _ _ x h).0).0 in
      (e, clear, ap (λ (k : ℕ). stages.Scanning e k clear) (sym same))
  scan_at n _ x h = absurd (absent x h)

  IsScanning : Stage → ℕ → Type 0
  IsScanning st n = (e : ℕ) × (clear : Bool) × (st ≡ stages.Scanning e n clear)

  scan_found : (st : Stage) (b : Bool) → ((e next : ℕ) (clear : Bool) → st ≡ stages.Scanning e next clear → b ≡ can (kinds.ScanOne next))
      → (((e next : ℕ) (clear : Bool) → st ≡ stages.Scanning e next clear → ⊥) → b ≡ false) → b ≡ true → May m l rs r p 5
  scan_found (stages.Scanning e next clear) b scanning no_scan h = one (kinds.ScanOne next) tt (sym (scanning e next clear refl) ∙ h)
  scan_found stages.Idle b scanning no_scan h = absurd (not_both b h (no_scan (λ e next clear same. cc)))
  scan_found (stages.Loaded x) b scanning no_scan h = absurd (not_both b h (no_scan (λ e next clear same. cc)))
  scan_found stages.Announced b scanning no_scan h = absurd (not_both b h (no_scan (λ e next clear same. cc)))
  scan_found (stages.Entered g) b scanning no_scan h = absurd (not_both b h (no_scan (λ e next clear same. cc)))

  pub scan_tells : (b : Bool) → ((e next : ℕ) (clear : Bool) → p.stage ≡ stages.Scanning e next clear → b ≡ can (kinds.ScanOne next))
      → (((e next : ℕ) (clear : Bool) → p.stage ≡ stages.Scanning e next clear → ⊥) → b ≡ false) → Tells m l rs r p 5 b
  scan_tells b scanning no_scan = record {
    found = scan_found p.stage b scanning no_scan;
    missed = λ no. only_scan (λ k. IsGiven k → can k ≡ false) (λ n given. not_true (can (kinds.ScanOne n)) (λ yes'.
        let a = asked m l rs r p (kinds.ScanOne n) yes' in
        let at = scan_at n p.stage a.ask (asked_outside m l rs r p (kinds.ScanOne n) a refl) in
        not_both b (scanning at.0 n at.1 at.2 ∙ yes') no));
  }

  cell_inside : (place : ℕ) → can (kinds.LoadCell (Some place)) ≡ true → place < (sizes_for m l rs).cells
  cell_inside place e =
      let a = asked m l rs r p (kinds.LoadCell (Some place)) e in
      let is = (when_asks _ _ _ a.ask (asked_outside m l rs r p (kinds.LoadCell (Some place)) a refl)).1 in
      below place (sizes_for m l rs).cells (ap (λ (x : Spot × Access). fits (sizes_for m l rs) x.0) is ∙ a.fitting)

  cell_missed : (walk : Bool) (place : Option ℕ) → can (kinds.LoadCell None) ≡ false → ((q : ℕ) → q < (sizes_for m l rs).cells → can (kinds.LoadCell (Some q)) ≡ false) → can (kinds.LoadCell place) ≡ false
  cell_missed walk None none each = none
  cell_missed walk (Some q) none each = not_true (can (kinds.LoadCell (Some q))) (λ e. not_both (can (kinds.LoadCell (Some q))) e (each q (cell_inside q e)))

  pub cell_tells : (walk : Bool) → (walk ≡ true → (place : ℕ) × (can (kinds.LoadCell (Some place)) ≡ true)) → (walk ≡ false → (q : ℕ) → q < (sizes_for m l rs).cells → can (kinds.LoadCell (Some q)) ≡ false)
      → Tells m l rs r p 9 (can (kinds.LoadCell None) || walk)
  cell_tells walk found missed = record {
    found = λ h. ⊎_elim (λ here. one (kinds.LoadCell None) tt here) (λ there. let x = found there in one (kinds.LoadCell (Some x.0)) tt x.1) (either (can (kinds.LoadCell None)) walk h);
    missed = λ h. let no = neither (can (kinds.LoadCell None)) walk h in only_cell (λ k. IsGiven k → can k ≡ false) (λ place given. cell_missed walk place no.0 (missed no.1));
  }

  -- a run begins with the descriptor that the guard word names
  thunk_named : (d : ℕ) → can (kinds.LoadThunk (Some d)) ≡ true → p.guards.named ≡ Some d
  thunk_named d e =
      let a = asked m l rs r p (kinds.LoadThunk (Some d)) e in
      let sure = both (is_walking p.stage p.run) (is_sure_of p.guards d) (when_asks _ _ _ a.ask (asked_outside m l rs r p (kinds.LoadThunk (Some d)) a refl)).0 in
      names p.guards.named (both p.guards.sure (is_some_of p.guards.named d) sure.1).1
    where
      names : (o : Option ℕ) → is_some_of o d ≡ true → o ≡ Some d
      names None e = absurd (not_both false e refl)
      names (Some n) e = ap (λ (x : ℕ). Some x) (equal n d e)

  thunk_missed : (d : Option ℕ) → can (kinds.LoadThunk None) ≡ false → is_enabled_if m l rs r p (begun p.guards.named) ≡ false → can (kinds.LoadThunk d) ≡ false
  thunk_missed None none out = none
  thunk_missed (Some d) none out = not_true (can (kinds.LoadThunk (Some d))) (λ e.
      not_both _ e (sym (ap (λ (o : Option ℕ). is_enabled_if m l rs r p (begun o)) (thunk_named d e)) ∙ out))

  pub thunk_tells : Tells m l rs r p 16 (can (kinds.LoadThunk None) || is_enabled_if m l rs r p (begun p.guards.named))
  thunk_tells =
      let some = is_enabled_if m l rs r p (begun p.guards.named) in
      record {
        found = λ h. ⊎_elim (λ here. one (kinds.LoadThunk None) tt here) (λ there. begins p.guards.named there) (either (can (kinds.LoadThunk None)) some h);
        missed = λ h. let no = neither (can (kinds.LoadThunk None)) some h in only_thunk (λ k. IsGiven k → can k ≡ false) (λ d given. thunk_missed d no.0 no.1);
      }
    where
      begins : (o : Option ℕ) → is_enabled_if m l rs r p (begun o) ≡ true → May m l rs r p 16
      begins None e = absurd (not_both false e refl)
      begins (Some d) e = one (kinds.LoadThunk (Some d)) tt e

  join_inside : (worker : ℕ) → can (kinds.Join worker) ≡ true → worker < l.runners
  join_inside worker e =
      let a = asked m l rs r p (kinds.Join worker) e in
      let test = (when_asks _ _ _ a.ask (asked_outside m l rs r p (kinds.Join worker) a refl)).0 in
      let rest = both (r == l.runners) _ test in
      let inner = both (is_outside p.run) _ rest.1 in
      below worker l.runners (both (nat_lt worker l.runners) _ inner.1).0

  pub join_tells : (b : Bool) → (b ≡ true → (worker : ℕ) × (can (kinds.Join worker) ≡ true)) → (b ≡ false → (worker : ℕ) → worker < l.runners → can (kinds.Join worker) ≡ false) → Tells m l rs r p 25 b
  join_tells b found missed = record {
    found = λ h. let x = found h in one (kinds.Join x.0) tt x.1;
    missed = λ h. only_join (λ k. IsGiven k → can k ≡ false) (λ worker given. not_true (can (kinds.Join worker)) (λ e. not_both _ e (missed h worker (join_inside worker e))));
  }

  -- a run may link no block but the one in its hand
  links : (o : Option EventKind) → o ≡ linked p.run → is_enabled_if m l rs r p o ≡ true → May m l rs r p 31
  links o is h = by_run p.run o is h
    where
      by_block : (block : Option ℕ) → is_enabled_if m l rs r p (link_of block) ≡ true → May m l rs r p 31
      by_block None e = absurd (not_both false e refl)
      by_block (Some b) e = one (kinds.LinkCommit b) tt e

      by_run : (run : Option RunState) (o : Option EventKind) → o ≡ linked run → is_enabled_if m l rs r p o ≡ true → May m l rs r p 31
      by_run None o same e = absurd (not_both false (sym (ap (is_enabled_if m l rs r p) same) ∙ e) refl)
      by_run (Some q) o same e = by_block q.block (sym (ap (is_enabled_if m l rs r p) same) ∙ e)

  pub link_tells : Tells m l rs r p 31 (is_enabled_if m l rs r p (linked p.run))
  link_tells = record {
    found = λ h. links (linked p.run) refl h;
    missed = λ h. only_link (λ k. IsGiven k → can k ≡ false) (λ b given. not_true (can (kinds.LinkCommit b)) (λ e.
        not_both (can (kinds.LinkCommit b)) e (sym (ap (is_enabled_if m l rs r p) (link_hand m l rs r p b e)) ∙ h)));
  }

  pub clock_tells : Tells m l rs r p 21 (can kinds.ClockLoad || can kinds.ReadClock)
  clock_tells = record {
    found = λ h. ⊎_elim (λ inside. one kinds.ClockLoad tt inside) (λ outside. one kinds.ReadClock tt outside)
        (either (can kinds.ClockLoad) (can kinds.ReadClock) h);
    missed = λ h. let no = neither (can kinds.ClockLoad) (can kinds.ReadClock) h in
        only_clock (λ k. IsGiven k → can k ≡ false) (λ given. no.0) (λ given. no.1);
  }

  -- a test that goes by the thunk's operands alone, of which there are eight
  whichever : (walks only no_look eight : Bool) → (walks && (only && (no_look && eight))) ≡ true → (walks && (only && (no_look && true))) ≡ true
  whichever true true true eight e = refl
  whichever true true false eight e = absurd (not_both false e refl)
  whichever true false no_look eight e = absurd (not_both false e refl)
  whichever false only no_look eight e = absurd (not_both false e refl)

  outside_run : (o : Option RunState) (st : Stage) → is_walking st o ≡ true → o ≡ None
  outside_run None st e = refl
  outside_run (Some q) stages.Idle e = absurd (not_both false e refl)
  outside_run (Some q) (stages.Entered g) e = absurd (not_both false e refl)
  outside_run (Some q) (stages.Loaded x) e = absurd (not_both false e refl)
  outside_run (Some q) stages.Announced e = absurd (not_both false e refl)
  outside_run (Some q) (stages.Scanning x next clear) e = absurd (not_both false e refl)

  plan_first : (thunk : Thunk) → can (kinds.ReadPlan thunk) ≡ true → can (kinds.ReadPlan no_thunk) ≡ true
  plan_first thunk e =
      let a = asked m l rs r p (kinds.ReadPlan thunk) e in
      let is = when_asks _ _ _ a.ask (asked_outside m l rs r p (kinds.ReadPlan thunk) a refl) in
      let fit = ap (λ (x : Spot × Access). fits (sizes_for m l rs) x.0) is.1 ∙ a.fitting in
      let passes = whichever (is_walking p.stage p.run) p.records.only_loads (is_none p.reads.look) _ is.0 in
      let out = outside_run p.run p.stage (both (is_walking p.stage p.run) _ is.0).0 in
      enabled m l rs r p (kinds.ReadPlan no_thunk) (Announcement r, Exchanges 0 0) a.stays
      (ap (ask_by m l rs r (kinds.ReadPlan no_thunk) p) out ∙ asks_when _ (Announcement r) (Exchanges 0 0) passes) fit

  plan_any : (thunk : Thunk) → can (kinds.ReadPlan no_thunk) ≡ false → can (kinds.ReadPlan thunk) ≡ false
  plan_any thunk none = not_true (can (kinds.ReadPlan thunk)) (λ e. not_both _ (plan_first thunk e) none)

  pub plan_tells : Tells m l rs r p 39 (can (kinds.ReadPlan no_thunk))
  plan_tells = record {
    found = λ h. one (kinds.ReadPlan no_thunk) refl h;
    missed = λ h. only_plan (λ k. IsGiven k → can k ≡ false) (λ thunk given. plan_any thunk h);
  }

  -- a guard word may be cleared where it may name something
  clears : (walks none numbered : Bool) → (walks && (none && numbered)) ≡ true → (walks && (none && true)) ≡ true
  clears true true numbered e = refl
  clears true false numbered e = absurd (not_both false e refl)
  clears false none numbered e = absurd (not_both false e refl)

  guard_first : (d : Option ℕ) → can (kinds.Guard d) ≡ true → can (kinds.Guard None) ≡ true
  guard_first d e =
      let a = asked m l rs r p (kinds.Guard d) e in
      let is = when_asks _ _ _ a.ask (asked_outside m l rs r p (kinds.Guard d) a refl) in
      let fit = ap (λ (x : Spot × Access). fits (sizes_for m l rs) x.0) is.1 ∙ a.fitting in
      let passes = clears (is_walking p.stage p.run) (is_none p.published) _ is.0 in
      let out = outside_run p.run p.stage (both (is_walking p.stage p.run) _ is.0).0 in
      enabled m l rs r p (kinds.Guard None) (Guard r, Stores 0) a.stays
      (ap (ask_by m l rs r (kinds.Guard None) p) out ∙ asks_when _ (Guard r) (Stores 0) passes) fit

  guard_any : (d : Option ℕ) → can (kinds.Guard None) ≡ false → can (kinds.Guard d) ≡ false
  guard_any d none = not_true (can (kinds.Guard d)) (λ e. not_both _ (guard_first d e) none)

  pub guard_tells : Tells m l rs r p 37 (can (kinds.Guard None))
  guard_tells = record {
    found = λ h. one (kinds.Guard None) tt h;
    missed = λ h. only_guard (λ k. IsGiven k → can k ≡ false) (λ d given. guard_any d h);
  }

  -- a sweep reads the words of the table's runners
  sweep_low : (st : Stage) (looked n : ℕ) (x : Spot × Access) → load_guard_by l n looked st ≡ Some x → n ≤ l.runners
  sweep_low stages.Idle looked n x e = most n l.runners (both (n == looked) (nat_le n l.runners) (when_asks _ _ _ x e).0).1
  sweep_low (stages.Loaded g) looked n x e = absurd (absent x e)
  sweep_low stages.Announced looked n x e = absurd (absent x e)
  sweep_low (stages.Entered g) looked n x e = absurd (absent x e)
  sweep_low (stages.Scanning g next clear) looked n x e = absurd (absent x e)

  sweep_any : (n : ℕ) → ((n' : ℕ) → n' ≤ l.runners → can (kinds.LoadGuard n') ≡ false) → can (kinds.LoadGuard n) ≡ false
  sweep_any n none = not_true (can (kinds.LoadGuard n)) (λ e.
      let a = asked m l rs r p (kinds.LoadGuard n) e in
      not_both _ e (none n (sweep_low p.stage (length p.guards.looked) n a.ask (asked_outside m l rs r p (kinds.LoadGuard n) a refl))))

  pub sweep_tells : (b : Bool) → (b ≡ true → (n : ℕ) × (can (kinds.LoadGuard n) ≡ true)) → (b ≡ false → (n : ℕ) → n ≤ l.runners → can (kinds.LoadGuard n) ≡ false) → Tells m l rs r p 38 b
  sweep_tells b found missed = record {
    found = λ h. let x = found h in one (kinds.LoadGuard x.0) tt x.1;
    missed = λ h. only_sweep (λ k. IsGiven k → can k ≡ false) (λ n given. sweep_any n (missed h));
  }

  entry_below : (request : ℕ) (reply : Bool) → fits (sizes_for m l rs) (entry_spot request reply) ≡ true → fits (sizes_for m l rs) (entry_spot 0 false) ≡ true
  entry_below request true e = is_below 0 (length rs) (let h = below request (length rs) e in omega (arith, h))
  entry_below request false e = is_below 0 (length rs) (let h = below request (length rs) e in omega (arith, h))

  entry_first : (request : ℕ) (reply : Bool) → can (kinds.LoadEntry request reply) ≡ true → can (kinds.LoadEntry 0 false) ≡ true
  entry_first request reply e =
      let a = asked m l rs r p (kinds.LoadEntry request reply) e in
      let is = when_asks _ _ _ a.ask (asked_outside m l rs r p (kinds.LoadEntry request reply) a refl) in
      let inside = entry_below request reply (ap (λ (x : Spot × Access). fits (sizes_for m l rs) x.0) is.1 ∙ a.fitting) in
      enabled m l rs r p (kinds.LoadEntry 0 false) (entry_spot 0 false, Loads) a.stays (resting_asks m l rs r p (kinds.LoadEntry 0 false) (entry_spot 0 false, Loads) is.0 (asks_when _ _ _ is.0)) inside

  pub entry_tells : Tells m l rs r p 26 (can (kinds.LoadEntry 0 false))
  entry_tells = record {
    found = λ h. one (kinds.LoadEntry 0 false) tt h;
    missed = λ h. only_entry (λ k. IsGiven k → can k ≡ false) (λ request reply given. not_true (can (kinds.LoadEntry request reply)) (λ e. not_both _ (entry_first request reply e) h));
  }

  -- each word of the board may be met that one of them may
  first_of_board : (k : EventKind) (test : Bool) (access : Access) → outside_ask m l rs r k p ≡ when test (Board 0) access → test ≡ true → p.gone ≡ false → p.run ≡ None → can k ≡ true
  first_of_board k test access is passes stays out =
      enabled m l rs r p k (Board 0, access) stays (ap (ask_by m l rs r k p) out ∙ (is ∙ asks_when test (Board 0) access passes)) (is_below 0 board_words (omega arith))

  load_first : (word : ℕ) → can (kinds.BoardLoad word) ≡ true → can (kinds.BoardLoad 0) ≡ true
  load_first word e =
      let a = asked m l rs r p (kinds.BoardLoad word) e in
      let is = when_asks (may_use l r p.stage) (Board word) Loads a.ask (asked_outside m l rs r p (kinds.BoardLoad word) a refl) in
      first_of_board (kinds.BoardLoad 0) (may_use l r p.stage) Loads refl is.0 a.stays (no_run m l rs r p (kinds.BoardLoad word) a refl)

  load_any : (word : ℕ) → can (kinds.BoardLoad 0) ≡ false → can (kinds.BoardLoad word) ≡ false
  load_any word none = not_true (can (kinds.BoardLoad word)) (λ e. not_both _ (load_first word e) none)

  pub board_load_tells : Tells m l rs r p 32 (can (kinds.BoardLoad 0))
  board_load_tells = record {
    found = λ h. one (kinds.BoardLoad 0) tt h;
    missed = λ h. only_board_load (λ k. IsGiven k → can k ≡ false) (λ word given. load_any word h);
  }

  -- a slot is taken by a load of the word
  take_read : (word link : ℕ) → can (kinds.BoardTake word link) ≡ true → is_some_of (last_read p.board word) link ≡ true
  take_read word link e =
      let a = asked m l rs r p (kinds.BoardTake word link) e in
      let is = when_asks (may_use l r p.stage && (not (link == 0) && is_some_of (last_read p.board word) link)) (Board word) (Exchanges link 0) a.ask (asked_outside m l rs r p (kinds.BoardTake word link) a refl) in
      (both (not (link == 0)) _ (both (may_use l r p.stage) _ is.0).1).1

  abbrev takes : BoardRead → Bool
  takes x = can (kinds.BoardTake x.word x.read)

  take_any : (word link : ℕ) → list_any takes p.board ≡ false → can (kinds.BoardTake word link) ≡ false
  take_any word link none = not_true (can (kinds.BoardTake word link)) (λ e.
      not_both _ e (none_read (λ word' link'. can (kinds.BoardTake word' link')) p.board word link none (take_read word link e)))

  pub take_tells : Tells m l rs r p 33 (list_any takes p.board)
  take_tells = record {
    found = λ h. let x = some_passes takes p.board h in one (kinds.BoardTake x.0.word x.0.read) tt x.1;
    missed = λ h. only_take (λ k. IsGiven k → can k ≡ false) (λ word link given. take_any word link h);
  }

  -- a free slot may go to each word
  abbrev gives : ℕ → Bool
  gives slot = can (kinds.BoardGive 0 slot)

  give_first : (word slot : ℕ) → can (kinds.BoardGive word slot) ≡ true → (has p.nodes.free slot ≡ true) × (gives slot ≡ true)
  give_first word slot e =
      let test = may_use l r p.stage && has p.nodes.free slot in
      let a = asked m l rs r p (kinds.BoardGive word slot) e in
      let is = when_asks test (Board word) (Exchanges 0 (slot + 1)) a.ask (asked_outside m l rs r p (kinds.BoardGive word slot) a refl) in (
        (both (may_use l r p.stage) (has p.nodes.free slot) is.0).1,
        first_of_board (kinds.BoardGive 0 slot) test (Exchanges 0 (slot + 1)) refl is.0 a.stays (no_run m l rs r p (kinds.BoardGive word slot) a refl),
      )

  give_any : (word slot : ℕ) → list_any gives p.nodes.free ≡ false → can (kinds.BoardGive word slot) ≡ false
  give_any word slot none = not_true (can (kinds.BoardGive word slot)) (λ e.
      let is = give_first word slot e in not_both (gives slot) is.1 (none_passes gives p.nodes.free slot none is.0))

  pub give_tells : Tells m l rs r p 34 (list_any gives p.nodes.free)
  give_tells = record {
    found = λ h. let x = some_passes gives p.nodes.free h in one (kinds.BoardGive 0 x.0) tt x.1;
    missed = λ h. only_give (λ k. IsGiven k → can k ≡ false) (λ word slot given. give_any word slot h);
  }

  -- a kind whose events carry no argument has one event
  pub if_tells : (n : ℕ) (o : Option EventKind) → plain_kind n ≡ o → ((k : EventKind) → kind_number k ≡ n → plain_kind n ≡ None → ⊥) → ((k : EventKind) → o ≡ Some k → (kind_number k ≡ n) × IsGiven k) → Tells m l rs r p n (is_enabled_if m l rs r p o)
  if_tells n None is no_other of = record {
    found = λ h. absurd (not_both false h refl);
    missed = λ h k number given. absurd (no_other k number is);
  }
  if_tells n (Some k) is no_other of = record {
    found = λ h. record { kind = k; is_of = (of k refl).0; given = (of k refl).1; enabled = h };
    missed = λ h k' number given. ap can (plain_only k' k (ap plain_kind number ∙ is)) ∙ h;
  }
