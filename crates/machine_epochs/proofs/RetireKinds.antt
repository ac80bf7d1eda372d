-- The kinds of step of a Retire.
use Rattle.std.specs.Prelude.{◌==◌, cond, if◌then◌else◌, Bool, true, false}
use Rattle.std.proofs.Common.{◌≡◌, ◌≢◌, ℕ, suc, ◌+◌, ◌<◌, List, [], ◌∷◌, ◌++◌, map, refl, sym, ap, ◌∙◌, subst, arith, Some}
use Rattle.std.proofs.lemmas.Bool.Decides.{nat_tests}
use Rattle.machine_states.specs.body_terms.specs.declared.micro.Micro.{Micro}
use Rattle.machine_states.specs.body_terms.specs.declared.micro.Micro.TheVariants as micros
use Rattle.machine_states.specs.body_terms.specs.Line.{micro_at}
use Rattle.machine_states.specs.body_terms.specs.Run.{written_once}
use Rattle.machine_states.specs.table_words.specs.declared.layout.Layout.{Layout}
use Rattle.machine_states.specs.table_words.specs.declared.spot.Spot.{Spot}
use Rattle.machine_states.specs.table_words.specs.declared.spot.Spot.TheVariants.{Epoch}
use Rattle.machine_states.specs.table_words.specs.declared.access.Access.{Access}
use Rattle.machine_states.specs.table_words.specs.declared.access.Access.TheVariants.{Loads, Exchanges}
use Rattle.machine_states.specs.table_words.specs.Access.{exchanged}
use Rattle.machine_states.specs.table_words.specs.Seen.{upd, put}
use Rattle.machine_states.specs.structure_laws.specs.Meaning.{Meaning}
use Rattle.machine_states.specs.runner_parts.specs.declared.event.EventKind.TheVariants as kinds
use Rattle.machine_states.specs.runner_parts.specs.declared.entries.Retired.{Retired}
use Rattle.machine_states.specs.runner_parts.specs.State.{RunState, PartState, RecordsState}
use Rattle.machine_states.specs.runner_steps.specs.Sections.{thunk_of, is_open_run, line_of, next_of, setting_of, commits_to, needs_link}
use Rattle.machine_states.specs.runner_parts.specs.Lists.{slot_retired}
use Rattle.machine_states.specs.runner_steps.specs.InRun.{epoch_for_retire_ask, retire_commit_ask}
use Rattle.machine_states.specs.body_terms.specs.block_words.specs.Blocks.{log_spot}
use Rattle.machine_states.specs.runner_steps.specs.AfterInRun as runs
use Rattle.machine_states.specs.epoch_core.specs.declared.location.Location.{Location}
use Rattle.machine_states.specs.epoch_core.specs.declared.location.Location.TheVariants.{Live, Hand}
use Rattle.machine_states.specs.epoch_core.specs.Update.{upd2}
use Rattle.machine_states.specs.epoch_core.specs.Moves as moves
use Rattle.machine_states.specs.epoch_core.specs.State.{EpochState, Retiring, no_retire, Retires}
use Rattle.machine_states.specs.epoch_core.specs.Events.{slot_of}
use Rattle.machine_states.specs.epoch_core.specs.Events as events
use Rattle.machine_states.specs.epoch_core.specs.History.{is_out}
use Rattle.machine_states.specs.epoch_core.specs.Lists.{Entry, Lists, retired_lists}
use Rattle.machine_states.specs.Sight.{Sight}
use Rattle.machine_states.proofs.Updates.{map_same, map_upd, upd_here}
use Rattle.machine_epochs.specs.Entries.{counts_of}
use Rattle.machine_epochs.specs.Joined.{IsJoinedToEpochs}
use Rattle.machine_epochs.specs.Slots.{entry_of, lists_of, retire_before, retiring_of}
use Rattle.machine_epochs.specs.Supplied.{MayRetire}
use Rattle.machine_epochs.proofs.InsideAsked as asked
use Rattle.machine_epochs.proofs.Roles as roles
use Rattle.machine_epochs.proofs.RunPlaces.{next_in_line, open_run, goes_on_unretired, unretired_before, retire_next}
use Rattle.machine_epochs.proofs.Places.{apart, run_few, run_role}
use Rattle.machine_epochs.proofs.Joining.{but_load, descriptor_same, IsElsewhere, Goes, next}
use Rattle.machine_epochs.proofs.LogSpots.{LeavesRest, log_leaves}
use Rattle.machine_epochs.proofs.RunKinds.{KeepsRun, KeepsRest, run_goes, Leads, for_step}
use Rattle.machine_epochs.proofs.SlotKinds.{other_place, kept_place, live_hand}

other_retire : (f : ℕ → Retiring) (r i : ℕ) (x : Retiring) → i ≢ r → upd f r x i ≡ f i
other_retire f r i x ne = grind (arith, nat_tests)

same_place : (f : ℕ → Location) (t i : ℕ) (p : Location) → p ≡ f t → upd f t p i ≡ f i
same_place f t i p e = grind (arith, nat_tests)

pub map_more : (xs : List Retired) (x : Retired) → map entry_of (xs ++ x ∷ []) ≡ map entry_of xs ++ entry_of x ∷ []
map_more [] x = refl
map_more (y ∷ ys) x = ap (λ (zs : List Entry). entry_of y ∷ zs) (map_more ys x)

is_nought : (n : ℕ) → (n == 0) ≡ true → n ≡ 0
is_nought n e = grind (arith, nat_tests)

module _ (m : Meaning) (l : Layout) (w : EpochState) (s : Sight) (old : IsJoinedToEpochs m l w s) (r : ℕ) (q : RunState) (at : (s.part r).run ≡ Some q) (is_open : is_open_run q ≡ true) (slot k : ℕ) where
  abbrev p : PartState
  p = s.part r

  abbrev d : ℕ
  d = q.descriptor

  held : w.holds r (slot_of (counts_of m l) d) ≡ true
  held = (old.tied r).run_held q at

  -- the epoch for it is loaded
  module _ (here : micro_at (line_of m q) q.at ≡ micros.EpochForRetire slot k) (may : MayRetire (counts_of m l) w d k slot) where
    abbrev loaded : RunState
    loaded = runs.goes_on m l q (s.word Epoch)

    next_here : micro_at (line_of m q) loaded.at ≡ micros.RetireCommit slot k
    next_here = retire_next (m.body (thunk_of q.opened)) (setting_of l q.descriptor) q.trail q.at slot k here

    abbrev retiring : ℕ → Retiring
    retiring epoch = record { loaded = true; descriptor = d; index = k; slot = slot; epoch = epoch }

    unloaded : (w.retire r).loaded ≡ false
    unloaded = ap (λ (x : Retiring). x.loaded) ((old.tied r).retire ∙ (ap (retiring_of m) at ∙ unretired_before m q (micros.EpochForRetire slot k) (λ s k e. let x = e in cc) here))

    pub loads_epoch : (records : RecordsState) → Goes m l (events.RetireEpoch r d k slot ∷ []) w (next m l w s old r (put s.word Epoch (s.word Epoch)) (record p { run = Some loaded; records = records }))
    loads_epoch records =
        run_goes m l w s old r q at is_open (events.RetireEpoch r d k slot ∷ []) refl
        ((unloaded, held, run_role m l w s old r q at (open_run q is_open) k (Retires slot) (roles.retire_role (m.body (thunk_of q.opened)) q.at slot k here), may.node, may.live, may.once), tt)
        (put s.word Epoch (s.word Epoch)) loaded _
        (record {
          holds = λ t h. h;
          alone = λ d h. h;
          entered = λ h. h;
          live = λ i h. h;
          thunk = λ i j. refl;
          stored = λ i j h. descriptor_same (put s.word Epoch (s.word Epoch)) s.word (but_load s.word Epoch) i j;
          on_run = record { descriptor = refl; opened = refl };
          made = λ t e. (old.tied r).run_made q t at e;
          moved = record { stage = refl; published = refl; descriptors = refl; guards = refl; walk = refl };
          here = refl;
          retire = upd_here w.retire r (retiring w.epoch) ∙ (ap retiring old.entries.epoch ∙ sym (ap (retire_before loaded) next_here));
        })
        (record {
          epoch = refl;
          announced = λ i. refl;
          stage = λ i. refl;
          role = λ i j. refl;
          out = λ i h. h;
          seen_epoch = refl;
          seen_announced = λ i. refl;
          seen_board = λ i. refl;
        })
        (λ i ne. record {
          holds = λ t h. h;
          alone = λ d h. h;
          words = λ j j' h. refl;
          hand = λ t h. h;
          retire = other_retire w.retire r i (retiring w.epoch) ne;
          live = λ x e h. h;
          entered = λ h. h;
          stored = λ j j' h. descriptor_same (put s.word Epoch (s.word Epoch)) s.word (but_load s.word Epoch) j j';
        })
        (sym (map_same lists_of s.part r _ refl))

  -- its commit
  module _ (here : micro_at (line_of m q) q.at ≡ micros.RetireCommit slot k) (logged : w.log d k ≡ s.word (log_spot d q.links k)) where
    abbrev a : Spot
    a = log_spot d q.links k

    abbrev found : ℕ
    found = s.word a

    abbrev f : Spot → ℕ
    f = put s.word a (exchanged found 0 (slot + 1))

    rest : LeavesRest s.word a (exchanged found 0 (slot + 1)) d
    rest = log_leaves s.word (exchanged found 0 (slot + 1)) d q.links k

    few : d < (counts_of m l).descriptors
    few = run_few m l w s old r q at

    abbrev agreed : RunState
    agreed = runs.agrees m l q (written_once found (slot + 1))

    -- the Retire at which the runner is
    abbrev retiring_now : Retiring
    retiring_now = record { loaded = true; descriptor = d; index = k; slot = slot; epoch = q.word }

    is_now : w.retire r ≡ retiring_now
    is_now = (old.tied r).retire ∙ (ap (retiring_of m) at ∙ ap (retire_before q) here)

    -- the state after the commit of this Retire
    abbrev committed : Retiring → EpochState
    committed x = record w {
      location = upd w.location x.slot (moves.retired (w.log x.descriptor x.index) r x.epoch (w.location x.slot));
      log = upd2 w.log x.descriptor x.index (written_once (w.log x.descriptor x.index) (suc x.slot));
      retire = upd w.retire r no_retire;
    }

    is_loaded : (w.retire r).loaded ≡ true
    is_loaded = ap (λ (x : Retiring). x.loaded) is_now

    node : slot < (counts_of m l).nodes
    node = subst (λ (x : Retiring). x.slot < (counts_of m l).nodes) is_now (old.sound.retire_node r is_loaded)

    pending : w.log d k ≡ 0 → w.location slot ≡ Live
    pending nought = subst (λ (x : Retiring). w.location x.slot ≡ Live) is_now (old.sound.retire_live r (is_loaded, subst (λ (x : Retiring). w.log x.descriptor x.index ≡ 0) (sym is_now) nought))

    abbrev place : Location
    place = moves.retired (w.log d k) r q.word (w.location slot)

    keeps_hand : (b : Bool) → (w.log d k == 0) ≡ b → (i t : ℕ) → w.location t ≡ Hand i → upd w.location slot place t ≡ Hand i
    keeps_hand true e i t h = kept_place w.location slot t place Live (Hand i) (pending (is_nought (w.log d k) e)) (live_hand i) h
    keeps_hand false e i t h = same_place w.location slot t place (ap (λ b. cond b (moves.retired 0 r q.word (w.location slot)) (w.location slot)) e) ∙ h

    descriptor_place : (i : ℕ) → upd w.location slot place (slot_of (counts_of m l) i) ≡ w.location (slot_of (counts_of m l) i)
    descriptor_place i = let low = node in other_place w.location slot (slot_of (counts_of m l) i) place (λ e. absurd (omega arith))

    abbrev own : PartState
    own = record p { run = Some agreed; nodes = (if found == 0 then slot_retired p.nodes slot q.word else p.nodes) }

    lists_by : (b : Bool) → cond b (record (lists_of p) { limbo = map entry_of p.nodes.limbo ++ record { slot = slot; epoch = q.word } ∷ [] }) (lists_of p)
        ≡ lists_of (record p { nodes = cond b (slot_retired p.nodes slot q.word) p.nodes })
    lists_by true = ap (λ (xs : List Entry). record (lists_of p) { limbo = xs }) (sym (map_more p.nodes.limbo (record { slot = slot; epoch = q.word })))
    lists_by false = refl

    own_lists : retired_lists (w.log d k) slot q.word (lists_of p) ≡ lists_of own
    own_lists = ap (λ n. retired_lists n slot q.word (lists_of p)) logged ∙ lists_by (found == 0)

    pub retires : (records : RecordsState) → Goes m l (events.RetireCommit r ∷ []) w (next m l w s old r f (record own { records = records }))
    retires records =
        run_goes m l w s old r q at is_open (events.RetireCommit r ∷ []) refl (is_loaded, tt) f agreed _
        (subst (λ (x : Retiring). KeepsRun m l w s old r q at is_open (committed x) f agreed (record own { records = records })) (sym is_now) (record {
          holds = λ t h. h;
          alone = λ d h. h;
          entered = λ h. h;
          live = λ i h. descriptor_place i ∙ h;
          thunk = rest.thunk;
          stored = λ i j has_it. rest.elsewhere i j (apart m l w s old r r d i held few has_it);
          on_run = record { descriptor = refl; opened = refl };
          made = λ t e. keeps_hand (w.log d k == 0) refl r t ((old.tied r).run_made q t at e);
          moved = record { stage = refl; published = refl; descriptors = refl; guards = refl; walk = refl };
          here = refl;
          retire = upd_here w.retire r no_retire
              ∙ sym (goes_on_unretired m l q (micros.RetireCommit slot k) here (λ s' k' e. let x = e in cc) agreed refl (q.trail ++ written_once found (slot + 1) ∷ []) refl);
        }))
        (subst (λ (x : Retiring). KeepsRest m l w s old r q at is_open (committed x) f) (sym is_now) (record {
          epoch = refl;
          announced = λ i. refl;
          stage = λ i. refl;
          role = λ i j. refl;
          out = λ i h. ap is_out (sym (descriptor_place i)) ∙ h;
          seen_epoch = rest.epoch;
          seen_announced = rest.announced;
          seen_board = rest.board;
        }))
        (λ i ne. subst (λ (x : Retiring). IsElsewhere m l w (committed x) s.word f i (s.part i)) (sym is_now) (record {
          holds = λ t h. h;
          alone = λ d h. h;
          words = λ j j' h. rest.thunk j j';
          hand = λ t h. keeps_hand (w.log d k == 0) refl i t h;
          retire = other_retire w.retire r i no_retire ne;
          live = λ x e h. descriptor_place x.descriptor ∙ h;
          entered = λ h. h;
          stored = λ j j' has_it. rest.elsewhere j j' (apart m l w s old r i d j held few has_it);
        }))
        (ap (λ (x : Retiring). upd (λ i. lists_of (s.part i)) r (retired_lists (w.log x.descriptor x.index) x.slot x.epoch (lists_of p))) is_now
        ∙ (ap (λ (x : Lists). upd (λ i. lists_of (s.part i)) r x) own_lists ∙ sym (map_upd lists_of s.part r _)))

module _ (m : Meaning) (l : Layout) (w : EpochState) (s : Sight) (old : IsJoinedToEpochs m l w s) (r : ℕ) (q : RunState) (at : (s.part r).run ≡ Some q) (is_open : is_open_run q ≡ true)
    (records : RecordsState) (micro : Micro) (ahead : next_of m q ≡ micro) (x : Spot × Access) where
  pub epoch_for_retire : ((slot k : ℕ) → micro ≡ micros.EpochForRetire slot k → MayRetire (counts_of m l) w q.descriptor k slot) → epoch_for_retire_ask q micro ≡ Some x
      → Leads m l w s old r q at is_open kinds.EpochForRetire records micro x
  epoch_for_retire may e =
      let h = asked.epoch_for_retire_asked q x micro e in
      let μ : Micro = micros.EpochForRetire h.0 h.1 in
      for_step m l w s old r q at is_open kinds.EpochForRetire records micro x μ (Epoch, Loads) h.2 h.3
      (_, (h.0, h.1, refl, refl), loads_epoch m l w s old r q at is_open h.0 h.1 (next_in_line m q μ refl (ahead ∙ h.2)) (may h.0 h.1 h.2) records)

  pub retire_commit : ((k : ℕ) → commits_to micro ≡ Some k → needs_link q micro ≡ false → w.log q.descriptor k ≡ s.word x.0)
      → retire_commit_ask q micro ≡ Some x → Leads m l w s old r q at is_open kinds.RetireCommit records micro x
  retire_commit logged e =
      let h = asked.retire_commit_asked q x micro e in
      let k = h.1.log in
      let μ : Micro = micros.RetireCommit h.0 k in
      for_step m l w s old r q at is_open kinds.RetireCommit records micro x μ (log_spot q.descriptor q.links k, Exchanges 0 (h.0 + 1)) h.1.step h.1.is (
        _,
        (h.0, k, refl, refl),
        retires m l w s old r q at is_open h.0 k (next_in_line m q μ refl (ahead ∙ h.1.step))
            (logged k (ap commits_to h.1.step) (ap (needs_link q) h.1.step ∙ h.1.linked) ∙ ap (λ (y : Spot × Access). s.word y.0) (sym h.1.is)) records,
      )
