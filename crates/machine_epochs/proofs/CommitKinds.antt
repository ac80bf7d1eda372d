-- The commits of words.
use Rattle.std.specs.Prelude.{◌==◌, ◌||◌, cond, Bool, true, false}
use Rattle.std.proofs.Common.{◌≡◌, ◌≢◌, ℕ, ◌<◌, [], ◌∷◌, ◌++◌, refl, sym, ◌∙◌, arith, Some, ⊎_elim, inl, inr}
use Rattle.std.proofs.lemmas.Bool.Decides.{nat_tests}
use Rattle.machine_states.specs.body_terms.specs.declared.micro.Micro.{Micro}
use Rattle.machine_states.specs.body_terms.specs.declared.micro.Micro.TheVariants as micros
use Rattle.machine_states.specs.body_terms.specs.Line.{line, micro_at}
use Rattle.machine_states.specs.body_terms.specs.Run.{written_once}
use Rattle.machine_states.specs.table_words.specs.declared.layout.Layout.{Layout}
use Rattle.machine_states.specs.table_words.specs.declared.spot.Spot.{Spot}
use Rattle.machine_states.specs.table_words.specs.declared.access.Access.{Access}
use Rattle.machine_states.specs.table_words.specs.declared.access.Access.TheVariants.{Exchanges}
use Rattle.machine_states.specs.table_words.specs.Access.{exchanged}
use Rattle.machine_states.specs.table_words.specs.Seen.{put}
use Rattle.machine_states.specs.structure_laws.specs.Meaning.{Meaning}
use Rattle.machine_states.specs.runner_parts.specs.declared.event.EventKind.TheVariants as kinds
use Rattle.machine_states.specs.runner_parts.specs.State.{RunState, PartState, RecordsState}
use Rattle.machine_states.specs.runner_steps.specs.Sections.{thunk_of, is_open_run, next_of}
use Rattle.machine_states.specs.runner_steps.specs.InRun.{commit_ask, outcome_commit_ask}
use Rattle.machine_states.specs.body_terms.specs.block_words.specs.Blocks.{log_spot}
use Rattle.machine_states.specs.runner_steps.specs.AfterInRun as runs
use Rattle.machine_states.specs.epoch_core.specs.Update.{upd_row}
use Rattle.machine_states.specs.epoch_core.specs.State.{EpochState, Role, Agrees}
use Rattle.machine_states.specs.epoch_core.specs.Events.{slot_of}
use Rattle.machine_states.specs.epoch_core.specs.Events as events
use Rattle.machine_states.specs.Sight.{Sight}
use Rattle.machine_epochs.specs.Entries.{counts_of}
use Rattle.machine_epochs.specs.Joined.{IsJoinedToEpochs}
use Rattle.machine_epochs.specs.Roles.{role_at}
use Rattle.machine_epochs.specs.Slots.{lists_of}
use Rattle.machine_states.proofs.Updates.{map_same}
use Rattle.machine_epochs.proofs.InsideAsked as asked
use Rattle.machine_epochs.proofs.Roles as roles
use Rattle.machine_epochs.proofs.RunPlaces.{is_of_end, next_in_line, open_run}
use Rattle.machine_epochs.proofs.Places.{apart, run_few, run_role}
use Rattle.machine_epochs.proofs.Joining.{Goes, next}
use Rattle.machine_epochs.proofs.LogSpots.{LeavesRest, log_leaves}
use Rattle.machine_epochs.proofs.RunKinds.{is_of_retire, run_goes, still, Leads, for_step}

pub row_else : (f : ℕ → ℕ → Bool) (r i t : ℕ) (row : ℕ → Bool) → i ≢ r → f i t ≡ true → upd_row f r row i t ≡ true
row_else f r i t row ne h = grind (arith, nat_tests)

pub row_named : (r : ℕ) (had comes holds : Bool) → (had ≡ true → holds ≡ true) → (had || comes) ≡ true → cond (r == r) (holds || comes) holds ≡ true
row_named r had comes holds h e = grind (arith, nat_tests)

-- another runner's row is as it was
pub row_only : (f : ℕ → ℕ → Bool) (r i t : ℕ) (row : ℕ → Bool) → i ≢ r → upd_row f r row i t ≡ true → f i t ≡ true
row_only f r i t row ne h = grind (arith, nat_tests)

-- what stands in the own row stood there, or has come
pub row_back : (r : ℕ) (holds comes had : Bool) → (holds ≡ true → had ≡ true) → cond (r == r) (holds || comes) holds ≡ true → (had || comes) ≡ true
row_back r holds comes had h e = grind (arith, nat_tests)

module _ (m : Meaning) (l : Layout) (w : EpochState) (s : Sight) (old : IsJoinedToEpochs m l w s) where
  module _ (r : ℕ) (q : RunState) (at : (s.part r).run ≡ Some q) (is_open : is_open_run q ≡ true) where
    abbrev p : PartState
    p = s.part r

    abbrev d : ℕ
    d = q.descriptor

    held : w.holds r (slot_of (counts_of m l) d) ≡ true
    held = (old.tied r).run_held q at

    -- a commit of a word by which the runner comes to hold these slots
    module _ (micro : Micro) (ahead : next_of m q ≡ micro) (inner : is_of_end micro ≡ false) (other : is_of_retire micro ≡ false)
        (k : ℕ) (role : w.role d k ≡ Agrees) where
      abbrev a : Spot
      a = log_spot d q.links k

      abbrev f : Spot → ℕ
      f = put s.word a (exchanged (s.word a) 0 q.word)

      rest : LeavesRest s.word a (exchanged (s.word a) 0 q.word) d
      rest = log_leaves s.word (exchanged (s.word a) 0 q.word) d q.links k

      few : d < (counts_of m l).descriptors
      few = run_few m l w s old r q at

      pub commits : (records : RecordsState)
          → Goes m l (events.WordCommit r d k q.word ∷ []) w (next m l w s old r f (record p { run = Some (runs.agrees m l q (written_once (s.word a) q.word)); records = records }))
      commits records =
          run_goes m l w s old r q at is_open (events.WordCommit r d k q.word ∷ []) refl ((held, role), tt)
          f (runs.agrees m l q (written_once (s.word a) q.word)) _
          (record {
            holds = λ t h. h;
            alone = λ i h. h;
            entered = λ h. h;
            live = λ i h. h;
            thunk = rest.thunk;
            stored = λ i j free. rest.elsewhere i j (apart m l w s old r r d i held few free);
            on_run = record { descriptor = refl; opened = refl };
            made = λ t e. (old.tied r).run_made q t at e;
            moved = record { stage = refl; published = refl; descriptors = refl; guards = refl; walk = refl };
            here = refl;
            retire = still m l w s old r q at is_open micro ahead inner other (runs.agrees m l q (written_once (s.word a) q.word)) (record { descriptor = refl; opened = refl }) (q.trail ++ written_once (s.word a) q.word ∷ []) refl;
          })
          (record {
            epoch = refl;
            announced = λ i. refl;
            stage = λ i. refl;
            role = λ i j. refl;
            out = λ i h. h;
            seen_epoch = rest.epoch;
            seen_announced = rest.announced;
            seen_board = rest.board;
          })
          (λ i ne. record {
            holds = λ t h. h;
            alone = λ i' h. h;
            words = λ i' j h. rest.thunk i' j;
            hand = λ t h. h;
            retire = refl;
            live = λ x here h. h;
            entered = λ h. h;
            stored = λ i' j free. rest.elsewhere i' j (apart m l w s old r i d i' held few free);
          })
          (sym (map_same lists_of s.part r _ refl))

    module _ (records : RecordsState) (micro : Micro) (ahead : next_of m q ≡ micro) (x : Spot × Access) where
      code_is : (μ : Micro) → micro ≡ μ → is_of_end μ ≡ false → micro_at (line (m.body (thunk_of q.opened))) q.at ≡ μ
      code_is μ e inner = next_in_line m q μ inner (ahead ∙ e)

      abbrev role_of : (k : ℕ) (role : Role) → role_at (m.body (thunk_of q.opened)) k ≡ role → w.role d k ≡ role
      role_of = run_role m l w s old r q at (open_run q is_open)

      word_goes : (place log : ℕ) → micro ≡ micros.Commit place log → (log_spot d q.links log, Exchanges 0 q.word) ≡ x → Leads m l w s old r q at is_open kinds.Commit records micro x
      word_goes place log e is =
          for_step m l w s old r q at is_open kinds.Commit records micro x (micros.Commit place log) (log_spot d q.links log, Exchanges 0 q.word) e is (
            _,
            (place, log, inl refl, refl),
            commits (micros.Commit place log) (ahead ∙ e) refl refl log (role_of log Agrees (roles.load_role (m.body (thunk_of q.opened)) q.at place log (code_is (micros.Commit place log) e refl))) records,
          )

      lock_goes : (place log : ℕ) → micro ≡ micros.NestedCommit place log → (log_spot d q.links log, Exchanges 0 q.word) ≡ x → Leads m l w s old r q at is_open kinds.Commit records micro x
      lock_goes place log e is =
          for_step m l w s old r q at is_open kinds.Commit records micro x (micros.NestedCommit place log) (log_spot d q.links log, Exchanges 0 q.word) e is (
            _,
            (place, log, inr refl, refl),
            commits (micros.NestedCommit place log) (ahead ∙ e) refl refl log (role_of log Agrees (roles.nested_role (m.body (thunk_of q.opened)) q.at place log (code_is (micros.NestedCommit place log) e refl))) records,
          )

      pub commit : commit_ask q micro ≡ Some x → Leads m l w s old r q at is_open kinds.Commit records micro x
      commit e = let h = asked.commit_asked q x micro e in
          ⊎_elim (λ word. word_goes h.step.0 h.log word h.is) (λ lock. lock_goes h.step.0 h.log lock h.is) h.step.1

      pub outcome_commit : outcome_commit_ask q micro ≡ Some x → Leads m l w s old r q at is_open kinds.OutcomeCommit records micro x
      outcome_commit e =
          let h = asked.outcome_commit_asked q x micro e in
          let μ : Micro = micros.OutcomeCommit h.step.0 h.log in
          for_step m l w s old r q at is_open kinds.OutcomeCommit records micro x μ (log_spot d q.links h.log, Exchanges 0 q.word) h.step.1 h.is (
            _,
            (h.step.0, h.log, refl, refl),
            commits μ (ahead ∙ h.step.1) refl refl h.log (role_of h.log Agrees (roles.outcome_role (m.body (thunk_of q.opened)) q.at h.step.0 h.log (code_is μ h.step.1 refl))) records,
          )
