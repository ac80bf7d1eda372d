-- A section that leaves since it found another word than the expected one found another one: over one step of the
-- machine. The word that is agreed behind the exchange of a Take was loaded there, where the lock is past the free word
-- that was expected.
use Rattle.std.specs.Prelude.{true}
use Rattle.std.proofs.Common.{◌≡◌, ◌≢◌, ℕ, suc, ◌<◌, List, length, sym, ap, ◌∙◌, subst, ⊎_elim, inr, arith, Some}
use Rattle.machine_states.specs.map_history.specs.declared.op.Request.{Request}
use Rattle.machine_states.specs.body_terms.specs.Line.{line, micro_at, is_commit}
use Rattle.machine_states.specs.body_terms.specs.Run.{leaves}
use Rattle.machine_states.specs.body_terms.specs.Word.{version_of}
use Rattle.machine_states.specs.body_terms.specs.declared.micro.Micro.{Micro}
use Rattle.machine_states.specs.body_terms.specs.declared.micro.Micro.TheVariants.{NestedHold, OutcomeCommit}
use Rattle.machine_states.specs.body_terms.specs.declared.outcome.Outcome.TheVariants.{Stale}
use Rattle.machine_states.specs.body_terms.specs.declared.thunk.Thunk.{Thunk}
use Rattle.agreement_core.specs.section_lines.specs.Line.{IsLine}
use Rattle.machine_states.specs.table_words.specs.declared.layout.Layout.{Layout}
use Rattle.machine_states.specs.table_words.specs.declared.spot.Spot.TheVariants.{Cell}
use Rattle.machine_states.specs.table_words.specs.Limits.{IsWithinLimits}
use Rattle.machine_states.specs.structure_laws.specs.Meaning.{Meaning}
use Rattle.machine_states.specs.structure_laws.specs.Laws.{Laws}
use Rattle.machine_states.specs.runner_parts.specs.declared.event.EventKind.{EventKind}
use Rattle.machine_states.specs.runner_parts.specs.State.{RunState, FinishedState, PartState}
use Rattle.machine_states.specs.runner_steps.specs.Sections.{setting_of, line_of, reply_in, thunk_of}
use Rattle.agreement_core.specs.State.{AgreementState, Section}
use Rattle.machine_states.specs.Sight.{Sight}
use Rattle.machine_epochs.specs.Slots.{thunk_in}
use Rattle.runner_facts.specs.machine_facts.specs.machine_invariant.proofs.Trails.{run_used}
use Rattle.runner_facts.specs.machine_facts.specs.machine_agreement.proofs.RunPlaces.{code_here}
use Rattle.runner_facts.specs.machine_facts.specs.machine_invariant.proofs.Keeping.{IsStep}
use Rattle.runner_facts.proofs.Names.{thunk_stays, sure_unfree}
use Rattle.runner_facts.specs.machine_facts.proofs.FinishedParts as finished_parts
use Rattle.lock_words.proofs.Kept as runs_over
use Rattle.lock_words.specs.Stale.{StaleStand}
use Rattle.lock_words.proofs.Agreed.{agreed, edge}
use Rattle.lock_words.proofs.Agreeing.{Brings, agreed_from}
use Rattle.lock_words.proofs.Facts.{line_of_section, code_is}
use Rattle.lock_words.proofs.Sure.{sure_used, emptied, sure_before}
use Rattle.lock_words.proofs.Loading.{Was, loaded_before}
use Rattle.lock_words.proofs.StaleLeaving.{IsHeldCheck, differs, not_reply}
use Rattle.machine_states.specs.body_terms.specs.block_words.specs.Blocks.{log_in}
use Rattle.runner_facts.specs.machine_facts.specs.machine_invariant.specs.After.{AreAllowed}
use Rattle.runner_facts.specs.machine_facts.specs.machine_invariant.specs.machine_blocks.proofs.Holding.{log_read}
use Rattle.runner_facts.specs.machine_facts.specs.machine_invariant.proofs.LogSteps.{IsSure}

module _ (m : Meaning) (s : Sight) (d place free word : ℕ) where
  -- the section in this descriptor has agreed on this word as the outcome of its Take of this lock, which was expected
  -- to be free with the other word
  pub record IsOutcome : Type 0 where
    pub at : ℕ
    pub log : ℕ
    pub hold : micro_at (line (m.body (thunk_in s.word d))) at ≡ NestedHold place free
    pub commit : micro_at (line (m.body (thunk_in s.word d))) (suc (suc at)) ≡ OutcomeCommit place log
    pub agreed : log_in s.word d log ≡ word

  -- a run of it has loaded the word, and commits it next
  pub record IsFound : Type 0 where
    pub runner : ℕ
    pub run : RunState
    pub runs : (s.part runner).run ≡ Some run
    pub of_section : run.descriptor ≡ d
    pub opened : length run.opened ≡ 13
    pub at : ℕ
    pub log : ℕ
    pub there : run.at ≡ suc (suc at)
    pub hold : micro_at (line_of m run) at ≡ NestedHold place free
    pub commit : micro_at (line_of m run) run.at ≡ OutcomeCommit place log
    pub loaded : run.word ≡ word

-- such a word is later than the expected one, and what runners keep
pub record AllDiffer (m : Meaning) (l : Layout) (s : Sight) : Type 0 where
  pub agreed : (d place free word : ℕ) → IsSure s d → IsOutcome m s d place free word → word ≢ 0
      → version_of free < version_of word
  pub found : (d place free word : ℕ) → IsFound m s d place free word → version_of free < version_of word
  pub stale : StaleStand s

module _ (m : Meaning) (laws : Laws m) (l : Layout) (limits : IsWithinLimits l) (rs : List Request) (allowed : AreAllowed rs) (s s' : Sight) (r : ℕ) (kind : EventKind)
    (st : IsStep m l rs s s' r kind) (old : AllDiffer m l s) where
  abbrev p : PartState
  p = s.part r

  abbrev a : AgreementState
  a = st.beside.agreement

  -- a run that has made a Take's exchange: the lock is past the free word
  past : (i : ℕ) (q : RunState) → (s.part i).run ≡ Some q → length q.opened ≡ 13 → (at place free : ℕ) → at < q.at
      → micro_at (line_of m q) at ≡ NestedHold place free → version_of free < version_of (s.word (Cell place))
  past i q runs full at place free below hold =
      let used = run_used m l a s st.whole.sections i q runs in
      subst (λ c. version_of free < version_of c) (st.whole.sections.words.cells place)
      ((st.whole.sections.sound.sections q.descriptor used).section.in_locks.nested_past at place free
      (edge m l a s st.whole.sections i q runs full at below)
      (code_here m l a s st.whole.sections i q runs full at ∙ hold))

  found_after : (d place free word : ℕ) → IsFound m s' d place free word → version_of free < version_of word
  found_after d place free word load = ⊎_elim before now was.by
    where
      was : Was m l rs s s' r kind st load.runner load.run place
      was = loaded_before m l rs s s' r kind st load.runner load.run place load.log load.runs load.opened (inr load.commit)

      full : length was.run.opened ≡ 13
      full = ap length was.opened ∙ load.opened

      line_same : (i : ℕ) → micro_at (line_of m load.run) i ≡ micro_at (line_of m was.run) i
      line_same i = ap (λ words. micro_at (line (m.body (thunk_of words))) i) (sym was.opened)

      hold : micro_at (line_of m was.run) load.at ≡ NestedHold place free
      hold = sym (line_same load.at) ∙ load.hold

      before : (was.run.at ≡ load.run.at) × (was.run.word ≡ load.run.word) → version_of free < version_of word
      before same = old.found d place free word (record {
        runner = load.runner;
        run = was.run;
        runs = was.runs;
        of_section = was.descriptor ∙ load.of_section;
        opened = full;
        at = load.at;
        log = load.log;
        there = same.0 ∙ load.there;
        hold = hold;
        commit = ap (micro_at (line_of m was.run)) same.0 ∙ (sym (line_same load.run.at) ∙ load.commit);
        loaded = same.1 ∙ load.loaded;
      })

      now : (load.run.word ≡ s.word (Cell place)) × (load.run.at ≡ suc was.run.at) → version_of free < version_of word
      now new = subst (λ w. version_of free < version_of w) (sym new.0 ∙ load.loaded)
          (past load.runner was.run was.runs full load.at place free
          (let one = new.1 in let two = load.there in omega (arith, one, two)) hold)

  agreed_after : (d place free word : ℕ) → IsSure s' d → IsOutcome m s' d place free word → word ≢ 0
      → version_of free < version_of word
  agreed_after d place free word behind outcome some = ⊎_elim by_section
      (λ holds. absurd (some (sym outcome.agreed ∙ emptied m l rs s s' r kind st d holds outcome.log)))
      (sure_before m l rs s s' r kind st d behind)
    where
      by_section : IsSure s d → version_of free < version_of word
      by_section before = ⊎_elim stood brings
          (agreed_from m laws l limits rs allowed s s' r kind st d before behind place word
          (record { at = suc (suc outcome.at); log = outcome.log; commits = inr outcome.commit; agreed = outcome.agreed }))
        where
          used : a.used d ≡ true
          used = sure_used m l st.beside s st.whole d before

          same : thunk_in s'.word d ≡ thunk_in s.word d
          same = thunk_stays m laws l limits rs s s' r kind st d (sure_unfree m l st.beside s st.whole before.0 d before.1 r)

          line_before : (i : ℕ) (micro : Micro) → micro_at (line (m.body (thunk_in s'.word d))) i ≡ micro
              → micro_at (line (m.body (thunk_in s.word d))) i ≡ micro
          line_before i micro is = ap (λ (t : Thunk). micro_at (line (m.body t)) i) (sym same) ∙ is

          stood : log_in s.word d outcome.log ≡ word → version_of free < version_of word
          stood is = old.agreed d place free word before (record {
            at = outcome.at;
            log = outcome.log;
            hold = line_before outcome.at (NestedHold place free) outcome.hold;
            commit = line_before (suc (suc outcome.at)) (OutcomeCommit place outcome.log) outcome.commit;
            agreed = is;
          }) some

          brings : Brings m laws l limits rs allowed s s' r kind st d before behind place word (suc (suc outcome.at)) outcome.log
              → version_of free < version_of word
          brings load = old.found d place free word (record {
            runner = r;
            run = load.run;
            runs = load.runs;
            of_section = load.of_section;
            opened = load.opened;
            at = outcome.at;
            log = outcome.log;
            there = sym load.there;
            hold = in_run outcome.at ∙ line_before outcome.at (NestedHold place free) outcome.hold;
            commit = ap (micro_at (line_of m load.run)) (sym load.there) ∙ (in_run (suc (suc outcome.at))
                ∙ line_before (suc (suc outcome.at)) (OutcomeCommit place outcome.log) outcome.commit);
            loaded = load.loaded;
          })
            where
              in_run : (i : ℕ) → micro_at (line_of m load.run) i ≡ micro_at (line (m.body (thunk_in s.word d))) i
              in_run i = sym (code_here m l a s st.whole.sections r load.run load.runs load.opened i)
                  ∙ (ap (λ n. (a.section n).code i) load.of_section ∙ code_is m l st.beside s st.whole d used i)

  -- the run that is over
  now_left : (r1 place expected read : ℕ) (f : FinishedState) → finished_parts.IsNew m l rs s s' r kind st.step r1 f
      → f.outcome ≡ Stale place expected read → expected ≢ read
  now_left r1 place expected read f new e = ⊎_elim (λ other. other) by_held
      (differs l q.descriptor q.trail place expected read (micro_at (line_of m q) q.at)
      (not_reply (leaves (setting_of l q.descriptor) q.trail (micro_at (line_of m q) q.at)) (reply_in (m.body (thunk_of q.opened)))
      place expected read (ap (λ (y : FinishedState). y.outcome) new.is ∙ e)))
    where
      q : RunState
      q = new.run

      full : length q.opened ≡ 13
      full = runs_over.open_length q new.open_run

      used : a.used q.descriptor ≡ true
      used = run_used m l a s st.whole.sections r q new.runs

      sure : IsSure s q.descriptor
      sure = (r, (st.whole.slots.tied r).run_sure q new.runs)

      sec : Section
      sec = a.section q.descriptor

      section_line : IsLine m.is_lock l.version_max sec.lock sec.code sec.slot
      section_line = line_of_section m l st.beside s st.whole q.descriptor used

      in_section : (i : ℕ) → micro_at (line (m.body (thunk_in s.word q.descriptor))) i ≡ sec.code i
      in_section i = sym (code_is m l st.beside s st.whole q.descriptor used i)

      by_held : IsHeldCheck q.trail (micro_at (line_of m q) q.at) place expected read → expected ≢ read
      by_held held same =
          let before = section_line.ordered.held_before q.at place held.log expected
          (code_here m l a s st.whole.sections r q new.runs full q.at ∙ held.check) in
          let at : ℕ = suc (suc before.0) in
          let place_of = before.1 in
          let below : at < q.at = omega (arith, place_of) in
          let slot = section_line.counted.outcome_log at place held.log before.3 in
          let commit = ap is_commit before.3 in
          let in_trail = agreed m l a s st.whole.sections r q new.runs full at held.log below commit slot in
          let word : sec.log held.log ≡ read = sym in_trail ∙ held.word in
          let more = section_line.counted.slot_commit at commit in
          let inside = edge m l a s st.whole.sections r q new.runs full at below in
          let rises = section_line.counted.slot_rises (suc at) sec.edge (omega (arith, inside)) in
          let some : 0 < sec.log held.log = (st.whole.sections.sound.sections q.descriptor used).section.in_log.full held.log
          (omega (arith, slot, more, rises)) in
          let later = old.agreed q.descriptor place expected read
          sure
          (record {
            at = before.0;
            log = held.log;
            hold = in_section before.0 ∙ before.2;
            commit = in_section at ∙ before.3;
            agreed = log_read m l st.whole.logs sure.0 q.descriptor sure.1 held.log ∙ word;
          })
          (λ zero. omega (arith, some, word, zero)) in
          let equal = ap version_of same in
          omega (arith, later, equal)

  pub all_differ : AllDiffer m l s'
  all_differ = record {
    agreed = agreed_after;
    found = found_after;
    stale = record {
      finished = λ r1 i place expected read f at e. ⊎_elim
          (λ before. old.stale.finished r1 i place expected read f before e)
          (λ new. now_left r1 place expected read f new e)
          (finished_parts.entry m l rs s s' r kind st.step r1 i f at);
    };
  }
