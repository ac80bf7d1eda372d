-- What a section's log has agreed on for a Take was agreed before, or a run had loaded it.
use Rattle.std.specs.Prelude.{◌⊎◌, true, false}
use Rattle.std.proofs.Common.{◌≡◌, ℕ, List, length, refl, sym, ap, ◌∙◌, subst, ⊎_elim, inl, inr, arith, Some}
use Rattle.machine_states.specs.epoch_core.specs.small_lemmas.proofs.Numbers.{zero_or_some as by_zero}
use Rattle.machine_states.specs.map_history.specs.declared.op.Request.{Request}
use Rattle.machine_states.specs.body_terms.specs.Line.{line, micro_at, is_commit}
use Rattle.machine_states.specs.body_terms.specs.declared.micro.Micro.{Micro}
use Rattle.machine_states.specs.body_terms.specs.declared.thunk.Thunk.{Thunk}
use Rattle.agreement_core.specs.section_lines.specs.Line.{IsLine}
use Rattle.machine_states.specs.table_words.specs.declared.layout.Layout.{Layout}
use Rattle.machine_states.specs.table_words.specs.declared.spot.Spot.{Spot}
use Rattle.machine_states.specs.table_words.specs.declared.access.Access.{Access}
use Rattle.machine_states.specs.table_words.specs.Limits.{IsWithinLimits}
use Rattle.machine_states.specs.structure_laws.specs.Meaning.{Meaning}
use Rattle.machine_states.specs.structure_laws.specs.Laws.{Laws}
use Rattle.machine_states.specs.runner_parts.specs.declared.event.EventKind.{EventKind}
use Rattle.machine_states.specs.runner_parts.specs.State.{RunState, PartState}
use Rattle.machine_states.specs.runner_parts.specs.Tests.{has}
use Rattle.machine_states.specs.runner_steps.specs.Sections.{line_of, next_of}
use Rattle.agreement_core.specs.State.{Section}
use Rattle.machine_states.specs.Sight.{Sight}
use Rattle.machine_epochs.specs.Slots.{thunk_in}
use Rattle.machine_epochs.proofs.RunPlaces.{is_of_end, next_in_line, open_run}
use Rattle.runner_facts.specs.machine_facts.specs.machine_agreement.proofs.RunPlaces.{code_here}
use Rattle.runner_facts.specs.machine_facts.specs.machine_invariant.proofs.Keeping.{IsStep}
use Rattle.runner_facts.proofs.Lines.{commit_unique}
use Rattle.machine_states.specs.body_terms.specs.block_words.specs.Blocks.{log_in}
use Rattle.runner_facts.specs.machine_facts.specs.machine_invariant.specs.After.{AreAllowed}
use Rattle.runner_facts.specs.machine_facts.specs.machine_invariant.specs.machine_blocks.specs.Writes.{carries_word as carries}
use Rattle.runner_facts.specs.machine_facts.specs.machine_invariant.proofs.LogSteps.{won_word, kept_word, IsSure, Commits, log_goes}
use Rattle.runner_facts.proofs.Logs.{log_of, commit_of, log_place}
use Rattle.runner_facts.proofs.Names.{thunk_stays, sure_unfree}
use Rattle.lock_words.proofs.Sure.{sure_used}
use Rattle.lock_words.specs.Taken.{CommitsLock, IsAgreed, IsTaken}
use Rattle.lock_words.proofs.Facts.{line_of_section, code_is}

lock_commit : (micro : Micro) (place log : ℕ) → CommitsLock micro place log → (is_commit micro ≡ true) × (log_of micro ≡ log) × (carries micro ≡ true)
lock_commit micro place log commits = ⊎_elim
    (λ nested. (ap is_commit nested, ap log_of nested, ap carries nested))
    (λ outcome. (ap is_commit outcome, ap log_of outcome, ap carries outcome))
    commits

inner : (micro : Micro) → is_commit micro ≡ true → is_of_end micro ≡ false
inner micro e = grind arith

module _ (m : Meaning) (laws : Laws m) (l : Layout) (limits : IsWithinLimits l) (rs : List Request) (allowed : AreAllowed rs) (s s' : Sight) (r : ℕ) (kind : EventKind)
    (st : IsStep m l rs s s' r kind) (d : ℕ) (before : IsSure s d) (behind : IsSure s' d) where
  unfree : has (s.part r).descriptors.free d ≡ false
  unfree = sure_unfree m l st.beside s st.whole before.0 d before.1 r

  used : st.beside.agreement.used d ≡ true
  used = sure_used m l st.beside s st.whole d before

  abbrev p : PartState
  p = s.part r

  abbrev x : Spot × Access
  x = st.step.ask

  abbrev sec : Section
  sec = st.beside.agreement.section d

  section_line : IsLine m.is_lock l.version_max sec.lock sec.code sec.slot
  section_line = line_of_section m l st.beside s st.whole d used

  -- the thunk of the section, and so its line, is the same
  same_thunk : thunk_in s'.word d ≡ thunk_in s.word d
  same_thunk = thunk_stays m laws l limits rs s s' r kind st d unfree

  -- the event leaves this log word, or the runner commits there
  log_step : (k : ℕ) → (log_in s'.word d k ≡ log_in s.word d k) ⊎ Commits m s s' r x d k
  log_step k = log_goes m laws l limits rs allowed st.beside s s' st.whole st.requests r kind st.step d k before behind

  -- the stepping runner is in a run of the section and commits this word next, at this place of the line
  pub record Brings (place word at log : ℕ) : Type 0 where
    pub run : RunState
    pub runs : p.run ≡ Some run
    pub of_section : run.descriptor ≡ d
    pub opened : length run.opened ≡ 13
    pub there : at ≡ run.at
    pub commits : CommitsLock (micro_at (line_of m run) run.at) place log
    pub loaded : run.word ≡ word

  pub agreed_from : (place word : ℕ) (agreed : IsAgreed m s' d place word)
      → (log_in s.word d agreed.log ≡ word) ⊎ Brings place word agreed.at agreed.log
  agreed_from place word agreed = ⊎_elim stood (λ writes. wrote writes) (log_step agreed.log)
    where
      commits : CommitsLock (micro_at (line (m.body (thunk_in s.word d))) agreed.at) place agreed.log
      commits = subst (λ (t : Thunk). CommitsLock (micro_at (line (m.body t)) agreed.at) place agreed.log) same_thunk agreed.commits

      stood : log_in s'.word d agreed.log ≡ log_in s.word d agreed.log
          → (log_in s.word d agreed.log ≡ word) ⊎ Brings place word agreed.at agreed.log
      stood same = inl (sym same ∙ agreed.agreed)

      wrote : Commits m s s' r x d agreed.log → (log_in s.word d agreed.log ≡ word) ⊎ Brings place word agreed.at agreed.log
      wrote new = ⊎_elim
          (λ none. inr (record {
            run = q;
            runs = new.runs;
            of_section = new.of_section;
            opened = full;
            there = same_place;
            commits = here;
            loaded = sym (new.carried carried) ∙ (sym (new.now ∙ won_word (log_in s.word d agreed.log) new.proposal none) ∙ agreed.agreed);
          }))
          (λ some. stood (new.now ∙ kept_word (log_in s.word d agreed.log) new.proposal some))
          (by_zero (log_in s.word d agreed.log))
        where
          q : RunState
          q = new.run

          full : length q.opened ≡ 13
          full = open_run q new.open_run

          of_log : (is_commit (next_of m q) ≡ true) × (log_of (next_of m q) ≡ agreed.log)
          of_log = commit_of (next_of m q) agreed.log new.commits

          code_q : (i : ℕ) → sec.code i ≡ micro_at (line_of m q) i
          code_q i = ap (λ n. (st.beside.agreement.section n).code i) (sym new.of_section)
              ∙ code_here m l st.beside.agreement s st.whole.sections r q new.runs full i

          next_line : micro_at (line_of m q) q.at ≡ next_of m q
          next_line = next_in_line m q (next_of m q) (inner (next_of m q) of_log.0) refl

          in_section : CommitsLock (sec.code agreed.at) place agreed.log
          in_section = subst (λ (micro : Micro). CommitsLock micro place agreed.log) (sym (code_is m l st.beside s st.whole d used agreed.at)) commits

          its : (is_commit (sec.code agreed.at) ≡ true) × (log_of (sec.code agreed.at) ≡ agreed.log) × (carries (sec.code agreed.at) ≡ true)
          its = lock_commit (sec.code agreed.at) place agreed.log in_section

          same_place : agreed.at ≡ q.at
          same_place =
              let at = code_q q.at ∙ next_line in
              commit_unique m.is_lock l.version_max sec.lock sec.code sec.slot section_line agreed.at q.at its.0 (ap is_commit at ∙ of_log.0)
              (sym (log_place m.is_lock l.version_max sec.lock sec.code sec.slot section_line agreed.at (sec.code agreed.at) refl its.0)
              ∙ (its.1 ∙ (sym of_log.1
              ∙ log_place m.is_lock l.version_max sec.lock sec.code sec.slot section_line q.at (next_of m q) at of_log.0)))

          here : CommitsLock (micro_at (line_of m q) q.at) place agreed.log
          here = subst (λ (micro : Micro). CommitsLock micro place agreed.log) (ap sec.code same_place ∙ code_q q.at) in_section

          carried : carries (next_of m q) ≡ true
          carried = ap carries (sym next_line) ∙ (lock_commit (micro_at (line_of m q) q.at) place agreed.log here).2

  pub agreed_before : (place word : ℕ) → IsAgreed m s' d place word → IsTaken m s d place word
  agreed_before place word agreed = ⊎_elim
      (λ stood. inl (record {
        at = agreed.at;
        log = agreed.log;
        commits = subst (λ (t : Thunk). CommitsLock (micro_at (line (m.body t)) agreed.at) place agreed.log) same_thunk agreed.commits;
        agreed = stood;
      }))
      (λ load. inr (record {
        runner = r;
        run = load.run;
        runs = load.runs;
        of_section = load.of_section;
        opened = load.opened;
        log = agreed.log;
        commits = load.commits;
        loaded = load.loaded;
      }))
      (agreed_from place word agreed)
