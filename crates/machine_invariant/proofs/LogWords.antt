-- A run's descriptor isn't free again, so its section's log words and its done word are what the components allow, and its trail goes as far as
-- agreement says.
use Rattle.std.proofs.Common.{◌≡◌, ℕ, suc, ◌<◌, ◌≤◌, true, false, length, Some, refl, sym, ap, ◌∙◌, subst, arith}
use Rattle.machine_states.specs.body_terms.specs.Line.{line, micro_at, committed, is_commit}
use Rattle.machine_states.specs.body_terms.specs.declared.micro.Micro.{Micro}
use Rattle.machine_states.specs.body_terms.specs.declared.thunk.Thunk.{Thunk}
use Rattle.machine_states.specs.body_terms.specs.declared.micro.Micro.TheVariants.{Commit, NestedCommit, OutcomeCommit, MakeCommit, RetireCommit}
use Rattle.agreement_core.specs.section_lines.specs.Line.{IsCounted}
use Rattle.machine_states.specs.table_words.specs.declared.layout.Layout.{Layout}
use Rattle.machine_blocks.specs.block_words.specs.Blocks.{log_spot}
use Rattle.machine_states.specs.structure_laws.specs.Meaning.{Meaning}
use Rattle.machine_states.specs.runner_parts.specs.State.{RunState}
use Rattle.machine_states.specs.runner_steps.specs.Sections.{thunk_of, line_of, commits_to, is_beyond}
use Rattle.machine_states.specs.epoch_core.specs.State.{Role, Retires}
use Rattle.machine_states.specs.epoch_core.specs.Sound.{IsLogged}
use Rattle.machine_states.specs.Sight.{Sight}
use Rattle.machine_states.proofs.Sights.{some_none}
use Rattle.machine_blocks.specs.machine_guards.specs.machine_agreement.specs.machine_epochs.specs.Entries.{counts_of}
use Rattle.machine_blocks.specs.machine_guards.specs.machine_agreement.specs.machine_epochs.specs.Roles.{role_at}
use Rattle.machine_blocks.specs.machine_guards.specs.machine_agreement.specs.machine_epochs.specs.Slots.{thunk_in}
use Rattle.machine_blocks.specs.machine_guards.specs.machine_agreement.specs.machine_epochs.proofs.Places.{held_out, run_thunk, run_role}
use Rattle.machine_blocks.specs.machine_guards.specs.machine_agreement.specs.machine_epochs.proofs.Roles.{make_role, retire_role}
use Rattle.machine_invariant.specs.Whole.{Beside, IsWhole}
use Rattle.machine_invariant.specs.LogWords.{LogWordsSay}
use Rattle.machine_blocks.proofs.Finding.{log_seen, link_in_table}
use Rattle.machine_states.specs.body_terms.specs.Shape.{IsShaped}
use Rattle.machine_invariant.proofs.Few.{body_few}
use Rattle.machine_invariant.proofs.Trails.{run_is, run_used}

-- a commit goes to the log word whose number is how many words the steps below it commit
log_of_commit : (code : ℕ → Micro) (slot : ℕ → ℕ) → IsCounted code slot → (i k : ℕ) (x : Micro) → code i ≡ x → commits_to x ≡ Some k → k ≡ slot i
log_of_commit code slot counted i k (Commit place log) here is = (let e : k ≡ log = cc in e) ∙ counted.commit_log i place log here
log_of_commit code slot counted i k (NestedCommit place log) here is = (let e : k ≡ log = cc in e) ∙ counted.nested_log i place log here
log_of_commit code slot counted i k (OutcomeCommit place log) here is = (let e : k ≡ log = cc in e) ∙ counted.outcome_log i place log here
log_of_commit code slot counted i k (MakeCommit log) here is = (let e : k ≡ log = cc in e) ∙ counted.make_log i log here
log_of_commit code slot counted i k (RetireCommit slot' log) here is = (let e : k ≡ log = cc in e) ∙ counted.retire_log i slot' log here
log_of_commit code slot counted i k _ here is = absurd (let no : ⊥ = cc in no)

is_commit_of : (micro : Micro) (k : ℕ) → commits_to micro ≡ Some k → is_commit micro ≡ true
is_commit_of (Commit place log) k e = refl
is_commit_of (NestedCommit place log) k e = refl
is_commit_of (OutcomeCommit place log) k e = refl
is_commit_of (MakeCommit log) k e = refl
is_commit_of (RetireCommit slot log) k e = refl
is_commit_of _ k e = some_none k e

module _ (m : Meaning) (l : Layout) (g : Beside) (s : Sight) (whole : IsWhole m l g s) where
  -- the section of a run is used
  used : (r : ℕ) (q : RunState) → (s.part r).run ≡ Some q → g.agreement.used q.descriptor ≡ true
  used = run_used m l g.agreement s whole.sections

  module _ (r : ℕ) (q : RunState) (at : (s.part r).run ≡ Some q) (loaded : length q.opened ≡ 13) where
    -- a log word of the run's section is what its place allows
    allowed : (k : ℕ) (role : Role) → role_at (m.body (thunk_of q.opened)) k ≡ role → is_beyond q (Some k) ≡ false
        → IsLogged (counts_of m l) role (s.word (log_spot q.descriptor q.links k))
    allowed k role e near =
        let held = (whole.slots.tied r).run_held q at in
        let old = whole.slots.sound.logged q.descriptor k (held_out m l g.epochs s whole.slots r _ held) in
        subst (λ word. IsLogged (counts_of m l) role word) (whole.logs.stands.same q.descriptor k
        ∙ sym (log_seen m l whole.logs.chain g.agreement g.epochs s whole.slots whole.logs.stands r q at k near))
        (subst (λ x. IsLogged (counts_of m l) x (g.epochs.log q.descriptor k))
        (run_role m l g.epochs s whole.slots r q at loaded k role e) old)

    -- the thunk in the section's words is the one that the run has loaded
    thunk : thunk_in s.word q.descriptor ≡ thunk_of q.opened
    thunk = run_thunk m l g.epochs s whole.slots r q at loaded

    -- where a Retire commits, its body has this Retire
    retires : (i slot k : ℕ) → micro_at (line_of m q) i ≡ RetireCommit slot k
        → role_at (m.body (thunk_of q.opened)) k ≡ Retires slot
    retires i slot k here =
        let is = whole.sections.thunks q.descriptor (used r q at) in
        let section = whole.sections.sound.sections q.descriptor (used r q at) in
        let before = section.published.line.ordered.retire_before i slot k
        (is.code i ∙ (ap (λ (t : Thunk). micro_at (line (m.body t)) i) thunk ∙ here)) in
        ap (λ (t : Thunk). role_at (m.body t) k) (sym thunk)
        ∙ retire_role (m.body (thunk_in s.word q.descriptor)) before.0 slot k (sym (is.code before.0) ∙ before.2)

    -- how many words the steps below where the run stands commit
    below : (g.agreement.section q.descriptor).slot q.at ≡ committed (line_of m q) q.at
    below = (whole.sections.thunks q.descriptor (used r q at)).slot q.at ∙ ap (λ (t : Thunk). committed (line (m.body t)) q.at) thunk

    -- as many words are agreed on
    agreed : length q.trail ≡ committed (line_of m q) q.at
    agreed =
        let run = run_is m l g.agreement s whole.sections r q at in
        sym run.count ∙ (whole.sections.sound.runs r run.running).in_trail.counted
        ∙ (ap (λ n. (g.agreement.section n).slot ((g.agreement.run r).at)) run.descriptor ∙ (ap ((g.agreement.section q.descriptor).slot) run.at ∙ below))

    -- and the commit at which the run stands goes to the log word behind them
    next : (k : ℕ) → commits_to (micro_at (line_of m q) q.at) ≡ Some k → k ≡ length q.trail
    next k here =
        let is = whole.sections.thunks q.descriptor (used r q at) in
        let section = whole.sections.sound.sections q.descriptor (used r q at) in
        log_of_commit ((g.agreement.section q.descriptor).code) ((g.agreement.section q.descriptor).slot) section.published.line.counted q.at k
        (micro_at (line_of m q) q.at) (is.code q.at ∙ ap (λ (t : Thunk). micro_at (line (m.body t)) q.at) thunk) here
        ∙ (below ∙ sym agreed)

  -- each commit of its line goes to one of the first sixty
  pub word_few : (r : ℕ) (q : RunState) → (s.part r).run ≡ Some q → length q.opened ≡ 13 → (i k : ℕ) → commits_to (micro_at (line_of m q) i) ≡ Some k → k < 60
  word_few r q at loaded i k here =
      let is = whole.sections.thunks q.descriptor (used r q at) in
      let counted = (whole.sections.sound.sections q.descriptor (used r q at)).published.line.counted in
      let code : (g.agreement.section q.descriptor).code i ≡ micro_at (line_of m q) i =
      is.code i ∙ ap (λ (t : Thunk). micro_at (line (m.body t)) i) (thunk r q at loaded) in
      let same = log_of_commit ((g.agreement.section q.descriptor).code) ((g.agreement.section q.descriptor).slot) counted i k (micro_at (line_of m q) i) code here in
      let more = counted.slot_commit i (ap is_commit code ∙ is_commit_of (micro_at (line_of m q) i) k here) in
      let shaped : IsShaped (m.body (thunk_in s.word q.descriptor)) = subst (λ (t : Thunk). IsShaped (m.body t)) (whole.tied.thunk q.descriptor (used r q at))
      ((whole.kept.shaped q.descriptor (used r q at)).shape) in
      let slot = is.slot (suc i) in
      let most = body_few (m.body (thunk_in s.word q.descriptor)) shaped (suc i) in omega (arith, same, more, slot, most)

  -- a state that meets the whole invariant
  pub log_words_say : LogWordsSay m l s
  log_words_say = record {
    made = λ r i k q at loaded here near. allowed r q at loaded k _ (make_role (m.body (thunk_of q.opened)) i k here) near;
    retired = λ r i slot k q at loaded here near. allowed r q at loaded k _ (retires r q at loaded i slot k here) near;
    few = λ r i k q at loaded here. (let low = word_few r q at loaded i k here in omega (arith, low));
    linked = λ r q at. link_in_table m l whole.logs.chain g.agreement g.epochs s whole.slots whole.logs.stands r q at whole.logs.guards;
    agreed = λ r q at loaded. agreed r q at loaded;
    next = λ r k q at loaded here. next r q at loaded k here;
    done = λ r q at. subst (λ word. word ≤ 1) (whole.sections.sections q.descriptor).done
        (whole.sections.sound.sections q.descriptor (used r q at)).done_most;
  }
