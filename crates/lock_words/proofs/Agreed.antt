-- The word by which a run leaves was read at its place.
use Rattle.std.specs.Prelude.{slice_index, false, true}
use Rattle.std.proofs.Common.{◌≡◌, ℕ, suc, ◌<◌, length, sym, ap, ◌∙◌, subst, ⊎_elim, inl, inr, arith, Some}
use Rattle.machine_states.specs.body_terms.specs.Word.{version_of}
use Rattle.machine_states.specs.body_terms.specs.Line.{micro_at, is_commit}
use Rattle.machine_states.specs.body_terms.specs.declared.micro.Micro.TheVariants.{CheckFresh, Commit, NestedCommit, OutcomeCommit}
use Rattle.machine_states.specs.table_words.specs.declared.layout.Layout.{Layout}
use Rattle.machine_states.specs.structure_laws.specs.Meaning.{Meaning}
use Rattle.machine_states.specs.runner_parts.specs.State.{RunState}
use Rattle.machine_states.specs.runner_steps.specs.Sections.{line_of}
use Rattle.agreement_core.specs.section_lines.specs.Line.{IsLine}
use Rattle.agreement_core.specs.State.{AgreementState, Section}
use Rattle.agreement_core.specs.Sound.{UsedIsSound}
use Rattle.agreement_core.specs.Runs.{TrailIsSound}
use Rattle.agreement_core.proofs.Lines.{outcome_lock}
use Rattle.machine_states.specs.Sight.{Sight}
use Rattle.machine_scenes.specs.Shown.{rules_of}
use Rattle.runner_facts.specs.machine_facts.specs.machine_agreement.specs.Joined.{IsRunOf, IsJoinedToAgreement}
use Rattle.runner_facts.specs.machine_facts.specs.machine_agreement.proofs.RunPlaces.{run_here, used_here, code_here}
use Rattle.lock_words.specs.Spent.{IsPast, IsSpentAt}
use Rattle.lock_words.proofs.Leaving.{IsTakeCheck, IsCheckOf, LeavesAt}

module _ (m : Meaning) (l : Layout) (a : AgreementState) (s : Sight) (joined : IsJoinedToAgreement m l a s) where
  -- a word that was read at a place
  pub seen_past : (place word : ℕ) → a.shared.seen place word ≡ true → IsPast s.word place word
  seen_past place word seen = ⊎_elim
      (λ same. inl (sym (joined.words.cells place) ∙ same))
      (λ below. inr (subst (λ c. version_of word < version_of c) (joined.words.cells place) below))
      (joined.sound.versions.past place word seen)

  module _ (r : ℕ) (q : RunState) (is : (s.part r).run ≡ Some q) (all : length q.opened ≡ 13) where
    abbrev d : ℕ
    d = q.descriptor

    abbrev x : Section
    x = a.section d

    used : UsedIsSound (rules_of m l) a.shared (a.live d) (a.over d) d x
    used = joined.sound.sections d (used_here m l a s joined r q is)

    here : IsRunOf (a.run r) q
    here = run_here m l a s joined r q is

    line : IsLine (rules_of m l).is_lock (rules_of m l).version_max x.lock x.code x.slot
    line = used.published.line

    in_trail : TrailIsSound x (a.run r)
    in_trail = subst (λ e. TrailIsSound (a.section e) (a.run r)) here.descriptor (joined.sound.runs r here.running).in_trail

    -- a step below its place commits here: the trail has the section's word
    pub agreed : (j k : ℕ) → j < q.at → is_commit (x.code j) ≡ true → k ≡ x.slot j → slice_index q.trail k ≡ x.log k
    agreed j k below commits place = sym (here.trail k) ∙ in_trail.agreed k
        (let next = line.counted.slot_commit j commits in
        let rises = line.counted.slot_rises (suc j) q.at (omega (arith, below)) in
        let count = in_trail.counted ∙ ap x.slot here.at in
        omega (arith, next, rises, count, place))

    pub edge : (j : ℕ) → j < q.at → j < x.edge
    edge j below = let behind = in_trail.behind in let same = here.at in omega (arith, below, behind, same)

    code : (i : ℕ) → x.code i ≡ micro_at (line_of m q) i
    code i = code_here m l a s joined r q is all i

    by_load : (j place log : ℕ) → j < q.at → x.code j ≡ Commit place log → a.shared.seen place (slice_index q.trail log) ≡ true
    by_load j place log below e = subst (λ w. a.shared.seen place w ≡ true)
        (sym (agreed j log below (ap is_commit e) (line.counted.commit_log j place log e)))
        (used.section.in_cells.read j place log (edge j below) e)

    by_nested : (j place log : ℕ) → j < q.at → x.code j ≡ NestedCommit place log → a.shared.seen place (slice_index q.trail log) ≡ true
    by_nested j place log below e = subst (λ w. a.shared.seen place w ≡ true)
        (sym (agreed j log below (ap is_commit e) (line.counted.nested_log j place log e)))
        (used.section.in_locks.nested_read j place log (edge j below) e)

    by_outcome : (j place log : ℕ) → j < q.at → x.code j ≡ OutcomeCommit place log → a.shared.seen place (slice_index q.trail log) ≡ true
    by_outcome j place log below e = subst (λ w. a.shared.seen place w ≡ true)
        (sym (agreed j log below (ap is_commit e) (line.counted.outcome_log j place log e)))
        (used.section.in_locks.outcome_read j place log (edge j below) e)

    check_seen : (place log : ℕ) → IsCheckOf (x.code q.at) place log → a.shared.seen place (slice_index q.trail log) ≡ true
    check_seen place log check = ⊎_elim
        (λ fresh. let loaded = line.resolved.fresh_loaded q.at place log fresh in by_load loaded.0 place log loaded.1 loaded.2)
        (λ taken. ⊎_elim
        (λ free. let before = line.ordered.free_before q.at place log free.0 free.1 in
        by_nested before.0 place log (let e = before.1 in omega (arith, e)) before.2)
        (λ held. let before = line.ordered.held_before q.at place log held.0 held.1 in
        by_outcome (suc (suc before.0)) place log (let e = before.1 in omega (arith, e)) before.3)
        taken)
        check

    -- a cell's word is no lock's
    fresh_cell : (place log : ℕ) → x.code q.at ≡ CheckFresh place log → m.is_lock place ≡ false
    fresh_cell place log fresh =
        let loaded = line.resolved.fresh_loaded q.at place log fresh in
        let before = line.ordered.commit_before loaded.0 place log loaded.2 in
        line.placed.load_unlocked before.0 place log before.2

    -- a Take's place is a lock
    taken_lock : (place log : ℕ) → IsTakeCheck (x.code q.at) place log → m.is_lock place ≡ true
    taken_lock place log check = ⊎_elim
        (λ free. let before = line.ordered.free_before q.at place log free.0 free.1 in
        let load = line.ordered.nested_before before.0 place log before.2 in
        line.placed.take_lock load.0 place log load.2)
        (λ held. let before = line.ordered.held_before q.at place log held.0 held.1 in
        outcome_lock (rules_of m l) x.lock x.code x.slot line (suc (suc before.0)) place log before.3)
        check

    pub left_late : (place spent : ℕ) → LeavesAt l q.trail (micro_at (line_of m q) q.at) place spent → IsSpentAt m l place spent
    left_late place spent leaves = ⊎_elim
        (λ free. inl (taken_lock place leaves.log (subst (λ micro. IsTakeCheck micro place leaves.log) (sym (code q.at)) free.0), free.1, free.2))
        (λ limit. inr (fresh_cell place leaves.log (code q.at ∙ limit.1), limit.0)) leaves.late

    -- so the place is past it
    pub left_past : (place spent : ℕ) → LeavesAt l q.trail (micro_at (line_of m q) q.at) place spent → IsPast s.word place spent
    left_past place spent leaves = subst (λ w. IsPast s.word place w) leaves.word
        (seen_past place (slice_index q.trail leaves.log) (check_seen place leaves.log
        (subst (λ micro. IsCheckOf micro place leaves.log) (sym (code q.at)) leaves.check)))
