-- Commits and their places in the log.
use Rattle.std.proofs.Common.{◌≡◌, ℕ, zero, suc, ◌+◌, ◌<◌, ◌≤◌, List, length, true, false, refl, sym, ap, ◌∙◌, subst, arith, ⊎_elim}
use Rattle.std.specs.Prelude.{cond, ◌⊎◌, count_by, take}
use Rattle.structure_laws.specs.body_terms.specs.declared.step.Step.{Step}
use Rattle.structure_laws.specs.body_terms.specs.declared.step.Step.TheVariants.{Load, Take, Make, Retire}
use Rattle.structure_laws.specs.body_terms.specs.declared.micro.Micro.{Micro}
use Rattle.structure_laws.specs.body_terms.specs.declared.micro.Micro.TheVariants.{Commit, NestedCommit, OutcomeCommit, MakeCommit, RetireCommit}
use Rattle.structure_laws.specs.body_terms.specs.Line.{registers_before, line, micro_at, micros, is_commit, committed}
use Rattle.structure_laws.specs.body_terms.proofs.RegisterLemmas.{count_le}
use Rattle.structure_laws.specs.body_terms.proofs.LineLemmas.{take_all}
use Rattle.std.proofs.lemmas.List.Sums.{sum_by-take-le}
use Rattle.section_lines.proofs.Places.{step_inside}
use Rattle.section_lines.proofs.Counts.{one_more, counted_within, counted_to}
use Rattle.section_lines.proofs.Sources.{From, of_load, of_take, of_make, of_retire}
use Rattle.section_lines.specs.Line.{IsCounted}

module _ (body : List Step) (short : length body ≤ 32) where
  abbrev code : ℕ → Micro
  code i = micro_at (line body) i

  abbrev slot : ℕ → ℕ
  slot i = committed (line body) i

  slot_commit : (i : ℕ) → is_commit (code i) ≡ true → slot (suc i) ≡ suc (slot i)
  slot_commit i e = let more = one_more (line body) i in let one : cond {A = ℕ} (is_commit (code i)) 1 0 ≡ 1 = ap (λ b. cond b 1 0) e in omega arith

  slot_same : (i : ℕ) → is_commit (code i) ≡ false → slot (suc i) ≡ slot i
  slot_same i e = let more = one_more (line body) i in let none : cond {A = ℕ} (is_commit (code i)) 1 0 ≡ 0 = ap (λ b. cond b 1 0) e in omega arith

  slot_next : (i : ℕ) → slot i ≤ slot (suc i)
  slot_next i = let more = one_more (line body) i in omega arith

  slot_rises : (i j : ℕ) → i ≤ j → slot i ≤ slot j
  slot_rises i zero low = let z : zero ≡ i = omega arith in subst (λ k. slot k ≤ slot zero) z (omega arith)
  slot_rises i (suc j) low = ⊎_elim (λ e. subst (λ k. slot k ≤ slot (suc j)) e (omega arith)) (λ lt. let before = slot_rises i j (omega arith) in let next = slot_next j in omega arith) (order i (suc j) low)
    where
      order : (i j : ℕ) → i ≤ j → (j ≡ i) ⊎ (i < j)
      order i j low = search arith

  -- at most two words for each step
  slot_most : (i : ℕ) → slot i ≤ 64
  slot_most i =
      let few : committed (line body) i ≤ count_by is_commit (line body) = sum_by-take-le (λ m. cond (is_commit m) 1 0) (line body) i in
      let all : count_by is_commit (line body) ≡ (registers_before body (length body)).count = whole in
      let most = count_le body (length body) (omega arith) in
      omega arith
    where
      whole : count_by is_commit (line body) ≡ (registers_before body (length body)).count
      whole = ap (λ steps. count_by is_commit (line steps)) (sym (take_all body (length body) (omega arith))) ∙ counted_to body (length body) (omega arith)

  -- the words committed below a part of a step, with those of the step's earlier parts
  below : (step : Step) (at i k : ℕ) (f : From body step at i) → count_by is_commit (take at (micros (registers_before body f.n) step)) ≡ k → slot i ≡ (registers_before body f.n).count + k
  below step at i k f own =
      ap slot f.place ∙ (counted_within body f.n at step f.here (let inside = step_inside body f.n step f.here in omega arith) (let within = f.within in omega arith)
      ∙ ap (λ n. (registers_before body f.n).count + n) own)

  commit_log : (i p k : ℕ) → code i ≡ Commit p k → k ≡ slot i
  commit_log i p k e =
      let s = of_load body i (Commit p k) e refl in let f = s.2.from in let g = registers_before body f.n in
      let same : Commit p k ≡ Commit s.0 g.count = s.2.same in
      let log : k ≡ g.count = cc in let here = below (Load s.0 s.1) 1 i 0 f refl in omega arith

  nested_log : (i p k : ℕ) → code i ≡ NestedCommit p k → k ≡ slot i
  nested_log i p k e =
      let s = of_take body i (NestedCommit p k) e refl in let f = s.2.from in let g = registers_before body f.n in
      let same : NestedCommit p k ≡ NestedCommit s.0 g.count = s.2.same in
      let log : k ≡ g.count = cc in let here = below (Take s.0 s.1) 1 i 0 f refl in omega arith

  outcome_log : (i p k : ℕ) → code i ≡ OutcomeCommit p k → k ≡ slot i
  outcome_log i p k e =
      let s = of_take body i (OutcomeCommit p k) e refl in let f = s.2.from in let g = registers_before body f.n in
      let same : OutcomeCommit p k ≡ OutcomeCommit s.0 (g.count + 1) = s.2.same in
      let log : k ≡ g.count + 1 = cc in let here = below (Take s.0 s.1) 5 i 1 f refl in omega arith

  make_log : (i k : ℕ) → code i ≡ MakeCommit k → k ≡ slot i
  make_log i k e =
      let s = of_make body i (MakeCommit k) e refl in let f = s.2.from in let g = registers_before body f.n in
      let same : MakeCommit k ≡ MakeCommit g.count = s.2.same in
      let log : k ≡ g.count = cc in let here = below (Make s.0 s.1) 10 i 0 f refl in omega arith

  retire_log : (i s k : ℕ) → code i ≡ RetireCommit s k → k ≡ slot i
  retire_log i t k e =
      let s = of_retire body i (RetireCommit t k) e refl in let f = s.1.from in let g = registers_before body f.n in
      let same : RetireCommit t k ≡ RetireCommit s.0 g.count = s.1.same in
      let log : k ≡ g.count = cc in let here = below (Retire s.0) 1 i 0 f refl in omega arith

  -- the commits of a body's line
  pub is_counted : IsCounted code slot
  is_counted = record {
    slot_start = refl;
    slot_commit = slot_commit;
    slot_same = slot_same;
    slot_rises = slot_rises;
    slot_most = slot_most;
    commit_log = commit_log;
    nested_log = nested_log;
    outcome_log = outcome_log;
    make_log = make_log;
    retire_log = retire_log;
  }
