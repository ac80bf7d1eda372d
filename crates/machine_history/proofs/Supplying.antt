-- What the joint states supply to the history's events.
use Rattle.std.proofs.Common.{◌≡◌, ◌≢◌, ℕ, suc, ◌<◌, ◌≤◌, true, false, refl, sym, ap, ◌∙◌, subst, inl, inr, ⊎_elim, arith}
use Rattle.std.specs.Prelude.{◌⊎◌, ◌==◌, not}
use Rattle.std.proofs.lemmas.Bool.{cases_lt, cases_eq}
use Rattle.std.proofs.lemmas.Bool.Decides.{nat_tests}
use Rattle.agreement_core.specs.map_history.specs.Keys.{HaveNoCommonKey}
use Rattle.agreement_core.specs.body_terms.specs.Line.{begins, is_check}
use Rattle.agreement_core.specs.body_terms.specs.declared.micro.Micro.{Micro}
use Rattle.agreement_core.specs.body_terms.specs.declared.micro.Micro.TheVariants as micros
use Rattle.agreement_core.specs.section_lines.specs.Line.{phase, IsLine}
use Rattle.agreement_core.specs.section_lines.proofs.Sources.{of_stamp}
use Rattle.agreement_core.specs.table_words.specs.declared.layout.Layout.{Layout}
use Rattle.agreement_core.specs.table_words.specs.Limits.{IsWithinLimits}
use Rattle.agreement_core.specs.section_lines.specs.structure_laws.specs.Meaning.{Meaning}
use Rattle.agreement_core.specs.section_lines.specs.structure_laws.specs.Cells.{slots}
use Rattle.agreement_core.specs.section_lines.specs.structure_laws.specs.Laws.{Laws}
use Rattle.agreement_core.specs.State.{AgreementState}
use Rattle.agreement_core.specs.Checks.{is_stop}
use Rattle.epoch_core.specs.State.{Counts}
use Rattle.history_core.specs.State.{Requests, HistoryState}
use Rattle.history_core.specs.Events.{IsAlone}
use Rattle.history_core.specs.Sound.{IsSound}
use Rattle.machine_scenes.specs.Shown.{States, rules_of}
use Rattle.machine_scenes.specs.Kept.{IsKept}
use Rattle.machine_history.specs.Memory.{is_of_stamp}
use Rattle.machine_history.proofs.Steps.{stamps_apart}
use Rattle.machine_history.specs.Tied.{rank, SectionIsTied, AreTied}
use Rattle.machine_history.proofs.Tying.{line_at}

pub done_true : (n : ℕ) → n ≢ 0 → not (n == 0) ≡ true
done_true n some = grind (arith, nat_tests)

pub done_false : (n : ℕ) → n ≡ 0 → not (n == 0) ≡ false
done_false n none = grind (arith, nat_tests)

module _ (m : Meaning) (laws : Laws m) (layout : Layout) (limits : IsWithinLimits layout) (c : Counts) (nodes : c.nodes ≡ slots m layout) (requests : Requests)
    (j : States) (kept : IsKept m layout c j) (w : HistoryState) (sound : IsSound requests w) (tied : AreTied requests j w) where
  abbrev a : AgreementState
  a = j.agreement

  abbrev pub line : (d : ℕ) → a.used d ≡ true → IsLine ((rules_of m layout).is_lock) layout.version_max ((a.section d).lock) ((a.section d).code) ((a.section d).slot)
  line d used = line_at m layout c requests j kept w tied d used

  abbrev pub tie : (d : ℕ) → a.used d ≡ true → SectionIsTied requests j.publications w d (a.section d)
  tie d used = tied.sections d used

  pub used_of : (d : ℕ) → a.used d ≡ true → w.used d ≡ true
  used_of d used = tied.used d ∙ used

  -- the load of the clock stands before the exchange of the stamp
  pub load_place : (d : ℕ) (used : a.used d ≡ true) → (k : ℕ) × ((line d used).stamped.stamp ≡ suc k) × ((a.section d).code k ≡ micros.ClockLoad)
  load_place d used =
      let stamped = (line d used).stamped in
      let f = (of_stamp (m.body (j.publications.thunk d)) stamped.stamp micros.StampExchange (sym ((kept.thunks d used).code stamped.stamp) ∙ stamped.stamps) refl).from in
      let place : stamped.stamp ≡ suc (begins (m.body (j.publications.thunk d)) f.n) = let at = f.place in omega arith in
      (begins (m.body (j.publications.thunk d)) f.n, place, (line d used).ordered.stamp_before (begins (m.body (j.publications.thunk d)) f.n) stamped.stamp stamped.stamps place)

  -- by how far it has come: the places that its runs have passed
  pub passed_place : (d i k : ℕ) (used : a.used d ≡ true) (x : Micro) → (a.section d).code i ≡ x → rank x ≡ k → k ≢ 0 → k ≤ w.stage d → i < (a.section d).edge
  passed_place d i k used x is ranked some far = ⊎_elim (λ lt. lt)
      (λ le. let low = (tie d used).unpassed i (λ none. some (sym ranked ∙ ap rank (sym is) ∙ none)) le in let same = ap rank is ∙ ranked in absurd (omega arith))
      (cases_lt i ((a.section d).edge))

  pub unpassed_place : (d i k : ℕ) (used : a.used d ≡ true) (x : Micro) → (a.section d).code i ≡ x → rank x ≡ k → k ≢ 0 → w.stage d < k → (a.section d).edge ≤ i
  unpassed_place d i k used x is ranked some low = ⊎_elim
      (λ lt. let far = (tie d used).passed i (λ none. some (sym ranked ∙ ap rank (sym is) ∙ none)) lt in let same = ap rank is ∙ ranked in absurd (omega arith))
      (λ le. le) (cases_lt i ((a.section d).edge))

  pub far_by : (d i k : ℕ) (used : a.used d ≡ true) (x : Micro) → (a.section d).code i ≡ x → rank x ≡ k → k ≢ 0 → i < (a.section d).edge → k ≤ w.stage d
  far_by d i k used x is ranked some lt = let far = (tie d used).passed i (λ none. some (sym ranked ∙ ap rank (sym is) ∙ none)) lt in let same = ap rank is ∙ ranked in omega arith

  pub low_by : (d i k : ℕ) (used : a.used d ≡ true) (x : Micro) → (a.section d).code i ≡ x → rank x ≡ k → k ≢ 0 → (a.section d).edge ≤ i → w.stage d < k
  low_by d i k used x is ranked some le = let low = (tie d used).unpassed i (λ none. some (sym ranked ∙ ap rank (sym is) ∙ none)) le in let same = ap rank is ∙ ranked in omega arith

  -- a section between its clock and its reply is open
  pub undone_of : (d : ℕ) (used : a.used d ≡ true) → w.stage d ≢ 0 → w.stage d ≢ 4 → (a.section d).done ≡ 0
  undone_of d used first last = ⊎_elim (λ none. none)
      (λ some. absurd (⊎_elim first last (sound.sections.ended d (used_of d used) ((tie d used).done ∙ done_true ((a.section d).done) some))))
      (cases_eq ((a.section d).done) 0)

  -- a section that has loaded the clock and not raised it stands at its Stamp
  pub stamp_edge : (d : ℕ) (used : a.used d ≡ true) → 1 ≤ w.stage d → w.stage d ≤ 2 → is_of_stamp ((a.section d).code ((a.section d).edge)) ≡ true
  stamp_edge d used low high =
      let load = load_place d used in
      let stamped = (line d used).stamped in
      let raise = (line d used).ordered.stamp_next stamped.stamp (suc stamped.stamp) stamped.stamps refl in
      let past = passed_place d load.0 1 used micros.ClockLoad load.2 refl (λ e. omega arith) low in
      let before = unpassed_place d (suc stamped.stamp) 3 used micros.ClockRaise raise refl (λ e. omega arith) (omega arith) in
      let place = load.1 in
      ⊎_elim (λ same. ap (λ n. is_of_stamp ((a.section d).code n)) same ∙ ap is_of_stamp stamped.stamps)
      (λ other. let same : (a.section d).edge ≡ suc stamped.stamp = omega arith in ap (λ n. is_of_stamp ((a.section d).code n)) same ∙ ap is_of_stamp raise)
      (cases_eq ((a.section d).edge) stamped.stamp)

  -- it is alone on its keys
  pub alone : requests.is_map ≡ m.is_map → (d : ℕ) (used : a.used d ≡ true) → (a.section d).done ≡ 0 → is_of_stamp ((a.section d).code ((a.section d).edge)) ≡ true
      → requests.is_map ≡ true → IsAlone requests w d
  alone same_map d used undone at map e ne used' low high =
      let there = sym (tied.used e) ∙ used' in
      let apart = stamps_apart m laws layout limits c nodes j d e kept (sym same_map ∙ map) (λ same. ne (sym same)) (record { used = used; undone = undone })
      (record { used = there; undone = undone_of e there (λ none. omega arith) (λ four. omega arith) }) at (stamp_edge e there low high) in
      subst (λ x. HaveNoCommonKey x (requests.op (w.request e))) (sym (tie d used).op) (subst (HaveNoCommonKey (j.publications.op d)) (sym (tie e there).op) apart)

  -- a run before the load of the clock, in a section that hasn't passed its stamp
  pub load_edge : (d at : ℕ) (used : a.used d ≡ true) → (a.section d).code at ≡ micros.ClockLoad → at ≤ (a.section d).edge → w.stage d ≤ 1 → is_of_stamp ((a.section d).code ((a.section d).edge)) ≡ true
  load_edge d at used is behind low =
      let stamped = (line d used).stamped in
      let next = stamped.stamp_once (suc at) ((line d used).ordered.clock_next at (suc at) is refl) in
      let before = unpassed_place d stamped.stamp 2 used micros.StampExchange stamped.stamps refl (λ e. omega arith) (omega arith) in
      ⊎_elim (λ same. ap (λ n. is_of_stamp ((a.section d).code n)) same ∙ ap is_of_stamp stamped.stamps)
      (λ other. let same : (a.section d).edge ≡ at = omega arith in ap (λ n. is_of_stamp ((a.section d).code n)) same ∙ ap is_of_stamp is)
      (cases_eq ((a.section d).edge) stamped.stamp)

  -- where its runs stop it hasn't loaded the clock, or has its reply
  pub stop_stage : (d : ℕ) (used : a.used d ≡ true) → is_stop (rules_of m layout) d ((a.section d).log) ((a.section d).code ((a.section d).edge)) ≡ true → (w.stage d ≡ 0) ⊎ (w.stage d ≡ 4)
  stop_stage d used stop = ⊎_elim
      (λ check.
      let load = load_place d used in
      let low = check_phase ((a.section d).code ((a.section d).edge)) check in
      let three = ap phase load.2 in
      let before : (a.section d).edge ≤ load.0 = ⊎_elim (λ lt. let phases = (line d used).in_phases.phases load.0 ((a.section d).edge) (omega arith) in absurd (omega arith)) (λ le. le) (cases_lt load.0 ((a.section d).edge)) in
      let none = low_by d load.0 1 used micros.ClockLoad load.2 refl (λ e. omega arith) before in
      inl (omega arith))
      (λ end.
      let stamped = (line d used).stamped in
      let last = ap phase end in
      let six = ap phase stamped.answers in
      let past : stamped.answer < (a.section d).edge = ⊎_elim (λ lt. lt) (λ le. let phases = (line d used).in_phases.phases ((a.section d).edge) stamped.answer le in absurd (omega arith)) (cases_lt stamped.answer ((a.section d).edge)) in
      let far = far_by d stamped.answer 4 used (micros.ReplyExchange stamped.reply) stamped.answers refl (λ e. omega arith) past in
      let most = sound.sections.within d in
      inr (omega arith))
      (neither ((a.section d).code ((a.section d).edge)) stop)
    where
      neither : (x : Micro) → is_stop (rules_of m layout) d ((a.section d).log) x ≡ true → (is_check x ≡ true) ⊎ (x ≡ micros.End)
      neither micros.End stop = inr refl
      neither x stop = inl (grind arith)

      check_phase : (x : Micro) → is_check x ≡ true → phase x ≤ 1
      check_phase x check = grind arith
