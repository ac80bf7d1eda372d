-- The run of a line in one go that goes by a log agrees with it.
use Rattle.std.proofs.Common.{◌≡◌, ℕ, zero, suc, ◌+◌, ◌<◌, ◌≤◌, List, [], ◌∷◌, ◌++◌, length, take, drop, true, false, refl, sym, ap, ◌∙◌, subst, arith, ⊎_elim, append_assoc, drop-cons, Some, None, Option}
use Rattle.std.specs.Prelude.{Bool, cond, ◌⊎◌}
use Rattle.std.proofs.Math.Seq.{take-suc}
use Rattle.std.proofs.lemmas.List.{get_or-drop, append-nil, take-append-drop, take_all, take_at}
use Rattle.std.proofs.lemmas.List.FromFn.{map-range_with_len_more, length-map-range_with_len}
use Rattle.structure_laws.specs.body_terms.specs.declared.outcome.Outcome.{Outcome}
use Rattle.structure_laws.specs.body_terms.specs.declared.micro.Micro.{Micro}
use Rattle.structure_laws.specs.body_terms.specs.declared.micro.Micro.TheVariants.{LoadCell, Commit, CheckWord, CheckFresh, NestedLoad, NestedCommit, CheckFree, NestedHold, OutcomeLoad, OutcomeCommit, CheckHeld, PrivateLoad, PrivateStore, MakeCommit, ClockLoad, StampExchange, ClockRaise, ExchangeCell, EpochForRetire, RetireCommit, ReplyExchange, End, SetDone, Release}
use Rattle.structure_laws.specs.body_terms.specs.Line.{is_check, is_commit, committed, micro_at}
use Rattle.structure_laws.specs.body_terms.specs.Plain.{first_values}
use Rattle.structure_laws.specs.body_terms.specs.Run.{Setting, Run, leaves, ran, acted, unless_over}
use Rattle.structure_laws.specs.body_terms.proofs.LineLemmas.{past_line}
use Rattle.structure_laws.specs.body_terms.proofs.RunLemmas.{ran-append, ran_over}
use Rattle.section_lines.specs.Line.{phase, IsInPhases, IsCounted}
use Rattle.section_lines.specs.Runs.{agreed, Follows, AgreesWith}

-- the word that a commit adds to the trail of a run in one go
abbrev added : Setting → Run → Micro → ℕ
added s r (Commit p k) = r.cells p
added s r (NestedCommit p k) = s.taken k
added s r (OutcomeCommit p k) = s.taken k
added s r (MakeCommit k) = suc (s.slot k)
added s r (RetireCommit t k) = suc t
added s r _ = 0

one_trail : (s : Setting) (r : Run) (m : Micro) → (acted s m r).trail ≡ r.trail ++ cond (is_commit m) (added s r m ∷ []) []
one_trail s r (LoadCell p k) = sym (append-nil r.trail)
one_trail s r (Commit p k) = refl
one_trail s r (CheckWord p k w) = sym (append-nil r.trail)
one_trail s r (CheckFresh p k) = sym (append-nil r.trail)
one_trail s r (NestedLoad p k) = sym (append-nil r.trail)
one_trail s r (NestedCommit p k) = refl
one_trail s r (CheckFree p k w) = sym (append-nil r.trail)
one_trail s r (NestedHold p w) = sym (append-nil r.trail)
one_trail s r (OutcomeLoad p k) = sym (append-nil r.trail)
one_trail s r (OutcomeCommit p k) = refl
one_trail s r (CheckHeld p k w) = sym (append-nil r.trail)
one_trail s r (PrivateLoad c k) = sym (append-nil r.trail)
one_trail s r (PrivateStore c k v) = sym (append-nil r.trail)
one_trail s r (MakeCommit k) = ap (λ n. r.trail ++ n ∷ []) (let e : s.slot k + 1 ≡ suc (s.slot k) = omega arith in e)
one_trail s r ClockLoad = sym (append-nil r.trail)
one_trail s r StampExchange = sym (append-nil r.trail)
one_trail s r ClockRaise = sym (append-nil r.trail)
one_trail s r (ExchangeCell p k v) = sym (append-nil r.trail)
one_trail s r (EpochForRetire t k) = sym (append-nil r.trail)
one_trail s r (RetireCommit t k) = ap (λ n. r.trail ++ n ∷ []) (let e : t + 1 ≡ suc t = omega arith in e)
one_trail s r (ReplyExchange n) = sym (append-nil r.trail)
one_trail s r End = sym (append-nil r.trail)
one_trail s r SetDone = sym (append-nil r.trail)
one_trail s r (Release p w) = sym (append-nil r.trail)

-- only a check and the answer give an outcome
one_outcome : (s : Setting) (r : Run) (m : Micro) → phase m < 6 → r.outcome ≡ None → (is_check m ≡ true → leaves s r.trail m ≡ None) → (acted s m r).outcome ≡ None
one_outcome s r (LoadCell p k) low none passes = none
one_outcome s r (Commit p k) low none passes = none
one_outcome s r (CheckWord p k w) low none passes = passes refl
one_outcome s r (CheckFresh p k) low none passes = passes refl
one_outcome s r (NestedLoad p k) low none passes = none
one_outcome s r (NestedCommit p k) low none passes = none
one_outcome s r (CheckFree p k w) low none passes = passes refl
one_outcome s r (NestedHold p w) low none passes = none
one_outcome s r (OutcomeLoad p k) low none passes = none
one_outcome s r (OutcomeCommit p k) low none passes = none
one_outcome s r (CheckHeld p k w) low none passes = passes refl
one_outcome s r (PrivateLoad c k) low none passes = none
one_outcome s r (PrivateStore c k v) low none passes = none
one_outcome s r (MakeCommit k) low none passes = none
one_outcome s r ClockLoad low none passes = none
one_outcome s r StampExchange low none passes = none
one_outcome s r ClockRaise low none passes = none
one_outcome s r (ExchangeCell p k v) low none passes = none
one_outcome s r (EpochForRetire t k) low none passes = none
one_outcome s r (RetireCommit t k) low none passes = none
one_outcome s r (ReplyExchange n) low none passes = absurd (omega arith)
one_outcome s r End low none passes = absurd (omega arith)
one_outcome s r SetDone low none passes = absurd (omega arith)
one_outcome s r (Release p w) low none passes = absurd (omega arith)

-- no step of the first phase changes a cell
one_cells : (s : Setting) (r : Run) (m : Micro) → phase m ≤ 1 → (acted s m r).cells ≡ r.cells
one_cells s r (LoadCell p k) low = refl
one_cells s r (Commit p k) low = refl
one_cells s r (CheckWord p k w) low = refl
one_cells s r (CheckFresh p k) low = refl
one_cells s r (NestedLoad p k) low = refl
one_cells s r (NestedCommit p k) low = refl
one_cells s r (CheckFree p k w) low = refl
one_cells s r (NestedHold p w) low = refl
one_cells s r (OutcomeLoad p k) low = refl
one_cells s r (OutcomeCommit p k) low = refl
one_cells s r (CheckHeld p k w) low = refl
one_cells s r (PrivateLoad c k) low = absurd (omega arith)
one_cells s r (PrivateStore c k v) low = absurd (omega arith)
one_cells s r (MakeCommit k) low = absurd (omega arith)
one_cells s r ClockLoad low = absurd (omega arith)
one_cells s r StampExchange low = absurd (omega arith)
one_cells s r ClockRaise low = absurd (omega arith)
one_cells s r (ExchangeCell p k v) low = absurd (omega arith)
one_cells s r (EpochForRetire t k) low = absurd (omega arith)
one_cells s r (RetireCommit t k) low = absurd (omega arith)
one_cells s r (ReplyExchange n) low = absurd (omega arith)
one_cells s r End low = absurd (omega arith)
one_cells s r SetDone low = absurd (omega arith)
one_cells s r (Release p w) low = absurd (omega arith)

-- the answer alone is of its phase
is_reply : (m : Micro) → phase m ≡ 6 → (n : ℕ) × (m ≡ ReplyExchange n)
is_reply (LoadCell p k) six = absurd (omega arith)
is_reply (Commit p k) six = absurd (omega arith)
is_reply (CheckWord p k w) six = absurd (omega arith)
is_reply (CheckFresh p k) six = absurd (omega arith)
is_reply (NestedLoad p k) six = absurd (omega arith)
is_reply (NestedCommit p k) six = absurd (omega arith)
is_reply (CheckFree p k w) six = absurd (omega arith)
is_reply (NestedHold p w) six = absurd (omega arith)
is_reply (OutcomeLoad p k) six = absurd (omega arith)
is_reply (OutcomeCommit p k) six = absurd (omega arith)
is_reply (CheckHeld p k w) six = absurd (omega arith)
is_reply (PrivateLoad c k) six = absurd (omega arith)
is_reply (PrivateStore c k v) six = absurd (omega arith)
is_reply (MakeCommit k) six = absurd (omega arith)
is_reply ClockLoad six = absurd (omega arith)
is_reply StampExchange six = absurd (omega arith)
is_reply ClockRaise six = absurd (omega arith)
is_reply (ExchangeCell p k v) six = absurd (omega arith)
is_reply (EpochForRetire t k) six = absurd (omega arith)
is_reply (RetireCommit t k) six = absurd (omega arith)
is_reply (ReplyExchange n) six = (n, refl)
is_reply End six = absurd (omega arith)
is_reply SetDone six = absurd (omega arith)
is_reply (Release p w) six = absurd (omega arith)

-- a run that leaves at a check has that outcome, and its trail stays
record Leaves (s : Setting) (r : Run) (m : Micro) (outcome : Outcome) : Type 0 where
  early : phase m ≤ 6
  with_outcome : (acted s m r).outcome ≡ Some outcome
  same_trail : (acted s m r).trail ≡ r.trail

left_at : (s : Setting) (r : Run) (m : Micro) (outcome : Outcome) → leaves s r.trail m ≡ Some outcome → Leaves s r m outcome
left_at s r (LoadCell p k) outcome e = cc
left_at s r (Commit p k) outcome e = cc
left_at s r (CheckWord p k w) outcome e = record { early = omega arith; with_outcome = e; same_trail = refl }
left_at s r (CheckFresh p k) outcome e = record { early = omega arith; with_outcome = e; same_trail = refl }
left_at s r (NestedLoad p k) outcome e = cc
left_at s r (NestedCommit p k) outcome e = cc
left_at s r (CheckFree p k w) outcome e = record { early = omega arith; with_outcome = e; same_trail = refl }
left_at s r (NestedHold p w) outcome e = cc
left_at s r (OutcomeLoad p k) outcome e = cc
left_at s r (OutcomeCommit p k) outcome e = cc
left_at s r (CheckHeld p k w) outcome e = record { early = omega arith; with_outcome = e; same_trail = refl }
left_at s r (PrivateLoad c k) outcome e = cc
left_at s r (PrivateStore c k v) outcome e = cc
left_at s r (MakeCommit k) outcome e = cc
left_at s r ClockLoad outcome e = cc
left_at s r StampExchange outcome e = cc
left_at s r ClockRaise outcome e = cc
left_at s r (ExchangeCell p k v) outcome e = cc
left_at s r (EpochForRetire t k) outcome e = cc
left_at s r (RetireCommit t k) outcome e = cc
left_at s r (ReplyExchange n) outcome e = cc
left_at s r End outcome e = cc
left_at s r SetDone outcome e = cc
left_at s r (Release p w) outcome e = cc

-- the end of a line changes nothing
stays : (s : Setting) (o : Option Outcome) (r : Run) → unless_over o (acted s End r) r ≡ r
stays s None r = refl
stays s (Some outcome) r = refl

all_ends : (s : Setting) (r : Run) (ms : List Micro) → ((i : ℕ) → micro_at ms i ≡ End) → ran s r ms ≡ r
all_ends s r [] ends = refl
all_ends s r (m ∷ ms) ends =
    ap (λ x. ran s (unless_over r.outcome (acted s x r) r) ms) (ends 0)
    ∙ (ap (λ q. ran s q ms) (stays s r.outcome r) ∙ all_ends s r ms (λ i. ends (suc i)))

-- a run's trail only grows
pub trail_grows : (s : Setting) (r : Run) (ms : List Micro) → (extra : List ℕ) × ((ran s r ms).trail ≡ r.trail ++ extra)
trail_grows s r [] = ([], sym (append-nil r.trail))
trail_grows s r (m ∷ ms) = by r.outcome refl (trail_grows s (acted s m r) ms)
  where
    by : (o : Option Outcome) → r.outcome ≡ o → ((extra : List ℕ) × ((ran s (acted s m r) ms).trail ≡ (acted s m r).trail ++ extra)) → (extra : List ℕ) × ((ran s r (m ∷ ms)).trail ≡ r.trail ++ extra)
    by None e rest = (
      cond (is_commit m) (added s r m ∷ []) [] ++ rest.0,
      ap (λ o. (ran s (unless_over o (acted s m r) r) ms).trail) e ∙ (rest.1 ∙ (ap (λ t. t ++ rest.0) (one_trail s r m) ∙ append_assoc r.trail _ _)),
    )
    by (Some outcome) e rest = ([], ap (λ (q : Run). q.trail) (ran_over s r outcome (m ∷ ms) e) ∙ sym (append-nil r.trail))

module _ (s : Setting) (start : Run) (line : List Micro) (log : ℕ → ℕ) (in_phases : IsInPhases (micro_at line)) (counted : IsCounted (micro_at line) (committed line)) (answer : ℕ) (answer_once : (i n : ℕ) → micro_at line i ≡ ReplyExchange n → i ≡ answer) where
  abbrev code : ℕ → Micro
  code i = micro_at line i

  abbrev slot : ℕ → ℕ
  slot i = committed line i

  -- the run when it has come to this place
  record Here (edge : ℕ) (r : Run) : Type 0 where
    trail : r.trail ≡ agreed line log edge
    going : phase (code edge) ≤ 6 → r.outcome ≡ None
    cells : phase (code edge) ≤ 1 → r.cells ≡ start.cells

  more_agreed : (edge : ℕ) → agreed line log edge ++ cond (is_commit (code edge)) (log (slot edge) ∷ []) [] ≡ agreed line log (suc edge)
  more_agreed edge = by (is_commit (code edge)) refl
    where
      by : (b : Bool) → is_commit (code edge) ≡ b → agreed line log edge ++ cond (is_commit (code edge)) (log (slot edge) ∷ []) [] ≡ agreed line log (suc edge)
      by true e =
          let next : slot (suc edge) ≡ slot edge + 1 = (let n = counted.slot_commit edge e in omega arith) in
          ap (λ b. agreed line log edge ++ cond b (log (slot edge) ∷ []) []) e
          ∙ (sym (map-range_with_len_more log 0 (slot edge) (slot edge) (omega arith)) ∙ ap (λ n. first_values n log) (sym next))
      by false e =
          ap (λ b. agreed line log edge ++ cond b (log (slot edge) ∷ []) []) e
          ∙ (append-nil _ ∙ ap (λ n. first_values n log) (sym (counted.slot_same edge e)))

  module _ (edge : ℕ) (follows : Follows s start line log edge) where
    -- what a commit below the edge adds is what was agreed
    is_added : (i : ℕ) (r : Run) (m : Micro) → i < edge → code i ≡ m → (phase m ≤ 1 → r.cells ≡ start.cells) → cond (is_commit m) (added s r m ∷ []) [] ≡ cond (is_commit m) (log (slot i) ∷ []) []
    is_added i r (Commit p k) low e cells =
        let same = ap (λ c. c p) (cells (omega arith)) in let word = follows.loaded i p k low e in let place = counted.commit_log i p k e in
        ap (λ w. w ∷ []) (same ∙ (word ∙ ap log place))
    is_added i r (NestedCommit p k) low e cells = ap (λ w. w ∷ []) (follows.nested i p k low e ∙ ap log (counted.nested_log i p k e))
    is_added i r (OutcomeCommit p k) low e cells = ap (λ w. w ∷ []) (follows.outcome i p k low e ∙ ap log (counted.outcome_log i p k e))
    is_added i r (MakeCommit k) low e cells = ap (λ w. w ∷ []) (follows.made i k low e ∙ ap log (counted.make_log i k e))
    is_added i r (RetireCommit t k) low e cells = ap (λ w. w ∷ []) (follows.retired i t k low e ∙ ap log (counted.retire_log i t k e))
    is_added i r (LoadCell p k) low e cells = refl
    is_added i r (CheckWord p k w) low e cells = refl
    is_added i r (CheckFresh p k) low e cells = refl
    is_added i r (NestedLoad p k) low e cells = refl
    is_added i r (CheckFree p k w) low e cells = refl
    is_added i r (NestedHold p w) low e cells = refl
    is_added i r (OutcomeLoad p k) low e cells = refl
    is_added i r (CheckHeld p k w) low e cells = refl
    is_added i r (PrivateLoad c k) low e cells = refl
    is_added i r (PrivateStore c k v) low e cells = refl
    is_added i r ClockLoad low e cells = refl
    is_added i r StampExchange low e cells = refl
    is_added i r ClockRaise low e cells = refl
    is_added i r (ExchangeCell p k v) low e cells = refl
    is_added i r (EpochForRetire t k) low e cells = refl
    is_added i r (ReplyExchange n) low e cells = refl
    is_added i r End low e cells = refl
    is_added i r SetDone low e cells = refl
    is_added i r (Release p w) low e cells = refl

    -- one more step of the line
    goes_on : (i : ℕ) (r : Run) → i < edge → i < in_phases.length → Here i r → Here (suc i) (unless_over r.outcome (acted s (code i) r) r)
    goes_on i r low within here =
        let six = in_phases.inside i within in
        let none = here.going (omega arith) in
        subst (λ o. Here (suc i) (unless_over o (acted s (code i) r) r)) (sym none) (record {
          trail = one_trail s r (code i) ∙ (ap (λ t. t ++ cond (is_commit (code i)) (added s r (code i) ∷ []) []) here.trail
              ∙ (ap (λ more. agreed line log i ++ more) (is_added i r (code i) low refl here.cells) ∙ more_agreed i));
          going = λ later. one_outcome s r (code i) (below i later within) none (λ check. ap (λ t. leaves s t (code i)) here.trail ∙ follows.passed i low check);
          cells = λ early. let first = in_phases.phases i (suc i) (omega arith) in one_cells s r (code i) (omega arith) ∙ here.cells (omega arith);
        })
      where
        below : (i : ℕ) → phase (code (suc i)) ≤ 6 → i < in_phases.length → phase (code i) < 6
        below i later within =
            let rise = in_phases.phases i (suc i) (omega arith) in
            ⊎_elim (λ low. low) (λ six. absurd (
            let a = is_reply (code i) (omega arith) in let b = is_reply (code (suc i)) (omega arith) in
            let first = answer_once i a.0 a.1 in let second = answer_once (suc i) b.0 b.1 in omega arith)) (order (phase (code i)))
          where
            order : (n : ℕ) → (n < 6) ⊎ (6 ≤ n)
            order n = search arith

    come : (i : ℕ) → i ≤ edge → Here i (ran s start (take i line))
    come zero low = record { trail = follows.unbegun; going = λ p. follows.unended; cells = λ p. refl }
    come (suc i) low = ⊎_elim
        (λ within. subst (Here (suc i)) (sym (one_on i (in_line i within))) (goes_on i (ran s start (take i line)) low within (come i (omega arith))))
        (λ past. ended i past (come i (omega arith))) (order i in_phases.length)
      where
        order : (i n : ℕ) → (i < n) ⊎ (n ≤ i)
        order i n = search arith

        in_line : (i : ℕ) → i < in_phases.length → i < length line
        in_line i within = ⊎_elim (λ low. low) (λ high. absurd (let seven = ap phase (past_line line i high) in let six = in_phases.inside i within in omega arith)) (order i (length line))

        one_on : (i : ℕ) → i < length line → ran s start (take (suc i) line) ≡ unless_over (ran s start (take i line)).outcome (acted s (code i) (ran s start (take i line))) (ran s start (take i line))
        one_on i within = ap (ran s start) (take-suc line i End within) ∙ ran-append s start (take i line) (code i ∷ [])

        ended : (i : ℕ) → in_phases.length ≤ i → Here i (ran s start (take i line)) → Here (suc i) (ran s start (take (suc i) line))
        ended i past here = subst (Here (suc i)) (sym (still i past)) (record {
          trail = here.trail ∙ ap (λ n. first_values n log) (sym (counted.slot_same i (ap is_commit (in_phases.outside i past))));
          going = λ early. absurd (let seven = ap phase (in_phases.outside (suc i) (omega arith)) in omega arith);
          cells = λ early. absurd (let seven = ap phase (in_phases.outside (suc i) (omega arith)) in omega arith);
        })
          where
            still : (i : ℕ) → in_phases.length ≤ i → ran s start (take (suc i) line) ≡ ran s start (take i line)
            still i past = ⊎_elim
                (λ within. let r = ran s start (take i line) in
                one_on i within ∙ (ap (λ m. unless_over r.outcome (acted s m r) r) (in_phases.outside i past) ∙ stays s r.outcome r))
                (λ over. ap (ran s start) (take_all (suc i) line (omega arith) ∙ sym (take_all i line over))) (order i (length line))

    -- the run that has come to the edge
    abbrev now : Run
    now = ran s start (take edge line)

    whole : ran s start line ≡ ran s now (drop edge line)
    whole = ap (ran s start) (sym (take-append-drop edge line)) ∙ ran-append s start (take edge line) (drop edge line)

    so_far : now.trail ≡ agreed line log edge
    so_far = (come edge (omega arith)).trail

    prefix : take (slot edge) (ran s start line).trail ≡ agreed line log edge
    prefix =
        let more = trail_grows s now (drop edge line) in
        ap (λ (r : Run). take (slot edge) r.trail) whole
        ∙ (ap (take (slot edge)) (more.1 ∙ ap (λ t. t ++ more.0) so_far)
        ∙ take_at (agreed line log edge) more.0 (slot edge) (length-map-range_with_len log 0 (slot edge)))

    at_end : code edge ≡ End → (ran s start line).trail ≡ agreed line log edge
    at_end e = ap (λ (r : Run). r.trail) (whole ∙ all_ends s now (drop edge line) (λ i. get_or-drop edge line i End ∙ in_phases.outside (edge + i) (past i))) ∙ so_far
      where
        order : (i n : ℕ) → (i < n) ⊎ (n ≤ i)
        order i n = search arith

        past : (i : ℕ) → in_phases.length ≤ edge + i
        past i = ⊎_elim (λ low. absurd (let six = in_phases.inside edge low in let seven = ap phase e in omega arith)) (λ high. omega arith) (order edge in_phases.length)

    -- the run leaves at the check that doesn't pass
    module _ (outcome : Outcome) (e : leaves s (agreed line log edge) (code edge) ≡ Some outcome) where
      left : Leaves s now (code edge) outcome
      left = left_at s now (code edge) outcome (ap (λ t. leaves s t (code edge)) so_far ∙ e)

      inside : edge < length line
      inside = ⊎_elim (λ low. low) (λ high. absurd (let seven = ap phase (past_line line edge high) in let early = left.early in omega arith)) (order edge (length line))
        where
          order : (i n : ℕ) → (i < n) ⊎ (n ≤ i)
          order i n = search arith

      over : ran s start line ≡ acted s (code edge) now
      over =
          whole ∙ (ap (ran s now) (drop-cons line edge End inside)
          ∙ (ap (λ o. ran s (unless_over o (acted s (code edge) now) now) (drop (suc edge) line)) ((come edge (omega arith)).going left.early)
          ∙ ran_over s (acted s (code edge) now) outcome (drop (suc edge) line) left.with_outcome))

  -- the run agrees with the log
  pub agrees_with : (edge : ℕ) → Follows s start line log edge → AgreesWith s start line log edge
  agrees_with edge follows = record {
    so_far = so_far edge follows;
    prefix = prefix edge follows;
    at_end = at_end edge follows;
    at_exit = λ outcome e. ap (λ (r : Run). r.trail) (over edge follows outcome e) ∙ ((left edge follows outcome e).same_trail ∙ so_far edge follows);
    leaves_with = λ outcome e. ap (λ (r : Run). r.outcome) (over edge follows outcome e) ∙ (left edge follows outcome e).with_outcome;
  }
