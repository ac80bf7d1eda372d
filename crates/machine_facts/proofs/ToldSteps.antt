-- Each step of the machine leaves each runner knowing the words to which its run has written.
use Rattle.std.specs.Prelude.{◌==◌, ◌&&◌, not, nat_lt, nat_le, Bool, true, false, if◌then◌else◌}
use Rattle.std.proofs.Common.{◌≡◌, ◌≢◌, ℕ, ◌<◌, List, length, refl, sym, ap, ◌∙◌, subst, ⊎_elim, arith, Option, Some, None}
use Rattle.std.proofs.lemmas.Bool.{cases_eq}
use Rattle.std.proofs.lemmas.Bool.Decides.{nat_tests}
use Rattle.machine_states.specs.map_history.specs.declared.op.Request.{Request}
use Rattle.machine_states.specs.body_terms.specs.declared.micro.Micro.TheVariants as micros
use Rattle.machine_states.specs.body_terms.specs.Line.{micro_at}
use Rattle.machine_states.specs.table_words.specs.declared.layout.Layout.{Layout}
use Rattle.machine_states.specs.table_words.specs.declared.spot.Spot.{Spot}
use Rattle.machine_states.specs.table_words.specs.declared.access.Access.{Access}
use Rattle.machine_states.specs.table_words.specs.Places.{slot_count}
use Rattle.machine_states.specs.table_words.specs.Seen.{upd}
use Rattle.machine_states.specs.structure_laws.specs.Meaning.{Meaning}
use Rattle.machine_states.specs.epoch_core.specs.Moves.{is_clear}
use Rattle.machine_states.specs.runner_parts.specs.declared.event.EventKind.{EventKind}
use Rattle.machine_states.specs.runner_parts.specs.declared.event.EventKind.TheVariants as kinds
use Rattle.machine_states.specs.epoch_core.specs.declared.stage.Stage.{Stage}
use Rattle.machine_states.specs.epoch_core.specs.declared.stage.Stage.TheVariants as stages
use Rattle.machine_states.specs.runner_parts.specs.State.{RunState, RecordsState, PartState}
use Rattle.machine_states.specs.runner_parts.specs.Tests.{knows}
use Rattle.machine_states.specs.runner_steps.specs.Sections.{thunk_of, line_of, is_open_run, next_of}
use Rattle.machine_states.specs.epoch_core.specs.State.{last_epoch}
use Rattle.machine_states.specs.runner_steps.specs.Asks.{opening_ask}
use Rattle.machine_states.specs.runner_steps.specs.Asks.{asks, line_ask}
use Rattle.machine_states.specs.runner_steps.specs.After.{outside_after, line_after, after_by, stepped, after}
use Rattle.machine_states.specs.runner_steps.specs.AfterInRun as inside
use Rattle.machine_states.specs.runner_steps.specs.AfterOutside as outside
use Rattle.machine_states.specs.runner_steps.specs.After.{noted, leaves, knows_also}
use Rattle.machine_states.specs.Sight.{Sight, sight, parts_after}
use Rattle.machine_states.proofs.FirstSights.{first_parts}
use Rattle.machine_states.proofs.Sights.{if_some, some_none}
use Rattle.machine_states.proofs.Steps.{some_same}
use Rattle.machine_states.proofs.Updates.{upd_here, upd_else}
use Rattle.machine_invariant.specs.machine_blocks.specs.machine_guards.specs.machine_agreement.specs.machine_epochs.proofs.FirstJoin.{each_part}
use Rattle.machine_invariant.specs.machine_blocks.specs.machine_guards.specs.machine_agreement.specs.machine_epochs.proofs.RunPlaces.{next_in_line, open_run}
use Rattle.machine_invariant.specs.machine_blocks.specs.machine_guards.specs.machine_agreement.proofs.RunPlaces.{used_here, code_here}
use Rattle.machine_invariant.specs.Whole.{Beside, IsWhole}
use Rattle.machine_invariant.proofs.Asked.{asked_by}
use Rattle.machine_facts.specs.Told.{PartIsTold, FirstIsTold, StepsTellRuns}
use Rattle.machine_facts.proofs.Telling.{Grows, grows_append, told_more, line_told}

-- a run at the start of its line has written nothing
starts : (m : Meaning) (p : PartState) → ((q : RunState) → p.run ≡ Some q → q.at ≡ 0) → PartIsTold m p
starts m p start = record { told = λ q is i low. absurd (let z = start q is in omega arith) }

-- the same run, by a runner that knows more
same_run : (m : Meaning) (p p' : PartState) → p'.run ≡ p.run → Grows p.records.known p'.records.known → PartIsTold m p → PartIsTold m p'
same_run m p p' run grows old = record {
  told = λ q is i low. told_more p.records.known p'.records.known (thunk_of q.opened).request (micro_at (line_of m q) i) grows (old.told q (sym run ∙ is) i low);
}

module _ (m : Meaning) (l : Layout) (p : PartState) (none : p.run ≡ None) where
  rest : (p' : PartState) → p'.run ≡ p.run → PartIsTold m p'
  rest p' same = starts m p' (λ q is. some_none q (sym (same ∙ none) ∙ is))

  either : (b : Bool) (y z : PartState) → PartIsTold m y → PartIsTold m z → PartIsTold m (if b then y else z)
  either true y z one two = one
  either false y z one two = two

  scan_told : (found : ℕ) (stage : Stage) → PartIsTold m (outside.scan_one_after l p stage found)
  scan_told found (stages.Scanning e next clear) = either (nat_le next l.runners) _ _
      (either (next == l.runners && not ((clear && is_clear e found) && nat_lt e last_epoch)) _ _ (rest _ refl) (rest _ refl)) (rest p refl)
  scan_told found _ = rest p refl

  advance_told : (stage : Stage) → PartIsTold m (outside.advance_after p stage)
  advance_told (stages.Scanning e next clear) = either (nat_lt e last_epoch) _ _ (rest _ refl) (rest p refl)
  advance_told _ = rest p refl

  outside_told : (kind : EventKind) (found : ℕ) → PartIsTold m (outside_after m l kind p found)
  outside_told kinds.EnterLoad found = rest _ refl
  outside_told kinds.Announce found = rest _ refl
  outside_told kinds.EnterAgain found = rest _ refl
  outside_told kinds.Idle found = rest _ refl
  outside_told kinds.ScanEpoch found = rest _ refl
  outside_told (kinds.ScanOne n) found = scan_told found p.stage
  outside_told kinds.Advance found = advance_told p.stage
  outside_told kinds.Split found = either (nat_lt p.records.splits l.runners) _ _ (rest _ refl) (rest p refl)
  outside_told (kinds.Join worker) found = rest _ refl
  outside_told (kinds.LoadCell (Some place)) found = rest _ refl
  outside_told (kinds.LoadEntry request reply) found = rest _ refl
  outside_told (kinds.PrivateLoad slot word) found = either (nat_lt slot (slot_count l m.fixed_slots)) _ _ (rest _ refl) (rest _ refl)
  outside_told (kinds.PrivateStore slot word number) found = rest _ refl
  outside_told (kinds.Hold thunk d) found = either (found == thunk.word) _ _ (rest _ refl) (rest _ refl)
  outside_told (kinds.LoadThunk (Some d)) found = starts m (outside.open_after d p found) (λ q is. ap (λ (y : RunState). y.at) (sym (some_same (outside.opened d found) q is)))
  outside_told (kinds.LoadCell None) found = rest p refl
  outside_told (kinds.LoadThunk None) found = rest p refl
  outside_told _ found = rest _ refl

-- a run that has still to load its words has them loaded one by one
few_opened : (kind : EventKind) (q : RunState) (x : Spot × Access) → opening_ask kind q ≡ Some x → length q.opened < 13
few_opened (kinds.LoadThunk None) q x asked = below (length q.opened) (if_some _ _ x asked).0
  where
    below : (n : ℕ) → nat_lt n 12 ≡ true → n < 13
    below n e = grind (arith, nat_tests)
few_opened kinds.LoadDone q x asked = last (length q.opened) (if_some _ _ x asked).0
  where
    last : (n : ℕ) → (n == 12) ≡ true → n < 13
    last n e = grind (arith, nat_tests)
few_opened (kinds.LoadThunk (Some d)) q x asked = some_none x asked
few_opened _ q x asked = some_none x asked

pub noted_known : (l : Layout) (r : ℕ) (kind : EventKind) (spot : Spot) (access : Access) (n : ℕ) (s : RecordsState) → (noted l r kind spot access n s).known ≡ s.known
noted_known l r kind spot access n s = refl

module _ (m : Meaning) (l : Layout) (rs : List Request) (g : Beside) (s : Sight) (whole : IsWhole m l g s) (r : ℕ) (x : Spot × Access) (old : PartIsTold m (s.part r)) where
  abbrev p : PartState
  p = s.part r

  -- the reply of a line isn't 0
  reply_some : (q : RunState) → p.run ≡ Some q → is_open_run q ≡ true → (n : ℕ) → next_of m q ≡ micros.ReplyExchange n → n ≢ 0
  reply_some q is opened n next none =
      let used = used_here m l g.agreement s whole.sections r q is in
      let stamped = (whole.sections.sound.sections q.descriptor used).published.line.stamped in
      let here = code_here m l g.agreement s whole.sections r q is (open_run q opened) q.at ∙ next_in_line m q (micros.ReplyExchange n) refl next in
      let place = stamped.answer_once q.at n here in
      let same : micros.ReplyExchange n ≡ micros.ReplyExchange stamped.reply = sym here ∙ (ap (λ i. (g.agreement.section q.descriptor).code i) place ∙ stamped.answers) in
      stamped.replies (sym (ap inside.reply_word_of same) ∙ none)

  stepped_told : (kind : EventKind) (found : ℕ) → asks m l rs r kind p ≡ Some x → PartIsTold m (stepped m l kind p found)
  stepped_told kind found asked = by p.run refl
    where
      in_run : (q : RunState) → p.run ≡ Some q → (b : Bool) → is_open_run q ≡ b
          → (if b then line_ask m l kind p.nodes.free p.blocks.free q (next_of m q) else opening_ask kind q) ≡ Some x
          → PartIsTold m (if b then line_after m l kind p q (next_of m q) found else inside.opened_more p q found)
      in_run q is true opened e = line_told m l p q is x old kind found (reply_some q is opened) e
      in_run q is false opened e = starts m (inside.opened_more p q found) (λ q' is'.
          sym (ap (λ (y : RunState). y.at) (some_same _ q' is')) ∙ ((whole.sections.tied r).begins q is (few_opened kind q x e)).0)

      by : (run : Option RunState) → p.run ≡ run → PartIsTold m (after_by m l kind p run found)
      by None is = outside_told m l p is kind found
      by (Some q) is = in_run q is (is_open_run q) refl (asked_by m l r kind p rs x (Some q) is asked)

  part_told : (kind : EventKind) → asks m l rs r kind p ≡ Some x → PartIsTold m (after m l r kind x.0 x.1 p (s.word x.0))
  part_told kind asked = same_run m (stepped m l kind p (s.word x.0)) (after m l r kind x.0 x.1 p (s.word x.0)) refl
      (λ n reply e. ap (λ xs. knows xs n reply) (noted_known l r kind x.0 x.1 (s.word x.0) (stepped m l kind p (s.word x.0)).records) ∙ e)
      (stepped_told kind (s.word x.0) asked)

module _ (m : Meaning) (l : Layout) (rs : List Request) where
  pub first_told : FirstIsTold m l rs
  first_told w first r = starts m _ (λ q is. some_none q (sym none ∙ is))
    where
      none : ((sight m l rs w).part r).run ≡ None
      none = subst (λ (p : PartState). p.run ≡ None) (sym (first_parts m l w.parts first.parts r))
          (each_part m l (λ p. p.run ≡ None) refl (λ n. refl) refl r)

  pub steps_tell : StepsTellRuns m l rs
  steps_tell g s s' r kind whole step old i = subst (λ (t : Sight). PartIsTold m (t.part i)) (sym step.next) (at_kind kind)
    where
      part1 : PartState
      part1 = after m l r kind step.ask.0 step.ask.1 (s.part r) (s.word step.ask.0)

      own : PartIsTold m part1
      own = part_told m l rs g s whole r step.ask (old r) kind step.asked

      one : (p' : PartState) → PartIsTold m p' → PartIsTold m (upd s.part r p' i)
      one p' told = ⊎_elim
          (λ e. subst (PartIsTold m) (sym (ap (upd s.part r p') e ∙ upd_here s.part r p')) told)
          (λ ne. subst (PartIsTold m) (sym (upd_else s.part r p' i ne)) (old i))
          (cases_eq i r)

      joining : (worker : ℕ) → PartIsTold m (upd (upd s.part r (knows_also part1 (s.part worker))) worker (leaves (s.part worker)) i)
      joining worker =
          let f = upd s.part r (knows_also part1 (s.part worker)) in
          let left = leaves (s.part worker) in
          ⊎_elim
          (λ e. subst (PartIsTold m) (sym (ap (upd f worker left) e ∙ upd_here f worker left))
          (same_run m (s.part worker) left refl (λ n reply e. e) (old worker)))
          (λ ne. subst (PartIsTold m) (sym (upd_else f worker left i ne))
          (one (knows_also part1 (s.part worker))
          (same_run m part1 (knows_also part1 (s.part worker)) refl (grows_append part1.records.known (s.part worker).records.known) own)))
          (cases_eq i worker)

      at_kind : (kind' : EventKind) → PartIsTold m (parts_after kind' s.part r part1 i)
      at_kind (kinds.Join worker) = joining worker
      at_kind kind' = one part1 own
