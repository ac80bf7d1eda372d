-- The parts of its log that a run knows have room for the words on which it has agreed, and all but the last are full.
use Rattle.std.specs.Prelude.{◌-◌, ◌/◌, ◌==◌, ◌&&◌, not, nat_lt, nat_le, Bool, true, false, if◌then◌else◌}
use Rattle.std.proofs.Common.{◌≡◌, ℕ, ◌+◌, List, [], ◌∷◌, ◌++◌, length, length-append, ⊎_elim, refl, sym, ap, ◌∙◌, subst, arith, Option, Some, None}
use Rattle.machine_states.specs.map_history.specs.declared.op.Request.{Request}
use Rattle.machine_states.specs.body_terms.specs.Line.{is_end}
use Rattle.machine_states.specs.body_terms.specs.Run.{written_once}
use Rattle.machine_states.specs.body_terms.specs.Word.{value_of}
use Rattle.machine_states.specs.body_terms.specs.declared.micro.Micro.{Micro}
use Rattle.machine_states.specs.table_words.specs.declared.layout.Layout.{Layout}
use Rattle.machine_states.specs.table_words.specs.declared.spot.Spot.{Spot}
use Rattle.machine_states.specs.table_words.specs.declared.access.Access.{Access}
use Rattle.machine_states.specs.table_words.specs.Limits.{IsWithinLimits}
use Rattle.machine_states.specs.table_words.specs.Places.{part_words, slot_count}
use Rattle.machine_states.specs.structure_laws.specs.Meaning.{Meaning}
use Rattle.machine_states.specs.structure_laws.specs.Laws.{Laws}
use Rattle.machine_states.specs.epoch_core.specs.Moves.{is_clear}
use Rattle.machine_states.specs.epoch_core.specs.State.{last_epoch}
use Rattle.machine_states.specs.epoch_core.specs.declared.stage.Stage.{Stage}
use Rattle.machine_states.specs.epoch_core.specs.declared.stage.Stage.TheVariants as stages
use Rattle.machine_states.specs.epoch_core.specs.small_lemmas.proofs.Numbers.{tested_less, not_less_tested}
use Rattle.machine_states.specs.runner_parts.specs.declared.event.EventKind.{EventKind}
use Rattle.machine_states.specs.runner_parts.specs.declared.event.EventKind.TheVariants as kinds
use Rattle.machine_states.specs.runner_parts.specs.State.{RunState, PartState}
use Rattle.machine_states.specs.runner_steps.specs.Sections.{is_open_run, next_of, commits_to, is_beyond, needs_link}
use Rattle.machine_states.specs.runner_steps.specs.InRun.{last_clock}
use Rattle.machine_states.specs.runner_steps.specs.Outside.{blocks_from}
use Rattle.machine_states.specs.runner_steps.specs.Asks.{line_ask, opening_ask, ask_by}
use Rattle.machine_states.specs.runner_steps.specs.AfterInRun as inside
use Rattle.machine_states.specs.runner_steps.specs.AfterOutside as outside
use Rattle.machine_states.specs.runner_steps.specs.After.{line_after, outside_after, after_by}
use Rattle.machine_states.specs.First.{IsFirst}
use Rattle.machine_states.specs.World.{World}
use Rattle.machine_states.specs.Reached.{Reached}
use Rattle.machine_states.specs.Sight.{Sight, sight, part_or_first}
use Rattle.machine_states.proofs.FirstSights.{first_parts}
use Rattle.machine_states.proofs.Sights.{some_none, unless_gone, joins}
use Rattle.machine_states.proofs.Steps.{some_same}
use Rattle.machine_invariant.specs.machine_blocks.specs.machine_guards.specs.machine_agreement.specs.machine_epochs.proofs.FirstJoin as FirstJoin
use Rattle.machine_invariant.specs.machine_blocks.specs.machine_guards.specs.machine_agreement.specs.machine_epochs.proofs.RunPlaces.{next_in_line, open_run}
use Rattle.machine_invariant.specs.machine_blocks.proofs.Asked as asked
use Rattle.machine_invariant.specs.machine_blocks.proofs.Words.{near_room}
use Rattle.machine_invariant.specs.After.{AreAllowed}
use Rattle.machine_invariant.specs.LogWords.{LogWordsSay}
use Rattle.machine_invariant.proofs.Keeping.{IsStep, reached_keeps}
use Rattle.machine_invariant.proofs.Linked.{commit_inner}
use Rattle.machine_invariant.proofs.LogWords.{log_words_say}
use Rattle.next_steps.specs.Links.{AreFilled, LinksReach, OneLinkIsEnough}
use Rattle.next_steps.proofs.Parts.{each_part}
use Rattle.next_steps.proofs.Stages.{commits_behind}

-- so it is with the run of this part
record Reach (p : PartState) : Type 0 where
  far : (q : RunState) → p.run ≡ Some q → AreFilled q.trail q.links

stay : (p : PartState) (q : RunState) → p.run ≡ Some q → AreFilled q.trail q.links → Reach p
stay p q is low = record { far = λ y e. subst (λ (z : RunState). AreFilled z.trail z.links) (some_same q y (sym is ∙ e)) low }

over : (p : PartState) → p.run ≡ None → Reach p
over p none = record { far = λ y e. some_none y (sym none ∙ e) }

either : (b : Bool) (y z : PartState) → Reach y → Reach z → Reach (if b then y else z)
either true y z one two = one
either false y z one two = two

module _ (m : Meaning) (l : Layout) (p : PartState) (found : ℕ) where
  -- in a run
  module _ (q : RunState) (is : p.run ≡ Some q) (old : AreFilled q.trail q.links) where
    -- where the run goes on as it is
    kept : (p' : PartState) (q' : RunState) → p'.run ≡ Some q' → q'.trail ≡ q.trail → q'.links ≡ q.links → Reach p'
    kept p' q' runs trail links = stay p' q' runs (subst (λ (xs : List ℕ). AreFilled xs q'.links) (sym trail)
        (subst (λ (xs : List ℕ). AreFilled q.trail xs) (sym links) old))

    fill : (slot : ℕ) (made : Option ℕ) → Reach (inside.fill_loaded m l slot p q made found)
    fill slot None = kept _ (inside.goes_on m l (record q { made = Some slot; worn = false }) found) refl refl refl
    fill slot (Some t) = kept _ (inside.goes_on m l q found) refl refl refl

    stored : (b : Bool) (block number : ℕ) → Reach (inside.with_run p (if b then inside.block_emptied block q else inside.filled m l number q))
    stored true block number = kept _ (inside.block_emptied block q) refl refl refl
    stored false block number = kept _ (inside.filled m l number q) refl refl refl

    module _ (micro : Micro) (x : Spot × Access) (next : (k : ℕ) → commits_to micro ≡ Some k → k ≡ length q.trail) where
      -- a commit adds a word, for which there is room
      more : (k v : ℕ) → commits_to micro ≡ Some k → is_beyond q (Some k) ≡ false → AreFilled (q.trail ++ v ∷ []) q.links
      more k v commits near =
          let low = near_room q k near in
          let here = next k commits in
          let long = length-append q.trail (v ∷ []) in
          let full = old.1 in (omega (arith, low, here, long), omega (arith, full, long))

      -- and a link adds a part where the last one is full
      longer : (v : ℕ) → needs_link q micro ≡ true → AreFilled q.trail (q.links ++ v ∷ [])
      longer v needs = by (commits_to micro) refl needs
        where
          by : (o : Option ℕ) → commits_to micro ≡ o → is_beyond q o ≡ true → AreFilled q.trail (q.links ++ v ∷ [])
          by None e needs = absurd (let z = needs in cc)
          by (Some k) e needs =
              let far = tested_less (length q.links) (k / part_words) needs in
              let here = next k e in
              let one = length-append q.links (v ∷ []) in
              let low = old.0 in (omega (arith, one, low), omega (arith, one, far, here))

      line_reach : (kind : EventKind) → line_ask m l kind p.nodes.free p.blocks.free q micro ≡ Some x → Reach (line_after m l kind p q micro found)
      line_reach kinds.Commit e = let h = asked.commit_asked q x micro e in
          stay _ (inside.agrees m l q (written_once found q.word)) refl
          (more h.log (written_once found q.word) (⊎_elim (λ one. ap commits_to one) (λ two. ap commits_to two) h.step.1) h.near)
      line_reach (kinds.LoadCell place) e = kept _ (inside.goes_on m l q found) refl refl refl
      line_reach kinds.ExchangeCell e = kept _ (inside.goes_on m l q q.word) refl refl refl
      line_reach (kinds.PrivateLoad slot word) e = fill slot q.made
      line_reach (kinds.PrivateStore slot word number) e = stored (needs_link q micro) (slot - blocks_from m l) number
      line_reach (kinds.LinkCommit b) e = stay (inside.link_committed b p q found) _ refl
          (longer (value_of (written_once found (b + 1) - 1)) (asked.link_asked q x l b micro e).needs)
      line_reach kinds.MakeCommit e = let h = asked.make_commit_asked q x micro e in
          subst (λ (o : Option ℕ). Reach (inside.make_committed m l p q o found)) (sym h.1)
          (stay _ (inside.agrees m l (record q { made = None; worn = false }) (written_once found (h.0 + 1))) refl
          (more h.2.log (written_once found (h.0 + 1)) (ap commits_to h.2.step) h.2.near))
      line_reach kinds.RetireCommit e = let h = asked.retire_commit_asked q x micro e in
          stay _ (inside.agrees m l q (written_once found (inside.retired_slot_of micro + 1))) refl
          (more h.1.log (written_once found (inside.retired_slot_of micro + 1)) (ap commits_to h.1.step) h.1.near)
      line_reach kinds.EpochForRetire e = kept _ (inside.goes_on m l q found) refl refl refl
      line_reach kinds.SetDone e = kept _ (inside.ended_more q) refl refl refl
      line_reach kinds.Release e = either (is_end (next_of m (inside.ended_more q))) _ _ (over _ refl) (kept _ (inside.ended_more q) refl refl refl)
      line_reach kinds.ClockLoad e = kept _ (inside.goes_on m l q found) refl refl refl
      line_reach kinds.StampExchange e = either (nat_lt q.word last_clock) _ _ (kept _ (inside.goes_on m l q _) refl refl refl) (stay p q is old)
      line_reach kinds.ClockRaise e = kept _ (inside.goes_on m l q q.word) refl refl refl
      line_reach kinds.ReplyExchange e = kept _ (inside.goes_on m l q q.word) refl refl refl
      line_reach kinds.NestedLoad e = kept _ (inside.goes_on m l q found) refl refl refl
      line_reach kinds.NestedHold e = kept _ (inside.goes_on m l q q.word) refl refl refl
      line_reach kinds.OutcomeLoad e = kept _ (inside.goes_on m l q found) refl refl refl
      line_reach kinds.OutcomeCommit e = let h = asked.outcome_commit_asked q x micro e in
          stay _ (inside.agrees m l q (written_once found q.word)) refl
          (more h.log (written_once found q.word) (ap commits_to h.step.1) h.near)
      line_reach _ e = stay p q is old

  -- outside a run
  module _ (none : p.run ≡ None) where
    scan : (stage : Stage) → Reach (outside.scan_one_after l p stage found)
    scan (stages.Scanning y next clear) = either (nat_le next l.runners) _ _
        (either (next == l.runners && not ((clear && is_clear y found) && nat_lt y last_epoch)) _ _ (over _ none) (over _ none)) (over _ none)
    scan _ = over _ none

    advance : (stage : Stage) → Reach (outside.advance_after p stage)
    advance (stages.Scanning y next clear) = either (nat_lt y last_epoch) _ _ (over _ none) (over _ none)
    advance _ = over _ none

    outside_reach : (kind : EventKind) → Reach (outside_after m l kind p found)
    outside_reach (kinds.ScanOne i) = scan p.stage
    outside_reach kinds.Advance = advance p.stage
    outside_reach kinds.Split = either (nat_lt p.records.splits l.runners) _ _ (over _ none) (over _ none)
    outside_reach (kinds.LoadCell (Some place)) = over _ none
    outside_reach (kinds.LoadCell None) = over _ none
    outside_reach (kinds.PrivateLoad slot word) = either (nat_lt slot (slot_count l m.fixed_slots)) _ _ (over _ none) (over _ none)
    outside_reach (kinds.Hold thunk d) = either (found == thunk.word) _ _ (over _ none) (over _ none)
    outside_reach (kinds.LoadThunk (Some d)) = stay _ (outside.opened d found) refl (omega arith, omega arith)
    outside_reach (kinds.LoadThunk None) = over _ none
    outside_reach _ = over _ none

module _ (m : Meaning) (l : Layout) (rs : List Request) (s s' : Sight) (r : ℕ) (kind : EventKind) (st : IsStep m l rs s s' r kind) where
  abbrev p : PartState
  p = s.part r

  abbrev x : Spot × Access
  x = st.step.ask

  abbrev found : ℕ
  found = s.word x.0

  say : LogWordsSay m l s
  say = log_words_say m l st.beside s st.whole

  -- a commit that a run makes goes to the log word behind those on which it has agreed
  behind : (q : RunState) → p.run ≡ Some q → is_open_run q ≡ true → (k : ℕ) → commits_to (next_of m q) ≡ Some k → k ≡ length q.trail
  behind q is opened k commits =
      let here = next_in_line m q (next_of m q) (commit_inner (next_of m q) k commits) refl in
      say.next r k q is (open_run q opened) (ap commits_to here ∙ commits)

  own : LinksReach s → (o : Option RunState) → p.run ≡ o → ask_by m l rs r kind p o ≡ Some x → Reach (after_by m l kind p o found)
  own old None is e = outside_reach m l p found is kind
  own old (Some q) is e = by (is_open_run q) refl
    where
      by : (b : Bool) → is_open_run q ≡ b → Reach (if b then line_after m l kind p q (next_of m q) found else inside.opened_more p q found)
      by true opened = line_reach m l p found q is (old r q is) (next_of m q) x (behind q is opened) kind
          (ap (λ b. if b then line_ask m l kind p.nodes.free p.blocks.free q (next_of m q) else opening_ask kind q) (sym opened) ∙ e)
      by false closed = kept m l p found q is (old r q is) _ (record q { opened = q.opened ++ found ∷ [] }) refl refl refl

  pub links_reach : LinksReach s → LinksReach s'
  links_reach old i = (subst (λ (y : Sight). Reach (y.part i)) (sym st.step.next)
      (each_part m l s r x (λ k p'. Reach p') (λ k p' blocks board records gone h. record { far = h.far }) kind (joins m l rs kind r p x st.step.asked)
      (own old p.run refl (unless_gone _ p.gone _ x st.step.asked).1) (λ k ne. record { far = old k }) i)).far

-- at first nobody is in a run
first_reach : (m : Meaning) (l : Layout) (rs : List Request) (w : World) → IsFirst m l rs w → LinksReach (sight m l rs w)
first_reach m l rs w start r q e = some_none q (sym (none r) ∙ e)
  where
    none : (i : ℕ) → ((sight m l rs w).part i).run ≡ None
    none i = subst (λ (p : PartState). p.run ≡ None) (sym (first_parts m l w.parts start.parts i))
        (FirstJoin.each_part m l (λ p. p.run ≡ None) refl (λ k. refl) refl i)

module _ (m : Meaning) (laws : Laws m) (l : Layout) (limits : IsWithinLimits l) (rs : List Request) (allowed : AreAllowed rs) where
  pub reached_reach : (w : World) → Reached m l rs w → LinksReach (sight m l rs w)
  reached_reach w reached = reached_keeps m laws l limits rs allowed LinksReach (λ v start. first_reach m l rs v start)
      (λ s s' r kind st old. links_reach m l rs s s' r kind st old) w reached

  -- the part in which a run's next word stands is at most one behind those that it knows
  pub one_link : OneLinkIsEnough m l rs
  one_link r b p q q' micro is all ahead links = by (commits_to micro) refl
    where
      runs : ((sight m l rs is.world).part r).run ≡ Some q
      runs = ap (λ (y : PartState). y.run) (ap part_or_first is.own) ∙ is.running

      by : (o : Option ℕ) → commits_to micro ≡ o → is_beyond q' o ≡ false
      by None e = refl
      by (Some k) e =
          let here = commits_behind m laws l limits rs allowed r p q is all micro ahead k e in
          let low = (reached_reach is.world is.reached r q runs).0 in
          let long = ap (λ (xs : List ℕ). length xs) links ∙ length-append q.links (b ∷ []) in
          not_less_tested (length q'.links) (k / part_words) (omega (arith, here, low, long))
