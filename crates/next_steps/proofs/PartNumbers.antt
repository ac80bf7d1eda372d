-- A step leaves the numbers that a runner keeps within the table.
use Rattle.std.specs.Prelude.{◌==◌, ◌||◌, ◌&&◌, ◌⊎◌, not, nat_lt, nat_le, Bool, true, false, if◌then◌else◌}
use Rattle.std.specs.List.{filter}
use Rattle.std.proofs.Common.{◌≡◌, ℕ, ◌<◌, List, [], ◌∷◌, ◌++◌, inl, inr, ⊎_elim, sym, refl, ap, ◌∙◌, subst, arith, Option, Some, None}
use Rattle.std.proofs.lemmas.Bool.Decides.{nat_tests}
use Rattle.machine_states.specs.map_history.specs.declared.op.Request.{Request}
use Rattle.machine_states.specs.body_terms.specs.Line.{is_end}
use Rattle.machine_states.specs.body_terms.specs.declared.micro.Micro.{Micro}
use Rattle.machine_states.specs.body_terms.specs.declared.thunk.Thunk.{Thunk}
use Rattle.machine_states.specs.table_words.specs.declared.layout.Layout.{Layout}
use Rattle.machine_states.specs.table_words.specs.declared.spot.Spot.{Spot}
use Rattle.machine_states.specs.table_words.specs.declared.spot.Spot.TheVariants as spots
use Rattle.machine_states.specs.table_words.specs.declared.access.Access.{Access}
use Rattle.machine_states.specs.table_words.specs.Places.{Fits, slot_count, descriptor_count}
use Rattle.machine_states.specs.structure_laws.specs.Meaning.{Meaning}
use Rattle.machine_states.specs.epoch_core.specs.Moves.{is_clear}
use Rattle.machine_states.specs.runner_parts.specs.declared.entries.Published.{Published}
use Rattle.machine_states.specs.epoch_core.specs.declared.stage.Stage.{Stage}
use Rattle.machine_states.specs.epoch_core.specs.declared.stage.Stage.TheVariants as stages
use Rattle.machine_states.specs.runner_parts.specs.declared.event.EventKind.{EventKind}
use Rattle.machine_states.specs.runner_parts.specs.declared.event.EventKind.TheVariants as kinds
use Rattle.machine_states.specs.runner_parts.specs.State.{RunState, PartState, DescriptorsState, GuardsState, ReadsState}
use Rattle.machine_states.specs.runner_parts.specs.Tests.{has, has_pair}
use Rattle.machine_states.specs.runner_parts.specs.Lists.{descriptors_swept, descriptor_retired, cell_read}
use Rattle.machine_states.specs.guard_core.specs.Moves.{is_unnamed}
use Rattle.machine_invariant.proofs.Basics.{same_test}
use Rattle.machine_states.specs.runner_steps.specs.Sections.{is_open_run, next_of}
use Rattle.machine_states.specs.epoch_core.specs.State.{last_epoch}
use Rattle.machine_states.specs.runner_steps.specs.InRun.{last_clock}
use Rattle.machine_states.specs.runner_steps.specs.Asks.{opening_ask, sizes_for}
use Rattle.machine_states.specs.runner_steps.specs.Asks.{ask_by, outside_ask, line_ask}
use Rattle.machine_states.specs.runner_steps.specs.After.{line_after, inside_after, outside_after}
use Rattle.machine_states.specs.runner_steps.specs.AfterInRun as inside
use Rattle.machine_states.specs.runner_steps.specs.AfterOutside as outside
use Rattle.machine_states.specs.runner_steps.specs.Guards.{is_last_guard}
use Rattle.machine_states.proofs.Sights.{some_none}
use Rattle.machine_states.proofs.Steps.{some_same}
use Rattle.machine_invariant.specs.machine_blocks.specs.machine_guards.specs.machine_agreement.specs.machine_epochs.proofs.InsideAsked as asked
use Rattle.machine_invariant.specs.machine_blocks.specs.machine_guards.specs.machine_agreement.specs.machine_epochs.proofs.OutsideAsked as outside_asked
use Rattle.next_steps.specs.Rooms.{cell_count}
use Rattle.next_steps.specs.Numbers.{PartFits}
use Rattle.next_steps.proofs.Tests.{without_has, either_has}

-- one more pair
pair_more : (xs : List (ℕ × ℕ)) (a b place word : ℕ) → has_pair (xs ++ (a, b) ∷ []) place word ≡ true
    → (has_pair xs place word ≡ true) ⊎ (place ≡ a)
pair_more [] a b place word e = inr (one a b place word e)
  where
    one : (a b place word : ℕ) → ((a == place && b == word) || false) ≡ true → place ≡ a
    one a b place word e = grind (arith, nat_tests)
pair_more (x ∷ xs) a b place word e = by (x.0 == place && x.1 == word) e (pair_more xs a b place word)
  where
    by : (c : Bool) → (c || has_pair (xs ++ (a, b) ∷ []) place word) ≡ true
        → (has_pair (xs ++ (a, b) ∷ []) place word ≡ true → (has_pair xs place word ≡ true) ⊎ (place ≡ a))
        → ((c || has_pair xs place word) ≡ true) ⊎ (place ≡ a)
    by true e rest = inl refl
    by false e rest = rest e

-- what passes a test is of the list
pub filtered_has : (test : ℕ → Bool) (xs : List ℕ) (d : ℕ) → has (filter test xs) d ≡ true → has xs d ≡ true
filtered_has test [] d e = e
filtered_has test (x ∷ xs) d e = by (test x) e (filtered_has test xs d)
  where
    or_true : (a : Bool) {b : Bool} → b ≡ true → (a || b) ≡ true
    or_true true e = refl
    or_true false e = e

    or_more : (a b c : Bool) → (a || b) ≡ true → (b ≡ true → c ≡ true) → (a || c) ≡ true
    or_more true b c e h = refl
    or_more false b c e h = h e

    by : (b : Bool) → has (if b then x ∷ filter test xs else filter test xs) d ≡ true
        → (has (filter test xs) d ≡ true → has xs d ≡ true) → has (x ∷ xs) d ≡ true
    by true e rest = or_more (x == d) _ _ e rest
    by false e rest = or_true (x == d) (rest e)

-- one more number
one_has : (x d : ℕ) → has (x ∷ []) d ≡ true → d ≡ x
one_has x d e = same x d e
  where
    same : (a d : ℕ) → ((a == d) || false) ≡ true → d ≡ a
    same a d e = grind (arith, nat_tests)

module _ (m : Meaning) (l : Layout) (p : PartState) (old : PartFits m l p) where
  -- a part with the same descriptors and readings
  by_fields : (p' : PartState) → p'.descriptors.free ≡ p.descriptors.free → p'.descriptors.limbo ≡ p.descriptors.limbo → p'.published ≡ p.published
      → p'.reads.cells ≡ p.reads.cells → p'.reads.walk ≡ p.reads.walk → PartFits m l p'
  by_fields p' free limbo published cells walk = record {
    free = λ d h. old.free d (ap (λ xs. has xs d) (sym free) ∙ h);
    limbo = λ d h. old.limbo d (ap (λ (xs : List ℕ). has xs d) (sym limbo) ∙ h);
    published = λ x h. old.published x (sym published ∙ h);
    read = λ place word h. old.read place word (ap (λ (xs : List (ℕ × ℕ)). has_pair xs place word) (sym cells) ∙ h);
    walked = λ place word h. old.walked place word (ap (λ (xs : List (ℕ × ℕ)). has_pair xs place word) (sym walk) ∙ h);
  }

  if_fits : (b : Bool) (y z : PartState) → PartFits m l y → PartFits m l z → PartFits m l (if b then y else z)
  if_fits true y z one two = one
  if_fits false y z one two = two

  unchanged : PartFits m l p
  unchanged = old

  -- one more cell was read
  read_fits : (place found : ℕ) → place < cell_count m l → (p' : PartState) → p'.descriptors.free ≡ p.descriptors.free
      → p'.descriptors.limbo ≡ p.descriptors.limbo
      → ((x : Published) → p'.published ≡ Some x → x.descriptor < descriptor_count l)
      → p'.reads.cells ≡ p.reads.cells ++ (place, found) ∷ [] → p'.reads.walk ≡ p.reads.walk → PartFits m l p'
  read_fits place found low p' free limbo published cells walk = record {
    free = λ d h. old.free d (ap (λ xs. has xs d) (sym free) ∙ h);
    limbo = λ d h. old.limbo d (ap (λ (xs : List ℕ). has xs d) (sym limbo) ∙ h);
    published = published;
    read = λ a word h. ⊎_elim (old.read a word) (λ here. subst (λ n. n < cell_count m l) (sym here) low)
        (pair_more p.reads.cells place found a word (ap (λ (xs : List (ℕ × ℕ)). has_pair xs a word) (sym cells) ∙ h));
    walked = λ a word h. old.walked a word (ap (λ (xs : List (ℕ × ℕ)). has_pair xs a word) (sym walk) ∙ h);
  }

  -- the steps of a run
  module _ (q : RunState) (found : ℕ) where
    -- with its last release the own published section is retired
    over_fits : (o : Option Published) (d : ℕ) → p.published ≡ o → (p' : PartState) → p'.published ≡ inside.kept_unless o d
        → p'.descriptors ≡ inside.retired_if p.descriptors o d → p'.reads.walk ≡ p.reads.walk
        → ((place word : ℕ) → has_pair p'.reads.cells place word ≡ true → place < cell_count m l) → PartFits m l p'
    over_fits None d is p' published descriptors walk read = record {
      free = λ n h. old.free n (ap (λ (y : DescriptorsState). has y.free n) (sym descriptors) ∙ h);
      limbo = λ n h. old.limbo n (ap (λ (y : DescriptorsState). has y.limbo n) (sym descriptors) ∙ h);
      published = λ x e. some_none x (sym published ∙ e);
      read = read;
      walked = λ place word h. old.walked place word (ap (λ (xs : List (ℕ × ℕ)). has_pair xs place word) (sym walk) ∙ h);
    }
    over_fits (Some y) d is p' published descriptors walk read = by (y.descriptor == d) refl published descriptors
      where
        by : (b : Bool) → (y.descriptor == d) ≡ b → p'.published ≡ (if b then None else Some y)
            → p'.descriptors ≡ (if b then descriptor_retired p.descriptors d else p.descriptors) → PartFits m l p'
        by true own published descriptors = record {
          free = λ n h. old.free n (ap (λ (y : DescriptorsState). has y.free n) (sym descriptors) ∙ h);
          limbo = λ n h. ⊎_elim (old.limbo n)
              (λ here. subst (λ k. k < descriptor_count l) (same_test y.descriptor d own ∙ sym (one_has d n here)) (old.published y is))
              (either_has p.descriptors.limbo (d ∷ []) n (ap (λ (y : DescriptorsState). has y.limbo n) (sym descriptors) ∙ h));
          published = λ x e. some_none x (sym published ∙ e);
          read = read;
          walked = λ place word h. old.walked place word (ap (λ (xs : List (ℕ × ℕ)). has_pair xs place word) (sym walk) ∙ h);
        }
        by false other published descriptors = record {
          free = λ n h. old.free n (ap (λ (y : DescriptorsState). has y.free n) (sym descriptors) ∙ h);
          limbo = λ n h. old.limbo n (ap (λ (y : DescriptorsState). has y.limbo n) (sym descriptors) ∙ h);
          published = λ x e. old.published x (is ∙ (sym published ∙ e));
          read = read;
          walked = λ place word h. old.walked place word (ap (λ (xs : List (ℕ × ℕ)). has_pair xs place word) (sym walk) ∙ h);
        }

    fill_fits : (slot : ℕ) (made : Option ℕ) → PartFits m l (inside.fill_loaded m l slot p q made found)
    fill_fits slot None = by_fields _ refl refl refl refl refl
    fill_fits slot (Some t) = by_fields _ refl refl refl refl refl

    make_fits : (made : Option ℕ) → PartFits m l (inside.make_committed m l p q made found)
    make_fits None = unchanged
    make_fits (Some t) = by_fields _ refl refl refl refl refl

    release_fits : (place : ℕ) → place < cell_count m l → PartFits m l (inside.lock_released m l place p q found)
    release_fits place low = if_fits (is_end (next_of m (inside.ended_more q))) _ _
        (over_fits p.published q.descriptor refl _ refl refl refl (λ a word h. ⊎_elim (old.read a word)
        (λ here. subst (λ n. n < cell_count m l) (sym here) low) (pair_more p.reads.cells place found a word h)))
        (read_fits place found low _ refl refl old.published refl refl)

    -- the place that a step meets is one of the table's
    module _ (rs : List Request) (x : Spot × Access) (fit : Fits (sizes_for m l rs) x.0) where
      met : (place at : ℕ) (access : Access) → (spots.Cell place, access) ≡ x → at ≡ place → at < cell_count m l
      met place at access is same = subst (λ n. n < cell_count m l) (sym same) (subst (λ (y : Spot × Access). Fits (sizes_for m l rs) y.0) (sym is) fit)

      reads : (p' : PartState) (place : ℕ) → place < cell_count m l → p'.descriptors ≡ p.descriptors → p'.published ≡ p.published
          → p'.reads ≡ cell_read p.reads place found → PartFits m l p'
      reads p' place low descriptors published read = read_fits place found low p' (ap (λ (y : DescriptorsState). y.free) descriptors)
          (ap (λ (y : DescriptorsState). y.limbo) descriptors) (λ y e. old.published y (sym published ∙ e))
          (ap (λ (y : ReadsState). y.cells) read) (ap (λ (y : ReadsState). y.walk) read)

      line_fits : (kind : EventKind) (micro : Micro) → line_ask m l kind p.nodes.free p.blocks.free q micro ≡ Some x → PartFits m l (line_after m l kind p q micro found)
      line_fits kinds.Commit micro e = by_fields _ refl refl refl refl refl
      line_fits (kinds.LoadCell None) micro e = let h = asked.load_cell_asked q x micro e in
          reads _ (inside.place_of micro) (met h.place _ h.access h.is (ap inside.place_of h.step.1)) refl refl refl
      line_fits kinds.ExchangeCell micro e = let h = asked.exchange_cell_asked q x l micro e in
          reads _ (inside.place_of micro) (met h.place _ h.access h.is (ap inside.place_of h.step.2)) refl refl refl
      line_fits (kinds.PrivateLoad slot word) micro e = fill_fits slot q.made
      line_fits (kinds.PrivateStore slot word number) micro e = by_fields _ refl refl refl refl refl
      line_fits (kinds.LinkCommit b) micro e = by_fields _ refl refl refl refl refl
      line_fits kinds.MakeCommit micro e = make_fits q.made
      line_fits kinds.RetireCommit micro e = by_fields _ refl refl refl refl refl
      line_fits kinds.EpochForRetire micro e = by_fields _ refl refl refl refl refl
      line_fits kinds.SetDone micro e = by_fields _ refl refl refl refl refl
      line_fits kinds.Release micro e = let h = asked.release_asked q x l micro e in
          release_fits (inside.place_of micro) (met h.place _ h.access h.is (ap inside.place_of h.step.1))
      line_fits kinds.ClockLoad micro e = by_fields _ refl refl refl refl refl
      line_fits kinds.StampExchange micro e = if_fits (nat_lt q.word last_clock) _ _ (by_fields _ refl refl refl refl refl) unchanged
      line_fits kinds.ClockRaise micro e = by_fields _ refl refl refl refl refl
      line_fits kinds.ReplyExchange micro e = by_fields _ refl refl refl refl refl
      line_fits kinds.NestedLoad micro e = let h = asked.nested_load_asked q x micro e in
          reads _ (inside.place_of micro) (met h.place _ h.access h.is (ap inside.place_of h.step.1)) refl refl refl
      line_fits kinds.NestedHold micro e = let h = asked.nested_hold_asked q x l micro e in
          reads _ (inside.place_of micro) (met h.place _ h.access h.is (ap inside.place_of h.step.1)) refl refl refl
      line_fits kinds.OutcomeLoad micro e = let h = asked.outcome_load_asked q x micro e in
          reads _ (inside.place_of micro) (met h.place _ h.access h.is (ap inside.place_of h.step.1)) refl refl refl
      line_fits kinds.OutcomeCommit micro e = by_fields _ refl refl refl refl refl
      line_fits (kinds.LoadCell (Some place)) micro e = some_none x e
      line_fits _ micro e = unchanged

      pub inside_fits : (r : ℕ) (kind : EventKind) → ask_by m l rs r kind p (Some q) ≡ Some x → PartFits m l (inside_after m l kind p q found)
      inside_fits r kind e = by (is_open_run q) e
        where
          by : (b : Bool) → (if b then line_ask m l kind p.nodes.free p.blocks.free q (next_of m q) else opening_ask kind q) ≡ Some x
              → PartFits m l (if b then line_after m l kind p q (next_of m q) found else inside.opened_more p q found)
          by true e = line_fits kind (next_of m q) e
          by false e = by_fields _ refl refl refl refl refl

  -- the end of a sweep moves descriptors from limbo to the free list
  sweep_fits : (last : Bool) (words : List ℕ) (guards : GuardsState)
      → PartFits m l (record p { descriptors = (if last then descriptors_swept words p.descriptors else p.descriptors); guards = guards })
  sweep_fits true words guards = record {
    free = λ d h. ⊎_elim (old.free d) (λ new. old.limbo d (filtered_has (is_unnamed words) p.descriptors.limbo d new)) (either_has p.descriptors.free _ d h);
    limbo = λ d h. old.limbo d (filtered_has (λ x. not (is_unnamed words x)) p.descriptors.limbo d h);
    published = old.published;
    read = old.read;
    walked = old.walked;
  }
  sweep_fits false words guards = by_fields _ refl refl refl refl refl

  module _ (found : ℕ) where
    scan_fits : (stage : Stage) → PartFits m l (outside.scan_one_after l p stage found)
    scan_fits (stages.Scanning x next clear) = if_fits (nat_le next l.runners) _ _
        (if_fits (next == l.runners && not ((clear && is_clear x found) && nat_lt x last_epoch)) _ _ (by_fields _ refl refl refl refl refl)
        (by_fields _ refl refl refl refl refl)) unchanged
    scan_fits _ = unchanged

    advance_fits : (stage : Stage) → PartFits m l (outside.advance_after p stage)
    advance_fits (stages.Scanning x next clear) = if_fits (nat_lt x last_epoch) _ _ (by_fields _ refl refl refl refl refl) unchanged
    advance_fits _ = unchanged

    hold_fits : (t : Thunk) (d : ℕ) → t.lock < cell_count m l → d < descriptor_count l → PartFits m l (outside.hold_after t d p found)
    hold_fits t d low few = if_fits (found == t.word) _ _
        (record {
          free = λ n h. old.free n (without_has p.descriptors.free d n h).0;
          limbo = old.limbo;
          published = λ x e. subst (λ (y : Published). y.descriptor < descriptor_count l) (some_same _ x e) few;
          read = λ a word h. ⊎_elim (old.read a word) (λ here. subst (λ n. n < cell_count m l) (sym here) low) (pair_more p.reads.cells t.lock found a word h);
          walked = old.walked;
        })
        (read_fits t.lock found low _ refl refl old.published refl refl)

    walk_fits : (place : ℕ) → place < cell_count m l → PartFits m l (outside.read_after m place p found)
    walk_fits place low = record {
      free = old.free;
      limbo = old.limbo;
      published = old.published;
      read = λ a word h. ⊎_elim (old.read a word) (λ here. subst (λ n. n < cell_count m l) (sym here) low) (pair_more p.reads.cells place found a word h);
      walked = λ a word h. ⊎_elim (old.walked a word) (λ here. subst (λ n. n < cell_count m l) (sym here) low) (pair_more p.reads.walk place found a word h);
    }

    enter_fits : PartFits m l (outside.entered p found)
    enter_fits = record {
      free = old.free;
      limbo = old.limbo;
      published = old.published;
      read = λ a word h. absurd (let z = h in cc);
      walked = λ a word h. absurd (let z = h in cc);
    }

    pub outside_fits : (rs : List Request) (r : ℕ) (kind : EventKind) (x : Spot × Access) → Fits (sizes_for m l rs) x.0
        → outside_ask m l rs r kind p ≡ Some x → PartFits m l (outside_after m l kind p found)
    outside_fits rs r kinds.EnterLoad x fit e = by_fields _ refl refl refl refl refl
    outside_fits rs r kinds.Announce x fit e = by_fields _ refl refl refl refl refl
    outside_fits rs r kinds.EnterAgain x fit e = enter_fits
    outside_fits rs r kinds.Idle x fit e = by_fields _ refl refl refl refl refl
    outside_fits rs r kinds.ScanEpoch x fit e = by_fields _ refl refl refl refl refl
    outside_fits rs r (kinds.ScanOne n) x fit e = scan_fits p.stage
    outside_fits rs r kinds.Advance x fit e = advance_fits p.stage
    outside_fits rs r kinds.Split x fit e = if_fits (nat_lt p.records.splits l.runners) _ _ (by_fields _ refl refl refl refl refl) unchanged
    outside_fits rs r (kinds.Join worker) x fit e = by_fields _ refl refl refl refl refl
    outside_fits rs r (kinds.LoadCell (Some place)) x fit e = let h = outside_asked.read_asked m place p x e in
        walk_fits place (subst (λ (y : Spot × Access). Fits (sizes_for m l rs) y.0) (sym h.2) fit)
    outside_fits rs r (kinds.LoadEntry request reply) x fit e = by_fields _ refl refl refl refl refl
    outside_fits rs r (kinds.PrivateLoad slot word) x fit e = if_fits (nat_lt slot (slot_count l m.fixed_slots)) _ _ (by_fields _ refl refl refl refl refl)
        (by_fields _ refl refl refl refl refl)
    outside_fits rs r (kinds.PrivateStore slot word number) x fit e = by_fields _ refl refl refl refl refl
    outside_fits rs r (kinds.Hold t d) x fit e = let h = outside_asked.hold_asked m l rs r t d p x e in
        hold_fits t d (subst (λ (y : Spot × Access). Fits (sizes_for m l rs) y.0) (sym h.is) fit) h.few
    outside_fits rs r (kinds.LoadThunk (Some d)) x fit e = by_fields _ refl refl refl refl refl
    outside_fits rs r (kinds.LoadGuard n) x fit e = sweep_fits (is_last_guard l p.guards.looked) _ _
    outside_fits rs r _ x fit e = by_fields _ refl refl refl refl refl
