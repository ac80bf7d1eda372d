-- The last release of a run: the run is over, and the own section with it.
use Rattle.std.specs.Prelude.{◌==◌, ◌||◌, cond, Bool, true, false, if◌then◌else◌}
use Rattle.std.proofs.Common.{◌≡◌, ℕ, ◌<◌, List, [], ◌∷◌, ◌++◌, refl, sym, ap, ◌∙◌, subst, arith, ⊎_elim, Option, Some, None}
use Rattle.std.proofs.lemmas.Bool.Decides.{nat_tests}
use Rattle.std.proofs.lemmas.Bool.{and_parts}
use Rattle.std.proofs.lemmas.Option.{none-some}
use Rattle.machine_states.specs.epoch_core.specs.small_lemmas.proofs.Numbers.{tested_equal as same_number}
use Rattle.machine_states.specs.body_terms.specs.Line.{is_end}
use Rattle.machine_states.specs.table_words.specs.declared.layout.Layout.{Layout}
use Rattle.machine_states.specs.table_words.specs.declared.spot.Spot.{Spot}
use Rattle.machine_states.specs.table_words.specs.declared.spot.Spot.TheVariants.{Guard}
use Rattle.machine_states.specs.table_words.specs.Places.{descriptor_count}
use Rattle.agreement_core.specs.State.{AgreementState}
use Rattle.agreement_core.specs.Events as agreement
use Rattle.machine_states.specs.structure_laws.specs.Meaning.{Meaning}
use Rattle.machine_states.specs.runner_parts.specs.declared.event.EventKind.TheVariants as kinds
use Rattle.machine_states.specs.runner_parts.specs.declared.entries.Published.{Published}
use Rattle.machine_states.specs.runner_parts.specs.declared.entries.BoardRead.{BoardRead}
use Rattle.machine_states.specs.runner_parts.specs.Lists.{cell_read, blocks_retired}
use Rattle.machine_states.specs.runner_parts.specs.State.{RunState, BlocksState, DescriptorsState, PartState, RecordsState}
use Rattle.machine_states.specs.runner_parts.specs.Tests.{has}
use Rattle.machine_states.specs.runner_steps.specs.AfterInRun.{ended_more, kept_unless, retired_if, with_run, run_over, place_of as cell_of}
use Rattle.machine_states.specs.runner_steps.specs.Sections.{next_of}
use Rattle.machine_states.specs.epoch_core.specs.declared.location.Location.TheVariants as epoch_places
use Rattle.machine_states.specs.epoch_core.specs.State.{EpochState}
use Rattle.machine_states.specs.epoch_core.specs.Events as epochs
use Rattle.machine_states.specs.epoch_core.specs.Events.{slot_of}
use Rattle.machine_states.specs.guard_core.specs.State as guards
use Rattle.machine_states.specs.guard_core.specs.State.{GuardState}
use Rattle.machine_states.specs.guard_core.specs.Events as events
use Rattle.machine_states.specs.guard_core.specs.Events.{Event}
use Rattle.machine_states.specs.guard_core.specs.Moves.{retired}
use Rattle.machine_states.specs.guard_core.specs.Update as guard_update
use Rattle.machine_states.specs.Sight.{Sight}
use Rattle.machine_agreement.specs.machine_epochs.specs.Chunks as slots
use Rattle.machine_agreement.specs.machine_epochs.specs.Entries.{counts_of}
use Rattle.machine_agreement.specs.machine_epochs.specs.Firsts.{owner_of}
use Rattle.machine_agreement.specs.machine_epochs.specs.Joined.{IsJoinedToEpochs}
use Rattle.machine_agreement.specs.machine_epochs.proofs.OutsideAsked as asked
use Rattle.machine_agreement.specs.Joined.{ShowsRun, IsJoinedToAgreement}
use Rattle.machine_agreement.specs.Chunks as sections
use Rattle.machine_guards.specs.State.{place_of, run_of, won_of, hand_of, guards_of}
use Rattle.machine_guards.specs.Stands.{GuardsStand}
use Rattle.machine_guards.specs.Supplied.{GuardsAreSupplied}
use Rattle.machine_guards.specs.Goes.{OthersGo}
use Rattle.machine_guards.proofs.Blocks.{retired_own}
use Rattle.machine_guards.proofs.Places.{AllAre, leaves_over}
use Rattle.machine_guards.proofs.GuardSteps.{place_live}
use Rattle.machine_guards.proofs.Others as others
use Rattle.machine_guards.proofs.Steps as steps
use Rattle.machine_guards.proofs.Views.{ran}

-- what isn't live stays where it is
retired_else : (r d : ℕ) (x : guards.Location) → (x ≡ guards.Live r → ⊥) → x ≡ retired r d x
retired_else r d (guards.Free q) other = refl
retired_else r d (guards.Limbo q y) other = refl
retired_else r d (guards.Live q) other = by (q == r) refl
  where
    by : (b : Bool) → (q == r) ≡ b → guards.Live q ≡ cond b (guards.Limbo r d) (guards.Live q)
    by true same = absurd (other (ap guards.Live (same_number q r same)))
    by false e = refl

kept_published : (o : Option Published) (d : ℕ) (y : Published) → kept_unless o d ≡ Some y → o ≡ Some y
kept_published None d y e = e
kept_published (Some x) d y e = by (x.descriptor == d) e
  where
    by : (b : Bool) → (if b then None else Some x) ≡ Some y → Some x ≡ Some y
    by true e = absurd (none-some _ e)
    by false e = e

-- what a limbo has behind a retirement
has_first : (b b' : Bool) → b ≡ true → (b || b') ≡ true
has_first true b' is = refl
has_first false b' is = absurd (let y = is in cc)

has_later : (b b' : Bool) → b' ≡ true → (b || b') ≡ true
has_later true b' is = refl
has_later false b' is = is

last_has : (xs : List ℕ) (d i n : ℕ) → ((j : ℕ) → has xs j ≡ true → j < n) → d < n → has (xs ++ d ∷ []) i ≡ true → i < n
last_has [] d i n rest few e = subst (λ k. k < n) (same_number d i (one (d == i) e)) few
  where
    one : (b : Bool) → (b || false) ≡ true → b ≡ true
    one true e = refl
    one false e = e
last_has (z ∷ xs) d i n rest few e = by (z == i) refl (last_has xs d i n (λ j at. rest j (has_later (z == j) (has xs j) at)) few) e
  where
    by : (b : Bool) → (z == i) ≡ b → (has (xs ++ d ∷ []) i ≡ true → i < n) → (b || has (xs ++ d ∷ []) i) ≡ true → i < n
    by true is later e1 = rest i (has_first (z == i) (has xs i) is)
    by false is later e1 = later e1

retired_has : (ds : DescriptorsState) (o : Option Published) (d i n : ℕ) → ((j : ℕ) → has ds.limbo j ≡ true → j < n) → d < n
    → has (retired_if ds o d).limbo i ≡ true → i < n
retired_has ds None d i n all few e = all i e
retired_has ds (Some x) d i n all few e = by (x.descriptor == d) e
  where
    by : (b : Bool) → has (if b then record ds { limbo = ds.limbo ++ d ∷ [] } else ds).limbo i ≡ true → i < n
    by true e0 = last_has ds.limbo d i n all few e0
    by false e0 = all i e0

module _ (m : Meaning) (l : Layout) (chain : ℕ → List ℕ) (a a' : AgreementState) (e e' : EpochState) (s : Sight) (old : GuardsStand m l chain a e s)
    (of_sections : IsJoinedToAgreement m l a s) (joined : IsJoinedToEpochs m l e s) (r : ℕ) (q : RunState) (at : (s.part r).run ≡ Some q) (no_hand : q.block ≡ None)
    (board : List BoardRead) (records : PartState → RecordsState) (f : Spot → ℕ) (left : (i : ℕ) → f (Guard i) ≡ s.word (Guard i)) (found : ℕ)
    (supplied : GuardsAreSupplied m l chain a e s r kinds.Release found) (go : OthersGo m l a a' e e' s r kinds.Release found)
    (in_sections : sections.IsLineChunk m l a r kinds.Release (s.part r) q found go.heads)
    (in_slots : slots.IsLineChunk m l r kinds.Release (s.part r) q (next_of m q) found go.tails) where
  abbrev p : PartState
  p = s.part r

  abbrev w : GuardState
  w = guards_of m l chain a e s

  abbrev d : ℕ
  d = q.descriptor

  abbrev To : List Event → BlocksState → PartState → Type 0
  To es blocks p' = steps.To m l chain chain a a' e e' s old r f (record p' { blocks = blocks; board = board; records = records p' }) es

  empty : hand_of p.run ≡ None
  empty = ap hand_of at ∙ no_hand

  -- the descriptor that a run has is the guarded one, and is one of the table's
  few : d < descriptor_count l
  few = (joined.tied r).numbered d (asked.named_is p.guards.named d (and_parts p.guards.sure _ ((joined.tied r).run_sure q at)).1)

  -- a live descriptor of a runner is the one that it has published
  own_live : w.descriptor d ≡ guards.Live r → (y : Published) × (p.published ≡ Some y) × (y.descriptor ≡ d)
  own_live is =
      let live = place_live l d r _ is in
      let by = supplied.published d live.0 in
      let own : by.0 ≡ r = sym (old.publisher by.0 by.1 by.2) ∙ (ap (owner_of l.sections l.runners) by.3 ∙ live.1) in
      (by.1, subst (λ i. (s.part i).published ≡ Some by.1) own by.2, by.3)

  -- the part at the last release, and behind another one
  abbrev read : PartState
  read = record p { reads = cell_read p.reads (cell_of (next_of m q)) found }

  abbrev behind : Bool → PartState
  behind b = if b then run_over m l read (ended_more q) else with_run read (ended_more q)

  abbrev blocks_behind : Bool → BlocksState
  blocks_behind b = if b then blocks_retired p.blocks q.won d else p.blocks

  abbrev tails_of : Bool → List epochs.Event
  tails_of b = if b then slots.retires_own r p.published d else []

  -- where the descriptors are behind it
  abbrev moved_to : Type 0
  moved_to = (i : ℕ) → place_of l i (e'.location (slot_of (counts_of m l) i)) ≡ guard_update.upd w.descriptor d (retired r d (w.descriptor d)) i

  moved_none : go.tails ≡ [] → (w.descriptor d ≡ guards.Live r → ⊥) → moved_to
  moved_none tails other i = ap (place_of l i) (others.place_kept m l e e' s joined go.tails go.enabled go.there tails i) ∙ by (i == d) refl
    where
      by : (b : Bool) → (i == d) ≡ b → w.descriptor i ≡ cond b (retired r d (w.descriptor d)) (w.descriptor i)
      by true same = ap w.descriptor (same_number i d same) ∙ retired_else r d (w.descriptor d) other
      by false e0 = refl

  moved_own : go.tails ≡ epochs.RetireDescriptor r d ∷ [] → w.descriptor d ≡ guards.Live r → moved_to
  moved_own tails is i = ap (place_of l i) (others.place_retired m l e e' s joined go.tails go.enabled go.there r d tails i) ∙ by (i == d) refl
    where
      by : (b : Bool) → (i == d) ≡ b → place_of l i (cond b (epoch_places.Limbo r e.epoch) (e.location (slot_of (counts_of m l) i))) ≡ cond b (retired r d (w.descriptor d)) (w.descriptor i)
      by true same = ap (guards.Limbo r) (same_number i d same) ∙ (sym (retired_own r d) ∙ sym (ap (retired r d) is))
      by false e0 = refl

  moved : (o : Option Published) → p.published ≡ o → go.tails ≡ slots.retires_own r o d → moved_to
  moved None none tails = moved_none tails (λ is. none-some _ (sym none ∙ (own_live is).1))
  moved (Some x) is tails = by (x.descriptor == d) refl tails
    where
      same_some : (y : Published) → Some x ≡ Some y → y ≡ x
      same_some y e0 = cc

      differs : (n k : ℕ) → (n == k) ≡ false → n ≡ k → ⊥
      differs n k e0 e1 = grind (arith, nat_tests)

      live : x.descriptor ≡ d → w.descriptor d ≡ guards.Live r
      live same =
          ap w.descriptor (sym same) ∙ (ap (place_of l x.descriptor) ((joined.tied r).published x is)
          ∙ ap guards.Live (old.publisher r x is))

      by : (b : Bool) → (x.descriptor == d) ≡ b → go.tails ≡ (if b then epochs.RetireDescriptor r d ∷ [] else []) → moved_to
      by true same tails = moved_own tails (live (same_number x.descriptor d same))
      by false other tails = moved_none tails (λ at_live. let y = own_live at_live in
          differs x.descriptor d other (ap (λ (z : Published). z.descriptor) (sym (same_some y.0 (sym is ∙ y.1))) ∙ y.2))

  -- the run goes on to the next release
  more : go.heads ≡ agreement.Read (in_sections.0) ∷ agreement.Release r (in_sections.0) (in_sections.1) ∷ [] → go.tails ≡ [] → To [] (blocks_behind false) (behind false)
  more heads tails = steps.quiet m l chain chain a a' e e' s old r f _ left (λ i. refl)
      (others.over_same m l a a' r go.heads go.leads (subst (AllAre leaves_over) (sym heads) (refl, (refl, tt))))
      (others.place_kept m l e e' s joined go.tails go.enabled go.there tails) refl empty (ran m l p q at found)

  -- or is over
  over : go.heads ≡ agreement.Read (in_sections.0) ∷ agreement.Release r (in_sections.0) (in_sections.1) ∷ agreement.Finish r ∷ sections.retires_own p.published d
      → go.tails ≡ slots.retires_own r p.published d → To (events.Finish r d ∷ []) (blocks_behind true) (behind true)
  over heads tails = steps.finish m l chain chain a a' e e' s old r f _ left d (ap (λ o. blocks_retired p.blocks (won_of o) d) (sym at)) empty (λ i. refl) (ap run_of at)
      (others.over_finished m l a a' r go.heads go.leads (in_sections.0) (in_sections.1) p.published d (run_descriptor p.run at ((of_sections.tied r).run)) heads)
      (moved p.published refl tails)
      (λ y is. kept_published p.published d y is)
      (λ i is. retired_has p.descriptors p.published d i (descriptor_count l) (old.within r) few is)
      refl refl refl
    where
      run_descriptor : (o : Option RunState) → o ≡ Some q → ShowsRun (a.run r) o → (a.run r).descriptor ≡ d
      run_descriptor None none shows = absurd (none-some _ none)
      run_descriptor (Some k) is shows = shows.descriptor ∙ ap (λ (z : RunState). z.descriptor) (same_run k is)
        where
          same_run : (k : RunState) → Some k ≡ Some q → k ≡ q
          same_run k e0 = cc

  pub release : To (if is_end (next_of m (ended_more q)) then events.Finish r d ∷ [] else []) (blocks_behind (is_end (next_of m (ended_more q)))) (behind (is_end (next_of m (ended_more q))))
  release = ⊎_elim
      (λ h. subst (λ b. To (if b then events.Finish r d ∷ [] else []) (blocks_behind b) (behind b)) (sym h.0) (more h.1 (in_slots ∙ ap tails_of h.0)))
      (λ h. subst (λ b. To (if b then events.Finish r d ∷ [] else []) (blocks_behind b) (behind b)) (sym h.0) (over h.1 (in_slots ∙ ap tails_of h.0)))
      in_sections.3
