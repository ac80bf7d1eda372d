-- What the component of epochs and slots says holds of the machine's lists.
use Rattle.std.proofs.Common.{◌≡◌, ℕ, ◌+◌, ◌<◌, ◌≤◌, Bool, true, false, cond, List, [], ◌∷◌, map, refl, sym, ap, ◌∙◌, subst, ⊎_elim, arith, Some}
use Rattle.std.specs.Prelude.{◌==◌, ◌&&◌}
use Rattle.std.proofs.lemmas.Bool.{cases_lt}
use Rattle.std.proofs.lemmas.Bool.Decides.{nat_tests}
use mathlib.Core.Logic.{dite}
use native.Mathlib.Decide.{ℕ_discrete}
use Rattle.machine_states.specs.epoch_core.specs.small_lemmas.proofs.Numbers.{one_at_most as one_or_none}
use Rattle.machine_states.specs.body_terms.specs.declared.micro.Micro.TheVariants.{RetireCommit}
use Rattle.machine_states.specs.table_words.specs.declared.layout.Layout.{Layout}
use Rattle.machine_states.specs.structure_laws.specs.Meaning.{Meaning}
use Rattle.machine_states.specs.epoch_core.specs.declared.stage.Stage as machine
use Rattle.machine_states.specs.epoch_core.specs.declared.stage.Stage.TheVariants as stages
use Rattle.machine_states.specs.runner_parts.specs.declared.entries.Retired.{Retired}
use Rattle.machine_states.specs.epoch_core.specs.declared.location.Location.{Location}
use Rattle.machine_states.specs.epoch_core.specs.declared.location.Location.TheVariants.{Fixed, Live, Hand, Free, Worn, Limbo, OnBoard}
use Rattle.machine_states.specs.epoch_core.specs.State.{EpochState, IsKept, IsPending, Retiring, is_entered, entry_of}
use Rattle.machine_states.specs.epoch_core.specs.Lists.{times_retired, in_hand, in_free, in_worn, in_limbo}
use Rattle.machine_states.specs.epoch_core.specs.History.{History, IsExact, is_makes, is_retires, agreed_slot, agreed_count}
use Rattle.machine_states.specs.epoch_core.specs.Sound.{is_for_nodes}
use Rattle.machine_states.specs.Sight.{Sight}
use Rattle.machine_blocks.specs.machine_guards.specs.machine_agreement.specs.machine_epochs.specs.Entries.{counts_of}
use Rattle.machine_blocks.specs.machine_guards.specs.machine_agreement.specs.machine_epochs.specs.Slots.{retiring_of, retire_before}
use Rattle.machine_blocks.specs.machine_guards.specs.machine_agreement.specs.machine_epochs.specs.Slots as shows
use Rattle.machine_blocks.specs.machine_guards.specs.machine_agreement.specs.machine_epochs.specs.Descriptors.{times_limbo}
use Rattle.machine_blocks.specs.machine_guards.specs.machine_agreement.specs.machine_epochs.specs.Joined.{IsJoinedToEpochs}
use Rattle.machine_invariant.specs.Slots.{times_among, IsRetiring, NodesStand, DescriptorsStand, HeldStand, InUseAreKept, RetiresStand}
use Rattle.machine_invariant.specs.Slots.{CommitsAreWonOnce, SlotsAreSound}
use Rattle.machine_invariant.proofs.Basics.{both}
use Rattle.machine_invariant.proofs.Asked.{entered_at}
use Rattle.machine_states.specs.runner_parts.specs.State.{GuardsState}
use Rattle.machine_states.specs.runner_steps.specs.Outside.{is_sure_of}
use Rattle.machine_blocks.specs.machine_guards.specs.machine_agreement.specs.machine_epochs.proofs.OutsideAsked.{named_is}

-- a slot that isn't in limbo at all, and one that is there once
limbo_none : (t : ℕ) (xs : List Retired) → ((y : ℕ) → times_retired t y (map shows.entry_of xs) ≡ 0) → times_limbo t xs ≡ 0
limbo_none t [] none = refl
limbo_none t (x ∷ xs) none =
    let here = none x.epoch in
    let rest = limbo_none t xs (λ y. let h = none y in grind arith) in grind arith

limbo_one : (t y0 : ℕ) (xs : List Retired) → ((y : ℕ) → times_retired t y (map shows.entry_of xs) ≡ cond (y0 == y) 1 0)
    → times_limbo t xs ≡ 1
limbo_one t y0 [] one = let here = one y0 in grind arith
limbo_one t y0 (x ∷ xs) one =
    dite (ℕ_discrete x.slot t)
    (λ same. let here = one x.epoch in
    let rest = limbo_none t xs (λ y. let h = one y in grind arith) in grind arith)
    (λ other. let rest = limbo_one t y0 xs (λ y. let h = one y in grind arith) in grind arith)

limbo_by : (b : Bool) (t y0 : ℕ) (xs : List Retired) → ((y : ℕ) → times_retired t y (map shows.entry_of xs) ≡ cond (b && (y0 == y)) 1 0)
    → times_limbo t xs ≡ cond b 1 0
limbo_by true t y0 xs one = limbo_one t y0 xs one
limbo_by false t y0 xs none = limbo_none t xs none

-- 1 where the location names this runner, and otherwise 0
abbrev in_lists : ℕ → Location → ℕ
in_lists r Fixed = 0
in_lists r Live = 0
in_lists r (Hand r') = cond (r' == r) 1 0
in_lists r (Free r') = cond (r' == r) 1 0
in_lists r (Worn r') = cond (r' == r) 1 0
in_lists r (OnBoard i) = 0
in_lists r (Limbo r' y) = cond (r' == r) 1 0

-- how often a slot at this location stands in the runner's lists
sum_is : (x : Location) (r t a b n : ℕ) (xs : List Retired) → a ≡ in_hand r x → b ≡ in_free r x → n ≡ in_worn r x
    → ((y : ℕ) → times_retired t y (map shows.entry_of xs) ≡ in_limbo r y x) → a + (b + (n + times_limbo t xs)) ≡ in_lists r x
sum_is Fixed r t a b n xs hand free worn limbo = let none = limbo_none t xs limbo in omega arith
sum_is Live r t a b n xs hand free worn limbo = let none = limbo_none t xs limbo in omega arith
sum_is (Hand r') r t a b n xs hand free worn limbo = let none = limbo_none t xs limbo in omega arith
sum_is (Free r') r t a b n xs hand free worn limbo = let none = limbo_none t xs limbo in omega arith
sum_is (Worn r') r t a b n xs hand free worn limbo = let none = limbo_none t xs limbo in omega arith
sum_is (OnBoard i) r t a b n xs hand free worn limbo = let none = limbo_none t xs limbo in omega arith
sum_is (Limbo r' y) r t a b n xs hand free worn limbo = let one = limbo_by (r' == r) t y xs limbo in omega arith

in_lists_once : (x : Location) (r : ℕ) → in_lists r x ≤ 1
in_lists_once Fixed r = omega arith
in_lists_once Live r = omega arith
in_lists_once (Hand r') r = one_or_none _
in_lists_once (Free r') r = one_or_none _
in_lists_once (Worn r') r = one_or_none _
in_lists_once (OnBoard i) r = omega arith
in_lists_once (Limbo r' y) r = one_or_none _

both_are : (a r r' : ℕ) → 1 ≤ cond (a == r) 1 0 → 1 ≤ cond (a == r') 1 0 → r ≡ r'
both_are a r r' h h' = grind (arith, nat_tests)

in_lists_apart : (x : Location) (r r' : ℕ) → 1 ≤ in_lists r x → 1 ≤ in_lists r' x → r ≡ r'
in_lists_apart Fixed r r' h h' = absurd (omega arith)
in_lists_apart Live r r' h h' = absurd (omega arith)
in_lists_apart (Hand a) r r' h h' = both_are a r r' h h'
in_lists_apart (Free a) r r' h h' = both_are a r r' h h'
in_lists_apart (Worn a) r r' h h' = both_are a r r' h h'
in_lists_apart (OnBoard i) r r' h h' = absurd (omega arith)
in_lists_apart (Limbo a y) r r' h h' = both_are a r r' h h'

-- a slot that may be held is in no list but limbo
kept_unfree : (x : Location) (g r : ℕ) → IsKept x g → in_free r x ≡ 0
kept_unfree Fixed g r h = refl
kept_unfree Live g r h = refl
kept_unfree (Limbo r' y) g r h = refl
kept_unfree (Hand r') g r h = absurd h
kept_unfree (Free r') g r h = absurd h
kept_unfree (Worn r') g r h = absurd h
kept_unfree (OnBoard i) g r h = absurd h

kept_unworn : (x : Location) (g r : ℕ) → IsKept x g → in_worn r x ≡ 0
kept_unworn Fixed g r h = refl
kept_unworn Live g r h = refl
kept_unworn (Limbo r' y) g r h = refl
kept_unworn (Hand r') g r h = absurd h
kept_unworn (Free r') g r h = absurd h
kept_unworn (Worn r') g r h = absurd h
kept_unworn (OnBoard i) g r h = absurd h

kept_unhanded : (x : Location) (g r : ℕ) → IsKept x g → in_hand r x ≡ 0
kept_unhanded Fixed g r h = refl
kept_unhanded Live g r h = refl
kept_unhanded (Limbo r' y) g r h = refl
kept_unhanded (Hand r') g r h = absurd h
kept_unhanded (Free r') g r h = absurd h
kept_unhanded (Worn r') g r h = absurd h
kept_unhanded (OnBoard i) g r h = absurd h

-- an entered runner's stage
entered_with : (x : machine.Stage) → is_entered x ≡ true → (g : ℕ) × (x ≡ stages.Entered g) × (entry_of x ≡ g)
entered_with stages.Idle h = absurd (cc)
entered_with (stages.Loaded e) h = absurd (cc)
entered_with stages.Announced h = absurd (cc)
entered_with (stages.Entered g) h = (g, refl, refl)
entered_with (stages.Scanning x n b) h = absurd (cc)

-- of what a runner is sure its guard word names
pub sure_named : (g : GuardsState) (d : ℕ) → is_sure_of g d ≡ true → g.named ≡ Some d
sure_named g d is = named_is g.named d (both g.sure _ is).1

module _ (m : Meaning) (l : Layout) (e : EpochState) (s : Sight) (joined : IsJoinedToEpochs m l e s) where
  -- how often a node slot stands in a runner's lists
  among : (r t : ℕ) → t < (counts_of m l).nodes → times_among (s.part r).nodes t ≡ in_lists r (e.location t)
  among r t lt = sum_is (e.location t) r t _ _ _ (s.part r).nodes.limbo (joined.listed.hand r t lt) (joined.listed.free r t lt)
      (joined.listed.worn r t lt) (λ y. joined.listed.limbo r t y lt)

  none_among : (r t : ℕ) → (counts_of m l).nodes ≤ t → times_among (s.part r).nodes t ≡ 0
  none_among r t le =
      let a = joined.listed.hand_nodes r t le in
      let b = joined.listed.free_nodes r t le in
      let n = joined.listed.worn_nodes r t le in
      let x = limbo_none t (s.part r).nodes.limbo (λ y. joined.listed.limbo_nodes r t y le) in omega arith

  is_node : (r t : ℕ) → 1 ≤ times_among (s.part r).nodes t → t < (counts_of m l).nodes
  is_node r t some = ⊎_elim (λ lt. lt) (λ le. absurd (let none = none_among r t le in omega arith)) (cases_lt t (counts_of m l).nodes)

  pub nodes_stand : NodesStand m l e.location s
  nodes_stand = record {
    hand = joined.listed.hand;
    free = joined.listed.free;
    worn = joined.listed.worn;
    limbo = joined.listed.limbo;
    once = λ r t. ⊎_elim (λ lt. subst (λ n. n ≤ 1) (sym (among r t lt)) (in_lists_once (e.location t) r))
        (λ le. let none = none_among r t le in omega arith) (cases_lt t (counts_of m l).nodes);
    apart = λ r r' t h h'. let lt = is_node r t h in
        in_lists_apart (e.location t) r r' (subst (λ n. 1 ≤ n) (among r t lt) h) (subst (λ n. 1 ≤ n) (among r' t lt) h');
    within = is_node;
    board = joined.board.word;
    on_board = joined.board.slot;
    made = λ r t q is made. (joined.tied r).run_made q t is made;
  }

  not_nodes : (d : ℕ) (b : Bool) → is_for_nodes (e.location ((counts_of m l).nodes + d)) ≡ b → b ≡ false
  not_nodes d false h = refl
  not_nodes d true h = absurd (let lt = joined.sound.for_nodes _ h in omega arith)

  descriptors_stand : DescriptorsStand m l e.location s
  descriptors_stand = record {
    free = joined.listed.free_descriptors;
    limbo = joined.listed.limbo_descriptors;
    other = λ d. not_nodes d _ refl;
    published = λ r x is. (joined.tied r).published x is;
    publisher = joined.published_once;
  }

  -- with which epoch a runner entered
  entry : (r g : ℕ) → (s.part r).stage ≡ stages.Entered g → entry_of (e.stage r) ≡ g
  entry r g at = ap entry_of (joined.entries.stage r ∙ at)

  held_stand : HeldStand m l e.location e.holds s
  held_stand = record {
    kept = λ r t h. let x = entered_with (s.part r).stage (ap is_entered (sym (joined.entries.stage r)) ∙ joined.sound.holder r t h) in
        (x.0, x.1, subst (IsKept (e.location t)) (ap entry_of (joined.entries.stage r) ∙ x.2) (joined.sound.held r t h));
    unfree = λ r r' t lt h. joined.listed.free r' t lt ∙ kept_unfree _ _ r' (joined.sound.held r t h);
    unworn = λ r r' t lt h. joined.listed.worn r' t lt ∙ kept_unworn _ _ r' (joined.sound.held r t h);
    unhanded = λ r r' t lt h. joined.listed.hand r' t lt ∙ kept_unhanded _ _ r' (joined.sound.held r t h);
    unfree_descriptor = λ r r' d lt h. joined.listed.free_descriptors r' d lt ∙ kept_unfree _ _ r' (joined.sound.held r _ h);
    reached = λ r g t at lt h. (joined.tied r).reached t (entered_at m l e s joined r g at) lt h;
    named = λ r d h. (joined.tied r).sure d h;
    alone = λ r d h. (joined.tied r).sure_alone d h;
    run = λ r q is. (joined.tied r).run_held q is;
  }

  in_use : InUseAreKept m l e.location e.holds s
  in_use = record {
    unfree = λ r r' g t at lt h. held_stand.unfree r r' t lt (held_stand.reached r g t at lt h);
    unworn = λ r r' g t at lt h. held_stand.unworn r r' t lt (held_stand.reached r g t at lt h);
    unhanded = λ r r' g t at lt h. held_stand.unhanded r r' t lt (held_stand.reached r g t at lt h);
    named = λ r r' d h. held_stand.unfree_descriptor r r' d ((joined.tied r).numbered d (sure_named (s.part r).guards d h)) (held_stand.named r d h);
    run = λ r r' q is lt. held_stand.unfree_descriptor r r' q.descriptor lt (held_stand.run r q is);
  }

  -- the Retire at which a runner is
  retire_is : (r d k t y : ℕ) → IsRetiring m e.log s r d k t y
      → e.retire r ≡ record { loaded = true; descriptor = d; index = k; slot = t; epoch = y }
  retire_is r d k t y x = (joined.tied r).retire ∙ ap (retiring_of m) x.runs ∙ ap (retire_before x.run) x.step
      ∙ subst (λ (a : ℕ). retire_before x.run (RetireCommit t k) ≡ record { loaded = true; descriptor = a; index = k; slot = t; epoch = y })
      x.of_section
      (subst (λ (b : ℕ). retire_before x.run (RetireCommit t k)
      ≡ record { loaded = true; descriptor = x.run.descriptor; index = k; slot = t; epoch = b }) x.loaded refl)

  pending : (r d k t y : ℕ) → IsRetiring m e.log s r d k t y → IsPending e r
  pending r d k t y x = let is = retire_is r d k t y x in (
    ap (λ (z : Retiring). z.loaded) is,
    ap (λ (z : Retiring). e.log z.descriptor z.index) is ∙ x.unagreed,
  )

  retires_stand : RetiresStand m l e.location e.holds s e.log
  retires_stand = record {
    node = λ r d k t y x. subst (λ (z : Retiring). z.slot < (counts_of m l).nodes) (retire_is r d k t y x)
        (joined.sound.retire_node r ((pending r d k t y x).0));
    live = λ r d k t y x. subst (λ (z : Retiring). e.location z.slot ≡ Live) (retire_is r d k t y x)
        (joined.sound.retire_live r (pending r d k t y x));
    recent = λ r d k t y x. subst (λ n. y ≤ n) joined.entries.epoch (subst (λ (z : Retiring). z.epoch ≤ e.epoch) (retire_is r d k t y x)
        (joined.sound.retire_most r ((pending r d k t y x).0)));
    holders = λ r d k t y r' g x at h. subst (λ n. n ≤ y) (entry r' g at)
        (subst (λ (z : Retiring). e.holds r' z.slot ≡ true → entry_of (e.stage r') ≤ z.epoch) (retire_is r d k t y x)
        (joined.sound.retire_holders r r' (pending r d k t y x)) h);
    once = λ r d k t y r' d' k' y' x x'. let is = retire_is r d k t y x in let is' = retire_is r' d' k' t y' x' in
        let same = joined.sound.retire_once r r' (pending r d k t y x) (pending r' d' k' t y' x')
        (ap (λ (z : Retiring). z.slot) is ∙ sym (ap (λ (z : Retiring). z.slot) is')) in (
          sym (ap (λ (z : Retiring). z.descriptor) is) ∙ same.0 ∙ ap (λ (z : Retiring). z.descriptor) is',
          sym (ap (λ (z : Retiring). z.index) is) ∙ same.1 ∙ ap (λ (z : Retiring). z.index) is',
        );
  }

  pub commits_won : (h : History) → IsExact (counts_of m l) e h → CommitsAreWonOnce m l e.location s e.log h
  commits_won h exact = record {
    named = exact.named;
    apart = exact.apart;
    made = λ d k used. exact.made d k used ∙ ap (λ x. cond (is_makes x) (agreed_slot (e.log d k)) []) (joined.roles d k used);
    retired = λ d k used. exact.retired d k used ∙ ap (λ x. cond (is_retires x) (agreed_count (e.log d k)) 0) (joined.roles d k used);
    made_once = exact.made_once;
    retired_once = exact.retired_once;
  }

  -- a state of the machine with which a state of epochs and slots is joined
  pub slots_sound : (h : History) → IsExact (counts_of m l) e h → SlotsAreSound m l e.location e.holds s e.log h
  slots_sound h exact = record {
    in_nodes = nodes_stand;
    in_descriptors = descriptors_stand;
    recent = λ t r y is. subst (λ n. y ≤ n) joined.entries.epoch (joined.sound.limbo_most t r y is);
    in_held = held_stand;
    in_use = in_use;
    in_retires = retires_stand;
    in_commits = commits_won h exact;
  }
