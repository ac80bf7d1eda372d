-- What a step owes to the table, and what its runner has from it, over plain values.
use Rattle.std.proofs.Common.{◌≡◌, ℕ, ◌<◌, [], Bool, false, sym, refl, ap, subst, ◌∙◌, arith}
use Rattle.std.proofs.lemmas.Bool.{true≢false}
use Rattle.atomic_table.specs.Table.{Me, Step, step, Allows}
use Rattle.atomic_table.specs.Seated.{TableId}
use Rattle.machine_states.specs.body_terms.specs.declared.thunk.Thunk.{Thunk}
use Rattle.machine_states.specs.table_words.specs.declared.layout.Layout.{Layout}
use Rattle.machine_states.specs.table_words.specs.declared.sizes.Sizes.{Sizes}
use Rattle.machine_states.specs.table_words.specs.declared.spot.Spot.{Spot}
use Rattle.machine_states.specs.table_words.specs.declared.spot.Spot.TheVariants as spots
use Rattle.machine_states.specs.table_words.specs.declared.access.Access.{Access}
use Rattle.machine_states.specs.table_words.specs.declared.access.Access.TheVariants.{Stores}
use Rattle.machine_states.specs.table_words.specs.Access.{written, wins}
use Rattle.machine_states.specs.table_words.specs.Places.{address, descriptor_at, Fits}
use Rattle.machine_states.specs.table_words.proofs.Seen.{within}
use Rattle.machine_states.specs.structure_laws.specs.Meaning.{Meaning}
use Rattle.machine_states.specs.runner_parts.specs.declared.event.EventKind.{EventKind}
use Rattle.machine_states.specs.runner_parts.specs.State.{PartState}
use Rattle.machine_states.specs.runner_steps.specs.Asks.{sizes_for}
use Rattle.machine_states.specs.runner_steps.specs.After.{after}
use Rattle.machine_states.proofs.Steps.{asked_fits}
use Rattle.version_words.specs.declared.view.View.{View}
use Rattle.version_words.specs.declared.rule.Setup.{Setup}
use Rattle.version_words.specs.Naming.{Naming, is_seat}
use Rattle.version_words.proofs.Shows.{blind_shown}
use Rattle.version_words.specs.Rule.{Holds, IsTold, Tells}
use Rattle.version_words.specs.RunnerState.{RunnerState}
use Rattle.version_words.specs.TableState.{TableState, IsOf, IsBuilt}
use Rattle.version_words.specs.Events.{IsNamed, IsBlind, Makes, Tries, Commits, Announced, step_at, address_of, start_of, seen_seat}
use Rattle.version_words.proofs.Ties.{steps, stores}

-- the seat word is the first
not_nought : (s : Sizes) (spot : Spot) → is_seat spot ≡ false → address s spot ≡ 0 → ⊥
not_nought s spots.Seat e h = true≢false e
not_nought s spots.Epoch e h = omega arith
not_nought s spots.Clock e h = omega arith
not_nought s (spots.Announcement r) e h = omega arith
not_nought s (spots.Guard r) e h = omega arith
not_nought s (spots.Stamp q) e h = omega arith
not_nought s (spots.Reply q) e h = omega arith
not_nought s (spots.Cell p) e h = omega arith
not_nought s (spots.ThunkWord d j) e h = omega arith
not_nought s (spots.DoneWord d) e h = omega arith
not_nought s (spots.LogWord d j) e h = omega arith
not_nought s (spots.LinkWord d) e h = omega arith
not_nought s (spots.BlockWord b j) e h = omega arith
not_nought s (spots.BlockLink b) e h = omega arith
not_nought s (spots.Board i) e h = omega arith

-- what contracts see of a table
abbrev pub seen_table : {T : Type 0} → TableId → Setup T → TableState T
seen_table table built = record { table = table; structure = built.structure; layout = built.layout; requests = built.requests.items }

module _ {T : Type 0} (mean : T → Meaning) (table : TableId) (key built : Setup T) (ok : IsBuilt (mean built.structure) table key built) (own_table : TableId) (me : Me Thunk (View T))
    (own : IsOf (seen_table table built) (seen_seat own_table me)) (naming : Naming) (made : Step Thunk) (x : Spot × Access) (named : IsNamed (mean built.structure) naming (seen_seat own_table me) made x) where
  abbrev kind : EventKind
  kind = naming (mean built.structure) me.0.layout me.0.requests me.0.part made

  -- the word is one of the table's
  pub has_word : Fits built.sizes x.0
  has_word = subst (λ (z : Sizes). Fits z x.0) (ap (sizes_for (mean built.structure) me.0.layout) own.requests ∙ (ap (λ (l : Layout). sizes_for (mean built.structure) l built.requests.items) own.layout ∙ sym ok.as_sized))
      (asked_fits (mean built.structure) me.0.layout me.0.requests [] [] (record { runner = me.0.number; kind = kind }) me.0.part x named.asked)

  inside : address built.sizes x.0 < table.words
  inside = subst (λ n. address built.sizes x.0 < n) (sym ok.words) (within built.sizes x.0 has_word)

  -- what a step asks that makes this event
  pub step_asks : (id at : ℕ) → at ≡ address built.sizes x.0 → ((n : ℕ) → at ≡ 0 → written x.1 n ≡ n)
      → (own_table ≡ table) × (at < table.words) × Allows (Holds (mean key.structure) key.structure key.layout key.requests.items) table.slots id me at (written x.1) (Tells mean naming made me)
  step_asks id at at_is blank = (
    own.table,
    subst (λ n. n < table.words) (sym at_is) inside,
    subst (λ (y : Setup T). Allows (Holds (mean y.structure) y.structure y.layout y.requests.items) table.slots id me at (written x.1) (Tells mean naming made me)) (sym ok.told)
        (subst (λ (a : ℕ). ((n : ℕ) → a ≡ 0 → written x.1 n ≡ n) → Allows (Holds (mean built.structure) built.structure built.layout built.requests.items) table.slots id me a (written x.1) (Tells mean naming made me)) (sym (at_is ∙ ap (λ (z : Sizes). address z x.0) ok.as_sized))
        (λ free. steps mean naming made built.structure me built.layout built.requests.items id table.slots x own.structure named.plain free named.asked) blank),
  )

  -- the same for a plain store
  pub store_asks : (id at n : ℕ) → at ≡ address built.sizes x.0 → ((z : ℕ) → at ≡ 0 → written x.1 z ≡ z) → x.1 ≡ Stores n
      → ((a b : ℕ) → after (mean built.structure) me.0.layout me.0.number kind x.0 x.1 me.0.part a ≡ after (mean built.structure) me.0.layout me.0.number kind x.0 x.1 me.0.part b)
      → (own_table ≡ table) × (at < table.words) × Allows (Holds (mean key.structure) key.structure key.layout key.requests.items) table.slots id me at (λ z. n) (λ z. Tells mean naming made me n)
  store_asks id at n at_is blank is blind = (
    own.table,
    subst (λ n. n < table.words) (sym at_is) inside,
    subst (λ (y : Setup T). Allows (Holds (mean y.structure) y.structure y.layout y.requests.items) table.slots id me at (λ z. n) (λ z. Tells mean naming made me n)) (sym ok.told)
        (subst (λ (a : ℕ). ((z : ℕ) → a ≡ 0 → written x.1 z ≡ z) → Allows (Holds (mean built.structure) built.structure built.layout built.requests.items) table.slots id me a (λ y. n) (λ y. Tells mean naming made me n)) (sym (at_is ∙ ap (λ (z : Sizes). address z x.0) ok.as_sized))
        (λ free. stores mean naming made built.structure me built.layout built.requests.items id table.slots x own.structure named.plain free named.asked n is blind) blank),
  )

  module _ (found : ℕ) (own_table' : TableId) (me' : Me Thunk (View T)) (same : own_table' ≡ own_table) (told : Tells mean naming made me found me') where
    told_here : IsTold (mean built.structure) kind x me found me'
    told_here = told built.structure x own.structure named.asked

    seen_is : seen_seat own_table' me' ≡ record (seen_seat own_table me) { part = after (mean built.structure) me.0.layout me.0.number kind x.0 x.1 me.0.part found }
    seen_is = λ i. seen_seat (same i) (told_here.view i)

    pub own_after : IsOf (seen_table table built) (seen_seat own_table' me')
    own_after = subst (λ (r : RunnerState T). IsOf (seen_table table built) r) (sym seen_is) (record { table = own.table; structure = own.structure; layout = own.layout; requests = own.requests; limits = own.limits; allowed = own.allowed })

    pub makes : Makes (mean built.structure) kind found (seen_seat own_table me) (seen_seat own_table' me')
    makes = record { met = x; asked = named.asked; made = seen_is; shown = told_here.shown }

    pub tries : (won : Bool) → won ≡ wins x.1 found → Tries (mean built.structure) kind won (seen_seat own_table me) (seen_seat own_table' me')
    tries won is = record { found = found; event = record { met = x; asked = named.asked; made = seen_is; shown = told_here.shown }; told = is }

    pub commits : (agreed : ℕ) (won : Bool) → agreed ≡ written x.1 found → won ≡ wins x.1 found → Commits (mean built.structure) kind agreed won (seen_seat own_table me) (seen_seat own_table' me')
    commits agreed won is first = record { found = found; event = record { met = x; asked = named.asked; made = seen_is; shown = told_here.shown }; told = is; first = first }

    -- whatever a plain store found
    pub makes_any : (n : ℕ) → x.1 ≡ Stores n → IsBlind (mean built.structure) kind x (seen_seat own_table me) → (z : ℕ) → Makes (mean built.structure) kind z (seen_seat own_table me) (seen_seat own_table' me')
    makes_any n is blind z = record {
      met = x;
      asked = named.asked;
      made = seen_is ∙ ap (λ (p : PartState). record (seen_seat own_table me) { part = p }) (blind.same found z);
      shown = blind_shown (mean built.structure) me'.0.layout me'.0.requests me'.0.number kind me.0.part me'.0.part x found told_here.shown n is z;
    }

    pub same_slots : me'.1 ≡ me.1
    same_slots = ap (λ (z : Me Thunk (View T)). z.1) told_here.view

-- where a descriptor's words begin, as the code and as contracts say it
module _ {T : Type 0} (mean : T → Meaning) (table : TableId) (key built : Setup T) (ok : IsBuilt (mean built.structure) table key built) (t : TableState T) (t_is : seen_table table built ≡ t) (d : ℕ) where
  pub start_seen : (at : ℕ) → at ≡ descriptor_at built.sizes d → at ≡ start_of (mean t.structure) t d
  start_seen at is = subst (λ (u : TableState T). at ≡ start_of (mean u.structure) u d) t_is (is ∙ ap (λ (z : Sizes). descriptor_at z d) ok.as_sized)

  pub start_built : (at : ℕ) → at ≡ start_of (mean t.structure) t d → at ≡ descriptor_at built.sizes d
  start_built at is = subst (λ (u : TableState T). at ≡ start_of (mean u.structure) u d) (sym t_is) is ∙ sym (ap (λ (z : Sizes). descriptor_at z d) ok.as_sized)

-- the same in terms of what contracts see of the table
module _ {T : Type 0} (mean : T → Meaning) (table : TableId) (key built : Setup T) (ok : IsBuilt (mean built.structure) table key built) (own_table : TableId) (me : Me Thunk (View T)) (naming : Naming)
    (spot : Spot) (access : Access) (first second : ℕ) (said : Announced) (t : TableState T) (t_is : seen_table table built ≡ t) (own : IsOf t (seen_seat own_table me))
    (named : IsNamed (mean t.structure) naming (seen_seat own_table me) (step_at (mean t.structure) t spot first second said) (spot, access)) where
  abbrev r : RunnerState T
  r = seen_seat own_table me

  own_here : IsOf (seen_table table built) r
  own_here = subst (λ (u : TableState T). IsOf u r) (sym t_is) own

  named_here : (at : ℕ) → at ≡ address built.sizes spot → IsNamed (mean built.structure) naming r (step table.slots at first second said) (spot, access)
  named_here at at_is = subst (λ (a : ℕ). IsNamed (mean built.structure) naming r (step table.slots a first second said) (spot, access)) (sym (at_is ∙ ap (λ (z : Sizes). address z spot) ok.as_sized))
      (subst (λ (u : TableState T). IsNamed (mean u.structure) naming r (step_at (mean u.structure) u spot first second said) (spot, access)) (sym t_is) named)

  -- where contracts say that the word stands, and where the code says it
  pub at_built : (at : ℕ) → at ≡ address_of (mean t.structure) t spot → at ≡ address built.sizes spot
  at_built at is = subst (λ (u : TableState T). at ≡ address_of (mean u.structure) u spot) (sym t_is) is ∙ sym (ap (λ (z : Sizes). address z spot) ok.as_sized)

  pub at_seen : (at : ℕ) → at ≡ address built.sizes spot → at ≡ address_of (mean t.structure) t spot
  at_seen at is = subst (λ (u : TableState T). at ≡ address_of (mean u.structure) u spot) t_is (is ∙ ap (λ (z : Sizes). address z spot) ok.as_sized)

  pub spot_fits : Fits built.sizes spot
  spot_fits = has_word mean table key built ok own_table me own_here naming _ (spot, access) (named_here (address built.sizes spot) refl)

  pub step_owes : (id at : ℕ) → at ≡ address built.sizes spot → ((n : ℕ) → at ≡ 0 → written access n ≡ n)
      → (own_table ≡ table) × (at < table.words) × Allows (Holds (mean key.structure) key.structure key.layout key.requests.items) table.slots id me at (written access) (Tells mean naming (step table.slots at first second said) me)
  step_owes id at at_is blank = step_asks mean table key built ok own_table me own_here naming (step table.slots at first second said) (spot, access) (named_here at at_is) id at at_is blank

  -- a plain store of this number
  pub store_owes : (id at n : ℕ) → at ≡ address built.sizes spot → is_seat spot ≡ false → access ≡ Stores n
      → IsBlind (mean t.structure) (naming (mean t.structure) me.0.layout me.0.requests me.0.part (step_at (mean t.structure) t spot first second said)) (spot, access) r
      → (own_table ≡ table) × (at < table.words) × Allows (Holds (mean key.structure) key.structure key.layout key.requests.items) table.slots id me at (λ z. n) (λ z. Tells mean naming (step table.slots at first second said) me n)
  store_owes id at n at_is apart is blind = store_asks mean table key built ok own_table me own_here naming (step table.slots at first second said) (spot, access) (named_here at at_is) id at n at_is
      (λ z e. absurd (not_nought built.sizes spot apart (sym at_is ∙ e))) is
      (λ a b. (subst (λ (a : ℕ). IsBlind (mean built.structure) (naming (mean built.structure) me.0.layout me.0.requests me.0.part (step table.slots a first second said)) (spot, access) r) (sym (at_is ∙ ap (λ (z : Sizes). address z spot) ok.as_sized))
      (subst (λ (u : TableState T). IsBlind (mean u.structure) (naming (mean u.structure) me.0.layout me.0.requests me.0.part (step_at (mean u.structure) u spot first second said)) (spot, access) r) (sym t_is) blind)).same a b)

  -- a step on another word than the seat word
  pub change_owes : (id at : ℕ) → at ≡ address built.sizes spot → is_seat spot ≡ false
      → (own_table ≡ table) × (at < table.words) × Allows (Holds (mean key.structure) key.structure key.layout key.requests.items) table.slots id me at (written access) (Tells mean naming (step table.slots at first second said) me)
  change_owes id at at_is apart = step_owes id at at_is (λ n e. absurd (not_nought built.sizes spot apart (sym at_is ∙ e)))

  module _ (found at : ℕ) (at_is : at ≡ address built.sizes spot) (own_table' : TableId) (me' : Me Thunk (View T)) (same : own_table' ≡ own_table) (told : Tells mean naming (step table.slots at first second said) me found me') where
    pub own_still : IsOf t (seen_seat own_table' me')
    own_still = subst (λ (u : TableState T). IsOf u (seen_seat own_table' me')) t_is (own_after mean table key built ok own_table me own_here naming _ (spot, access) (named_here at at_is) found own_table' me' same told)

    pub event_made : Makes (mean t.structure) (naming (mean t.structure) me.0.layout me.0.requests me.0.part (step_at (mean t.structure) t spot first second said)) found r (seen_seat own_table' me')
    event_made = subst (λ (u : TableState T). Makes (mean u.structure) (naming (mean u.structure) me.0.layout me.0.requests me.0.part (step_at (mean u.structure) u spot first second said)) found r (seen_seat own_table' me')) t_is
        (subst (λ (a : ℕ). Makes (mean built.structure) (naming (mean built.structure) me.0.layout me.0.requests me.0.part (step table.slots a first second said)) found r (seen_seat own_table' me')) (at_is ∙ ap (λ (z : Sizes). address z spot) ok.as_sized)
        (makes mean table key built ok own_table me own_here naming (step table.slots at first second said) (spot, access) (named_here at at_is) found own_table' me' same told))

    pub event_tried : (won : Bool) → won ≡ wins access found → Tries (mean t.structure) (naming (mean t.structure) me.0.layout me.0.requests me.0.part (step_at (mean t.structure) t spot first second said)) won r (seen_seat own_table' me')
    event_tried won is = subst (λ (u : TableState T). Tries (mean u.structure) (naming (mean u.structure) me.0.layout me.0.requests me.0.part (step_at (mean u.structure) u spot first second said)) won r (seen_seat own_table' me')) t_is
        (subst (λ (a : ℕ). Tries (mean built.structure) (naming (mean built.structure) me.0.layout me.0.requests me.0.part (step table.slots a first second said)) won r (seen_seat own_table' me')) (at_is ∙ ap (λ (z : Sizes). address z spot) ok.as_sized)
        (tries mean table key built ok own_table me own_here naming (step table.slots at first second said) (spot, access) (named_here at at_is) found own_table' me' same told won is))

    pub event_committed : (agreed : ℕ) (won : Bool) → agreed ≡ written access found → won ≡ wins access found → Commits (mean t.structure) (naming (mean t.structure) me.0.layout me.0.requests me.0.part (step_at (mean t.structure) t spot first second said)) agreed won r (seen_seat own_table' me')
    event_committed agreed won is did = subst (λ (u : TableState T). Commits (mean u.structure) (naming (mean u.structure) me.0.layout me.0.requests me.0.part (step_at (mean u.structure) u spot first second said)) agreed won r (seen_seat own_table' me')) t_is
        (subst (λ (a : ℕ). Commits (mean built.structure) (naming (mean built.structure) me.0.layout me.0.requests me.0.part (step table.slots a first second said)) agreed won r (seen_seat own_table' me')) (at_is ∙ ap (λ (z : Sizes). address z spot) ok.as_sized)
        (commits mean table key built ok own_table me own_here naming (step table.slots at first second said) (spot, access) (named_here at at_is) found own_table' me' same told agreed won is did))

    pub event_stored : (n : ℕ) → access ≡ Stores n → IsBlind (mean t.structure) (naming (mean t.structure) me.0.layout me.0.requests me.0.part (step_at (mean t.structure) t spot first second said)) (spot, access) r
        → (z : ℕ) → Makes (mean t.structure) (naming (mean t.structure) me.0.layout me.0.requests me.0.part (step_at (mean t.structure) t spot first second said)) z r (seen_seat own_table' me')
    event_stored n is = subst (λ (u : TableState T). IsBlind (mean u.structure) (naming (mean u.structure) me.0.layout me.0.requests me.0.part (step_at (mean u.structure) u spot first second said)) (spot, access) r
        → (z : ℕ) → Makes (mean u.structure) (naming (mean u.structure) me.0.layout me.0.requests me.0.part (step_at (mean u.structure) u spot first second said)) z r (seen_seat own_table' me')) t_is
        (subst (λ (a : ℕ). IsBlind (mean built.structure) (naming (mean built.structure) me.0.layout me.0.requests me.0.part (step table.slots a first second said)) (spot, access) r
        → (z : ℕ) → Makes (mean built.structure) (naming (mean built.structure) me.0.layout me.0.requests me.0.part (step table.slots a first second said)) z r (seen_seat own_table' me')) (at_is ∙ ap (λ (z : Sizes). address z spot) ok.as_sized)
        (makes_any mean table key built ok own_table me own_here naming (step table.slots at first second said) (spot, access) (named_here at at_is) found own_table' me' same told n is))

    pub slots_still : me'.1 ≡ me.1
    slots_still = same_slots mean table key built ok own_table me own_here naming _ (spot, access) (named_here at at_is) found own_table' me' same told
