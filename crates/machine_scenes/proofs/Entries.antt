-- Who is entered, what it holds and what it has read, over the events of epochs and slots that stand alone.
use Rattle.std.proofs.Common.{◌≡◌, ◌≢◌, ◌<◌, ℕ, zero, suc, List, Bool, true, false, refl, sym, ap, ◌∙◌, inl, inr, ⊎_elim, arith}
use Rattle.std.specs.Prelude.{◌⊎◌, ◌||◌, ◌&&◌, nat_lt, Some, [], ◌∷◌, ◌++◌, slice_get}
use Rattle.std.proofs.lemmas.Bool.{cases_eq, both_ways}
use Rattle.std.proofs.lemmas.Bool.Decides.{nat_tests}
use Rattle.epoch_core.specs.small_lemmas.proofs.Bools.{or_first as held_or}
use Rattle.agreement_core.specs.section_lines.specs.structure_laws.proofs.Changes.{upd_same, upd_other}
use Rattle.epoch_core.specs.Update.{upd, upd2, upd_row}
use Rattle.epoch_core.specs.declared.stage.Stage.{Stage}
use Rattle.epoch_core.specs.declared.stage.Stage.TheVariants as stages
use Rattle.epoch_core.specs.State.{Counts, EpochState, is_entered}
use Rattle.epoch_core.specs.Moves.{is_clear}
use Rattle.epoch_core.specs.Events.{Event, Enabled, after, slot_of}
use Rattle.epoch_core.specs.Events as events
use Rattle.machine_scenes.specs.Kinds.{is_alone}

-- a reading of a longer list is one of the list, or the last
pub get_push : {A : Type 0} (xs : List A) (y v : A) (i : ℕ) → slice_get (xs ++ y ∷ []) i ≡ Some v → (slice_get xs i ≡ Some v) ⊎ (y ≡ v)
get_push [] y v zero h = inr (cc)
get_push [] y v (suc i) h = absurd (cc)
get_push (x ∷ xs) y v zero h = inl h
get_push (x ∷ xs) y v (suc i) h = get_push xs y v i h

-- and one of the list is one of the longer list
pub get_more : {A : Type 0} (xs ys : List A) (v : A) (i : ℕ) → slice_get xs i ≡ Some v → slice_get (xs ++ ys) i ≡ Some v
get_more [] ys v i h = absurd (cc)
get_more (x ∷ xs) ys v zero h = h
get_more (x ∷ xs) ys v (suc i) h = get_more xs ys v i h

module _ (c : Counts) (e : EpochState) where
  -- the stage is the same, or is of no entry before and after
  abbrev KeepsEntry : ℕ → Stage → Type 0
  KeepsEntry i stage = (stage ≡ e.stage i) ⊎ ((is_entered (e.stage i) ≡ false) × (is_entered stage ≡ false))

  changed : (r : ℕ) (stage : Stage) → is_entered (e.stage r) ≡ false → is_entered stage ≡ false → (i : ℕ)
      → KeepsEntry i (upd e.stage r stage i)
  changed r stage before after i = ⊎_elim
      (λ same. inr (ap (λ n. is_entered (e.stage n)) same ∙ before, ap is_entered (upd_same e.stage r i stage same) ∙ after))
      (λ ne. inl (upd_other e.stage r i stage ne)) (cases_eq i r)

  entries : (v : Event) → is_alone v ≡ true → Enabled c e v → (i : ℕ) → KeepsEntry i ((after c e v).stage i)
  entries (events.EnterLoad r) alone ok = changed r (stages.Loaded e.epoch) (ap is_entered ok) refl
  entries (events.Announce r g) alone ok = changed r stages.Announced (ap is_entered ok.1) refl
  entries (events.EnterAgain r) alone ok = absurd (cc)
  entries (events.Exit r) alone ok = absurd (cc)
  entries (events.ScanEpoch r) alone ok = changed r (stages.Scanning e.epoch 0 true) (ap is_entered ok) refl
  entries (events.ScanOne r x n b) alone ok = changed r (stages.Scanning x (suc n) (b && is_clear x (e.announced n)))
      (ap is_entered ok.0) refl
  entries (events.ScanLast r x n b) alone ok = changed r stages.Idle (ap is_entered ok.0) refl
  entries (events.Advance r x n) alone ok = changed r stages.Idle (ap is_entered ok.0) refl
  entries v alone ok = λ i. inl refl

  -- who is entered was so before
  pub was_entered : (v : Event) → is_alone v ≡ true → Enabled c e v → (i : ℕ) → is_entered ((after c e v).stage i) ≡ true
      → is_entered (e.stage i) ≡ true
  was_entered v alone ok i entered = ⊎_elim (λ same. sym (ap is_entered same) ∙ entered) (λ neither. absurd (both_ways _ neither.1 entered))
      (entries v alone ok i)

  -- and stays so
  pub stays_entered : (v : Event) → is_alone v ≡ true → Enabled c e v → (i : ℕ) → is_entered (e.stage i) ≡ true
      → is_entered ((after c e v).stage i) ≡ true
  stays_entered v alone ok i entered = ⊎_elim (λ same. ap is_entered same ∙ entered) (λ neither. absurd (both_ways _ neither.0 entered))
      (entries v alone ok i)

  row : (f : ℕ → ℕ → Bool) (r : ℕ) (more : ℕ → Bool) (i t : ℕ) → f i t ≡ true → upd_row f r (λ s. f r s || more s) i t ≡ true
  row f r more i t held = ⊎_elim
      (λ same. here f r more i t same (held_or (f r t) (more t) (ap (λ n. f n t) (sym same) ∙ held)))
      (λ ne. else f r more i t ne ∙ held) (cases_eq i r)
    where
      here : (f : ℕ → ℕ → Bool) (r : ℕ) (more : ℕ → Bool) (i t : ℕ) → i ≡ r → (f r t || more t) ≡ true
          → upd_row f r (λ s. f r s || more s) i t ≡ true
      here f r more i t same e = grind (arith, nat_tests)

      else : (f : ℕ → ℕ → Bool) (r : ℕ) (more : ℕ → Bool) (i t : ℕ) → i ≢ r → upd_row f r (λ s. f r s || more s) i t ≡ f i t
      else f r more i t ne = grind (arith, nat_tests)

  pair : (f : ℕ → ℕ → Bool) (r s i t : ℕ) → f i t ≡ true → upd2 f r s true i t ≡ true
  pair f r s i t held = grind (arith, nat_tests)

  -- a runner that holds no descriptor any more holds its node slots
  nodes_row : (f : ℕ → ℕ → Bool) (n r i t : ℕ) → t < n → f i t ≡ true → upd_row f r (λ s. f r s && nat_lt s n) i t ≡ true
  nodes_row f n r i t low held = grind (arith, nat_tests)

  -- a node slot that is held stays held
  pub stays_held : (v : Event) → is_alone v ≡ true → (i t : ℕ) → t < c.nodes → e.holds i t ≡ true → (after c e v).holds i t ≡ true
  stays_held (events.Exit r) alone i t low held = absurd (cc)
  stays_held (events.Reach r slots) alone i t low held = row e.holds r slots i t held
  stays_held (events.Publish r d roles) alone i t low held = pair e.holds r (slot_of c d) i t held
  stays_held (events.Unguard r) alone i t low held = nodes_row e.holds c.nodes r i t low held
  stays_held v alone i t low held = held

  -- where a runner leaves, the others hold what they held
  pub others_hold : (r i t : ℕ) → i ≢ r → e.holds i t ≡ true → (after c e (events.Exit r)).holds i t ≡ true
  others_hold r i t ne held = else e.holds r i t ne ∙ held
    where
      else : (f : ℕ → ℕ → Bool) (r i t : ℕ) → i ≢ r → upd_row f r (λ s. false) i t ≡ f i t
      else f r i t ne = grind (arith, nat_tests)
