-- What lists of events of epochs and slots leave.
use Rattle.std.proofs.Common.{◌≡◌, ℕ, Bool, true, false, List, [], ◌∷◌, ◌++◌, refl, sym, ap, ◌∙◌, subst, inl, inr, ⊎_elim}
use Rattle.machine_states.specs.epoch_core.specs.declared.location.Location.{Location}
use Rattle.machine_states.specs.epoch_core.specs.State.{Counts, Role, EpochState}
use Rattle.machine_states.specs.epoch_core.specs.Events.{Event, Reach, WordCommit, Publish, after, slot_of}
use Rattle.machine_states.specs.epoch_core.specs.Schedules.{AllEnabled, after_all}
use Rattle.machine_states.specs.epoch_core.specs.Sound.{IsSound}
use Rattle.machine_states.specs.epoch_core.specs.History.{History, noted, noted_all, IsExact, is_out}
use Rattle.machine_states.specs.epoch_core.specs.Freed.{IsMade, IsRetired, SlotsMove, FreedStay}
use Rattle.machine_states.specs.epoch_core.proofs.Freeing.{moves, freed_stay}
use Rattle.machine_states.specs.epoch_core.proofs.Keeping.{keeps}
use Rattle.machine_states.specs.epoch_core.proofs.Exactly as exactly
use Rattle.machine_invariant.specs.Along.{reaches_of}
use Rattle.machine_invariant.proofs.Runs.{AllAre}

-- runners come to hold slots, or a loaded word is agreed: no slot moves, and nothing is won
abbrev pub is_resting : Event → Bool
is_resting (Reach r slots) = true
is_resting (WordCommit r d index word) = true
is_resting _ = false

abbrev pub is_unpublished : Event → Bool
is_unpublished (Publish r d roles) = false
is_unpublished _ = true

-- in each of these events but the last no slot moves
abbrev pub IsChain : List Event → Type 0
IsChain [] = Unit {0}
IsChain (e ∷ []) = Unit {0}
IsChain (e ∷ f ∷ es) = (is_resting e ≡ true) × IsChain (f ∷ es)

pub chain_cons : (e : Event) (es : List Event) → is_resting e ≡ true → IsChain es → IsChain (e ∷ es)
chain_cons e [] is chain = tt
chain_cons e (f ∷ es) is chain = (is, chain)

pub chain_reaches : (reaches : List (ℕ × (ℕ → Bool))) (tails : List Event) → IsChain tails → IsChain (reaches_of reaches ++ tails)
chain_reaches [] tails chain = chain
chain_reaches (x ∷ reaches) tails chain = chain_cons (Reach x.0 x.1) (reaches_of reaches ++ tails) refl (chain_reaches reaches tails chain)

pub unpublished_reaches : (reaches : List (ℕ × (ℕ → Bool))) (tails : List Event) → AllAre is_unpublished tails
    → AllAre is_unpublished (reaches_of reaches ++ tails)
unpublished_reaches [] tails are = are
unpublished_reaches (x ∷ reaches) tails are = (refl, unpublished_reaches reaches tails are)

module _ (c : Counts) where
  -- after a resting event the slots are where they were
  record Rests (w w' : EpochState) (h h' : History) : Type 0 where
    pub location : w'.location ≡ w.location
    pub role : w'.role ≡ w.role
    pub history : h' ≡ h

  one_rests : (w : EpochState) (h : History) (e : Event) → is_resting e ≡ true → Rests w (after c w e) h (noted w h e)
  one_rests w h (Reach r slots) is = record { location = refl; role = refl; history = refl }
  one_rests w h (WordCommit r d k word) is = record { location = refl; role = refl; history = refl }
  one_rests w h e is = absurd (let no : ⊥ = cc in no)

  module _ (w0 w1 w' : EpochState) (h h' : History) (location : w1.location ≡ w0.location) (role : w1.role ≡ w0.role) where
    at : (s : ℕ) → w1.location s ≡ w0.location s
    at s = ap (λ (f : ℕ → Location). f s) location

    made_from : (r s : ℕ) → IsMade w1 w' h h' r s → IsMade w0 w' h h' r s
    made_from r s x = record {
      number = x.number;
      index = x.index;
      hand = sym (at s) ∙ x.hand;
      live = x.live;
      none = x.none;
      one = x.one;
    }

    retired_from : (r s y : ℕ) → IsRetired w1 w' h h' r s y → IsRetired w0 w' h h' r s y
    retired_from r s y x = record {
      number = x.number;
      index = x.index;
      live = sym (at s) ∙ x.live;
      limbo = x.limbo;
      none = x.none;
      one = x.one;
    }

    moves_from : SlotsMove c w1 w' h h' → SlotsMove c w0 w' h h'
    moves_from x = record {
      fixed = λ s is. x.fixed s (at s ∙ is);
      hand = λ s r is. ⊎_elim (λ e. inl e) (λ e. inr (⊎_elim (λ made. inl (made_from r s made)) (λ back. inr back) e)) (x.hand s r (at s ∙ is));
      live = λ s lt is. ⊎_elim (λ e. inl (sym (at s) ∙ e)) (λ made. inr (made.0, made_from made.0 s made.1)) (x.live s lt is);
      limbo = λ s r y lt is. ⊎_elim (λ e. inl (sym (at s) ∙ e)) (λ e. inr (retired_from r s y e)) (x.limbo s r y lt is);
      board = λ s i is. ⊎_elim (λ e. inl (sym (at s) ∙ e)) (λ free. inr (free.0, sym (at s) ∙ free.1)) (x.board s i is);
      unboard = λ s i is. x.unboard s i (at s ∙ is);
      made = λ n k s none one. let y = x.made n k s none one in (y.0, sym (at s) ∙ y.1, y.2);
      retired = λ n k y none one. let z = x.retired n k y none one in
          (z.0, z.1, z.2, z.3, ap (λ (f : ℕ → ℕ → Role). f z.0 k) (sym role) ∙ z.4, sym (at z.1) ∙ z.5, z.6);
    }

    freed_from : FreedStay c w1 w' h h' → FreedStay c w0 w' h h'
    freed_from x = record {
      made = x.made;
      retired = x.retired;
      freed = λ n le free. x.freed n le (λ d out. free d (ap is_out (sym (at (slot_of c d))) ∙ out));
      late = λ d out. ⊎_elim (λ e. inl e) (λ e. inr (e.0, e.1, sym (at (slot_of c d)) ∙ e.2)) (x.late d (ap is_out (at (slot_of c d)) ∙ out));
    }

  none_one : {A : Type 0} → (xs : List ℕ) (x : ℕ) → xs ≡ [] → xs ≡ x ∷ [] → A
  none_one xs x none one = absurd (let no : ⊥ = cc in no)

  pub moves_all : (w : EpochState) (h : History) (es : List Event) → AllEnabled c w es → IsSound c w → IsExact c w h → IsChain es
      → SlotsMove c w (after_all c w es) h (noted_all c w h es)
  moves_all w h [] ok sound exact chain = record {
    fixed = λ s is. is;
    hand = λ s r is. inl is;
    live = λ s lt is. inl is;
    limbo = λ s r y lt is. inl is;
    board = λ s i is. inl is;
    unboard = λ s i is. inl is;
    made = λ n k s none one. none_one _ s none one;
    retired = λ n k y none one. none_one _ y none one;
  }
  moves_all w h (e ∷ []) ok sound exact chain = moves c w h e ok.0 sound exact
  moves_all w h (e ∷ f ∷ es) ok sound exact chain =
      let rest = one_rests w h e chain.0 in
      let same : (x : History) → x ≡ h → IsExact c (after c w e) x → SlotsMove c (after c w e) (after_all c (after c w e) (f ∷ es)) x (noted_all c (after c w e) x (f ∷ es))
      → SlotsMove c w (after_all c (after c w e) (f ∷ es)) h (noted_all c (after c w e) x (f ∷ es)) = λ x is exact' more.
      moves_from w (after c w e) _ h _ rest.location rest.role
      (subst (λ (y : History). SlotsMove c (after c w e) (after_all c (after c w e) (f ∷ es)) y (noted_all c (after c w e) x (f ∷ es))) is more) in
      let exact' = exactly.exact c w h e ok.0 sound exact in
      same (noted w h e) rest.history exact'
      (moves_all (after c w e) (noted w h e) (f ∷ es) ok.1 (keeps c w e ok.0 sound) exact' chain.1)

  pub freed_all : (w : EpochState) (h : History) (es : List Event) → AllEnabled c w es → IsSound c w → IsChain es
      → FreedStay c w (after_all c w es) h (noted_all c w h es)
  freed_all w h [] ok sound chain = record { made = λ n k free. refl; retired = λ n k free. refl; freed = λ n le free. free; late = λ d out. inl out }
  freed_all w h (e ∷ []) ok sound chain = freed_stay c w h e ok.0 sound
  freed_all w h (e ∷ f ∷ es) ok sound chain =
      let rest = one_rests w h e chain.0 in
      let more = freed_all (after c w e) (noted w h e) (f ∷ es) ok.1 (keeps c w e ok.0 sound) chain.1 in
      freed_from w (after c w e) _ h _ rest.location rest.role
      (subst (λ (y : History). FreedStay c (after c w e) (after_all c (after c w e) (f ∷ es)) y (noted_all c (after c w e) (noted w h e) (f ∷ es)))
      rest.history more)

  -- where nothing is published, each section has its number
  pub record SameNumbers (h h' : History) : Type 0 where
    pub published : h'.published ≡ h.published
    pub section : h'.section ≡ h.section

  one_unpublished : (w : EpochState) (h : History) (e : Event) → is_unpublished e ≡ true → SameNumbers h (noted w h e)
  one_unpublished w h (Publish r d roles) is = absurd (let no : ⊥ = cc in no)
  one_unpublished w h e is = record { published = refl; section = refl }

  pub unpublished_all : (w : EpochState) (h : History) (es : List Event) → AllAre is_unpublished es → SameNumbers h (noted_all c w h es)
  unpublished_all w h [] are = record { published = refl; section = refl }
  unpublished_all w h (e ∷ es) are =
      let one = one_unpublished w h e are.0 in let more = unpublished_all (after c w e) (noted w h e) es are.1 in
      record { published = more.published ∙ one.published; section = more.section ∙ one.section }
