-- What an event adds to the history, and where it moves the slots.
use Rattle.std.proofs.Common.{◌≡◌, ◌≢◌, ℕ, ◌+◌, ◌<◌, ◌≤◌, Bool, true, false, cond, List, [], ◌∷◌, length, refl, sym, ap, ◌∙◌, subst, inl, inr, ⊎_elim, arith}
use Rattle.std.proofs.lemmas.Bool.{cases_eq}
use Rattle.std.specs.Prelude.{◌⊎◌, nat_lt}
use Rattle.epoch_core.specs.declared.location.Location.{Location}
use Rattle.epoch_core.specs.declared.location.Location.TheVariants.{Fixed, Live, Hand, Free, Worn, Limbo, OnBoard}
use Rattle.epoch_core.specs.Update.{upd2}
use Rattle.epoch_core.specs.Moves.{collected, swept, tested}
use Rattle.epoch_core.specs.State.{Counts, Role, Retires, EpochState}
use Rattle.epoch_core.specs.Events.{Event, ScanLast, Advance, Test, TakeSlot, GiveBoard, TakeBoard, MakeCommit, RetireCommit, Publish, RetireDescriptor, Sweep, Enabled, after, slot_of, is_among}
use Rattle.epoch_core.specs.Sound.{IsSound, is_for_nodes}
use Rattle.epoch_core.specs.History.{History, with_won, noted, IsExact, is_out, is_retires, agreed_count}
use Rattle.epoch_core.specs.Freed.{IsMade, IsRetired, SlotsMove, FreedStay}
use Rattle.epoch_core.proofs.Lasting.{kept_out}
use Rattle.epoch_core.proofs.Sweeping.{swept_not, swept_out, unfreed, not_among}

none_one : {A : Type 0} → (xs : List ℕ) (x : ℕ) → xs ≡ [] → xs ≡ x ∷ [] → A
none_one xs x none one = absurd (cc)

empty_of : (xs : List ℕ) → length xs ≡ 0 → xs ≡ []
empty_of [] e = refl
empty_of (x ∷ xs) e = absurd (let a : 1 ≤ 0 = omega arith in omega arith)

-- a row of lists that has one entry more has it where it was changed
row_changed : (f : ℕ → ℕ → List ℕ) (r s : ℕ) (v : List ℕ) (n i x : ℕ) → f n i ≡ [] → upd2 f r s v n i ≡ x ∷ []
    → (n ≡ r) × (i ≡ s) × (v ≡ x ∷ [])
row_changed f r s v n i x none one = (grind arith, grind arith, grind arith)

won_is : (found x y : ℕ) (xs : List ℕ) → xs ≡ [] → with_won found x xs ≡ y ∷ [] → (found ≡ 0) × (x ≡ y)
won_is found x y xs none one = (grind arith, grind arith)

module _ (c : Counts) (w : EpochState) (h : History) where
  -- an event that moves no node slot and adds nothing
  still_moves : (e : Event) → ((s : ℕ) → w.location s ≡ Fixed → (after c w e).location s ≡ Fixed)
      → ((s : ℕ) → s < c.nodes → (after c w e).location s ≡ w.location s)
      → ((s r : ℕ) → w.location s ≡ Hand r → (after c w e).location s ≡ Hand r)
      → ((s i : ℕ) → (after c w e).location s ≡ OnBoard i → w.location s ≡ OnBoard i)
      → ((s i : ℕ) → w.location s ≡ OnBoard i → (after c w e).location s ≡ OnBoard i)
      → (noted w h e).made ≡ h.made → (noted w h e).retired ≡ h.retired → SlotsMove c w (after c w e) h (noted w h e)
  still_moves e fixed same hand onto off made_same retired_same = record {
    fixed = fixed;
    hand = λ s r at. inl (hand s r at);
    live = λ s lt at. inl (sym (same s lt) ∙ at);
    limbo = λ s r y lt at. inl (sym (same s lt) ∙ at);
    board = λ s i at. inl (onto s i at);
    unboard = λ s i at. inl (off s i at);
    made = λ n k s none one. none_one _ s none (sym (ap (λ (f : ℕ → ℕ → List ℕ). f n k) made_same) ∙ one);
    retired = λ n k y none one. none_one _ y none (sym (ap (λ (f : ℕ → ℕ → List ℕ). f n k) retired_same) ∙ one);
  }

  -- nothing comes to be live or in limbo by the end of a scan
  collected_hand : (node : Bool) (r epoch r' : ℕ) (x : Location) → x ≡ Hand r' → collected node r epoch x ≡ Hand r'
  collected_hand node r epoch r' x at = ap (collected node r epoch) at

  collected_live : (node : Bool) (r epoch : ℕ) (x : Location) → collected node r epoch x ≡ Live → x ≡ Live
  collected_live node r epoch Live at = refl
  collected_live node r epoch Fixed at = absurd (cc)
  collected_live node r epoch (Hand r') at = absurd (cc)
  collected_live node r epoch (Free r') at = absurd (cc)
  collected_live node r epoch (Worn r') at = absurd (cc)
  collected_live node r epoch (OnBoard i) at = absurd (cc)
  collected_live true r epoch (Limbo r' y) at = grind arith
  collected_live false r epoch (Limbo r' y) at = grind arith

  collected_limbo : (node : Bool) (r epoch r' y' : ℕ) (x : Location) → collected node r epoch x ≡ Limbo r' y' → x ≡ Limbo r' y'
  collected_limbo node r epoch r' y' Live at = absurd (cc)
  collected_limbo node r epoch r' y' Fixed at = absurd (cc)
  collected_limbo node r epoch r' y' (Hand r1) at = absurd (cc)
  collected_limbo node r epoch r' y' (Free r1) at = absurd (cc)
  collected_limbo node r epoch r' y' (Worn r1) at = absurd (cc)
  collected_limbo node r epoch r' y' (OnBoard i) at = absurd (cc)
  collected_limbo true r epoch r' y' (Limbo r1 y) at = grind arith
  collected_limbo false r epoch r' y' (Limbo r1 y) at = grind arith

  collected_board : (node : Bool) (r epoch i' : ℕ) (x : Location) → collected node r epoch x ≡ OnBoard i' → x ≡ OnBoard i'
  collected_board node r epoch i' Live at = absurd (cc)
  collected_board node r epoch i' Fixed at = absurd (cc)
  collected_board node r epoch i' (Hand r1) at = absurd (cc)
  collected_board node r epoch i' (Free r1) at = absurd (cc)
  collected_board node r epoch i' (Worn r1) at = absurd (cc)
  collected_board node r epoch i' (OnBoard i) at = at
  collected_board true r epoch i' (Limbo r1 y) at = grind arith
  collected_board false r epoch i' (Limbo r1 y) at = absurd (cc)

  swept_board : (b : Bool) (r i' : ℕ) (x : Location) → swept b r x ≡ OnBoard i' → x ≡ OnBoard i'
  swept_board b r i' Live at = absurd (cc)
  swept_board b r i' Fixed at = absurd (cc)
  swept_board b r i' (Hand r1) at = absurd (cc)
  swept_board b r i' (Free r1) at = absurd (cc)
  swept_board b r i' (Worn r1) at = absurd (cc)
  swept_board b r i' (OnBoard i) at = at
  swept_board b r i' (Limbo r1 y) at = grind arith

  collect_moves : (e : Event) (r epoch : ℕ)
      → ((s : ℕ) → (node : Bool) × ((after c w e).location s ≡ collected node r epoch (w.location s)))
      → (noted w h e).made ≡ h.made → (noted w h e).retired ≡ h.retired → SlotsMove c w (after c w e) h (noted w h e)
  collect_moves e r epoch all made_same retired_same = record {
    fixed = λ s at. let x = all s in x.1 ∙ ap (collected x.0 r epoch) at;
    hand = λ s r' at. let x = all s in inl (x.1 ∙ collected_hand x.0 r epoch r' (w.location s) at);
    live = λ s lt at. let x = all s in inl (collected_live x.0 r epoch (w.location s) (sym x.1 ∙ at));
    limbo = λ s r' y lt at. let x = all s in inl (collected_limbo x.0 r epoch r' y (w.location s) (sym x.1 ∙ at));
    board = λ s i at. let x = all s in inl (collected_board x.0 r epoch i (w.location s) (sym x.1 ∙ at));
    unboard = λ s i at. let x = all s in inl (x.1 ∙ ap (collected x.0 r epoch) at);
    made = λ n k s none one. none_one _ s none (sym (ap (λ (f : ℕ → ℕ → List ℕ). f n k) made_same) ∙ one);
    retired = λ n k y none one. none_one _ y none (sym (ap (λ (f : ℕ → ℕ → List ℕ). f n k) retired_same) ∙ one);
  }

  test_moves : (r s : ℕ) (b : Bool) → Enabled c w (Test r s b) → SlotsMove c w (after c w (Test r s b)) h (noted w h (Test r s b))
  test_moves r s b ok = record {
    fixed = grind arith;
    hand = grind arith;
    live = grind arith;
    limbo = grind arith;
    board = grind arith;
    unboard = grind arith;
    made = λ n k t none one. none_one _ t none one;
    retired = λ n k y none one. none_one _ y none one;
  }

  take_moves : (r s : ℕ) → Enabled c w (TakeSlot r s) → SlotsMove c w (after c w (TakeSlot r s)) h (noted w h (TakeSlot r s))
  take_moves r s ok = record {
    fixed = grind arith;
    hand = grind arith;
    live = grind arith;
    limbo = grind arith;
    board = grind arith;
    unboard = grind arith;
    made = λ n k t none one. none_one _ t none one;
    retired = λ n k y none one. none_one _ y none one;
  }

  give_moves : (r s i : ℕ) → Enabled c w (GiveBoard r s i) → SlotsMove c w (after c w (GiveBoard r s i)) h (noted w h (GiveBoard r s i))
  give_moves r s i ok = record {
    fixed = grind arith;
    hand = grind arith;
    live = grind arith;
    limbo = grind arith;
    board = λ t j at. ⊎_elim (λ e. inr (r, ap w.location e ∙ ok.0)) (λ ne. inl (else t j ne at)) (cases_eq t s);
    unboard = grind arith;
    made = λ n k t none one. none_one _ t none one;
    retired = λ n k y none one. none_one _ y none one;
  }
    where
      else : (t j : ℕ) → t ≢ s → (after c w (GiveBoard r s i)).location t ≡ OnBoard j → w.location t ≡ OnBoard j
      else t j ne at = grind arith

  take_board_moves : (r s i : ℕ) → Enabled c w (TakeBoard r s i) → SlotsMove c w (after c w (TakeBoard r s i)) h (noted w h (TakeBoard r s i))
  take_board_moves r s i ok = record {
    fixed = grind arith;
    hand = grind arith;
    live = grind arith;
    limbo = grind arith;
    board = grind arith;
    unboard = λ t j at. ⊎_elim (λ e. inr (r, free t e)) (λ ne. inl (else t j ne at)) (cases_eq t s);
    made = λ n k t none one. none_one _ t none one;
    retired = λ n k y none one. none_one _ y none one;
  }
    where
      free : (t : ℕ) → t ≡ s → (after c w (TakeBoard r s i)).location t ≡ Free r
      free t e = grind arith

      else : (t j : ℕ) → t ≢ s → w.location t ≡ OnBoard j → (after c w (TakeBoard r s i)).location t ≡ OnBoard j
      else t j ne at = grind arith

  -- the history after a commit of a Make
  abbrev made_more : ℕ → ℕ → ℕ → ℕ → ℕ → List ℕ
  made_more d k s = upd2 h.made (h.section d) k (with_won (w.log d k) s (h.made (h.section d) k))

  make_moves : IsExact c w h → (r d k s : ℕ) (b : Bool) → (ok : Enabled c w (MakeCommit r d k s b)) → IsSound c w
      → SlotsMove c w (after c w (MakeCommit r d k s b)) h (noted w h (MakeCommit r d k s b))
  make_moves exact r d k s b ok sound =
      let out = kept_out (w.location (slot_of c d)) _ (sound.held r (slot_of c d) ok.0) in
      let here = exact.made d k out in
      let won : w.log d k ≡ 0 → IsMade w (after c w (MakeCommit r d k s b)) h (noted w h (MakeCommit r d k s b)) r s = λ e. record {
        number = h.section d;
        index = k;
        hand = ok.2;
        live = grind arith;
        none = grind arith;
        one = grind arith;
      } in
      record {
        fixed = λ t at. ⊎_elim (λ e. absurd (let no : Fixed ≡ Hand r = sym at ∙ ap w.location e ∙ ok.2 in cc)) (λ ne. else t ne ∙ at) (cases_eq t s);
        hand = λ t r' at. ⊎_elim
            (λ e. let same : Hand r' ≡ Hand r = sym at ∙ ap w.location e ∙ ok.2 in ⊎_elim
            (λ z. let owner : r' ≡ r = cc in inr (inl (subst (λ n. IsMade w (after c w (MakeCommit r d k s b)) h (noted w h (MakeCommit r d k s b)) n t)
            (sym owner) (subst (λ n. IsMade w (after c w (MakeCommit r d k s b)) h (noted w h (MakeCommit r d k s b)) r n) (sym e) (won z)))))
            (λ ne. inr (inr (lost t r' e (let owner : r' ≡ r = cc in owner) ne)))
            (cases_eq (w.log d k) 0))
            (λ ne. inl (else t ne ∙ at))
            (cases_eq t s);
        live = λ t lt at. ⊎_elim
            (λ e. ⊎_elim
            (λ z. inr (r, subst (λ n. IsMade w (after c w (MakeCommit r d k s b)) h (noted w h (MakeCommit r d k s b)) r n) (sym e) (won z)))
            (λ ne. absurd (lost_live t e ne at))
            (cases_eq (w.log d k) 0))
            (λ ne. inl (sym (else t ne) ∙ at))
            (cases_eq t s);
        limbo = λ t r' y lt at. ⊎_elim (λ e. absurd (no_limbo t r' y e at)) (λ ne. inl (sym (else t ne) ∙ at)) (cases_eq t s);
        board = λ t i at. ⊎_elim (λ e. absurd (no_board t i e at)) (λ ne. inl (sym (else t ne) ∙ at)) (cases_eq t s);
        unboard = λ t i at. ⊎_elim (λ e. absurd (let no : OnBoard i ≡ Hand r = sym at ∙ ap w.location e ∙ ok.2 in cc)) (λ ne. inl (else t ne ∙ at)) (cases_eq t s);
        made = λ n i t none one. more n i t none one;
        retired = λ n i y none one. none_one _ y none one;
      }
    where
      else : (t : ℕ) → t ≢ s → (after c w (MakeCommit r d k s b)).location t ≡ w.location t
      else t ne = grind arith

      tested_back : (worn : Bool) (r' : ℕ) → (tested worn r' ≡ Free r') ⊎ (tested worn r' ≡ Worn r')
      tested_back true r' = inr refl
      tested_back false r' = inl refl

      lost : (t r' : ℕ) → t ≡ s → r' ≡ r → w.log d k ≢ 0 → ((after c w (MakeCommit r d k s b)).location t ≡ Free r')
          ⊎ ((after c w (MakeCommit r d k s b)).location t ≡ Worn r')
      lost t r' e owner ne = let is = tested_back b r' in grind arith

      lost_live : (t : ℕ) → t ≡ s → w.log d k ≢ 0 → (after c w (MakeCommit r d k s b)).location t ≡ Live → ⊥
      lost_live t e ne at = let is = tested_back b r in grind arith

      no_limbo : (t r' y : ℕ) → t ≡ s → (after c w (MakeCommit r d k s b)).location t ≡ Limbo r' y → ⊥
      no_limbo t r' y e at = let is = tested_back b r in grind arith

      no_board : (t i : ℕ) → t ≡ s → (after c w (MakeCommit r d k s b)).location t ≡ OnBoard i → ⊥
      no_board t i e at = let is = tested_back b r in grind arith

      more : (n i t : ℕ) → h.made n i ≡ [] → made_more d k s n i ≡ t ∷ []
          → (r' : ℕ) × (w.location t ≡ Hand r') × ((after c w (MakeCommit r d k s b)).location t ≡ Live)
      more n i t none one =
          let here = row_changed h.made (h.section d) k _ n i t none one in
          let first : h.made (h.section d) k ≡ [] = grind arith in
          let won = won_is (w.log d k) s t (h.made (h.section d) k) first here.2 in
          (r, ap w.location (sym won.1) ∙ ok.2, (let z = won.0 in let same = won.1 in grind arith))

  retire_moves : (r : ℕ) → (ok : Enabled c w (RetireCommit r)) → IsExact c w h → IsSound c w
      → SlotsMove c w (after c w (RetireCommit r)) h (noted w h (RetireCommit r))
  retire_moves r ok exact sound =
      let x = w.retire r in
      let out = kept_out (w.location (slot_of c x.descriptor)) _ (sound.held r (slot_of c x.descriptor) (sound.retire_held r ok)) in
      let here = exact.retired x.descriptor x.index out in
      record {
        fixed = λ t at. ⊎_elim
            (λ z. ⊎_elim (λ e. absurd (let no : Fixed ≡ Live = sym at ∙ ap w.location e ∙ live z in cc)) (λ ne. else t ne ∙ at) (cases_eq t x.slot))
            (λ ne. unmoved t ne ∙ at) (cases_eq (w.log x.descriptor x.index) 0);
        hand = λ t r' at. ⊎_elim
            (λ z. ⊎_elim (λ e. absurd (let now = live z in grind arith)) (λ ne. inl (else t ne ∙ at)) (cases_eq t x.slot))
            (λ ne. inl (unmoved t ne ∙ at)) (cases_eq (w.log x.descriptor x.index) 0);
        live = λ t lt at. ⊎_elim
            (λ z. ⊎_elim (λ e. inl (ap w.location e ∙ live z)) (λ ne. inl (sym (else t ne) ∙ at)) (cases_eq t x.slot))
            (λ ne. inl (sym (unmoved t ne) ∙ at)) (cases_eq (w.log x.descriptor x.index) 0);
        limbo = λ t r' y lt at. ⊎_elim
            (λ z. ⊎_elim
            (λ e. inr (won t r' y e z at here))
            (λ ne. inl (sym (else t ne) ∙ at)) (cases_eq t x.slot))
            (λ ne. inl (sym (unmoved t ne) ∙ at)) (cases_eq (w.log x.descriptor x.index) 0);
        board = λ t i at. ⊎_elim
            (λ z. ⊎_elim (λ e. absurd (let now = live z in grind arith)) (λ ne. inl (sym (else t ne) ∙ at)) (cases_eq t x.slot))
            (λ ne. inl (sym (unmoved t ne) ∙ at)) (cases_eq (w.log x.descriptor x.index) 0);
        unboard = λ t i at. ⊎_elim
            (λ z. ⊎_elim (λ e. absurd (let now = live z in grind arith)) (λ ne. inl (else t ne ∙ at)) (cases_eq t x.slot))
            (λ ne. inl (unmoved t ne ∙ at)) (cases_eq (w.log x.descriptor x.index) 0);
        made = λ n i t none one. none_one _ t none one;
        retired = λ n i y none one. more n i y none one;
      }
    where
      live : w.log ((w.retire r).descriptor) ((w.retire r).index) ≡ 0 → w.location ((w.retire r).slot) ≡ Live
      live z = sound.retire_live r (grind arith)

      else : (t : ℕ) → t ≢ (w.retire r).slot → (after c w (RetireCommit r)).location t ≡ w.location t
      else t ne = grind arith

      unmoved : (t : ℕ) → w.log ((w.retire r).descriptor) ((w.retire r).index) ≢ 0 → (after c w (RetireCommit r)).location t ≡ w.location t
      unmoved t ne = grind arith

      won : (t r' y : ℕ) → t ≡ (w.retire r).slot → w.log ((w.retire r).descriptor) ((w.retire r).index) ≡ 0
          → (after c w (RetireCommit r)).location t ≡ Limbo r' y
          → length (h.retired (h.section ((w.retire r).descriptor)) ((w.retire r).index))
          ≡ cond (is_retires (w.role ((w.retire r).descriptor) ((w.retire r).index))) (agreed_count (w.log ((w.retire r).descriptor) ((w.retire r).index))) 0
          → IsRetired w (after c w (RetireCommit r)) h (noted w h (RetireCommit r)) r' t y
      won t r' y e z at here =
          let now = live z in
          let none : h.retired (h.section ((w.retire r).descriptor)) ((w.retire r).index) ≡ [] =
          empty_of (h.retired (h.section ((w.retire r).descriptor)) ((w.retire r).index)) (grind arith) in
          record {
            number = h.section ((w.retire r).descriptor);
            index = (w.retire r).index;
            live = grind arith;
            limbo = at;
            none = none;
            one = grind arith;
          }

      more : (n i y : ℕ) → h.retired n i ≡ [] → (noted w h (RetireCommit r)).retired n i ≡ y ∷ []
          → (d s r' : ℕ) × (h.section d ≡ n) × (w.role d i ≡ Retires s) × (w.location s ≡ Live) × ((after c w (RetireCommit r)).location s ≡ Limbo r' y)
      more n i y none one =
          let x = w.retire r in
          let here = row_changed h.retired (h.section x.descriptor) x.index _ n i y none one in
          let first : h.retired (h.section x.descriptor) x.index ≡ [] = grind arith in
          let won = won_is (w.log x.descriptor x.index) x.epoch y (h.retired (h.section x.descriptor) x.index) first here.2 in
          let role : w.role x.descriptor i ≡ Retires x.slot = ap (w.role x.descriptor) here.1 ∙ sound.retire_role r ok in
          (x.descriptor, x.slot, r, sym here.0, role, live won.0, (let z = won.0 in let same = won.1 in grind arith))

  -- what isn't in limbo stays where it is
  swept_else : (r : ℕ) (ds : ℕ → Bool) (s : ℕ) → ((y q : ℕ) → w.location s ≡ Limbo q y → ⊥)
      → (after c w (Sweep r ds)).location s ≡ w.location s
  swept_else r ds s none = unfreed (is_among c ds s) r (w.location s) (λ y e at. none y r at)

  pub moves : (e : Event) → Enabled c w e → IsSound c w → IsExact c w h → SlotsMove c w (after c w e) h (noted w h e)
  moves (Test r s b) ok sound exact = test_moves r s b ok
  moves (TakeSlot r s) ok sound exact = take_moves r s ok
  moves (GiveBoard r s i) ok sound exact = give_moves r s i ok
  moves (TakeBoard r s i) ok sound exact = take_board_moves r s i ok
  moves (MakeCommit r d k s b) ok sound exact = make_moves exact r d k s b ok sound
  moves (RetireCommit r) ok sound exact = retire_moves r ok exact sound
  moves (ScanLast r x n b) ok sound exact = collect_moves (ScanLast r x n b) r x (λ s. (nat_lt s c.nodes, refl)) refl refl
  moves (Advance r x n) ok sound exact = collect_moves (Advance r x n) r (x + 1) (λ s. (nat_lt s c.nodes, refl)) refl refl
  moves (Publish r d roles) ok sound exact = still_moves (Publish r d roles) (λ s at. grind arith) (λ s lt. grind arith) (λ s r' at. grind arith) (λ s i at. grind arith) (λ s i at. grind arith) refl refl
  moves (RetireDescriptor r d) ok sound exact = still_moves (RetireDescriptor r d) (λ s at. grind arith) (λ s lt. grind arith) (λ s r' at. grind arith) (λ s i at. grind arith) (λ s i at. grind arith) refl refl
  moves (Sweep r ds) ok sound exact = still_moves (Sweep r ds) (λ s at. swept_else r ds s (λ y q e. absurd (let no = sym at ∙ e in cc)) ∙ at)
      (λ s lt. swept_not (is_among c ds s) r (w.location s) (not_among c ds s lt))
      (λ s q at. swept_else r ds s (λ y q' e. absurd (let no = sym at ∙ e in cc)) ∙ at)
      (λ s i at. swept_board (is_among c ds s) r i (w.location s) at)
      (λ s i at. swept_else r ds s (λ y q' e. absurd (let no = sym at ∙ e in cc)) ∙ at) refl refl
  moves e ok sound exact = still_moves e (λ s at. at) (λ s lt. refl) (λ s r at. at) (λ s i at. at) (λ s i at. at) refl refl

  -- a descriptor is where it was, or was out and is out, or was in limbo
  abbrev StaysOut : (ℕ → Location) → Type 0
  StaysOut location = (d : ℕ) → is_out (w.location (slot_of c d)) ≡ true → (is_out (location (slot_of c d)) ≡ true)
      ⊎ ((r y : ℕ) × (w.location (slot_of c d) ≡ Limbo r y))

  collected_out : (node : Bool) (r epoch : ℕ) (x : Location) → is_out x ≡ true
      → (is_out (collected node r epoch x) ≡ true) ⊎ ((r' y : ℕ) × (x ≡ Limbo r' y))
  collected_out node r epoch Fixed is = inl refl
  collected_out node r epoch Live is = inl refl
  collected_out node r epoch (Limbo r' y) is = inr (r', y, refl)
  collected_out node r epoch (Hand r') is = absurd (cc)
  collected_out node r epoch (Free r') is = absurd (cc)
  collected_out node r epoch (Worn r') is = absurd (cc)
  collected_out node r epoch (OnBoard i) is = absurd (cc)

  collected_before : (node : Bool) (r epoch : ℕ) (x : Location) → is_out (collected node r epoch x) ≡ true → is_out x ≡ true
  collected_before node r epoch Fixed is = refl
  collected_before node r epoch Live is = refl
  collected_before node r epoch (Limbo r' y) is = refl
  collected_before node r epoch (Hand r') is = is
  collected_before node r epoch (Free r') is = is
  collected_before node r epoch (Worn r') is = is
  collected_before node r epoch (OnBoard i) is = is

  -- an event that wins nothing, gives no number, and lets no descriptor come out
  quiet_stays : (e : Event) → (noted w h e ≡ h)
      → ((d : ℕ) → is_out ((after c w e).location (slot_of c d)) ≡ true → is_out (w.location (slot_of c d)) ≡ true)
      → StaysOut (after c w e).location → FreedStay c w (after c w e) h (noted w h e)
  quiet_stays e same before late = record {
    made = λ n k free. ap (λ (x : History). x.made n k) same;
    retired = λ n k free. ap (λ (x : History). x.retired n k) same;
    freed = λ n le free d out is. free d (before d out) (sym (ap (λ (x : History). x.section d) same) ∙ is);
    late = late;
  }

  test_stays : (r s : ℕ) (b : Bool) → Enabled c w (Test r s b) → IsSound c w → FreedStay c w (after c w (Test r s b)) h (noted w h (Test r s b))
  test_stays r s b ok sound = let node = sound.for_nodes s (grind arith) in quiet_stays (Test r s b) refl (λ d out. grind arith) (λ d out. inl (grind arith))

  take_stays : (r s : ℕ) → Enabled c w (TakeSlot r s) → FreedStay c w (after c w (TakeSlot r s)) h (noted w h (TakeSlot r s))
  take_stays r s ok = quiet_stays (TakeSlot r s) refl (λ d out. grind arith) (λ d out. inl (grind arith))

  make_stays : (r d k s : ℕ) (b : Bool) → Enabled c w (MakeCommit r d k s b) → IsSound c w
      → FreedStay c w (after c w (MakeCommit r d k s b)) h (noted w h (MakeCommit r d k s b))
  make_stays r d k s b ok sound =
      let node = sound.for_nodes s (grind arith) in
      let out = kept_out (w.location (slot_of c d)) _ (sound.held r (slot_of c d) ok.0) in
      let still : is_out ((after c w (MakeCommit r d k s b)).location (slot_of c d)) ≡ true = grind arith in
      record {
        made = λ n i free. let other = free d still in grind arith;
        retired = λ n i free. refl;
        freed = λ n le free d' out'. free d' (grind arith);
        late = λ d' out'. inl (grind arith);
      }

  retire_stays : (r : ℕ) → Enabled c w (RetireCommit r) → IsSound c w → FreedStay c w (after c w (RetireCommit r)) h (noted w h (RetireCommit r))
  retire_stays r ok sound =
      let x = w.retire r in
      let node = sound.retire_node r ok in
      let out = kept_out (w.location (slot_of c x.descriptor)) _ (sound.held r (slot_of c x.descriptor) (sound.retire_held r ok)) in
      let still : is_out ((after c w (RetireCommit r)).location (slot_of c x.descriptor)) ≡ true = grind arith in
      record {
        made = λ n i free. refl;
        retired = λ n i free. let other = free x.descriptor still in grind arith;
        freed = λ n le free d' out'. free d' (grind arith);
        late = λ d' out'. inl (grind arith);
      }

  publish_stays : (r d : ℕ) (roles : ℕ → Role) → FreedStay c w (after c w (Publish r d roles)) h (noted w h (Publish r d roles))
  publish_stays r d roles = record {
    made = λ n i free. refl;
    retired = λ n i free. refl;
    freed = λ n le free d' out is. let old = free d' in grind arith;
    late = λ d' out. inl (grind arith);
  }

  swept_late : (b : Bool) (r : ℕ) (x : Location) → is_out x ≡ true → (is_out (swept b r x) ≡ true) ⊎ ((q y : ℕ) × (x ≡ Limbo q y))
  swept_late b r Fixed is = inl refl
  swept_late b r Live is = inl refl
  swept_late b r (Limbo q y) is = inr (q, y, refl)
  swept_late b r (Hand q) is = absurd (cc)
  swept_late b r (Free q) is = absurd (cc)
  swept_late b r (Worn q) is = absurd (cc)
  swept_late b r (OnBoard i) is = absurd (cc)

  pub freed_stay : (e : Event) → Enabled c w e → IsSound c w → FreedStay c w (after c w e) h (noted w h e)
  freed_stay (Test r s b) ok sound = test_stays r s b ok sound
  freed_stay (TakeSlot r s) ok sound = take_stays r s ok
  freed_stay (GiveBoard r s i) ok sound = quiet_stays (GiveBoard r s i) refl (λ d out. grind arith) (λ d out. inl (grind arith))
  freed_stay (TakeBoard r s i) ok sound =
      let node = sound.for_nodes s (ap is_for_nodes ok) in quiet_stays (TakeBoard r s i) refl (λ d out. grind arith) (λ d out. inl (grind arith))
  freed_stay (MakeCommit r d k s b) ok sound = make_stays r d k s b ok sound
  freed_stay (RetireCommit r) ok sound = retire_stays r ok sound
  freed_stay (Publish r d roles) ok sound = publish_stays r d roles
  freed_stay (RetireDescriptor r d) ok sound = quiet_stays (RetireDescriptor r d) refl (λ d' out. grind arith) (λ d' out. inl (grind arith))
  freed_stay (ScanLast r x n b) ok sound = quiet_stays (ScanLast r x n b) refl
      (λ d out. collected_before (nat_lt (slot_of c d) c.nodes) r x (w.location (slot_of c d)) out)
      (λ d out. collected_out (nat_lt (slot_of c d) c.nodes) r x (w.location (slot_of c d)) out)
  freed_stay (Advance r x n) ok sound = quiet_stays (Advance r x n) refl
      (λ d out. collected_before (nat_lt (slot_of c d) c.nodes) r (x + 1) (w.location (slot_of c d)) out)
      (λ d out. collected_out (nat_lt (slot_of c d) c.nodes) r (x + 1) (w.location (slot_of c d)) out)
  freed_stay (Sweep r ds) ok sound = quiet_stays (Sweep r ds) refl
      (λ d out. swept_out (is_among c ds (slot_of c d)) r (w.location (slot_of c d)) out)
      (λ d out. swept_late (is_among c ds (slot_of c d)) r (w.location (slot_of c d)) out)
  freed_stay e ok sound = quiet_stays e refl (λ d out. out) (λ d out. inl out)
