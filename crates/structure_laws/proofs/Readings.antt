-- Readings against the cells, over each change of a scene.
use Rattle.std.proofs.Common.{◌≡◌, ℕ, zero, suc, ◌<◌, ◌≤◌, true, sym, ap, ◌∙◌, subst, inl, inr, ⊎_elim, length, arith}
use Rattle.std.proofs.lemmas.Option.{slice_get_within}
use Rattle.std.specs.Prelude.{◌⊎◌, Some, List, [], ◌∷◌, ◌++◌, slice_get}
use mathlib.Core.Logic.{dite}
use native.Mathlib.Decide.{ℕ_discrete}
use Rattle.body_terms.specs.Update.{upd}
use Rattle.body_terms.specs.Word.{value_of, version_of}
use Rattle.body_terms.specs.block_words.specs.table_words.specs.declared.layout.Layout.{Layout}
use Rattle.structure_laws.specs.Scene.{Cells, Readings, Scene}
use Rattle.structure_laws.specs.Meaning.{Meaning}
use Rattle.structure_laws.specs.Cells.{IsSeen, IsSafe, IsReader, Links, IsKnown, IsOutside}
use Rattle.structure_laws.specs.Sound.{IsRead, Sound}
use Rattle.structure_laws.specs.Gives.{Gives}
use Rattle.structure_laws.proofs.Changes.{upd_same, upd_other}

-- a reading of a longer list is one of the list, or the last
get_push : {A : Type 0} (xs : List A) (y v : A) (i : ℕ) → slice_get (xs ++ y ∷ []) i ≡ Some v → (slice_get xs i ≡ Some v) ⊎ ((length xs ≤ i) × (y ≡ v))
get_push [] y v zero h = inr (omega arith, cc)
get_push [] y v (suc i) h = absurd (cc)
get_push (x ∷ xs) y v zero h = inl h
get_push (x ∷ xs) y v (suc i) h = ⊎_elim inl (λ last. inr (let past = last.0 in omega arith, last.1)) (get_push xs y v i h)

-- what was seen in a cell is still seen where a cell has got a later version
pub seen_risen : (cells : Cells) (p w q v : ℕ) → version_of (cells p) < version_of w → IsSeen v (cells q) → IsSeen v (upd cells p w q)
seen_risen cells p w q v rises seen = dite (ℕ_discrete q p)
    (λ e. subst (IsSeen v) (sym (upd_same cells p q w e)) (inl (⊎_elim (λ older. let same = ap (λ z. version_of (cells z)) e in omega arith) (λ same. let same' = ap version_of (same ∙ ap cells e) in omega arith) seen)))
    (λ ne. subst (IsSeen v) (sym (upd_other cells p q w ne)) seen)

module _ (m : Meaning) where
  -- readings are read in a later scene, where versions rise, no link is made, and slots stay safe
  pub read_on : (s s' : Scene) (readings : Readings) → IsRead m s readings → ((p w : ℕ) → IsSeen w (s.cells p) → IsSeen w (s'.cells p))
      → ((p : ℕ) → IsOutside m s p → m.is_link s'.cells p ≡ true → m.is_link s.cells p ≡ true) → ((t : ℕ) → IsSafe s t → IsSafe s' t) → IsRead m s' readings
  read_on s s' readings read later links safe = record {
    seen = λ i p w h. later p w (read.seen i p w h);
    rising = read.rising;
    outside = λ i p w h. ⊎_elim inl (⊎_elim (λ lock. inr (inl lock)) (λ slot. inr (inr (slot.0, slot.1, safe slot.0 slot.2)))) (read.outside i p w h);
    safe = λ i p w t h link target. safe t (read.safe i p w t h (links p (read.outside i p w h) link) target);
  }

  -- no readings are read
  pub none_read : (s : Scene) → IsRead m s []
  none_read s = record { seen = λ i p w h. absurd (cc); rising = λ i j p v w le h. absurd (cc); outside = λ i p w h. absurd (cc); safe = λ i p w t h. absurd (cc) }

  -- one more reading
  pub read_more : (s : Scene) (readings : Readings) (p : ℕ) → IsRead m s readings → IsOutside m s p → ((t : ℕ) → Links m s p t → IsSafe s t) → IsRead m s (readings ++ (p, s.cells p) ∷ [])
  read_more s readings p read outside target = record {
    seen = λ i q w h. ⊎_elim (read.seen i q w) (λ last. inr (sym (word_of q w last.1) ∙ ap s.cells (place_of q w last.1))) (push i q w h);
    rising = λ i j q v w le h h'. ⊎_elim
        (λ before. ⊎_elim (λ before'. read.rising i j q v w le before before')
        (λ last. subst (IsSeen v) (ap s.cells (sym (place_of q w last.1)) ∙ word_of q w last.1) (read.seen i q v before)) (push j q w h'))
        (λ last. ⊎_elim (λ before'. absurd (let past = last.0 in let within = slice_get_within readings j (q, w) before' in omega arith))
        (λ last'. inr (sym (word_of q v last.1) ∙ word_of q w last'.1)) (push j q w h')) (push i q v h);
    outside = λ i q w h. ⊎_elim (read.outside i q w) (λ last. subst (IsOutside m s) (place_of q w last.1) outside) (push i q w h);
    safe = λ i q w t h link leads. ⊎_elim (λ before. read.safe i q w t before link leads)
        (λ last. target t (subst (λ q. m.is_link s.cells q ≡ true) (sym (place_of q w last.1)) link, ap value_of (word_of q w last.1) ∙ leads)) (push i q w h);
  }
    where
      push : (i q w : ℕ) → slice_get (readings ++ (p, s.cells p) ∷ []) i ≡ Some (q, w) → (slice_get readings i ≡ Some (q, w)) ⊎ ((length readings ≤ i) × (◌≡◌ {A = ℕ × ℕ} (p, s.cells p) (q, w)))
      push i q w h = get_push readings (p, s.cells p) (q, w) i h

      place_of : (q w : ℕ) → ◌≡◌ {A = ℕ × ℕ} (p, s.cells p) (q, w) → p ≡ q
      place_of q w e = ap (λ reading. reading.0) e

      word_of : (q w : ℕ) → ◌≡◌ {A = ℕ × ℕ} (p, s.cells p) (q, w) → s.cells p ≡ w
      word_of q w e = ap (λ reading. reading.1) e

  module _ (layout : Layout) (s : Scene) (sound : Sound m layout s) (gives : Gives m layout s) (readings : Readings) (reader : IsReader s readings) (read : IsRead m s readings) where
    -- a slot that the readings give is safe
    given_safe : (t : ℕ) → (t < m.fixed_slots) ⊎ (m.reaches readings t ≡ true) → IsSafe s t
    given_safe t given = ⊎_elim (λ fixed. inl (sound.fixed t fixed)) (λ reached. let by = gives.reach readings t reader reached in read.safe by.0 by.1 by.2 t by.3 by.4 by.5) given

    -- a place that they give is no cell of a free slot
    pub known_outside : (p : ℕ) → IsKnown m readings p → IsOutside m s p
    known_outside p known = ⊎_elim inl (λ slot. inr (inr (slot.0, slot.1, given_safe slot.0 slot.2))) known

    -- a link in such a place leads to a safe slot
    pub known_target : (p t : ℕ) → IsKnown m readings p → Links m s p t → IsSafe s t
    known_target p t known links = ⊎_elim (λ fixed. inl (gives.live p t (inl fixed) links))
        (λ slot. ⊎_elim (λ live. inl (gives.live p t (inr (slot.0, slot.1, live)) links))
        (λ retired. ⊎_elim inl (λ later. inr (later.0, later.1, (let order = later.2 in let recent = retired.2 in omega arith)))
        (gives.limbo slot.0 retired.0 t slot.1.0 retired.1 retired.2 slot.1.1 (subst (λ p. Links m s p t) slot.1.2 links)))
        (given_safe slot.0 slot.2)) known
