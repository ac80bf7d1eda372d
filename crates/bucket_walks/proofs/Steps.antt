-- Each load brings a walk nearer to its end.
use Rattle.std.proofs.Common.{◌≡◌, ℕ, suc, ◌<◌, ◌≤◌, [], ◌∷◌, length, Bool, true, false, cond, refl, sym, ap, subst, ◌∙◌, arith, Option, Some}
use Rattle.std.specs.Prelude.{◌==◌, ◌&&◌, not, ◌-◌, nat_le, slice_get, take}
use Rattle.std.proofs.lemmas.Bool.Decides.{nat_tests}
use Rattle.std.proofs.lemmas.Option.{none-some}
use Rattle.structure_laws.specs.table_words.specs.small_lemmas.proofs.Numbers.{self_tested}
use Rattle.structure_laws.specs.map_history.specs.declared.op.Op.{Op}
use Rattle.structure_laws.specs.map_history.specs.Keys.{key_of}
use Rattle.structure_laws.specs.body_terms.specs.Word.{value_of, is_free, is_spent}
use Rattle.structure_laws.specs.Scene.{Readings}
use Rattle.bucket_laws.specs.Walk.{Stage, AtEdition, AtLink, AtKey, AtValue, AtNext, AtLock, AtEnd, Refused, Walk, Bounds, is_del, is_wanted, wanted_at, fed, walk, cell_at}
use Rattle.bucket_walks.specs.Left.{left_at, left_in}

link_nearer : (links limit : ℕ) (none far : Bool) → nat_le limit (suc links) ≡ far → left_at (cond none AtLock (cond far Refused AtKey)) (limit - suc links) < left_at AtLink (limit - links)
link_nearer links limit true far e = omega arith
link_nearer links limit false true e = omega arith
link_nearer links limit false false e = let low : suc links < limit = grind (arith, nat_tests, e) in omega (arith, low)

key_nearer : (w : Walk) (place left : ℕ) (c : Bool) → left_at (cond c (record w { stage = AtValue }) (record w { stage = AtLink; place = place })).stage left < left_at AtKey left
key_nearer w place left true = omega arith
key_nearer w place left false = omega arith

same_links : (w : Walk) (place : ℕ) (c : Bool) → (cond c (record w { stage = AtValue }) (record w { stage = AtLink; place = place })).links ≡ w.links
same_links w place true = refl
same_links w place false = refl

value_nearer : (left : ℕ) (c : Bool) → left_at (cond c AtNext AtLock) left < left_at AtValue left
value_nearer left true = omega arith
value_nearer left false = omega arith

lock_nearer : (left : ℕ) (c : Bool) → left_at (cond c AtEnd Refused) left < left_at AtLock left
lock_nearer left true = omega arith
lock_nearer left false = omega arith

module _ (buckets : ℕ) (bucket : ℕ → ℕ) (b : Bounds) (op : Op) where
  abbrev wanted_by : Walk → Stage → Option ℕ
  wanted_by w stage = wanted_at buckets bucket (bucket (key_of op)) w stage

  nearer_at : (w : Walk) (stage : Stage) (place word : ℕ) → wanted_by w stage ≡ Some place
      → left_in b (fed buckets bucket b op w stage word) < left_at stage (b.links - w.links)
  nearer_at w AtEdition place word wants = omega arith
  nearer_at w AtLink place word wants = link_nearer w.links b.links (value_of word == 0) (nat_le b.links (suc w.links)) refl
  nearer_at w AtKey place word wants =
      let cell = cell_at buckets bucket w.slot 3 in
      let c = value_of word == key_of op in
      subst (λ n. left_at (cond c (record w { stage = AtValue }) (record w { stage = AtLink; place = cell })).stage n < left_at AtKey (b.links - w.links))
      (ap (λ n. b.links - n) (sym (same_links w cell c))) (key_nearer w cell (b.links - w.links) c)
  nearer_at w AtValue place word wants = value_nearer (b.links - w.links) (is_del op)
  nearer_at w AtNext place word wants = omega arith
  nearer_at w AtLock place word wants = lock_nearer (b.links - w.links) (is_free word && not (is_spent b.version_max word))
  nearer_at w AtEnd place word wants = absurd (none-some place wants)
  nearer_at w Refused place word wants = absurd (none-some place wants)

  pub nearer : (w : Walk) (place word : ℕ) → wanted_by w w.stage ≡ Some place → left_in b (fed buckets bucket b op w w.stage word) < left_in b w
  nearer w place word wants = nearer_at w w.stage place word wants

  abbrev walked : Walk → Readings → Walk
  walked w readings = walk buckets bucket b op w readings

  -- a walk goes on by a reading that it wants
  goes_on : (w : Walk) (place word : ℕ) (readings : Readings) → wanted_by w w.stage ≡ Some place
      → walked w ((place, word) ∷ readings) ≡ walked (fed buckets bucket b op w w.stage word) readings
  unfolding walk
  goes_on w place word readings wants =
      ap (λ c. cond c (walked (fed buckets bucket b op w w.stage word) readings) w) (ap (λ o. is_wanted o place) wants ∙ self_tested place)

  -- readings each of which the walk wants are no more than it had left
  pub few_left : (w : Walk) (readings : Readings)
      → ((i place word : ℕ) → slice_get readings i ≡ Some (place, word) → wanted_by (walked w (take i readings)) (walked w (take i readings)).stage ≡ Some place)
      → length readings ≤ left_in b w
  unfolding walk
  few_left w [] walks = omega arith
  few_left w (reading ∷ readings) walks =
      let wants = walks 0 reading.0 reading.1 refl in
      let others = few_left (fed buckets bucket b op w w.stage reading.1) readings
      (λ i place word here. subst (λ (v : Walk). wanted_by v v.stage ≡ Some place) (goes_on w reading.0 reading.1 (take i readings) wants) (walks (suc i) place word here)) in
      let near = nearer w reading.0 reading.1 wants in
      omega (arith, others, near)
