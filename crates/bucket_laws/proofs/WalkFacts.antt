-- What a walk of the hash table takes from its readings alone.
use Rattle.std.proofs.Common.{◌≡◌, ◌≢◌, ℕ, zero, suc, ◌<◌, Bool, true, false, cond, refl, sym, ap, ◌∙◌, inl, inr, ⊎_elim, arith}
use Rattle.std.specs.Prelude.{◌==◌, ◌&&◌, not, ◌-◌, ◌^◌, ◌⊎◌, nat_le, Option, Some, None, [], ◌∷◌, slice_get}
use Rattle.std.specs.List.{list_any}
use Rattle.std.proofs.lemmas.Option.{none-some}
use Rattle.std.proofs.lemmas.Bool.{and_from, both_ways}
use Rattle.structure_laws.specs.table_words.specs.small_lemmas.proofs.Bools.{or_first as or_left, or_second as or_right}
use Rattle.structure_laws.specs.table_words.specs.small_lemmas.proofs.Lists.{same_number as some_eq}
use Rattle.structure_laws.specs.table_words.specs.small_lemmas.proofs.Numbers.{equal_tested as eq_test, tested_other as is_not}
use Rattle.structure_laws.specs.map_history.specs.declared.op.Op.{Op}
use Rattle.structure_laws.specs.map_history.specs.Keys.{key_of}
use Rattle.structure_laws.specs.body_terms.specs.Word.{value_of, is_free, is_spent}
use Rattle.bucket_bodies.specs.section_body.specs.Bucket.{bucket_head}
use Rattle.structure_laws.specs.Scene.{Readings}
use Rattle.structure_laws.proofs.Changes.{value_small}
use Rattle.bucket_laws.specs.Walk.{Stage, AtEdition, AtLink, AtKey, AtValue, AtNext, AtLock, AtEnd, Refused, Walk}
use Rattle.bucket_laws.specs.Walk.{start, is_wanted, Bounds, cell_at, wanted_at, fed, walk}
use Rattle.bucket_laws.specs.Buckets.{is_link_place}
use Rattle.bucket_laws.proofs.Places.{is_head_link, is_node_link}
use Rattle.bucket_laws.proofs.Walks.{wanted_eq}

-- where a link leads on to a key it isn't 0
not_none : (none far : Bool) → cond none AtLock (cond far Refused AtKey) ≡ AtKey → none ≡ false
not_none true far e = absurd (cc)
not_none false far e = refl

module _ (buckets : ℕ) (bucket : ℕ → ℕ) (small : (key : ℕ) → bucket key < buckets) where
  -- the readings give a link to this slot
  abbrev pub Gives : Readings → ℕ → Type 0
  Gives readings t = list_any (λ reading. is_link_place buckets bucket reading.0 && (value_of reading.1 == suc t)) readings ≡ true

  -- a word of a link among the readings gives its slot
  given : (readings : Readings) (i p w t : ℕ) → slice_get readings i ≡ Some (p, w) → is_link_place buckets bucket p ≡ true → value_of w ≡ suc t → Gives readings t
  given [] i p w t h link leads = absurd (cc)
  given (reading ∷ readings) zero p w t h link leads =
      let same = some_pair reading p w h in
      or_left (is_link_place buckets bucket reading.0 && (value_of reading.1 == suc t)) (list_any (λ reading. is_link_place buckets bucket reading.0 && (value_of reading.1 == suc t)) readings)
      (and_from (is_link_place buckets bucket reading.0) (value_of reading.1 == suc t) (ap (is_link_place buckets bucket) same.0 ∙ link) (eq_test (value_of reading.1) (suc t) (ap value_of same.1 ∙ leads)))
    where
      some_pair : (reading : ℕ × ℕ) (p w : ℕ) → Some reading ≡ Some (p, w) → (reading.0 ≡ p) × (reading.1 ≡ w)
      some_pair reading p w e = (ap (λ o. first o) e, ap (λ o. second o) e)
        where
          first : Option (ℕ × ℕ) → ℕ
          first None = 0
          first (Some reading) = reading.0

          second : Option (ℕ × ℕ) → ℕ
          second None = 0
          second (Some reading) = reading.1
  given (reading ∷ readings) (suc i) p w t h link leads =
      or_right (is_link_place buckets bucket reading.0 && (value_of reading.1 == suc t)) (list_any (λ reading. is_link_place buckets bucket reading.0 && (value_of reading.1 == suc t)) readings) (given readings i p w t h link leads)

  -- the walk's last link led to the slot at which it is now
  abbrev pub IsAtNode : Walk → Type 0
  IsAtNode w = (w.stage ≡ AtKey) ⊎ (w.stage ≡ AtValue) ⊎ (w.stage ≡ AtNext) ⊎ (w.found ≡ true)

  -- the place of the last link, the slot to which it leads, and what is small
  pub record WalkFacts (all : Readings) (op : Op) (w : Walk) : Type 0 where
    pub place : w.stage ≢ AtEdition → (w.place ≡ bucket_head (bucket (key_of op))) ⊎ ((t : ℕ) × Gives all t × (w.place ≡ cell_at buckets bucket t 3))
    pub slot : IsAtNode w → Gives all w.slot
    pub head_small : w.head < 2 ^ 32
    pub slot_small : w.slot < 2 ^ 32
    pub next_small : w.next < 2 ^ 32
    pub value_small : w.value < 2 ^ 32

  pub facts_fed : (all : Readings) (b : Bounds) (op : Op) (w : Walk) (stage : Stage) (p word i : ℕ) → WalkFacts all op w → w.stage ≡ stage → wanted_at buckets bucket (bucket (key_of op)) w stage ≡ Some p
      → slice_get all i ≡ Some (p, word) → WalkFacts all op (fed buckets bucket b op w stage word)
  facts_fed all b op w AtEdition p word i facts at want h = record { place = λ ne. inl refl; slot = λ e. ⊎_elim (λ key. absurd (let is = key in cc)) (⊎_elim (λ value. absurd (let is = value in cc)) (⊎_elim (λ next. absurd (let is = next in cc)) (λ found. facts.slot (inr (inr (inr found)))))) e; head_small = facts.head_small; slot_small = facts.slot_small; next_small = facts.next_small; value_small = facts.value_small }
  facts_fed all b op w AtLink p word i facts at want h = record {
    place = λ ne. facts.place (λ e. link_edition (sym at ∙ e));
    slot = λ e. let some = is_not (value_of word) 0 (not_none (value_of word == 0) (nat_le b.links (suc w.links)) (at_key (value_of word == 0) (nat_le b.links (suc w.links)) e)) in
        given all i p word (value_of word - 1) h (ap (is_link_place buckets bucket) (sym (some_eq w.place p want)) ∙ link_is (facts.place (λ e'. link_edition (sym at ∙ e')))) (omega arith);
    head_small = pick (w.place == bucket_head (bucket (key_of op))) (value_of word) w.head (value_small word) facts.head_small;
    slot_small = let low = value_small word in omega arith;
    next_small = facts.next_small;
    value_small = facts.value_small;
  }
    where
      link_edition : AtLink ≡ AtEdition → ⊥
      link_edition e = cc

      at_key : (none far : Bool) → (cond none AtLock (cond far Refused AtKey) ≡ AtKey) ⊎ (cond none AtLock (cond far Refused AtKey) ≡ AtValue) ⊎ (cond none AtLock (cond far Refused AtKey) ≡ AtNext) ⊎ (false ≡ true)
          → cond none AtLock (cond far Refused AtKey) ≡ AtKey
      at_key none far e = ⊎_elim (λ key. key) (⊎_elim (λ value. absurd (no_value none far value)) (⊎_elim (λ next. absurd (no_next none far next)) (λ found. absurd (false_true found)))) e
        where
          no_value : (none far : Bool) → cond none AtLock (cond far Refused AtKey) ≡ AtValue → ⊥
          no_value true far e = cc
          no_value false true e = cc
          no_value false false e = cc

          no_next : (none far : Bool) → cond none AtLock (cond far Refused AtKey) ≡ AtNext → ⊥
          no_next true far e = cc
          no_next false true e = cc
          no_next false false e = cc

          false_true : false ≡ true → ⊥
          false_true e = cc

      link_is : (w.place ≡ bucket_head (bucket (key_of op))) ⊎ ((t : ℕ) × Gives all t × (w.place ≡ cell_at buckets bucket t 3)) → is_link_place buckets bucket w.place ≡ true
      link_is place = ⊎_elim (λ head. ap (is_link_place buckets bucket) head ∙ is_head_link buckets (bucket (key_of op)) (small (key_of op))) (λ node. ap (is_link_place buckets bucket) node.2 ∙ is_node_link buckets node.0) place

      pick : (c : Bool) (x y : ℕ) → x < 2 ^ 32 → y < 2 ^ 32 → cond c x y < 2 ^ 32
      pick true x y low low' = low
      pick false x y low low' = low'
  facts_fed all b op w AtKey p word i facts at want h = pick (value_of word == key_of op)
    where
      key_edition : AtKey ≡ AtEdition → ⊥
      key_edition e = cc

      pick : (c : Bool) → WalkFacts all op (cond c (record w { stage = AtValue }) (record w { stage = AtLink; place = cell_at buckets bucket w.slot 3 }))
      pick true = record { place = λ ne. facts.place (λ e. key_edition (sym at ∙ e)); slot = λ e. facts.slot (inl at); head_small = facts.head_small; slot_small = facts.slot_small; next_small = facts.next_small; value_small = facts.value_small }
      pick false = record { place = λ ne. inr (w.slot, facts.slot (inl at), refl); slot = λ e. facts.slot (inl at); head_small = facts.head_small; slot_small = facts.slot_small; next_small = facts.next_small; value_small = facts.value_small }
  facts_fed all b op w AtValue p word i facts at want h = record {
    place = λ ne. facts.place (λ e. value_edition (sym at ∙ e));
    slot = λ e. facts.slot (inr (inl at));
    head_small = facts.head_small;
    slot_small = facts.slot_small;
    next_small = facts.next_small;
    value_small = value_small word;
  }
    where
      value_edition : AtValue ≡ AtEdition → ⊥
      value_edition e = cc
  facts_fed all b op w AtNext p word i facts at want h = record {
    place = λ ne. facts.place (λ e. next_edition (sym at ∙ e));
    slot = λ e. facts.slot (inr (inr (inl at)));
    head_small = facts.head_small;
    slot_small = facts.slot_small;
    next_small = value_small word;
    value_small = facts.value_small;
  }
    where
      next_edition : AtNext ≡ AtEdition → ⊥
      next_edition e = cc
  facts_fed all b op w AtLock p word i facts at want h = record {
    place = λ ne. facts.place (λ e. lock_edition (sym at ∙ e));
    slot = λ e. facts.slot (inr (inr (inr (found (is_free word && not (is_spent b.version_max word)) e))));
    head_small = facts.head_small;
    slot_small = facts.slot_small;
    next_small = facts.next_small;
    value_small = facts.value_small;
  }
    where
      lock_edition : AtLock ≡ AtEdition → ⊥
      lock_edition e = cc

      found : (c : Bool) → (cond c AtEnd Refused ≡ AtKey) ⊎ (cond c AtEnd Refused ≡ AtValue) ⊎ (cond c AtEnd Refused ≡ AtNext) ⊎ (w.found ≡ true) → w.found ≡ true
      found c e = ⊎_elim (λ key. absurd (no_key c key)) (⊎_elim (λ value. absurd (no_value c value)) (⊎_elim (λ next. absurd (no_next c next)) (λ found. found))) e
        where
          no_key : (c : Bool) → cond c AtEnd Refused ≡ AtKey → ⊥
          no_key true e = cc
          no_key false e = cc

          no_value : (c : Bool) → cond c AtEnd Refused ≡ AtValue → ⊥
          no_value true e = cc
          no_value false e = cc

          no_next : (c : Bool) → cond c AtEnd Refused ≡ AtNext → ⊥
          no_next true e = cc
          no_next false e = cc
  facts_fed all b op w AtEnd p word i facts at want h = absurd (none-some p want)
  facts_fed all b op w Refused p word i facts at want h = absurd (none-some p want)

  -- the walk in readings that all stand in a list
  facts_walked : (all : Readings) (b : Bounds) (op : Op) (w : Walk) (readings : Readings) → ((i : ℕ) (reading : ℕ × ℕ) → slice_get readings i ≡ Some reading → (j : ℕ) × (slice_get all j ≡ Some reading)) → WalkFacts all op w
      → WalkFacts all op (walk buckets bucket b op w readings)
  unfolding walk
  facts_walked all b op w [] within facts = facts
  facts_walked all b op w (reading ∷ readings) within facts = go (is_wanted (wanted_at buckets bucket (bucket (key_of op)) w w.stage) reading.0) refl
      (facts_walked all b op (fed buckets bucket b op w w.stage reading.1) readings (λ i other h. within (suc i) other h))
    where
      go : (c : Bool) → is_wanted (wanted_at buckets bucket (bucket (key_of op)) w w.stage) reading.0 ≡ c
          → (WalkFacts all op (fed buckets bucket b op w w.stage reading.1) → WalkFacts all op (walk buckets bucket b op (fed buckets bucket b op w w.stage reading.1) readings))
          → WalkFacts all op (cond c (walk buckets bucket b op (fed buckets bucket b op w w.stage reading.1) readings) w)
      go true e again = let here = within 0 reading refl in again (facts_fed all b op w w.stage reading.0 reading.1 here.0 facts refl (wanted_eq (wanted_at buckets bucket (bucket (key_of op)) w w.stage) reading.0 e) here.1)
      go false e again = facts

  -- a walk that hasn't begun, and one that begins at its head
  pub no_node : (w : Walk) → w.found ≡ false → (w.stage ≡ AtEdition) ⊎ (w.stage ≡ AtLink) → IsAtNode w → ⊥
  no_node w found early at = ⊎_elim (λ first. by AtEdition first (λ e. cc) (λ e. cc) (λ e. cc))
      (λ link. by AtLink link (λ e. cc) (λ e. cc) (λ e. cc)) early
    where
      by : (stage : Stage) → w.stage ≡ stage → (stage ≡ AtKey → ⊥) → (stage ≡ AtValue → ⊥) → (stage ≡ AtNext → ⊥) → ⊥
      by stage is key value next = ⊎_elim (λ e. key (sym is ∙ e)) (⊎_elim (λ e. value (sym is ∙ e))
          (⊎_elim (λ e. next (sym is ∙ e)) (λ e. both_ways w.found found e))) at

  pub start_facts : (all : Readings) (op : Op) → WalkFacts all op start
  start_facts all op = record {
    place = λ ne. absurd (ne refl);
    slot = λ e. absurd (no_node start refl (inl refl) e);
    head_small = omega arith;
    slot_small = omega arith;
    next_small = omega arith;
    value_small = omega arith;
  }

  pub walk_facts : (b : Bounds) (op : Op) (readings : Readings) → WalkFacts readings op (walk buckets bucket b op start readings)
  walk_facts b op readings = facts_walked readings b op start readings (λ i reading h. (i, h)) (start_facts readings op)
