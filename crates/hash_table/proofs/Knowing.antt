-- What a walk knows of the place that it wants, by its stage, and of its lock.
use Rattle.std.proofs.Common.{◌≡◌, ◌≢◌, ℕ, zero, suc, ◌<◌, ◌⊎◌, inl, inr, Bool, true, false, cond, refl, sym, ap, subst, ◌∙◌, arith, List, [], ◌∷◌, Option, Some, None}
use Rattle.std.specs.Prelude.{◌==◌, ◌&&◌, ◌||◌, not, ◌-◌, nat_le, slice_get}
use Rattle.std.specs.List.{list_any}
use Rattle.std.proofs.lemmas.Option.{none-some}
use Rattle.std.proofs.lemmas.Bool.{and_from}
use Rattle.machine_states.specs.epoch_core.specs.small_lemmas.proofs.Bools.{or_second as or_right}
use Rattle.machine_states.specs.epoch_core.specs.small_lemmas.proofs.Lists.{same_number as some_eq}
use Rattle.machine_states.specs.epoch_core.specs.small_lemmas.proofs.Numbers.{equal_tested as eq_test, tested_other as is_not}
use Rattle.machine_states.specs.map_history.specs.declared.op.Op.{Op}
use Rattle.machine_states.specs.map_history.specs.Keys.{key_of}
use Rattle.machine_states.specs.body_terms.specs.Word.{value_of, is_free, is_spent}
use Rattle.bucket_walks.specs.section_body.specs.Bucket.{bucket_lock, bucket_head}
use Rattle.machine_states.specs.structure_laws.specs.Scene.{Readings}
use Rattle.machine_states.specs.runner_parts.specs.Tests.{has_pair}
use Rattle.bucket_walks.specs.bucket_laws.specs.Walk.{Stage, AtEdition, AtLink, AtKey, AtValue, AtNext, AtLock, AtEnd, Refused, Walk, start, is_del, is_wanted, Bounds, cell_at, wanted_at, fed, walk}
use Rattle.bucket_walks.specs.bucket_laws.specs.Buckets.{is_link_place}
use Rattle.bucket_walks.specs.bucket_laws.proofs.Places.{is_head_link, is_node_link}
use Rattle.bucket_walks.specs.bucket_laws.proofs.Walks.{wanted_eq}
use Rattle.bucket_walks.specs.bucket_laws.proofs.WalkFacts.{Gives}

-- one of a list passes a test
pub any_of : {X : Type 0} (f : X → Bool) (xs : List X) (i : ℕ) (x : X) → slice_get xs i ≡ Some x → f x ≡ true → list_any f xs ≡ true
any_of f [] i x here passes = absurd (cc)
any_of {X} f (y ∷ xs) zero x here passes = ap (λ b. b || list_any f xs) (ap (λ (o : Option X). test o) here ∙ passes)
  where
    test : Option X → Bool
    test None = false
    test (Some z) = f z
any_of f (y ∷ xs) (suc i) x here passes = or_right (f y) (list_any f xs) (any_of f xs i x here passes)

pub free_of : (free spent : Bool) → (free && not spent) ≡ true → (free ≡ true) × (spent ≡ false)
free_of true true h = absurd (cc)
free_of true false h = (refl, refl)
free_of false spent h = absurd (cc)

module _ (buckets : ℕ) (bucket : ℕ → ℕ) (small : (key : ℕ) → bucket key < buckets) (b : Bounds) (op : Op) (all : Readings) where
  abbrev own : ℕ
  own = bucket (key_of op)

  -- the place of a link, or the slot of a node, comes from the readings; the lock's word was read, free and not spent
  abbrev pub Knows : Walk → Stage → Type 0
  Knows w AtEdition = Unit {0}
  Knows w AtLink = (w.place ≡ bucket_head own) ⊎ ((t : ℕ) × Gives buckets bucket small all t × (w.place ≡ cell_at buckets bucket t 3))
  Knows w AtKey = Gives buckets bucket small all w.slot
  Knows w AtValue = Gives buckets bucket small all w.slot
  Knows w AtNext = Gives buckets bucket small all w.slot
  Knows w AtLock = Unit {0}
  Knows w AtEnd = (is_free w.word ≡ true) × (is_spent b.version_max w.word ≡ false) × (has_pair all (bucket_lock own) w.word ≡ true)
  Knows w Refused = Unit {0}

  is_link : (w : Walk) → Knows w AtLink → is_link_place buckets bucket w.place ≡ true
  is_link w (inl head) = ap (is_link_place buckets bucket) head ∙ is_head_link buckets own (small (key_of op))
  is_link w (inr node) = ap (is_link_place buckets bucket) node.2 ∙ is_node_link buckets node.0

  link_fed : (w : Walk) (p word i : ℕ) → Knows w AtLink → w.place ≡ p → slice_get all i ≡ Some (p, word) → (none far : Bool) → (value_of word == 0) ≡ none
      → Knows (record w {
        stage = cond none AtLock (cond far Refused AtKey);
        links = suc w.links;
        head = cond (w.place == bucket_head own) (value_of word) w.head;
        slot = value_of word - 1;
        found = false;
      }) (cond none AtLock (cond far Refused AtKey))
  link_fed w p word i known at here true far e = tt
  link_fed w p word i known at here false true e = tt
  link_fed w p word i known at here false false e =
      any_of (λ reading. is_link_place buckets bucket reading.0 && (value_of reading.1 == suc (value_of word - 1))) all i (p, word) here
      (and_from (is_link_place buckets bucket p) (value_of word == suc (value_of word - 1)) (ap (is_link_place buckets bucket) (sym at) ∙ is_link w known)
      (eq_test (value_of word) (suc (value_of word - 1)) (back (value_of word) (is_not (value_of word) 0 e))))
    where
      back : (v : ℕ) → v ≢ 0 → v ≡ suc (v - 1)
      back v ne = omega (arith, ne)

  key_fed : (w : Walk) → Gives buckets bucket small all w.slot → (c : Bool)
      → Knows (cond c (record w { stage = AtValue }) (record w { stage = AtLink; place = cell_at buckets bucket w.slot 3 })) (cond c (record w { stage = AtValue }) (record w { stage = AtLink; place = cell_at buckets bucket w.slot 3 })).stage
  key_fed w known true = known
  key_fed w known false = inr (w.slot, known, refl)

  value_fed : (w w' : Walk) → w'.slot ≡ w.slot → Gives buckets bucket small all w.slot → (c : Bool) → Knows w' (cond c AtNext AtLock)
  value_fed w w' same known true = subst (Gives buckets bucket small all) (sym same) known
  value_fed w w' same known false = tt

  lock_fed : (w : Walk) (word i : ℕ) → slice_get all i ≡ Some (bucket_lock own, word) → (c : Bool) → (is_free word && not (is_spent b.version_max word)) ≡ c
      → Knows (record w { stage = cond c AtEnd Refused; word = word }) (cond c AtEnd Refused)
  lock_fed w word i here true e = let open_word = free_of (is_free word) (is_spent b.version_max word) e in (
    open_word.0,
    open_word.1,
    any_of (λ x. x.0 == bucket_lock own && x.1 == word) all i (bucket_lock own, word) here
        (and_from (bucket_lock own == bucket_lock own) (word == word) (eq_test (bucket_lock own) (bucket_lock own) refl) (eq_test word word refl)),
  )
  lock_fed w word i here false e = tt

  knows_fed : (w : Walk) (stage : Stage) (p word i : ℕ) → Knows w stage → wanted_at buckets bucket own w stage ≡ Some p → slice_get all i ≡ Some (p, word)
      → Knows (fed buckets bucket b op w stage word) (fed buckets bucket b op w stage word).stage
  knows_fed w AtEdition p word i known want here = inl refl
  knows_fed w AtLink p word i known want here = link_fed w p word i known (some_eq w.place p want) here (value_of word == 0) (nat_le b.links (suc w.links)) refl
  knows_fed w AtKey p word i known want here = key_fed w known (value_of word == key_of op)
  knows_fed w AtValue p word i known want here = value_fed w (fed buckets bucket b op w AtValue word) refl known (is_del op)
  knows_fed w AtNext p word i known want here = tt
  knows_fed w AtLock p word i known want here = lock_fed w word i (here ∙ ap (λ q. Some (q, word)) (sym (some_eq (bucket_lock own) p want))) (is_free word && not (is_spent b.version_max word)) refl
  knows_fed w AtEnd p word i known want here = absurd (none-some p want)
  knows_fed w Refused p word i known want here = absurd (none-some p want)

  -- so it is behind readings that all stand in the list
  pub knows_walked : (w : Walk) (readings : Readings) → ((i : ℕ) (reading : ℕ × ℕ) → slice_get readings i ≡ Some reading → (j : ℕ) × (slice_get all j ≡ Some reading)) → Knows w w.stage
      → Knows (walk buckets bucket b op w readings) (walk buckets bucket b op w readings).stage
  unfolding walk
  knows_walked w [] within known = known
  knows_walked w (reading ∷ readings) within known = go (is_wanted (wanted_at buckets bucket own w w.stage) reading.0) refl
      (knows_walked (fed buckets bucket b op w w.stage reading.1) readings (λ i other h. within (suc i) other h))
    where
      go : (c : Bool) → is_wanted (wanted_at buckets bucket own w w.stage) reading.0 ≡ c
          → (Knows (fed buckets bucket b op w w.stage reading.1) (fed buckets bucket b op w w.stage reading.1).stage
          → Knows (walk buckets bucket b op (fed buckets bucket b op w w.stage reading.1) readings) (walk buckets bucket b op (fed buckets bucket b op w w.stage reading.1) readings).stage)
          → Knows (cond c (walk buckets bucket b op (fed buckets bucket b op w w.stage reading.1) readings) w) (cond c (walk buckets bucket b op (fed buckets bucket b op w w.stage reading.1) readings) w).stage
      go true e again = let here = within 0 reading refl in
          again (knows_fed w w.stage reading.0 reading.1 here.0 known (wanted_eq (wanted_at buckets bucket own w w.stage) reading.0 e) here.1)
      go false e again = known

pub knows : (buckets : ℕ) (bucket : ℕ → ℕ) (small : (key : ℕ) → bucket key < buckets) (b : Bounds) (op : Op) (readings : Readings)
    → Knows buckets bucket small b op readings (walk buckets bucket b op start readings) (walk buckets bucket b op start readings).stage
knows buckets bucket small b op readings = knows_walked buckets bucket small b op readings start readings (λ i reading h. (i, h)) tt
