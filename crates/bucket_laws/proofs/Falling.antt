-- Along a walk of what stands there are fewer and fewer slots ahead.
use Rattle.std.specs.Prelude.{◌==◌, ◌&&◌, ◌-◌, ◌%◌, not, cond, nat_lt, nat_le, Bool, true, false, ◌⊎◌}
use Rattle.std.proofs.Common.{◌≡◌, ℕ, suc, ◌+◌, ◌*◌, ◌<◌, ◌≤◌, [], ◌∷◌, refl, sym, ap, ◌∙◌, ⊎_elim, inl, inr, arith, Some}
use Rattle.std.proofs.lemmas.Option.{none-some}
use Rattle.structure_laws.specs.table_words.specs.small_lemmas.proofs.Lists.{same_number as some_eq}
use Rattle.structure_laws.specs.table_words.specs.small_lemmas.proofs.Numbers.{tested_other as is_not}
use Rattle.structure_laws.specs.map_history.specs.declared.op.Op.{Op}
use Rattle.structure_laws.specs.map_history.specs.Keys.{key_of}
use Rattle.structure_laws.specs.map_history.specs.Replay.{Pairs}
use Rattle.structure_laws.specs.body_terms.specs.Word.{value_of, is_free, is_spent}
use Rattle.bucket_bodies.specs.section_body.specs.Bucket.{bucket_head}
use Rattle.structure_laws.specs.Scene.{Cells, Readings}
use Rattle.structure_laws.specs.Stand.{StandIn}
use Rattle.structure_laws.specs.Ranks.{lower}
use Rattle.structure_laws.proofs.Lower.{lower_few, lower_falls}
use Rattle.bucket_laws.specs.Walk.{Stage, AtEdition, AtLink, AtKey, AtValue, AtNext, AtLock, AtEnd, Refused, Walk, start, is_del, is_wanted, Bounds, cell_at, wanted_at, fed, walk}
use Rattle.bucket_laws.specs.Buckets.{table, BucketsStand}
use Rattle.bucket_laws.proofs.Places.{third, lt_false, eq_false}
use Rattle.bucket_laws.proofs.Walks.{wanted_eq, head_is}

module _ (buckets : ℕ) (bucket : ℕ → ℕ) (small : (key : ℕ) → bucket key < buckets) (slots : ℕ) (cells : Cells) (pairs : Pairs)
    (stands : BucketsStand buckets bucket slots cells pairs) (b : Bounds) (op : Op) where
  -- how many slots rank below this one
  abbrev pub ahead : ℕ → ℕ
  ahead = lower stands.on stands.rank slots

  -- the walk's last link leads to a slot in a chain; the links that it has loaded and the slots ahead are no more than there are slots
  pub record IsIn (w : Walk) : Type 0 where
    pub on : stands.on w.slot ≡ true
    pub few : w.links + ahead w.slot ≤ slots

  -- the links that a walk has loaded, at each stage
  abbrev pub Few : Walk → Stage → Type 0
  Few w AtEdition = w.links ≡ 0
  Few w AtLink = ((w.links ≡ 0) × (w.place ≡ bucket_head (bucket (key_of op)))) ⊎ (IsIn w × (w.place ≡ cell_at buckets bucket w.slot 3))
  Few w AtKey = IsIn w
  Few w stage = w.links ≤ slots + 1

  pub few_links : (w : Walk) (stage : Stage) → Few w stage → w.links ≤ slots + 1
  few_links w AtEdition few = omega (arith, few)
  few_links w AtLink few = ⊎_elim (λ first. let none = first.0 in omega (arith, none)) (λ later. let most = later.0.few in omega (arith, most)) few
  few_links w AtKey few = let most = few.few in omega (arith, most)
  few_links w AtValue few = few
  few_links w AtNext few = few
  few_links w AtLock few = few
  few_links w AtEnd few = few
  few_links w Refused few = few

  -- no link is a lock
  head_unlocked : (i : ℕ) → (nat_lt (bucket_head i) (3 * buckets) && (bucket_head i % 3 == 0)) ≡ false
  head_unlocked i = let rest = third i 2 (omega arith) in
      and_false (nat_lt (bucket_head i) (3 * buckets)) (bucket_head i % 3 == 0) (eq_false (bucket_head i % 3) 0 (λ e. omega (arith, rest, e)))
    where
      and_false : (x y : Bool) → y ≡ false → (x && y) ≡ false
      and_false true y e = e
      and_false false y e = refl

  cell_unlocked : (slot k : ℕ) → (nat_lt (cell_at buckets bucket slot k) (3 * buckets) && (cell_at buckets bucket slot k % 3 == 0)) ≡ false
  cell_unlocked slot k = ap (λ c. c && (cell_at buckets bucket slot k % 3 == 0)) (lt_false (cell_at buckets bucket slot k) (3 * buckets) (omega arith))

  -- behind a link that leads to a slot there is one more load of a link, and the slot itself is ahead no more
  behind : (w : Walk) → Few w AtLink → (t : ℕ) → value_of (cells w.place) ≡ suc t → (stands.on t ≡ true) × (suc w.links + ahead t ≤ slots)
  behind w few t leads = ⊎_elim
      (λ first.
      let there = stands.chains.head_on (bucket (key_of op)) t (head_is buckets bucket small cells (key_of op) ∙ (ap (λ p. value_of (cells p)) (sym first.1) ∙ leads)) in
      let below = lower_few stands.on stands.rank slots stands.within t there.0 in
      let none = first.0 in
      (there.0, omega (arith, none, below)))
      (λ later.
      let there = stands.chains.next_on w.slot t later.0.on (ap (λ p. value_of (cells p)) (sym later.1) ∙ leads) in
      let below = lower_falls stands.on stands.rank slots stands.within w.slot t there.0 there.2 in
      let most = later.0.few in
      (there.0, omega (arith, most, below)))
      few

  link_unlocked : (w : Walk) → Few w AtLink → (table false buckets bucket).is_lock w.place ≡ false
  link_unlocked w few = ⊎_elim
      (λ first. ap (λ p. nat_lt p (3 * buckets) && (p % 3 == 0)) first.1 ∙ head_unlocked (bucket (key_of op)))
      (λ later. ap (λ p. nat_lt p (3 * buckets) && (p % 3 == 0)) later.1 ∙ cell_unlocked w.slot 3) few

  pub few_fed : (w : Walk) (stage : Stage) (p word : ℕ) → Few w stage → wanted_at buckets bucket (bucket (key_of op)) w stage ≡ Some p
      → ((table false buckets bucket).is_lock p ≡ false → cells p ≡ word)
      → Few (fed buckets bucket b op w stage word) (fed buckets bucket b op w stage word).stage
  few_fed w AtEdition p word few want reads = inl (few, refl)
  few_fed w AtLink p word few want reads = by (value_of word == 0) (nat_le b.links (suc w.links)) refl
    where
      found : cells w.place ≡ word
      found = ap cells (some_eq w.place p want) ∙ reads (ap (table false buckets bucket).is_lock (sym (some_eq w.place p want)) ∙ link_unlocked w few)

      one_more : suc w.links ≤ slots + 1
      one_more = ⊎_elim (λ first. let none = first.0 in omega (arith, none)) (λ later. let most = later.0.few in omega (arith, most)) few

      by : (none far : Bool) → (value_of word == 0) ≡ none
          → Few (record (fed buckets bucket b op w AtLink word) { stage = cond none AtLock (cond far Refused AtKey) }) (cond none AtLock (cond far Refused AtKey))
      by true far e = one_more
      by false true e = one_more
      by false false e =
          let some = is_not (value_of word) 0 e in
          let t = value_of word - 1 in
          let next = behind w few t (ap value_of found ∙ omega (arith, some)) in
          record { on = next.0; few = next.1 }
  few_fed w AtKey p word few want reads = by (value_of word == key_of op)
    where
      by : (same : Bool) → Few (cond same (record w { stage = AtValue }) (record w { stage = AtLink; place = cell_at buckets bucket w.slot 3 }))
          (cond same (record w { stage = AtValue }) (record w { stage = AtLink; place = cell_at buckets bucket w.slot 3 })).stage
      by true = few_links w AtKey few
      by false = inr (record { on = few.on; few = few.few }, refl)
  few_fed w AtValue p word few want reads = by (is_del op)
    where
      by : (del : Bool) → Few (record w { stage = cond del AtNext AtLock; value = value_of word; found = true }) (cond del AtNext AtLock)
      by true = few
      by false = few
  few_fed w AtNext p word few want reads = few
  few_fed w AtLock p word few want reads = by (is_free word && not (is_spent b.version_max word))
    where
      by : (free : Bool) → Few (record w { stage = cond free AtEnd Refused; word = word }) (cond free AtEnd Refused)
      by true = few
      by false = few
  few_fed w AtEnd p word few want reads = absurd (none-some p want)
  few_fed w Refused p word few want reads = absurd (none-some p want)

  few_walked : (w : Walk) (readings : Readings) → StandIn (table false buckets bucket) cells readings → Few w w.stage
      → Few (walk buckets bucket b op w readings) (walk buckets bucket b op w readings).stage
  unfolding walk
  few_walked w [] stand few = few
  few_walked w (reading ∷ readings) stand few =
      go (is_wanted (wanted_at buckets bucket (bucket (key_of op)) w w.stage) reading.0) refl
      (few_walked (fed buckets bucket b op w w.stage reading.1) readings (λ i place word at. stand (suc i) place word at))
    where
      next : Walk
      next = fed buckets bucket b op w w.stage reading.1

      go : (c : Bool) → is_wanted (wanted_at buckets bucket (bucket (key_of op)) w w.stage) reading.0 ≡ c
          → (Few next next.stage → Few (walk buckets bucket b op next readings) (walk buckets bucket b op next readings).stage)
          → Few (cond c (walk buckets bucket b op next readings) w) (cond c (walk buckets bucket b op next readings) w).stage
      go true e again = again (few_fed w w.stage reading.0 reading.1 few (wanted_eq (wanted_at buckets bucket (bucket (key_of op)) w w.stage) reading.0 e) (stand 0 reading.0 reading.1 refl))
      go false e again = few

  pub few_read : (readings : Readings) → StandIn (table false buckets bucket) cells readings → (walk buckets bucket b op start readings).links ≤ slots + 1
  few_read readings stand = let w = walk buckets bucket b op start readings in few_links w w.stage (few_walked start readings stand refl)
