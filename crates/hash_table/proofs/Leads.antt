-- The walk of a bucket leads a runner as the hash table plans.
use Rattle.std.proofs.Common.{◌≡◌, ℕ, suc, ◌+◌, ◌*◌, ◌^◌, ◌<◌, ◌≤◌, ◌⊎◌, inl, inr, List, [], ◌∷◌, ◌++◌, length, Bool, true, false, cond, refl, sym, ap, subst, ◌∙◌, arith, Option, Some, None}
use Rattle.std.specs.Prelude.{◌==◌, ◌&&◌, ◌||◌, not, ◌-◌, ◌/◌, ◌%◌, nat_lt, nat_le, is_some, if◌then◌else◌}
use Rattle.std.specs.List.{list_any}
use Rattle.std.proofs.lemmas.Option.{none-some}
use Rattle.machine_states.specs.epoch_core.specs.small_lemmas.proofs.Lists.{same_number as some_eq}
use Rattle.machine_states.specs.epoch_core.specs.small_lemmas.proofs.Numbers.{self_tested as self}
use Rattle.machine_states.specs.map_history.specs.declared.op.Op.{Op}
use Rattle.machine_states.specs.map_history.specs.declared.op.Op.TheVariants.{Get, Ins, Del, Put, Mov}
use Rattle.machine_states.specs.map_history.specs.Keys.{key_of}
use Rattle.machine_states.specs.body_terms.specs.Word.{value_of, is_free, is_spent}
use Rattle.bucket_walks.specs.section_body.specs.Bucket.{bucket_index, bucket_lock, bucket_edition}
use Rattle.machine_states.specs.table_words.specs.declared.layout.Layout.{Layout}
use Rattle.machine_states.specs.table_words.specs.Places.{slot_count}
use Rattle.machine_states.specs.structure_laws.specs.Scene.{Readings}
use Rattle.machine_states.specs.runner_parts.specs.Tests.{is_readable}
use Rattle.bucket_walks.specs.bucket_laws.specs.Walk.{Stage, AtEdition, AtLink, AtKey, AtValue, AtNext, AtLock, AtEnd, Refused, Walk, is_del, has_one_key, is_end, same_numbers, Bounds, cell_at, wanted_at, fed, form_for, operands_for, fits_walk}
use Rattle.bucket_walks.specs.bucket_laws.specs.Buckets.{buckets_meaning, table, bounds, is_link_place, LinksWithin}
use Rattle.bucket_walks.specs.bucket_laws.proofs.Places.{third, slot_at, lt_true, lt_false, eq_false}
use Rattle.bucket_walks.specs.bucket_laws.proofs.TableLaws.{bucket_small}
use Rattle.bucket_walks.specs.bucket_laws.proofs.TableGives.{reached}
use Rattle.bucket_walks.specs.bucket_laws.proofs.WalkFacts.{Gives}
use Rattle.bucket_walks.proofs.Steps.{nearer}
use Rattle.lock_walks.specs.try_lock.specs.declared.planned.Planned.{Planned}
use Rattle.lock_walks.specs.try_lock.specs.declared.planned.Planned.TheVariants as answers
use Rattle.lock_walks.specs.try_lock.specs.Plans.{refused_by_lock}
use Rattle.lock_walks.specs.Way.{fed_all, IsLedBy, IsThunkFor, Leads}
use Rattle.lock_walks.proofs.Each.{each_more}
use Rattle.lock_walks.proofs.Following.{followed_led}
use Rattle.hash_table.specs.Walking.{Walking, begun, is_refused_at, is_refused_of, wanted_by, fed_by, thunk_by}
use Rattle.hash_table.specs.Planned.{bucket_planning, bucket_way, walk_in}
use Rattle.hash_table.proofs.Following.{in_readings}
use Rattle.hash_table.proofs.Knowing.{Knows, knows}

-- where a place stands
module _ (buckets : ℕ) (bucket : ℕ → ℕ) where
  pub no_lock : (i r : ℕ) → 1 ≤ r → r ≤ 2 → (nat_lt (3 * i + r) (3 * buckets) && ((3 * i + r) % 3 == 0)) ≡ false
  no_lock i r some few = let rest = third i r (omega (arith, few)) in
      and_false (nat_lt (3 * i + r) (3 * buckets)) ((3 * i + r) % 3 == 0) (eq_false ((3 * i + r) % 3) 0 (λ e. omega (arith, rest, some, e)))
    where
      and_false : (a b : Bool) → b ≡ false → (a && b) ≡ false
      and_false true b e = e
      and_false false b e = refl

  pub no_lock_cell : (slot k : ℕ) → (nat_lt (cell_at buckets bucket slot k) (3 * buckets) && (cell_at buckets bucket slot k % 3 == 0)) ≡ false
  no_lock_cell slot k = ap (λ b. b && (cell_at buckets bucket slot k % 3 == 0)) (lt_false (cell_at buckets bucket slot k) (3 * buckets) (omega arith))

  pub lock_here : (i : ℕ) → i < buckets → (nat_lt (3 * i) (3 * buckets) && (3 * i % 3 == 0)) ≡ true
  lock_here i low = let rest : 3 * i % 3 ≡ 0 = omega arith in let below = lt_true (3 * i) (3 * buckets) (omega (arith, low)) in (λ j. below j && (rest j == 0))

  -- a fixed cell may be read, and so may a cell of a slot that the readings reach
  pub fixed_readable : (readings : Readings) (p : ℕ) → p < 3 * buckets → is_readable (table false buckets bucket) readings p ≡ true
  fixed_readable readings p low = ap (λ b. b || ((nat_lt p (3 * buckets) && (p % 3 == 0)) || (nat_lt ((p - 3 * buckets) / 5) 0 || reaches readings ((p - 3 * buckets) / 5)))) (lt_true p (3 * buckets) low)
    where
      reaches : Readings → ℕ → Bool
      reaches readings slot = list_any (λ reading. is_link_place buckets bucket reading.0 && (value_of reading.1 == suc slot)) readings

  pub cell_readable : (readings : Readings) (small : (key : ℕ) → bucket key < buckets) (slot k : ℕ) → k < 5 → Gives buckets bucket small readings slot
      → is_readable (table false buckets bucket) readings (cell_at buckets bucket slot k) ≡ true
  cell_readable readings small slot k low gives = lasts (nat_lt (cell_at buckets bucket slot k) (3 * buckets)) (nat_lt (cell_at buckets bucket slot k) (3 * buckets) && (cell_at buckets bucket slot k % 3 == 0))
      (nat_lt ((cell_at buckets bucket slot k - 3 * buckets) / 5) 0) _
      (ap (λ t. list_any (λ reading. is_link_place buckets bucket reading.0 && (value_of reading.1 == suc t)) readings) (slot_at (3 * buckets) slot k low) ∙ gives)
    where
      lasts : (a b c d : Bool) → d ≡ true → (a || (b || (c || d))) ≡ true
      lasts a b c d e = grind (arith, e)

-- whether a walk is refused
pub link_refuses : (none far : Bool) (answer : Planned) → is_refused_at (cond none AtLock (cond far Refused AtKey))
    ≡ is_some (if (is_refused_at (cond none AtLock (cond far Refused AtKey)) && far) then Some answer else None)
link_refuses true far answer = refl
link_refuses false true answer = refl
link_refuses false false answer = refl

pub key_refuses : (w : Walk) (place : ℕ) (far c : Bool) (answer : Planned) → is_refused_at (cond c (record w { stage = AtValue }) (record w { stage = AtLink; place = place })).stage
    ≡ is_some (if (is_refused_at (cond c (record w { stage = AtValue }) (record w { stage = AtLink; place = place })).stage && far) then Some answer else None)
key_refuses w place far true answer = refl
key_refuses w place far false answer = refl

pub value_refuses : (far c : Bool) (answer : Planned) → is_refused_at (cond c AtNext AtLock) ≡ is_some (if (is_refused_at (cond c AtNext AtLock) && far) then Some answer else None)
value_refuses far true answer = refl
value_refuses far false answer = refl

pub lock_refuses : (free spent : Bool) (a b : Planned) → is_refused_at (cond (free && not spent) AtEnd Refused) ≡ is_some (if free then (if spent then Some a else None) else Some b)
lock_refuses true true a b = refl
lock_refuses true false a b = refl
lock_refuses false spent a b = refl

-- no mark refuses, and no lock
pub unlocked : (lock : Bool) (b : Bool) (o : Option Planned) (a : Planned) (far : Bool) → lock ≡ false → b ≡ is_some (if far then Some a else None)
    → b ≡ is_some (if lock then o else (if far then Some a else None))
unlocked true b o a far e h = absurd (cc)
unlocked false b o a far e h = h

same_self : (xs : List ℕ) → same_numbers xs xs ≡ true
same_self [] = refl
same_self (x ∷ xs) = (λ i. self x i && same_self xs i)

module _ (bits : ℕ) (few : bits ≤ 12) (layout : Layout) (op : Op) where
  abbrev pub hash : ℕ → ℕ
  hash key = bucket_index key bits

  abbrev first : Walking
  first = begun bits op (slot_count layout 0 + 8) layout.version_max

  abbrev pub limits : Bounds
  limits = bounds (2 ^ bits) hash layout

  abbrev pub small : (key : ℕ) → hash key < 2 ^ bits
  small key = bucket_small bits key few

  here : (readings : Readings) → IsLedBy bucket_way first readings → fed_all bucket_way first readings ≡ record first { walk = walk_in bits layout op readings }
  here readings led = followed_led bucket_way first readings led ∙ in_readings first readings

  steady : (w : Walking) (readings : Readings) → bucket_planning (fed_all bucket_way w readings).bits ≡ bucket_planning w.bits
  steady w [] = refl
  steady w (x ∷ readings) = steady (fed_by w x.1) readings

  -- the slots that the readings reach are the layout's
  pub within : (readings : Readings) → (readings ≡ []) ⊎ LinksWithin (2 ^ bits) hash layout readings → (t : ℕ) → Gives (2 ^ bits) hash small readings t → t < slot_count layout 0
  within readings (inl none) t gives = absurd (never (ap (λ rs. list_any (λ reading. is_link_place (2 ^ bits) hash reading.0 && (value_of reading.1 == suc t)) rs) (sym none) ∙ gives))
    where
      never : false ≡ true → ⊥
      never e = cc
  within readings (inr walked) t gives = let link = reached (is_link_place (2 ^ bits) hash) readings t gives in walked link.0 link.1 link.2 t link.3 link.4 link.5

  abbrev pub IsLow : Readings → ℕ → Type 0
  IsLow readings place = (is_readable (buckets_meaning bits) readings place ≡ true) × (place < 3 * 2 ^ bits + 5 * slot_count layout 0)

  pub fixed_low : (readings : Readings) (r place : ℕ) → r < 3 → 3 * hash (key_of op) + r ≡ place → IsLow readings place
  fixed_low readings r place low same = let below = small (key_of op) in let fixed : place < 3 * 2 ^ bits = omega (arith, below, low, same) in
      (fixed_readable (2 ^ bits) hash readings place fixed, omega (arith, fixed))

  pub cell_low : (readings : Readings) (slot k place : ℕ) → ((t : ℕ) → Gives (2 ^ bits) hash small readings t → t < slot_count layout 0) → k < 5 → Gives (2 ^ bits) hash small readings slot
      → cell_at (2 ^ bits) hash slot k ≡ place → IsLow readings place
  cell_low readings slot k place inside low gives same = subst (IsLow readings) same
      (cell_readable (2 ^ bits) hash readings small slot k low gives, (let t = inside slot gives in omega (arith, t, low)))

  pub readable_at : (readings : Readings) (w : Walk) (stage : Stage) (place : ℕ) → ((t : ℕ) → Gives (2 ^ bits) hash small readings t → t < slot_count layout 0)
      → Knows (2 ^ bits) hash small limits op readings w stage → wanted_at (2 ^ bits) hash (hash (key_of op)) w stage ≡ Some place → IsLow readings place
  readable_at readings w AtEdition place inside known wants = fixed_low readings 1 place (omega arith) (some_eq _ place wants)
  readable_at readings w AtLink place inside (inl head) wants = fixed_low readings 2 place (omega arith) (sym head ∙ some_eq w.place place wants)
  readable_at readings w AtLink place inside (inr node) wants = cell_low readings node.0 3 place inside (omega arith) node.1 (sym node.2 ∙ some_eq w.place place wants)
  readable_at readings w AtKey place inside known wants = cell_low readings w.slot 1 place inside (omega arith) known (some_eq _ place wants)
  readable_at readings w AtValue place inside known wants = cell_low readings w.slot 2 place inside (omega arith) known (some_eq _ place wants)
  readable_at readings w AtNext place inside known wants = cell_low readings w.slot 3 place inside (omega arith) known (some_eq _ place wants)
  readable_at readings w AtLock place inside known wants = fixed_low readings 0 place (omega arith) (let e = some_eq _ place wants in omega (arith, e))
  readable_at readings w AtEnd place inside known wants = absurd (none-some place wants)
  readable_at readings w Refused place inside known wants = absurd (none-some place wants)

  -- the walk is refused exactly where the reading refuses
  abbrev pub Agrees : Walk → Stage → ℕ → ℕ → Type 0
  Agrees w stage place word = is_refused_at (fed (2 ^ bits) hash limits op w stage word).stage
      ≡ is_some (if (nat_lt place (3 * 2 ^ bits) && (place % 3 == 0)) then refused_by_lock layout.version_max place word
      else (if (is_refused_at (fed (2 ^ bits) hash limits op w stage word).stage && nat_le limits.links (fed (2 ^ bits) hash limits op w stage word).links)
      then Some (answers.Far (slot_count layout 0 + 8)) else None))

  abbrev pub IsLockPlace : ℕ → Bool
  IsLockPlace place = nat_lt place (3 * 2 ^ bits) && (place % 3 == 0)

  pub link_unlocked : (readings : Readings) (w : Walk) → Knows (2 ^ bits) hash small limits op readings w AtLink → IsLockPlace w.place ≡ false
  link_unlocked readings w (inl head) = ap IsLockPlace head ∙ no_lock (2 ^ bits) hash (hash (key_of op)) 2 (omega arith) (omega arith)
  link_unlocked readings w (inr node) = ap IsLockPlace node.2 ∙ no_lock_cell (2 ^ bits) hash node.0 3

  pub agrees_at : (readings : Readings) (w : Walk) (stage : Stage) (place word : ℕ) → Knows (2 ^ bits) hash small limits op readings w stage
      → wanted_at (2 ^ bits) hash (hash (key_of op)) w stage ≡ Some place → Agrees w stage place word
  agrees_at readings w AtEdition place word known wants = unlocked (IsLockPlace place) false (refused_by_lock layout.version_max place word) (answers.Far (slot_count layout 0 + 8)) false
      (ap IsLockPlace (sym (some_eq _ place wants)) ∙ no_lock (2 ^ bits) hash (hash (key_of op)) 1 (omega arith) (omega arith)) refl
  agrees_at readings w AtLink place word known wants = unlocked (IsLockPlace place) _ (refused_by_lock layout.version_max place word) (answers.Far (slot_count layout 0 + 8)) _
      (ap IsLockPlace (sym (some_eq w.place place wants)) ∙ link_unlocked readings w known) (link_refuses (value_of word == 0) (nat_le limits.links (suc w.links)) (answers.Far (slot_count layout 0 + 8)))
  agrees_at readings w AtKey place word known wants = unlocked (IsLockPlace place) _ (refused_by_lock layout.version_max place word) (answers.Far (slot_count layout 0 + 8)) _
      (ap IsLockPlace (sym (some_eq _ place wants)) ∙ no_lock_cell (2 ^ bits) hash w.slot 1)
      (key_refuses w (cell_at (2 ^ bits) hash w.slot 3) (nat_le limits.links (fed (2 ^ bits) hash limits op w AtKey word).links) (value_of word == key_of op) (answers.Far (slot_count layout 0 + 8)))
  agrees_at readings w AtValue place word known wants = unlocked (IsLockPlace place) _ (refused_by_lock layout.version_max place word) (answers.Far (slot_count layout 0 + 8)) _
      (ap IsLockPlace (sym (some_eq _ place wants)) ∙ no_lock_cell (2 ^ bits) hash w.slot 2) (value_refuses (nat_le limits.links w.links) (is_del op) (answers.Far (slot_count layout 0 + 8)))
  agrees_at readings w AtNext place word known wants = unlocked (IsLockPlace place) false (refused_by_lock layout.version_max place word) (answers.Far (slot_count layout 0 + 8)) false
      (ap IsLockPlace (sym (some_eq _ place wants)) ∙ no_lock_cell (2 ^ bits) hash w.slot 3) refl
  agrees_at readings w AtLock place word known wants = lock_refuses (is_free word) (is_spent layout.version_max word) (answers.Spent place word) (answers.Busy place word)
      ∙ ap (λ b. is_some (if b then refused_by_lock layout.version_max place word
      else (if (is_refused_at (fed (2 ^ bits) hash limits op w AtLock word).stage && nat_le limits.links w.links) then Some (answers.Far (slot_count layout 0 + 8)) else None)))
      (sym (ap IsLockPlace (sym (some_eq _ place wants)) ∙ lock_here (2 ^ bits) hash (hash (key_of op)) (small (key_of op))))
  agrees_at readings w AtEnd place word known wants = absurd (none-some place wants)
  agrees_at readings w Refused place word known wants = absurd (none-some place wants)

  pub goes_at : (w : Walk) (stage : Stage) (place : ℕ) → wanted_at (2 ^ bits) hash (hash (key_of op)) w stage ≡ Some place → is_refused_at stage ≡ false
  goes_at w AtEdition place wants = refl
  goes_at w AtLink place wants = refl
  goes_at w AtKey place wants = refl
  goes_at w AtValue place wants = refl
  goes_at w AtNext place wants = refl
  goes_at w AtLock place wants = refl
  goes_at w AtEnd place wants = refl
  goes_at w Refused place wants = absurd (none-some place wants)

  some_none : {A : Type 0} (p : ℕ) → Some p ≡ None → A
  some_none p e = cc

  pub ends_at : (w : Walk) (stage : Stage) → wanted_at (2 ^ bits) hash (hash (key_of op)) w stage ≡ None → is_refused_at stage ≡ false → stage ≡ AtEnd
  ends_at w AtEdition wants goes = some_none _ wants
  ends_at w AtLink wants goes = some_none w.place wants
  ends_at w AtKey wants goes = some_none _ wants
  ends_at w AtValue wants goes = some_none _ wants
  ends_at w AtNext wants goes = some_none _ wants
  ends_at w AtLock wants goes = some_none _ wants
  ends_at w AtEnd wants goes = refl
  ends_at w Refused wants goes = absurd (cc)

  fits_so : has_one_key op ≡ true → (w : Walk) (number : ℕ) → w.stage ≡ AtEnd → fits_walk (2 ^ bits) hash op w (thunk_by (record first { walk = w }) number) ≡ true
  fits_so served w number at = (λ i. served i && (is_end (at i) && (self (form_for op w.found) i && (self (bucket_lock (hash (key_of op))) i && (self w.word i && same_self (operands_for (2 ^ bits) op w w.found) i)))))

  pub eight : (o : Op) (w : Walk) (found : Bool) → length (operands_for (2 ^ bits) o w found) ≡ 8
  eight (Get key) w true = refl
  eight (Get key) w false = refl
  eight (Ins key value) w true = refl
  eight (Ins key value) w false = refl
  eight (Del key) w true = refl
  eight (Del key) w false = refl
  eight (Put key value) w true = refl
  eight (Put key value) w false = refl
  eight (Mov from to) w found = refl

  thunk_for : has_one_key op ≡ true → (number : ℕ) (readings : Readings) → wanted_at (2 ^ bits) hash (hash (key_of op)) (walk_in bits layout op readings) (walk_in bits layout op readings).stage ≡ None
      → is_refused_at (walk_in bits layout op readings).stage ≡ false
      → IsThunkFor bucket_way (buckets_meaning bits) layout first number readings (thunk_by (record first { walk = walk_in bits layout op readings }) number)
  thunk_for served number readings wants goes =
      let w = walk_in bits layout op readings in
      let at = ends_at w w.stage wants goes in
      let known = subst (Knows (2 ^ bits) hash small limits op readings w) at (knows (2 ^ bits) hash small limits op readings) in
      record {
        fits = fits_so served w number at;
        request = refl;
        operands = eight op w w.found;
        free = known.0;
        unspent = known.1;
        read = known.2;
      }

  pub leads : has_one_key op ≡ true → Leads bucket_way (buckets_meaning bits) layout first
  leads served = record {
    begins = (bucket_edition (hash (key_of op)), refl);
    shorter = λ w place word wants. nearer (2 ^ w.bits) (λ key. bucket_index key w.bits) w.bounds w.op w.walk place word wants;
    steady = λ readings. steady first readings;
    wanted = λ readings led. sym (ap wanted_by (here readings led));
    readable = λ readings place led wants known. readable_at readings (walk_in bits layout op readings) (walk_in bits layout op readings).stage place (within readings known)
        (knows (2 ^ bits) hash small limits op readings) (sym (ap wanted_by (here readings led)) ∙ wants);
    refuses = λ readings place word led wants known.
        let wants_so = sym (ap wanted_by (here readings led)) ∙ wants in
        let more = each_more (λ rs p w. wanted_by (fed_all bucket_way first rs) ≡ Some p) readings place word led wants in
        let next : walk_in bits layout op (readings ++ (place, word) ∷ []) ≡ fed (2 ^ bits) hash limits op (walk_in bits layout op readings) (walk_in bits layout op readings).stage word =
        ap (λ (w : Walking). w.walk) (sym (here (readings ++ (place, word) ∷ []) more) ∙ (fed_last first readings place word ∙ ap (λ w. fed_by w word) (here readings led))) in
        ap (λ (w : Walking). is_refused_of (fed_by w word)) (here readings led)
        ∙ (agrees_at readings (walk_in bits layout op readings) (walk_in bits layout op readings).stage place word (knows (2 ^ bits) hash small limits op readings) wants_so
        ∙ ap (λ (w : Walk). is_some (if IsLockPlace place then refused_by_lock layout.version_max place word
        else (if (is_refused_at w.stage && nat_le limits.links w.links) then Some (answers.Far (slot_count layout 0 + 8)) else None))) (sym next));
    goes_on = λ readings place led wants. ap is_refused_of (here readings led) ∙ goes_at (walk_in bits layout op readings) (walk_in bits layout op readings).stage place (sym (ap wanted_by (here readings led)) ∙ wants);
    fits = λ number readings led wants goes. subst (λ w. IsThunkFor bucket_way (buckets_meaning bits) layout first number readings (thunk_by w number)) (sym (here readings led))
        (thunk_for served number readings (sym (ap wanted_by (here readings led)) ∙ wants) (sym (ap is_refused_of (here readings led)) ∙ goes));
    few = omega arith;
  }
    where
      fed_last : (w : Walking) (readings : Readings) (place word : ℕ) → fed_all bucket_way w (readings ++ (place, word) ∷ []) ≡ fed_by (fed_all bucket_way w readings) word
      fed_last w [] place word = refl
      fed_last w (x ∷ readings) place word = fed_last (fed_by w x.1) readings place word
