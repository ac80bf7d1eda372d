-- The cells that a body loads, and what its Wants ask for.
use Rattle.std.specs.Prelude.{◌==◌, ◌&&◌, ◌||◌, cond, not, nat_lt, Bool, true, false, slice_get, map, take, position, IfSome}
use Rattle.std.proofs.Common.{◌≡◌, ℕ, zero, suc, ◌+◌, ◌<◌, List, [], ◌∷◌, length, get_or, refl, sym, ap, ◌∙◌, subst, arith, Option, Some, None}
use Rattle.std.specs.List.{list_all, list_any, prefix_len}
use Rattle.std.proofs.lemmas.Bool.{and_parts}
use Rattle.std.proofs.lemmas.Bool.Decides.{nat_tests}
use Rattle.std.proofs.lemmas.List.Quantifiers.{position-Some}
use Rattle.std.proofs.lemmas.Option.{slice_get-get_or, get_or_from_slice_get}
use Rattle.machine_states.specs.epoch_core.specs.small_lemmas.proofs.Numbers.{tested_equal as same_of}
use Rattle.machine_states.specs.body_terms.specs.Shape.{IsStep, is_look, loaded_places}
use Rattle.machine_states.specs.body_terms.specs.declared.step.Step.{Step}
use Rattle.machine_states.specs.body_terms.specs.declared.step.Step.TheVariants.{Load, Want, Fresh, Take, Make, Stamp, Store, Retire, Answer}
use Rattle.machine_states.specs.structure_laws.specs.Scene.{Readings}
use Rattle.machine_states.specs.runner_parts.specs.Tests.{has_pair}
use Rattle.machine_states.specs.runner_steps.specs.Reads.{are_of, is_found, is_met, finds}
use Rattle.seq_read.specs.Wants.{IsFirstChange, IsUnmet, loads_in, readings_of, cells_of, AreFirst, is_other, is_missed, IsMiss, IsAmong}
use Rattle.seq_read.specs.declared.cells.Loaded.{Loaded}

-- where no entry fails, all pass
all_pass : {A : Type 0} (q : A → Bool) (xs : List A) → nat_lt (prefix_len q xs) (length xs) ≡ false → list_all q xs ≡ true
all_pass q [] e = refl
all_pass q (x ∷ xs) e = by (q x) refl (λ low. all_pass q xs low)
  where
    deeper : (a b : ℕ) → nat_lt (1 + a) (suc b) ≡ false → nat_lt a b ≡ false
    deeper a b e = grind (arith, nat_tests)

    none : (b : ℕ) → nat_lt 0 (suc b) ≡ false → ⊥
    none b e = let z : nat_lt 0 (suc b) ≡ true = grind (arith, nat_tests) in (let clash : true ≡ false = sym z ∙ e in cc)

    by : (b : Bool) → q x ≡ b → (nat_lt (prefix_len q xs) (length xs) ≡ false → list_all q xs ≡ true) → (q x && list_all q xs) ≡ true
    by true is rest = ap (λ c. c && list_all q xs) is ∙ rest (deeper (prefix_len q xs) (length xs)
        (subst (λ c. nat_lt (cond c (1 + prefix_len q xs) 0) (suc (length xs)) ≡ false) is e))
    by false is rest = absurd (none (length xs) (subst (λ c. nat_lt (cond c (1 + prefix_len q xs) 0) (suc (length xs)) ≡ false) is e))

found_none : {A : Type 0} (p : A → Bool) (xs : List A) → position p xs ≡ None → list_all (λ x. not (p x)) xs ≡ true
found_none p xs e = all_pass (λ x. not (p x)) xs (by (nat_lt (prefix_len (λ x. not (p x)) xs) (length xs)) e)
  where
    by : (b : Bool) → cond b (Some (prefix_len (λ x. not (p x)) xs)) None ≡ None → b ≡ false
    by false e = refl
    by true e = absurd (let z = e in cc)

-- so none is found
pub none_any : {A : Type 0} (p : A → Bool) (xs : List A) → position p xs ≡ None → list_any p xs ≡ false
none_any {A} p xs e = by xs (found_none p xs e)
  where
    one : (b c : Bool) → not b ≡ true → c ≡ false → (b || c) ≡ false
    one false c e rest = rest
    one true c e rest = absurd (let z = e in cc)

    by : (ys : List A) → list_all (λ x. not (p x)) ys ≡ true → list_any p ys ≡ false
    by [] e = refl
    by (y ∷ ys) e = let h = and_parts (not (p y)) _ e in one (p y) (list_any p ys) h.0 (by ys h.1)

pub if_some_on : {A : Type 0} (P Q : A → Type 0) (o : Option A) → ((x : A) → P x → Q x) → IfSome o P → IfSome o Q
if_some_on P Q None f is = is
if_some_on P Q (Some x) f is = f x is

-- no step changes anything
pub looks_all : (steps : List Step) → position (λ step. not (is_look step)) steps ≡ None → list_all is_look steps ≡ true
looks_all steps e = twice steps (found_none (λ step. not (is_look step)) steps e)
  where
    twice : (xs : List Step) → list_all (λ step. not (not (is_look step))) xs ≡ true → list_all is_look xs ≡ true
    twice [] e = refl
    twice (x ∷ xs) e = let h = and_parts (not (not (is_look x))) _ e in both (is_look x) h.0 (twice xs h.1)
      where
        both : (b : Bool) → not (not b) ≡ true → list_all is_look xs ≡ true → (b && list_all is_look xs) ≡ true
        both true e rest = rest
        both false e rest = absurd (let z = e in cc)

-- or this one is the first that does
pub first_change_is : (steps : List Step) (at : ℕ) → position (λ step. not (is_look step)) steps ≡ Some at → IsFirstChange steps at
first_change_is steps at e = record {
  step = get_or steps at Stamp;
  here = slice_get-get_or steps at Stamp parts.0;
  changes = negated (is_look (get_or steps at Stamp)) parts.1;
  before = λ i x low here. affirmed (is_look x) (subst (λ y. not (is_look y) ≡ false) (get_or_from_slice_get steps i x Stamp here) (parts.2 i low));
}
  where
    parts : (at < length steps) × (not (is_look (get_or steps at Stamp)) ≡ true) × ((k : ℕ) → k < at → not (is_look (get_or steps k Stamp)) ≡ false)
    parts = position-Some (λ step. not (is_look step)) steps at Stamp e

    negated : (b : Bool) → not b ≡ true → b ≡ false
    negated false e = refl
    negated true e = absurd (let z = e in cc)

    affirmed : (b : Bool) → not b ≡ false → b ≡ true
    affirmed true e = refl
    affirmed false e = absurd (let z = e in cc)

-- the places that steps load
places_of_cells : (steps : List Step) → map (λ (x : ℕ × ℕ). x.0) (loads_in steps) ≡ loaded_places steps
places_of_cells [] = refl
places_of_cells (Load place into ∷ steps) = ap (λ xs. place ∷ xs) (places_of_cells steps)
places_of_cells (Want reg word ∷ steps) = places_of_cells steps
places_of_cells (Fresh reg ∷ steps) = places_of_cells steps
places_of_cells (Take place word ∷ steps) = places_of_cells steps
places_of_cells (Make init into ∷ steps) = places_of_cells steps
places_of_cells (Stamp ∷ steps) = places_of_cells steps
places_of_cells (Store reg value ∷ steps) = places_of_cells steps
places_of_cells (Retire slot ∷ steps) = places_of_cells steps
places_of_cells (Answer reply ∷ steps) = places_of_cells steps

-- there are as many
pub cells_counted : (steps : List Step) → length (loads_in steps) ≡ length (loaded_places steps)
cells_counted steps = sym (long (loads_in steps)) ∙ ap length (places_of_cells steps)
  where
    long : (xs : List (ℕ × ℕ)) → length (map (λ (x : ℕ × ℕ). x.0) xs) ≡ length xs
    long [] = refl
    long (x ∷ xs) = ap suc (long xs)

map_take : {A B : Type 0} (f : A → B) (n : ℕ) (xs : List A) → map f (take n xs) ≡ take n (map f xs)
map_take f zero xs = refl
map_take f (suc n) [] = refl
map_take f (suc n) (x ∷ xs) = ap (λ ys. f x ∷ ys) (map_take f n xs)

places_read : (xs : List Loaded) → map (λ (x : ℕ × ℕ). x.0) (readings_of xs) ≡ map (λ (x : ℕ × ℕ). x.0) (cells_of xs)
places_read [] = refl
places_read (x ∷ xs) = ap (λ ys. x.place ∷ ys) (places_read xs)

same_test : (n : ℕ) → (n == n) ≡ true
same_test n = grind (arith, nat_tests)

-- readings are of their places
of_places : (ys : Readings) → are_of (map (λ (x : ℕ × ℕ). x.0) ys) ys ≡ true
of_places [] = refl
of_places (y ∷ ys) = ap (λ b. b && are_of (map (λ (x : ℕ × ℕ). x.0) ys) ys) (same_test y.0) ∙ of_places ys

pub as_long : (xs : List Loaded) → length (readings_of xs) ≡ length xs
as_long [] = refl
as_long (x ∷ xs) = ap suc (as_long xs)

-- what was loaded so far is of the first places
pub first_cells : (steps : List Step) (xs : List Loaded) → AreFirst steps xs
    → are_of (take (length (readings_of xs)) (loaded_places steps)) (readings_of xs) ≡ true
first_cells steps xs first = subst (λ ps. are_of ps (readings_of xs) ≡ true)
    (places_read xs ∙ (ap (λ ys. map (λ (x : ℕ × ℕ). x.0) ys) first
    ∙ (map_take (λ (x : ℕ × ℕ). x.0) (length xs) (loads_in steps)
    ∙ (ap (λ ys. take (length xs) ys) (places_of_cells steps) ∙ ap (λ n. take n (loaded_places steps)) (sym (as_long xs))))))
    (of_places (readings_of xs))

take_all : {A : Type 0} (xs : List A) → take (length xs) xs ≡ xs
take_all [] = refl
take_all (x ∷ xs) = ap (λ s. x ∷ s) (take_all xs)

-- and in the end of all
whole_cells : (steps : List Step) (xs : List Loaded) → AreFirst steps xs → length xs ≡ length (loads_in steps) → cells_of xs ≡ loads_in steps
whole_cells steps xs first all = first ∙ (ap (λ n. take n (loads_in steps)) all ∙ take_all (loads_in steps))

-- what was loaded stands among the readings
pair_in : (xs : List Loaded) (i : ℕ) (x : Loaded) → slice_get xs i ≡ Some x → has_pair (readings_of xs) x.place x.word ≡ true
pair_in [] i x e = absurd (let z = e in cc)
pair_in (y ∷ ys) zero x e =
    let same : y ≡ x = (let z = e in cc) in
    subst (λ (z : Loaded). ((y.place == z.place && y.word == z.word) || has_pair (readings_of ys) z.place z.word) ≡ true) same (here y.place y.word _)
  where
    here : (a b : ℕ) (c : Bool) → ((a == a && b == b) || c) ≡ true
    here a b true = grind (arith, nat_tests)
    here a b false = grind (arith, nat_tests)
pair_in (y ∷ ys) (suc i) x e = later _ (pair_in ys i x e)
  where
    later : (a : Bool) → has_pair (readings_of ys) x.place x.word ≡ true → (a || has_pair (readings_of ys) x.place x.word) ≡ true
    later true e = refl
    later false e = e

abbrev head_of : List (ℕ × ℕ) → ℕ × ℕ
head_of [] = (0, 0)
head_of (x ∷ xs) = x

abbrev tail_of : List (ℕ × ℕ) → List (ℕ × ℕ)
tail_of [] = []
tail_of (x ∷ xs) = xs

module _ (whole : Readings) (reg word : ℕ) where
  -- the words that were loaded into this register are this one
  met_here : (steps : List Step) (xs : List Loaded) → cells_of xs ≡ loads_in steps → list_any (is_other reg word) xs ≡ false
      → ((i : ℕ) (x : Loaded) → slice_get xs i ≡ Some x → has_pair whole x.place x.word ≡ true)
      → list_all (is_found whole reg word) steps ≡ true
  met_here [] xs cells none each = refl
  met_here (Want r w ∷ steps) xs cells none each = met_here steps xs cells none each
  met_here (Fresh r ∷ steps) xs cells none each = met_here steps xs cells none each
  met_here (Take p w ∷ steps) xs cells none each = met_here steps xs cells none each
  met_here (Make init into ∷ steps) xs cells none each = met_here steps xs cells none each
  met_here (Stamp ∷ steps) xs cells none each = met_here steps xs cells none each
  met_here (Store r v ∷ steps) xs cells none each = met_here steps xs cells none each
  met_here (Retire slot ∷ steps) xs cells none each = met_here steps xs cells none each
  met_here (Answer reply ∷ steps) xs cells none each = met_here steps xs cells none each
  met_here (Load place into ∷ steps) [] cells none each = absurd (let z = cells in cc)
  met_here (Load place into ∷ steps) (x ∷ xs) cells none each =
      let at : x.place ≡ place = ap (λ ys. (head_of ys).0) cells in
      let reg_is : x.into ≡ into = ap (λ ys. (head_of ys).1) cells in
      let rest : cells_of xs ≡ loads_in steps = ap tail_of cells in
      let h = neither (is_other reg word x) (list_any (is_other reg word) xs) none in
      both (into == reg) (has_pair whole place word)
      (λ of_reg. subst (λ p. has_pair whole p word ≡ true) at
      (subst (λ w. has_pair whole x.place w ≡ true) (is_this x.into x.word (ap (λ k. k == reg) reg_is ∙ of_reg) h.0) (each 0 x refl)))
      (list_all (is_found whole reg word) steps)
      (met_here steps xs rest h.1 (λ i y e. each (suc i) y e))
    where
      neither : (a b : Bool) → (a || b) ≡ false → (a ≡ false) × (b ≡ false)
      neither false b e = (refl, e)
      neither true b e = absurd (let z = e in cc)

      is_this : (into found : ℕ) → (into == reg) ≡ true → (into == reg && not (found == word)) ≡ false → found ≡ word
      is_this into found one two = grind (arith, nat_tests)

      both : (a b : Bool) → (a ≡ true → b ≡ true) → (c : Bool) → c ≡ true → ((not a || b) && c) ≡ true
      both false b imp c e = e
      both true b imp c e = ap (λ x. x && c) (imp refl) ∙ e

-- where no Want misses its word, the cells hold what the body wants
pub found_all : (steps : List Step) (xs : List Loaded) → AreFirst steps xs → length xs ≡ length (loads_in steps)
    → list_any (is_missed xs) steps ≡ false → finds steps (readings_of xs) ≡ true
found_all steps xs first all none =
    ap (λ b. b && list_all (is_met steps (readings_of xs)) steps) are ∙ each steps none
  where
    cells : cells_of xs ≡ loads_in steps
    cells = whole_cells steps xs first all

    are : are_of (loaded_places steps) (readings_of xs) ≡ true
    are = subst (λ ps. are_of ps (readings_of xs) ≡ true)
        (places_read xs ∙ (ap (λ ys. map (λ (x : ℕ × ℕ). x.0) ys) cells ∙ places_of_cells steps)) (of_places (readings_of xs))

    neither : (a b : Bool) → (a || b) ≡ false → (a ≡ false) × (b ≡ false)
    neither false b e = (refl, e)
    neither true b e = absurd (let z = e in cc)

    one : (step : Step) → is_missed xs step ≡ false → is_met steps (readings_of xs) step ≡ true
    one (Want reg word) e = met_here (readings_of xs) reg word steps xs cells e (λ i x at. pair_in xs i x at)
    one (Load place into) e = refl
    one (Fresh reg) e = refl
    one (Take place word) e = refl
    one (Make init into) e = refl
    one Stamp e = refl
    one (Store reg value) e = refl
    one (Retire slot) e = refl
    one (Answer reply) e = refl

    each : (rest : List Step) → list_any (is_missed xs) rest ≡ false → list_all (is_met steps (readings_of xs)) rest ≡ true
    each [] e = refl
    each (x ∷ rest) e = let h = neither (is_missed xs x) _ e in
        ap (λ b. b && list_all (is_met steps (readings_of xs)) rest) (one x h.0) ∙ each rest h.1

first_of : (a b : ℕ × ℕ) → Some a ≡ Some b → a ≡ b
first_of a b e = ap (λ o. inner o) e
  where
    inner : Option (ℕ × ℕ) → ℕ × ℕ
    inner None = a
    inner (Some x) = x

-- a cell among those that steps load has its Load
load_at : (steps : List Step) (k place reg : ℕ) → slice_get (loads_in steps) k ≡ Some (place, reg) → (j : ℕ) × IsStep steps j (Load place reg)
load_at [] k place reg e = absurd (let z = e in cc)
load_at (Load p r ∷ steps) zero place reg e =
    let same = first_of (p, r) (place, reg) e in
    (0, λ i. Some (Load ((same i).0) ((same i).1)))
load_at (Load p r ∷ steps) (suc k) place reg e = let h = load_at steps k place reg e in (suc h.0, h.1)
load_at (Want r w ∷ steps) k place reg e = let h = load_at steps k place reg e in (suc h.0, h.1)
load_at (Fresh r ∷ steps) k place reg e = let h = load_at steps k place reg e in (suc h.0, h.1)
load_at (Take p w ∷ steps) k place reg e = let h = load_at steps k place reg e in (suc h.0, h.1)
load_at (Make init into ∷ steps) k place reg e = let h = load_at steps k place reg e in (suc h.0, h.1)
load_at (Stamp ∷ steps) k place reg e = let h = load_at steps k place reg e in (suc h.0, h.1)
load_at (Store r v ∷ steps) k place reg e = let h = load_at steps k place reg e in (suc h.0, h.1)
load_at (Retire slot ∷ steps) k place reg e = let h = load_at steps k place reg e in (suc h.0, h.1)
load_at (Answer reply ∷ steps) k place reg e = let h = load_at steps k place reg e in (suc h.0, h.1)

get_map : {A B : Type 0} (f : A → B) (xs : List A) (i : ℕ) (x : A) → slice_get xs i ≡ Some x → slice_get (map f xs) i ≡ Some (f x)
get_map f [] i x e = absurd (let z = e in cc)
get_map f (y ∷ ys) zero x e = let same : y ≡ x = (let z = e in cc) in ap (λ z. Some (f z)) same
get_map f (y ∷ ys) (suc i) x e = get_map f ys i x e

-- where one does, this is it
pub unmet_is : (steps : List Step) (xs : List Loaded) → AreFirst steps xs → length xs ≡ length (loads_in steps)
    → (step : Step) → IsAmong steps step → (place expected read : ℕ) → IsMiss xs step place expected read
    → IsUnmet steps (readings_of xs) place expected read
unmet_is steps xs first all step among place expected read miss =
    let at : slice_get (cells_of xs) miss.load ≡ Some (place, miss.reg) =
    get_map (λ (x : Loaded). (x.place, x.into)) xs miss.load miss.loaded miss.loads ∙ (λ i. Some (miss.from i, miss.into i)) in
    let load = load_at steps miss.load place miss.reg (sym (ap (λ ys. slice_get ys miss.load) (whole_cells steps xs first all)) ∙ at) in record {
      reg = miss.reg;
      load = load.0;
      want = among.0;
      loads = load.1;
      wants = among.1 ∙ ap Some miss.wants;
      seen = (miss.load, get_map (λ (x : Loaded). (x.place, x.word)) xs miss.load miss.loaded miss.loads ∙ (λ i. Some (miss.from i, miss.found i)));
      other = miss.other;
    }

-- a Want of a register into which another word was loaded
abbrev pub no_cell : Loaded
no_cell = record { place = 0; into = 0; word = 0 }

module _ (xs : List Loaded) (reg word at : ℕ) (e : position (is_other reg word) xs ≡ Some at) where
  other_there : (at < length xs) × (is_other reg word (get_or xs at no_cell) ≡ true) × ((k : ℕ) → k < at → is_other reg word (get_or xs k no_cell) ≡ false)
  other_there = position-Some (is_other reg word) xs at no_cell e

  differs : (n : ℕ) → not (n == word) ≡ true → n ≡ word → ⊥
  differs n h same =
      let z : (n == word) ≡ true = grind (arith, nat_tests, same) in
      let y : not true ≡ true = subst (λ b. not b ≡ true) z h in
      let clash : false ≡ true = y in cc

  pub miss_is : (step : Step) → step ≡ Want reg word → IsMiss xs step (get_or xs at no_cell).place word (get_or xs at no_cell).word
  miss_is step is =
      let tests = and_parts ((get_or xs at no_cell).into == reg) (not ((get_or xs at no_cell).word == word)) other_there.1 in record {
        reg = reg;
        wants = is;
        load = at;
        loaded = get_or xs at no_cell;
        loads = slice_get-get_or xs at no_cell other_there.0;
        into = same_of (get_or xs at no_cell).into reg tests.0;
        from = refl;
        found = refl;
        other = λ same. differs (get_or xs at no_cell).word tests.1 (sym same);
      }

-- the first step that misses its word
pub missed_there : (steps : List Step) (xs : List Loaded) (at : ℕ) (d : Step) → position (is_missed xs) steps ≡ Some at
    → is_missed xs (get_or steps at d) ≡ true
missed_there steps xs at d e = (position-Some (is_missed xs) steps at d e).1
