-- What the Wants of a body miss, cell by cell.
use Rattle.std.specs.Prelude.{◌||◌, Bool, true, false, slice_get, Option, Some, None, IfSome}
use Rattle.std.proofs.Common.{◌≡◌, ℕ, zero, suc, ◌+◌, List, [], ◌∷◌, ◌++◌, length, refl, ◌∙◌, ap, subst, arith, ◌≢◌, sym}
use Rattle.std.specs.List.{list_any}
use Rattle.machine_states.specs.body_terms.specs.declared.step.Step.{Step}
use Rattle.machine_states.specs.body_terms.specs.declared.step.Step.TheVariants.{Load, Want, Fresh, Take, Make, Stamp, Store, Retire, Answer}
use Rattle.caller_facts.specs.lock_walks.specs.declared.glance.WantedCell.{WantedCell}
use Rattle.seq_read.specs.Wants.{is_other, is_missed, IsMiss, IsAmong, WantOne, IsTested}
use Rattle.seq_read.specs.declared.cells.Loaded.{Loaded}
use Rattle.seq_read.specs.declared.wants.Missed.{Missed}

-- none among these, and none among those
neither : (a b : Bool) → (a || b) ≡ false → (a ≡ false) × (b ≡ false)
neither false b e = (refl, e)
neither true b e = absurd (let z = e in cc)

both : (a b : Bool) → a ≡ false → b ≡ false → (a || b) ≡ false
both false b e f = f
both true b e f = absurd (let z = e in cc)

none_behind : {A : Type 0} (p : A → Bool) (xs ys : List A) → list_any p xs ≡ false → list_any p ys ≡ false → list_any p (xs ++ ys) ≡ false
none_behind p [] ys e f = f
none_behind p (x ∷ xs) ys e f = let h = neither (p x) _ e in both (p x) (list_any p (xs ++ ys)) h.0 (none_behind p xs ys h.1 f)

-- a step that misses no word in these cells and none in those
met_behind : (xs ys : List Loaded) (step : Step) → is_missed xs step ≡ false → is_missed ys step ≡ false → is_missed (xs ++ ys) step ≡ false
met_behind xs ys (Want reg word) e f = none_behind (is_other reg word) xs ys e f
met_behind xs ys (Load place into) e f = refl
met_behind xs ys (Fresh reg) e f = refl
met_behind xs ys (Take place word) e f = refl
met_behind xs ys (Make init into) e f = refl
met_behind xs ys Stamp e f = refl
met_behind xs ys (Store reg value) e f = refl
met_behind xs ys (Retire slot) e f = refl
met_behind xs ys (Answer reply) e f = refl

all_met : (xs ys : List Loaded) (steps : List Step) → list_any (is_missed xs) steps ≡ false → list_any (is_missed ys) steps ≡ false
    → list_any (is_missed (xs ++ ys)) steps ≡ false
all_met xs ys [] e f = refl
all_met xs ys (step ∷ steps) e f =
    let h = neither (is_missed xs step) _ e in
    let k = neither (is_missed ys step) _ f in
    both (is_missed (xs ++ ys) step) (list_any (is_missed (xs ++ ys)) steps) (met_behind xs ys step h.0 k.0) (all_met xs ys steps h.1 k.1)

-- a cell of a longer list
get_before : {A : Type 0} (xs ys : List A) (i : ℕ) (x : A) → slice_get xs i ≡ Some x → slice_get (xs ++ ys) i ≡ Some x
get_before [] ys i x e = absurd (let z = e in cc)
get_before (y ∷ xs) ys zero x e = e
get_before (y ∷ xs) ys (suc i) x e = get_before xs ys i x e

get_behind : {A : Type 0} (xs ys : List A) (i : ℕ) → slice_get (xs ++ ys) (length xs + i) ≡ slice_get ys i
get_behind [] ys i = let e : 0 + i ≡ i = omega arith in ap (slice_get ys) e
get_behind (x ∷ xs) ys i = let e : suc (length xs) + i ≡ suc (length xs + i) = omega arith in ap (slice_get (x ∷ (xs ++ ys))) e ∙ get_behind xs ys i

miss_before : (xs ys : List Loaded) (step : Step) (place expected read : ℕ) → IsMiss xs step place expected read → IsMiss (xs ++ ys) step place expected read
miss_before xs ys step place expected read is = record {
  reg = is.reg;
  wants = is.wants;
  load = is.load;
  loaded = is.loaded;
  loads = get_before xs ys is.load is.loaded is.loads;
  into = is.into;
  from = is.from;
  found = is.found;
  other = is.other;
}

miss_behind : (xs ys : List Loaded) (step : Step) (place expected read : ℕ) → IsMiss ys step place expected read → IsMiss (xs ++ ys) step place expected read
miss_behind xs ys step place expected read is = record {
  reg = is.reg;
  wants = is.wants;
  load = length xs + is.load;
  loaded = is.loaded;
  loads = get_behind xs ys is.load ∙ is.loads;
  into = is.into;
  from = is.from;
  found = is.found;
  other = is.other;
}

-- no step misses anything where nothing was loaded
none_yet : (steps : List Step) → list_any (is_missed []) steps ≡ false
none_yet [] = refl
none_yet (step ∷ steps) = both (is_missed [] step) (list_any (is_missed []) steps) (here step) (none_yet steps)
  where
    here : (step : Step) → is_missed [] step ≡ false
    here (Want reg word) = refl
    here (Load place into) = refl
    here (Fresh reg) = refl
    here (Take place word) = refl
    here (Make init into) = refl
    here Stamp = refl
    here (Store reg value) = refl
    here (Retire slot) = refl
    here (Answer reply) = refl

pub untested : (steps : List Step) → IsTested steps [] None
untested steps = record { some = tt; none = λ e. none_yet steps }

module _ (steps : List Step) (xs : List Loaded) (x : Loaded) where
  -- what was missed before one more cell is missed still
  pub tested_still : (first : Missed) → IsTested steps xs (Some first) → IsTested steps (xs ++ x ∷ []) (Some first)
  tested_still first is = record {
    some = (is.some.0, is.some.1, miss_before xs (x ∷ []) is.some.0 first.place first.expected first.read is.some.2);
    none = λ e. absurd (let z = e in cc);
  }

  -- where nothing was, it is what is missed of this cell
  pub tested_next : (missed : Option Missed) → IsTested steps xs None
      → IfSome missed (λ y. (step : Step) × IsAmong steps step × IsMiss (x ∷ []) step y.place y.expected y.read)
      → (missed ≡ None → list_any (is_missed (x ∷ [])) steps ≡ false) → IsTested steps (xs ++ x ∷ []) missed
  tested_next None is some none = record { some = tt; none = λ e. all_met xs (x ∷ []) steps (is.none refl) (none refl) }
  tested_next (Some first) is some none = record {
    some = (some.0, some.1, miss_behind xs (x ∷ []) some.0 first.place first.expected first.read some.2);
    none = λ e. absurd (let z = e in cc);
  }

-- what was missed
pub missed_is : (steps : List Step) (xs : List Loaded) (missed : Option Missed) (first : Missed) → missed ≡ Some first → IsTested steps xs missed
    → (step : Step) × IsAmong steps step × IsMiss xs step first.place first.expected first.read
missed_is steps xs missed first e is = (subst (λ o. IsTested steps xs o) e is).some

-- one more cell, of whose register one word is wanted
pub tested_one : (steps : List Step) (xs : List Loaded) (wanted : WantedCell) (found reg : ℕ) (missed : Option Missed)
    → WantOne steps reg wanted.word → IsTested steps xs None
    → IfSome missed (λ y. (y.place ≡ wanted.place) × (y.expected ≡ wanted.word) × (y.read ≡ found) × (wanted.word ≢ found))
    → (missed ≡ None → found ≡ wanted.word)
    → IsTested steps (xs ++ record { place = wanted.place; into = reg; word = found } ∷ []) missed
tested_one steps xs wanted found reg None one is some none =
    tested_next steps xs (record { place = wanted.place; into = reg; word = found }) None is tt
    (λ e. one.met (record { place = wanted.place; into = reg; word = found }) refl (none refl))
tested_one steps xs wanted found reg (Some first) one is some none =
    tested_next steps xs (record { place = wanted.place; into = reg; word = found }) (Some first) is (
      Want reg wanted.word,
      one.wants,
      record {
        reg = reg;
        wants = ap (Want reg) (sym some.1);
        load = 0;
        loaded = record { place = wanted.place; into = reg; word = found };
        loads = refl;
        into = refl;
        from = sym some.0;
        found = sym some.2;
        other = λ e. some.3 (sym some.1 ∙ (e ∙ some.2));
      },
    )
    (λ e. absurd (let z = e in cc))
