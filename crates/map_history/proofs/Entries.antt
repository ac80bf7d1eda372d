-- The map that a list of entries makes: what it has at a key, how many pairs it has, and what one changed key makes of it.
use Rattle.std.proofs.Common.{◌≡◌, ℕ, Bool, true, false, cond, List, [], ◌∷◌, Option, None, Some, is_some, length, refl, sym, ap, ◌∙◌, arith, ◌+◌, ◌-◌, ◌==◌, if◌then◌else◌}
use Rattle.std.specs.Ordering.{nat_cmp}
use Rattle.std.specs.Cmp.{nat_cmp_total, eq_by_cmp_equiv}
use Rattle.std.specs.Map.{lookup}
use Rattle.std.specs.BTreeMap.{is_at}
use Rattle.std.specs.FinMap.{find, get, insert, remove, contains_key, from_entries, get-from_entries, get-insert, get-remove, len, len-empty, len-insert, len-remove}
use Rattle.map_history.specs.declared.reply.Reply.TheVariants.{New, Dup, Val}
use Rattle.map_history.specs.Replay.{Pairs, found, after_move}
use Rattle.map_history.proofs.Cells.{same_pairs, get-insert_key, get-remove_key}

-- the map of these entries
abbrev pub pairs_of : List (ℕ × ℕ) → Pairs
pairs_of entries = from_entries entries

-- what the entries have at a key
abbrev pub at : List (ℕ × ℕ) → ℕ → Option ℕ
at entries key = lookup (is_at (nat_cmp key)) entries

find-lookup : (entries : List (ℕ × ℕ)) (key : ℕ) → find nat_cmp key entries ≡ at entries key
find-lookup [] key = refl
find-lookup (entry ∷ entries) key = ap (cond (is_at (nat_cmp key) entry.0) (Some entry.1)) (find-lookup entries key)

pub get-pairs_of : (entries : List (ℕ × ℕ)) (key : ℕ) → get (pairs_of entries) key ≡ at entries key
get-pairs_of entries key = get-from_entries nat_cmp_total entries key ∙ find-lookup entries key

-- a look-up in the entries is one in the map
pub get-seen : (entries : List (ℕ × ℕ)) (pairs : Pairs) (key : ℕ) {found : Option ℕ} → pairs_of entries ≡ pairs → found ≡ at entries key → get pairs key ≡ found
get-seen entries pairs key same found = ap (λ (m : Pairs). get m key) (sym same) ∙ get-pairs_of entries key ∙ sym found

-- a test whether the entries have a key is one whether the map has it
pub contains_key-seen : (entries : List (ℕ × ℕ)) (pairs : Pairs) (key : ℕ) {tested there : Bool} → pairs_of entries ≡ pairs → tested ≡ is_some (at entries key) → tested ≡ there → contains_key pairs key ≡ there
contains_key-seen entries pairs key same tested there = ap is_some (get-seen entries pairs key same refl) ∙ sym tested ∙ there

-- entries that differ at one key, which has a value now, make the map with that pair
pub pairs_of-added : (before after : List (ℕ × ℕ)) (pairs : Pairs) (key value : ℕ) → pairs_of before ≡ pairs
    → ((q : ℕ) → at after q ≡ cond (is_at (nat_cmp key) q) (Some value) (at before q)) → pairs_of after ≡ insert pairs key value
pairs_of-added before after pairs key value same changed = same_pairs _ _ (λ q.
    get-pairs_of after q ∙ changed q
    ∙ ap (λ b. cond b (Some value) (at before q)) ((eq_by_cmp_equiv nat_cmp_total).symm key q)
    ∙ ap (cond (is_at (nat_cmp q) key) (Some value)) (sym (get-seen before pairs q same refl))
    ∙ sym (get-insert nat_cmp_total pairs key value q))

-- the same where the key has none now
pub pairs_of-removed : (before after : List (ℕ × ℕ)) (pairs : Pairs) (key : ℕ) → pairs_of before ≡ pairs
    → ((q : ℕ) → at after q ≡ cond (is_at (nat_cmp key) q) None (at before q)) → pairs_of after ≡ remove pairs key
pairs_of-removed before after pairs key same changed = same_pairs _ _ (λ q.
    get-pairs_of after q ∙ changed q
    ∙ ap (λ b. cond b None (at before q)) ((eq_by_cmp_equiv nat_cmp_total).symm key q)
    ∙ ap (cond (is_at (nat_cmp q) key) None) (sym (get-seen before pairs q same refl))
    ∙ sym (get-remove nat_cmp_total pairs key q))

pub len-of_none : (entries : List (ℕ × ℕ)) → length entries ≡ 0 → len (pairs_of entries) ≡ 0
len-of_none [] none = len-empty nat_cmp ℕ
len-of_none (entry ∷ entries) none = absurd (omega arith)

-- the count after a pair was added at a key that had none
pub len-added : (pairs : Pairs) (key value count : ℕ) → contains_key pairs key ≡ false → len pairs ≡ count → len (insert pairs key value) ≡ count + 1
len-added pairs key value count absent counted =
    len-insert nat_cmp_total pairs key value ∙ ap (λ b. cond b (len pairs) (len pairs + 1)) absent ∙ ap (λ n. n + 1) counted

-- the count after a key got a value, by what it had
pub len-set : (pairs : Pairs) (key value count : ℕ) (had : Option ℕ) → get pairs key ≡ had → len pairs ≡ count
    → len (insert pairs key value) ≡ count + cond (is_some had) 0 1
len-set pairs key value count had has counted =
    len-insert nat_cmp_total pairs key value ∙ (ap (λ (o : Option ℕ). cond (is_some o) (len pairs) (len pairs + 1)) has ∙ by (is_some had))
  where
    by : (b : Bool) → cond b (len pairs) (len pairs + 1) ≡ count + cond b 0 1
    by true = omega (arith, counted)
    by false = omega (arith, counted)

-- and after one was taken out, where there was one
pub len-removed : (pairs : Pairs) (key count after : ℕ) (there : Bool) → contains_key pairs key ≡ there → len pairs ≡ count → after + cond there 1 0 ≡ count → len (remove pairs key) ≡ after
len-removed pairs key count after true here counted e = len-remove nat_cmp_total pairs key ∙ ap (λ b. cond b (len pairs - 1) (len pairs)) here ∙ omega arith
len-removed pairs key count after false here counted e = len-remove nat_cmp_total pairs key ∙ ap (λ b. cond b (len pairs - 1) (len pairs)) here ∙ omega arith

-- a pair that is added, and another that is taken out, make a move
pub moved_pairs : (pairs after : Pairs) (from to value : ℕ) → found (get pairs from) ≡ Val value
    → New ≡ (if contains_key pairs to then Dup else New) → after ≡ (if contains_key pairs to then pairs else insert pairs to value)
    → remove after from ≡ after_move pairs from to (get pairs from) (get pairs to)
moved_pairs pairs after from to value = by (get pairs from) (get pairs to) refl refl
  where
    by : (had there : Option ℕ) → get pairs from ≡ had → get pairs to ≡ there → found had ≡ Val value → New ≡ cond (is_some there) Dup New
        → after ≡ cond (is_some there) pairs (insert pairs to value) → remove after from ≡ after_move pairs from to had there
    by None there has hasnt reply new is = absurd (cc)
    by (Some v) (Some u) has hasnt reply new is = absurd (cc)
    by (Some v) None has hasnt reply new is = ap (λ (m : Pairs). remove m from) is ∙ same_pairs _ _ (λ q.
        get-remove_key (insert pairs to value) from q ∙ ap (cond (q == from) None) (get-insert_key pairs to value q)
        ∙ (turned q (get pairs) has hasnt
        ∙ sym (get-insert_key (remove pairs from) to v q ∙ ap (cond (q == to) (Some v)) (get-remove_key pairs from q))))
      where
        same_value : value ≡ v
        same_value = cc

        turned : (q : ℕ) (f : ℕ → Option ℕ) → f from ≡ Some v → f to ≡ None
            → cond (q == from) None (cond (q == to) (Some value) (f q)) ≡ cond (q == to) (Some v) (cond (q == from) None (f q))
        turned q f has hasnt = ap (λ n. cond (q == from) None (cond (q == to) (Some n) (f q))) same_value ∙ either q f has hasnt
          where
            either : (q : ℕ) (f : ℕ → Option ℕ) → f from ≡ Some v → f to ≡ None
                → cond (q == from) None (cond (q == to) (Some v) (f q)) ≡ cond (q == to) (Some v) (cond (q == from) None (f q))
            either q f has hasnt = grind arith

-- either choice, by a test that is known
pub chosen : {A : Type 0} {b there : Bool} (x y : A) → b ≡ there → (if b then x else y) ≡ (if there then x else y)
chosen x y known = ap (λ b. if b then x else y) known
