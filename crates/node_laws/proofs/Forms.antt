-- What a thunk has for numbers, by its form, where its operands are those for a walk, and what it answers.
use Rattle.std.proofs.Common.{◌≡◌, ℕ, ◌+◌, ◌*◌, ◌<◌, Bool, true, false, cond, refl, sym, ap, ◌∙◌, inl, inr, arith}
use Rattle.std.proofs.lemmas.Option.{none-some}
use Rattle.std.specs.Prelude.{◌==◌, ◌&&◌, ◌^◌, ◌⊎◌, is_none, is_some, if◌then◌else◌, List, [], ◌∷◌, length, not, Option, None, Some}
use Rattle.std.specs.FinMap.{get, contains_key}
use Rattle.structure_laws.specs.map_history.specs.declared.op.Op.{Op}
use Rattle.structure_laws.specs.map_history.specs.declared.op.Op.TheVariants.{Get, Ins, Del, Put, Mov}
use Rattle.structure_laws.specs.map_history.specs.declared.reply.Reply.TheVariants.{New, Dup, Gone, Absent}
use Rattle.structure_laws.specs.map_history.specs.AtKey.{Gets, change_at}
use Rattle.structure_laws.specs.map_history.specs.Keys.{key_of, IsOneKeyed}
use Rattle.structure_laws.specs.map_history.specs.Replay.{Pairs, found, replaced, reply_of}
use Rattle.structure_laws.specs.map_history.specs.Words.{word_of}
use Rattle.structure_laws.specs.Fitting.{Leaves}
use Rattle.structure_laws.specs.Planner.{Adds}
use Rattle.structure_laws.proofs.Changes.{equal_of}
use Rattle.bucket_laws.specs.Walk.{is_del, same_numbers}
use Rattle.bucket_laws.proofs.Fit.{PutsIn, keeps_gets}
use Rattle.shared_laws.proofs.Numbers.{eq_true, eq_false}
use Rattle.body_steps.specs.Forms.{Form, Look, Insert, Remove, Replace, Empty, form_by}
use Rattle.node_laws.specs.Forms.{form_from, reply_from, operands_from}

pub no_other : (other : Option ℕ) → is_none other ≡ true → other ≡ None
no_other None h = refl
no_other (Some key) h = absurd (cc)

pub put_puts : (op : Op) (key value : ℕ) → op ≡ Put key value → PutsIn op key value
put_puts op key value e = (ap key_of e, ap (change_at None) e)

-- numbers are the same as themselves
pub same_self : (xs : List ℕ) → same_numbers xs xs ≡ true
same_self [] = refl
same_self (x ∷ xs) = (λ i. eq_true x x refl i && same_self xs i)

-- a lock that is ready is free and not spent
pub free_of : (free spent : Bool) → (free && not spent) ≡ true → (free ≡ true) × (spent ≡ false)
free_of true true h = absurd (cc)
free_of true false h = (refl, refl)
free_of false spent h = absurd (cc)

-- an operation with one key changes nothing, puts a node in, takes one out, or puts one in the place of another
pub cases : (first : ℕ) (op : Op) (found : Bool) → IsOneKeyed op → (form_from first op found ≡ first)
    ⊎ (form_from first op found ≡ first + 1)
    ⊎ (form_from first op found ≡ first + 2) ⊎ (form_from first op found ≡ first + 3)
cases first (Get key) found one = inl refl
cases first (Ins key value) true one = inl refl
cases first (Ins key value) false one = inr (inl refl)
cases first (Del key) true one = inr (inr (inl refl))
cases first (Del key) false one = inl refl
cases first (Put key value) true one = inr (inr (inr refl))
cases first (Put key value) false one = inr (inl refl)
cases first (Mov from to) found one = absurd (none-some to (sym one))

-- no reply word is 0
pub reply_some : (op : Op) (old : ℕ) (found : Bool) → 0 < reply_from op old found
reply_some (Get key) old true = omega arith
reply_some (Get key) old false = omega arith
reply_some (Ins key value) old found = omega arith
reply_some (Del key) old found = omega arith
reply_some (Put key value) old found = omega arith
reply_some (Mov from to) old found = omega arith

-- a body that looks alone answers what leaves the map as it was
pub look_leaves : (first : ℕ) (op : Op) (old : ℕ) (found : Bool) → 0 < first → form_from first op found ≡ first
    → Leaves op (reply_from op old found)
look_leaves first (Get key) old found some form = tt
look_leaves first (Ins key value) old found some form = refl
look_leaves first (Del key) old found some form = refl
look_leaves first (Put key value) old true some form = absurd (omega (arith, form))
look_leaves first (Put key value) old false some form = absurd (omega (arith, form))
look_leaves first (Mov from to) old found some form = absurd (omega (arith, some, form))

-- an operation that gives a value to an absent key answers that the pair is new
pub new_adds : (op : Op) (value reply : ℕ) → change_at None op ≡ Gets value → reply ≡ 1 * 2 ^ 32 → Adds op reply
new_adds (Get key) value reply gets new = absurd (keeps_gets value gets)
new_adds (Ins key v) value reply gets new = new
new_adds (Del key) value reply gets new = absurd (keeps_gets value gets)
new_adds (Put key v) value reply gets new = inl new
new_adds (Mov from to) value reply gets new = absurd (keeps_gets value gets)

-- the reply by what is looked up
module _ (pairs : Pairs) where
  pub there : (key value : ℕ) → get pairs key ≡ Some value → contains_key pairs key ≡ true
  there key value h = ap is_some h

  pub gone : (key : ℕ) → get pairs key ≡ None → contains_key pairs key ≡ false
  gone key h = ap is_some h

  pub reply_is : (first : ℕ) (op : Op) (old : ℕ) (hit : Bool) → 0 < first → form_from first op hit ≡ first
      → (hit ≡ true → (v : ℕ) × (get pairs (key_of op) ≡ Some v) × (is_del op ≡ false → v ≡ old))
      → (hit ≡ false → get pairs (key_of op) ≡ None) → reply_from op old hit ≡ word_of (reply_of pairs op)
  reply_is first (Get key) old true pos form some none = let is = some refl in
      ap (λ o. word_of (found o)) (sym (is.1 ∙ ap Some (is.2 refl)))
  reply_is first (Get key) old false pos form some none = ap (λ o. word_of (found o)) (sym (none refl))
  reply_is first (Ins key value) old true pos form some none = let is = some refl in
      ap (λ b. word_of (if b then Dup else New)) (sym (there key is.0 is.1))
  reply_is first (Ins key value) old false pos form some none = absurd (omega (arith, form))
  reply_is first (Del key) old true pos form some none = absurd (omega (arith, form))
  reply_is first (Del key) old false pos form some none = ap (λ b. word_of (if b then Gone else Absent))
      (sym (gone key (none refl)))
  reply_is first (Put key value) old true pos form some none = absurd (omega (arith, form))
  reply_is first (Put key value) old false pos form some none = absurd (omega (arith, form))
  reply_is first (Mov from to) old hit pos form some none = absurd (omega (arith, pos, form))

  -- an operation that gives a value to an absent key is answered that the pair is new
  pub new_reply : (op : Op) (key value : ℕ) → PutsIn op key value → get pairs (key_of op) ≡ None
      → 1 * 2 ^ 32 ≡ word_of (reply_of pairs op)
  new_reply (Get k) key value puts none = absurd (keeps_gets value puts.1)
  new_reply (Ins k v) key value puts none = ap (λ b. word_of (if b then Dup else New)) (sym (gone k none))
  new_reply (Del k) key value puts none = absurd (keeps_gets value puts.1)
  new_reply (Put k v) key value puts none = ap (λ o. word_of (replaced o)) (sym none)
  new_reply (Mov from to) key value puts none = absurd (keeps_gets value puts.1)

-- the form of a thunk by its number
module _ (first n : ℕ) (look insert remove replace : Bool) where
  abbrev form : Form
  form = form_by first n look insert remove replace

  pub is_look : n ≡ first → look ≡ true → form ≡ Look
  is_look e fits = λ i. cond (eq_true n first e i) (cond (fits i) Look Empty)
      (cond (n == first + 1) (cond insert Insert Empty)
      (cond (n == first + 2) (cond remove Remove Empty) (cond (n == first + 3) (cond replace Replace Empty) Empty)))

  pub is_insert : n ≡ first + 1 → insert ≡ true → form ≡ Insert
  is_insert e fits = λ i. cond (eq_false n first (λ same. omega (arith, e, same)) i) (cond look Look Empty)
      (cond (eq_true n (first + 1) e i) (cond (fits i) Insert Empty)
      (cond (n == first + 2) (cond remove Remove Empty) (cond (n == first + 3) (cond replace Replace Empty) Empty)))

  pub is_remove : n ≡ first + 2 → remove ≡ true → form ≡ Remove
  is_remove e fits = λ i. cond (eq_false n first (λ same. omega (arith, e, same)) i) (cond look Look Empty)
      (cond (eq_false n (first + 1) (λ same. omega (arith, e, same)) i) (cond insert Insert Empty)
      (cond (eq_true n (first + 2) e i) (cond (fits i) Remove Empty)
      (cond (n == first + 3) (cond replace Replace Empty) Empty)))

  pub is_replace : n ≡ first + 3 → replace ≡ true → form ≡ Replace
  is_replace e fits = λ i. cond (eq_false n first (λ same. omega (arith, e, same)) i) (cond look Look Empty)
      (cond (eq_false n (first + 1) (λ same. omega (arith, e, same)) i) (cond insert Insert Empty)
      (cond (eq_false n (first + 2) (λ same. omega (arith, e, same)) i) (cond remove Remove Empty)
      (cond (eq_true n (first + 3) e i) (cond (fits i) Replace Empty) Empty)))

-- the number of each form
pub record Numbers (first : ℕ) (f : Form) (n : ℕ) : Type 0 where
  pub look : f ≡ Look → n ≡ first
  pub insert : f ≡ Insert → n ≡ first + 1
  pub remove : f ≡ Remove → n ≡ first + 2
  pub replace : f ≡ Replace → n ≡ first + 3

as_look : (first n : ℕ) → n ≡ first → Numbers first Look n
as_look first n is =
    record { look = λ e. is; insert = λ e. absurd (cc); remove = λ e. absurd (cc); replace = λ e. absurd (cc) }

as_insert : (first n : ℕ) → n ≡ first + 1 → Numbers first Insert n
as_insert first n is =
    record { look = λ e. absurd (cc); insert = λ e. is; remove = λ e. absurd (cc); replace = λ e. absurd (cc) }

as_remove : (first n : ℕ) → n ≡ first + 2 → Numbers first Remove n
as_remove first n is =
    record { look = λ e. absurd (cc); insert = λ e. absurd (cc); remove = λ e. is; replace = λ e. absurd (cc) }

as_replace : (first n : ℕ) → n ≡ first + 3 → Numbers first Replace n
as_replace first n is =
    record { look = λ e. absurd (cc); insert = λ e. absurd (cc); remove = λ e. absurd (cc); replace = λ e. is }

as_none : (first n : ℕ) → Numbers first Empty n
as_none first n = record {
  look = λ e. absurd (cc);
  insert = λ e. absurd (cc);
  remove = λ e. absurd (cc);
  replace = λ e. absurd (cc);
}

number_by : (first n : ℕ) (a p b q c r e s : Bool) → (a ≡ true → n ≡ first) → (b ≡ true → n ≡ first + 1)
    → (c ≡ true → n ≡ first + 2)
    → (e ≡ true → n ≡ first + 3) → Numbers first (cond a (cond p Look Empty) (cond b (cond q Insert Empty)
    (cond c (cond r Remove Empty) (cond e (cond s Replace Empty) Empty)))) n
number_by first n true true b q c r e s is is' is2 is3 = as_look first n (is refl)
number_by first n true false b q c r e s is is' is2 is3 = as_none first n
number_by first n false p true true c r e s is is' is2 is3 = as_insert first n (is' refl)
number_by first n false p true false c r e s is is' is2 is3 = as_none first n
number_by first n false p false q true true e s is is' is2 is3 = as_remove first n (is2 refl)
number_by first n false p false q true false e s is is' is2 is3 = as_none first n
number_by first n false p false q false r true true is is' is2 is3 = as_replace first n (is3 refl)
number_by first n false p false q false r true false is is' is2 is3 = as_none first n
number_by first n false p false q false r false s is is' is2 is3 = as_none first n

pub numbers_by : (first n : ℕ) (look insert remove replace : Bool)
    → Numbers first (form_by first n look insert remove replace) n
numbers_by first n look insert remove replace = number_by first n (n == first) look (n == first + 1) insert
    (n == first + 2) remove
    (n == first + 3) replace (equal_of n first) (equal_of n (first + 1)) (equal_of n (first + 2))
    (equal_of n (first + 3))

-- what the operands are, by the form
module _ (look : ℕ → List ℕ) (insert : ℕ → ℕ → List ℕ) (remove : List ℕ) (replace : ℕ → ℕ → ℕ → List ℕ)
    (old first : ℕ) where
  abbrev numbers_are : Op → Bool → List ℕ → Type 0
  numbers_are op found numbers = operands_from look insert remove replace op old found ≡ numbers

  -- of one that changes nothing
  pub look_numbers : (op : Op) (found : Bool) → form_from first op found ≡ first
      → numbers_are op found (look (reply_from op old found))
  look_numbers (Get key) found h = refl
  look_numbers (Ins key value) true h = refl
  look_numbers (Ins key value) false h = absurd (omega (arith, h))
  look_numbers (Del key) true h = absurd (omega (arith, h))
  look_numbers (Del key) false h = refl
  look_numbers (Put key value) true h = absurd (omega (arith, h))
  look_numbers (Put key value) false h = absurd (omega (arith, h))
  look_numbers (Mov from to) found h = refl

  -- of an operation that puts a node in
  pub record Inserts (op : Op) (found : Bool) : Type 0 where
    pub key : ℕ
    pub value : ℕ
    pub puts : PutsIn op key value
    pub missing : found ≡ false
    pub numbers : numbers_are op found (insert key value)

  pub inserts : (op : Op) (found : Bool) → form_from first op found ≡ first + 1 → Inserts op found
  inserts (Get key) found h = absurd (omega (arith, h))
  inserts (Ins key value) true h = absurd (omega (arith, h))
  inserts (Ins key value) false h =
      record { key = key; value = value; puts = (refl, refl); missing = refl; numbers = refl }
  inserts (Del key) true h = absurd (omega (arith, h))
  inserts (Del key) false h = absurd (omega (arith, h))
  inserts (Put key value) true h = absurd (omega (arith, h))
  inserts (Put key value) false h =
      record { key = key; value = value; puts = (refl, refl); missing = refl; numbers = refl }
  inserts (Mov from to) found h = absurd (omega (arith, h))

  -- of one that takes a node out
  pub record Removes (op : Op) (found : Bool) : Type 0 where
    pub key : ℕ
    pub del : op ≡ Del key
    pub hit : found ≡ true
    pub numbers : numbers_are op found remove

  pub removes : (op : Op) (found : Bool) → form_from first op found ≡ first + 2 → Removes op found
  removes (Get key) found h = absurd (omega (arith, h))
  removes (Ins key value) true h = absurd (omega (arith, h))
  removes (Ins key value) false h = absurd (omega (arith, h))
  removes (Del key) true h = record { key = key; del = refl; hit = refl; numbers = refl }
  removes (Del key) false h = absurd (omega (arith, h))
  removes (Put key value) true h = absurd (omega (arith, h))
  removes (Put key value) false h = absurd (omega (arith, h))
  removes (Mov from to) found h = absurd (omega (arith, h))

  -- and of one that puts a node in the place of another
  pub record Replaces (op : Op) (found : Bool) : Type 0 where
    pub key : ℕ
    pub value : ℕ
    pub put : op ≡ Put key value
    pub hit : found ≡ true
    pub numbers : numbers_are op found (replace key value (6 * 2 ^ 32 + old))

  pub replaces : (op : Op) (found : Bool) → form_from first op found ≡ first + 3 → Replaces op found
  replaces (Get key) found h = absurd (omega (arith, h))
  replaces (Ins key value) true h = absurd (omega (arith, h))
  replaces (Ins key value) false h = absurd (omega (arith, h))
  replaces (Del key) true h = absurd (omega (arith, h))
  replaces (Del key) false h = absurd (omega (arith, h))
  replaces (Put key value) true h = record { key = key; value = value; put = refl; hit = refl; numbers = refl }
  replaces (Put key value) false h = absurd (omega (arith, h))
  replaces (Mov from to) found h = absurd (omega (arith, h))

  -- where those of each form are eight, all are
  pub eight : ((reply : ℕ) → length (look reply) ≡ 8) → ((key value : ℕ) → length (insert key value) ≡ 8)
      → length remove ≡ 8
      → ((key value reply : ℕ) → length (replace key value reply) ≡ 8) → (op : Op) (found : Bool)
      → length (operands_from look insert remove replace op old found) ≡ 8
  eight a b c d (Get key) found = a (reply_from (Get key) old found)
  eight a b c d (Ins key value) true = a (reply_from (Ins key value) old true)
  eight a b c d (Ins key value) false = b key value
  eight a b c d (Del key) true = c
  eight a b c d (Del key) false = a (reply_from (Del key) old false)
  eight a b c d (Put key value) true = d key value (reply_from (Put key value) old true)
  eight a b c d (Put key value) false = b key value
  eight a b c d (Mov from to) found = a (reply_from (Mov from to) old found)
