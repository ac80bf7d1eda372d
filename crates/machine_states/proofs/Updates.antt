-- Functions changed at one number, and words changed at one spot.
use Rattle.std.specs.Prelude.{◌==◌, cond, Bool, true, false}
use Rattle.std.proofs.Common.{◌≡◌, ◌≢◌, ℕ, sym, refl, ap, ◌∙◌, subst, arith, ⊎_elim}
use Rattle.std.proofs.lemmas.Bool.Decides.{nat_tests}
use Rattle.std.proofs.lemmas.Bool.{cases_eq}
use mathlib.Core.Path.{fun_ext}
use Rattle.runner_steps.specs.table_words.specs.declared.spot.Spot.{Spot}
use Rattle.runner_steps.specs.table_words.specs.declared.spot.Spot.TheVariants.{Seat, Epoch, Clock, Announcement, Guard, Stamp, Reply, Cell, ThunkWord, DoneWord, LogWord, LinkWord, BlockWord, BlockLink, Board}
use Rattle.runner_steps.specs.table_words.specs.Seen.{upd, put}
use Rattle.runner_steps.specs.table_words.specs.Access.{written}
use Rattle.runner_steps.specs.table_words.specs.declared.access.Access.TheVariants.{Exchanges}

module _ {A : Type 0} (f : ℕ → A) (k : ℕ) (v : A) where
  pub upd_here : upd f k v k ≡ v
  upd_here = grind (arith, nat_tests)

  pub upd_else : (i : ℕ) → i ≢ k → upd f k v i ≡ f i
  upd_else i ne = grind (arith, nat_tests)

  -- what holds of a changed function at each number
  pub upd_split : (Q : ℕ → A → Type 0) → Q k v → ((i : ℕ) → i ≢ k → Q i (f i)) → (i : ℕ) → Q i (upd f k v i)
  upd_split Q here else i = ⊎_elim
      (λ e. subst (λ (j : ℕ). Q j (upd f k v j)) (sym e) (subst (Q k) (sym upd_here) here))
      (λ ne. subst (Q i) (sym (upd_else i ne)) (else i ne))
      (cases_eq i k)

upd_same_at : {A : Type 0} → (f : ℕ → A) (k : ℕ) (v : A) → v ≡ f k → (i : ℕ) → upd f k v i ≡ f i
upd_same_at f k v e i = upd_split f k v (λ j a. a ≡ f j) e (λ j ne. refl) i

pub upd_same : {A : Type 0} → (f : ℕ → A) (k : ℕ) (v : A) → v ≡ f k → upd f k v ≡ f
upd_same f k v e = fun_ext (upd_same_at f k v e)

pub map_cond : {A B : Type 0} → (h : A → B) (b : Bool) (x y : A) → h (cond b x y) ≡ cond b (h x) (h y)
map_cond h true x y = refl
map_cond h false x y = refl

-- a changed function, seen through another
pub map_upd : {A B : Type 0} → (h : A → B) (f : ℕ → A) (k : ℕ) (v : A) → ◌≡◌ {A = ℕ → B} (λ i. h (upd f k v i)) (upd (λ i. h (f i)) k (h v))
map_upd h f k v = fun_ext (λ i. map_cond h (i == k) v (f i))

pub map_same : {A B : Type 0} → (h : A → B) (f : ℕ → A) (k : ℕ) (v : A) → h v ≡ h (f k) → ◌≡◌ {A = ℕ → B} (λ i. h (upd f k v i)) (λ i. h (f i))
map_same h f k v e = map_upd h f k v ∙ upd_same (λ i. h (f i)) k (h v) e

one_same : (f : ℕ → ℕ) (i i' : ℕ) → cond (i' == i) (f i) (f i') ≡ f i'
one_same f i i' = grind (arith, nat_tests)

two_same : (f : ℕ → ℕ → ℕ) (i j i' j' : ℕ) → cond (i' == i) (cond (j' == j) (f i j) (f i' j')) (f i' j') ≡ f i' j'
two_same f i j i' j' = grind (arith, nat_tests)

put_same_at : (f : Spot → ℕ) (a b : Spot) → put f a (f a) b ≡ f b
put_same_at f Seat Seat = refl
put_same_at f Seat b = refl
put_same_at f Epoch Epoch = refl
put_same_at f Epoch b = refl
put_same_at f Clock Clock = refl
put_same_at f Clock b = refl
put_same_at f (Announcement i) (Announcement i') = one_same (λ x. f (Announcement x)) i i'
put_same_at f (Announcement i) b = refl
put_same_at f (Guard i) (Guard i') = one_same (λ x. f (Guard x)) i i'
put_same_at f (Guard i) b = refl
put_same_at f (Stamp i) (Stamp i') = one_same (λ x. f (Stamp x)) i i'
put_same_at f (Stamp i) b = refl
put_same_at f (Reply i) (Reply i') = one_same (λ x. f (Reply x)) i i'
put_same_at f (Reply i) b = refl
put_same_at f (Cell i) (Cell i') = one_same (λ x. f (Cell x)) i i'
put_same_at f (Cell i) b = refl
put_same_at f (ThunkWord i j) (ThunkWord i' j') = two_same (λ x y. f (ThunkWord x y)) i j i' j'
put_same_at f (ThunkWord i j) b = refl
put_same_at f (DoneWord i) (DoneWord i') = one_same (λ x. f (DoneWord x)) i i'
put_same_at f (DoneWord i) b = refl
put_same_at f (LogWord i j) (LogWord i' j') = two_same (λ x y. f (LogWord x y)) i j i' j'
put_same_at f (LogWord i j) b = refl
put_same_at f (LinkWord i) (LinkWord i') = one_same (λ x. f (LinkWord x)) i i'
put_same_at f (LinkWord i) b = refl
put_same_at f (BlockWord i j) (BlockWord i' j') = two_same (λ x y. f (BlockWord x y)) i j i' j'
put_same_at f (BlockWord i j) b = refl
put_same_at f (BlockLink i) (BlockLink i') = one_same (λ x. f (BlockLink x)) i i'
put_same_at f (BlockLink i) b = refl
put_same_at f (Board i) (Board i') = one_same (λ x. f (Board x)) i i'
put_same_at f (Board i) b = refl

-- a load changes no word
pub put_same : (f : Spot → ℕ) (a : Spot) → put f a (f a) ≡ f
put_same f a = fun_ext (put_same_at f a)

stays_so : (n : ℕ) → written (Exchanges 0 0) n ≡ n
stays_so n = grind (arith, nat_tests)

-- an exchange from 0 to 0 leaves its word as it is
pub put_kept : (f : Spot → ℕ) (a : Spot) → put f a (written (Exchanges 0 0) (f a)) ≡ f
put_kept f a = ap (put f a) (stays_so (f a)) ∙ put_same f a
