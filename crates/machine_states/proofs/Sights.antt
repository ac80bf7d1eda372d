-- An event of the machine, seen without the lists.
use Rattle.std.specs.Prelude.{◌==◌, ◌&&◌, cond, nat_lt, slice_index, slice_set, slice_get, Bool, true, false}
use Rattle.std.proofs.Common.{◌≡◌, ℕ, suc, ◌+◌, ◌<◌, ◌≤◌, List, length, get_or, sym, refl, ap, subst, ◌∙◌, arith, Option, Some, None}
use Rattle.std.proofs.lemmas.Bool.Decides.{nat_tests}
use Rattle.std.proofs.lemmas.Grind.{common_steps}
use Rattle.std.proofs.lemmas.Option.{gets, slice_get-get_or, slice_get_within}
use Rattle.std.proofs.Math.ListN.{length-set}
use mathlib.Core.Path.{fun_ext}
use Rattle.runner_steps.specs.map_history.specs.declared.op.Request.{Request}
use Rattle.runner_steps.specs.table_words.specs.declared.layout.Layout.{Layout}
use Rattle.runner_steps.specs.table_words.specs.declared.sizes.Sizes.{Sizes}
use Rattle.runner_steps.specs.table_words.specs.declared.spot.Spot.{Spot}
use Rattle.runner_steps.specs.table_words.specs.declared.access.Access.{Access}
use Rattle.runner_steps.specs.table_words.specs.Access.{written}
use Rattle.runner_steps.specs.table_words.specs.Places.{size, address, Fits, fits}
use Rattle.runner_steps.specs.table_words.specs.Seen.{seen, upd, put}
use Rattle.runner_steps.specs.table_words.proofs.Seen as words
use Rattle.runner_steps.specs.runner_parts.specs.structure_laws.specs.Meaning.{Meaning}
use Rattle.runner_steps.specs.runner_parts.specs.declared.event.EventKind.{EventKind}
use Rattle.runner_steps.specs.runner_parts.specs.declared.event.EventKind.TheVariants as kinds
use Rattle.runner_steps.specs.runner_parts.specs.declared.event.Event.{Event}
use Rattle.runner_steps.specs.runner_parts.specs.State.{PartState, RunState}
use Rattle.runner_steps.specs.Outside.{Ask}
use Rattle.runner_steps.specs.Asks.{fitting, sizes_for, ask_by, asks}
use Rattle.runner_steps.specs.After.{after, leaves, knows_also}
use Rattle.machine_states.specs.World.{World, seat_of, settled_part, knowing, left_by, put_part, acted, acts, happens}
use Rattle.machine_states.specs.Sight.{Sight, part_or_first, part_of, sight, parts_after, sight_after, Steps, IsWhole}
use Rattle.machine_states.proofs.Steps.{some_same, length_put, fitting_fits}

pub some_none : {A B : Type 0} → (a : A) → None ≡ Some a → B
some_none a e = absurd (let x = e in cc)

-- a test that gives an ask
pub if_some : {A : Type 0} → (b : Bool) (x y : A) → cond b (Some x) None ≡ Some y → (b ≡ true) × (x ≡ y)
if_some true x y e = (refl, some_same x y e)
if_some false x y e = some_none y e

-- what an enabled event asks is a word of the table, and its runner wasn't joined
pub fitting_is : (s : Sizes) (a : Ask) (x : Spot × Access) → fitting s a ≡ Some x → a ≡ Some x
fitting_is s None x e = some_none x e
fitting_is s (Some y) x e = ap (λ (z : Spot × Access). Some z) (if_some (fits s y.0) y x e).1

pub unless_gone : (s : Sizes) (gone : Bool) (a : Ask) (x : Spot × Access) → cond gone None (fitting s a) ≡ Some x → (gone ≡ false) × (a ≡ Some x) × Fits s x.0
unless_gone s true a x e = some_none x e
unless_gone s false a x e = (refl, fitting_is s a x e, fitting_fits s a x e)

-- a seat is one runner's
seat_same : (runners r r' : ℕ) → r ≤ runners → cond (r' == runners) 0 (suc r') ≡ cond (r == runners) 0 (suc r) → r' ≡ r
seat_same runners r r' h e = grind (arith, nat_tests)

seat_within : (l : Layout) (parts : List PartState) (r : ℕ) → seat_of l r < length parts → length parts ≡ l.runners + 1 → r ≤ l.runners
seat_within l parts r h n = grind (arith, nat_tests)

set_get : (parts : List PartState) (i j : ℕ) (p : PartState) → i < length parts → part_or_first (slice_get (slice_set parts i p) j) ≡ cond (j == i) p (part_or_first (slice_get parts j))
set_get parts i j p h = ap part_or_first put_there ∙ shown (j == i) (slice_get parts j)
  where
    put_there : slice_get (slice_set parts i p) j ≡ cond (j == i) (Some p) (slice_get parts j)
    put_there = grind (arith, common_steps, gets)

    shown : (b : Bool) (o : Option PartState) → part_or_first (cond b (Some p) o) ≡ cond b p (part_or_first o)
    shown true o = refl
    shown false o = refl

seat_test : (runners r r' : ℕ) → r ≤ runners → cond (r' == runners) 0 (suc r') == cond (r == runners) 0 (suc r) ≡ (r' == r)
seat_test runners r r' h = grind (arith, nat_tests)

-- a part that is put in its seat is seen at its runner
part_set : (l : Layout) (parts : List PartState) (r : ℕ) (p : PartState) → seat_of l r < length parts → r ≤ l.runners → part_of l (slice_set parts (seat_of l r) p) ≡ upd (part_of l parts) r p
part_set l parts r p h some = fun_ext (λ r'. set_get parts (seat_of l r) (seat_of l r') p h ∙ ap (λ b. cond b p (part_of l parts r')) (seat_test l.runners r r' some))

pub cond_none : {A B : Type 0} → (b : Bool) (x : A) → cond b None None ≡ Some x → B
cond_none true x e = some_none x e
cond_none false x e = some_none x e

-- a join is the keeper's, and of a worker
abbrev pub Joins : Layout → EventKind → ℕ → Type 0
Joins l (kinds.Join worker) r = (r ≡ l.runners) × (worker < l.runners)
Joins l _ r = Unit {0}

join_test : (r runners worker : ℕ) (a b : Bool) → (r == runners && (a && (nat_lt worker runners && b))) ≡ true → (r ≡ runners) × (worker < runners)
join_test r runners worker a b e = grind (arith, nat_tests)

module _ (m : Meaning) (l : Layout) (rs : List Request) where
  join_asked : (r worker : ℕ) (p : PartState) (o : Option RunState) (x : Spot × Access) → ask_by m l rs r (kinds.Join worker) p o ≡ Some x → Joins l (kinds.Join worker) r
  join_asked r worker p None x e = join_test r l.runners worker _ _ (if_some _ _ x e).0
  join_asked r worker p (Some q) x e = cond_none _ x e

  pub joins : (kind : EventKind) (r : ℕ) (p : PartState) (x : Spot × Access) → asks m l rs r kind p ≡ Some x → Joins l kind r
  joins (kinds.Join worker) r p x e = join_asked r worker p p.run x (unless_gone _ p.gone _ x e).1
  joins _ r p x e = tt

  worker_seat : (worker : ℕ) → worker < l.runners → suc worker ≡ seat_of l worker
  worker_seat worker h = grind (arith, nat_tests)

  at_worker : (parts : List PartState) (worker : ℕ) → worker < l.runners → part_or_first (slice_get parts (suc worker)) ≡ part_of l parts worker
  at_worker parts worker h = ap (λ n. part_or_first (slice_get parts n)) (worker_seat worker h)

  -- the parts of a machine after an event, by their runners
  module _ (parts : List PartState) (count : length parts ≡ l.runners + 1) (r : ℕ) (some : r ≤ l.runners) (p : PartState) where
    room : seat_of l r < length parts
    room = grind (arith, nat_tests)

    known : (o : Option PartState) (q : PartState) → o ≡ Some q → knowing p o ≡ knows_also p (part_or_first o)
    known o q e = subst (λ (x : Option PartState). knowing p x ≡ knows_also p (part_or_first x)) (sym e) refl

    left : (xs : List PartState) (worker : ℕ) (o : Option PartState) (q : PartState) → o ≡ Some q → left_by xs (suc worker) o ≡ slice_set xs (suc worker) (leaves (part_or_first o))
    left xs worker o q e = subst (λ (x : Option PartState). left_by xs (suc worker) x ≡ slice_set xs (suc worker) (leaves (part_or_first x))) (sym e) refl

    others : (f : ℕ → PartState) (q : PartState) (worker : ℕ) → worker < l.runners → r ≡ l.runners → upd f r q worker ≡ f worker
    others f q worker h e = grind (arith, nat_tests)

    there : (xs : List PartState) (worker : ℕ) → length xs ≡ l.runners + 1 → worker < l.runners → slice_get xs (suc worker) ≡ Some (get_or xs (suc worker) p)
    there xs worker n h = slice_get-get_or xs (suc worker) p (omega arith)

    joined : (worker : ℕ) → worker < l.runners → r ≡ l.runners
        → part_of l (put_part parts (kinds.Join worker) (seat_of l r) (settled_part (kinds.Join worker) p parts)) ≡ parts_after (kinds.Join worker) (part_of l parts) r p
    joined worker h e =
        let q = settled_part (kinds.Join worker) p parts in
        let xs = slice_set parts (seat_of l r) q in
        let long : length xs ≡ l.runners + 1 = length-set parts (seat_of l r) q ∙ count in
        let settled : q ≡ knows_also p (part_of l parts worker) = known _ _ (there parts worker count h) ∙ ap (λ (w : PartState). knows_also p w) (at_worker parts worker h) in
        let kept : part_of l xs ≡ upd (part_of l parts) r q = part_set l parts r q room some in
        let was : Option PartState = slice_get xs (suc worker) in
        let gone : part_or_first was ≡ part_of l parts worker =
        at_worker xs worker h ∙ (ap (λ (f : ℕ → PartState). f worker) kept ∙ others (part_of l parts) q worker h e) in
        let out : put_part parts (kinds.Join worker) (seat_of l r) q ≡ slice_set xs (seat_of l worker) (leaves (part_or_first was)) =
        left xs worker _ _ (there xs worker long h) ∙ ap (λ n. slice_set xs n (leaves (part_or_first was))) (worker_seat worker h) in
        ap (part_of l) out
        ∙ (part_set l xs worker (leaves (part_or_first was)) (let at = worker_seat worker h in omega arith) (omega arith)
        ∙ (ap (λ (w : PartState). upd (part_of l xs) worker (leaves w)) gone
        ∙ ap (λ (f : ℕ → PartState). upd f worker (leaves (part_of l parts worker))) (kept ∙ ap (λ (w : PartState). upd (part_of l parts) r w) settled)))

    parts_seen : (kind : EventKind) → Joins l kind r → part_of l (put_part parts kind (seat_of l r) (settled_part kind p parts)) ≡ parts_after kind (part_of l parts) r p
    parts_seen (kinds.Join worker) h = joined worker h.1 h.0
    parts_seen _ h = part_set l parts r p room some

  seat_some : (parts : List PartState) (r : ℕ) (p : PartState) → length parts ≡ l.runners + 1 → slice_get parts (seat_of l r) ≡ Some p → r ≤ l.runners
  seat_some parts r p count e = seat_within l parts r (slice_get_within parts (seat_of l r) p e) count

  module _ (w w' : World) (event : Event) (whole : IsWhole m l rs w) where
    abbrev sizes : Sizes
    sizes = sizes_for m l rs

    module _ (p : PartState) (x : Spot × Access) (here : slice_get w.parts (seat_of l event.runner) ≡ Some p) (asked : asks m l rs event.runner event.kind p ≡ Some x) where
      abbrev found : ℕ
      found = slice_index w.words (address sizes x.0)

      abbrev made : World
      made = record {
        words = slice_set w.words (address sizes x.0) (written x.1 found);
        parts = put_part w.parts event.kind (seat_of l event.runner) (settled_part event.kind (after m l event.runner event.kind x.0 x.1 p found) w.parts);
      }

      inside : Fits sizes x.0
      inside = (unless_gone sizes p.gone (ask_by m l rs event.runner event.kind p p.run) x asked).2

      some_runner : event.runner ≤ l.runners
      some_runner = seat_some w.parts event.runner p whole.parts here

      own : p ≡ part_of l w.parts event.runner
      own = sym (ap part_or_first here)

      found_seen : found ≡ seen sizes w.words x.0
      found_seen = sym (words.seen_here sizes w.words x.0 inside)

      words_seen : seen sizes made.words ≡ put (seen sizes w.words) x.0 (written x.1 (seen sizes w.words x.0))
      words_seen = fun_ext (λ a. words.seen_set sizes w.words (written x.1 found) whole.words x.0 a inside)
          ∙ ap (λ n. put (seen sizes w.words) x.0 (written x.1 n)) found_seen

      parts_path : part_of l made.parts ≡ (sight_after m l (sight m l rs w) event.runner event.kind x).part
      parts_path = parts_seen w.parts whole.parts event.runner some_runner (after m l event.runner event.kind x.0 x.1 p found) event.kind (joins event.kind event.runner p x asked)
          ∙ (ap (λ n. parts_after event.kind (part_of l w.parts) event.runner (after m l event.runner event.kind x.0 x.1 p n)) found_seen
          ∙ ap (λ (q : PartState). parts_after event.kind (part_of l w.parts) event.runner (after m l event.runner event.kind x.0 x.1 q (seen sizes w.words x.0))) own)

      steps : made ≡ w' → Steps m l rs (sight m l rs w) (sight m l rs w') event.runner event.kind
      steps e = record {
        runner = some_runner;
        ask = x;
        asked = ap (λ (q : PartState). asks m l rs event.runner event.kind q) (sym own) ∙ asked;
        has_word = inside;
        next = sym (ap (λ (v : World). sight m l rs v) e) ∙ (λ i. record { word = words_seen i; part = parts_path i });
      }

      whole_after : made ≡ w' → IsWhole m l rs w'
      whole_after e = subst (IsWhole m l rs) e (record {
        words = subst (λ n. size sizes ≤ n) (sym (length-set w.words (address sizes x.0) _)) whole.words;
        parts = length_put w.parts event.kind (seat_of l event.runner) _ ∙ whole.parts;
      })

    by_ask : (p : PartState) (a : Ask) → slice_get w.parts (seat_of l event.runner) ≡ Some p → asks m l rs event.runner event.kind p ≡ a → acted m l rs w event.runner event.kind p a ≡ Some w'
        → Steps m l rs (sight m l rs w) (sight m l rs w') event.runner event.kind × IsWhole m l rs w'
    by_ask p None here asked e = some_none w' e
    by_ask p (Some x) here asked e = let same = some_same _ _ e in (steps p x here asked same, whole_after p x here asked same)

    by_part : (o : Option PartState) → slice_get w.parts (seat_of l event.runner) ≡ o → acts m l rs w event.runner event.kind o ≡ Some w'
        → Steps m l rs (sight m l rs w) (sight m l rs w') event.runner event.kind × IsWhole m l rs w'
    by_part None here e = some_none w' e
    by_part (Some p) here e = by_ask p (asks m l rs event.runner event.kind p) here refl e

    -- an event that happens is a step of the sight, and leaves the machine whole
    pub happens_steps : happens m l rs w event ≡ Some w' → Steps m l rs (sight m l rs w) (sight m l rs w') event.runner event.kind × IsWhole m l rs w'
    happens_steps e = by_part (slice_get w.parts (seat_of l event.runner)) refl e

-- the same by other names
module _ (m : Meaning) (l : Layout) (rs : List Request) where
  pub bare_step : (s s' : Sight) (r : ℕ) (kind : EventKind) → Steps m l rs s s' r kind → Steps m l rs s s' r kind
  bare_step s s' r kind step = step

  abbrev pub full_step : (s s' : Sight) (r : ℕ) (kind : EventKind) → Steps m l rs s s' r kind → Steps m l rs s s' r kind
  full_step s s' r kind step = step

  pub happens_in_full : (w w' : World) (event : Event) (whole : IsWhole m l rs w) → happens m l rs w event ≡ Some w' → Steps m l rs (sight m l rs w) (sight m l rs w') event.runner event.kind × IsWhole m l rs w'
  happens_in_full w w' event whole e = happens_steps m l rs w w' event whole e
