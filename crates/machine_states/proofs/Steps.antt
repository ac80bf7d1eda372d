-- What a step of the machine knows, over plain values.
use Rattle.std.specs.Prelude.{Bool, true, false, slice_index, slice_set, slice_get, if◌then◌else◌}
use Rattle.std.proofs.Common.{◌≡◌, ℕ, suc, ◌<◌, List, length, sym, refl, ap, subst, ◌∙◌, Option, Some, None}
use Rattle.std.proofs.Math.ListN.{length-set}
use Rattle.std.proofs.lemmas.Option.{none-some}
use Rattle.runner_steps.specs.map_history.specs.declared.op.Request.{Request}
use Rattle.runner_steps.specs.table_words.specs.declared.layout.Layout.{Layout}
use Rattle.runner_steps.specs.table_words.specs.declared.sizes.Sizes.{Sizes}
use Rattle.runner_steps.specs.table_words.specs.declared.spot.Spot.{Spot}
use Rattle.runner_steps.specs.table_words.specs.declared.access.Access.{Access}
use Rattle.runner_steps.specs.table_words.specs.Access.{written}
use Rattle.runner_steps.specs.table_words.specs.Places.{size, address, Fits, fits}
use Rattle.runner_steps.specs.table_words.specs.Seen.{seen}
use Rattle.runner_steps.specs.table_words.proofs.Seen as words
use Rattle.runner_steps.specs.runner_parts.specs.structure_laws.specs.Meaning.{Meaning}
use Rattle.runner_steps.specs.runner_parts.specs.declared.event.EventKind.{EventKind}
use Rattle.runner_steps.specs.runner_parts.specs.declared.event.EventKind.TheVariants as kinds
use Rattle.runner_steps.specs.runner_parts.specs.declared.event.Event.{Event}
use Rattle.runner_steps.specs.runner_parts.specs.State.{PartState}
use Rattle.runner_steps.specs.Outside.{Ask}
use Rattle.runner_steps.specs.Asks.{fitting, sizes_for, asks, ask_by}
use Rattle.runner_steps.specs.After.{after}
use Rattle.machine_states.specs.World.{World, seat_of, settled_part, left_by, put_part, acted, acts, happens}

pub within : (s : Sizes) (a : Spot) → Fits s a → address s a < size s
within s a h = words.within s a h

pub some_same : {A : Type 0} → (a b : A) → Some a ≡ Some b → a ≡ b
some_same a b e = cc

pub none_some : {A : Type 0} → (a : A) → Some a ≡ None → ⊥
none_some a e = cc

fit_if : (s : Sizes) (y x : Spot × Access) (b : Bool) → b ≡ fits s y.0 → (if b then Some y else None) ≡ Some x → Fits s x.0
fit_if s y x true e h = let same : y ≡ x = cc in subst (λ (z : Spot × Access). Fits s z.0) same (words.fits_means s y.0 (sym e))
fit_if s y x false e h = absurd (none-some x h)

-- what fits is a word of the table
pub fitting_fits : (s : Sizes) (a : Ask) (x : Spot × Access) → fitting s a ≡ Some x → Fits s x.0
fitting_fits s None x h = absurd (none-some x h)
fitting_fits s (Some y) x h = fit_if s y x (fits s y.0) refl h

fits_unless : (s : Sizes) (gone : Bool) (a : Ask) (x : Spot × Access) → (if gone then None else fitting s a) ≡ Some x → Fits s x.0
fits_unless s true a x h = absurd (none-some x h)
fits_unless s false a x h = fitting_fits s a x h

length_left : (parts : List PartState) (seat : ℕ) (o : Option PartState) → length (left_by parts seat o) ≡ length parts
length_left parts seat None = refl
length_left parts seat (Some q) = length-set parts seat _

-- no event changes how many parts there are
pub length_put : (parts : List PartState) (k : EventKind) (seat : ℕ) (p : PartState) → length (put_part parts k seat p) ≡ length parts
length_put parts (kinds.Join worker) seat p = length_left (slice_set parts seat p) (suc worker) (slice_get (slice_set parts seat p) (suc worker)) ∙ length-set parts seat p
length_put parts _ seat p = length-set parts seat p

pub length_words : (xs : List ℕ) (at v : ℕ) → length (slice_set xs at v) ≡ length xs
length_words xs at v = length-set xs at v

module _ (m : Meaning) (l : Layout) (rs : List Request) (ws : List ℕ) (parts : List PartState) (e : Event) (p : PartState) (x : Spot × Access) where
  abbrev pub before : World
  before = record { words = ws; parts = parts }

  abbrev pub sizes : Sizes
  sizes = sizes_for m l rs

  pub asked_fits : asks m l rs e.runner e.kind p ≡ Some x → Fits sizes x.0
  asked_fits asked = fits_unless sizes p.gone (ask_by m l rs e.runner e.kind p p.run) x asked

  module _ (here : slice_get parts (seat_of l e.runner) ≡ Some p) (asked : asks m l rs e.runner e.kind p ≡ Some x) where
    abbrev pub met : ℕ
    met = slice_index ws (address sizes x.0)

    abbrev pub next_part : ℕ → PartState
    next_part found = after m l e.runner e.kind x.0 x.1 p found

    -- the event happens
    pub goes : happens m l rs before e ≡ Some (record {
      words = slice_set ws (address sizes x.0) (written x.1 met);
      parts = put_part parts e.kind (seat_of l e.runner) (settled_part e.kind (next_part met) parts);
    })
    goes = ap (acts m l rs before e.runner e.kind) here ∙ ap (acted m l rs before e.runner e.kind p) asked

    pub not_none : happens m l rs before e ≡ None → ⊥
    not_none h = none_some _ (sym goes ∙ h)

    -- and leads to what the code has made
    pub lands : (found v : ℕ) (ws' : List ℕ) (next last : PartState) (parts' : List PartState)
        → found ≡ seen sizes ws x.0 → v ≡ written x.1 found → ws' ≡ slice_set ws (address sizes x.0) v
        → next ≡ next_part found → last ≡ settled_part e.kind next parts → parts' ≡ put_part parts e.kind (seat_of l e.runner) last
        → happens m l rs before e ≡ Some (record { words = ws'; parts = parts' })
    lands found v ws' next last parts' found_is v_is ws'_is next_is last_is parts'_is =
        let found_met : found ≡ met = found_is ∙ words.seen_here sizes ws x.0 (asked_fits asked) in
        let word_path : slice_set ws (address sizes x.0) (written x.1 met) ≡ ws' =
        ap (λ n. slice_set ws (address sizes x.0) (written x.1 n)) (sym found_met) ∙ (ap (λ n. slice_set ws (address sizes x.0) n) (sym v_is) ∙ sym ws'_is) in
        let part_path : put_part parts e.kind (seat_of l e.runner) (settled_part e.kind (next_part met) parts) ≡ parts' =
        ap (λ n. put_part parts e.kind (seat_of l e.runner) (settled_part e.kind (next_part n) parts)) (sym found_met)
        ∙ (ap (λ (q : PartState). put_part parts e.kind (seat_of l e.runner) (settled_part e.kind q parts)) (sym next_is)
        ∙ (ap (λ (q : PartState). put_part parts e.kind (seat_of l e.runner) q) (sym last_is) ∙ sym parts'_is)) in
        goes ∙ (λ i. Some (record { words = word_path i; parts = part_path i }))
