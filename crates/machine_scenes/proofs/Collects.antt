-- A runner collects the slots that it retired two epochs ago: this leads from a lawful scene to a lawful scene.
use Rattle.std.proofs.Common.{◌≡◌, ◌≢◌, ℕ, zero, suc, ◌+◌, ◌<◌, ◌≤◌, Bool, true, false, cond, refl, sym, ap, ◌∙◌, subst, inl, inr, ⊎_elim, arith}
use Rattle.std.specs.Prelude.{◌⊎◌, ◌==◌, ◌&&◌, nat_lt, Option}
use Rattle.std.proofs.lemmas.Bool.{cases_eq, cases_lt}
use Rattle.std.proofs.lemmas.Bool.Decides.{nat_tests}
use mathlib.Core.Path.{fun_ext}
use Rattle.agreement_core.specs.body_terms.specs.Update.{upd}
use Rattle.agreement_core.specs.table_words.specs.declared.layout.Layout.{Layout}
use Rattle.agreement_core.specs.table_words.specs.Limits.{IsWithinLimits}
use Rattle.agreement_core.specs.section_lines.specs.structure_laws.specs.Scene.{Readings, Status, Free, Live, Retired}
use Rattle.agreement_core.specs.section_lines.specs.structure_laws.specs.Scene as scenes
use Rattle.agreement_core.specs.section_lines.specs.structure_laws.specs.Meaning.{Meaning}
use Rattle.agreement_core.specs.section_lines.specs.structure_laws.specs.Laws.{Laws}
use Rattle.agreement_core.specs.section_lines.specs.structure_laws.specs.Lawful.{IsLawful}
use Rattle.agreement_core.specs.section_lines.specs.structure_laws.proofs.Changes.{upd_same, upd_other}
use Rattle.agreement_core.specs.section_lines.specs.structure_laws.proofs.Moves.{moves}
use Rattle.epoch_core.specs.declared.location.Location.{Location}
use Rattle.epoch_core.specs.declared.location.Location.TheVariants as locations
use Rattle.epoch_core.specs.State.{Counts}
use Rattle.epoch_core.specs.Moves.{collected, is_old}
use Rattle.epoch_core.specs.Events.{after_collect}
use Rattle.machine_scenes.specs.Shown.{status_at, status_of}
use Rattle.machine_scenes.proofs.Shown.{upd_found}

-- a slot stays where it is, or it was retired two epochs before this one or earlier and is free
abbrev pub StaysOrIsFree : ℕ → Status → Status → Type 0
StaysOrIsFree epoch before after = (after ≡ before) ⊎ ((y : ℕ) × (before ≡ Retired y) × (y + 2 ≤ epoch) × (after ≡ Free))

-- the slots below this number are as they are after, the others as they were before
abbrev part_way : (ℕ → Status) → (ℕ → Status) → ℕ → ℕ → Status
part_way before after n t = cond (nat_lt t n) (after t) (before t)

part_below : (before after : ℕ → Status) (n t : ℕ) → t < n → part_way before after n t ≡ after t
part_below before after n t lt = grind (arith, nat_tests)

part_above : (before after : ℕ → Status) (n t : ℕ) → n ≤ t → part_way before after n t ≡ before t
part_above before after n t le = grind (arith, nat_tests)

part_next : (before after : ℕ → Status) (n : ℕ)
    → ◌≡◌ {A = ℕ → Status} (part_way before after (suc n)) (upd (part_way before after n) n (after n))
part_next before after n = fun_ext at
  where
    at : (t : ℕ) → part_way before after (suc n) t ≡ upd (part_way before after n) n (after n) t
    at t = ⊎_elim
        (λ e. part_below before after (suc n) t (omega arith) ∙ (ap after e ∙ sym (upd_same (part_way before after n) n t (after n) e)))
        (λ ne. ⊎_elim
        (λ lt. part_below before after (suc n) t (omega arith)
        ∙ (sym (part_below before after n t lt) ∙ sym (upd_other (part_way before after n) n t (after n) ne)))
        (λ le. part_above before after (suc n) t (past t n le ne)
        ∙ (sym (part_above before after n t le) ∙ sym (upd_other (part_way before after n) n t (after n) ne)))
        (cases_lt t n)) (cases_eq t n)
      where
        past : (t n : ℕ) → n ≤ t → t ≢ n → suc n ≤ t
        past t n le ne = search arith

module _ (m : Meaning) (laws : Laws m) (layout : Layout) (limits : IsWithinLimits layout)
    (cells : ℕ → ℕ) (epoch : ℕ) (reader : ℕ → Option Readings) (section : ℕ → Option scenes.Section) where
  abbrev pub LawfulWith : (ℕ → Status) → Type 0
  LawfulWith status = IsLawful m layout (record { cells = cells; epoch = epoch; status = status; reader = reader; section = section })

  collects_to : (before after : ℕ → Status) → ((t : ℕ) → StaysOrIsFree epoch (before t) (after t)) → LawfulWith before → (n : ℕ)
      → LawfulWith (part_way before after n)
  collects_to before after change lawful zero = subst LawfulWith (sym (fun_ext (λ t. part_above before after 0 t (omega arith)))) lawful
  collects_to before after change lawful (suc n) =
      let now : LawfulWith (part_way before after n) = collects_to before after change lawful n in
      let stands : part_way before after n n ≡ before n = part_above before after n n (omega arith) in
      subst LawfulWith (sym (part_next before after n)) (⊎_elim
      (λ same. subst LawfulWith (sym (upd_found (part_way before after n) n (after n) (same ∙ sym stands))) now)
      (λ old. subst (λ v. LawfulWith (upd (part_way before after n) n v)) (sym old.3)
      ((moves m laws layout limits).collect (record
      { cells = cells; epoch = epoch; status = part_way before after n; reader = reader; section = section }) n old.0
      (stands ∙ old.1) old.2 now))
      (change n))

  -- all slots at once
  pub collects : (before after : ℕ → Status) (nodes : ℕ) → ((t : ℕ) → nodes ≤ t → after t ≡ before t)
      → ((t : ℕ) → StaysOrIsFree epoch (before t) (after t)) → LawfulWith before → LawfulWith after
  collects before after nodes same change lawful = subst LawfulWith (fun_ext at) (collects_to before after change lawful nodes)
    where
      at : (t : ℕ) → part_way before after nodes t ≡ after t
      at t = ⊎_elim (λ lt. part_below before after nodes t lt) (λ le. part_above before after nodes t le ∙ sym (same t le))
          (cases_lt t nodes)

-- what a runner that collects does to a slot
collected_location : (epoch x r : ℕ) (node : Bool) (l : Location) → x ≤ epoch
    → StaysOrIsFree epoch (status_at l) (status_at (collected node r x l))
collected_location epoch x r node (locations.Limbo r' y) le = by_age (node && (r' == r && is_old y x)) refl
  where
    second : (a b : Bool) → (a && b) ≡ true → b ≡ true
    second a b e = grind arith

    two_ago : (y x : ℕ) → is_old y x ≡ true → y + 2 ≤ x
    two_ago y x e = grind (arith, nat_tests)

    by_age : (old : Bool) → (node && (r' == r && is_old y x)) ≡ old
        → StaysOrIsFree epoch (Retired y) (status_at (cond old (locations.Hand r) (locations.Limbo r' y)))
    by_age true e = inr (y, refl, (let ago = two_ago y x (second (r' == r) (is_old y x) (second node (r' == r && is_old y x) e)) in omega arith), refl)
    by_age false e = inl refl
collected_location epoch x r node locations.Fixed le = inl refl
collected_location epoch x r node locations.Live le = inl refl
collected_location epoch x r node (locations.Hand r') le = inl refl
collected_location epoch x r node (locations.Free r') le = inl refl
collected_location epoch x r node (locations.Worn r') le = inl refl
collected_location epoch x r node (locations.OnBoard i) le = inl refl

-- the statuses after a runner has collected for an epoch that is at most this one
pub collected_status : (c : Counts) (location : ℕ → Location) (epoch x r : ℕ) → x ≤ epoch → (t : ℕ)
    → StaysOrIsFree epoch (status_of c location t) (status_of c (after_collect c location r x) t)
collected_status c location epoch x r le t = by_node (nat_lt t c.nodes)
  where
    by_node : (node : Bool) → StaysOrIsFree epoch (cond node (status_at (location t)) Free)
        (cond node (status_at (collected node r x (location t))) Free)
    by_node true = collected_location epoch x r true (location t) le
    by_node false = inl refl

pub other_status : (c : Counts) (location location' : ℕ → Location) (t : ℕ) → c.nodes ≤ t → status_of c location' t ≡ status_of c location t
other_status c location location' t le = outside (nat_lt t c.nodes) (status_at (location t)) (status_at (location' t)) (above t c.nodes le)
  where
    above : (t n : ℕ) → n ≤ t → nat_lt t n ≡ false
    above t n le = grind (arith, nat_tests)

    outside : (b : Bool) (x y : Status) → b ≡ false → cond b y Free ≡ cond b x Free
    outside b x y e = cc
