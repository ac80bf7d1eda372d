-- Each event keeps the history exact.
use Rattle.std.proofs.Common.{◌≡◌, ◌≢◌, ℕ, suc, ◌<◌, ◌≤◌, Bool, true, false, cond, [], ◌∷◌, refl, sym, ap, ◌∙◌, ⊎_elim, arith}
use Rattle.std.proofs.lemmas.Bool.{cases_lt, cases_eq}
use Rattle.std.specs.Prelude.{nat_lt}
use Rattle.section_lines.specs.structure_laws.specs.body_terms.specs.Update.{upd}
use Rattle.section_lines.specs.structure_laws.specs.body_terms.specs.declared.micro.Micro.{Micro}
use Rattle.section_lines.specs.structure_laws.specs.body_terms.specs.declared.micro.Micro.TheVariants as micros
use Rattle.agreement_core.specs.State.{CellRules, Section, AgreementState}
use Rattle.agreement_core.specs.Checks.{stored_word, came, is_stamp_exchange, is_reply_exchange}
use Rattle.agreement_core.specs.Events.{IsPublishable}
use Rattle.agreement_core.specs.History.{History, change_of, moves_of, written, IsExact}
use Rattle.agreement_core.proofs.Moving.{upd_split}
use Rattle.agreement_core.proofs.Lines.{store_logged, stored_same}

-- an exchange of a cell
abbrev pub is_exchange : Micro → Bool
is_exchange (micros.ExchangeCell place k value) = true
is_exchange _ = false

pub no_change : (log : ℕ → ℕ) (m : Micro) → is_exchange m ≡ false → change_of log m ≡ []
no_change log m h = grind arith

-- a section that goes on in this way has made the same changes
pub record SectionLasts (s s' : Section) : Type 0 where
  pub request : s'.request ≡ s.request
  pub code : s'.code ≡ s.code
  pub edge : s.edge ≤ s'.edge
  pub moves : (i : ℕ) → moves_of s' i ≡ moves_of s i

pub lasts_same : (s : Section) → SectionLasts s s
lasts_same s = record { request = refl; code = refl; edge = omega arith; moves = λ i. refl }

pub edge_rises : (edge n : ℕ) → edge ≤ cond (nat_lt edge n) n edge
edge_rises edge n = grind arith

-- below the edge, at it, and above it
pub below : {A : Type 0} → (i n : ℕ) (x y : A) → i < n → cond (nat_lt i n) x y ≡ x
below i n x y lt = grind arith

pub above : {A : Type 0} → (i n : ℕ) (x y : A) → n ≤ i → cond (nat_lt i n) x y ≡ y
above i n x y le = grind arith

pub step_edge : (i edge n : ℕ) → n ≤ edge → i ≢ edge → nat_lt i (cond (nat_lt edge (suc n)) (suc n) edge) ≡ nat_lt i edge
step_edge i edge n le ne = grind arith

pub moves_else : (s : Section) (n i : ℕ) → n ≤ s.edge → i ≢ s.edge → moves_of (came s (suc n)) i ≡ moves_of s i
moves_else s n i le ne = ap (λ b. cond b (change_of s.log (s.code i)) []) (step_edge i s.edge n le ne)

-- the run goes on behind a step that exchanges no cell, or that is behind the edge
pub lasts_came : (s : Section) (n : ℕ) → n ≤ s.edge → (n ≡ s.edge → is_exchange (s.code n) ≡ false) → SectionLasts s (came s (suc n))
lasts_came s n le quiet = record {
  request = refl;
  code = refl;
  edge = edge_rises s.edge (suc n);
  moves = λ i. ⊎_elim (λ e. at_it i e) (λ ne. moves_else s n i le ne) (cases_eq i s.edge);
}
  where
    none : (i : ℕ) → n ≡ i → is_exchange (s.code n) ≡ false → (b : Bool) → cond b (change_of s.log (s.code i)) [] ≡ []
    none i e q true = no_change s.log _ (ap (λ m. is_exchange (s.code m)) (sym e) ∙ q)
    none i e q false = refl

    at_it : (i : ℕ) → i ≡ s.edge → moves_of (came s (suc n)) i ≡ moves_of s i
    at_it i e = ⊎_elim
        (λ lt. ap (λ b. cond b (change_of s.log (s.code i)) []) (same_test i lt))
        (λ ge. let q : n ≡ s.edge = omega arith in none i (q ∙ sym e) (quiet q) _ ∙ sym (above i s.edge _ _ (omega arith)))
        (cases_lt n s.edge)
      where
        same_test : (i : ℕ) → n < s.edge → nat_lt i (cond (nat_lt s.edge (suc n)) (suc n) s.edge) ≡ nat_lt i s.edge
        same_test i lt = grind arith

pub lasts_then : (s s1 s2 : Section) → SectionLasts s s1 → SectionLasts s1 s2 → SectionLasts s s2
lasts_then s s1 s2 a b = record {
  request = b.request ∙ a.request;
  code = b.code ∙ a.code;
  edge = let x = a.edge in let y = b.edge in omega arith;
  moves = λ i. b.moves i ∙ a.moves i;
}

-- a log that is the same up to a step makes the same change of it
change_same : (c : CellRules) (d : ℕ) (s : Section) → IsPublishable c d s.lock s.word s.code s.slot → (f g : ℕ → ℕ) (i : ℕ)
    → ((k : ℕ) → k < s.slot i → f k ≡ g k) → (m : Micro) → s.code i ≡ m → change_of f m ≡ change_of g m
change_same c d s p f g i same (micros.ExchangeCell place k v) e =
    let old : f k ≡ g k = same k (store_logged c s.lock s.code s.slot p.line i place k v e) in
    let new : stored_word f k v ≡ stored_word g k v = stored_same c s.lock s.code s.slot p.line i place k v f g e same in
    λ t. record { place = place; old = old t; new = new t } ∷ []
change_same c d s p f g i same m e = refl

-- a section whose log grows behind its agreed words
pub lasts_logs : (c : CellRules) (d : ℕ) (s : Section) → IsPublishable c d s.lock s.word s.code s.slot → (log : ℕ → ℕ)
    → ((k : ℕ) → k < s.slot s.edge → log k ≡ s.log k) → SectionLasts s (record s { log = log })
lasts_logs c d s p log same = record {
  request = refl;
  code = refl;
  edge = omega arith;
  moves = λ i. ⊎_elim
      (λ lt. ap (λ xs. cond (nat_lt i s.edge) xs []) (change_same c d s p log s.log i
      (λ k l. same k (let r = p.line.counted.slot_rises i s.edge (let z = lt in omega arith) in omega arith)) _ refl))
      (λ ge. above i s.edge _ _ ge ∙ sym (above i s.edge _ _ ge)) (cases_lt i s.edge);
}

-- what is the same in both states for the history
pub record StatesLast (w w' : AgreementState) : Type 0 where
  pub stamp : (q : ℕ) → w'.shared.stamp q ≡ w.shared.stamp q
  pub reply : (q : ℕ) → w'.shared.reply q ≡ w.shared.reply q
  pub was_used : (d : ℕ) → w'.used d ≡ true → w.used d ≡ true
  pub sections : (d : ℕ) → w'.used d ≡ true → SectionLasts (w.section d) (w'.section d)

-- an event that changes nothing of which the history speaks
pub exact_same : (w w' : AgreementState) (h : History) → StatesLast w w' → IsExact w h → IsExact w' h
exact_same w w' h same old = record {
  numbered = old.numbered;
  named = λ d u. old.named d (same.was_used d u);
  apart = old.apart;
  unborn_moved = old.unborn_moved;
  unborn_stamped = old.unborn_stamped;
  unborn_replied = old.unborn_replied;
  moved = λ d i u. old.moved d i (same.was_used d u) ∙ sym ((same.sections d u).moves i);
  moved_once = old.moved_once;
  stamps = λ q. old.stamps q ∙ ap written (sym (same.stamp q));
  replies = λ q. old.replies q ∙ ap written (sym (same.reply q));
  stamped_once = old.stamped_once;
  replied_once = old.replied_once;
  unstamped = λ d u z. old.unstamped d (same.was_used d u) (sym (same.stamp _ ∙ ap w.shared.stamp (same.sections d u).request) ∙ z);
  unreplied = λ d u z. old.unreplied d (same.was_used d u) (sym (same.reply _ ∙ ap w.shared.reply (same.sections d u).request) ∙ z);
  stamped_late = λ d u late. old.stamped_late d (same.was_used d u)
      (λ i lt. ap (λ (f : ℕ → Micro). is_stamp_exchange (f i)) (sym (same.sections d u).code)
      ∙ late i (let e = (same.sections d u).edge in omega arith));
  replied_late = λ d u late. old.replied_late d (same.was_used d u)
      (λ i lt. ap (λ (f : ℕ → Micro). is_reply_exchange (f i)) (sym (same.sections d u).code)
      ∙ late i (let e = (same.sections d u).edge in omega arith));
}

-- the state with another section of this descriptor
pub one_lasts : (section : ℕ → Section) (d : ℕ) (s' : Section) → SectionLasts (section d) s' → (d' : ℕ)
    → SectionLasts (section d') (upd section d s' d')
one_lasts section d s' last = upd_split section d s' (λ d' s. SectionLasts (section d') s) last (λ d' ne. lasts_same (section d'))
