-- Accounts meet the laws.
use Rattle.std.proofs.Common.{◌≡◌, ℕ, ◌+◌, ◌*◌, ◌<◌, ◌≤◌, Bool, true, false, cond, refl, sym, ap, subst, ◌∙◌, inl, inr, ⊎_elim, arith}
use Rattle.std.proofs.lemmas.Bool.{true≢false}
use Rattle.std.specs.Prelude.{◌==◌, ◌&&◌, ◌%◌, ◌^◌, ◌⊎◌, nat_lt, Some}
use mathlib.Core.Logic.{dite}
use native.Mathlib.Decide.{ℕ_discrete}
use Rattle.runner_parts.specs.structure_laws.specs.body_terms.specs.Update.{upd}
use Rattle.runner_parts.specs.structure_laws.specs.body_terms.specs.Word.{value_of, is_free, is_spent}
use Rattle.runner_parts.specs.structure_laws.specs.body_terms.specs.declared.step.Step.TheVariants.{Load, Take, Make, Store, Retire}
use Rattle.runner_parts.specs.structure_laws.specs.body_terms.specs.declared.value.Init.{Init}
use Rattle.runner_parts.specs.structure_laws.specs.body_terms.specs.declared.value.Value.{Value}
use Rattle.runner_parts.specs.structure_laws.specs.body_terms.specs.declared.thunk.Thunk.{Thunk}
use Rattle.runner_parts.specs.block_words.specs.table_words.specs.declared.layout.Layout.{Layout}
use Rattle.runner_parts.specs.structure_laws.specs.Scene.{Readings, Section, Free, Live, Scene}
use Rattle.runner_parts.specs.structure_laws.specs.Meaning.{Meaning}
use Rattle.runner_parts.specs.structure_laws.specs.Sections.{IsSmall, Holds}
use Rattle.runner_parts.specs.structure_laws.specs.Shape.{HasStep, Shaped}
use Rattle.runner_parts.specs.structure_laws.specs.Keeps.{Keeps}
use Rattle.runner_parts.specs.structure_laws.specs.Gives.{GivesLaw}
use Rattle.runner_parts.specs.structure_laws.specs.Laws.{IsFirst, Laws}
use Rattle.runner_parts.specs.structure_laws.proofs.Changes.{upd_same, upd_other, value_small, equal_of, both_true}
use Rattle.runner_parts.specs.structure_laws.proofs.Costs.{brief_cost}
use Rattle.shared_laws.specs.Nodeless.{NoneLive}
use Rattle.shared_laws.proofs.Numbers.{pair_read, lt_true, lt_false, eq_true, eq_false}
use Rattle.account_laws.specs.Accounts.{lock_of, balance_of, upper_word, lower_in, upper_in, transfer_body, money, accounts_of}
use Rattle.account_laws.proofs.Totals.{total_same, total_constant}
use Rattle.account_laws.proofs.TransferSteps.{makes_none, load_at, take_at, store_at, answer_at}
use Rattle.account_laws.proofs.Places.{lock_there, balance_there}
use Rattle.account_laws.proofs.Fitting.{Fit, fit_of, fits_on}
use Rattle.account_laws.proofs.Turns.{shape_own, accounts_in_turn}

free_live : Free ≡ Live → ⊥
free_live e = cc

-- a slot that leaves limbo isn't live
collected : (s : Scene) (t : ℕ) → NoneLive s → (u : ℕ) → upd s.status t Free u ≡ Live → ⊥
collected s t none u live = dite (ℕ_discrete u t)
    (λ e. free_live (sym (upd_same s.status t u Free e) ∙ live))
    (λ ne. none u (sym (upd_other s.status t u Free ne) ∙ live))

module _ (accounts opening : ℕ) where
  abbrev m : Meaning
  m = accounts_of accounts opening

  no_make : (thunk : Thunk) (j r : ℕ) (init : Init) → HasStep m thunk j (Make init r) → ⊥
  no_make thunk j r init h = true≢false (makes_none (lower_in accounts thunk) (upper_in accounts thunk) thunk j (Make init r) h).0

  no_retire : (thunk : Thunk) (j t : ℕ) → HasStep m thunk j (Retire t) → ⊥
  no_retire thunk j t h = true≢false (makes_none (lower_in accounts thunk) (upper_in accounts thunk) thunk j (Retire t) h).1

  module _ (layout : Layout) (readings : Readings) (t : Thunk) (fit : Fit accounts layout.version_max readings t) where
    abbrev lower : ℕ
    lower = lower_in accounts t

    abbrev upper : ℕ
    upper = upper_in accounts t

    lower_low : lower < accounts
    lower_low = let order = fit.order in let low = fit.low in omega (arith, order, low)

    -- what it loads is the balance of an account
    loaded : (j p r : ℕ) → HasStep m t j (Load p r) → (account : ℕ) × (account < accounts) × (p ≡ balance_of account)
    loaded j p r h = ⊎_elim (λ first. (lower, lower_low, first.1)) (λ second. (upper, fit.low, second.1)) (load_at lower upper t j p r h)

    -- a place is loaded once, and a register stored to once
    one_load : (i j p q r : ℕ) → HasStep m t i (Load p q) → HasStep m t j (Load p r) → i ≡ j
    one_load i j p q r h h' = by (load_at lower upper t i p q h) (load_at lower upper t j p r h')
      where
        by : ((i ≡ 0) × (p ≡ balance_of lower) × (q ≡ 0)) ⊎ ((i ≡ 4) × (p ≡ balance_of upper) × (q ≡ 1))
            → ((j ≡ 0) × (p ≡ balance_of lower) × (r ≡ 0)) ⊎ ((j ≡ 4) × (p ≡ balance_of upper) × (r ≡ 1)) → i ≡ j
        by (inl a) (inl b) = a.0 ∙ sym b.0
        by (inl a) (inr b) = absurd (let order = fit.order in let e = sym a.1 ∙ b.1 in omega (arith, order, e))
        by (inr a) (inl b) = absurd (let order = fit.order in let e = sym a.1 ∙ b.1 in omega (arith, order, e))
        by (inr a) (inr b) = a.0 ∙ sym b.0

    one_store : (i j r : ℕ) (v w : Value) → HasStep m t i (Store r v) → HasStep m t j (Store r w) → i ≡ j
    one_store i j r v w h h' = by (store_at lower upper t i r v h) (store_at lower upper t j r w h')
      where
        by : {A B C D : Type 0} → ((i ≡ 8) × (r ≡ 0) × A) ⊎ ((i ≡ 9) × (r ≡ 1) × B) → ((j ≡ 8) × (r ≡ 0) × C) ⊎ ((j ≡ 9) × (r ≡ 1) × D) → i ≡ j
        by (inl a) (inl b) = a.0 ∙ sym b.0
        by (inl a) (inr b) = absurd (let e = sym a.1 ∙ b.1 in omega (arith, e))
        by (inr a) (inl b) = absurd (let e = sym a.1 ∙ b.1 in omega (arith, e))
        by (inr a) (inr b) = a.0 ∙ sym b.0

    small_store : (j r : ℕ) (v : Value) → HasStep m t j (Store r v) → IsSmall v
    small_store j r v h = ⊎_elim (λ first. subst IsSmall (sym first.2) (value_small _)) (λ second. subst IsSmall (sym second.2) (value_small _)) (store_at lower upper t j r v h)

    pub transfer_shaped : Shaped m layout readings t
    transfer_shaped = record {
      shape = shape_own accounts layout.version_max readings t fit;
      brief = brief_cost (transfer_body accounts t) (shape_own accounts layout.version_max readings t fit) (omega arith);
      outer_lock = ap m.is_lock fit.lock ∙ (lock_there accounts lower lower_low).1;
      outer_known = inl (subst (λ p. p < 2 * accounts) (sym fit.lock) (lock_there accounts lower lower_low).0);
      take_lock = λ j l w h. ap m.is_lock (take_at lower upper t j l w h).1 ∙ (lock_there accounts upper fit.low).1;
      take_known = λ j l w h. inl (subst (λ p. p < 2 * accounts) (sym (take_at lower upper t j l w h).1) (lock_there accounts upper fit.low).0);
      take_inner = λ j l w h e. let order = fit.order in let same = sym (take_at lower upper t j l w h).1 ∙ (e ∙ fit.lock) in omega (arith, order, same);
      take_once = λ i j l v w h h'. (take_at lower upper t i l v h).0 ∙ sym (take_at lower upper t j l w h').0;
      take_read = λ j l w h.
          let at = take_at lower upper t j l w h in
          let k = pair_read readings (lock_of upper) (upper_word t) fit.read_lock in
          (k.0, k.1 ∙ ap Some (λ z. (sym at.1 z, sym at.2 z)));
      take_free = λ j l w h. ap is_free (take_at lower upper t j l w h).2 ∙ fit.free;
      take_unspent = λ j l w h. ap (is_spent layout.version_max) (take_at lower upper t j l w h).2 ∙ fit.unspent;
      load_unlocked = λ j p r h. let at = loaded j p r h in ap m.is_lock at.2 ∙ (balance_there accounts at.0 at.1).1;
      load_known = λ j p r h. let at = loaded j p r h in inl (subst (λ p. p < 2 * accounts) (sym at.2) (balance_there accounts at.0 at.1).0);
      load_once = one_load;
      store_once = one_store;
      store_small = small_store;
      make_whole = λ j r init h. absurd (no_make t j r init h);
      make_small = λ j r i init v h at. absurd (no_make t j r init h);
      make_unlocked = λ j r i t' init v h at lock. absurd (no_make t j r init h);
      answers = λ j n h. subst (λ n. 0 < n) (sym (answer_at lower upper t j n h)) (omega arith);
    }

  accounts_keep : (layout : Layout) → Keeps m layout
  accounts_keep layout = record {
    enters = λ s r sound kept sound'. kept;
    reads = λ s r p readings reader known sound kept sound'. kept;
    leaves = λ s r sound kept sound'. kept;
    holds = λ s r d readings op thunk reader publishes none sound kept sound'. kept;
    load = λ s d p r x here h sound kept sound'. kept;
    want = λ s d r w x here h equal sound kept sound'. kept;
    fresh = λ s d r x here h newer sound kept sound'. kept;
    take = λ s d l w x here h unheld sound kept sound'. kept;
    make = λ s d t r x init here h prepared sound kept sound'. absurd (no_make x.thunk x.at r init h);
    stamp = λ s d x here h sound kept sound'. kept;
    store = λ s d j p r x v here h earlier load found sound kept sound'. kept;
    retire = λ s d t y x here h past recent links sound kept sound'. absurd (no_retire x.thunk x.at t h);
    answer = λ s d n x here h sound kept sound'. kept;
    done = λ s d x here ended sound kept sound'. kept;
    lock = λ s p w lock sound kept sound'. kept;
    hand = λ s t i w free low sound kept sound'. kept;
    collect = λ s t y retired past sound kept sound'. collected s t kept;
    advance = λ s sound kept sound'. kept;
  }

  accounts_give : (layout : Layout) → GivesLaw m layout
  accounts_give layout s sound kept = record {
    guarded = λ d j p r x here le h. guards x (fit_of accounts layout.version_max x.readings x.thunk (sound.fits d x here)) j p r le h;
    walked = λ r readings op here allowed. tt;
    reach = λ readings t reader h. absurd (true≢false (sym h));
    steady_store = λ d j p q r x v here store load. refl;
    steady_lock = λ p q w lock. refl;
    steady_hand = λ t i q w free low other. refl;
    steady_guard_store = λ d j p q r x v here store load. refl;
    steady_guard_lock = λ p q w lock. refl;
    steady_guard_hand = λ t i q w free low other. refl;
    live = λ p t used links. absurd (true≢false (sym links.0));
    limbo = λ q y t i retired recent low links. absurd (true≢false (sym links.0));
    retire_live = λ d j t x here settled le h. absurd (no_retire x.thunk j t h);
    retire_unfixed = λ d j t x here settled le h. absurd (no_retire x.thunk j t h);
    retire_once = λ d e i j t x y here there settled settled' le le' h h'. absurd (no_retire x.thunk i t h);
    retire_unlinked = λ d t p x here h used links. no_retire x.thunk x.at t h;
    store_used = λ d i j p r x v here settled le store load.
        let at = loaded layout x.readings x.thunk (fit_of accounts layout.version_max x.readings x.thunk (sound.fits d x here)) j p r load in
        inl (subst (λ p. p < 2 * accounts) (sym at.2) (balance_there accounts at.0 at.1).0);
    one_key = λ map. absurd (true≢false (sym map));
  }
    where
      -- the lower balance is guarded by the outer lock, the upper one by the lock that is taken before it
      guards : (x : Section) → Fit accounts layout.version_max x.readings x.thunk → (j p r : ℕ) → j ≤ x.at → HasStep m x.thunk j (Load p r) → Holds m x (m.guard s.cells p)
      guards x fit j p r le h = ⊎_elim
          (λ first. inl (ap (m.guard s.cells) first.1 ∙ ((balance_there accounts (lower_in accounts x.thunk) (lower_low layout x.readings x.thunk fit)).2 ∙ sym fit.lock)))
          (λ second. inr (
            3,
            upper_word x.thunk,
            (let four = second.0 in omega (arith, four, le)),
            ap (λ l. Some (Take l (upper_word x.thunk))) (sym (ap (m.guard s.cells) second.1 ∙ (balance_there accounts (upper_in accounts x.thunk) fit.low).2)),
          ))
          (load_at (lower_in accounts x.thunk) (upper_in accounts x.thunk) x.thunk j p r h)

  first_money : (s : Scene) → opening < 2 ^ 32 → IsFirst m s → money accounts s.cells ≡ accounts * opening
  first_money s small first = total_same accounts (λ account. opening) (λ account. value_of (s.cells (balance_of account))) at_first ∙ total_constant accounts opening
    where
      value_first : (fixed balance : Bool) → fixed ≡ true → balance ≡ true → value_of (2 ^ 32 * 1 + cond fixed (cond balance opening 0) 0) ≡ opening
      value_first fixed balance e e' =
          ap (λ b. value_of (2 ^ 32 * 1 + cond b (cond balance opening 0) 0)) e
          ∙ (ap (λ b. value_of (2 ^ 32 * 1 + cond b opening 0)) e' ∙ omega (arith, small))

      at_first : (account : ℕ) → account < accounts → value_of (s.cells (balance_of account)) ≡ opening
      at_first account low = ap value_of (first.cells (balance_of account))
          ∙ value_first _ _ (lt_true (balance_of account) (2 * accounts + 5 * 0) (omega (arith, low))) (eq_true (balance_of account % 2) 1 (omega arith))

  pub account_laws : 2 * accounts ≤ 12288 → opening < 2 ^ 32 → Laws m
  account_laws few small = record {
    first = record {
      few_cells = few;
      few_slots = omega arith;
      small = λ p h. small_first (p % 2 == 1);
      locks_free = λ p h lock. free_first p lock;
      links = λ p t h link some. absurd (true≢false (sym link));
    };
    unlinked_lock = λ cells p lock. refl;
    over = λ layout limits. record {
      begins = λ s first t live. free_live (sym (first.status t ∙ ap (λ b. cond b Live Free) (lt_false t 0 (omega arith))) ∙ live);
      empty = λ s first. first_money s small first;
      shape = λ s sound kept r readings op thunk reader allowed fits. transfer_shaped layout readings thunk (fit_of accounts layout.version_max readings thunk fits);
      fitting = record {
        fits_on = λ readings more op thunk fits. fits_on accounts layout.version_max readings more thunk fits;
        still = λ map. absurd (true≢false (sym map));
      };
      in_turn = accounts_in_turn accounts opening layout;
      keeps = accounts_keep layout;
      gives = accounts_give layout;
    };
  }
    where
      small_first : (b : Bool) → cond b opening 0 < 2 ^ 32
      small_first true = small
      small_first false = omega arith

      free_first : (p : ℕ) → (nat_lt p (2 * accounts) && (p % 2 == 0)) ≡ true → cond (p % 2 == 1) opening 0 ≡ 0
      free_first p lock = ap (λ b. cond b opening 0) (eq_false (p % 2) 1 (λ e.
          let even = equal_of (p % 2) 0 (both_true (nat_lt p (2 * accounts)) (p % 2 == 0) lock).1 in omega (arith, e, even)))
