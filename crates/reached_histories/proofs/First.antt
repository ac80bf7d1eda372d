-- What runners keep at first, and what it says that a request is known.
use Rattle.std.specs.Prelude.{◌==◌, ◌&&◌, ◌||◌, cond, not, Bool, true, false, slice_get}
use Rattle.std.proofs.Common.{◌≡◌, ◌≢◌, ℕ, suc, List, [], ◌∷◌, refl, sym, ap, ◌∙◌, subst, arith, Some}
use Rattle.std.proofs.lemmas.Bool.Decides.{nat_tests}
use Rattle.machine_states.specs.map_history.specs.declared.op.Request.{Request}
use Rattle.machine_states.specs.table_words.specs.declared.layout.Layout.{Layout}
use Rattle.machine_states.specs.structure_laws.specs.Meaning.{Meaning}
use Rattle.machine_states.specs.runner_parts.specs.declared.entries.Known.{Known}
use Rattle.machine_states.specs.runner_parts.specs.State.{PartState}
use Rattle.machine_states.specs.runner_parts.specs.Tests.{knows, is_answered}
use Rattle.machine_states.specs.runner_steps.specs.Outside.{entry_spot}
use Rattle.machine_states.specs.Sight.{Sight, sight}
use Rattle.machine_states.proofs.FirstSights.{first_parts}
use Rattle.machine_facts.specs.machine_agreement.specs.machine_epochs.proofs.FirstJoin.{each_part}
use Rattle.machine_facts.specs.Known.{KnownStand}
use Rattle.reached_histories.specs.Kept.{link_of}
use Rattle.reached_histories.specs.Supplies.{FirstIsKept}

pub first_kept : (m : Meaning) (l : Layout) (rs : List Request) → FirstIsKept m l rs
first_kept m l rs w first = record {
  known = λ r n. sym (ap (λ xs. is_answered xs n) (none_known r));
  published = λ r. sym (none_published r);
}
  where
    none_known : (r : ℕ) → ((sight m l rs w).part r).records.known ≡ []
    none_known r = subst (λ (p : PartState). p.records.known ≡ []) (sym (first_parts m l w.parts first.parts r))
        (each_part m l (λ p. p.records.known ≡ []) refl (λ n. refl) refl r)

    none_published : (r : ℕ) → link_of ((sight m l rs w).part r).published ≡ 0
    none_published r = subst (λ (p : PartState). link_of p.published ≡ 0) (sym (first_parts m l w.parts first.parts r))
        (each_part m l (λ p. link_of p.published ≡ 0) refl (λ n. refl) refl r)

-- a known word's entry
pub record HasEntry (known : List Known) (n : ℕ) (reply : Bool) : Type 0 where
  pub place : ℕ
  pub entry : Known
  pub at : slice_get known place ≡ Some entry
  pub request : entry.request ≡ n
  pub is : entry.reply ≡ reply

entry_test : (a n : ℕ) (b reply : Bool) → (a == n && cond reply b (not b)) ≡ true → (a ≡ n) × (b ≡ reply)
entry_test a n true true e = grind (arith, nat_tests)
entry_test a n true false e = grind (arith, nat_tests)
entry_test a n false true e = grind (arith, nat_tests)
entry_test a n false false e = grind (arith, nat_tests)

pub entry_of : (known : List Known) (n : ℕ) (reply : Bool) → knows known n reply ≡ true → HasEntry known n reply
entry_of [] n reply e = absurd (let x = e in cc)
entry_of (x ∷ xs) n reply e = by (x.request == n && cond reply x.reply (not x.reply)) refl (λ rest. entry_of xs n reply rest) e
  where
    by : (b : Bool) → (x.request == n && cond reply x.reply (not x.reply)) ≡ b → (knows xs n reply ≡ true → HasEntry xs n reply)
        → (b || knows xs n reply) ≡ true → HasEntry (x ∷ xs) n reply
    by true is rest e = let h = entry_test x.request n x.reply reply is in record { place = 0; entry = x; at = refl; request = h.0; is = h.1 }
    by false is rest e = let h = rest e in record { place = suc h.place; entry = h.entry; at = h.at; request = h.request; is = h.is }

-- a known word stands, and isn't 0
pub word_of_known : (s : Sight) → KnownStand s → (r n : ℕ) (reply : Bool) → knows (s.part r).records.known n reply ≡ true → s.word (entry_spot n reply) ≢ 0
word_of_known s stand r n reply e none =
    let h = entry_of (s.part r).records.known n reply e in
    stand.some r h.place h.entry h.at (sym (stand.stands r h.place h.entry h.at) ∙ (ap s.word (λ i. entry_spot (h.request i) (h.is i)) ∙ none))
