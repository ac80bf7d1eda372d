-- Inserting at a head, taking out behind a link, and two views of the chains of one memory.
use Rattle.std.proofs.Common.{◌≡◌, ◌≢◌, ℕ, zero, suc, ◌<◌, ◌≤◌, Bool, true, false, refl, sym, ap, ◌∙◌, subst, arith}
use Rattle.std.specs.Prelude.{Option, Some, None}
use mathlib.Core.Logic.{dite}
use native.Mathlib.Decide.{ℕ_discrete}
use Rattle.structure_laws.specs.body_terms.specs.Update.{upd}
use Rattle.bucket_laws.specs.Chain.{Nodes, with_head, with_next, with_value, IsBeside, Chains, Contents}

-- a slot in no chain links the first node of its bucket and becomes the head; its rank is above the bucket's
pub insert : (bucket : ℕ → ℕ) (n : Nodes) (on : ℕ → Bool) (rank : ℕ → ℕ) (chains : Chains bucket n on rank) (i t top : ℕ)
    → on t ≡ false → bucket (n.key t) ≡ i → n.next t ≡ n.head i → ((u : ℕ) → on u ≡ true → bucket (n.key u) ≡ i → rank u < top) → ((u : ℕ) → on u ≡ true → n.key u ≢ n.key t)
    → Chains bucket (with_head n i (suc t)) (upd on t true) (upd rank t top)
insert bucket n on rank chains i t top out beside first high new = record {
  head_on = grind arith;
  head_top = grind arith;
  head_none = grind arith;
  next_on = grind arith;
  next_top = grind arith;
  next_none = grind arith;
  rank_once = grind arith;
  key_once = grind arith;
}

-- a rank above all those of a bucket
pub top_of : (bucket : ℕ → ℕ) (n : Nodes) (on : ℕ → Bool) (rank : ℕ → ℕ) (chains : Chains bucket n on rank) (i : ℕ)
    → (top : ℕ) × ((u : ℕ) → on u ≡ true → bucket (n.key u) ≡ i → rank u < top)
top_of bucket n on rank chains i = by (n.head i) refl
  where
    by : (link : ℕ) → n.head i ≡ link → (top : ℕ) × ((u : ℕ) → on u ≡ true → bucket (n.key u) ≡ i → rank u < top)
    by zero e = (0, λ u there of. absurd (chains.head_none i u e there of))
    by (suc t) e = (suc (rank t), λ u there of. let lower = chains.head_top i t u e there of in omega arith)

-- the slot behind the head of its bucket leaves the chain
pub remove_first : (bucket : ℕ → ℕ) (n : Nodes) (on : ℕ → Bool) (rank : ℕ → ℕ) (chains : Chains bucket n on rank) (i t : ℕ)
    → n.head i ≡ suc t → Chains bucket (with_head n i (n.next t)) (upd on t false) rank
remove_first bucket n on rank chains i t link =
    let here = chains.head_on i t link in
    let top = chains.head_top i t in
    let next_on = chains.next_on t in
    let next_top = chains.next_top t in
    let next_none = chains.next_none t in
    let once = chains.rank_once t in
    record {
      head_on = λ j u h. grind arith;
      head_top = λ j u v h on_v of_v. let below = top v link in let after = next_top u v here.0 in let same = once v here.0 in grind arith;
      head_none = λ j u h on_u. let below = top u link in let last = next_none u here.0 in let same = once u here.0 in grind arith;
      next_on = grind arith;
      next_top = grind arith;
      next_none = grind arith;
      rank_once = grind arith;
      key_once = grind arith;
    }

-- the slot behind a node leaves the chain
pub remove_next : (bucket : ℕ → ℕ) (n : Nodes) (on : ℕ → Bool) (rank : ℕ → ℕ) (chains : Chains bucket n on rank) (p t : ℕ)
    → on p ≡ true → n.next p ≡ suc t → Chains bucket (with_next n p (n.next t)) (upd on t false) rank
remove_next bucket n on rank chains p t on_p link =
    let here = chains.next_on p t on_p link in
    let top = chains.next_top p t in
    let next_on = chains.next_on t in
    let next_top = chains.next_top t in
    let next_none = chains.next_none t in
    let once = chains.rank_once t in
    record {
      head_on = λ j u h. grind arith;
      head_top = grind arith;
      head_none = grind arith;
      next_on = λ s u on_s h. grind arith;
      next_top = λ s u v on_s h on_v beside lower. let below = top v on_p link in let after = next_top u v here.0 in let same = once v here.0 in grind arith;
      next_none = λ s u on_s h on_u beside. let below = top u on_p link in let last = next_none u here.0 in let same = once u here.0 in grind arith;
      rank_once = grind arith;
      key_once = grind arith;
    }

-- a slot in no chain takes the place of one behind a head, or behind a node
pub replace_first : (bucket : ℕ → ℕ) (n : Nodes) (on : ℕ → Bool) (rank : ℕ → ℕ) (chains : Chains bucket n on rank)
    (i gone t : ℕ) → n.head i ≡ suc gone → on gone ≡ true → on t ≡ false → bucket (n.key t) ≡ bucket (n.key gone)
    → n.next t ≡ n.next gone → ((u : ℕ) → on u ≡ true → n.key u ≢ n.key t)
    → Chains bucket (with_head n i (suc t)) (upd (upd on gone false) t true) (upd rank t (rank gone))
replace_first bucket n on rank chains i gone t leads there out beside link new =
    record {
      head_on = grind arith;
      head_top = grind arith;
      head_none = grind arith;
      next_on = grind arith;
      next_top = grind arith;
      next_none = grind arith;
      rank_once = grind arith;
      key_once = grind arith;
    }

pub replace_next : (bucket : ℕ → ℕ) (n : Nodes) (on : ℕ → Bool) (rank : ℕ → ℕ) (chains : Chains bucket n on rank)
    (p gone t : ℕ) → on p ≡ true → n.next p ≡ suc gone → on gone ≡ true → on t ≡ false
    → bucket (n.key t) ≡ bucket (n.key gone) → n.next t ≡ n.next gone → ((u : ℕ) → on u ≡ true → n.key u ≢ n.key t)
    → Chains bucket (with_next n p (suc t)) (upd (upd on gone false) t true) (upd rank t (rank gone))
replace_next bucket n on rank chains p gone t on_p leads there out beside link new =
    record {
      head_on = grind arith;
      head_top = grind arith;
      head_none = grind arith;
      next_on = grind arith;
      next_top = grind arith;
      next_none = grind arith;
      rank_once = grind arith;
      key_once = grind arith;
    }

-- the contents after an insert
pub insert_contents : (n : Nodes) (on : ℕ → Bool) (lookup : ℕ → Option ℕ) (contents : Contents n on lookup) (i t : ℕ) → on t ≡ false → lookup (n.key t) ≡ None
    → Contents (with_head n i (suc t)) (upd on t true) (upd lookup (n.key t) (Some (n.value t)))
insert_contents n on lookup contents i t out none = record {
  pair = λ u on_u. grind arith;
  slot = λ key value h. dite (ℕ_discrete key (n.key t)) (λ e. (t, grind arith, sym e))
      (λ ne. let there = contents.slot key value (sym (other lookup (n.key t) key (Some (n.value t)) ne) ∙ h) in (there.0, (let on_there = there.1 in grind arith), there.2));
}
  where
    other : (f : ℕ → Option ℕ) (k x : ℕ) (v : Option ℕ) → x ≢ k → upd f k v x ≡ f x
    other f k x v ne = grind arith

-- the contents after a slot has left its chain, whatever the links are then
pub remove_contents : (n n' : Nodes) (on : ℕ → Bool) (lookup : ℕ → Option ℕ) (contents : Contents n on lookup) (t : ℕ) → n'.key ≡ n.key → n'.value ≡ n.value → on t ≡ true
    → ((u : ℕ) → on u ≡ true → n.key u ≡ n.key t → u ≡ t) → Contents n' (upd on t false) (upd lookup (n.key t) None)
remove_contents n n' on lookup contents t keys values on_t once = record {
  pair = λ u h. let still = stays on t u h in let ne : n.key u ≢ n.key t = λ e. still.1 (once u still.0 e) in
      subst (λ f. upd lookup (n.key t) None (f u) ≡ Some (n'.value u)) (sym keys)
      (subst (λ g. upd lookup (n.key t) None (n.key u) ≡ Some (g u)) (sym values) (other lookup (n.key t) (n.key u) None ne ∙ contents.pair u still.0));
  slot = λ key value h. let left = found lookup (n.key t) key value h in let there = contents.slot key value left.1 in
      (there.0, keeps on t there.0 (λ e. left.0 (sym there.2 ∙ ap n.key e)) there.1, ap (λ f. f there.0) keys ∙ there.2);
}
  where
    other : (f : ℕ → Option ℕ) (k x : ℕ) (v : Option ℕ) → x ≢ k → upd f k v x ≡ f x
    other f k x v ne = grind arith

    stays : (on : ℕ → Bool) (t u : ℕ) → upd on t false u ≡ true → (on u ≡ true) × (u ≢ t)
    stays on t u h = (grind arith, λ e. grind arith)

    keeps : (on : ℕ → Bool) (t u : ℕ) → u ≢ t → on u ≡ true → upd on t false u ≡ true
    keeps on t u ne h = grind arith

    found : (lookup : ℕ → Option ℕ) (k x v : ℕ) → upd lookup k None x ≡ Some v → (x ≢ k) × (lookup x ≡ Some v)
    found lookup k x v h = dite (ℕ_discrete x k) (λ e. absurd (grind arith)) (λ ne. (ne, sym (other lookup k x None ne) ∙ h))

-- a slot at or below one that stands in both views stands in the second
below : (bucket : ℕ → ℕ) (n : Nodes) (on on' : ℕ → Bool) (rank rank' : ℕ → ℕ) (chains : Chains bucket n on rank) (chains' : Chains bucket n on' rank') (u : ℕ) → on u ≡ true
    → (bound t : ℕ) → rank t ≤ bound → on t ≡ true → on' t ≡ true → IsBeside bucket n t u → rank u ≤ rank t → on' u ≡ true
below bucket n on on' rank rank' chains chains' u on_u zero t le on_t on_t' beside lower = subst (λ z. on' z ≡ true) (chains.rank_once t u on_t on_u beside (omega arith)) on_t'
below bucket n on on' rank rank' chains chains' u on_u (suc bound) t le on_t on_t' beside lower =
    dite (ℕ_discrete (rank t) (rank u)) (λ e. subst (λ z. on' z ≡ true) (chains.rank_once t u on_t on_u beside e) on_t')
    (λ ne. link_cases (n.next t) (λ none. absurd (let last = chains.next_none t u on_t none on_u (sym beside) in omega arith))
    (λ c link. let there = chains.next_on t c on_t link in let there' = chains'.next_on t c on_t' link in let lower' = chains.next_top t c u on_t link on_u (sym beside) (omega arith) in
    below bucket n on on' rank rank' chains chains' u on_u bound c (let falls = there.2 in omega arith) there.0 there'.0 (there.1 ∙ beside) lower'))
  where
    link_cases : {A : Type 0} → (link : ℕ) → (link ≡ 0 → A) → ((c : ℕ) → link ≡ suc c → A) → A
    link_cases zero none some = none refl
    link_cases (suc c) none some = some c refl

-- two views of the chains of one memory agree on which slots stand in them
pub same_on : (bucket : ℕ → ℕ) (n : Nodes) (on on' : ℕ → Bool) (rank rank' : ℕ → ℕ) (chains : Chains bucket n on rank) (chains' : Chains bucket n on' rank') (u : ℕ) → on u ≡ true → on' u ≡ true
same_on bucket n on on' rank rank' chains chains' u on_u = split (n.head (bucket (n.key u))) refl
  where
    split : (link : ℕ) → n.head (bucket (n.key u)) ≡ link → on' u ≡ true
    split zero none = absurd (chains.head_none (bucket (n.key u)) u none on_u refl)
    split (suc t) link = let there = chains.head_on _ t link in let there' = chains'.head_on _ t link in
        below bucket n on on' rank rank' chains chains' u on_u (rank t) t (omega arith) there.0 there'.0 there.1 (chains.head_top _ t u link on_u refl)

-- chains are those of any memory that agrees on heads and on the slots in them
pub chains_agree : (bucket : ℕ → ℕ) (n n' : Nodes) (on : ℕ → Bool) (rank : ℕ → ℕ) (chains : Chains bucket n on rank) (heads : (i : ℕ) → n'.head i ≡ n.head i)
    (keys : (u : ℕ) → on u ≡ true → n'.key u ≡ n.key u) (links : (u : ℕ) → on u ≡ true → n'.next u ≡ n.next u) → Chains bucket n' on rank
chains_agree bucket n n' on rank chains heads keys links = record {
  head_on = λ i t h. let there = chains.head_on i t (sym (heads i) ∙ h) in (there.0, ap bucket (keys t there.0) ∙ there.1);
  head_top = λ i t u h on_u of. chains.head_top i t u (sym (heads i) ∙ h) on_u (ap bucket (sym (keys u on_u)) ∙ of);
  head_none = λ i u h on_u of. chains.head_none i u (sym (heads i) ∙ h) on_u (ap bucket (sym (keys u on_u)) ∙ of);
  next_on = λ s t on_s h. let there = chains.next_on s t on_s (sym (links s on_s) ∙ h) in (there.0, ap bucket (keys t there.0) ∙ there.1 ∙ ap bucket (sym (keys s on_s)), there.2);
  next_top = λ s t u on_s h on_u beside. chains.next_top s t u on_s (sym (links s on_s) ∙ h) on_u (ap bucket (sym (keys u on_u)) ∙ beside ∙ ap bucket (keys s on_s));
  next_none = λ s u on_s h on_u beside. chains.next_none s u on_s (sym (links s on_s) ∙ h) on_u (ap bucket (sym (keys u on_u)) ∙ beside ∙ ap bucket (keys s on_s));
  rank_once = λ s t on_s on_t beside. chains.rank_once s t on_s on_t (ap bucket (sym (keys s on_s)) ∙ beside ∙ ap bucket (keys t on_t));
  key_once = λ s t on_s on_t same. chains.key_once s t on_s on_t (sym (keys s on_s) ∙ same ∙ keys t on_t);
}

-- the contents after the value of a slot has changed
pub set_contents : (n : Nodes) (on : ℕ → Bool) (lookup : ℕ → Option ℕ) (contents : Contents n on lookup) (t v : ℕ) → on t ≡ true
    → ((u : ℕ) → on u ≡ true → n.key u ≡ n.key t → u ≡ t) → Contents (with_value n t v) on (upd lookup (n.key t) (Some v))
set_contents n on lookup contents t v on_t once = record {
  pair = λ u on_u. dite (ℕ_discrete u t)
      (λ e. same lookup (n.key t) (n.key u) (Some v) (ap n.key e) ∙ ap Some (sym (same_value n.value t u v e)))
      (λ ne. other lookup (n.key t) (n.key u) (Some v) (λ e. ne (once u on_u e)) ∙ (contents.pair u on_u ∙ ap Some (sym (other_value n.value t u v ne))));
  slot = λ key value h. dite (ℕ_discrete key (n.key t)) (λ e. (t, on_t, sym e))
      (λ ne. contents.slot key value (sym (other lookup (n.key t) key (Some v) ne) ∙ h));
}
  where
    same : (f : ℕ → Option ℕ) (k x : ℕ) (v : Option ℕ) → x ≡ k → upd f k v x ≡ v
    same f k x v e = grind arith

    other : (f : ℕ → Option ℕ) (k x : ℕ) (v : Option ℕ) → x ≢ k → upd f k v x ≡ f x
    other f k x v ne = grind arith

    same_value : (f : ℕ → ℕ) (k x v : ℕ) → x ≡ k → upd f k v x ≡ v
    same_value f k x v e = grind arith

    other_value : (f : ℕ → ℕ) (k x v : ℕ) → x ≢ k → upd f k v x ≡ f x
    other_value f k x v ne = grind arith

-- contents are those of any memory that agrees on the slots in the chains
pub contents_agree : (n n' : Nodes) (on : ℕ → Bool) (lookup : ℕ → Option ℕ) → Contents n on lookup
    → ((u : ℕ) → on u ≡ true → n'.key u ≡ n.key u) → ((u : ℕ) → on u ≡ true → n'.value u ≡ n.value u)
    → Contents n' on lookup
contents_agree n n' on lookup contents keys values = record {
  pair = λ t on_t. ap lookup (keys t on_t) ∙ contents.pair t on_t ∙ ap Some (sym (values t on_t));
  slot = λ key value h. let there = contents.slot key value h in (there.0, there.1, keys there.0 there.1 ∙ there.2);
}
