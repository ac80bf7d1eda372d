-- The line of the list over each change of it: a node comes between two others, a node goes, a node is marked.
use Rattle.std.specs.Prelude.{◌⊎◌, ◌==◌, ◌+◌, ◌*◌, cond, Bool, true, false}
use Rattle.std.proofs.Common.{◌≡◌, ◌≢◌, ℕ, zero, suc, ◌<◌, ◌≤◌, refl, sym, ap, ◌∙◌, subst, inl, inr, ⊎_elim, arith}
use Rattle.std.proofs.lemmas.Bool.{cases_eq, both_ways}
use Rattle.structure_laws.specs.table_words.specs.small_lemmas.proofs.Numbers.{suc_equal}
use Rattle.structure_laws.specs.body_terms.specs.Update.{upd}
use Rattle.structure_laws.proofs.Changes.{upd_same, upd_other}
use Rattle.list_laws.specs.Line.{Nodes, rank, Line, LeadsOn, Linked, Next, with_next, with_mark}
use Rattle.list_laws.specs.Line.{IsInsertion, IsRemoval, IsMarking}

-- orders of numbers
pub lt_lt : (a b c : ℕ) → a < b → b < c → a < c
lt_lt a b c h h' = omega (arith, h, h')

pub lt_le : (a b c : ℕ) → a < b → b ≤ c → a < c
lt_le a b c h h' = omega (arith, h, h')

pub le_lt : (a b c : ℕ) → a ≤ b → b < c → a < c
le_lt a b c h h' = omega (arith, h, h')

pub lt_is_le : (a b : ℕ) → a < b → a ≤ b
lt_is_le a b h = omega (arith, h)

pub le_self : (a : ℕ) → a ≤ a
le_self a = omega arith

pub never_less : (a : ℕ) → a < a → ⊥
never_less a h = omega (arith, h)

pub never_both : (a b : ℕ) → a < b → b ≤ a → ⊥
never_both a b h h' = omega (arith, h, h')

pub order_of : (a b : ℕ) → (a < b) ⊎ (a ≡ b) ⊎ (b < a)
order_of a b = search arith

pub le_or : (a b : ℕ) → a ≤ b → (a ≡ b) ⊎ (a < b)
le_or a b h = search arith

-- the rank of each node: the head's is 0, and another's is by its key and its mark
pub rank_marked : (n : Nodes) (s : ℕ) → s ≢ 0 → n.mark s ≢ 0 → rank n s ≡ suc (2 * n.key s)
rank_marked n s some marked = grind arith

pub rank_unmarked : (n : Nodes) (s : ℕ) → s ≢ 0 → n.mark s ≡ 0 → rank n s ≡ suc (suc (2 * n.key s))
rank_unmarked n s some unmarked = grind arith

pub rank_low : (n : Nodes) (s : ℕ) → s ≢ 0 → 2 * n.key s < rank n s
rank_low n s some = ⊎_elim
    (λ zero. let is = rank_unmarked n s some zero in omega (arith, is))
    (λ more. let is = rank_marked n s some more in omega (arith, is)) (cases_eq (n.mark s) 0)

pub rank_high : (n : Nodes) (s : ℕ) → s ≢ 0 → rank n s ≤ suc (suc (2 * n.key s))
rank_high n s some = ⊎_elim
    (λ zero. let is = rank_unmarked n s some zero in omega (arith, is))
    (λ more. let is = rank_marked n s some more in omega (arith, is)) (cases_eq (n.mark s) 0)

-- a node with a rank above another's isn't the head
pub above_head : (n : Nodes) (s t : ℕ) → rank n s < rank n t → t ≢ 0
above_head n s t less same = let none : rank n t ≡ 0 = ap (rank n) same in omega (arith, less, none)

-- and ranks that go by equal keys and marks are equal
pub same_rank : (n n' : Nodes) (t : ℕ) → n'.key t ≡ n.key t → n'.mark t ≡ n.mark t → rank n' t ≡ rank n t
same_rank n n' t key mark = ap (λ k. cond (t == 0) 0 (suc (2 * k + cond (n'.mark t == 0) 1 0))) key
    ∙ ap (λ k. cond (t == 0) 0 (suc (2 * n.key t + cond (k == 0) 1 0))) mark

-- what is linked, with one slot more or less
pub on_or : (linked : ℕ → Bool) (f s : ℕ) → upd linked f true s ≡ true → (s ≡ f) ⊎ (linked s ≡ true)
on_or linked f s h = ⊎_elim inl (λ ne. inr (sym (upd_other linked f s true ne) ∙ h)) (cases_eq s f)

pub on_still : (linked : ℕ → Bool) (f s : ℕ) → linked s ≡ true → upd linked f true s ≡ true
on_still linked f s on = ⊎_elim (λ e. upd_same linked f s true e) (λ ne. upd_other linked f s true ne ∙ on)
    (cases_eq s f)

pub off_was : (linked : ℕ → Bool) (a s : ℕ) → upd linked a false s ≡ true → (s ≢ a) × (linked s ≡ true)
off_was linked a s h = ⊎_elim
    (λ e. absurd (both_ways _ (upd_same linked a s false e) h))
    (λ ne. (ne, sym (upd_other linked a s false ne) ∙ h)) (cases_eq s a)

pub off_still : (linked : ℕ → Bool) (a s : ℕ) → s ≢ a → linked s ≡ true → upd linked a false s ≡ true
off_still linked a s ne on = upd_other linked a s false ne ∙ on

-- the link of each slot, one of which has changed
pub link_or : (next : ℕ → ℕ) (p link s u : ℕ) → upd next p link s ≡ suc u → ((s ≡ p) × (link ≡ suc u)) ⊎ ((s ≢ p) × (next s ≡ suc u))
link_or next p link s u h = ⊎_elim
    (λ e. inl (e, sym (upd_same next p s link e) ∙ h))
    (λ ne. inr (ne, sym (upd_other next p s link ne) ∙ h)) (cases_eq s p)

pub link_some : (next : ℕ → ℕ) (p link s : ℕ) → 0 < link → 0 < next s → 0 < upd next p link s
link_some next p link s some was = ⊎_elim
    (λ e. subst (λ k. 0 < k) (sym (upd_same next p s link e)) some)
    (λ ne. subst (λ k. 0 < k) (sym (upd_other next p s link ne)) was) (cases_eq s p)

module _ (n : Nodes) (linked : ℕ → Bool) (line : Line n linked) where
  abbrev r : ℕ → ℕ
  r = rank n

  -- no two nodes lead to one
  pub one_before : (p s t : ℕ) → linked p ≡ true → linked s ≡ true → p ≢ 1 → s ≢ 1 → n.next p ≡ suc t
      → n.next s ≡ suc t → s ≡ p
  one_before p s t on on' nt nt' leads leads' = ⊎_elim
      (λ less. absurd (never_both (r p) (r t) (line.next_on p t on nt leads).1
      (line.next_top s t p on' nt' leads' on less)))
      (⊎_elim (line.rank_once s p on' on)
      (λ less. absurd (never_both (r s) (r t) (line.next_on s t on' nt' leads').1
      (line.next_top p t s on nt leads on' less))))
      (order_of (r s) (r p))

  -- and none stands between two
  pub none_between : (p t v : ℕ) → linked p ≡ true → p ≢ 1 → n.next p ≡ suc t → linked v ≡ true → (r v ≤ r p)
      ⊎ (r t ≤ r v)
  none_between p t v on nt leads on' = ⊎_elim
      (λ less. inr (line.next_top p t v on nt leads on' less))
      (⊎_elim (λ same. inl (subst (λ k. k ≤ r p) same (le_self (r p)))) (λ less. inl (lt_is_le (r v) (r p) less)))
      (order_of (r p) (r v))

  module _ (p t f : ℕ) (is : IsInsertion n linked p t f) where
    abbrev then_on : ℕ → Bool
    then_on = upd linked f true

    p_not_f : p ≢ f
    p_not_f e = both_ways _ is.out (ap linked (sym e) ∙ is.before)

    t_on : linked t ≡ true
    t_on = (line.next_on p t is.before is.no_tail is.next).0

    -- no linked node has the new one's rank
    apart : (v : ℕ) → linked v ≡ true → r v ≢ r f
    apart v on same = let from = is.from in let to = is.to in ⊎_elim
        (λ low. never_both (r p) (r v) (subst (λ k. r p < k) (sym same) from) low)
        (λ high. never_both (r v) (r t) (subst (λ k. k < r t) (sym same) to) high)
        (none_between p t v is.before is.no_tail is.next on)

    -- the new node's link
    f_leads : (u : ℕ) → upd n.next p (suc f) f ≡ suc u → u ≡ t
    f_leads u h = suc_equal u t (sym h ∙ (upd_other n.next p f (suc f) (λ e. p_not_f (sym e)) ∙ is.links))

    link_is : (s u : ℕ) → then_on s ≡ true → upd n.next p (suc f) s ≡ suc u → ((s ≡ p) × (u ≡ f)) ⊎ ((s ≡ f) × (u ≡ t))
        ⊎ ((s ≢ p) × (linked s ≡ true) × (n.next s ≡ suc u))
    link_is s u on h = ⊎_elim
        (λ new. inr (inl (new, f_leads u (ap (upd n.next p (suc f)) (sym new) ∙ h))))
        (λ old. ⊎_elim (λ own. inl (own.0, sym (suc_equal f u own.1))) (λ other. inr (inr (other.0, old, other.1)))
        (link_or n.next p (suc f) s u h)) (on_or linked f s on)

    some : (s : ℕ) → then_on s ≡ true → s ≢ 1 → 0 < upd n.next p (suc f) s
    some s on nt = ⊎_elim
        (λ new. subst (λ k. 0 < k) (sym (upd_other n.next p s (suc f) (λ e. p_not_f (sym e ∙ new)) ∙ (ap n.next new ∙ is.links))) (more t))
        (λ old. link_some n.next p (suc f) s (more f) (line.next_some s old nt)) (on_or linked f s on)
      where
        more : (k : ℕ) → 0 < suc k
        more k = omega arith

    next_on : (s u : ℕ) → then_on s ≡ true → s ≢ 1 → upd n.next p (suc f) s ≡ suc u → (then_on u ≡ true) × (r s < r u)
    next_on s u on nt h = ⊎_elim
        (λ own. (upd_same linked f u true own.1, subst (λ k. r k < r u) (sym own.0) (subst (λ k. r p < r k) (sym own.1) is.from)))
        (⊎_elim
        (λ new. (on_still linked f u (subst (λ k. linked k ≡ true) (sym new.1) t_on), subst (λ k. r k < r u) (sym new.0) (subst (λ k. r f < r k) (sym new.1) is.to)))
        (λ old. let was = line.next_on s u old.1 nt old.2 in (on_still linked f u was.0, was.1)))
        (link_is s u on h)

    next_top : (s u v : ℕ) → then_on s ≡ true → s ≢ 1 → upd n.next p (suc f) s ≡ suc u → then_on v ≡ true → r s < r v → r u ≤ r v
    next_top s u v on nt h on' less = ⊎_elim
        (λ own. subst (λ k. r k ≤ r v) (sym own.1) (behind_p (subst (λ k. r k < r v) own.0 less)))
        (⊎_elim
        (λ new. subst (λ k. r k ≤ r v) (sym new.1) (behind_f (subst (λ k. r k < r v) new.0 less)))
        (λ old. ⊎_elim (λ is_f. subst (λ k. r u ≤ r k) (sym is_f) (before_f old.1 old.0 old.2 (subst (λ k. r s < r k) is_f less)))
        (λ was. line.next_top s u v old.1 nt old.2 was less) (on_or linked f v on')))
        (link_is s u on h)
      where
        behind_p : r p < r v → r f ≤ r v
        behind_p less = ⊎_elim (λ e. subst (λ k. r f ≤ r k) (sym e) (le_self (r f)))
            (λ was. lt_is_le (r f) (r v) (lt_le (r f) (r t) (r v) is.to (line.next_top p t v is.before is.no_tail is.next was less)))
            (on_or linked f v on')

        behind_f : r f < r v → r t ≤ r v
        behind_f less = ⊎_elim (λ e. absurd (never_less (r f) (subst (λ k. r f < r k) e less)))
            (λ was. line.next_top p t v is.before is.no_tail is.next was (lt_lt (r p) (r f) (r v) is.from less))
            (on_or linked f v on')

        before_f : linked s ≡ true → s ≢ p → n.next s ≡ suc u → r s < r f → r u ≤ r f
        before_f was ne leads less = ⊎_elim
            (λ low. ⊎_elim (λ same. absurd (ne (line.rank_once s p was is.before same)))
            (λ lower. lt_is_le (r u) (r f) (le_lt (r u) (r p) (r f) (line.next_top s u p was nt leads is.before lower) is.from))
            (le_or (r s) (r p) low))
            (λ high. absurd (never_both (r s) (r t) (lt_lt (r s) (r f) (r t) less is.to) high))
            (none_between p t s is.before is.no_tail is.next was)

    rank_once : (s v : ℕ) → then_on s ≡ true → then_on v ≡ true → r s ≡ r v → s ≡ v
    rank_once s v on on' same = ⊎_elim
        (λ e. ⊎_elim (λ e'. e ∙ sym e') (λ was. absurd (apart v was (sym same ∙ ap r e))) (on_or linked f v on'))
        (λ was. ⊎_elim (λ e'. absurd (apart s was (same ∙ ap r e'))) (λ was'. line.rank_once s v was was' same) (on_or linked f v on'))
        (on_or linked f s on)

    pub insertion_keeps : Line (with_next n p (suc f)) then_on
    insertion_keeps = record {
      head = on_still linked f 0 line.head;
      tail = on_still linked f 1 line.tail;
      tail_key = line.tail_key;
      tail_end = upd_other n.next p 1 (suc f) (λ e. is.no_tail (sym e)) ∙ line.tail_end;
      next_some = some;
      next_on = next_on;
      next_top = next_top;
      rank_once = rank_once;
      last = λ s on. ⊎_elim
          (λ e. subst (λ k. r k ≤ r 1) (sym e) (lt_is_le (r f) (r 1) (lt_le (r f) (r t) (r 1) is.to (line.last t t_on))))
          (line.last s) (on_or linked f s on);
    }

  module _ (p a t : ℕ) (is : IsRemoval n linked p a t) where
    a_after : (linked a ≡ true) × (r p < r a)
    a_after = line.next_on p a is.before is.no_tail is.next

    t_after : (linked t ≡ true) × (r a < r t)
    t_after = line.next_on a t a_after.0 is.inner is.links

    t_not_a : t ≢ a
    t_not_a e = never_less (r a) (subst (λ k. r a < r k) e t_after.1)

    abbrev stays_on : ℕ → Bool
    stays_on = upd linked a false

    still_on : (s : ℕ) → s ≢ a → linked s ≡ true → stays_on s ≡ true
    still_on s = off_still linked a s

    below : r p < r t
    below = lt_lt (r p) (r a) (r t) a_after.1 t_after.1

    pub removal_keeps : Line (with_next n p (suc t)) stays_on
    removal_keeps = record {
      head = still_on 0 (λ e. above_head n p a a_after.1 (sym e)) line.head;
      tail = still_on 1 (λ e. is.inner (sym e)) line.tail;
      tail_key = line.tail_key;
      tail_end = upd_other n.next p 1 (suc t) (λ e. is.no_tail (sym e)) ∙ line.tail_end;
      next_some = λ s on nt. link_some n.next p (suc t) s (more t) (line.next_some s (off_was linked a s on).1 nt);
      next_on = λ s u on nt h. ⊎_elim
          (λ own. let same = suc_equal t u own.1 in
          (subst (λ k. stays_on k ≡ true) same (still_on t t_not_a t_after.0), subst (λ k. r s < r k) same (subst (λ k. r k < r t) (sym own.0) below)))
          (λ other. let was = off_was linked a s on in let next = line.next_on s u was.1 nt other.1 in
          (still_on u (λ e. other.0 (one_before p s a is.before was.1 is.no_tail nt is.next (other.1 ∙ ap suc e))) next.0, next.1))
          (link_or n.next p (suc t) s u h);
      next_top = λ s u v on nt h on' less. let was' = off_was linked a v on' in ⊎_elim
          (λ own. subst (λ k. r k ≤ r v) (suc_equal t u own.1) (behind v was'.0 was'.1 (subst (λ k. r k < r v) own.0 less)))
          (λ other. line.next_top s u v (off_was linked a s on).1 nt other.1 was'.1 less)
          (link_or n.next p (suc t) s u h);
      rank_once = λ s v on on'. line.rank_once s v (off_was linked a s on).1 (off_was linked a v on').1;
      last = λ s on. line.last s (off_was linked a s on).1;
    }
      where
        more : (k : ℕ) → 0 < suc k
        more k = omega arith

        behind : (v : ℕ) → v ≢ a → linked v ≡ true → r p < r v → r t ≤ r v
        behind v ne on less = ⊎_elim (λ same. absurd (ne (line.rank_once v a on a_after.0 (sym same))))
            (λ more. line.next_top a t v a_after.0 is.inner is.links on more)
            (le_or (r a) (r v) (line.next_top p a v is.before is.no_tail is.next on less))

  module _ (p a : ℕ) (is : IsMarking n linked p a) where
    abbrev r' : ℕ → ℕ
    r' = rank (with_mark n a 1)

    a_here : (linked a ≡ true) × (r p < r a)
    a_here = line.next_on p a is.before is.no_tail is.next

    a_some : a ≢ 0
    a_some = above_head n p a a_here.1

    -- the rank of the marked node falls by one, and the others' stay
    falls : r a ≡ suc (r' a)
    falls = rank_unmarked n a a_some is.unmarked ∙ ap suc (sym (rank_marked (with_mark n a 1) a a_some
        (λ e. one_some (sym (upd_same n.mark a a 1 refl) ∙ e))))
      where
        one_some : suc 0 ≡ 0 → ⊥
        one_some e = omega (arith, e)

    stays : (s : ℕ) → s ≢ a → r' s ≡ r s
    stays s ne = same_rank n (with_mark n a 1) s refl (upd_other n.mark a s 1 ne)

    p_below : r p < r' a
    p_below = ⊎_elim
        (λ e. let none : r p ≡ 0 = ap r e in let low = rank_low (with_mark n a 1) a a_some in omega (arith, none, low))
        (λ ne. let key = is.key ne in let high = rank_high n p ne in let low = rank_low (with_mark n a 1) a a_some in
        omega (arith, key, high, low)) (cases_eq p 0)

    none_there : (v : ℕ) → linked v ≡ true → r v ≢ r' a
    none_there v on same = let top = line.next_top p a v is.before is.no_tail is.next on (subst (λ k. r p < k) (sym same) p_below) in
        let f = falls in omega (arith, same, top, f)

    -- the order stays
    onward : (u v : ℕ) → linked u ≡ true → linked v ≡ true → r u < r v → r' u < r' v
    onward u v on on' less = ⊎_elim
        (λ e. ⊎_elim (λ e'. absurd (never_less (r a) (subst (λ k. r a < r k) e' (subst (λ k. r k < r v) e less))))
        (λ ne'. let f = falls in let same = stays v ne' in let is = subst (λ k. r k < r v) e less in
        subst (λ k. r' k < r' v) (sym e) (omega (arith, f, same, is))) (cases_eq v a))
        (λ ne. ⊎_elim
        (λ e'. let f = falls in let same = stays u ne in let is = subst (λ k. r u < r k) e' less in
        let apart = none_there u on in subst (λ k. r' u < r' k) (sym e') (strict (r' u) (r' a) (r u) (r a) same f is apart))
        (λ ne'. let same = stays u ne in let same' = stays v ne' in omega (arith, same, same', less)) (cases_eq v a))
        (cases_eq u a)
      where
        strict : (x y b c : ℕ) → x ≡ b → c ≡ suc y → b < c → b ≢ y → x < y
        strict x y b c e e' h ne = grind arith

    back : (u v : ℕ) → linked u ≡ true → linked v ≡ true → r' u < r' v → r u < r v
    back u v on on' less = ⊎_elim (λ h. h)
        (⊎_elim (λ same. absurd (never_less (r' v) (subst (λ k. r' k < r' v) (line.rank_once u v on on' same) less)))
        (λ h. absurd (never_both (r' u) (r' v) less (lt_is_le (r' v) (r' u) (onward v u on' on h)))))
        (order_of (r u) (r v))

    onward_le : (u v : ℕ) → linked u ≡ true → linked v ≡ true → r u ≤ r v → r' u ≤ r' v
    onward_le u v on on' le = ⊎_elim
        (λ same. subst (λ k. r' u ≤ r' k) (line.rank_once u v on on' same) (le_self (r' u)))
        (λ less. lt_is_le (r' u) (r' v) (onward u v on on' less)) (le_or (r u) (r v) le)

    pub marking_keeps : Line (with_mark n a 1) linked
    marking_keeps = record {
      head = line.head;
      tail = line.tail;
      tail_key = line.tail_key;
      tail_end = line.tail_end;
      next_some = line.next_some;
      next_on = λ s t on nt h. let was = line.next_on s t on nt h in (was.0, onward s t on was.0 was.1);
      next_top = λ s t u on nt h on' less. onward_le t u (line.next_on s t on nt h).0 on'
          (line.next_top s t u on nt h on' (back s u on on' less));
      rank_once = λ s t on on' same. ⊎_elim
          (λ less. absurd (apart_less s t on on' less same))
          (⊎_elim (line.rank_once s t on on') (λ less. absurd (apart_less t s on' on less (sym same))))
          (order_of (r s) (r t));
      last = λ s on. onward_le s 1 on line.tail (line.last s on);
    }
      where
        apart_less : (u v : ℕ) → linked u ≡ true → linked v ≡ true → r u < r v → r' u ≡ r' v → ⊥
        apart_less u v on on' less same = never_less (r' v) (subst (λ k. k < r' v) same (onward u v on on' less))

  -- what another view has linked, from the head on
  module _ (other : ℕ → Bool) (line' : Line n other) (s : ℕ) (on : linked s ≡ true) where
    from_here : (fuel t : ℕ) → linked t ≡ true → other t ≡ true → r t ≤ r s → r s ≤ r t + fuel → other s ≡ true
    from_here zero t was is low high = subst (λ k. other k ≡ true) (line.rank_once t s was on (let a = low in let b = high in
        same (r t) (r s) a b)) is
      where
        same : (a b : ℕ) → a ≤ b → b ≤ a + 0 → a ≡ b
        same a b h h' = omega (arith, h, h')
    from_here (suc fuel) t was is low high = ⊎_elim
        (λ same. subst (λ k. other k ≡ true) (line.rank_once t s was on same) is)
        (λ less. let nt = inner less in
        let some = line.next_some t was nt in
        let leads = before (n.next t) some in
        let next = line.next_on t (before_of (n.next t)) was nt leads in
        from_here fuel (before_of (n.next t)) next.0
        (line'.next_on t (before_of (n.next t)) is nt leads).0
        (line.next_top t (before_of (n.next t)) s was nt leads on less)
        (shorter (r s) (r t) (r (before_of (n.next t))) fuel high next.1))
        (le_or (r t) (r s) low)
      where
        before_of : ℕ → ℕ
        before_of zero = 0
        before_of (suc k) = k

        before : (k : ℕ) → 0 < k → k ≡ suc (before_of k)
        before zero h = absurd (never_less 0 h)
        before (suc k) h = refl

        inner : r t < r s → t ≢ 1
        inner less e = never_both (r 1) (r s) (subst (λ k. r k < r s) e less) (line.last s on)

        shorter : (a b c f : ℕ) → a ≤ b + suc f → b < c → a ≤ c + f
        shorter a b c f h h' = omega (arith, h, h')

    pub seen_too : other s ≡ true
    seen_too = from_here (r s) 0 line.head line'.head (zero_le (r s)) (plus_le (r s))
      where
        zero_le : (k : ℕ) → 0 ≤ k
        zero_le k = omega arith

        plus_le : (k : ℕ) → k ≤ 0 + k
        plus_le k = omega arith

-- a node from which links lead on doesn't link itself
pub no_ring : (n : Nodes) (linked once : ℕ → Bool) → Line n linked → (s : ℕ) → LeadsOn n linked once s → s ≢ 1
    → n.next s ≡ suc s → ⊥
no_ring n linked once line s (Linked _ on) inner leads = never_less (rank n s) (line.next_on s s on inner leads).1
no_ring n linked once line s (Next _ t was link rest) inner leads =
    let same = suc_equal t s (sym link ∙ leads) in
    no_ring n linked once line t rest (λ e. inner (sym same ∙ e)) (ap n.next same ∙ (leads ∙ ap suc (sym same)))

pub views_agree : (n : Nodes) (linked linked' : ℕ → Bool) → Line n linked → Line n linked' → (s : ℕ) → linked s ≡ linked' s
views_agree n linked linked' line line' s = by (linked s) (linked' s) (λ on. seen_too n linked line linked' line' s on)
    (λ on. seen_too n linked' line' linked line s on)
  where
    by : (a b : Bool) → (a ≡ true → b ≡ true) → (b ≡ true → a ≡ true) → a ≡ b
    by true b h h' = sym (h refl)
    by false true h h' = h' refl
    by false false h h' = refl
