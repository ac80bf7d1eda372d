-- What a table in buckets holds in its cells, and what each change that a body makes does to that.
use Rattle.std.proofs.Common.{◌≡◌, ◌≢◌, ℕ, suc, ◌+◌, ◌*◌, ◌<◌, Bool, true, false, List, Option, Some, None, refl, sym, ap, ◌∙◌, subst, inl, inr, ⊎_elim, arith}
use Rattle.std.specs.Prelude.{[], ◌∷◌, ◌^◌}
use Rattle.std.specs.FinMap.{get}
use Rattle.std.proofs.lemmas.Option.{none-some}
use Rattle.std.proofs.lemmas.Bool.{both_ways}
use mathlib.Core.Logic.{dite}
use native.Mathlib.Decide.{ℕ_discrete}
use Rattle.structure_laws.specs.table_words.specs.small_lemmas.proofs.Lists.{none_if_never as none_is}
use Rattle.structure_laws.specs.map_history.specs.declared.op.Op.{Op}
use Rattle.structure_laws.specs.map_history.specs.Keys.{key_of}
use Rattle.structure_laws.specs.map_history.specs.Replay.{Pairs}
use Rattle.structure_laws.specs.body_terms.specs.Update.{upd}
use Rattle.structure_laws.specs.body_terms.specs.Word.{value_of, next_word}
use Rattle.structure_laws.specs.Scene.{Cells}
use Rattle.structure_laws.proofs.Changes.{upd_same, upd_other, value-next_word, value_small}
use Rattle.tree_laws.specs.section_body.specs.Bucket.{bucket_edition, bucket_head}
use Rattle.tree_laws.specs.bucket_laws.specs.Chain.{Nodes, with_head, with_next, with_value, Chains, Contents}
use Rattle.tree_laws.specs.bucket_laws.specs.Walk.{Walk, cell_at}
use Rattle.tree_laws.specs.bucket_laws.specs.Buckets.{nodes, IsNode, IsLinkOf, IsFound, IsMissing, BucketsStand}
use Rattle.tree_laws.specs.bucket_laws.proofs.Chain.{insert, top_of, remove_first, remove_next, replace_first}
use Rattle.tree_laws.specs.bucket_laws.proofs.Chain.{replace_next, chains_agree, contents_agree, insert_contents}
use Rattle.tree_laws.specs.bucket_laws.proofs.Chain.{remove_contents, set_contents}
use Rattle.tree_laws.specs.bucket_laws.proofs.NodeChanges.{clip_same, clip_in, head_changed, next_changed}
use Rattle.tree_laws.specs.bucket_laws.proofs.NodeChanges.{value_changed, none_changed}
use Rattle.tree_laws.specs.bucket_laws.proofs.Places.{one_slot}
use Rattle.tree_laws.specs.bucket_laws.proofs.TableTurn.{upd_within, upd_on}
use Rattle.tree_laws.specs.bucket_laws.proofs.Walks.{reached_on}
use Rattle.plain_laws.proofs.Filled.{one_other, one_low, value_words, valued_slot, slot_value}

-- contents go by what is looked up
contents_same : (n : Nodes) (on : ℕ → Bool) (lookup lookup' : ℕ → Option ℕ) → Contents n on lookup → ((key : ℕ) → lookup key ≡ lookup' key) → Contents n on lookup'
contents_same n on lookup lookup' contents same = record { pair = λ t on_t. sym (same (n.key t)) ∙ contents.pair t on_t; slot = λ key value h. contents.slot key value (same key ∙ h) }

-- what isn't looked up isn't without one more key either
pub none_still : (lookup : ℕ → Option ℕ) (k q : ℕ) → lookup q ≡ None → upd lookup k None q ≡ None
none_still lookup k q none = dite (ℕ_discrete q k) (λ e. upd_same lookup k q None e) (λ ne. upd_other lookup k q None ne ∙ none)

-- the value of a link to a node, as a Store of a Make's word writes it
pub link_to : (word t : ℕ) → suc t < 2 ^ 32 → value_of (next_word word (value_of (t + 1))) ≡ suc t
link_to word t low = value-next_word word (value_of (t + 1)) (value_small (t + 1)) ∙ small_value (t + 1) (suc t) (omega arith) low
  where
    small_value : (n m : ℕ) → n ≡ m → m < 2 ^ 32 → value_of n ≡ m
    small_value n m e low = omega arith

-- the cells in which a new node with this key, value and next link is made
abbrev pub made_cells : Cells → ℕ → ℕ → ℕ → ℕ → ℕ → ℕ → ℕ
made_cells cells fixed t key value next = valued_slot cells fixed t (0 ∷ key ∷ value ∷ next ∷ 0 ∷ [])

module _ (buckets : ℕ) (bucket : ℕ → ℕ) (small : (key : ℕ) → bucket key < buckets) (slots : ℕ) where
  abbrev pub key_at : Cells → ℕ → ℕ
  key_at cells t = value_of (cells (cell_at buckets bucket t 1))

  abbrev pub value_at : Cells → ℕ → ℕ
  value_at cells t = value_of (cells (cell_at buckets bucket t 2))

  abbrev pub next_at : Cells → ℕ → ℕ
  next_at cells t = value_of (cells (cell_at buckets bucket t 3))

  -- the chains stand in these cells, these slots stand in them, and the pairs are those that this looks up
  pub record Holds (cells : Cells) (lookup : ℕ → Option ℕ) (on : ℕ → Bool) (rank : ℕ → ℕ) : Type 0 where
    pub within : (t : ℕ) → on t ≡ true → t < slots
    pub chains : Chains bucket (nodes buckets bucket cells) on rank
    pub contents : Contents (nodes buckets bucket cells) on lookup

  pub holds_of : (cells : Cells) (pairs : Pairs) (stands : BucketsStand buckets bucket slots cells pairs)
      → Holds cells (get pairs) stands.on stands.rank
  holds_of cells pairs stands = record { within = stands.within; chains = stands.chains; contents = stands.contents }

  pub stands_by : (cells : Cells) (lookup : ℕ → Option ℕ) (on : ℕ → Bool) (rank : ℕ → ℕ) (pairs : Pairs)
      → Holds cells lookup on rank → ((q : ℕ) → lookup q ≡ get pairs q) → BucketsStand buckets bucket slots cells pairs
  stands_by cells lookup on rank pairs holds same = record {
    on = on;
    rank = rank;
    within = holds.within;
    chains = holds.chains;
    contents = contents_same (nodes buckets bucket cells) on lookup (get pairs) holds.contents same;
  }

  module _ (cells : Cells) (lookup : ℕ → Option ℕ) (on : ℕ → Bool) (rank : ℕ → ℕ) (holds : Holds cells lookup on rank)
    where
      abbrev n : Nodes
      n = nodes buckets bucket cells

      -- an edition has changed
      pub edition_holds : (i word : ℕ) → i < buckets → Holds (upd cells (bucket_edition i) word) lookup on rank
      edition_holds i word low =
          let same = none_changed buckets bucket cells (bucket_edition i) word (λ j lower e. omega (arith, e))
          (λ u k first last e. omega (arith, low, e)) in
          record {
            within = holds.within;
            chains = subst (λ n. Chains bucket n on rank) same holds.chains;
            contents = subst (λ n. Contents n on lookup) same holds.contents;
          }

      -- a head of a bucket
      head_at : (i : ℕ) → i < buckets → n.head i ≡ value_of (cells (bucket_head i))
      head_at i low = clip_in i buckets (value_of (cells (bucket_head i))) low

      -- the slot to which a link of a bucket leads
      pub led_on : (i p t : ℕ) → i < buckets → IsLinkOf buckets bucket cells on i p → value_of (cells p) ≡ suc t
          → IsNode buckets bucket cells on i t
      led_on i p t low link leads = ⊎_elim
          (λ head. holds.chains.head_on i t (head_at i low ∙ ap (λ p. value_of (cells p)) (sym head) ∙ leads))
          (λ node. let there = holds.chains.next_on node.0 t node.1.0 (ap (λ p. value_of (cells p)) (sym node.2) ∙ leads) in (there.0, there.1 ∙ node.1.1))
          link

      -- a link of a chain isn't an edition, nor the head of another bucket, nor a cell of a slot that stands in no chain
      pub no_edition : (i j p : ℕ) → j < buckets → IsLinkOf buckets bucket cells on i p → bucket_edition j ≢ p
      no_edition i j p low link same = ⊎_elim
          (λ head. omega (arith, same, head))
          (λ node. let at = node.2 in omega (arith, same, low, at))
          link

      pub no_head : (i j p : ℕ) → j < buckets → i ≢ j → IsLinkOf buckets bucket cells on i p → bucket_head j ≢ p
      no_head i j p low apart link same = ⊎_elim
          (λ head. apart (omega (arith, same, head)))
          (λ node. let at = node.2 in omega (arith, same, low, at))
          link

      pub no_cell : (i p t cell : ℕ) → i < buckets → on t ≡ false → cell < 5 → IsLinkOf buckets bucket cells on i p
          → cell_at buckets bucket t cell ≢ p
      no_cell i p t cell low out small link same = ⊎_elim
          (λ head. omega (arith, low, same, head))
          (λ node. both_ways (on node.0) (ap on (one_slot (3 * buckets) node.0 t 3 cell (omega arith) small (sym node.2 ∙ sym same)) ∙ out) node.1.0)
          link

      -- a node leaves its chain
      module _ (i p gone word : ℕ) (low : i < buckets) (link : IsLinkOf buckets bucket cells on i p)
          (leads : value_of (cells p) ≡ suc gone) (behind : value_of word ≡ next_at cells gone) where
        gone_on : on gone ≡ true
        gone_on = (led_on i p gone low link leads).0

        left : (m : Nodes) → m ≡ nodes buckets bucket (upd cells p word) → m.key ≡ n.key → m.value ≡ n.value
            → Chains bucket m (upd on gone false) rank
            → Holds (upd cells p word) (upd lookup (key_at cells gone) None) (upd on gone false) rank
        left m same keys values chains = record {
          within = λ u there. holds.within u (upd_on on gone u there);
          chains = subst (λ m. Chains bucket m (upd on gone false) rank) same chains;
          contents = subst (λ m. Contents m (upd on gone false) (upd lookup (key_at cells gone) None)) same
              (remove_contents n m on lookup holds.contents gone keys values gone_on
              (λ u on_u e. holds.chains.key_once u gone on_u gone_on e));
        }

        pub removed_holds : Holds (upd cells p word) (upd lookup (key_at cells gone) None) (upd on gone false) rank
        removed_holds = ⊎_elim
            (λ head. left (with_head n i (n.next gone))
            (ap (with_head n i) (sym behind) ∙ head_changed buckets bucket cells i word low
            ∙ ap (λ p. nodes buckets bucket (upd cells p word)) (sym head)) refl refl
            (remove_first bucket n on rank holds.chains i gone
            (head_at i low ∙ ap (λ p. value_of (cells p)) (sym head) ∙ leads)))
            (λ node. left (with_next n node.0 (n.next gone))
            (ap (with_next n node.0) (sym behind) ∙ next_changed buckets bucket cells node.0 word
            ∙ ap (λ p. nodes buckets bucket (upd cells p word)) (sym node.2)) refl refl
            (remove_next bucket n on rank holds.chains node.0 gone node.1.0
            (ap (λ p. value_of (cells p)) (sym node.2) ∙ leads)))
            link

      -- a node that was made with a key that isn't looked up
      module _ (t word : ℕ) (within : t < slots) (out : on t ≡ false) (to_it : value_of word ≡ suc t)
          (none : lookup (key_at cells t) ≡ None) where
        fresh : (u : ℕ) → on u ≡ true → n.key u ≢ n.key t
        fresh u on_u same = none-some _ (sym (ap lookup same ∙ none) ∙ holds.contents.pair u on_u)

        -- comes to the head of its bucket
        pub put_holds : (i : ℕ) → i < buckets → bucket (key_at cells t) ≡ i
            → next_at cells t ≡ value_of (cells (bucket_head i)) → (top : ℕ) × Holds (upd cells (bucket_head i) word)
            (upd lookup (key_at cells t) (Some (value_at cells t))) (upd on t true) (upd rank t top)
        put_holds i low beside first =
            let top = top_of bucket n on rank holds.chains i in
            let same : with_head n i (suc t) ≡ nodes buckets bucket (upd cells (bucket_head i) word) =
            ap (with_head n i) (sym to_it) ∙ head_changed buckets bucket cells i word low in (
              top.0,
              record {
                within = λ u there. upd_within slots on t u within holds.within there;
                chains = subst (λ m. Chains bucket m (upd on t true) (upd rank t top.0)) same
                    (insert bucket n on rank holds.chains i t top.0 out beside (first ∙ sym (head_at i low)) top.1 fresh);
                contents = subst (λ m. Contents m (upd on t true)
                    (upd lookup (key_at cells t) (Some (value_at cells t)))) same
                    (insert_contents n on lookup holds.contents i t out none);
              },
            )

        -- takes the place of another one in its chain
        module _ (i p gone : ℕ) (low : i < buckets) (link : IsLinkOf buckets bucket cells on i p)
            (leads : value_of (cells p) ≡ suc gone) (beside : bucket (key_at cells t) ≡ i)
            (behind : next_at cells t ≡ next_at cells gone) where
          old : IsNode buckets bucket cells on i gone
          old = led_on i p gone low link leads

          abbrev on_after : ℕ → Bool
          on_after = upd (upd on gone false) t true

          abbrev rank_after : ℕ → ℕ
          rank_after = upd rank t (rank gone)

          abbrev lookup_after : ℕ → Option ℕ
          lookup_after = upd (upd lookup (key_at cells gone) None) (key_at cells t) (Some (value_at cells t))

          still_out : upd on gone false t ≡ false
          still_out = dite (ℕ_discrete t gone) (λ e. upd_same on gone t false e) (λ ne. upd_other on gone t false ne ∙ out)

          replaced : (m : Nodes) → m ≡ nodes buckets bucket (upd cells p word) → m.key ≡ n.key → m.value ≡ n.value
              → Chains bucket m on_after rank_after → Holds (upd cells p word) lookup_after on_after rank_after
          replaced m same keys values chains = record {
            within = λ u there. upd_within slots (upd on gone false) t u within
                (λ u there. holds.within u (upd_on on gone u there)) there;
            chains = subst (λ m. Chains bucket m on_after rank_after) same chains;
            contents = subst (λ m. Contents m on_after lookup_after) same
                (contents_agree (with_head n 0 (suc t)) m on_after lookup_after
                (insert_contents n (upd on gone false) (upd lookup (key_at cells gone) None)
                (remove_contents n n on lookup holds.contents gone refl refl old.0
                (λ u on_u e. holds.chains.key_once u gone on_u old.0 e)) 0 t still_out
                (none_still lookup (key_at cells gone) (key_at cells t) none))
                (λ u there. ap (λ f. f u) keys) (λ u there. ap (λ f. f u) values));
          }

          pub renamed_holds : Holds (upd cells p word) lookup_after on_after rank_after
          renamed_holds = ⊎_elim
              (λ head. replaced (with_head n i (suc t)) (ap (with_head n i) (sym to_it)
              ∙ head_changed buckets bucket cells i word low
              ∙ ap (λ p. nodes buckets bucket (upd cells p word)) (sym head)) refl refl
              (replace_first bucket n on rank holds.chains i gone t
              (head_at i low ∙ ap (λ p. value_of (cells p)) (sym head) ∙ leads)
              old.0 out (beside ∙ sym old.1) behind fresh))
              (λ node. replaced (with_next n node.0 (suc t)) (ap (with_next n node.0) (sym to_it)
              ∙ next_changed buckets bucket cells node.0 word
              ∙ ap (λ p. nodes buckets bucket (upd cells p word)) (sym node.2)) refl refl
              (replace_next bucket n on rank holds.chains node.0 gone t node.1.0
              (ap (λ p. value_of (cells p)) (sym node.2) ∙ leads)
              old.0 out (beside ∙ sym old.1) behind fresh))
              link

      -- a node in a chain gets a new value
      pub set_holds : (u word v : ℕ) → on u ≡ true → value_of word ≡ v
          → Holds (upd cells (cell_at buckets bucket u 2) word) (upd lookup (key_at cells u) (Some v)) on rank
      set_holds u word v there is =
          let same : with_value n u v ≡ nodes buckets bucket (upd cells (cell_at buckets bucket u 2) word) =
          ap (with_value n u) (sym is) ∙ value_changed buckets bucket cells u word in
          record {
            within = holds.within;
            chains = subst (λ m. Chains bucket m on rank) same (chains_agree bucket n (with_value n u v) on rank
                holds.chains (λ i. refl) (λ t on_t. refl) (λ t on_t. refl));
            contents = subst (λ m. Contents m on (upd lookup (key_at cells u) (Some v))) same
                (set_contents n on lookup holds.contents u v there (λ t on_t e. holds.chains.key_once t u on_t there e));
          }

      -- what a walk found or missed is looked up, or isn't
      pub found_on : (op : Op) (w : Walk) → IsFound buckets bucket cells on op w → on w.slot ≡ true
      found_on op w found = (reached_on buckets bucket small cells on rank holds.chains (key_of op) w found.0).0

      pub found_is : (op : Op) (w : Walk) → IsFound buckets bucket cells on op w → lookup (key_of op) ≡ Some w.value
      found_is op w found = ap lookup (sym found.1)
          ∙ (holds.contents.pair w.slot (found_on op w found) ∙ ap Some found.2)

      pub missing_is : (key : ℕ) → IsMissing buckets bucket cells on key → lookup key ≡ None
      missing_is key missing = none_is (lookup key) (λ v h. let there = holds.contents.slot key v h in missing there.0 there.1 there.2)

      -- a node is made in a slot that stands in no chain
      module _ (t key value next : ℕ) (out : on t ≡ false) where
        abbrev filled : Cells
        filled = made_cells cells (3 * buckets) t key value next

        abbrev values : List ℕ
        values = 0 ∷ key ∷ value ∷ next ∷ 0 ∷ []

        abbrev words : ℕ → ℕ
        words = value_words cells (3 * buckets) t values

        -- cells that aren't the new node's stay
        pub fixed_stays : (p : ℕ) → p < 3 * buckets → filled p ≡ cells p
        fixed_stays p low = one_low cells (3 * buckets) t words p low

        other_slot : (u : ℕ) → on u ≡ true → u ≢ t
        other_slot u on_u same = both_ways (on t) out (sym (ap on same) ∙ on_u)

        pub node_stays : (u cell : ℕ) → cell < 5 → on u ≡ true
            → filled (cell_at buckets bucket u cell) ≡ cells (cell_at buckets bucket u cell)
        node_stays u cell low on_u = one_other cells (3 * buckets) t words u cell low (other_slot u on_u)

        pub link_stays : (i p : ℕ) → i < buckets → IsLinkOf buckets bucket cells on i p
            → IsLinkOf buckets bucket filled on i p × (filled p ≡ cells p)
        link_stays i p low link = ⊎_elim
            (λ head. (inl head, ap filled head ∙ fixed_stays (bucket_head i) (omega (arith, low)) ∙ ap cells (sym head)))
            (λ node. (
              inr (node.0, (node.1.0, ap (λ w. bucket (value_of w)) (node_stays node.0 1 (omega arith) node.1.0) ∙ node.1.1), node.2),
              ap filled node.2 ∙ node_stays node.0 3 (omega arith) node.1.0 ∙ ap cells (sym node.2),
            ))
            link

        pub made_holds : Holds filled lookup on rank
        made_holds = record {
          within = holds.within;
          chains = chains_agree bucket n (nodes buckets bucket filled) on rank holds.chains
              (λ i. clip_same i buckets (value_of (filled (bucket_head i))) (value_of (cells (bucket_head i)))
              (λ low. ap value_of (fixed_stays (bucket_head i) (omega (arith, low)))))
              (λ u on_u. ap value_of (node_stays u 1 (omega arith) on_u))
              (λ u on_u. ap value_of (node_stays u 3 (omega arith) on_u));
          contents = contents_agree n (nodes buckets bucket filled) on lookup holds.contents
              (λ u on_u. ap value_of (node_stays u 1 (omega arith) on_u))
              (λ u on_u. ap value_of (node_stays u 2 (omega arith) on_u));
        }

        -- and what it holds
        pub made_key : key < 2 ^ 32 → key_at filled t ≡ key
        made_key = slot_value cells (3 * buckets) t values 1 key (omega arith) refl

        pub made_value : value < 2 ^ 32 → value_at filled t ≡ value
        made_value = slot_value cells (3 * buckets) t values 2 value (omega arith) refl

        pub made_next : next < 2 ^ 32 → next_at filled t ≡ next
        made_next = slot_value cells (3 * buckets) t values 3 next (omega arith) refl
