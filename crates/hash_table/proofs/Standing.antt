-- The words of a closed table, chain by chain.
use Rattle.std.proofs.Common.{◌≡◌, ℕ, suc, ◌+◌, ◌*◌, ◌-◌, ◌^◌, ◌<◌, ◌≤◌, List, ◌∷◌, ◌++◌, [], refl, sym, ap, subst, ◌∙◌, arith, cond, Option, Some}
use Rattle.std.specs.Prelude.{nat_lt, slice_get}
use Rattle.machine_states.specs.map_history.specs.Replay.{Pairs}
use Rattle.bucket_walks.specs.section_body.specs.Bucket.{bucket_index}
use Rattle.machine_states.specs.body_terms.specs.Memory.{cell_of}
use Rattle.machine_states.specs.body_terms.specs.Word.{value_of}
use Rattle.machine_states.specs.table_words.specs.Limits.{IsWithinLimits}
use Rattle.machine_states.specs.table_words.specs.Places.{slot_count}
use Rattle.machine_states.specs.table_words.specs.declared.spot.Spot.TheVariants.{Cell}
use Rattle.bucket_walks.specs.bucket_laws.specs.Buckets.{buckets_meaning, nodes}
use Rattle.bucket_walks.specs.bucket_laws.proofs.Places.{lt_true}
use Rattle.lock_walks.specs.version_words.specs.TableState.{WordsState, word_of}
use Rattle.lock_walks.specs.try_lock.specs.Contents.{StandFor}
use Rattle.hash_table.specs.Stands.{HasGathered, Gathers}
use Rattle.hash_table.proofs.Gathering.{gathering_begins, gathering_more, gathered_more, chain_ends}

no_item : (i t : ℕ) → ◌≡◌ {A = Option ℕ} (slice_get [] i) (Some t) → ⊥
no_item i t here = cc

module _ {T : Type 0} (bits : ℕ) (words : WordsState T) (pairs : Pairs) (stand : StandFor (buckets_meaning bits) words pairs) where
  abbrev word_at : ℕ → ℕ
  word_at place = value_of (word_of (buckets_meaning bits) words (Cell place))

  node_at : (slot cell : ℕ) → slot < slot_count words.layout 0 → cell < 5 → value_of (stand.cells (cell_of (3 * 2 ^ bits) slot cell)) ≡ word_at (cell_of (3 * 2 ^ bits) slot cell)
  node_at slot cell low few = ap value_of (stand.same (cell_of (3 * 2 ^ bits) slot cell) (omega (arith, low, few)))

  -- the chain of a bucket begins with the link in its head
  pub begins : (bucket link : ℕ) (items : List (ℕ × ℕ)) → bucket < 2 ^ bits → link ≡ word_at (3 * bucket + 2) → HasGathered bits words pairs stand bucket items → Gathers bits words pairs stand bucket link 0 items
  begins bucket link items low is so = subst (λ l. Gathers bits words pairs stand bucket l 0 items) head
      (gathering_begins (λ key. bucket_index key bits) (nodes (2 ^ bits) (λ key. bucket_index key bits) stand.cells) stand.stands.on stand.stands.rank stand.stands.chains bucket items so)
    where
      head : cond (nat_lt bucket (2 ^ bits)) (value_of (stand.cells (3 * bucket + 2))) 0 ≡ link
      head = ap (λ b. cond b (value_of (stand.cells (3 * bucket + 2))) 0) (lt_true bucket (2 ^ bits) low) ∙ (ap value_of (stand.same (3 * bucket + 2) (omega (arith, low))) ∙ sym is)

  -- at first nothing is gathered
  pub nothing : (items : List (ℕ × ℕ)) → items ≡ [] → HasGathered bits words pairs stand 0 items
  nothing items none = record {
    seen = [];
    are = record {
      pairs = none;
      once = λ i j t here there. absurd (no_item i t here);
      in_chain = λ t among. absurd (no_item among.0 t among.1);
    };
    low = λ t among. absurd (no_item among.0 t among.1);
    all = λ t on low. absurd (omega (arith, low));
  }

  pub ends : (bucket made : ℕ) (items : List (ℕ × ℕ)) → Gathers bits words pairs stand bucket 0 made items → HasGathered bits words pairs stand (bucket + 1) items
  ends bucket made items so = gathered_more (λ key. bucket_index key bits) (nodes (2 ^ bits) (λ key. bucket_index key bits) stand.cells) stand.stands.on stand.stands.rank stand.stands.chains bucket made items so

  module _ (bucket slot made : ℕ) (items : List (ℕ × ℕ)) (so : Gathers bits words pairs stand bucket (suc slot) made items) where
    pub within : slot < slot_count words.layout 0
    within = stand.stands.within slot (so.at slot refl).0

    pub few : made < slot_count words.layout 0
    few = chain_ends (λ key. bucket_index key bits) (nodes (2 ^ bits) (λ key. bucket_index key bits) stand.cells) stand.stands.on stand.stands.rank stand.stands.chains (slot_count words.layout 0) bucket slot made items
        stand.stands.within so

    pub goes_on : (key value link : ℕ) → key ≡ word_at (cell_of (3 * 2 ^ bits) slot 1) → value ≡ word_at (cell_of (3 * 2 ^ bits) slot 2) → link ≡ word_at (cell_of (3 * 2 ^ bits) slot 3)
        → Gathers bits words pairs stand bucket link (made + 1) (items ++ (key, value) ∷ [])
    goes_on key value link is_key is_value is_link =
        subst (λ l. Gathers bits words pairs stand bucket l (made + 1) (items ++ (key, value) ∷ [])) (node_at slot 3 within (omega arith) ∙ sym is_link)
        (subst (λ v. Gathers bits words pairs stand bucket (value_of (stand.cells (cell_of (3 * 2 ^ bits) slot 3))) (made + 1) (items ++ (key, v) ∷ [])) (node_at slot 2 within (omega arith) ∙ sym is_value)
        (subst (λ k. Gathers bits words pairs stand bucket (value_of (stand.cells (cell_of (3 * 2 ^ bits) slot 3))) (made + 1) (items ++ (k, value_of (stand.cells (cell_of (3 * 2 ^ bits) slot 2))) ∷ []))
        (node_at slot 1 within (omega arith) ∙ sym is_key)
        (gathering_more (λ key. bucket_index key bits) (nodes (2 ^ bits) (λ key. bucket_index key bits) stand.cells) stand.stands.on stand.stands.rank stand.stands.chains bucket slot made items so)))

-- no table has more node slots
pub most_slots : {T : Type 0} (words : WordsState T) → IsWithinLimits words.layout → slot_count words.layout 0 ≤ 262178
most_slots words limits = let nodes = limits.few_nodes in let runners = limits.few_runners in omega (arith, nodes, runners)

pub before : (link : ℕ) → 0 < link → link ≡ suc (link - 1)
before link some = omega (arith, some)
