-- The words of a closed table, node by node.
use Rattle.std.proofs.Common.{◌≡◌, ◌≢◌, ℕ, suc, ◌+◌, ◌-◌, ◌<◌, ◌≤◌, List, ◌∷◌, ◌++◌, [], sym, ap, subst, ◌∙◌, arith, true}
use Rattle.list_walks.specs.structure_laws.specs.map_history.specs.Replay.{Pairs}
use Rattle.list_walks.specs.structure_laws.specs.body_terms.specs.Memory.{cell_of}
use Rattle.list_walks.specs.structure_laws.specs.body_terms.specs.Word.{value_of}
use Rattle.list_walks.specs.structure_laws.specs.table_words.specs.Limits.{IsWithinLimits}
use Rattle.list_walks.specs.structure_laws.specs.table_words.specs.Places.{slot_count}
use Rattle.list_walks.specs.structure_laws.specs.table_words.specs.declared.spot.Spot.TheVariants.{Cell}
use Rattle.list_walks.specs.list_laws.specs.list_bodies.specs.List.{next_of, slot_in}
use Rattle.list_walks.specs.list_laws.specs.Nodes.{list, nodes}
use Rattle.list_walks.specs.list_laws.proofs.Open.{leads_to}
use Rattle.lock_walks.specs.version_words.specs.TableState.{WordsState, word_of}
use Rattle.lock_walks.specs.try_lock.specs.Contents.{StandFor}
use Rattle.sorted_list.specs.Stands.{Gathers}
use Rattle.sorted_list.proofs.Gathering.{begins, goes_on}

module _ {T : Type 0} (words : WordsState T) (pairs : Pairs) (stand : StandFor list words pairs) where
  abbrev word_at : ℕ → ℕ
  word_at place = word_of list words (Cell place)

  node_at : (slot cell : ℕ) → slot < slot_count words.layout 2 → cell < 5 → value_of (stand.cells (cell_of 0 slot cell)) ≡ value_of (word_at (cell_of 0 slot cell))
  node_at slot cell low few = ap value_of (stand.same (cell_of 0 slot cell) (omega (arith, low, few)))

  -- the node to which a linked node's link leads
  leads : (slot next : ℕ) → slot < slot_count words.layout 2 → stand.stands.linked slot ≡ true → slot ≢ 1 → next ≡ slot_in (word_at (next_of slot))
      → (nodes stand.cells).next slot ≡ suc next
  leads slot next low on inner is = leads_to ((nodes stand.cells).next slot) (stand.stands.line.next_some slot on inner)
      ∙ ap suc (ap (λ v. v - 1) (node_at slot 2 low (omega arith)) ∙ sym is)

  -- behind the head
  pub begins_at : (next : ℕ) → next ≡ slot_in (word_at (next_of 0)) → Gathers words pairs stand 0 next []
  begins_at next is = begins (slot_count words.layout 2) stand.cells pairs stand.stands next
      (leads 0 next (omega arith) stand.stands.line.head (λ e. omega (arith, e)) is)

  -- one node further
  pub goes_to : (passed slot : ℕ) (items : List (ℕ × ℕ)) → Gathers words pairs stand passed slot items → slot < slot_count words.layout 2 → slot ≢ 1
      → (key value next : ℕ) → key ≡ value_of (word_at (cell_of 0 slot 1)) → value ≡ value_of (word_at (cell_of 0 slot 3)) → next ≡ slot_in (word_at (next_of slot))
      → Gathers words pairs stand (passed + 1) next (items ++ (key, value) ∷ [])
  goes_to passed slot items so low inner key value next is_key is_value is_next =
      subst (λ k. Gathers words pairs stand (passed + 1) next (items ++ (k, value) ∷ [])) (node_at slot 1 low (omega arith) ∙ sym is_key)
      (subst (λ v. Gathers words pairs stand (passed + 1) next (items ++ ((nodes stand.cells).key slot, v) ∷ [])) (node_at slot 3 low (omega arith) ∙ sym is_value)
      (goes_on (slot_count words.layout 2) stand.cells pairs stand.stands passed slot items so next inner (leads slot next low so.linked inner is_next)))

-- no table has more node slots
pub most_slots : {T : Type 0} (words : WordsState T) → IsWithinLimits words.layout → slot_count words.layout 2 ≤ 262180
most_slots words limits = let nodes = limits.few_nodes in let runners = limits.few_runners in omega (arith, nodes, runners)
