use Rattle.std.specs.Prelude.{◌≡◌, ◌<◌, ℕ, ◌++◌, ◌-◌, Option}
use Rattle.shared_laws.specs.Listing.{listed}
use Rattle.shared_laws.proofs.keys_in_order.pairs_by_key.Given as goal

abbrev pub invariant-loop-key : goal.invariant-loop-key
invariant-loop-key g l = record {
  rest : (has : ℕ → Option ℕ) → ((key : ℕ) (o : Option ℕ) → key < l.keys → goal.F-post g l.value_of key o → o ≡ has key)
      → l.items.items ++ listed has l.key (l.keys - l.key) ≡ listed has 0 l.keys;
}
