-- The runs of the search tree's four bodies.
use Rattle.std.proofs.Common.{◌≡◌, ◌≢◌, ℕ, ◌+◌, ◌*◌, Bool, true, false, List, [], ◌∷◌, refl, sym, subst}
use Rattle.std.specs.Prelude.{◌^◌, slice_index}
use Rattle.structure_laws.specs.body_terms.specs.Word.{value_of, version_of, next_word}
use Rattle.structure_laws.specs.body_terms.specs.Memory.{cell_of}
use Rattle.tree_laws.specs.section_body.specs.Bucket.{operand}
use Rattle.structure_laws.specs.body_terms.specs.Line.{line}
use Rattle.structure_laws.specs.body_terms.specs.Run.{Setting, Run, ran, exchanged}
use Rattle.structure_laws.specs.body_terms.specs.declared.micro.Source.TheVariants.{Fixed, Agreed}
use Rattle.structure_laws.specs.body_terms.specs.declared.micro.Micro.{Micro}
use Rattle.structure_laws.specs.body_terms.specs.declared.micro.Micro.TheVariants.{LoadCell, Commit, CheckWord, CheckFresh, PrivateLoad, PrivateStore, MakeCommit, ClockLoad, StampExchange, ClockRaise, ExchangeCell, EpochForRetire, RetireCommit, ReplyExchange}
use Rattle.structure_laws.specs.body_terms.specs.declared.step.Step.{Step}
use Rattle.structure_laws.specs.body_terms.specs.declared.step.Step.TheVariants.{Load, Want, Fresh, Make, Stamp, Store, Answer}
use Rattle.structure_laws.specs.body_terms.specs.declared.value.Init.{Init}
use Rattle.structure_laws.specs.body_terms.specs.declared.value.Value.TheVariants.{Const, Made}
use Rattle.structure_laws.specs.body_terms.specs.declared.thunk.Thunk.{Thunk}
use Rattle.plain_laws.proofs.Filled.{five}
use Rattle.plain_laws.proofs.Forms.{Ends, IsGot, begun, word_passes, fresh_passes}
use Rattle.plain_laws.proofs.Fronts.{look_ends, front_passes, taking, take_passes}
use Rattle.tree_laws.specs.tree_bodies.specs.Tree.{lock_of, mark_of, leaf_init, inner_with, parent_in, leaf_in}
use Rattle.tree_laws.specs.tree_bodies.specs.Tree.{sibling_of}
use Rattle.tree_laws.specs.tree_bodies.specs.Tree.{old_leaf, look_steps, delete_steps, replace_steps}

-- the new inner node by the side of the new leaf, and the body with it
abbrev pub inner_for : Bool → Thunk → Init
inner_for true t = inner_with (operand t 5) (Made 2) (Const (value_of (operand t 1)))
inner_for false t = inner_with (operand t 3) (Const (value_of (operand t 1))) (Made 2)

abbrev pub insert_with : Thunk → Init → List Step
insert_with t init =
    Load (operand t 0) 0 ∷ Want 0 (operand t 1) ∷ Fresh 0 ∷ Load (t.lock + 4) 1 ∷ Want 1 (operand t 2) ∷
    Make (leaf_init t) 2 ∷ Make init 3 ∷ Stamp ∷ Store 0 (Made 3) ∷ Answer (1 * 2 ^ 32) ∷ []

abbrev pub leaf_values : Thunk → List ℕ
leaf_values t = 0 ∷ operand t 3 ∷ 0 ∷ operand t 4 ∷ 0 ∷ []

abbrev pub inner_values : Bool → Thunk → ℕ → List ℕ
inner_values true t leaf = 0 ∷ operand t 5 ∷ leaf ∷ value_of (operand t 1) ∷ 0 ∷ []
inner_values false t leaf = 0 ∷ operand t 3 ∷ value_of (operand t 1) ∷ leaf ∷ 0 ∷ []

module _ (s : Setting) (cells : ℕ → ℕ) (clock stamp reply : ℕ) (t : Thunk) where
  abbrev at_first : Run
  at_first = begun s cells clock stamp reply t

  abbrev link : ℕ
  link = cells (operand t 0)

  abbrev mark : ℕ
  mark = cells (t.lock + 4)

  -- one that reads alone
  pub look_run : link ≡ operand t 1 → mark ≡ operand t 2
      → Ends (operand t 3) cells (ran s at_first (line (look_steps t)))
  look_run = look_ends s cells clock stamp reply t (operand t 0)

  -- one that puts a leaf in
  abbrev pub made_leaf : ℕ → ℕ
  made_leaf = five cells (cell_of s.fixed_cells (s.slot 2)) (λ cell. next_word (s.first 2 cell) (slice_index (leaf_values t) cell))

  abbrev pub made_both : Bool → ℕ → ℕ
  made_both side = five made_leaf (cell_of s.fixed_cells (s.slot 3)) (λ cell. next_word (s.first 3 cell) (slice_index (inner_values side t (value_of (s.slot 2 + 1))) cell))

  abbrev pub inserted_cells : Bool → ℕ → ℕ
  inserted_cells side = exchanged (made_both side) (operand t 0) link (next_word link (value_of (s.slot 3 + 1)))

  abbrev stored : List Micro
  stored = MakeCommit 3 ∷ ClockLoad ∷ StampExchange ∷ ClockRaise ∷ ExchangeCell (operand t 0) 0 (Agreed 3) ∷ ReplyExchange (1 * 2 ^ 32) ∷ []

  abbrev made_nodes : Bool → List Micro
  made_nodes true =
      PrivateLoad 0 2 ∷ PrivateStore 0 2 (Fixed 0) ∷ PrivateLoad 1 2 ∷ PrivateStore 1 2 (Fixed (operand t 3)) ∷ PrivateLoad 2 2 ∷ PrivateStore 2 2 (Fixed 0) ∷
      PrivateLoad 3 2 ∷ PrivateStore 3 2 (Fixed (operand t 4)) ∷ PrivateLoad 4 2 ∷ PrivateStore 4 2 (Fixed 0) ∷ MakeCommit 2 ∷
      PrivateLoad 0 3 ∷ PrivateStore 0 3 (Fixed 0) ∷ PrivateLoad 1 3 ∷ PrivateStore 1 3 (Fixed (operand t 5)) ∷ PrivateLoad 2 3 ∷ PrivateStore 2 3 (Agreed 2) ∷
      PrivateLoad 3 3 ∷ PrivateStore 3 3 (Fixed (value_of (operand t 1))) ∷ PrivateLoad 4 3 ∷ PrivateStore 4 3 (Fixed 0) ∷ stored
  made_nodes false =
      PrivateLoad 0 2 ∷ PrivateStore 0 2 (Fixed 0) ∷ PrivateLoad 1 2 ∷ PrivateStore 1 2 (Fixed (operand t 3)) ∷ PrivateLoad 2 2 ∷ PrivateStore 2 2 (Fixed 0) ∷
      PrivateLoad 3 2 ∷ PrivateStore 3 2 (Fixed (operand t 4)) ∷ PrivateLoad 4 2 ∷ PrivateStore 4 2 (Fixed 0) ∷ MakeCommit 2 ∷
      PrivateLoad 0 3 ∷ PrivateStore 0 3 (Fixed 0) ∷ PrivateLoad 1 3 ∷ PrivateStore 1 3 (Fixed (operand t 3)) ∷ PrivateLoad 2 3 ∷ PrivateStore 2 3 (Fixed (value_of (operand t 1))) ∷
      PrivateLoad 3 3 ∷ PrivateStore 3 3 (Agreed 2) ∷ PrivateLoad 4 3 ∷ PrivateStore 4 3 (Fixed 0) ∷ stored

  pub insert_run : (side : Bool) → link ≡ operand t 1 → mark ≡ operand t 2 → version_of link ≢ s.version_max
      → Ends (1 * 2 ^ 32) (inserted_cells side) (ran s at_first (line (insert_with t (inner_for side t))))
  insert_run true same unmarked unspent = front_passes s cells clock stamp reply t (operand t 0) (1 * 2 ^ 32)
      (inserted_cells true) (made_nodes true) same unmarked unspent (record { answered = refl; left = refl })
  insert_run false same unmarked unspent = front_passes s cells clock stamp reply t (operand t 0) (1 * 2 ^ 32)
      (inserted_cells false) (made_nodes false) same unmarked unspent (record { answered = refl; left = refl })

  -- one that puts a leaf in the place of another
  abbrev pub replaced_cells : ℕ → ℕ
  replaced_cells = exchanged made_leaf (operand t 0) link (next_word link (value_of (s.slot 2 + 1)))

  abbrev made_one : List Micro
  made_one =
      PrivateLoad 0 2 ∷ PrivateStore 0 2 (Fixed 0) ∷ PrivateLoad 1 2 ∷ PrivateStore 1 2 (Fixed (operand t 3)) ∷
      PrivateLoad 2 2 ∷ PrivateStore 2 2 (Fixed 0) ∷ PrivateLoad 3 2 ∷ PrivateStore 3 2 (Fixed (operand t 4)) ∷
      PrivateLoad 4 2 ∷ PrivateStore 4 2 (Fixed 0) ∷ MakeCommit 2 ∷ ClockLoad ∷ StampExchange ∷ ClockRaise ∷
      ExchangeCell (operand t 0) 0 (Agreed 2) ∷ EpochForRetire (old_leaf t) 3 ∷ RetireCommit (old_leaf t) 3 ∷
      ReplyExchange (operand t 5) ∷ []

  pub replace_run : link ≡ operand t 1 → mark ≡ operand t 2 → version_of link ≢ s.version_max
      → Ends (operand t 5) replaced_cells (ran s at_first (line (replace_steps t)))
  replace_run same unmarked unspent = front_passes s cells clock stamp reply t (operand t 0) (operand t 5)
      replaced_cells made_one same unmarked unspent (record { answered = refl; left = refl })

  -- one that takes a leaf out
  abbrev leaf_link : ℕ
  leaf_link = cells (operand t 4)

  abbrev sibling : ℕ
  sibling = cells (sibling_of t)

  abbrev parent_mark : ℕ
  parent_mark = cells (mark_of (parent_in t))

  abbrev pub removed_cells : ℕ → ℕ
  removed_cells = exchanged (exchanged cells (mark_of (parent_in t)) parent_mark (next_word parent_mark 1)) (operand t 0) link (next_word link (value_of sibling))

  abbrev taken_out : List Micro
  taken_out =
      ClockLoad ∷ StampExchange ∷ ClockRaise ∷ ExchangeCell (mark_of (parent_in t)) 6 (Fixed 1) ∷ ExchangeCell (operand t 0) 0 (Agreed 5) ∷
      EpochForRetire (parent_in t) 7 ∷ RetireCommit (parent_in t) 7 ∷ EpochForRetire (leaf_in t) 8 ∷ RetireCommit (leaf_in t) 8 ∷ ReplyExchange (4 * 2 ^ 32) ∷ []

  abbrev fifth : List Micro
  fifth = CheckFresh (mark_of (parent_in t)) 6 ∷ taken_out

  abbrev fourth : List Micro
  fourth =
      LoadCell (sibling_of t) 5 ∷ Commit (sibling_of t) 5 ∷ LoadCell (mark_of (parent_in t)) 6 ∷ Commit (mark_of (parent_in t)) 6 ∷
      CheckWord (mark_of (parent_in t)) 6 (operand t 6) ∷ fifth

  abbrev third : List Micro
  third = LoadCell (operand t 4) 4 ∷ Commit (operand t 4) 4 ∷ CheckWord (operand t 4) 4 (operand t 5) ∷ fourth

  -- what the body wants, and that its further lock is got
  pub record Passes : Type 0 where
    pub link : cells (operand t 0) ≡ operand t 1
    pub fresh_link : version_of (cells (operand t 0)) ≢ s.version_max
    pub mark : cells (t.lock + 4) ≡ operand t 2
    pub lock : IsGot s 2 (operand t 3)
    pub leaf : cells (operand t 4) ≡ operand t 5
    pub parent : cells (mark_of (parent_in t)) ≡ operand t 6
    pub fresh_parent : version_of (cells (mark_of (parent_in t))) ≢ s.version_max

  abbrev Removes : Run → Type 0
  Removes r = Ends (4 * 2 ^ 32) removed_cells r

  -- its agreed words up to the leaf's link, and up to the parent's mark
  abbrev with_leaf : List ℕ
  with_leaf = link ∷ mark ∷ s.taken 2 ∷ s.taken 3 ∷ leaf_link ∷ []

  abbrev with_parent : List ℕ
  with_parent = link ∷ mark ∷ s.taken 2 ∷ s.taken 3 ∷ leaf_link ∷ sibling ∷ parent_mark ∷ []

  pub delete_run : Passes → Removes (ran s at_first (line (delete_steps t)))
  delete_run passes = front_passes s cells clock stamp reply t (operand t 0) (4 * 2 ^ 32) removed_cells
      (taking s cells clock stamp reply t (operand t 0) (lock_of (parent_in t)) third)
      passes.link passes.mark passes.fresh_link
      (take_passes s cells clock stamp reply t (operand t 0) (lock_of (parent_in t)) (4 * 2 ^ 32) removed_cells third
      passes.lock
      (subst (λ o. Removes (ran s (record at_first { trail = with_leaf; outcome = o }) fourth))
      (sym (word_passes (operand t 4) (operand t 5) leaf_link passes.leaf))
      (subst (λ o. Removes (ran s (record at_first { trail = with_parent; outcome = o }) fifth))
      (sym (word_passes (mark_of (parent_in t)) (operand t 6) parent_mark passes.parent))
      (subst (λ o. Removes (ran s (record at_first { trail = with_parent; outcome = o }) taken_out))
      (sym (fresh_passes (mark_of (parent_in t)) parent_mark s.version_max passes.fresh_parent))
      (record { answered = refl; left = refl })))))
