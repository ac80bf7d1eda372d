-- The runs of the sorted list's four bodies.
use Rattle.std.proofs.Common.{◌≡◌, ◌≢◌, ℕ, ◌+◌, ◌*◌, List, [], ◌∷◌, refl, sym, subst}
use Rattle.std.specs.Prelude.{◌^◌}
use Rattle.structure_laws.specs.body_terms.specs.Word.{value_of, version_of, next_word}
use Rattle.structure_laws.specs.body_terms.specs.Line.{line}
use Rattle.structure_laws.specs.body_terms.specs.Run.{Setting, Run, ran, exchanged}
use Rattle.structure_laws.specs.body_terms.specs.declared.micro.Source.TheVariants.{Fixed, Agreed}
use Rattle.structure_laws.specs.body_terms.specs.declared.micro.Micro.{Micro}
use Rattle.structure_laws.specs.body_terms.specs.declared.micro.Micro.TheVariants.{LoadCell, Commit, CheckWord, CheckFresh, ClockLoad, StampExchange, ClockRaise, ExchangeCell, EpochForRetire, RetireCommit, ReplyExchange}
use Rattle.structure_laws.specs.body_terms.specs.declared.thunk.Thunk.{Thunk}
use Rattle.tree_laws.specs.section_body.specs.Bucket.{operand}
use Rattle.list_laws.specs.list_bodies.specs.List.{lock_of, next_of, mark_of, node_in, look_steps, insert_steps, remove_steps, replace_steps}
use Rattle.plain_laws.proofs.Forms.{Ends, IsGot, begun, word_passes, fresh_passes, node_made, making}
use Rattle.plain_laws.proofs.Fronts.{with_trail, look_ends, front, front_passes, taking, take_passes}

module _ (s : Setting) (cells : ℕ → ℕ) (clock stamp reply : ℕ) (t : Thunk) where
  abbrev at_first : Run
  at_first = begun s cells clock stamp reply t

  -- the predecessor's link and mark
  abbrev link : ℕ
  link = cells (t.lock + 2)

  abbrev mark : ℕ
  mark = cells (t.lock + 4)

  -- one that reads alone
  pub look_run : link ≡ operand t 1 → mark ≡ operand t 2
      → Ends (operand t 3) cells (ran s at_first (line (look_steps t)))
  look_run = look_ends s cells clock stamp reply t (t.lock + 2)

  -- one that puts a node in
  abbrev pub inserted_cells : ℕ → ℕ
  inserted_cells = exchanged (node_made s cells 2 (operand t 3) (value_of (operand t 1)) (operand t 4))
      (t.lock + 2) link (next_word link (value_of (s.slot 2 + 1)))

  abbrev stored : List Micro
  stored = making 2 (operand t 3) (Fixed (value_of (operand t 1))) (operand t 4)
      (ClockLoad ∷ StampExchange ∷ ClockRaise ∷ ExchangeCell (t.lock + 2) 0 (Agreed 2) ∷
      ReplyExchange (1 * 2 ^ 32) ∷ [])

  pub insert_run : link ≡ operand t 1 → mark ≡ operand t 2 → version_of link ≢ s.version_max
      → Ends (1 * 2 ^ 32) inserted_cells (ran s at_first (line (insert_steps t)))
  insert_run same unmarked unspent = front_passes s cells clock stamp reply t (t.lock + 2) (1 * 2 ^ 32) inserted_cells
      stored same unmarked unspent (record { answered = refl; left = refl })

  -- one that takes a node out: its link and its mark
  abbrev behind : ℕ
  behind = cells (next_of (node_in t))

  abbrev node_mark : ℕ
  node_mark = cells (mark_of (node_in t))

  -- what the body wants, and that the node's lock is got
  pub record Passes : Type 0 where
    pub link : cells (t.lock + 2) ≡ operand t 1
    pub fresh_link : version_of (cells (t.lock + 2)) ≢ s.version_max
    pub mark : cells (t.lock + 4) ≡ operand t 2
    pub lock : IsGot s 2 (operand t 3)
    pub node : cells (mark_of (node_in t)) ≡ operand t 4
    pub fresh_node : version_of (cells (mark_of (node_in t))) ≢ s.version_max

  abbrev fresh_after : List Micro → List Micro
  fresh_after rest = CheckFresh (mark_of (node_in t)) 5 ∷ rest

  abbrev loaded : List Micro → List Micro
  loaded rest =
      LoadCell (next_of (node_in t)) 4 ∷ Commit (next_of (node_in t)) 4 ∷ LoadCell (mark_of (node_in t)) 5 ∷
      Commit (mark_of (node_in t)) 5 ∷ CheckWord (mark_of (node_in t)) 5 (operand t 4) ∷ fresh_after rest

  -- its agreed words then
  abbrev agreed : List ℕ
  agreed = link ∷ mark ∷ s.taken 2 ∷ s.taken 3 ∷ behind ∷ node_mark ∷ []

  whole_passes : (answer : ℕ) (left : ℕ → ℕ) (rest : List Micro) → Passes
      → Ends answer left (ran s (with_trail s cells clock stamp reply t (t.lock + 2) agreed) rest)
      → Ends answer left (ran s at_first (front s cells clock stamp reply t (t.lock + 2)
      (taking s cells clock stamp reply t (t.lock + 2) (lock_of (node_in t)) (loaded rest))))
  whole_passes answer left rest passes ends =
      front_passes s cells clock stamp reply t (t.lock + 2) answer left
      (taking s cells clock stamp reply t (t.lock + 2) (lock_of (node_in t)) (loaded rest))
      passes.link passes.mark passes.fresh_link
      (take_passes s cells clock stamp reply t (t.lock + 2) (lock_of (node_in t)) answer left (loaded rest) passes.lock
      (subst (λ o. Ends answer left (ran s (record at_first { trail = agreed; outcome = o }) (fresh_after rest)))
      (sym (word_passes (mark_of (node_in t)) (operand t 4) node_mark passes.node))
      (subst (λ o. Ends answer left (ran s (record at_first { trail = agreed; outcome = o }) rest))
      (sym (fresh_passes (mark_of (node_in t)) node_mark s.version_max passes.fresh_node)) ends)))

  -- for good
  abbrev pub removed_cells : ℕ → ℕ
  removed_cells = exchanged (exchanged cells (mark_of (node_in t)) node_mark (next_word node_mark 1))
      (t.lock + 2) link (next_word link (value_of behind))

  abbrev taken_out : List Micro
  taken_out =
      ClockLoad ∷ StampExchange ∷ ClockRaise ∷ ExchangeCell (mark_of (node_in t)) 5 (Fixed 1) ∷
      ExchangeCell (t.lock + 2) 0 (Agreed 4) ∷ EpochForRetire (node_in t) 6 ∷ RetireCommit (node_in t) 6 ∷
      ReplyExchange (4 * 2 ^ 32) ∷ []

  pub remove_run : Passes → Ends (4 * 2 ^ 32) removed_cells (ran s at_first (line (remove_steps t)))
  remove_run passes = whole_passes (4 * 2 ^ 32) removed_cells taken_out passes (record { answered = refl; left = refl })

  -- or for a new one in its place
  abbrev to_new : ℕ
  to_new = value_of (s.slot 6 + 1)

  abbrev pub replaced_cells : ℕ → ℕ
  replaced_cells = exchanged (exchanged (exchanged (node_made s cells 6 (operand t 5) (value_of behind) (operand t 6))
      (mark_of (node_in t)) node_mark (next_word node_mark 1))
      (next_of (node_in t)) behind (next_word behind to_new))
      (t.lock + 2) link (next_word link to_new)

  abbrev swapped : List Micro
  swapped = making 6 (operand t 5) (Agreed 4) (operand t 6) (ClockLoad ∷ StampExchange ∷ ClockRaise ∷
      ExchangeCell (mark_of (node_in t)) 5 (Fixed 1) ∷ ExchangeCell (next_of (node_in t)) 4 (Agreed 6) ∷
      ExchangeCell (t.lock + 2) 0 (Agreed 6) ∷ EpochForRetire (node_in t) 7 ∷ RetireCommit (node_in t) 7 ∷
      ReplyExchange (operand t 7) ∷ [])

  pub replace_run : Passes → version_of behind ≢ s.version_max
      → Ends (operand t 7) replaced_cells (ran s at_first (line (replace_steps t)))
  replace_run passes unspent = whole_passes (operand t 7) replaced_cells
      (CheckFresh (next_of (node_in t)) 4 ∷ swapped) passes
      (subst (λ o. Ends (operand t 7) replaced_cells (ran s (record at_first { trail = agreed; outcome = o }) swapped))
      (sym (fresh_passes (next_of (node_in t)) behind s.version_max unspent)) (record { answered = refl; left = refl }))
