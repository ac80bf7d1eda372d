-- The runs of the three bodies over two keys.
use Rattle.std.proofs.Common.{◌≡◌, ◌≢◌, ℕ, ◌+◌, ◌*◌, List, [], ◌∷◌, refl, sym, subst}
use Rattle.std.specs.Prelude.{◌^◌}
use Rattle.structure_laws.specs.body_terms.specs.Word.{value_of, version_of, next_word}
use Rattle.tree_laws.specs.section_body.specs.Bucket.{operand}
use Rattle.tree_laws.specs.bucket_laws.specs.bucket_bodies.specs.Two.{low_half, high_half, higher_lock, target_lock}
use Rattle.tree_laws.specs.bucket_laws.specs.bucket_bodies.specs.Two.{look_two_steps, move_steps, rename_steps}
use Rattle.structure_laws.specs.body_terms.specs.Line.{line}
use Rattle.structure_laws.specs.body_terms.specs.Run.{Setting, Run, ran, exchanged}
use Rattle.structure_laws.specs.body_terms.specs.declared.micro.Source.TheVariants.{Fixed, Agreed}
use Rattle.structure_laws.specs.body_terms.specs.declared.micro.Micro.{Micro}
use Rattle.structure_laws.specs.body_terms.specs.declared.micro.Micro.TheVariants.{LoadCell, Commit, CheckWord, CheckFresh, NestedLoad, NestedCommit, CheckFree, NestedHold, OutcomeLoad, OutcomeCommit, CheckHeld, ClockLoad, StampExchange, ClockRaise, ExchangeCell, EpochForRetire, RetireCommit, ReplyExchange}
use Rattle.structure_laws.specs.body_terms.specs.declared.thunk.Thunk.{Thunk}
use Rattle.plain_laws.proofs.Forms.{Ends, IsGot, begun, word_passes, fresh_passes, free_passes, held_passes, node_made, making}

module _ (s : Setting) (cells : ℕ → ℕ) (clock stamp reply : ℕ) (t : Thunk) where
  abbrev at_first : Run
  at_first = begun s cells clock stamp reply t

  -- the run with this trail
  abbrev with_trail : List ℕ → Run
  with_trail trail = record at_first { trail = trail }

  abbrev lower : ℕ
  lower = cells (t.lock + 1)

  -- the steps of a Take of this lock, and of the load of the edition beside it
  abbrev taking : ℕ → List Micro → List Micro
  taking place rest = NestedLoad place 1 ∷ NestedCommit place 1 ∷ CheckFree place 1 (operand t 1) ∷ NestedHold place (operand t 1) ∷
      OutcomeLoad place 2 ∷ OutcomeCommit place 2 ∷ CheckHeld place 2 (operand t 1) ∷
      LoadCell (place + 1) 3 ∷ Commit (place + 1) 3 ∷ CheckWord (place + 1) 3 (operand t 2) ∷ rest

  -- what a body with two buckets wants, and that its further lock is got
  pub record Passes (place : ℕ) : Type 0 where
    pub lower : cells (t.lock + 1) ≡ operand t 0
    pub lock : IsGot s 1 (operand t 1)
    pub higher : cells (place + 1) ≡ operand t 2

  -- its agreed words then
  abbrev agreed : ℕ → List ℕ
  agreed place = lower ∷ s.taken 1 ∷ s.taken 2 ∷ cells (place + 1) ∷ []

  take_passes : (place answer : ℕ) (left : ℕ → ℕ) (rest : List Micro) → Passes place
      → Ends answer left (ran s (with_trail (agreed place)) rest)
      → Ends answer left (ran s (with_trail (lower ∷ [])) (taking place rest))
  take_passes place answer left rest passes ends =
      subst (λ o. Ends answer left (ran s (record (with_trail (lower ∷ s.taken 1 ∷ [])) { outcome = o })
      (NestedHold place (operand t 1) ∷ OutcomeLoad place 2 ∷ OutcomeCommit place 2 ∷ CheckHeld place 2 (operand t 1) ∷
      LoadCell (place + 1) 3 ∷ Commit (place + 1) 3 ∷ CheckWord (place + 1) 3 (operand t 2) ∷ rest)))
      (sym (free_passes s place 1 (operand t 1) passes.lock))
      (subst (λ o. Ends answer left (ran s (record (with_trail (lower ∷ s.taken 1 ∷ s.taken 2 ∷ [])) { outcome = o })
      (LoadCell (place + 1) 3 ∷ Commit (place + 1) 3 ∷ CheckWord (place + 1) 3 (operand t 2) ∷ rest)))
      (sym (held_passes s place 1 (operand t 1) passes.lock))
      (subst (λ o. Ends answer left (ran s (record (with_trail (agreed place)) { outcome = o }) rest))
      (sym (word_passes (place + 1) (operand t 2) (cells (place + 1)) passes.higher)) ends))

  -- one that reads alone
  pub look_two_run : Passes (operand t 3) → Ends (operand t 7) cells (ran s at_first (line (look_two_steps t)))
  look_two_run passes =
      subst (λ o. Ends (operand t 7) cells (ran s (record (with_trail (lower ∷ [])) { outcome = o })
      (taking (operand t 3) (ClockLoad ∷ StampExchange ∷ ClockRaise ∷ ReplyExchange (operand t 7) ∷ []))))
      (sym (word_passes (t.lock + 1) (operand t 0) lower passes.lower))
      (take_passes (operand t 3) (operand t 7) cells (ClockLoad ∷ StampExchange ∷ ClockRaise ∷ ReplyExchange (operand t 7) ∷ []) passes
      (record { answered = refl; left = refl }))

  -- one that moves a node to another bucket
  abbrev higher : ℕ
  higher = cells (higher_lock t + 1)

  abbrev link : ℕ
  link = cells (low_half t 4)

  abbrev head : ℕ
  head = cells (target_lock t + 2)

  abbrev pub moved_cells : ℕ → ℕ
  moved_cells = exchanged (exchanged (exchanged (exchanged
      (node_made s cells 6 (low_half t 6) (high_half t 6) (high_half t 5))
      (low_half t 4) link (next_word link (low_half t 5)))
      (target_lock t + 2) head (next_word head (value_of (s.slot 6 + 1))))
      (t.lock + 1) lower (next_word lower 0))
      (higher_lock t + 1) higher (next_word higher 0)

  abbrev stored : List Micro
  stored = making 6 (low_half t 6) (Fixed (high_half t 6)) (high_half t 5) (ClockLoad ∷ StampExchange ∷ ClockRaise ∷
      ExchangeCell (low_half t 4) 4 (Fixed (low_half t 5)) ∷ ExchangeCell (target_lock t + 2) 5 (Agreed 6) ∷
      ExchangeCell (t.lock + 1) 0 (Fixed 0) ∷ ExchangeCell (higher_lock t + 1) 3 (Fixed 0) ∷
      EpochForRetire (high_half t 4) 7 ∷ RetireCommit (high_half t 4) 7 ∷ ReplyExchange (7 * 2 ^ 32) ∷ [])

  abbrev from_head : List Micro
  from_head = LoadCell (target_lock t + 2) 5 ∷ Commit (target_lock t + 2) 5 ∷ CheckFresh (target_lock t + 2) 5 ∷ stored

  abbrev from_link : List Micro
  from_link = LoadCell (low_half t 4) 4 ∷ Commit (low_half t 4) 4 ∷ CheckFresh (low_half t 4) 4 ∷ from_head

  abbrev from_higher : List Micro
  from_higher = CheckFresh (higher_lock t + 1) 3 ∷ from_link

  abbrev from_lower : List Micro
  from_lower = CheckFresh (t.lock + 1) 0 ∷ taking (higher_lock t) from_higher

  abbrev Moves : Run → Type 0
  Moves r = Ends (7 * 2 ^ 32) moved_cells r

  abbrev seen : List ℕ
  seen = agreed (higher_lock t)

  abbrev with_link : List ℕ
  with_link = lower ∷ s.taken 1 ∷ s.taken 2 ∷ higher ∷ link ∷ []

  abbrev with_both : List ℕ
  with_both = lower ∷ s.taken 1 ∷ s.taken 2 ∷ higher ∷ link ∷ head ∷ []

  stored_run : Moves (ran s (with_trail with_both) stored)
  stored_run = record { answered = refl; left = refl }

  pub move_run : Passes (higher_lock t) → version_of lower ≢ s.version_max → version_of higher ≢ s.version_max
      → version_of link ≢ s.version_max → version_of head ≢ s.version_max
      → Moves (ran s at_first (line (move_steps t)))
  move_run passes fresh_lower fresh_higher fresh_link fresh_head =
      subst (λ o. Moves (ran s (record (with_trail (lower ∷ [])) { outcome = o }) from_lower))
      (sym (word_passes (t.lock + 1) (operand t 0) lower passes.lower))
      (subst (λ o. Moves (ran s (record (with_trail (lower ∷ [])) { outcome = o }) (taking (higher_lock t) from_higher)))
      (sym (fresh_passes (t.lock + 1) lower s.version_max fresh_lower))
      (take_passes (higher_lock t) (7 * 2 ^ 32) moved_cells from_higher passes
      (subst (λ o. Moves (ran s (record (with_trail seen) { outcome = o }) from_link))
      (sym (fresh_passes (higher_lock t + 1) higher s.version_max fresh_higher))
      (subst (λ o. Moves (ran s (record (with_trail with_link) { outcome = o }) from_head))
      (sym (fresh_passes (low_half t 4) link s.version_max fresh_link))
      (subst (λ o. Moves (ran s (record (with_trail with_both) { outcome = o }) stored))
      (sym (fresh_passes (target_lock t + 2) head s.version_max fresh_head)) stored_run)))))

  -- one that puts a node in the place of another one
  abbrev old_link : ℕ
  old_link = cells (operand t 1)

  abbrev pub renamed_cells : ℕ → ℕ
  renamed_cells = exchanged (exchanged (node_made s cells 2 (operand t 4) (operand t 5) (operand t 3))
      (operand t 1) old_link (next_word old_link (value_of (s.slot 2 + 1))))
      (t.lock + 1) lower (next_word lower 0)

  abbrev renamed : List Micro
  renamed = making 2 (operand t 4) (Fixed (operand t 5)) (operand t 3) (ClockLoad ∷ StampExchange ∷ ClockRaise ∷
      ExchangeCell (operand t 1) 1 (Agreed 2) ∷ ExchangeCell (t.lock + 1) 0 (Fixed 0) ∷
      EpochForRetire (operand t 2) 3 ∷ RetireCommit (operand t 2) 3 ∷ ReplyExchange (7 * 2 ^ 32) ∷ [])

  abbrev Renames : Run → Type 0
  Renames r = Ends (7 * 2 ^ 32) renamed_cells r

  pub rename_run : lower ≡ operand t 0 → version_of lower ≢ s.version_max → version_of old_link ≢ s.version_max
      → Renames (ran s at_first (line (rename_steps t)))
  rename_run same fresh_lower fresh_link =
      subst (λ o. Renames (ran s (record (with_trail (lower ∷ [])) { outcome = o }) (CheckFresh (t.lock + 1) 0 ∷
      LoadCell (operand t 1) 1 ∷ Commit (operand t 1) 1 ∷ CheckFresh (operand t 1) 1 ∷ renamed)))
      (sym (word_passes (t.lock + 1) (operand t 0) lower same))
      (subst (λ o. Renames (ran s (record (with_trail (lower ∷ [])) { outcome = o })
      (LoadCell (operand t 1) 1 ∷ Commit (operand t 1) 1 ∷ CheckFresh (operand t 1) 1 ∷ renamed)))
      (sym (fresh_passes (t.lock + 1) lower s.version_max fresh_lower))
      (subst (λ o. Renames (ran s (record (with_trail (lower ∷ old_link ∷ [])) { outcome = o }) renamed))
      (sym (fresh_passes (operand t 1) old_link s.version_max fresh_link)) (record { answered = refl; left = refl })))
