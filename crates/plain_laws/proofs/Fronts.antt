-- What the bodies of the search tree and of the sorted list begin with: a link and the mark behind the outer lock, each
-- as it was read, and a further lock.
use Rattle.std.proofs.Common.{◌≡◌, ◌≢◌, ℕ, ◌+◌, List, [], ◌∷◌, refl, sym, subst}
use Rattle.structure_laws.specs.body_terms.specs.Word.{version_of}
use Rattle.structure_laws.specs.body_terms.specs.Run.{Setting, Run, ran}
use Rattle.structure_laws.specs.body_terms.specs.declared.micro.Micro.{Micro}
use Rattle.structure_laws.specs.body_terms.specs.declared.micro.Micro.TheVariants.{LoadCell, Commit, CheckWord, CheckFresh, NestedLoad, NestedCommit, CheckFree, NestedHold, OutcomeLoad, OutcomeCommit, CheckHeld, ClockLoad, StampExchange, ClockRaise, ReplyExchange}
use Rattle.structure_laws.specs.body_terms.specs.declared.thunk.Thunk.{Thunk}
use Rattle.tree_laws.specs.section_body.specs.Bucket.{operand}
use Rattle.plain_laws.proofs.Forms.{Ends, IsGot, begun, word_passes, fresh_passes, free_passes, held_passes}

-- the place of the link
module _ (s : Setting) (cells : ℕ → ℕ) (clock stamp reply : ℕ) (t : Thunk) (place : ℕ) where
  abbrev link : ℕ
  link = cells place

  abbrev mark : ℕ
  mark = cells (t.lock + 4)

  -- the run with this trail
  abbrev pub with_trail : List ℕ → Run
  with_trail trail = record (begun s cells clock stamp reply t) { trail = trail }

  -- the mark
  abbrev marking : List Micro → List Micro
  marking rest = LoadCell (t.lock + 4) 1 ∷ Commit (t.lock + 4) 1 ∷ CheckWord (t.lock + 4) 1 (operand t 2) ∷ rest

  mark_passes : (answer : ℕ) (left : ℕ → ℕ) (rest : List Micro) → mark ≡ operand t 2
      → Ends answer left (ran s (with_trail (link ∷ mark ∷ [])) rest)
      → Ends answer left (ran s (with_trail (link ∷ [])) (marking rest))
  mark_passes answer left rest unmarked ends =
      subst (λ o. Ends answer left (ran s (record (with_trail (link ∷ mark ∷ [])) { outcome = o }) rest))
      (sym (word_passes (t.lock + 4) (operand t 2) mark unmarked)) ends

  -- a body that reads alone
  abbrev answers : List Micro
  answers = ClockLoad ∷ StampExchange ∷ ClockRaise ∷ ReplyExchange (operand t 3) ∷ []

  abbrev pub looking : List Micro
  looking = LoadCell place 0 ∷ Commit place 0 ∷ CheckWord place 0 (operand t 1) ∷ marking answers

  pub look_ends : link ≡ operand t 1 → mark ≡ operand t 2
      → Ends (operand t 3) cells (ran s (begun s cells clock stamp reply t) looking)
  look_ends same unmarked =
      subst (λ o. Ends (operand t 3) cells (ran s (record (with_trail (link ∷ [])) { outcome = o }) (marking answers)))
      (sym (word_passes place (operand t 1) link same))
      (mark_passes (operand t 3) cells answers unmarked (record { answered = refl; left = refl }))

  -- one that stores to the link
  abbrev pub front : List Micro → List Micro
  front rest =
      LoadCell place 0 ∷ Commit place 0 ∷ CheckWord place 0 (operand t 1) ∷ CheckFresh place 0 ∷ marking rest

  pub front_passes : (answer : ℕ) (left : ℕ → ℕ) (rest : List Micro) → link ≡ operand t 1 → mark ≡ operand t 2
      → version_of link ≢ s.version_max → Ends answer left (ran s (with_trail (link ∷ mark ∷ [])) rest)
      → Ends answer left (ran s (begun s cells clock stamp reply t) (front rest))
  front_passes answer left rest same unmarked unspent ends =
      subst (λ o. Ends answer left (ran s (record (with_trail (link ∷ [])) { outcome = o })
      (CheckFresh place 0 ∷ marking rest)))
      (sym (word_passes place (operand t 1) link same))
      (subst (λ o. Ends answer left (ran s (record (with_trail (link ∷ [])) { outcome = o }) (marking rest)))
      (sym (fresh_passes place link s.version_max unspent))
      (mark_passes answer left rest unmarked ends))

  -- and takes this lock
  abbrev pub taking : ℕ → List Micro → List Micro
  taking lock rest =
      NestedLoad lock 2 ∷ NestedCommit lock 2 ∷ CheckFree lock 2 (operand t 3) ∷ NestedHold lock (operand t 3) ∷
      OutcomeLoad lock 3 ∷ OutcomeCommit lock 3 ∷ CheckHeld lock 3 (operand t 3) ∷ rest

  pub take_passes : (lock answer : ℕ) (left : ℕ → ℕ) (rest : List Micro) → IsGot s 2 (operand t 3)
      → Ends answer left (ran s (with_trail (link ∷ mark ∷ s.taken 2 ∷ s.taken 3 ∷ [])) rest)
      → Ends answer left (ran s (with_trail (link ∷ mark ∷ [])) (taking lock rest))
  take_passes lock answer left rest got ends =
      subst (λ o. Ends answer left (ran s (record (with_trail (link ∷ mark ∷ s.taken 2 ∷ [])) { outcome = o })
      (NestedHold lock (operand t 3) ∷ OutcomeLoad lock 3 ∷ OutcomeCommit lock 3 ∷ CheckHeld lock 3 (operand t 3)
      ∷ rest)))
      (sym (free_passes s lock 2 (operand t 3) got))
      (subst (λ o. Ends answer left
      (ran s (record (with_trail (link ∷ mark ∷ s.taken 2 ∷ s.taken 3 ∷ [])) { outcome = o }) rest))
      (sym (held_passes s lock 2 (operand t 3) got)) ends)
