-- A run that links loses no block: of those that it knows, has in its hand and has free there are no fewer behind a step.
use Rattle.std.specs.Prelude.{◌==◌, ◌&&◌, ◌-◌, nat_lt, is_some, not, cond, Bool, true, false, if◌then◌else◌}
use Rattle.std.proofs.Common.{◌≡◌, ℕ, suc, ◌+◌, ◌≤◌, List, [], ◌∷◌, ◌++◌, length, length-append, refl, sym, ap, ◌∙◌, subst, arith, Option, Some, None}
use Rattle.machine_states.specs.body_terms.specs.Run.{written_once}
use Rattle.machine_states.specs.body_terms.specs.Word.{value_of}
use Rattle.machine_states.specs.epoch_core.specs.Lists.{times}
use Rattle.machine_states.specs.table_words.specs.declared.layout.Layout.{Layout}
use Rattle.machine_states.specs.table_words.specs.Places.{block_words, block_count}
use Rattle.machine_states.specs.structure_laws.specs.Meaning.{Meaning}
use Rattle.machine_states.specs.runner_parts.specs.declared.event.EventKind.{EventKind}
use Rattle.machine_states.specs.runner_parts.specs.declared.event.EventKind.TheVariants as kinds
use Rattle.machine_states.specs.runner_parts.specs.Lists.{without, block_back}
use Rattle.machine_states.specs.runner_parts.specs.State.{RunState, BlocksState, PartState}
use Rattle.machine_states.specs.runner_steps.specs.Sections.{is_open_run, next_of, needs_link}
use Rattle.machine_states.specs.runner_steps.specs.Outside.{blocks_from}
use Rattle.machine_states.specs.runner_steps.specs.Blocks.{block_in_hand, blocks_after}
use Rattle.machine_states.specs.runner_steps.specs.AfterInRun as inside
use Rattle.machine_states.specs.Sight.{Sight}
use Rattle.machine_states.proofs.Steps.{some_same}
use Rattle.machine_invariant.specs.Whole.{Beside, IsWhole}
use Rattle.machine_invariant.specs.machine_blocks.specs.machine_guards.specs.State.{block_owner}
use Rattle.machine_invariant.specs.machine_blocks.specs.machine_guards.specs.Stands.{block_times}
use Rattle.next_steps.specs.Steps.{slot_in, next_block, stock, link_kind}
use Rattle.next_steps.specs.Stages.{run_linked}

-- a list without a number is shorter by as often as that stood in it
pub without_length : (xs : List ℕ) (d : ℕ) → length (without xs d) + times d xs ≡ length xs
without_length [] d = refl
without_length (x ∷ xs) d = by (x == d) (without_length xs d)
  where
    by : (b : Bool) → length (without xs d) + times d xs ≡ length xs
        → length (if not b then x ∷ without xs d else without xs d) + cond b (1 + times d xs) (times d xs) ≡ suc (length xs)
    by true rest = omega (arith, rest)
    by false rest = omega (arith, rest)

-- a block stands once in a free list
pub free_once : (m : Meaning) (l : Layout) (g : Beside) (s : Sight) → IsWhole m l g s → (r b : ℕ) → times b (s.part r).blocks.free ≤ 1
free_once m l g s whole r b = by (nat_lt b (block_count l) && block_owner l b == r) (block_times (s.part r) b) refl (whole.logs.guards.blocks r b)
  where
    by : (c : Bool) (n : ℕ) → block_times (s.part r) b ≡ n → n ≡ cond c 1 0 → times b (s.part r).blocks.free ≤ 1
    by true n all e = omega (arith, all, e)
    by false n all e = omega (arith, all, e)

module _ (m : Meaning) (l : Layout) (p : PartState) (q : RunState) (found : ℕ) (opened : is_open_run q ≡ true) (needs : needs_link q (next_of m q) ≡ true)
    (once : (b : ℕ) → times b p.blocks.free ≤ 1) where
  -- with these blocks and this run
  abbrev stock_of : BlocksState → RunState → ℕ
  stock_of blocks z = length z.links + (if is_some z.block then 1 else 0) + length blocks.free

  abbrev kind_by : Bool → EventKind
  kind_by b = if b then kinds.PrivateStore (blocks_from m l + slot_in (next_block p q)) q.emptied 0 else kinds.LinkCommit (slot_in q.block)

  -- the run behind the step
  abbrev run_by : Bool → RunState
  run_by true = inside.block_emptied (slot_in (next_block p q)) q
  run_by false = record q {
    links = q.links ++ value_of (written_once found (slot_in q.block + 1) - 1) ∷ [];
    block = None;
    emptied = 0;
    won = (if found == 0 then q.won ++ slot_in q.block ∷ [] else q.won);
  }

  run_is : (b : Bool) → (if b then Some (inside.block_emptied (slot_in (next_block p q)) q) else (inside.link_committed (slot_in q.block) p q found).run) ≡ Some (run_by b)
  run_is true = refl
  run_is false = refl

  -- a block comes out of the free list into the hand
  in_hand : (o : Option ℕ) (b : ℕ) → length q.links + (if is_some o then 1 else 0) + length p.blocks.free
      ≤ length q.links + 1 + length (block_in_hand p.blocks b o).free
  in_hand None b = let same = without_length p.blocks.free b in let most = once b in omega (arith, same, most)
  in_hand (Some c) b = omega arith

  -- the one in the hand is linked, or comes back
  one_held : (o : Option ℕ) → (if is_some o then 1 else 0) ≤ 1
  one_held None = omega arith
  one_held (Some c) = omega arith

  come_back : (c : Bool) (b : ℕ) → length p.blocks.free ≤ length (if c then p.blocks else block_back p.blocks b).free
  come_back true b = omega arith
  come_back false b = let more = length-append p.blocks.free (b ∷ []) in omega (arith, more)

  stays : (b : Bool) → stock p q ≤ stock_of (blocks_after m l (kind_by b) p (Some q) found) (run_by b)
  stays true =
      let block : ℕ = blocks_from m l + slot_in (next_block p q) - blocks_from m l in
      subst (λ (xs : BlocksState). stock p q ≤ stock_of xs (run_by true))
      (sym (ap (λ b. if b then (if needs_link q (next_of m q) then block_in_hand p.blocks block q.block else p.blocks) else p.blocks) opened
      ∙ ap (λ b. if b then block_in_hand p.blocks block q.block else p.blocks) needs))
      (in_hand q.block block)
  stays false =
      subst (λ (xs : BlocksState). stock p q ≤ stock_of xs (run_by false))
      (sym (ap (λ b. if b then (if found == 0 then p.blocks else block_back p.blocks (slot_in q.block)) else p.blocks) opened))
      (let held = one_held q.block in
      let back = come_back (found == 0) (slot_in q.block) in
      let more = length-append q.links (value_of (written_once found (slot_in q.block + 1) - 1) ∷ []) in omega (arith, held, back, more))

  pub stock_stays : (p' : PartState) → p'.run ≡ run_linked p q found → p'.blocks ≡ blocks_after m l (link_kind m l p q) p (Some q) found
      → (q' : RunState) → p'.run ≡ Some q' → stock p q ≤ stock p' q'
  stock_stays p' run blocks q' is =
      let less = nat_lt q.emptied block_words in
      subst (λ (z : RunState). stock p q ≤ stock_of p'.blocks z) (some_same (run_by less) q' (sym (run_is less) ∙ (sym run ∙ is)))
      (subst (λ (xs : BlocksState). stock p q ≤ stock_of xs (run_by less)) (sym blocks) (stays less))
