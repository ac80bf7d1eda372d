-- What a run leaves of the own blocks: those that it linked itself go into limbo, and it has no other one.
use Rattle.std.specs.Prelude.{◌*◌, ◌/◌, ◌==◌, is_some, nat_lt, cond, count_by, take, if◌then◌else◌}
use Rattle.std.proofs.Common.{◌≡◌, ℕ, zero, suc, ◌+◌, ◌-◌, ◌<◌, ◌≤◌, inl, inr, List, [], ◌∷◌, ◌++◌, length, length-append, Bool, true, false, refl, sym, ap, ◌∙◌, subst, arith, Option, Some, None}
use Rattle.std.proofs.lemmas.List.Sums.{sum_by-take-le}
use Rattle.idem_cell.specs.section_lines.specs.small_lemmas.proofs.Numbers.{tested_less}
use Rattle.idem_cell.specs.section_lines.proofs.Counts.{counted_to}
use Rattle.idem_cell.specs.machine_states.specs.body_terms.specs.declared.micro.Micro.{Micro}
use Rattle.idem_cell.specs.machine_states.specs.body_terms.specs.declared.micro.Micro.TheVariants as micros
use Rattle.idem_cell.specs.machine_states.specs.body_terms.specs.declared.step.Step.{Step}
use Rattle.idem_cell.specs.machine_states.specs.body_terms.specs.Line.{line, is_end, is_commit}
use Rattle.idem_cell.specs.machine_states.specs.body_terms.specs.Line as lines
use Rattle.idem_cell.specs.machine_states.specs.body_terms.specs.Run.{written_once}
use Rattle.idem_cell.specs.machine_states.specs.body_terms.specs.Word.{value_of}
use Rattle.idem_cell.specs.machine_states.specs.body_terms.proofs.LineLemmas.{take_all}
use Rattle.idem_cell.specs.machine_states.specs.table_words.specs.Limits.{IsWithinLimits}
use Rattle.idem_cell.specs.machine_states.specs.table_words.specs.Places.{part_words, block_words}
use Rattle.idem_cell.specs.machine_states.specs.table_words.specs.declared.layout.Layout.{Layout}
use Rattle.idem_cell.specs.machine_states.specs.structure_laws.specs.Meaning.{Meaning}
use Rattle.idem_cell.specs.machine_states.specs.structure_laws.specs.Laws.{Laws}
use Rattle.idem_cell.specs.machine_states.specs.epoch_core.specs.Lists.{times}
use Rattle.idem_cell.specs.machine_states.specs.body_terms.specs.block_words.specs.Blocks.{blocks_for}
use Rattle.idem_cell.specs.machine_states.specs.runner_parts.specs.declared.event.EventKind.{EventKind}
use Rattle.idem_cell.specs.machine_states.specs.runner_parts.specs.declared.event.EventKind.TheVariants as kinds
use Rattle.idem_cell.specs.machine_states.specs.runner_parts.specs.State.{RunState, BlocksState, PartState}
use Rattle.idem_cell.specs.machine_states.specs.runner_parts.specs.Lists.{block_back, blocks_retired}
use Rattle.idem_cell.specs.machine_states.specs.runner_steps.specs.Outside.{blocks_from}
use Rattle.idem_cell.specs.machine_states.specs.runner_steps.specs.Blocks.{block_in_hand, blocks_after}
use Rattle.idem_cell.specs.machine_states.specs.runner_steps.specs.Sections.{thunk_of, line_of, is_open_run, next_of, commits_to, is_beyond, needs_link}
use Rattle.idem_cell.specs.machine_states.specs.runner_steps.specs.AfterInRun as inside
use Rattle.idem_cell.specs.machine_states.specs.Sight.{Sight, sight, part_or_first}
use Rattle.nested_lock.specs.machine_facts.specs.machine_invariant.specs.After.{AreAllowed}
use Rattle.nested_lock.specs.machine_facts.specs.machine_invariant.specs.LogWords.{LogWordsSay}
use Rattle.nested_lock.specs.machine_facts.specs.machine_invariant.specs.Whole.{Beside, IsWhole}
use Rattle.nested_lock.specs.machine_facts.specs.machine_invariant.proofs.After.{reached_whole, log_words_after}
use Rattle.idem_alloc.specs.commit_log.specs.next_steps.specs.Steps.{slot_in, next_block, link_kind}
use Rattle.idem_alloc.specs.commit_log.specs.next_steps.specs.Stages.{run_behind, run_linked, blocks_behind}
use Rattle.idem_alloc.specs.commit_log.specs.next_steps.proofs.Stocks.{without_length, free_once}
use Rattle.idem_alloc.specs.commit_log.specs.version_words.specs.RunnerState.{RunnerState}
use Rattle.idem_alloc.specs.commit_log.specs.version_words.specs.TableState.{TableState, IsOf}
use Rattle.idem_alloc.specs.commit_log.specs.Runs.{IsRunning, Stepped, LinkStepped, Moved, Ran}
use Rattle.idem_alloc.specs.commit_log.specs.Links.{with_links}
use Rattle.idem_alloc.specs.commit_log.proofs.Running.{committed, run_same, chain_stays, trail_grows, line_linked, link_one, goes_behind, moved_running}
use Rattle.section_runs.specs.Bodies.{body_words, body_blocks}
use Rattle.section_runs.specs.Opened.{opening}
use Rattle.section_runs.specs.Ended.{BlocksRan}
use Rattle.section_runs.proofs.Staying.{run_open, moved_own}

-- no line commits more words than its body agrees on
words_most : (body : List Step) (i : ℕ) → lines.committed (line body) i ≤ body_words body
words_most body i =
    let few : lines.committed (line body) i ≤ count_by is_commit (line body) = sum_by-take-le (λ (micro : Micro). cond {A = ℕ} (is_commit micro) 1 0) (line body) i in
    omega (arith, few, whole)
  where
    all : length body ≤ length body
    all = omega arith

    whole : count_by is_commit (line body) ≡ body_words body
    whole = ap (λ (steps : List Step). count_by is_commit (line steps)) (sym (take_all body (length body) all)) ∙ counted_to body (length body) all

-- of the free blocks with which a run began, those are free still that it didn't link itself and doesn't have in its hand
record Uses (start now : BlocksState) (q : RunState) : Type 0 where
  limbo : now.limbo ≡ start.limbo
  free : length start.free ≤ length now.free + (length q.won + (if is_some q.block then 1 else 0))
  won : length q.won ≤ length q.links

-- a step by which the run links a block
module _ (m : Meaning) (l : Layout) (start : BlocksState) (p : PartState) (q : RunState) (found : ℕ) (opened : is_open_run q ≡ true) (needs : needs_link q (next_of m q) ≡ true)
    (once : (b : ℕ) → times b p.blocks.free ≤ 1) (has : Uses start p.blocks q) where
  abbrev kind_by : Bool → EventKind
  kind_by b = if b then kinds.PrivateStore (blocks_from m l + slot_in (next_block p q)) q.emptied 0 else kinds.LinkCommit (slot_in q.block)

  abbrev agreed : List ℕ
  agreed = value_of (written_once found (slot_in q.block + 1) - 1) ∷ []

  abbrev linked_by : Bool → RunState
  linked_by c = record q { links = q.links ++ agreed; block = None; emptied = 0; won = (if c then q.won ++ slot_in q.block ∷ [] else q.won) }

  abbrev run_by : Bool → RunState
  run_by true = inside.block_emptied (slot_in (next_block p q)) q
  run_by false = linked_by (found == 0)

  run_is : (b : Bool) → (if b then Some (inside.block_emptied (slot_in (next_block p q)) q) else (inside.link_committed (slot_in q.block) p q found).run) ≡ Some (run_by b)
  run_is true = refl
  run_is false = refl

  one_held : (o : Option ℕ) → (if is_some o then 1 else 0) ≤ 1
  one_held None = omega arith
  one_held (Some c) = omega arith

  -- it comes out of the free list into the hand
  taken : (b : ℕ) (o : Option ℕ) → q.block ≡ o → Uses start (block_in_hand p.blocks b o) (run_by true)
  taken b None none = record {
    limbo = has.limbo;
    free = let f = has.free in let h = ap {B = ℕ} (λ (o : Option ℕ). if is_some o then 1 else 0) none in let all = without_length p.blocks.free b in let one = once b in omega (arith, f, h, all, one);
    won = has.won;
  }
  taken b (Some c) some = record {
    limbo = has.limbo;
    free = let f = has.free in let h = one_held q.block in omega (arith, f, h);
    won = has.won;
  }

  -- the run has linked it, or it is free again
  linked : (c : Bool) → Uses start (if c then p.blocks else block_back p.blocks (slot_in q.block)) (linked_by c)
  linked true = record {
    limbo = has.limbo;
    free = let f = has.free in let h = one_held q.block in let w = length-append q.won (slot_in q.block ∷ []) in omega (arith, f, h, w);
    won = let w = has.won in let a = length-append q.won (slot_in q.block ∷ []) in let b = length-append q.links agreed in omega (arith, w, a, b);
  }
  linked false = record {
    limbo = has.limbo;
    free = let f = has.free in let h = one_held q.block in let b = length-append p.blocks.free (slot_in q.block ∷ []) in omega (arith, f, h, b);
    won = let w = has.won in let b = length-append q.links agreed in omega (arith, w, b);
  }

  uses_by : (b : Bool) → Uses start (blocks_after m l (kind_by b) p (Some q) found) (run_by b)
  uses_by true =
      let block : ℕ = blocks_from m l + slot_in (next_block p q) - blocks_from m l in
      subst (λ (xs : BlocksState). Uses start xs (run_by true))
      (sym (ap (λ b. if b then (if needs_link q (next_of m q) then block_in_hand p.blocks block q.block else p.blocks) else p.blocks) opened
      ∙ ap (λ b. if b then block_in_hand p.blocks block q.block else p.blocks) needs))
      (taken block q.block refl)
  uses_by false =
      subst (λ (xs : BlocksState). Uses start xs (run_by false))
      (sym (ap (λ b. if b then (if found == 0 then p.blocks else block_back p.blocks (slot_in q.block)) else p.blocks) opened))
      (linked (found == 0))

  link_uses : (p' : PartState) → p'.blocks ≡ blocks_after m l (link_kind m l p q) p (Some q) found
      → (q' : RunState) → run_linked p q found ≡ Some q' → Uses start p'.blocks q'
  link_uses p' blocks q' is =
      let less = nat_lt q.emptied block_words in
      subst (λ (z : RunState). Uses start p'.blocks z) (run_same (run_by less) q' (sym (run_is less) ∙ is))
      (subst (λ (xs : BlocksState). Uses start xs (run_by less)) (sym blocks) (uses_by less))

-- a step of the line leaves the blocks where they are, but the last one
module _ (m : Meaning) (l : Layout) (p : PartState) (q : RunState) (found : ℕ) where
  blocks_stay : (micro : Micro) (after : RunState) → run_behind m l p q micro found ≡ Some after → blocks_behind m p q micro ≡ p.blocks
  blocks_stay (micros.Release place word) after e = by (is_end (next_of m (inside.ended_more q))) e
    where
      by : (b : Bool) → (if b then None else Some (inside.ended_more q)) ≡ Some after → (if b then blocks_retired p.blocks q.won q.descriptor else p.blocks) ≡ p.blocks
      by true e = absurd (let z = e in cc)
      by false e = refl
  blocks_stay _ after e = refl

-- the words that a run has agreed on need as many blocks as it knows, with the word that it commits next
abbrev reach : Meaning → RunState → ℕ
reach m q = length q.trail + committed (next_of m q)

reaches_on : (links links' trail trail' c c' : ℕ) → links ≤ blocks_for (trail + c) → links' ≡ links → trail' ≡ trail + c → links' ≤ blocks_for (trail' + c')
reaches_on links links' trail trail' c c' old same more = omega (arith, old, same, more)

reaches_link : (links links' trail trail' c : ℕ) → links < trail / part_words → links' ≤ links + 1 → trail' ≡ trail → 1 ≤ c → links' ≤ blocks_for (trail' + c)
reaches_link links links' trail trail' c due one same commits = omega (arith, due, one, same, commits)

-- so it is with a runner in this run
pub record Stands {T : Type 0} (m : Meaning) (start : BlocksState) (r : RunnerState T) (q : RunState) : Type 0 where
  uses : Uses start r.part.blocks q
  few : length q.links ≤ blocks_for (reach m q)

-- as it begins
pub stands_first : {T : Type 0} (m : Meaning) (r : RunnerState T) (d : ℕ) (words : List ℕ) → Stands m r.part.blocks r (opening d words)
stands_first m r d words = record { uses = record { limbo = refl; free = omega arith; won = omega arith }; few = omega arith }

module _ {T : Type 0} (m : Meaning) (laws : Laws m) (t : TableState T) (limits : IsWithinLimits t.layout) (allowed : AreAllowed t.requests) (start : BlocksState) where
  module _ (r : RunnerState T) (own : IsOf t r) (q : RunState) (is : IsRunning m r q) where
    abbrev within : IsWithinLimits r.layout
    within = subst IsWithinLimits (sym own.layout) limits

    abbrev requests : AreAllowed r.requests
    requests = subst AreAllowed (sym own.requests) allowed

    abbrev s : Sight
    s = sight m r.layout r.requests is.inside.world

    abbrev Known : Type 0
    Known = (g : Beside) × IsWhole m r.layout g s

    whole : Known
    whole = reached_whole m laws r.layout r.requests is.inside.reached.events is.inside.world within requests is.inside.reached.after

    here : s.part r.number ≡ r.part
    here = ap part_or_first is.inside.own

    runs : (s.part r.number).run ≡ Some q
    runs = ap (λ (y : PartState). y.run) here ∙ is.inside.running

    once : (b : ℕ) → times b r.part.blocks.free ≤ 1
    once b = subst (λ (y : PartState). times b y.blocks.free ≤ 1) here (free_once m r.layout whole.0 s whole.1 r.number b)

    -- a run that isn't to link a block has none in its hand
    empty : needs_link q (next_of m q) ≡ false → q.block ≡ None
    empty near = by q.block refl
      where
        by : (o : Option ℕ) → q.block ≡ o → o ≡ None
        by None none = refl
        by (Some b) some = absurd (let due = (whole.1.logs.guards.hand r.number b q runs some).linking in let both = sym due ∙ near in cc)

    -- and has agreed on no more words than its body does
    agreed_few : length q.trail ≤ body_words (m.body (thunk_of q.opened))
    agreed_few =
        let say : LogWordsSay m r.layout s = log_words_after m laws r.layout r.requests is.inside.reached.events is.inside.world within requests is.inside.reached.after in
        let count = say.agreed r.number q runs is.opened in
        let most = words_most (m.body (thunk_of q.opened)) q.at in omega (arith, count, most)

  module _ (a b : RunnerState T) (own : IsOf t a) (q : RunState) (found : ℕ) (old : Stands m start a q) (behind : RunState) (running : IsRunning m b behind) where
    step_stands : (micro : Micro) → Stepped m q micro found a b → Stands m start b behind
    step_stands micro step =
        let e : run_behind m a.layout a.part q micro found ≡ Some behind = sym step.behind.run ∙ running.inside.running in
        let chain = chain_stays m a.layout a.part q found micro behind e in
        let words = trail_grows m a.layout a.part q found micro behind e in
        let far : length q.links ≤ blocks_for (length q.trail + committed micro) = subst (λ (x : Micro). length q.links ≤ blocks_for (length q.trail + committed x)) step.next old.few in
        let u = old.uses in
        record {
          uses = subst (λ (y : RunState). Uses start b.part.blocks y) chain
              (subst (λ (xs : BlocksState). Uses start xs (with_links behind q)) (sym (step.behind.blocks ∙ blocks_stay m a.layout a.part q found micro behind e))
              (record { limbo = u.limbo; free = u.free; won = u.won }));
          few = reaches_on (length q.links) (length behind.links) (length q.trail) (length behind.trail) (committed micro) (committed (next_of m behind)) far
              (ap (λ (y : RunState). length y.links) (sym chain)) words;
        }

    link_stands : LinkStepped m q found a b → Stands m start b behind
    link_stands step =
        let is : run_linked a.part q found ≡ Some behind = sym step.behind.run ∙ running.inside.running in
        let line = line_linked a.part q found behind is in
        record {
          uses = link_uses m a.layout start a.part q found (run_open m laws t limits allowed a own q step.running) step.due (once a own q step.running) old.uses b.part step.behind.blocks behind is;
          few = far line (link_one a.part q found behind is) (commits_to (next_of m q)) refl;
        }
      where
        far : behind ≡ with_links q behind → length behind.links ≤ length q.links + 1 → (o : Option ℕ) → commits_to (next_of m q) ≡ o → length behind.links ≤ blocks_for (reach m behind)
        far line one None none = absurd (let near = ap (is_beyond q) none in let both = sym step.due ∙ near in cc)
        far line one (Some k) some =
            let due : length q.links < length q.trail / part_words = tested_less (length q.links) (length q.trail / part_words)
            (sym (ap (λ (n : ℕ). is_beyond q (Some n)) (goes_behind m laws t limits allowed a own q step.running (next_of m q) refl k some)) ∙ (sym (ap (is_beyond q) some) ∙ step.due)) in
            let commits : committed (next_of m behind) ≡ 1 = ap (λ (y : RunState). committed (next_of m y)) line ∙ ap {B = ℕ} (λ (o : Option ℕ). if is_some o then 1 else 0) some in
            reaches_link (length q.links) (length behind.links) (length q.trail) (length behind.trail) (committed (next_of m behind)) due one (ap (λ (y : RunState). length y.trail) line) (omega (arith, commits))

    moved_stands : Moved m q found a b → Stands m start b behind
    moved_stands (inl step) = step_stands step.0 step.1
    moved_stands (inr step) = link_stands step

  pub ran_stands : (n : ℕ) (a b : RunnerState T) → IsOf t a → Ran m n a b → (q : RunState) → IsRunning m b q → ((p : RunState) → IsRunning m a p → Stands m start a p) → Stands m start b q
  ran_stands zero a b own same q is of = subst (λ (y : RunnerState T). Stands m start y q) (sym same) (of q (subst (λ (y : RunnerState T). IsRunning m y q) same is))
  ran_stands (suc n) a b own ran q is of =
      let r = ran.0 in let p = ran.1 in
      ran_stands n r b (moved_own m laws t limits allowed a r own p ran.2 ran.3) ran.4 q is
      (λ behind running. moved_stands a r own p ran.2 (of p (moved_running m p ran.2 a r ran.3)) behind running ran.3)

  -- with the last release those that it linked go into limbo
  module _ (last new : RunnerState T) (own : IsOf t last) (q : RunState) (place word found : ℕ) (step : Stepped m q (micros.Release place word) found last new)
      (over : is_end (next_of m (inside.ended_more q)) ≡ true) (stands : Stands m start last q) where
    pub last_blocks : BlocksRan (body_blocks (m.body (thunk_of q.opened))) q.descriptor start new.part.blocks
    last_blocks =
        let near : needs_link q (next_of m q) ≡ false = ap (needs_link q) step.next ∙ step.linked in
        let none = ap {B = ℕ} (λ (o : Option ℕ). if is_some o then 1 else 0) (empty last own q step.running near) in
        let words = agreed_few last own q step.running in
        let u = stands.uses in let w = u.won in let f = u.free in
        let far : length q.links ≤ blocks_for (length q.trail + 0) = subst (λ (x : Micro). length q.links ≤ blocks_for (length q.trail + committed x)) step.next stands.few in
        subst (BlocksRan (body_blocks (m.body (thunk_of q.opened))) q.descriptor start)
        (sym (step.behind.blocks ∙ ap (λ b. if b then blocks_retired last.part.blocks q.won q.descriptor else last.part.blocks) over))
        (record {
          won = q.won;
          few = most (length q.won) (length q.links) (length q.trail) (body_words (m.body (thunk_of q.opened))) w far words;
          free = omega (arith, f, none);
          limbo = ap (λ xs. (blocks_retired (record start { limbo = xs }) q.won q.descriptor).limbo) u.limbo;
        })
      where
        most : (won links trail words : ℕ) → won ≤ links → links ≤ blocks_for (trail + 0) → trail ≤ words → won ≤ blocks_for words
        most won links trail words one two three = omega (arith, one, two, three)
