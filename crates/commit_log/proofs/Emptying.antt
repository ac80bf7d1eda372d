-- The words of a block are made 0 one after the other, and then one exchange puts it into a link.
use Rattle.std.proofs.Common.{◌≡◌, ℕ, ◌+◌, ◌-◌, ◌≤◌, ◌<◌, [], ◌∷◌, ◌++◌, length, length-append, true, false, refl, sym, ap, subst, ◌∙◌, arith, Option, Some, None}
use Rattle.std.specs.Prelude.{◌/◌, ◌==◌, is_some, nat_lt, if◌then◌else◌}
use Rattle.section_lines.specs.small_lemmas.proofs.Numbers.{less_tested, not_less_tested}
use Rattle.machine_states.specs.body_terms.specs.Run.{written_once}
use Rattle.machine_states.specs.body_terms.specs.Word.{value_of}
use Rattle.machine_states.specs.table_words.specs.declared.layout.Layout.{Layout}
use Rattle.machine_states.specs.table_words.specs.Limits.{IsWithinLimits}
use Rattle.machine_states.specs.table_words.specs.Places.{part_words, block_words}
use Rattle.machine_states.specs.structure_laws.specs.Meaning.{Meaning}
use Rattle.machine_states.specs.structure_laws.specs.Laws.{Laws}
use Rattle.machine_states.specs.runner_parts.specs.declared.event.EventKind.{EventKind}
use Rattle.machine_states.specs.runner_parts.specs.declared.event.EventKind.TheVariants as kinds
use Rattle.machine_states.specs.runner_parts.specs.State.{RunState, PartState}
use Rattle.machine_states.specs.runner_steps.specs.Outside.{blocks_from}
use Rattle.machine_states.specs.runner_steps.specs.Sections.{next_of, commits_to, is_beyond, needs_link}
use Rattle.machine_states.specs.runner_steps.specs.InRun.{make_slot}
use Rattle.machine_states.specs.runner_steps.specs.AfterInRun.{emptied_more, block_emptied, link_committed}
use Rattle.machine_states.specs.Sight.{Sight, sight, part_or_first}
use Rattle.version_words.specs.machine_invariant.specs.After.{AreAllowed}
use Rattle.version_words.specs.machine_invariant.specs.Whole.{Beside, IsWhole}
use Rattle.version_words.specs.machine_invariant.proofs.After.{reached_whole}
use Rattle.version_words.specs.RunnerState.{RunnerState}
use Rattle.version_words.specs.TableState.{TableState, IsOf}
use Rattle.version_words.specs.Events.{IsEnabled, Makes}
use Rattle.next_steps.specs.Steps.{slot_in, next_block, link_kind, link_ask}
use Rattle.commit_log.specs.Runs.{IsRunning, LinkStepped}
use Rattle.commit_log.specs.Links.{is_due, with_links, MayLink, IsEmptying, HasLinked}
use Rattle.commit_log.proofs.Running.{may_make_link, then_made_link}
use Rattle.commit_log.proofs.Linking.{same_line, line_same, line_more}

module _ {T : Type 0} (m : Meaning) (laws : Laws m) (t : TableState T) (limits : IsWithinLimits t.layout) (allowed : AreAllowed t.requests) where
  -- what a state that the machine reaches has of a run's block
  module _ (r : RunnerState T) (own : IsOf t r) (q : RunState) (is : IsRunning m r q) where
    abbrev within : IsWithinLimits r.layout
    within = subst IsWithinLimits (sym own.layout) limits

    abbrev few : AreAllowed r.requests
    few = subst AreAllowed (sym own.requests) allowed

    abbrev s : Sight
    s = sight m r.layout r.requests is.inside.world

    abbrev Known : Type 0
    Known = (g : Beside) × IsWhole m r.layout g s

    whole : Known
    whole = reached_whole m laws r.layout r.requests is.inside.reached.events is.inside.world within few is.inside.reached.after

    here : s.part r.number ≡ r.part
    here = ap part_or_first is.inside.own

    runs : (s.part r.number).run ≡ Some q
    runs = ap (λ (y : PartState). y.run) here ∙ is.inside.running

    -- no more of its words are 0 than it has, and none where the run has none in its hand
    pub most : q.emptied ≤ block_words
    most = whole.1.logs.stands.most r.number q runs

    begun : q.block ≡ None → q.emptied ≡ 0
    begun none = whole.1.logs.stands.begun r.number q runs none

  -- a run that was to link this block, once so many of its words are 0
  module _ (a : RunnerState T) (q : RunState) (may : MayLink m a q) (due : is_due q ≡ true) (block count : ℕ) (r : RunnerState T) (own : IsOf t r) (p : RunState) (e : IsEmptying m block count a r q p) where
    commits : commits_to (next_of m p) ≡ Some (length p.trail)
    commits = ap (λ (y : RunState). commits_to (next_of m y)) e.line ∙ (may.commits ∙ ap (λ (y : RunState). Some (length y.trail)) (sym e.line))

    needs : needs_link p (next_of m p) ≡ true
    needs = ap (is_beyond p) commits ∙ (ap is_due e.line ∙ due)

    counted : p.emptied ≡ count
    counted = ap (λ (y : RunState). y.emptied) e.line

    enabled : IsEnabled m (link_kind m r.layout r.part p) r
    enabled = record {
      met = link_ask r.part p;
      asked = may_make_link m laws t limits allowed r own p e.running (next_of m p) refl needs (ap (λ (o : Option ℕ). is_some o) e.next);
    }

    -- one more of them becomes 0
    module _ (low : count < block_words) where
      less : nat_lt p.emptied block_words ≡ true
      less = ap (λ (n : ℕ). nat_lt n block_words) counted ∙ less_tested count block_words low

      store_is : link_kind m r.layout r.part p ≡ kinds.PrivateStore (blocks_from m r.layout + block) count 0
      store_is = ap (λ b. if b then kinds.PrivateStore (blocks_from m r.layout + slot_in (next_block r.part p)) p.emptied 0 else kinds.LinkCommit (slot_in p.block)) less
          ∙ (λ i. kinds.PrivateStore (blocks_from m r.layout + slot_in (e.next i)) (counted i) 0)

      pub may_empty : IsEnabled m (kinds.PrivateStore (blocks_from m t.layout + block) count 0) r
      may_empty = subst (λ (l : Layout). IsEnabled m (kinds.PrivateStore (blocks_from m l + block) count 0) r) own.layout
          (subst (λ (k : EventKind). IsEnabled m k r) store_is enabled)

      module _ (r' : RunnerState T) (made : Makes m (kinds.PrivateStore (blocks_from m t.layout + block) count 0) 0 r r') where
        pub empties : LinkStepped m p 0 r r'
        empties = then_made_link m laws t limits allowed r own p e.running (next_of m p) refl needs 0 r'
            (subst (λ (k : EventKind). Makes m k 0 r r') (sym store_is)
            (subst (λ (l : Layout). Makes m (kinds.PrivateStore (blocks_from m l + block) count 0) 0 r r') (sym own.layout) made))

        abbrev then_run : RunState
        then_run = record p { block = Some block; emptied = count + 1 }

        one_more : emptied_more p ≡ count + 1
        one_more = ap (λ b. if b then p.emptied + 1 else p.emptied) less ∙ ap (λ (n : ℕ). n + 1) counted

        runs_on : r'.part.run ≡ Some then_run
        runs_on = empties.behind.run
            ∙ (ap (λ b. if b then Some (block_emptied (slot_in (next_block r.part p)) p) else (link_committed (slot_in p.block) r.part p 0).run) less
            ∙ (λ i. Some (record p { block = Some (slot_in (e.next i)); emptied = one_more i })))

        pub emptied : (y : RunState) × IsEmptying m block (count + 1) a r' q y
        emptied = (
          then_run,
          record {
            running = empties.goes_on then_run runs_on;
            line = ap (λ (y : RunState). record y { block = Some block; emptied = count + 1 }) e.line;
            next = refl;
            blocks = let before = e.blocks in let kept = empties.behind.kept then_run runs_on in omega (arith, before, kept);
            same = line_more a r r' e.same (same_line m p 0 r r' empties);
          },
        )

    -- and the block goes into the link once all of them are
    module _ (all : count ≡ block_words) where
      held : p.block ≡ Some block
      held = by p.block refl
        where
          by : (o : Option ℕ) → p.block ≡ o → p.block ≡ Some block
          by None none = absurd (let no_word = begun r own p e.running none in let words = counted in omega (arith, no_word, words, all))
          by (Some c) some = some ∙ (sym (ap (λ (o : Option ℕ). make_slot o r.part.blocks.free) some) ∙ e.next)

      full : nat_lt p.emptied block_words ≡ false
      full = ap (λ (n : ℕ). nat_lt n block_words) (counted ∙ all) ∙ not_less_tested block_words block_words (omega arith)

      link_is : link_kind m r.layout r.part p ≡ kinds.LinkCommit block
      link_is = ap (λ b. if b then kinds.PrivateStore (blocks_from m r.layout + slot_in (next_block r.part p)) p.emptied 0 else kinds.LinkCommit (slot_in p.block)) full
          ∙ ap (λ (o : Option ℕ). kinds.LinkCommit (slot_in o)) held

      pub may_commit_link : IsEnabled m (kinds.LinkCommit block) r
      may_commit_link = subst (λ (k : EventKind). IsEnabled m k r) link_is enabled

      module _ (found : ℕ) (r' : RunnerState T) (made : Makes m (kinds.LinkCommit block) found r r') where
        pub links_block : LinkStepped m p found r r'
        links_block = then_made_link m laws t limits allowed r own p e.running (next_of m p) refl needs found r'
            (subst (λ (k : EventKind). Makes m k found r r') (sym link_is) made)

        abbrev agreed : ℕ
        agreed = value_of (written_once found (slot_in p.block + 1) - 1)

        abbrev linked_run : RunState
        linked_run = record p {
          links = p.links ++ agreed ∷ [];
          block = None;
          emptied = 0;
          won = (if found == 0 then p.won ++ slot_in p.block ∷ [] else p.won);
        }

        runs_linked : r'.part.run ≡ Some linked_run
        runs_linked = links_block.behind.run
            ∙ ap (λ b. if b then Some (block_emptied (slot_in (next_block r.part p)) p) else (link_committed (slot_in p.block) r.part p found).run) full

        longer : length (p.links ++ agreed ∷ []) ≡ length p.links + 1
        longer = length-append p.links (agreed ∷ [])

        pub has_linked : (y : RunState) × HasLinked m a r' q y
        has_linked = (
          linked_run,
          record {
            running = links_block.goes_on linked_run runs_linked;
            line = ap (λ (y : RunState). with_links y linked_run) e.line;
            linked = not_less_tested (length (p.links ++ agreed ∷ [])) (length p.trail / part_words) (let far = e.running.enough in let long = longer in omega (arith, far, long));
            links =
                let was : length p.links ≡ length q.links = ap (λ (y : RunState). length y.links) e.line in
                let one = ap {B = ℕ} (λ b. if b then 1 else 0) due in
                let long = longer in omega (arith, was, one, long);
            none = λ no. absurd (let both = sym due ∙ no in cc);
            blocks = let before = e.blocks in let kept = links_block.behind.kept linked_run runs_linked in omega (arith, before, kept);
            same = line_more a r r' e.same (same_line m p found r r' links_block);
          },
        )

-- a run that is to link this block, before its next step
pub nothing_changed : {T : Type 0} (m : Meaning) (r : RunnerState T) (q : RunState) (block first : ℕ) → MayLink m r q → next_block r.part q ≡ Some block → first ≡ q.emptied
    → IsEmptying m block first r r q q
nothing_changed m r q block first may next words = record {
  running = may.running;
  line = ap (λ (n : ℕ). record q { emptied = n }) (sym words);
  next = next;
  blocks = omega arith;
  same = line_same r;
}

-- where none is due
pub nothing_due : {T : Type 0} (m : Meaning) (r : RunnerState T) (q : RunState) → IsRunning m r q → is_due q ≡ false → HasLinked m r r q q
nothing_due m r q running none = record {
  running = running;
  line = refl;
  linked = none;
  links = let more = ap {B = ℕ} (λ b. if b then 1 else 0) none in omega (arith, more);
  none = λ _. refl;
  blocks = omega arith;
  same = line_same r;
}
