-- What a runner's code keeps of its blocks behind the steps that change them.
use Rattle.std.proofs.Common.{◌≡◌, ℕ, ◌+◌, ◌-◌, ◌*◌, [], ◌∷◌, ◌++◌, length, length-append, Bool, true, false, refl, sym, ap, subst, ◌∙◌, arith, List, Option, Some, None, if◌then◌else◌}
use Rattle.std.specs.Prelude.{◌==◌, ◌&&◌, ◌<◌, ◌≤◌, ◌^◌, nat_lt, not, slice_index, cond}
use Rattle.std.proofs.lemmas.Option.{none-some}
use Rattle.std.proofs.lemmas.Bool.Decides.{nat_tests}
use Rattle.std.proofs.lemmas.List.{append-nil}
use Rattle.std.proofs.Math.Seq.{get_or-append_seam}
use Rattle.machine_states.specs.body_terms.specs.declared.thunk.Thunk.{Thunk}
use Rattle.machine_states.specs.body_terms.specs.Word.{value_of, is_free}
use Rattle.machine_states.specs.body_terms.specs.Run.{written_once}
use Rattle.machine_states.specs.table_words.specs.declared.layout.Layout.{Layout}
use Rattle.machine_states.specs.table_words.specs.declared.spot.Spot.{Spot}
use Rattle.machine_states.specs.table_words.specs.declared.access.Access.{Access}
use Rattle.machine_states.specs.table_words.specs.Places.{part_words, block_words}
use Rattle.machine_states.specs.structure_laws.specs.Meaning.{Meaning}
use Rattle.machine_states.specs.body_terms.specs.Line.{is_end}
use Rattle.machine_states.specs.guard_core.specs.Moves.{is_unnamed}
use Rattle.machine_states.specs.runner_parts.specs.declared.event.EventKind.{EventKind}
use Rattle.machine_states.specs.runner_parts.specs.declared.event.EventKind.TheVariants as kinds
use Rattle.machine_states.specs.runner_parts.specs.declared.entries.Waiting.{Waiting}
use Rattle.machine_states.specs.runner_parts.specs.State.{RunState, GuardsState, PartState, BlocksState}
use Rattle.machine_states.specs.runner_parts.specs.Lists.{published_seen, names_guarded, blocks_given_back, blocks_freed, blocks_seen, block_back, blocks_retired, cell_read, descriptor_taken}
use Rattle.machine_states.specs.runner_steps.specs.Sections.{is_open_run, next_of, needs_link}
use Rattle.machine_states.specs.runner_steps.specs.InRun.{last_of}
use Rattle.machine_states.specs.runner_steps.specs.Outside.{blocks_from}
use Rattle.machine_states.specs.runner_steps.specs.Guards.{is_last_guard}
use Rattle.machine_states.specs.runner_steps.specs.AfterInRun.{ended_more, opened_more, filled, run_over, with_run, place_of}
use Rattle.machine_states.specs.runner_steps.specs.AfterInRun as runs
use Rattle.machine_states.specs.runner_steps.specs.AfterOutside.{published_by}
use Rattle.machine_states.specs.runner_steps.specs.After.{line_after, after_by, after}
use Rattle.machine_states.specs.runner_steps.specs.Blocks.{block_in_hand, blocks_in_line, blocks_after}
use Rattle.runner_block.specs.Kept.{KeptState, with_blocks, with_named, given_back_if, freed_if}
use Rattle.runner_block.specs.Links.{BlocksKept, LinksKept, block_emptied, block_linked, links_over}
use Rattle.version_words.specs.Place.{AreLinks, HasLinks}
use Rattle.version_words.specs.Kept.{KeepsBlocks}
use Rattle.version_words.proofs.BlocksKept.{named, log_stays, run_links, links_on}

-- the part after an exchange that published a section, and after one that lost
abbrev pub part_won : Thunk → ℕ → ℕ → PartState → PartState
part_won t d found p = record p {
  published = Some (published_by t d p);
  descriptors = descriptor_taken p.descriptors d;
  guards = published_seen p.guards d;
  reads = cell_read p.reads t.lock found;
}

abbrev pub part_lost : Thunk → ℕ → PartState → PartState
part_lost t found p = record p { reads = cell_read p.reads t.lock found }

seen_named : (b : Bool) (g : GuardsState) (d : ℕ) → (if b then published_seen g d else g).named ≡ g.named
seen_named true g d = refl
seen_named false g d = refl

-- the last of a list that one more number ends
ends_with : (xs : List ℕ) (x : ℕ) → last_of (xs ++ x ∷ []) ≡ Some x
ends_with xs x = by (length (xs ++ x ∷ []) == 0) refl
  where
    len : length (xs ++ x ∷ []) ≡ length xs + 1
    len = length-append xs (x ∷ [])

    by : (b : Bool) → length (xs ++ x ∷ []) == 0 ≡ b → (if b then None else Some (slice_index (xs ++ x ∷ []) (length (xs ++ x ∷ []) - 1))) ≡ Some x
    by true e = absurd (let none : length (xs ++ x ∷ []) ≡ 0 = grind (arith, nat_tests, e) in omega (arith, len, none))
    by false e = ap Some (ap (λ n. slice_index (xs ++ x ∷ []) n) (let at : length (xs ++ x ∷ []) - 1 ≡ length xs = omega (arith, len) in at) ∙ get_or-append_seam xs x [] 0)

module _ (m : Meaning) (l : Layout) (r : ℕ) (spot : Spot) (access : Access) (p : PartState) (found : ℕ) (kept : KeptState) (was : KeepsBlocks kept p) where
  abbrev behind : EventKind → PartState
  behind k = after m l r k spot access p found

  -- in no run
  module _ (none : p.run ≡ None) where
    links_none : (links : LinksKept) (k : EventKind) → links ≡ kept.blocks.links → (after_by m l k p None found).run ≡ p.run → HasLinks links (behind k).run
    links_none links k same stays =
        let runs : (behind k).run ≡ p.run = ap (λ (o : Option RunState). (after_by m l k p o found).run) none ∙ stays in
        subst (λ (o : Option RunState). HasLinks links o) (sym runs) (subst (λ (z : LinksKept). HasLinks z p.run) (sym same) was.links)

    -- the guard word moved
    pub guarded : (d : Option ℕ) → KeepsBlocks (with_named kept d) (behind (kinds.Guard d))
    guarded d = record {
      lists = was.lists ∙ sym (ap (λ (o : Option RunState). blocks_after m l (kinds.Guard d) p o found) none);
      named = sym (ap (λ (o : Option RunState). named (after_by m l (kinds.Guard d) p o found)) none);
      links = links_none kept.blocks.links (kinds.Guard d) refl refl;
    }

    given_lists : (b : Bool) (d : ℕ) → (given_back_if b d kept.blocks).lists ≡ (if b then blocks_given_back d p.blocks else p.blocks)
    given_lists true d = ap (blocks_given_back d) was.lists
    given_lists false d = was.lists

    given_links : (b : Bool) (d : ℕ) → (given_back_if b d kept.blocks).links ≡ kept.blocks.links
    given_links true d = refl
    given_links false d = refl

    chosen_named : (b : Bool) (a a' : PartState) → named a ≡ named p → named a' ≡ named p → named (if b then a else a') ≡ named p
    chosen_named true a a' e e' = e
    chosen_named false a a' e e' = e'

    chosen_run : (b : Bool) (a a' : PartState) → a.run ≡ p.run → a'.run ≡ p.run → (if b then a else a').run ≡ p.run
    chosen_run true a a' e e' = e
    chosen_run false a a' e e' = e'

    held_named : (t : Thunk) (d : ℕ) → named (after_by m l (kinds.Hold t d) p None found) ≡ named p
    held_named t d = chosen_named (found == t.word) (part_won t d found p) (part_lost t found p) refl refl

    held_runs : (t : Thunk) (d : ℕ) → (after_by m l (kinds.Hold t d) p None found).run ≡ p.run
    held_runs t d = chosen_run (found == t.word) (part_won t d found p) (part_lost t found p) refl refl

    -- a section was to be published
    pub held : (t : Thunk) (d : ℕ) → KeepsBlocks (with_blocks kept (given_back_if (found == t.word) d kept.blocks)) (behind (kinds.Hold t d))
    held t d = record {
      lists = given_lists (found == t.word) d ∙ sym (ap (λ (o : Option RunState). blocks_after m l (kinds.Hold t d) p o found) none);
      named = was.named ∙ sym (ap (λ (o : Option RunState). named (after_by m l (kinds.Hold t d) p o found)) none ∙ held_named t d);
      links = links_none (given_back_if (found == t.word) d kept.blocks).links (kinds.Hold t d) (given_links (found == t.word) d) (held_runs t d);
    }

    freed_lists : (b : Bool) (words : List ℕ) → (freed_if b words kept.blocks).lists ≡ (if b then blocks_freed (is_unnamed words) p.blocks else p.blocks)
    freed_lists true words = ap (blocks_freed (is_unnamed words)) was.lists
    freed_lists false words = was.lists

    freed_links : (b : Bool) (words : List ℕ) → (freed_if b words kept.blocks).links ≡ kept.blocks.links
    freed_links true words = refl
    freed_links false words = refl

    -- a sweep read one more guard word
    pub swept : (n : ℕ) → KeepsBlocks (with_blocks kept (freed_if (is_last_guard l p.guards.looked) (p.guards.looked ++ found ∷ []) kept.blocks)) (behind (kinds.LoadGuard n))
    swept n = let last = is_last_guard l p.guards.looked in let words = p.guards.looked ++ found ∷ [] in record {
      lists = freed_lists last words ∙ sym (ap (λ (o : Option RunState). blocks_after m l (kinds.LoadGuard n) p o found) none);
      named = was.named ∙ sym (ap (λ (o : Option RunState). named (after_by m l (kinds.LoadGuard n) p o found)) none);
      links = links_none (freed_if last words kept.blocks).links (kinds.LoadGuard n) (freed_links last words) refl;
    }

    -- a cell was read: where it is a lock's word that names the guarded descriptor, the runner is sure of that one
    pub seen : (place : ℕ) (b : BlocksKept) → b.links ≡ kept.blocks.links → b.lists ≡ blocks_seen p.guards (m.is_lock place) found p.blocks → KeepsBlocks (with_blocks kept b) (behind (kinds.LoadCell (Some place)))
    seen place b links lists = record {
      lists = lists ∙ sym (ap (λ (o : Option RunState). blocks_after m l (kinds.LoadCell (Some place)) p o found) none);
      named = was.named ∙ sym (ap (λ (o : Option RunState). named (after_by m l (kinds.LoadCell (Some place)) p o found)) none ∙ seen_named (m.is_lock place && not (is_free found)) p.guards (value_of found - 1));
      links = links_none b.links (kinds.LoadCell (Some place)) links refl;
    }

    -- a word of an own free descriptor or block was stored
    pub stored_outside : (slot word number : ℕ) → KeepsBlocks kept (behind (kinds.PrivateStore slot word number))
    stored_outside slot word number = record {
      lists = was.lists ∙ sym (ap (λ (o : Option RunState). blocks_after m l (kinds.PrivateStore slot word number) p o found) none);
      named = was.named ∙ sym (ap (λ (o : Option RunState). named (after_by m l (kinds.PrivateStore slot word number) p o found)) none);
      links = links_none kept.blocks.links (kinds.PrivateStore slot word number) refl refl;
    }

  -- in a run that is open
  module _ (q : RunState) (there : p.run ≡ Some q) (ready : is_open_run q ≡ true) where
    is : AreLinks kept.blocks.links q
    is = was.links.of_run q there

    line_blocks : (k : EventKind) → (behind k).blocks ≡ blocks_in_line m l k p.blocks q (next_of m q) found
    line_blocks k = ap (λ (o : Option RunState). blocks_after m l k p o found) there ∙ ap (λ (b : Bool). if b then blocks_in_line m l k p.blocks q (next_of m q) found else p.blocks) ready

    line_part : {A : Type 0} (f : PartState → A) (k : EventKind) → f (after_by m l k p p.run found) ≡ f (line_after m l k p q (next_of m q) found)
    line_part f k = ap (λ (o : Option RunState). f (after_by m l k p o found)) there ∙ ap (λ (b : Bool). f (if b then line_after m l k p q (next_of m q) found else opened_more p q found)) ready

    -- with these blocks, lists and links
    line_keeps : (k : EventKind) (b : BlocksKept) → b.lists ≡ blocks_in_line m l k p.blocks q (next_of m q) found → named (line_after m l k p q (next_of m q) found) ≡ named p
        → HasLinks b.links (line_after m l k p q (next_of m q) found).run → KeepsBlocks (with_blocks kept b) (behind k)
    line_keeps k b lists same links = record {
      lists = lists ∙ sym (line_blocks k);
      named = was.named ∙ sym (line_part named k ∙ same);
      links = subst (HasLinks b.links) (sym (line_part (λ (y : PartState). y.run) k)) links;
    }

    -- one more word of the block that the run is to link is 0
    pub emptied : (slot word number block : ℕ) → needs_link q (next_of m q) ≡ true → slot - blocks_from m l ≡ block → KeepsBlocks (with_blocks kept (block_emptied kept.blocks block)) (behind (kinds.PrivateStore slot word number))
    emptied slot word number block needs at = line_keeps (kinds.PrivateStore slot word number) (block_emptied kept.blocks block)
        ((λ i. block_in_hand (was.lists i) block (is.block i))
        ∙ (ap (λ n. block_in_hand p.blocks n q.block) (sym at) ∙ sym (ap (λ (b : Bool). if b then block_in_hand p.blocks (slot - blocks_from m l) q.block else p.blocks) needs)))
        (ap (λ (b : Bool). named (with_run p (if b then runs.block_emptied (slot - blocks_from m l) q else filled m l number q))) needs)
        (subst (λ (y : RunState). HasLinks (block_emptied kept.blocks block).links (Some y))
        (ap (λ n. runs.block_emptied n q) (sym at) ∙ sym (ap (λ (b : Bool). if b then runs.block_emptied (slot - blocks_from m l) q else filled m l number q) needs))
        (run_links (block_emptied kept.blocks block).links (runs.block_emptied block q) (record {
          start = is.start;
          last = is.last;
          block = refl;
          emptied = ap (λ n. if nat_lt n block_words then n + 1 else n) is.emptied;
          won = is.won;
          full = is.full;
        })))

    -- a Make's store
    pub stored_inside : (slot word number : ℕ) → needs_link q (next_of m q) ≡ false → KeepsBlocks kept (behind (kinds.PrivateStore slot word number))
    stored_inside slot word number alone = line_keeps (kinds.PrivateStore slot word number) kept.blocks
        (was.lists ∙ sym (ap (λ (b : Bool). if b then block_in_hand p.blocks (slot - blocks_from m l) q.block else p.blocks) alone))
        (ap (λ (b : Bool). named (with_run p (if b then runs.block_emptied (slot - blocks_from m l) q else filled m l number q))) alone)
        (subst (λ (y : RunState). HasLinks kept.blocks.links (Some y)) (sym (ap (λ (b : Bool). if b then runs.block_emptied (slot - blocks_from m l) q else filled m l number q) alone))
        (run_links kept.blocks.links (filled m l number q) (links_on kept.blocks.links q (filled m l number q) (record { links = refl; block = refl; emptied = refl; won = refl; more = log_stays q.trail }) is)))

    -- the exchange of a link
    linked_lists : (b : Bool) (block : ℕ) → (if b then kept.blocks.lists else block_back kept.blocks.lists block) ≡ (if b then p.blocks else block_back p.blocks block)
    linked_lists true block = was.lists
    linked_lists false block = ap (λ (x : BlocksState). block_back x block) was.lists

    linked_last : (b : Bool) (block : ℕ) → found == 0 ≡ b → block + 1 < 2 ^ 32 → (if b then block else value_of (found - 1)) ≡ value_of (cond b (block + 1) found - 1)
    linked_last true block e few = grind (arith, few)
    linked_last false block e few = refl

    -- the run that has linked it
    abbrev linked_run : ℕ → RunState
    linked_run block = record q {
      links = q.links ++ value_of (written_once found (block + 1) - 1) ∷ [];
      block = None;
      emptied = 0;
      won = (if found == 0 then q.won ++ block ∷ [] else q.won);
    }

    pub linked : (block : ℕ) → block + 1 < 2 ^ 32 → part_words * length q.links + part_words ≤ length q.trail
        → KeepsBlocks (with_blocks kept (block_linked kept.blocks block found)) (behind (kinds.LinkCommit block))
    linked block few full =
        let b = block_linked kept.blocks block found in let agreed = value_of (written_once found (block + 1) - 1) in let longer = length-append q.links (agreed ∷ []) in
        line_keeps (kinds.LinkCommit block) b (linked_lists (found == 0) block) refl
        (run_links b.links (linked_run block) (record {
          start = ap (λ n. n + part_words) is.start ∙ (let e : part_words * length q.links + part_words ≡ part_words * length (q.links ++ agreed ∷ []) = omega (arith, longer) in e);
          last = ap Some (linked_last (found == 0) block refl few) ∙ sym (ends_with q.links agreed);
          block = refl;
          emptied = refl;
          won = ap (λ xs. if found == 0 then xs ++ block ∷ [] else xs) is.won;
          full = (let e : part_words * length (q.links ++ agreed ∷ []) ≤ length q.trail = omega (arith, longer, full) in e);
        }))

    abbrev read : PartState
    read = record p { reads = cell_read p.reads (place_of (next_of m q)) found }

    -- a release, with which the run is over or goes on
    pub released : (b : Bool) → is_end (next_of m (ended_more q)) ≡ b → KeepsBlocks (with_blocks kept (if b then links_over kept.blocks q.descriptor else kept.blocks)) (behind kinds.Release)
    released b last = line_keeps kinds.Release (if b then links_over kept.blocks q.descriptor else kept.blocks)
        (lists_by b ∙ sym (ap (λ (b : Bool). if b then blocks_retired p.blocks q.won q.descriptor else p.blocks) last))
        (ap (λ (b : Bool). named (if b then run_over m l read (ended_more q) else with_run read (ended_more q))) last ∙ named_by b)
        (subst (HasLinks (if b then links_over kept.blocks q.descriptor else kept.blocks).links) (sym (ap (λ (b : Bool). (if b then run_over m l read (ended_more q) else with_run read (ended_more q)).run) last)) (links_by b))
      where
        lists_by : (b : Bool) → (if b then links_over kept.blocks q.descriptor else kept.blocks).lists ≡ (if b then blocks_retired p.blocks q.won q.descriptor else p.blocks)
        lists_by true = (λ i. blocks_retired (was.lists i) (is.won i) q.descriptor)
        lists_by false = was.lists

        named_by : (b : Bool) → named (if b then run_over m l read (ended_more q) else with_run read (ended_more q)) ≡ named p
        named_by true = refl
        named_by false = refl

        links_by : (b : Bool) → HasLinks (if b then links_over kept.blocks q.descriptor else kept.blocks).links (if b then run_over m l read (ended_more q) else with_run read (ended_more q)).run
        links_by true = record { of_run = λ y e. absurd (none-some y e); outside = λ e. refl }
        links_by false = run_links kept.blocks.links (ended_more q) (links_on kept.blocks.links q (ended_more q) (record { links = refl; block = refl; emptied = refl; won = refl; more = log_stays q.trail }) is)

-- what becomes of the blocks where the runner becomes sure of a descriptor
module _ (g : GuardsState) (lock : Bool) (word : ℕ) (b : BlocksState) where
  nil : (xs : List Waiting) → length xs ≡ 0 → xs ≡ []
  nil [] e = refl
  nil (x ∷ xs) e = absurd (omega (arith, e))

  -- they stay where none is in limbo, and where the word doesn't name the guarded descriptor or is no lock's
  pub seen_none : length b.limbo ≡ 0 → blocks_seen g lock word b ≡ b
  seen_none none = by (names_guarded g lock word) b none
    where
      empty : (test : ℕ → Bool) (b : BlocksState) → length b.limbo ≡ 0 → blocks_freed test b ≡ b
      empty test b none =
          ap (λ (xs : List Waiting). blocks_freed test (record b { limbo = xs })) (nil b.limbo none)
          ∙ (ap (λ (xs : List ℕ). record { free = xs; limbo = [] }) (append-nil b.free) ∙ ap (λ (xs : List Waiting). record b { limbo = xs }) (sym (nil b.limbo none)))

      by : (t : Bool) (b : BlocksState) → length b.limbo ≡ 0 → (if t then blocks_given_back (value_of word - 1) b else b) ≡ b
      by true b none = empty (λ d. d == value_of word - 1) b none
      by false b none = refl

  pub seen_unnamed : names_guarded g lock word ≡ false → blocks_seen g lock word b ≡ b
  seen_unnamed e = ap (λ (t : Bool). if t then blocks_given_back (value_of word - 1) b else b) e

  pub seen_named_so : names_guarded g lock word ≡ true → blocks_seen g lock word b ≡ blocks_given_back (value_of word - 1) b
  seen_named_so e = ap (λ (t : Bool). if t then blocks_given_back (value_of word - 1) b else b) e
