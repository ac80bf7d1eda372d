-- A Make's commit.
use Rattle.std.proofs.Common.{◌≡◌, ℕ, ◌+◌, ◌-◌, ◌*◌, ◌≤◌, List, length, Bool, true, false, refl, sym, ap, ◌∙◌, cond, arith, Option, Some, None}
use Rattle.std.specs.Prelude.{◌==◌, is_some, slice_index, if◌then◌else◌}
use Rattle.std.proofs.lemmas.Bool.Decides.{nat_tests}
use Rattle.runner_steps.specs.body_terms.specs.declared.step.Step.TheVariants.{Make}
use Rattle.runner_steps.specs.body_terms.specs.declared.micro.Micro.TheVariants.{MakeCommit}
use Rattle.runner_steps.specs.body_terms.specs.Line.{line, begins, micro_at, registers_before}
use Rattle.runner_steps.specs.body_terms.specs.Run.{written_once}
use Rattle.runner_steps.specs.body_terms.proofs.LineLemmas.{micro_within}
use Rattle.runner_steps.specs.table_words.specs.declared.access.Access.TheVariants.{Exchanges}
use Rattle.runner_steps.specs.table_words.specs.Limits.{IsWithinLimits}
use Rattle.section_lines.specs.structure_laws.specs.Meaning.{Meaning}
use Rattle.section_lines.specs.structure_laws.specs.Laws.{Laws}
use Rattle.runner_steps.specs.runner_parts.specs.declared.event.EventKind.TheVariants as kinds
use Rattle.runner_steps.specs.runner_parts.specs.State.{RunState, NodesState}
use Rattle.runner_steps.specs.runner_parts.specs.Lists.{slot_taken, slot_made, slot_back}
use Rattle.runner_steps.specs.block_words.specs.Blocks.{log_spot, blocks_for}
use Rattle.runner_steps.specs.InRun.{last_of}
use Rattle.runner_steps.specs.Sections.{thunk_of, line_of, next_of, commits_to, needs_link}
use Rattle.runner_steps.specs.AfterInRun.{agrees}
use Rattle.commit_log.specs.version_words.specs.machine_invariant.specs.After.{AreAllowed}
use Rattle.commit_log.specs.next_steps.specs.Steps.{slot_in}
use Rattle.commit_log.specs.next_steps.specs.Stages.{unfilled}
use Rattle.commit_log.specs.version_words.specs.RunnerState.{RunnerState}
use Rattle.commit_log.specs.version_words.specs.TableState.{TableState, IsOf}
use Rattle.commit_log.specs.version_words.specs.Events.{met_by, Makes}
use Rattle.commit_log.specs.version_words.specs.Place.{next_log, KnowsPart}
use Rattle.commit_log.specs.Runs.{Stepped}
use Rattle.commit_log.specs.Links.{link_cost, links_cost, MayLink, HasLinked}
use Rattle.commit_log.specs.next_steps.specs.Steps.{stock}
use Rattle.commit_log.proofs.Running.{may_make, goes_behind, unneeded, knows_part, then_made}
use Rattle.commit_log.proofs.Linking.{linked_ahead}
use Rattle.commit_log.proofs.Next.{next_here}
use Rattle.idem_alloc.specs.Made.{MayMake, IsFilling, HasMade}

-- the last of a list that isn't empty
pub last_is : (xs : List ℕ) → 1 ≤ length xs → last_of xs ≡ Some (slice_index xs (length xs - 1))
last_is xs some = let e : (length xs == 0) ≡ false = grind (arith, nat_tests, some) in ap (λ b. if b then None else Some (slice_index xs (length xs - 1))) e

-- what the commit found
abbrev pub made_word : Bool → ℕ → ℕ
made_word first agreed = if first then 0 else agreed + 1

agreed_is : (first : Bool) (agreed slot : ℕ) → (first ≡ true → agreed ≡ slot) → written_once (made_word first agreed) (slot + 1) ≡ agreed + 1
agreed_is true agreed slot own = ap (λ n. n + 1) (sym (own refl))
agreed_is false agreed slot own = let e : (agreed + 1 == 0) ≡ false = grind (arith, nat_tests) in ap (λ b. cond b (slot + 1) (agreed + 1)) e

made_nodes : (first : Bool) (agreed slot : ℕ) (n : NodesState) (worn : Bool)
    → (if made_word first agreed == 0 then slot_made n slot else slot_back n slot worn) ≡ (if first then slot_made n slot else slot_back n slot worn)
made_nodes true agreed slot n worn = refl
made_nodes false agreed slot n worn = let e : (agreed + 1 == 0) ≡ false = grind (arith, nat_tests) in ap (λ b. if b then slot_made n slot else slot_back n slot worn) e

module _ {T : Type 0} (m : Meaning) (laws : Laws m) (t : TableState T) (limits : IsWithinLimits t.layout) (allowed : AreAllowed t.requests) (old : RunnerState T) (values : List ℕ) (q : RunState) (may : MayMake m old values q) (slot : ℕ) (free : last_of old.part.nodes.free ≡ Some slot)
    (full : RunnerState T) (own : IsOf t full) (filled : IsFilling m slot 5 old full q) where
  abbrev log : ℕ
  log = (registers_before (m.body (thunk_of q.opened)) may.next.step).count

  abbrev p : RunState
  p = filled.behind

  there : micro_at (line_of m p) p.at ≡ MakeCommit log
  there = (λ i. micro_at (line (m.body (thunk_of (filled.opened i)))) p.at)
      ∙ (ap (micro_at (line_of m q)) (let a = filled.at in let b = may.next.at in let z : p.at ≡ begins (m.body (thunk_of q.opened)) may.next.step + 10 = omega (arith, a, b) in z)
      ∙ micro_within (m.body (thunk_of q.opened)) may.next.step 10 (Make may.init may.next.into) may.next.makes (omega arith))

  ahead : next_of m p ≡ MakeCommit log
  ahead = next_here m p (MakeCommit log) there refl

  -- its links cost what they did before
  pub same_cost : links_cost 1 p ≡ links_cost 1 q
  same_cost = (λ i. link_cost * (blocks_for (length (filled.trail i) + 1) - length (filled.links i)))

  -- it has a block for its word where one is to be linked
  pub may_link : MayLink m full p
  may_link = record {
    running = filled.running;
    commits = ap commits_to ahead ∙ ap (λ (n : ℕ). Some n) (goes_behind m laws t limits allowed full own p filled.running (MakeCommit log) ahead log refl);
    room = (let had = may.room in
        let words = ap (λ (xs : List ℕ). blocks_for (length xs + 1)) filled.trail in
        let stocks : stock full.part p ≡ stock old.part q = (λ i. length (filled.links i) + (if is_some (filled.block i) then 1 else 0) + length (filled.blocks i).free) in
        omega (arith, had, words, stocks));
  }

  -- and behind the link
  module _ (linked : RunnerState T) (own' : IsOf t linked) (between : RunState) (links : HasLinked m full linked p between) where
    on : next_of m between ≡ MakeCommit log
    on = linked_ahead m full linked p between links (MakeCommit log) ahead

    unlinked : needs_link between (MakeCommit log) ≡ false
    unlinked = unneeded m laws t limits allowed linked own' between links.running (MakeCommit log) on links.linked

    slot_same : slot_in between.made ≡ slot
    slot_same = ap (λ (y : RunState). slot_in y.made) links.line ∙ ap slot_in filled.made

    pub may_commit : met_by m linked kinds.MakeCommit ≡ Some (next_log linked.part.run, Exchanges 0 (slot + 1))
    may_commit = may_make m laws t limits allowed linked own' between links.running (MakeCommit log) on unlinked refl
        ∙ ((λ i. Some (log_spot between.descriptor between.links (goes_behind m laws t limits allowed linked own' between links.running (MakeCommit log) on log refl i), Exchanges 0 (slot_same i + 1)))
        ∙ ap (λ (o : Option RunState). Some (next_log o, Exchanges 0 (slot + 1))) (sym links.running.inside.running))

    pub knows : KnowsPart linked.part.run
    knows = knows_part m linked between links.running links.linked

    pub commits : (first : Bool) (agreed : ℕ) (new : RunnerState T) → Makes m kinds.MakeCommit (made_word first agreed) linked new → Stepped m between (MakeCommit log) (made_word first agreed) linked new
    commits first agreed new made = then_made m laws t limits allowed linked own' between links.running (MakeCommit log) on unlinked refl (made_word first agreed) new made

    pub has_made : (first : Bool) (agreed : ℕ) (new : RunnerState T) → (first ≡ true → agreed ≡ slot) → Stepped m between (MakeCommit log) (made_word first agreed) linked new → HasMade m agreed old new q
    has_made first agreed new mine commit =
        let nodes : linked.part.nodes ≡ slot_taken old.part.nodes slot = links.same.nodes ∙ filled.nodes in
        let worn : between.worn ≡ p.worn = ap (λ (y : RunState). y.worn) links.line in
        let word : written_once (made_word first agreed) (slot_in between.made + 1) ≡ agreed + 1 = ap (λ n. written_once (made_word first agreed) (n + 1)) slot_same ∙ agreed_is first agreed slot mine in
        record {
          slot = slot;
          free = free;
          log = log;
          first = first;
          full = full;
          filled = filled;
          between = between;
          linked = linked;
          links = links;
          commit = commit;
          own = mine;
          nodes = commit.behind.nodes ∙ ((λ i. if made_word first agreed == 0 then slot_made (nodes i) (slot_same i) else slot_back (nodes i) (slot_same i) (worn i))
              ∙ made_nodes first agreed slot (slot_taken old.part.nodes slot) p.worn);
          goes_on = commit.goes_on (agrees m full.layout (unfilled between) (agreed + 1)) (commit.behind.run
              ∙ (λ i. Some (agrees m (links.same.layout i) (unfilled between) (word i))));
        }
