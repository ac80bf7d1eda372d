-- How many blocks a section's log has at most.
use Rattle.std.specs.Prelude.{◌/◌, true, false}
use Rattle.std.proofs.Common.{◌≡◌, ℕ, ◌<◌, ◌≤◌, length, refl, sym, ap, ◌∙◌, arith, Option, Some, None}
use Rattle.machine_states.specs.map_history.specs.declared.op.Request.{Request}
use Rattle.std.proofs.Common.{List}
use Rattle.machine_states.specs.body_terms.specs.declared.micro.Micro.{Micro}
use Rattle.machine_states.specs.body_terms.specs.declared.micro.Micro.TheVariants.{Commit, NestedCommit, OutcomeCommit, MakeCommit, RetireCommit}
use Rattle.machine_states.specs.table_words.specs.declared.layout.Layout.{Layout}
use Rattle.machine_states.specs.table_words.specs.declared.spot.Spot.{Spot}
use Rattle.machine_states.specs.table_words.specs.declared.access.Access.{Access}
use Rattle.machine_states.specs.table_words.specs.Places.{part_words}
use Rattle.machine_states.specs.structure_laws.specs.Meaning.{Meaning}
use Rattle.machine_states.specs.runner_parts.specs.declared.event.EventKind.TheVariants as kinds
use Rattle.machine_states.specs.runner_parts.specs.State.{RunState}
use Rattle.machine_states.specs.runner_steps.specs.Asks.{asks}
use Rattle.machine_states.specs.runner_steps.specs.Sections.{next_of, commits_to, is_beyond}
use Rattle.machine_states.specs.guard_core.specs.State.{most_linked}
use Rattle.machine_states.specs.Sight.{Sight}
use Rattle.machine_states.proofs.Sights.{some_none}
use Rattle.machine_blocks.specs.machine_guards.specs.machine_agreement.specs.machine_epochs.proofs.RunPlaces.{is_of_end, next_in_line, open_run}
use Rattle.machine_blocks.proofs.Finding.{link_is, linked_few, link_opened}
use Rattle.machine_invariant.specs.Whole.{Beside, IsWhole}
use Rattle.machine_invariant.proofs.LogWords.{word_few}

-- a log of at most sixty words has no more blocks than may be linked; so it is with parts of seven words too
part_few : (k : ℕ) → k < 60 → k / part_words ≤ most_linked
part_few k low = omega (arith, low)

-- a step that commits a word is none of a run's end
pub commit_inner : (micro : Micro) (k : ℕ) → commits_to micro ≡ Some k → is_of_end micro ≡ false
commit_inner (Commit place log) k e = refl
commit_inner (NestedCommit place log) k e = refl
commit_inner (OutcomeCommit place log) k e = refl
commit_inner (MakeCommit log) k e = refl
commit_inner (RetireCommit slot log) k e = refl
commit_inner _ k e = some_none k e

module _ (m : Meaning) (l : Layout) (rs : List Request) (g : Beside) (s : Sight) (whole : IsWhole m l g s) (r b : ℕ) (x : Spot × Access)
    (asked : asks m l rs r (kinds.LinkCommit b) (s.part r) ≡ Some x) (q : RunState) (at : (s.part r).run ≡ Some q) where
  -- a link that wins has fewer before it
  pub link_few : s.word x.0 ≡ 0 → length (whole.logs.chain q.descriptor) < most_linked
  link_few won = by (commits_to (next_of m q)) refl
    where
      beyond : is_beyond q (commits_to (next_of m q)) ≡ true
      beyond = (link_is m l rs whole.logs.chain g.agreement g.epochs s whole.slots whole.logs.stands r b x asked q at).needs

      by : (o : Option ℕ) → commits_to (next_of m q) ≡ o → length (whole.logs.chain q.descriptor) < most_linked
      by None none = absurd (let no : false ≡ true = sym (ap (is_beyond q) none) ∙ beyond in cc)
      by (Some k) commits =
          let opened = open_run q (link_opened m l rs whole.logs.chain g.agreement g.epochs s whole.slots whole.logs.stands r b x asked q at) in
          let here = next_in_line m q (next_of m q) (commit_inner (next_of m q) k commits) refl in
          let less = linked_few m l rs whole.logs.chain g.agreement g.epochs s whole.slots whole.logs.stands r b x asked q at k commits won in
          let most = part_few k (word_few m l g s whole r q at opened q.at k (ap commits_to here ∙ commits)) in omega (arith, less, most)
