use Rattle.std.proofs.Common.{◌≡◌, ℕ, ◌≤◌, List, length, take, slice_set, Bool, ◌∷◌, [], ◌++◌, true, false, refl, arith, sym, ap, ◌∙◌}
use Rattle.std.proofs.lemmas.List.{take_all, take_more_set, length-set}
use Rattle.std.specs.Prelude.{◌==◌, not, if◌then◌else◌}
use Rattle.nested_lock.proofs.Reading.{index_last}
use Rattle.idem_cell.specs.machine_states.specs.runner_steps.specs.Sections.{thunk_of}
use Rattle.idem_alloc.specs.commit_log.proofs.Asked.{asked_more}
use Rattle.section_runs.proofs.Opening.{may_end, opens_last, then_opened}
use Rattle.section_runs.proofs.opens.open.Goals as goal

pub load_done-runner-requires-clause-next : goal.load_done-runner-requires-clause-next
load_done-runner-requires-clause-next g c κs within =
    let met = g.met.S.Structure g.world.𝓛 g.world.𝓜 g.world.𝓡 ((λ s allowed. allowed), (λ patient. patient), (λ alone. alone), (λ cuts. cuts)) in
    may_end (g.S.Structure.meaning c.args.table.now.structure) (met.laws c.args.table.now.structure) c.args.table.now (c.requires.own.limits _ refl)
    (c.requires.own.allowed _ refl) c.args.runner c.args.descriptor c.requires.next 12 _ c.load_words-runner.result.0 c.load_words-runner.ensures.own (c.load_words-runner.ensures.opening c.if-not-going.false) refl

pub returns-then-not-passes-clause-halted : goal.returns-then-not-passes-clause-halted
returns-then-not-passes-clause-halted g c =
    let met = g.met.S.Structure g.world.𝓛 g.world.𝓜 g.world.𝓡 ((λ s allowed. allowed), (λ patient. patient), (λ alone. alone), (λ cuts. cuts)) in
    let more = opens_last (g.S.Structure.meaning c.args.table.now.structure) (met.laws c.args.table.now.structure) c.args.table.now (c.requires.own.limits _ refl)
    (c.requires.own.allowed _ refl) c.args.runner c.args.descriptor c.requires.next 12 _ c.load_words-runner.result.0 c.load_words-runner.ensures.own (c.load_words-runner.ensures.opening c.if-not-going.false) refl
    _ _ c.load_done-runner.ensures.event in
    record {
      made = 13;
      some = omega arith;
      few = omega arith;
      words = _;
      opening = more;
      asked = asked_more 12 1 false _ _ _ _ _ _ _ _ _ (c.load_words-runner.ensures.asked c.if-not-going.false) c.if-not-passes.ensures;
    }

pub returns-clause-asked : goal.returns-clause-asked
returns-clause-asked g c = asked_more 12 1 true _ _ _ _ _ _ _ _ _ (c.load_words-runner.ensures.asked c.if-not-going.false) c.if-not-passes.ensures

-- thirteen words, of which the last was written over
all_of : (xs : List ℕ) (n : ℕ) → length xs ≡ 13 → slice_set xs 12 n ≡ take 12 xs ++ n ∷ []
all_of xs n e = let all : length (slice_set xs 12 n) ≤ 13 = (let same = length-set xs 12 n in omega (arith, same, e)) in sym (take_all 13 (slice_set xs 12 n) all) ∙ take_more_set xs 12 n (omega (arith, e))

-- a truth value as a number
not_zero : (b : Bool) → not ((if b then 1 else 0) == 0) ≡ b
not_zero true = refl
not_zero false = refl

pub returns-clause-opened : goal.returns-clause-opened
returns-clause-opened g c =
    let met = g.met.S.Structure g.world.𝓛 g.world.𝓜 g.world.𝓡 ((λ s allowed. allowed), (λ patient. patient), (λ alone. alone), (λ cuts. cuts)) in
    let opening = c.load_words-runner.ensures.opening c.if-not-going.false in
    then_opened (g.S.Structure.meaning c.args.table.now.structure) (met.laws c.args.table.now.structure) c.args.table.now (c.requires.own.limits _ refl)
    (c.requires.own.allowed _ refl) c.args.runner c.args.descriptor c.requires.next 12 _ c.load_words-runner.result.0 c.load_words-runner.ensures.own opening refl
    _ _ c.load_done-runner.ensures.event _ _
    (c.thunk_from-thunk.ensures ∙ ap thunk_of (all_of c.load_words-runner.new.words c.done_word.result c.load_words-runner.ensures.room ∙ ap (λ n. take 12 c.load_words-runner.new.words ++ n ∷ []) c.done_word.ensures))
    (sym (ap (λ n. not (n == 0)) (index_last _ _ 12 (sym opening.count)) ∙ not_zero c.load_done-runner.result.1))
