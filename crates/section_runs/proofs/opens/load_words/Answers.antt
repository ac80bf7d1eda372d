use Rattle.std.proofs.Common.{◌≡◌, ℕ, suc, ◌+◌, List, [], ◌∷◌, ◌++◌, take, true, false, arith, subst, sym, refl}
use Rattle.std.proofs.lemmas.List.{take_more_set}
use Rattle.idem_alloc.specs.commit_log.proofs.Asked.{asked_more, asked_as}
use Rattle.section_runs.specs.Opened.{IsOpening}
use Rattle.section_runs.proofs.Apart.{asked_apart}
use Rattle.section_runs.proofs.Opening.{opened_so_far, may_load, opens_more}
use Rattle.section_runs.proofs.opens.load_words.Goals as goal

pub load_thunk-opened-requires-clause-next : goal.load_thunk-opened-requires-clause-next
load_thunk-opened-requires-clause-next g c κs within =
    let met = g.met.S.Structure g.world.𝓛 g.world.𝓜 g.world.𝓡 ((λ s allowed. allowed), (λ patient. patient), (λ alone. alone), (λ cuts. cuts)) in
    may_load (g.S.Structure.meaning c.args.table.now.structure) (met.laws c.args.table.now.structure) c.args.table.now (c.requires.own.limits _ refl)
    (c.requires.own.allowed _ refl) c.args.runner c.args.descriptor c.requires.next c.loop-index.index _ c.loop-index.runner c.loop-index.invariant.own c.loop-index.invariant.opening c.loop-index-test.true

pub load_thunk-opened-requires-clause-index : goal.load_thunk-opened-requires-clause-index
load_thunk-opened-requires-clause-index g c κs within =
    let met = g.met.S.Structure g.world.𝓛 g.world.𝓜 g.world.𝓡 ((λ s allowed. allowed), (λ patient. patient), (λ alone. alone), (λ cuts. cuts)) in
    opened_so_far (g.S.Structure.meaning c.args.table.now.structure) (met.laws c.args.table.now.structure) c.args.table.now (c.requires.own.limits _ refl)
    (c.requires.own.allowed _ refl) c.args.runner c.args.descriptor c.requires.next c.loop-index.index _ c.loop-index.runner c.loop-index.invariant.own c.loop-index.invariant.opening

pub returns-then-not-passes-clause-halted : goal.returns-then-not-passes-clause-halted
returns-then-not-passes-clause-halted g c = λ _.
    let met = g.met.S.Structure g.world.𝓛 g.world.𝓜 g.world.𝓡 ((λ s allowed. allowed), (λ patient. patient), (λ alone. alone), (λ cuts. cuts)) in
    let more = opens_more (g.S.Structure.meaning c.args.table.now.structure) (met.laws c.args.table.now.structure) c.args.table.now (c.requires.own.limits _ refl)
    (c.requires.own.allowed _ refl) c.args.runner c.args.descriptor c.requires.next c.loop-index.index _ c.loop-index.runner c.loop-index.invariant.own c.loop-index.invariant.opening c.loop-index-test.true
    _ _ c.load_thunk-opened.ensures.event in
    record {
      made = suc c.loop-index.index;
      some = omega arith;
      few = let low = c.loop-index-test.true in omega (arith, low);
      words = _;
      opening = more;
      asked = asked_apart _ false _ _ _ _ _ _ _ _ c.loop-index.invariant.uncounted c.add_up.ensures.fits (asked_as _ _ (let e : c.loop-index.index + 1 ≡ suc c.loop-index.index = omega arith in e) false _ _ _ _ _ _
          (asked_more c.loop-index.index 1 false _ _ _ _ _ _ _ _ _ c.loop-index.invariant.asked c.if-not-passes.ensures)) c.add_up.ensures.added;
    }

pub loop-index-preserved : goal.loop-index-preserved
loop-index-preserved g c =
    let met = g.met.S.Structure g.world.𝓛 g.world.𝓜 g.world.𝓡 ((λ s allowed. allowed), (λ patient. patient), (λ alone. alone), (λ cuts. cuts)) in
    let m = g.S.Structure.meaning c.args.table.now.structure in
    let more = opens_more m (met.laws c.args.table.now.structure) c.args.table.now (c.requires.own.limits _ refl)
    (c.requires.own.allowed _ refl) c.args.runner c.args.descriptor c.requires.next c.loop-index.index _ c.loop-index.runner c.loop-index.invariant.own c.loop-index.invariant.opening c.loop-index-test.true
    _ _ c.load_thunk-opened.ensures.event in
    let next : suc c.loop-index.index ≡ c.loop-index.index + 1 = omega arith in
    record {
      own = c.load_thunk-opened.ensures.own;
      opening = subst (λ (xs : List ℕ). IsOpening m (c.loop-index.index + 1) c.args.descriptor xs c.args.runner c.load_thunk-opened.result.0) (sym (take_more_set c.loop-index.words c.loop-index.index c.load_thunk-opened.result.1 (let low = c.loop-index-test.true in let all = c.loop-index.auto.words in let room = c.requires.room in omega (arith, low, all, room))))
          (subst (λ n. IsOpening m n c.args.descriptor (take c.loop-index.index c.loop-index.words ++ c.load_thunk-opened.result.1 ∷ []) c.args.runner c.load_thunk-opened.result.0) next more);
      uncounted = c.loop-index.invariant.uncounted;
      asked = asked_more c.loop-index.index 1 true _ _ _ _ _ _ _ _ _ c.loop-index.invariant.asked c.if-not-passes.ensures;
    }

pub returns-clause-opening : goal.returns-clause-opening
returns-clause-opening g c = λ _.
    let few = c.loop-index.auto.index-end in
    let behind = c.loop-index-test.false in
    let last : c.loop-index.index ≡ 12 = omega (arith, few, behind) in
    subst (λ n. IsOpening (g.S.Structure.meaning c.args.table.now.structure) n c.args.descriptor (take n c.loop-index.words) c.args.runner c.loop-index.runner) last
    c.loop-index.invariant.opening

pub returns-clause-asked : goal.returns-clause-asked
returns-clause-asked g c = λ _.
    let few = c.loop-index.auto.index-end in
    let behind = c.loop-index-test.false in
    let last : c.loop-index.index ≡ 12 = omega (arith, few, behind) in
    asked_apart _ true _ _ _ _ _ _ _ _ c.loop-index.invariant.uncounted c.add_up-2.ensures.fits (asked_as _ _ last true _ _ _ _ _ _ c.loop-index.invariant.asked) c.add_up-2.ensures.added
