use Rattle.std.specs.Prelude.{◌/◌, ◌%◌, ◌-◌}
use Rattle.std.proofs.Common.{◌≡◌, ℕ, suc, ◌<◌, sym, ap, ◌∙◌, arith}
use Rattle.machine_states.specs.table_words.specs.declared.spot.Spot.{Spot}
use Rattle.machine_states.specs.table_words.specs.declared.spot.Spot.TheVariants.{LinkWord}
use Rattle.machine_states.specs.table_words.specs.Places.{part_words}
use Rattle.machine_states.specs.table_words.specs.Seen.{seen}
use Rattle.machine_states.specs.body_terms.specs.block_words.specs.Blocks.{most_blocks}
use Rattle.interleave_core.specs.Logs.{word_behind, link_after}
use Rattle.interleave_core.proofs.Logs.{block_word}
use Rattle.interleave_core.proofs.log_words.log_word.Goals as goal

pub returns : goal.returns
returns c =
    let word : Spot → ℕ = seen c.args.sizes c.args.words.now in
    let d = c.args.descriptor in
    let k = c.args.index in
    let some = c.if-part-eq0.false in
    let most = c.if-part-gt-MOST_BLOCKS.false in
    let stop = c.loop-before-test.false in
    let end = c.loop-before.auto._before-end in
    let last : c.loop-before._before ≡ k / part_words - 1 = omega (arith, stop, end) in
    let part : k / part_words ≡ suc (k / part_words - 1) = omega (arith, some) in
    let low : k / part_words - 1 < most_blocks = omega (arith, some, most) in
    c.word_behind.ensures
    ∙ (ap (λ (x : ℕ). word_behind word x (k % part_words)) (c.loop-before.invariant ∙ ap (λ (i : ℕ). link_after word i (word (LinkWord d))) last)
    ∙ sym (block_word word d k (k / part_words - 1) part low))
