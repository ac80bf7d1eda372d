use Rattle.std.proofs.Common.{◌≡◌, ℕ, true, refl, sym, subst, arith}
use Rattle.std.proofs.lemmas.Bool.Decides.{nat_tests}
use Rattle.direct_table.specs.map_history.specs.Replay.{Pairs}
use Rattle.body_terms.specs.Word.{value_of, is_free}
use Rattle.table_words.specs.declared.spot.Spot.TheVariants.{Cell}
use Rattle.direct_table.specs.direct_laws.specs.Direct.{direct}
use Rattle.direct_table.specs.declared.table.DirectTable.{DirectTable}
use Rattle.threaded_runs.specs.closed_words.specs.version_words.specs.TableState.{word_of}
use Rattle.direct_table.specs.try_lock.specs.Contents.{StandFor, NamesNone}
use Rattle.direct_tests.proofs.runs.pairs_of.Goals as goal

pub contents-requires-clause-stand : goal.contents-requires-clause-stand
contents-requires-clause-stand c =
    let w = c.args.words.now in
    let m = direct w.structure.base w.structure.keys in
    let history = c.closed_words_have_a_history.ensures in
    let stands : StandFor m w history.pairs = record { cells = λ p. word_of m w (Cell p); same = λ p within. refl; stands = (history.settled c.requires.free).cells } in
    subst (λ (s : DirectTable). (x : Pairs) × StandFor (direct s.base s.keys) w x) (sym c.structure.ensures) (history.pairs, stands)

pub contents-requires-clause-closed : goal.contents-requires-clause-closed
contents-requires-clause-closed c =
    let w = c.args.words.now in
    subst (λ (s : DirectTable). NamesNone (direct s.base s.keys) w) (sym c.structure.ensures) (λ place lock within. free_word (word_of (direct w.structure.base w.structure.keys) w (Cell place)) (c.requires.free place lock))
  where
    free_word : (word : ℕ) → value_of word ≡ 0 → is_free word ≡ true
    free_word word is = grind (arith, nat_tests)
