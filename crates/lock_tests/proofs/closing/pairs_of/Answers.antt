use Rattle.std.proofs.Common.{refl, sym, subst}
use Rattle.machine_states.specs.map_history.specs.Replay.{Pairs}
use Rattle.machine_states.specs.table_words.specs.declared.spot.Spot.TheVariants.{Cell}
use Rattle.settled_tables.specs.closed_words.specs.version_words.specs.TableState.{word_of}
use Rattle.hash_table.specs.try_lock.specs.Contents.{StandFor}
use Rattle.settled_tables.specs.closed_words.specs.Histories.{HoldsNoLock}
use Rattle.lock_tests.proofs.closing.pairs_of.Goals as goal

pub contents-requires-clause-stand : goal.contents-requires-clause-stand
contents-requires-clause-stand g c =
    let w = c.args.words.now in
    let m = g.S.Structure.meaning w.structure in
    let history = c.closed_words_have_a_history.ensures in
    let none : HoldsNoLock m w = c.if-not-is_unlocked.ensures refl in
    let stands : StandFor m w history.pairs = record { cells = λ p. word_of m w (Cell p); same = λ p within. refl; stands = (history.settled none).cells } in
    subst (λ s. (x : Pairs) × StandFor (g.S.Structure.meaning s) w x) (sym c.structure.ensures) (history.pairs, stands)
