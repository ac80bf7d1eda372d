-- How many runners and node slots there are, and how many pairs.
use Rattle.std.proofs.Common.{◌≡◌, ℕ, ◌*◌, ◌≤◌, true, List, Option, None, Some, IfSome, length, refl, sym, ap, ◌∙◌, arith}
use Rattle.std.specs.FinMap.{entries, len, len-entries}
use Rattle.std.proofs.Math.Nat.{div-le_self}
use Rattle.std.proofs.lemmas.Nat.{mul-le}
use Rattle.std.proofs.lemmas.Bool.Decides.{nat_tests}
use Rattle.machine_states.specs.map_history.specs.Replay.{Pairs}
use Rattle.machine_states.specs.body_terms.specs.Word.{value_of, is_free}
use Rattle.machine_states.specs.table_words.specs.declared.spot.Spot.TheVariants.{Cell}
use Rattle.machine_states.specs.structure_laws.specs.Meaning.{Meaning}
use Rattle.version_words.specs.TableState.{WordsState, word_of}
use Rattle.threaded_runs.specs.closed_words.specs.Histories.{HoldsNoLock}
use Rattle.hash_table.specs.try_lock.specs.Contents.{StandFor, NamesNone}
use Rattle.load_counts.specs.run_reports.specs.Reports.{HaveContents}
use Rattle.command_line.specs.Options.{runners_by, nodes_by, AreInRange}
use Rattle.command_line.specs.declared.options.RunOptions.{RunOptions}

runners_few : (given : Option ℕ) (traces : ℕ) → IfSome given (λ runners. (1 ≤ runners) × (runners ≤ 16)) → (1 ≤ runners_by given traces) × (runners_by given traces ≤ 16)
runners_few None traces range = (omega arith, omega arith)
runners_few (Some runners) traces range = range

nodes_few : (given : Option ℕ) (inserts runners : ℕ) → IfSome given (λ nodes. nodes ≤ 262144) → nodes_by given inserts runners ≤ 262144
nodes_few None inserts runners range = let share = div-le_self 262144 runners in omega (arith, share)
nodes_few (Some nodes) inserts runners range = range

-- so these numbers are within their bounds
pub bounds : (options : RunOptions) → AreInRange options → (runners traces nodes inserts : ℕ) → runners ≡ runners_by options.runners traces
    → nodes ≡ nodes_by options.nodes inserts runners → (1 ≤ runners) × (runners ≤ 16) × (nodes ≤ 262144)
bounds options ranges runners traces nodes inserts runners_are nodes_are =
    let few = runners_few options.runners traces ranges.runners in
    let slots = nodes_few options.nodes inserts runners ranges.nodes in
    (omega (arith, runners_are, few.0), omega (arith, runners_are, few.1), omega (arith, nodes_are, slots))

pub few_slots : (nodes runners : ℕ) → nodes ≤ 262144 → runners ≤ 16 → nodes * runners ≤ 4194304
few_slots nodes runners slots few = let product = mul-le nodes runners 262144 16 slots few in omega (arith, product)

-- what `contents` asks for
pub stand_for : {T : Type 0} (m : Meaning) (w : WordsState T) (pairs : Pairs) → HaveContents m w pairs → StandFor m w pairs
stand_for m w pairs stands = record { cells = λ p. word_of m w (Cell p); same = λ place has. refl; stands = stands }

free_word : (word : ℕ) → value_of word ≡ 0 → is_free word ≡ true
free_word word is = grind (arith, nat_tests)

pub names_none : {T : Type 0} (m : Meaning) (w : WordsState T) → HoldsNoLock m w → NamesNone m w
names_none m w free place lock has = free_word (word_of m w (Cell place)) (free place lock)

-- and what it gives
pub counted : (pairs : Pairs) (items : List (ℕ × ℕ)) (count : ℕ) → items ≡ entries pairs → count ≡ length items → count ≡ len pairs
counted pairs items count are is = is ∙ ap length are ∙ sym (len-entries pairs)
