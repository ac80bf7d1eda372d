-- To which step of the body an atomic step belongs, and which of its parts it is.
use Rattle.std.proofs.Common.{◌≡◌, ℕ, zero, suc, ◌+◌, ◌*◌, ◌<◌, refl, arith}
use Rattle.std.specs.Prelude.{slice_index_or}
use Rattle.structure_laws.specs.body_terms.specs.declared.value.Init.{Init}
use Rattle.structure_laws.specs.body_terms.specs.declared.value.Value.{Value}
use Rattle.structure_laws.specs.body_terms.specs.declared.step.Step.{Step}
use Rattle.structure_laws.specs.body_terms.specs.declared.step.Step.TheVariants.{Load, Want, Fresh, Take, Make, Stamp, Store, Retire, Answer}
use Rattle.structure_laws.specs.body_terms.specs.declared.micro.Micro.{Micro}
use Rattle.structure_laws.specs.body_terms.specs.declared.micro.Micro.TheVariants.{LoadCell, Commit, CheckWord, CheckFresh, NestedLoad, NestedCommit, CheckFree, NestedHold, OutcomeLoad, OutcomeCommit, CheckHeld, PrivateLoad, PrivateStore, MakeCommit, ClockLoad, StampExchange, ClockRaise, ExchangeCell, EpochForRetire, RetireCommit, ReplyExchange, End, SetDone, Release}
use Rattle.structure_laws.specs.body_terms.specs.Line.{Registers, micros, micro_count}
use Rattle.structure_laws.specs.body_terms.specs.Shape as shape
use Rattle.section_lines.specs.Line.{phase}

-- the kind of a step, and of the step to which an atomic step belongs
abbrev pub kind : Step → ℕ
kind (Load place into) = 0
kind (Want reg word) = 1
kind (Fresh reg) = 2
kind (Take place word) = 3
kind (Make init into) = 4
kind Stamp = 5
kind (Store reg value) = 6
kind (Retire slot) = 7
kind (Answer reply) = 8

abbrev pub owner : Micro → ℕ
owner (LoadCell place log) = 0
owner (Commit place log) = 0
owner (CheckWord place log word) = 1
owner (CheckFresh place log) = 2
owner (NestedLoad place log) = 3
owner (NestedCommit place log) = 3
owner (CheckFree place log word) = 3
owner (NestedHold place word) = 3
owner (OutcomeLoad place log) = 3
owner (OutcomeCommit place log) = 3
owner (CheckHeld place log word) = 3
owner (PrivateLoad cell log) = 4
owner (PrivateStore cell log value) = 4
owner (MakeCommit log) = 4
owner ClockLoad = 5
owner StampExchange = 5
owner ClockRaise = 5
owner (ExchangeCell place log value) = 6
owner (EpochForRetire slot log) = 7
owner (RetireCommit slot log) = 7
owner (ReplyExchange reply) = 8
owner End = 9
owner SetDone = 9
owner (Release place word) = 9

-- which part of its step an atomic step is
abbrev pub part : Micro → ℕ
part (LoadCell place log) = 0
part (Commit place log) = 1
part (CheckWord place log word) = 0
part (CheckFresh place log) = 0
part (NestedLoad place log) = 0
part (NestedCommit place log) = 1
part (CheckFree place log word) = 2
part (NestedHold place word) = 3
part (OutcomeLoad place log) = 4
part (OutcomeCommit place log) = 5
part (CheckHeld place log word) = 6
part (PrivateLoad cell log) = 2 * cell
part (PrivateStore cell log value) = 1 + 2 * cell
part (MakeCommit log) = 10
part ClockLoad = 0
part StampExchange = 1
part ClockRaise = 2
part (ExchangeCell place log value) = 0
part (EpochForRetire slot log) = 0
part (RetireCommit slot log) = 1
part (ReplyExchange reply) = 0
part End = 0
part SetDone = 0
part (Release place word) = 0

-- what an atomic step of a step is
pub record IsPart (step : Step) (n : ℕ) (micro : Micro) : Type 0 where
  pub owns : owner micro ≡ kind step
  pub is : part micro ≡ n
  pub in_phase : phase micro ≡ shape.phase step

-- part n of a step
abbrev pub part_of : Registers → Step → ℕ → Micro
part_of g step n = slice_index_or (micros g step) n End

there : {step : Step} {n : ℕ} {micro : Micro} → owner micro ≡ kind step → part micro ≡ n → phase micro ≡ shape.phase step → IsPart step n micro
there owns is in_phase = record { owns = owns; is = is; in_phase = in_phase }

load_part : (g : Registers) (place into n : ℕ) → n < 2 → IsPart (Load place into) n (part_of g (Load place into) n)
load_part g place into zero within = there refl refl refl
load_part g place into (suc zero) within = there refl refl refl
load_part g place into (suc (suc n)) within = absurd (omega arith)

take_part : (g : Registers) (place word n : ℕ) → n < 7 → IsPart (Take place word) n (part_of g (Take place word) n)
take_part g place word zero within = there refl refl refl
take_part g place word (suc zero) within = there refl refl refl
take_part g place word (suc (suc zero)) within = there refl refl refl
take_part g place word (suc (suc (suc zero))) within = there refl refl refl
take_part g place word (suc (suc (suc (suc zero)))) within = there refl refl refl
take_part g place word (suc (suc (suc (suc (suc zero))))) within = there refl refl refl
take_part g place word (suc (suc (suc (suc (suc (suc zero)))))) within = there refl refl refl
take_part g place word (suc (suc (suc (suc (suc (suc (suc n))))))) within = absurd (omega arith)

make_part : (g : Registers) (init : Init) (into n : ℕ) → n < 11 → IsPart (Make init into) n (part_of g (Make init into) n)
make_part g init into zero within = there refl refl refl
make_part g init into (suc zero) within = there refl refl refl
make_part g init into (suc (suc zero)) within = there refl refl refl
make_part g init into (suc (suc (suc zero))) within = there refl refl refl
make_part g init into (suc (suc (suc (suc zero)))) within = there refl refl refl
make_part g init into (suc (suc (suc (suc (suc zero))))) within = there refl refl refl
make_part g init into (suc (suc (suc (suc (suc (suc zero)))))) within = there refl refl refl
make_part g init into (suc (suc (suc (suc (suc (suc (suc zero))))))) within = there refl refl refl
make_part g init into (suc (suc (suc (suc (suc (suc (suc (suc zero)))))))) within = there refl refl refl
make_part g init into (suc (suc (suc (suc (suc (suc (suc (suc (suc zero))))))))) within = there refl refl refl
make_part g init into (suc (suc (suc (suc (suc (suc (suc (suc (suc (suc zero)))))))))) within = there refl refl refl
make_part g init into (suc (suc (suc (suc (suc (suc (suc (suc (suc (suc (suc n))))))))))) within = absurd (omega arith)

stamp_part : (g : Registers) (n : ℕ) → n < 3 → IsPart Stamp n (part_of g Stamp n)
stamp_part g zero within = there refl refl refl
stamp_part g (suc zero) within = there refl refl refl
stamp_part g (suc (suc zero)) within = there refl refl refl
stamp_part g (suc (suc (suc n))) within = absurd (omega arith)

retire_part : (g : Registers) (slot n : ℕ) → n < 2 → IsPart (Retire slot) n (part_of g (Retire slot) n)
retire_part g slot zero within = there refl refl refl
retire_part g slot (suc zero) within = there refl refl refl
retire_part g slot (suc (suc n)) within = absurd (omega arith)

-- each atomic step of a step is that step's part
pub is_part : (g : Registers) (step : Step) (n : ℕ) → n < micro_count step → IsPart step n (part_of g step n)
is_part g (Load place into) n within = load_part g place into n within
is_part g (Want reg word) zero within = there refl refl refl
is_part g (Want reg word) (suc n) within = absurd (omega arith)
is_part g (Fresh reg) zero within = there refl refl refl
is_part g (Fresh reg) (suc n) within = absurd (omega arith)
is_part g (Take place word) n within = take_part g place word n within
is_part g (Make init into) n within = make_part g init into n within
is_part g Stamp n within = stamp_part g n within
is_part g (Store reg value) zero within = there refl refl refl
is_part g (Store reg value) (suc n) within = absurd (omega arith)
is_part g (Retire slot) n within = retire_part g slot n within
is_part g (Answer reply) zero within = there refl refl refl
is_part g (Answer reply) (suc n) within = absurd (omega arith)

-- the step of each kind
pub is_load : (step : Step) → kind step ≡ 0 → (place into : ℕ) × (step ≡ Load place into)
is_load (Load place into) k = (place, into, refl)
is_load (Want reg word) k = absurd (omega arith)
is_load (Fresh reg) k = absurd (omega arith)
is_load (Take place word) k = absurd (omega arith)
is_load (Make init into) k = absurd (omega arith)
is_load Stamp k = absurd (omega arith)
is_load (Store reg value) k = absurd (omega arith)
is_load (Retire slot) k = absurd (omega arith)
is_load (Answer reply) k = absurd (omega arith)

pub is_want : (step : Step) → kind step ≡ 1 → (reg word : ℕ) × (step ≡ Want reg word)
is_want (Load place into) k = absurd (omega arith)
is_want (Want reg word) k = (reg, word, refl)
is_want (Fresh reg) k = absurd (omega arith)
is_want (Take place word) k = absurd (omega arith)
is_want (Make init into) k = absurd (omega arith)
is_want Stamp k = absurd (omega arith)
is_want (Store reg value) k = absurd (omega arith)
is_want (Retire slot) k = absurd (omega arith)
is_want (Answer reply) k = absurd (omega arith)

pub is_fresh : (step : Step) → kind step ≡ 2 → (reg : ℕ) × (step ≡ Fresh reg)
is_fresh (Load place into) k = absurd (omega arith)
is_fresh (Want reg word) k = absurd (omega arith)
is_fresh (Fresh reg) k = (reg, refl)
is_fresh (Take place word) k = absurd (omega arith)
is_fresh (Make init into) k = absurd (omega arith)
is_fresh Stamp k = absurd (omega arith)
is_fresh (Store reg value) k = absurd (omega arith)
is_fresh (Retire slot) k = absurd (omega arith)
is_fresh (Answer reply) k = absurd (omega arith)

pub is_take : (step : Step) → kind step ≡ 3 → (place word : ℕ) × (step ≡ Take place word)
is_take (Load place into) k = absurd (omega arith)
is_take (Want reg word) k = absurd (omega arith)
is_take (Fresh reg) k = absurd (omega arith)
is_take (Take place word) k = (place, word, refl)
is_take (Make init into) k = absurd (omega arith)
is_take Stamp k = absurd (omega arith)
is_take (Store reg value) k = absurd (omega arith)
is_take (Retire slot) k = absurd (omega arith)
is_take (Answer reply) k = absurd (omega arith)

pub is_make : (step : Step) → kind step ≡ 4 → (init : Init) × (into : ℕ) × (step ≡ Make init into)
is_make (Load place into) k = absurd (omega arith)
is_make (Want reg word) k = absurd (omega arith)
is_make (Fresh reg) k = absurd (omega arith)
is_make (Take place word) k = absurd (omega arith)
is_make (Make init into) k = (init, into, refl)
is_make Stamp k = absurd (omega arith)
is_make (Store reg value) k = absurd (omega arith)
is_make (Retire slot) k = absurd (omega arith)
is_make (Answer reply) k = absurd (omega arith)

pub is_stamp : (step : Step) → kind step ≡ 5 → step ≡ Stamp
is_stamp (Load place into) k = absurd (omega arith)
is_stamp (Want reg word) k = absurd (omega arith)
is_stamp (Fresh reg) k = absurd (omega arith)
is_stamp (Take place word) k = absurd (omega arith)
is_stamp (Make init into) k = absurd (omega arith)
is_stamp Stamp k = refl
is_stamp (Store reg value) k = absurd (omega arith)
is_stamp (Retire slot) k = absurd (omega arith)
is_stamp (Answer reply) k = absurd (omega arith)

pub is_store : (step : Step) → kind step ≡ 6 → (reg : ℕ) × (value : Value) × (step ≡ Store reg value)
is_store (Load place into) k = absurd (omega arith)
is_store (Want reg word) k = absurd (omega arith)
is_store (Fresh reg) k = absurd (omega arith)
is_store (Take place word) k = absurd (omega arith)
is_store (Make init into) k = absurd (omega arith)
is_store Stamp k = absurd (omega arith)
is_store (Store reg value) k = (reg, value, refl)
is_store (Retire slot) k = absurd (omega arith)
is_store (Answer reply) k = absurd (omega arith)

pub is_retire : (step : Step) → kind step ≡ 7 → (slot : ℕ) × (step ≡ Retire slot)
is_retire (Load place into) k = absurd (omega arith)
is_retire (Want reg word) k = absurd (omega arith)
is_retire (Fresh reg) k = absurd (omega arith)
is_retire (Take place word) k = absurd (omega arith)
is_retire (Make init into) k = absurd (omega arith)
is_retire Stamp k = absurd (omega arith)
is_retire (Store reg value) k = absurd (omega arith)
is_retire (Retire slot) k = (slot, refl)
is_retire (Answer reply) k = absurd (omega arith)

pub is_answer : (step : Step) → kind step ≡ 8 → (reply : ℕ) × (step ≡ Answer reply)
is_answer (Load place into) k = absurd (omega arith)
is_answer (Want reg word) k = absurd (omega arith)
is_answer (Fresh reg) k = absurd (omega arith)
is_answer (Take place word) k = absurd (omega arith)
is_answer (Make init into) k = absurd (omega arith)
is_answer Stamp k = absurd (omega arith)
is_answer (Store reg value) k = absurd (omega arith)
is_answer (Retire slot) k = absurd (omega arith)
is_answer (Answer reply) k = (reply, refl)
