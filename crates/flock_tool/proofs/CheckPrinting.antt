-- How the command `check` ends.
use Rattle.std.proofs.Common.{◌≡◌, ◌≢◌, ◌⊎◌, ℕ, List, Option, None, Some, Result, Ok, Err, IsOk, IfSome, codes, refl, sym, ap, ◌∙◌, inl, inr, ⊎_elim, arith}
use Rattle.std.specs.Prelude.{◌≤◌}
use Rattle.command_line.specs.trace_reader.specs.declared.traces.TraceError.{TraceError}
use Rattle.command_line.specs.trace_reader.specs.declared.traces.TraceError.TheVariants.{ReadFault, Memory, TooLarge, Malformed, TooManyTraces, TooManyRequests}
use Rattle.report_check.specs.Input.{StopsWithin}
use Rattle.report_check.specs.Inputs.{IsAnswerOf, IsRefusedFor, IsExactOf, IsWant, Lacks}
use Rattle.report_check.specs.declared.verdict.Verdict.{Verdict}
use Rattle.report_check.specs.declared.verdict.Verdict.TheVariants.{Legal}
use Rattle.report_check.specs.declared.whole.CheckError.{CheckError}
use Rattle.report_check.specs.declared.whole.CheckError.TheVariants.{Text, NoReport}
use Rattle.flock_tool.specs.Checks.{CheckPrints, IsDue, IsSaid, IsVerdictStatus, check_line, check_status, verdict_status}
use Rattle.flock_tool.specs.Streams.{Fails, IsUntouched, Stream, Told}
use Rattle.flock_tool.proofs.Ends.{IfSome-from}

-- ---- what the input settles

abbrev Checked : Type 0
Checked = Result Verdict CheckError

pub ok_err : (verdict : Verdict) (error : CheckError) → ◌≡◌ {A = Checked} (Ok verdict) (Err error) → ⊥
ok_err verdict error e = cc

ok_same : (a b : Verdict) → ◌≡◌ {A = Checked} (Ok a) (Ok b) → a ≡ b
ok_same a b e = cc

err_same : (a b : CheckError) → ◌≡◌ {A = Checked} (Err a) (Err b) → a ≡ b
err_same a b e = cc

never_lacks : (verdict : Verdict) → Lacks (Ok verdict) → ⊥
never_lacks verdict (inl memory) = ok_err verdict (Text Memory) memory
never_lacks verdict (inr read) = ok_err verdict (Text ReadFault) read

always_7 : (number : ℕ) (input : List ℕ) → number ≡ 7 → IsDue number input
always_7 number input seven = record { judged = λ _. inr seven; legal = λ _. inr (inr seven); refused = λ _ _. inr seven }

due_verdict : (verdict : Verdict) (number : ℕ) (sink faults : Stream) → IsVerdictStatus number → IsSaid verdict number sink faults → (input : List ℕ) → IsExactOf (Ok verdict) input → IsDue number input
due_verdict verdict number sink faults status said input exact = record {
  judged = λ _. inl status;
  legal = λ has. ⊎_elim (λ is. by status (ok_same verdict Legal is)) (λ lacks. absurd (never_lacks verdict lacks)) (exact.legal has);
  refused = λ error refused. ⊎_elim (λ is. absurd (ok_err verdict error is)) (λ lacks. absurd (never_lacks verdict lacks)) (exact.refused error refused);
}
  where
    by : IsVerdictStatus number → verdict ≡ Legal → (number ≡ 0) ⊎ (number ≡ 9) ⊎ (number ≡ 7)
    by (inl zero) is = inl zero
    by (inr (inl ten)) is = let same = said.status (λ nine. omega (arith, ten, nine)) in inl (same ∙ ap verdict_status is)
    by (inr (inr nine)) is = inr (inl nine)

due_error : (error : CheckError) (number : ℕ) → number ≡ check_status error → (error ≡ Text ReadFault → ⊥) → (input : List ℕ) → IsExactOf (Err error) input → IsDue number input
due_error error number status read input exact = record {
  judged = λ has. ⊎_elim (λ ok. absurd (never ok)) (λ lacks. inr (wanting lacks)) (exact.judged has);
  legal = λ has. ⊎_elim (λ is. absurd (ok_err Legal error (sym is))) (λ lacks. inr (inr (wanting lacks))) (exact.legal has);
  refused = λ other refused. ⊎_elim (λ is. inl (status ∙ ap check_status (err_same error other is))) (λ lacks. inr (wanting lacks)) (exact.refused other refused);
}
  where
    never : IsOk {T = Verdict} {E = CheckError} (Err error) → ⊥
    never ok = cc

    wanting : Lacks (Err error) → number ≡ 7
    wanting (inl memory) = status ∙ ap check_status (err_same error (Text Memory) memory)
    wanting (inr fault) = absurd (read (err_same error (Text ReadFault) fault))

-- of each input that the source may tell
for_each : (P : List ℕ → Type 0) (left : Option (List ℕ)) → ((input : List ℕ) → P input) → IfSome left P
for_each P None all = tt
for_each P (Some input) all = all input

-- ---- the statuses

-- for want of memory
pub check_lacks : (number : ℕ) (source sink faults : Stream) → number ≡ 7 → Told (codes "flock: memory\n") faults → IsUntouched source → IsUntouched sink → CheckPrints number source sink faults
check_lacks number source sink faults seven told unread untouched = record {
  statuses = inr (inr (inr (inl seven)));
  judged = λ verdict. absurd (grind (arith, verdict, seven));
  refused = λ early. absurd (grind (arith, early, seven));
  due = λ _. for_each (IsDue number) source.before (λ input. always_7 number input seven);
  memory = λ _. told;
  read = λ eight. absurd (omega (arith, eight, seven));
  silent = λ _. untouched;
  reads = λ _. unread.steady;
}

pub check_judged : (verdict : Verdict) (number : ℕ) (source sink faults : Stream) → IfSome source.before (λ input. IsAnswerOf (Ok verdict) input) → IfSome source.before (λ input. IsExactOf (Ok verdict) input)
    → source.faults_after ≡ source.faults_before → IsVerdictStatus number → IsSaid verdict number sink faults → CheckPrints number source sink faults
check_judged verdict number source sink faults answer exact steady status said = record {
  statuses = inl status;
  judged = λ _. (verdict, (answer, said));
  refused = λ early. absurd (grind (arith, early, status));
  due = λ _. IfSome-from (λ input. IsExactOf (Ok verdict) input) (IsDue number) source.before exact (due_verdict verdict number sink faults status said);
  memory = λ seven. absurd (grind (arith, seven, status));
  read = λ eight. absurd (grind (arith, eight, status));
  silent = λ not. absurd (not status);
  reads = λ _. steady;
}

-- the clauses on every status
pub check_few : (number : ℕ) (source sink faults : Stream) → CheckPrints number source sink faults → (number ≢ 2) × (number ≤ 10)
check_few number source sink faults prints = (λ two. absurd (grind (arith, prints.statuses)), grind (arith, prints.statuses))

pub check_writes : (number : ℕ) (source sink faults : Stream) → CheckPrints number source sink faults → number ≢ 9 → sink.faults_after ≡ sink.faults_before
check_writes number source sink faults prints not = by prints.statuses
  where
    silent : (IsVerdictStatus number → ⊥) → sink.faults_after ≡ sink.faults_before
    silent other = (prints.silent other).steady

    by : IsVerdictStatus number ⊎ (number ≡ 3) ⊎ (number ≡ 4) ⊎ (number ≡ 7) ⊎ (number ≡ 8) → sink.faults_after ≡ sink.faults_before
    by (inl verdict) = let said = prints.judged verdict in said.1.1.steady not
    by (inr other) = silent (λ verdict. absurd (grind (arith, verdict, other)))

pub check_silent : (number : ℕ) (source sink faults : Stream) → CheckPrints number source sink faults → number ≢ 0 → number ≢ 10 → number ≢ 9 → sink.after ≡ sink.before
check_silent number source sink faults prints zero ten nine = (prints.silent (λ verdict. ⊎_elim zero (⊎_elim ten nine) verdict)).same

-- an input that wasn't checked
module _ (error : CheckError) (number : ℕ) (source sink faults : Stream) (status : number ≡ check_status error) (told : Told (check_line error) faults) (untouched : IsUntouched sink)
    (answer : IfSome source.before (λ input. IsAnswerOf (Err error) input)) (exact : IfSome source.before (λ input. IsExactOf (Err error) input)) (steady : source.faults_after ≡ source.faults_before) where
  due_if_read : (error ≡ Text ReadFault → ⊥) → IfSome source.before (IsDue number)
  due_if_read read = IfSome-from (λ input. IsExactOf (Err error) input) (IsDue number) source.before exact (due_error error number status read)

  refused_for : (IsWant error → ⊥) → IfSome source.before (λ input. IsRefusedFor input error)
  refused_for other = IfSome-from (λ input. IsAnswerOf (Err error) input) (λ input. IsRefusedFor input error) source.before answer (λ input why. ⊎_elim (λ want. absurd (other want)) (λ refused. refused) why)

  check_refused : (number ≡ 3) ⊎ (number ≡ 4) → (IsWant error → ⊥) → CheckPrints number source sink faults
  check_refused early other = record {
    statuses = ⊎_elim (λ three. inr (inl three)) (λ four. inr (inr (inl four))) early;
    judged = λ verdict. absurd (grind (arith, verdict, early));
    refused = λ _. (error, (refused_for other, status, told));
    due = λ _. due_if_read (λ is. other (inr is));
    memory = λ seven. absurd (grind (arith, seven, early));
    read = λ eight. absurd (grind (arith, eight, early));
    silent = λ _. untouched;
    reads = λ _. steady;
  }

-- a read that failed
check_unread : (number : ℕ) (source sink faults : Stream) → number ≡ 8 → Told (codes "flock: read fault\n") faults → IsUntouched sink → Fails source → StopsWithin source.before source.after
    → CheckPrints number source sink faults
check_unread number source sink faults eight told untouched fails stops = record {
  statuses = inr (inr (inr (inr eight)));
  judged = λ verdict. absurd (grind (arith, verdict, eight));
  refused = λ early. absurd (grind (arith, early, eight));
  due = λ none. absurd (none fails);
  memory = λ seven. absurd (omega (arith, seven, eight));
  read = λ _. (fails, stops, told);
  silent = λ _. untouched;
  reads = λ not. absurd (not eight);
}

text_same : (a b : TraceError) → Text a ≡ Text b → a ≡ b
text_same a b e = cc

no_text : (line : ℕ) (a : TraceError) → NoReport line ≡ Text a → ⊥
no_text line a e = cc

no_report : (line : ℕ) → IsWant (NoReport line) → ⊥
no_report line (inl memory) = no_text line Memory memory
no_report line (inr read) = no_text line ReadFault read

no_want : (error : TraceError) → (error ≡ Memory → ⊥) → (error ≡ ReadFault → ⊥) → IsWant (Text error) → ⊥
no_want error not_memory not_read (inl memory) = not_memory (text_same error Memory memory)
no_want error not_memory not_read (inr read) = not_read (text_same error ReadFault read)

pub check_unchecked : (error : CheckError) (number : ℕ) (source sink faults : Stream) → number ≡ check_status error → Told (check_line error) faults → IsUntouched sink
    → IfSome source.before (λ input. IsAnswerOf (Err error) input) → IfSome source.before (λ input. IsExactOf (Err error) input) → (error ≡ Text ReadFault → Fails source) → (error ≡ Text ReadFault → StopsWithin source.before source.after)
    → ((error ≡ Text ReadFault → ⊥) → source.faults_after ≡ source.faults_before) → CheckPrints number source sink faults
check_unchecked (Text ReadFault) number source sink faults status told untouched answer exact fails stops steady = check_unread number source sink faults status told untouched (fails refl) (stops refl)
check_unchecked (Text Memory) number source sink faults status told untouched answer exact fails stops steady = record {
  statuses = inr (inr (inr (inl status)));
  judged = λ verdict. absurd (grind (arith, verdict, status));
  refused = λ early. absurd (grind (arith, early, status));
  due = λ _. for_each (IsDue number) source.before (λ input. always_7 number input status);
  memory = λ _. told;
  read = λ eight. absurd (omega (arith, eight, status));
  silent = λ _. untouched;
  reads = λ _. steady (λ e. let same = text_same Memory ReadFault e in cc);
}
check_unchecked (Text (TooLarge bytes)) number source sink faults status told untouched answer exact fails stops steady =
    let not_read : TooLarge bytes ≡ ReadFault → ⊥ = λ e. cc in
    check_refused (Text (TooLarge bytes)) number source sink faults status told untouched answer exact (steady (λ e. not_read (text_same (TooLarge bytes) ReadFault e))) (inr status) (no_want (TooLarge bytes) (λ e. cc) not_read)
check_unchecked (Text (Malformed line kind)) number source sink faults status told untouched answer exact fails stops steady =
    let not_read : Malformed line kind ≡ ReadFault → ⊥ = λ e. cc in
    check_refused (Text (Malformed line kind)) number source sink faults status told untouched answer exact (steady (λ e. not_read (text_same (Malformed line kind) ReadFault e))) (inl status) (no_want (Malformed line kind) (λ e. cc) not_read)
check_unchecked (Text (TooManyTraces count)) number source sink faults status told untouched answer exact fails stops steady =
    let not_read : TooManyTraces count ≡ ReadFault → ⊥ = λ e. cc in
    check_refused (Text (TooManyTraces count)) number source sink faults status told untouched answer exact (steady (λ e. not_read (text_same (TooManyTraces count) ReadFault e))) (inr status) (no_want (TooManyTraces count) (λ e. cc) not_read)
check_unchecked (Text (TooManyRequests count)) number source sink faults status told untouched answer exact fails stops steady =
    let not_read : TooManyRequests count ≡ ReadFault → ⊥ = λ e. cc in
    check_refused (Text (TooManyRequests count)) number source sink faults status told untouched answer exact (steady (λ e. not_read (text_same (TooManyRequests count) ReadFault e))) (inr status) (no_want (TooManyRequests count) (λ e. cc) not_read)
check_unchecked (NoReport line) number source sink faults status told untouched answer exact fails stops steady =
    check_refused (NoReport line) number source sink faults status told untouched answer exact (steady (no_text line ReadFault)) (inl status) (no_report line)
