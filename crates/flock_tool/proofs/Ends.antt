-- From the way in which the program ends without a report to its status, and back.
use Rattle.std.proofs.Common.{◌≡◌, ◌≢◌, ℕ, List, Option, None, Some, Result, Ok, Err, IsOk, IfSome, IsSome, codes, refl, sym, ap, ◌∙◌, ◌⊎◌, ⊎_elim, inl, inr, subst, arith, rules}
use Rattle.command_line.specs.trace_reader.specs.declared.traces.BadLine.{BadLine}
use Rattle.command_line.specs.trace_reader.specs.declared.traces.TraceError.{TraceError}
use Rattle.command_line.specs.trace_reader.specs.declared.traces.TraceError.TheVariants.{ReadFault, Memory, TooLarge, Malformed, TooManyTraces, TooManyRequests}
use Rattle.std.specs.Prelude.{◌↔◌}
use Rattle.command_line.specs.trace_reader.specs.Answer.{AreTracesOf, Answers, IsExact}
use Rattle.command_line.specs.trace_reader.specs.declared.traces.Traces.{Traces}
use Rattle.flock_tool.specs.declared.ran.Ran.{Ran}
use Rattle.command_line.specs.trace_reader.specs.Text.{IsAccepted, IsFirstRefusal}
use Rattle.command_line.specs.declared.options.RunOptions.{RunOptions}
use Rattle.flock_tool.specs.declared.plan.Plan.{Plan}
use Rattle.flock_tool.specs.declared.status.Stop.{Stop}
use Rattle.flock_tool.specs.declared.status.Stop.TheVariants.{Words, Text, Nodes, WriteFault}
use Rattle.flock_tool.specs.End.{IsLimit, Tells, error_line, error_status, nodes_line, stop_line, stop_status}
use Rattle.flock_tool.specs.Plans.{AsksAnotherTable, AsksTooMuch, IsForAnotherTable, IsRefusedPlan, IsTooMuch, MustPlan, layout_by}
use Rattle.flock_tool.specs.Runs.{IsRunStatus}

pub IfSome-from : {A : Type 0} (P Q : A → Type 0) (o : Option A) → IfSome o P → ((x : A) → P x → Q x) → IfSome o Q
IfSome-from P Q None known step = tt
IfSome-from P Q (Some x) known step = step x known

-- what a status tells of the way
pub stop_at_2 : (stop : Stop) → stop_status stop ≡ 2 → stop ≡ Words
stop_at_2 Words is = refl
stop_at_2 (Text ReadFault) is = absurd (omega (arith, is))
stop_at_2 (Text Memory) is = absurd (omega (arith, is))
stop_at_2 (Text (TooLarge bytes)) is = absurd (omega (arith, is))
stop_at_2 (Text (Malformed line kind)) is = absurd (omega (arith, is))
stop_at_2 (Text (TooManyTraces count)) is = absurd (omega (arith, is))
stop_at_2 (Text (TooManyRequests count)) is = absurd (omega (arith, is))
stop_at_2 (Nodes count) is = absurd (omega (arith, is))
stop_at_2 WriteFault is = absurd (omega (arith, is))

pub stop_at_7 : (stop : Stop) → stop_status stop ≡ 7 → stop ≡ Text Memory
stop_at_7 Words is = absurd (omega (arith, is))
stop_at_7 (Text ReadFault) is = absurd (omega (arith, is))
stop_at_7 (Text Memory) is = refl
stop_at_7 (Text (TooLarge bytes)) is = absurd (omega (arith, is))
stop_at_7 (Text (Malformed line kind)) is = absurd (omega (arith, is))
stop_at_7 (Text (TooManyTraces count)) is = absurd (omega (arith, is))
stop_at_7 (Text (TooManyRequests count)) is = absurd (omega (arith, is))
stop_at_7 (Nodes count) is = absurd (omega (arith, is))
stop_at_7 WriteFault is = absurd (omega (arith, is))

pub stop_at_8 : (stop : Stop) → stop_status stop ≡ 8 → stop ≡ Text ReadFault
stop_at_8 Words is = absurd (omega (arith, is))
stop_at_8 (Text ReadFault) is = refl
stop_at_8 (Text Memory) is = absurd (omega (arith, is))
stop_at_8 (Text (TooLarge bytes)) is = absurd (omega (arith, is))
stop_at_8 (Text (Malformed line kind)) is = absurd (omega (arith, is))
stop_at_8 (Text (TooManyTraces count)) is = absurd (omega (arith, is))
stop_at_8 (Text (TooManyRequests count)) is = absurd (omega (arith, is))
stop_at_8 (Nodes count) is = absurd (omega (arith, is))
stop_at_8 WriteFault is = absurd (omega (arith, is))

-- no way but the sink's failure has the status of a run, and that is none of a plan's
pub not_run : (options : RunOptions) (left : Option (List ℕ)) (stop : Stop) → IsRefusedPlan options left stop → IsRunStatus (stop_status stop) → ⊥
not_run options left Words refused run = absurd (grind arith)
not_run options left (Text ReadFault) refused run = absurd (grind arith)
not_run options left (Text Memory) refused run = absurd (grind arith)
not_run options left (Text (TooLarge bytes)) refused run = absurd (grind arith)
not_run options left (Text (Malformed line kind)) refused run = absurd (grind arith)
not_run options left (Text (TooManyTraces count)) refused run = absurd (grind arith)
not_run options left (Text (TooManyRequests count)) refused run = absurd (grind arith)
not_run options left (Nodes count) refused run = absurd (grind arith)
not_run options left WriteFault refused run = refused

-- status 3 is a line with a fault
pub malformed_stop : (options : RunOptions) (left before after : Option (List ℕ)) (faults_before faults_after : ℕ) (stop : Stop) → IsRefusedPlan options left stop
    → Tells (stop_line stop) before after faults_before faults_after → stop_status stop ≡ 3
    → (line : ℕ) × (kind : BadLine) × (IfSome left (λ text. IsFirstRefusal text (Malformed line kind)) × Tells (error_line (Malformed line kind)) before after faults_before faults_after)
malformed_stop options left before after fb fa Words refused told three = absurd (omega (arith, three))
malformed_stop options left before after fb fa (Text ReadFault) refused told three = absurd (omega (arith, three))
malformed_stop options left before after fb fa (Text Memory) refused told three = absurd (omega (arith, three))
malformed_stop options left before after fb fa (Text (TooLarge bytes)) refused told three = absurd (omega (arith, three))
malformed_stop options left before after fb fa (Text (TooManyTraces count)) refused told three = absurd (omega (arith, three))
malformed_stop options left before after fb fa (Text (TooManyRequests count)) refused told three = absurd (omega (arith, three))
malformed_stop options left before after fb fa (Nodes count) refused told three = absurd (omega (arith, three))
malformed_stop options left before after fb fa WriteFault refused told three = absurd (omega (arith, three))
malformed_stop options left before after fb fa (Text (Malformed line kind)) refused told three = (line, kind, (refused, told))

-- status 4 is a text past a limit, or too many node slots
pub limit_stop : (options : RunOptions) (left before after : Option (List ℕ)) (faults_before faults_after : ℕ) (stop : Stop) → IsRefusedPlan options left stop
    → Tells (stop_line stop) before after faults_before faults_after → stop_status stop ≡ 4
    → ((error : TraceError) × (IsLimit error × IfSome left (λ text. IsFirstRefusal text error) × Tells (error_line error) before after faults_before faults_after))
    ⊎ ((count : ℕ) × (AsksTooMuch options left count × Tells (nodes_line count) before after faults_before faults_after))
limit_stop options left before after fb fa Words refused told four = absurd (omega (arith, four))
limit_stop options left before after fb fa (Text ReadFault) refused told four = absurd (omega (arith, four))
limit_stop options left before after fb fa (Text Memory) refused told four = absurd (omega (arith, four))
limit_stop options left before after fb fa (Text (Malformed line kind)) refused told four = absurd (omega (arith, four))
limit_stop options left before after fb fa WriteFault refused told four = absurd (omega (arith, four))
limit_stop options left before after fb fa (Text (TooLarge bytes)) refused told four = inl (TooLarge bytes, (tt, refused, told))
limit_stop options left before after fb fa (Text (TooManyTraces count)) refused told four = inl (TooManyTraces count, (tt, refused, told))
limit_stop options left before after fb fa (Text (TooManyRequests count)) refused told four = inl (TooManyRequests count, (tt, refused, told))
limit_stop options left before after fb fa (Nodes count) refused told four = inr (count, (refused, told))

err_same : {T : Type 0} (a b : Stop) → ◌≡◌ {A = Result T Stop} (Err a) (Err b) → a ≡ b
err_same a b e = cc

-- a text that must be refused so has the status
pub refused_status : (options : RunOptions) (stop : Stop) (text : List ℕ) (error : TraceError) → MustPlan options (Err stop) text → IsFirstRefusal text error
    → (stop_status stop ≡ error_status error) ⊎ (stop_status stop ≡ 7)
refused_status options stop text error must first =
    ⊎_elim
    (λ same. inl (ap stop_status (err_same {T = Plan} stop (Text error) same)))
    (λ want. inr (ap stop_status (err_same {T = Plan} stop (Text Memory) want)))
    (must.refused error first)

-- what becomes of a text in the grammar, by the status
abbrev pub GrammaticalAt : RunOptions → Option (List ℕ) → ℕ → Type 0
GrammaticalAt options left status = IsRunStatus status ⊎ (status ≡ 7) ⊎ ((status ≡ 4) × (count : ℕ) × AsksTooMuch options left count)
    ⊎ ((status ≡ 2) × AsksAnotherTable options left)

-- a text in the grammar isn't refused, but for want of memory, for too many node slots and where it is for another table
pub accepted_status : (options : RunOptions) (left : Option (List ℕ)) (stop : Stop) (text : List ℕ) → IsRefusedPlan options left stop → MustPlan options (Err stop) text → IsAccepted text
    → GrammaticalAt options left (stop_status stop)
accepted_status options left stop text refused must accepted =
    ⊎_elim (λ ok. absurd (not_ok ok))
    (⊎_elim
    (λ want. inr (inl (ap stop_status (err_same {T = Plan} stop (Text Memory) want))))
    (⊎_elim
    (λ much.
    let same = err_same {T = Plan} stop (Nodes much.0) much.1 in
    inr (inr (inl (ap stop_status same, much.0, subst (IsRefusedPlan options left) same refused))))
    (λ words.
    let same = err_same {T = Plan} stop Words words in
    inr (inr (inr (ap stop_status same, subst (IsRefusedPlan options left) same refused))))))
    (must.accepted accepted)
  where
    not_ok : IsOk {T = Plan} {E = Stop} (Err stop) → ⊥
    not_ok ok = cc

same_error : (a b : TraceError) → ◌≡◌ {A = Result Traces TraceError} (Err a) (Err b) → a ≡ b
same_error a b e = cc

-- a text that was refused by its reading must be refused so
pub must_refuse : (options : RunOptions) (error : TraceError) (text : List ℕ) → IsExact (Err error) text → MustPlan options (Err (Text error)) text
must_refuse options error text exact = record {
  accepted = λ accepted. ⊎_elim (λ ok. absurd (not_read ok)) (λ want. inr (inl (ap (λ e. Err (Text e)) (same_error error Memory want)))) (exact.accepted accepted);
  another = λ traces are is. ⊎_elim (λ ok. absurd (not_read ok)) (λ want. inr (ap (λ e. Err (Text e)) (same_error error Memory want))) (exact.accepted are.accepted);
  refused = λ other first. ⊎_elim
      (λ same. inl (ap (λ e. Err (Text e)) (same_error error other same)))
      (λ want. inr (ap (λ e. Err (Text e)) (same_error error Memory want)))
      (exact.refused other first);
}
  where
    not_read : IsOk {T = Traces} {E = TraceError} (Err error) → ⊥
    not_read ok = cc

none_some : (back : Option Ran) → back ≡ None → IsSome back → ⊥
none_some back none some = absurd (cc)

-- without a plan nothing comes back
pub none_ran : (options : RunOptions) (left : Option (List ℕ)) (stop : Stop) (status : ℕ) (back : Option Ran) → IsRefusedPlan options left stop → status ≡ stop_status stop
    → back ≡ None → IsSome back ↔ IsRunStatus status
none_ran options left stop status back refused is none =
    (λ some. absurd (none_some back none some), λ run. absurd (not_run options left stop refused (subst IsRunStatus is run)))

-- what a text comes to that isn't planned
pub complete_refused : (options : RunOptions) (left : Option (List ℕ)) (stop : Stop) (status : ℕ) → status ≡ stop_status stop → IsRefusedPlan options left stop
    → IfSome left (MustPlan options (Err stop)) → IfSome left (λ text. IsAccepted text → GrammaticalAt options left status)
complete_refused options left stop status is refused must =
    IfSome-from (MustPlan options (Err stop)) (λ text. IsAccepted text → GrammaticalAt options left status) left must
    (λ text must_text accepted. subst (GrammaticalAt options left) (sym is) (accepted_status options left stop text refused must_text accepted))

pub first_refused : (options : RunOptions) (left : Option (List ℕ)) (stop : Stop) (status : ℕ) → status ≡ stop_status stop → IfSome left (MustPlan options (Err stop))
    → IfSome left (λ text. (error : TraceError) → IsFirstRefusal text error → (status ≡ error_status error) ⊎ (status ≡ 7))
first_refused options left stop status is must =
    IfSome-from (MustPlan options (Err stop)) (λ text. (error : TraceError) → IsFirstRefusal text error → (status ≡ error_status error) ⊎ (status ≡ 7)) left must
    (λ text must_text error first. subst (λ n. (n ≡ error_status error) ⊎ (n ≡ 7)) (sym is) (refused_status options stop text error must_text first))

-- and one that is for another table has the status of that
abbrev pub AnotherAt : RunOptions → ℕ → List ℕ → Type 0
AnotherAt options status text = (traces : Traces) → AreTracesOf traces text → IsForAnotherTable options traces → (status ≡ 2) ⊎ (status ≡ 7)

pub another_refused : (options : RunOptions) (left : Option (List ℕ)) (stop : Stop) (status : ℕ) → status ≡ stop_status stop → IfSome left (MustPlan options (Err stop))
    → IfSome left (AnotherAt options status)
another_refused options left stop status is must =
    IfSome-from (MustPlan options (Err stop)) (AnotherAt options status) left must
    (λ text must_text traces are is_for. ⊎_elim
    (λ words. inl (is ∙ ap stop_status (err_same {T = Plan} stop Words words)))
    (λ want. inr (is ∙ ap stop_status (err_same {T = Plan} stop (Text Memory) want)))
    (must_text.another traces are is_for))

-- status 2 says so
pub another_stop : (options : RunOptions) (left before after : Option (List ℕ)) (faults_before faults_after : ℕ) (stop : Stop) → IsRefusedPlan options left stop
    → Tells (stop_line stop) before after faults_before faults_after → stop_status stop ≡ 2
    → AsksAnotherTable options left × Tells (codes "flock: words refused\n") before after faults_before faults_after
another_stop options left before after fb fa stop refused told two =
    let same = stop_at_2 stop two in
    (subst (IsRefusedPlan options left) same refused, subst (λ (s : Stop). Tells (stop_line s) before after fb fa) same told)

pub any_text : (Q : List ℕ → Type 0) (left : Option (List ℕ)) → ((text : List ℕ) → Q text) → IfSome left Q
any_text Q None each = tt
any_text Q (Some text) each = each text

-- a text that is planned isn't refused
planned_ok : (plan : Plan) (stop : Stop) → ◌≡◌ {A = Result Plan Stop} (Ok plan) (Err stop) → ⊥
planned_ok plan stop same = cc

pub planned_refused : (options : RunOptions) (left : Option (List ℕ)) (plan : Plan) (status : ℕ) → IfSome left (MustPlan options (Ok plan))
    → IfSome left (λ text. (error : TraceError) → IsFirstRefusal text error → (status ≡ error_status error) ⊎ (status ≡ 7))
planned_refused options left plan status must =
    IfSome-from (MustPlan options (Ok plan)) (λ text. (error : TraceError) → IsFirstRefusal text error → (status ≡ error_status error) ⊎ (status ≡ 7)) left must
    (λ text must_text error first. absurd (⊎_elim (λ same. planned_ok plan (Text error) same) (λ want. planned_ok plan (Text Memory) want) (must_text.refused error first)))

pub planned_another : (options : RunOptions) (left : Option (List ℕ)) (plan : Plan) (status : ℕ) → IfSome left (MustPlan options (Ok plan)) → IfSome left (AnotherAt options status)
planned_another options left plan status must =
    IfSome-from (MustPlan options (Ok plan)) (AnotherAt options status) left must
    (λ text must_text traces are is_for. absurd (⊎_elim (λ words. planned_ok plan Words words) (λ want. planned_ok plan (Text Memory) want) (must_text.another traces are is_for)))

pub read_fault : (stop : Stop) (status : ℕ) → status ≡ stop_status stop → status ≢ 8 → ◌≡◌ {A = Result Plan Stop} (Err stop) (Err (Text ReadFault)) → ⊥
read_fault stop status is not_eight same = not_eight (is ∙ ap stop_status (err_same {T = Plan} stop (Text ReadFault) same))

-- what was answered is one thing
pub not_both : {T E : Type 0} (value : T) (error : E) → ◌≡◌ {A = Result T E} (Ok value) (Err error) → ⊥
not_both value error same = cc

pub error_is : {T E : Type 0} (a b : E) → ◌≡◌ {A = Result T E} (Err a) (Err b) → a ≡ b
error_is a b same = cc

-- a text has one format
some_number : (a b : ℕ) → ◌≡◌ {A = Option ℕ} (Some a) (Some b) → a ≡ b
some_number a b e = cc

pub one_format : (a b : Traces) (text : List ℕ) → AreTracesOf a text → AreTracesOf b text → a.format ≡ b.format
one_format a b text are also = some_number a.format b.format (sym are.format ∙ also.format)

-- so where it is for another table by one reading, it is by each
pub also_another : (options : RunOptions) (a b : Traces) (text : List ℕ) → AreTracesOf a text → AreTracesOf b text → IsForAnotherTable options b → IsForAnotherTable options a
also_another options a b text are also is_for = (one_format a b text are also ∙ is_for.0, is_for.1)

-- what comes of a text that was read, with these options
module _ (options : RunOptions) (left : Option (List ℕ)) (traces : Traces) (answer : IfSome left (Answers (Ok traces))) where
  text_read : IfSome left (AreTracesOf traces)
  text_read = IfSome-from (Answers (Ok traces)) (AreTracesOf traces) left answer (λ text are. are)

  not_refused : (text : List ℕ) → IsExact (Ok traces) text → (error : TraceError) → IsFirstRefusal text error → ⊥
  not_refused text exact error first = ⊎_elim (λ same. not_both traces error same) (λ want. not_both traces Memory want) (exact.refused error first)

  -- it is for another table
  pub asks_another : IsForAnotherTable options traces → AsksAnotherTable options left
  asks_another is_for = record { traces = traces; text = text_read; another = is_for }

  pub must_another : IfSome left (IsExact (Ok traces)) → IfSome left (MustPlan options (Err Words))
  must_another exact = IfSome-from (IsExact (Ok traces)) (MustPlan options (Err Words)) left exact
      (λ text exact_text. record {
        accepted = λ accepted. inr (inr (inr refl));
        another = λ other are is. inl refl;
        refused = λ error first. absurd (not_refused text exact_text error first);
      })

  -- or it isn't
  module _ (served : IsForAnotherTable options traces → ⊥) where
    both : {P : List ℕ → Type 0} → IfSome left (IsExact (Ok traces)) → ((text : List ℕ) → AreTracesOf traces text → IsExact (Ok traces) text → P text) → IfSome left P
    both {P} exact step = by left answer exact
      where
        by : (o : Option (List ℕ)) → IfSome o (Answers (Ok traces)) → IfSome o (IsExact (Ok traces)) → IfSome o P
        by None is exact_is = tt
        by (Some text) is exact_is = step text is exact_is

    -- too many node slots
    must_nodes : (count : ℕ) (text : List ℕ) → AreTracesOf traces text → IsExact (Ok traces) text → MustPlan options (Err (Nodes count)) text
    must_nodes count text is exact = record {
      accepted = λ accepted. inr (inr (inl (count, refl)));
      another = λ other are is_for. absurd (served (also_another options traces other text is are is_for));
      refused = λ error first. absurd (not_refused text exact error first);
    }

    pub must_layout : (stop : Stop) → IsTooMuch (layout_by options traces.count traces.requests) stop → IfSome left (IsExact (Ok traces)) → IfSome left (MustPlan options (Err stop))
    must_layout Words much exact = absurd much
    must_layout (Text error) much exact = absurd much
    must_layout (Nodes count) much exact = both exact (must_nodes count)
    must_layout WriteFault much exact = absurd much

    pub refused_layout : (stop : Stop) → IsTooMuch (layout_by options traces.count traces.requests) stop → IsRefusedPlan options left stop
    refused_layout Words much = absurd much
    refused_layout (Text error) much = absurd much
    refused_layout (Nodes count) much = record { traces = traces; text = text_read; served = served; count = much.0; much = much.1 }
    refused_layout WriteFault much = absurd much

    -- or it is planned
    pub must_plan : (plan : Plan) → IfSome left (IsExact (Ok traces)) → IfSome left (MustPlan options (Ok plan))
    must_plan plan exact = both exact (λ text is exact_text. record {
      accepted = λ accepted. inl (search rules);
      another = λ other are is_for. absurd (served (also_another options traces other text is are is_for));
      refused = λ error first. absurd (not_refused text exact_text error first);
    })
