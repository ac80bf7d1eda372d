-- The traces and requests of lines that go on.
use Rattle.std.proofs.Common.{◌≡◌, ℕ, ◌+◌, ◌-◌, Bool, true, false, cond, List, [], ◌∷◌, ◌++◌, Option, None, Some, is_some, length, refl, sym, ap, ◌∙◌, append_assoc, arith, length-append, zero-add}
use Rattle.std.proofs.lemmas.List.{append-nil}
use Rattle.std.proofs.lemmas.List.Sums.{sum_by-append}
use Rattle.std.specs.Option.{option_or}
use Rattle.map_history.specs.declared.op.Op.{Op}
use Rattle.map_history.specs.declared.op.Request.{Request}
use Rattle.trace_reader.specs.declared.traces.Traces.{Traces}
use Rattle.trace_reader.specs.Line.{asked, begins_trace, header_in}
use Rattle.trace_reader.specs.Text.{format_in, request_by, requests_behind, requests_in, traces_in, asks_in}
use Rattle.trace_reader.specs.Answer.{AreTracesIn}

requests_behind-push : (before lines : List (List ℕ)) (line : List ℕ) → requests_behind before (lines ++ line ∷ []) ≡ requests_behind before lines ++ request_by (before ++ lines) (asked line)
requests_behind-push before [] line = append-nil _ ∙ ap (λ front. request_by front (asked line)) (sym (append-nil before))
requests_behind-push before (x ∷ lines) line =
    ap (λ more. request_by before (asked x) ++ more) (requests_behind-push (before ++ x ∷ []) lines line ∙ ap (λ front. requests_behind (before ++ x ∷ []) lines ++ request_by front (asked line)) (append_assoc before (x ∷ []) lines))
    ∙ sym (append_assoc (request_by before (asked x)) _ _)

requests_in-push : (lines : List (List ℕ)) (line : List ℕ) (op : Option Op) → asked line ≡ op → requests_in (lines ++ line ∷ []) ≡ requests_in lines ++ request_by lines op
requests_in-push lines line op is = requests_behind-push [] lines line ∙ ap (λ o. requests_in lines ++ request_by lines o) is

traces_in-push : (lines : List (List ℕ)) (line : List ℕ) (begins : Bool) → begins_trace line ≡ begins → traces_in (lines ++ line ∷ []) ≡ traces_in lines + cond begins 1 0
traces_in-push lines line begins is = sum_by-append (λ l. cond (begins_trace l) 1 0) lines (line ∷ []) ∙ ap (λ b. traces_in lines + (0 + cond b 1 0)) is ∙ ap (λ n. traces_in lines + n) (zero-add (cond begins 1 0))

one_or_none : (before : List (List ℕ)) (op : Option Op) (n : ℕ) → length (request_by before op) + n ≡ cond (is_some op) 1 0 + n
one_or_none before None n = omega arith
one_or_none before (Some op) n = omega arith

length-requests_behind : (before lines : List (List ℕ)) → length (requests_behind before lines) ≡ asks_in lines
length-requests_behind before [] = refl
length-requests_behind before (line ∷ lines) =
    length-append (request_by before (asked line)) _
    ∙ ap (λ n. length (request_by before (asked line)) + n) (length-requests_behind (before ++ line ∷ []) lines)
    ∙ one_or_none before (asked line) (asks_in lines)
    ∙ sym (sum_by-append (λ l. cond (is_some (asked l)) 1 0) (line ∷ []) lines ∙ ap (λ n. n + asks_in lines) (zero-add (cond (is_some (asked line)) 1 0)))

-- the count of requests is the length of their list
pub length-requests_in : (lines : List (List ℕ)) → length (requests_in lines) ≡ asks_in lines
length-requests_in lines = length-requests_behind [] lines

or_none : (a : Option ℕ) → option_or a None ≡ a
or_none None = refl
or_none (Some format) = refl

or_assoc : (a b c : Option ℕ) → option_or a (option_or b c) ≡ option_or (option_or a b) c
or_assoc None b c = refl
or_assoc (Some format) b c = refl

-- the format of the first header, with one more line
pub format_in-push : (lines : List (List ℕ)) (line : List ℕ) → format_in (lines ++ line ∷ []) ≡ option_or (format_in lines) (header_in line)
format_in-push [] line = or_none (header_in line)
format_in-push (x ∷ lines) line = ap (option_or (header_in x)) (format_in-push lines line) ∙ or_assoc (header_in x) (format_in lines) (header_in line)

-- a line that says nothing of a trace and asks nothing
pub AreTracesIn-none : (before after : Traces) (lines : List (List ℕ)) (line : List ℕ) → begins_trace line ≡ false → asked line ≡ None → after.count ≡ before.count → after.requests ≡ before.requests → AreTracesIn before lines → AreTracesIn after (lines ++ line ∷ [])
AreTracesIn-none before after lines line no_trace asks_none counted same are = record {
  count = counted ∙ are.count ∙ sym (traces_in-push lines line false no_trace ∙ omega arith);
  requests = same ∙ are.requests ∙ sym (requests_in-push lines line None asks_none ∙ append-nil _);
}

-- a line that begins a trace
pub AreTracesIn-trace : (before after : Traces) (lines : List (List ℕ)) (line : List ℕ) → begins_trace line ≡ true → asked line ≡ None → after.count ≡ before.count + 1 → after.requests ≡ before.requests → AreTracesIn before lines → AreTracesIn after (lines ++ line ∷ [])
AreTracesIn-trace before after lines line begins asks_none counted same are = record {
  count = counted ∙ ap (λ n. n + 1) are.count ∙ sym (traces_in-push lines line true begins);
  requests = same ∙ are.requests ∙ sym (requests_in-push lines line None asks_none ∙ append-nil _);
}

-- a line that asks
pub AreTracesIn-ask : (before after : Traces) (lines : List (List ℕ)) (line : List ℕ) (op : Op) → begins_trace line ≡ false → asked line ≡ Some op → after.count ≡ before.count → after.requests ≡ before.requests ++ record { trace = before.count - 1; number = length before.requests; op = op } ∷ [] → AreTracesIn before lines → AreTracesIn after (lines ++ line ∷ [])
AreTracesIn-ask before after lines line op no_trace asks same added are = record {
  count = same ∙ are.count ∙ sym (traces_in-push lines line false no_trace ∙ omega arith);
  requests =
      let number : length before.requests ≡ asks_in lines = ap length are.requests ∙ length-requests_in lines in
      let request : ◌≡◌ {A = List Request} (record { trace = before.count - 1; number = length before.requests; op = op } ∷ []) (record { trace = traces_in lines - 1; number = asks_in lines; op = op } ∷ []) = λ i. record { trace = are.count i - 1; number = number i; op = op } ∷ [] in
      added ∙ ap (λ front. front ++ record { trace = before.count - 1; number = length before.requests; op = op } ∷ []) are.requests ∙ ap (λ last. requests_in lines ++ last) request
      ∙ sym (requests_in-push lines line (Some op) asks);
}
