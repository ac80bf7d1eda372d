-- What a printed text is read as.
use Rattle.std.proofs.Common.{◌≡◌, ℕ, zero, suc, ◌+◌, ◌-◌, ◌*◌, ◌<◌, ◌≤◌, Bool, true, false, List, [], ◌∷◌, ◌++◌, None, Some, codes, length, length-append, append_assoc, refl, sym, ap, ◌∙◌, subst, arith, get_or, ⊎_elim}
use Rattle.std.specs.Prelude.{◌==◌, All, decimal, flat_map, map, nat_lt}
use Rattle.std.specs.List.{AllByRecursion, range_with_len}
use Rattle.std.specs.List.Sorted.{IsNonDecreasingBy}
use Rattle.std.proofs.lemmas.Bool.{cases_lt, lt-ltb}
use Rattle.std.proofs.lemmas.Fmt.{decimal_digit}
use Rattle.std.proofs.lemmas.List.{append-nil}
use Rattle.std.proofs.lemmas.List.Elements.{All-from_recursion}
use Rattle.std.proofs.lemmas.List.Splits.{slice_split_none}
use Rattle.map_history.specs.declared.op.Op.{Op}
use Rattle.map_history.specs.declared.op.Op.TheVariants.{Get, Ins, Del, Put, Mov}
use Rattle.map_history.specs.declared.op.Request.{Request}
use Rattle.map_history.specs.Keys.{least_format}
use Rattle.map_history.specs.Requests.{AreInOrder}
use Rattle.trace_reader.specs.declared.line.Line.TheVariants.{Header, Trace, Ask}
use Rattle.trace_reader.specs.declared.traces.Traces.{Traces}
use Rattle.trace_reader.specs.Answer.{AreTracesOf}
use Rattle.trace_reader.specs.Formats.{AreOfFormat, IsFormat, format_for}
use Rattle.trace_reader.specs.Lines.{IsOneLine, lines_of, pieces_of}
use Rattle.trace_reader.specs.Printed.{HasSmallValue, HaveSmallValues, beginnings, header_line, line_of, lines_behind, printed, printed_lines, with_feed}
use Rattle.trace_reader.specs.Reader.{AreRead}
use Rattle.trace_reader.specs.Said.{HasLowKeys, Says}
use Rattle.trace_reader.specs.Text.{format_in, lines_read, requests_in, traces_in}
use Rattle.trace_reader.proofs.Digits.{digits_length, printed_digits}
use Rattle.trace_reader.proofs.Formats.{format_for_covers, format_for_low, format_for_some, low_keys}
use Rattle.trace_reader.proofs.Lines.{pieces_of-feed}
use Rattle.trace_reader.proofs.Ordered.{AreInOrder-none}
use Rattle.trace_reader.proofs.Refusals.{all_accepted, end_refusal-within, ended_lines, lines_of-read}
use Rattle.trace_reader.proofs.Steps.{line_more}
use Rattle.trace_reader.proofs.Written.{del_one_line, del_said, digits_printed, get_one_line, get_said, ins_one_line, ins_said, mov_one_line, mov_said, printed_one_line, put_one_line, put_said}

-- the line of a request is one line
line_one : (op : Op) → HasLowKeys op → HasSmallValue op → IsOneLine (line_of op)
line_one (Get key) small fits = get_one_line key (decimal key) (printed_digits key (omega (arith, small)))
line_one (Del key) small fits = del_one_line key (decimal key) (printed_digits key (omega (arith, small)))
line_one (Ins key value) small fits = ins_one_line key value (decimal key) (decimal value) (printed_digits key (omega (arith, small))) (printed_digits value (omega (arith, fits)))
line_one (Put key value) small fits = put_one_line key value (decimal key) (decimal value) (printed_digits key (omega (arith, small))) (printed_digits value (omega (arith, fits)))
line_one (Mov from to) small fits = mov_one_line from to (decimal from) (decimal to) (printed_digits from (omega (arith, small.0))) (printed_digits to (omega (arith, small.1)))

pub line_said : (format : ℕ) (op : Op) → HasLowKeys op → HasSmallValue op → least_format op ≤ format → Says (Ask op) (Some format) true (line_of op)
line_said format (Get key) small fits low = get_said format key (decimal key) low (printed_digits key (omega (arith, small))) small
line_said format (Del key) small fits low = del_said format key (decimal key) low (printed_digits key (omega (arith, small))) small
line_said format (Ins key value) small fits low =
    ins_said format key value (decimal key) (decimal value) low (printed_digits key (omega (arith, small))) (printed_digits value (omega (arith, fits))) small fits
line_said format (Put key value) small fits low =
    put_said format key value (decimal key) (decimal value) low (printed_digits key (omega (arith, small))) (printed_digits value (omega (arith, fits))) small fits
line_said format (Mov from to) small fits low =
    mov_said format from to (decimal from) (decimal to) low (printed_digits from (omega (arith, small.0))) (printed_digits to (omega (arith, small.1))) small.0 small.1

-- requests of a format that go on where so many traces have begun and so many requests were made
abbrev Continues : ℕ → ℕ → ℕ → List Request → ℕ → Type 0
Continues format begun number [] traces = begun ≤ traces
Continues format begun number (request ∷ requests) traces =
    (begun ≤ request.trace + 1) × (request.trace < traces) × (request.number ≡ number) × (number < 131072) × HasLowKeys request.op × (HasSmallValue request.op × (least_format request.op ≤ format))
    × Continues format (request.trace + 1) (number + 1) requests traces

-- requests in order, from some place on
record AreLeft (format begun number : ℕ) (requests : List Request) (traces : ℕ) : Type 0 where
  reached : begun ≤ traces
  later : All (λ (request : Request). begun ≤ request.trace + 1) requests
  few : number + length requests ≤ 131072
  numbered : map (λ (request : Request). request.number) requests ≡ range_with_len number (length requests)
  within : All (λ (request : Request). request.trace < traces) requests
  rising : IsNonDecreasingBy (λ (request : Request). request.trace) requests
  keys : All (λ (request : Request). HasLowKeys request.op) requests
  values : HaveSmallValues requests
  formats : AreOfFormat format requests

same_heads : (a b : ℕ) (xs ys : List ℕ) → ◌≡◌ {A = List ℕ} (a ∷ xs) (b ∷ ys) → (a ≡ b) × (xs ≡ ys)
same_heads a b xs ys e = (cc, cc)

continues : (format begun number : ℕ) (requests : List Request) (traces : ℕ) → AreLeft format begun number requests traces → Continues format begun number requests traces
continues format begun number [] traces left = left.reached
continues format begun number (request ∷ requests) traces left =
    let heads = same_heads _ _ _ _ left.numbered in (
      left.later 0 request (omega arith),
      left.within 0 request (omega arith),
      heads.0,
      omega (arith, left.few),
      left.keys 0 request (omega arith),
      (left.values 0 request (omega arith), left.formats 0 request (omega arith)),
      continues format (request.trace + 1) (number + 1) requests traces (record {
        reached = omega (arith, left.within 0 request (omega arith));
        later = λ k d early. omega (arith, left.rising 0 (suc k) d (omega arith) (omega (arith, early)));
        few = omega (arith, left.few);
        numbered = heads.1;
        within = λ k d early. left.within (suc k) d (omega (arith, early));
        rising = λ i j d le early. left.rising (suc i) (suc j) d (omega (arith, le)) (omega (arith, early));
        keys = λ k d early. left.keys (suc k) d (omega (arith, early));
        values = λ k d early. left.values (suc k) d (omega (arith, early));
        formats = λ k d early. left.formats (suc k) d (omega (arith, early));
      }),
    )

all_continue : (format : ℕ) (requests : List Request) (traces : ℕ) → AreInOrder requests traces → HaveSmallValues requests → AreOfFormat format requests → Continues format 0 0 requests traces
all_continue format requests traces are small within = continues format 0 0 requests traces (record {
  reached = omega arith;
  later = λ k d early. omega arith;
  few = omega (arith, are.few);
  numbered = are.numbered;
  within = are.within;
  rising = are.rising;
  keys = λ k d early. low_keys (get_or requests k d).op (are.keys k d early);
  values = small;
  formats = within;
})

-- so many traces and these requests, of a text of this format
abbrev traces_so : ℕ → ℕ → List Request → Traces
traces_so format count requests = record { format = format; count = count; requests = requests }

-- these lines were read, behind a header with this format
abbrev ReadSo : ℕ → ℕ → List Request → List (List ℕ) → Type 0
ReadSo format count requests lines = AreRead (length lines) (Some format) (traces_so format count requests) lines

-- one more trace begins
trace_more : (format begun : ℕ) (done : List Request) (lines : List (List ℕ)) → begun < 64 → ReadSo format begun done lines → ReadSo format (begun + 1) done (lines ++ codes "trace" ∷ [])
trace_more format begun done lines few are =
    line_more (length lines) (Some format) (traces_so format begun done) (length (lines ++ codes "trace" ∷ [])) (Some format) (traces_so format (begun + 1) done) lines (codes "trace") Trace are
    (record { fault = refl; header = refl; trace = refl; operation = refl; placed = refl })
    (refl, omega (arith, few), refl) refl (length-append lines (codes "trace" ∷ []))

traces_more : (format count begun : ℕ) (done : List Request) (lines : List (List ℕ)) → begun + count ≤ 64 → ReadSo format begun done lines → ReadSo format (begun + count) done (lines ++ beginnings count)
traces_more format zero begun done lines few are =
    let same : begun + 0 ≡ begun = omega arith in
    subst (λ (n : ℕ). ReadSo format n done (lines ++ [])) (sym same) (subst (λ (l : List (List ℕ)). ReadSo format begun done l) (sym (append-nil lines)) are)
traces_more format (suc count) begun done lines few are =
    let same : begun + suc count ≡ begun + 1 + count = omega arith in
    let more = traces_more format count (begun + 1) done (lines ++ codes "trace" ∷ []) (omega (arith, few)) (trace_more format begun done lines (omega (arith, few)) are) in
    subst (λ (n : ℕ). ReadSo format n done (lines ++ beginnings (suc count))) (sym same)
    (subst (λ (l : List (List ℕ)). ReadSo format (begun + 1 + count) done l) (append_assoc lines (codes "trace" ∷ []) (beginnings count)) more)

-- one more request
request_more : (format : ℕ) (request : Request) (done : List Request) (lines : List (List ℕ)) → request.number ≡ length done → length done < 131072 → HasLowKeys request.op → HasSmallValue request.op → least_format request.op ≤ format
    → ReadSo format (request.trace + 1) done lines → ReadSo format (request.trace + 1) (done ++ request ∷ []) (lines ++ line_of request.op ∷ [])
request_more format request done lines number few small fits low are =
    let begun : nat_lt 0 (request.trace + 1) ≡ true = lt-ltb 0 (request.trace + 1) (omega arith) in
    let same : request ≡ record { trace = request.trace + 1 - 1; number = length done; op = request.op } =
    ap (λ n. record { trace = request.trace; number = n; op = request.op }) number
    ∙ ap (λ n. record { trace = n; number = length done; op = request.op }) (omega arith) in
    line_more (length lines) (Some format) (traces_so format (request.trace + 1) done) (length (lines ++ line_of request.op ∷ [])) (Some format) (traces_so format (request.trace + 1) (done ++ request ∷ [])) lines (line_of request.op) (Ask request.op) are
    (subst (λ (b : Bool). Says (Ask request.op) (Some format) b (line_of request.op)) (sym begun) (line_said format request.op small fits low))
    (refl, ap (λ r. done ++ r ∷ []) same, omega (arith, length-append done (request ∷ []))) refl (length-append lines (line_of request.op ∷ []))

-- the lines of requests that go on
read_behind : (format begun : ℕ) (done requests : List Request) (traces : ℕ) (lines : List (List ℕ)) → traces ≤ 64 → ReadSo format begun done lines → Continues format begun (length done) requests traces
    → ReadSo format traces (done ++ requests) (lines ++ lines_behind begun requests traces)
read_behind format begun done [] traces lines few are left =
    let all : begun + (traces - begun) ≡ traces = omega (arith, left) in
    subst (λ (n : ℕ). ReadSo format n (done ++ []) (lines ++ beginnings (traces - begun))) all
    (subst (λ (r : List Request). ReadSo format (begun + (traces - begun)) r (lines ++ beginnings (traces - begun))) (sym (append-nil done))
    (traces_more format (traces - begun) begun done lines (omega (arith, all, few)) are))
read_behind format begun done (request ∷ requests) traces lines few are (later, within, number, room, small, fits, left) =
    let count = request.trace + 1 - begun in
    let all : begun + count ≡ request.trace + 1 = omega (arith, later) in
    let begins = subst (λ (n : ℕ). ReadSo format n done (lines ++ beginnings count)) all (traces_more format count begun done lines (omega (arith, all, few, within)) are) in
    let asked = request_more format request done (lines ++ beginnings count) number room small fits.0 fits.1 begins in
    let size : length done + 1 ≡ length (done ++ request ∷ []) = sym (length-append done (request ∷ [])) in
    let rest = read_behind format (request.trace + 1) (done ++ request ∷ []) requests traces ((lines ++ beginnings count) ++ line_of request.op ∷ []) few asked (subst (λ (n : ℕ). Continues format (request.trace + 1) n requests traces) size left) in
    subst (λ (l : List (List ℕ)). ReadSo format traces (done ++ request ∷ requests) l)
    (append_assoc (lines ++ beginnings count) (line_of request.op ∷ []) (lines_behind (request.trace + 1) requests traces)
    ∙ append_assoc lines (beginnings count) (line_of request.op ∷ lines_behind (request.trace + 1) requests traces))
    (subst (λ (r : List Request). ReadSo format traces r (((lines ++ beginnings count) ++ line_of request.op ∷ []) ++ lines_behind (request.trace + 1) requests traces)) (append_assoc done (request ∷ []) requests) rest)

-- nothing was read yet, and then the header
nothing_read : (format : ℕ) → AreRead 0 None (traces_so format 0 []) []
nothing_read format = record {
  count = refl;
  header = refl;
  none_refused = λ place within. absurd (omega arith);
  traces = record { count = refl; requests = refl };
  ordered = AreInOrder-none;
  formats = refl;
}

-- the header of a format ends with its digit
header_text : (format : ℕ) → format < 10 → header_line format ≡ codes "flock " ++ (48 + format) ∷ []
header_text format small = ap (λ digits. codes "flock " ++ digits) (decimal_digit format small)

header_taken : (format : ℕ) (line : List ℕ) → header_line format ≡ line → Says (Header format) None false line → ReadSo format 0 [] (header_line format ∷ [])
header_taken format line is says = subst (λ (l : List ℕ). ReadSo format 0 [] (l ∷ [])) (sym is)
    (line_more 0 None (traces_so format 0 []) 1 (Some format) (traces_so format 0 []) [] line (Header format) (nothing_read format) says (refl, refl) refl refl)

header_read : (format : ℕ) → IsFormat format → ReadSo format 0 [] (header_line format ∷ [])
header_read format (some, low) = ⊎_elim
    (λ less. let is : 1 ≡ format = omega (arith, some, less) in subst (λ (f : ℕ). ReadSo f 0 [] (header_line f ∷ [])) is first)
    (λ not_one. ⊎_elim
    (λ less. let is : 2 ≡ format = omega (arith, not_one, less) in subst (λ (f : ℕ). ReadSo f 0 [] (header_line f ∷ [])) is second)
    (λ not_two. let is : 3 ≡ format = omega (arith, low, not_two) in subst (λ (f : ℕ). ReadSo f 0 [] (header_line f ∷ [])) is third)
    (cases_lt format 3))
    (cases_lt format 2)
  where
    first : ReadSo 1 0 [] (header_line 1 ∷ [])
    first = header_taken 1 (codes "flock 1") (header_text 1 (omega arith)) (record { fault = refl; header = refl; trace = refl; operation = refl; placed = (refl, (omega arith, omega arith)) })

    second : ReadSo 2 0 [] (header_line 2 ∷ [])
    second = header_taken 2 (codes "flock 2") (header_text 2 (omega arith)) (record { fault = refl; header = refl; trace = refl; operation = refl; placed = (refl, (omega arith, omega arith)) })

    third : ReadSo 3 0 [] (header_line 3 ∷ [])
    third = header_taken 3 (codes "flock 3") (header_text 3 (omega arith)) (record { fault = refl; header = refl; trace = refl; operation = refl; placed = (refl, (omega arith, omega arith)) })

-- it is one line
header_one_line : (format : ℕ) → IsFormat format → IsOneLine (header_line format)
header_one_line format (some, low) = printed_one_line (header_line format) (digits_printed (decimal format) (printed_digits format (omega (arith, low))).each)

-- the lines of a text whose lines a line feed ends
printed_pieces : (lines : List (List ℕ)) → All IsOneLine lines → pieces_of (flat_map with_feed lines) ≡ lines ++ [] ∷ []
printed_pieces [] each = refl
printed_pieces (line ∷ lines) each =
    ap pieces_of (append_assoc line (10 ∷ []) (flat_map with_feed lines))
    ∙ pieces_of-feed line (flat_map with_feed lines)
    ∙ ap (λ front. front ++ pieces_of (flat_map with_feed lines)) (slice_split_none (λ byte. byte == 10) line (each 0 line (omega arith)))
    ∙ ap (λ more. line ∷ more) (printed_pieces lines (λ k d early. each (suc k) d (omega (arith, early))))

AllByRec : (P : List ℕ → Type 0) (xs ys : List (List ℕ)) → AllByRecursion P xs → AllByRecursion P ys → AllByRecursion P (xs ++ ys)
AllByRec P [] ys a b = b
AllByRec P (x ∷ xs) ys (p, a) b = (p, AllByRec P xs ys a b)

beginnings_plain : (count : ℕ) → AllByRecursion IsOneLine (beginnings count)
beginnings_plain zero = tt
beginnings_plain (suc count) = (printed_one_line (codes "trace") refl, beginnings_plain count)

behind_plain : (format begun number : ℕ) (requests : List Request) (traces : ℕ) → Continues format begun number requests traces → AllByRecursion IsOneLine (lines_behind begun requests traces)
behind_plain format begun number [] traces left = beginnings_plain (traces - begun)
behind_plain format begun number (request ∷ requests) traces (later, within, is, room, small, fits, left) =
    AllByRec IsOneLine (beginnings (request.trace + 1 - begun)) (line_of request.op ∷ lines_behind (request.trace + 1) requests traces) (beginnings_plain (request.trace + 1 - begun))
    (line_one request.op small fits.0, behind_plain format (request.trace + 1) (number + 1) requests traces left)

-- how many bytes they have
abbrev size_of : List (List ℕ) → ℕ
size_of lines = length (flat_map with_feed lines)

size-cons : (line : List ℕ) (lines : List (List ℕ)) → size_of (line ∷ lines) ≡ length line + 1 + size_of lines
size-cons line lines = length-append (line ++ 10 ∷ []) (flat_map with_feed lines) ∙ ap (λ n. n + size_of lines) (length-append line (10 ∷ []))

size-append : (xs ys : List (List ℕ)) → size_of (xs ++ ys) ≡ size_of xs + size_of ys
size-append [] ys = omega arith
size-append (x ∷ xs) ys = size-cons x (xs ++ ys) ∙ ap (λ n. length x + 1 + n) (size-append xs ys) ∙ omega (arith, size-cons x xs)

size-beginnings : (count : ℕ) → size_of (beginnings count) ≡ 6 * count
size-beginnings zero = refl
size-beginnings (suc count) = size-cons (codes "trace") (beginnings count) ∙ omega (arith, size-beginnings count)

line_length : (op : Op) → HasLowKeys op → HasSmallValue op → length (line_of op) ≤ 25
line_length (Get key) small fits = omega (arith, digits_length key (omega (arith, small)))
line_length (Del key) small fits = omega (arith, digits_length key (omega (arith, small)))
line_length (Ins key value) small fits = omega (arith, length-append (decimal key) (32 ∷ decimal value), digits_length key (omega (arith, small)), digits_length value (omega (arith, fits)))
line_length (Put key value) small fits = omega (arith, length-append (decimal key) (32 ∷ decimal value), digits_length key (omega (arith, small)), digits_length value (omega (arith, fits)))
line_length (Mov from to) small fits = omega (arith, length-append (decimal from) (32 ∷ decimal to), digits_length from (omega (arith, small.0)), digits_length to (omega (arith, small.1)))

behind_size : (format begun number : ℕ) (requests : List Request) (traces : ℕ) → Continues format begun number requests traces → size_of (lines_behind begun requests traces) + 6 * begun ≤ 6 * traces + 26 * length requests
behind_size format begun number [] traces left = omega (arith, size-beginnings (traces - begun), left)
behind_size format begun number (request ∷ requests) traces (later, within, is, room, small, fits, left) =
    let count = request.trace + 1 - begun in
    let rest = lines_behind (request.trace + 1) requests traces in
    omega (
      arith,
      size-append (beginnings count) (line_of request.op ∷ rest),
      size-beginnings count,
      size-cons (line_of request.op) rest,
      line_length request.op small fits.0,
      behind_size format (request.trace + 1) (number + 1) requests traces left,
      later,
      within,
    )

-- the header has so few bytes
header_length : (format : ℕ) → format ≤ 3 → length (header_line format) ≤ 16
header_length format low = omega (arith, digits_length format (omega (arith, low)))

-- a printed text is in the grammar, and its requests are these
pub printed_read : (requests : List Request) (traces : ℕ) → AreInOrder requests traces → HaveSmallValues requests → AreTracesOf (traces_so (format_for requests) traces requests) (printed requests traces)
printed_read requests traces are small =
    let format = format_for requests in
    let known : IsFormat format = (format_for_some requests, format_for_low requests) in
    let left = all_continue format requests traces are small (format_for_covers requests) in
    let header = header_line format in
    let lines = printed_lines requests traces in
    let text = printed requests traces in
    let plain = All-from_recursion IsOneLine lines (header_one_line format known, behind_plain format 0 0 requests traces left) in
    let read : ReadSo format traces requests lines = read_behind format 0 [] requests traces (header ∷ []) are.few_traces (header_read format known) left in
    let size : length text ≤ 4194304 =
    omega (arith, size-cons header (lines_behind 0 requests traces), header_length format known.1, behind_size format 0 0 requests traces left, are.few_traces, are.few) in
    let within : lines_read text ≡ lines = ended_lines text lines [] (printed_pieces lines plain) size ∙ append-nil lines in
    let same : lines_of text ≡ lines = lines_of-read text lines size within in
    record {
      accepted = all_accepted text lines within read.none_refused (end_refusal-within text lines (Some format) size within (sym read.header));
      format = ap format_in same ∙ sym read.header;
      count = read.traces.count ∙ ap traces_in (sym same);
      requests = read.traces.requests ∙ ap requests_in (sym same);
      formats = read.formats;
    }
