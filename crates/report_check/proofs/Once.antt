-- A report is read in one way.
use Rattle.std.proofs.Common.{◌≡◌, ℕ, zero, suc, ◌+◌, ◌-◌, ◌<◌, ◌≤◌, ◌^◌, cond, List, [], ◌∷◌, ◌++◌, Option, None, Some, codes, length, map, drop, inl, inr, refl, sym, ap, ◌∙◌, subst, arith}
use Rattle.std.specs.Prelude.{◌==◌, All, decimal, nat_lt, position, slice_index}
use Rattle.std.specs.Char.{is_ascii_digit}
use Rattle.std.specs.List.{list_all, range_with_len}
use Rattle.std.proofs.lemmas.List.{append_cancel_left}
use Rattle.std.proofs.lemmas.List.Elements.{All-head, All-tail}
use Rattle.small_lemmas.proofs.Bools.{both_of}
use Rattle.history_orders.specs.map_history.specs.declared.op.Request.{Request}
use Rattle.history_orders.specs.map_history.specs.declared.reply.Reply.{Reply}
use Rattle.history_orders.specs.map_history.specs.declared.reply.Reply.TheVariants.{New, Dup, Val, Gone, Absent, Was, Moved}
use Rattle.history_orders.specs.map_history.specs.Words.{IsReply}
use Rattle.report_text.specs.Report.{Answer, Line, Row, reply_text}
use Rattle.report_text.specs.Report.Line.{trace_line, answer_line, final_line}
use Rattle.trace_reader.specs.Fields.{value_of}
use Rattle.trace_reader.proofs.Digits.{digit_bounds}
use Rattle.report_check.specs.Lines.{IsFirstBad, IsNumeral, SayAll, Says, SaysAnswer, SaysSize}
use Rattle.report_check.specs.Rows.{unserved}
use Rattle.report_check.proofs.Cuts.{cut_once, same_heads}
use Rattle.report_check.proofs.Forms.{lines_behind, request_of, traces_from}
use Rattle.report_check.proofs.Numerals.{numeral_decimal, numeral_once}
use Rattle.report_check.proofs.Sayings.{answer_other, no_space_found, others_one, size_other, space_at, trace_other}

-- the reply that is printed so
abbrev reply_by : (first third value : ℕ) → Reply
reply_by first third value =
    cond (first == 110) (cond (third == 119) New Absent) (cond (first == 100) Dup (cond (first == 118) (Val value) (cond (first == 103) Gone (cond (first == 119) (Was value) Moved))))

abbrev reply_in_text : List ℕ → Reply
reply_in_text text = reply_by (slice_index text 0) (slice_index text 2) (value_of (drop 4 text))

value_back : (value : ℕ) → value < 2 ^ 32 → value_of (decimal value) ≡ value
value_back value small = let is = (numeral_decimal value small).stands in omega (arith, is, small)

reply_back : (reply : Reply) → IsReply reply → reply_in_text (reply_text reply) ≡ reply
reply_back New is = refl
reply_back Dup is = refl
reply_back (Val value) is = ap Val (value_back value is)
reply_back Gone is = refl
reply_back Absent is = refl
reply_back (Was value) is = ap Was (value_back value is)
reply_back Moved is = refl

-- a request's line says one answer
served_once : (a b : Answer) (line : List ℕ) → SaysAnswer a line → SaysAnswer b line → a ≡ b
served_once a b line one other = by (position (λ byte. byte == 32) line) refl
  where
    by : (end : Option ℕ) → position (λ byte. byte == 32) line ≡ end → a ≡ b
    by None is = absurd (no_space_found a line one is)
    by (Some end) is =
        let first = space_at a line end one is in
        let second = space_at b line end other is in
        let digits : one.digits ≡ other.digits = sym first.digits_are ∙ second.digits_are in
        let rank = numeral_once other.digits a.rank b.rank (subst (λ (d : List ℕ). IsNumeral d a.rank) digits one.rank) other.rank in
        let reply = sym (reply_back a.reply one.reply) ∙ ap reply_in_text (sym first.text_is ∙ second.text_is) ∙ reply_back b.reply other.reply in
        (λ i. record { rank = rank i; reply = reply i })

-- a rank begins with a digit
begins_with : (digits text : List ℕ) (value : ℕ) → IsNumeral digits value → ◌≡◌ {A = List ℕ} (codes "- unserved") (digits ++ 32 ∷ text) → ⊥
begins_with [] text value is same = let both = both_of (nat_lt 0 0) (list_all is_ascii_digit []) is.number in absurd (let e = both.0 in cc)
begins_with (digit ∷ digits) text value is same =
    let all = both_of (nat_lt 0 (length (digit ∷ digits))) (list_all is_ascii_digit (digit ∷ digits)) is.number in
    let low = digit_bounds digit (both_of (is_ascii_digit digit) (list_all is_ascii_digit digits) all.1).0 in
    let head = (same_heads 45 digit (codes " unserved") (digits ++ 32 ∷ text) same).0 in
    omega (arith, low.0, head)

answer_once : (a b : Option Answer) (line : List ℕ) → Says (answer_line a) line → Says (answer_line b) line → a ≡ b
answer_once None None line one other = refl
answer_once None (Some b) line one other = absurd (begins_with other.digits (reply_text b.reply) b.rank other.rank (sym one ∙ other.is))
answer_once (Some a) None line one other = absurd (begins_with one.digits (reply_text a.reply) a.rank one.rank (sym other ∙ one.is))
answer_once (Some a) (Some b) line one other = ap Some (served_once a b line one other)

size_once : (a b : ℕ) (line : List ℕ) → SaysSize a line → SaysSize b line → a ≡ b
size_once a b line one other =
    let digits = append_cancel_left (codes "final ") one.digits other.digits (sym one.is ∙ other.is) in
    numeral_once other.digits a b (subst (λ (d : List ℕ). IsNumeral d a) digits one.numeral) other.numeral

-- the line of a trace, read twice
trace_cut : (trace : ℕ) (a b more rest : List ℕ) → trace < 2 ^ 32 → Says (trace_line trace) a → Says (trace_line trace) b → a ++ 10 ∷ more ≡ b ++ 10 ∷ rest → more ≡ rest
trace_cut trace a b more rest small one other is = (cut_once a b more rest (others_one a (trace_other trace a small one)) (others_one b (trace_other trace b small other)) is).1

record AreBehind (lines others : List Line) : Type 0 where
  rest : List ℕ
  one : SayAll lines rest
  other : SayAll others rest

both_behind : (n begun : ℕ) (lines others : List Line) (bytes : List ℕ) → begun + n ≤ 2 ^ 32 → SayAll (map trace_line (range_with_len begun n) ++ lines) bytes → SayAll (map trace_line (range_with_len begun n) ++ others) bytes
    → AreBehind lines others
both_behind zero begun lines others bytes few one other = record { rest = bytes; one = one; other = other }
both_behind (suc n) begun lines others bytes few (a, more, says, cut, on) (b, rest, says', cut', on') =
    let same = trace_cut begun a b more rest (omega (arith, few)) says says' (sym cut ∙ cut') in
    both_behind n (begun + 1) lines others rest (omega (arith, few)) (subst (SayAll (map trace_line (range_with_len (begun + 1) n) ++ lines)) same on) on'

-- rows of the same requests that the same bytes say are the same, with one final number
pub record AreOne (rows others : List Row) (size other : ℕ) : Type 0 where
  pub rows_are : rows ≡ others
  pub size_is : size ≡ other

row_one : (a b : Row) → a.request ≡ b.request → a.answer ≡ b.answer → a ≡ b
row_one a b request answer = λ i. record { request = request i; answer = answer i }

same_rest : (a b : Request) (xs ys : List Request) → ◌≡◌ {A = List Request} (a ∷ xs) (b ∷ ys) → (a ≡ b) × (xs ≡ ys)
same_rest a b xs ys e = (cc, cc)

pub rows_once : (begun : ℕ) (rows others : List Row) (traces size other : ℕ) (bytes : List ℕ) → begun ≤ traces + 1 → traces < 2 ^ 32 → All (λ (row : Row). row.request.trace < traces) rows → map request_of rows ≡ map request_of others
    → SayAll (lines_behind begun rows traces size) bytes → SayAll (lines_behind begun others traces other) bytes → AreOne rows others size other
rows_once begun [] [] traces size other bytes begin few low same one two =
    let behind = both_behind (traces - begun) begun (final_line size ∷ []) (final_line other ∷ []) bytes (omega (arith, begin, few)) one two in
    let (a, more, says, cut, on) = behind.one in
    let (b, rest, says', cut', on') = behind.other in
    let again = cut_once a b more rest (others_one a (size_other size a says)) (others_one b (size_other other b says')) (sym cut ∙ cut') in
    record { rows_are = refl; size_is = size_once size other b (subst (SaysSize size) again.0 says) says' }
rows_once begun [] (y ∷ others) traces size other bytes begin few low same one two = absurd (cc)
rows_once begun (x ∷ rows) [] traces size other bytes begin few low same one two = absurd (cc)
rows_once begun (x ∷ rows) (y ∷ others) traces size other bytes begin few low same one two =
    let heads = same_rest x.request y.request (map request_of rows) (map request_of others) same in
    let next = x.request.trace + 1 in
    let within : x.request.trace < traces = All-head (λ (row : Row). row.request.trace < traces) x rows low in
    let two' = subst (λ t. SayAll (traces_from begun (t + 1) ++ answer_line y.answer ∷ lines_behind (t + 1) others traces other) bytes) (sym (ap (λ (r : Request). r.trace) heads.0)) two in
    let behind = both_behind (next - begun) begun (answer_line x.answer ∷ lines_behind next rows traces size) (answer_line y.answer ∷ lines_behind next others traces other) bytes (omega (arith, within, begin, few)) one two' in
    let (a, more, says, cut, on) = behind.one in
    let (b, rest, says', cut', on') = behind.other in
    let again = cut_once a b more rest (others_one a (answer_other x.answer a says)) (others_one b (answer_other y.answer b says')) (sym cut ∙ cut') in
    let answer = answer_once x.answer y.answer b (subst (Says (answer_line x.answer)) again.0 says) says' in
    let later = rows_once next rows others traces size other rest (omega (arith, within)) few (All-tail (λ (row : Row). row.request.trace < traces) x rows low) heads.1
    (subst (SayAll (lines_behind next rows traces size)) again.1 on) on' in
    record { rows_are = (λ i. row_one x y heads.0 answer i ∷ later.rows_are i); size_is = later.size_is }

-- a line that is said can stand in the place of its kind
record IsBadBehind (lines places : List Line) : Type 0 where
  rest : List ℕ
  number : ℕ
  one : SayAll lines rest
  bad : IsFirstBad places rest number

bad_behind : (n begun : ℕ) (lines places : List Line) (bytes : List ℕ) (number : ℕ) → begun + n ≤ 2 ^ 32 → SayAll (map trace_line (range_with_len begun n) ++ lines) bytes
    → IsFirstBad (map trace_line (range_with_len begun n) ++ places) bytes number → IsBadBehind lines places
bad_behind zero begun lines places bytes number few one bad = record { rest = bytes; number = number; one = one; bad = bad }
bad_behind (suc n) begun lines places bytes number few (a, more, says, cut, on) (inl (is, none)) = absurd (none a more says cut)
bad_behind (suc n) begun lines places bytes number few (a, more, says, cut, on) (inr (b, rest, earlier, says', cut', is, bad)) =
    let same = trace_cut begun a b more rest (omega (arith, few)) says says' (sym cut ∙ cut') in
    bad_behind n (begun + 1) lines places rest earlier (omega (arith, few)) (subst (SayAll (map trace_line (range_with_len (begun + 1) n) ++ lines)) same on) bad

no_bad_end : (size number : ℕ) (bytes : List ℕ) → SayAll (final_line size ∷ []) bytes → IsFirstBad (final_line 0 ∷ []) bytes number → ⊥
no_bad_end size number bytes (a, more, says, cut, on) (inl (is, none)) = none a more (size, says) cut
no_bad_end size number bytes (a, more, says, cut, on) (inr (b, rest, earlier, stands, cut', is, bad)) =
    let same = (cut_once a b more rest (others_one a (size_other size a says)) (others_one b (size_other stands.0 b stands.1)) (sym cut ∙ cut')).1 in
    bad.1 (sym same ∙ on)

no_bad_answer : (answer : Option Answer) (lines places : List Line) (number : ℕ) (bytes : List ℕ) → ((more : List ℕ) (number : ℕ) → SayAll lines more → IsFirstBad places more number → ⊥)
    → SayAll (answer_line answer ∷ lines) bytes → IsFirstBad (answer_line None ∷ places) bytes number → ⊥
no_bad_answer answer lines places number bytes later (a, more, says, cut, on) (inl (is, none)) = none a more (answer, says) cut
no_bad_answer answer lines places number bytes later (a, more, says, cut, on) (inr (b, rest, earlier, stands, cut', is, bad)) =
    let same = (cut_once a b more rest (others_one a (answer_other answer a says)) (others_one b (answer_other stands.0 b stands.1)) (sym cut ∙ cut')).1 in
    later rest earlier (subst (SayAll lines) same on) bad

-- each line can stand in its place
pub no_bad : (begun : ℕ) (rows : List Row) (traces size number : ℕ) (bytes : List ℕ) → begun ≤ traces + 1 → traces < 2 ^ 32 → All (λ (row : Row). row.request.trace < traces) rows
    → SayAll (lines_behind begun rows traces size) bytes → IsFirstBad (lines_behind begun (map unserved (map request_of rows)) traces 0) bytes number → ⊥
no_bad begun [] traces size number bytes begin few low one bad =
    let behind = bad_behind (traces - begun) begun (final_line size ∷ []) (final_line 0 ∷ []) bytes number (omega (arith, begin, few)) one bad in
    no_bad_end size behind.number behind.rest behind.one behind.bad
no_bad begun (row ∷ rows) traces size number bytes begin few low one bad =
    let next = row.request.trace + 1 in
    let within : row.request.trace < traces = All-head (λ (r : Row). r.request.trace < traces) row rows low in
    let lines = lines_behind next rows traces size in
    let places = lines_behind next (map unserved (map request_of rows)) traces 0 in
    let behind = bad_behind (next - begun) begun (answer_line row.answer ∷ lines) (answer_line None ∷ places) bytes number (omega (arith, within, begin, few)) one bad in
    no_bad_answer row.answer lines places behind.number behind.rest
    (λ more earlier. no_bad next rows traces size earlier more (omega (arith, within)) few (All-tail (λ (r : Row). r.request.trace < traces) row rows low)) behind.one behind.bad
