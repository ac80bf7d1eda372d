-- The formats of operations, of what lines ask, and of requests.
use Rattle.std.proofs.Common.{◌≡◌, ℕ, zero, suc, ◌-◌, ◌≤◌, Bool, true, List, [], ◌∷◌, ◌++◌, Option, None, Some, length, refl, sym, subst, arith, inl, inr, ⊎_elim}
use Rattle.std.specs.Prelude.{fold, max}
use Rattle.std.proofs.lemmas.List.Elements.{All-append}
use Rattle.map_history.specs.declared.op.Op.{Op}
use Rattle.map_history.specs.declared.op.Op.TheVariants.{Get, Ins, Del, Put, Mov}
use Rattle.map_history.specs.declared.op.Request.{Request}
use Rattle.map_history.specs.Keys.{least_format, DependsOn, IsOneKeyed, is_format_1}
use Rattle.map_history.specs.Requests.{AreOfFormat1}
use Rattle.trace_reader.specs.declared.line.Line.{Line}
use Rattle.trace_reader.specs.declared.line.Line.TheVariants.{Skipped, Header, Trace, Ask}
use Rattle.trace_reader.specs.declared.traces.Traces.{Traces}
use Rattle.trace_reader.specs.Formats.{AreOfFormat, format_for}
use Rattle.trace_reader.specs.Reader.{AreAskedIn, TracesAfter}
use Rattle.trace_reader.specs.Said.{HasLowKeys, IsAskedIn, IsPlaced, format_after}
use Rattle.trace_reader.proofs.Ordered.{All-one}

-- an operation of format 1 or 2 has one key
pub one_keyed : (op : Op) → least_format op ≤ 2 → IsOneKeyed op
one_keyed (Get key) low = refl
one_keyed (Ins key value) low = refl
one_keyed (Del key) low = refl
one_keyed (Put key value) low = refl
one_keyed (Mov from to) low = absurd (omega (arith, low))

-- of format 1 are get, ins and del
pub format_1 : (op : Op) → least_format op ≤ 1 → is_format_1 op ≡ true
format_1 (Get key) low = refl
format_1 (Ins key value) low = refl
format_1 (Del key) low = refl
format_1 (Put key value) low = absurd (omega (arith, low))
format_1 (Mov from to) low = absurd (omega (arith, low))

pub within_1 : (op : Op) → is_format_1 op ≡ true → least_format op ≤ 1
within_1 (Get key) is = omega arith
within_1 (Ins key value) is = omega arith
within_1 (Del key) is = omega arith
within_1 (Put key value) is = absurd (cc)
within_1 (Mov from to) is = absurd (cc)

-- each operation can be asked in some format that is read
pub some_format : (op : Op) → least_format op ≤ 3
some_format (Get key) = omega arith
some_format (Ins key value) = omega arith
some_format (Del key) = omega arith
some_format (Put key value) = omega arith
some_format (Mov from to) = omega arith

-- the keys on which an operation depends
pub keys_low : (op : Op) → HasLowKeys op → (key : ℕ) → DependsOn op key → key ≤ 4294967293
keys_low (Get own) low key on = ⊎_elim (λ is. omega (arith, is, low)) (λ none. absurd (cc)) on
keys_low (Ins own value) low key on = ⊎_elim (λ is. omega (arith, is, low)) (λ none. absurd (cc)) on
keys_low (Del own) low key on = ⊎_elim (λ is. omega (arith, is, low)) (λ none. absurd (cc)) on
keys_low (Put own value) low key on = ⊎_elim (λ is. omega (arith, is, low)) (λ none. absurd (cc)) on
keys_low (Mov from to) low key on = ⊎_elim (λ is. omega (arith, is, low.0)) (λ is. subst (λ n. n ≤ 4294967293) (some_same to key is) low.1) on
  where
    some_same : (a b : ℕ) → ◌≡◌ {A = Option ℕ} (Some a) (Some b) → a ≡ b
    some_same a b e = cc

pub low_keys : (op : Op) → ((key : ℕ) → DependsOn op key → key ≤ 4294967293) → HasLowKeys op
low_keys (Get key) low = low key (inl refl)
low_keys (Ins key value) low = low key (inl refl)
low_keys (Del key) low = low key (inl refl)
low_keys (Put key value) low = low key (inl refl)
low_keys (Mov from to) low = (low from (inl refl), low to (inr refl))

-- the format that requests need, from request to request
abbrev needed : ℕ → Request → ℕ
needed format request = max format (least_format request.op)

reaches : (format : ℕ) (requests : List Request) → format ≤ fold needed format requests
reaches format [] = omega arith
reaches format (request ∷ requests) = omega (arith, reaches (needed format request) requests)

covers : (format : ℕ) (requests : List Request) → AreOfFormat (fold needed format requests) requests
covers format [] k d early = absurd (omega (arith, early))
covers format (request ∷ requests) zero d early = omega (arith, reaches (needed format request) requests)
covers format (request ∷ requests) (suc k) d early = covers (needed format request) requests k d (omega (arith, early))

stays : (format bound : ℕ) (requests : List Request) → format ≤ bound → AreOfFormat bound requests → fold needed format requests ≤ bound
stays format bound [] low each = low
stays format bound (request ∷ requests) low each =
    stays (needed format request) bound requests (omega (arith, low, each 0 request (omega arith))) (λ k d early. each (suc k) d (omega (arith, early)))

-- it has them all, and no lower one does
pub format_for_some : (requests : List Request) → 1 ≤ format_for requests
format_for_some requests = reaches 1 requests

pub format_for_covers : (requests : List Request) → AreOfFormat (format_for requests) requests
format_for_covers requests = covers 1 requests

pub format_for_low : (requests : List Request) → format_for requests ≤ 3
format_for_low requests = stays 1 3 requests (omega arith) (λ k d early. some_format _)

pub format_for_within : (bound : ℕ) (requests : List Request) → 1 ≤ bound → AreOfFormat bound requests → format_for requests ≤ bound
format_for_within bound requests some each = stays 1 bound requests some each

pub first_within : (bound : ℕ) (requests : List Request) → 1 ≤ bound → AreOfFormat1 requests → AreOfFormat bound requests
first_within bound requests some first k d early = omega (arith, some, within_1 _ (first k d early))

pub format_for_1 : (requests : List Request) → AreOfFormat1 requests → format_for requests ≡ 1
format_for_1 requests first =
    omega (arith, format_for_some requests, format_for_within 1 requests (omega arith) (first_within 1 requests (omega arith) first))

-- the requests behind one more line are of the header's format
same_formats : (format : Option ℕ) (before after : List Request) → after ≡ before → AreAskedIn format before → AreAskedIn format after
same_formats format before after same are = subst (AreAskedIn format) (sym same) are

one_more_format : (format : Option ℕ) (before after : List Request) (request : Request) → IsAskedIn format request.op → after ≡ before ++ request ∷ [] → AreAskedIn format before → AreAskedIn format after
one_more_format None before after request asked added are = absurd asked
one_more_format (Some format) before after request asked added are =
    subst (AreOfFormat format) (sym added)
    (All-append (λ (r : Request). least_format r.op ≤ format) before (request ∷ []) are (All-one (λ (r : Request). least_format r.op ≤ format) request asked))

header_format : (format : Option ℕ) (number : ℕ) (requests : List Request) → format ≡ None → AreAskedIn format requests → AreOfFormat number requests
header_format format number requests none are =
    let empty : requests ≡ [] = subst (λ f. AreAskedIn f requests) none are in
    subst (AreOfFormat number) (sym empty) (λ k d early. absurd (omega (arith, early)))

pub formats_behind : (said : Line) (format : Option ℕ) (begun : Bool) (before after : Traces) → IsPlaced said format begun → TracesAfter said before after → AreAskedIn format before.requests
    → AreAskedIn (format_after format said) after.requests
formats_behind Skipped format begun before after placed (same, still) are = same_formats format before.requests after.requests still are
formats_behind (Header number) format begun before after (none, known) (same, still) are =
    subst (AreOfFormat number) (sym still) (header_format format number before.requests none are)
formats_behind Trace format begun before after placed (more, few, still) are = same_formats format before.requests after.requests still are
formats_behind (Ask op) format begun before after (asked, begins, small) (same, added, few) are =
    one_more_format format before.requests after.requests (record { trace = before.count - 1; number = length before.requests; op = op }) asked added are
