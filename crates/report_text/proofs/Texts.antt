-- What a sink holds after several texts, and after texts that wait in a page.
use Rattle.std.proofs.Common.{◌≡◌, ℕ, ◌-◌, ◌≤◌, List, [], ◌++◌, Option, None, Some, Result, Ok, Err, OnOk, OnErr, subst, refl, sym, ap, ◌∙◌, append_assoc, arith, length, take, drop}
use Rattle.std.specs.Io.KnownBytes.{Keeps}
use Rattle.std.proofs.lemmas.List.{append-nil, take_rest, take-append-drop}
use Rattle.fault_count.specs.Rose.{Rose}
use Rattle.report_text.specs.Sink.{Extends, ExtendsInPart, Appends}
use Rattle.report_text.specs.Page.{Gathers}

-- a text after a text
pub Extends-append : (before mid after : Option (List ℕ)) (first second : List ℕ) → Extends before first mid → Extends mid second after → Extends before (first ++ second) after
Extends-append None mid after first second a b = tt
Extends-append (Some held) None after first second a b = absurd a
Extends-append (Some held) (Some more) None first second a b = absurd b
Extends-append (Some held) (Some more) (Some last) first second a b = b ∙ ap (λ l. l ++ second) a ∙ append_assoc held first second

-- nothing was added
pub Extends-nothing : (before : Option (List ℕ)) → Extends before [] before
Extends-nothing None = tt
Extends-nothing (Some held) = sym (append-nil held)

-- a call that added nothing
pub Extends-kept : (before mid after : Option (List ℕ)) (bytes : List ℕ) → Extends before bytes mid → Keeps mid after → Extends before bytes after
Extends-kept None mid after bytes a kept = tt
Extends-kept (Some held) None after bytes a kept = absurd a
Extends-kept (Some held) (Some more) None bytes a kept = absurd kept
Extends-kept (Some held) (Some more) (Some last) bytes a kept = kept ∙ a

-- nothing was added, where the text is to follow
pub ExtendsInPart-nothing : (before : Option (List ℕ)) (text : List ℕ) → ExtendsInPart before text before
ExtendsInPart-nothing before text = record { front = []; rest = text; whole = refl; added = Extends-nothing before }

-- a text, and then a part of the next
pub ExtendsInPart-behind : (before mid after : Option (List ℕ)) (first second text : List ℕ) → first ++ second ≡ text → Extends before first mid → ExtendsInPart mid second after → ExtendsInPart before text after
ExtendsInPart-behind before mid after first second text whole a b = record {
  front = first ++ b.front;
  rest = b.rest;
  whole = append_assoc first b.front b.rest ∙ ap (λ l. first ++ l) b.whole ∙ whole;
  added = Extends-append before mid after first b.front a b.added;
}

-- a part of a text, and nothing of the next
pub ExtendsInPart-within : (before after : Option (List ℕ)) (first second text : List ℕ) → first ++ second ≡ text → ExtendsInPart before first after → ExtendsInPart before text after
ExtendsInPart-within before after first second text whole a = record {
  front = a.front;
  rest = a.rest ++ second;
  whole = sym (append_assoc a.front a.rest second) ∙ ap (λ l. l ++ second) a.whole ∙ whole;
  added = a.added;
}

-- a page that waits as it did
pub Gathers-nothing : (before : Option (List ℕ)) (page : List ℕ) → Gathers before page [] before page
Gathers-nothing before page = record { sent = []; added = Extends-nothing before; whole = sym (append-nil page) }

-- the whole page was sent
pub Gathers-sent : (before after : Option (List ℕ)) (page : List ℕ) → Extends before page after → Gathers before page [] after []
Gathers-sent before after page added = record { sent = page; added = added; whole = refl }

-- bytes that go behind the page
pub Gathers-push : (before after : Option (List ℕ)) (page page_after bytes : List ℕ) → Gathers before page [] after page_after → Gathers before page bytes after (page_after ++ bytes)
Gathers-push before after page page_after bytes a = record {
  sent = a.sent;
  added = a.added;
  whole = sym (append_assoc a.sent page_after bytes) ∙ ap (λ l. l ++ bytes) (a.whole ∙ append-nil page);
}

-- bytes, and then more bytes
pub Gathers-append : {before mid after : Option (List ℕ)} {page page_mid page_after first second : List ℕ} → Gathers before page first mid page_mid → Gathers mid page_mid second after page_after → Gathers before page (first ++ second) after page_after
Gathers-append {before} {mid} {after} {page} {page_mid} {page_after} {first} {second} a b = record {
  sent = a.sent ++ b.sent;
  added = Extends-append before mid after a.sent b.sent a.added b.added;
  whole = append_assoc a.sent b.sent page_after ∙ ap (λ l. a.sent ++ l) b.whole ∙ sym (append_assoc a.sent page_mid second) ∙ ap (λ l. l ++ second) a.whole ∙ append_assoc page first second;
}

-- what was sent, what waits in the page and what is left are the text
pub record Underway (before : Option (List ℕ)) (text : List ℕ) (held : Option (List ℕ)) (page left : List ℕ) : Type 0 where
  pub sent : List ℕ
  pub added : Extends before sent held
  pub whole : sent ++ (page ++ left) ≡ text

pub Underway-start : (before : Option (List ℕ)) (text page : List ℕ) → page ≡ [] → Underway before text before page text
Underway-start before text page empty = record { sent = []; added = Extends-nothing before; whole = ap (λ p. p ++ text) empty }

-- bytes were printed behind a page, and more are to follow
pub Underway-from : {before held : Option (List ℕ)} {page bytes left all page_after : List ℕ} → bytes ++ left ≡ all → Gathers before page bytes held page_after → Underway before (page ++ all) held page_after left
Underway-from {before} {held} {page} {bytes} {left} {all} {page_after} next g = record {
  sent = g.sent;
  added = g.added;
  whole = sym (append_assoc g.sent page_after left) ∙ ap (λ l. l ++ left) g.whole ∙ append_assoc page bytes left ∙ ap (λ l. page ++ l) next;
}

-- the next bytes of what is left were printed
pub Underway-more : {before : Option (List ℕ)} {text : List ℕ} {held after : Option (List ℕ)} {page page_after bytes left all : List ℕ} → bytes ++ left ≡ all → Underway before text held page all → Gathers held page bytes after page_after → Underway before text after page_after left
Underway-more {before} {text} {held} {after} {page} {page_after} {bytes} {left} {all} next u g = record {
  sent = u.sent ++ g.sent;
  added = Extends-append before held after u.sent g.sent u.added g.added;
  whole =
      append_assoc u.sent g.sent (page_after ++ left)
      ∙ ap (λ l. u.sent ++ l) (sym (append_assoc g.sent page_after left) ∙ ap (λ l. l ++ left) g.whole ∙ append_assoc page bytes left ∙ ap (λ l. page ++ l) next)
      ∙ u.whole;
}

-- some of what is left was written with no page between
pub Underway-write : (before : Option (List ℕ)) (text : List ℕ) (held after : Option (List ℕ)) (rest : List ℕ) (count : ℕ) → Underway before text held [] rest → Extends held (take count rest) after → Underway before text after [] (take (length rest - count) (drop count rest))
Underway-write before text held after rest count u added =
    let next : take count rest ++ take (length rest - count) (drop count rest) ≡ rest = ap (λ l. take count rest ++ l) (take_rest rest count) ∙ take-append-drop count rest in
    Underway-more next u
    (record { sent = take count rest; added = added; whole = append-nil (take count rest) })

-- a part of the page was sent, and nothing of what is left
pub Underway-fails : {before : Option (List ℕ)} {text : List ℕ} {held after : Option (List ℕ)} {page left : List ℕ} → Underway before text held page left → ExtendsInPart held page after → ExtendsInPart before text after
Underway-fails {before} {text} {held} {after} {page} {left} u part =
    ExtendsInPart-behind before held after u.sent (page ++ left) text u.whole u.added (ExtendsInPart-within held after page left (page ++ left) refl part)

-- a part of the page and of the next bytes was sent, and nothing of what is left
pub Underway-fails_more : {before : Option (List ℕ)} {text : List ℕ} {held after : Option (List ℕ)} {page all : List ℕ} (bytes left : List ℕ) → bytes ++ left ≡ all → Underway before text held page all → ExtendsInPart held (page ++ bytes) after → ExtendsInPart before text after
Underway-fails_more {before} {text} {held} {after} {page} {all} bytes left next u part =
    ExtendsInPart-behind before held after u.sent (page ++ all) text u.whole u.added
    (ExtendsInPart-within held after (page ++ bytes) left (page ++ all) (append_assoc page bytes left ∙ ap (λ l. page ++ l) next) part)

-- the page was sent, and nothing is left
pub Underway-end : (before : Option (List ℕ)) (text : List ℕ) (held after : Option (List ℕ)) (page : List ℕ) → Underway before text held page [] → Extends held page after → Extends before text after
Underway-end before text held after page u added =
    let whole : u.sent ++ page ≡ text = ap (λ l. u.sent ++ l) (sym (append-nil page)) ∙ u.whole in
    subst (λ (t : List ℕ). Extends before t after) whole (Extends-append before held after u.sent page u.added added)

-- the last page is sent, or a part of it
pub Appends-end : {T E : Type 0} (r : Result T E) (before : Option (List ℕ)) (text : List ℕ) (held after : Option (List ℕ)) (page left : List ℕ) → left ≡ [] → Underway before text held page left → OnOk r (Extends held page after) → OnErr r (ExtendsInPart held page after) → Appends r before text after
Appends-end (Ok x) before text held after page left none u ok err = let P : List ℕ → Type 0 = λ l. Underway before text held page l in Underway-end before text held after page (subst P none u) ok
Appends-end (Err e) before text held after page left none u ok err = Underway-fails u err

-- a fault that is counted after a count that rose no less
pub Rose-after : (before mid after : ℕ) → before ≤ mid → Rose mid after → Rose before after
Rose-after before mid after low rose = omega arith

-- a fault that was counted before the count rose further
pub Rose-before : (before mid after : ℕ) → Rose before mid → mid ≤ after → Rose before after
Rose-before before mid after rose low = omega arith
