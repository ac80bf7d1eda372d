-- How often each kind of reply came, and the text that says so.
use Rattle.std.specs.Prelude.{ℕ, Bool, false, true, List, ◌++◌, Option, None, Some, codes, count_by, decimal}
use Rattle.structure_laws.specs.map_history.specs.declared.op.Entry.{Entry}
use Rattle.structure_laws.specs.map_history.specs.declared.reply.Reply.{Reply}
use Rattle.structure_laws.specs.map_history.specs.declared.reply.Reply.TheVariants as replies
use Rattle.load_counts.specs.declared.counts.Counts.{Counts}
use Rattle.load_counts.specs.declared.counts.Kind.{Kind}
use Rattle.load_counts.specs.declared.counts.Kind.TheVariants.{New, Dup, Val, Gone, Absent}

-- the reply is of this kind
abbrev pub is_of : Kind → Reply → Bool
is_of New replies.New = true
is_of Dup replies.Dup = true
is_of Val (replies.Val value) = true
is_of Gone replies.Gone = true
is_of Absent replies.Absent = true
is_of _ _ = false

-- the request has a reply of this kind
abbrev pub has : Kind → Option Entry → Bool
has kind None = false
has kind (Some entry) = is_of kind entry.reply

abbrev pub counts_by : (Kind → ℕ) → Counts
counts_by count = record { new = count New; dup = count Dup; val = count Val; gone = count Gone; absent = count Absent }

-- how often each kind of reply stands among these entries
abbrev pub counts_in : List (Option Entry) → Counts
counts_in entries = counts_by (λ kind. count_by (has kind) entries)

-- and in a list of replies
abbrev pub counts_of : List Reply → Counts
counts_of list = counts_by (λ kind. count_by (is_of kind) list)

-- the seven lines: how many requests there were, how often each kind of reply came, and how many pairs are left
abbrev pub counts_text : (requests : ℕ) → Counts → (size : ℕ) → List ℕ
counts_text requests counts size =
    codes "requests " ++ decimal requests ++ codes "\nnew " ++ decimal counts.new ++ codes "\ndup " ++ decimal
    counts.dup
    ++ codes "\nval " ++ decimal counts.val ++ codes "\ngone " ++ decimal counts.gone ++ codes "\nnone " ++ decimal
    counts.absent
    ++ codes "\nfinal " ++ decimal size ++ codes "\n"
