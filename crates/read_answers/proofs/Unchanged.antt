-- Where an operation's reply says that it leaves the map as it was, it does.
use Rattle.std.proofs.Common.{◌≡◌, ℕ, Bool, true, false, cond, Option, None, Some, is_some, refl, sym, ap, ◌∙◌, ◌==◌, ⊎_elim, arith}
use Rattle.std.specs.Prelude.{◌⊎◌, ◌*◌, ◌^◌}
use Rattle.std.specs.FinMap.{get, contains_key, insert, remove}
use Rattle.section_lines.specs.structure_laws.specs.map_history.specs.declared.op.Op.{Op}
use Rattle.section_lines.specs.structure_laws.specs.map_history.specs.declared.op.Op.TheVariants.{Get, Ins, Del, Put, Mov}
use Rattle.section_lines.specs.structure_laws.specs.map_history.specs.declared.reply.Reply.TheVariants.{New, Dup, Gone, Absent}
use Rattle.section_lines.specs.structure_laws.specs.map_history.specs.Replay.{Pairs, moved, after_move, reply_of, map_after}
use Rattle.section_lines.specs.structure_laws.specs.map_history.specs.Words.{word_of}
use Rattle.section_lines.specs.structure_laws.specs.map_history.proofs.Cells.{same_pairs, same_there, get-remove_key}
use Rattle.section_lines.specs.structure_laws.specs.Fitting.{Leaves}

inserted : (pairs : Pairs) (key value : ℕ) (b : Bool) → word_of (cond b Dup New) ≡ word_of Dup
    → cond b pairs (insert pairs key value) ≡ pairs
inserted pairs key value true says = refl
inserted pairs key value false says = absurd (let apart : 1 * 2 ^ 32 ≡ 2 * 2 ^ 32 = says in omega arith)

removed : (pairs : Pairs) (key : ℕ) (had : Option ℕ) → get pairs key ≡ had → word_of (cond (is_some had) Gone Absent) ≡ word_of Absent
    → remove pairs key ≡ pairs
removed pairs key None is says = same_pairs _ _ (λ q.
    get-remove_key pairs key q ∙ sym (same_there (get pairs) key q ∙ ap (λ o. cond (q == key) o (get pairs q)) is))
removed pairs key (Some value) is says = absurd (let apart : 4 * 2 ^ 32 ≡ 5 * 2 ^ 32 = says in omega arith)

went : (pairs : Pairs) (from to : ℕ) (had there : Option ℕ)
    → (word_of (moved had there) ≡ word_of Dup) ⊎ (word_of (moved had there) ≡ word_of Absent) → after_move pairs from to had there ≡ pairs
went pairs from to None there says = refl
went pairs from to (Some value) (Some there) says = refl
went pairs from to (Some value) None says = absurd (⊎_elim
    (λ dup. let apart : 7 * 2 ^ 32 ≡ 2 * 2 ^ 32 = dup in omega arith)
    (λ absent. let apart : 7 * 2 ^ 32 ≡ 5 * 2 ^ 32 = absent in omega arith) says)

pub unchanged : (pairs : Pairs) (op : Op) → Leaves op (word_of (reply_of pairs op)) → map_after pairs op ≡ pairs
unchanged pairs (Get key) says = refl
unchanged pairs (Ins key value) says = inserted pairs key value (contains_key pairs key) says
unchanged pairs (Del key) says = removed pairs key (get pairs key) refl says
unchanged pairs (Put key value) says = absurd says
unchanged pairs (Mov from to) says = went pairs from to (get pairs from) (get pairs to) says
