-- The example's events may come, and the history that they make.
use Rattle.std.proofs.Common.{◌≡◌, ℕ, List, [], ◌∷◌, refl, sym, ap, ◌∙◌, inr, lit<, lit≤, arith}
use Rattle.std.specs.Prelude.{None}
use Rattle.std.specs.Ordering.{nat_cmp}
use Rattle.std.specs.FinMap.{empty, get, get-empty}
use Rattle.history_orders.specs.map_history.specs.declared.op.Op.TheVariants.{Ins, Del}
use Rattle.history_orders.specs.map_history.specs.declared.reply.Reply.{Reply}
use Rattle.history_orders.specs.map_history.specs.declared.reply.Reply.TheVariants.{New, Gone}
use Rattle.history_orders.specs.map_history.specs.Replay.{Pairs, reply_of, map_after}
use Rattle.history_orders.specs.map_history.specs.Words.{word_of}
use Rattle.history_orders.specs.map_history.specs.AtKey.{reply_at, left_at}
use Rattle.history_orders.specs.map_history.proofs.Cells.{reply_of-at, get-left}
use Rattle.history_orders.specs.Stamped.{Stamped}
use Rattle.history_core.specs.Made.{IsMade}

-- the maps in the order of the stamps' writing
abbrev one_pair : Pairs
one_pair = map_after empty (Ins 9 1)

abbrev no_pair : Pairs
no_pair = map_after one_pair (Del 9)

abbrev nothing : Pairs
nothing = empty

none : (key : ℕ) → get nothing key ≡ None
none key = get-empty nat_cmp key

added : (key : ℕ) → reply_of empty (Ins key 1) ≡ New
added key = reply_of-at empty (Ins key 1) refl ∙ ap (λ o. reply_at o (Ins key 1)) (none key)

taken : reply_of one_pair (Del 9) ≡ Gone
taken = reply_of-at one_pair (Del 9) refl ∙ ap (λ o. reply_at o (Del 9)) (get-left empty (Ins 9 1) 9 refl ∙ ap (λ o. left_at o (Ins 9 1)) (none 9))

added_last : reply_of no_pair (Ins 7 1) ≡ New
added_last = reply_of-at no_pair (Ins 7 1) refl ∙ ap (λ o. reply_at o (Ins 7 1)) (get-left one_pair (Del 9) 7 refl ∙ get-left empty (Ins 9 1) 7 refl ∙ none 7)

-- the history, with these replies
abbrev with_replies : Reply → Reply → Reply → List Stamped
with_replies a b c =
    record { stamp = 4; number = 2; op = Del 9; reply = a } ∷ record { stamp = 2; number = 1; op = Ins 9 1; reply = b }
    ∷ record { stamp = 2; number = 0; op = Ins 7 1; reply = c } ∷ []

pub made : IsMade
made = record {
  enabled = (
    record { unused = refl; idle = refl; own = refl; unknown = refl; earlier = λ k lt same. absurd (omega arith); positive = lit< tt; settled = refl },
    (
      record { used = refl; going = λ at. refl; alone = λ map low e ne used far near key a b. grind arith },
      (
        record { unused = refl; idle = refl; own = refl; unknown = refl; earlier = λ k lt same. absurd (grind arith); positive = lit< tt; settled = refl },
        (
          record { used = refl; going = λ at. refl; alone = λ map low e ne used far near key a b. grind arith },
          (
            record { loaded = refl; alone = λ map at e ne used far near key a b. grind arith; answers = λ map at. ap word_of (sym (added 9)) },
            (
              (refl, lit≤ tt),
              (
                (refl, lit≤ tt),
                (
                  (refl, inr refl),
                  (
                    (λ e. absurd (omega arith), λ e. absurd (omega arith)),
                    (
                      record { section = 1; own = refl; done = refl; knows = λ far. refl },
                      (
                        record { unused = refl; idle = refl; own = refl; unknown = refl; earlier = λ k lt same. grind arith; positive = lit< tt; settled = refl },
                        (
                          record { used = refl; going = λ at. refl; alone = λ map low e ne used far near key a b. grind arith },
                          (
                            record { loaded = refl; alone = λ map at e ne used far near key a b. grind arith; answers = λ map at. ap word_of (sym taken) },
                            (
                              (refl, lit≤ tt),
                              (
                                record { loaded = refl; alone = λ map at e ne used far near key a b. grind arith; answers = λ map at. ap word_of (sym added_last) },
                                tt,
                              ),
                            ),
                          ),
                        ),
                      ),
                    ),
                  ),
                ),
              ),
            ),
          ),
        ),
      ),
    ),
  );
  history = ap (λ a. with_replies a (reply_of empty (Ins 9 1)) (reply_of no_pair (Ins 7 1))) taken
      ∙ ap (λ b. with_replies Gone b (reply_of no_pair (Ins 7 1))) (added 9) ∙ ap (with_replies Gone New) added_last;
}
