-- The events of the example with reads may come, and the history that they make.
use Rattle.std.proofs.Common.{◌≡◌, ℕ, List, [], ◌∷◌, refl, sym, ap, ◌∙◌, inr, lit<, lit≤, arith}
use Rattle.std.specs.Prelude.{None}
use Rattle.std.specs.Ordering.{nat_cmp}
use Rattle.std.specs.FinMap.{empty, get, get-empty}
use Rattle.history_orders.specs.map_history.specs.declared.op.Op.TheVariants.{Get, Ins}
use Rattle.history_orders.specs.map_history.specs.declared.reply.Reply.{Reply}
use Rattle.history_orders.specs.map_history.specs.declared.reply.Reply.TheVariants.{New, Val, Absent}
use Rattle.history_orders.specs.map_history.specs.Replay.{Pairs, reply_of, map_after, found}
use Rattle.history_orders.specs.map_history.specs.Words.{word_of}
use Rattle.history_orders.specs.map_history.specs.AtKey.{reply_at, left_at}
use Rattle.history_orders.specs.map_history.proofs.Cells.{reply_of-at, get-left}
use Rattle.history_orders.specs.Stamped.{Stamped}
use Rattle.history_core.specs.Made.{IsMadeWithReads}

abbrev nothing : Pairs
nothing = empty

abbrev one_pair : Pairs
one_pair = map_after nothing (Ins 1 5)

none : (key : ℕ) → get nothing key ≡ None
none key = get-empty nat_cmp key

absent : reply_of nothing (Get 1) ≡ Absent
absent = ap found (none 1)

added : reply_of nothing (Ins 1 5) ≡ New
added = reply_of-at nothing (Ins 1 5) refl ∙ ap (λ o. reply_at o (Ins 1 5)) (none 1)

value : reply_of one_pair (Get 1) ≡ Val 5
value = ap found (get-left nothing (Ins 1 5) 1 refl ∙ ap (λ o. left_at o (Ins 1 5)) (none 1))

-- the history, with these replies
abbrev with_replies : Reply → Reply → Reply → List Stamped
with_replies a b c =
    record { stamp = 3; number = 3; op = Get 1; reply = a } ∷ record { stamp = 3; number = 2; op = Get 1; reply = a }
    ∷ record { stamp = 2; number = 1; op = Ins 1 5; reply = b } ∷ record { stamp = 1; number = 0; op = Get 1; reply = c } ∷ []

pub made_with_reads : IsMadeWithReads
made_with_reads = record {
  enabled = (
    record { own = refl; unknown = refl; earlier = λ k lt same. absurd (omega arith); positive = lit< tt; settled = refl; alone = λ map d used low high key a b. grind arith; answers = λ map. ap word_of (sym absent); still = λ map. refl },
    (
      record { seen = _; looked = refl; unreplied = refl; idle = refl; unknown = refl },
      (
        record { seen = _; looked = refl; replied = refl },
        (
          record { unused = refl; idle = refl; own = refl; unknown = refl; earlier = λ k lt same. grind arith; positive = lit< tt; settled = refl },
          (
            record { used = refl; going = λ at. refl; alone = λ map low e ne used far near key a b. grind arith },
            (
              record { loaded = refl; alone = λ map at e ne used far near key a b. grind arith; answers = λ map at. ap word_of (sym added) },
              (
                (refl, lit≤ tt),
                (
                  (refl, lit≤ tt),
                  (
                    (refl, inr refl),
                    (
                      (λ e. absurd (omega arith), λ e. absurd (omega arith)),
                      (
                        record { section = 0; own = refl; done = refl; knows = λ far. refl },
                        (
                          record { own = refl; unknown = refl; earlier = λ k lt same. grind arith; positive = lit< tt; settled = refl; alone = λ map d used low high key a b. grind arith; answers = λ map. ap word_of (sym value); still = λ map. refl },
                          (
                            record { seen = _; looked = refl; unreplied = refl; idle = refl; unknown = refl },
                            (
                              record { seen = _; looked = refl; replied = refl },
                              (
                                record { own = refl; unknown = refl; earlier = λ k lt same. grind arith; positive = lit< tt; settled = refl; alone = λ map d used low high key a b. grind arith; answers = λ map. ap word_of (sym value); still = λ map. refl },
                                (
                                  record { seen = _; looked = refl; unreplied = refl; idle = refl; unknown = refl },
                                  (record { seen = _; looked = refl; replied = refl }, tt),
                                ),
                              ),
                            ),
                          ),
                        ),
                      ),
                    ),
                  ),
                ),
              ),
            ),
          ),
        ),
      ),
    ),
  );
  history = ap (λ a. with_replies a (reply_of nothing (Ins 1 5)) (reply_of nothing (Get 1))) value
      ∙ ap (λ b. with_replies (Val 5) b (reply_of nothing (Get 1))) added ∙ ap (with_replies (Val 5) New) absent;
}
