-- The walk of a transfer: which words it loads, how it goes on by them, and the thunk at its end.
use Rattle.std.specs.Prelude.{ℕ, ◌&&◌, Bool, true, false, not, cond, [], ◌∷◌, Option, None, Some}
use Rattle.agreement_core.specs.map_history.specs.declared.op.Op.{Op}
use Rattle.agreement_core.specs.body_terms.specs.Word.{value_of, is_free, is_spent}
use Rattle.agreement_core.specs.body_terms.specs.declared.thunk.Thunk.{Thunk}
use Rattle.agreement_core.specs.section_lines.specs.structure_laws.specs.Scene.{Readings}
use Rattle.account_laws.specs.Accounts.{lock_of, balance_of}
use Rattle.lock_walks.specs.try_lock.specs.Planning.{Planning}
use Rattle.lock_walks.specs.Way.{Way}
use Rattle.accounts.specs.Moves.{lower_of, upper_of, lower_after, upper_after}
use Rattle.accounts.specs.declared.transfer.Transfer.{Transfer}
use Rattle.accounts.specs.declared.walk.Found.{Found}
use Rattle.accounts.specs.declared.walk.Found.TheVariants.{Nothing, Lower, Balances, Locked, All}
use Rattle.accounts.specs.declared.walk.TransferWalk.{TransferWalk}

-- a lock with this word is free, and has versions left
abbrev pub is_open : ℕ → ℕ → Bool
is_open version_max word = is_free word && not (is_spent version_max word)

-- the two balances are loaded first, then the upper account's lock and the lower one's
abbrev pub next_place : (version_max lower upper : ℕ) → Found → Option ℕ
next_place version_max lower upper Nothing = Some (balance_of lower)
next_place version_max lower upper (Lower first) = Some (balance_of upper)
next_place version_max lower upper (Balances first second) = Some (lock_of upper)
next_place version_max lower upper (Locked first second inner) =
    cond (is_open version_max inner) (Some (lock_of lower)) None
next_place version_max lower upper (All first second inner outer) = None

-- what was found, with one word more
abbrev pub found_after : Found → ℕ → Found
found_after Nothing word = Lower word
found_after (Lower first) word = Balances first word
found_after (Balances first second) word = Locked first second word
found_after (Locked first second inner) word = All first second inner word
found_after (All first second inner outer) word = All first second inner outer

abbrev pub found_in : Found → Readings → Found
found_in found [] = found
found_in found (reading ∷ readings) = found_in (found_after found reading.1) readings

-- how many loads are left at most
abbrev pub loads_left : Found → ℕ
loads_left Nothing = 4
loads_left (Lower first) = 3
loads_left (Balances first second) = 2
loads_left (Locked first second inner) = 1
loads_left (All first second inner outer) = 0

-- the last word is that of a lock, which isn't open
abbrev pub is_refused : ℕ → Found → Bool
is_refused version_max (Locked first second inner) = not (is_open version_max inner)
is_refused version_max (All first second inner outer) = not (is_open version_max outer)
is_refused version_max _ = false

-- the thunk that moves the money, by the words of the balances and of the locks
abbrev pub thunk_by : Transfer → (lock request first second inner outer : ℕ) → Thunk
thunk_by t lock request first second inner outer = record {
  form = 1;
  request = request;
  lock = lock;
  word = outer;
  operands = first ∷ second ∷ lower_after t (value_of first) (value_of second)
      ∷ upper_after t (value_of first) (value_of second) ∷ lower_of t ∷ upper_of t ∷ inner ∷ 0 ∷ [];
}

abbrev pub thunk_of : Transfer → (lock request : ℕ) → Found → Thunk
thunk_of t lock request (All first second inner outer) = thunk_by t lock request first second inner outer
thunk_of t lock request _ = thunk_by t lock request 0 0 0 0

-- how a transfer plans: it has no marks and is never too far
abbrev pub transfer_planning : Transfer → Planning
transfer_planning t = record {
  serves = λ op. true;
  wants = λ layout op readings. next_place layout.version_max (lower_of t) (upper_of t) (found_in Nothing readings);
  is_far = λ layout op readings. false;
  is_mark = λ place. false;
  per_pair = 0;
}

-- the walk of a transfer that has loaded nothing
abbrev pub begun : Transfer → (version_max : ℕ) → Op → TransferWalk
begun t version_max op =
    record { transfer = t; lock = lock_of (lower_of t); version_max = version_max; op = op; found = Nothing }

-- the walk, as functions on its record
abbrev pub transfer_way : Way TransferWalk
transfer_way = record {
  planning = λ w. transfer_planning w.transfer;
  op = λ w. w.op;
  wants = λ w. next_place w.version_max (lower_of w.transfer) (upper_of w.transfer) w.found;
  fed = λ w word. record w { found = found_after w.found word };
  left = λ w. loads_left w.found;
  refused = λ w. is_refused w.version_max w.found;
  thunk = λ w request. thunk_of w.transfer w.lock request w.found;
}
